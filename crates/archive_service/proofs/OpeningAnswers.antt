-- What an opening promises, in the terms of a store that serves commands: the first one, and a reopening.
use Rattle.std.proofs.Common.{◌≡◌, ◌⊎◌, inl, inr, refl, sym, ◌∙◌, ap, subst, ℕ, ◌≤◌, ◌^◌, List, [], ◌∷◌, length, map, Option, Some, None, Result, Ok, Err}
use Rattle.blob_device.specs.Counts.{Rose}
use Rattle.blob_device.specs.Disk.{Disk, Key, MayLeave, NothingPending, reads}
use Rattle.blob_device.specs.Footprint.{Footprint, NoBound}
use Rattle.blob_device.specs.Timeline.{Always, disk}
use Rattle.blob_device.specs.declared.device.Device as device
use Rattle.blob_device.specs.declared.runtime.RError.TheVariants as runtime
use Rattle.meta_store.specs.declared.error.Error.TheVariants as metadata
use Rattle.blob_device.specs.lemmas.Footprint.{footprint_wider}
use Rattle.archive_service.specs.lemmas.Store.{Given, always_as, lists_long_of, none_long, own, rows_long_of}
use Rattle.archives.specs.lemmas.Reopening.{none_beyond}
use Rattle.archives.specs.lemmas.init.Records.{one_markers}
use Rattle.meta_store.specs.lemmas.Uses.{IsReadable}
use Rattle.section_manager.specs.declared.journal.Error.TheVariants as journal
use Rattle.section_manager.specs.declared.sealed.AppendFactory.{AppendFactory}
use Rattle.sealed_pages.specs.declared.page_blob.PageBlob.{PageBlob}
use Rattle.paired.specs.Kept.{Markers}
use Rattle.paired.specs.Opening.{MayBeOpened, as_read}
use Rattle.archives.specs.Archives.{state_of}
use Rattle.archives.specs.Changes.{Asked, outcome}
use Rattle.archives.specs.Commands.{Reopen}
use Rattle.archives.specs.Filing.{Filing, kept_entries}
use Rattle.archives.specs.Lawful.{Lawful}
use Rattle.archives.specs.Machine.{State, Step}
use Rattle.archives.specs.Opening.{HasNoVersion, IsPastLimits, LeavesLawful, OfKept}
use Rattle.archives.specs.Opens.{HasToMove, IsLawfulCause, IsOpeningCause, MayBeKept, NotOpened, OfMarkers, Opened, Opens}
use Rattle.archives.specs.Outlasts.{MayStart}
use Rattle.archives.specs.Prunable.{Prunable, Setup}
use Rattle.archives.specs.Refusing.{IsFault}
use Rattle.archives.specs.Replies as reply
use Rattle.archives.specs.Rows.{row_in}
use Rattle.archives.specs.Standing.{IsStart, Leaves}
use Rattle.archives.specs.declared.error.Error.{Error}
use Rattle.archives.specs.declared.error.Error.TheVariants.{Full, Journal, Mem, Metadata, RecordCorrupted}
use Rattle.archive_service.specs.Causes.{Held, IsCause, IsCauseAnywhere, IsOpening, IsUnfit, MustMoveHeld, MustMoveNow, MustRefuseAnywhere, holding_nothing}
use Rattle.archive_service.specs.StoreCalls.{AnswerEnds, Answers, OpeningEnds, OpensStore}
use Rattle.archive_service.specs.PrunableKind.{IsFound, IsQuiet}
use Rattle.archive_service.specs.PrunableStore.{IsSoundOpenable, IsUsableStore, held_by, openable_held, openable_serving, openable_state}
use Rattle.archive_service.specs.Starts.{start_of, starts}
use Rattle.archive_service.specs.declared.store.openable.Openable.{Openable}
use Rattle.archive_service.specs.declared.store.openable.Openable.TheVariants.{Closed, Open}
use Rattle.archive_service.proofs.StoreLemmas.{leaves_as, no_refusal}

-- an opening before the first command is under way as none is
none_for_reopen : (f : Filing) (st : State (List ℕ)) (d : Disk) → Leaves f st (Some Reopen) d → Leaves f st None d
none_for_reopen f st d leaves = leaves_as f st (Some Reopen) None d (λ s. refl) (λ s going. going) leaves

map_twice : {X Y Z : Type 0} (g : Y → Z) (h : X → Y) (xs : List X) → map g (map h xs) ≡ map (λ x. g (h x)) xs
map_twice g h [] = refl
map_twice g h (x ∷ xs) = ap (λ ys. g (h x) ∷ ys) (map_twice g h xs)

-- what a lawful disk leaves is lawful
all_lawful : (f : Filing) (st : State (List ℕ)) (d : Disk) → Leaves f st None d → LeavesLawful f d
all_lawful f st d leaves image crash calm = (let stands = leaves image crash calm in (stands.markers, stands.lawful))

module _ {A V S D : Type 0} {gs : _} (p : Prunable A V (AppendFactory S) (PageBlob S gs)) (setup : Setup V) (valid : Type 0) (dev : device.Ghosts D) (old new : D) where
  abbrev f : Filing
  f = setup.filing

  abbrev from : Disk
  from = disk (dev.time old)

  abbrev to : Disk
  to = disk (dev.time new)

  -- ---- the archive that was opened

  module _ (r : A) (opened : Opened p dev setup r old new) where
    pub opened_usable : IsUsableStore p setup r dev.Tells (dev.opened new) to
    opened_usable = record {
      usable = opened.over;
      filing = opened.filing;
      accepts = λ v allowed. (opened.accepts v).1 allowed;
      write_buffer = opened.write_buffer;
      value_buffer = opened.value_buffer;
      flushed = λ t s unwritten. opened.flushed t s;
    }

    pub opened_found : 1 ≤ f.layout.record_size → dev.Tells → IsFound f setup.write_buffer setup.value_buffer from to (held_by p r)
    opened_found sized t =
        let told = opened.told t in
        let some_bytes = subst (λ (n : ℕ). 1 ≤ n) (sym opened.filing.record_size) sized in
        record {
          is_open = refl;
          floor = told.floor;
          rows = (
            told.records.0,
            told.records.1,
            λ s small. opened.over.listed t s ∙ ap (map (row_in (p.see r).key_size)) (told.records.2 s small)
                ∙ map_twice (row_in (p.see r).key_size) (λ e. e.stored) (kept_entries f (as_read from) told.records.0 s)
                ∙ ap (λ (n : ℕ). map (λ e. row_in n e.stored) (kept_entries f (as_read from) told.records.0 s)) opened.filing.key_size,
          );
          no_more = λ s far. none_long ((p.see r).rows s) (rows_long_of p setup valid dev r new opened.over t s ∙ sym (lists_long_of p setup valid dev r new s)
              ∙ ap length (none_beyond (p.see r) (dev.opened new) to some_bytes opened.over s far).0);
          bytes = told.values;
          settled = record {
            synced = λ s. opened.over.unwritten s (opened.none_written s) ∙ sym (rows_long_of p setup valid dev r new opened.over t s);
            record_tail = λ s. (opened.flushed t s).0;
            value_tail = λ s. (opened.flushed t s).1;
          };
        }

  -- what may be kept does not have to be refused
  kept_fit : MayBeKept f from → IsUnfit f from → ⊥
  kept_fit kept (inl bad) = kept.copies bad.0 bad.1
  kept_fit kept (inr (inl foreign)) = kept.names foreign.0 foreign.1
  kept_fit kept (inr (inr (inl stray))) = kept.in_section stray
  kept_fit kept (inr (inr (inr over))) = kept.within over

  kept_allowed : (held : Held) → MayBeKept f from → MustRefuseAnywhere f held from Reopen → ⊥
  kept_allowed held kept (inl puts) = puts
  kept_allowed held kept (inr (inl moves)) = kept.version moves.1 moves.0
  kept_allowed held kept (inr (inr unfit)) = kept_fit kept unfit.1

  -- ---- why it was not opened

  -- a fault is the device's
  pub opening_fault : (e : Error) → IsOpeningCause f dev old new e → IsFault e → Rose (dev.faults old) (dev.faults new)
  opening_fault e why (inl records) = subst (IsOpeningCause f dev old new) records why
  opening_fault e why (inr markers) = subst (IsOpeningCause f dev old new) markers why

  module _ (t : dev.Tells) (u : Option Asked) (opening : IsOpening u) (held : Held) where
    pub opening_anywhere : (moves : OfMarkers f from (HasToMove f from) → MustMoveHeld f held from u) → (e : Error) → IsOpeningCause f dev old new e → IsCauseAnywhere f held u from to e
    opening_anywhere moves Mem why = tt
    opening_anywhere moves (Journal (journal.Runtime runtime.Fault)) why = tt
    opening_anywhere moves (Metadata (metadata.Runtime runtime.Fault)) why = inl opening
    opening_anywhere moves (Metadata (metadata.Corruption side)) why = (opening, why t)
    opening_anywhere moves (Journal (journal.InvalidBlobName name)) why = (opening, why t)
    opening_anywhere moves (Journal (journal.Corruption x)) why = (opening, why t)
    opening_anywhere moves (Journal (journal.Runtime (runtime.InvalidChecksum k))) why = inl (opening, why t)
    opening_anywhere moves RecordCorrupted why = (opening, why t)
    opening_anywhere moves Full why = inr (elim (why t) as (λ _. (IsOpening u × OfKept f (as_read from) (IsPastLimits f.most_sections f.most_records)) ⊎ (MustMoveHeld f held from u × HasNoVersion f.layout from)) [
      | inl over ↦ inl (opening, over)
      | inr moving ↦ inr (moves moving.1, moving.0)
    ])
    opening_anywhere moves (Journal (journal.ItemOutOfRange n)) why = absurd (why t)
    opening_anywhere moves (Journal (journal.Codec x)) why = absurd (why t)
    opening_anywhere moves e why = absurd why

    pub opening_cause : (markers : Markers) → Lawful f (as_read from) markers → (st : State (List ℕ))
        → (moves : OfMarkers f from (HasToMove f from) → MustMoveNow f st from u) → (e : Error) → NotOpened p dev setup e old new → IsCause f st u from e
    opening_cause markers lawful st moves e failed = go e (failed.complete t markers lawful)
      where
        go : (x : Error) → IsLawfulCause f dev old new x → IsCause f st u from x
        go Mem why = tt
        go (Journal (journal.Runtime runtime.Fault)) why = tt
        go (Metadata (metadata.Runtime runtime.Fault)) why = inl opening
        go Full why = inr (moves why.1, why.0)
        go x why = absurd why

  -- blobs of others are left alone
  own_alone : (result : Result A Error) → Opens p dev setup result old new → Footprint dev (openable_serving p setup valid).kind.IsOwn NoBound old new
  own_alone result opens = footprint_wider dev _ _ _ NoBound old new (λ q own. own) (λ q n none. absurd none) opens.footprint

  -- ---- the first opening

  module _ (readable : IsReadable f.layout.markers) (sized : 1 ≤ f.layout.record_size) (may : dev.Tells → MayStart f from) where
    -- a start state by the markers that the lawful image has
    start_by : (lawful : (markers : Markers) × Lawful f (as_read from) markers) (st : State (List ℕ)) → ((markers : Markers) × IsStart f (as_read from) markers st) → IsStart f (as_read from) lawful.0 st
    start_by lawful st start =
        subst (λ (m : Markers). IsStart f (as_read from) m st) (one_markers f.layout readable (as_read from) start.0 lawful.0 start.1.held lawful.1.pair.held) start.1

    leaves_now : (t : dev.Tells) → NothingPending from → (lawful : (markers : Markers) × Lawful f (as_read from) markers) (st : State (List ℕ)) → IsStart f (as_read from) lawful.0 st → Leaves f st None from
    leaves_now t pending lawful st start = (may t).stands pending lawful.0 st lawful.1 start

    moments_so : (result : Result A Error) → Opens p dev setup result old new → (t : dev.Tells) → NothingPending from → (lawful : (markers : Markers) × Lawful f (as_read from) markers) (st : State (List ℕ))
        → ((markers : Markers) × IsStart f (as_read from) markers st) → Always (dev.time old) (dev.time new) (Leaves f st None)
    moments_so result opens t pending lawful st start =
        always_as (dev.time old) (dev.time new) (Leaves f st (Some Reopen)) (Leaves f st None) (none_for_reopen f st)
        ((opens.moments t ((may t).opened pending)).stands st (leaves_now t pending lawful st (start_by lawful st start)))

    open_ends : (result : Result A Error) → Opens p dev setup result old new → OpeningEnds (openable_serving p setup valid) dev (outcome Open result) old new
    open_ends (Ok r) opens = record {
      usable = opened_usable r opens.ends;
      sound = λ t pending lawful.
          let st = start_of f (as_read from) lawful.0 in
          let told = opens.ends.told t in
          let ready = (may t).opened pending in
          told.sound ready (all_lawful f _ to (told.rest ready st (leaves_now t pending lawful st (starts f (as_read from) lawful.0 lawful.1))));
      start = λ t pending lawful. (lawful.0, (opens.ends.told t).start lawful.0 lawful.1);
      allowed = λ t pending lawful must. elim must as (λ _. ⊥) [ inl adds ↦ adds | inr moves ↦ (opens.ends.told t).kept.version moves.1 moves.0 ];
      rest = λ t pending lawful.
          let st = start_of f (as_read from) lawful.0 in
          (opens.ends.told t).rest ((may t).opened pending) st (leaves_now t pending lawful st (starts f (as_read from) lawful.0 lawful.1));
      found = opened_found r opens.ends sized;
      allowed_anywhere = λ t. kept_allowed holding_nothing (opens.ends.told t).kept;
    }
    open_ends (Err e) opens = record {
      cause = λ t pending lawful st start. opening_cause t None tt holding_nothing lawful.0 lawful.1 st (λ moving. moving) e opens.ends;
      anywhere = λ t held. opening_anywhere t None tt held (λ moving. moving) e opens.ends.cause;
      fault = opening_fault e opens.ends.cause;
    }

    pub open_answers : (result : Result A Error) → Opens p dev setup result old new → OpensStore (openable_serving p setup valid) dev (outcome Open result) old new
    open_answers result opens = record {
      moments = moments_so result opens;
      footprint = own_alone result opens;
      ends = open_ends result opens;
    }

  -- ---- a reopening

  -- Of an archive that is open or closed, over a disk that may be opened where it is sound, and of whose state each crash leaves what it may.
  module _ (x : Openable A) (ready : dev.Tells → IsSoundOpenable p setup x from → MayBeOpened f.layout from)
      (stands : dev.Tells → IsSoundOpenable p setup x from → Leaves f (openable_state p setup x from) None from)
      (none_synced : (s : ℕ) → 2 ^ 64 ≤ s → (openable_state p setup x from).synced s ≡ 0)
      (sized : 1 ≤ f.layout.record_size) (law : dev.Tells → (q : Key) → MayLeave (from q) (reads (from q))) where
    abbrev was : State (List ℕ)
    was = openable_state p setup x from

    abbrev known : Held
    known = openable_held p setup x

    lawful_before : dev.Tells → IsSoundOpenable p setup x from → (markers : Markers) × Lawful f (as_read from) markers
    lawful_before t sound = all_lawful f was from (stands t sound) (as_read from) (law t) (ready t sound).no_chance

    reopen_ends : (result : Result A Error) → Opens p dev setup result old new → AnswerEnds (openable_serving p setup valid) dev x Reopen (outcome (λ r. (Open r, reply.Done)) result) old new
    reopen_ends (Ok r) opens = record {
      usable = opened_usable r opens.ends;
      sound = λ t sound.
          let told = opens.ends.told t in
          told.sound (ready t sound) (all_lawful f _ to (told.rest (ready t sound) was (stands t sound)));
      step = λ t sound.
          let told = opens.ends.told t in
          subst (λ (n : ℕ). Step n was Reopen reply.Done (state_of (p.see r) to)) opens.ends.filing.items
          (told.step (ready t sound) was (stands t sound) none_synced);
      reopened = λ t sound is. (let lawful = lawful_before t sound in (lawful.0, (opens.ends.told t).start lawful.0 lawful.1));
      allowed = λ t sound must. elim must as (λ _. ⊥) [ inl adds ↦ adds | inr moves ↦ (opens.ends.told t).kept.version moves.1 moves.0 ];
      rest = λ t sound. (opens.ends.told t).rest (ready t sound) was (stands t sound);
      learns = opened_found r opens.ends sized;
      cleared = λ t q both. absurd both.1;
      allowed_anywhere = λ t. kept_allowed known (opens.ends.told t).kept;
    }
    reopen_ends (Err e) opens = record {
      cause = λ t sound. (let lawful = lawful_before t sound in opening_cause t (Some Reopen) refl known lawful.0 lawful.1 was (λ moving. moving) e opens.ends);
      unwritten = λ t sound refuses. absurd (no_refusal refuses);
      anywhere = λ t. opening_anywhere t (Some Reopen) refl known (λ moving. moving) e opens.ends.cause;
      unwritten_anywhere = λ t refuses. absurd (no_refusal refuses);
      fault = opening_fault e opens.ends.cause;
    }

    never_quiet : IsQuiet f setup.write_buffer setup.value_buffer known Reopen → ⊥
    never_quiet (inl closed) = closed.1 refl
    never_quiet (inr still) = still

    reopen_by : (result : Result A Error) → Opens p dev setup result old new → Answers (openable_serving p setup valid) dev x Reopen (outcome (λ r. (Open r, reply.Done)) result) old new
    reopen_by result opens = record {
      moments = λ t sound. (opens.moments t (ready t sound)).stands was (stands t sound);
      alone = opens.footprint.alone;
      footprint = own_alone result opens;
      quiet = λ t still. absurd (never_quiet still);
      ends = reopen_ends result opens;
    }

  module _ (sized : 1 ≤ f.layout.record_size) (law : dev.Tells → (q : Key) → MayLeave (from q) (reads (from q)))
      (result : Result A Error) (opens : Opens p dev setup result old new) where
    -- an open one is given up as it is
    pub reopen_answers : (a : A) → Given p setup valid dev a old → Answers (openable_serving p setup valid) dev (Open a) Reopen (outcome (λ r. (Open r, reply.Done)) result) old new
    reopen_answers a given =
        let same = own p setup valid dev a old given in
        reopen_by (Open a) (λ t sound. subst (λ (h : Filing). MayBeOpened h.layout from) same (given.laws.opened t sound))
        (λ t sound. subst (λ (h : Filing). Leaves h (state_of (p.see a) from) None from) same (given.laws.leaves t sound))
        given.laws.none_synced sized law result opens

    -- a closed one keeps nothing
    pub closed_reopens : (floor : ℕ) → Answers (openable_serving p setup valid) dev (Closed floor) Reopen (outcome (λ r. (Open r, reply.Done)) result) old new
    closed_reopens floor = reopen_by (Closed floor) (λ t sound. sound.opened) (λ t sound. sound.leaves) (λ s far. refl) sized law result opens
