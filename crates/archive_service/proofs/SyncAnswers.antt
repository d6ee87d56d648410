-- What a sync promises, in the terms of a store that serves commands.
use Rattle.std.specs.Prelude.{⊤}
use Rattle.std.proofs.Common.{◌≡◌, ◌⊎◌, inl, inr, refl, sym, ◌∙◌, ap, ℕ, ◌+◌, ◌<◌, ◌^◌, length, Option, Some, None, Result, Ok, Err, arith}
use Rattle.std.proofs.lemmas.Bool.{cases_Bool}
use Rattle.blob_device.specs.Disk.{Disk, Key}
use Rattle.blob_device.specs.Timeline.{disk}
use Rattle.blob_device.specs.declared.device.Device as device
use Rattle.blob_device.specs.declared.runtime.RError.TheVariants as runtime
use Rattle.meta_store.specs.declared.error.Error.TheVariants as metadata
use Rattle.section_manager.specs.declared.journal.Error.TheVariants as journal
use Rattle.section_manager.specs.declared.sealed.AppendFactory.{AppendFactory}
use Rattle.segments.specs.Tails.{tail_held}
use Rattle.sealed_pages.specs.declared.page_blob.PageBlob.{PageBlob}
use Rattle.paired.specs.glob.Sections as glob
use Rattle.paired.specs.Crashes.{IsOwn}
use Rattle.paired.specs.Pair.{synced_length}
use Rattle.archives.specs.Archives.{IsArchive}
use Rattle.archives.specs.Changes.{Asked, outcome}
use Rattle.archives.specs.Commands.{Reopen, Start, Sync}
use Rattle.archives.specs.Filing.{Filing}
use Rattle.archives.specs.Opening.{HasNoVersion}
use Rattle.archives.specs.Prunable.{Prunable, Setup, filing_by}
use Rattle.archives.specs.Putting.{record_tail, value_tail}
use Rattle.archives.specs.Replies as reply
use Rattle.archives.specs.Syncing.{IsMoving, IsMovingBy, IsMovingIn}
use Rattle.archives.specs.Syncs.{IsSyncCause, Synced, Syncs}
use Rattle.archives.specs.declared.error.Error.{Error}
use Rattle.archives.specs.declared.error.Error.TheVariants.{Full, Journal, Mem, Metadata}
use Rattle.archive_service.specs.lemmas.Store.{Given, always_as, as_asked, held_moving, moving_held, rows_long_of, serving_by, st}
use Rattle.archives.specs.lemmas.put.Sync.{filing_then}
use Rattle.archive_service.specs.Causes.{Held, IsCause, IsCauseAnywhere, MustMove, MustMoveHeld, MustRefuse, MustRefuseAnywhere, RefusesAnywhere, RefusesPut}
use Rattle.archive_service.specs.Families.{family_of}
use Rattle.archive_service.specs.StoreCalls.{AnswerEnds, Answers}
use Rattle.archive_service.specs.PrunableKind.{Clears, HoldsSynced, IsQuiet, Learns, MayChange}
use Rattle.archive_service.specs.PrunableStore.{IsUsableStore, held_by, openable_serving}
use Rattle.archive_service.specs.declared.store.openable.Openable.TheVariants.{Open}
use Rattle.archive_service.proofs.StoreLemmas.{no_refusal, quiet_open}

-- where nothing is put, only a marker that has to move can refuse, of an open archive, and no put is refused
moving_only : {X Y Z : Type 0} → ⊥ ⊎ ((X × Y) × Z) → Y × Z
moving_only (inl puts) = absurd puts
moving_only (inr moves) = (moves.0.1, moves.1)

moving_held_only : {X Y Z W : Type 0} (c : Asked) → (c ≡ Reopen → ⊥) → ⊥ ⊎ (((X × Y) × Z) ⊎ ((c ≡ Reopen) × W)) → Y × Z
moving_held_only c never (inl puts) = absurd puts
moving_held_only c never (inr (inl moves)) = (moves.0.1, moves.1)
moving_held_only c never (inr (inr over)) = absurd (never over.0)

module _ {A V S D : Type 0} {gs : _} (p : Prunable A V (AppendFactory S) (PageBlob S gs)) (setup : Setup V) (valid : Type 0) (dev : device.Ghosts D) (a : A) (old : D)
    (usable : IsUsableStore p setup a dev.Tells (dev.opened old) (disk (dev.time old))) where
  -- ---- what the archive then is

  module _ (r : A) (new : D) (done : Synced p dev a r old new) (over : IsArchive (p.see r) p.buffers dev.Tells (dev.opened new) (disk (dev.time new))) where
    -- nothing is left to flush: of what was written by the sync, and of the rest as before
    tails : dev.Tells → (s : ℕ) → (record_tail (p.see r) s ≡ 0) × (value_tail (p.see r) s ≡ 0)
    tails t s = elim (cases_Bool ((p.see a).is_written s)) as (λ _. (record_tail (p.see r) s ≡ 0) × (value_tail (p.see r) s ≡ 0)) [
      | inl there ↦ done.flushed t s there
      | inr unwritten ↦
          let same = done.tracked.same s (λ there. cc (there, unwritten)) in
          let none = usable.flushed t s unwritten in
          (ap index_tail same.0.held ∙ none.0, ap glob.pending_held same.1.held ∙ none.1)
    ]
      where
        index_tail : Option (PageBlob S gs) → ℕ
        index_tail o = tail_held o

    pub sync_usable : ((x : V) → p.Accepts a x → p.Accepts r x) → IsUsableStore p setup r dev.Tells (dev.opened new) (disk (dev.time new))
    sync_usable accepts = record {
      usable = over;
      filing = filing_then setup.filing (filing_by p a) (filing_by p r) usable.filing done.filing;
      accepts = λ x allowed. accepts x (usable.accepts x allowed);
      write_buffer = ap (λ factory. factory.write_buffer) done.tracked.bounds.0.place.factory ∙ usable.write_buffer;
      value_buffer = ap (λ factory. factory.capacity) done.tracked.bounds.1.place.factory ∙ usable.value_buffer;
      flushed = λ t s unwritten. tails t s;
    }

    pub sync_holds : (f : Filing) → dev.Tells → HoldsSynced f setup.write_buffer setup.value_buffer (held_by p a) (held_by p r)
    sync_holds f t = record {
      rows = done.rows;
      bytes = done.values;
      settled = record {
        synced = λ s. over.unwritten s (done.none_written s) ∙ sym (rows_long_of p setup valid dev r new over t s);
        record_tail = λ s. (tails t s).0;
        value_tail = λ s. (tails t s).1;
      };
      stays = record { is_open = refl; floor = done.floor };
    }

module _ {A V S D : Type 0} {gs : _} (p : Prunable A V (AppendFactory S) (PageBlob S gs)) (setup : Setup V) (valid : Type 0) (dev : device.Ghosts D) (a : A) (old : D) (given : Given p setup valid dev a old) where
  -- ---- why it failed

  module _ (t : dev.Tells) (c : Asked) (moves : IsMovingIn (filing_by p a) (disk (dev.time old)) (st p setup valid dev a old given) → MustMove (filing_by p a) (st p setup valid dev a old given) (disk (dev.time old)) c)
      (moves_held : IsMovingBy (filing_by p a) (disk (dev.time old)) (λ s. length ((p.see a).rows s)) (synced_length (p.see a).pair) → MustMoveHeld (filing_by p a) (held_by p a) (disk (dev.time old)) (Some c)) where
    is_moving : IsMoving (p.see a) → IsMovingIn (filing_by p a) (disk (dev.time old)) (st p setup valid dev a old given)
    is_moving = (given.laws.state t).moving.0

    pub sync_cause : (before now : ℕ) (e : Error) → IsSyncCause (p.see a) before now e → IsCause (filing_by p a) (st p setup valid dev a old given) (Some c) (disk (dev.time old)) e
    sync_cause before now Mem why = tt
    sync_cause before now Full why = inr (moves (is_moving why.1), (given.laws.state t).version.0 why.0)
    sync_cause before now (Journal (journal.Runtime runtime.Fault)) why = tt
    sync_cause before now (Metadata (metadata.Runtime runtime.Fault)) why = inr (inr (moves (is_moving why.1)))
    sync_cause before now e why = absurd why

    pub sync_anywhere : (to : Disk) (before now : ℕ) (e : Error) → IsSyncCause (p.see a) before now e → IsCauseAnywhere (filing_by p a) (held_by p a) (Some c) (disk (dev.time old)) to e
    sync_anywhere to before now Mem why = tt
    sync_anywhere to before now Full why = inr (inr (moves_held (moving_held p setup valid dev a old given t (is_moving why.1)), (given.laws.state t).version.0 why.0))
    sync_anywhere to before now (Journal (journal.Runtime runtime.Fault)) why = tt
    sync_anywhere to before now (Metadata (metadata.Runtime runtime.Fault)) why = inr (inr (moves_held (moving_held p setup valid dev a old given t (is_moving why.1))))
    sync_anywhere to before now e why = absurd why

  -- where a marker had to move, the markers had a next version
  had_version : dev.Tells → ((p.see a).pair.store.version + 1 < 2 ^ 64) → HasNoVersion (filing_by p a).layout (disk (dev.time old)) → ⊥
  had_version t some none = omega (arith, some, (given.laws.state t).version.1 none)

  sync_lawful : dev.Tells → (r : A) (new : D) → Synced p dev a r old new → IsMovingIn (filing_by p a) (disk (dev.time old)) (st p setup valid dev a old given) × HasNoVersion (filing_by p a).layout (disk (dev.time old)) → ⊥
  sync_lawful t r new done must = had_version t (done.version ((given.laws.state t).moving.1 must.0)) must.1

  abbrev MovesHeld : Type 0
  MovesHeld = IsMovingBy (filing_by p a) (disk (dev.time old)) (λ s. length ((p.see a).rows s)) (synced_length (p.see a).pair)

  abbrev NoVersion : Type 0
  NoVersion = HasNoVersion (filing_by p a).layout (disk (dev.time old))

  sync_held : dev.Tells → (r : A) (new : D) → Synced p dev a r old new → MovesHeld × NoVersion → ⊥
  sync_held t r new done must = sync_lawful t r new done (held_moving p setup valid dev a old given t must.0, must.1)

  -- ---- the sync, and one that is started

  -- A command that syncs: it puts nothing, and has to move what a sync has to.
  record OnlySyncs (c : Asked) : Type 0 where
    pub changes : (q : Key) → IsOwn (filing_by p a).layout (λ _. ⊤) q → MayChange (filing_by p a) setup.write_buffer setup.value_buffer (family_of c) q
    pub is : (c ≡ Sync) ⊎ (c ≡ Start)
    pub no_reopen : c ≡ Reopen → ⊥
    pub moves : IsMovingIn (filing_by p a) (disk (dev.time old)) (st p setup valid dev a old given) → MustMove (filing_by p a) (st p setup valid dev a old given) (disk (dev.time old)) c
    pub moves_held : MovesHeld → MustMoveHeld (filing_by p a) (held_by p a) (disk (dev.time old)) (Some c)
    pub clears : (q : Key) → Clears (filing_by p a) setup.write_buffer setup.value_buffer (held_by p a) c q → ⊥
    pub loud : IsQuiet (filing_by p a) setup.write_buffer setup.value_buffer (held_by p a) c → ⊥
    pub must : MustRefuse (filing_by p a) (st p setup valid dev a old given) (disk (dev.time old)) c
        → IsMovingIn (filing_by p a) (disk (dev.time old)) (st p setup valid dev a old given) × NoVersion
    pub must_held : MustRefuseAnywhere (filing_by p a) (held_by p a) (disk (dev.time old)) c → MovesHeld × NoVersion
    pub refuses : (e : Error) → RefusesPut (filing_by p a) (st p setup valid dev a old given) c e → ⊥
    pub refuses_held : (e : Error) → RefusesAnywhere (filing_by p a) (held_by p a) c e → ⊥
    pub learns : (to : Disk) (next : Held) → HoldsSynced (filing_by p a) setup.write_buffer setup.value_buffer (held_by p a) next
        → Learns (filing_by p a) setup.write_buffer setup.value_buffer (held_by p a) (family_of c) (disk (dev.time old)) to next

  by_sync : OnlySyncs Sync
  by_sync = record { changes = λ q it. it; is = inl refl; no_reopen = λ is. cc is; moves = λ it. (refl, it); moves_held = λ it. (refl, it); clears = λ q both. both.1; loud = quiet_open; must = moving_only; must_held = moving_held_only Sync (λ is. cc is); refuses = λ e. no_refusal; refuses_held = λ e. no_refusal; learns = λ to next it. it }

  by_start : OnlySyncs Start
  by_start = record { changes = λ q it. it; is = inr refl; no_reopen = λ is. cc is; moves = λ it. (refl, it); moves_held = λ it. (refl, it); clears = λ q both. both.1; loud = quiet_open; must = moving_only; must_held = moving_held_only Start (λ is. cc is); refuses = λ e. no_refusal; refuses_held = λ e. no_refusal; learns = λ to next it. it }

  module _ (c : Asked) (acts : OnlySyncs c) (new : D) where
    either_ends : (result : Result A Error) → Syncs p dev a result old new → AnswerEnds (serving_by p setup valid dev (filing_by p a)) dev (Open a) c (outcome (λ r. (Open r, reply.Done)) result) old new
    either_ends (Ok r) syncs = (let changes = syncs.settles.changes c acts.is in record {
      usable = sync_usable p setup valid dev a old given.usable r new syncs.ends changes.ends.over changes.ends.alike.accepts;
      sound = changes.ends.sound;
      step = changes.ends.step;
      reopened = λ t sound is. absurd (acts.no_reopen is);
      allowed = λ t sound must. sync_lawful t r new syncs.ends (acts.must must);
      rest = λ t sound. (changes.ends.alike.leaves _ None _).1 (changes.ends.rest t sound);
      learns = λ t. acts.learns (disk (dev.time new)) (held_by p r) (sync_holds p setup valid dev a old given.usable r new syncs.ends changes.ends.over (filing_by p a) t);
      cleared = λ t q both. absurd (acts.clears q both);
      allowed_anywhere = λ t must. sync_held t r new syncs.ends (acts.must_held must);
    })
    either_ends (Err e) syncs = record {
      cause = λ t sound. sync_cause t c acts.moves acts.moves_held (dev.faults old) (dev.faults new) e syncs.ends.cause;
      unwritten = λ t sound refuses. absurd (acts.refuses e refuses);
      anywhere = λ t. sync_anywhere t c acts.moves acts.moves_held (disk (dev.time new)) (dev.faults old) (dev.faults new) e syncs.ends.cause;
      unwritten_anywhere = λ t refuses. absurd (acts.refuses_held e refuses);
      fault = (syncs.settles.changes c acts.is).ends;
    }

    either_at : (result : Result A Error) → Syncs p dev a result old new → Answers (serving_by p setup valid dev (filing_by p a)) dev (Open a) c (outcome (λ r. (Open r, reply.Done)) result) old new
    either_at result syncs =
        let changes = syncs.settles.changes c acts.is in
        record {
          moments = changes.moments;
          alone = λ t. always_as (dev.time old) (dev.time new) _ _ (λ x same q other. same q (λ own. other (acts.changes q own))) (changes.footprint.alone t);
          footprint = changes.footprint;
          quiet = λ t still. absurd (acts.loud still);
          ends = either_ends result syncs;
        }

    either_answers : (result : Result A Error) → Syncs p dev a result old new → Answers (openable_serving p setup valid) dev (Open a) c (outcome (λ r. (Open r, reply.Done)) result) old new
    either_answers result syncs = as_asked p setup valid dev a old given c (outcome (λ r. (Open r, reply.Done)) result) new (either_at result syncs)

  pub sync_answers : (new : D) (result : Result A Error) → Syncs p dev a result old new → Answers (openable_serving p setup valid) dev (Open a) Sync (outcome (λ r. (Open r, reply.Done)) result) old new
  sync_answers = either_answers Sync by_sync

  pub start_answers : (new : D) (result : Result A Error) → Syncs p dev a result old new → Answers (openable_serving p setup valid) dev (Open a) Start (outcome (λ r. (Open r, reply.Done)) result) old new
  start_answers = either_answers Start by_start
