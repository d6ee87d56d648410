-- How an opening of a cache ends.
use Rattle.std.specs.Prelude.{◌≡◌, ◌≢◌, ◌⊎◌, ℕ, ◌-◌, ◌^◌, ◌<◌, ◌≤◌, Bool, false, List, [], length, map, cond, nat_eq, string_bytes, Option, None, Some, IsSome, IsSomeAnd, is_some, Result, Ok, Err}
use Rattle.std.specs.List.{IsDistinct}
use Rattle.std.specs.Result.{IsErrOf}
use Rattle.std.proofs.Common.{inl, inr, ⊎_elim, refl, sym, ap, ◌∙◌, subst, arith}
use Rattle.std.proofs.lemmas.Bool.{cases_lt, false_from_ne_true}
use Rattle.blob_device.specs.Counts.{Rose}
use Rattle.blob_device.specs.Disk.{Key, AbsentIsNothing, Disk, MayLeave, longest, reads}
use Rattle.blob_device.specs.Footprint.{Footprint, NoBound}
use Rattle.blob_device.specs.Timeline.{Always, Each, disk}
use Rattle.blob_device.specs.declared.device.Device as device
use Rattle.blob_device.specs.declared.runtime.RError.TheVariants as runtime
use Rattle.blob_device.specs.lemmas.Moments.{always_now, always_start, always_then, always_weaker}
use Rattle.blob_device.proofs.general.Options.{none_or_value}
use Rattle.sealed_pages.specs.Buffer.{size_of}
use Rattle.sealed_pages.specs.Reading.{Unchanged}
use Rattle.sealed_pages.specs.Shown.{shown}
use Rattle.sealed_pages.specs.declared.page_blob.PageBlob.{PageBlob}
use Rattle.sealed_pages.specs.declared.pages.Pages.{Pages}
use Rattle.sealed_pages.specs.lemmas.looking.Looking.{unchanged_start}
use Rattle.section_manager.specs.Lasting.{IsSettling}
use Rattle.section_manager.specs.Refusing.{IsForeign}
use Rattle.section_manager.specs.Sections.{Sections, key_of, section_key, IsHeld, IsKeyOf}
use Rattle.section_manager.specs.Setting.{Setting}
use Rattle.section_manager.specs.declared.buffer.SectionBuffer as buffer
use Rattle.section_manager.specs.declared.journal.Error.{Error}
use Rattle.section_manager.specs.declared.journal.Error.TheVariants.{InvalidBlobName, Mem, Runtime}
use Rattle.section_manager.specs.declared.sealed.AppendFactory.{AppendFactory}
use Rattle.segments.specs.FixedLists.{Lists}
use Rattle.segments.specs.FixedOpens as bytes
use Rattle.segments.specs.FixedReplay.{Walk, Begins, kept_of}
use Rattle.segments.specs.lemmas.adding.Adding.{error_is}
use Rattle.segments.specs.lemmas.adding.Write.{ArePages}
use Rattle.value_codec.specs.declared.codec.Error as codec
use Rattle.variable_journal.specs.Advancing as replay
use Rattle.variable_journal.specs.Advancing.{HasGone, IsGoing}
use Rattle.variable_journal.specs.Finishing.{BeginsFrames, Finishes}
use Rattle.variable_journal.specs.Frames.{items_of, rest_of, HasBadLength}
use Rattle.variable_journal.specs.Opening as journal
use Rattle.variable_journal.specs.Replaying.{given_bytes}
use Rattle.variable_journal.specs.declared.journal.Config as variable
use Rattle.cache_store.specs.Caches.{Cache, IsSound, bytes_in, state_of}
use Rattle.cache_store.specs.Changes.{IsFailure, MayUse}
use Rattle.cache_store.specs.Config.{IsJournalOf, layout_of, refusal_of}
use Rattle.cache_store.specs.Holding.{indices_of, offsets_of}
use Rattle.cache_store.specs.Kept.{IsStart, Layout, Lawful, sealed_bytes}
use Rattle.cache_store.specs.Machine.{Reopen, State}
use Rattle.cache_store.specs.Opens.{NotOpened, Opens}
use Rattle.cache_store.specs.Records.{entry_of}
use Rattle.cache_store.specs.Refusals.{AreOwn, IsRefusal}
use Rattle.cache_store.specs.Reopening.{KeepsRecords, MayOpen, NothingPending, as_read}
use Rattle.cache_store.specs.Replayed.{AreEntered, HasEntered, HasNotEntered, IsEnteringCause}
use Rattle.cache_store.specs.Standing.{Keeps, Leaves, wanted_of}
use Rattle.cache_store.specs.declared.config.Config.{Config}
use Rattle.cache_store.specs.declared.held.Held.{Held}
use Rattle.cache_store.proofs.EndLemmas.{failed_of, rose_of}
use Rattle.cache_store.proofs.LawfulLemmas.{lawful_none}
use Rattle.cache_store.proofs.MayOpenLemmas.{may_start, names_stand, read_stands, reopened, section_stands}
use Rattle.cache_store.proofs.OpeningLemmas.{given_sealed, held_back, items_back, key_back, none_bad, opened_over, opened_start, paged_so, sealed_there, settled_first}
use Rattle.cache_store.proofs.OpeningMoments.{Stays, first_named, first_stays, none_left, replay_named, replay_stays, stays_keeps, stays_leave, still_named}
use Rattle.cache_store.proofs.RefusalLemmas.{none_refused, refused_alike}
use Rattle.cache_store.proofs.ReopenLemmas.{may_open_again}
use Rattle.cache_store.proofs.SyncedLemmas.{Reads}

-- a failure of a call that came later
failure_since : (e : Error) (a b now : ℕ) → a ≤ b → IsFailure b now e → IsFailure a now e
failure_since e a b now le failure = elim failure [ inl mem ↦ inl mem | inr fault ↦ inr (fault.0, omega (arith, le, fault.1)) ]

-- a replay begins over its own journal
pub begins_own : {F B : Type 0} (j : Lists F B) (s p : ℕ) (w : Walk F B) → Begins j s p w → Begins w.journal s p w
begins_own j s p w begins = record {
  journal = refl;
  section = begins.section;
  position = begins.position;
  first = begins.first;
  between = begins.between;
  whole = begins.whole;
  going = begins.going;
}

-- What a device that tells its disk promises of each blob: one that is not there has no bytes, and a crash may leave each as it reads.
pub record IsKept {D : Type 0} (dev : device.Ghosts D) (old : D) : Type 0 where
  pub absent : dev.Tells → (q : Key) → AbsentIsNothing (disk (dev.time old) q)
  pub as_read : dev.Tells → (q : Key) → MayLeave (disk (dev.time old) q) (reads (disk (dev.time old) q))

module _ {S C D : Type 0} {gs : _} (g : buffer.Ghosts (PageBlob S gs)) (gives : AppendFactory S → Setting) (dev : device.Ghosts D) (seal : List ℕ → ℕ) (refusal : List ℕ → C → Option codec.Error) (cfg : Config C)
    (old : D) (tells : IsKept dev old) where
  abbrev l : Layout
  l = layout_of seal refusal cfg

  abbrev from : Disk
  from = disk (dev.time old)

  -- it refused, or failed
  abbrev Refused : D → Error → Type 0
  Refused now e = Opens g gives dev seal refusal cfg old now (Err e) (Err e)

  -- a lawful image with nothing pending may be opened
  begun : dev.Tells → NothingPending l from → Lawful l (as_read from) → (st : State (List ℕ)) → IsStart l (as_read from) st → MayOpen l st from
  begun t pending lawful st start = may_start l from pending (tells.absent t) lawful st start

  -- what crashes leave up to a moment
  pub record Left (now : D) : Type 0 where
    pub moments : dev.Tells → (st : State (List ℕ)) → MayOpen l st from → Always (dev.time old) (dev.time now) (Leaves l (wanted_of l.items st (Some Reopen)))
    pub keeps : dev.Tells → NothingPending l from → Always (dev.time old) (dev.time now) (KeepsRecords l (as_read from))

  -- a section's blob stays so, and no other name's
  record Stay (d : Disk) : Type 0 where
    pub sections : (s : ℕ) → s < 2 ^ 64 → Stays l from s (d (section_key l.partition s))
    pub names : (name : List ℕ) → length name ≢ 8 → d (l.partition, name) ≡ from (l.partition, name)

  stay_left : (now : D) → (dev.Tells → Always (dev.time old) (dev.time now) Stay) → Left now
  stay_left now stays = record {
    moments = λ t st may. always_weaker _ _ _ _ (λ d stay. stays_leave l from (wanted_of l.items st (Some Reopen)) (read_stands l from st may (tells.as_read t)) (section_stands l from st may (tells.as_read t))
        (names_stand l from st may (tells.as_read t)) d stay.names stay.sections) (stays t);
    keeps = λ t pending. always_weaker _ _ _ _ (λ d stay. stays_keeps l from pending d stay.sections) (stays t);
  }

  -- while the journal is opened
  settling : (most : ℕ) (d : Disk) → Each (IsSettling l.partition most from) d → Stay d
  settling most d each = record { sections = λ s small. first_stays l from most d each s; names = first_named l from most d each }

  -- it refused nothing yet: no memory, or a fault
  failed_so_far : (e : Error) (now : D) → (dev.Tells → (name : List ℕ) → IsForeign from l.partition name → Unchanged (dev.time old) (dev.time now) × (dev.opened now ≡ dev.opened old))
      → IsFailure (dev.faults old) (dev.faults now) e → NotOpened g gives dev l old now e
  failed_so_far e now untouched failure = record {
    untouched = untouched;
    cause = λ t. inr (inr failure);
    first = λ t name foreign. inr failure;
    complete = λ t lawful. failure;
    fault = rose_of e (dev.faults old) (dev.faults now) failure;
  }

  -- in a lawful image each name is a section's
  none_foreign : Lawful l (as_read from) → (name : List ℕ) → IsForeign from l.partition name → ⊥
  none_foreign lawful name foreign = foreign.size (lawful.names name (from (l.partition, name)).content
      (ap (λ (t : Bool). cond t (Some (from (l.partition, name)).content) None) foreign.there))

  -- and no section has anything that is refused
  unrefused : Lawful l (as_read from) → (e : Error) → IsRefusal l.items l.refusal (sealed_bytes l (as_read from)) e → ⊥
  unrefused lawful e is = none_refused l.items l.refusal (sealed_bytes l (as_read from)) e
      (λ s small. (lawful.sections s small).lengths) (λ s small. record { decoded = (lawful.sections s small).decoded; in_section = (lawful.sections s small).in_section }) is

  -- there was no memory for the journal's configuration
  pub not_begun : (e : Error) → e ≡ Mem → Refused old e
  not_begun e is = record {
    begins = begun;
    moments = (here e).moments;
    keeps = (here e).keeps;
    footprint = record { alone = λ t. always_start (dev.time old) _ (λ q other. refl); entries = λ q other. refl; reads = λ q n most. absurd most; faults = omega arith };
    config = tt;
    ends = failed_so_far e old (λ t name foreign. (unchanged_start (dev.time old), refl)) (inl is);
  }
    where
      here : Error → Left old
      here e = stay_left old (λ t. always_start (dev.time old) _ (settling 0 from (λ q. inl refl)))

  -- What the opening of the bytes of the journal did.
  abbrev BytesOpen : Result (Lists (AppendFactory S) (PageBlob S gs)) Error → D → Type 0
  BytesOpen result a = bytes.Opens g gives seal 1 l.partition cfg.pages cfg.write_buffer (2 ^ 64 - 1) dev result old a

  -- by the journal's configuration
  bytes_opened : (config : variable.Config C) → IsJournalOf cfg config → (result : Result (Lists (AppendFactory S) (PageBlob S gs)) Error) (a : D)
      → bytes.Opens g gives seal 1 (string_bytes config.partition) config.pages config.write_buffer (2 ^ 64 - 1) dev result old a → BytesOpen result a
  bytes_opened config is result a opened = subst (λ (p : List ℕ). bytes.Opens g gives seal 1 p cfg.pages cfg.write_buffer (2 ^ 64 - 1) dev result old a) is.partition
      (subst (λ (x : Pages). bytes.Opens g gives seal 1 (string_bytes config.partition) x cfg.write_buffer (2 ^ 64 - 1) dev result old a) is.pages
      (subst (λ (n : ℕ). bytes.Opens g gives seal 1 (string_bytes config.partition) config.pages n (2 ^ 64 - 1) dev result old a) is.write_buffer opened))

  -- The journal was opened, and a replay of it begun.
  pub record HasBegun (w : Walk (AppendFactory S) (PageBlob S gs)) (kept : C) (a : D) : Type 0 where
    pub opens : BytesOpen (Ok w.journal) a
    pub begins : Begins w.journal 0 0 w
    pub config : kept ≡ cfg.codec_config

  pub has_begun : (config : variable.Config C) → IsJournalOf cfg config → (j : Lists (AppendFactory S) (PageBlob S gs)) (own : C) (before : D)
      → journal.Opens g gives seal (string_bytes config.partition) config.pages config.write_buffer dev (Ok j) config.codec_config (Ok own) old before
      → (w : Walk (AppendFactory S) (PageBlob S gs)) (kept : C) (a : D) → BeginsFrames g gives seal own dev j 0 0 (Ok w) (Ok kept) before a → HasBegun w kept a
  has_begun config is j own before opened w kept a begun = record {
    opens = subst (λ (x : Lists (AppendFactory S) (PageBlob S gs)). BytesOpen (Ok x) a) (sym begun.begins.journal)
        (subst (λ (x : D). BytesOpen (Ok j) x) (sym begun.unchanged) (bytes_opened config is (Ok j) before opened.bytes));
    begins = begins_own j 0 0 w begun.begins;
    config = begun.same_config ∙ opened.config ∙ is.codec_config;
  }

  module _ (a : D) where
    module _ (result : Result (Lists (AppendFactory S) (PageBlob S gs)) Error) (opens : BytesOpen result a) where
      opening_stays : dev.Tells → Always (dev.time old) (dev.time a) Stay
      opening_stays t = always_weaker _ _ _ _ (settling (2 ^ 64 - 1)) (opens.moments t)

      opening_footprint : Footprint dev (λ q. q.0 ≡ l.partition) NoBound old a
      opening_footprint = record {
        alone = λ t. always_weaker _ _ _ _ (λ d each q other. ⊎_elim (λ same. same) (λ is. absurd (other (ap (λ (k : Key). k.0) is.2))) (each q)) (opens.moments t);
        entries = λ q other. opens.entries q (λ s le is. other (ap (λ (k : Key). k.0) is));
        reads = λ q n most. absurd most;
        faults = opens.faults;
      }

    -- the journal was not opened
    pub not_opened : (config : variable.Config C) → IsJournalOf cfg config → (e : Error) (kept : Result C Error)
        → journal.Opens g gives seal (string_bytes config.partition) config.pages config.write_buffer dev (Err e) config.codec_config kept old a → Refused a e
    not_opened config is e kept opened = record {
      begins = begun;
      moments = (stay_left a (opening_stays (Err e) opens)).moments;
      keeps = (stay_left a (opening_stays (Err e) opens)).keeps;
      footprint = opening_footprint (Err e) opens;
      config = tt;
      ends = elim opens.cause [ inl named ↦ named_so named.0 named.1 | inr has ↦ failed_so_far e a untouched (failed_of (Err e) (dev.faults old) (dev.faults a) e refl has) ];
    }
      where
        opens : BytesOpen (Err e) a
        opens = bytes_opened config is (Err e) a opened.bytes

        untouched : dev.Tells → (name : List ℕ) → IsForeign from l.partition name → Unchanged (dev.time old) (dev.time a) × (dev.opened a ≡ dev.opened old)
        untouched t name foreign = (opens.foreign_disk t name foreign, opens.foreign_entries t name foreign)

        named_so : (n : List ℕ) → IsErrOf {T = Lists (AppendFactory S) (PageBlob S gs)} (Err e) (InvalidBlobName n) → NotOpened g gives dev l old a e
        named_so n is = record {
          cause = λ t. inl (n, error_is e _ is, opens.named t n is);
          first = λ t name foreign. inl (n, error_is e _ is);
          untouched = untouched;
          complete = λ t lawful. absurd (none_foreign lawful n (opens.named t n is));
          fault = λ at. (let named = error_is e _ is in absurd (cc (named, at)));
        }

    -- The journal was opened, and a replay of it went on to k.
    module _ (are : ArePages g seal) (papers : (f : AppendFactory S) → (gives f).page_size ≡ f.pages.page_size) (w : Walk (AppendFactory S) (PageBlob S gs)) (kept : C) (did_begin : HasBegun w kept a) (b : D) where
      opens : BytesOpen (Ok w.journal) a
      opens = did_begin.opens

      readers : Reads g
      readers = record { sized = are.page_size; settled = are.settled; count = are.count; bytes = are.bytes }

      number : (s : ℕ) → IsHeld w.journal.sections s → s < 2 ^ 64
      number s held = opens.over.over.opened_list.number s (inl held)

      paged_here : (s : ℕ) (u : PageBlob S gs) → w.journal.sections.held s ≡ Some u → u.page_size ≡ l.page_size
      paged_here = paged_so g gives readers papers are.unsettled dev l cfg.pages refl cfg.write_buffer old a w opens

      settled_here : (s : ℕ) (u : PageBlob S gs) → w.journal.sections.held s ≡ Some u → u.settled ≡ size_of (shown u)
      settled_here = settled_first g gives readers papers are.unsettled dev l cfg.pages refl cfg.write_buffer old a w opens

      own_key : (P : ℕ → Type 0) (q : Key) → IsKeyOf w.journal.sections P q → q.0 ≡ l.partition
      own_key P q is = ap (λ (k : Key). k.0) is.2 ∙ opens.partition

      -- what is given is what the image keeps; past the last section there is nothing
      given_or : dev.Tells → (s : ℕ) → ((s < 2 ^ 64) × (given_bytes l.seal w (disk (dev.time a)) s ≡ sealed_bytes l (as_read from) s)) ⊎ (given_bytes l.seal w (disk (dev.time a)) s ≡ [])
      given_or t s = elim (cases_lt s (2 ^ 64)) [
        | inl small ↦ inl (small, given_sealed g gives readers papers are.unsettled dev l cfg.pages refl cfg.write_buffer old a w opens t s small)
        | inr large ↦ inr (elim (none_or_value (w.journal.sections.held s)) [
          | inl none ↦ ap (λ (o : Option (PageBlob S gs)). kept_of l.seal (w.journal.unrecovered s) o (disk (dev.time a) (key_of w.journal.sections s)).content) none
          | inr some ↦ absurd (let less = number s (ap is_some some.1) in omega (arith, less, large))
        ])
      ]

      module _ (k : Walk (AppendFactory S) (PageBlob S gs)) (keeps : replay.Keeps g gives l.seal dev w k a b) where
        replay_left : Left b
        replay_left = stay_left b (λ t. always_then (dev.time old) (dev.time a) (dev.time b) _ (opening_stays (Ok w.journal) opens t) (always_weaker _ _ _ _ (λ d each. record {
          sections = λ s small. replay_stays l from w (2 ^ 64 - 1) (disk (dev.time a)) (always_now _ _ _ (opens.moments t)) opens.partition number paged_here settled_here
              (sealed_there g gives readers papers are.unsettled dev l cfg.pages refl cfg.write_buffer old a w opens t) s small d each;
          names = replay_named l from w (2 ^ 64 - 1) (disk (dev.time a)) (always_now _ _ _ (opens.moments t)) opens.partition number paged_here settled_here d each;
        }) (keeps.moments t)))

        replay_footprint : Footprint dev (λ q. q.0 ≡ l.partition) NoBound old b
        replay_footprint = (let first = opening_footprint (Ok w.journal) opens in record {
          alone = λ t. always_then (dev.time old) (dev.time a) (dev.time b) _ (first.alone t)
              (always_weaker _ _ _ _ (λ d each q other. ⊎_elim
              (λ replaying. replaying.others (λ is. other (own_key _ q is)))
              (λ cut. absurd (other (ap (λ (x : Key). x.0) cut.key ∙ opens.partition))) (each q) ∙ always_now _ _ _ (first.alone t) q other) (keeps.moments t));
          entries = λ q other. keeps.entries q (λ is. other (own_key _ q is)) ∙ first.entries q other;
          reads = λ q n most. absurd most;
          faults = omega (arith, first.faults, keeps.faults);
        })

        -- a record was refused, or the replay failed
        failed_so : (e : Error) → (dev.Tells → IsEnteringCause l.items l.refusal (given_bytes l.seal w (disk (dev.time a))) (dev.faults a) (dev.faults b) e)
            → (e ≡ Runtime runtime.Fault → Rose (dev.faults a) (dev.faults b)) → Refused b e
        failed_so e cause fault = record {
          begins = begun;
          moments = replay_left.moments;
          keeps = replay_left.keeps;
          footprint = replay_footprint;
          config = tt;
          ends = record {
            cause = λ t. inr (why t (cause t));
            first = λ t name foreign. absurd (opens.foreign t name foreign);
            untouched = λ t name foreign. absurd (opens.foreign t name foreign);
            complete = λ t lawful. elim (why t (cause t)) [ inl is ↦ absurd (unrefused lawful e is) | inr failure ↦ failure ];
            fault = λ is. (let rose = fault is in omega (arith, rose, opens.faults));
          };
        }
          where
            why : dev.Tells → IsEnteringCause l.items l.refusal (given_bytes l.seal w (disk (dev.time a))) (dev.faults a) (dev.faults b) e
                → IsRefusal l.items l.refusal (sealed_bytes l (as_read from)) e ⊎ IsFailure (dev.faults old) (dev.faults b) e
            why t is = elim is [
              | inl refused ↦ inl (refused_alike l.items l.refusal (given_bytes l.seal w (disk (dev.time a))) (sealed_bytes l (as_read from)) (given_sealed g gives readers papers are.unsettled dev l cfg.pages refl cfg.write_buffer old a w opens t) e refused)
              | inr failure ↦ inr (failure_since e (dev.faults old) (dev.faults a) (dev.faults b) opens.faults failure)
            ]

      pub not_entered : (k : Walk (AppendFactory S) (PageBlob S gs)) (e : Error) → HasNotEntered g gives seal dev l.items (refusal_of refusal kept) w k a b e → Refused b e
      not_entered k e did = failed_so k did.keeps e
          (subst (λ (x : C). dev.Tells → IsEnteringCause l.items (refusal_of refusal x) (given_bytes seal w (disk (dev.time a))) (dev.faults a) (dev.faults b) e) did_begin.config did.cause) did.fault

      -- All was entered, and the journal given back.
      module _ (k : Walk (AppendFactory S) (PageBlob S gs)) (gone : HasGone g gives l.seal dev w k a b) (over : IsGoing g gives l.seal dev k b) (going : k.ended ≡ false)
          {V : Type 0} (spelling : V → List ℕ) (accepted : V → C → Type 0) (config now : C) (j : Lists (AppendFactory S) (PageBlob S gs)) (finish : Finishes l.seal spelling accepted config k (Ok j) (Ok now))
          (start : w.start_section ≡ 0) (position : w.start_position ≡ 0) (valid : 1 ≤ l.items) (known : now ≡ cfg.codec_config) (lay : Layout) (same : lay ≡ l) (offsets : ℕ → Option ℕ) (indices : ℕ → Bool)
          (tied : (i : ℕ) → indices i ≡ is_some (offsets i)) (written : ℕ → Option ℕ) (none_written : (s : ℕ) → written s ≡ None)
          (entered : dev.Tells → AreEntered l.items l.refusal (given_bytes l.seal w (disk (dev.time a))) offsets) where
        abbrev whole : Cache (AppendFactory S) (PageBlob S gs)
        whole = record { journal = j; layout = l; offsets = offsets; indices = indices; written = written; floor = 0 }

        entered_items : dev.Tells → (s : ℕ) → items_of (bytes_in whole (disk (dev.time b)) s) ≡ items_of (given_bytes l.seal w (disk (dev.time a)) s)
        entered_items = items_back g gives readers papers are.unsettled dev l cfg.pages refl cfg.write_buffer old a w opens b k gone over going spelling accepted config now j finish start position

        -- nothing was to be refused
        none_to_refuse : dev.Tells → (e : Error) → IsRefusal l.items l.refusal (sealed_bytes l (as_read from)) e → ⊥
        none_to_refuse t e is = none_refused l.items l.refusal (sealed_bytes l (as_read from)) e
            (λ s small bad. none_bad g gives readers papers are.unsettled dev l cfg.pages refl cfg.write_buffer old a w opens b k gone over going spelling accepted config now j finish start position t s
            (subst (λ (xs : List ℕ). HasBadLength (rest_of xs)) (sym (sealed_here t s small)) bad))
            (λ s small. subst (λ (xs : List ℕ). AreOwn l.items l.refusal s (items_of xs)) (sealed_here t s small) ((entered t).own s)) is
          where
            sealed_here : (t : dev.Tells) (s : ℕ) → s < 2 ^ 64 → given_bytes l.seal w (disk (dev.time a)) s ≡ sealed_bytes l (as_read from) s
            sealed_here = given_sealed g gives readers papers are.unsettled dev l cfg.pages refl cfg.write_buffer old a w opens

        started : dev.Tells → IsStart l (as_read from) (state_of whole (disk (dev.time b)))
        started = opened_start g gives readers papers are.unsettled dev l cfg.pages refl cfg.write_buffer old a w opens b k gone over going spelling accepted config now j finish start position
            valid lay same offsets indices tied written none_written entered

        whole_sound : dev.Tells → (st : State (List ℕ)) → MayOpen l st from → IsSound whole (disk (dev.time b))
        whole_sound t st may = record {
          once = λ s. elim (given_or t s) [
            | inl kept ↦ subst (λ (xs : List (List ℕ)). IsDistinct nat_eq (map (λ e. e.index) (map entry_of xs))) (sym (entered_items t s ∙ ap items_of kept.1)) ((read t st may).lawful.sections s kept.0).once
            | inr none ↦ subst (λ (xs : List (List ℕ)). IsDistinct nat_eq (map (λ e. e.index) (map entry_of xs))) (sym (entered_items t s ∙ ap items_of none)) (lawful_none l s).once
          ];
          names = still_named l from (wanted_of l.items st (Some Reopen)) (read t st may) (section_stands l from st may (tells.as_read t)) (names_stand l from st may (tells.as_read t)) (disk (dev.time b))
              (replay_named l from w (2 ^ 64 - 1) (disk (dev.time a)) (always_now _ _ _ (opens.moments t)) opens.partition number paged_here settled_here (disk (dev.time b)) (always_now _ _ _ (gone.keeps.moments t)));
          absent = λ s small none. (let bare : (from (section_key l.partition s)).there ≡ false = false_from_ne_true _ (λ has. cc (subst IsSome (none_first s none) ((opens.held t s small).1 (has, omega (arith, small))))) in
              ap (λ (q : Key). longest (disk (dev.time b) q)) (key_there s)
              ∙ none_left l from w (2 ^ 64 - 1) (disk (dev.time a)) (always_now _ _ _ (opens.moments t)) opens.partition number paged_here settled_here
              (disk (dev.time b)) (always_now _ _ _ (gone.keeps.moments t)) s small (none_first s none) bare (may.absent s small bare));
        }
          where
            read : (t : dev.Tells) (st : State (List ℕ)) → MayOpen l st from → Keeps l (wanted_of l.items st (Some Reopen)) (as_read from)
            read t st may = read_stands l from st may (tells.as_read t)

            key_there : (s : ℕ) → key_of j.sections s ≡ section_key l.partition s
            key_there s = key_back g gives readers papers are.unsettled dev l cfg.pages refl cfg.write_buffer old a w opens b k gone over going spelling accepted config now j finish start position s
                ∙ ap (λ (p : List ℕ). section_key p s) opens.partition

            none_first : (s : ℕ) → j.sections.held s ≡ None → w.journal.sections.held s ≡ None
            none_first s none = elim (none_or_value (w.journal.sections.held s)) [
              | inl is ↦ is
              | inr some ↦ absurd (cc (subst IsSome (sym (held_back g gives readers papers are.unsettled dev l cfg.pages refl cfg.write_buffer old a w opens b k gone over going spelling accepted config now j finish start position s) ∙ none)
                  ((gone.goes.held s).1 (ap is_some some.1))))
            ]

        over_whole : MayUse g gives dev whole b
        over_whole = opened_over g gives readers papers are.unsettled dev l cfg.pages refl cfg.write_buffer old a w opens b k gone over going spelling accepted config now j finish start position
            valid lay same offsets indices tied written none_written entered

        was_opened : Opens g gives dev seal refusal cfg old b (Ok (record whole { layout = lay })) (Ok now)
        was_opened = record {
          begins = begun;
          moments = (replay_left k gone.keeps).moments;
          keeps = (replay_left k gone.keeps).keeps;
          footprint = replay_footprint k gone.keeps;
          config = known;
          ends = record {
            over = subst (λ (x : Layout). MayUse g gives dev (record whole { layout = x }) b) (sym same) over_whole;
            layout = same;
            pages = ap (λ (m : Sections (AppendFactory S) (PageBlob S gs)). m.factory.pages) finish.sections ∙ ap (λ (f : AppendFactory S). f.pages) gone.keeps.same.bounds.place.factory ∙ opens.pages;
            write_buffer = ap (λ (m : Sections (AppendFactory S) (PageBlob S gs)). m.factory.write_buffer) finish.sections ∙ ap (λ (f : AppendFactory S). f.write_buffer) gone.keeps.same.bounds.place.factory ∙ opens.write_buffer;
            written = none_written;
            told = λ t. record {
              start = started t;
              names = opens.foreign t;
              unrefused = none_to_refuse t;
              sound = λ st may. subst (λ (x : Layout). IsSound (record whole { layout = x }) (disk (dev.time b))) (sym same) (whole_sound t st may);
              step = λ st may none. reopened l from st may (tells.as_read t) (state_of whole (disk (dev.time b))) (started t) none;
              rest = λ st may. may_open_again g gives dev.Tells whole are (dev.opened b) (disk (dev.time b)) over_whole t (whole_sound t st may);
            };
          };
        }

      -- What was held, and the journal that was given back.
      module _ (k : Walk (AppendFactory S) (PageBlob S gs)) (held : Held) (did : HasEntered g gives seal dev l.items (refusal_of refusal kept) w k a b held)
          {V : Type 0} (spelling : V → List ℕ) (accepted : V → C → Type 0) (config : C) where
        -- it is given back
        pub given_back : (e : Error) (now : Result C Error) → Finishes seal spelling accepted config k (Err e) now → ⊥
        given_back e now finish = ⊎_elim
            (λ failed. (let whole = did.gone.goes.failed ∙ did_begin.begins.whole in cc (failed, whole)))
            (λ left. left did.drained) (finish.replay_failed.0 finish.cause)

        pub cache_opened : (now : C) (j : Lists (AppendFactory S) (PageBlob S gs)) → Finishes seal spelling accepted config k (Ok j) (Ok now) → config ≡ kept → 1 ≤ l.items
            → (written : ℕ → Option ℕ) → ((s : ℕ) → written s ≡ None)
            → Opens g gives dev seal refusal cfg old b (Ok (record {
              journal = j;
              layout = record { partition = j.sections.partition; page_size = j.sections.factory.pages.page_size; seal = seal; items = l.items; refusal = refusal_of refusal now };
              offsets = offsets_of held;
              indices = indices_of held;
              written = written;
              floor = 0;
            })) (Ok now)
        cache_opened now j finish same valid written none =
            was_opened k did.gone did.over (did.gone.goes.ended ∙ did_begin.begins.going) spelling accepted config now j finish did_begin.begins.section did_begin.begins.position valid known _
            (λ i. record { partition = partition_is i; page_size = page_is i; seal = seal; items = l.items; refusal = refusal_of refusal (known i) })
            (offsets_of held) (indices_of held) did.tied written none
            (subst (λ (x : C). dev.Tells → AreEntered l.items (refusal_of refusal x) (given_bytes seal w (disk (dev.time a))) (offsets_of held)) did_begin.config did.entered)
          where
            known : now ≡ cfg.codec_config
            known = finish.same_config ∙ same ∙ did_begin.config

            partition_is : j.sections.partition ≡ l.partition
            partition_is = ap (λ (m : Sections (AppendFactory S) (PageBlob S gs)). m.partition) finish.sections ∙ did.gone.keeps.same.bounds.place.partition ∙ opens.partition

            page_is : j.sections.factory.pages.page_size ≡ l.page_size
            page_is = ap (λ (m : Sections (AppendFactory S) (PageBlob S gs)). m.factory.pages.page_size) finish.sections ∙ ap (λ (f : AppendFactory S). f.pages.page_size) did.gone.keeps.same.bounds.place.factory
                ∙ ap (λ (p : Pages). p.page_size) opens.pages

-- a start at 0 is not past the end
pub not_past : {B : Type 0} (o : Option B) (size : B → ℕ) → IsSomeAnd o (λ u. size u < 0) → ⊥
not_past None size is = is
not_past (Some u) size less = omega (arith, less)
