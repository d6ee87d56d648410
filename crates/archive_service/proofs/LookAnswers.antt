-- What lookups promise, in the terms of a store that serves commands; and so what is asked of the indices, which touches no device.
use Rattle.std.proofs.Common.{◌≡◌, inl, inr, refl, sym, ◌∙◌, ap, subst, ℕ, Bool, List, [], map, Option, Some, None, IsSomeAnd, Result, Ok, Err, arith, rules}
use Rattle.std.specs.Prelude.{⊤, option_map, IfOk, OnErr}
use Rattle.blob_device.specs.Disk.{Disk, Key}
use Rattle.blob_device.specs.Footprint.{NoBound}
use Rattle.blob_device.specs.Timeline.{disk}
use Rattle.blob_device.specs.declared.device.Device as device
use Rattle.blob_device.specs.declared.runtime.RError.TheVariants as runtime
use Rattle.blob_device.specs.lemmas.Footprint.{footprint_none}
use Rattle.ordinal_store.specs.Numbers.{AreMissing, Set}
use Rattle.paired.specs.Crashes.{IsOwn}
use Rattle.section_manager.specs.declared.journal.Error.TheVariants as journal
use Rattle.section_manager.specs.declared.sealed.AppendFactory.{AppendFactory}
use Rattle.sealed_pages.specs.declared.page_blob.PageBlob.{PageBlob}
use Rattle.archives.specs.Archives.{IsSoundArchive, state_of}
use Rattle.archives.specs.Changes.{AskEnds, Asked, Asks, Replied, outcome}
use Rattle.archives.specs.Commands.{All, First, Gap, Get, GetKey, Has as HasIndex, HasAt, HasKey, Last, Missing, Ranges, RangesFrom, Reopen}
use Rattle.archives.specs.Entries.{AllEnd, GetsAll}
use Rattle.archives.specs.Entries as entries
use Rattle.archives.specs.Finding.{Wanted, get_command, has_command}
use Rattle.archives.specs.Finding as wanted
use Rattle.archives.specs.Indices.{GivesMissing}
use Rattle.archives.specs.Machine.{Entry, State, Step, has_index}
use Rattle.archives.specs.Gets.{GetEnds, Gets, Has, HasEnds, IsLookupCause, IsReadCause, IsRecordCause, SomeToLookAt}
use Rattle.archives.specs.Prunable.{Prunable, Setup, filing_by, meaning}
use Rattle.archives.specs.Refusing.{IsFailure, IsFault}
use Rattle.archives.specs.Replies as reply
use Rattle.archives.specs.Standing.{Leaves, submitted}
use Rattle.archives.specs.declared.error.Error.{Error}
use Rattle.archives.specs.declared.error.Error.TheVariants.{Journal, Mem}
use Rattle.archive_service.specs.Causes.{Adds, IsCause, IsCauseAnywhere, MustMove, MustMoveHeld, MustRefuse, MustRefuseAnywhere, PutsBy, PutsHere, ReadsBytes, RefusesPut, added_by}
use Rattle.archive_service.specs.Families.{AsksHeld, AsksStored, Family, PutOf, family_of, put_of}
use Rattle.archive_service.specs.StoreCalls.{AnswerEnds, Answers}
use Rattle.archive_service.specs.PrunableKind.{Clears, ClearsOpen, IsQuiet, Learns}
use Rattle.archive_service.specs.PrunableStore.{held_by, openable_serving}
use Rattle.archive_service.specs.declared.store.openable.Openable.{Openable}
use Rattle.archive_service.specs.declared.store.openable.Openable.TheVariants.{Open}
use Rattle.archive_service.proofs.StoreLemmas.{leaves_as, quiet_open, unchanged_end}
use Rattle.archive_service.specs.lemmas.Store.{Given, as_asked, nothing_done, serving_by, st, unchanged_always}

-- none of a set's absent numbers are so many, where none are asked for
pub none_missing : (set : Set) (from most : ℕ) → most ≡ 0 → AreMissing set from most []
none_missing set from most none = record {
  ascending = search rules;
  at_most = omega arith;
  each = λ x has. absurd (omega (arith, has.1));
  first = λ x missing. inr (sym none, λ y has. absurd (omega (arith, has.1)));
}

-- ---- answers that are given, or not for want of memory

abbrev pub OrMemory : {R : Type 0} → (R → Type 0) → Result R Error → Type 0
OrMemory P (Ok x) = P x
OrMemory P (Err e) = e ≡ Mem

pub missing_given : (set : Set) (from most : ℕ) (result : Result (List ℕ) Error) → GivesMissing set from most result → OrMemory (AreMissing set from most) result
missing_given set from most (Ok numbers) are = are
missing_given set from most (Err e) is = is

pub one_given : {R : Type 0} (P : R → Type 0) (x : R) → P x → (result : Result R Error) → IfOk result (λ r. r ≡ x) → OnErr result (result ≡ Err Mem) → OrMemory P result
one_given P x holds (Ok r) is none = subst P (sym is) holds
one_given P x holds (Err e) is none = cc none

-- ---- commands

-- a command that asks, and changes nothing
abbrev IsLookup : Family → Type 0
IsLookup AsksHeld = ⊤
IsLookup AsksStored = ⊤
IsLookup family = ⊥

-- a command that asks for indices
abbrev pub AsksIndices : Asked → Type 0
AsksIndices (Gap i) = ⊤
AsksIndices (Missing i n) = ⊤
AsksIndices Ranges = ⊤
AsksIndices (RangesFrom i) = ⊤
AsksIndices First = ⊤
AsksIndices Last = ⊤
AsksIndices command = ⊥

module _ {A V S D : Type 0} {gs : _} (p : Prunable A V (AppendFactory S) (PageBlob S gs)) (setup : Setup V) (valid : Type 0) (dev : device.Ghosts D) (a : A) (old : D) (given : Given p setup valid dev a old) where
  abbrev state : State (List ℕ)
  state = st p setup valid dev a old given

  -- ---- what a lookup is

  -- It submits nothing, is never refused, and tells nothing new.
  pub record IsLooking (c : Asked) : Type 0 where
    pub lookup : IsLookup (family_of c)
    pub no_reopen : c ≡ Reopen → ⊥
    pub allowed : MustRefuse (filing_by p a) state (disk (dev.time old)) c → ⊥
    pub clears : (q : Key) → Clears (filing_by p a) setup.write_buffer setup.value_buffer (held_by p a) c q → ⊥
    pub allowed_anywhere : MustRefuseAnywhere (filing_by p a) (held_by p a) (disk (dev.time old)) c → ⊥
    pub refuses : (e : Error) → RefusesPut (filing_by p a) state c e → ⊥
    pub under_way : (d : Disk) → Leaves (filing_by p a) state None d → Leaves (filing_by p a) state (Some c) d
    pub learns : (from to : Disk) → Learns (filing_by p a) setup.write_buffer setup.value_buffer (held_by p a) (family_of c) from to (held_by p a)

  -- Each command that puts nothing, moves no marker, and takes nothing away is one.
  looks_by : (c : Asked) → IsLookup (family_of c) → put_of c ≡ None → (MustMove (filing_by p a) state (disk (dev.time old)) c → ⊥) → (MustMoveHeld (filing_by p a) (held_by p a) (disk (dev.time old)) (Some c) → ⊥)
      → ((s : ℕ) → submitted (filing_by p a).items state None s ≡ submitted (filing_by p a).items state (Some c) s)
      → ((from to : Disk) → Learns (filing_by p a) setup.write_buffer setup.value_buffer (held_by p a) (family_of c) from to (held_by p a))
      → ((q : Key) → ClearsOpen (filing_by p a) setup.write_buffer setup.value_buffer (family_of c) q → ⊥) → IsLooking c
  looks_by c lookup puts moves moves_held same learns clears = record {
    lookup = lookup;
    no_reopen = no_reopen;
    allowed = λ must. elim must as (λ _. ⊥) [ inl adds ↦ none_added _ adds | inr marker ↦ moves marker.0 ];
    clears = λ q both. clears q both.1;
    allowed_anywhere = λ must. elim must as (λ _. ⊥) [
      | inl holds ↦ none_held _ holds
      | inr other ↦ elim other as (λ _. ⊥) [ inl marker ↦ moves_held marker.0 | inr over ↦ no_reopen over.0 ]
    ];
    refuses = λ e refuses. elim refuses as (λ _. ⊥) [ inl full ↦ none_added _ full.1 | inr large ↦ none_added _ large.1 ];
    under_way = λ d. leaves_as (filing_by p a) state None (Some c) d same (λ s going. going);
    learns = learns;
  }
    where
      no_reopen : c ≡ Reopen → ⊥
      no_reopen is = subst (λ (x : Asked). IsLookup (family_of x)) is lookup

      none_added : (P : Entry (List ℕ) → Type 0) → Adds (filing_by p a) state (Some c) P → ⊥
      none_added P adds = subst (λ (x : Option PutOf). IsSomeAnd x (λ put. IsSomeAnd (added_by (filing_by p a) state put) P)) puts adds

      none_held : (P : Entry (List ℕ) → Type 0) → PutsHere (filing_by p a) (held_by p a) (Some c) P → ⊥
      none_held P holds = subst (λ (x : Option PutOf). IsSomeAnd x (λ put. PutsBy (filing_by p a) (held_by p a) put P)) puts holds

  get_looks : (w : Wanted) → IsLooking (get_command w)
  get_looks (wanted.Index i) = looks_by (Get i) tt refl (λ none. none) (λ none. none) (λ s. refl) (λ from to. refl) (λ q none. none)
  get_looks (wanted.Key k) = looks_by (GetKey k) tt refl (λ none. none) (λ none. none) (λ s. refl) (λ from to. refl) (λ q none. none)

  has_looks : (w : Wanted) → IsLooking (has_command w)
  has_looks (wanted.Index i) = looks_by (HasIndex i) tt refl (λ none. none) (λ none. none) (λ s. refl) (λ from to. refl) (λ q none. none)
  has_looks (wanted.Key k) = looks_by (HasKey k) tt refl (λ none. none) (λ none. none) (λ s. refl) (λ from to. refl) (λ q none. none)

  -- ---- why it got no reply

  failure_cause : (c : Asked) (before now : ℕ) (e : Error) → IsFailure before now e → IsCause (filing_by p a) state (Some c) (disk (dev.time old)) e
  failure_cause c before now e (inl memory) = subst (IsCause (filing_by p a) state (Some c) (disk (dev.time old))) (sym memory) tt
  failure_cause c before now e (inr fault) = subst (IsCause (filing_by p a) state (Some c) (disk (dev.time old))) (sym fault.0) tt

  read_anywhere : (t : dev.Tells) (c : Asked) → ReadsBytes (family_of c) → (Met : (ℕ → ℕ → Type 0) → Type 0) (to : Disk) (before now : ℕ) (e : Error)
      → IsReadCause (p.see a) (disk (dev.time old)) dev.Tells Met before now e → IsCauseAnywhere (filing_by p a) (held_by p a) (Some c) (disk (dev.time old)) to e
  read_anywhere t c reads Met to before now Mem why = tt
  read_anywhere t c reads Met to before now (Journal (journal.Runtime runtime.Fault)) why = tt
  read_anywhere t c reads Met to before now (Journal (journal.Runtime (runtime.InvalidChecksum k))) why = inr (refl, reads)
  read_anywhere t c reads Met to before now (Journal (journal.SectionOutOfRange n)) why = (refl, reads)
  read_anywhere t c reads Met to before now (Journal (journal.Runtime runtime.BlobInsufficientLength)) why = (refl, reads)
  read_anywhere t c reads Met to before now (Journal (journal.Runtime runtime.OffsetOverflow)) why = (refl, reads)
  read_anywhere t c reads Met to before now (Journal (journal.ChecksumMismatch stored computed)) why = (refl, reads)
  read_anywhere t c reads Met to before now (Journal (journal.Codec e)) why = (refl, reads)
  read_anywhere t c reads Met to before now (Journal (journal.ItemOutOfRange n)) why = absurd (why t)
  read_anywhere t c reads Met to before now e why = absurd why

  -- and where no value is read, only memory or the device is the cause
  record_anywhere : (t : dev.Tells) (c : Asked) (to : Disk) (before now : ℕ) (e : Error) → IsRecordCause dev.Tells before now e → IsCauseAnywhere (filing_by p a) (held_by p a) (Some c) (disk (dev.time old)) to e
  record_anywhere t c to before now Mem why = tt
  record_anywhere t c to before now (Journal (journal.Runtime runtime.Fault)) why = tt
  record_anywhere t c to before now (Journal (journal.Runtime (runtime.InvalidChecksum k))) why = absurd (why t)
  record_anywhere t c to before now (Journal (journal.SectionOutOfRange n)) why = absurd (why t)
  record_anywhere t c to before now (Journal (journal.ItemOutOfRange n)) why = absurd (why t)
  record_anywhere t c to before now (Journal (journal.Codec e)) why = absurd (why t)
  record_anywhere t c to before now e why = absurd why

  -- ---- the lookup

  module _ {R : Type 0} (new : D) (c : Asked) (looks : IsLooking c) (reply_of : R → Replied)
      (quiet : dev.Tells → IsQuiet (filing_by p a) setup.write_buffer setup.value_buffer (held_by p a) c → new ≡ old) where
    look_ends : (result : Result R Error) → Asks (meaning p) dev a c reply_of result old new
        → (dev.Tells → (e : Error) → result ≡ Err e → IsCauseAnywhere (filing_by p a) (held_by p a) (Some c) (disk (dev.time old)) (disk (dev.time new)) e)
        → AnswerEnds (serving_by p setup valid dev (filing_by p a)) dev (Open a) c (outcome (λ x. (Open a, reply_of x)) result) old new
    look_ends (Ok x) asks why = record {
      usable = record {
        usable = asks.over;
        filing = given.usable.filing;
        accepts = given.usable.accepts;
        write_buffer = given.usable.write_buffer;
        value_buffer = given.usable.value_buffer;
        flushed = given.usable.flushed;
      };
      sound = λ t sound. subst (λ (d : Disk). IsSoundArchive (p.see a) d) (sym (unchanged_end (dev.time old) (dev.time new) (asks.unchanged t))) sound;
      step = λ t sound. asks.ends t;
      reopened = λ t sound is. absurd (looks.no_reopen is);
      allowed = λ t sound. looks.allowed;
      rest = λ t sound. subst (λ (d : Disk). Leaves (filing_by p a) (state_of (p.see a) d) None d) (sym (unchanged_end (dev.time old) (dev.time new) (asks.unchanged t))) (given.laws.leaves t sound);
      learns = λ t. looks.learns _ _;
      cleared = λ t q both. absurd (looks.clears q both);
      allowed_anywhere = λ t. looks.allowed_anywhere;
    }
    look_ends (Err e) asks why = record {
      cause = λ t sound. failure_cause c (dev.faults old) (dev.faults new) e (asks.ends.gives t sound);
      unwritten = λ t sound refuses. absurd (looks.refuses e refuses);
      anywhere = λ t. why t e refl;
      unwritten_anywhere = λ t refuses. asks.unchanged t;
      fault = asks.ends.fault;
    }

    look_at : (result : Result R Error) → Asks (meaning p) dev a c reply_of result old new
        → (dev.Tells → (e : Error) → result ≡ Err e → IsCauseAnywhere (filing_by p a) (held_by p a) (Some c) (disk (dev.time old)) (disk (dev.time new)) e)
        → Answers (serving_by p setup valid dev (filing_by p a)) dev (Open a) c (outcome (λ x. (Open a, reply_of x)) result) old new
    look_at result asks why = record {
      moments = λ t sound. unchanged_always (dev.time old) (dev.time new) _ (asks.unchanged t) (looks.under_way _ (given.laws.leaves t sound));
      alone = λ t. unchanged_always (dev.time old) (dev.time new) _ (asks.unchanged t) (λ q other. refl);
      footprint = asks.footprint;
      quiet = quiet;
      ends = look_ends result asks why;
    }

    pub look_answers : (result : Result R Error) → Asks (meaning p) dev a c reply_of result old new
        → (dev.Tells → (e : Error) → result ≡ Err e → IsCauseAnywhere (filing_by p a) (held_by p a) (Some c) (disk (dev.time old)) (disk (dev.time new)) e)
        → Answers (openable_serving p setup valid) dev (Open a) c (outcome (λ x. (Open a, reply_of x)) result) old new
    look_answers result asks why = as_asked p setup valid dev a old given c (outcome (λ x. (Open a, reply_of x)) result) new (look_at result asks why)

  -- an error has its cause by what is held, as it has it by what the archive met
  met : (c : Asked) → ReadsBytes (family_of c) → (w : Wanted) (new : D) → dev.Tells → (e : Error) → IsLookupCause p dev a w old new e
      → IsCauseAnywhere (filing_by p a) (held_by p a) (Some c) (disk (dev.time old)) (disk (dev.time new)) e
  met c reads w new t e why = read_anywhere t c reads (SomeToLookAt p dev a w) (disk (dev.time new)) (dev.faults old) (dev.faults new) e why

  -- a value by index or key
  get_quiet : (w : Wanted) → IsQuiet (filing_by p a) setup.write_buffer setup.value_buffer (held_by p a) (get_command w) → ⊥
  get_quiet (wanted.Index i) still = quiet_open still
  get_quiet (wanted.Key k) still = quiet_open still

  get_reads : (w : Wanted) → ReadsBytes (family_of (get_command w))
  get_reads (wanted.Index i) = tt
  get_reads (wanted.Key k) = tt

  pub get_answers : (w : Wanted) (new : D) (result : Result (Option V) Error) → Gets p dev a w result old new
      → Answers (openable_serving p setup valid) dev (Open a) (get_command w) (outcome (λ v. (Open a, reply.Value (option_map p.spelling v))) result) old new
  get_answers w new result get = look_answers new (get_command w) (get_looks w) (λ v. reply.Value (option_map p.spelling v)) (λ t still. absurd (get_quiet w still)) result get.asks
      (λ t e is. met (get_command w) (get_reads w) w new t e (subst (λ r. GetEnds p dev a w r old new) is get.ends))

  -- whether one is there
  has_quiet : (w : Wanted) (new : D) (result : Result Bool Error) → Has p dev a w result old new → IsQuiet (filing_by p a) setup.write_buffer setup.value_buffer (held_by p a) (has_command w) → new ≡ old
  has_quiet (wanted.Index i) new result has still = (has.asks.by_index i refl).1
  has_quiet (wanted.Key k) new result has still = absurd (quiet_open still)

  -- by index it has its answer, and by key an error has its cause
  has_met : (w : Wanted) (new : D) (result : Result Bool Error) → Has p dev a w result old new → dev.Tells → (e : Error) → result ≡ Err e
      → IsCauseAnywhere (filing_by p a) (held_by p a) (Some (has_command w)) (disk (dev.time old)) (disk (dev.time new)) e
  has_met (wanted.Index i) new result has t e is = absurd (cc (is, (has.asks.by_index i refl).0))
  has_met (wanted.Key k) new result has t e is = record_anywhere t (HasKey k) (disk (dev.time new)) (dev.faults old) (dev.faults new) e (subst (λ r. HasEnds p dev a r old new) is has.ends)

  pub has_answers : (w : Wanted) (new : D) (result : Result Bool Error) → Has p dev a w result old new
      → Answers (openable_serving p setup valid) dev (Open a) (has_command w) (outcome (λ b. (Open a, reply.Flag b)) result) old new
  has_answers w new result has = look_answers new (has_command w) (has_looks w) (λ b. reply.Flag b) (λ t. has_quiet w new result has) result has.asks.asks (has_met w new result has)

  -- all values at an index
  all_looks : (i : ℕ) → IsLooking (All i)
  all_looks i = looks_by (All i) tt refl (λ none. none) (λ none. none) (λ s. refl) (λ from to. refl) (λ q none. none)

  pub all_answers : (i : ℕ) (new : D) (result : Result (Option (List V)) Error) → GetsAll p dev a i result old new
      → Answers (openable_serving p setup valid) dev (Open a) (All i) (outcome (λ vs. (Open a, reply.Values (option_map (map p.spelling) vs))) result) old new
  all_answers i new result all = look_answers new (All i) (all_looks i) (λ vs. reply.Values (option_map (map p.spelling) vs)) (λ t still. absurd (quiet_open still)) result all.asks
      (λ t e is. met (All i) tt (wanted.Index i) new t e (subst (λ r. AllEnd p dev a i r old new) is all.ends))

  -- whether one record has both an index and a key
  at_looks : (i : ℕ) (k : List ℕ) → IsLooking (HasAt i k)
  at_looks i k = looks_by (HasAt i k) tt refl (λ none. none) (λ none. none) (λ s. refl) (λ from to. refl) (λ q none. none)

  pub has_at_answers : (i : ℕ) (k : List ℕ) (new : D) (result : Result Bool Error) → entries.HasAt p dev a i k result old new
      → Answers (openable_serving p setup valid) dev (Open a) (HasAt i k) (outcome (λ b. (Open a, reply.Flag b)) result) old new
  has_at_answers i k new result has = look_answers new (HasAt i k) (at_looks i k) (λ b. reply.Flag b) (λ t still. absurd (quiet_open still)) result has.asks
      (λ t e is. record_anywhere t (HasAt i k) (disk (dev.time new)) (dev.faults old) (dev.faults new) e (subst (λ r. HasEnds p dev a r old new) is has.ends))

  -- ---- what is asked of the indices

  indices_look : (c : Asked) → AsksIndices c → IsLooking c
  indices_look (Gap i) asks = looks_by (Gap i) tt refl (λ none. none) (λ none. none) (λ s. refl) (λ from to. refl) (λ q none. none)
  indices_look (Missing i n) asks = looks_by (Missing i n) tt refl (λ none. none) (λ none. none) (λ s. refl) (λ from to. refl) (λ q none. none)
  indices_look Ranges asks = looks_by Ranges tt refl (λ none. none) (λ none. none) (λ s. refl) (λ from to. refl) (λ q none. none)
  indices_look (RangesFrom i) asks = looks_by (RangesFrom i) tt refl (λ none. none) (λ none. none) (λ s. refl) (λ from to. refl) (λ q none. none)
  indices_look First asks = looks_by First tt refl (λ none. none) (λ none. none) (λ s. refl) (λ from to. refl) (λ q none. none)
  indices_look Last asks = looks_by Last tt refl (λ none. none) (λ none. none) (λ s. refl) (λ from to. refl) (λ q none. none)
  indices_look command asks = absurd asks

  -- the set of the archive is that of its state
  set_is : dev.Tells → (p.see a).indices ≡ has_index (p.see a).items state
  set_is t = λ k i. (given.usable.usable.indices i ∙ (given.laws.state t).taken i) k

  module _ (c : Asked) (asks : AsksIndices c) where
    asks_nothing : {R : Type 0} (reply_of : R → Replied) (result : Result R Error) → AskEnds (meaning p) dev a c reply_of result old old → Asks (meaning p) dev a c reply_of result old old
    asks_nothing reply_of result ends = record {
      over = given.usable.usable;
      unchanged = λ t. nothing_done dev.time old old refl;
      footprint = footprint_none dev (IsOwn (filing_by p a).layout (λ _. ⊤)) NoBound old old refl;
      ends = ends;
    }

    -- it is told by the set alone, and the device stays as it was
    pub indices_told : {R : Type 0} (reply_of : R → Replied) (P : Set → R → Type 0)
        → ((x : R) → P (has_index (p.see a).items state) x → Step (p.see a).items state c (reply_of x) state)
        → (x : R) → P (p.see a).indices x → Answers (openable_serving p setup valid) dev (Open a) c (Ok (Open a, reply_of x)) old old
    indices_told {R} reply_of P step x holds =
        look_answers old c (indices_look c asks) reply_of (λ t still. refl) (Ok x)
        (asks_nothing reply_of (Ok x) (λ t. step x (subst (λ (set : Set). P set x) (set_is t) holds))) (λ t e is. absurd (cc is))

    -- or memory was wanting
    pub indices_untold : {R : Type 0} (see : R → Openable A × Replied) (result : Result R Error) → result ≡ Err Mem → Answers (openable_serving p setup valid) dev (Open a) c (outcome see result) old old
    indices_untold see result is = subst (λ r. Answers (openable_serving p setup valid) dev (Open a) c (outcome see r) old old) (sym is)
        (look_answers old c (indices_look c asks) (λ (done : Unit {0}). reply.Done) (λ t still. refl) (Err Mem)
        (asks_nothing (λ (done : Unit {0}). reply.Done) (Err Mem) (record { gives = λ t sound. inl refl; fault = λ failed. absurd (no_fault failed) }))
        (λ t other is. (let mem : other ≡ Mem = cc is in subst (λ (y : Error). IsCauseAnywhere (filing_by p a) (held_by p a) (Some c) (disk (dev.time old)) (disk (dev.time old)) y) (sym mem) tt)))
      where
        no_fault : IsFault Mem → ⊥
        no_fault (inl records) = cc records
        no_fault (inr markers) = cc markers

    -- so each result answers
    pub indices_given : {R : Type 0} (reply_of : R → Replied) (P : Set → R → Type 0)
        → ((x : R) → P (has_index (p.see a).items state) x → Step (p.see a).items state c (reply_of x) state)
        → (result : Result R Error) → OrMemory (P (p.see a).indices) result → Answers (openable_serving p setup valid) dev (Open a) c (outcome (λ x. (Open a, reply_of x)) result) old old
    indices_given reply_of P step (Ok x) holds = indices_told reply_of P step x holds
    indices_given reply_of P step (Err e) is = indices_untold (λ x. (Open a, reply_of x)) (Err e) (ap (λ (y : Error). Err y) is)
