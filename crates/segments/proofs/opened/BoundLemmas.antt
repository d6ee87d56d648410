-- How far a section of a fixed journal is sealed, up to a byte, and where it is cut that is to have no more.
use Rattle.std.specs.Prelude.{IfOk, MatchOption}
use Rattle.std.specs.Result.{IsErrOf}
use Rattle.std.proofs.Common.{◌≡◌, ◌⊎◌, ◌↔◌, inl, inr, ℕ, ◌+◌, ◌*◌, ◌/◌, ◌%◌, ◌<◌, ◌≤◌, min, List, length, Option, None, Some, Result, Ok, Err, refl, sym, ◌∙◌, ap, subst, arith}
use Rattle.std.proofs.Math.Nat.{div-mul-le_self}
use Rattle.std.proofs.lemmas.Nat.{mod-mul-add}
use Rattle.blob_device.specs.Counts.{Rose}
use Rattle.blob_device.specs.Disk.{Key, Disk}
use Rattle.blob_device.specs.Timeline.{disk}
use Rattle.blob_device.specs.declared.device.Device as device
use Rattle.blob_device.specs.declared.runtime.RError.{RError}
use Rattle.blob_device.specs.declared.runtime.RError.TheVariants as runtime
use Rattle.sealed_pages.specs.Buffer.{size_of}
use Rattle.sealed_pages.specs.Buffer as pages
use Rattle.sealed_pages.specs.Entries.{ReadsAtMost}
use Rattle.sealed_pages.specs.Reading.{OnlyRead, Unchanged}
use Rattle.sealed_pages.specs.Reads.{pages_for}
use Rattle.sealed_pages.specs.SealedPrefix.{sealed_prefix}
use Rattle.sealed_pages.specs.Shown.{shown}
use Rattle.sealed_pages.specs.declared.page_blob.PageBlob.{PageBlob}
use Rattle.sealed_pages.specs.lemmas.Entries.{only_read_of, only_read_start}
use Rattle.sealed_pages.specs.lemmas.looking.Looking.{unchanged_now, unchanged_start}
use Rattle.segments.specs.lemmas.held.Passing.{guard_on, no_error}
use Rattle.segments.specs.lemmas.held.Sections.{journal_read}
use Rattle.section_manager.specs.Raised.{raised}
use Rattle.section_manager.specs.Refusing.{IsPruned, HasFailed}
use Rattle.section_manager.specs.Sections.{Sections, key_of}
use Rattle.section_manager.specs.Setting.{Setting}
use Rattle.section_manager.specs.declared.buffer.SectionBuffer as buffer
use Rattle.section_manager.specs.declared.journal.Error.{Error}
use Rattle.segments.specs.FixedBounds.{whole_of, sealed_size, Measures, Recovers, FindsEnd}
use Rattle.segments.specs.FixedLists.{Lists, size_held}
use Rattle.segments.proofs.looking.ItemReads.{no_reads}
use Rattle.blob_device.proofs.general.Options.{some_same}

-- whole items leave no rest
pub whole_whole : (size n : ℕ) → 1 ≤ size → whole_of size n % size ≡ 0
whole_whole size n pos =
    let same : whole_of size n ≡ n / size * size + 0 = omega arith in
    ap (λ (m : ℕ). m % size) same ∙ mod-mul-add (n / size) size 0 (omega (arith, pos))

-- the count that a buffer answers is what it shows
pub size_is : {S : Type 0} {gs : _} (o : Option (PageBlob S gs)) (n : ℕ) → MatchOption o (n ≡ 0) (λ u. n ≡ size_of (shown u)) → n ≡ size_held o
size_is None n is = is
size_is (Some u) n is = is

-- an error of a buffer is want of memory, or a fault
raised_failed : {T U : Type 0} (r : Result T Error) (e : RError) (few many : ℕ) → r ≡ Err (raised e)
    → IsErrOf {T = U} (Err e) runtime.Mem ⊎ (IsErrOf {T = U} (Err e) runtime.Fault × Rose few many) → HasFailed r few many
raised_failed r e few many is (inl mem) = (let same : e ≡ runtime.Mem = cc mem in inl (is ∙ ap Err (ap raised same)))
raised_failed r e few many is (inr fault) = (let same : e ≡ runtime.Fault = cc fault.0 in inr (is ∙ ap Err (ap raised same), fault.1))

failed_unpruned : {T : Type 0} (r : Result T Error) (floor few many : ℕ) → HasFailed r few many → IsPruned r floor → ⊥
failed_unpruned r floor few many (inl mem) pruned = cc (mem, pruned)
failed_unpruned r floor few many (inr fault) pruned = (let h = fault.0 in cc (h, pruned))

module _ {F S D : Type 0} {gs : _} (seal : List ℕ → ℕ) (size : ℕ) (dev : device.Ghosts D) (m : Sections F (PageBlob S gs)) (section end : ℕ) where
  -- of a section that is not held
  pub measures_none : (n : ℕ) (old : D) → 1 ≤ size → (section < m.floor → ⊥) → m.held section ≡ None → n ≡ whole_of size end → Measures seal size dev m section end (Ok n) old old
  measures_none n old pos kept none is = record {
    answer = λ t. is ∙ sym (ap (λ (o : Option (PageBlob S gs)). sealed_size seal size o (disk (dev.time old) (key_of m section)).content end) none);
    within = omega (arith, is, div-mul-le_self end size);
    whole = ap (λ (k : ℕ). k % size) is ∙ whole_whole size end pos;
    unchanged = λ t. unchanged_start (dev.time old);
    entries = only_read_start (key_of m section) (dev.opened old);
    reads = λ u held. absurd (cc (none, held));
    absent = λ same. refl;
    guard = (λ pruned. absurd (no_error n _ pruned), λ lt. absurd (kept lt));
    refuses = λ lt. absurd (kept lt);
    faults = omega arith;
    cause = tt;
  }

  module _ (u : PageBlob S gs) (held : m.held section ≡ Some u) (key : pages.key_of (shown u) ≡ key_of m section) (kept : section < m.floor → ⊥) (old new : D)
      (unchanged : dev.Tells → Unchanged (dev.time old) (dev.time new)) (reads : ReadsAtMost (pages_for u.page_size end) (pages.key_of (shown u)) (dev.opened old) (dev.opened new)) (faults : dev.faults old ≤ dev.faults new) where
    reads_own : (w : PageBlob S gs) → m.held section ≡ Some w → ReadsAtMost (pages_for w.page_size end) (key_of m section) (dev.opened old) (dev.opened new)
    reads_own w at = subst (λ (x : PageBlob S gs). ReadsAtMost (pages_for x.page_size end) (key_of m section) (dev.opened old) (dev.opened new)) (some_same u w (sym held ∙ at))
        (subst (λ (k : Key). ReadsAtMost (pages_for u.page_size end) k (dev.opened old) (dev.opened new)) key reads)

    entries_own : OnlyRead (key_of m section) (dev.opened old) (dev.opened new)
    entries_own = only_read_of _ _ _ _ (reads_own u held)

    pub measures_some : (n bytes : ℕ) → 1 ≤ size → n ≡ whole_of size bytes → bytes ≤ end
        → (dev.Tells → bytes ≡ min end (length (sealed_prefix seal u.page_size (disk (dev.time old) (pages.key_of (shown u))).content)))
        → Measures seal size dev m section end (Ok n) old new
    measures_some n bytes pos is within prefix = record {
      answer = λ t. is ∙ ap (λ (k : ℕ). whole_of size k) (prefix t)
          ∙ ap (λ (k : Key). whole_of size (min end (length (sealed_prefix seal u.page_size (disk (dev.time old) k).content)))) key
          ∙ sym (ap (λ (o : Option (PageBlob S gs)). sealed_size seal size o (disk (dev.time old) (key_of m section)).content end) held);
      within = omega (arith, is, within, div-mul-le_self bytes size);
      whole = ap (λ (k : ℕ). k % size) is ∙ whole_whole size bytes pos;
      unchanged = unchanged;
      entries = entries_own;
      reads = reads_own;
      absent = λ none. absurd (cc (none, held));
      guard = (λ pruned. absurd (no_error n _ pruned), λ lt. absurd (kept lt));
      refuses = λ lt. absurd (kept lt);
      faults = faults;
      cause = tt;
    }

    pub measures_err : {U : Type 0} (r : Result ℕ Error) (e : RError) → r ≡ Err (raised e)
        → IsErrOf {T = U} (Err e) runtime.Mem ⊎ (IsErrOf {T = U} (Err e) runtime.Fault × Rose (dev.faults old) (dev.faults new)) → Measures seal size dev m section end r old new
    measures_err {U = U} r e is cause =
        let failed = raised_failed {U = U} (Err (raised e)) e (dev.faults old) (dev.faults new) refl cause in
        subst (λ (x : Result ℕ Error). Measures seal size dev m section end x old new) (sym is) (record {
          answer = λ t. tt;
          within = tt;
          whole = tt;
          unchanged = unchanged;
          entries = entries_own;
          reads = reads_own;
          absent = λ none. absurd (cc (none, held));
          guard = (λ pruned. absurd (failed_unpruned (Err (raised e)) m.floor (dev.faults old) (dev.faults new) failed pruned), λ lt. absurd (kept lt));
          refuses = λ lt. absurd (kept lt);
          faults = faults;
          cause = inr failed;
        })

  -- of a section below the floor
  pub measures_pruned : {U : Type 0} (r : Result ℕ Error) (e : Error) (old : D) → r ≡ Err e → IsPruned {T = U} (Err e) m.floor ↔ (section < m.floor) → IsPruned {T = U} (Err e) m.floor
      → Measures seal size dev m section end r old old
  measures_pruned {U = U} r e old is guard pruned = subst (λ (x : Result ℕ Error). Measures seal size dev m section end x old old) (sym is) (record {
    answer = λ t. tt;
    within = tt;
    whole = tt;
    unchanged = λ t. unchanged_start (dev.time old);
    entries = only_read_start (key_of m section) (dev.opened old);
    reads = λ u held. no_reads _ _ _;
    absent = λ none. refl;
    guard = guard_on {U = U} (Err e) e m.floor (section < m.floor) refl guard;
    refuses = λ lt. refl;
    faults = omega arith;
    cause = inl (cc pruned);
  })

  -- a section that is not longer is not read
  pub finds_short : (n : ℕ) (old : D) → (section < m.floor → ⊥) → end % size ≡ 0 → MatchOption (m.held section) (n ≡ 0) (λ u. n ≡ size_of (shown u)) → n ≤ end → FindsEnd seal size dev m section end (Ok end) old old
  finds_short n old kept whole is le = record {
    short = λ small. refl;
    idle = λ small. refl;
    long = λ t more. absurd (omega (arith, more, le, size_is (m.held section) n is));
    within = omega arith;
    whole = whole;
    unchanged = λ t. unchanged_start (dev.time old);
    entries = only_read_start (key_of m section) (dev.opened old);
    guard = (λ pruned. absurd (no_error end _ pruned), λ lt. absurd (kept lt));
    faults = omega arith;
    cause = tt;
  }

  -- a longer one is read as far as it is sealed
  pub finds_long : (n : ℕ) (r : Result ℕ Error) (old new : D) → MatchOption (m.held section) (n ≡ 0) (λ u. n ≡ size_of (shown u)) → end < n → Measures seal size dev m section end r old new → FindsEnd seal size dev m section end r old new
  finds_long n r old new is more has = record {
    short = λ small. absurd (omega (arith, small, more, size_is (m.held section) n is));
    idle = λ small. absurd (omega (arith, small, more, size_is (m.held section) n is));
    long = λ t lt. has.answer t;
    within = has.within;
    whole = has.whole;
    unchanged = has.unchanged;
    entries = has.entries;
    guard = has.guard;
    faults = has.faults;
    cause = has.cause;
  }

  -- a section below the floor has no size
  pub finds_pruned : {U : Type 0} (r : Result ℕ Error) (e : Error) (old : D) → r ≡ Err e → IsPruned {T = U} (Err e) m.floor ↔ (section < m.floor) → IsPruned {T = U} (Err e) m.floor
      → FindsEnd seal size dev m section end r old old
  finds_pruned {U = U} r e old is guard pruned = subst (λ (x : Result ℕ Error). FindsEnd seal size dev m section end x old old) (sym is) (record {
    short = λ small. tt;
    idle = λ small. refl;
    long = λ t lt. tt;
    within = tt;
    whole = tt;
    unchanged = λ t. unchanged_start (dev.time old);
    entries = only_read_start (key_of m section) (dev.opened old);
    guard = guard_on {U = U} (Err e) e m.floor (section < m.floor) refl guard;
    faults = omega arith;
    cause = inl (cc pruned);
  })

-- what was learned of a journal holds of it still
module _ {F S D : Type 0} {gs : _} (g : buffer.Ghosts (PageBlob S gs)) (gives : F → Setting) (seal : List ℕ → ℕ) (size : ℕ) (dev : device.Ghosts D) (j : Lists F (PageBlob S gs)) (section end : ℕ) (old new : D) where
  safe_of : (r : Result ℕ Error) → Measures seal size dev j.sections section end r old new → dev.Tells
      → IfOk r (λ n. (u : PageBlob S gs) → j.sections.held section ≡ Some u → n ≤ length (sealed_prefix seal u.page_size (disk (dev.time new) (key_of j.sections section)).content))
  safe_of (Err e) learned t = tt
  safe_of (Ok n) learned t = λ u held. (
      let c = (disk (dev.time old) (key_of j.sections section)).content in
      let at : n ≡ whole_of size (min end (length (sealed_prefix seal u.page_size c))) = learned.answer t ∙ ap (λ (o : Option (PageBlob S gs)). sealed_size seal size o c end) held in
      let same = ap (λ (d : Disk). length (sealed_prefix seal u.page_size (d (key_of j.sections section)).content)) (unchanged_now (dev.time old) (dev.time new) (learned.unchanged t)) in
      omega (arith, at, div-mul-le_self (min end (length (sealed_prefix seal u.page_size c))) size, same))

  pub recovers_of : (r : Result ℕ Error) → Measures seal size dev j.sections section end r old new → Recovers g gives seal size dev j section end r old new
  recovers_of r learned = record {
    learned = learned;
    safe = safe_of r learned;
    over = journal_read g gives seal size dev.Tells j (key_of j.sections section) (dev.opened old) (dev.opened new) (disk (dev.time old)) (disk (dev.time new))
        learned.entries (λ t. unchanged_now (dev.time old) (dev.time new) (learned.unchanged t));
  }
