-- How an opening of a fixed journal up to a byte of a section ends.
use Rattle.std.proofs.Common.{◌≡◌, ◌≢◌, ◌⊎◌, ◌↔◌, inl, inr, ℕ, ◌^◌, ◌<◌, ◌≤◌, min, false, List, length, Option, None, Some, IsSome, IsTrue, Result, Ok, Err, OnErr, IfOk, sym, ◌∙◌, ap, subst, arith}
use Rattle.std.specs.Result.{IsErrOf}
use Rattle.std.proofs.Math.Nat.{div-mul-le_self}
use Rattle.std.proofs.lemmas.Bool.{cases_lt}
use Rattle.blob_device.specs.Disk.{Key, Disk}
use Rattle.blob_device.specs.Timeline.{disk, Always, Each}
use Rattle.blob_device.specs.declared.device.Device as device
use Rattle.blob_device.specs.lemmas.Moments.{always_now, always_then, always_weaker}
use Rattle.sealed_pages.specs.Buffer.{size_of}
use Rattle.sealed_pages.specs.Reading.{Unchanged}
use Rattle.sealed_pages.specs.SealedPrefix.{sealed_prefix}
use Rattle.sealed_pages.specs.Shown.{shown}
use Rattle.sealed_pages.specs.declared.page_blob.PageBlob.{PageBlob}
use Rattle.sealed_pages.specs.declared.pages.Pages.{Pages}
use Rattle.sealed_pages.specs.lemmas.looking.Looking.{unchanged_now}
use Rattle.segments.specs.lemmas.adding.Write.{ArePages}
use Rattle.segments.specs.lemmas.held.Passing.{error_back, failed_on, pruned_on}
use Rattle.segments.specs.lemmas.held.Sections.{journal_read, size_here}
use Rattle.segments.specs.lemmas.replay.Reading.{failed_since}
use Rattle.section_manager.specs.Lasting.{IsSettling}
use Rattle.section_manager.specs.Refusing.{HasDamage, HasFailed, IsForeign, IsPruned}
use Rattle.section_manager.specs.Sections.{section_key, key_of, IsKeyOf, IsKnown}
use Rattle.section_manager.specs.Setting.{Setting}
use Rattle.section_manager.specs.declared.buffer.SectionBuffer as buffer
use Rattle.section_manager.specs.declared.journal.Error.{Error}
use Rattle.section_manager.specs.declared.journal.Error.TheVariants.{InvalidBlobName}
use Rattle.section_manager.specs.declared.sealed.AppendFactory.{AppendFactory}
use Rattle.section_manager.specs.declared.unopened.Unopened.TheVariants.{Leftover}
use Rattle.segments.specs.FixedBounds.{whole_of, sealed_size, FindsEnd, CuttingTail, IsTailCut, Bounding, IsOpenedCut, Bounds, IsBoundCause}
use Rattle.segments.specs.FixedLists.{Lists, section_bytes, section_size, IsJournal}
use Rattle.segments.proofs.opened.Bounding.{Found, settling_bounding, tail_bounding, opened_cut}
use Rattle.blob_device.proofs.general.Results.{err_with, on_err}

pub if_ok_on : {T E : Type 0} {Q R : T → Type 0} (r : Result T E) → ((v : T) → Q v → R v) → IfOk r Q → IfOk r R
if_ok_on (Ok v) on has = on v has
if_ok_on (Err e) on has = tt

pub none_ends : {T E : Type 0} (Q : T → Type 0) (r : Result T E) (e : E) → r ≡ Err e → IfOk r Q
none_ends Q (Ok v) e is = absurd (cc is)
none_ends Q (Err x) e is = tt

-- a cut names no blob
pub cut_unnamed : {T : Type 0} (r : Result T Error) (floor n m : ℕ) (x : List ℕ) → OnErr r (IsPruned r floor ⊎ (HasDamage r ⊎ HasFailed r n m)) → IsErrOf r (InvalidBlobName x) → ⊥
cut_unnamed (Ok v) floor n m x cause is = cc is
cut_unnamed (Err e) floor n m x cause is = elim cause [
  | inl pruned ↦ cc (pruned, is)
  | inr (inl damage) ↦ (let bad = damage.1 in cc (bad, is))
  | inr (inr (inl none)) ↦ cc (none, is)
  | inr (inr (inr fault)) ↦ (let h = fault.0 in cc (h, is))
]

-- nor does what is passed on of the search for the end
pub end_cut : {T U : Type 0} (r : Result T Error) (e : Error) (floor n m : ℕ) → r ≡ Err e → IsPruned {T = U} (Err e) floor ⊎ HasFailed {T = U} (Err e) n m → OnErr r (IsPruned r floor ⊎ (HasDamage r ⊎ HasFailed r n m))
end_cut {U = U} r e floor n m is cause = on_err r (λ x. elim x [ inl pruned ↦ inl pruned | inr failed ↦ inr (inr failed) ]) (pruned_on {U = U} r e floor n m is cause)

module _ {T D : Type 0} (dev : device.Ghosts D) (seal : List ℕ → ℕ) (P size : ℕ) (p : List ℕ) (last end : ℕ) (r : Result T Error) (old new : D) where
  -- its sections were not opened
  pub unopened_bounds : {U : Type 0} (e : Error) (Ends : T → Type 0) → last < 2 ^ 64 → r ≡ Err e → (dev.Tells → Always (dev.time old) (dev.time new) (Each (IsSettling p last (disk (dev.time old)))))
      → (dev.Tells → (name : List ℕ) → IsForeign (disk (dev.time old)) p name → Unchanged (dev.time old) (dev.time new))
      → (dev.Tells → (name : List ℕ) → IsForeign (disk (dev.time old)) p name → dev.opened new ≡ dev.opened old)
      → ((n : List ℕ) → IsErrOf {T = U} (Err e) (InvalidBlobName n) → dev.opened new ≡ dev.opened old)
      → (dev.Tells → (n : List ℕ) → IsErrOf {T = U} (Err e) (InvalidBlobName n) → IsForeign (disk (dev.time old)) p n)
      → ((q : Key) → ((s : ℕ) → s ≤ last → q ≢ section_key p s) → dev.opened new q ≡ dev.opened old q)
      → dev.faults old ≤ dev.faults new
      → ((n : List ℕ) × IsErrOf {T = U} (Err e) (InvalidBlobName n)) ⊎ HasFailed {T = U} (Err e) (dev.faults old) (dev.faults new)
      → Bounds seal P size p last end dev r old new Ends
  unopened_bounds {U = U} e Ends small is moments untouched unopened entries named others faults cause = record {
    moments = λ t. always_weaker (dev.time old) (dev.time new) (Each (IsSettling p last (disk (dev.time old)))) (Bounding seal P size p last end (disk (dev.time old)))
        (λ d each. settling_bounding seal P size p last end small (disk (dev.time old)) d each) (moments t);
    ends = subst (λ (x : Result T Error). IfOk x Ends) (sym is) tt;
    names = record {
      foreign = λ t name bad. elim cause [
        | inl called ↦ inl (called.0, (let at = called.1 in cc (is, at)))
        | inr failed ↦ inr (failed_on {U = U} r e (dev.faults old) (dev.faults new) is failed)
      ];
      untouched = untouched;
      unopened = unopened;
      named = λ t n of. named t n (error_back {U = U} r e _ is of);
      entries = λ n of. entries n (error_back {U = U} r e _ is of);
    };
    entries = λ q never. others q (λ s le. never s);
    faults = faults;
  }

  pub unopened_cause : {U : Type 0} (e : Error) → r ≡ Err e
      → ((n : List ℕ) × IsErrOf {T = U} (Err e) (InvalidBlobName n)) ⊎ HasFailed {T = U} (Err e) (dev.faults old) (dev.faults new)
      → OnErr r (IsBoundCause seal P size p last end dev r old new)
  unopened_cause {U = U} e is cause = err_with r (elim cause [
    | inl called ↦ inl (called.0, (let at = called.1 in cc (is, at)))
    | inr failed ↦ inr (inl (failed_on {U = U} r e (dev.faults old) (dev.faults new) is failed))
  ])

  -- they were, so no name was refused
  pub opened_bounds : (Ends : T → Type 0) → (dev.Tells → Always (dev.time old) (dev.time new) (Bounding seal P size p last end (disk (dev.time old)))) → IfOk r Ends
      → (dev.Tells → (name : List ℕ) → IsForeign (disk (dev.time old)) p name → ⊥) → ((n : List ℕ) → IsErrOf r (InvalidBlobName n) → ⊥)
      → ((q : Key) → ((s : ℕ) → q ≢ section_key p s) → dev.opened new q ≡ dev.opened old q) → dev.faults old ≤ dev.faults new
      → Bounds seal P size p last end dev r old new Ends
  opened_bounds Ends moments ends never unnamed entries faults = record {
    moments = moments;
    ends = ends;
    names = record {
      foreign = λ t name bad. absurd (never t name bad);
      untouched = λ t name bad. absurd (never t name bad);
      unopened = λ t name bad. absurd (never t name bad);
      named = λ t n of. absurd (unnamed n of);
      entries = λ n of. absurd (unnamed n of);
    };
    entries = entries;
    faults = faults;
  }

  -- sections were opened, and then nothing was written
  pub still_moments : (mid : D) → last < 2 ^ 64 → (dev.Tells → Always (dev.time old) (dev.time mid) (Each (IsSettling p last (disk (dev.time old))))) → (dev.Tells → Unchanged (dev.time mid) (dev.time new))
      → dev.Tells → Always (dev.time old) (dev.time new) (Bounding seal P size p last end (disk (dev.time old)))
  still_moments mid small moments unchanged t = always_weaker (dev.time old) (dev.time new) (Each (IsSettling p last (disk (dev.time old)))) (Bounding seal P size p last end (disk (dev.time old)))
      (λ d each. settling_bounding seal P size p last end small (disk (dev.time old)) d each)
      (always_then (dev.time old) (dev.time mid) (dev.time new) (Each (IsSettling p last (disk (dev.time old)))) (moments t)
      (always_weaker (dev.time mid) (dev.time new) (λ d. d ≡ disk (dev.time mid)) (Each (IsSettling p last (disk (dev.time old))))
      (λ d is. subst (λ (x : Disk). Each (IsSettling p last (disk (dev.time old))) x) (sym is) (always_now (dev.time old) (dev.time mid) (Each (IsSettling p last (disk (dev.time old)))) (moments t))) (unchanged t)))

  -- it was not found where the last one is to be cut
  pub end_cause : {U : Type 0} (e : Error) → r ≡ Err e → (floor mid : ℕ) → dev.faults old ≤ mid → (IsPruned {T = U} (Err e) floor → ⊥) → IsPruned {T = U} (Err e) floor ⊎ HasFailed {T = U} (Err e) mid (dev.faults new)
      → OnErr r (IsBoundCause seal P size p last end dev r old new)
  end_cause {U = U} e is floor mid le unpruned cause = err_with r (elim cause [
    | inl pruned ↦ absurd (unpruned pruned)
    | inr failed ↦ inr (inl (failed_since r (dev.faults old) mid (dev.faults new) le (failed_on {U = U} r e mid (dev.faults new) is failed)))
  ])

  -- only a fault, want of memory or damage that the disk does not tell of is left as a cause
  pub opened_cause : (floor mid : ℕ) → dev.faults old ≤ mid → (IsPruned r floor → ⊥) → (dev.Tells → HasDamage r → ⊥) → OnErr r (IsPruned r floor ⊎ (HasDamage r ⊎ HasFailed r mid (dev.faults new)))
      → OnErr r (IsBoundCause seal P size p last end dev r old new)
  opened_cause floor mid le unpruned untold cause = on_err r (λ is. elim is [
    | inl pruned ↦ absurd (unpruned pruned)
    | inr (inl damage) ↦ inr (inr (damage, λ t. untold t damage))
    | inr (inr failed) ↦ inr (inl (failed_since r (dev.faults old) mid (dev.faults new) le failed))
  ]) cause

-- The journal j was opened, and it was found where its last section is to be cut.
module _ {S D : Type 0} {gs : _} (seal : List ℕ → ℕ) (P size : ℕ) (pos : 1 ≤ size) (g : buffer.Ghosts (PageBlob S gs)) (laws : ArePages g seal) (gives : AppendFactory S → Setting) (dev : device.Ghosts D)
    (j : Lists (AppendFactory S) (PageBlob S gs)) (last end n w : ℕ) (small : last < 2 ^ 64) (p : List ℕ) (same : j.sections.partition ≡ p) (old mid read : D)
    (journal : IsJournal g gives seal size dev.Tells j (dev.opened mid) (disk (dev.time mid))) (found : Found g gives dev.Tells j last (dev.time old) (dev.time mid) p)
    (no_leftover : (s : ℕ) → j.sections.unopened s ≢ Some Leftover) (paged : (gives j.sections.factory).page_size ≡ P) (owes : (s : ℕ) → IsTrue (j.unrecovered s) ↔ (0 < section_size j.sections s))
    (w_is : w ≡ whole_of size end) (ends : FindsEnd seal size dev j.sections last w (Ok n) mid read) where
  pub journal_there : IsJournal g gives seal size dev.Tells j (dev.opened read) (disk (dev.time read))
  journal_there = journal_read g gives seal size dev.Tells j (key_of j.sections last) (dev.opened mid) (dev.opened read) (disk (dev.time mid)) (disk (dev.time read)) ends.entries
      (λ t. unchanged_now (dev.time mid) (dev.time read) (ends.unchanged t)) journal

  found_there : Found g gives dev.Tells j last (dev.time old) (dev.time read) j.sections.partition
  found_there = subst (λ (x : List ℕ). Found g gives dev.Tells j last (dev.time old) (dev.time read) x) (sym same) (record {
    held = found.held;
    unopened = found.unopened;
    bytes = λ t s held. subst (λ (d : Disk). section_bytes j.sections d s ≡ g.holds (gives j.sections.factory) (disk (dev.time old) (section_key p s)).content)
        (sym (unchanged_now (dev.time mid) (dev.time read) (ends.unchanged t))) (found.bytes t s held);
    moments = λ t. always_then (dev.time old) (dev.time mid) (dev.time read) (Each (IsSettling p last (disk (dev.time old)))) (found.moments t)
        (always_weaker (dev.time mid) (dev.time read) (λ d. d ≡ disk (dev.time mid)) (Each (IsSettling p last (disk (dev.time old))))
        (λ d is. subst (λ (x : Disk). Each (IsSettling p last (disk (dev.time old))) x) (sym is) (always_now (dev.time old) (dev.time mid) (Each (IsSettling p last (disk (dev.time old)))) (found.moments t))) (ends.unchanged t));
  })

  cut_at : dev.Tells → whole_of size end < section_size j.sections last → n ≡ sealed_size seal size (j.sections.held last) (disk (dev.time read) (key_of j.sections last)).content (whole_of size end)
  cut_at t lt =
      ends.long t (omega (arith, lt, w_is))
      ∙ ap (λ (d : Disk). sealed_size seal size (j.sections.held last) (d (key_of j.sections last)).content w) (sym (unchanged_now (dev.time mid) (dev.time read) (ends.unchanged t)))
      ∙ ap (λ (x : ℕ). sealed_size seal size (j.sections.held last) (disk (dev.time read) (key_of j.sections last)).content x) w_is

  short_at : section_size j.sections last ≤ whole_of size end → n ≡ whole_of size end
  short_at le = ends.short (omega (arith, le, w_is)) ∙ w_is

  -- the cut is within what is sealed
  pub cut_sealed : dev.Tells → (u : PageBlob S gs) → j.sections.held last ≡ Some u → n < size_of (shown u) → n ≤ length (sealed_prefix seal u.page_size (disk (dev.time read) (key_of j.sections last)).content)
  cut_sealed t u held lt = elim (cases_lt (whole_of size end) (section_size j.sections last)) [
    | inl longer ↦
        let is = cut_at t longer ∙ ap (λ (o : Option (PageBlob S gs)). sealed_size seal size o (disk (dev.time read) (key_of j.sections last)).content (whole_of size end)) held in
        omega (arith, is, div-mul-le_self (min (whole_of size end) (length (sealed_prefix seal u.page_size (disk (dev.time read) (key_of j.sections last)).content))) size)
    | inr le ↦ absurd (omega (arith, short_at le, le, size_here j.sections last u held, lt))
  ]

  -- nothing was cut yet
  pub moments_there : dev.Tells → Always (dev.time old) (dev.time read) (Bounding seal P size p last end (disk (dev.time old)))
  moments_there t = subst (λ (x : List ℕ). Always (dev.time old) (dev.time read) (Bounding seal P size x last end (disk (dev.time old)))) same
      (always_weaker (dev.time old) (dev.time read) (Each (IsSettling j.sections.partition last (disk (dev.time old)))) (Bounding seal P size j.sections.partition last end (disk (dev.time old)))
      (λ d each. settling_bounding seal P size j.sections.partition last end small (disk (dev.time old)) d each) (found_there.moments t))

  pub moments_tail : (new : D) → (dev.Tells → Always (dev.time read) (dev.time new) (CuttingTail seal j last n (disk (dev.time read)))) → dev.Tells → Always (dev.time old) (dev.time new) (Bounding seal P size p last end (disk (dev.time old)))
  moments_tail new tail t = always_then (dev.time old) (dev.time read) (dev.time new) (Bounding seal P size p last end (disk (dev.time old))) (moments_there t)
      (subst (λ (x : List ℕ). Always (dev.time read) (dev.time new) (Bounding seal P size x last end (disk (dev.time old)))) same
      (always_weaker (dev.time read) (dev.time new) (CuttingTail seal j last n (disk (dev.time read))) (Bounding seal P size j.sections.partition last end (disk (dev.time old)))
      (λ d is. tail_bounding seal P size pos g laws gives dev.Tells j last end n small (dev.time old) (dev.time read) (dev.opened read) journal_there found_there no_leftover paged owes cut_at short_at t d is) (tail t)))

  pub opened_tail : (new : D) (k : Lists (AppendFactory S) (PageBlob S gs)) → IsTailCut g gives seal size dev.Tells j last n k (dev.opened new) (disk (dev.time read)) (disk (dev.time new))
      → (dev.Tells → Always (dev.time read) (dev.time new) (CuttingTail seal j last n (disk (dev.time read)))) → (pages : Pages) (write_buffer : ℕ) → ((s : ℕ) → IsSome (j.sections.unopened s) → last < s)
      → ((s : ℕ) → j.floor_of s ≡ 0) → ((s : ℕ) (u : PageBlob S gs) → j.sections.held s ≡ Some u → g.unsettled u ≡ false) → j.sections.factory.pages ≡ pages → j.sections.factory.write_buffer ≡ write_buffer → j.sections.floor ≡ 0
      → IsOpenedCut seal P size p last end g gives dev.Tells pages write_buffer k (dev.opened new) (disk (dev.time old)) (disk (dev.time new))
  opened_tail new k cut tail pages write_buffer no_later floors idle pages_are write_buffer_is floor =
      subst (λ (x : List ℕ). IsOpenedCut seal P size x last end g gives dev.Tells pages write_buffer k (dev.opened new) (disk (dev.time old)) (disk (dev.time new))) same
      (opened_cut seal P size pos g laws gives dev.Tells j last end n small (dev.time old) (dev.time read) (dev.opened read) journal_there found_there no_leftover paged owes cut_at short_at
      (dev.time new) k (dev.opened new) cut tail pages write_buffer no_later floors idle pages_are write_buffer_is floor)

  -- entries change for sections alone
  pub entries_there : ((q : Key) → ((s : ℕ) → s ≤ last → q ≢ section_key p s) → dev.opened mid q ≡ dev.opened old q) → (q : Key) → ((s : ℕ) → q ≢ section_key p s) → dev.opened read q ≡ dev.opened old q
  entries_there opened q never = ends.entries.others q (λ is. never last (is ∙ ap (λ (x : List ℕ). section_key x last) same)) ∙ opened q (λ s le. never s)

  pub entries_tail : (new : D) → ((q : Key) → q ≢ key_of j.sections last
      → (dev.opened new q ≡ dev.opened read q) ⊎ (IsKeyOf j.sections (λ s. IsKnown j.sections s × (last < s)) q × (dev.opened new q ≡ None)))
      → ((q : Key) → ((s : ℕ) → s ≤ last → q ≢ section_key p s) → dev.opened mid q ≡ dev.opened old q) → (q : Key) → ((s : ℕ) → q ≢ section_key p s) → dev.opened new q ≡ dev.opened old q
  entries_tail new tail opened q never = elim (tail q (λ is. never last (is ∙ ap (λ (x : List ℕ). section_key x last) same))) [
    | inl is ↦ is ∙ entries_there opened q never
    | inr gone ↦ absurd (never gone.0.0 (gone.0.2 ∙ ap (λ (x : List ℕ). section_key x gone.0.0) same))
  ]
