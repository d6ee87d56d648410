-- Why an append to a fixed journal fails, and the append of one item as one of bytes.
use Rattle.std.proofs.Common.{◌≡◌, ◌⊎◌, ◌∙◌, inl, inr, ℕ, ◌+◌, ◌^◌, ◌<◌, ◌≤◌, List, length, Some, Result, Ok, Err, OnErr, sym, ap, subst, arith}
use Rattle.std.specs.Result.{IsErrOf}
use Rattle.blob_device.specs.Counts.{Rose}
use Rattle.blob_device.specs.declared.device.Device as device
use Rattle.blob_device.specs.declared.runtime.RError.{RError}
use Rattle.blob_device.specs.declared.runtime.RError.TheVariants as runtime
use Rattle.sealed_pages.specs.Buffer.{extent, size_of}
use Rattle.sealed_pages.specs.Shown.{shown}
use Rattle.sealed_pages.specs.declared.page_blob.PageBlob.{PageBlob}
use Rattle.section_manager.specs.Refusing.{HasFailed, IsPruned}
use Rattle.section_manager.specs.Setting.{Setting}
use Rattle.section_manager.specs.declared.buffer.SectionBuffer as buffer
use Rattle.section_manager.specs.declared.journal.Error.{Error}
use Rattle.section_manager.specs.declared.journal.Error.TheVariants.{AlreadyPrunedToSection, Full}
use Rattle.section_manager.specs.declared.sealed.AppendFactory.{AppendFactory}
use Rattle.segments.specs.FixedAdding.{Appends, Overfills, WouldOverfill}
use Rattle.segments.specs.FixedFull.{full_or_raised_of}
use Rattle.segments.specs.FixedLists.{Lists, section_size, size_held}
use Rattle.segments.proofs.adding.AppendLemmas.{first_fits}
use Rattle.blob_device.proofs.general.Options.{has_value, none_or_value}

-- an answer and what it says, under another name
pub answer_as : {T D : Type 0} (P : Result T Error → D → Type 0) (r : Result T Error) (e : Error) (d : D) → r ≡ Err e → P (Err e) d → P r d
answer_as P r e d is has = subst (λ x. P x d) (sym is) has

-- ---- the errors

pub buffer_error : {U : Type 0} (r : Result U RError) (e x : RError) → r ≡ Err e → IsErrOf r x → e ≡ x
buffer_error r e x is of = cc (is, of)

pub buffer_well : {U : Type 0} (r : Result U RError) (v : U) (x : RError) → r ≡ Ok v → IsErrOf r x → ⊥
buffer_well r v x is of = cc (is, of)

-- a section below the floor is not full
module _ {T : Type 0} (e : Error) (floor : ℕ) (pruned : e ≡ AlreadyPrunedToSection floor) where
  pub pruned_not_full : IsErrOf {T = T} (Err e) Full → ⊥
  pruned_not_full is = cc (is, pruned)

-- a `take` that failed found no section full
pub taken_not_full : {T U : Type 0} (e : Error) (floor n m : ℕ) → IsPruned {T = U} (Err e) floor ⊎ HasFailed {T = U} (Err e) n m
    → IsErrOf {T = T} (Err e) Full → ⊥
taken_not_full e floor n m cause full = elim cause [
  | inl pruned ↦ cc (pruned, full)
  | inr (inl none) ↦ cc (none, full)
  | inr (inr (fault, rose)) ↦ cc (fault, full)
]

pub taken_cause : {T U : Type 0} (e : Error) (floor n m : ℕ) → IsPruned {T = U} (Err e) floor ⊎ HasFailed {T = U} (Err e) n m
    → IsPruned {T = T} (Err e) floor ⊎ (IsErrOf {T = T} (Err e) Full ⊎ HasFailed {T = T} (Err e) n m)
taken_cause e floor n m cause = elim cause [
  | inl pruned ↦ inl (cc pruned)
  | inr (inl none) ↦ inr (inr (inl (cc none)))
  | inr (inr (fault, rose)) ↦ inr (inr (inr (cc fault, rose)))
]

-- What an append of the buffer failed by: the section is full, or there was no memory, or the device failed.
pub record Why (e : Error) (n m : ℕ) : Type 0 where
  pub raw : RError
  pub is : e ≡ full_or_raised_of raw
  pub which : (raw ≡ runtime.OffsetOverflow) ⊎ ((raw ≡ runtime.Mem) ⊎ ((raw ≡ runtime.Fault) × Rose n m))

pub why_of : {U : Type 0} (r : Result U RError) (e : Error) (x : RError) (n m : ℕ) → r ≡ Err x → e ≡ full_or_raised_of x
    → OnErr r ((r ≡ Err runtime.OffsetOverflow) ⊎ ((r ≡ Err runtime.Mem) ⊎ ((r ≡ Err runtime.Fault) × Rose n m))) → Why e n m
why_of {U = U} r e x n m was is cause =
    let at = subst (λ (y : Result U RError). OnErr y ((y ≡ Err runtime.OffsetOverflow) ⊎ ((y ≡ Err runtime.Mem) ⊎ ((y ≡ Err runtime.Fault) × Rose n m)))) was cause in
    record {
      raw = x;
      is = is;
      which = elim at [
        | inl over ↦ inl (cc over)
        | inr (inl none) ↦ inr (inl (cc none))
        | inr (inr (fault, rose)) ↦ inr (inr (cc fault, rose))
      ];
    }

module _ {T : Type 0} (e : Error) (n m : ℕ) (why : Why e n m) where
  pub why_not_pruned : (floor : ℕ) → IsPruned {T = T} (Err e) floor → ⊥
  why_not_pruned floor pruned = elim why.which [
    | inl over ↦ cc (pruned, why.is ∙ ap full_or_raised_of over)
    | inr (inl none) ↦ cc (pruned, why.is ∙ ap full_or_raised_of none)
    | inr (inr (fault, rose)) ↦ cc (pruned, why.is ∙ ap full_or_raised_of fault)
  ]

  pub why_cause : (floor first : ℕ) → first ≤ n
      → IsPruned {T = T} (Err e) floor ⊎ (IsErrOf {T = T} (Err e) Full ⊎ HasFailed {T = T} (Err e) first m)
  why_cause floor first le = elim why.which [
    | inl over ↦ inr (inl (ap Err (why.is ∙ ap full_or_raised_of over)))
    | inr (inl none) ↦ inr (inr (inl (ap Err (why.is ∙ ap full_or_raised_of none))))
    | inr (inr (fault, rose)) ↦ inr (inr (inr (ap Err (why.is ∙ ap full_or_raised_of fault), omega (arith, le, rose))))
  ]

-- ---- the same append, of an item

module _ {S : Type 0} {gs : _} (j : Lists (AppendFactory S) (PageBlob S gs)) (s : ℕ) where
  -- One item always fits into an empty section.
  pub item_overfills : (n : ℕ) → 1 ≤ j.sections.factory.pages.page_size → j.sections.factory.pages.page_size < 2 ^ 16 → n ≤ 65535
      → ((u : PageBlob S gs) → j.sections.held s ≡ Some u → u.page_size ≡ j.sections.factory.pages.page_size) → WouldOverfill j s n → Overfills j s n
  item_overfills n pos small few page big = elim (none_or_value (j.sections.held s)) [
    | inl none ↦
        let long : section_size j.sections s ≡ 0 = ap size_held none in
        let alone : section_size j.sections s + n ≡ n = omega (arith, long) in
        absurd (omega (arith, big, ap (extent j.sections.factory.pages.page_size) alone, first_fits j.sections.factory.pages.page_size n pos small few))
    | inr w ↦ has_value (j.sections.held s) (λ u. 2 ^ 64 ≤ extent u.page_size (size_of (shown u) + n)) w.0 w.1
        (subst (λ (p : ℕ). 2 ^ 64 ≤ extent p (size_of (shown w.0) + n)) (sym (page w.0 w.1))
        (subst (λ (m : ℕ). 2 ^ 64 ≤ extent j.sections.factory.pages.page_size (m + n)) (ap size_held w.1) big))
  ]

module _ {S D T : Type 0} {gs : _} (seal : List ℕ → ℕ) (size : ℕ) (g : buffer.Ghosts (PageBlob S gs)) (gives : AppendFactory S → Setting) (dev : device.Ghosts D)
    (j : Lists (AppendFactory S) (PageBlob S gs)) (s : ℕ) (old new : D) (r : Result T Error) (see : T → Lists (AppendFactory S) (PageBlob S gs) × ℕ) where
  -- too many bytes by another name
  pub too_many_as : (spelled : List ℕ) (n : ℕ) (P Q : Type 0) → (P → Q) → Appends j s g gives seal size spelled n P dev r see old new → Appends j s g gives seal size spelled n Q dev r see old new
  too_many_as spelled n P Q so did = record {
    over = did.over;
    position = did.position;
    size = did.size;
    bytes = did.bytes;
    tail = did.tail;
    held = did.held;
    settled = did.settled;
    others = did.others;
    spares = did.spares;
    bounds = did.bounds;
    unrecovered = did.unrecovered;
    floors = did.floors;
    alone = did.alone;
    moments = did.moments;
    sealed = did.sealed;
    steady = did.steady;
    made = did.made;
    below = did.below;
    entries = did.entries;
    guard = did.guard;
    refuses = did.refuses;
    full = λ is which. so (did.full is which);
    full_first = did.full_first;
    room = did.room;
    faults = did.faults;
    cause = did.cause;
  }

  pub item_appended : (bytes spelled : List ℕ) (n : ℕ) → bytes ≡ spelled → length spelled ≡ n → (WouldOverfill j s n → Overfills j s n)
      → Appends j s g gives seal size bytes (length bytes) (WouldOverfill j s (length bytes)) dev r see old new → Appends j s g gives seal size spelled n (Overfills j s n) dev r see old new
  item_appended bytes spelled n same long so did =
      too_many_as spelled n (WouldOverfill j s n) (Overfills j s n) so
      (subst (λ (m : ℕ). Appends j s g gives seal size spelled m (WouldOverfill j s m) dev r see old new) long
      (subst (λ (l : List ℕ). Appends j s g gives seal size l (length l) (WouldOverfill j s (length l)) dev r see old new) same did))
