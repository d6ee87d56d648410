-- What a call of a pair that fails passes on of the call below it.
use Rattle.std.proofs.Common.{◌≡◌, ◌⊎◌, ◌≤◌, inl, inr, ℕ, Option, None, Some, Result, Ok, Err, OnErr, IfOk, refl, ap, arith}
use Rattle.std.specs.Option.{ok_or}
use Rattle.std.specs.Result.{IsErr, IsErrOf}
use Rattle.blob_device.specs.Disk.{Key}
use Rattle.blob_device.specs.Opened.{OpenedList}
use Rattle.sealed_pages.specs.declared.page_blob.PageBlob.{PageBlob}
use Rattle.sealed_pages.specs.Entries.{ReadsAtMost}
use Rattle.section_manager.specs.declared.journal.Error.{Error}
use Rattle.section_manager.specs.declared.journal.Error.TheVariants.{Full, AlreadyPrunedToSection, OffsetOverflow}
use Rattle.section_manager.specs.Refusing.{HasFailed, IsPruned}
use Rattle.section_manager.specs.Sections.{Sections}
use Rattle.segments.specs.FixedLists.{section_size, size_held}
use Rattle.segments.specs.FixedReading.{IsAbsent, HasNotRead}
use Rattle.paired.specs.PairRefusing.{HasLostMarkers}
use Rattle.paired.proofs.FailLemmas.{failed_as}
use Rattle.paired.proofs.pair.Failing.{failed_before}
use Rattle.blob_device.proofs.general.Results.{err_with}

-- nothing is said of the value of a call that failed
pub no_value : {T E : Type 0} (P : T → Type 0) (r : Result T E) → IsErr r → IfOk r P
no_value P (Ok v) is = absurd (cc is)
no_value P (Err e) is = tt

-- want of memory, or a fault, below the markers
module _ {T U : Type 0} (r : Result T Error) (e : Error) (n m l : ℕ) (is : r ≡ Err e) (failed : HasFailed {T = U} (Err e) m l) where
  pub failed_cause : n ≤ m → OnErr r (IsErrOf r Full ⊎ (HasFailed r n l ⊎ HasLostMarkers r n l))
  failed_cause le = err_with r (inr (inl (failed_before {r = r} (failed_as {U = U} r e m l is failed) le)))

  pub failed_full : IsErrOf r Full → ⊥
  failed_full full = elim failed [ inl none ↦ cc (is, none, full) | inr fault ↦ (let h = fault.0 in cc (is, h, full)) ]

  pub failed_lost : HasLostMarkers r n l → ⊥
  failed_lost lost = (let lost_is = lost.0 in elim failed [
    | inl none ↦ cc (is, none, lost_is)
    | inr fault ↦ (let h = fault.0 in cc (is, h, lost_is))
  ])

-- a failure of a sync with its markers, as it is
pub tracked_on : {T U : Type 0} (r : Result T Error) (e : Error) (floor n m : ℕ) → r ≡ Err e
    → IsPruned {T = U} (Err e) floor ⊎ (IsErrOf {T = U} (Err e) Full ⊎ (HasFailed {T = U} (Err e) n m ⊎ HasLostMarkers {T = U} (Err e) n m))
    → OnErr r (IsPruned r floor ⊎ (IsErrOf r Full ⊎ (HasFailed r n m ⊎ HasLostMarkers r n m)))
tracked_on {U = U} r e floor n m is cause = err_with r (elim cause [
  | inl pruned ↦ inl (cc (is, pruned))
  | inr (inl full) ↦ inr (inl (cc (is, full)))
  | inr (inr (inl failed)) ↦ inr (inr (inl (failed_as {U = U} r e n m is failed)))
  | inr (inr (inr (lost, rose))) ↦ inr (inr (inr (cc (is, lost), rose)))
])

-- a refusal of a section, as it is
module _ {T U : Type 0} (r : Result T Error) (e : Error) (floor : ℕ) (is : r ≡ Err e) (pruned : IsPruned {T = U} (Err e) floor) where
  pub pruned_cause : (Q : Type 0) → OnErr r (IsPruned r floor ⊎ Q)
  pruned_cause Q = err_with r (inl (cc (is, pruned)))

  pub pruned_else : (x : Error) → (AlreadyPrunedToSection floor ≡ x → ⊥) → IsErrOf r x → ⊥
  pruned_else x other bad = other (cc (is, pruned, bad))

-- why the last record was not answered, where its section is held
module _ {T U : Type 0} (r : Result T Error) (e : Error) (section floor n m : ℕ) (is : r ≡ Err e) (held : IsAbsent {T = U} (Err e) section → ⊥)
    (cause : IsPruned {T = U} (Err e) floor ⊎ (IsAbsent {T = U} (Err e) section ⊎ HasNotRead {T = U} (Err e) n m)) where
  pub last_cause : (Q : Type 0) → OnErr r (IsPruned r floor ⊎ (Q ⊎ HasNotRead r n m))
  last_cause Q = err_with r (elim cause [
    | inl pruned ↦ inl (cc (is, pruned))
    | inr (inl absent) ↦ absurd (held absent)
    | inr (inr (inl (k, damaged))) ↦ inr (inr (inl (k, cc (is, damaged))))
    | inr (inr (inr (inl (x, refused)))) ↦ inr (inr (inr (inl (x, cc (is, refused)))))
    | inr (inr (inr (inr failed))) ↦ inr (inr (inr (inr (failed_as {U = U} r e n m is failed))))
  ])

  pub last_overflow : IsErrOf r OffsetOverflow → ⊥
  last_overflow bad = elim cause [
    | inl pruned ↦ cc (is, pruned, bad)
    | inr (inl absent) ↦ held absent
    | inr (inr (inl (k, damaged))) ↦ cc (is, damaged, bad)
    | inr (inr (inr (inl (x, refused)))) ↦ cc (is, refused, bad)
    | inr (inr (inr (inr (inl none)))) ↦ cc (is, none, bad)
    | inr (inr (inr (inr (inr (fault, rose))))) ↦ cc (is, fault, bad)
  ]

-- a sum that does not fit is refused with this error alone
pub sum_error : (o : Option ℕ) (e f : Error) (r : Result ℕ Error) → r ≡ ok_or o e → IsErrOf r f → r ≡ Err e
sum_error None e f r is bad = is
sum_error (Some n) e f r is bad = absurd (cc (is, bad))

pub sum_cause : (P Q : Type 0) (o : Option ℕ) (e : Error) (r : Result ℕ Error) → r ≡ ok_or o e → OnErr r (P ⊎ (IsErrOf r e ⊎ Q))
sum_cause P Q None e r is = err_with r (inr (inl is))
sum_cause P Q (Some n) e (Ok v) is = tt
sum_cause P Q (Some n) e (Err x) is = absurd (cc is)

-- no call, no read
pub reads_still : (n : ℕ) (k : Key) (old : OpenedList) → ReadsAtMost n k old old
reads_still n k old = record { others = λ q other. refl; length = λ len is. is; reads = omega arith }

-- a section with bytes is held
pub not_empty : {F S : Type 0} {gs : _} (m : Sections F (PageBlob S gs)) (s : ℕ) → (section_size m s ≡ 0 → ⊥) → m.held s ≡ None → ⊥
not_empty m s some none = some (ap size_held none)

-- a section below the floor, or such a failure, before the markers
module _ {T U : Type 0} (r : Result T Error) (e : Error) (floor n m : ℕ) (is : r ≡ Err e) (cause : IsPruned {T = U} (Err e) floor ⊎ HasFailed {T = U} (Err e) n m) where
  pub settled_cause : OnErr r (IsPruned r floor ⊎ (IsErrOf r Full ⊎ (HasFailed r n m ⊎ HasLostMarkers r n m)))
  settled_cause = err_with r (elim cause [
    | inl pruned ↦ inl (cc (is, pruned))
    | inr failed ↦ inr (inr (inl (failed_as {U = U} r e n m is failed)))
  ])

  pub settled_full : IsErrOf r Full → ⊥
  settled_full full = elim cause [
    | inl pruned ↦ cc (is, pruned, full)
    | inr (inl none) ↦ cc (is, none, full)
    | inr (inr (fault, rose)) ↦ cc (is, fault, full)
  ]

  pub settled_lost : HasLostMarkers r n m → ⊥
  settled_lost (lost, more) = elim cause [
    | inl pruned ↦ cc (is, pruned, lost)
    | inr (inl none) ↦ cc (is, none, lost)
    | inr (inr (fault, rose)) ↦ cc (is, fault, lost)
  ]
