-- Slots that are marked lie outside those that are cleared, and what a buffer writes for these.
use Rattle.std.proofs.Common.{◌≡◌, ◌≢◌, ◌⊎◌, inl, inr, ℕ, ◌+◌, ◌*◌, ◌-◌, ◌<◌, ◌≤◌, List, [], ◌∷◌, length, false, refl, sym, ◌∙◌, ap, subst, arith}
use Rattle.std.proofs.lemmas.Bool.{cases_lt}
use Rattle.blob_device.specs.Change.{written}
use Rattle.blob_device.specs.Disk.{Key, Outside}
use Rattle.blob_device.specs.Timeline.{Timeline}
use Rattle.sealed_pages.specs.Sparing.{Sparing}
use Rattle.sealed_pages.specs.lemmas.unsealed.Sparing.{sparing_then}
use Rattle.sealed_pages.specs.View.{Within}
use Rattle.std.specs.Prelude.{Bool, Result, Ok, Err, OnErr}
use Rattle.std.specs.Result.{IsErrOf}
use Rattle.blob_device.specs.declared.runtime.RError.{RError}
use Rattle.blob_device.specs.declared.runtime.RError.TheVariants.{OffsetOverflow}
use Rattle.sealed_pages.specs.declared.write_blob.WriteBlob.{WriteBlob}
use Rattle.sealed_pages.specs.unsealed.Writing.{HoldsOnly, WriteBuffer, blob_key, run_of}
use Rattle.ordinal_store.specs.Mending.{IsInMarked, is_marked}
use Rattle.blob_device.specs.Lengths.{length-written}
use Rattle.blob_device.proofs.general.Numbers.{times_more}

-- two slots share no place
pub slots_apart : (p q size i : ℕ) → p ≢ q → Within (q * size) size i → (i < p * size) ⊎ (p * size + size ≤ i)
slots_apart p q size i apart within = elim (cases_lt p q) [
  | inl less ↦ inr (omega (arith, times_more p q size less, within.low))
  | inr not_less ↦ elim (cases_lt q p) [
    | inl more ↦ inl (omega (arith, times_more q p size more, within.high))
    | inr same ↦ absurd (apart (omega (arith, not_less, same)))
  ]
]

-- a slot that is not marked has no place of one that is
pub marked_apart : (size p : ℕ) (bits : List Bool) (i : ℕ) → is_marked bits p ≡ false → IsInMarked size bits i → (i < p * size) ⊎ (p * size + size ≤ i)
marked_apart size p bits i unmarked m = slots_apart p m.position size i (λ same. absurd (cc (sym unmarked ∙ ap (is_marked bits) same ∙ m.marked))) m.within

-- places outside the run, and outside what was put, are outside the run then
pub outside_after : (u r : WriteBuffer) (offset : ℕ) (bytes : List ℕ) (i : ℕ) → HoldsOnly u offset bytes r → Outside (run_of u ∷ []) i → (i < offset) ⊎ (offset + length bytes ≤ i) → Outside (run_of r ∷ []) i
outside_after u r offset bytes i (inl (joins, at, pending)) run put = (grown run.0 put, tt)
  where
    long : length r.pending ≡ length (written u.pending (offset - u.at) bytes)
    long = ap length pending

    grown : (i < u.at) ⊎ (u.at + length u.pending ≤ i) → (i < offset) ⊎ (offset + length bytes ≤ i) → (i < r.at) ⊎ (r.at + length r.pending ≤ i)
    grown (inl before) _ = inl (omega (arith, before, at))
    grown (inr past) (inl before) = absurd (omega (arith, past, before, joins.high))
    grown (inr past) (inr behind) = inr (omega (arith, past, behind, at, joins.low, long, length-written u.pending (offset - u.at) bytes))
outside_after u r offset bytes i (inr (inl (at, pending))) run put = (moved put, tt)
  where
    moved : (i < offset) ⊎ (offset + length bytes ≤ i) → (i < r.at) ⊎ (r.at + length r.pending ≤ i)
    moved (inl before) = inl (omega (arith, before, at))
    moved (inr behind) = inr (omega (arith, behind, at, ap length pending))
outside_after u r offset bytes i (inr (inr none)) run put = (
  elim (cases_lt i r.at) [
    | inl before ↦ inl before
    | inr past ↦ inr (omega (arith, past, ap length none))
  ],
  tt,
)

-- an answer that is no overflow
pub overflow_out : (result : Result WriteBlob RError) (Q : Type 0) → (IsErrOf result OffsetOverflow → ⊥) → OnErr result ((result ≡ Err OffsetOverflow) ⊎ Q) → OnErr result Q
overflow_out (Ok v) Q never cause = cause
overflow_out (Err e) Q never (inl same) = absurd (never (subst (λ (r : Result WriteBlob RError). IsErrOf r OffsetOverflow) (sym same) refl))
overflow_out (Err e) Q never (inr q) = q

-- two runs of calls on one buffer's blob
pub sparing_on : (R : ℕ → Type 0) (u v : WriteBuffer) (a b c : Timeline) → blob_key v ≡ blob_key u → v.settled ≡ u.settled → Sparing R u.settled (blob_key u) a b → Sparing R v.settled (blob_key v) b c → Sparing R u.settled (blob_key u) a c
sparing_on R u v a b c key settled first second =
    sparing_then R u.settled (blob_key u) a b c first
    (subst (λ (k : Key). Sparing R u.settled k b c) key (subst (λ (n : ℕ). Sparing R n (blob_key v) b c) settled second))
