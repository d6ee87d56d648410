-- Which pages a range of bytes touches.
use Rattle.std.proofs.Common.{◌≡◌, ◌≢◌, inl, inr, ℕ, ◌+◌, ◌-◌, ◌*◌, ◌/◌, ◌<◌, ◌≤◌, cond, List, length, get_or, sym, ◌∙◌, ap, arith}
use Rattle.std.proofs.lemmas.Bool.{cases_lt, ne_eqb}
use Rattle.std.proofs.lemmas.List.{ext_get_or}
use Rattle.std.proofs.lemmas.Nat.{le-div}
use Rattle.sealed_pages.specs.Reads.{touched}
use Rattle.sealed_pages.specs.SealedPrefix.{place, data_from}
use Rattle.sealed_pages.specs.View.{View}
use Rattle.sealed_pages.specs.lemmas.adopted.Adopt.{get_or-data_from, length-data_from}
use Rattle.blob_device.proofs.general.Numbers.{times_more, times_next}

touched_some : (P m n : ℕ) → 0 < n → touched P m n ≡ (m + n + (P - 1)) / P - m / P
touched_some P m n some = let differ : n ≢ 0 = λ e. omega (arith, e, some) in ap (λ t. cond t 0 ((m + n + (P - 1)) / P - m / P)) (ne_eqb n 0 differ)

-- the pages up to one that is wanted
pub touched_upto : (P m n k : ℕ) → 1 ≤ P → 0 < n → k * P < m + n → k + 1 - m / P ≤ touched P m n
touched_upto P m n k pos some high =
    let reach : (k + 1) * P ≤ m + n + (P - 1) = omega (arith, times_next k P, high, pos) in
    let le : k + 1 ≤ (m + n + (P - 1)) / P = le-div (k + 1) (m + n + (P - 1)) P (omega (arith, pos)) reach in
    omega (arith, le, touched_some P m n some)

-- a page whose end is not past another's begin
pub page_before : (P k j : ℕ) → k * P < j * P → k < j
page_before P k j lt = elim (cases_lt k j) [
  | inl less ↦ less
  | inr le ↦ elim (cases_lt j k) [
    | inl more ↦ absurd (omega (arith, lt, times_more j k P more))
    | inr same ↦ (let e : k ≡ j = omega (arith, le, same) in absurd (omega (arith, lt, ap (λ (x : ℕ). x * P) e)))
  ]
]

-- what was read byte by byte, as a list
pub read_data : (P m n : ℕ) (v : View) (out : List ℕ) → length out ≡ n → ((i : ℕ) → i < n → get_or out i 0 ≡ v (place P (m + i))) → out ≡ data_from P v m n
read_data P m n v out long each = ext_get_or 0 out (data_from P v m n) (long ∙ sym (length-data_from P v n m)) (λ i lt. each i (omega (arith, lt, long)) ∙ sym (get_or-data_from P v n m i (omega (arith, lt, long))))
