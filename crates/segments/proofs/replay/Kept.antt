-- Items among the bytes that a replay has at hand.
use Rattle.std.proofs.Common.{◌≡◌, inl, inr, ℕ, ◌+◌, ◌*◌, ◌/◌, ◌%◌, ◌<◌, ◌≤◌, ap, arith}
use Rattle.std.proofs.lemmas.Bool.{cases_lt}
use Rattle.std.proofs.lemmas.Nat.{mul-le}
use Rattle.std.proofs.Math.Nat.{div-mul-le_self}
use Rattle.sealed_pages.specs.SealedPrefix.{data_from}
use Rattle.sealed_pages.specs.View.{View}
use Rattle.segments.specs.FixedItems.{item_at}
use Rattle.blob_device.proofs.general.Numbers.{div_place, times_next}
use Rattle.segments.specs.lemmas.replay.Kept.{range_data}

-- an item among them
pub item_data : (P size n p : ℕ) (v : View) → p * size + size ≤ n → item_at size (data_from P v 0 n) p ≡ data_from P v (p * size) size
item_data P size n p v fits = range_data P (p * size) size n v fits

pub whole_place : (size n p : ℕ) → 1 ≤ size → n / size ≡ p → p * size ≤ n
whole_place size n p pos is = omega (arith, div-mul-le_self n size, ap (λ (x : ℕ). x * size) is)

-- an item that begins within whole items ends within them
pub next_within : (size n p : ℕ) → 1 ≤ size → n % size ≡ 0 → p * size < n → (p + 1) * size ≤ n
next_within size n p pos whole less =
    let count : n / size * size + n % size ≡ n = omega (arith, pos) in
    elim (cases_lt p (n / size)) [
      | inl lt ↦ omega (arith, mul-le (p + 1) size (n / size) size (omega (arith, lt)) (omega arith), count, whole)
      | inr le ↦ absurd (omega (arith, mul-le (n / size) size p size le (omega arith), count, whole, less))
    ]

-- fewer whole items than this have fewer bytes
pub short_item : (size n p start : ℕ) → 1 ≤ size → n / size ≡ p → p < start → n < start * size
short_item size n p start pos is less =
    let below : n < (n / size + 1) * size = omega (arith, (div_place size n (omega (arith, pos))).1, times_next (n / size) size) in
    omega (arith, below, mul-le (n / size + 1) size start size (omega (arith, is, less)) (omega arith))
