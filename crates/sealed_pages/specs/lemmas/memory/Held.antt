-- The bytes of a buffer are in memory where the wanted pages below its tip are.
use Rattle.std.proofs.Common.{◌≡◌, inl, inr, ℕ, ◌+◌, ◌*◌, ◌/◌, ◌<◌, ◌≤◌, max, true, sym, ◌∙◌, ap, arith}
use Rattle.std.proofs.lemmas.Bool.{cases_lt}
use Rattle.sealed_pages.specs.Buffer.{Buffer, size_of, is_cached}
use Rattle.sealed_pages.specs.Reads.{IsWanted, IsHeld, below}
use Rattle.sealed_pages.specs.lemmas.looking.Read.{page_before}
use Rattle.blob_device.proofs.general.Numbers.{div_place, times_next}

-- the page that has a byte
pub page_is : (P k i : ℕ) → 0 < P → k * P ≤ i → i < k * P + P → i / P ≡ k
page_is P k i pos low high =
    let at = div_place P i pos in
    let less : i / P < k + 1 = page_before P (i / P) (k + 1) (omega (arith, at.0, high, times_next k P)) in
    let more : k < i / P + 1 = page_before P k (i / P + 1) (omega (arith, at.1, low, times_next (i / P) P)) in
    omega (arith, less, more)

-- the pages of which a byte is wanted
pub wanted_low : (P m n k : ℕ) → 0 < P → IsWanted P m n k → m / P ≤ k
wanted_low P m n k pos w = let less : m / P < k + 1 = page_before P (m / P) (k + 1) (omega (arith, (div_place P m pos).0, w.low, times_next k P)) in omega (arith, less)

-- where all wanted pages below the tip are in memory, all bytes are
pub held_from : (u : Buffer) (m n b : ℕ) → 0 < u.page_size → b ≡ below u.page_size u.first m n → m + n ≤ size_of u → ((k : ℕ) → IsWanted u.page_size m b k → is_cached u k ≡ true) → IsHeld u m n
held_from u m n b pos is fits all i low high = (
  omega (arith, high, fits),
  elim (cases_lt i (u.first * u.page_size)) [
    | inr tip ↦ inl tip
    | inl under ↦ (let at = div_place u.page_size i pos in inr (all (i / u.page_size) (record {
      some = omega (arith, is, low, high, under);
      low = omega (arith, at.1, low);
      high = omega (arith, at.0, is, high, under);
    })))
  ],
)

pub held_to : (u : Buffer) (m n b : ℕ) → 0 < u.page_size → b ≡ below u.page_size u.first m n → IsHeld u m n → (k : ℕ) → IsWanted u.page_size m b k → is_cached u k ≡ true
held_to u m n b pos is held k w =
    let i : ℕ = max m (k * u.page_size) in
    let inside : max m (k * u.page_size) < m + b = omega (arith, w.high, w.some) in
    let here = held (max m (k * u.page_size)) (omega arith) (omega (arith, inside, is)) in
    let page : max m (k * u.page_size) / u.page_size ≡ k = page_is u.page_size k (max m (k * u.page_size)) pos (omega arith) (omega (arith, w.low, pos)) in
    elim here.1 [
      | inl tip ↦ absurd (omega (arith, tip, inside, is))
      | inr has ↦ ap (is_cached u) (sym page) ∙ has
    ]
