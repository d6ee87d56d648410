-- The pages of a sealed buffer: what is flushed of them is covered.
use Rattle.std.proofs.Common.{◌≡◌, ℕ, ◌-◌, ◌*◌, ◌<◌, ◌≤◌, ◌||◌, min, Bool, true, false, List, refl, arith}
use Rattle.blob_device.specs.Disk.{Blob}
use Rattle.sealed_pages.specs.Buffer.{Buffer, flushed_of, Holds}
use Rattle.sealed_pages.specs.Reads.{IsCovered, IsShort, below}
use Rattle.sealed_pages.specs.Slots.{slot_length, page_length}
use Rattle.sealed_pages.specs.lemmas.looking.Looking.{page_length_is}

slot_within : (seal : List ℕ → ℕ) (P : ℕ) (c : List ℕ) (k : ℕ) (second : Bool) → slot_length seal P c k second ≤ page_length seal P c k
slot_within seal P c k false = omega (arith, page_length_is seal P c k)
slot_within seal P c k true = omega (arith, page_length_is seal P c k)

module _ (seal : List ℕ → ℕ) (u : Buffer) (all : List ℕ) (b : Blob) (holds : Holds seal u all b) where
  flushed_covered : (k : ℕ) → k * u.page_size < flushed_of u → min u.page_size (flushed_of u - k * u.page_size) ≤ page_length seal u.page_size b.content k
  flushed_covered k lt = go (u.behind || u.torn) refl
    where
      go : (left : Bool) → (u.behind || u.torn) ≡ left → min u.page_size (flushed_of u - k * u.page_size) ≤ page_length seal u.page_size b.content k
      go false clean = let ready = holds.state.ready clean in omega (arith, ready.flushed.covers k lt, slot_within seal u.page_size b.content k (ready.τ k))
      go true left = let adopted = (holds.state.adopted left).0 in omega (arith, adopted.content.covers k lt, slot_within seal u.page_size b.content k (adopted.σ k))

  -- all that is flushed is covered
  pub whole_covered : (n : ℕ) → n ≡ flushed_of u → IsCovered seal u.page_size b.content 0 n
  whole_covered n is k wanted = omega (arith, is, wanted.high, flushed_covered k (omega (arith, is, wanted.high)))

  -- so no page below the tip is refused
  pub whole_read : (m n k : ℕ) → IsShort seal u.page_size b.content m (below u.page_size u.first m n) k → ⊥
  whole_read m n k short = omega (arith, short.short, short.wanted.some, short.wanted.high, flushed_covered k (omega (arith, short.wanted.some, short.wanted.high)))
