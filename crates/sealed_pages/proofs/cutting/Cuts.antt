-- A cut has the first bytes of its content, and a slot that matches covers bytes that are there.
use Rattle.std.proofs.Common.{◌≡◌, inl, inr, ℕ, ◌<◌, ◌≤◌, Bool, List, length, take, sym, ◌∙◌, arith, length-take}
use Rattle.std.proofs.lemmas.Bool.{cases_lt}
use Rattle.std.proofs.lemmas.List.{get_or-take, ext_get_or}
use Rattle.blob_device.specs.Change.{resized}
use Rattle.sealed_pages.specs.Slots.{slot_length}
use Rattle.sealed_pages.specs.lemmas.slots.Slot.{slot_length-le, slot_stands}
use Rattle.sealed_pages.specs.lemmas.slots.Steps.{slot_low}
use Rattle.blob_device.specs.Lengths.{length-resized}
use Rattle.blob_device.specs.Places.{resized_below}

pub resized_take : (c : List ℕ) (n : ℕ) → n ≤ length c → resized c n ≡ take n c
resized_take c n le = ext_get_or 0 (resized c n) (take n c) (omega (arith, length-resized c n, length-take n c, le))
    (λ i lt. let inside : i < n = omega (arith, lt, length-resized c n) in resized_below c n i inside ∙ sym (get_or-take n c i 0 inside))

-- a slot that matches covers bytes that are there
pub covered_inside : (seal : List ℕ → ℕ) (P : ℕ) (c : List ℕ) (b : Bool) (n : ℕ) → n ≡ slot_length seal P c 0 b → n ≤ length c
covered_inside seal P c b n is = elim (cases_lt 0 n) [
  | inl some ↦ omega (arith, is, slot_stands seal P c 0 b (omega (arith, some, is)), slot_length-le seal P c 0 b, slot_low P 0 b)
  | inr none ↦ omega (arith, none)
]
