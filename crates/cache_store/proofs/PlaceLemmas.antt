-- Sections are named by their first index.
use Rattle.std.specs.Prelude.{◌≡◌, ℕ, ◌*◌, ◌/◌, ◌<◌, ◌≤◌}
use Rattle.std.proofs.Common.{sym, ap, arith}
use Rattle.std.proofs.Math.Nat.{div-mul-le_self, mul-div_cancel, mul-le-mul_right}
use Rattle.std.proofs.lemmas.Nat.{le-div}
use Rattle.cache_store.specs.Machine.{section_of}

-- a section begins at its own number
pub section_again : (items index : ℕ) → 1 ≤ items → section_of items (section_of items index) ≡ section_of items index
section_again items index some = ap (λ (n : ℕ). n * items) (mul-div_cancel (index / items) (omega (arith, some)))

-- an index from the start of a section on lies in no earlier one
pub section_from : (items floor index : ℕ) → 1 ≤ items → section_of items floor ≡ floor → floor ≤ index → floor ≤ section_of items index
section_from items floor index some start high =
    let less : floor / items ≤ index / items = le-div (floor / items) index items (omega (arith, some)) (omega (arith, start, high)) in
    omega (arith, sym start, mul-le-mul_right items less)

-- and one below it lies in an earlier one
pub section_below : (items floor index : ℕ) → index < floor → section_of items index < floor
section_below items floor index low = omega (arith, div-mul-le_self index items, low)

-- the first section begins at 0
pub first_section : (items : ℕ) → section_of items 0 ≡ 0
first_section items = (let less = div-mul-le_self 0 items in omega (arith, less))
