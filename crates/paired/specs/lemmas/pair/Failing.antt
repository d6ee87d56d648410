-- A count that rose since a later moment rose since an earlier one.
use Rattle.std.proofs.Common.{ℕ, ◌≤◌, arith}
use Rattle.blob_device.specs.Counts.{Rose}

-- a count that rose since a later moment rose since an earlier one
pub rose_before : (a b c : ℕ) → a ≤ b → Rose b c → Rose a c
rose_before a b c le rose = omega (arith, le, rose)
