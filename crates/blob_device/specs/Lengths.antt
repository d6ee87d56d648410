-- How long contents are after a change. The laws of the device in memory cite these.
use Rattle.std.specs.Prelude.{◌≡◌, ℕ, ◌+◌, ◌-◌, min, max, List, [], ◌∷◌, ◌++◌, length, take, drop, replicate}
use Rattle.std.proofs.Common.{arith, length-append, length-take, length-drop}
use Rattle.std.proofs.Math.ListN.{length-replicate}
use Rattle.blob_device.specs.Disk.{least, greatest}
use Rattle.blob_device.specs.Change.{written, resized}

pub length-written : (old : List ℕ) (at : ℕ) (bytes : List ℕ) → length (written old at bytes) ≡ max (length old) (at + length bytes)
length-written old at bytes = omega (
  arith,
  length-append (take at old ++ replicate (at - length old) 0 ++ bytes) (drop (at + length bytes) old),
  length-append (take at old ++ replicate (at - length old) 0) bytes,
  length-append (take at old) (replicate (at - length old) 0),
  length-take at old,
  length-drop (at + length bytes) old,
  length-replicate {A = ℕ} (at - length old) 0,
)

pub length-resized : (old : List ℕ) (n : ℕ) → length (resized old n) ≡ n
length-resized old n = omega (arith, length-append (take n old) (replicate (n - length old) 0), length-take n old, length-replicate {A = ℕ} (n - length old) 0)

pub least_push : (n : ℕ) (cs : List (List ℕ)) (c : List ℕ) → least n (cs ++ c ∷ []) ≡ min (least n cs) (length c)
least_push n [] c = omega arith
least_push n (d ∷ cs) c = omega (arith, least_push n cs c)

pub greatest_push : (n : ℕ) (cs : List (List ℕ)) (c : List ℕ) → greatest n (cs ++ c ∷ []) ≡ max (greatest n cs) (length c)
greatest_push n [] c = omega arith
greatest_push n (d ∷ cs) c = omega (arith, greatest_push n cs c)
