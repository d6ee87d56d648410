-- A write of no bytes changes nothing.
use Rattle.std.proofs.Common.{◌≡◌, inl, inr, ℕ, ◌≤◌, List, [], length, arith}
use Rattle.std.proofs.lemmas.Bool.{cases_lt}
use Rattle.std.proofs.lemmas.List.{ext_get_or}
use Rattle.blob_device.specs.Change.{written}
use Rattle.blob_device.specs.Lengths.{length-written}
use Rattle.blob_device.specs.Places.{written_out}

-- no bytes within a content change nothing
pub written_nothing : (c : List ℕ) (at : ℕ) → at ≤ length c → written c at [] ≡ c
written_nothing c at within = ext_get_or 0 (written c at []) c (omega (arith, length-written c at [], within))
    (λ i lt. elim (cases_lt i at) [ inl below ↦ written_out c at [] i (inl below) | inr past ↦ written_out c at [] i (inr (omega (arith, past))) ])
