use Rattle.std.proofs.Common.{◌≡◌, ◌*◌, ◌-◌, ◌^◌, ◌<◌, ◌≤◌, ◌++◌, length, take}
use Rattle.value_codec.specs.Varint.{varint}
use Rattle.value_codec.proofs.varint.write_varint64.Given as goal

-- the bytes so far, and the varint of the rest behind them, are the whole
abbrev pub invariant-loop-rest : goal.invariant-loop-rest
invariant-loop-rest l =
    (l.len ≤ 9) × (length l.bytes ≡ 10) × (l.rest < 2 ^ (64 - 7 * l.len)) × (take l.len l.bytes ++ varint l.rest ≡ varint l.v)

abbrev pub decreases-loop-rest : goal.decreases-loop-rest
decreases-loop-rest l = l.rest
