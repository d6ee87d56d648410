use Rattle.std.proofs.Common.{◌≤◌, length}
use Rattle.archives.specs.Changes.{MayUse}
use Rattle.value_codec.specs.declared.byte_value.ByteValue.{ByteValue}
use Rattle.archive_bench.proofs.bench.fill.Given as goal

-- The archive may be used, and takes values of the usual length.
abbrev pub invariant-loop-index : goal.invariant-loop-index
invariant-loop-index g l = record {
  usable : MayUse g.A.Archive.meaning g.D.Device l.archive l.dev;
  accepts : (v : ByteValue) → length v ≤ 100 → g.A.Archive.meaning.Accepts l.archive v;
}
