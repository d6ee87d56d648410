use Rattle.archives.specs.Changes.{MayUse}
use Rattle.archive_bench.proofs.looking.look_up.Given as goal

-- The archive may be used.
abbrev pub invariant-loop-index : goal.invariant-loop-index
invariant-loop-index g l = record {
  usable : MayUse g.A.Archive.meaning g.D.Device l.archive l.dev;
}
