use Rattle.archives.specs.Changes.{MayUse}
use Rattle.archive_bench.proofs.bench.looked_up.Given as goal

-- The archive may be used.
abbrev pub invariant-loop-look : goal.invariant-loop-look
invariant-loop-look g l = record {
  usable : MayUse g.A.Archive.meaning g.D.Device l.archive l.dev;
}
