use Rattle.std.proofs.Common.{IsSome}
use Rattle.power_cut_tests.proofs.device_trial.visited.Given as goal

-- The blob is open.
abbrev pub invariant-loop-change : goal.invariant-loop-change
invariant-loop-change g l = IsSome (g.D.Device.opened l.dev (l.partition, l.name))
