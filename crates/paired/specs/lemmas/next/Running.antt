-- The run of a pair's replay, with another walk.
use Rattle.std.specs.Prelude.{ℕ, Bool, Option}
use Rattle.segments.specs.FixedReplay.{Walk}
use Rattle.paired.specs.Replaying.{Limits, Run}

-- the run with another walk, other ends, and another end of its errors
abbrev pub moved : {F B : Type 0} → Run F B → Walk F B → Limits → Option ℕ → Bool → Run F B
moved run w ends ended failed = record run { walk = w; ends = ends; ended_section = ended; failed = failed }
