use Rattle.std.proofs.Common.{rules}
use Rattle.paired.proofs.oversized.tracking.is_from.Goals as goal

pub returns : goal.returns
returns c = record { section = c.section_of.result; fits = search rules; bytes = c.section_of.ensures; answers = search rules }
