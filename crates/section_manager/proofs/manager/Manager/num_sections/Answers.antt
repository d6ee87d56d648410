use Rattle.std.proofs.Common.{◌∙◌}
use Rattle.section_manager.proofs.CountLemmas.{counted}
use Rattle.section_manager.proofs.manager.Manager.num_sections.Goals as goal

pub returns : goal.returns
returns g c numbers ascending each = c.len.ensures.len ∙ counted c.args.self.now.held.buffers numbers c.len.ensures.ordered ascending each
