use Rattle.std.proofs.Common.{sym, ◌∙◌}
use Rattle.section_manager.proofs.sections.HeldLemmas.{held_iff}
use Rattle.section_manager.proofs.held.Held.contains.Goals as goal

pub returns : goal.returns
returns g c =
    let held = held_iff c.args.self.now.numbers.keys c.args.self.now.buffers c.args.self.now.same c.args.section in
    (λ yes. held.0 (sym c.contains.ensures ∙ yes), λ some. c.contains.ensures ∙ held.1 some)
