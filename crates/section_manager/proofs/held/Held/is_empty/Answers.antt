use Rattle.section_manager.proofs.sections.HeldLemmas.{none_held, no_number}
use Rattle.section_manager.proofs.held.Held.is_empty.Goals as goal

pub returns : goal.returns
returns g c =
    let s = c.args.self.now in
    (λ yes. none_held s.numbers.keys s.buffers s.same (c.is_empty.ensures.0 yes), λ none. c.is_empty.ensures.1 (no_number s.numbers.keys s.buffers s.same none))
