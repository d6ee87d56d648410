use Rattle.std.specs.Prelude.{◌≤◌}
use Rattle.std.specs.Ordering.{is_gt, nat_cmp}
use Rattle.std.proofs.lemmas.Map.Keys.{le_from_not_gt}
use Rattle.section_manager.proofs.sections.HeldLemmas.{end_none, end_held, end_bounds}
use Rattle.section_manager.proofs.held.Held.first.Goals as goal

pub returns-clause-none : goal.returns-clause-none
returns-clause-none g c = end_none c.args.self.now.numbers.keys c.args.self.now.buffers c.args.self.now.same c.first.result c.copied.result c.copied.ensures c.first.ensures.variant

pub returns-clause-held : goal.returns-clause-held
returns-clause-held g c = end_held c.args.self.now.numbers.keys c.args.self.now.buffers c.args.self.now.same c.first.result c.copied.result c.copied.ensures c.first.ensures.member

pub returns-clause-least : goal.returns-clause-least
returns-clause-least g c = end_bounds c.args.self.now.numbers.keys c.args.self.now.buffers c.args.self.now.same (λ k q. is_gt (nat_cmp k q)) (λ k q. k ≤ q) (λ k q. le_from_not_gt k q) c.first.result c.copied.result c.copied.ensures c.first.ensures.least
