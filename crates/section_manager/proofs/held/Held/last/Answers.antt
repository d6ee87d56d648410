use Rattle.std.specs.Prelude.{◌≤◌}
use Rattle.std.specs.Ordering.{is_lt, nat_cmp}
use Rattle.std.proofs.lemmas.Map.Keys.{ge_from_not_lt}
use Rattle.section_manager.proofs.sections.HeldLemmas.{end_none, end_held, end_bounds}
use Rattle.section_manager.proofs.held.Held.last.Goals as goal

pub returns-clause-none : goal.returns-clause-none
returns-clause-none g c = end_none c.args.self.now.numbers.keys c.args.self.now.buffers c.args.self.now.same c.last.result c.copied.result c.copied.ensures c.last.ensures.variant

pub returns-clause-held : goal.returns-clause-held
returns-clause-held g c = end_held c.args.self.now.numbers.keys c.args.self.now.buffers c.args.self.now.same c.last.result c.copied.result c.copied.ensures c.last.ensures.member

pub returns-clause-greatest : goal.returns-clause-greatest
returns-clause-greatest g c = end_bounds c.args.self.now.numbers.keys c.args.self.now.buffers c.args.self.now.same (λ k q. is_lt (nat_cmp k q)) (λ k q. q ≤ k) (λ k q. ge_from_not_lt k q) c.last.result c.copied.result c.copied.ensures c.last.ensures.greatest
