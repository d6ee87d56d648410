use Rattle.std.proofs.Common.{sym, ◌∙◌}
use Rattle.section_manager.proofs.sections.HeldLemmas.{both_put, taken_again}
use Rattle.section_manager.proofs.held.Held.insert.Goals as goal

pub invariant_of-self-then-not-was_there : goal.invariant_of-self-then-not-was_there
invariant_of-self-then-not-was_there g c = record {
  same = taken_again c.args.self.now.numbers.keys c.insert.new.self.keys c.args.self.now.buffers c.insert-2.new.self c.args.self.now.same c.args.section c.insert-2.result c.in_ok-was_there.ensures.keys
      c.remove.new.self.keys c.in_ok-was_there.field-0 c.insert-2.ensures.err (sym c.is_err.ensures.value ∙ c.if-is_err.true) c.in_ok-was_there.ensures.added c.if-not-was_there.true c.remove.ensures.keys;
}

pub invariant_of-self-else-is_err : goal.invariant_of-self-else-is_err
invariant_of-self-else-is_err g c = record {
  same = both_put c.args.self.now.numbers.keys c.insert.new.self.keys c.args.self.now.buffers c.insert-2.new.self c.args.self.now.same c.args.section c.insert-2.result c.in_ok-was_there.ensures.keys
      c.args.buffer c.insert-2.ensures.entries (sym c.is_err.ensures.value ∙ c.if-is_err.false);
}
