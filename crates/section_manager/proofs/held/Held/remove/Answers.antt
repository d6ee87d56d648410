use Rattle.std.proofs.Common.{sym, ◌∙◌, ap}
use Rattle.std.specs.BTreeMap.{is_at}
use Rattle.std.specs.Map.{keys_of}
use Rattle.std.specs.Ordering.{nat_cmp}
use Rattle.std.specs.Set.{remove_key}
use Rattle.section_manager.proofs.sections.HeldLemmas.{keys-remove_entry}
use Rattle.section_manager.proofs.held.Held.remove.Goals as goal

pub invariant_of-self : goal.invariant_of-self
invariant_of-self g c = record {
  same = c.remove.ensures.keys ∙ ap (remove_key (is_at (nat_cmp c.args.section))) c.args.self.now.same
      ∙ sym (ap keys_of c.remove-2.ensures.entries ∙ keys-remove_entry (is_at (nat_cmp c.args.section)) c.args.self.now.buffers.entries);
}
