use Rattle.std.proofs.Common.{sym, subst}
use Rattle.std.specs.Prelude.{List, ℕ}
use Rattle.std.specs.BTreeMap.Range.{range_contains}
use Rattle.std.specs.List.Sorted.{IsStrictlySortedBy}
use Rattle.std.specs.Ordering.{nat_cmp}
use Rattle.std.specs.declared.ops.Bound.TheVariants.{Included, Unbounded}
use Rattle.std.proofs.lemmas.List.Kept.{IsStrictlySortedBy-filter}
use Rattle.section_manager.proofs.sections.HeldLemmas.{from_each}
use Rattle.section_manager.proofs.held.Held.from.Goals as goal

pub returns-clause-ascending : goal.returns-clause-ascending
returns-clause-ascending g c = subst (λ (xs : List ℕ). IsStrictlySortedBy nat_cmp xs) (sym (c.range.ensures.between tt))
    (IsStrictlySortedBy-filter nat_cmp (range_contains nat_cmp (Included c.args.start) Unbounded) c.args.self.now.numbers.keys c.range.ensures.ordered)

pub returns-clause-each : goal.returns-clause-each
returns-clause-each g c = from_each c.args.self.now.numbers.keys c.args.self.now.buffers c.args.self.now.same c.range.result c.args.start (c.range.ensures.between tt)
