use Rattle.std.proofs.Common.{◌≡◌, ◌++◌}
use Rattle.meta_store.proofs.metadata.Metadata.holding.Given as goal

abbrev pub invariant-entries : goal.invariant-entries
invariant-entries g l = l.map.entries ++ l.key-iterator.rest.items ≡ l.fn.chosen.contents.entries
