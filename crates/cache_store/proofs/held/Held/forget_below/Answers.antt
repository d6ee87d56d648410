use Rattle.std.proofs.Common.{◌-◌}
use Rattle.ordinal_store.specs.Ranges.{set_of}
use Rattle.cache_store.specs.Holding.{offsets_of}
use Rattle.cache_store.proofs.HoldingLemmas.{taken, tied_after}
use Rattle.cache_store.proofs.held.Held.forget_below.Goals as goal

pub returns-clause-held : goal.returns-clause-held
returns-clause-held c = c.keep_from.ensures

pub returns-clause-tied : goal.returns-clause-tied
returns-clause-tied c =
    tied_after c.args.bound (set_of c.args.self.now.indices) (set_of c.remove.new.self) (offsets_of c.args.self.now) _ c.requires.bound
    (taken _ _ (c.args.bound - 1) c.remove.result c.remove.ensures.ok c.remove.ensures.splits) c.requires.tied c.keep_from.ensures
