use Rattle.std.proofs.Common.{arith}
use Rattle.std.specs.BTreeMap.{get}
use Rattle.std.specs.Ordering.{nat_cmp}
use Rattle.blob_device.proofs.general.Results.{err_of}
use Rattle.segments.specs.lemmas.adding.Write.{are_pages}
use Rattle.variable_journal.specs.Shown as journal
use Rattle.cache_store.specs.Holding.{indices_of, offsets_of}
use Rattle.cache_store.specs.Shown.{shown}
use Rattle.cache_store.proofs.CallLemmas.{prune_low}
use Rattle.cache_store.proofs.LayoutLemmas.{same_layout}
use Rattle.cache_store.proofs.PruneLemmas.{pruned_not, pruned_so}
use Rattle.cache_store.proofs.cache.Cache.prune.Goals as goal

-- the bound is at or below the floor
pub returns-then-bound-self : goal.returns-then-bound-self
returns-then-bound-self g c =
    prune_low _ _ g.D.Device (shown g.V.Codec.refusal c.args.self) (are_pages g.row.S g.S.Seal g.S.Seal-dict) c.args.dev.now c.requires.over _ c.args.min (omega (arith, c.section_of-bound.ensures, c.if-bound-self.true))

pub forget_below-requires-clause-tied : goal.forget_below-requires-clause-tied
forget_below-requires-clause-tied g c = c.requires.over.indices

pub forget_below-requires-clause-bound : goal.forget_below-requires-clause-bound
forget_below-requires-clause-bound g c = omega (arith, c.if-bound-self.false)

-- the journal's prune failed
pub returns-in_err-journal : goal.returns-in_err-journal
returns-in_err-journal g c =
    rw (err_of c.from_residual.result c.in_err-journal.field-0.0 c.from_residual.ensures.1)
    (pruned_not _ _ g.D.Device (shown g.V.Codec.refusal c.args.self) (are_pages g.row.S g.S.Seal g.S.Seal-dict) c.args.dev.now c.requires.over
    c.args.min c.section_of-bound.result c.section_of-bound.ensures (omega (arith, c.if-bound-self.false)) _ c.prune.new.dev _ _ c.in_err-journal.ensures)

-- the sections below are gone
pub returns : goal.returns
returns g c =
    pruned_so _ _ g.D.Device (shown g.V.Codec.refusal c.args.self) (are_pages g.row.S g.S.Seal g.S.Seal-dict) c.args.dev.now c.requires.over
    c.args.min c.section_of-bound.result c.section_of-bound.ensures (omega (arith, c.if-bound-self.false)) _ c.prune.new.dev (journal.shown c.in_ok-journal.journal) _ _ c.in_ok-journal.ensures _
    (same_layout g.S.Seal.seal_of c.args.self.items_per_blob g.V.Codec.refusal _ _ _ _ c.in_ok-journal.ensures.place c.in_ok-journal.ensures.config)
    (offsets_of c.forget_below.new.self) c.forget_below.ensures.held (indices_of c.forget_below.new.self) c.forget_below.ensures.tied
    (get nat_cmp c.keep_from.new.map) c.keep_from.ensures
