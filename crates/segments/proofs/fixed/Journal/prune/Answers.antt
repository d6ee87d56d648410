use Rattle.section_manager.specs.lemmas.Seen.{err_seen}
use Rattle.segments.specs.FixedShown.{flagged, shown}
use Rattle.segments.proofs.cutting.RemovingEnds.{prune_failed, pruned_all}
use Rattle.segments.proofs.fixed.Journal.prune.Goals as goal

pub returns-in_err-manager : goal.returns-in_err-manager
returns-in_err-manager g c = prune_failed _ _ _ _ _ (shown c.args.self) _ _ _ _ _ (err_seen flagged c.from_residual.result _ c.from_residual.ensures.1) c.in_err-manager.ensures

pub returns : goal.returns
returns g c =
    pruned_all _ _ _ _ _ (shown c.args.self) _ _ _ _ _ c.requires.over c.in_ok-manager.ensures c.forget_below.ensures.below c.forget_below.ensures.others c.lift_below.ensures.below c.lift_below.ensures.others
