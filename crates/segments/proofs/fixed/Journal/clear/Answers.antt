use Rattle.std.proofs.Common.{rules, ℕ, List, ap}
use Rattle.std.specs.BTreeMap.{is_at}
use Rattle.std.specs.List.{list_any}
use Rattle.std.specs.Ordering.{nat_cmp}
use Rattle.section_manager.specs.lemmas.Seen.{err_seen}
use Rattle.segments.specs.FixedShown.{shown}
use Rattle.segments.proofs.cutting.RemovingEnds.{clear_failed, cleared_all}
use Rattle.segments.proofs.fixed.Journal.clear.Goals as goal

pub returns-in_err-this : goal.returns-in_err-this
returns-in_err-this g c = clear_failed _ _ _ _ _ (shown c.args.self) _ _ _ _ (err_seen shown c.from_residual.result _ c.from_residual.ensures.1) c.in_err-this.ensures

pub returns : goal.returns
returns g c = cleared_all _ _ _ _ _ (shown c.args.self) _ _ _ c.in_ok-this.ensures (λ s. ap (λ (ks : List ℕ). list_any (is_at (nat_cmp s)) ks) c.clear-2.ensures.empty) (λ s. search rules)
