use Rattle.segments.specs.FixedShown.{shown}
use Rattle.section_manager.specs.lemmas.Seen.{err_seen}
use Rattle.segments.proofs.adding.SettlingEnds.{settles_as}
use Rattle.segments.proofs.fixed.Journal.start_sync.Goals as goal

pub returns-in_err-this : goal.returns-in_err-this
returns-in_err-this g c = settles_as _ _ _ _ _ _ _ _ _ _ _ _ (err_seen (λ r. shown r.0) c.from_residual.result _ c.from_residual.ensures.1) c.in_err-this.ensures

pub returns : goal.returns
returns g c = c.in_ok-this.ensures
