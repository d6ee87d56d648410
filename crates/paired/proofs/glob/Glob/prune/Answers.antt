use Rattle.std.proofs.Common.{refl}
use Rattle.paired.specs.glob.Shown.{shown_glob}
use Rattle.paired.proofs.GlobRemoves.{prune_failed, pruned}
use Rattle.paired.proofs.glob.Glob.prune.Goals as goal
use Rattle.blob_device.proofs.general.Results.{err_of}

pub returns-in_err-manager : goal.returns-in_err-manager
returns-in_err-manager g c = prune_failed g.D.Device (shown_glob c.args.self) c.args.dev.now c.prune.new.dev (λ r. shown_glob r.0) (λ r. r.1) c.args.min _ _ (err_of _ _ c.from_residual.ensures.1) c.in_err-manager.ensures

pub returns : goal.returns
returns g c = pruned g.D.Device (shown_glob c.args.self) c.args.dev.now c.prune.new.dev (λ r. shown_glob r.0) (λ r. r.1) c.args.min c.requires.over c.ranges.min.fits _ c.in_ok-manager.ensures refl
