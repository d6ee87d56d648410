use Rattle.std.proofs.Common.{refl}
use Rattle.paired.specs.glob.Shown.{shown_glob}
use Rattle.paired.proofs.GlobRemoves.{remove_failed, section_removed}
use Rattle.paired.proofs.glob.Glob.remove_section.Goals as goal
use Rattle.blob_device.proofs.general.Results.{err_of}

pub returns-in_err-manager : goal.returns-in_err-manager
returns-in_err-manager g c = remove_failed g.D.Device (shown_glob c.args.self) c.args.dev.now c.remove_section.new.dev (λ r. shown_glob r.0) (λ r. r.1) c.args.section _ _ (err_of _ _ c.from_residual.ensures.1) c.in_err-manager.ensures

pub returns : goal.returns
returns g c = section_removed g.D.Device (shown_glob c.args.self) c.args.dev.now c.remove_section.new.dev (λ r. shown_glob r.0) (λ r. r.1) c.args.section c.requires.over c.ranges.section.fits _ c.in_ok-manager.ensures refl
