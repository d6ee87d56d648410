use Rattle.std.proofs.Common.{refl}
use Rattle.paired.specs.glob.Shown.{shown_recovery}
use Rattle.paired.proofs.GlobCuts.{cut_section_failed, section_cut}
use Rattle.paired.proofs.glob.recovery.Recovery.truncate_section.Goals as goal
use Rattle.blob_device.proofs.general.Results.{err_of}

pub returns-in_err-this : goal.returns-in_err-this
returns-in_err-this g c = cut_section_failed g.D.Device (shown_recovery c.args.self) c.args.dev.now c.truncate_pending_section.new.dev shown_recovery c.requires.over c.args.section c.args.size _ _ (err_of _ _ c.from_residual.ensures.1) c.in_err-this.ensures

pub returns : goal.returns
returns g c = section_cut g.D.Device (shown_recovery c.args.self) c.args.dev.now c.truncate_pending_section.new.dev shown_recovery c.requires.over c.args.section c.args.size c.ranges.section.fits _ c.in_ok-this.ensures refl
