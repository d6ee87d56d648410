use Rattle.std.proofs.Common.{refl}
use Rattle.paired.specs.glob.Shown.{shown_recovery}
use Rattle.paired.proofs.GlobCuts.{cut_behind_failed, cut_behind}
use Rattle.paired.proofs.glob.recovery.Recovery.truncate.Goals as goal
use Rattle.blob_device.proofs.general.Results.{err_of}

pub returns-in_err-this : goal.returns-in_err-this
returns-in_err-this g c = cut_behind_failed g.D.Device (shown_recovery c.args.self) c.args.dev.now c.truncate_pending.new.dev shown_recovery c.requires.over c.args.section c.args.size _ _ (err_of _ _ c.from_residual.ensures.1) c.in_err-this.ensures

pub returns : goal.returns
returns g c = cut_behind g.D.Device (shown_recovery c.args.self) c.args.dev.now c.truncate_pending.new.dev shown_recovery c.requires.over c.args.section c.args.size c.requires.ceiling _ c.in_ok-this.ensures refl
