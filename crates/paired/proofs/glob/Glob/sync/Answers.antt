use Rattle.std.proofs.Common.{refl}
use Rattle.std.specs.List.{Contains}
use Rattle.paired.specs.glob.Shown.{shown_glob}
use Rattle.paired.proofs.GlobSyncs.{sync_failed, synced}
use Rattle.paired.proofs.glob.Glob.sync.Goals as goal
use Rattle.blob_device.proofs.general.Lists.{contains_or_not}
use Rattle.blob_device.proofs.general.Results.{err_of}

pub returns-in_err-this : goal.returns-in_err-this
returns-in_err-this g c = sync_failed g.D.Device (shown_glob c.args.self) c.args.dev.now c.sync.new.dev shown_glob (Contains c.args.sections.now) _ c.requires.over _ _ (err_of _ _ c.from_residual.ensures.1) c.in_err-this.ensures

pub returns : goal.returns
returns g c = synced g.D.Device (shown_glob c.args.self) c.args.dev.now c.sync.new.dev shown_glob (Contains c.args.sections.now) _ c.requires.over (contains_or_not c.args.sections.now) _ c.in_ok-this.ensures refl
