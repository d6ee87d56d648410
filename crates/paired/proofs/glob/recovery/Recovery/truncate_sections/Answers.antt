use Rattle.std.proofs.Common.{refl}
use Rattle.std.specs.BTreeMap.{get}
use Rattle.std.specs.Ordering.{nat_cmp}
use Rattle.paired.specs.glob.Shown.{shown_recovery}
use Rattle.paired.proofs.GlobCuts.{cut_each_failed, each_cut}
use Rattle.paired.proofs.glob.recovery.Recovery.truncate_sections.Goals as goal
use Rattle.blob_device.proofs.general.Results.{err_of}

pub returns-in_err-this : goal.returns-in_err-this
returns-in_err-this g c = cut_each_failed g.D.Device (shown_recovery c.args.self) c.args.dev.now c.truncate_pending_sections.new.dev shown_recovery c.requires.over (get nat_cmp c.args.sizes.now) _ _ (err_of _ _ c.from_residual.ensures.1) c.in_err-this.ensures

pub returns : goal.returns
returns g c = each_cut g.D.Device (shown_recovery c.args.self) c.args.dev.now c.truncate_pending_sections.new.dev shown_recovery c.requires.over (get nat_cmp c.args.sizes.now) _ c.in_ok-this.ensures refl
