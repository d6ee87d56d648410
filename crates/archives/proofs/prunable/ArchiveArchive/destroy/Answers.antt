use Rattle.std.proofs.Common.{refl, Err, arith}
use Rattle.std.specs.Prelude.{⊤}
use Rattle.blob_device.specs.Timeline.{disk}
use Rattle.blob_device.specs.lemmas.Moments.{always_now}
use Rattle.archives.specs.Raised.{raised}
use Rattle.archives.specs.Shown.{shown}
use Rattle.archives.proofs.DestroyLemmas.{destroy_done, destroy_goes, destroy_pair_failed, none_left, removal_as}
use Rattle.archives.proofs.PrunesLemmas.{none_below}
use Rattle.archives.proofs.prunable.ArchiveArchive.destroy.Goals as goal
use Rattle.blob_device.proofs.general.Results.{err_of}

-- the pair's removal failed
pub returns-in_err-destroy : goal.returns-in_err-destroy
returns-in_err-destroy g c =
    let says = c.in_err-destroy.ensures in
    let e = c.in_err-destroy.field-0.0 in
    let goes = destroy_goes _ g.D.Device c.args.self c.args.dev.now c.destroy.new.dev c.requires.over says.moments says.untouched says.entries says.faults in
    removal_as _ g.D.Device c.args.self c.args.dev.now c.destroy.new.dev _ (Err (raised e)) (err_of _ (raised e) c.from_residual.ensures.1)
    (destroy_pair_failed _ g.D.Device c.args.self c.args.dev.now c.destroy.new.dev goes _ e says.cause says.lost_first)

-- no blob is left
pub returns : goal.returns
returns g c =
    let a = shown c.args.self in
    let old = g.D.Device.time c.args.dev.now in
    let new = g.D.Device.time c.destroy.new.dev in
    let says = c.in_ok-destroy.ensures in
    let goes = destroy_goes _ g.D.Device c.args.self c.args.dev.now c.destroy.new.dev c.requires.over says.moments says.untouched says.entries says.faults in
    destroy_done _ g.D.Device c.args.self c.args.dev.now c.destroy.new.dev goes (omega arith) _
    (λ t. none_below a.pair.layout _ _ refl refl (λ _. ⊤) (disk new) (λ s is small. says.gone t s small))
    says.markers_gone
    (λ t sound. none_left a (g.D.Device.opened c.args.dev.now) old new c.requires.over t (record { gone = says.gone_all t; untouched = always_now _ _ _ (says.untouched t) }) sound)
