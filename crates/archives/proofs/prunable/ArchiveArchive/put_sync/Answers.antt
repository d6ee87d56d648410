use Rattle.std.proofs.Common.{refl}
use Rattle.archives.specs.Putting.{Once}
use Rattle.archives.proofs.put.SyncsLemmas.{put_sync_as, put_sync_refused, put_then_sync}
use Rattle.archives.proofs.prunable.ArchiveArchive.put_sync.Goals as goal
use Rattle.blob_device.proofs.general.Results.{err_of}

pub returns-in_err-this : goal.returns-in_err-this
returns-in_err-this g c =
    put_sync_as _ g.D.Device Once c.args.self c.args.index (g.K.Key.key_bytes c.args.key) (g.V.Codec.spelling c.args.value.now) _ _ _ _ (err_of _ c.in_err-this.field-0.0 c.from_residual.ensures.1)
    (put_sync_refused _ g.D.Device Once c.args.self c.args.index (g.K.Key.key_bytes c.args.key) (g.V.Codec.spelling c.args.value.now) c.ranges.index.fits c.in_err-this.field-0.0 c.args.dev.now c.put.new.dev c.in_err-this.ensures)

pub returns : goal.returns
returns g c =
    put_then_sync _ g.D.Device Once c.args.self c.args.index (g.K.Key.key_bytes c.args.key) (g.V.Codec.spelling c.args.value.now) c.ranges.index.fits (λ x y. refl) c.in_ok-this.this c.args.dev.now c.put.new.dev c.sync.new.dev
    c.in_ok-this.ensures c.sync.result c.sync.ensures
