use Rattle.std.proofs.Common.{arith}
use Rattle.segments.specs.lemmas.adding.Write.{are_pages}
use Rattle.cache_store.specs.Shown.{config_of, shown}
use Rattle.cache_store.proofs.CallLemmas.{put_sync_below}
use Rattle.cache_store.proofs.PutSyncLemmas.{put_sync_failed, synced_either}
use Rattle.cache_store.proofs.cache.Cache.put_sync.Goals as goal
use Rattle.blob_device.proofs.general.Results.{err_of}

-- the index is below the floor
pub returns-then-index-self : goal.returns-then-index-self
returns-then-index-self g c =
    put_sync_below _ _ g.D.Device (shown g.V.Codec.refusal c.args.self) (are_pages g.row.S g.S.Seal g.S.Seal-dict) c.args.dev.now c.requires.over _ c.args.index (g.V.Codec.spelling c.args.value) c.if-index-self.true

-- the put failed
pub returns-in_err-this : goal.returns-in_err-this
returns-in_err-this g c =
    let e = c.in_err-this.field-0.0 in
    rw (err_of c.from_residual.result e c.from_residual.ensures.1)
    (put_sync_failed _ _ _ g.D.Device (shown g.V.Codec.refusal c.args.self) c.args.index (g.V.Codec.spelling c.args.value) (omega (arith, c.if-index-self.false)) c.args.dev.now c.put.new.dev e c.in_err-this.ensures)

-- it was made, and then the sync
pub returns : goal.returns
returns g c =
    synced_either _ _ _ g.D.Device (shown g.V.Codec.refusal c.args.self) c.args.index (g.V.Codec.spelling c.args.value) (omega (arith, c.if-index-self.false)) c.args.dev.now c.put.new.dev
    (shown g.V.Codec.refusal c.in_ok-this.this) (config_of c.in_ok-this.this) c.in_ok-this.ensures c.sync.new.dev (shown g.V.Codec.refusal) config_of _ c.sync.ensures
