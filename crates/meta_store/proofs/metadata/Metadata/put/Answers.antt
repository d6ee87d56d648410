use Rattle.std.proofs.Common.{ap}
use Rattle.meta_store.specs.Format.{format_of}
use Rattle.meta_store.specs.Store.{seen, shown}
use Rattle.meta_store.proofs.StagingLemmas.{has_put, put_failed}
use Rattle.meta_store.proofs.metadata.Metadata.put.Goals as goal
use Rattle.blob_device.proofs.general.Results.{err_of}

pub returns-in_err-insert : goal.returns-in_err-insert
returns-in_err-insert g c =
    put_failed (format_of g.K.Ord.cmp g.K.Key.key_bytes g.V.Codec g.S.Seal) (seen c.args.self.now) _ c.args.key c.args.value _ (err_of _ _ c.from_residual.ensures.1)
    (ap (λ es. record (seen c.args.self.now) { store = record (shown c.args.self.now) { entries = es } }) c.in_err-insert.ensures.err)

pub returns : goal.returns
returns g c =
    has_put (format_of g.K.Ord.cmp g.K.Key.key_bytes g.V.Codec g.S.Seal) (seen c.args.self.now) c.args.key c.args.value c.insert.new.self.entries c.in_ok-insert.ensures.entries c.in_ok-insert.ensures.updates.0
