use Rattle.meta_store.specs.Format.{format_of}
use Rattle.meta_store.specs.Store.{seen}
use Rattle.meta_store.proofs.Failing.{err_seen}
use Rattle.meta_store.proofs.SyncsLemmas.{put_short, put_storable, put_then}
use Rattle.meta_store.proofs.metadata.Metadata.put_sync.Goals as goal

pub returns-in_err-put : goal.returns-in_err-put
returns-in_err-put g c =
    put_short g.D.Device (format_of g.K.Ord.cmp g.K.Key.key_bytes g.V.Codec g.S.Seal) (seen c.args.self) c.args.key c.args.value c.args.dev.now _ c.in_err-put.field-0.0
    (err_seen seen c.from_residual.result _ c.from_residual.ensures.1) c.in_err-put.ensures.0

pub sync-requires-clause-storable : goal.sync-requires-clause-storable
sync-requires-clause-storable g c =
    put_storable g.D.Device (format_of g.K.Ord.cmp g.K.Key.key_bytes g.V.Codec g.S.Seal) (seen c.args.self) c.args.key c.args.value c.args.dev.now (seen c.put.new.self) c.in_ok-put.ensures c.requires.storable

pub returns : goal.returns
returns g c =
    put_then g.D.Device (format_of g.K.Ord.cmp g.K.Key.key_bytes g.V.Codec g.S.Seal) (seen c.args.self) c.args.key c.args.value c.args.dev.now (seen c.put.new.self) c.in_ok-put.ensures c.sync.new.dev _ c.sync.ensures
