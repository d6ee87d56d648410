use Rattle.std.proofs.Common.{◌≤◌, length}
use Rattle.value_codec.specs.declared.byte_value.ByteValue.{ByteValue}
use Rattle.archive_bench.proofs.SyncedLemmas.{synced_accepts, synced_usable}
use Rattle.archive_bench.proofs.bench.synced.Goals as goal

pub returns-clause-usable : goal.returns-clause-usable
returns-clause-usable g c = synced_usable g.A.Archive.meaning g.D.Device _ _ _ _ c.sync.ensures

pub returns-clause-accepts : goal.returns-clause-accepts
returns-clause-accepts g c = synced_accepts g.A.Archive.meaning g.D.Device _ _ _ (λ (v : ByteValue). length v ≤ 100) c.requires.accepts _ c.sync.ensures
