use Rattle.std.proofs.Common.{rules}
use Rattle.meta_store.specs.Store.{seen}
use Rattle.meta_store_tests.specs.Over.{map_format}
use Rattle.meta_store_tests.proofs.OverLemmas.{put_partition, put_storable}
use Rattle.meta_store_tests.proofs.steps.put.Goals as goal

pub returns-clause-storable : goal.returns-clause-storable
returns-clause-storable c =
    put_storable (λ _. map_format) (seen c.args.map) (seen c.put-done.new.self) c.key.result c.args.value c.put-done.result c.put-done.ensures (record { accepted = c.ranges.value.fits; fits = search rules }) c.requires

pub returns-clause-partition : goal.returns-clause-partition
returns-clause-partition c = put_partition (λ _. map_format) (seen c.args.map) (seen c.put-done.new.self) c.key.result c.args.value c.put-done.result c.put-done.ensures
