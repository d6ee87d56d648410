use Rattle.std.proofs.Common.{Ok}
use Rattle.archives_tests.proofs.OverLemmas.{changed_usable, durable_usable, settled_usable}
use Rattle.archives_tests.proofs.run.changed.Goals as goal

pub put-requires-clause-value : goal.put-requires-clause-value
put-requires-clause-value g c = g.met.A.Opens.takes _ _

pub put_sync-requires-clause-value : goal.put_sync-requires-clause-value
put_sync-requires-clause-value g c = g.met.A.Opens.takes _ _

pub put_start_sync-requires-clause-value : goal.put_start_sync-requires-clause-value
put_start_sync-requires-clause-value g c = g.met.A.Opens.takes _ _

pub returns-in-Put : goal.returns-in-Put
returns-in-Put g c = changed_usable g.A.Archive.meaning _ _ _ _ _ _ c.put.ensures

pub returns-in-PutSync : goal.returns-in-PutSync
returns-in-PutSync g c = durable_usable g.A.Archive.meaning _ _ _ _ _ _ _ c.put_sync.ensures

pub put_multi-requires-clause-value : goal.put_multi-requires-clause-value
put_multi-requires-clause-value g c = g.met.A.Opens.takes _ _

pub returns-in-Multi : goal.returns-in-Multi
returns-in-Multi g c = changed_usable g.A.Archive.meaning _ _ _ _ _ _ c.put_multi.ensures

pub returns-in-Sync : goal.returns-in-Sync
returns-in-Sync g c = settled_usable g.A.Archive.meaning _ _ _ _ _ c.sync.ensures

pub returns-in_ok-archive-in-PutStart : goal.returns-in_ok-archive-in-PutStart
returns-in_ok-archive-in-PutStart g c = durable_usable g.A.Archive.meaning _ _ _ _ _ _ (Ok c.in_ok-archive-in-PutStart.archive) c.in_ok-archive-in-PutStart.ensures

pub returns-in_ok-archive-in-Start : goal.returns-in_ok-archive-in-Start
returns-in_ok-archive-in-Start g c = settled_usable g.A.Archive.meaning _ _ _ _ (Ok c.in_ok-archive-in-Start.archive) c.in_ok-archive-in-Start.ensures
