use Rattle.archives.specs.Shown.{shown}
use Rattle.archives.proofs.IndexSets.{in_run}
use Rattle.archives.proofs.prunable.ArchiveArchive.has_index.Goals as goal

pub returns : goal.returns
returns g c = in_run (shown c.args.self.now).indices c.args.index c.get.result c.get.ensures c.is_some.result c.is_some.ensures
