-- By index and by key, each by its own call.
use Rattle.std.proofs.Common.{ap}
use Rattle.archives.specs.Finding.{wanted_of}
use Rattle.archives.proofs.ReadsLemmas.{gets_as}
use Rattle.archives.proofs.prunable.ArchiveArchive.get.Goals as goal

pub returns-in-Index : goal.returns-in-Index
returns-in-Index g c = gets_as _ g.D.Device c.args.self.now _ _ (ap (wanted_of g.K.Key.key_bytes) c.in-Index.is) c.args.dev.now c.get_at.new.dev c.get_at.result c.get_at.ensures

pub returns-in-Key : goal.returns-in-Key
returns-in-Key g c = gets_as _ g.D.Device c.args.self.now _ _ (ap (wanted_of g.K.Key.key_bytes) c.in-Key.is) c.args.dev.now c.get_by.new.dev c.get_by.result c.get_by.ensures
