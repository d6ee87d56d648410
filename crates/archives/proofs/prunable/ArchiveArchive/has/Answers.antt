-- By index the set tells; by key a search does.
use Rattle.std.proofs.Common.{ap}
use Rattle.archives.specs.Finding.{wanted_of}
use Rattle.archives.proofs.KeyLemmas.{has_by_key, has_unread}
use Rattle.archives.proofs.ReadsLemmas.{has_as, has_by_index}
use Rattle.archives.proofs.prunable.ArchiveArchive.has.Goals as goal
use Rattle.blob_device.proofs.general.Results.{err_of}

pub returns-in-Index : goal.returns-in-Index
returns-in-Index g c = has_as _ g.D.Device c.args.self.now _ _ (ap (wanted_of g.K.Key.key_bytes) c.in-Index.is) c.args.dev.now c.args.dev.now _
    (has_by_index _ g.D.Device c.args.self.now c.args.dev.now c.requires.over c.in-Index.index c.has_index.result c.has_index.ensures)

pub returns-in_err-find-in-Key : goal.returns-in_err-find-in-Key
returns-in_err-find-in-Key g c =
    let e = c.in_err-find-in-Key.field-0.0 in
    has_as _ g.D.Device c.args.self.now _ _ (ap (wanted_of g.K.Key.key_bytes) c.in-Key.is) c.args.dev.now c.find.new.dev c.from_residual.result
    (has_unread _ g.D.Device g.K.Key.key_bytes c.args.self.now (g.K.Key.key_bytes c.in-Key.key.now) c.args.dev.now c.requires.over e c.find.new.dev c.in_err-find-in-Key.ensures c.from_residual.result (err_of _ e c.from_residual.ensures.1))

pub returns-in_ok-find-in-Key : goal.returns-in_ok-find-in-Key
returns-in_ok-find-in-Key g c =
    has_as _ g.D.Device c.args.self.now _ _ (ap (wanted_of g.K.Key.key_bytes) c.in-Key.is) c.args.dev.now c.find.new.dev _
    (has_by_key _ g.D.Device g.K.Key.key_bytes c.args.self.now (g.K.Key.key_bytes c.in-Key.key.now) c.args.dev.now c.requires.over g.met.K.Key.sized c.in_ok-find-in-Key.field-0 c.find.new.dev c.in_ok-find-in-Key.ensures c.is_some.result c.is_some.ensures)
