use Rattle.std.proofs.Common.{◌∙◌, ap, sym, refl, subst, Option, List, ℕ}
use Rattle.blob_device.specs.Disk.{Key, reads, MayLeave}
use Rattle.blob_device.specs.Timeline.{disk}
use Rattle.blob_device.specs.Tables.{at_key}
use Rattle.blob_device.specs.Calls.{timeline_of}
use Rattle.blob_device.specs.Tracks.{tracks_of}
use Rattle.blob_device.specs.Laws.{disk_now, as_read}
use Rattle.blob_device.proofs.ImageLemmas.{made_at}
use Rattle.blob_device.proofs.memory.Memory.image.Goals as goal

pub returns-clause-ok : goal.returns-clause-ok
returns-clause-ok c k =
    let logs = c.args.self.now.logs in
    ap (λ (f : Key → Option (List ℕ)). f k) c.from_table.ensures ∙ c.in_ok-blobs.ensures.made k
    ∙ made_at reads refl (at_key logs.partitions k) ∙ ap reads (sym (disk_now (tracks_of logs) c.args.self.now.count k (c.args.self.now.sound k)))

pub returns-clause-crash : goal.returns-clause-crash
returns-clause-crash c k =
    let m = c.args.self.now in
    subst (MayLeave (disk (timeline_of (tracks_of m.logs) m.count) k)) (sym (returns-clause-ok c k)) (as_read (tracks_of m.logs) m.count k (m.sound k))
