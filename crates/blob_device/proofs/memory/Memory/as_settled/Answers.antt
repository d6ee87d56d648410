use Rattle.std.proofs.Common.{◌∙◌, ap, sym, refl, subst, Option, List, ℕ}
use Rattle.blob_device.specs.Disk.{Key, Blob, MayLeave}
use Rattle.blob_device.specs.Timeline.{disk}
use Rattle.blob_device.specs.Tables.{at_key}
use Rattle.blob_device.specs.Calls.{now, timeline_of}
use Rattle.blob_device.specs.Tracks.{tracks_of}
use Rattle.blob_device.specs.Agreeing.{agrees_now}
use Rattle.blob_device.specs.Laws.{disk_now, now_holds_bytes}
use Rattle.blob_device.specs.Picked.{settled_of}
use Rattle.blob_device.proofs.ImageLemmas.{made_at}
use Rattle.blob_device.proofs.CrashLemmas.{settled_left}
use Rattle.blob_device.proofs.memory.Memory.as_settled.Goals as goal

pub returns-clause-settled : goal.returns-clause-settled
returns-clause-settled c k =
    let logs = c.args.self.now.logs in
    ap (λ (f : Key → Option (List ℕ)). f k) c.from_table.ensures ∙ c.in_ok-blobs.ensures.made k
    ∙ made_at settled_of refl (at_key logs.partitions k) ∙ ap settled_of (sym (disk_now (tracks_of logs) c.args.self.now.count k (c.args.self.now.sound k)))

pub returns-clause-crash : goal.returns-clause-crash
returns-clause-crash c k =
    let m = c.args.self.now in
    let t = tracks_of m.logs k in
    let b = disk (timeline_of (tracks_of m.logs) m.count) k in
    subst (MayLeave b) (sym (returns-clause-settled c k))
    (subst (λ (d : Blob). MayLeave d (settled_of d)) (sym (disk_now (tracks_of m.logs) m.count k (m.sound k))) (settled_left (now t) (agrees_now t) (now_holds_bytes m.count t (m.sound k))))
