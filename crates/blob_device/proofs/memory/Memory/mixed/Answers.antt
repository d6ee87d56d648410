use Rattle.std.proofs.Common.{◌≡◌, ◌∙◌, ap, sym, refl, subst, Option, List, ℕ}
use Rattle.blob_device.specs.Disk.{Key, Blob, Disk, MayLeave}
use Rattle.blob_device.specs.Timeline.{disk}
use Rattle.blob_device.specs.Tables.{at_key}
use Rattle.blob_device.specs.Calls.{now, timeline_of}
use Rattle.blob_device.specs.Tracks.{tracks_of}
use Rattle.blob_device.specs.declared.memory.crash.Mixer.{Mixer}
use Rattle.blob_device.specs.Images.{contents}
use Rattle.blob_device.specs.Laws.{disk_now, now_holds_bytes, now_between}
use Rattle.blob_device.specs.Picked.{mixed_of, free_in, ahead_of}
use Rattle.blob_device.specs.Building.{state_at}
use Rattle.blob_device.proofs.Building.{state_keeps}
use Rattle.blob_device.proofs.ImageLemmas.{made_at}
use Rattle.blob_device.proofs.CrashLemmas.{mixed_left}
use Rattle.blob_device.proofs.Numbers.{mixed_keys, mixer_next, keys_ascend, listed_image, first_number}
use Rattle.blob_device.proofs.memory.Memory.mixed.Goals as goal

pub returns-clause-mixed : goal.returns-clause-mixed
returns-clause-mixed c =
    let m = c.args.self.now in
    let logs = m.logs.partitions in
    let d : Disk = disk (timeline_of (tracks_of m.logs) m.count) in
    let sorted = c.in_ok-blobs.ensures.sorted in
    let state : Key → Mixer = λ k. state_at mixer_next c.new.result logs.entries k in
    let now_is = λ (k : Key). disk_now (tracks_of m.logs) m.count k (m.sound k) in
    let each : (k : Key) → contents c.from_table.result k ≡ mixed_of c.args.bits (free_in c.args.bits d (ahead_of k (mixed_keys logs.entries))) (d k) =
    λ k.
    let bits : (state k).bits ≡ c.args.bits = state_keeps mixer_next (λ s. s.bits ≡ c.args.bits) (λ s l was. was) c.new.result logs.entries k c.new.ensures.bits in
    ap (λ (f : Key → Option (List ℕ)). f k) c.from_table.ensures ∙ c.in_ok-blobs.ensures.made k
    ∙ made_at (mixed_of (state k).bits (state k).number) refl (at_key logs k)
    ∙ (λ i. mixed_of (bits i) (state k).number (sym (now_is k) i))
    ∙ first_number c.args.bits d logs c.new.result k sorted now_is c.new.ensures.bits c.new.ensures.number in
    record {
      keys = mixed_keys logs.entries;
      ascending = keys_ascend logs.entries sorted;
      listed = λ k. listed_image c.args.bits (free_in c.args.bits d (ahead_of k (mixed_keys logs.entries))) logs sorted k (d k) (contents c.from_table.result k) (now_is k) (each k);
      each = each;
    }

pub returns-clause-crash : goal.returns-clause-crash
returns-clause-crash c k =
    let m = c.args.self.now in
    let t = tracks_of m.logs k in
    let mixed = returns-clause-mixed c in
    let b = disk (timeline_of (tracks_of m.logs) m.count) k in
    let first = free_in c.args.bits (disk (timeline_of (tracks_of m.logs) m.count)) (ahead_of k mixed.keys) in
    subst (MayLeave b) (sym (mixed.each k))
    (subst (λ (d : Blob). MayLeave d (mixed_of c.args.bits first d)) (sym (disk_now (tracks_of m.logs) m.count k (m.sound k)))
    (mixed_left c.args.bits first (now t) (now_between t) (now_holds_bytes m.count t (m.sound k))))
