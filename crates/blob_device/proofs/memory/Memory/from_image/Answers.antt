use Rattle.std.proofs.Common.{◌≡◌, ◌∙◌, ap}
use Rattle.blob_device.specs.Disk.{Key, begun}
use Rattle.blob_device.specs.Calls.{Track, blob_at}
use Rattle.blob_device.specs.Tables.{at_key}
use Rattle.blob_device.specs.Images.{contents}
use Rattle.blob_device.specs.Tracks.{tracks_of}
use Rattle.blob_device.proofs.ImageLemmas.{track_started, sound_begun}
use Rattle.blob_device.proofs.Replay.{blob_at-nil}
use Rattle.blob_device.proofs.memory.Memory.from_image.Goals as goal

pub returns-clause-image : goal.returns-clause-image
returns-clause-image c =
    let each : (k : Key) → blob_at (tracks_of c.in_ok-logs.logs k).calls (begun (tracks_of c.in_ok-logs.logs k).start) 0 ≡ begun (contents c.args.image k) =
    λ k. ap (λ (t : Track). blob_at t.calls (begun t.start) 0) (track_started (at_key c.in_ok-logs.logs.partitions k) (at_key c.args.image.blobs.partitions k) (c.in_ok-logs.ensures.made k))
    ∙ blob_at-nil (begun (contents c.args.image k)) 0 in
    λ i k. each k i

pub invariant_of-result : goal.invariant_of-result
invariant_of-result c = record {
  sound = λ k.
      let is = track_started (at_key c.in_ok-logs.logs.partitions k) (at_key c.args.image.blobs.partitions k) (c.in_ok-logs.ensures.made k) in
      sound_begun (at_key c.in_ok-logs.logs.partitions k) (ap (λ (t : Track). t.calls) is) (ap (λ (t : Track). t.reads) is);
}
