use Rattle.std.proofs.Common.{◌≡◌, ◌∙◌, ap, sym, rules}
use Rattle.blob_device.specs.Disk.{settled_at}
use Rattle.blob_device.specs.Calls.{all_bytes}
use Rattle.blob_device.proofs.EntryLemmas.{tested_bytes}
use Rattle.blob_device.proofs.Replay.{reads_nil}
use Rattle.blob_device.proofs.memory.blob_log.BlobLog.started.Goals as goal

pub invariant_of-result : goal.invariant_of-result
invariant_of-result c =
    let first : c.in_ok-to_vec.field-0.items ≡ c.args.bytes.now = search rules in
    let second : c.in_ok-to_vec-2.field-0.items ≡ c.args.bytes.now = search rules in
    record {
      bytes = ap all_bytes first ∙ tested_bytes c.args.bytes.now c.type_inv.bytes;
      tied = reads_nil (settled_at c.in_ok-to_vec.field-0.items) _ _ (search rules) (second ∙ sym first);
    }
