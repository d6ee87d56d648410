use Rattle.std.proofs.Common.{rules}
use Rattle.blob_device.specs.Opened.{with_len}
use Rattle.blob_device.specs.Listed.{listed}
use Rattle.blob_device.proofs.ListedLemmas.{list_of-replace, updated_absent}
use Rattle.blob_device.proofs.file_device.opened.OpenedBlobs.set_len.Goals as goal

pub returns-in-Some : goal.returns-in-Some
returns-in-Some c =
    list_of-replace c.args.self.now.entries.partitions c.replace.new.self.partitions (c.args.partition.now, c.args.name.now) c.in-Some.entry _ (with_len c.args.len)
    (rw c.as_bytes.ensures.value at c.replace.ensures) c.in-Some.ensures (search rules)

pub returns-in_default : goal.returns-in_default
returns-in_default c = updated_absent (listed c.args.self.now) (c.args.partition.now, c.args.name.now) (with_len c.args.len) c.in_default.ensures
