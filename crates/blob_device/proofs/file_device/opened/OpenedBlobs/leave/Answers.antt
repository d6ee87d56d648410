use Rattle.std.proofs.Common.{None}
use Rattle.blob_device.proofs.ListedLemmas.{list_of-put}
use Rattle.blob_device.proofs.file_device.opened.OpenedBlobs.leave.Goals as goal

pub returns : goal.returns
returns c = list_of-put c.args.self.now.entries.partitions c.remove.new.self.partitions (c.args.partition.now, c.args.name.now) None (rw c.as_bytes.ensures.value at c.remove.ensures)
