use Rattle.std.proofs.Common.{◌∙◌, Option, Some, ap}
use Rattle.blob_device.specs.Disk.{Key, put}
use Rattle.blob_device.specs.Opened.{Opened}
use Rattle.blob_device.proofs.ListedLemmas.{list_of, list_of-put, list_of-same}
use Rattle.blob_device.proofs.file_device.opened.OpenedBlobs.enter.Goals as goal
use Rattle.blob_device.proofs.general.Results.{on_err, on_ok}

pub returns-clause-ok : goal.returns-clause-ok
returns-clause-ok c =
    let old = c.args.self.now.entries.partitions in
    let k : Key = (c.args.partition.now, c.args.name.now) in
    let with_reads : _ → Option Opened = λ n. Some (record { len = c.args.len; reads = n }) in
    on_ok c.insert.result
    (λ same. list_of-put old c.insert.new.self.partitions k (Some (record { len = c.args.len; reads = c.reads-reads.result })) (rw c.as_bytes.ensures.value at same)
    ∙ ap (λ n. put (list_of old) k (with_reads n)) c.reads-reads.ensures)
    c.insert.ensures.ok

pub returns-clause-err : goal.returns-clause-err
returns-clause-err c = on_err c.insert.result (list_of-same c.args.self.now.entries.partitions c.insert.new.self.partitions) c.insert.ensures.err
