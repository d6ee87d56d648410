use Rattle.std.proofs.Common.{◌∙◌, ◌+◌, length}
use Rattle.blob_device.specs.FileMeaning.{file_opened}
use Rattle.blob_device.specs.lemmas.Opened.{unchanged_grown}
use Rattle.blob_device.proofs.file_device.FileDeviceDevice.write_at.Goals as goal
use Rattle.blob_device.proofs.general.Results.{err_like}

pub returns-clause-opened_err : goal.returns-clause-opened_err
returns-clause-opened_err g c =
    err_like c.end.result c.try_write-done.result c.end.ensures.value
    (λ same. unchanged_grown (file_opened c.args.self.now) (file_opened c.end.new.self) (c.args.partition.now, c.args.name.now) (c.args.offset + length c.args.bytes.now)
    (c.end.ensures.opened ∙ same) c.requires.open)
    c.try_write-done.ensures.err
