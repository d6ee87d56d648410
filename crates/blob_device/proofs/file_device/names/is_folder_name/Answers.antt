use Rattle.std.proofs.Common.{length}
use Rattle.blob_device.specs.Laws.{is_leb}
use Rattle.blob_device.proofs.file_device.names.is_folder_name.Goals as goal

pub returns-then-name-le64 : goal.returns-then-name-le64
returns-then-name-le64 c = rw (is_leb 1 (length c.args.name.now) c.if-name-le64.true.0) (rw (is_leb (length c.args.name.now) 64 c.if-name-le64.true.1) c.has_folder_bytes.ensures)
