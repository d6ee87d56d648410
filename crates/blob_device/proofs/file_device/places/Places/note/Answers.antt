use Rattle.std.proofs.Common.{◌∙◌, Option, IsSome, refl, sym, ap, subst}
use Rattle.blob_device.specs.declared.file_device.places.BlobFile.{BlobFile}
use Rattle.blob_device.specs.Disk.{Key}
use Rattle.blob_device.specs.Tables.{at_key}
use Rattle.blob_device.specs.lemmas.Puts.{put_same}
use Rattle.blob_device.proofs.file_device.places.Places.note.Goals as goal
use Rattle.blob_device.proofs.general.Results.{on_ok}

pub returns : goal.returns
returns c =
    let k : Key = (c.args.partition.now, c.args.name.now) in
    let old : Key → Option BlobFile = at_key c.args.self.now.known.partitions in
    on_ok c.insert.result
    (λ same. subst IsSome (sym (ap (λ (f : Key → Option BlobFile). f k) (rw c.as_bytes-2.ensures.value at same) ∙ put_same old k _)) refl)
    c.insert.ensures.ok
