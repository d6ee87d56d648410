use Rattle.std.proofs.Common.{◌≡◌, ◌∙◌, List, ℕ, Option, Some, Vec, ap, rules}
use Rattle.std.specs.Option.{option_map}
use Rattle.std.specs.declared.alloc.Global.{Global}
use Rattle.blob_device.specs.Disk.{Key, put}
use Rattle.blob_device.specs.Tables.{at_key}
use Rattle.blob_device.specs.Images.{contents}
use Rattle.blob_device.specs.lemmas.Puts.{put_mapped}
use Rattle.blob_device.proofs.memory.image.Image.set_blob.Goals as goal
use Rattle.blob_device.proofs.general.Results.{err_with}

shown : (Key → Option (Vec ℕ Global)) → Key → Option (List ℕ)
shown f k = option_map (λ v. v.items) (f k)

pub returns-in_err-insert-clause-err : goal.returns-in_err-insert-clause-err
unfolding shown
returns-in_err-insert-clause-err c = err_with c.from_residual-in_err-insert.result (ap shown c.in_err-insert.ensures.err)

pub returns-clause-ok : goal.returns-clause-ok
unfolding shown
returns-clause-ok c =
    let same : c.in_ok-bytes.bytes.items ≡ c.args.bytes.now = search rules in
    let old = contents c.args.self.now in
    ap shown c.in_ok-insert.ensures.ok
    ∙ put_mapped (λ (o : Option (Vec ℕ Global)). option_map (λ v. v.items) o) (at_key c.args.self.now.blobs.partitions) (c.as_bytes.result.now, c.args.name.now) (Some c.in_ok-bytes.bytes)
    ∙ (λ i. put old (c.as_bytes.ensures.value i, c.args.name.now) (Some (same i)))
