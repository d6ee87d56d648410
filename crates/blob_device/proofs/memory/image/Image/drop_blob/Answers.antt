use Rattle.std.proofs.Common.{◌∙◌, List, ℕ, Option, None, Vec, ap}
use Rattle.std.specs.Option.{option_map}
use Rattle.std.specs.declared.alloc.Global.{Global}
use Rattle.blob_device.specs.Disk.{Key, put}
use Rattle.blob_device.specs.Tables.{at_key}
use Rattle.blob_device.specs.Images.{contents}
use Rattle.blob_device.specs.lemmas.Puts.{put_mapped}
use Rattle.blob_device.proofs.memory.image.Image.drop_blob.Goals as goal

pub returns : goal.returns
returns c =
    let show : (Key → Option (Vec ℕ Global)) → Key → Option (List ℕ) = λ f k. option_map (λ v. v.items) (f k) in
    ap show c.remove.ensures
    ∙ put_mapped (λ (o : Option (Vec ℕ Global)). option_map (λ v. v.items) o) (at_key c.args.self.now.blobs.partitions) (c.as_bytes.result.now, c.args.name.now) None
    ∙ ap (λ (p : List ℕ). put (contents c.args.self.now) (p, c.args.name.now) None) c.as_bytes.ensures.value
