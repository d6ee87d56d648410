-- What holds of both blobs of a map, whichever side is written next.
use Rattle.std.proofs.Common.{◌≢◌, ℕ, List, sym}
use Rattle.blob_device.specs.Disk.{Key}
use Rattle.meta_store.specs.declared.error.Side.{Side}
use Rattle.meta_store.specs.declared.error.Side.TheVariants.{Left, Right}
use Rattle.meta_store.specs.Blobs.{blob_of, other_side}
use Rattle.meta_store.specs.lemmas.Sides.{sides_apart}

pub apart : (p : List ℕ) (side : Side) → blob_of p side ≢ blob_of p (other_side side)
apart p side e = sides_apart p side (sym e)

-- what is of the one side and of the other is of both
pub both_sides : (p : List ℕ) (side s : Side) (P : Key → Type 0) → P (blob_of p side) → P (blob_of p (other_side side)) → P (blob_of p s)
both_sides p Left Left P mine theirs = mine
both_sides p Left Right P mine theirs = theirs
both_sides p Right Left P mine theirs = theirs
both_sides p Right Right P mine theirs = mine
