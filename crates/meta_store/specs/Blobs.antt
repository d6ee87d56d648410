-- The two blobs of a map, and what reads as their bytes.
use Rattle.std.specs.Prelude.{◌≡◌, ◌≢◌, ℕ, List, [], Option, unwrap_or, codes}
use Rattle.blob_device.specs.Disk.{Key, Blob, Disk, reads}
use Rattle.meta_store.specs.declared.error.Side.{Side}
use Rattle.meta_store.specs.declared.error.Side.TheVariants.{Left, Right}

abbrev pub name_of : Side → List ℕ
name_of Left = codes "left"
name_of Right = codes "right"

abbrev pub other_side : Side → Side
other_side Left = Right
other_side Right = Left

-- where the copy of a side is kept
abbrev pub blob_of : List ℕ → Side → Key
blob_of partition side = (partition, name_of side)

-- a blob that is not there reads as empty
abbrev pub bytes_of : Option (List ℕ) → List ℕ
bytes_of content = unwrap_or content []

-- the blob as it reads
abbrev pub read_bytes : Blob → List ℕ
read_bytes b = bytes_of (reads b)

-- every blob but the two is as on the disk `from`
abbrev pub OthersStay : List ℕ → Disk → Disk → Type 0
OthersStay partition from d = (q : Key) → q ≢ blob_of partition Left → q ≢ blob_of partition Right → d q ≡ from q

-- every blob but the one of this side is as on the disk `from`
abbrev pub OnlyOne : List ℕ → Side → Disk → Disk → Type 0
OnlyOne partition side from d = (q : Key) → q ≢ blob_of partition side → d q ≡ from q
