-- What a crash leaves of a map in two copies.
use Rattle.std.specs.Prelude.{◌≡◌, ◌⊎◌, ℕ, List, [], ◌∷◌, take, Option}
use Rattle.blob_device.specs.Disk.{Blob, Disk, past, reads, MayLeave}
use Rattle.blob_device.specs.Timeline.{Timeline, disk, Always}
use Rattle.meta_store.specs.declared.copy.Contents.{Contents}
use Rattle.meta_store.specs.declared.copy.Form.{Form}
use Rattle.meta_store.specs.declared.error.Side.TheVariants.{Left, Right}
use Rattle.meta_store.specs.Format.{Format}
use Rattle.meta_store.specs.Copies.{IsSealedAs, copy_length}
use Rattle.meta_store.specs.Pairs.{HoldMap}
use Rattle.meta_store.specs.Blobs.{blob_of, bytes_of, OthersStay}

-- the two contents have the same first n bytes
abbrev pub SamePlace : ℕ → List ℕ → List ℕ → Type 0
SamePlace n old new = take n old ≡ take n new

-- one of them has Q
abbrev pub SomeByRecursion : (List ℕ → Type 0) → List (List ℕ) → Type 0
SomeByRecursion Q [] = ⊥
SomeByRecursion Q (c ∷ cs) = Q c ⊎ SomeByRecursion Q cs

-- A content's place is the copy that it begins with, as long as that says. Where its seal holds, one of the contents that the
-- blob had has these bytes there.
abbrev pub NoChanceSeal : (List ℕ → ℕ) → List (List ℕ) → List ℕ → Type 0
NoChanceSeal seal contents c = (version : ℕ) (form : Form) (body : List ℕ) → IsSealedAs seal c version form body
    → SomeByRecursion (λ p. SamePlace (copy_length form body) p c) contents

-- what the blob reads as has no chance seal
abbrev pub ReadsNoChance : (List ℕ → ℕ) → Blob → Type 0
ReadsNoChance seal b = NoChanceSeal seal (past b) (bytes_of (reads b))

module _ {K V : Type 0} (f : Format K V) (partition : List ℕ) where
  -- these bytes of the two blobs hold the one or the other
  abbrev pub HoldEither : Contents K V → Contents K V → List ℕ → List ℕ → Type 0
  HoldEither one other left right = HoldMap f left right one ⊎ HoldMap f left right other

  -- whatever a crash leaves of the two blobs holds the one or the other, a chance seal aside
  pub record Keeps (one other : Contents K V) (d : Disk) : Type 0 where
    pub crash : (left right : Option (List ℕ)) → MayLeave (d (blob_of partition Left)) left → MayLeave (d (blob_of partition Right)) right
        → NoChanceSeal f.seal (past (d (blob_of partition Left))) (bytes_of left) → NoChanceSeal f.seal (past (d (blob_of partition Right))) (bytes_of right)
        → HoldEither one other (bytes_of left) (bytes_of right)

  -- that, and every other blob is as on the disk `from`
  pub record KeepsAlone (one other : Contents K V) (from d : Disk) : Type 0 where
    pub keeps : Keeps one other d
    pub others : OthersStay partition from d

  -- at each moment, also inside calls of the device
  abbrev pub Mapping : Contents K V → Contents K V → Timeline → Timeline → Type 0
  Mapping one other old new = Always old new (KeepsAlone one other (disk old))
