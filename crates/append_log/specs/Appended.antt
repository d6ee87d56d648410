-- What a crash leaves of a log.
use Rattle.std.specs.Prelude.{◌≡◌, ◌≢◌, ℕ, ◌+◌, List, [], ◌∷◌, ◌++◌, length, take, Option, Vec, IsSomeAnd}
use Rattle.std.specs.declared.alloc.Global.{Global}
use Rattle.blob_device.specs.Disk.{Key, Blob, Disk, MayLeave}
use Rattle.blob_device.specs.Timeline.{Timeline, disk, OnlyAt, Stretches}
use Rattle.blob_device.specs.Keeps.{Keeps, NoLonger, Begins}

-- the blob is there and holds these bytes for good, and nothing behind them
pub record Holds (bytes : List ℕ) (b : Blob) : Type 0 where
  pub content : b.content ≡ bytes
  pub kept : Keeps bytes b
  pub no_longer : NoLonger (length bytes) b

-- each crash leaves the blob, beginning with these bytes, and with at most so many in all
abbrev pub LeavesFirst : List ℕ → ℕ → Blob → Type 0
LeavesFirst kept most b = (left : Option (List ℕ)) → MayLeave b left → IsSomeAnd left (Begins kept most)

-- the records, one after another
unfoldable pub joined : List (Vec ℕ Global) → List ℕ
joined [] = []
joined (r ∷ rs) = r.items ++ joined rs

-- the first n records behind what was there
abbrev pub grown : List ℕ → List (Vec ℕ Global) → ℕ → List ℕ
grown base records n = base ++ joined (take n records)

-- While record n is appended to those before it, each crash leaves these, and no more than that record behind them. Other blobs are as on `from`.
abbrev pub Appending : Key → Disk → List ℕ → List (Vec ℕ Global) → ℕ → Disk → Type 0
Appending k from base records n d = OnlyAt k from (LeavesFirst (grown base records n) (length (grown base records (n + 1)))) d

-- a run that appended a record at each mark, each for good
pub record Grown (k : Key) (base : List ℕ) (records : List (Vec ℕ Global)) (old new : Timeline) (marks : List ℕ) : Type 0 where
  pub holds : Holds (grown base records (length marks)) (disk new k)
  pub others : (q : Key) → q ≢ k → disk new q ≡ disk old q
  pub run : Stretches old new marks (Appending k (disk old) base records)
