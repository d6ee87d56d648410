-- What calls on one blob leave of it at each moment.
use Rattle.std.specs.Prelude.{ℕ, List, Option, IsSomeAnd}
use Rattle.blob_device.specs.Disk.{Key, Blob, past, MayLeave}
use Rattle.blob_device.specs.Timeline.{Timeline, disk, Always, OnlyAt}

-- Each crash leaves the blob, and without a chance seal a content that passes the test, which sees also the contents that the blob had
-- since it settled.
abbrev pub Leaves : (List (List ℕ) → List ℕ → Type 0) → (List (List ℕ) → List ℕ → Type 0) → Blob → Type 0
Leaves NoChanceSeal MayKeep b = (left : Option (List ℕ)) → MayLeave b left → IsSomeAnd left (λ c. NoChanceSeal (past b) c → MayKeep (past b) c)

-- At each moment, also inside calls of the device, the blob at k has Q; no other blob changes.
abbrev pub AllMoments : Key → (Blob → Type 0) → Timeline → Timeline → Type 0
AllMoments k Q old new = Always old new (OnlyAt k (disk old) Q)
