-- The contents that calls on one blob add to those that it has had since it settled.
use Rattle.std.specs.Prelude.{ℕ, List, ◌++◌}
use Rattle.std.specs.List.{AllByRecursion, Contains}
use Rattle.blob_device.specs.Disk.{Key, Blob, past}
use Rattle.blob_device.specs.Timeline.{Timeline, disk, Always}

-- what the blob reads as is one of the contents that it has had since it settled
abbrev pub IsHad : Blob → Type 0
IsHad b = Contains (past b) b.content

-- each content that the blob has had since it settled has Q
abbrev pub AllSince : (List ℕ → Type 0) → Blob → Type 0
AllSince Q b = AllByRecursion Q (past b)

-- so at each moment, also inside calls of the device
abbrev pub KeepsAll : (List ℕ → Type 0) → Key → Timeline → Timeline → Type 0
KeepsAll Q key old new = Always old new (λ d. AllSince Q (d key))

-- At each moment, also inside calls of the device, each content that the blob has had since it settled is one that it had had
-- before, or one of these. So what all of them have, each has (`adds_keep` of `lemmas/unsealed/Content`).
abbrev pub AddsOnly : List (List ℕ) → Key → Timeline → Timeline → Type 0
AddsOnly made key old new = KeepsAll (Contains (past (disk old key) ++ made)) key old new
