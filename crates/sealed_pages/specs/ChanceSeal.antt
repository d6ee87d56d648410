-- The places of a page blob, when a content that a crash left has a chance seal, and what each crash leaves without one.
use Rattle.std.specs.Prelude.{◌≡◌, ◌⊎◌, ℕ, ◌+◌, ◌<◌, ◌≤◌, Bool, List, [], ◌∷◌, length, Option, IsSomeAnd}
use Rattle.blob_device.specs.Disk.{Key, Blob, past, MayLeave}
use Rattle.blob_device.specs.Timeline.{Timeline, disk, Always, OnlyAt}
use Rattle.sealed_pages.specs.View.{view, page_at, slot_at}
use Rattle.sealed_pages.specs.Slots.{slot_length}
use Rattle.sealed_pages.specs.SealedPrefix.{Prefix}

-- A place is a slot of a page, which stands whole, with the n data bytes that it covers. The two contents have the same bytes there.
pub record SamePlace (P : ℕ) (v w : List ℕ) (k : ℕ) (second : Bool) (n : ℕ) : Type 0 where
  pub stands : slot_at P k second + 6 ≤ length v
  pub slot : (i : ℕ) → i < 6 → view v (slot_at P k second + i) ≡ view w (slot_at P k second + i)
  pub bytes : (i : ℕ) → i < n → view v (page_at P k + i) ≡ view w (page_at P k + i)

-- one of them has Q
abbrev pub SomeByRecursion : (List ℕ → Type 0) → List (List ℕ) → Type 0
SomeByRecursion Q [] = ⊥
SomeByRecursion Q (c ∷ cs) = Q c ⊎ SomeByRecursion Q cs

module _ (seal : List ℕ → ℕ) (P : ℕ) where
  -- each place of c whose seal holds is as it was in one of these contents
  abbrev pub NoChanceSeal : List (List ℕ) → List ℕ → Type 0
  NoChanceSeal contents c = (k : ℕ) (second : Bool) → 1 ≤ slot_length seal P c k second
      → SomeByRecursion (λ p. SamePlace P p c k second (slot_length seal P c k second)) contents

  -- each crash leaves the blob, and without a chance seal its sealed prefix is a prefix of these bytes, no shorter than so many
  abbrev pub Leaves : List ℕ → ℕ → Blob → Type 0
  Leaves bytes least b = (left : Option (List ℕ)) → MayLeave b left → IsSomeAnd left (λ c. NoChanceSeal (past b) c → Prefix seal P bytes least c)

  -- at each moment, also inside calls of the device, each crash leaves that much; no other blob changes
  abbrev pub Sealing : List ℕ → ℕ → Key → Timeline → Timeline → Type 0
  Sealing bytes least key old new = Always old new (OnlyAt key (disk old) (Leaves bytes least))
