-- What crashes leave of a section's items: the first ones, and all that had settled.
use Rattle.std.specs.Prelude.{◌⊎◌, ℕ, List, length, Option, IsSomeAnd}
use Rattle.blob_device.specs.Disk.{Key, Blob, past, MayLeave}
use Rattle.blob_device.specs.Timeline.{Timeline, disk, Always, OnlyAt}
use Rattle.sealed_pages.specs.Buffer.{Buffer, bytes_of, IsSealed}
use Rattle.sealed_pages.specs.ChanceSeal.{NoChanceSeal}
use Rattle.sealed_pages.specs.SealedPrefix.{sealed_prefix}
use Rattle.sealed_pages.specs.Unrecovered.{IsUnrecovered}
use Rattle.section_manager.specs.Lasting.{IsOpening}
use Rattle.variable_journal.specs.Frames.{items_of, AreFirst}

module _ (seal : List ℕ → ℕ) (P : ℕ) where
  -- Each crash leaves the blob, and without a chance seal the whole frames in it are the first of
  -- these items, and no fewer than end within so many bytes.
  abbrev pub LeavesItems : List (List ℕ) → ℕ → Blob → Type 0
  LeavesItems items least b = (left : Option (List ℕ)) → MayLeave b left → IsSomeAnd left (λ c.
      NoChanceSeal seal P (past b) c → AreFirst items least (items_of (sealed_prefix seal P c)))

  -- It does so at every moment, and no other blob changes.
  abbrev pub LeavingItems : List (List ℕ) → ℕ → Key → Timeline → Timeline → Type 0
  LeavingItems items least key old new =
      Always old new (OnlyAt key (disk old) (LeavesItems items least))

  -- The blob is made, or being made; then each crash leaves the first of these items in it, or none.
  abbrev pub BeginsItems : List (List ℕ) → Blob → Blob → Type 0
  BeginsItems items from b = IsOpening from b ⊎ LeavesItems items 0 b

module _ (seal : List ℕ → ℕ) (u : Buffer) where
  -- A crash of the blob `b` leaves the items that the buffer promised over the blob `from`.
  pub record PromisesItems (from b : Blob) : Type 0 where
    -- of a sealed one its first items, and all that had settled
    pub sealed : IsSealed seal u from
        → LeavesItems seal u.page_size (items_of (bytes_of u from.content)) u.settled b
    -- of one that is not sealed all items that are whole in its sealed prefix, as it read
    pub prefix : IsUnrecovered seal u from
        → LeavesItems seal u.page_size (items_of (sealed_prefix seal u.page_size from.content))
        (length (sealed_prefix seal u.page_size from.content)) b
