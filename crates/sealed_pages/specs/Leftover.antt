-- What a crash may have left in a blob that is adopted.
use Rattle.std.specs.Prelude.{◌≡◌, ◌⊎◌, ◌↔◌, ℕ, ◌+◌, ◌<◌, ◌≤◌, not, Bool, true, List, length}
use Rattle.blob_device.specs.Disk.{Key, Blob, Outside}
use Rattle.blob_device.specs.Timeline.{Timeline, disk, Always, OnlyAt}
use Rattle.sealed_pages.specs.View.{view, page_at, slot_at, Within}
use Rattle.sealed_pages.specs.Slots.{slot_length, best_slot}
use Rattle.sealed_pages.specs.Buffer.{Buffer, pages_of, flushed_of, has_leftover}
use Rattle.sealed_pages.specs.Cutting.{StandsSettled}

-- the slot is six zeros, bytes past the content's end included
abbrev pub IsBlank : ℕ → List ℕ → ℕ → Bool → Type 0
IsBlank P c k second = (i : ℕ) → i < 6 → view c (slot_at P k second + i) ≡ 0

module _ (seal : List ℕ → ℕ) (P : ℕ) where
  -- the slot neither matches nor is six zeros
  abbrev pub IsTorn : List ℕ → ℕ → Bool → Type 0
  IsTorn c k second = (slot_length seal P c k second ≡ 0) × ¬ (IsBlank P c k second)

  -- The last page with a matching slot is the one in which the first `from` bytes of the tip end. A byte stands behind it, or,
  -- where there is none, in the blob; and where it is not full, its slot that is not the newest is torn.
  pub record Leftover (c : List ℕ) (first from : ℕ) (newest behind torn : Bool) : Type 0 where
    pub newest_is : 0 < from → newest ≡ best_slot seal P c first
    pub behind_is : (behind ≡ true) ↔ (page_at P (pages_of first from) < length c)
    pub torn_is : (torn ≡ true) ↔ ((0 < from) × IsTorn c first (not newest))

-- What a crash left in a buffer's blob is known: where something has to be removed, it is that, the blob has settled, and
-- nothing was flushed since.
abbrev pub IsKnown : (List ℕ → ℕ) → Buffer → Blob → Type 0
IsKnown seal u b = has_leftover u ≡ true → (StandsSettled b × Leftover seal u.page_size b.content u.first u.from u.newest u.behind u.torn)
    × (u.settled ≡ flushed_of u)

-- of the blob's bytes only those of the slot at this place were written since it settled
abbrev pub OnlySlot : ℕ → Blob → Type 0
OnlySlot at b = (i : ℕ) → Outside b.loose i ⊎ Within at 6 i

module _ (seal : List ℕ → ℕ) (P first from : ℕ) (newest : Bool) where
  -- nothing of it is left: the content ends with the page in which the flushed bytes do, and that page's other slot is not torn
  pub record IsCleared (c : List ℕ) : Type 0 where
    pub short : length c ≤ page_at P (pages_of first from)
    pub whole : 0 < from → ¬ (IsTorn seal P c first (not newest))

  -- The blob at a moment: until that is gone for good, no byte was written but those of the torn slot.
  abbrev pub ClearsFirst : Blob → Type 0
  ClearsFirst b = OnlySlot (slot_at P first (not newest)) b ⊎ IsCleared b.settled

-- what settled stays so at each moment; no other blob changes
abbrev pub SettlesNothing : Key → Timeline → Timeline → Type 0
SettlesNothing key old new = Always old new (OnlyAt key (disk old) (λ b. b.settled ≡ (disk old key).settled))
