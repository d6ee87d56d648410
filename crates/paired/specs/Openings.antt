-- Which records each opening of a pair keeps, and what it keeps where a crash stops it. Markers are here
-- without a floor, as lawful ones are.
use Rattle.std.specs.Prelude.{◌≡◌, ℕ, ◌||◌, ◌==◌, nat_lt, min, if◌then◌else◌, Bool, false, List, [], ◌∷◌, length, take}
use Rattle.blob_device.specs.Disk.{Image, NothingPending}
use Rattle.blob_device.specs.Timeline.{Timeline, disk, Always}
use Rattle.paired.specs.Kept.{Layout, Markers, marker_of, stored_records, is_sound_in, kept_by}
use Rattle.paired.specs.Opening.{as_read, IsLawful, Relation, KeepsAllBy}
use Rattle.paired.specs.Records.{Entry, unbroken_prefix}

-- ---- bounds
-- one of the records is sound
abbrev pub some_sound : (List ℕ → Bool) → List (List ℕ) → Bool
some_sound sound [] = false
some_sound sound (r ∷ rs) = sound r || some_sound sound rs

-- the records up to the last one that is sound
abbrev pub up_to_last : (List ℕ → Bool) → List (List ℕ) → List (List ℕ)
up_to_last sound [] = []
up_to_last sound (r ∷ rs) = if some_sound sound (r ∷ rs) then r ∷ up_to_last sound rs else []

-- within a bound: all of a section before the one named, the first n of that one, and none of a later one
abbrev pub within : {X : Type 0} → ℕ → ℕ → ℕ → List X → List X
within section n s xs = if nat_lt s section then xs else (if s == section then take n xs else [])

-- a section's marker, lowered to the bound
abbrev pub lowered : ℕ → ℕ → ℕ → ℕ → ℕ
lowered section n s m = if nat_lt s section then m else (if s == section then min m n else 0)

-- ---- which records are kept
-- of each section of an image with these markers
abbrev pub Wanted : Type 0
Wanted = Image → Markers → ℕ → List (List ℕ)

module _ (l : Layout) where
  -- by the records alone: those up to the last one whose value is sound
  abbrev pub inferred : Wanted
  inferred image markers s = up_to_last (is_sound_in l image s) (stored_records l image s)

  -- so within a bound
  abbrev pub inferred_at_most : ℕ → ℕ → Wanted
  inferred_at_most section n image markers s =
      up_to_last (is_sound_in l image s) (within section n s (stored_records l image s))

  -- by a checkpoint: all below it
  abbrev pub checkpointed : ℕ → ℕ → Wanted
  checkpointed section n image markers s = within section n s (stored_records l image s)

  -- by markers: those below the marker, and behind them those up to the first whose value is not sound
  abbrev pub tracked : Wanted
  tracked image markers s =
      unbroken_prefix (is_sound_in l image s) (marker_of markers.entries s) 0 (stored_records l image s)

  -- so within a bound, to which the markers are lowered
  abbrev pub tracked_at_most : ℕ → ℕ → Wanted
  tracked_at_most section n image markers s =
      unbroken_prefix (is_sound_in l image s) (lowered section n s (marker_of markers.entries s)) 0
      (within section n s (stored_records l image s))

  -- it keeps the first records of each section
  abbrev pub KeepsFirst : Wanted → Type 0
  KeepsFirst wanted = (image : Image) (markers : Markers) (s : ℕ)
      → wanted image markers s ≡ take (length (wanted image markers s)) (stored_records l image s)

  -- what an image keeps below a checkpoint
  abbrev pub committed : ℕ → ℕ → Image → Markers → ℕ → List Entry
  committed section n image markers s = within section n s (kept_by l image markers s)

  -- ---- where a crash stops it
  -- On a lawful image with nothing pending: at each moment each image that a crash leaves without a chance
  -- seal is lawful, and keeps so much of what the image kept.
  abbrev pub Recovers : Relation → Timeline → Timeline → Type 0
  Recovers Rel old new = NothingPending (disk old)
      → (markers : Markers) → IsLawful l (as_read (disk old)) markers
      → Always old new (KeepsAllBy l Rel (as_read (disk old)) markers)
