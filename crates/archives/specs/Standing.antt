-- When an image stands for a state of the machine with a command under way, and what a crash leaves of an archive.
use Rattle.std.specs.Prelude.{◌≡◌, ◌⊎◌, ℕ, ◌<◌, ◌≤◌, ◌^◌, if◌then◌else◌, List, [], length, take, Option, Some, IsTrue}
use Rattle.blob_device.specs.Disk.{Image, Disk, IsCrashOf}
use Rattle.paired.specs.Crashes.{HoldMarkers, NoChanceSeal}
use Rattle.paired.specs.Kept.{Markers}
use Rattle.archives.specs.Commands.{Command, Put, PutSync, PutStart, Multi, MultiSync, MultiStart, Prune, Destroy}
use Rattle.archives.specs.Filing.{Filing, floor_of, kept}
use Rattle.archives.specs.Lawful.{Lawful}
use Rattle.archives.specs.Machine.{Entry, State, after_put, after_multi, section_of}

-- The start state for an image that holds these markers: open, with what the image keeps, each section synced whole,
-- and the floor that is stored. Behind the last section that a u64 names there is nothing.
pub record IsStart (f : Filing) (image : Image) (markers : Markers) (st : State (List ℕ)) : Type 0 where
  pub held : HoldMarkers f.layout image markers
  pub is_open : IsTrue st.is_open
  pub lists : (s : ℕ) → s < 2 ^ 64 → st.lists s ≡ kept f image markers s
  pub no_more : (s : ℕ) → 2 ^ 64 ≤ s → st.lists s ≡ []
  pub synced : (s : ℕ) → st.synced s ≡ length (st.lists s)
  pub floor : st.floor ≡ floor_of markers

-- the state with the record of the put under way, where its step appends it
abbrev pub with_put : {V : Type 0} → ℕ → Option (Command V) → State V → State V
with_put items (Some (Put i k v)) st = after_put items i k v st
with_put items (Some (PutSync i k v)) st = after_put items i k v st
with_put items (Some (PutStart i k v)) st = after_put items i k v st
with_put items (Some (Multi i k v)) st = after_multi items i k v st
with_put items (Some (MultiSync i k v)) st = after_multi items i k v st
with_put items (Some (MultiStart i k v)) st = after_multi items i k v st
with_put items under_way st = st

-- the section's list, with the record of the put under way
abbrev pub submitted : {V : Type 0} → ℕ → State V → Option (Command V) → ℕ → List (Entry V)
submitted items st under_way s = if st.is_open then (with_put items under_way st).lists s else st.lists s

-- a destroy is under way, or a prune whose rounded bound is above the section and above the floor
abbrev pub IsGoing : {V : Type 0} → ℕ → State V → Option (Command V) → ℕ → Type 0
IsGoing items st (Some Destroy) s = IsTrue st.is_open
IsGoing items st (Some (Prune bound)) s =
    IsTrue st.is_open × (s < section_of items bound) × (st.floor < section_of items bound)
IsGoing items st under_way s = ⊥

module _ (f : Filing) (st : State (List ℕ)) (under_way : Option (Command (List ℕ))) where
  -- what the image keeps of the section is a prefix of what was submitted, no shorter than what is synced
  pub record IsPrefix (image : Image) (markers : Markers) (s : ℕ) : Type 0 where
    pub same : kept f image markers s ≡ take (length (kept f image markers s)) (submitted f.items st under_way s)
    pub synced : st.synced s ≤ length (kept f image markers s)

  -- The image is lawful, and keeps of each section such a prefix, or nothing of one that is going.
  pub record StandsFor (image : Image) : Type 0 where
    pub markers : Markers
    pub lawful : Lawful f image markers
    pub each : (s : ℕ) → s < 2 ^ 64
        → IsPrefix image markers s ⊎ ((kept f image markers s ≡ []) × IsGoing f.items st under_way s)

  -- So does each image that a crash of the disk leaves without a chance seal.
  abbrev pub Leaves : Disk → Type 0
  Leaves d = (image : Image) → IsCrashOf d image → NoChanceSeal f.layout d image → StandsFor image
