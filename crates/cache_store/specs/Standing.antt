-- When an image stands for a state of the machine with a call under way, and what a crash leaves of
-- a cache.
use Rattle.std.specs.Prelude.{◌≡◌, ◌⊎◌, ⊤, ℕ, ◌^◌, ◌<◌, ◌≤◌, List, [], length, take, Option}
use Rattle.blob_device.specs.Disk.{Image, Disk, IsCrashOf}
use Rattle.cache_store.specs.Kept.{Layout, Lawful, NoChanceSeal, kept}
use Rattle.cache_store.specs.Machine.{Entry, State, Call, submitted, IsGoing}

-- What is kept of a section is a prefix of its list, no shorter than what is synced.
pub record IsPrefix (list : List (Entry (List ℕ))) (least : ℕ) (found : List (Entry (List ℕ)))
    : Type 0 where
  -- the first entries
  pub same : found ≡ take (length found) list
  -- all that are synced
  pub synced : least ≤ length found

-- What crashes have to leave of each section: a prefix of a list, no shorter than a number; or
-- nothing of one that is going.
pub record Wanted : Type 1 where
  pub lists : ℕ → List (Entry (List ℕ))
  pub synced : ℕ → ℕ
  pub Going : ℕ → Type 0

-- of a state with a call under way
abbrev pub wanted_of : ℕ → State (List ℕ) → Option (Call (List ℕ)) → Wanted
wanted_of items st under_way = record {
  lists = submitted items st under_way;
  synced = st.synced;
  Going = IsGoing items st under_way;
}

-- of a state where a destroy is under way
abbrev pub wanted_at_destroy : State (List ℕ) → Wanted
wanted_at_destroy st = record { lists = st.lists; synced = st.synced; Going = λ s. ⊤ }

module _ (l : Layout) (w : Wanted) where
  -- so it is of one section
  abbrev pub IsHeld : ℕ → List (Entry (List ℕ)) → Type 0
  IsHeld s found = IsPrefix (w.lists s) (w.synced s) found ⊎ ((found ≡ []) × w.Going s)

  -- The image is lawful, and keeps that of each section.
  pub record Keeps (image : Image) : Type 0 where
    pub lawful : Lawful l image
    pub each : (s : ℕ) → s < 2 ^ 64 → IsHeld s (kept l image s)

  -- So does each image that a crash of the disk leaves without a chance seal.
  abbrev pub Leaves : Disk → Type 0
  Leaves d = (image : Image) → IsCrashOf d image → NoChanceSeal l d image → Keeps image
