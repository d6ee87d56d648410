-- What a sync of an archive has to do.
use Rattle.std.specs.Prelude.{◌≡◌, ◌≢◌, ◌⊎◌, ℕ, ◌<◌, ◌^◌, List, length, IsTrue}
use Rattle.blob_device.specs.Disk.{Disk}
use Rattle.sealed_pages.specs.declared.page_blob.PageBlob.{PageBlob}
use Rattle.section_manager.specs.declared.buffer.SectionBuffer as buffer
use Rattle.section_manager.specs.Lasting.{IsUnsettled}
use Rattle.paired.specs.glob.Sections as glob
use Rattle.paired.specs.Kept.{Markers, marker_of}
use Rattle.paired.specs.Crashes.{HoldMarkers}
use Rattle.paired.specs.Opening.{as_read}
use Rattle.paired.specs.Pair as pair
use Rattle.archives.specs.Archives.{Archive}
use Rattle.archives.specs.Filing.{Filing}
use Rattle.archives.specs.Machine.{State}

-- the section was written since the last sync
abbrev pub IsWritten : {F B : Type 0} → Archive F B → ℕ → Type 0
IsWritten a s = IsTrue (a.is_written s)

module _ {F S : Type 0} {gs : _} where
  -- nothing of the sections that were written is left to settle
  abbrev pub IsIdle : buffer.Ghosts (PageBlob S gs) → Archive F (PageBlob S gs) → Type 0
  IsIdle g a = (s : ℕ) → IsWritten a s → IsUnsettled g a.pair.index.sections s ⊎ glob.IsUnsettled a.pair.values s → ⊥

  -- the marker of a section that was not written is not what was synced of it
  abbrev pub IsMoving : Archive F (PageBlob S gs) → Type 0
  IsMoving a = (s : ℕ) × pair.IsMoving a.pair (IsWritten a) (IsWritten a) s

-- By how many records each section has, and how many are synced, over a disk that holds markers: a section with
-- nothing unsynced has another marker than what is synced of it.
abbrev pub IsMovingBy : Filing → Disk → (ℕ → ℕ) → (ℕ → ℕ) → Type 0
IsMovingBy f d lengths synced = (markers : Markers) × HoldMarkers f.layout (as_read d) markers
    × ((s : ℕ) × (s < 2 ^ 64) × (synced s ≡ lengths s) × (marker_of markers.entries s ≢ synced s))

-- the same in a state of the machine
abbrev pub IsMovingIn : Filing → Disk → State (List ℕ) → Type 0
IsMovingIn f d st = IsMovingBy f d (λ s. length (st.lists s)) st.synced
