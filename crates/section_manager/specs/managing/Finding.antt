-- What a scan of a partition's names finds.
use Rattle.std.specs.Prelude.{◌≡◌, ◌≢◌, ◌⊎◌, ◌≤◌, ℕ, List, length, map, Result, Err, IfOk, OnOk, OnErr, string_bytes}
use Rattle.std.specs.Int.{w64, to_be_bytes}
use Rattle.std.specs.Result.{IsErrOf}
use Rattle.blob_device.specs.Disk.{AreNamesIn, Disk}
use Rattle.blob_device.specs.Timeline.{disk}
use Rattle.blob_device.specs.declared.device.Device as device
use Rattle.sealed_pages.specs.Reading.{Unchanged}
use Rattle.section_manager.specs.declared.journal.Error.{Error}
use Rattle.section_manager.specs.declared.journal.Error.TheVariants.{InvalidBlobName}
use Rattle.section_manager.specs.declared.manager.opening.Found.{Found}
use Rattle.section_manager.specs.Refusing.{HasFailed, IsForeign}

-- the partition's blobs are those of the sections of these numbers, and no other
abbrev pub AreSectionsIn : Disk → List ℕ → List ℕ → Type 0
AreSectionsIn d partition numbers = AreNamesIn d partition (map (to_be_bytes w64) numbers)

-- What a scan found: the sections of a partition, with what makes their buffers.
pub record Finding (F : Type 0) : Type 0 where
  pub partition : List ℕ
  pub factory : F
  pub numbers : List ℕ

abbrev pub finding : {F : Type 0} → Found F → Finding F
finding f = record {
  partition = string_bytes f.partition;
  factory = f.factory;
  numbers = f.numbers.items;
}

module _ {F D : Type 0} (dev : device.Ghosts D) (place : List ℕ) (maker : F) where
  -- The names of a partition's blobs were listed. Nothing was opened or written.
  pub record Scans (old new : D) (result : Result (Finding F) Error) : Type 0 where
    -- they are those of this partition,
    pub partition : IfOk result (λ f. f.partition ≡ place)
    -- with this factory
    pub factory : IfOk result (λ f. f.factory ≡ maker)
    -- what was found are all its blobs
    pub found : dev.Tells → IfOk result (λ f.
        AreSectionsIn (disk (dev.time old)) place f.numbers)
    -- no blob's history changes
    pub unchanged : dev.Tells → Unchanged (dev.time old) (dev.time new)
    -- and none is opened
    pub unopened : dev.opened new ≡ dev.opened old
    -- a partition that has a name that is no section's is refused
    pub foreign : dev.Tells → (name : List ℕ) → IsForeign (disk (dev.time old)) place name
        → OnOk result ⊥
    -- a name that is refused is no section's
    pub name : (n : List ℕ) → result ≡ Err (InvalidBlobName n) → length n ≢ 8
    -- and it is there
    pub named : dev.Tells → (n : List ℕ) → result ≡ Err (InvalidBlobName n)
        → IsForeign (disk (dev.time old)) place n
    -- faults are counted on
    pub faults : dev.faults old ≤ dev.faults new
    -- nothing else is answered but a fault or want of memory
    pub cause : OnErr result (((n : List ℕ) × IsErrOf result (InvalidBlobName n))
        ⊎ HasFailed result (dev.faults old) (dev.faults new))
