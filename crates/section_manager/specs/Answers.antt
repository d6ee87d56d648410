-- What calls hand out, seen another way, and what an opening answers of names.
use Rattle.std.specs.Prelude.{◌≡◌, ◌⊎◌, List, ℕ, Result, Ok, Err}
use Rattle.std.specs.Result.{IsErrOf}
use Rattle.blob_device.specs.Timeline.{disk}
use Rattle.blob_device.specs.declared.device.Device as device
use Rattle.sealed_pages.specs.Reading.{Unchanged}
use Rattle.section_manager.specs.Refusing.{HasFailed, IsForeign}
use Rattle.section_manager.specs.declared.journal.Error.{Error}
use Rattle.section_manager.specs.declared.journal.Error.TheVariants.{InvalidBlobName}

-- an answer, with what it hands out seen another way
abbrev pub seen : {T U E : Type 0} → (T → U) → Result T E → Result U E
seen f (Ok x) = Ok (f x)
seen f (Err e) = Err e

module _ {T D : Type 0} (dev : device.Ghosts D) (partition : List ℕ) (result : Result T Error) (old new : D) where
  -- An opening that has refused a name did nothing; so did one of a partition that has such a name.
  pub record RefusesNames : Type 0 where
    -- where a name is no section's, that is the answer, or a fault, or want of memory
    pub foreign : dev.Tells → (name : List ℕ) → IsForeign (disk (dev.time old)) partition name
        → ((n : List ℕ) × IsErrOf result (InvalidBlobName n))
        ⊎ HasFailed result (dev.faults old) (dev.faults new)
    -- then no blob's history changes
    pub untouched : dev.Tells → (name : List ℕ) → IsForeign (disk (dev.time old)) partition name
        → Unchanged (dev.time old) (dev.time new)
    -- and none is opened
    pub unopened : dev.Tells → (name : List ℕ) → IsForeign (disk (dev.time old)) partition name
        → dev.opened new ≡ dev.opened old
    -- a name that is refused is there, and is no section's
    pub named : dev.Tells → (n : List ℕ) → IsErrOf result (InvalidBlobName n)
        → IsForeign (disk (dev.time old)) partition n
    -- also where no disk is told, none is opened
    pub entries : (n : List ℕ) → IsErrOf result (InvalidBlobName n) → dev.opened new ≡ dev.opened old
