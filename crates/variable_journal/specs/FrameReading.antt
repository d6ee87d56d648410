-- How a read of what stands at an offset of a buffer ends.
use Rattle.std.specs.Prelude.{◌≡◌, ◌⊎◌, ℕ, ◌<◌, ◌≤◌, List, drop, length, Option, Result, Ok, Err}
use Rattle.blob_device.specs.Counts.{Rose}
use Rattle.blob_device.specs.Disk.{Blob, Key}
use Rattle.blob_device.specs.Timeline.{disk}
use Rattle.blob_device.specs.declared.device.Device as device
use Rattle.blob_device.specs.declared.runtime.RError.TheVariants as runtime
use Rattle.value_codec.specs.declared.codec.Error as codec
use Rattle.sealed_pages.specs.Buffer as pages
use Rattle.sealed_pages.specs.Buffer.{bytes_of, size_of, IsBacked, IsSealed}
use Rattle.sealed_pages.specs.Entries.{IsOpenAt}
use Rattle.sealed_pages.specs.Reading.{OnlyRead, Unchanged}
use Rattle.sealed_pages.specs.Reads.{IsHeld}
use Rattle.sealed_pages.specs.Shown.{shown}
use Rattle.sealed_pages.specs.declared.page_blob.PageBlob.{PageBlob}
use Rattle.section_manager.specs.declared.journal.Error.{Error}
use Rattle.section_manager.specs.declared.journal.Error.TheVariants.{Codec, ItemOutOfRange, Mem, Runtime}
use Rattle.variable_journal.specs.Frames.{frame, BeginsWithFrame}
use Rattle.variable_journal.specs.Reaching.{length_reach, IsCoveredTo, IsDamagedTo}
use Rattle.variable_journal.specs.Reading.{HasLength, IsPastLast, SaysNoLength}

-- the buffer's blob is opened, so that its pages may be read
abbrev pub MayRead : {S D : Type 0} {gs : _} → device.Ghosts D → PageBlob S gs → D → Type 0
MayRead dev u at = IsOpenAt (dev.opened at) (pages.key_of (shown u)) u.end

-- Only reads were made, all of this blob.
pub record OnlyLooks {D : Type 0} (dev : device.Ghosts D) (key : Key) (old new : D) : Type 0 where
  -- nothing is written
  pub unchanged : dev.Tells → Unchanged (dev.time old) (dev.time new)
  -- no other entry changes
  pub entries : OnlyRead key (dev.opened old) (dev.opened new)
  -- faults are counted on
  pub faults : dev.faults old ≤ dev.faults new

module _ {S D : Type 0} {gs : _} (dev : device.Ghosts D) (u : PageBlob S gs) (offset : ℕ) (old : D)
  where
    -- the buffer's blob
    abbrev pub blob_under : Blob
    blob_under = disk (dev.time old) (pages.key_of (shown u))

    -- the bytes from the offset on
    abbrev pub bytes_under : List ℕ
    bytes_under = drop offset (bytes_of (shown u) blob_under.content)

    -- an offset below the end
    abbrev pub IsInside : Type 0
    IsInside = offset < size_of (shown u)

-- A frame that is whole in memory was read without a call of the device.
abbrev pub IsIdle : {S D : Type 0} {gs : _} → (List ℕ → ℕ) → device.Ghosts D → PageBlob S gs → ℕ → D
    → D → Type 0
IsIdle seal dev u offset old new = dev.Tells
    → IsBacked seal (shown u) (blob_under dev u offset old).content → (item rest : List ℕ)
    → BeginsWithFrame (bytes_under dev u offset old) item rest
    → IsHeld (shown u) offset (length (frame item)) → new ≡ old

-- What stands at this offset of a buffer was read. `reach` says how many of its bytes it is.
module _ {S D : Type 0} {gs : _} (seal : List ℕ → ℕ) (dev : device.Ghosts D) (u : PageBlob S gs)
    (offset : ℕ) (old : D) (reach : List ℕ → ℕ) where
  -- the disk is told of, and what is in memory is as there
  abbrev pub WhereTold : Type 0 → Type 0
  WhereTold Q = dev.Tells → IsBacked seal (shown u) (blob_under dev u offset old).content → Q

  -- matching slots cover its pages
  abbrev pub HasChecked : Type 0
  HasChecked = IsCoveredTo seal u (blob_under dev u offset old).content offset
      (reach (bytes_under dev u offset old))

  -- No frame stands there that ends in the buffer.
  pub record EndsPast (e : Error) : Type 0 where
    pub is : e ≡ ItemOutOfRange offset
    pub past : WhereTold (IsPastLast (bytes_under dev u offset old))
    pub checked : WhereTold HasChecked

  -- A page of it is damaged. None of a sealed buffer is.
  pub record EndsDamaged (e : Error) : Type 0 where
    pub page : ℕ
    pub is : e ≡ Runtime (runtime.InvalidChecksum page)
    pub damaged : WhereTold (IsDamagedTo seal u (blob_under dev u offset old).content offset
        (reach (bytes_under dev u offset old)) page)
    pub sound : dev.Tells → IsSealed seal (shown u) (blob_under dev u offset old) → ⊥

  -- The device failed, or there was no memory.
  abbrev pub EndsFailed : D → Error → Type 0
  EndsFailed new e = (e ≡ Mem)
      ⊎ ((e ≡ Runtime runtime.Fault) × Rose (dev.faults old) (dev.faults new))

  -- Refuses says why the codec refuses it.
  module _ (Refuses : List ℕ → codec.Error → Type 0) where
    pub record EndsRefused (e : Error) : Type 0 where
      pub cause : codec.Error
      pub is : e ≡ Codec cause
      pub refused : WhereTold (Refuses (bytes_under dev u offset old) cause)
      pub checked : WhereTold HasChecked

    -- why it failed behind the end, or below it
    abbrev pub IsWhy : D → Error → Type 0
    IsWhy new e = EndsPast e ⊎ (IsInside dev u offset old
        × (EndsDamaged e ⊎ (EndsRefused e ⊎ EndsFailed new e)))

    pub record Fails (new : D) (e : Error) : Type 0 where
      pub why : IsWhy new e
      pub looks : OnlyLooks dev (pages.key_of (shown u)) old new

    -- P says of what stands there what is answered.
    module _ {T : Type 0} (P : List ℕ → T → Type 0) where
      pub record Finds (new : D) (v : T) : Type 0 where
        pub inside : IsInside dev u offset old
        pub value : WhereTold (P (bytes_under dev u offset old) v)
        pub checked : WhereTold HasChecked
        pub looks : OnlyLooks dev (pages.key_of (shown u)) old new

      -- how it ends, by its answer
      abbrev pub Reads : D → Result T Error → Type 0
      Reads new (Ok v) = Finds new v
      Reads new (Err e) = Fails new e

-- The length at an offset was looked for.
abbrev pub ReadsLength : {S D : Type 0} {gs : _} → (List ℕ → ℕ) → device.Ghosts D → PageBlob S gs → ℕ
    → D → D → Result (Option (ℕ × ℕ)) Error → Type 0
ReadsLength seal dev u offset old new result =
    Reads seal dev u offset old length_reach SaysNoLength HasLength new result
