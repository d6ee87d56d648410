-- Opening an opened blob again, by which its length is learned.
use Rattle.std.specs.Prelude.{◌≡◌, ◌≢◌, ◌⊎◌, ◌≤◌, ℕ, IsSome, Result, Err, IfOk, OnOk}
use Rattle.blob_device.specs.Counts.{Rose}
use Rattle.blob_device.specs.Disk.{Key, settled_at}
use Rattle.blob_device.specs.Opened.{OpenedList}
use Rattle.blob_device.specs.Timeline.{Timeline, disk, Always, OnlyAt}
use Rattle.blob_device.specs.declared.device.Device as device
use Rattle.blob_device.specs.declared.error.DevError.{DevError}
use Rattle.blob_device.specs.declared.error.DevError.TheVariants.{Fault}
use Rattle.sealed_pages.specs.Entries.{IsOpenAt}

-- at each moment the blob is as before, or settled as it read, and no other blob changes
abbrev pub OnlySettles : Key → Timeline → Timeline → Type 0
OnlySettles k old new = Always old new (OnlyAt k (disk old) (λ b. (b ≡ disk old k) ⊎ (b ≡ settled_at (disk old k).content)))

-- the blob is opened, and no other blob's entry changed
pub record StaysOpen (k : Key) (old new : OpenedList) : Type 0 where
  pub others : (q : Key) → q ≢ k → new q ≡ old q
  pub here : IsSome (new k)

-- The blob is opened again. The answer is its length.
pub record OpensAgain {D : Type 0} (dev : device.Ghosts D) (k : Key) (old new : D)
    (result : Result ℕ DevError) : Type 0 where
  -- the opened list has the length
  pub length : IfOk result (λ n. IsOpenAt (dev.opened new) k n)
  -- the blob has settled as it read
  pub settled : dev.Tells → OnOk result
      (disk (dev.time new) k ≡ settled_at (disk (dev.time old) k).content)
  -- at each moment it is as before or has settled so, and no other blob changes
  pub settles : dev.Tells → OnlySettles k (dev.time old) (dev.time new)
  -- it is opened, also after an error, and no other entry changed
  pub entries : StaysOpen k (dev.opened old) (dev.opened new)
  -- its length is the one that it had
  pub same : dev.Tells → (n : ℕ) → IsOpenAt (dev.opened old) k n → IsOpenAt (dev.opened new) k n
  -- faults never fall, and one that is told is counted
  pub faults : dev.faults old ≤ dev.faults new
  pub cause : result ≡ Err Fault → Rose (dev.faults old) (dev.faults new)
