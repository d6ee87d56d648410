-- What removing promises of what a crash left: bytes behind the last page, and a torn slot.
use Rattle.std.specs.Prelude.{◌≡◌, ◌≢◌, ◌+◌, ◌*◌, ◌<◌, ◌≤◌, cond, length, Bool, true, false, ℕ, List, Result, Err, IfOk, OnOk}
use Rattle.blob_device.specs.Change.{written, resized}
use Rattle.blob_device.specs.Counts.{Rose}
use Rattle.blob_device.specs.Disk.{Key, Blob}
use Rattle.blob_device.specs.Timeline.{Timeline, disk, Always, OnlyAt}
use Rattle.blob_device.specs.declared.device.Device as device
use Rattle.blob_device.specs.declared.error.DevError.{DevError}
use Rattle.blob_device.specs.declared.error.DevError.TheVariants.{Fault}
use Rattle.sealed_pages.specs.Buffer.{Adopted}
use Rattle.sealed_pages.specs.Cutting.{StandsSettled}
use Rattle.sealed_pages.specs.Entries.{IsOpenAt, NoReads}
use Rattle.sealed_pages.specs.Flushing.{Kept, IsClean, Removed, PageFlushed, Data, Wrote, no_slot}
use Rattle.sealed_pages.specs.Leftover.{Leftover, OnlySlot, IsCleared, ClearsFirst}
use Rattle.sealed_pages.specs.Unrecovered.{SparesPrefix}
use Rattle.sealed_pages.specs.View.{view, page_at, slot_at}

module _ {D : Type 0} (dev : device.Ghosts D) (seal : List ℕ → ℕ) (P : ℕ) (blob : Key)
    (old new : D) where
  -- the disk's history before the call, and then
  abbrev early : Timeline
  early = dev.time old

  abbrev late : Timeline
  late = dev.time new

  -- the blob before the call, and then
  abbrev before : Blob
  before = disk early blob

  abbrev after : Blob
  after = disk late blob

  -- What stands behind so many pages is cut, if `behind`. The answer is the blob's end.
  pub record CutsBehind (pages : ℕ) (behind : Bool) (result : Result ℕ DevError) : Type 0 where
    -- of a blob of which what settled is kept, it is kept; then the blob ends with these pages, as
    -- clean as before
    pub told : dev.Tells → (all : List ℕ) (F : ℕ) (w : List ℕ) (σ : ℕ → Bool)
        → Kept seal P all F w σ before → F ≤ pages * P
        → (behind ≡ true → page_at P pages ≤ length before.content)
        → (behind ≡ false → length before.content ≤ page_at P pages)
        → Removed seal P all F w σ (λ c. (length c ≤ page_at P pages)
        × ((k : ℕ) (second : Bool) → k < pages → IsClean seal P before.content k second
        → IsClean seal P c k second)) blob result early late
    -- no other blob changes, and then the flushed bytes stand
    pub wrote : dev.Tells → (all : List ℕ) (F : ℕ) → Data P all F (view before.content)
        → F ≤ pages * P → Wrote P all F blob result early late
    -- these pages stand as they did
    pub prefix : dev.Tells → SparesPrefix (page_at P pages) blob early late
    -- of a settled blob no byte is written
    pub loose : dev.Tells → (at : ℕ) → StandsSettled before
        → Always early late (OnlyAt blob (disk early) (OnlySlot at))
    -- then it has these pages, if `behind`, else what it had
    pub content : dev.Tells → OnOk result (after.content
        ≡ cond behind (resized before.content (page_at P pages)) before.content)
    -- the opened list has its length
    pub length : IfOk result (λ n. IsOpenAt (dev.opened new) blob n)
    -- no read began, and no other entry changed
    pub entries : NoReads blob (dev.opened old) (dev.opened new)
    -- faults never fall, and one that is told is counted
    pub faults : dev.faults old ≤ dev.faults new
    pub cause : result ≡ Err Fault → Rose (dev.faults old) (dev.faults new)

  -- Six zeros are written over a slot, if `torn`. The answer is the blob's end.
  pub record ClearsTorn (page : ℕ) (second torn : Bool)
      (result : Result ℕ DevError) : Type 0 where
    -- of a blob of which what settled is kept, it is kept, and then the slot is clean
    pub told : dev.Tells → (all : List ℕ) (F : ℕ) (w : List ℕ) (σ : ℕ → Bool)
        → Kept seal P all F w σ before → (torn ≡ true → page * P < F)
        → (torn ≡ true → σ page ≢ second)
        → (torn ≡ true → length before.content ≤ page_at P (page + 1))
        → Removed seal P all F w σ (λ c. ((torn ≡ false → IsClean seal P before.content page second)
        → IsClean seal P c page second) × ((n : ℕ) → (torn ≡ true → page_at P (page + 1) ≤ n)
        → length before.content ≤ n → length c ≤ n)) blob result early late
    -- no other blob changes, and then the data bytes stand
    pub wrote : dev.Tells → (all : List ℕ) (F : ℕ) → Data P all F (view before.content)
        → Wrote P all F blob result early late
    -- the pages before stand as they did
    pub prefix : dev.Tells → SparesPrefix (page_at P page) blob early late
    -- no byte is written but those of the slot
    pub loose : dev.Tells → OnlySlot (slot_at P page second) before
        → Always early late (OnlyAt blob (disk early) (OnlySlot (slot_at P page second)))
    -- then zeros stand there, if `torn`; else it is as it was
    pub content : dev.Tells → OnOk result (after.content
        ≡ cond torn (written before.content (slot_at P page second) no_slot) before.content)
    -- the opened list has its length
    pub length : IfOk result (λ n. IsOpenAt (dev.opened new) blob n)
    -- no read began, and no other entry changed
    pub entries : NoReads blob (dev.opened old) (dev.opened new)
    -- faults never fall, and one that is told is counted
    pub faults : dev.faults old ≤ dev.faults new
    pub cause : result ≡ Err Fault → Rose (dev.faults old) (dev.faults new)

  -- What a crash left is removed, and the blob has settled. The answer is its end.
  pub record Removes (first from : ℕ) (newest behind torn : Bool)
      (result : Result ℕ DevError) : Type 0 where
    -- what had settled of an adopted blob outlives each crash, and then it is ready for a flush
    pub told : dev.Tells → (all : List ℕ) → Adopted seal P all first from newest behind torn before
        → PageFlushed seal P all (first * P + from) (first * P + from) newest blob result early late
    -- no other blob changes, and then the flushed bytes stand
    pub wrote : dev.Tells → (all : List ℕ) → Data P all (first * P + from) (view before.content)
        → Wrote P all (first * P + from) blob result early late
    -- the pages below the tip's stand as they did
    pub prefix : dev.Tells → SparesPrefix (page_at P first) blob early late
    -- only the torn slot is written until all is gone for good,
    pub clears : dev.Tells → StandsSettled before
        → Always early late (OnlyAt blob (disk early) (ClearsFirst seal P first from newest))
    -- and then it is
    pub cleared : dev.Tells → Leftover seal P before.content first from newest behind torn
        → OnOk result (IsCleared seal P first from newest after.settled)
    -- it has settled
    pub settles : dev.Tells → OnOk result (StandsSettled after)
    -- the opened list has its length
    pub length : IfOk result (λ n. IsOpenAt (dev.opened new) blob n)
    -- no read began, and no other entry changed
    pub entries : NoReads blob (dev.opened old) (dev.opened new)
    -- faults never fall, and one that is told is counted
    pub faults : dev.faults old ≤ dev.faults new
    pub cause : result ≡ Err Fault → Rose (dev.faults old) (dev.faults new)
