-- What writing the pages of a flush promises.
use Rattle.std.specs.Prelude.{◌≡◌, ◌+◌, ◌*◌, ◌<◌, ◌≤◌, length, Bool, ℕ, List, Result, Err, IfOk, OnOk}
use Rattle.blob_device.specs.Counts.{Rose}
use Rattle.blob_device.specs.Disk.{Key, Blob}
use Rattle.blob_device.specs.Timeline.{Timeline, disk}
use Rattle.blob_device.specs.declared.device.Device as device
use Rattle.blob_device.specs.declared.error.DevError.{DevError}
use Rattle.blob_device.specs.declared.error.DevError.TheVariants.{Fault}
use Rattle.sealed_pages.specs.Contents.{IsHad}
use Rattle.sealed_pages.specs.Entries.{IsOpenAt, NoReads}
use Rattle.sealed_pages.specs.Flushing.{Ready, PageFlushed, Data, Wrote, CoversFrom, next_slot}
use Rattle.sealed_pages.specs.Leftover.{SettlesNothing}
use Rattle.sealed_pages.specs.Slots.{page_length}
use Rattle.sealed_pages.specs.Unrecovered.{SparesPrefix}
use Rattle.sealed_pages.specs.View.{view, page_at, StandsAt}

module _ {D : Type 0} (dev : device.Ghosts D) (seal : List ℕ → ℕ) (P : ℕ) (blob : Key)
    (old new : D) where
  -- the disk's history before the call, and then
  abbrev early : Timeline
  early = dev.time old

  abbrev late : Timeline
  late = dev.time new

  -- the blob before the call, and then
  abbrev before : Blob
  before = disk early blob

  abbrev after : Blob
  after = disk late blob

  -- The bytes of a page are written from byte `from` on, and a slot over all of them. The answer is
  -- the blob's end.
  pub record WritesPage (page from : ℕ) (bytes : List ℕ) (second : Bool)
      (result : Result ℕ DevError) : Type 0 where
    -- by the slot that has not settled, what has settled outlives each crash, and the page is
    -- flushed
    pub told : dev.Tells → (all : List ℕ) (F L : ℕ) (newest : Bool)
        → Ready seal P all F L newest before → F ≡ page * P + from → StandsAt all (page * P) bytes
        → second ≡ next_slot P L newest page
        → PageFlushed seal P all (page * P + length bytes) L newest blob result early late
    -- no other blob changes, and the bytes stand in the page
    pub wrote : dev.Tells → (all : List ℕ) → Data P all (page * P + from) (view before.content)
        → StandsAt all (page * P) bytes
        → Wrote P all (page * P + length bytes) blob result early late
    -- a matching slot covers them
    pub covers : dev.Tells → (all : List ℕ) → Data P all (page * P + from) (view before.content)
        → StandsAt all (page * P) bytes
        → OnOk result (length bytes ≤ page_length seal P after.content page)
    -- the pages before stand as they did
    pub prefix : dev.Tells → SparesPrefix (page_at P page) blob early late
    -- nothing settles
    pub stays : dev.Tells → SettlesNothing blob early late
    -- the blob reads as a content that it has had
    pub had : dev.Tells → OnOk result (IsHad after)
    -- the opened list has its length
    pub length : IfOk result (λ n. IsOpenAt (dev.opened new) blob n)
    -- no read began, and no other entry changed
    pub entries : NoReads blob (dev.opened old) (dev.opened new)
    -- faults never fall, and one that is told is counted
    pub faults : dev.faults old ≤ dev.faults new
    pub cause : result ≡ Err Fault → Rose (dev.faults old) (dev.faults new)

  -- The bytes of a tip are written from byte `from` on, page by page. The answer is the blob's end.
  pub record WritesPages (first from : ℕ) (tip : List ℕ) (settled : ℕ) (newest : Bool)
      (result : Result ℕ DevError) : Type 0 where
    -- what has settled outlives each crash, and then the tip is flushed
    pub told : dev.Tells → (all : List ℕ)
        → Ready seal P all (first * P + from) settled newest before → StandsAt all (first * P) tip
        → PageFlushed seal P all (first * P + length tip) settled newest blob result early late
    -- no other blob changes, and the tip stands in the blob
    pub wrote : dev.Tells → (all : List ℕ) → Data P all (first * P + from) (view before.content)
        → StandsAt all (first * P) tip → Wrote P all (first * P + length tip) blob result early late
    -- where a byte is new, matching slots cover the tip
    pub covers : dev.Tells → (all : List ℕ) → from < length tip
        → Data P all (first * P + from) (view before.content) → StandsAt all (first * P) tip
        → OnOk result (CoversFrom seal P after.content first (first * P + length tip))
    -- the pages before stand as they did
    pub prefix : dev.Tells → SparesPrefix (page_at P first) blob early late
    -- nothing settles
    pub stays : dev.Tells → SettlesNothing blob early late
    -- the blob reads as a content that it has had, if it did before
    pub had : dev.Tells → IsHad before → OnOk result (IsHad after)
    -- the opened list has its length
    pub length : IfOk result (λ n. IsOpenAt (dev.opened new) blob n)
    -- no read began, and no other entry changed
    pub entries : NoReads blob (dev.opened old) (dev.opened new)
    -- faults never fall, and one that is told is counted
    pub faults : dev.faults old ≤ dev.faults new
    pub cause : result ≡ Err Fault → Rose (dev.faults old) (dev.faults new)
