-- What a flush of a buffer over a sealed blob promises, and its two steps.
use Rattle.std.specs.Prelude.{◌≡◌, ◌⊎◌, ◌*◌, ◌<◌, ◌≤◌, ◌||◌, length, ℕ, List, Result, Err, true, false, IfOk, OnOk, IsOkAnd}
use Rattle.blob_device.specs.Counts.{Rose}
use Rattle.blob_device.specs.Disk.{Blob}
use Rattle.blob_device.specs.Timeline.{Timeline, Always, OnlyAt, disk}
use Rattle.blob_device.specs.declared.device.Device as device
use Rattle.blob_device.specs.declared.error.DevError.{DevError}
use Rattle.blob_device.specs.declared.error.DevError.TheVariants.{Fault}
use Rattle.sealed_pages.specs.Buffer.{Buffer, key_of, size_of, flushed_of, has_leftover, AddsPages, FlushesInto, Holds, IsBacked}
use Rattle.sealed_pages.specs.ChanceSeal.{Sealing}
use Rattle.sealed_pages.specs.Contents.{IsHad}
use Rattle.sealed_pages.specs.Cutting.{StandsSettled}
use Rattle.sealed_pages.specs.Entries.{IsOpenAt, NoReads}
use Rattle.sealed_pages.specs.Flushing.{Data, Wrote, CoversFrom}
use Rattle.sealed_pages.specs.Leftover.{Leftover, IsCleared, ClearsFirst, SettlesNothing}
use Rattle.sealed_pages.specs.Unrecovered.{blob_of, prefix_of, SparesPrefix, KeepsPrefix, IsUnrecovered}
use Rattle.sealed_pages.specs.View.{view, page_at, StandsAt}

module _ {D : Type 0} (dev : device.Ghosts D) (seal : List ℕ → ℕ) (u : Buffer) (old new : D) where
  -- the disk's history before the call, and then
  abbrev early : Timeline
  early = dev.time old

  abbrev late : Timeline
  late = dev.time new

  -- the buffer's blob before the call, and then
  abbrev before : Blob
  before = blob_of u early

  abbrev after : Blob
  after = blob_of u late

  -- What a crash may have left in the blob is removed, if something was.
  pub record Repairs {B : Type 0} (see : B → Buffer) (result : Result B DevError) : Type 0 where
    -- of the bytes that the buffer holds, what has settled outlives each crash at every moment,
    pub told : dev.Tells → (all : List ℕ) → Holds seal u all before
        → Sealing seal u.page_size all u.settled (key_of u) early late
    -- and it holds them then
    pub done : dev.Tells → (all : List ℕ) → Holds seal u all before
        → IfOk result (λ r. Holds seal (see r) all after)
    -- no other blob changes, and then the flushed bytes stand
    pub wrote : dev.Tells → (all : List ℕ)
        → Data u.page_size all (flushed_of u) (view before.content)
        → Wrote u.page_size all (flushed_of u) (key_of u) result early late
    -- the pages below the tip's stand as they did
    pub prefix : dev.Tells → SparesPrefix (page_at u.page_size u.first) (key_of u) early late
    -- only the torn slot is written until all is gone for good,
    pub clears : dev.Tells → StandsSettled before → Always early late (OnlyAt (key_of u) (disk early)
        (ClearsFirst seal u.page_size u.first u.from u.newest))
    -- and then it is
    pub cleared : dev.Tells → StandsSettled before
        → Leftover seal u.page_size before.content u.first u.from u.newest u.behind u.torn
        → OnOk result (IsCleared seal u.page_size u.first u.from u.newest after.settled)
    -- where something was, the blob has settled
    pub settles : dev.Tells → (u.behind || u.torn) ≡ true → OnOk result (StandsSettled after)
    -- the blob reads as a content that it has had, if it did before
    pub had : dev.Tells → IsHad before → OnOk result (IsHad after)
    -- the buffer is as before, but for what was removed
    pub same : IfOk result (λ r. see r
        ≡ record u { end = (see r).end; behind = false; torn = false })
    -- it knows how long the blob is
    pub length : IfOk result (λ r. IsOpenAt (dev.opened new) (key_of u) (see r).end)
    -- no read began, and no other entry changed
    pub entries : NoReads (key_of u) (dev.opened old) (dev.opened new)
    -- faults never fall, and one that is told is counted
    pub faults : dev.faults old ≤ dev.faults new
    pub cause : result ≡ Err Fault → Rose (dev.faults old) (dev.faults new)

  -- The pages of the tip are written.
  pub record WritesTip {B : Type 0} (see : B → Buffer) (result : Result B DevError) : Type 0 where
    -- of the bytes that the buffer holds, what has settled outlives each crash at every moment,
    pub told : dev.Tells → (all : List ℕ) → Holds seal u all before
        → Sealing seal u.page_size all u.settled (key_of u) early late
    -- and it holds them then
    pub done : dev.Tells → (all : List ℕ) → Holds seal u all before
        → IfOk result (λ r. Holds seal (see r) all after)
    -- no other blob changes, and then all bytes stand in the blob
    pub wrote : dev.Tells → (all : List ℕ)
        → Data u.page_size all (flushed_of u) (view before.content)
        → StandsAt all (u.first * u.page_size) u.tip
        → Wrote u.page_size all (size_of u) (key_of u) result early late
    -- the pages below the tip's stand as they did
    pub prefix : dev.Tells → SparesPrefix (page_at u.page_size u.first) (key_of u) early late
    -- nothing settles
    pub stays : dev.Tells → SettlesNothing (key_of u) early late
    -- the blob reads as a content that it has had, if it did before
    pub had : dev.Tells → IsHad before → OnOk result (IsHad after)
    -- a matching slot covers each page of the tip as far as it goes
    pub covers : dev.Tells → (all : List ℕ)
        → Data u.page_size all (flushed_of u) (view before.content)
        → StandsAt all (u.first * u.page_size) u.tip → u.from < length u.tip
        → OnOk result (CoversFrom seal u.page_size after.content u.first (size_of u))
    -- full pages leave the tip, and stand first in memory
    pub into : IfOk result (λ r. FlushesInto u (see r))
    -- the buffer knows how long the blob is
    pub length : IfOk result (λ r. IsOpenAt (dev.opened new) (key_of u) (see r).end)
    -- no read began, and no other entry changed
    pub entries : NoReads (key_of u) (dev.opened old) (dev.opened new)
    -- faults never fall, and one that is told is counted
    pub faults : dev.faults old ≤ dev.faults new
    pub cause : result ≡ Err Fault → Rose (dev.faults old) (dev.faults new)

  -- What is not flushed is written, behind the removal of what a crash left.
  pub record Flushes {B : Type 0} (see : B → Buffer) (result : Result B DevError) : Type 0 where
    -- of the bytes that the buffer holds, what has settled outlives each crash at every moment,
    pub told : dev.Tells → (all : List ℕ) → Holds seal u all before
        → Sealing seal u.page_size all u.settled (key_of u) early late
    -- and it holds them then
    pub done : dev.Tells → (all : List ℕ) → Holds seal u all before
        → IfOk result (λ r. Holds seal (see r) all after)
    -- no other blob changes, and then all bytes stand in the blob
    pub wrote : dev.Tells → (all : List ℕ)
        → Data u.page_size all (flushed_of u) (view before.content)
        → StandsAt all (u.first * u.page_size) u.tip
        → Wrote u.page_size all (size_of u) (key_of u) result early late
    -- Where the sealed prefix of an adopted blob is shorter than its size, each crash leaves it,
    pub steady : dev.Tells → IsUnrecovered seal u before
        → KeepsPrefix seal u.page_size (prefix_of seal u early) (key_of u) early late
    -- and it stays such a blob
    pub unrecovered : dev.Tells → IsUnrecovered seal u before
        → IfOk result (λ r. IsUnrecovered seal (see r) after)
    -- the pages below the tip's stand as they did
    pub prefix : dev.Tells → SparesPrefix (page_at u.page_size u.first) (key_of u) early late
    -- what a crash left in the blob is gone for good before the first byte is written
    pub clears : dev.Tells → StandsSettled before
        → Leftover seal u.page_size before.content u.first u.from u.newest u.behind u.torn
        → Always early late (OnlyAt (key_of u) (disk early)
        (ClearsFirst seal u.page_size u.first u.from u.newest))
    -- and then nothing of it is left, but where all was flushed
    pub left : IfOk result (λ r. (length u.tip ≤ u.from) ⊎ (has_leftover (see r) ≡ false))
    -- what is in memory is as in the blob
    pub backed : dev.Tells → IsBacked seal u before.content
        → IfOk result (λ r. IsBacked seal (see r) after.content)
    -- the full pages that were flushed stand first in memory
    pub cached : IfOk result (λ r. AddsPages u (see r))
    -- where all is flushed, no call of the device is made,
    pub idle : length u.tip ≤ u.from → new ≡ old
    -- and the buffer is as before
    pub fine : length u.tip ≤ u.from → IsOkAnd result (λ r. see r ≡ u)
    -- the blob, its pages, the capacity and the bound of the cache stay,
    pub key : IfOk result (λ r. key_of (see r) ≡ key_of u)
    pub page_size : IfOk result (λ r. (see r).page_size ≡ u.page_size)
    pub capacity : IfOk result (λ r. (see r).capacity ≡ u.capacity)
    pub cache_pages : IfOk result (λ r. (see r).cache_pages ≡ u.cache_pages)
    -- what has settled, and by which slot,
    pub settled : IfOk result (λ r. (see r).settled ≡ u.settled)
    pub newest : IfOk result (λ r. (see r).newest ≡ u.newest)
    -- and the size
    pub size : IfOk result (λ r. size_of (see r) ≡ size_of u)
    -- all is flushed
    pub flushed : IfOk result (λ r. (see r).from ≡ length (see r).tip)
    -- the tip is the end of the same bytes
    pub tip : IfOk result (λ r. (all : List ℕ) → StandsAt all (u.first * u.page_size) u.tip
        → StandsAt all ((see r).first * (see r).page_size) (see r).tip)
    -- the buffer knows how long the blob is
    pub length : IfOk result (λ r. IsOpenAt (dev.opened new) (key_of u) (see r).end)
    -- no read began, and no other entry changed
    pub entries : NoReads (key_of u) (dev.opened old) (dev.opened new)
    -- faults never fall, and one that is told is counted
    pub faults : dev.faults old ≤ dev.faults new
    pub cause : result ≡ Err Fault → Rose (dev.faults old) (dev.faults new)
