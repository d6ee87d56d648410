-- What the steps of a cut of a settled blob promise. After each of them the blob has settled again.
use Rattle.std.specs.Prelude.{◌≡◌, ◌⊎◌, ◌+◌, ◌*◌, ◌<◌, ◌≤◌, min, not, length, take, drop, Bool, ℕ, List, Result, Err, IfOk, OnOk, OnErr}
use Rattle.blob_device.specs.Change.{written, resized}
use Rattle.blob_device.specs.Counts.{Rose}
use Rattle.blob_device.specs.Disk.{Key, Blob, settled_at}
use Rattle.blob_device.specs.Timeline.{Timeline, disk}
use Rattle.blob_device.specs.declared.device.Device as device
use Rattle.blob_device.specs.declared.error.DevError.{DevError}
use Rattle.blob_device.specs.declared.error.DevError.TheVariants.{Fault}
use Rattle.blob_device.specs.declared.runtime.RError.{RError}
use Rattle.blob_device.specs.declared.runtime.RError.TheVariants.{InvalidChecksum}
use Rattle.sealed_pages.specs.declared.cut.Head.{Head}
use Rattle.sealed_pages.specs.Calls.{FailsBelow}
use Rattle.sealed_pages.specs.ChanceSeal.{Sealing}
use Rattle.sealed_pages.specs.Cutting.{StandsSettled, page_cut, FewReads}
use Rattle.sealed_pages.specs.Entries.{IsOpenAt, NoReads}
use Rattle.sealed_pages.specs.Flushing.{Alone, no_slot}
use Rattle.sealed_pages.specs.Reading.{Unchanged}
use Rattle.sealed_pages.specs.SealedPrefix.{sealed_prefix}
use Rattle.sealed_pages.specs.SlotNames.{is_b}
use Rattle.sealed_pages.specs.Slots.{slot_length, page_length, best_slot, slot_bytes}
use Rattle.sealed_pages.specs.Unrecovered.{SparesPrefix}
use Rattle.sealed_pages.specs.View.{page_at, slot_at}

module _ {D : Type 0} (dev : device.Ghosts D) (seal : List ℕ → ℕ) (P : ℕ) (blob : Key)
    (old new : D) where
  -- the disk's history before the call, and then
  abbrev early : Timeline
  early = dev.time old

  abbrev late : Timeline
  late = dev.time new

  -- the blob before the call, and then
  abbrev before : Blob
  before = disk early blob

  abbrev after : Blob
  after = disk late blob

  -- the sealed prefix of the blob before
  abbrev sealed_part : List ℕ
  sealed_part = sealed_prefix seal P before.content

  -- The blob is cut where this page begins.
  pub record CutsPages {T : Type 0} (page : ℕ) (result : Result T DevError) : Type 0 where
    -- of a settled blob that reaches so far each crash leaves a prefix of the sealed prefix, with all
    -- of it that stands in these pages
    pub crashes : dev.Tells → StandsSettled before → page_at P page ≤ length before.content
        → Sealing seal P sealed_part (min (page * P) (length sealed_part)) blob early late
    -- it has settled with the pages before
    pub settles : dev.Tells
        → OnOk result (after ≡ settled_at (resized before.content (page_at P page)))
    -- no other blob changes
    pub alone : dev.Tells → Alone blob early late
    -- those pages stand as they did
    pub prefix : dev.Tells → SparesPrefix (page_at P page) blob early late
    -- the opened list has its length
    pub length : OnOk result (IsOpenAt (dev.opened new) blob (page_at P page))
    -- no read began, and no other entry changed
    pub entries : NoReads blob (dev.opened old) (dev.opened new)
    -- faults never fall, and one that is told is counted
    pub faults : dev.faults old ≤ dev.faults new
    pub cause : result ≡ Err Fault → Rose (dev.faults old) (dev.faults new)

  -- The blob is cut where this page begins, if it reaches further. The answer is its end.
  pub record CutsLater (page : ℕ) (result : Result ℕ DevError) : Type 0 where
    -- of a settled blob each crash leaves a prefix of the sealed prefix, with all of it that stands in
    -- these pages
    pub crashes : dev.Tells → StandsSettled before
        → Sealing seal P sealed_part (min (page * P) (length sealed_part)) blob early late
    -- it has the pages before
    pub content : dev.Tells → OnOk result (after.content ≡ take (page_at P page) before.content)
    -- it has settled, if it had
    pub rests : dev.Tells → StandsSettled before → OnOk result (StandsSettled after)
    -- no other blob changes
    pub alone : dev.Tells → Alone blob early late
    -- those pages stand as they did
    pub prefix : dev.Tells → SparesPrefix (page_at P page) blob early late
    -- the opened list has its length
    pub length : IfOk result (λ n. IsOpenAt (dev.opened new) blob n)
    -- no read began, and no other entry changed
    pub entries : NoReads blob (dev.opened old) (dev.opened new)
    -- faults never fall, and one that is told is counted
    pub faults : dev.faults old ≤ dev.faults new
    pub cause : result ≡ Err Fault → Rose (dev.faults old) (dev.faults new)

  -- A slot over these first bytes of a page is written and settled. The answer is the blob's end.
  pub record AddsSlot (page : ℕ) (bytes : List ℕ) (second : Bool)
      (result : Result ℕ DevError) : Type 0 where
    -- Of the last page, beside the slot that covers it, and over first bytes that it covers, each
    -- crash leaves the sealed prefix.
    pub crashes : dev.Tells → StandsSettled before → length before.content ≤ page_at P (page + 1)
        → best_slot seal P before.content page ≡ not second
        → length bytes ≤ page_length seal P before.content page
        → bytes ≡ take (length bytes) (drop (page_at P page) before.content)
        → Sealing seal P sealed_part (length sealed_part) blob early late
    -- it has settled with the slot
    pub settles : dev.Tells → OnOk result (after
        ≡ settled_at (written before.content (slot_at P page second) (slot_bytes seal P bytes)))
    -- no other blob changes
    pub alone : dev.Tells → Alone blob early late
    -- the pages before stand as they did
    pub prefix : dev.Tells → SparesPrefix (page_at P page) blob early late
    -- the opened list has its length
    pub length : IfOk result (λ n. IsOpenAt (dev.opened new) blob n)
    -- no read began, and no other entry changed
    pub entries : NoReads blob (dev.opened old) (dev.opened new)
    -- faults never fall, and one that is told is counted
    pub faults : dev.faults old ≤ dev.faults new
    pub cause : result ≡ Err Fault → Rose (dev.faults old) (dev.faults new)

  -- Zeros are written over a slot of a page and settled. The answer is the blob's end.
  pub record ClearsSlot (page : ℕ) (second : Bool) (result : Result ℕ DevError) : Type 0 where
    -- Of the last page, each crash leaves a prefix of the sealed prefix, no shorter than what the
    -- other slot covers.
    pub crashes : dev.Tells → (keep : ℕ) → StandsSettled before
        → length before.content ≤ page_at P (page + 1)
        → slot_length seal P before.content page (not second) ≡ keep → 0 < keep
        → page * P + keep ≤ length sealed_part
        → Sealing seal P sealed_part (page * P + keep) blob early late
    -- it has settled without the slot
    pub settles : dev.Tells
        → OnOk result (after ≡ settled_at (written before.content (slot_at P page second) no_slot))
    -- no other blob changes
    pub alone : dev.Tells → Alone blob early late
    -- the pages before stand as they did
    pub prefix : dev.Tells → SparesPrefix (page_at P page) blob early late
    -- the opened list has its length
    pub length : IfOk result (λ n. IsOpenAt (dev.opened new) blob n)
    -- no read began, and no other entry changed
    pub entries : NoReads blob (dev.opened old) (dev.opened new)
    -- faults never fall, and one that is told is counted
    pub faults : dev.faults old ≤ dev.faults new
    pub cause : result ≡ Err Fault → Rose (dev.faults old) (dev.faults new)

  -- A page is cut to these first bytes, which this slot covers, and what stands behind it. The
  -- answer is the blob's end.
  pub record CutsInside (page : ℕ) (bytes : List ℕ) (second : Bool)
      (result : Result ℕ DevError) : Type 0 where
    -- of a settled blob, where the cut is within its sealed prefix, each crash leaves a prefix of
    -- that, no shorter than the cut
    pub crashes : dev.Tells → StandsSettled before → best_slot seal P before.content page ≡ second
        → length bytes ≤ page_length seal P before.content page
        → bytes ≡ take (length bytes) (drop (page_at P page) before.content)
        → page * P + length bytes ≤ length sealed_part
        → Sealing seal P sealed_part (page * P + length bytes) blob early late
    -- it has settled so
    pub settles : dev.Tells
        → OnOk result (after ≡ settled_at (page_cut seal P before.content page second bytes))
    -- no other blob changes
    pub alone : dev.Tells → Alone blob early late
    -- the pages before stand as they did
    pub prefix : dev.Tells → SparesPrefix (page_at P page) blob early late
    -- the opened list has its length
    pub length : IfOk result (λ n. IsOpenAt (dev.opened new) blob n)
    -- no read began, and no other entry changed
    pub entries : NoReads blob (dev.opened old) (dev.opened new)
    -- faults never fall, and one that is told is counted
    pub faults : dev.faults old ≤ dev.faults new
    pub cause : result ≡ Err Fault → Rose (dev.faults old) (dev.faults new)

  -- The first `keep` bytes of a page are read from the blob, which has n bytes.
  pub record ReadsHead (n page keep : ℕ) (result : Result Head RError) : Type 0 where
    -- a matching slot covers them,
    pub covered : dev.Tells → OnOk result (keep ≤ page_length seal P before.content page)
    -- and the slot is the one of greater length
    pub best : dev.Tells → IfOk result (λ h. best_slot seal P before.content page ≡ is_b h.slot)
    -- they are those of the blob,
    pub bytes : dev.Tells
        → IfOk result (λ h. h.bytes.items ≡ take keep (drop (page_at P page) before.content))
    -- as many as are kept
    pub long : IfOk result (λ h. length h.bytes.items ≡ keep)
    -- no blob changes
    pub unchanged : dev.Tells → Unchanged early late
    -- it is as long as before
    pub length : IsOpenAt (dev.opened new) blob n
    -- at most one read began, and no other entry changed
    pub entries : FewReads 1 blob (dev.opened old) (dev.opened new)
    -- faults never fall
    pub faults : dev.faults old ≤ dev.faults new
    -- a page is refused that no matching slot covers so far
    pub checksum : dev.Tells → (p : ℕ) → result ≡ Err (InvalidChecksum p)
        → page_length seal P before.content page < keep
    -- no error comes but for this page, by memory or the device
    pub cause : OnErr result ((result ≡ Err (InvalidChecksum page)) ⊎ FailsBelow dev result old new)
