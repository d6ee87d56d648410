-- What the cut of a buffer promises of which all has settled.
use Rattle.std.specs.Prelude.{Bool, ◌≡◌, ◌⊎◌, ◌+◌, ◌*◌, ◌<◌, ◌≤◌, length, take, false, ℕ, List, [], Result, Err, IfOk, OnOk, OnErr}
use Rattle.blob_device.specs.Disk.{Blob}
use Rattle.blob_device.specs.Timeline.{Timeline}
use Rattle.blob_device.specs.declared.device.Device as device
use Rattle.blob_device.specs.declared.runtime.RError.{RError}
use Rattle.blob_device.specs.declared.runtime.RError.TheVariants.{InvalidChecksum}
use Rattle.sealed_pages.specs.Buffer.{Buffer, key_of, bytes_of, HasFlushed, Holds}
use Rattle.sealed_pages.specs.Calls.{FailsBelow}
use Rattle.sealed_pages.specs.ChanceSeal.{Sealing}
use Rattle.sealed_pages.specs.Cutting.{StandsSettled, FewReads}
use Rattle.sealed_pages.specs.Entries.{IsOpenAt, NoReads}
use Rattle.sealed_pages.specs.Flushing.{Alone, Data}
use Rattle.sealed_pages.specs.Reading.{Unchanged}
use Rattle.sealed_pages.specs.SealedPrefix.{adopted_size}
use Rattle.sealed_pages.specs.Slots.{page_length}
use Rattle.sealed_pages.specs.Unrecovered.{blob_of, prefix_of, SparesPrefix}
use Rattle.sealed_pages.specs.View.{view, page_at}

-- the buffer that ends with these bytes of a page, which have settled; its blob ends at `end`
abbrev pub ended_with : Buffer → ℕ → ℕ → List ℕ → Bool → Buffer
ended_with u end page tip newest = record u {
  end = end;
  first = page;
  tip = tip;
  from = length tip;
  settled = page * u.page_size + length tip;
  newest = newest;
  behind = false;
  torn = false;
  cache = [];
}

module _ {D : Type 0} (dev : device.Ghosts D) (seal : List ℕ → ℕ) (u : Buffer) (old new : D) where
  -- the disk's history before the call, and then
  abbrev early : Timeline
  early = dev.time old

  abbrev late : Timeline
  late = dev.time new

  -- the buffer's blob before the call, and then
  abbrev before : Blob
  before = blob_of u early

  abbrev after : Blob
  after = blob_of u late

  -- the sealed prefix of the blob before
  abbrev sealed_part : List ℕ
  sealed_part = prefix_of seal u early

  -- The buffer is cut where this page begins.
  pub record CutsAt {B : Type 0} (see : B → Buffer) (page : ℕ)
      (result : Result B RError) : Type 0 where
    -- of a settled blob, where the cut is within its sealed prefix, each crash leaves a prefix of
    -- that, no shorter than the cut,
    pub crashes : dev.Tells → StandsSettled before → page_at u.page_size page ≤ length before.content
        → page * u.page_size ≤ length sealed_part
        → Sealing seal u.page_size sealed_part (page * u.page_size) (key_of u) early late
    -- and then the buffer holds it up to there
    pub done : dev.Tells → StandsSettled before → page_at u.page_size page ≤ length before.content
        → page * u.page_size ≤ length sealed_part
        → IfOk result (λ r. Holds seal (see r) (take (page * u.page_size) sealed_part) after)
    -- whatever the slots say: the buffer means the data up to there,
    pub bytes : dev.Tells → (all : List ℕ)
        → Data u.page_size all (page * u.page_size) (view before.content)
        → length all ≡ page * u.page_size
        → IfOk result (λ r. bytes_of (see r) after.content ≡ all)
    -- which stand in the blob
    pub backed : dev.Tells → (all : List ℕ)
        → Data u.page_size all (page * u.page_size) (view before.content)
        → length all ≡ page * u.page_size → IfOk result (λ r. HasFlushed (see r) after.content)
    -- a matching slot covers its tip, and no page is in memory
    pub memory : dev.Tells → IfOk result (λ r. ((see r).from
        ≤ page_length seal u.page_size after.content (see r).first) × ((see r).cache ≡ []))
    -- the blob has settled
    pub rests : dev.Tells → OnOk result (StandsSettled after)
    -- the buffer ends there
    pub same : IfOk result (λ r. see r ≡ ended_with u (see r).end page [] (see r).newest)
    -- no other blob changes
    pub alone : dev.Tells → Alone (key_of u) early late
    -- the pages before stand as they did
    pub prefix : dev.Tells → SparesPrefix (page_at u.page_size page) (key_of u) early late
    -- whatever the slots say: adopting the blob finds no more
    pub shorter : dev.Tells
        → OnOk result (adopted_size seal u.page_size after.content ≤ page * u.page_size)
    -- the buffer knows how long the blob is
    pub length : IfOk result (λ r. IsOpenAt (dev.opened new) (key_of u) (see r).end)
    -- no read began, and no other entry changed
    pub entries : NoReads (key_of u) (dev.opened old) (dev.opened new)
    -- faults never fall
    pub faults : dev.faults old ≤ dev.faults new
    -- no error comes but by memory or the device
    pub cause : OnErr result (FailsBelow dev result old new)

  -- The buffer is cut to the first `keep` bytes of this page.
  pub record CutsWithin {B : Type 0} (see : B → Buffer) (page keep : ℕ)
      (result : Result B RError) : Type 0 where
    -- of a settled blob each crash leaves a prefix of the sealed prefix, no shorter than the cut,
    pub crashes : dev.Tells → StandsSettled before → page * u.page_size + keep ≤ length sealed_part
        → Sealing seal u.page_size sealed_part (page * u.page_size + keep) (key_of u) early late
    -- and then the buffer holds it up to there
    pub done : dev.Tells → StandsSettled before → page * u.page_size + keep ≤ length sealed_part
        → IfOk result (λ r. Holds seal (see r) (take (page * u.page_size + keep) sealed_part) after)
    -- whatever the slots say: the buffer means the data up to there,
    pub bytes : dev.Tells → (all : List ℕ)
        → Data u.page_size all (page * u.page_size + keep) (view before.content)
        → length all ≡ page * u.page_size + keep
        → IfOk result (λ r. bytes_of (see r) after.content ≡ all)
    -- which stand in the blob
    pub backed : dev.Tells → (all : List ℕ)
        → Data u.page_size all (page * u.page_size + keep) (view before.content)
        → length all ≡ page * u.page_size + keep
        → IfOk result (λ r. HasFlushed (see r) after.content)
    -- a matching slot covers its tip, and no page is in memory
    pub memory : dev.Tells → IfOk result (λ r. ((see r).from
        ≤ page_length seal u.page_size after.content (see r).first) × ((see r).cache ≡ []))
    -- the blob has settled
    pub rests : dev.Tells → OnOk result (StandsSettled after)
    -- the buffer ends there
    pub same : IfOk result (λ r. see r ≡ ended_with u (see r).end page (see r).tip (see r).newest)
    -- with the bytes that are kept as its tip
    pub long : IfOk result (λ r. length (see r).tip ≡ keep)
    -- no other blob changes
    pub alone : dev.Tells → Alone (key_of u) early late
    -- the pages before stand as they did
    pub prefix : dev.Tells → SparesPrefix (page_at u.page_size page) (key_of u) early late
    -- whatever the slots say: adopting the blob finds no more
    pub shorter : dev.Tells
        → OnOk result (adopted_size seal u.page_size after.content ≤ page * u.page_size + keep)
    -- the buffer knows how long the blob is
    pub length : IfOk result (λ r. IsOpenAt (dev.opened new) (key_of u) (see r).end)
    -- at most one read began, and no other entry changed
    pub entries : FewReads 1 (key_of u) (dev.opened old) (dev.opened new)
    -- faults never fall
    pub faults : dev.faults old ≤ dev.faults new
    -- the page is refused only where no matching slot covers it so far,
    pub checksum : dev.Tells → (p : ℕ) → result ≡ Err (InvalidChecksum p)
        → page_length seal u.page_size before.content page < keep
    -- and cut only where one does
    pub covered : dev.Tells
        → OnOk result (keep ≤ page_length seal u.page_size before.content page)
    -- where none does, no blob changes
    pub refused : dev.Tells → page_length seal u.page_size before.content page < keep
        → Unchanged early late
    -- no other error comes than by memory or the device
    pub cause : OnErr result ((result ≡ Err (InvalidChecksum page)) ⊎ FailsBelow dev result old new)
