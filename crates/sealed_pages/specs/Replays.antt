-- What beginning a reader over a sealed blob promises, and reading on.
use Rattle.std.specs.Prelude.{◌≡◌, ◌⊎◌, ◌↔◌, ◌+◌, ◌-◌, ◌/◌, ◌<◌, ◌≤◌, length, ℕ, List, Bool, true, false, Result, Ok, Err, IfOk, OnOk, OnErr}
use Rattle.std.specs.Result.{IsErrOf}
use Rattle.blob_device.specs.Disk.{Key, Blob}
use Rattle.blob_device.specs.Timeline.{Timeline, disk}
use Rattle.blob_device.specs.declared.device.Device as device
use Rattle.blob_device.specs.declared.runtime.RError.{RError}
use Rattle.blob_device.specs.declared.runtime.RError.TheVariants.{InvalidChecksum, Mem}
use Rattle.sealed_pages.specs.Buffer.{Buffer, key_of, size_of, flushed_of, bytes_of, AddsPages, IsBacked, IsSealed}
use Rattle.sealed_pages.specs.Calls.{FailsBelow}
use Rattle.sealed_pages.specs.ChanceSeal.{Sealing}
use Rattle.sealed_pages.specs.Entries.{IsOpenAt, NoReads, ReadsAtMost}
use Rattle.sealed_pages.specs.Flushing.{Alone}
use Rattle.sealed_pages.specs.Leftover.{IsKnown}
use Rattle.sealed_pages.specs.Readers.{Reader, next_of, missing_of, IsTipOf, IsReplayOf, ReadsUnread, SameReader}
use Rattle.sealed_pages.specs.Reading.{Unchanged}
use Rattle.sealed_pages.specs.Reads.{IsWanted, IsCovered, IsShort, touched, EndsAtOrPast}
use Rattle.sealed_pages.specs.SealedPrefix.{data_from}
use Rattle.sealed_pages.specs.Unrecovered.{blob_of, prefix_of, KeepsPrefix, IsUnrecovered}
use Rattle.sealed_pages.specs.View.{view}

module _ {D : Type 0} (dev : device.Ghosts D) (seal : List ℕ → ℕ) (u : Buffer) (old new : D) where
  -- the disk's history before the call, and then
  abbrev early : Timeline
  early = dev.time old

  abbrev late : Timeline
  late = dev.time new

  -- the buffer's blob before the call, and then
  abbrev before : Blob
  before = blob_of u early

  abbrev after : Blob
  after = blob_of u late

  -- the bytes that the buffer meant before
  abbrev meant : List ℕ
  meant = bytes_of u before.content

  -- What is not flushed of the buffer u is flushed, and a reader over all its bytes begins.
  pub record Replays {B Q : Type 0} (see : B → Buffer) (reads : Q → Reader)
      (result : Result (B × Q) RError) : Type 0 where
    -- at every moment each crash leaves a prefix of the bytes, no shorter than what had settled
    pub crashes : dev.Tells → IsSealed seal u before
        → Sealing seal u.page_size meant u.settled (key_of u) early late
    -- a sealed buffer stays sealed
    pub sealed : dev.Tells → IsSealed seal u before
        → IfOk result (λ r. IsSealed seal (see r.0) after)
    -- no other blob changes
    pub alone : dev.Tells → IsBacked seal u before.content → Alone (key_of u) early late
    -- the bytes stay
    pub bytes : dev.Tells → IsBacked seal u before.content
        → IfOk result (λ r. bytes_of (see r.0) after.content ≡ meant)
    -- what is in memory is as in the blob
    pub backed : dev.Tells → IsBacked seal u before.content
        → IfOk result (λ r. IsBacked seal (see r.0) after.content)
    -- Also of an adopted blob whose sealed prefix is shorter than its size, each crash leaves that
    -- prefix,
    pub steady : dev.Tells → IsUnrecovered seal u before
        → KeepsPrefix seal u.page_size (prefix_of seal u early) (key_of u) early late
    -- and it stays such a blob
    pub unrecovered : dev.Tells → IsUnrecovered seal u before
        → IfOk result (λ r. IsUnrecovered seal (see r.0) after)
    -- where something is left that a crash left, it is known still
    pub known : dev.Tells → IsKnown seal u before
        → IfOk result (λ r. IsKnown seal (see r.0) after)
    -- what the reader gives is what the buffer means
    pub «data» : dev.Tells → IsBacked seal u before.content
        → IfOk result (λ r. data_from u.page_size (view after.content) 0 (size_of u) ≡ meant)
    -- no page of a sealed buffer will be refused
    pub whole : dev.Tells → IsSealed seal u before
        → IfOk result (λ r. IsCovered seal u.page_size after.content 0 (size_of u))
    -- where all is flushed, no call of the device is made,
    pub idle : flushed_of u ≡ size_of u → new ≡ old
    -- and the buffer is as before
    pub same : flushed_of u ≡ size_of u → IfOk result (λ r. see r.0 ≡ u)
    -- the reader is over any content that what is in memory is as in
    pub replays : IfOk result (λ r. (content : List ℕ) → IsBacked seal (see r.0) content
        → IsReplayOf seal content (reads r.1))
    -- the full pages that were flushed stand first in memory
    pub cached : IfOk result (λ r. AddsPages u (see r.0))
    -- the reader begins at the first byte, and goes to the last,
    pub begins : IfOk result (λ r. ((reads r.1).at ≡ 0) × ((reads r.1).size ≡ size_of u))
    -- over the buffer's blob
    pub over : IfOk result (λ r. ((reads r.1).key ≡ key_of u)
        × ((reads r.1).page_size ≡ u.page_size) × ((reads r.1).end ≡ (see r.0).end))
    -- all is flushed
    pub flushed : IfOk result (λ r. (see r.0).from ≡ length (see r.0).tip)
    -- what has settled stays, and the size,
    pub settled : IfOk result (λ r. (see r.0).settled ≡ u.settled)
    pub size : IfOk result (λ r. size_of (see r.0) ≡ size_of u)
    -- and so do the blob, its pages, the capacity and the bound of the cache
    pub key : IfOk result (λ r. key_of (see r.0) ≡ key_of u)
    pub page_size : IfOk result (λ r. (see r.0).page_size ≡ u.page_size)
    pub capacity : IfOk result (λ r. (see r.0).capacity ≡ u.capacity)
    pub cache_pages : IfOk result (λ r. (see r.0).cache_pages ≡ u.cache_pages)
    -- the blob is opened, as long as the buffer says, and the reader
    pub «open» : IfOk result (λ r. IsOpenAt (dev.opened new) (key_of (see r.0)) (see r.0).end)
    pub reader : IfOk result (λ r. IsOpenAt (dev.opened new) (reads r.1).key (reads r.1).end)
    -- no read began, and no other entry changed
    pub entries : NoReads (key_of u) (dev.opened old) (dev.opened new)
    -- faults never fall
    pub faults : dev.faults old ≤ dev.faults new
    -- no error comes but by memory or the device
    pub cause : OnErr result (FailsBelow dev result old new)

module _ {D : Type 0} (dev : device.Ghosts D) (seal : List ℕ → ℕ) (u v : Reader) (old new : D) where
  -- the content of the blob, which no read changes
  abbrev content : List ℕ
  content = (disk (dev.time old) u.key).content

  -- The reader u reads until n bytes are at hand, or all that are left. Then it is v.
  pub record Ensures (n : ℕ) (result : Result Bool RError) : Type 0 where
    -- where it says so, n bytes are at hand,
    pub at_hand : IfOk result (λ r. r ≡ true → n ≤ length v.bytes)
    -- else all that are left
    pub rest : IfOk result (λ r. r ≡ false → next_of v ≡ v.size)
    -- exactly where there are n bytes from the position on it says so
    pub exact : IfOk result (λ r. (r ≡ true) ↔ (u.at + n ≤ u.size))
    -- where they are at hand already, no call of the device is made
    pub ready : n ≤ length u.bytes → (new ≡ old) × (result ≡ Ok true)
    -- what is at hand ends within the blob's bytes
    pub within : next_of v ≤ v.size
    -- the blob and the position stay, also where the call fails,
    pub same : SameReader u v
    -- and at hand is at least what was
    pub grows : length u.bytes ≤ length v.bytes
    -- what is at hand is what the blob has there, and a matching slot covers it
    pub replays : dev.Tells → IsReplayOf seal content u → IsReplayOf seal content v
    -- a page is refused that no matching slot covers as far as the n bytes need it
    pub checksum : dev.Tells → IsReplayOf seal content u → (p : ℕ)
        → IsErrOf result (InvalidChecksum p)
        → IsShort seal u.page_size content (next_of u) (missing_of u n) p
    -- no blob changes
    pub unchanged : dev.Tells → Unchanged (dev.time old) (dev.time new)
    -- the blob is opened, as long as the reader says
    pub «open» : IsOpenAt (dev.opened new) v.key v.end
    -- at most one read a page of which a wanted byte is not at hand, so none where all are
    pub reads : ReadsAtMost (touched u.page_size (next_of u) (missing_of u n)) u.key
        (dev.opened old) (dev.opened new)
    -- calls that go on and on read each page at most once, as long as the device and memory serve
    pub once : OnOk result (ReadsUnread u v (dev.opened old) (dev.opened new))
    -- and so it is where a page is refused
    pub judged : (p : ℕ) → IsErrOf result (InvalidChecksum p)
        → ReadsUnread u v (dev.opened old) (dev.opened new)
    -- faults never fall
    pub faults : dev.faults old ≤ dev.faults new
    -- no other error comes than by a wanted page, memory or the device
    pub cause : OnErr result (((p : ℕ) × (result ≡ Err (InvalidChecksum p))
        × IsWanted u.page_size (next_of u) (missing_of u n) p) ⊎ FailsBelow dev result old new)

  -- The bytes of the next page are added, up to the blob's last. Byte `goal` is the one to reach.
  pub record Fetches {T : Type 0} (goal : ℕ) (result : Result T RError) : Type 0 where
    -- the blob and the position stay
    pub same : SameReader u v
    -- what is at hand is what the blob has there, and a matching slot covers it
    pub replays : dev.Tells → IsReplayOf seal content u → IsReplayOf seal content v
    -- more is at hand,
    pub grows : OnOk result (next_of u < next_of v)
    -- on to the page's end, or within it to the goal;
    pub reaches : OnOk result (EndsAtOrPast u.page_size (next_of u) goal (next_of v))
    -- after an error no more and no less
    pub stays : OnErr result (v.bytes ≡ u.bytes)
    -- a page is refused that no matching slot covers as far as the goal needs it
    pub short : dev.Tells → IsReplayOf seal content u → (p : ℕ)
        → IsErrOf result (InvalidChecksum p)
        → IsShort seal u.page_size content (next_of u) (goal - next_of u) p
    -- a read takes a page that was not read
    pub once : OnOk result (ReadsUnread u v (dev.opened old) (dev.opened new))
    -- and so it is where a page is refused
    pub judged : (p : ℕ) → IsErrOf result (InvalidChecksum p)
        → ReadsUnread u v (dev.opened old) (dev.opened new)
    -- no blob changes
    pub unchanged : dev.Tells → Unchanged (dev.time old) (dev.time new)
    -- at most one read began, and no other entry changed
    pub entries : ReadsAtMost 1 u.key (dev.opened old) (dev.opened new)
    -- faults never fall
    pub faults : dev.faults old ≤ dev.faults new
    -- no other error comes than by a wanted page, memory or the device
    pub cause : OnErr result (((p : ℕ) × (result ≡ Err (InvalidChecksum p))
        × IsWanted u.page_size (next_of u) (goal - next_of u) p) ⊎ FailsBelow dev result old new)

-- A reader from the first byte of a blob begins, with the bytes of a last page that is not full.
pub record Begins {Q : Type 0} (seal : List ℕ → ℕ) (reads : Q → Reader) (blob : Key) (P ends n : ℕ)
    (last : List ℕ) (result : Result Q RError) : Type 0 where
  -- it is over this blob, of pages so long,
  pub key : IfOk result (λ r. (reads r).key ≡ blob)
  pub page_size : IfOk result (λ r. (reads r).page_size ≡ P)
  -- which ends there, and has n bytes
  pub end : IfOk result (λ r. (reads r).end ≡ ends)
  pub size : IfOk result (λ r. (reads r).size ≡ n)
  -- it stands at the first of them
  pub begin : IfOk result (λ r. (reads r).at ≡ 0)
  -- it reads any content of which the last page is as given
  pub replays : IfOk result (λ r. (content : List ℕ) → IsTipOf seal P content (n / P) last
      → IsReplayOf seal content (reads r))
  -- no error comes but by memory
  pub cause : OnErr result (result ≡ Err Mem)
