-- What the calls promise that write to a sealed blob: `append`, `sync` and `truncate`.
use Rattle.std.specs.Prelude.{◌≡◌, ◌⊎◌, ◌↔◌, ◌+◌, ◌*◌, ◌/◌, ◌%◌, ◌^◌, ◌<◌, ◌≤◌, ◌++◌, min, length, take, ℕ, List, [], Result, Err, IfOk, OnOk, OnErr, IsOkAnd}
use Rattle.std.specs.Result.{IsErrOf}
use Rattle.blob_device.specs.Disk.{Blob}
use Rattle.blob_device.specs.Timeline.{Timeline, Always, OnlyAt, disk}
use Rattle.blob_device.specs.declared.device.Device as device
use Rattle.blob_device.specs.declared.runtime.RError.{RError}
use Rattle.blob_device.specs.declared.runtime.RError.TheVariants.{InvalidChecksum, Mem, OffsetOverflow}
use Rattle.sealed_pages.specs.Buffer.{Buffer, key_of, size_of, bytes_of, extent, FlushesNothing, AddsPages, IsBacked, IsSealed}
use Rattle.sealed_pages.specs.Calls.{FailsBelow}
use Rattle.sealed_pages.specs.ChanceSeal.{Leaves, Sealing}
use Rattle.sealed_pages.specs.Cutting.{StandsSettled, Settles, FewReads}
use Rattle.sealed_pages.specs.Entries.{IsOpenAt, NoReads}
use Rattle.sealed_pages.specs.Flushing.{Alone, Data}
use Rattle.sealed_pages.specs.Leftover.{Leftover, ClearsFirst, IsKnown}
use Rattle.sealed_pages.specs.Reading.{Unchanged}
use Rattle.sealed_pages.specs.SealedPrefix.{adopted_size}
use Rattle.sealed_pages.specs.Slots.{page_length}
use Rattle.sealed_pages.specs.Tails.{LeavesTail}
use Rattle.sealed_pages.specs.Unrecovered.{blob_of, prefix_of, SparesPrefix, KeepsPrefix, IsUnrecovered, IsRecovery, IsSafeCut}
use Rattle.sealed_pages.specs.View.{view, page_at}

module _ {D : Type 0} (dev : device.Ghosts D) (seal : List ℕ → ℕ) (u : Buffer) (old new : D) where
  -- the disk's history before the call, and then
  abbrev early : Timeline
  early = dev.time old

  abbrev late : Timeline
  late = dev.time new

  -- the buffer's blob before the call, and then
  abbrev before : Blob
  before = blob_of u early

  abbrev after : Blob
  after = blob_of u late

  -- the bytes that the buffer meant before
  abbrev meant : List ℕ
  meant = bytes_of u before.content

  -- and the sealed prefix of its blob
  abbrev sealed_part : List ℕ
  sealed_part = prefix_of seal u early

  -- These bytes are added at the end of the buffer u. The answer has the place of the first of
  -- them.
  pub record Appends {B : Type 0} (see : B → Buffer) (more : List ℕ)
      (result : Result (B × ℕ) RError) : Type 0 where
    -- At every moment, also inside a call of the device, each crash leaves a blob whose sealed
    -- prefix is a prefix of the bytes, those of this call included, and no shorter than what has
    -- settled.
    pub crashes : dev.Tells → IsSealed seal u before
        → Sealing seal u.page_size (meant ++ more) u.settled (key_of u) early late
    -- a sealed buffer stays sealed
    pub sealed : dev.Tells → IsSealed seal u before
        → IfOk result (λ r. IsSealed seal (see r.0) after)
    -- what a crash left in the blob is gone for good before the first byte of a page is written
    pub clears : dev.Tells → StandsSettled before
        → Leftover seal u.page_size before.content u.first u.from u.newest u.behind u.torn
        → Always early late (OnlyAt (key_of u) (disk early)
        (ClearsFirst seal u.page_size u.first u.from u.newest))
    -- so it is in the next call, while something is left: it is known still
    pub known : dev.Tells → IsKnown seal u before → IfOk result (λ r. IsKnown seal (see r.0) after)
    -- Where the sealed prefix of an adopted blob is shorter than its size, each crash leaves that
    -- prefix as it was.
    pub steady : dev.Tells → IsUnrecovered seal u before
        → KeepsPrefix seal u.page_size sealed_part (key_of u) early late
    -- and it stays such a blob
    pub unrecovered : dev.Tells → IsUnrecovered seal u before
        → IfOk result (λ r. IsUnrecovered seal (see r.0) after)
    -- no other blob changes
    pub alone : dev.Tells → IsBacked seal u before.content
        → Alone (key_of u) early late
    -- the bytes stand behind those before
    pub bytes : dev.Tells → IsBacked seal u before.content
        → IfOk result (λ r. bytes_of (see r.0) after.content ≡ meant ++ more)
    -- what is in memory is as in the blob
    pub backed : dev.Tells → IsBacked seal u before.content
        → IfOk result (λ r. IsBacked seal (see r.0) after.content)
    -- the full pages that were flushed stand first in memory
    pub cached : IfOk result (λ r. AddsPages u (see r.0))
    -- below the capacity, and where nothing is to be flushed, no call of the device is made,
    pub below : FlushesNothing u (length more) → new ≡ old
    -- and so none fails
    pub faultless : FlushesNothing u (length more)
        → OnErr result ((result ≡ Err OffsetOverflow) ⊎ (result ≡ Err Mem))
    -- at the capacity all is flushed
    pub flushed : u.from + u.capacity ≤ length u.tip + length more
        → IfOk result (λ r. (see r.0).from ≡ length (see r.0).tip)
    -- what is not flushed then: all, until it reaches the capacity
    pub tail : IfOk result (λ r. LeavesTail u (length more) (see r.0))
    -- the place is the size before
    pub at : IfOk result (λ r. r.1 ≡ size_of u)
    -- the size grows by these bytes
    pub size : IfOk result (λ r. size_of (see r.0) ≡ size_of u + length more)
    -- the blob, its pages, the capacity and the bound of the cache stay,
    pub key : IfOk result (λ r. key_of (see r.0) ≡ key_of u)
    pub page_size : IfOk result (λ r. (see r.0).page_size ≡ u.page_size)
    pub capacity : IfOk result (λ r. (see r.0).capacity ≡ u.capacity)
    pub cache_pages : IfOk result (λ r. (see r.0).cache_pages ≡ u.cache_pages)
    -- and what has settled
    pub settled : IfOk result (λ r. (see r.0).settled ≡ u.settled)
    -- the blob is opened, as long as the buffer says
    pub «open» : IfOk result (λ r. IsOpenAt (dev.opened new) (key_of (see r.0)) (see r.0).end)
    -- no read began, and no other entry changed
    pub entries : NoReads (key_of u) (dev.opened old) (dev.opened new)
    -- exactly where the last page would pass 2^64 the bytes are refused as too many,
    pub overflow : IsErrOf result OffsetOverflow ↔ 2 ^ 64 ≤ extent u.page_size (size_of u + length
        more)
    -- with no call of the device
    pub refused : IsErrOf result OffsetOverflow → new ≡ old
    -- faults never fall
    pub faults : dev.faults old ≤ dev.faults new
    -- no other error comes than by memory or the device
    pub cause : OnErr result ((result ≡ Err OffsetOverflow) ⊎ FailsBelow dev result old new)

  -- All bytes of the buffer u are settled.
  pub record Syncs {B : Type 0} (see : B → Buffer) (result : Result B RError) : Type 0 where
    -- at every moment each crash leaves a prefix of the bytes, no shorter than what had settled
    pub crashes : dev.Tells → IsSealed seal u before
        → Sealing seal u.page_size meant u.settled (key_of u) early late
    -- a sealed buffer stays sealed
    pub sealed : dev.Tells → IsSealed seal u before → IfOk result (λ r. IsSealed seal (see r) after)
    -- what a crash left in the blob is gone for good before the first byte of a page is written
    pub clears : dev.Tells → StandsSettled before
        → Leftover seal u.page_size before.content u.first u.from u.newest u.behind u.torn
        → Always early late (OnlyAt (key_of u) (disk early)
        (ClearsFirst seal u.page_size u.first u.from u.newest))
    -- so it is in the next call, while something is left: it is known still
    pub known : dev.Tells → IsKnown seal u before → IfOk result (λ r. IsKnown seal (see r) after)
    -- Where the sealed prefix of an adopted blob is shorter than its size, each crash leaves that
    -- prefix as it was.
    pub steady : dev.Tells → IsUnrecovered seal u before
        → KeepsPrefix seal u.page_size sealed_part (key_of u) early late
    -- and it stays such a blob
    pub unrecovered : dev.Tells → IsUnrecovered seal u before
        → IfOk result (λ r. IsUnrecovered seal (see r) after)
    -- the pages below the tip's stand as they did
    pub prefix : dev.Tells
        → SparesPrefix (page_at u.page_size u.first) (key_of u) early late
    -- no other blob changes
    pub alone : dev.Tells → IsBacked seal u before.content
        → Alone (key_of u) early late
    -- the bytes stay
    pub bytes : dev.Tells → IsBacked seal u before.content
        → IfOk result (λ r. bytes_of (see r) after.content ≡ meant)
    -- what is in memory is as in the blob
    pub backed : dev.Tells → IsBacked seal u before.content
        → IfOk result (λ r. IsBacked seal (see r) after.content)
    -- the full pages that were flushed stand first in memory
    pub cached : IfOk result (λ r. AddsPages u (see r))
    -- where all has settled, no call of the device is made,
    pub idle : u.settled ≡ size_of u → new ≡ old
    -- and the buffer is as before
    pub same : u.settled ≡ size_of u → IsOkAnd result (λ r. see r ≡ u)
    -- all bytes outlive each crash then
    pub leaves : dev.Tells → IsSealed seal u before
        → OnOk result (Leaves seal u.page_size meant (size_of u) after)
    -- the blob has settled; where no call was made, if it had before
    pub rests : dev.Tells → (u.settled ≡ size_of u → StandsSettled before) → OnOk result (StandsSettled after)
    -- the bytes are its sealed prefix, and adopting it gives them again
    pub again : dev.Tells → IsSealed seal u before
        → OnOk result (Settles seal u.page_size meant after)
    -- all counts as settled
    pub settled : IfOk result (λ r. (see r).settled ≡ size_of (see r))
    -- the size stays
    pub size : IfOk result (λ r. size_of (see r) ≡ size_of u)
    -- and so do the blob, its pages, the capacity and the bound of the cache
    pub key : IfOk result (λ r. key_of (see r) ≡ key_of u)
    pub page_size : IfOk result (λ r. (see r).page_size ≡ u.page_size)
    pub capacity : IfOk result (λ r. (see r).capacity ≡ u.capacity)
    pub cache_pages : IfOk result (λ r. (see r).cache_pages ≡ u.cache_pages)
    -- the blob is opened, as long as the buffer says
    pub «open» : IfOk result (λ r. IsOpenAt (dev.opened new) (key_of (see r)) (see r).end)
    -- no read began, and no other entry changed
    pub entries : NoReads (key_of u) (dev.opened old) (dev.opened new)
    -- faults never fall
    pub faults : dev.faults old ≤ dev.faults new
    -- no error comes but by memory or the device
    pub cause : OnErr result (FailsBelow dev result old new)

  -- The buffer u is cut to this length, which has then settled.
  pub record Truncates {B : Type 0} (see : B → Buffer) (len : ℕ)
      (result : Result B RError) : Type 0 where
    -- at every moment each crash leaves a prefix of the bytes, no shorter than what has settled or
    -- than the new length
    pub crashes : dev.Tells → IsSealed seal u before
        → Sealing seal u.page_size meant (min u.settled len) (key_of u) early late
    -- a sealed buffer stays sealed
    pub sealed : dev.Tells → IsSealed seal u before → IfOk result (λ r. IsSealed seal (see r) after)
    -- where something is left that a crash left, it is known still
    pub known : dev.Tells → IsKnown seal u before → IfOk result (λ r. IsKnown seal (see r) after)
    -- Also where the sealed prefix of an adopted blob is shorter than its size, if the cut is to at
    -- most that prefix.
    pub recovering : dev.Tells → IsRecovery seal u len before
        → Sealing seal u.page_size sealed_part len (key_of u) early late
    -- the promise on crashes begins again there
    pub recovered : dev.Tells → IsRecovery seal u len before
        → IfOk result (λ r. IsSealed seal (see r) after)
    -- the bytes are then those of the prefix
    pub prefix : dev.Tells → IsRecovery seal u len before
        → IfOk result (λ r. bytes_of (see r) after.content ≡ take len sealed_part)
    -- and adopting the blob gives them again
    pub prefix_again : dev.Tells → IsRecovery seal u len before
        → OnOk result (Settles seal u.page_size (take len sealed_part) after)
    -- they outlive each crash
    pub prefix_leaves : dev.Tells → IsRecovery seal u len before
        → OnOk result (Leaves seal u.page_size (take len sealed_part) len after)
    -- a cut behind the prefix leaves it as it was
    pub steady : dev.Tells → IsUnrecovered seal u before → length sealed_part < len
        → KeepsPrefix seal u.page_size sealed_part (key_of u) early late
    -- and the blob is such a one still
    pub unrecovered : dev.Tells → IsUnrecovered seal u before → length sealed_part < len
        → IfOk result (λ r. IsUnrecovered seal (see r) after)
    -- the first bytes stay
    pub bytes : dev.Tells → IsBacked seal u before.content
        → IfOk result (λ r. bytes_of (see r) after.content ≡ take len meant)
    -- what is in memory is as in the blob
    pub backed : dev.Tells → IsBacked seal u before.content
        → IfOk result (λ r. IsBacked seal (see r) after.content)
    -- no other blob changes
    pub alone : dev.Tells → IsBacked seal u before.content
        → Alone (key_of u) early late
    -- a cut lets all pages go that are in memory
    pub cache : len < size_of u → IfOk result (λ r. (see r).cache ≡ [])
    -- at or above the size no call of the device is made,
    pub unchanged : size_of u ≤ len → new ≡ old
    -- and the buffer is as before
    pub same : size_of u ≤ len → IsOkAnd result (λ r. see r ≡ u)
    -- where it cut, all counts as settled,
    pub settled : len < size_of u → IfOk result (λ r. (see r).settled ≡ len)
    -- and the blob has settled
    pub rests : dev.Tells → len < size_of u → OnOk result (StandsSettled after)
    -- whatever the slots say: adopting the blob finds no more
    pub shorter : dev.Tells → len < size_of u
        → OnOk result (adopted_size seal u.page_size after.content ≤ len)
    -- of a sealed buffer, adopting the blob gives the bytes again,
    pub again : dev.Tells → len < size_of u → IsSealed seal u before
        → OnOk result (Settles seal u.page_size (take len meant) after)
    -- and they outlive each crash
    pub leaves : dev.Tells → len < size_of u → IsSealed seal u before
        → OnOk result (Leaves seal u.page_size (take len meant) len after)
    -- the size is the lesser of the two
    pub size : IfOk result (λ r. size_of (see r) ≡ min (size_of u) len)
    -- the blob, its pages, the capacity and the bound of the cache stay
    pub key : IfOk result (λ r. key_of (see r) ≡ key_of u)
    pub page_size : IfOk result (λ r. (see r).page_size ≡ u.page_size)
    pub capacity : IfOk result (λ r. (see r).capacity ≡ u.capacity)
    pub cache_pages : IfOk result (λ r. (see r).cache_pages ≡ u.cache_pages)
    -- the blob is opened, as long as the buffer says
    pub «open» : IfOk result (λ r. IsOpenAt (dev.opened new) (key_of (see r)) (see r).end)
    -- at most one read began, and no other entry changed
    pub entries : FewReads 1 (key_of u) (dev.opened old) (dev.opened new)
    -- faults never fall
    pub faults : dev.faults old ≤ dev.faults new
    -- A page is refused that no matching slot covers so far. The blob is then as it reads once what
    -- was pending has settled;
    pub checksum : dev.Tells → (p : ℕ) → result ≡ Err (InvalidChecksum p)
        → p * u.page_size + page_length seal u.page_size after.content p < len
    -- the pages below the tip's are as they were before
    pub uncut_pages : dev.Tells → (p : ℕ) → result ≡ Err (InvalidChecksum p)
        → SparesPrefix (page_at u.page_size u.first) (key_of u) early late
    -- a refused cut leaves all bytes in the blob,
    pub uncut : dev.Tells → IsBacked seal u before.content → (p : ℕ)
        → result ≡ Err (InvalidChecksum p)
        → Data u.page_size meant (size_of u) (view after.content)
    -- and nothing pending;
    pub uncut_rests : dev.Tells → (u.settled ≡ size_of u → StandsSettled before) → (p : ℕ)
        → result ≡ Err (InvalidChecksum p) → StandsSettled after
    -- where nothing was pending, the disk is as it was
    pub untouched : dev.Tells → u.settled ≡ size_of u → (p : ℕ) → result ≡ Err (InvalidChecksum p)
        → Unchanged early late
    -- a page is cut only as far as a matching slot covers it: any page where nothing was pending,
    pub covered : dev.Tells → u.settled ≡ size_of u → len < size_of u
        → OnOk result (len % u.page_size
        ≤ page_length seal u.page_size before.content (len / u.page_size))
    -- else one that stands whole below the tip's
    pub covered_below : dev.Tells → len < size_of u → len / u.page_size < u.first
        → page_at u.page_size (len / u.page_size + 1) ≤ length before.content
        → OnOk result (len % u.page_size
        ≤ page_length seal u.page_size before.content (len / u.page_size))
    -- no page is refused where the cut is to bytes that are sealed
    pub whole : dev.Tells → IsSafeCut seal u len before
        → OnErr result (FailsBelow dev result old new)
    -- the refused page is the one in which the cut is to stand
    pub page : (p : ℕ) → result ≡ Err (InvalidChecksum p)
        → (p * u.page_size < len) × (len < p * u.page_size + u.page_size) × (len < size_of u)
    -- no other error comes than by memory or the device
    pub cause : OnErr result (((p : ℕ) × (result ≡ Err (InvalidChecksum p)))
        ⊎ FailsBelow dev result old new)
