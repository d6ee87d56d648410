-- What the calls of a buffer over a blob without seals promise.
use Rattle.std.specs.Prelude.{◌≡◌, ◌⊎◌, ◌↔◌, ◌+◌, ◌-◌, ◌^◌, ◌<◌, ◌≤◌, ◌++◌, max, min, length, take, drop, ℕ, List, [], ◌∷◌, true, false, Result, Err, IfOk, OnOk, OnErr, IsOkAnd}
use Rattle.std.specs.Result.{IsErrOf}
use Rattle.blob_device.specs.Change.{written}
use Rattle.blob_device.specs.Counts.{Rose}
use Rattle.blob_device.specs.Disk.{Key, Blob, Outside, settled_at}
use Rattle.blob_device.specs.Timeline.{Timeline, disk}
use Rattle.blob_device.specs.declared.device.Device as device
use Rattle.blob_device.specs.declared.error.DevError.{DevError}
use Rattle.blob_device.specs.declared.error.DevError.TheVariants.{Fault}
use Rattle.blob_device.specs.declared.runtime.RError.{RError}
use Rattle.blob_device.specs.declared.runtime.RError.TheVariants.{BlobInsufficientLength, Mem, OffsetOverflow}
use Rattle.sealed_pages.specs.Calls.{FailsBelow}
use Rattle.sealed_pages.specs.Contents.{AddsOnly}
use Rattle.sealed_pages.specs.Entries.{IsOpenAt, NoReads, ReadsAtMost}
use Rattle.sealed_pages.specs.Reading.{Unchanged}
use Rattle.sealed_pages.specs.Sparing.{Sparing, LooseOnly, Keeping}
use Rattle.sealed_pages.specs.Tails.{LeavesRun, LeavesPending}
use Rattle.sealed_pages.specs.unsealed.Writing.{WriteBuffer, blob_key, bytes_of, size_of, run_of, is_idle, is_unsettled, AllPending, Joins, StaysBelow, HoldsOnly, StandsBehind, Over, KeepsSettled}

-- An opened blob of n bytes is adopted with this capacity.
pub record AdoptsRun {B : Type 0} (see : B → WriteBuffer) (blob : Key) (n most : ℕ)
    (result : Result B RError) : Type 0 where
  -- the buffer is over this blob, with this capacity,
  pub key : IfOk result (λ r. blob_key (see r) ≡ blob)
  pub capacity : IfOk result (λ r. (see r).capacity ≡ most)
  -- and knows how long the blob is
  pub end : IfOk result (λ r. (see r).end ≡ n)
  -- all counts as settled,
  pub settled : IfOk result (λ r. (see r).settled ≡ n)
  -- and nothing is pending
  pub idle : IfOk result (λ r. is_unsettled (see r) ≡ false)
  -- it means the blob's bytes
  pub size : IfOk result (λ r. size_of (see r) ≡ n)
  pub bytes : IfOk result (λ r. (content : List ℕ) → length content ≡ n
      → bytes_of (see r) content ≡ content)
  -- it stands over any settled blob of that length,
  pub over : IfOk result (λ r. (b : Blob) → b ≡ settled_at b.content → length b.content ≡ n
      → Over (see r) b)
  -- of which all bytes outlive each crash
  pub kept : IfOk result (λ r. (b : Blob) → b ≡ settled_at b.content → length b.content ≡ n
      → KeepsSettled (see r) b)
  -- no error comes but by memory
  pub cause : OnErr result (result ≡ Err Mem)

module _ {D : Type 0} (dev : device.Ghosts D) (u : WriteBuffer) (old new : D) where
  -- the disk's history before the call, and then
  abbrev early : Timeline
  early = dev.time old

  abbrev late : Timeline
  late = dev.time new

  -- the buffer's blob before the call, and then
  abbrev before : Blob
  before = disk early (blob_key u)

  abbrev after : Blob
  after = disk late (blob_key u)

  -- the bytes that the buffer meant before
  abbrev meant : List ℕ
  meant = bytes_of u before.content

  -- The run is written.
  pub record FlushesRun {B : Type 0} (see : B → WriteBuffer)
      (result : Result B DevError) : Type 0 where
    -- The blob is touched in the run alone, at every moment, also where the call fails. What had
    -- settled elsewhere outlives each crash, and no other blob changes.
    pub spares : dev.Tells → Sparing (Outside (run_of u ∷ [])) u.settled (blob_key u) early late
    -- the buffer stands over its blob
    pub over : dev.Tells → Over u before → IfOk result (λ r. Over (see r) after)
    -- each content that the blob has since it settled is one that it had, or is these bytes
    pub since : dev.Tells → AddsOnly (meant ∷ []) (blob_key u) early late
    -- the bytes stay
    pub bytes : dev.Tells → IfOk result (λ r. bytes_of (see r) after.content ≡ meant)
    -- nothing is pending
    pub idle : IfOk result (λ r. is_idle (see r) ≡ true)
    -- else the buffer is as before
    pub same : IfOk result (λ r. see r
        ≡ record u { end = size_of u; pending = []; dirty = (see r).dirty })
    -- it knows whether the blob has settled
    pub dirty : IfOk result (λ r. (see r).dirty ≡ is_unsettled u)
    -- where nothing is pending, nothing changes,
    pub stays : is_idle u ≡ true → IsOkAnd result (λ r. see r ≡ u)
    -- and no call of the device is made,
    pub untouched : is_idle u ≡ true → new ≡ old
    -- else at most one
    pub once : late.calls ≤ early.calls + 1
    -- the blob is opened, as long as the buffer says
    pub «open» : IfOk result (λ r. IsOpenAt (dev.opened new) (blob_key (see r)) (see r).end)
    -- no read began, and no other entry changed
    pub entries : NoReads (blob_key u) (dev.opened old) (dev.opened new)
    -- faults never fall, and one that is told is counted
    pub faults : dev.faults old ≤ dev.faults new
    pub cause : result ≡ Err Fault → Rose (dev.faults old) (dev.faults new)

  -- What is not flushed is written.
  pub record Flushes {B : Type 0} (see : B → WriteBuffer) (result : Result B RError) : Type 0 where
    -- The blob is touched in the run alone, at every moment, also where the call fails. What had
    -- settled elsewhere outlives each crash, and no other blob changes.
    pub spares : dev.Tells → Sparing (Outside (run_of u ∷ [])) u.settled (blob_key u) early late
    -- the buffer stands over its blob
    pub over : dev.Tells → Over u before → IfOk result (λ r. Over (see r) after)
    -- Where bytes were only added since the first `settled` bytes settled, each crash leaves these,
    pub lasts : dev.Tells → KeepsSettled u before
        → Keeping (take u.settled meant) (blob_key u) early late
    -- and so it stays
    pub kept : dev.Tells → KeepsSettled u before → IfOk result (λ r. KeepsSettled (see r) after)
    -- each content that the blob has since it settled is one that it had, or is these bytes
    pub since : dev.Tells → AddsOnly (meant ∷ []) (blob_key u) early late
    -- the bytes stay
    pub bytes : dev.Tells → IfOk result (λ r. bytes_of (see r) after.content ≡ meant)
    -- nothing is pending
    pub idle : IfOk result (λ r. is_idle (see r) ≡ true)
    -- else the buffer is as before
    pub same : IfOk result (λ r. see r
        ≡ record u { end = size_of u; pending = []; dirty = is_unsettled u })
    -- where nothing is pending, no call of the device is made,
    pub untouched : is_idle u ≡ true → new ≡ old
    -- and nothing changes;
    pub stays : is_idle u ≡ true → IsOkAnd result (λ r. see r ≡ u)
    -- else at most one
    pub once : late.calls ≤ early.calls + 1
    -- the blob is opened, as long as the buffer says
    pub «open» : IfOk result (λ r. IsOpenAt (dev.opened new) (blob_key (see r)) (see r).end)
    -- no read began, and no other entry changed
    pub entries : NoReads (blob_key u) (dev.opened old) (dev.opened new)
    -- faults never fall
    pub faults : dev.faults old ≤ dev.faults new
    -- no error comes but by memory or the device
    pub cause : OnErr result (FailsBelow dev result old new)

  -- What is flushed is settled.
  pub record Rests {B : Type 0} (see : B → WriteBuffer) (result : Result B DevError) : Type 0 where
    -- no byte is touched, and what had settled outlives each crash
    pub spares : dev.Tells → Sparing (λ i. Unit {0}) u.settled (blob_key u) early late
    -- the blob has settled as it read
    pub settles : dev.Tells → OnOk result (after ≡ settled_at before.content)
    -- each content that the blob has since is as it read
    pub since : dev.Tells → AddsOnly (before.content ∷ []) (blob_key u) early late
    -- all counts as settled
    pub same : IfOk result (λ r. see r ≡ record u { settled = u.end; dirty = false })
    -- by at most one call
    pub once : late.calls ≤ early.calls + 1
    -- the blob is opened, as long as the buffer says
    pub «open» : IfOk result (λ r. IsOpenAt (dev.opened new) (blob_key (see r)) (see r).end)
    -- no read began, and no other entry changed
    pub entries : NoReads (blob_key u) (dev.opened old) (dev.opened new)
    -- faults never fall, and one that is told is counted
    pub faults : dev.faults old ≤ dev.faults new
    pub cause : result ≡ Err Fault → Rose (dev.faults old) (dev.faults new)

  -- All bytes are settled.
  pub record Syncs {B : Type 0} (see : B → WriteBuffer) (result : Result B RError) : Type 0 where
    -- The blob is touched in the run alone, at every moment, also where the call fails. What had
    -- settled elsewhere outlives each crash, and no other blob changes.
    pub spares : dev.Tells → Sparing (Outside (run_of u ∷ [])) u.settled (blob_key u) early late
    -- the buffer stands over its blob
    pub over : dev.Tells → Over u before → IfOk result (λ r. Over (see r) after)
    -- Where bytes were only added since the first `settled` bytes settled, each crash leaves these.
    pub lasts : dev.Tells → KeepsSettled u before
        → Keeping (take u.settled meant) (blob_key u) early late
    -- all outlive each crash then
    pub kept : dev.Tells → Over u before → IfOk result (λ r. KeepsSettled (see r) after)
    -- each content that the blob has since it settled is one that it had, or is these bytes
    pub since : dev.Tells → AddsOnly (meant ∷ []) (blob_key u) early late
    -- what was handed in is then in the blob, and outlives every crash
    pub settles : dev.Tells → Over u before → OnOk result (after ≡ settled_at meant)
    -- the bytes stay
    pub bytes : dev.Tells → IfOk result (λ r. bytes_of (see r) after.content ≡ meant)
    -- nothing is unsettled
    pub idle : IfOk result (λ r. is_unsettled (see r) ≡ false)
    -- else the buffer is as before
    pub same : IfOk result (λ r. see r
        ≡ record u { end = size_of u; pending = []; settled = size_of u; dirty = false })
    -- where nothing was unsettled, no call of the device is made,
    pub untouched : is_unsettled u ≡ false → new ≡ old
    -- and nothing changes;
    pub stays : is_unsettled u ≡ false → IsOkAnd result (λ r. see r ≡ u)
    -- else at most a write and a sync
    pub calls : late.calls ≤ early.calls + 2
    -- the blob is opened, as long as the buffer says
    pub «open» : IfOk result (λ r. IsOpenAt (dev.opened new) (blob_key (see r)) (see r).end)
    -- no read began, and no other entry changed
    pub entries : NoReads (blob_key u) (dev.opened old) (dev.opened new)
    -- faults never fall
    pub faults : dev.faults old ≤ dev.faults new
    -- no error comes but by memory or the device
    pub cause : OnErr result (FailsBelow dev result old new)

  -- The run is one that a write at this place joins: the old one, or a new one behind its flush.
  pub record Moves {B : Type 0} (see : B → WriteBuffer) (offset : ℕ)
      (result : Result B DevError) : Type 0 where
    -- The blob is touched in the run alone, at every moment, also where the call fails. What had
    -- settled elsewhere outlives each crash, and no other blob changes.
    pub spares : dev.Tells → Sparing (Outside (run_of u ∷ [])) u.settled (blob_key u) early late
    -- the buffer stands over its blob
    pub over : dev.Tells → Over u before → IfOk result (λ r. Over (see r) after)
    -- each content that the blob has since it settled is one that it had, or is these bytes
    pub since : dev.Tells → AddsOnly (meant ∷ []) (blob_key u) early late
    -- the bytes reach to the place, with zeros behind those before
    pub bytes : dev.Tells
        → IfOk result (λ r. bytes_of (see r) after.content ≡ written meant offset [])
    -- the place joins the run
    pub joined : IfOk result (λ r. Joins (see r) offset)
    -- the buffer is as before, but for the run
    pub same : IfOk result (λ r. see r ≡ record u {
      end = (see r).end;
      at = (see r).at;
      pending = (see r).pending;
      dirty = (see r).dirty;
    })
    -- the size is the greater of the two
    pub size : IfOk result (λ r. size_of (see r) ≡ max (size_of u) offset)
    -- it is the old run, or an empty one there
    pub run : IfOk result (λ r. (((see r).at ≡ u.at) × ((see r).pending ≡ u.pending))
        ⊎ (((see r).at ≡ offset) × ((see r).pending ≡ [])))
    -- at the end of the bytes, where nothing is pending below the blob's end, it begins behind that
    pub behind : size_of u ≤ offset → StandsBehind u → IfOk result (λ r. (see r).end ≤ (see r).at)
    -- where the place joins the run, nothing changes,
    pub kept : Joins u offset → IfOk result (λ r. see r ≡ u)
    -- and no call of the device is made, nor where nothing is pending,
    pub untouched : (Joins u offset ⊎ (is_idle u ≡ true)) → new ≡ old
    -- else at most one
    pub once : late.calls ≤ early.calls + 1
    -- the blob is opened, as long as the buffer says
    pub «open» : IfOk result (λ r. IsOpenAt (dev.opened new) (blob_key (see r)) (see r).end)
    -- no read began, and no other entry changed
    pub entries : NoReads (blob_key u) (dev.opened old) (dev.opened new)
    -- faults never fall, and one that is told is counted
    pub faults : dev.faults old ≤ dev.faults new
    pub cause : result ≡ Err Fault → Rose (dev.faults old) (dev.faults new)

  -- These bytes are written from a place on.
  pub record WritesAt {B : Type 0} (see : B → WriteBuffer) (offset : ℕ) (more : List ℕ)
      (result : Result B RError) : Type 0 where
    -- The blob is touched in the run and where these bytes go alone, at every moment, also where
    -- the call fails. What had settled elsewhere outlives each crash, and no other blob changes.
    pub spares : dev.Tells → Sparing (Outside ((offset, length more) ∷ run_of u ∷ [])) u.settled
        (blob_key u) early late
    -- the buffer stands over its blob
    pub over : dev.Tells → Over u before → IfOk result (λ r. Over (see r) after)
    -- Bytes that settled outlive each crash below the place, where since then bytes were only
    -- added,
    pub lasts : dev.Tells → KeepsSettled u before
        → Keeping (take (min u.settled offset) meant) (blob_key u) early late
    -- and so it stays where the place is behind them
    pub kept : dev.Tells → KeepsSettled u before → u.settled ≤ offset
        → IfOk result (λ r. KeepsSettled (see r) after)
    -- each content that the blob has since it settled is one that it had, or these bytes make it
    pub since : dev.Tells
        → AddsOnly (meant ∷ written meant offset more ∷ []) (blob_key u) early late
    -- these bytes stand there, over those before or behind zeros
    pub bytes : dev.Tells
        → IfOk result (λ r. bytes_of (see r) after.content ≡ written meant offset more)
    -- the size is the greater of the two
    pub size : IfOk result (λ r. size_of (see r) ≡ max (size_of u) (offset + length more))
    -- the buffer is as before, but for the run
    pub same : IfOk result (λ r. see r ≡ record u {
      end = (see r).end;
      at = (see r).at;
      pending = (see r).pending;
      dirty = (see r).dirty;
    })
    -- the run holds nothing but what was handed in
    pub run : IfOk result (λ r. HoldsOnly u offset more (see r))
    -- how long it is: all that was not flushed, until that reaches the capacity
    pub tail : IfOk result (λ r. LeavesRun u offset (length more) (see r))
    -- where nothing is pending below the blob's end, a write at the end of the bytes leaves it so
    pub behind : size_of u ≤ offset → StandsBehind u → IfOk result (λ r. StandsBehind (see r))
    -- bytes that join the run reach the device only with all of it
    pub joined : Joins u offset → IfOk result (λ r. (new ≡ old) ⊎ ((see r).pending ≡ []))
    -- below the capacity no call of the device is made,
    pub below : StaysBelow u offset (length more) → new ≡ old
    -- nor for no bytes within the blob where nothing is pending
    pub nothing : is_idle u ≡ true → length more ≡ 0 → offset ≤ u.end → new ≡ old
    -- else at most a write of the run, where these bytes do not join it,
    pub once : (Joins u offset ⊎ ((is_idle u ≡ true) ⊎ (length more < u.capacity)))
        → late.calls ≤ early.calls + 1
    -- and a write of the new one, where it is long enough
    pub calls : late.calls ≤ early.calls + 2
    -- the run is below the capacity, or empty
    pub full : IfOk result (λ r. (length (see r).pending < (see r).capacity)
        ⊎ (is_idle (see r) ≡ true))
    -- the blob is opened, as long as the buffer says
    pub «open» : IfOk result (λ r. IsOpenAt (dev.opened new) (blob_key (see r)) (see r).end)
    -- no read began, and no other entry changed
    pub entries : NoReads (blob_key u) (dev.opened old) (dev.opened new)
    -- exactly bytes that pass 2^64 are refused for that,
    pub overflow : IsErrOf result OffsetOverflow ↔ 2 ^ 64 ≤ offset + length more
    -- with no call of the device
    pub refused : 2 ^ 64 ≤ offset + length more → new ≡ old
    -- faults never fall
    pub faults : dev.faults old ≤ dev.faults new
    -- no other error comes than by memory or the device
    pub cause : OnErr result ((result ≡ Err OffsetOverflow) ⊎ FailsBelow dev result old new)

  -- These bytes are added at the end. The answer has the place of the first of them.
  pub record Appends {B : Type 0} (see : B → WriteBuffer) (more : List ℕ)
      (result : Result (B × ℕ) RError) : Type 0 where
    -- The blob is touched in the run and behind the bytes alone, at every moment, also where the
    -- call fails. What had settled elsewhere outlives each crash, and no other blob changes.
    pub spares : dev.Tells → Sparing (Outside ((size_of u, length more) ∷ run_of u ∷ [])) u.settled
        (blob_key u) early late
    -- the buffer stands over its blob
    pub over : dev.Tells → Over u before → IfOk result (λ r. Over (see r.0) after)
    -- Where bytes were only added since the first `settled` bytes settled, each crash leaves these,
    pub lasts : dev.Tells → KeepsSettled u before
        → Keeping (take u.settled meant) (blob_key u) early late
    -- and so it stays
    pub kept : dev.Tells → KeepsSettled u before → IfOk result (λ r. KeepsSettled (see r.0) after)
    -- each content that the blob has since it settled is one that it had, or these bytes make it
    pub since : dev.Tells → AddsOnly (meant ∷ (meant ++ more) ∷ []) (blob_key u) early late
    -- these bytes stand behind those before
    pub bytes : dev.Tells → IfOk result (λ r. bytes_of (see r.0) after.content ≡ meant ++ more)
    -- the place is the size before
    pub at : IfOk result (λ r. r.1 ≡ size_of u)
    -- the size grows by these bytes
    pub size : IfOk result (λ r. size_of (see r.0) ≡ size_of u + length more)
    -- the buffer is as before, but for the run
    pub same : IfOk result (λ r. see r.0 ≡ record u {
      end = (see r.0).end;
      at = (see r.0).at;
      pending = (see r.0).pending;
      dirty = (see r.0).dirty;
    })
    -- the run holds nothing but what was handed in
    pub run : IfOk result (λ r. HoldsOnly u (size_of u) more (see r.0))
    -- how long it is: all that was not flushed, until that reaches the capacity
    pub tail : IfOk result (λ r. LeavesPending u (length more) (see r.0))
    -- where nothing is pending below the blob's end, it stays so
    pub behind : StandsBehind u → IfOk result (λ r. StandsBehind (see r.0))
    -- bytes that join the run reach the device only with all of it
    pub joined : Joins u (size_of u) → IfOk result (λ r. (new ≡ old) ⊎ ((see r.0).pending ≡ []))
    -- below the capacity no call of the device is made,
    pub below : StaysBelow u (size_of u) (length more) → new ≡ old
    -- nor for no bytes where nothing is pending
    pub nothing : is_idle u ≡ true → length more ≡ 0 → new ≡ old
    -- else at most a write of the run, where these bytes do not join it,
    pub once : (Joins u (size_of u) ⊎ ((is_idle u ≡ true) ⊎ (length more < u.capacity)))
        → late.calls ≤ early.calls + 1
    -- and a write of the new one, where it is long enough
    pub calls : late.calls ≤ early.calls + 2
    -- the run is below the capacity, or empty
    pub full : IfOk result (λ r. (length (see r.0).pending < (see r.0).capacity)
        ⊎ (is_idle (see r.0) ≡ true))
    -- the blob is opened, as long as the buffer says
    pub «open» : IfOk result (λ r. IsOpenAt (dev.opened new) (blob_key (see r.0)) (see r.0).end)
    -- no read began, and no other entry changed
    pub entries : NoReads (blob_key u) (dev.opened old) (dev.opened new)
    -- exactly bytes that pass 2^64 are refused for that,
    pub overflow : IsErrOf result OffsetOverflow ↔ 2 ^ 64 ≤ size_of u + length more
    -- with no call of the device
    pub refused : 2 ^ 64 ≤ size_of u + length more → new ≡ old
    -- faults never fall
    pub faults : dev.faults old ≤ dev.faults new
    -- no other error comes than by memory or the device
    pub cause : OnErr result ((result ≡ Err OffsetOverflow) ⊎ FailsBelow dev result old new)

  -- The blob is cut to this length, if it is longer.
  pub record Shortens {B : Type 0} (see : B → WriteBuffer) (len : ℕ)
      (result : Result B DevError) : Type 0 where
    -- below `len` no byte is touched, and what had settled there outlives each crash
    pub spares : dev.Tells → Sparing (λ i. i < len) (min u.settled len) (blob_key u) early late
    -- no place is made loose
    pub loose : dev.Tells → LooseOnly (λ i. Unit {0}) (blob_key u) early late
    -- the first bytes stay
    pub content : dev.Tells → OnOk result (after.content ≡ take len before.content)
    -- each content that the blob has since it settled is one that it had, or is these
    pub since : dev.Tells → AddsOnly (take len before.content ∷ []) (blob_key u) early late
    -- no more counts as settled than is left
    pub same : IfOk result (λ r. see r
        ≡ record u { end = len; settled = min u.settled len; dirty = (see r).dirty })
    -- where the blob is no longer than that, no call of the device is made,
    pub untouched : u.end ≤ len → new ≡ old
    -- else at most one
    pub once : late.calls ≤ early.calls + 1
    -- the blob is opened, as long as the buffer says
    pub «open» : IfOk result (λ r. IsOpenAt (dev.opened new) (blob_key (see r)) (see r).end)
    -- no read began, and no other entry changed
    pub entries : NoReads (blob_key u) (dev.opened old) (dev.opened new)
    -- faults never fall, and one that is told is counted
    pub faults : dev.faults old ≤ dev.faults new
    pub cause : result ≡ Err Fault → Rose (dev.faults old) (dev.faults new)

  -- The bytes are cut to this length, for good.
  pub record Truncates {B : Type 0} (see : B → WriteBuffer) (len : ℕ)
      (result : Result B RError) : Type 0 where
    -- Below `len` the blob is touched in the run alone, at every moment, also where the call fails.
    -- What had settled below it elsewhere outlives each crash, and no other blob changes.
    pub spares : dev.Tells → Sparing (λ i. (i < len) × Outside (run_of u ∷ []) i)
        (min u.settled len) (blob_key u) early late
    -- no place is made loose but those of the run
    pub loose : dev.Tells → LooseOnly (Outside (run_of u ∷ [])) (blob_key u) early late
    -- the buffer stands over its blob
    pub over : dev.Tells → Over u before → IfOk result (λ r. Over (see r) after)
    -- Where bytes were only added since the first `settled` bytes settled, each crash leaves those
    -- of them below `len`,
    pub lasts : dev.Tells → KeepsSettled u before
        → Keeping (take (min u.settled len) meant) (blob_key u) early late
    -- and so it stays
    pub kept : dev.Tells → KeepsSettled u before → IfOk result (λ r. KeepsSettled (see r) after)
    -- the run's part below `len` is flushed first,
    pub since : dev.Tells → AddsOnly (written before.content (min u.at len)
        (take (len - min u.at len) u.pending) ∷ take len meant ∷ []) (blob_key u) early late
    -- which makes no content but the cut bytes where it has none there, or stands behind the end
    pub since_cut : dev.Tells → ((u.end ≤ u.at) ⊎ ((len ≤ u.at) ⊎ (length u.pending ≡ 0)))
        → AddsOnly (take len meant ∷ []) (blob_key u) early late
    -- the blob has settled with them
    pub settles : dev.Tells → len < size_of u → OnOk result (after ≡ settled_at (take len meant))
    -- the first bytes stay
    pub bytes : dev.Tells → IfOk result (λ r. bytes_of (see r) after.content ≡ take len meant)
    -- all counts as settled
    pub cut : len < size_of u
        → IfOk result (λ r. (is_unsettled (see r) ≡ false) × ((see r).settled ≡ len))
    -- the size is the lesser of the two
    pub size : IfOk result (λ r. size_of (see r) ≡ min len (size_of u))
    -- the blob and the capacity stay
    pub key : IfOk result (λ r. blob_key (see r) ≡ blob_key u)
    pub capacity : IfOk result (λ r. (see r).capacity ≡ u.capacity)
    -- at or above the size no call of the device is made,
    pub untouched : size_of u ≤ len → new ≡ old
    -- and nothing changes
    pub stays : size_of u ≤ len → IsOkAnd result (λ r. see r ≡ u)
    -- at most a write, where the run has bytes below `len`, a resize and a sync
    pub calls : late.calls ≤ early.calls + 3
    pub once : ((len ≤ u.at) ⊎ (length u.pending ≡ 0)) → late.calls ≤ early.calls + 2
    -- the blob is opened, as long as the buffer says
    pub «open» : IfOk result (λ r. IsOpenAt (dev.opened new) (blob_key (see r)) (see r).end)
    -- no read began, and no other entry changed
    pub entries : NoReads (blob_key u) (dev.opened old) (dev.opened new)
    -- faults never fall
    pub faults : dev.faults old ≤ dev.faults new
    -- no error comes but by memory or the device
    pub cause : OnErr result (FailsBelow dev result old new)

  -- The bytes from a place on are read, as many as there is room for.
  pub record ReadsAt {T : Type 0} (offset : ℕ) (room got : List ℕ)
      (result : Result T RError) : Type 0 where
    -- they are those that the buffer means
    pub bytes : dev.Tells → OnOk result (got ≡ take (length room) (drop offset meant))
    -- no blob changes
    pub unchanged : dev.Tells → Unchanged early late
    -- at most one read began,
    pub reads : ReadsAtMost 1 (blob_key u) (dev.opened old) (dev.opened new)
    -- and where all bytes are in the run, no call of the device is made
    pub held : AllPending u offset (length room) → new ≡ old
    -- exactly a range that passes 2^64 is refused for that
    pub overflow : IsErrOf result OffsetOverflow ↔ 2 ^ 64 ≤ offset + length room
    -- exactly one that passes the size, and not 2^64, is refused as too long
    pub short : IsErrOf result BlobInsufficientLength
        ↔ ((offset + length room < 2 ^ 64) × (size_of u < offset + length room))
    -- with no call of the device
    pub refused : size_of u < offset + length room → new ≡ old
    -- faults never fall
    pub faults : dev.faults old ≤ dev.faults new
    -- no other error comes than by memory or the device
    pub cause : OnErr result ((result ≡ Err OffsetOverflow) ⊎ ((result ≡ Err BlobInsufficientLength)
        ⊎ FailsBelow dev result old new))
