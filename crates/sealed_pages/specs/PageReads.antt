-- What the calls promise that read a sealed blob.
use Rattle.std.specs.Prelude.{◌≡◌, ◌⊎◌, ◌↔◌, ◌+◌, ◌-◌, ◌/◌, ◌^◌, ◌<◌, ◌≤◌, min, length, take, drop, ℕ, List, Bool, true, false, Result, Err, IfOk, OnOk, OnErr}
use Rattle.std.specs.Result.{IsErrOf}
use Rattle.blob_device.specs.Disk.{Key, Blob}
use Rattle.blob_device.specs.Timeline.{disk}
use Rattle.blob_device.specs.declared.device.Device as device
use Rattle.blob_device.specs.declared.runtime.RError.{RError}
use Rattle.blob_device.specs.declared.runtime.RError.TheVariants.{BlobInsufficientLength, InvalidChecksum, OffsetOverflow}
use Rattle.sealed_pages.specs.Buffer.{Buffer, key_of, size_of, bytes_of, IsSealed}
use Rattle.sealed_pages.specs.Calls.{FailsBelow}
use Rattle.sealed_pages.specs.Entries.{IsOpenAt, ReadsAtMost}
use Rattle.sealed_pages.specs.Proven.{proven_prefix}
use Rattle.sealed_pages.specs.Reading.{Unchanged}
use Rattle.sealed_pages.specs.Reads.{IsWanted, IsCovered, IsShort, IsTailShort, IsHeld, IsCacheFor, PassesSize, missing_pages, pages_for, below}
use Rattle.sealed_pages.specs.Reopening.{OnlySettles, StaysOpen}
use Rattle.sealed_pages.specs.SealedPrefix.{data_from, adopted_size, sealed_prefix}
use Rattle.sealed_pages.specs.Slots.{page_length}
use Rattle.sealed_pages.specs.Unrecovered.{blob_of}
use Rattle.sealed_pages.specs.View.{view}

module _ {D : Type 0} (dev : device.Ghosts D) (seal : List ℕ → ℕ) (u : Buffer) (old new : D) where
  -- the buffer's blob, which no read changes
  abbrev here : Blob
  here = blob_of u (dev.time old)

  -- how long its sealed prefix is
  abbrev whole_prefix : ℕ
  whole_prefix = length (sealed_prefix seal u.page_size here.content)

  -- The bytes of the buffer u from byte m on are read, as many as there is room for.
  pub record ReadsAt {T : Type 0} (m : ℕ) (room got : List ℕ)
      (result : Result T RError) : Type 0 where
    -- they are those that the buffer means
    pub bytes : dev.Tells → IsCacheFor seal u here.content m (length room)
        → OnOk result (got ≡ take (length room) (drop m (bytes_of u here.content)))
    -- and those below the tip are covered by matching slots
    pub checked : dev.Tells → IsCacheFor seal u here.content m (length room) → OnOk result
        (IsCovered seal u.page_size here.content m (below u.page_size u.first m (length room)))
    -- a page is refused that no matching slot covers as far as the read needs it
    pub checksum : dev.Tells → (p : ℕ) → IsErrOf result (InvalidChecksum p)
        → IsShort seal u.page_size here.content m (below u.page_size u.first m (length room)) p
    -- no page of a sealed buffer is refused
    pub whole : dev.Tells → IsSealed seal u here → (p : ℕ) → IsErrOf result (InvalidChecksum p) → ⊥
    -- exactly a range that passes 2^64 is refused for that
    pub overflow : IsErrOf result OffsetOverflow ↔ (2 ^ 64 ≤ m + length room)
    -- exactly one that passes the size, and not 2^64, is refused as too long
    pub short : IsErrOf result BlobInsufficientLength
        ↔ ((m + length room < 2 ^ 64) × (size_of u < m + length room))
    -- with no call of the device
    pub refused : size_of u < m + length room → new ≡ old
    -- no blob changes
    pub unchanged : dev.Tells → Unchanged (dev.time old) (dev.time new)
    -- at most one read a page of which a wanted byte is not held
    pub reads : ReadsAtMost (missing_pages u m (length room)) (key_of u) (dev.opened old)
        (dev.opened new)
    -- where all bytes are held, no call of the device is made
    pub held : IsHeld u m (length room) → new ≡ old
    -- faults never fall
    pub faults : dev.faults old ≤ dev.faults new
    -- no other error comes than by a wanted page, memory or the device
    pub cause : OnErr result ((result ≡ Err OffsetOverflow) ⊎ ((result ≡ Err BlobInsufficientLength)
        ⊎ (((p : ℕ) × (result ≡ Err (InvalidChecksum p))
        × IsWanted u.page_size m (below u.page_size u.first m (length room)) p)
        ⊎ FailsBelow dev result old new)))

  -- The length of the sealed prefix is sought, from the page of byte m on.
  pub record SeeksPrefix (m : ℕ) (result : Result ℕ RError) : Type 0 where
    -- it is that of the blob, where the pages below that one are taken as full,
    pub length : dev.Tells
        → IfOk result (λ n. n ≡ proven_prefix seal u.page_size here.content (m / u.page_size))
    -- and the blob's own where they are
    pub sealed : dev.Tells → ((k : ℕ) → k < m / u.page_size
        → page_length seal u.page_size here.content k ≡ u.page_size)
        → IfOk result (λ n. n ≡ whole_prefix)
    -- no blob changes
    pub unchanged : dev.Tells → Unchanged (dev.time old) (dev.time new)
    -- no more reads began than pages from that one on begin in the blob or at its end
    pub reads : ReadsAtMost (u.end / (u.page_size + 12) + 1 - m / u.page_size) (key_of u)
        (dev.opened old) (dev.opened new)
    -- faults never fall
    pub faults : dev.faults old ≤ dev.faults new
    -- no error comes but by memory or the device
    pub cause : OnErr result (FailsBelow dev result old new)

  -- The same, but no further than byte `most`.
  pub record SeeksAtMost (m most : ℕ) (result : Result ℕ RError) : Type 0 where
    -- it is the lesser of the two
    pub length : dev.Tells → IfOk result
        (λ n. n ≡ min most (proven_prefix seal u.page_size here.content (m / u.page_size)))
    -- no blob changes
    pub unchanged : dev.Tells → Unchanged (dev.time old) (dev.time new)
    -- no more reads began than pages from that one on begin in the blob or at its end, and below
    -- `most`
    pub reads : ReadsAtMost (min (u.end / (u.page_size + 12) + 1) (pages_for u.page_size most)
        - m / u.page_size) (key_of u)
        (dev.opened old) (dev.opened new)
    -- faults never fall
    pub faults : dev.faults old ≤ dev.faults new
    -- no error comes but by memory or the device
    pub cause : OnErr result (FailsBelow dev result old new)

-- Bytes of the buffer u from byte m on are taken, if all of them are in memory.
pub record TriesHeld (seal : List ℕ → ℕ) (u : Buffer) (m : ℕ) (room got : List ℕ)
    (result : Bool) : Type 0 where
  -- exactly then
  pub held : (result ≡ true) ↔ IsHeld u m (length room)
  -- they are those that the buffer means
  pub bytes : result ≡ true → (content : List ℕ) → IsCacheFor seal u content m (length room)
      → got ≡ take (length room) (drop m (bytes_of u content))
  -- else nothing is taken
  pub same : result ≡ false → got ≡ room

module _ {D : Type 0} (dev : device.Ghosts D) (seal : List ℕ → ℕ) (P : ℕ) (blob : Key) (old new : D)
  where
    -- the blob, of which the bytes stay
    abbrev content : List ℕ
    content = (disk (dev.time old) blob).content

    -- The bytes of an opened blob from byte m on are read, without a buffer over it.
    pub record ReadsRange {T : Type 0} (m : ℕ) (room got : List ℕ)
        (result : Result T RError) : Type 0 where
      -- they are those of its pages,
      pub bytes : dev.Tells → OnOk result (got ≡ data_from P (view content) m (length room))
      -- below the size at which it would be adopted,
      pub within : dev.Tells → OnOk result (m + length room ≤ adopted_size seal P content)
      -- and covered by matching slots
      pub checked : dev.Tells → OnOk result (IsCovered seal P content m (length room))
      -- a page is refused only where no matching slot covers it as far as the read needs it
      pub checksum : dev.Tells → (p : ℕ) → IsErrOf result (InvalidChecksum p)
          → IsShort seal P content m (length room) p
      -- exactly a range that passes 2^64 is refused for that,
      pub overflow : IsErrOf result OffsetOverflow ↔ (2 ^ 64 ≤ m + length room)
      -- with no call of the device
      pub refused : 2 ^ 64 ≤ m + length room → new ≡ old
      -- only a range that passes the size is refused as too long,
      pub short : dev.Tells → IsErrOf result BlobInsufficientLength
          → PassesSize seal P content m (length room)
      -- and such a one always is, unless memory or the device fails
      pub past : dev.Tells → PassesSize seal P content m (length room)
          → (result ≡ Err BlobInsufficientLength) ⊎ FailsBelow dev result old new
      -- the blob settles as it read, and no other changes
      pub settles : dev.Tells → OnlySettles blob (dev.time old) (dev.time new)
      -- it stays opened, and no other entry changed
      pub entries : StaysOpen blob (dev.opened old) (dev.opened new)
      -- faults never fall
      pub faults : dev.faults old ≤ dev.faults new
      -- no other error comes than by a wanted page, memory or the device
      pub cause : OnErr result ((result ≡ Err OffsetOverflow)
          ⊎ ((result ≡ Err BlobInsufficientLength) ⊎ (((p : ℕ) × (result ≡ Err (InvalidChecksum p)) × IsWanted P m (length room) p)
          ⊎ FailsBelow dev result old new)))
      -- it is as long as before
      pub length : dev.Tells → (n : ℕ) → IsOpenAt (dev.opened old) blob n
          → IsOpenAt (dev.opened new) blob n

    -- The last bytes of an opened blob are read, without a buffer over it.
    pub record ReadsTail (room got : List ℕ) (result : Result ℕ RError) : Type 0 where
      -- the answer is the size at which it would be adopted,
      pub size : dev.Tells → IfOk result (λ n. n ≡ adopted_size seal P content)
      -- no less than the bytes that were asked for
      pub within : IfOk result (λ n. length room ≤ n)
      -- they are those before that size,
      pub bytes : dev.Tells
          → IfOk result (λ n. got ≡ data_from P (view content) (n - length room) (length room))
      -- and covered by matching slots
      pub checked : dev.Tells
          → IfOk result (λ n. IsCovered seal P content (n - length room) (length room))
      -- a page is refused only where no matching slot covers it as far as the read needs it
      pub checksum : dev.Tells → (p : ℕ) → IsErrOf result (InvalidChecksum p)
          → IsTailShort seal P content (length room) p
      -- only more bytes than the size are refused as too many,
      pub short : dev.Tells → IsErrOf result BlobInsufficientLength
          → adopted_size seal P content < length room
      -- and they always are, unless memory or the device fails
      pub past : dev.Tells → adopted_size seal P content < length room
          → (result ≡ Err BlobInsufficientLength) ⊎ FailsBelow dev result old new
      -- the blob settles as it read, and no other changes
      pub settles : dev.Tells → OnlySettles blob (dev.time old) (dev.time new)
      -- it stays opened, and no other entry changed
      pub entries : StaysOpen blob (dev.opened old) (dev.opened new)
      -- faults never fall
      pub faults : dev.faults old ≤ dev.faults new
      -- no other error comes than by a page, memory or the device
      pub cause : OnErr result ((result ≡ Err BlobInsufficientLength)
          ⊎ (((p : ℕ) × (result ≡ Err (InvalidChecksum p))) ⊎ FailsBelow dev result old new))
      -- it is as long as before
      pub length : dev.Tells → (n : ℕ) → IsOpenAt (dev.opened old) blob n
          → IsOpenAt (dev.opened new) blob n
