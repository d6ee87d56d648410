-- What reading pages of an opened blob promises.
use Rattle.std.specs.Prelude.{cond, nat_eq, ◌≡◌, ◌⊎◌, ◌+◌, ◌-◌, ◌*◌, ◌/◌, ◌^◌, ◌<◌, ◌≤◌, min, length, take, drop, slice_index, ℕ, List, Option, IfSome, Result, Err, IfOk, OnOk, OnErr}
use Rattle.std.specs.List.{list_any}
use Rattle.std.specs.Map.{keys_of}
use Rattle.std.specs.Result.{IsErrOf}
use Rattle.blob_device.specs.Counts.{Rose}
use Rattle.blob_device.specs.Disk.{Key}
use Rattle.blob_device.specs.Timeline.{disk}
use Rattle.blob_device.specs.declared.device.Device as device
use Rattle.blob_device.specs.declared.error.DevError.{DevError}
use Rattle.blob_device.specs.declared.error.DevError.TheVariants.{Fault}
use Rattle.blob_device.specs.declared.runtime.RError.{RError}
use Rattle.blob_device.specs.declared.runtime.RError.TheVariants.{BlobInsufficientLength, InvalidChecksum}
use Rattle.sealed_pages.specs.declared.piece.Piece.{Piece}
use Rattle.sealed_pages.specs.declared.reading.LastPage.{LastPage}
use Rattle.sealed_pages.specs.Cached.{uncached, AreCachedOf}
use Rattle.sealed_pages.specs.Calls.{FailsBelow}
use Rattle.sealed_pages.specs.Entries.{ReadsAtMost}
use Rattle.sealed_pages.specs.Found.{Finds, IsLastBelow, found_of}
use Rattle.sealed_pages.specs.Pieces.{HasPage, IsPieceOf}
use Rattle.sealed_pages.specs.Proven.{prefix_upto}
use Rattle.sealed_pages.specs.Reading.{page_of, Unchanged, OnlyRead}
use Rattle.sealed_pages.specs.Reads.{IsWanted, IsCovered, IsShort, IsTailShort, touched}
use Rattle.sealed_pages.specs.SealedPrefix.{place, data_from, adopted_size}
use Rattle.sealed_pages.specs.Slots.{page_length}
use Rattle.sealed_pages.specs.View.{view, page_at}

module _ {D : Type 0} (dev : device.Ghosts D) (blob : Key) (old new : D) where
  -- the blob's content, which no read changes
  abbrev stored : List ℕ
  stored = (disk (dev.time old) blob).content

  -- The bytes from a place on that stand below the blob's end are read, at most so many. The answer
  -- is how many there are.
  pub record ReadsSpan (at most : ℕ) (got : List ℕ) (result : Result ℕ DevError) : Type 0 where
    -- they are those of the blob,
    pub bytes : dev.Tells → IfOk result (λ n. take n got ≡ take most (drop at stored))
    -- no more than were asked for
    pub within : IfOk result (λ n. n ≤ most)
    -- no blob changes
    pub unchanged : dev.Tells → Unchanged (dev.time old) (dev.time new)
    -- at most one read began, and no other entry changed
    pub entries : ReadsAtMost 1 blob (dev.opened old) (dev.opened new)
    -- faults never fall, and one that is told is counted
    pub faults : dev.faults old ≤ dev.faults new
    pub cause : result ≡ Err Fault → Rose (dev.faults old) (dev.faults new)

  -- The bytes of a page that stand below the blob's end are read. The answer is how many there are.
  pub record ReadsPage (P page : ℕ) (got : List ℕ) (result : Result ℕ DevError) : Type 0 where
    -- they are those of the blob,
    pub bytes : dev.Tells → IfOk result (λ n. take n got ≡ page_of P stored page)
    -- no more than a page has
    pub within : IfOk result (λ n. n ≤ P + 12)
    -- no blob changes
    pub unchanged : dev.Tells → Unchanged (dev.time old) (dev.time new)
    -- at most one read began, and no other entry changed
    pub entries : ReadsAtMost 1 blob (dev.opened old) (dev.opened new)
    -- faults never fall, and one that is told is counted
    pub faults : dev.faults old ≤ dev.faults new
    pub cause : result ≡ Err Fault → Rose (dev.faults old) (dev.faults new)

  -- A piece of pages is read, from this one on. It was u, and then it is v.
  pub record ReadsPiece {T : Type 0} (u v : Piece) (k : ℕ)
      (result : Result T DevError) : Type 0 where
    -- the page is in the piece,
    pub holds : OnOk result (HasPage v k)
    -- as in the blob; also after an error all pages in it are
    pub piece : dev.Tells → IsPieceOf stored v
    -- it is the first of them
    pub page : OnOk result (v.page ≡ k)
    -- the pages are as long as before
    pub page_size : v.page_size ≡ u.page_size
    -- no blob changes
    pub unchanged : dev.Tells → Unchanged (dev.time old) (dev.time new)
    -- at most one read began, and no other entry changed
    pub entries : ReadsAtMost 1 blob (dev.opened old) (dev.opened new)
    -- faults never fall, and one that is told is counted
    pub faults : dev.faults old ≤ dev.faults new
    pub cause : result ≡ Err Fault → Rose (dev.faults old) (dev.faults new)

  -- The piece is read from this page on, where it does not have it. It was u, and then it is v.
  pub record LoadsPiece {T : Type 0} (u v : Piece) (k : ℕ)
      (result : Result T DevError) : Type 0 where
    -- the page is in the piece
    pub holds : OnOk result (HasPage v k)
    -- all pages in it are as in the blob, if they were
    pub piece : dev.Tells → IsPieceOf stored u → IsPieceOf stored v
    -- a page that was in it costs no call of the device
    pub held : HasPage u k → (dev.time new ≡ dev.time old) × (dev.opened new ≡ dev.opened old)
    -- it was there, or is the first page that is there now
    pub loads : OnOk result ((HasPage u k × (v ≡ u)) ⊎ ((v.page ≡ k) × (HasPage u k → ⊥)))
    -- the pages are as long as before
    pub page_size : v.page_size ≡ u.page_size
    -- no blob changes
    pub unchanged : dev.Tells → Unchanged (dev.time old) (dev.time new)
    -- at most one read began, and no other entry changed
    pub entries : ReadsAtMost 1 blob (dev.opened old) (dev.opened new)
    -- faults never fall, and one that is told is counted
    pub faults : dev.faults old ≤ dev.faults new
    pub cause : result ≡ Err Fault → Rose (dev.faults old) (dev.faults new)

module _ {D : Type 0} (dev : device.Ghosts D) (seal : List ℕ → ℕ) (P : ℕ) (blob : Key)
    (old new : D) where
  -- the blob's content, which no read changes
  abbrev content : List ℕ
  content = (disk (dev.time old) blob).content

  -- The last page with a matching slot is looked for in a blob that has n bytes.
  pub record FindsLast (n : ℕ) (got : List ℕ) (result : Result (Option LastPage) DevError)
      : Type 0 where
    -- it is found, with its bytes, or there is none;
    pub found : dev.Tells → IfOk result (λ r. Finds seal P content (found_of r) got)
    -- its place and its lengths are in bounds
    pub below : IfOk result (λ r. IfSome r (IsLastBelow P n))
    -- no blob changes
    pub unchanged : dev.Tells → Unchanged (dev.time old) (dev.time new)
    -- the blob is opened as before, and no other entry changed
    pub entries : OnlyRead blob (dev.opened old) (dev.opened new)
    -- faults never fall, and one that is told is counted
    pub faults : dev.faults old ≤ dev.faults new
    pub cause : result ≡ Err Fault → Rose (dev.faults old) (dev.faults new)

  -- The size at which the blob would be adopted is learned.
  pub record LearnsSize (result : Result ℕ RError) : Type 0 where
    -- it is that size,
    pub size : dev.Tells → IfOk result (λ n. n ≡ adopted_size seal P content)
    -- and the pages that it has end below 2^64
    pub room : IfOk result (λ n. (k : ℕ) → k * P < n → page_at P k + (P + 12) < 2 ^ 64)
    -- no blob changes
    pub unchanged : dev.Tells → Unchanged (dev.time old) (dev.time new)
    -- the blob is opened as before, and no other entry changed
    pub entries : OnlyRead blob (dev.opened old) (dev.opened new)
    -- faults never fall, and no error comes but by memory or the device
    pub faults : dev.faults old ≤ dev.faults new
    pub cause : OnErr result (FailsBelow dev result old new)

  -- The sealed prefix is measured in a blob that has n bytes: pages below `first` are taken as full,
  -- and those from `upto` on as empty.
  pub record Measures (n first upto : ℕ) (result : Result ℕ RError) : Type 0 where
    -- it is so long
    pub length : dev.Tells → IfOk result (λ l. l ≡ prefix_upto seal P content first upto)
    -- no blob changes
    pub unchanged : dev.Tells → Unchanged (dev.time old) (dev.time new)
    -- no more reads began than pages between begin in the blob or at its end, and no other entry
    -- changed
    pub entries : ReadsAtMost (min (n / (P + 12) + 1) upto - first) blob
        (dev.opened old) (dev.opened new)
    -- faults never fall, and no error comes but by memory or the device
    pub faults : dev.faults old ≤ dev.faults new
    pub cause : OnErr result (FailsBelow dev result old new)

  -- Bytes of a page from its byte `skip` on are taken from these pages in memory, or read.
  pub record ReadsPart {T : Type 0} (held : List (ℕ × List ℕ)) (page skip : ℕ) (room got : List ℕ)
      (result : Result T RError) : Type 0 where
    -- they are those of the blob,
    pub bytes : dev.Tells → AreCachedOf seal P content held → OnOk result ((i : ℕ) → i < length room
        → slice_index got i ≡ view content (page_at P page + (skip + i)))
    -- and a matching slot covers them
    pub covered : dev.Tells → AreCachedOf seal P content held
        → OnOk result (skip + length room ≤ page_length seal P content page)
    -- the page is refused only where no matching slot covers them
    pub short : dev.Tells → IsErrOf result (InvalidChecksum page)
        → page_length seal P content page < skip + length room
    -- no blob changes
    pub unchanged : dev.Tells → Unchanged (dev.time old) (dev.time new)
    -- at most one read began where the page is not in memory, else none
    pub entries : ReadsAtMost (cond (list_any (nat_eq page) (keys_of held)) 0 1) blob
        (dev.opened old) (dev.opened new)
    -- faults never fall
    pub faults : dev.faults old ≤ dev.faults new
    -- no error comes but for this page, by memory or the device
    pub cause : OnErr result ((result ≡ Err (InvalidChecksum page)) ⊎ FailsBelow dev result old new)

  -- The bytes from byte m on are taken from these pages in memory, or read.
  pub record ReadsPages {T : Type 0} (held : List (ℕ × List ℕ)) (m : ℕ) (room got : List ℕ)
      (result : Result T RError) : Type 0 where
    -- they are those of the blob,
    pub bytes : dev.Tells → AreCachedOf seal P content held → OnOk result ((i : ℕ) → i < length room
        → slice_index got i ≡ view content (place P (m + i)))
    -- and matching slots cover them
    pub covered : dev.Tells → AreCachedOf seal P content held
        → OnOk result (IsCovered seal P content m (length room))
    -- a page is refused only where no matching slot covers it as far as the read needs it
    pub short : dev.Tells → (p : ℕ) → IsErrOf result (InvalidChecksum p)
        → IsShort seal P content m (length room) p
    -- no blob changes
    pub unchanged : dev.Tells → Unchanged (dev.time old) (dev.time new)
    -- no bytes need no call of the device
    pub none : length room ≡ 0 → new ≡ old
    -- at most one read a page that is not in memory
    pub entries : ReadsAtMost (uncached (keys_of held) (m / P) (touched P m (length room))) blob
        (dev.opened old) (dev.opened new)
    -- faults never fall
    pub faults : dev.faults old ≤ dev.faults new
    -- no error comes but for a wanted page, by memory or the device
    pub cause : OnErr result (((p : ℕ) × (result ≡ Err (InvalidChecksum p))
        × IsWanted P m (length room) p) ⊎ FailsBelow dev result old new)

  -- The bytes from byte m on are read, below the size at which the blob would be adopted.
  pub record ReadsOpened {T : Type 0} (m : ℕ) (room got : List ℕ)
      (result : Result T RError) : Type 0 where
    -- they are those of its pages,
    pub bytes : dev.Tells → OnOk result (got ≡ data_from P (view content) m (length room))
    -- below that size,
    pub within : dev.Tells → OnOk result (m + length room ≤ adopted_size seal P content)
    -- and covered by matching slots
    pub checked : dev.Tells → OnOk result (IsCovered seal P content m (length room))
    -- a page is refused only where no matching slot covers it as far as the read needs it
    pub checksum : dev.Tells → (p : ℕ) → IsErrOf result (InvalidChecksum p)
        → IsShort seal P content m (length room) p
    -- only a range that passes the size is refused as too long,
    pub short : dev.Tells → IsErrOf result BlobInsufficientLength
        → adopted_size seal P content < m + length room
    -- and such a one always is, unless memory or the device fails
    pub past : dev.Tells → adopted_size seal P content < m + length room
        → (result ≡ Err BlobInsufficientLength) ⊎ FailsBelow dev result old new
    -- no blob changes
    pub unchanged : dev.Tells → Unchanged (dev.time old) (dev.time new)
    -- the blob is opened as before, and no other entry changed
    pub entries : OnlyRead blob (dev.opened old) (dev.opened new)
    -- faults never fall
    pub faults : dev.faults old ≤ dev.faults new
    -- no other error comes than by a wanted page, memory or the device
    pub cause : OnErr result ((result ≡ Err BlobInsufficientLength)
        ⊎ (((p : ℕ) × (result ≡ Err (InvalidChecksum p)) × IsWanted P m (length room) p)
        ⊎ FailsBelow dev result old new))

  -- The last bytes below that size are read. The answer is the size.
  pub record ReadsLast (room got : List ℕ) (result : Result ℕ RError) : Type 0 where
    -- the answer is the size at which the blob would be adopted,
    pub size : dev.Tells → IfOk result (λ n. n ≡ adopted_size seal P content)
    -- no less than the bytes that were asked for
    pub within : IfOk result (λ n. length room ≤ n)
    -- they are those before that size,
    pub bytes : dev.Tells
        → IfOk result (λ n. got ≡ data_from P (view content) (n - length room) (length room))
    -- and covered by matching slots
    pub checked : dev.Tells
        → IfOk result (λ n. IsCovered seal P content (n - length room) (length room))
    -- a page is refused only where no matching slot covers it as far as the read needs it
    pub checksum : dev.Tells → (p : ℕ) → IsErrOf result (InvalidChecksum p)
        → IsTailShort seal P content (length room) p
    -- only more bytes than the size are refused as too many,
    pub short : dev.Tells → IsErrOf result BlobInsufficientLength
        → adopted_size seal P content < length room
    -- and they always are, unless memory or the device fails
    pub past : dev.Tells → adopted_size seal P content < length room
        → (result ≡ Err BlobInsufficientLength) ⊎ FailsBelow dev result old new
    -- no blob changes
    pub unchanged : dev.Tells → Unchanged (dev.time old) (dev.time new)
    -- the blob is opened as before, and no other entry changed
    pub entries : OnlyRead blob (dev.opened old) (dev.opened new)
    -- faults never fall
    pub faults : dev.faults old ≤ dev.faults new
    -- no other error comes than by a page, memory or the device
    pub cause : OnErr result ((result ≡ Err BlobInsufficientLength)
        ⊎ (((p : ℕ) × (result ≡ Err (InvalidChecksum p))) ⊎ FailsBelow dev result old new))
