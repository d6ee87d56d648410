-- What adopting an opened blob promises.
use Rattle.std.specs.Prelude.{◌≡◌, ◌<◌, ◌≤◌, length, ℕ, List, [], Result, IfOk, OnErr}
use Rattle.blob_device.specs.Disk.{Key, Blob}
use Rattle.blob_device.specs.Timeline.{disk}
use Rattle.blob_device.specs.declared.device.Device as device
use Rattle.blob_device.specs.declared.runtime.RError.{RError}
use Rattle.sealed_pages.specs.declared.pages.Pages.{Pages}
use Rattle.sealed_pages.specs.Buffer.{Buffer, key_of, size_of, IsBacked, IsSealed}
use Rattle.sealed_pages.specs.Calls.{FailsBelow}
use Rattle.sealed_pages.specs.Cutting.{StandsSettled}
use Rattle.sealed_pages.specs.Entries.{IsOpenAt}
use Rattle.sealed_pages.specs.Leftover.{Leftover, IsKnown}
use Rattle.sealed_pages.specs.Reading.{Unchanged, OnlyRead}
use Rattle.sealed_pages.specs.SealedPrefix.{sealed_prefix, adopted_size}
use Rattle.sealed_pages.specs.Unrecovered.{IsUnrecovered, IsAdopted}

module _ {D : Type 0} (dev : device.Ghosts D) (seal : List ℕ → ℕ) (blob : Key) (pages : Pages)
    (old new : D) where
  -- the blob, which no call changes
  abbrev here : Blob
  here = disk (dev.time old) blob

  -- where its sealed prefix ends, and the size at which it is adopted
  abbrev prefix_end : ℕ
  prefix_end = length (sealed_prefix seal pages.page_size here.content)

  abbrev found_end : ℕ
  found_end = adopted_size seal pages.page_size here.content

  -- The opened blob, of n bytes, is adopted with this capacity.
  pub record Adopts {B : Type 0} (see : B → Buffer) (n most : ℕ)
      (result : Result B RError) : Type 0 where
    -- the size goes back to the last page with a matching slot
    pub size : dev.Tells → IfOk result (λ r. size_of (see r) ≡ found_end)
    -- what is in memory is as in the blob
    pub backed : dev.Tells → IfOk result (λ r. IsBacked seal (see r) here.content)
    -- Where the blob has settled, and its sealed prefix is the size, the promise on crashes begins.
    pub sealed : dev.Tells → StandsSettled here → prefix_end ≡ found_end
        → IfOk result (λ r. IsSealed seal (see r) here)
    -- where the prefix is shorter, that prefix outlives each crash,
    pub unrecovered : dev.Tells → StandsSettled here → prefix_end < found_end
        → IfOk result (λ r. IsUnrecovered seal (see r) here)
    -- and there is no third case
    pub adopted : dev.Tells → StandsSettled here → IfOk result (λ r. IsAdopted seal (see r) here)
    -- what a crash may have left in the blob is known
    pub leftover : dev.Tells → IfOk result (λ r. Leftover seal (see r).page_size here.content
        (see r).first (see r).from (see r).newest (see r).behind (see r).torn)
    -- also once more is appended, until it is removed
    pub known : dev.Tells → StandsSettled here → IfOk result (λ r. IsKnown seal (see r) here)
    -- no page is in memory,
    pub cache : IfOk result (λ r. (see r).cache ≡ [])
    -- and there is room for as many as the pages say
    pub cache_pages : IfOk result (λ r. (see r).cache_pages ≡ pages.cache_pages)
    -- no blob changes
    pub unchanged : dev.Tells → Unchanged (dev.time old) (dev.time new)
    -- all bytes count as settled
    pub settled : IfOk result (λ r. (see r).settled ≡ size_of (see r))
    -- the buffer is over this blob, with these pages and this capacity
    pub key : IfOk result (λ r. key_of (see r) ≡ blob)
    pub page_size : IfOk result (λ r. (see r).page_size ≡ pages.page_size)
    pub capacity : IfOk result (λ r. (see r).capacity ≡ most)
    -- it knows how long the blob is,
    pub end : IfOk result (λ r. (see r).end ≡ n)
    -- which is opened so long still
    pub «open» : IfOk result (λ r. IsOpenAt (dev.opened new) (key_of (see r)) (see r).end)
    -- the blob is opened as before, and no other entry changed
    pub entries : OnlyRead blob (dev.opened old) (dev.opened new)
    -- faults never fall
    pub faults : dev.faults old ≤ dev.faults new
    -- no error comes but by memory or the device: no blob is refused
    pub cause : OnErr result (FailsBelow dev result old new)
