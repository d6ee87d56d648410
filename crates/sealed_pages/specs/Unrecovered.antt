-- Adopted blobs whose sealed prefix is shorter than their size. What a call adds to them does not outlive a crash, but the
-- prefix does.
use Rattle.std.specs.Prelude.{◌≡◌, ◌⊎◌, ℕ, ◌+◌, ◌*◌, ◌<◌, ◌≤◌, min, List, length, Option, IsSomeAnd}
use Rattle.blob_device.specs.Disk.{Key, Blob, MayLeave}
use Rattle.blob_device.specs.Guards.{Guards}
use Rattle.blob_device.specs.Timeline.{Timeline, disk, Always, OnlyAt}
use Rattle.sealed_pages.specs.View.{View, view, page_at}
use Rattle.sealed_pages.specs.Slots.{page_length}
use Rattle.sealed_pages.specs.SealedPrefix.{sealed_prefix}
use Rattle.sealed_pages.specs.Buffer.{Buffer, key_of, size_of, IsBacked, IsSealed}
use Rattle.sealed_pages.specs.Cutting.{StandsSettled}
use Rattle.sealed_pages.specs.Contents.{IsHad}

-- a buffer's blob
abbrev pub blob_of : Buffer → Timeline → Blob
blob_of u t = disk t (key_of u)

-- its sealed prefix, as it reads
abbrev pub prefix_of : (List ℕ → ℕ) → Buffer → Timeline → List ℕ
prefix_of seal u t = sealed_prefix seal u.page_size (blob_of u t).content

-- the first n bytes are those of v, and outlive each crash
abbrev pub HasBytesBelow : ℕ → View → Blob → Type 0
HasBytesBelow n v b = Guards (λ i. i < n) v b

-- The blob at a moment, where it was `from` before: below this end it reads as before, places past the end as zeros, and is as
-- long as before; and bytes there that outlived each crash do so.
pub record SparedPrefix (end : ℕ) (from b : Blob) : Type 0 where
  pub reads : (i : ℕ) → i < end → view b.content i ≡ view from.content i
  pub long : min (length from.content) end ≤ length b.content
  pub crashes : (n : ℕ) (v : View) → n ≤ end → HasBytesBelow n v from → HasBytesBelow n v b

-- at each moment, also inside calls of the device; no other blob changes
abbrev pub SparesPrefix : ℕ → Key → Timeline → Timeline → Type 0
SparesPrefix end key old new = Always old new (OnlyAt key (disk old) (SparedPrefix end (disk old key)))

module _ (seal : List ℕ → ℕ) (P : ℕ) where
  -- The blob has this sealed prefix as it reads, and so does each crash image, with or without a chance seal.
  pub record HasPrefix (bytes : List ℕ) (b : Blob) : Type 0 where
    pub reads : sealed_prefix seal P b.content ≡ bytes
    pub crashes : (left : Option (List ℕ)) → MayLeave b left → IsSomeAnd left (λ c. sealed_prefix seal P c ≡ bytes)

  -- at each moment, also inside calls of the device; no other blob changes
  abbrev pub KeepsPrefix : List ℕ → Key → Timeline → Timeline → Type 0
  KeepsPrefix bytes key old new = Always old new (OnlyAt key (disk old) (HasPrefix bytes))

-- An adopted blob of which a page below the tip's is not full: its sealed prefix ends in that page or before.
pub record IsUnrecovered (seal : List ℕ → ℕ) (u : Buffer) (b : Blob) : Type 0 where
  -- the page
  pub page : ℕ
  pub below : page < u.first
  pub short : page_length seal u.page_size b.content page < u.page_size
  -- its bytes and all before have settled, and so has the whole sealed prefix
  pub settled : (page + 1) * u.page_size ≤ u.settled
  -- all up to its end outlives each crash
  pub prefix : HasBytesBelow (page_at u.page_size (page + 1)) (view b.content) b
  -- what is in memory is as in the blob
  pub backed : IsBacked seal u b.content
  -- where all bytes have settled, so has the blob
  pub rest : u.settled ≡ size_of u → StandsSettled b
  -- the blob reads as a content that it has had
  pub had : IsHad b

-- What adopting a settled blob gives, and each call keeps.
abbrev pub IsAdopted : (List ℕ → ℕ) → Buffer → Blob → Type 0
IsAdopted seal u b = IsSealed seal u b ⊎ IsUnrecovered seal u b

-- A cut to len is to at most the sealed prefix of an adopted blob whose size is greater.
abbrev pub IsRecovery : (List ℕ → ℕ) → Buffer → ℕ → Blob → Type 0
IsRecovery seal u len b = IsUnrecovered seal u b × (len ≤ length (sealed_prefix seal u.page_size b.content))

-- A cut to len needs no byte that is not sealed: the buffer is sealed, or the sealed prefix of its blob goes as far, or nothing is cut.
abbrev pub IsSafeCut : (List ℕ → ℕ) → Buffer → ℕ → Blob → Type 0
IsSafeCut seal u len b = IsSealed seal u b ⊎ (IsRecovery seal u len b ⊎ (size_of u ≤ len))
