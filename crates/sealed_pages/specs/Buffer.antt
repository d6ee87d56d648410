-- What a buffer over a sealed blob shows, and what it means: a list of bytes, most of them in its blob.
use Rattle.std.specs.Prelude.{◌≡◌, ◌⊎◌, ℕ, ◌+◌, ◌*◌, ◌-◌, ◌/◌, ◌^◌, ◌<◌, ◌≤◌, ◌||◌, not, cond, eqb, Bool, true, false, List, ◌++◌, length, take, nat_eq}
use Rattle.std.specs.List.{list_any}
use Rattle.std.specs.Map.{keys_of}
use Rattle.blob_device.specs.Disk.{Key, Blob, settled_at}
use Rattle.sealed_pages.specs.View.{view, page_at, StandsAt}
use Rattle.sealed_pages.specs.SealedPrefix.{data_from}
use Rattle.sealed_pages.specs.Slots.{page_length}
use Rattle.sealed_pages.specs.Flushing.{Data, Ready, KeptContent, IsClean}
use Rattle.sealed_pages.specs.Cached.{AreCachedOf, pages_down, full_pages}

-- where a blob of n bytes ends, with both slots of its last page
abbrev pub extent : ℕ → ℕ → ℕ
extent P n = page_at P ((n + (P - 1)) / P)

-- A buffer's tip begins where page `first` does, and the first `from` of its bytes are flushed. All pages fit their places.
pub record Fit (P first from : ℕ) (tip : List ℕ) : Type 0 where
  pub begun : from < P
  pub within : from ≤ length tip
  pub room : extent P (first * P + length tip) < 2 ^ 64

-- What a buffer shows. `cache` has the full pages that it holds in memory, of which there are at most `cache_pages`. `end` is
-- the physical end of its blob. `behind` says that bytes stand behind the last page with a matching slot, and `torn` that this
-- page's other slot neither matches nor is zeros, until the first flush removes them.
pub record Buffer : Type 0 where
  pub partition : List ℕ
  pub name : List ℕ
  pub page_size : ℕ
  pub capacity : ℕ
  pub cache_pages : ℕ
  pub cache : List (ℕ × List ℕ)
  pub end : ℕ
  pub first : ℕ
  pub tip : List ℕ
  pub from : ℕ
  pub settled : ℕ
  pub newest : Bool
  pub behind : Bool
  pub torn : Bool

abbrev pub key_of : Buffer → Key
key_of b = (b.partition, b.name)

abbrev pub size_of : Buffer → ℕ
size_of b = b.first * b.page_size + length b.tip

-- the numbers of the pages that it holds in memory, those that were flushed last first
abbrev pub cached : Buffer → List ℕ
cached b = keys_of b.cache

-- page k is one of them
abbrev pub is_cached : Buffer → ℕ → Bool
is_cached b k = list_any (nat_eq k) (cached b)

-- how many bytes are flushed
abbrev pub flushed_of : Buffer → ℕ
flushed_of b = b.first * b.page_size + b.from

-- The bytes of a buffer over a blob of this content: the data of the pages below the tip, and the tip.
abbrev pub bytes_of : Buffer → List ℕ → List ℕ
bytes_of b content = data_from b.page_size (view content) 0 (b.first * b.page_size) ++ b.tip

-- with n more bytes those that are not flushed are below the capacity, or there are none
abbrev pub FlushesNothing : Buffer → ℕ → Type 0
FlushesNothing b n = (length b.tip + n < b.from + b.capacity) ⊎ (length b.tip + n ≤ b.from)

-- What the buffer r holds in memory where u was flushed, or not: the pages that the flush wrote to and left full, the highest
-- first, and then those of u, cut to so many as there may be.
abbrev pub AddsPages : Buffer → Buffer → Type 0
AddsPages u r = cached r ≡ take u.cache_pages (pages_down u.first (r.first - u.first) ++ cached u)

-- What a flush leaves of the buffer u. Only the bytes of a last page that is not full stay in its tip.
pub record FlushesInto (u r : Buffer) : Type 0 where
  -- nothing else of it changes
  pub same : r ≡ record u { end = r.end; first = r.first; tip = r.tip; from = length r.tip; cache = r.cache }
  -- it means as many bytes
  pub size : size_of r ≡ size_of u
  -- the tip is the end of the same bytes
  pub tip : (all : List ℕ) → StandsAt all (u.first * u.page_size) u.tip → StandsAt all (r.first * r.page_size) r.tip
  -- full pages leave it
  pub later : u.first ≤ r.first
  pub long : (r.first - u.first) * u.page_size ≤ length u.tip
  -- and are the first in memory then
  pub cache : r.cache ≡ take u.cache_pages (full_pages u.page_size u.first (r.first - u.first) u.tip ++ u.cache)

-- a crash may have left something that the first flush has to remove
abbrev pub has_leftover : Buffer → Bool
has_leftover b = b.behind || b.torn

-- how many pages begin below the end of the flushed bytes
abbrev pub pages_of : ℕ → ℕ → ℕ
pages_of first from = cond (eqb from 0) first (first + 1)

module _ (seal : List ℕ → ℕ) (P : ℕ) where
  -- A blob as it was adopted, of which a crash may have left more than its first F bytes: bytes behind their last page, where
  -- `behind` says so, and a torn slot beside the one that covers its end, where `torn` says so.
  pub record Adopted (bytes : List ℕ) (first from : ℕ) (newest behind torn : Bool) (b : Blob) : Type 0 where
    pub σ : ℕ → Bool
    pub is : b ≡ settled_at b.content
    pub content : KeptContent seal P bytes (first * P + from) σ b.content
    pub head : 0 < from → σ first ≡ newest
    pub longer : behind ≡ true → page_at P (pages_of first from) ≤ length b.content
    pub shorter : behind ≡ false → length b.content ≤ page_at P (pages_of first from)
    pub inside : torn ≡ true → 0 < from
    pub clean : torn ≡ false → 0 < from → IsClean seal P b.content first (not newest)

  -- The state of the blob under a buffer: what is flushed of these bytes is sealed, what settled outlives every crash.
  pub record State (bytes : List ℕ) (first from settled : ℕ) (newest behind torn : Bool) (b : Blob) : Type 0 where
    pub ready : (behind || torn) ≡ false → Ready seal P bytes (first * P + from) settled newest b
    pub adopted : (behind || torn) ≡ true → Adopted bytes first from newest behind torn b × (settled ≡ first * P + from)

-- The buffer holds these bytes: its blob has those that are flushed, and its tip is the end of them.
pub record Holds (seal : List ℕ → ℕ) (u : Buffer) (bytes : List ℕ) (b : Blob) : Type 0 where
  pub state : State seal u.page_size bytes u.first u.from u.settled u.newest u.behind u.torn b
  pub tip_at : StandsAt bytes (u.first * u.page_size) u.tip
  pub size : length bytes ≡ size_of u

-- what is flushed of the bytes stands in the blob
abbrev pub HasFlushed : Buffer → List ℕ → Type 0
HasFlushed u content = Data u.page_size (bytes_of u content) (flushed_of u) (view content)

-- What the buffer has in memory is as in its blob.
pub record IsBacked (seal : List ℕ → ℕ) (u : Buffer) (content : List ℕ) : Type 0 where
  -- what is flushed of the bytes stands in the blob
  pub flushed : HasFlushed u content
  -- a matching slot covers what is flushed of the tip
  pub tip : u.from ≤ page_length seal u.page_size content u.first
  -- the pages that it holds are as there, and matching slots cover them
  pub cache : AreCachedOf seal u.page_size content u.cache

-- The buffer is sealed: the promise on crashes stands of the bytes that it means.
pub record IsSealed (seal : List ℕ → ℕ) (u : Buffer) (b : Blob) : Type 0 where
  -- the blob has what is flushed of the bytes, and the tip is the end of them
  pub holds : Holds seal u (bytes_of u b.content) b
  -- what is in memory is as in the blob
  pub backed : IsBacked seal u b.content
