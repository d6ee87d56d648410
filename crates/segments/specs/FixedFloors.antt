-- What markers ask of the blobs of a fixed journal, what a check of them shows, and why one of them
-- is refused.
use Rattle.std.specs.Prelude.{◌≡◌, ◌⊎◌, ℕ, ◌-◌, ◌*◌, ◌/◌, ◌^◌, ◌<◌, ◌≤◌, false, List, length, IsTrue, Option, Some, string_bytes}
use Rattle.std.specs.BTreeMap as tree
use Rattle.std.specs.Ordering.{nat_cmp}
use Rattle.blob_device.specs.Disk.{Blob, Disk}
use Rattle.sealed_pages.specs.Buffer.{size_of, bytes_of, IsBacked}
use Rattle.sealed_pages.specs.declared.page_blob.PageBlob.{PageBlob}
use Rattle.sealed_pages.specs.declared.pages.Pages.{Pages}
use Rattle.sealed_pages.specs.Shown as page_blob
use Rattle.sealed_pages.specs.Reads.{IsCovered, IsShort, PassesSize}
use Rattle.sealed_pages.specs.SealedPrefix.{sealed_prefix, adopted_size, data_from}
use Rattle.sealed_pages.specs.View.{view}
use Rattle.section_manager.specs.declared.journal.Damage.{Damage}
use Rattle.section_manager.specs.declared.sealed.AppendFactory.{AppendFactory}
use Rattle.section_manager.specs.Sealed.{adopted_bytes}
use Rattle.section_manager.specs.Sections.{Sections, key_of}
use Rattle.segments.specs.declared.fixed.preflighting.Preflight.{Preflight}
use Rattle.segments.specs.declared.fixed.preflighting.Target.{Target}
use Rattle.segments.specs.FixedItems.{IsItem}
use Rattle.segments.specs.FixedLists.{Lists, floor_in}
use Rattle.segments.specs.FixedShown as journal

-- Where the journal is and how it is kept, and up to which section it was opened; how many bytes of
-- each section a marker vouches for; of each section with a marker, the last item that it vouches
-- for, if any; and where a checkpoint cuts.
pub record Floors (A : Type 0) : Type 0 where
  pub partition : List ℕ
  pub pages : Pages
  pub write_buffer : ℕ
  pub ceiling : ℕ
  pub floor_of : ℕ → ℕ
  pub boundary_of : ℕ → Option (Option A)
  pub target : Option Target

abbrev pub preflight_shown : {A S : Type 0} {fixed codec seal : _} → Preflight A S fixed codec seal → Floors A
preflight_shown p = record {
  partition = string_bytes p.journal.manager.partition;
  pages = p.journal.manager.factory.pages;
  write_buffer = p.journal.manager.factory.write_buffer;
  ceiling = p.journal.manager.ceiling;
  floor_of = floor_in p.journal.floors;
  boundary_of = tree.get nat_cmp p.boundaries;
  target = p.target;
}

-- the journal that was opened
abbrev pub journal_of : {A S : Type 0} {fixed codec seal : _} → Preflight A S fixed codec seal
    → Lists (AppendFactory S) (PageBlob S seal)
journal_of p = journal.shown p.journal

module _ (seal : List ℕ → ℕ) where
  -- A buffer as adopting makes it over this blob: its bytes are the data up to the size at which
  -- the blob is adopted, all of them have settled, and what it has in memory is as in it.
  pub record IsAdoptedOver {S : Type 0} {g : _} (u : PageBlob S g) (b : Blob) : Type 0 where
    pub there : IsTrue b.there
    pub size : size_of (page_blob.shown u) ≡ adopted_size seal u.page_size b.content
    pub bytes : bytes_of (page_blob.shown u) b.content ≡ adopted_bytes seal u.page_size b.content
    pub settled : u.settled ≡ size_of (page_blob.shown u)
    pub backed : IsBacked seal (page_blob.shown u) b.content

  -- each section is held by such a buffer
  abbrev pub AreAdopted : {F S : Type 0} {g : _} → Sections F (PageBlob S g) → Disk → Type 0
  AreAdopted {S = S} {g = g} m d = (s : ℕ) (u : PageBlob S g) → m.held s ≡ Some u
      → IsAdoptedOver u (d (key_of m s))

module _ (seal : List ℕ → ℕ) (P size : ℕ) where
  -- v is the last of n items: matching slots cover its pages as far as it goes, and its bytes stand
  -- there
  pub record IsBoundary {V : Type 0} (spelling : V → List ℕ) (accepted : V → Unit {0} → Type 0)
      (content : List ℕ) (n : ℕ) (v : V) : Type 0 where
    pub item : IsItem spelling accepted (data_from P (view content) ((n - 1) * size) size) v
    pub covered : IsCovered seal P content ((n - 1) * size) size
    pub within : n * size ≤ adopted_size seal P content

  -- the blob has n items: it is there, and they stand in its sealed prefix
  pub record Keeps (b : Blob) (n : ℕ) : Type 0 where
    pub there : IsTrue b.there
    pub fits : n * size < 2 ^ 64
    pub sealed : n * size ≤ length (sealed_prefix seal P b.content)

  -- the blob has the last of n items, which is why their marker is not refused: it is there, and
  -- matching slots cover that item, if any
  pub record KeepsLast (b : Blob) (n : ℕ) : Type 0 where
    pub there : IsTrue b.there
    pub fits : n * size < 2 ^ 64
    pub covered : 0 < n → IsCovered seal P b.content ((n - 1) * size) size
    pub within : 0 < n → n * size ≤ adopted_size seal P b.content

  -- it has the last of n items, and that is one
  pub record KeepsBoundary {V : Type 0} (spelling : V → List ℕ) (accepted : V → Unit {0} → Type 0)
      (b : Blob) (n : ℕ) : Type 0 where
    pub last : KeepsLast b n
    pub decodes : 0 < n → (v : V) × IsBoundary spelling accepted b.content n v

  -- n items have more bytes than a u64 counts; the damage counts items
  pub record IsTooMany (n : ℕ) (x : Damage) : Type 0 where
    pub many : 2 ^ 64 ≤ n * size
    pub kept : x.kept ≡ n
    pub wanted : x.wanted ≡ (2 ^ 64 - 1) / size

  -- no blob is there
  pub record IsMissing (b : Blob) (n : ℕ) (x : Damage) : Type 0 where
    pub absent : b.there ≡ false
    pub fits : n * size < 2 ^ 64
    pub kept : x.kept ≡ 0
    pub wanted : x.wanted ≡ n * size

  -- the last of n items is not sealed, or passes the size at which the blob is adopted
  pub record IsUnsealed (b : Blob) (n : ℕ) (x : Damage) : Type 0 where
    pub there : IsTrue b.there
    pub fits : n * size < 2 ^ 64
    pub some : 0 < n
    pub broken : ((k : ℕ) × IsShort seal P b.content ((n - 1) * size) size k)
        ⊎ PassesSize seal P b.content ((n - 1) * size) size
    pub kept : x.kept ≡ length (sealed_prefix seal P b.content)
    pub wanted : x.wanted ≡ n * size
    pub less : x.kept < x.wanted

  -- why a marker of n items is refused
  abbrev pub IsRefused : Blob → ℕ → Damage → Type 0
  IsRefused b n x = IsTooMany n x ⊎ (IsMissing b n x ⊎ IsUnsealed b n x)
