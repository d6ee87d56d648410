-- What is answered of an item without a call of the device, from what a buffer has in memory.
use Rattle.std.specs.Prelude.{◌≡◌, ℕ, ◌<◌, ◌≤◌, ◌^◌, List, length, drop, Option, Some, None, Result, Ok, Err}
use Rattle.value_codec.specs.Varint.{BeginsWithVarint}
use Rattle.value_codec.specs.declared.codec.Error as codec
use Rattle.sealed_pages.specs.Buffer.{bytes_of}
use Rattle.sealed_pages.specs.Cached.{AreCachedOf}
use Rattle.sealed_pages.specs.Reads.{IsHeld}
use Rattle.sealed_pages.specs.Shown.{shown}
use Rattle.sealed_pages.specs.declared.page_blob.PageBlob.{PageBlob}
use Rattle.section_manager.specs.declared.journal.Error.{Error}
use Rattle.section_manager.specs.declared.journal.Error.TheVariants.{Mem}
use Rattle.segments.specs.FixedLists.{Lists}
use Rattle.variable_journal.specs.Frames.{frame, BeginsWithFrame}
use Rattle.variable_journal.specs.Reading.{Spells}

module _ {S : Type 0} {gs : _} (seal : List ℕ → ℕ) (u : PageBlob S gs) (offset : ℕ) where
  -- the pages in memory are as in the content
  abbrev pub IsCacheOf : List ℕ → Type 0
  IsCacheOf content = AreCachedOf seal u.page_size content (shown u).cache

  -- the bytes from the offset on
  abbrev pub bytes_from : List ℕ → List ℕ
  bytes_from content = drop offset (bytes_of (shown u) content)

  -- Over this content the item's frame stands at the offset, and each of its bytes is in memory.
  pub record HoldsFrame (content item : List ℕ) : Type 0 where
    pub cached : IsCacheOf content
    -- what follows it
    pub rest : List ℕ
    pub begins : BeginsWithFrame (bytes_from content) item rest
    pub held : IsHeld (shown u) offset (length (frame item))

  -- The length of a frame stands there, and so many bytes of it, each of them in memory.
  pub record HoldsLength (r : ℕ × ℕ) : Type 0 where
    pub few : r.1 ≤ 5
    pub small : r.0 < 2 ^ 32
    pub held : IsHeld (shown u) offset r.1
    pub begins : (content : List ℕ) → IsCacheOf content
        → BeginsWithVarint (2 ^ 32) (bytes_from content) r.0 r.1

  -- a length that is in memory; else no frame is
  abbrev pub FindsLength : Option (ℕ × ℕ) → Type 0
  FindsLength (Some r) = HoldsLength r
  FindsLength None = (content item : List ℕ) → HoldsFrame content item → ⊥

  module _ {V C : Type 0} (spelling : V → List ℕ) (accepted : V → C → Type 0)
      (refusal : List ℕ → C → Option codec.Error) (config : C) where
    -- an item whose frame is in memory; else no frame is, or what it holds is refused; or no memory
    abbrev pub GetsHeld : Result (Option V) Error → Type 0
    GetsHeld (Ok (Some v)) = (content : List ℕ) → IsCacheOf content
        → (item : List ℕ) × HoldsFrame content item × Spells spelling accepted config item v
    GetsHeld (Ok None) = (content item : List ℕ) → HoldsFrame content item
        → refusal item config ≡ None → ⊥
    GetsHeld (Err e) = e ≡ Mem

-- The item at this offset of the section was asked for, where it is in memory.
pub record TriesGet {F S V C : Type 0} {gs : _} (seal : List ℕ → ℕ) (spelling : V → List ℕ)
    (accepted : V → C → Type 0) (refusal : List ℕ → C → Option codec.Error) (config : C)
    (section offset : ℕ) (j : Lists F (PageBlob S gs)) (result : Result (Option V) Error)
    : Type 0 where
  -- an item is that of the section's buffer, and the section is not below the floor
  pub item : (v : V) → result ≡ Ok (Some v) → (j.sections.floor ≤ section) × (u : _)
      × (j.sections.held section ≡ Some u)
      × GetsHeld seal u offset spelling accepted refusal config (Ok (Some v))
  -- where none is given, that has none
  pub none : result ≡ Ok None → (u : _) → j.sections.held section ≡ Some u
      → j.sections.floor ≤ section
      → GetsHeld seal u offset spelling accepted refusal config (Ok None)
  -- nothing is refused but for want of memory
  pub cause : (e : Error) → result ≡ Err e → e ≡ Mem
