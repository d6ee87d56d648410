-- What reading an item of a fixed journal answers.
use Rattle.std.specs.Prelude.{◌⊎◌, ℕ, ◌*◌, ◌/◌, ◌<◌, eqb, not, Bool, List, Result, count_by}
use Rattle.std.specs.Result.{IsErrOf}
use Rattle.blob_device.specs.declared.runtime.RError.TheVariants.{InvalidChecksum}
use Rattle.value_codec.specs.declared.codec.Error as codec
use Rattle.sealed_pages.specs.declared.page_blob.PageBlob.{PageBlob}
use Rattle.sealed_pages.specs.Shown.{shown}
use Rattle.sealed_pages.specs.Buffer.{size_of}
use Rattle.sealed_pages.specs.Reads.{IsShort, IsCovered, below, missing_pages}
use Rattle.section_manager.specs.declared.journal.Damage.{Damage}
use Rattle.section_manager.specs.declared.journal.Error.{Error}
use Rattle.section_manager.specs.declared.journal.Error.TheVariants.{Runtime, Codec, SectionOutOfRange, ItemOutOfRange, Corruption}
use Rattle.section_manager.specs.Refusing.{HasFailed}

module _ {S : Type 0} {gs : _} (size : ℕ) where
  -- the position is that of an item of the buffer
  abbrev pub HasItem : PageBlob S gs → ℕ → Type 0
  HasItem u p = p < size_of (shown u) / size

  -- all bytes of the item at p are held in memory: no page below the tip that has one of them is
  -- out of it
  abbrev pub is_item_held : PageBlob S gs → ℕ → Bool
  is_item_held u p = eqb (missing_pages (shown u) (p * size) size) 0

  -- of so many of these positions the item is not held whole
  abbrev pub unheld : PageBlob S gs → List ℕ → ℕ
  unheld u positions = count_by (λ p. not (is_item_held u p)) positions

  -- how many bytes of the item at p stand below the tip
  abbrev pub item_below : PageBlob S gs → ℕ → ℕ
  item_below u p = below u.page_size u.first (p * size) size

  -- page k has bytes of the item at p, and no matching slot covers it as far as the item goes
  abbrev pub IsDamaged : (List ℕ → ℕ) → PageBlob S gs → List ℕ → ℕ → ℕ → Type 0
  IsDamaged seal u content p k = IsShort seal u.page_size content (p * size) (item_below u p) k

  -- matching slots cover each page that has bytes of the item at p, as far as the item goes
  abbrev pub IsItemCovered : (List ℕ → ℕ) → PageBlob S gs → List ℕ → ℕ → Type 0
  IsItemCovered seal u content p = IsCovered seal u.page_size content (p * size) (item_below u p)

module _ {T : Type 0} (result : Result T Error) where
  -- the section is not held
  abbrev pub IsAbsent : ℕ → Type 0
  IsAbsent s = IsErrOf result (SectionOutOfRange s)

  -- the position is at or past the end
  abbrev pub IsPast : ℕ → Type 0
  IsPast p = IsErrOf result (ItemOutOfRange p)

  -- a section keeps less than its floor
  abbrev pub IsBelowFloor : Type 0
  IsBelowFloor = (d : Damage) × IsErrOf result (Corruption d)

  -- a page is damaged, or the item does not decode, or the device failed, or there was no memory
  abbrev pub HasNotRead : ℕ → ℕ → Type 0
  HasNotRead before now = ((k : ℕ) × IsErrOf result (Runtime (InvalidChecksum k)))
      ⊎ (((e : codec.Error) × IsErrOf result (Codec e)) ⊎ HasFailed result before now)
