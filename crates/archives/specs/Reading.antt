-- Which place of a section's values a record names.
use Rattle.std.specs.Prelude.{ℕ, slice_get, IsSomeAnd}
use Rattle.blob_device.specs.Disk.{Disk}
use Rattle.sealed_pages.specs.declared.page_blob.PageBlob.{PageBlob}
use Rattle.paired.specs.Pair.{records_of}
use Rattle.archives.specs.Archives.{Archive}

module _ {F S : Type 0} {gs : _} (a : Archive F (PageBlob S gs)) (d : Disk) (s p : ℕ) where
  -- The place that the record names, of so many bytes from an offset on, has this.
  abbrev pub NamesPlace : (ℕ → ℕ → Type 0) → Type 0
  NamesPlace P =
      IsSomeAnd (slice_get (records_of a.pair d s) p) (λ r. P (a.pair.layout.place r).0 (a.pair.layout.place r).1)
