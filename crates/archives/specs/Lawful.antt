-- Which images are lawful for an archive.
use Rattle.std.specs.Prelude.{◌≡◌, ◌≢◌, ℕ, ◌<◌, ◌≤◌, ◌^◌, List, [], length, None}
use Rattle.std.specs.List.{AllByRecursion}
use Rattle.std.specs.List.Sorted.{IsStrictlySortedBy}
use Rattle.std.specs.Ordering.{nat_cmp}
use Rattle.blob_device.specs.Disk.{Image}
use Rattle.paired.specs.Kept.{Markers, stored_records}
use Rattle.paired.specs.Opening.{IsLawful}
use Rattle.archives.specs.Filing.{Filing, kept_entries}
use Rattle.archives.specs.IndexRecord.{index_of}
use Rattle.archives.specs.Machine.{section_of}

-- An image is lawful with these markers. As a pair it is: names of sections have eight bytes; both copies of the
-- markers are in order and hold these, with the floor 0; each marker's section has so many records, all of them
-- sound; and the value places of a section begin at 0 and follow each other. Each record, kept or not, lies in its
-- section; each kept value is a spelling that the codec accepts; and no more sections keep a record, and no section
-- keeps more records, than the limits allow.
pub record Lawful (f : Filing) (image : Image) (markers : Markers) : Type 0 where
  pub pair : IsLawful f.layout image markers
  pub in_section : (s : ℕ) → s < 2 ^ 64
      → AllByRecursion (λ r. section_of f.items (index_of r) ≡ s) (stored_records f.layout image s)
  pub decoded : (s : ℕ) → s < 2 ^ 64 → AllByRecursion (λ e. f.refusal e.value ≡ None) (kept_entries f image markers s)
  pub few_sections : (ss : List ℕ) → IsStrictlySortedBy nat_cmp ss
      → AllByRecursion (λ s. (s < 2 ^ 64) × (kept_entries f image markers s ≢ [])) ss → length ss ≤ f.most_sections
  pub few_records : (s : ℕ) → s < 2 ^ 64 → length (kept_entries f image markers s) ≤ f.most_records
