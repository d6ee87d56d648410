-- What the records of an archive are by their size.
use Rattle.std.proofs.Common.{◌≡◌, ℕ, zero, suc, ◌+◌, ◌-◌, ◌*◌, ◌<◌, List, length, drop, None, arith, length-drop}
use Rattle.std.specs.List.{AllByRecursion}
use Rattle.std.proofs.lemmas.Bool.Decides.{nat_tests}
use Rattle.std.proofs.lemmas.List.{length-take-le}
use Rattle.blob_device.specs.Disk.{Disk}
use Rattle.value_codec.specs.Spelling.{size_refusal}
use Rattle.value_codec.specs.declared.codec.Error as codec
use Rattle.sealed_pages.specs.lemmas.adopted.Adopt.{length-data_from}
use Rattle.sealed_pages.specs.View.{view}
use Rattle.section_manager.specs.Sections.{section_key}
use Rattle.segments.specs.FixedItems.{item_at, item_count}
use Rattle.paired.specs.Kept.{Layout}
use Rattle.paired.specs.OpeningRefusing.{IsUnreadable, last_of}
use Rattle.paired.specs.Records.{each_below, records}
use Rattle.blob_device.proofs.general.Numbers.{item_ends}

-- ---- sizes
pub whole_fits : (n : ℕ) (bytes : List ℕ) → length bytes ≡ n → size_refusal n bytes ≡ None
whole_fits n bytes long = grind (arith, nat_tests)

all_below : {X : Type 0} (P : X → Type 0) (n : ℕ) (f : ℕ → X) → ((i : ℕ) → i < n → P (f i)) → AllByRecursion P (each_below n f)
all_below P zero f has = tt
all_below P (suc n) f has = (has 0 (omega arith), all_below P n (λ i. f (i + 1)) (λ i lt. has (i + 1) (omega (arith, lt))))

-- each record of some bytes has its size, and is refused by no size
pub all_whole : (size : ℕ) (bytes : List ℕ) → AllByRecursion (λ r. size_refusal size r ≡ None) (records size bytes)
all_whole size bytes = all_below (λ r. size_refusal size r ≡ None) (item_count size bytes) (item_at size bytes) (λ p lt.
    whole_fits size (item_at size bytes p) (length-take-le size (drop (p * size) bytes) (omega (arith, item_ends size (length bytes) p lt, length-drop (p * size) bytes))))

-- so is the last record below a marker
pub last_whole : (l : Layout) (d : Disk) (s n : ℕ) → size_refusal l.record_size (last_of l d s n) ≡ None
last_whole l d s n = whole_fits l.record_size (last_of l d s n) (length-data_from l.page_size (view (d (section_key l.index s)).content) l.record_size ((n - 1) * l.record_size))

-- no such record is refused
pub none_unreadable : (l : Layout) (d : Disk) (Marked : ℕ → ℕ → Type 0) (e : codec.Error) → IsUnreadable l Marked (λ bytes _. size_refusal l.record_size bytes) d e → ⊥
none_unreadable l d Marked e is =
    let fine : size_refusal l.record_size (last_of l d is.section is.items) ≡ None = last_whole l d is.section is.items in
    let bad = is.refused in
    cc (fine, bad)
