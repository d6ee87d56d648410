-- A section's list is as long as the section counts.
use Rattle.std.proofs.Common.{◌≡◌, ◌∙◌, ap, ℕ, ◌/◌, length}
use Rattle.std.proofs.lemmas.List.{length-map}
use Rattle.blob_device.specs.Disk.{Disk}
use Rattle.sealed_pages.specs.declared.page_blob.PageBlob.{PageBlob}
use Rattle.paired.specs.glob.Sections as glob
use Rattle.paired.specs.Pair.{Pair, length_of, list_of, records_of}
use Rattle.paired.specs.Records as stored
use Rattle.paired.specs.lemmas.pair.Reads.{index_size}
use Rattle.paired.specs.lemmas.Records.{length-records}

-- a section's list is as long as the section counts
pub list_counted : {F S : Type 0} {gs : _} (p : Pair F (PageBlob S gs)) (d : Disk) (s : ℕ) → length (list_of p d s) ≡ length_of p s
list_counted p d s =
    length-map (records_of p d s) (stored.entry_of p.layout.place (glob.section_bytes p.values d s)) ∙ length-records p.layout.record_size _ ∙ ap (λ (n : ℕ). n / p.layout.record_size) (index_size p.index.sections d s)
