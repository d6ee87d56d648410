-- Sections that are not held have no records, and how long the others are.
use Rattle.std.proofs.Common.{◌≡◌, inl, inr, sym, ◌∙◌, ap, ℕ, ◌/◌, ◌<◌, ◌≤◌, ◌^◌, [], length, map, Option, None, arith}
use Rattle.std.proofs.lemmas.List.{length-map, nil_from_length}
use Rattle.blob_device.specs.Disk.{Disk}
use Rattle.sealed_pages.specs.declared.page_blob.PageBlob.{PageBlob}
use Rattle.section_manager.specs.Sections.{IsHeld, key_of}
use Rattle.segments.specs.FixedLists as fixed
use Rattle.paired.specs.glob.Sections as glob
use Rattle.paired.specs.Pair.{Pair, length_of, list_of, records_of}
use Rattle.paired.specs.Records as stored
use Rattle.paired.specs.Records.{records}
use Rattle.paired.specs.lemmas.pair.Reads.{index_size}
use Rattle.paired.specs.lemmas.Records.{length-records}
use Rattle.blob_device.proofs.general.Options.{none_or_value, some_there}

-- bytes that are none have no records
no_records : (size : ℕ) → 1 ≤ size → records size [] ≡ []
no_records size pos = nil_from_length (records size []) (omega (arith, length-records size [], pos))

module _ {F S : Type 0} {gs : _} (p : Pair F (PageBlob S gs)) (pos : 1 ≤ p.layout.record_size) (d : Disk) (s : ℕ) where
  -- a section that is not held has no records
  pub unheld_records : p.index.sections.held s ≡ None → records_of p d s ≡ []
  unheld_records none = ap (λ (o : Option (PageBlob S gs)). records p.layout.record_size (fixed.bytes_held o (d (key_of p.index.sections s)).content)) none ∙ no_records p.layout.record_size pos

  pub unheld_list : p.index.sections.held s ≡ None → list_of p d s ≡ []
  unheld_list none = ap (map (stored.entry_of p.layout.place (glob.section_bytes p.values d s))) (unheld_records none)

  -- nor has one that no u64 names
  pub none_behind : (IsHeld p.index.sections s → s < 2 ^ 64) → 2 ^ 64 ≤ s → list_of p d s ≡ []
  none_behind number behind = elim (none_or_value (p.index.sections.held s)) [
    | inl none ↦ unheld_list none
    | inr some ↦ absurd (omega (arith, behind, number (some_there (p.index.sections.held s) some.0 some.1)))
  ]

  -- a section's length is that of its list
  pub length_left : length_of p s ≡ length (list_of p d s)
  length_left =
      ap (λ (n : ℕ). n / p.layout.record_size) (sym (index_size p.index.sections d s)) ∙ sym (length-records p.layout.record_size (fixed.section_bytes p.index.sections d s))
      ∙ sym (length-map (records_of p d s) (stored.entry_of p.layout.place (glob.section_bytes p.values d s)))
