-- The bytes of a section of an archive are whole records.
use Rattle.std.proofs.Common.{◌≡◌, inl, inr, ◌∙◌, ap, ℕ, ◌%◌, length}
use Rattle.blob_device.specs.Disk.{Disk}
use Rattle.blob_device.specs.Opened.{OpenedList}
use Rattle.sealed_pages.specs.declared.page_blob.PageBlob.{PageBlob}
use Rattle.sealed_pages.specs.declared.write_blob.WriteBlob.{WriteBlob}
use Rattle.sealed_pages.specs.Shown as page_blob
use Rattle.section_manager.specs.declared.buffer.SectionBuffer as buffer
use Rattle.section_manager.specs.declared.unsealed.WriteFactory.{WriteFactory}
use Rattle.section_manager.specs.Sections as sections
use Rattle.section_manager.specs.SealedLaws.{counted}
use Rattle.section_manager.specs.Setting.{Setting}
use Rattle.segments.specs.FixedLists as fixed
use Rattle.paired.specs.Pair.{Pair, IsPair}
use Rattle.blob_device.proofs.general.Numbers.{no_rest}
use Rattle.blob_device.proofs.general.Options.{none_or_value}

-- a section's records are whole
pub whole_bytes : {F S : Type 0} {gs : _} {g : buffer.Ghosts (PageBlob S gs)} {gives : F → Setting} {h : buffer.Ghosts WriteBlob} {takes : WriteFactory → Setting} {told : Type 0} (p : Pair F (PageBlob S gs)) (opened : OpenedList) (d : Disk)
    → IsPair g gives h takes told p opened d → told → (s : ℕ) → length (fixed.section_bytes p.index.sections d s) % p.layout.record_size ≡ 0
whole_bytes p opened d pair t s = elim (none_or_value (p.index.sections.held s)) [
  | inl none ↦ rw none (no_rest p.layout.record_size)
  | inr some ↦ rw some.1 (ap (λ (n : ℕ). n % p.layout.record_size) (counted (page_blob.shown some.0) (d (sections.key_of p.index.sections s)).content) ∙ (pair.index.disk t).whole s some.0 some.1 (pair.whole.recovered s))
]
