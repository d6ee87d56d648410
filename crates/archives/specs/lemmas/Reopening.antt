-- A section whose number no u64 has is empty, and nothing of it is synced.
use Rattle.std.proofs.Common.{◌≡◌, inl, inr, ap, ℕ, ◌≤◌, ◌^◌, [], length, map, None, arith}
use Rattle.blob_device.specs.Disk.{Disk}
use Rattle.blob_device.specs.Opened.{OpenedList}
use Rattle.sealed_pages.specs.declared.page_blob.PageBlob.{PageBlob}
use Rattle.archives.specs.Archives.{Archive, IsArchive, filing_of, state_of}
use Rattle.archives.specs.Filing.{filed}
use Rattle.archives.specs.lemmas.init.State.{length_left, unheld_list}
use Rattle.blob_device.proofs.general.Options.{none_or_value, some_there}

-- no section with such a number is held
pub none_beyond : {F S : Type 0} {gs : _} {bs : _} {told : Type 0} (a : Archive F (PageBlob S gs)) (opened : OpenedList) (d : Disk)
    → 1 ≤ a.pair.layout.record_size → IsArchive a bs told opened d → (s : ℕ) → 2 ^ 64 ≤ s → ((state_of a d).lists s ≡ []) × ((state_of a d).synced s ≡ 0)
none_beyond a opened d pos archive s far =
    let none : a.pair.index.sections.held s ≡ None = elim (none_or_value (a.pair.index.sections.held s)) [
      | inl none ↦ none
      | inr some ↦ absurd (omega (arith, far, archive.pair.index.over.opened_list.number s (inl (some_there (a.pair.index.sections.held s) some.0 some.1))))
    ] in
    let empty = unheld_list a.pair pos d s none in
    (ap (map (filed (filing_of a))) empty, omega (arith, archive.pair.settled.lengths s, length_left a.pair pos d s, ap length empty))
