-- The blob of a held section reads as one of the contents that it has had since it settled.
use Rattle.std.proofs.Common.{◌≡◌, ℕ, List, Some}
use Rattle.blob_device.specs.Disk.{Blob, Disk}
use Rattle.blob_device.specs.Opened.{OpenedList}
use Rattle.sealed_pages.specs.Buffer.{Buffer}
use Rattle.sealed_pages.specs.Contents.{IsHad}
use Rattle.sealed_pages.specs.declared.page_blob.PageBlob.{PageBlob}
use Rattle.sealed_pages.specs.declared.write_blob.WriteBlob.{WriteBlob}
use Rattle.sealed_pages.specs.Shown.{shown}
use Rattle.sealed_pages.specs.lemmas.Had.{adopted_had}
use Rattle.segments.specs.lemmas.adding.Write.{ArePages}
use Rattle.section_manager.specs.contracts.unsealed.WriteBlobSectionBuffer.TheImpl as write_blob
use Rattle.section_manager.specs.declared.buffer.SectionBuffer as buffer
use Rattle.section_manager.specs.Sealed as sealed
use Rattle.section_manager.specs.Sections.{Sections, key_of, IsOver}
use Rattle.section_manager.specs.Setting.{Setting}
use Rattle.section_manager.specs.unsealed.Buffer as unsealed
use Rattle.segments.specs.FixedLists.{Lists, IsJournal}

-- under a buffer whose pages carry seals
pub sealed_had : (seal : List ℕ → ℕ) (u : Buffer) (b : Blob) → sealed.Stands seal u b → IsHad b
sealed_had seal u b stands = adopted_had seal u b stands.adopted

-- under one without seals
pub unsealed_had : (u : WriteBlob) (b : Blob) → unsealed.Stands u b → IsHad b
unsealed_had u b stands = stands.over.had

-- a section of a fixed journal
pub journal_had : {F S : Type 0} {gs : _} (seal : List ℕ → ℕ) (size : ℕ) (told : Type 0) (g : buffer.Ghosts (PageBlob S gs)) (pages : ArePages g seal) (gives : F → Setting) (j : Lists F (PageBlob S gs)) (opened : OpenedList) (d : Disk)
    → IsJournal g gives seal size told j opened d → told → (s : ℕ) (u : PageBlob S gs) → j.sections.held s ≡ Some u → IsHad (d (key_of j.sections s))
journal_had seal size told g pages gives j opened d journal t s u held =
    let b : Blob = d (key_of j.sections s) in
    sealed_had seal (shown u) b (pages.stands u b ((journal.over.disk t).stands s u held))

-- a section of a manager of buffers without seals
pub sections_had : {F : Type 0} (told : Type 0) (gives : F → Setting) (m : Sections F WriteBlob) (opened : OpenedList) (d : Disk) → IsOver write_blob.ghosts gives told m opened d → told → (s : ℕ) (u : WriteBlob) → m.held s ≡ Some u → IsHad (d (key_of m s))
sections_had told gives m opened d over t s u held = unsealed_had u (d (key_of m s)) ((over.disk t).stands s u held)
