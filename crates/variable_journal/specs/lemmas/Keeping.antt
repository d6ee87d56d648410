-- A journal of frames after a call that only read.
use Rattle.std.proofs.Common.{◌≡◌, List, ℕ, sym, subst}
use Rattle.blob_device.specs.Disk.{Key, Disk}
use Rattle.blob_device.specs.Opened.{OpenedList}
use Rattle.sealed_pages.specs.Reading.{OnlyRead}
use Rattle.sealed_pages.specs.declared.page_blob.PageBlob.{PageBlob}
use Rattle.section_manager.specs.Setting.{Setting}
use Rattle.section_manager.specs.declared.buffer.SectionBuffer as buffer
use Rattle.segments.specs.FixedLists.{Lists}
use Rattle.segments.specs.lemmas.held.Sections as bytes
use Rattle.variable_journal.specs.Lists.{AreFramed, IsJournal}

-- it may still be used
pub journal_read : {F S : Type 0} {gs : _} (g : buffer.Ghosts (PageBlob S gs)) (gives : F → Setting) (seal : List ℕ → ℕ) (told : Type 0) (j : Lists F (PageBlob S gs)) (k : Key)
    (a b : OpenedList) (d e : Disk) → OnlyRead k a b → (told → e ≡ d) → IsJournal g gives seal told j a d → IsJournal g gives seal told j b e
journal_read g gives seal told j k a b d e only same is = record {
  bytes = bytes.journal_read g gives seal 1 told j k a b d e only same is.bytes;
  free = is.free;
  framed = λ t. subst (AreFramed j) (sym (same t)) (is.framed t);
}
