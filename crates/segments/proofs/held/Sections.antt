-- Reads of one held section, and that no page of a proven or sealed one is damaged.
use Rattle.std.proofs.Common.{◌≡◌, ◌⊎◌, inl, inr, ℕ, ◌*◌, List, IsSomeAnd, sym, ◌∙◌, subst}
use Rattle.blob_device.specs.Disk.{Key, Disk}
use Rattle.blob_device.specs.Opened.{OpenedList}
use Rattle.sealed_pages.specs.declared.page_blob.PageBlob.{PageBlob}
use Rattle.sealed_pages.specs.Buffer.{bytes_of, IsSealed}
use Rattle.sealed_pages.specs.Entries.{ReadsAtMost}
use Rattle.sealed_pages.specs.Shown.{shown}
use Rattle.sealed_pages.specs.lemmas.slots.Whole.{whole_read}
use Rattle.section_manager.specs.declared.buffer.SectionBuffer as buffer
use Rattle.section_manager.specs.Setting.{Setting}
use Rattle.section_manager.specs.Sections.{key_of}
use Rattle.segments.specs.FixedLists.{Lists, IsProven, IsJournal}
use Rattle.segments.specs.FixedReading.{IsDamaged}
use Rattle.blob_device.proofs.general.Options.{some_same, value_of}

pub reads_as : (m n : ℕ) (k q : Key) (a b : OpenedList) → m ≡ n → k ≡ q → ReadsAtMost m k a b → ReadsAtMost n q a b
reads_as m n k q a b same key reads = subst (λ (x : Key). ReadsAtMost n x a b) key (subst (λ (x : ℕ). ReadsAtMost x k a b) same reads)

-- no page of a proven section is damaged, and none of one that is sealed
pub sound_page : {F S : Type 0} {gs : _} (g : buffer.Ghosts (PageBlob S gs)) (gives : F → Setting) (seal : List ℕ → ℕ) (size : ℕ) (told : Type 0) (j : Lists F (PageBlob S gs)) (opened : OpenedList) (d : Disk)
    → IsJournal g gives seal size told j opened d → told → (s : ℕ) (at : PageBlob S gs → ℕ) (k : ℕ) → IsProven j s ⊎ IsSomeAnd (j.sections.held s) (λ u. IsSealed seal (shown u) (d (key_of j.sections s)))
    → IsSomeAnd (j.sections.held s) (λ u. IsDamaged size seal u (d (key_of j.sections s)).content (at u) k) → ⊥
sound_page {S = S} {gs = gs} g gives seal size told j opened d journal t s at k which damaged =
    let u = value_of (j.sections.held s) (λ v. IsDamaged size seal v (d (key_of j.sections s)).content (at v) k) damaged in
    let sealed : IsSealed seal (shown u.value) (d (key_of j.sections s)) = elim which [
      | inl proven ↦ (journal.disk t).sealed s u.value u.is proven
      | inr has ↦ (let w = value_of (j.sections.held s) (λ v. IsSealed seal (shown v) (d (key_of j.sections s))) has in
          subst (λ (v : PageBlob S gs). IsSealed seal (shown v) (d (key_of j.sections s))) (some_same w.value u.value (sym w.is ∙ u.is)) w.has)
    ] in
    whole_read seal (shown u.value) (bytes_of (shown u.value) (d (key_of j.sections s)).content) (d (key_of j.sections s)) sealed.holds (at u.value * size) size k u.has
