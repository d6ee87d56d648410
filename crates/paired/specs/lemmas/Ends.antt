-- Sections that are cut: to how many records each, and what of them is given.
use Rattle.std.proofs.Common.{◌≡◌, ℕ, ◌^◌, ◌<◌, ◌≤◌, List, length, map, take, Option, None, Some}
use Rattle.blob_device.specs.Disk.{Disk}
use Rattle.blob_device.specs.Opened.{OpenedList}
use Rattle.sealed_pages.specs.declared.page_blob.PageBlob.{PageBlob}
use Rattle.sealed_pages.specs.declared.write_blob.WriteBlob.{WriteBlob}
use Rattle.section_manager.specs.declared.buffer.SectionBuffer as buffer
use Rattle.section_manager.specs.declared.unsealed.WriteFactory.{WriteFactory}
use Rattle.section_manager.specs.Sections.{Sections}
use Rattle.section_manager.specs.Setting.{Setting}
use Rattle.segments.specs.FixedLists.{Lists}
use Rattle.segments.specs.FixedLists as fixed
use Rattle.value_codec.specs.declared.key.Key8.{Key8}
use Rattle.meta_store.specs.Store.{Store}
use Rattle.paired.specs.Kept.{Layout, marker_of, content_at, stored_records, is_sound_in, kept}
use Rattle.paired.specs.Opening.{as_read, Relation, IsOrder}
use Rattle.paired.specs.Pair.{AreApart}
use Rattle.paired.specs.Records.{records, unbroken_prefix, entry_of}
use Rattle.paired.specs.lemmas.reconcile.Resting.{Resting}

-- The journal j has the sections i0, of which some have an end: a number of records, no fewer than its marker counts, and fewer than it has. What is
-- kept of the records that a cut there leaves stands so to what is kept of all. Given are those before the end, or all.
pub record Ends {F S : Type 0} {gs : _} (g : buffer.Ghosts (PageBlob S gs)) (gives : F → Setting) (takes : WriteFactory → Setting) (told : Type 0) (Rel : Relation) (l : Layout) (i0 : Sections F (PageBlob S gs)) (m0 : Sections WriteFactory WriteBlob) (u : Store Key8 ℕ)
    (ends : ℕ → Option ℕ) (given : ℕ → List (List ℕ)) (j : Lists F (PageBlob S gs)) (o : OpenedList) (d : Disk) : Type 0 where
  pub order : IsOrder Rel
  pub begins : j.sections ≡ i0
  pub rests : Resting g gives takes told l j m0 u o d
  pub apart : AreApart l
  pub from : (s p : ℕ) → ends s ≡ Some p → (s < 2 ^ 64) × (marker_of u.entries s ≤ p)
  pub within : told → (s p : ℕ) → ends s ≡ Some p → p < length (records l.record_size (fixed.section_bytes j.sections d s))
  pub gives_all : told → (s : ℕ) → ends s ≡ None → given s ≡ records l.record_size (fixed.section_bytes j.sections d s)
  pub gives_to : told → (s p : ℕ) → ends s ≡ Some p → given s ≡ take p (records l.record_size (fixed.section_bytes j.sections d s))
  pub prefixes : told → (s p : ℕ) → s < 2 ^ 64 → ends s ≡ Some p → (k : ℕ) → p ≤ k → k ≤ length (stored_records l (as_read d) s)
      → Rel s (map (entry_of l.place (content_at (as_read d) l.values s)) (unbroken_prefix (is_sound_in l (as_read d) s) (marker_of u.entries s) 0 (take k (stored_records l (as_read d) s)))) (kept l (as_read d) (marker_of u.entries s) s)
