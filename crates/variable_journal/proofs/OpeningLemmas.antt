-- A journal of bytes that was opened is one of frames: each section with bytes owes a replay.
use Rattle.std.proofs.Common.{◌≡◌, ◌∙◌, inl, inr, ℕ, ◌<◌, ◌-◌, ◌^◌, List, [], ◌∷◌, false, true, length, Option, None, Some, Result, Ok, Err, IfOk, refl, ap, subst, arith}
use Rattle.std.proofs.lemmas.Bool.{cases_lt}
use Rattle.blob_device.specs.Disk.{Disk}
use Rattle.blob_device.specs.Timeline.{disk}
use Rattle.blob_device.specs.declared.device.Device as device
use Rattle.sealed_pages.specs.declared.page_blob.PageBlob.{PageBlob}
use Rattle.sealed_pages.specs.declared.pages.Pages.{Pages}
use Rattle.sealed_pages.specs.Shown.{shown}
use Rattle.sealed_pages.specs.lemmas.memory.Holding.{bytes_length}
use Rattle.variable_journal.specs.lemmas.Frame.{rest_none}
use Rattle.section_manager.specs.Sections.{key_of}
use Rattle.section_manager.specs.Setting.{Setting}
use Rattle.section_manager.specs.declared.buffer.SectionBuffer as buffer
use Rattle.section_manager.specs.declared.journal.Error.{Error}
use Rattle.section_manager.specs.declared.sealed.AppendFactory.{AppendFactory}
use Rattle.segments.specs.FixedLists.{Lists, bytes_held, section_bytes, section_size, size_held}
use Rattle.segments.specs.FixedOpens as bytes
use Rattle.variable_journal.specs.Frames.{rest_of}
use Rattle.variable_journal.specs.Opening.{Opens}

pub section_length : {F S : Type 0} {gs : _} (j : Lists F (PageBlob S gs)) (d : Disk) (s : ℕ) → length (section_bytes j.sections d s) ≡ section_size j.sections s
section_length {S = S} {gs = gs} j d s = go (j.sections.held s)
  where
    go : (o : Option (PageBlob S gs)) → length (bytes_held o (d (key_of j.sections s)).content) ≡ size_held o
    go None = refl
    go (Some u) = bytes_length (shown u) (d (key_of j.sections s)).content

no_bytes : (xs : List ℕ) → length xs ≡ 0 → xs ≡ []
no_bytes [] none = refl
no_bytes (x ∷ xs) none = absurd (omega (arith, none))

module _ {S C D : Type 0} {gs : _} (g : buffer.Ghosts (PageBlob S gs)) (gives : AppendFactory S → Setting) (seal : List ℕ → ℕ) (dev : device.Ghosts D) (old new : D) (cfg : C) (kept : Result C Error) where
  -- it was opened as this configuration says
  pub opens_of : (place other : List ℕ) (paged held : Pages) (capacity most : ℕ) (result : Result (Lists (AppendFactory S) (PageBlob S gs)) Error)
      → IfOk kept (λ c. c ≡ cfg) → other ≡ place → held ≡ paged → most ≡ capacity
      → bytes.Opens g gives seal 1 other held most (2 ^ 64 - 1) dev result old new → Opens g gives seal place paged capacity dev result cfg kept old new
  opens_of place other paged held capacity most result config same_place same_pages same_capacity b = go result
      (subst (λ (p : List ℕ). bytes.Opens g gives seal 1 p paged capacity (2 ^ 64 - 1) dev result old new) same_place
      (subst (λ (p : Pages). bytes.Opens g gives seal 1 other p capacity (2 ^ 64 - 1) dev result old new) same_pages
      (subst (λ (n : ℕ). bytes.Opens g gives seal 1 other held n (2 ^ 64 - 1) dev result old new) same_capacity b)))
    where
      empty : (k : Lists (AppendFactory S) (PageBlob S gs)) (s : ℕ) → (0 < section_size k.sections s → k.unrecovered s ≡ true) → k.unrecovered s ≡ false → section_size k.sections s ≡ 0
      empty k s owes free = elim (cases_lt 0 (section_size k.sections s)) [
        | inl some ↦ absurd (let owed = owes some in cc (free, owed))
        | inr none ↦ omega (arith, none)
      ]

      go : (r : Result (Lists (AppendFactory S) (PageBlob S gs)) Error) → bytes.Opens g gives seal 1 place paged capacity (2 ^ 64 - 1) dev r old new → Opens g gives seal place paged capacity dev r cfg kept old new
      go (Err e) is = record { bytes = is; over = tt; config = config }
      go (Ok k) is = record {
        bytes = is;
        config = config;
        over = record {
          bytes = is.over;
          free = is.floors;
          framed = λ t s free. ap rest_of (no_bytes (section_bytes k.sections (disk (dev.time new)) s) (section_length k (disk (dev.time new)) s ∙ empty k s (is.unrecovered s).1 free)) ∙ rest_none;
        };
      }
