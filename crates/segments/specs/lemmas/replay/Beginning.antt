-- Which sections a replay gives from their first item on, and that those are sealed when it has finished.
use Rattle.std.specs.Prelude.{◌≡◌, ◌⊎◌, ℕ, ◌%◌, ◌<◌, ◌≤◌, eqb, cond, Bool, true, false, List, Some}
use Rattle.std.proofs.Common.{inl, inr, refl, sym, ◌∙◌, subst, arith}
use Rattle.std.proofs.lemmas.Bool.{cases_lt, cases_order}
use Rattle.std.proofs.lemmas.Bool.Decides.{nat_tests}
use Rattle.blob_device.specs.Disk.{Key, Disk}
use Rattle.sealed_pages.specs.declared.page_blob.PageBlob.{PageBlob}
use Rattle.sealed_pages.specs.Shown.{shown}
use Rattle.sealed_pages.specs.Buffer.{size_of, IsSealed}
use Rattle.section_manager.specs.Sections.{key_of}
use Rattle.segments.specs.FixedLists.{Lists, IsProven, AreSealed}
use Rattle.segments.specs.FixedReplay.{Walk, IsDrained, WalksOver, first_of}
use Rattle.segments.specs.lemmas.adding.Write.{proven_back}
use Rattle.blob_device.proofs.general.Options.{none_in, some_there}

test_is : (m n : ℕ) → eqb m n ≡ true → m ≡ n
test_is m n is = grind (arith, nat_tests)

module _ {F B : Type 0} (w : Walk F B) (s : ℕ) where
  -- the replay gave no item of the section, or began within it
  abbrev pub IsBefore : Type 0
  IsBefore = (s < w.start_section) ⊎ ((0 < w.start_position) × (w.start_section ≡ s))

  -- it gave its items from the first on
  abbrev pub IsFromFirst : Type 0
  IsFromFirst = (w.start_section < s) ⊎ ((w.start_position ≡ 0) × (w.start_section ≡ s))

  before_or_first : IsBefore ⊎ IsFromFirst
  before_or_first = elim (cases_order s w.start_section) [
    | inl at ↦ elim (cases_lt 0 w.start_position) [
      | inl some ↦ inl (inr (some, sym at))
      | inr none ↦ inr (inr (omega (arith, none), sym at))
    ]
    | inr (inl before) ↦ inl (inl before)
    | inr (inr behind) ↦ inr (inl behind)
  ]

  first_none : IsFromFirst → first_of w s ≡ 0
  first_none from = go (eqb s w.start_section) refl
    where
      go : (b : Bool) → eqb s w.start_section ≡ b → cond b w.start_position 0 ≡ 0
      go false is = refl
      go true is = elim from [ inl behind ↦ absurd (omega (arith, behind, test_is s w.start_section is)) | inr at ↦ at.0 ]

  first_begun : IsFromFirst → w.start_section ≤ s
  first_begun from = elim from [ inl behind ↦ omega (arith, behind) | inr at ↦ omega (arith, at.1) ]

-- a replay that was drained, where it has not failed, has read the sections whole that owe no replay and have no floor any more
pub finished_sealed : {F S : Type 0} {gs : _} (seal : List ℕ → ℕ) (size : ℕ) (w : Walk F (PageBlob S gs)) (j : Lists F (PageBlob S gs)) (d : Disk) → WalksOver seal size w d → w.failed ≡ false → IsDrained w
    → j.sections ≡ w.journal.sections → ((s : ℕ) → IsBefore w s → j.unrecovered s ≡ w.journal.unrecovered s) → ((s : ℕ) → IsBefore w s → j.floor_of s ≡ w.journal.floor_of s) → AreSealed seal size j d
finished_sealed {S = S} {gs = gs} seal size w j d over fine drained same kept floors = record { sealed = sealed; whole = whole }
  where
    was : (s : ℕ) (u : PageBlob S gs) → j.sections.held s ≡ Some u → w.journal.sections.held s ≡ Some u
    was s u held = (λ i. (sym same i).held s) ∙ held

    gone : (s : ℕ) (u : PageBlob S gs) → w.journal.sections.held s ≡ Some u → IsFromFirst w s → IsSealed seal (shown u) (d (key_of w.journal.sections s)) × (size_of (shown u) % size ≡ 0)
    gone s u held from = over.gone_over fine s u held (record {
      begun = first_begun w s from;
      not_ahead = λ ahead. drained.last s (some_there (w.journal.sections.held s) u held) ahead;
      not_in = λ there. none_in w.place (λ r. r.section ≡ s) drained.between there;
    }) (inr (first_none w s from))

    sealed : (s : ℕ) (u : PageBlob S gs) → j.sections.held s ≡ Some u → IsProven j s → IsSealed seal (shown u) (d (key_of j.sections s))
    sealed s u held proven = subst (λ (k : Key). IsSealed seal (shown u) (d k)) (λ i. key_of (sym same i) s) (elim (before_or_first w s) [
      | inl before ↦ over.sealed.sealed s u (was s u held) (proven_back w.journal j s (kept s before) (floors s before) proven)
      | inr from ↦ (gone s u (was s u held) from).0
    ])

    whole : (s : ℕ) (u : PageBlob S gs) → j.sections.held s ≡ Some u → j.unrecovered s ≡ false → size_of (shown u) % size ≡ 0
    whole s u held free = elim (before_or_first w s) [
      | inl before ↦ over.sealed.whole s u (was s u held) (sym (kept s before) ∙ free)
      | inr from ↦ (gone s u (was s u held) from).1
    ]
