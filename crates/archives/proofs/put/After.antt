-- What a put that added a record made of the rows, of the bytes of values, and of what is not flushed.
use Rattle.std.proofs.Common.{◌≡◌, ◌≢◌, inl, inr, sym, ◌∙◌, ap, ℕ, ◌+◌, List, [], ◌∷◌, ◌++◌, Bool, true, false, ◌==◌, ◌&&◌, not, if◌then◌else◌, Option, ◌↔◌, ◌⊎◌, IsTrue, arith}
use Rattle.std.proofs.lemmas.Bool.Decides.{nat_tests}
use Rattle.sealed_pages.specs.declared.page_blob.PageBlob.{PageBlob}
use Rattle.sealed_pages.specs.declared.write_blob.WriteBlob.{WriteBlob}
use Rattle.section_manager.specs.Sections.{IsSame, Sections}
use Rattle.section_manager.specs.declared.unsealed.WriteFactory.{WriteFactory}
use Rattle.segments.specs.Tails.{tail_held}
use Rattle.paired.specs.glob.Sections as glob
use Rattle.paired.specs.Pair.{Pair}
use Rattle.archives.specs.Archives.{Archive}
use Rattle.archives.specs.Machine.{section_of}
use Rattle.archives.specs.Putting.{IsWrittenAfter, rows_after, size_after}
use Rattle.archives.specs.Rows.{Row}
use Rattle.archives.specs.lemmas.put.Rows.{other_or_same}

module _ {F S : Type 0} {gs : _} (a : Archive F (PageBlob S gs)) (index sec : ℕ) (here : sec ≡ section_of a.items index) (skip : Bool) (free : skip ≡ false) where
  -- whether a section is that of the record
  is_here : (s : ℕ) → s ≡ sec → (not skip && (s == section_of a.items index)) ≡ true
  is_here s same =
      let at : (s == section_of a.items index) ≡ true = grind (arith, nat_tests, same, here) in
      ap (λ (b : Bool). not b && (s == section_of a.items index)) free ∙ at

  is_other : (s : ℕ) → s ≢ sec → (not skip && (s == section_of a.items index)) ≡ false
  is_other s other =
      let at : (s == section_of a.items index) ≡ false = grind (arith, nat_tests, other, here) in
      ap (λ (b : Bool). not b && (s == section_of a.items index)) free ∙ at

  -- what one section has anew, and the others as before
  by_section : {X : Type 0} (old new grown : ℕ → X) → new sec ≡ grown sec → ((s : ℕ) → s ≢ sec → new s ≡ old s) → (s : ℕ)
      → new s ≡ (if not skip && (s == section_of a.items index) then grown s else old s)
  by_section {X} old new grown added others s = elim (other_or_same sec s) [
    | inl same ↦ ap new same ∙ added ∙ ap grown (sym same) ∙ ap (λ (b : Bool). if b then grown s else old s) (sym (is_here s same))
    | inr other ↦ others s other ∙ ap (λ (b : Bool). if b then grown s else old s) (sym (is_other s other))
  ]

  pub rows_put : (key : List ℕ) (rows : ℕ → List Row) → rows sec ≡ a.rows sec ++ record { index = index; key = key } ∷ [] → ((s : ℕ) → s ≢ sec → rows s ≡ a.rows s) → (s : ℕ) → rows s ≡ rows_after a index skip key s
  rows_put key rows = by_section a.rows rows (λ s. a.rows s ++ record { index = index; key = key } ∷ [])

  pub sizes_put : (n : ℕ) (values : Sections WriteFactory WriteBlob) → glob.section_size values sec ≡ glob.section_size a.pair.values sec + n
      → ((s : ℕ) → s ≢ sec → glob.section_size values s ≡ glob.section_size a.pair.values s) → (s : ℕ) → glob.section_size values s ≡ size_after a index skip n s
  sizes_put n values = by_section (glob.section_size a.pair.values) (glob.section_size values) (λ s. glob.section_size a.pair.values s + n)

  -- the section counts as written, and those that did
  pub written_put : (is_written : ℕ → Bool) (s : ℕ) → IsTrue (is_written s) ↔ (IsTrue (a.is_written s) ⊎ (s ≡ sec)) → IsTrue (is_written s) ↔ IsWrittenAfter a index skip s
  written_put is_written s says = (
    λ is. elim (says.0 is) [
      | inl was ↦ inl was
      | inr same ↦ inr (free, same ∙ here)
    ],
    λ after. says.1 (elim after [
      | inl was ↦ inl was
      | inr new ↦ inr (new.1 ∙ sym here)
    ]),
  )

  -- a section that is not the record's, where the put is not skipped
  pub not_here : (s : ℕ) → (s ≡ section_of a.items index → skip ≡ true) → s ≢ sec
  not_here s other same = (let taken = other (same ∙ here) in absurd (cc (taken, free)))

-- what is not flushed of a section that is held as before
pub tails_same : {F S : Type 0} {gs : _} (p q : Pair F (PageBlob S gs)) (s : ℕ) → IsSame p.index.sections q.index.sections s → IsSame p.values q.values s
    → (tail_held (q.index.sections.held s) ≡ tail_held (p.index.sections.held s))
    × (glob.pending_size q.values s ≡ glob.pending_size p.values s)
tails_same p q s index values =
    (ap (λ (o : Option (PageBlob _ _)). tail_held o) index.held, ap glob.pending_held values.held)
