-- Holding the records that a replay gives.
use Rattle.std.specs.Prelude.{◌≡◌, ◌≢◌, ℕ, ◌+◌, false, true, List, [], ◌∷◌, ◌++◌, length, Option, None, Some, unwrap_or, is_some, Result, Ok, Err, OnOk, OnErr}
use Rattle.std.specs.List.{AllByRecursion}
use Rattle.std.specs.Result.{IsErrOf}
use Rattle.std.proofs.Common.{inr, ⊎_elim, refl, sym, ap, ◌∙◌, subst, arith}
use Rattle.std.proofs.lemmas.Bool.{cases_eq}
use Rattle.section_manager.specs.declared.journal.Error.{Error}
use Rattle.section_manager.specs.declared.journal.Error.TheVariants.{Mem}
use Rattle.variable_journal.specs.Frames.{frames}
use Rattle.cache_store.specs.Filing.{offset_in}
use Rattle.cache_store.specs.Entering.{Enters}
use Rattle.cache_store.specs.Holding.{IsTied, marked, noted, offsets_of}
use Rattle.cache_store.specs.Machine.{section_of}
use Rattle.cache_store.specs.Records.{entry_of}
use Rattle.cache_store.specs.declared.held.Held.{Held}
use Rattle.cache_store.proofs.LawfulLemmas.{all_more}
use Rattle.cache_store.proofs.OffsetLemmas.{first_of, offset_here, offset_more, offset_other, no_second}
use Rattle.cache_store.proofs.ProgressLemmas.{taken_next}
use Rattle.cache_store.proofs.StateLemmas.{chosen, passed}

-- the offset that is noted of an index, beside what is noted
mark_more : (o : ℕ) (was : Option ℕ) → Some (unwrap_or was o) ≡ first_of was (Some o)
mark_more o None = refl
mark_more o (Some at) = refl

-- of an index that is held what is noted stays
pub marked_held : (index o : ℕ) (offsets : ℕ → Option ℕ) → is_some (offsets index) ≡ true → (i : ℕ) → offsets i ≡ marked index o offsets i
marked_held index o offsets has i = ⊎_elim
    (λ (same : i ≡ index). there (offsets i) (ap (λ (n : ℕ). is_some (offsets n)) same ∙ has) ∙ sym (chosen i index (Some (unwrap_or (offsets i) o)) (offsets i) same))
    (λ other. sym (passed i index (Some (unwrap_or (offsets i) o)) (offsets i) other))
    (cases_eq i index)
  where
    there : (x : Option ℕ) → is_some x ≡ true → x ≡ Some (unwrap_or x o)
    there None is = absurd (cc is)
    there (Some at) is = refl

-- one that is not is noted
pub marked_new : (index o : ℕ) (offsets : ℕ → Option ℕ) → is_some (offsets index) ≡ false → (i : ℕ) → noted index o offsets i ≡ marked index o offsets i
marked_new index o offsets none i = ⊎_elim
    (λ (same : i ≡ index). chosen i index (Some o) (offsets i) same ∙ there (offsets i) (ap (λ (n : ℕ). is_some (offsets n)) same ∙ none)
    ∙ sym (chosen i index (Some (unwrap_or (offsets i) o)) (offsets i) same))
    (λ other. passed i index (Some o) (offsets i) other ∙ sym (passed i index (Some (unwrap_or (offsets i) o)) (offsets i) other))
    (cases_eq i index)
  where
    there : (x : Option ℕ) → is_some x ≡ false → Some o ≡ Some (unwrap_or x o)
    there None is = refl
    there (Some at) is = absurd (cc is)

-- what an insert made, where the index was not held
pub enters_inserted : (items section offset index : ℕ) (old new : Held) (r : Result (Unit {0}) Error) → section_of items index ≡ section → is_some (offsets_of old index) ≡ false
    → OnOk r (IsTied new) → OnOk r ((i : ℕ) → offsets_of new i ≡ noted index offset (offsets_of old) i) → OnErr r (IsErrOf r Mem) → Enters items section offset index old new r
enters_inserted items section offset index old new (Ok done) own none tied held cause = record { own = own; tied = tied; held = λ i. held i ∙ marked_new index offset (offsets_of old) none i }
enters_inserted items section offset index old new (Err e) own none tied held cause = inr (cc cause)

-- Of the sections these items were entered.
module _ (items : ℕ) where
  pub record HasListed (refuses : List ℕ → Type 0) (taken : ℕ → List (List ℕ)) (offsets : ℕ → Option ℕ) : Type 0 where
    pub listed : (i : ℕ) → offsets i ≡ offset_in i 0 (taken (section_of items i))
    pub decoded : (s : ℕ) → AllByRecursion refuses (taken s)
    pub in_section : (s : ℕ) → AllByRecursion (λ x. section_of items (entry_of x).index ≡ s) (taken s)

  -- one more is entered, of section s at o
  module _ (refuses : List ℕ → Type 0) (taken : ℕ → List (List ℕ)) (offsets now : ℕ → Option ℕ) (has : HasListed refuses taken offsets) (s o : ℕ) (item : List ℕ)
      (at : o ≡ length (frames (taken s))) (fine : refuses item) (own : section_of items (entry_of item).index ≡ s)
      (marks : (i : ℕ) → now i ≡ marked (entry_of item).index o offsets i) where
    here : (i : ℕ) → section_of items i ≡ s → offset_in i 0 (taken_next taken s item (section_of items i)) ≡ first_of (offsets i) (offset_in i o (item ∷ []))
    here i same =
        let place : 0 + length (frames (taken (section_of items i))) ≡ o = omega (arith, at, ap (λ (n : ℕ). length (frames (taken n))) same) in
        ap (offset_in i 0) (chosen (section_of items i) s (taken (section_of items i) ++ item ∷ []) (taken (section_of items i)) same)
        ∙ offset_more i 0 (taken (section_of items i)) item
        ∙ ap (λ (n : ℕ). first_of (offset_in i 0 (taken (section_of items i))) (offset_in i n (item ∷ []))) place
        ∙ ap (λ (x : Option ℕ). first_of x (offset_in i o (item ∷ []))) (sym (has.listed i))

    now_listed : (i : ℕ) → now i ≡ offset_in i 0 (taken_next taken s item (section_of items i))
    now_listed i = marks i ∙ ⊎_elim
        (λ (same : i ≡ (entry_of item).index). chosen i (entry_of item).index (Some (unwrap_or (offsets i) o)) (offsets i) same
        ∙ mark_more o (offsets i) ∙ ap (first_of (offsets i)) (sym (offset_here i o item (sym same)))
        ∙ sym (here i (ap (section_of items) same ∙ own)))
        (λ (apart : i ≢ (entry_of item).index). passed i (entry_of item).index (Some (unwrap_or (offsets i) o)) (offsets i) apart ∙ ⊎_elim
        (λ (inside : section_of items i ≡ s). sym (here i inside ∙ ap (first_of (offsets i)) (offset_other i o item (λ e. apart (sym e))) ∙ no_second (offsets i)))
        (λ outside. has.listed i ∙ sym (ap (offset_in i 0) (passed (section_of items i) s (taken (section_of items i) ++ item ∷ []) (taken (section_of items i)) outside)))
        (cases_eq (section_of items i) s))
        (cases_eq i (entry_of item).index)

    all_next : (P : ℕ → List ℕ → Type 0) → P s item → ((t : ℕ) → AllByRecursion (P t) (taken t)) → (t : ℕ) → AllByRecursion (P t) (taken_next taken s item t)
    all_next P last all t = ⊎_elim
        (λ (same : t ≡ s). subst (AllByRecursion (P t)) (sym (chosen t s (taken t ++ item ∷ []) (taken t) same))
        (all_more (P t) (taken t) item (all t) (subst (λ (n : ℕ). P n item) (sym same) last)))
        (λ other. subst (AllByRecursion (P t)) (sym (passed t s (taken t ++ item ∷ []) (taken t) other)) (all t))
        (cases_eq t s)

    pub listed_on : HasListed refuses (taken_next taken s item) now
    listed_on = record {
      listed = now_listed;
      decoded = all_next (λ t. refuses) fine has.decoded;
      in_section = all_next (λ t x. section_of items (entry_of x).index ≡ t) own has.in_section;
    }
