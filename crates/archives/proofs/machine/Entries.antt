-- The records at an index of the plain machine: those of its list are those of the state, so what the machine tells of them is a step.
use Rattle.std.proofs.Common.{◌≡◌, ◌↔◌, inl, inr, refl, sym, ◌∙◌, ap, subst, ℕ, suc, ◌+◌, ◌<◌, Bool, true, false, ◌==◌, ◌&&◌, ◌||◌, cond, List, [], ◌∷◌, ◌++◌, map, filter, length, take, get_or, None, Some, Contains, IsTrue, arith}
use Rattle.std.specs.Bool.{Decides}
use Rattle.std.specs.Cmp.Lexicographic.{pointwise}
use Rattle.std.specs.List.{list_any}
use Rattle.std.specs.Prelude.{nat_eq}
use Rattle.std.proofs.lemmas.Bool.{false≢true}
use Rattle.std.proofs.lemmas.Bool.Decides.{Decides-eqb}
use Rattle.std.proofs.lemmas.List.{map-id, take_more}
use Rattle.std.proofs.lemmas.Slice.Eq.{slice_eq-Decides}
use Rattle.archives.specs.Machine.{ContainsAt, Entry, all_values, entries_at, section_of}
use Rattle.archives.specs.plain.Machine.{entry_of, state_with}
use Rattle.archives.specs.declared.plain.Item.{Item}
use Rattle.archives.proofs.machine.Lemmas.{apart}
use Rattle.archives.proofs.Sets.{first_or_rest}

-- the records with the index, and their values
abbrev pub at_index : {K V : Type 0} → ℕ → List (Item K V) → List (Item K V)
at_index index all = filter (λ r. r.index == index) all

abbrev pub values_at : {K V : Type 0} → ℕ → List (Item K V) → List V
values_at index all = map (λ r. r.value) (at_index index all)

-- a record more with the index has its value more, and another none
pub values_more : {K X : Type 0} (index : ℕ) (all : List (Item K X)) (r : Item K X) (b : Bool) → (r.index == index) ≡ b → values_at index (all ++ r ∷ []) ≡ values_at index all ++ cond b (r.value ∷ []) []
values_more {K} {X} index [] r b is = ap (λ c. map (λ (q : Item K X). q.value) (cond c (r ∷ []) [])) is ∙ both b
  where
    both : (c : Bool) → map (λ (q : Item K X). q.value) (cond c (r ∷ []) []) ≡ cond c (r.value ∷ []) []
    both true = refl
    both false = refl
values_more {K} {X} index (q ∷ all) r b is = elim (q.index == index) as (λ t. map (λ (x : Item K X). x.value) (cond t (q ∷ at_index index (all ++ r ∷ [])) (at_index index (all ++ r ∷ [])))
    ≡ map (λ (x : Item K X). x.value) (cond t (q ∷ at_index index all) (at_index index all)) ++ cond b (r.value ∷ []) []) [
      | true ↦ ap (λ xs. q.value ∷ xs) (values_more index all r b is)
      | false ↦ values_more index all r b is
    ]

-- a pass over one record more
pub values_pass : {K X : Type 0} (index at : ℕ) (all : List (Item K X)) (r : Item K X) (b : Bool) (values new : List X) → at < length all → r ≡ get_or all at r → values ≡ values_at index (take at all)
    → (r.index == index) ≡ b → new ≡ values ++ cond b (r.value ∷ []) [] → new ≡ values_at index (take (at + 1) all)
values_pass {K} {X} index at all r b values new within this are is grown =
    let wider : take at all ++ r ∷ [] ≡ take (at + 1) all = ap (λ (q : Item K X). take at all ++ q ∷ []) this ∙ sym (take_more all at r within) in
    grown ∙ ap (λ (vs : List X). vs ++ cond b (r.value ∷ []) []) are ∙ sym (values_more index (take at all) r b is) ∙ ap (values_at index) wider

no_length : {X : Type 0} (xs : List X) → length xs ≡ 0 → xs ≡ []
no_length [] none = refl
no_length (x ∷ xs) none = absurd (omega (arith, none))

module _ {K X : Type 0} (key_bytes : K → List ℕ) (n floor : ℕ) (is_open : Bool) (index : ℕ) where
  -- the records of the state at an index are those of the list
  pub entries_here : (all : List (Item K X)) → entries_at n (state_with key_bytes n floor is_open all) index ≡ map (entry_of key_bytes) (at_index index all)
  entries_here [] = refl
  entries_here (r ∷ all) =
      elim (section_of n index == section_of n r.index) as (λ t. (section_of n index == section_of n r.index) ≡ t →
      filter (λ q. q.index == index) (map (entry_of key_bytes) (cond t (r ∷ filter (λ q. section_of n index == section_of n q.index) all) (filter (λ q. section_of n index == section_of n q.index) all)))
      ≡ map (entry_of key_bytes) (cond (r.index == index) (r ∷ at_index index all) (at_index index all))) [
        | true ↦ λ e. here (r.index == index) (entries_here all)
        | false ↦ λ e. entries_here all ∙ ap (λ b. map (entry_of key_bytes) (cond b (r ∷ at_index index all) (at_index index all))) (sym (apart n index r.index e))
      ] refl
    where
      here : (b : Bool) → entries_at n (state_with key_bytes n floor is_open all) index ≡ map (entry_of key_bytes) (at_index index all)
          → cond b (entry_of key_bytes r ∷ entries_at n (state_with key_bytes n floor is_open all) index) (entries_at n (state_with key_bytes n floor is_open all) index)
          ≡ map (entry_of key_bytes) (cond b (r ∷ at_index index all) (at_index index all))
      here true behind = ap (λ xs. entry_of key_bytes r ∷ xs) behind
      here false behind = behind

  -- ---- all values at an index

  values_of : (all : List (Item K X)) → map (λ (e : Entry X). e.value) (map (entry_of key_bytes) all) ≡ map (λ r. r.value) all
  values_of [] = refl
  values_of (r ∷ all) = ap (λ xs. r.value ∷ xs) (values_of all)

  no_values : (es : List (Entry X)) → map (λ e. e.value) es ≡ [] → None ≡ all_values es
  no_values [] none = refl
  no_values (e ∷ es) none = absurd (cc none)

  some_values : (es : List (Entry X)) → (map (λ e. e.value) es ≡ [] → ⊥) → Some (map (λ e. e.value) es) ≡ all_values es
  some_values [] some = absurd (some refl)
  some_values (e ∷ es) some = refl

  -- there are none, or these
  pub tells_none : (all : List (Item K X)) (values : List X) → values ≡ values_at index all → length values ≡ 0 → None ≡ all_values (entries_at n (state_with key_bytes n floor is_open all) index)
  tells_none all values are none =
      no_values (map (entry_of key_bytes) (at_index index all)) (values_of (at_index index all) ∙ sym are ∙ no_length values none) ∙ ap all_values (sym (entries_here all))

  pub tells_all : (all : List (Item K X)) (values : List X) → values ≡ values_at index all → (length values ≡ 0 → ⊥) → Some (map (λ v. v) values) ≡ all_values (entries_at n (state_with key_bytes n floor is_open all) index)
  tells_all all values are some =
      let es : List (Entry X) = map (entry_of key_bytes) (at_index index all) in
      let same : map (λ (e : Entry X). e.value) es ≡ values = values_of (at_index index all) ∙ sym are in
      ap Some (map-id values ∙ sym same) ∙ some_values es (λ none. some (ap length (sym same ∙ none))) ∙ ap all_values (sym (entries_here all))

  -- ---- whether one record has both an index and a key

  abbrev HasBoth : List ℕ → List (Entry X) → Type 0
  HasBoth key es = (r : Entry X) × Contains es r × (r.key ≡ key)

  has_both : (is_it : K → Bool) (key : List ℕ) → ((k : K) → Decides (is_it k) (key_bytes k ≡ key)) → (all : List (Item K X))
      → IsTrue (list_any (λ r. (r.index == index) && is_it r.key) all) ↔ HasBoth key (map (entry_of key_bytes) (at_index index all))
  has_both is_it key decides [] = (λ is. absurd (false≢true is), λ has. absurd (omega (arith, has.1.1)))
  has_both is_it key decides (r ∷ all) =
      elim (r.index == index) as (λ t. IsTrue ((t && is_it r.key) || behind) ↔ HasBoth key (map (entry_of key_bytes) (cond t (r ∷ at_index index all) (at_index index all)))) [
        | true ↦ elim (is_it r.key) as (λ u. is_it r.key ≡ u → IsTrue (u || behind) ↔ HasBoth key (entry_of key_bytes r ∷ rest)) [
          | true ↦ λ e. (λ is. (entry_of key_bytes r, (0, omega arith, refl), (decides r.key).0 e), λ has. refl)
          | false ↦ λ e. (λ is. further ((has_both is_it key decides all).0 is), λ has. (has_both is_it key decides all).1 (other e has))
        ] refl
        | false ↦ has_both is_it key decides all
      ]
    where
      rest : List (Entry X)
      rest = map (entry_of key_bytes) (at_index index all)

      behind : Bool
      behind = list_any (λ q. (q.index == index) && is_it q.key) all

      further : HasBoth key rest → HasBoth key (entry_of key_bytes r ∷ rest)
      further (q, (k, within, at), same) = (q, (suc k, omega arith, at), same)

      other : is_it r.key ≡ false → HasBoth key (entry_of key_bytes r ∷ rest) → HasBoth key rest
      other e (q, is, same) = elim (first_or_rest (entry_of key_bytes r) rest q is) as (λ _. HasBoth key rest) [
        | inl first ↦ absurd (false≢true (sym e ∙ (decides r.key).1 (ap (λ (t : Entry X). t.key) (sym first) ∙ same)))
        | inr there ↦ (q, there, same)
      ]

  pub has_at_key : (eq : K → K → Bool) (by_bytes : (k j : K) → eq k j ≡ pointwise nat_eq (key_bytes k) (key_bytes j)) (key : K) (all : List (Item K X)) (b : Bool)
      → b ≡ list_any (λ r. (r.index == index) && eq r.key key) all → IsTrue b ↔ ContainsAt n (state_with key_bytes n floor is_open all) index (key_bytes key)
  has_at_key eq by_bytes key all b is =
      subst (λ (t : Bool). IsTrue t ↔ ContainsAt n (state_with key_bytes n floor is_open all) index (key_bytes key)) (sym is)
      (subst (λ (es : List (Entry X)). IsTrue (list_any (λ r. (r.index == index) && eq r.key key) all) ↔ HasBoth (key_bytes key) es) (sym (entries_here all))
      (has_both (λ k. eq k key) (key_bytes key) (λ k. slice_eq-Decides Decides-eqb (key_bytes k) (key_bytes key) (eq k key) (by_bytes k key)) all))
