-- What the plain machine replies about keys is a step of the state that its list stands for.
use Rattle.std.proofs.Common.{◌≡◌, ◌↔◌, ◌⊎◌, inl, inr, refl, sym, ◌∙◌, ap, subst, ℕ, Bool, true, false, ◌==◌, cond, List, [], ◌∷◌, map, filter, find, nat_eq, Option, None, Some, Contains, IsTrue, arith}
use Rattle.std.specs.Bool.{Decides}
use Rattle.std.specs.Cmp.Lexicographic.{pointwise}
use Rattle.std.specs.Option.{MatchOption, is_some, option_map}
use Rattle.std.proofs.lemmas.Bool.{eq-eqb, false≢true}
use Rattle.std.proofs.lemmas.Bool.Decides.{Decides-eqb}
use Rattle.std.proofs.lemmas.List.Elements.{Contains-append_left, Contains-append_right, Contains-push}
use Rattle.std.proofs.lemmas.Slice.Eq.{slice_eq-Decides}
use Rattle.archives.specs.Commands.{GetKey, HasKey}
use Rattle.archives.specs.Machine.{ContainsKey, Entry, HasEntry, OpenStep, State, replied, section_of}
use Rattle.archives.specs.plain.Machine.{entry_of, first_under, state_with}
use Rattle.archives.specs.Replies as reply
use Rattle.archives.specs.declared.commands.Reply.TheVariants as answer
use Rattle.archives.specs.declared.plain.Item.{Item}
use Rattle.archives.proofs.Sets.{first_or_rest}

module _ {K X : Type 0} (key_bytes : K → List ℕ) (n floor : ℕ) (is_open : Bool) where
  -- a record stands in its section's list
  in_first : (r : Item K X) (all : List (Item K X)) → Contains ((state_with key_bytes n floor is_open (r ∷ all)).lists (section_of n r.index)) (entry_of key_bytes r)
  in_first r all =
      let s : ℕ = section_of n r.index in
      let rest : List (Item K X) = filter (λ q. s == section_of n q.index) all in
      subst (λ t. Contains (map (entry_of key_bytes) (cond t (r ∷ rest) rest)) (entry_of key_bytes r)) (sym (eq-eqb s s refl))
      (Contains-append_left (entry_of key_bytes r ∷ []) (map (entry_of key_bytes) rest) (entry_of key_bytes r) (Contains-push [] (entry_of key_bytes r)))

  -- what stands behind a record in the list stands in its section's list
  in_rest : (r : Item K X) (all : List (Item K X)) (s : ℕ) (e : Entry X) → Contains ((state_with key_bytes n floor is_open all).lists s) e → Contains ((state_with key_bytes n floor is_open (r ∷ all)).lists s) e
  in_rest r all s e is =
      let rest : List (Item K X) = filter (λ q. s == section_of n q.index) all in
      elim (s == section_of n r.index) as (λ t. Contains (map (entry_of key_bytes) (cond t (r ∷ rest) rest)) e) [
        | true ↦ Contains-append_right (entry_of key_bytes r ∷ []) (map (entry_of key_bytes) rest) e is
        | false ↦ is
      ]

  -- and nothing else does
  in_either : (r : Item K X) (all : List (Item K X)) (s : ℕ) (e : Entry X) → Contains ((state_with key_bytes n floor is_open (r ∷ all)).lists s) e → (e ≡ entry_of key_bytes r) ⊎ Contains ((state_with key_bytes n floor is_open all).lists s) e
  in_either r all s e is =
      let rest : List (Item K X) = filter (λ q. s == section_of n q.index) all in
      elim (s == section_of n r.index) as (λ t. Contains (map (entry_of key_bytes) (cond t (r ∷ rest) rest)) e → (e ≡ entry_of key_bytes r) ⊎ Contains (map (entry_of key_bytes) rest) e) [
        | true ↦ λ h. first_or_rest (entry_of key_bytes r) (map (entry_of key_bytes) rest) e h
        | false ↦ λ h. inr h
      ] is

  -- Where a test of keys passes those with some bytes alone, what it finds first stands under these, and where it finds nothing, nothing does.
  pub first_is_under : (is_it : K → Bool) (key : List ℕ) → ((k : K) → Decides (is_it k) (key_bytes k ≡ key))
      → (all : List (Item K X)) → MatchOption (first_under is_it all) (¬ ContainsKey (state_with key_bytes n floor is_open all) key) (HasEntry (state_with key_bytes n floor is_open all) key)
  first_is_under is_it key decides [] = λ (value, (s, q, is, same, at)). absurd (omega (arith, is.1))
  first_is_under is_it key decides (r ∷ all) =
      elim (is_it r.key) as (λ t. is_it r.key ≡ t → MatchOption (option_map (λ (q : Item K X). q.value) (cond t (Some r) (find (λ q. is_it q.key) all))) (¬ ContainsKey (state_with key_bytes n floor is_open (r ∷ all)) key) (HasEntry (state_with key_bytes n floor is_open (r ∷ all)) key)) [
        | true ↦ λ e. (section_of n r.index, entry_of key_bytes r, in_first r all, (decides r.key).0 e, refl)
        | false ↦ λ e. behind e (first_under is_it all) (first_is_under is_it key decides all)
      ] refl
    where
      behind : is_it r.key ≡ false → (found : Option X)
          → MatchOption found (¬ ContainsKey (state_with key_bytes n floor is_open all) key) (HasEntry (state_with key_bytes n floor is_open all) key)
          → MatchOption found (¬ ContainsKey (state_with key_bytes n floor is_open (r ∷ all)) key) (HasEntry (state_with key_bytes n floor is_open (r ∷ all)) key)
      behind e (Some value) (s, q, is, same, at) = (s, q, in_rest r all s q is, same, at)
      behind e None none = λ (value, (s, q, is, same, at)). elim (in_either r all s q is) as (λ _. ⊥) [
        | inl first ↦ false≢true (sym e ∙ (decides r.key).1 (ap (λ (t : Entry X). t.key) (sym first) ∙ same))
        | inr rest ↦ none (value, (s, q, rest, same, at))
      ]

  -- ---- the replies

  module _ (eq : K → K → Bool) (by_bytes : (k j : K) → eq k j ≡ pointwise nat_eq (key_bytes k) (key_bytes j)) where
    first_is_under_key : (key : K) (all : List (Item K X))
        → MatchOption (first_under (λ k. eq k key) all) (¬ ContainsKey (state_with key_bytes n floor is_open all) (key_bytes key)) (HasEntry (state_with key_bytes n floor is_open all) (key_bytes key))
    first_is_under_key key all = first_is_under (λ k. eq k key) (key_bytes key) (λ k. slice_eq-Decides Decides-eqb (key_bytes k) (key_bytes key) (eq k key) (by_bytes k key)) all

    pub get_key_steps : (key : K) (all : List (Item K X)) (value : Option X) → value ≡ first_under (λ k. eq k key) all
        → OpenStep n (state_with key_bytes n floor is_open all) (GetKey (key_bytes key)) (replied (λ v. v) (answer.Value value)) (state_with key_bytes n floor is_open all)
    get_key_steps key all value found = by_value value (subst (λ o. MatchOption o (¬ ContainsKey st (key_bytes key)) (HasEntry st (key_bytes key))) (sym found) (first_is_under_key key all))
      where
        st : State X
        st = state_with key_bytes n floor is_open all

        by_value : (o : Option X) → MatchOption o (¬ ContainsKey st (key_bytes key)) (HasEntry st (key_bytes key)) → OpenStep n st (GetKey (key_bytes key)) (replied (λ v. v) (answer.Value o)) st
        by_value None none = (none, refl)
        by_value (Some v) has = (has, refl)

    pub has_key_steps : (key : K) (all : List (Item K X)) (holds : Bool) → holds ≡ is_some (first_under (λ k. eq k key) all)
        → OpenStep n (state_with key_bytes n floor is_open all) (HasKey (key_bytes key)) (reply.Flag holds) (state_with key_bytes n floor is_open all)
    has_key_steps key all holds some = (subst (λ b. IsTrue b ↔ ContainsKey st (key_bytes key)) (sym some) (by_value (first_under (λ k. eq k key) all) (first_is_under_key key all)), refl)
      where
        st : State X
        st = state_with key_bytes n floor is_open all

        by_value : (o : Option X) → MatchOption o (¬ ContainsKey st (key_bytes key)) (HasEntry st (key_bytes key)) → IsTrue (is_some o) ↔ ContainsKey st (key_bytes key)
        by_value None none = (λ h. absurd (false≢true h), λ has. absurd (none has))
        by_value (Some v) has = (λ h. (v, has), λ h. refl)
