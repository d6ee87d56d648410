-- The handles of words as one is added or removed.
use Rattle.std.proofs.Common.{◌≡◌, ◌≢◌, ◌↔◌, ◌⊎◌, inl, inr, refl, sym, ◌∙◌, ap, ap₂, subst, ℕ, zero, suc, Bool, true, false, ◌||◌, cond, not, nat_eq, List, [], ◌∷◌, ◌++◌, length, Contains, Option, None, Some, IsSome, is_some, arith}
use Rattle.std.specs.Cmp.{IsEquivalence}
use Rattle.std.specs.HashMap.{get}
use Rattle.std.specs.List.{AllByRecursion, IsDistinct, filter, list_any}
use Rattle.std.specs.List.Retain.{RetainsInTurn}
use Rattle.std.specs.Map.{lookup}
use Rattle.std.proofs.lemmas.Bool.{false≢true}
use Rattle.smallvec.specs.SmallVec.{SmallVec}
use Rattle.record_tables.specs.Handles.{slot_of}
use Rattle.record_tables.specs.Words.{AddsHandle, RemovesSlot, beside_slot, handles_in, handles_of}
use Rattle.record_tables.specs.declared.handle.Handle.{Handle}
use Rattle.record_tables.specs.declared.words.Words.{Words}
use Rattle.record_tables.proofs.SlotLemmas.{no_items}

-- ---- elements of a list

module _ {X : Type 0} where
  first_in : (x : X) (xs : List X) → Contains (x ∷ xs) x
  first_in x xs = (zero, omega arith, refl)

  later_in : (x k : X) (xs : List X) → Contains xs k → Contains (x ∷ xs) k
  later_in x k xs has = (suc has.0, omega (arith, has.1), has.2)

  cases_in : (x k : X) (xs : List X) → Contains (x ∷ xs) k → (x ≡ k) ⊎ Contains xs k
  cases_in x k xs (zero, lt, is) = inl is
  cases_in x k xs (suc j, lt, is) = inr (j, omega (arith, lt), is)

  none_in : (k : X) → Contains [] k → ⊥
  none_in k has = omega (arith, has.1)

-- A retain whose test changes nothing is a filter.
module _ {S X : Type 0} (R : S → X → Bool → S → X → Type 0) (test : X → Bool) (s : S) (says : (x : X) (b : Bool) (t : S) (y : X) → R s x b t y → (b ≡ test x) × (t ≡ s) × (y ≡ x)) where
  retained : (xs ys : List X) → RetainsInTurn R s xs ys → ys ≡ filter test xs
  retained [] ys done = done
  retained (x ∷ xs) ys (b, t, y, told, zs, rest, made) =
      let said = says x b t y told in
      let left : zs ≡ filter test xs = retained xs zs (subst (λ (r : S). RetainsInTurn R r xs zs) said.1 rest) in
      made ∙ ap (λ (c : Bool). cond c (y ∷ zs) zs) said.0 ∙ ap₂ (λ (z : X) (ls : List X). cond (test x) (z ∷ ls) ls) said.2 left

-- so what is left are the handles of other slots
pub others_left : {S : Type 0} (R : S → Handle → Bool → S → Handle → Type 0) (x : ℕ) (s : S) → ((h : Handle) (b : Bool) (t : S) (y : Handle) → R s h b t y → (b ≡ not (nat_eq (slot_of h) x)) × (t ≡ s) × (y ≡ h))
    → (xs ys : List Handle) → RetainsInTurn R s xs ys → ys ≡ beside_slot x xs
others_left R x s says xs ys all = retained R (λ h. not (nat_eq (slot_of h) x)) s says xs ys all

-- an element of a filtered list passes the test
module _ {X : Type 0} (test : X → Bool) where
  abbrev Filters : List X → List X → X → Type 0
  Filters xs ys k = Contains ys k ↔ (Contains xs k × (test k ≡ true))

  one_filtered : (x : X) (xs ys : List X) (k : X) → Filters xs ys k → (b : Bool) → test x ≡ b → Filters (x ∷ xs) (cond b (x ∷ ys) ys) k
  one_filtered x xs ys k rest true is = (
    λ has. elim (cases_in x k ys has) as (λ _. Contains (x ∷ xs) k × (test k ≡ true)) [
      | inl here ↦ (subst (Contains (x ∷ xs)) here (first_in x xs), sym (ap test here) ∙ is)
      | inr later ↦ (later_in x k xs (rest.0 later).0, (rest.0 later).1)
    ],
    λ stays. elim (cases_in x k xs stays.0) as (λ _. Contains (x ∷ ys) k) [
      | inl here ↦ subst (Contains (x ∷ ys)) here (first_in x ys)
      | inr later ↦ later_in x k ys (rest.1 (later, stays.1))
    ],
  )
  one_filtered x xs ys k rest false is = (
    λ has. (later_in x k xs (rest.0 has).0, (rest.0 has).1),
    λ stays. elim (cases_in x k xs stays.0) as (λ _. Contains ys k) [
      | inl here ↦ absurd (false≢true (sym is ∙ ap test here ∙ stays.1))
      | inr later ↦ rest.1 (later, stays.1)
    ],
  )

  pub in_filter : (xs : List X) (k : X) → Filters xs (filter test xs) k
  in_filter [] k = (λ has. absurd (none_in k has), λ stays. absurd (none_in k stays.0))
  in_filter (x ∷ xs) k = one_filtered x xs (filter test xs) k (in_filter xs k) (test x) refl

  -- a filter of what it left changes nothing
  one_twice : (x : X) (ys : List X) → filter test ys ≡ ys → (b : Bool) → test x ≡ b → filter test (cond b (x ∷ ys) ys) ≡ cond b (x ∷ ys) ys
  one_twice x ys rest true is = ap (λ (b : Bool). cond b (x ∷ filter test ys) (filter test ys)) is ∙ ap (λ (ls : List X). x ∷ ls) rest
  one_twice x ys rest false is = rest

  pub filter_twice : (xs : List X) → filter test (filter test xs) ≡ filter test xs
  filter_twice [] = refl
  filter_twice (x ∷ xs) = one_twice x (filter test xs) (filter_twice xs) (test x) refl

  -- what holds of all holds of those that are left
  one_held : (P : X → Type 0) (x : X) (ys : List X) → P x → AllByRecursion P ys → (b : Bool) → AllByRecursion P (cond b (x ∷ ys) ys)
  one_held P x ys is rest true = (is, rest)
  one_held P x ys is rest false = rest

  all_filter : (P : X → Type 0) (xs : List X) → AllByRecursion P xs → AllByRecursion P (filter test xs)
  all_filter P [] each = tt
  all_filter P (x ∷ xs) each = one_held P x (filter test xs) each.0 (all_filter P xs each.1) (test x)

  -- and they are apart as all were
  one_apart : (e : X → X → Bool) (x : X) (ys : List X) → AllByRecursion (λ y. e x y ≡ false) ys → IsDistinct e ys → (b : Bool) → IsDistinct e (cond b (x ∷ ys) ys)
  unfolding IsDistinct
  one_apart e x ys is rest true = (is, rest)
  one_apart e x ys is rest false = rest

  pub apart_filter : (e : X → X → Bool) (xs : List X) → IsDistinct e xs → IsDistinct e (filter test xs)
  unfolding IsDistinct
  apart_filter e [] distinct = tt
  apart_filter e (x ∷ xs) distinct = one_apart e x (filter test xs) (all_filter (λ y. e x y ≡ false) xs distinct.0) (apart_filter e xs distinct.1) (test x)

-- ---- the lists of words

-- of two writes the last stands
cond_twice : {X : Type 0} (b : Bool) (x y z : X) → cond b x (cond b y z) ≡ cond b x z
cond_twice true x y z = refl
cond_twice false x y z = refl

module _ {W : Type 0} {eq : W → W → Bool} (laws : IsEquivalence eq) (w : W) (old new : Words W) where
  -- equal words have one list
  one_list : (t : Words W) (v : W) → eq w v ≡ true → get eq t.handles v ≡ get eq t.handles w
  one_list t v is = ap (λ (test : W → Bool). lookup test t.handles.entries) (λ i x. sym (laws.congr w v x is) i)

  -- the list of the word was replaced
  module _ (had : List Handle) (left : Option (SmallVec Handle)) (was : handles_in (get eq old.handles w) ≡ had) (now : (v : W) → get eq new.handles v ≡ cond (eq w v) left (get eq old.handles v)) where
    before : (v : W) → eq w v ≡ true → handles_of eq old v ≡ had
    before v is = ap handles_in (one_list old v is) ∙ was

    its_list : (v : W) → eq w v ≡ true → get eq new.handles v ≡ left
    its_list v is = now v ∙ ap (λ (b : Bool). cond b left (get eq old.handles v)) is

    kept : (v : W) → eq w v ≡ false → get eq new.handles v ≡ get eq old.handles v
    kept v is = now v ∙ ap (λ (b : Bool). cond b left (get eq old.handles v)) is

    -- by one with a handle more
    pub adds : (h : Handle) → handles_in left ≡ had ++ h ∷ [] → AddsHandle eq w h old new
    adds h more = record {
      here = λ v same. ap handles_in (its_list v same) ∙ more ∙ ap (λ (hs : List Handle). hs ++ h ∷ []) (sym (before v same));
      others = kept;
    }

    -- by one without the handles of a slot, or by none
    pub removes : (x : ℕ) → handles_in left ≡ beside_slot x had → (IsSome left → handles_in left ≢ []) → RemovesSlot eq (eq w) x old new
    removes x fewer some = record {
      here = λ v same. ap handles_in (its_list v same) ∙ fewer ∙ ap (beside_slot x) (sym (before v same));
      listed = λ v same has none. some (sym (ap is_some (its_list v same)) ∙ has) (sym (ap handles_in (its_list v same)) ∙ none);
      others = kept;
    }

  -- the word had none
  pub removes_none : (x : ℕ) → get eq old.handles w ≡ None → new.handles.entries ≡ old.handles.entries → RemovesSlot eq (eq w) x old new
  removes_none x none same = record {
    here = λ v is. ap handles_in (still v ∙ bare v is) ∙ ap (beside_slot x) (sym (ap handles_in (bare v is)));
    listed = λ v is has. absurd (false≢true (sym (ap is_some (still v ∙ bare v is)) ∙ has));
    others = λ v is. still v;
  }
    where
      bare : (v : W) → eq w v ≡ true → get eq old.handles v ≡ None
      bare v is = one_list old v is ∙ none

      still : (v : W) → get eq new.handles v ≡ get eq old.handles v
      still v = ap (λ (es : List (W × SmallVec Handle)). lookup (eq v) es) same

  -- it has none left, and goes from the map
  pub removes_last : (x : ℕ) (had : List Handle) (left : SmallVec Handle) (mid : Words W) → handles_in (get eq old.handles w) ≡ had
      → ((v : W) → get eq mid.handles v ≡ cond (eq w v) (Some left) (get eq old.handles v)) → ((v : W) → get eq new.handles v ≡ cond (eq w v) None (get eq mid.handles v))
      → length left.items ≡ 0 → left.items ≡ beside_slot x had → RemovesSlot eq (eq w) x old new
  removes_last x had left mid was first then_ empty fewer =
      removes had None was (λ v. then_ v ∙ ap (λ (o : Option (SmallVec Handle)). cond (eq w v) None o) (first v) ∙ cond_twice (eq w v) None (Some left) (get eq old.handles v))
      x (sym (no_items left.items empty) ∙ fewer) (λ some. absurd (false≢true some))

-- ---- several words, one after another

or_none : (a : Bool) → (a || false) ≡ a
or_none true = refl
or_none false = refl

or_assoc : (a b c : Bool) → (a || (b || c)) ≡ ((a || b) || c)
or_assoc true b c = refl
or_assoc false b c = refl

pub or_true : (a : Bool) → (a || true) ≡ true
or_true true = refl
or_true false = refl

pub any_push : {X : Type 0} (test : X → Bool) (xs : List X) (x : X) → list_any test (xs ++ x ∷ []) ≡ (list_any test xs || test x)
any_push test [] x = or_none (test x)
any_push test (y ∷ ys) x = ap (λ (b : Bool). test y || b) (any_push test ys x) ∙ or_assoc (test y) (list_any test ys) (test x)

module _ {W : Type 0} (eq : W → W → Bool) (x : ℕ) where
  -- no word
  pub none_removed : (old : Words W) → RemovesSlot eq (λ v. false) x old old
  none_removed old = record { here = λ v is. absurd (false≢true is); listed = λ v is. absurd (false≢true is); others = λ v is. refl }

  -- and one word more
  module _ (has next : W → Bool) (old mid new : Words W) (first : RemovesSlot eq has x old mid) (then_ : RemovesSlot eq next x mid new) where
    twice : (v : W) (a b : Bool) → has v ≡ a → next v ≡ b → (a || b) ≡ true → (handles_of eq new v ≡ beside_slot x (handles_of eq old v)) × (IsSome (get eq new.handles v) → handles_of eq new v ≢ [])
    twice v true true was is any = (then_.here v is ∙ ap (beside_slot x) (first.here v was) ∙ filter_twice (λ h. not (nat_eq (slot_of h) x)) (handles_of eq old v), then_.listed v is)
    twice v true false was is any =
        let same = then_.others v is in
        (ap handles_in same ∙ first.here v was, λ some none. first.listed v was (sym (ap is_some same) ∙ some) (sym (ap handles_in same) ∙ none))
    twice v false true was is any = (then_.here v is ∙ ap (λ (o : Option (SmallVec Handle)). beside_slot x (handles_in o)) (first.others v was), then_.listed v is)
    twice v false false was is any = absurd (false≢true any)

    neither : (v : W) (a b : Bool) → has v ≡ a → next v ≡ b → (a || b) ≡ false → get eq new.handles v ≡ get eq old.handles v
    neither v true b was is none = absurd (false≢true (sym none))
    neither v false true was is none = absurd (false≢true (sym none))
    neither v false false was is none = then_.others v is ∙ first.others v was

    pub both_removed : RemovesSlot eq (λ v. has v || next v) x old new
    both_removed = record {
      here = λ v any. (twice v (has v) (next v) refl refl any).0;
      listed = λ v any. (twice v (has v) (next v) refl refl any).1;
      others = λ v none. neither v (has v) (next v) refl refl none;
    }
