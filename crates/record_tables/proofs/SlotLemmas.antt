-- Slots that are taken and freed.
use Rattle.std.proofs.Common.{◌≡◌, ◌≢◌, ◌⊎◌, inl, inr, refl, sym, ◌∙◌, ap, subst, ℕ, zero, suc, ◌+◌, ◌<◌, ◌≤◌, ◌^◌, Bool, true, false, nat_eq, List, [], ◌∷◌, ◌++◌, cond, length, set, slice_get, Contains, Some, Result, is_ok, arith}
use Rattle.std.specs.List.{AllByRecursion, IsDistinct}
use Rattle.std.specs.Vec.{vec_capacity}
use Rattle.std.proofs.lemmas.Bool.{eq-eqb, false≢true, ne_eqb}
use Rattle.std.proofs.lemmas.List.{length-set, length_push}
use Rattle.std.proofs.lemmas.List.Elements.{Contains-append_left, Contains-push, Contains-push_cases}
use Rattle.std.proofs.lemmas.Option.{slice_get_within}
use Rattle.record_tables.specs.Slots.{AreSlots, AreUsed, Frees, HasSlot, HasTaken}
use Rattle.record_tables.specs.declared.slots.Slots.{Slots}

-- ---- a list of numbers with one set, or one more

module _ {X : Type 0} where
  -- what stands at the place that is set
  pub at_set : (xs : List X) (i : ℕ) (x : X) → i < length xs → slice_get (set xs i x) i ≡ Some x
  at_set [] i x lt = absurd (omega (arith, lt))
  at_set (y ∷ ys) zero x lt = refl
  at_set (y ∷ ys) (suc i) x lt = at_set ys i x (omega (arith, lt))

  -- other places keep theirs
  pub beside_set : (xs : List X) (i j : ℕ) (x : X) → j ≢ i → slice_get (set xs i x) j ≡ slice_get xs j
  beside_set [] i j x other = refl
  beside_set (y ∷ ys) zero zero x other = absurd (other refl)
  beside_set (y ∷ ys) zero (suc j) x other = refl
  beside_set (y ∷ ys) (suc i) zero x other = refl
  beside_set (y ∷ ys) (suc i) (suc j) x other = beside_set ys i j x (λ same. other (ap suc same))

  -- and so with one more at the end
  pub at_push : (xs : List X) (x : X) → slice_get (xs ++ x ∷ []) (length xs) ≡ Some x
  at_push [] x = refl
  at_push (y ∷ ys) x = at_push ys x

  pub beside_push : (xs : List X) (x : X) (j : ℕ) → j ≢ length xs → slice_get (xs ++ x ∷ []) j ≡ slice_get xs j
  beside_push [] x zero other = absurd (other refl)
  beside_push [] x (suc j) other = refl
  beside_push (y ∷ ys) x zero other = refl
  beside_push (y ∷ ys) x (suc j) other = beside_push ys x j (λ same. other (ap suc same))

-- no elements
pub no_items : {X : Type 0} (xs : List X) → length xs ≡ 0 → xs ≡ []
no_items [] is = refl
no_items (x ∷ xs) is = absurd (omega (arith, is))

-- a push that was no failure
pub pushed : {X T E : Type 0} (r : Result T E) (xs ys : List X) (x : X) → is_ok r ≡ true → ys ≡ cond (is_ok r) (xs ++ x ∷ []) xs → ys ≡ xs ++ x ∷ []
pushed r xs ys x ok is = is ∙ ap (λ (b : Bool). cond b (xs ++ x ∷ []) xs) ok

-- ---- numbers that are apart

prefix_of : (P : ℕ → Type 0) (xs : List ℕ) (x : ℕ) → AllByRecursion P (xs ++ x ∷ []) → AllByRecursion P xs × P x
prefix_of P [] x all = (tt, all.0)
prefix_of P (y ∷ ys) x all = (let rest = prefix_of P ys x all.1 in ((all.0, rest.0), rest.1))

with_last : (P : ℕ → Type 0) (xs : List ℕ) (x : ℕ) → AllByRecursion P xs → P x → AllByRecursion P (xs ++ x ∷ [])
with_last P [] x all is = (is, tt)
with_last P (y ∷ ys) x all is = (all.0, with_last P ys x all.1 is)

-- the last is none of those before it
apart_last : (xs : List ℕ) (x : ℕ) → IsDistinct nat_eq (xs ++ x ∷ []) → IsDistinct nat_eq xs × (Contains xs x → ⊥)
unfolding IsDistinct
apart_last [] x distinct = (tt, λ has. omega (arith, has.1))
apart_last (y ∷ ys) x distinct =
    let rest = apart_last ys x distinct.1 in
    let first = prefix_of (λ k. nat_eq y k ≡ false) ys x distinct.0 in
    ((first.0, rest.0), none first.1 rest.1)
  where
    none : nat_eq y x ≡ false → (Contains ys x → ⊥) → Contains (y ∷ ys) x → ⊥
    none other later (zero, lt, is) = false≢true (sym other ∙ eq-eqb y x is)
    none other later (suc k, lt, is) = later (k, omega (arith, lt), is)

one_apart : (xs : List ℕ) (x : ℕ) → IsDistinct nat_eq xs → (Contains xs x → ⊥) → IsDistinct nat_eq (xs ++ x ∷ [])
unfolding IsDistinct
one_apart [] x distinct none = (tt, tt)
one_apart (y ∷ ys) x distinct none = (
  with_last (λ k. nat_eq y k ≡ false) ys x distinct.0 (ne_eqb y x (λ is. none (zero, omega arith, is))),
  one_apart ys x distinct.1 (λ has. none (suc has.0, omega (arith, has.1), has.2)),
)

-- ---- slots

-- no slot was made
none_apart : IsDistinct nat_eq []
unfolding IsDistinct
none_apart = tt

pub fresh_slots : (t : Slots) → t.sections.items ≡ [] → t.free.items ≡ [] → AreSlots t
fresh_slots t sections free = record {
  made = λ x has. (let here = subst (λ (xs : List ℕ). Contains xs x) free has in absurd (omega (arith, here.1)));
  once = subst (IsDistinct nat_eq) (sym free) none_apart;
  room = omega (arith, ap length sections);
  few = omega (arith, ap length sections);
}

pub fresh_used : (t : Slots) → t.sections.items ≡ [] → t.free.items ≡ [] → AreUsed t 0
fresh_used t sections free = omega (arith, ap length sections, ap length free)

module _ (section x : ℕ) (old new : Slots) (slots : AreSlots old) where
  -- the last free slot was taken
  module _ (free : old.free.items ≡ new.free.items ++ x ∷ []) (sections : new.sections.items ≡ set old.sections.items x section) (room : vec_capacity new.free ≡ vec_capacity old.free) where
    was_free : Contains old.free.items x
    was_free = subst (λ (xs : List ℕ). Contains xs x) (sym free) (Contains-push new.free.items x)

    apart : IsDistinct nat_eq new.free.items × (Contains new.free.items x → ⊥)
    apart = apart_last new.free.items x (subst (IsDistinct nat_eq) free slots.once)

    as_long : length new.sections.items ≡ length old.sections.items
    as_long = ap length sections ∙ length-set old.sections.items x section

    still_free : (y : ℕ) → Contains new.free.items y → Contains old.free.items y
    still_free y has = subst (λ (xs : List ℕ). Contains xs y) (sym free) (Contains-append_left new.free.items (x ∷ []) y has)

    free_yet : (y : ℕ) → y ≢ x → Contains old.free.items y → Contains new.free.items y
    free_yet y other has = elim (Contains-push_cases new.free.items x y (subst (λ (xs : List ℕ). Contains xs y) free has)) as (λ _. Contains new.free.items y) [
      | inl prefix ↦ prefix
      | inr last ↦ absurd (other (sym last))
    ]

    pub taken_again : HasTaken section x old new
    taken_again = record {
      slots = record {
        made = λ y has. omega (arith, slots.made y (still_free y has), as_long);
        once = apart.0;
        room = omega (arith, slots.room, room, as_long);
        few = omega (arith, slots.few, as_long);
      };
      unused = λ s has. has.kept was_free;
      again = λ some. was_free;
      no_new = λ some. as_long;
      taken = record { named = ap (λ (xs : List ℕ). slice_get xs x) sections ∙ at_set old.sections.items x section (slots.made x was_free); kept = apart.1 };
      others = λ y s other. (
        λ has. record { named = sym (ap (λ (xs : List ℕ). slice_get xs y) sections ∙ beside_set old.sections.items x y section other) ∙ has.named; kept = λ was. has.kept (free_yet y other was) },
        λ has. record { named = ap (λ (xs : List ℕ). slice_get xs y) sections ∙ beside_set old.sections.items x y section other ∙ has.named; kept = λ is. has.kept (still_free y is) },
      );
      counted = λ n used. omega (arith, used, as_long, ap length free, length_push new.free.items x);
    }

  -- a new slot was made
  module _ (is_next : x ≡ length old.sections.items) (none : old.free.items ≡ []) (free : new.free.items ≡ []) (sections : new.sections.items ≡ old.sections.items ++ section ∷ [])
      (room : length old.sections.items + 1 ≤ vec_capacity new.free) (few : length old.sections.items < 2 ^ 24) where
    one_longer : length new.sections.items ≡ length old.sections.items + 1
    one_longer = ap length sections ∙ length_push old.sections.items section

    none_free : (y : ℕ) → Contains new.free.items y → ⊥
    none_free y has = (let here = subst (λ (xs : List ℕ). Contains xs y) free has in omega (arith, here.1))

    was_none_free : (y : ℕ) → Contains old.free.items y → ⊥
    was_none_free y has = (let here = subst (λ (xs : List ℕ). Contains xs y) none has in omega (arith, here.1))

    pub taken_new : HasTaken section x old new
    taken_new = record {
      slots = record {
        made = λ y has. absurd (none_free y has);
        once = subst (IsDistinct nat_eq) (none ∙ sym free) slots.once;
        room = omega (arith, room, one_longer);
        few = omega (arith, few, one_longer);
      };
      unused = λ s has. omega (arith, slice_get_within old.sections.items x s has.named, is_next);
      again = λ some. absurd (some none);
      no_new = λ some. absurd (some none);
      taken = record { named = ap (λ (xs : List ℕ). slice_get xs x) sections ∙ ap (slice_get (old.sections.items ++ section ∷ [])) is_next ∙ at_push old.sections.items section; kept = none_free x };
      others = λ y s other. (
        λ has. record { named = sym (ap (λ (xs : List ℕ). slice_get xs y) sections ∙ beside_push old.sections.items section y (λ same. other (same ∙ sym is_next))) ∙ has.named; kept = was_none_free y },
        λ has. record { named = ap (λ (xs : List ℕ). slice_get xs y) sections ∙ beside_push old.sections.items section y (λ same. other (same ∙ sym is_next)) ∙ has.named; kept = none_free y },
      );
      counted = λ n used. omega (arith, used, one_longer, ap length none, ap length free);
    }

-- a slot was freed
module _ (x : ℕ) (old new : Slots) (slots : AreSlots old) (s : ℕ) (taken : HasSlot old x s) (free : new.free.items ≡ old.free.items ++ x ∷ []) (sections : new.sections.items ≡ old.sections.items)
    (room : vec_capacity old.free ≤ vec_capacity new.free) where
  same_sections : length new.sections.items ≡ length old.sections.items
  same_sections = ap length sections

  still_free_now : (y : ℕ) → Contains old.free.items y → Contains new.free.items y
  still_free_now y has = subst (λ (xs : List ℕ). Contains xs y) (sym free) (Contains-append_left old.free.items (x ∷ []) y has)

  free_before : (y : ℕ) → Contains new.free.items y → Contains old.free.items y ⊎ (x ≡ y)
  free_before y has = Contains-push_cases old.free.items x y (subst (λ (xs : List ℕ). Contains xs y) free has)

  pub freed : Frees x old new
  freed = record {
    slots = record {
      made = λ y has. elim (free_before y has) as (λ _. y < length new.sections.items) [
        | inl was ↦ omega (arith, slots.made y was, same_sections)
        | inr last ↦ omega (arith, slice_get_within old.sections.items x s taken.named, last, same_sections)
      ];
      once = subst (IsDistinct nat_eq) (sym free) (one_apart old.free.items x slots.once taken.kept);
      room = omega (arith, slots.room, room, same_sections);
      few = omega (arith, slots.few, same_sections);
    };
    no_new = same_sections;
    unused = λ t has. has.kept (subst (λ (xs : List ℕ). Contains xs x) (sym free) (Contains-push old.free.items x));
    others = λ y t other. (
      λ has. record { named = sym (ap (λ (xs : List ℕ). slice_get xs y) sections) ∙ has.named; kept = λ was. has.kept (still_free_now y was) },
      λ has. record { named = ap (λ (xs : List ℕ). slice_get xs y) sections ∙ has.named; kept = λ is. elim (free_before y is) [ inl was ↦ has.kept was | inr last ↦ other (sym last) ] },
    );
    counted = λ n used. omega (arith, used, same_sections, ap length free, length_push old.free.items x);
  }
