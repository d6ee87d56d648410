-- First and further positions as room is made for one, and as it is added.
use Rattle.std.proofs.Common.{◌≡◌, ◌≢◌, inl, inr, refl, sym, ◌∙◌, ap, ap₂, subst, ℕ, ◌+◌, ◌<◌, ◌≤◌, ◌^◌, Bool, true, false, cond, List, [], ◌∷◌, ◌++◌, length, replicate, set, slice_get, take, take_all, Option, None, Some, is_some, not, Result, Ok, Err, OnOk, IsErr, is_ok, zero, suc, arith}
use Rattle.std.specs.BTreeMap.{BTreeMap, get}
use Rattle.std.specs.Borrow.{Bor}
use Rattle.std.specs.Global.{Vec}
use Rattle.std.specs.Option.{option_copied}
use Rattle.std.specs.Ordering.{nat_cmp}
use Rattle.std.specs.Slice.{IsGetResult}
use Rattle.std.proofs.lemmas.Bool.{cases_eq, false≢true, ltb-true, ne_eqb}
use Rattle.std.proofs.lemmas.Option.{slice_get_past, slice_get_read}
use Rattle.record_tables.specs.Firsts.{HaveFirsts, HasSpareFurther, first_in, first_of, further_of}
use Rattle.record_tables.specs.Positions.{AddsPosition, GivesPositions, HasPositionRoom, HasRoomBy, all_of, positions_of}
use Rattle.record_tables.specs.declared.positions.First.{First}
use Rattle.record_tables.specs.declared.positions.Positions.{Positions}
use Rattle.record_tables.proofs.SlotLemmas.{at_set, beside_set}

-- ---- all positions of an offset

-- the first of all is the first
pub first_of_all : (o : Option ℕ) (ns : List ℕ) → slice_get (all_of o ns) 0 ≡ o
first_of_all None ns = refl
first_of_all (Some n) ns = refl

pub none_of_all : (o : Option ℕ) (ns : List ℕ) → None ≡ slice_get (all_of o ns) 0 → all_of o ns ≡ []
none_of_all None ns is = refl
none_of_all (Some n) ns is = absurd (cc is)

pub some_of_all : (o : Option ℕ) (ns : List ℕ) (n : ℕ) → Some n ≡ slice_get (all_of o ns) 0 → all_of o ns ≡ n ∷ ns
some_of_all None ns n is = absurd (cc is)
some_of_all (Some m) ns n is = let same : n ≡ m = cc is in ap (λ (k : ℕ). k ∷ ns) (sym same)

pub not_none_of_all : (o : Option ℕ) (ns : List ℕ) (n : ℕ) → Some n ≡ slice_get (all_of o ns) 0 → all_of o ns ≢ []
not_none_of_all None ns n is = absurd (cc is)
not_none_of_all (Some m) ns n is = λ none. cc

-- what the vector gives
pub got : {X : Type 0} (xs : List X) (i : ℕ) (r : Option (Bor X)) → IsGetResult xs i i r → slice_get xs i ≡ option_copied r
got {X} xs i None is = slice_get_past xs i is.3
got {X} xs i (Some x) is = slice_get_read xs (length xs) i x.now refl (ltb-true i (length xs) (sym is.0)) is.1

-- from the end of the vector on there are none
pub none_from_end : (t : Positions) (o : ℕ) → length t.firsts.items ≤ o → positions_of t o ≡ []
none_from_end t o le = ap (λ (f : Option First). all_of (first_of f) (further_of (get nat_cmp t.further o))) (slice_get_past t.firsts.items o le)

-- the first, and then the others
pub all_given : (t : Positions) (o first : ℕ) (ps qs rs : List ℕ) → Some first ≡ slice_get (positions_of t o) 0 → ps ≡ [] → qs ≡ ps ++ first ∷ []
    → rs ≡ qs ++ further_of (get nat_cmp t.further o) → rs ≡ positions_of t o
all_given t o first ps qs rs at none one all =
    all ∙ ap (λ (ns : List ℕ). ns ++ further_of (get nat_cmp t.further o)) (one ∙ ap (λ (ns : List ℕ). ns ++ first ∷ []) none)
    ∙ sym (some_of_all (first_of (slice_get t.firsts.items o)) (further_of (get nat_cmp t.further o)) first at)

-- memory was short
pub not_given : {E : Type 0} (ps : List ℕ) (r : Result (Vec ℕ) E) → IsErr r → ps ≢ [] → GivesPositions ps r
not_given ps (Ok given) is some = absurd (false≢true is)
not_given ps (Err e) is some = some

-- what the test of the first says
pub tested_none : (o r : Option ℕ) (ns : List ℕ) (b : Bool) → r ≡ slice_get (all_of o ns) 0 → is_some r ≡ not b → b ≡ true → o ≡ None
tested_none None r ns b at told is = refl
tested_none (Some n) r ns b at told is = absurd (false≢true (sym (ap not is) ∙ sym told ∙ ap is_some at))

pub tested_some : (o r : Option ℕ) (ns : List ℕ) (b : Bool) → r ≡ slice_get (all_of o ns) 0 → is_some r ≡ not b → b ≡ false → o ≢ None
tested_some None r ns b at told is = absurd (false≢true (sym (ap is_some at) ∙ told ∙ ap not is))
tested_some (Some n) r ns b at told is = λ none. cc

-- ---- room is made

module _ (fs gs : List First) (firsts : (o : ℕ) → first_of (slice_get gs o) ≡ first_of (slice_get fs o)) where
  pub same_positions : (m n : BTreeMap ℕ (Vec ℕ)) → ((o : ℕ) → further_of (get nat_cmp n o) ≡ further_of (get nat_cmp m o)) → (o : ℕ)
      → all_of (first_of (slice_get gs o)) (further_of (get nat_cmp n o)) ≡ all_of (first_of (slice_get fs o)) (further_of (get nat_cmp m o))
  same_positions m n further o = ap₂ all_of (firsts o) (further o)

  pub room_for_first : (m : BTreeMap ℕ (Vec ℕ)) (o : ℕ) → first_of (slice_get fs o) ≡ None → o < length gs → HasRoomBy (first_of (slice_get gs o)) gs m o
  room_for_first m o none lt = subst (λ (f : Option ℕ). HasRoomBy f gs m o) (sym (firsts o ∙ none)) lt

room_further : (f : Option ℕ) (fs : List First) (m : BTreeMap ℕ (Vec ℕ)) (o : ℕ) → f ≢ None → HasSpareFurther (get nat_cmp m o) → HasRoomBy f fs m o
room_further None fs m o some spare = absurd (some refl)
room_further (Some n) fs m o some spare = spare

pub room_for_further : (fs : List First) (m : BTreeMap ℕ (Vec ℕ)) (o : ℕ) → first_of (slice_get fs o) ≢ None → HasSpareFurther (get nat_cmp m o) → HasRoomBy (first_of (slice_get fs o)) fs m o
room_for_further fs m o some spare = room_further (first_of (slice_get fs o)) fs m o some spare

-- an offset with further positions has a first one yet
pub still_first : (fs gs : List First) (m n : BTreeMap ℕ (Vec ℕ)) → HaveFirsts fs m → ((o : ℕ) → first_of (slice_get gs o) ≡ first_of (slice_get fs o))
    → ((o : ℕ) → further_of (get nat_cmp n o) ≡ further_of (get nat_cmp m o)) → HaveFirsts gs n
still_first fs gs m n have firsts further o none = further o ∙ have o (sym (firsts o) ∙ none)

-- a longer vector, by such as stand for none
bare : (m : ℕ) (f : First) (o : ℕ) → first_in f ≡ None → first_of (slice_get (replicate m f) o) ≡ None
bare zero f o none = refl
bare (suc m) f zero none = none
bare (suc m) f (suc o) none = bare m f o none

longer : (fs : List First) (m : ℕ) (f : First) (o : ℕ) → first_in f ≡ None → first_of (slice_get (fs ++ replicate m f) o) ≡ first_of (slice_get fs o)
longer [] m f o none = bare m f o none
longer (g ∷ fs) m f zero none = refl
longer (g ∷ fs) m f (suc o) none = longer fs m f o none

pub resized_same : (b : Bool) (fs gs : List First) (n m : ℕ) (f : First) → first_in f ≡ None → length fs ≤ n → gs ≡ cond b (take n fs ++ replicate m f) fs
    → (o : ℕ) → first_of (slice_get gs o) ≡ first_of (slice_get fs o)
resized_same true fs gs n m f none le is o = ap (λ (hs : List First). first_of (slice_get hs o)) (is ∙ ap (λ (hs : List First). hs ++ replicate m f) (take_all n fs le)) ∙ longer fs m f o none
resized_same false fs gs n m f none le is o = ap (λ (hs : List First). first_of (slice_get hs o)) is

pub resized_room : {T E : Type 0} (r : Result T E) (o n k v w : ℕ) → v ≡ cond (is_ok r) n k → n ≡ o + 1 → w ≡ v → OnOk r (o < w)
resized_room (Ok x) o n k v w is one long = omega (arith, is, one, long)
resized_room (Err e) o n k v w is one long = tt

-- ---- the room that there is

pub first_room : (t : Positions) (o : ℕ) → first_of (slice_get t.firsts.items o) ≡ None → HasPositionRoom t o → o < length t.firsts.items
first_room t o none room = subst (λ (f : Option ℕ). HasRoomBy f t.firsts.items t.further o) none room

further_by : (f : Option ℕ) (t : Positions) (o : ℕ) → f ≢ None → HasRoomBy f t.firsts.items t.further o → HasSpareFurther (get nat_cmp t.further o)
further_by None t o some room = absurd (some refl)
further_by (Some n) t o some room = room

pub further_room : (t : Positions) (o : ℕ) → first_of (slice_get t.firsts.items o) ≢ None → HasPositionRoom t o → HasSpareFurther (get nat_cmp t.further o)
further_room t o some room = further_by (first_of (slice_get t.firsts.items o)) t o some room

-- ---- a first one is added

-- no position is as great as what stands for none
is_first : (p : ℕ) → p < 2 ^ 40 → first_in (record { at = p }) ≡ Some p
is_first p small = ap (λ (b : Bool). cond b None (Some p)) (ne_eqb p 18446744073709551615 (λ is. omega (arith, small, is)))

some_none : (p : ℕ) → ◌≡◌ {A = Option ℕ} (Some p) None → ⊥
some_none p is = cc

module _ (fs : List First) (o p : ℕ) (lt : o < length fs) (small : p < 2 ^ 40) where
  first_now : first_of (slice_get (set fs o (record { at = p })) o) ≡ Some p
  first_now = ap first_of (at_set fs o (record { at = p }) lt) ∙ is_first p small

  first_beside : (q : ℕ) → q ≢ o → first_of (slice_get (set fs o (record { at = p })) q) ≡ first_of (slice_get fs q)
  first_beside q other = ap first_of (beside_set fs o q (record { at = p }) other)

  pub first_kept : (m : BTreeMap ℕ (Vec ℕ)) → HaveFirsts fs m → HaveFirsts (set fs o (record { at = p })) m
  first_kept m have q none = elim (cases_eq q o) as (λ _. further_of (get nat_cmp m q) ≡ []) [
    | inl same ↦ absurd (some_none p (sym first_now ∙ subst (λ (n : ℕ). first_of (slice_get (set fs o (record { at = p })) n) ≡ None) same none))
    | inr other ↦ have q (sym (first_beside q other) ∙ none)
  ]

pub added_first : (old new : Positions) (o p : ℕ) → first_of (slice_get old.firsts.items o) ≡ None → o < length old.firsts.items → p < 2 ^ 40 → HaveFirsts old.firsts.items old.further
    → new.firsts.items ≡ set old.firsts.items o (record { at = p }) → ((q : ℕ) → further_of (get nat_cmp new.further q) ≡ further_of (get nat_cmp old.further q)) → AddsPosition o p old new
added_first old new o p none lt small have firsts further = record {
  here = ap₂ all_of (ap (λ (fs : List First). first_of (slice_get fs o)) firsts ∙ first_now old.firsts.items o p lt small) (further o ∙ have o none)
      ∙ sym (ap (λ (f : Option ℕ). all_of f (further_of (get nat_cmp old.further o)) ++ p ∷ []) none);
  others = λ q other. ap₂ all_of (ap (λ (fs : List First). first_of (slice_get fs q)) firsts ∙ first_beside old.firsts.items o p lt small q other) (further q);
}

-- ---- a further one is added

all_more : (f : Option ℕ) (ns : List ℕ) (p : ℕ) → f ≢ None → all_of f (ns ++ p ∷ []) ≡ all_of f ns ++ p ∷ []
all_more None ns p some = absurd (some refl)
all_more (Some n) ns p some = refl

module _ (o p : ℕ) (m n : BTreeMap ℕ (Vec ℕ)) (here : further_of (get nat_cmp n o) ≡ further_of (get nat_cmp m o) ++ p ∷ []) (others : (q : ℕ) → q ≢ o → get nat_cmp n q ≡ get nat_cmp m q) where
  pub further_kept : (fs : List First) → first_of (slice_get fs o) ≢ None → HaveFirsts fs m → HaveFirsts fs n
  further_kept fs some have q none = elim (cases_eq q o) as (λ _. further_of (get nat_cmp n q) ≡ []) [
    | inl same ↦ absurd (some (subst (λ (k : ℕ). first_of (slice_get fs k) ≡ None) same none))
    | inr other ↦ ap further_of (others q other) ∙ have q none
  ]

pub added_further : (old new : Positions) (o p : ℕ) → first_of (slice_get old.firsts.items o) ≢ None → new.firsts.items ≡ old.firsts.items
    → further_of (get nat_cmp new.further o) ≡ further_of (get nat_cmp old.further o) ++ p ∷ [] → ((q : ℕ) → q ≢ o → get nat_cmp new.further q ≡ get nat_cmp old.further q) → AddsPosition o p old new
added_further old new o p some firsts here others = record {
  here = ap₂ all_of (ap (λ (fs : List First). first_of (slice_get fs o)) firsts) here ∙ all_more (first_of (slice_get old.firsts.items o)) (further_of (get nat_cmp old.further o)) p some;
  others = λ q other. ap₂ all_of (ap (λ (fs : List First). first_of (slice_get fs q)) firsts) (ap further_of (others q other));
}
