-- The numbers beside the buffers of held sections are the buffers' keys, before and after each change.
use Rattle.std.specs.Prelude.{◌≡◌, ◌↔◌, ◌&&◌, ◌||◌, ℕ, ◌<◌, ◌≤◌, Bool, true, false, not, cond, List, [], ◌∷◌, length, Option, Some, None, is_some, IsSome, IfSome, IsTrue, Result, Ok, Err, OnOk, OnErr}
use Rattle.std.specs.Borrow.{Bor}
use Rattle.std.specs.BTreeMap.{BTreeMap, get, keys, is_at, insert_entry}
use Rattle.std.specs.BTreeMap.Range.{range_contains}
use Rattle.std.specs.BTreeSet.{insert_key}
use Rattle.std.specs.List.{list_any, filter, Contains}
use Rattle.std.specs.Map.{keys_of, remove_entry}
use Rattle.std.specs.Option.{option_copied}
use Rattle.std.specs.Result.{is_err}
use Rattle.std.specs.Ordering.{is_eq, is_le, match_ordering, nat_cmp}
use Rattle.std.specs.Set.{remove_key}
use Rattle.std.specs.declared.ops.Bound.TheVariants.{Included, Unbounded}
use Rattle.std.proofs.Common.{Ordering, refl, sym, ◌∙◌, ap, subst, arith}
use Rattle.std.specs.declared.cmp.Ordering.TheVariants.{Less, Equal, Greater}
use Rattle.std.proofs.lemmas.Bool.Decides.{nat_tests}
use Rattle.std.proofs.lemmas.Bool.{true≢false}
use Rattle.std.proofs.lemmas.Cmp.{nat_cmp_total, tied_itself}
use Rattle.std.proofs.lemmas.Map.Keys.{le_from_is_le}
use Rattle.std.proofs.lemmas.Map.Lookups.{exact_unsigned}
use Rattle.std.proofs.lemmas.Map.Made.{is_some-lookup}
use Rattle.std.proofs.lemmas.Map.Views.{any-filter_same, Contains-from_any, list_any-from_Contains, tells_apart}
use Rattle.std.specs.Cmp.{eq_by_cmp_equiv}

-- Changes of the entries change the keys alike.
pub keys-insert_entry : {K X : Type 0} (cmp : K → K → Ordering) (k : K) (v : X) (es : List (K × X)) → keys_of (insert_entry cmp es k v) ≡ insert_key cmp (keys_of es) k
keys-insert_entry cmp k v [] = refl
keys-insert_entry {K = K} {X = X} cmp k v (e ∷ es) = go (cmp k e.0) (keys-insert_entry cmp k v es)
  where
    go : (o : Ordering) → keys_of (insert_entry cmp es k v) ≡ insert_key cmp (keys_of es) k
        → keys_of (match_ordering o ((k, v) ∷ e ∷ es) ((e.0, v) ∷ es) (e ∷ insert_entry cmp es k v)) ≡ match_ordering o (k ∷ e.0 ∷ keys_of es) (e.0 ∷ keys_of es) (e.0 ∷ insert_key cmp (keys_of es) k)
    go Less rest = refl
    go Equal rest = refl
    go Greater rest = ap (λ (ks : List K). e.0 ∷ ks) rest

pub keys-remove_entry : {K X : Type 0} (test : K → Bool) (es : List (K × X)) → keys_of (remove_entry test es) ≡ remove_key test (keys_of es)
keys-remove_entry test [] = refl
keys-remove_entry {K = K} {X = X} test (e ∷ es) = go (test e.0) (keys-remove_entry test es)
  where
    go : (b : Bool) → keys_of (remove_entry test es) ≡ remove_key test (keys_of es)
        → keys_of (cond b es (e ∷ remove_entry test es)) ≡ cond b (keys_of es) (e.0 ∷ remove_key test (keys_of es))
    go true rest = refl
    go false rest = ap (λ (ks : List K). e.0 ∷ ks) rest

-- a new number that is taken out again leaves no trace
pub removed_again : (k : ℕ) (ks : List ℕ) → list_any (is_at (nat_cmp k)) ks ≡ false → remove_key (is_at (nat_cmp k)) (insert_key nat_cmp ks k) ≡ ks
removed_again k [] absent = ap (λ (o : Ordering). cond (is_eq o) [] (k ∷ [])) (tied_itself nat_cmp_total k)
removed_again k (x ∷ xs) absent = go (nat_cmp k x) refl absent (removed_again k xs)
  where
    go : (o : Ordering) → nat_cmp k x ≡ o → (is_eq o || list_any (is_at (nat_cmp k)) xs) ≡ false → (list_any (is_at (nat_cmp k)) xs ≡ false → remove_key (is_at (nat_cmp k)) (insert_key nat_cmp xs k) ≡ xs)
        → remove_key (is_at (nat_cmp k)) (match_ordering o (k ∷ x ∷ xs) (x ∷ xs) (x ∷ insert_key nat_cmp xs k)) ≡ x ∷ xs
    go Less is none rest = ap (λ (p : Ordering). cond (is_eq p) (x ∷ xs) (k ∷ remove_key (is_at (nat_cmp k)) (x ∷ xs))) (tied_itself nat_cmp_total k)
    go Equal is none rest = absurd (cc none)
    go Greater is none rest = ap (λ (p : Ordering). cond (is_eq p) (insert_key nat_cmp xs k) (x ∷ remove_key (is_at (nat_cmp k)) (insert_key nat_cmp xs k))) is ∙ ap (λ (ks : List ℕ). x ∷ ks) (rest none)

-- of the option, of the list, of the tests
not_some : {X : Type 0} (o : Option X) → is_some o ≡ false → o ≡ None
not_some None is = refl
not_some (Some x) is = absurd (cc is)

no_place : (ks : List ℕ) → length ks ≡ 0 → (s : ℕ) → list_any (is_at (nat_cmp s)) ks ≡ false
no_place [] none s = refl
no_place (x ∷ xs) none s = absurd (omega arith)

no_key : (ks : List ℕ) → ((q : ℕ) → list_any (is_at (nat_cmp q)) ks ≡ false) → length ks ≡ 0
no_key [] none = refl
no_key (x ∷ xs) none = absurd (true≢false (sym (ap (λ (o : Ordering). is_eq o || list_any (is_at (nat_cmp x)) xs) (tied_itself nat_cmp_total x)) ∙ none x))

both_true : (a b : Bool) → ((a && true) && b) ≡ true → (a ≡ true) × (b ≡ true)
both_true true b is = (refl, is)
both_true false b is = absurd (cc is)

true_both : (a b : Bool) → a ≡ true → b ≡ true → ((a && true) && b) ≡ true
true_both true b one two = two
true_both false b one two = absurd (cc one)

is_le_from_le : (a b : ℕ) → a ≤ b → is_le (nat_cmp a b) ≡ true
is_le_from_le a b le = grind (arith, nat_tests)

module _ {X : Type 0} (ks : List ℕ) (m : BTreeMap ℕ X) (same : ks ≡ keys m) where
  -- a number is there just where the section is held
  pub found : (q : ℕ) → is_some (get nat_cmp m q) ≡ list_any (is_at (nat_cmp q)) ks
  found q = is_some-lookup (is_at (nat_cmp q)) m.entries ∙ ap (list_any (is_at (nat_cmp q))) (sym same)

  pub held_iff : (q : ℕ) → IsTrue (list_any (is_at (nat_cmp q)) ks) ↔ IsSome (get nat_cmp m q)
  held_iff q = (λ there. found q ∙ there, λ held. sym (found q) ∙ held)

  pub none_held : length ks ≡ 0 → (s : ℕ) → get nat_cmp m s ≡ None
  none_held none s = not_some (get nat_cmp m s) (found s ∙ no_place ks none s)

  pub no_number : ((s : ℕ) → get nat_cmp m s ≡ None) → length ks ≡ 0
  no_number none = no_key ks (λ q. sym (found q) ∙ ap is_some (none q))

  -- an end of the numbers is missing just where no section is held
  pub end_none : (r : Option (Bor ℕ)) (out : Option ℕ) → out ≡ option_copied r → IsSome r ↔ (0 < length ks) → (out ≡ None) ↔ ((s : ℕ) → get nat_cmp m s ≡ None)
  end_none None out is some = (λ none. none_held (omega (arith, absent)), λ none. is)
    where
      absent : 0 < length ks → ⊥
      absent more = true≢false (sym (some.1 more))
  end_none (Some b) out is some = (λ none. absurd (cc (is, none)), λ none. absurd (omega (arith, no_number none, some.0 refl)))

  pub end_held : (r : Option (Bor ℕ)) (out : Option ℕ) → out ≡ option_copied r → IfSome r (λ k. IsTrue (list_any (is_at (nat_cmp k.now)) ks)) → IfSome out (λ n. IsSome (get nat_cmp m n))
  end_held None out is there = subst (λ (o : Option ℕ). IfSome o (λ n. IsSome (get nat_cmp m n))) (sym is) tt
  end_held (Some b) out is there = subst (λ (o : Option ℕ). IfSome o (λ n. IsSome (get nat_cmp m n))) (sym is) ((held_iff b.now).0 there)

  -- a bound of the numbers bounds the held sections
  pub end_bounds : (test : ℕ → ℕ → Bool) (R : ℕ → ℕ → Type 0) → ((k q : ℕ) → test k q ≡ false → R k q) → (r : Option (Bor ℕ)) (out : Option ℕ) → out ≡ option_copied r
      → IfSome r (λ k. (q : ℕ) → IsTrue (list_any (is_at (nat_cmp q)) ks) → test k.now q ≡ false) → IfSome out (λ n. (s : ℕ) → IsSome (get nat_cmp m s) → R n s)
  end_bounds test R bounds None out is all = subst (λ (o : Option ℕ). IfSome o (λ n. (s : ℕ) → IsSome (get nat_cmp m s) → R n s)) (sym is) tt
  end_bounds test R bounds (Some b) out is all = subst (λ (o : Option ℕ). IfSome o (λ n. (s : ℕ) → IsSome (get nat_cmp m s) → R n s)) (sym is)
      (λ s held. bounds b.now s (all s ((held_iff s).1 held)))

  -- the numbers from the start on
  pub from_each : (r : List ℕ) (start : ℕ) → r ≡ filter (range_contains nat_cmp (Included start) Unbounded) ks → (s : ℕ) → Contains r s ↔ (IsSome (get nat_cmp m s) × (start ≤ s))
  from_each r start is s = (
    λ there. (let parts = both_true (is_le (nat_cmp start s)) (list_any (is_at (nat_cmp s)) ks) (sym any ∙ list_any-from_Contains (eq_by_cmp_equiv nat_cmp_total) s r there) in
        (found s ∙ parts.1, le_from_is_le start s parts.0)),
    λ both. Contains-from_any (tells_apart exact_unsigned) s r (any ∙ true_both (is_le (nat_cmp start s)) (list_any (is_at (nat_cmp s)) ks) (is_le_from_le start s both.1) (sym (found s) ∙ both.0)),
  )
    where
      any : list_any (is_at (nat_cmp s)) r ≡ ((is_le (nat_cmp start s) && true) && list_any (is_at (nat_cmp s)) ks)
      any = ap (list_any (is_at (nat_cmp s))) is
          ∙ any-filter_same (is_at (nat_cmp s)) (range_contains nat_cmp (Included start) Unbounded) (range_contains nat_cmp (Included start) Unbounded s) (λ k at. ap (range_contains nat_cmp (Included start) Unbounded) (sym (tells_apart exact_unsigned s k at))) ks

from_not : (b : Bool) → not b ≡ true → b ≡ false
from_not true is = absurd (cc is)
from_not false is = refl

-- A number was put in, and its buffer was to follow, with the answer r.
module _ {X A E : Type 0} (ks ns : List ℕ) (m n : BTreeMap ℕ X) (same : ks ≡ keys m) (k : ℕ) (r : Result A E) (number : ns ≡ insert_key nat_cmp ks k) where
  pub both_put : (v : X) → OnOk r (n.entries ≡ insert_entry nat_cmp m.entries k v) → is_err r ≡ false → ns ≡ keys n
  both_put v put ok = number ∙ ap (λ (l : List ℕ). insert_key nat_cmp l k) same ∙ sym (ap keys_of (done r put ok) ∙ keys-insert_entry nat_cmp k v m.entries)
    where
      done : (q : Result A E) → OnOk q (n.entries ≡ insert_entry nat_cmp m.entries k v) → is_err q ≡ false → n.entries ≡ insert_entry nat_cmp m.entries k v
      done (Ok a) is ok = is
      done (Err e) is ok = absurd (cc ok)

  -- and did not: the number, which is new, goes again
  pub taken_again : (now : List ℕ) (new : Bool) → OnErr r (n.entries ≡ m.entries) → is_err r ≡ true → new ≡ not (list_any (is_at (nat_cmp k)) ks) → new ≡ true → now ≡ remove_key (is_at (nat_cmp k)) ns → now ≡ keys n
  taken_again now new stays failed whether fresh gone =
      gone ∙ ap (remove_key (is_at (nat_cmp k))) number ∙ removed_again k ks (from_not (list_any (is_at (nat_cmp k)) ks) (sym whether ∙ fresh)) ∙ same ∙ sym (ap keys_of (kept r stays failed))
    where
      kept : (q : Result A E) → OnErr q (n.entries ≡ m.entries) → is_err q ≡ true → n.entries ≡ m.entries
      kept (Ok a) is failed = absurd (cc failed)
      kept (Err e) is failed = is
