-- Markers by their sections, and what puts, staging and dropping leave of them.
use Rattle.std.specs.Prelude.{◌≡◌, ◌≢◌, ◌↔◌, ℕ, ◌^◌, ◌<◌, ◌≤◌, ◌==◌, ◌+◌, ◌||◌, nat_le, nat_lt, if◌then◌else◌, cond, Bool, true, false, List, [], ◌∷◌, ◌++◌, length, Option, None, Some, IsSome, is_some, unwrap_or, Result, Ok, Err, OnOk, OnErr}
use Rattle.std.specs.Int.{w64, to_be_bytes, from_be_bytes}
use Rattle.std.specs.declared.cmp.Ordering.{Ordering}
use Rattle.std.specs.declared.cmp.Ordering.TheVariants.{Less, Equal, Greater}
use Rattle.std.specs.Ordering.{nat_cmp, is_eq}
use Rattle.std.specs.Cmp.Lexicographic.{slice_cmp}
use Rattle.std.specs.Bool.{Decides}
use Rattle.std.specs.List.{AllByRecursion, All, Contains, list_any, filter}
use Rattle.std.specs.Map.{keys_of, lookup}
use Rattle.std.specs.BTreeMap.{is_at}
use Rattle.std.specs.Str.{bytes_eq}
use Rattle.std.specs.Borrow.{Bor}
use Rattle.std.specs.Fn.{Shared}
use Rattle.std.proofs.Common.{◌⊎◌, inl, inr, ⊎_elim, refl, sym, ◌∙◌, ap, subst, arith}
use Rattle.std.proofs.lemmas.Bool.{cases_eq, cases_lt, cases_Bool, or_parts, cond-true, cond-false, false_from_ne_true, lt-ltb, le-ltb, ltb-false, le-leb, lt-leb, eqb-true, eq-eqb}
use Rattle.std.proofs.lemmas.Nat.{from_be_bytes-to_be_bytes_8}
use Rattle.std.proofs.lemmas.List.Elements.{recursion_from_All, Contains-append_left, Contains-push, Contains-push_cases}
use Rattle.std.proofs.lemmas.List.Folds.{list_any_at}
use Rattle.std.proofs.lemmas.Slice.Eq.{bytes_eq-Decides}
use Rattle.std.proofs.lemmas.Map.Entries.{lookup_head, lookup_tail, lookup-filter-keys}
use Rattle.std.proofs.lemmas.Map.Lookups.{exact_unsigned}
use Rattle.std.proofs.lemmas.Map.Text.{is_eq-slice_cmp}
use Rattle.std.proofs.lemmas.Map.Views.{Contains-from_any}
use Rattle.value_codec.specs.declared.key.Key8.{Key8}
use Rattle.value_codec.specs.Keys.{key8_bytes}
use Rattle.meta_store.specs.Entries.{value_at, PutsValue, Retained, AnswersAt}
use Rattle.meta_store.specs.Blobs.{other_side}
use Rattle.meta_store.specs.declared.error.Error.{Error}
use Rattle.meta_store.specs.declared.error.Error.TheVariants.{Mem}
use Rattle.meta_store.specs.Copies.{IsStorable}
use Rattle.meta_store.specs.Format.{Format}
use Rattle.meta_store.specs.Staging.{Puts, StandsAsBefore}
use Rattle.meta_store.specs.Store.{MayBeSynced, Seen, Stands, Store, staging, synced_store, contents_of}
use Rattle.meta_store.specs.lemmas.Inserting.{retained_fewer}
use Rattle.paired.specs.Kept.{MarkerMap, IsMarked, marker_of}
use Rattle.paired.specs.Tracked.{Tracked, synced_of, Trails, IsFrom}
use Rattle.blob_device.proofs.general.Lists.{contains_or_not}

-- ---- keys
-- the order of the keys
abbrev by_bytes : Key8 → Key8 → Ordering
by_bytes x y = slice_cmp nat_cmp (key8_bytes x) (key8_bytes y)

-- the key is of this section
abbrev is_key_of : ℕ → Key8 → Bool
is_key_of s k = bytes_eq (key8_bytes k) (to_be_bytes w64 s)

abbrev key_of : ℕ → Key8
key_of s = record { bytes = to_be_bytes w64 s; whole = refl }

same_section : (s t : ℕ) → s < 2 ^ 64 → t < 2 ^ 64 → to_be_bytes w64 s ≡ to_be_bytes w64 t → s ≡ t
same_section s t s_small t_small is =
    sym (from_be_bytes-to_be_bytes_8 s s_small) ∙ ap (from_be_bytes w64) is ∙ from_be_bytes-to_be_bytes_8 t t_small

eq_when : (xs ys : List ℕ) → xs ≡ ys → bytes_eq xs ys ≡ true
eq_when xs ys is = (bytes_eq-Decides xs ys).1 is

when_eq : (xs ys : List ℕ) → bytes_eq xs ys ≡ true → xs ≡ ys
when_eq xs ys is = (bytes_eq-Decides xs ys).0 is

eq_flips : (xs ys : List ℕ) → bytes_eq xs ys ≡ bytes_eq ys xs
eq_flips xs ys = ⊎_elim
    (λ yes. yes ∙ sym (eq_when ys xs (sym (when_eq xs ys yes))))
    (λ no. no ∙ sym (false_from_ne_true (bytes_eq ys xs) (λ yes. absurd (cc (no, eq_when xs ys (sym (when_eq ys xs yes)))))))
    (cases_Bool (bytes_eq xs ys))

looked_up : {K X : Type 0} (f g : K → Bool) → ((k : K) → f k ≡ g k) → (es : List (K × X)) → lookup f es ≡ lookup g es
looked_up f g same [] = refl
looked_up f g same (e ∷ es) = ap (λ b. cond b (Some e.1) (lookup f es)) (same e.0) ∙ ap (λ o. cond (g e.0) (Some e.1) o) (looked_up f g same es)

-- ---- a marker by its key
marker_below : (es : MarkerMap) (s : ℕ) → s < 2 ^ 64 → marker_of es s ≡ unwrap_or (lookup (is_key_of s) es) 0
marker_below es s small = ap (λ (b : Bool). if b then unwrap_or (lookup (is_key_of s) es) 0 else 0) (lt-ltb s (2 ^ 64) small)

marker_past : (es : MarkerMap) (s : ℕ) → 2 ^ 64 ≤ s → marker_of es s ≡ 0
marker_past es s large = ap (λ (b : Bool). if b then unwrap_or (lookup (is_key_of s) es) 0 else 0) (le-ltb s (2 ^ 64) large)

pub marker_at : (es : MarkerMap) (key : Key8) (s : ℕ) → s < 2 ^ 64 → key8_bytes key ≡ to_be_bytes w64 s → marker_of es s ≡ unwrap_or (value_at by_bytes es key) 0
marker_at es key s small is =
    marker_below es s small ∙ ap (λ (o : Option ℕ). unwrap_or o 0) (looked_up (is_key_of s) (is_at (by_bytes key)) same es)
  where
    same : (k : Key8) → is_key_of s k ≡ is_at (by_bytes key) k
    same k = ap (bytes_eq (key8_bytes k)) (sym is) ∙ eq_flips (key8_bytes k) (key8_bytes key) ∙ sym (is_eq-slice_cmp (key8_bytes key) (key8_bytes k))

-- ---- a put
put_at : (old new : MarkerMap) (key q : Key8) (v : ℕ) (b : Bool) → PutsValue by_bytes old new key v → bytes_eq (key8_bytes key) (key8_bytes q) ≡ b
    → value_at by_bytes new q ≡ cond b (Some v) (value_at by_bytes old q)
put_at old new key q v b puts is = puts q ∙ ap (λ (x : Bool). cond x (Some v) (value_at by_bytes old q)) (is_eq-slice_cmp (key8_bytes key) (key8_bytes q) ∙ is)

pub put_here : (old new : MarkerMap) (key : Key8) (s v : ℕ) → s < 2 ^ 64 → key8_bytes key ≡ to_be_bytes w64 s → PutsValue by_bytes old new key v → marker_of new s ≡ v
put_here old new key s v small is puts =
    marker_at new key s small is ∙ ap (λ (o : Option ℕ). unwrap_or o 0) (put_at old new key key v true puts (eq_when (key8_bytes key) (key8_bytes key) refl))

pub put_others : (old new : MarkerMap) (key : Key8) (s v : ℕ) → s < 2 ^ 64 → key8_bytes key ≡ to_be_bytes w64 s → PutsValue by_bytes old new key v
    → (t : ℕ) → t ≢ s → marker_of new t ≡ marker_of old t
put_others old new key s v small is puts t other = ⊎_elim
    (λ below. marker_at new (key_of t) t below refl
    ∙ ap (λ (o : Option ℕ). unwrap_or o 0) (put_at old new key (key_of t) v false puts (false_from_ne_true (bytes_eq (key8_bytes key) (to_be_bytes w64 t))
    (λ yes. other (same_section t s below small (sym (when_eq (key8_bytes key) (to_be_bytes w64 t) yes) ∙ is)))))
    ∙ sym (marker_at old (key_of t) t below refl))
    (λ past. marker_past new t past ∙ sym (marker_past old t past))
    (cases_lt t (2 ^ 64))

stored_at : (es : MarkerMap) (t : ℕ) → lookup (is_key_of t) es ≡ value_at by_bytes es (key_of t)
stored_at es t = looked_up (is_key_of t) (is_at (by_bytes (key_of t))) (λ k. eq_flips (key8_bytes k) (to_be_bytes w64 t) ∙ sym (is_eq-slice_cmp (to_be_bytes w64 t) (key8_bytes k))) es

-- a marker was there, or is the one that was put
pub put_marked : (old new : MarkerMap) (key : Key8) (s v : ℕ) → s < 2 ^ 64 → key8_bytes key ≡ to_be_bytes w64 s → PutsValue by_bytes old new key v
    → (t m : ℕ) → IsMarked new t m → IsMarked old t m ⊎ ((t ≡ s) × (m ≡ v))
put_marked old new key s v small is puts t m has = ⊎_elim
    (λ here.
    let put : value_at by_bytes new (key_of t) ≡ Some v = put_at old new key (key_of t) v true puts here in
    inr (
      same_section t s has.0 small (sym (when_eq (key8_bytes key) (to_be_bytes w64 t) here) ∙ is),
      cc (put, stored_at new t, has.1),
    ))
    (λ apart. inl (has.0, stored_at old t ∙ sym (put_at old new key (key_of t) v false puts apart) ∙ sym (stored_at new t) ∙ has.1))
    (cases_Bool (bytes_eq (key8_bytes key) (to_be_bytes w64 t)))

pub on_ok : {T E P Q : Type 0} (r : Result T E) → OnOk r P → (P → Q) → OnOk r Q
on_ok (Ok x) p f = f p
on_ok (Err e) p f = tt

-- ---- look-ups at numbers
is_equal : (o : Ordering) → is_eq o ≡ true → o ≡ Equal
is_equal Less is = absurd (cc is)
is_equal Equal is = refl
is_equal Greater is = absurd (cc is)

at_same : (s k : ℕ) → is_at (nat_cmp s) k ≡ true → s ≡ k
at_same s k is = exact_unsigned s k (is_equal (nat_cmp s k) is)

-- what is found in the entries whose keys pass
pub found_in : (p : ℕ → Bool) (es fs : List (ℕ × ℕ)) → fs ≡ filter (λ e. p e.0) es → (s : ℕ) → lookup (is_at (nat_cmp s)) fs ≡ cond (p s) (lookup (is_at (nat_cmp s)) es) None
found_in p es fs is s = ap (lookup (is_at (nat_cmp s))) is ∙ lookup-filter-keys (is_at (nat_cmp s)) p (p s) (λ k at. ap p (sym (at_same s k at))) es

-- ---- whether a section is among the active ones
pub decides : (active : List ℕ) (s : ℕ) → Decides (list_any (λ y. y == s) active) (Contains active s)
decides active s = (
  (λ yes. Contains-from_any {eq = λ q y. y == q} (λ q y same. sym (eqb-true y q same)) s active yes),
  (λ has. list_any_at (λ y. y == s) active has.0 s has.1 (eq-eqb _ s has.2)),
)

module _ (active : List ℕ) (es fs : List (ℕ × ℕ)) (is : fs ≡ filter (λ e. list_any (λ y. y == e.0) active) es) (s : ℕ) where
  -- an active section stays
  pub stays : Contains active s → lookup (is_at (nat_cmp s)) fs ≡ lookup (is_at (nat_cmp s)) es
  stays has = found_in (λ k. list_any (λ y. y == k) active) es fs is s ∙ cond-true (list_any (λ y. y == s) active) _ _ ((decides active s).1 has)

  -- and no other one does
  pub leaves : (Contains active s → ⊥) → lookup (is_at (nat_cmp s)) fs ≡ None
  leaves other = found_in (λ k. list_any (λ y. y == k) active) es fs is s ∙ cond-false (list_any (λ y. y == s) active) _ _ (false_from_ne_true _ (λ has. other ((decides active s).0 has)))

-- ---- staging, section by section
-- the sections but for the rest and the active ones have their lengths as markers
pub record Staging (active : List ℕ) (all rest : List (ℕ × ℕ)) (before now : Store Key8 ℕ) : Type 0 where
  pub active_stay : (s : ℕ) → Contains active s → marker_of now.entries s ≡ marker_of before.entries s
  pub done : (s : ℕ) → (Contains active s → ⊥) → lookup (is_at (nat_cmp s)) rest ≡ None → marker_of now.entries s ≡ unwrap_or (lookup (is_at (nat_cmp s)) all) (marker_of before.entries s)
  pub marked : (s m : ℕ) → IsMarked now.entries s m → IsMarked before.entries s m ⊎ ((Contains active s → ⊥) × (lookup (is_at (nat_cmp s)) all ≡ Some m))
  pub still : ((s : ℕ) → (Contains active s → ⊥) → lookup (is_at (nat_cmp s)) all ≡ None) → now ≡ before
  pub same : now ≡ record before { entries = now.entries; staged = now.staged }
  pub found : AllByRecursion (λ e. lookup (is_at (nat_cmp e.0)) all ≡ Some e.1) rest

pub staging_starts : (active : List ℕ) (all : List (ℕ × ℕ)) (before : Store Key8 ℕ) → All (λ e. lookup (is_at (nat_cmp e.0)) all ≡ Some e.1) all → Staging active all all before before
staging_starts active all before found = record {
  active_stay = λ s has. refl;
  done = λ s no none. sym (ap (λ (o : Option ℕ). unwrap_or o (marker_of before.entries s)) none);
  marked = λ s m has. inl has;
  still = λ none. refl;
  same = refl;
  found = recursion_from_All (λ e. lookup (is_at (nat_cmp e.0)) all ≡ Some e.1) all found;
}

pub staging_goes_on : (active : List ℕ) (all rest : List (ℕ × ℕ)) (k v : ℕ) (before mid now : Store Key8 ℕ) → Staging active all ((k, v) ∷ rest) before mid
    → ((Contains active k → ⊥) → marker_of now.entries k ≡ v)
    → ((s : ℕ) → (s ≡ k → Contains active k) → marker_of now.entries s ≡ marker_of mid.entries s)
    → ((s m : ℕ) → IsMarked now.entries s m → IsMarked mid.entries s m ⊎ ((Contains active k → ⊥) × (s ≡ k) × (m ≡ v)))
    → (Contains active k → now ≡ mid)
    → now ≡ record mid { entries = now.entries; staged = now.staged }
    → Staging active all rest before now
staging_goes_on active all rest k v before mid now was here others marks kept same = record {
  active_stay = λ s has. others s (λ is. subst (Contains active) is has) ∙ was.active_stay s has;
  done = λ s no none. ⊎_elim
      (λ is. subst (λ (x : ℕ). marker_of now.entries x ≡ unwrap_or (lookup (is_at (nat_cmp x)) all) (marker_of before.entries x)) (sym is)
      (here (λ has. no (subst (Contains active) (sym is) has)) ∙ sym (ap (λ (o : Option ℕ). unwrap_or o (marker_of before.entries k)) was.found.0)))
      (λ other. others s (λ is. absurd (other is))
      ∙ was.done s no (lookup_tail (is_at (nat_cmp s)) (k, v) rest (false_from_ne_true (is_at (nat_cmp s) k) (λ at. other (at_same s k at))) ∙ none))
      (cases_eq s k);
  marked = λ s m has. ⊎_elim
      (was.marked s m)
      (λ (out : (Contains active k → ⊥) × (s ≡ k) × (m ≡ v)). inr (
        (λ held. out.0 (subst (Contains active) out.1 held)),
        subst (λ (x : ℕ). lookup (is_at (nat_cmp x)) all ≡ Some m) (sym out.1) (was.found.0 ∙ ap Some (sym out.2)),
      ))
      (marks s m has);
  still = λ none. ⊎_elim
      (λ has. kept has ∙ was.still none)
      (λ no. absurd (cc (none k no, was.found.0)))
      (contains_or_not active k);
  same = same ∙ ap (λ (m : Store Key8 ℕ). record m { entries = now.entries; staged = now.staged }) was.same;
  found = was.found.1;
}

-- ---- lengths that are noted
-- of the named sections these lengths are noted as synced
pub record Noted (IsNamed : ℕ → Type 0) (len : ℕ → ℕ) (old new : Tracked) : Type 0 where
  pub trails : Trails new
  pub named : (s : ℕ) → IsNamed s → synced_of new s ≡ len s
  pub others : (s : ℕ) → (IsNamed s → ⊥) → new.trailing s ≡ old.trailing s
  pub store : new.store ≡ old.store

pub noted_none : (len : ℕ → ℕ) (old : Tracked) → Trails old → Noted (Contains []) len old old
noted_none len old trails = record { trails = trails; named = λ s has. absurd (omega (arith, has.1)); others = λ s not. refl; store = refl }

pub noted_more : (xs : List ℕ) (x : ℕ) (len : ℕ → ℕ) (old mid now : Tracked) → Noted (Contains xs) len old mid → Trails now → synced_of now x ≡ len x → ((s : ℕ) → s ≢ x → now.trailing s ≡ mid.trailing s) → now.store ≡ mid.store
    → Noted (Contains (xs ++ x ∷ [])) len old now
noted_more xs x len old mid now was trails here others store = record {
  trails = trails;
  named = λ s has. ⊎_elim
      (λ is. subst (λ y. synced_of now y ≡ len y) (sym is) here)
      (λ other. ap (λ (o : Option ℕ). unwrap_or o (marker_of now.store.entries s)) (others s other) ∙ ap (λ (u : Store Key8 ℕ). unwrap_or (mid.trailing s) (marker_of u.entries s)) store
      ∙ was.named s (before s has other))
      (cases_eq s x);
  others = λ s not. others s (λ is. not (subst (Contains (xs ++ x ∷ [])) (sym is) (Contains-push xs x))) ∙ was.others s (λ has. not (Contains-append_left xs (x ∷ []) s has));
  store = store ∙ was.store;
}
  where
    before : (s : ℕ) → Contains (xs ++ x ∷ []) s → (s ≡ x → ⊥) → Contains xs s
    before s has other = elim (Contains-push_cases xs x s has) [
      | inl earlier ↦ earlier
      | inr is ↦ absurd (other (sym is))
    ]

-- ---- after the markers of the sections that trail are staged
module _ (active : List ℕ) (old new : Tracked)
    (moved : (s : ℕ) → (Contains active s → ⊥) → marker_of new.store.entries s ≡ synced_of old s)
    (kept : (s : ℕ) → Contains active s → marker_of new.store.entries s ≡ marker_of old.store.entries s)
    (stay : (s : ℕ) → Contains active s → new.trailing s ≡ old.trailing s)
    (gone : (s : ℕ) → (Contains active s → ⊥) → new.trailing s ≡ None) where
  pub staged_trails : Trails old → Trails new
  staged_trails trails s n is = ⊎_elim
      (λ has. λ same. trails s n (sym (stay s has) ∙ is) (same ∙ kept s has))
      (λ no. absurd (cc (gone s no, is)))
      (contains_or_not active s)

  pub staged_synced : (s : ℕ) → synced_of new s ≡ synced_of old s
  staged_synced s = ⊎_elim
      (λ has. ap (λ (o : Option ℕ). unwrap_or o (marker_of new.store.entries s)) (stay s has) ∙ ap (unwrap_or (old.trailing s)) (kept s has))
      (λ no. ap (λ (o : Option ℕ). unwrap_or o (marker_of new.store.entries s)) (gone s no) ∙ moved s no)
      (contains_or_not active s)

-- ---- what is left at or above a bound
kept_or_not : (test : Key8 → Bool) (b : Bool) (e : Key8 × ℕ) (rest : MarkerMap) → lookup test (cond b (e ∷ rest) rest) ≡ cond b (cond (test e.0) (Some e.1) (lookup test rest)) (lookup test rest)
kept_or_not test true e rest = refl
kept_or_not test false e rest = refl

both_none : (b : Bool) → cond {A = Option ℕ} b None None ≡ None
both_none true = refl
both_none false = refl

-- b says whether an entry is kept, t whether it is looked for, and low whether such a one is kept
kept_where : (b t low : Bool) (v : ℕ) (left all : Option ℕ) → (t ≡ true → b ≡ low) → left ≡ cond low all None → cond b (cond t (Some v) left) left ≡ cond low (cond t (Some v) all) None
kept_where true true true v left all same tail = refl
kept_where true true false v left all same tail = absurd (cc (same refl))
kept_where true false low v left all same tail = tail
kept_where false true true v left all same tail = absurd (cc (same refl))
kept_where false true false v left all same tail = tail
kept_where false false low v left all same tail = tail

module _ (min : ℕ) {F : Type 0} (g : Shared F (Bor Key8 × (Bor ℕ × Unit {0})) Bool) (test : F)
    (says : (key : Bor Key8) (value : Bor ℕ) (b : Bool) → g.post test (key, (value, tt)) b → IsFrom min key.now b) where
  told : (k : Key8) (v : ℕ) (b : Bool) → AnswersAt g test k v b → IsFrom min k b
  told k v b t = subst (λ (x : Key8). IsFrom min x b) t.shows.0 (says t.key t.value b t.says)

  marked_at : (s : ℕ) → s < 2 ^ 64 → (k : Key8) (b : Bool) → IsFrom min k b → is_key_of s k ≡ true → b ≡ nat_le min s
  marked_at s small k b from is = from.answers ∙ ap (nat_le min) (same_section from.section s from.fits small (from.bytes ∙ when_eq (key8_bytes k) (to_be_bytes w64 s) is))

  left_at : (s : ℕ) → s < 2 ^ 64 → (es kept : MarkerMap) → Retained (AnswersAt g test) es kept → lookup (is_key_of s) kept ≡ cond (nat_le min s) (lookup (is_key_of s) es) None
  left_at s small [] kept is = ap (lookup (is_key_of s)) is ∙ sym (both_none (nat_le min s))
  left_at s small (e ∷ es) kept (b, rest, answer, more, is) =
      ap (lookup (is_key_of s)) is ∙ kept_or_not (is_key_of s) b e rest
      ∙ kept_where b (is_key_of s e.0) (nat_le min s) e.1 (lookup (is_key_of s) rest) (lookup (is_key_of s) es) (marked_at s small e.0 b (told e.0 e.1 b answer)) (left_at s small es rest more)

  pub marker_stays : (es kept : MarkerMap) → Retained (AnswersAt g test) es kept → (s : ℕ) → min ≤ s → marker_of kept s ≡ marker_of es s
  marker_stays es kept left s low = ⊎_elim
      (λ small. marker_below kept s small
      ∙ ap (λ (o : Option ℕ). unwrap_or o 0) (left_at s small es kept left ∙ cond-true (nat_le min s) _ _ (le-leb min s low))
      ∙ sym (marker_below es s small))
      (λ past. marker_past kept s past ∙ sym (marker_past es s past))
      (cases_lt s (2 ^ 64))

  pub marker_leaves : (es kept : MarkerMap) → Retained (AnswersAt g test) es kept → (s : ℕ) → s < min → marker_of kept s ≡ 0
  marker_leaves es kept left s high = ⊎_elim
      (λ small. marker_below kept s small
      ∙ ap (λ (o : Option ℕ). unwrap_or o 0) (left_at s small es kept left ∙ cond-false (nat_le min s) _ _ (lt-leb min s high)))
      (λ past. marker_past kept s past)
      (cases_lt s (2 ^ 64))

  pub marked_left : (es kept : MarkerMap) → Retained (AnswersAt g test) es kept → (s m : ℕ) → IsMarked kept s m → (min ≤ s) × IsMarked es s m
  marked_left es kept left s m has = ⊎_elim
      (λ (high : s < min). absurd (cc (left_at s has.0 es kept left ∙ cond-false (nat_le min s) _ _ (lt-leb min s high), has.1)))
      (λ (low : min ≤ s). (low, (has.0, sym (left_at s has.0 es kept left ∙ cond-true (nat_le min s) _ _ (le-leb min s low)) ∙ has.1)))
      (cases_lt s min)

  -- where no section below has a marker, all are left
  pub all_left : (es kept : MarkerMap) → Retained (AnswersAt g test) es kept → ((s m : ℕ) → s < min → IsMarked es s m → ⊥) → kept ≡ es
  all_left [] kept is none = is
  all_left (e ∷ es) kept (b, rest, answer, more, is) none =
      is ∙ ap (λ (x : Bool). cond x (e ∷ rest) rest) yes ∙ ap (λ (l : MarkerMap). e ∷ l) (all_left es rest more later)
    where
      from : IsFrom min e.0 b
      from = told e.0 e.1 b answer

      its_key : is_key_of from.section e.0 ≡ true
      its_key = eq_when (key8_bytes e.0) (to_be_bytes w64 from.section) (sym from.bytes)

      low : min ≤ from.section
      low = ⊎_elim
          (λ high. absurd (none from.section e.1 high (from.fits, lookup_head (is_key_of from.section) e es its_key)))
          (λ (h : min ≤ from.section). h)
          (cases_lt from.section min)

      yes : b ≡ true
      yes = from.answers ∙ le-leb min from.section low

      later : (s m : ℕ) → s < min → IsMarked es s m → ⊥
      later s m high has = none s m high (
        has.0,
        lookup_tail (is_key_of s) e es (false_from_ne_true (is_key_of s e.0) (λ at.
            let same : from.section ≡ s = same_section from.section s from.fits has.0 (from.bytes ∙ when_eq (key8_bytes e.0) (to_be_bytes w64 s) at) in
            omega (arith, same, low, high))) ∙ has.1,
      )

-- a store with the entries that it had is the one that it was
pub store_same : (old new : Store Key8 ℕ) → new ≡ record old { entries = new.entries; staged = new.staged } → new.staged ≡ (old.staged || nat_lt (length new.entries) (length old.entries))
    → new.entries ≡ old.entries → new ≡ old
store_same old new same staged is =
    same ∙ ap (λ (l : MarkerMap). record old { entries = l; staged = new.staged }) is ∙ ap (λ (b : Bool). record old { staged = b }) (staged ∙ ap (λ (l : MarkerMap). old.staged || nat_lt (length l) (length old.entries)) is
    ∙ ap (λ (b : Bool). old.staged || b) (le-ltb (length old.entries) (length old.entries) (omega arith)) ∙ or_false old.staged)
  where
    or_false : (b : Bool) → (b || false) ≡ b
    or_false true = refl
    or_false false = refl

-- and so is one whose entries are those that a test kept, where no change is staged
pub store_left : {F : Type 0} (g : Shared F (Bor Key8 × (Bor ℕ × Unit {0})) Bool) (test : F) (old new : Store Key8 ℕ) → Retained (AnswersAt g test) old.entries new.entries
    → new ≡ record old { entries = new.entries; staged = new.staged } → new.staged ≡ (old.staged || nat_lt (length new.entries) (length old.entries)) → (length new.entries ≡ length old.entries → new.entries ≡ old.entries)
    → new.staged ≡ false → new ≡ old
store_left g test old new kept same staged all still =
    let none = or_parts old.staged (nat_lt (length new.entries) (length old.entries)) (sym staged ∙ still) in
    store_same old new same staged (all (omega (arith, retained_fewer (AnswersAt g test) old.entries new.entries kept, ltb-false (length new.entries) (length old.entries) none.1)))

-- ---- after the markers below a bound are dropped
module _ (min : ℕ) (old new : Tracked) (es fs : List (ℕ × ℕ))
    (was : (s : ℕ) → old.trailing s ≡ lookup (is_at (nat_cmp s)) es)
    (left : (s : ℕ) → new.trailing s ≡ lookup (is_at (nat_cmp s)) fs)
    (is : fs ≡ filter (λ e. nat_le min e.0) es) where
  pub trailing_stays : (s : ℕ) → min ≤ s → new.trailing s ≡ old.trailing s
  trailing_stays s low = left s ∙ found_in (nat_le min) es fs is s ∙ cond-true (nat_le min s) _ _ (le-leb min s low) ∙ sym (was s)

  pub trailing_leaves : (s : ℕ) → s < min → new.trailing s ≡ None
  trailing_leaves s high = left s ∙ found_in (nat_le min) es fs is s ∙ cond-false (nat_le min s) _ _ (lt-leb min s high)

  pub dropped_trails : ((s : ℕ) → min ≤ s → marker_of new.store.entries s ≡ marker_of old.store.entries s) → Trails old → Trails new
  dropped_trails kept trails s n has = ⊎_elim
      (λ high. absurd (cc (trailing_leaves s high, has)))
      (λ low. λ same. trails s n (sym (trailing_stays s low) ∙ has) (same ∙ kept s low))
      (cases_lt s min)

pub apart : (s k : ℕ) → s ≢ k → is_at (nat_cmp k) s ≡ false
apart s k other = false_from_ne_true (is_at (nat_cmp k) s) (λ at. other (sym (at_same k s at)))

-- a sync leaves the entries
pub synced_entries : (u : Store Key8 ℕ) → (synced_store u).entries ≡ u.entries
synced_entries u = by u.staged
  where
    by : (b : Bool) → (cond b (record u { version = u.version + 1; older = other_side u.older; staged = false }) u).entries ≡ u.entries
    by true = refl
    by false = refl

pub synced_contents : (u : Store Key8 ℕ) → contents_of (synced_store u) ≡ contents_of u
synced_contents u = by u.staged
  where
    by : (b : Bool) → contents_of (cond b (record u { version = u.version + 1; older = other_side u.older; staged = false }) u) ≡ contents_of u
    by true = refl
    by false = refl

-- ---- markers by their keys, one by one
seen : (f : Key8 → Bool) (es : MarkerMap) → is_some (lookup f es) ≡ list_any f (keys_of es)
seen f [] = refl
seen f (e ∷ es) = by (f e.0) (seen f es)
  where
    by : (b : Bool) → is_some (lookup f es) ≡ list_any f (keys_of es) → is_some (cond b (Some e.1) (lookup f es)) ≡ (b || list_any f (keys_of es))
    by true is = refl
    by false is = is

marked_there : (es : MarkerMap) (s : ℕ) → s < 2 ^ 64 → IsSome (lookup (is_key_of s) es) → IsMarked es s (marker_of es s)
marked_there es s small has = (small, by (lookup (is_key_of s) es) has ∙ ap Some (sym (marker_below es s small)))
  where
    by : (o : Option ℕ) → IsSome o → o ≡ Some (unwrap_or o 0)
    by None is = absurd (cc is)
    by (Some m) is = refl

-- The map has the markers but for those of the keys that are left, and no others. The sections of those keys are marked.
pub record Gathered (es : MarkerMap) (rest : List Key8) (got : ℕ → Option ℕ) : Type 0 where
  pub found : (s m : ℕ) → got s ≡ Some m → IsMarked es s m
  pub all : (s m : ℕ) → IsMarked es s m → (got s ≡ Some m) ⊎ (list_any (is_key_of s) rest ≡ true)
  pub left : (s : ℕ) → s < 2 ^ 64 → list_any (is_key_of s) rest ≡ true → IsMarked es s (marker_of es s)

pub gathered_none : (es : MarkerMap) (rest : List Key8) (got : ℕ → Option ℕ) → rest ≡ keys_of es → ((s : ℕ) → got s ≡ None) → Gathered es rest got
gathered_none es rest got is none = record {
  found = λ s m has. absurd (cc (none s, has));
  all = λ s m has. inr (ap (list_any (is_key_of s)) is ∙ sym (seen (is_key_of s) es) ∙ ap is_some has.1);
  left = λ s small any. marked_there es s small (seen (is_key_of s) es ∙ sym (ap (list_any (is_key_of s)) is) ∙ any);
}

pub gathered_more : (es : MarkerMap) (key : Key8) (later : List Key8) (got now : ℕ → Option ℕ) (s m : ℕ) → s < 2 ^ 64 → to_be_bytes w64 s ≡ key8_bytes key → m ≡ marker_of es s → now s ≡ Some m
    → ((t : ℕ) → is_at (nat_cmp s) t ≡ false → now t ≡ got t) → Gathered es (key ∷ later) got → Gathered es later now
gathered_more es key later got now s m small is value here others was = record {
  found = λ t n has. ⊎_elim
      (λ same.
      let one : m ≡ n = cc (here, has, same) in
      subst (λ (x : ℕ). IsMarked es x n) (sym same) (subst (λ (y : ℕ). IsMarked es s y) (sym value ∙ one) marked))
      (λ other. was.found t n (sym (others t (apart t s other)) ∙ has))
      (cases_eq t s);
  all = λ t n has. ⊎_elim
      (λ same.
      let moved : IsMarked es s n = subst (λ (x : ℕ). IsMarked es x n) same has in
      let one : n ≡ marker_of es s = cc (moved.1, marked.1) in
      inl (subst (λ (x : ℕ). now x ≡ Some n) (sym same) (here ∙ ap Some (value ∙ sym one))))
      (λ other. ⊎_elim
      (λ (old : got t ≡ Some n). inl (others t (apart t s other) ∙ old))
      (λ any. inr (sym (ap (λ (b : Bool). b || list_any (is_key_of t) later) (not_key t has.0 other)) ∙ any))
      (was.all t n has))
      (cases_eq t s);
  left = λ t t_small any. was.left t t_small (ap (λ (b : Bool). is_key_of t key || b) any ∙ or_true (is_key_of t key));
}
  where
    marked : IsMarked es s (marker_of es s)
    marked = was.left s small (ap (λ (b : Bool). b || list_any (is_key_of s) later) (eq_when (key8_bytes key) (to_be_bytes w64 s) (sym is)))

    not_key : (t : ℕ) → t < 2 ^ 64 → t ≢ s → is_key_of t key ≡ false
    not_key t t_small other = false_from_ne_true (is_key_of t key) (λ yes. other (same_section t s t_small small (sym (when_eq (key8_bytes key) (to_be_bytes w64 t) yes) ∙ sym is)))

    or_true : (b : Bool) → (b || true) ≡ true
    or_true true = refl
    or_true false = refl

-- once no key is left, the map has the markers
pub gathered_all : (es : MarkerMap) (rest : List Key8) (got : ℕ → Option ℕ) → rest ≡ [] → Gathered es rest got → (s m : ℕ) → (got s ≡ Some m) ↔ IsMarked es s m
gathered_all es rest got none was s m = (
  was.found s m,
  λ has. ⊎_elim
      (λ (old : got s ≡ Some m). old)
      (λ any. absurd (cc (sym (ap (list_any (is_key_of s)) none) ∙ any)))
      (was.all s m has),
)

-- ---- what a put of a map says, part by part
module _ {K V C : Type 0} (f : C → Format K V) (m n : Seen K V C) (key : K) (value : V) where
  pub put_value : (r : Result (Unit {0}) Error) → Puts f m n key value r → OnOk r (PutsValue (f m.config).compare m.store.entries n.store.entries key value)
  put_value (Ok x) puts = puts.puts
  put_value (Err e) puts = tt

  pub put_staged : (r : Result (Unit {0}) Error) → Puts f m n key value r → OnOk r (n.store ≡ staging m.store n.store.entries)
  put_staged (Ok x) puts = puts.same ∙ ap (staging m.store) (sym (ap (λ (u : Store K V). u.entries) puts.same))
  put_staged (Err e) puts = tt

  pub put_storable : (r : Result (Unit {0}) Error) → Puts f m n key value r → IsStorable (f m.config) value → OnOk r (MayBeSynced (f m.config) m.store.entries → MayBeSynced (f m.config) n.store.entries)
  put_storable (Ok x) puts new = λ all. puts.storable all new
  put_storable (Err e) puts new = tt

  pub put_stands : (r : Result (Unit {0}) Error) → Puts f m n key value r → StandsAsBefore f m n
  put_stands (Ok x) puts = puts.stands
  put_stands (Err e) puts = λ synced d stands. subst (λ (x : Seen K V C). Stands (f m.config) x.store synced d) (sym puts.1) stands

  pub put_cause : (r : Result (Unit {0}) Error) → Puts f m n key value r → OnErr r (r ≡ Err Mem)
  put_cause (Ok x) puts = tt
  put_cause (Err e) puts = let g : Error → Result (Unit {0}) Error = λ y. Err y in ap g puts.0
