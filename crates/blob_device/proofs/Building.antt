-- A table made of another: one value more.
use Rattle.std.proofs.Common.{◌≡◌, ◌≢◌, ⊎_elim, ℕ, Bool, true, false, cond, List, [], ◌∷◌, map, Bor, Option, Some, None, Vec, Ordering, refl, sym, ◌∙◌, ap, subst}
use Rattle.std.specs.Str.{bytes_eq}
use Rattle.std.specs.Option.{option_map, option_and_then}
use Rattle.std.specs.Ordering.{nat_cmp, is_eq}
use Rattle.std.specs.declared.cmp.Ordering.TheVariants.{Less}
use Rattle.std.specs.Map.{lookup, keys_of}
use Rattle.std.specs.Map.Iter.{deref_pair}
use Rattle.std.specs.List.{AllByRecursion}
use Rattle.std.specs.List.Sorted.{IsStrictlySortedBy}
use Rattle.std.proofs.lemmas.Map.Text.{is_eq-slice_cmp}
use Rattle.std.specs.Cmp.Lexicographic.{slice_cmp}
use Rattle.std.specs.BTreeMap.{BTreeMap, UpdatesBy}
use Rattle.std.specs.declared.alloc.Global.{Global}
use Rattle.std.proofs.lemmas.Slice.Eq.{bytes_eq-Decides}
use Rattle.blob_device.specs.Disk.{Key}
use Rattle.blob_device.specs.Tables.{at_name, at_key, Partitions, by_bytes}
use Rattle.blob_device.specs.Building.{placed, names_built, table_built, IsSortedTable, state_in, after_all, state_at}
use Rattle.blob_device.proofs.Maps.{map_here, map_other, same_or_differ, differ}

bytes_same : (x : List ℕ) → bytes_eq x x ≡ true
bytes_same x = (bytes_eq-Decides x x).1 refl

pub placed_is : {X : Type 0} (key name : List ℕ) (m n : BTreeMap (Vec ℕ Global) X) (v : X) → key ≡ name → UpdatesBy by_bytes (λ (k : Vec ℕ Global). slice_cmp nat_cmp key k.items) m n (Some v)
    → (q : List ℕ) → at_name n q ≡ placed (at_name m) name (Some v) q
placed_is key name m n v same h q = ⊎_elim
    (λ (is : q ≡ key). ap (at_name n) is ∙ map_here key m n (Some v) h ∙ sym (ap (λ (b : Bool). cond b (Some v) (at_name m q)) (ap (λ (l : List ℕ). bytes_eq l name) (is ∙ same) ∙ bytes_same name)))
    (λ (other : q ≢ key). map_other key m n (Some v) h q other ∙ sym (ap (λ (b : Bool). cond b (Some v) (at_name m q)) (differ name q (λ e. other (sym e ∙ sym same)))))
    (same_or_differ q key)

-- what is seen of what is placed
pub placed_seen : {W T : Type 0} (sees : W → T) (f : List ℕ → Option W) (name : List ℕ) (made : Option W) (q : List ℕ) → option_map sees (placed f name made q) ≡ placed (λ p. option_map sees (f p)) name (option_map sees made) q
placed_seen sees f name None q = refl
placed_seen sees f name (Some v) q = go (bytes_eq q name)
  where
    go : (b : Bool) → option_map sees (cond b (Some v) (f q)) ≡ cond b (Some (sees v)) (option_map sees (f q))
    go true = refl
    go false = refl

-- one value more
module _ {V W S T : Type 0} (makes : S → V → Option T) (next : S → V → S) (sees : W → T) where
  module _ (s s' : S) (f f' : List ℕ → Option W) (key : Vec ℕ Global) (name : List ℕ) (v : V) (it es : List (Vec ℕ Global × V)) (made : Option W)
      (is : it ≡ (key, v) ∷ es) (named : name ≡ key.items) (made_is : option_map sees made ≡ makes s v) (next_is : s' ≡ next s v) (put_is : (q : List ℕ) → f' q ≡ placed f name made q) where
    pub build_more : (all : List ℕ → Option T) → ((q : List ℕ) → names_built {V = V} {S = S} {T = T} makes next s it (λ p. option_map sees (f p)) q ≡ all q) → (q : List ℕ) → names_built {V = V} {S = S} {T = T} makes next s' es (λ p. option_map sees (f' p)) q ≡ all q
    build_more all before q =
        let each : (p : List ℕ) → option_map sees (f' p) ≡ placed (λ r. option_map sees (f r)) key.items (makes s v) p =
        λ p. ap (option_map sees) (put_is p) ∙ placed_seen sees f name made p ∙ (λ i. placed (λ r. option_map sees (f r)) (named i) (made_is i) p) in
        ap (λ (g : List ℕ → Option T). names_built {V = V} {S = S} {T = T} makes next s' es g q) (λ i p. each p i)
        ∙ ap (λ (u : S). names_built {V = V} {S = S} {T = T} makes next u es (placed (λ r. option_map sees (f r)) key.items (makes s v)) q) next_is
        ∙ sym (ap (λ (l : List (Vec ℕ Global × V)). names_built {V = V} {S = S} {T = T} makes next s l (λ r. option_map sees (f r)) q) is)
        ∙ before q

    pub after_more : (end : S) → after_all {V = V} {S = S} next s it ≡ end → after_all {V = V} {S = S} next s' es ≡ end
    after_more end before = ap (λ (u : S). after_all {V = V} {S = S} next u es) next_is ∙ sym (ap (after_all {V = V} {S = S} next s) is) ∙ before

-- one partition more
module _ {V W S T : Type 0} (makes : S → V → Option T) (next : S → V → S) (sees : W → T) where
  module _ (s s' : S) (f f' : Partitions W) (key : Vec ℕ Global) (partition : List ℕ) (names : BTreeMap (Vec ℕ Global) V) (it es : List (Vec ℕ Global × BTreeMap (Vec ℕ Global) V)) (made : BTreeMap (Vec ℕ Global) W)
      (is : it ≡ (key, names) ∷ es) (named : partition ≡ key.items)
      (made_is : (q : List ℕ) → option_map sees (at_name made q) ≡ names_built {V = V} {S = S} {T = T} makes next s names.entries (λ _. None) q)
      (next_is : s' ≡ after_all {V = V} {S = S} next s names.entries) (put_is : (q : List ℕ) → at_name f' q ≡ placed (at_name f) partition (Some made) q) where
    seen_here : (k : Key) (b : Bool) → option_map sees (option_and_then (λ (m : BTreeMap (Vec ℕ Global) W). at_name m k.1) (cond b (Some made) (at_name f k.0))) ≡ cond b (option_map sees (at_name made k.1)) (option_map sees (at_key f k))
    seen_here k true = refl
    seen_here k false = refl

    pub table_more : (all : Key → Option T) → ((k : Key) → table_built {V = V} {S = S} {T = T} makes next s it (λ p. option_map sees (at_key f p)) k ≡ all k)
        → (k : Key) → table_built {V = V} {S = S} {T = T} makes next s' es (λ p. option_map sees (at_key f' p)) k ≡ all k
    table_more all before k =
        let each : (p : Key) → option_map sees (at_key f' p) ≡ cond (bytes_eq p.0 key.items) (names_built {V = V} {S = S} {T = T} makes next s names.entries (λ _. None) p.1) (option_map sees (at_key f p)) =
        λ p. ap (λ o. option_map sees (option_and_then (λ (m : BTreeMap (Vec ℕ Global) W). at_name m p.1) o)) (put_is p.0) ∙ seen_here p (bytes_eq p.0 partition)
        ∙ (λ i. cond (bytes_eq p.0 (named i)) (made_is p.1 i) (option_map sees (at_key f p))) in
        ap (λ (g : Key → Option T). table_built {V = V} {S = S} {T = T} makes next s' es g k) (λ i p. each p i)
        ∙ ap (λ (u : S). table_built {V = V} {S = S} {T = T} makes next u es (λ p. cond (bytes_eq p.0 key.items) (names_built {V = V} {S = S} {T = T} makes next s names.entries (λ _. None) p.1) (option_map sees (at_key f p))) k) next_is
        ∙ sym (ap (λ (l : List (Vec ℕ Global × BTreeMap (Vec ℕ Global) V)). table_built {V = V} {S = S} {T = T} makes next s l (λ p. option_map sees (at_key f p)) k) is)
        ∙ before k

abbrev name_test : List ℕ → Vec ℕ Global → Bool
name_test q k = is_eq (slice_cmp nat_cmp q k.items)

name_test_is : (q : List ℕ) (k : Vec ℕ Global) → name_test q k ≡ bytes_eq q k.items
name_test_is q k = is_eq-slice_cmp q k.items

-- a name is not among those that come after it
behind_none : {V : Type 0} (x : Vec ℕ Global) (es : List (Vec ℕ Global × V)) → AllByRecursion (λ y. by_bytes x y ≡ Less) (keys_of es) → lookup (name_test x.items) es ≡ None
behind_none x [] all = refl
behind_none x (e ∷ es) all = ap (λ (o : Ordering). cond (is_eq o) (Some e.1) (lookup (name_test x.items) es)) all.0 ∙ behind_none x es all.1

abbrev or_else : {T : Type 0} → Option T → Option T → Option T
or_else None d = d
or_else (Some x) d = Some x

placed_here : {T : Type 0} (f : List ℕ → Option T) (name : List ℕ) (o : Option T) → placed f name o name ≡ or_else o (f name)
placed_here f name None = refl
placed_here f name (Some x) = ap (λ (b : Bool). cond b (Some x) (f name)) (bytes_same name)

placed_other : {T : Type 0} (f : List ℕ → Option T) (name q : List ℕ) (o : Option T) → q ≢ name → placed f name o q ≡ f q
placed_other f name q None other = refl
placed_other f name q (Some x) other = ap (λ (b : Bool). cond b (Some x) (f q)) (differ name q (λ e. other (sym e)))

module _ {V S T : Type 0} (makes : S → V → Option T) (next : S → V → S) where
  abbrev found : S → Option V → Option T → Option T
  found s None d = d
  found s (Some v) d = or_else (makes s v) d

  names_found : (s : S) (es : List (Vec ℕ Global × V)) → IsStrictlySortedBy by_bytes (keys_of es) → (f : List ℕ → Option T) (q : List ℕ) → names_built {V = V} {S = S} {T = T} makes next s es f q ≡ found (state_in {V = V} {S = S} next s es q) (lookup (name_test q) es) (f q)
  unfolding IsStrictlySortedBy
  names_found s [] sorted f q = refl
  names_found s (e ∷ es) sorted f q = ⊎_elim
      (λ (is : q ≡ e.0.items). subst (λ (l : List ℕ). names_built {V = V} {S = S} {T = T} makes next s (e ∷ es) f l ≡ found (state_in {V = V} {S = S} next s (e ∷ es) l) (lookup (name_test l) (e ∷ es)) (f l)) (sym is)
      (names_found (next s e.1) es sorted.1 (placed f e.0.items (makes s e.1)) e.0.items
      ∙ ap (λ (o : Option V). found (state_in {V = V} {S = S} next (next s e.1) es e.0.items) o (placed f e.0.items (makes s e.1) e.0.items)) (behind_none e.0 es sorted.0)
      ∙ placed_here f e.0.items (makes s e.1)
      ∙ sym (ap (λ (b : Bool). found (cond b s (state_in {V = V} {S = S} next (next s e.1) es e.0.items)) (lookup (name_test e.0.items) (e ∷ es)) (f e.0.items)) (bytes_same e.0.items)
      ∙ ap (λ (b : Bool). found s (cond b (Some e.1) (lookup (name_test e.0.items) es)) (f e.0.items)) (name_test_is e.0.items e.0 ∙ bytes_same e.0.items))))
      (λ (other : q ≢ e.0.items). let no : bytes_eq q e.0.items ≡ false = differ e.0.items q (λ x. other (sym x)) in
      names_found (next s e.1) es sorted.1 (placed f e.0.items (makes s e.1)) q
      ∙ ap (λ (d : Option T). found (state_in {V = V} {S = S} next (next s e.1) es q) (lookup (name_test q) es) d) (placed_other f e.0.items q (makes s e.1) other)
      ∙ sym (ap (λ (b : Bool). found (cond b s (state_in {V = V} {S = S} next (next s e.1) es q)) (lookup (name_test q) (e ∷ es)) (f q)) no
      ∙ ap (λ (b : Bool). found (state_in {V = V} {S = S} next (next s e.1) es q) (cond b (Some e.1) (lookup (name_test q) es)) (f q)) (name_test_is q e.0 ∙ no)))
      (same_or_differ q e.0.items)

  found_none : (s : S) (o : Option V) → found s o None ≡ option_and_then (makes s) o
  found_none s None = refl
  found_none s (Some v) = go (makes s v)
    where
      go : (m : Option T) → or_else m None ≡ m
      go None = refl
      go (Some x) = refl

  abbrev Shelves : Type 0
  Shelves = List (Vec ℕ Global × BTreeMap (Vec ℕ Global) V)

  -- what is found in a partition that is there, and else
  abbrev found_in : S → Option (BTreeMap (Vec ℕ Global) V) → List ℕ → Option T → Option T
  found_in s None q d = d
  found_in s (Some names) q d = option_and_then (makes s) (at_name names q)

  found_after : (s : S) (ps : Shelves) → IsSortedTable {V = V} ps → (f : Key → Option T) (k : Key) → table_built {V = V} {S = S} {T = T} makes next s ps f k ≡ found_in (state_at {V = V} {S = S} next s ps k) (lookup (name_test k.0) ps) k.1 (f k)
  unfolding IsStrictlySortedBy
  found_after s [] sorted f k = refl
  found_after s (p ∷ ps) sorted f k = ⊎_elim
      (λ (is : k.0 ≡ p.0.items). let yes : bytes_eq k.0 p.0.items ≡ true = ap (λ (l : List ℕ). bytes_eq l p.0.items) is ∙ bytes_same p.0.items in
      let none : lookup (name_test k.0) ps ≡ None = ap (λ (l : List ℕ). lookup (name_test l) ps) is ∙ behind_none p.0 ps sorted.0.0 in
      found_after (after_all {V = V} {S = S} next s p.1.entries) ps (sorted.0.1, sorted.1.1) (λ q. cond (bytes_eq q.0 p.0.items) (names_built {V = V} {S = S} {T = T} makes next s p.1.entries (λ _. None) q.1) (f q)) k
      ∙ ap (λ o. found_in (state_at {V = V} {S = S} next (after_all {V = V} {S = S} next s p.1.entries) ps k) o k.1 (cond (bytes_eq k.0 p.0.items) (names_built {V = V} {S = S} {T = T} makes next s p.1.entries (λ _. None) k.1) (f k))) none
      ∙ ap (λ (b : Bool). cond b (names_built {V = V} {S = S} {T = T} makes next s p.1.entries (λ _. None) k.1) (f k)) yes
      ∙ names_found s p.1.entries sorted.1.0 (λ _. None) k.1 ∙ found_none (state_in {V = V} {S = S} next s p.1.entries k.1) (lookup (name_test k.1) p.1.entries)
      ∙ sym (ap (λ (b : Bool). found_in (cond b (state_in {V = V} {S = S} next s p.1.entries k.1) (state_at {V = V} {S = S} next (after_all {V = V} {S = S} next s p.1.entries) ps k)) (lookup (name_test k.0) (p ∷ ps)) k.1 (f k)) yes
      ∙ ap (λ (b : Bool). found_in (state_in {V = V} {S = S} next s p.1.entries k.1) (cond b (Some p.1) (lookup (name_test k.0) ps)) k.1 (f k)) (name_test_is k.0 p.0 ∙ yes)))
      (λ (other : k.0 ≢ p.0.items). let no : bytes_eq k.0 p.0.items ≡ false = differ p.0.items k.0 (λ x. other (sym x)) in
      found_after (after_all {V = V} {S = S} next s p.1.entries) ps (sorted.0.1, sorted.1.1) (λ q. cond (bytes_eq q.0 p.0.items) (names_built {V = V} {S = S} {T = T} makes next s p.1.entries (λ _. None) q.1) (f q)) k
      ∙ ap (λ (b : Bool). found_in (state_at {V = V} {S = S} next (after_all {V = V} {S = S} next s p.1.entries) ps k) (lookup (name_test k.0) ps) k.1 (cond b (names_built {V = V} {S = S} {T = T} makes next s p.1.entries (λ _. None) k.1) (f k))) no
      ∙ sym (ap (λ (b : Bool). found_in (cond b (state_in {V = V} {S = S} next s p.1.entries k.1) (state_at {V = V} {S = S} next (after_all {V = V} {S = S} next s p.1.entries) ps k)) (lookup (name_test k.0) (p ∷ ps)) k.1 (f k)) no
      ∙ ap (λ (b : Bool). found_in (state_at {V = V} {S = S} next (after_all {V = V} {S = S} next s p.1.entries) ps k) (cond b (Some p.1) (lookup (name_test k.0) ps)) k.1 (f k)) (name_test_is k.0 p.0 ∙ no)))
      (same_or_differ k.0 p.0.items)

  found_in_none : (s : S) (o : Option (BTreeMap (Vec ℕ Global) V)) (q : List ℕ) → found_in s o q None ≡ option_and_then (makes s) (option_and_then (λ (names : BTreeMap (Vec ℕ Global) V). at_name names q) o)
  found_in_none s None q = refl
  found_in_none s (Some names) q = refl

  -- the table has at each key what was made of the value there
  pub table_found : (s : S) (table : Partitions V) → IsSortedTable {V = V} table.entries → (k : Key) → table_built {V = V} {S = S} {T = T} makes next s table.entries (λ _. None) k ≡ option_and_then (makes (state_at {V = V} {S = S} next s table.entries k)) (at_key table k)
  table_found s table sorted k = found_after s table.entries sorted (λ _. None) k ∙ found_in_none (state_at {V = V} {S = S} next s table.entries k) (at_name table k.0) k.1

-- what holds of each item that a loop was given holds of each entry
pub all_shown : {V : Type 0} (P : Vec ℕ Global × V → Type 0) (xs : List (Bor (Vec ℕ Global) × Bor V)) → AllByRecursion (λ p. P (deref_pair p)) xs → AllByRecursion P (map deref_pair xs)
all_shown P [] all = tt
all_shown P (x ∷ xs) all = (all.0, all_shown P xs all.1)

-- what each step keeps holds of the state at each key
module _ {V S : Type 0} (next : S → V → S) (P : S → Type 0) (keeps : (s : S) (v : V) → P s → P (next s v)) where
  kept_cond : (b : Bool) (x y : S) → P x → P y → P (cond b x y)
  kept_cond true x y px py = px
  kept_cond false x y px py = py

  kept_in : (s : S) (es : List (Vec ℕ Global × V)) (q : List ℕ) → P s → P (state_in {V = V} {S = S} next s es q)
  kept_in s [] q was = was
  kept_in s (e ∷ es) q was = kept_cond (bytes_eq q e.0.items) s (state_in {V = V} {S = S} next (next s e.1) es q) was (kept_in (next s e.1) es q (keeps s e.1 was))

  kept_all : (s : S) (es : List (Vec ℕ Global × V)) → P s → P (after_all {V = V} {S = S} next s es)
  kept_all s [] was = was
  kept_all s (e ∷ es) was = kept_all (next s e.1) es (keeps s e.1 was)

  pub state_keeps : (s : S) (ps : List (Vec ℕ Global × BTreeMap (Vec ℕ Global) V)) (k : Key) → P s → P (state_at {V = V} {S = S} next s ps k)
  state_keeps s [] k was = was
  state_keeps s (p ∷ ps) k was = kept_cond (bytes_eq k.0 p.0.items) (state_in {V = V} {S = S} next s p.1.entries k.1) (state_at {V = V} {S = S} next (after_all {V = V} {S = S} next s p.1.entries) ps k)
      (kept_in s p.1.entries k.1 was) (state_keeps (after_all {V = V} {S = S} next s p.1.entries) ps k (kept_all s p.1.entries was))
