-- What a lookup over the rows says of the machine's lists.
use Rattle.std.proofs.Common.{◌≡◌, refl, sym, ◌∙◌, ap, subst, ℕ, zero, suc, ◌<◌, ◌==◌, ◌||◌, false, List, [], ◌∷◌, map, filter, cond, slice_get, Contains, Option, None, Some, IsSomeAnd, arith}
use Rattle.std.specs.List.{list_any}
use Rattle.std.proofs.lemmas.Bool.{eq-eqb, ne_eqb}
use Rattle.blob_device.specs.Disk.{Disk}
use Rattle.sealed_pages.specs.declared.page_blob.PageBlob.{PageBlob}
use Rattle.paired.specs.Pair.{list_of, records_of}
use Rattle.paired.specs.Records as stored
use Rattle.archives.specs.Archives.{Archive, filing_of, state_of}
use Rattle.archives.specs.Commands.{Get}
use Rattle.archives.specs.Filing.{filed}
use Rattle.archives.specs.Finding.{Index, IsAt, IsIn, Key, Wanted}
use Rattle.archives.specs.IndexRecord.{index_of, key_of}
use Rattle.archives.specs.Machine.{ContainsKey, Entry, HasEntry, OpenStep, State, entries_at, first_value, section_of}
use Rattle.archives.specs.Putting.{is_taken}
use Rattle.archives.specs.Replies as reply
use Rattle.archives.specs.Rows.{Row, row_in}
use Rattle.archives.proofs.read.Records.{from_map, listed, to_map, unlisted, weaker_at}
use Rattle.blob_device.proofs.general.Options.{the_some}

-- record p of section s is the first one of its section that is wanted
pub record IsFirst {F B : Type 0} (a : Archive F B) (wanted : Wanted) (s p : ℕ) : Type 0 where
  pub here : IsAt a wanted s p
  pub first : (q : ℕ) → q < p → IsAt a wanted s q → ⊥

-- ---- elements of a list

pub both_at : {X : Type 0} (P Q : X → Type 0) (o : Option X) → IsSomeAnd o P → IsSomeAnd o Q → IsSomeAnd o (λ x. P x × Q x)
both_at P Q None is too = is
both_at P Q (Some x) is too = (is, too)

-- an element at a place is one of the list
pub contains_at : {X : Type 0} (xs : List X) (p : ℕ) (x : X) → slice_get xs p ≡ Some x → Contains xs x
contains_at [] p x is = absurd (cc is)
contains_at (y ∷ ys) zero x is = (0, omega arith, cc is)
contains_at (y ∷ ys) (suc p) x is = let m = contains_at ys p x is in (suc m.0, omega (arith, m.1), m.2)

-- and each one of the list stands at a place
at_contains : {X : Type 0} (P : X → Type 0) (xs : List X) (x : X) → Contains xs x → P x → (p : ℕ) × IsSomeAnd (slice_get xs p) P
at_contains P [] x has holds = absurd (omega (arith, has.1))
at_contains P (y ∷ ys) x (zero, lt, is) holds = (0, subst P (sym is) holds)
at_contains P (y ∷ ys) x (suc k, lt, is) holds = let m = at_contains P ys x (k, omega (arith, lt), is) holds in (suc m.0, m.1)

-- ---- a test of each element by its number

module _ {X : Type 0} (number : X → ℕ) (i : ℕ) where
  pub any_none : (xs : List X) → ((p : ℕ) → IsSomeAnd (slice_get xs p) (λ x. number x ≡ i) → ⊥) → list_any (λ x. number x == i) xs ≡ false
  any_none [] none = refl
  any_none (x ∷ xs) none = ap (λ b. b || list_any (λ y. number y == i) xs) (ne_eqb (number x) i (none 0)) ∙ any_none xs (λ p is. none (suc p) is)

-- ---- the first record with an index

first_found : {V : Type 0} (xs : List (Entry V)) (i p : ℕ) (v : V) → IsSomeAnd (slice_get xs p) (λ r. (r.index ≡ i) × (r.value ≡ v)) → ((q : ℕ) → q < p → IsSomeAnd (slice_get xs q) (λ r. r.index ≡ i) → ⊥)
    → Some v ≡ first_value (filter (λ r. r.index == i) xs)
first_found [] i p v is first = absurd is
first_found {V} (x ∷ xs) i zero v is first =
    let some : V → Option V = λ y. Some y in
    let rest : List (Entry V) = filter (λ r. r.index == i) xs in
    ap some (sym is.1) ∙ sym (ap (λ b. first_value (cond b (x ∷ rest) rest)) (eq-eqb x.index i is.0))
first_found {V} (x ∷ xs) i (suc p) v is first =
    let rest : List (Entry V) = filter (λ r. r.index == i) xs in
    first_found xs i p v is (λ q lt has. first (suc q) (omega (arith, lt)) has)
    ∙ sym (ap (λ b. first_value (cond b (x ∷ rest) rest)) (ne_eqb x.index i (first 0 (omega arith))))

first_none : {V : Type 0} (xs : List (Entry V)) (i : ℕ) → ((q : ℕ) → IsSomeAnd (slice_get xs q) (λ r. r.index ≡ i) → ⊥) → ◌≡◌ {A = Option V} None (first_value (filter (λ r. r.index == i) xs))
first_none [] i none = refl
first_none {V} (x ∷ xs) i none =
    let rest : List (Entry V) = filter (λ r. r.index == i) xs in
    first_none xs i (λ q has. none (suc q) has) ∙ sym (ap (λ b. first_value (cond b (x ∷ rest) rest)) (ne_eqb x.index i (none 0)))

-- ---- the rows

module _ {F S : Type 0} {gs : _} (a : Archive F (PageBlob S gs)) where
  -- no row has the index
  pub none_index : (i : ℕ) → ((s : ℕ) → IsIn a (Index i) s → ⊥) → is_taken a i ≡ false
  none_index i none =
      let s = section_of a.items i in
      any_none (λ r. r.index) i (a.rows s) (λ p is. none s (p, weaker_at (slice_get (a.rows s) p) (λ r same. (refl, same)) is))

  module _ (d : Disk) (shows : (s : ℕ) → a.rows s ≡ map (row_in a.key_size) (records_of a.pair d s)) where
    -- a row is that of an entry
    pub to_list : (P : Row → Type 0) (s p : ℕ) → IsSomeAnd (slice_get (a.rows s) p) P → IsSomeAnd (slice_get (list_of a.pair d s) p) (λ e. P (row_in a.key_size e.stored))
    to_list P s p is = listed a.pair d s p (λ e. P (row_in a.key_size e.stored)) (λ r has. has)
        (from_map (row_in a.key_size) P (records_of a.pair d s) p (subst (λ (rows : List Row). IsSomeAnd (slice_get rows p) P) (shows s) is))

    pub from_list : (P : Row → Type 0) (s p : ℕ) → IsSomeAnd (slice_get (list_of a.pair d s) p) (λ e. P (row_in a.key_size e.stored)) → IsSomeAnd (slice_get (a.rows s) p) P
    from_list P s p is = subst (λ (rows : List Row). IsSomeAnd (slice_get rows p) P) (sym (shows s))
        (to_map (row_in a.key_size) P (records_of a.pair d s) p (unlisted a.pair d s p (λ e. P (row_in a.key_size e.stored)) (λ r has. has) is))

    abbrev filed_as : stored.Entry → Entry (List ℕ)
    filed_as e = filed (filing_of a) e

    -- a record with the key is one of the lists
    pub key_found : (k : List ℕ) (s p : ℕ) (v : List ℕ) → IsAt a (Key k) s p → IsSomeAnd (slice_get (list_of a.pair d s) p) (λ e. e.value ≡ v) → HasEntry (state_of a d) k v
    key_found k s p v is value =
        let HasKey : stored.Entry → Type 0 = λ e. key_of a.key_size e.stored ≡ k in
        let both = both_at HasKey (λ e. e.value ≡ v) (slice_get (list_of a.pair d s) p) (to_list (λ r. r.key ≡ k) s p is) value in
        let entry = the_some (slice_get (map filed_as (list_of a.pair d s)) p) (to_map filed_as (λ r. (r.key ≡ k) × (r.value ≡ v)) (list_of a.pair d s) p both) in
        (s, entry.0, contains_at (map filed_as (list_of a.pair d s)) p entry.0 entry.1, entry.2.0, entry.2.1)

    pub key_none : (k : List ℕ) → ((s : ℕ) → IsIn a (Key k) s → ⊥) → ContainsKey (state_of a d) k → ⊥
    key_none k none (v, (s, r, is, key, value)) =
        let at = at_contains (λ (x : Entry (List ℕ)). x.key ≡ k) (map filed_as (list_of a.pair d s)) r is key in
        none s (at.0, from_list (λ x. x.key ≡ k) s at.0 (from_map filed_as (λ x. x.key ≡ k) (list_of a.pair d s) at.0 at.1))

    -- a value of the entry
    a_value : (P : stored.Entry → Type 0) (s p : ℕ) → IsSomeAnd (slice_get (list_of a.pair d s) p) P → (v : List ℕ) × IsSomeAnd (slice_get (list_of a.pair d s) p) (λ e. e.value ≡ v)
    a_value P s p is = let found = the_some (slice_get (list_of a.pair d s) p) is in
        (found.0.value, subst (λ (o : Option stored.Entry). IsSomeAnd o (λ e. e.value ≡ found.0.value)) (sym found.1) refl)

    -- ---- the replies

    pub has_key : (k : List ℕ) (s p : ℕ) → IsAt a (Key k) s p → ContainsKey (state_of a d) k
    has_key k s p is =
        let value = a_value (λ e. key_of a.key_size e.stored ≡ k) s p (to_list (λ r. r.key ≡ k) s p is) in
        (value.0, key_found k s p value.0 is value.1)

    pub get_found : (i s p : ℕ) → IsFirst a (Index i) s p → (v : List ℕ) → IsSomeAnd (slice_get (list_of a.pair d s) p) (λ e. e.value ≡ v) → (now : State (List ℕ)) → now ≡ state_of a d
        → OpenStep a.items (state_of a d) (Get i) (reply.Value (Some v)) now
    get_found i s p first v value now same = (by_index, same)
      where
        xs : List (Entry (List ℕ))
        xs = map filed_as (list_of a.pair d s)

        here : s ≡ section_of a.items i
        here = (the_some (slice_get (a.rows s) p) first.here).2.0

        value_here : IsSomeAnd (slice_get xs p) (λ r. (r.index ≡ i) × (r.value ≡ v))
        value_here = to_map filed_as (λ r. (r.index ≡ i) × (r.value ≡ v)) (list_of a.pair d s) p
            (both_at (λ e. index_of e.stored ≡ i) (λ e. e.value ≡ v) (slice_get (list_of a.pair d s) p) (to_list (λ r. r.index ≡ i) s p (weaker_at (slice_get (a.rows s) p) (λ r both. both.1) first.here)) value)

        by_index : Some v ≡ first_value (entries_at a.items (state_of a d) i)
        by_index = subst (λ (t : ℕ). Some v ≡ first_value (filter (λ r. r.index == i) (map filed_as (list_of a.pair d t)))) here
            (first_found xs i p v value_here
            (λ q lt has. first.first q lt (weaker_at (slice_get (a.rows s) q) (λ r is. (here, is)) (from_list (λ r. r.index ≡ i) s q (from_map filed_as (λ r. r.index ≡ i) (list_of a.pair d s) q has)))))

    pub get_none : (i : ℕ) → ((s : ℕ) → IsIn a (Index i) s → ⊥) → OpenStep a.items (state_of a d) (Get i) (reply.Value None) (state_of a d)
    get_none i none =
        let s = section_of a.items i in (
          first_none (map filed_as (list_of a.pair d s)) i
              (λ q has. none s (q, weaker_at (slice_get (a.rows s) q) (λ r is. (refl, is)) (from_list (λ r. r.index ≡ i) s q (from_map filed_as (λ r. r.index ≡ i) (list_of a.pair d s) q has)))),
          refl,
        )
