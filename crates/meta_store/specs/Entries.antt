-- What the calls on the entries of a map do.
use Rattle.std.specs.Prelude.{◌≡◌, Bool, cond, List, [], ◌∷◌, Option, Some}
use Rattle.std.specs.declared.cmp.Ordering.{Ordering}
use Rattle.std.specs.BTreeMap.{is_at}
use Rattle.std.specs.List.Sorted.{IsStrictlySortedBy}
use Rattle.std.specs.Map.{keys_of, lookup}
use Rattle.std.specs.Borrow.{Bor}
use Rattle.std.specs.Fn.{Shared}
use Rattle.meta_store.specs.declared.keys.KeyIter.{KeyIter}

-- the value at a key
abbrev pub value_at : {K V : Type 0} → (K → K → Ordering) → List (K × V) → K → Option V
value_at compare entries key = lookup (is_at (compare key)) entries

-- the keys of a map, in ascending order
pub record AreKeys {K V : Type 0} (compare : K → K → Ordering) (entries : List (K × V)) (ks : List K) : Type 0 where
  pub keys : ks ≡ keys_of entries
  pub ascending : IsStrictlySortedBy compare ks

-- those that are left
abbrev pub keys_left : {K V : Type 0} → KeyIter K V → List K
keys_left i = i.inner

-- the new entries have this value at one key, and at each other key what the old ones have
abbrev pub PutsValue : {K V : Type 0} → (K → K → Ordering) → List (K × V) → List (K × V) → K → V → Type 0
PutsValue {K} compare old new key value = (q : K) → value_at compare new q ≡ cond (is_at (compare key) q) (Some value) (value_at compare old q)

-- the test may answer this at a key and a value
pub record AnswersAt {F K V : Type 0} (g : Shared F (Bor K × (Bor V × Unit {0})) Bool) (test : F) (k : K) (v : V) (answer : Bool) : Type 0 where
  pub key : Bor K
  pub value : Bor V
  pub shows : (key.now ≡ k) × (value.now ≡ v)
  pub says : g.post test (key, (value, tt)) answer

-- The test was asked at each entry, and the entries at which it answered true are kept. It need not answer alike each time.
abbrev pub Retained : {K V : Type 0} → (K → V → Bool → Type 0) → List (K × V) → List (K × V) → Type 0
Retained answers [] kept = kept ≡ []
Retained {K} {V} answers (e ∷ es) kept = (b : Bool) × (rest : List (K × V)) × answers e.0 e.1 b × Retained answers es rest × (kept ≡ cond b (e ∷ rest) rest)
