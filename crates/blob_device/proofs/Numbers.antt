-- The free bytes of a mixed image, numbered over all blobs in the order of their keys.
use Rattle.std.proofs.Common.{◌≡◌, ◌≢◌, ◌↔◌, inl, inr, ⊎_elim, ℕ, zero, suc, ◌+◌, ◌<◌, ◌%◌, Bool, true, false, cond, not, ltb, ◌&&◌, ◌||◌, List, [], ◌∷◌, ◌++◌, length, get_or, map, Option, Some, None, is_some, Vec, IsTrue, Ordering, refl, sym, ◌∙◌, ap, subst, arith}
use Rattle.std.specs.List.{Contains, AllByRecursion, range_with_len}
use Rattle.std.specs.List.Sorted.{IsStrictlySortedBy}
use Rattle.std.specs.Map.{lookup, keys_of}
use Rattle.std.specs.Option.{option_and_then}
use Rattle.std.specs.Ordering.{nat_cmp, is_eq, ordering_then}
use Rattle.std.specs.declared.cmp.Ordering.TheVariants.{Less, Equal, Greater}
use Rattle.std.specs.Cmp.Lexicographic.{slice_cmp}
use Rattle.std.specs.Str.{bytes_eq}
use Rattle.std.specs.BTreeMap.{BTreeMap}
use Rattle.std.specs.declared.alloc.Global.{Global}
use Rattle.std.proofs.lemmas.Map.Text.{is_eq-slice_cmp}
use Rattle.std.proofs.lemmas.Slice.Eq.{bytes_eq-Decides}
use Rattle.std.proofs.lemmas.List.{get_or-map, length-map}
use Rattle.std.proofs.lemmas.List.Elements.{Contains-append_left, Contains-append_right, Contains-append_cases}
use Rattle.std.proofs.lemmas.List.Sums.{take_while-cons, sum_by-cons, sum_by-append}
use Rattle.blob_device.specs.declared.memory.blob_log.BlobLog.{BlobLog}
use Rattle.blob_device.specs.declared.memory.crash.Mixer.{Mixer}
use Rattle.blob_device.specs.Building.{IsSortedTable, state_in, after_all, state_at}
use Rattle.blob_device.specs.Calls.{now, replay, no_track}
use Rattle.blob_device.specs.Disk.{Key, Blob, Disk, same_key}
use Rattle.blob_device.specs.NamesThere.{names_where}
use Rattle.blob_device.specs.Picked.{key_cmp, ahead_of, free_in, is_free, is_set, free_below, mixed_length, mixed_byte, mixed_bytes, mixed_of, number_past}
use Rattle.blob_device.specs.Tables.{at_name, at_key, Partitions, by_bytes}
use Rattle.blob_device.specs.Tracks.{track_of, track_at}
use Rattle.blob_device.proofs.Maps.{same_or_differ, differ}
use Rattle.blob_device.proofs.NamesLemmas.{Logs, found_at, here, past, not_before_itself, where_ascending, where_each}
use Rattle.blob_device.proofs.general.Lists.{all_with}

abbrev Shelves : Type 0
Shelves = List (Vec ℕ Global × BTreeMap (Vec ℕ Global) BlobLog)

abbrev may_be : Blob → Bool
may_be b = b.there || b.unsure

abbrev key : List ℕ → List ℕ → Key
key p q = (p, q)

abbrev name_keys : List ℕ → Logs → List Key
name_keys p es = map (key p) (names_where may_be es)

-- the keys of the blobs that may be there
abbrev pub mixed_keys : Shelves → List Key
mixed_keys [] = []
mixed_keys (s ∷ ss) = name_keys s.0.items s.1.entries ++ mixed_keys ss

-- facts of each element
all_map : {X Y : Type 0} (f : X → Y) (P : Y → Type 0) (xs : List X) → AllByRecursion (λ x. P (f x)) xs → AllByRecursion P (map f xs)
all_map f P [] all = tt
all_map f P (x ∷ xs) all = (all.0, all_map f P xs all.1)

all_append : {X : Type 0} (P : X → Type 0) (xs ys : List X) → AllByRecursion P xs → AllByRecursion P ys → AllByRecursion P (xs ++ ys)
all_append P [] ys all more = more
all_append P (x ∷ xs) ys all more = (all.0, all_append P xs ys all.1 more)

all_each : {X : Type 0} (P : X → Type 0) → ((x : X) → P x) → (xs : List X) → AllByRecursion P xs
all_each P each [] = tt
all_each P each (x ∷ xs) = (each x, all_each P each xs)

all_contains : {X : Type 0} (P : X → Type 0) (xs : List X) (x : X) → AllByRecursion P xs → Contains xs x → P x
all_contains {X = X} P xs x all found = go xs all found.0 found.1 found.2
  where
    go : (ys : List X) → AllByRecursion P ys → (k : ℕ) → k < length ys → get_or ys k x ≡ x → P x
    go [] all k lt is = absurd (omega (arith, lt))
    go (y ∷ ys) all zero lt is = subst P is all.0
    go (y ∷ ys) all (suc k) lt is = go ys all.1 k (omega (arith, lt)) is

-- the order of keys
is_equal : (o : Ordering) → is_eq o ≡ true → o ≡ Equal
is_equal Less is = absurd (cc is)
is_equal Equal is = refl
is_equal Greater is = absurd (cc is)

same_cmp : (x : List ℕ) → slice_cmp nat_cmp x x ≡ Equal
same_cmp x = is_equal (slice_cmp nat_cmp x x) (is_eq-slice_cmp x x ∙ (bytes_eq-Decides x x).1 refl)

less_name : (p x y : List ℕ) → slice_cmp nat_cmp x y ≡ Less → key_cmp (key p x) (key p y) ≡ Less
less_name p x y less = ap (λ (o : Ordering). ordering_then o (slice_cmp nat_cmp x y)) (same_cmp p) ∙ less

less_partition : (p r x y : List ℕ) → slice_cmp nat_cmp p r ≡ Less → key_cmp (key p x) (key r y) ≡ Less
less_partition p r x y less = ap (λ (o : Ordering). ordering_then o (slice_cmp nat_cmp x y)) less

sorted_map : (p : List ℕ) (names : List (List ℕ)) → IsStrictlySortedBy (slice_cmp nat_cmp) names → IsStrictlySortedBy key_cmp (map (key p) names)
unfolding IsStrictlySortedBy
sorted_map p [] sorted = tt
sorted_map p (x ∷ xs) sorted = (
  all_map (key p) (λ (k : Key). key_cmp (key p x) k ≡ Less) xs
      (all_with (λ (y : List ℕ). slice_cmp nat_cmp x y ≡ Less) (λ (y : List ℕ). slice_cmp nat_cmp x y ≡ Less) (λ (y : List ℕ). key_cmp (key p x) (key p y) ≡ Less) (λ y less again. less_name p x y less) xs sorted.0 sorted.0),
  sorted_map p xs sorted.1,
)

sorted_append : (xs ys : List Key) → IsStrictlySortedBy key_cmp xs → IsStrictlySortedBy key_cmp ys → AllByRecursion (λ (x : Key). AllByRecursion (λ (y : Key). key_cmp x y ≡ Less) ys) xs → IsStrictlySortedBy key_cmp (xs ++ ys)
unfolding IsStrictlySortedBy
sorted_append [] ys first second all = second
sorted_append (x ∷ xs) ys first second all = (all_append (λ (y : Key). key_cmp x y ≡ Less) xs ys first.0 all.0, sorted_append xs ys first.1 second all.1)

-- the keys of later partitions come after those of a partition
behind_partition : (p : Vec ℕ Global) (q : List ℕ) (ss : Shelves) → AllByRecursion (λ r. by_bytes p r ≡ Less) (keys_of ss) → AllByRecursion (λ (k : Key). key_cmp (key p.items q) k ≡ Less) (mixed_keys ss)
behind_partition p q [] all = tt
behind_partition p q (s ∷ ss) all = all_append (λ (k : Key). key_cmp (key p.items q) k ≡ Less) (name_keys s.0.items s.1.entries) (mixed_keys ss)
    (all_map (key s.0.items) (λ (k : Key). key_cmp (key p.items q) k ≡ Less) (names_where may_be s.1.entries)
    (all_each (λ (y : List ℕ). key_cmp (key p.items q) (key s.0.items y) ≡ Less) (λ y. less_partition p.items s.0.items q y all.0) (names_where may_be s.1.entries)))
    (behind_partition p q ss all.1)

pub keys_ascend : (ss : Shelves) → IsSortedTable ss → IsStrictlySortedBy key_cmp (mixed_keys ss)
unfolding IsStrictlySortedBy
keys_ascend [] sorted = tt
keys_ascend (s ∷ ss) sorted = sorted_append (name_keys s.0.items s.1.entries) (mixed_keys ss)
    (sorted_map s.0.items (names_where may_be s.1.entries) (where_ascending may_be s.1.entries sorted.1.0))
    (keys_ascend ss (sorted.0.1, sorted.1.1))
    (all_map (key s.0.items) (λ (x : Key). AllByRecursion (λ (y : Key). key_cmp x y ≡ Less) (mixed_keys ss)) (names_where may_be s.1.entries)
    (all_each (λ (q : List ℕ). AllByRecursion (λ (y : Key). key_cmp (key s.0.items q) y ≡ Less) (mixed_keys ss)) (λ q. behind_partition s.0 q ss sorted.0.0) (names_where may_be s.1.entries)))

-- which keys are listed
abbrev test : List ℕ → Vec ℕ Global → Bool
test q k = is_eq (slice_cmp nat_cmp q k.items)

abbrev blob_in : Option (BTreeMap (Vec ℕ Global) BlobLog) → List ℕ → Blob
blob_in o q = now (track_at (option_and_then (λ (names : BTreeMap (Vec ℕ Global) BlobLog). at_name names q) o))

not_ever : may_be (now no_track) ≡ false
unfolding replay
not_ever = refl

in_names : (p : List ℕ) (names : List (List ℕ)) (k : Key) → Contains (map (key p) names) k → Contains names k.1
in_names p names k found = (found.0, inside, ap (λ (x : Key). x.1) (sym (get_or-map (key p) names found.0 k.1 k inside) ∙ found.2))
  where
    inside : found.0 < length names
    inside = omega (arith, found.1, length-map names (key p))

in_keys : (p q : List ℕ) (names : List (List ℕ)) → Contains names q → Contains (map (key p) names) (key p q)
in_keys p q names found = (found.0, omega (arith, found.1, length-map names (key p)), get_or-map (key p) names found.0 q (key p q) found.1 ∙ ap (key p) found.2)

in_partition : (p : List ℕ) (names : List (List ℕ)) (k : Key) → Contains (map (key p) names) k → k.0 ≡ p
in_partition p names k found = all_contains (λ (x : Key). x.0 ≡ p) (map (key p) names) k (all_map (key p) (λ (x : Key). x.0 ≡ p) names (all_each (λ (q : List ℕ). p ≡ p) (λ q. refl) names)) found

not_behind : (p : Vec ℕ Global) (ss : Shelves) (k : Key) → AllByRecursion (λ r. by_bytes p r ≡ Less) (keys_of ss) → k.0 ≡ p.items → Contains (mixed_keys ss) k → ⊥
not_behind p ss k all is found =
    let less : key_cmp (key p.items k.1) k ≡ Less = all_contains (λ (x : Key). key_cmp (key p.items k.1) x ≡ Less) (mixed_keys ss) k (behind_partition p k.1 ss all) found in
    let same : key_cmp (key p.items k.1) k ≡ Equal = ap (λ (o : Ordering). ordering_then o (slice_cmp nat_cmp k.1 k.1)) (ap (slice_cmp nat_cmp p.items) is ∙ same_cmp p.items) ∙ same_cmp k.1 in
    cc (less, same)

pub keys_listed : (ss : Shelves) → IsSortedTable ss → (k : Key) → Contains (mixed_keys ss) k ↔ IsTrue (may_be (blob_in (lookup (test k.0) ss) k.1))
unfolding IsStrictlySortedBy
keys_listed [] sorted k = (λ found. absurd (omega (arith, found.1)), λ is. absurd (cc (is, not_ever)))
keys_listed (s ∷ ss) sorted k = elim (same_or_differ k.0 s.0.items) [
  | inl is ↦
      let names = names_where may_be s.1.entries in
      let each = where_each may_be not_ever s.1.entries sorted.1.0 k.1 in
      let at : lookup (test k.0) (s ∷ ss) ≡ Some s.1 = ap (λ (b : Bool). cond b (Some s.1) (lookup (test k.0) ss)) (is_eq-slice_cmp k.0 s.0.items ∙ (bytes_eq-Decides k.0 s.0.items).1 is) in
      let blob : blob_in (lookup (test k.0) (s ∷ ss)) k.1 ≡ now (track_at (found_at s.1.entries k.1)) = ap (λ o. blob_in o k.1) at in (
        λ found. ap may_be blob ∙ ⊎_elim
            (λ (mine : Contains (map (key s.0.items) names) k). each.0 (in_names s.0.items names k mine))
            (λ (more : Contains (mixed_keys ss) k). absurd (not_behind s.0 ss k sorted.0.0 is more))
            (Contains-append_cases (map (key s.0.items) names) (mixed_keys ss) k found),
        λ may. Contains-append_left (map (key s.0.items) names) (mixed_keys ss) k
            (subst (λ (p : List ℕ). Contains (map (key s.0.items) names) (key p k.1)) (sym is) (in_keys s.0.items k.1 names (each.1 (sym (ap may_be blob) ∙ may)))),
      )
  | inr other ↦
      let names = names_where may_be s.1.entries in
      let rest = keys_listed ss (sorted.0.1, sorted.1.1) k in
      let at : lookup (test k.0) (s ∷ ss) ≡ lookup (test k.0) ss = ap (λ (b : Bool). cond b (Some s.1) (lookup (test k.0) ss)) (is_eq-slice_cmp k.0 s.0.items ∙ differ s.0.items k.0 (λ e. other (sym e))) in
      let blob : blob_in (lookup (test k.0) (s ∷ ss)) k.1 ≡ blob_in (lookup (test k.0) ss) k.1 = ap (λ o. blob_in o k.1) at in (
        λ found. ap may_be blob ∙ ⊎_elim
            (λ (mine : Contains (map (key s.0.items) names) k). absurd (other (in_partition s.0.items names k mine)))
            (λ (more : Contains (mixed_keys ss) k). rest.0 more)
            (Contains-append_cases (map (key s.0.items) names) (mixed_keys ss) k found),
        λ may. Contains-append_right (map (key s.0.items) names) (mixed_keys ss) k (rest.1 (sym (ap may_be blob) ∙ may)),
      )
]

-- the keys ahead of one
bytes_same : (x : List ℕ) → bytes_eq x x ≡ true
bytes_same x = (bytes_eq-Decides x x).1 refl

ahead_none : (k : Key) (ks : List Key) → ahead_of k (k ∷ ks) ≡ []
ahead_none k ks = take_while-cons (λ (q : Key). not (same_key q k)) k ks ∙ ap (λ (b : Bool). cond (not b) (k ∷ ahead_of k ks) []) (λ i. bytes_same k.0 i && bytes_same k.1 i)

ahead_one : (k q : Key) (ks : List Key) → same_key q k ≡ false → ahead_of k (q ∷ ks) ≡ q ∷ ahead_of k ks
ahead_one k q ks other = take_while-cons (λ (r : Key). not (same_key r k)) q ks ∙ ap (λ (b : Bool). cond (not b) (q ∷ ahead_of k ks) []) other

ahead_past : (k : Key) (xs ys : List Key) → AllByRecursion (λ (q : Key). same_key q k ≡ false) xs → ahead_of k (xs ++ ys) ≡ xs ++ ahead_of k ys
ahead_past k [] ys all = refl
ahead_past k (x ∷ xs) ys all = ahead_one k x (xs ++ ys) all.0 ∙ ap (λ (l : List Key). x ∷ l) (ahead_past k xs ys all.1)

other_name : (p x q : List ℕ) → q ≢ x → same_key (key p x) (key p q) ≡ false
other_name p x q other = λ i. bytes_same p i && differ q x other i

other_partition : (p x : List ℕ) (k : Key) → k.0 ≢ p → same_key (key p x) k ≡ false
other_partition p x k other = ap (λ (b : Bool). b && bytes_eq x k.1) (differ k.0 p other)

-- the number of the next free place, as the mixer keeps it
abbrev pub mixer_next : Mixer → BlobLog → Mixer
mixer_next s l = record s { number = number_past s.bits s.number (now (track_of l)) }

pub record IsAt (bits : ℕ) (s : Mixer) (m : ℕ) : Type 0 where
  pub has : s.bits ≡ bits
  pub number : s.number % 64 ≡ m % 64

module _ (bits : ℕ) (d : Disk) where
  abbrev free_of : Key → ℕ
  free_of k = free_below (d k) (mixed_length bits (d k))

  -- the logs of a partition tell the disk
  abbrev Told : List ℕ → Logs → Type 0
  Told p es = AllByRecursion (λ (e : Vec ℕ Global × BlobLog). d (key p e.0.items) ≡ now (track_of e.1)) es

  abbrev AllTold : Shelves → Type 0
  AllTold ss = AllByRecursion (λ (s : Vec ℕ Global × BTreeMap (Vec ℕ Global) BlobLog). Told s.0.items s.1.entries) ss

  -- one blob
  passed : (s n : ℕ) (b : Blob) (m : ℕ) → n % 64 ≡ m % 64 → s ≡ bits → (v : Bool) → cond v ((n + free_below b (mixed_length s b)) % 64) n % 64 ≡ (m + cond v (free_below b (mixed_length bits b)) 0) % 64
  passed s n b m at has true = ap (λ (x : ℕ). (n + free_below b (mixed_length x b)) % 64 % 64) has ∙ omega (arith, at)
  passed s n b m at has false = omega (arith, at)

  one : (s : Mixer) (l : BlobLog) (k : Key) (m : ℕ) → IsAt bits s m → d k ≡ now (track_of l) → IsAt bits (mixer_next s l) (m + cond (may_be (now (track_of l))) (free_of k) 0)
  one s l k m at is = record {
    has = at.has;
    number = passed s.bits s.number (now (track_of l)) m at.number at.has (may_be (now (track_of l)))
        ∙ ap (λ (b : Blob). (m + cond (may_be (now (track_of l))) (free_below b (mixed_length bits b)) 0) % 64) (sym is);
  }

  moved : (s : Mixer) (m n : ℕ) → m ≡ n → IsAt bits s m → IsAt bits s n
  moved s m n same at = subst (IsAt bits s) same at

  whole_step : (p : List ℕ) (e : Vec ℕ Global × BlobLog) (es : Logs) (m : ℕ) (s : Mixer) (v : Bool) → IsAt bits (mixer_next s e.1) (m + cond v (free_of (key p e.0.items)) 0)
      → ((n : ℕ) → IsAt bits (mixer_next s e.1) n → IsAt bits (after_all mixer_next (mixer_next s e.1) es) (n + free_in bits d (name_keys p es)))
      → IsAt bits (after_all mixer_next (mixer_next s e.1) es) (m + free_in bits d (map (key p) (cond v (e.0.items ∷ names_where may_be es) (names_where may_be es))))
  whole_step p e es m s true next rest = moved _ (m + free_of (key p e.0.items) + free_in bits d (name_keys p es)) (m + free_in bits d (key p e.0.items ∷ name_keys p es))
      (omega (arith, sum_by-cons free_of (key p e.0.items) (name_keys p es)))
      (rest (m + free_of (key p e.0.items)) next)
  whole_step p e es m s false next rest = moved _ (m + 0 + free_in bits d (name_keys p es)) (m + free_in bits d (name_keys p es)) (omega arith) (rest (m + 0) next)

  -- a whole partition
  whole : (p : List ℕ) (es : Logs) (s : Mixer) (m : ℕ) → IsAt bits s m → Told p es → IsAt bits (after_all mixer_next s es) (m + free_in bits d (name_keys p es))
  whole p [] s m at told = moved s m (m + free_in bits d []) (omega arith) at
  whole p (e ∷ es) s m at told = whole_step p e es m s (may_be (now (track_of e.1))) (one s e.1 (key p e.0.items) m at told.0) (λ n next. whole p es (mixer_next s e.1) n next told.1)

  name_step : (p : List ℕ) (e : Vec ℕ Global × BlobLog) (es : Logs) (m : ℕ) (s : Mixer) (q : List ℕ) (rest : List Key) → q ≢ e.0.items → (v : Bool) → IsAt bits (mixer_next s e.1) (m + cond v (free_of (key p e.0.items)) 0)
      → ((n : ℕ) → IsAt bits (mixer_next s e.1) n → IsAt bits (state_in mixer_next (mixer_next s e.1) es q) (n + free_in bits d (ahead_of (key p q) (name_keys p es ++ rest))))
      → IsAt bits (state_in mixer_next (mixer_next s e.1) es q) (m + free_in bits d (ahead_of (key p q) (map (key p) (cond v (e.0.items ∷ names_where may_be es) (names_where may_be es)) ++ rest)))
  name_step p e es m s q rest other true next more =
      let ahead : ahead_of (key p q) (key p e.0.items ∷ (name_keys p es ++ rest)) ≡ key p e.0.items ∷ ahead_of (key p q) (name_keys p es ++ rest) =
      ahead_one (key p q) (key p e.0.items) (name_keys p es ++ rest) (other_name p e.0.items q other) in
      moved _ (m + free_of (key p e.0.items) + free_in bits d (ahead_of (key p q) (name_keys p es ++ rest))) (m + free_in bits d (ahead_of (key p q) (key p e.0.items ∷ (name_keys p es ++ rest))))
      (omega (arith, ap (free_in bits d) ahead, sum_by-cons free_of (key p e.0.items) (ahead_of (key p q) (name_keys p es ++ rest))))
      (more (m + free_of (key p e.0.items)) next)
  name_step p e es m s q rest other false next more = moved _ (m + 0 + free_in bits d (ahead_of (key p q) (name_keys p es ++ rest))) (m + free_in bits d (ahead_of (key p q) (name_keys p es ++ rest))) (omega arith) (more (m + 0) next)

  -- up to a name
  up_to_name : (p : List ℕ) (es : Logs) (s : Mixer) (m : ℕ) (q : List ℕ) (rest : List Key) → IsAt bits s m → Told p es → may_be (now (track_at (found_at es q))) ≡ true
      → IsAt bits (state_in mixer_next s es q) (m + free_in bits d (ahead_of (key p q) (name_keys p es ++ rest)))
  up_to_name p [] s m q rest at told may = absurd (cc (may, not_ever))
  up_to_name p (e ∷ es) s m q rest at told may = elim (same_or_differ q e.0.items) [
    | inl is ↦
        let mine : may_be (now (track_of e.1)) ≡ true = sym (ap (λ (o : Option BlobLog). may_be (now (track_at o))) (ap (found_at (e ∷ es)) is ∙ here e es)) ∙ may in
        let prefix : name_keys p (e ∷ es) ++ rest ≡ key p q ∷ (name_keys p es ++ rest) =
        ap (λ (v : Bool). map (key p) (cond v (e.0.items ∷ names_where may_be es) (names_where may_be es)) ++ rest) mine ∙ ap (λ (x : List ℕ). key p x ∷ (name_keys p es ++ rest)) (sym is) in
        let none : ahead_of (key p q) (name_keys p (e ∷ es) ++ rest) ≡ [] = ap (ahead_of (key p q)) prefix ∙ ahead_none (key p q) (name_keys p es ++ rest) in
        let still : state_in mixer_next s (e ∷ es) q ≡ s = ap (λ (b : Bool). cond b s (state_in mixer_next (mixer_next s e.1) es q)) ((bytes_eq-Decides q e.0.items).1 is) in
        subst (λ (t : Mixer). IsAt bits t (m + free_in bits d (ahead_of (key p q) (name_keys p (e ∷ es) ++ rest)))) (sym still)
        (moved s m (m + free_in bits d (ahead_of (key p q) (name_keys p (e ∷ es) ++ rest))) (omega (arith, ap (free_in bits d) none)) at)
    | inr other ↦
        let later : may_be (now (track_at (found_at es q))) ≡ true = sym (ap (λ (o : Option BlobLog). may_be (now (track_at o))) (past e es q other)) ∙ may in
        let on : state_in mixer_next s (e ∷ es) q ≡ state_in mixer_next (mixer_next s e.1) es q = ap (λ (b : Bool). cond b s (state_in mixer_next (mixer_next s e.1) es q)) (differ e.0.items q (λ x. other (sym x))) in
        subst (λ (t : Mixer). IsAt bits t (m + free_in bits d (ahead_of (key p q) (name_keys p (e ∷ es) ++ rest)))) (sym on)
        (name_step p e es m s q rest other (may_be (now (track_of e.1))) (one s e.1 (key p e.0.items) m at told.0) (λ n next. up_to_name p es (mixer_next s e.1) n q rest next told.1 later))
  ]

  -- up to a key
  pub up_to_key : (ss : Shelves) (s : Mixer) (m : ℕ) (k : Key) → IsAt bits s m → AllTold ss → may_be (blob_in (lookup (test k.0) ss) k.1) ≡ true
      → IsAt bits (state_at mixer_next s ss k) (m + free_in bits d (ahead_of k (mixed_keys ss)))
  up_to_key [] s m k at told may = absurd (cc (may, not_ever))
  up_to_key (p ∷ ss) s m k at told may = elim (same_or_differ k.0 p.0.items) [
    | inl is ↦
        let at_p : lookup (test k.0) (p ∷ ss) ≡ Some p.1 = ap (λ (b : Bool). cond b (Some p.1) (lookup (test k.0) ss)) (is_eq-slice_cmp k.0 p.0.items ∙ (bytes_eq-Decides k.0 p.0.items).1 is) in
        let mine : may_be (now (track_at (found_at p.1.entries k.1))) ≡ true = sym (ap (λ o. may_be (blob_in o k.1)) at_p) ∙ may in
        let inside : state_at mixer_next s (p ∷ ss) k ≡ state_in mixer_next s p.1.entries k.1 =
        ap (λ (b : Bool). cond b (state_in mixer_next s p.1.entries k.1) (state_at mixer_next (after_all mixer_next s p.1.entries) ss k)) ((bytes_eq-Decides k.0 p.0.items).1 is) in
        subst (λ (t : Mixer). IsAt bits t (m + free_in bits d (ahead_of k (mixed_keys (p ∷ ss))))) (sym inside)
        (subst (λ (r : List ℕ). IsAt bits (state_in mixer_next s p.1.entries k.1) (m + free_in bits d (ahead_of (key r k.1) (mixed_keys (p ∷ ss))))) (sym is)
        (up_to_name p.0.items p.1.entries s m k.1 (mixed_keys ss) at told.0 mine))
    | inr other ↦
        let at_p : lookup (test k.0) (p ∷ ss) ≡ lookup (test k.0) ss = ap (λ (b : Bool). cond b (Some p.1) (lookup (test k.0) ss)) (is_eq-slice_cmp k.0 p.0.items ∙ differ p.0.items k.0 (λ e. other (sym e))) in
        let later : may_be (blob_in (lookup (test k.0) ss) k.1) ≡ true = sym (ap (λ o. may_be (blob_in o k.1)) at_p) ∙ may in
        let on : state_at mixer_next s (p ∷ ss) k ≡ state_at mixer_next (after_all mixer_next s p.1.entries) ss k =
        ap (λ (b : Bool). cond b (state_in mixer_next s p.1.entries k.1) (state_at mixer_next (after_all mixer_next s p.1.entries) ss k)) (differ p.0.items k.0 (λ e. other (sym e))) in
        let names = names_where may_be p.1.entries in
        let ahead : ahead_of k (mixed_keys (p ∷ ss)) ≡ name_keys p.0.items p.1.entries ++ ahead_of k (mixed_keys ss) =
        ahead_past k (name_keys p.0.items p.1.entries) (mixed_keys ss) (all_map (key p.0.items) (λ (x : Key). same_key x k ≡ false) names
        (all_each (λ (x : List ℕ). same_key (key p.0.items x) k ≡ false) (λ x. other_partition p.0.items x k other) names)) in
        let sum : m + free_in bits d (name_keys p.0.items p.1.entries) + free_in bits d (ahead_of k (mixed_keys ss)) ≡ m + free_in bits d (ahead_of k (mixed_keys (p ∷ ss))) =
        omega (arith, ap (free_in bits d) ahead, sum_by-append free_of (name_keys p.0.items p.1.entries) (ahead_of k (mixed_keys ss))) in
        subst (λ (t : Mixer). IsAt bits t (m + free_in bits d (ahead_of k (mixed_keys (p ∷ ss))))) (sym on)
        (moved _ _ _ sum (up_to_key ss (after_all mixer_next s p.1.entries) (m + free_in bits d (name_keys p.0.items p.1.entries)) k (whole p.0.items p.1.entries s m at told.0) told.1 later))
  ]

-- each entry of a sorted map is found at its name
entries_found : {V : Type 0} (es : List (Vec ℕ Global × V)) → IsStrictlySortedBy by_bytes (keys_of es) → AllByRecursion (λ (e : Vec ℕ Global × V). lookup (test e.0.items) es ≡ Some e.1) es
unfolding IsStrictlySortedBy
entries_found [] sorted = tt
entries_found {V = V} (x ∷ es) sorted = (head, shift es sorted.0 (entries_found es sorted.1))
  where
    head : lookup (test x.0.items) (x ∷ es) ≡ Some x.1
    head = ap (λ (b : Bool). cond b (Some x.1) (lookup (test x.0.items) es)) (is_eq-slice_cmp x.0.items x.0.items ∙ bytes_same x.0.items)

    skip : (z : Vec ℕ Global × V) → by_bytes x.0 z.0 ≡ Less → lookup (test z.0.items) (x ∷ es) ≡ lookup (test z.0.items) es
    skip z less = ap (λ (b : Bool). cond b (Some x.1) (lookup (test z.0.items) es)) (is_eq-slice_cmp z.0.items x.0.items
        ∙ differ x.0.items z.0.items (λ is. not_before_itself x.0.items (ap (slice_cmp nat_cmp x.0.items) is ∙ less)))

    shift : (zs : List (Vec ℕ Global × V)) → AllByRecursion (λ y. by_bytes x.0 y ≡ Less) (keys_of zs) → AllByRecursion (λ (e : Vec ℕ Global × V). lookup (test e.0.items) es ≡ Some e.1) zs
        → AllByRecursion (λ (e : Vec ℕ Global × V). lookup (test e.0.items) (x ∷ es) ≡ Some e.1) zs
    shift [] less all = tt
    shift (z ∷ zs) less all = (skip z less.0 ∙ all.0, shift zs less.1 all.1)

-- the logs of a table tell the disk that they tell
pub all_told : (bits : ℕ) (d : Disk) (table : Partitions BlobLog) → IsSortedTable table.entries → ((k : Key) → d k ≡ now (track_at (at_key table k))) → AllTold bits d table.entries
all_told bits d table sorted is = all_with
    (λ (s : Vec ℕ Global × BTreeMap (Vec ℕ Global) BlobLog). lookup (test s.0.items) table.entries ≡ Some s.1)
    (λ (s : Vec ℕ Global × BTreeMap (Vec ℕ Global) BlobLog). IsStrictlySortedBy by_bytes (keys_of s.1.entries))
    (λ (s : Vec ℕ Global × BTreeMap (Vec ℕ Global) BlobLog). Told bits d s.0.items s.1.entries)
    (λ s at names. all_with
    (λ (e : Vec ℕ Global × BlobLog). lookup (test e.0.items) s.1.entries ≡ Some e.1)
    (λ (e : Vec ℕ Global × BlobLog). lookup (test e.0.items) s.1.entries ≡ Some e.1)
    (λ (e : Vec ℕ Global × BlobLog). d (key s.0.items e.0.items) ≡ now (track_of e.1))
    (λ e here_it again. is (key s.0.items e.0.items)
    ∙ ap (λ o. now (track_at (option_and_then (λ (m : BTreeMap (Vec ℕ Global) BlobLog). at_name m e.0.items) o))) at
    ∙ ap (λ (o : Option BlobLog). now (track_at o)) here_it)
    s.1.entries (entries_found s.1.entries names) (entries_found s.1.entries names))
    table.entries (entries_found table.entries sorted.0) sorted.1

-- the number counts modulo 64
mixed_again : (n first again : ℕ) (b : Blob) → first % 64 ≡ again % 64 → (v : Bool) → cond v (Some (mixed_bytes n first b)) None ≡ cond v (Some (mixed_bytes n again b)) None
mixed_again n first again b same false = refl
mixed_again n first again b same true = λ t. Some (map (λ i. byte i t) (range_with_len 0 (mixed_length n b)))
  where
    place : (i : ℕ) → (first + free_below b i) % 64 ≡ (again + free_below b i) % 64
    place i = omega (arith, same)

    byte : (i : ℕ) → mixed_byte n first b i ≡ mixed_byte n again b i
    byte i = ap (λ (x : ℕ). cond (is_free b i && not (is_set n x && ltb i (length b.content))) 255 (get_or b.content i 0)) (place i)

pub first_number : (bits : ℕ) (d : Disk) (table : Partitions BlobLog) (s : Mixer) (k : Key) → IsSortedTable table.entries → ((q : Key) → d q ≡ now (track_at (at_key table q))) → s.bits ≡ bits → s.number ≡ 0
    → mixed_of bits (state_at mixer_next s table.entries k).number (d k) ≡ mixed_of bits (free_in bits d (ahead_of k (mixed_keys table.entries))) (d k)
first_number bits d table s k sorted is has zero_is = go (may_be (d k)) refl
  where
    same : may_be (d k) ≡ true → (state_at mixer_next s table.entries k).number % 64 ≡ free_in bits d (ahead_of k (mixed_keys table.entries)) % 64
    same may = (up_to_key bits d table.entries s 0 k (record { has = has; number = ap (λ (x : ℕ). x % 64) zero_is }) (all_told bits d table sorted is) (sym (ap may_be (is k)) ∙ may)).number
        ∙ (let sum : 0 + free_in bits d (ahead_of k (mixed_keys table.entries)) ≡ free_in bits d (ahead_of k (mixed_keys table.entries)) = omega arith in ap (λ (x : ℕ). x % 64) sum)

    go : (v : Bool) → may_be (d k) ≡ v → cond (may_be (d k)) (Some (mixed_bytes bits (state_at mixer_next s table.entries k).number (d k))) None ≡ cond (may_be (d k)) (Some (mixed_bytes bits (free_in bits d (ahead_of k (mixed_keys table.entries))) (d k))) None
    go true may = mixed_again bits _ _ (d k) (same may) (may_be (d k))
    go false may = ap (λ (v : Bool). cond v (Some (mixed_bytes bits (state_at mixer_next s table.entries k).number (d k))) None) may
        ∙ sym (ap (λ (v : Bool). cond v (Some (mixed_bytes bits (free_in bits d (ahead_of k (mixed_keys table.entries))) (d k))) None) may)

-- the image has a blob exactly where one may be there
pub mixed_is_there : (bits first : ℕ) (b : Blob) → is_some (mixed_of bits first b) ≡ may_be b
mixed_is_there bits first b = go (may_be b)
  where
    go : (v : Bool) → is_some (cond v (Some (mixed_bytes bits first b)) None) ≡ v
    go true = refl
    go false = refl

-- the listed keys are those of the blobs that the image has
pub listed_image : (bits first : ℕ) (table : Partitions BlobLog) → IsSortedTable table.entries → (k : Key) (b : Blob) (image : Option (List ℕ)) → b ≡ now (track_at (at_key table k)) → image ≡ mixed_of bits first b
    → Contains (mixed_keys table.entries) k ↔ IsTrue (is_some image)
listed_image bits first table sorted k b image is mixed =
    let there : is_some image ≡ may_be (now (track_at (at_key table k))) = ap is_some mixed ∙ mixed_is_there bits first b ∙ ap may_be is in
    let each = keys_listed table.entries sorted k in
    (λ found. there ∙ each.0 found, λ yes. each.1 (sym there ∙ yes))
