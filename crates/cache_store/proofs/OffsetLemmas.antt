-- Where the frames of records begin: of a section that grows by one, and of one that is read at an offset.
use Rattle.std.specs.Prelude.{◌≡◌, ◌≢◌, ℕ, ◌+◌, ◌<◌, ◌^◌, ◌==◌, ◌||◌, if◌then◌else◌, Bool, true, false, List, [], ◌∷◌, ◌++◌, length, map, filter, Option, None, Some, is_some}
use Rattle.std.proofs.Common.{refl, sym, ap, ◌∙◌, arith, length-append, ⊎_elim}
use Rattle.std.proofs.lemmas.Bool.{cases_eq, eqb-true, eq-eqb, false_from_ne_true}
use Rattle.variable_journal.specs.Frames.{frame, frames, items_of, rest_of}
use Rattle.variable_journal.specs.lemmas.Frame.{are_frames, one_more}
use Rattle.cache_store.specs.Filing.{offset_in}
use Rattle.cache_store.specs.Holding.{noted}
use Rattle.cache_store.specs.Machine.{Entry, has_entry, first_value, section_of}
use Rattle.cache_store.specs.Records.{entry_of, record_bytes}

-- a record has the index where it has an offset
pub offset_some : (i at : ℕ) (xs : List (List ℕ)) → is_some (offset_in i at xs) ≡ has_entry i (map entry_of xs)
offset_some i at [] = refl
offset_some i at (x ∷ xs) = go ((entry_of x).index == i) (offset_some i (at + length (frame x)) xs)
  where
    go : (b : Bool) → is_some (offset_in i (at + length (frame x)) xs) ≡ has_entry i (map entry_of xs)
        → is_some (if b then Some at else offset_in i (at + length (frame x)) xs) ≡ (b || has_entry i (map entry_of xs))
    go true ih = refl
    go false ih = ih

-- the first of two, if there is one
abbrev pub first_of : Option ℕ → Option ℕ → Option ℕ
first_of None later = later
first_of (Some at) later = Some at

pub no_second : (o : Option ℕ) → first_of o None ≡ o
no_second None = refl
no_second (Some at) = refl

-- one record more
pub offset_more : (i at : ℕ) (xs : List (List ℕ)) (x : List ℕ)
    → offset_in i at (xs ++ x ∷ []) ≡ first_of (offset_in i at xs) (offset_in i (at + length (frames xs)) (x ∷ []))
offset_more i at [] x = (let same : at ≡ at + 0 = omega arith in ap (λ n. offset_in i n (x ∷ [])) same)
offset_more i at (y ∷ ys) x = go ((entry_of y).index == i) (offset_more i (at + length (frame y)) ys x)
  where
    next : ℕ
    next = at + length (frame y)

    far : next + length (frames ys) ≡ at + length (frame y ++ frames ys)
    far = omega (arith, length-append (frame y) (frames ys))

    go : (b : Bool) → offset_in i next (ys ++ x ∷ []) ≡ first_of (offset_in i next ys) (offset_in i (next + length (frames ys)) (x ∷ []))
        → (if b then Some at else offset_in i next (ys ++ x ∷ []))
        ≡ first_of (if b then Some at else offset_in i next ys) (offset_in i (at + length (frame y ++ frames ys)) (x ∷ []))
    go true ih = refl
    go false ih = ih ∙ ap (λ n. first_of (offset_in i next ys) (offset_in i n (x ∷ []))) far

-- the one at an index, of one record
pub offset_here : (i at : ℕ) (x : List ℕ) → (entry_of x).index ≡ i → offset_in i at (x ∷ []) ≡ Some at
offset_here i at x is = ap (λ (b : Bool). if b then Some at else None) (eq-eqb (entry_of x).index i is)

pub offset_other : (i at : ℕ) (x : List ℕ) → (entry_of x).index ≢ i → offset_in i at (x ∷ []) ≡ None
offset_other i at x not = ap (λ (b : Bool). if b then Some at else None) (false_from_ne_true ((entry_of x).index == i) (λ t. not (eqb-true (entry_of x).index i t)))

-- What is found at an index: the first record with it.
pub record FoundAt (i at o : ℕ) (xs : List (List ℕ)) : Type 0 where
  pub before : List (List ℕ)
  pub item : List ℕ
  pub after : List (List ℕ)
  pub is : xs ≡ before ++ item ∷ after
  pub begins : o ≡ at + length (frames before)
  pub index : (entry_of item).index ≡ i
  pub value : first_value (filter (λ e. e.index == i) (map entry_of xs)) ≡ Some (entry_of item).value

pub found_at : (i at o : ℕ) (xs : List (List ℕ)) → offset_in i at xs ≡ Some o → FoundAt i at o xs
found_at i at o [] none = absurd (cc none)
found_at i at o (x ∷ xs) has = ⊎_elim
    (λ (same : (entry_of x).index ≡ i). let yes = eq-eqb (entry_of x).index i same in record {
      before = [];
      item = x;
      after = xs;
      is = refl;
      begins = sym (some_is (ap (λ (b : Bool). if b then Some at else offset_in i (at + length (frame x)) xs) (sym yes) ∙ has)) ∙ omega arith;
      index = same;
      value = ap (λ (b : Bool). first_value (if b then entry_of x ∷ filter (λ e. e.index == i) (map entry_of xs) else filter (λ e. e.index == i) (map entry_of xs))) yes;
    })
    (λ (other : (entry_of x).index ≢ i). let no = false_from_ne_true ((entry_of x).index == i) (λ t. other (eqb-true (entry_of x).index i t)) in
    let rest = found_at i (at + length (frame x)) o xs (ap (λ (b : Bool). if b then Some at else offset_in i (at + length (frame x)) xs) (sym no) ∙ has) in record {
      before = x ∷ rest.before;
      item = rest.item;
      after = rest.after;
      is = ap (λ z. x ∷ z) rest.is;
      begins = rest.begins ∙ omega (arith, length-append (frame x) (frames rest.before));
      index = rest.index;
      value = ap (λ (b : Bool). first_value (if b then entry_of x ∷ filter (λ e. e.index == i) (map entry_of xs) else filter (λ e. e.index == i) (map entry_of xs))) no ∙ rest.value;
    })
    (cases_eq (entry_of x).index i)
  where
    some_is : {m n : ℕ} → Some m ≡ Some n → m ≡ n
    some_is same = cc same

-- whole frames are as long as their bytes
pub whole_length : (bytes : List ℕ) → rest_of bytes ≡ [] → length (frames (items_of bytes)) ≡ length bytes
whole_length bytes none = (let are = are_frames bytes in omega (arith, ap length are.is, length-append (frames (items_of bytes)) (rest_of bytes), ap length none))

-- A record was put at the end of its section.
module _ (items index : ℕ) (spelled : List ℕ) (old new : ℕ → List ℕ) (held : ℕ → Option ℕ)
    (entry : entry_of (record_bytes index spelled) ≡ record { index = index; value = spelled })
    (whole : rest_of (old (section_of items index)) ≡ [])
    (fits : length (record_bytes index spelled) < 2 ^ 32)
    (grown : new (section_of items index) ≡ old (section_of items index) ++ frame (record_bytes index spelled))
    (others : (s : ℕ) → s ≢ section_of items index → new s ≡ old s)
    (listed : (i : ℕ) → held i ≡ offset_in i 0 (items_of (old (section_of items i))))
    (absent : held index ≡ None) where
  abbrev pub here : ℕ
  here = section_of items index

  abbrev pub item : List ℕ
  item = record_bytes index spelled

  items_here : items_of (new here) ≡ items_of (old here) ++ item ∷ []
  items_here = ap items_of grown ∙ (one_more (old here) item whole fits).0

  index_of : (entry_of item).index ≡ index
  index_of = ap (λ (e : Entry (List ℕ)). e.index) entry

  in_here : (i : ℕ) → section_of items i ≡ here → offset_in i 0 (items_of (new (section_of items i))) ≡ first_of (held i) (offset_in i (length (old here)) (item ∷ []))
  in_here i is =
      ap (λ (s : ℕ). offset_in i 0 (items_of (new s))) is
      ∙ ap (offset_in i 0) items_here
      ∙ offset_more i 0 (items_of (old here)) item
      ∙ (let long : 0 + length (frames (items_of (old here))) ≡ length (old here) = omega (arith, whole_length (old here) whole) in
      ap (λ (n : ℕ). first_of (offset_in i 0 (items_of (old here))) (offset_in i n (item ∷ []))) long)
      ∙ ap (λ (o : Option ℕ). first_of o (offset_in i (length (old here)) (item ∷ []))) (sym (listed i ∙ ap (λ (s : ℕ). offset_in i 0 (items_of (old s))) is))

  pub put_listed : (i : ℕ) → noted index (length (old here)) held i ≡ offset_in i 0 (items_of (new (section_of items i)))
  put_listed i = ⊎_elim
      (λ (same : i ≡ index). ap (λ (b : Bool). if b then Some (length (old here)) else held i) (eq-eqb i index same)
      ∙ sym (in_here i (ap (section_of items) same)
      ∙ ap (λ (o : Option ℕ). first_of o (offset_in i (length (old here)) (item ∷ []))) (ap held same ∙ absent)
      ∙ offset_here i (length (old here)) item (index_of ∙ sym same)))
      (λ (apart : i ≢ index). ap (λ (b : Bool). if b then Some (length (old here)) else held i) (false_from_ne_true (i == index) (λ t. apart (eqb-true i index t)))
      ∙ ⊎_elim
      (λ (is : section_of items i ≡ here). sym (in_here i is ∙ ap (first_of (held i)) (offset_other i (length (old here)) item (λ e. apart (sym e ∙ index_of))) ∙ no_second (held i)))
      (λ (not : section_of items i ≢ here). listed i ∙ sym (ap (λ bytes. offset_in i 0 (items_of bytes)) (others (section_of items i) not)))
      (cases_eq (section_of items i) here))
      (cases_eq i index)
