-- What is lawful of a section stays lawful where it is cut, and where a record is added to it.
use Rattle.std.specs.Prelude.{◌≡◌, ℕ, zero, suc, ◌^◌, ◌==◌, ◌||◌, nat_eq, Bool, true, false, List, [], ◌∷◌, ◌++◌, length, map, take, None, Ok}
use Rattle.std.specs.List.{AllByRecursion, IsDistinct}
use Rattle.std.proofs.Common.{refl, sym, ap, ◌∙◌, subst, arith}
use Rattle.std.proofs.Math.Seq.{drop-append_seam}
use Rattle.std.proofs.lemmas.List.{take-map}
use Rattle.value_codec.specs.Varint.{varint, varint_prefix}
use Rattle.variable_journal.specs.Frames as frames
use Rattle.variable_journal.specs.Frames.{frame, items_of, rest_of, HasBadLength, AreFirst}
use Rattle.cache_store.specs.Machine.{Entry, section_of, has_entry}
use Rattle.cache_store.specs.Records.{record_bytes, parted, entry_of, refused, record_refusal}
use Rattle.cache_store.specs.Kept.{Layout, entries_of, IsLawfulIn}

all_prefix : {X : Type 0} (P : X → Type 0) (k : ℕ) (xs : List X) → AllByRecursion P xs → AllByRecursion P (take k xs)
all_prefix P zero xs all = tt
all_prefix P (suc k) [] all = tt
all_prefix P (suc k) (x ∷ xs) all = (all.0, all_prefix P k xs all.1)

pub all_more : {X : Type 0} (P : X → Type 0) (xs : List X) (x : X) → AllByRecursion P xs → P x → AllByRecursion P (xs ++ x ∷ [])
all_more P [] x all last = (last, tt)
all_more P (y ∷ xs) x all last = (all.0, all_more P xs x all.1 last)

distinct_prefix : (k : ℕ) (xs : List ℕ) → IsDistinct nat_eq xs → IsDistinct nat_eq (take k xs)
unfolding IsDistinct
distinct_prefix zero xs once = tt
distinct_prefix (suc k) [] once = tt
distinct_prefix (suc k) (x ∷ xs) once = (all_prefix (λ y. nat_eq x y ≡ false) k xs once.0, distinct_prefix k xs once.1)

distinct_more : (xs : List ℕ) (x : ℕ) → IsDistinct nat_eq xs → AllByRecursion (λ y. nat_eq y x ≡ false) xs → IsDistinct nat_eq (xs ++ x ∷ [])
unfolding IsDistinct
distinct_more [] x once new = (tt, tt)
distinct_more (y ∷ xs) x once new = (all_more (λ z. nat_eq y z ≡ false) xs x once.0 new.0, distinct_more xs x once.1 new.1)

neither : (a b : Bool) → (a || b) ≡ false → (a ≡ false) × (b ≡ false)
neither true b is = absurd (cc is)
neither false b is = (refl, is)

is_new : (index : ℕ) (es : List (Entry (List ℕ))) → has_entry index es ≡ false → AllByRecursion (λ y. nat_eq y index ≡ false) (map (λ e. e.index) es)
is_new index [] none = tt
is_new index (e ∷ es) none = let both = neither (e.index == index) (has_entry index es) none in (both.0, is_new index es both.1)

pub map_more : {X Y : Type 0} (f : X → Y) (xs : List X) (x : X) → map f (xs ++ x ∷ []) ≡ map f xs ++ f x ∷ []
map_more f [] x = refl
map_more f (y ∷ xs) x = ap (λ z. f y ∷ z) (map_more f xs x)

-- no bytes have no items
pub no_items : items_of [] ≡ []
unfolding frames.items_within
no_items = refl

pub no_rest : rest_of [] ≡ []
unfolding frames.rest_within
no_rest = refl

-- no bytes are lawful
pub lawful_none : (l : Layout) (s : ℕ) → IsLawfulIn l s []
unfolding frames.items_within frames.rest_within IsDistinct
lawful_none l s = record { lengths = λ bad. omega (arith, bad.enough); decoded = tt; in_section = tt; once = tt }

module _ (l : Layout) (s : ℕ) (bytes : List ℕ) where
  -- cut anywhere
  pub lawful_cut : (n : ℕ) → AreFirst (items_of bytes) n (items_of (take n bytes)) → (HasBadLength (rest_of (take n bytes)) → HasBadLength (rest_of bytes)) → IsLawfulIn l s bytes → IsLawfulIn l s (take n bytes)
  lawful_cut n first lengths lawful =
      let k = length (items_of (take n bytes)) in
      let indices : map (λ e. e.index) (entries_of (take n bytes)) ≡ take k (map (λ e. e.index) (entries_of bytes)) =
      ap (λ xs. map (λ e. e.index) (map entry_of xs)) first.same ∙ ap (map (λ e. e.index)) (sym (take-map entry_of k (items_of bytes))) ∙ sym (take-map (λ e. e.index) k (entries_of bytes)) in
      record {
        lengths = λ bad. lawful.lengths (lengths bad);
        decoded = subst (AllByRecursion (λ x. record_refusal l.refusal x ≡ None)) (sym first.same) (all_prefix _ k (items_of bytes) lawful.decoded);
        in_section = subst (AllByRecursion (λ x. section_of l.items (entry_of x).index ≡ s)) (sym first.same) (all_prefix _ k (items_of bytes) lawful.in_section);
        once = subst (IsDistinct nat_eq) (sym indices) (distinct_prefix k (map (λ e. e.index) (entries_of bytes)) lawful.once);
      }

  module _ (index : ℕ) (value : List ℕ) (read : varint_prefix (2 ^ 64) 10 (record_bytes index value) ≡ Ok (index, length (varint index))) where
    pub entry_record : entry_of (record_bytes index value) ≡ record { index = index; value = value }
    entry_record = ap (parted (record_bytes index value)) read ∙ ap (λ (v : List ℕ). record { index = index; value = v }) (drop-append_seam (varint index) value)

    refusal_record : record_refusal l.refusal (record_bytes index value) ≡ l.refusal value
    refusal_record = ap (refused l.refusal (record_bytes index value)) read ∙ ap l.refusal (drop-append_seam (varint index) value)

    pub entries_more : items_of (bytes ++ frame (record_bytes index value)) ≡ items_of bytes ++ record_bytes index value ∷ [] → entries_of (bytes ++ frame (record_bytes index value)) ≡ entries_of bytes ++ record { index = index; value = value } ∷ []
    entries_more more = ap (map entry_of) more ∙ map_more entry_of (items_of bytes) (record_bytes index value) ∙ ap (λ e. entries_of bytes ++ e ∷ []) entry_record

    -- with a record of the section whose index is new
    pub lawful_more : (items_of (bytes ++ frame (record_bytes index value)) ≡ items_of bytes ++ record_bytes index value ∷ []) × (rest_of (bytes ++ frame (record_bytes index value)) ≡ [])
        → IsLawfulIn l s bytes → section_of l.items index ≡ s → has_entry index (entries_of bytes) ≡ false → l.refusal value ≡ None → IsLawfulIn l s (bytes ++ frame (record_bytes index value))
    lawful_more more lawful inside new spelled =
        let indices : map (λ e. e.index) (entries_of (bytes ++ frame (record_bytes index value))) ≡ map (λ e. e.index) (entries_of bytes) ++ index ∷ [] =
        ap (map (λ e. e.index)) (entries_more more.0) ∙ map_more (λ e. e.index) (entries_of bytes) (record { index = index; value = value }) in
        record {
          lengths = λ bad. (let none : length (rest_of (bytes ++ frame (record_bytes index value))) ≡ 0 = ap length more.1 in omega (arith, bad.enough, none));
          decoded = subst (AllByRecursion (λ x. record_refusal l.refusal x ≡ None)) (sym more.0) (all_more _ (items_of bytes) (record_bytes index value) lawful.decoded (refusal_record ∙ spelled));
          in_section = subst (AllByRecursion (λ x. section_of l.items (entry_of x).index ≡ s)) (sym more.0) (all_more _ (items_of bytes) (record_bytes index value) lawful.in_section (ap (λ (e : Entry (List ℕ)). section_of l.items e.index) entry_record ∙ inside));
          once = subst (IsDistinct nat_eq) (sym indices) (distinct_more (map (λ e. e.index) (entries_of bytes)) index lawful.once (is_new index (entries_of bytes) new));
        }

pub length-mapped : {X Y : Type 0} (f : X → Y) (xs : List X) → length (map f xs) ≡ length xs
length-mapped f [] = refl
length-mapped f (x ∷ xs) = ap (λ n. suc n) (length-mapped f xs)
