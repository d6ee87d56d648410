-- The rows of the records that an opening's walk gave: one more, all of them, and more than the limits allow.
use Rattle.std.specs.Prelude.{◌≡◌, ◌≢◌, ◌↔◌, ℕ, ◌+◌, ◌<◌, ◌≤◌, List, [], ◌∷◌, ◌++◌, length, map, take, get_or}
use Rattle.std.proofs.Common.{inl, inr, refl, sym, ◌∙◌, ap, subst, arith, length-append}
use Rattle.std.specs.List.{AllByRecursion}
use Rattle.std.specs.List.Sorted.{IsStrictlySortedBy}
use Rattle.std.specs.Ordering.{nat_cmp}
use Rattle.std.proofs.lemmas.Bool.{cases_eq, cases_lt}
use Rattle.std.proofs.lemmas.List.{map_more, take_all, take_more}
use Rattle.blob_device.specs.Disk.{Disk}
use Rattle.sealed_pages.specs.declared.page_blob.PageBlob.{PageBlob}
use Rattle.segments.specs.FixedReplay.{StandsBefore}
use Rattle.paired.specs.Replaying.{GivesRecord, IsDue, Run, records_given}
use Rattle.archives.specs.IndexRecord.{IsInRange, IsSpelled, index_of, spelling_of}
use Rattle.archives.specs.IndexRecordLaws.{index_of-index_record, key_of-index_record}
use Rattle.archives.specs.Machine.{section_of}
use Rattle.archives.specs.Opening.{HasEntered}
use Rattle.archives.specs.Rows.{AreWithin, Row, row_in}
use Rattle.archives.specs.declared.prunable.index_record.IndexRecord.{IndexRecord}
use Rattle.blob_device.proofs.general.Lists.{all_push}

-- nothing is entered at the beginning
pub entered_start : {F S : Type 0} {gs : _} (key_size : ℕ) (rows : ℕ → List Row) (run : Run F (PageBlob S gs)) (d : Disk) → ((s : ℕ) → rows s ≡ []) → ((s p : ℕ) → IsDue run d s p ↔ (p < length (records_given run d s)))
    → HasEntered key_size rows run d
entered_start key_size rows run d none due = record {
  listed = λ s. none s ∙ sym (ap (λ (rs : List Row). map (row_in key_size) (take (length rs) (records_given run d s))) (none s));
  due = λ s p. (λ is. (omega (arith, ap length (none s)), (due s p).0 is), λ is. (due s p).1 is.1);
}

pub within_start : (items sections per_section : ℕ) (rows : ℕ → List Row) → ((s : ℕ) → rows s ≡ []) → AreWithin items sections per_section rows
within_start items sections per_section rows none = record {
  in_section = λ s. subst (AllByRecursion (λ r. section_of items r.index ≡ s)) (sym (none s)) tt;
  few_sections = few;
  few_records = λ s. omega (arith, ap length (none s));
}
  where
    few : (ss : List ℕ) → IsStrictlySortedBy nat_cmp ss → AllByRecursion (λ s. rows s ≢ []) ss → length ss ≤ sections
    few [] up all = omega arith
    few (s ∷ ss) up all = absurd (all.0 (none s))

-- the row of a record is that of its bytes
pub row_spelled : {K : Type 0} (key_bytes : K → List ℕ) (n : ℕ) → ((k : K) → length (key_bytes k) ≡ n) → (v : IndexRecord K) (bytes : List ℕ) → spelling_of key_bytes v ≡ bytes → IsInRange v
    → record { index = v.index; key = key_bytes v.key } ≡ row_in n bytes
row_spelled key_bytes n sized v bytes spelled fits =
    λ i. record { index = index i; key = key i }
  where
    index : v.index ≡ (row_in n bytes).index
    index = sym (index_of-index_record v.index (key_bytes v.key) v.offset v.size fits.0) ∙ ap (λ (r : List ℕ). (row_in n r).index) spelled

    key : key_bytes v.key ≡ (row_in n bytes).key
    key = sym (key_of-index_record n v.index (key_bytes v.key) v.offset v.size (sized v.key)) ∙ ap (λ (r : List ℕ). (row_in n r).key) spelled

module _ {F S : Type 0} {gs : _} (key_size : ℕ) (rows : ℕ → List Row) (now : Run F (PageBlob S gs)) (d : Disk) (entered : HasEntered key_size rows now d) where
  -- The first that is due is the next of its section.
  pub next_row : (s p : ℕ) → IsDue now d s p → ((t q : ℕ) → IsDue now d t q → StandsBefore t q s p → ⊥) → p ≡ length (rows s)
  next_row s p due first = elim (cases_lt (length (rows s)) p) [
    | inl lt ↦ absurd (first s (length (rows s)) ((entered.due s (length (rows s))).1 (omega arith, omega (arith, lt, is.1))) (inr (refl, lt)))
    | inr ge ↦ omega (arith, ge, is.0)
  ]
    where
      is : (length (rows s) ≤ p) × (p < length (records_given now d s))
      is = (entered.due s p).0 due

  -- Where nothing is due all are entered.
  pub all_rows : ((s p : ℕ) → IsDue now d s p → ⊥) → (s : ℕ) → rows s ≡ map (row_in key_size) (records_given now d s)
  all_rows none s = entered.listed s ∙ ap (map (row_in key_size)) (take_all (length (rows s)) (records_given now d s) all)
    where
      all : length (records_given now d s) ≤ length (rows s)
      all = elim (cases_lt (length (rows s)) (length (records_given now d s))) [
        | inl lt ↦ absurd (none s (length (rows s)) ((entered.due s (length (rows s))).1 (omega arith, lt)))
        | inr ge ↦ ge
      ]

  module _ {V : Type 0} (spelling : V → List ℕ) (accepted : V → Unit {0} → Type 0) (x : Run F (PageBlob S gs)) (e : Disk) (s p : ℕ) (v : V) (gives : GivesRecord spelling accepted now x d e s p v)
      (given : (t : ℕ) → records_given x e t ≡ records_given now d t) (new : ℕ → List Row) (row : Row) (added : new s ≡ rows s ++ row ∷ []) (others : (t : ℕ) → t ≢ s → new t ≡ rows t)
      (spelled : row ≡ row_in key_size (get_or (records_given now d s) p [])) where
    at : p ≡ length (rows s)
    at = next_row s p gives.due gives.first

    longer : length (new s) ≡ p + 1
    longer = ap length added ∙ length-append (rows s) (row ∷ []) ∙ omega (arith, at)

    within : p < length (records_given now d s)
    within = ((entered.due s p).0 gives.due).1

    here : new s ≡ map (row_in key_size) (take (p + 1) (records_given now d s))
    here = added
        ∙ ap (λ (r : Row). rows s ++ r ∷ []) spelled
        ∙ ap (λ (rs : List Row). rs ++ row_in key_size (get_or (records_given now d s) p []) ∷ []) (entered.listed s ∙ ap (λ (n : ℕ). map (row_in key_size) (take n (records_given now d s))) (sym at))
        ∙ sym (map_more (row_in key_size) (records_given now d s) p [] within)

    listed : (t : ℕ) → new t ≡ map (row_in key_size) (take (length (new t)) (records_given x e t))
    listed t = elim (cases_eq t s) [
      | inl is ↦ subst (λ (u : ℕ). new u ≡ map (row_in key_size) (take (length (new u)) (records_given x e u))) (sym is)
          (here ∙ ap (λ (n : ℕ). map (row_in key_size) (take n (records_given now d s))) (sym longer) ∙ ap (λ (rs : List (List ℕ)). map (row_in key_size) (take (length (new s)) rs)) (sym (given s)))
      | inr other ↦ others t other ∙ entered.listed t ∙ ap (λ (rs : List (List ℕ)). map (row_in key_size) (take (length (rows t)) rs)) (sym (given t))
          ∙ ap (λ (rs : List Row). map (row_in key_size) (take (length rs) (records_given x e t))) (sym (others t other))
    ]

    due : (t q : ℕ) → IsDue x e t q ↔ ((length (new t) ≤ q) × (q < length (records_given x e t)))
    due t q = elim (cases_eq t s) [
      | inl is ↦ subst (λ (u : ℕ). IsDue x e u q ↔ ((length (new u) ≤ q) × (q < length (records_given x e u)))) (sym is) (to, from)
      | inr other ↦ (to_other other, from_other other)
    ]
      where
        to : IsDue x e s q → (length (new s) ≤ q) × (q < length (records_given x e s))
        to is =
            let old = (gives.rest s q).0 is in
            let was = (entered.due s q).0 old.0 in
            let later : p < q = elim old.1 [ inl lt ↦ absurd (omega (arith, lt)) | inr lt ↦ lt.1 ] in
            (omega (arith, longer, later), omega (arith, was.1, ap length (given s)))

        from : (length (new s) ≤ q) × (q < length (records_given x e s)) → IsDue x e s q
        from is = (gives.rest s q).1 ((entered.due s q).1 (omega (arith, longer, at, is.0), omega (arith, is.1, ap length (given s))), inr (refl, omega (arith, longer, is.0)))

        to_other : t ≢ s → IsDue x e t q → (length (new t) ≤ q) × (q < length (records_given x e t))
        to_other other is =
            let was = (entered.due t q).0 ((gives.rest t q).0 is).0 in
            (omega (arith, was.0, ap length (others t other)), omega (arith, was.1, ap length (given t)))

        from_other : t ≢ s → (length (new t) ≤ q) × (q < length (records_given x e t)) → IsDue x e t q
        from_other other is =
            let was : IsDue now d t q = (entered.due t q).1 (omega (arith, is.0, ap length (others t other)), omega (arith, is.1, ap length (given t))) in
            elim (cases_lt s t) [
              | inl lt ↦ (gives.rest t q).1 (was, inl lt)
              | inr ge ↦ absurd (gives.first t q was (inl (omega (arith, ge, other))))
            ]

    -- The row of the record that was given is entered.
    pub entered_on : HasEntered key_size new x e
    entered_on = record { listed = listed; due = due }

  -- Where nothing is due, what each record that is entered has, each has.
  pub all_of : (P : List ℕ → Type 0) → ((s p : ℕ) → IsDue now d s p → ⊥) → ((s : ℕ) → AllByRecursion P (take (length (rows s)) (records_given now d s))) → (s : ℕ) → AllByRecursion P (records_given now d s)
  all_of P none has s = subst (AllByRecursion P) (take_all (length (rows s)) (records_given now d s) all) (has s)
    where
      all : length (records_given now d s) ≤ length (rows s)
      all = elim (cases_lt (length (rows s)) (length (records_given now d s))) [
        | inl lt ↦ absurd (none s (length (rows s)) ((entered.due s (length (rows s))).1 (omega arith, lt)))
        | inr ge ↦ ge
      ]

-- the bytes of a record are spelled by one
pub is_spelled : {K : Type 0} (key_bytes : K → List ℕ) (n : ℕ) → ((k : K) → length (key_bytes k) ≡ n) → (v : IndexRecord K) (bytes : List ℕ) → spelling_of key_bytes v ≡ bytes → IsInRange v → IsSpelled n bytes
is_spelled key_bytes n sized v bytes spelled fits = record {
  index = v.index;
  key = key_bytes v.key;
  offset = v.offset;
  size = v.size;
  index_fits = fits.0;
  key_size = sized v.key;
  offset_fits = fits.1;
  size_fits = fits.2;
  is = sym spelled;
}

-- and say its index
index_given : {K : Type 0} (key_bytes : K → List ℕ) (v : IndexRecord K) (bytes : List ℕ) → spelling_of key_bytes v ≡ bytes → IsInRange v → index_of bytes ≡ v.index
index_given key_bytes v bytes spelled fits = sym (ap index_of spelled) ∙ index_of-index_record v.index (key_bytes v.key) v.offset v.size fits.0

-- One more of those that are entered has P.
pub one_more : (P : List ℕ → Type 0) (rows new : ℕ → List Row) (row : Row) (was now : ℕ → List (List ℕ)) → ((t : ℕ) → now t ≡ was t) → (s p : ℕ) → new s ≡ rows s ++ row ∷ [] → ((t : ℕ) → t ≢ s → new t ≡ rows t)
    → p ≡ length (rows s) → p < length (was s) → P (get_or (was s) p []) → ((t : ℕ) → AllByRecursion P (take (length (rows t)) (was t))) → (t : ℕ) → AllByRecursion P (take (length (new t)) (now t))
one_more P rows new row was now same s p added others at within has all t = elim (cases_eq t s) [
  | inl is ↦ subst (λ (u : ℕ). AllByRecursion P (take (length (new u)) (now u))) (sym is) here
  | inr other ↦ subst (λ (rs : List Row). AllByRecursion P (take (length rs) (now t))) (sym (others t other)) (subst (λ (rs : List (List ℕ)). AllByRecursion P (take (length (rows t)) rs)) (sym (same t)) (all t))
]
  where
    long : length (new s) ≡ p + 1
    long = ap length added ∙ length-append (rows s) (row ∷ []) ∙ omega (arith, at)

    prefix : AllByRecursion P (take p (was s))
    prefix = subst (λ (n : ℕ). AllByRecursion P (take n (was s))) (sym at) (all s)

    pushed : AllByRecursion P (take (p + 1) (was s))
    pushed = subst (AllByRecursion P) (sym (take_more (was s) p [] within)) (all_push P (take p (was s)) (get_or (was s) p []) prefix has)

    here : AllByRecursion P (take (length (new s)) (now s))
    here = subst (λ (n : ℕ). AllByRecursion P (take n (now s))) (sym long) (subst (λ (rs : List (List ℕ)). AllByRecursion P (take (p + 1) rs)) (sym (same s)) pushed)

-- A record whose index is of another section is one that the walk gives.
pub stray_given : {K : Type 0} (key_bytes : K → List ℕ) (items s p : ℕ) (v : IndexRecord K) (was given : List (List ℕ)) → was ≡ given → p < length was → spelling_of key_bytes v ≡ get_or was p [] → IsInRange v
    → section_of items v.index ≢ s → (p < length given) × (section_of items (index_of (get_or given p [])) ≢ s)
stray_given key_bytes items s p v was given same within spelled fits other =
    subst (λ (rs : List (List ℕ)). (p < length rs) × (section_of items (index_of (get_or rs p [])) ≢ s)) same
    (within, λ here. other (ap (section_of items) (sym (index_given key_bytes v (get_or was p []) spelled fits)) ∙ here))
