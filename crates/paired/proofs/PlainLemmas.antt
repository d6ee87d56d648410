-- What a plain reading of an image goes by: the records of a section one after another, and those that are kept of them.
use Rattle.std.proofs.Common.{◌≡◌, ℕ, zero, suc, ◌+◌, ◌-◌, ◌<◌, ◌≤◌, ◌||◌, ◌&&◌, ◌==◌, ◌↔◌, nat_lt, nat_le, Bool, true, false, if◌then◌else◌, List, [], ◌∷◌, ◌++◌, length, map, take, drop, IsTrue, refl, sym, ◌∙◌, ap, subst, arith}
use Rattle.std.specs.List.{AllByRecursion}
use Rattle.std.specs.Int.{w32, from_be_bytes}
use Rattle.std.proofs.lemmas.Bool.{le-leb, lt-leb}
use Rattle.std.proofs.lemmas.List.{append_assoc, append-nil, take-take, length-take}
use Rattle.paired.specs.Frames.{bytes_at}
use Rattle.segments.specs.FixedItems.{item_count, item_at}
use Rattle.paired.specs.Records.{Entry, each_below, records, unbroken_prefix, is_sound, entry_of}
use Rattle.paired.specs.lemmas.Records.{prefix-take, prefix-enough, prefix-all}
use Rattle.blob_device.proofs.general.Lists.{all_take}

drop-each_below : {X : Type 0} (k n : ℕ) (f : ℕ → X) → k < n → drop k (each_below n f) ≡ f k ∷ drop (k + 1) (each_below n f)
drop-each_below zero zero f lt = absurd (omega (arith, lt))
drop-each_below (suc k) zero f lt = absurd (omega (arith, lt))
drop-each_below zero (suc n) f lt = refl
drop-each_below {X} (suc k) (suc n) f lt =
    let next : k + 1 ≡ suc k = omega arith in
    let more : suc k + 1 ≡ suc (k + 1) = omega arith in
    drop-each_below k n (λ i. f (i + 1)) (omega (arith, lt))
    ∙ (λ i. f (next i) ∷ drop (k + 1) (each_below n (λ j. f (j + 1))))
    ∙ ap (λ (m : ℕ). f (suc k) ∷ drop m (each_below (suc n) f)) (sym more)

-- the records from a position on
pub records-from : (size p : ℕ) (bytes : List ℕ) → p < item_count size bytes → drop p (records size bytes) ≡ item_at size bytes p ∷ drop (p + 1) (records size bytes)
records-from size p bytes lt = drop-each_below p (item_count size bytes) (item_at size bytes) lt

drop-past : {X : Type 0} (k n : ℕ) (f : ℕ → X) → n ≤ k → drop k (each_below n f) ≡ []
drop-past zero zero f le = refl
drop-past (suc k) zero f le = refl
drop-past zero (suc n) f le = absurd (omega (arith, le))
drop-past (suc k) (suc n) f le = drop-past k n (λ i. f (i + 1)) (omega (arith, le))

pub records-end : (size p : ℕ) (bytes : List ℕ) → item_count size bytes ≤ p → drop p (records size bytes) ≡ []
records-end size p bytes le = drop-past p (item_count size bytes) (item_at size bytes) le

module _ (sound : List ℕ → Bool) (marker size : ℕ) (bytes : List ℕ) where
  -- what is kept of the records from a position on
  abbrev pub kept_from : ℕ → List (List ℕ)
  kept_from p = unbroken_prefix sound marker p (drop p (records size bytes))

  -- the record there is kept, and those behind it that are
  pub kept-next : (p : ℕ) → p < item_count size bytes → (nat_lt p marker || sound (item_at size bytes p)) ≡ true → kept_from p ≡ item_at size bytes p ∷ kept_from (p + 1)
  kept-next p lt keeps =
      ap (unbroken_prefix sound marker p) (records-from size p bytes lt)
      ∙ ap (λ (b : Bool). if b then item_at size bytes p ∷ kept_from (p + 1) else []) keeps

  -- it is not, and then none is
  pub kept-stops : (p : ℕ) → p < item_count size bytes → (nat_lt p marker || sound (item_at size bytes p)) ≡ false → kept_from p ≡ []
  kept-stops p lt stops =
      ap (unbroken_prefix sound marker p) (records-from size p bytes lt)
      ∙ ap (λ (b : Bool). if b then item_at size bytes p ∷ kept_from (p + 1) else []) stops

  pub kept-ends : (p : ℕ) → item_count size bytes ≤ p → kept_from p ≡ []
  kept-ends p le = ap (unbroken_prefix sound marker p) (records-end size p bytes le)

-- A reading has come to a record: these are the bytes of the record, where its value stands, and whether it is kept.
module _ (seal : List ℕ → ℕ) (place : List ℕ → ℕ × ℕ) (values : List ℕ) (marker size : ℕ) (bytes : List ℕ) (whole had : List Entry) (p : ℕ) where
  abbrev pub sound_at : List ℕ → Bool
  sound_at b = is_sound seal values (place b)

  -- what was found so far, and what is still to be found
  abbrev pub StillToFind : Type 0
  StillToFind = had ++ map (entry_of place values) (kept_from sound_at marker size bytes p) ≡ whole

  pub found-all : item_count size bytes ≤ p → StillToFind → had ≡ whole
  found-all le so_far = sym (append-nil had) ∙ ap (λ (rs : List (List ℕ)). had ++ map (entry_of place values) rs) (sym (kept-ends sound_at marker size bytes p le)) ∙ so_far

  module _ (stored : List ℕ) (location : ℕ × ℕ) (keeps : Bool) (within : p < item_count size bytes) (is_stored : stored ≡ item_at size bytes p) (is_location : location ≡ place stored)
      (is_keeps : keeps ≡ (nat_lt p marker || is_sound seal values location)) (so_far : StillToFind) where
    tested : (nat_lt p marker || sound_at (item_at size bytes p)) ≡ keeps
    tested = ap (λ (s : List ℕ). nat_lt p marker || sound_at s) (sym is_stored) ∙ ap (λ (l : ℕ × ℕ). nat_lt p marker || is_sound seal values l) (sym is_location) ∙ sym is_keeps

    abbrev pub entry_at : List ℕ → ℕ × ℕ → Entry
    entry_at s l = record { stored = s; value = bytes_at values l.0 (l.1 - 4) }

    same_entry : entry_at stored location ≡ entry_of place values (item_at size bytes p)
    same_entry = let there : location ≡ place (item_at size bytes p) = is_location ∙ ap place is_stored in λ i. entry_at (is_stored i) (there i)

    pub found-end : keeps ≡ false → had ≡ whole
    found-end ends = sym (append-nil had) ∙ ap (λ (rs : List (List ℕ)). had ++ map (entry_of place values) rs) (sym (kept-stops sound_at marker size bytes p within (tested ∙ ends))) ∙ so_far

    pub found-more : keeps ≡ true → (f : Entry) → f ≡ entry_at stored location → (now : List Entry) → now ≡ had ++ f ∷ []
        → now ++ map (entry_of place values) (kept_from sound_at marker size bytes (p + 1)) ≡ whole
    found-more goes f is now added =
        ap (λ (xs : List Entry). xs ++ map (entry_of place values) (kept_from sound_at marker size bytes (p + 1))) (added ∙ ap (λ (x : Entry). had ++ x ∷ []) (is ∙ same_entry))
        ∙ append_assoc had (entry_of place values (item_at size bytes p) ∷ []) (map (entry_of place values) (kept_from sound_at marker size bytes (p + 1)))
        ∙ ap (λ (rs : List (List ℕ)). had ++ map (entry_of place values) rs) (sym (kept-next sound_at marker size bytes p within (tested ∙ goes))) ∙ so_far

-- all are sound that are kept, where none is below the marker
module _ (sound : List ℕ → Bool) (rs : List (List ℕ)) where
  all_same : (xs : List (List ℕ)) → AllByRecursion (λ r. IsTrue (sound r) → IsTrue (sound r)) xs
  all_same [] = tt
  all_same (x ∷ xs) = (λ is. is, all_same xs)

  -- so many are kept exactly where there are so many, all of them sound
  pub prefix-sound : (n : ℕ) → (n ≤ length (unbroken_prefix sound 0 0 rs)) ↔ ((n ≤ length rs) × AllByRecursion (λ r. IsTrue (sound r)) (take n rs))
  prefix-sound n = (λ le. (enough le, subst (AllByRecursion (λ r. IsTrue (sound r))) (firsts le) (all_take (λ r. IsTrue (sound r)) n (unbroken_prefix sound 0 0 rs) all)), λ both. prefix-enough sound 0 n 0 rs both.0 both.1)
    where
      all : AllByRecursion (λ r. IsTrue (sound r)) (unbroken_prefix sound 0 0 rs)
      all = prefix-all sound 0 (λ r. IsTrue (sound r)) 0 0 rs (omega arith) tt (all_same rs)

      fewer : length (unbroken_prefix sound 0 0 rs) ≤ length rs
      fewer = omega (arith, ap (λ (xs : List (List ℕ)). length xs) (prefix-take sound 0 0 rs), length-take (length (unbroken_prefix sound 0 0 rs)) rs)

      enough : n ≤ length (unbroken_prefix sound 0 0 rs) → n ≤ length rs
      enough le = omega (arith, fewer, le)

      firsts : n ≤ length (unbroken_prefix sound 0 0 rs) → take n (unbroken_prefix sound 0 0 rs) ≡ take n rs
      firsts le = ap (take n) (prefix-take sound 0 0 rs) ∙ take-take n (length (unbroken_prefix sound 0 0 rs)) rs le

module _ (seal : List ℕ → ℕ) (values : List ℕ) (at n : ℕ) where
  pub sound-short : n < 4 → is_sound seal values (at, n) ≡ false
  sound-short lt = ap (λ (b : Bool). b && nat_le (at + n) (length values) && (seal (bytes_at values at (n - 4)) == from_be_bytes w32 (bytes_at values (at + (n - 4)) 4))) (lt-leb 4 n lt)

  pub sound-past : 4 ≤ n → length values < at + n → is_sound seal values (at, n) ≡ false
  sound-past le past = λ i. le-leb 4 n le i && lt-leb (at + n) (length values) past i && (seal (bytes_at values at (n - 4)) == from_be_bytes w32 (bytes_at values (at + (n - 4)) 4))

  pub sound-inside : 4 ≤ n → at + n ≤ length values → is_sound seal values (at, n) ≡ (seal (bytes_at values at (n - 4)) == from_be_bytes w32 (bytes_at values (at + (n - 4)) 4))
  sound-inside le inside = λ i. le-leb 4 n le i && le-leb (at + n) (length values) inside i && (seal (bytes_at values at (n - 4)) == from_be_bytes w32 (bytes_at values (at + (n - 4)) 4))
