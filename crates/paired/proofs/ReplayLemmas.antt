-- One turn of a replay of a pair: the walk goes on, and the record that it gives is sorted. Which records are then due, and where sections end.
use Rattle.std.specs.Prelude.{◌≡◌, ◌≢◌, ◌↔◌, ◌⊎◌, ℕ, zero, suc, ◌+◌, ◌*◌, ◌/◌, ◌<◌, ◌≤◌, ◌||◌, nat_lt, cond, min, ◌-◌, ◌^◌, if◌then◌else◌, Bool, true, false, List, [], ◌∷◌, length, take, get_or, IsTrue, Option, None, Some, IsSome, IsSomeAnd, unwrap_or}
use Rattle.std.proofs.Common.{inl, inr, refl, sym, ◌∙◌, ap, subst, arith, length-take}
use Rattle.std.proofs.lemmas.Bool.{le-ltb, or_right, or_left, cases_lt, cases_eq, cases_Bool}
use Rattle.std.proofs.lemmas.Bool.Decides.{nat_tests}
use Rattle.std.proofs.lemmas.List.{get_or-take, take_all}
use Rattle.std.proofs.lemmas.Nat.{le-div}
use Rattle.std.proofs.Math.Nat.{div-mul-le_self, div-le_self}
use Rattle.blob_device.specs.Disk.{Disk}
use Rattle.sealed_pages.specs.declared.page_blob.PageBlob.{PageBlob}
use Rattle.section_manager.specs.Sections.{key_of, IsHeld}
use Rattle.segments.specs.FixedItems.{item_at}
use Rattle.segments.specs.FixedReplay.{Place, Walk, Gives, Stops, IsLeft, StandsBefore, kept_of, kept_bytes}
use Rattle.meta_store.specs.Store.{Store}
use Rattle.value_codec.specs.declared.key.Key8.{Key8}
use Rattle.paired.specs.glob.Sections as glob
use Rattle.paired.specs.Kept.{marker_of}
use Rattle.paired.specs.Places.{last_end}
use Rattle.paired.specs.Records.{records, unbroken_prefix, is_sound}
use Rattle.paired.specs.Replaying.{Run, marker, HasFailed, HasGiven, is_sound_over, records_over, records_given, IsDue, IsUnbroken, IsGood, IsEnd, IsChecked, GivesRecord, LosesRecords, Sorts}
use Rattle.paired.specs.lemmas.opening.Ends.{prefix_stops}
use Rattle.paired.specs.lemmas.Records.{last_end_at, records-take, length-records}
use Rattle.blob_device.proofs.general.Options.{none_or_value, some_same}
use Rattle.paired.specs.lemmas.Replay.{record_at}

below : (m n : ℕ) → m < n → nat_lt m n ≡ true
below m n lt = grind (arith, nat_tests)

-- ---- how far the prefix goes
module _ (sound : List ℕ → Bool) (m : ℕ) where
  good_test : (position : ℕ) (r : List ℕ) → (position + 0 < m) ⊎ IsTrue (sound r) → (nat_lt position m || sound r) ≡ true
  good_test position r (inl lt) = or_left (nat_lt position m) (sound r) (below position m (omega (arith, lt)))
  good_test position r (inr is) = or_right (nat_lt position m) (sound r) is

  test_good : (position : ℕ) (r : List ℕ) → (nat_lt position m || sound r) ≡ true → (position + 0 < m) ⊎ IsTrue (sound r)
  test_good position r is = elim (cases_lt position m) [
    | inl lt ↦ inl (omega (arith, lt))
    | inr ge ↦ inr (sym (ap (λ (b : Bool). b || sound r) (le-ltb position m ge)) ∙ is)
  ]

  longer : (b : Bool) (r : List ℕ) (tail : List (List ℕ)) (n : ℕ) → b ≡ true → n < length tail + 1 → n < length (if b then r ∷ tail else [])
  longer true r tail n is lt = omega (arith, lt)
  longer false r tail n is lt = absurd (cc is)

  prefix_reaches_from : (position p : ℕ) (rs : List (List ℕ)) → p < length rs → ((q : ℕ) → q ≤ p → (position + q < m) ⊎ IsTrue (sound (get_or rs q []))) → p < length (unbroken_prefix sound m position rs)
  prefix_reaches_from position p [] lt good = absurd (omega (arith, lt))
  prefix_reaches_from position zero (r ∷ rs) lt good = longer (nat_lt position m || sound r) r (unbroken_prefix sound m (position + 1) rs) 0 (good_test position r (good 0 (omega arith))) (omega arith)
  prefix_reaches_from position (suc p) (r ∷ rs) lt good =
      longer (nat_lt position m || sound r) r (unbroken_prefix sound m (position + 1) rs) (suc p) (good_test position r (good 0 (omega arith)))
      (omega (arith, prefix_reaches_from (position + 1) p rs (omega (arith, lt)) (λ q le. next q (good (suc q) (omega (arith, le))))))
    where
      next : (q : ℕ) → (position + suc q < m) ⊎ IsTrue (sound (get_or rs q [])) → (position + 1 + q < m) ⊎ IsTrue (sound (get_or rs q []))
      next q (inl lt) = inl (omega (arith, lt))
      next q (inr is) = inr is

  -- it goes past a record where that and all before it are good
  pub prefix_reaches : (p : ℕ) (rs : List (List ℕ)) → p < length rs → ((q : ℕ) → q ≤ p → (q < m) ⊎ IsTrue (sound (get_or rs q []))) → p < length (unbroken_prefix sound m 0 rs)
  prefix_reaches p rs lt good = prefix_reaches_from 0 p rs lt (λ q le. from_zero q (good q le))
    where
      from_zero : (q : ℕ) → (q < m) ⊎ IsTrue (sound (get_or rs q [])) → (0 + q < m) ⊎ IsTrue (sound (get_or rs q []))
      from_zero q (inl lt) = inl (omega (arith, lt))
      from_zero q (inr is) = inr is

  abbrev IsPrefixAt : ℕ → ℕ → List (List ℕ) → List (List ℕ) → Type 0
  IsPrefixAt position p rs kept = (p < length rs) × (get_or kept p [] ≡ get_or rs p []) × ((position + p < m) ⊎ IsTrue (sound (get_or rs p [])))

  prefix_good_from : (position p : ℕ) (rs : List (List ℕ)) → p < length (unbroken_prefix sound m position rs) → IsPrefixAt position p rs (unbroken_prefix sound m position rs)
  prefix_good_from position p [] lt = absurd (omega (arith, lt))
  prefix_good_from position zero (r ∷ rs) lt = step (nat_lt position m || sound r) (unbroken_prefix sound m (position + 1) rs) refl lt
    where
      step : (b : Bool) (tail : List (List ℕ)) → (nat_lt position m || sound r) ≡ b → 0 < length (if b then r ∷ tail else []) → IsPrefixAt position 0 (r ∷ rs) (if b then r ∷ tail else [])
      step true tail is lt = (omega arith, refl, test_good position r is)
      step false tail is lt = absurd (omega (arith, lt))
  prefix_good_from position (suc p) (r ∷ rs) lt = step (nat_lt position m || sound r) (unbroken_prefix sound m (position + 1) rs) lt (prefix_good_from (position + 1) p rs)
    where
      step : (b : Bool) (tail : List (List ℕ)) → suc p < length (if b then r ∷ tail else []) → (p < length tail → IsPrefixAt (position + 1) p rs tail) → IsPrefixAt position (suc p) (r ∷ rs) (if b then r ∷ tail else [])
      step true tail lt rest = (let is = rest (omega (arith, lt)) in (omega (arith, is.0), is.1, next is.2))
        where
          next : (position + 1 + p < m) ⊎ IsTrue (sound (get_or rs p [])) → (position + suc p < m) ⊎ IsTrue (sound (get_or rs p []))
          next (inl lt) = inl (omega (arith, lt))
          next (inr is) = inr is
      step false tail lt rest = absurd (omega (arith, lt))

  -- and then these are good
  pub prefix_good : (p : ℕ) (rs : List (List ℕ)) → p < length (unbroken_prefix sound m 0 rs) → (p < length rs) × (get_or (unbroken_prefix sound m 0 rs) p [] ≡ get_or rs p []) × ((p < m) ⊎ IsTrue (sound (get_or rs p [])))
  prefix_good p rs lt = (let is = prefix_good_from 0 p rs lt in (is.0, is.1, from_zero is.2))
    where
      from_zero : (0 + p < m) ⊎ IsTrue (sound (get_or rs p [])) → (p < m) ⊎ IsTrue (sound (get_or rs p []))
      from_zero (inl lt) = inl (omega (arith, lt))
      from_zero (inr is) = inr is

-- ---- records by their bytes

whole_items : (size : ℕ) (a : List ℕ) → 1 ≤ size → records size (take (length a / size * size) a) ≡ records size a
whole_items size a pos =
    let enough : length a / size ≤ length a / size * size / size = le-div (length a / size) (length a / size * size) size (omega (arith, pos)) (omega arith) in
    records-take size (length a / size * size) a pos (div-mul-le_self (length a) size) ∙ take_all (length a / size * size / size) (records size a) (omega (arith, length-records size a, enough))

-- the records of whole items that are the same
pub records_of_items : (size : ℕ) (a b : List ℕ) → 1 ≤ size → length a / size ≡ length b / size → take (length b / size * size) a ≡ take (length b / size * size) b → records size a ≡ records size b
records_of_items size a b pos count same =
    sym (whole_items size a pos) ∙ ap (λ (k : ℕ). records size (take (k * size) a)) count ∙ ap (records size) same ∙ whole_items size b pos

-- of two records of a replay one stands before the other, or they are the same
in_order : (t q s p : ℕ) → StandsBefore t q s p ⊎ (StandsBefore s p t q ⊎ ((t ≡ s) × (q ≡ p)))
in_order t q s p = elim (cases_lt t s) [
  | inl lt ↦ inl (inl lt)
  | inr ge ↦ elim (cases_lt s t) [
    | inl lt ↦ inr (inl (inl lt))
    | inr le ↦ elim (cases_lt q p) [
      | inl lt ↦ inl (inr (omega (arith, ge, le), lt))
      | inr over ↦ elim (cases_lt p q) [
        | inl lt ↦ inr (inl (inr (omega (arith, ge, le), lt)))
        | inr under ↦ inr (inr (omega (arith, ge, le), omega (arith, over, under)))
      ]
    ]
  ]
]

-- where the last of the first n of these records' values ends, as far as a u64 counts
abbrev counted_of : (List ℕ → ℕ × ℕ) → ℕ → List (List ℕ) → ℕ
counted_of place n rs = min (last_end place (take n rs)) (2 ^ 64 - 1)

-- what stands at a record or before it stands at the next one or before it
further : (s p : ℕ) (o : Option Place) → IsSomeAnd o (λ r. (r.section ≡ s) × (r.position ≤ p)) → IsSomeAnd o (λ r. (r.section ≡ s) × (r.position ≤ p + 1))
further s p None has = absurd has
further s p (Some r) has = (has.0, omega (arith, has.1))

-- Both runs are over the same values, with the same markers. The walk went to w, and the disk to e, which has the values as d has.
pub record Turns {F S : Type 0} {gs : _} (old new : Run F (PageBlob S gs)) (w : Walk F (PageBlob S gs)) (d e : Disk) : Type 0 where
  pub seal : new.layout.seal ≡ old.layout.seal
  pub size : new.layout.record_size ≡ old.layout.record_size
  pub place : new.layout.place ≡ old.layout.place
  pub walk : new.walk ≡ w
  pub values : new.values ≡ old.values
  pub store : new.store ≡ old.store
  pub tracked : new.tracked ≡ old.tracked
  pub bytes : (s : ℕ) → glob.section_bytes old.values e s ≡ glob.section_bytes old.values d s

module _ {F S : Type 0} {gs : _} (seal : List ℕ → ℕ) (size : ℕ) (w : Walk F (PageBlob S gs)) (e : Disk) (t q : ℕ) where
  kept_some : (owes : Bool) (o : Option (PageBlob S gs)) (content : List ℕ) → q < length (kept_of seal owes o content) / size → IsSome o
  kept_some true None content lt = absurd (omega (arith, lt, div-le_self 0 size))
  kept_some false None content lt = absurd (omega (arith, lt, div-le_self 0 size))
  kept_some owes (Some u) content lt = refl

  -- a section of which an item is left is held
  pub left_held : IsLeft seal size w e t q → IsHeld w.journal.sections t
  left_held left = kept_some (w.journal.unrecovered t) (w.journal.sections.held t) (e (key_of w.journal.sections t)).content left.whole

module _ {F S : Type 0} {gs : _} (run : Run F (PageBlob S gs)) (d : Disk) where
  opening_given : run.tracked ≡ true → (s : ℕ) → records_given run d s ≡ unbroken_prefix (is_sound_over run d s) (marker run s) 0 (records_over run d s)
  opening_given is s = ap (λ (b : Bool). cond b (unbroken_prefix (is_sound_over run d s) (marker run s) 0 (records_over run d s)) (records_over run d s)) is

  live_given : run.tracked ≡ false → (s : ℕ) → records_given run d s ≡ records_over run d s
  live_given is s = ap (λ (b : Bool). cond b (unbroken_prefix (is_sound_over run d s) (marker run s) 0 (records_over run d s)) (records_over run d s)) is

  -- what is given stands where it stood
  pub given_at : (s p : ℕ) → p < length (records_given run d s) → get_or (records_given run d s) p [] ≡ get_or (records_over run d s) p []
  given_at s p lt = elim (cases_Bool run.tracked) [
    | inl is ↦ ap (λ (rs : List (List ℕ)). get_or rs p []) (opening_given is s)
        ∙ (prefix_good (is_sound_over run d s) (marker run s) p (records_over run d s) (subst (λ (rs : List (List ℕ)). p < length rs) (opening_given is s) lt)).1
    | inr is ↦ ap (λ (rs : List (List ℕ)). get_or rs p []) (live_given is s)
  ]

  -- a record that is left is one of those that are gone over
  pub left_within : (s p : ℕ) → IsLeft run.layout.seal run.layout.record_size run.walk d s p → p < length (records_over run d s)
  left_within s p left = omega (arith, left.whole, length-records run.layout.record_size (kept_bytes run.layout.seal run.layout.record_size run.walk d s))

  -- where a section has an end, what is given stops there
  end_stops : run.tracked ≡ true → (s r : ℕ) → IsEnd run d s r → length (records_given run d s) ≤ r
  end_stops is s r end =
      let stop : unbroken_prefix (is_sound_over run d s) (marker run s) 0 (records_over run d s) ≡ take r (records_over run d s) =
      prefix_stops (is_sound_over run d s) (marker run s) 0 r (records_over run d s) (omega (arith, end.within)) (λ q lt. from_zero q (end.good q lt)) (inr (omega (arith, end.from), end.fails)) in
      omega (arith, ap length (opening_given is s), ap length stop, length-take r (records_over run d s))
    where
      from_zero : (q : ℕ) → (q < marker run s) ⊎ IsTrue (is_sound_over run d s (get_or (records_over run d s) q [])) → (0 + q < marker run s) ⊎ IsTrue (is_sound_over run d s (get_or (records_over run d s) q []))
      from_zero q (inl lt) = inl (omega (arith, lt))
      from_zero q (inr good) = inr good

module _ {F S : Type 0} {gs : _} (old new : Run F (PageBlob S gs)) (w : Walk F (PageBlob S gs)) (d e : Disk) (turn : Turns old new w d e) where
  over_w : (s : ℕ) → records_over new e s ≡ records old.layout.record_size (kept_bytes old.layout.seal old.layout.record_size w e s)
  over_w s = λ i. records (turn.size i) (kept_bytes (turn.seal i) (turn.size i) (turn.walk i) e s)

  -- ---- the new run by the old one
  values_stay : (s : ℕ) → glob.section_bytes new.values e s ≡ glob.section_bytes old.values d s
  values_stay s = (λ i. glob.section_bytes (turn.values i) e s) ∙ turn.bytes s

  sound_stay : (s : ℕ) → is_sound_over new e s ≡ is_sound_over old d s
  sound_stay s = λ i r. is_sound (turn.seal i) (values_stay s i) (turn.place i r)

  marker_stay : (s : ℕ) → marker new s ≡ marker old s
  marker_stay s = ap (λ (u : Store Key8 ℕ). marker_of u.entries s) turn.store

  left_same : (t q : ℕ) → IsLeft new.layout.seal new.layout.record_size new.walk e t q ≡ IsLeft old.layout.seal old.layout.record_size w e t q
  left_same t q = λ i. IsLeft (turn.seal i) (turn.size i) (turn.walk i) e t q

  left_to : (t q : ℕ) → IsLeft new.layout.seal new.layout.record_size new.walk e t q → IsLeft old.layout.seal old.layout.record_size w e t q
  left_to t q left = subst (λ (X : Type 0). X) (left_same t q) left

  left_from : (t q : ℕ) → IsLeft old.layout.seal old.layout.record_size w e t q → IsLeft new.layout.seal new.layout.record_size new.walk e t q
  left_from t q left = subst (λ (X : Type 0). X) (sym (left_same t q)) left

  -- what is given of a section with the same records
  pub given_stay : (s : ℕ) → records_over new e s ≡ records_over old d s → records_given new e s ≡ records_given old d s
  given_stay s same = λ i. cond (turn.tracked i) (unbroken_prefix (sound_stay s i) (marker_stay s i) 0 (same i)) (same i)

  module _ (s : ℕ) (same : records_over new e s ≡ records_over old d s) where
    good_same : (p : ℕ) → IsGood new e s p ≡ IsGood old d s p
    good_same p = λ i. (p < marker_stay s i) ⊎ IsTrue (sound_stay s i (get_or (same i) p []))

    good_from : (p : ℕ) → IsGood old d s p → IsGood new e s p
    good_from p good = subst (λ (X : Type 0). X) (sym (good_same p)) good

    end_from : (p : ℕ) → IsEnd old d s p → IsEnd new e s p
    end_from p end = record {
      within = omega (arith, ap length same, end.within);
      from = omega (arith, marker_stay s, end.from);
      fails = (λ i. sound_stay s i (get_or (same i) p [])) ∙ end.fails;
      good = λ q lt. good_from q (end.good q lt);
    }

    due_from : (q : ℕ) → IsLeft new.layout.seal new.layout.record_size new.walk e s q → new.ended_section ≢ Some s → q < length (records_given old d s) → IsDue new e s q
    due_from q left going given = record { left = left; goes_on = going; given = omega (arith, ap length (given_stay s same), given) }

    given_back : (q : ℕ) → IsDue new e s q → q < length (records_given old d s)
    given_back q due = omega (arith, ap length (given_stay s same), due.given)

  -- ---- an error of the walk
  module _ (stops : Stops old.layout.seal old.layout.record_size old.walk w d e) (rs : (t : ℕ) → IsHeld w.journal.sections t → records_over new e t ≡ records_over old d t) (ended : new.ended_section ≡ old.ended_section) where
    rs_left : (t q : ℕ) → IsLeft old.layout.seal old.layout.record_size w e t q → records_over new e t ≡ records_over old d t
    rs_left t q left = rs t (left_held old.layout.seal old.layout.record_size w e t q left)

    pub due_after_stop : LosesRecords old new d e
    due_after_stop = elim stops.rest [
      | inl over ↦ record { rest = inl (ap (λ (x : Walk F (PageBlob S gs)). x.ended) turn.walk ∙ over) }
      | inr some ↦ record {
        rest = inr (
          some.0,
          (λ t q due lt. some.1.first t q due.left lt),
          (λ t q. (
            (λ due.
                let left = left_to t q due.left in
                let back = (some.1.rest t q).0 left in
                (record { left = back.0; goes_on = λ is. due.goes_on (ended ∙ is); given = given_back t (rs_left t q left) q due }, back.1)),
            (λ pair.
                let left = (some.1.rest t q).1 (pair.0.left, pair.1) in
                due_from t (rs_left t q left) q (left_from t q left) (λ is. pair.0.goes_on (sym ended ∙ is)) pair.0.given),
          )),
        );
      }
    ]

    pub end_stopped : IsChecked old d → ((t : ℕ) → new.ends.at t ≡ old.ends.at t) → HasFailed new → IsChecked new e
    end_stopped checked ends failed = elim stops.rest [
      | inl over ↦ (
          let none : (t q : ℕ) → IsLeft new.layout.seal new.layout.record_size new.walk e t q → ⊥ = λ t q left. no_more over (left_to t q left).goes_on in
          record {
            good = λ t q unbroken lt no_end. absurd (broken_off none t unbroken);
            ends = λ t q unbroken is. absurd (broken_off none t unbroken);
            values = λ fine. absurd (fine failed);
            behind = λ t p q is left. absurd (none t q left);
            broken = λ t is. failed;
            passed = λ t u q is left. absurd (none u q left);
          })
      | inr some ↦ record {
        good = λ t q unbroken lt no_end. (
            let has = left_on t unbroken in
            let here = left_to t has.1.0 has.1.1 in
            let back = (some.1.rest t has.1.0).0 here in
            let same = rs_left t has.1.0 here in
            elim (checked.good t q (inr ((λ is. has.0 (ended ∙ is)), (has.1.0, back.0))) (omega (arith, ap length same, lt)) (sym (ends t) ∙ no_end)) [
              | inl good ↦ inl (good_from t same q good)
              | inr left ↦ inr (left_from t q ((some.1.rest t q).1 (left, back.1)))
            ]);
        ends = λ t q unbroken is. (
            let has = left_on t unbroken in
            let here = left_to t has.1.0 has.1.1 in
            let back = (some.1.rest t has.1.0).0 here in
            end_from t (rs_left t has.1.0 here) q (checked.ends t q (inr ((λ was. has.0 (ended ∙ was)), (has.1.0, back.0))) (sym (ends t) ∙ is)));
        values = λ fine. absurd (fine failed);
        behind = λ t p q is left. checked.behind t p q (sym (ends t) ∙ is) ((some.1.rest t q).0 (left_to t q left)).0;
        broken = λ t is. failed;
        passed = λ t u q is left. checked.passed t u q (sym ended ∙ is) ((some.1.rest u q).0 (left_to u q left)).0;
      }
    ]
      where
        no_more : w.ended ≡ true → w.ended ≡ false → ⊥
        no_more over goes = cc (over, goes)

        left_on : (t : ℕ) → IsUnbroken new e t → (new.ended_section ≢ Some t) × ((p : ℕ) × IsLeft new.layout.seal new.layout.record_size new.walk e t p)
        left_on t (inl none) = absurd (none failed)
        left_on t (inr has) = has

        broken_off : ((t q : ℕ) → IsLeft new.layout.seal new.layout.record_size new.walk e t q → ⊥) → (t : ℕ) → IsUnbroken new e t → ⊥
        broken_off none t unbroken = (let has = left_on t unbroken in none t has.1.0 has.1.1)

  -- ---- a record that is given by the walk
  module _ {V : Type 0} (spelling : V → List ℕ) (accepted : V → Unit {0} → Type 0) (s p : ℕ) (v : V) (gives : Gives old.layout.seal old.layout.record_size spelling accepted old.walk w d e s p v)
      (rs : (t : ℕ) → records_over new e t ≡ records_over old d t) where
    -- what is left was left, behind that record
    back : (t q : ℕ) → IsLeft new.layout.seal new.layout.record_size new.walk e t q → IsLeft old.layout.seal old.layout.record_size old.walk d t q × StandsBefore s p t q
    back t q left = (gives.rest t q).0 (left_to t q left)

    on : (t q : ℕ) → IsLeft old.layout.seal old.layout.record_size old.walk d t q → StandsBefore s p t q → IsLeft new.layout.seal new.layout.record_size new.walk e t q
    on t q left behind = left_from t q ((gives.rest t q).1 (left, behind))

    -- what stands before it in its section is good
    good_before : IsChecked old d → old.ended_section ≢ Some s → old.ends.at s ≡ None → (q : ℕ) → q < p → IsGood old d s q
    good_before checked going no_end q lt = elim (checked.good s q (inr (going, (p, gives.left))) (omega (arith, lt, left_within old d s p gives.left)) no_end) [
      | inl good ↦ good
      | inr left ↦ absurd (gives.first s q left (inr (refl, lt)))
    ]

    -- its check fails by an error
    module _ (checked : IsChecked old d) (going : old.ended_section ≢ Some s) (ended : new.ended_section ≡ Some s) where
      -- a section of which something is left is another one, and had not ended
      later : (t q : ℕ) → new.ended_section ≢ Some t → StandsBefore s p t q → s < t
      later t q not (inl lt) = lt
      later t q not (inr same) = absurd (not (cc (ended, same.0)))

      goes : (t : ℕ) → s < t → old.ended_section ≢ Some t
      goes t lt is = absurd (omega (arith, lt, checked.passed t s p is gives.left))

      other : (t : ℕ) → s < t → new.ended_section ≢ Some t
      other t lt is = (let same : s ≡ t = some_same s t (sym ended ∙ is) in absurd (omega (arith, lt, same)))

      pub due_after_check : LosesRecords old new d e
      due_after_check = record {
        rest = inr (
          s,
          (λ t q due lt. gives.first t q due.left (inl lt)),
          (λ t q. (
            (λ due.
                let was = back t q due.left in
                let lt = later t q due.goes_on was.1 in
                (record { left = was.0; goes_on = goes t lt; given = given_back t (rs t) q due }, lt)),
            (λ pair. due_from t (rs t) q (on t q pair.0.left (inl pair.1)) (other t pair.1) pair.0.given),
          )),
        );
      }

      pub end_checked : ((t : ℕ) → new.ends.at t ≡ old.ends.at t) → new.failed ≡ true → IsChecked new e
      end_checked ends failed = record {
        good = λ t q unbroken lt no_end. (
            let has = left_on t unbroken in
            let was = back t has.1.0 has.1.1 in
            let behind = later t has.1.0 has.0 was.1 in
            elim (checked.good t q (inr (goes t behind, (has.1.0, was.0))) (omega (arith, ap length (rs t), lt)) (sym (ends t) ∙ no_end)) [
              | inl good ↦ inl (good_from t (rs t) q good)
              | inr left ↦ inr (on t q left (inl behind))
            ]);
        ends = λ t q unbroken is. (
            let has = left_on t unbroken in
            let was = back t has.1.0 has.1.1 in
            end_from t (rs t) q (checked.ends t q (inr (goes t (later t has.1.0 has.0 was.1), (has.1.0, was.0))) (sym (ends t) ∙ is)));
        values = λ fine. absurd (fine (inl failed));
        behind = λ t r q is left. checked.behind t r q (sym (ends t) ∙ is) (back t q left).0;
        broken = λ t is. inl failed;
        passed = λ t u q is left. not_past t u q (some_same s t (sym ended ∙ is)) (back u q left).1;
      }
        where
          left_on : (t : ℕ) → IsUnbroken new e t → (new.ended_section ≢ Some t) × ((r : ℕ) × IsLeft new.layout.seal new.layout.record_size new.walk e t r)
          left_on t (inl none) = absurd (none (inl failed))
          left_on t (inr has) = has

          not_past : (t u q : ℕ) → s ≡ t → StandsBefore s p u q → t ≤ u
          not_past t u q same (inl lt) = omega (arith, lt, same)
          not_past t u q same (inr in_it) = omega (arith, same, in_it.0)

    -- it is sorted
    module _ (location : V → ℕ × ℕ) (spelled : (r : V) → accepted r tt → old.layout.place (spelling r) ≡ location r) {Kept : Type 0} (sorts : Sorts old new e s p (location v) Kept)
        (ended : new.ended_section ≡ old.ended_section) where
      -- its bytes are item p
      here : get_or (records_over old d s) p [] ≡ item_at old.layout.record_size (kept_bytes old.layout.seal old.layout.record_size old.walk d s) p
      here = record_at old.layout.record_size (kept_bytes old.layout.seal old.layout.record_size old.walk d s) p gives.left.whole

      -- the location is that of the record's bytes
      pub located : location v ≡ old.layout.place (get_or (records_over old d s) p [])
      located = sym (spelled v gives.item.allowed) ∙ ap old.layout.place (gives.item.spelled ∙ sym here)

      abbrev IsSoundNow : Type 0
      IsSoundNow = IsTrue (is_sound old.layout.seal (glob.section_bytes old.values e s) (location v))

      sound_now : IsSoundNow ≡ IsTrue (is_sound_over old d s (get_or (records_over old d s) p []))
      sound_now = λ i. IsTrue (is_sound old.layout.seal (turn.bytes s i) (located i))

      good_now : (p < marker old s) ⊎ IsSoundNow → IsGood old d s p
      good_now (inl lt) = inl lt
      good_now (inr is) = inr (subst (λ (X : Type 0). X) sound_now is)

      good_was : IsGood old d s p → (p < marker old s) ⊎ IsSoundNow
      good_was (inl lt) = inl lt
      good_was (inr is) = inr (subst (λ (X : Type 0). X) (sym sound_now) is)

      -- what being kept says in an opening
      kept_says : Kept → old.tracked ≡ true → (old.ended_section ≢ Some s) × (old.ends.at s ≡ None) × ((p < marker old s) ⊎ IsSoundNow)
      kept_says kept tracked = elim (sorts.kept.0 kept) [
        | inl live ↦ absurd (cc (tracked, live))
        | inr parts ↦ parts
      ]

      -- kept, in an opening or over an open pair
      pub due_after : Kept → (old.tracked ≡ true → IsChecked old d) → (old.tracked ≡ false → old.ended_section ≡ None) → GivesRecord spelling accepted old new d e s p v
      due_after kept checked live = record {
        due = due;
        first = λ t q was before. gives.first t q was.left before;
        item = record { spelled = gives.item.spelled ∙ sym here ∙ sym (given_at old d s p due.given); allowed = gives.item.allowed };
        rest = λ t q. (
          (λ now. (let was = back t q now.left in (record { left = was.0; goes_on = λ is. now.goes_on (ended ∙ is); given = given_back t (rs t) q now }, was.1))),
          (λ pair. due_from t (rs t) q (on t q pair.0.left pair.1) (λ is. pair.0.goes_on (sym ended ∙ is)) pair.0.given),
        );
      }
        where
          no_end : old.ended_section ≡ None → old.ended_section ≡ Some s → ⊥
          no_end none some = cc (none, some)

          due : IsDue old d s p
          due = elim (cases_Bool old.tracked) [
            | inl tracked ↦ (
                let says = kept_says kept tracked in
                record {
                  left = gives.left;
                  goes_on = says.0;
                  given = omega (
                    arith,
                    ap length (opening_given old d tracked s),
                    prefix_reaches (is_sound_over old d s) (marker old s) p (records_over old d s) (left_within old d s p gives.left) (λ q le. elim (cases_lt q p) [
                      | inl lt ↦ good_before (checked tracked) says.0 says.1 q lt
                      | inr ge ↦ (let same : p ≡ q = omega (arith, le, ge) in subst (IsGood old d s) same (good_now says.2))
                    ]),
                  );
                })
            | inr not ↦ record { left = gives.left; goes_on = λ is. no_end (live not) is; given = omega (arith, ap length (live_given old d not s), left_within old d s p gives.left) }
          ]

      -- one that is skipped was not due
      not_due : (Kept → ⊥) → old.tracked ≡ true → IsChecked old d → IsDue old d s p → ⊥
      not_due skipped tracked checked due = elim (none_or_value (old.ends.at s)) [
        | inl none ↦ skipped (sorts.kept.1 (inr (due.goes_on, none, good_was (prefix_good (is_sound_over old d s) (marker old s) p (records_over old d s) (omega (arith, ap length (opening_given old d tracked s), due.given))).2)))
        | inr some ↦ absurd (omega (arith, due.given, checked.behind s some.0 p some.1 due.left, end_stops old d tracked s some.0 (checked.ends s some.0 (inr (due.goes_on, (p, due.left))) some.1)))
      ]

      -- or skipped
      pub due_skipped : (Kept → ⊥) → old.tracked ≡ true → IsChecked old d → (t q : ℕ) → IsDue new e t q ↔ IsDue old d t q
      due_skipped skipped tracked checked t q = (
        (λ now. (let was = back t q now.left in record { left = was.0; goes_on = λ is. now.goes_on (ended ∙ is); given = given_back t (rs t) q now })),
        (λ was. due_from t (rs t) q (on t q was.left (behind was)) (λ is. was.goes_on (sym ended ∙ is)) was.given),
      )
        where
          behind : IsDue old d t q → StandsBefore s p t q
          behind was = elim (in_order t q s p) [
            | inl before ↦ absurd (gives.first t q was.left before)
            | inr (inl after) ↦ after
            | inr (inr same) ↦ absurd (not_due skipped tracked checked (subst (λ (n : ℕ). IsDue old d n p) same.0 (subst (IsDue old d t) same.1 was)))
          ]

      -- ---- where the last value that is kept ends
      given_length : (t : ℕ) → length (records_given new e t) ≡ length (records_given old d t)
      given_length t = ap length (given_stay t (rs t))

      counted_stays : (t n : ℕ) → counted_of old.layout.place n (records_given old d t) ≡ counted_of new.layout.place n (records_given new e t)
      counted_stays t n = λ i. counted_of (sym turn.place i) n (sym (given_stay t (rs t)) i)

      module _ (tracked : old.tracked ≡ true) (checked : IsChecked old d) (fine : HasFailed old → ⊥) where
        going : old.ended_section ≢ Some s
        going is = fine (checked.broken s is)

        -- of another section as much has been given as before
        had_other : (t n : ℕ) → t ≢ s → HasGiven new e t n → HasGiven old d t n
        had_other t n other given = record {
          within = omega (arith, given.within, given_length t);
          past = λ q lt left. elim (cases_lt t s) [
            | inl before ↦ gives.first t q left (inl before)
            | inr from ↦ elim (cases_lt s t) [
              | inl behind ↦ given.past q lt (on t q left (inl behind))
              | inr to ↦ absurd (other (omega (arith, from, to)))
            ]
          ];
          left = λ q le lt. (back t q (given.left q le (omega (arith, lt, given_length t)))).0;
        }

        -- a record that is skipped stands past those that are given
        skipped_past : (Kept → ⊥) → length (records_given old d s) ≤ p
        skipped_past skipped = elim (cases_lt p (length (records_given old d s))) [
          | inl lt ↦ absurd (not_due skipped tracked checked (record { left = gives.left; goes_on = going; given = lt }))
          | inr le ↦ le
        ]

        had_skipped : (Kept → ⊥) → (n : ℕ) → HasGiven new e s n → HasGiven old d s n
        had_skipped skipped n given = record {
          within = omega (arith, given.within, given_length s);
          past = λ q lt left. gives.first s q left (inr (refl, omega (arith, lt, given.within, given_length s, skipped_past skipped)));
          left = λ q le lt. (back s q (given.left q le (omega (arith, lt, given_length s)))).0;
        }

        -- the record behind it is left, if it is given
        next_left : p + 1 < length (records_given old d s) → IsLeft old.layout.seal old.layout.record_size old.walk d s (p + 1)
        next_left lt = record {
          goes_on = gives.left.goes_on;
          begun = omega (arith, gives.left.begun);
          whole = omega (
            arith,
            (prefix_good (is_sound_over old d s) (marker old s) (p + 1) (records_over old d s) (omega (arith, ap length (opening_given old d tracked s), lt))).0,
            length-records old.layout.record_size (kept_bytes old.layout.seal old.layout.record_size old.walk d s),
          );
          ahead = elim gives.left.ahead [ inl far ↦ inl far | inr in_it ↦ inr (further s p old.walk.place in_it) ];
        }

        -- one that is kept is the last that has been given
        kept_last : p < length (records_given old d s) → (n : ℕ) → HasGiven new e s n → n ≡ p + 1
        kept_last within n given = elim (cases_lt p n) [
          | inr le ↦ absurd (not_itself (back s p (given.left p le (omega (arith, within, given_length s)))).1)
          | inl lt ↦ elim (cases_lt (p + 1) n) [
            | inr le ↦ omega (arith, lt, le)
            | inl more ↦ absurd (given.past (p + 1) more (on s (p + 1) (next_left (omega (arith, more, given.within, given_length s))) (inr (refl, omega arith))))
          ]
        ]
          where
            not_itself : StandsBefore s p s p → ⊥
            not_itself (inl lt) = omega (arith, lt)
            not_itself (inr at) = omega (arith, at.1)

        values_kept : Kept → (n : ℕ) → HasGiven new e s n → unwrap_or (new.ends.values s) 0 ≡ counted_of old.layout.place n (records_given old d s)
        values_kept kept n given =
            let due = (due_after kept (λ is. checked) (λ live. absurd (cc (tracked, live)))).due in
            let last : n ≡ p + 1 = kept_last due.given n given in
            let sized : p + 1 ≡ length (take (p + 1) (records_given old d s)) = omega (arith, due.given, length-take (p + 1) (records_given old d s)) in
            let at : get_or (take (p + 1) (records_given old d s)) p [] ≡ get_or (records_over old d s) p [] = get_or-take (p + 1) (records_given old d s) p [] (omega arith) ∙ given_at old d s p due.given in
            let end : last_end old.layout.place (take (p + 1) (records_given old d s)) ≡ (location v).0 + (location v).1 =
            last_end_at old.layout.place (take (p + 1) (records_given old d s)) p sized ∙ ap (λ (l : ℕ × ℕ). l.0 + l.1) (ap old.layout.place at ∙ sym located) in
            ap (λ (o : Option ℕ). unwrap_or o 0) (sorts.value kept tracked) ∙ ap (λ (k : ℕ). min k (2 ^ 64 - 1)) (sym end)
            ∙ ap (λ (k : ℕ). counted_of old.layout.place k (records_given old d s)) (sym last)

        values_sorted : Kept ⊎ (Kept → ⊥) → (t n : ℕ) → HasGiven new e t n → unwrap_or (new.ends.values t) 0 ≡ counted_of new.layout.place n (records_given new e t)
        values_sorted decides t n given = elim (cases_eq t s) [
          | inr other ↦ ap (λ (o : Option ℕ). unwrap_or o 0) (sorts.other_values t (inl other)) ∙ checked.values fine t n (had_other t n other given) ∙ counted_stays t n
          | inl same ↦ subst (λ (x : ℕ). unwrap_or (new.ends.values x) 0 ≡ counted_of new.layout.place n (records_given new e x)) (sym same) (of_it decides (subst (λ (x : ℕ). HasGiven new e x n) same given))
        ]
          where
            of_it : Kept ⊎ (Kept → ⊥) → HasGiven new e s n → unwrap_or (new.ends.values s) 0 ≡ counted_of new.layout.place n (records_given new e s)
            of_it (inl kept) has = values_kept kept n has ∙ counted_stays s n
            of_it (inr skipped) has = ap (λ (o : Option ℕ). unwrap_or o 0) (sorts.other_values s (inr skipped)) ∙ checked.values fine s n (had_skipped skipped n has) ∙ counted_stays s n

      pub end_sorted : Kept ⊎ (Kept → ⊥) → old.tracked ≡ true → IsChecked old d → (HasFailed old → HasFailed new) → IsChecked new e
      end_sorted decides tracked checked later = record {
        good = λ t q unbroken lt no_end. elim (checked.good t q (unbroken_back t unbroken) (omega (arith, ap length (rs t), lt)) (no_end_back t unbroken no_end)) [
          | inl good ↦ inl (good_from t (rs t) q good)
          | inr left ↦ elim (in_order t q s p) [
            | inl before ↦ absurd (gives.first t q left before)
            | inr (inl after) ↦ inr (on t q left after)
            | inr (inr same) ↦ inl (good_from t (rs t) q (subst (λ (n : ℕ). IsGood old d n q) (sym same.0) (subst (IsGood old d s) (sym same.1) (good_here (unbroken_goes s (subst (IsUnbroken new e) same.0 unbroken)) (subst (λ (n : ℕ). new.ends.at n ≡ None) same.0 no_end)))))
          ]
        ];
        ends = λ t q unbroken is. elim (cases_eq t s) [
          | inr other ↦ end_from t (rs t) q (checked.ends t q (unbroken_back t unbroken) (sym (sorts.others t other) ∙ is))
          | inl same ↦ subst (λ (n : ℕ). IsEnd new e n q) (sym same) (end_here (subst (IsUnbroken new e) same unbroken) q (subst (λ (n : ℕ). new.ends.at n ≡ Some q) same is))
        ];
        values = λ fine t n given. values_sorted tracked checked (λ failed. fine (later failed)) decides t n given;
        behind = λ t r q is left. elim (cases_eq t s) [
          | inr other ↦ checked.behind t r q (sym (sorts.others t other) ∙ is) (back t q left).0
          | inl same ↦ behind_here r q (subst (λ (n : ℕ). new.ends.at n ≡ Some r) same is) (subst (λ (n : ℕ). IsLeft old.layout.seal old.layout.record_size old.walk d n q × StandsBefore s p n q) same (back t q left))
        ];
        broken = λ t is. later (checked.broken t (sym ended ∙ is));
        passed = λ t u q is left. checked.passed t u q (sym ended ∙ is) (back u q left).0;
      }
        where
          unbroken_back : (t : ℕ) → IsUnbroken new e t → IsUnbroken old d t
          unbroken_back t (inl none) = inl (λ failed. none (later failed))
          unbroken_back t (inr has) = inr ((λ is. has.0 (ended ∙ is)), (has.1.0, (back t has.1.0 has.1.1).0))

          unbroken_goes : (t : ℕ) → IsUnbroken new e t → old.ended_section ≢ Some t
          unbroken_goes t (inl none) is = none (later (checked.broken t is))
          unbroken_goes t (inr has) is = has.0 (ended ∙ is)

          -- an end that the section has now it had, or it is this record's
          end_is : (r : ℕ) → new.ends.at s ≡ Some r → (old.ends.at s ≡ Some r) ⊎ ((Kept → ⊥) × (old.ends.at s ≡ None) × (r ≡ p) × ((old.ended_section ≢ Some s)))
          end_is r is = elim decides [
            | inl kept ↦ inl (sym (sorts.goes_on kept s) ∙ is)
            | inr skipped ↦ elim (is_ended s) [
              | inl over ↦ inl (sym (sorts.ended over) ∙ is)
              | inr going ↦ elim (none_or_value (old.ends.at s)) [
                | inl none ↦ inr (skipped, none, (let here_end : unwrap_or (old.ends.at s) p ≡ p = ap (λ (o : Option ℕ). unwrap_or o p) none in cc (is, sorts.ends skipped going, here_end)), going)
                | inr some ↦ inl (let old_end : unwrap_or (old.ends.at s) p ≡ some.0 = ap (λ (o : Option ℕ). unwrap_or o p) some.1 in cc (is, sorts.ends skipped going, old_end, some.1))
              ]
            ]
          ]
            where
              is_ended : (t : ℕ) → (old.ended_section ≡ Some t) ⊎ (old.ended_section ≢ Some t)
              is_ended t = elim (none_or_value old.ended_section) [
                | inl none ↦ inr (λ some. absurd (cc (none, some)))
                | inr some ↦ elim (cases_eq some.0 t) [
                  | inl same ↦ inl (cc (some.1, same))
                  | inr other ↦ inr (λ same. other (some_same some.0 t (sym some.1 ∙ same)))
                ]
              ]

          -- where it has none, it had none
          no_end_here : (unbroken : IsUnbroken new e s) → new.ends.at s ≡ None → old.ends.at s ≡ None
          no_end_here unbroken none = elim decides [
            | inl kept ↦ sym (sorts.goes_on kept s) ∙ none
            | inr skipped ↦ absurd (cc (none, sorts.ends skipped (unbroken_goes s unbroken)))
          ]

          no_end_back : (t : ℕ) → IsUnbroken new e t → new.ends.at t ≡ None → old.ends.at t ≡ None
          no_end_back t unbroken none = elim (cases_eq t s) [
            | inr other ↦ sym (sorts.others t other) ∙ none
            | inl same ↦ subst (λ (n : ℕ). old.ends.at n ≡ None) (sym same) (no_end_here (subst (IsUnbroken new e) same unbroken) (subst (λ (n : ℕ). new.ends.at n ≡ None) same none))
          ]

          good_here : old.ended_section ≢ Some s → new.ends.at s ≡ None → IsGood old d s p
          good_here going none = elim decides [
            | inl kept ↦ good_now (kept_says kept tracked).2
            | inr skipped ↦ absurd (cc (none, sorts.ends skipped going))
          ]

          end_new : (Kept → ⊥) → old.ends.at s ≡ None → old.ended_section ≢ Some s → IsEnd old d s p
          end_new skipped none going = record {
            within = left_within old d s p gives.left;
            from = high (cases_lt p (marker old s));
            fails = fails (cases_Bool (is_sound_over old d s (get_or (records_over old d s) p [])));
            good = good_before checked going none;
          }
            where
              not_good : IsGood old d s p → ⊥
              not_good good = skipped (sorts.kept.1 (inr (going, none, good_was good)))

              high : (p < marker old s) ⊎ (marker old s ≤ p) → marker old s ≤ p
              high (inl lt) = absurd (not_good (inl lt))
              high (inr le) = le

              fails : (is_sound_over old d s (get_or (records_over old d s) p []) ≡ true) ⊎ (is_sound_over old d s (get_or (records_over old d s) p []) ≡ false) → is_sound_over old d s (get_or (records_over old d s) p []) ≡ false
              fails (inl sound) = absurd (not_good (inr sound))
              fails (inr bad) = bad

          end_here : IsUnbroken new e s → (r : ℕ) → new.ends.at s ≡ Some r → IsEnd new e s r
          end_here unbroken r is = elim (end_is r is) [
            | inl was ↦ end_from s (rs s) r (checked.ends s r (unbroken_back s unbroken) was)
            | inr new_end ↦ subst (IsEnd new e s) (sym new_end.2) (end_from s (rs s) p (end_new new_end.0 new_end.1 new_end.3))
          ]

          behind_here : (r q : ℕ) → new.ends.at s ≡ Some r → IsLeft old.layout.seal old.layout.record_size old.walk d s q × StandsBefore s p s q → r < q
          behind_here r q is was = elim (end_is r is) [
            | inl had ↦ checked.behind s r q had was.0
            | inr new_end ↦ past new_end.2 was.1
          ]
            where
              past : r ≡ p → StandsBefore s p s q → r < q
              past same (inl lt) = absurd (omega (arith, lt))
              past same (inr at) = omega (arith, same, at.1)
