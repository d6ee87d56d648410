-- The end of an opening by markers: which records stand, and when an image keeps the same lists as an older one.
use Rattle.std.specs.Prelude.{◌≡◌, ◌⊎◌, ℕ, zero, suc, ◌+◌, ◌-◌, ◌^◌, ◌<◌, ◌≤◌, ◌||◌, nat_lt, if◌then◌else◌, Bool, true, false, List, [], ◌∷◌, length, map, take, get_or, IsTrue, IsSome, Option, unwrap_or}
use Rattle.std.proofs.Common.{inl, inr, refl, sym, ◌∙◌, ap, subst, arith, length-take, length-take-le}
use Rattle.std.specs.Int.{w64, to_be_bytes}
use Rattle.std.specs.List.{AllByRecursion}
use Rattle.std.specs.Map.{lookup}
use Rattle.std.specs.Str.{bytes_eq}
use Rattle.std.proofs.lemmas.Bool.{le-ltb, or_right, or_left, cases_lt}
use Rattle.std.proofs.lemmas.Bool.Decides.{nat_tests}
use Rattle.std.proofs.lemmas.List.{take_all, take-take, get_or-take}
use Rattle.blob_device.specs.Disk.{Image}
use Rattle.value_codec.specs.Keys.{key8_bytes}
use Rattle.section_manager.specs.Prefixes.{IsPrefixOf}
use Rattle.section_manager.specs.Sections.{section_key}
use Rattle.meta_store.specs.declared.error.Side.{Side}
use Rattle.meta_store.specs.declared.error.Side.TheVariants.{Left, Right}
use Rattle.meta_store.specs.Blobs.{blob_of, bytes_of}
use Rattle.meta_store.specs.Pairs.{HoldMap}
use Rattle.paired.specs.Crashes.{HoldMarkers, Keeps}
use Rattle.paired.specs.Kept.{Layout, Markers, MarkerMap, HasNoFloor, IsMarked, marker_of, content_at, stored_records, is_sound_in, kept, IsTrueMarker}
use Rattle.paired.specs.Opening.{AreNamed, IsInPlace, IsLawful, Relation, IsOrder, Same, Any, KeepsBy}
use Rattle.paired.specs.Places.{Follow, end_of, last_end}
use Rattle.paired.specs.Records.{Entry, is_sound, unbroken_prefix, entry_of}
use Rattle.paired.specs.lemmas.Kept.{EndsBy, entry_same, follow_ends, follow_least, settled_bytes, sound_parts, sound_settled, stored_entries}
use Rattle.paired.specs.lemmas.pair.Synced.{unmarked_zero}
use Rattle.paired.specs.lemmas.Records.{map-same, prefix-take}
use Rattle.blob_device.proofs.general.Lists.{all_take, all_with}
use Rattle.blob_device.proofs.general.Options.{none_or_value}

below : (m n : ℕ) → m < n → nat_lt m n ≡ true
below m n lt = grind (arith, nat_tests)

module _ (sound : List ℕ → Bool) (marker : ℕ) where
  -- record q of those from a position on is kept, if those before it are
  abbrev pub IsGoodAt : ℕ → List (List ℕ) → ℕ → Type 0
  IsGoodAt position rs q = (position + q < marker) ⊎ IsTrue (sound (get_or rs q []))

  -- What is kept stops at p: there is no such record, or it is at or above the marker and its value fails.
  abbrev pub StopsAt : ℕ → List (List ℕ) → ℕ → Type 0
  StopsAt position rs p = (p ≡ length rs) ⊎ ((marker ≤ position + p) × (sound (get_or rs p []) ≡ false))

  good_test : (position : ℕ) (r : List ℕ) → (position + 0 < marker) ⊎ IsTrue (sound r) → (nat_lt position marker || sound r) ≡ true
  good_test position r (inl lt) = or_left (nat_lt position marker) (sound r) (below position marker (omega (arith, lt)))
  good_test position r (inr is) = or_right (nat_lt position marker) (sound r) is

  bad_test : (position : ℕ) (r : List ℕ) → marker ≤ position → sound r ≡ false → (nat_lt position marker || sound r) ≡ false
  bad_test position r le bad = ap (λ (b : Bool). b || sound r) (le-ltb position marker le) ∙ bad

  pub prefix_stops : (position p : ℕ) (rs : List (List ℕ)) → p ≤ length rs → ((q : ℕ) → q < p → IsGoodAt position rs q) → StopsAt position rs p → unbroken_prefix sound marker position rs ≡ take p rs
  prefix_stops position zero [] le good stops = refl
  prefix_stops position (suc p) [] le good stops = refl
  prefix_stops position zero (r ∷ rs) le good (inl none) = absurd (omega (arith, none))
  prefix_stops position zero (r ∷ rs) le good (inr stop) =
      ap (λ (b : Bool). if b then r ∷ unbroken_prefix sound marker (position + 1) rs else []) (bad_test position r (omega (arith, stop.0)) stop.1)
  prefix_stops position (suc p) (r ∷ rs) le good stops =
      ap (λ (b : Bool). if b then r ∷ unbroken_prefix sound marker (position + 1) rs else []) (good_test position r (good 0 (omega arith)))
      ∙ ap (λ (xs : List (List ℕ)). r ∷ xs) (prefix_stops (position + 1) p rs (omega (arith, le)) (λ q lt. next q (good (suc q) (omega (arith, lt)))) (stop stops))
    where
      next : (q : ℕ) → IsGoodAt position (r ∷ rs) (suc q) → IsGoodAt (position + 1) rs q
      next q (inl lt) = inl (omega (arith, lt))
      next q (inr is) = inr is

      stop : StopsAt position (r ∷ rs) (suc p) → StopsAt (position + 1) rs p
      stop (inl none) = inl (omega (arith, none))
      stop (inr bad) = inr (omega (arith, bad.0), bad.1)

  -- where each is good, all are kept
  pub prefix_all : (rs : List (List ℕ)) → ((q : ℕ) → q < length rs → IsGoodAt 0 rs q) → unbroken_prefix sound marker 0 rs ≡ rs
  prefix_all rs good = prefix_stops 0 (length rs) rs (omega arith) good (inl refl) ∙ take_all (length rs) rs (omega arith)

  -- of the first records that reach to where it stops the same are kept
  pub prefix_cut : (p k : ℕ) (rs : List (List ℕ)) → p ≤ k → k ≤ length rs → p < length rs → ((q : ℕ) → q < p → IsGoodAt 0 rs q) → marker ≤ p → sound (get_or rs p []) ≡ false
      → unbroken_prefix sound marker 0 (take k rs) ≡ unbroken_prefix sound marker 0 rs
  prefix_cut p k rs le few more good high bad =
      let long : length (take k rs) ≡ k = length-take-le k rs few in
      let here : (q : ℕ) → q < k → get_or (take k rs) q [] ≡ get_or rs q [] = λ q lt. get_or-take k rs q [] lt in
      prefix_stops 0 p (take k rs) (omega (arith, le, long)) (λ q lt. again q (here q (omega (arith, lt, le))) (good q lt))
      (elim (cases_lt p k) [
        | inl lt ↦ inr (omega (arith, high), ap sound (here p lt) ∙ bad)
        | inr same ↦ inl (omega (arith, same, le, long))
      ])
      ∙ take-take p k rs le ∙ sym (prefix_stops 0 p rs (omega (arith, more)) good (inr (omega (arith, high), bad)))
    where
      again : (q : ℕ) → get_or (take k rs) q [] ≡ get_or rs q [] → IsGoodAt 0 rs q → IsGoodAt 0 (take k rs) q
      again q same (inl lt) = inl lt
      again q same (inr is) = inr (ap sound same ∙ is)

  -- all are kept where each is sound
  pub prefix_sound : (position : ℕ) (rs : List (List ℕ)) → AllByRecursion (λ r. IsTrue (sound r)) rs → unbroken_prefix sound marker position rs ≡ rs
  prefix_sound position [] all = refl
  prefix_sound position (r ∷ rs) all =
      ap (λ (b : Bool). if b then r ∷ unbroken_prefix sound marker (position + 1) rs else []) (or_right (nat_lt position marker) (sound r) all.0)
      ∙ ap (λ (xs : List (List ℕ)). r ∷ xs) (prefix_sound (position + 1) rs all.1)

  -- each that is kept is sound, where those below the marker are
  kept_sound : (left position : ℕ) (rs : List (List ℕ)) → left ≡ marker - position → AllByRecursion (λ r. IsTrue (sound r)) (take left rs) → AllByRecursion (λ r. IsTrue (sound r)) (unbroken_prefix sound marker position rs)
  kept_sound left position [] is all = tt
  kept_sound zero position (r ∷ rs) is all =
      step (nat_lt position marker) (sound r) (unbroken_prefix sound marker (position + 1) rs) (le-ltb position marker (omega (arith, is))) refl (kept_sound zero (position + 1) rs (omega (arith, is)) tt)
    where
      step : (b s : Bool) (tail : List (List ℕ)) → b ≡ false → s ≡ sound r → AllByRecursion (λ x. IsTrue (sound x)) tail → AllByRecursion (λ x. IsTrue (sound x)) (if b || s then r ∷ tail else [])
      step true s tail none same rest = absurd (cc none)
      step false true tail none same rest = (sym same, rest)
      step false false tail none same rest = tt
  kept_sound (suc left) position (r ∷ rs) is all =
      step (nat_lt position marker || sound r) (unbroken_prefix sound marker (position + 1) rs) (kept_sound left (position + 1) rs (omega (arith, is)) all.1)
    where
      step : (b : Bool) (tail : List (List ℕ)) → AllByRecursion (λ x. IsTrue (sound x)) tail → AllByRecursion (λ x. IsTrue (sound x)) (if b then r ∷ tail else [])
      step true tail rest = (all.0, rest)
      step false tail rest = tt

  pub prefix_is_sound : (left position : ℕ) (rs : List (List ℕ)) → left ≡ marker - position → AllByRecursion (λ r. IsTrue (sound r)) (take left rs) → unbroken_prefix sound marker position rs ≡ rs → AllByRecursion (λ r. IsTrue (sound r)) rs
  prefix_is_sound left position rs is all whole = subst (AllByRecursion (λ r. IsTrue (sound r))) whole (kept_sound left position rs is all)

module _ (place : List ℕ → ℕ × ℕ) where
  -- the places of the first ones follow each other too
  pub follow_first : (k at : ℕ) (rs : List (List ℕ)) (end : ℕ) → Follow place at rs end → (end_of place at (take k rs) ≤ end) × Follow place at (take k rs) (end_of place at (take k rs))
  follow_first zero at rs end follow = (follow_least place at rs end follow, refl)
  follow_first (suc k) at [] end follow = (omega (arith, follow), refl)
  follow_first (suc k) at (r ∷ rs) end follow = (let rest = follow_first k (at + (place r).1) rs end follow.2 in (rest.0, (follow.0, follow.1, rest.1)))

  -- they end where the last one does
  pub follow_last_end : (at : ℕ) (rs : List (List ℕ)) (end : ℕ) → Follow place at rs end → (rs ≡ []) ⊎ (last_end place rs ≡ end)
  follow_last_end at [] end follow = inl refl
  follow_last_end at (r ∷ []) end follow = inr (omega (arith, follow.0, follow.2))
  follow_last_end at (r ∷ q ∷ rs) end follow = elim (follow_last_end (at + (place r).1) (q ∷ rs) end follow.2) [
    | inl none ↦ absurd (cc none)
    | inr is ↦ inr is
  ]

pub marked_is : (markers : MarkerMap) (s m : ℕ) → IsMarked markers s m → marker_of markers s ≡ m
marked_is markers s m is =
    ap (λ (b : Bool). if b then unwrap_or (lookup (λ k. bytes_eq (key8_bytes k) (to_be_bytes w64 s)) markers) 0 else 0) (below s (2 ^ 64) is.0)
    ∙ ap (λ (o : Option ℕ). unwrap_or o 0) is.1

-- a section has a marker, or its marker is 0
pub marked_or_zero : (markers : MarkerMap) (s : ℕ) → ((m : ℕ) × IsMarked markers s m) ⊎ (marker_of markers s ≡ 0)
marked_or_zero markers s = elim (cases_lt s (2 ^ 64)) [
  | inl small ↦ elim (none_or_value (lookup (λ k. bytes_eq (key8_bytes k) (to_be_bytes w64 s)) markers)) [
    | inl none ↦ inr (unmarked_zero markers s (λ m is. absurd (cc (none, is.1))))
    | inr some ↦ inl (some.0, (small, some.1))
  ]
  | inr large ↦ inr (unmarked_zero markers s (λ m is. absurd (omega (arith, large, is.0))))
]

pub same_order : IsOrder Same
same_order = record { itself = λ s list. refl; onward = λ s last found list more first. more ∙ first }

pub any_order : IsOrder Any
any_order = record { itself = λ s list. tt; onward = λ s last found list more first. tt }

-- what is the same stands so
pub by_same : (Rel : Relation) → IsOrder Rel → (s : ℕ) (found list : List Entry) → found ≡ list → Rel s found list
by_same Rel order s found list same = subst (Rel s found) same (order.itself s found)

-- What the image keeps of the section stands so to what the old one keeps, by the same marker, which is true if it was.
pub record KeptBy (l : Layout) (Rel : Relation) (old image : Image) (markers : Markers) (s : ℕ) : Type 0 where
  pub stored : stored_records l image s ≡ take (length (stored_records l image s)) (stored_records l old s)
  pub kept : Rel s (kept l image (marker_of markers.entries s) s) (kept l old (marker_of markers.entries s) s)
  pub marked : (m : ℕ) → IsMarked markers.entries s m → IsTrueMarker l old s m → IsTrueMarker l image s m

-- it keeps just that
abbrev pub KeptHere : Layout → Image → Image → Markers → ℕ → Type 0
KeptHere l = KeptBy l Same

-- of a section without a marker the first records are stored still
pub stored_alone : (l : Layout) (old image : Image) (markers : Markers) (s : ℕ) → ((m : ℕ) → IsMarked markers.entries s m → ⊥) → stored_records l image s ≡ take (length (stored_records l image s)) (stored_records l old s)
    → KeptBy l Any old image markers s
stored_alone l old image markers s unmarked first = record { stored = first; kept = tt; marked = λ m is was. absurd (unmarked m is) }

-- below a marker all are sound: so a lower one keeps the same
pub prefix_lower : (sound : List ℕ → Bool) (low high left position : ℕ) (rs : List (List ℕ)) → low ≤ high → left ≡ high - position → AllByRecursion (λ r. IsTrue (sound r)) (take left rs)
    → unbroken_prefix sound low position rs ≡ unbroken_prefix sound high position rs
prefix_lower sound low high left position [] le is all = refl
prefix_lower sound low high zero position (r ∷ rs) le is all =
    let rest : unbroken_prefix sound low (position + 1) rs ≡ unbroken_prefix sound high (position + 1) rs = prefix_lower sound low high zero (position + 1) rs le (omega (arith, is)) tt in
    let both : nat_lt position low ≡ nat_lt position high = le-ltb position low (omega (arith, le, is)) ∙ sym (le-ltb position high (omega (arith, is))) in
    (λ i. if both i || sound r then r ∷ rest i else [])
prefix_lower sound low high (suc left) position (r ∷ rs) le is all =
    step (prefix_lower sound low high left (position + 1) rs le (omega (arith, is)) all.1)
  where
    step : unbroken_prefix sound low (position + 1) rs ≡ unbroken_prefix sound high (position + 1) rs → unbroken_prefix sound low position (r ∷ rs) ≡ unbroken_prefix sound high position (r ∷ rs)
    step rest =
        ap (λ (b : Bool). if b then r ∷ unbroken_prefix sound low (position + 1) rs else []) (or_right (nat_lt position low) (sound r) all.0)
        ∙ ap (λ (xs : List (List ℕ)). r ∷ xs) rest
        ∙ sym (ap (λ (b : Bool). if b then r ∷ unbroken_prefix sound high (position + 1) rs else []) (or_right (nat_lt position high) (sound r) all.0))

-- each of these markers is true of the image
abbrev pub AreTrueOf : Layout → Image → Markers → Type 0
AreTrueOf l image markers = (s m : ℕ) → IsMarked markers.entries s m → IsTrueMarker l image s m

-- so the records below a marker are sound
pub sound_below : (l : Layout) (old : Image) (markers : Markers) → AreTrueOf l old markers → (s : ℕ)
    → AllByRecursion (λ r. IsTrue (is_sound_in l old s r)) (take (marker_of markers.entries s) (stored_records l old s))
sound_below l old markers are_true s = elim (marked_or_zero markers.entries s) [
  | inl is ↦ subst (λ (m : ℕ). AllByRecursion (λ r. IsTrue (is_sound_in l old s r)) (take m (stored_records l old s))) (sym (marked_is markers.entries s is.0 is.1)) (are_true s is.0 is.1).sound
  | inr none ↦ subst (λ (m : ℕ). AllByRecursion (λ r. IsTrue (is_sound_in l old s r)) (take m (stored_records l old s))) (sym none) tt
]

-- Where the sections have the bytes that they had, and the copies hold markers that are true, it keeps just what the old one keeps.
module _ (l : Layout) (old image : Image) (markers new : Markers) (lawful : IsLawful l old markers) (names : AreNamed l image) (held : HoldMarkers l image new) (floor : HasNoFloor new) (are_true : AreTrueOf l old new)
    (index : (s : ℕ) → s < 2 ^ 64 → image (section_key l.index s) ≡ old (section_key l.index s)) (values : (s : ℕ) → s < 2 ^ 64 → content_at image l.values s ≡ content_at old l.values s) where
  records_as : (s : ℕ) → s < 2 ^ 64 → stored_records l image s ≡ stored_records l old s
  records_as s small = ap (λ (o : Option (List ℕ)). stored_records l (λ _. o) s) (index s small)

  sound_as : (s : ℕ) → s < 2 ^ 64 → is_sound_in l image s ≡ is_sound_in l old s
  sound_as s small = λ i r. is_sound l.seal (values s small i) (l.place r)

  -- the lower of the two markers gives what the higher one gives
  prefix_as : (s : ℕ) → unbroken_prefix (is_sound_in l old s) (marker_of new.entries s) 0 (stored_records l old s) ≡ unbroken_prefix (is_sound_in l old s) (marker_of markers.entries s) 0 (stored_records l old s)
  prefix_as s = elim (cases_lt (marker_of new.entries s) (marker_of markers.entries s)) [
    | inl less ↦ prefix_lower (is_sound_in l old s) (marker_of new.entries s) (marker_of markers.entries s) (marker_of markers.entries s) 0 (stored_records l old s) (omega (arith, less)) (omega arith) (sound_below l old markers lawful.true_markers s)
    | inr more ↦ sym (prefix_lower (is_sound_in l old s) (marker_of markers.entries s) (marker_of new.entries s) (marker_of new.entries s) 0 (stored_records l old s) (omega (arith, more)) (omega arith) (sound_below l old new are_true s))
  ]

  pub remarked_keeps : KeepsBy l Same old markers image
  remarked_keeps = record {
    markers = new;
    lawful = record {
      names = names;
      held = held;
      floor = floor;
      true_markers = λ s m is.
          let was = are_true s m is in
          record {
            index_blob = subst IsSome (sym (index s is.0)) was.index_blob;
            enough = omega (arith, was.enough, ap length (records_as s is.0));
            sound = subst (λ (f : List ℕ → Bool). AllByRecursion (λ r. IsTrue (f r)) (take m (stored_records l image s))) (sym (sound_as s is.0))
                (subst (λ (rs : List (List ℕ)). AllByRecursion (λ r. IsTrue (is_sound_in l old s r)) (take m rs)) (sym (records_as s is.0)) was.sound);
          };
      places = λ s small. record {
        end = (lawful.places s small).end;
        fits = (lawful.places s small).fits;
        follow = subst (λ (rs : List (List ℕ)). Follow l.place 0 rs (lawful.places s small).end) (sym (records_as s small)) (lawful.places s small).follow;
      };
    };
    same = λ s small.
        (λ i. map (entry_of l.place (values s small i)) (unbroken_prefix (sound_as s small i) (marker_of new.entries s) 0 (records_as s small i)))
        ∙ ap (map (entry_of l.place (content_at old l.values s))) (prefix_as s);
    stored = λ s small. records_as s small ∙ sym (take_all (length (stored_records l image s)) (stored_records l old s) (omega (arith, ap length (records_as s small))));
  }

module _ (l : Layout) (Rel : Relation) (order : IsOrder Rel) (old image : Image) where
  -- all its bytes are as they were
  pub as_before : (markers : Markers) (s : ℕ) → image (section_key l.index s) ≡ old (section_key l.index s) → content_at image l.values s ≡ content_at old l.values s → KeptBy l Rel old image markers s
  as_before markers s index values =
      let records_same : stored_records l image s ≡ stored_records l old s = ap (λ (o : Option (List ℕ)). stored_records l (λ _. o) s) index in
      let sound_same : is_sound_in l image s ≡ is_sound_in l old s = (λ i r. is_sound l.seal (values i) (l.place r)) in
      record {
        stored = records_same ∙ sym (take_all (length (stored_records l image s)) (stored_records l old s) (omega (arith, ap length records_same)));
        kept = by_same Rel order s _ _ (λ i. map (entry_of l.place (values i)) (unbroken_prefix (sound_same i) (marker_of markers.entries s) 0 (records_same i)));
        marked = λ m is was. record {
          index_blob = subst IsSome (sym index) was.index_blob;
          enough = omega (arith, ap length records_same, was.enough);
          sound = subst (λ (rs : List (List ℕ)). AllByRecursion (λ r. IsTrue (is_sound_in l image s r)) (take m rs)) (sym records_same)
              (subst (λ (f : List ℕ → Bool). AllByRecursion (λ r. IsTrue (f r)) (take m (stored_records l old s))) (sym sound_same) was.sound);
        };
      }

  -- neither has a record of it
  pub without_records : (markers : Markers) (s : ℕ) → (IsSome (old (section_key l.index s)) → IsSome (image (section_key l.index s))) → stored_records l image s ≡ [] → stored_records l old s ≡ [] → KeptBy l Rel old image markers s
  without_records markers s there bare none = record {
    stored = bare ∙ sym (take_all (length (stored_records l image s)) [] (omega arith)) ∙ ap (take (length (stored_records l image s))) (sym none);
    kept = by_same Rel order s _ _ (ap (λ (rs : List (List ℕ)). map (entry_of l.place (content_at image l.values s)) (unbroken_prefix (is_sound_in l image s) (marker_of markers.entries s) 0 rs)) bare
        ∙ sym (ap (λ (rs : List (List ℕ)). map (entry_of l.place (content_at old l.values s)) (unbroken_prefix (is_sound_in l old s) (marker_of markers.entries s) 0 rs)) none));
    marked = λ m is was. record {
      index_blob = there was.index_blob;
      enough = omega (arith, ap length none, was.enough);
      sound = subst (λ (rs : List (List ℕ)). AllByRecursion (λ r. IsTrue (is_sound_in l image s r)) (take m rs)) (sym bare) (all_none m);
    };
  }
    where
      all_none : (m : ℕ) → AllByRecursion (λ r. IsTrue (is_sound_in l image s r)) (take m [])
      all_none zero = tt
      all_none (suc m) = tt

  -- Its index blob is gone or without records, and its section has no marker.
  pub index_removed : (markers : Markers) (s : ℕ) → ((m : ℕ) → IsMarked markers.entries s m → ⊥) → stored_records l image s ≡ [] → Rel s [] (kept l old (marker_of markers.entries s) s) → KeptBy l Rel old image markers s
  index_removed markers s unmarked bare gone = record {
    stored = bare ∙ sym (ap (λ (rs : List (List ℕ)). take (length rs) (stored_records l old s)) bare);
    kept = subst (λ (rs : List (List ℕ)). Rel s (map (entry_of l.place (content_at image l.values s)) (unbroken_prefix (is_sound_in l image s) (marker_of markers.entries s) 0 rs)) (kept l old (marker_of markers.entries s) s)) (sym bare) gone;
    marked = λ m is was. absurd (unmarked m is);
  }

  -- Its records are cut to p at the least, where what is kept of so many stands so to what is kept of all; its values are as they were.
  module _ (markers : Markers) (s p : ℕ) (there : IsSome (image (section_key l.index s))) (values : content_at image l.values s ≡ content_at old l.values s)
      (first : stored_records l image s ≡ take (length (stored_records l image s)) (stored_records l old s)) (reach : p ≤ length (stored_records l image s)) (high : marker_of markers.entries s ≤ p)
      (prefixes : (k : ℕ) → p ≤ k → k ≤ length (stored_records l old s) → Rel s (map (entry_of l.place (content_at old l.values s)) (unbroken_prefix (is_sound_in l old s) (marker_of markers.entries s) 0 (take k (stored_records l old s)))) (kept l old (marker_of markers.entries s) s)) where
    less : length (stored_records l image s) ≤ length (stored_records l old s)
    less = omega (arith, ap length first, length-take (length (stored_records l image s)) (stored_records l old s))

    same_sound : is_sound_in l image s ≡ is_sound_in l old s
    same_sound = λ i r. is_sound l.seal (values i) (l.place r)

    pub records_cut : KeptBy l Rel old image markers s
    records_cut = record {
      stored = first;
      kept = subst (λ (found : List Entry). Rel s found (kept l old (marker_of markers.entries s) s))
          (sym (λ i. map (entry_of l.place (values i)) (unbroken_prefix (same_sound i) (marker_of markers.entries s) 0 (first i))))
          (prefixes (length (stored_records l image s)) reach less);
      marked = λ m is was.
          let few : m ≤ length (stored_records l image s) = omega (arith, marked_is markers.entries s m is, high, reach) in record {
            index_blob = there;
            enough = few;
            sound = subst (λ (f : List ℕ → Bool). AllByRecursion (λ r. IsTrue (f r)) (take m (stored_records l image s))) (sym same_sound)
                (subst (AllByRecursion (λ r. IsTrue (is_sound_in l old s r))) (sym (ap (take m) first ∙ take-take m (length (stored_records l image s)) (stored_records l old s) few)) was.sound);
          };
    }

  -- All its records are kept and stand where they did; its values are cut off behind those that the records name, at the earliest.
  module _ (markers : Markers) (s n : ℕ) (index : image (section_key l.index s) ≡ old (section_key l.index s)) (places : IsInPlace l old s) (reach : places.end ≤ n)
      (is_prefix : IsPrefixOf (take n (content_at old l.values s)) (content_at image l.values s)) (sound : AllByRecursion (λ r. IsTrue (is_sound_in l old s r)) (stored_records l old s)) where
    abbrev pub rs : List (List ℕ)
    rs = stored_records l old s

    same_records : stored_records l image s ≡ rs
    same_records = ap (λ (o : Option (List ℕ)). stored_records l (λ _. o) s) index

    by_end : AllByRecursion (EndsBy l.place places.end) rs
    by_end = subst (AllByRecursion (EndsBy l.place places.end)) (take_all (length rs) rs (omega arith))
        (follow_ends l.place (length rs) 0 rs places.end places.end places.end places.follow (follow_first l.place (length rs) 0 rs places.end places.follow).0 (omega arith))

    inside : (r : List ℕ) → EndsBy l.place places.end r → IsTrue (is_sound_in l old s r) → (l.place r).0 + (l.place r).1 ≤ length (take n (content_at old l.values s))
    inside r ends was = omega (arith, ends, reach, (sound_parts l.seal (content_at old l.values s) (l.place r).0 (l.place r).1 was).1, length-take n (content_at old l.values s))

    still_sound : AllByRecursion (λ r. IsTrue (is_sound_in l image s r)) rs
    still_sound = all_with (EndsBy l.place places.end) (λ r. IsTrue (is_sound_in l old s r)) (λ r. IsTrue (is_sound_in l image s r))
        (λ r ends was. sound_settled l.seal (content_at old l.values s) (content_at image l.values s) n (l.place r).0 (l.place r).1 is_prefix (inside r ends was) was) rs by_end sound

    same_entries : map (entry_of l.place (content_at image l.values s)) rs ≡ map (entry_of l.place (content_at old l.values s)) rs
    same_entries = map-same (entry_of l.place (content_at image l.values s)) (entry_of l.place (content_at old l.values s)) rs
        (all_with (EndsBy l.place places.end) (λ r. IsTrue (is_sound_in l old s r)) (λ r. entry_of l.place (content_at image l.values s) r ≡ entry_of l.place (content_at old l.values s) r)
        (λ r ends was. entry_same l.place (content_at old l.values s) (content_at image l.values s) r
        (settled_bytes (content_at old l.values s) (content_at image l.values s) n (l.place r).0 (l.place r).1 is_prefix (inside r ends was))) rs by_end sound)

    pub values_cut : KeptBy l Rel old image markers s
    values_cut = record {
      stored = same_records ∙ sym (take_all (length (stored_records l image s)) rs (omega (arith, ap length same_records)));
      kept = by_same Rel order s _ _ (ap (λ (xs : List (List ℕ)). map (entry_of l.place (content_at image l.values s)) (unbroken_prefix (is_sound_in l image s) (marker_of markers.entries s) 0 xs)) same_records
          ∙ ap (map (entry_of l.place (content_at image l.values s))) (prefix_sound (is_sound_in l image s) (marker_of markers.entries s) 0 rs still_sound)
          ∙ same_entries
          ∙ sym (ap (map (entry_of l.place (content_at old l.values s))) (prefix_sound (is_sound_in l old s) (marker_of markers.entries s) 0 rs sound)));
      marked = λ m is was. record {
        index_blob = subst IsSome (sym index) was.index_blob;
        enough = omega (arith, ap length same_records, was.enough);
        sound = subst (λ (xs : List (List ℕ)). AllByRecursion (λ r. IsTrue (is_sound_in l image s r)) (take m xs)) (sym same_records) (all_take (λ r. IsTrue (is_sound_in l image s r)) m rs still_sound);
      };
    }

  places_first : (s : ℕ) → stored_records l image s ≡ take (length (stored_records l image s)) (stored_records l old s) → IsInPlace l old s → IsInPlace l image s
  places_first s first places =
      let rest = follow_first l.place (length (stored_records l image s)) 0 (stored_records l old s) places.end places.follow in
      record {
        end = end_of l.place 0 (take (length (stored_records l image s)) (stored_records l old s));
        fits = omega (arith, rest.0, places.fits);
        follow = subst (λ (rs : List (List ℕ)). Follow l.place 0 rs (end_of l.place 0 (take (length (stored_records l image s)) (stored_records l old s)))) (sym first) rest.1;
      }

  -- Where each section is kept so, and the copies are as they were, the image keeps what the old one keeps.
  pub sections_kept : (markers : Markers) → AreNamed l image → ((side : Side) → image (blob_of l.metadata side) ≡ old (blob_of l.metadata side)) → ((s : ℕ) → s < 2 ^ 64 → KeptBy l Rel old image markers s)
      → IsLawful l old markers → KeepsBy l Rel old markers image
  sections_kept markers names copies each lawful = record {
    markers = markers;
    lawful = record {
      names = names;
      held = record {
        copies = λ is. subst (λ (o : Option (List ℕ)). HoldMap l.markers (bytes_of o) (bytes_of (image (blob_of l.metadata Right))) markers) (sym (copies Left))
            (subst (λ (o : Option (List ℕ)). HoldMap l.markers (bytes_of (old (blob_of l.metadata Left))) (bytes_of o) markers) (sym (copies Right)) (lawful.held.copies is));
        none = lawful.held.none;
      };
      floor = lawful.floor;
      true_markers = λ s m is. (each s is.0).marked m is (lawful.true_markers s m is);
      places = λ s small. places_first s (each s small).stored (lawful.places s small);
    };
    same = λ s small. (each s small).kept;
    stored = λ s small. (each s small).stored;
  }

  -- Where the image keeps, of each section, a prefix of what the old one keeps with all of it, it keeps just that, whatever its markers are.
  pub markers_moved : (markers : Markers) (wanted : ℕ → List Entry) → AreNamed l image → IsLawful l old markers → ((s : ℕ) → s < 2 ^ 64 → wanted s ≡ kept l old (marker_of markers.entries s) s)
      → Keeps l wanted (λ s. length (wanted s)) (λ _. ⊥) image → KeepsBy l Rel old markers image
  markers_moved markers wanted names lawful list keeps = record {
    markers = keeps.markers;
    lawful = record {
      names = names;
      held = keeps.held;
      floor = keeps.floor;
      true_markers = keeps.true_markers;
      places = λ s small. places_first s (first s small) (lawful.places s small);
    };
    same = λ s small. elim (keeps.lists s small) [
      | inl prefix ↦ by_same Rel order s _ _ (prefix.same ∙ take_all _ (wanted s) (omega (arith, prefix.synced)) ∙ list s small)
      | inr gone ↦ absurd gone.1
    ];
    stored = first;
  }
    where
      prefix_here : ℕ → List (List ℕ)
      prefix_here s = unbroken_prefix (is_sound_in l old s) (marker_of markers.entries s) 0 (stored_records l old s)

      first : (s : ℕ) → s < 2 ^ 64 → stored_records l image s ≡ take (length (stored_records l image s)) (stored_records l old s)
      first s small =
          let k : ℕ = length (stored_records l image s) in
          let j : ℕ = length (prefix_here s) in
          let wanted_records : map (λ e. e.stored) (wanted s) ≡ take j (stored_records l old s) =
          ap (map (λ e. e.stored)) (list s small) ∙ stored_entries l.place (content_at old l.values s) (prefix_here s) ∙ prefix-take (is_sound_in l old s) (marker_of markers.entries s) 0 (stored_records l old s) in
          let is : stored_records l image s ≡ take k (take j (stored_records l old s)) = keeps.stored s small ∙ ap (take k) wanted_records in
          let le : k ≤ j = omega (arith, ap length is, length-take k (take j (stored_records l old s)), length-take j (stored_records l old s)) in
          is ∙ take-take k j (stored_records l old s) le
