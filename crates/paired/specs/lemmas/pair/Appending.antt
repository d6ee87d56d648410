-- What is known of a section of a pair after a record and its value were added.
use Rattle.std.proofs.Common.{◌≡◌, ℕ, zero, suc, ◌+◌, ◌-◌, ◌*◌, ◌/◌, ◌%◌, ◌^◌, ◌<◌, ◌≤◌, List, [], ◌∷◌, ◌++◌, length, map, take, drop, IsTrue, refl, sym, ◌∙◌, ap, subst, arith, length-append}
use Rattle.std.specs.Int.{w32, to_be_bytes, from_be_bytes}
use Rattle.std.specs.List.{AllByRecursion}
use Rattle.std.proofs.lemmas.List.{take-append-le, map-append}
use Rattle.std.proofs.lemmas.Nat.{from_be_bytes-to_be_bytes_4}
use Rattle.std.proofs.Math.Nat.{div-add-mod}
use Rattle.std.proofs.Math.Seq.{take-length, take-append_seam, drop-append_seam, drop-append-add}
use Rattle.section_manager.specs.Prefixes.{IsPrefixOf}
use Rattle.segments.specs.FixedItems.{item_at}
use Rattle.paired.specs.Frames.{bytes_at, frame}
use Rattle.paired.specs.Places.{Follow, end_of}
use Rattle.paired.specs.Records.{Entry, each_below, records, is_sound, entry_of}
use Rattle.paired.specs.Kept.{Layout}
use Rattle.paired.specs.Holding.{Facts, list_in, AreGood}
use Rattle.paired.specs.lemmas.Frame.{bytes_at-added, length-frame}
use Rattle.paired.specs.lemmas.Kept.{entry_same, sound_from, sound_parts, sound_settled}
use Rattle.paired.specs.lemmas.pair.Holding.{IsMore}
use Rattle.paired.specs.lemmas.Records.{each_below-same, map-same}
use Rattle.blob_device.proofs.general.Lists.{all_by}
use Rattle.blob_device.proofs.general.Numbers.{item_ends, last_place}

each_below-push : {X : Type 0} (n : ℕ) (f : ℕ → X) → each_below (suc n) f ≡ each_below n f ++ f n ∷ []
each_below-push zero f = refl
each_below-push {X = X} (suc n) f =
    let e : n + 1 ≡ suc n = omega arith in
    ap (λ (xs : List X). f 0 ∷ xs) (each_below-push n (λ i. f (i + 1))) ∙ ap (λ (k : ℕ). f 0 ∷ (each_below n (λ i. f (i + 1)) ++ f k ∷ [])) e

-- a whole record behind whole ones is the last
pub records-push : (size : ℕ) (bytes r : List ℕ) → 1 ≤ size → length bytes % size ≡ 0 → length r ≡ size → records size (bytes ++ r) ≡ records size bytes ++ r ∷ []
records-push size bytes r pos whole long =
    let q : ℕ = length bytes / size in
    let all : q * size ≡ length bytes = omega (arith, div-add-mod (length bytes) size, whole) in
    let next : suc q * size ≡ q * size + size = omega arith in
    let count : length (bytes ++ r) / size ≡ suc q = last_place size (length (bytes ++ r)) (suc q) pos (omega (arith, length-append bytes r, all, next, long)) (omega (arith, length-append bytes r, all, next, long, pos)) in
    let last : item_at size (bytes ++ r) q ≡ r =
    ap (λ (k : ℕ). take size (drop k (bytes ++ r))) all ∙ ap (take size) (drop-append_seam bytes r) ∙ ap (λ (k : ℕ). take k r) (sym long) ∙ take-length r in
    ap (λ (k : ℕ). each_below k (item_at size (bytes ++ r))) count ∙ each_below-push q (item_at size (bytes ++ r))
    ∙ ap (λ (x : List ℕ). each_below q (item_at size (bytes ++ r)) ++ x ∷ []) last
    ∙ ap (λ (xs : List (List ℕ)). xs ++ r ∷ []) (each_below-same q (item_at size (bytes ++ r)) (item_at size bytes) (λ p lt. bytes_at-added bytes r (p * size) size (item_ends size (length bytes) p lt)))

all_push : {X : Type 0} (P : X → Type 0) (xs : List X) (x : X) → AllByRecursion P xs → P x → AllByRecursion P (xs ++ x ∷ [])
all_push P [] x all one = (one, tt)
all_push P (y ∷ ys) x all one = (all.0, all_push P ys x all.1 one)

-- a prefix of the bytes with more behind
pub prefix_added : (bytes more : List ℕ) → IsPrefixOf bytes (bytes ++ more)
prefix_added bytes more = take-append_seam bytes more

-- what is sound stays sound where values are added
pub sound_added : (seal : List ℕ → ℕ) (values more : List ℕ) (at n : ℕ) → IsTrue (is_sound seal values (at, n)) → IsTrue (is_sound seal (values ++ more) (at, n))
sound_added seal values more at n sound =
    let own : take (length values) values ≡ values = take-length values in
    sound_settled seal values (values ++ more) (length values) at n (subst (λ (x : List ℕ). IsPrefixOf x (values ++ more)) (sym own) (prefix_added values more))
    (omega (arith, (sound_parts seal values at n sound).1, ap length own)) sound

-- and spells the same value
pub entry_stays : (l : Layout) (values more x : List ℕ) → IsTrue (is_sound l.seal values (l.place x)) → entry_of l.place (values ++ more) x ≡ entry_of l.place values x
entry_stays l values more x was = entry_same l.place values (values ++ more) x (bytes_at-added values more (l.place x).0 (l.place x).1 (sound_parts l.seal values (l.place x).0 (l.place x).1 was).1)

module _ (place : List ℕ → ℕ × ℕ) where
  pub follow-push : (at : ℕ) (rs : List (List ℕ)) (r : List ℕ) (end : ℕ) → Follow place at rs end → (place r).0 ≡ end → 4 ≤ (place r).1 → Follow place at (rs ++ r ∷ []) (end + (place r).1)
  follow-push at [] r end follow here some = (here ∙ sym follow, some, ap (λ (k : ℕ). k + (place r).1) follow)
  follow-push at (x ∷ xs) r end follow here some = (follow.0, follow.1, follow-push (at + (place x).1) xs r end follow.2 here some)

module _ (seal : List ℕ → ℕ) (values spelled : List ℕ) (fits : seal spelled < 2 ^ 32) where
  -- the values with the frame behind them
  abbrev added : List ℕ
  added = values ++ frame seal spelled

  -- how long the frame is
  abbrev size : ℕ
  size = length (frame seal spelled)

  -- the value that was added is spelled at the end
  pub value_there : bytes_at added (length values) (size - 4) ≡ spelled
  value_there =
      let short : size - 4 ≡ length spelled = omega (arith, length-frame seal spelled) in
      ap (take (size - 4)) (drop-append_seam values (frame seal spelled)) ∙ ap (λ (k : ℕ). take k (frame seal spelled)) short ∙ take-append_seam spelled (to_be_bytes w32 (seal spelled))

  seal_there : bytes_at added (length values + (size - 4)) 4 ≡ to_be_bytes w32 (seal spelled)
  seal_there =
      let short : size - 4 ≡ length spelled = omega (arith, length-frame seal spelled) in
      ap (take 4) (drop-append-add values (frame seal spelled) (size - 4)) ∙ ap (λ (k : ℕ). take 4 (drop k (frame seal spelled))) short ∙ ap (take 4) (drop-append_seam spelled (to_be_bytes w32 (seal spelled)))

  -- and is sound
  pub sound_there : IsTrue (is_sound seal added (length values, size))
  sound_there = sound_from seal added (length values) size (omega (arith, length-frame seal spelled)) (omega (arith, length-append values (frame seal spelled)))
      (ap seal value_there ∙ sym (from_be_bytes-to_be_bytes_4 (seal spelled) fits) ∙ ap (from_be_bytes w32) (sym seal_there))

-- Of a section whose values end where the frames do: a record, as long as records are, that names the frame which is added behind the values.
module _ (l : Layout) (pos : 1 ≤ l.record_size) (f : Facts) (good : AreGood l f) (r spelled : List ℕ) (fits : l.seal spelled < 2 ^ 32) (whole : length f.index % l.record_size ≡ 0) (long : length r ≡ l.record_size)
    (here : l.place r ≡ (length f.values, length (frame l.seal spelled))) where
  -- what is known of the section with the record and its value
  abbrev pub appended : Facts
  appended = record f { index = f.index ++ r; values = f.values ++ frame l.seal spelled }

  -- the records that were there
  abbrev old : List (List ℕ)
  old = records l.record_size f.index

  -- a record is sound in the values that were there
  abbrev WasSound : List ℕ → Type 0
  WasSound x = IsTrue (is_sound l.seal f.values (l.place x))

  -- and in those that are there now
  abbrev IsSound : List ℕ → Type 0
  IsSound x = IsTrue (is_sound l.seal appended.values (l.place x))

  all : records l.record_size appended.index ≡ old ++ r ∷ []
  all = records-push l.record_size f.index r pos whole long

  one_sound : IsSound r
  one_sound = subst (λ (p : ℕ × ℕ). IsTrue (is_sound l.seal appended.values p)) (sym here) (sound_there l.seal f.values spelled fits)

  all_sound : AllByRecursion IsSound (old ++ r ∷ [])
  all_sound = all_push IsSound old r (all_by WasSound IsSound (λ x was. sound_added l.seal f.values (frame l.seal spelled) (l.place x).0 (l.place x).1 was) old good.sound) one_sound

  pub append_good : good.end ≡ length f.values → f.synced ≤ length old → AreGood l appended
  append_good tight few =
      let at : (l.place r).0 ≡ good.end = ap (λ (p : ℕ × ℕ). p.0) here ∙ sym tight in
      let n : (l.place r).1 ≡ length (frame l.seal spelled) = ap (λ (p : ℕ × ℕ). p.1) here in
      let same : take f.synced (old ++ r ∷ []) ≡ take f.synced old = take-append-le f.synced old (r ∷ []) few in
      record {
        end = good.end + (l.place r).1;
        follow = subst (λ (rs : List (List ℕ)). Follow l.place 0 rs (good.end + (l.place r).1)) (sym all) (follow-push l.place 0 old r good.end good.follow at (omega (arith, n, length-frame l.seal spelled)));
        room = omega (arith, tight, n, length-append f.values (frame l.seal spelled));
        sound = subst (AllByRecursion IsSound) (sym all) all_sound;
        index_settled = good.index_settled;
        values_settled = omega (arith, good.values_settled, ap (λ (rs : List (List ℕ)). end_of l.place 0 (take f.synced rs)) all, ap (end_of l.place 0) same);
      }

  -- the list has the record and the value at its end
  pub append_list : list_in l appended ≡ list_in l f ++ record { stored = r; value = spelled } ∷ []
  append_list =
      let old_entry : List ℕ → Entry = entry_of l.place f.values in
      let new_entry : List ℕ → Entry = entry_of l.place appended.values in
      let same : map new_entry old ≡ map old_entry old = map-same new_entry old_entry old (all_by WasSound (λ x. new_entry x ≡ old_entry x) (λ x was. entry_stays l f.values (frame l.seal spelled) x was) old good.sound) in
      let spells : bytes_at appended.values (l.place r).0 ((l.place r).1 - 4) ≡ spelled = ap (λ (p : ℕ × ℕ). bytes_at appended.values p.0 (p.1 - 4)) here ∙ value_there l.seal f.values spelled fits in
      let make : List ℕ → Entry = λ v. record { stored = r; value = v } in
      let last : new_entry r ≡ record { stored = r; value = spelled } = ap make spells in
      ap (map new_entry) all ∙ map-append new_entry old (r ∷ []) ∙ ap (λ (es : List Entry). es ++ new_entry r ∷ []) same ∙ ap (λ (e : Entry). map old_entry old ++ e ∷ []) last

  -- the values end where the frames do
  pub append_tight : (tight : good.end ≡ length f.values) (few : f.synced ≤ length old) → (append_good tight few).end ≡ length appended.values
  unfolding append_good
  append_tight tight few = omega (arith, tight, ap (λ (p : ℕ × ℕ). p.1) here, length-append f.values (frame l.seal spelled))

  -- the new list is the one with the record, or a prefix of that
  pub append_prefix : take (length (list_in l appended)) (list_in l f ++ record { stored = r; value = spelled } ∷ []) ≡ list_in l appended
  append_prefix = ap (take (length (list_in l appended))) (sym append_list) ∙ take-length (list_in l appended)

  -- more is there, and no more is known to have settled
  pub append_more : f.values_settled ≤ length f.values → IsMore f appended
  append_more within = record {
    index = prefix_added f.index r;
    values = prefix_added f.values (frame l.seal spelled);
    index_settled = omega arith;
    values_settled = omega arith;
    within = within;
    synced = refl;
  }
