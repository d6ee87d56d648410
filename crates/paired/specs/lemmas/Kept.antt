-- What a crash leaves of a section's records, from what it leaves of its two blobs: step by step.
use Rattle.std.proofs.Common.{◌≡◌, inl, inr, ℕ, zero, suc, ◌+◌, ◌-◌, ◌≤◌, Bool, ◌&&◌, ◌==◌, nat_le, List, [], ◌∷◌, length, map, take, drop, min, IsTrue, refl, sym, ◌∙◌, ap, subst, arith, length-take, length-drop}
use Rattle.std.specs.Int.{w32, from_be_bytes}
use Rattle.std.specs.List.{AllByRecursion}
use Rattle.std.proofs.lemmas.Bool.{and_parts, and_from, leb-true, le-leb, eqb-true, eq-eqb}
use Rattle.std.proofs.lemmas.List.{take-take, take-map, length-map}
use Rattle.meta_store.specs.Crashes.{SomeByRecursion}
use Rattle.section_manager.specs.Prefixes.{IsPrefixOf}
use Rattle.paired.specs.Frames.{bytes_at}
use Rattle.paired.specs.Records.{Entry, is_sound, unbroken_prefix, entry_of}
use Rattle.paired.specs.Places.{Follow, end_of}
use Rattle.paired.specs.Crashes.{IsPrefix, WasThere}
use Rattle.paired.specs.lemmas.Frame.{length-bytes_at}
use Rattle.paired.specs.lemmas.Records.{bytes_at-take, map-same, prefix-take, prefix-enough, prefix-all}
use Rattle.blob_device.proofs.general.Lists.{all_by, all_take, all_with}

-- bytes in a prefix stand at the same place in what it is a prefix of
pub prefix_bytes : (kept c : List ℕ) (at n : ℕ) → IsPrefixOf kept c → at + n ≤ length kept → bytes_at kept at n ≡ bytes_at c at n
prefix_bytes kept c at n is inside = ap (λ (l : List ℕ). bytes_at l at n) (sym is) ∙ bytes_at-take at n (length kept) c inside

-- bytes among those that had settled are there after the crash
pub settled_bytes : (values cv : List ℕ) (settled at n : ℕ) → IsPrefixOf (take settled values) cv → at + n ≤ length (take settled values) → bytes_at cv at n ≡ bytes_at values at n
settled_bytes values cv settled at n is inside =
    sym (prefix_bytes (take settled values) cv at n is inside) ∙ bytes_at-take at n settled values (omega (arith, inside, length-take settled values))

-- as many bytes as these are there after the crash
pub settled_length : (kept c : List ℕ) → IsPrefixOf kept c → length kept ≤ length c
settled_length kept c is = omega (arith, length-take (length kept) c, ap length is)

-- what soundness says
pub sound_parts : (seal : List ℕ → ℕ) (values : List ℕ) (at n : ℕ) → IsTrue (is_sound seal values (at, n))
    → (4 ≤ n) × (at + n ≤ length values) × (seal (bytes_at values at (n - 4)) ≡ from_be_bytes w32 (bytes_at values (at + (n - 4)) 4))
sound_parts seal values at n is =
    let computed : ℕ = seal (bytes_at values at (n - 4)) in
    let stored : ℕ = from_be_bytes w32 (bytes_at values (at + (n - 4)) 4) in
    let outer = and_parts (nat_le 4 n && nat_le (at + n) (length values)) (computed == stored) is in
    let inner = and_parts (nat_le 4 n) (nat_le (at + n) (length values)) outer.0 in
    (leb-true 4 n inner.0, leb-true (at + n) (length values) inner.1, eqb-true computed stored outer.1)

pub sound_from : (seal : List ℕ → ℕ) (values : List ℕ) (at n : ℕ) → 4 ≤ n → at + n ≤ length values → seal (bytes_at values at (n - 4)) ≡ from_be_bytes w32 (bytes_at values (at + (n - 4)) 4)
    → IsTrue (is_sound seal values (at, n))
sound_from seal values at n some inside same =
    let computed : ℕ = seal (bytes_at values at (n - 4)) in
    let stored : ℕ = from_be_bytes w32 (bytes_at values (at + (n - 4)) 4) in
    and_from (nat_le 4 n && nat_le (at + n) (length values)) (computed == stored)
    (and_from (nat_le 4 n) (nat_le (at + n) (length values)) (le-leb 4 n some) (le-leb (at + n) (length values) inside)) (eq-eqb computed stored same)

-- a frame among the bytes that had settled is sound after the crash
pub sound_settled : (seal : List ℕ → ℕ) (values cv : List ℕ) (settled at n : ℕ) → IsPrefixOf (take settled values) cv → at + n ≤ length (take settled values)
    → IsTrue (is_sound seal values (at, n)) → IsTrue (is_sound seal cv (at, n))
sound_settled seal values cv settled at n is inside sound =
    let parts = sound_parts seal values at n sound in
    let some : 4 ≤ n = parts.0 in
    let first : bytes_at cv at (n - 4) ≡ bytes_at values at (n - 4) = settled_bytes values cv settled at (n - 4) is (omega (arith, inside, some)) in
    let last : bytes_at cv (at + (n - 4)) 4 ≡ bytes_at values (at + (n - 4)) 4 = settled_bytes values cv settled (at + (n - 4)) 4 is (omega (arith, inside, some)) in
    sound_from seal cv at n some (omega (arith, inside, settled_length (take settled values) cv is)) (ap seal first ∙ parts.2 ∙ ap (from_be_bytes w32) (sym last))

-- bytes that one of the prefixes of a list has are the list's
pub there_bytes : (values cv : List ℕ) (at n : ℕ) → 4 ≤ n → at + n ≤ length cv → (contents : List (List ℕ)) → AllByRecursion (λ c. IsPrefixOf c values) contents
    → SomeByRecursion (λ p. bytes_at p at n ≡ bytes_at cv at n) contents → bytes_at cv at n ≡ bytes_at values at n
there_bytes values cv at n some inside [] prefixes there = absurd there
there_bytes values cv at n some inside (c ∷ cs) prefixes (inl same) =
    let long : at + n ≤ length c = omega (arith, some, ap length same, length-bytes_at cv at n inside, length-take n (drop at c), length-drop at c) in
    sym same ∙ prefix_bytes c values at n prefixes.0 long
there_bytes values cv at n some inside (c ∷ cs) prefixes (inr later) = there_bytes values cv at n some inside cs prefixes.1 later

module _ (place : List ℕ → ℕ × ℕ) where
  -- the frame that a record names ends among so many bytes
  abbrev pub EndsBy : ℕ → List ℕ → Type 0
  EndsBy n r = (place r).0 + (place r).1 ≤ n

  -- a record's frame has the same bytes in both
  abbrev pub IsSameAt : List ℕ → List ℕ → List ℕ → Type 0
  IsSameAt a b r = bytes_at a (place r).0 (place r).1 ≡ bytes_at b (place r).0 (place r).1

  pub follow_least : (at : ℕ) (rs : List (List ℕ)) (end : ℕ) → Follow place at rs end → at ≤ end
  follow_least at [] end follow = omega (arith, follow)
  follow_least at (r ∷ rs) end follow = omega (arith, follow_least (at + (place r).1) rs end follow.2)

  pub end_least : (at : ℕ) (rs : List (List ℕ)) → at ≤ end_of place at rs
  end_least at [] = omega arith
  end_least at (r ∷ rs) = omega (arith, end_least (at + (place r).1) rs)

  -- each of the first k ends where they end, at most, and where all end
  pub follow_ends : (k at : ℕ) (rs : List (List ℕ)) (end below bound : ℕ) → Follow place at rs end → end_of place at (take k rs) ≤ below → min below end ≤ bound → AllByRecursion (EndsBy bound) (take k rs)
  follow_ends zero at rs end below bound follow le is = tt
  follow_ends (suc k) at [] end below bound follow le is = tt
  follow_ends (suc k) at (r ∷ rs) end below bound follow le is =
      let first : at + (place r).1 ≤ below = omega (arith, le, end_least (at + (place r).1) (take k rs)) in
      let second : at + (place r).1 ≤ end = follow_least (at + (place r).1) rs end follow.2 in
      let start : (place r).0 ≡ at = follow.0 in
      (omega (arith, first, second, start, is), follow_ends k (at + (place r).1) rs end below bound follow.2 le is)

  pub entry_same : (values cv r : List ℕ) → IsSameAt cv values r → entry_of place cv r ≡ entry_of place values r
  entry_same values cv r same =
      let at : ℕ = (place r).0 in
      let n : ℕ = (place r).1 in
      let short : n - 4 ≤ n = omega arith in
      let spelled : bytes_at cv at (n - 4) ≡ bytes_at values at (n - 4) = sym (take-take (n - 4) n (drop at cv) short) ∙ ap (take (n - 4)) same ∙ take-take (n - 4) n (drop at values) short in
      let make : List ℕ → Entry = λ v. record { stored = r; value = v } in
      ap make spelled

-- the records of a section's entries are the records
pub stored_entries : (place : List ℕ → ℕ × ℕ) (values : List ℕ) (rs : List (List ℕ)) → map (λ e. e.stored) (map (entry_of place values) rs) ≡ rs
stored_entries place values [] = refl
stored_entries place values (r ∷ rs) = ap (λ (xs : List (List ℕ)). r ∷ xs) (stored_entries place values rs)

-- The law on lists of records: `all` are those of the index, and `rs` those that a crash leaves of them. The frames may end before the values do.
module _ (seal : List ℕ → ℕ) (place : List ℕ → ℕ × ℕ) (values cv : List ℕ) (all rs : List (List ℕ)) (end synced settled marker : ℕ) (contents : List (List ℕ))
    (marked : marker ≤ synced) (enough : synced ≤ length rs) (first : rs ≡ take (length rs) all)
    (follow : Follow place 0 all end) (room : end ≤ length values) (sound : AllByRecursion (λ r. IsTrue (is_sound seal values (place r))) all) (reach : end_of place 0 (take synced all) ≤ settled)
    (is_prefix : IsPrefixOf (take settled values) cv) (prefixes : AllByRecursion (λ c. IsPrefixOf c values) contents)
    (none : AllByRecursion (λ r. IsTrue (is_sound seal cv (place r)) → WasThere contents cv (place r)) rs) where
  abbrev is_kept : List ℕ → Bool
  is_kept r = is_sound seal cv (place r)

  abbrev IsKept : List ℕ → Type 0
  IsKept r = IsTrue (is_sound seal cv (place r))

  abbrev WasSound : List ℕ → Type 0
  WasSound r = IsTrue (is_sound seal values (place r))

  abbrev IsSame : List ℕ → Type 0
  IsSame r = IsSameAt place cv values r

  first_same : take synced rs ≡ take synced all
  first_same = ap (take synced) first ∙ take-take synced (length rs) all enough

  ends : AllByRecursion (EndsBy place (length (take settled values))) (take synced all)
  ends = follow_ends place synced 0 all end settled (length (take settled values)) follow reach (omega (arith, room, length-take settled values))

  synced_sound : AllByRecursion IsKept (take synced rs)
  synced_sound = subst (AllByRecursion IsKept) (sym first_same)
      (all_with (EndsBy place (length (take settled values))) WasSound IsKept (λ r inside was. sound_settled seal values cv settled (place r).0 (place r).1 is_prefix inside was)
      (take synced all) ends (all_take WasSound synced all sound))

  synced_same : AllByRecursion IsSame (take synced rs)
  synced_same = subst (AllByRecursion IsSame) (sym first_same)
      (all_by (EndsBy place (length (take settled values))) IsSame (λ r inside. settled_bytes values cv settled (place r).0 (place r).1 is_prefix inside) (take synced all) ends)

  pub marker_sound : AllByRecursion (λ r. IsTrue (is_sound seal cv (place r))) (take marker rs)
  marker_sound = subst (AllByRecursion IsKept) (take-take marker synced rs marked) (all_take IsKept marker (take synced rs) synced_sound)

  marker_same : AllByRecursion IsSame (take marker rs)
  marker_same = subst (AllByRecursion IsSame) (take-take marker synced rs marked) (all_take IsSame marker (take synced rs) synced_same)

  sound_same : AllByRecursion (λ r. IsKept r → IsSame r) rs
  sound_same = all_by (λ r. IsKept r → WasThere contents cv (place r)) (λ r. IsKept r → IsSame r) same rs none
    where
      same : (r : List ℕ) → (IsKept r → WasThere contents cv (place r)) → IsKept r → IsSame r
      same r there is =
          let parts = sound_parts seal cv (place r).0 (place r).1 is in
          there_bytes values cv (place r).0 (place r).1 parts.0 parts.1 contents prefixes (there is)

  abbrev kept_records : List (List ℕ)
  kept_records = unbroken_prefix is_kept marker 0 rs

  entries_same : map (entry_of place cv) kept_records ≡ map (entry_of place values) kept_records
  entries_same = map-same (entry_of place cv) (entry_of place values) kept_records
      (all_by IsSame (λ r. entry_of place cv r ≡ entry_of place values r) (entry_same place values cv) kept_records
      (prefix-all is_kept marker IsSame marker 0 rs (omega arith) marker_same sound_same))

  kept_first : kept_records ≡ take (length kept_records) all
  kept_first =
      let own : kept_records ≡ take (length kept_records) rs = prefix-take is_kept marker 0 rs in
      let less : length kept_records ≤ length rs = omega (arith, ap length own, length-take (length kept_records) rs) in
      own ∙ ap (take (length kept_records)) first ∙ take-take (length kept_records) (length rs) all less

  pub kept_prefix : IsPrefix (map (entry_of place values) all) synced (map (entry_of place cv) (unbroken_prefix (λ r. is_sound seal cv (place r)) marker 0 rs))
  kept_prefix =
      let long : length (map (entry_of place cv) kept_records) ≡ length kept_records = length-map kept_records (entry_of place cv) in
      record {
        same = entries_same ∙ ap (map (entry_of place values)) kept_first ∙ sym (take-map (entry_of place values) (length kept_records) all)
            ∙ ap (λ (k : ℕ). take k (map (entry_of place values) all)) (sym long);
        synced = omega (arith, long, prefix-enough is_kept marker synced 0 rs enough synced_sound);
      }
