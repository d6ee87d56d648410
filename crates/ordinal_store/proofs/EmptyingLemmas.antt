-- Removing blobs of a partition, one name after another.
use Rattle.std.specs.Prelude.{◌≡◌, ◌≢◌, ◌⊎◌, ℕ, ◌+◌, ◌<◌, ◌≤◌, List, [], length, map, get_or, IsSomeAnd, Some, None, true, ◌^◌, Result, Ok, Err, IsTrue}
use Rattle.std.specs.Result.{IsErrOf, IsErrAnd}
use Rattle.std.proofs.Common.{inl, inr, refl, sym, ◌∙◌, ap, subst, arith}
use Rattle.std.proofs.lemmas.Bool.{cases_eq}
use Rattle.std.proofs.lemmas.List.{get_or-map, length-map}
use Rattle.std.proofs.lemmas.Option.{get_or_from_slice_get, slice_get-get_or}
use Rattle.std.specs.Int.{w64, to_be_bytes}
use Rattle.std.specs.List.{Contains}
use Rattle.blob_device.specs.lemmas.Moments.{always_start, always_now, always_then, always_weaker, only_start, only_on, ok_blob, err_has}
use Rattle.blob_device.specs.lemmas.Puts.{same_or_other}
use Rattle.blob_device.specs.Counts.{Rose}
use Rattle.blob_device.specs.Change.{Look, Remove}
use Rattle.blob_device.specs.Disk.{AreNamesIn, Key, Blob, Disk, nothing}
use Rattle.blob_device.specs.Opened.{OpenedList, left}
use Rattle.blob_device.specs.Timeline.{Always, OnlyAt, Passes}
use Rattle.blob_device.specs.declared.error.DevError.{DevError}
use Rattle.blob_device.specs.declared.error.DevError.TheVariants as device
use Rattle.sealed_pages.specs.Reading.{Unchanged}
use Rattle.ordinal_store.specs.Durable.{IsGoing}
use Rattle.ordinal_store.specs.Emptying.{Empties, Emptying, GoesAll, IsUnkept}
use Rattle.ordinal_store.specs.Marking.{IsKept, Marking, Marks, is_wanted}
use Rattle.ordinal_store.specs.Raised.{raised}
use Rattle.ordinal_store.specs.Reopening.{HasWanted}
use Rattle.ordinal_store.specs.Slots.{Layout, blob_of}
use Rattle.ordinal_store.specs.Stores.{Sight, now}
use Rattle.ordinal_store.specs.declared.ordinal.Error.{Error}
use Rattle.ordinal_store.proofs.RemovingLemmas.{entry_left, going, going_nothing}
use Rattle.ordinal_store.proofs.StepLemmas.{key_injective}
use Rattle.blob_device.proofs.general.Results.{err_of}

-- Each blob is as before or gone, and those of the first i names are gone.
pub record EmptiedFirst (MayGo : Key → Type 0) (partition : List ℕ) (names : List (List ℕ)) (i : ℕ) (from d : Disk) : Type 0 where
  pub each : (q : Key) → (d q ≡ from q) ⊎ (d q ≡ nothing)
  pub gone : (k : ℕ) → k < i → MayGo (partition, get_or names k []) → d (partition, get_or names k []) ≡ nothing

pub none_emptied : (MayGo : Key → Type 0) (partition : List ℕ) (names : List (List ℕ)) (d : Disk) → EmptiedFirst MayGo partition names 0 d d
none_emptied MayGo partition names d = record { each = λ q. inl refl; gone = λ k below may. absurd (omega (arith, below)) }

-- a blob that may not go is passed over
pub one_passed : (MayGo : Key → Type 0) (partition : List ℕ) (names : List (List ℕ)) (i : ℕ) (from d : Disk) → (MayGo (partition, get_or names i []) → ⊥) → EmptiedFirst MayGo partition names i from d → EmptiedFirst MayGo partition names (i + 1) from d
one_passed MayGo partition names i from d not emptied = record {
  each = emptied.each;
  gone = λ k below may. elim (cases_eq k i) [
    | inl same ↦ absurd (not (subst (λ (x : ℕ). MayGo (partition, get_or names x [])) same may))
    | inr other ↦ emptied.gone k (omega (arith, below, other)) may
  ];
}

pub empties_start : (MayGo : Key → Type 0) (told : Type 0) (v : Sight) → GoesAll MayGo told v v
empties_start MayGo told v = record {
  moments = λ t. always_start v.time (Empties MayGo (now v)) (record { each = λ q. inl refl; others = λ q not. refl });
  entries = λ q. inl refl;
  faults = omega arith;
}

module _ {T : Type 0} (MayGo : Key → Type 0) (partition : List ℕ) (told : Type 0) (names : List (List ℕ)) (i : ℕ) (name : List ℕ) (old mid new : Sight) (here : get_or names i [] ≡ name)
    (may : MayGo (partition, name)) (there : told → IsTrue (now old (partition, name)).there)
    (goes : GoesAll MayGo told old mid) (emptied : told → EmptiedFirst MayGo partition names i (now old) (now mid)) (removed : Result T DevError) (passes : told → Passes (partition, name) Remove removed mid.time new.time) where
  abbrev key : Key
  key = (partition, name)

  moments_one : told → Always mid.time new.time (OnlyAt key (now mid) (IsGoing (now mid key)))
  moments_one t = going key removed mid.time new.time (passes t)

  empties_on : told → (d : Disk) → OnlyAt key (now mid) (IsGoing (now mid key)) d → Empties MayGo (now old) d
  empties_on t d only = record {
    each = λ q. elim (same_or_other q key) [
      | inl same ↦ subst (λ (k : Key). IsGoing (now old k) (d k)) (sym same) (from_there (emptied t).each)
      | inr other ↦ subst (IsGoing (now old q)) (sym (only.others q other)) (had.each q)
    ];
    others = λ q not. only.others q (λ same. not (subst MayGo (sym same) may, subst (λ (k : Key). IsTrue (now old k).there) (sym same) (there t))) ∙ had.others q not;
  }
    where
      had : Empties MayGo (now old) (now mid)
      had = always_now old.time mid.time (Empties MayGo (now old)) (goes.moments t)

      from_there : ((q : Key) → (now mid q ≡ now old q) ⊎ (now mid q ≡ nothing)) → IsGoing (now old key) (d key)
      from_there each = elim (each key) [
        | inl stays ↦ subst (λ (b : Blob). IsGoing b (d key)) stays only.here
        | inr none ↦ inr (inr (going_nothing (d key) (subst (λ (b : Blob). IsGoing b (d key)) none only.here)))
      ]

  pub empties_more : (new.opened ≡ mid.opened) ⊎ (new.opened ≡ left mid.opened key) → mid.faults ≤ new.faults → GoesAll MayGo told old new
  empties_more entries faults = record {
    moments = λ t. always_then old.time mid.time new.time (Empties MayGo (now old)) (goes.moments t)
        (always_weaker mid.time new.time (OnlyAt key (now mid) (IsGoing (now mid key))) (Empties MayGo (now old)) (empties_on t) (moments_one t));
    entries = λ q. elim (entry_left key mid.opened new.opened entries q) [
      | inl same ↦ elim (goes.entries q) [
        | inl before ↦ inl (same ∙ before)
        | inr away ↦ inr (away.0, same ∙ away.1)
      ]
      | inr away ↦ inr (subst MayGo (sym away.0) may, away.1)
    ];
    faults = omega (arith, goes.faults, faults);
  }

  pub one_more : (now new key ≡ nothing) → told → EmptiedFirst MayGo partition names (i + 1) (now old) (now new)
  one_more none t = record {
    each = λ q. elim (same_or_other q key) [
      | inl same ↦ inr (subst (λ (k : Key). now new k ≡ nothing) (sym same) none)
      | inr other ↦ subst (λ (b : Blob). (b ≡ now old q) ⊎ (b ≡ nothing)) (sym (others q other)) ((emptied t).each q)
    ];
    gone = λ k below may_k. elim (cases_eq k i) [
      | inl same ↦ subst (λ (n : List ℕ). now new (partition, n) ≡ nothing) (sym (ap (λ (x : ℕ). get_or names x []) same ∙ here)) none
      | inr not ↦ still (partition, get_or names k []) ((emptied t).gone k (omega (arith, below, not)) may_k)
    ];
  }
    where
      others : (q : Key) → q ≢ key → now new q ≡ now mid q
      others = (always_now mid.time new.time (OnlyAt key (now mid) (IsGoing (now mid key))) (moments_one t)).others

      still : (q : Key) → now mid q ≡ nothing → now new q ≡ nothing
      still q was = elim (same_or_other q key) [
        | inl same ↦ subst (λ (k : Key). now new k ≡ nothing) (sym same) none
        | inr other ↦ others q other ∙ was
      ]

-- the name that the number at a place spells
pub name_at : (numbers : List ℕ) (i n : ℕ) → i < length numbers → get_or numbers i 0 ≡ n → get_or (map (to_be_bytes w64) numbers) i [] ≡ to_be_bytes w64 n
name_at numbers i n inside at = get_or-map (to_be_bytes w64) numbers i 0 [] inside ∙ ap (to_be_bytes w64) at

pub name_listed : (numbers : List ℕ) (i n : ℕ) → i < length numbers → get_or numbers i 0 ≡ n → Contains (map (to_be_bytes w64) numbers) (to_be_bytes w64 n)
name_listed numbers i n inside at = (i, omega (arith, inside, length-map numbers (to_be_bytes w64)), get_or-map (to_be_bytes w64) numbers i 0 (to_be_bytes w64 n) inside ∙ ap (to_be_bytes w64) at)

-- a section is kept where the map has a wanted slot of it
pub kept_named : (l : Layout) (marking : Marking) (s : ℕ) → IsKept l marking s → IsSomeAnd (marking s) (HasWanted l.items)
kept_named l marking s kept = go (marking s) kept.1.0 kept.1.1
  where
    go : (m : Marks) (p : ℕ) → is_wanted l.items m p ≡ true → IsSomeAnd m (HasWanted l.items)
    go None p wanted = absurd (cc wanted)
    go (Some marks) p wanted = (p, wanted)

pub named_kept : (l : Layout) (marking : Marking) (s : ℕ) → s < 2 ^ 64 → IsSomeAnd (marking s) (HasWanted l.items) → IsKept l marking s
named_kept l marking s small named = (small, go (marking s) named)
  where
    go : (m : Marks) → IsSomeAnd m (HasWanted l.items) → (p : ℕ) × (is_wanted l.items m p ≡ true)
    go None none = absurd none
    go (Some marks) wanted = wanted

-- the blob of a section that is not kept
pub unkept_at : (l : Layout) (marking : Marking) (partition : List ℕ) (s : ℕ) → l.partition ≡ partition → s < 2 ^ 64 → (IsKept l marking s → ⊥) → IsUnkept l marking (partition, to_be_bytes w64 s)
unkept_at l marking partition s same small not = (s, small, not, λ i. (sym same i, to_be_bytes w64 s))

-- a section that is kept has another blob
pub passed_named : (l : Layout) (marking : Marking) (partition : List ℕ) (numbers : List ℕ) (i n : ℕ) → l.partition ≡ partition → i < length numbers → get_or numbers i 0 ≡ n → n < 2 ^ 64 → IsKept l marking n
    → IsUnkept l marking (partition, get_or (map (to_be_bytes w64) numbers) i []) → ⊥
passed_named l marking partition numbers i n same inside at small kept unkept =
    let as_named : blob_of l n ≡ (partition, get_or (map (to_be_bytes w64) numbers) i []) = λ j. (same j, sym (name_at numbers i n inside at) j) in
    unkept.2 (subst (IsKept l marking) (key_injective l.partition n unkept.0 small unkept.1 (as_named ∙ unkept.3)) kept)

pub unkept_in : (l : Layout) (marking : Marking) (partition : List ℕ) → l.partition ≡ partition → (q : Key) → IsUnkept l marking q → q.0 ≡ partition
unkept_in l marking partition same q unkept = ap (λ (k : Key). k.0) unkept.3 ∙ same

-- Asking for the names changes nothing.
module _ {T : Type 0} (MayGo : Key → Type 0) (told : Type 0) (old mid : Sight) (k : Key) (answer : Result T DevError) (passes : told → Passes k Look answer old.time mid.time) where
  as_before : told → Always old.time mid.time (OnlyAt k (now old) (λ b. b ≡ now old k))
  as_before t = only_on old.time old.time mid.time k (now old) (λ b. b ≡ now old k) Look answer (only_start old.time k (λ b. b ≡ now old k) refl) (passes t) refl (after answer (passes t))
    where
      after : (r : Result T DevError) → Passes k Look r old.time mid.time → now mid k ≡ now old k
      after (Ok v) p = ok_blob k Look v old.time mid.time p
      after (Err e) p = err_has {T = T} (λ b. b ≡ now old k) k Look e old.time mid.time p refl (λ b same. same)

  same_all : (d : Disk) → OnlyAt k (now old) (λ b. b ≡ now old k) d → (q : Key) → d q ≡ now old q
  same_all d only q = elim (same_or_other q k) [
    | inl same ↦ subst (λ (x : Key). d x ≡ now old x) (sym same) only.here
    | inr other ↦ only.others q other
  ]

  pub same_disk : told → now mid ≡ now old
  same_disk t = λ i q. same_all (now mid) (always_now old.time mid.time (OnlyAt k (now old) (λ b. b ≡ now old k)) (as_before t)) q i

  pub looked : told → Unchanged old.time mid.time
  looked t = always_weaker old.time mid.time (OnlyAt k (now old) (λ b. b ≡ now old k)) (λ d. d ≡ now old) (λ d only i q. same_all d only q i) (as_before t)

  pub scanned : mid.opened ≡ old.opened → old.faults ≤ mid.faults → GoesAll MayGo told old mid
  scanned entries faults = record {
    moments = λ t. always_weaker old.time mid.time (OnlyAt k (now old) (λ b. b ≡ now old k)) (Empties MayGo (now old))
        (λ d only. record { each = λ q. inl (same_all d only q); others = λ q not. same_all d only q }) (as_before t);
    entries = λ q. inl (ap (λ (o : OpenedList). o q) entries);
    faults = faults;
  }

  -- what follows is as if it had begun before
  module _ (new : Sight) (entries : mid.opened ≡ old.opened) (earlier : old.faults ≤ mid.faults) where
    goes_since : GoesAll MayGo told mid new → GoesAll MayGo told old new
    goes_since goes = record {
      moments = λ t. always_then old.time mid.time new.time (Empties MayGo (now old)) ((scanned entries earlier).moments t)
          (subst (λ (d : Disk). Always mid.time new.time (Empties MayGo d)) (same_disk t) (goes.moments t));
      entries = λ q. subst (λ (e : _). (new.opened q ≡ e) ⊎ (MayGo q × (new.opened q ≡ None))) (ap (λ (o : OpenedList). o q) entries) (goes.entries q);
      faults = omega (arith, earlier, goes.faults);
    }

    pub emptying_since : (result : Result (Unit {0}) Error) → Emptying MayGo told result mid new → Emptying MayGo told result old new
    emptying_since (Ok v) done = record {
      goes = goes_since done.goes;
      gone = λ t. subst (λ (d : Disk). (q : Key) → MayGo q → IsTrue (d q).there → now new q ≡ nothing) (same_disk t) (done.gone t);
      cause = tt;
    }
    emptying_since (Err e) done = record {
      goes = goes_since done.goes;
      gone = λ t. tt;
      cause = elim done.cause [
        | inl mem ↦ inl mem
        | inr fault ↦ inr (fault.0, omega (arith, earlier, fault.1))
      ];
    }

module _ (MayGo : Key → Type 0) (told : Type 0) (old mid new : Sight) (earlier : old.faults ≤ mid.faults) (goes : GoesAll MayGo told old new) where
  refused_as : (e : DevError) → (IsErrOf {T = Unit {0}} (Err e) device.Fault → Rose mid.faults new.faults) → Emptying MayGo told (Err (raised e)) old new
  refused_as device.Fault rose = record { goes = goes; gone = λ t. tt; cause = inr (refl, omega (arith, earlier, rose refl)) }
  refused_as device.Mem rose = record { goes = goes; gone = λ t. tt; cause = inl refl }

  pub emptying_failed : (result : Result (Unit {0}) Error) (e : DevError) → IsErrAnd result (λ x. x ≡ raised e) → (IsErrOf {T = Unit {0}} (Err e) device.Fault → Rose mid.faults new.faults) → Emptying MayGo told result old new
  emptying_failed result e is rose = subst (λ (r : Result (Unit {0}) Error). Emptying MayGo told r old new) (sym (err_of result (raised e) is)) (refused_as e rose)

-- all names are gone over
pub emptied_all : (MayGo : Key → Type 0) (partition : List ℕ) (told : Type 0) (names : List (List ℕ)) (i : ℕ) (old new : Sight) → ((q : Key) → MayGo q → q.0 ≡ partition) → (told → AreNamesIn (now old) partition names) → length names ≤ i
    → GoesAll MayGo told old new → (told → EmptiedFirst MayGo partition names i (now old) (now new)) → Emptying MayGo told (Ok tt) old new
emptied_all MayGo partition told names i old new inside are over goes emptied = record {
  goes = goes;
  gone = λ t q may there. (let as_pair : (partition, q.1) ≡ q = λ j. (sym (inside q may) j, q.1) in
      let listed = ((are t).each q.1).1 (subst (λ (k : Key). IsTrue (now old k).there) (sym as_pair) there) in
      let same : get_or names listed.0 [] ≡ get_or names listed.0 q.1 = get_or_from_slice_get names listed.0 (get_or names listed.0 q.1) [] (slice_get-get_or names listed.0 q.1 listed.1) in
      let at : (partition, get_or names listed.0 []) ≡ q = (λ j. (partition, (same ∙ listed.2) j)) ∙ as_pair in
      subst (λ (k : Key). now new k ≡ nothing) at ((emptied t).gone listed.0 (omega (arith, listed.1, over)) (subst MayGo (sym at) may)));
  cause = tt;
}
