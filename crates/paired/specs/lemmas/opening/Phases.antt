-- What each phase of the end of an opening leaves of a pair: each crash keeps the lists that a crash before the phase keeps.
use Rattle.std.specs.Prelude.{◌≡◌, ◌≢◌, ◌⊎◌, ℕ, ◌*◌, ◌^◌, ◌<◌, ◌≤◌, Bool, false, List, [], length, map, take, get_or, IsTrue, IsSome, Option, None, Some, unwrap_or}
use Rattle.std.proofs.Common.{inl, inr, refl, sym, ◌∙◌, ap, subst, arith}
use Rattle.std.specs.Int.{w64, from_be_bytes}
use Rattle.std.specs.List.{AllByRecursion}
use Rattle.std.proofs.lemmas.Bool.{cases_lt, cases_Bool}
use Rattle.std.proofs.lemmas.Nat.{from_be_bytes-to_be_bytes_8}
use Rattle.blob_device.specs.Disk.{Key, Blob, Disk, Image, IsCrashOf, MayLeave, past, reads}
use Rattle.blob_device.specs.lemmas.Puts.{same_or_other}
use Rattle.sealed_pages.specs.ChanceSeal as pages
use Rattle.sealed_pages.specs.SealedPrefix.{sealed_prefix, Prefix}
use Rattle.section_manager.specs.Prefixes.{IsPrefixOf}
use Rattle.section_manager.specs.Sections.{section_key}
use Rattle.meta_store.specs.declared.error.Side.{Side}
use Rattle.meta_store.specs.declared.error.Side.TheVariants.{Left, Right}
use Rattle.meta_store.specs.Blobs.{blob_of, bytes_of}
use Rattle.meta_store.specs.Crashes as metadata
use Rattle.meta_store.specs.Pairs.{empty_map}
use Rattle.paired.specs.Crashes.{HoldMarkers, IsIndexOf, IsValuesOf, IsCopy, Keeps, NoChanceSeal, WasThere}
use Rattle.paired.specs.Kept.{Layout, Markers, HasNoFloor, IsMarked, marker_of, content_at, stored_records, is_sound_in, kept}
use Rattle.paired.specs.Opening.{AreNamed, as_read, IsLawful, Relation, IsOrder, Same, Any, KeepsBy, RecallsBy, Recalls}
use Rattle.paired.specs.Pair.{AreApart}
use Rattle.paired.specs.Places.{Follow, last_end}
use Rattle.paired.specs.Records.{Entry, records, is_sound, unbroken_prefix, entry_of}
use Rattle.paired.specs.lemmas.opening.Ends.{AreTrueOf, IsGoodAt, KeptBy, KeptHere, any_order, as_before, follow_last_end, index_removed, markers_moved, prefix_cut, prefix_is_sound, records_cut, remarked_keeps, same_order, sections_kept, sound_below, stored_alone, values_cut, without_records}
use Rattle.paired.specs.lemmas.Records.{records-prefix, records-enough}

-- a key is that of a section of the partition that P names, or of none
number : (partition : List ℕ) (P : ℕ → Bool) (q : Key) (found : (s : ℕ) × (s < 2 ^ 64) × IsTrue (P s) × (q ≡ section_key partition s)) → from_be_bytes w64 q.1 ≡ found.0
number partition P q found = ap (λ (k : Key). from_be_bytes w64 k.1) found.3 ∙ from_be_bytes-to_be_bytes_8 found.0 found.1

section_or_not : (partition : List ℕ) (P : ℕ → Bool) (q : Key) → ((s : ℕ) × (s < 2 ^ 64) × IsTrue (P s) × (q ≡ section_key partition s)) ⊎ (((s : ℕ) × (s < 2 ^ 64) × IsTrue (P s) × (q ≡ section_key partition s)) → ⊥)
section_or_not partition P q = elim (cases_lt (from_be_bytes w64 q.1) (2 ^ 64)) [
  | inr large ↦ inr (λ found. absurd (omega (arith, large, found.1, number partition P q found)))
  | inl small ↦ elim (same_or_other q (section_key partition (from_be_bytes w64 q.1))) [
    | inr other ↦ inr (λ found. other (found.3 ∙ ap (section_key partition) (sym (number partition P q found))))
    | inl is ↦ elim (cases_Bool (P (from_be_bytes w64 q.1))) [
      | inl changed ↦ inl (from_be_bytes w64 q.1, small, changed, is)
      | inr still ↦ inr (λ found. absurd (cc (still, ap P (number partition P q found), found.2)))
    ]
  ]
]

pub copy_or_not : (l : Layout) (q : Key) → IsCopy l q ⊎ (IsCopy l q → ⊥)
copy_or_not l q = elim (same_or_other q (blob_of l.metadata Left)) [
  | inl is ↦ inl (Left, is)
  | inr first ↦ elim (same_or_other q (blob_of l.metadata Right)) [
    | inl is ↦ inl (Right, is)
    | inr second ↦ inr (λ found. neither first second found.0 found.1)
  ]
]
  where
    neither : q ≢ blob_of l.metadata Left → q ≢ blob_of l.metadata Right → (side : Side) → q ≡ blob_of l.metadata side → ⊥
    neither first second Left is = first is
    neither first second Right is = second is

abbrev choose : {P X : Type 0} → P ⊎ (P → ⊥) → X → X → X
choose (inl is) x y = x
choose (inr not) x y = y

choose_in : {P X : Type 0} (o : P ⊎ (P → ⊥)) (x y : X) → P → choose o x y ≡ x
choose_in (inl is) x y has = refl
choose_in (inr not) x y has = absurd (not has)

choose_out : {P X : Type 0} (o : P ⊎ (P → ⊥)) (x y : X) → (P → ⊥) → choose o x y ≡ y
choose_out (inl is) x y none = absurd (none is)
choose_out (inr not) x y none = refl

-- these are the first ones of those
abbrev pub IsFirst : List (List ℕ) → List (List ℕ) → Type 0
IsFirst found rs = found ≡ take (length found) rs

pub none_marked : (markers : Markers) → markers ≡ empty_map → (s m : ℕ) → IsMarked markers.entries s m → ⊥
none_marked markers none s m is = none_there (subst (λ (ms : Markers). IsMarked ms.entries s m) none is)
  where
    none_there : IsMarked [] s m → ⊥
    none_there there = cc (there.1)

-- Some sections, and maybe the copies of the markers, change from the one disk to the other.
module _ (l : Layout) (apart : AreApart l) (from d : Disk) (IsChanged : ℕ → Bool) (copies : Bool) where
  -- the key is that of a blob that may change
  abbrev pub IsTouched : Key → Type 0
  IsTouched q = IsIndexOf l (λ s. IsTrue (IsChanged s)) q ⊎ (IsValuesOf l (λ s. IsTrue (IsChanged s)) q ⊎ (IsTrue copies × IsCopy l q))

  -- No other blob changes. What may change may be left as it read, which has no chance seal.
  pub record IsPhase : Type 0 where
    pub readable : (q : Key) → IsTouched q → MayLeave (from q) (reads (from q))
    pub no_chance : NoChanceSeal l from (as_read from)
    pub others : (q : Key) → (IsTouched q → ⊥) → d q ≡ from q

  touched_or_not : (q : Key) → IsTouched q ⊎ (IsTouched q → ⊥)
  touched_or_not q = elim (section_or_not l.index IsChanged q) [
    | inl index ↦ inl (inl index)
    | inr no_index ↦ elim (section_or_not l.values IsChanged q) [
      | inl values ↦ inl (inr (inl values))
      | inr no_values ↦ elim (cases_Bool copies) [
        | inr still ↦ inr (none no_index no_values (λ is. absurd (cc (still, is.0))))
        | inl changed ↦ elim (copy_or_not l q) [
          | inl copy ↦ inl (inr (inr (changed, copy)))
          | inr no_copy ↦ inr (none no_index no_values (λ is. no_copy is.1))
        ]
      ]
    ]
  ]
    where
      none : (IsIndexOf l (λ s. IsTrue (IsChanged s)) q → ⊥) → (IsValuesOf l (λ s. IsTrue (IsChanged s)) q → ⊥) → (IsTrue copies × IsCopy l q → ⊥) → IsTouched q → ⊥
      none no_index no_values no_copy (inl index) = no_index index
      none no_index no_values no_copy (inr (inl values)) = no_values values
      none no_index no_values no_copy (inr (inr copy)) = no_copy copy

  -- an image with what changed put back as it read
  abbrev put_back : Image → Image
  put_back image q = choose (touched_or_not q) (reads (from q)) (image q)

  pub record IsBack (image old : Image) : Type 0 where
    pub own : (q : Key) → IsTouched q → old q ≡ reads (from q)
    pub other : (q : Key) → (IsTouched q → ⊥) → old q ≡ image q

  is_back : (image : Image) → IsBack image (put_back image)
  is_back image = record {
    own = λ q own. choose_in (touched_or_not q) (reads (from q)) (image q) own;
    other = λ q none. choose_out (touched_or_not q) (reads (from q)) (image q) none;
  }

  -- which keys of the pair are touched
  pub not_index : (s : ℕ) → s < 2 ^ 64 → IsChanged s ≡ false → IsTouched (section_key l.index s) → ⊥
  not_index s small still (inl index) = cc (still, ap IsChanged (sym (from_be_bytes-to_be_bytes_8 s small) ∙ number l.index IsChanged (section_key l.index s) index), index.2)
  not_index s small still (inr (inl values)) = apart.values (ap (λ (k : Key). k.0) values.3)
  not_index s small still (inr (inr copy)) = apart.metadata (ap (λ (k : Key). k.0) copy.1.1)

  pub not_values : (s : ℕ) → s < 2 ^ 64 → IsChanged s ≡ false → IsTouched (section_key l.values s) → ⊥
  not_values s small still (inl index) = apart.values (sym (ap (λ (k : Key). k.0) index.3))
  not_values s small still (inr (inl values)) = cc (still, ap IsChanged (sym (from_be_bytes-to_be_bytes_8 s small) ∙ number l.values IsChanged (section_key l.values s) values), values.2)
  not_values s small still (inr (inr copy)) = apart.both (ap (λ (k : Key). k.0) copy.1.1)

  pub not_copy : (side : Side) → copies ≡ false → IsTouched (blob_of l.metadata side) → ⊥
  not_copy side still (inl index) = apart.metadata (sym (ap (λ (k : Key). k.0) index.3))
  not_copy side still (inr (inl values)) = apart.both (sym (ap (λ (k : Key). k.0) values.3))
  not_copy side still (inr (inr copy)) = cc (still, copy.0)

  touched_index : (s : ℕ) → s < 2 ^ 64 → IsTrue (IsChanged s) → IsTouched (section_key l.index s)
  touched_index s small changed = inl (s, small, changed, refl)

  touched_values : (s : ℕ) → s < 2 ^ 64 → IsTrue (IsChanged s) → IsTouched (section_key l.values s)
  touched_values s small changed = inr (inl (s, small, changed, refl))

  module _ (phase : IsPhase) where
    back_crash : (image : Image) → IsCrashOf d image → IsCrashOf from (put_back image)
    back_crash image crash q = elim (touched_or_not q) [
      | inl own ↦ subst (MayLeave (from q)) (sym ((is_back image).own q own)) (phase.readable q own)
      | inr none ↦ subst (MayLeave (from q)) (sym ((is_back image).other q none)) (subst (λ (b : Blob). MayLeave b (image q)) (phase.others q none) (crash q))
    ]

    -- ---- the old image has no chance seal
    module _ (image old : Image) (fresh : NoChanceSeal l d image) (back : IsBack image old) where
      -- what is said of the frames of one section
      abbrev FramesAt : List (List ℕ) → List ℕ → List ℕ → Type 0
      FramesAt contents index values = AllByRecursion (λ r. IsTrue (is_sound l.seal values (l.place r)) → WasThere contents values (l.place r)) (records l.record_size (sealed_prefix l.seal l.page_size index))

      bytes_as : (q : Key) (o : Option (List ℕ)) → old q ≡ o → unwrap_or o [] ≡ unwrap_or (old q) []
      bytes_as q o same = ap (λ (x : Option (List ℕ)). unwrap_or x []) (sym same)

      slots_back : (s : ℕ) → s < 2 ^ 64 → pages.NoChanceSeal l.seal l.page_size (past (from (section_key l.index s))) (content_at old l.index s)
      slots_back s small = elim (cases_Bool (IsChanged s)) [
        | inl changed ↦ subst (pages.NoChanceSeal l.seal l.page_size (past (from (section_key l.index s)))) (bytes_as (section_key l.index s) (reads (from (section_key l.index s))) (back.own (section_key l.index s) (touched_index s small changed)))
            (phase.no_chance.slots s small)
        | inr not ↦
            let none = not_index s small not in
            subst (λ (b : Blob). pages.NoChanceSeal l.seal l.page_size (past b) (content_at old l.index s)) (phase.others (section_key l.index s) none)
            (subst (pages.NoChanceSeal l.seal l.page_size (past (d (section_key l.index s)))) (bytes_as (section_key l.index s) (image (section_key l.index s)) (back.other (section_key l.index s) none)) (fresh.slots s small))
      ]

      frames_back : (s : ℕ) → s < 2 ^ 64 → FramesAt (past (from (section_key l.values s))) (content_at old l.index s) (content_at old l.values s)
      frames_back s small = elim (cases_Bool (IsChanged s)) [
        | inl changed ↦
            subst (λ (c : List ℕ). FramesAt (past (from (section_key l.values s))) c (content_at old l.values s))
            (bytes_as (section_key l.index s) (reads (from (section_key l.index s))) (back.own (section_key l.index s) (touched_index s small changed)))
            (subst (FramesAt (past (from (section_key l.values s))) (content_at (as_read from) l.index s))
            (bytes_as (section_key l.values s) (reads (from (section_key l.values s))) (back.own (section_key l.values s) (touched_values s small changed))) (phase.no_chance.frames s small))
        | inr not ↦
            let no_index = not_index s small not in
            let no_values = not_values s small not in
            subst (λ (b : Blob). FramesAt (past b) (content_at old l.index s) (content_at old l.values s)) (phase.others (section_key l.values s) no_values)
            (subst (λ (c : List ℕ). FramesAt (past (d (section_key l.values s))) c (content_at old l.values s))
            (bytes_as (section_key l.index s) (image (section_key l.index s)) (back.other (section_key l.index s) no_index))
            (subst (FramesAt (past (d (section_key l.values s))) (content_at image l.index s))
            (bytes_as (section_key l.values s) (image (section_key l.values s)) (back.other (section_key l.values s) no_values)) (fresh.frames s small)))
      ]

      copies_back : IsTrue l.marked → (side : Side) → metadata.NoChanceSeal l.markers.seal (past (from (blob_of l.metadata side))) (bytes_of (old (blob_of l.metadata side)))
      copies_back is side = elim (cases_Bool copies) [
        | inl changed ↦ subst (metadata.NoChanceSeal l.markers.seal (past (from (blob_of l.metadata side))))
            (bytes_as (blob_of l.metadata side) (reads (from (blob_of l.metadata side))) (back.own (blob_of l.metadata side) (inr (inr (changed, (side, refl)))))) (phase.no_chance.copies is side)
        | inr not ↦
            let none = not_copy side not in
            subst (λ (b : Blob). metadata.NoChanceSeal l.markers.seal (past b) (bytes_of (old (blob_of l.metadata side)))) (phase.others (blob_of l.metadata side) none)
            (subst (metadata.NoChanceSeal l.markers.seal (past (d (blob_of l.metadata side)))) (bytes_as (blob_of l.metadata side) (image (blob_of l.metadata side)) (back.other (blob_of l.metadata side) none)) (fresh.copies is side))
      ]

      no_chance_back : NoChanceSeal l from old
      no_chance_back = record { slots = slots_back; frames = frames_back; copies = copies_back }

    -- what is to be shown of each image that a crash leaves now
    pub recalls_of : (Rel : Relation) → ((image old : Image) → IsCrashOf d image → NoChanceSeal l d image → IsBack image old → (markers : Markers) → IsLawful l old markers → KeepsBy l Rel old markers image) → RecallsBy l Rel from d
    recalls_of Rel keeps image crash fresh = record {
      old = put_back image;
      crash = back_crash image crash;
      no_chance = no_chance_back image (put_back image) fresh (is_back image);
      keeps = keeps image (put_back image) crash fresh (is_back image);
    }

    -- a name that changed has eight bytes
    eight : (name partition : List ℕ) → IsIndexOf l (λ s. IsTrue (IsChanged s)) (partition, name) ⊎ (IsValuesOf l (λ s. IsTrue (IsChanged s)) (partition, name) ⊎ (IsTrue copies × IsCopy l (partition, name))) → partition ≢ l.metadata → length name ≡ 8
    eight name partition (inl index) other = ap (λ (k : Key). length k.1) index.3
    eight name partition (inr (inl values)) other = ap (λ (k : Key). length k.1) values.3
    eight name partition (inr (inr copy)) other = absurd (other (ap (λ (k : Key). k.0) copy.1.1))

    pub named_still : (image old : Image) → IsBack image old → AreNamed l old → AreNamed l image
    named_still image old back names = record {
      index = λ name there. elim (touched_or_not (l.index, name)) [
        | inl own ↦ eight name l.index own apart.metadata
        | inr none ↦ names.index name (subst IsSome (sym (back.other (l.index, name) none)) there)
      ];
      values = λ name there. elim (touched_or_not (l.values, name)) [
        | inl own ↦ eight name l.values own apart.both
        | inr none ↦ names.values name (subst IsSome (sym (back.other (l.values, name) none)) there)
      ];
    }

    -- where the copies stay, what is to be shown of each section that changed
    pub sections_by : (Rel : Relation) → IsOrder Rel → copies ≡ false
        → ((image old : Image) → IsCrashOf d image → NoChanceSeal l d image → IsBack image old → (markers : Markers) → IsLawful l old markers → (s : ℕ) → s < 2 ^ 64 → IsTrue (IsChanged s) → KeptBy l Rel old image markers s) → RecallsBy l Rel from d
    sections_by Rel order still each = recalls_of Rel (λ image old crash fresh back markers lawful. sections_kept l Rel order old image markers (named_still image old back lawful.names)
        (λ side. sym (back.other (blob_of l.metadata side) (not_copy side still)))
        (λ s small. elim (cases_Bool (IsChanged s)) [
          | inl changed ↦ each image old crash fresh back markers lawful s small changed
          | inr not ↦ as_before l Rel order old image markers s (sym (back.other (section_key l.index s) (not_index s small not)))
              (ap (λ (o : Option (List ℕ)). unwrap_or o []) (sym (back.other (section_key l.values s) (not_values s small not))))
        ]) lawful)

    -- Of a pair without markers: each crash leaves of a section that changed the first records that it reads as. So is every step of an opening
    -- that needs nothing of the values.
    pub stored_by : l.marked ≡ false → copies ≡ false
        → ((s : ℕ) → s < 2 ^ 64 → IsTrue (IsChanged s) → (left : Option (List ℕ)) → MayLeave (d (section_key l.index s)) left → pages.NoChanceSeal l.seal l.page_size (past (d (section_key l.index s))) (unwrap_or left [])
        → IsFirst (records l.record_size (sealed_prefix l.seal l.page_size (unwrap_or left []))) (stored_records l (as_read from) s)) → RecallsBy l Any from d
    stored_by not_marked still each = sections_by Any any_order still (λ image old crash fresh back markers lawful s small changed.
        let was : old (section_key l.index s) ≡ reads (from (section_key l.index s)) = back.own (section_key l.index s) (touched_index s small changed) in
        stored_alone l old image markers s (λ m is. none_marked markers (lawful.held.none not_marked) s m is)
        (each s small changed (image (section_key l.index s)) (crash (section_key l.index s)) (fresh.slots s small)
        ∙ ap (λ (o : Option (List ℕ)). take (length (stored_records l image s)) (records l.record_size (sealed_prefix l.seal l.page_size (unwrap_or o [])))) (sym was)))

    pub sections_of : copies ≡ false
        → ((image old : Image) → IsCrashOf d image → NoChanceSeal l d image → IsBack image old → (markers : Markers) → IsLawful l old markers → (s : ℕ) → s < 2 ^ 64 → IsTrue (IsChanged s) → KeptHere l old image markers s) → Recalls l from d
    sections_of = sections_by Same same_order

    -- ---- a section that changed is put back as it read
    module _ (image old : Image) (back : IsBack image old) (s : ℕ) (small : s < 2 ^ 64) (changed : IsTrue (IsChanged s)) where
      index_read : old (section_key l.index s) ≡ reads (from (section_key l.index s))
      index_read = back.own (section_key l.index s) (touched_index s small changed)

      values_read : content_at old l.values s ≡ content_at (as_read from) l.values s
      values_read = ap (λ (o : Option (List ℕ)). unwrap_or o []) (back.own (section_key l.values s) (touched_values s small changed))

      read_records : stored_records l old s ≡ stored_records l (as_read from) s
      read_records = ap (λ (o : Option (List ℕ)). records l.record_size (sealed_prefix l.seal l.page_size (unwrap_or o []))) index_read

      read_sound : is_sound_in l old s ≡ is_sound_in l (as_read from) s
      read_sound = λ i r. is_sound l.seal (values_read i) (l.place r)

    -- ---- records are cut
    -- The section is cut to p records at the least, at or above its marker: each crash leaves a prefix of those that it reads as, of which what is
    -- kept stands so to what is kept of all, and the values as they read.
    pub record IsCut (Rel : Relation) (marker s : ℕ) : Type 0 where
      pub p : ℕ
      pub high : marker ≤ p
      pub prefixes : (k : ℕ) → p ≤ k → k ≤ length (stored_records l (as_read from) s)
          → Rel s (map (entry_of l.place (content_at (as_read from) l.values s)) (unbroken_prefix (is_sound_in l (as_read from) s) marker 0 (take k (stored_records l (as_read from) s)))) (kept l (as_read from) marker s)
      pub leaves : pages.Leaves l.seal l.page_size (sealed_prefix l.seal l.page_size (content_at (as_read from) l.index s)) (p * l.record_size) (d (section_key l.index s))
      pub values : (left : Option (List ℕ)) → MayLeave (d (section_key l.values s)) left → unwrap_or left [] ≡ content_at (as_read from) l.values s

    -- It is cut to p records, where what is kept by the marker stops.
    pub record IsShortened (marker s : ℕ) : Type 0 where
      pub p : ℕ
      pub within : p < length (stored_records l (as_read from) s)
      pub high : marker ≤ p
      pub fails : is_sound_in l (as_read from) s (get_or (stored_records l (as_read from) s) p []) ≡ false
      pub good : (q : ℕ) → q < p → IsGoodAt (is_sound_in l (as_read from) s) marker 0 (stored_records l (as_read from) s) q
      pub leaves : pages.Leaves l.seal l.page_size (sealed_prefix l.seal l.page_size (content_at (as_read from) l.index s)) (p * l.record_size) (d (section_key l.index s))
      pub values : (left : Option (List ℕ)) → MayLeave (d (section_key l.values s)) left → unwrap_or left [] ≡ content_at (as_read from) l.values s

    -- so just what was kept is kept
    cut_shortened : (marker s : ℕ) → IsShortened marker s → IsCut Same marker s
    cut_shortened marker s short = record {
      p = short.p;
      high = short.high;
      prefixes = λ k le few. ap (map (entry_of l.place (content_at (as_read from) l.values s)))
          (prefix_cut (is_sound_in l (as_read from) s) marker short.p k (stored_records l (as_read from) s) le few short.within short.good short.high short.fails);
      leaves = short.leaves;
      values = short.values;
    }

    prefix_left : (bytes : List ℕ) (least : ℕ) (b : Blob) (left : Option (List ℕ)) → MayLeave b left → pages.Leaves l.seal l.page_size bytes least b → pages.NoChanceSeal l.seal l.page_size (past b) (unwrap_or left [])
        → IsSome left × Prefix l.seal l.page_size bytes least (unwrap_or left [])
    prefix_left bytes least b None may leaves fresh = absurd (leaves None may)
    prefix_left bytes least b (Some c) may leaves fresh = (refl, leaves (Some c) may fresh)

    module _ (Rel : Relation) (order : IsOrder Rel) (pos : 1 ≤ l.record_size) (image old : Image) (crash : IsCrashOf d image) (fresh : NoChanceSeal l d image) (back : IsBack image old) (markers : Markers) (s : ℕ) (small : s < 2 ^ 64) (changed : IsTrue (IsChanged s))
        (cut : IsCut Rel (marker_of markers.entries s) s) where
      abbrev sealed : List ℕ
      sealed = sealed_prefix l.seal l.page_size (content_at (as_read from) l.index s)

      left : IsSome (image (section_key l.index s)) × Prefix l.seal l.page_size sealed (cut.p * l.record_size) (content_at image l.index s)
      left = prefix_left sealed (cut.p * l.record_size) (d (section_key l.index s)) (image (section_key l.index s)) (crash (section_key l.index s)) cut.leaves (fresh.slots s small)

      first : stored_records l image s ≡ take (length (stored_records l image s)) (stored_records l old s)
      first = records-prefix l.record_size sealed (sealed_prefix l.seal l.page_size (content_at image l.index s)) pos left.1.is left.1.no_longer
          ∙ ap (take (length (stored_records l image s))) (sym (read_records image old back s small changed))

      -- what is said of the records and values as they read is said of the old ones
      abbrev IsPrefixed : List ℕ → List (List ℕ) → Type 0
      IsPrefixed values rs = (k : ℕ) → cut.p ≤ k → k ≤ length rs
          → Rel s (map (entry_of l.place values) (unbroken_prefix (λ r. is_sound l.seal values (l.place r)) (marker_of markers.entries s) 0 (take k rs))) (map (entry_of l.place values) (unbroken_prefix (λ r. is_sound l.seal values (l.place r)) (marker_of markers.entries s) 0 rs))

      prefixed : IsPrefixed (content_at old l.values s) (stored_records l old s)
      prefixed = subst (λ (values : List ℕ). IsPrefixed values (stored_records l old s)) (sym (values_read image old back s small changed))
          (subst (IsPrefixed (content_at (as_read from) l.values s)) (sym (read_records image old back s small changed)) cut.prefixes)

      shortened : KeptBy l Rel old image markers s
      shortened = records_cut l Rel order old image markers s cut.p left.0 (cut.values (image (section_key l.values s)) (crash (section_key l.values s)) ∙ sym (values_read image old back s small changed)) first
          (records-enough l.record_size cut.p (sealed_prefix l.seal l.page_size (content_at image l.index s)) pos left.1.no_shorter) cut.high prefixed

    -- by the markers that the pair has
    abbrev pub HasMarkers : (ℕ → ℕ) → Type 0
    HasMarkers marker = (image old : Image) (markers : Markers) → IsCrashOf d image → IsBack image old → IsLawful l old markers → (s : ℕ) → s < 2 ^ 64 → marker_of markers.entries s ≡ marker s

    pub records_by : (Rel : Relation) → IsOrder Rel → copies ≡ false → 1 ≤ l.record_size → (marker : ℕ → ℕ) → HasMarkers marker → ((s : ℕ) → s < 2 ^ 64 → IsTrue (IsChanged s) → IsCut Rel (marker s) s) → RecallsBy l Rel from d
    records_by Rel order still pos marker has each = sections_by Rel order still (λ image old crash fresh back markers lawful s small changed.
        shortened Rel order pos image old crash fresh back markers s small changed (subst (λ (m : ℕ). IsCut Rel m s) (sym (has image old markers crash back lawful s small)) (each s small changed)))

    pub records_phase : copies ≡ false → 1 ≤ l.record_size → (marker : ℕ → ℕ) → HasMarkers marker → ((s : ℕ) → s < 2 ^ 64 → IsTrue (IsChanged s) → IsShortened (marker s) s) → Recalls l from d
    records_phase still pos marker has each = records_by Same same_order still pos marker has (λ s small changed. cut_shortened (marker s) s (each s small changed))

    -- ---- index blobs are removed
    -- The section has no marker. Each crash leaves its index blob as it reads, and its values too; or without records, as is allowed.
    pub record IsDropped (Rel : Relation) (marker s : ℕ) : Type 0 where
      pub allowed : Rel s [] (kept l (as_read from) marker s)
      pub index : (left : Option (List ℕ)) → MayLeave (d (section_key l.index s)) left → (left ≡ reads (from (section_key l.index s))) ⊎ (records l.record_size (sealed_prefix l.seal l.page_size (unwrap_or left [])) ≡ [])
      pub values : (left : Option (List ℕ)) → MayLeave (d (section_key l.values s)) left → unwrap_or left [] ≡ content_at (as_read from) l.values s

    module _ (Rel : Relation) (order : IsOrder Rel) (marker : ℕ → ℕ) (has : HasMarkers marker) (image old : Image) (crash : IsCrashOf d image) (back : IsBack image old) (markers : Markers) (lawful : IsLawful l old markers) (s : ℕ) (small : s < 2 ^ 64) (changed : IsTrue (IsChanged s))
        (unmarked : (m : ℕ) → IsMarked markers.entries s m → ⊥) (drop : IsDropped Rel (marker s) s) where
      values_same : content_at image l.values s ≡ content_at old l.values s
      values_same = drop.values (image (section_key l.values s)) (crash (section_key l.values s)) ∙ sym (values_read image old back s small changed)

      list_old : kept l old (marker_of markers.entries s) s ≡ kept l (as_read from) (marker s) s
      list_old =
          let same_marker : marker_of markers.entries s ≡ marker s = has image old markers crash back lawful s small in
          (λ i. map (entry_of l.place (values_read image old back s small changed i))
          (unbroken_prefix (read_sound image old back s small changed i) (same_marker i) 0 (read_records image old back s small changed i)))

      dropped : KeptBy l Rel old image markers s
      dropped = elim (drop.index (image (section_key l.index s)) (crash (section_key l.index s))) [
        | inl same ↦ as_before l Rel order old image markers s (same ∙ sym (index_read image old back s small changed)) values_same
        | inr bare ↦ index_removed l Rel order old image markers s unmarked bare (subst (Rel s []) (sym list_old) drop.allowed)
      ]

    -- no lawful image that is put back has a marker of the section
    abbrev pub IsUnmarkedAt : ℕ → Type 0
    IsUnmarkedAt s = (image old : Image) (markers : Markers) → IsCrashOf d image → IsBack image old → IsLawful l old markers → (m : ℕ) → IsMarked markers.entries s m → ⊥

    -- of sections some are cut, and others removed
    pub cut_or_dropped_by : (Rel : Relation) → IsOrder Rel → copies ≡ false → 1 ≤ l.record_size → (marker : ℕ → ℕ) → HasMarkers marker
        → ((s : ℕ) → s < 2 ^ 64 → IsTrue (IsChanged s) → IsCut Rel (marker s) s ⊎ (IsDropped Rel (marker s) s × IsUnmarkedAt s)) → RecallsBy l Rel from d
    cut_or_dropped_by Rel order still pos marker has each = sections_by Rel order still (λ image old crash fresh back markers lawful s small changed. elim (each s small changed) [
      | inl cut ↦ shortened Rel order pos image old crash fresh back markers s small changed (subst (λ (m : ℕ). IsCut Rel m s) (sym (has image old markers crash back lawful s small)) cut)
      | inr drop ↦ dropped Rel order marker has image old crash back markers lawful s small changed (drop.1 image old markers crash back lawful) drop.0
    ])

    pub removed_by : (Rel : Relation) → IsOrder Rel → copies ≡ false → (marker : ℕ → ℕ) → HasMarkers marker
        → ((image old : Image) (markers : Markers) → IsCrashOf d image → IsBack image old → IsLawful l old markers → (s m : ℕ) → IsTrue (IsChanged s) → IsMarked markers.entries s m → ⊥)
        → ((s : ℕ) → s < 2 ^ 64 → IsTrue (IsChanged s) → IsDropped Rel (marker s) s) → RecallsBy l Rel from d
    removed_by Rel order still marker has unmarked each = sections_by Rel order still (λ image old crash fresh back markers lawful s small changed.
        dropped Rel order marker has image old crash back markers lawful s small changed (λ m. unmarked image old markers crash back lawful s m changed) (each s small changed))

    -- ---- values are cut, or removed
    -- The section's values are cut to n bytes, behind the last record's; all its records are kept, and left as they read; each crash leaves these bytes.
    pub record IsTrimmed (marker s : ℕ) : Type 0 where
      pub n : ℕ
      pub reach : last_end l.place (stored_records l (as_read from) s) ≤ n
      pub whole : unbroken_prefix (is_sound_in l (as_read from) s) marker 0 (stored_records l (as_read from) s) ≡ stored_records l (as_read from) s
      pub leaves : (left : Option (List ℕ)) → MayLeave (d (section_key l.values s)) left → IsPrefixOf (take n (content_at (as_read from) l.values s)) (unwrap_or left [])
      pub index : (left : Option (List ℕ)) → MayLeave (d (section_key l.index s)) left → left ≡ reads (from (section_key l.index s))

    -- The section has no index blob, and no crash brings back a record.
    pub record IsBare (s : ℕ) : Type 0 where
      pub absent : reads (from (section_key l.index s)) ≡ None
      pub none : stored_records l (as_read from) s ≡ []
      pub index : (left : Option (List ℕ)) → MayLeave (d (section_key l.index s)) left → records l.record_size (sealed_prefix l.seal l.page_size (unwrap_or left [])) ≡ []

    module _ (Rel : Relation) (order : IsOrder Rel) (image old : Image) (crash : IsCrashOf d image) (back : IsBack image old) (markers : Markers) (lawful : IsLawful l old markers) (s : ℕ) (small : s < 2 ^ 64) (changed : IsTrue (IsChanged s)) where
      module _ (trim : IsTrimmed (marker_of markers.entries s) s) where
        abbrev places_end : ℕ
        places_end = (lawful.places s small).end

        whole_old : unbroken_prefix (is_sound_in l old s) (marker_of markers.entries s) 0 (stored_records l old s) ≡ stored_records l old s
        whole_old = (λ i. unbroken_prefix (read_sound image old back s small changed i) (marker_of markers.entries s) 0 (read_records image old back s small changed i)) ∙ trim.whole ∙ sym (read_records image old back s small changed)

        all_sound : AllByRecursion (λ r. IsTrue (is_sound_in l old s r)) (stored_records l old s)
        all_sound = prefix_is_sound (is_sound_in l old s) (marker_of markers.entries s) (marker_of markers.entries s) 0 (stored_records l old s) (omega arith) (sound_below l old markers lawful.true_markers s) whole_old

        no_end : stored_records l old s ≡ [] → 0 ≡ places_end
        no_end none = subst (λ (rs : List (List ℕ)). Follow l.place 0 rs places_end) none (lawful.places s small).follow

        reached : places_end ≤ trim.n
        reached = elim (follow_last_end l.place 0 (stored_records l old s) places_end (lawful.places s small).follow) [
          | inl none ↦ omega (arith, no_end none)
          | inr is ↦ omega (arith, is, trim.reach, ap (last_end l.place) (read_records image old back s small changed))
        ]

        trimmed : KeptBy l Rel old image markers s
        trimmed = values_cut l Rel order old image markers s trim.n (trim.index (image (section_key l.index s)) (crash (section_key l.index s)) ∙ sym (index_read image old back s small changed)) (lawful.places s small) reached
            (subst (λ (c : List ℕ). IsPrefixOf (take trim.n c) (content_at image l.values s)) (sym (values_read image old back s small changed)) (trim.leaves (image (section_key l.values s)) (crash (section_key l.values s)))) all_sound

      bare_kept : IsBare s → KeptBy l Rel old image markers s
      bare_kept bare = without_records l Rel order old image markers s (λ some. absurd (cc (subst IsSome (index_read image old back s small changed ∙ bare.absent) some)))
          (bare.index (image (section_key l.index s)) (crash (section_key l.index s))) (read_records image old back s small changed ∙ bare.none)

    pub values_by : (Rel : Relation) → IsOrder Rel → copies ≡ false → (marker : ℕ → ℕ) → HasMarkers marker → ((s : ℕ) → s < 2 ^ 64 → IsTrue (IsChanged s) → IsTrimmed (marker s) s ⊎ IsBare s) → RecallsBy l Rel from d
    values_by Rel order still marker has each = sections_by Rel order still (λ image old crash fresh back markers lawful s small changed. elim (each s small changed) [
      | inl trim ↦ trimmed Rel order image old crash back markers lawful s small changed (subst (λ (m : ℕ). IsTrimmed m s) (sym (has image old markers crash back lawful s small)) trim)
      | inr bare ↦ bare_kept Rel order image old crash back markers lawful s small changed bare
    ])

    pub values_phase : copies ≡ false → (marker : ℕ → ℕ) → HasMarkers marker → ((s : ℕ) → s < 2 ^ 64 → IsTrue (IsChanged s) → IsTrimmed (marker s) s ⊎ IsBare s) → Recalls l from d
    values_phase = values_by Same same_order

    -- ---- markers are moved
    -- The image keeps the whole list of each section, which is what the old image keeps.
    pub markers_by : (Rel : Relation) → IsOrder Rel → (wanted : ℕ → List Entry)
        → ((image old : Image) (markers : Markers) → IsCrashOf d image → NoChanceSeal l d image → IsBack image old → IsLawful l old markers → (s : ℕ) → s < 2 ^ 64 → wanted s ≡ kept l old (marker_of markers.entries s) s)
        → ((image old : Image) (markers : Markers) → IsCrashOf d image → NoChanceSeal l d image → IsBack image old → IsLawful l old markers → Keeps l wanted (λ s. length (wanted s)) (λ _. ⊥) image) → RecallsBy l Rel from d
    markers_by Rel order wanted list keeps = recalls_of Rel (λ image old crash fresh back markers lawful. markers_moved l Rel order old image markers wanted (named_still image old back lawful.names) lawful
        (λ s small. list image old markers crash fresh back lawful s small) (keeps image old markers crash fresh back lawful))

    pub markers_phase : (wanted : ℕ → List Entry)
        → ((image old : Image) (markers : Markers) → IsCrashOf d image → NoChanceSeal l d image → IsBack image old → IsLawful l old markers → (s : ℕ) → s < 2 ^ 64 → wanted s ≡ kept l old (marker_of markers.entries s) s)
        → ((image old : Image) (markers : Markers) → IsCrashOf d image → NoChanceSeal l d image → IsBack image old → IsLawful l old markers → Keeps l wanted (λ s. length (wanted s)) (λ _. ⊥) image) → Recalls l from d
    markers_phase = markers_by Same same_order

    -- Markers move: each crash leaves the copies with markers that are true of a lawful old image.
    pub marks_phase : ((s : ℕ) → IsChanged s ≡ false)
        → ((image old : Image) (markers : Markers) → IsCrashOf d image → NoChanceSeal l d image → IsBack image old → IsLawful l old markers → (new : Markers) × HoldMarkers l image new × HasNoFloor new × AreTrueOf l old new) → Recalls l from d
    marks_phase still moves = recalls_of Same (λ image old crash fresh back markers lawful.
        let found = moves image old markers crash fresh back lawful in
        remarked_keeps l old image markers found.0 lawful (named_still image old back lawful.names) found.1 found.2 found.3
        (λ s small. sym (back.other (section_key l.index s) (not_index s small (still s))))
        (λ s small. ap (λ (o : Option (List ℕ)). unwrap_or o []) (sym (back.other (section_key l.values s) (not_values s small (still s))))))
