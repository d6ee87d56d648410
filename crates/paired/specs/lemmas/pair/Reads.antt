-- Where the records and values of a pair's section stand: the entry at a position, and the end of its last value.
use Rattle.std.proofs.Common.{◌≡◌, ◌⊎◌, inl, inr, ℕ, zero, suc, ◌+◌, ◌-◌, ◌/◌, ◌^◌, ◌<◌, ◌≤◌, ◌↔◌, List, [], ◌∷◌, length, take, drop, slice_get, Option, None, Some, IsSomeAnd, Result, Ok, Err, IfOk, OnOk, IsTrue, refl, sym, ◌∙◌, ap, subst, arith}
use Rattle.std.specs.Int.{w32, to_be_bytes, from_be_bytes}
use Rattle.std.specs.Option.{option_map}
use Rattle.std.specs.List.{AllByRecursion}
use Rattle.std.proofs.lemmas.Bool.{cases_lt}
use Rattle.std.proofs.lemmas.List.{take-take, drop-take, drop-drop, length-map}
use Rattle.std.proofs.lemmas.Nat.{div_below, from_be_bytes-to_be_bytes_4}
use Rattle.std.proofs.lemmas.Option.{slice_get-map, slice_get_past}
use Rattle.std.proofs.Math.Seq.{take-append_seam, drop-append_seam}
use Rattle.blob_device.specs.Disk.{Key, Disk}
use Rattle.blob_device.specs.Opened.{OpenedList}
use Rattle.sealed_pages.specs.declared.page_blob.PageBlob.{PageBlob}
use Rattle.sealed_pages.specs.declared.write_blob.WriteBlob.{WriteBlob}
use Rattle.sealed_pages.specs.Entries.{ReadsAtMost}
use Rattle.sealed_pages.specs.Shown.{shown}
use Rattle.section_manager.specs.declared.buffer.SectionBuffer as buffer
use Rattle.section_manager.specs.declared.journal.Error.{Error}
use Rattle.section_manager.specs.SealedLaws.{counted}
use Rattle.section_manager.specs.Sections.{Sections, key_of, IsHeld}
use Rattle.section_manager.specs.Setting.{Setting}
use Rattle.section_manager.specs.declared.unsealed.WriteFactory.{WriteFactory}
use Rattle.section_manager.specs.unsealed.Buffer.{count_of}
use Rattle.segments.specs.FixedItems.{item_count, item_at, IsItem}
use Rattle.segments.specs.FixedLists as fixed
use Rattle.paired.specs.lemmas.Frame.{length-bytes_at, length-with_number}
use Rattle.paired.specs.lemmas.Glob.{buffers, section_counted}
use Rattle.paired.specs.lemmas.Kept.{sound_parts}
use Rattle.paired.specs.lemmas.pair.Facts.{Parts, facts_of, good_of, holding_of, proven_of}
use Rattle.paired.specs.lemmas.pair.Holding.{leaves_of}
use Rattle.segments.specs.lemmas.held.Sections.{is_held}
use Rattle.meta_store.specs.Store.{contents_of}
use Rattle.paired.specs.Frames.{bytes_at, with_number, IsBroken}
use Rattle.paired.specs.Crashes.{Leaves}
use Rattle.paired.specs.glob.Sections as glob
use Rattle.paired.specs.Pair.{Pair, IsPair, IsSoundOn, list_of, length_of, synced_length, IsSafeOn}
use Rattle.paired.specs.Places.{Follow}
use Rattle.paired.specs.Records.{Entry, each_below, records, entries_of, entry_of, is_sound}
use Rattle.paired.specs.lemmas.Records.{length-records}
use Rattle.blob_device.proofs.general.Options.{none_or_value, some_there}
use Rattle.blob_device.proofs.general.Results.{if_ok_with}

slice_get-each_below : {X : Type 0} (n : ℕ) (f : ℕ → X) (p : ℕ) → p < n → slice_get (each_below n f) p ≡ Some (f p)
slice_get-each_below zero f p lt = absurd (omega (arith, lt))
slice_get-each_below (suc n) f zero lt = refl
slice_get-each_below {X} (suc n) f (suc p) lt =
    let next : p + 1 ≡ suc p = omega arith in
    slice_get-each_below n (λ i. f (i + 1)) p (omega (arith, lt)) ∙ ap (λ (i : ℕ). let some : X → Option X = λ x. Some x in some (f i)) next

each_has : {X : Type 0} (P : X → Type 0) (n : ℕ) (f : ℕ → X) (p : ℕ) → p < n → AllByRecursion P (each_below n f) → P (f p)
each_has P zero f p lt all = absurd (omega (arith, lt))
each_has P (suc n) f zero lt all = all.0
each_has P (suc n) f (suc p) lt all =
    let next : p + 1 ≡ suc p = omega arith in
    subst (λ (i : ℕ). P (f i)) next (each_has P n (λ i. f (i + 1)) p (omega (arith, lt)) all.1)

-- the list of a section of these bytes has each record with its value
module _ (place : List ℕ → ℕ × ℕ) (size : ℕ) (index values : List ℕ) where
  pub entry_at : (p : ℕ) → p < length index / size → slice_get (entries_of place size index values) p ≡ Some (entry_of place values (item_at size index p))
  entry_at p lt = slice_get-map (entry_of place values) (records size index) p ∙ ap (option_map (entry_of place values)) (slice_get-each_below (item_count size index) (item_at size index) p lt)

  pub some_entry : (p : ℕ) (Q : Entry → Type 0) → p < length index / size → Q (entry_of place values (item_at size index p)) → IsSomeAnd (slice_get (entries_of place size index values) p) Q
  some_entry p Q lt has = subst (λ (o : Option Entry). IsSomeAnd o Q) (sym (entry_at p lt)) has

  pub from_entry : (p : ℕ) (Q : Entry → Type 0) → IsSomeAnd (slice_get (entries_of place size index values) p) Q → (p < length index / size) × Q (entry_of place values (item_at size index p))
  from_entry p Q has = elim (cases_lt p (length index / size)) [
    | inl lt ↦ (lt, subst (λ (o : Option Entry). IsSomeAnd o Q) (entry_at p lt) has)
    | inr past ↦ absurd (subst (λ (o : Option Entry). IsSomeAnd o Q) (slice_get_past (entries_of place size index values) p
        (omega (arith, past, length-map (records size index) (entry_of place values), length-records size index))) has)
  ]

-- the last of some places that follow each other ends where they do
pub follow_last : (place : List ℕ → ℕ × ℕ) (at : ℕ) (rs : List (List ℕ)) (end p : ℕ) (r : List ℕ) → Follow place at rs end → p + 1 ≡ length rs → slice_get rs p ≡ Some r → (place r).0 + (place r).1 ≡ end
follow_last place at [] end p r follow last is = absurd (omega (arith, last))
follow_last place at (x ∷ []) end zero r follow last is =
    let same : x ≡ r = cc is in
    subst (λ (y : List ℕ). (place y).0 + (place y).1 ≡ end) same (omega (arith, follow.0, follow.2))
follow_last place at (x ∷ []) end (suc p) r follow last is = absurd (omega (arith, last))
follow_last place at (x ∷ y ∷ rs) end zero r follow last is = absurd (omega (arith, last))
follow_last place at (x ∷ y ∷ rs) end (suc p) r follow last is = follow_last place (at + (place x).1) (y ∷ rs) end p r follow.2 (omega (arith, last)) is

pub last_ends : (place : List ℕ → ℕ × ℕ) (size : ℕ) (index : List ℕ) (end p : ℕ) → Follow place 0 (records size index) end → p + 1 ≡ length index / size
    → (place (item_at size index p)).0 + (place (item_at size index p)).1 ≡ end
last_ends place size index end p follow last =
    follow_last place 0 (records size index) end p (item_at size index p) follow (omega (arith, last, length-records size index)) (slice_get-each_below (item_count size index) (item_at size index) p (omega (arith, last)))

-- what a frame spells
pub frame_spells : (seal : List ℕ → ℕ) (bytes : List ℕ) (at n : ℕ) (spelled : List ℕ) (m : ℕ) → at + n ≤ length bytes → bytes_at bytes at n ≡ with_number spelled m
    → (bytes_at bytes at (n - 4) ≡ spelled) × (bytes_at bytes (at + (n - 4)) 4 ≡ to_be_bytes w32 m)
frame_spells seal bytes at n spelled m inside is =
    let number : List ℕ = to_be_bytes w32 m in
    let long : length spelled + 4 ≡ n = sym (length-with_number spelled m) ∙ ap length (sym is) ∙ length-bytes_at bytes at n inside in
    let prefix : n - 4 ≡ length spelled = omega (arith, long) in
    let four : n ≡ (n - 4) + 4 = omega (arith, long) in (
      sym (take-take (n - 4) n (drop at bytes) (omega arith)) ∙ ap (take (n - 4)) is ∙ ap (λ (k : ℕ). take k (with_number spelled m)) prefix ∙ take-append_seam spelled number,
      ap (take 4) (sym (drop-drop (n - 4) at bytes)) ∙ sym (drop-take (n - 4) 4 (drop at bytes)) ∙ ap (λ (k : ℕ). drop (n - 4) (take k (drop at bytes))) (sym four) ∙ ap (drop (n - 4)) is
          ∙ ap (λ (k : ℕ). drop k (with_number spelled m)) prefix ∙ drop-append_seam spelled number,
    )

-- bytes that are sound do not end in another number than their seal
pub sound_unbroken : (seal : List ℕ → ℕ) (bytes : List ℕ) (at n stored computed : ℕ) → IsTrue (is_sound seal bytes (at, n)) → IsBroken seal bytes at n stored computed → ⊥
sound_unbroken seal bytes at n stored computed sound broken =
    let parts = sound_parts seal bytes at n sound in
    let spells = frame_spells seal bytes at n broken.spelled stored broken.inside broken.is in
    let same : stored ≡ computed = sym (from_be_bytes-to_be_bytes_4 stored broken.fits) ∙ ap (from_be_bytes w32) (sym spells.1) ∙ sym parts.2 ∙ ap seal spells.0 ∙ sym broken.sealed in
    broken.differs same

module _ {F S : Type 0} {gs : _} (m : Sections F (PageBlob S gs)) (d : Disk) (s : ℕ) where
  -- a section has as many bytes as it counts
  pub index_size : length (fixed.section_bytes m d s) ≡ fixed.section_size m s
  index_size = elim (none_or_value (m.held s)) [
    | inl none ↦ rw none refl
    | inr some ↦ rw some.1 (counted (shown some.0) (d (key_of m s)).content)
  ]

-- A section's list, by position.
module _ {F S : Type 0} {gs : _} (p : Pair F (PageBlob S gs)) (d : Disk) (s : ℕ) where
  entry_in : (position : ℕ) → position < length_of p s → position < length (fixed.section_bytes p.index.sections d s) / p.layout.record_size
  entry_in position lt = subst (λ (n : ℕ). position < n / p.layout.record_size) (sym (index_size p.index.sections d s)) lt

  -- a record that stands at a position is in the list
  pub listed : {I : Type 0} (spelling : I → List ℕ) (accepted : I → Unit {0} → Type 0) (position : ℕ) (v : I) → position < length_of p s
      → IsItem spelling accepted (item_at p.layout.record_size (fixed.section_bytes p.index.sections d s) position) v → IsSomeAnd (slice_get (list_of p d s) position) (λ e. e.stored ≡ spelling v)
  listed spelling accepted position v lt item =
      some_entry p.layout.place p.layout.record_size (fixed.section_bytes p.index.sections d s) (glob.section_bytes p.values d s) position (λ e. e.stored ≡ spelling v) (entry_in position lt) (sym item.spelled)

  pub listed_answer : {I : Type 0} (spelling : I → List ℕ) (accepted : I → Unit {0} → Type 0) (position : ℕ) (r : Result I Error) → OnOk r (position < length_of p s)
      → IfOk r (IsItem spelling accepted (item_at p.layout.record_size (fixed.section_bytes p.index.sections d s) position)) → IfOk r (λ v. IsSomeAnd (slice_get (list_of p d s) position) (λ e. e.stored ≡ spelling v))
  listed_answer spelling accepted position r lt item = if_ok_with r lt item (λ v few is. listed spelling accepted position v few is)

  -- a position in the list is that of a record
  pub in_list : (position : ℕ) (Q : Entry → Type 0) → IsSomeAnd (slice_get (list_of p d s) position) Q
      → (position < length_of p s) × Q (entry_of p.layout.place (glob.section_bytes p.values d s) (item_at p.layout.record_size (fixed.section_bytes p.index.sections d s) position))
  in_list position Q has =
      let found = from_entry p.layout.place p.layout.record_size (fixed.section_bytes p.index.sections d s) (glob.section_bytes p.values d s) position Q has in
      (subst (λ (n : ℕ). position < n / p.layout.record_size) (index_size p.index.sections d s) found.0, found.1)

  -- a section with records is held
  pub held_by : (position : ℕ) → 1 ≤ p.layout.record_size → position < length_of p s → IsHeld p.index.sections s
  held_by position pos lt = elim (none_or_value (p.index.sections.held s)) [
    | inl none ↦ absurd (omega (arith, lt, ap (λ (o : Option (PageBlob S gs)). fixed.size_held o / p.layout.record_size) none, div_below 0 p.layout.record_size 1 (omega (arith, pos)) (omega (arith, pos))))
    | inr some ↦ is_held p.index.sections s some.0 some.1
  ]

  -- a section without bytes has no records
  pub no_length : 1 ≤ p.layout.record_size → fixed.section_size p.index.sections s ≡ 0 → length_of p s ≡ 0
  no_length pos none = omega (arith, ap (λ (n : ℕ). n / p.layout.record_size) none, div_below 0 p.layout.record_size 1 (omega (arith, pos)) (omega (arith, pos)))

  -- the last record of the section
  abbrev last_item : List ℕ
  last_item = item_at p.layout.record_size (fixed.section_bytes p.index.sections d s) (length_of p s - 1)

  pub listed_last : {I : Type 0} (spelling : I → List ℕ) (accepted : I → Unit {0} → Type 0) (r : Result (Option I) Error) → IfOk r (λ o. (o ≡ None) ↔ (length_of p s ≡ 0))
      → IfOk r (λ o. (v : I) → o ≡ Some v → IsItem spelling accepted last_item v) → IfOk r (λ o. (v : I) → o ≡ Some v → IsSomeAnd (slice_get (list_of p d s) (length_of p s - 1)) (λ e. e.stored ≡ spelling v))
  listed_last spelling accepted (Err e) none item = tt
  listed_last spelling accepted (Ok o) none item = λ v is. elim (cases_lt 0 (length_of p s)) [
    | inl some ↦ listed spelling accepted (length_of p s - 1) v (omega (arith, some)) (item v is)
    | inr few ↦ absurd (cc (is, none.1 (omega (arith, few))))
  ]

  -- where the value of the last record stands
  pub last_place : (Q : ℕ × ℕ → Type 0) → 0 < length_of p s → Q (p.layout.place last_item) → IsSomeAnd (slice_get (list_of p d s) (length_of p s - 1)) (λ e. Q (p.layout.place e.stored))
  last_place Q some has =
      some_entry p.layout.place p.layout.record_size (fixed.section_bytes p.index.sections d s) (glob.section_bytes p.values d s) (length_of p s - 1) (λ e. Q (p.layout.place e.stored))
      (entry_in (length_of p s - 1) (omega (arith, some))) has

  pub place_of : {I : Type 0} (spelling : I → List ℕ) (accepted : I → Unit {0} → Type 0) (location : I → ℕ × ℕ) → ((v : I) → accepted v tt → p.layout.place (spelling v) ≡ location v) → (v : I) → IsItem spelling accepted last_item v
      → location v ≡ p.layout.place last_item
  place_of spelling accepted location spelled v item = sym (spelled v item.allowed) ∙ ap p.layout.place item.spelled

  -- where the values of a sound section end
  module _ (sound : IsSoundOn p d) where
    pub sound_end : 0 < length_of p s → (p.layout.place last_item).0 + (p.layout.place last_item).1 ≡ glob.section_size p.values s
    sound_end some =
        last_ends p.layout.place p.layout.record_size (fixed.section_bytes p.index.sections d s) (glob.section_size p.values s) (length_of p s - 1) (sound.places s)
        (omega (arith, some, ap (λ (n : ℕ). n / p.layout.record_size) (index_size p.index.sections d s)))

    pub sound_empty : length_of p s ≡ 0 → glob.section_size p.values s ≡ 0
    sound_empty none =
        sym (subst (λ (n : ℕ). Follow p.layout.place 0 (each_below n (item_at p.layout.record_size (fixed.section_bytes p.index.sections d s))) (glob.section_size p.values s))
        (ap (λ (n : ℕ). n / p.layout.record_size) (index_size p.index.sections d s) ∙ none) (sound.places s))

  -- a record of a sound section names the frame of its value
  pub sound_entry : IsSoundOn p d → (position at n : ℕ) (spelled : List ℕ) → IsSomeAnd (slice_get (list_of p d s) position) (λ e. (e.value ≡ spelled) × (p.layout.place e.stored ≡ (at, n)))
      → (position < length_of p s) × (bytes_at (glob.section_bytes p.values d s) at (n - 4) ≡ spelled) × IsTrue (is_sound p.layout.seal (glob.section_bytes p.values d s) (at, n))
  sound_entry sound position at n spelled has =
      let values : List ℕ = glob.section_bytes p.values d s in
      let index : List ℕ = fixed.section_bytes p.index.sections d s in
      let size : ℕ = p.layout.record_size in
      let found = in_list position (λ e. (e.value ≡ spelled) × (p.layout.place e.stored ≡ (at, n))) has in
      let here : p.layout.place (item_at size index position) ≡ (at, n) = found.1.1 in (
        found.0,
        ap (λ (x : ℕ × ℕ). bytes_at values x.0 (x.1 - 4)) (sym here) ∙ found.1.0,
        subst (λ (x : ℕ × ℕ). IsTrue (is_sound p.layout.seal values x)) here
            (each_has (λ r. IsTrue (is_sound p.layout.seal values (p.layout.place r))) (item_count size index) (item_at size index) position (entry_in position found.0) (sound.sound s)),
      )

-- A frame of a section that is sound is no refusal's cause: the section is held, and the frame is inside.
module _ {F : Type 0} {takes : F → Setting} {told : Type 0} (m : Sections F WriteBlob) (opened : OpenedList) (d : Disk) (over : glob.IsGlob buffers takes told m opened d) (t : told) (seal : List ℕ → ℕ) (s at n : ℕ)
    (sound : IsTrue (is_sound seal (glob.section_bytes m d s) (at, n))) where
  frame_in : at + n ≤ glob.section_size m s
  frame_in = omega (arith, (sound_parts seal (glob.section_bytes m d s) at n sound).1, section_counted takes m opened d over t s)

  pub frame_held : m.held s ≡ None → ⊥
  frame_held none = omega (arith, (sound_parts seal (glob.section_bytes m d s) at n sound).0, frame_in, ap glob.size_held none)

  pub frame_not_beyond : IsSomeAnd (m.held s) (λ u. count_of u < at + n) → ⊥
  frame_not_beyond past = go (m.held s) past frame_in
    where
      go : (o : Option WriteBlob) → IsSomeAnd o (λ u. count_of u < at + n) → at + n ≤ glob.size_held o → ⊥
      go None past inside = past
      go (Some u) past inside = omega (arith, past, inside)

  pub frame_not_short : IsSomeAnd (m.held s) (λ u. (at + n < 2 ^ 64) × ((count_of u < at + n) ⊎ (n < 4))) → ⊥
  frame_not_short short = go (m.held s) short frame_in
    where
      go : (o : Option WriteBlob) → IsSomeAnd o (λ u. (at + n < 2 ^ 64) × ((count_of u < at + n) ⊎ (n < 4))) → at + n ≤ glob.size_held o → ⊥
      go None short inside = short
      go (Some u) short inside = elim short.1 [
        | inl past ↦ omega (arith, past, inside)
        | inr few ↦ omega (arith, few, (sound_parts seal (glob.section_bytes m d s) at n sound).0)
      ]

pub reads_none : (n : ℕ) (k : Key) (old new : OpenedList) → new ≡ old → ReadsAtMost n k old new
reads_none n k old new same = subst (λ (o : OpenedList). ReadsAtMost n k old o) (sym same) (record { others = λ q other. refl; length = λ len is. is; reads = omega arith })

-- a call that reads a section where it is held, and nothing where it is not
pub may_read : {F B : Type 0} (m : Sections F B) (s n : ℕ) (k : Key) (old new : OpenedList) → (IsHeld m s → ReadsAtMost n k old new) → (m.held s ≡ None → new ≡ old) → ReadsAtMost n k old new
may_read m s n k old new reads idle = elim (none_or_value (m.held s)) [
  | inl none ↦ reads_none n k old new (idle none)
  | inr some ↦ reads (some_there (m.held s) some.0 some.1)
]

-- What a crash now leaves of a pair that is sound.
pub leaves_now : {F S : Type 0} {gs : _} {g : buffer.Ghosts (PageBlob S gs)} {gives : F → Setting} {takes : WriteFactory → Setting} {told : Type 0} (p : Pair F (PageBlob S gs)) (opened : OpenedList) (d : Disk)
    → 1 ≤ p.layout.record_size → p.index.sections.partition ≡ p.layout.index → p.values.partition ≡ p.layout.values → p.store.partition ≡ p.layout.metadata → IsTrue p.layout.marked
    → ((s : ℕ) (v : PageBlob S gs) → p.index.sections.held s ≡ Some v → v.page_size ≡ p.layout.page_size)
    → IsPair g gives buffers takes told p opened d → told → IsSafeOn p d → Leaves p.layout (list_of p d) (synced_length p) (λ _. ⊥) d
leaves_now {g = g} {gives = gives} {takes = takes} {told = told} p opened d pos index_here values_here store_here is_marked paged pair t safe =
    let sound = safe.sound in
    let parts : Parts p.layout p.index p.values (synced_length p) d g gives takes told p.store opened = record {
      journal = pair.index;
      values = pair.values;
      store = (pair.disk t).markers;
      proven = proven_of pair.whole;
      index_here = index_here;
      values_here = values_here;
      store_here = store_here;
      is_marked = is_marked;
      paged = paged;
      absent = sound.absent;
      marked = pair.markers.marked;
      good = λ s. record {
        places = sound.places s;
        sound = sound.sound s;
        index_settled = pair.settled.index s;
        values_settled = sound.values_settled s;
        lengths = pair.settled.lengths s;
      };
    } in
    leaves_of p.layout pos (facts_of p.layout p.index p.values (synced_length p) d) (λ _. ⊥) (contents_of p.store) (contents_of p.store) d
    (good_of p.layout p.index p.values (synced_length p) d p.store opened pos parts t)
    (holding_of p.layout p.index p.values (synced_length p) d p.store opened pos parts t safe.floor (λ _. ⊥))
