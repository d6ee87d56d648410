-- What is known of a pair, and what it keeps at each moment, where a value and then its record are added to one of its sections.
use Rattle.std.proofs.Common.{◌≡◌, ◌≢◌, ◌⊎◌, inl, inr, ℕ, ◌+◌, ◌*◌, ◌/◌, ◌%◌, ◌^◌, ◌<◌, ◌≤◌, eqb, if◌then◌else◌, List, [], ◌∷◌, ◌++◌, length, take, IsTrue, Option, None, Some, IsSome, IsSomeAnd, refl, sym, ◌∙◌, ap, subst, arith}
use Rattle.std.specs.List.{AllByRecursion}
use Rattle.std.proofs.lemmas.Bool.{cases_eq}
use Rattle.std.proofs.lemmas.List.{take-append-le}
use Rattle.std.proofs.lemmas.Nat.{div_below, div-add-mod', le-div}
use Rattle.std.proofs.Math.Seq.{take-append_seam}
use Rattle.blob_device.specs.Disk.{Key, Blob, Disk, longest}
use Rattle.blob_device.specs.Opened.{Opened, OpenedList}
use Rattle.blob_device.specs.Timeline.{Timeline, disk, Always, OnlyAt}
use Rattle.blob_device.specs.lemmas.Moments.{always_start, always_then, always_weaker, always_now}
use Rattle.sealed_pages.specs.Buffer.{bytes_of, IsSealed}
use Rattle.sealed_pages.specs.ChanceSeal as pages
use Rattle.sealed_pages.specs.Flushing.{Alone}
use Rattle.sealed_pages.specs.declared.page_blob.PageBlob.{PageBlob}
use Rattle.sealed_pages.specs.declared.write_blob.WriteBlob.{WriteBlob}
use Rattle.sealed_pages.specs.Shown.{shown}
use Rattle.meta_store.specs.lemmas.Uses.{stands_same}
use Rattle.paired.specs.lemmas.Glob.{buffers, glob_stays, section_counted}
use Rattle.paired.specs.lemmas.pair.Appending.{append_good, append_list, append_more, append_prefix, append_tight, appended}
use Rattle.paired.specs.lemmas.pair.Blobs.{values_of}
use Rattle.paired.specs.lemmas.pair.Facts.{Parts, facts_of, few_of, glob_outlasts, good_of, holding_of, no_records_left, not_there, proven_of, settled_held, tight_of, unheld, values_within, whole_of}
use Rattle.sealed_pages.specs.lemmas.slots.PageCalls.{only_weaker}
use Rattle.segments.specs.lemmas.adding.Write.{ArePages}
use Rattle.section_manager.specs.declared.buffer.SectionBuffer as buffer
use Rattle.section_manager.specs.declared.unsealed.WriteFactory.{WriteFactory}
use Rattle.section_manager.specs.Entries.{OnlyOwnEntry}
use Rattle.section_manager.specs.Leaving.{AllMoments}
use Rattle.section_manager.specs.Sections.{Sections, section_key, key_of, IsHeld, IsSame, SameBounds}
use Rattle.section_manager.specs.Setting.{Setting}
use Rattle.section_manager.specs.unsealed.Buffer.{content_of}
use Rattle.section_manager.specs.lemmas.Keys.{keys_differ}
use Rattle.segments.specs.FixedLasting.{IsBeginning as IsBeginningIndex}
use Rattle.segments.specs.FixedLists.{Lists, IsJournal}
use Rattle.segments.specs.FixedLists as fixed
use Rattle.meta_store.specs.declared.error.Side.{Side}
use Rattle.meta_store.specs.declared.error.Side.TheVariants.{Left, Right}
use Rattle.meta_store.specs.Blobs.{blob_of}
use Rattle.paired.specs.Crashes.{IsIndexOf, IsValuesOf, InOrder, Keeping}
use Rattle.paired.specs.Frames.{frame}
use Rattle.paired.specs.glob.Lasting.{Outlasts, IsBeginning, settled_bytes}
use Rattle.paired.specs.glob.Sections.{IsGlob}
use Rattle.paired.specs.glob.Sections as glob
use Rattle.paired.specs.Holding.{Facts, list_in, AreGood, IsLasting, LeavesNoRecords, ValuesStand, Holding}
use Rattle.paired.specs.Kept.{IsMarked, HasNoFloor}
use Rattle.paired.specs.Pair.{Pair, synced_length, list_of, HasSettled, AreWhole, IsPair, IsSoundOn}
use Rattle.paired.specs.Places.{Follow, end_of}
use Rattle.paired.specs.Records.{Entry, records, entries_of, is_sound}
use Rattle.paired.proofs.pair.Stays.{journal_stays}
use Rattle.paired.proofs.CallLemmas.{held_some}
use Rattle.paired.proofs.pair.Appending.{lengthened, lengthen_good, lengthen_list, lengthen_more}
use Rattle.paired.proofs.pair.Blobs.{opening_bare}
use Rattle.paired.proofs.pair.Calls.{append_values, append_held, append_made}
use Rattle.paired.proofs.pair.Moments.{Stays, keeping_of}
use Rattle.meta_store.specs.Store.{contents_of}
use Rattle.blob_device.proofs.general.Options.{none_or_value}

-- A pair's parts are where its layout says, and its index is made of page blobs under its seal.
pub record IsLaid {F S : Type 0} {gs : _} (g : buffer.Ghosts (PageBlob S gs)) (gives : F → Setting) (p : Pair F (PageBlob S gs)) : Type 0 where
  pub pages : ArePages g p.layout.seal
  pub index : p.index.sections.partition ≡ p.layout.index
  pub values : p.values.partition ≡ p.layout.values
  pub store : p.store.partition ≡ p.layout.metadata
  pub paged : (gives p.index.sections.factory).page_size ≡ p.layout.page_size
  pub marked : IsTrue p.layout.marked
  pub pos : 1 ≤ p.layout.record_size

pub is_laid : {F S : Type 0} {gs : _} {g : buffer.Ghosts (PageBlob S gs)} {gives : F → Setting} {takes : WriteFactory → Setting} {told : Type 0} {p : Pair F (PageBlob S gs)} {opened : OpenedList} {d : Disk}
    → IsPair g gives buffers takes told p opened d → ArePages g p.layout.seal → p.index.sections.partition ≡ p.layout.index → p.values.partition ≡ p.layout.values → p.store.partition ≡ p.layout.metadata
    → (gives p.index.sections.factory).page_size ≡ p.layout.page_size → IsTrue p.layout.marked → 1 ≤ p.layout.record_size → IsLaid g gives p
is_laid pair pages index values store paged marked pos = record { pages = pages; index = index; values = values; store = store; paged = paged; marked = marked; pos = pos }

module _ {F S : Type 0} {gs : _} (p : Pair F (PageBlob S gs)) (s : ℕ) where
  -- What a value that is added to the section leaves of its blobs at each moment.
  pub record ValueMoments (spelled : List ℕ) (a b : Timeline) : Type 0 where
    pub moments : (u : WriteBlob) → p.values.held s ≡ Some u → AllMoments (key_of p.values s)
        (Outlasts (settled_bytes u (disk a (key_of p.values s)).content) (content_of u (disk a (key_of p.values s)).content ++ frame p.layout.seal spelled)) a b
    pub made : p.values.held s ≡ None → AllMoments (key_of p.values s) (IsBeginning (frame p.layout.seal spelled) (disk a (key_of p.values s))) a b

  -- and a record
  pub record RecordMoments (r : List ℕ) (a b : Timeline) : Type 0 where
    pub alone : Alone (key_of p.index.sections s) a b
    pub moments : (u : PageBlob S gs) → p.index.sections.held s ≡ Some u → IsSealed p.layout.seal (shown u) (disk a (key_of p.index.sections s)) → pages.Sealing p.layout.seal u.page_size (fixed.section_bytes p.index.sections (disk a) s ++ r) u.settled (key_of p.index.sections s) a b
    pub made : p.index.sections.held s ≡ None → AllMoments (key_of p.index.sections s) (IsBeginningIndex p.layout.seal p.layout.page_size r (disk a (key_of p.index.sections s))) a b

  -- no other blob changes
  pub value_alone : (spelled : List ℕ) (a b : Timeline) → ValueMoments spelled a b → Always a b (λ d. (q : Key) → q ≢ key_of p.values s → d q ≡ disk a q)
  value_alone spelled a b is = elim (none_or_value (p.values.held s)) [
    | inl none ↦ alone (IsBeginning (frame p.layout.seal spelled) (disk a (key_of p.values s))) (is.made none)
    | inr some ↦ alone (Outlasts (settled_bytes some.0 (disk a (key_of p.values s)).content) (content_of some.0 (disk a (key_of p.values s)).content ++ frame p.layout.seal spelled)) (is.moments some.0 some.1)
  ]
    where
      alone : (Q : Blob → Type 0) → Always a b (OnlyAt (key_of p.values s) (disk a) Q) → Always a b (λ d. (q : Key) → q ≢ key_of p.values s → d q ≡ disk a q)
      alone Q = always_weaker a b (OnlyAt (key_of p.values s) (disk a) Q) (λ d. (q : Key) → q ≢ key_of p.values s → d q ≡ disk a q) (λ d only. only.others)

  pub record_alone : (r : List ℕ) (a b : Timeline) → RecordMoments r a b → Always a b (λ d. (q : Key) → q ≢ key_of p.index.sections s → d q ≡ disk a q)
  record_alone r a b is = always_weaker a b (OnlyAt (key_of p.index.sections s) (disk a) (λ b. Unit {0})) (λ d. (q : Key) → q ≢ key_of p.index.sections s → d q ≡ disk a q)
      (λ d only. only.others) is.alone

  pub value_blobs : (spelled : List ℕ) (a b : Timeline) → ValueMoments spelled a b → (q : Key) → q ≢ key_of p.values s → disk b q ≡ disk a q
  value_blobs spelled a b is = always_now a b (λ d. (q : Key) → q ≢ key_of p.values s → d q ≡ disk a q) (value_alone spelled a b is)

  pub record_blobs : (r : List ℕ) (a b : Timeline) → RecordMoments r a b → (q : Key) → q ≢ key_of p.index.sections s → disk b q ≡ disk a q
  record_blobs r a b is = always_now a b (λ d. (q : Key) → q ≢ key_of p.index.sections s → d q ≡ disk a q) (record_alone r a b is)

  -- No blob but the section's two changes.
  abbrev pub Untouched : Disk → Disk → Type 0
  Untouched from d = (q : Key) → q ≢ key_of p.index.sections s → q ≢ key_of p.values s → d q ≡ from q

  pub untouched_value : (spelled : List ℕ) (a b : Timeline) → ValueMoments spelled a b → Always a b (Untouched (disk a))
  untouched_value spelled a b is = always_weaker a b (λ d. (q : Key) → q ≢ key_of p.values s → d q ≡ disk a q) (Untouched (disk a)) (λ d alone q no_record no_value. alone q no_value) (value_alone spelled a b is)

  pub untouched_record : (spelled r : List ℕ) (a b c : Timeline) → ValueMoments spelled a b → RecordMoments r b c → Always a c (Untouched (disk a))
  untouched_record spelled r a b c value item = always_then a b c (Untouched (disk a)) (untouched_value spelled a b value)
      (always_weaker b c (λ d. (q : Key) → q ≢ key_of p.index.sections s → d q ≡ disk b q) (Untouched (disk a))
      (λ d alone q no_record no_value. alone q no_record ∙ value_blobs spelled a b value q no_value) (record_alone r b c item))

  -- The section of these values has the value at its end.
  pub record GetsValue (takes : WriteFactory → Setting) (told : Type 0) (spelled : List ℕ) (m : Sections WriteFactory WriteBlob) (old new : OpenedList) (a b : Timeline) : Type 0 where
    pub over : IsGlob buffers takes told m new (disk b)
    pub bytes : told → glob.section_bytes m (disk b) s ≡ glob.section_bytes p.values (disk a) s ++ frame p.layout.seal spelled
    pub held : IsHeld m s
    pub settled : told ⊎ IsHeld p.values s → glob.settled_size m s ≡ glob.settled_size p.values s
    pub others : (q : ℕ) → q ≢ s → IsSame p.values m q
    pub other_bytes : told → (q : ℕ) → q ≢ s → glob.section_bytes m (disk b) q ≡ glob.section_bytes p.values (disk a) q
    pub bounds : SameBounds p.values m
    pub entries : OnlyOwnEntry (key_of p.values s) old new
    pub adds : told → ValueMoments spelled a b

  -- The section of this index has the record at its end.
  pub record GetsRecord (g : buffer.Ghosts (PageBlob S gs)) (gives : F → Setting) (told : Type 0) (r : List ℕ) (j : Lists F (PageBlob S gs)) (old new : OpenedList) (a b : Timeline) : Type 0 where
    pub over : IsJournal g gives p.layout.seal p.layout.record_size told j new (disk b)
    pub bytes : told → fixed.section_bytes j.sections (disk b) s ≡ fixed.section_bytes p.index.sections (disk a) s ++ r
    pub size : told ⊎ IsHeld p.index.sections s → fixed.section_size j.sections s ≡ fixed.section_size p.index.sections s + p.layout.record_size
    pub held : IsHeld j.sections s
    pub settled : (u v : PageBlob S gs) → p.index.sections.held s ≡ Some u → j.sections.held s ≡ Some v → v.settled ≡ u.settled
    pub others : (q : ℕ) → q ≢ s → IsSame p.index.sections j.sections q
    pub bounds : SameBounds p.index.sections j.sections
    pub unrecovered : (q : ℕ) → j.unrecovered q ≡ p.index.unrecovered q
    pub floors : (q : ℕ) → j.floor_of q ≡ p.index.floor_of q
    pub entries : OnlyOwnEntry (key_of p.index.sections s) old new
    pub adds : told → RecordMoments r a b

-- a section's bytes stay where its buffer and its blob do
pub index_bytes_stay : {F S : Type 0} {gs : _} (m n : Sections F (PageBlob S gs)) (d e : Disk) (s : ℕ) → n.held s ≡ m.held s → (IsHeld m s → e (key_of n s) ≡ d (key_of m s)) → fixed.section_bytes n e s ≡ fixed.section_bytes m d s
index_bytes_stay {S = S} {gs = gs} m n d e s same blob = elim (none_or_value (m.held s)) [
  | inl none ↦ at None none (same ∙ none) refl
  | inr some ↦ at (Some some.0) some.1 (same ∙ some.1) (ap (λ (b : Blob). bytes_of (shown some.0) b.content) (blob (subst IsSome (sym some.1) refl)))
]
  where
    at : (o : Option (PageBlob S gs)) → m.held s ≡ o → n.held s ≡ o → fixed.bytes_held o (e (key_of n s)).content ≡ fixed.bytes_held o (d (key_of m s)).content → fixed.section_bytes n e s ≡ fixed.section_bytes m d s
    at o of_m of_n bytes = ap (λ (x : Option (PageBlob S gs)). fixed.bytes_held x (e (key_of n s)).content) of_n ∙ bytes ∙ ap (λ (x : Option (PageBlob S gs)). fixed.bytes_held x (d (key_of m s)).content) (sym of_m)

-- more bytes have as many records, or more
more_records : (n size synced : ℕ) → 1 ≤ size → synced ≤ n / size → synced ≤ (n + size) / size
more_records n size synced pos few = omega (arith, few, le-div (n / size) (n + size) size (omega (arith, pos)) (omega (arith, div-add-mod' n size)))

module _ {F S : Type 0} {gs : _} {g : buffer.Ghosts (PageBlob S gs)} {gives : F → Setting} {takes : WriteFactory → Setting} {told : Type 0}
    (p : Pair F (PageBlob S gs)) (opened : OpenedList) (a : Timeline) (pair : IsPair g gives buffers takes told p opened (disk a)) (laid : IsLaid g gives p) where
  -- what is known of the pair's sections
  abbrev pub facts : ℕ → Facts
  facts = facts_of p.layout p.index p.values (synced_length p) (disk a)

  -- the key of a section's index blob is none of a value blob
  other_index : (s t : ℕ) → key_of p.index.sections s ≢ key_of p.values t
  other_index s t e = pair.apart.values (sym laid.index ∙ ap (λ (k : Key). k.0) e ∙ laid.values)

  other_values : (s t : ℕ) → key_of p.values s ≢ key_of p.index.sections t
  other_values s t e = other_index t s (sym e)

  -- the markers' blobs are none of both
  copy_index : (side : Side) (t : ℕ) → blob_of p.store.partition side ≢ key_of p.index.sections t
  copy_index side t e = pair.apart.metadata (sym laid.index ∙ sym (ap (λ (k : Key). k.0) e) ∙ laid.store)

  copy_values : (side : Side) (t : ℕ) → blob_of p.store.partition side ≢ key_of p.values t
  copy_values side t e = pair.apart.both (sym laid.values ∙ sym (ap (λ (k : Key). k.0) e) ∙ laid.store)

  -- an index blob is none that a value changes, and a value blob none that a record changes
  not_value : (P : ℕ → Type 0) (s : ℕ) (q : Key) → IsIndexOf p.layout P q → q ≢ key_of p.values s
  not_value P s q is e = pair.apart.values (ap (λ (k : Key). k.0) (sym is.3 ∙ e) ∙ laid.values)

  not_record : (P : ℕ → Type 0) (s : ℕ) (q : Key) → IsValuesOf p.layout P q → q ≢ key_of p.index.sections s
  not_record P s q is e = pair.apart.values (sym laid.index ∙ sym (ap (λ (k : Key). k.0) (sym is.3 ∙ e)))

  module _ (P : ℕ → Type 0) (s : ℕ) (spelled : List ℕ) (b : Timeline) (value : ValueMoments p s spelled a b) where
    -- No index blob changes with a value.
    pub value_order : InOrder (IsValuesOf p.layout P) (IsIndexOf p.layout P) a b
    value_order = always_weaker a b (λ d. (q : Key) → q ≢ key_of p.values s → d q ≡ disk a q)
        (λ d. ((q : Key) → IsIndexOf p.layout P q → d q ≡ disk a q) ⊎ ((q : Key) → IsValuesOf p.layout P q → d q ≡ disk b q))
        (λ d alone. inl (λ q is. alone q (not_value P s q is))) (value_alone p s spelled a b value)

    -- and no value blob with the record behind it
    pub record_order : (r : List ℕ) (c : Timeline) → RecordMoments p s r b c → InOrder (IsValuesOf p.layout P) (IsIndexOf p.layout P) a c
    record_order r c item = always_then a b c InStep
        (always_weaker a b (λ d. (q : Key) → q ≢ key_of p.values s → d q ≡ disk a q) InStep (λ d alone. inl (λ q is. alone q (not_value P s q is))) (value_alone p s spelled a b value))
        (always_weaker b c (λ d. (q : Key) → q ≢ key_of p.index.sections s → d q ≡ disk b q) InStep
        (λ d alone. inr (λ q is. alone q (not_record P s q is) ∙ sym (record_blobs p s r b c item q (not_record P s q is)))) (record_alone p s r b c item))
      where
        InStep : Disk → Type 0
        InStep d = ((q : Key) → IsIndexOf p.layout P q → d q ≡ disk a q) ⊎ ((q : Key) → IsValuesOf p.layout P q → d q ≡ disk c q)

  -- No blob changed but value blobs: the index is what it was.
  pub index_on : (s : ℕ) (new : OpenedList) (e : Disk) → OnlyOwnEntry (key_of p.values s) opened new → (told → (q : Key) → q ≢ key_of p.values s → e q ≡ disk a q)
      → IsJournal g gives p.layout.seal p.layout.record_size told p.index new e
  index_on s new e entries blobs = journal_stays p.layout.seal p.layout.record_size p.index opened new (disk a) e
      (λ t small. entries (key_of p.index.sections t) (other_index t s)) (λ tells t small. blobs tells (key_of p.index.sections t) (other_index t s)) pair.index

  -- A value leaves the bytes of its section's records, and a record those of its values.
  pub index_bytes_on : (s : ℕ) (spelled : List ℕ) (b : Timeline) → ValueMoments p s spelled a b → fixed.section_bytes p.index.sections (disk b) s ≡ fixed.section_bytes p.index.sections (disk a) s
  index_bytes_on s spelled b value = ap (λ (x : Blob). fixed.bytes_held (p.index.sections.held s) x.content) (value_blobs p s spelled a b value (key_of p.index.sections s) (other_index s s))

  pub values_bytes_on : (s : ℕ) (m : Sections WriteFactory WriteBlob) → SameBounds p.values m → (r : List ℕ) (b c : Timeline) → RecordMoments p s r b c → glob.section_bytes m (disk c) s ≡ glob.section_bytes m (disk b) s
  values_bytes_on s m bounds r b c item = ap (λ (x : Blob). glob.bytes_held (m.held s) x.content)
      (record_blobs p s r b c item (key_of m s) (λ e. other_values s s (ap (λ (l : List ℕ). section_key l s) (sym bounds.place.partition) ∙ e)))

  -- A value and then its record were added to a section: of all others the bytes are as they were.
  module _ (s : ℕ) (small : s < 2 ^ 64) (spelled r : List ℕ) (m : Sections WriteFactory WriteBlob) (j : Lists F (PageBlob S gs)) (new last : OpenedList) (b c : Timeline)
      (value : GetsValue p s takes told spelled m opened new a b) (item : GetsRecord p s g gives told r j new last b c) (t : told) where
    values_on : (q : ℕ) → disk c (key_of m q) ≡ disk b (key_of m q)
    values_on q = record_blobs p s r b c (item.adds t) (key_of m q) (λ e. other_values q s (ap (λ (l : List ℕ). section_key l q) (sym value.bounds.place.partition) ∙ e))

    other_index_now : (q : ℕ) → q ≢ s → fixed.section_bytes j.sections (disk c) q ≡ (facts q).index
    other_index_now q other = index_bytes_stay p.index.sections j.sections (disk a) (disk c) q (item.others q other).held (λ held.
        ap (λ (l : List ℕ). disk c (section_key l q)) item.bounds.place.partition
        ∙ record_blobs p s r b c (item.adds t) (key_of p.index.sections q) (keys_differ p.index.sections.partition q s (pair.index.over.opened_list.number q (inl held)) small other)
        ∙ value_blobs p s spelled a b (value.adds t) (key_of p.index.sections q) (other_index q s))

    other_values_now : (q : ℕ) → q ≢ s → glob.section_bytes m (disk c) q ≡ (facts q).values
    other_values_now q other = ap (λ (x : Blob). glob.bytes_held (m.held q) x.content) (values_on q) ∙ value.other_bytes t q other

    pub other_list_now : (q : ℕ) → q ≢ s → entries_of p.layout.place p.layout.record_size (fixed.section_bytes j.sections (disk c) q) (glob.section_bytes m (disk c) q) ≡ list_of p (disk a) q
    other_list_now q other =
        ap (λ (l : List ℕ). entries_of p.layout.place p.layout.record_size l (glob.section_bytes m (disk c) q)) (other_index_now q other) ∙ ap (entries_of p.layout.place p.layout.record_size (facts q).index) (other_values_now q other)

  module _ (t : told) (sound : IsSoundOn p (disk a)) where
    pub parts : Parts p.layout p.index p.values (synced_length p) (disk a) g gives takes told p.store opened
    parts = record {
      journal = pair.index;
      values = pair.values;
      store = (pair.disk t).markers;
      proven = proven_of pair.whole;
      index_here = laid.index;
      values_here = laid.values;
      store_here = laid.store;
      is_marked = laid.marked;
      paged = λ s u held. sym (laid.pages.page_size u) ∙ ap (λ (x : Setting). x.page_size) (pair.index.over.opened_list.setting s u held) ∙ laid.paged;
      absent = sound.absent;
      marked = pair.markers.marked;
      good = λ s. record {
        places = sound.places s;
        sound = sound.sound s;
        index_settled = pair.settled.index s;
        values_settled = sound.values_settled s;
        lengths = pair.settled.lengths s;
      };
    }

    pub good : (s : ℕ) → AreGood p.layout (facts s)
    good = good_of p.layout p.index p.values (synced_length p) (disk a) p.store opened laid.pos parts t

    within : (s : ℕ) → (facts s).values_settled ≤ length (facts s).values
    within = values_within p.layout p.index p.values (synced_length p) (disk a) p.store opened laid.pos parts t

    tight : (s : ℕ) → (good s).end ≡ length (facts s).values
    unfolding good
    tight = tight_of p.layout p.index p.values (synced_length p) (disk a) p.store opened laid.pos parts t

    few : (s : ℕ) → (facts s).synced ≤ length (records p.layout.record_size (facts s).index)
    few = few_of p.layout p.index p.values (synced_length p) (disk a) p.store opened laid.pos parts t

    -- how its blobs stand
    standing : HasNoFloor (contents_of p.store) → Holding p.layout facts (λ _. ⊥) (contents_of p.store) (contents_of p.store) (disk a)
    standing no_floor = holding_of p.layout p.index p.values (synced_length p) (disk a) p.store opened laid.pos parts t no_floor (λ _. ⊥)

    -- While nothing changes, the pair keeps its lists, and so longer ones.
    pub still_keeps : HasNoFloor (contents_of p.store) → (extra : ℕ → List Entry) (MayTouch : Key → Type 0) → Keeping p.layout (λ s. list_of p (disk a) s ++ extra s) (synced_length p) (λ _. ⊥) MayTouch a a
    still_keeps no_floor extra MayTouch = keeping_of p.layout laid.pos facts (λ _. ⊥) (λ _. ⊥) (contents_of p.store) (contents_of p.store) MayTouch (λ s. list_of p (disk a) s ++ extra s) (synced_length p) a a good
        (λ s. take-append_seam (list_in p.layout (facts s)) (extra s)) (λ s. omega arith) (λ s gone. gone)
        (always_start a (Stays p.layout facts (λ _. ⊥) (contents_of p.store) (contents_of p.store) MayTouch (disk a)) (record { holding = standing no_floor; others = λ q not. refl }))

    -- A value is added to a section.
    module _ (s : ℕ) (small : s < 2 ^ 64) (spelled : List ℕ) (b : Timeline) (adds : ValueMoments p s spelled a b) where
      -- the section with the value
      abbrev longer : Facts
      longer = lengthened p.layout (facts s) (good s) (frame p.layout.seal spelled)

      -- What has settled of the values outlasts, or no crash leaves a record.
      abbrev pub Added : Blob → Type 0
      Added x = ValuesStand p.layout longer x ⊎ LeavesNoRecords p.layout (disk a (section_key p.layout.index s))

      held_stand : (u : WriteBlob) (x : Blob) → p.values.held s ≡ Some u
          → Outlasts (settled_bytes u (disk a (key_of p.values s)).content) (content_of u (disk a (key_of p.values s)).content ++ frame p.layout.seal spelled) x → ValuesStand p.layout longer x
      held_stand u x held outlasts =
          let content : List ℕ = (disk a (key_of p.values s)).content in
          let is : Outlasts (take (facts s).values_settled (facts s).values) ((facts s).values ++ frame p.layout.seal spelled) x =
          subst (λ (o : Option WriteBlob). Outlasts (take (glob.settled_held o) (glob.bytes_held o content)) (glob.bytes_held o content ++ frame p.layout.seal spelled) x) (sym held) outlasts in
          values_of p.layout longer x (subst (λ (l : List ℕ). Outlasts l longer.values x) (sym (take-append-le (facts s).values_settled (facts s).values (frame p.layout.seal spelled) (within s))) is)

      pub values_added : Always a b (OnlyAt (section_key p.layout.values s) (disk a) Added)
      values_added = subst (λ (l : List ℕ). Always a b (OnlyAt (section_key l s) (disk a) Added)) laid.values (elim (none_or_value (p.values.held s)) [
        | inl none ↦ only_weaker a b (key_of p.values s) (disk a) (IsBeginning (frame p.layout.seal spelled) (disk a (key_of p.values s))) Added
            (λ x _. inr (no_records_left p.layout p.index p.values (synced_length p) (disk a) p.store opened laid.pos parts t s small none)) (adds.made none)
        | inr some ↦ only_weaker a b (key_of p.values s) (disk a)
            (Outlasts (settled_bytes some.0 (disk a (key_of p.values s)).content) (content_of some.0 (disk a (key_of p.values s)).content ++ frame p.layout.seal spelled)) Added
            (λ x outlasts. inl (held_stand some.0 x some.1 outlasts)) (adds.moments some.0 some.1)
      ])

      -- the pair keeps its lists with these entries at the section's end
      abbrev pub KeepsWith : List Entry → Timeline → Type 0
      KeepsWith extra c = Keeping p.layout (λ q. list_of p (disk a) q ++ (if eqb q s then extra else [])) (synced_length p) (λ _. ⊥) (λ q. IsIndexOf p.layout (λ k. k ≡ s) q ⊎ IsValuesOf p.layout (λ k. k ≡ s) q) a c

      -- While the value is added it keeps its lists.
      pub value_keeps : HasNoFloor (contents_of p.store) → (extra : List Entry) → KeepsWith extra b
      value_keeps no_floor extra = append_values p.layout laid.pos pair.apart.values pair.apart.metadata pair.apart.both facts good within s small longer
          (lengthen_good p.layout (facts s) (good s) (frame p.layout.seal spelled)) (lengthen_more p.layout (facts s) (good s) (frame p.layout.seal spelled) (within s)) extra
          (ap (λ (l : List Entry). take (length l) (list_in p.layout (facts s) ++ extra)) (lengthen_list p.layout (facts s) (good s) (frame p.layout.seal spelled))
          ∙ take-append_seam (list_in p.layout (facts s)) extra ∙ sym (lengthen_list p.layout (facts s) (good s) (frame p.layout.seal spelled)))
          (λ _. ⊥) (contents_of p.store) a b (standing no_floor) Added values_added (λ x is. is)

      -- A record that names the value's frame is added behind the section's records.
      module _ (r : List ℕ) (fits : p.layout.seal spelled < 2 ^ 32) (long : length r ≡ p.layout.record_size) (names : p.layout.place r ≡ (glob.section_size p.values s, length (frame p.layout.seal spelled))) where
        pub whole : length (facts s).index % p.layout.record_size ≡ 0
        whole = whole_of p.layout p.index p.values (synced_length p) (disk a) p.store opened laid.pos parts t s

        pub here : p.layout.place r ≡ (length (facts s).values, length (frame p.layout.seal spelled))
        here = names ∙ ap (λ (n : ℕ). (n, length (frame p.layout.seal spelled))) (sym (section_counted takes p.values opened (disk a) pair.values t s))

        -- the section with both
        abbrev pub grown : Facts
        grown = appended p.layout laid.pos (facts s) (good s) r spelled fits whole long here

        grown_good : AreGood p.layout grown
        grown_good = append_good p.layout laid.pos (facts s) (good s) r spelled fits whole long here (tight s) (few s)

        grown_tight : grown_good.end ≡ length grown.values
        unfolding grown_good
        grown_tight = append_tight p.layout laid.pos (facts s) (good s) r spelled fits whole long here (tight s) (few s)

        -- the record with its value
        abbrev pub entry : List Entry
        entry = record { stored = r; value = spelled } ∷ []

        grown_list : list_in p.layout grown ≡ list_of p (disk a) s ++ entry
        grown_list = append_list p.layout laid.pos (facts s) (good s) r spelled fits whole long here

        -- the index blob is as it was while the value was added
        index_blob : disk b (key_of p.index.sections s) ≡ disk a (key_of p.index.sections s)
        index_blob = value_blobs p s spelled a b adds (key_of p.index.sections s) (other_index s s)

        pub index_bytes : fixed.section_bytes p.index.sections (disk b) s ≡ (facts s).index
        index_bytes = ap (λ (x : Blob). fixed.bytes_held (p.index.sections.held s) x.content) index_blob

        stands_on : (x : Blob) → Added x → ValuesStand p.layout grown x ⊎ LeavesNoRecords p.layout (disk a (section_key p.layout.index s))
        stands_on x (inl stand) = inl (record { kept = stand.kept; prefixes = stand.prefixes })
        stands_on x (inr none) = inr none

        module _ (m : Sections WriteFactory WriteBlob) (old new : OpenedList) (value : GetsValue p s takes told spelled m old new a b) where
          values_stood : ValuesStand p.layout grown (disk b (section_key p.layout.values s))
          values_stood =
              let v = held_some (m.held s) value.held in
              let content : List ℕ = (disk b (key_of m s)).content in
              let is : Outlasts (take (glob.settled_size m s) (glob.section_bytes m (disk b) s)) (glob.section_bytes m (disk b) s) (disk b (key_of m s)) =
              subst (λ (o : Option WriteBlob). Outlasts (take (glob.settled_held o) (glob.bytes_held o content)) (glob.bytes_held o content) (disk b (key_of m s))) (sym v.1) (glob_outlasts m new (disk b) value.over t s v.0 v.1) in
              let settled : Outlasts (take grown.values_settled (glob.section_bytes m (disk b) s)) (glob.section_bytes m (disk b) s) (disk b (key_of m s)) =
              subst (λ (n : ℕ). Outlasts (take n (glob.section_bytes m (disk b) s)) (glob.section_bytes m (disk b) s) (disk b (key_of m s))) (value.settled (inl t)) is in
              values_of p.layout grown (disk b (section_key p.layout.values s))
              (subst (λ (l : List ℕ). Outlasts (take grown.values_settled grown.values) grown.values (disk b (section_key l s))) (value.bounds.place.partition ∙ laid.values)
              (subst (λ (l : List ℕ). Outlasts (take grown.values_settled l) l (disk b (key_of m s))) (value.bytes t) settled))

          module _ (c : Timeline) (item : RecordMoments p s r b c) where
            lasts_held : (u : PageBlob S gs) (x : Blob) → p.index.sections.held s ≡ Some u → pages.Leaves p.layout.seal u.page_size (fixed.section_bytes p.index.sections (disk b) s ++ r) u.settled x → IsLasting p.layout grown x
            lasts_held u x held leaves =
                subst (λ (o : Option (PageBlob S gs)). pages.Leaves p.layout.seal p.layout.page_size grown.index (settled_held o) x) (sym held)
                (subst (λ (P : ℕ). pages.Leaves p.layout.seal P grown.index u.settled x) (parts.paged s u held)
                (subst (λ (l : List ℕ). pages.Leaves p.layout.seal u.page_size (l ++ r) u.settled x) index_bytes leaves))

            lasts_made : (x : Blob) → p.index.sections.held s ≡ None → pages.Leaves p.layout.seal p.layout.page_size r 0 x → IsLasting p.layout grown x
            lasts_made x none leaves = subst (λ (o : Option (PageBlob S gs)). pages.Leaves p.layout.seal p.layout.page_size (fixed.bytes_held o (disk a (key_of p.index.sections s)).content ++ r) (settled_held o) x) (sym none) leaves

            begins : (x : Blob) → p.index.sections.held s ≡ None → IsBeginningIndex p.layout.seal p.layout.page_size r (disk b (key_of p.index.sections s)) x → IsLasting p.layout grown x ⊎ (longest x ≡ 0)
            begins x none (inl opening) = inr (opening_bare (disk b (key_of p.index.sections s)) x
                (ap (λ (y : Blob). y.there) index_blob ∙ not_there p.index.sections opened (disk a) pair.index.over t s small none (pair.whole.index_known s))
                (ap longest index_blob ∙ ap (λ (l : List ℕ). longest (disk a (section_key l s))) laid.index ∙ parts.absent s small none) opening)
            begins x none (inr leaves) = inl (lasts_made x none leaves)

            unmarked : p.index.sections.held s ≡ None → (n : ℕ) → IsMarked p.store.entries s n → ⊥
            unmarked none n is = cc (subst IsSome none (parts.marked s n is).0)

            -- So do both, the record after its value.
            pub record_keeps : HasNoFloor (contents_of p.store) → KeepsWith entry c
            record_keeps no_floor = elim (none_or_value (p.index.sections.held s)) [
              | inl none ↦ append_made p.layout laid.pos pair.apart.values pair.apart.metadata pair.apart.both facts good within s small grown grown_good
                  (append_more p.layout laid.pos (facts s) (good s) r spelled fits whole long here (within s)) entry (append_prefix p.layout laid.pos (facts s) (good s) r spelled fits whole long here)
                  (λ _. ⊥) (contents_of p.store) a b (standing no_floor) (Added) (values_added) stands_on c values_stood
                  (IsBeginningIndex p.layout.seal p.layout.page_size r (disk b (key_of p.index.sections s)))
                  (subst (λ (l : List ℕ). Always b c (OnlyAt (section_key l s) (disk b) (IsBeginningIndex p.layout.seal p.layout.page_size r (disk b (key_of p.index.sections s))))) laid.index (item.made none))
                  (unheld p.layout p.index p.values (synced_length p) (disk a) p.store opened laid.pos parts s none) (unmarked none) (λ x is. begins x none is)
              | inr some ↦ append_held p.layout laid.pos pair.apart.values pair.apart.metadata pair.apart.both facts good within s small grown grown_good
                  (append_more p.layout laid.pos (facts s) (good s) r spelled fits whole long here (within s)) entry (append_prefix p.layout laid.pos (facts s) (good s) r spelled fits whole long here)
                  (λ _. ⊥) (contents_of p.store) a b (standing no_floor) (Added) (values_added) stands_on c values_stood
                  (pages.Leaves p.layout.seal some.0.page_size (fixed.section_bytes p.index.sections (disk b) s ++ r) some.0.settled)
                  (subst (λ (l : List ℕ). Always b c (OnlyAt (section_key l s) (disk b) (pages.Leaves p.layout.seal some.0.page_size (fixed.section_bytes p.index.sections (disk b) s ++ r) some.0.settled))) laid.index (item.moments some.0 some.1 (subst (IsSealed p.layout.seal (shown some.0)) (sym index_blob) ((pair.index.disk t).sealed s some.0 some.1 (proven_of pair.whole s)))))
                  (λ x is. lasts_held some.0 x some.1 is)
            ]

            -- the record being spelled otherwise
            pub record_keeps_as : HasNoFloor (contents_of p.store) → (stored : List ℕ) → r ≡ stored → KeepsWith (record { stored = stored; value = spelled } ∷ []) c
            record_keeps_as no_floor stored same = subst (λ (x : List ℕ). KeepsWith (record { stored = x; value = spelled } ∷ []) c) same (record_keeps no_floor)

        -- What the section is after both.
        module _ (m : Sections WriteFactory WriteBlob) (new last : OpenedList) (value : GetsValue p s takes told spelled m opened new a b) (j : Lists F (PageBlob S gs)) (c : Timeline) (item : GetsRecord p s g gives told r j new last b c) where
          index_now : fixed.section_bytes j.sections (disk c) s ≡ grown.index
          index_now = item.bytes t ∙ ap (λ (l : List ℕ). l ++ r) index_bytes

          values_now : glob.section_bytes m (disk c) s ≡ grown.values
          values_now = ap (λ (x : Blob). glob.bytes_held (m.held s) x.content) (values_on s small spelled r m j new last b c value item t s) ∙ value.bytes t

          pub list_now : entries_of p.layout.place p.layout.record_size (fixed.section_bytes j.sections (disk c) s) (glob.section_bytes m (disk c) s) ≡ list_of p (disk a) s ++ entry
          list_now = ap (λ (l : List ℕ). entries_of p.layout.place p.layout.record_size l (glob.section_bytes m (disk c) s)) index_now ∙ ap (entries_of p.layout.place p.layout.record_size grown.index) values_now ∙ grown_list

          pub list_now_as : (stored : List ℕ) → r ≡ stored
              → entries_of p.layout.place p.layout.record_size (fixed.section_bytes j.sections (disk c) s) (glob.section_bytes m (disk c) s) ≡ list_of p (disk a) s ++ record { stored = stored; value = spelled } ∷ []
          list_now_as stored same = list_now ∙ ap (λ (x : List ℕ). list_of p (disk a) s ++ record { stored = x; value = spelled } ∷ []) same

          -- a section of which these facts are known
          module _ (over : IsGlob buffers takes told m last (disk c)) where
            module _ (q : ℕ) (f : Facts) (is_good : AreGood p.layout f) (ends : is_good.end ≡ length f.values) (index_is : fixed.section_bytes j.sections (disk c) q ≡ f.index) (values_are : glob.section_bytes m (disk c) q ≡ f.values) where
              places_at : Follow p.layout.place 0 (records p.layout.record_size (fixed.section_bytes j.sections (disk c) q)) (glob.section_size m q)
              places_at = subst (Follow p.layout.place 0 (records p.layout.record_size (fixed.section_bytes j.sections (disk c) q)))
                  (ends ∙ ap length (sym values_are) ∙ section_counted takes m last (disk c) over t q)
                  (subst (λ (l : List ℕ). Follow p.layout.place 0 (records p.layout.record_size l) is_good.end) (sym index_is) is_good.follow)

              sound_at : AllByRecursion (λ x. IsTrue (is_sound p.layout.seal (glob.section_bytes m (disk c) q) (p.layout.place x))) (records p.layout.record_size (fixed.section_bytes j.sections (disk c) q))
              sound_at = subst (λ (l : List ℕ). AllByRecursion (λ x. IsTrue (is_sound p.layout.seal (glob.section_bytes m (disk c) q) (p.layout.place x))) (records p.layout.record_size l)) (sym index_is)
                  (subst (λ (l : List ℕ). AllByRecursion (λ x. IsTrue (is_sound p.layout.seal l (p.layout.place x))) (records p.layout.record_size f.index)) (sym values_are) is_good.sound)

              settled_at : f.synced ≡ synced_length p q → f.values_settled ≡ glob.settled_size m q
                  → end_of p.layout.place 0 (take (synced_length p q) (records p.layout.record_size (fixed.section_bytes j.sections (disk c) q))) ≤ glob.settled_size m q
              settled_at synced settled = subst (λ (n : ℕ). end_of p.layout.place 0 (take (synced_length p q) (records p.layout.record_size (fixed.section_bytes j.sections (disk c) q))) ≤ n) settled
                  (subst (λ (n : ℕ). end_of p.layout.place 0 (take n (records p.layout.record_size (fixed.section_bytes j.sections (disk c) q))) ≤ f.values_settled) synced
                  (subst (λ (l : List ℕ). end_of p.layout.place 0 (take f.synced (records p.layout.record_size l)) ≤ f.values_settled) (sym index_is) is_good.values_settled))

            pub places_now : (q : ℕ) → Follow p.layout.place 0 (records p.layout.record_size (fixed.section_bytes j.sections (disk c) q)) (glob.section_size m q)
            places_now q = elim (cases_eq q s) [
              | inl is ↦ subst (λ (k : ℕ). Follow p.layout.place 0 (records p.layout.record_size (fixed.section_bytes j.sections (disk c) k)) (glob.section_size m k)) (sym is) (places_at s grown grown_good grown_tight index_now values_now)
              | inr other ↦ places_at q (facts q) (good q) (tight q) (other_index_now s small spelled r m j new last b c value item t q other) (other_values_now s small spelled r m j new last b c value item t q other)
            ]

            pub sound_now : (q : ℕ) → AllByRecursion (λ x. IsTrue (is_sound p.layout.seal (glob.section_bytes m (disk c) q) (p.layout.place x))) (records p.layout.record_size (fixed.section_bytes j.sections (disk c) q))
            sound_now q = elim (cases_eq q s) [
              | inl is ↦ subst (λ (k : ℕ). AllByRecursion (λ x. IsTrue (is_sound p.layout.seal (glob.section_bytes m (disk c) k) (p.layout.place x))) (records p.layout.record_size (fixed.section_bytes j.sections (disk c) k))) (sym is)
                  (sound_at s grown grown_good grown_tight index_now values_now)
              | inr other ↦ sound_at q (facts q) (good q) (tight q) (other_index_now s small spelled r m j new last b c value item t q other) (other_values_now s small spelled r m j new last b c value item t q other)
            ]

            pub settled_now : (q : ℕ) → end_of p.layout.place 0 (take (synced_length p q) (records p.layout.record_size (fixed.section_bytes j.sections (disk c) q))) ≤ glob.settled_size m q
            settled_now q = elim (cases_eq q s) [
              | inl is ↦ subst (λ (k : ℕ). end_of p.layout.place 0 (take (synced_length p k) (records p.layout.record_size (fixed.section_bytes j.sections (disk c) k))) ≤ glob.settled_size m k) (sym is)
                  (settled_at s grown grown_good grown_tight index_now values_now refl (sym (value.settled (inl t))))
              | inr other ↦ settled_at q (facts q) (good q) (tight q) (other_index_now s small spelled r m j new last b c value item t q other) (other_values_now s small spelled r m j new last b c value item t q other) refl (ap glob.settled_held (sym (value.others q other).held))
            ]

  -- The pair may be used again.
  module _ (s : ℕ) (small : s < 2 ^ 64) (spelled r : List ℕ) (m : Sections WriteFactory WriteBlob) (j : Lists F (PageBlob S gs)) (new last : OpenedList) (b c : Timeline)
      (value : GetsValue p s takes told spelled m opened new a b) (item : GetsRecord p s g gives told r j new last b c) where
    -- a blob that is neither's is as it was
    kept_entry : (q : Key) → q ≢ key_of p.values s → q ≢ key_of p.index.sections s → last q ≡ opened q
    kept_entry q no_value no_record = item.entries q no_record ∙ value.entries q no_value

    kept_blob : told → (q : Key) → q ≢ key_of p.values s → q ≢ key_of p.index.sections s → disk c q ≡ disk a q
    kept_blob t q no_value no_record = record_blobs p s r b c (item.adds t) q no_record ∙ value_blobs p s spelled a b (value.adds t) q no_value

    values_key : (q : ℕ) → key_of m q ≢ key_of p.index.sections s
    values_key q e = other_values q s (ap (λ (l : List ℕ). section_key l q) (sym value.bounds.place.partition) ∙ e)

    pub glob_again : IsGlob buffers takes told m last (disk c)
    glob_again = glob_stays takes m new (disk b) value.over last (disk c)
        (λ q len small is. subst (λ (o : Option Opened). IsSomeAnd o (λ x. x.len ≡ len)) (sym (item.entries (key_of m q) (values_key q))) is)
        (λ t q small. record_blobs p s r b c (item.adds t) (key_of m q) (values_key q))

    index_held : (q : ℕ) → IsHeld p.index.sections q → IsHeld j.sections q
    index_held q held = elim (cases_eq q s) [
      | inl is ↦ subst (IsHeld j.sections) (sym is) item.held
      | inr other ↦ subst IsSome (sym (item.others q other).held) held
    ]

    -- nothing was synced of a section that is not held
    unsynced : (q : ℕ) → p.index.sections.held q ≡ None → synced_length p q ≡ 0
    unsynced q none = omega (arith, pair.settled.lengths q, ap (λ (o : Option (PageBlob S gs)). fixed.size_held o / p.layout.record_size) none, div_below 0 p.layout.record_size 1 (omega (arith, laid.pos)) (omega (arith, laid.pos)))

    settled_here : (u : PageBlob S gs) → j.sections.held s ≡ Some u → synced_length p s * p.layout.record_size ≤ u.settled
    settled_here u held = elim (none_or_value (p.index.sections.held s)) [
      | inl none ↦ omega (arith, ap (λ (n : ℕ). n * p.layout.record_size) (unsynced s none))
      | inr some ↦ omega (arith, pair.settled.index s some.0 some.1, item.settled some.0 u some.1 held)
    ]

    length_here : synced_length p s ≤ fixed.section_size j.sections s / p.layout.record_size
    length_here = elim (none_or_value (p.index.sections.held s)) [
      | inl none ↦ omega (arith, unsynced s none)
      | inr some ↦ subst (λ (n : ℕ). synced_length p s ≤ n / p.layout.record_size) (sym (item.size (inr (subst IsSome (sym some.1) refl))))
          (more_records (fixed.section_size p.index.sections s) p.layout.record_size (synced_length p s) laid.pos (pair.settled.lengths s))
    ]

    -- the pair with its new parts, its layout spelled out
    abbrev pub next : List ℕ → List ℕ → ℕ → Pair F (PageBlob S gs)
    next index values page_size = record p { layout = record p.layout { index = index; values = values; page_size = page_size }; index = j; values = m }

    module _ (index values : List ℕ) (page_size : ℕ) (same_index : index ≡ p.layout.index) (same_values : values ≡ p.layout.values) where
      whole_again : AreWhole (next index values page_size)
      whole_again = record {
        recovered = λ q. item.unrecovered q ∙ pair.whole.recovered q;
        unfloored = λ q. item.floors q ∙ pair.whole.unfloored q;
        index_ceiling = item.bounds.ceiling ∙ pair.whole.index_ceiling;
        values_ceiling = value.bounds.ceiling ∙ pair.whole.values_ceiling;
        index_known = λ q. elim (cases_eq q s) [
          | inl is ↦ subst (λ (k : ℕ). j.sections.unopened k ≡ None) (sym is) (item.over.over.opened_list.apart s item.held)
          | inr other ↦ (item.others q other).unopened ∙ pair.whole.index_known q
        ];
        values_known = λ q. elim (cases_eq q s) [
          | inl is ↦ subst (λ (k : ℕ). m.unopened k ≡ None) (sym is) (value.over.over.opened_list.apart s value.held)
          | inr other ↦ (value.others q other).unopened ∙ pair.whole.values_known q
        ];
        values_held = λ q held. elim (cases_eq q s) [
          | inl is ↦ subst (IsHeld j.sections) (sym is) item.held
          | inr other ↦ index_held q (pair.whole.values_held q (subst IsSome (value.others q other).held held))
        ];
        floors = omega (arith, value.bounds.floor, item.bounds.floor, pair.whole.floors);
      }

      settled_again : HasSettled (next index values page_size)
      settled_again = record {
        index = λ q u held. elim (cases_eq q s) [
          | inl is ↦ subst (λ (k : ℕ). synced_length p k * p.layout.record_size ≤ u.settled) (sym is) (settled_here u (subst (λ (k : ℕ). j.sections.held k ≡ Some u) is held))
          | inr other ↦ pair.settled.index q u (sym (item.others q other).held ∙ held)
        ];
        lengths = λ q. elim (cases_eq q s) [
          | inl is ↦ subst (λ (k : ℕ). synced_length p k ≤ fixed.section_size j.sections k / p.layout.record_size) (sym is) length_here
          | inr other ↦ subst (λ (o : Option (PageBlob S gs)). synced_length p q ≤ fixed.size_held o / p.layout.record_size) (sym (item.others q other).held) (pair.settled.lengths q)
        ];
      }

      absent_again : told → IsSoundOn p (disk a) → (q : ℕ) → q < 2 ^ 64 → j.sections.held q ≡ None → longest (disk c (section_key index q)) ≡ 0
      absent_again t sound q q_small none = elim (cases_eq q s) [
        | inl is ↦ absurd (cc (subst IsSome (subst (λ (k : ℕ). j.sections.held k ≡ None) is none) item.held))
        | inr other ↦
            let key : section_key index q ≡ key_of p.index.sections q = ap (λ (l : List ℕ). section_key l q) (same_index ∙ sym laid.index) in
            ap (λ (k : Key). longest (disk c k)) key
            ∙ ap longest (kept_blob t (key_of p.index.sections q) (other_index q s) (keys_differ p.index.sections.partition q s q_small small other))
            ∙ ap (λ (l : List ℕ). longest (disk a (section_key l q))) laid.index ∙ sound.absent q q_small (sym (item.others q other).held ∙ none)
      ]

      copy_entry : (side : Side) → last (blob_of p.store.partition side) ≡ opened (blob_of p.store.partition side)
      copy_entry side = kept_entry (blob_of p.store.partition side) (copy_values side s) (copy_index side s)

      copy_blob : told → (side : Side) → disk c (blob_of p.store.partition side) ≡ disk a (blob_of p.store.partition side)
      copy_blob t side = kept_blob t (blob_of p.store.partition side) (copy_values side s) (copy_index side s)

      pub pair_again : IsPair g gives buffers takes told (next index values page_size) last (disk c)
      pair_again = record {
        index = item.over;
        values = glob_again;
        apart = record {
          values = λ e. pair.apart.values (sym same_index ∙ e ∙ same_values);
          metadata = λ e. pair.apart.metadata (sym same_index ∙ e);
          both = λ e. pair.apart.both (sym same_values ∙ e);
        };
        whole = whole_again;
        markers = record {
          marked = λ q n is. (index_held q (pair.markers.marked q n is).0, (pair.markers.marked q n is).1);
          trails = λ q n is. (index_held q (pair.markers.trails q n is).0, (pair.markers.trails q n is).1);
        };
        settled = settled_again;
        metadata_opened = record {
          left = subst IsSome (sym (copy_entry Left)) pair.metadata_opened.left;
          right = subst IsSome (sym (copy_entry Right)) pair.metadata_opened.right;
        };
        storable = pair.storable;
        synced = pair.synced;
        disk = λ t. record {
          markers = stands_same p.layout.markers p.store (contents_of p.store) (disk a) (disk c) (copy_blob t Left) (copy_blob t Right) (pair.disk t).markers;
        };
      }

      -- so are its lists sound
      pub sound_again : told → IsSoundOn p (disk a) → p.layout.seal spelled < 2 ^ 32 → length r ≡ p.layout.record_size → p.layout.place r ≡ (glob.section_size p.values s, length (frame p.layout.seal spelled))
          → IsSoundOn (next index values page_size) (disk c)
      sound_again t sound fits long names = record {
        places = places_now t sound s small spelled b (value.adds t) r fits long names m new last value j c item glob_again;
        sound = sound_now t sound s small spelled b (value.adds t) r fits long names m new last value j c item glob_again;
        values_settled = settled_now t sound s small spelled b (value.adds t) r fits long names m new last value j c item glob_again;
        absent = absent_again t sound;
      }
