-- An archive to whose pair a record with its value was added, and to whose tables its row.
use Rattle.std.proofs.Common.{◌≡◌, ◌≢◌, ◌⊎◌, inl, inr, refl, sym, ◌∙◌, ap, subst, ℕ, ◌+◌, ◌/◌, ◌^◌, ◌<◌, ◌≤◌, List, [], ◌∷◌, ◌++◌, length, map, Bool, false, Option, IsTrue, arith, length-append}
use Rattle.std.specs.List.{AllByRecursion}
use Rattle.std.proofs.lemmas.List.{map-append}
use Rattle.blob_device.specs.Disk.{Disk}
use Rattle.blob_device.specs.Opened.{OpenedList}
use Rattle.value_codec.specs.declared.codec.Error as codec
use Rattle.sealed_pages.specs.declared.page_blob.PageBlob.{PageBlob}
use Rattle.section_manager.specs.Sections.{IsSame}
use Rattle.segments.specs.FixedLists as fixed
use Rattle.paired.specs.glob.Sections as glob
use Rattle.paired.specs.Pair.{Pair, IsPair, length_of, list_of, records_of, synced_length}
use Rattle.paired.specs.Records as stored
use Rattle.archives.specs.lemmas.put.Rows.{other_or_same}
use Rattle.paired.specs.lemmas.pair.Appending.{records-push}
use Rattle.paired.specs.lemmas.pair.Reads.{index_size}
use Rattle.paired.specs.lemmas.Records.{length-records}
use Rattle.ordinal_store.specs.Numbers.{AddsNumber}
use Rattle.archives.specs.Archives.{Archive, Buffers, IsArchive}
use Rattle.archives.specs.IndexRecord.{IsSpelled, index_record, index_of, key_of}
use Rattle.archives.specs.IndexRecordLaws.{index_of-index_record, key_of-index_record, length-index_record}
use Rattle.archives.specs.Machine.{section_of}
use Rattle.archives.specs.Rows.{HasRoom, Row, row_in}
use Rattle.archives.proofs.IndexSets.{row_added}
use Rattle.archives.proofs.ArchiveStands.{list_records}
use Rattle.archives.proofs.put.Rows.{few_now, few_sections_now}
use Rattle.blob_device.proofs.general.Lists.{all_push}
use Rattle.archives.specs.lemmas.put.Lemmas.{whole_bytes}

-- a section has as many records as it counts
record_counted : {F S : Type 0} {gs : _} (p : Pair F (PageBlob S gs)) (d : Disk) (s : ℕ) → length (records_of p d s) ≡ length_of p s
record_counted p d s = length-records p.layout.record_size _ ∙ ap (λ (n : ℕ). n / p.layout.record_size) (index_size p.index.sections d s)

module _ {F S : Type 0} {gs : _} (a : Archive F (PageBlob S gs)) (q : Pair F (PageBlob S gs)) (refusal : List ℕ → Option codec.Error) (rows : ℕ → List Row) (Tied : Type 0) (indices is_written : ℕ → Bool)
    (index sec : ℕ) (here : sec ≡ section_of a.items index) (key : List ℕ) (n : ℕ) (d e : Disk) where
  -- the archive with them
  abbrev pub grown : Archive F (PageBlob S gs)
  grown = record a { pair = q; refusal = refusal; rows = rows; Tied = Tied; indices = indices; is_written = is_written }

  -- the record, which names the place behind the section's values
  abbrev pub new_record : List ℕ
  new_record = index_record index key (glob.section_size a.pair.values sec) n

  abbrev pub new_row : Row
  new_row = record { index = index; key = key }

  -- What the calls of an append did, where memory has the row, and the disk, if it is told, the record.
  pub record Adds (told : Type 0) : Type 0 where
    pub record_size : q.layout.record_size ≡ a.pair.layout.record_size
    pub floor : q.index.sections.floor ≡ a.pair.index.sections.floor
    pub records : told → fixed.section_bytes q.index.sections e sec ≡ fixed.section_bytes a.pair.index.sections d sec ++ new_record
    pub other_lists : told → (s : ℕ) → s ≢ sec → list_of q e s ≡ list_of a.pair d s
    pub others : (s : ℕ) → s ≢ sec → IsSame a.pair.index.sections q.index.sections s × IsSame a.pair.values q.values s
    pub synced : (s : ℕ) → synced_length q s ≡ synced_length a.pair s
    pub row : rows sec ≡ a.rows sec ++ new_row ∷ []
    pub other_rows : (s : ℕ) → s ≢ sec → rows s ≡ a.rows s
    pub added : AddsNumber a.indices indices index
    pub above : a.floor ≤ sec
    pub written : (s : ℕ) → is_written s ≡ false → (s ≢ sec) × (a.is_written s ≡ false)
    pub written_now : (s : ℕ) → IsTrue (is_written s) → IsTrue (a.is_written s) ⊎ (s ≡ sec)
    pub tied : Tied
    pub small : index < 2 ^ 64
    pub sized : length key ≡ a.key_size
    pub long : a.pair.layout.record_size ≡ a.key_size + 20
    pub size : n < 2 ^ 32
    pub room : told → glob.section_size a.pair.values sec + n < 2 ^ 64

  module _ {bs : Buffers F (PageBlob S gs)} {told : Type 0} {opened : OpenedList}
      (archive : IsArchive a bs told opened d) (adds : Adds told) where
    long_record : length new_record ≡ a.pair.layout.record_size
    long_record = length-index_record a.key_size index key (glob.section_size a.pair.values sec) n adds.sized ∙ sym adds.long

    -- the section's records are those that it had, and this one
    pub records_now : told → records_of q e sec ≡ records_of a.pair d sec ++ new_record ∷ []
    records_now t =
        ap (λ (k : ℕ). stored.records k (fixed.section_bytes q.index.sections e sec)) adds.record_size ∙ ap (stored.records a.pair.layout.record_size) (adds.records t)
        ∙ records-push a.pair.layout.record_size (fixed.section_bytes a.pair.index.sections d sec) new_record (omega (arith, adds.long)) (whole_bytes a.pair opened d archive.pair t sec) long_record

    -- the others have those that they had
    pub other_records : told → (s : ℕ) → s ≢ sec → records_of q e s ≡ records_of a.pair d s
    other_records t s other = sym (list_records grown e s) ∙ ap (map (λ (x : stored.Entry). x.stored)) (adds.other_lists t s other) ∙ list_records a d s

    row_of_new : row_in a.key_size new_record ≡ new_row
    row_of_new =
        let i : index_of new_record ≡ index = index_of-index_record index key (glob.section_size a.pair.values sec) n adds.small in
        let k : key_of a.key_size new_record ≡ key = key_of-index_record a.key_size index key (glob.section_size a.pair.values sec) n adds.sized in
        λ j. record { index = i j; key = k j }

    listed_now : told → (s : ℕ) → rows s ≡ map (row_in a.key_size) (records_of q e s)
    listed_now t s = elim (other_or_same sec s) [
      | inl same ↦ subst (λ (u : ℕ). rows u ≡ map (row_in a.key_size) (records_of q e u)) (sym same)
          (adds.row ∙ ap (λ (rs : List Row). rs ++ new_row ∷ []) (archive.listed t sec) ∙ ap (λ (r : Row). map (row_in a.key_size) (records_of a.pair d sec) ++ r ∷ []) (sym row_of_new)
          ∙ sym (map-append (row_in a.key_size) (records_of a.pair d sec) (new_record ∷ [])) ∙ ap (map (row_in a.key_size)) (sym (records_now t)))
      | inr other ↦ adds.other_rows s other ∙ archive.listed t s ∙ ap (map (row_in a.key_size)) (sym (other_records t s other))
    ]

    spells_new : told → IsSpelled a.key_size new_record
    spells_new t = record {
      index = index;
      key = key;
      offset = glob.section_size a.pair.values sec;
      size = n;
      index_fits = adds.small;
      key_size = adds.sized;
      offset_fits = omega (arith, adds.room t);
      size_fits = adds.size;
      is = refl;
    }

    spelled_now : told → (s : ℕ) → AllByRecursion (IsSpelled a.key_size) (records_of q e s)
    spelled_now t s = elim (other_or_same sec s) [
      | inl same ↦ subst (λ (u : ℕ). AllByRecursion (IsSpelled a.key_size) (records_of q e u)) (sym same)
          (subst (AllByRecursion (IsSpelled a.key_size)) (sym (records_now t)) (all_push (IsSpelled a.key_size) (records_of a.pair d sec) new_record (archive.spelled t sec) (spells_new t)))
      | inr other ↦ subst (AllByRecursion (IsSpelled a.key_size)) (sym (other_records t s other)) (archive.spelled t s)
    ]

    in_section_now : (s : ℕ) → AllByRecursion (λ r. section_of a.items r.index ≡ s) (rows s)
    in_section_now s = elim (other_or_same sec s) [
      | inl same ↦ subst (λ (u : ℕ). AllByRecursion (λ r. section_of a.items r.index ≡ u) (rows u)) (sym same)
          (subst (AllByRecursion (λ r. section_of a.items r.index ≡ sec)) (sym adds.row) (all_push (λ r. section_of a.items r.index ≡ sec) (a.rows sec) new_row (archive.within.in_section sec) (sym here)))
      | inr other ↦ subst (AllByRecursion (λ r. section_of a.items r.index ≡ s)) (sym (adds.other_rows s other)) (archive.within.in_section s)
    ]

    written_rows : (s : ℕ) → IsTrue (is_written s) → rows s ≢ []
    written_rows s is none = elim (other_or_same sec s) [
      | inl same ↦ (let more : length (rows sec) ≡ length (a.rows sec) + 1 = ap length adds.row ∙ length-append (a.rows sec) (new_row ∷ []) in absurd (omega (arith, more, ap (λ (u : ℕ). length (rows u)) same, ap length none)))
      | inr other ↦ elim (adds.written_now s is) [
        | inl was ↦ archive.written s was (sym (adds.other_rows s other) ∙ none)
        | inr same ↦ other same
      ]
    ]

    other_length : (s : ℕ) → s ≢ sec → length_of q s ≡ length_of a.pair s
    other_length s other =
        ap (λ (o : Option (PageBlob S gs)). fixed.size_held o / q.layout.record_size) (adds.others s other).0.held ∙ ap (λ (k : ℕ). fixed.section_size a.pair.index.sections s / k) adds.record_size

    -- the section has one record more than it had
    length_now : told → length_of q sec ≡ length_of a.pair sec + 1
    length_now t = sym (record_counted q e sec) ∙ ap length (records_now t) ∙ length-append (records_of a.pair d sec) (new_record ∷ []) ∙ ap (λ (k : ℕ). k + 1) (record_counted a.pair d sec)

    unsynced_now : {now : OpenedList} → IsPair bs.pages bs.gives bs.values bs.takes told q now e → told → (s : ℕ) → IsTrue (is_written s) → synced_length q s < length_of q s
    unsynced_now pair t s is = elim (other_or_same sec s) [
      | inl same ↦ subst (λ (u : ℕ). synced_length q u < length_of q u) (sym same) (omega (arith, adds.synced sec, archive.pair.settled.lengths sec, length_now t))
      | inr other ↦ elim (adds.written_now s is) [
        | inl was ↦ omega (arith, adds.synced s, archive.unsynced t s was, other_length s other)
        | inr same ↦ absurd (other same)
      ]
    ]

    all_with_rows : (r : ℕ → List Row) (ss : List ℕ) → AllByRecursion (λ s. r s ≢ []) ss → AllByRecursion (λ s. (0 ≤ s) × (r s ≢ [])) ss
    all_with_rows r [] all = tt
    all_with_rows r (s ∷ ss) all = ((omega arith, all.0), all_with_rows r ss all.1)

    all_rows : (r : ℕ → List Row) (ss : List ℕ) → AllByRecursion (λ s. (0 ≤ s) × (r s ≢ [])) ss → AllByRecursion (λ s. r s ≢ []) ss
    all_rows r [] all = tt
    all_rows r (s ∷ ss) all = (all.0.1, all_rows r ss all.1)

    -- it may be used
    pub grown_archive : {now : OpenedList} → IsPair bs.pages bs.gives bs.values bs.takes told q now e → HasRoom a.most_sections a.most_records a.rows sec → 1 ≤ a.most_records → IsArchive grown bs told now e
    grown_archive pair fits some = record {
      pair = pair;
      items = archive.items;
      floor = archive.floor;
      pair_floor = omega (arith, adds.floor, archive.pair_floor);
      below = λ s low.
          (let bare = archive.below s low in
          let other : s ≢ sec = λ same. absurd (omega (arith, low, same, adds.above)) in
          let same = adds.others s other in
          record { rows = adds.other_rows s other ∙ bare.rows; records = same.0.held ∙ bare.records; values = same.1.held ∙ bare.values });
      listed = listed_now;
      spelled = spelled_now;
      tied = adds.tied;
      indices = row_added a.items a.rows rows sec index key here adds.row adds.other_rows a.indices indices archive.indices adds.added;
      within = record {
        in_section = in_section_now;
        few_sections = λ ss up all. few_sections_now a.most_sections a.most_records a.rows rows sec new_row adds.row adds.other_rows some (λ s. 0 ≤ s) fits
            (λ ts up all. archive.within.few_sections ts up (all_rows a.rows ts all)) ss up (all_with_rows rows ss all);
        few_records = few_now a.most_sections a.most_records a.rows rows sec new_row adds.row adds.other_rows some fits archive.within.few_records;
      };
      unwritten = λ s is.
          let was = adds.written s is in
          adds.synced s ∙ archive.unwritten s was.1 ∙ sym (other_length s was.0);
      written = written_rows;
      unsynced = unsynced_now pair;
    }
