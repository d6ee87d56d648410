-- What an opening of an archive has kept: the state that it begins with.
use Rattle.std.proofs.Common.{◌≡◌, ◌≢◌, inl, inr, refl, sym, ◌∙◌, ap, subst, ℕ, ◌<◌, ◌≤◌, ◌^◌, Bool, List, [], length, map, Option, arith}
use Rattle.std.specs.List.{AllByRecursion, Contains}
use Rattle.std.specs.List.Sorted.{IsStrictlySortedBy}
use Rattle.std.specs.Ordering.{nat_cmp}
use Rattle.std.proofs.lemmas.List.{length-map, nil_from_length}
use Rattle.std.proofs.lemmas.List.Elements.{All-contains, All-from_recursion}
use Rattle.blob_device.specs.Disk.{Disk}
use Rattle.value_codec.specs.declared.codec.Error as codec
use Rattle.value_codec.specs.declared.key.Key8.{Key8}
use Rattle.meta_store.specs.Store.{Store, contents_of}
use Rattle.archives.specs.lemmas.init.Records.{one_markers}
use Rattle.meta_store.specs.lemmas.Uses.{IsReadable}
use Rattle.sealed_pages.specs.declared.page_blob.PageBlob.{PageBlob}
use Rattle.section_manager.specs.Sections.{IsHeld}
use Rattle.paired.specs.Kept.{Layout, Markers, kept, marker_of}
use Rattle.paired.specs.Crashes.{HoldMarkers}
use Rattle.paired.specs.Opening.{as_read, IsLawful}
use Rattle.paired.specs.OpeningFound.{CountsAll, GivesInPlace, HasFound, HasKept}
use Rattle.paired.specs.Pair.{Pair, list_of, records_of}
use Rattle.paired.specs.Records as stored
use Rattle.paired.specs.Replaying.{Run, marker, records_given}
use Rattle.archives.specs.Archives.{Archive, filing_of, state_of}
use Rattle.archives.specs.Filing.{Filing, filed, kept_entries}
use Rattle.archives.specs.IndexRecord.{index_of, key_of as key_in}
use Rattle.archives.specs.Machine.{Entry, section_of}
use Rattle.archives.specs.Opening.{HasStray, IsPastLimits}
use Rattle.archives.specs.Rows.{Row, row_in}
use Rattle.archives.specs.Standing.{IsStart}
use Rattle.archives.proofs.ArchiveStands.{all_unmap}
use Rattle.blob_device.proofs.general.Lists.{all_by}
use Rattle.archives.specs.lemmas.init.State.{length_left, none_behind}

-- an archive over this pair that files so, and of which nothing was pruned
abbrev pub archive_over : {F B : Type 0} → Pair F B → Filing → (List ℕ → Option codec.Error) → (ℕ → List Row) → Type 0 → (ℕ → Bool) → (ℕ → Bool) → Archive F B
archive_over p f refusal rows tied indices written = record {
  pair = p;
  items = f.items;
  key_size = f.key_size;
  refusal = refusal;
  most_sections = f.most_sections;
  most_records = f.most_records;
  floor = 0;
  rows = rows;
  Tied = tied;
  indices = indices;
  is_written = written;
}

-- a record with a key of n bytes, as the machine has it
abbrev filed_by : ℕ → stored.Entry → Entry (List ℕ)
filed_by n e = record { index = index_of e.stored; key = key_in n e.stored; value = e.value }

filed_as : (n m : ℕ) (es : List stored.Entry) → n ≡ m → map (filed_by n) es ≡ map (filed_by m) es
filed_as n m es same = ap (λ (k : ℕ). map (filed_by k) es) same

abbrev stored_bytes : stored.Entry → List ℕ
stored_bytes e = e.stored

-- what holds of all elements holds of one that is contained
pub all_has : {X : Type 0} (P : X → Type 0) (xs : List X) (x : X) → AllByRecursion P xs → Contains xs x → P x
all_has P xs x all has = All-contains P xs x (All-from_recursion P xs all) has

module _ {F S : Type 0} {gs : _} (f : Filing) (readable : IsReadable f.layout.markers) (run walked : Run F (PageBlob S gs)) (a b e : Disk)
    (still : walked.layout ≡ f.layout) (store : walked.store ≡ run.store) (found : HasFound f.layout a b run)
    (stays : (s : ℕ) → s < 2 ^ 64 → kept f.layout (as_read e) (marker run s) s ≡ kept f.layout (as_read b) (marker run s) s) where
  marker_same : (s : ℕ) → marker walked s ≡ marker run s
  marker_same s = ap (λ (u : Store Key8 ℕ). marker_of u.entries s) store

  -- what the disk keeps at the end of the replay is what it kept before
  kept_since : (s : ℕ) → s < 2 ^ 64 → kept walked.layout (as_read e) (marker walked s) s ≡ kept f.layout (as_read a) (marker run s) s
  kept_since s small =
      ap (λ (l : Layout). kept l (as_read e) (marker walked s) s) still ∙ ap (λ (m : ℕ). kept f.layout (as_read e) m s) (marker_same s) ∙ stays s small ∙ found.same s small

  module _ (markers : Markers) (held : HoldMarkers f.layout (as_read a) markers) where
    pub own_markers : contents_of run.store ≡ markers
    own_markers = one_markers f.layout readable (as_read a) (contents_of run.store) markers found.markers held

    pub marker_is : (s : ℕ) → marker walked s ≡ marker_of markers.entries s
    marker_is s = marker_same s ∙ ap (λ (ms : Markers). marker_of ms.entries s) own_markers

    pub since_start : (s : ℕ) → s < 2 ^ 64 → kept walked.layout (as_read e) (marker walked s) s ≡ kept_entries f (as_read a) markers s
    since_start s small = kept_since s small ∙ ap (λ (ms : Markers). kept f.layout (as_read a) (marker_of ms.entries s) s) own_markers

    module _ (z : Disk) (arch : Archive F (PageBlob S gs)) (keeps : HasKept walked e z arch.pair) where
      pub records_left : (s : ℕ) → s < 2 ^ 64 → records_of arch.pair z s ≡ map (λ x. x.stored) (kept_entries f (as_read a) markers s)
      records_left s small = keeps.stored s small ∙ ap (map (λ x. x.stored)) (since_start s small)

      -- so many were given
      pub given_count : (s : ℕ) → s < 2 ^ 64 → length (records_given walked e s) ≡ length (kept_entries f (as_read a) markers s)
      given_count s small = ap length (sym (keeps.records s) ∙ records_left s small) ∙ length-map (kept_entries f (as_read a) markers s) (λ x. x.stored)

      module _ (lawful : IsLawful f.layout (as_read a) markers) (lawful_on : IsLawful f.layout (as_read b) (contents_of run.store) → IsLawful f.layout (as_read e) (contents_of run.store)) where
        pub lawful_now : IsLawful walked.layout (as_read e) (contents_of walked.store)
        lawful_now =
            subst (λ (l : Layout). IsLawful l (as_read e) (contents_of walked.store)) (sym still)
            (subst (λ (u : Store Key8 ℕ). IsLawful f.layout (as_read e) (contents_of u)) (sym store) (lawful_on (found.lawful markers lawful)))

        pub in_place : (s : ℕ) → GivesInPlace walked e s
        in_place = keeps.in_place lawful_now

        pub lists_left : (s : ℕ) → s < 2 ^ 64 → list_of arch.pair z s ≡ kept_entries f (as_read a) markers s
        lists_left s small = keeps.lists s small (in_place s) ∙ since_start s small

        module _ (pos : 1 ≤ arch.pair.layout.record_size) (number : (s : ℕ) → IsHeld arch.pair.index.sections s → s < 2 ^ 64) where
          pub starts : arch.key_size ≡ f.key_size → arch.floor ≡ 0 → CountsAll walked arch.pair → IsStart f (as_read a) markers (state_of arch z)
          starts key floor counts = record {
            held = held;
            is_open = refl;
            lists = λ s small. filed_as arch.key_size f.key_size (list_of arch.pair z s) key ∙ ap (map (filed f)) (lists_left s small);
            no_more = λ s behind. ap (map (filed (filing_of arch))) (none_behind arch.pair pos z s (number s) behind);
            synced = λ s. counts.synced s ∙ length_left arch.pair pos z s ∙ sym (length-map (list_of arch.pair z s) (filed (filing_of arch)));
            floor = floor ∙ sym lawful.floor;
          }

      -- where each row lies in its section and the limits are kept, so do the records that the disk kept
      module _ (listed : (s : ℕ) → arch.rows s ≡ map (row_in arch.key_size) (records_of arch.pair z s)) where
        kept_within : (items : ℕ) → ((s : ℕ) → AllByRecursion (λ r. section_of items r.index ≡ s) (arch.rows s)) → (s : ℕ) → s < 2 ^ 64
            → AllByRecursion (λ x. section_of items (index_of x.stored) ≡ s) (kept_entries f (as_read a) markers s)
        kept_within items within s small =
            let Q : Row → Type 0 = λ r. section_of items r.index ≡ s in
            let P : List ℕ → Type 0 = λ r. section_of items (index_of r) ≡ s in
            let entries = kept_entries f (as_read a) markers s in
            let of_records : AllByRecursion P (records_of arch.pair z s) = all_unmap (row_in arch.key_size) Q (records_of arch.pair z s) (subst (AllByRecursion Q) (listed s) (within s)) in
            all_unmap stored_bytes P entries (subst (AllByRecursion P) (records_left s small) of_records)

        pub none_stray : (items : ℕ) → ((s : ℕ) → AllByRecursion (λ r. section_of items r.index ≡ s) (arch.rows s)) → HasStray items (kept_entries f (as_read a) markers) → ⊥
        none_stray items within (s, x, small, has, stray) = stray (all_has (λ y. section_of items (index_of y.stored) ≡ s) (kept_entries f (as_read a) markers s) x (kept_within items within s small) has)

        length_kept : (s : ℕ) → s < 2 ^ 64 → length (arch.rows s) ≡ length (kept_entries f (as_read a) markers s)
        length_kept s small =
            ap length (listed s) ∙ length-map (records_of arch.pair z s) (row_in arch.key_size) ∙ ap length (records_left s small) ∙ length-map (kept_entries f (as_read a) markers s) stored_bytes

        pub none_over : (sections per_section : ℕ) → ((ss : List ℕ) → IsStrictlySortedBy nat_cmp ss → AllByRecursion (λ s. arch.rows s ≢ []) ss → length ss ≤ sections) → ((s : ℕ) → length (arch.rows s) ≤ per_section)
            → IsPastLimits sections per_section (kept_entries f (as_read a) markers) → ⊥
        none_over sections per_section few_sections few_records (inl (ss, sorted, all, more)) =
            omega (arith, more, few_sections ss sorted (all_by (λ s. (s < 2 ^ 64) × (kept_entries f (as_read a) markers s ≢ [])) (λ s. arch.rows s ≢ []) (λ s has none. has.1 (nil_from_length (kept_entries f (as_read a) markers s) (omega (arith, ap length none, length_kept s has.0)))) ss all))
        none_over sections per_section few_sections few_records (inr (s, small, more)) = omega (arith, more, few_records s, length_kept s small)
