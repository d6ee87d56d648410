-- What a crash leaves of a pair, from what it may leave its blobs as: of one section, then of all.
use Rattle.std.proofs.Common.{◌≡◌, ◌⊎◌, inl, inr, ℕ, ◌/◌, ◌^◌, ◌<◌, ◌≤◌, Bool, true, false, nat_lt, if◌then◌else◌, List, [], length, map, take, IsTrue, Option, None, Some, IsSome, unwrap_or, refl, sym, ◌∙◌, ap, subst, arith}
use Rattle.std.specs.Int.{w64, to_be_bytes}
use Rattle.std.specs.List.{AllByRecursion}
use Rattle.std.specs.Map.{lookup}
use Rattle.std.specs.Str.{bytes_eq}
use Rattle.std.proofs.lemmas.List.{nil_from_length}
use Rattle.std.proofs.lemmas.Nat.{div_below}
use Rattle.blob_device.specs.Disk.{Blob, Disk, Image, IsCrashOf, past, longest, MayLeave}
use Rattle.sealed_pages.specs.ChanceSeal as pages
use Rattle.sealed_pages.specs.SealedPrefix.{sealed_prefix, Prefix}
use Rattle.section_manager.specs.Sections.{section_key}
use Rattle.value_codec.specs.Keys.{key8_bytes}
use Rattle.meta_store.specs.declared.error.Side.TheVariants.{Left, Right}
use Rattle.meta_store.specs.Blobs.{blob_of, bytes_of}
use Rattle.meta_store.specs.Pairs.{HoldMap}
use Rattle.section_manager.specs.Prefixes.{IsPrefixOf}
use Rattle.paired.specs.Records.{Entry, records, is_sound, unbroken_prefix, entry_of}
use Rattle.paired.specs.Kept.{Layout, Markers, MarkerMap, IsMarked, marker_of, content_at, stored_records, kept, IsTrueMarker}
use Rattle.paired.specs.Crashes.{IsPrefix, WasThere, NoChanceSeal, Keeps, Leaves}
use Rattle.paired.specs.Holding.{Facts, list_in, AreGood, IsLasting, IsFading, LeavesNoRecords, SectionStands, AreTrue, Holding}
use Rattle.paired.specs.lemmas.Kept.{kept_prefix, marker_sound, stored_entries}
use Rattle.section_manager.specs.lemmas.buffers.NothingSealed.{nothing_sealed}
use Rattle.paired.specs.lemmas.Records.{length-records, records-prefix, records-enough}
use Rattle.blob_device.proofs.general.Lists.{all_take}

-- a section's marker is at most what each of its markers is
marker_least : (markers : MarkerMap) (s n : ℕ) → s < 2 ^ 64 → ((m : ℕ) → IsMarked markers s m → m ≤ n) → marker_of markers s ≤ n
marker_least markers s n lt least =
    step (nat_lt s (2 ^ 64)) (lookup (λ k. bytes_eq (key8_bytes k) (to_be_bytes w64 s)) markers) (λ m is. least m (lt, is))
  where
    step : (b : Bool) (o : Option ℕ) → ((m : ℕ) → o ≡ Some m → m ≤ n) → (if b then unwrap_or o 0 else 0) ≤ n
    step true None least = omega arith
    step true (Some m) least = least m refl
    step false o least = omega arith

module _ (l : Layout) (pos : 1 ≤ l.record_size) where
  few_records : (bytes : List ℕ) → length bytes < l.record_size → records l.record_size bytes ≡ []
  few_records bytes few =
      let none : length bytes / l.record_size < 1 = div_below (length bytes) l.record_size 1 (omega (arith, pos)) (omega (arith, few)) in
      nil_from_length (records l.record_size bytes) (omega (arith, none, length-records l.record_size bytes))

  -- a blob without bytes has no records, where its sealed prefix has no bytes
  empty_records : sealed_prefix l.seal l.page_size [] ≡ [] → records l.record_size (sealed_prefix l.seal l.page_size []) ≡ []
  empty_records unsealed = few_records (sealed_prefix l.seal l.page_size []) (omega (arith, ap length unsealed, pos))

  unsealed : sealed_prefix l.seal l.page_size [] ≡ []
  unsealed = nothing_sealed l.seal l.page_size

  -- what may be left of each of the two blobs of a section
  module _ (f : Facts) (b : Blob) where
    lasting_some : (left : Option (List ℕ)) → MayLeave b left → IsLasting l f b → IsSome left
    lasting_some None may lasting = absurd (lasting None may)
    lasting_some (Some c) may lasting = refl

    lasting_prefix : (left : Option (List ℕ)) → MayLeave b left → IsLasting l f b → pages.NoChanceSeal l.seal l.page_size (past b) (unwrap_or left []) → Prefix l.seal l.page_size f.index f.index_settled (unwrap_or left [])
    lasting_prefix None may lasting seals = absurd (lasting None may)
    lasting_prefix (Some c) may lasting seals = lasting (Some c) may seals

    fading_prefix : (left : Option (List ℕ)) → MayLeave b left → IsFading l f b → pages.NoChanceSeal l.seal l.page_size (past b) (unwrap_or left [])
        → Prefix l.seal l.page_size f.index f.index_settled (unwrap_or left []) ⊎ (records l.record_size (sealed_prefix l.seal l.page_size (unwrap_or left [])) ≡ [])
    fading_prefix None may fading seals = inr (empty_records unsealed)
    fading_prefix (Some c) may fading seals = inl (fading c may seals)

  no_records : (b : Blob) (left : Option (List ℕ)) → MayLeave b left → LeavesNoRecords l b → pages.NoChanceSeal l.seal l.page_size (past b) (unwrap_or left [])
      → records l.record_size (sealed_prefix l.seal l.page_size (unwrap_or left [])) ≡ []
  no_records b None may none seals = empty_records unsealed
  no_records b (Some c) may none seals = none c may seals

  -- no crash leaves a record where none leaves a byte
  pub no_bytes : (b : Blob) → longest b ≡ 0 → LeavesNoRecords l b
  no_bytes b none c may seals =
      let empty : c ≡ [] = nil_from_length c (omega (arith, none, may.1.no_longer)) in
      ap (λ (x : List ℕ). records l.record_size (sealed_prefix l.seal l.page_size x)) empty ∙ empty_records unsealed

  -- Left are a prefix of the records, and at the start of the values what has settled; and the contents are prefixes of the values.
  record IsFound (f : Facts) (c cv : List ℕ) (contents : List (List ℕ)) : Type 0 where
    pub prefix : Prefix l.seal l.page_size f.index f.index_settled c
    pub kept : IsPrefixOf (take f.values_settled f.values) cv
    pub prefixes : AllByRecursion (λ x. IsPrefixOf x f.values) contents

  -- Of a section: the bytes c of its records and cv of its values that a crash left, and a number of records below which each is kept.
  module _ (f : Facts) (good : AreGood l f) (c cv : List ℕ) (contents : List (List ℕ)) (marker : ℕ) where
    -- the records that were left
    abbrev left_records : List (List ℕ)
    left_records = records l.record_size (sealed_prefix l.seal l.page_size c)

    -- a record is sound in the values that were left
    abbrev IsKept : List ℕ → Type 0
    IsKept r = IsTrue (is_sound l.seal cv (l.place r))

    -- what is kept of the list
    abbrev list_left : List Entry
    list_left = map (entry_of l.place cv) (unbroken_prefix (λ r. is_sound l.seal cv (l.place r)) marker 0 left_records)

    enough : Prefix l.seal l.page_size f.index f.index_settled c → f.synced ≤ length left_records
    enough prefix = records-enough l.record_size f.synced (sealed_prefix l.seal l.page_size c) pos (omega (arith, good.index_settled, prefix.no_shorter))

    pub first : Prefix l.seal l.page_size f.index f.index_settled c → left_records ≡ take (length left_records) (records l.record_size f.index)
    first prefix = records-prefix l.record_size f.index (sealed_prefix l.seal l.page_size c) pos prefix.is prefix.no_longer

    first_stored : Prefix l.seal l.page_size f.index f.index_settled c → left_records ≡ take (length left_records) (map (λ e. e.stored) (list_in l f))
    first_stored prefix = first prefix ∙ ap (take (length left_records)) (sym (stored_entries l.place f.values (records l.record_size f.index)))

    module _ (marked : marker ≤ f.synced) (found : IsFound f c cv contents) (none : AllByRecursion (λ r. IsKept r → WasThere contents cv (l.place r)) left_records) where
      found_prefix : IsPrefix (list_in l f) f.synced list_left
      found_prefix = kept_prefix l.seal l.place f.values cv (records l.record_size f.index) left_records good.end f.synced f.values_settled marker contents
          marked (enough found.prefix) (first found.prefix) good.follow good.room good.sound good.values_settled found.kept found.prefixes none

      found_sound : AllByRecursion IsKept (take marker left_records)
      found_sound = marker_sound l.seal l.place f.values cv (records l.record_size f.index) left_records good.end f.synced f.values_settled marker contents
          marked (enough found.prefix) (first found.prefix) good.follow good.room good.sound good.values_settled found.kept found.prefixes none

    module _ (none : left_records ≡ []) where
      nothing_kept : list_left ≡ []
      nothing_kept = ap (λ (rs : List (List ℕ)). map (entry_of l.place cv) (unbroken_prefix (λ r. is_sound l.seal cv (l.place r)) marker 0 rs)) none

      nothing_prefix : f.synced ≡ 0 → IsPrefix (list_in l f) f.synced list_left
      nothing_prefix unsynced = subst (IsPrefix (list_in l f) f.synced) (sym nothing_kept) (record { same = refl; synced = omega (arith, unsynced) })

      nothing_stored : left_records ≡ take (length left_records) (map (λ e. e.stored) (list_in l f))
      nothing_stored = none ∙ sym (ap (λ (rs : List (List ℕ)). take (length rs) (map (λ e. e.stored) (list_in l f))) none)

      nothing_sound : AllByRecursion IsKept (take marker left_records)
      nothing_sound = subst (λ (rs : List (List ℕ)). AllByRecursion IsKept (take marker rs)) (sym none) (all_take IsKept marker [] tt)

  module _ (facts : ℕ → Facts) (Gone : ℕ → Type 0) (one other : Markers) (d : Disk) (good : (s : ℕ) → AreGood l (facts s)) (holding : Holding l facts Gone one other d)
      (image : Image) (crash : IsCrashOf d image) (seals : NoChanceSeal l d image) where
    -- what is left of a section: a prefix of its records, and what has settled of its values; or no record, where none was synced or the section may be gone
    abbrev Outcome : ℕ → Type 0
    Outcome s = IsFound (facts s) (content_at image l.index s) (content_at image l.values s) (past (d (section_key l.values s))) ⊎ ((stored_records l image s ≡ []) × (((facts s).synced ≡ 0) ⊎ Gone s))

    module _ (s : ℕ) (lt : s < 2 ^ 64) where
      -- a prefix of the section's records is left, with those that had settled
      abbrev IsPrefixLeft : Type 0
      IsPrefixLeft = Prefix l.seal l.page_size (facts s).index (facts s).index_settled (content_at image l.index s)

      pub stands : SectionStands l (Gone s) (facts s) (d (section_key l.index s)) (d (section_key l.values s))
      stands = holding.sections s lt

      none_left : LeavesNoRecords l (d (section_key l.index s)) → stored_records l image s ≡ []
      none_left none = no_records (d (section_key l.index s)) (image (section_key l.index s)) (crash (section_key l.index s)) none (seals.slots s lt)

      with_prefix : IsPrefixLeft → Outcome s
      with_prefix prefix = elim stands.values [
        | inl values ↦ inl (record { prefix = prefix; kept = values.kept (image (section_key l.values s)) (crash (section_key l.values s)); prefixes = values.prefixes (image (section_key l.values s)) (crash (section_key l.values s)) })
        | inr none ↦ inr (none_left none, inl (omega (arith, enough (facts s) (good s) (content_at image l.index s) (content_at image l.values s) [] 0 prefix, ap length (none_left none))))
      ]

      lasting_left : IsLasting l (facts s) (d (section_key l.index s)) → IsPrefixLeft
      lasting_left lasting = lasting_prefix (facts s) (d (section_key l.index s)) (image (section_key l.index s)) (crash (section_key l.index s)) lasting (seals.slots s lt)

      outcome : Outcome s
      outcome = elim stands.index [
        | inl lasting ↦ with_prefix (lasting_left lasting)
        | inr (inl fading) ↦ elim (fading_prefix (facts s) (d (section_key l.index s)) (image (section_key l.index s)) (crash (section_key l.index s)) fading.1 (seals.slots s lt)) [
          | inl prefix ↦ with_prefix prefix
          | inr none ↦ inr (none, inr fading.0)
        ]
        | inr (inr bare) ↦ inr (none_left (no_bytes (d (section_key l.index s)) bare.0), inl bare.1)
      ]

      stored_left : stored_records l image s ≡ take (length (stored_records l image s)) (map (λ e. e.stored) (list_in l (facts s)))
      stored_left = elim outcome [
        | inl found ↦ first_stored (facts s) (good s) (content_at image l.index s) (content_at image l.values s) [] 0 found.prefix
        | inr none ↦ nothing_stored (facts s) (good s) (content_at image l.index s) (content_at image l.values s) [] 0 none.0
      ]

      module _ (marker : ℕ) (marked : marker ≤ (facts s).synced) where
        list_kept : IsPrefix (list_in l (facts s)) (facts s).synced (kept l image marker s) ⊎ ((kept l image marker s ≡ []) × Gone s)
        list_kept = elim outcome [
          | inl found ↦ inl (found_prefix (facts s) (good s) (content_at image l.index s) (content_at image l.values s) (past (d (section_key l.values s))) marker marked found (seals.frames s lt))
          | inr (none, inl unsynced) ↦ inl (nothing_prefix (facts s) (good s) (content_at image l.index s) (content_at image l.values s) [] marker none unsynced)
          | inr (none, inr gone) ↦ inr (nothing_kept (facts s) (good s) (content_at image l.index s) (content_at image l.values s) [] marker none, gone)
        ]

        marker_true : IsLasting l (facts s) (d (section_key l.index s)) → IsTrueMarker l image s marker
        marker_true lasting = record {
          index_blob = lasting_some (facts s) (d (section_key l.index s)) (image (section_key l.index s)) (crash (section_key l.index s)) lasting;
          enough = omega (arith, marked, enough (facts s) (good s) (content_at image l.index s) (content_at image l.values s) [] 0 (lasting_left lasting));
          sound = elim outcome [
            | inl found ↦ found_sound (facts s) (good s) (content_at image l.index s) (content_at image l.values s) (past (d (section_key l.values s))) marker marked found (seals.frames s lt)
            | inr none ↦ nothing_sound (facts s) (good s) (content_at image l.index s) (content_at image l.values s) [] marker none.0
          ];
        }

    keeps_with : (markers : Markers) → HoldMap l.markers (bytes_of (image (blob_of l.metadata Left))) (bytes_of (image (blob_of l.metadata Right))) markers → AreTrue l facts d markers
        → Keeps l (λ s. list_in l (facts s)) (λ s. (facts s).synced) Gone image
    keeps_with markers held marked = record {
      markers = markers;
      held = record { copies = λ is. held; none = λ not. absurd (cc (holding.marked, not)) };
      floor = marked.floor;
      true_markers = λ s m is. marker_true s is.0 m (marked.sections s m is).1 (marked.sections s m is).0;
      lists = λ s lt. list_kept s lt (marker_of markers.entries s) (marker_least markers.entries s (facts s).synced lt (λ m is. (marked.sections s m is).1));
      stored = stored_left;
    }

  -- What a crash leaves of a pair of which these facts are known, where its blobs stand so.
  pub leaves_of : (facts : ℕ → Facts) (Gone : ℕ → Type 0) (one other : Markers) (d : Disk) → ((s : ℕ) → AreGood l (facts s)) → Holding l facts Gone one other d
      → Leaves l (λ s. list_in l (facts s)) (λ s. (facts s).synced) Gone d
  leaves_of facts Gone one other d good holding image crash seals =
      let left : Option (List ℕ) = image (blob_of l.metadata Left) in
      let right : Option (List ℕ) = image (blob_of l.metadata Right) in
      elim (holding.copies.crash left right (crash (blob_of l.metadata Left)) (crash (blob_of l.metadata Right)) (seals.copies holding.marked Left) (seals.copies holding.marked Right)) [
        | inl held ↦ keeps_with facts Gone one other d good holding image crash seals one held holding.one_marked
        | inr held ↦ keeps_with facts Gone one other d good holding image crash seals other held holding.other_marked
      ]

-- Of the second section more is known to be there than of the first, as much was synced, and no more is known to have settled.
pub record IsMore (f g : Facts) : Type 0 where
  pub index : IsPrefixOf f.index g.index
  pub values : IsPrefixOf f.values g.values
  pub index_settled : g.index_settled ≤ f.index_settled
  pub values_settled : g.values_settled ≤ f.values_settled
  pub within : g.values_settled ≤ length f.values
  pub synced : g.synced ≡ f.synced
