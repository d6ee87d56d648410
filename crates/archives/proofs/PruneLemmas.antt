-- What a prune makes of the indices that an archive holds, of its state, and of the archive.
use Rattle.std.proofs.Common.{◌≡◌, ◌≢◌, inl, inr, refl, sym, ◌∙◌, ap, subst, ℕ, ◌-◌, ◌/◌, ◌^◌, ◌<◌, ◌≤◌, ◌==◌, if◌then◌else◌, nat_lt, Bool, true, false, IsTrue, List, [], length, map, Option, None, IsSome, unwrap_or, arith}
use Rattle.std.specs.List.{AllByRecursion, list_any}
use Rattle.std.proofs.Math.Nat.{div-mul-le_self}
use Rattle.std.proofs.lemmas.Bool.{cases_lt, false≢true, le-ltb, lt-ltb}
use Rattle.std.proofs.lemmas.List.{nil_from_length}
use Rattle.std.proofs.lemmas.Nat.{div_below}
use Rattle.blob_device.specs.Disk.{Disk, Key, longest, nothing}
use Rattle.blob_device.specs.Opened.{OpenedList}
use Rattle.value_codec.specs.declared.codec.Error as codec
use Rattle.sealed_pages.specs.declared.page_blob.PageBlob.{PageBlob}
use Rattle.section_manager.specs.Sections.{IsHeld, IsSame, section_key}
use Rattle.segments.specs.FixedLists as fixed
use Rattle.paired.specs.Crashes.{IsOneOf}
use Rattle.paired.specs.glob.Sections as glob
use Rattle.paired.specs.Kept.{Layout, marker_of}
use Rattle.paired.specs.Pair.{AreMarkers, HasNoBytes, IsPair, Pair, length_of, list_of, records_of, synced_length, IsSafeOn}
use Rattle.paired.specs.Records as stored
use Rattle.paired.specs.lemmas.Records.{length-records}
use Rattle.ordinal_store.specs.Numbers.{Set, TakesAway}
use Rattle.archives.specs.Archives.{Archive, Buffers, IsArchive, IsSoundArchive, LeavesNoForeign, filing_of, state_of}
use Rattle.archives.specs.Filing.{filed}
use Rattle.archives.specs.IndexRecord.{IsSpelled}
use Rattle.archives.specs.Machine.{Entry, State, emptied_below, section_of}
use Rattle.archives.specs.Rows.{Row, has_row, row_in}
use Rattle.archives.proofs.ArchiveStands.{no_foreign, values_apart}
use Rattle.archives.proofs.IndexSets.{same_test}
use Rattle.archives.proofs.PuttingLemmas.{section_from}
use Rattle.archives.proofs.sync.Lemmas.{records_same}
use Rattle.archives.proofs.sync.Names.{one_more}
use Rattle.blob_device.proofs.general.Lists.{all_by}
use Rattle.blob_device.proofs.general.Options.{none_or_value}

-- the set without the numbers below a section's start is that of the rows without the sections below
module _ (items : ℕ) (rows new : ℕ → List Row) (bound : ℕ) (some_items : 1 ≤ items) (some : 1 ≤ bound) (start : section_of items bound ≡ bound)
    (gone : (s : ℕ) → s < bound → new s ≡ []) (kept : (s : ℕ) → bound ≤ s → new s ≡ rows s) where
  pub rows_dropped : (set next : Set) → ((i : ℕ) → set i ≡ has_row items rows i) → TakesAway set next 0 (bound - 1) → (i : ℕ) → next i ≡ has_row items new i
  rows_dropped set next was takes i = same_test (next i) (has_row items new i) (there, back)
    where
      there : IsTrue (next i) → IsTrue (has_row items new i)
      there is =
          let taken = (takes i).0 is in
          let above : bound ≤ i = elim taken.1 as (λ _. bound ≤ i) [ inl low ↦ absurd (omega (arith, low)) | inr high ↦ omega (arith, high, some) ] in
          let from : bound ≤ section_of items i = section_from items bound i some_items start above in
          ap (list_any (λ (r : Row). r.index == i)) (kept (section_of items i) from) ∙ sym (was i) ∙ taken.0

      back : IsTrue (has_row items new i) → IsTrue (next i)
      back is = elim (cases_lt (section_of items i) bound) as (λ _. IsTrue (next i)) [
        | inl low ↦ absurd (false≢true (sym (ap (list_any (λ (r : Row). r.index == i)) (gone (section_of items i) low)) ∙ is))
        | inr from ↦ (takes i).1 (
          was i ∙ sym (ap (list_any (λ (r : Row). r.index == i)) (kept (section_of items i) from)) ∙ is,
          inr (omega (arith, from, some, div-mul-le_self i items)),
        )
      ]

-- the state of a pair of which the sections below a bound are gone is that of the machine
module _ {F S : Type 0} {gs : _} (a : Archive F (PageBlob S gs)) (p : Pair F (PageBlob S gs)) (bound : ℕ) (d e : Disk)
    (gone : (s : ℕ) → s < bound → list_of p e s ≡ []) (kept : (s : ℕ) → bound ≤ s → list_of p e s ≡ list_of a.pair d s)
    (none_synced : (s : ℕ) → s < bound → synced_length p s ≡ 0) (still_synced : (s : ℕ) → bound ≤ s → synced_length p s ≡ synced_length a.pair s) where
  abbrev pub pruned_now : State (List ℕ)
  pruned_now = record { is_open = true; lists = λ s. map (filed (filing_of a)) (list_of p e s); synced = synced_length p; floor = bound }

  lists_now : (s : ℕ) → map (filed (filing_of a)) (list_of p e s) ≡ (if nat_lt s bound then [] else map (filed (filing_of a)) (list_of a.pair d s))
  lists_now s =
      let old : List (Entry (List ℕ)) = map (filed (filing_of a)) (list_of a.pair d s) in
      elim (cases_lt s bound) as (λ _. map (filed (filing_of a)) (list_of p e s) ≡ (if nat_lt s bound then [] else old)) [
        | inl low ↦ ap (map (filed (filing_of a))) (gone s low) ∙ sym (ap (λ (b : Bool). if b then [] else old) (lt-ltb s bound low))
        | inr from ↦ ap (map (filed (filing_of a))) (kept s from) ∙ sym (ap (λ (b : Bool). if b then [] else old) (le-ltb s bound from))
      ]

  synced_now : (s : ℕ) → synced_length p s ≡ (if nat_lt s bound then 0 else synced_length a.pair s)
  synced_now s = elim (cases_lt s bound) as (λ _. synced_length p s ≡ (if nat_lt s bound then 0 else synced_length a.pair s)) [
    | inl low ↦ none_synced s low ∙ sym (ap (λ (b : Bool). if b then 0 else synced_length a.pair s) (lt-ltb s bound low))
    | inr from ↦ still_synced s from ∙ sym (ap (λ (b : Bool). if b then 0 else synced_length a.pair s) (le-ltb s bound from))
  ]

  pub pruned_state : pruned_now ≡ emptied_below bound (state_of a d)
  pruned_state = λ i. record { is_open = true; lists = λ s. lists_now s i; synced = λ s. synced_now s i; floor = bound }

-- ---- the archive

-- no bytes have no records
pub no_records : (size : ℕ) → 1 ≤ size → stored.records size [] ≡ []
no_records size some =
    let none : 0 / size < 1 = div_below 0 size 1 (omega (arith, some)) (omega (arith, some)) in
    nil_from_length (stored.records size []) (omega (arith, none, length-records size []))

-- a section is below a bound, or not
below_or_from : (b : ℕ) {P : ℕ → Type 0} → ((s : ℕ) → s < b → P s) → ((s : ℕ) → b ≤ s → P s) → (s : ℕ) → P s
below_or_from b {P = P} low high s = elim (cases_lt s b) as (λ _. P s) [ inl lt ↦ low s lt | inr from ↦ high s from ]

module _ {F S : Type 0} {gs : _} (a : Archive F (PageBlob S gs)) (b : ℕ) where
  -- What the pair's prune up to a bound says of the pair that it leaves.
  pub record IsLeft (told : Type 0) (d e : Disk) (p : Pair F (PageBlob S gs)) : Type 1 where
    pub layout : p.layout ≡ a.pair.layout
    pub removed : (s : ℕ) → s < b → (p.index.sections.held s ≡ None) × (p.values.held s ≡ None)
    pub stays : (s : ℕ) → b ≤ s → IsSame a.pair.index.sections p.index.sections s × IsSame a.pair.values p.values s
    pub lists : told → (s : ℕ) → b ≤ s → list_of p e s ≡ list_of a.pair d s
    pub synced : (s : ℕ) → b ≤ s → synced_length p s ≡ synced_length a.pair s
    pub unmarked : (s : ℕ) → s < b → marker_of p.store.entries s ≡ 0
    pub floor : p.index.sections.floor ≤ b

  -- What is left in memory: no row and no written section below the bound, and no index of one.
  pub record AreLeft (rows : ℕ → List Row) (indices : Set) (is_written : ℕ → Bool) : Type 0 where
    pub gone : (s : ℕ) → s < b → rows s ≡ []
    pub kept : (s : ℕ) → b ≤ s → rows s ≡ a.rows s
    pub taken : TakesAway a.indices indices 0 (b - 1)
    pub unwritten : (s : ℕ) → s < b → is_written s ≡ false
    pub written : (s : ℕ) → b ≤ s → is_written s ≡ a.is_written s

  -- the archive after the prune, with this pair, and this in memory
  abbrev pub pruned_archive : Pair F (PageBlob S gs) → (List ℕ → Option codec.Error) → (ℕ → List Row) → Type 0 → Set → (ℕ → Bool) → Archive F (PageBlob S gs)
  pruned_archive p refusal rows Tied indices is_written = record a { pair = p; refusal = refusal; floor = b; rows = rows; Tied = Tied; indices = indices; is_written = is_written }

  module _ (rows : ℕ → List Row) (indices : Set) (is_written : ℕ → Bool) (memory : AreLeft rows indices is_written) where
    few_rows : (s : ℕ) → rows s ≢ [] → a.rows s ≢ []
    few_rows s has none = elim (cases_lt s b) [ inl low ↦ has (memory.gone s low) | inr from ↦ has (memory.kept s from ∙ none) ]

    -- a written section is not below the bound
    not_below : (s : ℕ) → IsTrue (is_written s) → s < b → ⊥
    not_below s is low = cc (is, memory.unwritten s low)

  module _ (p : Pair F (PageBlob S gs)) (some_bytes : 1 ≤ p.layout.record_size) (told : Type 0) (d e : Disk) (left : IsLeft told d e p) where
    no_section_records : (s : ℕ) → s < b → records_of p e s ≡ []
    no_section_records s low =
        ap (λ (o : Option (PageBlob S gs)). stored.records p.layout.record_size (fixed.bytes_held o (e (section_key p.index.sections.partition s)).content)) (left.removed s low).0 ∙ no_records p.layout.record_size some_bytes

    pub no_section_list : (s : ℕ) → s < b → list_of p e s ≡ []
    no_section_list s low = ap (map (stored.entry_of p.layout.place (glob.section_bytes p.values e s))) (no_section_records s low)

    none_counted : (s : ℕ) → s < b → length_of p s ≡ 0
    none_counted s low =
        let none : 0 / p.layout.record_size < 1 = div_below 0 p.layout.record_size 1 (omega (arith, some_bytes)) (omega (arith, some_bytes)) in
        ap (λ (o : Option (PageBlob S gs)). fixed.size_held o / p.layout.record_size) (left.removed s low).0 ∙ omega (arith, none)

    same_counted : (s : ℕ) → b ≤ s → length_of p s ≡ length_of a.pair s
    same_counted s from =
        ap (λ (o : Option (PageBlob S gs)). fixed.size_held o / p.layout.record_size) (left.stays s from).0.held ∙ ap (λ (l : Layout). fixed.section_size a.pair.index.sections s / l.record_size) left.layout

    pub same_size : (s : ℕ) → b ≤ s → glob.section_size p.values s ≡ glob.section_size a.pair.values s
    same_size s from = ap glob.size_held (left.stays s from).1.held

    pub none_synced : AreMarkers p → (s : ℕ) → s < b → synced_length p s ≡ 0
    none_synced markers s low = elim (none_or_value (p.trailing s)) [
      | inl none ↦ ap (λ (o : Option ℕ). unwrap_or o (marker_of p.store.entries s)) none ∙ left.unmarked s low
      | inr some ↦ absurd (cc (subst IsSome (left.removed s low).0 (markers.trails s some.0 some.1).0))
    ]

    module _ (refusal : List ℕ → Option codec.Error) (rows : ℕ → List Row) (Tied : Type 0) (indices : Set) (is_written : ℕ → Bool) where
      -- its state is that of the machine
      pub pruned_step : told → AreMarkers p → state_of (pruned_archive p refusal rows Tied indices is_written) e ≡ emptied_below b (state_of a d)
      pruned_step t markers = pruned_state a p b d e no_section_list (left.lists t) (none_synced markers) left.synced

      module _ {bs : Buffers F (PageBlob S gs)} (before after : OpenedList) (archive : IsArchive a bs told before d) (start : section_of a.items b ≡ b) (some : 1 ≤ b) (memory : AreLeft rows indices is_written) where
        pub pruned_over : Tied → IsPair bs.pages bs.gives bs.values bs.takes told p after e → IsArchive (pruned_archive p refusal rows Tied indices is_written) bs told after e
        pruned_over tied pair = record {
          pair = pair;
          items = archive.items;
          floor = start;
          pair_floor = left.floor;
          below = λ s low. record { rows = memory.gone s low; records = (left.removed s low).0; values = (left.removed s low).1 };
          listed = λ t. below_or_from b {P = λ s. rows s ≡ map (row_in a.key_size) (records_of p e s)}
              (λ s low. memory.gone s low ∙ sym (ap (map (row_in a.key_size)) (no_section_records s low)))
              (λ s from. memory.kept s from ∙ archive.listed t s ∙ ap (map (row_in a.key_size)) (sym (records_same a.pair p d e s (left.lists t s from))));
          spelled = λ t. below_or_from b {P = λ s. AllByRecursion (IsSpelled a.key_size) (records_of p e s)}
              (λ s low. subst (AllByRecursion (IsSpelled a.key_size)) (sym (no_section_records s low)) tt)
              (λ s from. subst (AllByRecursion (IsSpelled a.key_size)) (sym (records_same a.pair p d e s (left.lists t s from))) (archive.spelled t s));
          tied = tied;
          indices = rows_dropped a.items a.rows rows b archive.items some start memory.gone memory.kept a.indices indices archive.indices memory.taken;
          within = record {
            in_section = below_or_from b {P = λ s. AllByRecursion (λ r. section_of a.items r.index ≡ s) (rows s)}
                (λ s low. subst (AllByRecursion (λ r. section_of a.items r.index ≡ s)) (sym (memory.gone s low)) tt)
                (λ s from. subst (AllByRecursion (λ r. section_of a.items r.index ≡ s)) (sym (memory.kept s from)) (archive.within.in_section s));
            few_sections = λ ss sorted all. archive.within.few_sections ss sorted (all_by (λ s. rows s ≢ []) (λ s. a.rows s ≢ []) (few_rows rows indices is_written memory) ss all);
            few_records = below_or_from b {P = λ s. length (rows s) ≤ a.most_records}
                (λ s low. omega (arith, ap length (memory.gone s low)))
                (λ s from. omega (arith, ap length (memory.kept s from), archive.within.few_records s));
          };
          unwritten = λ s not. elim (cases_lt s b) [
            | inl low ↦ none_synced pair.markers s low ∙ sym (none_counted s low)
            | inr from ↦ left.synced s from ∙ archive.unwritten s (sym (memory.written s from) ∙ not) ∙ sym (same_counted s from)
          ];
          written = λ s is none. elim (cases_lt s b) [
            | inl low ↦ not_below rows indices is_written memory s is low
            | inr from ↦ archive.written s (sym (memory.written s from) ∙ is) (sym (memory.kept s from) ∙ none)
          ];
          unsynced = λ t s is. elim (cases_lt s b) [
            | inl low ↦ absurd (not_below rows indices is_written memory s is low)
            | inr from ↦ omega (arith, left.synced s from, same_counted s from, archive.unsynced t s (sym (memory.written s from) ∙ is))
          ];
        }

        -- it is sound where the pair is, and no blob changed but those that the prune may touch
        module _ (t : told) (sound : IsSoundArchive a d) (pair_sound : IsSafeOn p e) (refuses : (bytes : List ℕ) → refusal bytes ≡ a.refusal bytes)
            (others : (q : Key) → (IsOneOf a.pair.layout (λ s. (s < b) × IsHeld a.pair.index.sections s) (λ s. (s < b) × IsHeld a.pair.values s) q → ⊥) → e q ≡ d q)
            (gone : (s : ℕ) → s < b → IsHeld a.pair.values s → e (section_key a.pair.layout.values s) ≡ nothing) where
          -- values that are not held are none of the blobs that change
          not_touched : (s : ℕ) → s < 2 ^ 64 → a.pair.values.held s ≡ None → IsOneOf a.pair.layout (λ s. (s < b) × IsHeld a.pair.index.sections s) (λ s. (s < b) × IsHeld a.pair.values s) (section_key a.pair.layout.values s) → ⊥
          not_touched s small none = values_apart a.pair.layout archive.pair.apart (λ s. (s < b) × IsHeld a.pair.index.sections s) (λ s. (s < b) × IsHeld a.pair.values s) s small (λ is. cc (none, is.1))

          -- so no crash leaves values that are not held now
          no_values : (s : ℕ) → s < 2 ^ 64 → p.values.held s ≡ None → HasNoBytes (e (section_key a.pair.layout.values s))
          no_values s small none = elim (none_or_value (a.pair.values.held s)) [
            | inl was ↦ subst HasNoBytes (sym (others (section_key a.pair.layout.values s) (not_touched s small was))) (sound.absent s small was)
            | inr some ↦ elim (cases_lt s b) [
              | inl low ↦ ap longest (gone s low (subst IsSome (sym some.1) refl))
              | inr from ↦ absurd (cc (sym none ∙ (left.stays s from).1.held ∙ some.1))
            ]
          ]

          pub pruned_sound : IsSoundArchive (pruned_archive p refusal rows Tied indices is_written) e
          pruned_sound = record {
            pair = pair_sound;
            decoded = below_or_from b {P = λ s. AllByRecursion (λ x. refusal x.value ≡ None) (list_of p e s)}
                (λ s low. subst (AllByRecursion (λ x. refusal x.value ≡ None)) (sym (no_section_list s low)) tt)
                (λ s from. subst (AllByRecursion (λ x. refusal x.value ≡ None)) (sym (left.lists t s from))
                (all_by (λ x. a.refusal x.value ≡ None) (λ x. refusal x.value ≡ None) (λ x is. refuses x.value ∙ is) (list_of a.pair d s) (sound.decoded s)));
            counted = below_or_from b {P = λ s. glob.section_size p.values s < 2 ^ 64}
                (λ s low. omega (arith, ap glob.size_held (left.removed s low).1))
                (λ s from. omega (arith, sound.counted s, same_size s from));
            absent = λ s small none. subst (λ (l : Layout). HasNoBytes (e (section_key l.values s))) (sym left.layout) (no_values s small none);
            names = subst (λ (l : Layout). LeavesNoForeign l e) (sym left.layout)
                (no_foreign a.pair.layout archive.pair.apart (λ s. s < b) d e (λ q not. others q (λ one. not (one_more a.pair.layout (λ s. (s < b) × IsHeld a.pair.index.sections s) (λ s. (s < b) × IsHeld a.pair.values s) (λ s. s < b) (λ s is. is.0) (λ s is. is.0) q one))) sound.names);
          }
