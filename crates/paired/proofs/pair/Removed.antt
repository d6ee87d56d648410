-- What removing sections leaves of a pair: that it may be used again, is as sound, and has the same lists of the sections that stay.
use Rattle.std.proofs.Common.{◌≡◌, ◌⊎◌, inl, inr, ℕ, zero, suc, ◌*◌, ◌/◌, ◌^◌, ◌<◌, ◌≤◌, Bool, true, false, List, [], length, take, IsTrue, Ok, Option, None, IsSome, unwrap_or, refl, sym, ◌∙◌, ap, subst, arith}
use Rattle.std.specs.Prelude.{◌↔◌, ◌||◌}
use Rattle.std.specs.Int.{w64, to_be_bytes}
use Rattle.std.specs.List.{AllByRecursion}
use Rattle.std.specs.Map.{lookup}
use Rattle.std.specs.Str.{bytes_eq}
use Rattle.std.proofs.lemmas.Bool.{cases_lt, cases_eq, cases_Bool, or_left}
use Rattle.std.proofs.lemmas.List.{nil_from_length}
use Rattle.std.proofs.lemmas.Nat.{div_below}
use Rattle.blob_device.specs.Disk.{Blob, Disk, nothing, settled_at}
use Rattle.blob_device.specs.Opened.{OpenedList}
use Rattle.sealed_pages.specs.declared.page_blob.PageBlob.{PageBlob}
use Rattle.sealed_pages.specs.declared.write_blob.WriteBlob.{WriteBlob}
use Rattle.section_manager.specs.declared.buffer.SectionBuffer as buffer
use Rattle.section_manager.specs.declared.unsealed.WriteFactory.{WriteFactory}
use Rattle.section_manager.specs.Sections.{Sections, section_key, key_of, IsHeld, IsSection, IsGone, IsSame}
use Rattle.section_manager.specs.Setting.{Setting}
use Rattle.segments.specs.FixedLists.{Lists, IsJournal}
use Rattle.segments.specs.FixedLists as fixed
use Rattle.value_codec.specs.Keys.{key8_bytes}
use Rattle.value_codec.specs.declared.key.Key8.{Key8}
use Rattle.meta_store.specs.declared.error.Side.{Side}
use Rattle.meta_store.specs.declared.error.Side.TheVariants.{Left, Right}
use Rattle.meta_store.specs.Blobs.{blob_of}
use Rattle.meta_store.specs.Calls.{IsOpened}
use Rattle.meta_store.specs.Format.{Format}
use Rattle.meta_store.specs.Pairs.{ReadsPair}
use Rattle.meta_store.specs.Store.{Store, Stands, MayBeSynced, chosen_by}
use Rattle.paired.specs.glob.Sections.{IsGlob}
use Rattle.paired.specs.glob.Sections as glob
use Rattle.paired.specs.Kept.{Layout, MarkerMap, IsMarked, marker_of}
use Rattle.paired.specs.Pair.{Pair, synced_length, HasNoBytes, length_of, records_of, list_of, IsPairOn, IsSoundOn, HasSettled, AreMarkers, AreWhole, IsPair}
use Rattle.paired.specs.Places.{Follow, end_of}
use Rattle.paired.specs.Records.{records, entries_of, is_sound}
use Rattle.paired.specs.lemmas.Records.{length-records}
use Rattle.meta_store.specs.declared.copy.Contents.{Contents}
use Rattle.blob_device.proofs.general.Options.{none_or_value}

-- ---- markers below a bound
-- a section has a marker, or none
marked_or_not : (markers : MarkerMap) (s : ℕ) → ((m : ℕ) × IsMarked markers s m) ⊎ ((m : ℕ) → IsMarked markers s m → ⊥)
marked_or_not markers s = elim (cases_lt s (2 ^ 64)) [
  | inl small ↦ elim (none_or_value (lookup (λ k. bytes_eq (key8_bytes k) (to_be_bytes w64 s)) markers)) [
    | inl none ↦ inr (λ m is. absurd (cc (none, is.1)))
    | inr some ↦ inl (some.0, (small, some.1))
  ]
  | inr large ↦ inr (λ m is. absurd (omega (arith, large, is.0)))
]

-- of the sections below a bound one has a marker, or none has
pub marked_below : (markers : MarkerMap) (least : ℕ) → ((s : ℕ) × (s < least) × ((m : ℕ) × IsMarked markers s m)) ⊎ ((s m : ℕ) → s < least → IsMarked markers s m → ⊥)
marked_below markers zero = inr (λ s m lt is. absurd (omega (arith, lt)))
marked_below markers (suc least) = elim (marked_below markers least) [
  | inl found ↦ inl (found.0, omega (arith, found.1), found.2)
  | inr none ↦ elim (marked_or_not markers least) [
    | inl has ↦ inl (least, omega arith, has)
    | inr not ↦ inr (λ s m lt is. elim (cases_eq s least) [
      | inl same ↦ not m (subst (λ (x : ℕ). IsMarked markers x m) same is)
      | inr other ↦ none s m (omega (arith, lt, other)) is
    ])
  ]
]

-- The markers of the sections below a bound were dropped, from a map in which nothing was staged.
module _ (old new : Store Key8 ℕ) (least : ℕ) (still : ((s m : ℕ) → s < least → IsMarked old.entries s m → ⊥) → new ≡ old) (marked : (s m : ℕ) → IsMarked new.entries s m → (least ≤ s) × IsMarked old.entries s m)
    (dropped : new.staged ≡ false → new ≡ old) (fresh : old.staged ≡ false) where
  pub none_staged : ((s m : ℕ) → s < least → IsMarked old.entries s m → ⊥) → new.staged ≡ false
  none_staged none = ap (λ (u : Store Key8 ℕ). u.staged) (still none) ∙ fresh

  pub staged_marked : new.staged ≡ true → (s : ℕ) × (s < least) × ((m : ℕ) × IsMarked old.entries s m)
  staged_marked is = elim (marked_below old.entries least) [
    | inl found ↦ found
    | inr none ↦ absurd (cc (is, none_staged none))
  ]

  pub marked_staged : (s m : ℕ) → s < least → IsMarked old.entries s m → new.staged ≡ true
  marked_staged s m lt is = elim (cases_Bool new.staged) [
    | inl lifted ↦ lifted
    | inr unlifted ↦ absurd (omega (arith, lt, (marked s m (subst (λ (u : Store Key8 ℕ). IsMarked u.entries s m) (sym (dropped unlifted)) is)).0))
  ]

-- ---- what stands while other blobs change
-- a map stands where its copies stay
pub stands_stays : {K V : Type 0} (f : Format K V) (u : Store K V) (synced : Contents K V) (d e : Disk) → ((side : Side) → e (blob_of u.partition side) ≡ d (blob_of u.partition side)) → Stands f u synced d → Stands f u synced e
stands_stays f u synced d e same stands = record {
  left = subst (λ (b : Blob). b ≡ settled_at b.content) (sym (same Left)) stands.left;
  right = subst (λ (b : Blob). b ≡ settled_at b.content) (sym (same Right)) stands.right;
  pair = subst (λ (b : Blob). ReadsPair f b.content (e (blob_of u.partition Right)).content (Ok (chosen_by u synced))) (sym (same Left))
      (subst (λ (b : Blob). ReadsPair f (d (blob_of u.partition Left)).content b.content (Ok (chosen_by u synced))) (sym (same Right)) stands.pair);
  fresh = stands.fresh;
}

-- the records' bytes of a section that stays over a blob that stays
pub index_bytes : {F S : Type 0} {gs : _} (m n : Sections F (PageBlob S gs)) (d e : Disk) (s : ℕ) → n.held s ≡ m.held s → (IsHeld m s → e (key_of n s) ≡ d (key_of m s)) → fixed.section_bytes n e s ≡ fixed.section_bytes m d s
index_bytes {S = S} {gs = gs} m n d e s same blob = elim (none_or_value (m.held s)) [
  | inl none ↦ ap (λ (o : Option (PageBlob S gs)). fixed.bytes_held o (e (key_of n s)).content) (same ∙ none) ∙ sym (ap (λ (o : Option (PageBlob S gs)). fixed.bytes_held o (d (key_of m s)).content) none)
  | inr some ↦ ap (λ (o : Option (PageBlob S gs)). fixed.bytes_held o (e (key_of n s)).content) same ∙ ap (λ (b : Blob). fixed.bytes_held (m.held s) b.content) (blob (subst IsSome (sym some.1) refl))
]

-- ---- the floors after both prunes
-- Whether a section below the bound was removed, and the floor after that.
pub record Pruned {F B : Type 0} (m n : Sections F B) (least : ℕ) (was : Bool) : Type 0 where
  pub flag : IsTrue was ↔ ((s : ℕ) × IsSection m s × (s < least))
  pub floor : IsTrue was → n.floor ≡ least
  pub same_floor : was ≡ false → n.floor ≡ m.floor

module _ {F B : Type 0} (m n : Sections F B) (least : ℕ) (was : Bool) (known : (s : ℕ) → m.unopened s ≡ None) (pruned : Pruned m n least was) where
  flag_held : IsTrue was → (s : ℕ) × IsHeld m s × (s < least)
  flag_held lifted =
      let found = pruned.flag.0 lifted in
      elim found.1 [
        | inl held ↦ (found.0, held, found.2)
        | inr section ↦ absurd (cc (section, known found.0))
      ]

  held_flag : (s : ℕ) → IsHeld m s → s < least → IsTrue was
  held_flag s held lt = pruned.flag.1 (s, inl held, lt)

  flag_same : was ≡ false → (s : ℕ) → IsHeld m s → s < least → ⊥
  flag_same unlifted s held lt = absurd (cc (unlifted, held_flag s held lt))

-- Whether either of the two prunes removed a section. Where the values' one did, the index's one did.
module _ {F B G C : Type 0} (j k : Sections F B) (m n : Sections G C) (least : ℕ) (records frames : Bool) (index_known : (s : ℕ) → j.unopened s ≡ None) (values_known : (s : ℕ) → m.unopened s ≡ None)
    (held : (s : ℕ) → IsHeld m s → IsHeld j s) (index : Pruned j k least records) (values : Pruned m n least frames) where
  either_records : IsTrue (records || frames) → IsTrue records
  either_records is = elim (cases_Bool records) [
    | inl lifted ↦ lifted
    | inr unlifted ↦ (let found = flag_held m n least frames values_known values (subst (λ (b : Bool). IsTrue (b || frames)) unlifted is) in
        held_flag j k least records index_known index found.0 (held found.0 found.1) found.2)
  ]

  pub either_flag : IsTrue (records || frames) ↔ ((s : ℕ) × IsHeld j s × (s < least))
  either_flag = (
    (λ is. flag_held j k least records index_known index (either_records is)),
    (λ found. or_left records frames (held_flag j k least records index_known index found.0 found.1 found.2)),
  )

  pub either_floor : IsTrue (records || frames) → k.floor ≡ least
  either_floor is = index.floor (either_records is)

-- ---- the pair after sections below a bound were removed
module _ {F S : Type 0} {gs : _} (p : Pair F (PageBlob S gs)) (i : Lists F (PageBlob S gs)) (v : Sections WriteFactory WriteBlob) (u : Store Key8 ℕ) (trailing : ℕ → Option ℕ) where
  -- it is stored as before
  abbrev pub after : Pair F (PageBlob S gs)
  after = record { layout = p.layout; index = i; values = v; store = u; trailing = trailing }

  -- The sections below the bound are gone with their markers, and all others are as before.
  pub record IsRemoved (least : ℕ) : Type 0 where
    pub index_gone : (s : ℕ) → s < least → IsGone i.sections s
    pub index_kept : (s : ℕ) → least ≤ s → IsSame p.index.sections i.sections s
    pub values_gone : (s : ℕ) → s < least → IsGone v s
    pub values_kept : (s : ℕ) → least ≤ s → IsSame p.values v s
    pub free : (s : ℕ) → s < least → i.unrecovered s ≡ false
    pub owes : (s : ℕ) → least ≤ s → i.unrecovered s ≡ p.index.unrecovered s
    pub lifted : (s : ℕ) → s < least → i.floor_of s ≡ 0
    pub floors : (s : ℕ) → least ≤ s → i.floor_of s ≡ p.index.floor_of s
    pub below : (s : ℕ) → s < least → (trailing s ≡ None) × (marker_of u.entries s ≡ 0)
    pub above : (s : ℕ) → least ≤ s → (trailing s ≡ p.trailing s) × (marker_of u.entries s ≡ marker_of p.store.entries s)
    pub marked : (s n : ℕ) → IsMarked u.entries s n → (least ≤ s) × IsMarked p.store.entries s n

  module _ (least : ℕ) (removed : IsRemoved least) where
    pub removed_synced : (s : ℕ) → least ≤ s → synced_length after s ≡ synced_length p s
    removed_synced s from = ap (λ (o : Option ℕ). unwrap_or o (marker_of u.entries s)) (removed.above s from).0 ∙ ap (unwrap_or (p.trailing s)) (removed.above s from).1

    removed_none : (s : ℕ) → s < least → synced_length after s ≡ 0
    removed_none s lt = ap (λ (o : Option ℕ). unwrap_or o (marker_of u.entries s)) (removed.below s lt).0 ∙ (removed.below s lt).1

    -- both floors, where each of the two prunes lifted its own only if it removed a section
    pub removed_floors : (records frames : Bool) → AreWhole p → ((s : ℕ) → IsHeld p.index.sections s → p.index.sections.floor ≤ s) → Pruned p.index.sections i.sections least records → Pruned p.values v least frames → v.floor ≤ i.sections.floor
    removed_floors records frames whole from_floor index values = elim (cases_Bool records) [
      | inl lifted ↦ elim (cases_Bool frames) [
        | inl both ↦ omega (arith, index.floor lifted, values.floor both)
        | inr unlifted ↦
            let found = flag_held p.index.sections i.sections least records whole.index_known index lifted in
            omega (arith, index.floor lifted, values.same_floor unlifted, whole.floors, from_floor found.0 found.1, found.2)
      ]
      | inr none ↦ elim (cases_Bool frames) [
        | inl lifted ↦
            let found = flag_held p.values v least frames whole.values_known values lifted in
            absurd (flag_same p.index.sections i.sections least records whole.index_known index none found.0 (whole.values_held found.0 found.1) found.2)
        | inr unlifted ↦ omega (arith, index.same_floor none, values.same_floor unlifted, whole.floors)
      ]
    ]

    removed_whole : AreWhole p → i.sections.ceiling ≡ p.index.sections.ceiling → v.ceiling ≡ p.values.ceiling → v.floor ≤ i.sections.floor → AreWhole after
    removed_whole whole index_ceiling values_ceiling floors = record {
      recovered = λ s. elim (cases_lt s least) [
        | inl lt ↦ removed.free s lt
        | inr from ↦ removed.owes s from ∙ whole.recovered s
      ];
      unfloored = λ s. elim (cases_lt s least) [
        | inl lt ↦ removed.lifted s lt
        | inr from ↦ removed.floors s from ∙ whole.unfloored s
      ];
      index_ceiling = index_ceiling ∙ whole.index_ceiling;
      values_ceiling = values_ceiling ∙ whole.values_ceiling;
      index_known = λ s. elim (cases_lt s least) [
        | inl lt ↦ (removed.index_gone s lt).unopened
        | inr from ↦ (removed.index_kept s from).unopened ∙ whole.index_known s
      ];
      values_known = λ s. elim (cases_lt s least) [
        | inl lt ↦ (removed.values_gone s lt).unopened
        | inr from ↦ (removed.values_kept s from).unopened ∙ whole.values_known s
      ];
      values_held = λ s held. elim (cases_lt s least) [
        | inl lt ↦ absurd (cc (subst IsSome (removed.values_gone s lt).held held))
        | inr from ↦ subst IsSome (sym (removed.index_kept s from).held) (whole.values_held s (subst IsSome (removed.values_kept s from).held held))
      ];
      floors = floors;
    }

    removed_markers : AreMarkers p → AreMarkers after
    removed_markers markers = record {
      marked = λ s n is.
          let was = removed.marked s n is in
          (subst IsSome (sym (removed.index_kept s was.0).held) (markers.marked s n was.1).0, omega (arith, (markers.marked s n was.1).1, removed_synced s was.0));
      trails = λ s n is. elim (cases_lt s least) [
        | inl lt ↦ absurd (cc (is, (removed.below s lt).0))
        | inr from ↦
            let was = markers.trails s n (sym (removed.above s from).0 ∙ is) in
            (subst IsSome (sym (removed.index_kept s from).held) was.0, λ same. was.1 (same ∙ (removed.above s from).1))
      ];
    }

    removed_settled : HasSettled p → HasSettled after
    removed_settled settled = record {
      index = λ s w held. elim (cases_lt s least) [
        | inl lt ↦ absurd (cc (held, (removed.index_gone s lt).held))
        | inr from ↦ subst (λ (n : ℕ). n * p.layout.record_size ≤ w.settled) (sym (removed_synced s from)) (settled.index s w (sym (removed.index_kept s from).held ∙ held))
      ];
      lengths = λ s. elim (cases_lt s least) [
        | inl lt ↦ omega (arith, removed_none s lt)
        | inr from ↦ subst (λ (n : ℕ). n ≤ length_of after s) (sym (removed_synced s from))
            (subst (λ (o : Option (PageBlob S gs)). synced_length p s ≤ fixed.size_held o / p.layout.record_size) (sym (removed.index_kept s from).held) (settled.lengths s))
      ];
    }

    -- where the index blob of each held section below the bound is gone, and no other one changed, no crash brings bytes back
    removed_absent : (d e : Disk) → IsSoundOn p d → ((s : ℕ) → s < least → IsHeld p.index.sections s → e (section_key p.layout.index s) ≡ nothing)
        → ((s : ℕ) → s < 2 ^ 64 → (s < least → IsHeld p.index.sections s → ⊥) → e (section_key p.layout.index s) ≡ d (section_key p.layout.index s))
        → (s : ℕ) → s < 2 ^ 64 → i.sections.held s ≡ None → HasNoBytes (e (section_key p.layout.index s))
    removed_absent d e sound gone others s small none = elim (cases_lt s least) [
      | inl lt ↦ elim (none_or_value (p.index.sections.held s)) [
        | inl absent ↦ subst HasNoBytes (sym (others s small (λ below held. absurd (cc (subst IsSome absent held))))) (sound.absent s small absent)
        | inr some ↦ subst HasNoBytes (sym (gone s lt (subst IsSome (sym some.1) refl))) refl
      ]
      | inr from ↦ subst HasNoBytes (sym (others s small (λ below held. absurd (omega (arith, below, from))))) (sound.absent s small (sym (removed.index_kept s from).held ∙ none))
    ]

    pub removed_pair : {told : Type 0} (g : buffer.Ghosts (PageBlob S gs)) (gives : F → Setting) (h : buffer.Ghosts WriteBlob) (takes : WriteFactory → Setting) (old new : OpenedList) (d e : Disk) → IsPair g gives h takes told p old d
        → IsJournal g gives p.layout.seal p.layout.record_size told i new e → IsGlob h takes told v new e → IsOpened u.partition new → MayBeSynced p.layout.markers u.entries → u.staged ≡ false
        → i.sections.ceiling ≡ p.index.sections.ceiling → v.ceiling ≡ p.values.ceiling → v.floor ≤ i.sections.floor → (told → IsPairOn after e) → IsPair g gives h takes told after new e
    removed_pair g gives h takes old new d e pair index values opened storable synced index_ceiling values_ceiling floors on = record {
      index = index;
      values = values;
      apart = pair.apart;
      whole = removed_whole pair.whole index_ceiling values_ceiling floors;
      markers = removed_markers pair.markers;
      settled = removed_settled pair.settled;
      metadata_opened = opened;
      storable = storable;
      synced = synced;
      disk = on;
    }

    -- the bytes of the sections that stay are as before
    module _ (d e : Disk) (records_kept : (s : ℕ) → least ≤ s → fixed.section_bytes i.sections e s ≡ fixed.section_bytes p.index.sections d s)
        (values_kept : (s : ℕ) → least ≤ s → glob.section_bytes v e s ≡ glob.section_bytes p.values d s) where
      pub removed_list : (s : ℕ) → least ≤ s → list_of after e s ≡ list_of p d s
      removed_list s from = ap (λ (bytes : List ℕ). entries_of p.layout.place p.layout.record_size bytes (glob.section_bytes v e s)) (records_kept s from)
          ∙ ap (entries_of p.layout.place p.layout.record_size (fixed.section_bytes p.index.sections d s)) (values_kept s from)

      -- the records of a section that stays
      same_records : (s : ℕ) → least ≤ s → records_of after e s ≡ records_of p d s
      same_records s from = ap (records p.layout.record_size) (records_kept s from)

      least_of : (n : ℕ) → 0 ≤ n
      least_of n = omega arith

      module _ (pos : 1 ≤ p.layout.record_size) where
        -- a section that is gone has no records
        no_records : (s : ℕ) → s < least → records_of after e s ≡ []
        no_records s lt =
            let none : length (fixed.section_bytes i.sections e s) ≡ 0 = ap (λ (o : Option (PageBlob S gs)). length (fixed.bytes_held o (e (key_of i.sections s)).content)) (removed.index_gone s lt).held in
            let few : length (fixed.section_bytes i.sections e s) / p.layout.record_size < 1 = div_below (length (fixed.section_bytes i.sections e s)) p.layout.record_size 1 (omega (arith, pos)) (omega (arith, none, pos)) in
            nil_from_length (records_of after e s) (omega (arith, few, length-records p.layout.record_size (fixed.section_bytes i.sections e s)))

        pub removed_sound : ((s : ℕ) → s < least → IsHeld p.index.sections s → e (section_key p.layout.index s) ≡ nothing)
            → ((s : ℕ) → s < 2 ^ 64 → (s < least → IsHeld p.index.sections s → ⊥) → e (section_key p.layout.index s) ≡ d (section_key p.layout.index s)) → IsSoundOn p d → IsSoundOn after e
        removed_sound gone others sound = record {
          places = λ s. elim (cases_lt s least) [
            | inl lt ↦ subst (λ (rs : List (List ℕ)). Follow p.layout.place 0 rs (glob.section_size v s)) (sym (no_records s lt)) (sym (ap glob.size_held (removed.values_gone s lt).held))
            | inr from ↦ subst (λ (rs : List (List ℕ)). Follow p.layout.place 0 rs (glob.section_size v s)) (sym (same_records s from))
                (subst (λ (o : Option WriteBlob). Follow p.layout.place 0 (records_of p d s) (glob.size_held o)) (sym (removed.values_kept s from).held) (sound.places s))
          ];
          sound = λ s. elim (cases_lt s least) [
            | inl lt ↦ subst (AllByRecursion (λ r. IsTrue (is_sound p.layout.seal (glob.section_bytes v e s) (p.layout.place r)))) (sym (no_records s lt)) tt
            | inr from ↦ subst (AllByRecursion (λ r. IsTrue (is_sound p.layout.seal (glob.section_bytes v e s) (p.layout.place r)))) (sym (same_records s from))
                (subst (λ (bytes : List ℕ). AllByRecursion (λ r. IsTrue (is_sound p.layout.seal bytes (p.layout.place r))) (records_of p d s)) (sym (values_kept s from)) (sound.sound s))
          ];
          values_settled = λ s. elim (cases_lt s least) [
            | inl lt ↦ subst (λ (n : ℕ). end_of p.layout.place 0 (take n (records_of after e s)) ≤ glob.settled_size v s) (sym (removed_none s lt)) (least_of (glob.settled_size v s))
            | inr from ↦ subst (λ (n : ℕ). end_of p.layout.place 0 (take n (records_of after e s)) ≤ glob.settled_size v s) (sym (removed_synced s from))
                (subst (λ (rs : List (List ℕ)). end_of p.layout.place 0 (take (synced_length p s) rs) ≤ glob.settled_size v s) (sym (same_records s from))
                (subst (λ (o : Option WriteBlob). end_of p.layout.place 0 (take (synced_length p s) (records_of p d s)) ≤ glob.settled_held o) (sym (removed.values_kept s from).held) (sound.values_settled s)))
          ];
          absent = removed_absent d e sound gone others;
        }

-- what holds of a pair with this layout holds of the pair, whose layout it is
pub at_layout : {F B : Type 0} (q : Pair F B) (l : Layout) (Q : Pair F B → Type 0) → q.layout ≡ l → Q (record q { layout = l }) → Q q
at_layout q l Q is has = subst (λ (x : Layout). Q (record q { layout = x })) (sym is) has

pub pair_at : {F S : Type 0} {gs : _} {g : buffer.Ghosts (PageBlob S gs)} {gives : F → Setting} {h : buffer.Ghosts WriteBlob} {takes : WriteFactory → Setting} {told : Type 0} (q : Pair F (PageBlob S gs)) (l : Layout) {opened : OpenedList} {d : Disk}
    → q.layout ≡ l → IsPair g gives h takes told (record q { layout = l }) opened d → IsPair g gives h takes told q opened d
pair_at {g = g} {gives = gives} {h = h} {takes = takes} {told = told} q l {opened = opened} {d = d} is pair = at_layout q l (λ x. IsPair g gives h takes told x opened d) is pair

-- a layout with the same partitions and page size
pub same_layout : (l : Layout) (index values metadata : List ℕ) (page_size : ℕ) → index ≡ l.index → values ≡ l.values → metadata ≡ l.metadata → page_size ≡ l.page_size
    → record l { index = index; values = values; metadata = metadata; page_size = page_size } ≡ l
same_layout l index values metadata page_size first second third last =
    ap (λ (x : List ℕ). record l { index = x; values = values; metadata = metadata; page_size = page_size }) first
    ∙ ap (λ (x : List ℕ). record l { values = x; metadata = metadata; page_size = page_size }) second
    ∙ ap (λ (x : List ℕ). record l { metadata = x; page_size = page_size }) third
    ∙ ap (λ (x : ℕ). record l { page_size = x }) last
