-- A pair whose markers move to what was synced: it may be used, is as sound as it was, and has its lists; which markers move.
use Rattle.std.proofs.Common.{◌≡◌, ◌⊎◌, inl, inr, ℕ, ◌+◌, ◌*◌, ◌^◌, ◌<◌, ◌≤◌, Bool, true, false, List, take, IsTrue, Option, None, Some, IsSome, unwrap_or, refl, sym, ◌∙◌, ap, subst, arith}
use Rattle.std.specs.Prelude.{◌≢◌, zero, suc, cond, Result, Ok, Err, IfOk}
use Rattle.std.specs.List.{AllByRecursion}
use Rattle.std.proofs.lemmas.Bool.{cases_eq}
use Rattle.blob_device.specs.Disk.{Key, Blob, Disk, longest}
use Rattle.blob_device.specs.Opened.{OpenedList}
use Rattle.blob_device.specs.Timeline.{Timeline, disk}
use Rattle.blob_device.specs.lemmas.Moments.{always_start}
use Rattle.sealed_pages.specs.declared.page_blob.PageBlob.{PageBlob}
use Rattle.section_manager.specs.declared.buffer.SectionBuffer as buffer
use Rattle.section_manager.specs.declared.unsealed.WriteFactory.{WriteFactory}
use Rattle.section_manager.specs.Sections.{section_key, key_of, IsHeld}
use Rattle.section_manager.specs.Setting.{Setting}
use Rattle.segments.specs.FixedLists as fixed
use Rattle.value_codec.specs.declared.key.Key8.{Key8}
use Rattle.meta_store.specs.Blobs.{other_side}
use Rattle.meta_store.specs.Calls.{IsOpened}
use Rattle.meta_store.specs.Crashes as metadata
use Rattle.meta_store.specs.Store.{Store, Stands, MayBeSynced, synced_store, contents_of}
use Rattle.paired.specs.Crashes.{IsCopy, Keeping, LeavesAlone}
use Rattle.paired.specs.glob.Sections as glob
use Rattle.paired.specs.Holding.{Facts, AreGood, AreTrue, Holding}
use Rattle.paired.specs.Kept.{Markers, MarkerMap, IsMarked, marker_of, HasNoFloor}
use Rattle.paired.specs.Pair.{Pair, IsPair, IsSoundOn, IsMoving, list_of, length_of, synced_length}
use Rattle.paired.specs.PairSync.{MovesMarkers}
use Rattle.paired.specs.Places.{Follow, end_of}
use Rattle.paired.specs.Records.{records, entries_of, is_sound}
use Rattle.paired.specs.lemmas.Glob.{buffers}
use Rattle.paired.specs.lemmas.pair.Facts.{Parts, are_true, facts_of, good_of, holding_of, index_lasts}
use Rattle.paired.specs.lemmas.pair.Holding.{leaves_of}
use Rattle.paired.specs.lemmas.pair.Synced.{Here}
use Rattle.paired.proofs.pair.Calls.{sync_markers}
use Rattle.paired.proofs.pair.Stays.{journal_stays}
use Rattle.paired.proofs.pair.Sections.{glob_kept}
use Rattle.paired.proofs.pair.Synced.{made, pair_as}
use Rattle.blob_device.proofs.general.Options.{none_or_value}

-- ---- a number below a bound
pub search_below : (Q : ℕ → Type 0) → ((s : ℕ) → Q s ⊎ (Q s → ⊥)) → (n : ℕ) → ((s : ℕ) × (s < n) × Q s) ⊎ ((s : ℕ) → s < n → Q s → ⊥)
search_below Q decides zero = inr (λ s lt is. absurd (omega (arith, lt)))
search_below Q decides (suc n) = elim (decides n) [
  | inl here ↦ inl (n, omega arith, here)
  | inr not ↦ elim (search_below Q decides n) [
    | inl w ↦ inl (w.0, omega (arith, w.1), w.2)
    | inr none ↦ inr (λ s lt is. elim (cases_eq s n) [
      | inl same ↦ not (subst Q same is)
      | inr other ↦ none s (omega (arith, lt, other)) is
    ])
  ]
]

-- ---- markers that move
-- The markers of the sections that are not active are what was synced of them, and nothing trails these; those of the active ones stay.
pub record Moved {F B : Type 0} (p : Pair F B) (IsActive : ℕ → Type 0) (markers : MarkerMap) (trailing : ℕ → Option ℕ) : Type 0 where
  pub trails : (s n : ℕ) → trailing s ≡ Some n → (n ≢ marker_of markers s)
  pub synced : (s : ℕ) → unwrap_or (trailing s) (marker_of markers s) ≡ synced_length p s
  pub moved : (s : ℕ) → (IsActive s → ⊥) → (trailing s ≡ None) × (marker_of markers s ≡ synced_length p s)
  pub active : (s : ℕ) → IsActive s → (trailing s ≡ p.trailing s) × (marker_of markers s ≡ marker_of p.store.entries s)
  pub marked : (s m : ℕ) → IsMarked markers s m → IsMarked p.store.entries s m ⊎ ((IsActive s → ⊥) × (p.trailing s ≡ Some m))

-- the same of the markers after their sync
pub moved_on : {F B : Type 0} (p : Pair F B) (IsActive : ℕ → Type 0) (markers after : MarkerMap) (trailing later : ℕ → Option ℕ) → after ≡ markers → later ≡ trailing → Moved p IsActive markers trailing → Moved p IsActive after later
moved_on p IsActive markers after trailing later same still moved =
    subst (λ (m : MarkerMap). Moved p IsActive m later) (sym same) (subst (λ (t : ℕ → Option ℕ). Moved p IsActive markers t) (sym still) moved)

pub synced_unstaged : {K V : Type 0} (u : Store K V) → (synced_store u).staged ≡ false
synced_unstaged {K = K} {V = V} u = go u.staged refl
  where
    go : (b : Bool) → u.staged ≡ b → (synced_store u).staged ≡ false
    go true is = ap (λ (x : Bool). (cond x (record u { version = u.version + 1; older = other_side u.older; staged = false }) u).staged) is
    go false is = ap (λ (x : Bool). (cond x (record u { version = u.version + 1; older = other_side u.older; staged = false }) u).staged) is ∙ is

pub synced_place : {K V : Type 0} (u : Store K V) → (synced_store u).partition ≡ u.partition
synced_place {K = K} {V = V} u = go u.staged refl
  where
    go : (b : Bool) → u.staged ≡ b → (synced_store u).partition ≡ u.partition
    go true is = ap (λ (x : Bool). (cond x (record u { version = u.version + 1; older = other_side u.older; staged = false }) u).partition) is
    go false is = ap (λ (x : Bool). (cond x (record u { version = u.version + 1; older = other_side u.older; staged = false }) u).partition) is

-- where nothing was staged a sync makes no difference
pub synced_same : {K V : Type 0} (u : Store K V) → u.staged ≡ false → synced_store u ≡ u
synced_same {K = K} {V = V} u is = ap (λ (x : Bool). cond x (record u { version = u.version + 1; older = other_side u.older; staged = false }) u) is

module _ {F S : Type 0} {gs : _} (g : buffer.Ghosts (PageBlob S gs)) (gives : F → Setting) {takes : WriteFactory → Setting} (told : Type 0) (p : Pair F (PageBlob S gs)) (IsActive : ℕ → Type 0) (decides : (s : ℕ) → IsActive s ⊎ (IsActive s → ⊥))
    (o : OpenedList) (d : Disk) (here : Here gives p) (pair : IsPair g gives buffers takes told p o d) where
  -- ---- which ones
  trailing_length : (s n : ℕ) → p.trailing s ≡ Some n → synced_length p s ≡ n
  trailing_length s n is = ap (λ (x : Option ℕ). unwrap_or x (marker_of p.store.entries s)) is

  pub trailing_moves : (s n : ℕ) → (IsActive s → ⊥) → p.trailing s ≡ Some n → IsMoving p (λ _. ⊥) IsActive s
  trailing_moves s n not is = (
    pair.index.over.opened_list.number s (inl (pair.markers.trails s n is).0),
    not,
    inr ((λ never. never), λ same. (pair.markers.trails s n is).1 (sym (trailing_length s n is) ∙ same)),
  )

  -- where none moves, none that is not active trails
  pub none_trails : (((s : ℕ) × IsMoving p (λ _. ⊥) IsActive s) → ⊥) → (s : ℕ) → (IsActive s → ⊥) → p.trailing s ≡ None
  none_trails none s not = elim (none_or_value (p.trailing s)) [
    | inl is ↦ is
    | inr some ↦ absurd (none (s, trailing_moves s some.0 not some.1))
  ]

  Trailing : ℕ → Type 0
  Trailing s = (IsActive s → ⊥) × IsSome (p.trailing s)

  trailing_or_not : (s : ℕ) → Trailing s ⊎ (Trailing s → ⊥)
  unfolding Trailing
  trailing_or_not s = elim (decides s) [
    | inl is ↦ inr (λ w. w.0 is)
    | inr not ↦ elim (none_or_value (p.trailing s)) [
      | inl none ↦ inr (λ w. absurd (cc (subst IsSome none w.1)))
      | inr some ↦ inl (not, subst IsSome (sym some.1) refl)
    ]
  ]

  -- one moves, or none that is not active trails
  pub some_or_none : ((s : ℕ) × IsMoving p (λ _. ⊥) IsActive s) ⊎ ((s : ℕ) → (IsActive s → ⊥) → p.trailing s ≡ None)
  unfolding Trailing
  some_or_none = elim (search_below Trailing trailing_or_not (2 ^ 64)) [
    | inl w ↦ elim (none_or_value (p.trailing w.0)) [
      | inl none ↦ absurd (cc (subst IsSome none w.2.1))
      | inr some ↦ inl (w.0, trailing_moves w.0 some.0 w.2.0 some.1)
    ]
    | inr never ↦ inr (λ s not. elim (none_or_value (p.trailing s)) [
      | inl none ↦ none
      | inr some ↦ absurd (never s (pair.index.over.opened_list.number s (inl (pair.markers.trails s some.0 some.1).0)) (not, subst IsSome (sym some.1) refl))
    ])
  ]

  module _ (markers : MarkerMap) (trailing : ℕ → Option ℕ) (moved : Moved p IsActive markers trailing) where
    -- a marker that moves is another one then
    pub moving_differs : (s : ℕ) → IsMoving p (λ _. ⊥) IsActive s → markers ≡ p.store.entries → ⊥
    moving_differs s (small, not, inl never) same = never.0
    moving_differs s (small, not, inr differs) same = differs.1 (sym (moved.moved s not).1 ∙ ap (λ (m : MarkerMap). marker_of m s) same)

    -- each is of a held section, and at most what was synced
    pub moved_marked : (s m : ℕ) → IsMarked markers s m → IsHeld p.index.sections s × (m ≤ synced_length p s)
    moved_marked s m is = elim (moved.marked s m is) [
      | inl old ↦ pair.markers.marked s m old
      | inr new ↦ ((pair.markers.trails s m new.1).0, omega (arith, trailing_length s m new.1))
    ]

    -- each was there, or is another number than before: what was synced
    pub marked_synced : (s m : ℕ) → IsMarked markers s m
        → IsMarked p.store.entries s m ⊎ ((IsActive s → ⊥) × (m ≡ unwrap_or (trailing s) (marker_of markers s)) × (m ≢ marker_of p.store.entries s))
    marked_synced s m is = elim (moved.marked s m is) [
      | inl old ↦ inl old
      | inr new ↦ inr (new.0, sym (trailing_length s m new.1) ∙ sym (moved.synced s), (pair.markers.trails s m new.1).1)
    ]

    moved_trails : (s n : ℕ) → trailing s ≡ Some n → IsHeld p.index.sections s
    moved_trails s n is = elim (decides s) [
      | inl acts ↦ (pair.markers.trails s n (sym (moved.active s acts).0 ∙ is)).0
      | inr not ↦ absurd (cc ((moved.moved s not).0, is))
    ]

  -- ---- the pair after the markers' sync
  module _ (u : Store Key8 ℕ) (t : ℕ → Option ℕ) (moved : Moved p IsActive u.entries t) (o' : OpenedList) (d' : Disk)
      (blobs : told → (q : Key) → (IsCopy p.layout q → ⊥) → d' q ≡ d q) where
    abbrev pub marked_pair : Pair F (PageBlob S gs)
    marked_pair = record p { store = u; trailing = t }

    index_key_blob : told → (s : ℕ) → d' (key_of p.index.sections s) ≡ d (key_of p.index.sections s)
    index_key_blob x s = blobs x (key_of p.index.sections s) (λ is. pair.apart.metadata (sym here.index ∙ ap (λ (k : Key). k.0) is.1))

    values_key_blob : told → (s : ℕ) → d' (key_of p.values s) ≡ d (key_of p.values s)
    values_key_blob x s = blobs x (key_of p.values s) (λ is. pair.apart.both (sym here.values ∙ ap (λ (k : Key). k.0) is.1))

    index_same : told → (s : ℕ) → fixed.section_bytes p.index.sections d' s ≡ fixed.section_bytes p.index.sections d s
    index_same x s = ap (λ (b : Blob). fixed.bytes_held (p.index.sections.held s) b.content) (index_key_blob x s)

    values_same : told → (s : ℕ) → glob.section_bytes p.values d' s ≡ glob.section_bytes p.values d s
    values_same x s = ap (λ (b : Blob). glob.bytes_held (p.values.held s) b.content) (values_key_blob x s)

    pub marked_lists : told → (s : ℕ) → list_of marked_pair d' s ≡ list_of p d s
    marked_lists x s = ap (λ (b : List ℕ). entries_of p.layout.place p.layout.record_size b (glob.section_bytes p.values d' s)) (index_same x s)
        ∙ ap (entries_of p.layout.place p.layout.record_size (fixed.section_bytes p.index.sections d s)) (values_same x s)

    abbrev AllSound : List ℕ → List ℕ → Type 0
    AllSound b v = AllByRecursion (λ r. IsTrue (is_sound p.layout.seal v (p.layout.place r))) (records p.layout.record_size b)

    pub marked_sound : told → IsSoundOn p d → IsSoundOn marked_pair d'
    marked_sound x sound = record {
      places = λ s. subst (λ (b : List ℕ). Follow p.layout.place 0 (records p.layout.record_size b) (glob.section_size p.values s)) (sym (index_same x s)) (sound.places s);
      sound = λ s. subst (λ (b : List ℕ). AllSound b (glob.section_bytes p.values d' s)) (sym (index_same x s))
          (subst (λ (b : List ℕ). AllSound (fixed.section_bytes p.index.sections d s) b) (sym (values_same x s)) (sound.sound s));
      values_settled = λ s. subst (λ (b : List ℕ). end_of p.layout.place 0 (take (synced_length marked_pair s) (records p.layout.record_size b)) ≤ glob.settled_size p.values s) (sym (index_same x s))
          (subst (λ (n : ℕ). end_of p.layout.place 0 (take n (records p.layout.record_size (fixed.section_bytes p.index.sections d s))) ≤ glob.settled_size p.values s) (sym (moved.synced s)) (sound.values_settled s));
      absent = λ s small none. ap longest (blobs x (section_key p.layout.index s) (λ is. pair.apart.metadata (ap (λ (k : Key). k.0) is.1))) ∙ sound.absent s small none;
    }

    pub marked_again : u.staged ≡ false → MayBeSynced p.layout.markers u.entries → IsOpened u.partition o' → ((q : Key) → (IsCopy p.layout q → ⊥) → o' q ≡ o q) → (told → Stands p.layout.markers u (contents_of u) d')
        → IsPair g gives buffers takes told marked_pair o' d'
    marked_again unstaged storable opened entries stands = record {
      index = journal_stays p.layout.seal p.layout.record_size p.index o o' d d'
          (λ s lt. entries (key_of p.index.sections s) (λ is. pair.apart.metadata (sym here.index ∙ ap (λ (k : Key). k.0) is.1))) (λ t s lt. index_key_blob t s) pair.index;
      values = glob_kept p.values o o' d d' (λ s. entries (key_of p.values s) (λ is. pair.apart.both (sym here.values ∙ ap (λ (k : Key). k.0) is.1))) values_key_blob pair.values;
      apart = pair.apart;
      whole = record {
        recovered = pair.whole.recovered;
        unfloored = pair.whole.unfloored;
        index_ceiling = pair.whole.index_ceiling;
        values_ceiling = pair.whole.values_ceiling;
        index_known = pair.whole.index_known;
        values_known = pair.whole.values_known;
        values_held = pair.whole.values_held;
        floors = pair.whole.floors;
      };
      markers = record {
        marked = λ s m is. ((moved_marked u.entries t moved s m is).0, omega (arith, (moved_marked u.entries t moved s m is).1, moved.synced s));
        trails = λ s n is. (moved_trails u.entries t moved s n is, moved.trails s n is);
      };
      settled = record {
        index = λ s v held. omega (arith, ap (λ (n : ℕ). n * p.layout.record_size) (moved.synced s), pair.settled.index s v held);
        lengths = λ s. omega (arith, moved.synced s, pair.settled.lengths s);
      };
      metadata_opened = opened;
      storable = storable;
      synced = unstaged;
      disk = λ x. record { markers = stands x };
    }

    -- the same of its layout
    module _ (metadata_at : List ℕ) (metadata_is : metadata_at ≡ p.layout.metadata) where
      again : marked_pair ≡ made p p.index p.values t p.layout.index p.layout.values metadata_at p.layout.page_size u
      again = pair_as p p.layout.index p.layout.values metadata_at p.layout.page_size p.index p.values u u t refl refl metadata_is refl refl

      pub marked_as : IsPair g gives buffers takes told marked_pair o' d' → IsPair g gives buffers takes told (made p p.index p.values t p.layout.index p.layout.values metadata_at p.layout.page_size u) o' d'
      marked_as is = subst (λ (q : Pair F (PageBlob S gs)). IsPair g gives buffers takes told q o' d') again is

      pub marked_sound_as : told → IsSoundOn p d → IsSoundOn (made p p.index p.values t p.layout.index p.layout.values metadata_at p.layout.page_size u) d'
      marked_sound_as x sound = subst (λ (q : Pair F (PageBlob S gs)). IsSoundOn q d') again (marked_sound x sound)

-- ---- what a crash leaves while the markers are synced
module _ {F S : Type 0} {gs : _} (g : buffer.Ghosts (PageBlob S gs)) (gives : F → Setting) {takes : WriteFactory → Setting} (told : Type 0) (p : Pair F (PageBlob S gs)) (o : OpenedList) (a b : Timeline)
    (here : Here gives p) (pair : IsPair g gives buffers takes told p o (disk a)) (x : told) (parts : Parts p.layout p.index p.values (synced_length p) (disk a) g gives takes told p.store o)
    (no_floor : HasNoFloor (contents_of p.store)) where
  abbrev facts : ℕ → Facts
  facts = facts_of p.layout p.index p.values (synced_length p) (disk a)

  good : (s : ℕ) → AreGood p.layout (facts s)
  good = good_of p.layout p.index p.values (synced_length p) (disk a) p.store o here.some parts x

  holding : Holding p.layout facts (λ _. ⊥) (contents_of p.store) (contents_of p.store) (disk a)
  holding = holding_of p.layout p.index p.values (synced_length p) (disk a) p.store o here.some parts x no_floor (λ _. ⊥)

  still_marked : AreTrue p.layout facts (disk a) (contents_of p.store)
  still_marked = are_true p.layout p.index p.values (synced_length p) (disk a) p.store o here.some parts x no_floor

  module _ (markers : Markers) (marked : (s m : ℕ) → IsMarked markers.entries s m → IsHeld p.index.sections s × (m ≤ synced_length p s)) (floor : markers.floor ≡ p.store.floor) where
    true_markers : AreTrue p.layout facts (disk a) markers
    true_markers = record {
      sections = λ s m is. elim (none_or_value (p.index.sections.held s)) [
        | inl none ↦ absurd (cc (subst IsSome none (marked s m is).0))
        | inr some ↦ (index_lasts p.layout p.index p.values (synced_length p) (disk a) p.store o here.some parts x s some.0 some.1, (marked s m is).1)
      ];
      floor = floor ∙ no_floor;
    }

    pub markers_keep : metadata.Mapping p.layout.markers p.layout.metadata (contents_of p.store) markers a b → Keeping p.layout (list_of p (disk a)) (synced_length p) (λ _. ⊥) (IsCopy p.layout) a b
    markers_keep maps = sync_markers p.layout here.some pair.apart.values pair.apart.metadata pair.apart.both facts good (λ _. ⊥) (IsCopy p.layout) facts (contents_of p.store) (contents_of p.store) markers a b
        good (λ s. refl) (λ s. omega arith) holding still_marked true_markers (λ q is. is) maps

-- what a write of the copies moves, after which they hold these markers
pub moves_markers : {F B : Type 0} (p : Pair F B) (IsActive : ℕ → Type 0) (v : Store Key8 ℕ) (a b : Timeline) → v.partition ≡ p.layout.metadata → v.floor ≡ p.store.floor
    → ((s m : ℕ) → IsMarked v.entries s m → IsMarked p.store.entries s m ⊎ ((IsActive s → ⊥) × (p.trailing s ≡ Some m)))
    → metadata.Mapping p.layout.markers v.partition (contents_of p.store) (contents_of v) a b → MovesMarkers p IsActive a b
moves_markers p IsActive v a b placed floor marked maps = record {
  moved = contents_of v;
  marked = λ s m is. elim (marked s m is) [
    | inl was ↦ inl was
    | inr moved ↦ inr (moved.0, sym (ap (λ (o : Option ℕ). unwrap_or o (marker_of p.store.entries s)) moved.1))
  ];
  floor = floor;
  moments = subst (λ (k : List ℕ). metadata.Mapping p.layout.markers k (contents_of p.store) (contents_of v) a b) placed maps;
}

-- while no call is made
pub lists_keep : {F S : Type 0} {gs : _} (g : buffer.Ghosts (PageBlob S gs)) (gives : F → Setting) {takes : WriteFactory → Setting} (told : Type 0) (p : Pair F (PageBlob S gs)) (o : OpenedList) (a : Timeline) (here : Here gives p)
    → IsPair g gives buffers takes told p o (disk a) → told → Parts p.layout p.index p.values (synced_length p) (disk a) g gives takes told p.store o → HasNoFloor (contents_of p.store) → (MayTouch : Key → Type 0)
    → Keeping p.layout (list_of p (disk a)) (synced_length p) (λ _. ⊥) MayTouch a a
lists_keep g gives told p o a here pair x parts no_floor MayTouch =
    always_start a (LeavesAlone p.layout (list_of p (disk a)) (synced_length p) (λ _. ⊥) MayTouch (disk a)) (record {
      leaves = leaves_of p.layout here.some (facts_of p.layout p.index p.values (synced_length p) (disk a)) (λ _. ⊥) (contents_of p.store) (contents_of p.store) (disk a)
          (good_of p.layout p.index p.values (synced_length p) (disk a) p.store o here.some parts x) (holding_of p.layout p.index p.values (synced_length p) (disk a) p.store o here.some parts x no_floor (λ _. ⊥));
      others = λ q not. refl;
    })

-- ---- a sync of the sections first
module _ {F S : Type 0} {gs : _} (p q : Pair F (PageBlob S gs)) (IsNamed IsActive : ℕ → Type 0) (decides : (s : ℕ) → IsNamed s ⊎ (IsNamed s → ⊥)) (store : q.store ≡ p.store)
    (named : (s : ℕ) → IsNamed s → synced_length q s ≡ length_of p s) (others : (s : ℕ) → (IsNamed s → ⊥) → synced_length q s ≡ synced_length p s) where
  marker_same : (s : ℕ) → marker_of q.store.entries s ≡ marker_of p.store.entries s
  marker_same s = ap (λ (u : Store Key8 ℕ). marker_of u.entries s) store

  -- the marker moves that a sync of all would move
  pub moving_after : (s : ℕ) → IsMoving q (λ _. ⊥) IsActive s → IsMoving p IsNamed IsActive s
  moving_after s (small, not, inl never) = absurd never.0
  moving_after s (small, not, inr differs) = (
    small,
    not,
    elim (decides s) [
      | inl is ↦ inl (is, λ same. differs.1 (named s is ∙ same ∙ sym (marker_same s)))
      | inr out ↦ inr (out, λ same. differs.1 (others s out ∙ same ∙ sym (marker_same s)))
    ],
  )

  pub moving_before : (s : ℕ) → IsMoving p IsNamed IsActive s → IsMoving q (λ _. ⊥) IsActive s
  moving_before s (small, not, inl differs) = (small, not, inr ((λ never. never), λ same. differs.1 (sym (named s differs.0) ∙ same ∙ marker_same s)))
  moving_before s (small, not, inr differs) = (small, not, inr ((λ never. never), λ same. differs.1 (sym (others s differs.0) ∙ same ∙ marker_same s)))

-- ---- of an answer

pub if_both : {T E : Type 0} (r : Result T E) (P Q R : T → Type 0) → ((v : T) → P v → Q v → R v) → IfOk r P → IfOk r Q → IfOk r R
if_both (Ok v) P Q R more is also = more v is also
if_both (Err e) P Q R more is also = tt
