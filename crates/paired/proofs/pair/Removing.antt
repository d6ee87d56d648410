-- What a pair keeps at each moment while sections are removed: first the markers, then the index blobs, then the value blobs.
use Rattle.std.proofs.Common.{◌≡◌, ◌⊎◌, inl, inr, ℕ, ◌+◌, ◌^◌, ◌<◌, ◌≤◌, cond, Bool, true, false, List, IsSome, IsTrue, None, Some, refl, sym, ◌∙◌, ap, subst, arith}
use Rattle.std.specs.Prelude.{⊤}
use Rattle.std.proofs.lemmas.Bool.{cases_lt}
use Rattle.blob_device.specs.Disk.{Key, Blob, Disk, longest, nothing}
use Rattle.blob_device.specs.Opened.{OpenedList}
use Rattle.blob_device.specs.Timeline.{Timeline, disk, Always}
use Rattle.blob_device.specs.lemmas.Moments.{always_now, always_start, always_then, always_weaker}
use Rattle.sealed_pages.specs.declared.page_blob.PageBlob.{PageBlob}
use Rattle.sealed_pages.specs.declared.write_blob.WriteBlob.{WriteBlob}
use Rattle.section_manager.specs.declared.buffer.SectionBuffer as buffer
use Rattle.section_manager.specs.declared.unsealed.WriteFactory.{WriteFactory}
use Rattle.section_manager.specs.Lasting.{IsGoing, Going, Removing, EntriesLeave}
use Rattle.section_manager.specs.Sections.{Sections, section_key, key_of, IsHeld, IsKnown, IsGone, IsKeyOf, IsOver}
use Rattle.section_manager.specs.Setting.{Setting}
use Rattle.section_manager.specs.lemmas.Keys.{key_injective}
use Rattle.meta_store.specs.lemmas.Sides.{sides_apart}
use Rattle.meta_store.specs.lemmas.Syncing.{stands_keeps}
use Rattle.paired.specs.lemmas.Glob.{buffers}
use Rattle.paired.specs.lemmas.pair.Facts.{Parts, facts_of, good_of, holding_of, proven_of}
use Rattle.section_manager.specs.lemmas.sections.Remove.{gone_unknown}
use Rattle.segments.specs.FixedLists.{Lists}
use Rattle.value_codec.specs.declared.key.Key8.{Key8}
use Rattle.meta_store.specs.declared.error.Side.{Side}
use Rattle.meta_store.specs.declared.error.Side.TheVariants.{Left, Right}
use Rattle.meta_store.specs.Blobs.{blob_of, other_side, OnlyOne}
use Rattle.meta_store.specs.Calls.{IsOpened, OthersOpened}
use Rattle.meta_store.specs.Crashes as metadata
use Rattle.meta_store.specs.Removing as copies
use Rattle.meta_store.specs.Store.{Store, Stands, contents_of, synced_store}
use Rattle.paired.specs.Kept.{Layout, Markers, HasNoFloor, IsMarked}
use Rattle.paired.specs.Crashes.{InOrder, IsCopy, IsIndexOf, IsOneOf, IsOwn, IsValuesOf, Keeping}
use Rattle.paired.specs.Holding.{Facts, list_in, AreGood, AreTrue, Holding}
use Rattle.paired.specs.Pair.{Pair, AreApart, IsPair, IsSoundOn, synced_length}
use Rattle.paired.proofs.pair.Calls.{sync_markers, remove_records, remove_values}
use Rattle.meta_store.specs.declared.copy.Contents.{Contents}
use Rattle.blob_device.proofs.general.Options.{none_or_value}

-- no blob that Q names changed, at no moment
abbrev pub Untouched : (Key → Type 0) → Timeline → Timeline → Type 0
Untouched Q a b = Always a b (λ d. (q : Key) → Q q → d q ≡ disk a q)

untouched_now : (Q : Key → Type 0) (a b : Timeline) → Untouched Q a b → (q : Key) → Q q → disk b q ≡ disk a q
untouched_now Q a b same = always_now a b (λ d. (q : Key) → Q q → d q ≡ disk a q) same

untouched_start : (Q : Key → Type 0) (a : Timeline) → Untouched Q a a
untouched_start Q a = always_start a (λ d. (q : Key) → Q q → d q ≡ disk a q) (λ q is. refl)

untouched_then : (Q : Key → Type 0) (a b c : Timeline) → Untouched Q a b → Untouched Q b c → Untouched Q a c
untouched_then Q a b c first second = always_then a b c (λ d. (q : Key) → Q q → d q ≡ disk a q) first
    (always_weaker b c (λ d. (q : Key) → Q q → d q ≡ disk b q) (λ d. (q : Key) → Q q → d q ≡ disk a q) (λ d same q is. same q is ∙ untouched_now Q a b first q is) second)

untouched_fewer : (Q R : Key → Type 0) (a b : Timeline) → ((q : Key) → R q → Q q) → Untouched Q a b → Untouched R a b
untouched_fewer Q R a b fewer same = always_weaker a b (λ d. (q : Key) → Q q → d q ≡ disk a q) (λ d. (q : Key) → R q → d q ≡ disk a q) (λ d stays q is. stays q (fewer q is)) same

-- blobs of the second kind are as at first, or those of the first kind as at last
abbrev Ordered : (Key → Type 0) → (Key → Type 0) → Timeline → Timeline → Disk → Type 0
Ordered First Second a c d = ((q : Key) → Second q → d q ≡ disk a q) ⊎ ((q : Key) → First q → d q ≡ disk c q)

-- where those of the second kind stay in the first part, and those of the first kind in the second
in_order : (First Second : Key → Type 0) (a b c : Timeline) → Untouched Second a b → Untouched First b c → InOrder First Second a c
in_order First Second a b c first second = always_then a b c (Ordered First Second a c)
    (always_weaker a b (λ d. (q : Key) → Second q → d q ≡ disk a q) (Ordered First Second a c) (λ d same. inl same) first)
    (always_weaker b c (λ d. (q : Key) → First q → d q ≡ disk b q) (Ordered First Second a c) (λ d same. inr (λ q is. same q is ∙ sym (untouched_now First b c second q is))) second)

-- ---- a removal in one partition
module _ {F B : Type 0} (m : Sections F B) (IsDoomed : ℕ → Type 0) (GoesBefore : ℕ → ℕ → Type 0) where
  pub removing_start : (a : Timeline) → Always a a (Removing m IsDoomed GoesBefore (disk a))
  removing_start a = always_start a (Removing m IsDoomed GoesBefore (disk a)) (record {
    going = record { each = λ s doomed. inl refl; order = λ s t first second before. inl refl };
    others = λ q not. refl;
  })

  -- what goes on goes on where no section's blob differs
  going_moves : (IsFew : ℕ → Type 0) (from origin d e : Disk) → ((s : ℕ) → IsFew s → IsDoomed s) → ((s : ℕ) → IsFew s → from (key_of m s) ≡ origin (key_of m s)) → ((s : ℕ) → IsFew s → e (key_of m s) ≡ d (key_of m s))
      → Going m IsDoomed GoesBefore from d → Going m IsFew GoesBefore origin e
  going_moves IsFew from origin d e few was now going = record {
    each = λ s is. subst (λ (x : Blob). IsGoing x (e (key_of m s))) (was s is) (subst (IsGoing (from (key_of m s))) (sym (now s is)) (going.each s (few s is)));
    order = λ s t first second before. elim (going.order s t (few s first) (few t second) before) [
      | inl same ↦ inl (now t second ∙ same ∙ was t second)
      | inr gone ↦ inr (now s first ∙ gone)
    ];
  }

  module _ (partition : List ℕ) (here : m.partition ≡ partition) (P : ℕ → Type 0) (small : (s : ℕ) → IsDoomed s → s < 2 ^ 64) (named : (s : ℕ) → IsDoomed s → P s) where
    -- a blob of a section that P names
    abbrev IsOf : Key → Type 0
    IsOf q = (s : ℕ) × (s < 2 ^ 64) × P s × (q ≡ section_key partition s)

    is_of : (q : Key) → IsKeyOf m IsDoomed q → IsOf q
    is_of q is = (is.0, small is.0 is.1, named is.0 is.1, is.2 ∙ ap (λ (x : List ℕ). section_key x is.0) here)

    removed_others : (from d : Disk) → Removing m IsDoomed GoesBefore from d → (q : Key) → (((s : ℕ) × (s < 2 ^ 64) × P s × (q ≡ section_key partition s)) → ⊥) → d q ≡ from q
    removed_others from d removing q not = removing.others q (λ is. not (is_of q is))

    removed_entries : (old new : OpenedList) → EntriesLeave (IsKeyOf m IsDoomed) old new → (q : Key) → (((s : ℕ) × (s < 2 ^ 64) × P s × (q ≡ section_key partition s)) → ⊥) → new q ≡ old q
    removed_entries old new leave q not = elim (leave q) [
      | inl same ↦ same
      | inr is ↦ absurd (not (is_of q is.0))
    ]

    -- the blob of a section that is not doomed stays
    removed_same : (from d : Disk) → Removing m IsDoomed GoesBefore from d → (s : ℕ) → s < 2 ^ 64 → (IsDoomed s → ⊥) → d (section_key partition s) ≡ from (section_key partition s)
    removed_same from d removing s lt not = subst (λ (x : List ℕ). d (section_key x s) ≡ from (section_key x s)) here
        (removing.others (key_of m s) (λ is. not (subst IsDoomed (sym (key_injective m.partition s is.0 lt (small is.0 is.1) is.2)) is.1)))

    removed_going : (from d : Disk) → Removing m IsDoomed GoesBefore from d → (s : ℕ) → IsDoomed s → IsGoing (from (section_key partition s)) (d (section_key partition s))
    removed_going from d removing s doomed = subst (λ (x : List ℕ). IsGoing (from (section_key x s)) (d (section_key x s))) here (removing.going.each s doomed)

-- both copies are as before, under removal or gone
abbrev pub AreRemoved : List ℕ → Disk → Disk → Type 0
AreRemoved partition from d = (side : Side) → copies.Removes (from (blob_of partition side)) (d (blob_of partition side))

are_removed : (partition : List ℕ) (older : Side) (from d : Disk) → copies.Removing partition older from d → AreRemoved partition from d
are_removed partition Left from d r Left = r.older_blob
are_removed partition Left from d r Right = r.newer_blob
are_removed partition Right from d r Left = r.newer_blob
are_removed partition Right from d r Right = r.older_blob

-- ---- the three parts of a removal
-- The markers change, then index blobs go, then value blobs.
pub record Removes {F G B C : Type 0} (l : Layout) (j : Sections F B) (m : Sections G C) (IsDoomed IsLost : ℕ → Type 0) (a e : Timeline) : Type 0 where
  pub unmarked : Timeline
  pub emptied : Timeline
  pub copies : Untouched (λ q. IsCopy l q → ⊥) a unmarked
  pub records : Always unmarked emptied (Removing j IsDoomed (λ s t. s < t) (disk unmarked))
  pub values : Always emptied e (Removing m IsLost (λ s t. s < t) (disk emptied))

-- what there is of a removal after the markers went, after the index blobs went, and after the value blobs went
abbrev pub markers_gone : {F G B C : Type 0} (l : Layout) (j : Sections F B) (m : Sections G C) (IsDoomed IsLost : ℕ → Type 0) {a b : Timeline} → Untouched (λ q. IsCopy l q → ⊥) a b → Removes l j m IsDoomed IsLost a b
markers_gone l j m IsDoomed IsLost {b = b} copies =
    record { unmarked = b; emptied = b; copies = copies; records = removing_start j IsDoomed (λ s t. s < t) b; values = removing_start m IsLost (λ s t. s < t) b }

abbrev pub records_gone : {F G B C : Type 0} (l : Layout) {j : Sections F B} (m : Sections G C) {IsDoomed : ℕ → Type 0} (IsLost : ℕ → Type 0) {a b c : Timeline} → Untouched (λ q. IsCopy l q → ⊥) a b
    → Always b c (Removing j IsDoomed (λ s t. s < t) (disk b)) → Removes l j m IsDoomed IsLost a c
records_gone l m IsLost {b = b} {c = c} copies records = record { unmarked = b; emptied = c; copies = copies; records = records; values = removing_start m IsLost (λ s t. s < t) c }

abbrev pub values_gone : {F G B C : Type 0} (l : Layout) {j : Sections F B} {m : Sections G C} {IsDoomed IsLost : ℕ → Type 0} {a b c e : Timeline} → Untouched (λ q. IsCopy l q → ⊥) a b
    → Always b c (Removing j IsDoomed (λ s t. s < t) (disk b)) → Always c e (Removing m IsLost (λ s t. s < t) (disk c)) → Removes l j m IsDoomed IsLost a e
values_gone l {b = b} {c = c} copies records values = record { unmarked = b; emptied = c; copies = copies; records = records; values = values }

-- Where the two kinds of blobs are: no two of the partitions are the same, and the sections that go are some of those that P names.
pub record Ways {F G B C : Type 0} (l : Layout) (j : Sections F B) (m : Sections G C) (P IsDoomed IsLost : ℕ → Type 0) : Type 0 where
  pub apart : AreApart l
  pub index_here : j.partition ≡ l.index
  pub values_here : m.partition ≡ l.values
  pub doomed_small : (s : ℕ) → IsDoomed s → s < 2 ^ 64
  pub doomed_named : (s : ℕ) → IsDoomed s → P s
  pub lost_small : (s : ℕ) → IsLost s → s < 2 ^ 64
  pub lost_named : (s : ℕ) → IsLost s → P s

module _ {F G B C : Type 0} {l : Layout} {j : Sections F B} {m : Sections G C} {P IsDoomed IsLost : ℕ → Type 0} (ways : Ways l j m P IsDoomed IsLost) where
  -- where index blobs alone go, and value blobs alone
  index_only : (a b : Timeline) → Always a b (Removing j IsDoomed (λ s t. s < t) (disk a)) → Untouched (λ q. IsIndexOf l P q → ⊥) a b
  index_only a b removing = always_weaker a b (Removing j IsDoomed (λ s t. s < t) (disk a)) (λ d. (q : Key) → (IsIndexOf l P q → ⊥) → d q ≡ disk a q)
      (λ d r. removed_others j IsDoomed (λ s t. s < t) l.index ways.index_here P ways.doomed_small ways.doomed_named (disk a) d r) removing

  values_only : (a b : Timeline) → Always a b (Removing m IsLost (λ s t. s < t) (disk a)) → Untouched (λ q. IsValuesOf l P q → ⊥) a b
  values_only a b removing = always_weaker a b (Removing m IsLost (λ s t. s < t) (disk a)) (λ d. (q : Key) → (IsValuesOf l P q → ⊥) → d q ≡ disk a q)
      (λ d r. removed_others m IsLost (λ s t. s < t) l.values ways.values_here P ways.lost_small ways.lost_named (disk a) d r) removing

  -- a copy is no blob of a section, and an index blob is no value blob
  copy_index : (q : Key) → IsCopy l q → IsIndexOf l P q → ⊥
  copy_index q copy is = ways.apart.metadata (ap (λ (k : Key). k.0) (sym is.3 ∙ copy.1))

  copy_values : (q : Key) → IsCopy l q → IsValuesOf l P q → ⊥
  copy_values q copy is = ways.apart.both (ap (λ (k : Key). k.0) (sym is.3 ∙ copy.1))

  index_values : (q : Key) → IsIndexOf l P q → IsValuesOf l P q → ⊥
  index_values q index is = ways.apart.values (ap (λ (k : Key). k.0) (sym index.3 ∙ is.3))

  module _ (a e : Timeline) (removes : Removes l j m IsDoomed IsLost a e) where
    -- the copies stay once the markers have gone
    copies_stay : Untouched (IsCopy l) removes.unmarked e
    copies_stay = untouched_then (IsCopy l) removes.unmarked removes.emptied e
        (untouched_fewer (λ q. IsIndexOf l P q → ⊥) (IsCopy l) removes.unmarked removes.emptied copy_index (index_only removes.unmarked removes.emptied removes.records))
        (untouched_fewer (λ q. IsValuesOf l P q → ⊥) (IsCopy l) removes.emptied e copy_values (values_only removes.emptied e removes.values))

    pub markers_first : InOrder (IsCopy l) (IsIndexOf l P) a e
    markers_first = in_order (IsCopy l) (IsIndexOf l P) a removes.unmarked e
        (untouched_fewer (λ q. IsCopy l q → ⊥) (IsIndexOf l P) a removes.unmarked (λ q is copy. copy_index q copy is) removes.copies) copies_stay

    -- value blobs stay until the index blobs have gone
    values_wait : Untouched (IsValuesOf l P) a removes.emptied
    values_wait = untouched_then (IsValuesOf l P) a removes.unmarked removes.emptied
        (untouched_fewer (λ q. IsCopy l q → ⊥) (IsValuesOf l P) a removes.unmarked (λ q is copy. copy_values q copy is) removes.copies)
        (untouched_fewer (λ q. IsIndexOf l P q → ⊥) (IsValuesOf l P) removes.unmarked removes.emptied (λ q is index. index_values q index is) (index_only removes.unmarked removes.emptied removes.records))

    pub records_first : InOrder (IsIndexOf l P) (IsValuesOf l P) a e
    records_first = in_order (IsIndexOf l P) (IsValuesOf l P) a removes.emptied e
        values_wait
        (untouched_fewer (λ q. IsValuesOf l P q → ⊥) (IsIndexOf l P) removes.emptied e (λ q is. index_values q is) (values_only removes.emptied e removes.values))

    -- where no marker goes, no copy changes
    pub copies_alone : Untouched (IsCopy l) a removes.unmarked → Untouched (IsCopy l) a e
    copies_alone same = untouched_then (IsCopy l) a removes.unmarked e same copies_stay

    -- what holds of the copies until the markers have gone holds of them to the end
    copies_hold : (C : Disk → Type 0) → ((d x : Disk) → ((q : Key) → IsCopy l q → x q ≡ d q) → C d → C x) → Always a removes.unmarked C → Always a e C
    copies_hold C moves holds = always_then a removes.unmarked e C holds
        (always_weaker removes.unmarked e (λ d. (q : Key) → IsCopy l q → d q ≡ disk removes.unmarked q) C (λ d same. moves (disk removes.unmarked) d same (always_now a removes.unmarked C holds)) copies_stay)

    pub copy_stays : (side : Side) → Always a removes.unmarked (λ d. d (blob_of l.metadata side) ≡ disk a (blob_of l.metadata side)) → Always a e (λ d. d (blob_of l.metadata side) ≡ disk a (blob_of l.metadata side))
    copy_stays side stays = copies_hold (λ d. d (blob_of l.metadata side) ≡ disk a (blob_of l.metadata side)) (λ d x same is. same (blob_of l.metadata side) (side, refl) ∙ is) stays

    pub copies_go : Always a removes.unmarked (AreRemoved l.metadata (disk a)) → Always a e (AreRemoved l.metadata (disk a))
    copies_go going = copies_hold (AreRemoved l.metadata (disk a))
        (λ d x same is side. subst (copies.Removes (disk a (blob_of l.metadata side))) (sym (same (blob_of l.metadata side) (side, refl))) (is side)) going

    -- none but those of the records and of the values that go, and the copies
    pub one_alone : (D L : ℕ → Type 0) → ((s : ℕ) → IsDoomed s → D s) → ((s : ℕ) → IsLost s → L s) → Untouched (λ q. IsOneOf l D L q → ⊥) a e
    one_alone D L doomed lost = untouched_then (λ q. IsOneOf l D L q → ⊥) a removes.unmarked e
        (untouched_fewer (λ q. IsCopy l q → ⊥) (λ q. IsOneOf l D L q → ⊥) a removes.unmarked (λ q not copy. not (inr (inr copy))) removes.copies)
        (untouched_then (λ q. IsOneOf l D L q → ⊥) removes.unmarked removes.emptied e
        (always_weaker removes.unmarked removes.emptied (Removing j IsDoomed (λ s t. s < t) (disk removes.unmarked)) (λ d. (q : Key) → (IsOneOf l D L q → ⊥) → d q ≡ disk removes.unmarked q)
        (λ d removing q not. removing.others q (λ is. not (inl (is.0, ways.doomed_small is.0 is.1, doomed is.0 is.1, is.2 ∙ ap (λ (x : List ℕ). section_key x is.0) ways.index_here)))) removes.records)
        (always_weaker removes.emptied e (Removing m IsLost (λ s t. s < t) (disk removes.emptied)) (λ d. (q : Key) → (IsOneOf l D L q → ⊥) → d q ≡ disk removes.emptied q)
        (λ d removing q not. removing.others q (λ is. not (inr (inl (is.0, ways.lost_small is.0 is.1, lost is.0 is.1, is.2 ∙ ap (λ (x : List ℕ). section_key x is.0) ways.values_here))))) removes.values))

    -- no section's blob changes while the markers go
    pub sections_wait : (q : Key) → (IsIndexOf l P q ⊎ IsValuesOf l P q) → disk removes.unmarked q ≡ disk a q
    sections_wait q is = untouched_now (λ x. IsCopy l x → ⊥) a removes.unmarked removes.copies q (λ copy. elim is [
      | inl index ↦ copy_index q copy index
      | inr values ↦ copy_values q copy values
    ])

    -- a doomed section's index blob is untouched while the markers go, and again while values go
    index_key : (s : ℕ) → IsDoomed s → IsIndexOf l P (key_of j s)
    index_key s doomed = (s, ways.doomed_small s doomed, ways.doomed_named s doomed, ap (λ (x : List ℕ). section_key x s) ways.index_here)

    was : (s : ℕ) → IsDoomed s → disk removes.unmarked (key_of j s) ≡ disk a (key_of j s)
    was s doomed = untouched_now (λ q. IsCopy l q → ⊥) a removes.unmarked removes.copies (key_of j s) (λ copy. copy_index (key_of j s) copy (index_key s doomed))

    went : Removing j IsDoomed (λ s t. s < t) (disk removes.unmarked) (disk removes.emptied)
    went = always_now removes.unmarked removes.emptied (Removing j IsDoomed (λ s t. s < t) (disk removes.unmarked)) removes.records

    pub ascending : (IsFew : ℕ → Type 0) → ((s : ℕ) → IsFew s → IsDoomed s) → Always a e (Going j IsFew (λ s t. s < t) (disk a))
    ascending IsFew few = always_then a removes.unmarked e (Going j IsFew (λ s t. s < t) (disk a))
        (always_weaker a removes.unmarked (λ d. (q : Key) → (IsCopy l q → ⊥) → d q ≡ disk a q) (Going j IsFew (λ s t. s < t) (disk a)) (λ d same. record {
          each = λ s is. inl (same (key_of j s) (λ copy. copy_index (key_of j s) copy (index_key s (few s is))));
          order = λ s t first second before. inl (same (key_of j t) (λ copy. copy_index (key_of j t) copy (index_key t (few t second))));
        }) removes.copies)
        (always_then removes.unmarked removes.emptied e (Going j IsFew (λ s t. s < t) (disk a))
        (always_weaker removes.unmarked removes.emptied (Removing j IsDoomed (λ s t. s < t) (disk removes.unmarked)) (Going j IsFew (λ s t. s < t) (disk a))
        (λ d r. going_moves j IsDoomed (λ s t. s < t) IsFew (disk removes.unmarked) (disk a) d d few (λ s is. was s (few s is)) (λ s is. refl) r.going) removes.records)
        (always_weaker removes.emptied e (λ d. (q : Key) → (IsValuesOf l P q → ⊥) → d q ≡ disk removes.emptied q) (Going j IsFew (λ s t. s < t) (disk a))
        (λ d same. going_moves j IsDoomed (λ s t. s < t) IsFew (disk removes.unmarked) (disk a) (disk removes.emptied) d few (λ s is. was s (few s is)) (λ s is. same (key_of j s) (index_values (key_of j s) (index_key s (few s is)))) went.going)
        (values_only removes.emptied e removes.values)))

    values_key : (s : ℕ) → IsLost s → IsValuesOf l P (key_of m s)
    values_key s lost = (s, ways.lost_small s lost, ways.lost_named s lost, ap (λ (x : List ℕ). section_key x s) ways.values_here)

    pub values_ascending : (IsFew : ℕ → Type 0) → ((s : ℕ) → IsFew s → IsLost s) → Always a e (Going m IsFew (λ s t. s < t) (disk a))
    values_ascending IsFew few = always_then a removes.emptied e (Going m IsFew (λ s t. s < t) (disk a))
        (always_weaker a removes.emptied (λ d. (q : Key) → IsValuesOf l P q → d q ≡ disk a q) (Going m IsFew (λ s t. s < t) (disk a)) (λ d same. record {
          each = λ s is. inl (same (key_of m s) (values_key s (few s is)));
          order = λ s t first second before. inl (same (key_of m t) (values_key t (few t second)));
        }) values_wait)
        (always_weaker removes.emptied e (Removing m IsLost (λ s t. s < t) (disk removes.emptied)) (Going m IsFew (λ s t. s < t) (disk a))
        (λ d r. going_moves m IsLost (λ s t. s < t) IsFew (disk removes.emptied) (disk a) d d few (λ s is. untouched_now (IsValuesOf l P) a removes.emptied values_wait (key_of m s) (values_key s (few s is))) (λ s is. refl) r.going) removes.values)

    -- an index blob, before the index goes and after, and a value blob before values go
    pub index_first : (s : ℕ) → disk removes.unmarked (section_key l.index s) ≡ disk a (section_key l.index s)
    index_first s = untouched_now (λ q. IsCopy l q → ⊥) a removes.unmarked removes.copies (section_key l.index s) (λ copy. ways.apart.metadata (ap (λ (k : Key). k.0) copy.1))

    pub index_last : (s : ℕ) → disk e (section_key l.index s) ≡ disk removes.emptied (section_key l.index s)
    index_last s = untouched_now (λ q. IsValuesOf l P q → ⊥) removes.emptied e (values_only removes.emptied e removes.values) (section_key l.index s) (λ is. ways.apart.values (ap (λ (k : Key). k.0) is.3))

    pub values_first : (s : ℕ) → disk removes.emptied (section_key l.values s) ≡ disk a (section_key l.values s)
    values_first s =
        untouched_now (λ q. IsIndexOf l P q → ⊥) removes.unmarked removes.emptied (index_only removes.unmarked removes.emptied removes.records) (section_key l.values s) (λ is. ways.apart.values (ap (λ (k : Key). k.0) (sym is.3)))
        ∙ untouched_now (λ q. IsCopy l q → ⊥) a removes.unmarked removes.copies (section_key l.values s) (λ copy. ways.apart.both (ap (λ (k : Key). k.0) copy.1))

    pub copies_last : (side : Side) → disk e (blob_of l.metadata side) ≡ disk removes.unmarked (blob_of l.metadata side)
    copies_last side = untouched_now (IsCopy l) removes.unmarked e copies_stay (blob_of l.metadata side) (side, refl)

    -- the index blob of a section that does not go
    pub index_undoomed : (s : ℕ) → s < 2 ^ 64 → (IsDoomed s → ⊥) → disk e (section_key l.index s) ≡ disk a (section_key l.index s)
    index_undoomed s lt not = index_last s ∙ removed_same j IsDoomed (λ s t. s < t) l.index ways.index_here P ways.doomed_small ways.doomed_named (disk removes.unmarked) (disk removes.emptied) went s lt not ∙ index_first s

  -- ---- the list of opened blobs, before the removal, after the markers went, after the index went, and after it
  module _ (o0 o1 o2 o3 : OpenedList) (unmarked : OthersOpened l.metadata o0 o1) (records : EntriesLeave (IsKeyOf j IsDoomed) o1 o2) (values : EntriesLeave (IsKeyOf m IsLost) o2 o3) where
    pub own_entries : (q : Key) → (IsOwn l P q → ⊥) → o3 q ≡ o0 q
    own_entries q not =
        removed_entries m IsLost (λ s t. s < t) l.values ways.values_here P ways.lost_small ways.lost_named o2 o3 values q (λ is. not (inr (inl is)))
        ∙ removed_entries j IsDoomed (λ s t. s < t) l.index ways.index_here P ways.doomed_small ways.doomed_named o1 o2 records q (λ is. not (inl is))
        ∙ unmarked q (λ is. not (inr (inr (Left, is)))) (λ is. not (inr (inr (Right, is))))

    pub index_opened : (s : ℕ) → o1 (section_key l.index s) ≡ o0 (section_key l.index s)
    index_opened s = unmarked (section_key l.index s) (λ is. ways.apart.metadata (ap (λ (k : Key). k.0) is)) (λ is. ways.apart.metadata (ap (λ (k : Key). k.0) is))

    pub index_still_opened : (s : ℕ) → o3 (section_key l.index s) ≡ o2 (section_key l.index s)
    index_still_opened s = removed_entries m IsLost (λ s t. s < t) l.values ways.values_here P ways.lost_small ways.lost_named o2 o3 values (section_key l.index s) (λ is. ways.apart.values (ap (λ (k : Key). k.0) is.3))

    pub values_opened : (s : ℕ) → o2 (section_key l.values s) ≡ o0 (section_key l.values s)
    values_opened s =
        removed_entries j IsDoomed (λ s t. s < t) l.index ways.index_here P ways.doomed_small ways.doomed_named o1 o2 records (section_key l.values s) (λ is. ways.apart.values (ap (λ (k : Key). k.0) (sym is.3)))
        ∙ unmarked (section_key l.values s) (λ is. ways.apart.both (ap (λ (k : Key). k.0) is)) (λ is. ways.apart.both (ap (λ (k : Key). k.0) is))

    pub copies_opened : (side : Side) → o3 (blob_of l.metadata side) ≡ o1 (blob_of l.metadata side)
    copies_opened side =
        removed_entries m IsLost (λ s t. s < t) l.values ways.values_here P ways.lost_small ways.lost_named o2 o3 values (blob_of l.metadata side) (λ is. ways.apart.both (ap (λ (k : Key). k.0) (sym is.3)))
        ∙ removed_entries j IsDoomed (λ s t. s < t) l.index ways.index_here P ways.doomed_small ways.doomed_named o1 o2 records (blob_of l.metadata side) (λ is. ways.apart.metadata (ap (λ (k : Key). k.0) (sym is.3)))

-- nothing left the list
pub none_leave : (P : Key → Type 0) (o : OpenedList) → EntriesLeave P o o
none_leave P o q = inl refl

-- a map's calls touch its copies alone
pub only_copies : (l : Layout) (u : Store Key8 ℕ) (a b : Timeline) → u.partition ≡ l.metadata → Always a b (OnlyOne u.partition u.older (disk a)) → Untouched (λ q. IsCopy l q → ⊥) a b
only_copies l u a b here only = always_weaker a b (OnlyOne u.partition u.older (disk a)) (λ d. (q : Key) → (IsCopy l q → ⊥) → d q ≡ disk a q)
    (λ d same q not. same q (λ is. not (u.older, is ∙ ap (λ (x : List ℕ). blob_of x u.older) here))) only

pub only_copies_go : (l : Layout) (u : Store Key8 ℕ) (a b : Timeline) → u.partition ≡ l.metadata → Always a b (copies.Removing u.partition u.older (disk a)) → Untouched (λ q. IsCopy l q → ⊥) a b
only_copies_go l u a b here going = always_weaker a b (copies.Removing u.partition u.older (disk a)) (λ d. (q : Key) → (IsCopy l q → ⊥) → d q ≡ disk a q)
    (λ d r q not. r.others q (λ is. not (Left, is ∙ ap (λ (x : List ℕ). blob_of x Left) here)) (λ is. not (Right, is ∙ ap (λ (x : List ℕ). blob_of x Right) here))) going

-- the newer copy stays while the older one is written
pub newer_stays : (l : Layout) (u : Store Key8 ℕ) (side : Side) (a b : Timeline) → u.partition ≡ l.metadata → u.older ≡ side → Always a b (OnlyOne u.partition u.older (disk a))
    → Always a b (λ d. d (blob_of l.metadata (other_side side)) ≡ disk a (blob_of l.metadata (other_side side)))
newer_stays l u side a b here older only = always_weaker a b (OnlyOne u.partition u.older (disk a)) (λ d. d (blob_of l.metadata (other_side side)) ≡ disk a (blob_of l.metadata (other_side side)))
    (λ d same. same (blob_of l.metadata (other_side side)) (λ is. sides_apart l.metadata side (is ∙ ap (λ (x : List ℕ). blob_of x u.older) here ∙ ap (blob_of l.metadata) older))) only

pub copies_removed : (u : Store Key8 ℕ) (a b : Timeline) → Always a b (copies.Removing u.partition u.older (disk a)) → Always a b (AreRemoved u.partition (disk a))
copies_removed u a b going = always_weaker a b (copies.Removing u.partition u.older (disk a)) (AreRemoved u.partition (disk a)) (λ d r. are_removed u.partition u.older (disk a) d r) going

-- nothing changed
pub untouched_same : (Q : Key → Type 0) (a b : Timeline) → b ≡ a → Untouched Q a b
untouched_same Q a b same = subst (Untouched Q a) (sym same) (untouched_start Q a)

-- markers that stand, where the layout says
pub settled_keeps : (l : Layout) (u : Store Key8 ℕ) (held : Contents Key8 ℕ) (d : Disk) → u.partition ≡ l.metadata → Stands l.markers u held d → metadata.Keeps l.markers l.metadata held held d
settled_keeps l u held d here stands = subst (λ (x : List ℕ). metadata.Keeps l.markers x held held d) here (stands_keeps l.markers u held held d stands)

-- a sync leaves a map where it is
pub synced_partition : (u : Store Key8 ℕ) → (synced_store u).partition ≡ u.partition
synced_partition u = by u.staged
  where
    by : (b : Bool) → (cond b (record u { version = u.version + 1; older = other_side u.older; staged = false }) u).partition ≡ u.partition
    by true = refl
    by false = refl

-- and staged nothing
pub synced_fresh : (u : Store Key8 ℕ) → (synced_store u).staged ≡ false
synced_fresh u = by u.staged refl
  where
    by : (b : Bool) → u.staged ≡ b → (cond b (record u { version = u.version + 1; older = other_side u.older; staged = false }) u).staged ≡ false
    by true is = refl
    by false is = is

-- the copies stay opened
pub opened_stays : (partition : List ℕ) (old new : OpenedList) → ((side : Side) → new (blob_of partition side) ≡ old (blob_of partition side)) → IsOpened partition old → IsOpened partition new
opened_stays partition old new same opened = record { left = subst IsSome (sym (same Left)) opened.left; right = subst IsSome (sym (same Right)) opened.right }

-- no blob is there of a section that is neither held nor known
pub gone_absent : {F B : Type 0} {g : buffer.Ghosts B} {gives : F → Setting} {told : Type 0} (n : Sections F B) (opened : OpenedList) (d : Disk) → IsOver g gives told n opened d → told
    → (s : ℕ) → s < 2 ^ 64 → IsGone n s → IsTrue (d (key_of n s)).there → ⊥
gone_absent n opened d over t s small gone there = gone_unknown n s gone ((over.disk t).whose s small there)

-- ---- what is kept of the lists
-- the three parts of a sound pair, whose partitions are those of its layout
pub parts_of : {F S : Type 0} {gs : _} {g : buffer.Ghosts (PageBlob S gs)} {gives : F → Setting} {takes : WriteFactory → Setting} {told : Type 0} (p : Pair F (PageBlob S gs)) (opened : OpenedList) (d : Disk)
    → IsPair g gives buffers takes told p opened d → told → IsSoundOn p d → p.index.sections.partition ≡ p.layout.index → p.values.partition ≡ p.layout.values → p.store.partition ≡ p.layout.metadata → IsTrue p.layout.marked
    → ((s : ℕ) (v : PageBlob S gs) → p.index.sections.held s ≡ Some v → v.page_size ≡ p.layout.page_size) → Parts p.layout p.index p.values (synced_length p) d g gives takes told p.store opened
parts_of p opened d pair t sound index_here values_here store_here is_marked paged = record {
  journal = pair.index;
  values = pair.values;
  store = (pair.disk t).markers;
  proven = proven_of pair.whole;
  index_here = index_here;
  values_here = values_here;
  store_here = store_here;
  is_marked = is_marked;
  paged = paged;
  absent = sound.absent;
  marked = pair.markers.marked;
  good = λ s. record {
    places = sound.places s;
    sound = sound.sound s;
    index_settled = pair.settled.index s;
    values_settled = sound.values_settled s;
    lengths = pair.settled.lengths s;
  };
}

-- A pair between calls, of which sections that P names are removed: those have none of the new markers, all of which are old ones.
module _ {F G S : Type 0} {gs : _} {l : Layout} {j : Lists F (PageBlob S gs)} {m : Sections G WriteBlob} {synced : ℕ → ℕ} {u : Store Key8 ℕ} {opened : OpenedList} {P IsDoomed IsLost : ℕ → Type 0}
    {g : buffer.Ghosts (PageBlob S gs)} {gives : F → Setting} {takes : G → Setting} {told : Type 0} (ways : Ways l j.sections m P IsDoomed IsLost) (pos : 1 ≤ l.record_size) (a : Timeline) (parts : Parts l j m synced (disk a) g gives takes told u opened) (t : told)
    (old_floor : HasNoFloor (contents_of u)) (decides : (s : ℕ) → P s ⊎ (P s → ⊥)) (new : Markers) (no_floor : HasNoFloor new) (fewer : (s n : ℕ) → IsMarked new.entries s n → IsMarked u.entries s n) (gone : (s n : ℕ) → P s → IsMarked new.entries s n → ⊥)
    (b : Timeline) (maps : metadata.Mapping l.markers l.metadata (contents_of u) new a b) where
  -- what is known of the sections
  abbrev known : ℕ → Facts
  known = facts_of l j m synced (disk a)

  good : (s : ℕ) → AreGood l (facts_of l j m synced (disk a) s)
  good = good_of l j m synced (disk a) u opened pos parts t

  holding : Holding l (facts_of l j m synced (disk a)) P (contents_of u) (contents_of u) (disk a)
  holding = holding_of l j m synced (disk a) u opened pos parts t old_floor P

  still : AreTrue l (facts_of l j m synced (disk a)) (disk a) new
  still = record { sections = λ s n is. holding.one_marked.sections s n (fewer s n is); floor = no_floor }

  -- where the removal of the markers fails
  pub keeps_markers : Keeping l (λ s. list_in l (facts_of l j m synced (disk a) s)) synced P (IsOwn l P) a b
  keeps_markers = sync_markers l pos ways.apart.values ways.apart.metadata ways.apart.both known good P (IsOwn l P) known (contents_of u) (contents_of u) new a b good (λ s. refl) (λ s. omega arith) holding holding.one_marked still (λ q is. inr (inr is)) maps

  module _ (settled : metadata.Keeps l.markers l.metadata new new (disk b)) (doomed_held : (s : ℕ) → IsDoomed s → IsHeld j.sections s) (doomed_of : (s : ℕ) → P s → IsHeld j.sections s → IsDoomed s)
      (c : Timeline) (records : Always b c (Removing j.sections IsDoomed (λ s t. s < t) (disk b))) where
    not_doomed : (s : ℕ) → j.sections.held s ≡ None → IsDoomed s → ⊥
    not_doomed s none doomed = cc (subst IsSome none (doomed_held s doomed))

    going : (d : Disk) → Removing j.sections IsDoomed (λ s t. s < t) (disk b) d → (s : ℕ) → s < 2 ^ 64 → P s → IsGoing (disk b (section_key l.index s)) (d (section_key l.index s))
    going d r s lt is = elim (none_or_value (j.sections.held s)) [
      | inl none ↦ inl (removed_same j.sections IsDoomed (λ s t. s < t) l.index parts.index_here P ways.doomed_small ways.doomed_named (disk b) d r s lt (not_doomed s none))
      | inr some ↦ removed_going j.sections IsDoomed (λ s t. s < t) l.index parts.index_here P ways.doomed_small ways.doomed_named (disk b) d r s (doomed_of s is (subst IsSome (sym some.1) refl))
    ]

    index_others : (d : Disk) → Removing j.sections IsDoomed (λ s t. s < t) (disk b) d → (q : Key) → (IsIndexOf l P q → ⊥) → d q ≡ disk b q
    index_others d r = removed_others j.sections IsDoomed (λ s t. s < t) l.index parts.index_here P ways.doomed_small ways.doomed_named (disk b) d r

    -- where the removal of records fails
    pub keeps_records : Keeping l (λ s. list_in l (facts_of l j m synced (disk a) s)) synced P (IsOwn l P) a c
    keeps_records = remove_records l pos ways.apart.values ways.apart.metadata ways.apart.both known good P (IsOwn l P) (contents_of u) new P P decides decides (λ q is. inr (inr is)) (λ q is. inl is) (λ q is. inr (inl is))
        (λ s is. (is, λ n marked. gone s n is marked)) a b holding still maps settled c (Removing j.sections IsDoomed (λ s t. s < t) (disk b)) records index_others going

    module _ (e : Timeline) (values : Always c e (Removing m IsLost (λ s t. s < t) (disk c)))
        (emptied : (s : ℕ) → P s → IsHeld j.sections s → disk c (section_key l.index s) ≡ nothing) where
      bare : (s : ℕ) → s < 2 ^ 64 → P s → longest (disk c (section_key l.index s)) ≡ 0
      bare s lt is = elim (none_or_value (j.sections.held s)) [
        | inl none ↦ ap longest (removed_same j.sections IsDoomed (λ s t. s < t) l.index parts.index_here P ways.doomed_small ways.doomed_named (disk b) (disk c)
            (always_now b c (Removing j.sections IsDoomed (λ s t. s < t) (disk b)) records) s lt (not_doomed s none)
            ∙ (always_now a b (metadata.KeepsAlone l.markers l.metadata (contents_of u) new (disk a)) maps).others (section_key l.index s) (λ is. ways.apart.metadata (ap (λ (k : Key). k.0) is)) (λ is. ways.apart.metadata (ap (λ (k : Key). k.0) is)))
            ∙ parts.absent s lt none
        | inr some ↦ ap longest (emptied s is (subst IsSome (sym some.1) refl))
      ]

      -- the whole removal, also where that of the values fails
      pub keeps_values : Keeping l (λ s. list_in l (facts_of l j m synced (disk a) s)) synced P (IsOwn l P) a e
      keeps_values = remove_values l pos ways.apart.values ways.apart.metadata ways.apart.both known good P (IsOwn l P) (contents_of u) new P P decides decides (λ q is. inr (inr is)) (λ q is. inl is) (λ q is. inr (inl is))
          (λ s is. (is, λ n marked. gone s n is marked)) a b holding still maps settled c (Removing j.sections IsDoomed (λ s t. s < t) (disk b)) records index_others going e (Removing m IsLost (λ s t. s < t) (disk c)) values
          (λ d r. removed_others m IsLost (λ s t. s < t) l.values parts.values_here P ways.lost_small ways.lost_named (disk c) d r) bare

-- ---- which sections go
-- the sections below a bound, in the one partition and in the other
abbrev pub IsDoomed : {F B : Type 0} → Pair F B → ℕ → ℕ → Type 0
IsDoomed p least s = IsKnown p.index.sections s × (s < least)

abbrev pub IsLost : {F B : Type 0} → Pair F B → ℕ → ℕ → Type 0
IsLost p least s = IsKnown p.values s × (s < least)

module _ {F S : Type 0} {gs : _} {g : buffer.Ghosts (PageBlob S gs)} {gives : F → Setting} {h : buffer.Ghosts WriteBlob} {takes : WriteFactory → Setting} {told : Type 0} (p : Pair F (PageBlob S gs)) (opened : OpenedList) (d : Disk)
    (pair : IsPair g gives h takes told p opened d) (index_here : p.index.sections.partition ≡ p.layout.index) (values_here : p.values.partition ≡ p.layout.values) where
  -- those below a bound
  pub prune_ways : (least : ℕ) → Ways p.layout p.index.sections p.values (λ s. s < least) (IsDoomed p least) (IsLost p least)
  prune_ways least = record {
    apart = pair.apart;
    index_here = index_here;
    values_here = values_here;
    doomed_small = λ s is. pair.index.over.opened_list.number s is.0;
    doomed_named = λ s is. is.1;
    lost_small = λ s is. pair.values.over.opened_list.number s is.0;
    lost_named = λ s is. is.1;
  }

  -- all of them
  pub destroy_ways : Ways p.layout p.index.sections p.values (λ _. ⊤) (IsKnown p.index.sections) (IsKnown p.values)
  destroy_ways = record {
    apart = pair.apart;
    index_here = index_here;
    values_here = values_here;
    doomed_small = λ s is. pair.index.over.opened_list.number s is;
    doomed_named = λ s is. tt;
    lost_small = λ s is. pair.values.over.opened_list.number s is;
    lost_named = λ s is. tt;
  }

  -- a section is known where it is held
  pub known_held : (s : ℕ) → IsKnown p.index.sections s → IsHeld p.index.sections s
  known_held s known = elim known [
    | inl held ↦ held
    | inr unopened ↦ absurd (cc (subst IsSome (pair.whole.index_known s) unopened))
  ]

  pub known_valued : (s : ℕ) → IsKnown p.values s → IsHeld p.index.sections s
  known_valued s known = elim known [
    | inl held ↦ pair.whole.values_held s held
    | inr unopened ↦ absurd (cc (subst IsSome (pair.whole.values_known s) unopened))
  ]

  value_held : (s : ℕ) → IsKnown p.values s → IsHeld p.values s
  value_held s known = elim known [
    | inl held ↦ held
    | inr unopened ↦ absurd (cc (subst IsSome (pair.whole.values_known s) unopened))
  ]

  -- of held sections alone: those below a bound, and all
  pub prune_held : (least : ℕ) → Ways p.layout p.index.sections p.values (λ s. (s < least) × IsHeld p.index.sections s) (IsDoomed p least) (IsLost p least)
  prune_held least = record {
    apart = pair.apart;
    index_here = index_here;
    values_here = values_here;
    doomed_small = λ s is. pair.index.over.opened_list.number s is.0;
    doomed_named = λ s is. (is.1, known_held s is.0);
    lost_small = λ s is. pair.values.over.opened_list.number s is.0;
    lost_named = λ s is. (is.1, known_valued s is.0);
  }

  pub destroy_held : Ways p.layout p.index.sections p.values (IsHeld p.index.sections) (IsKnown p.index.sections) (IsKnown p.values)
  destroy_held = record {
    apart = pair.apart;
    index_here = index_here;
    values_here = values_here;
    doomed_small = λ s is. pair.index.over.opened_list.number s is;
    doomed_named = known_held;
    lost_small = λ s is. pair.values.over.opened_list.number s is;
    lost_named = known_valued;
  }

  -- so of values only those that are held change
  pub prune_one : (least : ℕ) (a e : Timeline) → Removes p.layout p.index.sections p.values (IsDoomed p least) (IsLost p least) a e
      → Untouched (λ q. IsOneOf p.layout (λ s. (s < least) × IsHeld p.index.sections s) (λ s. (s < least) × IsHeld p.values s) q → ⊥) a e
  prune_one least a e removes =
      one_alone (prune_held least) a e removes (λ s. (s < least) × IsHeld p.index.sections s) (λ s. (s < least) × IsHeld p.values s) (λ s is. (is.1, known_held s is.0)) (λ s is. (is.1, value_held s is.0))

  pub destroy_one : (a e : Timeline) → Removes p.layout p.index.sections p.values (IsKnown p.index.sections) (IsKnown p.values) a e
      → Untouched (λ q. IsOneOf p.layout (IsHeld p.index.sections) (IsHeld p.values) q → ⊥) a e
  destroy_one a e removes = one_alone destroy_held a e removes (IsHeld p.index.sections) (IsHeld p.values) known_held value_held

pub below_or_not : (least s : ℕ) → (s < least) ⊎ (s < least → ⊥)
below_or_not least s = elim (cases_lt s least) [
  | inl lt ↦ inl lt
  | inr from ↦ inr (λ lt. absurd (omega (arith, lt, from)))
]
