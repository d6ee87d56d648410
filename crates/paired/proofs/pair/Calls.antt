-- What the calls of a pair keep at each moment, from what its three parts promise of their blobs.
use Rattle.std.proofs.Common.{◌≡◌, ◌≢◌, ◌⊎◌, inl, inr, ℕ, ◌^◌, ◌<◌, ◌≤◌, eqb, Bool, if◌then◌else◌, List, [], ◌++◌, length, take, refl, sym, ◌∙◌, ap, subst, arith}
use Rattle.std.proofs.lemmas.Bool.Decides.{eqb_tells}
use Rattle.std.proofs.Math.Seq.{take-length, take-append_seam}
use Rattle.blob_device.specs.Disk.{Key, Blob, Disk, longest}
use Rattle.blob_device.specs.Timeline.{Timeline, disk, Always, OnlyAt}
use Rattle.blob_device.specs.lemmas.Moments.{always_now}
use Rattle.section_manager.specs.Lasting.{IsGoing}
use Rattle.section_manager.specs.Sections.{section_key}
use Rattle.meta_store.specs.Crashes as metadata
use Rattle.paired.specs.Records.{Entry, records}
use Rattle.paired.specs.Kept.{Layout, Markers, IsMarked}
use Rattle.paired.specs.Crashes.{IsIndexOf, IsValuesOf, IsCopy, Keeping}
use Rattle.paired.specs.Holding.{Facts, list_in, AreGood, IsLasting, LeavesNoRecords, ValuesStand, AreTrue, Holding}
use Rattle.paired.specs.lemmas.pair.Blobs.{lasting_none}
use Rattle.paired.specs.lemmas.pair.Holding.{IsMore, no_bytes}
use Rattle.paired.proofs.pair.Holding.{holding_more}
use Rattle.paired.proofs.pair.Moments.{Stays, this_or_other, values_phase, index_phase, making_phase, removing_phase, copies_phase, keeping_of, keeping_then}

-- A pair of which these facts are known, to one of whose sections something is added, and behind its list these entries, or a prefix of them.
module _ (l : Layout) (pos : 1 ≤ l.record_size) (values_apart : l.index ≢ l.values) (metadata_apart : l.index ≢ l.metadata) (both_apart : l.values ≢ l.metadata)
    (facts : ℕ → Facts) (good : (t : ℕ) → AreGood l (facts t)) (within : (t : ℕ) → (facts t).values_settled ≤ length (facts t).values)
    (s : ℕ) (small : s < 2 ^ 64) (grown : Facts) (is_good : AreGood l grown) (is_more : IsMore (facts s) grown) (extra : List Entry) (is_prefix : take (length (list_in l grown)) (list_in l (facts s) ++ extra) ≡ list_in l grown) where
  -- all sections after it
  abbrev pub grown_facts : ℕ → Facts
  grown_facts t = if eqb t s then grown else facts t

  -- what is added to each list
  abbrev pub added : ℕ → List Entry
  added t = if eqb t s then extra else []

  grown_here : grown_facts s ≡ grown
  grown_here = elim (eqb_tells s s) [
    | inl it ↦ ap (λ (b : Bool). if b then grown else facts s) it.0
    | inr it ↦ absurd (it.1 refl)
  ]

  by_section : (P : ℕ → Facts → Type 0) → P s grown → ((t : ℕ) → P t (facts t)) → (t : ℕ) → P t (grown_facts t)
  by_section P this all t = elim (eqb_tells t s) [
    | inl it ↦ subst (λ (b : Bool). P t (if b then grown else facts t)) (sym it.0) (subst (λ (x : ℕ). P x grown) (sym it.1) this)
    | inr it ↦ subst (λ (b : Bool). P t (if b then grown else facts t)) (sym it.0) (all t)
  ]

  grown_good : (t : ℕ) → AreGood l (grown_facts t)
  grown_good = by_section (λ t f. AreGood l f) is_good good

  grown_more : (t : ℕ) → IsMore (facts t) (grown_facts t)
  grown_more = by_section (λ t f. IsMore (facts t) f) is_more same
    where
      same : (t : ℕ) → IsMore (facts t) (facts t)
      same t = record { index = take-length (facts t).index; values = take-length (facts t).values; index_settled = omega arith; values_settled = omega arith; within = within t; synced = refl }

  grown_prefix : (t : ℕ) → take (length (list_in l (grown_facts t))) (list_in l (facts t) ++ added t) ≡ list_in l (grown_facts t)
  grown_prefix t = elim (eqb_tells t s) [
    | inl it ↦ subst IsPrefixAt (sym it.0) (subst (λ (x : ℕ). take (length (list_in l grown)) (list_in l (facts x) ++ extra) ≡ list_in l grown) (sym it.1) is_prefix)
    | inr it ↦ subst IsPrefixAt (sym it.0) (take-append_seam (list_in l (facts t)) [])
  ]
    where
      IsPrefixAt : Bool → Type 0
      IsPrefixAt b = take (length (list_in l (if b then grown else facts t))) (list_in l (facts t) ++ (if b then extra else [])) ≡ list_in l (if b then grown else facts t)

  grown_synced : (t : ℕ) → (facts t).synced ≤ (grown_facts t).synced
  grown_synced = by_section (λ t f. (facts t).synced ≤ f.synced) (omega (arith, is_more.synced)) (λ t. omega arith)

  -- the blobs that the append may touch
  abbrev pub Touched : Key → Type 0
  Touched q = IsIndexOf l (λ t. t ≡ s) q ⊎ IsValuesOf l (λ t. t ≡ s) q

  module _ (Gone : ℕ → Type 0) (one : Markers) where
    -- the lists with the record at the end of its section's
    abbrev pub Keeps : Timeline → Timeline → Type 0
    Keeps x y = Keeping l (λ t. list_in l (facts t) ++ added t) (λ t. (facts t).synced) Gone Touched x y

    keeps_of : (x y : Timeline) → Always x y (Stays l grown_facts Gone one one Touched (disk x)) → Keeps x y
    keeps_of x y always = keeping_of l pos grown_facts Gone Gone one one Touched (λ t. list_in l (facts t) ++ added t) (λ t. (facts t).synced) x y grown_good
        grown_prefix grown_synced (λ t gone. gone) always

    module _ (a b : Timeline) (holding : Holding l facts Gone one one (disk a)) (Q : Blob → Type 0) (values : Always a b (OnlyAt (section_key l.values s) (disk a) Q))
        (stand : (x : Blob) → Q x → ValuesStand l grown x ⊎ LeavesNoRecords l (disk a (section_key l.index s))) where
      values_stay : Always a b (Stays l grown_facts Gone one one Touched (disk a))
      values_stay = values_phase l values_apart metadata_apart both_apart grown_facts Gone one one Touched a b (holding_more l facts grown_facts Gone Gone one one (disk a) (λ t gone. gone) grown_more holding)
          (OnlyAt (section_key l.values s) (disk a) Q) values (λ t. t ≡ s) (this_or_other s) (λ q is. inr is) (λ d only q not. only.others q (λ e. not (s, small, refl, e)))
          (λ d only t lt is. subst (λ (x : ℕ). ValuesStand l (grown_facts x) (d (section_key l.values x)) ⊎ LeavesNoRecords l (disk a (section_key l.index x))) (sym is)
          (subst (λ (f : Facts). ValuesStand l f (d (section_key l.values s)) ⊎ LeavesNoRecords l (disk a (section_key l.index s))) (sym grown_here) (stand (d (section_key l.values s)) only.here)))

      -- While the value is added, and where that fails, what has settled of the section's values outlasts, or no crash leaves a record of it.
      pub append_values : Keeps a b
      append_values = keeps_of a b values_stay

      module _ (c : Timeline) (stood : ValuesStand l grown (disk b (section_key l.values s))) (R : Blob → Type 0) (index : Always b c (OnlyAt (section_key l.index s) (disk b) R)) where
        after : Holding l grown_facts Gone one one (disk b)
        after = (always_now a b (Stays l grown_facts Gone one one Touched (disk a)) values_stay).holding

        stood_on : (t : ℕ) → t ≡ s → ValuesStand l (grown_facts t) (disk b (section_key l.values t))
        stood_on t is = subst (λ (x : ℕ). ValuesStand l (grown_facts x) (disk b (section_key l.values x))) (sym is) (subst (λ (f : Facts). ValuesStand l f (disk b (section_key l.values s))) (sym grown_here) stood)

        lasts_on : (d : Disk) → IsLasting l grown (d (section_key l.index s)) → (t : ℕ) → t ≡ s → IsLasting l (grown_facts t) (d (section_key l.index t))
        lasts_on d lasting t is = subst (λ (x : ℕ). IsLasting l (grown_facts x) (d (section_key l.index x))) (sym is) (subst (λ (f : Facts). IsLasting l f (d (section_key l.index s))) (sym grown_here) lasting)

        -- then the record is added, to a section that is held
        pub append_held : ((x : Blob) → R x → IsLasting l grown x) → Keeps a c
        append_held lasts = keeping_then l (λ t. list_in l (facts t) ++ added t) (λ t. (facts t).synced) Gone Touched a b c append_values
            (keeps_of b c (index_phase l values_apart metadata_apart both_apart grown_facts Gone one one Touched b c after (OnlyAt (section_key l.index s) (disk b) R) index (λ t. t ≡ s) (this_or_other s)
            (λ q is. inl is) (λ d only q not. only.others q (λ e. not (s, small, refl, e))) (λ d only t lt is. (lasts_on d (lasts (d (section_key l.index s)) only.here) t is, inl (stood_on t is)))))

        -- or to a section that is made, of which nothing was synced
        pub append_made : (facts s).synced ≡ 0 → ((n : ℕ) → IsMarked one.entries s n → ⊥) → ((x : Blob) → R x → IsLasting l grown x ⊎ (longest x ≡ 0)) → Keeps a c
        append_made unsynced unmarked made = keeping_then l (λ t. list_in l (facts t) ++ added t) (λ t. (facts t).synced) Gone Touched a b c append_values
            (keeps_of b c (making_phase l values_apart metadata_apart both_apart grown_facts Gone one one Touched b c after (OnlyAt (section_key l.index s) (disk b) R) index (λ t. t ≡ s) (this_or_other s)
            (λ q is. inl is) (λ d only q not. only.others q (λ e. not (s, small, refl, e))) pos
            (λ t is. (subst (λ (x : ℕ). (grown_facts x).synced ≡ 0) (sym is) (ap (λ (f : Facts). f.synced) grown_here ∙ is_more.synced ∙ unsynced), unmarked_on t is)) (λ t lt is. stood_on t is) (λ d only. made_on d (made (d (section_key l.index s)) only.here))))
          where
            unmarked_on : (t : ℕ) → t ≡ s → (n : ℕ) → IsMarked one.entries t n ⊎ IsMarked one.entries t n → ⊥
            unmarked_on t is n (inl marked) = unmarked n (subst (λ (x : ℕ). IsMarked one.entries x n) is marked)
            unmarked_on t is n (inr marked) = unmarked n (subst (λ (x : ℕ). IsMarked one.entries x n) is marked)

            made_on : (d : Disk) → IsLasting l grown (d (section_key l.index s)) ⊎ (longest (d (section_key l.index s)) ≡ 0)
                → ((t : ℕ) → t < 2 ^ 64 → t ≡ s → IsLasting l (grown_facts t) (d (section_key l.index t))) ⊎ ((t : ℕ) → t < 2 ^ 64 → t ≡ s → longest (d (section_key l.index t)) ≡ 0)
            made_on d (inl lasting) = inl (λ t lt is. lasts_on d lasting t is)
            made_on d (inr bare) = inr (λ t lt is. subst (λ (x : ℕ). longest (d (section_key l.index x)) ≡ 0) (sym is) bare)

-- A pair of which these facts are known, and a call that may touch some of its blobs.
module _ (l : Layout) (pos : 1 ≤ l.record_size) (values_apart : l.index ≢ l.values) (metadata_apart : l.index ≢ l.metadata) (both_apart : l.values ≢ l.metadata)
    (facts : ℕ → Facts) (good : (s : ℕ) → AreGood l (facts s)) (Gone : ℕ → Type 0) (MayTouch : Key → Type 0) where
  -- the pair keeps its lists, with what was synced
  abbrev pub KeepsLists : Timeline → Timeline → Type 0
  KeepsLists x y = Keeping l (λ s. list_in l (facts s)) (λ s. (facts s).synced) Gone MayTouch x y

  lists_of : (one other : Markers) (x y : Timeline) → Always x y (Stays l facts Gone one other MayTouch (disk x)) → KeepsLists x y
  lists_of one other x y always = keeping_of l pos facts Gone Gone one other MayTouch (λ s. list_in l (facts s)) (λ s. (facts s).synced) x y good
      (λ s. take-length (list_in l (facts s))) (λ s. omega arith) (λ s gone. gone) always

  both_lists : (x y z : Timeline) → KeepsLists x y → KeepsLists y z → KeepsLists x z
  both_lists x y z first second = keeping_then l (λ s. list_in l (facts s)) (λ s. (facts s).synced) Gone MayTouch x y z first second

  -- A sync of sections that P names: first their records, then their values.
  module _ (one : Markers) (P : ℕ → Type 0) (decides : (s : ℕ) → P s ⊎ (P s → ⊥)) (index_touches : (q : Key) → IsIndexOf l P q → MayTouch q) (values_touches : (q : Key) → IsValuesOf l P q → MayTouch q)
      (a b : Timeline) (holding : Holding l facts Gone one one (disk a)) (R : Disk → Type 0) (index : Always a b R) (index_others : (d : Disk) → R d → (q : Key) → (IsIndexOf l P q → ⊥) → d q ≡ disk a q)
      (lasts : (d : Disk) → R d → (s : ℕ) → s < 2 ^ 64 → P s → IsLasting l (facts s) (d (section_key l.index s)))
      (valued : (s : ℕ) → s < 2 ^ 64 → P s → ValuesStand l (facts s) (disk a (section_key l.values s)) ⊎ (records l.record_size (facts s).index ≡ [])) where
    records_settle : Always a b (Stays l facts Gone one one MayTouch (disk a))
    records_settle = index_phase l values_apart metadata_apart both_apart facts Gone one one MayTouch a b holding R index P decides index_touches index_others (λ d r s lt named. (lasts d r s lt named, left d r s lt named (valued s lt named)))
      where
        left : (d : Disk) → R d → (s : ℕ) → s < 2 ^ 64 → P s → ValuesStand l (facts s) (disk a (section_key l.values s)) ⊎ (records l.record_size (facts s).index ≡ [])
            → ValuesStand l (facts s) (disk a (section_key l.values s)) ⊎ LeavesNoRecords l (d (section_key l.index s))
        left d r s lt named (inl stand) = inl stand
        left d r s lt named (inr none) = inr (lasting_none l (facts s) pos (d (section_key l.index s)) none (lasts d r s lt named))

    pub sync_records : KeepsLists a b
    sync_records = lists_of one one a b records_settle

    -- how the blobs stand between the two
    pub records_synced : Holding l facts Gone one one (disk b)
    records_synced = (always_now a b (Stays l facts Gone one one MayTouch (disk a)) records_settle).holding

    module _ (c : Timeline) (V : Disk → Type 0) (values : Always b c V) (values_others : (d : Disk) → V d → (q : Key) → (IsValuesOf l P q → ⊥) → d q ≡ disk b q)
        (stand : (d : Disk) → V d → (s : ℕ) → s < 2 ^ 64 → P s → ValuesStand l (facts s) (d (section_key l.values s)) ⊎ LeavesNoRecords l (disk b (section_key l.index s))) where
      values_settle : Always b c (Stays l facts Gone one one MayTouch (disk b))
      values_settle = values_phase l values_apart metadata_apart both_apart facts Gone one one MayTouch b c records_synced V values P decides values_touches values_others stand

      pub sync_values : KeepsLists a c
      sync_values = both_lists a b c sync_records (lists_of one one b c values_settle)

      -- how the blobs stand after both
      pub values_synced : Holding l facts Gone one one (disk c)
      values_synced = (always_now b c (Stays l facts Gone one one MayTouch (disk b)) values_settle).holding

  -- A sync of markers, at which more may be known to be synced of the lists that are there.
  pub sync_markers : (later : ℕ → Facts) (one first second : Markers) (a b : Timeline) → ((s : ℕ) → AreGood l (later s)) → ((s : ℕ) → list_in l (later s) ≡ list_in l (facts s)) → ((s : ℕ) → (facts s).synced ≤ (later s).synced)
      → Holding l later Gone one one (disk a) → AreTrue l later (disk a) first → AreTrue l later (disk a) second → ((q : Key) → IsCopy l q → MayTouch q) → metadata.Mapping l.markers l.metadata first second a b → KeepsLists a b
  sync_markers later one first second a b later_good same more holding first_marked second_marked touches maps =
      keeping_of l pos later Gone Gone first second MayTouch (λ s. list_in l (facts s)) (λ s. (facts s).synced) a b later_good
      (λ s. ap (take (length (list_in l (later s)))) (sym (same s)) ∙ take-length (list_in l (later s))) more (λ s gone. gone)
      (copies_phase l values_apart metadata_apart both_apart later Gone one one MayTouch a b holding (metadata.KeepsAlone l.markers l.metadata first second (disk a)) maps first second first_marked second_marked touches (λ d r. r))

  -- A removal of sections that P names, and of the values of those that W names: first the markers go, then the index blobs, then the value blobs.
  module _ (old new : Markers) (P W : ℕ → Type 0) (decides : (s : ℕ) → P s ⊎ (P s → ⊥)) (decides_values : (s : ℕ) → W s ⊎ (W s → ⊥))
      (copies_touch : (q : Key) → IsCopy l q → MayTouch q) (index_touches : (q : Key) → IsIndexOf l P q → MayTouch q) (values_touches : (q : Key) → IsValuesOf l W q → MayTouch q)
      (gone : (s : ℕ) → P s → Gone s × ((m : ℕ) → IsMarked new.entries s m → ⊥))
      (a b : Timeline) (holding : Holding l facts Gone old old (disk a)) (still : AreTrue l facts (disk a) new) (maps : metadata.Mapping l.markers l.metadata old new a b) (settled : metadata.Keeps l.markers l.metadata new new (disk b)) where
    unmarking : Always a b (Stays l facts Gone old new MayTouch (disk a))
    unmarking = copies_phase l values_apart metadata_apart both_apart facts Gone old old MayTouch a b holding (metadata.KeepsAlone l.markers l.metadata old new (disk a)) maps old new holding.one_marked still copies_touch (λ d r. r)

    pub remove_markers : KeepsLists a b
    remove_markers = lists_of old new a b unmarking

    unmarked : Holding l facts Gone new new (disk b)
    unmarked = let now = (always_now a b (Stays l facts Gone old new MayTouch (disk a)) unmarking).holding in
        record { sections = now.sections; marked = now.marked; copies = settled; one_marked = now.other_marked; other_marked = now.other_marked }

    module _ (c : Timeline) (R : Disk → Type 0) (index : Always b c R) (index_others : (d : Disk) → R d → (q : Key) → (IsIndexOf l P q → ⊥) → d q ≡ disk b q)
        (going : (d : Disk) → R d → (s : ℕ) → s < 2 ^ 64 → P s → IsGoing (disk b (section_key l.index s)) (d (section_key l.index s))) where
      records_go : Always b c (Stays l facts Gone new new MayTouch (disk b))
      records_go = removing_phase l values_apart metadata_apart both_apart facts Gone new new MayTouch b c unmarked R index P decides index_touches index_others (λ s named. ((gone s named).0, not_marked s named)) going
        where
          not_marked : (s : ℕ) → P s → (m : ℕ) → IsMarked new.entries s m ⊎ IsMarked new.entries s m → ⊥
          not_marked s named m (inl is) = (gone s named).1 m is
          not_marked s named m (inr is) = (gone s named).1 m is

      pub remove_records : KeepsLists a c
      remove_records = both_lists a b c remove_markers (lists_of new new b c records_go)

      module _ (e : Timeline) (V : Disk → Type 0) (values : Always c e V) (values_others : (d : Disk) → V d → (q : Key) → (IsValuesOf l W q → ⊥) → d q ≡ disk c q)
          (removed : (s : ℕ) → s < 2 ^ 64 → W s → longest (disk c (section_key l.index s)) ≡ 0) where
        pub remove_values : KeepsLists a e
        remove_values = both_lists a c e remove_records (lists_of new new c e (values_phase l values_apart metadata_apart both_apart facts Gone new new MayTouch c e
            (always_now b c (Stays l facts Gone new new MayTouch (disk b)) records_go).holding V values W decides_values values_touches values_others
            (λ d r s lt named. inr (no_bytes l pos (disk c (section_key l.index s)) (removed s lt named)))))
