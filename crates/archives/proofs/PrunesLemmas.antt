-- What a prune promises, by the ways in which one ends.
use Rattle.std.proofs.Common.{◌≡◌, ◌⊎◌, inl, inr, refl, sym, ◌∙◌, ap, subst, ℕ, ◌+◌, ◌^◌, ◌<◌, ◌≤◌, if◌then◌else◌, Bool, IsTrue, List, Option, None, Some, IsSome, Result, Ok, Err, arith}
use Rattle.std.specs.Prelude.{⊤}
use Rattle.std.specs.Result.{IsErrOf}
use Rattle.std.proofs.lemmas.Bool.{cases_lt, le-leb, lt-leb}
use Rattle.blob_device.specs.Counts.{Rose}
use Rattle.blob_device.specs.Disk.{Disk, Key}
use Rattle.blob_device.specs.Footprint.{Footprint, NoBound}
use Rattle.blob_device.specs.Opened.{OpenedList}
use Rattle.blob_device.specs.Timeline.{Always, Timeline, disk}
use Rattle.blob_device.specs.declared.device.Device as device
use Rattle.blob_device.specs.lemmas.Footprint.{footprint_none, footprint_wider}
use Rattle.blob_device.specs.lemmas.Moments.{always_start, always_weaker}
use Rattle.sealed_pages.specs.declared.page_blob.PageBlob.{PageBlob}
use Rattle.section_manager.specs.Refusing.{HasFailed}
use Rattle.section_manager.specs.Sections.{IsHeld, section_key}
use Rattle.section_manager.specs.declared.journal.Error as journal
use Rattle.section_manager.specs.declared.journal.Error.TheVariants as section
use Rattle.segments.specs.Tails.{tail_held}
use Rattle.paired.specs.Crashes.{IsBlobOf, IsIndexOf, IsOneOf, IsOwn, IsValuesOf, Keeping, LeavesAlone}
use Rattle.paired.specs.glob.Sections as glob
use Rattle.paired.specs.Kept.{IsMarked, Layout, marker_of}
use Rattle.paired.specs.Pair.{list_of, synced_length, IsSafeOn}
use Rattle.paired.specs.PairRefusing.{HasLostMarkers}
use Rattle.archives.specs.Archives.{Archive, IsArchive, IsBare, IsSoundArchive, filing_of, state_of}
use Rattle.archives.specs.Changes.{IsSoundOver, MayUse, NoneThere, state_over}
use Rattle.archives.specs.Commands.{Prune}
use Rattle.archives.specs.Machine.{State, after_prune, emptied_below, section_of}
use Rattle.archives.specs.Prunable.{Prunable, filing_by, meaning}
use Rattle.archives.specs.Prunes.{HasStayed, IsBelow, IsDropping, IsPruneCause, IsRaising, PruneFailed, Pruned, Prunes}
use Rattle.archives.specs.Raised.{raised}
use Rattle.archives.specs.Refusing.{IsFault}
use Rattle.archives.specs.Standing.{Leaves}
use Rattle.archives.specs.declared.error.Error.{Error}
use Rattle.archives.specs.declared.error.Error.TheVariants.{Mem}
use Rattle.archives.proofs.Alike.{alike_as}
use Rattle.archives.proofs.ArchiveStands.{going_at}
use Rattle.archives.proofs.PruneLemmas.{IsLeft}
use Rattle.archives.proofs.sync.Errors.{error_in, raised_or_full}
use Rattle.archives.proofs.sync.Lemmas.{not_false}
use Rattle.archives.proofs.sync.Names.{one_more, own_more}
use Rattle.archives.proofs.sync.UnderWay.{stands_under}

-- a blob of one section among some is one of one among more
pub blob_more : (l : Layout) (P Q : ℕ → Type 0) → ((s : ℕ) → P s → Q s) → (q : Key) → IsBlobOf l P q → IsIndexOf l Q q ⊎ IsValuesOf l Q q
blob_more l P Q more q blob = elim blob [
  | inl index ↦ inl (index.0, index.1, more index.0 index.2, index.3)
  | inr values ↦ inr (values.0, values.1, more values.0 values.2, values.3)
]

-- no blob of these sections is there, where none of each is
pub none_below : (l : Layout) (index values : List ℕ) → index ≡ l.index → values ≡ l.values → (P : ℕ → Type 0) (d : Disk)
    → ((s : ℕ) → P s → s < 2 ^ 64 → (IsTrue (d (section_key index s)).there → ⊥) × (IsTrue (d (section_key values s)).there → ⊥)) → NoneThere (IsBlobOf l P) d
none_below l index values first second P d gone q blob there = elim blob [
  | inl (s, small, is, same) ↦ (gone s is small).0 (subst (λ (k : Key). IsTrue (d k).there) (same ∙ ap (λ (x : List ℕ). section_key x s) (sym first)) there)
  | inr (s, small, is, same) ↦ (gone s is small).1 (subst (λ (k : Key). IsTrue (d k).there) (same ∙ ap (λ (x : List ℕ). section_key x s) (sym second)) there)
]

-- ---- of an archive, where the bound is the start of the section

module _ {F S : Type 0} {gs : _} (a : Archive F (PageBlob S gs)) (min b : ℕ) (is : b ≡ section_of a.items min) where
  -- the machine's step, where the floor moves
  pub prune_step : a.floor < b → (d : Disk) (next : State (List ℕ)) → next ≡ emptied_below b (state_of a d) → next ≡ after_prune a.items min (state_of a d)
  prune_step raises d next step =
      let st : State (List ℕ) = state_of a d in
      let emptied : State (List ℕ) = emptied_below (section_of a.items min) st in
      step ∙ ap (λ (n : ℕ). emptied_below n st) is ∙ sym (ap (λ (t : Bool). if t then st else emptied) (lt-leb (section_of a.items min) a.floor (omega (arith, raises, is))))

  -- at each moment of the pair's prune each crash leaves what stands for the state, with the prune under way
  pub prune_moments : {bs : _} {told : Type 0} (opened : OpenedList) (old new : Timeline) → IsArchive a bs told opened (disk old) → told → IsSoundArchive a (disk old) → a.floor < b
      → Keeping a.pair.layout (list_of a.pair (disk old)) (synced_length a.pair) (λ s. s < b) (IsOwn a.pair.layout (λ s. s < b)) old new
      → Always old new (Leaves (filing_of a) (state_of a (disk old)) (Some (Prune min)))
  prune_moments opened old new archive t sound raises keeping =
      always_weaker old new (LeavesAlone a.pair.layout (list_of a.pair (disk old)) (synced_length a.pair) (λ s. s < b) (IsOwn a.pair.layout (λ s. s < b)) (disk old)) (Leaves (filing_of a) (state_of a (disk old)) (Some (Prune min)))
      (λ d at. going_at a (disk old) archive t sound (λ s. s < b) (Some (Prune min)) (λ s small. refl) (λ s small low. (refl, omega (arith, low, is), omega (arith, raises, is))) (λ s. s < b) d at.others at.leaves) keeping

  -- only blobs of sections below the bound change, and those of the markers
  pub prune_alone : (old new : Timeline)
      → Always old new (λ d. (q : Key) → (IsOneOf a.pair.layout (λ s. (s < b) × IsHeld a.pair.index.sections s) (λ s. (s < b) × IsHeld a.pair.values s) q → ⊥) → d q ≡ disk old q)
      → Always old new (λ d. (q : Key) → (IsOwn a.pair.layout (IsBelow a min) q → ⊥) → d q ≡ disk old q)
  prune_alone old new = always_weaker old new (λ d. (q : Key) → (IsOneOf a.pair.layout (λ s. (s < b) × IsHeld a.pair.index.sections s) (λ s. (s < b) × IsHeld a.pair.values s) q → ⊥) → d q ≡ disk old q)
      (λ d. (q : Key) → (IsOwn a.pair.layout (IsBelow a min) q → ⊥) → d q ≡ disk old q)
      (λ d same q other. same q (λ one. other (one_more a.pair.layout (λ s. (s < b) × IsHeld a.pair.index.sections s) (λ s. (s < b) × IsHeld a.pair.values s) (IsBelow a min) (λ s low. omega (arith, low.0, is)) (λ s low. omega (arith, low.0, is)) q one)))

  -- what stays of a section that is not below the bound
  pub stayed : (r : Archive F (PageBlob S gs)) {told : Type 0} {d e : Disk} → IsLeft a b told d e r.pair
      → ((s : ℕ) → b ≤ s → r.rows s ≡ a.rows s) → ((s : ℕ) → b ≤ s → r.is_written s ≡ a.is_written s) → ((s : ℕ) → b ≤ s → marker_of r.pair.store.entries s ≡ marker_of a.pair.store.entries s)
      → (s : ℕ) → section_of a.items min ≤ s → HasStayed a r s
  stayed r left rows written markers s high =
      let from : b ≤ s = omega (arith, high, is) in
      record {
        rows = rows s from;
        values = ap glob.size_held (left.stays s from).1.held;
        synced = left.synced s from;
        tails = (
          ap (λ (o : Option (PageBlob S gs)). tail_held o) (left.stays s from).0.held,
          ap glob.pending_held (left.stays s from).1.held,
        );
        written = written s from;
        marker = markers s from;
      }

-- ---- the relation

module _ {A V F S D : Type 0} {gs : _} (p : Prunable A V F (PageBlob S gs)) (dev : device.Ghosts D) (a : A) (min : ℕ) where
  -- at each moment from one device to another a crash leaves what stands for the state, with the prune under way
  abbrev pub PruneMoments : D → D → Type 0
  PruneMoments old new = dev.Tells → IsSoundOver (meaning p) dev a old
      → Always (dev.time old) (dev.time new) (Leaves (filing_by p a) (state_over (meaning p) dev a old) (Some (Prune min)))

  -- what each crash leaves now
  abbrev pub RestsNow : D → Type 0
  RestsNow d = dev.Tells → IsSoundOver (meaning p) dev a d → Leaves (filing_by p a) (state_over (meaning p) dev a d) None (disk (dev.time d))

  prune_fault : (before now : ℕ) (e : Error) → IsPruneCause (p.see a) min before now e → IsFault e → Rose before now
  prune_fault before now e cause (inl is) = subst (IsPruneCause (p.see a) min before now) is cause
  prune_fault before now e cause (inr is) = (subst (IsPruneCause (p.see a) min before now) is cause).0

  -- What a prune touches and leaves, however it ends.
  pub record PruneGoes (old new : D) : Type 0 where
    pub moments : PruneMoments old new
    pub footprint : Footprint dev (IsOwn (filing_by p a).layout (IsBelow (p.see a) min)) NoBound old new
    pub idle : ((s : ℕ) → IsHeld (p.see a).pair.index.sections s → section_of (p.see a).items min ≤ s) → new ≡ old

  module _ (old new : D) (goes : PruneGoes old new) where
    all_own : Footprint dev (IsOwn (filing_by p a).layout (λ _. ⊤)) NoBound old new
    all_own = footprint_wider dev (IsOwn (filing_by p a).layout (IsBelow (p.see a) min)) (IsOwn (filing_by p a).layout (λ _. ⊤)) NoBound NoBound old new
        (own_more (filing_by p a).layout (IsBelow (p.see a) min) (λ _. ⊤) (λ s is. tt)) (λ q n none. absurd none) goes.footprint

    pub prune_failed : IsRaising (p.see a) min → (e : Error) → PruneFailed p dev a min e old new → Prunes p dev a min (Err e) old new
    prune_failed raises e why = record {
      changes = record { moments = goes.moments; footprint = all_own; ends = prune_fault (dev.faults old) (dev.faults new) e why.cause };
      footprint = goes.footprint;
      low = λ none. absurd (none raises);
      idle = goes.idle;
      ends = why;
    }

    pub prune_done : (r : A) → ((IsRaising (p.see a) min → ⊥) → (r ≡ a) × (new ≡ old)) → MayUse (meaning p) dev r new → filing_by p r ≡ filing_by p a → ((v : V) → p.Accepts a v → p.Accepts r v)
        → (dev.Tells → IsSoundOver (meaning p) dev a old → IsSoundOver (meaning p) dev r new)
        → (dev.Tells → state_over (meaning p) dev r new ≡ after_prune (p.see a).items min (state_over (meaning p) dev a old))
        → (dev.Tells → IsSoundOver (meaning p) dev a old → Leaves (filing_by p r) (state_over (meaning p) dev r new) None (disk (dev.time new)))
        → Pruned p dev a min r new → Prunes p dev a min (Ok r) old new
    prune_done r low over same accepts sound_now step rest done = record {
      changes = record {
        moments = goes.moments;
        footprint = all_own;
        ends = record { over = over; alike = alike_as p a r same accepts; sound = sound_now; step = λ t sound. step t; rest = rest };
      };
      footprint = goes.footprint;
      low = λ none. (let both = low none in (ap (λ (x : A). Ok x) both.0, both.1));
      idle = goes.idle;
      ends = done;
    }

  -- where no call of the device was made
  pub goes_nowhere : (d : D) → RestsNow d → PruneGoes d d
  goes_nowhere d rest = record {
    moments = λ t sound. always_start (dev.time d) (Leaves (filing_by p a) (state_over (meaning p) dev a d) (Some (Prune min)))
        (stands_under (filing_by p a) (state_over (meaning p) dev a d) (Some (Prune min)) (λ s. refl) (disk (dev.time d)) (rest t sound));
    footprint = footprint_none dev (IsOwn (filing_by p a).layout (IsBelow (p.see a) min)) NoBound d d refl;
    idle = λ none. refl;
  }

  -- there was no memory to take indices out of the set
  pub prune_no_memory : (d : D) → RestsNow d → IsRaising (p.see a) min → Prunes p dev a min (Err Mem) d d
  prune_no_memory d rest raises = prune_failed d d (goes_nowhere d rest) raises Mem (record { cause = tt; full = λ is. absurd (cc is); first = λ t is. absurd (cc is) })

  -- ---- where the bound is at or below the floor nothing is done

  module _ (d : D) (over : MayUse (meaning p) dev a d) (low : section_of (p.see a).items min ≤ (p.see a).floor) where
    bare : (s : ℕ) → IsBelow (p.see a) min s → IsBare (p.see a) s
    bare s below = over.below s (omega (arith, low, below))

    unheld : (s : ℕ) → IsBelow (p.see a) min s → IsHeld (p.see a).pair.index.sections s ⊎ IsHeld (p.see a).pair.values s → ⊥
    unheld s below held = elim held [
      | inl records ↦ cc (subst IsSome (bare s below).records records)
      | inr values ↦ cc (subst IsSome (bare s below).values values)
    ]

    none_known : dev.Tells → (s : ℕ) → IsBelow (p.see a) min s → s < 2 ^ 64
        → (IsTrue (disk (dev.time d) (section_key (p.see a).pair.index.sections.partition s)).there → ⊥) × (IsTrue (disk (dev.time d) (section_key (p.see a).pair.values.partition s)).there → ⊥)
    none_known t s below small = (
      λ there. elim ((over.pair.index.over.disk t).whose s small there) [
        | inl held ↦ unheld s below (inl held)
        | inr unopened ↦ cc (subst IsSome (over.pair.whole.index_known s) unopened)
      ],
      λ there. elim ((over.pair.values.over.disk t).whose s small there) [
        | inl held ↦ unheld s below (inr held)
        | inr unopened ↦ cc (subst IsSome (over.pair.whole.values_known s) unopened)
      ],
    )

    from_bound : (s : ℕ) → IsHeld (p.see a).pair.index.sections s → section_of (p.see a).items min ≤ s
    from_bound s held = elim (cases_lt s (section_of (p.see a).items min)) [ inl below ↦ absurd (unheld s below (inl held)) | inr from ↦ from ]

    nothing_pruned : (p.see a).pair.index.sections.partition ≡ (filing_by p a).layout.index → (p.see a).pair.values.partition ≡ (filing_by p a).layout.values → Pruned p dev a min a d
    nothing_pruned index values = record {
      filing = record {
        layout = record { index = refl; values = refl; marked = refl; metadata = refl; page_size = refl };
        record_size = refl;
        seal = λ bytes. refl;
        place = λ bytes. refl;
        items = refl;
        key_size = refl;
        refusal = λ bytes. refl;
        most_sections = refl;
        most_records = refl;
      };
      alike = refl;
      places = (record { partition = refl; factory = refl }, record { partition = refl; factory = refl });
      floor = omega (arith, low);
      below = bare;
      unwritten = λ s below. not_false ((p.see a).is_written s) (λ is. over.written s is (bare s below).rows);
      marked = λ s m is. (from_bound s (over.pair.markers.marked s m is).0, is);
      others = λ s from. record { rows = refl; values = refl; synced = refl; tails = (refl, refl); written = refl; marker = refl };
      gone = λ t. none_below (filing_by p a).layout (p.see a).pair.index.sections.partition (p.see a).pair.values.partition index values (IsBelow (p.see a) min) (disk (dev.time d)) (none_known t);
      version = λ drops. absurd (omega (arith, low, drops.0));
    }

    pub prune_low : (p.see a).pair.index.sections.partition ≡ (filing_by p a).layout.index → (p.see a).pair.values.partition ≡ (filing_by p a).layout.values → RestsNow d → Prunes p dev a min (Ok a) d d
    prune_low index values rest =
        let st : State (List ℕ) = state_over (meaning p) dev a d in
        let emptied : State (List ℕ) = emptied_below (section_of (p.see a).items min) st in
        prune_done d d (goes_nowhere d rest) a (λ none. (refl, refl)) over refl (λ v accepts. accepts) (λ t sound. sound)
        (λ t. sym (ap (λ (b : Bool). if b then st else emptied) (le-leb (section_of (p.see a).items min) (p.see a).floor low))) rest (nothing_pruned index values)

  -- the same of another result that is equal
  pub prune_as : (r x : Result A Error) (old new : D) → r ≡ x → Prunes p dev a min x old new → Prunes p dev a min r old new
  prune_as r x old new is prunes = subst (λ (y : Result A Error). Prunes p dev a min y old new) (sym is) prunes

  -- ---- a prune of the pair up to the section's start

  module _ (b : ℕ) (is : b ≡ section_of (p.see a).items min) (raises : (p.see a).floor < b) (old new : D) where
    pub prune_goes : MayUse (meaning p) dev a old
        → (dev.Tells → IsSafeOn (p.see a).pair (disk (dev.time old)) → Keeping (p.see a).pair.layout (list_of (p.see a).pair (disk (dev.time old))) (synced_length (p.see a).pair) (λ s. s < b) (IsOwn (p.see a).pair.layout (λ s. s < b)) (dev.time old) (dev.time new))
        → (dev.Tells → Always (dev.time old) (dev.time new) (λ d. (q : Key) → (IsOneOf (p.see a).pair.layout (λ s. (s < b) × IsHeld (p.see a).pair.index.sections s) (λ s. (s < b) × IsHeld (p.see a).pair.values s) q → ⊥) → d q ≡ disk (dev.time old) q))
        → (((s : ℕ) → IsHeld (p.see a).pair.index.sections s → b ≤ s) → new ≡ old)
        → ((q : Key) → (IsOwn (p.see a).pair.layout (λ s. s < b) q → ⊥) → dev.opened new q ≡ dev.opened old q)
        → dev.faults old ≤ dev.faults new → PruneGoes old new
    prune_goes over moments untouched idle entries faults = record {
      moments = λ t sound. prune_moments (p.see a) min b is (dev.opened old) (dev.time old) (dev.time new) over t sound raises (moments t sound.pair);
      footprint = record {
        alone = λ t. prune_alone (p.see a) min b is (dev.time old) (dev.time new) (untouched t);
        entries = λ q other. entries q (λ own. other (own_more (p.see a).pair.layout (λ s. s < b) (IsBelow (p.see a) min) (λ s low. omega (arith, low, is)) q own));
        reads = λ q n none. absurd none;
        faults = faults;
      };
      idle = λ none. idle (λ s held. omega (arith, none s held, is));
    }

  module _ (b : ℕ) (is : b ≡ section_of (p.see a).items min) (raises : (p.see a).floor < b) (old new : D) (goes : PruneGoes old new) where
    -- a marker below the bound
    abbrev pub DropsOne : Type 0
    DropsOne = (s : ℕ) × (s < b) × ((m : ℕ) × IsMarked (p.see a).pair.store.entries s m)

    pub dropping : DropsOne → IsDropping (p.see a) min
    dropping one = (omega (arith, raises, is), (one.0, one.2.0, omega (arith, one.1, is), one.2.1))

    pub dropped : IsDropping (p.see a) min → DropsOne
    dropped drops = (drops.1.0, omega (arith, drops.1.2, is), (drops.1.1, drops.1.3))

    pub prune_pair_failed : (U : Type 0) (e : journal.Error)
        → IsErrOf (error_in U e) section.Full ⊎ (HasFailed (error_in U e) (dev.faults old) (dev.faults new) ⊎ HasLostMarkers (error_in U e) (dev.faults old) (dev.faults new))
        → (IsErrOf (error_in U e) section.Full → (2 ^ 64 ≤ (p.see a).pair.store.version + 1) × DropsOne)
        → (IsErrOf (error_in U e) section.Full → new ≡ old)
        → (HasLostMarkers (error_in U e) (dev.faults old) (dev.faults new) → DropsOne)
        → (dev.Tells → HasLostMarkers (error_in U e) (dev.faults old) (dev.faults new) → (q : Key)
        → IsIndexOf (filing_by p a).layout (λ s. s < b) q ⊎ IsValuesOf (filing_by p a).layout (λ s. s < b) q → disk (dev.time new) q ≡ disk (dev.time old) q)
        → Prunes p dev a min (Err (raised e)) old new
    prune_pair_failed U e why full idle lost first = prune_failed old new goes (omega (arith, raises, is)) (raised e)
        (raised_or_full U e (dev.faults old) (dev.faults new) (λ x. PruneFailed p dev a min x old new) why
        (λ stops. record { cause = ((full stops).0, dropping (full stops).1); full = λ same. idle stops; first = λ t same. absurd (cc same) })
        (record { cause = tt; full = λ same. absurd (cc same); first = λ t same. absurd (cc same) })
        (λ rose. record { cause = rose; full = λ same. absurd (cc same); first = λ t same. absurd (cc same) })
        (λ stops. record {
          cause = (stops.1, dropping (lost stops));
          full = λ same. absurd (cc same);
          first = λ t same q blob. first t stops q (blob_more (filing_by p a).layout (IsBelow (p.see a) min) (λ s. s < b) (λ s low. omega (arith, low, is)) q blob);
        }))
