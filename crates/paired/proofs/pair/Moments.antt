-- How the blobs of a pair stand at a moment at which those of one kind may have changed: the index blobs, the value blobs, or the copies of the markers.
use Rattle.std.proofs.Common.{◌≡◌, ◌≢◌, ◌⊎◌, inl, inr, ℕ, ◌^◌, ◌<◌, ◌≤◌, List, length, take, sym, ◌∙◌, ap, subst}
use Rattle.std.proofs.lemmas.Bool.{cases_eq}
use Rattle.blob_device.specs.Disk.{Key, Blob, Disk, longest}
use Rattle.blob_device.specs.Timeline.{Timeline, disk, Always}
use Rattle.blob_device.specs.lemmas.Moments.{always_now, always_then, always_weaker}
use Rattle.section_manager.specs.Lasting.{IsGoing}
use Rattle.section_manager.specs.Sections.{section_key}
use Rattle.section_manager.specs.lemmas.Keys.{key_injective}
use Rattle.meta_store.specs.declared.error.Side.{Side}
use Rattle.meta_store.specs.declared.error.Side.TheVariants.{Left, Right}
use Rattle.meta_store.specs.Blobs.{blob_of}
use Rattle.meta_store.specs.Crashes as metadata
use Rattle.paired.specs.Records.{Entry}
use Rattle.paired.specs.Kept.{Layout, Markers, IsMarked}
use Rattle.paired.specs.Crashes.{IsIndexOf, IsValuesOf, IsCopy, LeavesAlone, Keeping}
use Rattle.paired.specs.Holding.{Facts, list_in, AreGood, IsLasting, IndexStands, LeavesNoRecords, ValuesStand, SectionStands, AreTrue, Holding}
use Rattle.paired.proofs.pair.Blobs.{going_bare, going_none}
use Rattle.paired.proofs.pair.Holding.{SameBlobs, StandsNow, holding_on, holding_marked, leaves_list}
use Rattle.paired.specs.lemmas.pair.Blobs.{going_fades, lasting_fades}
use Rattle.paired.specs.lemmas.pair.Holding.{leaves_of, no_bytes}

module _ (l : Layout) (facts : ℕ → Facts) (Gone : ℕ → Type 0) (one other : Markers) (from d : Disk) (holding : Holding l facts Gone one other from)
    (copies : (side : Side) → d (blob_of l.metadata side) ≡ from (blob_of l.metadata side)) where
  -- the section's index blob is as it was
  abbrev SameIndex : ℕ → Type 0
  SameIndex s = d (section_key l.index s) ≡ from (section_key l.index s)

  -- and its value blob
  abbrev SameValues : ℕ → Type 0
  SameValues s = d (section_key l.values s) ≡ from (section_key l.values s)

  -- a marked section's index blob lasts where it is as it was
  marked_lasts : (s m : ℕ) → SameIndex s → IsMarked one.entries s m ⊎ IsMarked other.entries s m → IsLasting l (facts s) (d (section_key l.index s))
  marked_lasts s m same (inl is) = subst (IsLasting l (facts s)) (sym same) (holding.one_marked.sections s m is).0
  marked_lasts s m same (inr is) = subst (IsLasting l (facts s)) (sym same) (holding.other_marked.sections s m is).0

  -- Value blobs changed: what has settled outlasts, or no record is left.
  pub values_changed : ((s : ℕ) → s < 2 ^ 64 → SameIndex s) → ((s : ℕ) → s < 2 ^ 64 → SameValues s ⊎ (ValuesStand l (facts s) (d (section_key l.values s)) ⊎ LeavesNoRecords l (from (section_key l.index s))))
      → Holding l facts Gone one other d
  values_changed index values = holding_on l facts Gone one other from d (λ s lt. change s lt (values s lt)) copies holding
    where
      change : (s : ℕ) → s < 2 ^ 64 → SameValues s ⊎ (ValuesStand l (facts s) (d (section_key l.values s)) ⊎ LeavesNoRecords l (from (section_key l.index s))) → SameBlobs l from d s ⊎ StandsNow l facts Gone one other d s
      change s lt (inl same) = inl (record { index = index s lt; values = same })
      change s lt (inr stand) = inr (record {
        stands = subst (λ (b : Blob). SectionStands l (Gone s) (facts s) b (d (section_key l.values s))) (sym (index s lt)) (record { index = (holding.sections s lt).index; values = stand });
        lasts = λ m is. marked_lasts s m (index s lt) is;
      })

  -- Index blobs changed, each of which lasts: its values stand, or it has no records.
  pub index_changed : ((s : ℕ) → s < 2 ^ 64 → SameValues s)
      → ((s : ℕ) → s < 2 ^ 64 → SameIndex s ⊎ (IsLasting l (facts s) (d (section_key l.index s)) × (ValuesStand l (facts s) (from (section_key l.values s)) ⊎ LeavesNoRecords l (d (section_key l.index s)))))
      → Holding l facts Gone one other d
  index_changed values index = holding_on l facts Gone one other from d (λ s lt. change s lt (index s lt)) copies holding
    where
      change : (s : ℕ) → s < 2 ^ 64 → SameIndex s ⊎ (IsLasting l (facts s) (d (section_key l.index s)) × (ValuesStand l (facts s) (from (section_key l.values s)) ⊎ LeavesNoRecords l (d (section_key l.index s)))) → SameBlobs l from d s ⊎ StandsNow l facts Gone one other d s
      change s lt (inl same) = inl (record { index = same; values = values s lt })
      change s lt (inr lasting) = inr (record {
        stands = subst (SectionStands l (Gone s) (facts s) (d (section_key l.index s))) (sym (values s lt)) (record { index = inl lasting.0; values = lasting.1 });
        lasts = λ m is. lasting.0;
      })

  -- Index blobs of sections without a marker are made, and no crash leaves a byte in them.
  pub index_made : ((s : ℕ) → s < 2 ^ 64 → SameValues s)
      → ((s : ℕ) → s < 2 ^ 64 → SameIndex s ⊎ ((longest (d (section_key l.index s)) ≡ 0) × ((facts s).synced ≡ 0) × ((m : ℕ) → IsMarked one.entries s m ⊎ IsMarked other.entries s m → ⊥)))
      → 1 ≤ l.record_size → Holding l facts Gone one other d
  index_made values index pos = holding_on l facts Gone one other from d (λ s lt. change s lt (index s lt)) copies holding
    where
      change : (s : ℕ) → s < 2 ^ 64 → SameIndex s ⊎ ((longest (d (section_key l.index s)) ≡ 0) × ((facts s).synced ≡ 0) × ((m : ℕ) → IsMarked one.entries s m ⊎ IsMarked other.entries s m → ⊥)) → SameBlobs l from d s ⊎ StandsNow l facts Gone one other d s
      change s lt (inl same) = inl (record { index = same; values = values s lt })
      change s lt (inr made) = inr (record {
        stands = record { index = inr (inr (made.0, made.1)); values = inr (no_bytes l pos (d (section_key l.index s)) made.0) };
        lasts = λ m is. absurd (made.2 m is);
      })

  -- Index blobs of sections without a marker are removed.
  pub index_going : ((s : ℕ) → s < 2 ^ 64 → SameValues s)
      → ((s : ℕ) → s < 2 ^ 64 → SameIndex s ⊎ (Gone s × IsGoing (from (section_key l.index s)) (d (section_key l.index s)) × ((m : ℕ) → IsMarked one.entries s m ⊎ IsMarked other.entries s m → ⊥)))
      → Holding l facts Gone one other d
  index_going values index = holding_on l facts Gone one other from d (λ s lt. change s lt (index s lt)) copies holding
    where
      stands : (s : ℕ) → Gone s → IsGoing (from (section_key l.index s)) (d (section_key l.index s)) → IndexStands l (Gone s) (facts s) (from (section_key l.index s)) → IndexStands l (Gone s) (facts s) (d (section_key l.index s))
      stands s gone going (inl lasting) = inr (inl (gone, going_fades l (facts s) (from (section_key l.index s)) (d (section_key l.index s)) (lasting_fades l (facts s) (from (section_key l.index s)) lasting) going))
      stands s gone going (inr (inl fading)) = inr (inl (gone, going_fades l (facts s) (from (section_key l.index s)) (d (section_key l.index s)) fading.1 going))
      stands s gone going (inr (inr bare)) = inr (inr (going_bare (from (section_key l.index s)) (d (section_key l.index s)) bare.0 going, bare.1))

      change : (s : ℕ) → s < 2 ^ 64 → SameIndex s ⊎ (Gone s × IsGoing (from (section_key l.index s)) (d (section_key l.index s)) × ((m : ℕ) → IsMarked one.entries s m ⊎ IsMarked other.entries s m → ⊥)) → SameBlobs l from d s ⊎ StandsNow l facts Gone one other d s
      change s lt (inl same) = inl (record { index = same; values = values s lt })
      change s lt (inr going) = inr (record {
        stands = subst (SectionStands l (Gone s) (facts s) (d (section_key l.index s))) (sym (values s lt)) (record {
          index = stands s going.0 going.1 (holding.sections s lt).index;
          values = elim (holding.sections s lt).values [
            | inl stand ↦ inl stand
            | inr none ↦ inr (going_none l (from (section_key l.index s)) (d (section_key l.index s)) none going.1)
          ];
        });
        lasts = λ m is. absurd (going.2 m is);
      })

-- No two of the three partitions are the same.
module _ (l : Layout) (values_apart : l.index ≢ l.values) (metadata_apart : l.index ≢ l.metadata) (both_apart : l.values ≢ l.metadata) where
  -- an index blob is no value blob, and neither is a copy
  pub no_value : (P : ℕ → Type 0) (s : ℕ) → IsValuesOf l P (section_key l.index s) → ⊥
  no_value P s is = values_apart (ap (λ (k : Key). k.0) is.3)

  pub no_index : (P : ℕ → Type 0) (s : ℕ) → IsIndexOf l P (section_key l.values s) → ⊥
  no_index P s is = values_apart (sym (ap (λ (k : Key). k.0) is.3))

  pub copy_no_index : (P : ℕ → Type 0) (side : Side) → IsIndexOf l P (blob_of l.metadata side) → ⊥
  copy_no_index P side is = metadata_apart (sym (ap (λ (k : Key). k.0) is.3))

  pub copy_no_value : (P : ℕ → Type 0) (side : Side) → IsValuesOf l P (blob_of l.metadata side) → ⊥
  copy_no_value P side is = both_apart (sym (ap (λ (k : Key). k.0) is.3))

  pub index_no_copy : (s : ℕ) → IsCopy l (section_key l.index s) → ⊥
  index_no_copy s is = metadata_apart (ap (λ (k : Key). k.0) is.1)

  pub values_no_copy : (s : ℕ) → IsCopy l (section_key l.values s) → ⊥
  values_no_copy s is = both_apart (ap (λ (k : Key). k.0) is.1)

  -- a blob of a section that P does not name is no blob of those that it names
  unnamed_index : (P : ℕ → Type 0) (s : ℕ) → s < 2 ^ 64 → (P s → ⊥) → IsIndexOf l P (section_key l.index s) → ⊥
  unnamed_index P s lt not is = not (subst P (sym (key_injective l.index s is.0 lt is.1 is.3)) is.2)

  unnamed_values : (P : ℕ → Type 0) (s : ℕ) → s < 2 ^ 64 → (P s → ⊥) → IsValuesOf l P (section_key l.values s) → ⊥
  unnamed_values P s lt not is = not (subst P (sym (key_injective l.values s is.0 lt is.1 is.3)) is.2)

  module _ (facts : ℕ → Facts) (Gone : ℕ → Type 0) (one other : Markers) (from d : Disk) (holding : Holding l facts Gone one other from) (P : ℕ → Type 0) (decides : (s : ℕ) → P s ⊎ (P s → ⊥)) where
    -- No blob changed but value blobs of sections that P names.
    pub among_values : ((q : Key) → (IsValuesOf l P q → ⊥) → d q ≡ from q)
        → ((s : ℕ) → s < 2 ^ 64 → P s → ValuesStand l (facts s) (d (section_key l.values s)) ⊎ LeavesNoRecords l (from (section_key l.index s))) → Holding l facts Gone one other d
    among_values others stand = values_changed l facts Gone one other from d holding (λ side. others (blob_of l.metadata side) (copy_no_value P side)) (λ s lt. others (section_key l.index s) (no_value P s))
        (λ s lt. elim (decides s) [
          | inl named ↦ inr (stand s lt named)
          | inr not ↦ inl (others (section_key l.values s) (unnamed_values P s lt not))
        ])

    -- No blob changed but index blobs of sections that P names.
    module _ (others : (q : Key) → (IsIndexOf l P q → ⊥) → d q ≡ from q) where
      -- each of which lasts
      pub among_index : ((s : ℕ) → s < 2 ^ 64 → P s → IsLasting l (facts s) (d (section_key l.index s)) × (ValuesStand l (facts s) (from (section_key l.values s)) ⊎ LeavesNoRecords l (d (section_key l.index s))))
          → Holding l facts Gone one other d
      among_index lasts = index_changed l facts Gone one other from d holding (λ side. others (blob_of l.metadata side) (copy_no_index P side)) (λ s lt. others (section_key l.values s) (no_index P s))
          (λ s lt. elim (decides s) [
            | inl named ↦ inr (lasts s lt named)
            | inr not ↦ inl (others (section_key l.index s) (unnamed_index P s lt not))
          ])

      -- each of which is made
      pub among_made : 1 ≤ l.record_size → ((s : ℕ) → s < 2 ^ 64 → P s → (longest (d (section_key l.index s)) ≡ 0) × ((facts s).synced ≡ 0) × ((m : ℕ) → IsMarked one.entries s m ⊎ IsMarked other.entries s m → ⊥))
          → Holding l facts Gone one other d
      among_made pos made = index_made l facts Gone one other from d holding (λ side. others (blob_of l.metadata side) (copy_no_index P side)) (λ s lt. others (section_key l.values s) (no_index P s))
          (λ s lt. elim (decides s) [
            | inl named ↦ inr (made s lt named)
            | inr not ↦ inl (others (section_key l.index s) (unnamed_index P s lt not))
          ]) pos

      -- each of which is removed
      pub among_going : ((s : ℕ) → s < 2 ^ 64 → P s → Gone s × IsGoing (from (section_key l.index s)) (d (section_key l.index s)) × ((m : ℕ) → IsMarked one.entries s m ⊎ IsMarked other.entries s m → ⊥))
          → Holding l facts Gone one other d
      among_going going = index_going l facts Gone one other from d holding (λ side. others (blob_of l.metadata side) (copy_no_index P side)) (λ s lt. others (section_key l.values s) (no_index P s))
          (λ s lt. elim (decides s) [
            | inl named ↦ inr (going s lt named)
            | inr not ↦ inl (others (section_key l.index s) (unnamed_index P s lt not))
          ])

  -- No blob changed but the copies, and they hold the one list of true markers or the other.
  pub among_copies : (facts : ℕ → Facts) (Gone : ℕ → Type 0) (one other first second : Markers) (from d : Disk) → ((q : Key) → (IsCopy l q → ⊥) → d q ≡ from q)
      → metadata.Keeps l.markers l.metadata first second d → AreTrue l facts from first → AreTrue l facts from second → Holding l facts Gone one other from → Holding l facts Gone first second d
  among_copies facts Gone one other first second from d others copies first_marked second_marked holding =
      holding_marked l facts Gone one other first second from d (λ s lt. record { index = others (section_key l.index s) (index_no_copy s); values = others (section_key l.values s) (values_no_copy s) })
      copies first_marked second_marked holding

-- the section itself, or another
pub this_or_other : (s t : ℕ) → (t ≡ s) ⊎ (t ≡ s → ⊥)
this_or_other s t = cases_eq t s

-- The blobs stand so, and none changed but those that the call may touch.
pub record Stays (l : Layout) (facts : ℕ → Facts) (Gone : ℕ → Type 0) (one other : Markers) (MayTouch : Key → Type 0) (from d : Disk) : Type 0 where
  pub holding : Holding l facts Gone one other d
  pub others : (q : Key) → (MayTouch q → ⊥) → d q ≡ from q

-- A pair whose blobs stand so at each moment keeps these lists, or longer ones of which no more was synced.
pub keeping_of : (l : Layout) → 1 ≤ l.record_size → (facts : ℕ → Facts) (Gone May : ℕ → Type 0) (one other : Markers) (MayTouch : Key → Type 0) (wanted : ℕ → List Entry) (synced : ℕ → ℕ) (a b : Timeline)
    → ((s : ℕ) → AreGood l (facts s)) → ((s : ℕ) → take (length (list_in l (facts s))) (wanted s) ≡ list_in l (facts s)) → ((s : ℕ) → synced s ≤ (facts s).synced) → ((s : ℕ) → Gone s → May s)
    → Always a b (Stays l facts Gone one other MayTouch (disk a)) → Keeping l wanted synced May MayTouch a b
keeping_of l pos facts Gone May one other MayTouch wanted synced a b good prefix le may always =
    always_weaker a b (Stays l facts Gone one other MayTouch (disk a)) (LeavesAlone l wanted synced May MayTouch (disk a)) (λ d stands. record {
      leaves = leaves_list l (λ s. list_in l (facts s)) wanted (λ s. (facts s).synced) synced Gone May d prefix le may (leaves_of l pos facts Gone one other d good stands.holding);
      others = stands.others;
    }) always

-- what a pair keeps through two calls, one after the other
pub keeping_then : (l : Layout) (wanted : ℕ → List Entry) (synced : ℕ → ℕ) (May : ℕ → Type 0) (MayTouch : Key → Type 0) (a b c : Timeline)
    → Keeping l wanted synced May MayTouch a b → Keeping l wanted synced May MayTouch b c → Keeping l wanted synced May MayTouch a c
keeping_then l wanted synced May MayTouch a b c first second =
    always_then a b c (LeavesAlone l wanted synced May MayTouch (disk a)) first
    (always_weaker b c (LeavesAlone l wanted synced May MayTouch (disk b)) (LeavesAlone l wanted synced May MayTouch (disk a)) (λ d alone. record {
      leaves = alone.leaves;
      others = λ q not. alone.others q not ∙ (always_now a b (LeavesAlone l wanted synced May MayTouch (disk a)) first).others q not;
    }) second)

-- A call of one part of a pair, which may touch the blobs of its kind of sections that P names: R is what it promises of each moment.
module _ (l : Layout) (values_apart : l.index ≢ l.values) (metadata_apart : l.index ≢ l.metadata) (both_apart : l.values ≢ l.metadata)
    (facts : ℕ → Facts) (Gone : ℕ → Type 0) (one other : Markers) (MayTouch : Key → Type 0) (a b : Timeline) (holding : Holding l facts Gone one other (disk a)) (R : Disk → Type 0) (moments : Always a b R) where
  module _ (P : ℕ → Type 0) (decides : (s : ℕ) → P s ⊎ (P s → ⊥)) where
    -- it changes values
    pub values_phase : ((q : Key) → IsValuesOf l P q → MayTouch q) → ((d : Disk) → R d → (q : Key) → (IsValuesOf l P q → ⊥) → d q ≡ disk a q)
        → ((d : Disk) → R d → (s : ℕ) → s < 2 ^ 64 → P s → ValuesStand l (facts s) (d (section_key l.values s)) ⊎ LeavesNoRecords l (disk a (section_key l.index s)))
        → Always a b (Stays l facts Gone one other MayTouch (disk a))
    values_phase touches others stand = always_weaker a b R (Stays l facts Gone one other MayTouch (disk a)) (λ d r. record {
      holding = among_values l values_apart metadata_apart both_apart facts Gone one other (disk a) d holding P decides (others d r) (stand d r);
      others = λ q not. others d r q (λ is. not (touches q is));
    }) moments

    module _ (touches : (q : Key) → IsIndexOf l P q → MayTouch q) (others : (d : Disk) → R d → (q : Key) → (IsIndexOf l P q → ⊥) → d q ≡ disk a q) where
      -- It adds records to held sections, or settles them.
      pub index_phase : ((d : Disk) → R d → (s : ℕ) → s < 2 ^ 64 → P s → IsLasting l (facts s) (d (section_key l.index s)) × (ValuesStand l (facts s) (disk a (section_key l.values s)) ⊎ LeavesNoRecords l (d (section_key l.index s))))
          → Always a b (Stays l facts Gone one other MayTouch (disk a))
      index_phase lasts = always_weaker a b R (Stays l facts Gone one other MayTouch (disk a)) (λ d r. record {
        holding = among_index l values_apart metadata_apart both_apart facts Gone one other (disk a) d holding P decides (others d r) (lasts d r);
        others = λ q not. others d r q (λ is. not (touches q is));
      }) moments

      -- It makes sections, and adds records to them.
      pub making_phase : 1 ≤ l.record_size → ((s : ℕ) → P s → ((facts s).synced ≡ 0) × ((m : ℕ) → IsMarked one.entries s m ⊎ IsMarked other.entries s m → ⊥)) → ((s : ℕ) → s < 2 ^ 64 → P s → ValuesStand l (facts s) (disk a (section_key l.values s)))
          → ((d : Disk) → R d → ((s : ℕ) → s < 2 ^ 64 → P s → IsLasting l (facts s) (d (section_key l.index s))) ⊎ ((s : ℕ) → s < 2 ^ 64 → P s → longest (d (section_key l.index s)) ≡ 0))
          → Always a b (Stays l facts Gone one other MayTouch (disk a))
      making_phase pos new stand made = always_weaker a b R (Stays l facts Gone one other MayTouch (disk a)) (λ d r. record {
        holding = elim (made d r) [
          | inl lasts ↦ among_index l values_apart metadata_apart both_apart facts Gone one other (disk a) d holding P decides (others d r) (λ s lt named. (lasts s lt named, inl (stand s lt named)))
          | inr bare ↦ among_made l values_apart metadata_apart both_apart facts Gone one other (disk a) d holding P decides (others d r) pos (λ s lt named. (bare s lt named, (new s named).0, (new s named).1))
        ];
        others = λ q not. others d r q (λ is. not (touches q is));
      }) moments

      -- it removes sections
      pub removing_phase : ((s : ℕ) → P s → Gone s × ((m : ℕ) → IsMarked one.entries s m ⊎ IsMarked other.entries s m → ⊥)) → ((d : Disk) → R d → (s : ℕ) → s < 2 ^ 64 → P s → IsGoing (disk a (section_key l.index s)) (d (section_key l.index s)))
          → Always a b (Stays l facts Gone one other MayTouch (disk a))
      removing_phase unmarked going = always_weaker a b R (Stays l facts Gone one other MayTouch (disk a)) (λ d r. record {
        holding = among_going l values_apart metadata_apart both_apart facts Gone one other (disk a) d holding P decides (others d r) (λ s lt named. ((unmarked s named).0, going d r s lt named, (unmarked s named).1));
        others = λ q not. others d r q (λ is. not (touches q is));
      }) moments

  -- it syncs the markers, to others that are true as well
  pub copies_phase : (first second : Markers) → AreTrue l facts (disk a) first → AreTrue l facts (disk a) second → ((q : Key) → IsCopy l q → MayTouch q)
      → ((d : Disk) → R d → metadata.KeepsAlone l.markers l.metadata first second (disk a) d) → Always a b (Stays l facts Gone first second MayTouch (disk a))
  copies_phase first second first_marked second_marked touches keeps = always_weaker a b R (Stays l facts Gone first second MayTouch (disk a)) (λ d r. record {
    holding = among_copies l values_apart metadata_apart both_apart facts Gone one other first second (disk a) d (others d r) (keeps d r).keeps first_marked second_marked holding;
    others = λ q not. others d r q (λ is. not (touches q is));
  }) moments
    where
      others : (d : Disk) → R d → (q : Key) → (IsCopy l q → ⊥) → d q ≡ disk a q
      others d r q not = (keeps d r).others q (λ e. not (Left, e)) (λ e. not (Right, e))
