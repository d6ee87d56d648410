-- The pair at the end of an opening, before its markers move: it may be used, and what its markers will be.
use Rattle.std.proofs.Common.{◌≡◌, ◌↔◌, ◌⊎◌, inl, inr, ℕ, ◌*◌, ◌/◌, ◌^◌, ◌<◌, ◌≤◌, length, take, Option, None, Some, unwrap_or, sym, ◌∙◌, ap, subst, arith}
use Rattle.std.specs.Prelude.{is_some, ◌≢◌}
use Rattle.std.proofs.lemmas.Nat.{mul-le, div_below, le-div}
use Rattle.std.proofs.Math.Nat.{div-mul-le_self}
use Rattle.blob_device.specs.Disk.{Key, Disk, nothing}
use Rattle.blob_device.specs.Opened.{OpenedList}
use Rattle.blob_device.specs.Timeline.{Timeline, disk}
use Rattle.sealed_pages.specs.declared.page_blob.PageBlob.{PageBlob}
use Rattle.sealed_pages.specs.declared.write_blob.WriteBlob.{WriteBlob}
use Rattle.sealed_pages.specs.Shown.{shown}
use Rattle.section_manager.specs.declared.buffer.SectionBuffer as buffer
use Rattle.section_manager.specs.declared.unsealed.WriteFactory.{WriteFactory}
use Rattle.section_manager.specs.SealedLaws.{counted as index_counted}
use Rattle.section_manager.specs.Sections.{Sections, section_key, key_of, IsHeld, SameBounds, SamePlace}
use Rattle.section_manager.specs.Setting.{Setting}
use Rattle.paired.specs.lemmas.Glob.{buffers}
use Rattle.paired.specs.lemmas.opening.Ends.{marked_is, marked_or_zero}
use Rattle.paired.specs.lemmas.reconcile.Resting.{all_of, index_number, values_key}
use Rattle.paired.specs.lemmas.reconcile.Start.{Drained, GaveBack, ends_of, opening, walk_unfailed}
use Rattle.section_manager.specs.lemmas.Walk.{same_bounds}
use Rattle.segments.specs.FixedLists.{Lists}
use Rattle.segments.specs.FixedLists as fixed
use Rattle.meta_store.specs.Calls.{IsOpened}
use Rattle.paired.specs.glob.Sections as glob
use Rattle.paired.specs.Kept.{IsMarked, IsSameLayout, marker_of}
use Rattle.paired.specs.OpeningFound.{CountsAll}
use Rattle.paired.specs.Pair.{Pair, IsPair, IsMoving, length_of, synced_length}
use Rattle.paired.specs.Places.{last_end}
use Rattle.paired.specs.Replaying.{Run, marker, records_given}
use Rattle.paired.specs.lemmas.Records.{length-records}
use Rattle.paired.proofs.Ends.{RecordsCut, ValuesCut, ValuesRemoved, not_of_none}
use Rattle.paired.proofs.reconcile.Stages.{Joint}
use Rattle.paired.proofs.reconcile.Joints.{cut_bounds, cut_opened, cut_values_same, trim_opened, removed_opened, removed_held}
use Rattle.blob_device.proofs.general.Options.{none_or_value}

no_length : (size : ℕ) → 1 ≤ size → 0 / size ≡ 0
no_length size pos = omega (arith, div_below 0 size 1 (omega (arith, pos)) (omega (arith, pos)))

-- What the three stages before the markers move have made.
pub record Reconciled {F S : Type 0} {gs : _} (g : buffer.Ghosts (PageBlob S gs)) (gives : F → Setting) (takes : WriteFactory → Setting) (told : Type 0) (run : Run F (PageBlob S gs)) (start : Disk)
    (j : Lists F (PageBlob S gs)) (n : Sections WriteFactory WriteBlob) (o : OpenedList) (d : Disk) : Type 0 where
  pub joint : Joint g gives takes told run start j n o d
  pub reached : (s : ℕ) → marker run s * run.layout.record_size ≤ fixed.section_size j.sections s
  pub index_bounds : SameBounds run.walk.journal.sections j.sections
  pub values_bounds : SameBounds run.values n
  pub values_held : (s : ℕ) → IsHeld n s ↔ (IsHeld run.values s × IsHeld run.walk.journal.sections s)
  pub opened : IsOpened run.store.partition o
  pub values : told → (s : ℕ) → IsHeld run.walk.journal.sections s → glob.section_bytes n d s ≡ take (last_end run.layout.place (records_given run start s)) (glob.section_bytes run.values start s)
  pub orphans : told → (s : ℕ) → IsHeld run.values s → run.walk.journal.sections.held s ≡ None → d (section_key run.layout.values s) ≡ nothing

-- What is noted of each section: all its records are synced.
pub record Notes {F S : Type 0} {gs : _} (run : Run F (PageBlob S gs)) (j : Lists F (PageBlob S gs)) (trailing : ℕ → Option ℕ) : Type 0 where
  pub trails : (s k : ℕ) → trailing s ≡ Some k → (k ≢ marker run s)
  pub named : (s : ℕ) → IsHeld j.sections s → unwrap_or (trailing s) (marker run s) ≡ fixed.section_size j.sections s / run.layout.record_size
  pub others : (s : ℕ) → (IsHeld j.sections s → ⊥) → trailing s ≡ None

abbrev pub pair_with : {F B : Type 0} → Run F B → Lists F B → Sections WriteFactory WriteBlob → (ℕ → Option ℕ) → Pair F B
pair_with run j n trailing = record { layout = run.layout; index = j; values = n; store = run.store; trailing = trailing }

module _ {F S : Type 0} {gs : _} {g : buffer.Ghosts (PageBlob S gs)} {gives : F → Setting} {takes : WriteFactory → Setting} {told : Type 0} {run : Run F (PageBlob S gs)} {o : OpenedList} (a : Timeline) (e : Drained g gives takes told run o (disk a)) where
  -- no section ends below its marker
  cut_reached : (j : Lists F (PageBlob S gs)) (back : GaveBack run j) (k : Lists F (PageBlob S gs)) (o1 : OpenedList) (b : Timeline) → RecordsCut g gives told run.layout run.ends.at j k o o1 a b → (s : ℕ) → marker run s * run.layout.record_size ≤ fixed.section_size k.sections s
  cut_reached j back k o1 b did s =
      let floor : marker run s * run.layout.record_size ≤ fixed.section_size j.sections s =
      subst (λ (m : Sections F (PageBlob S gs)). marker run s * run.layout.record_size ≤ fixed.section_size m s) (sym back.sections) (omega (arith, (opening e).floors s, (opening e).reached (walk_unfailed e) s)) in
      elim (none_or_value (run.ends.at s)) [
        | inl none ↦ omega (arith, floor, ap fixed.size_held (did.others s none).held)
        | inr some ↦ omega (arith, floor, did.sizes s some.0 some.1, mul-le (marker run s) run.layout.record_size some.0 run.layout.record_size ((opening e).ends_from s some.0 some.1).1 (omega arith))
      ]

  -- ---- the three stages together
  pub reconciled_of : (j : Lists F (PageBlob S gs)) (back : GaveBack run j) (k : Lists F (PageBlob S gs)) (o1 : OpenedList) (b : Timeline) (did : RecordsCut g gives told run.layout run.ends.at j k o o1 a b) (joint : Joint g gives takes told run (disk a) k run.values o1 (disk b))
      (m : Sections WriteFactory WriteBlob) (o2 : OpenedList) (c : Timeline) (trims : ValuesCut g gives takes told run.layout k run.values m o1 o2 b c) (joint_c : Joint g gives takes told run (disk a) k m o2 (disk c))
      (Doomed : ℕ → Type 0) (decides : (s : ℕ) → Doomed s ⊎ (Doomed s → ⊥)) (doomed : (s : ℕ) → Doomed s ↔ (IsHeld m s × (IsHeld k.sections s → ⊥))) (n : Sections WriteFactory WriteBlob) (o3 : OpenedList) (f : Timeline)
      (removes : ValuesRemoved takes told Doomed m n o2 o3 c f) (joint_f : Joint g gives takes told run (disk a) k n o3 (disk f)) → Reconciled g gives takes told run (disk a) k n o3 (disk f)
  reconciled_of j back k o1 b did joint m o2 c trims joint_c Doomed decides doomed n o3 f removes joint_f = record {
    joint = joint_f;
    reached = cut_reached j back k o1 b did;
    index_bounds = cut_bounds a (ends_of e j back) k o1 b did joint.readable;
    values_bounds = same_bounds run.values m n trims.bounds removes.bounds;
    values_held = λ s. (let both = removed_held a (ends_of e j back) c k m o2 joint_c Doomed decides doomed n o3 f removes joint_f.readable s in
        (λ has. ((trims.held s).0 (both.0 has).0, (both.0 has).1), λ has. both.1 ((trims.held s).1 has.0, has.1)));
    opened = removed_opened a (ends_of e j back) c k m o2 joint_c Doomed decides doomed n o3 f removes joint_f.readable e.here.marked (trim_opened a (ends_of e j back) b k o1 joint m o2 c trims joint_c.readable e.here.marked (cut_opened a (ends_of e j back) k o1 b did joint.readable e.here.marked e.over.metadata_opened));
    values = λ t s has.
        let held : IsHeld k.sections s = (joint.held s).1 has in
        removes.bytes t s (λ is. ((doomed s).0 is).1 held) ∙ trims.cut t s held
        ∙ (λ i. take (last_end run.layout.place (joint.records t s i)) (cut_values_same a (ends_of e j back) k o1 b did joint.readable t s i));
    orphans = λ t s has none.
        let was : IsHeld m s = (trims.held s).1 has in
        let is : Doomed s = (doomed s).1 (was, λ held. not_of_none (run.walk.journal.sections.held s) none ((joint.held s).0 held)) in
        subst (λ (q : Key). disk f q ≡ nothing) (values_key joint_c.rests.parts s) (removes.gone t s is was);
  }

  -- ---- the pair that they have made, once it is noted that all is synced
  module _ (j : Lists F (PageBlob S gs)) (n : Sections WriteFactory WriteBlob) (o3 : OpenedList) (d : Disk) (did : Reconciled g gives takes told run (disk a) j n o3 d) (trailing : ℕ → Option ℕ) (notes : Notes run j trailing) where
    marked_held : (s m : ℕ) → IsMarked run.store.entries s m → IsHeld j.sections s
    marked_held s m is = (did.joint.held s).1 ((opening e).marked (walk_unfailed e) s m is)

    unheld_marker : (s : ℕ) → j.sections.held s ≡ None → marker run s ≡ 0
    unheld_marker s none = elim (marked_or_zero run.store.entries s) [
      | inl is ↦ absurd (not_of_none (j.sections.held s) none (marked_held s is.0 is.1))
      | inr nil ↦ nil
    ]

    -- what is synced is all
    pub all_synced : (s : ℕ) → unwrap_or (trailing s) (marker run s) ≡ fixed.section_size j.sections s / run.layout.record_size
    all_synced s = elim (none_or_value (j.sections.held s)) [
      | inl none ↦ ap (λ (x : Option ℕ). unwrap_or x (marker run s)) (notes.others s (not_of_none (j.sections.held s) none)) ∙ unheld_marker s none
          ∙ sym (ap (λ (x : Option (PageBlob S gs)). fixed.size_held x / run.layout.record_size) none ∙ no_length run.layout.record_size e.here.some)
      | inr some ↦ notes.named s (ap is_some some.1)
    ]

    -- a marker is at most that
    pub marker_within : (s : ℕ) → marker run s ≤ fixed.section_size j.sections s / run.layout.record_size
    marker_within s = le-div (marker run s) (fixed.section_size j.sections s) run.layout.record_size (omega (arith, e.here.some)) (did.reached s)

    pub is_pair : IsPair g gives buffers takes told (pair_with run j n trailing) o3 d
    is_pair = record {
      index = did.joint.rests.journal;
      values = did.joint.rests.parts.values;
      apart = e.over.apart;
      whole = record {
        recovered = λ s. (did.joint.rests.proven s).checked;
        unfloored = λ s. (did.joint.rests.proven s).free;
        index_ceiling = did.index_bounds.ceiling ∙ (opening e).index_ceiling;
        values_ceiling = did.values_bounds.ceiling ∙ (opening e).values_ceiling;
        index_known = did.joint.rests.index_known;
        values_known = did.joint.rests.parts.values_known;
        values_held = λ s has. (did.joint.held s).1 ((did.values_held s).0 has).1;
        floors = omega (arith, did.values_bounds.floor, (opening e).values_floor);
      };
      markers = record {
        marked = λ s m is. (marked_held s m is, omega (arith, all_synced s, marker_within s, marked_is run.store.entries s m is));
        trails = λ s k is. (trail_held s k is, notes.trails s k is);
      };
      settled = record {
        index = λ s v held. omega (
          arith,
          ap (λ (x : ℕ). x * run.layout.record_size) (all_synced s),
          div-mul-le_self (fixed.section_size j.sections s) run.layout.record_size,
          all_of did.joint.rests.parts s v held,
          ap (λ (x : Option (PageBlob S gs)). fixed.size_held x) held,
        );
        lengths = λ s. omega (arith, all_synced s);
      };
      metadata_opened = did.opened;
      storable = e.over.storable;
      synced = e.over.synced;
      disk = λ t. record { markers = did.joint.rests.marks.stands t e.here.marked };
    }
      where
        trail_held : (s k : ℕ) → trailing s ≡ Some k → IsHeld j.sections s
        trail_held s k is = elim (none_or_value (j.sections.held s)) [
          | inl none ↦ absurd (cc (is, notes.others s (not_of_none (j.sections.held s) none)))
          | inr some ↦ ap is_some some.1
        ]

    -- how many records a section has
    pub length_given : told → (s : ℕ) → fixed.section_size j.sections s / run.layout.record_size ≡ length (records_given run (disk a) s)
    length_given t s = ap (λ (x : ℕ). x / run.layout.record_size) (sym (sized s)) ∙ sym (length-records run.layout.record_size (fixed.section_bytes j.sections d s)) ∙ ap length (did.joint.records t s)
      where
        sized : (s : ℕ) → length (fixed.section_bytes j.sections d s) ≡ fixed.section_size j.sections s
        sized s = elim (none_or_value (j.sections.held s)) [
          | inl none ↦ ap (λ (x : Option (PageBlob S gs)). length (fixed.bytes_held x (d (key_of j.sections s)).content)) none ∙ sym (ap (λ (x : Option (PageBlob S gs)). fixed.size_held x) none)
          | inr some ↦ ap (λ (x : Option (PageBlob S gs)). length (fixed.bytes_held x (d (key_of j.sections s)).content)) some.1 ∙ index_counted (shown some.0) (d (key_of j.sections s)).content
              ∙ sym (ap (λ (x : Option (PageBlob S gs)). fixed.size_held x) some.1)
        ]

    -- a marker that moves is another number than that
    pub moves : (IsActive : ℕ → Type 0) (s : ℕ) → IsMoving (pair_with run j n trailing) (λ _. ⊥) IsActive s → fixed.section_size j.sections s / run.layout.record_size ≢ marker run s
    moves IsActive s (small, not, inl never) same = never.0
    moves IsActive s (small, not, inr differs) same = differs.1 (all_synced s ∙ same)

    pub moves_back : (IsActive : ℕ → Type 0) → ((s : ℕ) → IsActive s → ⊥) → (s : ℕ) → fixed.section_size j.sections s / run.layout.record_size ≢ marker run s → IsMoving (pair_with run j n trailing) (λ _. ⊥) IsActive s
    moves_back IsActive none s differs = (small (none_or_value (j.sections.held s)), none s, inr ((λ never. never), λ same. differs (sym (all_synced s) ∙ same)))
      where
        small : (j.sections.held s ≡ None) ⊎ ((v : PageBlob S gs) × (j.sections.held s ≡ Some v)) → s < 2 ^ 64
        small (inl absent) = absurd (differs (ap (λ (x : Option (PageBlob S gs)). fixed.size_held x / run.layout.record_size) absent ∙ no_length run.layout.record_size e.here.some ∙ sym (unheld_marker s absent)))
        small (inr some) = index_number did.joint.rests.parts s (ap is_some some.1)

    -- the markers that were moved count all records
    pub counts_of : (q : Pair F (PageBlob S gs)) → q.index ≡ j → q.values ≡ n → IsSameLayout run.layout q.layout → q.layout.record_size ≡ run.layout.record_size
        → ((s : ℕ) → synced_length q s ≡ synced_length (pair_with run j n trailing) s) → ((s : ℕ) → marker_of q.store.entries s ≡ synced_length q s)
        → ((s m : ℕ) → IsMarked q.store.entries s m → IsMarked run.store.entries s m ⊎ ((m ≡ synced_length q s) × (m ≢ marker run s)))
        → ((((s : ℕ) × IsMoving (pair_with run j n trailing) (λ _. ⊥) (λ _. ⊥) s) → ⊥) → q.store ≡ run.store) → q.store.floor ≡ run.store.floor → CountsAll run q
    counts_of q index values layout sized synced markers marked still floor =
        let lengths : (s : ℕ) → length_of q s ≡ fixed.section_size j.sections s / run.layout.record_size = (λ s. ap (λ (x : Lists F (PageBlob S gs)). fixed.section_size x.sections s / q.layout.record_size) index ∙ ap (λ (k : ℕ). fixed.section_size j.sections s / k) sized) in
        let all : (s : ℕ) → synced_length q s ≡ length_of q s = (λ s. synced s ∙ all_synced s ∙ sym (lengths s)) in
        record {
          held = λ s. subst (λ (x : Lists F (PageBlob S gs)). IsHeld x.sections s ↔ IsHeld run.walk.journal.sections s) (sym index) (did.joint.held s);
          values_held = λ s. subst (λ (x : Sections WriteFactory WriteBlob). IsHeld x s ↔ (IsHeld run.values s × IsHeld run.walk.journal.sections s)) (sym values) (did.values_held s);
          markers = λ s. markers s ∙ all s;
          synced = all;
          marked = λ s m is. elim (marked s m is) [
            | inl old ↦ inl old
            | inr new ↦ inr (new.0 ∙ all s, new.1)
          ];
          still = λ same. still (λ w. moves (λ _. ⊥) w.0 w.1 (sym (lengths w.0) ∙ sym (same w.0)));
          floors = (
            ap (λ (x : Lists F (PageBlob S gs)). x.sections.floor) index ∙ did.index_bounds.floor ∙ (opening e).index_floor,
            ap (λ (x : Sections WriteFactory WriteBlob). x.floor) values ∙ did.values_bounds.floor ∙ (opening e).values_floor,
          );
          marker_floor = floor;
          places = (
            subst (λ (x : Lists F (PageBlob S gs)). SamePlace run.walk.journal.sections x.sections) (sym index) did.index_bounds.place,
            subst (λ (x : Sections WriteFactory WriteBlob). SamePlace run.values x) (sym values) did.values_bounds.place,
          );
          layout = layout;
        }
