-- The last stage of the end of an opening: the markers move, and each crash keeps what it kept before.
use Rattle.std.proofs.Common.{◌≡◌, inl, inr, ℕ, ◌^◌, ◌<◌, true, false, List, [], length, map, take, IsTrue, Option, unwrap_or, refl, sym, ◌∙◌, ap, subst, arith}
use Rattle.std.specs.Prelude.{is_some}
use Rattle.std.specs.List.{AllByRecursion}
use Rattle.std.proofs.lemmas.List.{length-map}
use Rattle.blob_device.specs.Disk.{Key, Blob, Disk, Image, IsCrashOf, MayLeave}
use Rattle.blob_device.specs.Opened.{OpenedList}
use Rattle.blob_device.specs.Timeline.{Timeline, disk, Always}
use Rattle.blob_device.specs.lemmas.Moments.{always_weaker}
use Rattle.sealed_pages.specs.SealedPrefix.{sealed_prefix}
use Rattle.sealed_pages.specs.declared.page_blob.PageBlob.{PageBlob}
use Rattle.sealed_pages.specs.declared.write_blob.WriteBlob.{WriteBlob}
use Rattle.sealed_pages.specs.Reading.{Unchanged}
use Rattle.section_manager.specs.declared.buffer.SectionBuffer as buffer
use Rattle.section_manager.specs.declared.unsealed.WriteFactory.{WriteFactory}
use Rattle.section_manager.specs.Sections.{Sections, section_key, IsHeld}
use Rattle.section_manager.specs.Setting.{Setting}
use Rattle.segments.specs.FixedLists.{Lists}
use Rattle.segments.specs.FixedLists as fixed
use Rattle.meta_store.specs.Blobs.{blob_of}
use Rattle.meta_store.specs.lemmas.Uses.{IsReadable}
use Rattle.paired.specs.lemmas.opening.Ends.{marked_is, marked_or_zero, prefix_sound}
use Rattle.paired.specs.lemmas.opening.Phases.{IsBack, IsPhase, copy_or_not, markers_phase, not_index, not_values}
use Rattle.paired.specs.lemmas.reconcile.Kept.{sound_longer}
use Rattle.paired.specs.lemmas.reconcile.Phases.{markers_one}
use Rattle.paired.specs.lemmas.reconcile.Resting.{known_of, rests_no_chance, stored_at, values_at}
use Rattle.paired.specs.lemmas.reconcile.Start.{Drained, GaveBack}
use Rattle.meta_store.specs.Store.{contents_of}
use Rattle.paired.specs.Crashes.{IsBlobOf, IsCopy, Keeps, Keeping, LeavesAlone}
use Rattle.paired.specs.glob.Sections as glob
use Rattle.paired.specs.Kept.{Markers, IsMarked, marker_of, content_at, stored_records, is_sound_in, kept}
use Rattle.paired.specs.Opening.{as_read, IsLawful, MayBeOpened, Recalls}
use Rattle.paired.specs.OpeningFound.{GivesInPlace}
use Rattle.paired.specs.Pair.{Pair, IsSafeOn, IsMoving, list_of, synced_length}
use Rattle.paired.specs.Places.{Follow, last_end}
use Rattle.paired.specs.Records.{records, is_sound, unbroken_prefix, entry_of}
use Rattle.paired.specs.Replaying.{Run, marker, records_given, is_sound_over}
use Rattle.paired.proofs.reconcile.Phases.{index_left, values_left}
use Rattle.paired.proofs.reconcile.Left.{IsDirty, Stage}
use Rattle.paired.proofs.reconcile.Pair.{Reconciled, Notes, pair_with, all_synced, length_given, moves}
use Rattle.paired.proofs.reconcile.Kept.{none_given, none_in_place, in_place_from, sound_values, sound_pair}
use Rattle.blob_device.proofs.general.Lists.{all_by}
use Rattle.blob_device.proofs.general.Options.{none_or_value}

module _ {F S : Type 0} {gs : _} {g : buffer.Ghosts (PageBlob S gs)} {gives : F → Setting} {takes : WriteFactory → Setting} {told : Type 0} {run : Run F (PageBlob S gs)} {o : OpenedList} (a : Timeline) (e : Drained g gives takes told run o (disk a)) (t : told)
    (j0 : Lists F (PageBlob S gs)) (back : GaveBack run j0) (j : Lists F (PageBlob S gs)) (n : Sections WriteFactory WriteBlob) (o3 : OpenedList) (f : Timeline) (did : Reconciled g gives takes told run (disk a) j n o3 (disk f))
    (trailing : ℕ → Option ℕ) (notes : Notes run j trailing) (map_readable : IsReadable run.layout.markers) (may : MayBeOpened run.layout (disk a)) where
  abbrev moving : Pair F (PageBlob S gs)
  moving = pair_with run j n trailing

  -- ---- one moment
  module _ (d : Disk) (alone : (q : Key) → (IsCopy run.layout q → ⊥) → d q ≡ disk f q) where
    pub marking : IsPhase run.layout e.over.apart (disk f) d (λ _. false) true
    marking = record {
      readable = λ q own. did.joint.readable t q;
      no_chance = rests_no_chance did.joint.rests t;
      others = λ q none. alone q (λ copy. none (inr (inr (refl, copy))));
    }

    module _ (image old : Image) (markers : Markers) (crash : IsCrashOf d image) (back_to : IsBack run.layout e.over.apart (disk f) d (λ _. false) true image old) (lawful : IsLawful run.layout old markers) where
      -- the old image has the sections' bytes, and the copies as they read
      old_index : (s : ℕ) → s < 2 ^ 64 → content_at old run.layout.index s ≡ content_at (as_read (disk f)) run.layout.index s
      old_index s small =
          let none = not_index run.layout e.over.apart (disk f) d (λ _. false) true s small refl in
          ap (λ (x : Option (List ℕ)). unwrap_or x []) (back_to.other (section_key run.layout.index s) none)
          ∙ index_left (known_of did.joint.rests) t (did.joint.bare t may) s small (image (section_key run.layout.index s)) (subst (λ (b : Blob). MayLeave b (image (section_key run.layout.index s))) (marking.others (section_key run.layout.index s) none) (crash (section_key run.layout.index s)))

      old_values : (s : ℕ) → s < 2 ^ 64 → content_at old run.layout.values s ≡ glob.section_bytes n (disk f) s
      old_values s small =
          let none = not_values run.layout e.over.apart (disk f) d (λ _. false) true s small refl in
          ap (λ (x : Option (List ℕ)). unwrap_or x []) (back_to.other (section_key run.layout.values s) none)
          ∙ values_left (known_of did.joint.rests) t (did.joint.bare t may) s small (image (section_key run.layout.values s)) (subst (λ (b : Blob). MayLeave b (image (section_key run.layout.values s))) (marking.others (section_key run.layout.values s) none) (crash (section_key run.layout.values s)))
          ∙ values_at did.joint.rests.parts t s small

      old_stored : (s : ℕ) → s < 2 ^ 64 → stored_records run.layout old s ≡ records_given run (disk a) s
      old_stored s small = ap (λ (c : List ℕ). records run.layout.record_size (sealed_prefix run.layout.seal run.layout.page_size c)) (old_index s small) ∙ stored_at did.joint.rests t s small ∙ did.joint.records t s

      same_markers : markers ≡ contents_of run.store
      same_markers = markers_one did.joint.rests.marks t map_readable old (λ is side. back_to.own (blob_of run.layout.metadata side) (inr (inr (refl, (side, refl))))) markers lawful

      -- so the given records are in place
      marked_sound : (s : ℕ) → s < 2 ^ 64 → IsHeld run.walk.journal.sections s → AllByRecursion (λ r. IsTrue (is_sound_over run (disk a) s r)) (take (marker run s) (records_given run (disk a) s))
      marked_sound s small has = elim (marked_or_zero run.store.entries s) [
        | inl is ↦
            let same : marker run s ≡ is.0 = marked_is run.store.entries s is.0 is.1 in
            let was = (lawful.true_markers s is.0 (subst (λ (ms : Markers). IsMarked ms.entries s is.0) (sym same_markers) is.1)).sound in
            subst (λ (m : ℕ). AllByRecursion (λ r. IsTrue (is_sound_over run (disk a) s r)) (take m (records_given run (disk a) s))) (sym same)
            (all_by (λ r. IsTrue (is_sound_in run.layout old s r)) (λ r. IsTrue (is_sound_over run (disk a) s r))
            (λ r sound. sound_longer run.layout.seal (glob.section_bytes run.values (disk a) s) (last_end run.layout.place (records_given run (disk a) s)) (run.layout.place r).0 (run.layout.place r).1
            (subst (λ (c : List ℕ). IsTrue (is_sound run.layout.seal c (run.layout.place r))) (old_values s small ∙ did.values t s has) sound))
            (take is.0 (records_given run (disk a) s)) (subst (λ (rs : List (List ℕ)). AllByRecursion (λ r. IsTrue (is_sound_in run.layout old s r)) (take is.0 rs)) (old_stored s small) was))
        | inr none ↦ subst (λ (m : ℕ). AllByRecursion (λ r. IsTrue (is_sound_over run (disk a) s r)) (take m (records_given run (disk a) s))) (sym none) tt
      ]

      pub in_place_old : (s : ℕ) → GivesInPlace run (disk a) s
      in_place_old s = elim (none_or_value (run.walk.journal.sections.held s)) [
        | inl none ↦ none_in_place a e t j0 back s (none_given a e t j0 back s none)
        | inr some ↦
            let has : IsHeld run.walk.journal.sections s = ap is_some some.1 in
            let small : s < 2 ^ 64 = e.over.index.over.opened_list.number s (inl has) in
            in_place_from a e t j0 back s (lawful.places s small).end (subst (λ (rs : List (List ℕ)). Follow run.layout.place 0 rs (lawful.places s small).end) (old_stored s small) (lawful.places s small).follow) (marked_sound s small has)
      ]

      pub list_old : (s : ℕ) → s < 2 ^ 64 → list_of moving (disk f) s ≡ kept run.layout old (marker_of markers.entries s) s
      list_old s small =
          let values : List ℕ = glob.section_bytes n (disk f) s in
          let whole : unbroken_prefix (λ r. is_sound run.layout.seal values (run.layout.place r)) (marker run s) 0 (records_given run (disk a) s) ≡ records_given run (disk a) s =
          prefix_sound (λ r. is_sound run.layout.seal values (run.layout.place r)) (marker run s) 0 (records_given run (disk a) s) (sound_values a e t j0 back j n o3 (disk f) did trailing notes s (in_place_old s)) in
          ap (map (entry_of run.layout.place values)) (did.joint.records t s ∙ sym whole)
          ∙ sym (λ i. map (entry_of run.layout.place (old_values s small i)) (unbroken_prefix (λ r. is_sound run.layout.seal (old_values s small i) (run.layout.place r)) (marker_of (same_markers i).entries s) 0 (old_stored s small i)))

      pub sound_old : IsSafeOn moving (disk f)
      sound_old = record { sound = sound_pair a e t j0 back j n o3 (disk f) did trailing notes may in_place_old; floor = sym (ap (λ (ms : Markers). ms.floor) same_markers) ∙ lawful.floor }

    -- what is synced is the whole list
    whole_lists : (image : Image) → Keeps run.layout (list_of moving (disk f)) (synced_length moving) (λ _. ⊥) image → Keeps run.layout (list_of moving (disk f)) (λ s. length (list_of moving (disk f) s)) (λ _. ⊥) image
    whole_lists image keeps = record {
      markers = keeps.markers;
      held = keeps.held;
      floor = keeps.floor;
      true_markers = keeps.true_markers;
      lists = λ s small. elim (keeps.lists s small) [
        | inl prefix ↦ inl (record { same = prefix.same; synced = omega (arith, prefix.synced, all s) })
        | inr gone ↦ inr gone
      ];
      stored = keeps.stored;
    }
      where
        all : (s : ℕ) → length (list_of moving (disk f) s) ≡ synced_length moving s
        all s = length-map (records run.layout.record_size (fixed.section_bytes j.sections (disk f) s)) (entry_of run.layout.place (glob.section_bytes n (disk f) s)) ∙ ap length (did.joint.records t s)
            ∙ sym (length_given a e j n o3 (disk f) did trailing notes t s) ∙ sym (all_synced a e j n o3 (disk f) did trailing notes s)

    pub marking_recalls : (IsSafeOn moving (disk f) → LeavesAlone run.layout (list_of moving (disk f)) (synced_length moving) (λ _. ⊥) (IsCopy run.layout) (disk f) d) → Recalls run.layout (disk f) d
    marking_recalls leaves = markers_phase run.layout e.over.apart (disk f) d (λ _. false) true marking (list_of moving (disk f))
        (λ image old markers crash fresh back_to lawful s small. list_old image old markers crash back_to lawful s small)
        (λ image old markers crash fresh back_to lawful. whole_lists image ((leaves (sound_old image old markers crash back_to lawful)).leaves image crash fresh))

-- ---- the stage
module _ {F S : Type 0} {gs : _} {g : buffer.Ghosts (PageBlob S gs)} {gives : F → Setting} {takes : WriteFactory → Setting} {told : Type 0} {run : Run F (PageBlob S gs)} {o : OpenedList} (a : Timeline) (e : Drained g gives takes told run o (disk a)) (t : told)
    (j0 : Lists F (PageBlob S gs)) (back : GaveBack run j0) (j : Lists F (PageBlob S gs)) (n : Sections WriteFactory WriteBlob) (o3 : OpenedList) (f : Timeline) (did : Reconciled g gives takes told run (disk a) j n o3 (disk f))
    (trailing : ℕ → Option ℕ) (notes : Notes run j trailing) (map_readable : IsReadable run.layout.markers) (h : Timeline)
    (alone : Always f h (λ d. (q : Key) → (IsCopy run.layout q → ⊥) → d q ≡ disk f q))
    (moments : IsSafeOn (pair_with run j n trailing) (disk f) → Keeping run.layout (list_of (pair_with run j n trailing) (disk f)) (synced_length (pair_with run j n trailing)) (λ _. ⊥) (IsCopy run.layout) f h)
    (still : (((s : ℕ) × IsMoving (pair_with run j n trailing) (λ _. ⊥) (λ _. ⊥) s) → ⊥) → Unchanged f h) where
  abbrev Marks : Disk → Type 0
  Marks d = ((q : Key) → (IsCopy run.layout q → ⊥) → d q ≡ disk f q)
      × (IsSafeOn (pair_with run j n trailing) (disk f) → LeavesAlone run.layout (list_of (pair_with run j n trailing) (disk f)) (synced_length (pair_with run j n trailing)) (λ _. ⊥) (IsCopy run.layout) (disk f) d)

  marks : Always f h Marks
  marks = record { later = alone.later; kept = alone.kept; each = λ m lo hi. (alone.each m lo hi, λ sound. (moments sound).each m lo hi) }

  -- a marker moves only where not all was kept
  dirty_copy : (q : Key) → IsCopy run.layout q → (s : ℕ) × IsMoving (pair_with run j n trailing) (λ _. ⊥) (λ _. ⊥) s → IsDirty run (disk a) q
  dirty_copy q copy w = record {
    section = λ s is own. no_blob s q copy own;
    some = λ all. moves a e j n o3 (disk f) did trailing notes (λ _. ⊥) w.0 w.1
        (length_given a e j n o3 (disk f) did trailing notes t w.0 ∙ ap length (all.clean w.0).given ∙ sym (all.markers w.0));
  }
    where
      no_blob : (s : ℕ) (q : Key) → IsCopy run.layout q → IsBlobOf run.layout (λ x. x ≡ s) q → ⊥
      no_blob s q copy (inl is) = e.over.apart.metadata (ap (λ (k : Key). k.0) (sym is.3 ∙ copy.1))
      no_blob s q copy (inr is) = e.over.apart.both (ap (λ (k : Key). k.0) (sym is.3 ∙ copy.1))

  pub markers_stage : Stage run 3 (disk a) f h
  markers_stage = record {
    only = record {
      later = alone.later;
      kept = alone.kept;
      each = λ m lo hi q none. elim (copy_or_not run.layout q) [
        | inr other ↦ alone.each m lo hi q other
        | inl copy ↦ (let same : h.at m ≡ disk f = (still (λ w. none (copy, dirty_copy q copy w))).each m lo hi in ap (λ (x : Disk). x q) same)
      ];
    };
    recalls = λ may. always_weaker f h Marks (Recalls run.layout (disk f)) (λ d is. marking_recalls a e t j0 back j n o3 f did trailing notes map_readable may d is.0 is.1) marks;
  }
