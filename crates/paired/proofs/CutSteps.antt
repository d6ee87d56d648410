-- Each step that cuts sections: records are cut, then values, then values without records are removed.
use Rattle.std.proofs.Common.{◌≡◌, ℕ, ◌^◌, ◌<◌, Option, IsSome, IsSomeAnd, List, sym, ◌∙◌}
use Rattle.blob_device.specs.Disk.{Key, Disk, MayLeave, reads}
use Rattle.blob_device.specs.Opened.{OpenedList}
use Rattle.blob_device.specs.Timeline.{Timeline, disk, Always, Each}
use Rattle.blob_device.specs.lemmas.Moments.{always_weaker}
use Rattle.sealed_pages.specs.declared.page_blob.PageBlob.{PageBlob}
use Rattle.sealed_pages.specs.declared.write_blob.WriteBlob.{WriteBlob}
use Rattle.section_manager.specs.declared.buffer.SectionBuffer as buffer
use Rattle.section_manager.specs.declared.unsealed.WriteFactory.{WriteFactory}
use Rattle.section_manager.specs.Sections.{Sections, IsHeld, IsKeyOf}
use Rattle.section_manager.specs.Setting.{Setting}
use Rattle.segments.specs.FixedLists.{Lists}
use Rattle.value_codec.specs.declared.key.Key8.{Key8}
use Rattle.meta_store.specs.Store.{Store}
use Rattle.meta_store.specs.lemmas.Uses.{IsReadable}
use Rattle.paired.specs.lemmas.Ends.{Ends}
use Rattle.paired.specs.lemmas.reconcile.Resting.{Known, known_of, stored_at, values_at, values_key, values_number}
use Rattle.paired.specs.Crashes.{IsIndexOf}
use Rattle.paired.specs.glob.Lasting.{Cutting}
use Rattle.paired.specs.glob.Sections as glob
use Rattle.paired.specs.Kept.{Layout, marker_of, content_at, stored_records, is_sound_in}
use Rattle.paired.specs.Opening.{as_read, MayBeOpened, Relation, IsOrder, RecallsBy}
use Rattle.paired.specs.Pair.{AreApart}
use Rattle.paired.specs.Reconciling.{CutTo, EndOf, Shortening}
use Rattle.paired.specs.Records.{is_sound, unbroken_prefix}
use Rattle.paired.proofs.Ends.{Bounds, CutsTo, Between, bounds_of, none_of_not}
use Rattle.paired.proofs.reconcile.Phases.{shortening_cuts, shortening_recalls, cutting_recalls, removing_recalls}
use Rattle.paired.proofs.Steps.{Step}

-- ---- records are cut
-- whatever is owed of a replay
pub cuts_step : {F S : Type 0} {gs : _} {g : buffer.Ghosts (PageBlob S gs)} {gives : F → Setting} {takes : WriteFactory → Setting} {told : Type 0} {Rel : Relation} {l : Layout} {i : Sections F (PageBlob S gs)} {m : Sections WriteFactory WriteBlob} {u : Store Key8 ℕ} {ends : ℕ → Option ℕ} {o : OpenedList}
    (a : Timeline) (known : Known g gives takes told l i m u o (disk a)) (map_readable : IsReadable l.markers) (t : told) (apart : AreApart l) (bounds : Bounds Rel l u ends (disk a))
    → ((q : Key) → MayLeave (disk a q) (reads (disk a q))) → (b : Timeline) → Always a b (CutsTo l ends (disk a)) → Step l Rel (MayBeOpened l (disk a)) (IsIndexOf l (λ s. IsSome (ends s))) a b
cuts_step {Rel = Rel} {l = l} {ends = ends} a known map_readable t apart bounds readable b moments = record {
  only = always_weaker a b (CutsTo l ends (disk a)) (λ d. (q : Key) → (IsIndexOf l (λ s. IsSome (ends s)) q → ⊥) → d q ≡ disk a q) (λ d cuts. cuts.others) moments;
  recalls = λ may. always_weaker a b (CutsTo l ends (disk a)) (RecallsBy l Rel (disk a)) (λ d cuts. shortening_recalls known t apart bounds d cuts may readable map_readable) moments;
}

-- at the ends of proven sections
module _ {F S : Type 0} {gs : _} {g : buffer.Ghosts (PageBlob S gs)} {gives : F → Setting} {takes : WriteFactory → Setting} {told : Type 0} {Rel : Relation} {l : Layout} {i0 : Sections F (PageBlob S gs)} {m0 : Sections WriteFactory WriteBlob} {u : Store Key8 ℕ} {ends : ℕ → Option ℕ} {given : ℕ → List (List ℕ)} {j : Lists F (PageBlob S gs)} {o : OpenedList}
    (a : Timeline) (e : Ends g gives takes told Rel l i0 m0 u ends given j o (disk a)) (map_readable : IsReadable l.markers) (t : told) where
  pub records_step : ((q : Key) → MayLeave (disk a q) (reads (disk a q))) → (b : Timeline) → Always a b (Each (Shortening l.seal j.sections (λ s. CutTo l.record_size (ends s)) (disk a)))
      → Step l Rel (MayBeOpened l (disk a)) (IsIndexOf l (λ s. IsSome (ends s))) a b
  records_step readable b moments =
      cuts_step a (known_of e.rests) map_readable t e.apart (bounds_of e t) readable b
      (always_weaker a b (Each (Shortening l.seal j.sections (λ s. CutTo l.record_size (ends s)) (disk a))) (CutsTo l ends (disk a)) (λ d each. shortening_cuts e t d each) moments)

-- ---- values are cut, and those without records removed
module _ {F S : Type 0} {gs : _} {g : buffer.Ghosts (PageBlob S gs)} {gives : F → Setting} {takes : WriteFactory → Setting} {told : Type 0} {l : Layout} {i0 : Sections F (PageBlob S gs)} {u : Store Key8 ℕ} {given : ℕ → List (List ℕ)} {May : Type 0}
    (Rel : Relation) (order : IsOrder Rel) (apart : AreApart l) (map_readable : IsReadable l.markers) (t : told) (b : Timeline) (j : Lists F (PageBlob S gs)) (m : Sections WriteFactory WriteBlob) (o : OpenedList) (joint : Between g gives takes told l i0 u given May j m o (disk b)) where
  -- where all that is given is kept
  pub values_step : ((s : ℕ) → unbroken_prefix (λ r. is_sound l.seal (glob.section_bytes m (disk b) s) (l.place r)) (marker_of u.entries s) 0 (given s) ≡ given s)
      → (c : Timeline) → Always b c (Each (Cutting m (EndOf l.place l.record_size j.sections (disk b)) (disk b)))
      → Step l Rel May (IsKeyOf m (λ s. IsSomeAnd (EndOf l.place l.record_size j.sections (disk b) s) (glob.IsLonger m s))) b c
  values_step whole c moments =
      let Trims : Disk → Type 0 = Each (Cutting m (EndOf l.place l.record_size j.sections (disk b)) (disk b)) in
      record {
        only = always_weaker b c Trims (λ d. (q : Key) → (IsKeyOf m (λ s. IsSomeAnd (EndOf l.place l.record_size j.sections (disk b) s) (glob.IsLonger m s)) q → ⊥) → d q ≡ disk b q) (λ d each q none. (each q).others none) moments;
        recalls = λ may. always_weaker b c Trims (RecallsBy l Rel (disk b)) (λ d each. cutting_recalls joint.rests t apart d each (joint.bare t may) (joint.readable t) map_readable all_kept Rel order) moments;
      }
    where
      -- all records that are stored are kept
      all_kept : (s : ℕ) → s < 2 ^ 64 → unbroken_prefix (is_sound_in l (as_read (disk b)) s) (marker_of u.entries s) 0 (stored_records l (as_read (disk b)) s) ≡ stored_records l (as_read (disk b)) s
      all_kept s small =
          let stored : stored_records l (as_read (disk b)) s ≡ given s = stored_at joint.rests t s small ∙ joint.records t s in
          let values : content_at (as_read (disk b)) l.values s ≡ glob.section_bytes m (disk b) s = values_at joint.rests.parts t s small in
          (λ i. unbroken_prefix (λ r. is_sound l.seal (values i) (l.place r)) (marker_of u.entries s) 0 (stored i)) ∙ whole s ∙ sym stored

  pub removing_step : (Doomed : ℕ → Type 0) → ((s : ℕ) → Doomed s → IsHeld j.sections s → ⊥) → (c : Timeline) → Always b c (λ d. (q : Key) → (IsKeyOf m (λ s. Doomed s × IsHeld m s) q → ⊥) → d q ≡ disk b q)
      → Step l Rel May (IsKeyOf m (λ s. Doomed s × IsHeld m s)) b c
  removing_step Doomed doomed c moments = record {
    only = moments;
    recalls = λ may. always_weaker b c (λ d. (q : Key) → (IsKeyOf m (λ s. Doomed s × IsHeld m s) q → ⊥) → d q ≡ disk b q) (RecallsBy l Rel (disk b)) (λ d same. removing_recalls joint.rests t apart d
        (λ q none. same q (λ w. none (w.0, values_number joint.rests.parts w.0 w.1.1, none_of_not (j.sections.held w.0) (doomed w.0 w.1.0), w.2 ∙ values_key joint.rests.parts w.0))) (joint.bare t may) (joint.readable t) map_readable Rel order) moments;
  }
