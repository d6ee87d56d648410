-- Each stage of the end of an opening: records are cut, then values, then those without records are removed, then markers move.
use Rattle.std.proofs.Common.{◌≡◌, ◌↔◌, inl, inr, ℕ, length, None, IsSome, IsSomeAnd, sym, ◌∙◌, ap, subst, arith, length-take}
use Rattle.blob_device.specs.Disk.{Key, Disk, MayLeave, reads}
use Rattle.blob_device.specs.Opened.{OpenedList}
use Rattle.blob_device.specs.Timeline.{Timeline, disk, Always, Each}
use Rattle.sealed_pages.specs.declared.page_blob.PageBlob.{PageBlob}
use Rattle.sealed_pages.specs.declared.write_blob.WriteBlob.{WriteBlob}
use Rattle.section_manager.specs.declared.buffer.SectionBuffer as buffer
use Rattle.section_manager.specs.declared.unsealed.WriteFactory.{WriteFactory}
use Rattle.section_manager.specs.Sections.{Sections, IsHeld, IsKeyOf}
use Rattle.section_manager.specs.Setting.{Setting}
use Rattle.section_manager.specs.lemmas.Keys.{key_injective}
use Rattle.segments.specs.FixedLists.{Lists}
use Rattle.segments.specs.FixedLists as fixed
use Rattle.meta_store.specs.lemmas.Uses.{IsReadable}
use Rattle.paired.specs.lemmas.opening.Ends.{same_order}
use Rattle.paired.specs.lemmas.reconcile.Resting.{values_key, values_number}
use Rattle.paired.specs.lemmas.reconcile.Start.{Drained, GaveBack, end_of, ends_of, given_to, given_whole}
use Rattle.paired.specs.Crashes.{IsBlobOf, IsIndexOf}
use Rattle.paired.specs.glob.Lasting.{Cutting}
use Rattle.paired.specs.glob.Sections as glob
use Rattle.paired.specs.Opening.{MayBeOpened, Same}
use Rattle.paired.specs.Places.{last_end}
use Rattle.paired.specs.Reconciling.{CutTo, EndOf, Shortening}
use Rattle.paired.specs.Records.{records, is_sound, unbroken_prefix}
use Rattle.paired.specs.Replaying.{Run, IsClean, marker, records_over, records_given}
use Rattle.paired.proofs.CutSteps.{records_step, values_step, removing_step}
use Rattle.paired.proofs.Ends.{Between, none_of_not, not_of_none, not_longer, long_held, ends_held}
use Rattle.paired.proofs.Steps.{step_wider}
use Rattle.paired.proofs.reconcile.Left.{HeldValues, Kind, IsDirty, Stage}
use Rattle.blob_device.proofs.general.Options.{none_or_value}

-- Between two stages: all has settled, the same sections are held, and the journal has the records that were given.
abbrev pub Joint : {F S : Type 0} {gs : _} → buffer.Ghosts (PageBlob S gs) → (F → Setting) → (WriteFactory → Setting) → Type 0 → Run F (PageBlob S gs) → Disk → Lists F (PageBlob S gs) → Sections WriteFactory WriteBlob → OpenedList → Disk → Type 0
Joint g gives takes told run start = Between g gives takes told run.layout run.walk.journal.sections run.store (records_given run start) (MayBeOpened run.layout start)

module _ {F S : Type 0} {gs : _} {g : buffer.Ghosts (PageBlob S gs)} {gives : F → Setting} {takes : WriteFactory → Setting} {told : Type 0} {run : Run F (PageBlob S gs)} {o : OpenedList} (a : Timeline) (e : Drained g gives takes told run o (disk a))
    (map_readable : IsReadable run.layout.markers) (t : told) where
  -- a section of which all records are given has no end
  pub clean_none : (s : ℕ) → records_given run (disk a) s ≡ records_over run (disk a) s → run.ends.at s ≡ None
  clean_none s same = elim (none_or_value (run.ends.at s)) [
    | inl none ↦ none
    | inr some ↦ absurd (omega (arith, ap length same, ap length (given_to e t s some.0 some.1), length-take some.0 (records_over run (disk a) s), (end_of e t s some.0 some.1).within))
  ]

  -- ---- records are cut
  module _ (j : Lists F (PageBlob S gs)) (back : GaveBack run j) (readable : (q : Key) → MayLeave (disk a q) (reads (disk a q))) (b : Timeline)
      (moments : Always a b (Each (Shortening run.layout.seal j.sections (λ s. CutTo run.layout.record_size (run.ends.at s)) (disk a)))) where
    clean_cut : (s : ℕ) → IsClean run (disk a) s → (q : Key) → IsBlobOf run.layout (λ x. x ≡ s) q → IsIndexOf run.layout (λ x. IsSome (run.ends.at x)) q → ⊥
    clean_cut s is q (inl index) cut =
        let same : cut.0 ≡ s = key_injective run.layout.index cut.0 index.0 cut.1 index.1 (sym cut.3 ∙ index.3) ∙ index.2 in
        not_of_none (run.ends.at s) (clean_none s is.given) (subst (λ (x : ℕ). IsSome (run.ends.at x)) same cut.2)
    clean_cut s is q (inr values) cut = e.over.apart.values (ap (λ (k : Key). k.0) (sym cut.3 ∙ values.3))

    dirty_cut : (q : Key) → IsIndexOf run.layout (λ x. IsSome (run.ends.at x)) q → IsDirty run (disk a) q
    dirty_cut q cut = record {
      section = λ s is own. clean_cut s is q own cut;
      some = λ all. not_of_none (run.ends.at cut.0) (clean_none cut.0 (all.clean cut.0).given) cut.2;
    }

    pub records_stage : Stage run 0 (disk a) a b
    records_stage = step_wider run.layout Same (MayBeOpened run.layout (disk a)) (IsIndexOf run.layout (λ s. IsSome (run.ends.at s))) (λ q. Kind run 0 q × IsDirty run (disk a) q) a b (λ q cut. ((cut.0, cut.1, tt, cut.3), dirty_cut q cut))
        (records_step a (ends_of e j back) map_readable t readable b moments)

  -- ---- values are cut
  module _ (b : Timeline) (j : Lists F (PageBlob S gs)) (o1 : OpenedList) (joint : Joint g gives takes told run (disk a) j run.values o1 (disk b)) (bytes : (s : ℕ) → glob.section_bytes run.values (disk b) s ≡ glob.section_bytes run.values (disk a) s) (c : Timeline)
      (moments : Always b c (Each (Cutting run.values (EndOf run.layout.place run.layout.record_size j.sections (disk b)) (disk b)))) where
    clean_trim : (s : ℕ) → IsClean run (disk a) s → IsSomeAnd (EndOf run.layout.place run.layout.record_size j.sections (disk b) s) (glob.IsLonger run.values s) → ⊥
    clean_trim s is = not_longer (j.sections.held s) (run.values.held s) (last_end run.layout.place (records run.layout.record_size (fixed.section_bytes j.sections (disk b) s)))
        (is.values ∙ ap (last_end run.layout.place) (sym (joint.records t s ∙ is.given)))

    clean_values : (s : ℕ) → IsClean run (disk a) s → (q : Key) → IsBlobOf run.layout (λ x. x ≡ s) q → IsKeyOf run.values (λ x. IsSomeAnd (EndOf run.layout.place run.layout.record_size j.sections (disk b) x) (glob.IsLonger run.values x)) q → ⊥
    clean_values s is q (inl index) cut = e.over.apart.values (ap (λ (k : Key). k.0) (sym index.3 ∙ cut.2 ∙ values_key joint.rests.parts cut.0))
    clean_values s is q (inr values) cut =
        let has = long_held (j.sections.held cut.0) (run.values.held cut.0) (last_end run.layout.place (records run.layout.record_size (fixed.section_bytes j.sections (disk b) cut.0))) cut.1 in
        let same : cut.0 ≡ s = key_injective run.layout.values cut.0 values.0 (values_number joint.rests.parts cut.0 has) values.1 (sym (cut.2 ∙ values_key joint.rests.parts cut.0) ∙ values.3) ∙ values.2 in
        clean_trim s is (subst (λ (x : ℕ). IsSomeAnd (EndOf run.layout.place run.layout.record_size j.sections (disk b) x) (glob.IsLonger run.values x)) same cut.1)

    touches : (q : Key) → IsKeyOf run.values (λ x. IsSomeAnd (EndOf run.layout.place run.layout.record_size j.sections (disk b) x) (glob.IsLonger run.values x)) q → HeldValues run q × IsDirty run (disk a) q
    touches q cut =
        let ending = last_end run.layout.place (records run.layout.record_size (fixed.section_bytes j.sections (disk b) cut.0)) in
        let has = long_held (j.sections.held cut.0) (run.values.held cut.0) ending cut.1 in (
          (cut.0, values_number joint.rests.parts cut.0 has, (joint.held cut.0).0 (ends_held (j.sections.held cut.0) (run.values.held cut.0) ending cut.1), cut.2 ∙ values_key joint.rests.parts cut.0),
          record { section = λ s is own. clean_values s is q own cut; some = λ all. clean_trim cut.0 (all.clean cut.0) cut.1 },
        )

    pub values_stage : Stage run 1 (disk a) b c
    values_stage = step_wider run.layout Same (MayBeOpened run.layout (disk a)) (IsKeyOf run.values (λ s. IsSomeAnd (EndOf run.layout.place run.layout.record_size j.sections (disk b) s) (glob.IsLonger run.values s))) (λ q. Kind run 1 q × IsDirty run (disk a) q) b c touches
        (values_step Same same_order e.over.apart map_readable t b j run.values o1 joint (λ s. (λ i. unbroken_prefix (λ r. is_sound run.layout.seal (bytes s i) (run.layout.place r)) (marker run s) 0 (records_given run (disk a) s)) ∙ given_whole e t s) c moments)

  -- ---- values without records are removed
  module _ (c : Timeline) (j : Lists F (PageBlob S gs)) (m : Sections WriteFactory WriteBlob) (o2 : OpenedList) (joint : Joint g gives takes told run (disk a) j m o2 (disk c)) (held : (s : ℕ) → IsHeld m s ↔ IsHeld run.values s)
      (Doomed : ℕ → Type 0) (doomed : (s : ℕ) → Doomed s → IsHeld j.sections s → ⊥) (f : Timeline)
      (moments : Always c f (λ d. (q : Key) → (IsKeyOf m (λ s. Doomed s × IsHeld m s) q → ⊥) → d q ≡ disk c q)) where
    without : (s : ℕ) → Doomed s → run.walk.journal.sections.held s ≡ None
    without s is = none_of_not (run.walk.journal.sections.held s) (λ has. doomed s is ((joint.held s).1 has))

    clean_gone : (s : ℕ) → IsClean run (disk a) s → Doomed s → IsHeld m s → ⊥
    clean_gone s is gone has = doomed s gone ((joint.held s).1 (is.held ((held s).0 has)))

    clean_removed : (s : ℕ) → IsClean run (disk a) s → (q : Key) → IsBlobOf run.layout (λ x. x ≡ s) q → IsKeyOf m (λ x. Doomed x × IsHeld m x) q → ⊥
    clean_removed s is q (inl index) cut = e.over.apart.values (ap (λ (k : Key). k.0) (sym index.3 ∙ cut.2 ∙ values_key joint.rests.parts cut.0))
    clean_removed s is q (inr values) cut =
        let same : cut.0 ≡ s = key_injective run.layout.values cut.0 values.0 (values_number joint.rests.parts cut.0 cut.1.1) values.1 (sym (cut.2 ∙ values_key joint.rests.parts cut.0) ∙ values.3) ∙ values.2 in
        clean_gone s is (subst Doomed same cut.1.0) (subst (IsHeld m) same cut.1.1)

    pub removing_stage : Stage run 2 (disk a) c f
    removing_stage = step_wider run.layout Same (MayBeOpened run.layout (disk a)) (IsKeyOf m (λ s. Doomed s × IsHeld m s)) (λ q. Kind run 2 q × IsDirty run (disk a) q) c f
        (λ q w. (
          (w.0, values_number joint.rests.parts w.0 w.1.1, without w.0 w.1.0, w.2 ∙ values_key joint.rests.parts w.0),
          record {
            section = λ s is own. clean_removed s is q own w;
            some = λ all. clean_gone w.0 (all.clean w.0) w.1.0 w.1.1;
          },
        ))
        (removing_step Same same_order e.over.apart map_readable t c j m o2 joint Doomed doomed f moments)
