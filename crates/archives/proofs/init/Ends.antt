-- The end of the opening of an archive's pair, where it fails.
use Rattle.std.proofs.Common.{◌≡◌, ◌≢◌, ◌⊎◌, inl, inr, refl, sym, ◌∙◌, ap, ℕ, ◌<◌, ◌^◌, cond, Bool, true, false, [], length, map, Option, None, arith}
use Rattle.std.proofs.lemmas.Bool.{cases_lt}
use Rattle.std.proofs.lemmas.List.{length-map}
use Rattle.blob_device.specs.Disk.{Disk}
use Rattle.blob_device.specs.Opened.{OpenedList}
use Rattle.sealed_pages.specs.declared.page_blob.PageBlob.{PageBlob}
use Rattle.section_manager.specs.declared.buffer.SectionBuffer as buffer
use Rattle.section_manager.specs.declared.unsealed.WriteFactory.{WriteFactory}
use Rattle.section_manager.specs.Sections.{key_of}
use Rattle.section_manager.specs.Setting.{Setting}
use Rattle.segments.specs.FixedLists.{Lists}
use Rattle.segments.specs.FixedReplay.{IsDrained, kept_of}
use Rattle.meta_store.specs.lemmas.Uses.{IsReadable}
use Rattle.paired.specs.lemmas.opening.Ends.{marked_or_zero}
use Rattle.paired.specs.lemmas.reconcile.Resting.{none_of}
use Rattle.paired.specs.lemmas.reconcile.Start.{Drained, GaveBack, kept_stored, opening, walk_unfailed}
use Rattle.segments.specs.lemmas.replay.Beginning.{finished_sealed}
use Rattle.meta_store.specs.Store.{contents_of}
use Rattle.paired.specs.Kept.{kept, marker_of}
use Rattle.paired.specs.Opening.{as_read}
use Rattle.paired.specs.OpeningFound.{HasFound}
use Rattle.paired.specs.Records.{unbroken_prefix, records}
use Rattle.paired.specs.Replaying.{HasFailed, Run, is_sound_over, marker, records_given, records_over}
use Rattle.archives.specs.Filing.{Filing, kept_entries}
use Rattle.archives.proofs.init.State.{marker_is, since_start}
use Rattle.blob_device.proofs.general.Options.{none_or_value, some_there}

module _ {F S : Type 0} {gs : _} {g : buffer.Ghosts (PageBlob S gs)} {gives : F → Setting} {takes : WriteFactory → Setting} {told : Type 0} (run : Run F (PageBlob S gs)) (o : OpenedList) (d : Disk) (e : Drained g gives takes told run o d) where
  -- the journal that a drained replay gives back
  abbrev given_back : Lists F (PageBlob S gs)
  given_back = record run.walk.journal { unrecovered = λ _. false; floor_of = λ _. 0 }

  gave_back : GaveBack run given_back
  gave_back = record {
    sections = refl;
    held = λ walk. record { held = λ s owes. absurd (cc owes) };
    settled = λ walk. record { settled = λ s u held owes. absurd (cc owes) };
    sealed = λ x over. finished_sealed run.layout.seal run.layout.record_size run.walk given_back x over (walk_unfailed e) e.drained refl (λ s before. absurd (never before)) (λ s before. absurd (never before));
    unopened = λ x over. record { later = (over.unopened (walk_unfailed e)).later };
    recovered = λ s from. refl;
    lifted = λ s from. refl;
  }
    where
      never : {s : ℕ} → (s < run.walk.start_section) ⊎ ((0 < run.walk.start_position) × (run.walk.start_section ≡ s)) → ⊥
      never (inl before) = omega (arith, before, (opening e).start_section)
      never (inr before) = omega (arith, before.0, (opening e).start_position)

  -- what it gave is what the disk keeps
  pub drained_given : told → (s : ℕ) → s < 2 ^ 64 → map (λ x. x.stored) (kept run.layout (as_read d) (marker run s) s) ≡ records_given run d s
  drained_given t s small = kept_stored e given_back gave_back t s small

  -- a marker that is another number than what was given is that of a section that a u64 names
  pub moved_small : (s : ℕ) → marker run s ≢ length (records_given run d s) → s < 2 ^ 64
  moved_small s moved = elim (cases_lt s (2 ^ 64)) [
    | inl small ↦ small
    | inr behind ↦ elim (none_or_value (run.walk.journal.sections.held s)) [
      | inl none ↦ elim (marked_or_zero run.store.entries s) [
        | inl some ↦ some.1.0
        | inr zero_is ↦ absurd (moved (zero_is ∙ sym (ap length (none_given s none))))
      ]
      | inr some ↦ e.over.index.over.opened_list.number s (inl (some_there (run.walk.journal.sections.held s) some.0 some.1))
    ]
  ]
    where
      none_given : (s : ℕ) → run.walk.journal.sections.held s ≡ None → records_given run d s ≡ []
      none_given s none =
          ap (λ (b : Bool). cond b (unbroken_prefix (is_sound_over run d s) (marker run s) 0 (records_over run d s)) (records_over run d s)) e.tracked
          ∙ ap (λ (x : Option (PageBlob S gs)). unbroken_prefix (is_sound_over run d s) (marker run s) 0 (records run.layout.record_size (kept_of run.layout.seal (run.walk.journal.unrecovered s) x (d (key_of run.walk.journal.sections s)).content))) none
          ∙ ap (unbroken_prefix (is_sound_over run d s) (marker run s) 0) (none_of run.layout.record_size e.here.some)

module _ {F S : Type 0} {gs : _} (f : Filing) (readable : IsReadable f.layout.markers) (run walked : Run F (PageBlob S gs)) (a b e : Disk)
    (still : walked.layout ≡ f.layout) (store : walked.store ≡ run.store) (found : HasFound f.layout a b run)
    (stays : (s : ℕ) → s < 2 ^ 64 → kept f.layout (as_read e) (marker run s) s ≡ kept f.layout (as_read b) (marker run s) s)
    (given : (s : ℕ) → s < 2 ^ 64 → map (λ x. x.stored) (kept walked.layout (as_read e) (marker walked s) s) ≡ records_given walked e s) where
  -- so it is another number than what the disk kept
  pub moved_kept : (s : ℕ) → s < 2 ^ 64 → marker walked s ≢ length (records_given walked e s) → marker_of run.store.entries s ≢ length (kept_entries f (as_read a) (contents_of run.store) s)
  moved_kept s small moved same =
      let entries = kept_entries f (as_read a) (contents_of run.store) s in
      moved (marker_is f readable run walked a b e still store found stays (contents_of run.store) found.markers s ∙ same
      ∙ sym (ap length (sym (given s small) ∙ ap (map (λ x. x.stored)) (since_start f readable run walked a b e still store found stays (contents_of run.store) found.markers s small)) ∙ length-map entries (λ x. x.stored)))

-- a replay that was drained, of an opening, and that gave no error is not refused as such
pub not_replay : {F S : Type 0} {gs : _} (run : Run F (PageBlob S gs)) → run.tracked ≡ true → (HasFailed run → ⊥) → IsDrained run.walk → (run.tracked ≡ false) ⊎ (HasFailed run ⊎ (IsDrained run.walk → ⊥)) → ⊥
not_replay run tracked going drained (inl untracked) = cc (untracked, tracked)
not_replay run tracked going drained (inr (inl failed)) = going failed
not_replay run tracked going drained (inr (inr left)) = left drained
