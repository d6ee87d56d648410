-- The step that moves markers: whichever of the two a crash leaves, both are true, and so the same is kept.
use Rattle.std.proofs.Common.{◌≡◌, inl, inr, ℕ, ◌^◌, ◌<◌, true, false, List, [], IsSome, IsTrue, Option, refl, sym, ◌∙◌, ap, subst, unwrap_or}
use Rattle.blob_device.specs.Disk.{Key, Blob, Disk, Image, IsCrashOf, MayLeave, reads}
use Rattle.blob_device.specs.Opened.{OpenedList}
use Rattle.blob_device.specs.Timeline.{Timeline, disk}
use Rattle.blob_device.specs.lemmas.Moments.{always_weaker}
use Rattle.sealed_pages.specs.declared.page_blob.PageBlob.{PageBlob}
use Rattle.sealed_pages.specs.declared.write_blob.WriteBlob.{WriteBlob}
use Rattle.section_manager.specs.declared.buffer.SectionBuffer as buffer
use Rattle.section_manager.specs.declared.unsealed.WriteFactory.{WriteFactory}
use Rattle.section_manager.specs.Sections.{Sections, section_key, IsHeld}
use Rattle.section_manager.specs.Setting.{Setting}
use Rattle.value_codec.specs.declared.key.Key8.{Key8}
use Rattle.meta_store.specs.declared.error.Side.TheVariants.{Left, Right}
use Rattle.meta_store.specs.Blobs.{blob_of, bytes_of}
use Rattle.meta_store.specs.Crashes as metadata
use Rattle.meta_store.specs.Pairs.{HoldMap}
use Rattle.meta_store.specs.Store.{Store, contents_of}
use Rattle.meta_store.specs.lemmas.Uses.{IsReadable}
use Rattle.paired.specs.lemmas.opening.Ends.{AreTrueOf}
use Rattle.paired.specs.lemmas.opening.Phases.{IsBack, IsPhase, marks_phase, not_index, not_values}
use Rattle.paired.specs.lemmas.reconcile.Phases.{markers_one}
use Rattle.paired.specs.lemmas.reconcile.Resting.{Known, index_rest, known_no_chance, reads_there, rest_left, rest_there}
use Rattle.paired.specs.Crashes.{HoldMarkers, IsCopy}
use Rattle.paired.specs.Kept.{Layout, Markers, HasNoFloor, content_at}
use Rattle.paired.specs.Opening.{as_read, IsLawful, MayBeOpened, Same, Recalls}
use Rattle.paired.specs.Pair.{AreApart}
use Rattle.paired.proofs.opening.Ends.{AreLowered, lowered_true}
use Rattle.paired.proofs.reconcile.Phases.{bare_of, index_left, values_left}
use Rattle.paired.proofs.Steps.{Step}
use Rattle.blob_device.proofs.general.Options.{none_or_value}

-- The image has the bytes of each section as the disk reads, and the blob of each that is held.
pub record HasSections {F B : Type 0} (l : Layout) (i : Sections F B) (old : Image) (d : Disk) : Type 0 where
  pub index : (s : ℕ) → s < 2 ^ 64 → content_at old l.index s ≡ content_at (as_read d) l.index s
  pub values : (s : ℕ) → s < 2 ^ 64 → content_at old l.values s ≡ content_at (as_read d) l.values s
  pub there : (s : ℕ) → s < 2 ^ 64 → IsHeld i s → IsSome (old (section_key l.index s))

module _ {F S : Type 0} {gs : _} {g : buffer.Ghosts (PageBlob S gs)} {gives : F → Setting} {takes : WriteFactory → Setting} {told : Type 0} {l : Layout} {i : Sections F (PageBlob S gs)} {m : Sections WriteFactory WriteBlob} {u : Store Key8 ℕ} {o : OpenedList}
    (a : Timeline) (known : Known g gives takes told l i m u o (disk a)) (t : told) (apart : AreApart l) (is_marked : IsTrue l.marked) (map_readable : IsReadable l.markers) (readable : (q : Key) → MayLeave (disk a q) (reads (disk a q)))
    (new : Markers) (floor : HasNoFloor new) where
  abbrev Moves : Disk → Type 0
  Moves d = metadata.KeepsAlone l.markers l.metadata (contents_of u) new (disk a) d

  only_copies : (d : Disk) → Moves d → (q : Key) → (IsCopy l q → ⊥) → d q ≡ disk a q
  only_copies d moves q none = moves.others q (λ is. none (Left, is)) (λ is. none (Right, is))

  -- ---- one moment
  module _ (are_true : (old : Image) → IsLawful l old (contents_of u) → HasSections l i old (disk a) → AreTrueOf l old new) (may : MayBeOpened l (disk a)) (d : Disk) (moves : Moves d) where
    marking : IsPhase l apart (disk a) d (λ _. false) true
    marking = record {
      readable = λ q own. readable q;
      no_chance = known_no_chance known t;
      others = λ q none. only_copies d moves q (λ copy. none (inr (inr (refl, copy))));
    }

    module _ (image old : Image) (crash : IsCrashOf d image) (back : IsBack l apart (disk a) d (λ _. false) true image old) where
      index_may : (s : ℕ) → s < 2 ^ 64 → MayLeave (disk a (section_key l.index s)) (image (section_key l.index s))
      index_may s small = subst (λ (b : Blob). MayLeave b (image (section_key l.index s)))
          (marking.others (section_key l.index s) (not_index l apart (disk a) d (λ _. false) true s small refl)) (crash (section_key l.index s))

      values_may : (s : ℕ) → s < 2 ^ 64 → MayLeave (disk a (section_key l.values s)) (image (section_key l.values s))
      values_may s small = subst (λ (b : Blob). MayLeave b (image (section_key l.values s)))
          (marking.others (section_key l.values s) (not_values l apart (disk a) d (λ _. false) true s small refl)) (crash (section_key l.values s))

      has_sections : HasSections l i old (disk a)
      has_sections = record {
        index = λ s small. ap (λ (x : Option (List ℕ)). unwrap_or x []) (back.other (section_key l.index s) (not_index l apart (disk a) d (λ _. false) true s small refl))
            ∙ index_left known t (bare_of known t may) s small (image (section_key l.index s)) (index_may s small);
        values = λ s small. ap (λ (x : Option (List ℕ)). unwrap_or x []) (back.other (section_key l.values s) (not_values l apart (disk a) d (λ _. false) true s small refl))
            ∙ values_left known t (bare_of known t may) s small (image (section_key l.values s)) (values_may s small);
        there = λ s small held. elim (none_or_value (i.held s)) [
          | inl none ↦ absurd (cc (subst IsSome none held))
          | inr some ↦
              let rest = index_rest known.parts t s some.0 some.1 in
              subst IsSome (sym (back.other (section_key l.index s) (not_index l apart (disk a) d (λ _. false) true s small refl)
              ∙ rest_left (disk a (section_key l.index s)) rest (image (section_key l.index s)) (index_may s small)
              ∙ reads_there (disk a (section_key l.index s)) (rest_there (disk a (section_key l.index s)) rest))) refl
        ];
      }

      held_so : (markers : Markers) → HoldMap l.markers (bytes_of (image (blob_of l.metadata Left))) (bytes_of (image (blob_of l.metadata Right))) markers → HoldMarkers l image markers
      held_so markers held = record { copies = λ is. held; none = λ not. absurd (cc (is_marked, not)) }

    moves_recall : Recalls l (disk a) d
    moves_recall = marks_phase l apart (disk a) d (λ _. false) true marking (λ s. refl) (λ image old markers crash fresh back lawful.
        let same : markers ≡ contents_of u = markers_one known.marks t map_readable old (λ is side. back.own (blob_of l.metadata side) (inr (inr (refl, (side, refl))))) markers lawful in
        let was : IsLawful l old (contents_of u) = subst (IsLawful l old) same lawful in
        elim (moves.keeps.crash (image (blob_of l.metadata Left)) (image (blob_of l.metadata Right)) (crash (blob_of l.metadata Left)) (crash (blob_of l.metadata Right)) (fresh.copies is_marked Left) (fresh.copies is_marked Right))
        as (λ _. (found : Markers) × HoldMarkers l image found × HasNoFloor found × AreTrueOf l old found) [
          | inl before ↦ (contents_of u, held_so image old crash back (contents_of u) before, was.floor, was.true_markers)
          | inr moved ↦ (new, held_so image old crash back new moved, floor, are_true old was (has_sections image old crash back))
        ])

  -- ---- the step
  pub marks_step : ((old : Image) → IsLawful l old (contents_of u) → HasSections l i old (disk a) → AreTrueOf l old new)
      → (b : Timeline) → metadata.Mapping l.markers l.metadata (contents_of u) new a b → Step l Same (MayBeOpened l (disk a)) (IsCopy l) a b
  marks_step are_true b moments = record {
    only = always_weaker a b Moves (λ d. (q : Key) → (IsCopy l q → ⊥) → d q ≡ disk a q) only_copies moments;
    recalls = λ may. always_weaker a b Moves (Recalls l (disk a)) (moves_recall are_true may) moments;
  }

  -- markers are lowered
  pub lowering_step : AreLowered (contents_of u) new
      → (b : Timeline) → metadata.Mapping l.markers l.metadata (contents_of u) new a b → Step l Same (MayBeOpened l (disk a)) (IsCopy l) a b
  lowering_step lowered = marks_step (λ old lawful has. lowered_true l old (contents_of u) new lowered lawful.true_markers)
