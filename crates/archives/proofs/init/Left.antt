-- What an opening has left on a disk with nothing pending: where the crashes of that disk leave lawful images, its archive is sound, whatever was cut off.
use Rattle.std.proofs.Common.{◌≡◌, inl, inr, refl, sym, ◌∙◌, ap, subst, ℕ, ◌<◌, ◌^◌, false, List, [], length, map, take, Some, IsTrue, arith}
use Rattle.std.specs.List.{AllByRecursion}
use Rattle.std.proofs.lemmas.List.{nil_from_length, take_all}
use Rattle.blob_device.specs.Disk.{Disk, Key, MayLeave, reads}
use Rattle.blob_device.specs.Opened.{OpenedList}
use Rattle.archives.specs.lemmas.init.State.{length_left, none_behind, unheld_records}
use Rattle.meta_store.specs.lemmas.Uses.{IsReadable}
use Rattle.paired.specs.lemmas.Glob.{buffers}
use Rattle.paired.specs.lemmas.opening.Ends.{marked_is, marked_or_zero, prefix_sound}
use Rattle.paired.specs.lemmas.pair.Facts.{proven_of}
use Rattle.paired.specs.lemmas.pair.Synced.{Here}
use Rattle.paired.specs.lemmas.reconcile.Kept.{sound_longer}
use Rattle.paired.specs.lemmas.reconcile.Phases.{markers_one}
use Rattle.paired.specs.lemmas.reconcile.Resting.{Resting, index_number, rests_no_chance, stored_at, values_at, values_number}
use Rattle.segments.specs.lemmas.adding.Write.{ArePages}
use Rattle.sealed_pages.specs.declared.page_blob.PageBlob.{PageBlob}
use Rattle.section_manager.specs.declared.buffer.SectionBuffer as buffer
use Rattle.section_manager.specs.declared.unsealed.WriteFactory.{WriteFactory}
use Rattle.section_manager.specs.Sections.{IsHeld, section_key}
use Rattle.section_manager.specs.Setting.{Setting}
use Rattle.meta_store.specs.Store.{contents_of}
use Rattle.paired.specs.glob.Sections as glob
use Rattle.paired.specs.glob.Sections.{IsAllSettled}
use Rattle.paired.specs.Kept.{IsMarked, Layout, Markers, is_sound_in, marker_of, stored_records}
use Rattle.paired.specs.Opening.{MayBeOpened, as_read}
use Rattle.paired.specs.OpeningFound.{CountsAll, GivesInPlace, HasKept}
use Rattle.paired.specs.Pair.{HasNoBytes, IsPair, IsSoundOn, Pair, list_of, records_of}
use Rattle.paired.specs.Places.{Follow, last_end}
use Rattle.paired.specs.Records.{entry_of, unbroken_prefix, is_sound}
use Rattle.paired.specs.Replaying.{Run, is_sound_over, records_given}
use Rattle.archives.specs.Archives.{Archive, IsSoundArchive, filing_of}
use Rattle.archives.specs.Filing.{kept_entries}
use Rattle.archives.specs.Lawful.{Lawful}
use Rattle.archives.specs.Opening.{LeavesLawful}
use Rattle.archives.proofs.ArchiveStands.{length_list}
use Rattle.archives.proofs.init.Sound.{counted, decoded, lawful_read, no_foreign_before}
use Rattle.blob_device.proofs.general.Lists.{all_by}
use Rattle.blob_device.proofs.general.Options.{none_or_value, some_there}

-- a pair of which nothing is buffered rests
pub pair_rests : {F S : Type 0} {gs : _} {g : buffer.Ghosts (PageBlob S gs)} {gives : F → Setting} {takes : WriteFactory → Setting} {told : Type 0} (p : Pair F (PageBlob S gs)) (o : OpenedList) (d : Disk)
    → ArePages g p.layout.seal → Here gives p → IsPair g gives buffers takes told p o d
    → ((s : ℕ) (v : PageBlob S gs) → p.index.sections.held s ≡ Some v → g.unsettled v ≡ false) → ((s : ℕ) → IsHeld p.values s → IsAllSettled p.values s)
    → Resting g gives takes told p.layout p.index p.values p.store o d
pair_rests p o d are_pages here pair index values = record {
  parts = record {
    pages = are_pages;
    index = pair.index.over;
    index_settled = index;
    index_here = here.index;
    page_size = here.page_size;
    some = here.some;
    values = pair.values;
    values_settled = values;
    values_known = pair.whole.values_known;
    values_here = here.values;
  };
  journal = pair.index;
  proven = proven_of pair.whole;
  index_known = pair.whole.index_known;
  marks = record {
    stands = λ t is. (pair.disk t).markers;
    here = λ is. here.store;
    none = λ not. absurd (cc (here.marked, not));
  };
}

module _ {F S : Type 0} {gs : _} {g : buffer.Ghosts (PageBlob S gs)} {gives : F → Setting} {takes : WriteFactory → Setting} {told : Type 0} (arch : Archive F (PageBlob S gs)) (o : OpenedList) (z : Disk)
    (rests : Resting g gives takes told arch.pair.layout arch.pair.index arch.pair.values arch.pair.store o z) (t : told)
    (walked : Run F (PageBlob S gs)) (e : Disk) (still : walked.layout ≡ arch.pair.layout) (counts : CountsAll walked arch.pair) (keeps : HasKept walked e z arch.pair)
    (readable : IsReadable arch.pair.layout.markers) where
  abbrev values_now : ℕ → List ℕ
  values_now s = glob.section_bytes arch.pair.values z s

  -- the marker of a section counts its records
  marked_all : (s : ℕ) → length (records_of arch.pair z s) ≡ marker_of arch.pair.store.entries s
  marked_all s = sym (length_list arch z s) ∙ sym (length_left arch.pair rests.parts.some z s) ∙ sym (counts.markers s)

  -- ---- the disk as it reads is lawful
  module _ (markers : Markers) (lawful : Lawful (filing_of arch) (as_read z) markers) where
    own_markers : markers ≡ contents_of arch.pair.store
    own_markers = markers_one rests.marks t readable (as_read z) (λ is side. refl) markers lawful.pair

    -- so all records are sound
    all_sound : (s : ℕ) → s < 2 ^ 64 → AllByRecursion (λ r. IsTrue (is_sound arch.pair.layout.seal (values_now s) (arch.pair.layout.place r))) (records_of arch.pair z s)
    all_sound s small =
        let rs : List (List ℕ) = records_of arch.pair z s in
        elim (marked_or_zero arch.pair.store.entries s) [
          | inl is ↦
              let was = (lawful.pair.true_markers s is.0 (subst (λ (ms : Markers). IsMarked ms.entries s is.0) (sym own_markers) is.1)).sound in
              let all : take is.0 (stored_records arch.pair.layout (as_read z) s) ≡ rs =
              ap (take is.0) (stored_at rests t s small) ∙ take_all is.0 rs (omega (arith, marked_all s, marked_is arch.pair.store.entries s is.0 is.1)) in
              subst (λ (c : List ℕ). AllByRecursion (λ r. IsTrue (is_sound arch.pair.layout.seal c (arch.pair.layout.place r))) rs) (values_at rests.parts t s small)
              (subst (AllByRecursion (λ r. IsTrue (is_sound_in arch.pair.layout (as_read z) s r))) all was)
          | inr none ↦ subst (AllByRecursion (λ r. IsTrue (is_sound arch.pair.layout.seal (values_now s) (arch.pair.layout.place r)))) (sym (nil_from_length rs (marked_all s ∙ none))) tt
        ]

    -- the records that were given are in place
    in_place_left : (s : ℕ) → GivesInPlace walked e s
    in_place_left s = elim (none_or_value (arch.pair.index.sections.held s)) [
      | inl none ↦
          let given : [] ≡ records_given walked e s = sym (unheld_records arch.pair rests.parts.some z s none) ∙ keeps.records s in
          record {
            end = 0;
            follow = subst (λ (rs : List (List ℕ)). Follow walked.layout.place 0 rs 0) given refl;
            sound = subst (AllByRecursion (λ r. IsTrue (is_sound_over walked e s r))) given tt;
          }
      | inr some ↦
          let has : IsHeld arch.pair.index.sections s = some_there (arch.pair.index.sections.held s) some.0 some.1 in
          let small : s < 2 ^ 64 = index_number rests.parts s has in
          let places = lawful.pair.places s small in
          let n : ℕ = last_end walked.layout.place (records_given walked e s) in
          let old : List ℕ = glob.section_bytes walked.values e s in
          let cut : values_now s ≡ take n old = keeps.values s ((counts.held s).0 has) in
          record {
            end = places.end;
            follow = subst (λ (l : Layout). Follow l.place 0 (records_given walked e s) places.end) (sym still)
                (subst (λ (rs : List (List ℕ)). Follow arch.pair.layout.place 0 rs places.end) (stored_at rests t s small ∙ keeps.records s) places.follow);
            sound = subst (AllByRecursion (λ r. IsTrue (is_sound_over walked e s r))) (keeps.records s)
                (all_by (λ r. IsTrue (is_sound arch.pair.layout.seal (values_now s) (arch.pair.layout.place r))) (λ r. IsTrue (is_sound_over walked e s r))
                (λ r sound. sound_longer walked.layout.seal old n (walked.layout.place r).0 (walked.layout.place r).1
                (subst (λ (l : Layout). IsTrue (is_sound l.seal (take n old) (l.place r))) (sym still)
                (subst (λ (c : List ℕ). IsTrue (is_sound arch.pair.layout.seal c (arch.pair.layout.place r))) cut sound)))
                (records_of arch.pair z s) (all_sound s small));
          }
    ]

    -- and all of them are kept
    lists_now : (s : ℕ) → s < 2 ^ 64 → list_of arch.pair z s ≡ kept_entries (filing_of arch) (as_read z) markers s
    lists_now s small =
        let l = arch.pair.layout in
        let rs : List (List ℕ) = records_of arch.pair z s in
        sym (
        (λ i. map (entry_of l.place (values_at rests.parts t s small i)) (unbroken_prefix (λ r. is_sound l.seal (values_at rests.parts t s small i) (l.place r)) (marker_of markers.entries s) 0 (stored_at rests t s small i)))
        ∙ ap (map (entry_of l.place (values_now s))) (prefix_sound (λ r. is_sound l.seal (values_now s) (l.place r)) (marker_of markers.entries s) 0 rs (all_sound s small))
        )

  -- ---- the archive
  pub sound_left : ((q : Key) → MayLeave (z q) (reads (z q))) → IsPair g gives buffers takes told arch.pair o z → MayBeOpened walked.layout e → LeavesLawful (filing_of arch) z → IsSoundArchive arch z
  sound_left law pair may leaves =
      let none = rests_no_chance rests t in
      let lawful = lawful_read (filing_of arch) z law none leaves in
      let lists = lists_now lawful.0 lawful.1 in
      let sound : IsSoundOn arch.pair z = keeps.sound may (in_place_left lawful.0 lawful.1) in
      record {
        pair = record { sound = sound; floor = sym (ap (λ (ms : Markers). ms.floor) (own_markers lawful.0 lawful.1)) ∙ lawful.1.pair.floor };
        decoded = decoded (filing_of arch) z lawful.0 lawful.1 arch z refl lists sound (λ s far. none_behind arch.pair rests.parts.some z s (index_number rests.parts s) far) (λ bytes. refl);
        counted = counted (filing_of arch) z lawful.0 lawful.1 arch z refl lists sound (values_number rests.parts);
        absent = λ s small gone. subst (λ (l : Layout). HasNoBytes (z (section_key l.values s))) still (keeps.bare may s small gone);
        names = no_foreign_before (filing_of arch) z law none leaves pair.apart;
      }
