-- What calls of `next` leave of a pair that is open: its lists, and that it is sound.
use Rattle.std.specs.Prelude.{◌≡◌, ◌⊎◌, ℕ, ◌^◌, ◌<◌, ◌≤◌, ⊤, false, Bool, List, take, IsTrue, Option, None, IsSome}
use Rattle.std.proofs.Common.{inl, inr, refl, sym, ◌∙◌, ap, subst, arith}
use Rattle.std.specs.List.{AllByRecursion}
use Rattle.std.proofs.Math.Seq.{take-length}
use Rattle.blob_device.specs.Disk.{Key, Blob, Disk}
use Rattle.blob_device.specs.Opened.{OpenedList}
use Rattle.blob_device.specs.Timeline.{Timeline, disk, Each}
use Rattle.blob_device.specs.lemmas.Moments.{always_now}
use Rattle.sealed_pages.specs.declared.page_blob.PageBlob.{PageBlob}
use Rattle.section_manager.specs.declared.buffer.SectionBuffer as buffer
use Rattle.section_manager.specs.declared.unsealed.WriteFactory.{WriteFactory}
use Rattle.section_manager.specs.Sections.{section_key, key_of, IsHeld}
use Rattle.section_manager.specs.Setting.{Setting}
use Rattle.segments.specs.FixedLists as fixed
use Rattle.segments.specs.FixedReplay.{Walk, Replaying}
use Rattle.paired.specs.lemmas.Glob.{buffers}
use Rattle.paired.specs.lemmas.next.Running.{moved}
use Rattle.paired.specs.lemmas.next.Went.{Went}
use Rattle.paired.specs.lemmas.pair.Blobs.{lasting_none}
use Rattle.paired.specs.lemmas.pair.Facts.{Parts, facts_of, good_of, holding_of, lasting_held, unvalued, values_last}
use Rattle.paired.specs.lemmas.pair.Synced.{Here}
use Rattle.segments.specs.lemmas.adding.Write.{ArePages}
use Rattle.meta_store.specs.Store.{contents_of}
use Rattle.paired.specs.Crashes.{IsIndexOf, Keeping}
use Rattle.paired.specs.glob.Sections as glob
use Rattle.paired.specs.Holding.{Facts, AreGood, IsLasting, LeavesNoRecords, ValuesStand, Holding, list_in}
use Rattle.paired.specs.Pair.{IsSoundOn, HasNoBytes, AreWhole, list_of, records_of, synced_length, IsSafeOn}
use Rattle.paired.specs.Places.{Follow, end_of}
use Rattle.paired.specs.Records.{records, entries_of, is_sound}
use Rattle.paired.specs.Replaying.{Limits, Run, pair_of, HasLostNone, IsLiveRun, IsRun}
use Rattle.paired.proofs.next.Images.{here_key, moment_others, any_index, paged, unheld_blob, others_end}
use Rattle.paired.proofs.next.Went.{none_as}
use Rattle.paired.proofs.pair.Moments.{index_phase, keeping_of, no_index}
use Rattle.blob_device.proofs.general.Options.{none_or_value, some_of, some_there}

module _ {F S : Type 0} {gs : _} (g : buffer.Ghosts (PageBlob S gs)) (gives : F → Setting) {takes : WriteFactory → Setting} (told : Type 0) (run : Run F (PageBlob S gs)) (pages_are : ArePages g run.layout.seal)
    (before : OpenedList) (a c : Timeline) (here : Here gives (pair_of run)) (was : IsRun run g gives buffers takes told before (disk a)) (w : Walk F (PageBlob S gs)) (went : Went run.layout.seal run.layout.record_size g told run.walk w a c) (t : told)
    (untracked : run.tracked ≡ false) (ends : Limits) (ended : Option ℕ) (failed : Bool) where
  live : IsLiveRun run
  live = was.live untracked

  free : (s : ℕ) → run.walk.journal.unrecovered s ≡ false
  free s = (live.proven s).checked

  now_key : (s : ℕ) → key_of w.journal.sections s ≡ key_of run.walk.journal.sections s
  now_key s = ap (λ (p : List ℕ). section_key p s) went.same.bounds.place.partition

  values_end : (s : ℕ) → disk c (key_of run.values s) ≡ disk a (key_of run.values s)
  values_end s = others_end g gives told run pages_are before a c here was w went t (key_of run.values s)
      (λ is. no_index run.layout was.apart.values was.apart.metadata was.apart.both (λ _. ⊤) s (subst (IsIndexOf run.layout (λ _. ⊤)) (ap (λ (p : List ℕ). section_key p s) here.values) is))

  values_bytes : (s : ℕ) → glob.section_bytes run.values (disk c) s ≡ glob.section_bytes run.values (disk a) s
  values_bytes s = ap (λ (b : Blob). glob.bytes_held (run.values.held s) b.content) (values_end s)

  -- the section's bytes, where no error has taken its buffer
  index_bytes : (s : ℕ) → w.journal.sections.unopened s ≡ None → fixed.section_bytes w.journal.sections (disk c) s ≡ fixed.section_bytes run.walk.journal.sections (disk a) s
  index_bytes s none =
      let same = (went.stays s none).1 in
      ap (λ (k : Key). fixed.bytes_held (w.journal.sections.held s) (disk c k).content) (now_key s)
      ∙ elim (none_or_value (w.journal.sections.held s)) [
        | inl absent ↦ ap (λ (o : Option (PageBlob S gs)). fixed.bytes_held o (disk c (key_of run.walk.journal.sections s)).content) absent
            ∙ sym (ap (λ (o : Option (PageBlob S gs)). fixed.bytes_held o (disk a (key_of run.walk.journal.sections s)).content) (none_as (w.journal.sections.held s) (run.walk.journal.sections.held s) absent same.1))
        | inr z ↦ (let u = some_of (run.walk.journal.sections.held s) (same.0 (some_there (w.journal.sections.held s) z.0 z.1)) in
            ap (λ (o : Option (PageBlob S gs)). fixed.bytes_held o (disk c (key_of run.walk.journal.sections s)).content) z.1
            ∙ (went.bytes s u.0 z.0 u.1 z.1 (free s)).bytes t
            ∙ sym (ap (λ (o : Option (PageBlob S gs)). fixed.bytes_held o (disk a (key_of run.walk.journal.sections s)).content) u.1))
      ]

  abbrev now : Run F (PageBlob S gs)
  now = moved run w ends ended failed

  pub lists_after : (s : ℕ) → w.journal.sections.unopened s ≡ None → list_of (pair_of now) (disk c) s ≡ list_of (pair_of run) (disk a) s
  lists_after s none =
      ap (λ (bs : List ℕ). entries_of run.layout.place run.layout.record_size bs (glob.section_bytes run.values (disk c) s)) (index_bytes s none)
      ∙ ap (entries_of run.layout.place run.layout.record_size (fixed.section_bytes run.walk.journal.sections (disk a) s)) (values_bytes s)

  records_after : HasLostNone now → (s : ℕ) → records_of (pair_of now) (disk c) s ≡ records_of (pair_of run) (disk a) s
  records_after lost s = ap (records run.layout.record_size) (index_bytes s (lost s))

  absent_after : HasLostNone now → IsSoundOn (pair_of run) (disk a) → (s : ℕ) → s < 2 ^ 64 → w.journal.sections.held s ≡ None → HasNoBytes (disk c (section_key run.layout.index s))
  absent_after lost sound s small none =
      let gone : run.walk.journal.sections.held s ≡ None = none_as (w.journal.sections.held s) (run.walk.journal.sections.held s) none (went.stays s (lost s)).1.1 in
      subst HasNoBytes (sym (unheld_blob g gives told run pages_are before a c here was w went t (disk c)
      (always_now a c (Each (Replaying run.layout.seal run.layout.record_size run.walk (disk a))) (went.moments t)) s small gone)) (sound.absent s small gone)

  pub sound_after : HasLostNone now → IsSoundOn (pair_of run) (disk a) → IsSoundOn (pair_of now) (disk c)
  sound_after lost sound = record {
    places = λ s. subst (λ (rs : List (List ℕ)). Follow run.layout.place 0 rs (glob.section_size run.values s)) (sym (records_after lost s)) (sound.places s);
    sound = λ s. subst (λ (rs : List (List ℕ)). AllByRecursion (λ r. IsTrue (is_sound run.layout.seal (glob.section_bytes run.values (disk c) s) (run.layout.place r))) rs) (sym (records_after lost s))
        (subst (λ (bs : List ℕ). AllByRecursion (λ r. IsTrue (is_sound run.layout.seal bs (run.layout.place r))) (records_of (pair_of run) (disk a) s)) (sym (values_bytes s)) (sound.sound s));
    values_settled = λ s. subst (λ (rs : List (List ℕ)). end_of run.layout.place 0 (take (synced_length (pair_of run) s) rs) ≤ glob.settled_size run.values s) (sym (records_after lost s)) (sound.values_settled s);
    absent = absent_after lost sound;
  }

  -- ---- at each moment
  module _ (known : HasLostNone run) (safe : IsSafeOn (pair_of run) (disk a)) where
    sound : IsSoundOn (pair_of run) (disk a)
    sound = safe.sound

    whole : AreWhole (pair_of run)
    whole = live.whole known

    parts : Parts run.layout run.walk.journal run.values (synced_length (pair_of run)) (disk a) g gives takes told run.store before
    parts = record {
      journal = record {
        over = was.index.over;
        owes_held = record { held = λ s is. absurd (cc (free s, is)) };
        owes_settled = was.index.walk.owes_settled;
        disk = λ x. (was.index.disk x).sealed;
        unopened = λ x. record { later = λ s is. absurd (cc (subst IsSome (known s) is)) };
      };
      values = was.values;
      store = was.markers t;
      proven = live.proven;
      index_here = here.index;
      values_here = here.values;
      store_here = here.store;
      is_marked = here.marked;
      paged = paged g gives told run pages_are before a c here was w went t;
      absent = sound.absent;
      marked = (live.markers known).marked;
      good = λ s. record { places = sound.places s; sound = sound.sound s; index_settled = (live.settled known).index s; values_settled = sound.values_settled s; lengths = (live.settled known).lengths s };
    }

    abbrev facts : ℕ → Facts
    facts = facts_of run.layout run.walk.journal run.values (synced_length (pair_of run)) (disk a)

    good : (s : ℕ) → AreGood run.layout (facts s)
    good = good_of run.layout run.walk.journal run.values (synced_length (pair_of run)) (disk a) run.store before here.some parts t

    holding : Holding run.layout facts (λ _. ⊥) (contents_of run.store) (contents_of run.store) (disk a)
    holding = holding_of run.layout run.walk.journal run.values (synced_length (pair_of run)) (disk a) run.store before here.some parts t safe.floor (λ _. ⊥)

    held_or_not : (s : ℕ) → IsHeld run.walk.journal.sections s ⊎ (IsHeld run.walk.journal.sections s → ⊥)
    held_or_not s = elim (none_or_value (run.walk.journal.sections.held s)) [
      | inl none ↦ inr (λ is. cc (subst IsSome none is))
      | inr u ↦ inl (some_there (run.walk.journal.sections.held s) u.0 u.1)
    ]

    lasts : (d : Disk) → Each (Replaying run.layout.seal run.layout.record_size run.walk (disk a)) d → (s : ℕ) → s < 2 ^ 64 → IsHeld run.walk.journal.sections s → IsLasting run.layout (facts s) (d (section_key run.layout.index s))
    lasts d each s lt held =
        let u = some_of (run.walk.journal.sections.held s) held in
        subst (λ (k : Key). IsLasting run.layout (facts s) (d k)) (here_key g gives told run pages_are before a c here was w went t s)
        (lasting_held run.layout run.walk.journal run.values (synced_length (pair_of run)) (disk a) s u.0 (d (key_of run.walk.journal.sections s)) u.1 (paged g gives told run pages_are before a c here was w went t s u.0 u.1)
        ((each (key_of run.walk.journal.sections s)).flushed s u.0 u.1 (free s) ((was.index.disk t).sealed.sealed s u.0 u.1 (live.proven s)) refl))

    valued : (d : Disk) → Each (Replaying run.layout.seal run.layout.record_size run.walk (disk a)) d → (s : ℕ) → s < 2 ^ 64 → IsHeld run.walk.journal.sections s
        → ValuesStand run.layout (facts s) (disk a (section_key run.layout.values s)) ⊎ LeavesNoRecords run.layout (d (section_key run.layout.index s))
    valued d each s lt held = elim (none_or_value (run.values.held s)) [
      | inl none ↦ inr (lasting_none run.layout (facts s) here.some (d (section_key run.layout.index s))
          (unvalued run.layout run.walk.journal run.values (synced_length (pair_of run)) (disk a) run.store before here.some parts s none) (lasts d each s lt held))
      | inr v ↦ inl (values_last run.layout run.walk.journal run.values (synced_length (pair_of run)) (disk a) run.store before here.some parts t s v.0 v.1)
    ]

    pub keeps_lists : Keeping run.layout (list_of (pair_of run) (disk a)) (synced_length (pair_of run)) (λ _. ⊥) (IsIndexOf run.layout (λ _. ⊤)) a c
    keeps_lists = keeping_of run.layout here.some facts (λ _. ⊥) (λ _. ⊥) (contents_of run.store) (contents_of run.store) (IsIndexOf run.layout (λ _. ⊤)) (list_of (pair_of run) (disk a)) (synced_length (pair_of run)) a c good
        (λ s. take-length (list_in run.layout (facts s))) (λ s. omega arith) (λ s gone. gone)
        (index_phase run.layout was.apart.values was.apart.metadata was.apart.both facts (λ _. ⊥) (contents_of run.store) (contents_of run.store) (IsIndexOf run.layout (λ _. ⊤)) a c holding
        (Each (Replaying run.layout.seal run.layout.record_size run.walk (disk a))) (went.moments t) (IsHeld run.walk.journal.sections) held_or_not (any_index g gives told run pages_are before a c here was w went t)
        (moment_others g gives told run pages_are before a c here was w went t) (λ d each s lt held. (lasts d each s lt held, valued d each s lt held)))
