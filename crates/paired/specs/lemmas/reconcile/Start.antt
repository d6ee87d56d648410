-- The replay of an opening at its end, when nothing is left: which records it has given, against what the disk stores.
use Rattle.std.proofs.Common.{◌≡◌, ◌⊎◌, inl, inr, ℕ, ◌^◌, ◌<◌, ◌≤◌, cond, Bool, true, false, List, [], length, map, take, get_or, Option, None, Some, IsSomeAnd, refl, sym, ◌∙◌, ap, subst, arith, length-take}
use Rattle.std.proofs.lemmas.Bool.{cases_Bool, cases_lt}
use Rattle.std.proofs.lemmas.List.{get_or-take}
use Rattle.blob_device.specs.Disk.{Disk}
use Rattle.blob_device.specs.Opened.{OpenedList}
use Rattle.sealed_pages.specs.SealedPrefix.{sealed_prefix}
use Rattle.sealed_pages.specs.declared.page_blob.PageBlob.{PageBlob}
use Rattle.section_manager.specs.declared.buffer.SectionBuffer as buffer
use Rattle.section_manager.specs.declared.unsealed.WriteFactory.{WriteFactory}
use Rattle.section_manager.specs.Sections.{Sections, section_key, key_of, IsOver}
use Rattle.section_manager.specs.Setting.{Setting}
use Rattle.segments.specs.FixedLists.{Lists, IsJournal, IsProven, OwesHeld, OwesSettled, AreSealed, UnopenedLater}
use Rattle.segments.specs.FixedLists as fixed
use Rattle.segments.specs.FixedReplay.{HasWalk, WalksOver, IsDrained, IsLeft, kept_of, kept_bytes}
use Rattle.paired.specs.lemmas.Ends.{Ends}
use Rattle.paired.specs.lemmas.Glob.{buffers}
use Rattle.paired.specs.lemmas.Kept.{stored_entries}
use Rattle.paired.specs.lemmas.opening.Ends.{IsGoodAt, prefix_all, prefix_cut, prefix_stops, same_order}
use Rattle.paired.specs.lemmas.pair.Synced.{Here}
use Rattle.paired.specs.lemmas.reconcile.Resting.{Resting, index_settles, stored_at, values_at}
use Rattle.segments.specs.lemmas.adding.Write.{ArePages}
use Rattle.paired.specs.glob.Sections as glob
use Rattle.paired.specs.Kept.{content_at, stored_records, is_sound_in, kept}
use Rattle.paired.specs.Opening.{as_read, Same}
use Rattle.paired.specs.Records.{records, is_sound, unbroken_prefix, entry_of}
use Rattle.paired.specs.Replaying.{Run, HasFailed, HasLostNone, IsUnbroken, IsGood, IsEnd, IsChecked, IsOpeningRun, IsRun, pair_of, marker, records_over, records_given, is_sound_over}
use Rattle.blob_device.proofs.general.Options.{none_or_value}

pub record Drained {F S : Type 0} {gs : _} (g : buffer.Ghosts (PageBlob S gs)) (gives : F → Setting) (takes : WriteFactory → Setting) (told : Type 0) (run : Run F (PageBlob S gs)) (o : OpenedList) (d : Disk) : Type 0 where
  pub pages : ArePages g run.layout.seal
  pub here : Here gives (pair_of run)
  pub over : IsRun run g gives buffers takes told o d
  pub tracked : run.tracked ≡ true
  pub unfailed : HasFailed run → ⊥
  pub drained : IsDrained run.walk

-- The journal has the sections of the walk, each proven.
pub record GaveBack {F S : Type 0} {gs : _} (run : Run F (PageBlob S gs)) (j : Lists F (PageBlob S gs)) : Type 0 where
  pub sections : j.sections ≡ run.walk.journal.sections
  pub held : HasWalk run.layout.record_size run.walk → OwesHeld j
  pub settled : HasWalk run.layout.record_size run.walk → OwesSettled j
  pub sealed : (d : Disk) → WalksOver run.layout.seal run.layout.record_size run.walk d → AreSealed run.layout.seal run.layout.record_size j d
  pub unopened : (d : Disk) → WalksOver run.layout.seal run.layout.record_size run.walk d → UnopenedLater j
  pub recovered : (s : ℕ) → (run.walk.start_section < s) ⊎ ((run.walk.start_position ≡ 0) × (run.walk.start_section ≡ s)) → j.unrecovered s ≡ false
  pub lifted : (s : ℕ) → (run.walk.start_section < s) ⊎ ((run.walk.start_position ≡ 0) × (run.walk.start_section ≡ s)) → j.floor_of s ≡ 0

module _ {F S : Type 0} {gs : _} {g : buffer.Ghosts (PageBlob S gs)} {gives : F → Setting} {takes : WriteFactory → Setting} {told : Type 0} {run : Run F (PageBlob S gs)} {o : OpenedList} {d : Disk} (e : Drained g gives takes told run o d) where
  pub opening : IsOpeningRun run g told d
  opening = e.over.opening e.tracked

  pub walk_unfailed : run.walk.failed ≡ false
  walk_unfailed = elim (cases_Bool run.walk.failed) [ inl is ↦ absurd (e.unfailed (inr is)) | inr is ↦ is ]

  pub none_left : (s p : ℕ) → IsLeft run.layout.seal run.layout.record_size run.walk d s p → ⊥
  none_left s p left = elim left.ahead [
    | inl ahead ↦ e.drained.last s ahead.0 ahead.1
    | inr place ↦ absurd (subst (λ (x : Option _). IsSomeAnd x (λ r. (r.section ≡ s) × (r.position ≤ p))) e.drained.between place)
  ]

  pub known : HasLostNone run
  known = opening.index_known walk_unfailed

  unbroken : (s : ℕ) → IsUnbroken run d s
  unbroken s = inl e.unfailed

  module _ (t : told) where
    checked : IsChecked run d
    checked = opening.checked t

    -- the section's end, where it has one
    pub end_of : (s p : ℕ) → run.ends.at s ≡ Some p → IsEnd run d s p
    end_of s p is = checked.ends s p (unbroken s) is

    pub all_good : (s p : ℕ) → run.ends.at s ≡ None → p < length (records_over run d s) → IsGood run d s p
    all_good s p none lt = elim (checked.good s p (unbroken s) lt none) [
      | inl good ↦ good
      | inr left ↦ absurd (none_left s p left)
    ]

    prefix_given : (s : ℕ) → records_given run d s ≡ unbroken_prefix (is_sound_over run d s) (marker run s) 0 (records_over run d s)
    prefix_given s = ap (λ (b : Bool). cond b (unbroken_prefix (is_sound_over run d s) (marker run s) 0 (records_over run d s)) (records_over run d s)) e.tracked

    good_at : (s q : ℕ) → IsGood run d s q → IsGoodAt (is_sound_over run d s) (marker run s) 0 (records_over run d s) q
    good_at s q (inl lt) = inl (omega (arith, lt))
    good_at s q (inr is) = inr is

    -- what it gave of a section without an end, and of one with an end
    pub given_all : (s : ℕ) → run.ends.at s ≡ None → records_given run d s ≡ records_over run d s
    given_all s none = prefix_given s ∙ prefix_all (is_sound_over run d s) (marker run s) (records_over run d s) (λ q lt. good_at s q (all_good s q none lt))

    pub given_to : (s p : ℕ) → run.ends.at s ≡ Some p → records_given run d s ≡ take p (records_over run d s)
    given_to s p is =
        let end = end_of s p is in
        prefix_given s ∙ prefix_stops (is_sound_over run d s) (marker run s) 0 p (records_over run d s) (omega (arith, end.within)) (λ q lt. good_at s q (end.good q lt)) (inr (omega (arith, end.from), end.fails))

    -- each record that was given is good, and all of them are given of what was given
    pub given_good : (s q : ℕ) → q < length (records_given run d s) → IsGoodAt (is_sound_over run d s) (marker run s) 0 (records_given run d s) q
    given_good s q lt = elim (none_or_value (run.ends.at s)) [
      | inl none ↦
          let same = given_all s none in
          subst (λ (rs : List (List ℕ)). IsGoodAt (is_sound_over run d s) (marker run s) 0 rs q) (sym same) (good_at s q (all_good s q none (omega (arith, lt, ap length same))))
      | inr some ↦
          let same = given_to s some.0 some.1 in
          let less : q < some.0 = omega (arith, lt, ap length same, length-take some.0 (records_over run d s)) in
          subst (λ (rs : List (List ℕ)). IsGoodAt (is_sound_over run d s) (marker run s) 0 rs q) (sym same) (shorter some.0 (good_at s q ((end_of s some.0 some.1).good q less)) (get_or-take some.0 (records_over run d s) q [] less))
    ]
      where
        shorter : (p : ℕ) → IsGoodAt (is_sound_over run d s) (marker run s) 0 (records_over run d s) q → get_or (take p (records_over run d s)) q [] ≡ get_or (records_over run d s) q []
            → IsGoodAt (is_sound_over run d s) (marker run s) 0 (take p (records_over run d s)) q
        shorter p (inl below) same = inl below
        shorter p (inr is) same = inr (ap (is_sound_over run d s) same ∙ is)

    pub given_whole : (s : ℕ) → unbroken_prefix (is_sound_over run d s) (marker run s) 0 (records_given run d s) ≡ records_given run d s
    given_whole s = prefix_all (is_sound_over run d s) (marker run s) (records_given run d s) (given_good s)

  -- ---- the journal that the replay gives back
  module _ (j : Lists F (PageBlob S gs)) (back : GaveBack run j) where
    start : (s : ℕ) → (run.walk.start_section < s) ⊎ ((run.walk.start_position ≡ 0) × (run.walk.start_section ≡ s))
    start s = elim (cases_lt 0 s) [
      | inl later ↦ inl (omega (arith, later, opening.start_section))
      | inr first ↦ inr (opening.start_position, omega (arith, first, opening.start_section))
    ]

    pub back_proven : (s : ℕ) → IsProven j s
    back_proven s = record { checked = back.recovered s (start s); free = back.lifted s (start s) }

    pub back_journal : IsJournal g gives run.layout.seal run.layout.record_size told j o d
    back_journal = record {
      over = subst (λ (m : Sections F (PageBlob S gs)). IsOver g gives told m o d) (sym back.sections) e.over.index.over;
      owes_held = back.held e.over.index.walk;
      owes_settled = back.settled e.over.index.walk;
      disk = λ t. back.sealed d (e.over.index.disk t);
      unopened = λ t. back.unopened d (e.over.index.disk t);
    }

    pub back_rests : Resting g gives takes told run.layout j run.values run.store o d
    back_rests = record {
      parts = record {
        pages = e.pages;
        index = back_journal.over;
        index_settled = λ s v held. opening.index_settled s v (sym (ap (λ (m : Sections F (PageBlob S gs)). m.held s) back.sections) ∙ held);
        index_here = ap (λ (m : Sections F (PageBlob S gs)). m.partition) back.sections ∙ e.here.index;
        page_size = ap (λ (m : Sections F (PageBlob S gs)). (gives m.factory).page_size) back.sections ∙ e.here.page_size;
        some = e.here.some;
        values = e.over.values;
        values_settled = opening.values_settled;
        values_known = opening.values_known;
        values_here = e.here.values;
      };
      journal = back_journal;
      proven = back_proven;
      index_known = λ s. ap (λ (m : Sections F (PageBlob S gs)). m.unopened s) back.sections ∙ known s;
      marks = record { stands = λ t is. e.over.markers t; here = λ is. e.here.store; none = λ not. absurd (cc (e.here.marked, not)) };
    }

    module _ (t : told) where
      -- the bytes of the journal are those from which records were given
      over_of : (s : ℕ) (x : Option (PageBlob S gs)) (owes : Bool) → run.walk.journal.sections.held s ≡ x → run.walk.journal.unrecovered s ≡ owes
          → kept_bytes run.layout.seal run.layout.record_size run.walk d s ≡ fixed.section_bytes j.sections d s
      over_of s None owes held is =
          ap (λ (y : Option (PageBlob S gs)). kept_of run.layout.seal (run.walk.journal.unrecovered s) y (d (key_of run.walk.journal.sections s)).content) held
          ∙ sym (ap (λ (y : Option (PageBlob S gs)). fixed.bytes_held y (d (key_of run.walk.journal.sections s)).content) held)
          ∙ ap (λ (m : Sections F (PageBlob S gs)). fixed.section_bytes m d s) (sym back.sections)
      over_of s (Some u) false held is =
          ap (λ (y : Option (PageBlob S gs)). kept_of run.layout.seal (run.walk.journal.unrecovered s) y (d (key_of run.walk.journal.sections s)).content) held
          ∙ ap (λ (b : Bool). kept_of run.layout.seal b (Some u) (d (key_of run.walk.journal.sections s)).content) is
          ∙ sym (ap (λ (y : Option (PageBlob S gs)). fixed.bytes_held y (d (key_of run.walk.journal.sections s)).content) held)
          ∙ ap (λ (m : Sections F (PageBlob S gs)). fixed.section_bytes m d s) (sym back.sections)
      over_of s (Some u) true held is =
          let now : j.sections.held s ≡ Some u = ap (λ (m : Sections F (PageBlob S gs)). m.held s) back.sections ∙ held in
          let settles = index_settles back_rests t s u now in
          ap (λ (y : Option (PageBlob S gs)). kept_of run.layout.seal (run.walk.journal.unrecovered s) y (d (key_of run.walk.journal.sections s)).content) held
          ∙ ap (λ (b : Bool). kept_of run.layout.seal b (Some u) (d (key_of run.walk.journal.sections s)).content) is
          ∙ ap (λ (p : List ℕ). sealed_prefix run.layout.seal u.page_size (d (section_key p s)).content) e.here.index
          ∙ ap (λ (n : ℕ). sealed_prefix run.layout.seal n (d (section_key run.layout.index s)).content) (sized u (sym (ap (λ (m : Sections F (PageBlob S gs)). m.held s) back.sections) ∙ now))
          ∙ settles.prefix
        where
          sized : (v : PageBlob S gs) → run.walk.journal.sections.held s ≡ Some v → v.page_size ≡ run.layout.page_size
          sized v is_held = sym (e.pages.page_size v) ∙ ap (λ (x : Setting). x.page_size) (e.over.index.over.opened_list.setting s v is_held) ∙ e.here.page_size

      pub over_bytes : (s : ℕ) → kept_bytes run.layout.seal run.layout.record_size run.walk d s ≡ fixed.section_bytes j.sections d s
      over_bytes s = over_of s (run.walk.journal.sections.held s) (run.walk.journal.unrecovered s) refl refl

      pub over_records : (s : ℕ) → records_over run d s ≡ records run.layout.record_size (fixed.section_bytes j.sections d s)
      over_records s = ap (records run.layout.record_size) (over_bytes s)

      -- they are the records that the disk stores
      pub over_stored : (s : ℕ) → s < 2 ^ 64 → stored_records run.layout (as_read d) s ≡ records_over run d s
      over_stored s small = stored_at back_rests t s small ∙ sym (over_records s)

      pub over_sound : (s : ℕ) → s < 2 ^ 64 → is_sound_in run.layout (as_read d) s ≡ is_sound_over run d s
      over_sound s small = λ i r. is_sound run.layout.seal (values_at back_rests.parts t s small i) (run.layout.place r)

      -- and what the disk keeps is what was given
      pub kept_given : (s : ℕ) → s < 2 ^ 64 → kept run.layout (as_read d) (marker run s) s ≡ map (entry_of run.layout.place (glob.section_bytes run.values d s)) (records_given run d s)
      kept_given s small =
          (λ i. map (entry_of run.layout.place (values_at back_rests.parts t s small i)) (unbroken_prefix (over_sound s small i) (marker run s) 0 (over_stored s small i)))
          ∙ ap (map (entry_of run.layout.place (glob.section_bytes run.values d s))) (sym (prefix_given t s))

      pub kept_stored : (s : ℕ) → s < 2 ^ 64 → map (λ x. x.stored) (kept run.layout (as_read d) (marker run s) s) ≡ records_given run d s
      kept_stored s small = ap (map (λ x. x.stored)) (kept_given s small) ∙ stored_entries run.layout.place (glob.section_bytes run.values d s) (records_given run d s)

      prefixes_of : (s p : ℕ) → s < 2 ^ 64 → run.ends.at s ≡ Some p → (k : ℕ) → p ≤ k → k ≤ length (stored_records run.layout (as_read d) s)
          → map (entry_of run.layout.place (content_at (as_read d) run.layout.values s)) (unbroken_prefix (is_sound_in run.layout (as_read d) s) (marker run s) 0 (take k (stored_records run.layout (as_read d) s))) ≡ kept run.layout (as_read d) (marker run s) s
      prefixes_of s p small is k le few =
          let end = end_of t s p is in
          let same = over_stored s small in
          let sounds = over_sound s small in
          ap (map (entry_of run.layout.place (content_at (as_read d) run.layout.values s))) (prefix_cut (is_sound_in run.layout (as_read d) s) (marker run s) p k (stored_records run.layout (as_read d) s) le few
          (omega (arith, end.within, ap length same)) (λ q lt. good_as q (end.good q lt)) (omega (arith, end.from)) ((λ i. sounds i (get_or (same i) p [])) ∙ end.fails))
        where
          good_as : (q : ℕ) → IsGood run d s q → IsGoodAt (is_sound_in run.layout (as_read d) s) (marker run s) 0 (stored_records run.layout (as_read d) s) q
          good_as q (inl lt) = inl (omega (arith, lt))
          good_as q (inr sound) = inr ((λ i. over_sound s small i (get_or (over_stored s small i) q [])) ∙ sound)

    -- the ends that the replay found
    pub ends_of : Ends g gives takes told Same run.layout run.walk.journal.sections run.values run.store run.ends.at (records_given run d) j o d
    ends_of = record {
      order = same_order;
      begins = back.sections;
      rests = back_rests;
      apart = e.over.apart;
      from = λ s p is. opening.ends_from s p is;
      within = λ t s p is. omega (arith, (end_of t s p is).within, ap length (over_records t s));
      gives_all = λ t s none. given_all t s none ∙ over_records t s;
      gives_to = λ t s p is. given_to t s p is ∙ ap (take p) (over_records t s);
      prefixes = λ t s p small is k le few. prefixes_of t s p small is k le few;
    }
