-- What the replay of an opening goes over, against what the disk stores and keeps.
use Rattle.std.proofs.Common.{◌≡◌, inl, inr, sym, ◌∙◌, ap, subst, ℕ, ◌+◌, ◌-◌, ◌*◌, ◌/◌, ◌<◌, ◌≤◌, ◌^◌, cond, Bool, true, false, List, [], length, Option, None, Some, IsSome, unwrap_or, arith}
use Rattle.std.proofs.lemmas.Bool.{cases_Bool}
use Rattle.std.proofs.lemmas.Nat.{div_below}
use Rattle.blob_device.specs.Disk.{Blob, Disk, Key, reads}
use Rattle.blob_device.specs.Opened.{OpenedList}
use Rattle.sealed_pages.specs.declared.page_blob.PageBlob.{PageBlob}
use Rattle.sealed_pages.specs.declared.write_blob.WriteBlob.{WriteBlob}
use Rattle.sealed_pages.specs.Buffer.{bytes_of, size_of}
use Rattle.sealed_pages.specs.Cutting.{StandsSettled}
use Rattle.sealed_pages.specs.SealedPrefix.{sealed_prefix}
use Rattle.sealed_pages.specs.Shown.{shown}
use Rattle.section_manager.specs.declared.buffer.SectionBuffer as buffer
use Rattle.section_manager.specs.declared.unsealed.WriteFactory.{WriteFactory}
use Rattle.section_manager.specs.SealedLaws.{all_settled}
use Rattle.section_manager.specs.Sections.{section_key, key_of, IsHeld}
use Rattle.section_manager.specs.Setting.{Setting}
use Rattle.section_manager.specs.unsealed.Buffer.{count_of, is_unsettled}
use Rattle.section_manager.specs.unsealed.Laws.{rested, found_again}
use Rattle.paired.specs.lemmas.Glob.{buffers, idle_whole}
use Rattle.paired.specs.lemmas.pair.Facts.{not_there}
use Rattle.paired.specs.lemmas.pair.Reads.{index_size}
use Rattle.paired.specs.lemmas.pair.Synced.{Here}
use Rattle.paired.specs.lemmas.reconcile.Resting.{none_of, reads_absent, reads_there, rest_there}
use Rattle.section_manager.specs.lemmas.buffers.NothingSealed.{nothing_sealed}
use Rattle.segments.specs.lemmas.adding.Write.{ArePages}
use Rattle.segments.specs.FixedLists as fixed
use Rattle.segments.specs.FixedReplay.{kept_of}
use Rattle.paired.specs.glob.Sections as glob
use Rattle.paired.specs.Kept.{content_at, stored_records}
use Rattle.paired.specs.Opening.{as_read}
use Rattle.paired.specs.Records.{unbroken_prefix, records}
use Rattle.paired.specs.Replaying.{HasFailed, IsOpeningRun, IsRun, LeftAtMost, Run, is_sound_over, marker, pair_of, records_given, records_over}
use Rattle.paired.specs.lemmas.Records.{length-records}
use Rattle.blob_device.proofs.general.Options.{none_or_value, some_same, some_there, value_of}

module _ {F S : Type 0} {gs : _} {g : buffer.Ghosts (PageBlob S gs)} {gives : F → Setting} {takes : WriteFactory → Setting} {told : Type 0} (run : Run F (PageBlob S gs)) (o : OpenedList) (d : Disk)
    (pages : ArePages g run.layout.seal) (here : Here gives (pair_of run)) (was : IsRun run g gives buffers takes told o d) (tracked : run.tracked ≡ true) (unfailed : HasFailed run → ⊥) (t : told) where
  pub old : IsOpeningRun run g told d
  old = was.opening tracked

  pub fine : run.walk.failed ≡ false
  fine = elim (cases_Bool run.walk.failed) [ inl is ↦ absurd (unfailed (inr is)) | inr is ↦ is ]

  pub key_here : (s : ℕ) → key_of run.walk.journal.sections s ≡ section_key run.layout.index s
  key_here s = ap (λ (p : List ℕ). section_key p s) here.index

  pub paged : (s : ℕ) (u : PageBlob S gs) → run.walk.journal.sections.held s ≡ Some u → u.page_size ≡ run.layout.page_size
  paged s u held = sym (pages.page_size u) ∙ ap (λ (y : Setting). y.page_size) (was.index.over.opened_list.setting s u held) ∙ here.page_size

  pub settled_at : (s : ℕ) (u : PageBlob S gs) → run.walk.journal.sections.held s ≡ Some u → u.settled ≡ size_of (shown u)
  settled_at s u held = all_settled (shown u) (sym (pages.unsettled u) ∙ old.index_settled s u held)

  -- the blob of a held section is there
  there : (s : ℕ) → IsHeld run.walk.journal.sections s → reads (d (section_key run.layout.index s)) ≡ Some (d (section_key run.layout.index s)).content
  there s held = elim (none_or_value (run.walk.journal.sections.held s)) [
    | inl none ↦ absurd (cc (subst IsSome none held))
    | inr some ↦
        let b : Blob = d (key_of run.walk.journal.sections s) in
        let rest : StandsSettled b = (pages.stands some.0 b ((was.index.over.disk t).stands s some.0 some.1)).rest (settled_at s some.0 some.1) in
        subst (λ (k : Key). reads (d k) ≡ Some (d k).content) (key_here s) (reads_there b (rest_there b rest))
  ]

  pub held_number : (s : ℕ) → IsHeld run.walk.journal.sections s → s < 2 ^ 64
  held_number s held = was.index.over.opened_list.number s (inl held)

  pub stored_here : (s : ℕ) (u : PageBlob S gs) → run.walk.journal.sections.held s ≡ Some u
      → stored_records run.layout (as_read d) s ≡ records run.layout.record_size (sealed_prefix run.layout.seal u.page_size (d (key_of run.walk.journal.sections s)).content)
  stored_here s u held =
      ap (λ (x : Option (List ℕ)). records run.layout.record_size (sealed_prefix run.layout.seal run.layout.page_size (unwrap_or x []))) (there s (some_there (run.walk.journal.sections.held s) u held))
      ∙ ap (λ (k : Key). records run.layout.record_size (sealed_prefix run.layout.seal run.layout.page_size (d k).content)) (sym (key_here s))
      ∙ sym (ap (λ (n : ℕ). records run.layout.record_size (sealed_prefix run.layout.seal n (d (key_of run.walk.journal.sections s)).content)) (paged s u held))

  pub stored_none : (s : ℕ) → s < 2 ^ 64 → run.walk.journal.sections.held s ≡ None → stored_records run.layout (as_read d) s ≡ []
  stored_none s small none =
      ap (λ (k : Key). records run.layout.record_size (sealed_prefix run.layout.seal run.layout.page_size (unwrap_or (reads (d k)) []))) (sym (key_here s))
      ∙ ap (λ (x : Option (List ℕ)). records run.layout.record_size (sealed_prefix run.layout.seal run.layout.page_size (unwrap_or x []))) (reads_absent (d (key_of run.walk.journal.sections s)) (not_there run.walk.journal.sections o d was.index.over t s small none (old.index_known fine s)))
      ∙ ap (records run.layout.record_size) (nothing_sealed run.layout.seal run.layout.page_size) ∙ none_of run.layout.record_size here.some

  pub over_at : (s : ℕ) (u : PageBlob S gs) (owes : Bool) → run.walk.journal.sections.held s ≡ Some u → run.walk.journal.unrecovered s ≡ owes
      → records_over run d s ≡ records run.layout.record_size (kept_of run.layout.seal owes (Some u) (d (key_of run.walk.journal.sections s)).content)
  over_at s u owes held is =
      ap (λ (x : Option (PageBlob S gs)). records run.layout.record_size (kept_of run.layout.seal (run.walk.journal.unrecovered s) x (d (key_of run.walk.journal.sections s)).content)) held
      ∙ ap (λ (b : Bool). records run.layout.record_size (kept_of run.layout.seal b (Some u) (d (key_of run.walk.journal.sections s)).content)) is

  -- a section that is not held has no records
  pub over_none : (s : ℕ) → run.walk.journal.sections.held s ≡ None → records_over run d s ≡ []
  over_none s none =
      ap (λ (x : Option (PageBlob S gs)). records run.layout.record_size (kept_of run.layout.seal (run.walk.journal.unrecovered s) x (d (key_of run.walk.journal.sections s)).content)) none
      ∙ none_of run.layout.record_size here.some

  pub given_none : (s : ℕ) → run.walk.journal.sections.held s ≡ None → records_given run d s ≡ []
  given_none s none =
      ap (λ (b : Bool). cond b (unbroken_prefix (is_sound_over run d s) (marker run s) 0 (records_over run d s)) (records_over run d s)) tracked
      ∙ ap (unbroken_prefix (is_sound_over run d s) (marker run s) 0) (over_none s none)

  -- what owes a replay is what is stored; of what owes none there are no more records than the marker says
  few_free : (s : ℕ) (u : PageBlob S gs) → run.walk.journal.sections.held s ≡ Some u → run.walk.journal.unrecovered s ≡ false → length (records_over run d s) ≤ marker run s
  few_free s u held free =
      let bytes : List ℕ = bytes_of (shown u) (d (key_of run.walk.journal.sections s)).content in
      let size : length bytes ≡ fixed.section_size run.walk.journal.sections s =
      sym (ap (λ (x : Option (PageBlob S gs)). length (fixed.bytes_held x (d (key_of run.walk.journal.sections s)).content)) held) ∙ index_size run.walk.journal.sections d s in
      let few : length bytes ≤ marker run s * run.layout.record_size = omega (arith, size, old.unowed s free, old.floors s) in
      let less : length bytes / run.layout.record_size < marker run s + 1 = div_below (length bytes) run.layout.record_size (marker run s + 1) here.some (omega (arith, few, here.some)) in
      omega (arith, less, ap length (over_at s u false held free), length-records run.layout.record_size bytes)

  pub left_at_most : (s : ℕ) → LeftAtMost run d s (length (stored_records run.layout (as_read d) s) - marker run s)
  left_at_most s p left from = elim (none_or_value (run.walk.journal.sections.held s)) [
    | inl none ↦ omega (arith, ap length (over_none s none))
    | inr some ↦ elim (cases_Bool (run.walk.journal.unrecovered s)) [
      | inl owed ↦ omega (arith, from, ap length (over_at s some.0 true some.1 owed), ap length (stored_here s some.0 some.1))
      | inr free ↦ omega (arith, from, few_free s some.0 some.1 free)
    ]
  ]

  -- the values read as the glob's bytes
  value_idle : (s : ℕ) (v : WriteBlob) → run.values.held s ≡ Some v → is_unsettled v ≡ false
  value_idle s v held =
      let w = value_of (run.values.held s) (λ x. (x.settled ≡ count_of x) × (is_unsettled x ≡ false)) (old.values_settled s (some_there (run.values.held s) v held)) in
      subst (λ (x : WriteBlob). is_unsettled x ≡ false) (some_same w.value v (sym w.is ∙ held)) w.has.1

  pub values_at : (s : ℕ) → s < 2 ^ 64 → content_at (as_read d) run.layout.values s ≡ glob.section_bytes run.values d s
  values_at s small = subst (λ (k : Key). unwrap_or (reads (d k)) [] ≡ glob.section_bytes run.values d s) (ap (λ (x : List ℕ). section_key x s) here.values) (elim (none_or_value (run.values.held s)) [
    | inl none ↦ ap (λ (x : Option (List ℕ)). unwrap_or x []) (reads_absent (d (key_of run.values s)) (not_there run.values o d was.values.over t s small none (old.values_known s)))
        ∙ sym (ap (λ (x : Option WriteBlob). glob.bytes_held x (d (key_of run.values s)).content) none)
    | inr some ↦
        let stands = (was.values.over.disk t).stands s some.0 some.1 in
        let idle = value_idle s some.0 some.1 in
        let rest : StandsSettled (d (key_of run.values s)) = rested some.0 (d (key_of run.values s)) stands idle in
        ap (λ (x : Option (List ℕ)). unwrap_or x []) (reads_there (d (key_of run.values s)) (rest_there (d (key_of run.values s)) rest))
        ∙ found_again some.0 (d (key_of run.values s)) stands (idle_whole some.0 (d (key_of run.values s)) stands idle) idle
        ∙ sym (ap (λ (x : Option WriteBlob). glob.bytes_held x (d (key_of run.values s)).content) some.1)
  ])

  -- a section of which a record is given is held
  pub given_number : (s p : ℕ) → p < length (records_given run d s) → s < 2 ^ 64
  given_number s p lt = elim (none_or_value (run.walk.journal.sections.held s)) [
    | inl none ↦ absurd (omega (arith, lt, ap length (given_none s none)))
    | inr some ↦ held_number s (some_there (run.walk.journal.sections.held s) some.0 some.1)
  ]
