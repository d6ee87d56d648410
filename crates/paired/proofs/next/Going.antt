-- A replay of a pair after one turn more: what `next` answers, from where it began.
use Rattle.std.specs.Prelude.{◌≡◌, ◌⊎◌, ◌↔◌, ℕ, ◌+◌, ◌*◌, ◌/◌, ◌^◌, ◌<◌, ◌≤◌, ⊤, Bool, true, false, List, [], length, get_or, Option, None, Some, Result, Ok, Err}
use Rattle.std.proofs.Common.{inl, inr, refl, sym, ◌∙◌, ap, subst, arith, div-lt_iff_lt-mul}
use Rattle.blob_device.specs.Disk.{Key, Disk, MayLeave, reads}
use Rattle.blob_device.specs.Opened.{OpenedList, reads_of}
use Rattle.blob_device.specs.Timeline.{Timeline, disk}
use Rattle.blob_device.specs.declared.runtime.RError.TheVariants.{InvalidChecksum}
use Rattle.sealed_pages.specs.declared.page_blob.PageBlob.{PageBlob}
use Rattle.value_codec.specs.declared.codec.Error as codec
use Rattle.section_manager.specs.declared.buffer.SectionBuffer as buffer
use Rattle.section_manager.specs.declared.journal.Damage.{Damage}
use Rattle.section_manager.specs.declared.journal.Error.{Error}
use Rattle.section_manager.specs.declared.journal.Error.TheVariants.{ItemOutOfRange, Runtime, Codec, Corruption}
use Rattle.section_manager.specs.declared.unsealed.WriteFactory.{WriteFactory}
use Rattle.section_manager.specs.Refusing.{HasDamage, HasFailed}
use Rattle.section_manager.specs.Sections.{section_key}
use Rattle.section_manager.specs.Setting.{Setting}
use Rattle.segments.specs.FixedItems.{IsItem}
use Rattle.segments.specs.FixedLists.{section_size, size_held}
use Rattle.segments.specs.FixedReading.{IsBelowFloor, HasNotRead}
use Rattle.segments.specs.FixedReplay.{Walk, IsLeft, EndsBelow, FindsDamage, kept_bytes}
use Rattle.segments.specs.FixedStepping.{way_of}
use Rattle.paired.specs.lemmas.Glob.{buffers}
use Rattle.paired.specs.lemmas.Replay.{record_at}
use Rattle.paired.specs.lemmas.next.Running.{moved}
use Rattle.paired.specs.lemmas.next.Went.{Goes, Went, goes_still, goes_then, went_still, went_then}
use Rattle.paired.specs.lemmas.pair.Synced.{Here}
use Rattle.segments.specs.lemmas.adding.Write.{ArePages}
use Rattle.segments.specs.lemmas.replay.Reading.{failed_since, not_read_since}
use Rattle.paired.specs.Crashes.{IsIndexOf, IsValuesOf}
use Rattle.paired.specs.glob.Sections.{IsGlob}
use Rattle.paired.specs.Replaying.{Limits, Run, pair_of, records_over, records_given, IsDue, IsChecked, IsRun, GivesRecord, LosesRecords, IsCutting, IsUnspelled, LeftAtMost}
use Rattle.paired.proofs.next.Says.{Says, went_of, goes_of}
use Rattle.paired.proofs.next.Turn.{Sorted, on_ok, on_err, if_ok, item_left, item_records, fine, run_turned, run_ended, none_reads, values_entry, values_over, entries_other, stop_loses, stop_checked, sorted_checked, record_given, record_skipped, check_loses, check_checked, reads_stopped, reads_sorted, live_unread, entries_on, same_disk, turns}
use Rattle.paired.specs.lemmas.Records.{length-records}
use Rattle.paired.proofs.ReplayLemmas.{given_stay}
use Rattle.blob_device.proofs.general.Options.{none_or_value, some_of, some_there}
use Rattle.paired.specs.lemmas.next.Going.{Running}

-- an error of one call is one of another
other_failed : {T U : Type 0} (r : Result T Error) (x : Error) → r ≡ Err x → (few many : ℕ) → HasFailed r few many → HasFailed {T = U} (Err x) few many
other_failed r x is few many (inl mem) = inl (cc (mem, is))
other_failed r x is few many (inr fault) = (let at = fault.0 in inr (cc (at, is), fault.1))

-- fewer bytes than those of p items
below_same : (x y p k : ℕ) → 1 ≤ k → x / k ≡ y / k → x < p * k → y < p * k
below_same x y p k pos same lt = (div-lt_iff_lt-mul (omega (arith, pos))).0 (omega (arith, same, (div-lt_iff_lt-mul {k = k} {x = x} {y = p} (omega (arith, pos))).1 lt))

module _ {F S V : Type 0} {gs : _} (g : buffer.Ghosts (PageBlob S gs)) (gives : F → Setting) (takes : WriteFactory → Setting) (told : Type 0) (run : Run F (PageBlob S gs)) (pages : ArePages g run.layout.seal)
    (spelling : V → List ℕ) (accepted : V → Unit {0} → Type 0) (refusal : List ℕ → Unit {0} → Option codec.Error) (location : V → ℕ × ℕ) (spelled : (r : V) → accepted r tt → run.layout.place (spelling r) ≡ location r)
    (before : OpenedList) (a : Timeline) (few : ℕ) (here : Here gives (pair_of run)) where
  module _ (w : Walk F (PageBlob S gs)) (ends : Limits) (ended : Option ℕ) (failed : Bool) (opened : OpenedList) (b : Timeline) (count : ℕ) (running : Running g gives takes told run before a few w ends ended failed opened b count) where
    abbrev now : Run F (PageBlob S gs)
    now = moved run w ends ended failed

    now_here : Here gives (pair_of now)
    now_here = record {
      index = running.went.same.bounds.place.partition ∙ here.index;
      values = here.values;
      store = here.store;
      page_size = ap (λ (f : F). (gives f).page_size) running.went.same.bounds.place.factory ∙ here.page_size;
      some = here.some;
      marked = here.marked;
    }

    -- how many records a section has
    counts : told → (s : ℕ) → length (kept_bytes run.layout.seal run.layout.record_size w (disk b) s) / run.layout.record_size ≡ length (kept_bytes run.layout.seal run.layout.record_size run.walk (disk a) s) / run.layout.record_size
    counts t s = sym (length-records run.layout.record_size (kept_bytes run.layout.seal run.layout.record_size w (disk b) s)) ∙ ap length (running.records t s)
        ∙ length-records run.layout.record_size (kept_bytes run.layout.seal run.layout.record_size run.walk (disk a) s)

    module _ (answer : Option (Result (ℕ × ℕ × V) Error)) (v : Walk F (PageBlob S gs)) (between : OpenedList) (c : Timeline) (some : ℕ)
        (says : Says run.layout.seal run.layout.record_size g gives told spelling accepted refusal answer w v opened between b c count some) where
      next_went : Went run.layout.seal run.layout.record_size g told w v b c
      next_went = went_of run.layout.seal run.layout.record_size g gives told spelling accepted refusal answer w v opened between b c count some says

      pub all_went : Went run.layout.seal run.layout.record_size g told run.walk v a c
      all_went = went_then run.layout.seal run.layout.record_size g told run.walk w v a b c running.went running.goes next_went

      pub all_nearer : (x : Result (ℕ × ℕ × V) Error) → answer ≡ Some x → way_of v < way_of run.walk
      all_nearer x is = omega (arith, running.nearer, says.nearer x is)

      -- ---- why the walk refused
      pub was_start : told → (p : ℕ) → answer ≡ Some (Err (ItemOutOfRange p)) → (p ≡ run.walk.start_position) × (length (kept_bytes run.layout.seal run.layout.record_size run.walk (disk a) run.walk.start_section) < p * run.layout.record_size)
      was_start t p is =
          let has = says.start t p is in
          let same = counts t run.walk.start_section in
          let less : length (kept_bytes run.layout.seal run.layout.record_size w (disk b) run.walk.start_section) < p * run.layout.record_size =
          subst (λ (k : ℕ). length (kept_bytes run.layout.seal run.layout.record_size w (disk b) k) < p * run.layout.record_size) running.went.same.section has.1 in
          (has.0 ∙ running.went.same.position, below_same _ _ p run.layout.record_size here.some same less)

      pub was_damage : told → (x : Damage) → answer ≡ Some (Err (Corruption x)) → EndsBelow run.layout.seal run.layout.record_size run.walk (disk a) x
      was_damage t x is = (let has = (says.damage t x is).0 in record {
        owes = sym (running.went.same.unrecovered x.section) ∙ has.owes;
        held = (running.goes.held x.section).0 has.held;
        kept = has.kept ∙ ap (λ (n : ℕ). n * run.layout.record_size) (counts t x.section);
        wanted = has.wanted ∙ running.went.same.floors x.section;
        less = has.less;
      })

      pub was_damaged : told → (k : ℕ) → answer ≡ Some (Err (Runtime (InvalidChecksum k))) → FindsDamage run.layout.seal run.layout.record_size run.walk v (disk c) k
      was_damaged t k is = (let has = says.damaged t k is in record {
        section = has.section;
        position = has.position;
        near = running.went.onward has.section has.near;
        free = has.free;
        floor = has.floor;
        within = has.within;
        page = has.page;
      })

      pub was_refused : told → (x : codec.Error) → answer ≡ Some (Err (Codec x)) → IsUnspelled refusal run (disk a) x
      was_refused t x is = (let has = says.refused t x is in record {
        section = has.section;
        position = has.position;
        left = running.left t has.section has.position has.left;
        first = λ s q due stands. has.first s q ((running.due t s q).1 due).left stands;
        refused = subst (λ (rs : List (List ℕ)). refusal (get_or rs has.position []) tt ≡ Some x) (running.records t has.section)
            (subst (λ (r : List ℕ). refusal r tt ≡ Some x) (sym (record_at run.layout.record_size (kept_bytes run.layout.seal run.layout.record_size w (disk b) has.section) has.position has.left.whole)) has.refused);
      })

      pub was_cut : v.ended ≡ true → (run.walk.ended ≡ true) ⊎ IsCutting told run (disk a)
      was_cut is = elim (says.ends_cut is) [
        | inl end ↦ inl (sym running.goes.ended ∙ end)
        | inr has ↦ inr (record {
          section = has.section;
          near = running.went.onward has.section has.near;
          owes = sym (running.went.same.unrecovered has.section) ∙ has.owes;
          longer = λ t.
              let longest = has.longer t in
              let same : length (records_over run (disk a) has.section) * run.layout.record_size ≡ length (kept_bytes run.layout.seal run.layout.record_size w (disk b) has.section) / run.layout.record_size * run.layout.record_size =
              ap (λ (n : ℕ). n * run.layout.record_size) (length-records run.layout.record_size (kept_bytes run.layout.seal run.layout.record_size run.walk (disk a) has.section) ∙ sym (counts t has.section)) in
              omega (arith, longest, shorter has.section, same);
          given = λ t s q due le. has.given t s q ((running.due t s q).1 due).left le;
        })
      ]
        where
          shorter : (s : ℕ) → section_size w.journal.sections s ≤ section_size run.walk.journal.sections s
          shorter s = elim (none_or_value (w.journal.sections.held s)) [
            | inl none ↦ omega (arith, ap size_held none)
            | inr z ↦ (let u = some_of (run.walk.journal.sections.held s) ((running.goes.held s).0 (some_there (w.journal.sections.held s) z.0 z.1)) in
                omega (arith, ap size_held z.1, ap size_held u.1, (running.went.floors s u.0 z.0 u.1 z.1).shorter))
          ]

      pub was_ends : v.ended ≡ true → (run.walk.ended ≡ true) ⊎ ((x : Error) × (answer ≡ Some (Err x)) × ((HasDamage {T = V} (Err x) × (told → ⊥)) ⊎ HasFailed {T = V} (Err x) few some))
      was_ends is = elim (says.ends is) [
        | inl end ↦ inl (sym running.goes.ended ∙ end)
        | inr has ↦ inr (
          has.0,
          has.1,
          elim has.2 [
            | inl page ↦ inl page
            | inr bad ↦ inr (failed_since {T = V} (Err has.0) few count some running.faults bad)
          ],
        )
      ]

      pub was_cause : (x : Error) → answer ≡ Some (Err x) → (x ≡ ItemOutOfRange run.walk.start_position) ⊎ (IsBelowFloor {T = V} (Err x) ⊎ HasNotRead {T = V} (Err x) few some)
      was_cause x is = elim (says.cause x is) [
        | inl start ↦ inl (start ∙ ap ItemOutOfRange running.went.same.position)
        | inr (inl below) ↦ inr (inl below)
        | inr (inr bad) ↦ inr (inr (not_read_since {T = V} (Err x) few count some running.faults bad))
      ]

      -- nothing was due where it gave nothing
      pub was_none : told → answer ≡ None → (s q : ℕ) → IsDue run (disk a) s q → ⊥
      was_none t none s q due = says.none t none s q ((running.due t s q).1 due).left

      -- the values behind the walk
      pub next_glob : IsGlob buffers takes told run.values between (disk c)
      next_glob = values_over g gives told now pages spelling accepted refusal location spelled opened b count now_here running.over answer v between c some says

      -- ---- the replay where it gave nothing
      module _ (none : answer ≡ None) (readable : told → (q : Key) → MayLeave (disk c q) (reads (disk c q))) where
        pub last_run : IsRun (moved run v ends ended failed) g gives buffers takes told between (disk c)
        last_run = run_ended g gives told now pages spelling accepted refusal location spelled opened b count now_here running.over answer v between c some says none readable

        pub last_reads : told → (s n : ℕ) → s < 2 ^ 64 → LeftAtMost run (disk a) s n
            → (m : ℕ) × LeftAtMost (moved run v ends ended failed) (disk c) s m × (reads_of (between (section_key run.layout.values s)) + m ≤ reads_of (before (section_key run.layout.values s)) + n)
        last_reads t s n small most =
            let first = running.reads t s n small most in
            let more = none_reads g gives told now pages spelling accepted refusal location spelled opened b count now_here running.over answer v between c some says none readable s first.0 first.1 in
            (more.0, more.1, omega (arith, first.2, more.2))

        pub last_unread : run.tracked ≡ false → (s : ℕ) → between (section_key run.layout.values s) ≡ before (section_key run.layout.values s)
        last_unread untracked s = values_entry g gives told now pages spelling accepted refusal location spelled opened b count now_here running.over answer v between c some says s ∙ running.unread untracked s

        pub last_entries : (q : Key) → (IsIndexOf run.layout (λ _. ⊤) q ⊎ IsValuesOf run.layout (λ _. ⊤) q → ⊥) → between q ≡ before q
        last_entries q not = entries_other g gives told now pages spelling accepted refusal location spelled opened b count now_here running.over answer v between c some says q (λ is. not (inl is)) ∙ running.entries q not

      -- ---- what was given is sorted
      module _ (given : Result (ℕ × ℕ × V) Error) (gave : answer ≡ Some given) (result : Result (Option (ℕ × ℕ × V)) Error) (ends2 : Limits) (ended2 : Option ℕ) (after : OpenedList) (e : Timeline) (many : ℕ)
          (sorted : Sorted takes told (moved run v ends ended failed) location given result ends2 ended2 between after c e some many) (readable : told → (q : Key) → MayLeave (disk c q) (reads (disk c q))) where
        pub all_on : Went run.layout.seal run.layout.record_size g told run.walk v a e
        all_on = went_still run.layout.seal run.layout.record_size g told run.walk v a c e sorted.unchanged all_went

        pub here_disk : told → disk e ≡ disk c
        here_disk t = same_disk g gives told now pages spelling accepted refusal location spelled opened b count now_here running.over answer v between c some says given gave result ends2 ended2 after e many sorted readable t

        -- what was given, where it was sorted without an error
        given_ok : (r : Option (ℕ × ℕ × V)) → result ≡ Ok r → (y : ℕ × ℕ × V) × (given ≡ Ok y)
        given_ok r ok = go given refl
          where
            go : (x : Result (ℕ × ℕ × V) Error) → given ≡ x → (y : ℕ × ℕ × V) × (given ≡ Ok y)
            go (Ok y) is = (y, is)
            go (Err x) is = (let bad = (sorted.passed x is).0 in absurd (cc (bad, ok)))

        given_same : (y : ℕ × ℕ × V) → result ≡ Ok (Some y) → given ≡ Ok y
        given_same y ok =
            let z = given_ok (Some y) ok in
            elim (if_ok (λ (r : Option (ℕ × ℕ × V)). (r ≡ Some z.0) ⊎ ((r ≡ None) × (run.tracked ≡ true))) result (Some y) ok (sorted.kept z.0.0 z.0.1 z.0.2 z.1)) [
              | inl same ↦ (let is = z.1 in cc (same, is))
              | inr none ↦ (let bad = none.0 in absurd (cc bad))
            ]

        was_tracked : result ≡ Ok None → run.tracked ≡ true
        was_tracked ok =
            let z = given_ok None ok in
            elim (if_ok (λ (r : Option (ℕ × ℕ × V)). (r ≡ Some z.0) ⊎ ((r ≡ None) × (run.tracked ≡ true))) result None ok (sorted.kept z.0.0 z.0.1 z.0.2 z.1)) [
              | inl some_is ↦ absurd (cc some_is)
              | inr none ↦ none.1
            ]

        pub reads_then : (failed2 : Bool) → told → (s n : ℕ) → s < 2 ^ 64 → LeftAtMost run (disk a) s n
            → (m : ℕ) × LeftAtMost (moved run v ends2 ended2 failed2) (disk e) s m × (reads_of (after (section_key run.layout.values s)) + m ≤ reads_of (before (section_key run.layout.values s)) + n)
        reads_then failed2 t s n small most =
            let first = running.reads t s n small most in
            let more = go first.0 first.1 given refl in
            (more.0, more.1, omega (arith, first.2, more.2))
          where
            go : (k : ℕ) → LeftAtMost now (disk b) s k → (x : Result (ℕ × ℕ × V) Error) → given ≡ x
                → (m : ℕ) × LeftAtMost (moved run v ends2 ended2 failed2) (disk e) s m × (reads_of (after (section_key run.layout.values s)) + m ≤ reads_of (opened (section_key run.layout.values s)) + k)
            go k at (Err x) is = reads_stopped g gives told now pages spelling accepted refusal location spelled opened b count now_here running.over answer v between c some says given gave result ends2 ended2 after e many sorted readable x is failed2 t s k at
            go k at (Ok y) is = reads_sorted g gives told now pages spelling accepted refusal location spelled opened b count now_here running.over answer v between c some says given gave result ends2 ended2 after e many sorted readable y.0 y.1 y.2 is failed2 t s k small at

        pub unread_then : run.tracked ≡ false → (s : ℕ) → after (section_key run.layout.values s) ≡ before (section_key run.layout.values s)
        unread_then untracked s = live_unread g gives told now pages spelling accepted refusal location spelled opened b count now_here running.over answer v between c some says given gave result ends2 ended2 after e many sorted readable untracked s ∙ running.unread untracked s

        pub entries_then : (q : Key) → (IsIndexOf run.layout (λ _. ⊤) q ⊎ IsValuesOf run.layout (λ _. ⊤) q → ⊥) → after q ≡ before q
        entries_then q not = entries_on g gives told now pages spelling accepted refusal location spelled opened b count now_here running.over answer v between c some says given gave result ends2 ended2 after e many sorted readable q not ∙ running.entries q not

        pub faults_then : few ≤ many
        faults_then = omega (arith, running.faults, says.faults, sorted.faults)

        -- ---- it was sorted without an error
        module _ (r : Option (ℕ × ℕ × V)) (ok : result ≡ Ok r) where
          pub run_sorted : IsRun (moved run v ends2 ended2 failed) g gives buffers takes told after (disk e)
          run_sorted = (let y = given_ok r ok in run_turned g gives told now pages spelling accepted refusal location spelled opened b count now_here running.over answer v between c some says given gave result ends2 ended2 after e many sorted readable failed (λ t tracked. sorted_checked g gives told now pages spelling accepted refusal location spelled opened b count now_here running.over answer v between c some says given gave result ends2 ended2 after e many sorted readable y.0.0 y.0.1 y.0.2 y.1 r ok t tracked))

          pub same_end : ended2 ≡ run.ended_section
          same_end = on_ok result r ok sorted.goes_on ∙ running.same_ended

          pub walk_failed : v.failed ≡ run.walk.failed
          walk_failed = (let y = given_ok r ok in says.going y.0.0 y.0.1 y.0.2 (gave ∙ ap (λ (x : Result (ℕ × ℕ × V) Error). let to : Result (ℕ × ℕ × V) Error → Option (Result (ℕ × ℕ × V) Error) = λ z. Some z in to x) y.1)) ∙ running.goes.failed

          goes_here : Goes run.layout.seal run.layout.record_size g told run.walk v a e
          goes_here =
              let y = given_ok r ok in
              goes_still run.layout.seal run.layout.record_size g told run.walk v a c e sorted.unchanged
              (goes_then run.layout.seal run.layout.record_size g told run.walk w v a b c running.went running.goes next_went
              (goes_of run.layout.seal run.layout.record_size g gives told spelling accepted refusal answer w v opened between b c count some says (fine g gives told now pages spelling accepted refusal location spelled opened b count now_here running.over answer v between c some says given gave result ends2 ended2 after e many sorted readable y.0.0 y.0.1 y.0.2 y.1)))

          pub walk_ended : v.ended ≡ run.walk.ended
          walk_ended = goes_here.ended

          records_here : told → (s : ℕ) → records_over (moved run v ends2 ended2 failed) (disk e) s ≡ records_over now (disk b) s
          records_here t s = (let y = given_ok r ok in subst (λ (d : Disk). records_over (moved run v ends2 ended2 failed) d s ≡ records_over now (disk b) s) (sym (here_disk t)) (item_records g gives told now pages spelling accepted refusal location spelled opened b count now_here running.over answer v between c some says given gave result ends2 ended2 after e many sorted readable y.0.0 y.0.1 y.0.2 y.1 t s))

          given_here : told → (s : ℕ) → records_given (moved run v ends2 ended2 failed) (disk e) s ≡ records_given now (disk b) s
          given_here t s =
              let y = given_ok r ok in
              subst (λ (d : Disk). records_given (moved run v ends2 ended2 failed) d s ≡ records_given now (disk b) s) (sym (here_disk t))
              (given_stay now (moved run v ends2 ended2 failed) v (disk b) (disk c) (turns g gives told now pages spelling accepted refusal location spelled opened b count now_here running.over answer v between c some says t ends2 ended2 failed) s (item_records g gives told now pages spelling accepted refusal location spelled opened b count now_here running.over answer v between c some says given gave result ends2 ended2 after e many sorted readable y.0.0 y.0.1 y.0.2 y.1 t s))

        -- it was skipped, and the replay goes on
        pub running_on : result ≡ Ok None → Running g gives takes told run before a few v ends2 ended2 failed after e many
        running_on ok = let y = given_ok None ok in record {
          went = all_on;
          goes = goes_here None ok;
          over = run_sorted None ok;
          nearer = omega (arith, all_nearer given gave);
          same_failed = running.same_failed;
          same_ended = same_end None ok;
          due = λ t s q.
              let skipped = subst (λ (d : Disk). IsDue (moved run v ends2 ended2 failed) d s q ↔ IsDue now (disk b) s q) (sym (here_disk t))
              (record_skipped g gives told now pages spelling accepted refusal location spelled opened b count now_here running.over answer v between c some says given gave result ends2 ended2 after e many sorted readable y.0.0 y.0.1 y.0.2 y.1 None ok (λ none. cc none) (was_tracked ok) t s q) in
              (λ due. (running.due t s q).0 (skipped.0 due), λ due. skipped.1 ((running.due t s q).1 due));
          left = λ t s q left. running.left t s q (item_left g gives told now pages spelling accepted refusal location spelled opened b count now_here running.over answer v between c some says given gave result ends2 ended2 after e many sorted readable y.0.0 y.0.1 y.0.2 y.1 t s q (subst (λ (d : Disk). IsLeft run.layout.seal run.layout.record_size v d s q) (here_disk t) left));
          records = λ t s. records_here None ok t s ∙ running.records t s;
          given = λ t s. given_here None ok t s ∙ running.given t s;
          reads = reads_then failed;
          unread = unread_then;
          entries = entries_then;
          faults = faults_then;
        }

        -- it is given
        pub item_then : (y : ℕ × ℕ × V) → result ≡ Ok (Some y) → told → GivesRecord spelling accepted run (moved run v ends2 ended2 failed) (disk a) (disk e) y.0 y.1 y.2
        item_then y ok t =
            let has = subst (λ (d : Disk). GivesRecord spelling accepted now (moved run v ends2 ended2 failed) (disk b) d y.0 y.1 y.2) (sym (here_disk t)) (record_given g gives told now pages spelling accepted refusal location spelled opened b count now_here running.over answer v between c some says given gave result ends2 ended2 after e many sorted readable y.0 y.1 y.2 (given_same y ok) (Some y) ok refl t) in record {
              due = (running.due t y.0 y.1).0 has.due;
              first = λ s q due. has.first s q ((running.due t s q).1 due);
              item = subst (λ (rs : List (List ℕ)). IsItem spelling accepted (get_or rs y.1 []) y.2) (running.given t y.0) has.item;
              rest = λ s q. (
                λ due. (let both = (has.rest s q).0 due in ((running.due t s q).0 both.0, both.1)),
                λ both. (has.rest s q).1 ((running.due t s q).1 both.0, both.1),
              );
            }

        -- ---- an error
        module _ (x : Error) (bad : result ≡ Err x) where
          pub run_failed : IsRun (moved run v ends2 ended2 true) g gives buffers takes told after (disk e)
          run_failed = run_turned g gives told now pages spelling accepted refusal location spelled opened b count now_here running.over answer v between c some says given gave result ends2 ended2 after e many sorted readable true (λ t tracked. go t tracked given refl)
            where
              go : (t : told) → run.tracked ≡ true → (y : Result (ℕ × ℕ × V) Error) → given ≡ y → IsChecked (moved run v ends2 ended2 true) (disk c)
              go t tracked (Err y) is = stop_checked g gives told now pages spelling accepted refusal location spelled opened b count now_here running.over answer v between c some says given gave result ends2 ended2 after e many sorted readable y is t tracked
              go t tracked (Ok y) is = check_checked g gives told now pages spelling accepted refusal location spelled opened b count now_here running.over answer v between c some says given gave result ends2 ended2 after e many sorted readable y.0 y.1 y.2 is x bad t tracked

          pub loses_then : told → LosesRecords run (moved run v ends2 ended2 true) (disk a) (disk e)
          loses_then t = record {
            rest = elim (subst (λ (d : Disk). LosesRecords now (moved run v ends2 ended2 true) (disk b) d) (sym (here_disk t)) (go given refl)).rest [
              | inl end ↦ inl end
              | inr rest ↦ inr (
                rest.0,
                λ s q due lt. rest.1 s q ((running.due t s q).1 due) lt,
                λ s q. (
                  λ due. (let both = (rest.2 s q).0 due in ((running.due t s q).0 both.0, both.1)),
                  λ both. (rest.2 s q).1 ((running.due t s q).1 both.0, both.1),
                ),
              )
            ];
          }
            where
              go : (y : Result (ℕ × ℕ × V) Error) → given ≡ y → LosesRecords now (moved run v ends2 ended2 true) (disk b) (disk c)
              go (Err y) is = stop_loses g gives told now pages spelling accepted refusal location spelled opened b count now_here running.over answer v between c some says given gave result ends2 ended2 after e many sorted readable y is t
              go (Ok y) is = check_loses g gives told now pages spelling accepted refusal location spelled opened b count now_here running.over answer v between c some says given gave result ends2 ended2 after e many sorted readable y.0 y.1 y.2 is x bad t

          -- it is that of the walk, or of a check
          pub whose_error : (answer ≡ Some (Err x)) ⊎ HasFailed {T = V} (Err x) few many
          whose_error = go given refl
            where
              go : (y : Result (ℕ × ℕ × V) Error) → given ≡ y → (answer ≡ Some (Err x)) ⊎ HasFailed {T = V} (Err x) few many
              go (Err y) is = (let same = (sorted.passed y is).0 in inl (cc (gave, is, same, bad)))
              go (Ok y) is = elim (on_err result x bad sorted.cause) [
                | inl other ↦ (let err = other.1 in absurd (cc (is, err)))
                | inr failed ↦ inr (other_failed result x bad few many (failed_since result few some many (omega (arith, running.faults, says.faults)) failed))
              ]

          -- the walk's faults are those of the whole call
          pub same_faults : answer ≡ Some (Err x) → many ≡ some
          same_faults is = go given refl
            where
              go : (y : Result (ℕ × ℕ × V) Error) → given ≡ y → many ≡ some
              go (Err y) err = (sorted.passed y err).5
              go (Ok y) ok = absurd (cc (gave, is, ok))
