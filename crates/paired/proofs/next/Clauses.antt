-- The clauses of `next` of a pair's replay, for each of its answers: none, a record, an error.
use Rattle.std.specs.Prelude.{◌≡◌, ◌⊎◌, ℕ, Bool, true, List, IsTrue, Option, None, Some, Result, Ok, Err}
use Rattle.std.proofs.Common.{inl, inr, refl, sym, ◌∙◌, ap, subst, arith}
use Rattle.blob_device.specs.Disk.{Key, Disk, MayLeave, reads}
use Rattle.blob_device.specs.Opened.{OpenedList, reads_of}
use Rattle.blob_device.specs.Timeline.{Timeline, disk}
use Rattle.blob_device.specs.declared.runtime.RError.TheVariants.{InvalidChecksum}
use Rattle.sealed_pages.specs.declared.page_blob.PageBlob.{PageBlob}
use Rattle.value_codec.specs.declared.codec.Error as codec
use Rattle.section_manager.specs.declared.buffer.SectionBuffer as buffer
use Rattle.section_manager.specs.declared.journal.Damage.{Damage}
use Rattle.section_manager.specs.declared.journal.Error.{Error}
use Rattle.section_manager.specs.declared.journal.Error.TheVariants.{ItemOutOfRange, Runtime, Codec, Corruption}
use Rattle.section_manager.specs.declared.unsealed.WriteFactory.{WriteFactory}
use Rattle.section_manager.specs.Refusing.{HasDamage, HasFailed}
use Rattle.section_manager.specs.Sections.{key_of}
use Rattle.section_manager.specs.Setting.{Setting}
use Rattle.segments.specs.FixedReading.{IsBelowFloor, HasNotRead}
use Rattle.segments.specs.FixedReplay.{Walk, FindsDamage}
use Rattle.paired.specs.lemmas.Glob.{buffers}
use Rattle.paired.specs.lemmas.next.Clauses.{Clauses}
use Rattle.paired.specs.lemmas.next.Going.{Running}
use Rattle.paired.specs.lemmas.next.Running.{moved}
use Rattle.paired.specs.lemmas.pair.Synced.{Here}
use Rattle.segments.specs.lemmas.adding.Write.{ArePages}
use Rattle.paired.specs.Replaying.{Limits, Run, pair_of, HasFailed as HasErred, GivesRecord, IsRun}
use Rattle.paired.proofs.next.Answers.{images_now}
use Rattle.paired.proofs.next.Complete.{only_failed}
use Rattle.paired.proofs.next.Glue.{same_moved}
use Rattle.paired.proofs.next.Going.{all_went, all_nearer, was_start, was_damage, was_damaged, was_refused, was_cut, was_ends, was_cause, was_none, last_run, last_reads, last_unread, last_entries, all_on, reads_then, unread_then, entries_then, faults_then, run_sorted, walk_failed, walk_ended, item_then, run_failed, loses_then, whose_error, same_faults, here_disk}
use Rattle.paired.proofs.next.Says.{Says}
use Rattle.paired.proofs.next.Turn.{Sorted}

-- a failure is no other error
no_start : {V : Type 0} (x : Error) (p few many : ℕ) → x ≡ ItemOutOfRange p → HasFailed {T = V} (Err x) few many → ⊥
no_start x p few many is (inl mem) = cc (is, mem)
no_start x p few many is (inr fault) = (let at = fault.0 in cc (is, at))

no_corruption : {V : Type 0} (x : Error) (y : Damage) (few many : ℕ) → x ≡ Corruption y → HasFailed {T = V} (Err x) few many → ⊥
no_corruption x y few many is (inl mem) = cc (is, mem)
no_corruption x y few many is (inr fault) = (let at = fault.0 in cc (is, at))

no_page : {V : Type 0} (x : Error) (k few many : ℕ) → x ≡ Runtime (InvalidChecksum k) → HasFailed {T = V} (Err x) few many → ⊥
no_page x k few many is (inl mem) = cc (is, mem)
no_page x k few many is (inr fault) = (let at = fault.0 in cc (is, at))

no_code : {V : Type 0} (x : Error) (y : codec.Error) (few many : ℕ) → x ≡ Codec y → HasFailed {T = V} (Err x) few many → ⊥
no_code x y few many is (inl mem) = cc (is, mem)
no_code x y few many is (inr fault) = (let at = fault.0 in cc (is, at))

-- an error that was given as another one
abbrev given_up : {V : Type 0} → Error → Option (Result (ℕ × ℕ × V) Error)
given_up x = Some (Err x)

err_same : {V : Type 0} (x y : Error) → given_up {V = V} x ≡ Some (Err y) → x ≡ y
err_same x y is = cc is

module _ {F S V : Type 0} {gs : _} (g : buffer.Ghosts (PageBlob S gs)) (gives : F → Setting) (takes : WriteFactory → Setting) (told : Type 0) (run : Run F (PageBlob S gs)) (pages : ArePages g run.layout.seal)
    (spelling : V → List ℕ) (accepted : V → Unit {0} → Type 0) (refusal : List ℕ → Unit {0} → Option codec.Error) (location : V → ℕ × ℕ) (spelled : (r : V) → accepted r tt → run.layout.place (spelling r) ≡ location r)
    (before : OpenedList) (a : Timeline) (few : ℕ) (here : Here gives (pair_of run))
    (w : Walk F (PageBlob S gs)) (ends : Limits) (ended : Option ℕ) (failed : Bool) (opened : OpenedList) (b : Timeline) (count : ℕ) (running : Running g gives takes told run before a few w ends ended failed opened b count)
    (answer : Option (Result (ℕ × ℕ × V) Error)) (v : Walk F (PageBlob S gs)) (between : OpenedList) (c : Timeline) (some : ℕ)
    (says : Says run.layout.seal run.layout.record_size g gives told spelling accepted refusal answer w v opened between b c count some)
    (was : IsRun run g gives buffers takes told before (disk a)) (readable_start : told → (q : Key) → MayLeave (disk a q) (reads (disk a q)))
    (there : told → (s : ℕ) (u : PageBlob S gs) → run.walk.journal.sections.held s ≡ Some u → IsTrue (disk a (key_of run.walk.journal.sections s)).there) where
  -- ---- nothing was given
  pub no_clauses : answer ≡ None → (told → (q : Key) → MayLeave (disk c q) (reads (disk c q))) → Clauses refusal told run (moved run v ends ended failed) a c {V = V} g gives takes spelling accepted None before between few some
  no_clauses none readable = record {
    over = last_run g gives takes told run pages spelling accepted refusal location spelled before a few here w ends ended failed opened b count running answer v between c some says none readable;
    same = same_moved run v ends ended failed (all_went g gives takes told run pages spelling accepted refusal location spelled before a few here w ends ended failed opened b count running answer v between c some says).same fails;
    item = λ t s p y is. absurd (cc is);
    going = λ s p y is. absurd (cc is);
    none = λ t is. was_none g gives takes told run pages spelling accepted refusal location spelled before a few here w ends ended failed opened b count running answer v between c some says t none;
    drained = λ is. says.drained none;
    whole = λ is fine bad. fine (back bad);
    failed = λ y is. absurd (cc is);
    stops = λ t y is. absurd (cc is);
    nearer = λ y is. absurd (cc is);
    ends = λ is. elim (was_ends g gives takes told run pages spelling accepted refusal location spelled before a few here w ends ended failed opened b count running answer v between c some says is) [ inl end ↦ inl end | inr bad ↦ (let at = bad.1 in absurd (cc (none, at))) ];
    ends_cut = was_cut g gives takes told run pages spelling accepted refusal location spelled before a few here w ends ended failed opened b count running answer v between c some says;
    images = images_now g gives takes told run pages refusal before a here was readable_start v between c (all_went g gives takes told run pages spelling accepted refusal location spelled before a few here w ends ended failed opened b count running answer v between c some says) says.over readable ends ended failed;
    reads = last_reads g gives takes told run pages spelling accepted refusal location spelled before a few here w ends ended failed opened b count running answer v between c some says none readable;
    unread = λ untracked s. omega (arith, ap reads_of (last_unread g gives takes told run pages spelling accepted refusal location spelled before a few here w ends ended failed opened b count running answer v between c some says none readable untracked s));
    entries = last_entries g gives takes told run pages spelling accepted refusal location spelled before a few here w ends ended failed opened b count running answer v between c some says none readable;
    start = λ t p is. absurd (cc is);
    damage = λ t y is. absurd (cc is);
    damaged = λ t k is. absurd (cc is);
    refused = λ t y is. absurd (cc is);
    complete = λ t tracked lawful spellings y is. absurd (cc is);
    faults = omega (arith, running.faults, says.faults);
    cause = λ y is. absurd (cc is);
  }
    where
      same_failed : v.failed ≡ run.walk.failed
      same_failed = says.whole none ∙ running.goes.failed

      fails : HasErred run → HasErred (moved run v ends ended failed)
      fails (inl is) = inl (running.same_failed ∙ is)
      fails (inr is) = inr (same_failed ∙ is)

      back : HasErred (moved run v ends ended failed) → HasErred run
      back (inl is) = inl (sym running.same_failed ∙ is)
      back (inr is) = inr (sym same_failed ∙ is)

  module _ (given : Result (ℕ × ℕ × V) Error) (gave : answer ≡ Some given) (result : Result (Option (ℕ × ℕ × V)) Error) (ends2 : Limits) (ended2 : Option ℕ) (after : OpenedList) (e : Timeline) (many : ℕ)
      (sorted : Sorted takes told (moved run v ends ended failed) location given result ends2 ended2 between after c e some many) (readable : told → (q : Key) → MayLeave (disk c q) (reads (disk c q))) where
    readable_last : told → (q : Key) → MayLeave (disk e q) (reads (disk e q))
    readable_last t q = subst (λ (d : Disk). MayLeave (d q) (reads (d q))) (sym (here_disk g gives takes told run pages spelling accepted refusal location spelled before a few here w ends ended failed opened b count running answer v between c some says given gave result ends2 ended2 after e many sorted readable t)) (readable t q)

    -- ---- a record was given, and is kept
    pub some_clauses : (y : ℕ × ℕ × V) → result ≡ Ok (Some y) → Clauses refusal told run (moved run v ends2 ended2 failed) a e g gives takes spelling accepted (Some (Ok y)) before after few many
    some_clauses y ok = record {
      over = run_sorted g gives takes told run pages spelling accepted refusal location spelled before a few here w ends ended failed opened b count running answer v between c some says given gave result ends2 ended2 after e many sorted readable (Some y) ok;
      same = same_moved run v ends2 ended2 failed (all_on g gives takes told run pages spelling accepted refusal location spelled before a few here w ends ended failed opened b count running answer v between c some says given gave result ends2 ended2 after e many sorted readable).same fails;
      item = λ t s p z is.
          let same : y ≡ (s, p, z) = cc is in
          subst (λ (k : ℕ × ℕ × V). GivesRecord spelling accepted run (moved run v ends2 ended2 failed) (disk a) (disk e) k.0 k.1 k.2) same (item_then g gives takes told run pages spelling accepted refusal location spelled before a few here w ends ended failed opened b count running answer v between c some says given gave result ends2 ended2 after e many sorted readable y ok t);
      going = λ s p z is fine bad. fine (back bad);
      none = λ t is. absurd (cc is);
      drained = λ is. absurd (cc is);
      whole = λ is. absurd (cc is);
      failed = λ z is. absurd (cc is);
      stops = λ t z is. absurd (cc is);
      nearer = λ z is. all_nearer g gives takes told run pages spelling accepted refusal location spelled before a few here w ends ended failed opened b count running answer v between c some says given gave;
      ends = λ is. inl (sym (walk_ended g gives takes told run pages spelling accepted refusal location spelled before a few here w ends ended failed opened b count running answer v between c some says given gave result ends2 ended2 after e many sorted readable (Some y) ok) ∙ is);
      ends_cut = was_cut g gives takes told run pages spelling accepted refusal location spelled before a few here w ends ended failed opened b count running answer v between c some says;
      images = images_now g gives takes told run pages refusal before a here was readable_start v after e (all_on g gives takes told run pages spelling accepted refusal location spelled before a few here w ends ended failed opened b count running answer v between c some says given gave result ends2 ended2 after e many sorted readable) (run_sorted g gives takes told run pages spelling accepted refusal location spelled before a few here w ends ended failed opened b count running answer v between c some says given gave result ends2 ended2 after e many sorted readable (Some y) ok).index readable_last ends2 ended2 failed;
      reads = reads_then g gives takes told run pages spelling accepted refusal location spelled before a few here w ends ended failed opened b count running answer v between c some says given gave result ends2 ended2 after e many sorted readable failed;
      unread = λ untracked s. omega (arith, ap reads_of (unread_then g gives takes told run pages spelling accepted refusal location spelled before a few here w ends ended failed opened b count running answer v between c some says given gave result ends2 ended2 after e many sorted readable untracked s));
      entries = entries_then g gives takes told run pages spelling accepted refusal location spelled before a few here w ends ended failed opened b count running answer v between c some says given gave result ends2 ended2 after e many sorted readable;
      start = λ t p is. absurd (cc is);
      damage = λ t z is. absurd (cc is);
      damaged = λ t k is. absurd (cc is);
      refused = λ t z is. absurd (cc is);
      complete = λ t tracked lawful spellings z is. absurd (cc is);
      faults = faults_then g gives takes told run pages spelling accepted refusal location spelled before a few here w ends ended failed opened b count running answer v between c some says given gave result ends2 ended2 after e many sorted readable;
      cause = λ z is. absurd (cc is);
    }
      where
        fails : HasErred run → HasErred (moved run v ends2 ended2 failed)
        fails (inl is) = inl (running.same_failed ∙ is)
        fails (inr is) = inr (walk_failed g gives takes told run pages spelling accepted refusal location spelled before a few here w ends ended failed opened b count running answer v between c some says given gave result ends2 ended2 after e many sorted readable (Some y) ok ∙ is)

        back : HasErred (moved run v ends2 ended2 failed) → HasErred run
        back (inl is) = inl (sym running.same_failed ∙ is)
        back (inr is) = inr (sym (walk_failed g gives takes told run pages spelling accepted refusal location spelled before a few here w ends ended failed opened b count running answer v between c some says given gave result ends2 ended2 after e many sorted readable (Some y) ok) ∙ is)

    -- ---- an error
    module _ (x : Error) (bad : result ≡ Err x) where
      failed_later : (answer ≡ Some (Err x)) → HasFailed {T = V} (Err x) few some → HasFailed {T = V} (Err x) few many
      failed_later is has = subst (HasFailed {T = V} (Err x) few) (sym (same_faults g gives takes told run pages spelling accepted refusal location spelled before a few here w ends ended failed opened b count running answer v between c some says given gave result ends2 ended2 after e many sorted readable x bad is)) has

      not_read_later : (answer ≡ Some (Err x)) → HasNotRead {T = V} (Err x) few some → HasNotRead {T = V} (Err x) few many
      not_read_later is has = subst (HasNotRead {T = V} (Err x) few) (sym (same_faults g gives takes told run pages spelling accepted refusal location spelled before a few here w ends ended failed opened b count running answer v between c some says given gave result ends2 ended2 after e many sorted readable x bad is)) has

      -- the walk's answer, where the error is none of a check
      from_walk : {P : Type 0} → (HasFailed {T = V} (Err x) few many → ⊥) → (answer ≡ Some (Err x) → P) → P
      from_walk never has = elim (whose_error g gives takes told run pages spelling accepted refusal location spelled before a few here w ends ended failed opened b count running answer v between c some says given gave result ends2 ended2 after e many sorted readable x bad) [ inl walk ↦ has walk | inr check ↦ absurd (never check) ]

      walk_ends : v.ended ≡ true → (run.walk.ended ≡ true) ⊎ ((y : Error) × (given_up {V = V} x ≡ Some (Err y)) × ((HasDamage {T = V} (Err y) × (told → ⊥)) ⊎ HasFailed {T = V} (Err y) few many))
      walk_ends is = elim (was_ends g gives takes told run pages spelling accepted refusal location spelled before a few here w ends ended failed opened b count running answer v between c some says is) [
        | inl end ↦ inl end
        | inr why ↦
            let passed = (sorted.passed why.0 (given_err why.0 why.1)).0 in
            let same : x ≡ why.0 = cc (bad, passed) in
            inr (
              x,
              refl,
              subst (λ (z : Error). (HasDamage {T = V} (Err z) × (told → ⊥)) ⊎ HasFailed {T = V} (Err z) few many) (sym same) (elim why.2 [
                | inl page ↦ inl page
                | inr failed_so ↦ inr (subst (HasFailed {T = V} (Err why.0) few) (sym (sorted.passed why.0 (given_err why.0 why.1)).5) failed_so)
              ]),
            )
      ]
        where
          given_err : (y : Error) → answer ≡ Some (Err y) → given ≡ Err y
          given_err y at = cc (gave, at)

      pub err_clauses : Clauses refusal told run (moved run v ends2 ended2 true) a e {V = V} g gives takes spelling accepted (Some (Err x)) before after few many
      err_clauses = record {
        over = run_failed g gives takes told run pages spelling accepted refusal location spelled before a few here w ends ended failed opened b count running answer v between c some says given gave result ends2 ended2 after e many sorted readable x bad;
        same = same_moved run v ends2 ended2 true (all_on g gives takes told run pages spelling accepted refusal location spelled before a few here w ends ended failed opened b count running answer v between c some says given gave result ends2 ended2 after e many sorted readable).same (λ is. inl refl);
        item = λ t s p z is. absurd (cc is);
        going = λ s p z is. absurd (cc is);
        none = λ t is. absurd (cc is);
        drained = λ is. absurd (cc is);
        whole = λ is. absurd (cc is);
        failed = λ z is. inl refl;
        stops = λ t z is. loses_then g gives takes told run pages spelling accepted refusal location spelled before a few here w ends ended failed opened b count running answer v between c some says given gave result ends2 ended2 after e many sorted readable x bad t;
        nearer = λ z is. all_nearer g gives takes told run pages spelling accepted refusal location spelled before a few here w ends ended failed opened b count running answer v between c some says given gave;
        ends = walk_ends;
        ends_cut = was_cut g gives takes told run pages spelling accepted refusal location spelled before a few here w ends ended failed opened b count running answer v between c some says;
        images = images_now g gives takes told run pages refusal before a here was readable_start v after e (all_on g gives takes told run pages spelling accepted refusal location spelled before a few here w ends ended failed opened b count running answer v between c some says given gave result ends2 ended2 after e many sorted readable) (run_failed g gives takes told run pages spelling accepted refusal location spelled before a few here w ends ended failed opened b count running answer v between c some says given gave result ends2 ended2 after e many sorted readable x bad).index readable_last ends2 ended2 true;
        reads = reads_then g gives takes told run pages spelling accepted refusal location spelled before a few here w ends ended failed opened b count running answer v between c some says given gave result ends2 ended2 after e many sorted readable true;
        unread = λ untracked s. omega (arith, ap reads_of (unread_then g gives takes told run pages spelling accepted refusal location spelled before a few here w ends ended failed opened b count running answer v between c some says given gave result ends2 ended2 after e many sorted readable untracked s));
        entries = entries_then g gives takes told run pages spelling accepted refusal location spelled before a few here w ends ended failed opened b count running answer v between c some says given gave result ends2 ended2 after e many sorted readable;
        start = λ t p is. (let same = err_same {V = V} x (ItemOutOfRange p) is in from_walk (no_start x p few many same) (λ walk. was_start g gives takes told run pages spelling accepted refusal location spelled before a few here w ends ended failed opened b count running answer v between c some says t p (cc (walk, same))));
        damage = λ t y is. (let same = err_same {V = V} x (Corruption y) is in from_walk (no_corruption x y few many same) (λ walk. was_damage g gives takes told run pages spelling accepted refusal location spelled before a few here w ends ended failed opened b count running answer v between c some says t y (cc (walk, same))));
        damaged = λ t k is. (let same = err_same {V = V} x (Runtime (InvalidChecksum k)) is in from_walk (no_page x k few many same) (λ walk.
            subst (λ (d : Disk). FindsDamage run.layout.seal run.layout.record_size run.walk v d k) (sym (here_disk g gives takes told run pages spelling accepted refusal location spelled before a few here w ends ended failed opened b count running answer v between c some says given gave result ends2 ended2 after e many sorted readable t)) (was_damaged g gives takes told run pages spelling accepted refusal location spelled before a few here w ends ended failed opened b count running answer v between c some says t k (cc (walk, same)))));
        refused = λ t y is. (let same = err_same {V = V} x (Codec y) is in from_walk (no_code x y few many same) (λ walk. was_refused g gives takes told run pages spelling accepted refusal location spelled before a few here w ends ended failed opened b count running answer v between c some says t y (cc (walk, same))));
        complete = λ t tracked lawful spellings y is.
            let same = err_same {V = V} x y is in
            subst (λ (z : Error). HasFailed {T = V} (Err z) few many) same (elim (whose_error g gives takes told run pages spelling accepted refusal location spelled before a few here w ends ended failed opened b count running answer v between c some says given gave result ends2 ended2 after e many sorted readable x bad) [
              | inr check ↦ check
              | inl walk ↦ failed_later walk (only_failed g gives told run pages refusal before a c here was tracked v between (all_went g gives takes told run pages spelling accepted refusal location spelled before a few here w ends ended failed opened b count running answer v between c some says) says.over t (there t) lawful answer few some spellings x walk
                  (was_start g gives takes told run pages spelling accepted refusal location spelled before a few here w ends ended failed opened b count running answer v between c some says t) (was_damage g gives takes told run pages spelling accepted refusal location spelled before a few here w ends ended failed opened b count running answer v between c some says t) (was_damaged g gives takes told run pages spelling accepted refusal location spelled before a few here w ends ended failed opened b count running answer v between c some says t) (was_refused g gives takes told run pages spelling accepted refusal location spelled before a few here w ends ended failed opened b count running answer v between c some says t) (was_cause g gives takes told run pages spelling accepted refusal location spelled before a few here w ends ended failed opened b count running answer v between c some says x walk))
            ]);
        faults = faults_then g gives takes told run pages spelling accepted refusal location spelled before a few here w ends ended failed opened b count running answer v between c some says given gave result ends2 ended2 after e many sorted readable;
        cause = λ y is.
            let same = err_same {V = V} x y is in
            subst (λ (z : Error). (z ≡ ItemOutOfRange run.walk.start_position) ⊎ (IsBelowFloor {T = V} (Err z) ⊎ HasNotRead {T = V} (Err z) few many)) same (elim (whose_error g gives takes told run pages spelling accepted refusal location spelled before a few here w ends ended failed opened b count running answer v between c some says given gave result ends2 ended2 after e many sorted readable x bad) [
              | inr check ↦ inr (inr (inr (inr check)))
              | inl walk ↦ elim (was_cause g gives takes told run pages spelling accepted refusal location spelled before a few here w ends ended failed opened b count running answer v between c some says x walk) [
                | inl start ↦ inl start
                | inr (inl below) ↦ inr (inl below)
                | inr (inr not) ↦ inr (inr (not_read_later walk not))
              ]
            ]);
      }
