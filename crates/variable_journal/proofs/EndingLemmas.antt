-- A replay of frames ends a section, of which no whole frame is left from the place on.
use Rattle.std.specs.Prelude.{◌≡◌, ◌≢◌, ◌⊎◌, ℕ, ◌+◌, ◌*◌, ◌<◌, ◌≤◌, false, List, [], length, drop, Option, Some, None, Result, Ok, Err, IfSome, IsTrue, IsSome, IsSomeAnd}
use Rattle.std.proofs.Common.{inl, inr, refl, sym, ap, ◌∙◌, subst, arith}
use Rattle.std.proofs.Math.Nat.{mod-one}
use Rattle.std.proofs.lemmas.Bool.{cases_eq}
use Rattle.blob_device.specs.Disk.{Key, Disk}
use Rattle.blob_device.specs.Timeline.{disk}
use Rattle.blob_device.specs.declared.device.Device as device
use Rattle.blob_device.specs.declared.runtime.RError.TheVariants.{InvalidChecksum}
use Rattle.value_codec.specs.declared.codec.Error as codec
use Rattle.sealed_pages.specs.Buffer.{size_of, IsSealed}
use Rattle.sealed_pages.specs.Shown.{shown}
use Rattle.sealed_pages.specs.declared.page_blob.PageBlob.{PageBlob}
use Rattle.section_manager.specs.Refusing.{HasFailed}
use Rattle.section_manager.specs.Sections.{section_key, key_of, IsHeld}
use Rattle.section_manager.specs.Setting.{Setting}
use Rattle.section_manager.specs.declared.buffer.SectionBuffer as buffer
use Rattle.section_manager.specs.declared.journal.Damage.{Damage}
use Rattle.section_manager.specs.declared.journal.Error.{Error}
use Rattle.section_manager.specs.declared.journal.Error.TheVariants.{Codec, Corruption, ItemOutOfRange, Runtime}
use Rattle.segments.specs.FixedCursor.{kept_at, Ends, MayBeShortened, Shortens}
use Rattle.segments.specs.FixedLists.{bytes_held, section_bytes, section_size, size_held}
use Rattle.segments.specs.FixedReading.{HasNotRead}
use Rattle.segments.specs.FixedReplay as bytes
use Rattle.segments.specs.FixedReplay.{Walk, Place, IsAhead, IsGoneOver, IsIn, IsWalk, first_of, kept_bytes, kept_of}
use Rattle.segments.specs.FixedStepping.{bytes_ahead, sections_ahead, way_of, word}
use Rattle.sealed_pages.specs.lemmas.memory.Holding.{bytes_length}
use Rattle.segments.specs.lemmas.replay.Ending.{ahead_from}
use Rattle.segments.specs.lemmas.replay.Reading.{failed_since}
use Rattle.segments.specs.lemmas.replay.Shortening.{bytes_sealed}
use Rattle.variable_journal.specs.lemmas.Frame.{rest_none}
use Rattle.variable_journal.specs.lemmas.Offset.{whole_is}
use Rattle.variable_journal.specs.lemmas.Running.{cut_ends, ends_then, error_then, passed_then, whole_none}
use Rattle.variable_journal.specs.Frames.{rest_of, whole_end, HasBadLength}
use Rattle.variable_journal.specs.Reading.{IsPastLast}
use Rattle.variable_journal.specs.Replaying.{AreWalked, EndsSection, IsCuttingFrames, IsItemAt, given_bytes}
use Rattle.variable_journal.specs.Advancing.{GivesError, HasPassed, IsGoing}
use Rattle.variable_journal.specs.Turning.{HasSkipped, HasTurned, IsFurther, stopped}
use Rattle.variable_journal.proofs.EnteringLemmas.{first_other, first_start}
use Rattle.variable_journal.proofs.LookingLemmas.{and_at, at_some, disk_same, some_and}
use Rattle.variable_journal.proofs.OffsetLemmas.{boundary_within, last_boundary, none_on, rest_empty, unread_rest}
use Rattle.variable_journal.proofs.ShorteningLemmas.{framed_other, keeps_lost, passed_cut, walked_cut, whole_cut}
use Rattle.variable_journal.proofs.SteppingLemmas.{error_steps, framed_steps, given_same, keeps_stopped, passed_steps, start_steps, walk_left, walk_stopped, walked_steps, walked_stopped}
use Rattle.variable_journal.proofs.TurningLemmas.{ends_left, near_looked, passed_looked, walked_looked}
use Rattle.blob_device.proofs.general.Options.{none_in, none_or_value, some_of, some_there}

module _ {F S D V C : Type 0} {gs : _} (g : buffer.Ghosts (PageBlob S gs)) (gives : F → Setting) (seal : List ℕ → ℕ) (dev : device.Ghosts D)
    (spelling : V → List ℕ) (accepted : V → C → Type 0) (refusal : List ℕ → C → Option codec.Error) (config : C) where
  -- An error of its own behind the end of a section.
  pub error_passed : (w k : Walk F (PageBlob S gs)) (a c : D) (s : ℕ) → HasPassed g gives seal dev w k a c → way_of k < way_of w → k.place ≡ None → (IsAhead k s → ⊥) → IsAhead w s ⊎ IsIn w s → k.ended ≡ false
      → IsGoing g gives seal dev (stopped k) c → (x : Error)
      → (dev.Tells → (p : ℕ) → x ≡ ItemOutOfRange p → (p ≡ w.start_position) × (length (given_bytes seal w (disk (dev.time a)) w.start_section) < p) × (IsAhead w w.start_section ⊎ IsIn w w.start_section) × (s ≡ w.start_section))
      → (dev.Tells → (y : codec.Error) → x ≡ Codec y → ⊥) → ((n : ℕ) → x ≡ Runtime (InvalidChecksum n) → ⊥) → ((y : Damage) → x ≡ Corruption y → ⊥)
      → (x ≡ ItemOutOfRange w.start_position) ⊎ (((y : Damage) × (x ≡ Corruption y)) ⊎ HasNotRead {T = V} (Err x) (dev.faults a) (dev.faults c))
      → GivesError g gives seal dev spelling accepted refusal config w (stopped k) a c x
  error_passed w k a c s run nearer none not_ahead near going over x start no_codec no_page no_floor cause = record {
    keeps = keeps_stopped g gives seal dev w k a c run.gone.keeps;
    over = over;
    failed = refl;
    says = λ t. record {
      stops = inr (s, ends t, record { near = near; left = λ held still. elim still [ inl ahead ↦ not_ahead ahead | inr never ↦ absurd never ] });
      ends = λ is. absurd (cc (is, going));
      cut = cut_ends g gives seal dev w (stopped k) a c (keeps_stopped g gives seal dev w k a c run.gone.keeps) t;
      start = λ p is. (let has = start t p is in (has.0, has.1, has.2, subst (EndsSection seal w (stopped k) (disk (dev.time a)) (disk (dev.time c))) has.3 (ends t)));
      refused = λ y is. absurd (no_codec t y is);
      damaged = no_page;
      floor = no_floor;
    };
    nearer = (let same : way_of (stopped k) ≡ way_of k = ap (λ (o : Option Place). sections_ahead k.next_section * (word + 1) + bytes_ahead o) (sym none) in omega (arith, same, nearer));
    cause = cause;
  }
    where
      ends : dev.Tells → EndsSection seal w (stopped k) (disk (dev.time a)) (disk (dev.time c)) s
      ends t = ends_then g gives seal dev w k (stopped k) a c c run going t s (ends_left seal k s not_ahead (λ y is. absurd (none_in k.place (λ p. p.section ≡ y) none is)) (disk (dev.time c)))

  -- The replay stood at r, where no whole frame is left, and has passed over the rest of the section.
  module _ (w : Walk F (PageBlob S gs)) (r : Place) (at : w.place ≡ Some r) (a b : D) (was : IsGoing g gives seal dev w a) (going : w.ended ≡ false)
      (torn : dev.Tells → IsPastLast (drop r.position (given_bytes seal w (disk (dev.time a)) r.section)))
      (m : Walk F (PageBlob S gs)) (q : Place) (there : m.place ≡ Some q) (skip : HasSkipped g gives seal dev r w m a b (Ok tt)) where
    abbrev d : Disk
    d = disk (dev.time a)

    abbrev kept : List ℕ
    kept = given_bytes seal w d r.section

    first : IsFurther w m r q
    first = and_at m.place (IsFurther w m r) q there skip.looks.rest

    run : HasPassed g gives seal dev w m a b
    run = passed_looked g gives seal dev w r at a b was.bytes tt m q there skip.looks
        (λ t o i item le begun. absurd (none_on kept r.position (was.place t r at) (torn t) o i item le))

    near_m : (s : ℕ) → IsAhead w s ⊎ IsIn w s → IsAhead m s ⊎ IsIn m s
    near_m s near = near_looked g gives seal dev w r at a b was.bytes tt m q there skip.looks s near

    pub going_m : m.ended ≡ false
    going_m = run.gone.goes.ended ∙ going

    free_m : (s : ℕ) → m.journal.floor_of s ≡ 0
    free_m s = run.gone.keeps.same.floors s ∙ was.free s

    walked_m : dev.Tells → AreWalked seal m (disk (dev.time b))
    walked_m t = walked_looked g gives seal dev w r at a b was.bytes tt m q there skip.looks t (was.walked t)

    given_m : dev.Tells → (s : ℕ) → given_bytes seal m (disk (dev.time b)) s ≡ given_bytes seal w d s
    given_m t s = (λ i. given_bytes seal (first.goes i) (disk_same g gives seal dev a b (skip.looks.unchanged t) i) s)

    -- no byte is kept from the place on
    pub last_m : dev.Tells → IfSome m.place (λ y. length (kept_bytes seal 1 m (disk (dev.time b)) y.section) < (y.position + 1) * 1)
    last_m t = subst (λ (o : Option Place). IfSome o (λ y. length (kept_bytes seal 1 m (disk (dev.time b)) y.section) < (y.position + 1) * 1)) (sym there)
        (let end = and_at m.place (λ (p : Place). length (kept_at seal 1 w r d) ≤ p.position) q there (skip.end t) in
        let same : given_bytes seal m (disk (dev.time b)) q.section ≡ kept = given_m t q.section ∙ ap (given_bytes seal w d) first.section in
        omega (arith, end, ap length same))

    way_m : way_of m ≤ way_of w
    way_m =
        let before : way_of w ≡ sections_ahead w.next_section * (word + 1) + bytes_ahead (Some r) = ap (λ (o : Option Place). sections_ahead w.next_section * (word + 1) + bytes_ahead o) at in
        let after : way_of m ≡ sections_ahead w.next_section * (word + 1) + bytes_ahead (Some q) = ap way_of first.goes in
        omega (arith, before, after, first.size, first.at)

    whole_at : dev.Tells → r.position ≡ whole_end kept
    whole_at t = last_boundary kept r.position (was.place t r at) (torn t).none

    place_within : q.position ≤ section_size w.journal.sections r.section
    place_within =
        let u = at_some (m.journal.sections.held q.section) (bytes.StandsIn 1 m q) (skip.looks.over.walk.place q there) in
        let same : section_size w.journal.sections r.section ≡ size_of (shown u.0) = sym (λ i. size_held ((first.goes i).journal.sections.held (first.section i))) ∙ ap size_held u.1 in
        let within = u.2.within in
        omega (arith, within, same)

    not_ahead_w : IsAhead w r.section → ⊥
    not_ahead_w = (was.bytes.walk.come_to r at).1

    near_w : IsAhead w r.section ⊎ IsIn w r.section
    near_w = inr (some_and w.place (λ (p : Place). p.section ≡ r.section) r at refl)

    -- the end of the section of the bytes
    module _ {B : Type 0} (byte_spelling : B → List ℕ) (byte_accepted : B → Unit {0} → Type 0) (byte_refusal : List ℕ → Unit {0} → Option codec.Error) (k : Walk F (PageBlob S gs)) (c : D) where
      -- failed
      pub ended_failed : (x : Error) → ((l : List ℕ) → length l ≡ 1 → byte_refusal l tt ≡ None)
          → Ends seal 1 g gives byte_spelling byte_accepted byte_refusal dev.Tells (Err x) m k (dev.opened b) (dev.opened c) (dev.time b) (dev.time c) (dev.faults b) (dev.faults c) q
          → GivesError g gives seal dev spelling accepted refusal config w (stopped k) a c x
      ended_failed x one_byte did =
          error_then g gives seal dev w m (stopped k) a b c run going_m (λ t s near far. absurd (far (near_m s near))) spelling accepted refusal config way_m x
          (error_steps g gives seal dev byte_spelling byte_accepted byte_refusal m k b c (Err x) did.steps did.steps.broken.over did.left spelling accepted refusal config free_m going_m skip.looks.over.walk (λ s far. subst (λ (o : Option ℕ). IsSomeAnd o (λ n. n ≤ s)) did.next far) one_byte x refl did.steps.broken walked_m)

      module _ (did : Ends seal 1 g gives byte_spelling byte_accepted byte_refusal dev.Tells (Ok tt) m k (dev.opened b) (dev.opened c) (dev.time b) (dev.time c) (dev.faults b) (dev.faults c) q) where
        abbrev e : Disk
        e = disk (dev.time c)

        pub going_k : k.ended ≡ false
        going_k = did.steps.goes.ended ∙ going_m

        run_k : HasPassed g gives seal dev w k a c
        run_k = passed_then g gives seal dev w m k a b c run going_m (passed_steps g gives seal dev byte_spelling byte_accepted byte_refusal m k b c (Ok tt) did.steps did.steps.over.over refl going_k)

        way_k : way_of k < way_of w
        way_k = omega (arith, way_m, did.steps.nearer)

        not_ahead_k : IsAhead k r.section → ⊥
        not_ahead_k ahead = not_ahead_w (subst (λ (o : Option ℕ). IsSomeAnd o (λ n. n ≤ r.section)) (did.next ∙ ap (λ (y : Walk F (PageBlob S gs)). y.next_section) first.goes) ahead)

        ahead_k : (s : ℕ) → IsAhead w s → IsAhead k s
        ahead_k s ahead = subst (λ (o : Option ℕ). IsSomeAnd o (λ n. n ≤ s)) (sym (did.next ∙ ap (λ (y : Walk F (PageBlob S gs)). y.next_section) first.goes)) ahead

        -- no other section is gone over
        own_k : (s : ℕ) → IsAhead w s ⊎ IsIn w s → (IsAhead k s → ⊥) → s ≡ r.section
        own_k s near far = elim near [ inl ahead ↦ absurd (far (ahead_k s ahead)) | inr there ↦ sym (and_at w.place (λ (p : Place). p.section ≡ s) r at there) ]

        given_k : dev.Tells → (s : ℕ) → IsHeld k.journal.sections s → given_bytes seal k e s ≡ given_bytes seal w d s
        given_k t s held = given_same g gives seal dev byte_spelling byte_accepted byte_refusal m k b c (Ok tt) did.steps did.steps.over.over t going_k s held ∙ given_m t s

        -- what it has gone over, but for this section, are whole frames
        gone_other : dev.Tells → k.failed ≡ false → (s : ℕ) → s ≢ r.section → IsGoneOver k s → rest_of (given_bytes seal k e s) ≡ []
        gone_other t fine s other over = go (k.journal.sections.held s) refl
          where
            go : (o : Option (PageBlob S gs)) → k.journal.sections.held s ≡ o → rest_of (given_bytes seal k e s) ≡ []
            go None is = ap rest_of (ap (λ (h : Option (PageBlob S gs)). kept_of seal (k.journal.unrecovered s) h (e (key_of k.journal.sections s)).content) is) ∙ rest_none
            go (Some v) is = ap rest_of (given_k t s (some_there (k.journal.sections.held s) v is)) ∙ (was.walked t).gone_over (sym run.gone.goes.failed ∙ sym did.steps.goes.failed ∙ fine) s (record {
              begun = subst (λ (n : ℕ). n ≤ s) run_k.gone.keeps.same.section over.begun;
              not_ahead = λ ahead. over.not_ahead (ahead_k s ahead);
              not_in = λ in_w. other (sym (and_at w.place (λ (p : Place). p.section ≡ s) r at in_w));
            })

        -- nothing is left behind the frames
        pub ended_whole : q.position ≤ r.position → HasTurned g gives seal dev spelling accepted refusal config w k a c
        ended_whole whole = record {
          over = record {
            bytes = did.steps.over;
            free = λ s. did.steps.same.floors s ∙ free_m s;
            place = λ t p is. absurd (let none = did.left in cc (is, none));
            walked = λ t. walked_steps g gives seal dev byte_spelling byte_accepted byte_refusal m k b c (Ok tt) did.steps did.steps.over.over t (walked_m t) going_m (gone t);
          };
          passed = run_k;
          whole = λ t s near far. here t s (own_k s near (λ ahead. far (inl ahead)));
          nearer = way_k;
        }
          where
            here : dev.Tells → (s : ℕ) → s ≡ r.section → rest_of (given_bytes seal k e s) ≡ []
            here t s is = elim (none_or_value (k.journal.sections.held s)) [
              | inl none ↦ whole_none seal k e s none
              | inr has ↦ (let end = and_at m.place (λ (p : Place). length (kept_at seal 1 w r d) ≤ p.position) q there (skip.end t) in
                  ap rest_of (given_k t s (some_there (k.journal.sections.held s) has.0 has.1) ∙ ap (given_bytes seal w d) is) ∙ rest_empty kept (omega (arith, end, whole, whole_at t)))
            ]

            gone : (t : dev.Tells) → k.failed ≡ false → (s : ℕ) → IsGoneOver k s → rest_of (given_bytes seal k e s) ≡ []
            gone t fine s over = elim (cases_eq s r.section) [ inr other ↦ gone_other t fine s other over | inl is ↦ here t s is ]

        over_stopped : IsGoing g gives seal dev (stopped k) c
        over_stopped = record {
          bytes = walk_left g gives seal dev k (dev.opened c) e did.steps.over;
          free = λ s. did.steps.same.floors s ∙ free_m s;
          place = λ t p is. absurd (cc is);
          walked = λ t. walked_stopped g gives seal dev byte_spelling byte_accepted byte_refusal m k b c (Ok tt) did.steps did.steps.over.over t (walked_m t) going_m;
        }

        -- a section that owes no replay is whole frames where the disk is told
        pub ended_unowed : r.position < q.position → k.journal.unrecovered r.section ≡ false → (x : codec.Error) → GivesError g gives seal dev spelling accepted refusal config w (stopped k) a c (Codec x)
        ended_unowed long free x = error_passed w k a c r.section run_k way_k did.left not_ahead_k near_w going_k over_stopped (Codec x)
            (λ t p is. absurd (cc is)) (λ t y is. not_told t) (λ n is. absurd (cc is)) (λ y is. absurd (cc is)) (inr (inr (inr (inl (x, refl)))))
          where
            not_told : dev.Tells → ⊥
            not_told t =
                let u = held_w in
                let unowed : w.journal.unrecovered r.section ≡ false = sym (run_k.gone.keeps.same.unrecovered r.section) ∙ free in
                let all : section_bytes w.journal.sections d r.section ≡ kept = (λ i. bytes_held (u.1 i) (d (key_of w.journal.sections r.section)).content) ∙ sym (λ i. kept_of seal (unowed i) (u.1 i) (d (key_of w.journal.sections r.section)).content) in
                let rest : rest_of kept ≡ [] = ap rest_of (sym all) ∙ (was.walked t).framed r.section unowed in
                let size : length kept ≡ section_size w.journal.sections r.section = (λ i. length (kept_of seal (unowed i) (u.1 i) (d (key_of w.journal.sections r.section)).content)) ∙ bytes_length (shown u.0) (d (key_of w.journal.sections r.section)).content ∙ sym (ap size_held u.1) in
                omega (arith, whole_is kept, ap length rest, size, place_within, long, whole_at t)
              where
                held_w : (u : PageBlob S gs) × (w.journal.sections.held r.section ≡ Some u)
                held_w = some_of (w.journal.sections.held r.section) (held_at (w.journal.sections.held r.section) (was.bytes.walk.place r at))
                  where
                    held_at : (o : Option (PageBlob S gs)) → IsSomeAnd o (bytes.StandsIn 1 w r) → IsSome o
                    held_at None has = absurd has
                    held_at (Some u) has = refl

        -- the start stands behind the whole frames only where it stands behind all bytes
        pub ended_start : (first_offset : ℕ) → first_offset ≡ first_of k r.section → r.position < first_offset → GivesError g gives seal dev spelling accepted refusal config w (stopped k) a c (ItemOutOfRange first_offset)
        ended_start first_offset is less = error_passed w k a c r.section run_k way_k did.left not_ahead_k near_w going_k over_stopped (ItemOutOfRange first_offset)
            (λ t p same. (let p_is : first_offset ≡ p = cc same in (sym p_is ∙ at_start, subst (λ (n : ℕ). length (given_bytes seal w d w.start_section) < n) p_is (short t), subst (λ (s : ℕ). IsAhead w s ⊎ IsIn w s) here near_w, here)))
            (λ t y same. cc same) (λ n same. cc same) (λ y same. cc same) (inl (ap ItemOutOfRange at_start))
          where
            here : r.section ≡ w.start_section
            here = elim (cases_eq r.section k.start_section) [
              | inl same ↦ same ∙ run_k.gone.keeps.same.section
              | inr other ↦ absurd (omega (arith, less, is, first_other k r.section other))
            ]

            at_start : first_offset ≡ w.start_position
            at_start = is ∙ first_start k r.section (here ∙ sym run_k.gone.keeps.same.section) ∙ run_k.gone.keeps.same.position

            short : dev.Tells → length (given_bytes seal w d w.start_section) < first_offset
            short t =
                let held = subst (IsHeld w.journal.sections) here held_w in
                elim ((was.walked t).start going (subst (λ (s : ℕ). IsAhead w s ⊎ IsIn w s) here near_w) held) [
                  | inr behind ↦ omega (arith, behind, at_start)
                  | inl there_is ↦ absurd (
                      let low = boundary_within (given_bytes seal w d w.start_section) w.start_position there_is in
                      let same : whole_end (given_bytes seal w d w.start_section) ≡ whole_end kept = ap (λ (s : ℕ). whole_end (given_bytes seal w d s)) (sym here) in
                      omega (arith, low, same, whole_at t, less, at_start))
                ]
              where
                held_w : IsHeld w.journal.sections r.section
                held_w = held_at (w.journal.sections.held r.section) (was.bytes.walk.place r at)
                  where
                    held_at : (o : Option (PageBlob S gs)) → IsSomeAnd o (bytes.StandsIn 1 w r) → IsSome o
                    held_at None has = absurd has
                    held_at (Some u) has = refl

        -- the second cut
        module _ (owed : IsTrue (k.journal.unrecovered r.section)) (from : first_of k r.section ≤ r.position) where
          held_k : (u : PageBlob S gs) × (k.journal.sections.held r.section ≡ Some u)
          held_k = some_of (k.journal.sections.held r.section) ((run_k.gone.goes.held r.section).1 (held_at (w.journal.sections.held r.section) (was.bytes.walk.place r at)))
            where
              held_at : (o : Option (PageBlob S gs)) → IsSomeAnd o (bytes.StandsIn 1 w r) → IsSome o
              held_at None has = absurd has
              held_at (Some u) has = refl

          owed_m : IsTrue (m.journal.unrecovered q.section)
          owed_m = subst (λ (s : ℕ). IsTrue (m.journal.unrecovered s)) (sym first.section) (subst IsTrue (did.steps.same.unrecovered r.section) owed)

          at_q : (u : PageBlob S gs) → k.journal.sections.held r.section ≡ Some u → k.journal.sections.held q.section ≡ Some u
          at_q u held = subst (λ (s : ℕ). k.journal.sections.held s ≡ Some u) (sym first.section) held

          key_is : key_of m.journal.sections q.section ≡ key_of k.journal.sections r.section
          key_is = (λ i. key_of m.journal.sections (first.section i)) ∙ sym (ap (λ (p : List ℕ). section_key p r.section) did.steps.same.bounds.place.partition)

          within_k : r.position ≤ section_size k.journal.sections r.section
          within_k = omega (arith, ap size_held held_k.1, did.cut held_k.0 owed_m (at_q held_k.0 held_k.1), first.position)

          pub may_shorten : MayBeShortened seal 1 dev.Tells r.section r.position k e
          may_shorten = record {
            held = some_there (k.journal.sections.held r.section) held_k.0 held_k.1;
            owes = owed;
            between = did.left;
            not_ahead = not_ahead_k;
            sealed = λ t u held. subst (λ (y : Key). IsSealed seal (shown u) (e y)) key_is (did.sealed t u (inl owed_m) (at_q u held));
            whole = mod-one r.position;
            within = within_k;
            floor = (let none = did.steps.same.floors r.section ∙ free_m r.section in omega (arith, none));
            start = λ is. omega (arith, from, first_start k r.section is);
          }

          bytes_of_k : dev.Tells → section_bytes k.journal.sections e r.section ≡ given_bytes seal k e r.section
          bytes_of_k t =
              (λ i. bytes_held (held_k.1 i) (e (key_of k.journal.sections r.section)).content)
              ∙ sym (bytes_sealed seal 1 g gives k (dev.opened c) (dev.time c) did.steps.over r.section r.position may_shorten t held_k.0 held_k.1)
              ∙ sym (λ i. kept_of seal (owed i) (held_k.1 i) (e (key_of k.journal.sections r.section)).content)

          given_here : dev.Tells → given_bytes seal k e r.section ≡ kept
          given_here t = given_k t r.section (some_there (k.journal.sections.held r.section) held_k.0 held_k.1)

          short_here : dev.Tells → HasBadLength (rest_of kept) → ⊥
          short_here t = unread_rest kept r.position (was.place t r at) (torn t)

          free_w : (s : ℕ) → w.journal.floor_of s ≡ 0
          free_w = was.free

          module _ (n : Walk F (PageBlob S gs)) (z : D) where
            pub ended_cut : Shortens seal 1 g gives dev r.section r.position (Ok tt) k n c z → HasTurned g gives seal dev spelling accepted refusal config w n a z
            ended_cut cut = record {
              over = record {
                bytes = cut.over;
                free = λ s. cut.rest.floors s ∙ did.steps.same.floors s ∙ free_m s;
                place = λ t p is. absurd (let none = cut.rest.place ∙ did.left in cc (is, none));
                walked = λ t. walked_cut g gives seal dev w k n a c z r.section r.position run_k going_k did.steps.over did.left not_ahead_k near_w held_k.0 held_k.1 owed bytes_of_k given_here whole_at short_here within_k free_w (Ok tt) cut cut.over.over.opened_list refl t
                    (λ near held. start_steps g gives seal dev byte_spelling byte_accepted byte_refusal m k b c (Ok tt) did.steps did.steps.over.over t (walked_m t) going_m going_k near held)
                    (framed_steps g gives seal dev byte_spelling byte_accepted byte_refusal m k b c (Ok tt) did.steps did.steps.over.over t (walked_m t))
                    (λ fine s other over. gone_other t fine s other over);
              };
              passed = passed_cut g gives seal dev w k n a c z r.section r.position run_k going_k did.steps.over did.left not_ahead_k near_w held_k.0 held_k.1 owed bytes_of_k given_here whole_at short_here within_k free_w (Ok tt) cut cut.over.over.opened_list refl;
              whole = λ t s near far. subst (λ (y : ℕ). rest_of (given_bytes seal n (disk (dev.time z)) y) ≡ []) (sym (own_k s near (λ ahead. far (inl (subst (λ (o : Option ℕ). IsSomeAnd o (λ x. x ≤ s)) (sym cut.rest.next) ahead)))))
                  (whole_cut g gives seal dev w k n a c z r.section r.position run_k going_k did.steps.over did.left not_ahead_k near_w held_k.0 held_k.1 owed bytes_of_k given_here whole_at short_here within_k free_w (Ok tt) cut cut.over.over.opened_list refl t);
              nearer = (let same : way_of n ≡ way_of k = (λ i. sections_ahead (cut.rest.next i) * (word + 1) + bytes_ahead (cut.rest.place i)) in omega (arith, same, way_k));
            }

            -- it failed, and that ends the replay
            pub ended_lost : r.position < q.position → (x : Error) → Shortens seal 1 g gives dev r.section r.position (Err x) k n c z → GivesError g gives seal dev spelling accepted refusal config w (stopped n) a z x
            ended_lost long x cut = record {
              keeps = keeps_stopped g gives seal dev w n a z (keeps_lost g gives seal dev w k n a c z r.section r.position run_k going_k did.steps.over did.left not_ahead_k near_w held_k.0 held_k.1 owed bytes_of_k given_here whole_at short_here within_k free_w (Err x) cut cut.broken.over.opened_list x refl cut.ended);
              over = record {
                bytes = walk_stopped g gives seal dev n (dev.opened z) (disk (dev.time z)) cut.broken;
                free = λ s. cut.rest.floors s ∙ did.steps.same.floors s ∙ free_m s;
                place = λ t p is. absurd (cc is);
                walked = λ t. record {
                  start = λ going_n near held. absurd (let ended = cut.ended in cc (going_n, ended));
                  framed = framed_other g gives seal dev w k n a c z r.section r.position run_k going_k did.steps.over did.left not_ahead_k near_w held_k.0 held_k.1 owed bytes_of_k given_here whole_at short_here within_k free_w (Err x) cut cut.broken.over.opened_list t
                      (framed_steps g gives seal dev byte_spelling byte_accepted byte_refusal m k b c (Ok tt) did.steps did.steps.over.over t (walked_m t));
                  gone_over = λ never. absurd (cc never);
                };
              };
              failed = refl;
              says = λ t. record {
                stops = inl cut.ended;
                ends = λ is. (cutting t, failed_cut t);
                cut = λ s u held owes changed unsettled. cut.ended;
                start = λ p is. absurd (not_failed t (λ f. no_start f p is));
                refused = λ y is. absurd (not_failed t (λ f. no_codec f y is));
                damaged = λ y is. cut.damage t (y, ap Err is);
                floor = λ y is. absurd (not_failed t (λ f. no_floor f y is));
              };
              nearer = (let same : way_of (stopped n) ≡ way_of k = (λ i. sections_ahead (cut.rest.next i) * (word + 1) + bytes_ahead (sym did.left i)) in omega (arith, same, way_k));
              cause = elim cut.cause [
                | inl damage ↦ inr (inr (inl (damage.0, ap Err (inner damage.1))))
                | inr failed ↦ inr (inr (inr (inr (since failed))))
              ];
            }
              where
                inner : {p y : Error} → ◌≡◌ {A = Result (Unit {0}) Error} (Err p) (Err y) → p ≡ y
                inner same = cc same

                since : {X : Type 0} → HasFailed {T = Unit {0}} (Err x) (dev.faults c) (dev.faults z) → HasFailed {T = X} (Err x) (dev.faults a) (dev.faults z)
                since {X = X} has = elim (failed_since {T = Unit {0}} (Err x) (dev.faults a) (dev.faults c) (dev.faults z) run_k.gone.keeps.faults has) [ inl memory ↦ inl (ap Err (inner memory)) | inr fault ↦ inr (ap Err (inner fault.0), fault.1) ]

                failed_cut : dev.Tells → HasFailed {T = Unit {0}} (Err x) (dev.faults a) (dev.faults z)
                failed_cut t = elim cut.cause [ inl damage ↦ absurd (cut.damage t damage) | inr failed ↦ since failed ]

                not_failed : dev.Tells → (HasFailed {T = Unit {0}} (Err x) (dev.faults a) (dev.faults z) → ⊥) → ⊥
                not_failed t never = never (failed_cut t)

                no_start : HasFailed {T = Unit {0}} (Err x) (dev.faults a) (dev.faults z) → (p : ℕ) → x ≡ ItemOutOfRange p → ⊥
                no_start (inl memory) p is = cc (memory, is)
                no_start (inr fault) p is = (let f = fault.0 in cc (f, is))

                no_codec : HasFailed {T = Unit {0}} (Err x) (dev.faults a) (dev.faults z) → (y : codec.Error) → x ≡ Codec y → ⊥
                no_codec (inl memory) y is = cc (memory, is)
                no_codec (inr fault) y is = (let f = fault.0 in cc (f, is))

                no_floor : HasFailed {T = Unit {0}} (Err x) (dev.faults a) (dev.faults z) → (y : Damage) → x ≡ Corruption y → ⊥
                no_floor (inl memory) y is = cc (memory, is)
                no_floor (inr fault) y is = (let f = fault.0 in cc (f, is))

                cutting : dev.Tells → IsCuttingFrames seal w d
                cutting t = record {
                  section = r.section;
                  near = near_w;
                  owes = subst IsTrue (run_k.gone.keeps.same.unrecovered r.section) owed;
                  longer = omega (arith, whole_at t, long, place_within);
                  given = λ s o i l le. elim l.byte.ahead [
                    | inl here ↦ not_ahead_w (ahead_from w.next_section s r.section le here.1)
                    | inr inside ↦ (
                        let place = and_at w.place (λ (p : Place). (p.section ≡ s) × (p.position ≤ o)) r at inside in
                        none_on kept r.position (was.place t r at) (torn t) o i (subst (λ (y : ℕ). IsItemAt (given_bytes seal w d y) o i) (sym place.0) l.whole) place.1)
                  ];
                }
