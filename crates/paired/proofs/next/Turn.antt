-- One turn of a replay of a pair: the walk gives a record, which is sorted. What the replay is then, what is due, and how often values were read.
use Rattle.std.specs.Prelude.{◌≡◌, ◌≢◌, ◌⊎◌, ◌↔◌, ℕ, zero, suc, ◌+◌, ◌-◌, ◌/◌, ◌^◌, ◌<◌, ◌≤◌, ⊤, Bool, true, false, List, [], length, take, min, get_or, IsTrue, Option, None, Some, IsSome, Result, Ok, Err, IfOk, OnOk, OnErr}
use Rattle.std.proofs.Common.{inl, inr, refl, sym, ◌∙◌, ap, subst, arith}
use Rattle.std.specs.Int.{w64, to_be_bytes, from_be_bytes}
use Rattle.std.proofs.lemmas.Nat.{be_bytes_8}
use Rattle.std.proofs.lemmas.Bool.{cases_lt, cases_eq, cases_Bool}
use Rattle.blob_device.specs.Disk.{Key, Blob, Disk, MayLeave, reads}
use Rattle.blob_device.specs.Opened.{OpenedList, reads_of}
use Rattle.blob_device.specs.Timeline.{Timeline, disk}
use Rattle.blob_device.specs.lemmas.Moments.{always_now}
use Rattle.sealed_pages.specs.declared.page_blob.PageBlob.{PageBlob}
use Rattle.sealed_pages.specs.Entries.{ReadsAtMost}
use Rattle.sealed_pages.specs.Reading.{Unchanged}
use Rattle.value_codec.specs.declared.codec.Error as codec
use Rattle.section_manager.specs.declared.buffer.SectionBuffer as buffer
use Rattle.section_manager.specs.declared.journal.Error.{Error}
use Rattle.section_manager.specs.declared.unsealed.WriteFactory.{WriteFactory}
use Rattle.section_manager.specs.Refusing.{HasFailed}
use Rattle.section_manager.specs.Sections.{section_key, key_of, IsHeld}
use Rattle.section_manager.specs.Setting.{Setting}
use Rattle.section_manager.specs.lemmas.Keys.{key_injective}
use Rattle.segments.specs.FixedReplay.{Walk, IsLeft, IsWalk, Gives, Stops, kept_of, kept_bytes}
use Rattle.paired.specs.lemmas.Glob.{buffers}
use Rattle.paired.specs.lemmas.next.Running.{moved}
use Rattle.paired.specs.lemmas.next.Went.{Went, walk_kept, went_still}
use Rattle.paired.specs.lemmas.pair.Synced.{Here}
use Rattle.segments.specs.lemmas.adding.Write.{ArePages}
use Rattle.meta_store.specs.Blobs.{blob_of}
use Rattle.meta_store.specs.declared.error.Side.{Side}
use Rattle.paired.specs.Crashes.{IsIndexOf, IsValuesOf}
use Rattle.paired.specs.glob.Sections.{IsGlob}
use Rattle.paired.specs.glob.Sections as glob
use Rattle.paired.specs.Places.{last_end}
use Rattle.paired.specs.Records.{records, is_sound}
use Rattle.paired.specs.Replaying.{Limits, Run, pair_of, HasFailed as HasErred, marker, records_over, is_sound_over, IsUnbroken, IsGood, IsDue, IsChecked, IsRun, GivesRecord, LosesRecords, LeftAtMost, Sorts}
use Rattle.paired.proofs.next.Images.{others_end}
use Rattle.paired.proofs.next.Running.{records_held, run_after}
use Rattle.paired.proofs.next.Says.{Says, went_of, failed_later, known_later}
use Rattle.paired.proofs.next.Went.{none_as}
use Rattle.paired.proofs.pair.Moments.{no_index}
use Rattle.paired.proofs.pair.Sections.{glob_kept}
use Rattle.paired.specs.lemmas.Records.{length-records}
use Rattle.paired.proofs.ReplayLemmas.{Turns, given_stay, due_after, due_skipped, due_after_stop, due_after_check, end_sorted, end_stopped, end_checked}
use Rattle.blob_device.proofs.general.Options.{none_in, none_or_value, some_there}

-- What sorting the record that was given says, of the replay m before it; `ends` and `ended` are those behind it.
module _ {F S V : Type 0} {gs : _} (takes : WriteFactory → Setting) (told : Type 0) (m : Run F (PageBlob S gs)) (location : V → ℕ × ℕ) where
  pub record Sorted (given : Result (ℕ × ℕ × V) Error) (result : Result (Option (ℕ × ℕ × V)) Error) (ends : Limits) (ended : Option ℕ) (opened after : OpenedList) (c e : Timeline) (few many : ℕ) : Type 0 where
    pub passed : (x : Error) → given ≡ Err x → (result ≡ Err x) × (ends ≡ m.ends) × (ended ≡ m.ended_section) × (after ≡ opened) × (e ≡ c) × (many ≡ few)
    pub kept : (s p : ℕ) (v : V) → given ≡ Ok (s, p, v) → IfOk result (λ r. (r ≡ Some (s, p, v)) ⊎ ((r ≡ None) × (m.tracked ≡ true)))
    pub sorts : told → (s p : ℕ) (v : V) → given ≡ Ok (s, p, v) → IfOk result (λ r. Sorts m (record m { ends = ends; ended_section = ended }) (disk c) s p (location v) (IsSome r))
    pub ends_from : (s p : ℕ) → ends.at s ≡ Some p → (m.ends.at s ≡ Some p) ⊎ ((s < 2 ^ 64) × (marker m s ≤ p))
    pub live : m.tracked ≡ false → (ends ≡ m.ends) × (ended ≡ m.ended_section)
    pub goes_on : OnOk result (ended ≡ m.ended_section)
    pub breaks : (s p : ℕ) (v : V) → given ≡ Ok (s, p, v) → OnErr result ((ended ≡ Some s) × (m.ended_section ≢ Some s) × (m.tracked ≡ true))
    pub stays : OnErr result ((s : ℕ) → ends.at s ≡ m.ends.at s)
    pub glob : IsGlob buffers takes told m.values after (disk e)
    pub unchanged : told → Unchanged c e
    pub read : (s p : ℕ) (v : V) → given ≡ Ok (s, p, v) → ReadsAtMost 1 (key_of m.values s) opened after
    pub idle : (s p : ℕ) (v : V) → given ≡ Ok (s, p, v) → ((m.tracked ≡ false) ⊎ (p < marker m s)) → after ≡ opened
    pub faults : few ≤ many
    pub cause : OnErr result (((x : Error) × (given ≡ Err x)) ⊎ HasFailed result few many)

-- what holds where a call succeeded, and where it failed
pub on_ok : {T E P : Type 0} (r : Result T E) (x : T) → r ≡ Ok x → OnOk r P → P
on_ok (Ok y) x is has = has
on_ok (Err y) x is has = absurd (cc is)

pub if_ok : {T E : Type 0} (P : T → Type 0) (r : Result T E) (x : T) → r ≡ Ok x → IfOk r P → P x
if_ok {T = T} {E = E} P r x is has = subst (λ (y : Result T E). IfOk y P) is has

pub on_err : {T E P : Type 0} (r : Result T E) (x : E) → r ≡ Err x → OnErr r P → P
on_err (Ok y) x is has = absurd (cc is)
on_err (Err y) x is has = has

-- the eight bytes of a number are those of one that a u64 counts
byte_small : (s i : ℕ) → get_or (to_be_bytes w64 s) i 0 < 256
byte_small s zero = omega arith
byte_small s (suc zero) = omega arith
byte_small s (suc (suc zero)) = omega arith
byte_small s (suc (suc (suc zero))) = omega arith
byte_small s (suc (suc (suc (suc zero)))) = omega arith
byte_small s (suc (suc (suc (suc (suc zero))))) = omega arith
byte_small s (suc (suc (suc (suc (suc (suc zero)))))) = omega arith
byte_small s (suc (suc (suc (suc (suc (suc (suc zero))))))) = omega arith
byte_small s (suc (suc (suc (suc (suc (suc (suc (suc i)))))))) = omega arith

pub some_number : (s : ℕ) → (n : ℕ) × (n < 2 ^ 64) × (to_be_bytes w64 n ≡ to_be_bytes w64 s)
some_number s = (from_be_bytes w64 (to_be_bytes w64 s), omega arith, be_bytes_8 (to_be_bytes w64 s) (from_be_bytes w64 (to_be_bytes w64 s)) refl (byte_small s) refl)

-- what is left of a section is of one that is held
pub left_held : {F S : Type 0} {gs : _} (seal : List ℕ → ℕ) (size : ℕ) (w : Walk F (PageBlob S gs)) (d : Disk) (s p : ℕ) → 1 ≤ size → IsLeft seal size w d s p → IsHeld w.journal.sections s
left_held {S = S} {gs = gs} seal size w d s p pos left = elim (none_or_value (w.journal.sections.held s)) [
  | inr z ↦ some_there (w.journal.sections.held s) z.0 z.1
  | inl none ↦
      let bare : length (kept_bytes seal size w d s) ≡ 0 = ap (λ (o : Option (PageBlob S gs)). length (kept_of seal (w.journal.unrecovered s) o (d (key_of w.journal.sections s)).content)) none in
      absurd (omega (arith, left.whole, pos, ap (λ (n : ℕ). n / size) bare))
]

module _ {F S V : Type 0} {gs : _} (g : buffer.Ghosts (PageBlob S gs)) (gives : F → Setting) {takes : WriteFactory → Setting} (told : Type 0) (run : Run F (PageBlob S gs)) (pages : ArePages g run.layout.seal)
    (spelling : V → List ℕ) (accepted : V → Unit {0} → Type 0) (refusal : List ℕ → Unit {0} → Option codec.Error) (location : V → ℕ × ℕ) (spelled : (r : V) → accepted r tt → run.layout.place (spelling r) ≡ location r)
    (opened : OpenedList) (b : Timeline) (few : ℕ) (here : Here gives (pair_of run)) (was : IsRun run g gives buffers takes told opened (disk b))
    (answer : Option (Result (ℕ × ℕ × V) Error)) (w : Walk F (PageBlob S gs)) (between : OpenedList) (c : Timeline) (some : ℕ)
    (says : Says run.layout.seal run.layout.record_size g gives told spelling accepted refusal answer run.walk w opened between b c few some) where
  pub went : Went run.layout.seal run.layout.record_size g told run.walk w b c
  went = went_of run.layout.seal run.layout.record_size g gives told spelling accepted refusal answer run.walk w opened between b c few some says

  -- the walk starts no read of a value, and touches no copy of the markers
  pub entries_other : (q : Key) → (IsIndexOf run.layout (λ _. ⊤) q → ⊥) → between q ≡ opened q
  entries_other q not = says.entries q (λ k. not (k.0, was.index.over.opened_list.number k.0 (inl k.1.0), tt, k.2 ∙ ap (λ (p : List ℕ). section_key p k.0) here.index))

  pub values_entry : (s : ℕ) → between (section_key run.layout.values s) ≡ opened (section_key run.layout.values s)
  values_entry s = entries_other (section_key run.layout.values s) (no_index run.layout was.apart.values was.apart.metadata was.apart.both (λ _. ⊤) s)

  values_key : (s : ℕ) → key_of run.values s ≡ section_key run.layout.values s
  values_key s = ap (λ (p : List ℕ). section_key p s) here.values

  values_blob : told → (s : ℕ) → disk c (key_of run.values s) ≡ disk b (key_of run.values s)
  values_blob t s = others_end g gives told run pages opened b c here was w went t (key_of run.values s)
      (λ is. no_index run.layout was.apart.values was.apart.metadata was.apart.both (λ _. ⊤) s (subst (IsIndexOf run.layout (λ _. ⊤)) (values_key s) is))

  -- the values behind the walk, of which it changed nothing
  pub values_over : IsGlob buffers takes told run.values between (disk c)
  values_over = glob_kept run.values opened between (disk b) (disk c) (λ s. subst (λ (k : Key). between k ≡ opened k) (sym (values_key s)) (values_entry s)) values_blob was.values

  value_bytes : told → (s : ℕ) → glob.section_bytes run.values (disk c) s ≡ glob.section_bytes run.values (disk b) s
  value_bytes t s = ap (λ (x : Blob). glob.bytes_held (run.values.held s) x.content) (values_blob t s)

  pub turns : told → (ends : Limits) (ended : Option ℕ) (failed : Bool) → Turns run (moved run w ends ended failed) w (disk b) (disk c)
  turns t ends ended failed = record {
    seal = refl;
    size = refl;
    place = refl;
    walk = refl;
    values = refl;
    store = refl;
    tracked = refl;
    bytes = value_bytes t;
  }

  -- ---- the records
  module _ (t : told) (readable : (q : Key) → MayLeave (disk c q) (reads (disk c q))) where
    pub held_records : (s : ℕ) → IsHeld w.journal.sections s → records run.layout.record_size (kept_bytes run.layout.seal run.layout.record_size w (disk c) s) ≡ records_over run (disk b) s
    held_records s held = records_held g gives told run pages opened b here was w between c went says.over t readable s held

    pub all_records : ((s : ℕ) → IsHeld w.journal.sections s ↔ IsHeld run.walk.journal.sections s) → (s : ℕ) → records run.layout.record_size (kept_bytes run.layout.seal run.layout.record_size w (disk c) s) ≡ records_over run (disk b) s
    all_records same s = elim (none_or_value (w.journal.sections.held s)) [
      | inr z ↦ held_records s (some_there (w.journal.sections.held s) z.0 z.1)
      | inl none ↦ ap (records run.layout.record_size) (bare w (disk c) none ∙ sym (bare run.walk (disk b) (none_as (w.journal.sections.held s) (run.walk.journal.sections.held s) none (same s).1)))
    ]
      where
        bare : (x : Walk F (PageBlob S gs)) (d : Disk) → x.journal.sections.held s ≡ None → kept_bytes run.layout.seal run.layout.record_size x d s ≡ []
        bare x d none = ap (λ (o : Option (PageBlob S gs)). kept_of run.layout.seal (x.journal.unrecovered s) o (d (key_of x.journal.sections s)).content) none

  -- ---- nothing was given
  module _ (none : answer ≡ None) (readable : told → (q : Key) → MayLeave (disk c q) (reads (disk c q))) where
    abbrev last : Run F (PageBlob S gs)
    last = moved run w run.ends run.ended_section run.failed

    pub none_left : (s p : ℕ) → IsLeft run.layout.seal run.layout.record_size w (disk c) s p → ⊥
    none_left s p left = elim (says.drained none) [
      | inl drained ↦ elim left.ahead [
        | inl ahead ↦ drained.last s ahead.0 ahead.1
        | inr there ↦ none_in w.place (λ r. (r.section ≡ s) × (r.position ≤ p)) drained.between there
      ]
      | inr ended ↦ cc (ended, left.goes_on)
    ]

    good_now : told → (s p : ℕ) → IsGood run (disk b) s p → IsGood last (disk c) s p
    good_now t s p (inl below) = inl below
    good_now t s p (inr sound) = inr (subst (λ (rs : List (List ℕ)). IsTrue (is_sound_over last (disk c) s (get_or rs p []))) (sym (all_records t (readable t) (says.held (inl none)) s))
        (subst (λ (bs : List ℕ). IsTrue (is_sound run.layout.seal bs (run.layout.place (get_or (records_over run (disk b) s) p [])))) (sym (value_bytes t s)) sound))

    none_fails : HasErred last → HasErred run
    none_fails (inl failed) = inl failed
    none_fails (inr failed) = inr (sym (says.whole none) ∙ failed)

    none_failed : HasErred run → HasErred last
    none_failed (inl failed) = inl failed
    none_failed (inr failed) = inr (says.whole none ∙ failed)

    unbroken_before : (s : ℕ) → IsUnbroken last (disk c) s → IsUnbroken run (disk b) s
    unbroken_before s (inl fine) = inl (λ failed. fine (none_failed failed))
    unbroken_before s (inr left) = absurd (none_left s left.1.0 left.1.1)

    none_checked : told → run.tracked ≡ true → IsChecked last (disk c)
    none_checked t tracked = let old = (was.opening tracked).checked t in record {
      good = λ s p unbroken within no_end.
          let same = all_records t (readable t) (says.held (inl none)) s in
          elim (old.good s p (unbroken_before s unbroken) (subst (λ (rs : List (List ℕ)). p < length rs) same within) no_end) [
            | inl good ↦ inl (good_now t s p good)
            | inr left ↦ absurd (says.none t none s p left)
          ];
      ends = λ s p unbroken is.
          let same = all_records t (readable t) (says.held (inl none)) s in
          let end = old.ends s p (unbroken_before s unbroken) is in record {
            within = subst (λ (rs : List (List ℕ)). p < length rs) (sym same) end.within;
            from = end.from;
            fails = subst (λ (rs : List (List ℕ)). is_sound_over last (disk c) s (get_or rs p []) ≡ false) (sym same)
                (subst (λ (bs : List ℕ). is_sound run.layout.seal bs (run.layout.place (get_or (records_over run (disk b) s) p [])) ≡ false) (sym (value_bytes t s)) end.fails);
            good = λ q lt. good_now t s q (end.good q lt);
          };
      values = λ fine s n given.
          let same = given_stay run last w (disk b) (disk c) (turns t run.ends run.ended_section run.failed) s (all_records t (readable t) (says.held (inl none)) s) in
          old.values (λ failed. fine (none_failed failed)) s n (record {
            within = omega (arith, given.within, ap length same);
            past = λ q lt left. says.none t none s q left;
            left = λ q le lt. absurd (none_left s q (given.left q le (omega (arith, lt, ap length same))));
          })
          ∙ ap (λ (rs : List (List ℕ)). min (last_end run.layout.place (take n rs)) (2 ^ 64 - 1)) (sym same);
      behind = λ s p q is left. absurd (none_left s q left);
      broken = λ s is. none_failed (old.broken s is);
      passed = λ s x p is left. absurd (none_left x p left);
    }

    pub run_ended : IsRun last g gives buffers takes told between (disk c)
    run_ended = run_after g gives told run pages opened b here was w between c went says.over run.ends run.ended_section run.failed earlier known
        (λ tracked. (was.opening tracked).ends_from) (λ untracked. (λ ok s. says.known (inl none) s, λ s. refl, refl)) readable none_checked values_over
        (λ side. entries_other (blob_of run.store.partition side) (λ is. was.apart.metadata (ap (λ (k : Key). k.0) (sym is.3) ∙ here.store)))
      where
        earlier : w.failed ≡ false → run.walk.failed ≡ false
        earlier ok = sym (says.whole none) ∙ ok

        known : w.failed ≡ false → (s : ℕ) → w.journal.sections.unopened s ≡ None
        known ok s = says.known (inl none) s ∙ elim (cases_Bool run.tracked) [
          | inl tracked ↦ (was.opening tracked).index_known (earlier ok) s
          | inr untracked ↦ (was.live untracked).known (earlier ok) s
        ]

    pub none_reads : (s n : ℕ) → LeftAtMost run (disk b) s n → (m : ℕ) × LeftAtMost last (disk c) s m × (reads_of (between (section_key run.layout.values s)) + m ≤ reads_of (opened (section_key run.layout.values s)) + n)
    none_reads s n most = (n, λ q left from. absurd (none_left s q left), omega (arith, ap reads_of (values_entry s)))

  -- ---- behind the sorting of what was given
  module _ (given : Result (ℕ × ℕ × V) Error) (gave : answer ≡ Some given) (result : Result (Option (ℕ × ℕ × V)) Error) (ends : Limits) (ended : Option ℕ) (after : OpenedList) (e : Timeline) (many : ℕ)
      (sorted : Sorted takes told (moved run w run.ends run.ended_section run.failed) location given result ends ended between after c e some many) (readable : told → (q : Key) → MayLeave (disk c q) (reads (disk c q))) where
    pub same_disk : told → disk e ≡ disk c
    same_disk t = always_now c e (λ d. d ≡ disk c) (sorted.unchanged t)

    pub went_on : Went run.layout.seal run.layout.record_size g told run.walk w b e
    went_on = went_still run.layout.seal run.layout.record_size g told run.walk w b c e sorted.unchanged went

    -- the entries of other blobs than those of values
    pub other_entry : (q : Key) → ((s : ℕ) → q ≢ key_of run.values s) → after q ≡ between q
    other_entry q not = go given refl
      where
        go : (r : Result (ℕ × ℕ × V) Error) → given ≡ r → after q ≡ between q
        go (Err x) is = ap (λ (o : OpenedList). o q) (sorted.passed x is).3
        go (Ok x) is = (sorted.read x.0 x.1 x.2 is).others q (not x.0)

    index_apart : (s t : ℕ) → key_of w.journal.sections s ≢ key_of run.values t
    index_apart s t is = was.apart.values (ap (λ (k : Key). k.0) (sym (ap (λ (p : List ℕ). section_key p s) (went.same.bounds.place.partition ∙ here.index)) ∙ is ∙ values_key t))

    copy_apart : (side : Side) (t : ℕ) → blob_of run.store.partition side ≢ key_of run.values t
    copy_apart side t is = was.apart.both (ap (λ (k : Key). k.0) (sym (values_key t) ∙ sym is) ∙ here.store)

    pub walk_over : IsWalk g gives run.layout.seal run.layout.record_size told w after (disk e)
    walk_over = walk_kept run.layout.seal run.layout.record_size g told gives w between after (disk c) (disk e) (λ s small. other_entry (key_of w.journal.sections s) (λ t. index_apart s t)) same_disk says.over

    copy_entry : (side : Side) → after (blob_of run.store.partition side) ≡ opened (blob_of run.store.partition side)
    copy_entry side = other_entry (blob_of run.store.partition side) (λ t. copy_apart side t)
        ∙ entries_other (blob_of run.store.partition side) (λ is. was.apart.metadata (ap (λ (k : Key). k.0) (sym is.3) ∙ here.store))

    readable_end : told → (q : Key) → MayLeave (disk e q) (reads (disk e q))
    readable_end t q = subst (λ (d : Disk). MayLeave (d q) (reads (d q))) (sym (same_disk t)) (readable t q)

    from_marker : run.tracked ≡ true → (s p : ℕ) → ends.at s ≡ Some p → (s < 2 ^ 64) × (marker run s ≤ p)
    from_marker tracked s p is = elim (sorted.ends_from s p is) [ inl old ↦ (was.opening tracked).ends_from s p old | inr new ↦ new ]

    -- the replay may be used, where its ends were checked
    pub run_turned : (failed : Bool) → (told → run.tracked ≡ true → IsChecked (moved run w ends ended failed) (disk c)) → IsRun (moved run w ends ended failed) g gives buffers takes told after (disk e)
    run_turned failed checked = run_after g gives told run pages opened b here was w after e went_on walk_over ends ended failed
        (λ ok. failed_later run.layout.seal run.layout.record_size g gives told spelling accepted refusal answer run.walk w opened between b c few some says ok)
        known from_marker
        (λ untracked. (
          λ ok s. known_later run.layout.seal run.layout.record_size g gives told spelling accepted refusal answer run.walk w opened between b c few some says ok s,
          λ s. ap (λ (f : Limits). f.at s) (sorted.live untracked).0,
          (sorted.live untracked).1,
        ))
        readable_end (λ t tracked. subst (IsChecked (moved run w ends ended failed)) (sym (same_disk t)) (checked t tracked)) sorted.glob copy_entry
      where
        known : w.failed ≡ false → (s : ℕ) → w.journal.sections.unopened s ≡ None
        known ok s = known_later run.layout.seal run.layout.record_size g gives told spelling accepted refusal answer run.walk w opened between b c few some says ok s ∙ before_known (failed_later run.layout.seal run.layout.record_size g gives told spelling accepted refusal answer run.walk w opened between b c few some says ok)
          where
            before_known : run.walk.failed ≡ false → run.walk.journal.sections.unopened s ≡ None
            before_known before = elim (cases_Bool run.tracked) [
              | inl tracked ↦ (was.opening tracked).index_known before s
              | inr untracked ↦ (was.live untracked).known before s
            ]

    -- ---- an error of the walk is passed on
    module _ (x : Error) (is : given ≡ Err x) where
      walk_stops : told → Stops run.layout.seal run.layout.record_size run.walk w (disk b) (disk c)
      walk_stops t = says.stops t x (gave ∙ ap (λ (r : Result (ℕ × ℕ × V) Error). let some : Result (ℕ × ℕ × V) Error → Option (Result (ℕ × ℕ × V) Error) = λ z. Some z in some r) is)

      pub stop_left : told → (s q : ℕ) → IsLeft run.layout.seal run.layout.record_size w (disk c) s q → IsLeft run.layout.seal run.layout.record_size run.walk (disk b) s q
      stop_left t s q left = elim (walk_stops t).rest [
        | inl end ↦ absurd (cc (end, left.goes_on))
        | inr rest ↦ ((rest.1.rest s q).0 left).0
      ]

      pub stop_loses : told → LosesRecords run (moved run w ends ended true) (disk b) (disk c)
      stop_loses t = due_after_stop run (moved run w ends ended true) w (disk b) (disk c) (turns t ends ended true) (walk_stops t) (held_records t (readable t)) (sorted.passed x is).2

      pub stop_checked : told → run.tracked ≡ true → IsChecked (moved run w ends ended true) (disk c)
      stop_checked t tracked = end_stopped run (moved run w ends ended true) w (disk b) (disk c) (turns t ends ended true) (walk_stops t) (held_records t (readable t)) (sorted.passed x is).2
          ((was.opening tracked).checked t) (λ s. ap (λ (f : Limits). f.at s) (sorted.passed x is).1) (inl refl)

    -- ---- a record was given
    module _ (s p : ℕ) (v : V) (is : given ≡ Ok (s, p, v)) where
      here_answer : answer ≡ Some (Ok (s, p, v))
      here_answer = gave ∙ ap (λ (r : Result (ℕ × ℕ × V) Error). let some : Result (ℕ × ℕ × V) Error → Option (Result (ℕ × ℕ × V) Error) = λ z. Some z in some r) is

      pub fine : (answer ≡ None) ⊎ ((y : ℕ × ℕ × V) × (answer ≡ Some (Ok y)))
      fine = inr ((s, p, v), here_answer)

      gives_item : told → Gives run.layout.seal run.layout.record_size spelling accepted run.walk w (disk b) (disk c) s p v
      gives_item t = says.item t s p v here_answer

      pub item_left : told → (t q : ℕ) → IsLeft run.layout.seal run.layout.record_size w (disk c) t q → IsLeft run.layout.seal run.layout.record_size run.walk (disk b) t q
      item_left x t q left = (((gives_item x).rest t q).0 left).0

      pub item_records : told → (t : ℕ) → records run.layout.record_size (kept_bytes run.layout.seal run.layout.record_size w (disk c) t) ≡ records_over run (disk b) t
      item_records x = all_records x (readable x) (says.held fine)

      fails_on : (failed : Bool) → failed ≡ run.failed → HasErred run → HasErred (moved run w ends ended failed)
      fails_on failed same (inl is_failed) = inl (same ∙ is_failed)
      fails_on failed same (inr walk_failed) = inr (says.going s p v here_answer ∙ walk_failed)

      -- it is sorted
      module _ (r : Option (ℕ × ℕ × V)) (ok : result ≡ Ok r) where
        sorts : told → Sorts run (moved run w ends ended run.failed) (disk c) s p (location v) (IsSome r)
        sorts x =
            let says_so = if_ok (λ (y : Option (ℕ × ℕ × V)). Sorts (moved run w run.ends run.ended_section run.failed) (moved run w ends ended run.failed) (disk c) s p (location v) (IsSome y)) result r ok (sorted.sorts x s p v is) in
            record { kept = says_so.kept; goes_on = says_so.goes_on; ends = says_so.ends; ended = says_so.ended; others = says_so.others; value = says_so.value; other_values = says_so.other_values }

        same_end : ended ≡ run.ended_section
        same_end = on_ok result r ok sorted.goes_on

        some_or_none : (y : Option (ℕ × ℕ × V)) → IsSome y ⊎ (IsSome y → ⊥)
        some_or_none None = inr (λ none. cc none)
        some_or_none (Some z) = inl refl

        pub sorted_checked : told → run.tracked ≡ true → IsChecked (moved run w ends ended run.failed) (disk c)
        sorted_checked x tracked = end_sorted run (moved run w ends ended run.failed) w (disk b) (disk c) (turns x ends ended run.failed) spelling accepted s p v (gives_item x) (item_records x) location spelled (sorts x) same_end
            (some_or_none r) tracked ((was.opening tracked).checked x) (fails_on run.failed refl)

        pub record_given : IsSome r → told → GivesRecord spelling accepted run (moved run w ends ended run.failed) (disk b) (disk c) s p v
        record_given kept x = due_after run (moved run w ends ended run.failed) w (disk b) (disk c) (turns x ends ended run.failed) spelling accepted s p v (gives_item x) (item_records x) location spelled (sorts x) same_end
            kept (λ tracked. (was.opening tracked).checked x) (λ untracked. (was.live untracked).goes_on)

        pub record_skipped : (IsSome r → ⊥) → run.tracked ≡ true → told → (t q : ℕ) → IsDue (moved run w ends ended run.failed) (disk c) t q ↔ IsDue run (disk b) t q
        record_skipped skipped tracked x = due_skipped run (moved run w ends ended run.failed) w (disk b) (disk c) (turns x ends ended run.failed) spelling accepted s p v (gives_item x) (item_records x) location spelled (sorts x) same_end
            skipped tracked ((was.opening tracked).checked x)

      -- its check failed by an error
      module _ (x : Error) (failed : result ≡ Err x) where
        says_ended : (ended ≡ Some s) × (run.ended_section ≢ Some s) × (run.tracked ≡ true)
        says_ended = on_err result x failed (sorted.breaks s p v is)

        pub check_loses : told → LosesRecords run (moved run w ends ended true) (disk b) (disk c)
        check_loses y = due_after_check run (moved run w ends ended true) w (disk b) (disk c) (turns y ends ended true) spelling accepted s p v (gives_item y) (item_records y)
            ((was.opening says_ended.2).checked y) says_ended.1 says_ended.0

        pub check_checked : told → run.tracked ≡ true → IsChecked (moved run w ends ended true) (disk c)
        check_checked y tracked = end_checked run (moved run w ends ended true) w (disk b) (disk c) (turns y ends ended true) spelling accepted s p v (gives_item y) (item_records y)
            ((was.opening says_ended.2).checked y) says_ended.1 says_ended.0 (on_err result x failed sorted.stays) refl

    -- ---- how often values were read
    abbrev ReadsOn : Bool → ℕ → ℕ → Type 0
    ReadsOn failed s n = (m : ℕ) × LeftAtMost (moved run w ends ended failed) (disk e) s m × (reads_of (after (section_key run.layout.values s)) + m ≤ reads_of (opened (section_key run.layout.values s)) + n)

    -- where no more is left than was
    still_most : (failed : Bool) (s n : ℕ) → (t : told) → ((x q : ℕ) → IsLeft run.layout.seal run.layout.record_size w (disk c) x q → IsLeft run.layout.seal run.layout.record_size run.walk (disk b) x q)
        → LeftAtMost run (disk b) s n → LeftAtMost (moved run w ends ended failed) (disk e) s n
    still_most failed s n t before most = subst (λ (d : Disk). LeftAtMost (moved run w ends ended failed) d s n) (sym (same_disk t)) at
      where
        at : LeftAtMost (moved run w ends ended failed) (disk c) s n
        at q left from = (let held = left_held run.layout.seal run.layout.record_size w (disk c) s q here.some left in
            subst (λ (rs : List (List ℕ)). length rs ≤ q + n) (sym (held_records t (readable t) s held)) (most q (before s q left) from))

    pub reads_stopped : (x : Error) → given ≡ Err x → (failed : Bool) → told → (s n : ℕ) → LeftAtMost run (disk b) s n → ReadsOn failed s n
    reads_stopped x is failed t s n most = (
      n,
      still_most failed s n t (stop_left x is t) most,
      omega (arith, ap reads_of (ap (λ (o : OpenedList). o (section_key run.layout.values s)) (sorted.passed x is).3 ∙ values_entry s)),
    )

    module _ (s p : ℕ) (v : V) (is : given ≡ Ok (s, p, v)) (failed : Bool) (t : told) where
      gives_here : Gives run.layout.seal run.layout.record_size spelling accepted run.walk w (disk b) (disk c) s p v
      gives_here = gives_item s p v is t

      small_here : s < 2 ^ 64
      small_here = was.index.over.opened_list.number s (inl (left_held run.layout.seal run.layout.record_size run.walk (disk b) s p here.some gives_here.left))

      unread : (x n : ℕ) → after (section_key run.layout.values x) ≡ between (section_key run.layout.values x) → LeftAtMost run (disk b) x n → ReadsOn failed x n
      unread x n same most = (n, still_most failed x n t (item_left s p v is t) most, omega (arith, ap reads_of (same ∙ values_entry x)))

      -- the record itself is left no more
      one_less : (n : ℕ) → marker run s ≤ p → LeftAtMost run (disk b) s n → (m : ℕ) × (n ≡ m + 1) × LeftAtMost (moved run w ends ended failed) (disk c) s m
      one_less n from most =
          let all = most p gives_here.left from in
          let within : p < length (records_over run (disk b) s) = omega (arith, gives_here.left.whole, length-records run.layout.record_size (kept_bytes run.layout.seal run.layout.record_size run.walk (disk b) s)) in (
            n - 1,
            omega (arith, all, within),
            λ q left above.
                let behind = ((gives_here.rest s q).0 left).1 in
                subst (λ (rs : List (List ℕ)). length rs ≤ q + (n - 1)) (sym (item_records s p v is t s)) (elim behind [
                  | inl lt ↦ absurd (omega (arith, lt))
                  | inr later ↦ omega (arith, all, within, later.1)
                ]),
          )

      pub reads_sorted : (x n : ℕ) → x < 2 ^ 64 → LeftAtMost run (disk b) x n → ReadsOn failed x n
      reads_sorted x n small most = elim (cases_eq x s) [
        | inr other ↦ unread x n ((sorted.read s p v is).others (section_key run.layout.values x) (λ same. other (key_injective run.layout.values x s small small_here (same ∙ values_key s)))) most
        | inl same ↦ elim (cases_lt p (marker run s)) [
          | inl below ↦ unread x n (ap (λ (o : OpenedList). o (section_key run.layout.values x)) (sorted.idle s p v is (inr below))) most
          | inr from ↦ (let less = one_less n from (subst (λ (k : ℕ). LeftAtMost run (disk b) k n) same most) in (
            less.0,
            subst (λ (d : Disk). LeftAtMost (moved run w ends ended failed) d x less.0) (sym (same_disk t)) (subst (λ (k : ℕ). LeftAtMost (moved run w ends ended failed) (disk c) k less.0) (sym same) less.2),
            omega (arith, less.1, ap reads_of (values_entry x), subst (λ (k : Key). reads_of (after k) ≤ reads_of (between k) + 1) (values_key s ∙ ap (section_key run.layout.values) (sym same)) (sorted.read s p v is).reads),
          ))
        ]
      ]

    -- over an open pair none is read
    live_entries : run.tracked ≡ false → after ≡ between
    live_entries untracked = go given refl
      where
        go : (r : Result (ℕ × ℕ × V) Error) → given ≡ r → after ≡ between
        go (Err x) is = (sorted.passed x is).3
        go (Ok y) is = sorted.idle y.0 y.1 y.2 is (inl untracked)

    pub live_unread : run.tracked ≡ false → (s : ℕ) → after (section_key run.layout.values s) ≡ opened (section_key run.layout.values s)
    live_unread untracked s = ap (λ (o : OpenedList). o (section_key run.layout.values s)) (live_entries untracked) ∙ values_entry s

    -- no other entry changed
    pub entries_on : (q : Key) → (IsIndexOf run.layout (λ _. ⊤) q ⊎ IsValuesOf run.layout (λ _. ⊤) q → ⊥) → after q ≡ opened q
    entries_on q not = other_entry q (λ s same. (let n = some_number s in not (inr (n.0, n.1, tt, same ∙ values_key s ∙ ap (λ (bs : List ℕ). let key : List ℕ → Key = λ x. (run.layout.values, x) in key bs) (sym n.2))))) ∙ entries_other q (λ is. not (inl is))
