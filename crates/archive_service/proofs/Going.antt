-- How a run over the commands begins, goes on by a command, and ends, from a lawful image on. Nothing here looks into what a store is.
use Rattle.std.proofs.Common.{◌≡◌, ◌≢◌, inl, inr, refl, sym, ◌∙◌, ap, subst, ℕ, zero, suc, ◌+◌, ◌*◌, ◌<◌, ◌≤◌, List, [], ◌∷◌, ◌++◌, length, get_or, slice_get, Option, Some, None, arith, length-append}
use Rattle.std.proofs.lemmas.Bool.{cases_lt}
use Rattle.std.proofs.lemmas.Option.{slice_get_within}
use Rattle.blob_device.specs.Counts.{Rose}
use Rattle.blob_device.specs.Disk.{Disk}
use Rattle.blob_device.specs.Timeline.{Timeline, disk, Always, Stretches}
use Rattle.sealed_pages.specs.Reading.{Unchanged}
use Rattle.paired.specs.Opening.{as_read}
use Rattle.archives.specs.Changes.{Asked, Replied}
use Rattle.archives.specs.Commands.{Reopen}
use Rattle.archives.specs.Refusing.{IsFault}
use Rattle.archives.specs.declared.error.Error.{Error}
use Rattle.archives.specs.declared.error.Error.TheVariants.{Mem}
use Rattle.archive_service.specs.Kinds.{Kind}
use Rattle.archive_service.specs.Serves.{IsRun, Serves, StaysBut, begin, disk_at, state_in, under_way}
use Rattle.archive_service.specs.declared.replies.End.TheVariants.{Done, Failed}
use Rattle.archive_service.proofs.MarkLemmas.{extended, extended_new, extended_old, get_last, get_left, mark_last, mark_upto, none_some, or_past, same_some, stretches_push, stretches_within, within}

-- ---- a run while each command that was begun has its reply

-- what a loop over the commands keeps
pub record Running (k : Kind) (old now : Timeline) (commands : List Asked) (marks : List ℕ) (replies : List Replied) (states : ℕ → k.State) : Type 0 where
  pub start : k.IsStart (as_read (disk old)) (states 0)
  pub run : IsRun k (λ i. disk_at old now marks (i + 1)) commands replies states
  pub counted : length marks ≡ length replies
  pub moments : Stretches old now (old.calls ∷ marks) (λ i. k.Leaves (state_in states i) (under_way commands i))
  pub rest : k.Leaves (states (length replies)) None (disk now)

-- the store is opened, and no command was begun
pub running_start : (k : Kind) (old now : Timeline) (commands : List Asked) (st : k.State)
    → k.IsStart (as_read (disk old)) st → Always old now (k.Leaves st None) → k.Leaves st None (disk now) → Running k old now commands [] [] (λ i. st)
running_start k old now commands st start always rest = record {
  start = start;
  run = record {
    enough = omega arith;
    steps = λ i c r is_c is_r. absurd (none_some None r refl is_r);
    reopened = λ i lt is_c. absurd (omega arith);
    allowed = λ i c lt is_c. absurd (omega arith);
  };
  counted = refl;
  moments = record {
    later = always.later;
    kept = always.kept;
    first = refl;
    ascend = ascend;
    each = each;
  };
  rest = rest;
}
  where
    ascend : (i : ℕ) → get_or (old.calls ∷ []) i now.calls ≤ get_or (old.calls ∷ []) (i + 1) now.calls
    ascend zero = always.later
    ascend (suc i) = omega (arith, or_past (old.calls ∷ []) (suc i) now.calls (omega arith), or_past (old.calls ∷ []) (suc i + 1) now.calls (omega arith))

    each : (i : ℕ) → i < 1 → (m : ℕ) → 2 * get_or (old.calls ∷ []) i now.calls ≤ m → m ≤ 2 * get_or (old.calls ∷ []) (i + 1) now.calls
        → k.Leaves (state_in (λ j. st) i) (under_way commands i) (now.at m)
    each zero lt m lo hi = always.each m lo hi
    each (suc i) lt m lo hi = absurd (omega arith)

-- ---- one command more

module _ (k : Kind) (commands : List Asked) (replies : List Replied) (states : ℕ → k.State) (command : Asked) (reply : Replied) (new : k.State) (before after : ℕ → Disk)
    (run : IsRun k before commands replies states) (is : slice_get commands (length replies) ≡ Some command)
    (step : k.Step (states (length replies)) command reply new) (cut : command ≡ Reopen → k.IsStart (as_read (after (length replies))) new)
    (may : k.MustRefuse (states (length replies)) (after (length replies)) command → ⊥) (same : (i : ℕ) → i < length replies → after i ≡ before i) where
  abbrev more : ℕ → k.State
  more = extended states (length replies) new

  -- the last of them is this one
  last_is : (i : ℕ) → i < length (replies ++ reply ∷ []) → length replies ≤ i → i ≡ length replies
  last_is i lt ge = omega (arith, lt, ge, length-append replies (reply ∷ []))

  this_is : (i : ℕ) (c : Asked) → i ≡ length replies → slice_get commands i ≡ Some c → command ≡ c
  this_is i c e is_c = same_some (slice_get commands i) command c (ap (slice_get commands) e ∙ is) is_c

  steps : (i : ℕ) (c : Asked) (r : Replied) → slice_get commands i ≡ Some c → slice_get (replies ++ reply ∷ []) i ≡ Some r → k.Step (more i) c r (more (i + 1))
  steps i c r is_c is_r = elim (cases_lt i (length replies)) as (λ _. k.Step (more i) c r (more (i + 1))) [
    | inl lt ↦ subst (λ (st : k.State). k.Step (more i) c r st) (sym (extended_old states (length replies) new (i + 1) (omega arith)))
        (subst (λ (st : k.State). k.Step st c r (states (i + 1))) (sym (extended_old states (length replies) new i (omega arith)))
        (run.steps i c r is_c (sym (get_left replies (reply ∷ []) i lt) ∙ is_r)))
    | inr ge ↦ let last = slice_get_within (replies ++ reply ∷ []) i r is_r in
        let e : i ≡ length replies = last_is i last ge in
        let same_r : reply ≡ r = same_some (slice_get (replies ++ reply ∷ []) i) reply r (ap (slice_get (replies ++ reply ∷ [])) e ∙ get_last replies reply) is_r in
        subst (λ (st : k.State). k.Step (more i) c r st) (sym (extended_new states (length replies) new (i + 1) (omega arith)))
        (subst (λ (st : k.State). k.Step st c r new) (sym (extended_old states (length replies) new i (omega arith)))
        (subst (λ (j : ℕ). k.Step (states j) c r new) (sym e)
        (subst (λ (q : Replied). k.Step (states (length replies)) c q new) same_r
        (subst (λ (q : Asked). k.Step (states (length replies)) q reply new) (this_is i c e is_c) step))))
  ]

  reopened : (i : ℕ) → i < length (replies ++ reply ∷ []) → slice_get commands i ≡ Some Reopen → k.IsStart (as_read (after i)) (more (i + 1))
  reopened i lt is_c = elim (cases_lt i (length replies)) as (λ _. k.IsStart (as_read (after i)) (more (i + 1))) [
    | inl less ↦ subst (λ (st : k.State). k.IsStart (as_read (after i)) st) (sym (extended_old states (length replies) new (i + 1) (omega arith)))
        (subst (λ (d : Disk). k.IsStart (as_read d) (states (i + 1))) (sym (same i less)) (run.reopened i less is_c))
    | inr ge ↦ let e : i ≡ length replies = last_is i lt ge in
        subst (λ (st : k.State). k.IsStart (as_read (after i)) st) (sym (extended_new states (length replies) new (i + 1) (omega arith)))
        (subst (λ (j : ℕ). k.IsStart (as_read (after j)) new) (sym e) (cut (this_is i Reopen e is_c)))
  ]

  allowed : (i : ℕ) (c : Asked) → i < length (replies ++ reply ∷ []) → slice_get commands i ≡ Some c → k.MustRefuse (more i) (after i) c → ⊥
  allowed i c lt is_c = elim (cases_lt i (length replies)) as (λ _. k.MustRefuse (more i) (after i) c → ⊥) [
    | inl less ↦ subst (λ (st : k.State). k.MustRefuse st (after i) c → ⊥) (sym (extended_old states (length replies) new i (omega arith)))
        (subst (λ (d : Disk). k.MustRefuse (states i) d c → ⊥) (sym (same i less)) (run.allowed i c less is_c))
    | inr ge ↦ let e : i ≡ length replies = last_is i lt ge in
        subst (λ (st : k.State). k.MustRefuse st (after i) c → ⊥) (sym (extended_old states (length replies) new i (omega arith)))
        (subst (λ (j : ℕ). k.MustRefuse (states j) (after j) c → ⊥) (sym e)
        (subst (λ (q : Asked). k.MustRefuse (states (length replies)) (after (length replies)) q → ⊥) (this_is i c e is_c) may))
  ]

  run_push : IsRun k after commands (replies ++ reply ∷ []) more
  run_push = record {
    enough = omega (arith, length-append replies (reply ∷ []), slice_get_within commands (length replies) command is);
    steps = steps;
    reopened = reopened;
    allowed = allowed;
  }

module _ (k : Kind) (old b c : Timeline) (commands : List Asked) (marks : List ℕ) (replies : List Replied) (states : ℕ → k.State) (command : Asked)
    (running : Running k old b commands marks replies states) (is : slice_get commands (length replies) ≡ Some command)
    (always : Always b c (k.Leaves (states (length replies)) (Some command))) where
  abbrev marked : List ℕ
  marked = marks ++ b.calls ∷ []

  -- the disks at which commands began stay; the last one is the disk now
  disk_same : (j : ℕ) → j ≤ length replies + 1 → disk_at old c marked j ≡ disk_at old b marks j
  disk_same j le =
      let low = within (old.calls ∷ marks) b.calls running.moments.ascend j in
      ap (λ (n : ℕ). c.at (2 * n)) (mark_upto (old.calls ∷ marks) b.calls c.calls j (omega (arith, le, running.counted)))
      ∙ always.kept (2 * begin old b marks j) (omega (arith, low))

  disk_here : disk_at old c marked (length replies + 1) ≡ disk b
  disk_here = disk_same (length replies + 1) (omega arith)
      ∙ ap (λ (n : ℕ). b.at (2 * n)) (or_past (old.calls ∷ marks) (length replies + 1) b.calls (omega (arith, running.counted)))

  -- the stretch of this command behind those before it
  moments_with : (more : ℕ → k.State) → ((i : ℕ) → i ≤ length replies → more i ≡ states i)
      → Stretches old c (old.calls ∷ marked) (λ i. k.Leaves (state_in more i) (under_way commands i))
  moments_with more agrees =
      stretches_push old b c (old.calls ∷ marks) (λ i. k.Leaves (state_in more i) (under_way commands i)) (omega arith)
      (stretches_within old b (old.calls ∷ marks) (λ i. k.Leaves (state_in states i) (under_way commands i)) (λ i. k.Leaves (state_in more i) (under_way commands i)) weaker running.moments)
      (let at_more : Always b c (k.Leaves (more (length replies)) (slice_get commands (length replies))) =
      subst (λ (o : Option Asked). Always b c (k.Leaves (more (length replies)) o)) (sym is)
      (subst (λ (st : k.State). Always b c (k.Leaves st (Some command))) (sym (agrees (length replies) (omega arith))) always) in
      subst (λ (n : ℕ). Always b c (k.Leaves (more n) (slice_get commands n))) (sym running.counted) at_more)
    where
      weaker : (i : ℕ) (d : Disk) → i < length (old.calls ∷ marks) → k.Leaves (state_in states i) (under_way commands i) d → k.Leaves (state_in more i) (under_way commands i) d
      weaker zero d lt leaves = subst (λ (st : k.State). k.Leaves st None d) (sym (agrees 0 (omega arith))) leaves
      weaker (suc i) d lt leaves = subst (λ (st : k.State). k.Leaves st (slice_get commands i) d) (sym (agrees i (omega (arith, running.counted)))) leaves

  -- the command got its reply
  pub running_push : (reply : Replied) (next : k.State) → k.Step (states (length replies)) command reply next
      → (command ≡ Reopen → k.IsStart (as_read (disk b)) next) → (k.MustRefuse (states (length replies)) (disk b) command → ⊥) → k.Leaves next None (disk c)
      → Running k old c commands marked (replies ++ reply ∷ []) (extended states (length replies) next)
  running_push reply next step cut may rest = record {
    start = subst (λ (st : k.State). k.IsStart (as_read (disk old)) st) (sym (extended_old states (length replies) next 0 (omega arith))) running.start;
    run = run_push k commands replies states command reply next (λ i. disk_at old b marks (i + 1)) (λ i. disk_at old c marked (i + 1)) running.run is step
        (λ e. subst (λ (d : Disk). k.IsStart (as_read d) next) (sym disk_here) (cut e))
        (subst (λ (d : Disk). k.MustRefuse (states (length replies)) d command → ⊥) (sym disk_here) may)
        (λ i lt. disk_same (i + 1) (omega arith));
    counted = omega (arith, length-append marks (b.calls ∷ []), length-append replies (reply ∷ []), running.counted);
    moments = moments_with (extended states (length replies) next) (extended_old states (length replies) next);
    rest = subst (λ (st : k.State). k.Leaves st None (disk c)) (sym (extended_new states (length replies) next (length (replies ++ reply ∷ [])) (omega (arith, length-append replies (reply ∷ []))))) rest;
  }

  -- ---- it got none, and stays under way

  ends : length marked ≡ suc (length replies)
  ends = omega (arith, length-append marks (b.calls ∷ []), running.counted)

  state_now : state_in states (length marked) ≡ states (length replies)
  state_now = ap (λ (n : ℕ). state_in states n) ends

  command_now : under_way commands (length marked) ≡ Some command
  command_now = ap (λ (n : ℕ). under_way commands n) ends ∙ is

  mark_now : begin old c marked (length marked) ≡ b.calls
  mark_now =
      let this : length marked ≡ length (old.calls ∷ marks) = omega (arith, length-append marks (b.calls ∷ [])) in
      ap (λ (j : ℕ). begin old c marked j) this ∙ mark_last (old.calls ∷ marks) b.calls c.calls

  disk_now : disk_at old c marked (length marked) ≡ disk b
  disk_now = ap (λ (n : ℕ). c.at (2 * n)) mark_now ∙ always.kept (2 * b.calls) (omega arith)

  named : (e x : Error) → Failed e ≡ Failed x → e ≡ x
  named e x same = cc

  stays : Unchanged b c → StaysBut c (2 * begin old c marked (length marked)) (2 * c.calls) (λ q. ⊥)
  stays unchanged m lo hi q other =
      let at : c.at m ≡ disk b = unchanged.each m (omega (arith, lo, mark_now)) hi in
      ap (λ (d : Disk). d q) (at ∙ sym disk_now)

  pub runs_failed : (faults_old faults_new : ℕ) (e : Error) → (e ≢ Mem → k.IsCause (states (length replies)) (Some command) (disk b) e)
      → (IsFault e → Rose faults_old faults_new) → (e ≢ Mem → k.Refuses (states (length replies)) command e → Unchanged b c)
      → (k.MustRefuse (states 0) (disk old) Reopen → ⊥) → Serves k old c commands marked faults_old faults_new replies (Failed e)
  runs_failed faults_old faults_new e cause fault untouched opened = record {
    states = states;
    allowed = λ some. opened;
    begun = (omega (arith, ends, slice_get_within commands (length replies) command is), inl (omega (arith, ends)));
    start = running.start;
    run = record {
      enough = running.run.enough;
      steps = running.run.steps;
      reopened = λ i lt is_c. subst (λ (d : Disk). k.IsStart (as_read d) (states (i + 1))) (sym (disk_same (i + 1) (omega arith))) (running.run.reopened i lt is_c);
      allowed = λ i x lt is_x. subst (λ (d : Disk). k.MustRefuse (states i) d x → ⊥) (sym (disk_same (i + 1) (omega arith))) (running.run.allowed i x lt is_x);
    };
    moments = moments_with states (λ i le. refl);
    rest = λ same. absurd (omega (arith, same, ends));
    stopped = λ x same other. subst (λ (y : Error). k.IsCause (state_in states (length marked)) (under_way commands (length marked)) (disk_at old c marked (length marked)) y) (named e x same)
        (subst (λ (st : k.State). k.IsCause st (under_way commands (length marked)) (disk_at old c marked (length marked)) e) (sym state_now)
        (subst (λ (o : Option Asked). k.IsCause (states (length replies)) o (disk_at old c marked (length marked)) e) (sym command_now)
        (subst (λ (d : Disk). k.IsCause (states (length replies)) (Some command) d e) (sym disk_now) (cause (λ memory. other (sym (named e x same) ∙ memory))))));
    fault = fault;
    unwritten = λ x asked same other is_asked refuses.
        let this : asked ≡ command = same_some (under_way commands (length marked)) asked command is_asked command_now in
        stays (untouched (λ memory. other (sym (named e x same) ∙ memory))
        (subst (λ (y : Error). k.Refuses (states (length replies)) command y) (sym (named e x same))
        (subst (λ (q : Asked). k.Refuses (states (length replies)) q x) this
        (subst (λ (st : k.State). k.Refuses st asked x) state_now refuses))));
  }

-- ---- the ends

pub no_fault : (faults_old faults_new : ℕ) → IsFault Mem → Rose faults_old faults_new
no_fault faults_old faults_new fault = absurd (elim fault as (λ _. ⊥) [ inl one ↦ cc one | inr other ↦ cc other ])

module _ (k : Kind) (old now : Timeline) (commands : List Asked) (marks : List ℕ) (replies : List Replied) (states : ℕ → k.State) (running : Running k old now commands marks replies states)
    (faults_old faults_new : ℕ) (opened : k.MustRefuse (states 0) (disk old) Reopen → ⊥) where
  -- every command got its reply
  pub runs_done : length replies ≡ length commands → Serves k old now commands marks faults_old faults_new replies Done
  runs_done all = record {
    states = states;
    allowed = λ some. opened;
    begun = (omega (arith, all, running.counted), all);
    start = running.start;
    run = running.run;
    moments = running.moments;
    rest = λ same. running.rest;
    stopped = λ e same. absurd (differs e same);
    fault = tt;
    unwritten = λ e command same. absurd (differs e same);
  }
    where
      differs : (e : Error) → Done ≡ Failed e → ⊥
      differs e same = cc

  -- there was no memory for the mark of the next command
  pub runs_unmarked : Serves k old now commands marks faults_old faults_new replies (Failed Mem)
  runs_unmarked = record {
    states = states;
    allowed = λ some. opened;
    begun = (omega (arith, running.counted, running.run.enough), inr (running.counted, inl refl));
    start = running.start;
    run = running.run;
    moments = running.moments;
    rest = λ same. running.rest;
    stopped = λ e same other. absurd (other (is_memory e same));
    fault = no_fault faults_old faults_new;
    unwritten = λ e command same other. absurd (other (is_memory e same));
  }
    where
      is_memory : (e : Error) → Failed Mem ≡ Failed e → e ≡ Mem
      is_memory e same = cc

-- the opening ended in an error
pub runs_unopened : (k : Kind) (old now : Timeline) (commands : List Asked) (st : k.State) (faults_old faults_new : ℕ) (e : Error)
    → k.IsStart (as_read (disk old)) st → Always old now (k.Leaves st None) → k.IsCause st None (disk old) e → (IsFault e → Rose faults_old faults_new)
    → Serves k old now commands [] faults_old faults_new [] (Failed e)
runs_unopened k old now commands st faults_old faults_new e start always cause fault =
    let running = running_start k old now commands st start always (always.each (2 * now.calls) (omega (arith, always.later)) (omega arith)) in
    record {
      states = λ i. st;
      allowed = λ some. absurd (elim some as (λ _. ⊥) [ inl begun ↦ begun refl | inr done ↦ cc done ]);
      begun = (omega arith, inr (refl, inr refl));
      start = start;
      run = running.run;
      moments = running.moments;
      rest = λ same. running.rest;
      stopped = λ x same other. subst (λ (y : Error). k.IsCause st None (now.at (2 * old.calls)) y) (named x same)
          (subst (λ (d : Disk). k.IsCause st None d e) (sym (always.kept (2 * old.calls) (omega arith))) cause);
      fault = fault;
      unwritten = λ x command same other is_command. absurd (none_some None command refl is_command);
    }
  where
    named : (x : Error) → Failed e ≡ Failed x → e ≡ x
    named x same = cc
