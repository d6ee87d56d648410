-- What the loop over the commands keeps, and what each way to end it promises, over stores and devices that are plain variables.
use Rattle.std.proofs.Common.{◌≡◌, ◌≢◌, inl, inr, refl, sym, ◌∙◌, ap, subst, ℕ, ◌≤◌, List, [], ◌∷◌, ◌++◌, length, slice_get, Result, Ok, Err, Some, arith, length-append}
use Rattle.std.proofs.lemmas.Option.{slice_get_within}
use Rattle.blob_device.specs.Counts.{Rose}
use Rattle.blob_device.specs.Disk.{NothingPending}
use Rattle.blob_device.specs.Footprint.{AtMostBoth, Footprint, NoBound}
use Rattle.blob_device.specs.Timeline.{Timeline, disk, Always}
use Rattle.blob_device.specs.declared.device.Device as device
use Rattle.blob_device.specs.lemmas.Footprint.{footprint_then, footprint_wider}
use Rattle.sealed_pages.specs.Reading.{Unchanged}
use Rattle.paired.specs.Opening.{as_read}
use Rattle.archives.specs.Changes.{Asked, Replied}
use Rattle.archives.specs.Commands.{Reopen}
use Rattle.archives.specs.Refusing.{IsFault}
use Rattle.archives.specs.declared.error.Error.{Error}
use Rattle.archives.specs.declared.error.Error.TheVariants.{Mem}
use Rattle.archive_service.specs.Kinds.{Kind}
use Rattle.archive_service.specs.StoreCalls.{Answers, IsSoundOver, MayUse, OpensStore, Serving, state_over}
use Rattle.archive_service.specs.Serves.{OverAnyImage, ServesBy}
use Rattle.archive_service.specs.ServesOne.{ServesOne, marked, unmarked}
use Rattle.archive_service.specs.declared.replies.End.TheVariants.{Done, Failed}
use Rattle.archive_service.proofs.Going.{Running, no_fault, runs_done, runs_failed, runs_unmarked, runs_unopened, running_push, running_start}
use Rattle.archive_service.proofs.Looking.{Looking, looking_push, looking_start, anywhere_done, anywhere_failed, anywhere_unmarked, anywhere_unopened}
use Rattle.archive_service.proofs.MarkLemmas.{extended, extended_new, extended_old}

-- From a lawful image the run so far has come to the state of the store, which is sound.
pub record GoesOn (k : Kind) (old now : Timeline) (commands : List Asked) (marks : List ℕ) (replies : List Replied) (Sound : Type 0) (st : k.State) : Type 0 where
  pub states : ℕ → k.State
  pub running : Running k old now commands marks replies states
  pub here : states (length replies) ≡ st
  pub sound : Sound
  pub opened : k.MustRefuse (states 0) (disk old) Reopen → ⊥

module _ {A V D : Type 0} (s : Serving A V) (dev : device.Ghosts D) where
  -- Each command so far has a mark and a reply, and the store is this one.
  pub record SoFar (old now : D) (commands : List Asked) (marks : List ℕ) (replies : List Replied) (a : A) : Type 0 where
    pub usable : MayUse s dev a now
    pub counted : length marks ≡ length replies
    pub footprint : Footprint dev s.kind.IsOwn NoBound old now
    pub looking : dev.Tells → Looking s.kind (dev.time old) (dev.time now) commands marks (s.known a)
    pub goes : dev.Tells → NothingPending (disk (dev.time old)) → s.kind.Lawful (as_read (disk (dev.time old)))
        → GoesOn s.kind (dev.time old) (dev.time now) commands marks replies (IsSoundOver s dev a now) (state_over s dev a now)

  -- the footprint of one call, and of another behind it
  footprint_on : (a b c : D) → Footprint dev s.kind.IsOwn NoBound a b → Footprint dev s.kind.IsOwn NoBound b c → Footprint dev s.kind.IsOwn NoBound a c
  footprint_on a b c first second =
      footprint_wider dev s.kind.IsOwn s.kind.IsOwn (AtMostBoth NoBound NoBound) NoBound a c (λ q own. own) (λ q n none. absurd none)
      (footprint_then dev s.kind.IsOwn NoBound NoBound a b c first second)

  -- ---- the opening

  pub so_far_start : (old now : D) (commands : List Asked) (a : A) → OpensStore s dev (Ok a) old now → SoFar old now commands [] [] a
  so_far_start old now commands a opens = record {
    usable = opens.ends.usable;
    counted = refl;
    footprint = opens.footprint;
    looking = λ t. looking_start s.kind (dev.time old) (dev.time now) commands (s.known a) (opens.footprint.alone t).later (opens.ends.found t)
        (opens.ends.allowed_anywhere t);
    goes = λ t pending lawful.
        let st = state_over s dev a now in
        let start = opens.ends.start t pending lawful in
        record {
          states = λ i. st;
          running = running_start s.kind (dev.time old) (dev.time now) commands st start (opens.moments t pending lawful st start) (opens.ends.rest t pending lawful);
          here = refl;
          sound = opens.ends.sound t pending lawful;
          opened = opens.ends.allowed t pending lawful;
        };
  }

  pub unopened : (old now : D) (commands : List Asked) (e : Error) → OpensStore s dev (Err e) old now → ServesBy s.kind dev commands [] [] (Failed e) old now
  unopened old now commands e opens = record {
    begun = (omega arith, inr (refl, inr refl));
    fault = opens.ends.fault;
    footprint = opens.footprint;
    anywhere = λ t. anywhere_unopened s.kind (dev.time old) (dev.time now) commands e (opens.footprint.alone t).kept (opens.ends.anywhere t s.kind.unknown);
    serves = λ t pending lawful.
        let found = s.starts (as_read (disk (dev.time old))) lawful in
        runs_unopened s.kind (dev.time old) (dev.time now) commands found.0 (dev.faults old) (dev.faults now) e found.1
        (opens.moments t pending lawful found.0 found.1) (opens.ends.cause t pending lawful found.0 found.1) opens.ends.fault;
  }

  -- ---- the ends, but for that of a command

  module _ (old now : D) (commands : List Asked) (marks : List ℕ) (replies : List Replied) (a : A) (so_far : SoFar old now commands marks replies a) where
    pub all_done : length replies ≡ length commands → ServesBy s.kind dev commands marks replies Done old now
    all_done all = record {
      begun = (omega (arith, all, so_far.counted), all);
      fault = tt;
      footprint = so_far.footprint;
      anywhere = λ t. subst (λ (n : ℕ). OverAnyImage s.kind (dev.time old) (dev.time now) commands marks n Done) so_far.counted
          (anywhere_done s.kind (dev.time old) (dev.time now) commands marks (s.known a) (so_far.looking t));
      serves = λ t pending lawful.
          let goes = so_far.goes t pending lawful in
          runs_done s.kind (dev.time old) (dev.time now) commands marks replies goes.states goes.running (dev.faults old) (dev.faults now) goes.opened all;
    }

    pub all_unmarked : length replies ≤ length commands → ServesBy s.kind dev commands marks replies (Failed Mem) old now
    all_unmarked few = record {
      begun = (omega (arith, few, so_far.counted), inr (so_far.counted, inl refl));
      fault = no_fault (dev.faults old) (dev.faults now);
      footprint = so_far.footprint;
      anywhere = λ t. subst (λ (n : ℕ). OverAnyImage s.kind (dev.time old) (dev.time now) commands marks n (Failed Mem)) so_far.counted
          (anywhere_unmarked s.kind (dev.time old) (dev.time now) commands marks (s.known a) (so_far.looking t));
      serves = λ t pending lawful.
          let goes = so_far.goes t pending lawful in
          runs_unmarked s.kind (dev.time old) (dev.time now) commands marks replies goes.states goes.running (dev.faults old) (dev.faults now) goes.opened;
    }

  -- ---- one command

  module _ (old b c : D) (commands : List Asked) (marks : List ℕ) (replies : List Replied) (a : A) (so_far : SoFar old b commands marks replies a) (command : Asked)
      (is : slice_get commands (length replies) ≡ Some command) where
    abbrev marks_now : List ℕ
    marks_now = marks ++ (dev.time b).calls ∷ []

    is_marked : slice_get commands (length marks) ≡ Some command
    is_marked = ap (slice_get commands) so_far.counted ∙ is

    calm : (answer : Result (A × Replied) Error) → Answers s dev a command answer b c → dev.Tells → s.kind.IsQuiet (s.known a) command → (dev.time c).calls ≡ (dev.time b).calls
    calm answer answers t still = ap (λ (d : D). (dev.time d).calls) (answers.quiet t still)

    -- it got a reply, which was kept
    pub so_far_next : (r : A) (reply : Replied) → Answers s dev a command (Ok (r, reply)) b c → SoFar old c commands marks_now (replies ++ reply ∷ []) r
    so_far_next r reply answers = record {
      usable = answers.ends.usable;
      counted = omega (arith, length-append marks ((dev.time b).calls ∷ []), length-append replies (reply ∷ []), so_far.counted);
      footprint = footprint_on old b c so_far.footprint answers.footprint;
      looking = λ t. looking_push s.kind (dev.time old) (dev.time b) (dev.time c) commands marks (s.known a) (so_far.looking t) command is_marked (answers.alone t)
          (calm (Ok (r, reply)) answers t) (s.known r) (answers.ends.learns t) (answers.ends.allowed_anywhere t) (answers.ends.cleared t);
      goes = λ t pending lawful.
          let goes = so_far.goes t pending lawful in
          let next = state_over s dev r c in
          let here = goes.here in
          record {
            states = extended goes.states (length replies) next;
            running = running_push s.kind (dev.time old) (dev.time b) (dev.time c) commands marks replies goes.states command goes.running is
                (subst (λ (x : s.kind.State). Always (dev.time b) (dev.time c) (s.kind.Leaves x (Some command))) (sym here) (answers.moments t goes.sound)) reply next
                (subst (λ (x : s.kind.State). s.kind.Step x command reply next) (sym here) (answers.ends.step t goes.sound))
                (answers.ends.reopened t goes.sound)
                (subst (λ (x : s.kind.State). s.kind.MustRefuse x (disk (dev.time b)) command → ⊥) (sym here) (answers.ends.allowed t goes.sound))
                (answers.ends.rest t goes.sound);
            here = extended_new goes.states (length replies) next (length (replies ++ reply ∷ [])) (omega (arith, length-append replies (reply ∷ [])));
            sound = answers.ends.sound t goes.sound;
            opened = subst (λ (x : s.kind.State). s.kind.MustRefuse x (disk (dev.time old)) Reopen → ⊥) (sym (extended_old goes.states (length replies) next 0 (omega arith))) goes.opened;
          };
    }

    -- It ended in this error, whether it got no reply or there was no memory to keep it.
    module _ (e : Error) (answer : Result (A × Replied) Error) (answers : Answers s dev a command answer b c) (fault : IsFault e → Rose (dev.faults b) (dev.faults c))
        (cause : dev.Tells → IsSoundOver s dev a b → e ≢ Mem → s.kind.IsCause (state_over s dev a b) (Some command) (disk (dev.time b)) e)
        (untouched : dev.Tells → IsSoundOver s dev a b → e ≢ Mem → s.kind.Refuses (state_over s dev a b) command e → Unchanged (dev.time b) (dev.time c))
        (anywhere : dev.Tells → e ≢ Mem → s.kind.IsCauseAnywhere (s.known a) (Some command) (disk (dev.time b)) (disk (dev.time c)) e)
        (still : dev.Tells → e ≢ Mem → s.kind.RefusesAnywhere (s.known a) command e → Unchanged (dev.time b) (dev.time c)) where
      fault_since : IsFault e → Rose (dev.faults old) (dev.faults c)
      fault_since is_fault = let rose = fault is_fault in omega (arith, so_far.footprint.faults, rose)

      pub ended_by : ServesBy s.kind dev commands marks_now replies (Failed e) old c
      ended_by = record {
        begun = (
          omega (arith, length-append marks ((dev.time b).calls ∷ []), so_far.counted, slice_get_within commands (length replies) command is),
          inl (omega (arith, length-append marks ((dev.time b).calls ∷ []), so_far.counted)),
        );
        fault = fault_since;
        footprint = footprint_on old b c so_far.footprint answers.footprint;
        anywhere = λ t. subst (λ (n : ℕ). OverAnyImage s.kind (dev.time old) (dev.time c) commands marks_now n (Failed e)) so_far.counted
            (anywhere_failed s.kind (dev.time old) (dev.time b) (dev.time c) commands marks (s.known a) (so_far.looking t) command is_marked (answers.alone t)
            (calm answer answers t) e (anywhere t) (still t));
        serves = λ t pending lawful.
            let goes = so_far.goes t pending lawful in
            let here = goes.here in
            runs_failed s.kind (dev.time old) (dev.time b) (dev.time c) commands marks replies goes.states command goes.running is
            (subst (λ (x : s.kind.State). Always (dev.time b) (dev.time c) (s.kind.Leaves x (Some command))) (sym here) (answers.moments t goes.sound))
            (dev.faults old) (dev.faults c) e
            (λ other. subst (λ (x : s.kind.State). s.kind.IsCause x (Some command) (disk (dev.time b)) e) (sym here) (cause t goes.sound other))
            fault_since
            (λ other refuses. untouched t goes.sound other (subst (λ (x : s.kind.State). s.kind.Refuses x command e) here refuses)) goes.opened;
      }

    -- it got no reply
    pub ended_refused : (e : Error) → Answers s dev a command (Err e) b c → ServesBy s.kind dev commands marks_now replies (Failed e) old c
    ended_refused e answers = ended_by e (Err e) answers answers.ends.fault (λ t sound other. answers.ends.cause t sound) (λ t sound other. answers.ends.unwritten t sound)
        (λ t other. answers.ends.anywhere t) (λ t other. answers.ends.unwritten_anywhere t)

    -- there was no memory to keep its reply
    pub ended_unkept : (r : A × Replied) → Answers s dev a command (Ok r) b c → ServesBy s.kind dev commands marks_now replies (Failed Mem) old c
    ended_unkept r answers = ended_by Mem (Ok r) answers (no_fault (dev.faults b) (dev.faults c)) (λ t sound other. absurd (other refl)) (λ t sound other. absurd (other refl))
        (λ t other. absurd (other refl)) (λ t other. absurd (other refl))

-- ---- one command, by what its function promises

module _ {A V D : Type 0} (s : Serving A V) (dev : device.Ghosts D) (old b c : D) (commands : List Asked) (marks new_marks : List ℕ) (replies new_replies : List Replied) (a : A)
    (so_far : SoFar s dev old b commands marks replies a) (command : Asked) (is : slice_get commands (length replies) ≡ Some command) where
  -- where the function answered a store
  pub goes_on : (r : A) → ServesOne s dev a command (Ok r) b c marks new_marks replies new_replies → SoFar s dev old c commands new_marks new_replies r
  goes_on r (unmarked failed same marks_same replies_same) = absurd (cc failed)
  goes_on r (marked is_marked (Err e) answers keeps) = absurd (let wrong = keeps.0 in cc wrong)
  goes_on r (marked is_marked (Ok x) answers keeps) = elim keeps as (λ _. SoFar s dev old c commands new_marks new_replies r) [
    | inl kept ↦
        let this : x.0 ≡ r = (let same = kept.0 in cc same) in
        subst (λ (y : A). SoFar s dev old c commands new_marks new_replies y) this
        (subst (λ (ms : List ℕ). SoFar s dev old c commands ms new_replies x.0) (sym is_marked)
        (subst (λ (rs : List Replied). SoFar s dev old c commands (marks ++ (dev.time b).calls ∷ []) rs x.0) (sym kept.1)
        (so_far_next s dev old b c commands marks replies a so_far command is x.0 x.1 answers)))
    | inr lost ↦ absurd (let wrong = lost.0 in cc wrong)
  ]

  -- where it answered an error
  pub goes_wrong : (e : Error) → ServesOne s dev a command (Err e) b c marks new_marks replies new_replies → ServesBy s.kind dev commands new_marks new_replies (Failed e) old c
  goes_wrong e (unmarked failed same marks_same replies_same) =
      let memory : Mem ≡ e = cc failed in
      let few : length replies ≤ length commands = omega (arith, slice_get_within commands (length replies) command is) in
      subst (λ (x : Error). ServesBy s.kind dev commands new_marks new_replies (Failed x) old c) memory
      (subst (λ (d : D). ServesBy s.kind dev commands new_marks new_replies (Failed Mem) old d) (sym same)
      (subst (λ (ms : List ℕ). ServesBy s.kind dev commands ms new_replies (Failed Mem) old b) (sym marks_same)
      (subst (λ (rs : List Replied). ServesBy s.kind dev commands marks rs (Failed Mem) old b) (sym replies_same)
      (all_unmarked s dev old b commands marks replies a so_far few))))
  goes_wrong e (marked is_marked (Err x) answers keeps) =
      let this : x ≡ e = (let same = keeps.0 in cc same) in
      subst (λ (y : Error). ServesBy s.kind dev commands new_marks new_replies (Failed y) old c) this
      (subst (λ (ms : List ℕ). ServesBy s.kind dev commands ms new_replies (Failed x) old c) (sym is_marked)
      (subst (λ (rs : List Replied). ServesBy s.kind dev commands (marks ++ (dev.time b).calls ∷ []) rs (Failed x) old c) (sym keeps.1)
      (ended_refused s dev old b c commands marks replies a so_far command is x answers)))
  goes_wrong e (marked is_marked (Ok x) answers keeps) = elim keeps as (λ _. ServesBy s.kind dev commands new_marks new_replies (Failed e) old c) [
    | inl kept ↦ absurd (let wrong = kept.0 in cc wrong)
    | inr lost ↦
        let memory : Mem ≡ e = (let same = lost.0 in cc same) in
        subst (λ (y : Error). ServesBy s.kind dev commands new_marks new_replies (Failed y) old c) memory
        (subst (λ (ms : List ℕ). ServesBy s.kind dev commands ms new_replies (Failed Mem) old c) (sym is_marked)
        (subst (λ (rs : List Replied). ServesBy s.kind dev commands (marks ++ (dev.time b).calls ∷ []) rs (Failed Mem) old c) (sym lost.1)
        (ended_unkept s dev old b c commands marks replies a so_far command is x answers)))
  ]
