-- What the commands so far may have done to the disk, and what the store knows of itself, whatever the image.
use Rattle.std.proofs.Common.{◌≡◌, ◌≢◌, inl, inr, refl, sym, ◌∙◌, ap, subst, ℕ, zero, suc, ◌+◌, ◌*◌, ◌<◌, ◌≤◌, List, [], ◌∷◌, ◌++◌, length, slice_get, Option, None, Some, arith, length-append}
use Rattle.std.proofs.lemmas.Bool.{cases_lt}
use Rattle.blob_device.specs.Disk.{Disk}
use Rattle.blob_device.specs.Footprint.{SameElsewhere}
use Rattle.blob_device.specs.Timeline.{Timeline, disk, Always}
use Rattle.sealed_pages.specs.Reading.{Unchanged}
use Rattle.archives.specs.Changes.{Asked, NoneThere}
use Rattle.archives.specs.Commands.{Reopen}
use Rattle.archives.specs.declared.error.Error.{Error}
use Rattle.archives.specs.declared.error.Error.TheVariants.{Mem}
use Rattle.archive_service.specs.Kinds.{Kind}
use Rattle.archive_service.specs.Serves.{OverAnyImage, StaysBut, begin, disk_at, state_in, under_way}
use Rattle.archive_service.specs.declared.replies.End.{End}
use Rattle.archive_service.specs.declared.replies.End.TheVariants.{Done, Failed}
use Rattle.archive_service.proofs.MarkLemmas.{ascends, extended, extended_new, extended_old, mark_past, mark_upto, none_some, or_past, same_some, within}

-- what a loop over the commands keeps, each of which got a reply; `here` is what the store now knows
pub record Looking (k : Kind) (old now : Timeline) (commands : List Asked) (marks : List ℕ) (here : k.Known) : Type 0 where
  pub known : ℕ → k.Known
  pub now_known : known (length marks) ≡ here
  pub ascend : (i : ℕ) → begin old now marks i ≤ begin old now marks (i + 1)
  pub touched : (i : ℕ) (command : Asked) → i < length marks → slice_get commands i ≡ Some command
      → StaysBut now (2 * begin old now marks (i + 1)) (2 * begin old now marks (i + 2)) (k.MayChange command)
  pub found : k.IsFound (disk old) (disk_at old now marks 1) (known 0)
  pub learns : (i : ℕ) (command : Asked) → i < length marks → slice_get commands i ≡ Some command
      → k.Learns (known i) command (disk_at old now marks (i + 1)) (disk_at old now marks (i + 2)) (known (i + 1))
  pub quiet : (i : ℕ) (command : Asked) → i < length marks → slice_get commands i ≡ Some command → k.IsQuiet (known i) command
      → begin old now marks (i + 2) ≡ begin old now marks (i + 1)
  pub allowed : (i : ℕ) (command : Asked) → i < length marks → slice_get commands i ≡ Some command → k.MustRefuseAnywhere (known i) (disk_at old now marks (i + 1)) command → ⊥
  pub cleared : (i : ℕ) (command : Asked) → i < length marks → slice_get commands i ≡ Some command → NoneThere (k.Clears (known i) command) (disk_at old now marks (i + 2))
  pub opened : k.MustRefuseAnywhere k.unknown (disk old) Reopen → ⊥

-- no command was begun
pub looking_start : (k : Kind) (old now : Timeline) (commands : List Asked) (here : k.Known) → old.calls ≤ now.calls → k.IsFound (disk old) (disk now) here
    → (k.MustRefuseAnywhere k.unknown (disk old) Reopen → ⊥) → Looking k old now commands [] here
looking_start k old now commands here later found opened = record {
  known = λ i. here;
  now_known = refl;
  ascend = ascend;
  touched = λ i command lt. absurd (omega arith);
  found = found;
  learns = λ i command lt. absurd (omega arith);
  quiet = λ i command lt. absurd (omega arith);
  allowed = λ i command lt. absurd (omega arith);
  cleared = λ i command lt. absurd (omega arith);
  opened = opened;
}
  where
    ascend : (i : ℕ) → begin old now [] i ≤ begin old now [] (i + 1)
    ascend zero = later
    ascend (suc i) = omega (arith, or_past (old.calls ∷ []) (suc i) now.calls (omega arith), or_past (old.calls ∷ []) (suc i + 1) now.calls (omega arith))

-- one command more, whether it was answered or failed
module _ (k : Kind) (old b c : Timeline) (commands : List Asked) (marks : List ℕ) (here : k.Known) (looking : Looking k old b commands marks here) (command : Asked)
    (is : slice_get commands (length marks) ≡ Some command) (alone : Always b c (SameElsewhere (k.MayChange command) (disk b)))
    (calm : k.IsQuiet here command → c.calls ≡ b.calls) where
  abbrev marked : List ℕ
  marked = marks ++ b.calls ∷ []

  mark_same : (j : ℕ) → j ≤ length marks + 1 → begin old c marked j ≡ begin old b marks j
  mark_same j le = mark_upto (old.calls ∷ marks) b.calls c.calls j (omega (arith, le))

  before_b : (j : ℕ) → begin old b marks j ≤ b.calls
  before_b j = within (old.calls ∷ marks) b.calls looking.ascend j

  disk_same : (j : ℕ) → j ≤ length marks + 1 → disk_at old c marked j ≡ disk_at old b marks j
  disk_same j le = ap (λ (n : ℕ). c.at (2 * n)) (mark_same j le) ∙ alone.kept (2 * begin old b marks j) (omega (arith, before_b j))

  -- the mark of this command, and the end
  mark_here : begin old c marked (length marks + 1) ≡ b.calls
  mark_here = mark_same (length marks + 1) (omega arith) ∙ or_past (old.calls ∷ marks) (length marks + 1) b.calls (omega arith)

  mark_end : begin old c marked (length marks + 2) ≡ c.calls
  mark_end = mark_past (old.calls ∷ marks) b.calls c.calls (length marks + 2) (omega arith)

  disk_here : disk_at old c marked (length marks + 1) ≡ disk b
  disk_here = ap (λ (n : ℕ). c.at (2 * n)) mark_here ∙ alone.kept (2 * b.calls) (omega arith)

  disk_end : disk_at old c marked (length marks + 2) ≡ disk c
  disk_end = ap (λ (n : ℕ). c.at (2 * n)) mark_end

  -- what holds of each command before and of this one holds of each
  every : (P : ℕ → Asked → Type 0) → ((i : ℕ) (x : Asked) → i < length marks → slice_get commands i ≡ Some x → P i x) → P (length marks) command
      → (i : ℕ) (x : Asked) → i < length marked → slice_get commands i ≡ Some x → P i x
  every P before this i x lt is_x = elim (cases_lt i (length marks)) as (λ _. P i x) [
    | inl less ↦ before i x less is_x
    | inr ge ↦ let e : i ≡ length marks = omega (arith, lt, ge, length-append marks (b.calls ∷ [])) in
        let same : command ≡ x = same_some (slice_get commands i) command x (ap (slice_get commands) e ∙ is) is_x in
        subst (λ (j : ℕ). P j x) (sym e) (subst (λ (q : Asked). P (length marks) q) same this)
  ]

  abbrev StaysAt : ℕ → Asked → Type 0
  StaysAt i x = StaysBut c (2 * begin old c marked (i + 1)) (2 * begin old c marked (i + 2)) (k.MayChange x)

  stayed : (i : ℕ) (x : Asked) → i < length marks → slice_get commands i ≡ Some x → StaysAt i x
  stayed i x lt is_x m lo hi q other =
      let low = mark_same (i + 1) (omega arith) in
      let high = mark_same (i + 2) (omega arith) in
      let past : c.at m ≡ b.at m = alone.kept m (omega (arith, hi, high, before_b (i + 2))) in
      ap (λ (d : Disk). d q) past ∙ looking.touched i x lt is_x m (omega (arith, lo, low)) (omega (arith, hi, high)) q other
      ∙ sym (ap (λ (d : Disk). d q) (disk_same (i + 1) (omega arith)))

  stays : StaysAt (length marks) command
  stays m lo hi q other = alone.each m (omega (arith, lo, mark_here)) (omega (arith, hi, mark_end)) q other ∙ sym (ap (λ (d : Disk). d q) disk_here)

  touched : (i : ℕ) (x : Asked) → i < length marked → slice_get commands i ≡ Some x → StaysAt i x
  touched = every StaysAt stayed stays

  abbrev EndsAt : (ℕ → k.Known) → ℕ → Asked → Type 0
  EndsAt known i x = k.IsQuiet (known i) x → begin old c marked (i + 2) ≡ begin old c marked (i + 1)

  quiet : (known : ℕ → k.Known) → ((i : ℕ) → i ≤ length marks → known i ≡ looking.known i)
      → (i : ℕ) (x : Asked) → i < length marked → slice_get commands i ≡ Some x → EndsAt known i x
  quiet known agrees = every (EndsAt known)
      (λ i x lt is_x still. mark_same (i + 2) (omega arith) ∙ looking.quiet i x lt is_x (subst (λ (n : k.Known). k.IsQuiet n x) (agrees i (omega arith)) still)
      ∙ sym (mark_same (i + 1) (omega arith)))
      (λ still. mark_end ∙ calm (subst (λ (n : k.Known). k.IsQuiet n command) (agrees (length marks) (omega arith) ∙ looking.now_known) still) ∙ sym mark_here)

  found : k.IsFound (disk old) (disk_at old c marked 1) (looking.known 0)
  found = subst (λ (d : Disk). k.IsFound (disk old) d (looking.known 0)) (sym (disk_same 1 (omega arith))) looking.found

  learned : (i : ℕ) (x : Asked) → i < length marks → slice_get commands i ≡ Some x
      → k.Learns (looking.known i) x (disk_at old c marked (i + 1)) (disk_at old c marked (i + 2)) (looking.known (i + 1))
  learned i x lt is_x =
      subst (λ (d : Disk). k.Learns (looking.known i) x d (disk_at old c marked (i + 2)) (looking.known (i + 1))) (sym (disk_same (i + 1) (omega arith)))
      (subst (λ (d : Disk). k.Learns (looking.known i) x (disk_at old b marks (i + 1)) d (looking.known (i + 1))) (sym (disk_same (i + 2) (omega arith)))
      (looking.learns i x lt is_x))

  allowed_before : (i : ℕ) (x : Asked) → i < length marks → slice_get commands i ≡ Some x → k.MustRefuseAnywhere (looking.known i) (disk_at old c marked (i + 1)) x → ⊥
  allowed_before i x lt is_x =
      subst (λ (d : Disk). k.MustRefuseAnywhere (looking.known i) d x → ⊥) (sym (disk_same (i + 1) (omega arith))) (looking.allowed i x lt is_x)

  cleared_before : (i : ℕ) (x : Asked) → i < length marks → slice_get commands i ≡ Some x → NoneThere (k.Clears (looking.known i) x) (disk_at old c marked (i + 2))
  cleared_before i x lt is_x = subst (λ (d : Disk). NoneThere (k.Clears (looking.known i) x) d) (sym (disk_same (i + 2) (omega arith))) (looking.cleared i x lt is_x)

  -- it got a reply
  pub looking_push : (next : k.Known) → k.Learns here command (disk b) (disk c) next → (k.MustRefuseAnywhere here (disk b) command → ⊥) → NoneThere (k.Clears here command) (disk c)
      → Looking k old c commands marked next
  looking_push next learns may clears = record {
    known = known;
    now_known = extended_new looking.known (length marks) next (length marked) (omega (arith, length-append marks (b.calls ∷ [])));
    ascend = ascends (old.calls ∷ marks) b.calls c.calls alone.later looking.ascend;
    touched = touched;
    found = subst (λ (n : k.Known). k.IsFound (disk old) (disk_at old c marked 1) n) (sym (agrees 0 (omega arith))) found;
    learns = every LearnsAt
        (λ i x lt is_x. subst (λ (n : k.Known). k.Learns n x (disk_at old c marked (i + 1)) (disk_at old c marked (i + 2)) (known (i + 1))) (sym (agrees i (omega arith)))
        (subst (λ (n : k.Known). k.Learns (looking.known i) x (disk_at old c marked (i + 1)) (disk_at old c marked (i + 2)) n) (sym (agrees (i + 1) (omega arith)))
        (learned i x lt is_x)))
        (subst (λ (n : k.Known). k.Learns n command (disk_at old c marked (length marks + 1)) (disk_at old c marked (length marks + 2)) (known (length marks + 1)))
        (sym (agrees (length marks) (omega arith) ∙ looking.now_known))
        (subst (λ (n : k.Known). k.Learns here command (disk_at old c marked (length marks + 1)) (disk_at old c marked (length marks + 2)) n)
        (sym (extended_new looking.known (length marks) next (length marks + 1) (omega arith)))
        (subst (λ (d : Disk). k.Learns here command d (disk_at old c marked (length marks + 2)) next) (sym disk_here)
        (subst (λ (d : Disk). k.Learns here command (disk b) d next) (sym disk_end) learns))));
    quiet = quiet known agrees;
    allowed = every AllowedAt
        (λ i x lt is_x. subst (λ (n : k.Known). k.MustRefuseAnywhere n (disk_at old c marked (i + 1)) x → ⊥) (sym (agrees i (omega arith))) (allowed_before i x lt is_x))
        (subst (λ (n : k.Known). k.MustRefuseAnywhere n (disk_at old c marked (length marks + 1)) command → ⊥) (sym (agrees (length marks) (omega arith) ∙ looking.now_known))
        (subst (λ (d : Disk). k.MustRefuseAnywhere here d command → ⊥) (sym disk_here) may));
    cleared = every ClearedAt
        (λ i x lt is_x. subst (λ (n : k.Known). NoneThere (k.Clears n x) (disk_at old c marked (i + 2))) (sym (agrees i (omega arith))) (cleared_before i x lt is_x))
        (subst (λ (n : k.Known). NoneThere (k.Clears n command) (disk_at old c marked (length marks + 2))) (sym (agrees (length marks) (omega arith) ∙ looking.now_known))
        (subst (λ (d : Disk). NoneThere (k.Clears here command) d) (sym disk_end) clears));
    opened = looking.opened;
  }
    where
      known : ℕ → k.Known
      known = extended looking.known (length marks) next

      agrees : (i : ℕ) → i ≤ length marks → known i ≡ looking.known i
      agrees = extended_old looking.known (length marks) next

      LearnsAt : ℕ → Asked → Type 0
      LearnsAt i x = k.Learns (known i) x (disk_at old c marked (i + 1)) (disk_at old c marked (i + 2)) (known (i + 1))

      AllowedAt : ℕ → Asked → Type 0
      AllowedAt i x = k.MustRefuseAnywhere (known i) (disk_at old c marked (i + 1)) x → ⊥

      ClearedAt : ℕ → Asked → Type 0
      ClearedAt i x = NoneThere (k.Clears (known i) x) (disk_at old c marked (i + 2))

  -- it got none
  pub anywhere_failed : (e : Error) → (e ≢ Mem → k.IsCauseAnywhere here (Some command) (disk b) (disk c) e)
      → (e ≢ Mem → k.RefusesAnywhere here command e → Unchanged b c) → OverAnyImage k old c commands marked (length marks) (Failed e)
  anywhere_failed e cause untouched = record {
    touched = touched;
    known = looking.known;
    found = λ some. found;
    learns = learned;
    quiet = quiet looking.known (λ i le. refl);
    allowed = allowed_before;
    cleared = cleared_before;
    opened = λ some. looking.opened;
    cause = λ x same other. subst (λ (y : Error). k.IsCauseAnywhere (state_in looking.known (length marked)) (under_way commands (length marked)) (disk_at old c marked (length marked)) (disk c) y) (named x same)
        (subst (λ (n : k.Known). k.IsCauseAnywhere n (under_way commands (length marked)) (disk_at old c marked (length marked)) (disk c) e) (sym known_now)
        (subst (λ (o : Option Asked). k.IsCauseAnywhere here o (disk_at old c marked (length marked)) (disk c) e) (sym command_now)
        (subst (λ (d : Disk). k.IsCauseAnywhere here (Some command) d (disk c) e) (sym disk_now) (cause (λ memory. other (sym (named x same) ∙ memory))))));
    unwritten = λ x asked same other is_asked refuses.
        let this : asked ≡ command = same_some (under_way commands (length marked)) asked command is_asked command_now in
        unchanged_stays (untouched (λ memory. other (sym (named x same) ∙ memory))
        (subst (λ (y : Error). k.RefusesAnywhere here command y) (sym (named x same))
        (subst (λ (q : Asked). k.RefusesAnywhere here q x) this
        (subst (λ (n : k.Known). k.RefusesAnywhere n asked x) known_now refuses))));
  }
    where
      ends : length marked ≡ suc (length marks)
      ends = omega (arith, length-append marks (b.calls ∷ []))

      known_now : state_in looking.known (length marked) ≡ here
      known_now = ap (λ (n : ℕ). state_in looking.known n) ends ∙ looking.now_known

      command_now : under_way commands (length marked) ≡ Some command
      command_now = ap (λ (n : ℕ). under_way commands n) ends ∙ is

      disk_now : disk_at old c marked (length marked) ≡ disk b
      disk_now = let this : length marked ≡ length marks + 1 = omega (arith, ends) in ap (λ (n : ℕ). disk_at old c marked n) this ∙ disk_here

      mark_now : begin old c marked (length marked) ≡ b.calls
      mark_now = let this : length marked ≡ length marks + 1 = omega (arith, ends) in ap (λ (n : ℕ). begin old c marked n) this ∙ mark_here

      unchanged_stays : Unchanged b c → StaysBut c (2 * begin old c marked (length marked)) (2 * c.calls) (λ q. ⊥)
      unchanged_stays unchanged m lo hi q other =
          let at : c.at m ≡ disk b = unchanged.each m (omega (arith, lo, mark_now)) hi in
          ap (λ (d : Disk). d q) (at ∙ sym disk_now)

      named : (x : Error) → Failed e ≡ Failed x → e ≡ x
      named x same = cc

-- ---- the ends

module _ (k : Kind) (old now : Timeline) (commands : List Asked) (marks : List ℕ) (here : k.Known) (looking : Looking k old now commands marks here) where
  -- every command got its reply, or there was no memory for the mark of the next one
  anywhere_so_far : (end : End) → ((e : Error) → end ≡ Failed e → e ≡ Mem) → OverAnyImage k old now commands marks (length marks) end
  anywhere_so_far end memory = record {
    touched = looking.touched;
    known = looking.known;
    found = λ some. looking.found;
    learns = looking.learns;
    quiet = looking.quiet;
    allowed = looking.allowed;
    cleared = looking.cleared;
    opened = λ some. looking.opened;
    cause = λ e same other. absurd (other (memory e same));
    unwritten = λ e command same other. absurd (other (memory e same));
  }

  pub anywhere_done : OverAnyImage k old now commands marks (length marks) Done
  anywhere_done = anywhere_so_far Done (λ e same. absurd (differs e same))
    where
      differs : (e : Error) → Done ≡ Failed e → ⊥
      differs e same = cc

  pub anywhere_unmarked : OverAnyImage k old now commands marks (length marks) (Failed Mem)
  anywhere_unmarked = anywhere_so_far (Failed Mem) is_memory
    where
      is_memory : (e : Error) → Failed Mem ≡ Failed e → e ≡ Mem
      is_memory e same = cc

-- the opening failed
pub anywhere_unopened : (k : Kind) (old now : Timeline) (commands : List Asked) (e : Error) → ((m : ℕ) → m ≤ 2 * old.calls → now.at m ≡ old.at m)
    → k.IsCauseAnywhere k.unknown None (disk old) (disk now) e → OverAnyImage k old now commands [] 0 (Failed e)
anywhere_unopened k old now commands e kept cause = record {
  touched = λ i command lt. absurd (omega arith);
  known = λ i. k.unknown;
  found = λ some. absurd (some refl);
  learns = λ i command lt. absurd (omega arith);
  quiet = λ i command lt. absurd (omega arith);
  allowed = λ i command lt. absurd (omega arith);
  cleared = λ i command lt. absurd (omega arith);
  opened = λ some. absurd (elim some as (λ _. ⊥) [ inl begun ↦ begun refl | inr done ↦ cc done ]);
  cause = λ x same other. subst (λ (y : Error). k.IsCauseAnywhere k.unknown None (now.at (2 * old.calls)) (disk now) y) (named x same)
      (subst (λ (d : Disk). k.IsCauseAnywhere k.unknown None d (disk now) e) (sym (kept (2 * old.calls) (omega arith))) cause);
  unwritten = λ x command same other is_command. absurd (none_some None command refl is_command);
}
  where
    named : (x : Error) → Failed e ≡ Failed x → e ≡ x
    named x same = cc
