-- What follows of a run over a prunable archive.
use Rattle.std.proofs.Common.{◌≡◌, ◌≢◌, ◌⊎◌, inl, inr, refl, sym, ◌∙◌, ap, subst, ℕ, zero, suc, ◌+◌, ◌-◌, ◌*◌, ◌<◌, ◌≤◌, ◌^◌, ◌||◌, ◌==◌, nat_lt, if◌then◌else◌, Bool, true, false, List, [], ◌∷◌, ◌++◌, length, take, slice_get, Option, Some, None, IsSomeAnd, arith}
use Rattle.std.specs.Prelude.{MatchBool}
use Rattle.std.proofs.lemmas.List.{take-append-le, take-take}
use Rattle.std.proofs.lemmas.Option.{slice_get_within}
use Rattle.std.proofs.Math.Seq.{take-length}
use Rattle.blob_device.specs.Counts.{Rose}
use Rattle.blob_device.specs.Disk.{Disk, Image, IsCrashOf, IsSettled, begun, reads, settled_disk}
use Rattle.blob_device.specs.Timeline.{Timeline, disk}
use Rattle.blob_device.specs.declared.runtime.RError.TheVariants as runtime
use Rattle.meta_store.specs.declared.error.Error.TheVariants as metadata
use Rattle.section_manager.specs.declared.journal.Error.TheVariants as journal
use Rattle.paired.specs.Crashes.{HoldMarkers, NoChanceSeal}
use Rattle.paired.specs.Kept.{Markers}
use Rattle.paired.specs.Opening.{as_read}
use Rattle.archives.specs.Changes.{Asked, Replied}
use Rattle.archives.specs.Commands.{Put, PutSync, PutStart, Multi, MultiSync, MultiStart, Sync, Start, Prune, Reopen, Destroy}
use Rattle.archives.specs.Filing.{Filing, kept}
use Rattle.archives.specs.Lawful.{Lawful}
use Rattle.archives.specs.Machine.{ClosedStep, Entry, OpenStep, State, Step, appended, has_index, section_of}
use Rattle.archives.specs.Opening.{HasNoVersion}
use Rattle.archives.specs.Refusing.{IsFault}
use Rattle.archives.specs.Replies as reply
use Rattle.archives.specs.Standing.{IsGoing, Leaves, StandsFor, submitted, with_put}
use Rattle.archives.specs.declared.error.Error.{Error}
use Rattle.archives.specs.declared.error.Error.TheVariants.{Full, Journal, Mem, Metadata}
use Rattle.archives.specs.lemmas.MachineLaws.{IsEmptying, IsInOrder, step_keeps_order, step_keeps_synced}
use Rattle.archive_service.specs.Causes.{Adds, IsCause, IsRefusedAsFull, IsRefusedAsTooLarge, MustMoveNow, added_by}
use Rattle.archive_service.specs.Families.{family_of, put_of}
use Rattle.archive_service.specs.RunLaws.{HadToRefuse, HasSynced, IsNext, IsServed, IsSpared, IsSyncing, KeepsRecords, MayTake, RunLaws}
use Rattle.archive_service.specs.Serves.{Begun, IfFailed, begin, disk_at, state_in, under_way}
use Rattle.archive_service.specs.Starts.{start_of, starts}
use Rattle.archive_service.specs.declared.replies.End.{End}
use Rattle.archive_service.specs.declared.replies.End.TheVariants.{Done, Failed}

synced_open : (items : ℕ) (old : State (List ℕ)) (command : Asked) (new : State (List ℕ)) → IsSyncing (family_of command) → OpenStep items old command reply.Done new → (s : ℕ) → new.synced s ≡ length (new.lists s)
synced_open items old (PutSync i k v) new syncs step s = subst (λ (st : State (List ℕ)). st.synced s ≡ length (st.lists s)) (sym step) refl
synced_open items old (PutStart i k v) new syncs step s = subst (λ (st : State (List ℕ)). st.synced s ≡ length (st.lists s)) (sym step) refl
synced_open items old (MultiSync i k v) new syncs step s = subst (λ (st : State (List ℕ)). st.synced s ≡ length (st.lists s)) (sym step) refl
synced_open items old (MultiStart i k v) new syncs step s = subst (λ (st : State (List ℕ)). st.synced s ≡ length (st.lists s)) (sym step) refl
synced_open items old Sync new syncs step s = subst (λ (st : State (List ℕ)). st.synced s ≡ length (st.lists s)) (sym step) refl
synced_open items old Start new syncs step s = subst (λ (st : State (List ℕ)). st.synced s ≡ length (st.lists s)) (sym step) refl
synced_open items old Reopen new syncs step s = step.synced s
synced_open items old command new syncs step s = absurd syncs

synced_closed : (old : State (List ℕ)) (command : Asked) (new : State (List ℕ)) → IsSyncing (family_of command) → ClosedStep old command reply.Done new → (s : ℕ) → new.synced s ≡ length (new.lists s)
synced_closed old Reopen new syncs step s = step.synced s
synced_closed old (PutSync i k v) new syncs step s = absurd step
synced_closed old (PutStart i k v) new syncs step s = absurd step
synced_closed old (MultiSync i k v) new syncs step s = absurd step
synced_closed old (MultiStart i k v) new syncs step s = absurd step
synced_closed old Sync new syncs step s = absurd step
synced_closed old Start new syncs step s = absurd step
synced_closed old command new syncs step s = absurd syncs

all_synced : (items : ℕ) (old : State (List ℕ)) (command : Asked) (new : State (List ℕ)) → IsSyncing (family_of command) → Step items old command reply.Done new → (s : ℕ) → new.synced s ≡ length (new.lists s)
all_synced items old command new syncs step s = go old.is_open step
  where
    go : (b : Bool) → MatchBool b (OpenStep items old command reply.Done new) (ClosedStep old command reply.Done new) → new.synced s ≡ length (new.lists s)
    go true opened = synced_open items old command new syncs opened s
    go false closed = synced_closed old command new syncs closed s

emptying_takes : (items : ℕ) (st : State (List ℕ)) (command : Asked) (s : ℕ) → IsEmptying items st command s → MayTake items (family_of command) s
emptying_takes items st (Prune bound) s emptying = emptying.1
emptying_takes items st Destroy s emptying = tt
emptying_takes items st command s emptying = absurd emptying

going_takes : (items : ℕ) (st : State (List ℕ)) (command : Asked) (s : ℕ) → IsGoing items st (Some command) s → MayTake items (family_of command) s
going_takes items st (Prune bound) s going = going.1
going_takes items st Destroy s going = tt
going_takes items st command s going = absurd going

module _ (items n : ℕ) (st : State (List ℕ)) (s : ℕ) (few : n ≤ length (st.lists s)) where
  appended_prefix : (i : ℕ) (k v : List ℕ) → take n ((appended items i k v st).lists s) ≡ take n (st.lists s)
  appended_prefix i k v =
      elim (s == section_of items i) as (λ b. take n (if b then st.lists s ++ record { index = i; key = k; value = v } ∷ [] else st.lists s) ≡ take n (st.lists s)) [
        | true ↦ take-append-le n (st.lists s) (record { index = i; key = k; value = v } ∷ []) few
        | false ↦ refl
      ]

  put_prefix : (skip : Bool) (i : ℕ) (k v : List ℕ) → take n ((if skip then st else appended items i k v st).lists s) ≡ take n (st.lists s)
  put_prefix true i k v = refl
  put_prefix false i k v = appended_prefix i k v

  open_prefix : (u : Option Asked) → take n ((with_put items u st).lists s) ≡ take n (st.lists s)
  open_prefix (Some (Put i k v)) = put_prefix (nat_lt i st.floor || has_index items st i) i k v
  open_prefix (Some (PutSync i k v)) = put_prefix (nat_lt i st.floor || has_index items st i) i k v
  open_prefix (Some (PutStart i k v)) = put_prefix (nat_lt i st.floor || has_index items st i) i k v
  open_prefix (Some (Multi i k v)) = put_prefix (nat_lt i st.floor) i k v
  open_prefix (Some (MultiSync i k v)) = put_prefix (nat_lt i st.floor) i k v
  open_prefix (Some (MultiStart i k v)) = put_prefix (nat_lt i st.floor) i k v
  open_prefix u = refl

  submitted_prefix : (u : Option Asked) → take n (submitted items st u s) ≡ take n (st.lists s)
  submitted_prefix u = elim (st.is_open) as (λ b. take n (if b then (with_put items u st).lists s else st.lists s) ≡ take n (st.lists s)) [
    | true ↦ open_prefix u
    | false ↦ refl
  ]

few_marks : (end : End) (commands marks replies : ℕ) → Begun end commands marks replies → (marks ≤ commands) × (marks ≤ replies + 1)
few_marks Done commands marks replies begun = (omega (arith, begun.0), omega (arith, begun.0, begun.1))
few_marks (Failed e) commands marks replies begun = (begun.0, elim begun.1 [ inl one ↦ omega (arith, one) | inr same ↦ omega (arith, same.0) ])

get_within : {X : Type 0} (xs : List X) (i : ℕ) → i < length xs → (x : X) × (slice_get xs i ≡ Some x)
get_within [] i lt = absurd (omega arith)
get_within (x ∷ xs) zero lt = (x, refl)
get_within (x ∷ xs) (suc i) lt = get_within xs i (omega arith)

reads_begun : (o : Option (List ℕ)) → reads (begun o) ≡ o
reads_begun None = refl
reads_begun (Some c) = refl

reads_settled : (image : Image) → as_read (settled_disk image) ≡ image
reads_settled image = λ i k. reads_begun (image k) i

begun_settled : (o : Option (List ℕ)) → IsSettled (begun o)
begun_settled None = record { sure = refl; since = refl; loose = refl; content = refl }
begun_settled (Some c) = record { sure = refl; since = refl; loose = refl; content = refl }

some_weaker : {X : Type 0} (P Q : X → Type 0) → ((x : X) → P x → Q x) → (o : Option X) → IsSomeAnd o P → IsSomeAnd o Q
some_weaker P Q weaker None has = absurd has
some_weaker P Q weaker (Some x) has = weaker x has

module _ (f : Filing) (st : State (List ℕ)) where
  adds_weaker : (P Q : Entry (List ℕ) → Type 0) → ((r : Entry (List ℕ)) → P r → Q r) → (u : Option Asked) → Adds f st u P → Adds f st u Q
  adds_weaker P Q weaker None adds = absurd adds
  adds_weaker P Q weaker (Some command) adds =
      some_weaker (λ put. IsSomeAnd (added_by f st put) P) (λ put. IsSomeAnd (added_by f st put) Q) (λ put. some_weaker P Q weaker (added_by f st put)) (put_of command) adds

  abbrev IsRefused : Entry (List ℕ) → Type 0
  IsRefused r = IsRefusedAsFull f st r ⊎ IsRefusedAsTooLarge f st r

  only_memory : (u : Option Asked) (from : Disk) (e : Error) → (IsFault e → ⊥) → (Adds f st u IsRefused ⊎ (MustMoveNow f st from u × HasNoVersion f.layout from) → ⊥)
      → IsCause f st u from e → e ≡ Mem
  only_memory u from Mem calm lawful cause = refl
  only_memory u from Full calm lawful cause = absurd (lawful (elim cause as (λ _. Adds f st u IsRefused ⊎ (MustMoveNow f st from u × HasNoVersion f.layout from)) [
    | inl adds ↦ inl (adds_weaker (IsRefusedAsFull f st) IsRefused (λ r full. inl full) u adds)
    | inr moves ↦ inr moves
  ]))
  only_memory u from (Journal journal.ValueTooLarge) calm lawful cause = absurd (lawful (inl (adds_weaker (IsRefusedAsTooLarge f st) IsRefused (λ r large. inr large) u cause)))
  only_memory u from (Journal (journal.Runtime runtime.Fault)) calm lawful cause = absurd (calm (inl refl))
  only_memory u from (Metadata (metadata.Runtime runtime.Fault)) calm lawful cause = absurd (calm (inr refl))
  only_memory u from e calm lawful cause = absurd cause

memory_or_not : (e : Error) → (e ≡ Mem) ⊎ (e ≢ Mem)
memory_or_not Mem = inl refl
memory_or_not e = inr (λ same. cc same)

failed_fault : (faults_old faults_new : ℕ) (end : End) (e : Error) → end ≡ Failed e → IfFailed end (λ x. IsFault x → Rose faults_old faults_new) → IsFault e → Rose faults_old faults_new
failed_fault faults_old faults_new end e is fault = subst (λ (x : End). IfFailed x (λ y. IsFault y → Rose faults_old faults_new)) is fault

module _ (f : Filing) (write_buffer value_buffer : ℕ) (old new : Timeline) (commands : List Asked) (marks : List ℕ) (faults_old faults_new : ℕ) (replies : List Replied) (end : End)
    (served : IsServed f write_buffer value_buffer old new commands marks faults_old faults_new replies end) where
  abbrev states : ℕ → State (List ℕ)
  states = served.states

  few : (length marks ≤ length commands) × (length marks ≤ length replies + 1)
  few = few_marks end (length commands) (length marks) (length replies) served.begun

  step_at : (j : ℕ) → j < length replies → (command : Asked) × (slice_get commands j ≡ Some command) × ((given : Replied) × (slice_get replies j ≡ Some given) × Step f.items (states j) command given (states (j + 1)))
  step_at j lt =
      let command = get_within commands j (omega (arith, lt, served.run.enough)) in
      let given = get_within replies j lt in
      (command.0, command.1, (given.0, given.1, served.run.steps j command.0 given.0 command.1 given.1))

  in_order : (j : ℕ) → j ≤ length replies → IsInOrder (states j)
  in_order zero le = λ s. omega (arith, served.start.1.synced s)
  in_order (suc j) le =
      let step = step_at j (omega (arith, le)) in
      let next : suc j ≡ j + 1 = omega arith in
      subst (λ (n : ℕ). IsInOrder (states n)) (sym next) (step_keeps_order f.items (states j) step.0 step.2.0 (states (j + 1)) step.2.2 (in_order j (omega (arith, le))))

  module _ (i : ℕ) (durable : HasSynced commands replies i) (s : ℕ) where
    abbrev was : List (Entry (List ℕ))
    was = (states (i + 1)).lists s

    last : i < length replies
    last = slice_get_within replies i reply.Done durable.done

    whole : (states (i + 1)).synced s ≡ length was
    whole = all_synced f.items (states i) durable.command (states (i + 1)) durable.syncs (served.run.steps i durable.command reply.Done durable.is durable.done) s

    -- of the section as it was synced, in a later state
    pub record StillThere (n : ℕ) : Type 0 where
      pub still : take (length was) ((states n).lists s) ≡ was
      pub synced : length was ≤ (states n).synced s

    -- no command from behind i to before n takes the section away
    abbrev IsSparedTo : ℕ → Type 0
    IsSparedTo n = IsSpared f.items commands i n s

    still_there : (more : ℕ) → i + 1 + more ≤ length replies → IsSparedTo (i + 1 + more) → StillThere (i + 1 + more)
    still_there zero le spared =
        let same : i + 1 ≡ i + 1 + 0 = omega arith in
        subst StillThere same (record { still = take-length was; synced = omega (arith, whole) })
    still_there (suc more) le spared =
        let j : ℕ = i + 1 + more in
        let next : j + 1 ≡ i + 1 + suc more = omega arith in
        let step = step_at j (omega (arith, le)) in
        let before = still_there more (omega (arith, le)) (λ k command after lt. spared k command after (omega (arith, lt))) in
        elim (step_keeps_synced f.items (states j) step.0 step.2.0 (states (j + 1)) step.2.2 (in_order j (omega (arith, le))) s) as (λ _. StillThere (i + 1 + suc more)) [
          | inl keeps ↦
              let n : ℕ = length was in
              let first : take n (take ((states j).synced s) ((states (j + 1)).lists s)) ≡ take n ((states (j + 1)).lists s) = take-take n ((states j).synced s) ((states (j + 1)).lists s) before.synced in
              let second : take n (take ((states j).synced s) ((states j).lists s)) ≡ take n ((states j).lists s) = take-take n ((states j).synced s) ((states j).lists s) before.synced in
              subst StillThere next (record {
                still = sym first ∙ ap (take n) keeps.still ∙ second ∙ before.still;
                synced = omega (arith, before.synced, keeps.synced);
              })
          | inr emptying ↦ absurd (spared j step.0 (omega arith) (omega arith) step.1 (emptying_takes f.items (states j) step.0 s emptying))
        ]

    keeps_at : (n : ℕ) → i + 1 ≤ n → n ≤ length replies → IsSparedTo n → (u : Option Asked) (d : Disk) → (IsGoing f.items (states n) u s → ⊥) → s < 2 ^ 64
        → Leaves f (states n) u d → KeepsRecords f (states (i + 1)) s d
    keeps_at n from to spared u d stays small leaves image crash calm =
        let same : i + 1 + (n - (i + 1)) ≡ n = omega (arith, from) in
        let there : StillThere n = subst StillThere same (still_there (n - (i + 1)) (omega (arith, same, to)) (λ j command after lt. spared j command after (omega (arith, lt, same)))) in
        let stands = leaves image crash calm in
        let order = in_order n to s in
        elim (stands.each s small) as (λ _. (markers : Markers) × HoldMarkers f.layout image markers × (take (length was) (kept f image markers s) ≡ was)) [
          | inl held ↦
              let list = kept f image stands.markers s in
              let at_least : length was ≤ length list = omega (arith, there.synced, held.synced) in
              let cut : take (length was) list ≡ take (length was) (submitted f.items (states n) u s) =
              ap (take (length was)) held.same ∙ take-take (length was) (length list) (submitted f.items (states n) u s) at_least in
              (stands.markers, stands.lawful.pair.held, cut ∙ submitted_prefix f.items (length was) (states n) s (omega (arith, there.synced, order)) u ∙ there.still)
          | inr gone ↦ absurd (stays gone.1)
        ]

    -- the command under way does not take the section away
    not_going : (n : ℕ) → n < length marks → IsSparedTo (n + 1) → i < n → IsGoing f.items (states n) (slice_get commands n) s → ⊥
    not_going n lt spared after going =
        let command = get_within commands n (omega (arith, lt, few.0)) in
        spared n command.0 after (omega arith) command.1 (going_takes f.items (states n) command.0 s (subst (λ (o : Option Asked). IsGoing f.items (states n) o s) command.1 going))

    outlasts_at : (n : ℕ) → s < 2 ^ 64 → i + 1 ≤ n → n + 1 ≤ length marks → IsSparedTo (n + 1) → (m : ℕ) → 2 * begin old new marks (suc n) ≤ m → m ≤ 2 * begin old new marks (suc n + 1)
        → KeepsRecords f (states (i + 1)) s (new.at m)
    outlasts_at n small from to spared m lo hi =
        keeps_at n from (omega (arith, to, few.1)) (λ j command after lt. spared j command after (omega (arith, lt))) (slice_get commands n) (new.at m)
        (not_going n (omega (arith, to)) spared (omega (arith, from))) small (served.moments.each (suc n) (omega (arith, to)) m lo hi)

    pub outlasts : (t : ℕ) → s < 2 ^ 64 → i + 2 ≤ t → t ≤ length marks → IsSparedTo t → (m : ℕ) → 2 * begin old new marks t ≤ m → m ≤ 2 * begin old new marks (t + 1)
        → KeepsRecords f (states (i + 1)) s (new.at m)
    outlasts zero small from to spared m lo hi = absurd (omega arith)
    outlasts (suc n) small from to spared m lo hi =
        let next : n + 1 ≡ suc n = omega arith in
        outlasts_at n small (omega (arith, from)) (omega (arith, to)) (subst IsSparedTo (sym next) spared) m lo hi

    pub outlasts_end : s < 2 ^ 64 → length marks ≡ length replies → IsSparedTo (length marks) → KeepsRecords f (states (i + 1)) s (disk new)
    outlasts_end small same spared =
        keeps_at (length replies) (omega (arith, last)) (omega arith) (λ j command after lt. spared j command after (omega (arith, lt, same))) None (disk new) (λ going. going) small (served.rest same)

  pub run_complete : (Rose faults_old faults_new → ⊥) → (HadToRefuse f (state_in states (length marks)) (under_way commands (length marks)) (disk_at old new marks (length marks)) → ⊥)
      → (e : Error) → end ≡ Failed e → e ≡ Mem
  run_complete calm lawful e is = elim (memory_or_not e) as (λ _. e ≡ Mem) [
    | inl memory ↦ memory
    | inr other ↦ only_memory f (state_in states (length marks)) (under_way commands (length marks)) (disk_at old new marks (length marks)) e
        (λ fault. calm (failed_fault faults_old faults_new end e is served.fault fault)) lawful (served.stopped e is other)
  ]

  pub goes_on_from : (t m : ℕ) (image : Image) → t ≤ length marks → 2 * begin old new marks t ≤ m → m ≤ 2 * begin old new marks (t + 1)
      → IsCrashOf (new.at m) image → NoChanceSeal f.layout (new.at m) image → IsNext f (state_in states t) (under_way commands t) image
  goes_on_from t m image le lo hi crash calm =
      let stands : StandsFor f (state_in states t) (under_way commands t) image = served.moments.each t (omega (arith, le)) m lo hi image crash calm in
      let lawful : Lawful f (as_read (settled_disk image)) stands.markers = subst (λ (x : Image). Lawful f x stands.markers) (sym (reads_settled image)) stands.lawful in
      record {
        nothing_pending = λ k. begun_settled (image k);
        markers = stands.markers;
        lawful = lawful;
        next = start_of f (as_read (settled_disk image)) stands.markers;
        start = starts f (as_read (settled_disk image)) stands.markers lawful;
        stands = subst (λ (x : Image). StandsFor f (state_in states t) (under_way commands t) x) (sym (reads_settled image)) stands;
      }

  pub laws_of_run : RunLaws f write_buffer value_buffer old new commands marks faults_old faults_new replies end served
  laws_of_run = record {
    outlasting = record {
      moments = λ i t s durable small from to spared. outlasts i durable s t small from to spared;
      rest = λ i s durable small same spared. outlasts_end i durable s small same spared;
    };
    complete = run_complete;
    next = goes_on_from;
  }
