-- What a put that syncs promises, by a sync or by one that is started, of one record to an index or of one of several, in the terms of a store that serves commands.
use Rattle.std.specs.Prelude.{⊤}
use Rattle.std.proofs.Common.{◌≡◌, ◌⊎◌, ◌↔◌, inl, inr, refl, sym, ◌∙◌, ap, subst, ℕ, ◌||◌, ◌&&◌, not, ◌==◌, nat_lt, if◌then◌else◌, Bool, true, false, List, [], ◌∷◌, ◌++◌, length, Some, None, Result, Ok, Err, arith, length-append}
use Rattle.blob_device.specs.Disk.{Disk, Key}
use Rattle.blob_device.specs.Timeline.{disk}
use Rattle.blob_device.specs.declared.device.Device as device
use Rattle.blob_device.specs.declared.runtime.RError.TheVariants as runtime
use Rattle.meta_store.specs.declared.error.Error.TheVariants as metadata
use Rattle.section_manager.specs.declared.journal.Error.TheVariants as journal
use Rattle.section_manager.specs.declared.sealed.AppendFactory.{AppendFactory}
use Rattle.sealed_pages.specs.declared.page_blob.PageBlob.{PageBlob}
use Rattle.paired.specs.Crashes.{IsOwn}
use Rattle.paired.specs.Pair.{synced_length}
use Rattle.archives.specs.Archives.{IsSoundArchive}
use Rattle.archives.specs.Changes.{Asked, outcome}
use Rattle.archives.specs.Commands.{MultiStart, MultiSync, PutStart, PutSync, Reopen, Sync}
use Rattle.archives.specs.Filing.{Filing}
use Rattle.archives.specs.Machine.{Entry, State, appended, section_of}
use Rattle.archives.specs.Prunable.{Prunable, Setup, filing_by}
use Rattle.archives.specs.Opening.{HasNoVersion}
use Rattle.archives.specs.Putting.{IsFullFor, IsMovingAfter, Often, Once, Times, after_putting, frame_size, is_skipped, put_start_command, put_sync_command}
use Rattle.archives.specs.Puts.{Refuses}
use Rattle.archives.specs.Replies as reply
use Rattle.archives.specs.Syncing.{IsMovingBy, IsMovingIn}
use Rattle.archives.specs.Syncs.{IsPutSyncCause, PutSynced, PutSyncs, PutThenSync, put, refused}
use Rattle.archives.specs.declared.error.Error.{Error}
use Rattle.archives.specs.declared.error.Error.TheVariants.{Full, Journal, Mem, Metadata}
use Rattle.archive_service.specs.Causes.{Held, IsCause, IsCauseAnywhere, IsPastAll, IsPastSizeAlone, IsRefusedAsFull, IsRefusedAsTooLarge, IsSurelyFull, MustMove, MustMoveHeld, MustRefuse, MustRefuseAnywhere, RefusesAnywhere, RefusesPut, rows_with}
use Rattle.archive_service.specs.Families.{PutOf, family_of, put_of}
use Rattle.archive_service.specs.StoreCalls.{AnswerEnds, Answers}
use Rattle.archive_service.specs.PrunableKind.{ClearsOpen, HoldsPutAndSynced, IsQuiet, Learns, MayChange}
use Rattle.archive_service.specs.PrunableStore.{IsUsableStore, held_by, openable_serving}
use Rattle.archive_service.specs.declared.store.openable.Openable.TheVariants.{Open}
use Rattle.archive_service.proofs.PutAnswers.{held_never, put_holds, put_usable, refused_never}
use Rattle.archive_service.proofs.StoreLemmas.{quiet_open}
use Rattle.archive_service.proofs.SyncAnswers.{sync_holds, sync_usable}
use Rattle.archive_service.specs.lemmas.Store.{Given, PutsIt, adds_full, always_as, as_asked, full_adds, full_for, holds_now, large_adds, lists_long, nothing_done, now_holds, past, past_size, puts_it, putting, rows_are, rows_long, serving_by, st, surely_full}

module _ {A V S D : Type 0} {gs : _} (p : Prunable A V (AppendFactory S) (PageBlob S gs)) (setup : Setup V) (valid : Type 0) (dev : device.Ghosts D) (a : A) (old : D) (given : Given p setup valid dev a old)
    (times : Times) (i : ℕ) (k v : List ℕ) where
  abbrev filing : Filing
  filing = filing_by p a

  abbrev from : Disk
  from = disk (dev.time old)

  abbrev was : State (List ℕ)
  was = st p setup valid dev a old given

  abbrev r : Entry (List ℕ)
  r = record { index = i; key = k; value = v }

  abbrev putted : PutOf
  putted = putting times r

  abbrev skip : Bool
  skip = is_skipped (p.see a) i times

  abbrev n : ℕ
  n = frame_size filing.layout v

  abbrev here : ℕ
  here = section_of (p.see a).items i

  abbrev after : State (List ℕ)
  after = after_putting times (p.see a).items i k v was

  -- a marker has to move once the record was put: by the state, and by what is held
  abbrev Moves : Type 0
  Moves = IsMovingIn filing from after

  abbrev MovesHeld : Type 0
  MovesHeld = IsMovingBy filing from (λ s. length (rows_with filing (held_by p a) putted s)) (synced_length (p.see a).pair)

  -- ---- what has to move, by what is held

  module _ (t : dev.Tells) where
    moves_of : IsMovingAfter (p.see a) i skip → Moves
    moves_of moving = ((given.laws.state t).moving_after times i k v).0 moving

    -- the state with what is put, by what the archive skips
    abbrev choice : Bool → State (List ℕ)
    choice b = if b then was else appended (p.see a).items i k v was

    after_of : (m : Times) → after_putting m (p.see a).items i k v was ≡ choice (is_skipped (p.see a) i m)
    after_of Once = ap (λ (b : Bool). choice (nat_lt i (p.see a).floor || b)) (sym ((given.laws.state t).taken i))
    after_of Often = refl

    -- as many rows as records
    lengths_are : (b : Bool) (s : ℕ) → length (if not b && (s == here) then (p.see a).rows s ++ record { index = i; key = k } ∷ [] else (p.see a).rows s) ≡ length ((choice b).lists s)
    lengths_are true s = rows_long p setup valid dev a old given t s ∙ sym (lists_long p setup valid dev a old given s)
    lengths_are false s =
        let same : length ((p.see a).rows s) ≡ length (was.lists s) = rows_long p setup valid dev a old given t s ∙ sym (lists_long p setup valid dev a old given s) in
        elim (s == here) as (λ b. length (if b then (p.see a).rows s ++ record { index = i; key = k } ∷ [] else (p.see a).rows s) ≡ length (if b then was.lists s ++ r ∷ [] else was.lists s)) [
          | true ↦ omega (arith, length-append ((p.see a).rows s) (record { index = i; key = k } ∷ []), length-append (was.lists s) (r ∷ []), same)
          | false ↦ same
        ]

    held_long : (s : ℕ) → length (rows_with filing (held_by p a) putted s) ≡ length (after.lists s)
    held_long s = ap length (rows_are p setup valid dev a old given times i k v s) ∙ lengths_are skip s ∙ ap (λ (x : State (List ℕ)). length (x.lists s)) (sym (after_of times))

    synced_of : (b : Bool) (s : ℕ) → (choice b).synced s ≡ synced_length (p.see a).pair s
    synced_of true s = refl
    synced_of false s = refl

    synced_is : (s : ℕ) → after.synced s ≡ synced_length (p.see a).pair s
    synced_is s = ap (λ (x : State (List ℕ)). x.synced s) (after_of times) ∙ synced_of skip s

    moves_held : Moves → MovesHeld
    moves_held moving =
        subst (λ (long : ℕ → ℕ). IsMovingBy filing from long (synced_length (p.see a).pair)) (λ j s. sym (held_long s) j)
        (subst (λ (synced : ℕ → ℕ). IsMovingBy filing from (λ s. length (after.lists s)) synced) (λ j s. synced_is s j) moving)

    held_moves : MovesHeld → Moves
    held_moves moving =
        subst (λ (synced : ℕ → ℕ). IsMovingBy filing from (λ s. length (after.lists s)) synced) (λ j s. sym (synced_is s) j)
        (subst (λ (long : ℕ → ℕ). IsMovingBy filing from long (synced_length (p.see a).pair)) (λ j s. held_long s j) moving)

    lawful : (x : A) → PutSynced p dev times a i x → Moves × HasNoVersion filing.layout from → ⊥
    lawful x done must =
        let some = done.version (((given.laws.state t).moving_after times i k v).1 must.0) in
        omega (arith, some, (given.laws.state t).version.1 must.1)

  -- ---- what the archive then is, by the put and the sync behind it

  module _ (x : A) (new : D) where
    parts_usable : PutThenSync p dev times a i k v (Ok x) old new → IsUsableStore p setup x dev.Tells (dev.opened new) (disk (dev.time new))
    parts_usable (refused e failed puts) = absurd (cc failed)
    parts_usable (put mid between puts syncs) =
        let changes = syncs.settles.changes Sync (inl refl) in
        sync_usable p setup valid dev mid between (put_usable p setup valid dev a old given times i k v mid puts.ends between puts.changes.ends.over puts.changes.ends.alike.accepts)
        x new syncs.ends changes.ends.over changes.ends.alike.accepts

    parts_hold : dev.Tells → PutThenSync p dev times a i k v (Ok x) old new → HoldsPutAndSynced filing setup.write_buffer setup.value_buffer (held_by p a) putted (held_by p x)
    parts_hold t (refused e failed puts) = absurd (cc failed)
    parts_hold t (put mid between puts syncs) = record {
      between = held_by p mid;
      holds_put = put_holds p setup valid dev a old given times i k v mid puts.ends t;
      synced = sync_holds p setup valid dev mid between (put_usable p setup valid dev a old given times i k v mid puts.ends between puts.changes.ends.over puts.changes.ends.alike.accepts)
          x new syncs.ends (syncs.settles.changes Sync (inl refl)).ends.over filing t;
    }

  -- ---- either command: a put and a sync, or a sync that is started

  -- It puts the record, and has to move what a put and a sync have to.
  record PutsAndSyncs (c : Asked) : Type 1 where
    pub it : PutsIt p setup valid dev a old given times i k v c
    pub is : (c ≡ put_sync_command times i k v) ⊎ (c ≡ put_start_command times i k v)
    pub changes : (q : Key) → IsOwn filing.layout (λ _. ⊤) q → MayChange filing setup.write_buffer setup.value_buffer (family_of c) q
    pub moves : Moves → MustMove filing was from c
    pub moved : MustMove filing was from c → Moves
    pub moves_held : MovesHeld → MustMoveHeld filing (held_by p a) from (Some c)
    pub moved_held : MustMoveHeld filing (held_by p a) from (Some c) → MovesHeld
    pub loud : IsQuiet filing setup.write_buffer setup.value_buffer (held_by p a) c → ⊥
    pub learns : (to : Disk) (next : Held) → HoldsPutAndSynced filing setup.write_buffer setup.value_buffer (held_by p a) putted next
        → Learns filing setup.write_buffer setup.value_buffer (held_by p a) (family_of c) from to next

  -- So it is where the command puts the record, and what it changes, moves, tells and learns is what these two do.
  acting : (c : Asked) → put_of c ≡ Some putted → (c ≡ Reopen → ⊥) → ((q : Key) → ClearsOpen filing setup.write_buffer setup.value_buffer (family_of c) q → ⊥)
      → (c ≡ put_sync_command times i k v) ⊎ (c ≡ put_start_command times i k v)
      → ((q : Key) → IsOwn filing.layout (λ _. ⊤) q → MayChange filing setup.write_buffer setup.value_buffer (family_of c) q)
      → (Moves ↔ MustMove filing was from c) → (MovesHeld ↔ MustMoveHeld filing (held_by p a) from (Some c))
      → (IsQuiet filing setup.write_buffer setup.value_buffer (held_by p a) c → ⊥)
      → ((to : Disk) (next : Held) → HoldsPutAndSynced filing setup.write_buffer setup.value_buffer (held_by p a) putted next
      → Learns filing setup.write_buffer setup.value_buffer (held_by p a) (family_of c) from to next)
      → PutsAndSyncs c
  acting c same never clears is changes moves held loud learns = record {
    it = puts_it p setup valid dev a old given times i k v c same never clears;
    is = is;
    changes = changes;
    moves = moves.0;
    moved = moves.1;
    moves_held = held.0;
    moved_held = held.1;
    loud = loud;
    learns = learns;
  }

  abbrev failing : Error → Result A Error
  failing e = Err e

  module _ (c : Asked) (acts : PutsAndSyncs c) where
    module _ (t : dev.Tells) where
      cause_of : IsSoundArchive (p.see a) from → (before now : ℕ) (e : Error) → IsPutSyncCause (p.see a) i skip n dev.Tells before now e → IsCause filing was (Some c) from e
      cause_of sound before now Mem why = tt
      cause_of sound before now Full why = elim why as (λ _. IsCause filing was (Some c) from Full) [
        | inl full ↦ inl (acts.it.adds (IsRefusedAsFull filing was) (full_adds p setup valid dev a old given times i k v t sound (full_for p setup valid dev a old given times i k v t full)))
        | inr moving ↦ inr (acts.moves (moves_of t moving.1), (given.laws.state t).version.0 moving.0)
      ]
      cause_of sound before now (Journal (journal.Runtime runtime.Fault)) why = tt
      cause_of sound before now (Metadata (metadata.Runtime runtime.Fault)) why = inr (inr (acts.moves (moves_of t why.1)))
      cause_of sound before now (Journal journal.ValueTooLarge) why = acts.it.adds (IsRefusedAsTooLarge filing was) (large_adds p setup valid dev a old given times i k v t why)
      cause_of sound before now e why = absurd why

      anywhere_of : (to : Disk) (before now : ℕ) (e : Error) → IsPutSyncCause (p.see a) i skip n dev.Tells before now e → IsCauseAnywhere filing (held_by p a) (Some c) from to e
      anywhere_of to before now Mem why = tt
      anywhere_of to before now Full why = elim why as (λ _. IsCauseAnywhere filing (held_by p a) (Some c) from to Full) [
        | inl full ↦ (let known = full_for p setup valid dev a old given times i k v t full in inl (acts.it.holds (IsPastAll filing (held_by p a))
            (holds_now p setup valid dev a old given times i k v (IsPastAll filing (held_by p a)) known.free (past p setup valid dev a old given times i k v t known))))
        | inr moving ↦ inr (inr (acts.moves_held (moves_held t (moves_of t moving.1)), (given.laws.state t).version.0 moving.0))
      ]
      anywhere_of to before now (Journal (journal.Runtime runtime.Fault)) why = tt
      anywhere_of to before now (Metadata (metadata.Runtime runtime.Fault)) why = inr (inr (acts.moves_held (moves_held t (moves_of t why.1))))
      anywhere_of to before now (Journal journal.ValueTooLarge) why = acts.it.holds (IsPastSizeAlone filing (held_by p a))
          (holds_now p setup valid dev a old given times i k v (IsPastSizeAlone filing (held_by p a)) why.free (past_size p setup valid dev a old given times i k v t why))
      anywhere_of to before now e why = absurd why

      -- what has to be refused is not done
      never_sound : IsSoundArchive (p.see a) from → (x : A) {new : D} → Refuses (p.see a) i skip n dev.Tells (Ok x) old new → PutSynced p dev times a i x → MustRefuse filing was from c → ⊥
      never_sound sound x refuses done (inl adds) = refused_never p setup valid dev a old given times i k v t sound x refuses
          (acts.it.added (λ q. IsRefusedAsFull filing was q ⊎ IsRefusedAsTooLarge filing was q) adds)
      never_sound sound x refuses done (inr moving) = lawful t x done (acts.moved moving.0, moving.1)

      never_held : (x : A) {new : D} → Refuses (p.see a) i skip n dev.Tells (Ok x) old new → PutSynced p dev times a i x → MustRefuseAnywhere filing (held_by p a) from c → ⊥
      never_held x refuses done (inl holds) = held_never p setup valid dev a old given times i k v t x refuses
          (acts.it.held (λ q. IsSurelyFull filing (held_by p a) q ⊎ IsPastSizeAlone filing (held_by p a) q) holds)
      never_held x refuses done (inr (inl moving)) = lawful t x done (held_moves t (acts.moved_held moving.0), moving.1)
      never_held x refuses done (inr (inr over)) = acts.it.no_reopen over.0

      -- what is refused has written nothing
      module _ (new : D) (e : Error) (refuses : Refuses (p.see a) i skip n dev.Tells (failing e) old new) (large : e ≡ Journal journal.ValueTooLarge → new ≡ old) where
        full_unwritten : e ≡ Full → IsFullFor (p.see a) i skip n → new ≡ old
        full_unwritten is full = elim (refuses.no_room t full) as (λ _. new ≡ old) [ inl both ↦ both.1 | inr memory ↦ absurd (cc (memory, is)) ]

        sound_unwritten : IsSoundArchive (p.see a) from → RefusesPut filing was c e → new ≡ old
        sound_unwritten sound (inl full) = full_unwritten full.0 (adds_full p setup valid dev a old given times i k v t sound (acts.it.added (IsRefusedAsFull filing was) full.1))
        sound_unwritten sound (inr too) = large too.0

        held_unwritten : RefusesAnywhere filing (held_by p a) c e → new ≡ old
        held_unwritten (inl full) =
            let holds = now_holds p setup valid dev a old given times i k v (IsSurelyFull filing (held_by p a)) (acts.it.held (IsSurelyFull filing (held_by p a)) full.1) in
            full_unwritten full.0 (surely_full p setup valid dev a old given times i k v t holds.0 holds.1)
        held_unwritten (inr too) = large too.0

    module _ (new : D) where
      either_ends : (result : Result A Error) → PutSyncs p dev times a i k v result old new → AnswerEnds (serving_by p setup valid dev filing) dev (Open a) c (outcome (λ x. (Open x, reply.Done)) result) old new
      either_ends (Ok x) syncs = (let changes = syncs.changes c acts.is in record {
        usable = parts_usable x new syncs.parts;
        sound = changes.ends.sound;
        step = changes.ends.step;
        reopened = λ t sound is. absurd (acts.it.no_reopen is);
        allowed = λ t sound. never_sound t sound x syncs.refuses syncs.ends;
        rest = λ t sound. (changes.ends.alike.leaves _ None _).1 (changes.ends.rest t sound);
        learns = λ t. acts.learns (disk (dev.time new)) (held_by p x) (parts_hold x new t syncs.parts);
        cleared = λ t q both. absurd (acts.it.clears q both);
        allowed_anywhere = λ t. never_held t x syncs.refuses syncs.ends;
      })
      either_ends (Err e) syncs = record {
        cause = λ t sound. cause_of t sound (dev.faults old) (dev.faults new) e syncs.ends.cause;
        unwritten = λ t sound refuses. nothing_done dev.time old new (sound_unwritten t new e syncs.refuses syncs.ends.too_large sound refuses);
        anywhere = λ t. anywhere_of t (disk (dev.time new)) (dev.faults old) (dev.faults new) e syncs.ends.cause;
        unwritten_anywhere = λ t refuses. nothing_done dev.time old new (held_unwritten t new e syncs.refuses syncs.ends.too_large refuses);
        fault = (syncs.changes c acts.is).ends;
      }

      either_at : (result : Result A Error) → PutSyncs p dev times a i k v result old new → Answers (serving_by p setup valid dev filing) dev (Open a) c (outcome (λ x. (Open x, reply.Done)) result) old new
      either_at result syncs =
          let changes = syncs.changes c acts.is in
          record {
            moments = changes.moments;
            alone = λ t. always_as (dev.time old) (dev.time new) _ _ (λ x same q other. same q (λ own. other (acts.changes q own))) (changes.footprint.alone t);
            footprint = changes.footprint;
            quiet = λ t still. absurd (acts.loud still);
            ends = either_ends result syncs;
          }

      either_answers : (result : Result A Error) → PutSyncs p dev times a i k v result old new → Answers (openable_serving p setup valid) dev (Open a) c (outcome (λ x. (Open x, reply.Done)) result) old new
      either_answers result syncs = as_asked p setup valid dev a old given c (outcome (λ x. (Open x, reply.Done)) result) new (either_at result syncs)

module _ {A V S D : Type 0} {gs : _} (p : Prunable A V (AppendFactory S) (PageBlob S gs)) (setup : Setup V) (valid : Type 0) (dev : device.Ghosts D) (a : A) (old : D) (given : Given p setup valid dev a old) where
  by_sync : (times : Times) (i : ℕ) (k v : List ℕ) → PutsAndSyncs p setup valid dev a old given times i k v (put_sync_command times i k v)
  by_sync Once i k v = acting p setup valid dev a old given Once i k v (PutSync i k v) refl (λ is. cc is) (λ q none. none) (inl refl)
      (λ q it. it) ((λ it. (refl, it)), (λ it. it.1)) ((λ it. (refl, it)), (λ it. it.1)) quiet_open (λ to next it. it)
  by_sync Often i k v = acting p setup valid dev a old given Often i k v (MultiSync i k v) refl (λ is. cc is) (λ q none. none) (inl refl)
      (λ q it. it) ((λ it. (refl, it)), (λ it. it.1)) ((λ it. (refl, it)), (λ it. it.1)) quiet_open (λ to next it. it)

  by_start : (times : Times) (i : ℕ) (k v : List ℕ) → PutsAndSyncs p setup valid dev a old given times i k v (put_start_command times i k v)
  by_start Once i k v = acting p setup valid dev a old given Once i k v (PutStart i k v) refl (λ is. cc is) (λ q none. none) (inr refl)
      (λ q it. it) ((λ it. (refl, it)), (λ it. it.1)) ((λ it. (refl, it)), (λ it. it.1)) quiet_open (λ to next it. it)
  by_start Often i k v = acting p setup valid dev a old given Often i k v (MultiStart i k v) refl (λ is. cc is) (λ q none. none) (inr refl)
      (λ q it. it) ((λ it. (refl, it)), (λ it. it.1)) ((λ it. (refl, it)), (λ it. it.1)) quiet_open (λ to next it. it)

  pub put_sync_answers : (times : Times) (i : ℕ) (k v : List ℕ) (new : D) (result : Result A Error) → PutSyncs p dev times a i k v result old new
      → Answers (openable_serving p setup valid) dev (Open a) (put_sync_command times i k v) (outcome (λ x. (Open x, reply.Done)) result) old new
  put_sync_answers times i k v new = either_answers p setup valid dev a old given times i k v (put_sync_command times i k v) (by_sync times i k v) new

  pub put_start_answers : (times : Times) (i : ℕ) (k v : List ℕ) (new : D) (result : Result A Error) → PutSyncs p dev times a i k v result old new
      → Answers (openable_serving p setup valid) dev (Open a) (put_start_command times i k v) (outcome (λ x. (Open x, reply.Done)) result) old new
  put_start_answers times i k v new = either_answers p setup valid dev a old given times i k v (put_start_command times i k v) (by_start times i k v) new
