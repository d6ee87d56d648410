-- What the removal of an archive promises, and what a removed one answers, in the terms of a store that serves commands.
use Rattle.std.specs.Prelude.{⊤, IsTrue}
use Rattle.std.proofs.Common.{◌≡◌, ◌⊎◌, inl, inr, refl, sym, ◌∙◌, ap, subst, ℕ, ◌<◌, true, false, List, [], Option, None, Some, IsSomeAnd, Result, Ok, Err}
use Rattle.blob_device.specs.Disk.{Disk}
use Rattle.blob_device.specs.Footprint.{NoBound}
use Rattle.blob_device.specs.Timeline.{disk}
use Rattle.blob_device.specs.declared.device.Device as device
use Rattle.blob_device.specs.declared.runtime.RError.TheVariants as runtime
use Rattle.blob_device.specs.lemmas.Footprint.{footprint_none}
use Rattle.meta_store.specs.declared.error.Error.TheVariants as metadata
use Rattle.section_manager.specs.declared.journal.Error.TheVariants as journal
use Rattle.section_manager.specs.declared.sealed.AppendFactory.{AppendFactory}
use Rattle.sealed_pages.specs.declared.page_blob.PageBlob.{PageBlob}
use Rattle.paired.specs.Crashes.{IsOwn}
use Rattle.paired.specs.Opening.{MayBeOpened}
use Rattle.archives.specs.Changes.{Asked, Replied, outcome}
use Rattle.archives.specs.Commands.{Command, Put, PutSync, PutStart, Multi, MultiSync, MultiStart, Sync, Start, Prune, Reopen, Destroy}
use Rattle.archives.specs.Destroys.{IsDestroyCause, Removes}
use Rattle.archives.specs.Filing.{Filing}
use Rattle.archives.specs.Machine.{ClosedStep, Entry, State, asked, section_of}
use Rattle.archives.specs.Prunable.{Prunable, Setup, filing_by}
use Rattle.archives.specs.Replies as reply
use Rattle.archives.specs.Standing.{IsGoing, Leaves}
use Rattle.archives.specs.Syncing.{IsMovingBy, IsMovingIn}
use Rattle.archives.specs.declared.commands.Command as asking
use Rattle.archives.specs.declared.error.Error.{Error}
use Rattle.archives.specs.declared.error.Error.TheVariants.{Journal, Mem, Metadata}
use Rattle.archive_service.specs.Causes.{Held, IsCause, IsCauseAnywhere, MustMove, MustMoveHeld, PutsBy, Stages, added_by, adds_to, bytes_with, rows_then, rows_with, with_put_of}
use Rattle.archive_service.specs.Families.{IfFree, InAnyCase, PutOf, family_of, put_of}
use Rattle.archive_service.specs.StoreCalls.{AnswerEnds, Answers}
use Rattle.archive_service.specs.PrunableKind.{HoldsPut, HoldsPutAndSynced, HoldsSynced, Learns}
use Rattle.archive_service.specs.PrunableStore.{closed_held, closed_state, held_by, openable_serving}
use Rattle.archive_service.specs.declared.store.openable.Openable.{Openable}
use Rattle.archive_service.specs.declared.store.openable.Openable.TheVariants.{Closed, Open}
use Rattle.archive_service.proofs.StoreLemmas.{leaves_as, no_refusal, quiet_open, refused_by_none, refused_by_none_now}
use Rattle.archive_service.specs.lemmas.Store.{Given, as_asked, nothing_done, own, serving_by, st, unchanged_always}

-- ---- cases of a command

pub one_of : {P Q R : Type 0} → P ⊎ Q → (P → R) → (Q → R) → R
one_of (inl p) here there = here p
one_of (inr q) here there = there q

-- a command that is another one does not ask for what that one does not
pub not_so : {K V W : Type 0} (key_bytes : K → List ℕ) (spelled : V → W) (command : asking.Command K V) (what : Command W) → asked key_bytes spelled command ≡ what
    → (other : asking.Command K V) → command ≡ other → (asked key_bytes spelled other ≡ what → ⊥) → ⊥
not_so key_bytes spelled command what is other same never = never (sym (ap (asked key_bytes spelled) same) ∙ is)

-- ---- a removal

module _ {A V S D : Type 0} {gs : _} (p : Prunable A V (AppendFactory S) (PageBlob S gs)) (setup : Setup V) (valid : Type 0) (dev : device.Ghosts D) (a : A) (old : D) (given : Given p setup valid dev a old) where
  abbrev filing : Filing
  filing = filing_by p a

  abbrev from : Disk
  from = disk (dev.time old)

  abbrev was : State (List ℕ)
  was = st p setup valid dev a old given

  abbrev shut : Openable A
  shut = Closed (p.see a).floor

  destroy_cause : (before now : ℕ) (e : Error) → IsDestroyCause before now e → IsCause filing was (Some Destroy) from e
  destroy_cause before now Mem why = tt
  destroy_cause before now (Journal (journal.Runtime runtime.Fault)) why = tt
  destroy_cause before now (Metadata (metadata.Runtime runtime.Fault)) why = inr (inl (refl, refl))
  destroy_cause before now e why = absurd why

  destroy_anywhere : (to : Disk) (before now : ℕ) (e : Error) → IsDestroyCause before now e → IsCauseAnywhere filing (held_by p a) (Some Destroy) from to e
  destroy_anywhere to before now Mem why = tt
  destroy_anywhere to before now (Journal (journal.Runtime runtime.Fault)) why = tt
  destroy_anywhere to before now (Metadata (metadata.Runtime runtime.Fault)) why = inr (inl (refl, refl))
  destroy_anywhere to before now e why = absurd why

  module _ (new : D) where
    abbrev answer : Result Unit Error → Result (Openable A × Replied) Error
    answer = outcome (λ done. (shut, reply.Done))

    destroy_ends : (result : Result Unit Error) → Removes p dev a result old new → AnswerEnds (serving_by p setup valid dev filing) dev (Open a) Destroy (answer result) old new
    destroy_ends (Ok done) removes =
        let same = own p setup valid dev a old given in
        record {
          usable = tt;
          sound = λ t sound. record {
            opened = subst (λ (h : Filing). MayBeOpened h.layout (disk (dev.time new))) same (removes.ends.opened t sound);
            leaves = subst (λ (h : Filing). Leaves h (closed_state p setup (p.see a).floor) None (disk (dev.time new))) same (removes.ends.rest t sound);
          };
          step = λ t sound. refl;
          reopened = λ t sound is. absurd (cc is);
          allowed = λ t sound. refused_by_none_now;
          rest = removes.ends.rest;
          learns = λ t. record { closed = refl; empty = λ s. record { rows = refl; bytes = refl; synced = refl; record_tail = refl; value_tail = refl } };
          cleared = λ t q both. removes.destroys.ends.gone t q both.1;
          allowed_anywhere = λ t. refused_by_none Destroy (λ is. cc is);
        }
    destroy_ends (Err e) removes = record {
      cause = λ t sound. destroy_cause (dev.faults old) (dev.faults new) e removes.ends.cause;
      unwritten = λ t sound refuses. absurd (no_refusal refuses);
      anywhere = λ t. destroy_anywhere (disk (dev.time new)) (dev.faults old) (dev.faults new) e removes.ends.cause;
      unwritten_anywhere = λ t refuses. absurd (no_refusal refuses);
      fault = removes.destroys.ends;
    }

    destroy_at : (result : Result Unit Error) → Removes p dev a result old new → Answers (serving_by p setup valid dev filing) dev (Open a) Destroy (answer result) old new
    destroy_at result removes = record {
      moments = removes.destroys.moments;
      alone = removes.destroys.footprint.alone;
      footprint = removes.destroys.footprint;
      quiet = λ t still. absurd (quiet_open still);
      ends = destroy_ends result removes;
    }

    -- the archive is gone: what is left of it is its floor
    pub destroy_answers : (result : Result Unit Error) → Removes p dev a result old new → Answers (openable_serving p setup valid) dev (Open a) Destroy (answer result) old new
    destroy_answers result removes = as_asked p setup valid dev a old given Destroy (answer result) new (destroy_at result removes)

-- ---- what a closed archive answers

module _ {A V S D : Type 0} {gs : _} (p : Prunable A V (AppendFactory S) (PageBlob S gs)) (setup : Setup V) (valid : Type 0) (dev : device.Ghosts D) (floor : ℕ) (now : D) where
  abbrev stays : State (List ℕ)
  stays = closed_state p setup floor

  abbrev keeps : Held
  keeps = closed_held p setup floor

  abbrev at : Disk
  at = disk (dev.time now)

  -- a command but a reopening removes nothing of it, and gets the same reply
  none_going : (c : Asked) (s : ℕ) → IsGoing setup.filing.items stays (Some c) s → ⊥
  none_going Destroy s going = cc going
  none_going (Prune bound) s going = (let is = going.0 in cc is)
  none_going c s going = going

  closed_step : (c : Asked) → (c ≡ Reopen → ⊥) → ClosedStep stays c reply.Closed stays
  closed_step Reopen never = absurd (never refl)
  closed_step c never = refl

  -- nothing is added to it, and it moves no marker
  adds_none : (put : Option PutOf) (P : Entry (List ℕ) → Type 0) → IsSomeAnd put (λ x. IsSomeAnd (added_by setup.filing stays x) P) → ⊥
  adds_none None P adds = adds
  adds_none (Some (IfFree r)) P adds = adds
  adds_none (Some (InAnyCase r)) P adds = adds

  holds_none : (put : Option PutOf) (P : Entry (List ℕ) → Type 0) → IsSomeAnd put (λ x. PutsBy setup.filing keeps x P) → ⊥
  holds_none None P puts = puts
  holds_none (Some (IfFree r)) P puts = (let free = puts.0 in cc free)
  holds_none (Some (InAnyCase r)) P puts = (let free = puts.0 in cc free)

  moves_none : (Moves : Option PutOf → Type 0) (Raises : ℕ → Type 0) (c : Asked) → (c ≡ Reopen → ⊥) → Stages setup.filing (λ put. IsTrue false × Moves put) (λ bound. IsTrue false × Raises bound) at (family_of c) → ⊥
  moves_none Moves Raises Reopen never stages = never refl
  moves_none Moves Raises (PutSync i k v) never stages = (let is = stages.0 in cc is)
  moves_none Moves Raises (PutStart i k v) never stages = (let is = stages.0 in cc is)
  moves_none Moves Raises (MultiSync i k v) never stages = (let is = stages.0 in cc is)
  moves_none Moves Raises (MultiStart i k v) never stages = (let is = stages.0 in cc is)
  moves_none Moves Raises Sync never stages = (let is = stages.0 in cc is)
  moves_none Moves Raises Start never stages = (let is = stages.0 in cc is)
  moves_none Moves Raises (Prune bound) never stages = (let is = stages.0.0 in cc is)
  moves_none Moves Raises c never stages = stages

  state_moves : (c : Asked) → (c ≡ Reopen → ⊥) → MustMove setup.filing stays at c → ⊥
  state_moves = moves_none (λ put. IsMovingIn setup.filing at (with_put_of setup.filing stays put)) (λ bound. floor < section_of setup.filing.items bound)

  held_moves : (c : Asked) → (c ≡ Reopen → ⊥) → MustMoveHeld setup.filing keeps at (Some c) → ⊥
  held_moves = moves_none (λ put. IsMovingBy setup.filing at (λ s. rows_then setup.filing keeps put s) keeps.synced) (λ bound. floor < section_of setup.filing.items bound)

  -- what it knows of itself stays
  same_put : (put : PutOf) → HoldsPut setup.filing setup.write_buffer setup.value_buffer keeps put keeps
  same_put put = record {
    rows = λ s. kept_rows put s;
    bytes = λ s. kept_bytes put s;
    synced = λ s. refl;
    own_tails = λ s added. absurd (never_adds put s added);
    other_tails = λ s not_added. (refl, refl);
    stays = record { is_open = refl; floor = refl };
  }
    where
      kept_rows : (x : PutOf) (s : ℕ) → [] ≡ rows_with setup.filing keeps x s
      kept_rows (IfFree r) s = refl
      kept_rows (InAnyCase r) s = refl

      kept_bytes : (x : PutOf) (s : ℕ) → 0 ≡ bytes_with setup.filing keeps x s
      kept_bytes (IfFree r) s = refl
      kept_bytes (InAnyCase r) s = refl

      never_adds : (x : PutOf) (s : ℕ) → adds_to setup.filing keeps x s ≡ true → ⊥
      never_adds (IfFree r) s is = cc is
      never_adds (InAnyCase r) s is = cc is

  same_synced : HoldsSynced setup.filing setup.write_buffer setup.value_buffer keeps keeps
  same_synced = record {
    rows = λ s. refl;
    bytes = λ s. refl;
    settled = record { synced = λ s. refl; record_tail = λ s. refl; value_tail = λ s. refl };
    stays = record { is_open = refl; floor = refl };
  }

  same_both : (put : PutOf) → HoldsPutAndSynced setup.filing setup.write_buffer setup.value_buffer keeps put keeps
  same_both put = record { between = keeps; holds_put = same_put put; synced = same_synced }

  same_known : (c : Asked) → (c ≡ Reopen → ⊥) → (from to : Disk) → Learns setup.filing setup.write_buffer setup.value_buffer keeps (family_of c) from to keeps
  same_known Reopen never _ _ = absurd (never refl)
  same_known (Put i k v) never _ _ = same_put _
  same_known (Multi i k v) never _ _ = same_put _
  same_known (PutSync i k v) never _ _ = same_both _
  same_known (PutStart i k v) never _ _ = same_both _
  same_known (MultiSync i k v) never _ _ = same_both _
  same_known (MultiStart i k v) never _ _ = same_both _
  same_known Sync never _ _ = same_synced
  same_known Start never _ _ = same_synced
  same_known (Prune bound) never _ _ = record {
    is_open = refl;
    floor = refl;
    below = λ is s gone. record { rows = refl; bytes = refl; synced = refl; record_tail = refl; value_tail = refl };
    others = λ s all. record { rows = refl; bytes = refl; synced = refl; record_tail = refl; value_tail = refl };
  }
  same_known Destroy never _ _ = record { closed = refl; empty = λ s. record { rows = refl; bytes = refl; synced = refl; record_tail = refl; value_tail = refl } }
  same_known c never _ _ = refl

  pub closed_answers : (c : Asked) → (c ≡ Reopen → ⊥) → Answers (openable_serving p setup valid) dev (Closed floor) c (Ok (Closed floor, reply.Closed)) now now
  closed_answers c never = record {
    moments = λ t sound. unchanged_always (dev.time now) (dev.time now) _ (nothing_done dev.time now now refl) (leaves_as setup.filing stays None (Some c) at (λ s. refl) (λ s none. none) sound.leaves);
    alone = λ t. unchanged_always (dev.time now) (dev.time now) _ (nothing_done dev.time now now refl) (λ q other. refl);
    footprint = footprint_none dev (IsOwn setup.filing.layout (λ _. ⊤)) NoBound now now refl;
    quiet = λ t still. refl;
    ends = record {
      usable = tt;
      sound = λ t sound. sound;
      step = λ t sound. closed_step c never;
      reopened = λ t sound is. absurd (never is);
      allowed = λ t sound must. elim must as (λ _. ⊥) [ inl adds ↦ adds_none (put_of c) _ adds | inr moves ↦ state_moves c never moves.0 ];
      rest = λ t sound. sound.leaves;
      learns = λ t. same_known c never at at;
      cleared = λ t q both. (let is = both.0 in cc is);
      allowed_anywhere = λ t must. elim must as (λ _. ⊥) [
        | inl puts ↦ holds_none (put_of c) _ puts
        | inr other ↦ elim other as (λ _. ⊥) [ inl moves ↦ held_moves c never moves.0 | inr over ↦ never over.0 ]
      ];
    };
  }
