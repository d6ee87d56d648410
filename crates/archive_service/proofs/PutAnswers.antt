-- What a put promises, of one record to an index or of one of several, in the terms of a store that serves commands.
use Rattle.std.proofs.Common.{◌≡◌, ◌⊎◌, inl, inr, refl, sym, ◌∙◌, ap, subst, ℕ, ◌==◌, Bool, true, false, List, Some, None, Result, Ok, Err}
use Rattle.std.specs.Prelude.{IsTrue}
use Rattle.std.proofs.lemmas.Bool.{cases_Bool, eq-eqb, eqb-true}
use Rattle.blob_device.specs.Disk.{Disk, Key}
use Rattle.blob_device.specs.Timeline.{disk}
use Rattle.blob_device.specs.declared.device.Device as device
use Rattle.blob_device.specs.declared.runtime.RError.TheVariants as runtime
use Rattle.section_manager.specs.declared.journal.Error.TheVariants as journal
use Rattle.section_manager.specs.declared.sealed.AppendFactory.{AppendFactory}
use Rattle.sealed_pages.specs.Tails.{tail_after}
use Rattle.sealed_pages.specs.declared.page_blob.PageBlob.{PageBlob}
use Rattle.archives.specs.Archives.{IsArchive, IsSoundArchive}
use Rattle.archives.specs.Changes.{Asked, outcome}
use Rattle.archives.specs.Commands.{Multi, Put}
use Rattle.archives.specs.Filing.{Filing, IsBlobAt}
use Rattle.archives.specs.Machine.{Entry, State, section_of}
use Rattle.archives.specs.Prunable.{Prunable, Setup, filing_by}
use Rattle.archives.specs.Puts.{IsPutCause, PutDone, Puts, Refuses}
use Rattle.archives.specs.Putting.{IsWrittenAfter, Often, Once, Times, frame_size, is_skipped, put_command, record_tail, value_tail}
use Rattle.archives.specs.Replies as reply
use Rattle.archives.specs.declared.error.Error.{Error}
use Rattle.archives.specs.declared.error.Error.TheVariants.{Full, Journal, Mem}
use Rattle.archive_service.specs.lemmas.Store.{Added, Given, HeldAdded, PutsIt, adds_full, adds_is, adds_now, always_as, as_asked, buffered, bytes_are, frame_is, full_adds, full_for, holds_now, large_adds, not_large, not_large_held, nothing_done, now_adds, now_holds, past, past_size, puts_it, putting, rows_are, serving_by, st, surely_full}
use Rattle.archives.specs.lemmas.put.Sync.{filing_then}
use Rattle.archive_service.specs.Causes.{Held, IsCause, IsCauseAnywhere, IsPastAll, IsPastSizeAlone, IsRefusedAsFull, IsRefusedAsTooLarge, IsSurelyFull, MustMove, MustMoveHeld}
use Rattle.archive_service.specs.Families.{PutOf, family_of}
use Rattle.archive_service.specs.StoreCalls.{AnswerEnds, Answers}
use Rattle.archive_service.specs.PrunableKind.{AreTailsWith, HoldsPut, IsBuffered, IsQuiet, Learns, MayChange}
use Rattle.archive_service.specs.PrunableStore.{IsUsableStore, held_by, openable_serving}
use Rattle.archive_service.specs.declared.store.openable.Openable.TheVariants.{Open}
use Rattle.archive_service.proofs.StoreLemmas.{adds_not, adds_where, quiet_open}

module _ {A V S D : Type 0} {gs : _} (p : Prunable A V (AppendFactory S) (PageBlob S gs)) (setup : Setup V) (valid : Type 0) (dev : device.Ghosts D) (a : A) (old : D) (given : Given p setup valid dev a old)
    (times : Times) (i : ℕ) (k v : List ℕ) where
  abbrev filing : Filing
  filing = filing_by p a

  abbrev from : Disk
  from = disk (dev.time old)

  abbrev was : State (List ℕ)
  was = st p setup valid dev a old given

  abbrev put : PutOf
  put = putting times (record { index = i; key = k; value = v })

  abbrev skip : Bool
  skip = is_skipped (p.see a) i times

  abbrev n : ℕ
  n = frame_size filing.layout v

  abbrev here : ℕ
  here = section_of (p.see a).items i

  -- it is added, and has P: by the state, and by what is held
  abbrev Adding : (Entry (List ℕ) → Type 0) → Type 0
  Adding = Added p setup valid dev a old given times i k v

  abbrev Holding : (Entry (List ℕ) → Type 0) → Type 0
  Holding = HeldAdded p setup valid dev a old given times i k v

  -- ---- what the archive then is

  module _ (r : A) (done : PutDone p dev times a i k n r) where
    -- of the section put into
    own_at : (s : ℕ) → s ≡ here → skip ≡ false → AreTailsWith filing setup.write_buffer setup.value_buffer (held_by p a) put (held_by p r) s
    own_at s at free =
        let own = done.own_tails free in
        subst (λ (q : ℕ). AreTailsWith filing setup.write_buffer setup.value_buffer (held_by p a) put (held_by p r) q) (sym at) (record {
          records = own.records ∙ ap (λ (c : ℕ). tail_after c (record_tail (p.see a) here) filing.layout.record_size) given.usable.write_buffer;
          values = own.values ∙ ap (λ (c : ℕ). tail_after c (value_tail (p.see a) here) n) given.usable.value_buffer
              ∙ ap (λ (c : ℕ). tail_after setup.value_buffer (value_tail (p.see a) here) c) (sym (frame_is p setup valid dev a old given times i k v));
        })

    pub put_holds : dev.Tells → HoldsPut filing setup.write_buffer setup.value_buffer (held_by p a) put (held_by p r)
    put_holds t = record {
      rows = λ s. done.rows s ∙ sym (rows_are p setup valid dev a old given times i k v s);
      bytes = λ s. done.values t s ∙ sym (bytes_are p setup valid dev a old given times i k v s);
      synced = done.synced;
      own_tails = λ s added.
          let put_here = adds_where skip (s == here) (sym (adds_is p setup valid dev a old given times i k v s) ∙ added) in
          own_at s (eqb-true s here put_here.1) put_here.0;
      other_tails = λ s not_added. done.other_tails s (λ same. adds_not skip (s == here)
          (sym (adds_is p setup valid dev a old given times i k v s) ∙ not_added) (eq-eqb s here same));
      stays = record { is_open = refl; floor = done.floor };
    }

    -- a section that does not count as written after did not before, and was not put into
    not_written : (s : ℕ) → (p.see r).is_written s ≡ false → ((p.see a).is_written s ≡ false) × (s ≡ here → skip ≡ true)
    not_written s unwritten = (before, dropped)
      where
        never : IsWrittenAfter (p.see a) i skip s → ⊥
        never written = (let counts : IsTrue ((p.see r).is_written s) = (done.written s).1 written in cc (counts, unwritten))

        before : (p.see a).is_written s ≡ false
        before = elim (cases_Bool ((p.see a).is_written s)) as (λ _. (p.see a).is_written s ≡ false) [ inl there ↦ absurd (never (inl there)) | inr none ↦ none ]

        dropped : s ≡ here → skip ≡ true
        dropped same = elim (cases_Bool skip) as (λ _. skip ≡ true) [ inl there ↦ there | inr free ↦ absurd (never (inr (free, same))) ]

    pub put_usable : (new : D) → IsArchive (p.see r) p.buffers dev.Tells (dev.opened new) (disk (dev.time new)) → ((x : V) → p.Accepts a x → p.Accepts r x) → IsUsableStore p setup r dev.Tells (dev.opened new) (disk (dev.time new))
    put_usable new over accepts = record {
      usable = over;
      filing = filing_then setup.filing filing (filing_by p r) given.usable.filing done.filing;
      accepts = λ x allowed. accepts x (given.usable.accepts x allowed);
      write_buffer = ap (λ factory. factory.write_buffer) done.bounds.0.place.factory ∙ given.usable.write_buffer;
      value_buffer = ap (λ factory. factory.capacity) done.bounds.1.place.factory ∙ given.usable.value_buffer;
      flushed = λ t s unwritten.
          let before = not_written s unwritten in
          let same = done.other_tails s before.1 in
          let none = given.usable.flushed t s before.0 in
          (same.0 ∙ none.0, same.1 ∙ none.1);
    }

  -- ---- why it failed

  module _ (t : dev.Tells) where
    -- a put that has to be refused is not done
    pub refused_never : IsSoundArchive (p.see a) from → {R : Type 0} (x : R) {new : D} → Refuses (p.see a) i skip n dev.Tells (Ok x) old new
        → Adding (λ q. IsRefusedAsFull filing was q ⊎ IsRefusedAsTooLarge filing was q) → ⊥
    refused_never sound x refuses adds =
        let found = now_adds p setup valid dev a old given times i k v t (λ q. IsRefusedAsFull filing was q ⊎ IsRefusedAsTooLarge filing was q) adds in
        elim found.1 as (λ _. ⊥) [
          | inl full ↦ elim (refuses.no_room t (adds_full p setup valid dev a old given times i k v t sound (adds_now p setup valid dev a old given times i k v t (IsRefusedAsFull filing was) found.0 full))) as (λ _. ⊥) [
            | inl both ↦ (let is = both.0 in cc is)
            | inr memory ↦ cc memory
          ]
          | inr large ↦ not_large p setup valid dev a old given times i k v t
              (λ too. elim (refuses.too_large too) as (λ _. ⊥) [ inl both ↦ (let is = both.0 in cc is) | inr memory ↦ cc memory ])
              (adds_now p setup valid dev a old given times i k v t (IsRefusedAsTooLarge filing was) found.0 large)
        ]

    -- nor by what is held, over any image
    pub held_never : {R : Type 0} (x : R) {new : D} → Refuses (p.see a) i skip n dev.Tells (Ok x) old new
        → Holding (λ q. IsSurelyFull filing (held_by p a) q ⊎ IsPastSizeAlone filing (held_by p a) q) → ⊥
    held_never x refuses holds =
        let found = now_holds p setup valid dev a old given times i k v (λ q. IsSurelyFull filing (held_by p a) q ⊎ IsPastSizeAlone filing (held_by p a) q) holds in
        elim found.1 as (λ _. ⊥) [
          | inl full ↦ elim (refuses.no_room t (surely_full p setup valid dev a old given times i k v t found.0 full)) as (λ _. ⊥) [
            | inl both ↦ (let is = both.0 in cc is)
            | inr memory ↦ cc memory
          ]
          | inr large ↦ not_large_held p setup valid dev a old given times i k v t
              (λ too. elim (refuses.too_large too) as (λ _. ⊥) [ inl both ↦ (let is = both.0 in cc is) | inr memory ↦ cc memory ])
              found.0 large
        ]

    module _ (c : Asked) (acts : PutsIt p setup valid dev a old given times i k v c) where
      put_cause : IsSoundArchive (p.see a) from → (before now : ℕ) (e : Error) → IsPutCause (p.see a) i skip n dev.Tells before now e → IsCause filing was (Some c) from e
      put_cause sound before now Mem why = tt
      put_cause sound before now Full why = inl (acts.adds (IsRefusedAsFull filing was) (full_adds p setup valid dev a old given times i k v t sound (full_for p setup valid dev a old given times i k v t why)))
      put_cause sound before now (Journal (journal.Runtime runtime.Fault)) why = tt
      put_cause sound before now (Journal journal.ValueTooLarge) why = acts.adds (IsRefusedAsTooLarge filing was) (large_adds p setup valid dev a old given times i k v t why)
      put_cause sound before now e why = absurd why

      put_anywhere : (to : Disk) (before now : ℕ) (e : Error) → IsPutCause (p.see a) i skip n dev.Tells before now e → IsCauseAnywhere filing (held_by p a) (Some c) from to e
      put_anywhere to before now Mem why = tt
      put_anywhere to before now Full why =
          let full = full_for p setup valid dev a old given times i k v t why in
          inl (acts.holds (IsPastAll filing (held_by p a)) (holds_now p setup valid dev a old given times i k v (IsPastAll filing (held_by p a)) full.free (past p setup valid dev a old given times i k v t full)))
      put_anywhere to before now (Journal (journal.Runtime runtime.Fault)) why = tt
      put_anywhere to before now (Journal journal.ValueTooLarge) why =
          acts.holds (IsPastSizeAlone filing (held_by p a)) (holds_now p setup valid dev a old given times i k v (IsPastSizeAlone filing (held_by p a)) why.free (past_size p setup valid dev a old given times i k v t why))
      put_anywhere to before now e why = absurd why

  -- ---- the put

  -- A command that puts the record, and does nothing else.
  record PutsAlone (c : Asked) : Type 1 where
    pub it : PutsIt p setup valid dev a old given times i k v c
    pub changes : (q : Key) → IsBlobAt filing i q → MayChange filing setup.write_buffer setup.value_buffer (family_of c) q
    pub still : IsQuiet filing setup.write_buffer setup.value_buffer (held_by p a) c → IsBuffered filing setup.write_buffer setup.value_buffer (held_by p a) put
    pub moves : MustMove filing was from c → ⊥
    pub moves_held : MustMoveHeld filing (held_by p a) from (Some c) → ⊥
    pub learns : (to : Disk) (next : Held) → HoldsPut filing setup.write_buffer setup.value_buffer (held_by p a) put next → Learns filing setup.write_buffer setup.value_buffer (held_by p a) (family_of c) from to next

  module _ (acts : PutsAlone (put_command times i k v)) (new : D) where
    put_ends : (result : Result A Error) → Puts p dev times a i k v result old new → AnswerEnds (serving_by p setup valid dev filing) dev (Open a) (put_command times i k v) (outcome (λ r. (Open r, reply.Done)) result) old new
    put_ends (Ok r) puts = record {
      usable = put_usable r puts.ends new puts.changes.ends.over puts.changes.ends.alike.accepts;
      sound = puts.changes.ends.sound;
      step = puts.changes.ends.step;
      reopened = λ t sound is. absurd (acts.it.no_reopen is);
      allowed = λ t sound must. elim must as (λ _. ⊥) [
        | inl adds ↦ refused_never t sound r puts.refuses (acts.it.added (λ q. IsRefusedAsFull filing was q ⊎ IsRefusedAsTooLarge filing was q) adds)
        | inr moves ↦ acts.moves moves.0
      ];
      rest = λ t sound. (puts.changes.ends.alike.leaves _ None _).1 (puts.changes.ends.rest t sound);
      learns = λ t. acts.learns (disk (dev.time new)) (held_by p r) (put_holds r puts.ends t);
      cleared = λ t q both. absurd (acts.it.clears q both);
      allowed_anywhere = λ t must. elim must as (λ _. ⊥) [
        | inl holds ↦ held_never t r puts.refuses (acts.it.held (λ q. IsSurelyFull filing (held_by p a) q ⊎ IsPastSizeAlone filing (held_by p a) q) holds)
        | inr other ↦ elim other as (λ _. ⊥) [ inl moves ↦ acts.moves_held moves.0 | inr over ↦ acts.it.no_reopen over.0 ]
      ];
    }
    put_ends (Err e) puts = record {
      cause = λ t sound. put_cause t (put_command times i k v) acts.it sound (dev.faults old) (dev.faults new) e puts.ends.cause;
      unwritten = λ t sound refuses. nothing_done dev.time old new (puts.ends.unwritten (elim refuses [ inl full ↦ inr (inl t, full.0) | inr large ↦ inl large.0 ]));
      anywhere = λ t. put_anywhere t (put_command times i k v) acts.it (disk (dev.time new)) (dev.faults old) (dev.faults new) e puts.ends.cause;
      unwritten_anywhere = λ t refuses. nothing_done dev.time old new (puts.ends.unwritten (elim refuses [ inl full ↦ inr (inl t, full.0) | inr large ↦ inl large.0 ]));
      fault = puts.changes.ends;
    }

    put_at : (result : Result A Error) → Puts p dev times a i k v result old new → Answers (serving_by p setup valid dev filing) dev (Open a) (put_command times i k v) (outcome (λ r. (Open r, reply.Done)) result) old new
    put_at result puts = record {
      moments = puts.changes.moments;
      alone = λ t. always_as (dev.time old) (dev.time new) _ _ (λ x same q other. same q (λ own. other (acts.changes q own))) (puts.footprint.alone t);
      footprint = puts.changes.footprint;
      quiet = λ t still. buffered p setup valid dev a old given times i k v t new (λ skipped. (puts.skipped skipped).1) puts.below (acts.still still);
      ends = put_ends result puts;
    }

    put_answered : (result : Result A Error) → Puts p dev times a i k v result old new → Answers (openable_serving p setup valid) dev (Open a) (put_command times i k v) (outcome (λ r. (Open r, reply.Done)) result) old new
    put_answered result puts = as_asked p setup valid dev a old given (put_command times i k v) (outcome (λ r. (Open r, reply.Done)) result) new (put_at result puts)

module _ {A V S D : Type 0} {gs : _} (p : Prunable A V (AppendFactory S) (PageBlob S gs)) (setup : Setup V) (valid : Type 0) (dev : device.Ghosts D) (a : A) (old : D) (given : Given p setup valid dev a old) where
  alone : (times : Times) (i : ℕ) (k v : List ℕ) → PutsAlone p setup valid dev a old given times i k v (put_command times i k v)
  alone Once i k v = record {
    it = puts_it p setup valid dev a old given Once i k v (Put i k v) refl (λ is. cc is) (λ q none. none);
    changes = λ q it. it;
    still = quiet_open;
    moves = λ it. it;
    moves_held = λ it. it;
    learns = λ to next it. it;
  }
  alone Often i k v = record {
    it = puts_it p setup valid dev a old given Often i k v (Multi i k v) refl (λ is. cc is) (λ q none. none);
    changes = λ q it. it;
    still = quiet_open;
    moves = λ it. it;
    moves_held = λ it. it;
    learns = λ to next it. it;
  }

  pub put_answers : (times : Times) (i : ℕ) (k v : List ℕ) (new : D) (result : Result A Error) → Puts p dev times a i k v result old new
      → Answers (openable_serving p setup valid) dev (Open a) (put_command times i k v) (outcome (λ r. (Open r, reply.Done)) result) old new
  put_answers times i k v new = put_answered p setup valid dev a old given times i k v (alone times i k v) new
