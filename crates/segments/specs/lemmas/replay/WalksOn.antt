-- A replay of a fixed journal after one of its sections changed is a replay again; what was left of it at each moment.
use Rattle.std.specs.Prelude.{◌≡◌, ◌≢◌, ℕ, ◌*◌, ◌%◌, ◌^◌, ◌<◌, ◌≤◌, true, false, List, length, IsTrue, IsSomeAnd, Option, None, Some, IsSome}
use Rattle.std.proofs.Common.{inl, inr, refl, sym, ◌∙◌, ap, subst, arith}
use Rattle.std.proofs.lemmas.Bool.{cases_eq}
use Rattle.blob_device.specs.Disk.{Key, Blob, Disk}
use Rattle.blob_device.specs.Opened.{OpenedList}
use Rattle.blob_device.specs.Timeline.{Timeline, disk, Always, OnlyAt, Each}
use Rattle.blob_device.specs.lemmas.Moments.{always_weaker}
use Rattle.blob_device.specs.lemmas.Puts.{same_or_other}
use Rattle.sealed_pages.specs.declared.page_blob.PageBlob.{PageBlob}
use Rattle.sealed_pages.specs.Shown.{shown}
use Rattle.sealed_pages.specs.Buffer.{size_of, bytes_of, IsSealed}
use Rattle.sealed_pages.specs.SealedPrefix.{sealed_prefix}
use Rattle.sealed_pages.specs.Unrecovered.{IsUnrecovered}
use Rattle.sealed_pages.specs.lemmas.Unrecovered.{prefix_leaves, unrecovered_prefix}
use Rattle.sealed_pages.specs.lemmas.memory.Holding.{holds_leaves}
use Rattle.segments.specs.lemmas.adding.Write.{proven_back}
use Rattle.segments.specs.lemmas.replay.Walks.{IsBehind, IsReached, MayCut, MayFlush, MayPrefix, OnlyOne, blob_other, held_on, reads_back}
use Rattle.section_manager.specs.declared.buffer.SectionBuffer as buffer
use Rattle.section_manager.specs.Setting.{Setting}
use Rattle.section_manager.specs.Sections.{key_of, IsHeld, IsOver}
use Rattle.section_manager.specs.lemmas.Keys.{key_injective}
use Rattle.segments.specs.FixedLists.{IsProven}
use Rattle.segments.specs.FixedReplay.{Place, Walk, IsAhead, IsIn, IsReadWhole, SameWalk, StandsIn, ReadsIn, IsGoneOver, HasWalk, WalksOver, IsWalk, StaysStill, Replaying}
use Rattle.segments.specs.FixedStepping.{failing}
use Rattle.blob_device.proofs.general.Options.{none_in, same_some, some_there}

module _ {F S : Type 0} {gs : _} (seal : List ℕ → ℕ) (size : ℕ) where
  module _ (old : Walk F (PageBlob S gs)) (d : Disk) where
    -- before anything changed
    pub replaying_start : (q : Key) → Replaying seal size old d q (d q)
    replaying_start q = record {
      flushed = λ t u is free sealed here. holds_leaves seal (shown u) (bytes_of (shown u) (d q).content) (d q) u.fit.begun sealed.holds;
      prefix = λ t u is free un here. (let kept = sealed_prefix seal u.page_size (d q).content in
          prefix_leaves seal u.page_size kept (length kept) (d q) (omega arith) (unrecovered_prefix seal (shown u) (d q) (omega (arith, u.fit.begun)) un).0);
      cut = λ t u is owed here. inl refl;
      still = λ t u is rest here. refl;
      others = λ not. refl;
    }

    module _ (s : ℕ) (small : s < 2 ^ 64) (numbers : (q : ℕ) → IsHeld old.journal.sections q → q < 2 ^ 64) (reached : IsReached seal size s old) where
      -- the blob of the section that changes
      pub replaying_here : (b : Blob)
          → ((u : PageBlob S gs) → old.journal.sections.held s ≡ Some u → old.journal.unrecovered s ≡ false → IsSealed seal (shown u) (d (key_of old.journal.sections s)) → MayFlush seal u (d (key_of old.journal.sections s)) b)
          → ((u : PageBlob S gs) → old.journal.sections.held s ≡ Some u → old.journal.unrecovered s ≡ false → IsUnrecovered seal (shown u) (d (key_of old.journal.sections s)) → MayPrefix seal u (d (key_of old.journal.sections s)) b)
          → ((u : PageBlob S gs) → old.journal.sections.held s ≡ Some u → IsTrue (old.journal.unrecovered s) → MayCut seal size u (old.journal.floor_of s) (d (key_of old.journal.sections s)) b)
          → ((u : PageBlob S gs) → old.journal.sections.held s ≡ Some u → StaysStill seal size (old.journal.unrecovered s) u (d (key_of old.journal.sections s)) → b ≡ d (key_of old.journal.sections s))
          → Replaying seal size old d (key_of old.journal.sections s) b
      replaying_here b flush prefix cuts stays = record {
        flushed = λ t u is free sealed here. (let at = number t u is here in
            flush u (subst (λ (k : ℕ). old.journal.sections.held k ≡ Some u) at is) (subst (λ (k : ℕ). old.journal.unrecovered k ≡ false) at free) sealed);
        prefix = λ t u is free un here. (let at = number t u is here in
            prefix u (subst (λ (k : ℕ). old.journal.sections.held k ≡ Some u) at is) (subst (λ (k : ℕ). old.journal.unrecovered k ≡ false) at free) un);
        cut = λ t u is owed here. (let at = number t u is here in
            subst (λ (k : ℕ). MayCut seal size u (old.journal.floor_of k) (d (key_of old.journal.sections s)) b) (sym at)
            (cuts u (subst (λ (k : ℕ). old.journal.sections.held k ≡ Some u) at is) (subst (λ (k : ℕ). IsTrue (old.journal.unrecovered k)) at owed)));
        still = λ t u is rest here. (let at = number t u is here in
            stays u (subst (λ (k : ℕ). old.journal.sections.held k ≡ Some u) at is) (subst (λ (k : ℕ). StaysStill seal size (old.journal.unrecovered k) u (d (key_of old.journal.sections s))) at rest));
        others = λ not. absurd (not (s, (reached.held, reached.near), refl));
      }
        where
          number : (t : ℕ) (u : PageBlob S gs) → old.journal.sections.held t ≡ Some u → key_of old.journal.sections s ≡ key_of old.journal.sections t → t ≡ s
          number t u is here = sym (key_injective old.journal.sections.partition s t small (numbers t (some_there (old.journal.sections.held t) u is)) here)

      pub moments_of : (a b : Timeline) (Q : Blob → Type 0) → d ≡ disk a → Always a b (OnlyAt (key_of old.journal.sections s) (disk a) Q)
          → ((x : Blob) → Q x → Replaying seal size old d (key_of old.journal.sections s) x) → Always a b (Each (Replaying seal size old d))
      moments_of a b Q from always here = always_weaker a b (OnlyAt (key_of old.journal.sections s) (disk a) Q) (Each (Replaying seal size old d))
          (λ x only q. elim (same_or_other q (key_of old.journal.sections s)) [
            | inl is ↦ subst (λ (k : Key). Replaying seal size old d k (x k)) (sym is) (here (x (key_of old.journal.sections s)) only.here)
            | inr other ↦ (let same : d q ≡ x q = ap (λ (y : Disk). y q) from ∙ sym (only.others q other) in subst (λ (y : Blob). Replaying seal size old d q y) same (replaying_start q))
          ]) always

  module _ (g : buffer.Ghosts (PageBlob S gs)) (gives : F → Setting) {told : Type 0} (old new : Walk F (PageBlob S gs)) (before after : OpenedList) (d e : Disk) (was : IsWalk g gives seal size told old before d) where
    -- After an error it is one that has failed. What is still held is as it was.
    pub walk_broken : IsOver g gives told new.journal.sections after e → SameWalk old new
        → ((q : ℕ) (u : PageBlob S gs) → new.journal.sections.held q ≡ Some u → (old.journal.sections.held q ≡ Some u) × (told → e (key_of new.journal.sections q) ≡ d (key_of old.journal.sections q)))
        → new.place ≡ None → ((t : ℕ) → IsAhead new t → IsAhead old t) → ((n : ℕ) → new.next_section ≡ Some n → new.start_section ≤ n)
        → IsWalk g gives seal size told (failing new) after e
    walk_broken over same kept none onward from = record { over = over; walk = walk; disk = walks }
      where
        owed : (q : ℕ) → IsTrue (new.journal.unrecovered q) → IsTrue (old.journal.unrecovered q)
        owed q is = subst IsTrue (same.unrecovered q) is

        walk : HasWalk size (failing new)
        walk = record {
          owes_settled = record { settled = λ q u held is. was.walk.owes_settled.settled q u (kept q u held).0 (owed q is) };
          owes_held = λ no. absurd (cc no);
          place = λ r is. absurd (cc (none, is));
          come_to = λ r is. absurd (cc (none, is));
          from_start = from;
          start_within = λ ahead u held. start ahead u held;
          start_kept = λ no. absurd (cc no);
          ends = λ is. refl;
        }
          where
            start : IsAhead new new.start_section → (u : PageBlob S gs) → new.journal.sections.held new.start_section ≡ Some u → new.start_position * size ≤ size_of (shown u)
            start ahead u held =
                let was_ahead : IsAhead old old.start_section = subst (IsAhead old) same.section (onward new.start_section ahead) in
                let was_held : old.journal.sections.held old.start_section ≡ Some u = subst (λ (k : ℕ). old.journal.sections.held k ≡ Some u) same.section (kept new.start_section u held).0 in
                omega (arith, was.walk.start_within was_ahead u was_held, ap (λ (n : ℕ). n * size) same.position)

        walks : told → WalksOver seal size (failing new) e
        walks tells = record {
          sealed = record {
            sealed = λ q u held free. subst (IsSealed seal (shown u)) (sym ((kept q u held).1 tells)) ((was.disk tells).sealed.sealed q u (kept q u held).0 (proven_back old.journal new.journal q (same.unrecovered q) (same.floors q) free));
            whole = λ q u held free. (was.disk tells).sealed.whole q u (kept q u held).0 (sym (same.unrecovered q) ∙ free);
          };
          gone_over = λ no. absurd (cc no);
          unopened = λ no. absurd (cc no);
          place = λ r is. absurd (cc (none, is));
        }

    -- It goes on, where the section s is held again, and all is known of it.
    pub record IsKnownAgain (s : ℕ) (v : PageBlob S gs) : Type 0 where
      pub held : new.journal.sections.held s ≡ Some v
      pub not_ahead : IsAhead new s → ⊥
      pub settled : IsTrue (old.journal.unrecovered s) → v.settled ≡ size_of (shown v)
      pub sealed : told → IsProven old.journal s → IsSealed seal (shown v) (e (key_of new.journal.sections s))
      pub whole : told → old.journal.unrecovered s ≡ false → size_of (shown v) % size ≡ 0
      pub gone_over : told → (IsIn new s → ⊥) → IsReadWhole old s → IsSealed seal (shown v) (e (key_of new.journal.sections s)) × (size_of (shown v) % size ≡ 0)
      pub place : (r : Place) → new.place ≡ Some r → (r.section ≡ s) × StandsIn size new r v × (told → ReadsIn seal new e r v)
      pub begun : IsIn new s → new.start_section ≤ s

    module _ (s : ℕ) (v : PageBlob S gs) (one : OnlyOne seal size told s old new d e) (behind : IsBehind seal size s old new) (again : IsKnownAgain s v) (over : IsOver g gives told new.journal.sections after e)
        (from : (n : ℕ) → new.next_section ≡ Some n → new.start_section ≤ n) where
      small_of : (q : ℕ) → IsHeld new.journal.sections q → q < 2 ^ 64
      small_of q held = over.opened_list.number q (inl held)

      in_s : (r : Place) → new.place ≡ Some r → IsIn new s
      in_s r is = subst (λ (o : Option Place). IsSomeAnd o (λ x. x.section ≡ s)) (sym is) (again.place r is).0

      same_v : (q : ℕ) (u : PageBlob S gs) → q ≡ s → new.journal.sections.held q ≡ Some u → u ≡ v
      same_v q u at held = same_some (new.journal.sections.held s) v u again.held (subst (λ (k : ℕ). new.journal.sections.held k ≡ Some u) at held)

      settles : (q : ℕ) (u : PageBlob S gs) → new.journal.sections.held q ≡ Some u → IsTrue (new.journal.unrecovered q) → u.settled ≡ size_of (shown u)
      settles q u held owed = elim (cases_eq q s) [
        | inl at ↦ subst (λ (x : PageBlob S gs). x.settled ≡ size_of (shown x)) (sym (same_v q u at held))
            (again.settled (subst (λ (k : ℕ). IsTrue (old.journal.unrecovered k)) at (subst IsTrue (one.same.unrecovered q) owed)))
        | inr other ↦ was.walk.owes_settled.settled q u (sym (one.others q other).held ∙ held) (subst IsTrue (one.same.unrecovered q) owed)
      ]

      start : IsAhead new new.start_section → (u : PageBlob S gs) → new.journal.sections.held new.start_section ≡ Some u → new.start_position * size ≤ size_of (shown u)
      start ahead u held = elim (cases_eq new.start_section s) [
        | inl at ↦ absurd (again.not_ahead (subst (IsAhead new) at ahead))
        | inr other ↦
            let was_ahead : IsAhead old old.start_section = subst (IsAhead old) one.same.section ((behind.ahead new.start_section (small_of new.start_section (some_there (new.journal.sections.held new.start_section) u held))).0 ahead).0 in
            let was_held : old.journal.sections.held old.start_section ≡ Some u = subst (λ (k : ℕ). old.journal.sections.held k ≡ Some u) one.same.section (sym (one.others new.start_section other).held ∙ held) in
            omega (arith, was.walk.start_within was_ahead u was_held, ap (λ (n : ℕ). n * size) one.same.position)
      ]

      blob_same : told → (q : ℕ) (u : PageBlob S gs) → q ≢ s → old.journal.sections.held q ≡ Some u → e (key_of new.journal.sections q) ≡ d (key_of old.journal.sections q)
      blob_same tells q u other held = blob_other seal size s old new d e one tells q other (some_there (old.journal.sections.held q) u held)

      from_v : (q : ℕ) (u : PageBlob S gs) → q ≡ s → new.journal.sections.held q ≡ Some u → IsSealed seal (shown v) (e (key_of new.journal.sections s)) × (size_of (shown v) % size ≡ 0)
          → IsSealed seal (shown u) (e (key_of new.journal.sections q)) × (size_of (shown u) % size ≡ 0)
      from_v q u at held has =
          subst (λ (k : ℕ). IsSealed seal (shown u) (e (key_of new.journal.sections k)) × (size_of (shown u) % size ≡ 0)) (sym at)
          (subst (λ (x : PageBlob S gs). IsSealed seal (shown x) (e (key_of new.journal.sections s)) × (size_of (shown x) % size ≡ 0)) (sym (same_v q u at held)) has)

      sealed_still : told → (q : ℕ) (u : PageBlob S gs) → new.journal.sections.held q ≡ Some u → IsProven new.journal q → IsSealed seal (shown u) (e (key_of new.journal.sections q))
      sealed_still tells q u held proven =
          let proven_old : IsProven old.journal q = proven_back old.journal new.journal q (one.same.unrecovered q) (one.same.floors q) proven in
          elim (cases_eq q s) [
            | inl at ↦
                let proven_s : IsProven old.journal s = subst (IsProven old.journal) at proven_old in
                let checked : old.journal.unrecovered s ≡ false = proven_s.checked in
                (from_v q u at held (again.sealed tells proven_s, again.whole tells checked)).0
            | inr other ↦
                let held_old : old.journal.sections.held q ≡ Some u = sym (one.others q other).held ∙ held in
                subst (IsSealed seal (shown u)) (sym (blob_same tells q u other held_old)) ((was.disk tells).sealed.sealed q u held_old proven_old)
          ]

      whole_still : told → (q : ℕ) (u : PageBlob S gs) → new.journal.sections.held q ≡ Some u → new.journal.unrecovered q ≡ false → size_of (shown u) % size ≡ 0
      whole_still tells q u held free = elim (cases_eq q s) [
        | inl at ↦ subst (λ (x : PageBlob S gs). size_of (shown x) % size ≡ 0) (sym (same_v q u at held)) (again.whole tells (subst (λ (k : ℕ). old.journal.unrecovered k ≡ false) at (sym (one.same.unrecovered q) ∙ free)))
        | inr other ↦ (was.disk tells).sealed.whole q u (sym (one.others q other).held ∙ held) (sym (one.same.unrecovered q) ∙ free)
      ]

      gone_old : (q : ℕ) → q ≢ s → IsHeld old.journal.sections q → IsGoneOver new q → IsGoneOver old q
      gone_old q other is_held over_it = record {
        begun = subst (λ (n : ℕ). n ≤ q) one.same.section over_it.begun;
        not_ahead = λ ahead. over_it.not_ahead ((behind.ahead q (one.numbers q is_held)).1 (ahead, behind.later q is_held ahead other));
        not_in = λ there. other (behind.in_old q there);
      }

      -- It gave an error, and stands nowhere.
      pub walk_refused : new.place ≡ None → IsWalk g gives seal size told (failing new) after e
      walk_refused none = record {
        over = over;
        walk = record {
          owes_settled = record { settled = settles };
          owes_held = λ no. absurd (cc no);
          place = λ r is. absurd (cc (none, is));
          come_to = λ r is. absurd (cc (none, is));
          from_start = from;
          start_within = start;
          start_kept = λ no. absurd (cc no);
          ends = λ is. refl;
        };
        disk = λ tells. record {
          sealed = record { sealed = sealed_still tells; whole = whole_still tells };
          gone_over = λ no. absurd (cc no);
          unopened = λ no. absurd (cc no);
          place = λ r is. absurd (cc (none, is));
        };
      }

      pub walk_on : new.failed ≡ old.failed → (new.ended ≡ true → new.failed ≡ true) → (new.failed ≡ false → (IsIn new s → ⊥) → s ≡ new.start_section → new.start_position * size ≤ size_of (shown v))
          → IsWalk g gives seal size told new after e
      walk_on failed ends start_v = record { over = over; walk = walk; disk = walks }
        where
          holds : new.failed ≡ false → (q : ℕ) → IsTrue (new.journal.unrecovered q) → IsHeld new.journal.sections q
          holds fine q owed = elim (cases_eq q s) [
            | inl at ↦ subst (IsHeld new.journal.sections) (sym at) (some_there (new.journal.sections.held s) v again.held)
            | inr other ↦ held_on seal size s old new d e one q other ((was.walk.owes_held (sym failed ∙ fine)).held q (subst IsTrue (one.same.unrecovered q) owed))
          ]

          kept : new.failed ≡ false → IsGoneOver new new.start_section → (u : PageBlob S gs) → new.journal.sections.held new.start_section ≡ Some u → new.start_position * size ≤ size_of (shown u)
          kept fine over_it u held = elim (cases_eq new.start_section s) [
            | inl at ↦ omega (arith, start_v fine (λ is. over_it.not_in (subst (IsIn new) (sym at) is)) (sym at), ap (λ (x : PageBlob S gs). size_of (shown x)) (same_v new.start_section u at held))
            | inr other ↦
                let held_old : old.journal.sections.held new.start_section ≡ Some u = sym (one.others new.start_section other).held ∙ held in
                let over_old : IsGoneOver old old.start_section = subst (IsGoneOver old) one.same.section (gone_old new.start_section other (some_there (old.journal.sections.held new.start_section) u held_old) over_it) in
                let was_held : old.journal.sections.held old.start_section ≡ Some u = subst (λ (k : ℕ). old.journal.sections.held k ≡ Some u) one.same.section held_old in
                omega (arith, was.walk.start_kept (sym failed ∙ fine) over_old u was_held, ap (λ (n : ℕ). n * size) one.same.position)
          ]

          walk : HasWalk size new
          walk = record {
            owes_settled = record { settled = settles };
            owes_held = λ fine. record { held = holds fine };
            place = λ r is. subst (λ (o : Option (PageBlob S gs)). IsSomeAnd o (StandsIn size new r)) (sym (ap new.journal.sections.held (again.place r is).0 ∙ again.held)) (again.place r is).1;
            come_to = λ r is. (
              subst (λ (k : ℕ). new.start_section ≤ k) (sym (again.place r is).0) (again.begun (in_s r is)),
              λ ahead. again.not_ahead (subst (IsAhead new) (again.place r is).0 ahead),
            );
            from_start = from;
            start_within = start;
            start_kept = kept;
            ends = ends;
          }

          walks : told → WalksOver seal size new e
          walks tells = record {
            sealed = record { sealed = sealed_still tells; whole = whole_still tells };
            gone_over = gone;
            unopened = λ fine. record { later = later fine };
            place = λ r is. subst (λ (o : Option (PageBlob S gs)). IsSomeAnd o (ReadsIn seal new e r)) (sym (ap new.journal.sections.held (again.place r is).0 ∙ again.held)) ((again.place r is).2 tells);
          }
            where
              gone : new.failed ≡ false → (q : ℕ) (u : PageBlob S gs) → new.journal.sections.held q ≡ Some u → IsGoneOver new q → IsReadWhole new q → IsSealed seal (shown u) (e (key_of new.journal.sections q)) × (size_of (shown u) % size ≡ 0)
              gone fine q u held over_it read = elim (cases_eq q s) [
                | inl at ↦ from_v q u at held (again.gone_over tells (λ is. over_it.not_in (subst (IsIn new) (sym at) is)) (subst (IsReadWhole old) at (reads_back seal size s old new d e one q read)))
                | inr other ↦
                    let held_old : old.journal.sections.held q ≡ Some u = sym (one.others q other).held ∙ held in
                    let is_held : IsHeld old.journal.sections q = some_there (old.journal.sections.held q) u held_old in
                    let over_old : IsGoneOver old q = gone_old q other is_held over_it in
                    let has = (was.disk tells).gone_over (sym failed ∙ fine) q u held_old over_old (reads_back seal size s old new d e one q read) in
                    (subst (IsSealed seal (shown u)) (sym (blob_same tells q u other held_old)) has.0, has.1)
              ]

              later : new.failed ≡ false → (q : ℕ) → IsSome (new.journal.sections.unopened q) → new.journal.sections.ceiling < q
              later fine q has = elim (cases_eq q s) [
                | inl at ↦
                    let apart : new.journal.sections.unopened q ≡ None = over.opened_list.apart q (subst (IsHeld new.journal.sections) (sym at) (some_there (new.journal.sections.held s) v again.held)) in
                    absurd (none_in (new.journal.sections.unopened q) (λ x. Unit {0}) apart (some_unit (new.journal.sections.unopened q) has))
                | inr other ↦
                    let before : old.journal.sections.ceiling < q = ((was.disk tells).unopened (sym failed ∙ fine)).later q (subst IsSome (one.others q other).unopened has) in
                    omega (arith, before, one.same.bounds.ceiling)
              ]
                where
                  some_unit : {A : Type 0} → (o : Option A) → IsSome o → IsSomeAnd o (λ x. Unit {0})
                  some_unit None h = absurd (cc h)
                  some_unit (Some x) h = tt
