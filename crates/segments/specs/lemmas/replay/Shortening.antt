-- A replay cuts a section that it has gone over once more: it is a replay still, also where the cut fails.
use Rattle.std.specs.Prelude.{◌≡◌, ◌⊎◌, ℕ, ◌*◌, ◌%◌, ◌<◌, ◌≤◌, Bool, false, List, length, IsTrue, IsSomeAnd, Option, None, Some, IsSome, Result}
use Rattle.std.proofs.Common.{inl, inr, refl, sym, ◌∙◌, ap, subst, arith}
use Rattle.std.proofs.lemmas.Bool.{cases_eq, cases_lt}
use Rattle.blob_device.specs.Disk.{Key}
use Rattle.blob_device.specs.Opened.{OpenedList}
use Rattle.blob_device.specs.Timeline.{Timeline, disk}
use Rattle.sealed_pages.specs.Buffer.{size_of, bytes_of, IsSealed}
use Rattle.sealed_pages.specs.ChanceSeal.{Sealing}
use Rattle.sealed_pages.specs.SealedPrefix.{sealed_prefix}
use Rattle.sealed_pages.specs.Shown.{shown}
use Rattle.sealed_pages.specs.declared.page_blob.PageBlob.{PageBlob}
use Rattle.sealed_pages.specs.lemmas.cutting.Truncating.{all_flushed}
use Rattle.sealed_pages.specs.lemmas.memory.Holding.{bytes_length}
use Rattle.segments.specs.lemmas.adding.Write.{bytes_here}
use Rattle.segments.specs.lemmas.replay.Ending.{ahead_from}
use Rattle.segments.specs.lemmas.replay.Kept.{sealed_flushed}
use Rattle.segments.specs.lemmas.replay.Walks.{IsBehind, OnlyOne, blob_other, key_new}
use Rattle.segments.specs.lemmas.replay.WalksOn.{IsKnownAgain, walk_broken, walk_on}
use Rattle.section_manager.specs.Sections.{key_of}
use Rattle.section_manager.specs.Setting.{Setting}
use Rattle.section_manager.specs.declared.buffer.SectionBuffer as buffer
use Rattle.section_manager.specs.declared.journal.Error.{Error}
use Rattle.segments.specs.FixedCursor.{MayBeShortened}
use Rattle.segments.specs.FixedLists.{section_bytes, size_held}
use Rattle.segments.specs.FixedReplay.{Walk, IsAhead, IsWalk}
use Rattle.segments.specs.FixedStepping.{failing, OnlySections, Touches, IsCutBack}
use Rattle.blob_device.proofs.general.Options.{none_in}

module _ {F S : Type 0} {gs : _} (seal : List ℕ → ℕ) (size : ℕ) (g : buffer.Ghosts (PageBlob S gs)) (gives : F → Setting) {told : Type 0} (old : Walk F (PageBlob S gs)) (before : OpenedList) (a : Timeline)
    (was : IsWalk g gives seal size told old before (disk a)) (s n : ℕ) (may : MayBeShortened seal size told s n old (disk a)) where
  -- all bytes of the section are sealed, and no byte is in memory alone
  pub bytes_sealed : told → (u : PageBlob S gs) → old.journal.sections.held s ≡ Some u
      → sealed_prefix seal u.page_size (disk a (key_of old.journal.sections s)).content ≡ bytes_of (shown u) (disk a (key_of old.journal.sections s)).content
  bytes_sealed t u held = sealed_flushed seal (shown u) (disk a (key_of old.journal.sections s)) u.fit.begun (may.sealed t u held)
      (all_flushed (shown u) u.fit.within u.order (was.walk.owes_settled.settled s u held may.owes))

  pub within_here : (u : PageBlob S gs) → old.journal.sections.held s ≡ Some u → n ≤ size_of (shown u)
  within_here u held = omega (arith, may.within, ap size_held held)

  pub within_prefix : told → (u : PageBlob S gs) → old.journal.sections.held s ≡ Some u → n ≤ length (sealed_prefix seal u.page_size (disk a (key_of old.journal.sections s)).content)
  within_prefix t u held = omega (arith, within_here u held, ap length (bytes_sealed t u held), bytes_length (shown u) (disk a (key_of old.journal.sections s)).content)

  -- the moments of the cut, by the bytes of the section
  pub cut_moments : told → (u : PageBlob S gs) → old.journal.sections.held s ≡ Some u → (m : ℕ) → m ≡ n → (b : Timeline)
      → Sealing seal u.page_size (sealed_prefix seal u.page_size (disk a (key_of old.journal.sections s)).content) m (key_of old.journal.sections s) a b
      → Sealing seal u.page_size (section_bytes old.journal.sections (disk a) s) n (key_of old.journal.sections s) a b
  cut_moments t u held m is b moments = subst (λ (l : List ℕ). Sealing seal u.page_size l n (key_of old.journal.sections s) a b)
      (bytes_sealed t u held ∙ sym (bytes_here old.journal.sections s u held (disk a)))
      (subst (λ (k : ℕ). Sealing seal u.page_size (sealed_prefix seal u.page_size (disk a (key_of old.journal.sections s)).content) k (key_of old.journal.sections s) a b) is moments)

  module _ (new : Walk F (PageBlob S gs)) (after : OpenedList) (b : Timeline) {T : Type 0} (result : Result T Error) (only : OnlySections old new)
      (touch : Touches g gives told result s old.journal.sections new.journal.sections before after a b) where
    one : OnlyOne seal size told s old new (disk a) (disk b)
    one = record {
      same = record { bounds = touch.bounds; unrecovered = only.unrecovered; floors = only.floors; section = only.section; position = only.position };
      small = was.over.opened_list.number s (inl may.held);
      numbers = λ q held. was.over.opened_list.number q (inl held);
      others = touch.others;
      blobs = touch.blobs;
    }

    none_new : new.place ≡ None
    none_new = only.place ∙ may.between

    ahead_old : (t : ℕ) → IsAhead new t → IsAhead old t
    ahead_old t h = subst (λ (o : Option ℕ). IsSomeAnd o (λ m. m ≤ t)) only.next h

    -- what is ahead is behind the section
    ahead_behind : (t : ℕ) → IsAhead old t → s < t
    ahead_behind t ahead = elim (cases_lt s t) [ inl lt ↦ lt | inr le ↦ absurd (may.not_ahead (ahead_from old.next_section t s le ahead)) ]

    behind : IsBehind seal size s old new
    behind = record {
      in_old = λ t is. absurd (none_in old.place (λ r. r.section ≡ t) may.between is);
      ahead = λ t small. (λ h. (ahead_old t h, ahead_behind t (ahead_old t h)), λ h. subst (λ (o : Option ℕ). IsSomeAnd o (λ m. m ≤ t)) (sym only.next) h.0);
      later = λ t held ahead other. ahead_behind t ahead;
    }

    from_new : (m : ℕ) → new.next_section ≡ Some m → new.start_section ≤ m
    from_new m is = subst (λ (k : ℕ). k ≤ m) (sym only.section) (was.walk.from_start m (sym only.next ∙ is))

    -- it is cut
    pub walk_shortened : (v : PageBlob S gs) → new.journal.sections.held s ≡ Some v → new.ended ≡ false
        → ((u : PageBlob S gs) → old.journal.sections.held s ≡ Some u → IsCutBack seal told u (disk a (key_of old.journal.sections s)) v (disk b (key_of old.journal.sections s)) n)
        → IsWalk g gives seal size told new after (disk b)
    walk_shortened v held going cuts = walk_on seal size g gives old new before after (disk a) (disk b) was s v one behind again touch.over from_new only.failed (λ ended. absurd (cc (going, ended)))
        (λ fine out at. omega (arith, cut.size, may.start (at ∙ only.section), ap (λ (m : ℕ). m * size) only.position))
      where
        u : (x : PageBlob S gs) × (old.journal.sections.held s ≡ Some x)
        u = some_here (old.journal.sections.held s) may.held
          where
            some_here : {A : Type 0} (o : Option A) → IsSome o → (x : A) × (o ≡ Some x)
            some_here None has = absurd (cc has)
            some_here (Some x) has = (x, refl)

        cut : IsCutBack seal told u.0 (disk a (key_of old.journal.sections s)) v (disk b (key_of old.journal.sections s)) n
        cut = cuts u.0 u.1

        not_free : {b : Bool} → IsTrue b → b ≡ false → ⊥
        not_free owed free = cc (owed, free)

        again : IsKnownAgain seal size g gives old new before after (disk a) (disk b) was s v
        again = record {
          held = held;
          not_ahead = λ h. may.not_ahead (ahead_old s h);
          settled = λ owed. cut.settled;
          sealed = λ t proven. absurd (not_free may.owes proven.checked);
          whole = λ t free. absurd (not_free may.owes free);
          gone_over = λ t out read. (
            subst (λ (k : Key). IsSealed seal (shown v) (disk b k)) (sym (key_new seal size s old new (disk a) (disk b) one s)) (cut.sealed t),
            ap (λ (m : ℕ). m % size) cut.size ∙ may.whole,
          );
          place = λ x is. absurd (cc (none_new, is));
          begun = λ there. absurd (none_in new.place (λ x. x.section ≡ s) none_new there);
        }

    -- the cut failed
    pub walk_lost : ((new.journal.sections.held s ≡ None) × IsSome (new.journal.sections.unopened s)) ⊎ ((new.journal.sections.held s ≡ old.journal.sections.held s) × (b ≡ a)) → IsWalk g gives seal size told (failing new) after (disk b)
    walk_lost lost = walk_broken seal size g gives old new before after (disk a) (disk b) was touch.over one.same kept none_new ahead_old from_new
      where
        kept : (q : ℕ) (x : PageBlob S gs) → new.journal.sections.held q ≡ Some x → (old.journal.sections.held q ≡ Some x) × (told → disk b (key_of new.journal.sections q) ≡ disk a (key_of old.journal.sections q))
        kept q x held = elim (cases_eq q s) [
          | inl at ↦ elim lost [
            | inl gone ↦ absurd (no_more (subst (λ (k : ℕ). new.journal.sections.held k ≡ Some x) at held) gone.0)
            | inr same ↦ (
              subst (λ (k : ℕ). old.journal.sections.held k ≡ Some x) (sym at) (sym same.0 ∙ subst (λ (k : ℕ). new.journal.sections.held k ≡ Some x) at held),
              λ t. ap (disk b) (key_new seal size s old new (disk a) (disk b) one q) ∙ ap (λ (y : Timeline). disk y (key_of old.journal.sections q)) same.1,
            )
          ]
          | inr other ↦ (let held_old : old.journal.sections.held q ≡ Some x = sym (one.others q other).held ∙ held in
              (held_old, λ t. blob_other seal size s old new (disk a) (disk b) one t q other (subst IsSome (sym held_old) refl)))
        ]
          where
            no_more : {A : Type 0} {o : Option A} {y : A} → o ≡ Some y → o ≡ None → ⊥
            no_more is none = cc (is, none)
