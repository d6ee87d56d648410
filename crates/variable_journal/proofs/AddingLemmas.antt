-- How an append of a frame ends, from what the append of its bytes did.
use Rattle.std.proofs.Common.{◌≡◌, ◌⊎◌, ◌↔◌, ◌∙◌, inl, inr, ℕ, ◌+◌, ◌^◌, ◌<◌, ◌≤◌, List, [], ◌++◌, ◌∷◌, length, Option, None, Some, Result, Ok, Err, IsSome, IsSomeAnd, refl, sym, ap, subst, arith}
use Rattle.std.specs.Result.{IsErrOf}
use Rattle.std.proofs.Math.Nat.{div-one}
use Rattle.std.proofs.lemmas.Bool.{cases_eq}
use Rattle.blob_device.specs.Timeline.{disk}
use Rattle.blob_device.specs.declared.device.Device as device
use Rattle.sealed_pages.specs.Buffer.{extent, size_of, IsSealed}
use Rattle.sealed_pages.specs.Shown.{shown}
use Rattle.sealed_pages.specs.declared.page_blob.PageBlob.{PageBlob}
use Rattle.section_manager.specs.Refusing.{HasFailed, IsPruned}
use Rattle.section_manager.specs.Sections.{key_of, IsHeld}
use Rattle.section_manager.specs.Setting.{Setting}
use Rattle.section_manager.specs.declared.buffer.SectionBuffer as buffer
use Rattle.section_manager.specs.declared.journal.Error.{Error}
use Rattle.section_manager.specs.declared.journal.Error.TheVariants.{Full, Mem, ValueTooLarge}
use Rattle.section_manager.specs.declared.sealed.AppendFactory.{AppendFactory}
use Rattle.section_manager.specs.lemmas.Seen.{err_same, failed_again}
use Rattle.segments.specs.FixedAdding as bytes
use Rattle.segments.specs.FixedAdding.{Overfills, WouldOverfill}
use Rattle.segments.specs.FixedLists.{Lists, section_bytes, section_size, size_held, IsRecovered}
use Rattle.segments.specs.lemmas.adding.Adding.{along_nothing}
use Rattle.segments.specs.lemmas.adding.Write.{ArePages}
use Rattle.variable_journal.specs.lemmas.Frame.{one_more}
use Rattle.variable_journal.specs.Adding.{Appends}
use Rattle.variable_journal.specs.Frames.{frame, items_of, rest_of}
use Rattle.variable_journal.specs.Lists.{AreFramed, IsJournal}

-- the error of an append, of an answer of any type
abbrev pub IsWhy : (T : Type 0) → ℕ → ℕ → ℕ → Error → Type 0
IsWhy T floor few many e = IsErrOf {T = T} (Err e) ValueTooLarge ⊎ (IsPruned {T = T} (Err e) floor
    ⊎ (IsErrOf {T = T} (Err e) Full ⊎ HasFailed {T = T} (Err e) few many))

module _ {S : Type 0} {gs : _} (j : Lists (AppendFactory S) (PageBlob S gs)) (s n : ℕ) (page : (u : PageBlob S gs) → j.sections.held s ≡ Some u → u.page_size ≡ j.sections.factory.pages.page_size) where
  held_full : (o : Option (PageBlob S gs)) → j.sections.held s ≡ o → IsSomeAnd o (λ u. 2 ^ 64 ≤ extent u.page_size (size_of (shown u) + n)) → WouldOverfill j s n
  held_full None is full = absurd full
  held_full (Some u) is full = subst (λ (P : ℕ). 2 ^ 64 ≤ extent P (section_size j.sections s + n)) (page u is)
      (subst (λ (m : ℕ). 2 ^ 64 ≤ extent u.page_size (m + n)) (sym (ap size_held is)) full)

  full_held : (o : Option (PageBlob S gs)) → j.sections.held s ≡ o → IsSome o → WouldOverfill j s n → IsSomeAnd o (λ u. 2 ^ 64 ≤ extent u.page_size (size_of (shown u) + n))
  full_held None is some full = absurd (cc some)
  full_held (Some u) is some full = subst (λ (P : ℕ). 2 ^ 64 ≤ extent P (size_of (shown u) + n)) (sym (page u is))
      (subst (λ (m : ℕ). 2 ^ 64 ≤ extent j.sections.factory.pages.page_size (m + n)) (ap size_held is) full)

  -- too many bytes for the section that is held are too many for one as long
  pub would_overfill : Overfills j s n → WouldOverfill j s n
  would_overfill = held_full (j.sections.held s) refl

  -- and the other way round
  pub does_overfill : IsHeld j.sections s → WouldOverfill j s n → Overfills j s n
  does_overfill = full_held (j.sections.held s) refl

-- the bytes that were added, by another name
pub spelled_as : {S D T : Type 0} {gs : _} (g : buffer.Ghosts (PageBlob S gs)) (gives : AppendFactory S → Setting) (seal : List ℕ → ℕ) (dev : device.Ghosts D)
    (j : Lists (AppendFactory S) (PageBlob S gs)) (s : ℕ) (result : Result T Error) (see : T → Lists (AppendFactory S) (PageBlob S gs) × ℕ) (old new : D) (xs ys : List ℕ) → xs ≡ ys
    → bytes.Appends j s g gives seal 1 xs (length xs) (WouldOverfill j s (length xs)) dev result see old new
    → bytes.Appends j s g gives seal 1 ys (length ys) (WouldOverfill j s (length ys)) dev result see old new
spelled_as g gives seal dev j s result see old new xs ys same did = subst (λ (z : List ℕ). bytes.Appends j s g gives seal 1 z (length z) (WouldOverfill j s (length z)) dev result see old new) same did

module _ {S D : Type 0} {gs : _} (seal : List ℕ → ℕ) (g : buffer.Ghosts (PageBlob S gs)) (are : ArePages g seal)
    (gives : AppendFactory S → Setting) (dev : device.Ghosts D) (j : Lists (AppendFactory S) (PageBlob S gs)) (s : ℕ)
    (old : D) (journal : IsJournal g gives seal dev.Tells j (dev.opened old) (disk (dev.time old))) (recovered : IsRecovered j s)
    (spelled : List ℕ) {C : Type 0} (cfg : C) where
  sealed_here : dev.Tells → (u : PageBlob S gs) → j.sections.held s ≡ Some u → IsSealed seal (shown u) (disk (dev.time old) (key_of j.sections s))
  sealed_here t u held = (journal.bytes.disk t).sealed s u held (record { checked = recovered.checked; free = journal.free s })

  -- it refused before the bytes were added
  pub refused : (e : Error) → (IsErrOf {T = Lists (AppendFactory S) (PageBlob S gs) × ℕ × ℕ} (Err e) ValueTooLarge ↔ (2 ^ 32 ≤ length spelled))
      → (IsPruned {T = Lists (AppendFactory S) (PageBlob S gs) × ℕ × ℕ} (Err e) j.sections.floor ↔ ((length spelled < 2 ^ 32) × (s < j.sections.floor)))
      → (IsErrOf {T = Lists (AppendFactory S) (PageBlob S gs) × ℕ × ℕ} (Err e) Full → dev.Tells ⊎ IsHeld j.sections s → WouldOverfill j s (length (frame spelled)))
      → (length spelled < 2 ^ 32 → j.sections.floor ≤ s → (e ≡ Full) ⊎ (e ≡ Mem))
      → IsWhy (Lists (AppendFactory S) (PageBlob S gs) × ℕ × ℕ) j.sections.floor (dev.faults old) (dev.faults old) e
      → Appends g gives seal dev s spelled j (Err e) cfg (Err e) old old
  refused e large guard full why cause =
      let along = along_nothing seal 1 g are gives dev j s old journal.bytes recovered (frame spelled) (length (frame spelled)) in
      record {
        over = tt;
        offset = tt;
        sized = tt;
        size = tt;
        bytes = λ t. tt;
        items = λ t. tt;
        tail = tt;
        held = tt;
        settled = tt;
        others = tt;
        spares = λ t. tt;
        bounds = tt;
        unrecovered = tt;
        config = tt;
        alone = along.alone;
        moments = λ t u held. along.moments t u held (sealed_here t u held);
        made = along.made;
        below = along.below;
        entries = along.entries;
        large = large;
        guard = guard;
        refuses = λ which. refl;
        full = full;
        full_refuses = λ is held. refl;
        full_first = λ small le u held big. elim (why small le) [ inl is ↦ inl (ap Err is) | inr is ↦ inr (ap Err is) ];
        room = tt;
        faults = along.faults;
        cause = cause;
      }

  module _ {T : Type 0} (see : T → Lists (AppendFactory S) (PageBlob S gs) × ℕ) (fits : length spelled < 2 ^ 32) (new : D) where
    -- it refused while they were, though there was room
    pub not_added : (e : Error) → (IsHeld j.sections s → WouldOverfill j s (length (frame spelled)) → ⊥) → bytes.Appends j s g gives seal 1 (frame spelled) (length (frame spelled)) (WouldOverfill j s (length (frame spelled))) dev (Err e) see old new
        → Appends g gives seal dev s spelled j (Err e) cfg (Err e) old new
    not_added e room b = record {
      over = tt;
      offset = tt;
      sized = tt;
      size = tt;
      bytes = λ t. tt;
      items = λ t. tt;
      tail = tt;
      held = tt;
      settled = tt;
      others = tt;
      spares = λ t. tt;
      bounds = tt;
      unrecovered = tt;
      config = tt;
      alone = b.alone;
      moments = λ t u held. b.moments t u held (sealed_here t u held);
      made = b.made;
      below = b.below;
      entries = b.entries;
      large = (λ is. absurd (not_large is), λ big. absurd (omega (arith, big, fits)));
      guard = (λ is. (fits, b.guard.0 (err_same is)), λ low. err_same (b.guard.1 low.1));
      refuses = λ which. elim which [ inl big ↦ absurd (omega (arith, big, fits)) | inr low ↦ b.refuses low ];
      full = λ is which. b.full (err_same is) which;
      full_refuses = λ is held. absurd (room held (b.full (err_same is) (inr held)));
      full_first = λ small le u held big. elim (b.full_first le u held big) [ inl is ↦ inl (err_same is) | inr is ↦ inr (err_same is) ];
      room = tt;
      faults = b.faults;
      cause = elim b.cause [
        | inl pruned ↦ inr (inl (err_same pruned))
        | inr (inl is) ↦ inr (inr (inl (err_same is)))
        | inr (inr failed) ↦ inr (inr (inr (failed_again e _ _ failed)))
      ];
    }
      where
        not_large : IsErrOf {T = Lists (AppendFactory S) (PageBlob S gs) × ℕ × ℕ} (Err e) ValueTooLarge → ⊥
        not_large is = elim b.cause [
          | inl pruned ↦ cc (is, pruned)
          | inr (inl full) ↦ cc (is, full)
          | inr (inr (inl none)) ↦ cc (is, none)
          | inr (inr (inr fault)) ↦ (let at = fault.0 in cc (is, at))
        ]

    -- they were added
    pub added : (v : T) (n : ℕ) → n ≡ length spelled
        → bytes.Appends j s g gives seal 1 (frame spelled) (length (frame spelled)) (WouldOverfill j s (length (frame spelled))) dev (Ok v) see old new
        → Appends g gives seal dev s spelled j (Ok ((see v).0, (see v).1, n)) cfg (Ok cfg) old new
    added v n long b = record {
      over = record { bytes = b.over; free = λ q. b.floors q ∙ journal.free q; framed = framed };
      offset = λ which. b.position which ∙ div-one _;
      sized = long;
      size = b.size;
      bytes = b.bytes;
      items = λ t. ap items_of (b.bytes t) ∙ (last t).0;
      tail = b.tail;
      held = b.held;
      settled = b.settled;
      others = b.others;
      spares = b.spares;
      bounds = b.bounds;
      unrecovered = b.unrecovered;
      config = refl;
      alone = b.alone;
      moments = λ t u held. b.moments t u held (sealed_here t u held);
      made = b.made;
      below = b.below;
      entries = b.entries;
      large = (λ is. absurd (cc is), λ big. absurd (omega (arith, big, fits)));
      guard = (λ is. absurd (cc is), λ low. absurd (let is = b.guard.1 low.1 in cc is));
      refuses = λ which. elim which [ inl big ↦ absurd (omega (arith, big, fits)) | inr low ↦ b.refuses low ];
      full = λ is which. absurd (cc is);
      full_refuses = λ is held. absurd (cc is);
      full_first = λ small le u held big. absurd (elim (b.full_first le u held big) [ inl is ↦ cc is | inr is ↦ cc is ]);
      room = b.room;
      faults = b.faults;
      cause = tt;
    }
      where
        last : dev.Tells → (items_of (section_bytes j.sections (disk (dev.time old)) s ++ frame spelled) ≡ items_of (section_bytes j.sections (disk (dev.time old)) s) ++ spelled ∷ [])
            × (rest_of (section_bytes j.sections (disk (dev.time old)) s ++ frame spelled) ≡ [])
        last t = one_more (section_bytes j.sections (disk (dev.time old)) s) spelled (journal.framed t s recovered.checked) fits

        framed : dev.Tells → AreFramed (see v).0 (disk (dev.time new))
        framed t q free = elim (cases_eq q s) [
          | inl is ↦ subst (λ (x : ℕ). rest_of (section_bytes (see v).0.sections (disk (dev.time new)) x) ≡ []) (sym is) (ap rest_of (b.bytes t) ∙ (last t).1)
          | inr other ↦ ap rest_of (b.spares t q other) ∙ journal.framed t q (sym (b.unrecovered q) ∙ free)
        ]
