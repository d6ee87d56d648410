-- What the check of a checkpoint finds, where nothing is refused.
use Rattle.std.specs.Prelude.{◌≡◌, ◌↔◌, ℕ, ◌%◌, ◌^◌, ◌<◌, ◌≤◌, Bool, List, length, Option, None, Some, IsTrue, IsSome, IsSomeAnd}
use Rattle.std.proofs.Common.{inl, inr, refl, sym, ◌∙◌, ap, subst, arith}
use Rattle.std.proofs.lemmas.Bool.{cases_lt, cases_eq}
use Rattle.blob_device.specs.Disk.{Key}
use Rattle.blob_device.specs.Opened.{OpenedList}
use Rattle.blob_device.specs.Timeline.{Timeline, disk, Always, Each}
use Rattle.sealed_pages.specs.SealedPrefix.{sealed_prefix, adopted_size}
use Rattle.sealed_pages.specs.declared.page_blob.PageBlob.{PageBlob}
use Rattle.sealed_pages.specs.declared.pages.Pages.{Pages}
use Rattle.section_manager.specs.Lasting.{IsSettling}
use Rattle.section_manager.specs.Sealed.{adopted_bytes}
use Rattle.section_manager.specs.Sections.{Sections, section_key, key_of, IsHeld}
use Rattle.section_manager.specs.Setting.{Setting}
use Rattle.section_manager.specs.declared.buffer.SectionBuffer as buffer
use Rattle.section_manager.specs.declared.sealed.AppendFactory.{AppendFactory}
use Rattle.section_manager.specs.declared.unopened.Unopened.{Unopened}
use Rattle.section_manager.specs.declared.unopened.Unopened.TheVariants.{Section, Leftover}
use Rattle.segments.specs.FixedCheckpoint.{boundary_at, IsUnder, AreChecked, HasCome, Found, IsReady, IsOpenedFor}
use Rattle.segments.specs.FixedFloors.{Floors}
use Rattle.segments.specs.FixedLists.{Lists, section_size, size_held}
use Rattle.segments.specs.declared.fixed.preflighting.Target.{Target}
use Rattle.segments.proofs.checkpoint.AsBefore.{checked_same}
use Rattle.segments.proofs.checkpoint.Checking.{boundary_own, adopted_here, whole_count}
use Rattle.segments.proofs.opened.FloorLemmas.{AreOpened, adopted_now, was_there}
use Rattle.segments.proofs.opened.OpenLemmas.{opened_journal}
use Rattle.segments.proofs.checkpoint.Preflights.{reads_as}
use Rattle.segments.specs.lemmas.adding.Write.{ArePages}
use Rattle.blob_device.proofs.general.Options.{none_or_value}

module _ {A S : Type 0} {gs : _} (seal : List ℕ → ℕ) (size at bytes : ℕ) (spelling : A → List ℕ) (accepted : A → Unit {0} → Type 0) (g : buffer.Ghosts (PageBlob S gs)) (gives : AppendFactory S → Setting)
    (are : ArePages g seal) (told : Type 0) (p : List ℕ) (pages : Pages) (from now : Timeline) (list : OpenedList) (m : Sections (AppendFactory S) (PageBlob S gs)) (f : Floors A)
    (opened : AreOpened g gives told p at from m now list) (moments : told → Always from now (Each (IsSettling p at (disk from)))) (ceiling : m.ceiling ≡ at) (page : (gives m.factory).page_size ≡ pages.page_size)
    (small : at < 2 ^ 64) (pos : 1 ≤ size)
    (come : HasCome seal pages.page_size size p at bytes spelling accepted (λ q. q ≤ at) told m m f (disk now)) (end : f.floor_of at ≡ bytes) where
  size_adopted : told → (s : ℕ) → IsHeld m s → section_size m s ≡ adopted_size seal pages.page_size (disk now (section_key p s)).content
  size_adopted t s held = sym (adopted_here seal g gives are told m list (disk now) opened.over (adopted_now g gives told p at from m now list opened moments t seal are) s held)
      ∙ ap (λ (n : ℕ). adopted_size seal n (disk now (key_of m s)).content) page ∙ ap (λ (x : List ℕ). adopted_size seal pages.page_size (disk now (section_key x s)).content) opened.place

  held_there : told → (s : ℕ) → s ≤ at → IsTrue (disk now (section_key p s)).there → IsHeld m s
  held_there t s le there = (opened.held t s (omega (arith, le, small))).1 (was_there p at from now (moments t) s there, le)

  -- no section has fewer bytes than its floor
  pub reaches : told → (s : ℕ) → f.floor_of s ≤ section_size m s
  reaches t s = elim (cases_lt s at) [
    | inl early ↦ elim (none_or_value (m.held s)) [
      | inl none ↦ (let free = (come.checked.free t s (λ under. absent s early none t under)).1 in omega (arith, free))
      | inr u ↦ (let whole = come.ends s (omega (arith, early)) early (subst IsSome (sym u.1) refl) in omega (arith, whole))
    ]
    | inr past ↦ elim (cases_eq s at) [
      | inl own ↦ elim (cases_lt 0 bytes) [
        | inl some ↦ own_reached s own some
        | inr none ↦ (let same : f.floor_of s ≡ bytes = ap f.floor_of own ∙ end in omega (arith, same, none))
      ]
      | inr other ↦ (let free = (come.checked.free t s (later s (omega (arith, past, other)))).1 in omega (arith, free))
    ]
  ]
    where
      absent : (s : ℕ) → s < at → m.held s ≡ None → told → IsUnder seal pages.page_size size p at bytes (disk now) s → ⊥
      absent s early none t (inl own) = omega (arith, own, early)
      absent s early none t (inr there) = cc (subst IsSome none (held_there t s (omega (arith, early)) there.1))

      later : (s : ℕ) → at < s → IsUnder seal pages.page_size size p at bytes (disk now) s → ⊥
      later s late (inl own) = omega (arith, own, late)
      later s late (inr there) = omega (arith, there.0, late)

      own_reached : (s : ℕ) → s ≡ at → 0 < bytes → f.floor_of s ≤ section_size m s
      own_reached s own some =
          let passed = come.checked.passed t at (omega arith) (inl refl) in
          let ends = boundary_own seal pages.page_size size p at bytes (disk now) at refl in
          let more : 0 < boundary_at seal pages.page_size size p at bytes (disk now) at = omega (arith, ends, some) in
          let v = passed.last more in
          let count = whole_count (boundary_at seal pages.page_size size p at bytes (disk now) at) size pos passed.whole in
          let here = size_adopted t at (held_there t at (omega arith) (passed.there more)) in
          let floor : f.floor_of s ≡ bytes = ap f.floor_of own ∙ end in
          let same : section_size m s ≡ section_size m at = ap (λ (n : ℕ). section_size m n) own in
          omega (arith, floor, same, here, count, ends, v.1.within)

  -- what it shows
  pub found : IsSomeAnd f.target (λ t. (t.section ≡ at) × (t.size ≡ bytes))
      → Found seal pages.page_size size p at bytes spelling accepted told f (disk from)
  found target = record {
    checked = record {
      shows = λ t s all under. (same t).shows t s (among s under) under;
      floors = λ t s all under. (same t).floors t s (among s under) under;
      passed = λ t s all under. (same t).passed t s (among s under) under;
      others = λ s none. absurd (none tt);
      free = λ t s not. (same t).free t s not;
    };
    target = target;
  }
    where
      same : told → AreChecked seal pages.page_size size p at bytes spelling accepted (λ q. q ≤ at) told f (disk from)
      same t = checked_same seal pages.page_size size p at bytes (disk now) (disk from) (reads_as seal pages.page_size size p at bytes from now (moments t)) spelling accepted told (λ q. q ≤ at) f come.checked

      among : (s : ℕ) → IsUnder seal pages.page_size size p at bytes (disk from) s → s ≤ at
      among s (inl own) = omega (arith, own)
      among s (inr under) = omega (arith, under.0)

  module _ (has : ℕ → Bool) (filled : (s : ℕ) → IsTrue (has s) ↔ (f.floor_of s < section_size m s)) (reached : (s : ℕ) → f.floor_of s ≤ section_size m s) (whole : (s : ℕ) → f.floor_of s % size ≡ 0) where
    abbrev pub j : Lists (AppendFactory S) (PageBlob S gs)
    j = record { sections = m; unrecovered = has; floor_of = f.floor_of }

    owes_own : (s : ℕ) → IsTrue (has s) → s ≡ at
    owes_own s owes = elim (none_or_value (m.held s)) [
      | inl none ↦ absurd (omega (arith, (filled s).0 owes, ap size_held none))
      | inr u ↦
          let held : IsHeld m s = subst IsSome (sym u.1) refl in
          let le = opened.over.opened_list.to_ceiling s held in
          elim (cases_lt s at) [
            | inl early ↦ (let same = come.ends s (omega (arith, early)) early held in absurd (omega (arith, (filled s).0 owes, same)))
            | inr late ↦ omega (arith, le, late, ceiling)
          ]
    ]

    ready : (t : Target) → (t.section ≡ at) × (t.size ≡ bytes) → IsReady g gives seal size told j t list (disk now)
    ready t is = record {
      over = opened_journal seal size told g are gives m list (disk now) opened.over has f.floor_of opened.idle filled reached whole (λ l s some. omega (arith, ceiling, opened.later s some));
      bounded = omega (arith, is.0, ceiling);
      floor = opened.floor;
      whole = ap (λ (n : ℕ). n % size) (is.1 ∙ sym end) ∙ whole at;
      floor_is = ap f.floor_of is.0 ∙ end ∙ sym is.1;
      reached = λ u held. omega (arith, reached t.section, ap f.floor_of is.0, end, is.1, ap size_held held);
      sealed = λ l u held more.
          let own : m.held at ≡ Some u = sym (ap m.held is.0) ∙ held in
          let is_held : IsHeld m at = subst IsSome (sym own) refl in
          let passed = come.checked.passed l at (omega arith) (inl refl) in
          let long : bytes < adopted_size seal pages.page_size (disk now (section_key p at)).content = omega (arith, size_adopted l at is_held, ap size_held own, more, is.1) in
          let paged : u.page_size ≡ pages.page_size = sym (are.page_size u) ∙ ap (λ (x : Setting). x.page_size) (opened.over.opened_list.setting at u own) ∙ page in
          let key : key_of m t.section ≡ section_key p at = ap (λ (s : ℕ). key_of m s) is.0 ∙ ap (λ (x : List ℕ). section_key x at) opened.place in
          let prefix : length (sealed_prefix seal u.page_size (disk now (key_of m t.section)).content) ≡ length (sealed_prefix seal pages.page_size (disk now (section_key p at)).content) =
          ap (λ (n : ℕ). length (sealed_prefix seal n (disk now (key_of m t.section)).content)) paged ∙ ap (λ (k : Key). length (sealed_prefix seal pages.page_size (disk now k).content)) key in
          omega (arith, passed.sealed refl long, prefix, is.1);
      owes = λ s owes. owes_own s owes ∙ sym is.0;
      there = λ some. elim (none_or_value (m.held t.section)) [
        | inl none ↦ absurd (omega (arith, some, ap size_held none, reached t.section, ap f.floor_of is.0, end, is.1))
        | inr u ↦ subst IsSome (sym u.1) refl
      ];
      idle = λ s u held. sym (are.unsettled u) ∙ opened.idle s u held;
    }

    -- the journal that was opened for it
    pub opened_for : (write_buffer : ℕ) → m.factory.pages ≡ pages → m.factory.write_buffer ≡ write_buffer
        → IsOpenedFor seal pages.page_size size p at bytes spelling accepted g gives told pages write_buffer j list (disk from) (disk now)
    opened_for write_buffer paging buffering = record {
      ready = ready;
      held = opened.held;
      unopened = λ t s lt. (
        λ some. (opened.unopened t s lt).0 (section s (m.unopened s) refl some),
        λ there. subst IsSome (sym ((opened.unopened t s lt).1 there)) refl,
      );
      later = opened.later;
      contents = λ t s held. opened.bytes t s held ∙ are.holds (gives m.factory) (disk from (section_key p s)).content ∙ ap (λ (n : ℕ). adopted_bytes seal n (disk from (section_key p s)).content) page;
      idle = λ s u held. sym (are.unsettled u) ∙ opened.idle s u held;
      partition_is = opened.place;
      pages_are = paging;
      write_buffer_is = buffering;
      ceiling = ceiling;
    }
      where
        section : (s : ℕ) (o : Option Unopened) → m.unopened s ≡ o → IsSome (m.unopened s) → m.unopened s ≡ Some Section
        section s None is some = absurd (cc (subst IsSome is some))
        section s (Some Section) is some = is
        section s (Some Leftover) is some = absurd (opened.no_leftover s is)
