-- What a fixed journal is once all behind its checkpoint is removed.
use Rattle.std.proofs.Common.{◌≡◌, ◌≢◌, inl, inr, ℕ, ◌%◌, min, Bool, true, false, List, Option, None, Some, IsSome, Result, Ok, Err, refl, sym, ◌∙◌, ap, subst, arith}
use Rattle.std.proofs.lemmas.Bool.{cases_eq, cases_lt}
use Rattle.blob_device.specs.Disk.{Disk}
use Rattle.blob_device.specs.Opened.{OpenedList}
use Rattle.blob_device.specs.Timeline.{disk}
use Rattle.blob_device.specs.declared.device.Device as device
use Rattle.sealed_pages.specs.Buffer.{size_of}
use Rattle.sealed_pages.specs.Shown.{shown}
use Rattle.sealed_pages.specs.declared.page_blob.PageBlob.{PageBlob}
use Rattle.section_manager.specs.Answers.{seen}
use Rattle.section_manager.specs.Sealed.{is_unsettled}
use Rattle.section_manager.specs.Sections.{key_of, IsCut}
use Rattle.section_manager.specs.Setting.{Setting}
use Rattle.section_manager.specs.declared.buffer.SectionBuffer as buffer
use Rattle.section_manager.specs.declared.journal.Error.{Error}
use Rattle.segments.specs.FixedBounds.{IsTailCut, CutsTail}
use Rattle.segments.specs.FixedCheckpoint.{IsReady, Restores, Finishes}
use Rattle.segments.specs.FixedLists.{Lists, section_size, size_held, IsJournal}
use Rattle.segments.specs.declared.fixed.preflighting.Target.{Target}
use Rattle.segments.specs.lemmas.adding.Write.{ArePages, journal_of}
use Rattle.segments.specs.lemmas.cutting.Cut.{empty_sealed}
use Rattle.segments.specs.lemmas.held.Passing.{no_error}
use Rattle.blob_device.proofs.general.Options.{none_or_value, some_same, value_of}

module _ {F S : Type 0} {gs : _} (g : buffer.Ghosts (PageBlob S gs)) (gives : F → Setting) (seal : List ℕ → ℕ) (size : ℕ) (told : Type 0) (pages : ArePages g seal)
    (j : Lists F (PageBlob S gs)) (t : Target) (before opened : OpenedList) (from d : Disk) (ready : IsReady g gives seal size told j t before from)
    (i : Lists F (PageBlob S gs)) (cut : IsTailCut g gives seal size told j t.section t.size i opened from d) where
  -- its section has the checkpoint's bytes
  size_cut : (s : ℕ) → s ≡ t.section → (u : PageBlob S gs) → i.sections.held s ≡ Some u → size_of (shown u) ≡ t.size
  size_cut s is u held = elim (none_or_value (j.sections.held t.section)) [
    | inl none ↦ (let gone = cut.absent none in let here = sym (ap i.sections.held is) ∙ held in absurd (cc (gone, here)))
    | inr w ↦
        let v = value_of (i.sections.held t.section) (λ v. IsCut g told t.size w.0 v (from (key_of j.sections t.section)) (d (key_of j.sections t.section))) (cut.cut w.0 w.1) in
        let same : v.value ≡ u = some_same v.value u (sym v.is ∙ sym (ap i.sections.held is) ∙ held) in
        let count : size_of (shown v.value) ≡ min (size_of (shown w.0)) t.size = sym (pages.count v.value) ∙ v.has.size ∙ ap (λ (n : ℕ). min n t.size) (pages.count w.0) in
        ap (λ (x : PageBlob S gs). size_of (shown x)) (sym same) ∙ omega (arith, count, ready.reached w.0 w.1)
  ]

  -- nothing is left to settle
  idle_own : (u : PageBlob S gs) → i.sections.held t.section ≡ Some u → is_unsettled (shown u) ≡ false
  idle_own u held = elim (none_or_value (j.sections.held t.section)) [
    | inl none ↦ (let gone = cut.absent none in absurd (cc (gone, held)))
    | inr w ↦
        let v = value_of (i.sections.held t.section) (λ v. IsCut g told t.size w.0 v (from (key_of j.sections t.section)) (d (key_of j.sections t.section))) (cut.cut w.0 w.1) in
        let same : v.value ≡ u = some_same v.value u (sym v.is ∙ held) in
        subst (λ (x : PageBlob S gs). is_unsettled (shown x) ≡ false) same (elim (cases_lt t.size (g.byte_count w.0)) [
          | inl lt ↦ sym (pages.unsettled v.value) ∙ v.has.done lt
          | inr le ↦ subst (λ (x : PageBlob S gs). is_unsettled (shown x) ≡ false) (sym (v.has.same le)) (ready.idle t.section w.0 w.1)
        ])
  ]

  idle_cut : (s : ℕ) (u : PageBlob S gs) → i.sections.held s ≡ Some u → is_unsettled (shown u) ≡ false
  idle_cut s u held = elim (cases_lt t.section s) [
    | inl later ↦ (let gone = (cut.later s later).held in absurd (cc (gone, held)))
    | inr le ↦ elim (cases_eq s t.section) [
      | inr other ↦ ready.idle s u (sym (cut.earlier s (omega (arith, le, other))).held ∙ held)
      | inl at ↦ idle_own u (subst (λ (x : ℕ). i.sections.held x ≡ Some u) at held)
    ]
  ]

  -- no other section owed a replay
  free_before : (s : ℕ) → s ≢ t.section → i.unrecovered s ≡ false
  free_before s other = elim (cases_lt t.section s) [
    | inl later ↦ cut.recovered s later
    | inr early ↦ cut.unrecovered s early ∙ none (j.unrecovered s) refl
  ]
    where
      none : (b : Bool) → j.unrecovered s ≡ b → b ≡ false
      none true is = absurd (other (ready.owes s is))
      none false is = refl

  module _ (has : ℕ → Bool) (removed : has t.section ≡ false) (others : (s : ℕ) → s ≢ t.section → has s ≡ i.unrecovered s) where
    free : (s : ℕ) → has s ≡ false
    free s = elim (cases_eq s t.section) [ inl is ↦ ap has is ∙ removed | inr other ↦ others s other ∙ free_before s other ]

    restored_journal : IsJournal g gives seal size told (record { sections = i.sections; unrecovered = has; floor_of = i.floor_of }) opened d
    restored_journal = journal_of seal size told g gives (record { sections = i.sections; unrecovered = has; floor_of = i.floor_of }) opened d cut.over.over (λ s. record {
      owes_held = λ is. (let not = free s in absurd (cc (not, is)));
      owes_settled = λ u held is. (let not = free s in absurd (cc (not, is)));
      sealed = λ l u held is. elim (cases_eq s t.section) [
        | inl same ↦
            let floor : t.size ≡ 0 = sym ready.floor_is ∙ sym (cut.floors t.section (omega arith)) ∙ ap i.floor_of (sym same) ∙ is.free in
            empty_sealed seal (shown u) (d (key_of i.sections s)) u.fit.begun (size_cut s same u held ∙ floor) (pages.stands u (d (key_of i.sections s)) ((cut.over.over.disk l).stands s u held)).adopted
        | inr other ↦ (cut.over.disk l).sealed s u held (record { checked = free_before s other; free = is.free })
      ];
      whole = λ l u held is. elim (cases_eq s t.section) [
        | inl same ↦ ap (λ (n : ℕ). n % size) (size_cut s same u held) ∙ ready.whole
        | inr other ↦ (cut.over.disk l).whole s u held (free_before s other)
      ];
      later = λ l is. (cut.over.unopened l).later s is;
    })

    size_left : section_size i.sections t.section ≡ t.size
    size_left = elim (none_or_value (i.sections.held t.section)) [
      | inr u ↦ ap size_held u.1 ∙ size_cut t.section refl u.0 u.1
      | inl none ↦ elim (cases_lt 0 t.size) [
        | inr le ↦ (let zero : 0 ≡ t.size = omega (arith, le) in ap size_held none ∙ zero)
        | inl some ↦ elim (none_or_value (j.sections.held t.section)) [
          | inl gone ↦ absurd (cc (subst IsSome gone (ready.there some)))
          | inr w ↦
              let v = value_of (i.sections.held t.section) (λ v. IsCut g told t.size w.0 v (from (key_of j.sections t.section)) (d (key_of j.sections t.section))) (cut.cut w.0 w.1) in
              let is = v.is in absurd (cc (none, is))
        ]
      ]
    ]

module _ {F S D : Type 0} {gs : _} (g : buffer.Ghosts (PageBlob S gs)) (gives : F → Setting) (seal : List ℕ → ℕ) (size : ℕ) (dev : device.Ghosts D) (pages : ArePages g seal)
    (j : Lists F (PageBlob S gs)) (t : Target) (old new : D) (ready : IsReady g gives seal size dev.Tells j t (dev.opened old) (disk (dev.time old))) where
  -- it ends so
  pub restores : (i : Lists F (PageBlob S gs)) (has : ℕ → Bool) → CutsTail g gives seal size dev.Tells j t.section t.size dev (Ok i) old new
      → has t.section ≡ false → ((s : ℕ) → s ≢ t.section → has s ≡ i.unrecovered s)
      → Restores g gives seal size dev j (Ok (record { sections = i.sections; unrecovered = has; floor_of = i.floor_of })) old new t
  restores i has cuts removed others = record {
    moments = cuts.moments;
    ends = record {
      over = restored_journal g gives seal size dev.Tells pages j t (dev.opened old) (dev.opened new) (disk (dev.time old)) (disk (dev.time new)) ready i cuts.ends has removed others;
      cut = (i, cuts.ends, refl, λ s. refl);
      recovered = free g gives seal size dev.Tells pages j t (dev.opened old) (dev.opened new) (disk (dev.time old)) (disk (dev.time new)) ready i cuts.ends has removed others;
      idle = idle_cut g gives seal size dev.Tells pages j t (dev.opened old) (dev.opened new) (disk (dev.time old)) (disk (dev.time new)) ready i cuts.ends;
      size_is = size_left g gives seal size dev.Tells pages j t (dev.opened old) (dev.opened new) (disk (dev.time old)) (disk (dev.time new)) ready i cuts.ends has removed others;
    };
    idle = cuts.idle;
    entries = cuts.entries;
    faults = cuts.faults;
    damage = λ l bad. absurd (no_error (record { sections = i.sections; unrecovered = has; floor_of = i.floor_of }) _ bad.1);
    cause = tt;
  }

  -- or the cut failed
  pub restores_err : {T : Type 0} (see : T → Lists F (PageBlob S gs)) (r : Result T Error) (e : Error) → r ≡ Err e
      → CutsTail g gives seal size dev.Tells j t.section t.size dev (Err e) old new
      → Restores g gives seal size dev j (seen see r) old new t
  restores_err see r e is cuts = subst (λ (x : Result (Lists F (PageBlob S gs)) Error). Restores g gives seal size dev j x old new t) (sym (ap (seen see) is)) (record {
    moments = cuts.moments;
    ends = tt;
    idle = cuts.idle;
    entries = cuts.entries;
    faults = cuts.faults;
    damage = cuts.damage;
    cause = elim cuts.cause [
      | inl pruned ↦ (let less = cuts.guard.0 pruned in absurd (omega (arith, less, ready.floor)))
      | inr other ↦ other
    ];
  })

module _ {F S D : Type 0} {gs : _} (g : buffer.Ghosts (PageBlob S gs)) (gives : F → Setting) (seal : List ℕ → ℕ) (size : ℕ) (dev : device.Ghosts D) (j : Lists F (PageBlob S gs)) where
  -- without a checkpoint
  pub gives_same : (old : D) (o : Option Target) → o ≡ None → Finishes g gives seal size dev j (Ok j) old old o
  gives_same old o is = subst (λ (x : Option Target). Finishes g gives seal size dev j (Ok j) old old x) (sym is) (record { same = refl; unchanged = refl; cause = tt })

  -- with one
  pub finishes_some : (r : Result (Lists F (PageBlob S gs)) Error) (old new : D) (t : Target) (o : Option Target) → o ≡ Some t → Restores g gives seal size dev j r old new t → Finishes g gives seal size dev j r old new o
  finishes_some r old new t o is has = subst (λ (x : Option Target). Finishes g gives seal size dev j r old new x) (sym is) has
