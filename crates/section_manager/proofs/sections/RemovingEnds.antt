-- How a removal of sections ends.
use Rattle.std.specs.Prelude.{◌≡◌, ℕ, ◌-◌, ◌^◌, ◌<◌, ◌≤◌, Bool, true, false, None, IsSome, IsTrue, Result, Ok, Err}
use Rattle.std.proofs.Common.{inl, inr, refl, sym, ◌∙◌, subst, arith}
use Rattle.std.proofs.lemmas.Bool.{cases_lt}
use Rattle.blob_device.specs.Disk.{Key}
use Rattle.blob_device.specs.Timeline.{disk, Always}
use Rattle.blob_device.specs.declared.device.Device as device
use Rattle.blob_device.specs.lemmas.Moments.{always_start, only_start}
use Rattle.section_manager.specs.declared.buffer.SectionBuffer as buffer
use Rattle.section_manager.specs.declared.journal.Error.{Error}
use Rattle.section_manager.specs.declared.manager.removing.Doomed.{Doomed}
use Rattle.section_manager.specs.declared.manager.removing.Doomed.TheVariants.{Through}
use Rattle.section_manager.specs.Doomed.{IsDoomed, GoesBefore}
use Rattle.section_manager.specs.Lasting.{EntriesLeave, IsGoing, Removing}
use Rattle.section_manager.specs.Leaving.{AllMoments}
use Rattle.section_manager.specs.managing.Removing.{Clears, Destroys, Forgets, Prunes, RemovesAll, RemovesOne}
use Rattle.section_manager.specs.Refusing.{HasFailed, IsPruned}
use Rattle.section_manager.specs.Sections.{Sections, key_of, IsGone, IsHeld, IsKeyOf, IsKnown, IsOver}
use Rattle.section_manager.specs.Setting.{Setting}
use Rattle.section_manager.specs.lemmas.Seen.{failed_again, failed_unpruned}
use Rattle.section_manager.specs.lemmas.sections.Over.{same_key}
use Rattle.section_manager.specs.lemmas.sections.Remove.{gone_unknown}
use Rattle.section_manager.proofs.sections.RemoveLemmas.{below_doomed, doomed_below, entries_as, moments_as, none_known, over_bounds, pruned_flag, removing_start}

module _ {F B D : Type 0} (g : buffer.Ghosts B) (gives : F → Setting) (dev : device.Ghosts D) (m : Sections F B) (old : D) where
  -- ---- one blob

  pub forget_failed : (s : ℕ) (new : D) (r : Result (Sections F B) Error) (e : Error) → r ≡ Err e → (dev.Tells → AllMoments (key_of m s) (IsGoing (disk (dev.time old) (key_of m s))) (dev.time old) (dev.time new))
      → EntriesLeave (λ q. q ≡ key_of m s) (dev.opened old) (dev.opened new) → dev.faults old ≤ dev.faults new → HasFailed {T = Sections F B} (Err e) (dev.faults old) (dev.faults new) → Forgets g gives dev m s old new r
  forget_failed s new r e is moments entries faults failed = subst (Forgets g gives dev m s old new) (sym is) (record {
    over = tt;
    removed = tt;
    others = tt;
    bounds = tt;
    moments = moments;
    gone = λ t. tt;
    entries = entries;
    faults = faults;
    cause = failed;
  })

  -- ---- all that are doomed

  -- the removal of one of them failed
  pub all_failed : (doomed : Doomed) (new : D) (r : Result (Sections F B × Bool) Error) (e : Error) → r ≡ Err e
      → (dev.Tells → Always (dev.time old) (dev.time new) (Removing m (IsDoomed m doomed) (GoesBefore doomed) (disk (dev.time old)))) → (((s : ℕ) → IsDoomed m doomed s → ⊥) → new ≡ old)
      → EntriesLeave (IsKeyOf m (IsDoomed m doomed)) (dev.opened old) (dev.opened new) → dev.faults old ≤ dev.faults new
      → HasFailed {T = Sections F B × Bool} (Err e) (dev.faults old) (dev.faults new) → RemovesAll g gives dev m doomed old new r
  all_failed doomed new r e is moments idle entries faults failed = subst (RemovesAll g gives dev m doomed old new) (sym is) (record {
    over = tt;
    removed = tt;
    kept = tt;
    bounds = tt;
    flag = tt;
    moments = moments;
    gone = λ t. tt;
    idle = idle;
    entries = entries;
    faults = faults;
    cause = failed;
  })

  -- ---- those below a bound

  -- there is none below 0
  pub pruned_none : (min : ℕ) → min ≡ 0 → IsOver g gives dev.Tells m (dev.opened old) (disk (dev.time old)) → Prunes g gives dev m min old old (Ok (m, false))
  pruned_none min none over = record {
    over = over;
    removed = λ s lt. absurd (omega (arith, none, lt));
    kept = λ s le. record { held = refl; unopened = refl };
    place = record { partition = refl; factory = refl };
    ceiling = refl;
    flag = (λ is. absurd (cc is), λ w. absurd (omega (arith, none, w.2)));
    floor = λ is. absurd (cc is);
    same_floor = λ is. refl;
    moments = λ t. always_start (dev.time old) (Removing m (λ s. IsKnown m s × (s < min)) (λ s t. s < t) (disk (dev.time old)))
        (removing_start m (λ s. IsKnown m s × (s < min)) (λ s t. s < t) (disk (dev.time old)));
    gone = λ t s known lt. absurd (omega (arith, none, lt));
    idle = λ all. refl;
    entries = λ q. inl refl;
    faults = omega arith;
    cause = tt;
  }

  module _ (min : ℕ) (some : 0 < min) (new : D) where
    there : (s : ℕ) → IsDoomed m (Through (min - 1)) s → IsKnown m s × (s < min)
    there = doomed_below m min some

    back : (s : ℕ) → IsKnown m s × (s < min) → IsDoomed m (Through (min - 1)) s
    back = below_doomed m min some

    pub prune_failed : (r : Result (Sections F B × Bool) Error) (e : Error) → r ≡ Err e → RemovesAll g gives dev m (Through (min - 1)) old new (Err e) → Prunes g gives dev m min old new r
    prune_failed r e is all = subst (Prunes g gives dev m min old new) (sym is) (record {
      over = tt;
      removed = tt;
      kept = tt;
      place = tt;
      ceiling = tt;
      flag = tt;
      floor = tt;
      same_floor = tt;
      moments = λ t. moments_as m (IsDoomed m (Through (min - 1))) (λ s. IsKnown m s × (s < min)) (λ s t. s < t) there back (dev.time old) (dev.time new) (all.moments t);
      gone = λ t. tt;
      idle = λ none. all.idle (λ s is. omega (arith, is.1, none s is.0));
      entries = entries_as m (IsDoomed m (Through (min - 1))) (λ s. IsKnown m s × (s < min)) (λ s t. s < t) there back (dev.opened old) (dev.opened new) all.entries;
      faults = all.faults;
      cause = all.cause;
    })

    -- they are gone, and the floor is this
    module _ (n : Sections F B) (flag : Bool) (all : RemovesAll g gives dev m (Through (min - 1)) old new (Ok (n, flag))) where
      pub below_gone : (s : ℕ) → s < min → IsGone n s
      below_gone s lt = none_known m n (Through (min - 1)) all.removed all.kept s (λ known. back s (known, lt))

      pub from_min : (s : ℕ) → IsKnown n s → min ≤ s
      from_min s known = elim (cases_lt s min) [
        | inl lt ↦ absurd (gone_unknown n s (below_gone s lt) known)
        | inr le ↦ le
      ]

      pub pruned_to : (floor : ℕ) → ((s : ℕ) → IsKnown n s → floor ≤ s) → (IsTrue flag → floor ≡ min) → (flag ≡ false → floor ≡ n.floor) → Prunes g gives dev m min old new (Ok (record n { floor = floor }, flag))
      pruned_to floor from_floor there_was there_was_none = record {
        over = over_bounds g gives n (dev.opened new) (disk (dev.time new)) floor n.ceiling all.over from_floor all.over.opened_list.to_ceiling;
        removed = λ s lt. (let gone = below_gone s lt in record { held = gone.held; unopened = gone.unopened });
        kept = λ s le. (let same = all.kept s (λ is. omega (arith, is.1, le)) in record { held = same.held; unopened = same.unopened });
        place = record { partition = all.bounds.place.partition; factory = all.bounds.place.factory };
        ceiling = all.bounds.ceiling;
        flag = pruned_flag m min some flag all.flag;
        floor = there_was;
        same_floor = λ is. there_was_none is ∙ all.bounds.floor;
        moments = λ t. moments_as m (IsDoomed m (Through (min - 1))) (λ s. IsKnown m s × (s < min)) (λ s t. s < t) there back (dev.time old) (dev.time new) (all.moments t);
        gone = λ t s known lt. all.gone t s (back s (known, lt));
        idle = λ none. all.idle (λ s is. omega (arith, is.1, none s is.0));
        entries = entries_as m (IsDoomed m (Through (min - 1))) (λ s. IsKnown m s × (s < min)) (λ s t. s < t) there back (dev.opened old) (dev.opened new) all.entries;
        faults = all.faults;
        cause = tt;
      }

      pub pruned : (floor : ℕ) → (flag ≡ true) → floor ≡ min → Prunes g gives dev m min old new (Ok (record n { floor = floor }, flag))
      pruned floor rose is = pruned_to floor (λ s known. omega (arith, is, from_min s known)) (λ yes. is) (λ no. absurd (cc (rose, no)))

      pub not_pruned : flag ≡ false → Prunes g gives dev m min old new (Ok (n, flag))
      not_pruned none = pruned_to n.floor all.over.opened_list.from_floor (λ yes. absurd (cc (none, yes))) (λ no. refl)

  -- ---- one section

  module _ (s : ℕ) (over : IsOver g gives dev.Tells m (dev.opened old) (disk (dev.time old))) where
    still : dev.Tells → AllMoments (key_of m s) (IsGoing (disk (dev.time old) (key_of m s))) (dev.time old) (dev.time old)
    still t = only_start (dev.time old) (key_of m s) (IsGoing (disk (dev.time old) (key_of m s))) (inl refl)

    -- it is below the floor
    pub one_refused : (r : Result (Sections F B × Bool) Error) (e : Error) → r ≡ Err e → IsPruned {T = Sections F B × Bool} (Err e) m.floor → s < m.floor → RemovesOne g gives dev m s old old r
    one_refused r e is pruned below = subst (RemovesOne g gives dev m s old old) (sym is) (record {
      over = tt;
      removed = tt;
      others = tt;
      unopened = tt;
      bounds = tt;
      flag = tt;
      moments = still;
      gone = λ t held. tt;
      absent = λ none. refl;
      entries = λ q. inl refl;
      guard = (λ is. below, λ lt. pruned);
      refuses = λ lt. refl;
      faults = omega arith;
      cause = inl pruned;
    })

    -- it is not held
    pub one_absent : m.floor ≤ s → m.held s ≡ None → RemovesOne g gives dev m s old old (Ok (m, false))
    one_absent from none = record {
      over = over;
      removed = none;
      others = λ q other. record { held = refl; unopened = refl };
      unopened = refl;
      bounds = record { place = record { partition = refl; factory = refl }; floor = refl; ceiling = refl };
      flag = (λ is. absurd (cc is), λ held. absurd (cc (subst IsSome none held)));
      moments = still;
      gone = λ t held. absurd (cc (subst IsSome none held));
      absent = λ is. refl;
      entries = λ q. inl refl;
      guard = (λ is. absurd (cc is), λ below. absurd (omega (arith, below, from)));
      refuses = λ below. refl;
      faults = omega arith;
      cause = tt;
    }

    module _ (new : D) (from : m.floor ≤ s) (held : IsHeld m s) where
      pub one_stays : (r : Result (Sections F B × Bool) Error) (e : Error) → r ≡ Err e → Forgets g gives dev m s old new (Err e) → RemovesOne g gives dev m s old new r
      one_stays r e is does = subst (RemovesOne g gives dev m s old new) (sym is) (record {
        over = tt;
        removed = tt;
        others = tt;
        unopened = tt;
        bounds = tt;
        flag = tt;
        moments = does.moments;
        gone = λ t is_held. tt;
        absent = λ none. absurd (cc (subst IsSome none held));
        entries = does.entries;
        guard = (λ pruned. absurd (failed_unpruned {T = Sections F B × Bool} e m.floor (dev.faults old) (dev.faults new) (failed_again e (dev.faults old) (dev.faults new) does.cause) pruned), λ below. absurd (omega (arith, below, from)));
        refuses = λ below. absurd (omega (arith, below, from));
        faults = does.faults;
        cause = inr (failed_again e (dev.faults old) (dev.faults new) does.cause);
      })

      pub one_goes : (n : Sections F B) → m.unopened s ≡ None → Forgets g gives dev m s old new (Ok n) → RemovesOne g gives dev m s old new (Ok (n, true))
      one_goes n apart does = record {
        over = does.over;
        removed = does.removed.held;
        others = does.others;
        unopened = does.removed.unopened ∙ sym apart;
        bounds = does.bounds;
        flag = (λ is. held, λ is. refl);
        moments = does.moments;
        gone = λ t is_held. does.gone t;
        absent = λ none. absurd (cc (subst IsSome none held));
        entries = does.entries;
        guard = (λ pruned. absurd (cc pruned), λ below. absurd (omega (arith, below, from)));
        refuses = λ below. absurd (omega (arith, below, from));
        faults = does.faults;
        cause = tt;
      }

  -- ---- all sections

  module _ (over : IsOver g gives dev.Tells m (dev.opened old) (disk (dev.time old))) (new : D) where
    doomed_all : (s : ℕ) → IsKnown m s → IsDoomed m (Through (2 ^ 64 - 1)) s
    doomed_all s known = (known, omega (arith, over.opened_list.number s known))

    pub clear_failed : (r : Result (Sections F B) Error) (e : Error) → r ≡ Err e → RemovesAll g gives dev m (Through (2 ^ 64 - 1)) old new (Err e) → Clears g gives dev m old new r
    clear_failed r e is all = subst (Clears g gives dev m old new) (sym is) (record {
      over = tt;
      removed = tt;
      place = tt;
      floor = tt;
      ceiling = tt;
      moments = λ t. moments_as m (IsDoomed m (Through (2 ^ 64 - 1))) (IsKnown m) (λ s t. s < t) (λ s is. is.0) doomed_all (dev.time old) (dev.time new) (all.moments t);
      gone = λ t. tt;
      gone_all = λ t. tt;
      entries = entries_as m (IsDoomed m (Through (2 ^ 64 - 1))) (IsKnown m) (λ s t. s < t) (λ s is. is.0) doomed_all (dev.opened old) (dev.opened new) all.entries;
      faults = all.faults;
      cause = failed_again e (dev.faults old) (dev.faults new) all.cause;
    })

    pub cleared : (n : Sections F B) (flag : Bool) → RemovesAll g gives dev m (Through (2 ^ 64 - 1)) old new (Ok (n, flag)) → Clears g gives dev m old new (Ok (record n { floor = 0; ceiling = 2 ^ 64 - 1 }))
    cleared n flag all =
        let none : (s : ℕ) → IsGone n s = λ s. none_known m n (Through (2 ^ 64 - 1)) all.removed all.kept s (doomed_all s) in
        record {
          over = over_bounds g gives n (dev.opened new) (disk (dev.time new)) 0 (2 ^ 64 - 1) all.over (λ s known. omega arith) (λ s held. omega (arith, all.over.opened_list.number s (inl held)));
          removed = λ s. (let gone = none s in record { held = gone.held; unopened = gone.unopened });
          place = record { partition = all.bounds.place.partition; factory = all.bounds.place.factory };
          floor = refl;
          ceiling = refl;
          moments = λ t. moments_as m (IsDoomed m (Through (2 ^ 64 - 1))) (IsKnown m) (λ s t. s < t) (λ s is. is.0) doomed_all (dev.time old) (dev.time new) (all.moments t);
          gone = λ t s small is_there. gone_unknown n s (none s)
              ((all.over.disk t).whose s small (subst (λ (k : Key). IsTrue (disk (dev.time new) k).there) (sym (same_key m n all.bounds s)) is_there));
          gone_all = λ t s known. all.gone t s (doomed_all s known);
          entries = entries_as m (IsDoomed m (Through (2 ^ 64 - 1))) (IsKnown m) (λ s t. s < t) (λ s is. is.0) doomed_all (dev.opened old) (dev.opened new) all.entries;
          faults = all.faults;
          cause = tt;
        }

  -- and the manager is given up
  pub destroy_failed : {T : Type 0} (new : D) (r : Result T Error) (e : Error) → r ≡ Err e → Clears g gives dev m old new (Err e) → Destroys dev m old new r
  destroy_failed {T = T} new r e is all = subst (λ (x : Result T Error). Destroys dev m old new x) (sym is) (record {
    moments = all.moments;
    gone = λ t. tt;
    gone_all = λ t. tt;
    entries = all.entries;
    faults = all.faults;
    cause = failed_again e (dev.faults old) (dev.faults new) all.cause;
  })

  pub destroyed : {T : Type 0} (new : D) (v : T) (n : Sections F B) → Clears g gives dev m old new (Ok n) → Destroys {T = T} dev m old new (Ok v)
  destroyed new v n all = record {
    moments = all.moments;
    gone = all.gone;
    gone_all = all.gone_all;
    entries = all.entries;
    faults = all.faults;
    cause = tt;
  }
