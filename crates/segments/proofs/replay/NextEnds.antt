-- How a call of `next` of a replay ends.
use Rattle.std.specs.Prelude.{◌≡◌, ◌⊎◌, ℕ, true, false, List, Option, Some, None, Result, Ok, Err}
use Rattle.std.proofs.Common.{inl, inr, refl, sym, ◌∙◌, subst}
use Rattle.blob_device.specs.Timeline.{disk}
use Rattle.blob_device.specs.declared.device.Device as device
use Rattle.sealed_pages.specs.Shown.{shown}
use Rattle.sealed_pages.specs.declared.page_blob.PageBlob.{PageBlob}
use Rattle.value_codec.specs.declared.codec.Error as codec
use Rattle.section_manager.specs.Setting.{Setting}
use Rattle.section_manager.specs.declared.buffer.SectionBuffer as buffer
use Rattle.section_manager.specs.Sealed.{is_unsettled}
use Rattle.section_manager.specs.declared.journal.Error.{Error}
use Rattle.section_manager.specs.declared.journal.Error.TheVariants.{Corruption, ItemOutOfRange}
use Rattle.segments.specs.FixedNext.{Advances, HasNoError}
use Rattle.segments.specs.FixedReading.{HasNotRead, IsBelowFloor}
use Rattle.segments.specs.FixedReplay.{Walk, IsDrained, SameWalk}
use Rattle.segments.specs.FixedStepping.{failing, Steps}
use Rattle.segments.proofs.replay.Running.{Running, ok_at, err_at, idle_after, left_none, same_after, nearer_after, bytes_after, onward_after, stays_after, floors_after, items_after, later_after, moments_after, entries_after, once_after, faults_after, gives_after, stops_after, damaged_after, refused_after, ends_after, ends_cut_after, start_after, damage_after, cause_after}
use Rattle.segments.specs.lemmas.adding.Write.{ArePages}

-- an error is none of the other answers
never_errs : {V : Type 0} (e : Error) → HasNoError {V = V} (Some (Err e)) → ⊥
never_errs e which = elim which [ inl none ↦ absurd (cc none) | inr some ↦ (let at = some.1 in absurd (cc at)) ]

module _ {F S V D : Type 0} {gs : _} (g : buffer.Ghosts (PageBlob S gs)) (gives : F → Setting) (seal : List ℕ → ℕ) (size : ℕ) (spelling : V → List ℕ) (accepted : V → Unit {0} → Type 0) (refusal : List ℕ → Unit {0} → Option codec.Error)
    (dev : device.Ghosts D) (pages : ArePages g seal) (old mid new : D) (w x v : Walk F (PageBlob S gs)) (Stayed : Type 0) where
  -- a buffer with nothing unsettled has nothing unsettled
  idle_here : (u y : PageBlob S gs) → (is_unsettled (shown u) ≡ false → is_unsettled (shown y) ≡ false) → g.unsettled u ≡ false → g.unsettled y ≡ false
  idle_here u y stays idle = pages.unsettled y ∙ stays (sym (pages.unsettled u) ∙ idle)

  -- steps were made that gave nothing, and then nothing was left
  pub advances_none : Running seal size g gives dev.Tells w (dev.opened old) (dev.time old) (dev.faults old) v (dev.opened new) (dev.time new) (dev.faults new) → IsDrained v ⊎ (v.ended ≡ true)
      → (w.ended ≡ true → Stayed × (new ≡ old)) → Advances g gives seal size spelling accepted refusal dev old new w v Stayed None
  advances_none run over still = record {
    over = run.over;
    same = run.same;
    item = λ t s p y is. absurd (cc is);
    going = λ s p y is. absurd (cc is);
    stays = λ s none. (sym (run.goes.known s) ∙ none, run.goes.held s);
    known = λ which. run.goes.known;
    items = run.items;
    floors = run.floors;
    held = λ which. run.goes.held;
    bytes = run.bytes;
    unsettled = λ s u y was now. idle_here u y (idle_after size dev.Tells w v (disk (dev.time old)) (disk (dev.time new)) run.over.walk run.same run.bytes s u y was now);
    nearer = λ y is. absurd (cc is);
    none = λ t is. left_none seal size g gives dev.Tells w (dev.opened old) (dev.time old) (dev.faults old) v (dev.opened new) (dev.time new) (dev.faults new) run t over;
    drained = λ is. over;
    whole = λ is. run.goes.failed;
    onward = run.onward;
    later = λ which t. run.later t;
    ended = λ is. (refl, (still is).0, (still is).1);
    failed = λ e is. absurd (cc is);
    stops = λ t e is. absurd (cc is);
    start = λ t p is. absurd (cc is);
    damage = λ t y is. absurd (cc is);
    damaged = λ t k is. absurd (cc is);
    refused = λ t e is. absurd (cc is);
    ends = λ is. inl (sym run.goes.ended ∙ is);
    ends_cut = λ is. inl (sym run.goes.ended ∙ is);
    moments = run.moments;
    once = λ which. run.once;
    entries = run.entries;
    faults = run.faults;
    cause = λ e is. absurd (cc is);
  }

  -- then one more step was made
  module _ (run : Running seal size g gives dev.Tells w (dev.opened old) (dev.time old) (dev.faults old) x (dev.opened mid) (dev.time mid) (dev.faults mid)) (going : x.ended ≡ false) (r : Result (Option (ℕ × ℕ × V)) Error)
      (step : Steps seal size g gives spelling accepted refusal dev.Tells r x v (dev.opened mid) (dev.opened new) (dev.time mid) (dev.time new) (dev.faults mid) (dev.faults new)) where
    -- which gave an item
    pub advances_item : (y : ℕ × ℕ × V) → r ≡ Ok (Some y) → Advances g gives seal size spelling accepted refusal dev old new w v Stayed (Some (Ok y))
    advances_item y at =
        let goes = ok_at r (Some y) at step.goes in
        let over = ok_at r (Some y) at step.over in
        record {
          over = over;
          same = (same_after seal size g gives dev.Tells w (dev.opened old) (dev.time old) (dev.faults old) x (dev.opened mid) (dev.time mid) (dev.faults mid) run spelling accepted refusal r v (dev.opened new) (dev.time new) (dev.faults new) step);
          item = λ t s p z is. (gives_after seal size g gives dev.Tells w (dev.opened old) (dev.time old) (dev.faults old) x (dev.opened mid) (dev.time mid) (dev.faults mid) run spelling accepted refusal r v (dev.opened new) (dev.time new) (dev.faults new) step) t s p z (let is_it : y ≡ (s, p, z) = cc is in cc (at, is_it));
          going = λ s p z is. goes.failed ∙ run.goes.failed;
          stays = (stays_after seal size g gives dev.Tells w (dev.opened old) (dev.time old) (dev.faults old) x (dev.opened mid) (dev.time mid) (dev.faults mid) run spelling accepted refusal r v (dev.opened new) (dev.time new) (dev.faults new) step);
          known = λ which s. goes.known s ∙ run.goes.known s;
          items = λ t still. (items_after seal size g gives dev.Tells w (dev.opened old) (dev.time old) (dev.faults old) x (dev.opened mid) (dev.time mid) (dev.faults mid) run spelling accepted refusal r v (dev.opened new) (dev.time new) (dev.faults new) step) t going still;
          floors = (floors_after seal size g gives dev.Tells w (dev.opened old) (dev.time old) (dev.faults old) x (dev.opened mid) (dev.time mid) (dev.faults mid) run spelling accepted refusal r v (dev.opened new) (dev.time new) (dev.faults new) step);
          held = λ which s. (λ h. (run.goes.held s).0 ((goes.held s).0 h), λ h. (goes.held s).1 ((run.goes.held s).1 h));
          bytes = (bytes_after seal size g gives dev.Tells w (dev.opened old) (dev.time old) (dev.faults old) x (dev.opened mid) (dev.time mid) (dev.faults mid) run spelling accepted refusal r v (dev.opened new) (dev.time new) (dev.faults new) step);
          unsettled = λ s u z was now. idle_here u z (idle_after size dev.Tells w v (disk (dev.time old)) (disk (dev.time new)) over.walk (same_after seal size g gives dev.Tells w (dev.opened old) (dev.time old) (dev.faults old) x (dev.opened mid) (dev.time mid) (dev.faults mid) run spelling accepted refusal r v (dev.opened new) (dev.time new) (dev.faults new) step) (bytes_after seal size g gives dev.Tells w (dev.opened old) (dev.time old) (dev.faults old) x (dev.opened mid) (dev.time mid) (dev.faults mid) run spelling accepted refusal r v (dev.opened new) (dev.time new) (dev.faults new) step) s u z was now);
          nearer = λ z is. (nearer_after seal size g gives dev.Tells w (dev.opened old) (dev.time old) (dev.faults old) x (dev.opened mid) (dev.time mid) (dev.faults mid) run spelling accepted refusal r v (dev.opened new) (dev.time new) (dev.faults new) step);
          none = λ t is. absurd (cc is);
          drained = λ is. absurd (cc is);
          whole = λ is. absurd (cc is);
          onward = (onward_after seal size g gives dev.Tells w (dev.opened old) (dev.time old) (dev.faults old) x (dev.opened mid) (dev.time mid) (dev.faults mid) run spelling accepted refusal r v (dev.opened new) (dev.time new) (dev.faults new) step);
          later = λ which t. (later_after seal size g gives dev.Tells w (dev.opened old) (dev.time old) (dev.faults old) x (dev.opened mid) (dev.time mid) (dev.faults mid) run spelling accepted refusal r v (dev.opened new) (dev.time new) (dev.faults new) step) t (ok_at r (Some y) at (step.later t));
          ended = λ is. absurd (cc (going, run.goes.ended, is));
          failed = λ e is. absurd (cc is);
          stops = λ t e is. absurd (cc is);
          start = λ t p is. absurd (cc is);
          damage = λ t z is. absurd (cc is);
          damaged = λ t k is. absurd (cc is);
          refused = λ t e is. absurd (cc is);
          ends = λ is. absurd (cc (going, goes.ended, is));
          ends_cut = λ is. absurd (cc (going, goes.ended, is));
          moments = (moments_after seal size g gives dev.Tells w (dev.opened old) (dev.time old) (dev.faults old) x (dev.opened mid) (dev.time mid) (dev.faults mid) run spelling accepted refusal r v (dev.opened new) (dev.time new) (dev.faults new) step);
          once = λ which. (once_after seal size g gives dev.Tells w (dev.opened old) (dev.time old) (dev.faults old) x (dev.opened mid) (dev.time mid) (dev.faults mid) run spelling accepted refusal r v (dev.opened new) (dev.time new) (dev.faults new) step) (ok_at r (Some y) at step.once);
          entries = (entries_after seal size g gives dev.Tells w (dev.opened old) (dev.time old) (dev.faults old) x (dev.opened mid) (dev.time mid) (dev.faults mid) run spelling accepted refusal r v (dev.opened new) (dev.time new) (dev.faults new) step);
          faults = (faults_after seal size g gives dev.Tells w (dev.opened old) (dev.time old) (dev.faults old) x (dev.opened mid) (dev.time mid) (dev.faults mid) run spelling accepted refusal r v (dev.opened new) (dev.time new) (dev.faults new) step);
          cause = λ e is. absurd (cc is);
        }

    -- which failed, and that is noted
    pub advances_err : (e : Error) → r ≡ Err e → Advances g gives seal size spelling accepted refusal dev old new w (failing v) Stayed (Some (Err e))
    advances_err e at =
        let same = (same_after seal size g gives dev.Tells w (dev.opened old) (dev.time old) (dev.faults old) x (dev.opened mid) (dev.time mid) (dev.faults mid) run spelling accepted refusal r v (dev.opened new) (dev.time new) (dev.faults new) step) in
        let over = err_at r e at step.broken in
        let same_failing : SameWalk w (failing v) = record { bounds = same.bounds; unrecovered = same.unrecovered; floors = same.floors; section = same.section; position = same.position } in
        record {
          over = over;
          same = same_failing;
          item = λ t s p z is. absurd (cc is);
          going = λ s p z is. absurd (cc is);
          stays = (stays_after seal size g gives dev.Tells w (dev.opened old) (dev.time old) (dev.faults old) x (dev.opened mid) (dev.time mid) (dev.faults mid) run spelling accepted refusal r v (dev.opened new) (dev.time new) (dev.faults new) step);
          known = λ which. absurd (never_errs e which);
          items = λ t still. (items_after seal size g gives dev.Tells w (dev.opened old) (dev.time old) (dev.faults old) x (dev.opened mid) (dev.time mid) (dev.faults mid) run spelling accepted refusal r v (dev.opened new) (dev.time new) (dev.faults new) step) t going still;
          floors = (floors_after seal size g gives dev.Tells w (dev.opened old) (dev.time old) (dev.faults old) x (dev.opened mid) (dev.time mid) (dev.faults mid) run spelling accepted refusal r v (dev.opened new) (dev.time new) (dev.faults new) step);
          held = λ which. absurd (never_errs e which);
          bytes = (bytes_after seal size g gives dev.Tells w (dev.opened old) (dev.time old) (dev.faults old) x (dev.opened mid) (dev.time mid) (dev.faults mid) run spelling accepted refusal r v (dev.opened new) (dev.time new) (dev.faults new) step);
          unsettled = λ s u z was now. idle_here u z (idle_after size dev.Tells w (failing v) (disk (dev.time old)) (disk (dev.time new)) over.walk same_failing (bytes_after seal size g gives dev.Tells w (dev.opened old) (dev.time old) (dev.faults old) x (dev.opened mid) (dev.time mid) (dev.faults mid) run spelling accepted refusal r v (dev.opened new) (dev.time new) (dev.faults new) step) s u z was now);
          nearer = λ z is. (nearer_after seal size g gives dev.Tells w (dev.opened old) (dev.time old) (dev.faults old) x (dev.opened mid) (dev.time mid) (dev.faults mid) run spelling accepted refusal r v (dev.opened new) (dev.time new) (dev.faults new) step);
          none = λ t is. absurd (cc is);
          drained = λ is. absurd (cc is);
          whole = λ is. absurd (cc is);
          onward = (onward_after seal size g gives dev.Tells w (dev.opened old) (dev.time old) (dev.faults old) x (dev.opened mid) (dev.time mid) (dev.faults mid) run spelling accepted refusal r v (dev.opened new) (dev.time new) (dev.faults new) step);
          later = λ which. absurd (never_errs e which);
          ended = λ is. absurd (cc (going, run.goes.ended, is));
          failed = λ e is. refl;
          stops = λ t z is. (stops_after seal size g gives dev.Tells w (dev.opened old) (dev.time old) (dev.faults old) x (dev.opened mid) (dev.time mid) (dev.faults mid) run spelling accepted refusal r v (dev.opened new) (dev.time new) (dev.faults new) step) t (err_at r e at (step.stops t));
          start = λ t p is. (start_after seal size g gives dev.Tells w (dev.opened old) (dev.time old) (dev.faults old) x (dev.opened mid) (dev.time mid) (dev.faults mid) run spelling accepted refusal r v (dev.opened new) (dev.time new) (dev.faults new) step) t p (let is_it : e ≡ ItemOutOfRange p = cc is in cc (at, is_it));
          damage = λ t z is. (damage_after seal size g gives dev.Tells w (dev.opened old) (dev.time old) (dev.faults old) x (dev.opened mid) (dev.time mid) (dev.faults mid) run spelling accepted refusal r v (dev.opened new) (dev.time new) (dev.faults new) step) t z (let is_it : e ≡ Corruption z = cc is in cc (at, is_it));
          damaged = λ t k is. (damaged_after seal size g gives dev.Tells w (dev.opened old) (dev.time old) (dev.faults old) x (dev.opened mid) (dev.time mid) (dev.faults mid) run spelling accepted refusal r v (dev.opened new) (dev.time new) (dev.faults new) step) e at t k (cc is);
          refused = λ t z is. (refused_after seal size g gives dev.Tells w (dev.opened old) (dev.time old) (dev.faults old) x (dev.opened mid) (dev.time mid) (dev.faults mid) run spelling accepted refusal r v (dev.opened new) (dev.time new) (dev.faults new) step) e at t z (cc is);
          ends = λ is. elim ((ends_after seal size g gives dev.Tells w (dev.opened old) (dev.time old) (dev.faults old) x (dev.opened mid) (dev.time mid) (dev.faults mid) run spelling accepted refusal r v (dev.opened new) (dev.time new) (dev.faults new) step) e at is) [ inl end ↦ inl end | inr has ↦ inr (e, refl, has) ];
          ends_cut = (ends_cut_after seal size g gives dev.Tells w (dev.opened old) (dev.time old) (dev.faults old) x (dev.opened mid) (dev.time mid) (dev.faults mid) run spelling accepted refusal r v (dev.opened new) (dev.time new) (dev.faults new) step);
          moments = (moments_after seal size g gives dev.Tells w (dev.opened old) (dev.time old) (dev.faults old) x (dev.opened mid) (dev.time mid) (dev.faults mid) run spelling accepted refusal r v (dev.opened new) (dev.time new) (dev.faults new) step);
          once = λ which. absurd (never_errs e which);
          entries = (entries_after seal size g gives dev.Tells w (dev.opened old) (dev.time old) (dev.faults old) x (dev.opened mid) (dev.time mid) (dev.faults mid) run spelling accepted refusal r v (dev.opened new) (dev.time new) (dev.faults new) step);
          faults = (faults_after seal size g gives dev.Tells w (dev.opened old) (dev.time old) (dev.faults old) x (dev.opened mid) (dev.time mid) (dev.faults mid) run spelling accepted refusal r v (dev.opened new) (dev.time new) (dev.faults new) step);
          cause = λ z is. (let is_it : e ≡ z = cc is in subst (λ (i : Error). (i ≡ ItemOutOfRange w.start_position) ⊎ (IsBelowFloor {T = V} (Err i) ⊎ HasNotRead {T = V} (Err i) (dev.faults old) (dev.faults new))) is_it ((cause_after seal size g gives dev.Tells w (dev.opened old) (dev.time old) (dev.faults old) x (dev.opened mid) (dev.time mid) (dev.faults mid) run spelling accepted refusal r v (dev.opened new) (dev.time new) (dev.faults new) step) e at));
        }
