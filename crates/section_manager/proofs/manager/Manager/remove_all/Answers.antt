use Rattle.std.proofs.Common.{inl, inr, refl, arith}
use Rattle.blob_device.specs.Timeline.{disk}
use Rattle.blob_device.specs.lemmas.Moments.{always_start, always_now}
use Rattle.section_manager.specs.Doomed.{IsDoomed, GoesBefore}
use Rattle.section_manager.specs.Lasting.{Removing}
use Rattle.section_manager.specs.managing.Managed.{flagged, shown}
use Rattle.section_manager.specs.lemmas.Seen.{err_seen, failed_later}
use Rattle.section_manager.proofs.sections.RemoveLemmas.{no_some, none_gone, no_progress, removing_start, removing_on, next_same, one_more_entry, one_gone, flag_on, all_gone, all_flagged, all_kept}
use Rattle.section_manager.proofs.sections.RemovingEnds.{all_failed}
use Rattle.section_manager.proofs.manager.Manager.remove_all.Goals as goal
use Rattle.section_manager.proofs.manager.Manager.remove_all.Goals.{then-removed, else-removed}
use Rattle.section_manager.specs.lemmas.sections.Remove.{doomed_known}

pub loop-section-init : goal.loop-section-init
loop-section-init g c = record {
  over = c.requires.over;
  progress = no_progress (shown c.args.self) c.args.doomed g.D.Device.Tells (disk (g.D.Device.time c.args.dev.now));
  flag = none_gone (shown c.args.self) c.args.doomed;
  moments = λ t. always_start (g.D.Device.time c.args.dev.now) (Removing (shown c.args.self) (IsDoomed (shown c.args.self) c.args.doomed) (GoesBefore c.args.doomed) (disk (g.D.Device.time c.args.dev.now)))
      (removing_start (shown c.args.self) (IsDoomed (shown c.args.self) c.args.doomed) (GoesBefore c.args.doomed) (disk (g.D.Device.time c.args.dev.now)));
  idle = λ none. refl;
  entries = λ q. inl refl;
  faults = omega arith;
}

pub returns-in_err-this : goal.returns-in_err-this
returns-in_err-this g c =
    let m = shown c.args.self in
    let now = shown c.loop-section.this in
    let from = disk (g.D.Device.time c.args.dev.now) in
    let d = disk (g.D.Device.time c.loop-section.dev) in
    let s = c.in-Some.section in
    let does = c.remove_known.ensures.forgets in
    let ran = c.loop-section.invariant in
    all_failed g.F.Buffer.SectionBuffer g.F.BufferFactory.gives g.D.Device m c.args.dev.now c.args.doomed c.remove_known.new.dev _ _ (err_seen flagged c.from_residual.result _ c.from_residual.ensures.1)
    (λ t. removing_on m c.args.doomed now s (g.D.Device.time c.args.dev.now) (g.D.Device.time c.loop-section.dev) (g.D.Device.time c.remove_known.new.dev)
    (λ s is. c.requires.over.opened_list.number s (doomed_known (shown c.args.self) c.args.doomed s is)) c.in-Some.ensures.doomed c.in-Some.ensures.first ran.progress t (ran.moments t) (does.moments t))
    (λ none. absurd (none s (next_same m c.args.doomed now from d s (λ s is. c.requires.over.opened_list.number s (doomed_known (shown c.args.self) c.args.doomed s is)) c.in-Some.ensures.doomed ran.progress).2))
    (one_more_entry m c.args.doomed now from d s (λ s is. c.requires.over.opened_list.number s (doomed_known (shown c.args.self) c.args.doomed s is)) c.in-Some.ensures.doomed ran.progress
    (g.D.Device.opened c.args.dev.now) (g.D.Device.opened c.loop-section.dev) (g.D.Device.opened c.remove_known.new.dev) ran.entries does.entries)
    (omega (arith, ran.faults, does.faults)) (failed_later c.in_err-this.field-0.0 (g.D.Device.faults c.args.dev.now) (g.D.Device.faults c.loop-section.dev) _ ran.faults c.in_err-this.ensures.forgets.cause)

pub loop-section-preserved : goal.loop-section-preserved
loop-section-preserved g c = record {
  over = c.in_ok-this.ensures.forgets.over;
  progress = one_gone (shown c.args.self) c.args.doomed (shown c.loop-section.this) (disk (g.D.Device.time c.args.dev.now)) (disk (g.D.Device.time c.loop-section.dev)) c.in-Some.section
      (λ s is. c.requires.over.opened_list.number s (doomed_known (shown c.args.self) c.args.doomed s is)) c.in-Some.ensures.doomed c.loop-section.invariant.progress
      (shown c.in_ok-this.this) (disk (g.D.Device.time c.remove_known.new.dev)) c.in_ok-this.ensures.forgets.bounds c.in_ok-this.ensures.forgets.others c.in_ok-this.ensures.forgets.removed
      (λ t. (always_now (g.D.Device.time c.loop-section.dev) (g.D.Device.time c.remove_known.new.dev) _ (c.remove_known.ensures.forgets.moments t)).others) c.in_ok-this.ensures.forgets.gone;
  flag = flag_on (shown c.args.self) c.args.doomed (shown c.loop-section.this) (disk (g.D.Device.time c.args.dev.now)) (disk (g.D.Device.time c.loop-section.dev)) c.in-Some.section
      (λ s is. c.requires.over.opened_list.number s (doomed_known (shown c.args.self) c.args.doomed s is)) c.in-Some.ensures.doomed c.loop-section.invariant.progress
      (shown c.in_ok-this.this) c.loop-section.removed c.if-removed.removed c.in_ok-this.ensures.forgets.others c.in_ok-this.ensures.forgets.removed c.loop-section.invariant.flag
      (λ is. elim c.if-removed.branch [ then-removed w ↦ cc | else-removed w ↦ cc ])
      (λ section. elim c.if-removed.branch [ then-removed w ↦ cc | else-removed w ↦ cc (w.is_section-removed.ensures.1 section) ])
      (λ is. elim c.if-removed.branch [ then-removed w ↦ inl cc | else-removed w ↦ inr (w.is_section-removed.ensures.0 cc) ]);
  moments = λ t. removing_on (shown c.args.self) c.args.doomed (shown c.loop-section.this) c.in-Some.section (g.D.Device.time c.args.dev.now) (g.D.Device.time c.loop-section.dev) (g.D.Device.time c.remove_known.new.dev)
      (λ s is. c.requires.over.opened_list.number s (doomed_known (shown c.args.self) c.args.doomed s is)) c.in-Some.ensures.doomed c.in-Some.ensures.first c.loop-section.invariant.progress t (c.loop-section.invariant.moments t) (c.remove_known.ensures.forgets.moments t);
  idle = λ none. absurd (none c.in-Some.section (next_same (shown c.args.self) c.args.doomed (shown c.loop-section.this) (disk (g.D.Device.time c.args.dev.now)) (disk (g.D.Device.time c.loop-section.dev)) c.in-Some.section
      (λ s is. c.requires.over.opened_list.number s (doomed_known (shown c.args.self) c.args.doomed s is)) c.in-Some.ensures.doomed c.loop-section.invariant.progress).2);
  entries = one_more_entry (shown c.args.self) c.args.doomed (shown c.loop-section.this) (disk (g.D.Device.time c.args.dev.now)) (disk (g.D.Device.time c.loop-section.dev)) c.in-Some.section
      (λ s is. c.requires.over.opened_list.number s (doomed_known (shown c.args.self) c.args.doomed s is)) c.in-Some.ensures.doomed c.loop-section.invariant.progress
      (g.D.Device.opened c.args.dev.now) (g.D.Device.opened c.loop-section.dev) (g.D.Device.opened c.remove_known.new.dev) c.loop-section.invariant.entries c.remove_known.ensures.forgets.entries;
  faults = omega (arith, c.loop-section.invariant.faults, c.remove_known.ensures.forgets.faults);
}

pub returns : goal.returns
returns g c =
    let m = shown c.args.self in
    let now = shown c.loop-section.this in
    let from = disk (g.D.Device.time c.args.dev.now) in
    let d = disk (g.D.Device.time c.loop-section.dev) in
    let ran = c.loop-section.invariant in
    let none = c.next_doomed.ensures.none (no_some c.next_doomed.result c.in_default.not-Some) in
    record {
      over = ran.over;
      removed = λ s is. (all_gone m c.args.doomed now from d ran.progress none s is).0;
      kept = all_kept m c.args.doomed now from d ran.progress;
      bounds = ran.progress.bounds;
      flag = all_flagged m c.args.doomed now from d ran.progress none c.loop-section.removed ran.flag;
      moments = ran.moments;
      gone = λ t s is. (all_gone m c.args.doomed now from d ran.progress none s is).1 t;
      idle = ran.idle;
      entries = ran.entries;
      faults = ran.faults;
      cause = tt;
    }
