use Rattle.std.proofs.Common.{◌≤◌, get_or, ◌∙◌, refl, sym, subst, arith}
use Rattle.std.proofs.lemmas.List.Elements.{Contains-get_or}
use Rattle.section_manager.specs.managing.Managed.{shown}
use Rattle.section_manager.specs.managing.Opening.{OpensEach}
use Rattle.section_manager.specs.Sections.{IsHeld}
use Rattle.section_manager.proofs.NumberLemmas.{of_listed}
use Rattle.section_manager.proofs.InitLemmas.{touches_by, touched_none, opened_none, touched_more, opened_more, failed_since}
use Rattle.section_manager.specs.lemmas.Seen.{err_seen}
use Rattle.section_manager.proofs.manager.Manager.open_each.Goals as goal

pub loop-number-init : goal.loop-number-init
loop-number-init g c = record {
  opened = opened_none g.F.Buffer.SectionBuffer g.F.BufferFactory.gives g.D.Device.Tells c.args.numbers.now (shown c.args.self) (g.D.Device.time c.args.dev.now) (g.D.Device.opened c.args.dev.now) c.requires.over c.requires.fresh;
  touched = touched_none g.F.Buffer.SectionBuffer g.F.BufferFactory.gives g.D.Device.Tells c.args.numbers.now (shown c.args.self) (g.D.Device.time c.args.dev.now) (g.D.Device.opened c.args.dev.now);
  faults = omega arith;
}

pub open_found-requires-clause-over : goal.open_found-requires-clause-over
open_found-requires-clause-over g c = c.loop-number.invariant.opened.over

pub open_found-requires-clause-floor : goal.open_found-requires-clause-floor
open_found-requires-clause-floor g c = c.loop-number.invariant.opened.bounds.floor ∙ c.requires.floor

pub returns-in_err-this : goal.returns-in_err-this
returns-in_err-this g c =
    let b = g.F.Buffer.SectionBuffer in
    let f = g.F.BufferFactory.gives in
    let d = g.D.Device in
    let xs = c.args.numbers.now in
    let i = c.loop-number.number-index in
    let number = get_or xs i 0 in
    let m = shown c.args.self in
    let now = shown c.loop-number.this in
    let first = c.args.dev.now in
    let before = c.loop-number.dev in
    let after = c.open_found.new.dev in
    let call = c.open_found.ensures in
    let touches = touches_by b f d.Tells d.time d.opened number now before after call.passed call.untouched call.moments call.entries call.reads in
    let touched = touched_more b f d.Tells xs m (d.time first) (d.opened first) i number now (d.time before) (d.time after) (d.opened before) (d.opened after)
    c.loop-number.invariant.opened touches (Contains-get_or xs i 0 c.loop-number-test.true) c.requires.there c.loop-number.invariant.touched in
    subst (OpensEach g.F.Buffer.SectionBuffer g.F.BufferFactory.gives g.D.Device m xs first after) (sym (err_seen shown c.from_residual.result _ c.from_residual.ensures.1)) (record {
      over = tt;
      held = tt;
      passed = tt;
      bytes = λ t. tt;
      idle = tt;
      bounds = tt;
      moments = touched.moments;
      entries = touched.entries;
      reads = touched.reads;
      faults = omega (arith, c.loop-number.invariant.faults, call.faults);
      cause = failed_since _ c.in_err-this.field-0.0 (d.faults first) (d.faults before) (d.faults after) refl c.loop-number.invariant.faults c.in_err-this.ensures.cause;
    })

pub loop-number-preserved : goal.loop-number-preserved
loop-number-preserved g c =
    let b = g.F.Buffer.SectionBuffer in
    let f = g.F.BufferFactory.gives in
    let d = g.D.Device in
    let xs = c.args.numbers.now in
    let i = c.loop-number.number-index in
    let number = get_or xs i 0 in
    let m = shown c.args.self in
    let now = shown c.loop-number.this in
    let first = c.args.dev.now in
    let before = c.loop-number.dev in
    let after = c.open_found.new.dev in
    let call = c.open_found.ensures in
    let touches = touches_by b f d.Tells d.time d.opened number now before after call.passed call.untouched call.moments call.entries call.reads in
    let touched = touched_more b f d.Tells xs m (d.time first) (d.opened first) i number now (d.time before) (d.time after) (d.opened before) (d.opened after)
    c.loop-number.invariant.opened touches (Contains-get_or xs i 0 c.loop-number-test.true) c.requires.there c.loop-number.invariant.touched in
    let says = c.in_ok-this.ensures in
    record {
      opened = opened_more b f d.Tells xs m (d.time first) (d.opened first) i number now (d.time before) (d.time after) (d.opened before) (d.opened after)
          c.loop-number.invariant.opened touches (shown c.in_ok-this.this)
          (record { over = says.over; held = says.held; same = says.same; bytes = says.bytes; idle = says.idle; above = says.above; others = says.others; bounds = says.bounds })
          (c.type_inv.numbers i).fits refl c.loop-number-test.true touched;
      touched = touched;
      faults = omega (arith, c.loop-number.invariant.faults, call.faults);
    }

pub returns : goal.returns
returns g c =
    let ran = c.loop-number.invariant in
    record {
      over = ran.opened.over;
      held = λ s listed. of_listed (λ n. n ≤ c.args.self.ceiling → IsHeld (shown c.loop-number.this) n) c.args.numbers.now s (λ k lt. ran.opened.held k (omega (arith, lt, c.loop-number-test.false))) listed;
      passed = ran.opened.passed;
      bytes = ran.opened.bytes;
      idle = ran.opened.idle;
      bounds = ran.opened.bounds;
      moments = ran.touched.moments;
      entries = ran.touched.entries;
      reads = ran.touched.reads;
      faults = ran.faults;
      cause = tt;
    }
