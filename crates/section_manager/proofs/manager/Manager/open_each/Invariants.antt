use Rattle.std.proofs.Common.{◌≤◌}
use Rattle.section_manager.specs.managing.Managed.{shown}
use Rattle.section_manager.proofs.InitLemmas.{OpenedFirst, Touched}
use Rattle.section_manager.proofs.manager.Manager.open_each.Given as goal

abbrev pub invariant-loop-number : goal.invariant-loop-number
invariant-loop-number g l = record {
  opened : OpenedFirst g.F.Buffer.SectionBuffer g.F.BufferFactory.gives g.D.Device.Tells l.numbers (shown l.initial.this) (g.D.Device.time l.initial.dev) (g.D.Device.opened l.initial.dev)
      l.number-index (shown l.this) (g.D.Device.time l.dev) (g.D.Device.opened l.dev);
  touched : Touched g.F.Buffer.SectionBuffer g.F.BufferFactory.gives g.D.Device.Tells l.numbers (shown l.initial.this) (g.D.Device.time l.initial.dev) (g.D.Device.opened l.initial.dev)
      (g.D.Device.time l.dev) (g.D.Device.opened l.dev);
  faults : g.D.Device.faults l.initial.dev ≤ g.D.Device.faults l.dev;
}
