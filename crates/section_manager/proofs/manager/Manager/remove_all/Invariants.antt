use Rattle.std.specs.Prelude.{◌≡◌, ◌↔◌, ◌≤◌, ℕ, IsTrue}
use Rattle.blob_device.specs.Timeline.{disk, Always}
use Rattle.section_manager.specs.Doomed.{IsDoomed, GoesBefore}
use Rattle.section_manager.specs.Lasting.{Removing, EntriesLeave}
use Rattle.section_manager.specs.managing.Managed.{shown, known_count}
use Rattle.section_manager.specs.Sections.{IsKeyOf, IsOver}
use Rattle.section_manager.proofs.sections.RemoveLemmas.{Progress, SomeGone}
use Rattle.section_manager.proofs.manager.Manager.remove_all.Given as goal

abbrev pub invariant-loop-section : goal.invariant-loop-section
invariant-loop-section g l = record {
  over : IsOver g.F.Buffer.SectionBuffer g.F.BufferFactory.gives g.D.Device.Tells (shown l.this) (g.D.Device.opened l.dev) (disk (g.D.Device.time l.dev));
  progress : Progress (shown l.initial.this) l.doomed g.D.Device.Tells (shown l.this) (disk (g.D.Device.time l.initial.dev)) (disk (g.D.Device.time l.dev));
  flag : IsTrue l.removed ↔ SomeGone (shown l.initial.this) l.doomed (shown l.this);
  moments : g.D.Device.Tells → Always (g.D.Device.time l.initial.dev) (g.D.Device.time l.dev)
      (Removing (shown l.initial.this) (IsDoomed (shown l.initial.this) l.doomed) (GoesBefore l.doomed) (disk (g.D.Device.time l.initial.dev)));
  idle : ((s : ℕ) → IsDoomed (shown l.initial.this) l.doomed s → ⊥) → l.dev ≡ l.initial.dev;
  entries : EntriesLeave (IsKeyOf (shown l.initial.this) (IsDoomed (shown l.initial.this) l.doomed)) (g.D.Device.opened l.initial.dev) (g.D.Device.opened l.dev);
  faults : g.D.Device.faults l.initial.dev ≤ g.D.Device.faults l.dev;
}

abbrev pub decreases-loop-section : goal.decreases-loop-section
decreases-loop-section g l = known_count l.this
