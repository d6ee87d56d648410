use Rattle.std.proofs.Common.{take}
use Rattle.std.specs.List.{Contains}
use Rattle.section_manager.specs.managing.Managed.{shown}
use Rattle.section_manager.proofs.sections.SyncLemmas.{SyncWalked, SyncTried}
use Rattle.section_manager.proofs.manager.Manager.sync_each.Given as goal

abbrev pub invariant-loop-section : goal.invariant-loop-section
invariant-loop-section g l = record {
  walked : SyncWalked g.F.Buffer.SectionBuffer g.F.BufferFactory.gives g.D.Device.Tells g.D.Device.time g.D.Device.opened g.D.Device.faults (Contains (take l.section-index l.sections)) (shown l.fn.self) (shown l.this) l.fn.dev l.dev;
  tried : SyncTried g.F.Buffer.SectionBuffer g.F.BufferFactory.gives g.D.Device.Tells g.D.Device.time g.D.Device.opened g.D.Device.faults (shown l.fn.self) (Contains l.sections) l.fn.dev l.dev;
}
