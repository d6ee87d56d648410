use Rattle.std.specs.BTreeMap.{get}
use Rattle.std.specs.List.{Contains}
use Rattle.std.specs.Ordering.{nat_cmp}
use Rattle.section_manager.specs.managing.Managed.{shown}
use Rattle.section_manager.specs.lemmas.sections.Cut.{CutTried, CutWalked}
use Rattle.section_manager.proofs.manager.Manager.truncate_pending_sections.Given as goal
use Rattle.blob_device.proofs.general.Maps.{numbers_of}

abbrev pub invariant-loop-section : goal.invariant-loop-section
invariant-loop-section g l = record {
  walked : CutWalked g.F.Buffer.SectionBuffer g.F.BufferFactory.gives g.D.Device.Tells g.D.Device.time g.D.Device.opened g.D.Device.faults (get nat_cmp l.sizes) (Contains (numbers_of l.yielded)) (shown l.fn.self) (shown l.this) l.fn.dev l.dev;
  tried : CutTried g.F.Buffer.SectionBuffer g.F.BufferFactory.gives g.D.Device.Tells g.D.Device.time g.D.Device.opened g.D.Device.faults (get nat_cmp l.sizes) (shown l.fn.self) l.fn.dev l.dev;
}
