use Rattle.std.specs.BTreeMap.{get}
use Rattle.std.specs.Ordering.{nat_cmp}
use Rattle.ordinal_store.specs.Stores.{sight}
use Rattle.ordinal_store.specs.Shown.{shown}
use Rattle.ordinal_store.proofs.RestoreLemmas.{Restored}
use Rattle.ordinal_store.proofs.store.Ordinal.restore_all.Given as goal

abbrev pub invariant-loop-section : goal.invariant-loop-section
invariant-loop-section g l = Restored g.D.Device.Tells (shown g.A.CodecFixed.SIZE g.S.Seal.seal_of g.A.Codec.refusal l.initial.this).layout l.initial.this.capacity (get nat_cmp l.map) (sight g.D.Device l.initial.dev)
    l.section-iterator (shown g.A.CodecFixed.SIZE g.S.Seal.seal_of g.A.Codec.refusal l.this) (sight g.D.Device l.dev)
