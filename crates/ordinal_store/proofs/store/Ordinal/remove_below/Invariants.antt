use Rattle.std.specs.BTreeMap.{btree_map_len}
use Rattle.ordinal_store.specs.Removing.{Goes, Left}
use Rattle.ordinal_store.specs.Stores.{sight}
use Rattle.ordinal_store.specs.Shown.{shown}
use Rattle.ordinal_store.proofs.store.Ordinal.remove_below.Given as goal

abbrev pub invariant-loop-section : goal.invariant-loop-section
invariant-loop-section g l = record {
  goes : Goes (shown g.A.CodecFixed.SIZE g.S.Seal.seal_of g.A.Codec.refusal l.initial.this) l.bound g.D.Device.Tells (sight g.D.Device l.initial.dev) (sight g.D.Device l.dev);
  left : Left (shown g.A.CodecFixed.SIZE g.S.Seal.seal_of g.A.Codec.refusal l.initial.this) l.bound g.D.Device.Tells (shown g.A.CodecFixed.SIZE g.S.Seal.seal_of g.A.Codec.refusal l.this)
      (sight g.D.Device l.initial.dev) (sight g.D.Device l.dev);
}

abbrev pub decreases-loop-section : goal.decreases-loop-section
decreases-loop-section g l = btree_map_len l.this.buffers
