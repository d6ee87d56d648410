use Rattle.ordinal_store.proofs.SyncedLemmas.{Synced}
use Rattle.ordinal_store.specs.Stores.{sight}
use Rattle.ordinal_store.specs.Shown.{shown}
use Rattle.std.specs.BTreeSet.{btree_set_len}
use Rattle.ordinal_store.proofs.store.Ordinal.sync.Given as goal

abbrev pub invariant-loop-section : goal.invariant-loop-section
invariant-loop-section g l = Synced g.D.Device.Tells (shown g.A.CodecFixed.SIZE g.S.Seal.seal_of g.A.Codec.refusal l.initial.this) (sight g.D.Device l.initial.dev) (sight g.D.Device l.dev) (shown g.A.CodecFixed.SIZE g.S.Seal.seal_of g.A.Codec.refusal l.this)

abbrev pub decreases-loop-section : goal.decreases-loop-section
decreases-loop-section g l = btree_set_len l.this.written
