use Rattle.std.proofs.Common.{◌+◌, ◌<◌, ℕ, List}
use Rattle.ordinal_store.specs.Slots.{HasValue, slot_at, stored_by}
use Rattle.ordinal_store.proofs.checking.sound_in.Given as goal

abbrev pub invariant-loop-position : goal.invariant-loop-position
invariant-loop-position g l = (partition : List ℕ) (items p : ℕ) → p < l.position → HasValue (stored_by partition items g.A.CodecFixed.SIZE g.S.Seal.seal_of g.A.Codec.refusal) (slot_at (g.A.CodecFixed.SIZE + 4) l.piece p)
