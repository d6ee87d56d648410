use Rattle.std.proofs.Common.{◌-◌, ◌≤◌, ℕ, List}
use Rattle.sealed_pages.specs.unsealed.Writing.{blob_key, shown}
use Rattle.ordinal_store.specs.Slots.{stored_by}
use Rattle.ordinal_store.specs.Stores.{sight}
use Rattle.ordinal_store.proofs.SoundLemmas.{Sounded}
use Rattle.ordinal_store.proofs.checking.sound_slots.Given as goal

abbrev pub invariant-loop-sound : goal.invariant-loop-sound
invariant-loop-sound g l = record {
  slots : 1 ≤ l.slots;
  far : (partition : List ℕ) (items : ℕ) → Sounded g.D.Device.Tells (stored_by partition items g.A.CodecFixed.SIZE g.S.Seal.seal_of g.A.Codec.refusal) (blob_key (shown l.buffer)) l.count l.sound (sight g.D.Device l.initial.dev) (sight g.D.Device l.dev);
}

abbrev pub decreases-loop-sound : goal.decreases-loop-sound
decreases-loop-sound g l = l.count - l.sound
