-- An archive may be used behind a sync, and takes the values that it took before.
use Rattle.std.specs.Prelude.{IfOk}
use Rattle.std.proofs.Common.{inl, refl, Result, Ok, Err}
use Rattle.blob_device.specs.declared.device.Device as device
use Rattle.archives.specs.Changes.{MayUse, Meaning, Settles}
use Rattle.archives.specs.Commands.{Sync}
use Rattle.archives.specs.declared.error.Error.{Error}

module _ {A V D : Type 0} (m : Meaning A V) (dev : device.Ghosts D) (a : A) (old new : D) where
  pub synced_usable : (result : Result A Error) → Settles m dev a result old new → IfOk result (λ r. MayUse m dev r new)
  synced_usable (Ok r) settles = (settles.changes Sync (inl refl)).ends.over
  synced_usable (Err e) settles = tt

  pub synced_accepts : (P : V → Type 0) → ((v : V) → P v → m.Accepts a v) → (result : Result A Error) → Settles m dev a result old new → IfOk result (λ r. (v : V) → P v → m.Accepts r v)
  synced_accepts P took (Ok r) settles = λ v is. (settles.changes Sync (inl refl)).ends.alike.accepts v (took v is)
  synced_accepts P took (Err e) settles = tt
