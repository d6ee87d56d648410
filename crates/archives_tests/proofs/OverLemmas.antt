-- An archive may still be used behind each call that gives it back.
use Rattle.std.specs.Prelude.{IfOk}
use Rattle.std.proofs.Common.{inl, refl, Result, Ok, Err}
use Rattle.blob_device.specs.declared.device.Device as device
use Rattle.archives.specs.Changes.{Asked, Changes, ChangesDurably, MayUse, Meaning, Settles}
use Rattle.archives.specs.Commands.{Sync}
use Rattle.archives.specs.declared.error.Error.{Error}

module _ {A V D : Type 0} (m : Meaning A V) (dev : device.Ghosts D) (a : A) (old new : D) where
  abbrev pub StillUsable : Result A Error → Type 0
  StillUsable result = IfOk result (λ r. MayUse m dev r new)

  pub changed_usable : (command : Asked) (result : Result A Error) → Changes m dev a command result old new → StillUsable result
  changed_usable command (Ok r) changes = changes.ends.over
  changed_usable command (Err e) changes = tt

  pub durable_usable : (whole early : Asked) (result : Result A Error) → ChangesDurably m dev a whole early result old new → StillUsable result
  durable_usable whole early result changes = changed_usable whole result (changes whole (inl refl))

  pub settled_usable : (result : Result A Error) → Settles m dev a result old new → StillUsable result
  settled_usable result settles = changed_usable Sync result (settles.changes Sync (inl refl))
