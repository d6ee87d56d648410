-- What stays of an archive: it may be used with a device that goes on with another count, and takes behind a change what it took.
use Rattle.std.proofs.Common.{◌≡◌, Err, IfOk, Ok, subst, sym}
use Rattle.std.specs.Prelude.{Result}
use Rattle.blob_device.specs.Opened.{OpenedList}
use Rattle.blob_device.specs.Timeline.{Timeline, disk}
use Rattle.blob_device.specs.declared.device.Device as device
use Rattle.archives.specs.Changes.{Asked, ChangeEnds, MayUse, Meaning}
use Rattle.archives.specs.declared.error.Error.{Error}

module _ {A V D : Type 0} (m : Meaning A V) (dev : device.Ghosts D) (a : A) (old new : D) where
  pub still_usable : dev.time new ≡ dev.time old → dev.opened new ≡ dev.opened old → MayUse m dev a old → MayUse m dev a new
  still_usable time opened usable =
      subst (λ (x : OpenedList). m.IsUsable a dev.Tells x (disk (dev.time new))) (sym opened)
      (subst (λ (t : Timeline). m.IsUsable a dev.Tells (dev.opened old) (disk t)) (sym time) usable)

module _ {A V D : Type 0} (m : Meaning A V) (dev : device.Ghosts D) (a : A) (command : Asked) (old new : D) where
  pub still_accepts : (result : Result A Error) → ChangeEnds m dev a command result old new → IfOk result (λ r. (v : V) → m.Accepts a v → m.Accepts r v)
  still_accepts (Ok r) ends = ends.alike.accepts
  still_accepts (Err e) ends = tt
