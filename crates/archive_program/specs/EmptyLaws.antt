-- That the premises of the promise can be met.
use Rattle.std.specs.Prelude.{◌≡◌, ℕ, ◌≤◌}
use Rattle.blob_device.specs.Disk.{nothing}
use Rattle.blob_device.specs.Timeline.{Timeline, disk}
use Rattle.archive_service.specs.Settings.{AreSettings}
use Rattle.archive_service.specs.declared.settings.Settings.{Settings}
use Rattle.archive_program.specs.Program.{MayBeServed}

-- What holds of a device on which nothing was kept yet.
pub record EmptyLaws : Type 0 where
  -- it may be served, since it has nothing pending, and an empty image is lawful
  pub lawful : (settings : Settings) (items : ℕ) → AreSettings settings → 1 ≤ items
      → (t : Timeline) → disk t ≡ (λ q. nothing) → MayBeServed settings items t
