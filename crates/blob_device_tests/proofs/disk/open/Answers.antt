use Rattle.std.proofs.Common.{arith}
use Rattle.blob_device.specs.lemmas.Opened.{entered_fits}
use Rattle.blob_device_tests.proofs.HeldLemmas.{held_at}
use Rattle.blob_device_tests.proofs.disk.open.Goals as goal

pub returns-in_ok-said-in-Ok : goal.returns-in_ok-said-in-Ok
returns-in_ok-said-in-Ok g c = held_at (g.D.Device.opened c.open_blob.new.self) _ _ c.in-Ok.len (λ i. (c.as_str.ensures.value i, c.deref.ensures.value i)) (entered_fits _ _ _ c.in-Ok.len c.in-Ok.len c.in-Ok.ensures.opened (omega arith))
