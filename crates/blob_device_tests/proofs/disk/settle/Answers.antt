use Rattle.std.proofs.Common.{string_bytes}
use Rattle.blob_device_tests.proofs.HeldLemmas.{resized_as}
use Rattle.blob_device_tests.proofs.disk.settle.Goals as goal

pub returns-in_ok-from_str-in-Ok : goal.returns-in_ok-from_str-in-Ok
returns-in_ok-from_str-in-Ok g c = resized_as (g.D.Device.opened c.resize.new.self) (g.D.Device.opened c.args.dev.now) (c.as_str.result.now, c.deref.result.now) (string_bytes c.args.held.partition, c.args.held.name.items) (λ i. (c.as_str.ensures.value i, c.deref.ensures.value i)) c.args.held.len c.requires c.in-resize-Some.len c.in-Ok.ensures.opened
