use Rattle.std.proofs.Common.{string_bytes}
use Rattle.blob_device_tests.proofs.HeldLemmas.{read_as}
use Rattle.blob_device_tests.proofs.disk.read.Goals as goal

pub returns-in-Ok : goal.returns-in-Ok
returns-in-Ok g c = read_as (g.D.Device.opened c.read_at.new.self) (g.D.Device.opened c.args.dev.now) (c.as_str.result.now, c.deref.result.now) (string_bytes c.args.held.partition, c.args.held.name.items) (λ i. (c.as_str.ensures.value i, c.deref.ensures.value i)) c.args.held.len c.requires c.read_at.ensures.opened

pub returns : goal.returns
returns g c = read_as (g.D.Device.opened c.read_at.new.self) (g.D.Device.opened c.args.dev.now) (c.as_str.result.now, c.deref.result.now) (string_bytes c.args.held.partition, c.args.held.name.items) (λ i. (c.as_str.ensures.value i, c.deref.ensures.value i)) c.args.held.len c.requires c.read_at.ensures.opened
