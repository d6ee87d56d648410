use Rattle.std.proofs.Common.{arith, string_bytes}
use Rattle.blob_device_tests.proofs.HeldLemmas.{grown_as, written_as}
use Rattle.blob_device_tests.proofs.disk.write.Goals as goal

pub returns-in-Ok : goal.returns-in-Ok
returns-in-Ok g c = written_as (g.D.Device.opened c.write_at.new.self) (g.D.Device.opened c.args.dev.now) (c.as_str.result.now, c.deref.result.now) (string_bytes c.args.held.partition, c.args.held.name.items) (λ i. (c.as_str.ensures.value i, c.deref.ensures.value i)) c.args.held.len c.requires _ c.max-len.result (omega (arith, c.max-len.ensures, c.in-Some.ensures, c.len.ensures, c.deref-2.ensures.len)) c.in-Ok.ensures.opened

pub returns : goal.returns
returns g c = grown_as (g.D.Device.opened c.write_at.new.self) (g.D.Device.opened c.args.dev.now) (c.as_str.result.now, c.deref.result.now) (string_bytes c.args.held.partition, c.args.held.name.items) (λ i. (c.as_str.ensures.value i, c.deref.ensures.value i)) c.args.held.len c.requires _ c.in-Err.ensures.opened_err
