use Rattle.std.proofs.Common.{arith}
use Rattle.blob_device.specs.lemmas.Opened.{entered_fits}
use Rattle.power_cut_tests.proofs.device_trial.read_whole.Goals as goal

pub read_at-requires : goal.read_at-requires
read_at-requires g c = entered_fits _ _ _ c.in_ok-len.len _ c.in_ok-len.ensures.opened (omega (arith, c.if-len-buf.false))
