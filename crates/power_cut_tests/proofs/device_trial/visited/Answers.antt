use Rattle.blob_device.specs.lemmas.Opened.{entered_open}
use Rattle.power_cut_tests.proofs.device_trial.visited.Goals as goal

pub loop-change-init : goal.loop-change-init
loop-change-init g c = entered_open _ _ _ _ c.in-Ok.ensures.opened
