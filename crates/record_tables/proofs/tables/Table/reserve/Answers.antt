use Rattle.std.proofs.Common.{refl, arith}
use Rattle.std.proofs.lemmas.Result.{on_ok_weaker}
use Rattle.record_tables.proofs.tables.Table.reserve.Goals as goal

pub returns-in_err-reserve-clause-same : goal.returns-in_err-reserve-clause-same
returns-in_err-reserve-clause-same g c = record { slot = refl; entries = c.reserve.ensures.items; positions = λ o. refl }

pub returns-clause-same : goal.returns-clause-same
returns-clause-same g c = record { slot = refl; entries = c.reserve.ensures.items; positions = c.reserve-2.ensures.same }

pub returns-clause-room : goal.returns-clause-room
returns-clause-room g c =
    on_ok_weaker c.reserve-2.result (λ fits. record { entry = omega (arith, c.in_ok-reserve.ensures.ok); position = fits }) c.reserve-2.ensures.room
