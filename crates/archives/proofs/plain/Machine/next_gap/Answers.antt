use Rattle.std.proofs.Common.{◌≡◌, Err, refl, subst}
use Rattle.ordinal_store.specs.Numbers.{Set, IsNextRun, IsRunEnd}
use Rattle.ordinal_store.specs.Plain.{listed}
use Rattle.archives.specs.Commands.{Gap}
use Rattle.archives.proofs.machine.Indices.{told_none, told_of}
use Rattle.archives.proofs.plain.Machine.next_gap.Goals as goal
use Rattle.blob_device.proofs.general.Results.{err_of}

pub returns-in_err-indices : goal.returns-in_err-indices
returns-in_err-indices g c =
    told_none g.K.Key.key_bytes c.args.self.now (Gap c.args.index) c.from_residual.result
    (subst (λ x. c.from_residual.result ≡ Err x) c.in_err-indices.ensures (err_of c.from_residual.result c.in_err-indices.field-0.0 c.from_residual.ensures.1))

pub returns : goal.returns
returns g c =
    let told = told_of g.K.Key.key_bytes c.args.self.now (listed c.in_ok-indices.field-0.numbers.items) c.in_ok-indices.ensures in
    (told (λ (s : Set). IsRunEnd s c.args.index c.next_gap-end.result.0) c.next_gap-end.ensures.end, told (λ (s : Set). IsNextRun s c.args.index c.next_gap-end.result.1) c.next_gap-end.ensures.next, refl)
