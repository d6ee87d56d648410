use Rattle.std.proofs.Common.{◌≡◌, Err, refl, subst}
use Rattle.ordinal_store.specs.Numbers.{Set, IsGreatest}
use Rattle.ordinal_store.specs.Plain.{listed}
use Rattle.archives.specs.Commands.{Last}
use Rattle.archives.proofs.machine.Indices.{told_none, told_of}
use Rattle.archives.proofs.plain.Machine.last_index.Goals as goal
use Rattle.blob_device.proofs.general.Results.{err_of}

pub returns-in_err-indices : goal.returns-in_err-indices
returns-in_err-indices g c =
    told_none g.K.Key.key_bytes c.args.self.now (Last) c.from_residual.result
    (subst (λ x. c.from_residual.result ≡ Err x) c.in_err-indices.ensures (err_of c.from_residual.result c.in_err-indices.field-0.0 c.from_residual.ensures.1))

pub returns : goal.returns
returns g c =
    let told = told_of g.K.Key.key_bytes c.args.self.now (listed c.in_ok-indices.field-0.numbers.items) c.in_ok-indices.ensures in
    (told (λ (s : Set). IsGreatest s c.last.result) c.last.ensures, refl)
