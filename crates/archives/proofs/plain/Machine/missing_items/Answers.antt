use Rattle.std.proofs.Common.{◌≡◌, Err, refl, subst}
use Rattle.ordinal_store.specs.Numbers.{Set, AreMissing}
use Rattle.ordinal_store.specs.Plain.{listed}
use Rattle.archives.specs.Commands.{Missing}
use Rattle.archives.specs.declared.error.Error.TheVariants.{Mem}
use Rattle.archives.proofs.machine.Indices.{told_none, told_of}
use Rattle.archives.proofs.plain.Machine.missing_items.Goals as goal
use Rattle.blob_device.proofs.general.Results.{err_of}

pub returns-in_err-indices : goal.returns-in_err-indices
returns-in_err-indices g c =
    told_none g.K.Key.key_bytes c.args.self.now (Missing c.args.index c.args.count) c.from_residual.result
    (subst (λ x. c.from_residual.result ≡ Err x) c.in_err-indices.ensures (err_of c.from_residual.result c.in_err-indices.field-0.0 c.from_residual.ensures.1))

pub returns-in_err-missing : goal.returns-in_err-missing
returns-in_err-missing g c =
    told_none g.K.Key.key_bytes c.args.self.now (Missing c.args.index c.args.count) c.from_residual-in_err-missing.result (err_of c.from_residual-in_err-missing.result Mem c.from_residual-in_err-missing.ensures.1)

pub returns : goal.returns
returns g c =
    let told = told_of g.K.Key.key_bytes c.args.self.now (listed c.in_ok-indices.field-0.numbers.items) c.in_ok-indices.ensures in
    (told (λ (s : Set). AreMissing s c.args.index c.args.count c.in_ok-missing.missing) c.in_ok-missing.ensures, refl)
