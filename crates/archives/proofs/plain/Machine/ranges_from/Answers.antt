use Rattle.std.proofs.Common.{◌≡◌, Err, refl, sym, subst}
use Rattle.ordinal_store.specs.Numbers.{Set, AreRunsFrom}
use Rattle.ordinal_store.specs.Plain.{listed}
use Rattle.archives.specs.Commands.{RangesFrom}
use Rattle.archives.specs.declared.error.Error.TheVariants.{Mem}
use Rattle.archives.proofs.machine.Indices.{told_none, told_of}
use Rattle.archives.proofs.plain.Machine.ranges_from.Goals as goal
use Rattle.blob_device.proofs.general.Results.{err_of}

pub returns-in_err-indices : goal.returns-in_err-indices
returns-in_err-indices g c =
    told_none g.K.Key.key_bytes c.args.self.now (RangesFrom c.args.index) c.from_residual.result
    (subst (λ x. c.from_residual.result ≡ Err x) c.in_err-indices.ensures (err_of c.from_residual.result c.in_err-indices.field-0.0 c.from_residual.ensures.1))

pub returns-in_err-runs : goal.returns-in_err-runs
returns-in_err-runs g c =
    told_none g.K.Key.key_bytes c.args.self.now (RangesFrom c.args.index) c.from_residual-in_err-runs.result (err_of c.from_residual-in_err-runs.result Mem c.from_residual-in_err-runs.ensures.1)

pub returns : goal.returns
returns g c =
    let told = told_of g.K.Key.key_bytes c.args.self.now (listed c.in_ok-indices.field-0.numbers.items) c.in_ok-indices.ensures in
    (told (λ (s : Set). AreRunsFrom s c.args.index c.from_vec.result) (subst (AreRunsFrom (listed c.in_ok-indices.field-0.numbers.items) c.args.index) (sym c.from_vec.ensures) c.in_ok-runs.ensures), refl)
