-- One growth after another.
use Rattle.std.proofs.Common.{◌≡◌, sym, subst, refl, ℕ, Bool, Result, Err}
use Rattle.archives.specs.Growing.{GrowEnds}
use Rattle.archives.specs.declared.error.Error.{Error}
use Rattle.archives.specs.declared.error.Error.TheVariants.{Mem}
use Rattle.archives.specs.declared.prunable.growing.Held.{Held}
use Rattle.archives.proofs.prunable.growing.Held.grown.Goals as goal
use Rattle.blob_device.proofs.general.Numbers.{not_at}
use Rattle.blob_device.proofs.general.Results.{err_of}

-- memory was short
short : {W K : Type 0} (eq : W → W → Bool) (section index : ℕ) (word : W) (old : Held W K) (r : Result (Held W K) Error) → r ≡ Err Mem → GrowEnds eq section index word old r
short eq section index word old r is = subst (GrowEnds eq section index word old) (sym is) refl

pub reserve-requires : goal.reserve-requires
reserve-requires g c = record { order = c.requires.order; room = c.requires.room; index = c.requires.index }

pub returns-in_err-reserve : goal.returns-in_err-reserve
returns-in_err-reserve g c = short _ _ _ _ _ _ (err_of _ Mem c.from_residual.ensures.1)

pub returns-in_err-insert : goal.returns-in_err-insert
returns-in_err-insert g c = short _ _ _ _ _ _ (err_of _ Mem c.from_residual-in_err-insert.ensures.1)

pub returns-in_err-insert-2 : goal.returns-in_err-insert-2
returns-in_err-insert-2 g c = short _ _ _ _ _ _ (err_of _ Mem c.from_residual-in_err-insert-2.ensures.1)

pub returns : goal.returns
returns g c = record {
  same = c.reserve.ensures.same;
  reserved = c.in_ok-reserve.ensures.ends;
  written = c.in_ok-insert.ensures.updates.1;
  others = λ s other. c.in_ok-insert.ensures.updates.2 s (not_at c.args.section s other);
  indices = c.in_ok-insert-2.ensures.ok;
}
