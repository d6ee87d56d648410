use Rattle.std.proofs.Common.{◌≡◌, Bool, Result, Ok, Err, ap, subst, arith}
use Rattle.archive_program.specs.declared.input.InputError.{InputError}
use Rattle.archive_program.specs.declared.input.InputError.TheVariants.{Mem}
use Rattle.archive_program.proofs.InputLemmas.{not_begun, taken_more, taken_all, taken_at_most, taken_before, later_cause}
use Rattle.archive_program.proofs.input.read_input.Goals as goal
use Rattle.blob_device.proofs.general.Results.{err_of}

pub pieces-preserved : goal.pieces-preserved
pieces-preserved g c = record {
  room = c.pieces.invariant.room;
  faults = omega (arith, c.pieces.invariant.faults, c.read_piece.ensures.faults);
  bound = c.read_piece.ensures.adds.bound;
  told = λ t. taken_more _ _ _ _ _ (c.pieces.invariant.told t) _ _ c.in-Ok-true.is (c.read_piece.ensures.told t);
}

-- ---- the ends

pub returns-in_err-piece : goal.returns-in_err-piece
returns-in_err-piece g c = not_begun g.S.Source c.args.input.now _ _ (err_of _ Mem c.from_residual.ensures.1)

pub returns-in-Ok-false : goal.returns-in-Ok-false
returns-in-Ok-false g c = record {
  at_most = λ t. taken_at_most _ _ _ _ _ (c.pieces.invariant.told t) _ (c.read_piece.ensures.told t);
  ends = record {
    whole = λ t. taken_all _ _ _ _ _ (c.pieces.invariant.told t) _ (subst (λ more. c.read_piece.result ≡ Ok more) c.in-Ok-false.field-0-test c.in-Ok-false.is) (omega (arith, c.pieces-test.true)) (c.read_piece.ensures.told t);
    limit = omega (arith, c.pieces-test.true, c.in-Ok-false.ensures.adds.ended c.in-Ok-false.field-0-test);
  };
}

pub returns-in-Err : goal.returns-in-Err
returns-in-Err g c = record {
  at_most = λ t. taken_at_most _ _ _ _ _ (c.pieces.invariant.told t) _ (c.read_piece.ensures.told t);
  ends = record {
    cause = later_cause _ _ _ _ c.pieces.invariant.faults c.in-Err.ensures.cause;
    within = λ t is. taken_before _ _ _ _ _ (c.pieces.invariant.told t) c.in-Err.e is (omega (arith, c.pieces-test.true)) (c.in-Err.ensures.told t);
    too_long = λ t is. absurd (c.in-Err.ensures.adds.in_limit (let err : InputError → Result Bool InputError = λ x. Err x in ap err is));
  };
}

pub returns : goal.returns
returns g c = record {
  at_most = λ t. record { taken = c.pieces.bytes.items; number = omega (arith, c.pieces.invariant.bound); rest = c.pieces.invariant.told t };
  ends = record {
    cause = tt;
    within = λ t e. cc;
    too_long = λ t e. record { taken = c.pieces.bytes.items; number = omega (arith, c.pieces.invariant.bound); rest = c.pieces.invariant.told t };
  };
}
