-- The word is an index, and in the limits, or not.
use Rattle.std.proofs.Common.{None, Some, subst, sym, ◌∙◌, arith}
use Rattle.std.specs.Fmt.{decimal}
use Rattle.archive_service.specs.Script.{IsIndex}
use Rattle.archive_service.specs.Reading.{IsReading}
use Rattle.archive_program.proofs.WordsLemmas.{no_number, number_out}
use Rattle.archive_program.proofs.words.number_to.Goals as goal
use Rattle.archive_program.proofs.words.number_to.Goals.{then-number-lt1-via-then-number-lt1, then-number-lt1-via-else-number-lt1+then-number-limit}
use Rattle.blob_device.proofs.general.Options.{if_none}

pub returns-in_err-number-clause-none : goal.returns-in_err-number-clause-none
returns-in_err-number-clause-none c =
    if_none _ _ (no_number c.args.limit (omega arith) _ (subst (λ w. IsReading IsIndex decimal w None) c.as_bytes.ensures.value c.in_err-number.ensures))

pub returns-then-number-lt1-clause-none : goal.returns-then-number-lt1-clause-none
returns-then-number-lt1-clause-none c =
    number_out c.args.limit (omega arith) _ c.in_ok-number.number (subst (λ w. IsReading IsIndex decimal w (Some c.in_ok-number.number)) c.as_bytes.ensures.value c.in_ok-number.ensures)
    (λ some most. elim c.then-number-lt1.branch [
      | then-number-lt1-via-then-number-lt1 w ↦ omega (arith, w.if-number-lt1.true, some)
      | then-number-lt1-via-else-number-lt1+then-number-limit w ↦ omega (arith, w.if-number-limit.true, most)
    ])

pub returns-clause-is : goal.returns-clause-is
returns-clause-is c = record {
  word_is = sym c.as_bytes.ensures.value ∙ c.in_ok-number.ensures.1;
  some = c.if-number-lt1.false;
  most = c.if-number-limit.false;
}
