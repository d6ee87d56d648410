use Rattle.std.proofs.Common.{◌≡◌, None, ◌∙◌, sym}
use Rattle.blob_device.proofs.general.Results.{err_of}
use Rattle.segments.specs.FixedWalking.{walk_of}
use Rattle.segments_tests.proofs.CursorCalls.{gone_failed, no_place}
use Rattle.segments_tests.proofs.cursors.gone_over.Goals as goal

pub returns-in_err-enter : goal.returns-in_err-enter
returns-in_err-enter c =
    let e = c.in_err-enter.ensures in
    gone_failed _ c.from_residual.result c.in_err-enter.field-0.0 _ (walk_of c.enter.new.self) (err_of c.from_residual.result c.in_err-enter.field-0.0 c.from_residual.ensures.1) e.steps.broken e.left e.steps.same.floors

pub returns-in_err-passed-2 : goal.returns-in_err-passed-2
returns-in_err-passed-2 c =
    let p = c.in_err-passed-2.ensures in
    gone_failed _ c.from_residual-in_err-passed-2.result c.in_err-passed-2.field-0.0 _ (walk_of c.passed-2.new.walk) (err_of c.from_residual-in_err-passed-2.result c.in_err-passed-2.field-0.0 c.from_residual-in_err-passed-2.ensures.1) p.goes p.left
    (λ s. p.floors s ∙ c.in_ok-passed.ensures.floors s ∙ c.in_ok-enter.ensures.steps.same.floors s)

pub returns-in_default : goal.returns-in_default
returns-in_default c =
    let none : c.place.result ≡ None = cc in
    record {
      goes = c.in_ok-passed-2.ensures.goes;
      between = no_place (walk_of c.passed-2.new.walk).place (sym c.place.ensures ∙ none);
      floors = λ s. c.in_ok-passed-2.ensures.floors s ∙ c.in_ok-passed.ensures.floors s ∙ c.in_ok-enter.ensures.steps.same.floors s;
    }
