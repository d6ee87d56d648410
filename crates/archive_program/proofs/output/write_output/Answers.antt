use Rattle.std.proofs.Common.{◌≡◌, ℕ, List, [], ◌∷◌, length, refl, sym, ap, ◌∙◌, arith}
use Rattle.std.proofs.lemmas.Bool.{eqb-false, eqb-true}
use Rattle.archive_program.proofs.OutputLemmas.{all_written, part_written}
use Rattle.archive_program.proofs.output.write_output.Goals as goal

no_length : (xs : List ℕ) → length xs ≡ 0 → xs ≡ []
no_length [] e = refl
no_length (x ∷ xs) e = absurd (omega arith)

pub returns-in-Err : goal.returns-in-Err
returns-in-Err g c = part_written g.W.Sink c.args.out.now c.loop-rest.out _ c.args.text.now c.loop-rest.rest.now c.loop-rest.invariant.told c.in-Err.e
    c.loop-rest.invariant.faults c.in-Err.ensures.faults c.in-Err.ensures.told
    (λ none. eqb-false (length c.loop-rest.rest.now) 0 (sym c.is_empty.ensures ∙ c.loop-rest-test.true) (ap length none)) (λ nil. (c.loop-rest.invariant.nothing nil).0)

pub returns : goal.returns
returns g c = all_written g.W.Sink c.args.out.now c.loop-rest.out _ c.args.text.now c.loop-rest.rest.now c.loop-rest.invariant.told _ refl
    (no_length c.loop-rest.rest.now (eqb-true (length c.loop-rest.rest.now) 0 (sym c.is_empty.ensures ∙ c.loop-rest-test.false)))
    (λ nil. (c.loop-rest.invariant.nothing nil).1)
