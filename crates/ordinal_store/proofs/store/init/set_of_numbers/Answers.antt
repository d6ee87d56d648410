use Rattle.std.proofs.Common.{◌≡◌, ◌∙◌, sym, ap, take, arith}
use Rattle.std.specs.Prelude.{nat_eq}
use Rattle.std.specs.Cmp.{nat_eq_equiv}
use Rattle.std.specs.List.{list_any}
use Rattle.std.proofs.lemmas.Grind.{common_steps}
use Rattle.std.proofs.lemmas.List.{take_all}
use Rattle.std.proofs.lemmas.Map.Views.{Contains-from_any, exact_unsigned_eq, list_any-from_Contains}
use Rattle.ordinal_store.proofs.store.init.set_of_numbers.Goals as goal

pub loop-number-preserved : goal.loop-number-preserved
loop-number-preserved c = λ q. grind (arith, common_steps, c.loop-number.invariant q)

pub returns-clause-each : goal.returns-clause-each
returns-clause-each c s =
    let all : take c.loop-number.number-index c.args.numbers.now ≡ c.args.numbers.now = take_all c.loop-number.number-index c.args.numbers.now (omega (arith, c.loop-number-test.false)) in
    let same = c.loop-number.invariant s ∙ ap (list_any (nat_eq s)) all in
    (λ has. Contains-from_any exact_unsigned_eq s c.args.numbers.now (sym same ∙ has), λ listed. same ∙ list_any-from_Contains nat_eq_equiv s c.args.numbers.now listed)
