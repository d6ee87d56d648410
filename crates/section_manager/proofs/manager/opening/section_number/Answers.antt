use Rattle.std.proofs.Common.{◌≡◌, sym, ◌∙◌, ap, arith}
use Rattle.std.specs.Int.{w64, from_be_bytes}
use Rattle.std.proofs.lemmas.List.{take_all}
use Rattle.std.proofs.lemmas.Nat.{be_bytes_8}
use Rattle.section_manager.proofs.manager.opening.section_number.Goals as goal

pub returns-clause-number : goal.returns-clause-number
returns-clause-number c =
    let whole : c.in-Some.bytes.now ≡ c.args.name.now = c.in-Some.ensures.cases.same ∙ take_all 8 c.args.name.now c.if-name-gt8.false in (
      sym (be_bytes_8 c.args.name.now c.from_be_bytes.result (omega (arith, c.in-Some.ensures.cases.enough, c.if-name-gt8.false)) (λ i. (c.type_inv.name i).fits) (c.from_be_bytes.ensures ∙ ap (from_be_bytes w64) whole)),
      omega arith,
    )
