-- By what the reply is.
use Rattle.std.proofs.Common.{◌≡◌, Some, None, false, length, refl, ap, ◌∙◌, arith}
use Rattle.archives.specs.declared.commands.Reply.TheVariants as answer
use Rattle.archive_service.proofs.MadeLemmas.{adds_nothing, adds_one_index, adds_ranges, adds_value, adds_yes}
use Rattle.archive_service.proofs.made.Counts.add.Goals as goal

pub returns-in-Some : goal.returns-in-Some
returns-in-Some c =
    let is : c.args.reply.now ≡ answer.Value c.in-Value.found = c.in-Value.is in
    let some : c.in-Value.found ≡ Some c.in-Some.value = c.in-Some.is in
    adds_value c.args.self.now c.args.reply.now c.in-Some.value _ (is ∙ ap answer.Value some) (ap length c.as_bytes.ensures) (omega (arith, c.as_bytes.type_inv.0))

pub returns-in-None : goal.returns-in-None
returns-in-None c =
    let is : c.args.reply.now ≡ answer.Value c.in-Value.found = c.in-Value.is in
    let none : c.in-Value.found ≡ None = c.in-None.is in
    adds_nothing c.args.self.now c.args.reply.now (answer.Value None) (is ∙ ap answer.Value none) (refl, refl, refl, refl, refl)

pub returns-in-Flag-true : goal.returns-in-Flag-true
returns-in-Flag-true c = adds_yes c.args.self.now c.args.reply.now (cc)

pub returns-in-Ranges : goal.returns-in-Ranges
returns-in-Ranges c = adds_ranges c.args.self.now c.args.reply.now c.in-Ranges.runs _ c.in-Ranges.is (ap length c.as_slice.ensures) (omega (arith, c.as_slice.type_inv.0))

pub returns-in-Index : goal.returns-in-Index
returns-in-Index c = adds_one_index c.args.self.now c.args.reply.now c.in-Index.index _ c.in-Index.is c.first_with-self.ensures

pub returns-in-Done : goal.returns-in-Done
returns-in-Done c = adds_nothing c.args.self.now c.args.reply.now answer.Done c.in-Done.is (refl, refl, refl, refl, refl)

pub returns-in-Values : goal.returns-in-Values
returns-in-Values c = adds_nothing c.args.self.now c.args.reply.now (answer.Values c.in-Values.field-0) c.in-Values.is (refl, refl, refl, refl, refl)

pub returns-in-Flag-false : goal.returns-in-Flag-false
returns-in-Flag-false c = adds_nothing c.args.self.now c.args.reply.now (answer.Flag false) (cc) (refl, refl, refl, refl, refl)

pub returns-in-Gap : goal.returns-in-Gap
returns-in-Gap c = adds_nothing c.args.self.now c.args.reply.now (answer.Gap c.in-Gap.field-0 c.in-Gap.field-1) c.in-Gap.is (refl, refl, refl, refl, refl)

pub returns-in-Items : goal.returns-in-Items
returns-in-Items c = adds_nothing c.args.self.now c.args.reply.now (answer.Items c.in-Items.field-0) c.in-Items.is (refl, refl, refl, refl, refl)

pub returns-in-Closed : goal.returns-in-Closed
returns-in-Closed c = adds_nothing c.args.self.now c.args.reply.now answer.Closed c.in-Closed.is (refl, refl, refl, refl, refl)
