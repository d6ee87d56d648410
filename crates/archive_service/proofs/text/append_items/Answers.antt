-- The name, a word for each number, and the end of the line.
use Rattle.std.proofs.Common.{◌++◌, codes, get_or, take, sym, ap, ◌∙◌}
use Rattle.std.specs.Fmt.{decimal}
use Rattle.std.proofs.lemmas.List.{take_all, take_more}
use Rattle.archive_service.specs.Texts.{words_text}
use Rattle.archive_service.proofs.TextLemmas.{list_ends, list_fails, word_more}
use Rattle.archive_service.proofs.text.append_items.Goals as goal

-- one number more
pub loop-number-preserved : goal.loop-number-preserved
loop-number-preserved c =
    let prefix = c.extend_from_slice.new.self.items in
    let number = get_or c.args.numbers.now c.loop-number.number-index 0 in
    let before = take c.loop-number.number-index c.args.numbers.now in
    word_more decimal prefix c.loop-number.out.items c.append_with.new.out.items before number c.loop-number.invariant c.in_ok-append_with.ensures
    ∙ ap (λ l. prefix ++ words_text decimal l) (sym (take_more c.args.numbers.now c.loop-number.number-index 0 c.loop-number-test.true))

-- no memory for a number
pub returns-in_err-append_with : goal.returns-in_err-append_with
returns-in_err-append_with c =
    list_fails decimal c.from_residual-in_err-append_with.result c.args.out.now.items (codes "items") c.append_with.new.out.items _ (take c.loop-number.number-index c.args.numbers.now)
    c.in_ok-extend_from_slice.ensures.items c.loop-number.invariant c.from_residual-in_err-append_with.ensures.0 c.in_err-append_with.ensures

pub returns : goal.returns
returns c =
    let last = c.extend_from_slice-2 in
    list_ends decimal last.result c.args.out.now.items (codes "items") (codes "\n") last.new.self.items (take c.loop-number.number-index c.args.numbers.now) c.args.numbers.now
    c.in_ok-extend_from_slice.ensures.items c.loop-number.invariant (take_all c.loop-number.number-index c.args.numbers.now c.loop-number-test.false) last.ensures.items
