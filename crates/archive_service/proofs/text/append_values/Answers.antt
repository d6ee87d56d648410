-- The name, a word for each value, and the end of the line.
use Rattle.std.proofs.Common.{◌≡◌, ◌+◌, ◌∷◌, [], ◌++◌, codes, take, sym, ap, ◌∙◌, append-nil}
use Rattle.std.proofs.lemmas.List.{take_all, take_more}
use Rattle.archive_service.specs.Texts.{value_text, words_text}
use Rattle.archive_service.proofs.TextLemmas.{fails, list_ends, list_fails, more_is, word_more, words_behind}
use Rattle.archive_service.proofs.text.append_values.Goals as goal

-- one value more
pub loop-value-preserved : goal.loop-value-preserved
loop-value-preserved c =
    let prefix = c.extend_from_slice.new.self.items in
    let out = c.loop-value.out.items in
    let value = c.value-item.result in
    let before = take c.loop-value.value-index c.args.values.now in
    let word = more_is out c.extend_from_slice-in-loop-value.new.self.items c.append_value.new.out.items (codes " ") (value_text c.as_bytes.result.now)
    c.in_ok-extend_from_slice-2.ensures.items c.in_ok-append_value.ensures ∙ ap (λ v. out ++ 32 ∷ value_text v) c.as_bytes.ensures in
    let more : take (c.loop-value.value-index + 1) c.args.values.now ≡ before ++ value ∷ [] =
    take_more c.args.values.now c.loop-value.value-index value c.loop-value-test.true ∙ ap (λ v. before ++ v ∷ []) (sym c.value-item.is) in
    word_more value_text prefix out c.append_value.new.out.items before value c.loop-value.invariant word ∙ ap (λ l. prefix ++ words_text value_text l) (sym more)

-- no memory for a space
pub returns-in_err-extend_from_slice-2 : goal.returns-in_err-extend_from_slice-2
returns-in_err-extend_from_slice-2 c =
    list_fails value_text c.from_residual-in_err-extend_from_slice-2.result c.args.out.now.items (codes "values") c.extend_from_slice-in-loop-value.new.self.items _
    (take c.loop-value.value-index c.args.values.now) c.in_ok-extend_from_slice.ensures.items c.loop-value.invariant c.from_residual-in_err-extend_from_slice-2.ensures.0
    ([], c.in_err-extend_from_slice-2.ensures.items ∙ sym (append-nil c.loop-value.out.items))

-- or for a value
pub returns-in_err-append_value : goal.returns-in_err-append_value
returns-in_err-append_value c =
    let before = take c.loop-value.value-index c.args.values.now in
    let so_far = words_behind value_text c.args.out.now.items (codes "values") c.extend_from_slice.new.self.items c.loop-value.out.items before
    c.in_ok-extend_from_slice.ensures.items c.loop-value.invariant in
    fails c.from_residual-in_err-append_value.result c.args.out.now.items c.extend_from_slice-in-loop-value.new.self.items c.append_value.new.out.items
    (codes "values" ++ words_text value_text before ++ codes " ") _ c.from_residual-in_err-append_value.ensures.0
    (more_is c.args.out.now.items c.loop-value.out.items c.extend_from_slice-in-loop-value.new.self.items (codes "values" ++ words_text value_text before) (codes " ") so_far
    c.in_ok-extend_from_slice-2.ensures.items)
    c.in_err-append_value.ensures

pub returns : goal.returns
returns c =
    let last = c.extend_from_slice-2 in
    list_ends value_text last.result c.args.out.now.items (codes "values") (codes "\n") last.new.self.items (take c.loop-value.value-index c.args.values.now) c.args.values.now
    c.in_ok-extend_from_slice.ensures.items c.loop-value.invariant (take_all c.loop-value.value-index c.args.values.now c.loop-value-test.false) last.ensures.items
