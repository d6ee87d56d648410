-- The name, a word for each run, and the end of the line.
use Rattle.std.proofs.Common.{◌++◌, codes, get_or, take, sym, ap, ◌∙◌}
use Rattle.std.specs.Fmt.{decimal}
use Rattle.std.proofs.lemmas.List.{take_all, take_more}
use Rattle.archive_service.specs.Texts.{run_text, words_text}
use Rattle.archive_service.proofs.TextLemmas.{fails, list_ends, list_fails, more_is, run_more, word_more, words_behind}
use Rattle.archive_service.proofs.text.append_ranges.Goals as goal

-- one run more
pub loop-first-preserved : goal.loop-first-preserved
loop-first-preserved c =
    let prefix = c.extend_from_slice.new.self.items in
    let run = get_or c.args.runs.now c.loop-first.first-index (0, 0) in
    let before = take c.loop-first.first-index c.args.runs.now in
    word_more run_text prefix c.loop-first.out.items c.append_with-in-loop-first.new.out.items before run c.loop-first.invariant
    (run_more c.loop-first.out.items c.append_with.new.out.items c.append_with-in-loop-first.new.out.items run c.in_ok-append_with.ensures c.in_ok-append_with-2.ensures)
    ∙ ap (λ l. prefix ++ words_text run_text l) (sym (take_more c.args.runs.now c.loop-first.first-index (0, 0) c.loop-first-test.true))

-- no memory for the first number of a run
pub returns-in_err-append_with : goal.returns-in_err-append_with
returns-in_err-append_with c =
    list_fails run_text c.from_residual-in_err-append_with.result c.args.out.now.items (codes "ranges") c.append_with.new.out.items _ (take c.loop-first.first-index c.args.runs.now)
    c.in_ok-extend_from_slice.ensures.items c.loop-first.invariant c.from_residual-in_err-append_with.ensures.0 c.in_err-append_with.ensures

-- or for its last one
pub returns-in_err-append_with-2 : goal.returns-in_err-append_with-2
returns-in_err-append_with-2 c =
    let run = get_or c.args.runs.now c.loop-first.first-index (0, 0) in
    let before = take c.loop-first.first-index c.args.runs.now in
    let so_far = words_behind run_text c.args.out.now.items (codes "ranges") c.extend_from_slice.new.self.items c.loop-first.out.items before
    c.in_ok-extend_from_slice.ensures.items c.loop-first.invariant in
    fails c.from_residual-in_err-append_with-2.result c.args.out.now.items c.append_with.new.out.items c.append_with-in-loop-first.new.out.items
    (codes "ranges" ++ words_text run_text before ++ (codes " " ++ decimal run.0)) _ c.from_residual-in_err-append_with-2.ensures.0
    (more_is c.args.out.now.items c.loop-first.out.items c.append_with.new.out.items (codes "ranges" ++ words_text run_text before) (codes " " ++ decimal run.0) so_far c.in_ok-append_with.ensures)
    c.in_err-append_with-2.ensures

pub returns : goal.returns
returns c =
    let last = c.extend_from_slice-2 in
    list_ends run_text last.result c.args.out.now.items (codes "ranges") (codes "\n") last.new.self.items (take c.loop-first.first-index c.args.runs.now) c.args.runs.now
    c.in_ok-extend_from_slice.ensures.items c.loop-first.invariant (take_all c.loop-first.first-index c.args.runs.now c.loop-first-test.false) last.ensures.items
