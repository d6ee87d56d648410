-- Three numbers, each behind a text.
use Rattle.std.proofs.Common.{◌≡◌, ℕ, List, decimal, codes, ◌++◌, sym, ap, ◌∙◌}
use Rattle.std.proofs.lemmas.List.{append_assoc}
use Rattle.archive_service.proofs.TextLemmas.{appends_more, appends_same}
use Rattle.archive_service.proofs.error_text.append_damage.Goals as goal

in_order : (a b c d e : List ℕ) → a ++ (b ++ c ++ (d ++ e)) ≡ a ++ b ++ c ++ d ++ e
in_order a b c d e =
    sym (append_assoc a (b ++ c) (d ++ e)) ∙ ap (λ l. l ++ (d ++ e)) (sym (append_assoc a b c)) ∙ sym (append_assoc (a ++ b ++ c) d e)

pub returns : goal.returns
returns c =
    let last = c.append_with-3 in
    let one = c.append_with.new.out.items in
    let two = c.append_with-2.new.out.items in
    let section = codes "corruption " ++ decimal c.args.damage.now.section in
    let kept = decimal c.args.damage.now.kept in
    let wanted = decimal c.args.damage.now.wanted in
    appends_same last.result c.args.out.now.items last.new.out.items _ _ (in_order section (codes " ") kept (codes " ") wanted)
    (appends_more last.result c.args.out.now.items one last.new.out.items section (codes " " ++ kept ++ (codes " " ++ wanted)) c.in_ok-append_with.ensures
    (appends_more last.result one two last.new.out.items (codes " " ++ kept) (codes " " ++ wanted) c.in_ok-append_with-2.ensures last.ensures))
