-- The folder is named, the kind is the one, and the last word is a number.
use Rattle.std.proofs.Common.{codes, sym, ◌∙◌, arith, string_bytes}
use Rattle.std.specs.String.{string_len}
use Rattle.archive_program.proofs.WordsLemmas.{items_asked, items_refused, no_text, other_text, same_text, some_text}
use Rattle.archive_program.proofs.words.items_of.Goals as goal
use Rattle.archive_program.proofs.words.items_of.Goals.{then-is_empty-via-then-is_empty, then-is_empty-via-else-is_empty+then-ne}

pub returns-then-is_empty-clause-refused : goal.returns-then-is_empty-clause-refused
returns-then-is_empty-clause-refused c = λ n asks.
    elim c.then-is_empty.branch [
      | then-is_empty-via-then-is_empty w ↦ asks.named (no_text _ (string_len c.args.folder.now) (omega (arith, c.args.folder.now.bytes.ok.0)) w.if-is_empty.ensures)
      | then-is_empty-via-else-is_empty+then-ne w ↦ other_text _ (codes "prunable") w.if-ne.ensures (w.as_str.ensures.value ∙ asks.kind_is)
    ]

pub returns-clause-asked : goal.returns-clause-asked
returns-clause-asked c =
    items_asked _ _ _
    (λ nil. some_text (string_bytes c.args.folder.now) (string_len c.args.folder.now) (omega (arith, c.args.folder.now.bytes.ok.0)) c.if-is_empty.ensures nil)
    (sym c.as_str.ensures.value ∙ same_text _ (codes "prunable") c.if-ne.ensures) c.number_to.result c.number_to.ensures.is

pub returns-clause-refused : goal.returns-clause-refused
returns-clause-refused c = items_refused _ _ _ c.number_to.result c.number_to.ensures.none
