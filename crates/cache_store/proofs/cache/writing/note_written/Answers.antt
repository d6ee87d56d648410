use Rattle.std.proofs.Common.{sym, ◌∙◌}
use Rattle.std.specs.BTreeMap.{get}
use Rattle.std.specs.Ordering.{nat_cmp}
use Rattle.cache_store.proofs.EnteringLemmas.{marked_held, marked_new}
use Rattle.cache_store.proofs.cache.writing.note_written.Goals as goal
use Rattle.blob_device.proofs.general.Results.{on_ok}

-- it was written since the last sync
pub returns-then-is_noted-clause-noted : goal.returns-then-is_noted-clause-noted
returns-then-is_noted-clause-noted c = marked_held c.args.section c.args.size (get nat_cmp c.args.written.now) (sym c.is_noted.ensures ∙ c.if-is_noted.true)

pub returns-clause-noted : goal.returns-clause-noted
returns-clause-noted c =
    on_ok c.note.result (λ held s. held s ∙ marked_new c.args.section c.args.size (get nat_cmp c.args.written.now) (sym c.is_noted.ensures ∙ c.if-is_noted.false) s) c.note.ensures.noted
