use Rattle.record_tables.proofs.FreshLemmas.{fresh_order, fresh_rows, fresh_words}
use Rattle.record_tables.proofs.tables.Tables.new.Goals as goal

pub returns : goal.returns
returns g c = record {
  none = fresh_rows c.new.result c.new.ensures.empty;
  order = fresh_order _ c.new.ensures.empty c.new-2.ensures.slots c.new-2.ensures.used;
  words = fresh_words _ c.new.ensures.empty g.W.PartialEq.eq c.new-3.ensures;
}
