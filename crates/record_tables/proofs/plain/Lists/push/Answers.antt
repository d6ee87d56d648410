use Rattle.record_tables.proofs.PlainLemmas.{lists_more}
use Rattle.record_tables.proofs.plain.Lists.push.Goals as goal

pub returns : goal.returns
returns g c = lists_more c.push.result c.args.self.now _ c.args.row c.push.ensures.items
