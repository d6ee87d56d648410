use Rattle.std.proofs.Common.{rules, nat_le}
use Rattle.std.proofs.lemmas.Fn.{filter_same}
use Rattle.record_tables.proofs.PlainLemmas.{forgets}
use Rattle.record_tables.proofs.plain.Lists.remove_below.Goals as goal

pub returns : goal.returns
returns g c = forgets c.args.bound c.args.self.now _ (filter_same _ (λ r. nat_le c.args.bound r.section) _ (λ x b f' k. search rules) _ _ c.retain.ensures.filtered)
