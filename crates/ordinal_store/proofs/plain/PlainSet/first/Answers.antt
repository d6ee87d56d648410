use Rattle.ordinal_store.proofs.ranges.PlainList.{IsLeast-from_list}
use Rattle.ordinal_store.proofs.plain.PlainSet.first.Goals as goal

pub returns : goal.returns
returns c = rw (← c.deref.ensures.value) (IsLeast-from_list _ c.least.result c.least.ensures.empty.0 c.least.ensures.contained c.least.ensures.least)
