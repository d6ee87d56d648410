use Rattle.ordinal_store.proofs.ranges.PlainList.{IsGreatest-from_list}
use Rattle.ordinal_store.proofs.plain.PlainSet.last.Goals as goal

pub returns : goal.returns
returns c = rw (← c.deref.ensures.value) (IsGreatest-from_list _ c.greatest.result c.greatest.ensures.empty.0 c.greatest.ensures.contained c.greatest.ensures.greatest)
