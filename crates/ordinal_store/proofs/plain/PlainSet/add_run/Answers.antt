use Rattle.ordinal_store.proofs.ranges.Walked.{IsWalked-pushed, IsWalked-short, IsWalked-within, IsWalked-absent}
use Rattle.ordinal_store.proofs.plain.PlainSet.add_run.Goals as goal

pub returns-in_ok-push-in-Some : goal.returns-in_ok-push-in-Some
returns-in_ok-push-in-Some c = λ h. IsWalked-pushed _ _ _ _ _ _ _ h c.in-Some.ensures c.if-start-at.true c.if-from-end.true c.in_ok-push-in-Some.ensures.items

pub returns-in_default : goal.returns-in_default
returns-in_default c = λ h. IsWalked-short _ _ _ _ _ _ h c.in-Some.ensures c.if-from-end.false

pub returns-in_default-2 : goal.returns-in_default-2
returns-in_default-2 c = λ h. IsWalked-within _ _ _ _ _ _ h c.in-Some.ensures c.if-start-at.false

pub returns-in_default-3 : goal.returns-in_default-3
returns-in_default-3 c = λ h. IsWalked-absent _ _ _ _ h (rw c.in_default.is at c.get.ensures)
