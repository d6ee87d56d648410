use Rattle.std.proofs.Common.{ℕ, List, ◌∙◌, subst}
use Rattle.std.proofs.lemmas.List.{take_more, take_all}
use Rattle.ordinal_store.specs.Plain.{listed, IsNextAmong}
use Rattle.ordinal_store.proofs.ranges.PlainList.{IsNextRun-from_among}
use Rattle.ordinal_store.proofs.plain.PlainSet.next_start.Goals as goal

pub loop-start-preserved : goal.loop-start-preserved
loop-start-preserved c =
    rw (take_more c.deref-start-items.result.now c.loop-start.start-index 0 c.loop-start-test.true) (c.nearer-next.ensures _ c.loop-start.invariant)

pub returns : goal.returns
returns c =
    let P : List ℕ → Type 0 = λ xs. IsNextAmong (listed c.args.self.now.numbers.items) c.args.number xs c.loop-start.next in
    IsNextRun-from_among _ _ _
    (subst P (take_all c.loop-start.start-index c.deref-start-items.result.now c.loop-start-test.false ∙ c.deref-start-items.ensures.value) c.loop-start.invariant)
