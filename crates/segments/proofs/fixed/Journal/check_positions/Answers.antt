use Rattle.std.proofs.Common.{◌≡◌, get_or, arith}
use Rattle.segments.proofs.looking.ReadLemmas.{stands_before}
use Rattle.segments.proofs.fixed.Journal.check_positions.Goals as goal

pub returns-then-position-count-clause-first : goal.returns-then-position-count-clause-first
returns-then-position-count-clause-first g c sorted p q past has less =
    let is : p ≡ get_or c.args.positions.now c.loop-position.position-index 0 = cc past in
    let before = stands_before c.args.positions.now c.loop-position.position-index p q sorted c.loop-position-test.true is has less in
    omega (arith, c.loop-position.invariant before.0 before.1, before.2, c.count_of-count.ensures)
