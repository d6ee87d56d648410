use Rattle.std.proofs.Common.{ℕ, refl, subst, arith}
use Rattle.ordinal_store.specs.Reopening.{IsLeastMarked}
use Rattle.ordinal_store.proofs.checking.check_marked.Goals as goal

pub returns-in-None : goal.returns-in-None
returns-in-None c = λ p after. c.in-None.ensures p (omega (arith, after, c.min.ensures))

pub returns-in-Some : goal.returns-in-Some
returns-in-Some c = (c.in-Some.position, subst (λ (n : ℕ). IsLeastMarked c.args.bits.now n c.in-Some.position) c.min.ensures c.in-Some.ensures, refl)
