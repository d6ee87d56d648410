use Rattle.std.proofs.Common.{◌≡◌, ◌≤◌, ◌+◌, ◌-◌, ◌^◌, ℕ, List, Bool, Option, sym, subst, arith}
use Rattle.std.specs.Prelude.{◌↔◌, IsTrue, nat_lt, true}
use Rattle.ordinal_store.specs.Reopening.{HasPast}
use Rattle.ordinal_store.proofs.MarkLemmas.{past_full}
use Rattle.ordinal_store.proofs.checking.is_past.Goals as goal

pub returns-in-None : goal.returns-in-None
returns-in-None c =
    let first = c.in-Some.first in
    let r = nat_lt (2 ^ 64 - 1 - first) (c.args.items - 1) in
    subst (λ (m : Option (List Bool)). IsTrue r ↔ HasPast c.args.items c.args.section m) (sym c.in-None.is)
    (subst (λ (n : ℕ). IsTrue r ↔ ((p : ℕ) × (nat_lt p c.args.items ≡ true) × (2 ^ 64 ≤ n + p))) c.in-Some.ensures.1 (past_full c.args.items first c.requires (omega (arith, c.in-Some.ensures))))
