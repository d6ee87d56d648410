use Rattle.std.proofs.Common.{ℕ, List, sym, subst}
use Rattle.ordinal_store.specs.Plain.{listed, IsWalked}
use Rattle.ordinal_store.proofs.ranges.Walked.{IsWalked-none, IsWalked-to, AreRunsFrom-walked}
use Rattle.ordinal_store.proofs.plain.PlainSet.runs_from.Goals as goal

pub loop-start-init : goal.loop-start-init
loop-start-init c =
    let P : List (ℕ × ℕ) → Type 0 = IsWalked (listed c.args.self.now.numbers.items) c.args.from 0 in
    c.in_ok-add_run.ensures (subst P (sym c.new-runs.ensures.items) (IsWalked-none (listed c.args.self.now.numbers.items) c.args.from))

pub loop-start-preserved : goal.loop-start-preserved
loop-start-preserved c = c.in_ok-add_run-2.ensures (IsWalked-to _ _ c.loop-start.at _ _ c.loop-start.invariant c.in-Some.ensures)

pub returns : goal.returns
returns c = AreRunsFrom-walked _ _ c.loop-start.at _ c.loop-start.invariant c.in_default.ensures
