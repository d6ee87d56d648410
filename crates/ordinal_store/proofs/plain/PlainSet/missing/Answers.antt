use Rattle.std.proofs.Common.{◌+◌, ℕ, List, Vec, Global, sym, ◌∙◌, subst, inl, inr, arith}
use Rattle.std.proofs.lemmas.Bool.{false≢true}
use Rattle.ordinal_store.specs.Numbers.{AreMissing}
use Rattle.ordinal_store.specs.Plain.{listed}
use Rattle.ordinal_store.proofs.ranges.PlainList.{IsMissingTo, IsMissingTo-member, IsMissingTo-absent, AreMissing-from_to}
use Rattle.ordinal_store.proofs.plain.PlainSet.missing.Goals as goal
use Rattle.ordinal_store.proofs.plain.PlainSet.missing.Goals.{then-not-has+in_ok-push, else-not-has}

pub returns-then-len-max : goal.returns-then-len-max
returns-then-len-max c =
    let P : List ℕ → Type 0 = AreMissing (listed c.args.self.now.numbers.items) c.args.start c.args.max in
    subst P (sym c.from_vec-then-len-max.ensures) (AreMissing-from_to _ _ _ _ _ _ c.loop-number.invariant c.in-Some.ensures (inl (omega arith)))

pub loop-number-preserved : goal.loop-number-preserved
loop-number-preserved c =
    let P : Vec ℕ Global → Type 0 = λ v. IsMissingTo (listed c.args.self.now.numbers.items) c.args.start c.args.max c.in-Some.last (c.loop-number.number + 1) v.items in
    elim c.if-not-has.branch [
      | then-not-has+in_ok-push w ↦
          let Q : List ℕ → Type 0 = λ xs. IsMissingTo (listed c.args.self.now.numbers.items) c.args.start c.args.max c.in-Some.last (c.loop-number.number + 1) xs in
          subst P (sym w.missing-is) (subst Q (sym w.in_ok-push.ensures.items)
          (IsMissingTo-absent _ _ _ _ _ _ c.loop-number.invariant c.loop-number.auto.number c.loop-number-test.true
          (let few = c.loop-number.invariant.at_most in omega arith) (λ t. false≢true (sym w.if-not-has.true ∙ (c.has.ensures ∙ t)))))
      | else-not-has w ↦
          subst P (sym w.missing-is) (IsMissingTo-member _ _ _ _ _ _ c.loop-number.invariant c.loop-number-test.true (sym c.has.ensures ∙ w.if-not-has.false))
    ]

pub returns : goal.returns
returns c =
    let P : List ℕ → Type 0 = AreMissing (listed c.args.self.now.numbers.items) c.args.start c.args.max in
    subst P (sym c.from_vec-2.ensures) (AreMissing-from_to _ _ _ _ _ _ c.loop-number.invariant c.in-Some.ensures (inr c.loop-number-test.false))
