use Rattle.std.proofs.Common.{refl, ◌≡◌, ◌≢◌, ◌<◌, ◌^◌, ℕ, inl, inr, get_or, Some, ap, subst, sym, ◌∙◌, arith, rules}
use Rattle.std.specs.BTreeMap.{get}
use Rattle.std.specs.List.{Contains}
use Rattle.std.specs.Option.{is_some}
use Rattle.std.specs.Ordering.{nat_cmp}
use Rattle.std.proofs.lemmas.Bool.{cases_lt, cases_eq}
use Rattle.std.proofs.lemmas.Grind.{common_steps}
use Rattle.std.proofs.lemmas.List.Elements.{Contains-get_or}
use Rattle.section_manager.specs.declared.unopened.Unopened.TheVariants.{Section}
use Rattle.std.specs.Prelude.{string_bytes}
use Rattle.section_manager.specs.managing.Managed.{shown}
use Rattle.section_manager.specs.managing.Opening.{Knows}
use Rattle.section_manager.specs.lemmas.Seen.{err_seen}
use Rattle.section_manager.proofs.NumberLemmas.{of_listed}
use Rattle.section_manager.proofs.manager.Manager.found.Goals as goal
use Rattle.blob_device.proofs.general.Lists.{contains_or_not}

pub loop-number-init : goal.loop-number-init
loop-number-init g c = record {
  known = λ k lt. absurd (omega (arith, lt));
  others = λ s other. search rules;
}

pub loop-number-preserved : goal.loop-number-preserved
loop-number-preserved g c =
    let number = get_or c.args.numbers.now c.loop-number.number-index 0 in
    let kept : (q : ℕ) → q ≢ number → get nat_cmp c.insert.new.self q ≡ get nat_cmp c.loop-number.unopened q = λ q other. grind (arith, common_steps) in
    record {
      known = λ k below. elim (cases_eq (get_or c.args.numbers.now k 0) number) [
        | inl is ↦ ap (get nat_cmp c.insert.new.self) is ∙ c.in_ok-insert.ensures.updates.1
        | inr other ↦ elim (cases_lt k c.loop-number.number-index) [
          | inl before ↦ kept (get_or c.args.numbers.now k 0) other ∙ c.loop-number.invariant.known k before
          | inr last ↦ (let at : k ≡ c.loop-number.number-index = omega (arith, below, last) in absurd (other (ap (λ (j : ℕ). get_or c.args.numbers.now j 0) at)))
        ]
      ];
      others = λ s other. kept s (λ is. other (subst (λ (n : ℕ). Contains c.args.numbers.now n) (sym is) (Contains-get_or c.args.numbers.now c.loop-number.number-index 0 c.loop-number-test.true))) ∙ c.loop-number.invariant.others s other;
    }

pub returns-in_err-insert : goal.returns-in_err-insert
returns-in_err-insert g c = subst (Knows (string_bytes c.args.partition) c.args.factory c.args.ceiling c.args.numbers.now) (sym (err_seen shown c.from_residual.result _ c.from_residual.ensures.1)) (record {
  held = tt;
  unopened = tt;
  others = tt;
  number = tt;
  partition = tt;
  factory = tt;
  floor = tt;
  ceiling = tt;
  cause = refl;
})

pub returns : goal.returns
returns g c = record {
  held = c.new.ensures;
  unopened = λ s listed. of_listed (λ n. get nat_cmp c.loop-number.unopened n ≡ Some Section) c.args.numbers.now s (λ k lt. c.loop-number.invariant.known k (omega (arith, lt, c.loop-number-test.false))) listed;
  others = c.loop-number.invariant.others;
  number = λ s known. elim known [
    | inl held ↦ absurd (cc (ap is_some (c.new.ensures s), held))
    | inr unopened ↦ elim (contains_or_not c.args.numbers.now s) [
      | inl listed ↦ of_listed (λ n. n < 2 ^ 64) c.args.numbers.now s (λ k lt. (c.type_inv.numbers k).fits) listed
      | inr none ↦ absurd (cc (ap is_some (c.loop-number.invariant.others s none), unopened))
    ]
  ];
  partition = refl;
  factory = refl;
  floor = refl;
  ceiling = refl;
  cause = tt;
}
