use Rattle.std.proofs.Common.{◌≡◌, ◌∙◌, inl, inr, true, nat_eq, ℕ, sym, subst, arith}
use Rattle.std.specs.List.{list_any}
use Rattle.std.specs.Map.{keys_of}
use Rattle.std.proofs.lemmas.Bool.{cases_lt}
use Rattle.sealed_pages.specs.Cached.{held_in}
use Rattle.sealed_pages.proofs.cache.PageCache.has_all.Goals as goal

pub returns-then-not-has : goal.returns-then-not-has
returns-then-not-has c = (λ e. absurd (cc e), λ all. absurd (cc (c.has.ensures, c.if-not-has.true, all c.pages.at c.pages.invariant.from c.pages-test.true)))

pub pages-preserved : goal.pages-preserved
pages-preserved c = record {
  from = omega (arith, c.pages.invariant.from);
  has = λ k low high. elim (cases_lt k c.pages.at) [
    | inl less ↦ c.pages.invariant.has k low less
    | inr le ↦ (let is : c.pages.at ≡ k = omega (arith, le, high) in
        subst (λ (j : ℕ). list_any (nat_eq j) (keys_of (held_in c.args.self.now)) ≡ true) is (sym c.has.ensures ∙ c.if-not-has.false))
  ];
}
