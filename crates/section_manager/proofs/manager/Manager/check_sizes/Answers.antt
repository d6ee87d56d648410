use Rattle.std.proofs.Common.{◌≡◌, ◌∙◌, ◌∷◌, ℕ, ◌≤◌, ◌<◌, List, IsSome, inl, inr, sym, subst, arith}
use Rattle.std.specs.BTreeMap.{get, keys}
use Rattle.std.specs.List.{Contains}
use Rattle.std.specs.Ordering.{nat_cmp}
use Rattle.std.proofs.lemmas.Cmp.{nat_cmp_total, eq_by_cmp_equiv}
use Rattle.std.proofs.lemmas.Map.Views.{Contains-keys_from_lookup, IsSome-lookup_from_Contains}
use Rattle.section_manager.specs.lemmas.sections.Cut.{not_below}
use Rattle.section_manager.proofs.manager.Manager.check_sizes.Goals as goal
use Rattle.blob_device.proofs.general.Lists.{first_in, first_or_later, later_in}
use Rattle.blob_device.proofs.general.Numbers.{same_number}
use Rattle.blob_device.proofs.general.Results.{err_of}

pub loop-section-init : goal.loop-section-init
loop-section-init g c =
    let entries = c.args.sizes.now.entries in
    let all : c.into_iter-section-iterator.result ≡ keys c.args.sizes.now = c.into_iter-section-iterator.ensures.into_iter_gives ∙ c.keys-section-items.ensures.rest in
    record {
      rest = λ s some below. subst (λ (l : List ℕ). Contains l s) (sym all) (Contains-keys_from_lookup same_number s entries some);
      named = λ s rest. IsSome-lookup_from_Contains (eq_by_cmp_equiv nat_cmp_total) s entries (subst (λ (l : List ℕ). Contains l s) all rest);
    }

pub loop-section-preserved : goal.loop-section-preserved
loop-section-preserved g c =
    let x = c.in-Some.section.now in
    let later = c.next.new.self in
    let floor = c.args.self.now.floor in
    let step : c.loop-section.section-iterator ≡ x ∷ later = c.in-Some.ensures.steps in
    let above : floor ≤ x = not_below x floor (λ lt. absurd (cc (c.in_ok-prune_guard.ensures.guard.1 lt))) in
    record {
      rest = λ s some below. elim (first_or_later x later s (subst (λ (l : List ℕ). Contains l s) step (c.loop-section.invariant.rest s some below))) [
        | inl is ↦ absurd (omega (arith, is, above, below))
        | inr rest ↦ rest
      ];
      named = λ s rest. c.loop-section.invariant.named s (subst (λ (l : List ℕ). Contains l s) (sym step) (later_in x later s rest));
    }

pub returns-in_err-prune_guard-clause-guard : goal.returns-in_err-prune_guard-clause-guard
returns-in_err-prune_guard-clause-guard g c =
    let x = c.in-Some.section.now in
    let below : x < c.args.self.now.floor = c.in_err-prune_guard.ensures.guard.0 c.in_err-prune_guard.ensures.cause in
    let named : IsSome (get nat_cmp c.args.sizes.now x) = c.loop-section.invariant.named x (subst (λ (l : List ℕ). Contains l x) (sym c.in-Some.ensures.steps) (first_in x c.next.new.self)) in
    let same = err_of c.from_residual.result c.in_err-prune_guard.field-0.0 c.from_residual.ensures.1 in
    (λ is. (x, named, below), λ w. cc (same, c.in_err-prune_guard.ensures.cause))
