use Rattle.std.proofs.Common.{◌≡◌, ◌∷◌, ◌∙◌, ℕ, refl, sym, ap, subst}
use Rattle.std.specs.Map.Iter.{deref_pair}
use Rattle.std.proofs.lemmas.Map.Iter.{rest_more}
use Rattle.value_codec.specs.declared.key.Key8.{Key8}
use Rattle.meta_store.specs.Store.{Store, shown}
use Rattle.paired.proofs.tracking.Lemmas.{Staging, staging_starts, staging_goes_on}
use Rattle.paired.proofs.oversized.tracking.put_markers.Goals as goal

pub loop-section-preserved : goal.loop-section-preserved
loop-section-preserved g c =
    let is : c.loop-section.section-iterator ≡ (c.in-Some.section.now, c.in-Some.len.now) ∷ c.next.new.self = rest_more deref_pair _ _ c.next.result (c.in-Some.section, c.in-Some.len) c.in-Some.is c.next.ensures.steps in
    record {
      staging = staging_goes_on c.args.active.now c.args.lens.now.entries c.next.new.self c.in-Some.section.now c.in-Some.len.now (shown c.args.metadata.now) (shown c.loop-section.metadata) (shown c.put_inactive.new.metadata)
          (subst (λ rest. Staging c.args.active.now c.args.lens.now.entries rest (shown c.args.metadata.now) (shown c.loop-section.metadata)) is c.loop-section.invariant.staging)
          c.in_ok-put_inactive.ensures.here c.in_ok-put_inactive.ensures.others c.in_ok-put_inactive.ensures.marked c.in_ok-put_inactive.ensures.still c.in_ok-put_inactive.ensures.staged;
      fresh = λ none. (let same = c.in_ok-put_inactive.ensures.fresh none in same ∙ c.loop-section.invariant.fresh (ap (λ (u : Store Key8 ℕ). u.staged) (sym same) ∙ none));
      storable = λ all. c.in_ok-put_inactive.ensures.storable (c.loop-section.invariant.storable all);
      stands = λ synced d stood. c.in_ok-put_inactive.ensures.stands synced d (c.loop-section.invariant.stands synced d stood);
    }

pub loop-section-init : goal.loop-section-init
loop-section-init g c = record {
  staging = subst (λ rest. Staging c.args.active.now c.args.lens.now.entries rest (shown c.args.metadata.now) (shown c.args.metadata.now)) (sym (c.into_iter-section-iterator.ensures.into_iter_gives ∙ c.iter-section-items.ensures.rest))
      (staging_starts c.args.active.now c.args.lens.now.entries (shown c.args.metadata.now) c.iter-section-items.ensures.found);
  fresh = λ none. refl;
  storable = λ all. all;
  stands = λ synced d stood. stood;
}

pub returns-in_err-put_inactive-clause-stands : goal.returns-in_err-put_inactive-clause-stands
returns-in_err-put_inactive-clause-stands g c synced d stood = c.put_inactive.ensures.stands synced d (c.loop-section.invariant.stands synced d stood)
