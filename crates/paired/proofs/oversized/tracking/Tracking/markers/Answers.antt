use Rattle.std.proofs.Common.{◌≡◌, ◌<◌, ◌^◌, ◌∷◌, [], ℕ, List, ap, subst, rules}
use Rattle.std.specs.Map.Iter.{deref}
use Rattle.std.specs.BTreeMap.{get, is_at}
use Rattle.std.specs.Map.{lookup}
use Rattle.std.specs.Ordering.{nat_cmp}
use Rattle.std.proofs.lemmas.Map.Iter.{rest_more, rest_all}
use Rattle.value_codec.specs.declared.key.Key8.{Key8}
use Rattle.paired.specs.sighted.Shown.{shown}
use Rattle.paired.proofs.tracking.Lemmas.{Gathered, gathered_none, gathered_more, gathered_all}
use Rattle.paired.proofs.oversized.tracking.Tracking.markers.Goals as goal

pub loop-key-init : goal.loop-key-init
loop-key-init g c = rw c.into_iter-key-iterator.ensures.into_iter_gives
    (gathered_none (shown c.args.self.now).store.entries c.keys-key-items.result.inner (get nat_cmp c.new-markers.result) c.keys-key-items.ensures.keys
    (λ s. ap (λ (es : List (ℕ × ℕ)). lookup (is_at (nat_cmp s)) es) c.new-markers.ensures.empty))

pub loop-key-preserved : goal.loop-key-preserved
loop-key-preserved g c =
    let is : c.loop-key.key-iterator.inner ≡ c.in-Some.key.now ∷ c.next.new.self.inner = rest_more deref _ _ c.next.result c.in-Some.key c.in-Some.is c.next.ensures.steps in
    let fits : c.section_of-section.result < 2 ^ 64 = search rules in
    gathered_more (shown c.args.self.now).store.entries c.in-Some.key.now c.next.new.self.inner (get nat_cmp c.loop-key.markers) (get nat_cmp c.insert.new.self) c.section_of-section.result c.marker.result fits c.section_of-section.ensures c.marker.ensures
    c.in_ok-insert.ensures.updates.1 c.in_ok-insert.ensures.updates.2
    (subst (λ (l : List Key8). Gathered (shown c.args.self.now).store.entries l (get nat_cmp c.loop-key.markers)) is c.loop-key.invariant)

pub returns-clause-each : goal.returns-clause-each
returns-clause-each g c =
    let none : c.loop-key.key-iterator.inner ≡ [] = rest_all deref _ _ c.next.result c.in-None.is c.next.ensures.steps in
    gathered_all (shown c.args.self.now).store.entries c.loop-key.key-iterator.inner (get nat_cmp c.loop-key.markers) none c.loop-key.invariant
