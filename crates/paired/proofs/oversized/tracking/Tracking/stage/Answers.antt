use Rattle.std.proofs.Common.{◌≡◌, rules}
use Rattle.std.specs.Prelude.{◌==◌}
use Rattle.std.specs.List.{filter, list_any}
use Rattle.std.specs.BTreeMap.{get}
use Rattle.std.specs.Ordering.{nat_cmp}
use Rattle.std.proofs.lemmas.Map.Made.{filter_same_pairs}
use Rattle.meta_store.specs.Store as store
use Rattle.paired.specs.sighted.Shown.{shown}
use Rattle.paired.proofs.tracking.Lemmas.{stays, leaves, staged_trails, staged_synced}
use Rattle.paired.proofs.oversized.tracking.Tracking.stage.Goals as goal

pub returns-clause-trails : goal.returns-clause-trails
returns-clause-trails g c =
    let is : c.retain.new.self.entries ≡ filter (λ e. list_any (λ y. y == e.0) c.args.active.now) c.args.self.now.trailing.entries = filter_same_pairs _ (λ e. list_any (λ y. y == e.0) c.args.active.now) _ (λ k v b w f' t. search rules) _ _ c.retain.ensures.filtered in
    staged_trails c.args.active.now (shown c.args.self.now) (record { store = store.shown c.put_markers.new.metadata; trailing = get nat_cmp c.retain.new.self })
    c.in_ok-put_markers.ensures.moved c.in_ok-put_markers.ensures.active (stays c.args.active.now c.args.self.now.trailing.entries c.retain.new.self.entries is) (leaves c.args.active.now c.args.self.now.trailing.entries c.retain.new.self.entries is) c.requires

pub returns-clause-synced : goal.returns-clause-synced
returns-clause-synced g c =
    let is : c.retain.new.self.entries ≡ filter (λ e. list_any (λ y. y == e.0) c.args.active.now) c.args.self.now.trailing.entries = filter_same_pairs _ (λ e. list_any (λ y. y == e.0) c.args.active.now) _ (λ k v b w f' t. search rules) _ _ c.retain.ensures.filtered in
    staged_synced c.args.active.now (shown c.args.self.now) (record { store = store.shown c.put_markers.new.metadata; trailing = get nat_cmp c.retain.new.self })
    c.in_ok-put_markers.ensures.moved c.in_ok-put_markers.ensures.active (stays c.args.active.now c.args.self.now.trailing.entries c.retain.new.self.entries is) (leaves c.args.active.now c.args.self.now.trailing.entries c.retain.new.self.entries is)

pub returns-clause-moved : goal.returns-clause-moved
returns-clause-moved g c s other =
    let is : c.retain.new.self.entries ≡ filter (λ e. list_any (λ y. y == e.0) c.args.active.now) c.args.self.now.trailing.entries = filter_same_pairs _ (λ e. list_any (λ y. y == e.0) c.args.active.now) _ (λ k v b w f' t. search rules) _ _ c.retain.ensures.filtered in
    (leaves c.args.active.now c.args.self.now.trailing.entries c.retain.new.self.entries is s other, c.in_ok-put_markers.ensures.moved s other)

pub returns-clause-active : goal.returns-clause-active
returns-clause-active g c s has =
    let is : c.retain.new.self.entries ≡ filter (λ e. list_any (λ y. y == e.0) c.args.active.now) c.args.self.now.trailing.entries = filter_same_pairs _ (λ e. list_any (λ y. y == e.0) c.args.active.now) _ (λ k v b w f' t. search rules) _ _ c.retain.ensures.filtered in
    (stays c.args.active.now c.args.self.now.trailing.entries c.retain.new.self.entries is s has, c.in_ok-put_markers.ensures.active s has)
