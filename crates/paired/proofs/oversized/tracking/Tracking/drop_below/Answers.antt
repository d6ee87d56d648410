use Rattle.std.proofs.Common.{◌≡◌, refl, rules}
use Rattle.std.specs.Prelude.{nat_le}
use Rattle.std.specs.List.{filter}
use Rattle.std.specs.BTreeMap.{get}
use Rattle.std.specs.Ordering.{nat_cmp}
use Rattle.std.proofs.lemmas.Map.Made.{filter_same_pairs}
use Rattle.meta_store.specs.Store as store
use Rattle.paired.specs.sighted.Shown.{shown}
use Rattle.paired.proofs.tracking.Lemmas.{marker_stays, marker_leaves, marked_left, all_left, store_same, store_left, trailing_stays, trailing_leaves, dropped_trails}
use Rattle.paired.proofs.oversized.tracking.Tracking.drop_below.Goals as goal

pub returns-clause-trails : goal.returns-clause-trails
returns-clause-trails g c =
    let is : c.retain-2.new.self.entries ≡ filter (λ e. nat_le c.args.min e.0) c.args.self.now.trailing.entries = filter_same_pairs _ (λ e. nat_le c.args.min e.0) _ (λ k v b w f' t. search rules) _ _ c.retain-2.ensures.filtered in
    dropped_trails c.args.min (shown c.args.self.now) (record { store = store.shown c.retain.new.self; trailing = get nat_cmp c.retain-2.new.self }) c.args.self.now.trailing.entries c.retain-2.new.self.entries (λ s. refl) (λ s. refl) is
    (marker_stays c.args.min _ _ (λ key value b said. search rules) c.args.self.now.metadata.entries.entries c.retain.new.self.entries.entries c.retain.ensures.kept) c.requires

pub returns-clause-below : goal.returns-clause-below
returns-clause-below g c s high =
    let is : c.retain-2.new.self.entries ≡ filter (λ e. nat_le c.args.min e.0) c.args.self.now.trailing.entries = filter_same_pairs _ (λ e. nat_le c.args.min e.0) _ (λ k v b w f' t. search rules) _ _ c.retain-2.ensures.filtered in (
      trailing_leaves c.args.min (shown c.args.self.now) (record { store = store.shown c.retain.new.self; trailing = get nat_cmp c.retain-2.new.self }) c.args.self.now.trailing.entries c.retain-2.new.self.entries (λ s. refl) (λ s. refl) is s high,
      marker_leaves c.args.min _ _ (λ key value b said. search rules) c.args.self.now.metadata.entries.entries c.retain.new.self.entries.entries c.retain.ensures.kept s high,
    )

pub returns-clause-above : goal.returns-clause-above
returns-clause-above g c s low =
    let is : c.retain-2.new.self.entries ≡ filter (λ e. nat_le c.args.min e.0) c.args.self.now.trailing.entries = filter_same_pairs _ (λ e. nat_le c.args.min e.0) _ (λ k v b w f' t. search rules) _ _ c.retain-2.ensures.filtered in (
      trailing_stays c.args.min (shown c.args.self.now) (record { store = store.shown c.retain.new.self; trailing = get nat_cmp c.retain-2.new.self }) c.args.self.now.trailing.entries c.retain-2.new.self.entries (λ s. refl) (λ s. refl) is s low,
      marker_stays c.args.min _ _ (λ key value b said. search rules) c.args.self.now.metadata.entries.entries c.retain.new.self.entries.entries c.retain.ensures.kept s low,
    )

pub returns-clause-still : goal.returns-clause-still
returns-clause-still g c none =
    store_same (store.shown c.args.self.now.metadata) (store.shown c.retain.new.self) c.retain.ensures.same c.retain.ensures.staged
    (all_left c.args.min _ _ (λ key value b said. search rules) c.args.self.now.metadata.entries.entries c.retain.new.self.entries.entries c.retain.ensures.kept none)

pub returns-clause-marked : goal.returns-clause-marked
returns-clause-marked g c = marked_left c.args.min _ _ (λ key value b said. search rules) c.args.self.now.metadata.entries.entries c.retain.new.self.entries.entries c.retain.ensures.kept

pub returns-clause-dropped : goal.returns-clause-dropped
returns-clause-dropped g c still =
    store_left _ _ (store.shown c.args.self.now.metadata) (store.shown c.retain.new.self) c.retain.ensures.kept c.retain.ensures.same c.retain.ensures.staged c.retain.ensures.unchanged still
