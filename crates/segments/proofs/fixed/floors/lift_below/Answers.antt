-- The floors of the later sections are kept.
use Rattle.std.proofs.Common.{◌≡◌, rules}
use Rattle.std.specs.Prelude.{nat_le}
use Rattle.std.specs.List.{filter}
use Rattle.std.proofs.lemmas.Bool.{le-leb, lt-leb}
use Rattle.std.proofs.lemmas.Map.Made.{filter_same_pairs}
use Rattle.segments.proofs.opened.FloorLemmas.{floor_kept, floor_lifted}
use Rattle.segments.proofs.fixed.floors.lift_below.Goals as goal

pub returns-clause-below : goal.returns-clause-below
returns-clause-below c s less =
    let is : c.retain.new.self.entries ≡ filter (λ e. nat_le c.args.min e.0) c.args.floors.now.entries = filter_same_pairs _ (λ e. nat_le c.args.min e.0) _ (λ k v b w f' t. search rules) _ _ c.retain.ensures.filtered in
    floor_lifted (nat_le c.args.min) c.args.floors.now c.retain.new.self is s (lt-leb c.args.min s less)

pub returns-clause-others : goal.returns-clause-others
returns-clause-others c s from =
    let is : c.retain.new.self.entries ≡ filter (λ e. nat_le c.args.min e.0) c.args.floors.now.entries = filter_same_pairs _ (λ e. nat_le c.args.min e.0) _ (λ k v b w f' t. search rules) _ _ c.retain.ensures.filtered in
    floor_kept (nat_le c.args.min) c.args.floors.now c.retain.new.self is s (le-leb c.args.min s from)
