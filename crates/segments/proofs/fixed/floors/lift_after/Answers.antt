-- The floors of the earlier sections are kept, and that of the section.
use Rattle.std.proofs.Common.{◌≡◌, rules}
use Rattle.std.specs.Prelude.{nat_le}
use Rattle.std.specs.List.{filter}
use Rattle.std.proofs.lemmas.Bool.{le-leb, lt-leb}
use Rattle.std.proofs.lemmas.Map.Made.{filter_same_pairs}
use Rattle.segments.proofs.opened.FloorLemmas.{floor_kept, floor_lifted}
use Rattle.segments.proofs.fixed.floors.lift_after.Goals as goal

pub returns-clause-later : goal.returns-clause-later
returns-clause-later c s more =
    let is : c.retain.new.self.entries ≡ filter (λ e. nat_le e.0 c.args.section) c.args.floors.now.entries = filter_same_pairs _ (λ e. nat_le e.0 c.args.section) _ (λ k v b w f' t. search rules) _ _ c.retain.ensures.filtered in
    floor_lifted (λ k. nat_le k c.args.section) c.args.floors.now c.retain.new.self is s (lt-leb s c.args.section more)

pub returns-clause-others : goal.returns-clause-others
returns-clause-others c s to =
    let is : c.retain.new.self.entries ≡ filter (λ e. nat_le e.0 c.args.section) c.args.floors.now.entries = filter_same_pairs _ (λ e. nat_le e.0 c.args.section) _ (λ k v b w f' t. search rules) _ _ c.retain.ensures.filtered in
    floor_kept (λ k. nat_le k c.args.section) c.args.floors.now c.retain.new.self is s (le-leb s c.args.section to)
