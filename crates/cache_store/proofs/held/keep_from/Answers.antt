use Rattle.std.proofs.Common.{rules, ◌≡◌}
use Rattle.std.specs.Prelude.{nat_le}
use Rattle.std.specs.List.{filter}
use Rattle.std.proofs.lemmas.Map.Made.{filter_same_pairs}
use Rattle.cache_store.proofs.HoldingLemmas.{found_in}
use Rattle.cache_store.proofs.held.keep_from.Goals as goal

pub returns : goal.returns
returns c =
    let is : c.retain.new.self.entries ≡ filter (λ e. nat_le c.args.bound e.0) c.args.map.now.entries = filter_same_pairs _ (λ e. nat_le c.args.bound e.0) _ (λ k v b w f' t. search rules) _ _ c.retain.ensures.filtered in
    found_in (nat_le c.args.bound) _ _ is
