use Rattle.std.proofs.Common.{◌≡◌, List, ℕ, Ok, sym, subst}
use Rattle.std.specs.Prelude.{Contains}
use Rattle.std.specs.BTreeMap.{keys}
use Rattle.std.specs.Cmp.{nat_cmp_total}
use Rattle.std.proofs.lemmas.Iterator.{items_from_collect}
use Rattle.std.proofs.lemmas.Iterator.Consumers.{YieldsList-from_copied, YieldsList-from_rest}
use Rattle.std.proofs.lemmas.Map.Lookups.{exact_unsigned}
use Rattle.std.proofs.lemmas.Map.Views.{btree_map_contains_key_iff}
use Rattle.cache_store.proofs.HoldingLemmas.{some_from, none_from}
use Rattle.cache_store.proofs.cache.Cache.written_sections.Goals as goal

pub returns-clause-each : goal.returns-clause-each
returns-clause-each g c s =
    let m = c.args.self.now.written in
    let all : c.in_ok-collect.field-0.items ≡ keys m = items_from_collect {E = ℕ} (Ok c.in_ok-collect.field-0) c.in_ok-collect.ensures.ran (YieldsList-from_copied (YieldsList-from_rest (keys m) cc)) in
    let has = btree_map_contains_key_iff nat_cmp_total exact_unsigned m s in
    (λ among. none_from _ (has.1 (subst (λ (xs : List ℕ). Contains xs s) all among)), λ is. subst (λ (xs : List ℕ). Contains xs s) (sym all) (has.0 (some_from _ is)))
