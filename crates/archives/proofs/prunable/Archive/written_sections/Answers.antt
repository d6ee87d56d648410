use Rattle.std.proofs.Common.{◌≡◌, List, ℕ, Ok, sym, subst}
use Rattle.std.specs.Prelude.{Contains}
use Rattle.std.specs.Cmp.{nat_cmp_total}
use Rattle.std.proofs.lemmas.Iterator.{items_from_collect}
use Rattle.std.proofs.lemmas.Iterator.Consumers.{YieldsList-from_copied, YieldsList-from_rest}
use Rattle.std.proofs.lemmas.Map.Lookups.{exact_unsigned}
use Rattle.std.proofs.lemmas.Map.Views.{btree_set_contains_iff}
use Rattle.archives.proofs.prunable.Archive.written_sections.Goals as goal

pub returns-clause-each : goal.returns-clause-each
returns-clause-each g c s =
    let keys = c.args.self.now.written.keys in
    let all : c.in_ok-collect.field-0.items ≡ keys = items_from_collect {E = ℕ} (Ok c.in_ok-collect.field-0) c.in_ok-collect.ensures.ran (YieldsList-from_copied (YieldsList-from_rest keys cc)) in
    let has = btree_set_contains_iff nat_cmp_total exact_unsigned c.args.self.now.written s in
    (λ among. has.1 (subst (λ (xs : List ℕ). Contains xs s) all among), λ is. subst (λ (xs : List ℕ). Contains xs s) (sym all) (has.0 is))
