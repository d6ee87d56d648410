use Rattle.std.proofs.Common.{ℕ, List, Option, sym, subst}
use Rattle.std.specs.List.{Contains}
use Rattle.std.proofs.lemmas.Cmp.{nat_cmp_total}
use Rattle.std.proofs.lemmas.Map.Lookups.{exact_unsigned}
use Rattle.std.proofs.lemmas.Map.Views.{btree_map_get_iff}
use Rattle.segments.proofs.fixed.preflighting.Preflight.boundaries.Goals as goal

pub returns-clause-each : goal.returns-clause-each
returns-clause-each g c s o =
    let both = btree_map_get_iff nat_cmp_total exact_unsigned c.args.self.now.boundaries c.iter.ensures.ordered s o in (
      λ listed. both.1 (subst (λ (l : List (ℕ × Option g.row.A.Denot)). Contains l (s, o)) c.iter.ensures.rest listed),
      λ is. subst (λ (l : List (ℕ × Option g.row.A.Denot)). Contains l (s, o)) (sym c.iter.ensures.rest) (both.0 is),
    )
