use Rattle.std.proofs.Common.{refl, arith}
use Rattle.paired_tests.proofs.NameLemmas.{apart_by}
use Rattle.paired_tests.proofs.pairs.begun.Goals as goal

pub init_with_metadata-requires-clause-apart : goal.init_with_metadata-requires-clause-apart
init_with_metadata-requires-clause-apart c = record {
  values = apart_by 105 118 c.in_ok-settings.ensures.index c.in_ok-settings.ensures.values (λ is. absurd (omega (arith, is)));
  metadata = apart_by 105 109 c.in_ok-settings.ensures.index refl (λ is. absurd (omega (arith, is)));
  both = apart_by 118 109 c.in_ok-settings.ensures.values refl (λ is. absurd (omega (arith, is)));
}
