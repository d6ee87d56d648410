use Rattle.std.proofs.Common.{arith}
use Rattle.value_codec.specs.lemmas.Varint.{varint_apart, varint_at_most, varint_only, varint_spells}
use Rattle.value_codec.specs.lemmas.VarintPrefix.{prefix_gives}
use Rattle.value_codec.proofs.VarintLemmas.{varint_shortest}
use Rattle.value_codec.proofs.varint.varint_laws.Goals as goal

pub returns-clause-spells : goal.returns-clause-spells
returns-clause-spells c = varint_spells

pub returns-clause-only : goal.returns-clause-only
returns-clause-only c = varint_only

pub returns-clause-shortest : goal.returns-clause-shortest
returns-clause-shortest c = varint_shortest

pub returns-clause-apart : goal.returns-clause-apart
returns-clause-apart c = varint_apart

pub returns-clause-at_most_5 : goal.returns-clause-at_most_5
returns-clause-at_most_5 c = λ n below. varint_at_most 4 n (omega arith)

pub returns-clause-at_most_10 : goal.returns-clause-at_most_10
returns-clause-at_most_10 c = λ n below. varint_at_most 9 n (omega arith)

pub returns-clause-prefix : goal.returns-clause-prefix
returns-clause-prefix c = prefix_gives
