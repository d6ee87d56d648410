use Rattle.std.proofs.Common.{◌^◌}
use Rattle.value_codec.proofs.VarintPrefix.{prefix_exact}
use Rattle.value_codec.proofs.VarintLemmas.{read_gives}
use Rattle.value_codec.proofs.varint.read_varint64.Goals as goal

pub returns-clause-gives : goal.returns-clause-gives
returns-clause-gives c = read_gives (2 ^ 64) 10 c.args.bytes.now c.read.result c.read.ensures.found c.read.ensures.refused

pub returns-clause-exact : goal.returns-clause-exact
returns-clause-exact c =
    prefix_exact (2 ^ 64) 10 c.args.bytes.now c.read.result c.read.ensures.found c.read.ensures.cut c.read.ensures.refused
