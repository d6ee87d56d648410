use Rattle.std.proofs.Common.{◌^◌, Ok, Err}
use Rattle.value_codec.proofs.VarintPrefix.{prefix_exact}
use Rattle.value_codec.proofs.VarintLemmas.{read_gives}
use Rattle.value_codec.proofs.varint.read_varint32.Goals as goal

pub returns-in-Ok-clause-exact : goal.returns-in-Ok-clause-exact
returns-in-Ok-clause-exact c =
    prefix_exact (2 ^ 32) 5 c.args.bytes.now (Ok (c.in-Ok.value, c.in-Ok.len)) c.in-Ok.ensures.found c.in-Ok.ensures.cut tt

pub returns-in-Ok-clause-gives : goal.returns-in-Ok-clause-gives
returns-in-Ok-clause-gives c = read_gives (2 ^ 32) 5 c.args.bytes.now (Ok (c.in-Ok.value, c.in-Ok.len)) c.in-Ok.ensures.found tt

pub returns-in-Err-clause-exact : goal.returns-in-Err-clause-exact
returns-in-Err-clause-exact c = prefix_exact (2 ^ 32) 5 c.args.bytes.now (Err c.in-Err.e) tt c.in-Err.ensures.cut c.in-Err.ensures.refused

pub returns-in-Err-clause-gives : goal.returns-in-Err-clause-gives
returns-in-Err-clause-gives c = read_gives (2 ^ 32) 5 c.args.bytes.now (Err c.in-Err.e) tt c.in-Err.ensures.refused
