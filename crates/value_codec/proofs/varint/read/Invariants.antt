use Rattle.value_codec.proofs.VarintLemmas.{IsReadTo}
use Rattle.value_codec.proofs.varint.read.Given as goal

abbrev pub invariant-loop-at : goal.invariant-loop-at
invariant-loop-at l = IsReadTo l.bits l.bytes l.at l.value l.room
