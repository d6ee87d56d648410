use Rattle.std.proofs.Common.{◌+◌, ◌-◌, ◌^◌, arith}
use Rattle.ordinal_store.proofs.MarkLemmas.{marked_inside, past_of}
use Rattle.ordinal_store.proofs.checking.is_marked_past.Goals as goal

pub returns-then-len-room : goal.returns-then-len-room
returns-then-len-room c = (λ is. absurd (cc is), λ past. absurd (omega (arith, marked_inside c.args.bits.now past.0 past.1, past.2, c.if-len-room.true, c.len.ensures)))

pub returns : goal.returns
returns c = past_of c.args.first c.args.bits.now (2 ^ 64 - 1 - c.args.first + 1) c.first_marked.result c.is_some.result c.is_some.ensures (omega (arith, c.ranges.first.fits)) c.first_marked.ensures
