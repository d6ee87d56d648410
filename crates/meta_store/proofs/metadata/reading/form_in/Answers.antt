use Rattle.std.proofs.Common.{arith}
use Rattle.meta_store.specs.lemmas.Forms.{named_floored, named_plain, none_short}
use Rattle.meta_store.proofs.metadata.reading.form_in.Goals as goal

pub returns-then-bytes-clause-none : goal.returns-then-bytes-clause-none
returns-then-bytes-clause-none c = none_short c.args.bytes.now (omega (arith, c.if-bytes.true))

pub returns-then-bytes-ne-FLOORED-clause-found : goal.returns-then-bytes-ne-FLOORED-clause-found
returns-then-bytes-ne-FLOORED-clause-found c = named_plain c.args.bytes.now (omega (arith, c.if-bytes.false)) c.if-bytes-ne-FLOORED.true

pub returns-clause-found : goal.returns-clause-found
returns-clause-found c = named_floored c.args.bytes.now (omega (arith, c.if-bytes.false)) c.u64_at.result c.if-bytes-ne-FLOORED.false (omega (arith, c.if-bytes-2.false)) c.u64_at.type_inv c.u64_at.ensures
