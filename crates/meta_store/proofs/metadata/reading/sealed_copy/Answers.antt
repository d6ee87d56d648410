use Rattle.std.proofs.Common.{◌∙◌, sym, arith}
use Rattle.meta_store.specs.lemmas.Texts.{absent_cut, absent_formless, absent_unsealed, sealed_found}
use Rattle.meta_store.proofs.metadata.reading.sealed_copy.Goals as goal

pub returns-in_default-clause-none : goal.returns-in_default-clause-none
returns-in_default-clause-none g c = absent_formless g.S.Seal.seal_of c.args.bytes.now c.in_default.ensures.none

pub returns-then-len-bytes-clause-none : goal.returns-then-len-bytes-clause-none
returns-then-len-bytes-clause-none g c =
    absent_cut g.S.Seal.seal_of c.args.bytes.now c.in-Some.form c.in-Some.ensures.found c.head_len-start.result c.u64_at-len.result (omega (arith, c.head_len-start.ensures)) c.u64_at-len.type_inv c.u64_at-len.ensures
    (omega (arith, c.if-len-bytes.true, c.head_len-start.ensures, c.in-Some.ensures.found.room))

pub returns-then-seal-u32_at-clause-none : goal.returns-then-seal-u32_at-clause-none
returns-then-seal-u32_at-clause-none g c =
    absent_unsealed g.S.Seal.seal_of c.args.bytes.now c.in-Some.form c.in-Some.ensures.found c.head_len-start.result c.u64_at-len.result (omega (arith, c.head_len-start.ensures)) c.u64_at-len.type_inv c.u64_at-len.ensures
    c.u32_at.result c.u32_at.type_inv g.met.S.Seal.fits c.u32_at.ensures (λ same. c.if-seal-u32_at.true (c.seal.ensures ∙ same))

pub returns-clause-found : goal.returns-clause-found
returns-clause-found g c =
    sealed_found g.S.Seal.seal_of c.args.bytes.now c.in-Some.form c.in-Some.ensures.found c.head_len-start.result c.u64_at-len.result (omega (arith, c.head_len-start.ensures)) c.u64_at-len.type_inv c.u64_at-len.ensures
    c.u64_at.result c.u64_at.ensures (omega (arith, c.if-len-bytes.false, c.head_len-start.ensures, c.in-Some.ensures.found.room))
    c.u32_at.result c.u64_at.type_inv c.u32_at.ensures (sym c.seal.ensures ∙ c.if-seal-u32_at.false)
