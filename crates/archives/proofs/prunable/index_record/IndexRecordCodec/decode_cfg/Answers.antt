use Rattle.std.proofs.Common.{◌∙◌, ap, sym, arith, length, Ok, inl}
use Rattle.archives.specs.IndexRecordLaws.{length-index_record, one_index_record}
use Rattle.archives.proofs.prunable.index_record.IndexRecordCodec.decode_cfg.Goals as goal

pub returns-then-bytes-SIZE-clause-gives : goal.returns-then-bytes-SIZE-clause-gives
returns-then-bytes-SIZE-clause-gives g c = λ v fits same.
    let sized = g.met.K.Key.sized v.key in
    let long = length-index_record g.K.Key.SIZE v.index (g.K.Key.key_bytes v.key) v.offset v.size sized in
    let whole = ap length same in
    absurd (omega (arith, long, whole, c.if-bytes-SIZE.true, c.SIZE.ensures))

pub returns-in-Some-clause-gives : goal.returns-in-Some-clause-gives
returns-in-Some-clause-gives g c = λ v fits same.
    inl (ap Ok (one_index_record g.K.Key.key_bytes g.K.Key.SIZE g.met.K.Key.sized g.met.K.Key.one_key c.in-Some.record v c.in-Some.ensures.in_range fits (c.in-Some.ensures.spelled ∙ sym same)))

pub returns-in-None-clause-gives : goal.returns-in-None-clause-gives
returns-in-None-clause-gives g c = λ v fits same.
    let sized = g.met.K.Key.sized v.key in
    let long = length-index_record g.K.Key.SIZE v.index (g.K.Key.key_bytes v.key) v.offset v.size sized in
    absurd (c.in-None.ensures (sym (ap length same) ∙ long))
