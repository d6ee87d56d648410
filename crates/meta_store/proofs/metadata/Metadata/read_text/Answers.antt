use Rattle.std.proofs.Common.{◌-◌, List, Option, IfSome, length, take, drop, subst, arith}
use Rattle.meta_store.specs.Copies.{IsEntries}
use Rattle.meta_store.specs.Format.{format_of}
use Rattle.meta_store.specs.lemmas.Readings.{text_formless, text_given, text_refused, text_short}
use Rattle.meta_store.proofs.metadata.Metadata.read_text.Goals as goal

pub returns-in_default : goal.returns-in_default
returns-in_default g c = text_formless (format_of g.K.Ord.cmp g.K.Key.key_bytes g.V.Codec g.S.Seal c.args.cfg) c.args.form c.args.body.now c.in_default.ensures.none

pub returns-then-body-lt8 : goal.returns-then-body-lt8
returns-then-body-lt8 g c = text_short (format_of g.K.Ord.cmp g.K.Key.key_bytes g.V.Codec g.S.Seal c.args.cfg) c.args.form c.args.body.now (omega (arith, c.if-body-lt8.true))

pub returns-in-Some-2 : goal.returns-in-Some-2
returns-in-Some-2 g c =
    text_given (format_of g.K.Ord.cmp g.K.Key.key_bytes g.V.Codec g.S.Seal c.args.cfg) c.args.form c.in-Some.floor c.u64_at.result c.args.body.now c.in-Some.ensures.found c.u64_at.ensures c.u64_at.type_inv c.in-Some-2.entries
    (subst (λ (o : Option (List (g.row.K.Denot × g.row.V.Denot))). IfSome o (λ entries. IsEntries (format_of g.K.Ord.cmp g.K.Key.key_bytes g.V.Codec g.S.Seal c.args.cfg) c.u64_at.result (take (length c.args.body.now - 8) (drop 8 c.args.body.now)) entries)) c.in-Some-2.is c.in_ok-entries.ensures.read)
    (λ others other. cc (c.in-Some-2.is, c.in_ok-entries.ensures.only others other))

pub returns-in-None : goal.returns-in-None
returns-in-None g c =
    text_refused (format_of g.K.Ord.cmp g.K.Key.key_bytes g.V.Codec g.S.Seal c.args.cfg) c.args.form c.in-Some.floor c.u64_at.result c.args.body.now c.in-Some.ensures.found c.u64_at.ensures c.u64_at.type_inv
    (λ entries all. cc (c.in-None.is, c.in_ok-entries.ensures.only entries all))
