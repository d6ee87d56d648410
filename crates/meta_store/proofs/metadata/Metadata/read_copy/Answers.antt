use Rattle.std.proofs.Common.{Option, Ok, subst}
use Rattle.meta_store.specs.declared.copy.Contents.{Contents}
use Rattle.meta_store.specs.Copies.{ReadsText}
use Rattle.meta_store.specs.Format.{format_of}
use Rattle.meta_store.specs.lemmas.Readings.{reads_absent, reads_refused, reads_whole}
use Rattle.meta_store.proofs.metadata.Metadata.read_copy.Goals as goal

pub returns-in_default : goal.returns-in_default
returns-in_default g c = reads_absent (format_of g.K.Ord.cmp g.K.Key.key_bytes g.V.Codec g.S.Seal c.args.cfg) c.args.bytes.now c.in_default.ensures.none

pub returns-in-Some-2 : goal.returns-in-Some-2
returns-in-Some-2 g c =
    let copy = c.in-Some.copy in
    let text = subst (λ (o : Option (Contents g.row.K.Denot g.row.V.Denot)). ReadsText (format_of g.K.Ord.cmp g.K.Key.key_bytes g.V.Codec g.S.Seal c.args.cfg) copy.form copy.body.now (Ok o)) c.in-Some-2.is c.in_ok-contents.ensures in
    reads_whole (format_of g.K.Ord.cmp g.K.Key.key_bytes g.V.Codec g.S.Seal c.args.cfg) c.args.bytes.now copy.version copy.form copy.body.now c.in-Some.ensures.found c.in-Some-2.contents text.0 text.1

pub returns-in-None : goal.returns-in-None
returns-in-None g c =
    let copy = c.in-Some.copy in
    reads_refused (format_of g.K.Ord.cmp g.K.Key.key_bytes g.V.Codec g.S.Seal c.args.cfg) c.args.bytes.now copy.version copy.form copy.body.now c.in-Some.ensures.found
    (subst (λ (o : Option (Contents g.row.K.Denot g.row.V.Denot)). ReadsText (format_of g.K.Ord.cmp g.K.Key.key_bytes g.V.Codec g.S.Seal c.args.cfg) copy.form copy.body.now (Ok o)) c.in-None.is c.in_ok-contents.ensures)
