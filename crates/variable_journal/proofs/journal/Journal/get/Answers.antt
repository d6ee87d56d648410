use Rattle.std.proofs.Common.{Err, inl, inr, refl}
use Rattle.section_manager.specs.lemmas.Seen.{err_same}
use Rattle.segments.specs.lemmas.adding.Adding.{error_is}
use Rattle.segments.specs.lemmas.adding.Write.{are_pages}
use Rattle.segments.specs.lemmas.held.Passing.{guard_on}
use Rattle.variable_journal.specs.Shown.{config_of, shown}
use Rattle.variable_journal.proofs.GettingLemmas.{gets_of, section_refused}
use Rattle.variable_journal.proofs.journal.Journal.get.Goals as goal
use Rattle.blob_device.proofs.general.Results.{err_of}

pub returns-in_err-buffer : goal.returns-in_err-buffer
returns-in_err-buffer g c =
    let e = c.in_err-buffer.field-0.0 in
    let o = c.in_err-buffer.ensures in
    rw (err_of c.from_residual.result e c.from_residual.ensures.1)
    (section_refused g.S.Seal.seal_of g.V.Codec.spelling g.V.Codec.accepted g.V.Codec.refusal (config_of c.args.self.now) g.D.Device c.args.section c.args.offset (shown c.args.self.now) c.args.dev.now e
    (guard_on (Err e) e _ _ refl o.guard) (λ is. o.absent.0 (err_same is), λ gone. err_same (o.absent.1 gone))
    (elim o.cause [ inl pruned ↦ inl (error_is e _ pruned) | inr none ↦ inr (error_is e _ none) ]))

pub returns : goal.returns
returns g c =
    gets_of g.S.Seal.seal_of g.D.Device c.args.section (shown c.args.self.now) c.args.dev.now _ _ (are_pages g.row.S g.S.Seal g.S.Seal-dict) (λ u. refl) c.requires c.in_ok-buffer.buffer.now c.in_ok-buffer.ensures.held
    g.V.Codec.spelling g.V.Codec.accepted g.V.Codec.refusal (config_of c.args.self.now) c.args.offset c.read_frame.new.dev c.read_frame.ensures.idle c.read_frame.result c.read_frame.ensures.reads
