use Rattle.std.proofs.Common.{Err, inl, inr, refl, arith}
use Rattle.section_manager.specs.lemmas.Seen.{err_same}
use Rattle.segments.specs.lemmas.adding.Adding.{error_is}
use Rattle.segments.specs.lemmas.adding.Write.{are_pages}
use Rattle.segments.specs.lemmas.held.Passing.{guard_on}
use Rattle.variable_journal.specs.Shown.{config_of, shown}
use Rattle.variable_journal.proofs.ManyLemmas.{going_on, going_start, many_done, many_failed, many_memory, many_refused}
use Rattle.variable_journal.proofs.journal.Journal.get_many.Goals as goal
use Rattle.blob_device.proofs.general.Results.{err_of}

pub returns-in_err-buffer : goal.returns-in_err-buffer
returns-in_err-buffer g c =
    let e = c.in_err-buffer.field-0.0 in
    let o = c.in_err-buffer.ensures in
    rw (err_of c.from_residual.result e c.from_residual.ensures.1)
    (many_refused g.S.Seal.seal_of g.V.Codec.spelling g.V.Codec.accepted g.V.Codec.refusal (config_of c.args.self.now) g.D.Device c.args.section c.args.offsets.now (shown c.args.self.now) c.args.dev.now e
    (guard_on (Err e) e _ _ refl o.guard) (λ is. o.absent.0 (err_same is), λ gone. err_same (o.absent.1 gone))
    (elim o.cause [ inl pruned ↦ inl (error_is e _ pruned) | inr none ↦ inr (error_is e _ none) ]))

pub returns-in_err-item : goal.returns-in_err-item
returns-in_err-item g c =
    rw (err_of c.from_residual-in_err-item.result c.in_err-item.field-0.0 c.from_residual-in_err-item.ensures.1)
    (many_failed g.S.Seal.seal_of g.V.Codec.spelling g.V.Codec.accepted g.V.Codec.refusal (config_of c.args.self.now) g.D.Device c.args.section c.args.offsets.now (shown c.args.self.now) c.args.dev.now
    _ _ (are_pages g.row.S g.S.Seal g.S.Seal-dict) (λ u. refl) c.requires c.in_ok-buffer.buffer.now c.in_ok-buffer.ensures.held
    c.loop-offset.offset-index c.loop-offset-test.true c.loop-offset.items.items c.loop-offset.dev c.loop-offset.invariant c.read_frame.new.dev c.in_err-item.ensures.idle _ c.in_err-item.ensures.reads)

pub returns-in_err-push : goal.returns-in_err-push
returns-in_err-push g c =
    rw (err_of c.from_residual-in_err-push.result _ c.from_residual-in_err-push.ensures.1)
    (many_memory g.S.Seal.seal_of g.V.Codec.spelling g.V.Codec.accepted g.V.Codec.refusal (config_of c.args.self.now) g.D.Device c.args.section c.args.offsets.now (shown c.args.self.now) c.args.dev.now
    _ _ (are_pages g.row.S g.S.Seal g.S.Seal-dict) (λ u. refl) c.requires c.in_ok-buffer.buffer.now c.in_ok-buffer.ensures.held
    c.loop-offset.offset-index c.loop-offset-test.true c.loop-offset.items.items c.loop-offset.dev c.loop-offset.invariant c.read_frame.new.dev c.in_ok-item.ensures.idle _ c.in_ok-item.ensures.reads)

pub loop-offset-init : goal.loop-offset-init
loop-offset-init g c =
    rw c.new-items.ensures.items
    (going_start g.S.Seal.seal_of g.V.Codec.spelling g.V.Codec.accepted g.V.Codec.refusal (config_of c.args.self.now) g.D.Device c.args.section c.args.offsets.now (shown c.args.self.now) c.args.dev.now
    _ _ (are_pages g.row.S g.S.Seal g.S.Seal-dict) (λ u. refl) c.requires c.in_ok-buffer.buffer.now c.in_ok-buffer.ensures.held)

pub loop-offset-preserved : goal.loop-offset-preserved
loop-offset-preserved g c =
    rw c.in_ok-push.ensures.items
    (going_on g.S.Seal.seal_of g.V.Codec.spelling g.V.Codec.accepted g.V.Codec.refusal (config_of c.args.self.now) g.D.Device c.args.section c.args.offsets.now (shown c.args.self.now) c.args.dev.now
    _ _ (are_pages g.row.S g.S.Seal g.S.Seal-dict) (λ u. refl) c.requires c.in_ok-buffer.buffer.now c.in_ok-buffer.ensures.held
    c.loop-offset.offset-index c.loop-offset-test.true c.loop-offset.items.items c.loop-offset.dev c.loop-offset.invariant c.read_frame.new.dev c.in_ok-item.ensures.idle c.in_ok-item.item c.in_ok-item.ensures.reads)

pub returns : goal.returns
returns g c =
    rw c.from_vec.ensures
    (many_done g.S.Seal.seal_of g.V.Codec.spelling g.V.Codec.accepted g.V.Codec.refusal (config_of c.args.self.now) g.D.Device c.args.section c.args.offsets.now (shown c.args.self.now) c.args.dev.now
    _ _ (are_pages g.row.S g.S.Seal g.S.Seal-dict) (λ u. refl) c.requires c.in_ok-buffer.buffer.now c.in_ok-buffer.ensures.held
    c.loop-offset.offset-index (omega (arith, c.loop-offset-test.false, c.loop-offset.auto.offset-index-end)) c.loop-offset.items.items c.loop-offset.dev c.loop-offset.invariant)
