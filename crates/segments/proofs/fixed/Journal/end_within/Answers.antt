use Rattle.section_manager.specs.managing.Managed.{shown}
use Rattle.segments.proofs.opened.BoundLemmas.{finds_short, finds_long, finds_pruned}
use Rattle.segments.specs.lemmas.held.Passing.{no_error}
use Rattle.segments.proofs.fixed.Journal.end_within.Goals as goal
use Rattle.blob_device.proofs.general.Results.{err_of}

pub returns-in_err-size : goal.returns-in_err-size
returns-in_err-size g c = finds_pruned g.S.Seal.seal_of g.A.CodecFixed.SIZE g.D.Device (shown c.args.self.now.manager) c.args.section c.args.end c.from_residual.result c.in_err-size.field-0.0 c.args.dev.now
    (err_of c.from_residual.result c.in_err-size.field-0.0 c.from_residual.ensures.1) c.in_err-size.ensures.guard c.in_err-size.ensures.cause

pub returns-then-branch-end : goal.returns-then-branch-end
returns-then-branch-end g c = finds_short g.S.Seal.seal_of g.A.CodecFixed.SIZE g.D.Device (shown c.args.self.now.manager) c.args.section c.args.end c.in_ok-size.field-0 c.args.dev.now
    (λ lt. no_error _ _ (c.in_ok-size.ensures.guard.1 lt)) c.requires.whole c.in_ok-size.ensures.size c.if-branch-end.true

pub returns : goal.returns
returns g c = finds_long g.S.Seal.seal_of g.A.CodecFixed.SIZE g.D.Device (shown c.args.self.now.manager) c.args.section c.args.end c.in_ok-size.field-0 c.recoverable_prefix_len_at_most.result c.args.dev.now c.recoverable_prefix_len_at_most.new.dev
    c.in_ok-size.ensures.size c.if-branch-end.false c.recoverable_prefix_len_at_most.ensures.learned
