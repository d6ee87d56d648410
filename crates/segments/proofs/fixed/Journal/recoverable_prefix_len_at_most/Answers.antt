use Rattle.std.specs.BTreeMap.{get}
use Rattle.std.specs.Option.{option_copied}
use Rattle.std.specs.Ordering.{nat_cmp}
use Rattle.std.proofs.Common.{◌≡◌, ◌∙◌, None, sym, ap}
use Rattle.section_manager.specs.managing.Managed.{shown}
use Rattle.segments.specs.FixedShown as lists
use Rattle.segments.proofs.opened.BoundLemmas.{measures_none, measures_some, measures_err, measures_pruned, recovers_of}
use Rattle.segments.specs.lemmas.held.Passing.{no_error}
use Rattle.segments.proofs.fixed.Journal.recoverable_prefix_len_at_most.Goals as goal
use Rattle.blob_device.proofs.general.Results.{err_of}

pub returns-in_default : goal.returns-in_default
returns-in_default g c =
    let none : get nat_cmp c.args.self.now.manager.held.buffers c.args.section ≡ None = sym c.in_ok-held.ensures.held ∙ ap option_copied c.in_default.is in
    recovers_of _ _ g.S.Seal.seal_of g.A.CodecFixed.SIZE g.D.Device (lists.shown c.args.self.now) c.args.section c.args.end c.args.dev.now c.args.dev.now _
    (measures_none g.S.Seal.seal_of g.A.CodecFixed.SIZE g.D.Device (shown c.args.self.now.manager) c.args.section c.args.end c.whole_bytes.result c.args.dev.now g.met.A.CodecFixed.fixed.at_least
    (λ lt. no_error _ _ (c.in_ok-held.ensures.guard.1 lt)) none c.whole_bytes.ensures)

pub returns-in_err-kept : goal.returns-in_err-kept
returns-in_err-kept g c =
    recovers_of _ _ g.S.Seal.seal_of g.A.CodecFixed.SIZE g.D.Device (lists.shown c.args.self.now) c.args.section c.args.end c.args.dev.now c.prefix_at_most.new.dev _
    (measures_err g.S.Seal.seal_of g.A.CodecFixed.SIZE g.D.Device (shown c.args.self.now.manager) c.args.section c.args.end c.in-Some.held.now (sym c.in_ok-held.ensures.held ∙ ap option_copied c.in-Some.is) (c.requires.over.opened_list.key c.args.section c.in-Some.held.now (sym c.in_ok-held.ensures.held ∙ ap option_copied c.in-Some.is))
    (λ lt. no_error _ _ (c.in_ok-held.ensures.guard.1 lt)) c.args.dev.now c.prefix_at_most.new.dev c.prefix_at_most.ensures.unchanged c.prefix_at_most.ensures.reads c.prefix_at_most.ensures.faults
    c.from_residual-in_err-kept.result c.in_err-kept.field-0.0 (err_of c.from_residual-in_err-kept.result _ c.from_residual-in_err-kept.ensures.1) c.in_err-kept.ensures.cause)

pub returns : goal.returns
returns g c =
    recovers_of _ _ g.S.Seal.seal_of g.A.CodecFixed.SIZE g.D.Device (lists.shown c.args.self.now) c.args.section c.args.end c.args.dev.now c.prefix_at_most.new.dev _
    (measures_some g.S.Seal.seal_of g.A.CodecFixed.SIZE g.D.Device (shown c.args.self.now.manager) c.args.section c.args.end c.in-Some.held.now (sym c.in_ok-held.ensures.held ∙ ap option_copied c.in-Some.is) (c.requires.over.opened_list.key c.args.section c.in-Some.held.now (sym c.in_ok-held.ensures.held ∙ ap option_copied c.in-Some.is))
    (λ lt. no_error _ _ (c.in_ok-held.ensures.guard.1 lt)) c.args.dev.now c.prefix_at_most.new.dev c.prefix_at_most.ensures.unchanged c.prefix_at_most.ensures.reads c.prefix_at_most.ensures.faults
    c.whole_bytes-2.result c.in_ok-kept.kept g.met.A.CodecFixed.fixed.at_least c.whole_bytes-2.ensures c.in_ok-kept.ensures.within c.in_ok-kept.ensures.prefix)

pub returns-in_err-held : goal.returns-in_err-held
returns-in_err-held g c =
    recovers_of _ _ g.S.Seal.seal_of g.A.CodecFixed.SIZE g.D.Device (lists.shown c.args.self.now) c.args.section c.args.end c.args.dev.now c.args.dev.now _
    (measures_pruned g.S.Seal.seal_of g.A.CodecFixed.SIZE g.D.Device (shown c.args.self.now.manager) c.args.section c.args.end c.from_residual.result c.in_err-held.field-0.0 c.args.dev.now
    (err_of c.from_residual.result c.in_err-held.field-0.0 c.from_residual.ensures.1) c.in_err-held.ensures.guard c.in_err-held.ensures.cause)
