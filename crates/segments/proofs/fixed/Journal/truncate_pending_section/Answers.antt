use Rattle.section_manager.specs.contracts.sealed.PageBlobSectionBuffer.TheImpl.{ghosts}
use Rattle.section_manager.specs.lemmas.Seen.{err_seen}
use Rattle.segments.specs.FixedShown.{shown}
use Rattle.segments.specs.lemmas.adding.Write.{are_pages}
use Rattle.segments.specs.lemmas.cutting.Cut.{safe_cut}
use Rattle.segments.proofs.cutting.CuttingEnds.{cut_failed, cut_made}
use Rattle.segments.proofs.fixed.Journal.truncate_pending_section.Goals as goal

pub truncate_pending_section-requires-clause-can : goal.truncate_pending_section-requires-clause-can
truncate_pending_section-requires-clause-can g c t u held lt = safe_cut g.S.Seal.seal_of g.A.CodecFixed.SIZE g.D.Device.Tells _ (are_pages g.row.S g.S.Seal g.S.Seal-dict) _ (shown c.args.self) (g.D.Device.opened c.args.dev.now)
    (g.D.Device.time c.args.dev.now) (g.D.Device.time c.args.dev.now) c.requires.over c.args.section c.args.size t u held (c.requires.sealed t u held lt)

pub returns-in_err-this : goal.returns-in_err-this
returns-in_err-this g c =
    cut_failed (ghosts g.row.S g.S.Seal g.S.Seal-dict) _ g.S.Seal.seal_of g.A.CodecFixed.SIZE g.D.Device (shown c.args.self) c.args.section c.args.size c.args.dev.now c.truncate_pending_section.new.dev
    (are_pages g.row.S g.S.Seal g.S.Seal-dict) c.requires.over _ _ (err_seen shown c.from_residual.result _ c.from_residual.ensures.1) c.in_err-this.ensures

pub returns : goal.returns
returns g c =
    cut_made (ghosts g.row.S g.S.Seal g.S.Seal-dict) _ g.S.Seal.seal_of g.A.CodecFixed.SIZE g.D.Device (shown c.args.self) c.args.section c.args.size c.args.dev.now c.truncate_pending_section.new.dev
    (are_pages g.row.S g.S.Seal g.S.Seal-dict) c.requires.over _ c.ranges.section.fits c.requires.whole c.in_ok-this.ensures c.forget_emptied.ensures.others c.forget_emptied.ensures.emptied c.lower_to.ensures.here c.lower_to.ensures.others
