use Rattle.std.specs.Prelude.{string_bytes}
use Rattle.std.proofs.Common.{◌/◌, ap, subst}
use Rattle.sealed_pages.specs.Buffer.{size_of}
use Rattle.sealed_pages.specs.Shown as page_blob
use Rattle.sealed_pages.specs.declared.pages.Pages.{Pages}
use Rattle.section_manager.specs.Answers.{seen}
use Rattle.section_manager.specs.contracts.sealed.PageBlobSectionBuffer.TheImpl.{ghosts}
use Rattle.segments.specs.FixedDraining.{Drains}
use Rattle.segments.specs.FixedShown.{shown}
use Rattle.segments.specs.FixedWalking.{walk_of}
use Rattle.segments.proofs.opened.DrainedEnds.{none_past, ok_unfailed, failed_bounds, failed_cause, drained_bounds, drained_cause}
use Rattle.segments.specs.lemmas.adding.Write.{are_pages}
use Rattle.segments.proofs.fixed.Journal.init_at_most.Goals as goal
use Rattle.blob_device.proofs.general.Results.{err_of}

pub returns-in_err-journal-clause-bounds : goal.returns-in_err-journal-clause-bounds
returns-in_err-journal-clause-bounds g c =
    failed_bounds g.D.Device g.S.Seal.seal_of c.args.cfg.now.pages.page_size g.A.CodecFixed.SIZE (string_bytes c.args.cfg.now.partition) c.args.section c.args.end c.args.dev.now c.open_at_most.new.dev (seen shown c.from_residual.result) c.in_err-journal.field-0.0 _ _
    (ap (seen shown) (err_of c.from_residual.result c.in_err-journal.field-0.0 c.from_residual.ensures.1)) c.in_err-journal.ensures.bounds

pub returns-in_err-journal-clause-cause : goal.returns-in_err-journal-clause-cause
returns-in_err-journal-clause-cause g c =
    failed_cause g.D.Device g.S.Seal.seal_of c.args.cfg.now.pages.page_size g.A.CodecFixed.SIZE (string_bytes c.args.cfg.now.partition) c.args.section c.args.end c.args.dev.now c.open_at_most.new.dev g.A.Codec.spelling g.A.Codec.accepted g.A.Codec.refusal (seen shown c.from_residual.result) c.in_err-journal.field-0.0
    (ap (seen shown) (err_of c.from_residual.result c.in_err-journal.field-0.0 c.from_residual.ensures.1)) c.in_err-journal.ensures.cause

pub returns-in_err-replay-clause-bounds : goal.returns-in_err-replay-clause-bounds
returns-in_err-replay-clause-bounds g c = absurd (none_past ((shown c.in_ok-journal.journal).sections.held 0) (λ u. size_of (page_blob.shown u) / g.A.CodecFixed.SIZE) (c.in_err-replay.ensures.past.0 c.in_err-replay.ensures.cause))

pub returns-in_err-replay-clause-cause : goal.returns-in_err-replay-clause-cause
returns-in_err-replay-clause-cause g c = absurd (none_past ((shown c.in_ok-journal.journal).sections.held 0) (λ u. size_of (page_blob.shown u) / g.A.CodecFixed.SIZE) (c.in_err-replay.ensures.past.0 c.in_err-replay.ensures.cause))

pub returns-clause-bounds : goal.returns-clause-bounds
returns-clause-bounds g c =
    let b = c.in_ok-journal.ensures.bounds in
    drained_bounds g.S.Seal.seal_of c.args.cfg.now.pages.page_size g.A.CodecFixed.SIZE g.met.A.CodecFixed.fixed.at_least (ghosts g.row.S g.S.Seal g.S.Seal-dict) (are_pages g.row.S g.S.Seal g.S.Seal-dict) (λ f. record { page_size = f.pages.page_size; capacity = f.write_buffer; cache_pages = f.pages.cache_pages })
    g.A.Codec.spelling g.A.Codec.accepted g.A.Codec.refusal g.D.Device c.args.section c.args.end c.ranges.section.fits c.args.cfg.now.pages c.args.cfg.now.write_buffer (shown c.in_ok-journal.journal) (walk_of c.in_ok-replay.replay)
    c.in_ok-replay.ensures.begins (string_bytes c.args.cfg.now.partition) b.ends.whole.partition_is c.args.dev.now c.open_at_most.new.dev c.drain.new.dev b.ends b.moments (ap (λ (x : Pages). x.page_size) b.ends.whole.pages_are) (seen shown c.drain.result)
    (subst (λ (x : g.row.D.Denot). Drains (ghosts g.row.S g.S.Seal g.S.Seal-dict) (λ f. record { page_size = f.pages.page_size; capacity = f.write_buffer; cache_pages = f.pages.cache_pages }) g.S.Seal.seal_of g.A.CodecFixed.SIZE g.A.Codec.spelling g.A.Codec.accepted g.A.Codec.refusal (walk_of c.in_ok-replay.replay) g.D.Device
    (seen shown c.drain.result) x c.drain.new.dev) c.in_ok-replay.ensures.unchanged c.drain.ensures)
    (λ t name bad. ok_unfailed _ _ _ (b.names.foreign t name bad)) b.entries b.faults

pub returns-clause-cause : goal.returns-clause-cause
returns-clause-cause g c =
    let b = c.in_ok-journal.ensures.bounds in
    drained_cause g.S.Seal.seal_of c.args.cfg.now.pages.page_size g.A.CodecFixed.SIZE g.met.A.CodecFixed.fixed.at_least (ghosts g.row.S g.S.Seal g.S.Seal-dict) (are_pages g.row.S g.S.Seal g.S.Seal-dict) (λ f. record { page_size = f.pages.page_size; capacity = f.write_buffer; cache_pages = f.pages.cache_pages })
    g.A.Codec.spelling g.A.Codec.accepted g.A.Codec.refusal g.D.Device c.args.section c.args.end c.ranges.section.fits c.args.cfg.now.pages c.args.cfg.now.write_buffer (shown c.in_ok-journal.journal) (walk_of c.in_ok-replay.replay)
    c.in_ok-replay.ensures.begins (string_bytes c.args.cfg.now.partition) b.ends.whole.partition_is c.args.dev.now c.open_at_most.new.dev c.drain.new.dev b.ends b.moments (ap (λ (x : Pages). x.page_size) b.ends.whole.pages_are) (seen shown c.drain.result)
    (subst (λ (x : g.row.D.Denot). Drains (ghosts g.row.S g.S.Seal g.S.Seal-dict) (λ f. record { page_size = f.pages.page_size; capacity = f.write_buffer; cache_pages = f.pages.cache_pages }) g.S.Seal.seal_of g.A.CodecFixed.SIZE g.A.Codec.spelling g.A.Codec.accepted g.A.Codec.refusal (walk_of c.in_ok-replay.replay) g.D.Device
    (seen shown c.drain.result) x c.drain.new.dev) c.in_ok-replay.ensures.unchanged c.drain.ensures) b.faults
