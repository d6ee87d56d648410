use Rattle.std.specs.Prelude.{string_bytes}
use Rattle.std.proofs.Common.{◌%◌, ℕ, List, ◌∙◌, ap, arith}
use Rattle.sealed_pages.specs.declared.pages.Pages.{Pages}
use Rattle.section_manager.specs.Answers.{seen}
use Rattle.section_manager.specs.Sections.{section_key}
use Rattle.section_manager.specs.contracts.sealed.PageBlobSectionBuffer.TheImpl.{ghosts}
use Rattle.section_manager.specs.declared.sealed.AppendFactory.{AppendFactory}
use Rattle.segments.specs.FixedShown.{shown}
use Rattle.segments.specs.FixedLists.{Lists}
use Rattle.sealed_pages.specs.declared.page_blob.PageBlob.{PageBlob}
use Rattle.segments.proofs.opened.BoundLemmas.{whole_whole}
use Rattle.segments.proofs.opened.BoundsEnds.{cut_unnamed, end_cut, end_cause, unopened_bounds, unopened_cause, opened_bounds, opened_cause, if_ok_on, journal_there, cut_sealed, none_ends, still_moments, moments_tail, opened_tail, entries_tail}
use Rattle.segments.specs.lemmas.adding.Write.{are_pages}
use Rattle.segments.proofs.fixed.Journal.open_at_most.Goals as goal
use Rattle.blob_device.proofs.general.Results.{err_of}

pub end_within-requires-clause-whole : goal.end_within-requires-clause-whole
end_within-requires-clause-whole g c = ap (λ (n : ℕ). n % g.A.CodecFixed.SIZE) c.whole_bytes-end.ensures ∙ whole_whole g.A.CodecFixed.SIZE c.args.end g.met.A.CodecFixed.fixed.at_least

pub truncate_pending_tail-requires-clause-over : goal.truncate_pending_tail-requires-clause-over
truncate_pending_tail-requires-clause-over g c =
    journal_there g.S.Seal.seal_of c.args.cfg.now.pages.page_size g.A.CodecFixed.SIZE g.met.A.CodecFixed.fixed.at_least (ghosts g.row.S g.S.Seal g.S.Seal-dict) (are_pages g.row.S g.S.Seal g.S.Seal-dict) (λ f. record { page_size = f.pages.page_size; capacity = f.write_buffer; cache_pages = f.pages.cache_pages }) g.D.Device
    (shown c.in_ok-journal.journal) c.args.section c.args.end c.in_ok-end.end c.whole_bytes-end.result c.ranges.section.fits (string_bytes c.args.cfg.now.partition) c.in_ok-journal.ensures.partition c.args.dev.now c.init_bounded.new.dev c.end_within.new.dev
    c.in_ok-journal.ensures.over (record { held = c.in_ok-journal.ensures.held; unopened = c.in_ok-journal.ensures.unopened; bytes = c.in_ok-journal.ensures.bytes; moments = c.in_ok-journal.ensures.moments }) c.in_ok-journal.ensures.no_leftover (ap (λ (x : Pages). x.page_size) c.in_ok-journal.ensures.pages) c.in_ok-journal.ensures.unrecovered c.whole_bytes-end.ensures c.in_ok-end.ensures

pub truncate_pending_tail-requires-clause-sealed : goal.truncate_pending_tail-requires-clause-sealed
truncate_pending_tail-requires-clause-sealed g c t u held lt unproven =
    cut_sealed g.S.Seal.seal_of c.args.cfg.now.pages.page_size g.A.CodecFixed.SIZE g.met.A.CodecFixed.fixed.at_least (ghosts g.row.S g.S.Seal g.S.Seal-dict) (are_pages g.row.S g.S.Seal g.S.Seal-dict) (λ f. record { page_size = f.pages.page_size; capacity = f.write_buffer; cache_pages = f.pages.cache_pages }) g.D.Device
    (shown c.in_ok-journal.journal) c.args.section c.args.end c.in_ok-end.end c.whole_bytes-end.result c.ranges.section.fits (string_bytes c.args.cfg.now.partition) c.in_ok-journal.ensures.partition c.args.dev.now c.init_bounded.new.dev c.end_within.new.dev
    c.in_ok-journal.ensures.over (record { held = c.in_ok-journal.ensures.held; unopened = c.in_ok-journal.ensures.unopened; bytes = c.in_ok-journal.ensures.bytes; moments = c.in_ok-journal.ensures.moments }) c.in_ok-journal.ensures.no_leftover (ap (λ (x : Pages). x.page_size) c.in_ok-journal.ensures.pages) c.in_ok-journal.ensures.unrecovered c.whole_bytes-end.ensures c.in_ok-end.ensures t u held lt

pub returns-in_err-journal-clause-bounds : goal.returns-in_err-journal-clause-bounds
returns-in_err-journal-clause-bounds g c =
    let f = c.in_err-journal.ensures in
    unopened_bounds g.D.Device g.S.Seal.seal_of c.args.cfg.now.pages.page_size g.A.CodecFixed.SIZE (string_bytes c.args.cfg.now.partition) c.args.section c.args.end (seen shown c.from_residual.result) c.args.dev.now c.init_bounded.new.dev {U = Lists (AppendFactory g.row.S.Denot) (PageBlob g.row.S.Denot g.S.Seal)} c.in_err-journal.field-0.0 _ c.ranges.section.fits
    (ap (seen shown) (err_of c.from_residual.result c.in_err-journal.field-0.0 c.from_residual.ensures.1)) f.moments f.foreign_disk f.foreign_entries f.name_entries f.named f.entries f.faults f.cause

pub returns-in_err-journal-clause-cause : goal.returns-in_err-journal-clause-cause
returns-in_err-journal-clause-cause g c =
    unopened_cause g.D.Device g.S.Seal.seal_of c.args.cfg.now.pages.page_size g.A.CodecFixed.SIZE (string_bytes c.args.cfg.now.partition) c.args.section c.args.end (seen shown c.from_residual.result) c.args.dev.now c.init_bounded.new.dev {U = Lists (AppendFactory g.row.S.Denot) (PageBlob g.row.S.Denot g.S.Seal)} c.in_err-journal.field-0.0
    (ap (seen shown) (err_of c.from_residual.result c.in_err-journal.field-0.0 c.from_residual.ensures.1)) c.in_err-journal.ensures.cause

pub returns-in_err-end-clause-bounds : goal.returns-in_err-end-clause-bounds
returns-in_err-end-clause-bounds g c =
    let f = c.in_err-end.ensures in
    let is = ap (seen shown) (err_of c.from_residual-in_err-end.result c.in_err-end.field-0.0 c.from_residual-in_err-end.ensures.1) in
    let failed = end_cut {U = ℕ} (seen shown c.from_residual-in_err-end.result) c.in_err-end.field-0.0 (shown c.in_ok-journal.journal).sections.floor (g.D.Device.faults c.init_bounded.new.dev) (g.D.Device.faults c.end_within.new.dev) is f.cause in
    opened_bounds g.D.Device g.S.Seal.seal_of c.args.cfg.now.pages.page_size g.A.CodecFixed.SIZE (string_bytes c.args.cfg.now.partition) c.args.section c.args.end (seen shown c.from_residual-in_err-end.result) c.args.dev.now c.end_within.new.dev _
    (still_moments g.D.Device g.S.Seal.seal_of c.args.cfg.now.pages.page_size g.A.CodecFixed.SIZE (string_bytes c.args.cfg.now.partition) c.args.section c.args.end (seen shown c.from_residual-in_err-end.result) c.args.dev.now c.end_within.new.dev c.init_bounded.new.dev c.ranges.section.fits c.in_ok-journal.ensures.moments f.unchanged)
    (none_ends _ (seen shown c.from_residual-in_err-end.result) c.in_err-end.field-0.0 is)
    (λ t name bad. c.in_ok-journal.ensures.foreign t name bad)
    (λ n at. cut_unnamed (seen shown c.from_residual-in_err-end.result) (shown c.in_ok-journal.journal).sections.floor (g.D.Device.faults c.init_bounded.new.dev) (g.D.Device.faults c.end_within.new.dev) n failed at)
    (λ q never. f.entries.others q (λ at. never c.args.section (at ∙ ap (λ (x : List ℕ). section_key x c.args.section) c.in_ok-journal.ensures.partition)) ∙ c.in_ok-journal.ensures.entries q (λ s le. never s))
    (omega (arith, c.in_ok-journal.ensures.faults, f.faults))

pub returns-in_err-end-clause-cause : goal.returns-in_err-end-clause-cause
returns-in_err-end-clause-cause g c =
    let e = c.in_err-end.field-0.0 in
    end_cause g.D.Device g.S.Seal.seal_of c.args.cfg.now.pages.page_size g.A.CodecFixed.SIZE (string_bytes c.args.cfg.now.partition) c.args.section c.args.end (seen shown c.from_residual-in_err-end.result) c.args.dev.now c.end_within.new.dev {U = ℕ} e
    (ap (seen shown) (err_of c.from_residual-in_err-end.result e c.from_residual-in_err-end.ensures.1)) (shown c.in_ok-journal.journal).sections.floor (g.D.Device.faults c.init_bounded.new.dev) c.in_ok-journal.ensures.faults
    (λ pruned. omega (arith, c.in_err-end.ensures.guard.0 pruned, c.in_ok-journal.ensures.floor)) c.in_err-end.ensures.cause

pub returns-clause-bounds : goal.returns-clause-bounds
returns-clause-bounds g c =
    let f = c.truncate_pending_tail.ensures in
    opened_bounds g.D.Device g.S.Seal.seal_of c.args.cfg.now.pages.page_size g.A.CodecFixed.SIZE (string_bytes c.args.cfg.now.partition) c.args.section c.args.end (seen shown c.truncate_pending_tail.result) c.args.dev.now c.truncate_pending_tail.new.dev _
    (moments_tail g.S.Seal.seal_of c.args.cfg.now.pages.page_size g.A.CodecFixed.SIZE g.met.A.CodecFixed.fixed.at_least (ghosts g.row.S g.S.Seal g.S.Seal-dict) (are_pages g.row.S g.S.Seal g.S.Seal-dict) (λ f. record { page_size = f.pages.page_size; capacity = f.write_buffer; cache_pages = f.pages.cache_pages }) g.D.Device
    (shown c.in_ok-journal.journal) c.args.section c.args.end c.in_ok-end.end c.whole_bytes-end.result c.ranges.section.fits (string_bytes c.args.cfg.now.partition) c.in_ok-journal.ensures.partition c.args.dev.now c.init_bounded.new.dev c.end_within.new.dev
    c.in_ok-journal.ensures.over (record { held = c.in_ok-journal.ensures.held; unopened = c.in_ok-journal.ensures.unopened; bytes = c.in_ok-journal.ensures.bytes; moments = c.in_ok-journal.ensures.moments }) c.in_ok-journal.ensures.no_leftover (ap (λ (x : Pages). x.page_size) c.in_ok-journal.ensures.pages) c.in_ok-journal.ensures.unrecovered c.whole_bytes-end.ensures c.in_ok-end.ensures c.truncate_pending_tail.new.dev f.moments)
    (if_ok_on (seen shown c.truncate_pending_tail.result) (λ k cut. opened_tail g.S.Seal.seal_of c.args.cfg.now.pages.page_size g.A.CodecFixed.SIZE g.met.A.CodecFixed.fixed.at_least (ghosts g.row.S g.S.Seal g.S.Seal-dict) (are_pages g.row.S g.S.Seal g.S.Seal-dict) (λ f. record { page_size = f.pages.page_size; capacity = f.write_buffer; cache_pages = f.pages.cache_pages }) g.D.Device
    (shown c.in_ok-journal.journal) c.args.section c.args.end c.in_ok-end.end c.whole_bytes-end.result c.ranges.section.fits (string_bytes c.args.cfg.now.partition) c.in_ok-journal.ensures.partition c.args.dev.now c.init_bounded.new.dev c.end_within.new.dev
    c.in_ok-journal.ensures.over (record { held = c.in_ok-journal.ensures.held; unopened = c.in_ok-journal.ensures.unopened; bytes = c.in_ok-journal.ensures.bytes; moments = c.in_ok-journal.ensures.moments }) c.in_ok-journal.ensures.no_leftover (ap (λ (x : Pages). x.page_size) c.in_ok-journal.ensures.pages) c.in_ok-journal.ensures.unrecovered c.whole_bytes-end.ensures c.in_ok-end.ensures
    c.truncate_pending_tail.new.dev k cut f.moments c.args.cfg.now.pages c.args.cfg.now.write_buffer c.in_ok-journal.ensures.later c.in_ok-journal.ensures.floors c.in_ok-journal.ensures.idle c.in_ok-journal.ensures.pages c.in_ok-journal.ensures.write_buffer c.in_ok-journal.ensures.floor) f.ends)
    (λ t name bad. c.in_ok-journal.ensures.foreign t name bad)
    (λ n at. cut_unnamed (seen shown c.truncate_pending_tail.result) (shown c.in_ok-journal.journal).sections.floor (g.D.Device.faults c.end_within.new.dev) (g.D.Device.faults c.truncate_pending_tail.new.dev) n f.cause at)
    (entries_tail g.S.Seal.seal_of c.args.cfg.now.pages.page_size g.A.CodecFixed.SIZE g.met.A.CodecFixed.fixed.at_least (ghosts g.row.S g.S.Seal g.S.Seal-dict) (are_pages g.row.S g.S.Seal g.S.Seal-dict) (λ f. record { page_size = f.pages.page_size; capacity = f.write_buffer; cache_pages = f.pages.cache_pages }) g.D.Device
    (shown c.in_ok-journal.journal) c.args.section c.args.end c.in_ok-end.end c.whole_bytes-end.result c.ranges.section.fits (string_bytes c.args.cfg.now.partition) c.in_ok-journal.ensures.partition c.args.dev.now c.init_bounded.new.dev c.end_within.new.dev
    c.in_ok-journal.ensures.over (record { held = c.in_ok-journal.ensures.held; unopened = c.in_ok-journal.ensures.unopened; bytes = c.in_ok-journal.ensures.bytes; moments = c.in_ok-journal.ensures.moments }) c.in_ok-journal.ensures.no_leftover (ap (λ (x : Pages). x.page_size) c.in_ok-journal.ensures.pages) c.in_ok-journal.ensures.unrecovered c.whole_bytes-end.ensures c.in_ok-end.ensures c.truncate_pending_tail.new.dev f.entries c.in_ok-journal.ensures.entries)
    (omega (arith, c.in_ok-journal.ensures.faults, c.end_within.ensures.faults, f.faults))

pub returns-clause-cause : goal.returns-clause-cause
returns-clause-cause g c =
    opened_cause g.D.Device g.S.Seal.seal_of c.args.cfg.now.pages.page_size g.A.CodecFixed.SIZE (string_bytes c.args.cfg.now.partition) c.args.section c.args.end (seen shown c.truncate_pending_tail.result) c.args.dev.now c.truncate_pending_tail.new.dev (shown c.in_ok-journal.journal).sections.floor (g.D.Device.faults c.end_within.new.dev)
    (omega (arith, c.in_ok-journal.ensures.faults, c.end_within.ensures.faults)) (λ pruned. omega (arith, c.truncate_pending_tail.ensures.guard.0 pruned, c.in_ok-journal.ensures.floor)) c.truncate_pending_tail.ensures.damage c.truncate_pending_tail.ensures.cause
