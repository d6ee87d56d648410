use Rattle.std.proofs.Common.{◌+◌, ◌-◌, ap, refl, length, take, drop, max, ℕ, arith, length-drop, rules}
use Rattle.sealed_pages.specs.lemmas.Entries.{open_some, no_reads_updated, no_reads_part, no_reads_open, open_written}
use Rattle.sealed_pages.proofs.slots.PageCalls.{passes_as, rest_whole}
use Rattle.sealed_pages.proofs.PageWritten.{data_failed, slot_failed, page_written}
use Rattle.sealed_pages.specs.lemmas.slots.SlotSteps.{length-slot_bytes}
use Rattle.sealed_pages.specs.lemmas.slots.Steps.{slot_high, slot_low}
use Rattle.sealed_pages.specs.SlotNames.{is_b, opened_key}
use Rattle.sealed_pages.proofs.page.write_page.Goals as goal
use Rattle.blob_device.proofs.general.Results.{err_of}

pub write_at-requires-clause-fits : goal.write_at-requires-clause-fits
write_at-requires-clause-fits g c = omega (arith, c.page_place-start.ensures, c.requires.room, c.requires.size, c.requires.new, ap length (rest_whole c.args.tip.now.from c.args.tip.now.bytes.now), length-drop c.args.tip.now.from c.args.tip.now.bytes.now)

pub write_at-requires-2-clause-fits : goal.write_at-requires-2-clause-fits
write_at-requires-2-clause-fits g c = omega (arith, c.slot_place-place.ensures, ap length c.slot_of-sealed.ensures, length-slot_bytes g.S.Seal.seal_of c.args.blob.now.page_size c.args.tip.now.bytes.now, slot_high c.args.blob.now.page_size c.args.tip.now.first (is_b c.args.slot), c.requires.room)

pub write_at-requires-clause-open : goal.write_at-requires-clause-open
write_at-requires-clause-open g c = open_some (g.D.Device.opened c.args.dev.now) (opened_key c.args.blob.now) c.args.blob.now.end c.requires.«open»

pub write_at-requires-2-clause-open : goal.write_at-requires-2-clause-open
write_at-requires-2-clause-open g c = no_reads_open _ _ _ (no_reads_updated (opened_key c.args.blob.now) _ _ _ c.in_ok-write_at.ensures.opened (open_some (g.D.Device.opened c.args.dev.now) (opened_key c.args.blob.now) c.args.blob.now.end c.requires.«open»))

pub returns-in_err-write_at : goal.returns-in_err-write_at
returns-in_err-write_at g c =
    data_failed g.D.Device g.S.Seal.seal_of c.args.blob.now.page_size (opened_key c.args.blob.now) c.args.tip.now.first c.args.tip.now.from c.args.tip.now.bytes.now (is_b c.args.slot) g.met.S.Seal.fits (search rules) c.requires.new c.requires.size c.requires.room c.args.dev.now c.write_at.new.self _ _ (err_of _ _ c.from_residual.ensures.1) c.in_err-write_at.ensures.counts
    (no_reads_part _ _ _ _ c.in_err-write_at.ensures.opened_err (open_some (g.D.Device.opened c.args.dev.now) (opened_key c.args.blob.now) c.args.blob.now.end c.requires.«open»))
    (λ t. passes_as (ap (λ (n : ℕ). n + c.args.tip.now.from) c.page_place-start.ensures) (rest_whole c.args.tip.now.from c.args.tip.now.bytes.now) (c.in_err-write_at.ensures.told t))

pub returns-in_err-write_at-2 : goal.returns-in_err-write_at-2
returns-in_err-write_at-2 g c =
    slot_failed g.D.Device g.S.Seal.seal_of c.args.blob.now.page_size (opened_key c.args.blob.now) c.args.tip.now.first c.args.tip.now.from c.args.tip.now.bytes.now (is_b c.args.slot) g.met.S.Seal.fits (search rules) c.requires.new c.requires.size c.requires.room c.args.dev.now c.write_at.new.self
    _ (λ t. passes_as (ap (λ (n : ℕ). n + c.args.tip.now.from) c.page_place-start.ensures) (rest_whole c.args.tip.now.from c.args.tip.now.bytes.now) (c.in_ok-write_at.ensures.told t)) c.in_ok-write_at.ensures.counts.later (no_reads_updated (opened_key c.args.blob.now) _ _ _ c.in_ok-write_at.ensures.opened (open_some (g.D.Device.opened c.args.dev.now) (opened_key c.args.blob.now) c.args.blob.now.end c.requires.«open»)) c.write_at-2.new.self
    _ _ (err_of _ _ c.from_residual-in_err-write_at-2.ensures.1) c.in_err-write_at-2.ensures.counts (λ is. no_reads_part _ _ _ _ c.in_err-write_at-2.ensures.opened_err is)
    (λ t. passes_as c.slot_place-place.ensures c.slot_of-sealed.ensures (c.in_err-write_at-2.ensures.told t))

pub returns : goal.returns
returns g c =
    page_written g.D.Device g.S.Seal.seal_of c.args.blob.now.page_size (opened_key c.args.blob.now) c.args.tip.now.first c.args.tip.now.from c.args.tip.now.bytes.now (is_b c.args.slot) g.met.S.Seal.fits (search rules) c.requires.new c.requires.size c.requires.room c.args.dev.now c.write_at.new.self
    _ (λ t. passes_as (ap (λ (n : ℕ). n + c.args.tip.now.from) c.page_place-start.ensures) (rest_whole c.args.tip.now.from c.args.tip.now.bytes.now) (c.in_ok-write_at.ensures.told t)) c.in_ok-write_at.ensures.counts.later (no_reads_updated (opened_key c.args.blob.now) _ _ _ c.in_ok-write_at.ensures.opened (open_some (g.D.Device.opened c.args.dev.now) (opened_key c.args.blob.now) c.args.blob.now.end c.requires.«open»)) c.write_at-2.new.self
    _ c.max.result
    (let first = open_written (opened_key c.args.blob.now) _ _ _ c.args.blob.now.end (max c.args.blob.now.end (c.page_place-start.result + c.args.tip.now.from + length (take (length c.args.tip.now.bytes.now - c.args.tip.now.from) (drop c.args.tip.now.from c.args.tip.now.bytes.now)))) c.in_ok-write_at.ensures.opened refl c.requires.«open» in
    open_written (opened_key c.args.blob.now) _ _ _ _ c.max.result c.in_ok-write_at-2.ensures.opened
    (omega (arith, c.max.ensures, c.slot_place-place.ensures, c.page_place-start.ensures, ap length c.slot_of-sealed.ensures, length-slot_bytes g.S.Seal.seal_of c.args.blob.now.page_size c.args.tip.now.bytes.now, slot_low c.args.blob.now.page_size c.args.tip.now.first (is_b c.args.slot), c.requires.size, c.requires.new, ap length (rest_whole c.args.tip.now.from c.args.tip.now.bytes.now), length-drop c.args.tip.now.from c.args.tip.now.bytes.now)) first)
    c.in_ok-write_at-2.ensures.counts.later (λ is. no_reads_updated _ _ _ _ c.in_ok-write_at-2.ensures.opened is)
    (λ t. passes_as c.slot_place-place.ensures c.slot_of-sealed.ensures (c.in_ok-write_at-2.ensures.told t))
