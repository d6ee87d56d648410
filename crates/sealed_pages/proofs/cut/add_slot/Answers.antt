use Rattle.sealed_pages.proofs.cutting.Truncating.{no_value}
use Rattle.sealed_pages.proofs.cutting.Settled.{not_changed, not_settled, is_settled}
use Rattle.std.proofs.Common.{not, ap, length, arith, rules}
use Rattle.sealed_pages.proofs.cutting.Calls.{short_one, short_two, settled_after, not_other}
use Rattle.sealed_pages.specs.lemmas.Entries.{open_some, open_same, open_written, no_reads_part, no_reads_updated, no_reads_open}
use Rattle.sealed_pages.proofs.slots.PageCalls.{passes_as}
use Rattle.sealed_pages.specs.lemmas.Prefixes.{prefix_start}
use Rattle.sealed_pages.specs.lemmas.slots.SlotSteps.{length-slot_bytes}
use Rattle.sealed_pages.specs.lemmas.slots.Steps.{slot_high, slot_low}
use Rattle.sealed_pages.proofs.Prefixes.{prefix_write}
use Rattle.sealed_pages.specs.View.{page_at}
use Rattle.sealed_pages.specs.SlotNames.{is_b, opened_key}
use Rattle.sealed_pages.proofs.cut.add_slot.Goals as goal
use Rattle.blob_device.proofs.general.Results.{err_of}

pub write_at-requires-clause-open : goal.write_at-requires-clause-open
write_at-requires-clause-open g c =
    (open_some (g.D.Device.opened c.args.dev.now) (opened_key c.args.blob.now) c.args.blob.now.end c.requires.«open»)

pub write_at-requires-clause-fits : goal.write_at-requires-clause-fits
write_at-requires-clause-fits g c =
    omega (arith, c.slot_place-place.ensures, ap length c.slot_of-sealed.ensures, length-slot_bytes g.S.Seal.seal_of c.args.blob.now.page_size c.args.bytes.now, slot_high c.args.blob.now.page_size c.args.page (is_b c.args.slot), c.requires.room)

pub sync-requires : goal.sync-requires
sync-requires g c =
    no_reads_open _ _ _ (no_reads_updated (opened_key c.args.blob.now) _ _ _ c.in_ok-write_at.ensures.opened (open_some (g.D.Device.opened c.args.dev.now) (opened_key c.args.blob.now) c.args.blob.now.end c.requires.«open»))

pub returns-in_err-write_at : goal.returns-in_err-write_at
returns-in_err-write_at g c =
    let r = not_changed g.D.Device (opened_key c.args.blob.now) (page_at c.args.blob.now.page_size c.args.page) c.args.dev.now c.write_at.new.self _ c.from_residual.result _ (err_of c.from_residual.result _ c.from_residual.ensures.1) c.in_err-write_at.ensures.counts (no_reads_part (opened_key c.args.blob.now) _ _ _ c.in_err-write_at.ensures.opened_err (open_some (g.D.Device.opened c.args.dev.now) (opened_key c.args.blob.now) c.args.blob.now.end c.requires.«open»)) (λ t. prefix_write (page_at c.args.blob.now.page_size c.args.page) (opened_key c.args.blob.now) (g.D.Device.time c.args.dev.now) (g.D.Device.time c.args.dev.now) (g.D.Device.time c.write_at.new.self) _ _ _ (omega (arith, c.slot_place-place.ensures, slot_low c.args.blob.now.page_size c.args.page (is_b c.args.slot))) (prefix_start (page_at c.args.blob.now.page_size c.args.page) (opened_key c.args.blob.now) (g.D.Device.time c.args.dev.now)) (c.in_err-write_at.ensures.told t)) c.in_err-write_at.ensures.told in
    record {
      crashes = λ t rest last own covered page_is.
          short_one g.S.Seal.seal_of c.args.blob.now.page_size (omega (arith, c.requires.some, c.requires.size)) (opened_key c.args.blob.now) (g.D.Device.time c.args.dev.now) rest c.args.page (not (is_b c.args.slot)) (is_b c.args.slot) c.args.bytes.now g.met.S.Seal.fits (search rules) c.requires.some own (not_other (is_b c.args.slot)) covered last page_is (passes_as c.slot_place-place.ensures c.slot_of-sealed.ensures (c.write_at.ensures.told t));
      settles = λ t. no_value _ _ c.from_residual.ensures.0;
      alone = r.alone;
      prefix = r.prefix;
      length = no_value _ _ c.from_residual.ensures.0;
      entries = r.entries;
      faults = r.faults;
      cause = r.cause;
    }

pub returns-in_err-sync : goal.returns-in_err-sync
returns-in_err-sync g c =
    let r = not_settled g.D.Device (opened_key c.args.blob.now) (page_at c.args.blob.now.page_size c.args.page) c.args.dev.now c.write_at.new.self _ _ c.in_ok-write_at.ensures.counts.later (no_reads_updated (opened_key c.args.blob.now) _ _ _ c.in_ok-write_at.ensures.opened (open_some (g.D.Device.opened c.args.dev.now) (opened_key c.args.blob.now) c.args.blob.now.end c.requires.«open»)) (λ t. prefix_write (page_at c.args.blob.now.page_size c.args.page) (opened_key c.args.blob.now) (g.D.Device.time c.args.dev.now) (g.D.Device.time c.args.dev.now) (g.D.Device.time c.write_at.new.self) _ _ _ (omega (arith, c.slot_place-place.ensures, slot_low c.args.blob.now.page_size c.args.page (is_b c.args.slot))) (prefix_start (page_at c.args.blob.now.page_size c.args.page) (opened_key c.args.blob.now) (g.D.Device.time c.args.dev.now)) (c.in_ok-write_at.ensures.told t)) c.in_ok-write_at.ensures.told c.sync.new.self c.in_err-sync.ensures.opened c.from_residual-in_err-sync.result _ (err_of c.from_residual-in_err-sync.result _ c.from_residual-in_err-sync.ensures.1) c.in_err-sync.ensures.counts c.in_err-sync.ensures.told in
    record {
      crashes = λ t rest last own covered page_is.
          short_two g.S.Seal.seal_of c.args.blob.now.page_size (omega (arith, c.requires.some, c.requires.size)) (opened_key c.args.blob.now) (g.D.Device.time c.args.dev.now) rest c.args.page (not (is_b c.args.slot)) (is_b c.args.slot) c.args.bytes.now g.met.S.Seal.fits (search rules) c.requires.some own (not_other (is_b c.args.slot)) covered last page_is (passes_as c.slot_place-place.ensures c.slot_of-sealed.ensures (c.in_ok-write_at.ensures.told t)) (c.sync.ensures.told t);
      settles = λ t. no_value _ _ c.from_residual-in_err-sync.ensures.0;
      alone = r.alone;
      prefix = r.prefix;
      length = no_value _ _ c.from_residual-in_err-sync.ensures.0;
      entries = r.entries;
      faults = r.faults;
      cause = r.cause;
    }

pub returns : goal.returns
returns g c =
    let r = is_settled g.D.Device (opened_key c.args.blob.now) (page_at c.args.blob.now.page_size c.args.page) c.args.dev.now c.write_at.new.self _ _ c.in_ok-write_at.ensures.counts.later (no_reads_updated (opened_key c.args.blob.now) _ _ _ c.in_ok-write_at.ensures.opened (open_some (g.D.Device.opened c.args.dev.now) (opened_key c.args.blob.now) c.args.blob.now.end c.requires.«open»)) (λ t. prefix_write (page_at c.args.blob.now.page_size c.args.page) (opened_key c.args.blob.now) (g.D.Device.time c.args.dev.now) (g.D.Device.time c.args.dev.now) (g.D.Device.time c.write_at.new.self) _ _ _ (omega (arith, c.slot_place-place.ensures, slot_low c.args.blob.now.page_size c.args.page (is_b c.args.slot))) (prefix_start (page_at c.args.blob.now.page_size c.args.page) (opened_key c.args.blob.now) (g.D.Device.time c.args.dev.now)) (c.in_ok-write_at.ensures.told t)) c.in_ok-write_at.ensures.told c.sync.new.self c.in_ok-sync.ensures.opened c.max.result c.in_ok-sync.ensures.counts.later c.in_ok-sync.ensures.told in
    record {
      crashes = λ t rest last own covered page_is.
          short_two g.S.Seal.seal_of c.args.blob.now.page_size (omega (arith, c.requires.some, c.requires.size)) (opened_key c.args.blob.now) (g.D.Device.time c.args.dev.now) rest c.args.page (not (is_b c.args.slot)) (is_b c.args.slot) c.args.bytes.now g.met.S.Seal.fits (search rules) c.requires.some own (not_other (is_b c.args.slot)) covered last page_is (passes_as c.slot_place-place.ensures c.slot_of-sealed.ensures (c.in_ok-write_at.ensures.told t)) (c.in_ok-sync.ensures.told t);
      settles = λ t. settled_after (opened_key c.args.blob.now) _ _ _ (g.D.Device.time c.args.dev.now) _ _ (passes_as c.slot_place-place.ensures c.slot_of-sealed.ensures (c.in_ok-write_at.ensures.told t)) (c.in_ok-sync.ensures.told t);
      alone = r.alone;
      prefix = r.prefix;
      length =
          open_same (opened_key c.args.blob.now) _ _ c.max.result c.in_ok-sync.ensures.opened
          (open_written (opened_key c.args.blob.now) (g.D.Device.opened c.args.dev.now) _ _ c.args.blob.now.end c.max.result c.in_ok-write_at.ensures.opened (omega (arith, c.max.ensures, ap length c.slot_of-sealed.ensures, length-slot_bytes g.S.Seal.seal_of c.args.blob.now.page_size c.args.bytes.now, c.slot_place-place.ensures)) c.requires.«open»);
      entries = r.entries;
      faults = r.faults;
      cause = r.cause;
    }
