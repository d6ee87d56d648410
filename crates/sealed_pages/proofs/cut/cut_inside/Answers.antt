use Rattle.std.proofs.Common.{arith, rules}
use Rattle.sealed_pages.proofs.cutting.Inside.{slot_as, cut_failed, add_failed, cleared}
use Rattle.sealed_pages.specs.lemmas.slots.Slot.{page_next}
use Rattle.sealed_pages.specs.SlotNames.{is_b, opened_key}
use Rattle.sealed_pages.proofs.cut.cut_inside.Goals as goal
use Rattle.blob_device.proofs.general.Results.{err_of}

pub cut_later-requires-clause-room : goal.cut_later-requires-clause-room
cut_later-requires-clause-room g c = omega (arith, page_next c.args.blob.now.page_size c.args.page, c.requires.room)

pub returns-in_err-cut : goal.returns-in_err-cut
returns-in_err-cut g c =
    cut_failed g.D.Device g.S.Seal.seal_of c.args.blob.now.page_size (opened_key c.args.blob.now) c.args.page c.args.bytes.now (is_b c.args.slot) c.requires.some c.requires.size c.args.dev.now c.cut_later.new.dev
    _ _ (err_of _ _ c.from_residual.ensures.1) c.in_err-cut.ensures

pub returns-in_err-both : goal.returns-in_err-both
returns-in_err-both g c =
    add_failed g.D.Device g.S.Seal.seal_of c.args.blob.now.page_size (opened_key c.args.blob.now) c.args.page c.args.bytes.now (is_b c.args.slot) c.requires.some c.requires.size c.args.dev.now c.cut_later.new.dev
    _ c.in_ok-cut.ensures c.add_slot.new.dev g.met.S.Seal.fits (search rules) _ _ (err_of _ _ c.from_residual-in_err-both.ensures.1)
    (slot_as c.other.ensures c.in_err-both.ensures)

pub returns : goal.returns
returns g c =
    cleared g.D.Device g.S.Seal.seal_of c.args.blob.now.page_size (opened_key c.args.blob.now) c.args.page c.args.bytes.now (is_b c.args.slot) c.requires.some c.requires.size c.args.dev.now c.cut_later.new.dev
    _ c.in_ok-cut.ensures c.add_slot.new.dev g.met.S.Seal.fits (search rules)
    _ (slot_as c.other.ensures c.in_ok-both.ensures)
    c.clear_slot.new.dev _ c.clear_slot.ensures
