use Rattle.std.proofs.Common.{ap, arith}
use Rattle.sealed_pages.specs.SlotNames.{is_b, opened_key}
use Rattle.sealed_pages.specs.View.{page_at}
use Rattle.sealed_pages.proofs.slots.SlotLemmas.{index_page}
use Rattle.sealed_pages.proofs.adopted.Adopting.{pages_place}
use Rattle.sealed_pages.proofs.Removing.{behind_as, torn_as, behind_failed, torn_failed, settle_failed, removed}
use Rattle.sealed_pages.proofs.repair.repair.Goals as goal
use Rattle.blob_device.proofs.general.Results.{err_of}

pub pages_below-pages-requires : goal.pages_below-pages-requires
pages_below-pages-requires g c some = omega (arith, index_page c.args.blob.now.page_size c.args.start.now.first, c.requires.room c.args.start.now.first (omega (arith, some)))

pub cut_behind-requires-clause-room : goal.cut_behind-requires-clause-room
cut_behind-requires-clause-room g c = omega (arith, pages_place c.args.blob.now.page_size c.args.start.now.first c.args.start.now.from c.requires.begin c.requires.room, ap (page_at c.args.blob.now.page_size) c.pages_below-pages.ensures)

pub returns-in_err-cut : goal.returns-in_err-cut
returns-in_err-cut g c =
    behind_failed g.D.Device g.S.Seal.seal_of c.args.blob.now.page_size (opened_key c.args.blob.now) c.args.start.now.first c.args.start.now.from (is_b c.args.start.now.newest) c.args.start.now.behind c.args.start.now.torn c.requires.begin c.requires.inside c.args.dev.now c.cut_behind.new.dev
    _ _ (err_of _ _ c.from_residual.ensures.1)
    (behind_as c.pages_below-pages.ensures c.in_err-cut.ensures)

pub returns-in_err-reach : goal.returns-in_err-reach
returns-in_err-reach g c =
    torn_failed g.D.Device g.S.Seal.seal_of c.args.blob.now.page_size (opened_key c.args.blob.now) c.args.start.now.first c.args.start.now.from (is_b c.args.start.now.newest) c.args.start.now.behind c.args.start.now.torn c.requires.begin c.requires.inside c.args.dev.now c.cut_behind.new.dev
    _ (behind_as c.pages_below-pages.ensures c.in_ok-cut.ensures)
    c.clear_torn.new.dev _ _ (err_of _ _ c.from_residual-in_err-reach.ensures.1)
    (torn_as c.other-slot.ensures c.in_err-reach.ensures)

pub returns-in_err-sync : goal.returns-in_err-sync
returns-in_err-sync g c =
    settle_failed g.D.Device g.S.Seal.seal_of c.args.blob.now.page_size (opened_key c.args.blob.now) c.args.start.now.first c.args.start.now.from (is_b c.args.start.now.newest) c.args.start.now.behind c.args.start.now.torn c.requires.begin c.requires.inside c.args.dev.now c.cut_behind.new.dev
    _ (behind_as c.pages_below-pages.ensures c.in_ok-cut.ensures)
    c.clear_torn.new.dev
    _ (torn_as c.other-slot.ensures c.in_ok-reach.ensures)
    c.sync.new.self c.in_err-sync.ensures.opened _ _ (err_of _ _ c.from_residual-in_err-sync.ensures.1) c.in_err-sync.ensures.counts c.in_err-sync.ensures.told

pub returns : goal.returns
returns g c =
    removed g.D.Device g.S.Seal.seal_of c.args.blob.now.page_size (opened_key c.args.blob.now) c.args.start.now.first c.args.start.now.from (is_b c.args.start.now.newest) c.args.start.now.behind c.args.start.now.torn c.requires.begin c.requires.inside c.args.dev.now c.cut_behind.new.dev
    _ (behind_as c.pages_below-pages.ensures c.in_ok-cut.ensures)
    c.clear_torn.new.dev
    _ (torn_as c.other-slot.ensures c.in_ok-reach.ensures)
    c.sync.new.self c.in_ok-sync.ensures.opened c.in_ok-sync.ensures.counts.later c.in_ok-sync.ensures.told
