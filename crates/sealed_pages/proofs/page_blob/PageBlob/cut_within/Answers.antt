use Rattle.std.proofs.Common.{rules, ◌≡◌, ◌+◌, ◌*◌, ◌<◌, ◌^◌, sym, subst, ℕ, length, arith}
use Rattle.sealed_pages.specs.Buffer.{size_of}
use Rattle.sealed_pages.specs.Shown.{shown}
use Rattle.sealed_pages.specs.View.{page_at}
use Rattle.sealed_pages.proofs.CutEnds.{within_unread, within_failed, within_done}
use Rattle.sealed_pages.proofs.memory.Holding.{fit_room}
use Rattle.sealed_pages.proofs.slots.SlotLemmas.{index_page}
use Rattle.sealed_pages.proofs.cutting.Truncating.{extent_less}
use Rattle.sealed_pages.proofs.page_blob.PageBlob.cut_within.Given as given
use Rattle.sealed_pages.proofs.page_blob.PageBlob.cut_within.Goals as goal
use Rattle.sealed_pages.proofs.page_blob.PageBlob.cut_within.Goals.{After-blob}
use Rattle.blob_device.proofs.general.Results.{err_of}

-- the page, with its slots, ends below 2^64
room : (g : given.Over) (c : After-blob g) → page_at c.args.self.page_size c.args.page + (c.args.self.page_size + 12) < 2 ^ 64
room g c = fit_room _ _ _ _ c.args.self.fit c.args.page (omega (arith, c.requires.below))

pub read_head-requires-clause-room : goal.read_head-requires-clause-room
read_head-requires-clause-room g c = subst (λ (p : ℕ). page_at p c.args.page + (p + 12) < 2 ^ 64) (sym c.blob.ensures.page_size) (room g (goal.at.read_head-requires-clause-room g c).After-blob)

pub cut_inside-requires-clause-next : goal.cut_inside-requires-clause-next
cut_inside-requires-clause-next g c = omega (arith, index_page c.args.self.page_size c.args.page, room g (goal.at.cut_inside-requires-clause-next g c).After-blob)

pub cut_inside-requires-clause-room : goal.cut_inside-requires-clause-room
cut_inside-requires-clause-room g c = subst (λ (p : ℕ). page_at p c.args.page + (p + 12) < 2 ^ 64) (sym c.blob-2.ensures.page_size) (room g (goal.at.cut_inside-requires-clause-room g c).After-blob)

pub ending_with-requires-clause-room : goal.ending_with-requires-clause-room
ending_with-requires-clause-room g c =
    let long : length c.in_ok-bytes.field-0.bytes.items ≡ c.args.keep = c.in_ok-bytes.ensures.long in
    omega (arith, c.args.self.fit.room, extent_less c.args.self.page_size (c.args.page * c.args.self.page_size + length c.in_ok-bytes.field-0.bytes.items) (size_of (shown c.args.self)) (omega (arith, c.args.self.fit.begun)) (omega (arith, long, c.requires.below)))

pub returns-in_err-bytes : goal.returns-in_err-bytes
returns-in_err-bytes g c = within_unread g.D.Device g.S.Seal.seal_of (shown c.args.self) c.args.self.fit.begun shown c.args.page c.args.keep _ _ c.blob.ensures.key c.blob.ensures.page_size _ _ (err_of _ _ c.from_residual.ensures.1) c.in_err-bytes.ensures

pub returns-in_err-end : goal.returns-in_err-end
returns-in_err-end g c = within_failed g.D.Device g.S.Seal.seal_of (shown c.args.self) c.args.self.fit.begun shown c.args.page c.args.keep _ _ c.blob.ensures.key c.blob.ensures.page_size _ c.blob-2.ensures.key c.blob-2.ensures.page_size _ c.as_slice.ensures.value c.in_ok-bytes.ensures
    _ _ c.from_residual-in_err-end.ensures.1 c.in_err-end.ensures

pub returns : goal.returns
returns g c = within_done g.D.Device g.S.Seal.seal_of (shown c.args.self) c.args.self.fit.begun shown c.args.page c.args.keep _ _ c.blob.ensures.key c.blob.ensures.page_size _ c.blob-2.ensures.key c.blob-2.ensures.page_size _ c.as_slice.ensures.value c.in_ok-bytes.ensures
    c.requires.some c.requires.short (search rules) g.met.S.Seal.fits (room g (goal.at.returns g c).After-blob) c.ending_with.result c.in_ok-end.end _ c.other.ensures c.ending_with.ensures c.in_ok-end.ensures
