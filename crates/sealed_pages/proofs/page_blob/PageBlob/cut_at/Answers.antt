use Rattle.std.proofs.Common.{◌≡◌, ◌+◌, ◌*◌, ◌<◌, ◌^◌, ap, sym, subst, ℕ, length, arith}
use Rattle.sealed_pages.specs.Buffer.{size_of}
use Rattle.sealed_pages.specs.Shown.{shown}
use Rattle.sealed_pages.specs.View.{page_at}
use Rattle.sealed_pages.proofs.CutEnds.{at_failed, at_done}
use Rattle.sealed_pages.proofs.memory.Holding.{fit_room}
use Rattle.sealed_pages.proofs.cutting.Truncating.{extent_less}
use Rattle.sealed_pages.proofs.page_blob.PageBlob.cut_at.Goals as goal

pub page_place-end-requires : goal.page_place-end-requires
page_place-end-requires g c = omega (arith, fit_room _ _ _ _ c.args.self.fit c.args.page c.requires.below)

pub cut_pages-requires-clause-room : goal.cut_pages-requires-clause-room
cut_pages-requires-clause-room g c = subst (λ (p : ℕ). page_at p c.args.page < 2 ^ 64) (sym c.blob.ensures.page_size) (omega (arith, fit_room _ _ _ _ c.args.self.fit c.args.page c.requires.below))

pub ending_with-requires-clause-room : goal.ending_with-requires-clause-room
ending_with-requires-clause-room g c =
    let none : length c.new-tip.result.items ≡ 0 = ap length c.new-tip.ensures.items in
    omega (arith, c.args.self.fit.room, extent_less c.args.self.page_size (c.args.page * c.args.self.page_size + length c.new-tip.result.items) (size_of (shown c.args.self)) (omega (arith, c.args.self.fit.begun)) (omega (arith, none, c.requires.below)))

pub returns-in_err-cut_pages : goal.returns-in_err-cut_pages
returns-in_err-cut_pages g c = at_failed g.D.Device g.S.Seal.seal_of (shown c.args.self) c.args.self.fit.begun shown c.args.page _ _ c.blob.ensures.key c.blob.ensures.page_size _ _ c.from_residual.ensures.1 c.in_err-cut_pages.ensures

pub returns : goal.returns
returns g c = at_done g.D.Device g.S.Seal.seal_of (shown c.args.self) c.args.self.fit.begun shown c.args.page _ _ c.blob.ensures.key c.blob.ensures.page_size c.ending_with.result c.page_place-end.result c.new-tip.result.items c.new-tip.ensures.items c.page_place-end.ensures
    c.ending_with.ensures c.in_ok-cut_pages.ensures
