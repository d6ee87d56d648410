use Rattle.std.proofs.Common.{rules, arith, refl}
use Rattle.sealed_pages.specs.Shown.{shown}
use Rattle.sealed_pages.proofs.memory.Holding.{fit_places}
use Rattle.sealed_pages.proofs.RepairEnds.{nothing_left, removal_failed, removal_done}
use Rattle.sealed_pages.proofs.page_blob.PageBlob.repaired.Goals as goal
use Rattle.blob_device.proofs.general.Results.{err_of}

pub repair-requires-clause-begin : goal.repair-requires-clause-begin
repair-requires-clause-begin g c = omega (arith, c.blob.ensures.page_size, c.args.self.fit.begun)

pub repair-requires-clause-room : goal.repair-requires-clause-room
repair-requires-clause-room g c k lt = fit_places _ _ _ _ c.args.self.fit _ c.blob.ensures.page_size c.args.self.from c.args.self.fit.within k lt

-- nothing was left
pub returns-then-not-self : goal.returns-then-not-self
returns-then-not-self g c = nothing_left g.D.Device g.S.Seal.seal_of (shown c.args.self) shown c.args.dev.now c.args.self refl c.args.self.fit.begun (search rules) c.requires.«open»

pub returns-in_err-end : goal.returns-in_err-end
returns-in_err-end g c = removal_failed g.D.Device g.S.Seal.seal_of (shown c.args.self) shown (search rules) _ _ _ _ c.blob.ensures.key c.blob.ensures.page_size _ _ (err_of _ _ c.from_residual.ensures.1) c.in_err-end.ensures

pub returns : goal.returns
returns g c = removal_done g.D.Device g.S.Seal.seal_of (shown c.args.self) shown (search rules) _ _ _ _ c.blob.ensures.key c.blob.ensures.page_size _ _ refl c.in_ok-end.ensures
