use Rattle.std.proofs.Common.{refl, arith}
use Rattle.segments.proofs.looking.GettingEnds.{get_unfound, get_past, got}
use Rattle.segments.specs.lemmas.adding.Write.{are_pages}
use Rattle.segments.proofs.fixed.Journal.get.Goals as goal
use Rattle.blob_device.proofs.general.Results.{err_of}

pub returns-in_err-buffer : goal.returns-in_err-buffer
returns-in_err-buffer g c =
    let h = c.in_err-buffer.ensures in
    get_unfound _ _ _ _ _ _ _ _ _ _ _ c.args.dev.now c.requires _ h.cause h.guard h.absent _ _ (err_of c.from_residual.result _ c.from_residual.ensures.1)

pub returns-then-position-count_of : goal.returns-then-position-count_of
returns-then-position-count_of g c =
    get_past _ _ _ _ _ _ _ _ _ _ _ c.args.dev.now c.requires c.in_ok-buffer.buffer.now c.in_ok-buffer.ensures.held _ (omega (arith, c.count_of.ensures, c.if-position-count_of.true))

pub returns : goal.returns
returns g c =
    got _ _ _ _ _ _ _ _ _ _ _ _ c.requires c.in_ok-buffer.buffer.now c.in_ok-buffer.ensures.held (are_pages g.row.S g.S.Seal g.S.Seal-dict) (λ f. refl) _ (omega (arith, c.count_of.ensures, c.if-position-count_of.false)) _ c.read_item.ensures
