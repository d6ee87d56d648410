use Rattle.std.proofs.Common.{refl}
use Rattle.segments.proofs.looking.GettingEnds.{many_unfound, many_past, many_got}
use Rattle.segments.specs.lemmas.adding.Write.{are_pages}
use Rattle.segments.proofs.fixed.Journal.get_many.Goals as goal
use Rattle.blob_device.proofs.general.Results.{err_of}

pub returns-in_err-buffer : goal.returns-in_err-buffer
returns-in_err-buffer g c =
    let h = c.in_err-buffer.ensures in
    many_unfound _ _ _ _ _ _ _ _ _ _ _ c.args.dev.now c.requires.over _ h.cause h.guard h.absent _ _ (err_of c.from_residual.result _ c.from_residual.ensures.1)

pub returns-in_err-check_positions : goal.returns-in_err-check_positions
returns-in_err-check_positions g c =
    let h = c.in_err-check_positions.ensures in
    many_past _ _ _ _ _ _ _ _ _ _ _ c.args.dev.now c.requires.over c.in_ok-buffer.buffer.now c.in_ok-buffer.ensures.held _ _ _ (err_of c.from_residual-in_err-check_positions.result _ c.from_residual-in_err-check_positions.ensures.1) h.cause h.past (h.first c.requires.ascending)

pub returns : goal.returns
returns g c =
    many_got _ _ _ _ _ _ _ _ _ _ _ _ c.requires.over c.in_ok-buffer.buffer.now c.in_ok-buffer.ensures.held (are_pages g.row.S g.S.Seal g.S.Seal-dict) (λ f. refl) _ c.in_ok-check_positions.ensures.ok _ c.read_each.ensures
