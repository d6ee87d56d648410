use Rattle.std.proofs.Common.{refl, ℕ, ◌-◌, ap, arith}
use Rattle.segments.proofs.looking.GettingEnds.{last_unfound, last_none, last_got, last_failed}
use Rattle.segments.specs.lemmas.adding.Write.{are_pages}
use Rattle.segments.proofs.fixed.Journal.last.Goals as goal
use Rattle.blob_device.proofs.general.Results.{err_of}

pub returns-in_err-buffer : goal.returns-in_err-buffer
returns-in_err-buffer g c =
    let h = c.in_err-buffer.ensures in
    last_unfound _ _ _ _ _ _ _ _ _ _ _ c.args.dev.now c.requires _ h.cause h.guard h.absent _ (err_of c.from_residual.result _ c.from_residual.ensures.1)

pub returns-then-count-eq0 : goal.returns-then-count-eq0
returns-then-count-eq0 g c =
    last_none _ _ _ _ _ _ _ _ _ _ _ c.args.dev.now c.requires c.in_ok-buffer.buffer.now c.in_ok-buffer.ensures.held (omega (arith, c.count_of-count.ensures, c.if-count-eq0.true))

pub returns-in_err-item : goal.returns-in_err-item
returns-in_err-item g c =
    last_failed _ _ _ _ _ _ _ _ _ _ _ _ c.requires c.in_ok-buffer.buffer.now c.in_ok-buffer.ensures.held (omega (arith, c.count_of-count.ensures, c.if-count-eq0.false)) (are_pages g.row.S g.S.Seal g.S.Seal-dict) (λ f. refl) _
    (ap (λ (n : ℕ). n - 1) c.count_of-count.ensures) _ _ (err_of c.from_residual-in_err-item.result _ c.from_residual-in_err-item.ensures.1) c.in_err-item.ensures

pub returns : goal.returns
returns g c =
    last_got _ _ _ _ _ _ _ _ _ _ _ _ c.requires c.in_ok-buffer.buffer.now c.in_ok-buffer.ensures.held (omega (arith, c.count_of-count.ensures, c.if-count-eq0.false)) (are_pages g.row.S g.S.Seal g.S.Seal-dict) (λ f. refl) _
    (ap (λ (n : ℕ). n - 1) c.count_of-count.ensures) _ c.in_ok-item.ensures
