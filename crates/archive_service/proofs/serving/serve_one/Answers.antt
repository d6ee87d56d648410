use Rattle.std.proofs.Common.{◌≡◌, ap, map, Err}
use Rattle.archives.specs.Machine.{replied}
use Rattle.archives.specs.declared.error.Error.TheVariants.{Mem}
use Rattle.archive_service.proofs.LoopSteps.{one_kept, one_refused, one_unkept}
use Rattle.archive_service.proofs.serving.serve_one.Goals as goal
use Rattle.blob_device.proofs.general.Results.{err_of}

pub returns-in_err-archive : goal.returns-in_err-archive
returns-in_err-archive g c =
    let e = c.in_err-archive.field-0.0 in
    let answer : c.from_residual-in_err-archive.result ≡ Err e = err_of c.from_residual-in_err-archive.result e c.from_residual-in_err-archive.ensures.1 in
    one_refused (g.A.Store.means c.args.cfg.now) g.D.Device _ _ _ _ _ _ c.calls.result c.in_ok-push.ensures.ok c.calls.ensures _
    c.from_residual-in_err-archive.result e answer c.in_err-archive.ensures

pub returns-in_err-push-2 : goal.returns-in_err-push-2
returns-in_err-push-2 g c =
    let answer : c.from_residual-in_err-push-2.result ≡ Err Mem = err_of c.from_residual-in_err-push-2.result Mem c.from_residual-in_err-push-2.ensures.1 in
    one_unkept (g.A.Store.means c.args.cfg.now) g.D.Device _ _ _ _ _ _ c.calls.result c.in_ok-push.ensures.ok c.calls.ensures _ _
    c.from_residual-in_err-push-2.result (c.in_ok-archive.archive, replied g.A.Value.Codec.spelling c.in_ok-archive.reply) answer
    (ap (map (replied g.A.Value.Codec.spelling)) c.in_err-push-2.ensures.err) c.in_ok-archive.ensures

pub returns : goal.returns
returns g c =
    one_kept (g.A.Store.means c.args.cfg.now) g.D.Device _ _ _ _ _ _ c.calls.result c.in_ok-push.ensures.ok c.calls.ensures (replied g.A.Value.Codec.spelling) _ _
    c.in_ok-archive.archive c.in_ok-archive.reply c.in_ok-push-2.ensures.ok c.in_ok-archive.ensures
