use Rattle.std.proofs.Common.{Err, ap}
use Rattle.sealed_pages.proofs.OpenedReads.{tail_unopened, tail_opened}
use Rattle.sealed_pages.proofs.cutting.Truncating.{raised_cause}
use Rattle.sealed_pages.proofs.page_blob.PageBlob.read_tail.Goals as goal

pub returns-in_err-end : goal.returns-in_err-end
returns-in_err-end g c =
    tail_unopened g.D.Device g.S.Seal.seal_of c.args.page_size (c.args.partition.now, c.args.name.now) c.args.dev.now c.open_again.new.dev c.args.buf.now c.args.buf.now c.open_again.result c.from_residual.result c.open_again.ensures c.from_residual.ensures.0
    (raised_cause c.from_residual.result c.in_err-end.field-0.0 (g.D.Device.faults c.args.dev.now) (g.D.Device.faults c.open_again.new.dev) c.from_residual.ensures.1 (λ is. c.in_err-end.ensures.cause (ap Err is)))

pub returns : goal.returns
returns g c = tail_opened g.D.Device g.S.Seal.seal_of c.args.page_size (c.args.partition.now, c.args.name.now) c.args.dev.now c.open_again.new.dev c.args.buf.now c.read_last.new.buf c.read_last.new.dev c.in_ok-end.end c.in_ok-end.ensures c.read_last.result c.read_last.ensures
