use Rattle.std.proofs.Common.{rules, Err, ap}
use Rattle.sealed_pages.proofs.OpenedReads.{range_unopened, range_opened}
use Rattle.sealed_pages.proofs.cutting.Truncating.{raised_cause}
use Rattle.sealed_pages.proofs.page_blob.PageBlob.read_range.Goals as goal

pub returns-in_err-end : goal.returns-in_err-end
returns-in_err-end g c =
    range_unopened g.D.Device g.S.Seal.seal_of c.args.page_size (c.args.partition.now, c.args.name.now) c.args.dev.now c.open_again.new.dev c.args.buf.now c.args.buf.now c.args.offset c.open_again.result c.from_residual.result c.open_again.ensures (search rules) c.from_residual.ensures.0
    (raised_cause c.from_residual.result c.in_err-end.field-0.0 (g.D.Device.faults c.args.dev.now) (g.D.Device.faults c.open_again.new.dev) c.from_residual.ensures.1 (λ is. c.in_err-end.ensures.cause (ap Err is)))

pub returns : goal.returns
returns g c = range_opened g.D.Device g.S.Seal.seal_of c.args.page_size (c.args.partition.now, c.args.name.now) c.args.dev.now c.open_again.new.dev c.args.buf.now c.read_opened.new.buf c.read_opened.new.dev c.in_ok-end.end c.in_ok-end.ensures c.args.offset c.read_opened.result (search rules) c.read_opened.ensures
