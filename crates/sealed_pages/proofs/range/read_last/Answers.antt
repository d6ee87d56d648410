use Rattle.std.proofs.Common.{rules, arith}
use Rattle.sealed_pages.proofs.memory.MemoryLemmas.{none_whole}
use Rattle.sealed_pages.proofs.OpenedReads.{last_unlearned, last_refused, last_failed, last_read}
use Rattle.sealed_pages.specs.SlotNames.{opened_key}
use Rattle.sealed_pages.proofs.range.read_last.Goals as goal
use Rattle.blob_device.proofs.general.Results.{err_of}

pub read_pages-requires-clause-whole : goal.read_pages-requires-clause-whole
read_pages-requires-clause-whole g c = none_whole c.args.blob.now.page_size _ c.new-none.ensures.empty

pub returns-in_err-size : goal.returns-in_err-size
returns-in_err-size g c =
    rw (err_of c.from_residual.result c.in_err-size.field-0.0 c.from_residual.ensures.1) (last_unlearned g.D.Device g.S.Seal.seal_of c.args.blob.now.page_size (opened_key c.args.blob.now) c.args.dev.now c.adopted_len.new.dev c.args.buf.now c.args.buf.now c.in_err-size.field-0.0 c.in_err-size.ensures)

pub returns-then-size-len : goal.returns-then-size-len
returns-then-size-len g c =
    last_refused g.D.Device g.S.Seal.seal_of c.args.blob.now.page_size (opened_key c.args.blob.now) c.args.dev.now c.adopted_len.new.dev c.args.buf.now c.args.buf.now c.in_ok-size.size c.in_ok-size.ensures (omega (arith, c.if-size-len.true))

pub returns-in_err-read_pages : goal.returns-in_err-read_pages
returns-in_err-read_pages g c =
    rw (err_of c.from_residual-in_err-read_pages.result c.in_err-read_pages.field-0.0 c.from_residual-in_err-read_pages.ensures.1)
    (last_failed g.D.Device g.S.Seal.seal_of c.args.blob.now.page_size (opened_key c.args.blob.now) c.args.dev.now c.adopted_len.new.dev c.args.buf.now c.read_pages.new.out c.read_pages.new.dev _ c.in_ok-size.size c.in_ok-size.ensures c.new-none.ensures.empty c.in_err-read_pages.field-0.0
    (omega (arith, c.if-size-len.false)) c.in_err-read_pages.ensures)

pub returns : goal.returns
returns g c =
    last_read g.D.Device g.S.Seal.seal_of c.args.blob.now.page_size (opened_key c.args.blob.now) c.args.dev.now c.adopted_len.new.dev c.args.buf.now c.read_pages.new.out c.read_pages.new.dev _ c.in_ok-size.size c.in_ok-size.ensures c.new-none.ensures.empty c.in_ok-read_pages.field-0
    (omega (arith, c.if-size-len.false)) (search rules) c.in_ok-read_pages.ensures
