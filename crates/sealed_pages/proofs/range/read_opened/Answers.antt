use Rattle.std.proofs.Common.{inl, inr, rules, arith}
use Rattle.sealed_pages.proofs.memory.MemoryLemmas.{none_whole}
use Rattle.sealed_pages.proofs.OpenedReads.{opened_unlearned, opened_refused, opened_read}
use Rattle.sealed_pages.specs.SlotNames.{opened_key}
use Rattle.sealed_pages.proofs.range.read_opened.Goals as goal
use Rattle.blob_device.proofs.general.Results.{err_of}

pub read_pages-requires-clause-whole : goal.read_pages-requires-clause-whole
read_pages-requires-clause-whole g c = none_whole c.args.blob.now.page_size _ c.new-none.ensures.empty

pub returns-in_err-size : goal.returns-in_err-size
returns-in_err-size g c =
    rw (err_of c.from_residual.result c.in_err-size.field-0.0 c.from_residual.ensures.1) (opened_unlearned g.D.Device g.S.Seal.seal_of c.args.blob.now.page_size (opened_key c.args.blob.now) c.args.dev.now c.adopted_len.new.dev c.args.buf.now c.args.buf.now c.args.offset c.in_err-size.field-0.0 c.in_err-size.ensures)

pub returns-in_err-check_range : goal.returns-in_err-check_range
returns-in_err-check_range g c =
    elim c.in_err-check_range.ensures.cause [
      | inl over ↦ absurd (omega (arith, c.in_err-check_range.ensures.overflow.0 over, c.requires.fits))
      | inr short ↦ rw (err_of c.from_residual-in_err-check_range.result c.in_err-check_range.field-0.0 c.from_residual-in_err-check_range.ensures.1, short)
          (opened_refused g.D.Device g.S.Seal.seal_of c.args.blob.now.page_size (opened_key c.args.blob.now) c.args.dev.now c.adopted_len.new.dev c.args.buf.now c.args.buf.now c.args.offset c.in_ok-size.size c.in_ok-size.ensures (c.in_err-check_range.ensures.short.0 short).1)
    ]

pub returns : goal.returns
returns g c =
    opened_read g.D.Device g.S.Seal.seal_of c.args.blob.now.page_size (opened_key c.args.blob.now) c.args.dev.now c.adopted_len.new.dev c.args.buf.now c.read_pages.new.out c.read_pages.new.dev _ c.in_ok-size.size c.in_ok-size.ensures c.new-none.ensures.empty c.args.offset c.read_pages.result
    c.in_ok-check_range.ensures.fits (search rules) c.read_pages.ensures
