use Rattle.std.proofs.Common.{arith}
use Rattle.sealed_pages.proofs.unsealed.RunLemmas.{laid_is, laid_over, laid_whole, none_over}
use Rattle.sealed_pages.proofs.write_blob.run.overlay.Goals as goal

pub returns-then-low-high-clause-over : goal.returns-then-low-high-clause-over
returns-then-low-high-clause-over c content has = none_over c.args.at c.args.run.now c.args.offset c.args.buf.now (omega (arith, c.max-low.ensures, c.min-high.ensures, c.if-low-high.true)) content has

pub returns-clause-over : goal.returns-clause-over
returns-clause-over c content has = laid_over c.args.at c.args.run.now c.args.offset c.args.buf.now _ c.max-low.result c.min-high.result c.max-low.ensures c.min-high.ensures c.if-low-high.false
    (laid_is c.args.at c.args.run.now c.args.offset c.args.buf.now c.copy_from_slice.new.self c.max-low.result c.min-high.result c.max-low.ensures c.min-high.ensures c.if-low-high.false c.copy_from_slice.ensures.after)
    content has

pub returns-clause-held : goal.returns-clause-held
returns-clause-held c first last content = laid_whole c.args.at c.args.run.now c.args.offset c.args.buf.now _ c.max-low.result c.min-high.result c.max-low.ensures c.min-high.ensures c.if-low-high.false
    (laid_is c.args.at c.args.run.now c.args.offset c.args.buf.now c.copy_from_slice.new.self c.max-low.result c.min-high.result c.max-low.ensures c.min-high.ensures c.if-low-high.false c.copy_from_slice.ensures.after)
    first last content
