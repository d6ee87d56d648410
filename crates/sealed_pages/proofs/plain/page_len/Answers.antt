use Rattle.std.proofs.Common.{arith}
use Rattle.sealed_pages.specs.lemmas.looking.Looking.{page_length_is}
use Rattle.sealed_pages.proofs.plain.page_len.Goals as goal

pub returns : goal.returns
returns g c = omega (arith, c.max.ensures, c.slot_len-first.ensures, c.slot_len.ensures, page_length_is g.S.Seal.seal_of c.args.page_size c.args.bytes.now c.args.page)
