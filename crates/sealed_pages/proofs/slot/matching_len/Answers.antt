use Rattle.std.proofs.Common.{◌∙◌, arith}
use Rattle.sealed_pages.proofs.Matching.{cut_short, names_more, no_match, is_match}
use Rattle.sealed_pages.specs.SlotNames.{is_b}
use Rattle.sealed_pages.proofs.slot.matching_len.Goals as goal

pub returns-then-page-at : goal.returns-then-page-at
returns-then-page-at g c = cut_short g.S.Seal.seal_of c.args.page_size c.args.page.now (is_b c.args.slot) c.slot_offset-at.result c.slot_offset-at.ensures.place (omega (arith, c.if-page-at.true))

pub returns-then-n-size : goal.returns-then-n-size
returns-then-n-size g c = names_more g.S.Seal.seal_of c.args.page_size c.args.page.now (is_b c.args.slot) c.slot_offset-at.result c.slot_offset-at.ensures.place c.from-n.result (c.from-n.ensures ∙ c.from_be_bytes.ensures) (omega (arith, c.if-n-size.true, c.from-size.ensures))

pub returns-then-seal-named : goal.returns-then-seal-named
returns-then-seal-named g c = no_match g.S.Seal.seal_of c.args.page_size c.args.page.now (is_b c.args.slot) c.slot_offset-at.result c.slot_offset-at.ensures.place c.from-n.result (c.from-n.ensures ∙ c.from_be_bytes.ensures) (omega (arith, c.if-page-at.false)) c.ranges.page_size.fits (omega (arith, c.if-n-size.false, c.from-size.ensures)) c.seal2-seal.result c.from_be_bytes-named.result c.seal2-seal.ensures c.from_be_bytes-named.ensures c.if-seal-named.true

pub returns : goal.returns
returns g c = is_match g.S.Seal.seal_of c.args.page_size c.args.page.now (is_b c.args.slot) c.slot_offset-at.result c.slot_offset-at.ensures.place c.from-n.result (c.from-n.ensures ∙ c.from_be_bytes.ensures) (omega (arith, c.if-page-at.false)) c.ranges.page_size.fits (omega (arith, c.if-n-size.false, c.from-size.ensures)) c.seal2-seal.result c.from_be_bytes-named.result c.seal2-seal.ensures c.from_be_bytes-named.ensures c.if-seal-named.false
