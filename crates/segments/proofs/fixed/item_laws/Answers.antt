-- A content without bytes has no slot; a blob that no call touches stands as its buffer says; a section of which
-- neither buffer nor blob changes has the bytes that it had.
use Rattle.std.proofs.Common.{arith}
use Rattle.std.specs.Prelude.{length}
use Rattle.sealed_pages.specs.Buffer.{bytes_of}
use Rattle.sealed_pages.specs.SealedPrefix.{sealed_prefix}
use Rattle.segments.specs.lemmas.FixedSpared.{same_bytes, tail_bytes, beside_bytes}
use Rattle.segments.proofs.fixed.item_laws.Goals as goal
use Rattle.sealed_pages.specs.lemmas.memory.Holding.{holds_leaves}
use Rattle.sealed_pages.specs.lemmas.Unrecovered.{prefix_leaves, unrecovered_prefix}
use Rattle.section_manager.specs.lemmas.buffers.NothingSealed.{nothing_sealed}

pub returns-clause-none : goal.returns-clause-none
returns-clause-none g c P = nothing_sealed g.S.Seal.seal_of P

pub returns-clause-rests : goal.returns-clause-rests
returns-clause-rests g c u b begun sealed = holds_leaves g.S.Seal.seal_of u (bytes_of u b.content) b begun sealed.holds

pub returns-clause-waits : goal.returns-clause-waits
returns-clause-waits g c u b begun un =
    prefix_leaves g.S.Seal.seal_of u.page_size (sealed_prefix g.S.Seal.seal_of u.page_size b.content) (length (sealed_prefix g.S.Seal.seal_of u.page_size b.content)) b (omega arith)
    (unrecovered_prefix g.S.Seal.seal_of u b (omega (arith, begun)) un).0

pub returns-clause-stay : goal.returns-clause-stay
returns-clause-stay g c m n s from to place same blob = same_bytes m n s from to place same blob

pub returns-clause-before_tail : goal.returns-clause-before_tail
returns-clause-before_tail g c j m section n s from to cutting small less place same = tail_bytes g.S.Seal.seal_of j m section n s from to cutting small less place same

pub returns-clause-beside : goal.returns-clause-beside
returns-clause-beside g c m n section s from to blobs section_small small other place same = beside_bytes m n section s from to blobs section_small small other place same
