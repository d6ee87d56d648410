use Rattle.std.proofs.Common.{◌≡◌, ◌-◌, ◌++◌}
use Rattle.sealed_pages.specs.SealedPrefix.{pages_in, sealed_from, sealed_prefix}
use Rattle.sealed_pages.proofs.plain.sealed_prefix.Given as goal

abbrev pub invariant-pages : goal.invariant-pages
invariant-pages g l = l.prefix.items ++ sealed_from g.S.Seal.seal_of l.page_size l.bytes l.page (pages_in l.page_size l.bytes - l.page) ≡ sealed_prefix g.S.Seal.seal_of l.page_size l.bytes
