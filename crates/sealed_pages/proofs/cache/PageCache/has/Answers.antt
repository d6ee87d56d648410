use Rattle.std.proofs.Common.{◌∙◌, sym}
use Rattle.sealed_pages.specs.Cached.{held_in}
use Rattle.sealed_pages.proofs.memory.CacheLemmas.{found_any}
use Rattle.sealed_pages.proofs.cache.PageCache.has.Goals as goal

pub returns : goal.returns
returns c = c.is_some.ensures ∙ sym (found_any (λ b. b.now) c.page.result c.args.page (held_in c.args.self.now) c.page.ensures)
