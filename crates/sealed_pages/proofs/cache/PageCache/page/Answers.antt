use Rattle.std.proofs.Common.{◌∙◌, Some, None, ap}
use Rattle.sealed_pages.proofs.memory.CacheLemmas.{found_in}
use Rattle.sealed_pages.proofs.cache.PageCache.page.Goals as goal

pub returns-in-None-peek : goal.returns-in-None-peek
returns-in-None-peek c = found_in c.args.self.now.pages c.in-Some.pages c.args.page None c.in-Some.is c.in-None-peek.ensures

pub returns-in-Some-peek : goal.returns-in-Some-peek
returns-in-Some-peek c = ap Some c.as_slice.ensures.value ∙ found_in c.args.self.now.pages c.in-Some.pages c.args.page (Some c.in-Some-peek.bytes.now) c.in-Some.is c.in-Some-peek.ensures
