use Rattle.std.proofs.Common.{◌≡◌, ◌+◌, ◌-◌, ◌∙◌, length, get_or, take, drop, ap, sym, arith}
use Rattle.sealed_pages.proofs.memory.CacheLemmas.{found_some, found_bytes}
use Rattle.sealed_pages.specs.Cached.{held_in}
use Rattle.sealed_pages.proofs.cache.PageCache.copy_part.Goals as goal
use Rattle.sealed_pages.specs.lemmas.memory.Cache.{found_has}

pub slice_bounds-copy_from_slice-end : goal.slice_bounds-copy_from_slice-end
slice_bounds-copy_from_slice-end c = omega (arith, c.requires.part, found_has (λ e. length e.1 ≡ c.args.page_size) c.args.page c.in-Some.bytes.now (held_in c.args.self.now) c.requires.whole (sym c.in-Some.ensures))

pub returns-in-Some : goal.returns-in-Some
returns-in-Some c seal content are i lt =
    let size : c.args.skip + length c.args.out.now - c.args.skip ≡ length c.args.out.now = omega arith in
    ap (λ l. get_or l i 0) (c.copy_from_slice.ensures.after ∙ ap (λ n. take n (drop c.args.skip c.in-Some.bytes.now)) size)
    ∙ found_bytes seal c.args.page_size content c.args.page c.args.skip (length c.args.out.now) c.in-Some.bytes.now (held_in c.args.self.now) are c.in-Some.ensures c.requires.part i lt

pub returns-in-None : goal.returns-in-None
returns-in-None c seal content are i lt = absurd (found_some (λ b. b.now) c.page.result c.args.page (held_in c.args.self.now) c.page.ensures c.requires.held c.in-None.is)
