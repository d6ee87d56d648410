use Rattle.std.proofs.Common.{rules, ◌≡◌, ◌≤◌, ◌<◌, ◌^◌, ◌+◌, ◌-◌, ◌*◌, ◌/◌, ◌∙◌, ℕ, List, length, take, drop, ap, subst, arith}
use Rattle.std.proofs.Math.Nat.{div-mul-le_self, mul-le-mul_right}
use Rattle.sealed_pages.specs.Cached.{PutsFull}
use Rattle.sealed_pages.proofs.memory.CacheLemmas.{full_later, last_count, puts_last}
use Rattle.sealed_pages.proofs.slots.PageCalls.{rest_whole}
use Rattle.sealed_pages.proofs.cache.PageCache.put_full.Goals as goal
use Rattle.sealed_pages.proofs.cache.PageCache.put_full.Goals.{After-saturating_sub-skip}
use Rattle.blob_device.proofs.general.Results.{map_ok}

-- how many of the pages go at once
skipped : (c : After-saturating_sub-skip) → c.saturating_sub-skip.result ≡ length c.args.bytes.now / c.args.page_size - c.args.self.most
skipped c = c.saturating_sub-skip.ensures ∙ ap (λ (n : ℕ). length c.args.bytes.now / n - c.args.self.most) c.from-size.ensures

-- the bytes behind them
behind : (c : After-saturating_sub-skip) → take (length c.args.bytes.now - c.saturating_sub-skip.result * c.from-size.result) (drop (c.saturating_sub-skip.result * c.from-size.result) c.args.bytes.now)
    ≡ drop (c.saturating_sub-skip.result * c.args.page_size) c.args.bytes.now
behind c = rest_whole (c.saturating_sub-skip.result * c.from-size.result) c.args.bytes.now ∙ ap (λ (n : ℕ). drop (c.saturating_sub-skip.result * n) c.args.bytes.now) c.from-size.ensures

pub overflow_mul-skip : goal.overflow_mul-skip
overflow_mul-skip c =
    let few : c.saturating_sub-skip.result ≤ length c.args.bytes.now / c.from-size.result = omega (arith, c.saturating_sub-skip.ensures) in
    let long : length c.args.bytes.now < 2 ^ 64 = search rules in
    omega (arith, mul-le-mul_right c.from-size.result few, div-mul-le_self (length c.args.bytes.now) c.from-size.result, long)

pub overflow_add-first : goal.overflow_add-first
overflow_add-first c = omega (arith, skipped c, c.requires.fits)

pub put_each-requires-clause-before : goal.put_each-requires-clause-before
put_each-requires-clause-before c = full_later _ _ _ _ (omega arith) c.requires.before

pub put_each-requires-clause-fits : goal.put_each-requires-clause-fits
put_each-requires-clause-fits c = omega (
  arith,
  ap (λ (l : List ℕ). length l / c.args.page_size) (behind (goal.at.put_each-requires-clause-fits c).After-saturating_sub-skip),
  last_count c.args.page_size c.saturating_sub-skip.result c.args.bytes.now c.requires.some (omega (arith, skipped (goal.at.put_each-requires-clause-fits c).After-saturating_sub-skip)),
  c.requires.fits,
)

pub returns : goal.returns
returns c = map_ok c.put_each.result _ (PutsFull c.args.page_size c.args.first c.args.bytes.now c.args.self)
    (λ v last. puts_last c.args.page_size c.args.first c.saturating_sub-skip.result c.args.bytes.now c.args.self v c.requires.some (skipped (goal.at.returns c).After-saturating_sub-skip) (subst (λ (l : List ℕ). PutsFull c.args.page_size (c.args.first + c.saturating_sub-skip.result) l c.args.self v) (behind (goal.at.returns c).After-saturating_sub-skip) last)) c.put_each.ensures
