use Rattle.std.proofs.Common.{rules, ◌≡◌, ◌*◌, ℕ, length, ap, arith}
use Rattle.sealed_pages.specs.lemmas.memory.Holding.{fit_size}
use Rattle.sealed_pages.proofs.page_blob.PageBlob.size.Goals as goal

pub overflow_mul-result : goal.overflow_mul-result
overflow_mul-result g c = omega (arith, fit_size _ _ _ _ c.args.self.now.fit, ap (λ (n : ℕ). c.args.self.now.first * n) c.from.ensures)

pub overflow_add-result : goal.overflow_add-result
overflow_add-result g c = let len : c.len.result ≡ length c.args.self.now.tip.items = search rules in omega (arith, fit_size _ _ _ _ c.args.self.now.fit, len, ap (λ (n : ℕ). c.args.self.now.first * n) c.from.ensures)
