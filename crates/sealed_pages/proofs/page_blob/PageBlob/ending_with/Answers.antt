use Rattle.std.proofs.Common.{◌≡◌, ◌+◌, ◌*◌, ◌<◌, ◌^◌, ℕ, length, ap, arith, rules}
use Rattle.sealed_pages.specs.lemmas.memory.Holding.{extent_more}
use Rattle.sealed_pages.proofs.page_blob.PageBlob.ending_with.Goals as goal

pub overflow_mul-result : goal.overflow_mul-result
overflow_mul-result g c =
    let fits : c.args.page * c.args.self.page_size + length c.args.tip.items < 2 ^ 64 = omega (arith, extent_more c.args.self.page_size (c.args.page * c.args.self.page_size + length c.args.tip.items) (omega (arith, c.requires.short)), c.requires.room) in
    let is : c.args.page * c.from.result ≡ c.args.page * c.args.self.page_size = ap (λ (n : ℕ). c.args.page * n) c.from.ensures in
    omega (arith, fits, is)

pub overflow_add-result : goal.overflow_add-result
overflow_add-result g c =
    let fits : c.args.page * c.args.self.page_size + length c.args.tip.items < 2 ^ 64 = omega (arith, extent_more c.args.self.page_size (c.args.page * c.args.self.page_size + length c.args.tip.items) (omega (arith, c.requires.short)), c.requires.room) in
    let is : c.args.page * c.from.result ≡ c.args.page * c.args.self.page_size = ap (λ (n : ℕ). c.args.page * n) c.from.ensures in
    let len : c.len-from.result ≡ length c.args.tip.items = search rules in
    omega (arith, fits, is, len)
