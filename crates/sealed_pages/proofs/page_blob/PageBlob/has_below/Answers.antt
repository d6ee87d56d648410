use Rattle.std.proofs.Common.{rules, ◌≡◌, ◌+◌, ◌-◌, ◌/◌, ◌<◌, ◌^◌, ℕ, ap, refl, arith}
use Rattle.std.proofs.Math.Nat.{div-mul-le_self}
use Rattle.sealed_pages.specs.lemmas.looking.Read.{page_before}
use Rattle.sealed_pages.specs.lemmas.memory.Held.{wanted_low}
use Rattle.sealed_pages.specs.lemmas.memory.Holding.{fit_size}
use Rattle.sealed_pages.proofs.memory.HeldLemmas.{wanted_high, wanted_of}
use Rattle.sealed_pages.proofs.page_blob.PageBlob.has_below.Given as given
use Rattle.sealed_pages.proofs.page_blob.PageBlob.has_below.Goals.{After-from-page_size}
use Rattle.sealed_pages.proofs.page_blob.PageBlob.has_below.Goals as goal

pub returns-then-len-eq0 : goal.returns-then-len-eq0
returns-then-len-eq0 g c = (λ e k w. absurd (omega (arith, w.some, c.if-len-eq0.true)), λ all. refl)

-- there are bytes
some : (g : given.Over) (c : After-from-page_size g) → 0 < c.args.len
some g c = omega (arith, c.if-len-eq0.false)

-- the page of the last one
last : (g : given.Over) (c : After-from-page_size g) → (c.args.offset + (c.args.len - 1)) / c.from-page_size.result ≡ (c.args.offset + (c.args.len - 1)) / c.args.self.now.page_size
last g c = ap (λ (n : ℕ). (c.args.offset + (c.args.len - 1)) / n) c.from-page_size.ensures

pub overflow_add-last : goal.overflow_add-last
overflow_add-last g c =
    let small : c.args.self.now.first < 2 ^ 64 = search rules in
    omega (arith, last g (goal.at.overflow_add-last g c).After-from-page_size, small, c.requires (some g (goal.at.overflow_add-last g c).After-from-page_size), fit_size _ _ _ _ c.args.self.now.fit, page_before c.args.self.now.page_size ((c.args.offset + (c.args.len - 1)) / c.args.self.now.page_size) c.args.self.now.first (omega (arith, div-mul-le_self (c.args.offset + (c.args.len - 1)) c.args.self.now.page_size, c.requires (some g (goal.at.overflow_add-last g c).After-from-page_size), some g (goal.at.overflow_add-last g c).After-from-page_size)))

pub returns : goal.returns
returns g c =
    let pos : 0 < c.args.self.now.page_size = omega (arith, c.args.self.now.fit.begun) in
    let begin : c.args.offset / c.from-page_size.result ≡ c.args.offset / c.args.self.now.page_size = ap (λ (n : ℕ). c.args.offset / n) c.from-page_size.ensures in (
      λ e k w. c.has_all.ensures.0 e k (omega (arith, begin, wanted_low c.args.self.now.page_size c.args.offset c.args.len k pos w)) (omega (arith, last g (goal.at.returns g c).After-from-page_size, wanted_high c.args.self.now.page_size c.args.offset c.args.len k pos w)),
      λ all. c.has_all.ensures.1 (λ k low high. all k (wanted_of c.args.self.now.page_size c.args.offset c.args.len k pos (some g (goal.at.returns g c).After-from-page_size) (omega (arith, begin, low)) (omega (arith, last g (goal.at.returns g c).After-from-page_size, high)))),
    )
