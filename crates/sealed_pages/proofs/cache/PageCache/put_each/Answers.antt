use Rattle.std.proofs.Common.{◌≡◌, ◌≤◌, ◌+◌, ◌-◌, ◌*◌, ◌/◌, ◌++◌, ◌∷◌, ◌∙◌, ℕ, List, length, take, drop, ap, refl, sym, subst, arith, length-take, length-drop}
use Rattle.std.proofs.lemmas.List.{take_all}
use Rattle.std.proofs.Math.Nat.{div-mul-le_self, mul-le-mul_right}
use Rattle.sealed_pages.specs.Cached.{held_in, full_pages, AreFull}
use Rattle.sealed_pages.proofs.memory.CacheLemmas.{held_few, full_next, put_next, slice_page}
use Rattle.sealed_pages.proofs.cache.PageCache.put_each.Goals as goal
use Rattle.blob_device.proofs.general.Numbers.{times_next}

pub pages-init : goal.pages-init
pages-init c = record {
  upto = omega arith;
  most = refl;
  pages = sym (take_all c.args.self.most (held_in c.args.self) (held_few c.args.self.pages c.args.self.most c.args.self.bound));
}

pub put-requires : goal.put-requires
put-requires c =
    let size : c.from-size.result ≡ c.args.page_size = c.from-size.ensures in
    let part = slice_page c.args.page_size c.from-size.result c.pages.i c.args.bytes.now size in
    let more : c.pages.i + 1 ≤ length c.args.bytes.now / c.from-size.result = omega (arith, c.pages-test.true) in
    let long : (c.pages.i + 1) * c.args.page_size ≤ length c.args.bytes.now = omega (arith, mul-le-mul_right c.args.page_size more, div-mul-le_self (length c.args.bytes.now) c.from-size.result, ap (λ (n : ℕ). length c.args.bytes.now / c.from-size.result * n) size) in
    let wide : length (take c.args.page_size (drop (c.pages.i * c.args.page_size) c.args.bytes.now)) ≡ c.args.page_size = omega (arith, length-take c.args.page_size (drop (c.pages.i * c.args.page_size) c.args.bytes.now), length-drop (c.pages.i * c.args.page_size) c.args.bytes.now, long, times_next c.pages.i c.args.page_size) in
    let few : c.pages.i * c.args.page_size ≤ length c.args.bytes.now = omega (arith, long, times_next c.pages.i c.args.page_size) in
    subst (λ (l : List ℕ). AreFull (length l) (c.args.first + c.pages.i) (held_in c.pages.this)) (sym part)
    (subst (λ (n : ℕ). AreFull n (c.args.first + c.pages.i) (held_in c.pages.this)) (sym wide)
    (subst (AreFull c.args.page_size (c.args.first + c.pages.i)) (sym c.pages.invariant.pages) (full_next c.args.page_size c.args.first c.pages.i c.args.self.most c.args.bytes.now (held_in c.args.self) few c.requires.before)))

pub pages-preserved : goal.pages-preserved
pages-preserved c = record {
  upto = omega (arith, c.pages-test.true);
  most = c.in_ok-this.ensures.most ∙ c.pages.invariant.most;
  pages = c.in_ok-this.ensures.pages ∙ ap (λ (m : ℕ). take m ((c.args.first + c.pages.i, take (c.pages.i * c.from-size.result + c.from-size.result - c.pages.i * c.from-size.result) (drop (c.pages.i * c.from-size.result) c.args.bytes.now)) ∷ held_in c.pages.this)) c.pages.invariant.most
      ∙ put_next c.args.page_size c.args.first c.pages.i c.args.self.most c.args.bytes.now _ (held_in c.args.self) (held_in c.pages.this) c.pages.invariant.pages (slice_page c.args.page_size c.from-size.result c.pages.i c.args.bytes.now c.from-size.ensures);
}

pub returns : goal.returns
returns c =
    let at : c.pages.i ≡ length c.args.bytes.now / c.from-size.result = omega (arith, c.pages.invariant.upto, c.pages-test.false) in
    record {
      most = c.pages.invariant.most;
      pages = c.pages.invariant.pages ∙ ap (λ (n : ℕ). take c.args.self.most (full_pages c.args.page_size c.args.first n c.args.bytes.now ++ held_in c.args.self)) (at ∙ ap (λ (n : ℕ). length c.args.bytes.now / n) c.from-size.ensures);
    }
