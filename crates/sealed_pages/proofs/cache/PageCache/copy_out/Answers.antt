use Rattle.std.proofs.Common.{rules, ◌≡◌, ◌<◌, ◌+◌, ◌-◌, ◌*◌, ◌∙◌, min, length, ap, sym, arith}
use borrow.Rule.Slice.PartMut.{put_mid}
use Rattle.std.proofs.Math.Nat.{le-mul_of_pos_right}
use Rattle.sealed_pages.specs.SealedPrefix.{place}
use Rattle.sealed_pages.specs.View.{view}
use Rattle.sealed_pages.specs.lemmas.adopted.Adopt.{place_in}
use Rattle.sealed_pages.proofs.looking.ReadLemmas.{filled, step_next}
use Rattle.sealed_pages.proofs.cache.PageCache.copy_out.Goals as goal

pub copy_part-requires-clause-held : goal.copy_part-requires-clause-held
copy_part-requires-clause-held c =
    let is = c.pages.invariant.place_is c.pages-test.true in
    c.requires.held c.pages.page (record {
      some = omega (arith, c.pages-test.true, c.pages.auto.out);
      low = omega (arith, is, c.pages.invariant.in_page);
      high = omega (arith, is, c.pages-test.true, c.pages.auto.out);
    })

pub overflow_add-page : goal.overflow_add-page
overflow_add-page c = omega (arith, c.pages.invariant.place_is c.pages-test.true, c.requires.fits, c.pages-test.true, c.pages.auto.out, le-mul_of_pos_right c.pages.page c.requires.some)

pub pages-preserved : goal.pages-preserved
pages-preserved c =
    let size : c.from-size.result ≡ c.args.page_size = c.from-size.ensures in
    let n_is : c.min-n.result ≡ min (length c.args.out.now - c.pages.at) (c.args.page_size - c.pages.skip) = omega (arith, c.min-n.ensures, size, c.pages.auto.out) in
    let long : length c.copy_part.new.out ≡ c.min-n.result = search rules in
    let more : c.pages.at < length c.args.out.now = omega (arith, c.pages-test.true, c.pages.auto.out) in
    let begun : c.pages.skip < c.args.page_size = c.pages.invariant.in_page in
    let is : c.pages.page * c.args.page_size + c.pages.skip ≡ c.args.offset + c.pages.at = c.pages.invariant.place_is c.pages-test.true in
    let whole : length (put_mid c.pages.at (c.pages.at + c.min-n.result - c.pages.at) c.pages.out c.copy_part.new.out) ≡ length c.args.out.now = search rules in
    record {
      within = omega (arith, whole, n_is, more);
      in_page = c.requires.some;
      place_is = λ lt. step_next c.args.page_size c.args.offset (length c.args.out.now) c.pages.page c.pages.skip c.pages.at c.min-n.result begun is more n_is (omega (arith, lt, whole));
      bytes = λ seal content are i lt. filled (λ x. view content (place c.args.page_size (c.args.offset + x))) c.pages.at (c.pages.at + c.min-n.result - c.pages.at) c.pages.out c.copy_part.new.out
          c.pages.invariant.within (c.pages.invariant.bytes seal content are)
          (λ j jn.
          let j_in : j < c.min-n.result = omega (arith, jn, long) in
          let inside : c.pages.skip + j < c.args.page_size = omega (arith, j_in, n_is, begun) in
          let e : c.pages.page * c.args.page_size + (c.pages.skip + j) ≡ c.args.offset + (c.pages.at + j) = omega (arith, is) in
          c.copy_part.ensures seal content are j (omega (arith, jn, c.copy_part.auto.out))
          ∙ ap (view content) (sym (place_in c.args.page_size c.pages.page (c.pages.skip + j) inside) ∙ ap (place c.args.page_size) e))
          i (omega (arith, lt, long));
    }

pub returns : goal.returns
returns c seal content are i lt = c.pages.invariant.bytes seal content are i (omega (arith, lt, c.pages-test.false, c.pages.auto.out))
