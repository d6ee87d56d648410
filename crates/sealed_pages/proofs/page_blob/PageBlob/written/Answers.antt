use Rattle.std.proofs.Common.{rules, ◌≡◌, ◌+◌, ◌/◌, ◌++◌, ◌||◌, ◌∙◌, Bool, true, false, length, take, ap, sym, subst, refl, arith, length-take}
use Rattle.sealed_pages.specs.Buffer.{extent}
use Rattle.sealed_pages.specs.Cached.{held_in, full_pages, AreFull}
use Rattle.sealed_pages.specs.Shown.{shown}
use Rattle.sealed_pages.specs.SlotNames.{opened_key}
use Rattle.sealed_pages.proofs.memory.CacheLemmas.{full_next}
use Rattle.sealed_pages.proofs.memory.Holding.{fit_places}
use Rattle.sealed_pages.proofs.TipEnds.{Names, Rest, rest_of, whole_count, whole_fit, flushed_into, tip_failed, tip_written}
use Rattle.sealed_pages.proofs.page_blob.PageBlob.written.Given as given
use Rattle.sealed_pages.proofs.page_blob.PageBlob.written.Goals as goal
use Rattle.sealed_pages.proofs.page_blob.PageBlob.written.Goals.{After-drop_prefix, After-settled_end}

never : (x y : Bool) → (x || y) ≡ false → y ≡ true → ⊥
never true y clean torn = cc clean
never false y clean torn = cc (clean, torn)

-- what is written, by the buffer's names
names : (g : given.Over) (c : After-settled_end g) → Names (shown c.args.self) (opened_key c.blob.result) c.blob.result.page_size c.as_slice.result.now c.settled_end.result.len c.settled_end.result.slot c.args.self.newest
names g c = record {
  key = c.blob.ensures.key;
  size = c.blob.ensures.page_size;
  bytes = c.as_slice.ensures.value;
  len = c.settled_end.ensures.len;
  slot = c.settled_end.ensures.slot;
  newest_is = refl;
}

pub flush_pages-requires-clause-begin : goal.flush_pages-requires-clause-begin
flush_pages-requires-clause-begin g c = omega (arith, c.blob.ensures.page_size, c.args.self.fit.begun)

pub flush_pages-requires-clause-room : goal.flush_pages-requires-clause-room
flush_pages-requires-clause-room g c k lt = fit_places _ _ _ _ c.args.self.fit _ c.blob.ensures.page_size (length c.as_slice.result.now) (omega (arith, ap length c.as_slice.ensures.value)) k lt

pub overflow_add-result : goal.overflow_add-result
overflow_add-result g c = omega (arith, whole_fit c.args.self.page_size c.args.self.first c.args.self.from c.from-size.result c.len.result c.args.self.tip.items c.args.self.fit (search rules) c.from-size.ensures (search rules))

pub put_full-requires-clause-fits : goal.put_full-requires-clause-fits
put_full-requires-clause-fits g c = omega (
  arith,
  whole_fit c.args.self.page_size c.args.self.first c.args.self.from c.from-size.result c.len.result c.args.self.tip.items c.args.self.fit (search rules) c.from-size.ensures (search rules),
  whole_count c.args.self.page_size c.from-size.result c.len.result c.args.self.tip.items c.as_slice-2.result.now c.from-size.ensures (search rules) c.as_slice-2.ensures.value,
)

-- what is left of the tip
rest : (g : given.Over) (c : After-drop_prefix g) → Rest c.args.self.page_size c.args.self.first (c.len.result / c.from-size.result) c.args.self.tip.items c.drop_prefix.new.tip.items
rest g c = rest_of c.args.self.page_size c.args.self.first c.from-size.result c.len.result c.args.self.tip.items c.drop_prefix.new.tip.items c.from-size.ensures (omega (arith, c.args.self.fit.begun)) (search rules) c.drop_prefix.ensures

-- the pages that are then in memory
held : (g : given.Over) (c : After-drop_prefix g) → held_in c.in_ok-cache.cache ≡ take c.args.self.cache.most (full_pages c.args.self.page_size c.args.self.first (c.len.result / c.from-size.result) c.args.self.tip.items ++ held_in c.args.self.cache)
held g c =
    let count = whole_count c.args.self.page_size c.from-size.result c.len.result c.args.self.tip.items c.as_slice-2.result.now c.from-size.ensures (search rules) c.as_slice-2.ensures.value in
    c.in_ok-cache.ensures.pages ∙ (λ i. take c.args.self.cache.most (full_pages c.args.self.page_size c.args.self.first (count i) (c.as_slice-2.ensures.value i) ++ held_in c.args.self.cache))

pub invariant_of-result : goal.invariant_of-result
invariant_of-result g c =
    let left = rest g (goal.at.invariant_of-result g c).After-drop_prefix in
    record {
      fit = record {
        begun = omega (arith, left.short, c.len-from.ensures);
        within = omega (arith, c.len-from.ensures);
        room = omega (arith, c.args.self.fit.room, ap (extent c.args.self.page_size) left.far);
      };
      inside = λ torn. absurd (never c.args.self.behind c.args.self.torn c.requires.clean torn);
      order = omega (arith, c.args.self.order, c.args.self.fit.within, left.far, c.len-from.ensures);
      full = subst (AreFull c.args.self.page_size (c.args.self.first + c.len.result / c.from-size.result)) (sym (held g (goal.at.invariant_of-result g c).After-drop_prefix))
          (full_next c.args.self.page_size c.args.self.first (c.len.result / c.from-size.result) c.args.self.cache.most c.args.self.tip.items (held_in c.args.self.cache) left.full c.args.self.full);
      few = omega (arith, ap length (held g (goal.at.invariant_of-result g c).After-drop_prefix), c.in_ok-cache.ensures.most, length-take c.args.self.cache.most (full_pages c.args.self.page_size c.args.self.first (c.len.result / c.from-size.result) c.args.self.tip.items ++ held_in c.args.self.cache));
    }

pub returns-in_err-end : goal.returns-in_err-end
returns-in_err-end g c = tip_failed g.D.Device g.S.Seal.seal_of (shown c.args.self) c.requires.clean shown _ _ (names g (goal.at.returns-in_err-end g c).After-settled_end) _ _ c.from_residual.ensures.0 (search rules) c.in_err-end.ensures

pub returns-in_err-cache : goal.returns-in_err-cache
returns-in_err-cache g c = tip_failed g.D.Device g.S.Seal.seal_of (shown c.args.self) c.requires.clean shown _ _ (names g (goal.at.returns-in_err-cache g c).After-settled_end) _ _ c.from_residual-in_err-cache.ensures.0 (search rules) c.in_ok-end.ensures

pub returns : goal.returns
returns g c = tip_written g.D.Device g.S.Seal.seal_of (shown c.args.self) c.requires.clean shown _ _ (names g (goal.at.returns g c).After-settled_end) _ _ refl
    (flushed_into (shown c.args.self) (c.len.result / c.from-size.result) c.in_ok-end.end c.len-from.result c.in_ok-cache.cache.most c.drop_prefix.new.tip.items (held_in c.in_ok-cache.cache) (rest g (goal.at.returns g c).After-drop_prefix) (search rules) c.in_ok-cache.ensures.most (held g (goal.at.returns g c).After-drop_prefix)) c.in_ok-end.ensures
