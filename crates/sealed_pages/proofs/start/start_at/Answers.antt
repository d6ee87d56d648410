use Rattle.std.proofs.Common.{◌≡◌, ◌≢◌, ◌⊎◌, ◌↔◌, inl, inr, ◌∙◌, ◌≤◌, ◌<◌, ◌+◌, ℕ, not, cond, true, false, ltb, Bool, List, get_or, ap, sym, subst, arith}
use Rattle.sealed_pages.specs.Leftover.{IsBlank, Leftover}
use Rattle.sealed_pages.specs.SlotNames.{is_b}
use Rattle.sealed_pages.specs.Starts.{Starts}
use Rattle.sealed_pages.specs.View.{slot_at}
use Rattle.sealed_pages.proofs.adopted.Starting.{starts_full, starts_part}
use Rattle.sealed_pages.specs.lemmas.adopted.Adopting.{pages_some}
use Rattle.sealed_pages.proofs.adopted.Leftovers.{leftover_full, leftover_part}
use Rattle.sealed_pages.proofs.start.start_at.Goals as goal

pub returns-then-len-from : goal.returns-then-len-from
returns-then-len-from g c = record {
  begun = omega (arith, c.requires.some);
  pages = omega arith;
  inside = λ e. absurd (cc e);
  starts = λ l long page a b some.
      subst (λ (b : Bool). Starts g.S.Seal.seal_of c.args.page_size l c.args.last.now.page (c.args.last.now.page + 1) 0 b (ltb c.page_place.result c.args.end) false) (sym c.longer-newest.ensures)
      (starts_full g.S.Seal.seal_of c.args.page_size l c.args.last.now.page c.args.last.now.first_len c.args.last.now.second_len a b some c.page_place.result c.args.end c.page_place.ensures long c.requires.some (omega (arith, c.max-len.ensures, c.from.ensures, c.if-len-from.true)));
  leftover = λ l long page a b. leftover_full g.S.Seal.seal_of c.args.page_size l c.args.last.now.page c.page_place.result c.args.end c.page_place.ensures long (is_b c.longer-newest.result);
}

pub returns : goal.returns
returns g c =
    let differ : c.max-len.result ≢ c.args.page_size = λ e. c.if-len-from.false (e ∙ sym c.from.ensures) in
    let begun : c.max-len.result < c.args.page_size = omega (arith, c.max-len.ensures, c.requires.lengths.0, c.requires.lengths.1, differ) in
    let best : ltb c.args.last.now.first_len c.args.last.now.second_len ≡ is_b c.longer-newest.result = sym c.longer-newest.ensures in
    let other : is_b c.other.result ≡ not (ltb c.args.last.now.first_len c.args.last.now.second_len) = c.other.ensures ∙ ap not c.longer-newest.ensures in
    let len : c.other_len.result ≡ cond (ltb c.args.last.now.first_len c.args.last.now.second_len) c.args.last.now.first_len c.args.last.now.second_len = c.other_len.ensures ∙ ap (λ (b : Bool). cond b c.args.last.now.first_len c.args.last.now.second_len) c.longer-newest.ensures in
    let whole : c.is_torn-torn.result ≡ false → (1 ≤ c.other_len.result) ⊎ IsBlank c.args.page_size c.args.page.now 0 (not (ltb c.args.last.now.first_len c.args.last.now.second_len))
    = subst (λ (b : Bool). c.is_torn-torn.result ≡ false → (1 ≤ c.other_len.result) ⊎ IsBlank c.args.page_size c.args.page.now 0 b) other c.is_torn-torn.ensures.whole in
    let torn : (c.is_torn-torn.result ≡ true) ↔ ((c.other_len.result ≡ 0) × ¬ (IsBlank c.args.page_size c.args.page.now 0 (not (ltb c.args.last.now.first_len c.args.last.now.second_len))))
    = subst (λ (b : Bool). (c.is_torn-torn.result ≡ true) ↔ ((c.other_len.result ≡ 0) × ¬ (IsBlank c.args.page_size c.args.page.now 0 b))) other c.is_torn-torn.ensures.torn in
    let some : 0 < c.max-len.result = omega (arith, c.max-len.ensures, c.requires.found) in
    record {
      begun = begun;
      pages = omega (arith, pages_some c.args.last.now.page c.max-len.result some);
      inside = λ e. some;
      starts = λ l long page a b some.
          subst (λ (b : Bool). Starts g.S.Seal.seal_of c.args.page_size l c.args.last.now.page c.args.last.now.page c.max-len.result b (ltb c.page_place.result c.args.end) c.is_torn-torn.result) best
          (starts_part g.S.Seal.seal_of c.args.page_size l c.args.last.now.page c.args.last.now.first_len c.args.last.now.second_len a b some c.page_place.result c.args.end c.page_place.ensures long c.max-len.result c.is_torn-torn.result c.max-len.ensures
          (λ e. c.if-len-from.false (e ∙ sym c.from.ensures))
          (λ e. elim (whole e) [
            | inl match ↦ inl (omega (arith, match, len))
            | inr zeros ↦ inr (λ i lt. sym (ap (λ (p : List ℕ). get_or p (slot_at c.args.page_size 0 (not (ltb c.args.last.now.first_len c.args.last.now.second_len)) + i) 0) page) ∙ zeros i lt)
          ]));
      leftover = λ l long page a b.
          subst (λ (b : Bool). Leftover g.S.Seal.seal_of c.args.page_size l c.args.last.now.page c.max-len.result b (ltb c.page_place.result c.args.end) c.is_torn-torn.result) best
          (leftover_part g.S.Seal.seal_of c.args.page_size l c.args.last.now.page c.args.last.now.first_len c.args.last.now.second_len a b c.page_place.result c.args.end c.page_place.ensures long c.max-len.result c.is_torn-torn.result some
          (λ e. (sym len ∙ (torn.0 e).0, λ blank. (torn.0 e).1 (λ i lt. ap (λ (p : List ℕ). get_or p (slot_at c.args.page_size 0 (not (ltb c.args.last.now.first_len c.args.last.now.second_len)) + i) 0) page ∙ blank i lt)))
          (λ e. torn.1 (len ∙ e.0, λ blank. e.1 (λ i lt. sym (ap (λ (p : List ℕ). get_or p (slot_at c.args.page_size 0 (not (ltb c.args.last.now.first_len c.args.last.now.second_len)) + i) 0) page) ∙ blank i lt))));
    }
