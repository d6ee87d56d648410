-- What a crash may have left: behind the last page with a matching slot, and in its other slot.
use Rattle.std.proofs.Common.{◌≡◌, ℕ, ◌+◌, ◌<◌, not, ltb, Bool, true, false, cond, List, length, get_or, refl, sym, ◌∙◌, ap, arith}
use Rattle.std.specs.Prelude.{◌↔◌}
use Rattle.std.proofs.lemmas.Bool.Decides.{Decides-ltb}
use Rattle.sealed_pages.specs.Buffer.{pages_of}
use Rattle.sealed_pages.specs.Leftover.{IsBlank, Leftover}
use Rattle.sealed_pages.specs.Reading.{page_of}
use Rattle.sealed_pages.specs.Slots.{slot_length}
use Rattle.sealed_pages.specs.View.{view, page_at, slot_at}
use Rattle.sealed_pages.specs.lemmas.adopted.Adopting.{pages_none, pages_some}
use Rattle.sealed_pages.specs.lemmas.looking.Looking.{page_zero, part_view}

-- a slot of a page by itself, and in the blob
slot_view : (seal : List ℕ → ℕ) (P : ℕ) (c : List ℕ) (k : ℕ) (x : Bool) (i : ℕ) → i < 6 → get_or (page_of P c k) (slot_at P 0 x + i) 0 ≡ view c (slot_at P k x + i)
slot_view seal P c k x i lt =
    let inside : slot_at P 0 x + i < P + 12 = go x in
    let e : page_at P k + (slot_at P 0 x + i) ≡ slot_at P k x + i = omega (arith, page_zero P) in
    part_view seal P c k (slot_at P 0 x + i) inside ∙ ap (view c) e
  where
    go : (y : Bool) → slot_at P 0 y + i < P + 12
    go false = omega (arith, lt, page_zero P)
    go true = omega (arith, lt, page_zero P)

module _ (seal : List ℕ → ℕ) (P : ℕ) (c : List ℕ) where
  module _ (page place end : ℕ) (at : place ≡ page_at P (page + 1)) (long : length c ≡ end) (first from : ℕ) (pages : pages_of first from ≡ page + 1) where
    behind_is : (ltb place end ≡ true) ↔ (page_at P (pages_of first from) < length c)
    behind_is = (
      λ e. omega (arith, (Decides-ltb place end).0 e, at, long, ap (page_at P) pages),
      λ lt. (Decides-ltb place end).1 (omega (arith, lt, at, long, ap (page_at P) pages)),
    )

  pub leftover_full : (page place end : ℕ) → place ≡ page_at P (page + 1) → length c ≡ end → (newest : Bool) → Leftover seal P c (page + 1) 0 newest (ltb place end) false
  leftover_full page place end at long newest = record {
    newest_is = λ none. absurd (omega (arith, none));
    behind_is = behind_is page place end at long (page + 1) 0 (pages_none (page + 1) 0 refl);
    torn_is = (λ e. absurd (cc e), λ t. absurd (omega (arith, t.0)));
  }

  pub leftover_part : (page a b : ℕ) → a ≡ slot_length seal P c page false → b ≡ slot_length seal P c page true
      → (place end : ℕ) → place ≡ page_at P (page + 1) → length c ≡ end → (len : ℕ) (torn : Bool) → 0 < len
      → (torn ≡ true → (cond (ltb a b) a b ≡ 0) × ¬ (IsBlank P (page_of P c page) 0 (not (ltb a b))))
      → ((cond (ltb a b) a b ≡ 0) × ¬ (IsBlank P (page_of P c page) 0 (not (ltb a b))) → torn ≡ true)
      → Leftover seal P c page len (ltb a b) (ltb place end) torn
  leftover_part page a b first second place end at long len torn some to back = record {
    newest_is = λ more t. ltb (first t) (second t);
    behind_is = behind_is page place end at long page len (pages_some page len some);
    torn_is = (
      λ e. (some, (sym (other_is (ltb a b)) ∙ (to e).0, λ blank. (to e).1 (λ i lt. slot_view seal P c page (not (ltb a b)) i lt ∙ blank i lt))),
      λ t. back (other_is (ltb a b) ∙ t.1.0, λ blank. t.1.1 (λ i lt. sym (slot_view seal P c page (not (ltb a b)) i lt) ∙ blank i lt)),
    );
  }
    where
      other_is : (newest : Bool) → cond newest a b ≡ slot_length seal P c page (not newest)
      other_is true = first
      other_is false = second

  -- with no such page
  pub leftover_none : (end : ℕ) → length c ≡ end → (newest : Bool) → Leftover seal P c 0 0 newest (ltb 0 end) false
  leftover_none end long newest =
      let at : page_at P (pages_of 0 0) ≡ 0 = ap (page_at P) (pages_none 0 0 refl) ∙ page_zero P in record {
        newest_is = λ none. absurd (omega (arith, none));
        behind_is = (λ e. omega (arith, (Decides-ltb 0 end).0 e, long, at), λ lt. (Decides-ltb 0 end).1 (omega (arith, lt, long, at)));
        torn_is = (λ e. absurd (cc e), λ t. absurd (omega (arith, t.0)));
      }
