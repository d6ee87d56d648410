-- When an adopted blob is ready for its first flush.
use Rattle.std.proofs.Common.{◌≡◌, inl, inr, ℕ, ◌+◌, ◌-◌, ◌*◌, ◌^◌, ◌<◌, ◌≤◌, ◌||◌, Bool, true, false, cond, List, refl, sym, ◌∙◌, ap, subst, arith}
use Rattle.std.proofs.lemmas.Bool.{cases_lt, eq-eqb}
use Rattle.blob_device.specs.Disk.{Blob}
use Rattle.sealed_pages.specs.lemmas.Had.{had_rest}
use Rattle.sealed_pages.specs.lemmas.adopted.Repairing.{page_order, repaired_quiet}
use Rattle.sealed_pages.specs.lemmas.slots.Slot.{page_next}
use Rattle.sealed_pages.specs.Buffer.{pages_of, Adopted, State}
use Rattle.sealed_pages.specs.Flushing.{next_slot, Ready}
use Rattle.sealed_pages.specs.View.{page_at}
use Rattle.blob_device.proofs.general.Numbers.{times_next}
use Rattle.sealed_pages.specs.lemmas.adopted.Adopting.{adopted_kept, all_clean, head_is, last_page, pages_none, pages_some}

-- the pages below the end reach as far as the flushed bytes
pub pages_reach : (P first from : ℕ) → from < P → first * P + from ≤ pages_of first from * P
pages_reach P first from begun = elim (cases_lt 0 from) [
  | inl some ↦ omega (arith, begun, times_next first P, ap (λ (q : ℕ). q * P) (pages_some first from some))
  | inr none ↦ (let zero_is : from ≡ 0 = omega (arith, none) in omega (arith, zero_is, ap (λ (q : ℕ). q * P) (pages_none first from zero_is)))
]

page_zero : (P : ℕ) → page_at P 0 ≡ 0
unfolding page_at
page_zero P = omega arith

-- where those pages end
pub pages_place : (P first from : ℕ) → from < P → ((k : ℕ) → k * P < first * P + from → page_at P k + (P + 12) < 2 ^ 64) → page_at P (pages_of first from) < 2 ^ 64
pages_place P first from begun room = elim (cases_lt 0 from) [
  | inl some ↦ omega (arith, room first (omega (arith, some)), page_next P first, ap (page_at P) (pages_some first from some))
  | inr none ↦ (let zero_is : from ≡ 0 = omega (arith, none) in
      let at : page_at P (pages_of first from) ≡ page_at P first = ap (page_at P) (pages_none first from zero_is) in
      elim (cases_lt 0 first) [
        | inl more ↦ (let next : first - 1 + 1 ≡ first = omega (arith, more) in
            omega (arith, at, ap (page_at P) next, page_next P (first - 1), room (first - 1) (omega (arith, begun, times_next (first - 1) P, ap (λ (m : ℕ). m * P) next))))
        | inr no_page ↦ (let is : first ≡ 0 = omega (arith, no_page) in omega (arith, at, ap (page_at P) is, page_zero P))
      ])
]

pub pages_place_order : (P first from page : ℕ) → pages_of first from ≤ page + 1 → page_at P (pages_of first from) ≤ page_at P (page + 1)
pages_place_order P first from page le = page_order (λ x. 0) P (pages_of first from) (page + 1) le

-- without anything to remove, an adopted blob is ready
module _ (seal : List ℕ → ℕ) (P : ℕ) (pos : 1 ≤ P) (all : List ℕ) (first from : ℕ) (newest behind torn : Bool) (begun : from < P) (b : Blob) (a : Adopted seal P all first from newest behind torn b) where
  adopted_ready : behind ≡ false → torn ≡ false → Ready seal P all (first * P + from) (first * P + from) newest b
  adopted_ready none whole = record {
    w = b.content;
    σ = a.σ;
    τ = a.σ;
    stands = (adopted_kept seal P pos all first from newest behind torn begun b a).stands;
    settled = a.content.covers;
    flushed = record {
      fits = a.content.fits;
      quiet = repaired_quiet seal P (first * P + from) b.content (pages_of first from) a.content.below (a.shorter none)
          (λ k part below. omega (arith, ap (λ (m : ℕ). m * P) (last_page P first from k begun part below).0))
          (all_clean seal P pos all first from newest behind torn begun b a b.content a.content.covers (a.clean whole));
      same = a.content.same;
      covers = a.content.covers;
    };
    order = omega arith;
    rest = λ e. a.is;
    had = had_rest b a.is;
    last = head_is seal P pos all first from newest behind torn begun b a;
    head = λ k low high. head_is seal P pos all first from newest behind torn begun b a k low high ∙ sym (ap (λ (t : Bool). cond t newest (next_slot P (first * P + from) newest k)) (eq-eqb (first * P + from) (first * P + from) refl));
  }

  or_parts : (x y : Bool) → (x || y) ≡ false → (x ≡ false) × (y ≡ false)
  or_parts false false e = (refl, refl)
  or_parts false true e = absurd (cc e)
  or_parts true y e = absurd (cc e)

  pub adopted_state : (settled : ℕ) → settled ≡ first * P + from → State seal P all first from settled newest behind torn b
  adopted_state settled is = record {
    ready = λ e. (let parts = or_parts behind torn e in subst (λ (n : ℕ). Ready seal P all (first * P + from) n newest b) (sym is) (adopted_ready parts.0 parts.1));
    adopted = λ e. (a, is);
  }
