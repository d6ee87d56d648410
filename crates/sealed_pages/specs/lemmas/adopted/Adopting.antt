-- An adopted blob before its first flush: what is kept, and the slots of its last page.
use Rattle.std.proofs.Common.{◌≡◌, ◌≢◌, ◌⊎◌, inl, inr, ℕ, ◌+◌, ◌*◌, ◌<◌, ◌≤◌, not, Bool, true, false, cond, List, refl, sym, ◌∙◌, ap, subst, arith}
use Rattle.std.proofs.lemmas.Bool.{cases_lt, cases_order, eq-eqb, ne_eqb}
use Rattle.blob_device.specs.Disk.{Blob}
use Rattle.sealed_pages.specs.Buffer.{pages_of, Adopted}
use Rattle.sealed_pages.specs.Flushing.{Covers, Stands, Kept, IsClean}
use Rattle.sealed_pages.specs.Slots.{slot_length}
use Rattle.sealed_pages.specs.lemmas.slots.PageCalls.{other_slot}
use Rattle.sealed_pages.specs.lemmas.slots.SlotSteps.{settled_stands}
use Rattle.sealed_pages.specs.lemmas.slots.Steps.{below_sound}
use Rattle.blob_device.proofs.general.Numbers.{times_more}

-- the page in which the flushed bytes end
pub end_page : (P first from : ℕ) → from < P → (k : ℕ) → k * P < first * P + from → first * P + from < k * P + P → (k ≡ first) × (0 < from)
end_page P first from begun k low high = elim (cases_order k first) [
  | inl same ↦ (same, omega (arith, low, ap (λ (m : ℕ). m * P) same))
  | inr (inl less) ↦ absurd (omega (arith, high, times_more k first P less))
  | inr (inr more) ↦ absurd (omega (arith, low, begun, times_more first k P more))
]

pub pages_none : (first from : ℕ) → from ≡ 0 → pages_of first from ≡ first
pages_none first from is = ap (λ (t : Bool). cond t first (first + 1)) (eq-eqb from 0 is)

pub pages_some : (first from : ℕ) → 0 < from → pages_of first from ≡ first + 1
pages_some first from some = let differ : from ≢ 0 = λ e. omega (arith, e, some) in ap (λ (t : Bool). cond t first (first + 1)) (ne_eqb from 0 differ)

-- a page below that, which is not full
pub last_page : (P first from k : ℕ) → from < P → first * P + from < k * P + P → k < pages_of first from → (k ≡ first) × (0 < from)
last_page P first from k begun part below = elim (cases_lt 0 from) [
  | inl some ↦ elim (cases_lt k first) [
    | inl less ↦ absurd (omega (arith, part, times_more k first P less))
    | inr le ↦ (omega (arith, le, below, pages_some first from some), some)
  ]
  | inr none ↦ (let zero_is : from ≡ 0 = omega (arith, none) in let less : k < first = omega (arith, below, pages_none first from zero_is) in absurd (omega (arith, part, times_more k first P less)))
]

module _ (seal : List ℕ → ℕ) (P : ℕ) (pos : 1 ≤ P) (all : List ℕ) (first from : ℕ) (newest behind torn : Bool) (begun : from < P) (b : Blob) (a : Adopted seal P all first from newest behind torn b) where
  pub adopted_kept : Kept seal P all (first * P + from) b.content a.σ b
  adopted_kept = record {
    stands = subst (Stands seal P all b.content (first * P + from) a.σ) (sym a.is) (settled_stands seal P all (first * P + from) a.σ b.content pos a.content.covers
        (below_sound seal P all (first * P + from) b.content a.content.fits a.content.below a.content.same));
    covers = a.content.covers;
    content = a.content;
  }

  pub torn_inside : torn ≡ true → first * P < first * P + from
  torn_inside is = omega (arith, a.inside is)

  pub torn_other : torn ≡ true → a.σ first ≢ not newest
  torn_other is e = other_slot newest (not newest) refl (sym (a.head (a.inside is)) ∙ e)

  pub head_is : (k : ℕ) → k * P < first * P + from → first * P + from < k * P + P → a.σ k ≡ newest
  head_is k low high = let at = end_page P first from begun k low high in ap a.σ at.0 ∙ a.head at.1

  slot_cases : (x y : Bool) → (x ≡ y) ⊎ (x ≡ not y)
  slot_cases false false = inl refl
  slot_cases true true = inl refl
  slot_cases false true = inr refl
  slot_cases true false = inr refl

  -- the slots of the last page, once the other one is clean
  pub all_clean : (c : List ℕ) → Covers seal P c (first * P + from) a.σ → (0 < from → IsClean seal P c first (not newest)) → (k : ℕ) (x : Bool) → first * P + from < k * P + P → k < pages_of first from → IsClean seal P c k x
  all_clean c covers other k x part below = let at = last_page P first from k begun part below in
      subst (λ (j : ℕ). IsClean seal P c j x) (sym at.0) (here at.1 (slot_cases x newest))
    where
      here : 0 < from → (x ≡ newest) ⊎ (x ≡ not newest) → IsClean seal P c first x
      here some (inl is) = inl (subst (λ (y : Bool). 1 ≤ slot_length seal P c first y) (a.head some ∙ sym is) (omega (arith, covers first (omega (arith, some)), some, pos)))
      here some (inr is) = subst (λ (y : Bool). IsClean seal P c first y) (sym is) (other some)
