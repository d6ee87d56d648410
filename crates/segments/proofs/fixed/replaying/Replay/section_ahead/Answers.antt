-- The first of the held sections from the next one on is the least of them.
use Rattle.std.proofs.Common.{◌≡◌, ◌↔◌, ◌≤◌, inl, inr, ℕ, List, ◌∷◌, get_or, Option, Some, None, refl, sym, ap, subst, arith}
use Rattle.std.specs.Prelude.{IfSome, IsSomeAnd}
use Rattle.std.specs.Iterator.{YieldsFirst}
use Rattle.std.specs.List.{Contains}
use Rattle.std.specs.List.Sorted.{IsStrictlySortedBy}
use Rattle.std.specs.Ordering.{nat_cmp}
use Rattle.std.proofs.lemmas.Bool.{cases_eq}
use Rattle.std.proofs.lemmas.Map.Keys.{below_from_sorted}
use Rattle.segments.proofs.fixed.replaying.Replay.section_ahead.Goals as goal

first_in : (old new : List ℕ) (x : ℕ) → old ≡ x ∷ new → Contains old x
first_in old new x is = subst (λ (l : List ℕ). Contains l x) (sym is) (0, omega arith, refl)

first_least : (old new : List ℕ) (x s : ℕ) → old ≡ x ∷ new → IsStrictlySortedBy nat_cmp old → Contains old s → x ≤ s
first_least old new x s is sorted has = elim (cases_eq has.0 0) [
  | inl at ↦ omega (arith, ap (λ (l : List ℕ). get_or l 0 s) is, ap (λ (i : ℕ). get_or old i s) at, has.2)
  | inr later ↦ omega (arith, below_from_sorted old 0 has.0 s sorted (omega (arith, later)) has.1, ap (λ (l : List ℕ). get_or l 0 s) is, has.2)
]

ahead : (H : ℕ → Type 0) (old new : List ℕ) (r o : Option ℕ) (n : ℕ) → o ≡ Some n → YieldsFirst (λ s. s) old r new → ((s : ℕ) → Contains old s ↔ (H s × (n ≤ s))) → IfSome r (λ x. IsSomeAnd o (λ k. k ≤ x))
ahead H old new None o n is gives each = tt
ahead H old new (Some x) o n is gives each = subst (λ (q : Option ℕ). IsSomeAnd q (λ k. k ≤ x)) (sym is) ((each x).0 (first_in old new x gives)).1

least : (H : ℕ → Type 0) (old new : List ℕ) (r o : Option ℕ) (n : ℕ) → o ≡ Some n → YieldsFirst (λ s. s) old r new → IsStrictlySortedBy nat_cmp old → ((s : ℕ) → Contains old s ↔ (H s × (n ≤ s)))
    → IfSome r (λ x. (s : ℕ) → H s → IsSomeAnd o (λ k. k ≤ s) → x ≤ s)
least H old new None o n is gives sorted each = tt
least H old new (Some x) o n is gives sorted each = λ s held far. first_least old new x s gives sorted ((each s).1 (held, subst (λ (q : Option ℕ). IsSomeAnd q (λ k. k ≤ s)) is far))

pub returns-clause-ahead : goal.returns-clause-ahead
returns-clause-ahead g c = ahead _ _ _ c.next.result c.args.self.now.next_section c.in_ok-self.field-0 c.in_ok-self.was c.next.ensures.steps c.sections_from.ensures.each

pub returns-clause-least : goal.returns-clause-least
returns-clause-least g c = least _ _ _ c.next.result c.args.self.now.next_section c.in_ok-self.field-0 c.in_ok-self.was c.next.ensures.steps c.sections_from.ensures.ascending c.sections_from.ensures.each
