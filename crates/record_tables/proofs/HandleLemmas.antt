-- The two halves of a handle.
use Rattle.std.proofs.Common.{◌≡◌, sym, ◌∙◌, ap, ap₂, ℕ, zero, suc, false, List, [], ◌∷◌, ◌++◌, Contains, ◌+◌, ◌*◌, ◌/◌, ◌%◌, ◌<◌, ◌^◌, arith}
use Rattle.std.specs.List.{AllByRecursion, IsDistinct}
use Rattle.std.proofs.lemmas.Bool.{ne_eqb}
use Rattle.std.proofs.lemmas.Nat.{div-add-mod', div-mul-add, mod-mul-add}
use Rattle.record_tables.specs.Handles.{IsHandleOf, position_of, same_handle, slot_of}
use Rattle.record_tables.specs.declared.handle.Handle.{Handle}

-- a handle that is made of a slot and a position has both
pub is_handle : (x p : ℕ) (h : Handle) → h.bits ≡ x * 2 ^ 40 + p → p < 2 ^ 40 → IsHandleOf x p h
unfolding position_of slot_of
is_handle x p h is small = record {
  its_slot = ap (λ (n : ℕ). n / 2 ^ 40) is ∙ div-mul-add x (2 ^ 40) p small;
  its_position = ap (λ (n : ℕ). n % 2 ^ 40) is ∙ mod-mul-add x (2 ^ 40) p small;
}

-- a handle is known by both
bits_of : (h : Handle) → h.bits ≡ slot_of h * 2 ^ 40 + position_of h
unfolding position_of slot_of
bits_of h = sym (div-add-mod' h.bits (2 ^ 40))

pub one_handle : (h k : Handle) → slot_of h ≡ slot_of k → position_of h ≡ position_of k → h ≡ k
one_handle h k x p =
    let same : h.bits ≡ k.bits = bits_of h ∙ ap₂ (λ (a b : ℕ). a * 2 ^ 40 + b) x p ∙ sym (bits_of k) in
    λ i. record { bits = same i }

-- a handle that is none of these stands behind them once
with_last : (P : Handle → Type 0) (hs : List Handle) (h : Handle) → AllByRecursion P hs → P h → AllByRecursion P (hs ++ h ∷ [])
with_last P [] h all is = (is, tt)
with_last P (k ∷ ks) h all is = (all.0, with_last P ks h all.1 is)

pub one_more : (hs : List Handle) (h : Handle) → IsDistinct same_handle hs → (Contains hs h → ⊥) → IsDistinct same_handle (hs ++ h ∷ [])
unfolding IsDistinct
one_more [] h distinct none = (tt, tt)
one_more (k ∷ ks) h distinct none = (
  with_last (λ y. same_handle k y ≡ false) ks h distinct.0 (ne_eqb k.bits h.bits (λ is. none (zero, omega arith, λ i. record { bits = is i }))),
  one_more ks h distinct.1 (λ has. none (suc has.0, omega (arith, has.1), has.2)),
)

-- no handles
pub none_twice : IsDistinct same_handle []
unfolding IsDistinct
none_twice = tt
