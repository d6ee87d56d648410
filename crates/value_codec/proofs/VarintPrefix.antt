-- The function that gives the number at the start of some bytes says what the grammar says.
use Rattle.std.proofs.Common.{◌≡◌, ℕ, List, [], ◌∷◌, length, take, Bool, true, false, if◌then◌else◌, Result, Ok, Err, IfOk, IfErr, refl, sym, ap, ◌∙◌, subst, inl, inr, true≢false}
use Rattle.std.proofs.lemmas.Bool.{cases_lt}
use Rattle.value_codec.specs.declared.codec.Error.{Error}
use Rattle.value_codec.specs.declared.codec.Error.TheVariants.{EndOfBuffer, InvalidVarint}
use Rattle.value_codec.specs.Varint.{IsVarint, BeginsWithVarint, BeginsWithNone, IsCutShort, IsWhyNone, base128, prefix_bytes, is_cut_short, is_varint, varint_prefix}
use Rattle.value_codec.specs.lemmas.Varint.{varint_spells}
use Rattle.value_codec.specs.lemmas.VarintPrefix.{cut_decided, prefix-last, prefix-more, prefix_found, unless, varint_decided}

prefix-take : (bytes : List ℕ) → prefix_bytes bytes ≡ take (length (prefix_bytes bytes)) bytes
prefix-take [] = refl
prefix-take (b ∷ bytes) =
    elim (cases_lt b 128) [
      | inl last ↦ subst (λ z. z ≡ take (length z) (b ∷ bytes)) (sym (prefix-last b bytes last)) refl
      | inr more ↦ subst (λ z. z ≡ take (length z) (b ∷ bytes)) (sym (prefix-more b bytes more)) (ap (λ z. b ∷ z) (prefix-take bytes))
    ]

pick_first : {T : Type 0} (a b : Bool) (x y z : T) → a ≡ true → (if a then x else if b then y else z) ≡ x
pick_first true b x y z is = refl
pick_first false b x y z is = absurd (true≢false (sym is))

pick_third : {T : Type 0} (a b : Bool) (x y z : T) → a ≡ false → b ≡ false → (if a then x else if b then y else z) ≡ z
pick_third true b x y z is is' = absurd (true≢false is)
pick_third false true x y z is is' = absurd (true≢false is')
pick_third false false x y z is is' = refl

-- bytes that are cut short
prefix_cut : (limit longest : ℕ) (bytes : List ℕ) → IsCutShort longest bytes → varint_prefix limit longest bytes ≡ Err EndOfBuffer
unfolding varint_prefix
prefix_cut limit longest bytes cut =
    pick_first (is_cut_short longest bytes) (is_varint limit (prefix_bytes bytes)) _ _ _ ((cut_decided longest bytes).1 cut)

-- bytes that begin with none
prefix_none : (limit longest : ℕ) (bytes : List ℕ) → (IsCutShort longest bytes → ⊥) → BeginsWithNone limit bytes
    → varint_prefix limit longest bytes ≡ Err InvalidVarint
unfolding varint_prefix
prefix_none limit longest bytes whole none =
    pick_third (is_cut_short longest bytes) (is_varint limit (prefix_bytes bytes)) _ _ _
    (unless _ (cut_decided longest bytes) whole)
    (unless _ (varint_decided limit (prefix_bytes bytes)) (λ is.
    none (base128 (prefix_bytes bytes)) (length (prefix_bytes bytes)) is.0
    (subst (λ z. IsVarint z (base128 (prefix_bytes bytes))) (is.1 ∙ prefix-take bytes) (varint_spells (base128 (prefix_bytes bytes))))))

-- what reading answers by the grammar is what the function gives
pub prefix_exact : (limit longest : ℕ) (bytes : List ℕ) (outcome : Result (ℕ × ℕ) Error)
    → IfOk outcome (λ it. BeginsWithVarint limit bytes it.0 it.1)
    → (IsCutShort longest bytes → outcome ≡ Err EndOfBuffer)
    → IfErr outcome (IsWhyNone limit longest bytes)
    → outcome ≡ varint_prefix limit longest bytes
prefix_exact limit longest bytes (Ok it) found cut refused = sym (prefix_found limit longest bytes it.0 it.1 found)
prefix_exact limit longest bytes (Err e) found cut refused =
    elim refused [
      | inl short ↦ ap (λ z. Err z) short.0 ∙ sym (prefix_cut limit longest bytes short.1)
      | inr none ↦ ap (λ z. Err z) none.0 ∙ sym (prefix_none limit longest bytes (λ short. apart e (cut short) none.0) none.1)
    ]
  where
    apart : (e : Error) → ◌≡◌ {A = Result (ℕ × ℕ) Error} (Err e) (Err EndOfBuffer) → e ≡ InvalidVarint → ⊥
    apart e one other = cc
