use Rattle.std.proofs.Common.{◌≡◌, refl, sym, subst, ◌∙◌, ap, ℕ, List, [], ◌∷◌, ◌++◌, length, take, drop, min, arith}
use Rattle.archives.specs.Words.{four_bytes}
use Rattle.archives.proofs.translator.FourCapTranslator.transform.Goals as goal

-- n bytes of the key, and the zeros that stay behind them, are its word
abbrev Fills : List ℕ → ℕ → Type 0
Fills key n = take n key ++ drop n (0 ∷ 0 ∷ 0 ∷ 0 ∷ []) ≡ four_bytes key

fills : (key : List ℕ) (n : ℕ) → n ≡ min (length key) 4 → Fills key n
fills [] n e = subst (Fills []) (sym e) refl
fills (a ∷ []) n e = subst (Fills (a ∷ [])) (sym e) refl
fills (a ∷ b ∷ []) n e = subst (Fills (a ∷ b ∷ [])) (sym e) refl
fills (a ∷ b ∷ c ∷ []) n e = subst (Fills (a ∷ b ∷ c ∷ [])) (sym e) refl
fills (a ∷ b ∷ c ∷ d ∷ key) n e =
    let four : n ≡ 4 = omega arith in subst (Fills (a ∷ b ∷ c ∷ d ∷ key)) (sym four) refl

pub returns : goal.returns
returns c =
    ap (λ (bytes : List ℕ). bytes ++ drop c.min-taken.result (0 ∷ 0 ∷ 0 ∷ 0 ∷ [])) c.copy_from_slice.ensures.after
    ∙ fills c.args.key.now c.min-taken.result c.min-taken.ensures
