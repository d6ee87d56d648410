-- A read takes a prefix of what is left.
use Rattle.std.proofs.Common.{◌≡◌, ℕ, ◌+◌, ◌≤◌, List, [], ◌∷◌, ◌++◌, length, take, drop, refl, sym, ap, ◌∙◌, arith}
use Rattle.std.proofs.lemmas.List.{take-append-drop, drop-drop, take_at, length-take-le}

pub prefix_taken : (from rest : List ℕ) (n : ℕ) → n ≤ length from → take n (take n from ++ rest) ≡ take n from
prefix_taken from rest n fits = take_at (take n from) rest n (length-take-le n from fits)

pub read_split : (bytes : List ℕ) (at n : ℕ) (buf : List ℕ) → take n buf ≡ take n (drop at bytes)
    → drop at bytes ≡ take n buf ++ drop (at + n) bytes
read_split bytes at n buf is =
    sym (ap (λ prefix. prefix ++ drop (at + n) bytes) is
    ∙ ap (λ back. take n (drop at bytes) ++ back) (sym (drop-drop n at bytes))
    ∙ take-append-drop n (drop at bytes))

pub none_left : (xs : List ℕ) → length xs ≡ 0 → xs ≡ []
none_left [] e = refl
none_left (x ∷ xs) e = absurd (omega arith)
