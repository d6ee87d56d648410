-- Four numbers, one spelling behind another.
use Rattle.std.proofs.Common.{◌≡◌, ℕ, ◌+◌, ◌≤◌, ◌++◌, List, length, take, drop, sym, ◌∙◌, ap, arith, length-drop}
use Rattle.std.specs.Int.{w32, w64, to_be_bytes}
use Rattle.std.proofs.lemmas.List.{take-append-drop, take_all, drop-drop}

abbrev pub four_numbers : ℕ → ℕ → ℕ → ℕ → List ℕ
four_numbers a b c d = to_be_bytes w64 a ++ to_be_bytes w64 b ++ to_be_bytes w64 c ++ to_be_bytes w32 d

-- eight bytes from a place on, and those behind them
join : (k : ℕ) (bytes : List ℕ) → take 8 (drop k bytes) ++ drop (k + 8) bytes ≡ drop k bytes
join k bytes = ap (λ (rest : List ℕ). take 8 (drop k bytes) ++ rest) (sym (drop-drop 8 k bytes)) ∙ take-append-drop 8 (drop k bytes)

-- the bytes are their four parts
pub four_parts : (bytes : List ℕ) → length bytes ≤ 28 → take 8 (drop 0 bytes) ++ (take 8 (drop 8 bytes) ++ (take 8 (drop 16 bytes) ++ take 4 (drop 24 bytes))) ≡ bytes
four_parts bytes le =
    ap (λ (rest : List ℕ). take 8 (drop 0 bytes) ++ (take 8 (drop 8 bytes) ++ (take 8 (drop 16 bytes) ++ rest))) (take_all 4 (drop 24 bytes) (omega (arith, length-drop 24 bytes, le)))
    ∙ ap (λ (rest : List ℕ). take 8 (drop 0 bytes) ++ (take 8 (drop 8 bytes) ++ rest)) (join 16 bytes)
    ∙ ap (λ (rest : List ℕ). take 8 (drop 0 bytes) ++ rest) (join 8 bytes)
    ∙ join 0 bytes

pub spelled_by : (bytes : List ℕ) (a b c d : ℕ) → length bytes ≤ 28 → to_be_bytes w64 a ≡ take 8 (drop 0 bytes) → to_be_bytes w64 b ≡ take 8 (drop 8 bytes) → to_be_bytes w64 c ≡ take 8 (drop 16 bytes) → to_be_bytes w32 d ≡ take 4 (drop 24 bytes) → four_numbers a b c d ≡ bytes
spelled_by bytes a b c d le is_a is_b is_c is_d =
    let parts : to_be_bytes w64 a ++ (to_be_bytes w64 b ++ (to_be_bytes w64 c ++ to_be_bytes w32 d)) ≡ take 8 (drop 0 bytes) ++ (take 8 (drop 8 bytes) ++ (take 8 (drop 16 bytes) ++ take 4 (drop 24 bytes))) = λ i. is_a i ++ (is_b i ++ (is_c i ++ is_d i)) in
    parts ∙ four_parts bytes le
