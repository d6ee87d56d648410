-- Numbers as bytes, and the first and last bytes of lists.
use Rattle.std.proofs.Common.{◌≡◌, ℕ, ◌+◌, ◌<◌, ◌^◌, List, ◌++◌, length, take, drop, refl, sym, ◌∙◌, ap, arith}
use Rattle.std.proofs.lemmas.List.{append_cancel_left, take_at, take-take, take-append-drop, drop-take}
use Rattle.std.proofs.lemmas.Nat.{from_be_bytes-to_be_bytes_4, from_be_bytes-to_be_bytes_8}
use Rattle.std.specs.Int.{w32, w64, to_be_bytes, from_be_bytes}

-- two lists that begin with parts of one length
pub append_parts : {A : Type 0} (a b x y : List A) → length a ≡ length b → a ++ x ≡ b ++ y → (a ≡ b) × (x ≡ y)
append_parts a b x y same is =
    let prefix = sym (take_at a x (length b) same) ∙ ap (take (length b)) is ∙ take_at b y (length b) refl in
    (prefix, append_cancel_left a x y (is ∙ ap (λ l. l ++ y) (sym prefix)))

-- a number is told by its bytes
pub same_number_8 : (m n : ℕ) → m < 2 ^ 64 → n < 2 ^ 64 → to_be_bytes w64 m ≡ to_be_bytes w64 n → m ≡ n
same_number_8 m n fits fits' same = sym (from_be_bytes-to_be_bytes_8 m fits) ∙ ap (from_be_bytes w64) same ∙ from_be_bytes-to_be_bytes_8 n fits'

pub same_number_4 : (m n : ℕ) → m < 2 ^ 32 → n < 2 ^ 32 → to_be_bytes w32 m ≡ to_be_bytes w32 n → m ≡ n
same_number_4 m n fits fits' same = sym (from_be_bytes-to_be_bytes_4 m fits) ∙ ap (from_be_bytes w32) same ∙ from_be_bytes-to_be_bytes_4 n fits'

pub length-eight : (n : ℕ) → length (to_be_bytes w64 n) ≡ 8
length-eight n = refl

pub length-four : (n : ℕ) → length (to_be_bytes w32 n) ≡ 4
length-four n = refl

-- the first m + n
pub take_two : {A : Type 0} (m n : ℕ) (xs : List A) → take (m + n) xs ≡ take m xs ++ take n (drop m xs)
take_two m n xs =
    sym (take-append-drop m (take (m + n) xs))
    ∙ ap (λ l. l ++ drop m (take (m + n) xs)) (take-take m (m + n) xs (omega arith))
    ∙ ap (λ l. take m xs ++ l) (drop-take m n xs)
