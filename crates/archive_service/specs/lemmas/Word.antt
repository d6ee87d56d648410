-- What the words of scripts are made of: which bytes they lack, and where a text is cut.
use Rattle.std.proofs.Common.{◌≡◌, ◌≢◌, ℕ, zero, suc, Bool, true, ◌&&◌, ◌||◌, ◌/◌, ◌%◌, ◌<◌, inl, inr, List, [], ◌∷◌, ◌++◌, slice_index, codes, refl, arith}
use Rattle.std.specs.Prelude.{nat_le}
use Rattle.std.specs.List.{AllByRecursion}
use Rattle.std.specs.Fmt.{decimal}
use Rattle.std.specs.Int.{IsInRange}
use Rattle.std.specs.Str.Parse.{AllDigits}
use Rattle.std.proofs.lemmas.Bool.{and_parts, cases_lt}
use Rattle.std.proofs.lemmas.Bool.Decides.{nat_tests}
use Rattle.std.proofs.lemmas.Str.Parse.{digit_from_value}
use Rattle.std.proofs.lemmas.Fmt.{decimal_is_IsNumeral}
use Rattle.hex.specs.Hex.{IsBytes, encode_lower, encode_with, lower_digits}
use Rattle.archive_service.specs.Texts.{value_text}
use Rattle.archive_service.specs.Script.{AreBytes, IsIndex, IsValue}
use Rattle.archive_service.specs.Words.{IsLowerDigit}

-- the text has no such byte
abbrev pub Lacks : ℕ → List ℕ → Type 0
Lacks byte text = AllByRecursion (λ b. b ≢ byte) text

-- a text is cut at its first such byte in one way
pub cut_once : (c : ℕ) (a b x y : List ℕ) → Lacks c a → Lacks c b → a ++ c ∷ x ≡ b ++ c ∷ y → (a ≡ b) × (x ≡ y)
cut_once c [] [] x y ha hb e = (refl, cc)
cut_once c [] (b ∷ bs) x y ha hb e = absurd (hb.0 (cc))
cut_once c (a ∷ more) [] x y ha hb e = absurd (ha.0 (cc))
cut_once c (a ∷ more) (b ∷ bs) x y ha hb e =
    let head : a ≡ b = cc in
    let rest : more ++ c ∷ x ≡ bs ++ c ∷ y = cc in
    let parts = cut_once c more bs x y ha.1 hb.1 rest in
    (cc, parts.1)

-- a text that lacks the byte is not cut
pub cut_never : (c : ℕ) (t a x : List ℕ) → Lacks c t → t ≡ a ++ c ∷ x → ⊥
cut_never c [] [] x h e = cc
cut_never c [] (a ∷ more) x h e = cc
cut_never c (t ∷ ts) [] x h e = h.0 (cc)
cut_never c (t ∷ ts) (a ∷ more) x h e =
    let rest : ts ≡ more ++ c ∷ x = cc in
    cut_never c ts more x h.1 rest

-- where a fact implies another, so it does of each element
pub all_implies : (P Q : ℕ → Type 0) → ((b : ℕ) → P b → Q b) → (xs : List ℕ) → AllByRecursion P xs → AllByRecursion Q xs
all_implies P Q f [] h = tt
all_implies P Q f (x ∷ xs) h = (f x h.0, all_implies P Q f xs h.1)

pub all_append : {X : Type 0} (P : X → Type 0) (xs ys : List X) → AllByRecursion P xs → AllByRecursion P ys → AllByRecursion P (xs ++ ys)
all_append P [] ys hx hy = hy
all_append P (x ∷ xs) ys hx hy = (hx.0, all_append P xs ys hx.1 hy)

digits_by_value : (ds : List ℕ) → AllDigits 10 ds → AllByRecursion (IsInRange 48 57) ds
digits_by_value [] h = tt
digits_by_value (c ∷ cs) h = (digit_from_value c h.0, digits_by_value cs h.1)

pub decimal_digits : (n : ℕ) → IsIndex n → AllByRecursion (IsInRange 48 57) (decimal n)
decimal_digits n h = digits_by_value (decimal n) (decimal_is_IsNumeral n h).0.1

pub decimal_lacks : (c n : ℕ) → c < 48 → IsIndex n → Lacks c (decimal n)
decimal_lacks c n low h = all_implies (IsInRange 48 57) (λ b. b ≢ c) (λ b r. omega arith) (decimal n) (decimal_digits n h)

-- a test of each number below n, which computes
abbrev all_below : (ℕ → Bool) → ℕ → Bool
all_below test zero = true
all_below test (suc n) = test n && all_below test n

pub all_below-at : (test : ℕ → Bool) (n k : ℕ) → all_below test n ≡ true → k < n → test k ≡ true
all_below-at test zero k h lt = absurd (omega arith)
all_below-at test (suc n) k h lt =
    let parts = and_parts (test n) (all_below test n) h in
    elim (cases_lt k n) [
      | inl below ↦ all_below-at test n k parts.1 below
      | inr top ↦
          let e : k ≡ n = omega arith in
          rw e parts.0
    ]

abbrev pub is_lower_digit : ℕ → Bool
is_lower_digit c = nat_le 48 c && nat_le c 57 || nat_le 97 c && nat_le c 102

lower_digit : (c : ℕ) → is_lower_digit c ≡ true → IsLowerDigit c
lower_digit c h = grind (arith, nat_tests)

lower_digit_at : (d : ℕ) → d < 16 → IsLowerDigit (slice_index lower_digits d)
lower_digit_at d h = lower_digit (slice_index lower_digits d) (all_below-at (λ d. is_lower_digit (slice_index lower_digits d)) 16 d refl h)

pub encode_digits : (bytes : List ℕ) → AreBytes bytes → AllByRecursion IsLowerDigit (encode_lower bytes)
unfolding encode_with
encode_digits [] h = tt
encode_digits (b ∷ bytes) h =
    let byte : b < 256 = h.0 in
    (lower_digit_at (b / 16) (omega arith), (lower_digit_at (b % 16) (omega arith), encode_digits bytes h.1))

pub are_bytes : (bytes : List ℕ) → AreBytes bytes → IsBytes bytes
are_bytes [] h i = omega arith
are_bytes (b ∷ bytes) h zero = h.0
are_bytes (b ∷ bytes) h (suc i) = are_bytes bytes h.1 i

pub above_digits : (c : ℕ) → c < 48 → (b : ℕ) → IsLowerDigit b → b ≢ c
above_digits c low b (inl digit) = omega arith
above_digits c low b (inr letter) = omega arith

pub encode_lacks : (c : ℕ) (bytes : List ℕ) → c < 48 → AreBytes bytes → Lacks c (encode_lower bytes)
encode_lacks c bytes low h = all_implies IsLowerDigit (λ b. b ≢ c) (above_digits c low) (encode_lower bytes) (encode_digits bytes h)

dash_lacks : (c : ℕ) → c < 45 → Lacks c (codes "-")
dash_lacks c low = (omega arith, tt)

pub value_lacks : (c max : ℕ) (value : List ℕ) → c < 45 → IsValue max value → Lacks c (value_text value)
value_lacks c max [] low h = dash_lacks c low
value_lacks c max (b ∷ bytes) low h = encode_lacks c (b ∷ bytes) (omega arith) h.1
