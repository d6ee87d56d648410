-- Each number has one varint, of few bytes, and no varint begins another.
use Rattle.std.proofs.Common.{◌≡◌, ℕ, zero, suc, ◌+◌, ◌*◌, ◌/◌, ◌%◌, ◌^◌, ◌<◌, ◌≤◌, List, [], ◌∷◌, ◌++◌, All, length, take, arith, refl, sym, ap, ◌∙◌, subst, inl, inr}
use Rattle.std.proofs.lemmas.Bool.{cases_lt}
use Rattle.std.proofs.lemmas.Bool.Decides.{nat_tests}
use Rattle.std.proofs.lemmas.Nat.{pow-add}
use Rattle.std.proofs.lemmas.List.{append_cancel_left}
use Rattle.value_codec.specs.Varint.{IsVarint, varint_within, varint}

-- a byte that goes on, before the varint of a number that isn't 0
pub joined : (b : ℕ) (tail : List ℕ) (n high : ℕ) → 128 ≤ b → b < 256 → 0 < high → n + 128 ≡ b + 128 * high
    → IsVarint tail high → IsVarint (b ∷ tail) n
joined b [] n high more byte pos is spelled = absurd spelled
joined b (c ∷ tail) n high more byte pos is spelled = (more, byte, high, pos, is, spelled)

-- and back
pub parted : (b : ℕ) (tail : List ℕ) (n : ℕ) → 128 ≤ b → IsVarint (b ∷ tail) n
    → (high : ℕ) × (0 < high) × (n + 128 ≡ b + 128 * high) × IsVarint tail high
parted b [] n more spelled = absurd (omega (arith, spelled.0))
parted b (c ∷ tail) n more spelled = (spelled.2, spelled.3, spelled.4, spelled.5)

pub step : (k : ℕ) → 2 ^ (7 * suc k) ≡ 128 * 2 ^ (7 * k)
step k =
    let more : 7 * suc k ≡ 7 + 7 * k = omega arith in
    ap (λ j. 2 ^ j) more ∙ pow-add 2 7 (7 * k)

-- no varint begins another
pub one_prefix : (a b x y : List ℕ) (m n : ℕ) → IsVarint a m → IsVarint b n → a ++ x ≡ b ++ y → (a ≡ b) × (m ≡ n)
one_prefix [] b x y m n left right same = absurd left
one_prefix (p ∷ a) [] x y m n left right same = absurd right
one_prefix (p ∷ []) (q ∷ []) x y m n left right same =
    let first : p ≡ q = cc in (ap (λ z. z ∷ []) first, left.1 ∙ first ∙ sym right.1)
one_prefix (p ∷ []) (q ∷ s ∷ b) x y m n left right same = let first : p ≡ q = cc in absurd (omega (arith, left.0, right.0))
one_prefix (p ∷ r ∷ a) (q ∷ []) x y m n left right same = let first : p ≡ q = cc in absurd (omega (arith, left.0, right.0))
one_prefix (p ∷ r ∷ a) (q ∷ s ∷ b) x y m n left right same =
    let first : p ≡ q = cc in
    let rest : (r ∷ a) ++ x ≡ (s ∷ b) ++ y = cc in
    let ih = one_prefix (r ∷ a) (s ∷ b) x y left.2 right.2 left.5 right.5 rest in
    (λ i. first i ∷ ih.0 i, omega (arith, first, ih.1, left.4, right.4))

within_short : (more n : ℕ) → n < 128 → varint_within (suc more) n ≡ n ∷ []
unfolding varint_within
within_short more n short = grind (arith, nat_tests)

within_long : (more n : ℕ) → 128 ≤ n → varint_within (suc more) n ≡ (128 + n % 128) ∷ varint_within more (n / 128)
unfolding varint_within
within_long more n long = grind (arith, nat_tests)

-- the spelling by division is a varint
within_spells : (more n : ℕ) → n ≤ more → IsVarint (varint_within more n) n
unfolding varint_within
within_spells zero n small = (omega arith, refl)
within_spells (suc more) n small =
    elim (cases_lt n 128) [
      | inl short ↦ rw (within_short more n short) (short, refl)
      | inr long ↦ rw (within_long more n long)
          (joined (128 + n % 128) (varint_within more (n / 128)) n (n / 128) (omega arith) (omega arith) (omega arith) (omega arith)
          (within_spells more (n / 128) (omega arith)))
    ]

pub varint_spells : (n : ℕ) → IsVarint (varint n) n
unfolding varint
varint_spells n = within_spells n n (omega arith)

-- a number has one varint
one_spelling : (a b : List ℕ) (n : ℕ) → IsVarint a n → IsVarint b n → a ≡ b
one_spelling [] b n left right = absurd left
one_spelling (p ∷ a) [] n left right = absurd right
one_spelling (p ∷ []) (q ∷ []) n left right = ap (λ z. z ∷ []) (sym left.1 ∙ right.1)
one_spelling (p ∷ []) (q ∷ s ∷ b) n left right = absurd (omega (arith, left.0, left.1, right.0, right.3, right.4))
one_spelling (p ∷ r ∷ a) (q ∷ []) n left right = absurd (omega (arith, right.0, right.1, left.0, left.3, left.4))
one_spelling (p ∷ r ∷ a) (q ∷ s ∷ b) n left right =
    let first : p ≡ q = omega (arith, left.0, left.1, left.4, right.0, right.1, right.4) in
    let high : left.2 ≡ right.2 = omega (arith, left.0, left.1, left.4, right.0, right.1, right.4) in
    let rest = one_spelling (r ∷ a) (s ∷ b) right.2 (subst (IsVarint (r ∷ a)) high left.5) right.5 in
    λ i. first i ∷ rest i

pub varint_only : (bytes : List ℕ) (n : ℕ) → IsVarint bytes n → bytes ≡ varint n
varint_only bytes n spelled = one_spelling bytes (varint n) n spelled (varint_spells n)

-- seven bits a byte
at_most : (a : List ℕ) (k n : ℕ) → IsVarint a n → n < 2 ^ (7 * suc k) → length a ≤ suc k
at_most [] k n spelled below = absurd spelled
at_most (p ∷ []) k n spelled below = omega arith
at_most (p ∷ r ∷ a) zero n spelled below = absurd (omega (arith, below, spelled.0, spelled.3, spelled.4))
at_most (p ∷ r ∷ a) (suc k) n spelled below =
    omega (arith, at_most (r ∷ a) k spelled.2 spelled.5 (omega (arith, step (suc k), below, spelled.0, spelled.4)))

pub varint_at_most : (k n : ℕ) → n < 2 ^ (7 * suc k) → length (varint n) ≤ suc k
varint_at_most k n below = at_most (varint n) k n (varint_spells n) below

pub varint_short : (n : ℕ) → n < 128 → varint n ≡ n ∷ []
varint_short n short = sym (varint_only (n ∷ []) n (short, refl))

pub varint_long : (n : ℕ) → 128 ≤ n → varint n ≡ (128 + n % 128) ∷ varint (n / 128)
varint_long n long =
    sym (varint_only _ n (joined (128 + n % 128) (varint (n / 128)) n (n / 128) (omega arith) (omega arith) (omega arith) (omega arith) (varint_spells (n / 128))))

-- bytes that all go on begin with no varint
pub cut_none : (bytes : List ℕ) (n len : ℕ) → All (λ b. 128 ≤ b) bytes → IsVarint (take len bytes) n → ⊥
cut_none [] n zero on spelled = spelled
cut_none [] n (suc len) on spelled = spelled
cut_none (b ∷ bytes) n zero on spelled = spelled
cut_none (b ∷ bytes) n (suc len) on spelled =
    let rest = parted b (take len bytes) n (on 0 0 (omega arith)) spelled in
    cut_none bytes rest.0 len (λ k d inside. on (suc k) d (omega arith)) rest.3

-- two numbers' varints with anything behind them
pub varint_apart : (m n : ℕ) (x y : List ℕ) → varint m ++ x ≡ varint n ++ y → (m ≡ n) × (x ≡ y)
varint_apart m n x y same =
    let both = one_prefix (varint m) (varint n) x y m n (varint_spells m) (varint_spells n) same in
    (both.1, append_cancel_left (varint n) x y (ap (λ z. z ++ x) (sym both.0) ∙ same))
