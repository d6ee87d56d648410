-- How a varint is read byte by byte, and why the bytes at the start are none.
use Rattle.std.proofs.Common.{◌≡◌, ℕ, zero, suc, ◌+◌, ◌-◌, ◌*◌, ◌/◌, ◌%◌, ◌^◌, ◌<◌, ◌≤◌, List, [], ◌∷◌, ◌++◌, length, take, drop, get_or, arith, refl, sym, ap, ◌∙◌, subst, ◌⊎◌, inl, inr, pow_pos, mul-pos, mul_assoc, mul_left_comm, add-one, add-mul, mul-le-mul_right, mul_comm, append_assoc, length-take-le, take_all, take-take, take-append-drop, Fits, w64, Result, Ok, Err, IfOk, IfErr}
use Rattle.std.proofs.lemmas.Bool.{cases_lt}
use Rattle.std.proofs.lemmas.Nat.{pow-add, shl_whole, shr_high}
use Rattle.std.proofs.Math.Facts.{Fits-of_lt}
use Rattle.std.proofs.Math.Nat.{lt_of_mul-lt-mul_left}
use Rattle.std.proofs.Math.Pow.{pow_mono}
use Rattle.std.proofs.Math.Seq.{take-suc, take-add, take-append_seam}
use Rattle.value_codec.specs.declared.codec.Error.{Error}
use Rattle.value_codec.specs.Varint.{IsBase128, IsVarint, varint, BeginsWithVarint, BeginsWithNone, IsCutShort, IsWhyNone, ReadsBack}
use Rattle.value_codec.specs.lemmas.Varint.{cut_none, joined, one_prefix, parted, step, varint_spells}

-- each byte asks for one more
abbrev pub GoesOn : List ℕ → Type 0
GoesOn [] = Unit {0}
GoesOn (b ∷ bs) = (128 ≤ b) × (b < 256) × GoesOn bs

-- what the low seven bits of the bytes are worth
abbrev pub low_bits : List ℕ → ℕ
low_bits [] = 0
low_bits (b ∷ bs) = b - 128 + 128 * low_bits bs

-- bytes that go on are no varint by themselves
pub unfinished : (xs : List ℕ) (n : ℕ) → GoesOn xs → IsVarint xs n → ⊥
unfinished [] n on spelled = spelled
unfinished (b ∷ xs) n on spelled =
    let rest = parted b xs n on.0 spelled in unfinished xs rest.0 on.2 rest.3

worth_more : (k high : ℕ) → 2 ^ (7 * suc k) * high ≡ 128 * (2 ^ (7 * k) * high)
worth_more k high = ap (λ z. z * high) (step k) ∙ mul_assoc 128 (2 ^ (7 * k)) high

still_some : (xs : List ℕ) (high n : ℕ) → 0 < n → n ≡ low_bits xs + 2 ^ (7 * length xs) * high → (0 < length xs → 0 < high) → 0 < high
still_some [] high n pos is some = omega arith
still_some (x ∷ xs) high n pos is some = some (omega arith)

-- the varint of a number behind bytes that go on
pub prefix_joined : (xs tail : List ℕ) (high : ℕ) → GoesOn xs → IsVarint tail high → (0 < length xs → 0 < high)
    → IsVarint (xs ++ tail) (low_bits xs + 2 ^ (7 * length xs) * high)
prefix_joined [] tail high on spelled pos = let whole : high ≡ 0 + 1 * high = omega arith in subst (IsVarint tail) whole spelled
prefix_joined (b ∷ xs) tail high on spelled pos =
    let some : 0 < high = pos (omega arith) in
    let worth = worth_more (length xs) high in
    let above : 0 < 2 ^ (7 * length xs) * high = mul-pos (pow_pos (7 * length xs)) some in
    joined b (xs ++ tail) _ (low_bits xs + 2 ^ (7 * length xs) * high) on.0 on.1 (omega arith) (omega (arith, worth, on.0))
    (prefix_joined xs tail high on.2 spelled (λ _. some))

-- and back: what follows bytes that go on
pub prefix_parted : (xs tail : List ℕ) (n : ℕ) → GoesOn xs → IsVarint (xs ++ tail) n
    → (high : ℕ) × (0 < length xs → 0 < high) × (n ≡ low_bits xs + 2 ^ (7 * length xs) * high) × IsVarint tail high
prefix_parted [] tail n on spelled = (n, (λ some. absurd (omega arith)), omega arith, spelled)
prefix_parted (b ∷ xs) tail n on spelled =
    let first = parted b (xs ++ tail) n on.0 spelled in
    let rest = prefix_parted xs tail first.0 on.2 first.3 in
    let worth = worth_more (length xs) rest.0 in
    (rest.0, (λ _. still_some xs rest.0 first.0 first.1 rest.2 rest.1), omega (arith, worth, on.0, first.2, rest.2), rest.3)

pub low_bits-below : (xs : List ℕ) → GoesOn xs → low_bits xs < 2 ^ (7 * length xs)
low_bits-below [] on = omega arith
low_bits-below (b ∷ xs) on = omega (arith, step (length xs), low_bits-below xs on.2, on.0, on.1)

pub low_bits-last : (xs : List ℕ) (b : ℕ) → low_bits (xs ++ b ∷ []) ≡ low_bits xs + (b - 128) * 2 ^ (7 * length xs)
low_bits-last [] b = omega arith
low_bits-last (x ∷ xs) b =
    let worth : (b - 128) * 2 ^ (7 * suc (length xs)) ≡ 128 * ((b - 128) * 2 ^ (7 * length xs)) =
    ap (λ z. (b - 128) * z) (step (length xs)) ∙ mul_left_comm (b - 128) 128 (2 ^ (7 * length xs)) in
    omega (arith, worth, low_bits-last xs b)

pub GoesOn-last : (xs : List ℕ) (b : ℕ) → GoesOn xs → 128 ≤ b → b < 256 → GoesOn (xs ++ b ∷ [])
GoesOn-last [] b on more byte = (more, byte, tt)
GoesOn-last (x ∷ xs) b on more byte = (on.0, on.1, GoesOn-last xs b on.2 more byte)

pub GoesOn-take : (k : ℕ) (xs : List ℕ) → GoesOn xs → GoesOn (take k xs)
GoesOn-take zero xs on = tt
GoesOn-take (suc k) [] on = tt
GoesOn-take (suc k) (x ∷ xs) on = (on.0, on.1, GoesOn-take k xs on.2)

-- no spelling in base 128 is shorter
shortest : (a b : List ℕ) (n : ℕ) → IsVarint a n → IsBase128 b n → length a ≤ length b
shortest [] b n left right = absurd left
shortest (p ∷ a) [] n left right = absurd right
shortest (p ∷ []) (q ∷ b) n left right = omega arith
shortest (p ∷ r ∷ a) (q ∷ []) n left right = absurd (omega (arith, right.0, right.1, left.0, left.3, left.4))
shortest (p ∷ r ∷ a) (q ∷ s ∷ b) n left right =
    let high : left.2 ≡ right.2 = omega (arith, left.0, left.1, left.4, right.0, right.1, right.3) in
    omega (arith, shortest (r ∷ a) (s ∷ b) right.2 (subst (IsVarint (r ∷ a)) high left.5) right.4)

pub varint_shortest : (bytes : List ℕ) (n : ℕ) → IsBase128 bytes n → length (varint n) ≤ length bytes
varint_shortest bytes n spelled = shortest (varint n) bytes n (varint_spells n) spelled

-- the first bytes go on, and their low seven bits and the room that is left are these
pub record IsReadTo (bits : ℕ) (bytes : List ℕ) (at value room : ℕ) : Type 0 where
  pub goes_on : GoesOn (take at bytes)
  pub worth : value ≡ low_bits (take at bytes)
  pub left : room + 1 ≡ 2 ^ (bits - 7 * at)
  pub before : 7 * at < bits

-- one less than a product, parted
less_one : (h a p q : ℕ) → a ≡ h + 1 → 0 < p → a * p ≡ q → h * p + (p - 1) ≡ q - 1
less_one h a p q is pos product = omega (arith, add-mul h 1 p, ap (λ z. z * p) is, product, pos)

-- the greatest number of so many bits, from that of 64
greatest : (bits : ℕ) → bits ≤ 64 → (2 ^ 64 - 1) / 2 ^ (64 - bits) + 1 ≡ 2 ^ bits
greatest bits fits =
    let all : bits + (64 - bits) ≡ 64 = omega arith in
    let product : 2 ^ bits * 2 ^ (64 - bits) ≡ 2 ^ 64 = sym (pow-add 2 bits (64 - bits)) ∙ ap (λ z. 2 ^ z) all in
    let some : 0 < 2 ^ bits = pow_pos bits in
    let pos : 0 < 2 ^ (64 - bits) = pow_pos (64 - bits) in
    let whole = less_one (2 ^ bits - 1) (2 ^ bits) (2 ^ (64 - bits)) (2 ^ 64) (omega arith) pos product in
    let quotient = shr_high (2 ^ bits - 1) (64 - bits) (2 ^ (64 - bits) - 1) (omega arith) in
    omega (arith, ap (λ z. z / 2 ^ (64 - bits)) whole, quotient)

-- where a byte more fits, there are more than seven bits
wide : (k room : ℕ) → room + 1 ≡ 2 ^ k → 128 ≤ room → 7 < k
wide k room is fits =
    elim (cases_lt 7 k) [ inl more ↦ more | inr few ↦ let small : 2 ^ k ≤ 2 ^ 7 = pow_mono few in absurd (omega arith) ]

-- and where none fits, no more
narrow : (k room : ℕ) → room + 1 ≡ 2 ^ k → room < 128 → k ≤ 7
narrow k room is full =
    elim (cases_lt 7 k) [ inl more ↦ let large : 2 ^ 8 ≤ 2 ^ k = pow_mono more in absurd (omega arith) | inr few ↦ few ]

narrower : (k room : ℕ) → room + 1 ≡ 2 ^ (7 + k) → room / 128 + 1 ≡ 2 ^ k
narrower k room is = omega (arith, pow-add 2 7 k)

prefix_more : (bytes : List ℕ) (at b : ℕ) → at < length bytes → get_or bytes at 0 ≡ b → take (at + 1) bytes ≡ take at bytes ++ b ∷ []
prefix_more bytes at b inside here = rw add-one (take-suc bytes at 0 inside ∙ ap (λ z. take at bytes ++ z ∷ []) here)

-- at the start nothing is read
pub read_start : (bits : ℕ) (bytes : List ℕ) → 0 < bits → bits ≤ 64 → IsReadTo bits bytes 0 0 ((2 ^ 64 - 1) / 2 ^ (64 - bits))
read_start bits bytes some fits = record {
  goes_on = tt;
  worth = refl;
  left = let same : bits ≡ bits - 7 * 0 = omega arith in greatest bits fits ∙ ap (λ z. 2 ^ z) same;
  before = omega arith;
}

-- a byte that goes on
pub read_more : (bits : ℕ) (bytes : List ℕ) (at value room b : ℕ) → IsReadTo bits bytes at value room → at < length bytes → get_or bytes at 0 ≡ b
    → 128 ≤ b → b < 256 → 128 ≤ room → IsReadTo bits bytes (at + 1) (value + (b - 128) * 2 ^ (7 * at)) (room / 128)
read_more bits bytes at value room b so_far inside here more byte fits = record {
  goes_on = subst GoesOn (sym (prefix_more bytes at b inside here)) (GoesOn-last (take at bytes) b so_far.goes_on more byte);
  worth =
      ap (λ z. z + (b - 128) * 2 ^ (7 * at)) so_far.worth
      ∙ ap (λ z. low_bits (take at bytes) + (b - 128) * 2 ^ (7 * z)) (sym (length-take-le at bytes (omega arith)))
      ∙ sym (low_bits-last (take at bytes) b)
      ∙ ap low_bits (sym (prefix_more bytes at b inside here));
  left =
      let seven = wide (bits - 7 * at) room so_far.left fits in
      let split : bits - 7 * at ≡ 7 + (bits - 7 * (at + 1)) = omega arith in
      narrower (bits - 7 * (at + 1)) room (so_far.left ∙ ap (λ z. 2 ^ z) split);
  before = omega (arith, wide (bits - 7 * at) room so_far.left fits);
}

pub IsReadTo-below : (bits : ℕ) (bytes : List ℕ) (at value room : ℕ) → IsReadTo bits bytes at value room → at ≤ length bytes → value < 2 ^ (7 * at)
IsReadTo-below bits bytes at value room so_far inside =
    subst (λ z. value < 2 ^ (7 * z)) (length-take-le at bytes inside)
    (subst (λ z. z < 2 ^ (7 * length (take at bytes))) (sym so_far.worth) (low_bits-below (take at bytes) so_far.goes_on))

-- what a number's bytes sum up to is in range
pub sum_fits : (bits at low b : ℕ) → 7 * at ≤ bits → low < 2 ^ (7 * at) → b < 2 ^ (bits - 7 * at) → low + b * 2 ^ (7 * at) < 2 ^ bits
sum_fits bits at low b within below small =
    let all : bits - 7 * at + 7 * at ≡ bits = omega arith in
    let product : 2 ^ (bits - 7 * at) * 2 ^ (7 * at) ≡ 2 ^ bits = sym (pow-add 2 (bits - 7 * at) (7 * at)) ∙ ap (λ z. 2 ^ z) all in
    let least : (b + 1) * 2 ^ (7 * at) ≤ 2 ^ (bits - 7 * at) * 2 ^ (7 * at) = mul-le-mul_right (2 ^ (7 * at)) (omega arith) in
    omega (arith, add-mul b 1 (2 ^ (7 * at)))

-- the byte that ends a number
pub read_last : (bits : ℕ) (bytes : List ℕ) (at value room b : ℕ) → IsReadTo bits bytes at value room → at < length bytes → get_or bytes at 0 ≡ b
    → b < 128 → b ≤ room → (0 < at → 0 < b) → BeginsWithVarint (2 ^ bits) bytes (value + b * 2 ^ (7 * at)) (at + 1)
read_last bits bytes at value room b so_far inside here last fits some = record {
  within = omega arith;
  spelled =
      let at_is = length-take-le at bytes (omega arith) in
      let prefix = prefix_joined (take at bytes) (b ∷ []) b so_far.goes_on (last, refl) (λ h. some (omega arith)) in
      let worth : low_bits (take at bytes) + 2 ^ (7 * length (take at bytes)) * b ≡ value + b * 2 ^ (7 * at) =
      ap (λ z. low_bits (take at bytes) + 2 ^ (7 * z) * b) at_is
      ∙ ap (λ z. z + 2 ^ (7 * at) * b) (sym so_far.worth)
      ∙ ap (λ z. value + z) (mul_comm (2 ^ (7 * at)) b) in
      subst (λ z. IsVarint z (value + b * 2 ^ (7 * at))) (sym (prefix_more bytes at b inside here)) (subst (IsVarint (take at bytes ++ b ∷ [])) worth prefix);
  in_range = sum_fits bits at value b (omega (arith, so_far.before)) (IsReadTo-below bits bytes at value room so_far (omega arith)) (omega (arith, so_far.left));
}

-- seven bits in their place stay whole
pub in_place : (bits : ℕ) (bytes : List ℕ) (at value room b : ℕ) → IsReadTo bits bytes at value room → bits ≤ 64 → b ≤ room
    → (b * 2 ^ (7 * at)) % 2 ^ 64 ≡ b * 2 ^ (7 * at)
in_place bits bytes at value room b so_far width fits =
    shl_whole b (bits - 7 * at) (7 * at) 64 (omega (arith, so_far.left)) (omega (arith, so_far.before))

-- and added to what was read they fit 64 bits
pub sum_in_place : (bits : ℕ) (bytes : List ℕ) (at value room b : ℕ) → IsReadTo bits bytes at value room → at ≤ length bytes → bits ≤ 64 → b ≤ room
    → Fits w64 (value + (b * 2 ^ (7 * at)) % 2 ^ 64)
sum_in_place bits bytes at value room b so_far inside width fits =
    let below : value < 2 ^ (7 * at) = IsReadTo-below bits bytes at value room so_far inside in
    let sum = sum_fits bits at value b (omega (arith, so_far.before)) below (omega (arith, so_far.left)) in
    let most : 2 ^ bits ≤ 2 ^ 64 = pow_mono width in
    Fits-of_lt (omega (arith, in_place bits bytes at value room b so_far width fits, sum, most))

-- no varint has these bytes in front, where none of a number in range begins with the next byte
pub read_none : (bits : ℕ) (bytes : List ℕ) (at value room b : ℕ) → IsReadTo bits bytes at value room → at < length bytes → get_or bytes at 0 ≡ b
    → ((more : List ℕ) (high : ℕ) → IsVarint (b ∷ more) high → (0 < at → 0 < high) → high ≤ room → ⊥) → BeginsWithNone (2 ^ bits) bytes
read_none bits bytes at value room b so_far inside here none n len below spelled =
    elim (cases_lt at len) [
      | inl behind ↦
          let more = take (len - (at + 1)) (drop (at + 1) bytes) in
          let split : at + 1 + (len - (at + 1)) ≡ len = omega arith in
          let prefix : take len bytes ≡ take at bytes ++ b ∷ more =
          ap (λ z. take z bytes) (sym split)
          ∙ take-add (at + 1) (len - (at + 1)) bytes
          ∙ ap (λ z. z ++ more) (prefix_more bytes at b inside here)
          ∙ append_assoc (take at bytes) (b ∷ []) more in
          let at_is = length-take-le at bytes (omega arith) in
          let rest = prefix_parted (take at bytes) (b ∷ more) n so_far.goes_on (subst (λ z. IsVarint z n) prefix spelled) in
          let small : 2 ^ (7 * at) * rest.0 ≤ n = le_of_sum _ _ _ (rest.2 ∙ ap (λ z. low_bits (take at bytes) + 2 ^ (7 * z) * rest.0) at_is) in
          let all : 7 * at + (bits - 7 * at) ≡ bits = omega (arith, so_far.before) in
          let product : 2 ^ (7 * at) * 2 ^ (bits - 7 * at) ≡ 2 ^ bits = sym (pow-add 2 (7 * at) (bits - 7 * at)) ∙ ap (λ z. 2 ^ z) all in
          let fits : rest.0 < 2 ^ (bits - 7 * at) = lt_of_mul-lt-mul_left (2 ^ (7 * at)) (omega (arith, small, product, below)) in
          none more rest.0 rest.3 (λ h. rest.1 (omega (arith, at_is))) (omega (arith, so_far.left, fits))
      | inr before ↦
          unfinished (take len bytes) n
          (subst GoesOn (take-take len at bytes before) (GoesOn-take len (take at bytes) so_far.goes_on)) spelled
    ]
  where
    le_of_sum : (n low part : ℕ) → n ≡ low + part → part ≤ n
    le_of_sum n low part is = omega arith

-- a byte below 128 that is too large, or needless
pub last_none : (room at b : ℕ) (more : List ℕ) (high : ℕ) → b < 128 → (room < b) ⊎ ((b ≡ 0) × (0 < at)) → IsVarint (b ∷ more) high → (0 < at → 0 < high) → high ≤ room → ⊥
last_none room at b [] high last wrong spelled some fits = elim wrong [ inl large ↦ omega (arith, spelled.1) | inr needless ↦ omega (arith, spelled.1, some needless.1) ]
last_none room at b (c ∷ more) high last wrong spelled some fits = omega (arith, spelled.0)

-- a byte that goes on where there is no room
pub more_none : (room b : ℕ) (more : List ℕ) (high : ℕ) → 128 ≤ b → room < 128 → IsVarint (b ∷ more) high → high ≤ room → ⊥
more_none room b more high goes_on full spelled fits = let rest = parted b more high goes_on spelled in omega (arith, rest.1, rest.2)

GoesOn-at : (xs : List ℕ) (k d : ℕ) → GoesOn xs → k < length xs → 128 ≤ get_or xs k d
GoesOn-at [] k d on inside = absurd (omega arith)
GoesOn-at (x ∷ xs) zero d on inside = on.0
GoesOn-at (x ∷ xs) (suc k) d on inside = GoesOn-at xs k d on.2 (omega arith)

-- the bytes ended too early
pub read_cut : (bits : ℕ) (bytes : List ℕ) (at value room : ℕ) → IsReadTo bits bytes at value room → at ≡ length bytes → IsCutShort ((bits + 6) / 7) bytes
read_cut bits bytes at value room so_far ended = record {
  few = omega (arith, so_far.before);
  goes_on = λ k d inside. GoesOn-at bytes k d (subst GoesOn (take_all at bytes (omega arith)) so_far.goes_on) inside;
}

-- and did not: a byte ends the number, or there is no room
pub not_cut_last : (longest : ℕ) (bytes : List ℕ) (at : ℕ) → at < length bytes → get_or bytes at 0 < 128 → IsCutShort longest bytes → ⊥
not_cut_last longest bytes at inside last cut = omega (arith, cut.goes_on at 0 inside)

pub not_cut_full : (bits : ℕ) (bytes : List ℕ) (at value room : ℕ) → IsReadTo bits bytes at value room → at < length bytes → room < 128 → IsCutShort ((bits + 6) / 7) bytes → ⊥
not_cut_full bits bytes at value room so_far inside full cut =
    omega (arith, cut.few, narrow (bits - 7 * at) room so_far.left full)

-- what begins with a number's varint reads as that number
pub read_gives : (limit longest : ℕ) (bytes : List ℕ) (outcome : Result (ℕ × ℕ) Error) → IfOk outcome (λ it. BeginsWithVarint limit bytes it.0 it.1)
    → IfErr outcome (IsWhyNone limit longest bytes)
    → ReadsBack limit bytes outcome
read_gives limit longest bytes (Ok it) found refused n rest below is =
    let same = one_prefix (take it.1 bytes) (varint n) (drop it.1 bytes) rest it.0 n found.spelled (varint_spells n) (take-append-drop it.1 bytes ∙ is) in
    let len : it.1 ≡ length (varint n) = sym (length-take-le it.1 bytes found.within) ∙ ap length same.0 in
    λ i. Ok (same.1 i, len i)
read_gives limit longest bytes (Err e) found refused n rest below is =
    let prefix : take (length (varint n)) bytes ≡ varint n = ap (take (length (varint n))) is ∙ take-append_seam (varint n) rest in
    let spelled : IsVarint (take (length (varint n)) bytes) n = subst (λ z. IsVarint z n) (sym prefix) (varint_spells n) in
    absurd (elim refused [ inl cut ↦ cut_none bytes n _ cut.1.goes_on spelled | inr none ↦ none.1 n _ below spelled ])

-- what is left of 64 bits while a byte goes on
pub room_below : (len rest : ℕ) → rest < 2 ^ (64 - 7 * len) → 128 ≤ rest → len + 1 ≤ 9
room_below len rest below long =
    elim (cases_lt len 9) [
      | inl inside ↦ omega arith
      | inr past ↦ let one : 64 - 7 * len ≤ 1 = omega arith in let few : 2 ^ (64 - 7 * len) ≤ 2 ^ 1 = pow_mono one in absurd (omega arith)
    ]

-- and behind it
pub less_room : (len rest : ℕ) → len + 1 ≤ 9 → rest < 2 ^ (64 - 7 * len) → rest / 128 < 2 ^ (64 - 7 * (len + 1))
less_room len rest inside below =
    let split : 64 - 7 * len ≡ 7 + (64 - 7 * (len + 1)) = omega arith in
    omega (arith, below, ap (λ z. 2 ^ z) split, pow-add 2 7 (64 - 7 * (len + 1)))
