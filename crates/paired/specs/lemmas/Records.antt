-- Lists of records: those of a prefix of the bytes are a prefix of the records; what `unbroken_prefix` keeps; and facts that hold of each record.
use Rattle.std.proofs.Common.{◌≡◌, ℕ, zero, suc, ◌+◌, ◌-◌, ◌*◌, ◌/◌, ◌<◌, ◌≤◌, Bool, true, false, ◌||◌, nat_lt, if◌then◌else◌, List, [], ◌∷◌, length, map, take, drop, get_or, IsTrue, refl, sym, ◌∙◌, ap, arith, length-take-le}
use Rattle.std.specs.List.{AllByRecursion}
use Rattle.std.proofs.lemmas.Bool.{le-ltb, or_right}
use Rattle.std.proofs.lemmas.List.{take-take, drop-take}
use Rattle.std.proofs.lemmas.Nat.{le-div}
use Rattle.std.proofs.Math.Nat.{div-mul-le_self}
use Rattle.segments.specs.FixedItems.{item_count, item_at}
use Rattle.paired.specs.Frames.{bytes_at}
use Rattle.paired.specs.Places.{last_end}
use Rattle.paired.specs.Records.{each_below, records, unbroken_prefix}
use Rattle.blob_device.proofs.general.Numbers.{item_ends}

pub length-each_below : {X : Type 0} (n : ℕ) (f : ℕ → X) → length (each_below n f) ≡ n
length-each_below zero f = refl
length-each_below (suc n) f = ap (λ (k : ℕ). suc k) (length-each_below n (λ i. f (i + 1)))

pub each_below-same : {X : Type 0} (n : ℕ) (f g : ℕ → X) → ((i : ℕ) → i < n → f i ≡ g i) → each_below n f ≡ each_below n g
each_below-same zero f g same = refl
each_below-same {X} (suc n) f g same =
    let rest : each_below n (λ i. f (i + 1)) ≡ each_below n (λ i. g (i + 1)) = each_below-same n (λ i. f (i + 1)) (λ i. g (i + 1)) (λ i lt. same (i + 1) (omega (arith, lt))) in
    ap (λ (x : X). x ∷ each_below n (λ i. f (i + 1))) (same 0 (omega arith)) ∙ ap (λ (xs : List X). g 0 ∷ xs) rest

pub take-each_below : {X : Type 0} (k n : ℕ) (f : ℕ → X) → k ≤ n → take k (each_below n f) ≡ each_below k f
take-each_below zero n f le = refl
take-each_below (suc k) zero f le = absurd (omega (arith, le))
take-each_below {X} (suc k) (suc n) f le = ap (λ (xs : List X). f 0 ∷ xs) (take-each_below k n (λ i. f (i + 1)) (omega (arith, le)))

-- bytes that stand in a prefix stand in the whole
pub bytes_at-take : (at n m : ℕ) (bytes : List ℕ) → at + n ≤ m → bytes_at (take m bytes) at n ≡ bytes_at bytes at n
bytes_at-take at n m bytes le =
    let split : m ≡ at + (m - at) = omega (arith, le) in
    ap (λ (x : ℕ). take n (drop at (take x bytes))) split ∙ ap (take n) (drop-take at (m - at) bytes) ∙ take-take n (m - at) (drop at bytes) (omega (arith, le))

pub length-records : (size : ℕ) (bytes : List ℕ) → length (records size bytes) ≡ length bytes / size
length-records size bytes = length-each_below (item_count size bytes) (item_at size bytes)

pub records-take : (size n : ℕ) (bytes : List ℕ) → 1 ≤ size → n ≤ length bytes → records size (take n bytes) ≡ take (n / size) (records size bytes)
records-take size n bytes pos le =
    let fits : n / size ≤ length bytes / size = le-div (n / size) (length bytes) size (omega (arith, pos)) (omega (arith, le, div-mul-le_self n size)) in
    ap (λ (x : ℕ). each_below (x / size) (item_at size (take n bytes))) (length-take-le n bytes le)
    ∙ each_below-same (n / size) (item_at size (take n bytes)) (item_at size bytes) (λ p lt. bytes_at-take (p * size) size n bytes (item_ends size n p lt))
    ∙ sym (take-each_below (n / size) (length bytes / size) (item_at size bytes) fits)

-- the records of a prefix of the bytes are the first ones
pub records-prefix : (size : ℕ) (bytes kept : List ℕ) → 1 ≤ size → kept ≡ take (length kept) bytes → length kept ≤ length bytes
    → records size kept ≡ take (length (records size kept)) (records size bytes)
records-prefix size bytes kept pos is le =
    ap (records size) is ∙ records-take size (length kept) bytes pos le ∙ ap (λ (k : ℕ). take k (records size bytes)) (sym (length-records size kept))

-- so many records are whole in the bytes
pub records-enough : (size n : ℕ) (bytes : List ℕ) → 1 ≤ size → n * size ≤ length bytes → n ≤ length (records size bytes)
records-enough size n bytes pos le = omega (arith, length-records size bytes, le-div n (length bytes) size (omega (arith, pos)) le)

pub map-same : {X Y : Type 0} (f g : X → Y) (xs : List X) → AllByRecursion (λ x. f x ≡ g x) xs → map f xs ≡ map g xs
map-same f g [] all = refl
map-same {X} {Y} f g (x ∷ xs) all = ap (λ (y : Y). y ∷ map f xs) all.0 ∙ ap (λ (ys : List Y). g x ∷ ys) (map-same f g xs all.1)

module _ (sound : List ℕ → Bool) (marker : ℕ) where
  -- what is kept is the first ones
  pub prefix-take : (position : ℕ) (rs : List (List ℕ)) → unbroken_prefix sound marker position rs ≡ take (length (unbroken_prefix sound marker position rs)) rs
  prefix-take position [] = refl
  prefix-take position (r ∷ rs) = step (nat_lt position marker || sound r) (unbroken_prefix sound marker (position + 1) rs) (prefix-take (position + 1) rs)
    where
      step : (b : Bool) (tail : List (List ℕ)) → tail ≡ take (length tail) rs → (if b then r ∷ tail else []) ≡ take (length (if b then r ∷ tail else [])) (r ∷ rs)
      step true tail is = ap (λ (xs : List (List ℕ)). r ∷ xs) is
      step false tail is = refl

  -- at least so many, where the first ones are sound
  pub prefix-enough : (k position : ℕ) (rs : List (List ℕ)) → k ≤ length rs → AllByRecursion (λ r. IsTrue (sound r)) (take k rs) → k ≤ length (unbroken_prefix sound marker position rs)
  prefix-enough zero position rs le all = omega arith
  prefix-enough (suc k) position [] le all = absurd (omega (arith, le))
  prefix-enough (suc k) position (r ∷ rs) le all =
      step (nat_lt position marker || sound r) (unbroken_prefix sound marker (position + 1) rs) (or_right (nat_lt position marker) (sound r) all.0) (prefix-enough k (position + 1) rs (omega (arith, le)) all.1)
    where
      step : (b : Bool) (tail : List (List ℕ)) → b ≡ true → k ≤ length tail → suc k ≤ length (if b then r ∷ tail else [])
      step true tail is more = omega (arith, more)
      step false tail is more = absurd (cc is)

  -- What holds of the records below the marker, and of each that is sound, holds of those kept; `left` are below the marker from here on.
  pub prefix-all : (Q : List ℕ → Type 0) (left position : ℕ) (rs : List (List ℕ)) → left ≡ marker - position → AllByRecursion Q (take left rs) → AllByRecursion (λ r. IsTrue (sound r) → Q r) rs
      → AllByRecursion Q (unbroken_prefix sound marker position rs)
  prefix-all Q left position [] is below all = tt
  prefix-all Q zero position (r ∷ rs) is below all =
      step (nat_lt position marker) (sound r) (unbroken_prefix sound marker (position + 1) rs) (le-ltb position marker (omega (arith, is))) all.0 (prefix-all Q zero (position + 1) rs (omega (arith, is)) tt all.1)
    where
      step : (b s : Bool) (tail : List (List ℕ)) → b ≡ false → (s ≡ true → Q r) → AllByRecursion Q tail → AllByRecursion Q (if b || s then r ∷ tail else [])
      step true s tail none here more = absurd (cc none)
      step false true tail none here more = (here refl, more)
      step false false tail none here more = tt
  prefix-all Q (suc left) position (r ∷ rs) is below all =
      step (nat_lt position marker || sound r) (unbroken_prefix sound marker (position + 1) rs) below.0 (prefix-all Q left (position + 1) rs (omega (arith, is)) below.1 all.1)
    where
      step : (b : Bool) (tail : List (List ℕ)) → Q r → AllByRecursion Q tail → AllByRecursion Q (if b then r ∷ tail else [])
      step true tail here more = (here, more)
      step false tail here more = tt

-- the places end where the last one does
pub last_end_at : (place : List ℕ → ℕ × ℕ) (rs : List (List ℕ)) (p : ℕ) → p + 1 ≡ length rs → last_end place rs ≡ (place (get_or rs p [])).0 + (place (get_or rs p [])).1
last_end_at place [] p is = absurd (omega (arith, is))
last_end_at place (r ∷ []) zero is = refl
last_end_at place (r ∷ []) (suc p) is = absurd (omega (arith, is))
last_end_at place (r ∷ q ∷ rs) zero is = absurd (omega (arith, is))
last_end_at place (r ∷ q ∷ rs) (suc p) is = last_end_at place (q ∷ rs) p (omega (arith, is))

-- without a place they end at 0
pub no_end : (place : List ℕ → ℕ × ℕ) (rs : List (List ℕ)) → length rs ≡ 0 → last_end place rs ≡ 0
no_end place [] is = refl
no_end place (r ∷ rs) is = absurd (omega (arith, is))
