-- Reading items of a fixed journal: where they stand, which of them are held in memory, and how many pages they touch.
use Rattle.std.proofs.Common.{◌≡◌, inl, inr, ℕ, zero, suc, ◌+◌, ◌-◌, ◌*◌, ◌/◌, ◌<◌, ◌≤◌, cond, count_by, Bool, true, false, List, length, get_or, take, drop, refl, sym, ◌∙◌, ap, subst, arith}
use Rattle.std.specs.List.{Contains}
use Rattle.std.specs.List.Sorted.{IsStrictlySortedBy}
use Rattle.std.specs.Ordering.{nat_cmp}
use Rattle.std.proofs.lemmas.Bool.{cases_Bool, cases_eq, cases_lt}
use Rattle.std.proofs.lemmas.Bool.Decides.{nat_tests}
use Rattle.std.proofs.lemmas.List.{get_or_default}
use Rattle.std.proofs.lemmas.List.Sums.{count_by_more_yes, count_by_more_no, sum_by-take-le, sum_by_more, sum_by_more_le}
use Rattle.std.proofs.lemmas.Map.Keys.{below_from_sorted}
use Rattle.std.proofs.lemmas.Nat.{div_below}
use Rattle.std.proofs.Math.Nat.{mul-le-mul_right}
use Rattle.blob_device.specs.Disk.{Key}
use Rattle.blob_device.specs.Opened.{OpenedList}
use Rattle.sealed_pages.specs.Entries.{ReadsAtMost}
use Rattle.sealed_pages.specs.Reads.{IsShort, touched, below}
use Rattle.sealed_pages.specs.lemmas.Entries.{reads_then}
use Rattle.segments.specs.FixedItems.{item_at}
use Rattle.blob_device.proofs.general.Numbers.{div_place, times_sum}

-- a read of as many bytes as the item at p has, from where it stands
module _ (P first size p m n : ℕ) (at : m ≡ p * size) (long : n ≡ size) where
  pub read_item : (xs bytes : List ℕ) → xs ≡ take n (drop m bytes) → xs ≡ item_at size bytes p
  read_item xs bytes is = is ∙ ap (λ (k : ℕ). take n (drop k bytes)) at ∙ ap (λ (k : ℕ). take k (drop (p * size) bytes)) long

  pub short_item : (seal : List ℕ → ℕ) (content : List ℕ) (k : ℕ) → IsShort seal P content m (below P first m n) k → IsShort seal P content (p * size) (below P first (p * size) size) k
  short_item seal content k short =
      subst (λ (x : ℕ). IsShort seal P content (p * size) (below P first (p * size) x) k) long (subst (λ (x : ℕ). IsShort seal P content x (below P first x n) k) at short)

pub touched_none : (P m n : ℕ) → n ≡ 0 → touched P m n ≡ 0
touched_none P m n none = grind (arith, nat_tests)

pub touched_some : (P m n : ℕ) → (n ≡ 0 → ⊥) → touched P m n ≡ (m + n + (P - 1)) / P - m / P
touched_some P m n some = grind (arith, nat_tests)

-- so many bytes touch at most two pages more than they fill
pub touched_most : (P m n size : ℕ) → 1 ≤ P → n ≤ size → touched P m n ≤ size / P + 2
touched_most P m n size pos le = elim (cases_eq n 0) [
  | inl none ↦ omega (arith, touched_none P m n none)
  | inr some ↦
      (let room : m + n + (P - 1) < (m / P + size / P + 3) * P = omega (arith, (div_place P m (omega (arith, pos))).1, (div_place P size (omega (arith, pos))).1, times_sum (m / P + size / P) 3 P, times_sum (m / P) (size / P) P, le) in
      let few : (m + n + (P - 1)) / P < m / P + size / P + 3 = div_below (m + n + (P - 1)) P (m / P + size / P + 3) (omega (arith, pos)) room in
      omega (arith, touched_some P m n some, few))
]

-- a number of an ascending list that is less than the one at i stands before that one
pub stands_before : (xs : List ℕ) (i x q : ℕ) → IsStrictlySortedBy nat_cmp xs → i < length xs → x ≡ get_or xs i 0 → Contains xs q → q < x → (k : ℕ) × (k < i) × (get_or xs k 0 ≡ q)
stands_before xs i x q sorted inside at has less =
    let here : get_or xs has.0 0 ≡ q = get_or_default xs has.0 0 q has.1 ∙ has.2 in
    elim (cases_lt has.0 i) [
      | inl before ↦ (has.0, before, here)
      | inr after ↦ elim (cases_lt i has.0) [
        | inl more ↦ absurd (omega (arith, below_from_sorted xs i has.0 0 sorted more has.1, here, at, less))
        | inr same ↦ (let e : has.0 ≡ i = omega (arith, after, same) in absurd (omega (arith, ap (λ (k : ℕ). get_or xs k 0) e, here, at, less)))
      ]
    ]

-- ---- items that are read one after another: those at the positions that pass a test, of at most n reads each
-- one that does not pass is not read
pub reads_one : (k : Key) (n : ℕ) (reads : Bool) (a b : OpenedList) → (reads ≡ false → b ≡ a) → ReadsAtMost n k a b → ReadsAtMost (cond reads 1 0 * n) k a b
reads_one k n true a b idle has = record { others = has.others; length = has.length; reads = omega (arith, has.reads) }
reads_one k n false a b idle has = subst (λ (o : OpenedList). ReadsAtMost (0 * n) k a o) (sym (idle refl)) (record { others = λ q other. refl; length = λ x is. is; reads = omega arith })

module _ (test : ℕ → Bool) (xs : List ℕ) (i : ℕ) (lt : i < length xs) where
  -- none of the first ones passes, and not the next
  pub none_next : count_by test (take (i + 1) xs) ≡ 0 → (count_by test (take i xs) ≡ 0) × (test (get_or xs i 0) ≡ false)
  none_next none = elim (cases_Bool (test (get_or xs i 0))) [
    | inl passes ↦ absurd (omega (arith, none, count_by_more_yes test xs i 0 lt passes))
    | inr fails ↦ (omega (arith, none, count_by_more_no test xs i 0 lt fails), fails)
  ]

  -- nor of those up to it where none at all does
  pub none_here : count_by test xs ≡ 0 → (count_by test (take i xs) ≡ 0) × (test (get_or xs i 0) ≡ false)
  none_here none = none_next (omega (arith, none, sum_by-take-le (λ p. cond (test p) 1 0) xs (i + 1)))

  module _ (k : Key) (n : ℕ) (a b c : OpenedList) (first : ReadsAtMost (count_by test (take i xs) * n) k a b) (one : ReadsAtMost (cond (test (get_or xs i 0)) 1 0 * n) k b c) where
    -- the reads of the next one too
    pub reads_next : ReadsAtMost (count_by test (take (i + 1) xs) * n) k a c
    reads_next =
        let more : count_by test (take (i + 1) xs) ≡ count_by test (take i xs) + cond (test (get_or xs i 0)) 1 0 = sum_by_more (λ p. cond (test p) 1 0) xs i 0 lt in
        let sum = times_sum (count_by test (take i xs)) (cond (test (get_or xs i 0)) 1 0) n in
        reads_then k _ _ _ a b c (omega (arith, ap (λ (m : ℕ). m * n) more, sum)) first one

    -- which are no more than those of all
    pub reads_here : ReadsAtMost (count_by test xs * n) k a c
    reads_here =
        let le : count_by test (take i xs) + cond (test (get_or xs i 0)) 1 0 ≤ count_by test xs = sum_by_more_le (λ p. cond (test p) 1 0) xs i 0 lt in
        let sum = times_sum (count_by test (take i xs)) (cond (test (get_or xs i 0)) 1 0) n in
        reads_then k _ _ _ a b c (omega (arith, mul-le-mul_right n le, sum)) first one

-- a number that is not above 0 is 0
pub none_over : (n : ℕ) → (0 < n → ⊥) → n ≡ 0
none_over zero none = refl
none_over (suc n) none = absurd (none (omega arith))
