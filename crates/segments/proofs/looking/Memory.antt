-- Which items of a fixed journal are in memory whole, and what that says of their pages.
use Rattle.std.proofs.Common.{◌≡◌, ◌↔◌, inl, inr, ℕ, zero, suc, ◌+◌, ◌-◌, ◌*◌, ◌/◌, ◌<◌, ◌≤◌, eqb, cond, count_by, Bool, true, false, List, length, get_or, take, refl, sym, ◌∙◌, ap, subst, arith}
use Rattle.std.specs.Prelude.{nat_eq}
use Rattle.std.specs.List.{list_any}
use Rattle.std.proofs.lemmas.Bool.{cases_Bool, cases_eq, cases_lt, eq-eqb, eqb-true}
use Rattle.std.proofs.lemmas.List.Sums.{count_by_more_yes, count_by-le-length, sum_by-take-le}
use Rattle.std.proofs.Math.Nat.{mul-le-mul_right}
use Rattle.sealed_pages.specs.Buffer.{Buffer, size_of, cached, is_cached, IsBacked}
use Rattle.sealed_pages.specs.Cached.{uncached, IsCachedOf}
use Rattle.sealed_pages.specs.Reads.{IsCacheFor, IsHeld, IsCovered, IsWanted, touched, below, missing_pages}
use Rattle.sealed_pages.specs.lemmas.memory.Cache.{found_page_has, uncached_most}
use Rattle.sealed_pages.specs.lemmas.memory.Held.{held_from, held_to, wanted_low}
use Rattle.segments.proofs.looking.ReadLemmas.{touched_most, touched_none, touched_some}
use Rattle.blob_device.proofs.general.Numbers.{div_place, times_next}

eqb_none : (n : ℕ) → n ≡ 0 → eqb n 0 ≡ true
eqb_none n none = eq-eqb n 0 none

none_eqb : (n : ℕ) → eqb n 0 ≡ true → n ≡ 0
none_eqb n is = eqb-true n 0 is

counts_none : (b : Bool) → ◌≡◌ {A = ℕ} (cond b 0 1) 0 → b ≡ true
counts_none true none = refl
counts_none false none = absurd (omega (arith, none))

-- pages of which none is out of memory are all in it
uncached_none : (pages : List ℕ) (k n : ℕ) → uncached pages k n ≡ 0 → (j : ℕ) → k ≤ j → j < k + n → list_any (nat_eq j) pages ≡ true
uncached_none pages k zero none j low high = absurd (omega (arith, low, high))
uncached_none pages k (suc n) none j low high = elim (cases_eq j (k + n)) [
  | inl last ↦ ap (λ (x : ℕ). list_any (nat_eq x) pages) last ∙ counts_none (list_any (nat_eq (k + n)) pages) (omega (arith, none))
  | inr other ↦ uncached_none pages k n (omega (arith, none)) j low (omega (arith, high, other))
]

counted_none : (b : Bool) → b ≡ true → ◌≡◌ {A = ℕ} (cond b 0 1) 0
counted_none true is = refl
counted_none false is = absurd (cc is)

uncached_all : (pages : List ℕ) (k n : ℕ) → ((j : ℕ) → k ≤ j → j < k + n → list_any (nat_eq j) pages ≡ true) → uncached pages k n ≡ 0
uncached_all pages k zero all = refl
uncached_all pages k (suc n) all =
    omega (arith, uncached_all pages k n (λ j low high. all j low (omega (arith, high))), counted_none (list_any (nat_eq (k + n)) pages) (all (k + n) (omega arith) (omega arith)))

-- the pages that n bytes touch are those of which one of them is wanted
wanted_touched : (P m n k : ℕ) → 0 < P → m / P ≤ k → k < m / P + touched P m n → IsWanted P m n k
wanted_touched P m n k pos low high = elim (cases_eq n 0) [
  | inl none ↦ absurd (omega (arith, low, high, touched_none P m n none))
  | inr some ↦
      let less : k + 1 ≤ (m + n + (P - 1)) / P = omega (arith, low, high, touched_some P m n some) in
      record {
        some = omega (arith, some);
        low = omega (arith, mul-le-mul_right P low, (div_place P m pos).1);
        high = omega (arith, mul-le-mul_right P less, (div_place P (m + n + (P - 1)) pos).0, times_next k P, pos);
      }
]

touched_wanted : (P m n k : ℕ) → 0 < P → IsWanted P m n k → k < m / P + touched P m n
touched_wanted P m n k pos wanted = elim (cases_lt k ((m + n + (P - 1)) / P)) [
  | inl less ↦ omega (arith, less, wanted_low P m n k pos wanted, wanted.some, touched_some P m n (λ none. omega (arith, none, wanted.some)))
  | inr past ↦ absurd (omega (arith, mul-le-mul_right P past, (div_place P (m + n + (P - 1)) pos).1, wanted.high, pos))
]

module _ (u : Buffer) (m n : ℕ) (pos : 0 < u.page_size) where
  pub missing_none : missing_pages u m n ≡ 0 → (k : ℕ) → IsWanted u.page_size m (below u.page_size u.first m n) k → is_cached u k ≡ true
  missing_none none k wanted = uncached_none (cached u) (m / u.page_size) (touched u.page_size m (below u.page_size u.first m n)) none k
      (wanted_low u.page_size m (below u.page_size u.first m n) k pos wanted) (touched_wanted u.page_size m (below u.page_size u.first m n) k pos wanted)

  pub none_missing : IsHeld u m n → missing_pages u m n ≡ 0
  none_missing held = uncached_all (cached u) (m / u.page_size) (touched u.page_size m (below u.page_size u.first m n))
      (λ k low high. held_to u m n (below u.page_size u.first m n) pos refl held k (wanted_touched u.page_size m (below u.page_size u.first m n) k pos low high))

  pub missing_held : m + n ≤ size_of u → missing_pages u m n ≡ 0 → IsHeld u m n
  missing_held fits none = held_from u m n (below u.page_size u.first m n) pos refl fits (missing_none none)

  -- at most two pages more are missing than the bytes fill
  pub missing_most : (size : ℕ) → n ≤ size → missing_pages u m n ≤ size / u.page_size + 2
  missing_most size le = omega (
    arith,
    uncached_most (cached u) (m / u.page_size) (touched u.page_size m (below u.page_size u.first m n)),
    touched_most u.page_size m (below u.page_size u.first m n) size pos (omega (arith, le)),
  )

-- a read of as many bytes as the item at p has, from where it stands
module _ (u : Buffer) (size p m n : ℕ) (at : m ≡ p * size) (long : n ≡ size) (pos : 0 < u.page_size) where
  missing_same : missing_pages u m n ≡ missing_pages u (p * size) size
  missing_same = ap (λ (x : ℕ). missing_pages u x n) at ∙ ap (missing_pages u (p * size)) long

  -- an answer that tells whether the bytes are held
  pub told_held : p * size + size ≤ size_of u → (r : Bool) → (r ≡ true) ↔ IsHeld u m n → r ≡ eqb (missing_pages u (p * size) size) 0
  told_held fits true iff = sym (eqb_none (missing_pages u (p * size) size) (sym missing_same ∙ none_missing u m n pos (iff.0 refl)))
  told_held fits false iff = elim (cases_Bool (eqb (missing_pages u (p * size) size) 0)) [
    | inl is ↦ absurd (cc (iff.1 (missing_held u m n pos (omega (arith, fits, at, long)) (missing_same ∙ none_eqb (missing_pages u (p * size) size) is))))
    | inr not_held ↦ sym not_held
  ]

-- what a read of the item's bytes asks of the pages in memory, at such a place
pub cache_for : (seal : List ℕ → ℕ) (content : List ℕ) (u : Buffer) (size p m n : ℕ) → m ≡ p * size → n ≡ size → IsCacheFor seal u content (p * size) size → IsCacheFor seal u content m n
cache_for seal content u size p m n at long has = subst (λ (x : ℕ). IsCacheFor seal u content m x) (sym long) (subst (λ (x : ℕ). IsCacheFor seal u content x size) (sym at) has)

-- the pages below the tip that have bytes of an item in memory are covered
pub held_covered : (seal : List ℕ → ℕ) (u : Buffer) (size p : ℕ) (content : List ℕ) → 0 < u.page_size → IsBacked seal u content → eqb (missing_pages u (p * size) size) 0 ≡ true
    → IsCovered seal u.page_size content (p * size) (below u.page_size u.first (p * size) size)
held_covered seal u size p content pos backed held k wanted =
    let has = found_page_has (IsCachedOf seal u.page_size content) k u.cache backed.cache (missing_none u (p * size) size pos (none_eqb (missing_pages u (p * size) size) held) k wanted) in
    omega (arith, has.1.covered)

-- one more of a list's numbers that passes a test, behind the first i, is counted within the list
pub count_within : (test : ℕ → Bool) (xs : List ℕ) (i : ℕ) → i < length xs → test (get_or xs i 0) ≡ true → count_by test (take i xs) + 1 ≤ length xs
count_within test xs i lt passes = omega (arith, count_by_more_yes test xs i 0 lt passes, sum_by-take-le (λ p. cond (test p) 1 0) xs (i + 1), count_by-le-length test xs)

-- what a read at such a place checked
pub covered_item : (seal : List ℕ → ℕ) (content : List ℕ) (u : Buffer) (size p m n : ℕ) → m ≡ p * size → n ≡ size → IsCovered seal u.page_size content m (below u.page_size u.first m n)
    → IsCovered seal u.page_size content (p * size) (below u.page_size u.first (p * size) size)
covered_item seal content u size p m n at long is = subst (λ (x : ℕ). IsCovered seal u.page_size content (p * size) (below u.page_size u.first (p * size) x)) long (subst (λ (x : ℕ). IsCovered seal u.page_size content x (below u.page_size u.first x n)) at is)
