-- The bytes that a reader has at hand, and which pages it reads for more.
use Rattle.std.proofs.Common.{◌≡◌, inl, inr, ℕ, ◌+◌, ◌-◌, ◌*◌, ◌/◌, ◌<◌, ◌≤◌, min, List, ◌++◌, length, get_or, take, drop, refl, sym, ◌∙◌, ap, subst, arith, length-drop, length-append, length-take, ◌%◌}
use Rattle.std.proofs.Math.Nat.{div-mul-le_self, mod-eq-sub-div-mul, lt-div-mul-add}
use Rattle.sealed_pages.specs.Readers.{IsTipOf}
use Rattle.std.proofs.lemmas.Bool.{cases_lt}
use Rattle.std.proofs.lemmas.Nat.{le-div}
use Rattle.std.proofs.lemmas.List.{get_or-drop, get_or-take, get_or_append_left, get_or-append_right, drop-append-le}
use Rattle.blob_device.specs.Disk.{Key}
use Rattle.blob_device.specs.Opened.{OpenedList}
use Rattle.sealed_pages.specs.Entries.{ReadsAtMost}
use Rattle.sealed_pages.specs.Reading.{page_of}
use Rattle.sealed_pages.specs.Reads.{IsCovered, EndsAtOrPast, needed, touched}
use Rattle.sealed_pages.specs.SealedPrefix.{place, data_from}
use Rattle.sealed_pages.specs.Slots.{page_length}
use Rattle.sealed_pages.specs.View.{View, view}
use Rattle.sealed_pages.specs.lemmas.adopted.Adopt.{get_or-data_from, length-data_from, place_in}
use Rattle.sealed_pages.specs.lemmas.looking.Looking.{part_view}
use Rattle.sealed_pages.specs.lemmas.looking.Read.{read_data, touched_upto}
use Rattle.sealed_pages.specs.Flushing.{Data}
use Rattle.sealed_pages.specs.lemmas.Entries.{reads_then}
use Rattle.blob_device.proofs.general.Numbers.{div_place, times_more, times_next}

pub data_each : (P m : ℕ) (v : View) (xs : List ℕ) → xs ≡ data_from P v m (length xs) → (i : ℕ) → i < length xs → get_or xs i 0 ≡ v (place P (m + i))
data_each P m v xs is i lt = ap (λ (l : List ℕ). get_or l i 0) is ∙ get_or-data_from P v (length xs) m i lt

pub data_drop : (P m n : ℕ) (v : View) (xs : List ℕ) → xs ≡ data_from P v m (length xs) → n ≤ length xs → drop n xs ≡ data_from P v (m + n) (length (drop n xs))
data_drop P m n v xs is fits = read_data P (m + n) (length (drop n xs)) v (drop n xs) refl
    (λ i lt. get_or-drop n xs i 0 ∙ data_each P m v xs is (n + i) (omega (arith, lt, length-drop n xs)) ∙ (let e : m + (n + i) ≡ m + n + i = omega arith in ap (λ (x : ℕ). v (place P x)) e))

-- the bytes of a page that were checked
pub data_page : (seal : List ℕ → ℕ) (P next k skip n : ℕ) (c : List ℕ) → k * P + skip ≡ next → skip + n ≤ P → skip + n ≤ length (page_of P c k) → take n (drop skip (page_of P c k)) ≡ data_from P (view c) next n
data_page seal P next k skip n c at fits has = read_data P next n (view c) (take n (drop skip (page_of P c k))) (omega (arith, length-take n (drop skip (page_of P c k)), length-drop skip (page_of P c k), has))
    (λ i lt. (let near : skip + i < P = omega (arith, lt, fits) in
    let e : k * P + (skip + i) ≡ next + i = omega (arith, at) in
    get_or-take n (drop skip (page_of P c k)) i 0 lt ∙ get_or-drop skip (page_of P c k) i 0 ∙ part_view seal P c k (skip + i) (omega (arith, near)) ∙ ap (view c) (sym (place_in P k (skip + i) near) ∙ ap (place P) e)))

-- more bytes behind those at hand
pub data_next : (P m n : ℕ) (v : View) (xs : List ℕ) → xs ≡ data_from P v m (length xs) → xs ++ data_from P v (m + length xs) n ≡ data_from P v m (length (xs ++ data_from P v (m + length xs) n))
data_next P m n v xs is = read_data P m (length (xs ++ data_from P v (m + length xs) n)) v (xs ++ data_from P v (m + length xs) n) refl (λ i lt. elim (cases_lt i (length xs)) [
  | inl low ↦ get_or_append_left xs (data_from P v (m + length xs) n) 0 i low ∙ data_each P m v xs is i low
  | inr high ↦ (let inside : i - length xs < n = omega (arith, lt, high, length-append xs (data_from P v (m + length xs) n), length-data_from P v n (m + length xs)) in
      let e : m + length xs + (i - length xs) ≡ m + i = omega (arith, high) in
      get_or-append_right xs (data_from P v (m + length xs) n) (length xs) i 0 refl high ∙ get_or-data_from P v n (m + length xs) (i - length xs) inside ∙ ap (λ (x : ℕ). v (place P x)) e)
])

-- the bytes of flushed pages, where the data are known
pub data_all : (P n : ℕ) (all c : List ℕ) → 1 ≤ P → Data P all n (view c) → length all ≡ n → data_from P (view c) 0 n ≡ all
data_all P n all c pos same long = sym (read_data P 0 n (view c) all long (λ i lt.
    let d = div_place P i (omega (arith, pos)) in
    let is : i / P * P + (i - i / P * P) ≡ i = omega (arith, d.0) in
    let near : i - i / P * P < P = omega (arith, d.0, d.1) in
    let e : i / P * P + (i - i / P * P) ≡ 0 + i = omega (arith, is) in
    sym (ap (λ (x : ℕ). get_or all x 0) is) ∙ sym (same (i / P) (i - i / P * P) near (omega (arith, is, lt))) ∙ ap (view c) (sym (place_in P (i / P) (i - i / P * P) near) ∙ ap (place P) e)))

module _ (seal : List ℕ → ℕ) (P : ℕ) (c : List ℕ) (at : ℕ) where
  pub covered_none : (n : ℕ) → n ≡ 0 → IsCovered seal P c at n
  covered_none n none k wanted = absurd (omega (arith, wanted.some, none))

  -- without the first m of the bytes
  pub covered_rest : (n m left : ℕ) → IsCovered seal P c at n → m ≤ n → left ≡ n - m → IsCovered seal P c (at + m) left
  covered_rest n m left is fits rest k wanted =
      let whole : needed P at n k ≤ page_length seal P c k = is k (record { some = omega (arith, wanted.some, rest); low = omega (arith, wanted.low); high = omega (arith, wanted.high, wanted.some, rest, fits) }) in
      omega (arith, whole, rest, fits, wanted.some)

  -- with more bytes of page k, as far as it is covered
  pub covered_more : (n more k upto : ℕ) → IsCovered seal P c at n → k * P ≤ at + n → n ≤ more → at + more ≡ k * P + upto → upto ≤ P → upto ≤ page_length seal P c k → IsCovered seal P c at more
  covered_more n more k upto is begun longer end fits covers j wanted = elim (cases_lt j k) [
    | inl before ↦ (let full : j * P + P ≤ k * P = times_more j k P before in
        let whole : needed P at n j ≤ page_length seal P c j = is j (record { some = omega (arith, wanted.low, full, begun); low = wanted.low; high = omega (arith, full, begun, wanted.low) }) in
        omega (arith, whole, full, begun))
    | inr from ↦ elim (cases_lt k j) [
      | inl behind ↦ absurd (omega (arith, times_more k j P behind, wanted.high, end, fits))
      | inr upto_k ↦ (let same : j ≡ k = omega (arith, from, upto_k) in
          omega (arith, covers, ap (page_length seal P c) same, ap (λ (x : ℕ). x * P) same, end))
    ]
  ]

-- A page is read from byte m on, as far as it is covered and the size goes, where byte `goal` or the page's end is covered.
module _ (P m goal size covered need upto : ℕ) (pos : 1 ≤ P) (more : m < goal) (within : goal ≤ size) (fits : covered ≤ P) (need_is : need ≡ min (goal - m / P * P) P) (enough : need ≤ covered) (upto_is : upto ≡ min (size - m / P * P) covered) where
  pub low : m / P * P ≤ m
  low = (div_place P m (omega (arith, pos))).0

  pub high : m < m / P * P + P
  high = (div_place P m (omega (arith, pos))).1

  pub part_some : m - m / P * P < upto
  part_some = omega (arith, low, high, more, within, need_is, enough, upto_is)

  pub part_within : m + (upto - (m - m / P * P)) ≤ size
  part_within = omega (arith, low, upto_is, more, within)

  pub part_ends : (end : ℕ) → end ≡ m + (upto - (m - m / P * P)) → EndsAtOrPast P m goal end
  part_ends end is = elim (cases_lt upto P) [
    | inl inside ↦ inr (omega (arith, is, inside, low, more, within, need_is, enough, upto_is, fits), omega (arith, is, inside, low, part_some, times_next (m / P) P))
    | inr full ↦ inl (omega (arith, is, full, upto_is, fits, low, part_some, times_next (m / P) P))
  ]

-- the bytes at hand with a part of a page behind them
module _ (used skip upto : ℕ) (held new found : List ℕ) (taken : used ≤ length held) (reach : upto ≤ length found) (is : new ≡ held ++ take (upto - skip) (drop skip found)) where
  pub longer : length (drop used new) ≡ length (drop used held) + (upto - skip)
  longer = omega (arith, ap length is, length-append held (take (upto - skip) (drop skip found)), length-take (upto - skip) (drop skip found), length-drop skip found, length-drop used new, length-drop used held, taken, reach)

  module _ (seal : List ℕ → ℕ) (P at next k : ℕ) (c : List ℕ) (next_is : next ≡ at + length (drop used held)) (place_is : k * P + skip ≡ next) (some : skip ≤ upto) (fits : upto ≤ P) (page : found ≡ page_of P c k) where
    pub more_bytes : drop used held ≡ data_from P (view c) at (length (drop used held)) → drop used new ≡ data_from P (view c) at (length (drop used new))
    more_bytes old =
        let read : take (upto - skip) (drop skip found) ≡ data_from P (view c) next (upto - skip)
        = ap (λ (l : List ℕ). take (upto - skip) (drop skip l)) page ∙ data_page seal P next k skip (upto - skip) c place_is (omega (arith, some, fits)) (omega (arith, some, reach, ap length page)) in
        let whole : drop used new ≡ drop used held ++ data_from P (view c) (at + length (drop used held)) (upto - skip)
        = ap (drop used) is ∙ drop-append-le used held (take (upto - skip) (drop skip found)) taken ∙ ap (λ (l : List ℕ). drop used held ++ l) (read ∙ ap (λ (x : ℕ). data_from P (view c) x (upto - skip)) next_is) in
        whole ∙ data_next P at (upto - skip) (view c) (drop used held) old ∙ ap (λ (l : List ℕ). data_from P (view c) at (length l)) (sym whole)

    pub more_covered : upto ≤ page_length seal P c k → IsCovered seal P c at (length (drop used held)) → IsCovered seal P c at (length (drop used new))
    more_covered covers old = covered_more seal P c at (length (drop used held)) (length (drop used new)) k upto old (omega (arith, next_is, place_is)) (omega (arith, longer)) (omega (arith, longer, next_is, place_is, some)) fits covers

-- The reads of a call that wants n bytes from byte m on, where bytes up to `next` are at hand: one a page behind which those end,
-- and none on a page that has no wanted byte.
pub record PageReads (P m n next : ℕ) (k : Key) (a b : OpenedList) : Type 0 where
  pub number : ℕ
  pub most : number ≤ touched P m n
  pub upto : next < m + n → number ≤ next / P - m / P
  pub reads : ReadsAtMost number k a b

module _ (P m n next goal : ℕ) (k : Key) (a b c : OpenedList) (pos : 1 ≤ P) (goal_is : goal ≡ m + n) (from : m ≤ next) (more : next < goal) (so_far : PageReads P m n next k a b) (one : ReadsAtMost 1 k b c) where
  pub within : m / P ≤ next / P
  within = le-div (m / P) next P (omega (arith, pos)) (omega (arith, div-mul-le_self m P, from))

  one_more : so_far.number + 1 ≤ next / P + 1 - m / P
  one_more = omega (arith, within, so_far.upto (omega (arith, more, goal_is)))

  pub wanted : so_far.number + 1 ≤ touched P m n
  wanted = omega (arith, one_more, touched_upto P m n (next / P) pos (omega (arith, from, more, goal_is)) (omega (arith, div-mul-le_self next P, more, goal_is)))

  pub page_reads_last : ReadsAtMost (touched P m n) k a c
  page_reads_last = reads_then k so_far.number 1 (touched P m n) a b c wanted so_far.reads one

  pub page_reads_next : (Q end : ℕ) → Q ≡ P → EndsAtOrPast Q next goal end → PageReads P m n end k a c
  page_reads_next Q end same ends = record {
    number = so_far.number + 1;
    most = wanted;
    upto = λ lt. elim (subst (λ (x : ℕ). EndsAtOrPast x next goal end) same ends) [
      | inl at ↦ (let full : next / P + 1 ≤ end / P = le-div (next / P + 1) end P (omega (arith, pos)) (omega (arith, at)) in omega (arith, one_more, full))
      | inr past ↦ absurd (omega (arith, lt, past.0, goal_is))
    ];
    reads = reads_then k so_far.number 1 (so_far.number + 1) a b c (omega arith) so_far.reads one;
  }

-- where the tip goes on
pub tip_place : (P size next : ℕ) → 1 ≤ P → size / P ≤ next / P → next ≤ size → (next / P ≡ size / P) × (size / P * P + next % P ≡ next) × (size / P * P + size % P ≡ size)
tip_place P size next pos full within =
    let begun : next / P * P ≤ next = div-mul-le_self next P in
    let most : next / P ≤ size / P = le-div (next / P) size P pos (omega (arith, begun, within)) in
    let same : next / P ≡ size / P = omega (arith, full, most) in
    (same, omega (arith, mod-eq-sub-div-mul next P, begun, ap (λ (k : ℕ). k * P) same), omega (arith, mod-eq-sub-div-mul size P, div-mul-le_self size P))

-- the reader takes the tip from the next byte on
module _ (seal : List ℕ → ℕ) (P size at used next : ℕ) (held tip rest new c : List ℕ) (pos : 1 ≤ P) (taken : used ≤ length held) (next_is : next ≡ at + length (drop used held)) (full : size / P ≤ next / P) (within : next ≤ size)
    (long : length tip ≡ size % P) (rest_is : rest ≡ drop (next % P) tip) (is : new ≡ held ++ rest) where
  place_is : (next / P ≡ size / P) × (size / P * P + next % P ≡ next) × (size / P * P + size % P ≡ size)
  place_is = tip_place P size next pos full within

  split : drop used new ≡ drop used held ++ rest
  split = ap (drop used) is ∙ drop-append-le used held rest taken

  rest_long : length rest ≡ size % P - next % P
  rest_long = omega (arith, ap length rest_is, length-drop (next % P) tip, long)

  pub tip_ends : at + length (drop used new) ≡ size
  tip_ends = omega (arith, ap length split, length-append (drop used held) rest, rest_long, next_is, place_is.1, place_is.2, within)

  module _ (tip_of : IsTipOf seal P c (size / P) tip) (bytes : drop used held ≡ data_from P (view c) at (length (drop used held))) (covered : IsCovered seal P c at (length (drop used held))) where
    rest_data : rest ≡ data_from P (view c) (at + length (drop used held)) (length rest)
    rest_data = read_data P (at + length (drop used held)) (length rest) (view c) rest refl
        (λ i lt. let inside : next % P + i < length tip = omega (arith, lt, rest_long, long) in
        let small : next % P + i < P = omega (arith, inside, long, mod-eq-sub-div-mul size P, lt-div-mul-add {a = size} pos) in
        let e : size / P * P + (next % P + i) ≡ at + length (drop used held) + i = omega (arith, place_is.1, next_is) in
        ap (λ (l : List ℕ). get_or l i 0) rest_is ∙ get_or-drop (next % P) tip i 0 ∙ tip_of.same (next % P + i) inside
        ∙ ap (view c) (sym (place_in P (size / P) (next % P + i) small) ∙ ap (place P) e))

    pub tip_bytes : drop used new ≡ data_from P (view c) at (length (drop used new))
    tip_bytes = subst (λ (l : List ℕ). l ≡ data_from P (view c) at (length l)) (sym (split ∙ ap (λ (l : List ℕ). drop used held ++ l) rest_data)) (data_next P at (length rest) (view c) (drop used held) bytes)

    pub tip_covered : IsCovered seal P c at (length (drop used new))
    tip_covered = covered_more seal P c at (length (drop used held)) (length (drop used new)) (size / P) (size % P) covered (omega (arith, next_is, place_is.1)) (omega (arith, ap length split, length-append (drop used held) rest)) (omega (arith, tip_ends, place_is.2))
        (omega (arith, mod-eq-sub-div-mul size P, lt-div-mul-add {a = size} pos)) (omega (arith, tip_of.covered, long))
