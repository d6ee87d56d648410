-- Pages in a piece of a blob, and the sealed prefix page by page.
use Rattle.std.proofs.Common.{◌≡◌, ◌⊎◌, inl, inr, ◌%◌, ℕ, zero, suc, ◌+◌, ◌-◌, ◌*◌, ◌/◌, ◌^◌, ◌<◌, ◌≤◌, min, List, length, take, drop, refl, sym, ◌∙◌, ap, arith, length-drop}
use Rattle.std.proofs.Math.Nat.{mul-le-mul_right, div-mul-le_self, lt-div-mul-add}
use Rattle.std.proofs.lemmas.Grind.{div_ceil_times}
use Rattle.sealed_pages.specs.lemmas.slots.SealedBytes.{length-step, page_length-le, rest_is}
use Rattle.sealed_pages.specs.Proven.{prefix_upto, proven_prefix}
use Rattle.sealed_pages.specs.Reads.{pages_for}
use Rattle.std.proofs.lemmas.Bool.{cases_lt}
use Rattle.std.proofs.lemmas.List.{take-take, drop-drop, drop-take, take_rest, drop_all}
use Rattle.sealed_pages.specs.declared.piece.Piece.{Piece}
use Rattle.sealed_pages.specs.Pieces.{held_of, HasPage, IsPieceOf}
use Rattle.sealed_pages.specs.Reading.{page_of}
use Rattle.sealed_pages.specs.SealedPrefix.{pages_in, sealed_from, sealed_prefix}
use Rattle.sealed_pages.specs.Slots.{page_length}
use Rattle.sealed_pages.specs.View.{page_at}
use Rattle.sealed_pages.proofs.looking.Looking.{page_below, take_short}
use Rattle.sealed_pages.proofs.looking.ReadLemmas.{index_twice, part_page, page_in}
use Rattle.blob_device.proofs.general.Numbers.{times_next, times_sum}

page_sum : (P q j : ℕ) → page_at P q + page_at P j ≡ page_at P (q + j)
unfolding page_at
page_sum P q j = omega arith

page_times : (P j : ℕ) → page_at P j ≡ j * (P + 12)
unfolding page_at
page_times P j = refl

pub span_page : (P q room L k have : ℕ) (b c : List ℕ) → L ≡ room * (P + 12) → take have b ≡ take L (drop (page_at P q) c) → q ≤ k → k < q + room → page_of P (take have b) (k - q) ≡ page_of P c k
span_page P q room L k have b c long is from upto =
    let j : ℕ = k - q in
    let few : k - q + 1 ≤ room = omega (arith, from, upto) in
    let reach : (k - q + 1) * (P + 12) ≤ room * (P + 12) = mul-le-mul_right (P + 12) few in
    let high : page_at P (k - q) + (P + 12) ≤ L = omega (arith, reach, times_next (k - q) (P + 12), page_times P (k - q), long) in
    let split : L ≡ page_at P (k - q) + (L - page_at P (k - q)) = omega (arith, high) in
    let at : page_at P q + page_at P (k - q) ≡ page_at P k = page_sum P q (k - q) ∙ (let e : q + (k - q) ≡ k = omega (arith, from) in ap (page_at P) e) in
    ap (λ (l : List ℕ). take (P + 12) (drop (page_at P (k - q)) l)) (is ∙ ap (λ (n : ℕ). take n (drop (page_at P q) c)) split)
    ∙ ap (take (P + 12)) (drop-take (page_at P (k - q)) (L - page_at P (k - q)) (drop (page_at P q) c))
    ∙ take-take (P + 12) (L - page_at P (k - q)) (drop (page_at P (k - q)) (drop (page_at P q) c)) (omega (arith, high))
    ∙ ap (take (P + 12)) (drop-drop (page_at P (k - q)) (page_at P q) c ∙ ap (λ (n : ℕ). drop n c) at)

pub page_room : (P q : ℕ) → page_at P q < 2 ^ 64 → q + 1 < 2 ^ 64
unfolding page_at
page_room P q fits = let e : q * (P + 12) ≡ q * P + q * 12 = omega arith in omega (arith, e, fits)

-- a page cut out of a piece
pub page_slice : (P j from n : ℕ) (held : List ℕ) → from ≡ min (j * (P + 12)) (length held) → n ≡ min (P + 12) (length held - from) → take n (take (length held - from) (drop from held)) ≡ page_of P held j
page_slice P j from n held is short = ap (take n) (take_rest held from) ∙ take_short n (P + 12) (drop from held) (omega (arith, short, length-drop from held)) ∙ ap (take (P + 12)) (same (cases_lt (page_at P j) (length held)))
  where
    same : (page_at P j < length held) ⊎ (length held ≤ page_at P j) → drop from held ≡ drop (page_at P j) held
    same (inl inside) = let e : from ≡ page_at P j = omega (arith, is, inside, page_times P j) in ap (λ (x : ℕ). drop x held) e
    same (inr past) = drop_all from held (omega (arith, is, past, page_times P j)) ∙ sym (drop_all (page_at P j) held past)

-- how far a page of a piece is covered
pub piece_covered : (seal : List ℕ → ℕ) (P : ℕ) (c : List ℕ) (p : Piece) (k : ℕ) (bytes : List ℕ) (n : ℕ) → page_at P k + (P + 12) < 2 ^ 64 → p.page_size ≡ P → IsPieceOf c p → HasPage p k → bytes ≡ page_of p.page_size (held_of p) (k - p.page)
    → n ≡ page_length seal P bytes 0 → n ≡ page_length seal P c k
piece_covered seal P c p k bytes n room size is has part len = len ∙ ap (λ (l : List ℕ). page_length seal P l 0) (part ∙ is k has ∙ ap (λ (x : ℕ). page_of x c k) size) ∙ part_page seal P c k room

-- how many pages n bytes take, as `div_ceil` counts them
pub pages_up : (P n : ℕ) → 1 ≤ P → n / P + min 1 (n % P) ≡ pages_for P n
pages_up P n pos =
    let q : ℕ = n / P + min 1 (n % P) in
    let spans : (n ≤ q * P) × (q * P < n + P) = div_ceil_times n P pos in
    let low : (n + (P - 1)) / P * P ≤ n + (P - 1) = div-mul-le_self (n + (P - 1)) P in
    let high : n + (P - 1) < (n + (P - 1)) / P * P + P = lt-div-mul-add pos in
    elim (cases_lt q ((n + (P - 1)) / P)) [
      | inl less ↦ absurd (let le : q + 1 ≤ (n + (P - 1)) / P = omega (arith, less) in omega (arith, mul-le-mul_right P le, times_next q P, spans.0, low, pos))
      | inr le ↦ elim (cases_lt ((n + (P - 1)) / P) q) [
        | inl less ↦ absurd (let up : (n + (P - 1)) / P + 1 ≤ q = omega (arith, less) in omega (arith, mul-le-mul_right P up, times_next ((n + (P - 1)) / P) P, spans.1, high, pos))
        | inr ge ↦ omega (arith, le, ge)
      ]
    ]

module _ (seal : List ℕ → ℕ) (P : ℕ) (c : List ℕ) where
  pub sealed_next : (k m : ℕ) → page_length seal P c k ≡ P → length (sealed_from seal P c k (suc m)) ≡ P + length (sealed_from seal P c (k + 1) m)
  sealed_next k m full = elim (rest_is seal P c k m) [
    | inl more ↦ omega (arith, length-step seal P c k m, ap length more.1, full)
    | inr part ↦ absurd (part.0 full)
  ]

  pub sealed_stop : (k m : ℕ) → page_length seal P c k < P → length (sealed_from seal P c k (suc m)) ≡ page_length seal P c k
  sealed_stop k m less = elim (rest_is seal P c k m) [
    | inl more ↦ absurd (omega (arith, more.0, less))
    | inr part ↦ omega (arith, length-step seal P c k m, ap length part.1)
  ]

  pub sealed_none : (k : ℕ) → length (sealed_from seal P c k 0) ≡ 0
  unfolding sealed_from
  sealed_none k = refl

  -- one page of those that are left
  pub sealed_full : (k m : ℕ) → k < m → page_length seal P c k ≡ P → k * P + length (sealed_from seal P c k (m - k)) ≡ (k + 1) * P + length (sealed_from seal P c (k + 1) (m - (k + 1)))
  sealed_full k m lt full =
      let e : m - k ≡ suc (m - (k + 1)) = omega (arith, lt) in
      omega (arith, ap (λ (x : ℕ). length (sealed_from seal P c k x)) e, sealed_next k (m - (k + 1)) full, times_next k P)

  pub sealed_last : (k m : ℕ) → k < m → page_length seal P c k < P → length (sealed_from seal P c k (m - k)) ≡ page_length seal P c k
  sealed_last k m lt less =
      let e : m - k ≡ suc (m - (k + 1)) = omega (arith, lt) in ap (λ (x : ℕ). length (sealed_from seal P c k x)) e ∙ sealed_stop k (m - (k + 1)) less

  pub sealed_past : (k m : ℕ) → m ≤ k → length (sealed_from seal P c k (m - k)) ≡ 0
  sealed_past k m le = let e : m - k ≡ 0 = omega (arith, le) in ap (λ (x : ℕ). length (sealed_from seal P c k x)) e ∙ sealed_none k

  -- behind the pages that have a matching slot, and behind those that are to be read
  pub sealed_behind : (k count upto m : ℕ) → 1 ≤ P → min count upto ≤ k → m ≤ upto → ((j : ℕ) → count ≤ j → page_length seal P c j ≡ 0) → length (sealed_from seal P c k (m - k)) ≡ 0
  sealed_behind k count upto m pos past le none = elim (cases_lt k m) [
    | inr over ↦ sealed_past k m over
    | inl less ↦ (let is : page_length seal P c k ≡ 0 = none k (omega (arith, past, le, less)) in omega (arith, is, sealed_last k m less (omega (arith, is, pos))))
  ]

  -- fewer pages give as much, or are all full
  fewer : (k m extra : ℕ) → (length (sealed_from seal P c k m) ≡ length (sealed_from seal P c k (m + extra))) ⊎ ((length (sealed_from seal P c k m) ≡ m * P) × (m * P ≤ length (sealed_from seal P c k (m + extra))))
  fewer k zero extra = inr (omega (arith, sealed_none k), omega arith)
  fewer k (suc m) extra = elim (cases_lt (page_length seal P c k) P) [
    | inl less ↦ inl (sealed_stop k m less ∙ sym (ap (λ (x : ℕ). length (sealed_from seal P c k x)) (more m) ∙ sealed_stop k (m + extra) less))
    | inr le ↦ (let full : page_length seal P c k ≡ P = omega (arith, le, page_length-le seal P c k) in elim (fewer (k + 1) m extra) [
      | inl same ↦ inl (sealed_next k m full ∙ ap (λ (x : ℕ). P + x) same ∙ sym (ap (λ (x : ℕ). length (sealed_from seal P c k x)) (more m) ∙ sealed_next k (m + extra) full))
      | inr all ↦ inr (omega (arith, sealed_next k m full, all.0), omega (arith, ap (λ (x : ℕ). length (sealed_from seal P c k x)) (more m), sealed_next k (m + extra) full, all.1))
    ])
  ]
    where
      more : (n : ℕ) → suc n + extra ≡ suc (n + extra)
      more n = omega arith

  -- up to a bound it is enough to look at the pages that begin below it
  pub prefix_at_most : (k end : ℕ) → 1 ≤ P → min end (prefix_upto seal P c k (pages_for P end)) ≡ min end (proven_prefix seal P c k)
  prefix_at_most k end pos =
      let near : end + (P - 1) < (end + (P - 1)) / P * P + P = lt-div-mul-add pos in
      let e : min (pages_in P c) (pages_for P end) - k + (pages_in P c - k - (min (pages_in P c) (pages_for P end) - k)) ≡ pages_in P c - k = omega arith in
      let all : length (sealed_from seal P c k (min (pages_in P c) (pages_for P end) - k + (pages_in P c - k - (min (pages_in P c) (pages_for P end) - k)))) ≡ length (sealed_from seal P c k (pages_in P c - k)) = ap (λ (x : ℕ). length (sealed_from seal P c k x)) e in
      elim (fewer k (min (pages_in P c) (pages_for P end) - k) (pages_in P c - k - (min (pages_in P c) (pages_for P end) - k))) [
        | inl same ↦ omega (arith, same, all)
        | inr full ↦ elim (cases_lt (pages_in P c) (pages_for P end + 1)) [
          | inl few ↦ (let f : min (pages_in P c) (pages_for P end) - k ≡ pages_in P c - k = omega (arith, few) in omega (arith, ap (λ (x : ℕ). length (sealed_from seal P c k x)) f))
          | inr many ↦ (let reach : pages_for P end * P ≤ (k + (min (pages_in P c) (pages_for P end) - k)) * P = mul-le-mul_right P (let g : pages_for P end ≤ k + (min (pages_in P c) (pages_for P end) - k) = omega (arith, many) in g) in
              omega (arith, full.0, full.1, all, near, reach, times_sum k (min (pages_in P c) (pages_for P end) - k) P))
        ]
      ]

-- full pages below k change nothing
pub proven_is : (seal : List ℕ → ℕ) (P : ℕ) (c : List ℕ) → 1 ≤ P → (k : ℕ) → ((j : ℕ) → j < k → page_length seal P c j ≡ P) → k * P + length (sealed_from seal P c k (pages_in P c - k)) ≡ length (sealed_prefix seal P c)
unfolding sealed_prefix
proven_is seal P c pos zero full = let e : pages_in P c - 0 ≡ pages_in P c = omega arith in omega (arith, ap (λ (m : ℕ). length (sealed_from seal P c 0 m)) e)
proven_is seal P c pos (suc k) full =
    let whole : page_length seal P c k ≡ P = full k (omega arith) in
    let e : suc k ≡ k + 1 = omega arith in
    (λ t. e t * P + length (sealed_from seal P c (e t) (pages_in P c - e t))) ∙ sym (sealed_full seal P c k (pages_in P c) (page_in seal P c k (omega (arith, whole, pos))) whole) ∙ proven_is seal P c pos k (λ j lt. full j (omega (arith, lt)))

-- every page of a content that has a length below 2^64 is looked at
pub prefix_all : (seal : List ℕ → ℕ) (P : ℕ) (c : List ℕ) (k : ℕ) → length c < 2 ^ 64 → prefix_upto seal P c k (2 ^ 64 - 1) ≡ proven_prefix seal P c k
prefix_all seal P c k short =
    let few : pages_in P c ≤ 2 ^ 64 - 1 = omega (arith, page_below P (length c) (pages_in P c - 1) (omega arith), index_twice P (pages_in P c - 1), short) in
    let e : min (pages_in P c) (2 ^ 64 - 1) ≡ pages_in P c = omega (arith, few) in
    ap (λ (n : ℕ). k * P + length (sealed_from seal P c k (n - k))) e
