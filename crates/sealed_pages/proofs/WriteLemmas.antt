-- Writes over one another, and what a cut of the last of them leaves.
use Rattle.std.proofs.Common.{◌≡◌, inl, inr, ℕ, ◌+◌, ◌-◌, ◌<◌, ◌≤◌, min, max, List, [], length, get_or, take, drop, sym, ◌∙◌, ap, arith, length-take, length-drop}
use Rattle.std.proofs.lemmas.Bool.{cases_lt}
use Rattle.std.proofs.lemmas.List.{ext_get_or, get_or-take, get_or-drop}
use Rattle.blob_device.specs.Change.{written, resized}
use Rattle.sealed_pages.specs.Filled.{HasBytes}
use Rattle.blob_device.specs.Lengths.{length-resized, length-written}
use Rattle.blob_device.specs.Places.{resized_below, written_in, written_out}

-- a place among the bytes that were written
pub written_inside : (c : List ℕ) (at : ℕ) (bytes : List ℕ) (i : ℕ) → at ≤ i → i < at + length bytes → get_or (written c at bytes) i 0 ≡ get_or bytes (i - at) 0
written_inside c at bytes i low high =
    let e : i ≡ at + (i - at) = omega (arith, low) in
    ap (λ (j : ℕ). get_or (written c at bytes) j 0) e ∙ written_in c at bytes (i - at) (omega (arith, low, high))

-- a write that begins in the one before or at its end goes into it
pub written_again : (c : List ℕ) (at : ℕ) (run : List ℕ) (offset : ℕ) (bytes : List ℕ) → at ≤ offset → offset ≤ at + length run
    → written c at (written run (offset - at) bytes) ≡ written (written c at run) offset bytes
written_again c at run offset bytes low high = ext_get_or 0 (written c at (written run (offset - at) bytes)) (written (written c at run) offset bytes)
    (omega (arith, length-written c at (written run (offset - at) bytes), long, length-written (written c at run) offset bytes, length-written c at run, low, high))
    (λ i lt. elim (cases_lt i at) [
      | inl before ↦ written_out c at (written run (offset - at) bytes) i (inl before) ∙ sym (written_out (written c at run) offset bytes i (inl (omega (arith, before, low))) ∙ written_out c at run i (inl before))
      | inr from ↦ behind i from
    ])
  where
    long : length (written run (offset - at) bytes) ≡ max (length run) (offset - at + length bytes)
    long = length-written run (offset - at) bytes

    inner : (i : ℕ) → at ≤ i → i < at + max (length run) (offset - at + length bytes) → get_or (written c at (written run (offset - at) bytes)) i 0 ≡ get_or (written run (offset - at) bytes) (i - at) 0
    inner i from lt = written_inside c at (written run (offset - at) bytes) i from (omega (arith, lt, long))

    behind : (i : ℕ) → at ≤ i → get_or (written c at (written run (offset - at) bytes)) i 0 ≡ get_or (written (written c at run) offset bytes) i 0
    behind i from = elim (cases_lt i offset) [
      | inl short ↦ inner i from (omega (arith, short, high))
          ∙ written_out run (offset - at) bytes (i - at) (inl (omega (arith, short, from)))
          ∙ sym (written_out (written c at run) offset bytes i (inl short) ∙ written_inside c at run i from (omega (arith, short, high)))
      | inr far ↦ elim (cases_lt i (offset + length bytes)) [
        | inl inside ↦ inner i from (omega (arith, inside, low, far))
            ∙ written_inside run (offset - at) bytes (i - at) (omega (arith, far, low)) (omega (arith, inside, low, far))
            ∙ (let e : i - at - (offset - at) ≡ i - offset = omega (arith, low, far) in ap (λ (j : ℕ). get_or bytes j 0) e)
            ∙ sym (written_inside (written c at run) offset bytes i far inside)
        | inr past ↦ elim (cases_lt i (at + length run)) [
          | inl held ↦ inner i from (omega (arith, held))
              ∙ written_out run (offset - at) bytes (i - at) (inr (omega (arith, past, low)))
              ∙ sym (written_out (written c at run) offset bytes i (inr past) ∙ written_inside c at run i from held)
          | inr out ↦ written_out c at (written run (offset - at) bytes) i (inr (omega (arith, out, past, long, low)))
              ∙ sym (written_out (written c at run) offset bytes i (inr past) ∙ written_out c at run i (inr out))
        ]
      ]
    ]

-- no bytes first, and then some
pub written_twice : (c : List ℕ) (offset : ℕ) (bytes : List ℕ) → written (written c offset []) offset bytes ≡ written c offset bytes
written_twice c offset bytes = ext_get_or 0 (written (written c offset []) offset bytes) (written c offset bytes)
    (omega (arith, length-written (written c offset []) offset bytes, length-written c offset [], length-written c offset bytes))
    (λ i lt. elim (cases_lt i offset) [
      | inl below ↦ written_out (written c offset []) offset bytes i (inl below) ∙ written_out c offset [] i (inl below) ∙ sym (written_out c offset bytes i (inl below))
      | inr from ↦ elim (cases_lt i (offset + length bytes)) [
        | inl inside ↦ written_inside (written c offset []) offset bytes i from inside ∙ sym (written_inside c offset bytes i from inside)
        | inr past ↦ written_out (written c offset []) offset bytes i (inr past) ∙ written_out c offset [] i (inr (omega (arith, from))) ∙ sym (written_out c offset bytes i (inr past))
      ]
    ])

-- the part of a run below a length, over the same content
pub written_cut : (c : List ℕ) (at : ℕ) (run : List ℕ) (n : ℕ) → n ≤ max (length c) (at + length run)
    → take n (written c (min at n) (take (n - min at n) run)) ≡ take n (written c at run)
written_cut c at run n fits = ext_get_or 0 (take n (written c (min at n) (take (n - min at n) run))) (take n (written c at run))
    (omega (arith, length-take n (written c (min at n) (take (n - min at n) run)), length-take n (written c at run), length-written c (min at n) (take (n - min at n) run), length-written c at run, length-take (n - min at n) run, fits))
    (λ i lt. let below : i < n = omega (arith, lt, length-take n (written c (min at n) (take (n - min at n) run))) in
    get_or-take n (written c (min at n) (take (n - min at n) run)) i 0 below ∙ each i below ∙ sym (get_or-take n (written c at run) i 0 below))
  where
    short : length (take (n - min at n) run) ≡ min (n - min at n) (length run)
    short = length-take (n - min at n) run

    each : (i : ℕ) → i < n → get_or (written c (min at n) (take (n - min at n) run)) i 0 ≡ get_or (written c at run) i 0
    each i below = elim (cases_lt i at) [
      | inl before ↦ written_out c (min at n) (take (n - min at n) run) i (inl (omega (arith, before, below))) ∙ sym (written_out c at run i (inl before))
      | inr from ↦ elim (cases_lt i (at + length run)) [
        | inl inside ↦ written_inside c (min at n) (take (n - min at n) run) i (omega (arith, from)) (omega (arith, inside, below, from, short))
            ∙ get_or-take (n - min at n) run (i - min at n) 0 (omega (arith, below, from))
            ∙ (let e : i - min at n ≡ i - at = omega (arith, from, below) in ap (λ (j : ℕ). get_or run j 0) e)
            ∙ sym (written_inside c at run i from inside)
        | inr past ↦ written_out c (min at n) (take (n - min at n) run) i (inr (omega (arith, past, from, below, short))) ∙ sym (written_out c at run i (inr past))
      ]
    ]

-- a cut within the content takes its first bytes
pub resized_within : (c : List ℕ) (n : ℕ) → n ≤ length c → resized c n ≡ take n c
resized_within c n fits = ext_get_or 0 (resized c n) (take n c) (omega (arith, length-resized c n, length-take n c, fits))
    (λ i lt. let below : i < n = omega (arith, lt, length-resized c n) in resized_below c n i below ∙ sym (get_or-take n c i 0 below))

-- a buffer with the content's bytes is a part of it
pub filled_is : (content : List ℕ) (offset : ℕ) (buf : List ℕ) → offset + length buf ≤ length content → HasBytes content offset buf → buf ≡ take (length buf) (drop offset content)
filled_is content offset buf fits has = ext_get_or 0 buf (take (length buf) (drop offset content)) (omega (arith, length-take (length buf) (drop offset content), length-drop offset content, fits))
    (λ i lt. has i lt ∙ sym (get_or-take (length buf) (drop offset content) i 0 lt ∙ get_or-drop offset content i 0))
