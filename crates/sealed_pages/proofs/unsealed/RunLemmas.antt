-- Bytes copied into a part of a list, and a run laid over what was read.
use Rattle.std.proofs.Common.{◌≡◌, ◌⊎◌, inl, inr, ℕ, ◌+◌, ◌-◌, ◌<◌, ◌≤◌, min, max, List, ◌++◌, length, get_or, take, drop, replicate, refl, sym, ◌∙◌, ap, arith, append_assoc, length-append, length-take, length-drop, Result, Ok, Err, is_ok, IfOk, OnOk, if◌then◌else◌}
use Rattle.std.specs.declared.alloc.AllocError.{AllocError}
use borrow.Rule.Slice.PartMut.{put_mid}
use Rattle.std.proofs.lemmas.Bool.{cases_lt}
use Rattle.std.proofs.lemmas.List.{append-nil, take_all, drop_all, get_or-replicate, get_or_past, ext_get_or, get_or-take, get_or-drop, get_or_append_left, get_or-append_right}
use Rattle.std.proofs.lemmas.List.Edits.{paste_all}
use Rattle.std.proofs.lemmas.Slice.{put_mid-paste}
use Rattle.std.proofs.Math.ListN.{length-replicate}
use Rattle.blob_device.specs.Change.{written}
use Rattle.sealed_pages.specs.Filled.{HasBytes}
use Rattle.sealed_pages.proofs.WriteLemmas.{written_inside}
use Rattle.blob_device.specs.Lengths.{length-written}
use Rattle.blob_device.specs.Places.{written_out}

-- after a copy into a part
pub put_mid_written : (a k : ℕ) (xs ys zs : List ℕ) → ys ≡ zs → length zs ≡ k → a ≤ length xs → put_mid a k xs ys ≡ written xs a zs
put_mid_written a k xs ys zs same long within =
    let none : a - length xs ≡ 0 = omega (arith, within) in
    put_mid-paste a k xs ys zs (length zs) same long refl ∙ paste_all xs a zs (length zs) refl ∙ sym (append_assoc (take a xs) zs (drop (a + length zs) xs))
    ∙ sym (ap (λ (n : ℕ). take a xs ++ replicate n 0 ++ zs ++ drop (a + length zs) xs) none ∙ ap (λ (l : List ℕ). l ++ zs ++ drop (a + length zs) xs) (append-nil (take a xs)))

-- the part of a run that has places of `old`, put there
pub laid_is : (at : ℕ) (run : List ℕ) (offset : ℕ) (old part : List ℕ) (low high : ℕ) → low ≡ max at offset → high ≡ min (at + length run) (offset + length old) → low < high → part ≡ take (high - at - (low - at)) (drop (low - at) run)
    → put_mid (low - offset) (high - offset - (low - offset)) old part ≡ written old (low - offset) (take (high - at - (low - at)) (drop (low - at) run))
laid_is at run offset old part low high low_is high_is some same = put_mid_written (low - offset) (high - offset - (low - offset)) old part (take (high - at - (low - at)) (drop (low - at) run)) same long (omega (arith, low_is, high_is, some))
  where
    long : length (take (high - at - (low - at)) (drop (low - at) run)) ≡ high - offset - (low - offset)
    long = omega (arith, length-take (high - at - (low - at)) (drop (low - at) run), length-drop (low - at) run, low_is, high_is, some)

-- the bytes that fit in, and then the others behind
pub written_in_two : (run bytes : List ℕ) (at over : ℕ) → at ≤ length run → over ≡ min (length bytes) (length run - at)
    → written run at (take over bytes) ++ drop over bytes ≡ written run at bytes
written_in_two run bytes at over within is = ext_get_or 0 (written run at (take over bytes) ++ drop over bytes) (written run at bytes)
    (omega (arith, length-append (written run at (take over bytes)) (drop over bytes), long, length-drop over bytes, length-written run at bytes, within, is))
    (λ i lt. elim (cases_lt i (length run)) [
      | inl inside ↦ get_or_append_left (written run at (take over bytes)) (drop over bytes) 0 i (omega (arith, inside, long)) ∙ prefix i inside
      | inr behind ↦ get_or-append_right (written run at (take over bytes)) (drop over bytes) (length run) i 0 long behind
          ∙ get_or-drop over bytes (i - length run) 0
          ∙ (let e : over + (i - length run) ≡ i - at = omega (arith, is, behind, within, lt, total) in ap (λ (j : ℕ). get_or bytes j 0) e)
          ∙ sym (written_inside run at bytes i (omega (arith, behind, within)) (omega (arith, is, behind, within, lt, total)))
    ])
  where
    short : length (take over bytes) ≡ over
    short = omega (arith, length-take over bytes, is)

    long : length (written run at (take over bytes)) ≡ length run
    long = omega (arith, length-written run at (take over bytes), short, within, is)

    total : length (written run at (take over bytes) ++ drop over bytes) ≡ length run + (length bytes - over)
    total = omega (arith, length-append (written run at (take over bytes)) (drop over bytes), long, length-drop over bytes)

    prefix : (i : ℕ) → i < length run → get_or (written run at (take over bytes)) i 0 ≡ get_or (written run at bytes) i 0
    prefix i inside = elim (cases_lt i at) [
      | inl before ↦ written_out run at (take over bytes) i (inl before) ∙ sym (written_out run at bytes i (inl before))
      | inr from ↦ elim (cases_lt i (at + over)) [
        | inl among ↦ written_inside run at (take over bytes) i from (omega (arith, among, short)) ∙ get_or-take over bytes (i - at) 0 (omega (arith, among, from))
            ∙ sym (written_inside run at bytes i from (omega (arith, among, is)))
        | inr past ↦ written_out run at (take over bytes) i (inr (omega (arith, past, short))) ∙ sym (written_out run at bytes i (inr (omega (arith, past, is, inside, within))))
      ]
    ]

module _ (at : ℕ) (run : List ℕ) (offset : ℕ) (old new : List ℕ) (low high : ℕ) (low_is : low ≡ max at offset) (high_is : high ≡ min (at + length run) (offset + length old)) (some : low < high)
    (is : new ≡ written old (low - offset) (take (high - at - (low - at)) (drop (low - at) run))) where
  part : List ℕ
  part = take (high - at - (low - at)) (drop (low - at) run)

  long : length (take (high - at - (low - at)) (drop (low - at) run)) ≡ high - low
  long = omega (arith, length-take (high - at - (low - at)) (drop (low - at) run), length-drop (low - at) run, low_is, high_is, some)

  pub laid_length : length new ≡ length old
  laid_length = omega (arith, ap length is, length-written old (low - offset) (take (high - at - (low - at)) (drop (low - at) run)), long, low_is, high_is, some)

  among : (content : List ℕ) (i : ℕ) → low ≤ offset + i → offset + i < high → get_or new i 0 ≡ get_or (written content at run) (offset + i) 0
  among content i from to = ap (λ (l : List ℕ). get_or l i 0) is
      ∙ written_inside old (low - offset) (take (high - at - (low - at)) (drop (low - at) run)) i (omega (arith, from)) (omega (arith, to, long, low_is, some))
      ∙ get_or-take (high - at - (low - at)) (drop (low - at) run) (i - (low - offset)) 0 (omega (arith, from, to, low_is))
      ∙ get_or-drop (low - at) run (i - (low - offset)) 0
      ∙ (let e : low - at + (i - (low - offset)) ≡ offset + i - at = omega (arith, from, low_is) in ap (λ (j : ℕ). get_or run j 0) e)
      ∙ sym (written_inside content at run (offset + i) (omega (arith, from, low_is)) (omega (arith, to, high_is)))

  pub laid_over : (content : List ℕ) → HasBytes content offset old → HasBytes (written content at run) offset new
  laid_over content has i lt = let inside : i < length old = omega (arith, lt, laid_length) in elim (cases_lt (offset + i) low) [
    | inl before ↦ ap (λ (l : List ℕ). get_or l i 0) is ∙ written_out old (low - offset) (take (high - at - (low - at)) (drop (low - at) run)) i (inl (omega (arith, before)))
        ∙ has i inside ∙ sym (written_out content at run (offset + i) (inl (omega (arith, before, low_is))))
    | inr from ↦ elim (cases_lt (offset + i) high) [
      | inl to ↦ among content i from to
      | inr past ↦ ap (λ (l : List ℕ). get_or l i 0) is ∙ written_out old (low - offset) (take (high - at - (low - at)) (drop (low - at) run)) i (inr (omega (arith, past, long, low_is, some)))
          ∙ has i inside ∙ sym (written_out content at run (offset + i) (inr (omega (arith, past, high_is, inside))))
    ]
  ]

  pub laid_whole : at ≤ offset → offset + length old ≤ at + length run → (content : List ℕ) → HasBytes (written content at run) offset new
  laid_whole first last content i lt = among content i (omega (arith, low_is, first)) (omega (arith, high_is, last, lt, laid_length))

-- a run that has none of these places
pub none_over : (at : ℕ) (run : List ℕ) (offset : ℕ) (old : List ℕ) → min (at + length run) (offset + length old) ≤ max at offset → (content : List ℕ) → HasBytes content offset old → HasBytes (written content at run) offset old
none_over at run offset old apart content has i lt = has i lt ∙ sym (written_out content at run (offset + i) (side (cases_lt (offset + i) at)))
  where
    side : (offset + i < at) ⊎ (at ≤ offset + i) → (offset + i < at) ⊎ (at + length run ≤ offset + i)
    side (inl before) = inl before
    side (inr from) = inr (omega (arith, from, apart, lt))

-- a vector that lent all its bytes has what they became
refilled : (n : ℕ) (ys xs : List ℕ) → n ≡ length xs → length ys ≡ length xs → take n (ys ++ drop (length ys) xs) ≡ ys
refilled n ys xs long same = ap (λ (l : List ℕ). take n (ys ++ l)) (drop_all (length ys) xs (omega (arith, same))) ∙ ap (take n) (append-nil ys) ∙ take_all n ys (omega (arith, long, same))

pub overwritten : (items lent ys old rest bytes : List ℕ) (at over n : ℕ) → lent ≡ items → n ≡ length items → at ≤ length items → over ≡ min (length bytes) (length items - at) → ys ≡ old → old ≡ take over bytes → rest ≡ drop over bytes
    → take n (put_mid at (at + over - at) lent ys ++ drop (length (put_mid at (at + over - at) lent ys)) items) ++ rest ≡ written items at bytes
overwritten items lent ys old rest bytes at over n value len within is after prefix back =
    let short : length (take over bytes) ≡ at + over - at = omega (arith, length-take over bytes, is) in
    let mid : put_mid at (at + over - at) lent ys ≡ written items at (take over bytes)
    = put_mid_written at (at + over - at) lent ys (take over bytes) (after ∙ prefix) short (omega (arith, within, ap length value)) ∙ ap (λ (l : List ℕ). written l at (take over bytes)) value in
    let whole : length (put_mid at (at + over - at) lent ys) ≡ length items = omega (arith, ap length mid, length-written items at (take over bytes), short, is, within) in
    ap (λ (l : List ℕ). l ++ rest) (refilled n (put_mid at (at + over - at) lent ys) items len whole) ∙ ap (λ (l : List ℕ). l ++ rest) mid ∙ ap (λ (l : List ℕ). written items at (take over bytes) ++ l) back
    ∙ written_in_two items bytes at over within is

pub if_pushed : (r : Result (Unit {0}) AllocError) (new whole none all : List ℕ) → new ≡ (if is_ok r then whole else none) → whole ≡ all → IfOk r (λ _. new ≡ all)
if_pushed (Ok v) new whole none all is same = is ∙ same
if_pushed (Err e) new whole none all is same = tt

-- what was read of a content, with zeros behind
pub filled : (content : List ℕ) (offset end have : ℕ) (buf zeros part : List ℕ) → length content ≡ end → have ≡ min (end - offset) (length buf)
    → zeros ≡ replicate (length (take (length buf - have) (drop have buf))) 0
    → part ≡ take (length (take have (put_mid have (length buf - have) buf zeros))) (drop offset content)
    → HasBytes content offset (part ++ drop have (put_mid have (length buf - have) buf zeros))
filled content offset end have buf zeros part long is blank read i lt = elim (cases_lt i have) [
  | inl prefix ↦ get_or_append_left part (drop have (put_mid have (length buf - have) buf zeros)) 0 i (omega (arith, prefix, size)) ∙ ap (λ (l : List ℕ). get_or l i 0) read
      ∙ get_or-take (length (take have (put_mid have (length buf - have) buf zeros))) (drop offset content) i 0 (omega (arith, prefix, short)) ∙ get_or-drop offset content i 0
  | inr behind ↦ get_or-append_right part (drop have (put_mid have (length buf - have) buf zeros)) have i 0 size behind ∙ get_or-drop have (put_mid have (length buf - have) buf zeros) (i - have) 0
      ∙ (let e : have + (i - have) ≡ i = omega (arith, behind) in ap (λ (j : ℕ). get_or (put_mid have (length buf - have) buf zeros) j 0) e)
      ∙ ap (λ (l : List ℕ). get_or l i 0) whole_is
      ∙ written_inside buf have (replicate (length buf - have) 0) i behind (omega (arith, within, zero_length, total))
      ∙ get_or-replicate (length buf - have) (i - have) 0 0 (omega (arith, within, total, behind))
      ∙ sym (get_or_past content (offset + i) 0 (omega (arith, long, is, behind, within)))
]
  where
    rest : length (take (length buf - have) (drop have buf)) ≡ length buf - have
    rest = omega (arith, length-take (length buf - have) (drop have buf), length-drop have buf)

    zero_length : length (replicate {A = ℕ} (length buf - have) 0) ≡ length buf - have
    zero_length = length-replicate {A = ℕ} (length buf - have) 0

    whole_is : put_mid have (length buf - have) buf zeros ≡ written buf have (replicate (length buf - have) 0)
    whole_is = put_mid_written have (length buf - have) buf zeros (replicate (length buf - have) 0) (blank ∙ ap (λ (n : ℕ). replicate n 0) rest) zero_length (omega (arith, is))

    total : length (put_mid have (length buf - have) buf zeros) ≡ length buf
    total = omega (arith, ap length whole_is, length-written buf have (replicate (length buf - have) 0), zero_length, is)

    short : length (take have (put_mid have (length buf - have) buf zeros)) ≡ have
    short = omega (arith, length-take have (put_mid have (length buf - have) buf zeros), total, is)

    size : length part ≡ have
    size = omega (arith, ap length read, length-take (length (take have (put_mid have (length buf - have) buf zeros))) (drop offset content), short, length-drop offset content, long, is)

    within : i < length buf
    within = omega (arith, lt, length-append part (drop have (put_mid have (length buf - have) buf zeros)), size, length-drop have (put_mid have (length buf - have) buf zeros), total, is)

pub on_ok : {T E : Type 0} (r : Result T E) (P Q : Type 0) → (P → Q) → OnOk r P → OnOk r Q
on_ok (Ok v) P Q f p = f p
on_ok (Err e) P Q f p = tt
