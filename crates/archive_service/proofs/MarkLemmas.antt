-- Marks of the stretches of a run, and what is numbered by them, as one more comes behind.
use Rattle.std.proofs.Common.{◌≡◌, inl, inr, refl, sym, ◌∙◌, ap, subst, ℕ, zero, suc, ◌+◌, ◌-◌, ◌*◌, ◌<◌, ◌≤◌, true, false, nat_le, if◌then◌else◌, List, [], ◌∷◌, ◌++◌, length, get_or, slice_get, Option, Some, None, arith, length-append}
use Rattle.std.proofs.lemmas.Bool.{cases_lt}
use Rattle.std.proofs.lemmas.Bool.Decides.{nat_tests}
use Rattle.blob_device.specs.Disk.{Disk}
use Rattle.blob_device.specs.Timeline.{Timeline, Always, Stretches}

-- what there was so far, by number, and the next one behind
pub extended : {St : Type 0} → (ℕ → St) → ℕ → St → ℕ → St
extended states n new i = if nat_le i n then states i else new

pub extended_old : {St : Type 0} (states : ℕ → St) (n : ℕ) (new : St) (i : ℕ) → i ≤ n → extended states n new i ≡ states i
unfolding extended
extended_old states n new i le = let e : nat_le i n ≡ true = grind (arith, nat_tests) in ap (λ b. if b then states i else new) e

pub extended_new : {St : Type 0} (states : ℕ → St) (n : ℕ) (new : St) (i : ℕ) → n < i → extended states n new i ≡ new
unfolding extended
extended_new states n new i lt = let e : nat_le i n ≡ false = grind (arith, nat_tests) in ap (λ b. if b then states i else new) e

-- ---- lists

pub get_left : {X : Type 0} (xs ys : List X) (i : ℕ) → i < length xs → slice_get (xs ++ ys) i ≡ slice_get xs i
get_left [] ys i lt = absurd (omega arith)
get_left (x ∷ xs) ys zero lt = refl
get_left (x ∷ xs) ys (suc i) lt = get_left xs ys i (omega arith)

pub get_last : {X : Type 0} (xs : List X) (x : X) → slice_get (xs ++ x ∷ []) (length xs) ≡ Some x
get_last [] x = refl
get_last (y ∷ xs) x = get_last xs x

pub same_some : {X : Type 0} (o : Option X) (x y : X) → o ≡ Some x → o ≡ Some y → x ≡ y
same_some o x y e q = cc

pub none_some : {X : Type 0} (o : Option X) (x : X) → o ≡ None → o ≡ Some x → ⊥
none_some o x e q = cc

-- ---- marks, and a number behind them that stands for all later ones

pub or_left : (xs ys : List ℕ) (i d : ℕ) → i < length xs → get_or (xs ++ ys) i d ≡ get_or xs i d
or_left [] ys i d lt = absurd (omega arith)
or_left (x ∷ xs) ys zero d lt = refl
or_left (x ∷ xs) ys (suc i) d lt = or_left xs ys i d (omega arith)

pub or_inside : (xs : List ℕ) (i c d : ℕ) → i < length xs → get_or xs i c ≡ get_or xs i d
or_inside [] i c d lt = absurd (omega arith)
or_inside (x ∷ xs) zero c d lt = refl
or_inside (x ∷ xs) (suc i) c d lt = or_inside xs i c d (omega arith)

pub or_past : (xs : List ℕ) (i d : ℕ) → length xs ≤ i → get_or xs i d ≡ d
or_past [] i d le = refl
or_past (x ∷ xs) zero d le = absurd (omega arith)
or_past (x ∷ xs) (suc i) d le = or_past xs i d (omega arith)

pub mark_before : (marks : List ℕ) (b c i : ℕ) → i < length marks → get_or (marks ++ b ∷ []) i c ≡ get_or marks i b
mark_before marks b c i lt = or_left marks (b ∷ []) i c lt ∙ or_inside marks i c b lt

pub mark_last : (marks : List ℕ) (b c : ℕ) → get_or (marks ++ b ∷ []) (length marks) c ≡ b
mark_last [] b c = refl
mark_last (x ∷ marks) b c = mark_last marks b c

pub mark_past : (marks : List ℕ) (b c i : ℕ) → length marks < i → get_or (marks ++ b ∷ []) i c ≡ c
mark_past marks b c i lt = or_past (marks ++ b ∷ []) i c (omega (arith, length-append marks (b ∷ [])))

pub mark_upto : (marks : List ℕ) (b c i : ℕ) → i ≤ length marks → get_or (marks ++ b ∷ []) i c ≡ get_or marks i b
mark_upto marks b c i le = elim (cases_lt i (length marks)) [
  | inl lt ↦ mark_before marks b c i lt
  | inr ge ↦ let e : i ≡ length marks = omega arith in
      ap (λ (j : ℕ). get_or (marks ++ b ∷ []) j c) e ∙ mark_last marks b c ∙ sym (ap (λ (j : ℕ). get_or marks j b) e ∙ or_past marks (length marks) b (omega arith))
]

-- where the marks ascend with b behind them, they do with b as the last one and c behind it
pub ascends : (marks : List ℕ) (b c : ℕ) → b ≤ c → ((i : ℕ) → get_or marks i b ≤ get_or marks (i + 1) b) → (i : ℕ) → get_or (marks ++ b ∷ []) i c ≤ get_or (marks ++ b ∷ []) (i + 1) c
ascends marks b c later before i = elim (cases_lt (i + 1) (length marks)) [
  | inl lt ↦ omega (arith, mark_before marks b c i (omega arith), mark_before marks b c (i + 1) lt, before i)
  | inr ge ↦ elim (cases_lt i (length marks)) [
    | inl lt ↦ let e : i + 1 ≡ length marks = omega arith in
        let here = ap (λ (j : ℕ). get_or (marks ++ b ∷ []) j c) e ∙ mark_last marks b c in
        let past = ap (λ (j : ℕ). get_or marks j b) e ∙ or_past marks (length marks) b (omega arith) in
        omega (arith, mark_before marks b c i lt, here, before i, past)
    | inr past ↦ elim (cases_lt (length marks) i) [
      | inl over ↦ omega (arith, mark_past marks b c i over, mark_past marks b c (i + 1) (omega arith))
      | inr le ↦ let e : i ≡ length marks = omega arith in
          let here = ap (λ (j : ℕ). get_or (marks ++ b ∷ []) j c) e ∙ mark_last marks b c in
          omega (arith, here, mark_past marks b c (i + 1) (omega arith), later)
    ]
  ]
]

-- no mark is past the number behind them
within_end : (marks : List ℕ) (b : ℕ) → ((i : ℕ) → get_or marks i b ≤ get_or marks (i + 1) b) → (n i : ℕ) → i + n ≡ length marks → get_or marks i b ≤ b
within_end marks b before zero i e = omega (arith, or_past marks i b (omega arith))
within_end marks b before (suc n) i e = let next = within_end marks b before n (i + 1) (omega arith) in omega (arith, before i, next)

pub within : (marks : List ℕ) (b : ℕ) → ((i : ℕ) → get_or marks i b ≤ get_or marks (i + 1) b) → (i : ℕ) → get_or marks i b ≤ b
within marks b before i = elim (cases_lt i (length marks)) [
  | inl lt ↦ let n : i + (length marks - i) ≡ length marks = omega arith in within_end marks b before (length marks - i) i n
  | inr ge ↦ omega (arith, or_past marks i b (omega arith))
]

-- ---- stretches

-- of each stretch that there is
pub stretches_within : (a b : Timeline) (xs : List ℕ) (P Q : ℕ → Disk → Type 0) → ((i : ℕ) (d : Disk) → i < length xs → P i d → Q i d) → Stretches a b xs P → Stretches a b xs Q
stretches_within a b xs P Q weaker run = record {
  later = run.later;
  kept = run.kept;
  first = run.first;
  ascend = run.ascend;
  each = λ i lt m lo hi. weaker i (b.at m) lt (run.each i lt m lo hi);
}

-- one stretch more, from b to c
pub stretches_push : (a b c : Timeline) (xs : List ℕ) (P : ℕ → Disk → Type 0) → 0 < length xs → Stretches a b xs P → Always b c (P (length xs)) → Stretches a c (xs ++ b.calls ∷ []) P
stretches_push a b c xs P some run more = record {
  later = omega (arith, run.later, more.later);
  kept = λ m le. more.kept m (omega (arith, run.later, le)) ∙ run.kept m le;
  first = mark_before xs b.calls c.calls 0 some ∙ run.first;
  ascend = ascends xs b.calls c.calls more.later run.ascend;
  each = each;
}
  where
    each : (i : ℕ) → i < length (xs ++ b.calls ∷ []) → (m : ℕ) → 2 * get_or (xs ++ b.calls ∷ []) i c.calls ≤ m → m ≤ 2 * get_or (xs ++ b.calls ∷ []) (i + 1) c.calls → P i (c.at m)
    each i lt m lo hi = elim (cases_lt i (length xs)) [
      | inl less ↦
          let low = mark_before xs b.calls c.calls i less in
          let high : get_or (xs ++ b.calls ∷ []) (i + 1) c.calls ≡ get_or xs (i + 1) b.calls = mark_upto xs b.calls c.calls (i + 1) (omega arith) in
          let end = within xs b.calls run.ascend (i + 1) in
          let at : m ≤ 2 * b.calls = omega (arith, hi, high, end) in
          subst (λ (d : Disk). P i d) (sym (more.kept m at)) (run.each i less m (omega (arith, lo, low)) (omega (arith, hi, high)))
      | inr ge ↦
          let e : i ≡ length xs = omega (arith, lt, length-append xs (b.calls ∷ [])) in
          let low : get_or (xs ++ b.calls ∷ []) i c.calls ≡ b.calls = ap (λ (j : ℕ). get_or (xs ++ b.calls ∷ []) j c.calls) e ∙ mark_last xs b.calls c.calls in
          let high = mark_past xs b.calls c.calls (i + 1) (omega (arith, e)) in
          subst (λ (j : ℕ). P j (c.at m)) (sym e) (more.each m (omega (arith, lo, low)) (omega (arith, hi, high)))
    ]
