-- How far a replay has come: of each section some items were taken, and the rest are left.
use Rattle.std.specs.Prelude.{◌≡◌, ◌≢◌, ◌⊎◌, ◌↔◌, ℕ, ◌+◌, ◌<◌, ◌≤◌, ◌==◌, if◌then◌else◌, List, [], ◌∷◌, ◌++◌, length}
use Rattle.std.proofs.Common.{inl, inr, ⊎_elim, refl, sym, ap, ◌∙◌, subst, arith, length-append}
use Rattle.std.proofs.lemmas.Bool.{cases_eq, cases_lt}
use Rattle.std.proofs.lemmas.List.{append-nil}
use Rattle.variable_journal.specs.Frames.{frame, frames}
use Rattle.variable_journal.specs.lemmas.Frame.{frame_some, frames_append}
use Rattle.cache_store.proofs.StateLemmas.{chosen, passed}

-- One of the items, of which the first begins at this place.
pub record IsAmong (xs : List (List ℕ)) (start at : ℕ) (item : List ℕ) : Type 0 where
  pub before : List (List ℕ)
  pub after : List (List ℕ)
  pub are : xs ≡ before ++ item ∷ after
  pub begins : at ≡ start + length (frames before)

pub among_none : (start at : ℕ) (item : List ℕ) → IsAmong [] start at item → ⊥
among_none start at item among = go among.before among.are
  where
    go : (before : List (List ℕ)) → ◌≡◌ {A = List (List ℕ)} [] (before ++ item ∷ among.after) → ⊥
    go [] is = cc is
    go (x ∷ before) is = cc is

pub among_first : (x : List ℕ) (xs : List (List ℕ)) (start : ℕ) → IsAmong (x ∷ xs) start start x
among_first x xs start = record { before = []; after = xs; are = refl; begins = omega arith }

-- it is the first one, or one of the rest
pub among_split : (x : List ℕ) (xs : List (List ℕ)) (start at : ℕ) (item : List ℕ) → IsAmong (x ∷ xs) start at item
    → ((at ≡ start) × (item ≡ x)) ⊎ IsAmong xs (start + length (frame x)) at item
among_split x xs start at item among = go among.before among.after among.are among.begins
  where
    go : (before after : List (List ℕ)) → x ∷ xs ≡ before ++ item ∷ after → at ≡ start + length (frames before)
        → ((at ≡ start) × (item ≡ x)) ⊎ IsAmong xs (start + length (frame x)) at item
    go [] after is begins = inl (omega (arith, begins), cc is)
    go (y ∷ before) after is begins =
        let head : y ≡ x = cc is in
        let tail : xs ≡ before ++ item ∷ after = cc is in
        let size : length (frame y ++ frames before) ≡ length (frame x) + length (frames before) = length-append (frame y) (frames before) ∙ ap (λ (z : List ℕ). length (frame z) + length (frames before)) head in
        inr (record { before = before; after = after; are = tail; begins = omega (arith, begins, size) })

pub among_later : (x : List ℕ) (xs : List (List ℕ)) (start at : ℕ) (item : List ℕ) → IsAmong xs (start + length (frame x)) at item → IsAmong (x ∷ xs) start at item
among_later x xs start at item among = record {
  before = x ∷ among.before;
  after = among.after;
  are = ap (λ z. x ∷ z) among.are;
  begins = omega (arith, among.begins, length-append (frame x) (frames among.before));
}

-- those of the rest come later
pub among_from : (xs : List (List ℕ)) (start at : ℕ) (item : List ℕ) → IsAmong xs start at item → start ≤ at
among_from xs start at item among = omega (arith, among.begins)

-- two numbers that differ
apart : (m n : ℕ) → m ≢ n → (m < n) ⊎ (n < m)
apart m n other = ⊎_elim (λ (less : m < n). inl less) (λ (le : n ≤ m). inr (⊎_elim (λ (more : n < m). more) (λ (same : m ≤ n). absurd (other (omega (arith, le, same)))) (cases_lt n m))) (cases_lt m n)

-- this item is taken next, from section s at o
abbrev pub taken_next : (ℕ → List (List ℕ)) → ℕ → List ℕ → ℕ → List (List ℕ)
taken_next taken s item t = if t == s then taken t ++ item ∷ [] else taken t

-- what is left without it
abbrev pub rest_next : (ℕ → List (List ℕ)) → ℕ → List (List ℕ) → ℕ → List (List ℕ)
rest_next rest s after t = if t == s then after else rest t

-- An item that is left of section t at q, as a replay says it; which sections are held.
module _ (IsHeld : ℕ → Type 0) where
  -- Of each section these were taken, and the rest are left.
  pub record HasTaken (taken rest : ℕ → List (List ℕ)) (IsLeft : ℕ → ℕ → List ℕ → Type 0) : Type 0 where
    pub left : (t q : ℕ) (i : List ℕ) → IsLeft t q i ↔ (IsHeld t × IsAmong (rest t) (length (frames (taken t))) q i)

  module _ (taken rest : ℕ → List (List ℕ)) (IsLeft IsLeftNow : ℕ → ℕ → List ℕ → Type 0) (has : HasTaken taken rest IsLeft)
      (s o : ℕ) (item : List ℕ) (was : IsLeft s o item)
      (first : (t q : ℕ) (i : List ℕ) → IsLeft t q i → ((t < s) ⊎ ((t ≡ s) × (q < o))) → ⊥)
      (now : (t q : ℕ) (i : List ℕ) → IsLeftNow t q i ↔ (IsLeft t q i × ((s < t) ⊎ ((s ≡ t) × (o < q))))) where
    -- It is the first of the rest of its section.
    pub record IsNext : Type 0 where
      pub after : List (List ℕ)
      pub is : rest s ≡ item ∷ after
      pub at : o ≡ length (frames (taken s))

    pub held : IsHeld s
    held = ((has.left s o item).0 was).0

    pub next : IsNext
    next = go (rest s) refl ((has.left s o item).0 was).1
      where
        go : (xs : List (List ℕ)) → rest s ≡ xs → IsAmong xs (length (frames (taken s))) o item → IsNext
        go [] is among = absurd (among_none _ _ _ among)
        go (x ∷ xs) is among = ⊎_elim
            (λ here. record { after = xs; is = is ∙ ap (λ z. z ∷ xs) (sym here.1); at = here.0 })
            (λ later. absurd (first s (length (frames (taken s))) x
            ((has.left s (length (frames (taken s))) x).1 (held, subst (λ (l : List (List ℕ)). IsAmong l (length (frames (taken s))) (length (frames (taken s))) x) (sym is) (among_first x xs _)))
            (inr (refl, omega (arith, frame_some x, among_from xs _ o item later)))))
            (among_split x xs _ o item among)

    here_taken : (t : ℕ) → t ≡ s → length (frames (taken_next taken s item t)) ≡ length (frames (taken s)) + length (frame item)
    here_taken t same = ap (λ (l : List (List ℕ)). length (frames l)) (chosen t s (taken t ++ item ∷ []) (taken t) same ∙ ap (λ (n : ℕ). taken n ++ item ∷ []) same)
        ∙ ap length (frames_append (taken s) (item ∷ [])) ∙ length-append (frames (taken s)) (frames (item ∷ []))
        ∙ ap (λ (l : List ℕ). length (frames (taken s)) + length l) (append-nil (frame item))

    pub taken_on : HasTaken (taken_next taken s item) (rest_next rest s next.after) IsLeftNow
    taken_on = record { left = λ t q i. ⊎_elim (λ same. here t q i same) (λ other. there t q i other) (cases_eq t s) }
      where
        here : (t q : ℕ) (i : List ℕ) → t ≡ s → IsLeftNow t q i ↔ (IsHeld t × IsAmong (rest_next rest s next.after t) (length (frames (taken_next taken s item t))) q i)
        here t q i same = (to, from)
          where
            rest_is : rest_next rest s next.after t ≡ next.after
            rest_is = chosen t s next.after (rest t) same

            whole : rest t ≡ item ∷ next.after
            whole = ap rest same ∙ next.is

            to : IsLeftNow t q i → IsHeld t × IsAmong (rest_next rest s next.after t) (length (frames (taken_next taken s item t))) q i
            to is = (let both = (now t q i).0 is in let was = (has.left t q i).0 both.0 in (
              was.0,
              ⊎_elim
                  (λ head. absurd (⊎_elim (λ (less : s < t). omega (arith, less, same)) (λ more. omega (arith, more.1, head.0, next.at, ap (λ (n : ℕ). length (frames (taken n))) same)) both.1))
                  (λ later. (λ (z : IsAmong next.after (length (frames (taken t)) + length (frame item)) q i). subst (λ (l : List (List ℕ)). IsAmong l (length (frames (taken_next taken s item t))) q i) (sym rest_is)
                  (subst (λ (n : ℕ). IsAmong next.after n q i) (sym (here_taken t same ∙ ap (λ (n : ℕ). length (frames (taken n)) + length (frame item)) (sym same))) z)) later)
                  (among_split item next.after (length (frames (taken t))) q i (subst (λ (l : List (List ℕ)). IsAmong l (length (frames (taken t))) q i) whole was.1)),
            ))

            from : IsHeld t × IsAmong (rest_next rest s next.after t) (length (frames (taken_next taken s item t))) q i → IsLeftNow t q i
            from is =
                let among : IsAmong next.after (length (frames (taken t)) + length (frame item)) q i =
                subst (λ (n : ℕ). IsAmong next.after n q i) (here_taken t same ∙ ap (λ (n : ℕ). length (frames (taken n)) + length (frame item)) (sym same))
                (subst (λ (l : List (List ℕ)). IsAmong l (length (frames (taken_next taken s item t))) q i) rest_is is.1) in
                (now t q i).1 (
                  (has.left t q i).1 (is.0, subst (λ (l : List (List ℕ)). IsAmong l (length (frames (taken t))) q i) (sym whole) (among_later item next.after _ q i among)),
                  inr (sym same, omega (arith, next.at, ap (λ (n : ℕ). length (frames (taken n))) same, among_from next.after _ q i among, frame_some item)),
                )

        there : (t q : ℕ) (i : List ℕ) → t ≢ s → IsLeftNow t q i ↔ (IsHeld t × IsAmong (rest_next rest s next.after t) (length (frames (taken_next taken s item t))) q i)
        there t q i other = (to, from)
          where
            rest_is : rest_next rest s next.after t ≡ rest t
            rest_is = passed t s next.after (rest t) other

            taken_is : taken_next taken s item t ≡ taken t
            taken_is = passed t s (taken t ++ item ∷ []) (taken t) other

            to : IsLeftNow t q i → IsHeld t × IsAmong (rest_next rest s next.after t) (length (frames (taken_next taken s item t))) q i
            to is = (let was = (has.left t q i).0 ((now t q i).0 is).0 in (
              was.0,
              subst (λ (l : List (List ℕ)). IsAmong l (length (frames (taken_next taken s item t))) q i) (sym rest_is) (subst (λ (l : List (List ℕ)). IsAmong (rest t) (length (frames l)) q i) (sym taken_is) was.1),
            ))

            from : IsHeld t × IsAmong (rest_next rest s next.after t) (length (frames (taken_next taken s item t))) q i → IsLeftNow t q i
            from is =
                let was : IsLeft t q i = (has.left t q i).1 (
                  is.0,
                  subst (λ (l : List (List ℕ)). IsAmong (rest t) (length (frames l)) q i) taken_is (subst (λ (l : List (List ℕ)). IsAmong l (length (frames (taken_next taken s item t))) q i) rest_is is.1),
                ) in
                (now t q i).1 (
                  was,
                  ⊎_elim
                      (λ (less : t < s). absurd (first t q i was (inl less)))
                      (λ (more : s < t). inl more)
                      (apart t s other),
                )
