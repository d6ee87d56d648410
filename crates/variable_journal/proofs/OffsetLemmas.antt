-- Where items stand in a list of frames: at boundaries, in order.
use Rattle.std.proofs.Common.{◌≡◌, ◌∙◌, ◌⊎◌, inl, inr, ℕ, ◌+◌, ◌^◌, ◌<◌, ◌≤◌, List, [], ◌∷◌, ◌++◌, length, drop, refl, sym, ap, subst, arith, append_assoc, length-append}
use Rattle.std.proofs.Math.Seq.{drop-append_seam}
use Rattle.std.proofs.lemmas.List.{append-nil}
use Rattle.std.specs.List.{AllByRecursion}
use Rattle.variable_journal.specs.Frames.{frame, frames, items_of, rest_of, whole_end, AreFrames, BeginsWithFrame, BeginsWithNoFrame, HasBadLength}
use Rattle.variable_journal.specs.Reading.{IsPastLast}
use Rattle.variable_journal.specs.Replaying.{IsBoundary, IsItemAt}
use Rattle.variable_journal.specs.lemmas.Frame.{are_frames, frame_some, frames_append, one_frame}
use Rattle.variable_journal.specs.lemmas.Offset.{whole_is}

-- two places in one list: the same, or one before the other
pub split_two : {X : Type 0} (p q : List X) (x : X) (r s : List X) (y : X) → p ++ x ∷ q ≡ r ++ y ∷ s
    → ((p ≡ r) × (x ≡ y)) ⊎ (((m : List X) × (r ≡ p ++ x ∷ m)) ⊎ ((m : List X) × (p ≡ r ++ y ∷ m)))
split_two [] q x [] s y is = inl (refl, cc is)
split_two [] q x (z ∷ r) s y is = inr (inl (r, (let same : x ≡ z = cc is in ap (λ w. w ∷ r) (sym same))))
split_two (z ∷ p) q x [] s y is = inr (inr (p, (let same : z ≡ y = cc is in ap (λ w. w ∷ p) same)))
split_two (z ∷ p) q x (w ∷ r) s y is =
    let head : z ≡ w = cc is in
    let tail : p ++ x ∷ q ≡ r ++ y ∷ s = cc is in
    elim (split_two p q x r s y tail) [
      | inl same ↦ inl ((λ i. head i ∷ same.0 i), same.1)
      | inr (inl later) ↦ inr (inl (later.0, (λ i. sym head i ∷ later.1 i)))
      | inr (inr earlier) ↦ inr (inr (earlier.0, (λ i. head i ∷ earlier.1 i)))
    ]

-- an element stands before a boundary, or from there on
pub split_at : {X : Type 0} (p q : List X) (x : X) (b a : List X) → p ++ x ∷ q ≡ b ++ a
    → ((m : List X) × (b ≡ p ++ x ∷ m)) ⊎ ((m : List X) × (p ≡ b ++ m) × (a ≡ m ++ x ∷ q))
split_at p q x [] a is = inr (p, refl, sym is)
split_at [] q x (z ∷ b) a is = inl (b, (let same : x ≡ z = cc is in ap (λ w. w ∷ b) (sym same)))
split_at (z ∷ p) q x (w ∷ b) a is =
    let head : z ≡ w = cc is in
    let tail : p ++ x ∷ q ≡ b ++ a = cc is in
    elim (split_at p q x b a tail) [
      | inl before ↦ inl (before.0, (λ i. sym head i ∷ before.1 i))
      | inr after ↦ inr (after.0, (λ i. head i ∷ after.1 i), after.2)
    ]

frames_more : (p : List (List ℕ)) (x : List ℕ) (m : List (List ℕ)) → length (frames (p ++ x ∷ m)) ≡ length (frames p) + (length (frame x) + length (frames m))
frames_more p x m = omega (arith, ap length (frames_append p (x ∷ m)), length-append (frames p) (frames (x ∷ m)), length-append (frame x) (frames m))

frames_both : (p m : List (List ℕ)) → length (frames (p ++ m)) ≡ length (frames p) + length (frames m)
frames_both p m = omega (arith, ap length (frames_append p m), length-append (frames p) (frames m))

module _ (bytes : List ℕ) where
  -- an item begins within the bytes
  pub item_inside : (o : ℕ) (item : List ℕ) → IsItemAt bytes o item → o < length bytes
  item_inside o item at =
      let size : length bytes ≡ length (frames (items_of bytes) ++ rest_of bytes) = ap length (are_frames bytes).is in
      omega (arith, size, length-append (frames (items_of bytes)) (rest_of bytes), ap (λ xs. length (frames xs)) at.are, frames_more at.before item at.after, frame_some item, at.at)

  -- before the end of the last frame
  pub item_before_end : (o : ℕ) (item : List ℕ) → IsItemAt bytes o item → o < whole_end bytes
  item_before_end o item at = omega (arith, ap (λ xs. length (frames xs)) at.are, frames_more at.before item at.after, frame_some item, at.at)

  -- and one item stands at an offset
  pub one_item : (o : ℕ) (x y : List ℕ) → IsItemAt bytes o x → IsItemAt bytes o y → x ≡ y
  one_item o x y a b = elim (split_two a.before a.after x b.before b.after y (sym a.are ∙ b.are)) [
    | inl same ↦ same.1
    | inr (inl later) ↦ absurd (omega (arith, a.at, b.at, ap (λ xs. length (frames xs)) later.1, frames_more a.before x later.0, frame_some x))
    | inr (inr earlier) ↦ absurd (omega (arith, a.at, b.at, ap (λ xs. length (frames xs)) earlier.1, frames_more b.before y earlier.0, frame_some y))
  ]

  -- the frames from a boundary on
  pub from_boundary : (o : ℕ) (at : IsBoundary bytes o) → AreFrames (drop o bytes) at.after (rest_of bytes)
  from_boundary o at =
      let are = are_frames bytes in
      let is : bytes ≡ frames at.before ++ (frames at.after ++ rest_of bytes) = are.is ∙ ap (λ xs. frames xs ++ rest_of bytes) at.are ∙ ap (λ z. z ++ rest_of bytes) (frames_append at.before at.after) ∙ append_assoc (frames at.before) (frames at.after) (rest_of bytes) in
      record {
        fit = fit_rest at.before at.after (subst (AllByRecursion (λ x. length x < 2 ^ 32)) at.are are.fit);
        is = (λ i. drop (at.at i) (is i)) ∙ drop-append_seam (frames at.before) (frames at.after ++ rest_of bytes);
        last = are.last;
      }
    where
      fit_rest : (xs ys : List (List ℕ)) → AllByRecursion (λ x. length x < 2 ^ 32) (xs ++ ys) → AllByRecursion (λ x. length x < 2 ^ 32) ys
      fit_rest [] ys all = all
      fit_rest (x ∷ xs) ys all = fit_rest xs ys all.1

  -- a frame that begins at a boundary is that of the next item
  pub next_item : (o : ℕ) (item rest : List ℕ) (at : IsBoundary bytes o) → BeginsWithFrame (drop o bytes) item rest → (more : List (List ℕ)) × (at.after ≡ item ∷ more)
  next_item o item rest at begins = go at.after (from_boundary o at)
    where
      go : (xs : List (List ℕ)) → AreFrames (drop o bytes) xs (rest_of bytes) → (more : List (List ℕ)) × (xs ≡ item ∷ more)
      go [] are = absurd (are.last item rest (subst (λ z. BeginsWithFrame z item rest) are.is begins))
      go (x ∷ xs) are = (xs, (let same = one_frame (drop o bytes) x (frames xs ++ rest_of bytes) item rest (are.is ∙ append_assoc (frame x) (frames xs) (rest_of bytes)) begins.is in ap (λ z. z ∷ xs) same.0))

  -- the item there, and the boundary behind it
  pub item_here : (o : ℕ) (item : List ℕ) (more : List (List ℕ)) (at : IsBoundary bytes o) → at.after ≡ item ∷ more → IsItemAt bytes o item
  item_here o item more at is = record { before = at.before; after = more; are = at.are ∙ ap (λ xs. at.before ++ xs) is; at = at.at }

  pub boundary_on : (o : ℕ) (item : List ℕ) (more : List (List ℕ)) (at : IsBoundary bytes o) → at.after ≡ item ∷ more → IsBoundary bytes (o + length (frame item))
  boundary_on o item more at is = record {
    before = at.before ++ item ∷ [];
    after = more;
    are = at.are ∙ ap (λ xs. at.before ++ xs) is ∙ sym (append_assoc at.before (item ∷ []) more);
    at = omega (arith, at.at, frames_more at.before item []);
  }

  -- where no frame begins at a boundary, it is the end of the last one
  pub last_boundary : (o : ℕ) (at : IsBoundary bytes o) → BeginsWithNoFrame (drop o bytes) → o ≡ whole_end bytes
  last_boundary o at none = go at.after refl
    where
      go : (xs : List (List ℕ)) → at.after ≡ xs → o ≡ whole_end bytes
      go [] is = at.at ∙ ap (λ xs. length (frames xs)) (sym (at.are ∙ ap (λ ys. at.before ++ ys) is ∙ append-nil at.before))
      go (x ∷ xs) is = absurd (let are = subst (λ ys. AreFrames (drop o bytes) ys (rest_of bytes)) is (from_boundary o at) in
          none x (frames xs ++ rest_of bytes) (record { fits = are.fit.0; is = are.is ∙ append_assoc (frame x) (frames xs) (rest_of bytes) }))

  -- an item from a boundary on is the next one, or one behind that
  pub behind_item : (o q : ℕ) (item i : List ℕ) (more : List (List ℕ)) (at : IsBoundary bytes o) → at.after ≡ item ∷ more → IsItemAt bytes q i → o ≤ q
      → ((q ≡ o) × (i ≡ item)) ⊎ (o + length (frame item) ≤ q)
  behind_item o q item i more at is there le = elim (split_at there.before there.after i at.before at.after (sym there.are ∙ at.are)) [
    | inl before ↦ absurd (omega (arith, le, at.at, there.at, ap (λ xs. length (frames xs)) before.1, frames_more there.before i before.0, frame_some i))
    | inr after ↦ go after.0 after.1 (sym is ∙ after.2)
  ]
    where
      go : (m : List (List ℕ)) → there.before ≡ at.before ++ m → item ∷ more ≡ m ++ i ∷ there.after → ((q ≡ o) × (i ≡ item)) ⊎ (o + length (frame item) ≤ q)
      go [] same list = inl (there.at ∙ ap (λ xs. length (frames xs)) (same ∙ append-nil at.before) ∙ sym at.at, (let e : item ≡ i = cc list in sym e))
      go (x ∷ m) same list = inr (let e : item ≡ x = cc list in omega (arith, there.at, at.at, ap (λ xs. length (frames xs)) same, frames_more at.before x m, ap (λ z. length (frame z)) e))

-- nothing stands before the first byte
pub start_boundary : (bytes : List ℕ) → IsBoundary bytes 0
start_boundary bytes = record { before = []; after = items_of bytes; are = refl; at = refl }

-- ---- where whole frames end

-- what stands behind them is the rest
pub rest_behind : (bytes : List ℕ) → drop (whole_end bytes) bytes ≡ rest_of bytes
rest_behind bytes = ap (drop (whole_end bytes)) (are_frames bytes).is ∙ drop-append_seam (frames (items_of bytes)) (rest_of bytes)

pub boundary_within : (bytes : List ℕ) (o : ℕ) → IsBoundary bytes o → o ≤ whole_end bytes
boundary_within bytes o at =
    let size : whole_end bytes ≡ length (frames at.before) + length (frames at.after) = ap (λ xs. length (frames xs)) at.are ∙ frames_both at.before at.after in
    omega (arith, at.at, size)

-- none is left where nothing follows them
pub rest_empty : (bytes : List ℕ) → length bytes ≤ whole_end bytes → rest_of bytes ≡ []
rest_empty bytes le = empty (rest_of bytes) (omega (arith, le, whole_is bytes))
  where
    empty : (l : List ℕ) → length l ≤ 0 → l ≡ []
    empty [] small = refl
    empty (x ∷ l) small = absurd (omega (arith, small))

module _ (bytes : List ℕ) (o : ℕ) (at : IsBoundary bytes o) (past : IsPastLast (drop o bytes)) where
  -- no item stands from there on
  pub none_on : (q : ℕ) (item : List ℕ) → IsItemAt bytes q item → o ≤ q → ⊥
  none_on q item there le = omega (arith, le, item_before_end bytes q item there, last_boundary bytes o at past.none)

  -- and what is cut off there is no length that is refused
  pub unread_rest : HasBadLength (rest_of bytes) → ⊥
  unread_rest bad = past.unread (subst HasBadLength (sym (rest_behind bytes) ∙ ap (λ (n : ℕ). drop n bytes) (sym (last_boundary bytes o at past.none))) bad)
