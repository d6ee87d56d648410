-- What plain lists show, as a record is added and as sections are forgotten, and what is found as they are gone over.
use Rattle.std.proofs.Common.{◌≡◌, ◌≢◌, ◌↔◌, ◌⊎◌, inl, inr, refl, sym, ◌∙◌, ap, ap₂, subst, ℕ, ◌+◌, ◌<◌, ◌≤◌, Bool, true, false, cond, nat_eq, nat_le, IsTrue, List, [], ◌∷◌, ◌++◌, map, length, get_or, take, take_all, slice_get, Contains, filter, IsSomeAnd, Result, Ok, Err, is_ok, append-nil, arith}
use Rattle.std.proofs.lemmas.Bool.{cases_eq, eq-eqb, eqb-false, eqb-true, false≢true, leb-false, leb-true, ne_eqb}
use Rattle.std.proofs.lemmas.List.{length-take, length_push, take_more}
use Rattle.std.proofs.lemmas.List.Elements.{Contains-append_left, Contains-push, Contains-push_cases}
use Rattle.record_tables.specs.Plain.{ArePlaces, ForgetsBelow, ListsOneMore, listed_row, rows_among}
use Rattle.record_tables.specs.Rows.{ArePositions, Row}
use Rattle.record_tables.specs.declared.plain.Lists.{Lists}
use Rattle.record_tables.specs.declared.plain.Row.{Row as Listed}
use Rattle.record_tables.proofs.PositionLemmas.{at_cases, at_last, at_old, no_position_more, no_positions, one_position_more}

-- what is read of the same list by another name
pub within : {X : Type 0} (ds xs : List X) (i : ℕ) → ds ≡ xs → i < length ds → i < length xs
within ds xs i same lt = omega (arith, lt, ap length same)

pub item_in : {X : Type 0} (ds xs : List X) (i : ℕ) (x : X) → ds ≡ xs → x ≡ get_or ds i x → x ≡ get_or xs i x
item_in {X} ds xs i x same is = is ∙ ap (λ (ys : List X). get_or ys i x) same

module _ {W : Type 0} where
  -- ---- one record more

  map_one : (b : Bool) (r : Listed W) → map listed_row (cond b (r ∷ []) []) ≡ cond b (listed_row r ∷ []) []
  map_one true r = refl
  map_one false r = refl

  map_more : (b : Bool) (q : Listed W) (xs ys : List (Listed W)) (zs : List (Row W)) → map listed_row xs ≡ map listed_row ys ++ zs
      → map listed_row (cond b (q ∷ xs) xs) ≡ map listed_row (cond b (q ∷ ys) ys) ++ zs
  map_more true q xs ys zs is = ap (λ (rs : List (Row W)). listed_row q ∷ rs) is
  map_more false q xs ys zs is = is

  -- its row goes last in its section
  rows_more : (s : ℕ) (rs : List (Listed W)) (r : Listed W) → rows_among s (rs ++ r ∷ []) ≡ rows_among s rs ++ cond (nat_eq r.section s) (listed_row r ∷ []) []
  rows_more s [] r = map_one (nat_eq r.section s) r
  rows_more s (q ∷ rs) r = map_more (nat_eq q.section s) q (filter (λ x. nat_eq x.section s) (rs ++ r ∷ [])) (filter (λ x. nat_eq x.section s) rs) (cond (nat_eq r.section s) (listed_row r ∷ []) []) (rows_more s rs r)

  pub row_here : (s : ℕ) (rs : List (Listed W)) (r : Listed W) → r.section ≡ s → rows_among s (rs ++ r ∷ []) ≡ rows_among s rs ++ listed_row r ∷ []
  row_here s rs r is = rows_more s rs r ∙ ap (λ (b : Bool). rows_among s rs ++ cond b (listed_row r ∷ []) []) (eq-eqb r.section s is)

  pub row_beside : (s : ℕ) (rs : List (Listed W)) (r : Listed W) → r.section ≢ s → rows_among s (rs ++ r ∷ []) ≡ rows_among s rs
  row_beside s rs r other = rows_more s rs r ∙ ap (λ (b : Bool). rows_among s rs ++ cond b (listed_row r ∷ []) []) (ne_eqb r.section s other) ∙ append-nil (rows_among s rs)

  pub lists_more : {T E : Type 0} (res : Result T E) (old new : Lists W) (r : Listed W) → new.rows.items ≡ cond (is_ok res) (old.rows.items ++ r ∷ []) old.rows.items → ListsOneMore r old res new
  lists_more (Ok x) old new r is = record {
    here = ap (rows_among r.section) is ∙ row_here r.section old.rows.items r refl;
    others = λ s other. ap (rows_among s) is ∙ row_beside s old.rows.items r (λ same. other (sym same));
  }
  lists_more (Err e) old new r is = λ s. ap (rows_among s) is

  -- ---- sections below a bound

  module _ (bound s : ℕ) where
    abbrev among : List (Listed W) → List (Listed W)
    among rs = filter (λ x. nat_eq x.section s) rs

    abbrev from : List (Listed W) → List (Listed W)
    from rs = filter (λ x. nat_le bound x.section) rs

    none_step : s < bound → (r : Listed W) (rs : List (Listed W)) (b : Bool) → nat_le bound r.section ≡ b → among (from rs) ≡ [] → among (cond b (r ∷ from rs) (from rs)) ≡ []
    none_step lt r rs true is rest = ap (λ (b : Bool). cond b (r ∷ among (from rs)) (among (from rs))) (ne_eqb r.section s (λ same. omega (arith, leb-true bound r.section is, lt, same))) ∙ rest
    none_step lt r rs false is rest = rest

    none_left : s < bound → (rs : List (Listed W)) → among (from rs) ≡ []
    none_left lt [] = refl
    none_left lt (r ∷ rs) = none_step lt r rs (nat_le bound r.section) refl (none_left lt rs)

    same_step : bound ≤ s → (r : Listed W) (rs : List (Listed W)) (b : Bool) → nat_le bound r.section ≡ b → among (from rs) ≡ among rs → among (cond b (r ∷ from rs) (from rs)) ≡ among (r ∷ rs)
    same_step le r rs true is rest = ap (λ (xs : List (Listed W)). cond (nat_eq r.section s) (r ∷ xs) xs) rest
    same_step le r rs false is rest = rest ∙ sym (ap (λ (b : Bool). cond b (r ∷ among rs) (among rs)) (ne_eqb r.section s (λ same. omega (arith, leb-false bound r.section is, le, same))))

    same_left : bound ≤ s → (rs : List (Listed W)) → among (from rs) ≡ among rs
    same_left le [] = refl
    same_left le (r ∷ rs) = same_step le r rs (nat_le bound r.section) refl (same_left le rs)

  pub forgets : (bound : ℕ) (old new : Lists W) → new.rows.items ≡ filter (λ r. nat_le bound r.section) old.rows.items → ForgetsBelow bound old new
  forgets bound old new is = record {
    gone = λ s lt. ap (rows_among s) is ∙ ap (map listed_row) (none_left bound s lt old.rows.items);
    others = λ s le. ap (rows_among s) is ∙ ap (map listed_row) (same_left bound s le old.rows.items);
  }

  -- ---- how many there are

  count_step : (b : Bool) (r : Listed W) (rs : List (Listed W)) → length (map listed_row (cond b (r ∷ rs) rs)) ≤ length (map listed_row rs) + 1
  count_step true r rs = omega arith
  count_step false r rs = omega arith

  -- no more than there are records
  pub at_most : (s : ℕ) (rs : List (Listed W)) → length (rows_among s rs) ≤ length rs
  at_most s [] = omega arith
  at_most s (r ∷ rs) = omega (arith, count_step (nat_eq r.section s) r (filter (λ x. nat_eq x.section s) rs), at_most s rs)

  -- ---- positions

  module _ (s index : ℕ) (rs : List (Listed W)) (r : Listed W) (n : ℕ) (ps : List ℕ) (are : ArePositions (rows_among s rs) index ps) (all : n ≡ length (rows_among s rs)) (here : r.section ≡ s) where
    positions_by : (b : Bool) → nat_eq r.index index ≡ b → ArePositions (rows_among s rs ++ listed_row r ∷ []) index (cond b (ps ++ n ∷ []) ps)
    positions_by true is = subst (λ (k : ℕ). ArePositions (rows_among s rs ++ listed_row r ∷ []) index (ps ++ k ∷ [])) (sym all) (one_position_more (rows_among s rs) (listed_row r) index ps are (eqb-true r.index index is))
    positions_by false is = no_position_more (rows_among s rs) (listed_row r) index ps are (eqb-false r.index index is)

    positions_more : (qs : List ℕ) → qs ≡ cond (nat_eq r.index index) (ps ++ n ∷ []) ps → ArePositions (rows_among s (rs ++ r ∷ [])) index qs
    positions_more qs is = subst (λ (rows : List (Row W)). ArePositions rows index qs) (sym (row_here s rs r here))
        (subst (λ (ks : List ℕ). ArePositions (rows_among s rs ++ listed_row r ∷ []) index ks) (sym is) (positions_by (nat_eq r.index index) refl))

  -- ---- places

  module _ (eq : W → W → Bool) (w : W) (rs : List (Listed W)) (r : Listed W) (n : ℕ) (ps : List (ℕ × ℕ)) (are : ArePlaces eq w (λ s. rows_among s rs) ps) (all : n ≡ length (rows_among r.section rs)) where
    abbrev has_word : Row W → Type 0
    has_word row = IsTrue (eq row.key w)

    abbrev At : List (Listed W) → ℕ → ℕ → Type 0
    At xs s p = IsSomeAnd (slice_get (rows_among s xs) p) has_word

    still_at : (s p : ℕ) → At rs s p → At (rs ++ r ∷ []) s p
    still_at s p at = elim (cases_eq r.section s) as (λ _. At (rs ++ r ∷ []) s p) [
      | inl same ↦ subst (λ (rows : List (Row W)). IsSomeAnd (slice_get rows p) has_word) (sym (row_here s rs r same)) (at_old has_word (rows_among s rs) (listed_row r) p at)
      | inr other ↦ subst (λ (rows : List (Row W)). IsSomeAnd (slice_get rows p) has_word) (sym (row_beside s rs r other)) at
    ]

    was_at : (s p : ℕ) → At (rs ++ r ∷ []) s p → At rs s p ⊎ ((r.section ≡ s) × (p ≡ n) × IsTrue (eq r.word w))
    was_at s p at = elim (cases_eq r.section s) as (λ _. At rs s p ⊎ ((r.section ≡ s) × (p ≡ n) × IsTrue (eq r.word w))) [
      | inl same ↦ elim (at_cases has_word (rows_among s rs) (listed_row r) p (subst (λ (rows : List (Row W)). IsSomeAnd (slice_get rows p) has_word) (row_here s rs r same) at)) as (λ _. At rs s p ⊎ ((r.section ≡ s) × (p ≡ n) × IsTrue (eq r.word w))) [
        | inl was ↦ inl was
        | inr last ↦ inr (same, last.0 ∙ ap (λ (x : ℕ). length (rows_among x rs)) (sym same) ∙ sym all, last.1)
      ]
      | inr other ↦ inl (subst (λ (rows : List (Row W)). IsSomeAnd (slice_get rows p) has_word) (row_beside s rs r other) at)
    ]

    now_at : IsTrue (eq r.word w) → At (rs ++ r ∷ []) r.section n
    now_at is = subst (λ (rows : List (Row W)). IsSomeAnd (slice_get rows n) has_word) (sym (row_here r.section rs r refl))
        (subst (λ (k : ℕ). IsSomeAnd (slice_get (rows_among r.section rs ++ listed_row r ∷ []) k) has_word) (sym all) (at_last has_word (rows_among r.section rs) (listed_row r) is))

    places_by : (b : Bool) → eq r.word w ≡ b → (s p : ℕ) → Contains (cond b (ps ++ (r.section, n) ∷ []) ps) (s, p) ↔ At (rs ++ r ∷ []) s p
    places_by true is s p = (
      λ has. elim (Contains-push_cases ps (r.section, n) (s, p) has) as (λ _. At (rs ++ r ∷ []) s p) [
        | inl was ↦ still_at s p ((are.exact s p).0 was)
        | inr last ↦ subst (λ (at : ℕ × ℕ). At (rs ++ r ∷ []) at.0 at.1) last (now_at is)
      ],
      λ at. elim (was_at s p at) as (λ _. Contains (ps ++ (r.section, n) ∷ []) (s, p)) [
        | inl was ↦ Contains-append_left ps ((r.section, n) ∷ []) (s, p) ((are.exact s p).1 was)
        | inr last ↦ subst (λ (at : ℕ × ℕ). Contains (ps ++ (r.section, n) ∷ []) at) (ap₂ (λ (x y : ℕ). (x, y)) last.0 (sym last.1)) (Contains-push ps (r.section, n))
      ],
    )
    places_by false is s p = (
      λ has. still_at s p ((are.exact s p).0 has),
      λ at. elim (was_at s p at) as (λ _. Contains ps (s, p)) [ inl was ↦ (are.exact s p).1 was | inr last ↦ absurd (false≢true (sym is ∙ last.2)) ],
    )

    places_more : (qs : List (ℕ × ℕ)) → qs ≡ cond (eq r.word w) (ps ++ (r.section, n) ∷ []) ps → ArePlaces eq w (λ s. rows_among s (rs ++ r ∷ [])) qs
    places_more qs is = record { exact = λ s p. subst (λ (ks : List (ℕ × ℕ)). Contains ks (s, p) ↔ At (rs ++ r ∷ []) s p) (sym is) (places_by (eq r.word w) refl s p) }

  -- ---- going over the records

  -- the next one comes behind those that were gone over
  module _ (rs : List (Listed W)) (i : ℕ) (r : Listed W) (lt : i < length rs) (is : r ≡ get_or rs i r) where
    pub next_taken : take (i + 1) rs ≡ take i rs ++ r ∷ []
    next_taken = take_more rs i r lt ∙ ap (λ (x : Listed W). take i rs ++ x ∷ []) (sym is)

    pub count_here : (s n : ℕ) → n ≡ length (rows_among s (take i rs)) → r.section ≡ s → n + 1 ≡ length (rows_among s (take (i + 1) rs))
    count_here s n all same = omega (arith, all, ap length (ap (rows_among s) next_taken ∙ row_here s (take i rs) r same), length_push (rows_among s (take i rs)) (listed_row r))

    pub count_beside : (s n : ℕ) → n ≡ length (rows_among s (take i rs)) → r.section ≢ s → n ≡ length (rows_among s (take (i + 1) rs))
    count_beside s n all other = all ∙ ap length (sym (ap (rows_among s) next_taken ∙ row_beside s (take i rs) r other))

    pub found_beside : (s index : ℕ) (ps : List ℕ) → ArePositions (rows_among s (take i rs)) index ps → r.section ≢ s → ArePositions (rows_among s (take (i + 1) rs)) index ps
    found_beside s index ps are other = subst (λ (rows : List (Row W)). ArePositions rows index ps) (sym (ap (rows_among s) next_taken ∙ row_beside s (take i rs) r other)) are

    pub found_here : (s index n : ℕ) (ps qs : List ℕ) → ArePositions (rows_among s (take i rs)) index ps → n ≡ length (rows_among s (take i rs)) → r.section ≡ s
        → qs ≡ cond (nat_eq r.index index) (ps ++ n ∷ []) ps → ArePositions (rows_among s (take (i + 1) rs)) index qs
    found_here s index n ps qs are all here noted = subst (λ (xs : List (Listed W)). ArePositions (rows_among s xs) index qs) (sym next_taken) (positions_more s index (take i rs) r n ps are all here qs noted)

    pub placed : (eq : W → W → Bool) (w : W) (ds : List (Listed W)) (n : ℕ) (b : Bool) (ps qs : List (ℕ × ℕ)) → ArePlaces eq w (λ s. rows_among s (take i rs)) ps → ds ≡ rs
        → n ≡ length (rows_among r.section (take i ds)) → b ≡ eq r.word w → qs ≡ cond b (ps ++ (r.section, n) ∷ []) ps → ArePlaces eq w (λ s. rows_among s (take (i + 1) rs)) qs
    placed eq w ds n b ps qs are same all tested noted = subst (λ (xs : List (Listed W)). ArePlaces eq w (λ s. rows_among s xs) qs) (sym next_taken)
        (places_more eq w (take i rs) r n ps are (all ∙ ap (λ (xs : List (Listed W)). length (rows_among r.section (take i xs))) same) qs (noted ∙ ap (λ (c : Bool). cond c (ps ++ (r.section, n) ∷ []) ps) tested))

  pub count_within : (s i n : ℕ) (rs : List (Listed W)) → n ≡ length (rows_among s (take i rs)) → n ≤ i
  count_within s i n rs is = omega (arith, is, at_most s (take i rs), length-take i rs)

  -- ---- the begin and the end

  pub none_found : (s index : ℕ) (rs : List (Listed W)) (ps : List ℕ) → ps ≡ [] → ArePositions (rows_among s (take 0 rs)) index ps
  none_found s index rs ps none = subst (ArePositions {K = W} [] index) (sym none) (no_positions index)

  pub all_found : (s index : ℕ) (ds rs : List (Listed W)) (i : ℕ) (ps : List ℕ) → ds ≡ rs → length ds ≤ i → ArePositions (rows_among s (take i rs)) index ps → ArePositions (rows_among s rs) index ps
  all_found s index ds rs i ps same le are = subst (λ (xs : List (Listed W)). ArePositions (rows_among s xs) index ps) (take_all i rs (omega (arith, le, ap length same))) are

  no_places : (eq : W → W → Bool) (w : W) → ArePlaces eq w (λ s. rows_among s []) []
  no_places eq w = record { exact = λ s p. (λ has. absurd (omega (arith, has.1)), λ at. absurd at) }

  pub none_placed : (eq : W → W → Bool) (w : W) (rs : List (Listed W)) (ps : List (ℕ × ℕ)) → ps ≡ [] → ArePlaces eq w (λ s. rows_among s (take 0 rs)) ps
  none_placed eq w rs ps none = subst (ArePlaces eq w (λ s. rows_among s [])) (sym none) (no_places eq w)

  pub all_placed : (eq : W → W → Bool) (w : W) (ds rs : List (Listed W)) (i : ℕ) (ps : List (ℕ × ℕ)) → ds ≡ rs → length ds ≤ i → ArePlaces eq w (λ s. rows_among s (take i rs)) ps → ArePlaces eq w (λ s. rows_among s rs) ps
  all_placed eq w ds rs i ps same le are = subst (λ (xs : List (Listed W)). ArePlaces eq w (λ s. rows_among s xs) ps) (take_all i rs (omega (arith, le, ap length same))) are
