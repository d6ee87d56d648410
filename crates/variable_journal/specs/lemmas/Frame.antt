-- Frames in a list of bytes: the functions have what the grammar has, one grammar has it, and what a cut leaves.
use Rattle.std.specs.Prelude.{◌≡◌, ℕ, zero, suc, ◌+◌, ◌-◌, ◌<◌, ◌≤◌, ◌^◌, min, nat_le, nat_lt, if◌then◌else◌, Bool, true, false, List, [], ◌∷◌, ◌++◌, length, take, drop, Option, Some, None, Result, Ok, Err}
use Rattle.std.specs.Option.{option_map_or}
use Rattle.std.specs.Cmp.{first_so, second_so}
use Rattle.std.proofs.Common.{refl, sym, ap, ◌∙◌, subst, inl, inr, arith, append_assoc, length-append, length-take, length-drop, take-append-drop}
use Rattle.std.proofs.Math.Seq.{take-append_seam, drop-append_seam}
use Rattle.std.proofs.lemmas.Bool.{cases_lt}
use Rattle.std.proofs.lemmas.Bool.Decides.{nat_tests}
use Rattle.std.proofs.lemmas.List.{take-append-le, drop-drop}
use Rattle.std.proofs.lemmas.Slice.Eq.{bytes_eq-Decides}
use Rattle.value_codec.specs.declared.codec.Error.{Error}
use Rattle.value_codec.specs.Varint.{IsVarint, varint, varint_prefix, BeginsWithVarint, BeginsWithNone, base128, prefix_bytes, is_cut_short, is_varint}
use Rattle.value_codec.specs.lemmas.Varint.{varint_apart, varint_at_most, varint_only, varint_spells}
use Rattle.value_codec.specs.lemmas.VarintPrefix.{prefix_gives}
use Rattle.std.specs.List.{AllByRecursion}
use Rattle.std.proofs.lemmas.List.{append-nil}
use Rattle.variable_journal.specs.Frames.{AreFirst, frame, frames, offset_of, BeginsWithFrame, BeginsWithNoFrame, AreFrames, HasBadLength, whole_of, first_frame, items_within, rest_within, items_of, rest_of}

pub some_byte : (v : List ℕ) (n : ℕ) → IsVarint v n → 1 ≤ length v
some_byte [] n spelled = absurd spelled
some_byte (b ∷ v) n spelled = omega arith

pub varint_some : (n : ℕ) → 1 ≤ length (varint n)
varint_some n = some_byte (varint n) n (varint_spells n)

pub varint_few : (n : ℕ) → n < 2 ^ 32 → length (varint n) ≤ 5
varint_few n below = varint_at_most 4 n (omega (arith, below))

append_split : (a b x y : List ℕ) → length a ≡ length b → a ++ x ≡ b ++ y → (a ≡ b) × (x ≡ y)
append_split a b x y long same = (
  sym (take-append_seam a x) ∙ (λ i. take (long i) (same i)) ∙ take-append_seam b y,
  sym (drop-append_seam a x) ∙ (λ i. drop (long i) (same i)) ∙ drop-append_seam b y,
)

take_again : (n : ℕ) (ys : List ℕ) → take (length (take n ys)) ys ≡ take n ys
take_again n ys = ap (take (length (take n ys))) (sym (take-append-drop n ys)) ∙ take-append_seam (take n ys) (drop n ys)

take_past : (n : ℕ) (xs ys : List ℕ) → length xs ≤ n → take n (xs ++ ys) ≡ xs ++ take (n - length xs) ys
take_past n [] ys le = ap (λ k. take k ys) (omega arith)
take_past zero (x ∷ xs) ys le = absurd (omega (arith, le))
take_past (suc n) (x ∷ xs) ys le = ap (λ z. x ∷ z) (take_past n xs ys (omega (arith, le)) ∙ ap (λ k. xs ++ take k ys) (omega arith))

pub one_frame : (bytes x a y b : List ℕ) → bytes ≡ frame x ++ a → bytes ≡ frame y ++ b → (x ≡ y) × (a ≡ b)
one_frame bytes x a y b first second =
    let both : varint (length x) ++ (x ++ a) ≡ varint (length y) ++ (y ++ b) = sym (append_assoc (varint (length x)) x a) ∙ sym first ∙ second ∙ append_assoc (varint (length y)) y b in
    let at = varint_apart (length x) (length y) (x ++ a) (y ++ b) both in
    append_split x y a b at.0 at.1

pub frame_some : (x : List ℕ) → 1 ≤ length (frame x)
frame_some x = omega (arith, varint_some (length x), length-append (varint (length x)) x)

none_in_none : BeginsWithNoFrame []
none_in_none item rest begins = let same : 0 ≡ length (frame item ++ rest) = ap length begins.is in omega (arith, same, length-append (frame item) rest, frame_some item)

-- what a prefix begins with, the whole begins with
longer : (n : ℕ) (bytes item rest : List ℕ) → BeginsWithFrame (take n bytes) item rest → BeginsWithFrame bytes item (rest ++ drop n bytes)
longer n bytes item rest begins = record {
  fits = begins.fits;
  is = sym (take-append-drop n bytes) ∙ ap (λ z. z ++ drop n bytes) begins.is ∙ append_assoc (frame item) rest (drop n bytes);
}

pub one_grammar : (xs ys : List (List ℕ)) (bytes r q : List ℕ) → AreFrames bytes xs r → AreFrames bytes ys q → (xs ≡ ys) × (r ≡ q)
one_grammar [] [] bytes r q a b = (refl, sym a.is ∙ b.is)
one_grammar [] (y ∷ ys) bytes r q a b = absurd (a.last y (frames ys ++ q) (record { fits = b.fit.0; is = sym a.is ∙ b.is ∙ append_assoc (frame y) (frames ys) q }))
one_grammar (x ∷ xs) [] bytes r q a b = absurd (b.last x (frames xs ++ r) (record { fits = a.fit.0; is = sym b.is ∙ a.is ∙ append_assoc (frame x) (frames xs) r }))
one_grammar (x ∷ xs) (y ∷ ys) bytes r q a b =
    let heads = one_frame bytes x (frames xs ++ r) y (frames ys ++ q) (a.is ∙ append_assoc (frame x) (frames xs) r) (b.is ∙ append_assoc (frame y) (frames ys) q) in
    let tails = one_grammar xs ys (frames xs ++ r) r q (record { fit = a.fit.1; is = refl; last = a.last }) (record { fit = b.fit.1; is = heads.1; last = b.last }) in
    (λ i. heads.0 i ∷ tails.0 i, tails.1)

prefix-take : (bytes : List ℕ) → prefix_bytes bytes ≡ take (length (prefix_bytes bytes)) bytes
prefix-take [] = refl
prefix-take (b ∷ bytes) =
    elim (cases_lt b 128) [
      | inl last ↦ (let is : prefix_bytes (b ∷ bytes) ≡ b ∷ [] = grind (arith, nat_tests) in subst (λ z. z ≡ take (length z) (b ∷ bytes)) (sym is) refl)
      | inr more ↦ (let is : prefix_bytes (b ∷ bytes) ≡ b ∷ prefix_bytes bytes = grind (arith, nat_tests) in subst (λ z. z ≡ take (length z) (b ∷ bytes)) (sym is) (ap (λ z. b ∷ z) (prefix-take bytes)))
    ]

picked : {E T : Type 0} (a b : Bool) (x y : E) (p q : T) → ◌≡◌ {A = Result T E} (if a then Err x else if b then Ok p else Err y) (Ok q) → (b ≡ true) × (p ≡ q)
picked true b x y p q is = absurd (cc is)
picked false true x y p q is = (refl, cc is)
picked false false x y p q is = absurd (cc is)

below_of : (x y : ℕ) → nat_lt x y ≡ true → x < y
below_of x y e = grind (arith, nat_tests)

-- the number that the function finds stands there
pub prefix_stands : (limit longest : ℕ) (bytes : List ℕ) (n len : ℕ) → varint_prefix limit longest bytes ≡ Ok (n, len) → BeginsWithVarint limit bytes n len
unfolding varint_prefix
prefix_stands limit longest bytes n len is =
    let f = prefix_bytes bytes in
    let at = picked (is_cut_short longest bytes) (is_varint limit f) _ _ (base128 f, length f) (n, len) is in
    let low : base128 f < limit = below_of (base128 f) limit (first_so (nat_lt (base128 f) limit) _ at.0) in
    let same : varint (base128 f) ≡ f = (bytes_eq-Decides (varint (base128 f)) f).0 (second_so (nat_lt (base128 f) limit) _ at.0) in
    let number : base128 f ≡ n = ap (λ (z : ℕ × ℕ). z.0) at.1 in
    let size : length f ≡ len = ap (λ (z : ℕ × ℕ). z.1) at.1 in
    let taken : take len bytes ≡ varint n = ap (λ k. take k bytes) (sym size) ∙ sym (prefix-take bytes) ∙ sym same ∙ ap varint number in
    record {
      within = (let cut : length f ≡ min (length f) (length bytes) = ap length (prefix-take bytes) ∙ length-take (length f) bytes in omega (arith, cut, size));
      spelled = subst (λ z. IsVarint z n) (sym taken) (varint_spells n);
      in_range = omega (arith, low, number);
    }

whole_found : (size : ℕ) (r : Result (ℕ × ℕ) Error) (f : ℕ × ℕ) → whole_of size r ≡ Some f → (r ≡ Ok f) × (f.1 + f.0 ≤ size)
whole_found size (Ok it) f is = go (nat_le (it.1 + it.0) size) refl is
  where
    go : (b : Bool) → nat_le (it.1 + it.0) size ≡ b → ◌≡◌ {A = Option (ℕ × ℕ)} (if b then Some it else None) (Some f) → ◌≡◌ {A = Result (ℕ × ℕ) Error} (Ok it) (Ok f) × (f.1 + f.0 ≤ size)
    go true le same = (let eq : it ≡ f = cc same in (ap (λ z. Ok z) eq, (let fits : it.1 + it.0 ≤ size = grind (arith, nat_tests) in subst (λ (z : ℕ × ℕ). z.1 + z.0 ≤ size) eq fits)))
    go false le same = absurd (cc same)
whole_found size (Err e) f is = absurd (cc is)

pub prefix_whole : (bytes : List ℕ) (f : ℕ × ℕ) → first_frame bytes ≡ Some f → BeginsWithFrame bytes (take f.0 (drop f.1 bytes)) (drop (f.1 + f.0) bytes)
prefix_whole bytes f is =
    let at = whole_found (length bytes) (varint_prefix (2 ^ 32) 5 bytes) f is in
    let begins = prefix_stands (2 ^ 32) 5 bytes f.0 f.1 at.0 in
    let item = take f.0 (drop f.1 bytes) in
    let size : length item ≡ f.0 = omega (arith, length-take f.0 (drop f.1 bytes), length-drop f.1 bytes, at.1) in
    let head : take f.1 bytes ≡ varint (length item) = varint_only (take f.1 bytes) f.0 begins.spelled ∙ ap varint (sym size) in
    let after : drop f.1 bytes ≡ item ++ drop (f.1 + f.0) bytes = sym (take-append-drop f.0 (drop f.1 bytes)) ∙ ap (λ z. item ++ z) (drop-drop f.0 f.1 bytes) in
    record {
      fits = omega (arith, size, begins.in_range);
      is = sym (take-append-drop f.1 bytes) ∙ (λ i. head i ++ after i) ∙ sym (append_assoc (varint (length item)) item (drop (f.1 + f.0) bytes));
    }

pub prefix_without : (bytes : List ℕ) → first_frame bytes ≡ None → BeginsWithNoFrame bytes
prefix_without bytes is item rest begins =
    let n = length item in
    let seen : varint_prefix (2 ^ 32) 5 bytes ≡ Ok (n, length (varint n)) = ap (varint_prefix (2 ^ 32) 5) (begins.is ∙ append_assoc (varint n) item rest) ∙ prefix_gives (2 ^ 32) 5 n (item ++ rest) begins.fits in
    let size : length bytes ≡ length (frame item ++ rest) = ap length begins.is in
    let fits : length (varint n) + n ≤ length bytes = omega (arith, size, length-append (frame item) rest, length-append (varint n) item) in
    let le : nat_le (length (varint n) + n) (length bytes) ≡ true = grind (arith, nat_tests) in
    let found : first_frame bytes ≡ Some (n, length (varint n)) = ap (whole_of (length bytes)) seen ∙ ap (λ (b : Bool). if b then Some (n, length (varint n)) else None) le in
    absurd (cc (found, is))

pub within_found : (more : ℕ) (bytes : List ℕ) (f : ℕ × ℕ) (xs : List (List ℕ)) (r : List ℕ) → BeginsWithFrame bytes (take f.0 (drop f.1 bytes)) (drop (f.1 + f.0) bytes)
    → AreFrames (drop (f.1 + f.0) bytes) xs r → AreFrames bytes (take f.0 (drop f.1 bytes) ∷ xs) r
within_found more bytes f xs r begins are = record {
  fit = (begins.fits, are.fit);
  is = begins.is ∙ ap (λ z. frame (take f.0 (drop f.1 bytes)) ++ z) are.is ∙ sym (append_assoc (frame (take f.0 (drop f.1 bytes))) (frames xs) r);
  last = are.last;
}

pub within_frames : (fuel : ℕ) (bytes : List ℕ) → length bytes ≤ fuel → AreFrames bytes (items_within fuel bytes) (rest_within fuel bytes)
unfolding items_within rest_within
within_frames zero [] few = record { fit = tt; is = refl; last = none_in_none }
within_frames zero (b ∷ bytes) few = absurd (omega (arith, few))
within_frames (suc more) bytes few = go (within_frames more) (first_frame bytes) refl
  where
    go : ((c : List ℕ) → length c ≤ more → AreFrames c (items_within more c) (rest_within more c)) → (o : Option (ℕ × ℕ)) → first_frame bytes ≡ o
        → AreFrames bytes (option_map_or (λ f. take f.0 (drop f.1 bytes) ∷ items_within more (drop (f.1 + f.0) bytes)) o []) (option_map_or (λ f. rest_within more (drop (f.1 + f.0) bytes)) o bytes)
    go again None is = record { fit = tt; is = refl; last = prefix_without bytes is }
    go again (Some f) is =
        let begins = prefix_whole bytes f is in
        let size : length bytes ≡ length (frame (take f.0 (drop f.1 bytes)) ++ drop (f.1 + f.0) bytes) = ap length begins.is in
        within_found more bytes f (items_within more (drop (f.1 + f.0) bytes)) (rest_within more (drop (f.1 + f.0) bytes)) begins
        (again (drop (f.1 + f.0) bytes) (omega (arith, few, size, length-append (frame (take f.0 (drop f.1 bytes))) (drop (f.1 + f.0) bytes), frame_some (take f.0 (drop f.1 bytes)))))

-- the functions give the one split that the grammar has
pub are_frames : (bytes : List ℕ) → AreFrames bytes (items_of bytes) (rest_of bytes)
are_frames bytes = within_frames (length bytes) bytes (omega arith)

pub items_are : (bytes : List ℕ) (xs : List (List ℕ)) (r : List ℕ) → AreFrames bytes xs r → (items_of bytes ≡ xs) × (rest_of bytes ≡ r)
items_are bytes xs r are = one_grammar (items_of bytes) xs bytes (rest_of bytes) r (are_frames bytes) are

-- no varint at the start of five bytes or more is none with more behind them
pub none_extends : (c x : List ℕ) → 5 ≤ length c → BeginsWithNone (2 ^ 32) c → BeginsWithNone (2 ^ 32) (c ++ x)
none_extends c x enough none n len below spelled =
    let seen = take len (c ++ x) in
    let few : length seen ≤ 5 = subst (λ (z : List ℕ). length z ≤ 5) (sym (varint_only seen n spelled)) (varint_few n below) in
    let again : take (length seen) c ≡ seen = sym (take-append-le (length seen) c x (omega (arith, few, enough))) ∙ take_again len (c ++ x) in
    none n (length seen) below (subst (λ z. IsVarint z n) (sym again) spelled)

-- The first frames of a prefix.
pub record FirstFrames (items : List (List ℕ)) (rest : List ℕ) (n : ℕ) (c : List ℕ) : Type 0 where
  pub count : ℕ
  pub within : count ≤ length items
  pub left : List ℕ
  pub are : AreFrames c (take count items) left
  pub reached : (k : ℕ) → k ≤ length items → offset_of items k ≤ n → k ≤ count
  pub bad : HasBadLength left → HasBadLength rest

more_frames : (x : List ℕ) (c : List ℕ) (xs : List (List ℕ)) (left : List ℕ) → length x < 2 ^ 32 → AreFrames c xs left → AreFrames (frame x ++ c) (x ∷ xs) left
more_frames x c xs left fits are = record { fit = (fits, are.fit); is = ap (λ z. frame x ++ z) are.is ∙ sym (append_assoc (frame x) (frames xs) left); last = are.last }

offset_more : (x : List ℕ) (xs : List (List ℕ)) (k : ℕ) → offset_of (x ∷ xs) (suc k) ≡ length (frame x) + offset_of xs k
offset_more x xs k = length-append (frame x) (frames (take k xs))

pub cut_frames : (xs : List (List ℕ)) (bytes r : List ℕ) (n : ℕ) → AreFrames bytes xs r → FirstFrames xs r n (take n bytes)
cut_frames [] bytes r n are = record {
  count = 0;
  within = omega arith;
  left = take n bytes;
  are = record { fit = tt; is = refl; last = λ item rest begins. are.last item (rest ++ drop n bytes) (subst (λ z. BeginsWithFrame z item (rest ++ drop n bytes)) are.is (longer n bytes item rest begins)) };
  reached = λ k le at. le;
  bad = λ bad. record {
    enough = (let size : length bytes ≡ length r = ap length are.is in omega (arith, bad.enough, length-take n bytes, size));
    none = subst (BeginsWithNone (2 ^ 32)) (take-append-drop n bytes ∙ are.is) (none_extends (take n bytes) (drop n bytes) bad.enough bad.none);
  };
}
cut_frames (x ∷ xs) bytes r n are =
    let behind = frames xs ++ r in
    let is : bytes ≡ frame x ++ behind = are.is ∙ append_assoc (frame x) (frames xs) r in
    let tail : AreFrames behind xs r = record { fit = are.fit.1; is = refl; last = are.last } in
    elim (cases_lt n (length (frame x))) [
      | inl short ↦ record {
        count = 0;
        within = omega arith;
        left = take n bytes;
        are = record {
          fit = tt;
          is = refl;
          last = λ item rest begins.
              (let same = one_frame bytes item (rest ++ drop n bytes) x behind (longer n bytes item rest begins).is is in
              let size : length (take n bytes) ≡ length (frame item ++ rest) = ap length begins.is in
              let as_long : length (frame item) ≡ length (frame x) = ap (λ z. length (frame z)) same.0 in
              absurd (omega (arith, size, as_long, short, length-take n bytes, length-append (frame item) rest)));
        };
        reached = λ k le at. none_before k at short;
        bad = λ bad. absurd (has_length bytes behind is bad);
      }
      | inr past ↦ (let first = cut_frames xs behind r (n - length (frame x)) tail in record {
        count = suc first.count;
        within = omega (arith, first.within);
        left = first.left;
        are = subst (λ z. AreFrames z (x ∷ take first.count xs) first.left) (sym (ap (take n) is ∙ take_past n (frame x) behind past)) (more_frames x (take (n - length (frame x)) behind) (take first.count xs) first.left are.fit.0 first.are);
        reached = λ k le at. reaches behind first k le at past;
        bad = first.bad;
      })
    ]
  where
    none_before : (k : ℕ) → offset_of (x ∷ xs) k ≤ n → n < length (frame x) → k ≤ 0
    none_before zero at short = omega arith
    none_before (suc k) at short = absurd (omega (arith, at, short, offset_more x xs k))

    has_length : (all behind : List ℕ) → all ≡ frame x ++ behind → HasBadLength (take n all) → ⊥
    has_length all behind is bad =
        let v = varint (length x) in
        let few = varint_few (length x) are.fit.0 in
        let long : length (take n all) ≡ min n (length all) = length-take n all in
        let stands : all ≡ v ++ (x ++ behind) = is ∙ append_assoc v x behind in
        let cut : take (length v) (take n all) ≡ take (length v) all = sym (take-append-le (length v) (take n all) (drop n all) (omega (arith, few, bad.enough))) ∙ ap (take (length v)) (take-append-drop n all) in
        bad.none (length x) (length v) are.fit.0 (subst (λ z. IsVarint z (length x)) (sym (cut ∙ ap (take (length v)) stands ∙ take-append_seam v (x ++ behind))) (varint_spells (length x)))

    reaches : (behind : List ℕ) (first : FirstFrames xs r (n - length (frame x)) (take (n - length (frame x)) behind)) (k : ℕ) → k ≤ length (x ∷ xs) → offset_of (x ∷ xs) k ≤ n → length (frame x) ≤ n → k ≤ suc first.count
    reaches behind first zero le at past = omega arith
    reaches behind first (suc k) le at past = omega (arith, first.reached k (omega (arith, le)) (omega (arith, at, past, offset_more x xs k)))

take_size : {X : Type 0} (k : ℕ) (xs : List X) → k ≤ length xs → length (take k xs) ≡ k
take_size k xs le = omega (arith, length-take k xs, le)

-- The whole frames of a cut are the first ones.
pub first_of_cut : (bytes : List ℕ) (n : ℕ) → AreFirst (items_of bytes) n (items_of (take n bytes))
first_of_cut bytes n =
    let xs = items_of bytes in
    let cut = cut_frames xs bytes (rest_of bytes) n (are_frames bytes) in
    let is : items_of (take n bytes) ≡ take cut.count xs = (items_are (take n bytes) (take cut.count xs) cut.left cut.are).0 in
    let long : length (items_of (take n bytes)) ≡ cut.count = ap length is ∙ take_size cut.count xs cut.within in
    record {
      same = is ∙ ap (λ k. take k xs) (sym long);
      reached = λ k le at. (let r = cut.reached k le at in omega (arith, r, long));
    }

-- A length that a cut shows to be none was none before.
pub bad_before : (bytes : List ℕ) (n : ℕ) → HasBadLength (rest_of (take n bytes)) → HasBadLength (rest_of bytes)
bad_before bytes n bad =
    let cut = cut_frames (items_of bytes) bytes (rest_of bytes) n (are_frames bytes) in
    cut.bad (subst HasBadLength (items_are (take n bytes) (take cut.count (items_of bytes)) cut.left cut.are).1 bad)

pub frames_append : (xs ys : List (List ℕ)) → frames (xs ++ ys) ≡ frames xs ++ frames ys
frames_append [] ys = refl
frames_append (x ∷ xs) ys = ap (λ z. frame x ++ z) (frames_append xs ys) ∙ sym (append_assoc (frame x) (frames xs) (frames ys))

fit_prefix : (k : ℕ) (xs : List (List ℕ)) → AllByRecursion (λ x. length x < 2 ^ 32) xs → AllByRecursion (λ x. length x < 2 ^ 32) (take k xs)
fit_prefix zero xs all = tt
fit_prefix (suc k) [] all = tt
fit_prefix (suc k) (x ∷ xs) all = (all.0, fit_prefix k xs all.1)

fit_append : (xs ys : List (List ℕ)) → AllByRecursion (λ x. length x < 2 ^ 32) xs → AllByRecursion (λ x. length x < 2 ^ 32) ys → AllByRecursion (λ x. length x < 2 ^ 32) (xs ++ ys)
fit_append [] ys all more = more
fit_append (x ∷ xs) ys all more = (all.0, fit_append xs ys all.1 more)

-- A cut at the end of a frame leaves the frames up to it, and nothing behind them.
pub cut_at_frame : (bytes : List ℕ) (k : ℕ) → AreFrames (take (offset_of (items_of bytes) k) bytes) (take k (items_of bytes)) []
cut_at_frame bytes k =
    let xs = items_of bytes in
    let are = are_frames bytes in
    let parts : bytes ≡ frames (take k xs) ++ (frames (drop k xs) ++ rest_of bytes) = are.is ∙ ap (λ z. z ++ rest_of bytes) (ap frames (sym (take-append-drop k xs)) ∙ frames_append (take k xs) (drop k xs)) ∙ append_assoc (frames (take k xs)) (frames (drop k xs)) (rest_of bytes) in
    record {
      fit = fit_prefix k xs are.fit;
      is = ap (take (offset_of xs k)) parts ∙ take-append_seam (frames (take k xs)) (frames (drop k xs) ++ rest_of bytes) ∙ sym (append-nil (frames (take k xs)));
      last = none_in_none;
    }

pub cut_items : (bytes : List ℕ) (k : ℕ) → (items_of (take (offset_of (items_of bytes) k) bytes) ≡ take k (items_of bytes)) × (rest_of (take (offset_of (items_of bytes) k) bytes) ≡ [])
cut_items bytes k = items_are (take (offset_of (items_of bytes) k) bytes) (take k (items_of bytes)) [] (cut_at_frame bytes k)

-- A frame behind whole frames is one more.
pub one_more : (bytes item : List ℕ) → rest_of bytes ≡ [] → length item < 2 ^ 32 → (items_of (bytes ++ frame item) ≡ items_of bytes ++ item ∷ []) × (rest_of (bytes ++ frame item) ≡ [])
one_more bytes item none fits =
    let xs = items_of bytes in
    let are = are_frames bytes in
    let whole : bytes ≡ frames xs = are.is ∙ ap (λ z. frames xs ++ z) none ∙ append-nil (frames xs) in
    items_are (bytes ++ frame item) (xs ++ item ∷ []) [] (record {
      fit = fit_append xs (item ∷ []) are.fit (fits, tt);
      is = ap (λ z. z ++ frame item) whole ∙ ap (λ z. frames xs ++ z) (sym (append-nil (frame item))) ∙ sym (frames_append xs (item ∷ [])) ∙ sym (append-nil (frames (xs ++ item ∷ [])));
      last = none_in_none;
    })

-- no bytes have no rest
pub rest_none : rest_of [] ≡ []
rest_none = (items_are [] [] [] (record { fit = tt; is = refl; last = none_in_none })).1
