-- Which form bytes name: one at most, by the byte at 8 and by the length.
use Rattle.std.proofs.Common.{◌≡◌, ◌≢◌, ℕ, zero, suc, ◌<◌, ◌≤◌, ◌^◌, List, [], ◌∷◌, length, get_or, take, drop, refl, sym, ◌∙◌, ap, arith}
use Rattle.std.proofs.lemmas.List.{take-take, drop_more}
use Rattle.std.specs.Int.{w64, to_be_bytes}
use Rattle.meta_store.specs.declared.copy.Form.{Form}
use Rattle.meta_store.specs.declared.copy.Form.TheVariants.{Plain, Floored}
use Rattle.meta_store.specs.Copies.{IsForm, NamesForm, form_bytes, form_length, form_of}
use Rattle.meta_store.specs.lemmas.Bytes.{same_number_8}

pub length-form : (form : Form) → length (form_bytes form) ≡ form_length form
length-form (Plain number) = refl
length-form (Floored floor) = refl

pub form_long : (form : Form) → 1 ≤ form_length form
form_long (Plain number) = omega arith
form_long (Floored floor) = omega arith

-- a number that stands in the place of a form's
first_byte : (form : Form) (bytes : List ℕ) → form_bytes form ≡ take (form_length form) bytes → take 1 (form_bytes form) ≡ take 1 bytes
first_byte form bytes is = ap (take 1) is ∙ take-take 1 (form_length form) bytes (form_long form)

-- bytes name one form
pub one_form : (bytes : List ℕ) (form other : Form) → NamesForm bytes form → NamesForm bytes other → form ≡ other
one_form bytes (Plain n) (Plain m) a b = let is : n ∷ [] ≡ m ∷ [] = a.named ∙ sym b.named in let same : n ≡ m = cc is in ap Plain same
one_form bytes (Plain n) (Floored g) a b =
    let is : n ∷ [] ≡ 2 ∷ [] = first_byte (Plain n) (drop 8 bytes) a.named ∙ sym (first_byte (Floored g) (drop 8 bytes) b.named) in
    let same : n ≡ 2 = cc is in
    absurd (a.is_form same)
one_form bytes (Floored f) (Plain m) a b =
    let is : m ∷ [] ≡ 2 ∷ [] = first_byte (Plain m) (drop 8 bytes) b.named ∙ sym (first_byte (Floored f) (drop 8 bytes) a.named) in
    let same : m ≡ 2 = cc is in
    absurd (b.is_form same)
one_form bytes (Floored f) (Floored g) a b =
    let is : 2 ∷ to_be_bytes w64 f ≡ 2 ∷ to_be_bytes w64 g = a.named ∙ sym b.named in
    ap Floored (same_number_8 f g a.is_form b.is_form (ap (drop 1) is))

module _ (bytes : List ℕ) where
  pub none_short : length bytes < 21 → (form : Form) → NamesForm bytes form → ⊥
  none_short short form names = omega (arith, short, names.room, form_long form)

  module _ (long : 21 ≤ length bytes) where
    byte_8 : (n : ℕ) → take (suc n) (drop 8 bytes) ≡ get_or bytes 8 0 ∷ take n (drop 9 bytes)
    byte_8 n = ap (take (suc n)) (drop_more bytes 8 0 (omega (arith, long)))

    pub named_plain : get_or bytes 8 0 ≢ 2 → NamesForm bytes (Plain (get_or bytes 8 0))
    named_plain other = record { is_form = other; named = sym (byte_8 0); room = long }

    pub none_cut : get_or bytes 8 0 ≡ 2 → length bytes < 29 → (form : Form) → NamesForm bytes form → ⊥
    none_cut is short (Plain n) names =
        let same : n ∷ [] ≡ get_or bytes 8 0 ∷ [] = names.named ∙ byte_8 0 in
        let number : n ≡ get_or bytes 8 0 = cc same in
        names.is_form (number ∙ is)
    none_cut is short (Floored floor) names = omega (arith, short, names.room)

    pub named_floored : (floor : ℕ) → get_or bytes 8 0 ≡ 2 → 29 ≤ length bytes → floor < 2 ^ 64 → to_be_bytes w64 floor ≡ take 8 (drop 9 bytes) → NamesForm bytes (Floored floor)
    named_floored floor is room fits at = record {
      is_form = fits;
      named = ap (λ l. 2 ∷ l) at ∙ ap (λ (n : ℕ). n ∷ take 8 (drop 9 bytes)) (sym is) ∙ sym (byte_8 8);
      room = room;
    }

pub form_fits : (floor : ℕ) → floor < 2 ^ 64 → IsForm (form_of floor)
form_fits zero fits = λ e. cc e
form_fits (suc n) fits = fits

-- it tells the floor
pub one_floor : (m n : ℕ) → form_of m ≡ form_of n → m ≡ n
one_floor zero zero same = refl
one_floor zero (suc n) same = absurd (cc same)
one_floor (suc m) zero same = absurd (cc same)
one_floor (suc m) (suc n) same = cc same
