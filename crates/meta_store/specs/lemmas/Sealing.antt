-- Whether bytes begin with a sealed copy, and how contents read that have the same bytes there.
use Rattle.std.proofs.Common.{◌≡◌, ◌⊎◌, inl, inr, ℕ, zero, suc, ◌+◌, ◌-◌, ◌<◌, ◌≤◌, ◌^◌, List, [], ◌∷◌, length, get_or, take, drop, refl, ◌∙◌, subst, arith, length-take, length-drop}
use Rattle.std.specs.Int.{w32, w64, to_be_bytes, from_be_bytes}
use Rattle.std.specs.List.{AllByRecursion}
use Rattle.std.proofs.lemmas.Bool.{cases_lt, cases_eq}
use Rattle.std.proofs.lemmas.Nat.{be_bytes_4, be_bytes_8}
use Rattle.blob_device.specs.Disk.{AreBytes}
use Rattle.meta_store.specs.declared.copy.CopyText.{CopyText}
use Rattle.meta_store.specs.declared.copy.CopyText.TheVariants.{Absent, Refused, Whole}
use Rattle.meta_store.specs.declared.copy.Form.{Form}
use Rattle.meta_store.specs.declared.copy.Form.TheVariants.{Plain, Floored}
use Rattle.meta_store.specs.Format.{Format}
use Rattle.meta_store.specs.Copies.{IsSealedAs, IsAbsentBy, NamesForm, ReadsAs, body_bytes, copy_length, form_of}
use Rattle.meta_store.specs.Crashes.{SamePlace, SomeByRecursion, NoChanceSeal}
use Rattle.meta_store.specs.lemmas.Forms.{named_floored, named_plain, none_cut, none_short}
use Rattle.meta_store.specs.lemmas.Texts.{absent_cut, absent_formless, absent_unsealed, one_copy, sealed_found, start_of}

byte_at : (c : List ℕ) (i : ℕ) → AreBytes c → get_or c i 0 < 256
byte_at [] i all = omega arith
byte_at (x ∷ c) zero all = all.0
byte_at (x ∷ c) (suc i) all = byte_at c i all.1

worth_8 : (bs : List ℕ) → ((i : ℕ) → get_or bs i 0 < 256) → from_be_bytes w64 bs < 2 ^ 64
worth_8 bs small = omega (arith, small 0, small 1, small 2, small 3, small 4, small 5, small 6, small 7)

worth_4 : (bs : List ℕ) → ((i : ℕ) → get_or bs i 0 < 256) → from_be_bytes w32 bs < 2 ^ 32
worth_4 bs small = omega (arith, small 0, small 1, small 2, small 3)

small_part : (c : List ℕ) (at n i : ℕ) → AreBytes c → get_or (take n (drop at c)) i 0 < 256
small_part c at n i all = byte_at (take n (drop at c)) i (first n (drop at c) (rest at c all))
  where
    first : (m : ℕ) (xs : List ℕ) → AreBytes xs → AreBytes (take m xs)
    first zero xs all = tt
    first (suc m) [] all = tt
    first (suc m) (x ∷ xs) all = (all.0, first m xs all.1)

    rest : (m : ℕ) (xs : List ℕ) → AreBytes xs → AreBytes (drop m xs)
    rest zero xs all = all
    rest (suc m) [] all = tt
    rest (suc m) (x ∷ xs) all = rest m xs all.1

-- the number that eight bytes spell
pub record Spelled (c : List ℕ) (at : ℕ) : Type 0 where
  pub number : ℕ
  pub fits : number < 2 ^ 64
  pub is : to_be_bytes w64 number ≡ take 8 (drop at c)

spelled : (c : List ℕ) (at : ℕ) → AreBytes c → at + 8 ≤ length c → Spelled c at
spelled c at all room = record {
  number = from_be_bytes w64 (take 8 (drop at c));
  fits = worth_8 (take 8 (drop at c)) (λ i. small_part c at 8 i all);
  is = be_bytes_8 (take 8 (drop at c)) (from_be_bytes w64 (take 8 (drop at c))) (omega (arith, length-take 8 (drop at c), length-drop at c, room)) (λ i. small_part c at 8 i all) refl;
}

-- the form that some bytes name, if they are long enough for a copy of it
form_or_none : (c : List ℕ) → AreBytes c → ((form : Form) × NamesForm c form) ⊎ ((form : Form) → NamesForm c form → ⊥)
form_or_none c all = elim (cases_lt (length c) 21) [
  | inl short ↦ inr (none_short c short)
  | inr long ↦ elim (cases_eq (get_or c 8 0) 2) [
    | inl is ↦ elim (cases_lt (length c) 29) [
      | inl cut ↦ inr (none_cut c long is cut)
      | inr room ↦
          let floor = spelled c 9 all (omega (arith, room)) in
          inl (Floored floor.number, named_floored c long floor.number is room floor.fits floor.is)
    ]
    | inr other ↦ inl (Plain (get_or c 8 0), named_plain c long other)
  ]
]

-- the copy that some bytes begin with
pub record Sealed (seal : List ℕ → ℕ) (c : List ℕ) : Type 0 where
  pub version : ℕ
  pub form : Form
  pub body : List ℕ
  pub is : IsSealedAs seal c version form body

module _ (seal : List ℕ → ℕ) (fits : (l : List ℕ) → seal l < 2 ^ 32) (c : List ℕ) (all : AreBytes c) where
  sealed_or_not : (form : Form) → NamesForm c form → Sealed seal c ⊎ IsAbsentBy seal c
  sealed_or_not form names =
      let start = start_of form in
      let len = spelled c (start - 8) all (omega (arith, names.room)) in
      elim (cases_lt (length c) (start + 4 + len.number)) [
        | inl cut ↦ inr (absent_cut seal c form names start len.number refl len.fits len.is cut)
        | inr room ↦
            let v = spelled c 0 all (omega (arith, names.room)) in
            let end = start + len.number in
            let x = from_be_bytes w32 (take 4 (drop end c)) in
            let small_x : x < 2 ^ 32 = worth_4 (take 4 (drop end c)) (λ i. small_part c end 4 i all) in
            let is_x : to_be_bytes w32 x ≡ take 4 (drop end c) =
            be_bytes_4 (take 4 (drop end c)) x (omega (arith, length-take 4 (drop end c), length-drop end c, room)) (λ i. small_part c end 4 i all) refl in
            elim (cases_eq (seal (take end c)) x) [
              | inl same ↦ inl (record {
                version = v.number;
                form = form;
                body = take (end - start) (drop start c);
                is = sealed_found seal c form names start len.number refl len.fits len.is v.number v.is room x v.fits is_x same;
              })
              | inr other ↦ inr (absent_unsealed seal c form names start len.number refl len.fits len.is x small_x fits is_x other)
            ]
      ]

  pub sealed_or_absent : Sealed seal c ⊎ IsAbsentBy seal c
  sealed_or_absent = elim (form_or_none c all) [
    | inl named ↦ sealed_or_not named.0 named.1
    | inr none ↦ inr (absent_formless seal c none)
  ]

-- contents that have the same copy
pub same_place : (seal : List ℕ → ℕ) (p c : List ℕ) (version : ℕ) (form : Form) (body : List ℕ) → SamePlace (copy_length form body) p c → IsSealedAs seal c version form body → IsSealedAs seal p version form body
same_place seal p c version form body same s = record { version_fits = s.version_fits; is_form = s.is_form; length_fits = s.length_fits; begins = same ∙ s.begins }

module _ {K V : Type 0} (f : Format K V) (p c : List ℕ) (version : ℕ) (form : Form) (body : List ℕ) (in_p : IsSealedAs f.seal p version form body) (in_c : IsSealedAs f.seal c version form body) where
  moved : (w : ℕ) (form' : Form) (body' : List ℕ) → IsSealedAs f.seal p w form' body' → IsSealedAs f.seal c w form' body'
  moved w form' body' s =
      let same = one_copy f.seal p version w form form' body body' in_p s in
      subst (λ (n : ℕ). IsSealedAs f.seal c n form' body') same.version (subst (λ (g : Form). IsSealedAs f.seal c version g body') same.is_form (subst (λ (b : List ℕ). IsSealedAs f.seal c version form b) same.is_body in_c))

  -- one reads as the other does
  pub reads_alike : (t : CopyText K V) → ReadsAs f p t → ReadsAs f c t
  reads_alike Absent reads = absurd (reads version form body in_p)
  reads_alike (Refused w) reads = record { form = reads.form; body = reads.body; sealed = moved w reads.form reads.body reads.sealed; no_text = reads.no_text }
  reads_alike (Whole w floor entries) reads = record { sealed = moved w (form_of floor) (body_bytes f.key_bytes f.spelling entries) reads.sealed; map = reads.map }

-- Of a content with no chance seal: it has no copy, or it reads as a content that the blob had.
pub reads_as_past : {K V : Type 0} (f : Format K V) → ((l : List ℕ) → f.seal l < 2 ^ 32) → (Q : CopyText K V → Type 0) (contents : List (List ℕ)) (c : List ℕ) → AreBytes c → NoChanceSeal f.seal contents c
    → AllByRecursion (λ p. (t : CopyText K V) × ReadsAs f p t × Q t) contents → Q Absent → (t : CopyText K V) × ReadsAs f c t × Q t
reads_as_past {K = K} {V = V} f fits Q contents c bytes none all absent = elim (sealed_or_absent f.seal fits c bytes) [
  | inl s ↦ found s.version s.form s.body s.is contents all (none s.version s.form s.body s.is)
  | inr lacks ↦ (Absent, lacks, absent)
]
  where
    found : (v : ℕ) (form : Form) (body : List ℕ) → IsSealedAs f.seal c v form body → (ps : List (List ℕ)) → AllByRecursion (λ p. (t : CopyText K V) × ReadsAs f p t × Q t) ps
        → SomeByRecursion (λ p. SamePlace (copy_length form body) p c) ps → (t : CopyText K V) × ReadsAs f c t × Q t
    found v form body s [] all some = absurd some
    found v form body s (p ∷ ps) all (inl same) = (all.0.0, reads_alike f p c v form body (same_place f.seal p c v form body same s) s all.0.0 all.0.1, all.0.2)
    found v form body s (p ∷ ps) all (inr later) = found v form body s ps all.1 later

-- no bytes, no copy
pub empty_absent : (seal : List ℕ → ℕ) → IsAbsentBy seal []
empty_absent seal = absent_formless seal [] (none_short [] (omega arith))
