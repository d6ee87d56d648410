-- The function that gives the number at the start of some bytes: which bytes it takes, and what its tests decide.
use Rattle.std.proofs.Common.{◌≡◌, ℕ, ◌<◌, ◌≤◌, List, [], ◌∷◌, ◌++◌, length, take, drop, nat_lt, nat_le, Bool, true, false, ◌&&◌, Decides, if◌then◌else◌, Ok, arith, refl, sym, ap, ◌∙◌, subst, take-append-drop, length-append, length-take-le, true≢false}
use Rattle.std.proofs.Math.Seq.{take-append_seam}
use Rattle.std.specs.List.{list_all}
use Rattle.std.specs.Cmp.{first_so, second_so}
use Rattle.std.proofs.lemmas.Bool.Decides.{nat_tests}
use Rattle.std.proofs.lemmas.List.Sums.{AllPass-from_list_all, list_all-from_AllPass}
use Rattle.std.proofs.lemmas.Slice.Eq.{bytes_eq-Decides}
use Rattle.value_codec.specs.Varint.{IsVarint, varint, BeginsWithVarint, IsCutShort, base128, prefix_bytes, is_cut_short, is_varint, varint_prefix}
use Rattle.value_codec.specs.lemmas.Varint.{cut_none, varint_only, varint_spells}

pub prefix-last : (b : ℕ) (bs : List ℕ) → b < 128 → prefix_bytes (b ∷ bs) ≡ b ∷ []
prefix-last b bs last = grind (arith, nat_tests)

pub prefix-more : (b : ℕ) (bs : List ℕ) → 128 ≤ b → prefix_bytes (b ∷ bs) ≡ b ∷ prefix_bytes bs
prefix-more b bs more = grind (arith, nat_tests)

-- a varint ends at its first byte that asks for no more
prefix-varint : (a x : List ℕ) (n : ℕ) → IsVarint a n → prefix_bytes (a ++ x) ≡ a
prefix-varint [] x n spelled = absurd spelled
prefix-varint (b ∷ []) x n spelled = prefix-last b x spelled.0
prefix-varint (b ∷ c ∷ a) x n spelled = prefix-more b ((c ∷ a) ++ x) spelled.0 ∙ ap (λ z. b ∷ z) (prefix-varint (c ∷ a) x spelled.2 spelled.5)

-- and is worth its number
base128-varint : (a : List ℕ) (n : ℕ) → IsVarint a n → base128 a ≡ n
base128-varint [] n spelled = absurd spelled
base128-varint (b ∷ []) n spelled = omega (arith, spelled.0, spelled.1)
base128-varint (b ∷ c ∷ a) n spelled = omega (arith, base128-varint (c ∷ a) spelled.2 spelled.5, spelled.0, spelled.1, spelled.4)

from_le : (x : ℕ) → nat_le 128 x ≡ true → 128 ≤ x
from_le x e = grind (arith, nat_tests)

to_le : (x : ℕ) → 128 ≤ x → nat_le 128 x ≡ true
to_le x more = grind (arith, nat_tests)

from_lt : (x y : ℕ) → nat_lt x y ≡ true → x < y
from_lt x y e = grind (arith, nat_tests)

to_lt : (x y : ℕ) → x < y → nat_lt x y ≡ true
to_lt x y below = grind (arith, nat_tests)

both : (p q : Bool) → p ≡ true → q ≡ true → (p && q) ≡ true
both p q first second = ap (λ z. z && q) first ∙ second

pub cut_decided : (longest : ℕ) (bytes : List ℕ) → Decides (is_cut_short longest bytes) (IsCutShort longest bytes)
cut_decided longest bytes =
    let few = nat_lt (length bytes) longest in
    let all = list_all (nat_le 128) bytes in (
      (λ e. record {
        few = from_lt (length bytes) longest (first_so few all e);
        goes_on = λ k d inside. from_le _ (AllPass-from_list_all (nat_le 128) bytes (second_so few all e) k d inside);
      }),
      λ cut. both few all (to_lt (length bytes) longest cut.few)
          (list_all-from_AllPass (nat_le 128) bytes (λ k d inside. to_le _ (cut.goes_on k d inside))),
    )

pub varint_decided : (limit : ℕ) (bytes : List ℕ) → Decides (is_varint limit bytes) ((base128 bytes < limit) × (varint (base128 bytes) ≡ bytes))
varint_decided limit bytes =
    let below = nat_lt (base128 bytes) limit in
    let same = bytes_eq-Decides (varint (base128 bytes)) bytes in (
      (λ e. (from_lt (base128 bytes) limit (first_so below _ e), same.0 (second_so below _ e))),
      λ is. both below _ (to_lt (base128 bytes) limit is.0) (same.1 is.1),
    )

pub unless : {P : Type 0} (b : Bool) → Decides b P → (P → ⊥) → b ≡ false
unless true d none = absurd (none (d.0 refl))
unless false d none = refl

pick_second : {T : Type 0} (a b : Bool) (x y z : T) → a ≡ false → b ≡ true → (if a then x else if b then y else z) ≡ y
pick_second true b x y z is is' = absurd (true≢false is)
pick_second false true x y z is is' = refl
pick_second false false x y z is is' = absurd (true≢false (sym is'))

-- bytes that begin with a number
pub prefix_found : (limit longest : ℕ) (bytes : List ℕ) (n len : ℕ) → BeginsWithVarint limit bytes n len
    → varint_prefix limit longest bytes ≡ Ok (n, len)
unfolding varint_prefix
prefix_found limit longest bytes n len found =
    let is : prefix_bytes bytes ≡ take len bytes =
    ap prefix_bytes (sym (take-append-drop len bytes)) ∙ prefix-varint (take len bytes) (drop len bytes) n found.spelled in
    let worth : base128 (prefix_bytes bytes) ≡ n = ap base128 is ∙ base128-varint (take len bytes) n found.spelled in
    let spelled : varint (base128 (prefix_bytes bytes)) ≡ prefix_bytes bytes =
    ap varint worth ∙ sym (varint_only (take len bytes) n found.spelled) ∙ sym is in
    let size : length (prefix_bytes bytes) ≡ len = ap length is ∙ length-take-le len bytes found.within in
    let below : base128 (prefix_bytes bytes) < limit = omega (arith, worth, found.in_range) in
    pick_second (is_cut_short longest bytes) (is_varint limit (prefix_bytes bytes)) _ _ _
    (unless _ (cut_decided longest bytes) (λ cut. cut_none bytes n len cut.goes_on found.spelled))
    ((varint_decided limit (prefix_bytes bytes)).1 (below, spelled))
    ∙ (λ i. Ok (worth i, size i))

-- a number's varint, with anything behind it
pub prefix_gives : (limit longest n : ℕ) (rest : List ℕ) → n < limit → varint_prefix limit longest (varint n ++ rest) ≡ Ok (n, length (varint n))
prefix_gives limit longest n rest below =
    prefix_found limit longest (varint n ++ rest) n (length (varint n)) (record {
      within = omega (arith, length-append (varint n) rest);
      spelled = subst (λ z. IsVarint z n) (sym (take-append_seam (varint n) rest)) (varint_spells n);
      in_range = below;
    })
