-- Numbers in a list, and the names of blobs that spell them.
use Rattle.std.specs.Prelude.{◌≡◌, ℕ, ◌^◌, ◌<◌, List, [], length, map}
use Rattle.std.specs.List.{Contains}
use Rattle.std.specs.Int.{w64, to_be_bytes}
use Rattle.std.proofs.Common.{sym, ◌∙◌, ap, subst, get_or, arith}
use Rattle.std.proofs.lemmas.List.{get_or-map, length-map}
use Rattle.std.proofs.lemmas.List.Elements.{Contains-get_or}
use Rattle.std.proofs.lemmas.Grind.{get_or_default_zero}
use Rattle.blob_device.specs.Disk.{Key}
use Rattle.section_manager.specs.lemmas.Keys.{key_injective}
use Rattle.section_manager.specs.lemmas.Number.{length-number_name}

-- what holds at each place holds of each number that is listed
pub of_listed : (P : ℕ → Type 0) (numbers : List ℕ) (s : ℕ) → ((k : ℕ) → k < length numbers → P (get_or numbers k 0)) → Contains numbers s → P s
of_listed P numbers s each listed = subst P (sym (get_or_default_zero numbers listed.0 s listed.1) ∙ listed.2) (each listed.0 listed.1)

module _ (numbers : List ℕ) (names : List (List ℕ)) (spelled : map (to_be_bytes w64) numbers ≡ names) where
  pub has_name : (s : ℕ) → Contains numbers s → Contains names (to_be_bytes w64 s)
  has_name s listed = subst (λ (l : List (List ℕ)). Contains l (to_be_bytes w64 s)) spelled (
    listed.0,
    omega (arith, listed.1, length-map numbers (to_be_bytes w64)),
    get_or-map (to_be_bytes w64) numbers listed.0 s (to_be_bytes w64 s) listed.1 ∙ ap (to_be_bytes w64) listed.2,
  )

  has_number : (name : List ℕ) → Contains names name → (n : ℕ) × Contains numbers n × (to_be_bytes w64 n ≡ name)
  has_number name named =
      let listed : Contains (map (to_be_bytes w64) numbers) name = subst (λ (l : List (List ℕ)). Contains l name) (sym spelled) named in
      let lt : listed.0 < length numbers = omega (arith, listed.1, length-map numbers (to_be_bytes w64)) in
      (get_or numbers listed.0 0, Contains-get_or numbers listed.0 0 lt, sym (get_or-map (to_be_bytes w64) numbers listed.0 0 name lt) ∙ listed.2)

  pub name_size : (name : List ℕ) → Contains names name → length name ≡ 8
  name_size name named = let number = has_number name named in ap length (sym number.2) ∙ length-number_name number.0

  pub names_number : ((n : ℕ) → Contains numbers n → n < 2 ^ 64) → (s : ℕ) → s < 2 ^ 64 → Contains names (to_be_bytes w64 s) → Contains numbers s
  names_number small s s_small named =
      let number = has_number (to_be_bytes w64 s) named in
      let same : number.0 ≡ s = key_injective [] number.0 s (small number.0 number.1) s_small (ap (λ (name : List ℕ). let k : Key = ([], name) in k) number.2) in
      subst (Contains numbers) same number.1
