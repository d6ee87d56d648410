-- What all has that a generated script is made of, and that each of its commands can be said in a line.
use Rattle.std.proofs.Common.{ℕ, zero, suc, Bool, true, false, ◌+◌, ◌*◌, ◌%◌, ◌<◌, ◌≤◌, ◌^◌, List, [], ◌∷◌, map, replicate, subst, arith, refl}
use Rattle.std.specs.Prelude.{if◌then◌else◌, ◌==◌}
use Rattle.std.specs.Int.{byte_at, bytes_high_first}
use Rattle.std.specs.List.{AllByRecursion, flat_map, range_with_len}
use Rattle.std.proofs.lemmas.List.{length-replicate}
use Rattle.std.proofs.lemmas.List.Concat.{flat_map_single}
use Rattle.archives.specs.Commands.{Get, HasKey, Sync}
use Rattle.archive_service.specs.Made.{made, made_key, made_puts, made_tests, made_value}
use Rattle.archive_service.specs.Script.{AreBytes, CanBeSaid, IsKey, IsValue}
use Rattle.archive_service.specs.lemmas.Word.{all_append}

-- where all that is made of each number has P, all has
all_made : {X : Type 0} (P : X → Type 0) (f : ℕ → List X) (a n : ℕ) → ((i : ℕ) → i < a + n → AllByRecursion P (f i)) → AllByRecursion P (flat_map f (range_with_len a n))
all_made P f a zero h = tt
all_made P f a (suc n) h =
    all_append P (f a) (flat_map f (range_with_len (a + 1) n)) (h a (omega arith)) (all_made P f (a + 1) n (λ i lt. h i (omega (arith, lt))))

low_byte : (k n : ℕ) → byte_at k n < 256
low_byte zero n = omega arith
low_byte (suc k) n = omega arith

number_bytes : (k n : ℕ) → AreBytes (bytes_high_first k n)
number_bytes zero n = tt
number_bytes (suc k) n = (low_byte k n, number_bytes k n)

all_alike : {X : Type 0} (P : X → Type 0) (n : ℕ) (x : X) → P x → AllByRecursion P (replicate n x)
all_alike P zero x h = tt
all_alike P (suc n) x h = (h, all_alike P n x h)

-- a list that is there or not
if_there : {X : Type 0} (P : X → Type 0) (there : Bool) (xs : List X) → AllByRecursion P xs → AllByRecursion P (if there then xs else [])
if_there P true xs h = h
if_there P false xs h = tt

key_is : (i : ℕ) → IsKey (made_key i)
key_is i = (refl, number_bytes 8 i)

value_is : (max i : ℕ) → 16 ≤ max → IsValue max (made_value i)
value_is max i room =
    let low : i % 256 < 256 = omega arith in
    (omega (arith, length-replicate (i % 17) (i % 256), room), all_alike (λ byte. byte < 256) (i % 17) (i % 256) low)

-- where a value may have sixteen bytes
pub made_said : (max n : ℕ) → 16 ≤ max → n ≤ 2 ^ 32 → AllByRecursion (CanBeSaid max) (made n)
made_said max n room few =
    let said = CanBeSaid max in
    let puts : AllByRecursion said (flat_map made_puts (range_with_len 0 n)) = all_made said made_puts 0 n (λ i lt.
    ((omega (arith, lt, few), key_is i, value_is max i room), if_there said ((i + 1) % 100 == 0) (Sync ∷ []) (tt, tt))) in
    let gets : AllByRecursion said (map (λ i. Get (2 * i)) (range_with_len 0 n)) =
    subst (AllByRecursion said) (flat_map_single (λ (i : ℕ). Get (2 * i)) (range_with_len 0 n)) (all_made said (λ i. Get (2 * i) ∷ []) 0 n (λ i lt. (omega (arith, lt, few), tt))) in
    let tests : AllByRecursion said (flat_map made_tests (range_with_len 0 n)) =
    all_made said made_tests 0 n (λ i lt. if_there said (i % 1000 == 0) (HasKey (made_key i) ∷ []) (key_is i, tt)) in
    all_append said _ _ (all_append said _ _ (all_append said _ _ (all_append said _ _ puts (tt, (tt, tt))) gets) tests) (tt, (tt, (tt, tt)))
