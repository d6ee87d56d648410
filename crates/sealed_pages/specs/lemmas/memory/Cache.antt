-- What holds of each page in memory holds of the one that is found.
use Rattle.std.proofs.Common.{◌≡◌, ℕ, zero, suc, ◌+◌, ◌≤◌, Bool, true, false, cond, List, nat_eq, Option, Some, None, refl, sym, ap, subst, arith}
use Rattle.std.specs.List.{All, list_any}
use Rattle.std.specs.Map.{lookup, keys_of}
use Rattle.std.specs.Option.{is_some}
use Rattle.std.proofs.lemmas.Map.Made.{is_some-lookup}
use Rattle.std.proofs.lemmas.Bool.{eqb-true}
use Rattle.std.proofs.lemmas.List.Elements.{All-contains}
use Rattle.lru.proofs.CallerLemmas.{Contains-lookup}
use Rattle.sealed_pages.specs.Cached.{uncached}

-- what holds of each page holds of the one that is found
pub found_has : (Q : ℕ × List ℕ → Type 0) (k : ℕ) (bytes : List ℕ) (es : List (ℕ × List ℕ)) → All Q es → lookup (nat_eq k) es ≡ Some bytes → Q (k, bytes)
found_has Q k bytes es all found =
    let has = Contains-lookup (nat_eq k) es bytes found in
    let same : k ≡ has.0 = eqb-true k has.0 has.2 in
    subst (λ (j : ℕ). Q (j, bytes)) (sym same) (All-contains Q es (has.0, bytes) all has.1)

-- a page that is among them, with what holds of each
pub found_page_has : (Q : ℕ × List ℕ → Type 0) (k : ℕ) (es : List (ℕ × List ℕ)) → All Q es → list_any (nat_eq k) (keys_of es) ≡ true → (bytes : List ℕ) × Q (k, bytes)
found_page_has Q k es all has = go (lookup (nat_eq k) es) refl
  where
    go : (o : Option (List ℕ)) → lookup (nat_eq k) es ≡ o → (bytes : List ℕ) × Q (k, bytes)
    go None none = absurd (cc (is_some-lookup (nat_eq k) es, has, ap is_some none))
    go (Some bytes) some = (bytes, found_has Q k bytes es all some)

-- where none is in memory, all are not
pub uncached_most : (pages : List ℕ) (k n : ℕ) → uncached pages k n ≤ n
uncached_most pages k zero = omega arith
uncached_most pages k (suc n) = omega (arith, uncached_most pages k n, one (list_any (nat_eq (k + n)) pages))
  where
    one : (b : Bool) → cond b 0 1 ≤ 1
    one true = omega arith
    one false = omega arith
