-- A buffer over a blob without seals that has nothing to flush: its bytes are the content.
use Rattle.std.proofs.Common.{◌≡◌, ℕ, ◌≤◌, ◌||◌, not, eqb, leb, Bool, true, false, List, [], ◌∷◌, length, refl, ◌∙◌, ap, arith}
use Rattle.std.proofs.lemmas.Bool.{and_parts, eqb-true, leb-true}
use Rattle.blob_device.specs.Change.{written}
use Rattle.sealed_pages.specs.unsealed.Writing.{WriteBuffer, bytes_of, is_idle, is_unsettled}
use Rattle.sealed_pages.specs.lemmas.Write.{written_nothing}

empty : (l : List ℕ) → length l ≡ 0 → l ≡ []
empty [] e = refl
empty (x ∷ xs) e = absurd (omega (arith, e))

pub idle_parts : (u : WriteBuffer) → is_idle u ≡ true → (u.pending ≡ []) × (u.at ≤ u.end)
idle_parts u is = let parts = and_parts (eqb (length u.pending) 0) (leb u.at u.end) is in (empty u.pending (eqb-true (length u.pending) 0 parts.0), leb-true u.at u.end parts.1)

pub settled_parts : (u : WriteBuffer) → is_unsettled u ≡ false → (u.dirty ≡ false) × (is_idle u ≡ true)
settled_parts u is = go u.dirty (is_idle u) is
  where
    go : (d i : Bool) → (d || not i) ≡ false → (d ≡ false) × (i ≡ true)
    go true i e = absurd (cc e)
    go false true e = (refl, refl)
    go false false e = absurd (cc e)

-- with nothing to flush, the bytes are the content
pub idle_bytes : (u : WriteBuffer) (c : List ℕ) → is_idle u ≡ true → length c ≡ u.end → bytes_of u c ≡ c
idle_bytes u c is long = let parts = idle_parts u is in ap (written c u.at) parts.0 ∙ written_nothing c u.at (omega (arith, parts.1, long))
