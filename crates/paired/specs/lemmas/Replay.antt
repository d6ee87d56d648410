-- A record of a section is the item at its position.
use Rattle.std.specs.Prelude.{◌≡◌, ℕ, zero, suc, ◌+◌, ◌/◌, ◌<◌, List, [], length, get_or}
use Rattle.std.proofs.Common.{refl, ◌∙◌, ap, arith}
use Rattle.std.proofs.Math.Numerals.{add-one}
use Rattle.segments.specs.FixedItems.{item_count, item_at}
use Rattle.paired.specs.Records.{each_below, records}

get_or-each_below : {X : Type 0} (n p : ℕ) (f : ℕ → X) (x : X) → p < n → get_or (each_below n f) p x ≡ f p
get_or-each_below zero p f x lt = absurd (omega (arith, lt))
get_or-each_below (suc n) zero f x lt = refl
get_or-each_below (suc n) (suc p) f x lt = get_or-each_below n p (λ i. f (i + 1)) x (omega (arith, lt)) ∙ ap f (add-one p)

-- the record at p is item p
pub record_at : (size : ℕ) (bytes : List ℕ) (p : ℕ) → p < length bytes / size → get_or (records size bytes) p [] ≡ item_at size bytes p
record_at size bytes p lt = get_or-each_below (item_count size bytes) p (item_at size bytes) [] lt
