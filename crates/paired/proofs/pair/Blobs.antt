-- Blobs without bytes or records, while they are made and while they are removed.
use Rattle.std.proofs.Common.{◌≡◌, inl, inr, ℕ, max, Bool, true, false, cond, List, [], ◌∷◌, ◌++◌, length, sym, ◌∙◌, ap, subst, arith}
use Rattle.blob_device.specs.Disk.{Blob, greatest, longest}
use Rattle.section_manager.specs.Lasting.{IsOpening, IsGoing}
use Rattle.paired.specs.Kept.{Layout}
use Rattle.paired.specs.Holding.{LeavesNoRecords}
use Rattle.paired.specs.lemmas.pair.Blobs.{again}

greatest_none : (n : ℕ) (cs : List (List ℕ)) → greatest n (cs ++ [] ∷ []) ≡ greatest n cs
greatest_none n [] = omega arith
greatest_none n (c ∷ cs) = ap (max (length c)) (greatest_none n cs)

-- a blob without bytes that is made stays without them
pub opening_bare : (from b : Blob) → from.there ≡ false → longest from ≡ 0 → IsOpening from b → longest b ≡ 0
opening_bare from b absent none (inl same) = ap longest same ∙ none
opening_bare from b absent none (inr (inl (inl under))) =
    ap longest under ∙ ap (λ (t : Bool). longest (cond t from (record from { content = []; unsure = true; since = from.since ++ [] ∷ [] }))) absent ∙ greatest_none (length from.settled) from.since ∙ none
opening_bare from b absent none (inr (inl (inr under))) =
    ap longest under ∙ ap (λ (t : Bool). longest (cond t from (record from { content = []; unsure = true; since = from.since ++ [] ∷ [] }))) absent ∙ greatest_none (length from.settled) from.since ∙ none
opening_bare from b absent none (inr (inr made)) = ap longest made ∙ ap (λ (t : Bool). length (cond t from.content [])) absent

-- a blob without bytes that is removed stays without them
pub going_bare : (from b : Blob) → longest from ≡ 0 → IsGoing from b → longest b ≡ 0
going_bare from b none (inl same) = ap longest same ∙ none
going_bare from b none (inr (inl (inl under))) = ap longest under ∙ none
going_bare from b none (inr (inl (inr under))) = ap longest under ∙ none
going_bare from b none (inr (inr gone)) = ap longest gone

-- an index blob without records that is removed stays without them
pub going_none : (l : Layout) (from b : Blob) → LeavesNoRecords l from → IsGoing from b → LeavesNoRecords l b
going_none l from b none (inl same) = subst (LeavesNoRecords l) (sym same) none
going_none l from b none (inr (inl (inl under))) = subst (LeavesNoRecords l) (sym under)
    (λ c left seals. none c (again from.there from.unsure left.0, record { no_shorter = left.1.no_shorter; no_longer = left.1.no_longer; kept = left.1.kept; bytes = left.1.bytes }) seals)
going_none l from b none (inr (inl (inr under))) = subst (LeavesNoRecords l) (sym under)
    (λ c left seals. none c (left.0, record { no_shorter = left.1.no_shorter; no_longer = left.1.no_longer; kept = left.1.kept; bytes = left.1.bytes }) seals)
going_none l from b none (inr (inr gone)) = subst (LeavesNoRecords l) (sym gone) (λ c left seals. absurd (cc left.0))
