-- How many bytes of the run an append joins.
use Rattle.std.proofs.Common.{◌≡◌, ◌⊎◌, inl, inr, ◌+◌, ◌<◌, ◌≤◌, leb, length, ◌∙◌, sym, arith}
use Rattle.std.proofs.lemmas.Bool.{cases_lt, cond-true, cond-false, leb-true, le-leb, false_from_ne_true}
use Rattle.sealed_pages.specs.Tails.{run_at_end}
use Rattle.sealed_pages.specs.unsealed.Writing.{WriteBuffer, StandsBehind}

pub end_joined : (u : WriteBuffer) → u.end ≤ u.at + length u.pending → run_at_end u ≡ length u.pending
unfolding run_at_end
end_joined u behind = cond-true (leb u.end (u.at + length u.pending)) (length u.pending) 0 (le-leb u.end (u.at + length u.pending) behind)

pub end_apart : (u : WriteBuffer) → u.at + length u.pending < u.end → run_at_end u ≡ 0
unfolding run_at_end
end_apart u before = cond-false (leb u.end (u.at + length u.pending)) (length u.pending) 0 (false_from_ne_true _ (λ e. omega (arith, leb-true u.end (u.at + length u.pending) e, before)))

-- where nothing is pending below the end of the blob, an append joins all that is
pub end_behind : (u : WriteBuffer) → StandsBehind u → run_at_end u ≡ length u.pending
end_behind u (inl low) = end_joined u (omega (arith, low))
end_behind u (inr none) = go (cases_lt (u.at + length u.pending) u.end)
  where
    go : (u.at + length u.pending < u.end) ⊎ (u.end ≤ u.at + length u.pending) → run_at_end u ≡ length u.pending
    go (inl before) = end_apart u before ∙ sym none
    go (inr behind) = end_joined u behind
