-- What is known of what a crash left, once more was flushed.
use Rattle.std.proofs.Common.{◌≡◌, ◌≢◌, ◌⊎◌, inl, inr, ◌∙◌, ℕ, ◌+◌, ◌*◌, ◌≤◌, false, List, length, ap, sym, subst, arith}
use Rattle.blob_device.specs.Disk.{Blob}
use Rattle.sealed_pages.specs.Buffer.{Buffer, size_of, has_leftover}
use Rattle.sealed_pages.specs.Leftover.{IsKnown}

module _ (seal : List ℕ → ℕ) (u r : Buffer) where
  -- a flush leaves nothing of it, or made no call
  pub known_flushed : (a b : Blob) → (length u.tip ≤ u.from → (r ≡ u) × (b ≡ a)) → (length u.tip ≤ u.from) ⊎ (has_leftover r ≡ false) → IsKnown seal u a → IsKnown seal r b
  known_flushed a b same left known has = elim left [
    | inl idle ↦ (let is = same idle in subst (λ (x : Buffer × Blob). IsKnown seal x.0 x.1) (λ i. (sym is.0 i, sym is.1 i)) known has)
    | inr none ↦ absurd (cc (has, none))
  ]

  -- a sync that had something to settle flushed it: while something was left all that was flushed had settled
  pub known_synced : (v : Buffer) (a b : Blob) → u.from ≤ length u.tip → u.settled ≢ size_of u → (length u.tip ≤ u.from → r ≡ u) → has_leftover v ≡ has_leftover r → (length u.tip ≤ u.from) ⊎ (has_leftover r ≡ false) → IsKnown seal u a → IsKnown seal v b
  known_synced v a b within unsettled same still left known has = elim left [
    | inl idle ↦ (let before = known (sym (ap has_leftover (same idle)) ∙ sym still ∙ has) in let whole : length u.tip ≡ u.from = omega (arith, idle, within) in
        absurd (unsettled (before.1 ∙ ap (λ (n : ℕ). u.first * u.page_size + n) (sym whole))))
    | inr none ↦ absurd (cc (has, still, none))
  ]
