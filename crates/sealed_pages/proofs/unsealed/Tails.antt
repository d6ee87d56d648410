-- What stays unflushed behind an append.
use Rattle.std.proofs.Common.{◌≡◌, ◌⊎◌, inl, inr, ℕ, ◌+◌, ◌-◌, ◌<◌, ◌≤◌, ◌&&◌, cond, max, leb, ltb, List, [], length, ◌∙◌, ap, arith}
use Rattle.std.proofs.lemmas.Bool.{cases_lt, cond_below, cond_above, cond-true, cond-false, and_parts, and_from, leb-true, le-leb, false_from_ne_true}
use Rattle.sealed_pages.specs.Tails.{tail_after, run_with, run_at_end}
use Rattle.sealed_pages.specs.unsealed.Writing.{WriteBuffer, size_of, Joins, with_bytes_put}
use Rattle.blob_device.specs.Lengths.{length-written}
use Rattle.sealed_pages.specs.lemmas.unsealed.Tails.{end_apart, end_joined}

-- below the capacity nothing is flushed
pub tail_kept : (capacity tail added n : ℕ) → n ≡ tail + added → n < capacity → n ≡ tail_after capacity tail added
unfolding tail_after
tail_kept capacity tail added n is below = is ∙ cond_below (tail + added) capacity (tail + added) 0 (omega (arith, is, below))

-- from there on all is
pub tail_flushed : (capacity tail added n : ℕ) → n ≡ 0 → capacity ≤ tail + added → n ≡ tail_after capacity tail added
unfolding tail_after
tail_flushed capacity tail added n none full = cond_above (tail + added) capacity (tail + added) 0 n full none

-- the run with bytes put at a place that joins it, and at another
pub run_joined : (u : WriteBuffer) (offset n : ℕ) → Joins u offset → run_with u offset n ≡ max (length u.pending) (offset - u.at + n)
unfolding run_with
run_joined u offset n joins = cond-true (leb u.at offset && leb offset (u.at + length u.pending)) _ n (and_from _ _ (le-leb u.at offset joins.low) (le-leb offset (u.at + length u.pending) joins.high))

pub run_apart : (u : WriteBuffer) (offset n : ℕ) → (Joins u offset → ⊥) → run_with u offset n ≡ n
unfolding run_with
run_apart u offset n apart = cond-false (leb u.at offset && leb offset (u.at + length u.pending)) _ n (false_from_ne_true _ (λ e.
    let parts = and_parts (leb u.at offset) (leb offset (u.at + length u.pending)) e in
    apart (record { low = leb-true u.at offset parts.0; high = leb-true offset (u.at + length u.pending) parts.1 })))

-- at the end of the bytes the run is what an append joins, with them
pub run_appended : (u : WriteBuffer) (n : ℕ) → run_with u (size_of u) n ≡ run_at_end u + n
run_appended u n = go (cases_lt (u.at + length u.pending) u.end)
  where
    go : (u.at + length u.pending < u.end) ⊎ (u.end ≤ u.at + length u.pending) → run_with u (size_of u) n ≡ run_at_end u + n
    go (inl before) = run_apart u (size_of u) n (λ joins. omega (arith, joins.high, before)) ∙ omega (arith, end_apart u before)
    go (inr behind) = run_joined u (size_of u) n (record { low = omega (arith, behind); high = omega (arith, behind) }) ∙ omega (arith, behind, end_joined u behind)

-- only the sum counts
same_after : (capacity t a u b : ℕ) → t + a ≡ u + b → tail_after capacity t a ≡ tail_after capacity u b
unfolding tail_after
same_after capacity t a u b is = ap (λ (m : ℕ). cond (ltb m capacity) m 0) is

-- what an append leaves is what a write at the end does
pub append_leaves : (u : WriteBuffer) (capacity offset added n : ℕ) → offset ≡ size_of u → n ≡ tail_after capacity 0 (run_with u offset added) → n ≡ tail_after capacity (run_at_end u) added
append_leaves u capacity offset added n at left =
    left ∙ same_after capacity 0 (run_with u offset added) (run_at_end u) added (omega (arith, ap (λ (k : ℕ). run_with u k added) at, run_appended u added))

-- What the run then is: m is the buffer before, u the one at the start of the call, p the one after.
pub put_run : (u m p : WriteBuffer) (offset : ℕ) (bytes : List ℕ) → Joins m offset → ((m.at ≡ u.at) × (m.pending ≡ u.pending)) ⊎ ((m.at ≡ offset) × (m.pending ≡ []))
    → p ≡ with_bytes_put m offset bytes → (Joins u offset → m ≡ u) → length p.pending ≡ run_with u offset (length bytes)
put_run u m p offset bytes joined run put kept = go run
  where
    long : length p.pending ≡ max (length m.pending) (offset - m.at + length bytes)
    long = ap (λ (x : WriteBuffer). length x.pending) put ∙ length-written m.pending (offset - m.at) bytes

    among : (m.at ≡ u.at) → (length m.pending ≡ length u.pending) → Joins u offset → length p.pending ≡ run_with u offset (length bytes)
    among at pending joins = omega (arith, long, run_joined u offset (length bytes) joins, at, pending)

    beyond : (m.at ≡ offset) → (m.pending ≡ []) → (u.at ≤ offset) ⊎ (offset < u.at) → (offset ≤ u.at + length u.pending) ⊎ (u.at + length u.pending < offset) → length p.pending ≡ run_with u offset (length bytes)
    beyond at none (inl low) (inl high) =
        let joins : Joins u offset = record { low = low; high = high } in
        among (ap (λ (x : WriteBuffer). x.at) (kept joins)) (ap (λ (x : WriteBuffer). length x.pending) (kept joins)) joins
    beyond at none (inr below) b = omega (arith, long, at, ap length none, run_apart u offset (length bytes) (λ joins. omega (arith, joins.low, below)))
    beyond at none (inl low) (inr past) = omega (arith, long, at, ap length none, run_apart u offset (length bytes) (λ joins. omega (arith, joins.high, past)))

    swap : {A B : Type 0} → A ⊎ B → B ⊎ A
    swap (inl a) = inr a
    swap (inr b) = inl b

    go : ((m.at ≡ u.at) × (m.pending ≡ u.pending)) ⊎ ((m.at ≡ offset) × (m.pending ≡ [])) → length p.pending ≡ run_with u offset (length bytes)
    go (inl same) = among same.0 (ap length same.1) (record { low = omega (arith, joined.low, same.0); high = omega (arith, joined.high, same.0, ap length same.1) })
    go (inr new) = beyond new.0 new.1 (swap (cases_lt offset u.at)) (swap (cases_lt (u.at + length u.pending) offset))
