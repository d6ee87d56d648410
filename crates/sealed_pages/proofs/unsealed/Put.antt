-- A write into a buffer over a blob without seals: the run is flushed where the place does not join it, the bytes are put into the
-- run, and it is flushed where it reaches the capacity.
use Rattle.std.proofs.Common.{◌≡◌, ◌⊎◌, inl, inr, ℕ, ◌+◌, ◌<◌, ◌≤◌, ◌^◌, ◌↔◌, ◌++◌, min, true, List, [], ◌∷◌, length, get_or, take, Result, Ok, Err, IsErr, OnErr, refl, ◌∙◌, ap, subst, arith}
use Rattle.std.specs.Result.{IsErrOf}
use Rattle.blob_device.specs.Change.{written}
use Rattle.blob_device.specs.declared.device.Device as device
use Rattle.blob_device.specs.declared.error.DevError.{DevError}
use Rattle.blob_device.specs.declared.runtime.RError.{RError}
use Rattle.blob_device.specs.declared.runtime.RError.TheVariants.{OffsetOverflow}
use Rattle.blob_device.specs.Disk.{Key, Outside}
use Rattle.blob_device.specs.Keeps.{Keeps}
use Rattle.blob_device.specs.Timeline.{Timeline, disk}
use Rattle.sealed_pages.specs.Calls.{FailsBelow}
use Rattle.sealed_pages.specs.Contents.{AddsOnly}
use Rattle.sealed_pages.specs.Entries.{NoReads}
use Rattle.sealed_pages.specs.Sparing.{Sparing, Keeping}
use Rattle.sealed_pages.specs.Tails.{run_with, LeavesRun}
use Rattle.sealed_pages.specs.unsealed.RunCalls.{FlushesRun, Moves, WritesAt}
use Rattle.sealed_pages.specs.unsealed.Writing.{WriteBuffer, blob_key, bytes_of, size_of, run_of, is_idle, Joins, StaysBelow, HoldsOnly, with_bytes_put, KeepsSettled}
use Rattle.sealed_pages.proofs.unsealed.ContentLemmas.{adds_start, adds_one, adds_put}
use Rattle.sealed_pages.proofs.unsealed.LastingLemmas.{keeping_of, keeping_now, kept_after, apart_after, put_holds}
use Rattle.sealed_pages.specs.lemmas.unsealed.Sparing.{sparing_start, sparing_weaker}
use Rattle.sealed_pages.proofs.unsealed.Tails.{tail_kept, tail_flushed, put_run}
use Rattle.sealed_pages.proofs.cutting.Truncating.{no_value}
use Rattle.sealed_pages.proofs.unsealed.WritingLemmas.{put_joins, put_bytes, put_below, put_spares, written_last}
use Rattle.blob_device.specs.Places.{written_out}

-- What it has done to the blob of the buffer u by some time.
pub record PutBy (u : WriteBuffer) (offset : ℕ) (bytes : List ℕ) (t0 t1 : Timeline) : Type 0 where
  -- it has touched the places of the run and of these bytes alone,
  pub spares : Sparing (Outside ((offset, length bytes) ∷ run_of u ∷ [])) u.settled (blob_key u) t0 t1
  -- and made no content but the buffer's bytes, and those with these over them
  pub since : AddsOnly (bytes_of u (disk t0 (blob_key u)).content ∷ written (bytes_of u (disk t0 (blob_key u)).content) offset bytes ∷ []) (blob_key u) t0 t1

-- what settled below the place and was not written since outlives each crash
pub put_lasts : (u : WriteBuffer) (offset : ℕ) (bytes : List ℕ) (t0 t1 : Timeline) → PutBy u offset bytes t0 t1 → KeepsSettled u (disk t0 (blob_key u)) → Keeping (take (min u.settled offset) (bytes_of u (disk t0 (blob_key u)).content)) (blob_key u) t0 t1
put_lasts u offset bytes t0 t1 by kept = keeping_of u (Outside ((offset, length bytes) ∷ run_of u ∷ [])) u.settled (min u.settled offset) (blob_key u) t0 t1 kept (omega arith) (omega arith) (λ i lt. (inl (omega (arith, lt)), kept.apart i (omega (arith, lt)))) by.spares

-- and stays so under the buffer r, where the place is behind it
pub put_kept : (u r : WriteBuffer) (offset : ℕ) (bytes : List ℕ) (t0 t1 : Timeline) → PutBy u offset bytes t0 t1 → KeepsSettled u (disk t0 (blob_key u)) → u.settled ≤ offset → r.settled ≡ u.settled
    → bytes_of r (disk t1 (blob_key u)).content ≡ written (bytes_of u (disk t0 (blob_key u)).content) offset bytes → HoldsOnly u offset bytes r → KeepsSettled r (disk t1 (blob_key u))
put_kept u r offset bytes t0 t1 by kept far settled is holds =
    let few : min u.settled offset ≡ u.settled = omega (arith, far) in
    kept_after u r (disk t0 (blob_key u)) (disk t1 (blob_key u)) kept
    (subst (λ (n : ℕ). Keeps (take n (bytes_of u (disk t0 (blob_key u)).content)) (disk t1 (blob_key u))) few (keeping_now _ (blob_key u) t0 t1 (put_lasts u offset bytes t0 t1 by kept)))
    settled
    (λ i lt. ap (λ (l : List ℕ). get_or l i 0) is ∙ written_out (bytes_of u (disk t0 (blob_key u)).content) offset bytes i (inl (omega (arith, lt, far))))
    (apart_after u r offset bytes far kept.apart holds)

-- before its first call
pub put_none : (u : WriteBuffer) (offset : ℕ) (bytes : List ℕ) (t : Timeline) → PutBy u offset bytes t t
put_none u offset bytes t = record {
  spares = sparing_start (Outside ((offset, length bytes) ∷ run_of u ∷ [])) u.settled (blob_key u) t;
  since = adds_start (bytes_of u (disk t (blob_key u)).content ∷ written (bytes_of u (disk t (blob_key u)).content) offset bytes ∷ []) (blob_key u) t;
}

-- after each of its calls
module _ {D : Type 0} (dev : device.Ghosts D) (u : WriteBuffer) (offset : ℕ) (bytes : List ℕ) (d0 d1 : D) where
  pub put_moved : {B : Type 0} (see : B → WriteBuffer) (r : Result B DevError) → dev.Tells → Moves dev u d0 d1 see offset r → PutBy u offset bytes (dev.time d0) (dev.time d1)
  put_moved see r tells moved = record {
    spares = sparing_weaker (Outside (run_of u ∷ [])) (Outside ((offset, length bytes) ∷ run_of u ∷ [])) u.settled u.settled (blob_key u) (dev.time d0) (dev.time d1) (λ i out. out.1) (omega arith) (moved.spares tells);
    since = adds_one (bytes_of u (disk (dev.time d0) (blob_key u)).content ∷ written (bytes_of u (disk (dev.time d0) (blob_key u)).content) offset bytes ∷ []) (bytes_of u (disk (dev.time d0) (blob_key u)).content) (blob_key u) (dev.time d0) (dev.time d1) (0, omega arith, refl) (moved.since tells);
  }

  -- m is the buffer whose run the place joins, p the one with the bytes in it
  module _ {B : Type 0} (see : B → WriteBuffer) (m p : B) (moved : Moves dev u d0 d1 see offset (Ok m)) (put : see p ≡ with_bytes_put (see m) offset bytes) where
    after_move : see m ≡ record u { end = (see m).end; at = (see m).at; pending = (see m).pending; dirty = (see m).dirty }
    after_move = moved.same

    joined : Joins (see m) offset
    joined = moved.joined

    run : (((see m).at ≡ u.at) × ((see m).pending ≡ u.pending)) ⊎ (((see m).at ≡ offset) × ((see m).pending ≡ []))
    run = moved.run

    key_p : blob_key (see p) ≡ blob_key u
    key_p = ap blob_key put ∙ ap blob_key after_move

    capacity_p : (see p).capacity ≡ u.capacity
    capacity_p = ap (λ (x : WriteBuffer). x.capacity) put ∙ ap (λ (x : WriteBuffer). x.capacity) after_move

    pub put_settled : (see p).settled ≡ u.settled
    put_settled = ap (λ (x : WriteBuffer). x.settled) put ∙ ap (λ (x : WriteBuffer). x.settled) after_move

    pub put_is : dev.Tells → bytes_of (see p) (disk (dev.time d1) (blob_key u)).content ≡ written (bytes_of u (disk (dev.time d0) (blob_key u)).content) offset bytes
    put_is tells = put_bytes u (see m) (see p) offset bytes joined run put (disk (dev.time d1) (blob_key u)).content (bytes_of u (disk (dev.time d0) (blob_key u)).content) (moved.bytes tells)

    pub put_only : HoldsOnly u offset bytes (see p)
    put_only = put_holds u (see m) (see p) offset bytes joined run put

    put_length : length (see p).pending ≡ run_with u offset (length bytes)
    put_length = put_run u (see m) (see p) offset bytes joined run put moved.kept

    -- what is left of the run, without a flush and with one
    pub put_leaves : (n : ℕ) → n ≡ length (see p).pending → n < (see p).capacity → LeavesRun u offset (length bytes) (see p)
    put_leaves n len less = tail_kept u.capacity 0 _ _ (omega (arith, put_length)) (omega (arith, len, capacity_p, less))

    pub flush_leaves : (n : ℕ) → n ≡ length (see p).pending → (see p).capacity ≤ n → (r : WriteBuffer) → r.pending ≡ [] → LeavesRun u offset (length bytes) r
    flush_leaves n len full r none = tail_flushed u.capacity 0 _ _ (ap length none) (omega (arith, put_length, len, capacity_p, full))

    -- a run that stays below the capacity is not flushed, and few bytes fill it only where they join it
    pub not_below : (n : ℕ) → n ≡ length (see p).pending → (see p).capacity ≤ n → StaysBelow u offset (length bytes) → ⊥
    not_below n len full below = put_below u (see m) (see p) offset bytes joined run put n len capacity_p moved.kept below full

    pub unmoved : (n : ℕ) → n ≡ length (see p).pending → (see p).capacity ≤ n → Joins u offset ⊎ ((is_idle u ≡ true) ⊎ (length bytes < u.capacity)) → d1 ≡ d0
    unmoved n len full (inl joins) = moved.untouched (inl joins)
    unmoved n len full (inr (inl idle)) = moved.untouched (inr idle)
    unmoved n len full (inr (inr few)) = moved.untouched (inl (put_joins u (see m) (see p) offset bytes joined run put n len capacity_p few full))

    pub put_flushed : (d2 : D) (r : Result B DevError) → dev.Tells → FlushesRun dev (see p) d1 d2 see r → PutBy u offset bytes (dev.time d0) (dev.time d2)
    put_flushed d2 r tells flushed = record {
      spares = put_spares u (see m) (see p) offset bytes joined run put (dev.time d0) (dev.time d1) (dev.time d2) put_settled key_p (moved.spares tells) (flushed.spares tells);
      since = adds_put u (see p) (bytes_of u (disk (dev.time d0) (blob_key u)).content) (written (bytes_of u (disk (dev.time d0) (blob_key u)).content) offset bytes) (dev.time d0) (dev.time d1) (dev.time d2) key_p (put_is tells) (moved.since tells) (flushed.since tells);
    }

    pub flushed_is : (d2 : D) (r : B) → dev.Tells → FlushesRun dev (see p) d1 d2 see (Ok r) → bytes_of (see r) (disk (dev.time d2) (blob_key u)).content ≡ written (bytes_of u (disk (dev.time d0) (blob_key u)).content) offset bytes
    flushed_is d2 r tells flushed =
        let same : bytes_of (see r) (disk (dev.time d2) (blob_key (see p))).content ≡ bytes_of (see p) (disk (dev.time d1) (blob_key (see p))).content = flushed.bytes tells in
        subst (λ (k : Key). bytes_of (see r) (disk (dev.time d2) k).content ≡ bytes_of (see p) (disk (dev.time d1) k).content) key_p same ∙ put_is tells

-- where it failed
pub put_failed : {D B : Type 0} (dev : device.Ghosts D) (u : WriteBuffer) (offset : ℕ) (bytes : List ℕ) (see : B → WriteBuffer) (d0 d1 : D) (r : Result B RError)
    → IsErr r → (dev.Tells → PutBy u offset bytes (dev.time d0) (dev.time d1))
    → (StaysBelow u offset (length bytes) → d1 ≡ d0) → (is_idle u ≡ true → length bytes ≡ 0 → offset ≤ u.end → d1 ≡ d0)
    → ((Joins u offset ⊎ ((is_idle u ≡ true) ⊎ (length bytes < u.capacity))) → (dev.time d1).calls ≤ (dev.time d0).calls + 1) → (dev.time d1).calls ≤ (dev.time d0).calls + 2
    → NoReads (blob_key u) (dev.opened d0) (dev.opened d1) → (IsErrOf r OffsetOverflow ↔ 2 ^ 64 ≤ offset + length bytes) → (2 ^ 64 ≤ offset + length bytes → d1 ≡ d0)
    → dev.faults d0 ≤ dev.faults d1 → OnErr r ((r ≡ Err OffsetOverflow) ⊎ FailsBelow dev r d0 d1) → WritesAt dev u d0 d1 see offset bytes r
put_failed dev u offset bytes see d0 d1 r failed by below nothing once calls entries overflow refused faults cause = record {
  spares = λ t. (by t).spares;
  over = λ t over. no_value _ r failed;
  lasts = λ t kept. put_lasts u offset bytes (dev.time d0) (dev.time d1) (by t) kept;
  kept = λ t kept far. no_value _ r failed;
  since = λ t. (by t).since;
  bytes = λ t. no_value _ r failed;
  size = no_value _ r failed;
  same = no_value _ r failed;
  run = no_value _ r failed;
  tail = no_value _ r failed;
  behind = λ far behind. no_value _ r failed;
  joined = λ joins. no_value _ r failed;
  below = below;
  nothing = nothing;
  once = once;
  calls = calls;
  full = no_value _ r failed;
  «open» = no_value _ r failed;
  entries = entries;
  overflow = overflow;
  refused = refused;
  faults = faults;
  cause = cause;
}

-- a write at the end of the bytes
pub append_since : (u : WriteBuffer) (at : ℕ) (bytes : List ℕ) (t0 t1 : Timeline) → at ≡ size_of u → length (disk t0 (blob_key u)).content ≡ u.end
    → AddsOnly (bytes_of u (disk t0 (blob_key u)).content ∷ written (bytes_of u (disk t0 (blob_key u)).content) at bytes ∷ []) (blob_key u) t0 t1
    → AddsOnly (bytes_of u (disk t0 (blob_key u)).content ∷ (bytes_of u (disk t0 (blob_key u)).content ++ bytes) ∷ []) (blob_key u) t0 t1
append_since u at bytes t0 t1 end long since = subst (λ (l : List ℕ). AddsOnly (bytes_of u (disk t0 (blob_key u)).content ∷ l ∷ []) (blob_key u) t0 t1)
    (written_last u (disk t0 (blob_key u)).content bytes at long end) since

pub append_lasts : (u : WriteBuffer) (at : ℕ) (all : List ℕ) (t0 t1 : Timeline) → u.settled ≤ at → Keeping (take (min u.settled at) all) (blob_key u) t0 t1 → Keeping (take u.settled all) (blob_key u) t0 t1
append_lasts u at all t0 t1 within lasts =
    let few : min u.settled at ≡ u.settled = omega (arith, within) in
    subst (λ (n : ℕ). Keeping (take n all) (blob_key u) t0 t1) few lasts
