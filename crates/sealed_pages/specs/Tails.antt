-- What stays unflushed in a buffer behind an append.
use Rattle.std.specs.Prelude.{◌≡◌, ℕ, ◌+◌, ◌-◌, ◌&&◌, cond, max, leb, ltb, length}
use Rattle.sealed_pages.specs.Buffer.{Buffer}
use Rattle.sealed_pages.specs.unsealed.Writing.{WriteBuffer}

-- How many bytes stay unflushed where more are added behind a tail of such: all, until they reach the capacity, then none.
unfoldable pub tail_after : ℕ → ℕ → ℕ → ℕ
tail_after capacity tail added = cond (ltb (tail + added) capacity) (tail + added) 0

-- how many bytes of a buffer over a sealed blob are not flushed
abbrev pub tail_of : Buffer → ℕ
tail_of b = length b.tip - b.from

-- the buffer r has the tail that n bytes more leave in b
abbrev pub LeavesTail : Buffer → ℕ → Buffer → Type 0
LeavesTail b n r = tail_of r ≡ tail_after b.capacity (tail_of b) n

-- How many bytes a run has with n put at a place: they go into it where it has the place, or its end; else they begin another.
unfoldable pub run_with : WriteBuffer → ℕ → ℕ → ℕ
run_with u offset n = cond (leb u.at offset && leb offset (u.at + length u.pending)) (max (length u.pending) (offset - u.at + n)) n

-- the run of r is what n bytes that were put at a place leave of the run of u
abbrev pub LeavesRun : WriteBuffer → ℕ → ℕ → WriteBuffer → Type 0
LeavesRun u offset n r = length r.pending ≡ tail_after u.capacity 0 (run_with u offset n)

-- How many bytes of a run an append joins: all. A run that ends below its blob's end it flushes first, and begins another.
unfoldable pub run_at_end : WriteBuffer → ℕ
run_at_end u = cond (leb u.end (u.at + length u.pending)) (length u.pending) 0

-- the run of r is what an append of n bytes leaves of the run of u
abbrev pub LeavesPending : WriteBuffer → ℕ → WriteBuffer → Type 0
LeavesPending u n r = length r.pending ≡ tail_after u.capacity (run_at_end u) n
