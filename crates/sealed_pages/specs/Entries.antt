-- What calls on one blob leave of the list of opened blobs.
use Rattle.std.specs.Prelude.{◌≡◌, ◌≢◌, ℕ, ◌+◌, ◌≤◌, IsSomeAnd}
use Rattle.blob_device.specs.Disk.{Key}
use Rattle.blob_device.specs.Opened.{OpenedList, reads_of}

-- the blob is opened, and has this length
abbrev pub IsOpenAt : OpenedList → Key → ℕ → Type 0
IsOpenAt opened k n = IsSomeAnd (opened k) (λ o. o.len ≡ n)

-- the blob is still opened, no read began on it, and no other blob's entry changed
pub record NoReads (k : Key) (old new : OpenedList) : Type 0 where
  pub others : (q : Key) → q ≢ k → new q ≡ old q
  pub here : IsSomeAnd (new k) (λ o. o.reads ≡ reads_of (old k))

-- the blob is as long as before, at most n reads began on it, and no other blob's entry changed
pub record ReadsAtMost (n : ℕ) (k : Key) (old new : OpenedList) : Type 0 where
  pub others : (q : Key) → q ≢ k → new q ≡ old q
  pub length : (len : ℕ) → IsOpenAt old k len → IsOpenAt new k len
  pub reads : reads_of (new k) ≤ reads_of (old k) + n
