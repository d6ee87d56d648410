-- What a page is by itself, and calls that only read.
use Rattle.std.specs.Prelude.{◌≡◌, ◌≢◌, ℕ, ◌+◌, List, take, drop}
use Rattle.blob_device.specs.Disk.{Key}
use Rattle.blob_device.specs.Opened.{OpenedList}
use Rattle.blob_device.specs.Timeline.{Timeline, disk, Always}
use Rattle.sealed_pages.specs.View.{page_at}
use Rattle.sealed_pages.specs.Entries.{IsOpenAt}

-- the bytes of page k that stand below the content's end
abbrev pub page_of : ℕ → List ℕ → ℕ → List ℕ
page_of P c k = take (P + 12) (drop (page_at P k) c)

-- no blob's history changes
abbrev pub Unchanged : Timeline → Timeline → Type 0
Unchanged old new = Always old new (λ d. d ≡ disk old)

-- the blob is opened and as long as before, and no other blob's entry changed
pub record OnlyRead (k : Key) (old new : OpenedList) : Type 0 where
  pub others : (q : Key) → q ≢ k → new q ≡ old q
  pub length : (n : ℕ) → IsOpenAt old k n → IsOpenAt new k n
