-- What a cut leaves of a blob, and of the list of opened blobs.
use Rattle.std.specs.Prelude.{◌≡◌, ◌≢◌, ℕ, ◌+◌, ◌≤◌, not, Bool, List, length, take, IsSomeAnd}
use Rattle.blob_device.specs.Disk.{Key, Blob, settled_at}
use Rattle.blob_device.specs.Change.{written}
use Rattle.blob_device.specs.Opened.{OpenedList, reads_of}
use Rattle.sealed_pages.specs.View.{page_at, slot_at}
use Rattle.sealed_pages.specs.Slots.{slot_bytes}
use Rattle.sealed_pages.specs.SealedPrefix.{sealed_prefix, adopted_size}
use Rattle.sealed_pages.specs.Flushing.{no_slot}

-- what the blob reads as has settled
abbrev pub StandsSettled : Blob → Type 0
StandsSettled b = b ≡ settled_at b.content

-- The blob has settled with these bytes: they are its sealed prefix, and adopting it finds no more.
pub record Settles (seal : List ℕ → ℕ) (P : ℕ) (all : List ℕ) (b : Blob) : Type 0 where
  pub rest : StandsSettled b
  pub prefix : sealed_prefix seal P b.content ≡ all
  pub adopted : adopted_size seal P b.content ≡ length all

-- The content after a cut of page k to these bytes: later pages are gone, a slot over the bytes stands where the other slot
-- stood, and zeros where the old one did.
abbrev pub page_cut : (List ℕ → ℕ) → ℕ → List ℕ → ℕ → Bool → List ℕ → List ℕ
page_cut seal P c k old bytes = written (written (take (page_at P (k + 1)) c) (slot_at P k (not old)) (slot_bytes seal P bytes)) (slot_at P k old) no_slot

-- the blob is still opened, at most n reads began on it, and no other blob's entry changed
pub record FewReads (n : ℕ) (k : Key) (old new : OpenedList) : Type 0 where
  pub others : (q : Key) → q ≢ k → new q ≡ old q
  pub here : IsSomeAnd (new k) (λ o. o.reads ≤ reads_of (old k) + n)
