-- What a buffer over a blob without seals shows, and what it means: the bytes of its blob, with one run over them.
use Rattle.std.specs.Prelude.{◌≡◌, ◌⊎◌, ℕ, ◌+◌, ◌-◌, ◌<◌, ◌≤◌, ◌||◌, ◌&&◌, not, min, max, eqb, leb, Bool, true, false, List, [], ◌∷◌, length, take, string_bytes}
use Rattle.blob_device.specs.Disk.{Key, Blob, Outside, settled_at}
use Rattle.blob_device.specs.Change.{written}
use Rattle.blob_device.specs.Keeps.{Keeps}
use Rattle.sealed_pages.specs.declared.write_blob.WriteBlob.{WriteBlob}
use Rattle.sealed_pages.specs.View.{Within}
use Rattle.sealed_pages.specs.Sparing.{Lasts}
use Rattle.sealed_pages.specs.Contents.{IsHad}

-- What a buffer shows. `end` is the length of its blob. The run `pending` is not flushed; it begins at `at`. The first `settled` bytes
-- have settled but for those written since, and `dirty` says that flushed ones have not.
pub record WriteBuffer : Type 0 where
  pub partition : List ℕ
  pub name : List ℕ
  pub capacity : ℕ
  pub end : ℕ
  pub at : ℕ
  pub pending : List ℕ
  pub settled : ℕ
  pub dirty : Bool

abbrev pub shown : WriteBlob → WriteBuffer
shown w = record {
  partition = string_bytes w.partition;
  name = w.name.items;
  capacity = w.capacity;
  end = w.end;
  at = w.at;
  pending = w.pending.items;
  settled = w.settled;
  dirty = w.dirty;
}

abbrev pub blob_key : WriteBuffer → Key
blob_key u = (u.partition, u.name)

-- the bytes of a buffer over a blob of this content: the run is written over it
abbrev pub bytes_of : WriteBuffer → List ℕ → List ℕ
bytes_of u content = written content u.at u.pending

-- how many bytes those are
abbrev pub size_of : WriteBuffer → ℕ
size_of u = max u.end (u.at + length u.pending)

-- the places of the run, as their start and number
abbrev pub run_of : WriteBuffer → ℕ × ℕ
run_of u = (u.at, length u.pending)

-- a flush would write nothing, and make the blob no longer
abbrev pub is_idle : WriteBuffer → Bool
is_idle u = eqb (length u.pending) 0 && leb u.at u.end

-- nothing is pending below the end of the blob
abbrev pub StandsBehind : WriteBuffer → Type 0
StandsBehind u = (u.end ≤ u.at) ⊎ (length u.pending ≡ 0)

-- a byte is not flushed, or flushed and not settled
abbrev pub is_unsettled : WriteBuffer → Bool
is_unsettled u = u.dirty || not (is_idle u)

-- the place is in the run, or at its end
pub record Joins (u : WriteBuffer) (offset : ℕ) : Type 0 where
  pub low : u.at ≤ offset
  pub high : offset ≤ u.at + length u.pending

-- n bytes from a place on go into the run, or begin one, and it stays below the capacity
abbrev pub StaysBelow : WriteBuffer → ℕ → ℕ → Type 0
StaysBelow u offset n = (Joins u offset × (max (length u.pending) (offset - u.at + n) < u.capacity)) ⊎ ((is_idle u ≡ true) × (n < u.capacity))

-- What the run holds after bytes were put at a place: what it held with these bytes over it or behind it, where the place joins it;
-- or these bytes alone; or nothing, once it was flushed.
abbrev pub HoldsOnly : WriteBuffer → ℕ → List ℕ → WriteBuffer → Type 0
HoldsOnly u offset bytes r = (Joins u offset × (r.at ≡ u.at) × (r.pending ≡ written u.pending (offset - u.at) bytes)) ⊎ (((r.at ≡ offset) × (r.pending ≡ bytes)) ⊎ (r.pending ≡ []))

-- it with bytes put into its run, from a place in it or at its end
abbrev pub with_bytes_put : WriteBuffer → ℕ → List ℕ → WriteBuffer
with_bytes_put u offset bytes = record u { pending = written u.pending (offset - u.at) bytes }

-- it with the run's part below n alone
abbrev pub short_run : WriteBuffer → ℕ → WriteBuffer
short_run u n = record u { at = min u.at n; pending = take (n - min u.at n) u.pending }

-- n bytes from a place on lie in the run, which may be none at its end
abbrev pub LiesInRun : WriteBuffer → ℕ → ℕ → Type 0
LiesInRun u offset n = (u.at ≤ offset) × (offset + n ≤ u.at + length u.pending)

-- all of n bytes from a place on are in the run
abbrev pub AllPending : WriteBuffer → ℕ → ℕ → Type 0
AllPending u offset n = (i : ℕ) → Within offset n i → Within u.at (length u.pending) i

-- The buffer stands over this blob: the bytes that it counts as settled outlive every crash, and it knows where all have settled.
-- The blob reads as a content that it has had, since a call that failed gives the buffer up.
pub record Over (u : WriteBuffer) (b : Blob) : Type 0 where
  pub lasts : Lasts u.settled b
  pub clean : u.dirty ≡ false → b ≡ settled_at b.content
  pub had : IsHad b

-- All of the first `settled` bytes, as the buffer means them, outlive every crash, and the run has none of them. A sync makes it so,
-- and it stays so while bytes are only written behind them.
pub record KeepsSettled (u : WriteBuffer) (b : Blob) : Type 0 where
  pub long : u.settled ≤ length b.content
  pub keeps : Keeps (take u.settled (bytes_of u b.content)) b
  pub apart : (i : ℕ) → i < u.settled → Outside (run_of u ∷ []) i
