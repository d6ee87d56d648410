-- What the calls of a map leave of the list of opened blobs, and the answers that say nothing of the map.
use Rattle.std.specs.Prelude.{◌≡◌, ◌≢◌, ◌⊎◌, ℕ, zero, suc, List, Result, Ok, Err, IsSome}
use Rattle.blob_device.specs.Disk.{Key}
use Rattle.blob_device.specs.Opened.{OpenedList, reads_of, updated, one_more_read}
use Rattle.blob_device.specs.Counts.{Rose, next}
use Rattle.blob_device.specs.declared.runtime.RError.TheVariants.{Fault}
use Rattle.meta_store.specs.declared.error.Error.{Error}
use Rattle.meta_store.specs.declared.error.Error.TheVariants.{Runtime, Mem}
use Rattle.meta_store.specs.declared.error.Side.TheVariants.{Left, Right}
use Rattle.meta_store.specs.Blobs.{blob_of}

-- both blobs are opened
pub record IsOpened (partition : List ℕ) (opened : OpenedList) : Type 0 where
  pub left : IsSome (opened (blob_of partition Left))
  pub right : IsSome (opened (blob_of partition Right))

-- the entry of every other blob in the list of opened blobs stays
abbrev pub OthersOpened : List ℕ → OpenedList → OpenedList → Type 0
OthersOpened partition old new = (q : Key) → q ≢ blob_of partition Left → q ≢ blob_of partition Right → new q ≡ old q

-- no read of the two blobs began
pub record NoReads (partition : List ℕ) (old new : OpenedList) : Type 0 where
  pub left : reads_of (new (blob_of partition Left)) ≡ reads_of (old (blob_of partition Left))
  pub right : reads_of (new (blob_of partition Right)) ≡ reads_of (old (blob_of partition Right))

-- no read of this blob began, or one did
abbrev pub ReadAtMostOnce : Key → OpenedList → OpenedList → Type 0
ReadAtMostOnce k old new = (reads_of (new k) ≡ reads_of (old k)) ⊎ (reads_of (new k) ≡ next (reads_of (old k)))

-- and nothing else happened to the list
abbrev pub MayRead : Key → OpenedList → OpenedList → Type 0
MayRead k old new = (new ≡ old) ⊎ (new ≡ updated old k one_more_read)

-- the two errors that say nothing of the map: want of memory, and a fault of the device, whose count rose
abbrev pub IsFailure : ℕ → ℕ → Error → Type 0
IsFailure before now e = (e ≡ Mem) ⊎ ((e ≡ Runtime Fault) × Rose before now)

-- one of them was answered
abbrev pub GaveUp : {T : Type 0} → Result T Error → ℕ → ℕ → Type 0
GaveUp result before now = (result ≡ Err Mem) ⊎ ((result ≡ Err (Runtime Fault)) × Rose before now)

-- an outcome, as what is seen of its value
abbrev pub outcome : {T U E : Type 0} → (T → U) → Result T E → Result U E
outcome see (Ok x) = Ok (see x)
outcome see (Err e) = Err e

-- the device was called no more often than this
abbrev pub CalledAtMost : ℕ → ℕ → ℕ → Type 0
CalledAtMost zero before now = now ≡ before
CalledAtMost (suc n) before now = (now ≡ before) ⊎ CalledAtMost n (next before) now
