-- A read of a buffer over a blob without seals that is refused: no call of the device is made.
use Rattle.std.proofs.Common.{◌≡◌, ◌⊎◌, ◌↔◌, ℕ, ◌+◌, ◌^◌, ◌<◌, ◌≤◌, List, length, Result, Err, IsErr, OnErr, refl, arith}
use Rattle.std.specs.Result.{IsErrOf}
use Rattle.blob_device.specs.declared.device.Device as device
use Rattle.blob_device.specs.declared.runtime.RError.{RError}
use Rattle.blob_device.specs.declared.runtime.RError.TheVariants.{BlobInsufficientLength, OffsetOverflow}
use Rattle.sealed_pages.specs.Calls.{FailsBelow}
use Rattle.sealed_pages.specs.unsealed.RunCalls.{ReadsAt}
use Rattle.sealed_pages.specs.unsealed.Writing.{WriteBuffer, size_of}
use Rattle.sealed_pages.specs.lemmas.looking.Looking.{unchanged_start}
use Rattle.sealed_pages.proofs.cutting.Truncating.{no_value}

pub read_refused : {D T : Type 0} (dev : device.Ghosts D) (u : WriteBuffer) (offset : ℕ) (room got : List ℕ) (d : D) (r : Result T RError) → IsErr r
    → (IsErrOf r OffsetOverflow ↔ 2 ^ 64 ≤ offset + length room)
    → (IsErrOf r BlobInsufficientLength ↔ ((offset + length room < 2 ^ 64) × (size_of u < offset + length room)))
    → OnErr r ((r ≡ Err OffsetOverflow) ⊎ ((r ≡ Err BlobInsufficientLength) ⊎ FailsBelow dev r d d)) → ReadsAt dev u d d offset room got r
read_refused dev u offset room got d r failed overflow short cause = record {
  bytes = λ t. no_value _ r failed;
  unchanged = λ t. unchanged_start (dev.time d);
  reads = record { others = λ q other. refl; length = λ len is. is; reads = omega arith };
  held = λ held. refl;
  overflow = overflow;
  short = short;
  refused = λ over. refl;
  faults = omega arith;
  cause = cause;
}
