-- What one call of a source or a sink does.
use Rattle.std.specs.Prelude.{◌≡◌, ℕ, ◌≤◌, Bool, true, false, List, [], ◌++◌, take, Result, MatchResult, Option, Some, None}
use Rattle.std.specs.Result.{IsErrOf}
use Rattle.blob_device.specs.declared.io_fault.IoFault.{IoFault}
use Rattle.blob_device.specs.declared.io_fault.IoFault.TheVariants.{Fault, Mem}
use Rattle.blob_device.specs.Counts.{Rose}

-- the count of faults never falls, and a fault is answered only where it rose
pub record Faulted {T : Type 0} (result : Result T IoFault) (old new : ℕ) : Type 0 where
  pub later : old ≤ new
  pub cause : IsErrOf result Fault → Rose old new

-- a stream answers a fault, and not want of memory
abbrev pub is_stream_fault : IoFault → Bool
is_stream_fault Fault = true
is_stream_fault Mem = false

-- the first of the bytes that were left are in the buffer, none of them only where none was left; after an Err all are left
abbrev pub HasRead : Result ℕ IoFault → List ℕ → List ℕ → List ℕ → Type 0
HasRead result old new buf = MatchResult result (λ n. (old ≡ take n buf ++ new) × (n ≡ 0 → old ≡ [])) (λ e. new ≡ old)

-- the first of the bytes were added to those taken; after an Err none was
abbrev pub HasWritten : Result ℕ IoFault → List ℕ → List ℕ → List ℕ → Type 0
HasWritten result old new bytes = MatchResult result (λ n. new ≡ old ++ take n bytes) (λ e. new ≡ old)

-- the bytes that a stream of std holds, where they are known
abbrev pub known : Option (List ℕ) → List ℕ
known None = []
known (Some bytes) = bytes
