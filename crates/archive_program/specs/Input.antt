-- How much of an input was taken.
use Rattle.std.specs.Prelude.{◌≡◌, ℕ, ◌+◌, ◌^◌, ◌≤◌, ◌<◌, Bool, true, false, List, [], ◌++◌, length, Result, Ok, Err, OnOk, IfOk}
use Rattle.blob_device.specs.Counts.{Rose}
use Rattle.blob_device.specs.declared.source.Source as source
use Rattle.archive_program.specs.declared.input.InputError.{InputError}
use Rattle.archive_program.specs.declared.input.InputError.TheVariants.{Fault, TooLong, Mem}
use Rattle.archive_program.specs.Taking.{TakesPrefix}

-- a fault is answered only where the source's count of faults rose
abbrev pub IsInputCause : ℕ → ℕ → InputError → Type 0
IsInputCause old new Fault = Rose old new
IsInputCause old new TooLong = Unit {0}
IsInputCause old new Mem = Unit {0}

-- the input was read to its end, and is no longer than an input may be
pub record TakesAll (old new bytes : List ℕ) : Type 0 where
  -- it is all that was left
  pub all : old ≡ bytes
  -- nothing is left behind it
  pub rest : new ≡ []
  -- it is no longer than an input may be
  pub limit : length bytes ≤ 2 ^ 24

-- a piece of what was left was taken, and added to the bytes where there was memory; it is empty only at the end
pub record TakesPiece (result : Result Bool InputError) (old new bytes_old bytes_new : List ℕ) : Type 0 where
  -- this is the piece
  pub piece : List ℕ
  -- it stood in front of what is left
  pub rest : old ≡ piece ++ new
  -- with it no more than one byte passes the limit
  pub within : length bytes_old + length piece ≤ 2 ^ 24 + 1
  -- it goes last among the bytes
  pub added : OnOk result (bytes_new ≡ bytes_old ++ piece)
  -- where the source failed nothing was taken
  pub failed : result ≡ Err Fault → piece ≡ []
  -- where there is no more nothing was left
  pub ended : IfOk result (λ more. more ≡ false → (old ≡ []) × (new ≡ []) × (bytes_new ≡ bytes_old))

-- Bytes were added, by one reading: some where there are more to come, and none at the end. So far they are within the
-- limit, but for one byte that tells that it is passed, and that is not said here.
pub record AddsBytes (result : Result Bool InputError) (before now : ℕ) : Type 0 where
  -- some, where there are more
  pub grows : IfOk result (λ more. more ≡ true → before < now)
  -- none, where there are not
  pub ended : IfOk result (λ more. more ≡ false → now ≡ before)
  -- no more than one byte passes the limit
  pub bound : now ≤ 2 ^ 24 + 1
  -- that it is passed is not said here
  pub in_limit : ¬ (result ≡ Err TooLong)

-- ---- a whole input

-- By its source, once as it was and once as it is.
module _ {S : Type 0} (input : source.Ghosts S) (old new : S) where
  -- It was read to its end.
  pub record IsRead (bytes : List ℕ) : Type 0 where
    -- these bytes are all that was left
    pub whole : input.Tells → TakesAll (input.left old) (input.left new) bytes
    -- they are no more than an input may have
    pub limit : length bytes ≤ 2 ^ 24

  -- It was not.
  pub record IsNotRead (e : InputError) : Type 0 where
    -- a fault is the source's
    pub cause : IsInputCause (input.faults old) (input.faults new) e
    -- before it no more was taken than an input may have
    pub within : input.Tells → e ≡ Fault → TakesPrefix (input.left old) (input.left new) (λ n. n ≤ 2 ^ 24)
    -- of an input that is too long one byte more was taken
    pub too_long : input.Tells → e ≡ TooLong → TakesPrefix (input.left old) (input.left new) (λ n. n ≡ 2 ^ 24 + 1)

  abbrev pub ReadEnds : Result (List ℕ) InputError → Type 0
  ReadEnds (Ok bytes) = IsRead bytes
  ReadEnds (Err e) = IsNotRead e

  -- An input was read, or not.
  pub record ReadsInput (result : Result (List ℕ) InputError) : Type 0 where
    -- at most one byte more was taken than an input may have
    pub at_most : input.Tells → TakesPrefix (input.left old) (input.left new) (λ n. n ≤ 2 ^ 24 + 1)
    -- how it ended
    pub ends : ReadEnds result
