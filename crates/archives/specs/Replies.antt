-- What an archive may reply. A value is what V is.
use Rattle.std.specs.Prelude.{ℕ, Bool, List, Option}

pub data Reply (V : Type 0) : Type 0 where
  -- the command was carried out
  Done : Reply V
  -- the value that was asked for, if any
  Value : Option V → Reply V
  -- all values that were asked for, if any
  Values : Option (List V) → Reply V
  -- the answer to a test
  Flag : Bool → Reply V
  -- the end of a run, and the start of the next, each if any
  Gap : Option ℕ → Option ℕ → Reply V
  -- numbers, and runs of numbers from first to last
  Items : List ℕ → Reply V
  Ranges : List (ℕ × ℕ) → Reply V
  -- the index that was asked for, if any
  Index : Option ℕ → Reply V
  -- the archive is of a kind that does not carry out such a command
  Unsupported : Reply V
  -- the archive was destroyed, and not opened since
  Closed : Reply V
