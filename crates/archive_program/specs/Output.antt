-- How much of a text was written.
use Rattle.std.specs.Prelude.{◌≡◌, ℕ, List, [], ◌++◌, Result, IsOk, OnOk}
use Rattle.std.specs.Result.{IsErrOf}
use Rattle.blob_device.specs.Counts.{Rose}
use Rattle.blob_device.specs.declared.io_fault.IoFault.{IoFault}
use Rattle.blob_device.specs.declared.io_fault.IoFault.TheVariants.{Fault}
use Rattle.blob_device.specs.declared.sink.Sink as sink

-- a prefix of the text was written, and behind an Ok all of it
pub record WritesPrefix {T : Type 0} (result : Result T IoFault) (old new text : List ℕ) : Type 0 where
  -- this was written
  pub written : List ℕ
  -- this was not
  pub rest : List ℕ
  -- they are the text
  pub prefix : text ≡ written ++ rest
  -- so much did the sink take
  pub taken : new ≡ old ++ written
  -- behind an Ok there is no rest
  pub whole : OnOk result (rest ≡ [])

-- A text was written to a sink, once as it was and once as it is.
pub record WritesOutput {W : Type 0} (out : sink.Ghosts W) (result : Result Unit IoFault) (old new : W)
    (text : List ℕ) : Type 0 where
  -- a fault is the sink's
  pub cause : IsErrOf result Fault → Rose (out.faults old) (out.faults new)
  -- for an empty text nothing is done
  pub nothing : text ≡ [] → IsOk result × (new ≡ old)
  -- so much of the text was written
  pub told : out.Tells → WritesPrefix result (out.taken old) (out.taken new) text
