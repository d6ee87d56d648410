-- The numbers of the ends of a call of the program.
use Rattle.std.specs.Prelude.{◌≡◌, ℕ, [], None}
use Rattle.archive_service.specs.declared.ended.Ended.{Ended}
use Rattle.archive_service.specs.declared.ended.Status.{Status}
use Rattle.archive_service.specs.declared.ended.Status.TheVariants.{Done, Usage, BadScript, ReadFault, WriteFault, StoreError, NoMemory, TooLong}

-- the status of the process
abbrev pub code_of : Status → ℕ
code_of Done = 0
code_of Usage = 1
code_of BadScript = 2
code_of ReadFault = 3
code_of WriteFault = 4
code_of StoreError = 5
code_of NoMemory = 6
code_of TooLong = 7

-- a call ended so, and served no command
pub record EndsUnserved (as_this : Status) (ended : Ended) : Type 0 where
  -- with this status
  pub status : ended.status ≡ code_of as_this
  -- no command was begun
  pub marks : ended.marks ≡ []
  -- no error is handed out
  pub error : ended.error ≡ None
