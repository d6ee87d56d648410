-- How an input was answered: what is to be written, and how the program then ends. It serves the proof of `Runs`.
use Rattle.std.specs.Prelude.{◌≡◌, ◌⊎◌, ℕ, ◌≤◌, List, [], Option, Some, None, IfSome}
use Rattle.blob_device.specs.Counts.{Rose}
use Rattle.blob_device.specs.declared.device.Device as device
use Rattle.archives.specs.Replies.{Reply}
use Rattle.archives.specs.declared.error.Error.{Error}
use Rattle.archives.specs.declared.error.Error.TheVariants.{Mem}
use Rattle.archives.specs.Refusing.{IsFault}
use Rattle.archive_service.specs.Texts.{Spelled, bad_line_text}
use Rattle.archive_service.specs.declared.ended.Ended.{Ended}
use Rattle.archive_service.specs.declared.replies.End.{End}
use Rattle.archive_service.specs.declared.replies.End.TheVariants.{Done, Failed}
use Rattle.archive_program.specs.Words.{Job, Script}
use Rattle.archive_service.specs.declared.settings.Settings.{Settings}
use Rattle.archive_program.specs.Program.{IsBadAt, Orders, ServedBy, error_of, owed}

-- the status that belongs to it, where all of the text is written
abbrev pub status_of : End → ℕ
status_of Done = 0
status_of (Failed Mem) = 6
status_of (Failed e) = 5

-- A script was served, with marks, replies and an end; or there was no memory before, and nothing was done.
abbrev pub ServesScript : {D : Type 0} → Settings → ℕ → device.Ghosts D → D → D → List Spelled
    → Option (List ℕ × List (Reply (List ℕ)) × End) → Type 0
ServesScript settings items dev old new commands (Some (marks, replies, end)) =
    ServedBy settings (Script items) dev old new marks commands replies end
ServesScript settings items dev old new commands None = new ≡ old

-- there was no memory before a command was served
pub record HasNoMemory (ended : Ended) (text : List ℕ) : Type 0 where
  -- the status says so
  pub status : ended.status ≡ 6
  -- no command was begun
  pub marks : ended.marks ≡ []
  -- no error is handed out
  pub error : ended.error ≡ None
  -- nothing is to be written
  pub nothing : text ≡ []

-- this text and this status; or nothing, and no memory
pub record EndsWith (wanted : List ℕ) (code : ℕ) (when : List ℕ) (failure : Option Error) (ended : Ended)
    (text : List ℕ) : Type 0 where
  -- these are its marks
  pub marks : ended.marks ≡ when
  -- this is its error
  pub error : ended.error ≡ failure
  -- the text, or no memory for it
  pub written : ((ended.status ≡ code) × (text ≡ wanted)) ⊎ ((ended.status ≡ 6) × (text ≡ []))

-- the commands were served, and this is their answer
pub record AnswersCommands (job : Job) (Served : List Spelled → List (Reply (List ℕ)) → End → Type 0)
    (commands : List Spelled) (ended : Ended) (text : List ℕ) : Type 0 where
  -- they got these replies
  pub replies : List (Reply (List ℕ))
  -- this was the end
  pub end : End
  -- so they were served
  pub served : Served commands replies end
  -- the error of the end is handed out
  pub error : ended.error ≡ error_of end
  -- and this is the text, or there was no memory for it
  pub written : ((ended.status ≡ status_of end) × (text ≡ owed job replies end))
      ⊎ ((ended.status ≡ 6) × (text ≡ []))

-- How an input was answered: there was no memory, its first bad line is named, or its commands were served.
pub data AnswerOf (job : Job) (max : ℕ) (Served : List Spelled → List (Reply (List ℕ)) → End → Type 0)
    (Untouched : Type 0) (input : List ℕ) (ended : Ended) (text : List ℕ) : Type 0 where
  no_memory : Untouched → HasNoMemory ended text → AnswerOf job max Served Untouched input ended text
  bad_line : Untouched → (number : ℕ) → IsBadAt job max input number
      → EndsWith (bad_line_text number) 2 [] None ended text → AnswerOf job max Served Untouched input ended text
  served : (commands : List Spelled) → Orders job max input commands → AnswersCommands job Served commands ended text
      → AnswerOf job max Served Untouched input ended text

-- The answer to a whole input, with the device once as it was and once as it is.
pub record AnswersWhole {D : Type 0} (settings : Settings) (job : Job) (dev : device.Ghosts D) (old new : D)
    (input : List ℕ) (ended : Ended) (text : List ℕ) : Type 0 where
  -- what is answered
  pub answer :
      AnswerOf job settings.max_value (ServedBy settings job dev old new ended.marks) (new ≡ old) input ended text
  -- a fault is the device's
  pub fault : IfSome ended.error (λ e. IsFault e → Rose (dev.faults old) (dev.faults new))
  -- its count never falls
  pub faults : dev.faults old ≤ dev.faults new

-- The answer to commands: they were served, or there was no memory before.
pub record AnswersServed {D : Type 0} (settings : Settings) (job : Job) (dev : device.Ghosts D) (old new : D)
    (commands : List Spelled) (ended : Ended) (text : List ℕ) : Type 0 where
  -- what is answered
  pub answer : ((new ≡ old) × HasNoMemory ended text)
      ⊎ AnswersCommands job (ServedBy settings job dev old new ended.marks) commands ended text
  -- a fault is the device's
  pub fault : IfSome ended.error (λ e. IsFault e → Rose (dev.faults old) (dev.faults new))
  -- its count never falls
  pub faults : dev.faults old ≤ dev.faults new
