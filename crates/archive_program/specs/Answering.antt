-- How a job is answered before anything is written.
use Rattle.std.specs.Prelude.{◌≡◌, ⊤, ℕ, ◌+◌, ◌^◌, ◌≤◌, List, Result, Ok, Err}
use Rattle.blob_device.specs.Counts.{Rose}
use Rattle.blob_device.specs.declared.device.Device as device
use Rattle.blob_device.specs.declared.source.Source as source
use Rattle.archive_service.specs.declared.ended.Ended.{Ended}
use Rattle.archive_service.specs.declared.ended.Status.{Status}
use Rattle.archive_service.specs.declared.ended.Status.TheVariants.{NoMemory, ReadFault, TooLong}
use Rattle.archive_service.specs.declared.settings.Settings.{Settings}
use Rattle.archive_program.specs.Taking.{TakesPrefix}
use Rattle.archive_program.specs.Program.{Reads, ReadsFor}
use Rattle.archive_program.specs.Answered.{AnswersWhole}
use Rattle.archive_program.specs.Words.{Job, Make, Script}

-- a section has room for some index, as words ask for it
abbrev pub MayBeDone : Job → Type 0
MayBeDone (Script items) = 1 ≤ items
MayBeDone (Make items count) = 1 ≤ items

module _ {D S : Type 0} (settings : Settings) (job : Job) (dev : device.Ghosts D) (old new : D)
    (input : source.Ghosts S) (input_old input_new : S) where
  -- the input was read as the job asks, and answered
  pub record IsAnswered (ended : Ended) (text : List ℕ) : Type 0 where
    -- this is the input
    pub bytes : List ℕ
    -- so it was read
    pub read : ReadsFor job (input_new ≡ input_old) input.Tells (input.left input_old)
        (input.left input_new) bytes
    -- this is its answer
    pub answer : AnswersWhole settings job dev old new bytes ended text

  -- why there is no answer
  abbrev pub IsUnread : Status → Type 0
  IsUnread ReadFault = Rose (input.faults input_old) (input.faults input_new)
      × (input.Tells → TakesPrefix (input.left input_old) (input.left input_new) (λ n. n ≤ 2 ^ 24))
  IsUnread TooLong = input.Tells
      → TakesPrefix (input.left input_old) (input.left input_new) (λ n. n ≡ 2 ^ 24 + 1)
  IsUnread NoMemory = ⊤
  IsUnread status = ⊥

  -- no more is taken than one byte more than an input may have
  abbrev pub TakesAtMost : Type 0
  TakesAtMost = input.Tells
      → TakesPrefix (input.left input_old) (input.left input_new) (λ n. n ≤ 2 ^ 24 + 1)

  -- The job was answered; or it reads an input, which was not read whole, and nothing was done.
  abbrev pub AnswersTo : Result (Ended × List ℕ) Status → Type 0
  AnswersTo (Ok answer) = IsAnswered answer.0 answer.1 × TakesAtMost
  AnswersTo (Err status) = Reads job × IsUnread status × (new ≡ old) × TakesAtMost
