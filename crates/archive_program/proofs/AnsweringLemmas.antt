-- What answers a job: its input is read and answered, or not read; or its script is generated.
use Rattle.std.proofs.Common.{◌≡◌, ℕ, List, [], length, Result, Ok, Err, refl, sym, ap, subst, ◌∙◌, arith}
use Rattle.blob_device.specs.declared.device.Device as device
use Rattle.blob_device.specs.declared.source.Source as source
use Rattle.archive_service.specs.declared.ended.Ended.{Ended}
use Rattle.archive_service.specs.declared.ended.Status.{Status}
use Rattle.archive_service.specs.declared.ended.Status.TheVariants as status
use Rattle.archive_service.specs.declared.settings.Settings.{Settings}
use Rattle.archive_program.specs.Answering.{AnswersTo}
use Rattle.archive_program.specs.Input.{ReadsInput}
use Rattle.archive_program.specs.Answered.{AnswersWhole}
use Rattle.archive_program.specs.Words.{Make, Script}
use Rattle.archive_program.specs.WordsSeen.{job_seen}
use Rattle.archive_program.specs.declared.input.InputError.{InputError}
use Rattle.archive_program.specs.declared.input.InputError.TheVariants.{Fault, TooLong, Mem}
use Rattle.archive_program.specs.declared.words.Job.{Job}

-- the status of a call whose input was not read
abbrev pub status_for : InputError → Status
status_for Fault = status.ReadFault
status_for TooLong = status.TooLong
status_for Mem = status.NoMemory

module _ {D S : Type 0} (settings : Settings) (dev : device.Ghosts D) (old new : D) (input : source.Ghosts S) (input_old input_new : S) where
  -- of a job that is known
  pub answers_as : (job known : Job) (result : Result (Ended × List ℕ) Status) → job ≡ known
      → AnswersTo settings (job_seen known) dev old new input input_old input_new result → AnswersTo settings (job_seen job) dev old new input input_old input_new result
  answers_as job known result is answers = subst (λ (j : Job). AnswersTo settings (job_seen j) dev old new input input_old input_new result) (sym is) answers

  -- the input was read, and handed on
  pub read_answers : (items : ℕ) (bytes handed : List ℕ) (ended : Ended) (text : List ℕ) → handed ≡ bytes → ReadsInput input input_old input_new (Ok bytes)
      → AnswersWhole settings (Script items) dev old new handed ended text → AnswersTo settings (Script items) dev old new input input_old input_new (Ok (ended, text))
  read_answers items bytes handed ended text same read answer = (
    record {
      bytes = handed;
      read = record { read = λ s. (let all = read.ends.whole s in (all.all ∙ sym same, all.rest)); limit = omega (arith, ap length same, read.ends.limit) };
      answer = answer;
    },
    read.at_most,
  )

  -- it was not
  pub unread_answers : (items : ℕ) (e known : InputError) → e ≡ known → new ≡ old → ReadsInput input input_old input_new (Err e)
      → AnswersTo settings (Script items) dev old new input input_old input_new (Err (status_for known))
  unread_answers items e known is same unread = by_cause known (subst (λ (x : InputError). ReadsInput input input_old input_new (Err x)) is unread)
    where
      by_cause : (x : InputError) → ReadsInput input input_old input_new (Err x) → AnswersTo settings (Script items) dev old new input input_old input_new (Err (status_for x))
      by_cause Fault not_read = (tt, (not_read.ends.cause, λ s. not_read.ends.within s refl), same, not_read.at_most)
      by_cause TooLong not_read = (tt, (λ s. not_read.ends.too_long s refl), same, not_read.at_most)
      by_cause Mem not_read = (tt, tt, same, not_read.at_most)

  -- a script was generated, and no input read
  pub made_answers : (items count : ℕ) (ended : Ended) (text : List ℕ) → input_new ≡ input_old → AnswersWhole settings (Make items count) dev old new [] ended text
      → AnswersTo settings (Make items count) dev old new input input_old input_new (Ok (ended, text))
  made_answers items count ended text unread answer = (
    record { bytes = []; read = (unread, refl); answer = answer },
    λ s. record { taken = []; number = omega arith; rest = ap (λ (x : S). input.left x) (sym unread) },
  )
