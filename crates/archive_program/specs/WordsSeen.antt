-- What looking at the words finds, and which status it has.
use Rattle.std.specs.Prelude.{◌≡◌, ◌⊎◌, ℕ, ◌≤◌, ◌||◌, if◌then◌else◌, List, [], ◌∷◌, Option, Some, None, IsSome, codes}
use Rattle.std.specs.Str.{bytes_eq}
use Rattle.archive_program.specs.declared.words.Job as declared
use Rattle.archive_program.specs.declared.words.Job.TheVariants as job
use Rattle.archive_program.specs.Words.{AreOfNoForm, AsksFor, Job, Make, Script}

abbrev pub job_seen : declared.Job → Job
job_seen (job.Script items) = Script items
job_seen (job.Make items count) = Make items count

-- what looking for a job finds: it, or that the words ask for none
abbrev pub FindsJob : List (List ℕ) → Option declared.Job → Type 0
FindsJob words (Some found) = AsksFor words (job_seen found)
FindsJob words None = AreOfNoForm words

-- the folder that keeps the archive: the first word, but none where there is none, or where it is empty or `-`, which
-- is memory
abbrev pub folder_in : List (List ℕ) → Option (List ℕ)
folder_in [] = None
folder_in (word ∷ words) = if bytes_eq word [] || bytes_eq word (codes "-") then None else Some word

-- The status of a call with these words: 1 exactly where they are of no form.
pub record IsStatusFor (words : List (List ℕ)) (status : ℕ) : Type 0 where
  -- it is one of the table
  pub known : status ≤ 7
  -- 1 only where they are of no form
  pub usage : status ≡ 1 → AreOfNoForm words
  -- and then 1
  pub form : AreOfNoForm words → status ≡ 1

-- The same of one that makes a device first: where the words name a folder there may be no memory for it.
pub record IsStatusIn (words : List (List ℕ)) (status : ℕ) : Type 0 where
  -- it is one of the table
  pub known : status ≤ 7
  -- 1 only where they are of no form
  pub usage : status ≡ 1 → AreOfNoForm words
  -- and then 1, or no memory
  pub form : AreOfNoForm words → (status ≡ 1) ⊎ ((status ≡ 6) × IsSome (folder_in words))

-- the words ask what the program is
abbrev pub IsQuestion : List (List ℕ) → Type 0
IsQuestion words = (words ≡ codes "--help" ∷ []) ⊎ ((words ≡ codes "-h" ∷ []) ⊎ (words ≡ codes "--version" ∷ []))

-- The status of the process by its words: of a question it is 0, or 4 where the answer was not written.
pub record IsStatusOf (words : List (List ℕ)) (status : ℕ) : Type 0 where
  -- it is one of the table
  pub known : status ≤ 7
  -- that of a question
  pub asked : IsQuestion words → (status ≡ 0) ⊎ (status ≡ 4)
  -- that of a call of the program
  pub served : (IsQuestion words → ⊥) → IsStatusIn words status
