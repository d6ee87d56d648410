-- One command of a run, and how a run ended by what its function answered.
use Rattle.std.specs.Prelude.{◌≡◌, ◌⊎◌, ℕ, List, [], ◌∷◌, ◌++◌, Result, Ok, Err}
use Rattle.blob_device.specs.declared.device.Device as device
use Rattle.archives.specs.Changes.{Asked, Replied}
use Rattle.archives.specs.declared.error.Error.{Error}
use Rattle.archives.specs.declared.error.Error.TheVariants.{Mem}
use Rattle.archive_service.specs.StoreCalls.{Answers, Serving}
use Rattle.archive_service.specs.declared.replies.End.{End}
use Rattle.archive_service.specs.declared.replies.End.TheVariants.{Done, Failed}

-- how a run ended, by what its function answered
abbrev pub end_of : Result Unit Error → End
end_of (Ok done) = Done
end_of (Err e) = Failed e

-- The answer's reply goes last among those so far, unless there is no memory for it.
abbrev pub KeepsReply : {A : Type 0} → Result (A × Replied) Error → Result A Error → List Replied
    → List Replied → Type 0
KeepsReply (Ok r) result old new = ((result ≡ Ok r.0) × (new ≡ old ++ r.1 ∷ [])) ⊎ ((result ≡ Err Mem) × (new ≡ old))
KeepsReply (Err e) result old new = (result ≡ Err e) × (new ≡ old)

-- A command of the run was served to the store a: there was no memory for its mark, and nothing was done; or its mark
-- goes last among those so far, it was answered, and its reply was kept.
pub data ServesOne {A V D : Type 0} (s : Serving A V) (dev : device.Ghosts D) (a : A) (command : Asked)
    (result : Result A Error) (old new : D)
    (marks_old marks_new : List ℕ) (replies_old replies_new : List Replied) : Type 0 where
  unmarked : result ≡ Err Mem → new ≡ old → marks_new ≡ marks_old → replies_new ≡ replies_old
      → ServesOne s dev a command result old new marks_old marks_new replies_old replies_new
  marked : marks_new ≡ marks_old ++ (dev.time old).calls ∷ [] → (answer : Result (A × Replied) Error)
      → Answers s dev a command answer old new
      → KeepsReply answer result replies_old replies_new
      → ServesOne s dev a command result old new marks_old marks_new replies_old replies_new
