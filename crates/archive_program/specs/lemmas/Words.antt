-- Which status a run may end with, for the words of its call.
use Rattle.std.specs.Prelude.{IsSome}
use Rattle.std.proofs.Common.{◌≡◌, inl, inr, ℕ, nat_eq, ◌≤◌, List, Some, refl, sym, subst, arith}
use Rattle.std.proofs.lemmas.Bool.{cases_Bool, eqb-false, eqb-true}
use Rattle.archive_program.specs.Words.{AreOfNoForm, AsksFor, Job}
use Rattle.archive_program.specs.WordsSeen.{IsStatusFor, IsStatusIn, folder_in}

module _ (words : List (List ℕ)) (status : ℕ) where
  pub status_for : status ≤ 7 → (status ≡ 1 → AreOfNoForm words) → ((status ≡ 1 → ⊥) → (job : Job) × AsksFor words job) → IsStatusFor words status
  status_for known usage asked = record { known = known; usage = usage; form = form }
    where
      form : AreOfNoForm words → status ≡ 1
      form none = elim (cases_Bool (nat_eq status 1)) as (λ _. status ≡ 1) [
        | inl same ↦ eqb-true status 1 same
        | inr other ↦ (let job = asked (eqb-false status 1 other) in absurd (none job.0 job.1))
      ]

  pub status_in : IsStatusFor words status → IsStatusIn words status
  status_in is = record { known = is.known; usage = is.usage; form = λ none. inl (is.form none) }

  -- there was no memory for the device of a folder
  pub no_memory_in : (folder : List ℕ) → folder_in words ≡ Some folder → status ≡ 6 → IsStatusIn words status
  no_memory_in folder named six = record {
    known = omega (arith, six);
    usage = λ one. absurd (omega (arith, one, six));
    form = λ none. inr (six, subst IsSome (sym named) refl);
  }
