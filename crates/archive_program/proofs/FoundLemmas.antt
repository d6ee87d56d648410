-- What the answer to an input is, by its status.
use Rattle.std.specs.Prelude.{Option, None, IsSome}
use Rattle.std.proofs.Common.{◌≡◌, inl, inr, ℕ, List, [], ◌++◌, refl, sym, ap, subst, ◌∙◌, append-nil}
use Rattle.archives.specs.Replies.{Reply}
use Rattle.archives.specs.declared.error.Error.{Error}
use Rattle.archives.specs.declared.error.Error.TheVariants.{Mem}
use Rattle.archive_service.specs.Texts.{Spelled, bad_line_text}
use Rattle.archive_service.specs.declared.ended.Ended.{Ended}
use Rattle.archive_service.specs.declared.replies.End.{End}
use Rattle.archive_service.specs.declared.replies.End.TheVariants.{Done, Failed}
use Rattle.archive_program.specs.Program.{AnswersInput, AnswersScript, NamesBadLine, Orders, error_of, owed}
use Rattle.archive_program.specs.Answered.{AnswerOf, bad_line, no_memory, served, status_of}
use Rattle.archive_program.specs.Words.{Job}

-- The text is all of what is to be written, but for a status 6: then it is a prefix of that, or nothing is known of it.
pub data Found (job : Job) (max : ℕ) (Served : List Spelled → List (Reply (List ℕ)) → End → Type 0) (Unserved : Type 0) (error : Option Error) (input text : List ℕ) (status : ℕ) : Type 0 where
  none : status ≡ 6 → Unserved → text ≡ [] → Found job max Served Unserved error input text status
  bad : status ≡ 2 → Unserved → NamesBadLine job max input text → Found job max Served Unserved error input text status
  whole : status ≡ 0 → error ≡ None → AnswersScript max Served job (λ end. end ≡ Done) input text → Found job max Served Unserved error input text status
  failed : status ≡ 5 → IsSome error → AnswersScript max Served job (λ end. error ≡ error_of end) input text → Found job max Served Unserved error input text status
  short : status ≡ 6 → (wanted rest : List ℕ) → AnswersInput job max Served error Unserved input wanted → wanted ≡ text ++ rest → Found job max Served Unserved error input text status

module _ (job : Job) (max : ℕ) (Before Served : List Spelled → List (Reply (List ℕ)) → End → Type 0) (Untouched Unserved : Type 0) (error : Option Error) (input text : List ℕ) (before : Ended)
    (moves : (commands : List Spelled) (replies : List (Reply (List ℕ))) (end : End) → Before commands replies end → Served commands replies end)
    (same : before.error ≡ error) (is_unserved : Untouched → before.marks ≡ [] → before.error ≡ None → Unserved) where
  found_script : (commands : List Spelled) → Orders job max input commands → (replies : List (Reply (List ℕ))) (end : End) → Served commands replies end → error ≡ error_of end
      → before.status ≡ status_of end → text ≡ owed job replies end → Found job max Served Unserved error input text before.status
  found_script commands ordered replies Done so is status text_is =
      whole status is (record { commands = commands; ordered = ordered; replies = replies; end = Done; served = so; ended = refl; text_is = text_is })
  found_script commands ordered replies (Failed Mem) so is status text_is =
      short status (owed job replies (Failed Mem)) [] (inl (record { commands = commands; ordered = ordered; replies = replies; end = Failed Mem; served = so; ended = is; text_is = refl }))
      (sym text_is ∙ sym (append-nil text))
  found_script commands ordered replies (Failed e) so is status text_is =
      failed status (subst IsSome (sym is) refl) (record { commands = commands; ordered = ordered; replies = replies; end = Failed e; served = so; ended = is; text_is = text_is })

  pub found_of : AnswerOf job max Before Untouched input before text → Found job max Served Unserved error input text before.status
  found_of (no_memory untouched has) = none has.status (is_unserved untouched has.marks has.error) has.nothing
  found_of (bad_line untouched number first ends) = elim ends.written as (λ _. Found job max Served Unserved error input text before.status) [
    | inl all ↦ bad all.0 (is_unserved untouched ends.marks ends.error) (record { number = number; first = first; text_is = all.1 })
    | inr nil ↦ short nil.0 (bad_line_text number) (bad_line_text number)
        (inr (record { number = number; first = first; text_is = refl }, is_unserved untouched ends.marks ends.error))
        (sym (ap (λ (t : List ℕ). t ++ bad_line_text number) nil.1))
  ]
  found_of (served commands ordered answers) = elim answers.written as (λ _. Found job max Served Unserved error input text before.status) [
    | inl all ↦ found_script commands ordered answers.replies answers.end (moves commands answers.replies answers.end answers.served) (sym same ∙ answers.error) all.0 all.1
    | inr nil ↦ short nil.0 (owed job answers.replies answers.end) (owed job answers.replies answers.end)
        (inl (record {
          commands = commands;
          ordered = ordered;
          replies = answers.replies;
          end = answers.end;
          served = moves commands answers.replies answers.end answers.served;
          ended = sym same ∙ answers.error;
          text_is = refl;
        }))
        (sym (ap (λ (t : List ℕ). t ++ owed job answers.replies answers.end) nil.1))
  ]
