use Rattle.std.specs.Prelude.{slice_get}
use Rattle.std.specs.Str.{bytes_eq}
use Rattle.std.proofs.Common.{◌≡◌, ℕ, false, List, [], ◌∷◌, map, Some, string_bytes, codes, ap, sym, ◌∙◌}
use Rattle.std.proofs.lemmas.Bool.{false_from_ne_true}
use Rattle.std.proofs.lemmas.Slice.Eq.{bytes_eq-Decides}
use Rattle.std.specs.Option.{option_copied}
use Rattle.archive_program.specs.WordsSeen.{folder_in}
use Rattle.archive_cli.proofs.folder_of.Goals as goal

differ : (xs ys : List ℕ) → (xs ≡ ys → ⊥) → bytes_eq xs ys ≡ false
differ xs ys unlike = false_from_ne_true _ (λ same. unlike ((bytes_eq-Decides xs ys).0 same))

-- a first word that is neither empty nor a dash is the folder
named : (word : List ℕ) (words : List (List ℕ)) → (word ≡ [] → ⊥) → (word ≡ codes "-" → ⊥) → folder_in (word ∷ words) ≡ Some word
named word words some other = rw (differ word [] some, differ word (codes "-") other)

first_named : {X : Type 0} (f : X → List ℕ) (words : List X) (first : X) (word : List ℕ) → slice_get words 0 ≡ Some first → word ≡ f first
    → (word ≡ [] → ⊥) → (word ≡ codes "-" → ⊥) → Some word ≡ folder_in (map f words)
first_named f [] first word got is some other = cc
first_named f (w ∷ ws) first word got is some other =
    let same : f w ≡ word = cc in
    sym (ap (λ (t : List ℕ). folder_in (t ∷ map f ws)) same ∙ named word (map f ws) some other)

pub returns-in_default : goal.returns-in_default
returns-in_default c =
    first_named string_bytes c.args.words.now c.in_ok-first.field-0.now c.as_str.result.now (sym c.first.ensures.value ∙ ap option_copied c.in_ok-first.was) c.as_str.ensures.value
    c.in_default.not-empty c.in_default.not-text
