-- A text is one script at most, and either a script or one with a bad line.
use Rattle.std.proofs.Common.{◌≡◌, ℕ, List, [], ◌∷◌, ◌++◌, refl, sym, ◌∙◌, lit<}
use Rattle.std.specs.List.{AllByRecursion}
use Rattle.std.proofs.lemmas.List.{append_assoc}
use Rattle.archive_service.specs.Texts.{Spelled, line_of, script_text}
use Rattle.archive_service.specs.Script.{BeginsBadly, CanBeSaid}
use Rattle.archive_service.specs.ReadingLaws.{GoodOrBad, OneScript}
use Rattle.archive_service.specs.lemmas.Line.{line_injective, line_lacks}
use Rattle.archive_service.specs.lemmas.Word.{cut_once}

-- two texts that begin with lines are the same where their first commands and their rests are
pub first_line : (max : ℕ) (a b : Spelled) (x y : List ℕ) → CanBeSaid max a → CanBeSaid max b → line_of a ++ 10 ∷ x ≡ line_of b ++ 10 ∷ y → (a ≡ b) × (x ≡ y)
first_line max a b x y ha hb e =
    let parts = cut_once 10 (line_of a) (line_of b) x y (line_lacks max 10 (lit< tt) a ha) (line_lacks max 10 (lit< tt) b hb) e in
    (line_injective max a b ha hb parts.0, parts.1)

-- a line is never the end of a text
some_before : (a x : List ℕ) → a ++ 10 ∷ x ≡ [] → ⊥
some_before [] x e = cc
some_before (a ∷ more) x e = cc

line_some : (command : Spelled) (x : List ℕ) → line_of command ++ 10 ∷ x ≡ [] → ⊥
line_some command x e = some_before (line_of command) x e

same_scripts : (max : ℕ) (a b : List Spelled) → AllByRecursion (CanBeSaid max) a → AllByRecursion (CanBeSaid max) b → script_text a ≡ script_text b → a ≡ b
same_scripts max [] [] ha hb e = refl
same_scripts max [] (b ∷ bs) ha hb e = absurd (line_some b (script_text bs) (sym e))
same_scripts max (a ∷ more) [] ha hb e = absurd (line_some a (script_text more) e)
same_scripts max (a ∷ more) (b ∷ bs) ha hb e =
    let parts = first_line max a b (script_text more) (script_text bs) ha.0 hb.0 e in
    let rest = same_scripts max more bs ha.1 hb.1 parts.1 in
    cc (parts.0, rest)

pub one_script : OneScript
one_script max text a b ha hb = same_scripts max a b ha.said hb.said (sym ha.text_is ∙ hb.text_is)

-- no script goes on badly behind the lines of commands
never_bad : (max : ℕ) (a b : List Spelled) (rest : List ℕ) → AllByRecursion (CanBeSaid max) a → AllByRecursion (CanBeSaid max) b
    → BeginsBadly max rest → script_text a ≡ script_text b ++ rest → ⊥
never_bad max [] [] rest ha hb bad e = bad.some (sym e)
never_bad max (a ∷ more) [] rest ha hb bad e = bad.bad a (script_text more) ha.0 (sym e)
never_bad max [] (b ∷ bs) rest ha hb bad e = line_some b (script_text bs ++ rest) (sym (e ∙ append_assoc (line_of b) (10 ∷ script_text bs) rest))
never_bad max (a ∷ more) (b ∷ bs) rest ha hb bad e =
    let parts = first_line max a b (script_text more) (script_text bs ++ rest) ha.0 hb.0 (e ∙ append_assoc (line_of b) (10 ∷ script_text bs) rest) in
    never_bad max more bs rest ha.1 hb.1 bad parts.1

pub good_or_bad : GoodOrBad
good_or_bad max text commands n good bad =
    never_bad max commands bad.before bad.rest good.said bad.said bad.bad (sym good.text_is ∙ bad.text_is)
