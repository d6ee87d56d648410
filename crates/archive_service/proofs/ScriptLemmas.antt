-- A text has one first bad line at most, and how a script is read line by line.
use Rattle.std.proofs.Common.{◌≡◌, ◌≢◌, ℕ, suc, ◌+◌, ◌<◌, List, [], ◌∷◌, ◌++◌, length, Option, Some, None, refl, sym, ap, ◌∙◌, lit<, arith}
use Rattle.std.specs.List.{AllByRecursion}
use Rattle.std.specs.Option.{option_map}
use Rattle.std.proofs.lemmas.List.{append-nil, append_assoc, length-append}
use Rattle.archive_service.specs.Texts.{Spelled, line_of, script_text}
use Rattle.archive_service.specs.Script.{BeginsBadly, CanBeSaid, IsFirstBad, Spells}
use Rattle.archive_service.specs.ReadingLaws.{OneFirstBad}
use Rattle.archive_service.specs.Reading.{IsCommandOf, IsFirstLine}
use Rattle.archive_service.specs.lemmas.Line.{line_lacks}
use Rattle.archive_service.specs.lemmas.Word.{Lacks, cut_never, cut_once}
use Rattle.archive_service.specs.lemmas.Script.{first_line}

-- ---- scripts

same_place : (max : ℕ) (a b : List Spelled) (x y : List ℕ) → AllByRecursion (CanBeSaid max) a → AllByRecursion (CanBeSaid max) b
    → BeginsBadly max x → BeginsBadly max y → script_text a ++ x ≡ script_text b ++ y → length a ≡ length b
same_place max [] [] x y ha hb bx by e = refl
same_place max (a ∷ more) [] x y ha hb bx by e = absurd (by.bad a (script_text more ++ x) ha.0 (sym e ∙ append_assoc (line_of a) (10 ∷ script_text more) x))
same_place max [] (b ∷ bs) x y ha hb bx by e = absurd (bx.bad b (script_text bs ++ y) hb.0 (e ∙ append_assoc (line_of b) (10 ∷ script_text bs) y))
same_place max (a ∷ more) (b ∷ bs) x y ha hb bx by e =
    let whole = sym (append_assoc (line_of a) (10 ∷ script_text more) x) ∙ e ∙ append_assoc (line_of b) (10 ∷ script_text bs) y in
    let parts = first_line max a b (script_text more ++ x) (script_text bs ++ y) ha.0 hb.0 whole in
    ap suc (same_place max more bs x y ha.1 hb.1 bx by parts.1)

pub one_first_bad : OneFirstBad
one_first_bad max text m n hm hn =
    let same = same_place max hm.before hn.before hm.rest hn.rest hm.said hn.said hm.bad hn.bad (sym hm.text_is ∙ hn.text_is) in
    hm.number ∙ ap (λ k. k + 1) same ∙ sym hn.number

-- ---- how a first line is read

-- the line, and what stands behind it
pub first_refused : (max : ℕ) (text : List ℕ) → Lacks 10 text → IsFirstLine max text None
first_refused max text lacks = λ x said e. cut_never 10 text (line_of x.0) x.1 lacks e

pub first_reading : (max : ℕ) (text line rest : List ℕ) (found : Option Spelled) → (text ≡ line ++ 10 ∷ rest) × Lacks 10 line
    → IsCommandOf max line found → IsFirstLine max text (option_map (λ command. (command, rest)) found)
first_reading max text line rest None at none = λ x said e.
    none x.0 said (cut_once 10 line (line_of x.0) rest x.1 at.1 (line_lacks max 10 (lit< tt) x.0 said) (sym at.0 ∙ e)).0
first_reading max text line rest (Some command) at h = (h.0, at.0 ∙ ap (λ l. l ++ 10 ∷ rest) h.1)

-- ---- how a script is read

-- these commands were read, and this is left
pub record IsReadSoFar (max : ℕ) (text : List ℕ) (commands : List Spelled) (rest : List ℕ) : Type 0 where
  pub said : AllByRecursion (CanBeSaid max) commands
  pub text_is : text ≡ script_text commands ++ rest

pub none_read : (max : ℕ) (text : List ℕ) → IsReadSoFar max text [] text
none_read max text = record { said = tt; text_is = refl }

said_push : (max : ℕ) (commands : List Spelled) (command : Spelled) → AllByRecursion (CanBeSaid max) commands → CanBeSaid max command → AllByRecursion (CanBeSaid max) (commands ++ command ∷ [])
said_push max [] command all said = (said, tt)
said_push max (c ∷ commands) command all said = (all.0, said_push max commands command all.1 said)

text_push : (commands : List Spelled) (command : Spelled) (rest : List ℕ) → script_text (commands ++ command ∷ []) ++ rest ≡ script_text commands ++ (line_of command ++ 10 ∷ rest)
text_push [] command rest = append_assoc (line_of command) (10 ∷ []) rest
text_push (first ∷ commands) command rest =
    append_assoc (line_of first) (10 ∷ script_text (commands ++ command ∷ [])) rest
    ∙ ap (λ t. line_of first ++ 10 ∷ t) (text_push commands command rest)
    ∙ sym (append_assoc (line_of first) (10 ∷ script_text commands) (line_of command ++ 10 ∷ rest))

-- the same with nothing behind
pub text_more : (commands : List Spelled) (command : Spelled) → script_text (commands ++ command ∷ []) ≡ (script_text commands ++ line_of command) ++ 10 ∷ []
text_more commands command =
    sym (append-nil (script_text (commands ++ command ∷ []))) ∙ text_push commands command [] ∙ sym (append_assoc (script_text commands) (line_of command) (10 ∷ []))

pub one_more_read : (max : ℕ) (text : List ℕ) (commands : List Spelled) (rest behind : List ℕ) (command : Spelled) → IsReadSoFar max text commands rest
    → IsFirstLine max rest (Some (command, behind)) → IsReadSoFar max text (commands ++ command ∷ []) behind
one_more_read max text commands rest behind command read first = record {
  said = said_push max commands command read.said first.0;
  text_is = read.text_is ∙ ap (λ r. script_text commands ++ r) first.1 ∙ sym (text_push commands command behind);
}

pub shorter_rest : (max : ℕ) (rest behind : List ℕ) (command : Spelled) → IsFirstLine max rest (Some (command, behind)) → length behind < length rest
shorter_rest max rest behind command first =
    let whole = ap length first.1 in
    let parts = length-append (line_of command) (10 ∷ behind) in
    omega (arith, whole, parts)

pub first_bad_here : (max : ℕ) (text : List ℕ) (commands : List Spelled) (rest : List ℕ) → IsReadSoFar max text commands rest → rest ≢ []
    → IsFirstLine max rest None → IsFirstBad max text (length commands + 1)
first_bad_here max text commands rest read some none = record {
  before = commands;
  rest = rest;
  said = read.said;
  text_is = read.text_is;
  number = refl;
  bad = record { some = some; bad = λ command behind said. none (command, behind) said };
}

pub whole_read : (max : ℕ) (text : List ℕ) (commands : List Spelled) (rest : List ℕ) → IsReadSoFar max text commands rest → rest ≡ [] → Spells max text commands
whole_read max text commands rest read none = record {
  said = read.said;
  text_is = read.text_is ∙ ap (λ r. script_text commands ++ r) none ∙ append-nil (script_text commands);
}
