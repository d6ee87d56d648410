-- Texts that are appended one behind another.
use Rattle.std.proofs.Common.{◌≡◌, ℕ, List, [], ◌∷◌, ◌++◌, Result, Ok, Err, codes, is_ok, if◌then◌else◌, sym, ap, subst, ◌∙◌}
use Rattle.std.specs.Fmt.{decimal}
use Rattle.std.specs.Prelude.{IsErr}
use Rattle.std.proofs.lemmas.List.{append-nil, append_assoc, flat_map_more}
use Rattle.archive_service.specs.Texts.{run_text, words_text}
use Rattle.archive_service.specs.Writing.{Appends}

-- what a call of a vector appends
pub appends : {E : Type 0} (r : Result Unit E) (old new text : List ℕ) → new ≡ (if is_ok r then old ++ text else old) → Appends r old text new
appends (Ok done) old new text e = e
appends (Err error) old new text e = ([], e ∙ sym (append-nil old))

pub appends_same : {E : Type 0} (r : Result Unit E) (old new text same : List ℕ) → text ≡ same → Appends r old text new → Appends r old same new
appends_same r old new text same e h = subst (λ t. Appends r old t new) e h

-- one text more, behind one that was appended
pub appends_more : {E : Type 0} (r : Result Unit E) (old mid new first second : List ℕ) → mid ≡ old ++ first → Appends r mid second new → Appends r old (first ++ second) new
appends_more (Ok done) old mid new first second e h = h ∙ ap (λ l. l ++ second) e ∙ append_assoc old first second
appends_more (Err error) old mid new first second e h = (first ++ h.0, h.1 ∙ ap (λ l. l ++ h.0) e ∙ append_assoc old first h.0)

-- the last text, behind one that was appended
pub appends_last : {E : Type 0} (r : Result Unit E) (old mid new first second : List ℕ) → mid ≡ old ++ first → new ≡ (if is_ok r then mid ++ second else mid)
    → Appends r old (first ++ second) new
appends_last r old mid new first second e last = appends_more r old mid new first second e (appends r mid new second last)

-- two texts, one behind the other
pub more_is : (old mid new first second : List ℕ) → mid ≡ old ++ first → new ≡ mid ++ second → new ≡ old ++ (first ++ second)
more_is old mid new first second one two = two ∙ ap (λ l. l ++ second) one ∙ append_assoc old first second

-- a failure, with more behind what was appended
pub fails : {E : Type 0} (r : Result Unit E) (old mid new first text : List ℕ) → IsErr r → mid ≡ old ++ first → ((more : List ℕ) × (new ≡ mid ++ more)) → Appends r old text new
fails (Ok done) old mid new first text failed is more = absurd (cc failed)
fails (Err e) old mid new first text failed is more = (first ++ more.0, more.1 ∙ ap (λ l. l ++ more.0) is ∙ append_assoc old first more.0)

-- ---- words, each behind a space

module _ {A : Type 0} (text_of : A → List ℕ) where
  -- one word more
  pub word_more : (prefix out new : List ℕ) (things : List A) (thing : A) → out ≡ prefix ++ words_text text_of things → new ≡ out ++ 32 ∷ text_of thing
      → new ≡ prefix ++ words_text text_of (things ++ thing ∷ [])
  word_more prefix out new things thing so_far more =
      more ∙ ap (λ l. l ++ 32 ∷ text_of thing) so_far ∙ flat_map_more (λ x. 32 ∷ text_of x) prefix things thing

  -- all words, behind a name
  pub words_behind : (old name prefix out : List ℕ) (things : List A) → prefix ≡ old ++ name → out ≡ prefix ++ words_text text_of things → out ≡ old ++ (name ++ words_text text_of things)
  words_behind old name prefix out things begun so_far = so_far ∙ ap (λ l. l ++ words_text text_of things) begun ∙ append_assoc old name (words_text text_of things)

  -- no memory for one word more of a list
  pub list_fails : {E : Type 0} (r : Result Unit E) (old name : List ℕ) {prefix out : List ℕ} (new text : List ℕ) (before : List A) → prefix ≡ old ++ name
      → out ≡ prefix ++ words_text text_of before → IsErr r → ((more : List ℕ) × (new ≡ out ++ more)) → Appends r old text new
  list_fails r old name {prefix} {out} new text before begun so_far failed more =
      fails r old out new (name ++ words_text text_of before) text failed (words_behind old name prefix out before begun so_far) more

  -- the end of the line, behind all words of a list
  pub list_ends : {E : Type 0} (r : Result Unit E) (old name line_end : List ℕ) {prefix out : List ℕ} (new : List ℕ) (before things : List A) → prefix ≡ old ++ name
      → out ≡ prefix ++ words_text text_of before → before ≡ things → new ≡ (if is_ok r then out ++ line_end else out)
      → Appends r old (name ++ words_text text_of things ++ line_end) new
  list_ends r old name line_end {prefix} {out} new before things begun so_far all last =
      appends_more r old out new (name ++ words_text text_of things) line_end
      (words_behind old name prefix out before begun so_far ∙ ap (λ l. old ++ (name ++ words_text text_of l)) all)
      (appends r out new line_end last)

-- a run is written by its two numbers
pub run_more : (out mid new : List ℕ) (run : ℕ × ℕ) → mid ≡ out ++ (codes " " ++ decimal run.0) → new ≡ mid ++ (codes "-" ++ decimal run.1) → new ≡ out ++ 32 ∷ run_text run
run_more out mid new run first last =
    last ∙ ap (λ l. l ++ (codes "-" ++ decimal run.1)) first ∙ append_assoc out (codes " " ++ decimal run.0) (codes "-" ++ decimal run.1)
    ∙ ap (λ l. out ++ 32 ∷ l) (sym (append_assoc (decimal run.0) (codes "-") (decimal run.1)))
