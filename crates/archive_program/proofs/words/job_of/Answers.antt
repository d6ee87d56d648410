-- Three words, or five, or neither.
use Rattle.std.proofs.Common.{◌≡◌, [], ◌∷◌, codes, map, string_bytes, ap, sym, subst, ◌∙◌, arith}
use Rattle.archive_program.specs.Words.{IsNumberTo}
use Rattle.archive_program.specs.WordsSeen.{FindsJob}
use Rattle.archive_program.proofs.WordsLemmas.{five_words, no_job, no_words, other_text, same_text, three_words}
use Rattle.archive_program.proofs.words.job_of.Goals as goal
use Rattle.archive_program.proofs.words.job_of.Goals.{After-items_of, After-items_of-in-len5}

-- ---- three words

-- these are the words
three : (c : After-items_of) → map string_bytes c.args.words.now ≡ string_bytes c.folder-item.result ∷ string_bytes c.kind-item.result ∷ string_bytes c.items-item.result ∷ []
three c = three_words string_bytes c.args.words.now c.folder-item.result c.kind-item.result c.items-item.result
    (omega (arith, c.in-len3.len_at_least, c.in-len3.len_below)) c.folder-item.is c.kind-item.is c.items-item.is

pub returns-in_err-items_of-in-len3 : goal.returns-in_err-items_of-in-len3
returns-in_err-items_of-in-len3 c =
    subst (FindsJob (map string_bytes c.args.words.now)) (sym c.from_residual.ensures)
    (no_job _ _ _ _ [] (three (goal.at.returns-in_err-items_of-in-len3 c).After-items_of) (λ items are nil. c.in_err-items_of-in-len3.ensures.refused items are) (λ items count last are number e. cc e))

pub returns-in_ok-items_of-in-len3 : goal.returns-in_ok-items_of-in-len3
returns-in_ok-items_of-in-len3 c =
    record { folder = _; kind = _; word = _; are_items = c.in_ok-items_of-in-len3.ensures.asked; words_are = three (goal.at.returns-in_ok-items_of-in-len3 c).After-items_of }

-- ---- five words

-- these are the words
five : (c : After-items_of-in-len5) → map string_bytes c.args.words.now ≡ string_bytes c.folder-item-then-words-lt6.result ∷ string_bytes c.kind-item-then-words-lt6.result ∷ string_bytes c.items-item-then-words-lt6.result
    ∷ string_bytes c.make-item.result ∷ string_bytes c.count-item.result ∷ []
five c = five_words string_bytes c.args.words.now c.folder-item-then-words-lt6.result c.kind-item-then-words-lt6.result c.items-item-then-words-lt6.result c.make-item.result c.count-item.result
    (omega (arith, c.in-len5.len_at_least, c.in-len5.len_below)) c.folder-item-then-words-lt6.is c.kind-item-then-words-lt6.is c.items-item-then-words-lt6.is c.make-item.is c.count-item.is

pub returns-in_err-items-in-len5 : goal.returns-in_err-items-in-len5
returns-in_err-items-in-len5 c =
    subst (FindsJob (map string_bytes c.args.words.now)) (sym c.from_residual-in_err-items-in-len5.ensures)
    (no_job _ _ _ _ _ (five (goal.at.returns-in_err-items-in-len5 c).After-items_of-in-len5) (λ items are nil. cc nil) (λ items count last are number e. c.in_err-items-in-len5.ensures.refused items are))

-- the fourth is not `make`
pub returns-then-ne : goal.returns-then-ne
returns-then-ne c =
    no_job _ _ _ _ _ (five (goal.at.returns-then-ne c).After-items_of-in-len5) (λ items are nil. cc nil) (λ items count last are number e.
    let make : string_bytes c.make-item.result ≡ codes "make" = cc e in
    other_text _ (codes "make") c.if-ne.ensures (c.as_str.ensures.value ∙ make))

-- the last is no number
pub returns-in_err-number_to-in-len5 : goal.returns-in_err-number_to-in-len5
returns-in_err-number_to-in-len5 c =
    subst (FindsJob (map string_bytes c.args.words.now)) (sym c.from_residual-in_err-number_to-in-len5.ensures)
    (no_job _ _ _ _ _ (five (goal.at.returns-in_err-number_to-in-len5 c).After-items_of-in-len5) (λ items are nil. cc nil) (λ items count last are number e.
    let same : last ≡ string_bytes c.count-item.result = cc e in
    c.in_err-number_to-in-len5.ensures.none count (subst (λ w. IsNumberTo 100000 w count) same number)))

pub returns-in_ok-number_to-in-len5 : goal.returns-in_ok-number_to-in-len5
returns-in_ok-number_to-in-len5 c =
    let make : string_bytes c.make-item.result ≡ codes "make" = sym c.as_str.ensures.value ∙ same_text _ (codes "make") c.if-ne.ensures in
    record {
      word = string_bytes c.count-item.result;
      number = c.in_ok-number_to-in-len5.ensures.is;
      words_for = record {
        folder = string_bytes c.folder-item-then-words-lt6.result;
        kind = string_bytes c.kind-item-then-words-lt6.result;
        word = string_bytes c.items-item-then-words-lt6.result;
        are_items = c.in_ok-items-in-len5.ensures.asked;
        words_are = five (goal.at.returns-in_ok-number_to-in-len5 c).After-items_of-in-len5
            ∙ ap (λ w. string_bytes c.folder-item-then-words-lt6.result ∷ string_bytes c.kind-item-then-words-lt6.result ∷ string_bytes c.items-item-then-words-lt6.result ∷ w
            ∷ string_bytes c.count-item.result ∷ []) make;
      };
    }

-- ---- any other number of words

pub returns-in_default : goal.returns-in_default
returns-in_default c = no_words string_bytes c.args.words.now (λ e. omega (arith, e, c.in_default.len_below)) (λ e. omega (arith, e, c.in_default.len_below))

pub returns-in_default-2 : goal.returns-in_default-2
returns-in_default-2 c = no_words string_bytes c.args.words.now (λ e. omega (arith, e, c.in_default.len_at_least)) (λ e. omega (arith, e, c.in_default.len_below))

pub returns-in_default-3 : goal.returns-in_default-3
returns-in_default-3 c = no_words string_bytes c.args.words.now (λ e. omega (arith, e, c.in_default.len_at_least)) (λ e. omega (arith, e, c.in_default.len_at_least))
