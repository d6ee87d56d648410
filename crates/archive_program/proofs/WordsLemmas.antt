-- The words of a call, and the one job that they ask for.
use Rattle.std.specs.Prelude.{◌==◌, IfNone, IfSome, Option}
use Rattle.std.proofs.Common.{◌≡◌, ◌≢◌, ℕ, Bool, true, false, not, ◌^◌, ◌<◌, ◌≤◌, List, [], ◌∷◌, length, map, get_or, Some, None, codes, refl, sym, ap, subst, ◌∙◌, arith}
use Rattle.std.specs.Str.{bytes_eq}
use Rattle.std.proofs.lemmas.Slice.Eq.{bytes_eq-Decides}
use Rattle.std.proofs.lemmas.Bool.{eqb-true}
use Rattle.std.proofs.lemmas.List.{length-map, nil_from_length}
use Rattle.std.specs.Fmt.{decimal}
use Rattle.std.proofs.lemmas.Fmt.{decimal_injective}
use Rattle.archive_service.specs.Script.{IsIndex}
use Rattle.archive_service.specs.Reading.{IsReading}
use Rattle.archive_program.specs.Answering.{MayBeDone}
use Rattle.archive_program.specs.Words.{AreItems, AreOfNoForm, AreWordsFor, AsksFor, IsNumberTo, Job, Make, Script}

-- ---- one word

-- a word is one number at most
module _ (limit : ℕ) (fits : limit < 2 ^ 64) (word : List ℕ) where
  pub one_number : (m n : ℕ) → IsNumberTo limit word m → IsNumberTo limit word n → m ≡ n
  one_number m n one other = decimal_injective m n (omega (arith, one.most, fits)) (omega (arith, other.most, fits)) (sym one.word_is ∙ other.word_is)

  -- a word that is no index is no such number
  pub no_number : IsReading IsIndex decimal word None → (n : ℕ) → IsNumberTo limit word n → ⊥
  no_number none n is = none n (omega (arith, is.most, fits)) is.word_is

  -- nor is one that is a number out of the limits
  pub number_out : (number : ℕ) → IsReading IsIndex decimal word (Some number) → (1 ≤ number → number ≤ limit → ⊥) → (n : ℕ) → IsNumberTo limit word n → ⊥
  number_out number reading out n is =
      let same : n ≡ number = decimal_injective n number (omega (arith, is.most, fits)) reading.0 (sym is.word_is ∙ reading.1) in
      out (omega (arith, same, is.some)) (omega (arith, same, is.most))

-- a text that is tested not to be empty
pub some_text : (bytes : List ℕ) (len : ℕ) → len ≡ length bytes → false ≡ (len == 0) → bytes ≡ [] → ⊥
some_text bytes len is some nil = let none : len ≡ 0 = omega (arith, is, ap length nil) in cc (some ∙ ap (λ (n : ℕ). n == 0) none)

pub no_text : (bytes : List ℕ) (len : ℕ) → len ≡ length bytes → true ≡ (len == 0) → bytes ≡ []
no_text bytes len is none = nil_from_length bytes (sym is ∙ eqb-true len 0 (sym none))

-- a test of two texts that finds no difference, and one that does
pub same_text : (xs ys : List ℕ) → false ≡ not (bytes_eq xs ys) → xs ≡ ys
same_text xs ys same = (bytes_eq-Decides xs ys).0 (not_not (bytes_eq xs ys) same)
  where
    not_not : (b : Bool) → false ≡ not b → b ≡ true
    not_not true e = refl
    not_not false e = e

pub other_text : (xs ys : List ℕ) → true ≡ not (bytes_eq xs ys) → xs ≢ ys
other_text xs ys differs same = let yes = (bytes_eq-Decides xs ys).1 same in cc

-- ---- three words, or five

module _ {X : Type 0} (f : X → List ℕ) where
  pub three_words : (words : List X) (a b c : X) → length words ≡ 3 → a ≡ get_or words 0 a → b ≡ get_or words 1 b → c ≡ get_or words 2 c → map f words ≡ f a ∷ f b ∷ f c ∷ []
  three_words [] a b c three is_a is_b is_c = absurd (omega arith)
  three_words (x ∷ []) a b c three is_a is_b is_c = absurd (omega arith)
  three_words (x ∷ y ∷ []) a b c three is_a is_b is_c = absurd (omega arith)
  three_words (x ∷ y ∷ z ∷ []) a b c three is_a is_b is_c =
      ap (λ w. f w ∷ f y ∷ f z ∷ []) (sym is_a) ∙ ap (λ w. f a ∷ f w ∷ f z ∷ []) (sym is_b) ∙ ap (λ w. f a ∷ f b ∷ f w ∷ []) (sym is_c)
  three_words (x ∷ y ∷ z ∷ w ∷ ws) a b c three is_a is_b is_c = absurd (omega arith)

  two_words : (words : List X) (a b : X) → length words ≡ 2 → a ≡ get_or words 0 a → b ≡ get_or words 1 b → map f words ≡ f a ∷ f b ∷ []
  two_words [] a b two is_a is_b = absurd (omega arith)
  two_words (x ∷ []) a b two is_a is_b = absurd (omega arith)
  two_words (x ∷ y ∷ []) a b two is_a is_b = ap (λ w. f w ∷ f y ∷ []) (sym is_a) ∙ ap (λ w. f a ∷ f w ∷ []) (sym is_b)
  two_words (x ∷ y ∷ z ∷ zs) a b two is_a is_b = absurd (omega arith)

  pub five_words : (words : List X) (a b c d e : X) → length words ≡ 5 → a ≡ get_or words 0 a → b ≡ get_or words 1 b → c ≡ get_or words 2 c → d ≡ get_or words 3 d → e ≡ get_or words 4 e
      → map f words ≡ f a ∷ f b ∷ f c ∷ f d ∷ f e ∷ []
  five_words [] a b c d e five is_a is_b is_c is_d is_e = absurd (omega arith)
  five_words (x ∷ []) a b c d e five is_a is_b is_c is_d is_e = absurd (omega arith)
  five_words (x ∷ y ∷ []) a b c d e five is_a is_b is_c is_d is_e = absurd (omega arith)
  five_words (x ∷ y ∷ z ∷ zs) a b c d e five is_a is_b is_c is_d is_e =
      ap (λ w. f w ∷ f y ∷ f z ∷ map f zs) (sym is_a) ∙ ap (λ w. f a ∷ f w ∷ f z ∷ map f zs) (sym is_b) ∙ ap (λ w. f a ∷ f b ∷ f w ∷ map f zs) (sym is_c)
      ∙ ap (λ ws. f a ∷ f b ∷ f c ∷ ws) (two_words zs d e (omega (arith, five)) is_d is_e)

-- the items that the last of three words is, where the others are right
module _ (folder kind word : List ℕ) where
  pub items_asked : folder ≢ [] → kind ≡ codes "prunable" → (found : Option ℕ) → IfSome found (IsNumberTo (2 ^ 20) word) → IfSome found (AreItems folder kind word)
  items_asked named is (Some n) number = record { named = named; kind_is = is; number = number }
  items_asked named is None number = tt

  pub items_refused : (found : Option ℕ) → IfNone found ((n : ℕ) → IsNumberTo (2 ^ 20) word n → ⊥) → IfNone found ((n : ℕ) → AreItems folder kind word n → ⊥)
  items_refused (Some n) none = tt
  items_refused None none = λ n asks. none n asks.number

-- ---- the job that words ask for

-- three words and others ask for a job by just these
same_words : (words : List (List ℕ)) (folder kind word : List ℕ) (others more : List (List ℕ)) (items : ℕ) → words ≡ folder ∷ kind ∷ word ∷ others → AreWordsFor words items more
    → AreItems folder kind word items × (others ≡ more)
same_words words folder kind word others more items are asks =
    let same = sym are ∙ asks.words_are in
    let f : folder ≡ asks.folder = cc in
    let k : kind ≡ asks.kind = cc in
    let w : word ≡ asks.word = cc in
    let o : others ≡ more = cc in
    (rw (f, k, w) asks.are_items, o)

-- words that are neither three nor five ask for none
pub no_words : {X : Type 0} (f : X → List ℕ) (words : List X) → length words ≢ 3 → length words ≢ 5 → AreOfNoForm (map f words)
no_words f words three five (Script items) asks = three (sym (length-map words f) ∙ ap length asks.words_are)
no_words f words three five (Make items count) asks = five (sym (length-map words f) ∙ ap length asks.words_for.words_are)

-- Words ask for no job where the first three are not of the form, or the others say neither of the two.
pub no_job : (words : List (List ℕ)) (folder kind word : List ℕ) (others : List (List ℕ)) → words ≡ folder ∷ kind ∷ word ∷ others
    → ((items : ℕ) → AreItems folder kind word items → others ≡ [] → ⊥)
    → ((items count : ℕ) (last : List ℕ) → AreItems folder kind word items → IsNumberTo 100000 last count → others ≡ codes "make" ∷ last ∷ [] → ⊥)
    → AreOfNoForm words
no_job words folder kind word others are none never (Script items) asks =
    let same = same_words words folder kind word others [] items are asks in
    none items same.0 same.1
no_job words folder kind word others are none never (Make items count) asks =
    let same = same_words words folder kind word others _ items are asks.words_for in
    never items count asks.word same.0 asks.number same.1

-- words ask for one job only
pub one_job : (words : List (List ℕ)) (a b : Job) → AsksFor words a → AsksFor words b → a ≡ b
one_job words (Script m) (Script n) one other =
    let same = same_words words one.folder one.kind one.word [] [] n one.words_are other in
    ap Script (one_number (2 ^ 20) (omega arith) one.word m n one.are_items.number same.0.number)
one_job words (Script m) (Make n count) one other = absurd (cc (same_words words one.folder one.kind one.word [] _ n one.words_are other.words_for).1)
one_job words (Make m count) (Script n) one other =
    let first = one.words_for in
    absurd (cc (same_words words first.folder first.kind first.word _ [] n first.words_are other).1)
one_job words (Make m count) (Make n number) one other =
    let first = one.words_for in
    let same = same_words words first.folder first.kind first.word _ _ n first.words_are other.words_for in
    let last : one.word ≡ other.word = cc same.1 in
    let items : m ≡ n = one_number (2 ^ 20) (omega arith) first.word m n first.are_items.number same.0.number in
    let counts : count ≡ number = one_number 100000 (omega arith) one.word count number one.number (subst (λ w. IsNumberTo 100000 w number) (sym last) other.number) in
    rw (items, counts) refl

-- a job that words ask for has room in a section
pub may_be_done : (words : List (List ℕ)) (job : Job) → AsksFor words job → MayBeDone job
may_be_done words (Script items) asks = asks.are_items.number.some
may_be_done words (Make items count) asks = asks.words_for.are_items.number.some
