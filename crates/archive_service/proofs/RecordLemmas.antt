-- The words of a record are read one by one, and so are an index and a number of indices, or an index and a key.
use Rattle.std.proofs.Common.{◌≡◌, ◌≢◌, ℕ, List, ◌∷◌, ◌++◌, Option, Some, None, refl, sym, ◌∙◌, lit<}
use Rattle.std.specs.Option.{option_map}
use Rattle.std.specs.Fmt.{decimal}
use Rattle.hex.specs.Hex.{encode_lower}
use Rattle.archive_service.specs.Texts.{value_text}
use Rattle.archive_service.specs.Script.{IsCount, IsIndex, IsKey, IsValue}
use Rattle.archive_service.specs.Reading.{IsCounted, IsKeyed, IsRecord, Record, IsReading, counted_text, keyed_text, record_text}
use Rattle.archive_service.specs.lemmas.Word.{Lacks, cut_never, cut_once, decimal_lacks, encode_lacks}

-- these words say no record
abbrev pub SayNone : ℕ → List ℕ → Type 0
SayNone max words = (r : Record) → IsRecord max r → words ≢ record_text r

pub one_word_refused : (max : ℕ) (words : List ℕ) → Lacks 32 words → SayNone max words
one_word_refused max words lacks (index, key, value) h e = cut_never 32 words (decimal index) _ lacks e

-- words, of which the first is cut off
module _ (max : ℕ) (words word rest : List ℕ) (at : (words ≡ word ++ 32 ∷ rest) × Lacks 32 word) where
  first_word : (index : ℕ) (key value : List ℕ) → IsIndex index → words ≡ record_text (index, key, value)
      → (word ≡ decimal index) × (rest ≡ encode_lower key ++ 32 ∷ value_text value)
  first_word index key value h e = cut_once 32 word (decimal index) rest _ at.1 (decimal_lacks 32 index (lit< tt) h) (sym at.0 ∙ e)

  pub two_words_refused : Lacks 32 rest → SayNone max words
  two_words_refused lacks (index, key, value) h e = cut_never 32 rest (encode_lower key) _ lacks (first_word index key value h.0 e).1

  pub index_refused : IsReading IsIndex decimal word None → SayNone max words
  index_refused none (index, key, value) h e = none index h.0 (first_word index key value h.0 e).0

  -- and the second as well
  module _ (second last : List ℕ) (next : (rest ≡ second ++ 32 ∷ last) × Lacks 32 second) where
    second_word : (index : ℕ) (key value : List ℕ) → IsIndex index → IsKey key → words ≡ record_text (index, key, value)
        → (second ≡ encode_lower key) × (last ≡ value_text value)
    second_word index key value h k e =
        cut_once 32 second (encode_lower key) last _ next.1 (encode_lacks 32 key (lit< tt) k.1) (sym next.0 ∙ (first_word index key value h e).1)

    pub key_refused : IsReading IsKey encode_lower second None → SayNone max words
    key_refused none (index, key, value) h e = none key h.1 (second_word index key value h.0 h.1 e).0

    value_refused : IsReading (IsValue max) value_text last None → SayNone max words
    value_refused none (index, key, value) h e = none value h.2 (second_word index key value h.0 h.1 e).1

    pub record_reading : (index : ℕ) (key : List ℕ) (value : Option (List ℕ)) → IsReading IsIndex decimal word (Some index) → IsReading IsKey encode_lower second (Some key)
        → IsReading (IsValue max) value_text last value → IsReading (IsRecord max) record_text words (option_map (λ v. (index, key, v)) value)
    record_reading index key None i k none = value_refused none
    record_reading index key (Some value) i k v = ((i.0, k.0, v.0), at.0 ∙ rw (i.1, next.0, k.1, v.1) refl)

-- ---- an index and a number of indices

pub one_word_uncounted : (words : List ℕ) → Lacks 32 words → IsReading IsCounted counted_text words None
one_word_uncounted words lacks (index, count) h e = cut_never 32 words (decimal index) (decimal count) lacks e

module _ (words first second : List ℕ) (at : (words ≡ first ++ 32 ∷ second) × Lacks 32 first) where
  both_words : (index count : ℕ) → IsIndex index → words ≡ counted_text (index, count) → (first ≡ decimal index) × (second ≡ decimal count)
  both_words index count h e = cut_once 32 first (decimal index) second (decimal count) at.1 (decimal_lacks 32 index (lit< tt) h) (sym at.0 ∙ e)

  pub index_uncounted : IsReading IsIndex decimal first None → IsReading IsCounted counted_text words None
  index_uncounted none (index, count) h e = none index h.0 (both_words index count h.0 e).0

  pub count_uncounted : IsReading IsCount decimal second None → IsReading IsCounted counted_text words None
  count_uncounted none (index, count) h e = none count h.1 (both_words index count h.0 e).1

  pub counted_reading : (index count : ℕ) → IsReading IsIndex decimal first (Some index) → IsReading IsCount decimal second (Some count)
      → IsReading IsCounted counted_text words (Some (index, count))
  counted_reading index count i n = ((i.0, n.0), at.0 ∙ rw (i.1, n.1) refl)

-- ---- an index and a key

pub one_word_unkeyed : (words : List ℕ) → Lacks 32 words → IsReading IsKeyed keyed_text words None
one_word_unkeyed words lacks (index, key) h e = cut_never 32 words (decimal index) (encode_lower key) lacks e

module _ (words first second : List ℕ) (at : (words ≡ first ++ 32 ∷ second) × Lacks 32 first) where
  words_of_both : (index : ℕ) (key : List ℕ) → IsIndex index → words ≡ keyed_text (index, key) → (first ≡ decimal index) × (second ≡ encode_lower key)
  words_of_both index key h e = cut_once 32 first (decimal index) second (encode_lower key) at.1 (decimal_lacks 32 index (lit< tt) h) (sym at.0 ∙ e)

  pub index_unkeyed : IsReading IsIndex decimal first None → IsReading IsKeyed keyed_text words None
  index_unkeyed none (index, key) h e = none index h.0 (words_of_both index key h.0 e).0

  pub key_unkeyed : IsReading IsKey encode_lower second None → IsReading IsKeyed keyed_text words None
  key_unkeyed none (index, key) h e = none key h.1 (words_of_both index key h.0 e).1

  pub keyed_reading : (index : ℕ) (key : List ℕ) → IsReading IsIndex decimal first (Some index) → IsReading IsKey encode_lower second (Some key)
      → IsReading IsKeyed keyed_text words (Some (index, key))
  keyed_reading index key i k = ((i.0, k.0), at.0 ∙ rw (i.1, k.1) refl)
