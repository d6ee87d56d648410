-- How the words of scripts are read: numbers, keys and values, each from one text.
use Rattle.std.proofs.Common.{◌≡◌, ◌≢◌, ℕ, zero, suc, Bool, true, false, ◌&&◌, ◌||◌, cond, ◌+◌, ◌*◌, ◌/◌, ◌%◌, ◌<◌, ◌≤◌, ◌^◌, inl, inr, List, [], ◌∷◌, ◌++◌, length, take, drop, get_or, slice_index, Option, Some, None, Result, Ok, Err, codes, IsSome, not, unwrap_or, refl, sym, ap, ◌∙◌, subst, lit<, rules, arith}
use Rattle.std.specs.Prelude.{nat_lt, nat_eq, IfSome, IsOk, MatchResult, ◌↔◌}
use Rattle.std.specs.List.{AllByRecursion, position, position_from}
use Rattle.std.specs.Option.{option_map}
use Rattle.std.specs.Result.{result_ok}
use Rattle.std.specs.Fmt.{decimal}
use Rattle.std.specs.Int.{IsInRange}
use Rattle.std.specs.Str.{IsAscii, bytes_eq}
use Rattle.std.specs.Str.Parse.{ParsesUnsigned, digits_value}
use Rattle.std.proofs.lemmas.Bool.{and_parts, cases_Bool, eqb-false, eqb-true, ltb-true}
use Rattle.std.proofs.lemmas.Bool.Decides.{nat_tests}
use Rattle.std.proofs.lemmas.List.{drop_more, take-append-drop, take_more}
use Rattle.std.proofs.lemmas.List.Elements.{All-from_recursion, recursion_from_All}
use Rattle.std.proofs.lemmas.List.Quantifiers.{position-Some}
use Rattle.std.proofs.lemmas.Iterator.Adapters.{position_from-zero}
use Rattle.std.proofs.lemmas.Str.Parse.{IsNumeralModel, numerals_by_value, parse_plain}
use Rattle.std.proofs.lemmas.Fmt.{IsAscii-from_digits, decimal-digits_value, decimal_digit, decimal_nonempty, digits_value-decimal, first_decimal}
use Rattle.std.proofs.lemmas.Slice.Eq.{bytes_eq-Decides}
use Rattle.hex.specs.Hex.{decode_of, decode_sized, encode_lower, encode_with, hex_digit_value, lower_digits}
use Rattle.hex.specs.declared.error.FromHexError.{FromHexError}
use Rattle.hex.proofs.HexLemmas.{decode_of-encode_lower, decode_sized-encode_lower, decode_sized-ok, decode_sized-twice, length-encode_with}
use Rattle.value_codec.specs.declared.key.Key8.{Key8}
use Rattle.archive_service.specs.Texts.{value_text}
use Rattle.archive_service.specs.Script.{AreBytes, IsCount, IsIndex, IsKey, IsValue}
use Rattle.archive_service.specs.Reading.{IsReading}
use Rattle.archive_service.specs.Words.{IsDecimal, IsHexText, IsLowerDigit, IsValueText}
use Rattle.archive_service.specs.lemmas.Word.{Lacks, above_digits, all_below-at, are_bytes, cut_never, decimal_digits, encode_digits, is_lower_digit}

-- a word that was compared
pub same_word : {name word tested : List ℕ} → tested ≡ word → true ≡ bytes_eq name tested → name ≡ word
same_word {name} {word} {tested} is e = (bytes_eq-Decides name tested).0 (sym e) ∙ is

pub other_word : {name word tested : List ℕ} → tested ≡ word → false ≡ bytes_eq name tested → name ≢ word
other_word {name} {word} {tested} is e same =
    let yes = (bytes_eq-Decides name tested).1 (same ∙ sym is) in
    cc

-- a text is cut nowhere else than at its one such byte
pub cut_alone : (c : ℕ) (a b x y : List ℕ) → Lacks c a → Lacks c b → x ++ c ∷ y ≡ a ++ c ∷ b → (x ≡ a) × (y ≡ b)
cut_alone c [] b [] y ha hb e = (refl, cc)
cut_alone c (a ∷ more) b [] y ha hb e = absurd (ha.0 (cc))
cut_alone c [] b (x ∷ xs) y ha hb e =
    let rest : b ≡ xs ++ c ∷ y = cc in
    absurd (cut_never c b xs y hb rest)
cut_alone c (a ∷ more) b (x ∷ xs) y ha hb e =
    let head : x ≡ a = cc in
    let rest : xs ++ c ∷ y ≡ more ++ c ∷ b = cc in
    let parts = cut_alone c more b xs y ha.1 hb rest in
    (cc (head, parts.0), parts.1)

-- ---- hexadecimal

ok_injective : {E : Type 0} {a b : List ℕ} → ◌≡◌ {A = Result (List ℕ) E} (Ok a) (Ok b) → a ≡ b
ok_injective e = cc

-- bytes with one lower-case text are the same
pub encode_injective : (a b : List ℕ) → AreBytes a → AreBytes b → encode_lower a ≡ encode_lower b → a ≡ b
encode_injective a b ha hb e =
    let one = decode_of-encode_lower a (are_bytes a ha) in
    let two = decode_of-encode_lower b (are_bytes b hb) in
    let both = sym one ∙ ap decode_of e ∙ two in
    ok_injective both

-- ---- values

-- no hexadecimal text is a dash
pub encode_no_dash : (bytes : List ℕ) → AreBytes bytes → encode_lower bytes ≢ codes "-"
encode_no_dash bytes h e =
    let digits : AllByRecursion IsLowerDigit (codes "-") = subst (AllByRecursion IsLowerDigit) e (encode_digits bytes h) in
    above_digits 45 (lit< tt) 45 digits.0 refl

pub value_injective : (max : ℕ) (a b : List ℕ) → IsValue max a → IsValue max b → value_text a ≡ value_text b → a ≡ b
value_injective max [] [] ha hb e = refl
value_injective max [] (b ∷ bs) ha hb e = absurd (encode_no_dash (b ∷ bs) hb.1 (sym e))
value_injective max (a ∷ more) [] ha hb e = absurd (encode_no_dash (a ∷ more) ha.1 e)
value_injective max (a ∷ more) (b ∷ bs) ha hb e = encode_injective (a ∷ more) (b ∷ bs) ha.1 hb.1 e

-- ---- where a text is cut

cut_none_from : (c i : ℕ) (text : List ℕ) → position_from (λ b. nat_eq b c) i text ≡ None → Lacks c text
cut_none_from c i [] e = tt
cut_none_from c i (b ∷ text) e =
    elim (cases_Bool (nat_eq b c)) [
      | inl here ↦ cc (sym (ap (λ t. cond t (Some i) (position_from (λ b. nat_eq b c) (i + 1) text)) here) ∙ e)
      | inr other ↦
          let rest : position_from (λ b. nat_eq b c) (i + 1) text ≡ None = sym (ap (λ t. cond t (Some i) (position_from (λ b. nat_eq b c) (i + 1) text)) other) ∙ e in
          (eqb-false b c other, cut_none_from c (i + 1) text rest)
    ]

pub cut_none : (c : ℕ) (text : List ℕ) → position (λ b. nat_eq b c) text ≡ None → Lacks c text
cut_none c text e = cut_none_from c 0 text (sym (position_from-zero (λ b. nat_eq b c) text) ∙ e)

lacks_before : (c : ℕ) (text : List ℕ) (i : ℕ) → ((k : ℕ) → k < i → nat_eq (get_or text k 0) c ≡ false) → Lacks c (take i text)
lacks_before c text zero before = tt
lacks_before c [] (suc i) before = tt
lacks_before c (b ∷ text) (suc i) before = (eqb-false b c (before 0 (omega arith)), lacks_before c text i (λ k lt. before (suc k) (omega arith)))

pub cut_at : (c : ℕ) (text : List ℕ) (i : ℕ) → position (λ b. nat_eq b c) text ≡ Some i
    → (text ≡ take i text ++ c ∷ drop (i + 1) text) × Lacks c (take i text)
cut_at c text i e =
    let place = position-Some (λ b. nat_eq b c) text i 0 e in
    let here : get_or text i 0 ≡ c = eqb-true (get_or text i 0) c place.1 in
    let rest = drop_more text i 0 place.0 in
    (sym (take-append-drop i text) ∙ ap (λ l. take i text ++ l) (rest ∙ ap (λ b. b ∷ drop (i + 1) text) here), lacks_before c text i place.2)

-- ---- numbers, as they are read

own : IsNumeralModel (AllByRecursion (IsInRange 48 57)) (digits_value 10)
own = numerals_by_value _ (search rules)

decimal_one_zero : (n : ℕ) → IsIndex n → slice_index (decimal n) 0 ≡ 48 → length (decimal n) ≡ 1
decimal_one_zero zero h e = ap length (decimal_digit 0 (lit< tt))
decimal_one_zero (suc n) h e =
    let first = first_decimal (suc n) (omega arith) h in
    absurd (omega arith)

pub decimal_is_decimal : (n : ℕ) → IsIndex n → IsDecimal (decimal n)
decimal_is_decimal n h =
    ((decimal_nonempty n h, decimal_one_zero n h), All-from_recursion (IsInRange 48 57) (decimal n) (decimal_digits n h))

pub decimal_ascii : (word : List ℕ) → IsDecimal word → IsAscii word
decimal_ascii word h = IsAscii-from_digits word (own.to word (recursion_from_All (IsInRange 48 57) word h.1))

-- no sign stands in front of digits
no_plus : (word : List ℕ) → IsDecimal word → get_or word 0 0 ≢ 43
no_plus word h e =
    let first = h.1 0 0 h.0.0 in
    absurd (omega arith)

pub index_reading : {E : Type 0} (word : List ℕ) (r : Result ℕ E) → IsDecimal word → ParsesUnsigned 64 10 word r → IsReading IsIndex decimal word (result_ok r)
index_reading {E} word (Ok n) h parses =
    let read = parse_plain own {E = E} 64 word (Ok n) parses (no_plus word h) in
    let again = decimal-digits_value own word read.0.0 h.0.0 h.0.1 read.0.2 in
    (rw read.1 read.0.2, sym (ap decimal read.1 ∙ again))
index_reading {E} word (Err e) h parses = λ n small is.
    let refused = parse_plain own {E = E} 64 word (Err e) parses (no_plus word h) in
    let number : digits_value 10 word ≡ n = ap (digits_value 10) is ∙ digits_value-decimal own n small in
    refused (recursion_from_All (IsInRange 48 57) word h.1, h.0.0, rw number small)

-- a number has one text
decimal_injective : (m n : ℕ) → IsIndex m → IsIndex n → decimal m ≡ decimal n → m ≡ n
decimal_injective m n hm hn e = sym (digits_value-decimal own m hm) ∙ ap (digits_value 10) e ∙ digits_value-decimal own n hn

-- a number within the limit is an index
pub no_count : (word : List ℕ) → IsReading IsIndex decimal word None → IsReading IsCount decimal word None
no_count word none count small = none count (omega (arith, small))

pub count_beyond : (word : List ℕ) (index : ℕ) → IsReading IsIndex decimal word (Some index) → 2 ^ 16 < index → IsReading IsCount decimal word None
count_beyond word index reading high count small e =
    let same : index ≡ count = decimal_injective index count reading.0 (omega (arith, small)) (sym reading.1 ∙ e) in
    omega (arith, high, small, same)

pub count_reading : (word : List ℕ) (index : ℕ) → IsReading IsIndex decimal word (Some index) → index ≤ 2 ^ 16 → IsReading IsCount decimal word (Some index)
count_reading word index reading small = (small, reading.1)

-- ---- hexadecimal, as it is read

-- the number of a digit
abbrev pub digit_number : ℕ → ℕ
digit_number c = unwrap_or (hex_digit_value c) 0

-- the bytes of pairs of digits
unfoldable pub bytes_of : List ℕ → List ℕ
bytes_of [] = []
bytes_of (high ∷ []) = []
bytes_of (high ∷ low ∷ digits) = (digit_number high * 16 + digit_number low) ∷ bytes_of digits

-- what a digit is among the lower-case ones
abbrev test_of : ℕ → Bool
test_of c = not (is_lower_digit c) || (nat_eq (slice_index lower_digits (digit_number c)) c && nat_lt (digit_number c) 16)

digit_test : (c : ℕ) → IsLowerDigit c → is_lower_digit c ≡ true
digit_test c h = grind (arith, nat_tests)

lower_bound : (c : ℕ) → IsLowerDigit c → c < 103
lower_bound c (inl digit) = omega arith
lower_bound c (inr letter) = omega arith

digit_again : (c : ℕ) → IsLowerDigit c → (slice_index lower_digits (digit_number c) ≡ c) × (digit_number c < 16)
digit_again c h =
    let here : test_of c ≡ true = all_below-at test_of 103 c refl (lower_bound c h) in
    let parts = and_parts (nat_eq (slice_index lower_digits (digit_number c)) c) (nat_lt (digit_number c) 16) (sym (ap (λ t. not t || (nat_eq (slice_index lower_digits (digit_number c)) c && nat_lt (digit_number c) 16)) (digit_test c h)) ∙ here) in
    (eqb-true (slice_index lower_digits (digit_number c)) c parts.0, ltb-true (digit_number c) 16 parts.1)

pub hex_bytes : (s : List ℕ) → length s % 2 ≡ 0 → AllByRecursion IsLowerDigit s → (encode_lower (bytes_of s) ≡ s) × AreBytes (bytes_of s)
unfolding bytes_of encode_with
hex_bytes [] even h = (refl, tt)
hex_bytes (high ∷ []) even h = absurd (omega arith)
hex_bytes (high ∷ low ∷ digits) even h =
    let a = digit_again high h.0 in
    let b = digit_again low h.1.0 in
    let rest = hex_bytes digits (omega arith) h.1.1 in
    let byte = digit_number high * 16 + digit_number low in
    let up : byte / 16 ≡ digit_number high = omega (arith, b.1) in
    let down : byte % 16 ≡ digit_number low = omega (arith, b.1) in
    (rw (up, down, a.0, b.0, rest.0) refl, (omega (arith, a.1, b.1), rest.1))

-- lower-case text decodes to the bytes of its pairs
hex_text_decodes : (s : List ℕ) → IsHexText s → decode_of s ≡ Ok (bytes_of s)
hex_text_decodes s h =
    let again = hex_bytes s h.0 (recursion_from_All IsLowerDigit s h.1) in
    ap decode_of (sym again.0) ∙ decode_of-encode_lower (bytes_of s) (are_bytes (bytes_of s) again.1)

pub encode_is_hex_text : (bytes : List ℕ) → AreBytes bytes → IsHexText (encode_lower bytes)
encode_is_hex_text bytes h =
    let len = length-encode_with lower_digits bytes in
    (omega (arith, len), All-from_recursion IsLowerDigit (encode_lower bytes) (encode_digits bytes h))

-- lower-case text that decodes is the text of what it decodes to
pub text_of_decoded : (word bytes : List ℕ) → IsHexText word → decode_of word ≡ Ok bytes
    → (word ≡ encode_lower bytes) × AreBytes bytes × (length word ≡ 2 * length bytes)
text_of_decoded word bytes h e =
    let again = hex_bytes word h.0 (recursion_from_All IsLowerDigit word h.1) in
    let same : bytes ≡ bytes_of word = ok_injective (sym e ∙ hex_text_decodes word h) in
    let text : word ≡ encode_lower bytes = sym again.0 ∙ ap encode_lower (sym same) in
    let len = length-encode_with lower_digits bytes in
    (text, rw same again.1, ap length text ∙ len)

-- ---- keys, as they are read

abbrev pub IsDecoding : Result (List ℕ) FromHexError → Result Unit FromHexError → List ℕ → Type 0
IsDecoding decoded result out = MatchResult decoded (λ bytes. (result ≡ Ok tt) × (out ≡ bytes)) (λ e. result ≡ Err e)

decoding_ok : (d : Result (List ℕ) FromHexError) (r : Result Unit FromHexError) (out : List ℕ) → IsDecoding d r out → r ≡ Ok tt → d ≡ Ok out
decoding_ok (Ok bytes) r out h e = ap Ok (sym h.1)
decoding_ok (Err fault) r out h e = cc

pub key_refused : (word out key : List ℕ) (r : Result Unit FromHexError) (e : FromHexError) → IsDecoding (decode_sized word 8) r out → r ≡ Err e
    → IsKey key → word ≡ encode_lower key → ⊥
key_refused word out key r e h is can text =
    let decodes : decode_sized word 8 ≡ Ok key = ap (λ w. decode_sized w 8) text ∙ decode_sized-encode_lower key 8 can.0 (are_bytes key can.1) in
    let ok = rw decodes at h in
    cc

none_found : (key : Option Key8) → key ≡ None → IsSome key → ⊥
none_found None e h = cc
none_found (Some key) e h = cc

key_found : (word out : List ℕ) (key : Option Key8) → length out ≡ 8 → word ≡ encode_lower out → AreBytes out
    → (IsSome key ↔ (length out ≡ 8)) → IfSome key (λ k. k.bytes ≡ out) → IsReading IsKey encode_lower word (option_map (λ k. k.bytes) key)
key_found word out (Some key) len text bytes found same =
    ((ap length same ∙ len, rw same bytes), text ∙ ap encode_lower (sym same))
key_found word out None len text bytes found same = absurd (none_found None refl (found.1 len))

pub key_reading : (word out : List ℕ) (r : Result Unit FromHexError) (key : Option Key8) → IsHexText word → IsDecoding (decode_sized word 8) r out → r ≡ Ok tt
    → (IsSome key ↔ (length out ≡ 8)) → IfSome key (λ k. k.bytes ≡ out) → IsReading IsKey encode_lower word (option_map (λ k. k.bytes) key)
key_reading word out r key h decoding ok found same =
    let sized = decoding_ok (decode_sized word 8) r out decoding ok in
    let len = decode_sized-ok word 8 out sized in
    let text = text_of_decoded word out h (sym (decode_sized-twice word 8 len) ∙ sized) in
    key_found word out key (omega (arith, len, text.2)) text.0 text.1 found same

-- ---- values, as they are read

pub value_digits : (max : ℕ) (word value : List ℕ) → IsValue max value → word ≡ value_text value → word ≢ codes "-" → IsValueText max word
value_digits max word [] h text other = absurd (other text)
value_digits max word (b ∷ bytes) h text other =
    let len = length-encode_with lower_digits (b ∷ bytes) in
    let whole : length word ≡ 2 * length (b ∷ bytes) = ap length text ∙ len in
    let hex : IsHexText word = rw text (encode_is_hex_text (b ∷ bytes) h.1) in
    record { some = omega (arith, whole); hex = hex; short = omega (arith, whole) }

pub value_read : (max : ℕ) (word bytes : List ℕ) → IsValueText max word → decode_of word ≡ Ok bytes → IsValue max bytes × (word ≡ value_text bytes)
value_read max word [] h e =
    let text = text_of_decoded word [] h.hex e in
    absurd (omega (arith, text.2, h.some))
value_read max word (b ∷ bytes) h e =
    let text = text_of_decoded word (b ∷ bytes) h.hex e in
    ((omega (arith, text.2, h.short), text.1), text.0)

pub value_decodes : (max : ℕ) (word : List ℕ) → IsValueText max word → IsOk (decode_of word)
value_decodes max word h = rw (hex_text_decodes word h.hex) refl

-- ---- texts, as they are written

-- one byte more at the end
encode_push : (bytes : List ℕ) (b : ℕ) → encode_lower (bytes ++ b ∷ []) ≡ encode_lower bytes ++ slice_index lower_digits (b / 16) ∷ slice_index lower_digits (b % 16) ∷ []
unfolding encode_with
encode_push [] b = refl
encode_push (first ∷ bytes) b = ap (λ t. slice_index lower_digits (first / 16) ∷ slice_index lower_digits (first % 16) ∷ t) (encode_push bytes b)

pub encode_nothing : encode_lower [] ≡ []
unfolding encode_with
encode_nothing = refl

pub encode_more : (bytes : List ℕ) (i : ℕ) → i < length bytes
    → encode_lower (take (i + 1) bytes) ≡ encode_lower (take i bytes) ++ slice_index lower_digits (get_or bytes i 0 / 16) ∷ slice_index lower_digits (get_or bytes i 0 % 16) ∷ []
encode_more bytes i h = ap encode_lower (take_more bytes i 0 h) ∙ encode_push (take i bytes) (get_or bytes i 0)
