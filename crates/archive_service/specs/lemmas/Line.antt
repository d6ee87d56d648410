-- A line says one command at most: the words of each command can be read back.
use Rattle.std.proofs.Common.{◌≡◌, ◌≢◌, ◌⊎◌, ℕ, Bool, true, ◌&&◌, ◌<◌, inl, inr, List, [], ◌∷◌, length, Result, Ok, Err, codes, refl, sym, ap, ◌∙◌, lit<, arith}
use Rattle.std.specs.Prelude.{if◌then◌else◌, nat_lt}
use Rattle.std.specs.List.{AllByRecursion, join_with_byte}
use Rattle.std.specs.Str.{bytes_eq}
use Rattle.std.specs.Str.Parse.{digits_value}
use Rattle.std.specs.Fmt.{decimal}
use Rattle.std.proofs.lemmas.Bool.{and_parts, ltb-true}
use Rattle.std.proofs.lemmas.Fmt.{decimal_is_IsNumeral}
use Rattle.hex.specs.Hex.{decode_of, encode_lower}
use Rattle.hex.specs.declared.error.FromHexError.{FromHexError}
use Rattle.hex.proofs.HexLemmas.{decode_of-encode_lower}
use Rattle.archives.specs.Commands.{Put, PutSync, PutStart, Multi, MultiSync, MultiStart, Get, GetKey, All, Has, HasKey, HasAt, Gap, Missing, Ranges, RangesFrom, First, Last, Sync, Start, Prune, Reopen, Destroy}
use Rattle.archive_service.specs.Texts.{Spelled, line_of, value_text, words_of}
use Rattle.archive_service.specs.Script.{CanBeSaid, IsIndex, IsKey, IsValue}
use Rattle.archive_service.specs.Reading.{IsRecord, IsDouble, IsLone, IsLongOf, IsShort}
use Rattle.archive_service.specs.lemmas.Word.{Lacks, all_append, are_bytes, cut_never, cut_once, decimal_lacks, encode_lacks, value_lacks}

-- words that lack the byte between them are joined in one way
pub joined_once : (c : ℕ) (xs ys : List (List ℕ)) → 0 < length xs → 0 < length ys → AllByRecursion (Lacks c) xs → AllByRecursion (Lacks c) ys
    → join_with_byte c xs ≡ join_with_byte c ys → xs ≡ ys
joined_once c [] ys some more hx hy e = absurd (omega arith)
joined_once c (x ∷ xs) [] some more hx hy e = absurd (omega arith)
joined_once c (x ∷ []) (y ∷ []) some more hx hy e = ap (λ w. w ∷ []) e
joined_once c (x ∷ []) (y ∷ z ∷ ys) some more hx hy e = absurd (cut_never c x y _ hx.0 e)
joined_once c (x ∷ w ∷ xs) (y ∷ []) some more hx hy e = absurd (cut_never c y x _ hy.0 (sym e))
joined_once c (x ∷ w ∷ xs) (y ∷ z ∷ ys) some more hx hy e =
    let parts = cut_once c x y _ _ hx.0 hy.0 e in
    let rest = joined_once c (w ∷ xs) (z ∷ ys) (omega arith) (omega arith) hx.1 hy.1 parts.1 in
    rw (parts.0, rest) refl

joined_lacks : (c between : ℕ) → between ≢ c → (xs : List (List ℕ)) → AllByRecursion (Lacks c) xs → Lacks c (join_with_byte between xs)
joined_lacks c between apart [] h = tt
joined_lacks c between apart (x ∷ []) h = h.0
joined_lacks c between apart (x ∷ y ∷ xs) h = all_append (λ b. b ≢ c) x (between ∷ join_with_byte between (y ∷ xs)) h.0 (apart, joined_lacks c between apart (y ∷ xs) h.1)

-- letters
abbrev pub is_name : List ℕ → Bool
is_name [] = true
is_name (letter ∷ letters) = nat_lt 96 letter && is_name letters

pub name_lacks : (c : ℕ) → c < 97 → (name : List ℕ) → is_name name ≡ true → Lacks c name
name_lacks c low [] h = tt
name_lacks c low (letter ∷ letters) h =
    let parts = and_parts (nat_lt 96 letter) (is_name letters) h in
    let high : 96 < letter = ltb-true 96 letter parts.0 in
    (omega (arith, high), name_lacks c low letters parts.1)

abbrev pub IsShaped : ℕ → Spelled → Type 0
IsShaped max command = IsLone command ⊎ (IsShort command ⊎ (IsDouble command ⊎ IsLongOf max command))

pub shaped : (max : ℕ) (command : Spelled) → CanBeSaid max command → IsShaped max command
shaped max (Put index key value) h = inr (inr (inr h))
shaped max (PutSync index key value) h = inr (inr (inr h))
shaped max (PutStart index key value) h = inr (inr (inr h))
shaped max (Multi index key value) h = inr (inr (inr h))
shaped max (MultiSync index key value) h = inr (inr (inr h))
shaped max (MultiStart index key value) h = inr (inr (inr h))
shaped max (Get index) h = inr (inl h)
shaped max (GetKey key) h = inr (inl h)
shaped max (All index) h = inr (inl h)
shaped max (Has index) h = inr (inl h)
shaped max (HasKey key) h = inr (inl h)
shaped max (HasAt index key) h = inr (inr (inl h))
shaped max (Gap index) h = inr (inl h)
shaped max (Missing index count) h = inr (inr (inl h))
shaped max Ranges h = inl tt
shaped max (RangesFrom index) h = inr (inl h)
shaped max First h = inl tt
shaped max Last h = inl tt
shaped max Sync h = inl tt
shaped max Start h = inl tt
shaped max (Prune index) h = inr (inl h)
shaped max Reopen h = inl tt
shaped max Destroy h = inl tt

pub lone_count : (command : Spelled) → IsLone command → length (words_of command) ≡ 1
lone_count Sync said = refl
lone_count Start said = refl
lone_count Reopen said = refl
lone_count Ranges said = refl
lone_count First said = refl
lone_count Last said = refl
lone_count Destroy said = refl
lone_count command said = absurd said

pub short_count : (command : Spelled) → IsShort command → length (words_of command) ≡ 2
short_count (Get index) said = refl
short_count (Has index) said = refl
short_count (GetKey key) said = refl
short_count (HasKey key) said = refl
short_count (All index) said = refl
short_count (Prune index) said = refl
short_count (Gap index) said = refl
short_count (RangesFrom index) said = refl
short_count command said = absurd said

pub double_count : (command : Spelled) → IsDouble command → length (words_of command) ≡ 3
double_count (Missing index count) said = refl
double_count (HasAt index key) said = refl
double_count command said = absurd said

pub long_count : (max : ℕ) (command : Spelled) → IsLongOf max command → length (words_of command) ≡ 4
long_count max (Put index key value) said = refl
long_count max (PutSync index key value) said = refl
long_count max (PutStart index key value) said = refl
long_count max (Multi index key value) said = refl
long_count max (MultiSync index key value) said = refl
long_count max (MultiStart index key value) said = refl
long_count max command said = absurd said

module _ (c : ℕ) (low : c < 45) where
  pub lone_lacks : (command : Spelled) → IsLone command → AllByRecursion (Lacks c) (words_of command)
  lone_lacks Sync said = (name_lacks c (omega (arith, low)) (codes "sync") refl, tt)
  lone_lacks Start said = (name_lacks c (omega (arith, low)) (codes "start") refl, tt)
  lone_lacks Reopen said = (name_lacks c (omega (arith, low)) (codes "reopen") refl, tt)
  lone_lacks Ranges said = (name_lacks c (omega (arith, low)) (codes "ranges") refl, tt)
  lone_lacks First said = (name_lacks c (omega (arith, low)) (codes "first") refl, tt)
  lone_lacks Last said = (name_lacks c (omega (arith, low)) (codes "last") refl, tt)
  lone_lacks Destroy said = (name_lacks c (omega (arith, low)) (codes "destroy") refl, tt)
  lone_lacks command said = absurd said

  index_lacks : (name : List ℕ) → is_name name ≡ true → (index : ℕ) → IsIndex index → AllByRecursion (Lacks c) (name ∷ decimal index ∷ [])
  index_lacks name letters index h = (name_lacks c (omega (arith, low)) name letters, (decimal_lacks c index (omega (arith, low)) h, tt))

  key_lacks : (name : List ℕ) → is_name name ≡ true → (key : List ℕ) → IsKey key → AllByRecursion (Lacks c) (name ∷ encode_lower key ∷ [])
  key_lacks name letters key h = (name_lacks c (omega (arith, low)) name letters, (encode_lacks c key (omega (arith, low)) h.1, tt))

  pub short_lacks : (command : Spelled) → IsShort command → AllByRecursion (Lacks c) (words_of command)
  short_lacks (Get index) said = index_lacks (codes "get") refl index said
  short_lacks (Has index) said = index_lacks (codes "has") refl index said
  short_lacks (GetKey key) said = key_lacks (codes "getk") refl key said
  short_lacks (HasKey key) said = key_lacks (codes "hask") refl key said
  short_lacks (All index) said = index_lacks (codes "all") refl index said
  short_lacks (Prune index) said = index_lacks (codes "prune") refl index said
  short_lacks (Gap index) said = index_lacks (codes "gap") refl index said
  short_lacks (RangesFrom index) said = index_lacks (codes "rangesfrom") refl index said
  short_lacks command said = absurd said

  pub double_lacks : (command : Spelled) → IsDouble command → AllByRecursion (Lacks c) (words_of command)
  double_lacks (Missing index count) said =
      (name_lacks c (omega (arith, low)) (codes "missing") refl, (decimal_lacks c index (omega (arith, low)) said.0, (decimal_lacks c count (omega (arith, low)) (omega (arith, said.1)), tt)))
  double_lacks (HasAt index key) said =
      (name_lacks c (omega (arith, low)) (codes "hasat") refl, (decimal_lacks c index (omega (arith, low)) said.0, (encode_lacks c key (omega (arith, low)) said.1.1, tt)))
  double_lacks command said = absurd said

  module _ (max : ℕ) where
    record_lacks : (name : List ℕ) → is_name name ≡ true → (index : ℕ) (key value : List ℕ) → IsRecord max (index, key, value)
        → AllByRecursion (Lacks c) (name ∷ decimal index ∷ encode_lower key ∷ value_text value ∷ [])
    record_lacks name letters index key value h =
        (name_lacks c (omega (arith, low)) name letters, (decimal_lacks c index (omega (arith, low)) h.0, (encode_lacks c key (omega (arith, low)) h.1.1, (value_lacks c max value low h.2, tt))))

    pub long_lacks : (command : Spelled) → IsLongOf max command → AllByRecursion (Lacks c) (words_of command)
    long_lacks (Put index key value) said = record_lacks (codes "put") refl index key value said
    long_lacks (PutSync index key value) said = record_lacks (codes "putsync") refl index key value said
    long_lacks (PutStart index key value) said = record_lacks (codes "putstart") refl index key value said
    long_lacks (Multi index key value) said = record_lacks (codes "multi") refl index key value said
    long_lacks (MultiSync index key value) said = record_lacks (codes "multisync") refl index key value said
    long_lacks (MultiStart index key value) said = record_lacks (codes "multistart") refl index key value said
    long_lacks command said = absurd said

    shape_lacks : (command : Spelled) → IsShaped max command → AllByRecursion (Lacks c) (words_of command)
    shape_lacks command (inl lone) = lone_lacks command lone
    shape_lacks command (inr (inl short)) = short_lacks command short
    shape_lacks command (inr (inr (inl double))) = double_lacks command double
    shape_lacks command (inr (inr (inr long))) = long_lacks command long

    words_lack : (command : Spelled) → CanBeSaid max command → AllByRecursion (Lacks c) (words_of command)
    words_lack command said = shape_lacks command (shaped max command said)

pub shape_some : (max : ℕ) (command : Spelled) → IsShaped max command → 0 < length (words_of command)
shape_some max command (inl lone) = omega (arith, lone_count command lone)
shape_some max command (inr (inl short)) = omega (arith, short_count command short)
shape_some max command (inr (inr (inl double))) = omega (arith, double_count command double)
shape_some max command (inr (inr (inr long))) = omega (arith, long_count max command long)

words_some : (max : ℕ) (command : Spelled) → CanBeSaid max command → 0 < length (words_of command)
words_some max command said = shape_some max command (shaped max command said)

pub line_lacks : (max c : ℕ) → c < 32 → (command : Spelled) → CanBeSaid max command → Lacks c (line_of command)
unfolding line_of
line_lacks max c low command said = joined_lacks c 32 (omega arith) (words_of command) (words_lack c (omega arith) max command said)

abbrev pub number_in : List ℕ → ℕ
number_in word = digits_value 10 word

number_again : (index : ℕ) → IsIndex index → number_in (decimal index) ≡ index
number_again index h = (decimal_is_IsNumeral index h).1

abbrev pub decoded : Result (List ℕ) FromHexError → List ℕ
decoded (Ok bytes) = bytes
decoded (Err e) = []

-- a dash has an odd length, and so reads as no bytes
abbrev pub bytes_in : List ℕ → List ℕ
bytes_in word = decoded (decode_of word)

key_again : (key : List ℕ) → IsKey key → bytes_in (encode_lower key) ≡ key
key_again key h = ap decoded (decode_of-encode_lower key (are_bytes key h.1))

value_again : (max : ℕ) (value : List ℕ) → IsValue max value → bytes_in (value_text value) ≡ value
value_again max [] h = refl
value_again max (byte ∷ bytes) h = ap decoded (decode_of-encode_lower (byte ∷ bytes) (are_bytes (byte ∷ bytes) h.1))

-- the command of a name and what stands behind it; where no name is one of a command it is the last one
abbrev lone_named : List ℕ → Spelled
lone_named name =
    if bytes_eq name (codes "sync") then Sync
    else if bytes_eq name (codes "start") then Start
    else if bytes_eq name (codes "reopen") then Reopen
    else if bytes_eq name (codes "ranges") then Ranges
    else if bytes_eq name (codes "first") then First
    else if bytes_eq name (codes "last") then Last
    else Destroy

abbrev pub short_named : List ℕ → List ℕ → Spelled
short_named name word =
    if bytes_eq name (codes "get") then Get (number_in word)
    else if bytes_eq name (codes "has") then Has (number_in word)
    else if bytes_eq name (codes "getk") then GetKey (bytes_in word)
    else if bytes_eq name (codes "hask") then HasKey (bytes_in word)
    else if bytes_eq name (codes "prune") then Prune (number_in word)
    else if bytes_eq name (codes "all") then All (number_in word)
    else if bytes_eq name (codes "gap") then Gap (number_in word)
    else if bytes_eq name (codes "rangesfrom") then RangesFrom (number_in word)
    else Destroy

abbrev double_named : List ℕ → List ℕ → List ℕ → Spelled
double_named name first second =
    if bytes_eq name (codes "missing") then Missing (number_in first) (number_in second)
    else if bytes_eq name (codes "hasat") then HasAt (number_in first) (bytes_in second)
    else Destroy

abbrev long_named : List ℕ → ℕ → List ℕ → List ℕ → Spelled
long_named name index key value =
    if bytes_eq name (codes "put") then Put index key value
    else if bytes_eq name (codes "putsync") then PutSync index key value
    else if bytes_eq name (codes "putstart") then PutStart index key value
    else if bytes_eq name (codes "multi") then Multi index key value
    else if bytes_eq name (codes "multisync") then MultiSync index key value
    else if bytes_eq name (codes "multistart") then MultiStart index key value
    else Destroy

abbrev pub said_by : List (List ℕ) → Spelled
said_by (name ∷ []) = lone_named name
said_by (name ∷ word ∷ []) = short_named name word
said_by (name ∷ first ∷ second ∷ []) = double_named name first second
said_by (name ∷ index ∷ key ∷ value ∷ []) = long_named name (number_in index) (bytes_in key) (bytes_in value)
said_by words = Destroy

lone_again : (command : Spelled) → IsLone command → said_by (words_of command) ≡ command
lone_again Sync said = refl
lone_again Start said = refl
lone_again Reopen said = refl
lone_again Ranges said = refl
lone_again First said = refl
lone_again Last said = refl
lone_again Destroy said = refl
lone_again command said = absurd said

pub short_again : (command : Spelled) → IsShort command → said_by (words_of command) ≡ command
short_again (Get index) said = ap Get (number_again index said)
short_again (Has index) said = ap Has (number_again index said)
short_again (GetKey key) said = ap GetKey (key_again key said)
short_again (HasKey key) said = ap HasKey (key_again key said)
short_again (All index) said = ap All (number_again index said)
short_again (Prune index) said = ap Prune (number_again index said)
short_again (Gap index) said = ap Gap (number_again index said)
short_again (RangesFrom index) said = ap RangesFrom (number_again index said)
short_again command said = absurd said

double_again : (command : Spelled) → IsDouble command → said_by (words_of command) ≡ command
double_again (Missing index count) said = rw (number_again index said.0, number_again count (omega (arith, said.1))) refl
double_again (HasAt index key) said = rw (number_again index said.0, key_again key said.1) refl
double_again command said = absurd said

record_again : (max : ℕ) (make : ℕ → List ℕ → List ℕ → Spelled) (index : ℕ) (key value : List ℕ) → IsRecord max (index, key, value)
    → make (number_in (decimal index)) (bytes_in (encode_lower key)) (bytes_in (value_text value)) ≡ make index key value
record_again max make index key value h = rw (number_again index h.0, key_again key h.1, value_again max value h.2) refl

long_again : (max : ℕ) (command : Spelled) → IsLongOf max command → said_by (words_of command) ≡ command
long_again max (Put index key value) said = record_again max Put index key value said
long_again max (PutSync index key value) said = record_again max PutSync index key value said
long_again max (PutStart index key value) said = record_again max PutStart index key value said
long_again max (Multi index key value) said = record_again max Multi index key value said
long_again max (MultiSync index key value) said = record_again max MultiSync index key value said
long_again max (MultiStart index key value) said = record_again max MultiStart index key value said
long_again max command said = absurd said

shape_again : (max : ℕ) (command : Spelled) → IsShaped max command → said_by (words_of command) ≡ command
shape_again max command (inl lone) = lone_again command lone
shape_again max command (inr (inl short)) = short_again command short
shape_again max command (inr (inr (inl double))) = double_again command double
shape_again max command (inr (inr (inr long))) = long_again max command long

again : (max : ℕ) (command : Spelled) → CanBeSaid max command → said_by (words_of command) ≡ command
again max command said = shape_again max command (shaped max command said)

-- a line says one command
pub line_injective : (max : ℕ) (a b : Spelled) → CanBeSaid max a → CanBeSaid max b → line_of a ≡ line_of b → a ≡ b
unfolding line_of
line_injective max a b ha hb e =
    let words = joined_once 32 (words_of a) (words_of b) (words_some max a ha) (words_some max b hb) (words_lack 32 (lit< tt) max a ha) (words_lack 32 (lit< tt) max b hb) e in
    sym (again max a ha) ∙ ap said_by words ∙ again max b hb
