-- How a line is read: it is cut into words, and its first word names the command.
use Rattle.std.proofs.Common.{◌≡◌, ◌≢◌, ℕ, true, ◌↔◌, inl, inr, List, [], ◌∷◌, ◌++◌, length, Option, Some, None, Result, Ok, Err, codes, refl, sym, ap, ◌∙◌, subst, lit<, arith}
use Rattle.std.specs.Prelude.{IfOk, IfSome, IfNone}
use Rattle.std.specs.List.{AllByRecursion, join_with_byte}
use Rattle.std.specs.Option.{option_map}
use Rattle.std.specs.Str.{bytes_eq}
use Rattle.std.specs.Fmt.{decimal}
use Rattle.hex.specs.Hex.{encode_lower}
use Rattle.archives.specs.Commands.{Put, PutSync, PutStart, Multi, MultiSync, MultiStart, Get, GetKey, All, Has, HasKey, HasAt, Gap, Missing, Ranges, RangesFrom, First, Last, Sync, Start, Prune, Reopen, Destroy}
use Rattle.archive_service.specs.PuttingNames.{command_of, name_of}
use Rattle.archive_service.specs.Texts.{Spelled, line_of, words_of}
use Rattle.archive_service.specs.declared.script.Putting.{Putting}
use Rattle.archive_service.specs.declared.script.Putting.TheVariants as way
use Rattle.archive_service.specs.Script.{CanBeSaid, IsIndex, IsKey}
use Rattle.archive_service.specs.Reading.{IsCounted, IsKeyed, IsRecord, Record, IsCommandOf, IsDouble, IsLone, IsLongOf, IsReading, IsShort, counted_text, keyed_text, record_text}
use Rattle.archive_service.proofs.WordLemmas.{cut_alone, same_word}
use Rattle.archive_service.specs.lemmas.Line.{IsShaped, bytes_in, double_count, double_lacks, is_name, joined_once, lone_count, lone_lacks, long_count, long_lacks, name_lacks, number_in, said_by, shape_some, shaped, short_again, short_count, short_lacks, short_named}
use Rattle.archive_service.specs.lemmas.Word.{Lacks, cut_never, cut_once}

-- ---- words that are joined

-- a line with a space has two words at least; where it has two, it is cut between them
one_word : (c : ℕ) (words : List (List ℕ)) → length words ≡ 1 → AllByRecursion (Lacks c) words → Lacks c (join_with_byte c words)
one_word c [] one h = absurd (omega arith)
one_word c (word ∷ []) one h = h.0
one_word c (word ∷ other ∷ words) one h = absurd (omega arith)

two_words : (c : ℕ) (x y : List ℕ) (words : List (List ℕ)) → length words ≡ 2 → AllByRecursion (Lacks c) words → x ++ c ∷ y ≡ join_with_byte c words → words ≡ x ∷ y ∷ []
two_words c x y [] two h e = absurd (omega arith)
two_words c x y (a ∷ []) two h e = absurd (omega arith)
two_words c x y (a ∷ b ∷ []) two h e =
    let parts = cut_alone c a b x y h.0 h.1.0 e in
    rw (parts.0, parts.1) refl
two_words c x y (a ∷ b ∷ d ∷ words) two h e = absurd (omega arith)

-- ---- the words of a command: how many they are, and what they lack

abbrev first_of : List (List ℕ) → List ℕ
first_of [] = []
first_of (word ∷ words) = word

abbrev second_of : List (List ℕ) → List ℕ
second_of (first ∷ word ∷ words) = word
second_of words = []

-- ---- by how many words a line has

lone_said : (max : ℕ) (command : Spelled) → IsLone command → CanBeSaid max command
lone_said max Sync said = said
lone_said max Start said = said
lone_said max Reopen said = said
lone_said max Ranges said = said
lone_said max First said = said
lone_said max Last said = said
lone_said max Destroy said = said
lone_said max command said = absurd said

short_said : (max : ℕ) (command : Spelled) → IsShort command → CanBeSaid max command
short_said max (Get index) said = said
short_said max (Has index) said = said
short_said max (GetKey key) said = said
short_said max (HasKey key) said = said
short_said max (All index) said = said
short_said max (Prune index) said = said
short_said max (Gap index) said = said
short_said max (RangesFrom index) said = said
short_said max command said = absurd said

double_said : (max : ℕ) (command : Spelled) → IsDouble command → CanBeSaid max command
double_said max (Missing index count) said = said
double_said max (HasAt index key) said = said
double_said max command said = absurd said

long_said : (max : ℕ) (command : Spelled) → IsLongOf max command → CanBeSaid max command
long_said max (Put index key value) said = said
long_said max (PutSync index key value) said = said
long_said max (PutStart index key value) said = said
long_said max (Multi index key value) said = said
long_said max (MultiSync index key value) said = said
long_said max (MultiStart index key value) said = said
long_said max command said = absurd said

-- ---- one word

pub lone_refused : (word : List ℕ) → word ≢ codes "sync" → word ≢ codes "start" → word ≢ codes "reopen" → word ≢ codes "ranges" → word ≢ codes "first" → word ≢ codes "last" → word ≢ codes "destroy"
    → (command : Spelled) → IsLone command → word ≢ line_of command
unfolding line_of
lone_refused word sync start reopen ranges first last destroy Sync said = sync
lone_refused word sync start reopen ranges first last destroy Start said = start
lone_refused word sync start reopen ranges first last destroy Reopen said = reopen
lone_refused word sync start reopen ranges first last destroy Ranges said = ranges
lone_refused word sync start reopen ranges first last destroy First said = first
lone_refused word sync start reopen ranges first last destroy Last said = last
lone_refused word sync start reopen ranges first last destroy Destroy said = destroy
lone_refused word sync start reopen ranges first last destroy command said = absurd said

-- no other command is said by one word
shape_only : (max : ℕ) (word : List ℕ) → Lacks 32 word → (command : Spelled) → IsShaped max command → word ≡ line_of command → IsLone command
unfolding line_of
shape_only max word lacks command (inl lone) e = lone
shape_only max word lacks command (inr (inl short)) e =
    let words = joined_once 32 (word ∷ []) (words_of command) (omega arith) (shape_some max command (inr (inl short))) (lacks, tt) (short_lacks 32 (lit< tt) command short) e in
    absurd (omega (arith, ap length words, short_count command short))
shape_only max word lacks command (inr (inr (inl double))) e =
    let words = joined_once 32 (word ∷ []) (words_of command) (omega arith) (shape_some max command (inr (inr (inl double)))) (lacks, tt) (double_lacks 32 (lit< tt) command double) e in
    absurd (omega (arith, ap length words, double_count command double))
shape_only max word lacks command (inr (inr (inr long))) e =
    let words = joined_once 32 (word ∷ []) (words_of command) (omega arith) (shape_some max command (inr (inr (inr long)))) (lacks, tt) (long_lacks 32 (lit< tt) max command long) e in
    absurd (omega (arith, ap length words, long_count max command long))

pub lone_only : (max : ℕ) (word : List ℕ) → Lacks 32 word → (command : Spelled) → CanBeSaid max command → word ≡ line_of command → IsLone command
lone_only max word lacks command said e = shape_only max word lacks command (shaped max command said) e

-- and none of those by more words
pub lone_never : (name words : List ℕ) (command : Spelled) → IsLone command → name ++ 32 ∷ words ≢ line_of command
unfolding line_of
lone_never name words command said e = cut_never 32 (join_with_byte 32 (words_of command)) name words (one_word 32 (words_of command) (lone_count command said) (lone_lacks 32 (lit< tt) command said)) (sym e)

-- ---- two words

short_words : (name word : List ℕ) (command : Spelled) → IsShort command → name ++ 32 ∷ word ≡ line_of command → words_of command ≡ name ∷ word ∷ []
unfolding line_of
short_words name word command said e = two_words 32 name word (words_of command) (short_count command said) (short_lacks 32 (lit< tt) command said) e

pub short_unnamed : (name word : List ℕ) → name ≢ codes "get" → name ≢ codes "has" → name ≢ codes "getk" → name ≢ codes "hask" → name ≢ codes "gap" → name ≢ codes "rangesfrom" → name ≢ codes "prune"
    → name ≢ codes "all"
    → (command : Spelled) → IsShort command → name ++ 32 ∷ word ≢ line_of command
short_unnamed name word get has getk hask gap rangesfrom prune all (Get index) said e = get (sym (ap first_of (short_words name word (Get index) said e)))
short_unnamed name word get has getk hask gap rangesfrom prune all (Has index) said e = has (sym (ap first_of (short_words name word (Has index) said e)))
short_unnamed name word get has getk hask gap rangesfrom prune all (GetKey key) said e = getk (sym (ap first_of (short_words name word (GetKey key) said e)))
short_unnamed name word get has getk hask gap rangesfrom prune all (HasKey key) said e = hask (sym (ap first_of (short_words name word (HasKey key) said e)))
short_unnamed name word get has getk hask gap rangesfrom prune all (All index) said e = all (sym (ap first_of (short_words name word (All index) said e)))
short_unnamed name word get has getk hask gap rangesfrom prune all (Gap index) said e = gap (sym (ap first_of (short_words name word (Gap index) said e)))
short_unnamed name word get has getk hask gap rangesfrom prune all (RangesFrom index) said e = rangesfrom (sym (ap first_of (short_words name word (RangesFrom index) said e)))
short_unnamed name word get has getk hask gap rangesfrom prune all (Prune index) said e = prune (sym (ap first_of (short_words name word (Prune index) said e)))
short_unnamed name word get has getk hask gap rangesfrom prune all command said e = absurd said

-- the command of this name is made of what its one word reads as
pub record IsNamed {A : Type 0} (may_be : A → Type 0) (text_of : A → List ℕ) (read : List ℕ → A) (make : A → Spelled) (own : List ℕ) : Type 0 where
  pub is_short : (thing : A) → IsShort (make thing) ↔ may_be thing
  pub words : (thing : A) → words_of (make thing) ≡ own ∷ text_of thing ∷ []
  pub named : (word : List ℕ) → short_named own word ≡ make (read word)

pub get_named : IsNamed IsIndex decimal number_in Get (codes "get")
get_named = record { is_short = λ index. ((λ h. h), (λ h. h)); words = λ index. refl; named = λ word. refl }

pub has_named : IsNamed IsIndex decimal number_in Has (codes "has")
has_named = record { is_short = λ index. ((λ h. h), (λ h. h)); words = λ index. refl; named = λ word. refl }

pub getk_named : IsNamed IsKey encode_lower bytes_in GetKey (codes "getk")
getk_named = record { is_short = λ key. ((λ h. h), (λ h. h)); words = λ key. refl; named = λ word. refl }

pub hask_named : IsNamed IsKey encode_lower bytes_in HasKey (codes "hask")
hask_named = record { is_short = λ key. ((λ h. h), (λ h. h)); words = λ key. refl; named = λ word. refl }

pub all_named : IsNamed IsIndex decimal number_in All (codes "all")
all_named = record { is_short = λ index. ((λ h. h), (λ h. h)); words = λ index. refl; named = λ word. refl }

pub prune_named : IsNamed IsIndex decimal number_in Prune (codes "prune")
prune_named = record { is_short = λ index. ((λ h. h), (λ h. h)); words = λ index. refl; named = λ word. refl }

pub gap_named : IsNamed IsIndex decimal number_in Gap (codes "gap")
gap_named = record { is_short = λ index. ((λ h. h), (λ h. h)); words = λ index. refl; named = λ word. refl }

pub rangesfrom_named : IsNamed IsIndex decimal number_in RangesFrom (codes "rangesfrom")
rangesfrom_named = record { is_short = λ index. ((λ h. h), (λ h. h)); words = λ index. refl; named = λ word. refl }

-- The name was compared with that of the command, and is the same.
module _ {A : Type 0} {may_be : A → Type 0} {text_of : A → List ℕ} {read : List ℕ → A} {make : A → Spelled} {own : List ℕ} (by : IsNamed may_be text_of read make own)
    (name word : List ℕ) {tested : List ℕ} (is : tested ≡ own) (same : true ≡ bytes_eq name tested) where
  pub short_found : (thing : A) → IsReading may_be text_of word (Some thing) → IsShort (make thing) × (name ++ 32 ∷ word ≡ line_of (make thing))
  unfolding line_of
  short_found thing reading =
      let text : name ++ 32 ∷ word ≡ own ++ 32 ∷ text_of thing = rw (same_word is same, reading.1) refl in
      ((by.is_short thing).1 reading.0, text ∙ sym (ap (join_with_byte 32) (by.words thing)))

  pub short_refused : IsReading may_be text_of word None → (command : Spelled) → IsShort command → name ++ 32 ∷ word ≢ line_of command
  short_refused none command said e =
      let have = short_words name word command said e ∙ ap (λ n. n ∷ word ∷ []) (same_word is same) in
      let made : command ≡ make (read word) = sym (short_again command said) ∙ ap said_by have ∙ by.named word in
      let thing = (by.is_short (read word)).0 (subst IsShort made said) in
      none (read word) thing (ap second_of (sym have ∙ ap words_of made ∙ by.words (read word)))

-- ---- three words

-- The command of this name has a thing of this kind for its two words.
pub record IsDoubleNamed {A : Type 0} (may_be : A → Type 0) (text_of : A → List ℕ) (make : A → Spelled) (own : List ℕ) : Type 0 where
  pub is_double : (thing : A) → may_be thing → IsDouble (make thing)
  pub line : (thing : A) → line_of (make thing) ≡ own ++ 32 ∷ text_of thing
  pub only : (command : Spelled) → IsDouble command → first_of (words_of command) ≡ own → (thing : A) × may_be thing × (command ≡ make thing)

pub missing_named : IsDoubleNamed IsCounted counted_text (λ c. Missing c.0 c.1) (codes "missing")
unfolding line_of
missing_named = record { is_double = λ c h. h; line = λ c. refl; only = only }
  where
    only : (command : Spelled) → IsDouble command → first_of (words_of command) ≡ codes "missing" → (c : ℕ × ℕ) × IsCounted c × (command ≡ Missing c.0 c.1)
    only (Missing index count) said is = ((index, count), said, refl)
    only (HasAt index key) said is = absurd (cc is)
    only command said is = absurd said

pub hasat_named : IsDoubleNamed IsKeyed keyed_text (λ c. HasAt c.0 c.1) (codes "hasat")
unfolding line_of
hasat_named = record { is_double = λ c h. h; line = λ c. refl; only = only }
  where
    only : (command : Spelled) → IsDouble command → first_of (words_of command) ≡ codes "hasat" → (c : ℕ × List ℕ) × IsKeyed c × (command ≡ HasAt c.0 c.1)
    only (HasAt index key) said is = ((index, key), said, refl)
    only (Missing index count) said is = absurd (cc is)
    only command said is = absurd said

-- the name of a command of three words, where a line begins with it
double_name : (name words : List ℕ) → Lacks 32 name → (command : Spelled) → IsDouble command → name ++ 32 ∷ words ≡ line_of command → name ≡ first_of (words_of command)
unfolding line_of
double_name name words lacks (Missing index count) said e =
    (cut_once 32 name (codes "missing") words (counted_text (index, count)) lacks (name_lacks 32 (lit< tt) (codes "missing") refl) e).0
double_name name words lacks (HasAt index key) said e =
    (cut_once 32 name (codes "hasat") words (keyed_text (index, key)) lacks (name_lacks 32 (lit< tt) (codes "hasat") refl) e).0
double_name name words lacks command said e = absurd said

pub double_unnamed : (name words : List ℕ) → Lacks 32 name → name ≢ codes "missing" → name ≢ codes "hasat"
    → (command : Spelled) → IsDouble command → name ++ 32 ∷ words ≢ line_of command
double_unnamed name words lacks missing hasat (Missing index count) said e = missing (double_name name words lacks (Missing index count) said e)
double_unnamed name words lacks missing hasat (HasAt index key) said e = hasat (double_name name words lacks (HasAt index key) said e)
double_unnamed name words lacks missing hasat command said e = absurd said

-- The name was compared with that of the command, and is the same.
module _ {A : Type 0} {may_be : A → Type 0} {text_of : A → List ℕ} {make : A → Spelled} {own : List ℕ} (by : IsDoubleNamed may_be text_of make own)
    (name words : List ℕ) {tested : List ℕ} (is : tested ≡ own) (same : true ≡ bytes_eq name tested) where
  pub double_found : (thing : A) → IsReading may_be text_of words (Some thing) → IsDouble (make thing) × (name ++ 32 ∷ words ≡ line_of (make thing))
  double_found thing reading = (by.is_double thing reading.0, rw (same_word is same, reading.1) refl ∙ sym (by.line thing))

  pub double_refused : Lacks 32 name → IsReading may_be text_of words None → (command : Spelled) → IsDouble command → name ++ 32 ∷ words ≢ line_of command
  double_refused lacks none command said e =
      let name_is = same_word is same in
      let found = by.only command said (sym (double_name name words lacks command said e) ∙ name_is) in
      let both : name ++ 32 ∷ words ≡ own ++ 32 ∷ text_of found.0 = e ∙ ap line_of found.2 ∙ by.line found.0 in
      none found.0 found.1 (cut_once 32 name own words (text_of found.0) lacks (subst (Lacks 32) name_is lacks) both).1

-- ---- four words

-- the name of a command of four words, and its record
abbrev LongParts : ℕ → List ℕ → List ℕ → Spelled → Type 0
LongParts max name words command = (r : Record) × IsRecord max r × (words ≡ record_text r) × (name ≡ first_of (words_of command))

-- where a line begins with this name, the record stands behind it
long_cut : (max : ℕ) (name words : List ℕ) → Lacks 32 name → (own : List ℕ) → is_name own ≡ true → (r : Record) → IsRecord max r → name ++ 32 ∷ words ≡ own ++ 32 ∷ record_text r
    → (s : Record) × IsRecord max s × (words ≡ record_text s) × (name ≡ own)
long_cut max name words lacks own letters r said e =
    let parts = cut_once 32 name own words (record_text r) lacks (name_lacks 32 (lit< tt) own letters) e in
    (r, said, parts.1, parts.0)

long_parts : (max : ℕ) (name words : List ℕ) → Lacks 32 name → (command : Spelled) → IsLongOf max command → name ++ 32 ∷ words ≡ line_of command → LongParts max name words command
unfolding line_of
long_parts max name words lacks (Put index key value) said e = long_cut max name words lacks (codes "put") refl (index, key, value) said e
long_parts max name words lacks (PutSync index key value) said e = long_cut max name words lacks (codes "putsync") refl (index, key, value) said e
long_parts max name words lacks (PutStart index key value) said e = long_cut max name words lacks (codes "putstart") refl (index, key, value) said e
long_parts max name words lacks (Multi index key value) said e = long_cut max name words lacks (codes "multi") refl (index, key, value) said e
long_parts max name words lacks (MultiSync index key value) said e = long_cut max name words lacks (codes "multisync") refl (index, key, value) said e
long_parts max name words lacks (MultiStart index key value) said e = long_cut max name words lacks (codes "multistart") refl (index, key, value) said e
long_parts max name words lacks command said e = absurd said

-- a name that is none of the ways to put is that of no put
pub long_unnamed : (max : ℕ) (name words : List ℕ) → Lacks 32 name → ((putting : Putting) → name ≢ name_of putting)
    → (command : Spelled) → IsLongOf max command → name ++ 32 ∷ words ≢ line_of command
long_unnamed max name words lacks none (Put index key value) said e = none way.Put (long_parts max name words lacks (Put index key value) said e).3
long_unnamed max name words lacks none (PutSync index key value) said e = none way.PutSync (long_parts max name words lacks (PutSync index key value) said e).3
long_unnamed max name words lacks none (PutStart index key value) said e = none way.PutStart (long_parts max name words lacks (PutStart index key value) said e).3
long_unnamed max name words lacks none (Multi index key value) said e = none way.Multi (long_parts max name words lacks (Multi index key value) said e).3
long_unnamed max name words lacks none (MultiSync index key value) said e = none way.MultiSync (long_parts max name words lacks (MultiSync index key value) said e).3
long_unnamed max name words lacks none (MultiStart index key value) said e = none way.MultiStart (long_parts max name words lacks (MultiStart index key value) said e).3
long_unnamed max name words lacks none command said e = absurd said

pub long_refused : (max : ℕ) (name words : List ℕ) → Lacks 32 name → IsReading (IsRecord max) record_text words None
    → (command : Spelled) → IsLongOf max command → name ++ 32 ∷ words ≢ line_of command
long_refused max name words lacks none command said e =
    let parts = long_parts max name words lacks command said e in
    none parts.0 parts.1 parts.2

-- a put of this way has a record for its words
is_long : (max : ℕ) (putting : Putting) (r : Record) → IsRecord max r → IsLongOf max (command_of putting r.0 r.1 r.2)
is_long max way.Put (index, key, value) h = h
is_long max way.PutSync (index, key, value) h = h
is_long max way.PutStart (index, key, value) h = h
is_long max way.Multi (index, key, value) h = h
is_long max way.MultiSync (index, key, value) h = h
is_long max way.MultiStart (index, key, value) h = h

line_is : (putting : Putting) (r : Record) → line_of (command_of putting r.0 r.1 r.2) ≡ name_of putting ++ 32 ∷ record_text r
unfolding line_of
line_is way.Put (index, key, value) = refl
line_is way.PutSync (index, key, value) = refl
line_is way.PutStart (index, key, value) = refl
line_is way.Multi (index, key, value) = refl
line_is way.MultiSync (index, key, value) = refl
line_is way.MultiStart (index, key, value) = refl

-- what is made of a record, seen as a command, is what the line says
pub long_found : (max : ℕ) (putting : Putting) (name words : List ℕ) → name ≡ name_of putting → (r : Record) → IsRecord max r → words ≡ record_text r → (seen : Spelled) → seen ≡ command_of putting r.0 r.1 r.2
    → IsLongOf max seen × (name ++ 32 ∷ words ≡ line_of seen)
long_found max putting name words is r may text seen same =
    (subst (IsLongOf max) (sym same) (is_long max putting r may), rw (is, text) refl ∙ sym (line_is putting r) ∙ ap line_of (sym same))

-- ---- any line

-- what is found is seen as a command
module _ {A : Type 0} (seen : A → Spelled) (max : ℕ) (line : List ℕ) where
  pub lone_reading : Lacks 32 line → (found : Option A) → IfSome found (λ x. IsLone (seen x) × (line ≡ line_of (seen x)))
      → IfNone found ((command : Spelled) → IsLone command → line ≢ line_of command) → IsCommandOf max line (option_map seen found)
  lone_reading lacks (Some x) is none = (lone_said max (seen x) is.0, is.1)
  lone_reading lacks None is none = λ command said e. none command (lone_only max line lacks command said e) e

  -- a name, and words behind it
  module _ (name words : List ℕ) (at : line ≡ name ++ 32 ∷ words) where
    pub short_reading : (x : A) → IsShort (seen x) × (name ++ 32 ∷ words ≡ line_of (seen x)) → IsCommandOf max line (Some (seen x))
    short_reading x is = (short_said max (seen x) is.0, at ∙ is.1)

    pub double_reading : (x : A) → IsDouble (seen x) × (name ++ 32 ∷ words ≡ line_of (seen x)) → IsCommandOf max line (Some (seen x))
    double_reading x is = (double_said max (seen x) is.0, at ∙ is.1)

    module _ (no_short : (command : Spelled) → IsShort command → name ++ 32 ∷ words ≢ line_of command) (no_double : (command : Spelled) → IsDouble command → name ++ 32 ∷ words ≢ line_of command) where
      shape_refused : ((command : Spelled) → IsLongOf max command → name ++ 32 ∷ words ≢ line_of command) → (command : Spelled) → IsShaped max command → line ≢ line_of command
      shape_refused no_long command (inl lone) e = lone_never name words command lone (sym at ∙ e)
      shape_refused no_long command (inr (inl short)) e = no_short command short (sym at ∙ e)
      shape_refused no_long command (inr (inr (inl double))) e = no_double command double (sym at ∙ e)
      shape_refused no_long command (inr (inr (inr long))) e = no_long command long (sym at ∙ e)

      refused : ((command : Spelled) → IsLongOf max command → name ++ 32 ∷ words ≢ line_of command) → (command : Spelled) → CanBeSaid max command → line ≢ line_of command
      refused no_long command said = shape_refused no_long command (shaped max command said)

      long_reading : (found : Option A) → IfSome found (λ x. IsLongOf max (seen x) × (name ++ 32 ∷ words ≡ line_of (seen x)))
          → IfNone found ((command : Spelled) → IsLongOf max command → name ++ 32 ∷ words ≢ line_of command) → IsCommandOf max line (option_map seen found)
      long_reading (Some x) is none = (long_said max (seen x) is.0, at ∙ is.1)
      long_reading None is none = refused none

      pub long_result : {E : Type 0} (r : Result (Option A) E) → IfOk r (λ found. IfSome found (λ x. IsLongOf max (seen x) × (name ++ 32 ∷ words ≡ line_of (seen x))))
          → IfOk r (λ found. IfNone found ((command : Spelled) → IsLongOf max command → name ++ 32 ∷ words ≢ line_of command)) → IfOk r (λ found. IsCommandOf max line (option_map seen found))
      long_result (Ok found) is none = long_reading found is none
      long_result (Err e) is none = tt
