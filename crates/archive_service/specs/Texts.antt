-- The texts of values, commands and replies. Each command and each reply has one text.
use Rattle.std.specs.Prelude.{ℕ, true, false, List, [], ◌∷◌, ◌++◌, Option, Some, None, codes}
use Rattle.std.specs.List.{flat_map, join_with_byte}
use Rattle.std.specs.Fmt.{decimal}
use Rattle.hex.specs.Hex.{encode_lower}
use Rattle.archives.specs.Commands.{Command, Put, PutSync, PutStart, Multi, MultiSync, MultiStart, Get, GetKey, All, Has, HasKey, HasAt, Gap, Missing, Ranges, RangesFrom, First, Last, Sync, Start, Prune, Reopen, Destroy}
use Rattle.archives.specs.Replies as reply
use Rattle.archives.specs.Replies.{Reply}

-- a command whose value is its bytes
abbrev pub Spelled : Type 0
Spelled = Command (List ℕ)

-- a value is its lower-case hexadecimal, or a dash where it is empty
abbrev pub value_text : List ℕ → List ℕ
value_text [] = codes "-"
value_text (byte ∷ bytes) = encode_lower (byte ∷ bytes)

-- the words of a command's line: numbers are decimal in their shortest spelling, keys lower-case hexadecimal
abbrev pub words_of : Spelled → List (List ℕ)
words_of (Put index key value) = codes "put" ∷ decimal index ∷ encode_lower key ∷ value_text value ∷ []
words_of (PutSync index key value) = codes "putsync" ∷ decimal index ∷ encode_lower key ∷ value_text value ∷ []
words_of (PutStart index key value) = codes "putstart" ∷ decimal index ∷ encode_lower key ∷ value_text value ∷ []
words_of (Multi index key value) = codes "multi" ∷ decimal index ∷ encode_lower key ∷ value_text value ∷ []
words_of (MultiSync index key value) = codes "multisync" ∷ decimal index ∷ encode_lower key ∷ value_text value ∷ []
words_of (MultiStart index key value) = codes "multistart" ∷ decimal index ∷ encode_lower key ∷ value_text value ∷ []
words_of (Get index) = codes "get" ∷ decimal index ∷ []
words_of (GetKey key) = codes "getk" ∷ encode_lower key ∷ []
words_of (All index) = codes "all" ∷ decimal index ∷ []
words_of (Has index) = codes "has" ∷ decimal index ∷ []
words_of (HasKey key) = codes "hask" ∷ encode_lower key ∷ []
words_of (HasAt index key) = codes "hasat" ∷ decimal index ∷ encode_lower key ∷ []
words_of (Gap index) = codes "gap" ∷ decimal index ∷ []
words_of (Missing index count) = codes "missing" ∷ decimal index ∷ decimal count ∷ []
words_of Ranges = codes "ranges" ∷ []
words_of (RangesFrom index) = codes "rangesfrom" ∷ decimal index ∷ []
words_of First = codes "first" ∷ []
words_of Last = codes "last" ∷ []
words_of Sync = codes "sync" ∷ []
words_of Start = codes "start" ∷ []
words_of (Prune index) = codes "prune" ∷ decimal index ∷ []
words_of Reopen = codes "reopen" ∷ []
words_of Destroy = codes "destroy" ∷ []

-- one space (32) stands between two words
unfoldable pub line_of : Spelled → List ℕ
line_of command = join_with_byte 32 (words_of command)

-- each line is ended by LF (10)
abbrev pub script_text : List Spelled → List ℕ
script_text [] = []
script_text (command ∷ commands) = line_of command ++ 10 ∷ script_text commands

-- a number, or a dash where there is none
abbrev pub number_text : Option ℕ → List ℕ
number_text None = codes "-"
number_text (Some n) = decimal n

-- a run of numbers, from its first to its last
abbrev pub run_text : ℕ × ℕ → List ℕ
run_text run = decimal run.0 ++ codes "-" ++ decimal run.1

-- words behind another, each behind one space (32)
abbrev pub words_text : {A : Type 0} → (A → List ℕ) → List A → List ℕ
words_text text_of things = flat_map (λ thing. 32 ∷ text_of thing) things

-- the line of a reply, with its LF
abbrev pub reply_text : Reply (List ℕ) → List ℕ
reply_text reply.Done = codes "ok\n"
reply_text (reply.Value None) = codes "none\n"
reply_text (reply.Value (Some value)) = codes "value " ++ value_text value ++ codes "\n"
reply_text (reply.Values None) = codes "none\n"
reply_text (reply.Values (Some values)) = codes "values" ++ words_text value_text values ++ codes "\n"
reply_text (reply.Flag true) = codes "yes\n"
reply_text (reply.Flag false) = codes "no\n"
reply_text (reply.Gap end next) = codes "gap " ++ number_text end ++ codes " " ++ number_text next ++ codes "\n"
reply_text (reply.Items numbers) = codes "items" ++ words_text decimal numbers ++ codes "\n"
reply_text (reply.Ranges runs) = codes "ranges" ++ words_text run_text runs ++ codes "\n"
reply_text (reply.Index None) = codes "none\n"
reply_text (reply.Index (Some n)) = codes "index " ++ decimal n ++ codes "\n"
reply_text reply.Unsupported = codes "unsupported\n"
reply_text reply.Closed = codes "closed\n"

-- the lines of replies, in order
abbrev pub replies_text : List (Reply (List ℕ)) → List ℕ
replies_text replies = flat_map reply_text replies

-- the line that names a bad line of a script by its number
abbrev pub bad_line_text : ℕ → List ℕ
bad_line_text n = codes "error line " ++ decimal n ++ codes "\n"
