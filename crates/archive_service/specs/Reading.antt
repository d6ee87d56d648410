-- What reading a text comes to: a script, a line, a word.
use Rattle.std.specs.Prelude.{◌≡◌, ◌≢◌, ℕ, List, [], ◌∷◌, ◌++◌, Option, Some, None, Result, Ok, Err}
use Rattle.std.specs.Fmt.{decimal}
use Rattle.hex.specs.Hex.{encode_lower}
use Rattle.std.specs.List.{join_with_byte}
use Rattle.archives.specs.Commands.{Put, PutSync, PutStart, Multi, MultiSync, MultiStart, Get, GetKey, All, Has, HasKey, HasAt, Gap, Missing, Ranges, RangesFrom, First, Last, Sync, Start, Prune, Reopen, Destroy}
use Rattle.archive_service.specs.declared.script.ScriptError.{ScriptError}
use Rattle.archive_service.specs.declared.script.ScriptError.TheVariants.{Line, Mem}
use Rattle.archive_service.specs.Texts.{Spelled, line_of, value_text}
use Rattle.archive_service.specs.Script.{CanBeSaid, IsFirstBad, IsIndex, IsKey, Spells, IsCount, IsValue}

-- an index, a key and a value, as a put has them
abbrev pub Record : Type 0
Record = ℕ × List ℕ × List ℕ

abbrev pub IsRecord : ℕ → Record → Type 0
IsRecord max (index, key, value) = IsIndex index × IsKey key × IsValue max value

-- an index and a number of indices
abbrev pub IsCounted : ℕ × ℕ → Type 0
IsCounted (index, count) = IsIndex index × IsCount count

-- an index and a key
abbrev pub IsKeyed : ℕ × List ℕ → Type 0
IsKeyed (index, key) = IsIndex index × IsKey key

-- ---- lines by how many words they have

-- a command of one word
abbrev pub IsLone : Spelled → Type 0
IsLone Sync = Unit {0}
IsLone Start = Unit {0}
IsLone Reopen = Unit {0}
IsLone Ranges = Unit {0}
IsLone First = Unit {0}
IsLone Last = Unit {0}
IsLone Destroy = Unit {0}
IsLone command = ⊥

-- a command of two words
abbrev pub IsShort : Spelled → Type 0
IsShort (Get index) = IsIndex index
IsShort (Has index) = IsIndex index
IsShort (GetKey key) = IsKey key
IsShort (HasKey key) = IsKey key
IsShort (All index) = IsIndex index
IsShort (Gap index) = IsIndex index
IsShort (RangesFrom index) = IsIndex index
IsShort (Prune index) = IsIndex index
IsShort command = ⊥

-- a command of three words
abbrev pub IsDouble : Spelled → Type 0
IsDouble (Missing index count) = IsCounted (index, count)
IsDouble (HasAt index key) = IsKeyed (index, key)
IsDouble command = ⊥

-- a put, with a value of at most max bytes
abbrev pub IsLongOf : ℕ → Spelled → Type 0
IsLongOf max (Put index key value) = IsRecord max (index, key, value)
IsLongOf max (PutSync index key value) = IsRecord max (index, key, value)
IsLongOf max (PutStart index key value) = IsRecord max (index, key, value)
IsLongOf max (Multi index key value) = IsRecord max (index, key, value)
IsLongOf max (MultiSync index key value) = IsRecord max (index, key, value)
IsLongOf max (MultiStart index key value) = IsRecord max (index, key, value)
IsLongOf max command = ⊥

-- the words of a record, of an index and a number, and of an index and a key, with one space (32) between two
abbrev pub record_text : Record → List ℕ
record_text (index, key, value) = join_with_byte 32 (decimal index ∷ encode_lower key ∷ value_text value ∷ [])

abbrev pub counted_text : ℕ × ℕ → List ℕ
counted_text (index, count) = join_with_byte 32 (decimal index ∷ decimal count ∷ [])

abbrev pub keyed_text : ℕ × List ℕ → List ℕ
keyed_text (index, key) = join_with_byte 32 (decimal index ∷ encode_lower key ∷ [])

-- ---- what reading finds

-- why a text is refused: a line that is named is the first bad one, and want of memory may come at any text
abbrev pub IsScriptError : ℕ → List ℕ → ScriptError → Type 0
IsScriptError max text (Line n) = IsFirstBad max text n
IsScriptError max text Mem = Unit {0}

-- what reading a text as a script finds: the commands that it spells, or why it is refused
abbrev pub ReadsScript : ℕ → List ℕ → Result (List Spelled) ScriptError → Type 0
ReadsScript max text (Ok commands) = Spells max text commands
ReadsScript max text (Err e) = IsScriptError max text e

-- What reading a text as one thing finds: the thing that the text spells, or None where it spells none that may be
-- said.
abbrev pub IsReading : {A : Type 0} → (A → Type 0) → (A → List ℕ) → List ℕ → Option A → Type 0
IsReading may_be text_of text (Some found) = may_be found × (text ≡ text_of found)
IsReading {A} may_be text_of text None = (thing : A) → may_be thing → text ≢ text_of thing

-- what reading a line finds: the command that the line says
abbrev pub IsCommandOf : ℕ → List ℕ → Option Spelled → Type 0
IsCommandOf max line found = IsReading (CanBeSaid max) line_of line found

-- what taking the first line of a text finds: a command, and what stands behind its line
abbrev pub IsFirstLine : ℕ → List ℕ → Option (Spelled × List ℕ) → Type 0
IsFirstLine max text found =
    IsReading {A = Spelled × List ℕ} (λ x. CanBeSaid max x.0) (λ x. line_of x.0 ++ 10 ∷ x.1) text found
