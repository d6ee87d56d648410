-- The grammar of scripts: from bytes to a list of commands, line by line.
use Rattle.std.specs.Prelude.{◌≡◌, ◌≢◌, ℕ, ◌+◌, ◌^◌, ◌<◌, ◌≤◌, List, [], ◌∷◌, ◌++◌, length}
use Rattle.std.specs.List.{AllByRecursion}
use Rattle.archives.specs.Commands.{Put, PutSync, PutStart, Multi, MultiSync, MultiStart, Get, GetKey, All, Has, HasKey, HasAt, Gap, Missing, Ranges, RangesFrom, First, Last, Sync, Start, Prune, Reopen, Destroy}
use Rattle.archive_service.specs.Texts.{Spelled, line_of, script_text}

abbrev pub AreBytes : List ℕ → Type 0
AreBytes bytes = AllByRecursion (λ byte. byte < 256) bytes

-- what a line may say: an index of 64 bits, a number of indices that are asked for at once, a key of eight bytes, a
-- value of at most max bytes
abbrev pub IsIndex : ℕ → Type 0
IsIndex index = index < 2 ^ 64

abbrev pub IsCount : ℕ → Type 0
IsCount count = count ≤ 2 ^ 16

abbrev pub IsKey : List ℕ → Type 0
IsKey key = (length key ≡ 8) × AreBytes key

abbrev pub IsValue : ℕ → List ℕ → Type 0
IsValue max value = (length value ≤ max) × AreBytes value

-- the reader takes the command: its numbers, its key and its value are of their types
abbrev pub CanBeSaid : ℕ → Spelled → Type 0
CanBeSaid max (Put index key value) = IsIndex index × IsKey key × IsValue max value
CanBeSaid max (PutSync index key value) = IsIndex index × IsKey key × IsValue max value
CanBeSaid max (PutStart index key value) = IsIndex index × IsKey key × IsValue max value
CanBeSaid max (Multi index key value) = IsIndex index × IsKey key × IsValue max value
CanBeSaid max (MultiSync index key value) = IsIndex index × IsKey key × IsValue max value
CanBeSaid max (MultiStart index key value) = IsIndex index × IsKey key × IsValue max value
CanBeSaid max (Get index) = IsIndex index
CanBeSaid max (GetKey key) = IsKey key
CanBeSaid max (All index) = IsIndex index
CanBeSaid max (Has index) = IsIndex index
CanBeSaid max (HasKey key) = IsKey key
CanBeSaid max (HasAt index key) = IsIndex index × IsKey key
CanBeSaid max (Gap index) = IsIndex index
CanBeSaid max (Missing index count) = IsIndex index × IsCount count
CanBeSaid max Ranges = Unit {0}
CanBeSaid max (RangesFrom index) = IsIndex index
CanBeSaid max First = Unit {0}
CanBeSaid max Last = Unit {0}
CanBeSaid max Sync = Unit {0}
CanBeSaid max Start = Unit {0}
CanBeSaid max (Prune index) = IsIndex index
CanBeSaid max Reopen = Unit {0}
CanBeSaid max Destroy = Unit {0}

-- the text is the script of these commands: their lines, one behind the other, and nothing else
pub record Spells (max : ℕ) (text : List ℕ) (commands : List Spelled) : Type 0 where
  -- each is one that the reader takes
  pub said : AllByRecursion (CanBeSaid max) commands
  -- the text has their lines alone
  pub text_is : text ≡ script_text commands

-- The text does not begin with the line of any command, and is not empty. So it begins with a line that is bad, or
-- with bytes behind which no LF comes.
pub record BeginsBadly (max : ℕ) (text : List ℕ) : Type 0 where
  -- it is not empty
  pub some : text ≢ []
  -- it does not begin with the line of a command
  pub bad : (command : Spelled) (rest : List ℕ) → CanBeSaid max command → text ≢ line_of command ++ 10 ∷ rest

-- Line n of the text, counted from 1, is the first bad one: the lines before it are those of commands.
pub record IsFirstBad (max : ℕ) (text : List ℕ) (n : ℕ) : Type 0 where
  -- the commands of the lines before it
  pub before : List Spelled
  -- the text from it on
  pub rest : List ℕ
  -- each command is one that the reader takes
  pub said : AllByRecursion (CanBeSaid max) before
  -- the text is their lines, and the rest
  pub text_is : text ≡ script_text before ++ rest
  -- they are one fewer than its number
  pub number : n ≡ length before + 1
  -- the rest begins with no line of a command
  pub bad : BeginsBadly max rest
