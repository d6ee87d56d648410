-- What the program answers to its input, and what it leaves on its device at every moment.
use Rattle.std.specs.Prelude.{◌≡◌, ◌≢◌, ◌⊎◌, ⊤, ℕ, ◌+◌, ◌^◌, ◌≤◌, List, [], ◌∷◌, ◌++◌, length, Contains, true, Option, Some, None, IsSome, IfSome, codes}
use Rattle.blob_device.specs.Counts.{Rose}
use Rattle.blob_device.specs.Disk.{NothingPending}
use Rattle.blob_device.specs.Timeline.{Timeline, disk}
use Rattle.blob_device.specs.declared.device.Device as device
use Rattle.blob_device.specs.declared.sink.Sink as sink
use Rattle.blob_device.specs.declared.source.Source as source
use Rattle.value_codec.specs.Digest.{seal_number}
use Rattle.value_codec.specs.Spelling.{length_refusal}
use Rattle.value_codec.specs.contracts.seal.Sha256SealSeal.TheImpl as sha256
use Rattle.section_manager.specs.declared.journal.Error.TheVariants as journal
use Rattle.paired.specs.Kept.{Markers}
use Rattle.paired.specs.Opening.{as_read}
use Rattle.paired.specs.sighted.Shown.{marker_format}
use Rattle.archives.specs.Filing.{Filing}
use Rattle.archives.specs.IndexRecord.{place_of}
use Rattle.archives.specs.Lawful.{Lawful}
use Rattle.archives.specs.Replies.{Reply}
use Rattle.archives.specs.declared.error.Error.{Error}
use Rattle.archives.specs.declared.error.Error.TheVariants.{Journal, Full, Mem}
use Rattle.archives.specs.Refusing.{IsFault}
use Rattle.archive_service.specs.ErrorTexts.{served_text}
use Rattle.archive_service.specs.Script.{Spells, IsFirstBad}
use Rattle.archive_service.specs.Kinds.{Kind}
use Rattle.archive_service.specs.Made.{made, made_text}
use Rattle.archive_service.specs.PrunableKind.{prunable_kind}
use Rattle.archive_service.specs.Serves.{ServesBy}
use Rattle.archive_service.specs.Texts.{Spelled, bad_line_text}
use Rattle.archive_service.specs.declared.ended.Ended.{Ended}
use Rattle.archive_service.specs.declared.replies.End.{End}
use Rattle.archive_service.specs.declared.replies.End.TheVariants.{Done, Failed}
use Rattle.archive_program.specs.Taking.{TakesPrefix}
use Rattle.archive_program.specs.Words.{AreOfNoForm, AsksFor, Job, Make, Script}
use Rattle.archive_service.specs.declared.settings.Settings.{Settings}

-- How the program's archive files its records, where a section has room for so many indices: keys have eight bytes, a
-- value is its bytes, and the seal is the first four bytes of SHA-256.
abbrev pub program_filing : Settings → ℕ → Filing
program_filing settings items = record {
  layout = record {
    index = codes "keys";
    values = codes "values";
    marked = true;
    metadata = codes "meta";
    page_size = settings.page_size;
    record_size = 28;
    seal = seal_number;
    place = place_of 8;
    markers = marker_format sha256.ghosts;
  };
  items = items;
  key_size = 8;
  refusal = λ bytes. length_refusal settings.max_value bytes;
  most_sections = settings.limits.sections;
  most_records = settings.limits.per_section;
}

-- the error of a run that is handed out; want of memory is none
abbrev pub error_of : End → Option Error
error_of Done = None
error_of (Failed Mem) = None
error_of (Failed e) = Some e

-- the archive refused a put, or had no next version for its markers
abbrev pub IsRefusal : Error → Type 0
IsRefusal e = (e ≡ Full) ⊎ (e ≡ Journal journal.ValueTooLarge)

-- The program's archive as a kind of store. Both of its buffers, of records and of values, flush from the write buffer
-- on.
abbrev pub program_kind : Settings → ℕ → Kind
program_kind settings items = prunable_kind (program_filing settings items) settings.write_buffer settings.write_buffer

-- The device has nothing pending, and as it reads it holds a lawful image.
pub record MayBeServed (settings : Settings) (items : ℕ) (t : Timeline) : Type 0 where
  -- nothing is pending
  pub nothing_pending : NothingPending (disk t)
  -- these are its markers
  pub markers : Markers
  -- by them its image is lawful
  pub lawful : Lawful (program_filing settings items) (as_read (disk t)) markers

-- ---- what the program is asked for

-- how many indices a section has room for
abbrev pub items_of : Job → ℕ
items_of (Script items) = items
items_of (Make items count) = items

-- ---- where the commands come from

-- the commands that it serves, of this input, where a value may have so many bytes; a generated script needs
-- no input
abbrev pub Orders : Job → ℕ → List ℕ → List Spelled → Type 0
Orders (Script items) max input commands = Spells max input commands
Orders (Make items count) max input commands = commands ≡ made count

-- the input orders nothing, since the line of this number is bad
abbrev pub IsBadAt : Job → ℕ → List ℕ → ℕ → Type 0
IsBadAt (Script items) max input number = IsFirstBad max input number
IsBadAt (Make items count) max input number = ⊥

-- the job reads the source
abbrev pub Reads : Job → Type 0
Reads (Script items) = ⊤
Reads (Make items count) = ⊥

-- A script is read to its end, and is no longer than an input may be. What was read is said where the source tells it.
pub record ReadsWhole (SourceTells : Type 0) (left_old left_new input : List ℕ) : Type 0 where
  -- the input is all that was left, and nothing is left behind it
  pub read : SourceTells → (left_old ≡ input) × (left_new ≡ [])
  -- it is no longer than an input may be
  pub limit : length input ≤ 2 ^ 24

-- What is done with the source. `IsUnread` says that it was left as it was.
abbrev pub ReadsFor : Job → (IsUnread SourceTells : Type 0) → (left_old left_new : List ℕ) → List ℕ
    → Type 0
ReadsFor (Script items) IsUnread SourceTells left_old left_new input = ReadsWhole SourceTells left_old left_new input
ReadsFor (Make items count) IsUnread SourceTells left_old left_new input = IsUnread × (input ≡ [])

-- The job is given these commands to serve: what is left of the source orders them. Of a job that reads, the source
-- gives it all: it tells what is left, has no more than an input may be, and does not fail. The numbers are its counts
-- of faults.
pub record IsGiven (job : Job) (max : ℕ) (SourceTells : Type 0) (left : List ℕ) (faults_old faults_new : ℕ)
    (commands : List Spelled) : Type 0 where
  -- they are ordered
  pub ordered : Orders job max left commands
  -- and read, where the job reads
  pub given : Reads job → SourceTells × (length left ≤ 2 ^ 24) × ¬ Rose faults_old faults_new

-- ---- how they are served

-- the commands were served, with these marks and replies, up to this end: the headline, and what holds over any image
abbrev pub ServedBy : {D : Type 0} → Settings → Job → device.Ghosts D → D → D → List ℕ
    → List Spelled → List (Reply (List ℕ)) → End → Type 0
ServedBy settings job dev old new marks commands replies end =
    ServesBy (program_kind settings (items_of job)) dev commands marks replies end old new

-- ---- which text is owed

-- the text of what was served: of a script the replies, and the error that ended it; of a generated one its
-- summary, or the error alone
abbrev pub owed : Job → List (Reply (List ℕ)) → End → List ℕ
owed (Script items) replies end = served_text replies end
owed (Make items count) replies end = made_text count replies end

module _ (max : ℕ) (Served : List Spelled → List (Reply (List ℕ)) → End → Type 0) where
  -- the input orders commands, they were served up to such an end, and the text is what is then owed
  pub record AnswersScript (job : Job) (IsEnd : End → Type 0) (input text : List ℕ) : Type 0 where
    -- these are the commands
    pub commands : List Spelled
    -- the input orders them
    pub ordered : Orders job max input commands
    -- they got these replies
    pub replies : List (Reply (List ℕ))
    -- this was the end
    pub end : End
    -- so they were served
    pub served : Served commands replies end
    -- the end is such a one
    pub ended : IsEnd end
    -- and this is the text that is then owed
    pub text_is : text ≡ owed job replies end

-- the input is no script, and the text names its first bad line
pub record NamesBadLine (job : Job) (max : ℕ) (input text : List ℕ) : Type 0 where
  -- this is its number
  pub number : ℕ
  -- the line of that number is the first bad one
  pub first : IsBadAt job max input number
  -- and the text names it
  pub text_is : text ≡ bad_line_text number

-- an answer to the input, whether it orders commands or not; where it does not no command was served
abbrev pub AnswersInput : Job → ℕ → (List Spelled → List (Reply (List ℕ)) → End → Type 0)
    → Option Error → Type 0
    → List ℕ → List ℕ → Type 0
AnswersInput job max Served error IsUnserved input text =
    AnswersScript max Served job (λ end. error ≡ error_of end) input text
    ⊎ (NamesBadLine job max input text × IsUnserved)

-- ---- what was read and written

-- P holds of an input, of which Input says how it was read, and of a text, of which Extent says how much was written.
-- What was written is said where the sink tells it.
pub record Writes (Input : List ℕ → Type 0) (SinkTells : Type 0) (P : List ℕ → List ℕ → Type 0)
    (Extent : List ℕ → List ℕ → List ℕ → Type 0) (taken_old taken_new : List ℕ) : Type 0 where
  -- this is the input
  pub input : List ℕ
  -- so it was read
  pub read : Input input
  -- this is the text
  pub text : List ℕ
  -- it is owed to the input
  pub answers : P input text
  -- so much of it was written
  pub written : SinkTells → Extent text taken_old taken_new

-- all of the text was written
abbrev pub InFull : List ℕ → List ℕ → List ℕ → Type 0
InFull text old new = new ≡ old ++ text

-- a prefix of the text was written
pub record InPart (text old new : List ℕ) : Type 0 where
  -- this is the prefix
  pub prefix : List ℕ
  -- this is the rest
  pub rest : List ℕ
  -- they are the text
  pub text_is : text ≡ prefix ++ rest
  -- so much did the sink take
  pub taken : new ≡ old ++ prefix

-- ---- what a call of the program comes to

-- By its words and its settings, how it ended, and the device, the source and the sink, each once as it was and once
-- as it is.
module _ {D S W : Type 0} (settings : Settings) (words : List (List ℕ)) (ended : Ended) (dev : device.Ghosts D)
    (old new : D) (input : source.Ghosts S) (input_old input_new : S) (out : sink.Ghosts W) (out_old out_new : W) where
  -- no command was served
  pub record IsUnserved : Type 0 where
    -- the device is as it was
    pub untouched : new ≡ old
    -- no command was begun
    pub marks : ended.marks ≡ []
    -- no error is handed out
    pub error : ended.error ≡ None

  -- the commands were served, with these marks
  abbrev pub Served : Job → List Spelled → List (Reply (List ℕ)) → End → Type 0
  Served job = ServedBy settings job dev old new ended.marks

  -- the source was read as the job asks, this is the answer to the input, and so much of its text was written
  abbrev pub Gives : Job → (List ℕ → List ℕ → Type 0) → (List ℕ → List ℕ → List ℕ → Type 0) → Type 0
  Gives job P Extent = Writes
      (ReadsFor job (input_new ≡ input_old) input.Tells (input.left input_old) (input.left input_new))
      out.Tells P Extent (out.taken out_old) (out.taken out_new)

  -- The ends of a call that was asked for a job.
  pub record RunsJob (job : Job) : Type 0 where
    -- However it ends: a job that needs no input leaves the source as it was.
    pub unread : (Reads job → ⊥) → input_new ≡ input_old
    -- 0: all commands replied, and all was written.
    pub done : ended.status ≡ 0
        → (ended.error ≡ None)
        × Gives job (AnswersScript settings.max_value (Served job) job (λ end. end ≡ Done)) InFull
    -- 2: the input orders nothing.
    pub bad_script : ended.status ≡ 2 → Gives job (NamesBadLine job settings.max_value) InFull
    -- 3: the source failed, and had not given more than an input may have.
    pub read_fault : ended.status ≡ 3
        → Reads job × (Rose (input.faults input_old) (input.faults input_new)
        × (input.Tells → TakesPrefix (input.left input_old) (input.left input_new) (λ n. n ≤ 2 ^ 24)))
    -- 7: the input has more bytes than an input may have.
    pub too_long : ended.status ≡ 7 → Reads job
        × (input.Tells → TakesPrefix (input.left input_old) (input.left input_new) (λ n. n ≡ 2 ^ 24 + 1))
    -- 4: the sink failed, and a prefix of the text went out.
    pub write_fault : ended.status ≡ 4 → Rose (out.faults out_old) (out.faults out_new)
        × Gives job (AnswersInput job settings.max_value (Served job) ended.error IsUnserved) InPart
    -- 5: the commands ended in an error. All of the text was written.
    pub store_error : ended.status ≡ 5
        → IsSome ended.error
        × Gives job (AnswersScript settings.max_value (Served job) job (λ end. ended.error ≡ error_of end)) InFull
    -- 6: there was no memory, and a prefix of the text went out, or nothing.
    pub no_memory : ended.status ≡ 6
        → (IsUnserved × (out_new ≡ out_old))
        ⊎ Gives job (AnswersInput job settings.max_value (Served job) ended.error IsUnserved) InPart
    -- Commands that are given, over a lawful image, are served, unless a count rises, memory is short, a put is
    -- refused, or the markers would have no next version.
    pub complete : dev.Tells → MayBeServed settings (items_of job) (dev.time old)
        → (commands : List Spelled)
        → IsGiven job settings.max_value input.Tells (input.left input_old) (input.faults input_old)
        (input.faults input_new) commands
        → ¬ Rose (dev.faults old) (dev.faults new) → ¬ Rose (out.faults out_old) (out.faults out_new)
        → Contains (0 ∷ 6 ∷ []) ended.status ⊎ ((ended.status ≡ 5) × IfSome ended.error IsRefusal)

  -- The table of the program's ends.
  pub record Runs : Type 0 where
    -- The status is one of the table.
    pub statuses : ended.status ≤ 7
    -- 1: where it is, the words ask for no job.
    pub usage : ended.status ≡ 1 → AreOfNoForm words
    -- Where it is another, they ask for one.
    pub form : ended.status ≢ 1 → (job : Job) × AsksFor words job
    -- 0, and 2 to 7: as the job asks.
    pub asked : (job : Job) → AsksFor words job → RunsJob job
    -- 5, or 4 or 6 in its place: exactly where the commands ended in an error.
    pub has_error : IsSome ended.error → Contains (4 ∷ 5 ∷ 6 ∷ []) ended.status
    -- Of no input more bytes are taken than one more than an input may have.
    pub at_most : input.Tells
        → TakesPrefix (input.left input_old) (input.left input_new) (λ n. n ≤ 2 ^ 24 + 1)
    -- Where no script was served the device is as it was.
    pub unserved : Contains (1 ∷ 2 ∷ 3 ∷ 7 ∷ []) ended.status → IsUnserved
    -- With words of another form nothing was read either.
    pub unread : ended.status ≡ 1 → input_new ≡ input_old
    -- Without a whole input nothing was written.
    pub silent : Contains (1 ∷ 3 ∷ 7 ∷ []) ended.status → out_new ≡ out_old
    -- A fault is the device's.
    pub fault : IfSome ended.error (λ e. IsFault e → Rose (dev.faults old) (dev.faults new))
    -- The device's count of faults never falls.
    pub faults : dev.faults old ≤ dev.faults new
