-- What the calls that a device in memory keeps of one blob say of it, at each moment.
use Rattle.std.specs.Prelude.{◌≡◌, ◌&&◌, ℕ, ◌+◌, ◌*◌, ◌/◌, Bool, true, false, cond, not, leb, ltb, List, [], ◌∷◌, ◌++◌, length, take, Option, Some, None, is_some, Vec}
use Rattle.std.specs.List.{list_all}
use Rattle.std.specs.Option.{option_map}
use Rattle.std.specs.declared.alloc.Global.{Global}
use Rattle.blob_device.specs.declared.memory.blob_log.Call.{Call}
use Rattle.blob_device.specs.declared.memory.blob_log.Step.{Step}
use Rattle.blob_device.specs.declared.memory.blob_log.Step.TheVariants as step
use Rattle.blob_device.specs.Disk.{Key, Blob, AbsentIsNothing, begun}
use Rattle.blob_device.specs.Change.{Change, Make, Write, Resize, Settle, Remove, Look, during, done, written}
use Rattle.blob_device.specs.Timeline.{Timeline}
use Rattle.blob_device.specs.Counts.{next}
use Rattle.blob_device.specs.Opened.{Opened, OpenedList}

abbrev pub change_of : Step → Change
change_of step.Make = Make
change_of (step.Write at bytes) = Write at bytes.items
change_of (step.Resize n) = Resize n
change_of step.Settle = Settle
change_of step.Remove = Remove

-- call number n made this change, and failed or not
pub record IsCall (c : Call) (n : ℕ) (ch : Change) (f : Bool) : Type 0 where
  pub number : c.number ≡ n
  pub change : change_of c.step ≡ ch
  pub failed : c.failed ≡ f

-- a failed write leaves the first half of its bytes; any other failed change leaves what the blob reads as
abbrev pub failing : Change → Blob → Blob
failing (Write at bytes) b = record (during (Write at bytes) b) { content = written b.content at (take (length bytes / 2) bytes) }
failing Make b = during Make b
failing (Resize n) b = during (Resize n) b
failing Settle b = during Settle b
failing Remove b = during Remove b
failing Look b = during Look b

-- what a call leaves
abbrev pub result_of : Change → Bool → Blob → Blob
result_of change failed b = cond failed (failing change b) (done change b)

abbrev pub after : Call → Blob → Blob
after c b = result_of (change_of c.step) c.failed b

-- the number of reads since the blob was opened, where it is opened
abbrev pub opening : Change → Bool → Option ℕ → Option ℕ
opening Make false None = Some 0
opening Remove false reads = None
opening change failed reads = reads

-- after all these calls
unfoldable pub replay : List Call → Blob → Blob
replay [] b = b
replay (c ∷ cs) b = replay cs (after c b)

-- at a moment
unfoldable pub blob_at : List Call → Blob → ℕ → Blob
blob_at [] b m = b
blob_at (c ∷ cs) b m = cond (leb m (2 * c.number)) b (cond (leb m (2 * c.number + 1)) (during (change_of c.step) b) (blob_at cs (after c b) m))

-- What the device keeps of one blob: the content that it had when the device was made, the calls since, and the number
-- of reads since it was opened, where it is opened.
pub record Track : Type 0 where
  pub start : Option (List ℕ)
  pub calls : List Call
  pub reads : Option ℕ

abbrev pub no_track : Track
no_track = record { start = None; calls = []; reads = None }

-- the bytes that a blob had
abbrev pub start_of : Option (Vec ℕ Global) → Option (List ℕ)
start_of start = option_map (λ (v : Vec ℕ Global). v.items) start

abbrev pub now : Track → Blob
now t = replay t.calls (begun t.start)

-- a blob that had this content when the device was made
abbrev pub started : List ℕ → Track
started c = record { start = Some c; calls = []; reads = None }

-- one call more
abbrev pub pushed : Call → Track → Track
pushed c t = record { start = t.start; calls = t.calls ++ c ∷ []; reads = opening (change_of c.step) c.failed t.reads }

-- one read more
abbrev pub read_once : Track → Track
read_once t = record t { reads = option_map next t.reads }

abbrev pub timeline_of : (Key → Track) → ℕ → Timeline
timeline_of tracks n = record { calls = n; at = λ m k. blob_at (tracks k).calls (begun (tracks k).start) m }

abbrev pub entry_of : Track → Option Opened
entry_of t = option_map (λ (r : ℕ). record { len = length (now t).content; reads = r }) t.reads

-- the entry of a blob after a change
abbrev pub entry_after : Change → Bool → Track → Option Opened
entry_after change f t = option_map (λ (r : ℕ). record { len = length (result_of change f (now t)).content; reads = r }) (opening change f t.reads)

abbrev pub opened_of : (Key → Track) → OpenedList
opened_of tracks k = entry_of (tracks k)

abbrev pub all_bytes : List ℕ → Bool
all_bytes c = list_all (λ x. ltb x 256) c

abbrev pub writes_bytes : Change → Bool
writes_bytes Make = true
writes_bytes (Write at bytes) = all_bytes bytes
writes_bytes (Resize n) = true
writes_bytes Settle = true
writes_bytes Remove = true
writes_bytes Look = true

abbrev pub starts_with_bytes : Option (List ℕ) → Bool
starts_with_bytes None = true
starts_with_bytes (Some c) = all_bytes c

-- the change is made of a blob that is there, if it needs one
abbrev pub FindsBlob : Change → Blob → Type 0
FindsBlob Make b = Unit {0}
FindsBlob (Write at bytes) b = b.there ≡ true
FindsBlob (Resize n) b = b.there ≡ true
FindsBlob Settle b = Unit {0}
FindsBlob Remove b = Unit {0}
FindsBlob Look b = Unit {0}

-- The calls come before call number n and hold bytes, an opened blob is there, and an absent one is nothing.
pub record IsSound (n : ℕ) (t : Track) : Type 0 where
  pub below : list_all (λ (c : Call). ltb c.number n) t.calls ≡ true
  pub bytes : list_all (λ (c : Call). writes_bytes (change_of c.step)) t.calls ≡ true
  pub start : starts_with_bytes t.start ≡ true
  pub open_there : (is_some t.reads && not (now t).there) ≡ false
  pub absent : AbsentIsNothing (now t)

-- the blob reads so
pub record Reads (b : Blob) (v : Bool) (c : List ℕ) : Type 0 where
  pub is_there : b.there ≡ v
  pub reads_as : b.content ≡ c
