-- What the log of one blob says, and what the logs of all blobs say.
use Rattle.std.specs.Prelude.{◌≡◌, ℕ, Bool, List, Option, Some, None, Vec}
use Rattle.std.specs.declared.alloc.Global.{Global}
use Rattle.std.specs.BTreeMap.{BTreeMap}
use Rattle.blob_device.specs.declared.memory.blob_log.BlobLog.{BlobLog}
use Rattle.blob_device.specs.declared.memory.blob_log.Call.{Call}
use Rattle.blob_device.specs.declared.table.Table.{Table}
use Rattle.blob_device.specs.Disk.{Key, put}
use Rattle.blob_device.specs.Change.{Change}
use Rattle.blob_device.specs.Tables.{at_name, at_key}
use Rattle.blob_device.specs.Calls.{Track, no_track, start_of, IsCall, pushed}

abbrev pub track_of : BlobLog → Track
track_of l = record { start = start_of l.start; calls = l.calls.items; reads = l.reads }

-- a blob without a log was never there
abbrev pub track_at : Option BlobLog → Track
track_at None = no_track
track_at (Some l) = track_of l

abbrev pub tracks_in : BTreeMap (Vec ℕ Global) BlobLog → List ℕ → Track
tracks_in names name = track_at (at_name names name)

abbrev pub tracks_of : Table BlobLog → Key → Track
tracks_of logs k = track_at (at_key logs.partitions k)

-- the blob at k made one call more, and no other blob did
pub record Stepped (k : Key) (n : ℕ) (ch : Change) (f : Bool) (old new : Key → Track) : Type 0 where
  pub call : Call
  pub is : IsCall call n ch f
  pub tracks : new ≡ put old k (pushed call (old k))
