-- The names of the blobs that are there in a partition of a device in memory.
use Rattle.std.specs.Prelude.{◌↔◌, ℕ, Bool, cond, List, [], ◌∷◌, Vec, IsTrue}
use Rattle.std.specs.List.{Contains}
use Rattle.std.specs.List.Sorted.{IsStrictlySortedBy}
use Rattle.std.specs.Ordering.{nat_cmp}
use Rattle.std.specs.Cmp.Lexicographic.{slice_cmp}
use Rattle.std.specs.declared.alloc.Global.{Global}
use Rattle.blob_device.specs.declared.memory.blob_log.BlobLog.{BlobLog}
use Rattle.blob_device.specs.Disk.{Key, Blob}
use Rattle.blob_device.specs.Calls.{Track, now}
use Rattle.blob_device.specs.Tracks.{track_of}

-- the names of the logs whose blob passes a test, in their order
abbrev pub names_where : (Blob → Bool) → List (Vec ℕ Global × BlobLog) → List (List ℕ)
names_where keep [] = []
names_where keep (e ∷ es) = cond (keep (now (track_of e.1))) (e.0.items ∷ names_where keep es) (names_where keep es)

-- the names of the logs whose blob is there
abbrev pub there_in : List (Vec ℕ Global × BlobLog) → List (List ℕ)
there_in es = names_where (λ b. b.there) es

-- ascending, and exactly the names of the blobs that are there
pub record NamesThere (tracks : Key → Track) (partition : List ℕ) (names : List (List ℕ)) : Type 0 where
  pub ascending : IsStrictlySortedBy (slice_cmp nat_cmp) names
  pub each : (name : List ℕ) → Contains names name ↔ IsTrue (now (tracks (partition, name))).there
