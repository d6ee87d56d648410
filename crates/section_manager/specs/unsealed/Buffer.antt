-- A section in a buffer without seals: what it means, and what a crash may leave of it.
use Rattle.std.specs.Prelude.{◌≡◌, ℕ, ◌⊎◌, ◌<◌, ◌≤◌, Bool, List, [], ◌∷◌, length}
use Rattle.std.specs.List.{AllByRecursion, Contains}
use Rattle.blob_device.specs.Disk.{Key, Blob, Outside, past}
use Rattle.sealed_pages.specs.declared.write_blob.WriteBlob.{WriteBlob}
use Rattle.sealed_pages.specs.Sparing.{SameByte}
use Rattle.sealed_pages.specs.unsealed.Writing.{shown, blob_key, bytes_of, size_of, run_of, StandsBehind, Over}
use Rattle.sealed_pages.specs.unsealed.Writing as writing
use Rattle.section_manager.specs.Setting.{Setting}
use Rattle.section_manager.specs.Prefixes.{IsPrefixOf}

abbrev pub setting_of : WriteBlob → Setting
setting_of u = record { page_size = 1; capacity = u.capacity; cache_pages = 0 }

abbrev pub key_of : WriteBlob → Key
key_of u = blob_key (shown u)

-- the length of its blob
abbrev pub extent_of : WriteBlob → ℕ
extent_of u = u.end

-- its bytes, over a blob that reads as these
abbrev pub content_of : WriteBlob → List ℕ → List ℕ
content_of u content = bytes_of (shown u) content

abbrev pub count_of : WriteBlob → ℕ
count_of u = size_of (shown u)

abbrev pub settled_of : WriteBlob → ℕ
settled_of u = u.settled

abbrev pub is_unsettled : WriteBlob → Bool
is_unsettled u = writing.is_unsettled (shown u)

-- The buffer stands over this blob, which is as long as it counts.
pub record Stands (u : WriteBlob) (b : Blob) : Type 0 where
  pub over : Over (shown u) b
  pub size : length b.content ≡ u.end

-- None of the settled bytes is in the run, nor was one written since the blob settled.
abbrev pub IsWhole : WriteBlob → Blob → Type 0
IsWhole u b = (i : ℕ) → i < u.settled → Outside (run_of (shown u) ∷ []) i × Outside b.loose i

-- As many bytes as are to be kept, each of them as the blob read, but for those in the buffer's run and those that were written
-- since the blob settled.
pub record KeepsBytes (u : WriteBlob) (b : Blob) (least : ℕ) (c : List ℕ) : Type 0 where
  pub long : least ≤ length c
  pub same : (i : ℕ) → i < least → Outside (run_of (shown u) ∷ []) i → Outside b.loose i → SameByte i b.content c

-- the blob has had this content since it settled, or the buffer's bytes begin with it
abbrev pub IsOldOrPrefix : WriteBlob → Blob → List ℕ → Type 0
IsOldOrPrefix u b c = Contains (past b) c ⊎ IsPrefixOf c (content_of u b.content)

-- A crash may leave these bytes, which keep so many. Where nothing was pending below the blob's end, each content that the blob has had
-- since it settled is one that it had had before, or a prefix of the buffer's bytes.
pub record MayKeep (u : WriteBlob) (b : Blob) (least : ℕ) (contents : List (List ℕ)) (c : List ℕ) : Type 0 where
  pub bytes : KeepsBytes u b least c
  pub since : StandsBehind (shown u) → AllByRecursion (IsOldOrPrefix u b) contents
