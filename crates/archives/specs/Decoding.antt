-- What reading bytes as an index record finds.
use Rattle.std.specs.Prelude.{◌≡◌, ◌≢◌, ℕ, ◌+◌, List, length, Option, None, Some}
use Rattle.archives.specs.declared.prunable.index_record.IndexRecord.{IndexRecord}
use Rattle.archives.specs.IndexRecord.{IsInRange, spelling_of}

-- The bytes are those of the record, where keys have n bytes.
pub record IsRecordOf {K : Type 0} (key_bytes : K → List ℕ) (n : ℕ) (bytes : List ℕ) (r : IndexRecord K) : Type 0 where
  -- there are as many as a record has
  pub size : length bytes ≡ n + 20
  -- they are its spelling
  pub spelled : spelling_of key_bytes r ≡ bytes
  -- its numbers are of their types
  pub in_range : IsInRange r

-- the record that they spell; as many bytes as a record has always spell one
abbrev pub Decodes : {K : Type 0} → (K → List ℕ) → ℕ → List ℕ → Option (IndexRecord K) → Type 0
Decodes key_bytes n bytes (Some r) = IsRecordOf key_bytes n bytes r
Decodes key_bytes n bytes None = length bytes ≢ n + 20
