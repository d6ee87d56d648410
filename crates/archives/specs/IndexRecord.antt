-- How an index record is spelled, and what any bytes say as one. Numbers have the highest byte first, and a key has n
-- bytes.
use Rattle.std.specs.Prelude.{◌≡◌, length, ℕ, ◌+◌, ◌<◌, ◌^◌, List, ◌++◌, take, drop}
use Rattle.std.specs.Int.{w32, w64, to_be_bytes, from_be_bytes}
use Rattle.archives.specs.declared.prunable.index_record.IndexRecord.{IndexRecord}

-- index, key, and where the frame of the value stands and how many bytes it has, one behind the other
unfoldable pub index_record : ℕ → List ℕ → ℕ → ℕ → List ℕ
index_record index key offset size = to_be_bytes w64 index ++ key ++ to_be_bytes w64 offset ++ to_be_bytes w32 size

-- the spelling of a record, where keys have these bytes
abbrev pub spelling_of : {K : Type 0} → (K → List ℕ) → IndexRecord K → List ℕ
spelling_of key_bytes r = index_record r.index (key_bytes r.key) r.offset r.size

-- each number of the record is one of its type
abbrev pub IsInRange : {K : Type 0} → IndexRecord K → Type 0
IsInRange r = (r.index < 2 ^ 64) × (r.offset < 2 ^ 64) × (r.size < 2 ^ 32)

-- the index that the bytes say
unfoldable pub index_of : List ℕ → ℕ
index_of bytes = from_be_bytes w64 (take 8 bytes)

-- the key
unfoldable pub key_of : ℕ → List ℕ → List ℕ
key_of n bytes = take n (drop 8 bytes)

-- and the frame's place and size
unfoldable pub place_of : ℕ → List ℕ → ℕ × ℕ
place_of n bytes = (from_be_bytes w64 (take 8 (drop (n + 8) bytes)), from_be_bytes w32 (take 4 (drop (n + 16) bytes)))

-- the bytes are the spelling of a record with a key of n bytes
pub record IsSpelled (n : ℕ) (bytes : List ℕ) : Type 0 where
  pub index : ℕ
  pub key : List ℕ
  pub offset : ℕ
  pub size : ℕ
  pub index_fits : index < 2 ^ 64
  pub key_size : length key ≡ n
  pub offset_fits : offset < 2 ^ 64
  pub size_fits : size < 2 ^ 32
  pub is : bytes ≡ index_record index key offset size
