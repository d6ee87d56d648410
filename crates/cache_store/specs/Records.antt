-- A record of a cache: the index as a varint, and the spelling of the value.
use Rattle.std.specs.Prelude.{ℕ, ◌^◌, List, ◌++◌, drop, Option, Some, Result, Ok, Err}
use Rattle.value_codec.specs.declared.codec.Error.{Error}
use Rattle.value_codec.specs.Varint.{varint, varint_prefix}
use Rattle.cache_store.specs.Machine.{Entry}

abbrev pub record_bytes : ℕ → List ℕ → List ℕ
record_bytes index value = varint index ++ value

-- the index at the start, and what is behind it; 0 and all of the bytes where none is there
abbrev pub parted : List ℕ → Result (ℕ × ℕ) Error → Entry (List ℕ)
parted bytes (Ok it) = record { index = it.0; value = drop it.1 bytes }
parted bytes (Err e) = record { index = 0; value = bytes }

abbrev pub entry_of : List ℕ → Entry (List ℕ)
entry_of bytes = parted bytes (varint_prefix (2 ^ 64) 10 bytes)

-- why the bytes are no record, where the codec refuses a value so
abbrev pub refused : (List ℕ → Option Error) → List ℕ → Result (ℕ × ℕ) Error → Option Error
refused refusal bytes (Ok it) = refusal (drop it.1 bytes)
refused refusal bytes (Err e) = Some e

abbrev pub record_refusal : (List ℕ → Option Error) → List ℕ → Option Error
record_refusal refusal bytes = refused refusal bytes (varint_prefix (2 ^ 64) 10 bytes)
