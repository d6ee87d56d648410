-- What reading a frame by its place answers.
use Rattle.std.specs.Prelude.{ℕ, ◌+◌, ◌≤◌, Result}
use Rattle.std.specs.Result.{IsErrOf}
use Rattle.blob_device.specs.declared.runtime.RError.TheVariants.{OffsetOverflow, BlobInsufficientLength}
use Rattle.value_codec.specs.declared.codec.Error as codec
use Rattle.sealed_pages.specs.declared.write_blob.WriteBlob.{WriteBlob}
use Rattle.section_manager.specs.declared.journal.Error.{Error}
use Rattle.section_manager.specs.declared.journal.Error.TheVariants.{Runtime, Codec, SectionOutOfRange, ChecksumMismatch}
use Rattle.section_manager.specs.unsealed.Buffer.{count_of}

-- n bytes from a place on are inside the buffer, and enough for a seal
pub record IsInside (u : WriteBlob) (at n : ℕ) : Type 0 where
  pub inside : at + n ≤ count_of u
  pub enough : 4 ≤ n

module _ {T : Type 0} (result : Result T Error) where
  -- the section is not held
  abbrev pub IsAbsent : ℕ → Type 0
  IsAbsent s = IsErrOf result (SectionOutOfRange s)

  -- the range passes the greatest u64
  abbrev pub IsOverflow : Type 0
  IsOverflow = IsErrOf result (Runtime OffsetOverflow)

  -- the range passes the section's end, or is too short for a seal
  abbrev pub IsShort : Type 0
  IsShort = IsErrOf result (Runtime BlobInsufficientLength)

  -- the seal fails
  abbrev pub IsMismatch : Type 0
  IsMismatch = (stored : ℕ) × (computed : ℕ) × IsErrOf result (ChecksumMismatch stored computed)

  -- the codec refuses the spelling
  abbrev pub IsRefused : Type 0
  IsRefused = (e : codec.Error) × IsErrOf result (Codec e)
