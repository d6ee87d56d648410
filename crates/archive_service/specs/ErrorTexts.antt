-- The texts of errors. A group is its name and a space, and then the text of what it holds. Numbers are decimal.
use Rattle.std.specs.Prelude.{ℕ, List, ◌++◌, codes}
use Rattle.std.specs.Fmt.{decimal}
use Rattle.hex.specs.Hex.{encode_lower}
use Rattle.blob_device.specs.declared.runtime.RError.{RError}
use Rattle.blob_device.specs.declared.runtime.RError.TheVariants as runtime
use Rattle.value_codec.specs.declared.codec.Error as codec
use Rattle.value_codec.specs.declared.codec.Error.TheVariants as codec_error
use Rattle.meta_store.specs.declared.error.Error as metadata
use Rattle.meta_store.specs.declared.error.Error.TheVariants as metadata_error
use Rattle.meta_store.specs.declared.error.Side.TheVariants.{Left, Right}
use Rattle.section_manager.specs.declared.journal.Damage.{Damage}
use Rattle.section_manager.specs.declared.journal.Error as journal
use Rattle.section_manager.specs.declared.journal.Error.TheVariants as journal_error
use Rattle.archives.specs.Replies.{Reply}
use Rattle.archives.specs.declared.error.Error.{Error}
use Rattle.archives.specs.declared.error.Error.TheVariants.{Journal, Metadata, RecordCorrupted, Full, Mem}
use Rattle.archive_service.specs.Texts.{replies_text}
use Rattle.archive_service.specs.declared.replies.End.{End}
use Rattle.archive_service.specs.declared.replies.End.TheVariants.{Done, Failed}

abbrev pub runtime_text : RError → List ℕ
runtime_text runtime.Fault = codes "runtime fault"
runtime_text (runtime.InvalidChecksum page) = codes "runtime invalid-checksum " ++ decimal page
runtime_text runtime.BlobInsufficientLength = codes "runtime insufficient-length"
runtime_text runtime.OffsetOverflow = codes "runtime offset-overflow"
runtime_text runtime.Mem = codes "memory"

abbrev pub codec_text : codec.Error → List ℕ
codec_text codec_error.EndOfBuffer = codes "codec end-of-buffer"
codec_text codec_error.ExtraBytes = codes "codec extra-bytes"
codec_text codec_error.TooLong = codes "codec too-long"
codec_text codec_error.InvalidVarint = codes "codec invalid-varint"
codec_text (codec_error.InvalidEnum tag) = codes "codec invalid-enum " ++ decimal tag
codec_text codec_error.Mem = codes "memory"

abbrev pub metadata_text : metadata.Error → List ℕ
metadata_text (metadata_error.Runtime e) = codes "metadata " ++ runtime_text e
metadata_text (metadata_error.Corruption Left) = codes "metadata " ++ codes "corruption left"
metadata_text (metadata_error.Corruption Right) = codes "metadata " ++ codes "corruption right"
metadata_text metadata_error.Full = codes "metadata " ++ codes "full"
metadata_text metadata_error.Mem = codes "metadata " ++ codes "memory"

-- the section, what of it is whole, and what had to be
abbrev pub damage_text : Damage → List ℕ
damage_text x = codes "corruption " ++ decimal x.section ++ codes " " ++ decimal x.kept ++ codes " " ++ decimal x.wanted

abbrev pub journal_text : journal.Error → List ℕ
journal_text (journal_error.Runtime e) = runtime_text e
journal_text (journal_error.Metadata e) = metadata_text e
journal_text (journal_error.Codec e) = codec_text e
journal_text (journal_error.InvalidBlobName name) = codes "invalid-blob-name " ++ encode_lower name
journal_text (journal_error.ItemOutOfRange n) = codes "item-out-of-range " ++ decimal n
journal_text (journal_error.SectionOutOfRange n) = codes "section-out-of-range " ++ decimal n
journal_text (journal_error.AlreadyPrunedToSection n) = codes "already-pruned " ++ decimal n
journal_text (journal_error.ChecksumMismatch stored computed) =
    codes "checksum-mismatch " ++ decimal stored ++ codes " " ++ decimal computed
journal_text journal_error.ValueTooLarge = codes "value-too-large"
journal_text journal_error.OffsetOverflow = codes "offset-overflow"
journal_text (journal_error.Corruption x) = damage_text x
journal_text journal_error.ReplayFailed = codes "replay-failed"
journal_text journal_error.Full = codes "full"
journal_text journal_error.Mem = codes "memory"

abbrev pub error_text : Error → List ℕ
error_text (Journal e) = codes "journal " ++ journal_text e
error_text (Metadata e) = metadata_text e
error_text RecordCorrupted = codes "record-corrupted"
error_text Full = codes "full"
error_text Mem = codes "memory"

-- the line that names an error
abbrev pub error_line : Error → List ℕ
error_line e = codes "error " ++ error_text e ++ codes "\n"

-- What is written of a run: the replies, and the error that it ended in, if any. Of want of memory no line tells.
abbrev pub served_text : List (Reply (List ℕ)) → End → List ℕ
served_text replies Done = replies_text replies
served_text replies (Failed Mem) = replies_text replies
served_text replies (Failed e) = replies_text replies ++ error_line e
