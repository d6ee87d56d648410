-- What an archive shows of itself, and how one that is opened files its records.
use Rattle.std.specs.Prelude.{ℕ, ◌+◌, Bool, true, List, Option, string_bytes}
use Rattle.std.specs.BTreeSet as set
use Rattle.std.specs.Ordering.{nat_cmp}
use Rattle.value_codec.specs.declared.codec.Codec as codec
use Rattle.value_codec.specs.declared.codec.Error as codec_error
use Rattle.value_codec.specs.declared.seal.Seal as seal
use Rattle.sealed_pages.specs.declared.page_blob.PageBlob.{PageBlob}
use Rattle.section_manager.specs.contracts.unsealed.WriteBlobSectionBuffer.TheImpl as write_blob
use Rattle.section_manager.specs.declared.buffer.SectionBuffer as buffer
use Rattle.section_manager.specs.declared.sealed.AppendFactory.{AppendFactory}
use Rattle.paired.specs.CodecShown.{pair_codec_config}
use Rattle.paired.specs.PairShown as pair
use Rattle.paired.specs.sighted.Shown.{marker_format}
use Rattle.ordinal_store.specs.Ranges.{set_of}
use Rattle.archives.specs.Archives as archive
use Rattle.archives.specs.Archives.{Buffers}
use Rattle.archives.specs.Filing.{Filing}
use Rattle.archives.specs.IndexRecord.{place_of}
use Rattle.archives.specs.Prunable.{Prunable, Setup}
use Rattle.archives.specs.Rows.{AreTables, rows_of}
use Rattle.archives.specs.declared.prunable.Archive.{Archive}
use Rattle.archives.specs.declared.prunable.config.Config.{Config}

abbrev pub shown : {T K V S W C : Type 0}
    {translator word_eq word_hash key key_eq key_ord key_partial codec seal stored fixed stored_codec : _}
    → Archive T K V S W C translator word_eq word_hash key key_eq key_ord key_partial codec seal stored fixed
    stored_codec
    → archive.Archive (AppendFactory S) (PageBlob S seal)
shown {translator = t} {word_eq = w} {key = k} {codec = c} {seal = s} a = record {
  pair = pair.shown (place_of k.SIZE) a.pair;
  items = a.items_per_section;
  key_size = k.SIZE;
  refusal = λ bytes. c.refusal bytes (pair_codec_config a.pair);
  most_sections = a.limits.sections;
  most_records = a.limits.per_section;
  floor = a.floor;
  rows = rows_of k.key_bytes a.tables;
  Tied = AreTables k.key_bytes w.eq (t.word_of a.translator) a.tables;
  indices = set_of a.indices;
  is_written = set.contains nat_cmp a.written;
}

-- with keys of n bytes, under this seal, and values that the codec refuses so
abbrev pub filing_for : {T S C : Type 0} → ℕ → seal.Ghosts S → (List ℕ → C → Option codec_error.Error) → Config T C
    → Filing
filing_for n sealing refusal cfg = record {
  layout = record {
    index = string_bytes cfg.key_partition;
    values = string_bytes cfg.value_partition;
    marked = true;
    metadata = string_bytes cfg.metadata_partition;
    page_size = cfg.key_pages.page_size;
    record_size = n + 20;
    seal = sealing.seal_of;
    place = place_of n;
    markers = marker_format sealing;
  };
  items = cfg.items_per_section;
  key_size = n;
  refusal = λ bytes. refusal bytes cfg.codec_config;
  most_sections = cfg.limits.sections;
  most_records = cfg.limits.per_section;
}

-- how the buffers of an archive are read, where those of its records are read so
abbrev pub buffers_by : {S : Type 0} {sealing : _} → buffer.Ghosts (PageBlob S sealing)
    → Buffers (AppendFactory S) (PageBlob S sealing)
buffers_by pages = record {
  pages = pages;
  gives = λ f. record { page_size = f.pages.page_size; capacity = f.write_buffer; cache_pages = f.pages.cache_pages };
  values = write_blob.ghosts;
  takes = λ f. record { page_size = 1; capacity = f.capacity; cache_pages = 0 };
}

-- what contracts see of archives with such buffers
abbrev pub means : {T K V S W C : Type 0}
    {translator word_eq word_hash key key_eq key_ord key_partial codec seal stored fixed stored_codec : _}
    → buffer.Ghosts (PageBlob S seal)
    → Prunable (Archive T K V S W C translator word_eq word_hash key key_eq key_ord key_partial codec seal stored fixed
    stored_codec) V (AppendFactory S) (PageBlob S seal)
means {translator = t} {word_eq = w} {codec = c} pages = record {
  see = shown;
  buffers = buffers_by pages;
  Accepts = λ a v. c.accepted v (pair_codec_config a.pair);
  spelling = c.spelling;
  alike = λ a k l. w.eq (t.word_of a.translator k) (t.word_of a.translator l);
}

-- what an opening by this configuration is asked for, with keys of n bytes, under this seal, values of this codec,
-- and words that are made and compared so
abbrev pub setup_for : {T V S C W : Type 0} → ℕ → seal.Ghosts S → codec.Ghosts V C → (T → List ℕ → W)
    → (W → W → Bool) → Config T C → Setup V
setup_for n sealing value word_of eq cfg = record {
  filing = filing_for n sealing value.refusal cfg;
  Allows = λ v. value.accepted v cfg.codec_config;
  alike = λ k l. eq (word_of cfg.translator k) (word_of cfg.translator l);
  write_buffer = cfg.key_write_buffer;
  value_buffer = cfg.value_write_buffer;
}
