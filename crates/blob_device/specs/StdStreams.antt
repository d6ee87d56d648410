-- What a source and a sink over streams of std mean.
use Rattle.std.specs.Prelude.{ℕ}
use Rattle.blob_device.specs.declared.source.StdSource.{StdSource}
use Rattle.blob_device.specs.declared.sink.StdSink.{StdSink}

abbrev pub reader_of : {R : Type 0} → StdSource R → R
reader_of s = s.reader

-- how many reads ended in an error, up to the end of a u64
abbrev pub read_faults : {R : Type 0} → StdSource R → ℕ
read_faults s = s.faults

abbrev pub writer_of : {W : Type 0} → StdSink W → W
writer_of s = s.writer

-- how many writes ended in an error or took nothing, up to the end of a u64
abbrev pub write_faults : {W : Type 0} → StdSink W → ℕ
write_faults s = s.faults
