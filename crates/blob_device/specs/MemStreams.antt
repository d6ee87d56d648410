-- What a source and a sink in memory mean.
use Rattle.std.specs.Prelude.{ℕ, Bool, List, drop}
use Rattle.blob_device.specs.declared.source.MemSource.{MemSource}
use Rattle.blob_device.specs.declared.sink.MemSink.{MemSink}
use Rattle.blob_device.specs.Failing.{is_listed}

-- the bytes that are left
abbrev pub source_left : MemSource → List ℕ
source_left s = drop s.at s.bytes.items

-- how many reads were begun, up to the end of a u64
abbrev pub source_reads : MemSource → ℕ
source_reads s = s.reads

abbrev pub source_faults : MemSource → ℕ
source_faults s = s.faults

-- whether read number n was told to fail
abbrev pub source_fails : MemSource → ℕ → Bool
source_fails s number = is_listed s.failing.items number

-- the most bytes that one read gives
abbrev pub source_piece : MemSource → ℕ
source_piece s = s.piece

-- the most bytes that one write takes
abbrev pub sink_piece : MemSink → ℕ
sink_piece s = s.piece

-- the bytes that were taken
abbrev pub sink_taken : MemSink → List ℕ
sink_taken s = s.bytes.items

-- how many writes were begun, up to the end of a u64
abbrev pub sink_writes : MemSink → ℕ
sink_writes s = s.writes

abbrev pub sink_faults : MemSink → ℕ
sink_faults s = s.faults

-- whether write number n was told to fail
abbrev pub sink_fails : MemSink → ℕ → Bool
sink_fails s number = is_listed s.failing.items number
