use Rattle.std.proofs.Common.{refl, arith}
use Rattle.archive_bench.proofs.bench.measure.Goals as goal

pub config_of-requires-clause-settings : goal.config_of-requires-clause-settings
config_of-requires-clause-settings g c = record {
  pages = omega arith;
  write_buffer = omega arith;
  replay_buffer = omega arith;
  some_value = omega arith;
  value = omega arith;
  limits = record { some_sections = omega arith; sections = omega arith; some_records = omega arith; records = omega arith };
  tables = record { size = (8, refl); some_entries = omega arith; entries = omega arith; chunk = omega arith; target = omega arith };
}
