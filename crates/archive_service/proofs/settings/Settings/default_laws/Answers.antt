use Rattle.std.proofs.Common.{refl, arith}
use Rattle.archive_service.proofs.settings.Settings.default_laws.Goals as goal

pub returns : goal.returns
returns c = record {
  is = refl;
  valid = record {
    pages = omega arith;
    write_buffer = omega arith;
    replay_buffer = omega arith;
    some_value = omega arith;
    value = omega arith;
    limits = record { some_sections = omega arith; sections = omega arith; some_records = omega arith; records = omega arith };
    tables = record { size = (8, refl); some_entries = omega arith; entries = omega arith; chunk = omega arith; target = omega arith };
  };
}
