use Rattle.std.proofs.Common.{rules, Err, ap, arith}
use Rattle.sealed_pages.specs.lemmas.looking.Looking.{unchanged_start}
use Rattle.sealed_pages.specs.lemmas.Entries.{only_read_start}
use Rattle.sealed_pages.proofs.looking.ReadLemmas.{found_is, found_room}
use Rattle.sealed_pages.proofs.cutting.Truncating.{no_value, raised_cause}
use Rattle.sealed_pages.proofs.range.adopted_len.Goals as goal

-- no memory for a page
pub returns-in_err-bytes : goal.returns-in_err-bytes
returns-in_err-bytes g c = record {
  size = λ t. no_value _ _ c.from_residual.ensures.0;
  room = no_value _ _ c.from_residual.ensures.0;
  unchanged = λ t. unchanged_start (g.D.Device.time c.args.dev.now);
  entries = only_read_start _ _;
  faults = omega arith;
  cause = search rules;
}

-- the device failed
pub returns-in_err-found : goal.returns-in_err-found
returns-in_err-found g c = record {
  size = λ t. no_value _ _ c.from_residual-in_err-found.ensures.0;
  room = no_value _ _ c.from_residual-in_err-found.ensures.0;
  unchanged = c.in_err-found.ensures.unchanged;
  entries = c.in_err-found.ensures.entries;
  faults = c.in_err-found.ensures.faults;
  cause = raised_cause c.from_residual-in_err-found.result c.in_err-found.field-0.0 (g.D.Device.faults c.args.dev.now) (g.D.Device.faults c.find_last.new.dev) c.from_residual-in_err-found.ensures.1 (λ is. c.in_err-found.ensures.cause (ap Err is));
}

pub returns : goal.returns
returns g c = record {
  size = λ t. found_is g.S.Seal.seal_of c.args.blob.now.page_size _ c.in_ok-found.found c.find_last.new.buf c.found_size.result (c.in_ok-found.ensures.found t) c.found_size.ensures.some c.found_size.ensures.none;
  room = found_room c.args.blob.now.page_size c.args.blob.now.end c.in_ok-found.found c.found_size.result c.in_ok-found.ensures.below c.found_size.ensures.some c.found_size.ensures.none;
  unchanged = c.in_ok-found.ensures.unchanged;
  entries = c.in_ok-found.ensures.entries;
  faults = c.in_ok-found.ensures.faults;
  cause = tt;
}
