use Rattle.std.proofs.Common.{length, arith, rules}
use Rattle.variable_journal.specs.lemmas.Frame.{varint_some}
use Rattle.variable_journal.proofs.TryingLemmas.{length_held, none_held, none_left, none_more}
use Rattle.variable_journal.proofs.journal.Journal.held_length.Goals as goal

-- one byte more is not held
pub returns-then-not-try_read_held : goal.returns-then-not-try_read_held
returns-then-not-try_read_held g c =
    none_held g.S.Seal.seal_of c.args.buffer.now c.args.offset c.bytes.count c.bytes.invariant.none (omega (arith, c.bytes-test.true)) _ _ _ c.try_read_held.ensures (search rules) (search rules)

-- the length ends there
pub returns-in-Ok : goal.returns-in-Ok
returns-in-Ok g c =
    length_held g.S.Seal.seal_of c.args.buffer.now c.args.offset c.bytes.count c.bytes.invariant.none (omega (arith, c.bytes-test.true)) _ _ _ c.try_read_held.ensures (search rules) (search rules) (search rules)
    _ c.in-Ok.ensures.found

pub bytes-init : goal.bytes-init
bytes-init g c = record { few = omega arith; none = λ content item frame_there. omega (arith, varint_some (length item)) }

-- it goes on
pub bytes-preserved : goal.bytes-preserved
bytes-preserved g c = record {
  few = omega (arith, c.bytes-test.true);
  none = none_more g.S.Seal.seal_of c.args.buffer.now c.args.offset c.bytes.count c.bytes.invariant.none (omega (arith, c.bytes-test.true)) _ _ _ c.try_read_held.ensures (search rules) (search rules) (search rules)
      c.in-Err.field-0 c.in-Err.ensures.gives;
}

pub returns : goal.returns
returns g c = none_left g.S.Seal.seal_of c.args.buffer.now c.args.offset c.bytes.count (omega (arith, c.bytes-test.false)) c.bytes.invariant.none
