use Rattle.std.proofs.Common.{rules}
use Rattle.section_manager.specs.Raised.{raised}
use Rattle.variable_journal.proofs.ReadingLemmas.{byte_failed, byte_found, byte_more, bytes_bad, bytes_few, none_read}
use Rattle.variable_journal.proofs.journal.Journal.length_by_bytes.Goals as goal
use Rattle.blob_device.proofs.general.Results.{err_of}

-- no byte was read
pub bytes-init : goal.bytes-init
bytes-init g c = none_read g.S.Seal.seal_of g.D.Device c.args.buffer.now c.args.offset c.args.dev.now c.args.most c.requires.open

-- one more was not read
pub returns-in_err-read_at-clause-reads : goal.returns-in_err-read_at-clause-reads
returns-in_err-read_at-clause-reads g c =
    rw (err_of c.from_residual.result (raised c.in_err-read_at.field-0.0) c.from_residual.ensures.1)
    (byte_failed g.S.Seal.seal_of g.D.Device c.args.buffer.now c.args.offset c.args.dev.now c.requires.inside c.args.most c.requires.room c.bytes.seen c.bytes.dev c.bytes.invariant
    c.bytes-test.true c.read_at.new.dev _ c.read_at.new.buf (search rules) c.in_err-read_at.field-0.0 c.in_err-read_at.ensures)

-- the length ends there
pub returns-in-Ok-clause-reads : goal.returns-in-Ok-clause-reads
returns-in-Ok-clause-reads g c =
    byte_found g.S.Seal.seal_of g.D.Device c.args.buffer.now c.args.offset c.args.dev.now c.requires.inside c.args.most c.requires.room c.bytes.seen c.bytes.dev c.bytes.invariant
    c.bytes-test.true c.read_at.new.dev _ c.read_at.new.buf (search rules) _ c.in_ok-read_at.ensures c.in-Ok.found (search rules) c.in-Ok.ensures.found

-- it goes on
pub bytes-preserved : goal.bytes-preserved
bytes-preserved g c =
    byte_more g.S.Seal.seal_of g.D.Device c.args.buffer.now c.args.offset c.args.dev.now c.requires.inside c.args.most c.requires.room c.bytes.seen c.bytes.dev c.bytes.invariant
    c.bytes-test.true c.read_at.new.dev _ c.read_at.new.buf (search rules) _ c.in_ok-read_at.ensures c.in-Err.field-0 c.in-Err.ensures.gives

-- all bytes were read that are left
pub returns-then-most-lt-LONGEST-clause-reads : goal.returns-then-most-lt-LONGEST-clause-reads
returns-then-most-lt-LONGEST-clause-reads g c =
    bytes_few g.S.Seal.seal_of g.D.Device c.args.buffer.now c.args.offset c.args.dev.now c.requires.inside c.args.most c.requires.room c.bytes.seen c.bytes.dev c.bytes.invariant
    c.bytes-test.false c.if-most-lt-LONGEST.true

-- five bytes were read
pub returns-clause-reads : goal.returns-clause-reads
returns-clause-reads g c =
    bytes_bad g.S.Seal.seal_of g.D.Device c.args.buffer.now c.args.offset c.args.dev.now c.requires.inside c.args.most c.requires.room c.bytes.seen c.bytes.dev c.bytes.invariant
    c.bytes-test.false c.if-most-lt-LONGEST.false
