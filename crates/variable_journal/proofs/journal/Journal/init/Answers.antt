use Rattle.std.proofs.Common.{refl}
use Rattle.section_manager.specs.contracts.sealed.PageBlobSectionBuffer.TheImpl.{ghosts}
use Rattle.variable_journal.proofs.OpeningLemmas.{opens_of}
use Rattle.variable_journal.proofs.journal.Journal.init.Goals as goal
use Rattle.blob_device.proofs.general.Results.{err_of}

pub returns-in_err-bytes : goal.returns-in_err-bytes
returns-in_err-bytes g c =
    let same = c.in_ok-of_bytes.ensures.same in
    rw (err_of c.from_residual-in_err-bytes.result c.in_err-bytes.field-0.0 c.from_residual-in_err-bytes.ensures.1)
    (opens_of (ghosts g.row.S g.S.Seal g.S.Seal-dict) _ g.S.Seal.seal_of g.D.Device c.args.dev.now c.init.new.dev _ _ _ _ _ _ _ _ _ tt same.0 same.1 same.2 c.in_err-bytes.ensures)

pub returns : goal.returns
returns g c =
    let same = c.in_ok-of_bytes.ensures.same in
    opens_of (ghosts g.row.S g.S.Seal g.S.Seal-dict) _ g.S.Seal.seal_of g.D.Device c.args.dev.now c.init.new.dev _ _ _ _ _ _ _ _ _ refl same.0 same.1 same.2 c.in_ok-bytes.ensures
