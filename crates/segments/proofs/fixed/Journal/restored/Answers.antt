use Rattle.std.specs.BTreeSet.{contains}
use Rattle.std.specs.Ordering.{nat_cmp}
use Rattle.segments.proofs.checkpoint.Restored.{restores, restores_err}
use Rattle.segments.specs.lemmas.adding.Write.{are_pages}
use Rattle.segments.specs.FixedShown.{shown}
use Rattle.std.proofs.Common.{rules}
use Rattle.segments.proofs.fixed.Journal.restored.Goals as goal
use Rattle.blob_device.proofs.general.Results.{err_of}

pub truncate_pending_tail-requires-clause-whole : goal.truncate_pending_tail-requires-clause-whole
truncate_pending_tail-requires-clause-whole g c longer = c.requires.whole

pub truncate_pending_tail-requires-clause-sealed : goal.truncate_pending_tail-requires-clause-sealed
truncate_pending_tail-requires-clause-sealed g c t u held lt proven = c.requires.sealed t u held lt

pub returns-in_err-this : goal.returns-in_err-this
returns-in_err-this g c =
    let e = c.in_err-this.field-0.0 in
    restores_err _ _ g.S.Seal.seal_of g.A.CodecFixed.SIZE g.D.Device (are_pages g.row.S g.S.Seal g.S.Seal-dict) (shown c.args.self) c.args.target c.args.dev.now c.truncate_pending_tail.new.dev c.requires
    shown c.from_residual.result e (err_of c.from_residual.result e c.from_residual.ensures.1) c.in_err-this.ensures

pub returns : goal.returns
returns g c =
    restores _ _ g.S.Seal.seal_of g.A.CodecFixed.SIZE g.D.Device (are_pages g.row.S g.S.Seal g.S.Seal-dict) (shown c.args.self) c.args.target c.args.dev.now c.truncate_pending_tail.new.dev c.requires
    (shown c.in_ok-this.this) (contains nat_cmp c.remove.new.self) c.in_ok-this.ensures
    (search rules)
    (λ s other. search rules)
