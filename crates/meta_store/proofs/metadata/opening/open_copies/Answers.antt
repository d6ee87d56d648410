use Rattle.meta_store.proofs.InitsLemmas.{left_failed, opens_both, right_failed}
use Rattle.meta_store.proofs.metadata.opening.open_copies.Goals as goal
use Rattle.blob_device.proofs.general.Results.{err_of}

pub returns-in_err-left : goal.returns-in_err-left
returns-in_err-left g c =
    left_failed g.D.Device c.args.partition.now c.args.dev.now c.open_blob.new.self _ (λ i. (c.args.partition.now, c.name.ensures i))
    c.in_err-left.field-0.0 c.in_err-left.ensures.told c.in_err-left.ensures.counts c.in_err-left.ensures.opened_err _ (err_of _ _ c.from_residual.ensures.1)

pub returns-in_err-right : goal.returns-in_err-right
returns-in_err-right g c =
    right_failed g.D.Device c.args.partition.now c.args.dev.now c.open_blob.new.self _ (λ i. (c.args.partition.now, c.name.ensures i))
    c.in_ok-left.left c.open_blob-2.new.self _ (λ i. (c.args.partition.now, c.name-2.ensures i))
    c.in_ok-left.ensures.told c.in_ok-left.ensures.counts c.in_ok-left.ensures.opened
    c.in_err-right.field-0.0 c.in_err-right.ensures.told c.in_err-right.ensures.counts c.in_err-right.ensures.opened_err _ (err_of _ _ c.from_residual-in_err-right.ensures.1)

pub returns : goal.returns
returns g c =
    opens_both g.D.Device c.args.partition.now c.args.dev.now c.open_blob.new.self _ (λ i. (c.args.partition.now, c.name.ensures i))
    c.in_ok-left.left c.open_blob-2.new.self _ (λ i. (c.args.partition.now, c.name-2.ensures i))
    c.in_ok-left.ensures.told c.in_ok-left.ensures.counts c.in_ok-left.ensures.opened
    c.in_ok-right.right c.in_ok-right.ensures.told c.in_ok-right.ensures.counts c.in_ok-right.ensures.opened c.in_ok-left.ensures.length c.in_ok-right.ensures.length
