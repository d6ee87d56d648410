use Rattle.std.proofs.Common.{◌∙◌, ap}
use Rattle.meta_store.specs.Blobs.{name_of}
use Rattle.meta_store.specs.Format.{format_of}
use Rattle.meta_store.specs.Store.{seen}
use Rattle.meta_store.proofs.DestroysLemmas.{first_failed, removed_both, second_failed}
use Rattle.meta_store.proofs.metadata.Metadata.destroy.Goals as goal
use Rattle.blob_device.proofs.general.Results.{err_of}

pub returns-in_err-remove : goal.returns-in_err-remove
returns-in_err-remove g c =
    first_failed g.D.Device (format_of g.K.Ord.cmp g.K.Key.key_bytes g.V.Codec g.S.Seal) (seen c.args.self) c.args.dev.now c.remove.new.self _ (λ i. (c.as_str.ensures.value i, c.name.ensures i))
    c.in_err-remove.field-0.0 c.in_err-remove.ensures.told c.in_err-remove.ensures.counts c.in_err-remove.ensures.opened_err _ (err_of _ _ c.from_residual.ensures.1)

pub returns-in_err-remove-2 : goal.returns-in_err-remove-2
returns-in_err-remove-2 g c =
    second_failed g.D.Device (format_of g.K.Ord.cmp g.K.Key.key_bytes g.V.Codec g.S.Seal) (seen c.args.self) c.args.dev.now c.remove.new.self _ (λ i. (c.as_str.ensures.value i, c.name.ensures i))
    c.in_ok-remove.field-0 c.remove-2.new.self _ (λ i. (c.as_str-2.ensures.value i, (c.name-2.ensures ∙ ap name_of c.other.ensures) i))
    c.in_ok-remove.ensures.told c.in_ok-remove.ensures.counts c.in_ok-remove.ensures.opened
    c.in_err-remove-2.field-0.0 c.in_err-remove-2.ensures.told c.in_err-remove-2.ensures.counts c.in_err-remove-2.ensures.opened_err _ (err_of _ _ c.from_residual-in_err-remove-2.ensures.1)

pub returns : goal.returns
returns g c =
    removed_both g.D.Device (format_of g.K.Ord.cmp g.K.Key.key_bytes g.V.Codec g.S.Seal) (seen c.args.self) c.args.dev.now c.remove.new.self _ (λ i. (c.as_str.ensures.value i, c.name.ensures i))
    c.in_ok-remove.field-0 c.remove-2.new.self _ (λ i. (c.as_str-2.ensures.value i, (c.name-2.ensures ∙ ap name_of c.other.ensures) i))
    c.in_ok-remove.ensures.told c.in_ok-remove.ensures.counts c.in_ok-remove.ensures.opened
    c.in_ok-remove-2.field-0 c.in_ok-remove-2.ensures.told c.in_ok-remove-2.ensures.counts c.in_ok-remove-2.ensures.opened tt
