use Rattle.std.proofs.Common.{◌≡◌, ◌∙◌}
use Rattle.ordinal_store.specs.Slots.{section_key}
use Rattle.ordinal_store.specs.Stores.{sight}
use Rattle.ordinal_store.proofs.AdoptLemmas.{adopt_done, adopt_refused, adopt_unmade}
use Rattle.ordinal_store.proofs.store.adopting.adopted.Goals as goal

pub returns-in_err-len : goal.returns-in_err-len
returns-in_err-len g c = adopt_refused g.D.Device.Tells (section_key c.args.partition.now c.args.section) _ (λ i. (c.args.partition.now, (c.as_slice-name.ensures ∙ c.to_be_bytes-bytes.ensures) i)) c.args.capacity
    (sight g.D.Device c.args.dev.now) (sight g.D.Device c.open_blob.new.self) c.open_blob.result c.open_blob.ensures.told c.open_blob.ensures.counts.later c.in_err-len.ensures.opened_err
    c.from_residual.result c.in_err-len.field-0.0 c.from_residual.ensures.1 (λ is. c.in_err-len.ensures.counts.cause (cc is))

pub returns-in_err-adopt : goal.returns-in_err-adopt
returns-in_err-adopt g c = adopt_unmade g.D.Device.Tells (section_key c.args.partition.now c.args.section) _ (λ i. (c.args.partition.now, (c.as_slice-name.ensures ∙ c.to_be_bytes-bytes.ensures) i)) c.args.capacity
    (sight g.D.Device c.args.dev.now) (sight g.D.Device c.open_blob.new.self) c.open_blob.result c.open_blob.ensures.told c.open_blob.ensures.counts.later c.in_ok-len.len c.in_ok-len.ensures.opened
    c.from_residual-in_err-adopt.result c.in_err-adopt.field-0.0 c.from_residual-in_err-adopt.ensures.1 (cc c.in_err-adopt.ensures.cause)

pub returns : goal.returns
returns g c =
    let at : (c.args.partition.now, c.as_slice-name.result.now) ≡ section_key c.args.partition.now c.args.section = λ i. (c.args.partition.now, (c.as_slice-name.ensures ∙ c.to_be_bytes-bytes.ensures) i) in
    adopt_done g.D.Device.Tells (section_key c.args.partition.now c.args.section) _ at c.args.capacity
    (sight g.D.Device c.args.dev.now) (sight g.D.Device c.open_blob.new.self) c.open_blob.result c.open_blob.ensures.told c.open_blob.ensures.counts.later c.in_ok-len.len c.in_ok-len.ensures.opened
    c.in_ok-adopt.field-0 c.in_ok-len.was c.in_ok-len.ensures.length (c.in_ok-adopt.ensures.key ∙ at) c.in_ok-adopt.ensures.capacity c.in_ok-adopt.ensures.end c.in_ok-adopt.ensures.settled c.in_ok-adopt.ensures.idle c.in_ok-adopt.ensures.size
    c.in_ok-adopt.ensures.over
