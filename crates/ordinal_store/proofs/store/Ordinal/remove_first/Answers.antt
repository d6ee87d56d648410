use Rattle.std.proofs.Common.{◌≡◌, inr, refl, ◌∙◌, arith}
use Rattle.std.proofs.lemmas.Grind.{common_steps}
use Rattle.std.specs.BTreeMap as tree
use Rattle.std.specs.BTreeSet as set
use Rattle.std.specs.Ordering.{nat_cmp}
use Rattle.ordinal_store.specs.Stores.{key_of, sight}
use Rattle.ordinal_store.specs.Shown.{shown}
use Rattle.ordinal_store.proofs.RemovingLemmas.{goes_one, one_gone, one_closed, drop_refused, drop_unnoted, dropped}
use Rattle.ordinal_store.proofs.store.Ordinal.remove_first.Goals as goal

pub returns-in_err-remove-clause-dropping : goal.returns-in_err-remove-clause-dropping
returns-in_err-remove-clause-dropping g c =
    drop_refused (shown g.A.CodecFixed.SIZE g.S.Seal.seal_of g.A.Codec.refusal) g.D.Device.Tells (shown g.A.CodecFixed.SIZE g.S.Seal.seal_of g.A.Codec.refusal c.args.self) c.args.section (sight g.D.Device c.args.dev.now) (sight g.D.Device c.remove.new.self)
    (goes_one (shown g.A.CodecFixed.SIZE g.S.Seal.seal_of g.A.Codec.refusal c.args.self) g.D.Device.Tells c.args.section _ (λ i. (c.as_str.ensures.value i, (c.as_slice.ensures ∙ c.to_be_bytes-name.ensures) i)) (sight g.D.Device c.args.dev.now) (sight g.D.Device c.remove.new.self) c.remove.result c.remove.ensures.told
    c.in_err-remove.ensures.opened_err c.remove.ensures.counts.later)
    c.from_residual.result c.in_err-remove.field-0.0 c.from_residual.ensures.1 c.in_err-remove.ensures.counts.cause

pub returns-in-Ok-clause-dropping : goal.returns-in-Ok-clause-dropping
returns-in-Ok-clause-dropping g c =
    let old = sight g.D.Device c.args.dev.now in
    let new = sight g.D.Device c.remove.new.self in
    let at : _ ≡ key_of (shown g.A.CodecFixed.SIZE g.S.Seal.seal_of g.A.Codec.refusal c.args.self) c.args.section = λ i. (c.as_str.ensures.value i, (c.as_slice.ensures ∙ c.to_be_bytes-name.ensures) i) in
    dropped g.D.Device.Tells (shown g.A.CodecFixed.SIZE g.S.Seal.seal_of g.A.Codec.refusal c.args.self) c.args.section c.last_of-last.result c.remove-4.new.self (tree.get nat_cmp c.remove-2.new.self) (set.contains nat_cmp c.remove-3.new.self) old new
    (goes_one (shown g.A.CodecFixed.SIZE g.S.Seal.seal_of g.A.Codec.refusal c.args.self) g.D.Device.Tells c.args.section _ at old new c.remove.result c.remove.ensures.told (inr c.in_ok-remove.ensures.opened) c.remove.ensures.counts.later)
    c.requires.usable c.requires.first c.in-Ok.ensures.ranges c.in-Ok.ensures.ok c.last_of-last.ensures
    c.remove-2.ensures.updates.1
    (λ q other. grind (arith, common_steps, c.remove-2.ensures.updates.2 q))
    (λ q other. grind (arith, common_steps, c.remove-3.ensures.updates.2 q))
    (one_gone (shown g.A.CodecFixed.SIZE g.S.Seal.seal_of g.A.Codec.refusal c.args.self) g.D.Device.Tells c.args.section _ at old new c.remove.result c.remove.ensures.told c.in_ok-remove.field-0 c.in_ok-remove.was)
    (shown g.A.CodecFixed.SIZE g.S.Seal.seal_of g.A.Codec.refusal) _ refl
    (one_closed (shown g.A.CodecFixed.SIZE g.S.Seal.seal_of g.A.Codec.refusal c.args.self) g.D.Device.Tells c.args.section _ at old new c.remove.result c.remove.ensures.told c.in_ok-remove.ensures.opened)

pub returns-in-Err-Mem-clause-dropping : goal.returns-in-Err-Mem-clause-dropping
returns-in-Err-Mem-clause-dropping g c =
    drop_unnoted (shown g.A.CodecFixed.SIZE g.S.Seal.seal_of g.A.Codec.refusal) g.D.Device.Tells (shown g.A.CodecFixed.SIZE g.S.Seal.seal_of g.A.Codec.refusal c.args.self) c.args.section (sight g.D.Device c.args.dev.now) (sight g.D.Device c.remove.new.self)
    (goes_one (shown g.A.CodecFixed.SIZE g.S.Seal.seal_of g.A.Codec.refusal c.args.self) g.D.Device.Tells c.args.section _ (λ i. (c.as_str.ensures.value i, (c.as_slice.ensures ∙ c.to_be_bytes-name.ensures) i)) (sight g.D.Device c.args.dev.now) (sight g.D.Device c.remove.new.self) c.remove.result c.remove.ensures.told
    (inr c.in_ok-remove.ensures.opened) c.remove.ensures.counts.later)
