use Rattle.std.proofs.Common.{arith}
use Rattle.std.proofs.lemmas.Grind.{common_steps}
use Rattle.std.specs.BTreeMap as tree
use Rattle.std.specs.Ordering.{nat_cmp}
use Rattle.ordinal_store.specs.Shown.{shown}
use Rattle.ordinal_store.proofs.HoldLemmas.{holding_of}
use Rattle.ordinal_store.proofs.store.Ordinal.holding.Goals as goal

pub hold_wanted-requires : goal.hold_wanted-requires
hold_wanted-requires g c = λ p wanted. (c.requires.inside p wanted).1

pub returns-clause-holding : goal.returns-clause-holding
returns-clause-holding g c =
    let o = shown g.A.CodecFixed.SIZE g.S.Seal.seal_of g.A.Codec.refusal c.args.self in
    holding_of o c.args.section c.args.buffer c.args.marks.now c.hold_wanted.new.held (tree.get nat_cmp c.insert.new.self) c.requires.items (λ p wanted. (c.requires.inside p wanted).0)
    c.in_ok-insert.ensures.updates.1 (λ t other. grind (arith, common_steps, c.in_ok-insert.ensures.updates.2 t)) c.in_ok-hold_wanted.ensures.ranges c.in_ok-hold_wanted.ensures.held
