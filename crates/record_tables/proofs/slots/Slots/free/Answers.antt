use Rattle.std.proofs.Common.{◌≡◌, refl, arith, is_ok, true}
use Rattle.record_tables.proofs.SlotLemmas.{freed, pushed}
use Rattle.record_tables.proofs.slots.Slots.free.Goals as goal

pub unwrap-requires : goal.unwrap-requires
unwrap-requires c = c.push.ensures.succeeds (omega (arith, c.requires.some, c.requires.slots.room, c.args.self.now.free.ok.0))

pub returns : goal.returns
returns c =
    let ok : is_ok c.push.result ≡ true = c.push.ensures.succeeds (omega (arith, c.requires.some, c.requires.slots.room, c.args.self.now.free.ok.0)) in
    freed c.args.slot c.args.self.now _ c.requires.slots c.requires.taken.0 c.requires.taken.1 (pushed c.push.result c.args.self.now.free.items _ c.args.slot ok c.push.ensures.items) refl
    (omega (arith, c.push.ensures.capacity))
