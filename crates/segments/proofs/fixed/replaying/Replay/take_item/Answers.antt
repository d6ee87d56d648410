-- The item is the one that the bytes at hand begin with.
use Rattle.std.proofs.Common.{ℕ, List, take, ◌∙◌, subst}
use Rattle.segments.specs.FixedItems.{IsItem}
use Rattle.segments.proofs.fixed.replaying.Replay.take_item.Goals as goal

pub returns-clause-given : goal.returns-clause-given
returns-clause-given g c s p v is =
    let f = c.item_of.ensures.given s p v (c.in_ok-item.was ∙ is) in
    (f.0, f.1, f.2, subst (λ (b : List ℕ). IsItem g.A.Codec.spelling g.A.Codec.accepted (take g.A.CodecFixed.SIZE b) v) c.bytes.ensures f.3)
