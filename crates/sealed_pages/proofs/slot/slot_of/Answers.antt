use Rattle.std.proofs.Common.{rules, ◌≡◌, ◌++◌, length, ℕ, List, ◌∙◌, ap}
use Rattle.std.specs.Int.{w16, w32, to_be_bytes}
use Rattle.sealed_pages.specs.Slots.{slot_bytes}
use Rattle.sealed_pages.proofs.slots.SixBytes.{two_and_four}
use Rattle.sealed_pages.proofs.slot.slot_of.Goals as goal

pub returns : goal.returns
unfolding slot_bytes
returns g c =
    let len : c.to_be_bytes-len.result ≡ to_be_bytes w16 (length c.args.bytes.now) = c.to_be_bytes-len.ensures in
    let all : c.to_be_bytes-seal.result ≡ to_be_bytes w32 c.seal2.result = c.to_be_bytes-seal.ensures in
    let seal : c.seal2.result ≡ g.S.Seal.seal_of (c.to_be_bytes-len.result ++ c.args.bytes.now) = c.seal2.ensures in
    two_and_four c.to_be_bytes-len.result c.to_be_bytes-seal.result (search (rules, len)) (search (rules, all))
    ∙ (λ t. len t ++ (all ∙ ap (to_be_bytes w32) (seal ∙ ap (λ (l : List ℕ). g.S.Seal.seal_of (l ++ c.args.bytes.now)) len)) t)
