use Rattle.std.proofs.Common.{◌≡◌, ◌<◌, ◌∙◌, ◌/◌, length, get_or, set, ap, arith}
use Rattle.std.proofs.lemmas.List.{get_or_read}
use Rattle.std.specs.Int.{bit_at}
use Rattle.ordinal_store.proofs.ranges.BitLemmas.{length-bits_of, bits_of-set, packed-set}
use Rattle.ordinal_store.proofs.bit_map.BitMap.set.Goals as goal

pub index-byte-requires : goal.index-byte-requires
index-byte-requires c = omega (arith, length-bits_of c.self.inside.bytes.items c.self.inside.len, ap length c.self.view_is, c.self.invariant.size, c.self.inside.bytes.ok.0)

pub index_mut-requires : goal.index_mut-requires
index_mut-requires c = omega (arith, length-bits_of c.self.inside.bytes.items c.self.inside.len, ap length c.self.view_is, c.self.invariant.size, c.self.inside.bytes.ok.0)

pub invariant_of-self : goal.invariant_of-self
invariant_of-self c =
    let within : c.args.i < c.self.inside.len = omega (arith, length-bits_of c.self.inside.bytes.items c.self.inside.len, ap length c.self.view_is) in
    let there : c.args.i / 8 < length c.self.inside.bytes.items = omega (arith, c.self.invariant.size) in
    let read : c.index-byte.result.now ≡ get_or c.self.inside.bytes.items (c.args.i / 8) 0 = get_or_read c.self.inside.bytes.items (c.args.i / 8) _ there c.index-byte.ensures 0 in
    packed-set c.self.inside.bytes.items c.args.i c.with_bit.result c.args.bit c.with_bit.ensures.here
    (λ j low apart. c.with_bit.ensures.others j low apart ∙ ap (λ b. bit_at b j) read)
    there c.self.inside.len within c.self.invariant

pub returns : goal.returns
returns c =
    let within : c.args.i < c.self.inside.len = omega (arith, length-bits_of c.self.inside.bytes.items c.self.inside.len, ap length c.self.view_is) in
    let there : c.args.i / 8 < length c.self.inside.bytes.items = omega (arith, c.self.invariant.size) in
    let read : c.index-byte.result.now ≡ get_or c.self.inside.bytes.items (c.args.i / 8) 0 = get_or_read c.self.inside.bytes.items (c.args.i / 8) _ there c.index-byte.ensures 0 in
    bits_of-set c.self.inside.bytes.items c.args.i c.with_bit.result c.args.bit c.with_bit.ensures.here
    (λ j low apart. c.with_bit.ensures.others j low apart ∙ ap (λ b. bit_at b j) read)
    there c.self.inside.len within
    ∙ ap (λ l. set l c.args.i c.args.bit) c.self.view_is
