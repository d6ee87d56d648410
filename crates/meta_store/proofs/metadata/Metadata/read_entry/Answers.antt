use Rattle.std.proofs.Common.{◌≡◌, ◌∙◌, ℕ, ◌+◌, Some, length, take, drop, sym, ap, arith}
use Rattle.meta_store.specs.Copies.{entry_bytes}
use Rattle.value_codec.specs.declared.codec.Error.TheVariants.{Mem}
use Rattle.meta_store.proofs.EntryTexts.{length-entry, entry_found, part_room, part_key, part_spelled, part_same_size, not_refused, decoded_same}
use Rattle.meta_store.proofs.metadata.Metadata.read_entry.Goals as goal

pub returns-then-bytes-head-clause-only : goal.returns-then-bytes-head-clause-only
returns-then-bytes-head-clause-only g c key value rest storable is =
    absurd (omega (arith, part_room g.K.Key.key_bytes g.V.Codec.spelling c.args.bytes.now rest key value g.K.Key.SIZE (g.met.K.Key.sized key) is, c.if-bytes-head.true, c.SIZE-head.ensures))

pub returns-then-size-bytes-clause-only : goal.returns-then-size-bytes-clause-only
returns-then-size-bytes-clause-only g c key value rest storable is =
    let room = part_room g.K.Key.key_bytes g.V.Codec.spelling c.args.bytes.now rest key value g.K.Key.SIZE (g.met.K.Key.sized key) is in
    let size = part_same_size g.K.Key.key_bytes g.V.Codec.spelling c.args.bytes.now rest key value c.SIZE.result (g.met.K.Key.sized key ∙ sym c.SIZE.ensures) is c.u32_at-size.result c.u32_at-size.type_inv storable.fits c.u32_at-size.ensures in
    absurd (omega (arith, room, size, c.if-size-bytes.true, c.SIZE-head.ensures))

pub returns-in-Ok-clause-read : goal.returns-in-Ok-clause-read
returns-in-Ok-clause-read g c =
    let e : c.SIZE.result ≡ c.SIZE-head.result = c.SIZE.ensures ∙ sym c.SIZE-head.ensures in
    let d : c.SIZE-2.result ≡ c.SIZE-head.result = c.SIZE-2.ensures ∙ sym c.SIZE-head.ensures in
    entry_found g.K.Key.key_bytes g.V.Codec.spelling c.args.bytes.now c.SIZE-head.result c.u32_at-size.result c.in-Some.key c.in-Ok.value c.if-bytes-head.false c.if-size-bytes.false
    (c.in-Some.ensures.same ∙ ap (λ (n : ℕ). take n c.args.bytes.now) d)
    (c.u32_at-size.ensures ∙ ap (λ (n : ℕ). take 4 (drop n c.args.bytes.now)) e)
    c.in-Ok.ensures.spelled

pub returns-in-Ok-clause-only : goal.returns-in-Ok-clause-only
returns-in-Ok-clause-only g c key value rest storable is =
    let n = c.SIZE-head.result in
    let sized = g.met.K.Key.sized key ∙ sym c.SIZE-head.ensures in
    let size = part_same_size g.K.Key.key_bytes g.V.Codec.spelling c.args.bytes.now rest key value c.SIZE.result (g.met.K.Key.sized key ∙ sym c.SIZE.ensures) is c.u32_at-size.result c.u32_at-size.type_inv storable.fits c.u32_at-size.ensures in
    let same_key : c.in-Some.key ≡ key = g.met.K.Key.one_key c.in-Some.key key
    (c.in-Some.ensures.same ∙ part_key g.K.Key.key_bytes g.V.Codec.spelling c.args.bytes.now rest key value c.SIZE-2.result (g.met.K.Key.sized key ∙ sym c.SIZE-2.ensures) is) in
    let same_value : c.in-Ok.value ≡ value = decoded_same c.decode_cfg.result value c.in-Ok.value Mem c.in-Ok.is
    (c.decode_cfg.ensures.gives value storable.accepted (part_spelled g.K.Key.key_bytes g.V.Codec.spelling c.args.bytes.now rest key value n sized is c.u32_at-size.result size)) in
    let same_len : n + 4 + c.u32_at-size.result ≡ length (entry_bytes g.K.Key.key_bytes g.V.Codec.spelling (key, value)) =
    omega (arith, size, sized, length-entry g.K.Key.key_bytes g.V.Codec.spelling (key, value)) in
    λ i. Some (record { key = same_key i; value = same_value i; len = same_len i })

pub returns-in_default-e : goal.returns-in_default-e
returns-in_default-e g c = record {
  read = tt;
  within = tt;
  storable = tt;
  only = λ key value rest storable is.
      let size = part_same_size g.K.Key.key_bytes g.V.Codec.spelling c.args.bytes.now rest key value c.SIZE.result (g.met.K.Key.sized key ∙ sym c.SIZE.ensures) is c.u32_at-size.result c.u32_at-size.type_inv storable.fits c.u32_at-size.ensures in
      absurd (not_refused c.decode_cfg.result value c.in-Err.e Mem c.in-Err.is c.in_default-e.not-Mem
      (c.decode_cfg.ensures.gives value storable.accepted (part_spelled g.K.Key.key_bytes g.V.Codec.spelling c.args.bytes.now rest key value c.SIZE-head.result (g.met.K.Key.sized key ∙ sym c.SIZE-head.ensures) is c.u32_at-size.result size)));
  memory = tt;
}
