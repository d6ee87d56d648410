use Rattle.std.proofs.Common.{◌≡◌, ℕ, List, None, IsTrue, ◌↔◌, ◌+◌, ◌++◌, sym, ◌∙◌, ap, subst, length, take, take-append-drop}
use Rattle.std.proofs.lemmas.Result.{IfOk-weaker}
use Rattle.std.specs.Int.{w32, to_be_bytes}
use Rattle.ordinal_store.specs.Slots.{HasValue, stored_by}
use Rattle.ordinal_store.proofs.SlotLemmas.{length-sealed, has_value, value_sealed, value_spells, sized_by_fixed}
use Rattle.ordinal_store.proofs.plain_section.has_value.Goals as goal

pub returns-then-slot-SIZE : goal.returns-then-slot-SIZE
returns-then-slot-SIZE g c partition items =
    let sized : (b : List ℕ) → g.A.Codec.refusal b tt ≡ None → length b ≡ g.A.CodecFixed.SIZE = sized_by_fixed g.A.CodecFixed.SIZE g.A.Codec.spelling g.A.Codec.accepted g.A.Codec.refusal g.met.A.CodecFixed.fixed in
    (λ t. absurd (cc t), λ v. absurd (c.if-slot-SIZE.true (length-sealed (stored_by partition items g.A.CodecFixed.SIZE g.S.Seal.seal_of g.A.Codec.refusal) sized g.met.S.Seal.fits c.args.slot.now v.0 v.1 ∙ ap (λ n. n + 4) (sym c.SIZE.ensures))))

pub returns-then-seal-u32_in : goal.returns-then-seal-u32_in
returns-then-seal-u32_in g c partition items =
    let sized : (b : List ℕ) → g.A.Codec.refusal b tt ≡ None → length b ≡ g.A.CodecFixed.SIZE = sized_by_fixed g.A.CodecFixed.SIZE g.A.Codec.spelling g.A.Codec.accepted g.A.Codec.refusal g.met.A.CodecFixed.fixed in
    let long : length c.split_at.result.0.now ≡ g.A.CodecFixed.SIZE = c.split_at.ensures.front_len ∙ c.SIZE-2.ensures in
    let parts : c.args.slot.now ≡ c.split_at.result.0.now ++ to_be_bytes w32 c.u32_in.result =
    sym (ap (λ (x : List ℕ). x ++ to_be_bytes w32 c.u32_in.result) c.split_at.ensures.front ∙ ap (λ (y : List ℕ). take c.SIZE-2.result c.args.slot.now ++ y) (c.u32_in.ensures.spelled ∙ c.split_at.ensures.back) ∙ take-append-drop c.SIZE-2.result c.args.slot.now) in
    (λ t. absurd (cc t), λ v. absurd (c.if-seal-u32_in.true (c.seal.ensures ∙ value_sealed (stored_by partition items g.A.CodecFixed.SIZE g.S.Seal.seal_of g.A.Codec.refusal) sized g.met.S.Seal.fits c.split_at.result.0.now c.u32_in.result long c.u32_in.type_inv (subst (HasValue (stored_by partition items g.A.CodecFixed.SIZE g.S.Seal.seal_of g.A.Codec.refusal)) parts v))))

pub returns : goal.returns
returns g c partition items =
    let sized : (b : List ℕ) → g.A.Codec.refusal b tt ≡ None → length b ≡ g.A.CodecFixed.SIZE = sized_by_fixed g.A.CodecFixed.SIZE g.A.Codec.spelling g.A.Codec.accepted g.A.Codec.refusal g.met.A.CodecFixed.fixed in
    let long : length c.split_at.result.0.now ≡ g.A.CodecFixed.SIZE = c.split_at.ensures.front_len ∙ c.SIZE-2.ensures in
    let parts : c.args.slot.now ≡ c.split_at.result.0.now ++ to_be_bytes w32 c.u32_in.result =
    sym (ap (λ (x : List ℕ). x ++ to_be_bytes w32 c.u32_in.result) c.split_at.ensures.front ∙ ap (λ (y : List ℕ). take c.SIZE-2.result c.args.slot.now ++ y) (c.u32_in.ensures.spelled ∙ c.split_at.ensures.back) ∙ take-append-drop c.SIZE-2.result c.args.slot.now) in
    IfOk-weaker c.is_spelling.result (λ b. IsTrue b ↔ (g.A.Codec.refusal c.split_at.result.0.now tt ≡ None)) (λ b. IsTrue b ↔ HasValue (stored_by partition items g.A.CodecFixed.SIZE g.S.Seal.seal_of g.A.Codec.refusal) c.args.slot.now)
    (λ b has. (
      λ t. subst (HasValue (stored_by partition items g.A.CodecFixed.SIZE g.S.Seal.seal_of g.A.Codec.refusal)) (sym parts) (has_value (stored_by partition items g.A.CodecFixed.SIZE g.S.Seal.seal_of g.A.Codec.refusal) sized g.met.S.Seal.fits c.split_at.result.0.now c.u32_in.result long c.u32_in.type_inv (sym c.seal.ensures ∙ c.if-seal-u32_in.false) (has.0 t)),
      λ v. has.1 (value_spells (stored_by partition items g.A.CodecFixed.SIZE g.S.Seal.seal_of g.A.Codec.refusal) sized g.met.S.Seal.fits c.split_at.result.0.now c.u32_in.result long c.u32_in.type_inv (subst (HasValue (stored_by partition items g.A.CodecFixed.SIZE g.S.Seal.seal_of g.A.Codec.refusal)) parts v)),
    ))
    c.is_spelling.ensures
