use Rattle.std.proofs.Common.{◌≡◌, ℕ, List, Option, None, sym, ◌∙◌, subst, length}
use Rattle.std.proofs.lemmas.Result.{IfOk-weaker}
use Rattle.std.specs.Prelude.{MatchOption}
use Rattle.ordinal_store.specs.Slots.{HasValue, IsSealed, Layout, stored_by}
use Rattle.ordinal_store.proofs.SlotLemmas.{parts_are, read_value, value_sealed, sized_by_fixed}
use Rattle.ordinal_store.proofs.slot.value_in.Given.{Over}
use Rattle.ordinal_store.proofs.slot.value_in.Goals as goal

-- how the values are stored
abbrev stored : (g : Over) → List ℕ → ℕ → Layout
stored g partition items = stored_by partition items g.A.CodecFixed.SIZE g.S.Seal.seal_of g.A.Codec.refusal

-- what a spelling's size is
sized : (g : Over) (b : List ℕ) → g.A.Codec.refusal b tt ≡ None → length b ≡ g.A.CodecFixed.SIZE
sized g = sized_by_fixed g.A.CodecFixed.SIZE g.A.Codec.spelling g.A.Codec.accepted g.A.Codec.refusal g.met.A.CodecFixed.fixed

pub returns-then-seal-u32_in-clause-value : goal.returns-then-seal-u32_in-clause-value
returns-then-seal-u32_in-clause-value g c partition items = λ v. absurd (c.if-seal-u32_in.true (c.seal.ensures
    ∙ value_sealed (stored g partition items) (sized g) g.met.S.Seal.fits c.split_at.result.0.now c.u32_in.result (c.split_at.ensures.front_len ∙ c.SIZE.ensures) c.u32_in.type_inv
    (subst (HasValue (stored g partition items)) (parts_are c.args.slot.now c.split_at.result.0.now c.split_at.result.1.now c.SIZE.result c.u32_in.result c.split_at.ensures.front c.split_at.ensures.back c.u32_in.ensures.spelled) v)))

pub returns-clause-value : goal.returns-clause-value
returns-clause-value g c partition items =
    IfOk-weaker c.spelled.result (λ r. MatchOption r (g.A.Codec.refusal c.split_at.result.0.now tt ≡ None → ⊥) (λ v. (g.A.Codec.refusal c.split_at.result.0.now tt ≡ None) × (g.A.Codec.spelling v ≡ c.split_at.result.0.now)))
    (λ r. MatchOption r (HasValue (stored g partition items) c.args.slot.now → ⊥) (λ v. IsSealed (stored g partition items) c.args.slot.now (g.A.Codec.spelling v)))
    (λ (r : Option g.row.A.Denot) says. subst (λ (b : List ℕ). MatchOption r (HasValue (stored g partition items) b → ⊥) (λ v. IsSealed (stored g partition items) b (g.A.Codec.spelling v)))
    (sym (parts_are c.args.slot.now c.split_at.result.0.now c.split_at.result.1.now c.SIZE.result c.u32_in.result c.split_at.ensures.front c.split_at.ensures.back c.u32_in.ensures.spelled))
    (read_value (stored g partition items) (sized g) g.met.S.Seal.fits c.split_at.result.0.now c.u32_in.result (c.split_at.ensures.front_len ∙ c.SIZE.ensures) c.u32_in.type_inv g.A.Codec.spelling (sym c.seal.ensures ∙ c.if-seal-u32_in.false) r says))
    c.spelled.ensures.value
