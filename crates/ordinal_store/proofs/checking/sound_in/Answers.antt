use Rattle.std.proofs.Common.{◌+◌, ◌*◌, ◌-◌, ℕ, List, Option, inl, inr, take, drop, subst, sym, arith}
use Rattle.std.specs.Prelude.{MatchOption}
use Rattle.std.proofs.lemmas.Bool.{cases_eq}
use Rattle.ordinal_store.specs.Slots.{HasValue, IsSealed, Layout, slot_at, slot_size, stored_by}
use Rattle.ordinal_store.proofs.SoundLemmas.{piece_slot}
use Rattle.ordinal_store.proofs.checking.sound_in.Goals as goal

pub returns-in_default-clause-sound : goal.returns-in_default-clause-sound
returns-in_default-clause-sound g c partition items =
    let l : Layout = stored_by partition items g.A.CodecFixed.SIZE g.S.Seal.seal_of g.A.Codec.refusal in
    let p = c.loop-position.position in
    let slot : List ℕ = take (p * (c.SIZE-size.result + 4) + (c.SIZE-size.result + 4) - p * (c.SIZE-size.result + 4)) (drop (p * (c.SIZE-size.result + 4)) c.args.piece.now) in
    record {
      within = c.loop-position.auto.position-end;
      hold = c.loop-position.invariant partition items;
      next = λ more value. subst (λ (x : Option g.row.A.Denot). MatchOption x (HasValue l slot → ⊥) (λ v. IsSealed l slot (g.A.Codec.spelling v))) c.in_default.is (c.in_ok-value_in.ensures.value partition items)
          (subst (HasValue l) (sym (piece_slot l c.args.piece.now p c.SIZE-size.result c.SIZE-size.ensures)) value);
    }

pub loop-position-preserved : goal.loop-position-preserved
loop-position-preserved g c partition items p below =
    let l : Layout = stored_by partition items g.A.CodecFixed.SIZE g.S.Seal.seal_of g.A.Codec.refusal in
    let q = c.loop-position.position in
    let slot : List ℕ = take (q * (c.SIZE-size.result + 4) + (c.SIZE-size.result + 4) - q * (c.SIZE-size.result + 4)) (drop (q * (c.SIZE-size.result + 4)) c.args.piece.now) in
    elim (cases_eq p q) [
      | inl here ↦ (let sealed : IsSealed l slot (g.A.Codec.spelling c.in-Some.field-0) =
          subst (λ (x : Option g.row.A.Denot). MatchOption x (HasValue l slot → ⊥) (λ v. IsSealed l slot (g.A.Codec.spelling v))) c.in-Some.is (c.in_ok-value_in.ensures.value partition items) in
          let value : HasValue l (slot_at (slot_size l) c.args.piece.now q) = subst (HasValue l) (piece_slot l c.args.piece.now q c.SIZE-size.result c.SIZE-size.ensures) (g.A.Codec.spelling c.in-Some.field-0, sealed) in
          subst (λ (n : ℕ). HasValue l (slot_at (slot_size l) c.args.piece.now n)) (sym here) value)
      | inr other ↦ c.loop-position.invariant partition items p (omega (arith, below, other))
    ]

pub returns-clause-sound : goal.returns-clause-sound
returns-clause-sound g c partition items = record {
  within = omega arith;
  hold = λ p below. c.loop-position.invariant partition items p (omega (arith, below, c.loop-position-test.false));
  next = λ more value. omega (arith, more);
}
