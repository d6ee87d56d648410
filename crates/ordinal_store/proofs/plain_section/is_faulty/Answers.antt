use Rattle.std.proofs.Common.{rules, ◌≡◌, ◌<◌, ◌≤◌, ◌*◌, ◌/◌, ℕ, Some, Bool, true, false, not, IsTrue, ◌↔◌, ◌+◌, ◌-◌, inr, ⊎_elim, sym, subst, arith, length, take, drop}
use Rattle.ordinal_store.specs.Marking.{IsFaulty}
use Rattle.ordinal_store.specs.Slots.{HasValue, Layout, count_in, slot_at, slot_size, stored_by}
use Rattle.ordinal_store.proofs.plain_section.is_faulty.Goals as goal

decided : (b : Bool) (P : Type 0) → IsTrue b ↔ P → (IsTrue (not b) → (P → ⊥)) × ((P → ⊥) → IsTrue (not b))
decided true P has = (λ t. absurd (cc t), λ no. absurd (no (has.0 (search rules))))
decided false P has = (λ t p. absurd (cc (has.1 p)), λ no. search rules)

pub returns-in_ok-holds-in-None : goal.returns-in_ok-holds-in-None
returns-in_ok-holds-in-None g c partition =
    let l : Layout = stored_by partition c.args.items g.A.CodecFixed.SIZE g.S.Seal.seal_of g.A.Codec.refusal in
    let blob = c.args.blob.now in
    let p = c.args.position in
    let b = c.in_ok-holds-in-None.holds in
    let r = c.SIZE-size.result in
    let inside : p < count_in l blob = subst (λ (n : ℕ). p < length blob / (n + 4)) c.SIZE-size.ensures (omega (arith, c.if-position-count.false)) in
    let has : IsTrue b ↔ HasValue l (slot_at (slot_size l) blob p) =
    subst (λ (n : ℕ). IsTrue b ↔ HasValue l (take (n + 4) (drop (p * (n + 4)) blob))) c.SIZE-size.ensures
    (let whole : p * (r + 4) + (r + 4) - p * (r + 4) ≡ r + 4 = omega arith in
    subst (λ (k : ℕ). IsTrue b ↔ HasValue l (take k (drop (p * (r + 4)) blob))) whole (c.in_ok-holds-in-None.ensures partition c.args.items)) in
    let both = decided b (HasValue l (slot_at (slot_size l) blob p)) has in
    subst (λ (m : _). (IsTrue (not b) → IsFaulty l (Some m) blob p) × (IsFaulty l (Some m) blob p → IsTrue (not b))) (sym c.in-None.is)
    (λ t. inr (both.0 t), λ f. ⊎_elim (λ (out : count_in l blob ≤ p). absurd (omega (arith, inside))) (λ (no : HasValue l (slot_at (slot_size l) blob p) → ⊥). both.1 no) f)
