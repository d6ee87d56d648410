use Rattle.std.proofs.Common.{rules, ◌≡◌, ◌*◌, ℕ, List, [], Option, Some, true, ◌+◌, inr, sym, ap, subst, refl}
use Rattle.std.specs.Prelude.{MatchOption}
use Rattle.std.specs.Option.{option_copied}
use Rattle.ordinal_store.specs.Marking.{IsFault, IsFaulty, IsFirstFault, IsWhole, is_wanted}
use Rattle.ordinal_store.specs.Slots.{Layout, stored_by}
use Rattle.ordinal_store.specs.declared.ordinal.Error.TheVariants.{MissingRecord}
use Rattle.ordinal_store.proofs.plain_section.refusal.Goals as goal

pub overflow_add-result : goal.overflow_add-result
overflow_add-result g c =
    let l : Layout = stored_by [] c.args.items g.A.CodecFixed.SIZE g.S.Seal.seal_of g.A.Codec.refusal in
    let fault : IsFirstFault l (Some c.args.marks.now) c.in-Some.blob.now c.in-Some-2.position = subst (λ (o : Option ℕ). MatchOption o ((p : ℕ) → is_wanted c.args.items (Some c.args.marks.now) p ≡ true → IsFaulty l (Some c.args.marks.now) c.in-Some.blob.now p → ⊥) (IsFirstFault l (Some c.args.marks.now) c.in-Some.blob.now)) c.in-Some-2.is (c.in_ok-position.ensures []) in
    search (rules, c.requires.fits c.in-Some-2.position fault.wanted)

pub returns-in-Some-2 : goal.returns-in-Some-2
returns-in-Some-2 g c partition =
    let l : Layout = stored_by partition c.args.items g.A.CodecFixed.SIZE g.S.Seal.seal_of g.A.Codec.refusal in
    let fault : IsFirstFault l (Some c.args.marks.now) c.in-Some.blob.now c.in-Some-2.position = subst (λ (o : Option ℕ). MatchOption o ((p : ℕ) → is_wanted c.args.items (Some c.args.marks.now) p ≡ true → IsFaulty l (Some c.args.marks.now) c.in-Some.blob.now p → ⊥) (IsFirstFault l (Some c.args.marks.now) c.in-Some.blob.now)) c.in-Some-2.is (c.in_ok-position.ensures partition) in
    subst (λ (o : Option (List ℕ)). IsFault l c.args.section (Some c.args.marks.now) o (MissingRecord (c.args.section * c.args.items + c.in-Some-2.position))) (sym (ap option_copied c.in-Some.is))
    (inr (λ long. absurd (cc (c.if-is_too_long.ensures.1 long)), (c.in-Some-2.position, fault, refl)))

pub returns-in-None : goal.returns-in-None
returns-in-None g c partition =
    let l : Layout = stored_by partition c.args.items g.A.CodecFixed.SIZE g.S.Seal.seal_of g.A.Codec.refusal in
    let none : (p : ℕ) → is_wanted c.args.items (Some c.args.marks.now) p ≡ true → IsFaulty l (Some c.args.marks.now) c.in-Some.blob.now p → ⊥ = subst (λ (o : Option ℕ). MatchOption o ((p : ℕ) → is_wanted c.args.items (Some c.args.marks.now) p ≡ true → IsFaulty l (Some c.args.marks.now) c.in-Some.blob.now p → ⊥) (IsFirstFault l (Some c.args.marks.now) c.in-Some.blob.now)) c.in-None.is (c.in_ok-position.ensures partition) in
    subst (λ (o : Option (List ℕ)). IsWhole l (Some c.args.marks.now) o) (sym (ap option_copied c.in-Some.is))
    (λ long. absurd (cc (c.if-is_too_long.ensures.1 long)), none)
