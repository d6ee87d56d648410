-- What is lent of a map, where it has a value that is known.
use Rattle.std.proofs.Common.{◌≡◌, refl, sym, ◌∙◌, ap, subst, Option, None, Some, IsSome, IsSomeAnd}
use Rattle.std.specs.Borrow.{MutBor}
use Rattle.std.specs.Option.{option_copied_mut}

-- it is lent
pub is_lent : {X : Type 0} (r : Option (MutBor X)) (o : Option X) (P : X → Type 0) → option_copied_mut r ≡ o → IsSomeAnd o P → IsSome r
is_lent {X} None o P is some = absurd (subst (λ (p : Option X). IsSomeAnd p P) (sym is) some)
is_lent {X} (Some x) o P is some = refl

-- and has what is known of it
pub lent_has : {X : Type 0} (r : Option (MutBor X)) (x : MutBor X) (o : Option X) (P : X → Type 0) → r ≡ Some x → option_copied_mut r ≡ o → IsSomeAnd o P → P x.now
lent_has {X} r x o P lent is some = subst (λ (p : Option X). IsSomeAnd p P) (sym is ∙ ap option_copied_mut lent) some
