-- Small facts on options and tests, for what calls of `next` leave of the walk.
use Rattle.std.specs.Prelude.{◌≡◌, Bool, true, false, Option, None, Some, IsSome}
use Rattle.std.proofs.Common.{refl, subst}

pub same_bool : (x y : Bool) → (x ≡ true → y ≡ true) → (y ≡ true → x ≡ true) → x ≡ y
same_bool true true there back = refl
same_bool false false there back = refl
same_bool true false there back = absurd (cc (there refl))
same_bool false true there back = absurd (cc (back refl))

-- a section that is not held
pub none_as : {X Y : Type 0} (o : Option X) (p : Option Y) → o ≡ None → (IsSome p → IsSome o) → p ≡ None
none_as o None is held = refl
none_as o (Some y) is held = absurd (cc (subst IsSome is (held refl)))
