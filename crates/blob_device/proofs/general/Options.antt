-- What holds of an option by its variant.
use Rattle.std.proofs.Common.{IfNone, IsSome, IsSomeAnd, None, Option, Some, inl, inr, refl, subst, sym, ◌≡◌, ◌⊎◌}

pub some_there : {A : Type 0} → (o : Option A) (v : A) → o ≡ Some v → IsSome o
some_there o v is = subst IsSome (sym is) refl

pub some_of : {A : Type 0} → (o : Option A) → IsSome o → (v : A) × (o ≡ Some v)
some_of None has = absurd (cc has)
some_of (Some v) has = (v, refl)

pub same_some : {A : Type 0} → (o : Option A) (u v : A) → o ≡ Some u → o ≡ Some v → v ≡ u
same_some o u v is also = cc (is, also)

pub none_in : {A : Type 0} → (o : Option A) (P : A → Type 0) → o ≡ None → IsSomeAnd o P → ⊥
none_in None P is has = has
none_in (Some v) P is has = cc is

-- the value that there is
pub record Value {T : Type 0} (o : Option T) (P : T → Type 0) : Type 0 where
  pub value : T
  pub is : o ≡ Some value
  pub has : P value

pub value_of : {T : Type 0} (o : Option T) (P : T → Type 0) → IsSomeAnd o P → Value o P
value_of None P is = absurd is
value_of (Some v) P is = record { value = v; is = refl; has = is }

pub has_value : {T : Type 0} (o : Option T) (P : T → Type 0) (v : T) → o ≡ Some v → P v → IsSomeAnd o P
has_value {T = T} o P v is has = subst (λ (x : Option T). IsSomeAnd x P) (sym is) has

pub some_same : {T : Type 0} (v w : T) → Some v ≡ Some w → v ≡ w
some_same v w is = cc is

pub none_or_value : {T : Type 0} (o : Option T) → (o ≡ None) ⊎ ((v : T) × (o ≡ Some v))
none_or_value None = inl refl
none_or_value (Some v) = inr (v, refl)

-- the value that has P
pub the_some : {A : Type 0} {P : A → Type 0} → (o : Option A) → IsSomeAnd o P → (v : A) × (o ≡ Some v) × P v
the_some None has = absurd has
the_some (Some v) has = (v, refl, has)

pub if_none : {A : Type 0} (o : Option A) (P : Type 0) → P → IfNone o P
if_none None P holds = holds
if_none (Some x) P holds = tt
