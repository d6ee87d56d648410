-- What holds of a result by its variant.
use Rattle.std.proofs.Common.{Err, IfOk, IsErrAnd, Ok, OnErr, OnOk, Result, ap, ◌≡◌}
use Rattle.std.specs.Result.{result_ok}

pub on_err : {T E : Type 0} {P Q : Type 0} (r : Result T E) → (P → Q) → OnErr r P → OnErr r Q
on_err (Ok v) f p = tt
on_err (Err e) f p = f p

pub on_ok : {T E : Type 0} {P Q : Type 0} (r : Result T E) → (P → Q) → OnOk r P → OnOk r Q
on_ok (Ok v) f p = f p
on_ok (Err e) f p = tt

pub on_ok_two : {T E : Type 0} {P Q R : Type 0} (r : Result T E) → (P → Q → R) → OnOk r P → OnOk r Q → OnOk r R
on_ok_two (Ok v) f p q = f p q
on_ok_two (Err e) f p q = tt

pub err_with : {T E : Type 0} {P : Type 0} (r : Result T E) → P → OnErr r P
err_with (Ok v) p = tt
err_with (Err e) p = p

pub ok_with : {T E : Type 0} {P : Type 0} (r : Result T E) → P → OnOk r P
ok_with (Ok v) p = p
ok_with (Err e) p = tt

pub on_both : {T E : Type 0} {P : Type 0} (r : Result T E) → OnOk r P → OnErr r P → P
on_both (Ok v) p q = p
on_both (Err e) p q = q

pub err_of : {T E : Type 0} (r : Result T E) (x : E) → IsErrAnd r (λ e. e ≡ x) → r ≡ Err x
err_of (Ok v) x is = absurd is
err_of {T = T} {E = E} (Err e) x is = let f : E → Result T E = λ y. Err y in ap f is

pub if_ok_with : {T E : Type 0} {Q : Type 0} {P R : T → Type 0} (r : Result T E) → OnOk r Q → IfOk r P → ((v : T) → Q → P v → R v) → IfOk r R
if_ok_with (Ok v) q p f = f v q p
if_ok_with (Err e) q p f = tt

-- two results that have the same value, if any, fail together
pub err_like : {T E F : Type 0} {P Q : Type 0} (r : Result T E) (q : Result T F) → result_ok r ≡ result_ok q → (P → Q) → OnErr q P → OnErr r Q
err_like (Ok v) q same f p = tt
err_like (Err e) (Ok v) same f p = absurd (cc same)
err_like (Err e) (Err x) same f p = f p

-- what holds of an answer
pub map_ok : {T E : Type 0} (r : Result T E) (A B : T → Type 0) → ((v : T) → A v → B v) → IfOk r A → IfOk r B
map_ok (Ok v) A B f has = f v has
map_ok (Err e) A B f has = has

pub both_ok : {T E : Type 0} (r : Result T E) (A B : T → Type 0) → IfOk r A → IfOk r B → IfOk r (λ v. A v × B v)
both_ok (Ok v) A B a b = (a, b)
both_ok (Err e) A B a b = a

pub if_ok_weaker : {T E : Type 0} {P Q : T → Type 0} (r : Result T E) → IfOk r P → ((v : T) → P v → Q v) → IfOk r Q
if_ok_weaker (Ok v) has weaker = weaker v has
if_ok_weaker (Err e) has weaker = tt
