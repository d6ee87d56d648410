-- How what calls on one blob spare goes on over calls.
use Rattle.std.proofs.Common.{◌≡◌, ℕ, ◌<◌, ◌≤◌, Bool, true, not, ◌||◌, List, get_or, Result, Ok, Err, Option, Some, None, IsSomeAnd, refl, sym, ◌∙◌, ap, subst, arith}
use Rattle.blob_device.specs.declared.error.DevError.{DevError}
use Rattle.blob_device.specs.Disk.{Key, Blob, Outside, MayLeave}
use Rattle.blob_device.specs.Change.{Change, during, done, FailedTo}
use Rattle.blob_device.specs.Timeline.{Timeline, disk, Passes, Always, OnlyAt}
use Rattle.blob_device.specs.lemmas.Moments.{always_now, always_then, always_weaker, only_start, only_on, ok_blob, err_has}
use Rattle.sealed_pages.specs.Sparing.{Lasts, SameByte, Spares, Sparing}

module _ (R : ℕ → Type 0) (n : ℕ) (from b : Blob)
    (loose : (i : ℕ) → R i → Outside from.loose i → Outside b.loose i)
    (same : (i : ℕ) → R i → get_or b.content i 0 ≡ get_or from.content i 0) where
  crash_left : (m : ℕ) → Lasts m b → (left : Option (List ℕ)) → MayLeave b left → IsSomeAnd left (λ c. (i : ℕ) → i < m → R i → Outside from.loose i → SameByte i from.content c)
  crash_left m last None left =
      let unsure : b.unsure ≡ true = sym (ap (λ (t : Bool). not t || b.unsure) last.there) ∙ left in
      absurd (cc (unsure, last.sure))
  crash_left m last (Some c) left = λ i lt r out. record {
    inside = omega (arith, lt, last.short, left.1.no_shorter);
    same = left.1.kept i (omega (arith, lt, last.short)) (loose i r out) ∙ same i r;
  }

  pub spares_of : ((m : ℕ) → m ≤ n → Lasts m from → Lasts m b) → Spares R n from b
  spares_of lasts = record { loose = loose; same = same; lasts = lasts; crashes = λ m le was. crash_left m (lasts m le was) }

pub spares_self : (R : ℕ → Type 0) (n : ℕ) (b : Blob) → Spares R n b b
spares_self R n b = spares_of R n b b (λ i r out. out) (λ i r. refl) (λ m le was. was)

spares_trans : (R : ℕ → Type 0) (n : ℕ) (a b c : Blob) → Spares R n a b → Spares R n b c → Spares R n a c
spares_trans R n a b c first second = spares_of R n a c (λ i r out. second.loose i r (first.loose i r out)) (λ i r. second.same i r ∙ first.same i r) (λ m le was. second.lasts m le (first.lasts m le was))

spares_weaker : (R S : ℕ → Type 0) (n m : ℕ) (a b : Blob) → ((i : ℕ) → S i → R i) → m ≤ n → Spares R n a b → Spares S m a b
spares_weaker R S n m a b less le s = spares_of S m a b (λ i r out. s.loose i (less i r) out) (λ i r. s.same i (less i r)) (λ k small was. s.lasts k (omega (arith, small, le)) was)

pub sparing_start : (R : ℕ → Type 0) (n : ℕ) (k : Key) (t : Timeline) → Sparing R n k t t
sparing_start R n k t = only_start t k (Spares R n (disk t k)) (spares_self R n (disk t k))

pub sparing_then : (R : ℕ → Type 0) (n : ℕ) (k : Key) (a b c : Timeline) → Sparing R n k a b → Sparing R n k b c → Sparing R n k a c
sparing_then R n k a b c first second =
    let now = always_now a b (OnlyAt k (disk a) (Spares R n (disk a k))) first in
    always_then a b c (OnlyAt k (disk a) (Spares R n (disk a k))) first
    (always_weaker b c (OnlyAt k (disk b) (Spares R n (disk b k))) (OnlyAt k (disk a) (Spares R n (disk a k)))
    (λ d only. record { here = spares_trans R n (disk a k) (disk b k) (d k) now.here only.here; others = λ q other. only.others q other ∙ now.others q other }) second)

pub sparing_weaker : (R S : ℕ → Type 0) (n m : ℕ) (k : Key) (a b : Timeline) → ((i : ℕ) → S i → R i) → m ≤ n → Sparing R n k a b → Sparing S m k a b
sparing_weaker R S n m k a b less le always = always_weaker a b (OnlyAt k (disk a) (Spares R n (disk a k))) (OnlyAt k (disk a) (Spares S m (disk a k)))
    (λ d only. record { here = spares_weaker R S n m (disk a k) (d k) less le only.here; others = only.others }) always

-- what holds of the blob at each moment of a call on it
pub any_call : {T : Type 0} (Q : Blob → Type 0) (k : Key) (t0 t1 : Timeline) (change : Change) (r : Result T DevError) → Q (disk t0 k) → Passes k change r t0 t1 → Q (during change (disk t0 k)) → Q (done change (disk t0 k))
    → ((new : Blob) → FailedTo change (disk t0 k) new → Q new) → Always t0 t1 (OnlyAt k (disk t0) Q)
any_call {T = T} Q k t0 t1 change r start passes inside after failed = only_on t0 t0 t1 k (disk t0) Q change r (only_start t0 k Q start) passes inside (end r passes)
  where
    end : (q : Result T DevError) → Passes k change q t0 t1 → Q (disk t1 k)
    end (Ok v) went = subst Q (sym (ok_blob k change v t0 t1 went)) after
    end (Err e) went = err_has {T = T} Q k change e t0 t1 went start failed
