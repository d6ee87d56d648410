-- What a change that spares the first bytes leaves of them.
use Rattle.std.proofs.Common.{inl, ℕ, ◌<◌, ◌≤◌, List, [], ◌∷◌, length, get_or, take, refl, ◌∙◌, arith, length-take, Some}
use Rattle.std.proofs.lemmas.List.{ext_get_or, get_or-take}
use Rattle.blob_device.specs.Disk.{Blob, MayLeave, settled_at, shortest}
use Rattle.blob_device.specs.Change.{Change, Make, Write, Resize, Settle, Remove, Look, during, done, FailedTo}
use Rattle.blob_device.specs.Guards.{Avoids}
use Rattle.blob_device.specs.Keeps.{Keeps, NoLonger, Spares, Begins}
use Rattle.blob_device.specs.lemmas.Guards.{guards_crash, guards_done, guards_during, guards_failed, guards_settled}

-- what has settled is kept whole
pub keeps_all : (c : List ℕ) → Keeps c (settled_at c)
keeps_all c = guards_settled (λ i. i < length c) (λ i. get_or c i 0) c (λ i below. below) (λ i below. refl)

spares_avoids : (kept : List ℕ) (change : Change) → Spares (length kept) change → Avoids (λ i. i < length kept) change
spares_avoids kept Make spares = tt
spares_avoids kept (Write at bytes) spares = λ i below. inl (omega (arith, below, spares))
spares_avoids kept (Resize n) spares = λ i below. omega (arith, below, spares)
spares_avoids kept Settle spares = tt
spares_avoids kept Remove spares = spares
spares_avoids kept Look spares = tt

module _ (kept : List ℕ) (b : Blob) (keeps : Keeps kept b) where
  pub keeps_during : (change : Change) → Spares (length kept) change → Keeps kept (during change b)
  keeps_during change spares = guards_during (λ i. i < length kept) (λ i. get_or kept i 0) b keeps change (spares_avoids kept change spares)

  pub keeps_done : (change : Change) → Spares (length kept) change → Keeps kept (done change b)
  keeps_done change spares = guards_done (λ i. i < length kept) (λ i. get_or kept i 0) b keeps change (spares_avoids kept change spares)

  pub keeps_failed : (change : Change) (new : Blob) → Spares (length kept) change → FailedTo change b new → Keeps kept new
  keeps_failed change new spares failed = guards_failed (λ i. i < length kept) (λ i. get_or kept i 0) b keeps change new (spares_avoids kept change spares) failed

  no_shorter : (prefix : List ℕ) → ((i : ℕ) → i < length prefix → i < shortest b) → length prefix ≤ shortest b
  no_shorter [] short = omega arith
  no_shorter (x ∷ xs) short = omega (arith, short (length xs) (omega arith))

  -- each crash leaves the blob, and it begins with these bytes
  pub keeps_crash : (most : ℕ) → NoLonger most b → (c : List ℕ) → MayLeave b (Some c) → Begins kept most c
  keeps_crash most no_longer c left = let hold = left.1 in record {
    first = ext_get_or 0 (take (length kept) c) kept (omega (arith, length-take (length kept) c, hold.no_shorter, no_shorter kept keeps.short))
        (λ i below. let within : i < length kept = omega (arith, below, length-take (length kept) c) in
        get_or-take (length kept) c i 0 within ∙ guards_crash (λ j. j < length kept) (λ j. get_or kept j 0) b keeps c hold i within);
    size = omega (arith, hold.no_longer, no_longer.past);
  }
