-- A blob that is open stays so through the calls that change it.
use Rattle.std.proofs.Common.{◌≡◌, ◌⊎◌, ◌≤◌, inl, inr, arith, ℕ, Option, Some, None, Result, Ok, Err, OnOk, OnErr, IsSome, IsSomeAnd, sym, ap, subst}
use Rattle.blob_device.specs.Disk.{Key}
use Rattle.blob_device.specs.Opened.{Opened, OpenedList, updated, PartlyGrown}
use Rattle.blob_device.specs.lemmas.Opened.{updated_open}

-- a blob that is open has room for a read of no byte
pub room_for_none : (o : Option Opened) → IsSome o → IsSomeAnd o (λ e. 0 ≤ e.len)
room_for_none (Some e) was = omega arith
room_for_none None was = absurd (cc was)

module _ {T E : Type 0} (new old : OpenedList) (k : Key) (f : Opened → Opened) (was : IsSome (old k)) where
  pub written_open : (end : ℕ) (r : Result T E) → OnOk r (new ≡ updated old k f) → OnErr r (PartlyGrown k end old new) → IsSome (new k)
  written_open end (Ok x) ok err = updated_open new old k f ok was
  written_open end (Err e) ok err = updated_open new old k _ err.is was

  pub resized_open : (r : Result T E) → OnOk r (new ≡ updated old k f) → OnErr r ((new ≡ old) ⊎ (new ≡ updated old k f)) → IsSome (new k)
  resized_open (Ok x) ok err = updated_open new old k f ok was
  resized_open (Err e) ok (inl same) = subst IsSome (sym (ap (λ (o : OpenedList). o k) same)) was
  resized_open (Err e) ok (inr same) = updated_open new old k f same was
