-- What the calls of a pair answer where one of their parts failed.
use Rattle.std.proofs.Common.{◌≡◌, ◌⊎◌, inl, inr, ℕ, ◌<◌, ◌≤◌, Bool, true, false, Result, Ok, Err, OnErr, ap, arith}
use Rattle.std.specs.Result.{IsErrOf}
use Rattle.blob_device.specs.declared.runtime.RError.TheVariants.{Fault}
use Rattle.meta_store.specs.Calls.{GaveUp}
use Rattle.meta_store.specs.declared.error.Error as meta
use Rattle.meta_store.specs.declared.error.Error.TheVariants as store
use Rattle.section_manager.specs.Raised.{raised_metadata}
use Rattle.paired.proofs.FailLemmas.{failed_as}
use Rattle.section_manager.specs.declared.journal.Error.{Error}
use Rattle.section_manager.specs.declared.journal.Error.TheVariants.{Full}
use Rattle.section_manager.specs.Refusing.{HasFailed, IsPruned}
use Rattle.paired.specs.PairRefusing.{HasLostMarkers}
use Rattle.blob_device.proofs.general.Results.{err_with}
use Rattle.paired.specs.lemmas.pair.Failing.{rose_before}

module _ {T : Type 0} where
  -- why the markers did not move
  abbrev pub MarkersFailed : Result T Error → ℕ → ℕ → Type 0
  MarkersFailed r a b = IsErrOf r Full ⊎ (HasFailed r a b ⊎ HasLostMarkers r a b)

  -- then no section was refused
  pub not_pruned : (r : Result T Error) (floor a b : ℕ) → OnErr r (MarkersFailed r a b) → IsPruned r floor → ⊥
  not_pruned (Ok v) floor a b cause is = absurd (cc is)
  not_pruned (Err e) floor a b (inl full) is = absurd (cc (full, is))
  not_pruned (Err e) floor a b (inr (inl (inl memory))) is = absurd (cc (memory, is))
  not_pruned (Err e) floor a b (inr (inl (inr fault))) is = absurd (cc (fault.0, is))
  not_pruned (Err e) floor a b (inr (inr lost)) is = absurd (cc (lost.0, is))

  -- a failure of their device is one since the markers' call began
  pub lost_since : (r : Result T Error) (a b c : ℕ) → OnErr r (MarkersFailed r b c) → HasLostMarkers r a c → HasLostMarkers r b c
  lost_since (Ok v) a b c cause is = absurd (cc is.0)
  lost_since (Err e) a b c (inl full) is = absurd (cc (full, is.0))
  lost_since (Err e) a b c (inr (inl (inl memory))) is = absurd (cc (memory, is.0))
  lost_since (Err e) a b c (inr (inl (inr fault))) is = absurd (cc (fault.0, is.0))
  lost_since (Err e) a b c (inr (inr lost)) is = lost

  pub markers_failed : (r : Result T Error) (floor a b c : ℕ) → a ≤ b → OnErr r (MarkersFailed r b c) → OnErr r (IsPruned r floor ⊎ MarkersFailed r a c)
  markers_failed (Ok v) floor a b c le cause = tt
  markers_failed (Err e) floor a b c le (inl full) = inr (inl full)
  markers_failed (Err e) floor a b c le (inr (inl (inl memory))) = inr (inr (inl (inl memory)))
  markers_failed (Err e) floor a b c le (inr (inl (inr fault))) = inr (inr (inl (inr (fault.0, rose_before a b c le fault.1))))
  markers_failed (Err e) floor a b c le (inr (inr lost)) = inr (inr (inr (lost.0, rose_before a b c le lost.1)))

  -- nothing but want of memory or the device
  pub only_failed : (r : Result T Error) (floor a b : ℕ) → OnErr r (IsPruned r floor ⊎ HasFailed r a b) → (IsPruned r floor → ⊥) → OnErr r (HasFailed r a b)
  only_failed (Ok v) floor a b cause never = tt
  only_failed (Err e) floor a b (inl pruned) never = absurd (never pruned)
  only_failed (Err e) floor a b (inr failed) never = failed

-- a failure since a later moment is one since an earlier one
pub failed_before : {T : Type 0} {r : Result T Error} {a b c : ℕ} → HasFailed r b c → a ≤ b → HasFailed r a c
failed_before {a = a} {b = b} {c = c} (inl memory) le = inl memory
failed_before {a = a} {b = b} {c = c} (inr fault) le = inr (fault.0, rose_before a b c le fault.1)

-- a call that failed before or behind the markers did not fail in them
pub not_lost : {T : Type 0} (r : Result T Error) (a b c : ℕ) → OnErr r (HasFailed r b c) → HasLostMarkers r a c → ⊥
not_lost (Ok v) a b c cause is = absurd (cc is.0)
not_lost (Err e) a b c (inl memory) is = absurd (cc (memory, is.0))
not_lost (Err e) a b c (inr fault) is = absurd (cc (fault.0, is.0))

-- and it is why the whole failed
pub failed_or_lost : {T : Type 0} (r : Result T Error) (a b c : ℕ) → a ≤ b → OnErr r (HasFailed r b c) → OnErr r (HasFailed r a c ⊎ HasLostMarkers r a c)
failed_or_lost (Ok v) a b c le cause = tt
failed_or_lost (Err e) a b c le cause = inl (failed_before {r = Err e} cause le)

-- ---- a failure of a part
module _ {T U : Type 0} (r : Result T Error) (e : Error) (is : r ≡ Err e) (low floor a b c : ℕ) (before : low ≤ floor) (since : a ≤ b) (IsNamed : ℕ → Type 0)
    (never : ((s : ℕ) × IsNamed s × (s < floor)) → ⊥) (says : IsPruned {T = U} (Err e) low → (s : ℕ) × IsNamed s × (s < low)) where
  low_pruned : IsPruned {T = U} (Err e) low → ⊥
  low_pruned pruned = let w = says pruned in never (w.0, w.1, omega (arith, w.2, before))

  -- the values' call refuses no section that the records' call did not refuse
  pub values_refused : IsPruned {T = U} (Err e) low ⊎ HasFailed {T = U} (Err e) b c → IsPruned r floor → ⊥
  values_refused (inl pruned) refused = low_pruned pruned
  values_refused (inr (inl memory)) refused = absurd (cc (is, memory, refused))
  values_refused (inr (inr fault)) refused = absurd (cc (is, fault.0, refused))

  pub values_failed : IsPruned {T = U} (Err e) low ⊎ HasFailed {T = U} (Err e) b c → OnErr r (IsPruned r floor ⊎ HasFailed r a c)
  values_failed (inl pruned) = absurd (low_pruned pruned)
  values_failed (inr failed) = err_with r (inr (failed_before (failed_as r e b c is failed) since))

abbrev meta_error : (U : Type 0) → meta.Error → Result U meta.Error
meta_error U e = Err e

meta_same : {U : Type 0} (e x : meta.Error) → meta_error U e ≡ meta_error U x → e ≡ x
meta_same e x is = cc is

-- the markers are full where their map is
pub full_markers : {T U : Type 0} (r : Result T Error) (e : meta.Error) (a b : ℕ) → r ≡ Err (raised_metadata e) → IsErrOf {T = U} (Err e) store.Full ⊎ GaveUp {T = U} (Err e) a b → IsErrOf r Full → IsErrOf {T = U} (Err e) store.Full
full_markers r e a b is (inl full) has = full
full_markers {U = U} r e a b is (inr (inl memory)) has = let same : e ≡ store.Mem = meta_same {U = U} e store.Mem memory in absurd (cc (is, has, ap raised_metadata same))
full_markers {U = U} r e a b is (inr (inr fault)) has = let same : e ≡ store.Runtime Fault = meta_same {U = U} e (store.Runtime Fault) fault.0 in absurd (cc (is, has, ap raised_metadata same))

-- ---- plain contradictions
pub false_true : false ≡ true → ⊥
false_true is = absurd (cc is)

pub no_error : {T E : Type 0} (v : T) (e : E) → IsErrOf (Ok v) e → ⊥
no_error v e is = absurd (cc is)

pub not_both : (b : Bool) → b ≡ true → b ≡ false → ⊥
not_both b this that = absurd (cc (this, that))

pub pruned_ok : {T : Type 0} (v : T) (floor : ℕ) → IsPruned (Ok v) floor → ⊥
pruned_ok v floor is = absurd (cc is)
