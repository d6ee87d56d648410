-- What a sync of the markers says of its answer.
use Rattle.std.proofs.Common.{◌≡◌, ◌⊎◌, inl, inr, ◌+◌, ◌≤◌, ◌^◌, ◌↔◌, true, Result, Ok, Err, OnErr, ◌∙◌, ap, subst, arith}
use Rattle.std.specs.Result.{IsErrOf}
use Rattle.blob_device.specs.declared.device.Device as device
use Rattle.blob_device.specs.declared.runtime.RError.TheVariants as runtime
use Rattle.meta_store.specs.declared.error.Error.{Error}
use Rattle.meta_store.specs.declared.error.Error.TheVariants.{Runtime, Corruption, Full, Mem}
use Rattle.meta_store.specs.Calls.{GaveUp}
use Rattle.meta_store.specs.Format.{Format}
use Rattle.meta_store.specs.Store.{Seen}
use Rattle.meta_store.specs.Syncs.{IsSyncCause, NotSynced, Synced}
use Rattle.blob_device.proofs.general.Results.{err_with}

module _ {K V C D : Type 0} (dev : device.Ghosts D) (f : C → Format K V) (m : Seen K V C) (old new : D) {T : Type 0} where
  -- a sync that went well had a next version, where it needed one
  pub synced_full : (v : T) (r : Seen K V C) → Synced dev f m old new r → IsErrOf {T = T} (Ok v) Full ↔ ((m.store.staged ≡ true) × (2 ^ 64 ≤ m.store.version + 1))
  synced_full v r synced = (λ is. absurd (cc is), λ both. absurd (omega (arith, synced.room both.0, both.1)))

  module _ (r : Result T Error) (e : Error) (is : r ≡ Err e) (no : NotSynced dev f m old new e) where
    pub failed_full : IsErrOf r Full ↔ ((m.store.staged ≡ true) × (2 ^ 64 ≤ m.store.version + 1))
    failed_full =
        let g : Error → Result T Error = λ y. Err y in (
          λ has. let same : e ≡ Full = cc (is, has) in (no.staged, (subst (IsSyncCause dev f m old new) same no.cause).0),
          λ both. is ∙ ap g (no.full both.1),
        )

    pub failed_untouched : IsErrOf r Full → new ≡ old
    failed_untouched has = let same : e ≡ Full = cc (is, has) in (subst (IsSyncCause dev f m old new) same no.cause).1

    pub failed_cause : OnErr r ((r ≡ Err Full) ⊎ GaveUp r (dev.faults old) (dev.faults new))
    failed_cause = err_with r (by_error e is no.cause)
      where
        by_error : (x : Error) → r ≡ Err x → IsSyncCause dev f m old new x → (r ≡ Err Full) ⊎ GaveUp r (dev.faults old) (dev.faults new)
        by_error Mem same cause = inr (inl same)
        by_error (Runtime runtime.Fault) same cause = inr (inr (same, cause))
        by_error Full same cause = inl same
        by_error (Corruption side) same cause = absurd cause
        by_error (Runtime (runtime.InvalidChecksum page)) same cause = absurd cause
        by_error (Runtime runtime.BlobInsufficientLength) same cause = absurd cause
        by_error (Runtime runtime.OffsetOverflow) same cause = absurd cause
        by_error (Runtime runtime.Mem) same cause = absurd cause
