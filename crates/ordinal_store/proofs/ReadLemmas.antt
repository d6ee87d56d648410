-- A part of a buffer's bytes is read: what each way to end leaves.
use Rattle.std.specs.Prelude.{◌≡◌, ℕ, ◌≤◌, List, length, Result, Ok, Err}
use Rattle.std.specs.Result.{IsErrAnd}
use Rattle.std.proofs.Common.{sym, subst}
use Rattle.sealed_pages.specs.Entries.{ReadsAtMost}
use Rattle.sealed_pages.specs.Reading.{Unchanged}
use Rattle.sealed_pages.specs.unsealed.Writing.{WriteBuffer, blob_key, bytes_of}
use Rattle.ordinal_store.specs.Calls.{HasFailed}
use Rattle.ordinal_store.specs.Slots.{part_at}
use Rattle.ordinal_store.specs.Steps.{PartRead}
use Rattle.ordinal_store.specs.Stores.{Sight, now}
use Rattle.ordinal_store.specs.declared.ordinal.Error.{Error}
use Rattle.blob_device.proofs.general.Results.{err_of}

module _ {T : Type 0} (items : T → List ℕ) (told : Type 0) (u : WriteBuffer) (at n : ℕ) (old new : Sight) (unchanged : told → Unchanged old.time new.time) (reads : ReadsAtMost 1 (blob_key u) old.opened new.opened) (faults : old.faults ≤ new.faults) where
  part_err : (e : Error) → HasFailed {T = T} (Err e) old new → PartRead items told u at n (Err e) old new
  part_err e why = record { bytes = λ t. tt; size = tt; unchanged = unchanged; reads = reads; faults = faults; cause = why }

  pub part_failed : (result : Result T Error) (e : Error) → IsErrAnd result (λ x. x ≡ e) → HasFailed {T = T} (Err e) old new → PartRead items told u at n result old new
  part_failed result e is why = subst (λ (r : Result T Error). PartRead items told u at n r old new) (sym (err_of result e is)) (part_err e why)

  pub part_done : (r : T) → (told → items r ≡ part_at (bytes_of u (now old (blob_key u)).content) at n) → length (items r) ≡ n → PartRead items told u at n (Ok r) old new
  part_done r bytes size = record { bytes = bytes; size = size; unchanged = unchanged; reads = reads; faults = faults; cause = tt }
