-- The moments of a sync and of a cut of a buffer without seals.
use Rattle.std.proofs.Common.{◌≡◌, ◌⊎◌, inl, inr, ℕ, ◌<◌, ◌≤◌, min, [], ◌∷◌, length, take, Result, Ok, Err, sym, subst, arith}
use Rattle.std.specs.Prelude.{⊤, IsOkAnd, IfOk, IfSome, OnErr, IsTrue}
use Rattle.blob_device.specs.declared.runtime.RError.{RError}
use Rattle.blob_device.specs.declared.runtime.RError.TheVariants.{Fault, InvalidChecksum, Mem}
use Rattle.blob_device.specs.Disk.{Key, Blob, Outside}
use Rattle.blob_device.specs.Opened.{OpenedList}
use Rattle.blob_device.specs.Timeline.{Timeline, disk}
use Rattle.sealed_pages.specs.declared.write_blob.WriteBlob.{WriteBlob}
use Rattle.sealed_pages.specs.Contents.{AddsOnly}
use Rattle.sealed_pages.specs.Entries.{IsOpenAt}
use Rattle.sealed_pages.specs.Sparing.{Sparing}
use Rattle.sealed_pages.specs.unsealed.Writing.{WriteBuffer, shown, blob_key, run_of, StandsBehind, Over}
use Rattle.sealed_pages.specs.lemmas.looking.Looking.{content_length}
use Rattle.section_manager.specs.Leaving.{Leaves, AllMoments}
use Rattle.section_manager.specs.unsealed.Buffer.{Stands, IsWhole, MayKeep, content_of}
use Rattle.section_manager.specs.lemmas.buffers.UnsealedCalls.{all_moments, prefix_itself, prefix_taken}

module _ (u : WriteBlob) (k : Key) (old new : Timeline) (stands : Stands u (disk old k)) where
  -- a sync makes the whole bytes
  pub sync_moments : Sparing (Outside (run_of (shown u) ∷ [])) u.settled k old new → AddsOnly (content_of u (disk old k).content ∷ []) k old new
      → AllMoments k (Leaves (λ _ _. ⊤) (MayKeep u (disk old k) u.settled)) old new
  sync_moments sparing adds = all_moments u (Outside (run_of (shown u) ∷ [])) u.settled u.settled (omega arith) (omega arith) (λ i lt out. out) k old new stands sparing
      (content_of u (disk old k).content ∷ []) (prefix_itself (content_of u (disk old k).content), tt) (λ behind. adds)

  -- a cut makes the cut bytes, where nothing is pending below the blob's end
  pub cut_moments : (n : ℕ) → Sparing (λ i. (i < n) × Outside (run_of (shown u) ∷ []) i) (min u.settled n) k old new
      → ((u.end ≤ u.at) ⊎ ((n ≤ u.at) ⊎ (length u.pending.items ≡ 0)) → AddsOnly (take n (content_of u (disk old k).content) ∷ []) k old new)
      → AllMoments k (Leaves (λ _ _. ⊤) (MayKeep u (disk old k) (min u.settled n))) old new
  cut_moments n sparing adds = all_moments u (λ i. (i < n) × Outside (run_of (shown u) ∷ []) i) (min u.settled n) (min u.settled n) (omega arith) (omega arith) (λ i lt out. (omega (arith, lt), out)) k old new stands sparing
      (take n (content_of u (disk old k).content) ∷ []) (prefix_taken n (content_of u (disk old k).content), tt) (λ behind. adds (few behind))
    where
      few : StandsBehind (shown u) → (u.end ≤ u.at) ⊎ ((n ≤ u.at) ⊎ (length u.pending.items ≡ 0))
      few (inl behind) = inl behind
      few (inr none) = inr (inr none)

-- the same buffer over the same blob
pub whole_again : {E : Type 0} (r : Result WriteBlob E) (u : WriteBlob) (b : Blob) → IsOkAnd r (λ v. shown v ≡ shown u) → IsWhole u b → IfOk r (λ v. IsWhole v b)
whole_again (Ok v) u b same whole = subst (λ (s : WriteBuffer). (i : ℕ) → i < s.settled → Outside (run_of s ∷ []) i × Outside b.loose i) (sym same) whole
whole_again (Err e) u b same whole = tt

-- a buffer over its blob, which is as long as its entry says
pub stands_after : {E : Type 0} (r : Result WriteBlob E) (k : Key) (b : Blob) (opened : OpenedList) → IfOk r (λ v. Over (shown v) b) → IfOk r (λ v. blob_key (shown v) ≡ k) → IfOk r (λ v. IsOpenAt opened (blob_key (shown v)) v.end)
    → IfSome (opened k) (λ o. IsTrue b.there × (length b.content ≡ o.len)) → IfOk r (λ v. Stands v b)
stands_after (Ok v) k b opened over key is_open entry = record { over = over; size = content_length opened k v.end _ b.content entry (subst (λ (q : Key). IsOpenAt opened q v.end) key is_open) }
stands_after (Err e) k b opened over key is_open entry = tt

-- what fails for want of memory or by the device has found no page damaged
pub undamaged : (r : Result WriteBlob RError) (P : Type 0) → OnErr r ((r ≡ Err Mem) ⊎ ((r ≡ Err Fault) × P)) → (page : ℕ) → r ≡ Err (InvalidChecksum page) → ⊥
undamaged (Ok v) P cause page is = absurd (cc is)
undamaged (Err e) P (inl mem) page is = absurd (cc (mem, is))
undamaged (Err e) P (inr fault) page is = absurd (cc (fault.0, is))
