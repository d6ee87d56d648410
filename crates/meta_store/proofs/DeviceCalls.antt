-- Calls of a device that look at a blob.
use Rattle.std.proofs.Common.{◌≡◌, Result, Ok, Err, refl, sym, ◌∙◌, ap}
use Rattle.blob_device.specs.declared.error.DevError.{DevError}
use Rattle.blob_device.specs.Disk.{Key, Disk, put}
use Rattle.blob_device.specs.Change.{Look}
use Rattle.blob_device.specs.Timeline.{Timeline, disk, Passes, Always}
use Rattle.blob_device.specs.lemmas.Moments.{always_start, always_on, passes_after, ok_blob, err_has}
use Rattle.blob_device.specs.lemmas.Puts.{put_self, put_same}

-- no blob changes at any moment
pub looked : {T : Type 0} (k : Key) (r : Result T DevError) (a b : Timeline) → Passes k Look r a b → Always a b (λ d. d ≡ disk a)
looked {T = T} k r a b passes = always_on a a b (λ d. d ≡ disk a) k Look r (always_start a (λ d. d ≡ disk a) refl) passes (put_self (disk a) k) (same r passes)
  where
    from_after : (s : Result T DevError) → disk b k ≡ disk a k → Passes k Look s a b → disk b ≡ disk a
    from_after s here p =
        let after = passes_after k Look s a b p in
        after.is ∙ ap (put (disk a) k) (sym (put_same (disk a) k after.blob) ∙ sym (ap (λ (d : Disk). d k) after.is) ∙ here) ∙ put_self (disk a) k

    same : (s : Result T DevError) → Passes k Look s a b → disk b ≡ disk a
    same (Ok v) p = from_after (Ok v) (ok_blob k Look v a b p) p
    same (Err e) p = from_after (Err e) (err_has {T = T} (λ x. x ≡ disk a k) k Look e a b p refl (λ new is. is)) p
