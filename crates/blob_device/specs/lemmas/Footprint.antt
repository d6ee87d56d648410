-- What calls touch: nothing where the device stays, what both touch where one goes after the other, and less than is allowed.
use Rattle.std.proofs.Common.{◌≡◌, ℕ, ◌+◌, ◌≤◌, refl, sym, ◌∙◌, subst, arith}
use Rattle.blob_device.specs.Disk.{Key, Disk}
use Rattle.blob_device.specs.Opened.{reads_of}
use Rattle.blob_device.specs.Timeline.{disk}
use Rattle.blob_device.specs.Footprint.{AtLeastBound, AtMostBoth, Footprint, SameElsewhere}
use Rattle.blob_device.specs.declared.device.Device as device
use Rattle.blob_device.specs.lemmas.Moments.{always_start, always_then, always_weaker, always_now}

module _ {D : Type 0} (dev : device.Ghosts D) where
  -- a device that stays as it is was not touched
  pub footprint_none : (MayTouch : Key → Type 0) (AtMost : Key → ℕ → Type 0) (old new : D) → new ≡ old → Footprint dev MayTouch AtMost old new
  footprint_none MayTouch AtMost old new same = subst (λ (x : D). Footprint dev MayTouch AtMost old x) (sym same) (record {
    alone = λ t. always_start (dev.time old) (SameElsewhere MayTouch (disk (dev.time old))) (λ q other. refl);
    entries = λ q other. refl;
    reads = λ q n most. omega arith;
    faults = omega arith;
  })

  -- two calls, one after the other
  pub footprint_then : (MayTouch : Key → Type 0) (First Second : Key → ℕ → Type 0) (a b c : D)
      → Footprint dev MayTouch First a b → Footprint dev MayTouch Second b c → Footprint dev MayTouch (AtMostBoth First Second) a c
  footprint_then MayTouch First Second a b c first second = record {
    alone = λ t. always_then (dev.time a) (dev.time b) (dev.time c) (SameElsewhere MayTouch (disk (dev.time a))) (first.alone t)
        (always_weaker (dev.time b) (dev.time c) (SameElsewhere MayTouch (disk (dev.time b))) (SameElsewhere MayTouch (disk (dev.time a))) (onward t) (second.alone t));
    entries = λ q other. second.entries q other ∙ first.entries q other;
    reads = λ q n most.
        let one : reads_of (dev.opened b q) ≤ reads_of (dev.opened a q) + most.before = first.reads q most.before most.first in
        let two : reads_of (dev.opened c q) ≤ reads_of (dev.opened b q) + most.after = second.reads q most.after most.second in
        omega (arith, one, two, most.sum);
    faults = omega (arith, first.faults, second.faults);
  }
    where
      onward : dev.Tells → (d : Disk) → SameElsewhere MayTouch (disk (dev.time b)) d → SameElsewhere MayTouch (disk (dev.time a)) d
      onward t d same q other = same q other ∙ always_now (dev.time a) (dev.time b) (SameElsewhere MayTouch (disk (dev.time a))) (first.alone t) q other

  -- more blobs may be touched, and no fewer reads begin
  pub footprint_wider : (Few Many : Key → Type 0) (AtMost More : Key → ℕ → Type 0) (a b : D)
      → ((q : Key) → Few q → Many q) → ((q : Key) (n : ℕ) → More q n → AtLeastBound AtMost q n)
      → Footprint dev Few AtMost a b → Footprint dev Many More a b
  footprint_wider Few Many AtMost More a b blobs bound touched = record {
    alone = λ t. always_weaker (dev.time a) (dev.time b) (SameElsewhere Few (disk (dev.time a))) (SameElsewhere Many (disk (dev.time a)))
        (λ d same q other. same q (λ few. other (blobs q few))) (touched.alone t);
    entries = λ q other. touched.entries q (λ few. other (blobs q few));
    reads = λ q n more.
        let least : AtLeastBound AtMost q n = bound q n more in
        let read : reads_of (dev.opened b q) ≤ reads_of (dev.opened a q) + least.bound = touched.reads q least.bound least.holds in
        omega (arith, read, least.within);
    faults = touched.faults;
  }
