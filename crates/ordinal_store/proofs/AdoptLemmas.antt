-- Opening a section's blob, and making a buffer over it: what each way to end leaves.
use Rattle.std.specs.Prelude.{◌≡◌, ◌≢◌, ℕ, ◌≤◌, false, length, Result, Ok, Err}
use Rattle.std.specs.Result.{IsErrOf, IsErrAnd}
use Rattle.std.proofs.Common.{inl, inr, refl, sym, ◌∙◌, ap, subst, arith}
use Rattle.blob_device.specs.Change.{Make, done}
use Rattle.blob_device.specs.Counts.{Rose}
use Rattle.blob_device.specs.Disk.{Blob, Key, settled_at}
use Rattle.blob_device.specs.Opened.{OpenedList, entered, reads_of}
use Rattle.blob_device.specs.Timeline.{Always, OnlyAt, Passes}
use Rattle.blob_device.specs.declared.error.DevError.{DevError}
use Rattle.blob_device.specs.declared.error.DevError.TheVariants as device
use Rattle.blob_device.specs.declared.runtime.RError.{RError}
use Rattle.blob_device.specs.declared.runtime.RError.TheVariants as runtime
use Rattle.blob_device.specs.lemmas.Moments.{only_start, only_on, ok_blob, err_has}
use Rattle.blob_device.specs.lemmas.Puts.{put_same, put_other, same_or_other}
use Rattle.sealed_pages.specs.declared.write_blob.WriteBlob.{WriteBlob}
use Rattle.sealed_pages.specs.Entries.{IsOpenAt}
use Rattle.sealed_pages.specs.unsealed.Writing.{Over, blob_key, is_unsettled, shown, size_of}
use Rattle.sealed_pages.specs.lemmas.Entries.{open_entered}
use Rattle.ordinal_store.specs.Adopting.{Adopting, IsMaking}
use Rattle.ordinal_store.specs.Calls.{StartsNoRead}
use Rattle.ordinal_store.specs.Raised.{passed_on, raised}
use Rattle.ordinal_store.specs.Stores.{Sight, now}
use Rattle.ordinal_store.specs.declared.ordinal.Error.{Error}
use Rattle.blob_device.proofs.general.Results.{err_of}

module _ (told : Type 0) (key k : Key) (at : k ≡ key) (capacity : ℕ) (old new : Sight) (answer : Result ℕ DevError) (passes : told → Passes k Make answer old.time new.time) (faults : old.faults ≤ new.faults) where
  here : told → Passes key Make answer old.time new.time
  here t = subst (λ (x : Key). Passes x Make answer old.time new.time) at (passes t)

  making : told → Always old.time new.time (OnlyAt key (now old) (IsMaking (now old key)))
  making t = only_on old.time old.time new.time key (now old) (IsMaking (now old key)) Make answer (only_start old.time key (IsMaking (now old key)) (inl refl)) (here t) (inr (inl refl)) (after answer (here t))
    where
      after : (r : Result ℕ DevError) → Passes key Make r old.time new.time → IsMaking (now old key) (now new key)
      after (Ok v) p = inr (inr (inr (ok_blob key Make v old.time new.time p)))
      after (Err e) p = err_has {T = ℕ} (IsMaking (now old key)) key Make e old.time new.time p (inl refl) (λ b failed. inr (inr (inl failed)))

  -- the device refused
  module _ (same : new.opened ≡ old.opened) where
    same_reads : StartsNoRead old.opened new.opened
    same_reads q = let e : reads_of (new.opened q) ≡ reads_of (old.opened q) = ap (λ (o : OpenedList). reads_of (o q)) same in omega (arith, e)

    refused_by : (e : DevError) → (IsErrOf {T = Unit {0}} (Err e) device.Fault → Rose old.faults new.faults) → Adopting told key capacity (Err (raised e)) old new
    refused_by device.Fault rose = record {
      ready = tt;
      made = λ t. tt;
      moments = making;
      entries = λ q other. ap (λ (o : OpenedList). o q) same;
      unread = same_reads;
      faults = faults;
      cause = inr (refl, rose refl);
    }
    refused_by device.Mem rose = record {
      ready = tt;
      made = λ t. tt;
      moments = making;
      entries = λ q other. ap (λ (o : OpenedList). o q) same;
      unread = same_reads;
      faults = faults;
      cause = inl refl;
    }

    pub adopt_refused : (result : Result WriteBlob Error) (e : DevError) → IsErrAnd result (λ x. x ≡ raised e) → (IsErrOf {T = Unit {0}} (Err e) device.Fault → Rose old.faults new.faults) → Adopting told key capacity result old new
    adopt_refused result e is rose = subst (λ (r : Result WriteBlob Error). Adopting told key capacity r old new) (sym (err_of result (raised e) is)) (refused_by e rose)

  module _ (n : ℕ) (entry : new.opened ≡ entered old.opened k n) where
    entered_others : (q : Key) → q ≢ key → new.opened q ≡ old.opened q
    entered_others q other = ap (λ (o : OpenedList). o q) entry ∙ put_other old.opened k _ q (λ same. other (same ∙ at))

    entered_reads : StartsNoRead old.opened new.opened
    entered_reads q = elim (same_or_other q k) [
      | inl same ↦ subst (λ (x : Key). reads_of (new.opened x) ≤ reads_of (old.opened x)) (sym same)
          (let e : reads_of (new.opened k) ≡ reads_of (old.opened k) = ap reads_of (ap (λ (o : OpenedList). o k) entry ∙ put_same old.opened k _) in omega (arith, e))
      | inr other ↦ (let e : reads_of (new.opened q) ≡ reads_of (old.opened q) = ap reads_of (ap (λ (o : OpenedList). o q) entry ∙ put_other old.opened k _ q other) in omega (arith, e))
    ]

    -- there was no memory for the buffer
    unmade_by : (e : RError) → e ≡ runtime.Mem → Adopting told key capacity (Err (passed_on e)) old new
    unmade_by e is = subst (λ (x : RError). Adopting told key capacity (Err (passed_on x)) old new) (sym is) (record {
      ready = tt;
      made = λ t. tt;
      moments = making;
      entries = entered_others;
      unread = entered_reads;
      faults = faults;
      cause = inl refl;
    })

    pub adopt_unmade : (result : Result WriteBlob Error) (e : RError) → IsErrAnd result (λ x. x ≡ passed_on e) → e ≡ runtime.Mem → Adopting told key capacity result old new
    adopt_unmade result e is mem = subst (λ (r : Result WriteBlob Error). Adopting told key capacity r old new) (sym (err_of result (passed_on e) is)) (unmade_by e mem)

    -- the buffer stands over the blob
    module _ (u : WriteBlob) (ok : answer ≡ Ok n) (long : told → n ≡ length (now new k).content) (key_is : blob_key (shown u) ≡ key) (capacity_is : u.capacity ≡ capacity) (end : u.end ≡ n) (settled : u.settled ≡ n)
        (clean : is_unsettled (shown u) ≡ false) (size : size_of (shown u) ≡ n) (over : (b : Blob) → b ≡ settled_at b.content → length b.content ≡ n → Over (shown u) b) where
      made : told → now new key ≡ done Make (now old key)
      made t = ok_blob key Make n old.time new.time (subst (λ (r : Result ℕ DevError). Passes key Make r old.time new.time) ok (here t))

      rests : told → now new key ≡ settled_at (now new key).content
      rests t = made t ∙ ap settled_at (sym (ap (λ (b : Blob). b.content) (made t)))

      long_here : told → n ≡ length (now new key).content
      long_here t = subst (λ (x : Key). n ≡ length (now new x).content) at (long t)

      pub adopt_done : Adopting told key capacity (Ok u) old new
      adopt_done = record {
        ready = record {
          rested = record {
            key_is = key_is;
            capacity_is = capacity_is;
            is_open = subst (IsOpenAt new.opened key) (sym end) (subst (λ (x : Key). IsOpenAt new.opened x n) at (open_entered k old.opened new.opened n entry));
            clean = clean;
            size = size ∙ sym settled;
          };
          over = λ t. over (now new key) (rests t) (sym (long_here t));
          size = λ t. size ∙ long_here t;
        };
        made = made;
        moments = making;
        entries = entered_others;
        unread = entered_reads;
        faults = faults;
        cause = tt;
      }
