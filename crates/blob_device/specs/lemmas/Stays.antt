-- Calls on one blob that spare its first bytes.
use Rattle.std.proofs.Common.{◌≡◌, ℕ, Bool, true, not, ◌||◌, List, length, Result, Ok, Err, Option, Some, None, IsSomeAnd, sym, ◌∙◌, ap, subst}
use Rattle.blob_device.specs.declared.error.DevError.{DevError}
use Rattle.blob_device.specs.Disk.{Key, Blob, Disk, MayLeave}
use Rattle.blob_device.specs.Change.{Change, during, done, FailedTo}
use Rattle.blob_device.specs.Timeline.{Timeline, disk, Passes, Always, OnlyAt}
use Rattle.blob_device.specs.Keeps.{Stays, Spares, Fits, Begins}
use Rattle.blob_device.specs.lemmas.Moments.{always_now, only_start, only_on, ok_blob, err_has}
use Rattle.blob_device.specs.lemmas.Keeps.{keeps_crash, keeps_done, keeps_during, keeps_failed}
use Rattle.blob_device.specs.lemmas.Length.{no_longer_done, no_longer_during, no_longer_failed}

pub stays_during : (kept : List ℕ) (most : ℕ) (change : Change) (b : Blob) → Stays kept most b → Spares (length kept) change → Fits most change → Stays kept most (during change b)
stays_during kept most change b s spares fits = record { keeps = keeps_during kept b s.keeps change spares; no_longer = no_longer_during most b s.no_longer change fits }

pub stays_done : (kept : List ℕ) (most : ℕ) (change : Change) (b : Blob) → Stays kept most b → Spares (length kept) change → Fits most change → Stays kept most (done change b)
stays_done kept most change b s spares fits = record { keeps = keeps_done kept b s.keeps change spares; no_longer = no_longer_done most b s.no_longer change fits }

pub stays_failed : (kept : List ℕ) (most : ℕ) (change : Change) (b n : Blob) → Stays kept most b → Spares (length kept) change → Fits most change → FailedTo change b n → Stays kept most n
stays_failed kept most change b n s spares fits failed = record { keeps = keeps_failed kept b s.keeps change n spares failed; no_longer = no_longer_failed most b s.no_longer change n fits failed }

pub stays_after : {T : Type 0} (kept : List ℕ) (most : ℕ) (k : Key) (change : Change) (result : Result T DevError) (b c : Timeline)
    → Passes k change result b c → Stays kept most (disk b k) → Spares (length kept) change → Fits most change → Stays kept most (disk c k)
stays_after kept most k change (Ok v) b c passes s spares fits = subst (Stays kept most) (sym (ok_blob k change v b c passes)) (stays_done kept most change (disk b k) s spares fits)
stays_after {T = T} kept most k change (Err e) b c passes s spares fits = err_has {T = T} (Stays kept most) k change e b c passes s (λ new failed. stays_failed kept most change (disk b k) new s spares fits failed)

pub stays_start : (t : Timeline) (k : Key) (kept : List ℕ) (most : ℕ) → Stays kept most (disk t k) → Always t t (OnlyAt k (disk t) (Stays kept most))
stays_start t k kept most here = only_start t k (Stays kept most) here

-- one call more
pub stays_on : {T : Type 0} {a b c : Timeline} {k : Key} {from : Disk} {kept : List ℕ} {most : ℕ} {change : Change} {result : Result T DevError}
    → Always a b (OnlyAt k from (Stays kept most)) → Passes k change result b c → Spares (length kept) change → Fits most change → Always a c (OnlyAt k from (Stays kept most))
stays_on {a = a} {b = b} {c = c} {k = k} {from = from} {kept = kept} {most = most} {change = change} {result = result} always passes spares fits =
    let here : Stays kept most (disk b k) = (always_now a b (OnlyAt k from (Stays kept most)) always).here in
    only_on a b c k from (Stays kept most) change result always passes
    (stays_during kept most change (disk b k) here spares fits)
    (stays_after kept most k change result b c passes here spares fits)

pub stays_crash : (kept : List ℕ) (most : ℕ) (b : Blob) → Stays kept most b → (left : Option (List ℕ)) → MayLeave b left → IsSomeAnd left (Begins kept most)
stays_crash kept most b s None left =
    let unsure : b.unsure ≡ true = sym (ap (λ (v : Bool). not v || b.unsure) s.keeps.there) ∙ left in
    absurd (cc (unsure, s.keeps.sure))
stays_crash kept most b s (Some c) left = keeps_crash kept b s.keeps most s.no_longer c left
