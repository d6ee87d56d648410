-- The names of a partition are looked at: what each way to end leaves.
use Rattle.std.specs.Prelude.{◌≡◌, ◌≢◌, ◌⊎◌, ℕ, ◌^◌, ◌<◌, ◌≤◌, List, [], length, map, get_or, Result, Ok, Err, IfOk, OnErr}
use Rattle.std.specs.Int.{w64, to_be_bytes}
use Rattle.std.specs.List.{Contains}
use Rattle.std.specs.Result.{IsErrOf, IsErrAnd}
use Rattle.std.proofs.Common.{inl, inr, refl, sym, subst}
use Rattle.blob_device.specs.Change.{Look}
use Rattle.blob_device.specs.Counts.{Rose}
use Rattle.blob_device.specs.Disk.{AreNamesIn}
use Rattle.blob_device.specs.Timeline.{Passes}
use Rattle.blob_device.specs.declared.error.DevError.{DevError}
use Rattle.blob_device.specs.declared.error.DevError.TheVariants as device
use Rattle.ordinal_store.specs.Emptying.{IsIn}
use Rattle.ordinal_store.specs.Raised.{raised}
use Rattle.ordinal_store.specs.Reopening.{Listing}
use Rattle.ordinal_store.specs.Stores.{Sight, now}
use Rattle.ordinal_store.specs.declared.ordinal.Error.{Error}
use Rattle.ordinal_store.specs.declared.ordinal.Error.TheVariants.{InvalidBlobName, Mem}
use Rattle.ordinal_store.proofs.EmptyingLemmas.{looked}
use Rattle.blob_device.proofs.general.Results.{err_of}

module _ {T U : Type 0} (numbers : U → List ℕ) (told : Type 0) (partition : List ℕ) (old mid : Sight) (answer : Result T DevError) (passes : told → Passes (partition, []) Look answer old.time mid.time)
    (opened : mid.opened ≡ old.opened) (faults : old.faults ≤ mid.faults) where
  list_by : (e : DevError) → (IsErrOf {T = T} (Err e) device.Fault → Rose old.faults mid.faults) → Listing numbers told partition (Err (raised e)) old mid
  list_by device.Fault rose = record {
    unchanged = looked (IsIn partition) told old mid (partition, []) answer passes;
    opened = opened;
    faults = faults;
    names = λ t. tt;
    small = tt;
    foreign = λ t n is. absurd (cc is);
    size = λ n is. absurd (cc is);
    cause = inr (inr (refl, rose refl));
  }
  list_by device.Mem rose = record {
    unchanged = looked (IsIn partition) told old mid (partition, []) answer passes;
    opened = opened;
    faults = faults;
    names = λ t. tt;
    small = tt;
    foreign = λ t n is. absurd (cc is);
    size = λ n is. absurd (cc is);
    cause = inr (inl refl);
  }

  pub list_refused : (result : Result U Error) (e : DevError) → IsErrAnd result (λ x. x ≡ raised e) → (IsErrOf {T = T} (Err e) device.Fault → Rose old.faults mid.faults) → Listing numbers told partition result old mid
  list_refused result e is rose = subst (λ (r : Result U Error). Listing numbers told partition r old mid) (sym (err_of result (raised e) is)) (list_by e rose)

  module _ (names : List (List ℕ)) (are : told → AreNamesIn (now old) partition names) where
    pub list_spelled : (result : Result U Error) → IfOk result (λ r. map (to_be_bytes w64) (numbers r) ≡ names) → IfOk result (λ r. (i : ℕ) → get_or (numbers r) i 0 < 2 ^ 64) → ((n : List ℕ) → result ≡ Err (InvalidBlobName n) → Contains names n × (length n ≢ 8))
        → OnErr result (IsErrOf result Mem ⊎ ((n : List ℕ) × IsErrOf result (InvalidBlobName n))) → Listing numbers told partition result old mid
    list_spelled (Ok r) spelled small foreign cause = record {
      unchanged = looked (IsIn partition) told old mid (partition, []) answer passes;
      opened = opened;
      faults = faults;
      names = λ t. subst (AreNamesIn (now old) partition) (sym spelled) (are t);
      small = small;
      foreign = λ t n is. absurd (cc is);
      size = λ n is. absurd (cc is);
      cause = tt;
    }
    list_spelled (Err e) spelled small foreign cause = record {
      unchanged = looked (IsIn partition) told old mid (partition, []) answer passes;
      opened = opened;
      faults = faults;
      names = λ t. tt;
      small = tt;
      foreign = λ t n is. ((are t).each n).0 (foreign n is).0;
      size = λ n is. (foreign n is).1;
      cause = elim cause [ inl mem ↦ inr (inl mem) | inr name ↦ inl name ];
    }
