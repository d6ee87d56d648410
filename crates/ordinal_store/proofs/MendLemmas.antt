-- The steps that mend a section, each through a buffer with nothing unsettled: the cut, the clearing, and both together.
use Rattle.std.specs.Prelude.{◌≡◌, ◌≢◌, ◌⊎◌, ℕ, ◌+◌, ◌*◌, ◌/◌, ◌<◌, ◌≤◌, max, min, Bool, false, List, [], ◌∷◌, length, take, drop, Option, Some, None, Result, Ok, Err, IfOk, IsOkAnd, OnOk, OnErr}
use Rattle.std.specs.Result.{IsErrAnd}
use Rattle.std.proofs.Common.{inl, inr, refl, sym, ◌∙◌, ap, subst, arith, length-take, length-take-le, ext_get_or, length-drop}
use Rattle.std.proofs.Math.Nat.{mul-le-mul_right, add-mul}
use Rattle.std.proofs.lemmas.Bool.{cases_lt}
use Rattle.std.proofs.lemmas.List.{get_or-drop, get_or-take, take_all}
use Rattle.blob_device.specs.Counts.{Rose}
use Rattle.blob_device.specs.Disk.{Key, Outside, longest, settled_at}
use Rattle.blob_device.specs.Timeline.{Timeline}
use Rattle.blob_device.specs.declared.runtime.RError.{RError}
use Rattle.blob_device.specs.declared.runtime.RError.TheVariants as runtime
use Rattle.blob_device.specs.lemmas.Moments.{always_start}
use Rattle.sealed_pages.specs.declared.write_blob.WriteBlob.{WriteBlob}
use Rattle.sealed_pages.specs.Contents.{AddsOnly}
use Rattle.sealed_pages.specs.Entries.{IsOpenAt, NoReads}
use Rattle.sealed_pages.specs.Sparing.{Sparing}
use Rattle.sealed_pages.specs.unsealed.Writing.{Over, WriteBuffer, blob_key, bytes_of, is_unsettled, run_of, shown, size_of}
use Rattle.sealed_pages.specs.lemmas.unsealed.Lasting.{outside_none}
use Rattle.sealed_pages.specs.lemmas.unsealed.Sparing.{sparing_start, sparing_then, sparing_weaker}
use Rattle.sealed_pages.specs.lemmas.unsealed.Writing.{idle_bytes, idle_parts, settled_parts}
use Rattle.ordinal_store.specs.Adopting.{IsReady}
use Rattle.ordinal_store.specs.Calls.{HasFailed}
use Rattle.ordinal_store.specs.Mending.{Clearing, IsClearable, IsCleared, IsCut, IsInLeft, IsInMarked, IsMade, Mending, StaysShort, whole}
use Rattle.ordinal_store.specs.Raised.{passed_on}
use Rattle.ordinal_store.specs.Slots.{slot_at}
use Rattle.ordinal_store.specs.Stores.{Sight, now}
use Rattle.ordinal_store.specs.declared.ordinal.Error.{Error}
use Rattle.ordinal_store.specs.declared.ordinal.Error.TheVariants.{Mem}
use Rattle.ordinal_store.proofs.ClearLemmas.{position_below, short_always, short_then}
use Rattle.ordinal_store.proofs.TrailLemmas.{failed_as}
use Rattle.blob_device.proofs.general.Results.{err_of}

-- a buffer with nothing unsettled has no run, and its blob's bytes for its own
module _ (u : WriteBlob) (clean : is_unsettled (shown u) ≡ false) where
  pub rested_run : u.pending.items ≡ []
  rested_run = (idle_parts (shown u) (settled_parts (shown u) clean).1).0

  pub rested_size : size_of (shown u) ≡ u.end
  rested_size = let idle = idle_parts (shown u) (settled_parts (shown u) clean).1 in omega (arith, ap length idle.0, idle.1)

  pub rested_bytes : (c : List ℕ) → length c ≡ size_of (shown u) → bytes_of (shown u) c ≡ c
  rested_bytes c long = idle_bytes (shown u) c (settled_parts (shown u) clean).1 (omega (arith, long, rested_size))

  pub rested_apart : (i : ℕ) → Outside (run_of (shown u) ∷ []) i
  rested_apart i = outside_none (shown u) rested_run i

pub whole_less : (size n : ℕ) → 1 ≤ size → whole size n ≤ n
whole_less size n some = let e : size * (n / size) ≤ n = omega (arith, some) in omega (arith, e)

-- what a buffer's failure is to the store
pub passed_as : {T : Type 0} (result : Result T Error) (e : RError) (old new : Sight) → IsErrAnd result (λ x. x ≡ passed_on e) → (e ≡ runtime.Mem) ⊎ ((e ≡ runtime.Fault) × Rose old.faults new.faults) → HasFailed result old new
passed_as {T = T} result e old new is why =
    let at : result ≡ Err (passed_on e) = err_of result (passed_on e) is in
    let f : RError → Result T Error = λ x. Err (passed_on x) in
    elim why [
      | inl mem ↦ inl (at ∙ ap f mem)
      | inr fault ↦ inr (at ∙ ap f fault.0, fault.1)
    ]

module _ (told : Type 0) (key : Key) (capacity : ℕ) (R : ℕ → Type 0) (len : ℕ) (Makes : List ℕ → List ℕ → Type 0) (u : WriteBlob) (old new : Sight)
    (moments : told → Sparing R len key old.time new.time) (short : told → StaysShort (size_of (shown u)) key old.time new.time)
    (entries : (q : Key) → q ≢ key → new.opened q ≡ old.opened q) (faults : old.faults ≤ new.faults) where
  mend_by : (e : Error) → HasFailed {T = WriteBlob} (Err e) old new → Mending told key capacity R len Makes u (Err e) old new
  mend_by e why = record { moments = moments; short = short; ready = tt; bytes = λ t. tt; entries = entries; faults = faults; cause = why }

  pub mend_failed : (result : Result WriteBlob Error) (e : Error) → IsErrAnd result (λ x. x ≡ e) → HasFailed {T = WriteBlob} (Err e) old new → Mending told key capacity R len Makes u result old new
  mend_failed result e is why = subst (λ (r : Result WriteBlob Error). Mending told key capacity R len Makes u r old new) (sym (err_of result e is)) (mend_by e why)

pub failed_of : (e : RError) (old new : Sight) → (e ≡ runtime.Mem) ⊎ ((e ≡ runtime.Fault) × Rose old.faults new.faults) → HasFailed {T = WriteBlob} (Err (passed_on e)) old new
failed_of e old new why =
    let f : RError → Result WriteBlob Error = λ x. Err (passed_on x) in
    elim why [
      | inl mem ↦ inl (ap f mem)
      | inr fault ↦ inr (ap f fault.0, fault.1)
    ]

-- The cut to whole slots.
module _ (told : Type 0) (size : ℕ) (some : 1 ≤ size) (u : WriteBlob) (old new : Sight) (ready : IsReady told (blob_key (shown u)) u.capacity old u)
    (spares : told → Sparing (λ i. (i < whole size (size_of (shown u))) × Outside (run_of (shown u) ∷ []) i) (min u.settled (whole size (size_of (shown u)))) (blob_key (shown u)) old.time new.time)
    (adds : told → AddsOnly (take (whole size (size_of (shown u))) (bytes_of (shown u) (now old (blob_key (shown u))).content) ∷ []) (blob_key (shown u)) old.time new.time)
    (no_reads : NoReads (blob_key (shown u)) old.opened new.opened) (faults : old.faults ≤ new.faults) where
  abbrev key : Key
  key = blob_key (shown u)

  abbrev len : ℕ
  len = whole size (size_of (shown u))

  abbrev clean : is_unsettled (shown u) ≡ false
  clean = ready.rested.clean

  less : len ≤ size_of (shown u)
  less = whole_less size (size_of (shown u)) some

  pub cut_moments : told → Sparing (λ i. i < len) len key old.time new.time
  cut_moments t = sparing_weaker (λ i. (i < len) × Outside (run_of (shown u) ∷ []) i) (λ i. i < len) (min u.settled len) len key old.time new.time
      (λ i below. (below, rested_apart u clean i)) (omega (arith, ready.rested.size, less)) (spares t)

  bytes_old : told → bytes_of (shown u) (now old key).content ≡ (now old key).content
  bytes_old t = rested_bytes u clean (now old key).content (sym (ready.size t))

  pub cut_short : told → StaysShort (size_of (shown u)) key old.time new.time
  cut_short t n le most = short_always key (take len (bytes_of (shown u) (now old key).content) ∷ []) n old.time new.time
      (omega (arith, le, less, length-take len (bytes_of (shown u) (now old key).content)), tt) most (adds t)

  module _ (v : WriteBlob) (key_v : blob_key (shown v) ≡ key) (capacity_v : v.capacity ≡ u.capacity) (is_open : IsOpenAt new.opened (blob_key (shown v)) v.end) (size_v : size_of (shown v) ≡ min len (size_of (shown u)))
      (over : told → Over (shown u) (now old key) → Over (shown v) (now new key))
      (cut : len < size_of (shown u) → (is_unsettled (shown v) ≡ false) × (v.settled ≡ len)) (stays : size_of (shown u) ≤ len → shown v ≡ shown u)
      (settles : told → len < size_of (shown u) → now new key ≡ settled_at (take len (bytes_of (shown u) (now old key).content))) (untouched : size_of (shown u) ≤ len → new ≡ old) where
    clean_v : is_unsettled (shown v) ≡ false
    clean_v = elim (cases_lt len (size_of (shown u))) [
      | inl shorter ↦ (cut shorter).0
      | inr not ↦ ap is_unsettled (stays (omega (arith, not))) ∙ clean
    ]

    settled_v : size_of (shown v) ≡ v.settled
    settled_v = elim (cases_lt len (size_of (shown u))) [
      | inl shorter ↦ omega (arith, size_v, less, (cut shorter).1)
      | inr not ↦ (let same = stays (omega (arith, not)) in let a : size_of (shown v) ≡ size_of (shown u) = ap size_of same in let b : v.settled ≡ u.settled = ap (λ (w : WriteBuffer). w.settled) same in omega (arith, a, b, ready.rested.size))
    ]

    content : told → (now new key).content ≡ take len (now old key).content
    content t = elim (cases_lt len (size_of (shown u))) [
      | inl shorter ↦ ap (λ b. b.content) (settles t shorter) ∙ ap (take len) (bytes_old t)
      | inr not ↦ ap (λ (s : Sight). (now s key).content) (untouched (omega (arith, not))) ∙ sym (take_all len (now old key).content (omega (arith, not, ready.size t)))
    ]

    long : told → size_of (shown v) ≡ length (now new key).content
    long t = let e : length (now new key).content ≡ length (take len (now old key).content) = ap length (content t) in omega (arith, e, size_v, less, length-take len (now old key).content, ready.size t)

    pub cut_done : Mending told key u.capacity (λ i. i < len) len (IsCut size) u (Ok v) old new
    cut_done = record {
      moments = cut_moments;
      short = cut_short;
      ready = record {
        rested = record { key_is = key_v; capacity_is = capacity_v; is_open = subst (λ (k : Key). IsOpenAt new.opened k v.end) key_v is_open; clean = clean_v; size = settled_v };
        over = λ t. over t (ready.over t);
        size = long;
      };
      bytes = λ t. content t ∙ ap (λ (n : ℕ). take (whole size n) (now old key).content) (ready.size t);
      entries = no_reads.others;
      faults = faults;
      cause = tt;
    }

-- What a cut of the buffer to a length promises.
pub record Truncated (told : Type 0) (u : WriteBlob) (len : ℕ) (r : Result WriteBlob RError) (old new : Sight) : Type 0 where
  pub spares : told → Sparing (λ i. (i < len) × Outside (run_of (shown u) ∷ []) i) (min u.settled len) (blob_key (shown u)) old.time new.time
  pub adds : told → ((u.end ≤ u.at) ⊎ ((len ≤ u.at) ⊎ (length u.pending.items ≡ 0))) → AddsOnly (take len (bytes_of (shown u) (now old (blob_key (shown u))).content) ∷ []) (blob_key (shown u)) old.time new.time
  pub over : told → Over (shown u) (now old (blob_key (shown u))) → IfOk r (λ v. Over (shown v) (now new (blob_key (shown u))))
  pub settles : told → len < size_of (shown u) → OnOk r (now new (blob_key (shown u)) ≡ settled_at (take len (bytes_of (shown u) (now old (blob_key (shown u))).content)))
  pub cut : len < size_of (shown u) → IfOk r (λ v. (is_unsettled (shown v) ≡ false) × (v.settled ≡ len))
  pub size : IfOk r (λ v. size_of (shown v) ≡ min len (size_of (shown u)))
  pub key_is : IfOk r (λ v. blob_key (shown v) ≡ blob_key (shown u))
  pub capacity_is : IfOk r (λ v. v.capacity ≡ u.capacity)
  pub untouched : size_of (shown u) ≤ len → new ≡ old
  pub stays : size_of (shown u) ≤ len → IsOkAnd r (λ v. shown v ≡ shown u)
  pub is_open : IfOk r (λ v. IsOpenAt new.opened (blob_key (shown v)) v.end)
  pub entries : NoReads (blob_key (shown u)) old.opened new.opened
  pub faults : old.faults ≤ new.faults
  pub cause : OnErr r ((r ≡ Err runtime.Mem) ⊎ ((r ≡ Err runtime.Fault) × Rose old.faults new.faults))

module _ (told : Type 0) (size : ℕ) (some : 1 ≤ size) (u : WriteBlob) (old new : Sight) (ready : IsReady told (blob_key (shown u)) u.capacity old u) where
  abbrev few : length u.pending.items ≡ 0
  few = ap length (rested_run u ready.rested.clean)

  refused_by : (e : RError) → Truncated told u (whole size (size_of (shown u))) (Err e) old new
      → Mending told (blob_key (shown u)) u.capacity (λ i. i < whole size (size_of (shown u))) (whole size (size_of (shown u))) (IsCut size) u (Err (passed_on e)) old new
  refused_by e t = mend_by told (blob_key (shown u)) u.capacity (λ i. i < whole size (size_of (shown u))) (whole size (size_of (shown u))) (IsCut size) u old new
      (cut_moments told size some u old new ready t.spares (λ x. t.adds x (inr (inr few))) t.entries t.faults) (cut_short told size some u old new ready t.spares (λ x. t.adds x (inr (inr few))) t.entries t.faults)
      t.entries.others t.faults (passed_on e) (failed_of e old new (elim t.cause [ inl mem ↦ inl (cc mem) | inr fault ↦ inr (cc fault.0, fault.1) ]))

  finished_by : (v : WriteBlob) → Truncated told u (whole size (size_of (shown u))) (Ok v) old new
      → Mending told (blob_key (shown u)) u.capacity (λ i. i < whole size (size_of (shown u))) (whole size (size_of (shown u))) (IsCut size) u (Ok v) old new
  finished_by v t = cut_done told size some u old new ready t.spares (λ x. t.adds x (inr (inr few))) t.entries t.faults v t.key_is t.capacity_is t.is_open t.size t.over t.cut t.stays t.settles t.untouched

  module _ (len : ℕ) (is : len ≡ whole size (size_of (shown u))) where
    pub cut_refused : (e : RError) (result : Result WriteBlob Error) → IsErrAnd result (λ x. x ≡ passed_on e) → Truncated told u len (Err e) old new
        → Mending told (blob_key (shown u)) u.capacity (λ i. i < whole size (size_of (shown u))) (whole size (size_of (shown u))) (IsCut size) u result old new
    cut_refused e result err t = subst (λ (r : Result WriteBlob Error). Mending told (blob_key (shown u)) u.capacity (λ i. i < whole size (size_of (shown u))) (whole size (size_of (shown u))) (IsCut size) u r old new) (sym (err_of result (passed_on e) err))
        (refused_by e (subst (λ (n : ℕ). Truncated told u n (Err e) old new) is t))

    pub cut_finished : (v : WriteBlob) → Truncated told u len (Ok v) old new → Mending told (blob_key (shown u)) u.capacity (λ i. i < whole size (size_of (shown u))) (whole size (size_of (shown u))) (IsCut size) u (Ok v) old new
    cut_finished v t = finished_by v (subst (λ (n : ℕ). Truncated told u n (Ok v) old new) is t)

-- The clearing of a section that is cut to whole slots: zeros, and a sync.
pub clearable_of : (told : Type 0) (size : ℕ) (bits : List Bool) (v : Sight) (u : WriteBlob) → IsReady told (blob_key (shown u)) u.capacity v u → IsClearable told size bits v u
clearable_of told size bits v u ready = record {
  is_open = ready.rested.is_open;
  apart = λ i m. rested_apart u ready.rested.clean i;
  over = ready.over;
  long = λ t. ap length (rested_bytes u ready.rested.clean (now v (blob_key (shown u))).content (sym (ready.size t))) ∙ sym (ready.size t);
}

module _ (told : Type 0) (size : ℕ) (bits : List Bool) (u : WriteBlob) (old mid : Sight) (ready : IsReady told (blob_key (shown u)) u.capacity old u) where
  abbrev k : Key
  k = blob_key (shown u)

  abbrev count : ℕ
  count = size_of (shown u) / size

  -- no memory for the zeros, or a refused write
  pub uncleared : (e : RError) (result : Result WriteBlob Error) → IsErrAnd result (λ x. x ≡ passed_on e) → Clearing told size bits 0 count (shown u) (Err e) old mid
      → Mending told k u.capacity (IsInMarked size bits) (size_of (shown u)) (IsCleared size bits 0 count) u result old mid
  uncleared e result is c = mend_failed told k u.capacity (IsInMarked size bits) (size_of (shown u)) (IsCleared size bits 0 count) u old mid
      (λ t. subst (λ (n : ℕ). Sparing (IsInMarked size bits) n k old.time mid.time) (sym ready.rested.size) (c.moments t)) c.short c.entries c.faults result (passed_on e) is
      (failed_of e old mid (elim c.cause [ inl mem ↦ inl (cc mem) | inr fault ↦ inr (cc fault.0, fault.1) ]))

  pub no_zeros : (result : Result WriteBlob Error) → IsErrAnd result (λ x. x ≡ Mem) → Mending told k u.capacity (IsInMarked size bits) (size_of (shown u)) (IsCleared size bits 0 count) u result old old
  no_zeros result is = mend_failed told k u.capacity (IsInMarked size bits) (size_of (shown u)) (IsCleared size bits 0 count) u old old
      (λ t. sparing_start (IsInMarked size bits) (size_of (shown u)) k old.time) (λ t n le most. always_start old.time (λ d. longest (d k) ≤ n) most) (λ q other. refl) (omega arith) result Mem is (inl refl)

  module _ (v : WriteBlob) (c : Clearing told size bits 0 count (shown u) (Ok v) old mid) (new : Sight)
      (spares : told → Sparing (Outside (run_of (shown v) ∷ [])) v.settled (blob_key (shown v)) mid.time new.time)
      (adds : told → AddsOnly (bytes_of (shown v) (now mid (blob_key (shown v))).content ∷ []) (blob_key (shown v)) mid.time new.time)
      (no_reads : NoReads (blob_key (shown v)) mid.opened new.opened) (faults : mid.faults ≤ new.faults) where
    both_moments : told → Sparing (IsInMarked size bits) (size_of (shown u)) k old.time new.time
    both_moments t = subst (λ (n : ℕ). Sparing (IsInMarked size bits) n k old.time new.time) (sym ready.rested.size)
        (sparing_then (IsInMarked size bits) u.settled k old.time mid.time new.time (c.moments t)
        (subst (λ (x : Key). Sparing (IsInMarked size bits) u.settled x mid.time new.time) c.same.key
        (sparing_weaker (Outside (run_of (shown v) ∷ [])) (IsInMarked size bits) v.settled u.settled (blob_key (shown v)) mid.time new.time c.clearable.apart (omega (arith, c.same.settled)) (spares t))))

    both_short : told → StaysShort (size_of (shown u)) k old.time new.time
    both_short t = short_then k (size_of (shown u)) (size_of (shown v)) old.time mid.time new.time (omega (arith, c.same.long)) (c.short t)
        (subst (λ (x : Key). StaysShort (size_of (shown v)) x mid.time new.time) c.same.key
        (λ n le most. short_always (blob_key (shown v)) (bytes_of (shown v) (now mid (blob_key (shown v))).content ∷ []) n mid.time new.time (omega (arith, c.clearable.long t, le), tt) most (adds t)))

    both_entries : (q : Key) → q ≢ k → new.opened q ≡ old.opened q
    both_entries q other = no_reads.others q (λ is. other (is ∙ c.same.key)) ∙ c.entries q other

    pub unsettled : (e : RError) (result : Result WriteBlob Error) → IsErrAnd result (λ x. x ≡ passed_on e) → (e ≡ runtime.Mem) ⊎ ((e ≡ runtime.Fault) × Rose mid.faults new.faults)
        → Mending told k u.capacity (IsInMarked size bits) (size_of (shown u)) (IsCleared size bits 0 count) u result old new
    unsettled e result is why = mend_failed told k u.capacity (IsInMarked size bits) (size_of (shown u)) (IsCleared size bits 0 count) u old new both_moments both_short both_entries (omega (arith, c.faults, faults)) result (passed_on e) is
        (failed_of e old new (elim why [ inl mem ↦ inl mem | inr fault ↦ inr (fault.0, omega (arith, fault.1, c.faults)) ]))

    pub clear_done : (w : WriteBlob) → shown w ≡ record (shown v) { end = size_of (shown v); pending = []; settled = size_of (shown v); dirty = false } → is_unsettled (shown w) ≡ false → IsOpenAt new.opened (blob_key (shown w)) w.end
        → (told → Over (shown v) (now mid (blob_key (shown v))) → Over (shown w) (now new (blob_key (shown v))))
        → (told → Over (shown v) (now mid (blob_key (shown v))) → now new (blob_key (shown v)) ≡ settled_at (bytes_of (shown v) (now mid (blob_key (shown v))).content))
        → Mending told k u.capacity (IsInMarked size bits) (size_of (shown u)) (IsCleared size bits 0 count) u (Ok w) old new
    clear_done w same clean is_open over settles =
        let key_w : blob_key (shown w) ≡ k = ap blob_key same ∙ c.same.key in
        let size_w : size_of (shown w) ≡ max (size_of (shown v)) (v.at + 0) = ap size_of same in
        let at : told → (now new k).content ≡ bytes_of (shown v) (now mid k).content = λ t. ap (λ b. b.content)
        (subst (λ (x : Key). now new x ≡ settled_at (bytes_of (shown v) (now mid x).content)) c.same.key (settles t (c.clearable.over t))) in
        record {
          moments = both_moments;
          short = both_short;
          ready = record {
            rested = record {
              key_is = key_w;
              capacity_is = ap (λ (x : WriteBuffer). x.capacity) same ∙ c.same.capacity;
              is_open = subst (λ (x : Key). IsOpenAt new.opened x w.end) key_w is_open;
              clean = clean;
              size = (let e : w.settled ≡ size_of (shown v) = ap (λ (x : WriteBuffer). x.settled) same in omega (arith, e, size_w));
            };
            over = λ t. subst (λ (x : Key). Over (shown w) (now new x)) c.same.key (over t (c.clearable.over t));
            size = λ t. (let e : length (now new k).content ≡ length (bytes_of (shown v) (now mid k).content) = ap length (at t) in
                let f : length (bytes_of (shown v) (now mid k).content) ≡ size_of (shown v) = subst (λ (x : Key). length (bytes_of (shown v) (now mid x).content) ≡ size_of (shown v)) c.same.key (c.clearable.long t) in
                omega (arith, e, f, size_w));
          };
          bytes = λ t. subst (IsCleared size bits 0 count (now old k).content) (sym (at t))
              (subst (λ (x : List ℕ). IsCleared size bits 0 count x (bytes_of (shown v) (now mid k).content)) (rested_bytes u ready.rested.clean (now old k).content (sym (ready.size t))) (c.bytes t));
          entries = both_entries;
          faults = omega (arith, c.faults, faults);
          cause = tt;
        }

-- slots below a length are those of the whole
pub slot_cut : (size p n : ℕ) (c : List ℕ) → p * size + size ≤ n → n ≤ length c → slot_at size (take n c) p ≡ slot_at size c p
slot_cut size p n c room less = ext_get_or 0 (slot_at size (take n c) p) (slot_at size c p) (cut_length ∙ sym whole_length)
    (λ i below.
    let inside : i < size = omega (arith, below, cut_length) in
    get_or-take size (drop (p * size) (take n c)) i 0 inside ∙ get_or-drop (p * size) (take n c) i 0 ∙ get_or-take n c (p * size + i) 0 (omega (arith, inside, room))
    ∙ sym (get_or-take size (drop (p * size) c) i 0 inside ∙ get_or-drop (p * size) c i 0))
  where
    cut_length : length (slot_at size (take n c) p) ≡ size
    cut_length = length-take-le size (drop (p * size) (take n c)) (omega (arith, length-drop (p * size) (take n c), length-take n c, room, less))

    whole_length : length (slot_at size c p) ≡ size
    whole_length = length-take-le size (drop (p * size) c) (omega (arith, length-drop (p * size) c, room, less))

module _ (size : ℕ) (some : 1 ≤ size) (c : List ℕ) where
  pub whole_room : (p : ℕ) → p < length c / size → p * size + size ≤ whole size (length c)
  whole_room p below = let more : (p + 1) * size ≤ length c / size * size = mul-le-mul_right size (omega (arith, below)) in omega (arith, more, add-mul p 1 size)

  abbrev cut : List ℕ
  cut = take (whole size (length c)) c

  cut_length : length cut ≡ whole size (length c)
  cut_length = omega (arith, length-take (whole size (length c)) c, whole_less size (length c) some)

  pub cut_made : IsMade size None c cut
  cut_made = record {
    size_is = cut_length;
    kept = λ p below left. slot_cut size p (whole size (length c)) c (whole_room p below) (whole_less size (length c) some);
    cleared = λ p below not. absurd (cc not);
  }

  pub cleared_made : (bits : List Bool) (n : ℕ) (m : List ℕ) → n ≡ length cut → IsCleared size bits 0 (n / size) cut m → IsMade size (Some bits) c m
  cleared_made bits n m is cl = record {
    size_is = cl.size_is ∙ cut_length;
    kept = λ p below left. cl.kept p (omega (arith, whole_room p below, cut_length)) (inl left) ∙ slot_cut size p (whole size (length c)) c (whole_room p below) (whole_less size (length c) some);
    cleared = λ p below not. cl.cleared p (omega arith) (position_below p size n some (omega (arith, whole_room p below, cut_length, is))) (omega (arith, whole_room p below, cut_length)) not;
  }

-- A cut section without bits is mended, and one with bits once it is cleared.
module _ (told : Type 0) (size : ℕ) (some : 1 ≤ size) (u v : WriteBlob) (old mid : Sight) (ready : IsReady told (blob_key (shown u)) u.capacity old u)
    (cut_is : Mending told (blob_key (shown u)) u.capacity (λ i. i < whole size (size_of (shown u))) (whole size (size_of (shown u))) (IsCut size) u (Ok v) old mid) where
  abbrev key_u : Key
  key_u = blob_key (shown u)

  abbrev len_u : ℕ
  len_u = whole size (size_of (shown u))

  weak : (marks : Option (List Bool)) (a b : Timeline) → Sparing (λ i. i < len_u) len_u key_u a b → Sparing (IsInLeft size marks len_u) len_u key_u a b
  weak marks a b s = sparing_weaker (λ i. i < len_u) (IsInLeft size marks len_u) len_u len_u key_u a b (λ i m. m.below) (omega arith) s

  pub mend_cut : Mending told key_u u.capacity (IsInLeft size None len_u) len_u (IsMade size None) u (Ok v) old mid
  mend_cut = record {
    moments = λ t. weak None old.time mid.time (cut_is.moments t);
    short = cut_is.short;
    ready = cut_is.ready;
    bytes = λ t. subst (IsMade size None (now old key_u).content) (sym (cut_is.bytes t)) (cut_made size some (now old key_u).content);
    entries = cut_is.entries;
    faults = cut_is.faults;
    cause = tt;
  }

  long_v : told → size_of (shown v) ≡ len_u
  long_v t = let e : length (now mid key_u).content ≡ length (take (whole size (length (now old key_u).content)) (now old key_u).content) = ap length (cut_is.bytes t) in
      let f : whole size (length (now old key_u).content) ≡ len_u = ap (whole size) (sym (ready.size t)) in
      omega (arith, e, f, cut_is.ready.size t, length-take (whole size (length (now old key_u).content)) (now old key_u).content, whole_less size (length (now old key_u).content) some)

  module _ (bits : List Bool) (r : Result WriteBlob Error) (new : Sight)
      (clear : Mending told (blob_key (shown v)) v.capacity (IsInMarked size bits) (size_of (shown v)) (IsCleared size bits 0 (size_of (shown v) / size)) v r mid new) where
    key_v : blob_key (shown v) ≡ key_u
    key_v = cut_is.ready.rested.key_is

    all_moments : told → Sparing (IsInLeft size (Some bits) len_u) len_u key_u old.time new.time
    all_moments t = sparing_then (IsInLeft size (Some bits) len_u) len_u key_u old.time mid.time new.time (weak (Some bits) old.time mid.time (cut_is.moments t))
        (subst (λ (x : Key). Sparing (IsInLeft size (Some bits) len_u) len_u x mid.time new.time) key_v
        (sparing_weaker (IsInMarked size bits) (IsInLeft size (Some bits) len_u) (size_of (shown v)) len_u (blob_key (shown v)) mid.time new.time
        (λ i m. record { position = m.position; marked = m.left; within = m.within }) (omega (arith, long_v t)) (clear.moments t)))

    all_short : told → StaysShort (size_of (shown u)) key_u old.time new.time
    all_short t = short_then key_u (size_of (shown u)) (size_of (shown v)) old.time mid.time new.time (omega (arith, long_v t, whole_less size (size_of (shown u)) some)) (cut_is.short t)
        (subst (λ (x : Key). StaysShort (size_of (shown v)) x mid.time new.time) key_v (clear.short t))

    all_entries : (q : Key) → q ≢ key_u → new.opened q ≡ old.opened q
    all_entries q other = clear.entries q (λ is. other (is ∙ key_v)) ∙ cut_is.entries q other

  pub mend_both : (bits : List Bool) (r : Result WriteBlob Error) (new : Sight) → Mending told (blob_key (shown v)) v.capacity (IsInMarked size bits) (size_of (shown v)) (IsCleared size bits 0 (size_of (shown v) / size)) v r mid new
      → Mending told key_u u.capacity (IsInLeft size (Some bits) len_u) len_u (IsMade size (Some bits)) u r old new
  mend_both bits (Err e) new clear = record {
    moments = all_moments bits (Err e) new clear;
    short = all_short bits (Err e) new clear;
    ready = tt;
    bytes = λ t. tt;
    entries = all_entries bits (Err e) new clear;
    faults = omega (arith, cut_is.faults, clear.faults);
    cause = failed_as {T = WriteBlob} {U = WriteBlob} e old mid new cut_is.faults clear.cause;
  }
  mend_both bits (Ok w) new clear = record {
    moments = all_moments bits (Ok w) new clear;
    short = all_short bits (Ok w) new clear;
    ready = subst (λ (x : Key). IsReady told x u.capacity new w) (key_v bits (Ok w) new clear) (subst (λ (n : ℕ). IsReady told (blob_key (shown v)) n new w) cut_is.ready.rested.capacity_is clear.ready);
    bytes = λ t. cleared_made size some (now old key_u).content bits (size_of (shown v)) (now new key_u).content
        (let e : length (now mid key_u).content ≡ length (take (whole size (length (now old key_u).content)) (now old key_u).content) = ap length (cut_is.bytes t) in omega (arith, e, cut_is.ready.size t))
        (subst (λ (x : List ℕ). IsCleared size bits 0 (size_of (shown v) / size) x (now new key_u).content) (cut_is.bytes t)
        (subst (λ (x : Key). IsCleared size bits 0 (size_of (shown v) / size) (now mid x).content (now new x).content) (key_v bits (Ok w) new clear) (clear.bytes t)));
    entries = all_entries bits (Ok w) new clear;
    faults = omega (arith, cut_is.faults, clear.faults);
    cause = tt;
  }

-- a cut that failed is a mending that failed
pub mend_cut_failed : (told : Type 0) (size : ℕ) (marks : Option (List Bool)) (u : WriteBlob) (old mid : Sight) (e : Error) (result : Result WriteBlob Error) → IsErrAnd result (λ x. x ≡ e)
    → Mending told (blob_key (shown u)) u.capacity (λ i. i < whole size (size_of (shown u))) (whole size (size_of (shown u))) (IsCut size) u (Err e) old mid
    → Mending told (blob_key (shown u)) u.capacity (IsInLeft size marks (whole size (size_of (shown u)))) (whole size (size_of (shown u))) (IsMade size marks) u result old mid
mend_cut_failed told size marks u old mid e result is c = mend_failed told (blob_key (shown u)) u.capacity (IsInLeft size marks (whole size (size_of (shown u)))) (whole size (size_of (shown u))) (IsMade size marks) u old mid
    (λ t. sparing_weaker (λ i. i < whole size (size_of (shown u))) (IsInLeft size marks (whole size (size_of (shown u)))) (whole size (size_of (shown u))) (whole size (size_of (shown u))) (blob_key (shown u)) old.time mid.time (λ i m. m.below) (omega arith) (c.moments t))
    c.short c.entries c.faults result e is c.cause

-- a buffer's own key and capacity are those that it was made with
pub ready_own : (told : Type 0) (k : Key) (c : ℕ) (v : Sight) (u : WriteBlob) → IsReady told k c v u → IsReady told (blob_key (shown u)) u.capacity v u
ready_own told k c v u ready = subst (λ (n : ℕ). IsReady told (blob_key (shown u)) n v u) (sym ready.rested.capacity_is) (subst (λ (x : Key). IsReady told x c v u) (sym ready.rested.key_is) ready)

pub mending_at : (told : Type 0) (k : Key) (c : ℕ) (R : ℕ → Type 0) (len : ℕ) (Makes : List ℕ → List ℕ → Type 0) (u : WriteBlob) (r : Result WriteBlob Error) (old new : Sight) → IsReady told k c old u
    → Mending told (blob_key (shown u)) u.capacity R len Makes u r old new → Mending told k c R len Makes u r old new
mending_at told k c R len Makes u r old new ready m =
    subst (λ (n : ℕ). Mending told k n R len Makes u r old new) ready.rested.capacity_is (subst (λ (x : Key). Mending told x u.capacity R len Makes u r old new) ready.rested.key_is m)
