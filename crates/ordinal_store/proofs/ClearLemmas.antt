-- Clearing slots, one after another: what each step makes of the bytes, and what it leaves at each moment.
use Rattle.std.specs.Prelude.{◌≡◌, ◌≢◌, ◌⊎◌, ℕ, ◌+◌, ◌*◌, ◌/◌, ◌<◌, ◌≤◌, max, Bool, true, false, List, [], ◌∷◌, length, replicate, Result, Ok, Err, IfOk, OnErr}
use Rattle.std.specs.List.{AllByRecursion}
use Rattle.std.proofs.Common.{inl, inr, refl, sym, ◌∙◌, ap, subst, arith}
use Rattle.std.proofs.Math.Nat.{le-div_iff_mul-le, add-mul}
use Rattle.std.proofs.lemmas.Bool.{cases_lt}
use Rattle.blob_device.specs.Change.{written}
use Rattle.blob_device.specs.Counts.{Rose}
use Rattle.blob_device.specs.Disk.{Key, Outside, longest}
use Rattle.blob_device.specs.Timeline.{Always, Timeline, disk}
use Rattle.blob_device.specs.declared.runtime.RError.{RError}
use Rattle.blob_device.specs.declared.runtime.RError.TheVariants.{Fault, Mem}
use Rattle.blob_device.specs.lemmas.Moments.{always_start, always_now, always_then, always_weaker}
use Rattle.sealed_pages.specs.declared.write_blob.WriteBlob.{WriteBlob}
use Rattle.sealed_pages.specs.Contents.{AddsOnly, AllSince}
use Rattle.sealed_pages.specs.Entries.{IsOpenAt, NoReads}
use Rattle.sealed_pages.specs.Sparing.{Sparing}
use Rattle.sealed_pages.specs.unsealed.Writing.{HoldsOnly, Over, WriteBuffer, blob_key, bytes_of, run_of, shown, size_of}
use Rattle.sealed_pages.specs.lemmas.unsealed.Content.{adds_keep}
use Rattle.sealed_pages.specs.lemmas.unsealed.Sparing.{sparing_start, sparing_weaker}
use Rattle.ordinal_store.specs.Mending.{Clearing, IsClearable, IsCleared, IsInMarked, StaysShort, is_marked}
use Rattle.ordinal_store.specs.Slots.{slot_at}
use Rattle.ordinal_store.specs.Stores.{Sight, now}
use Rattle.ordinal_store.proofs.MendingLemmas.{marked_apart, outside_after, sparing_on}
use Rattle.ordinal_store.proofs.PutLemmas.{slot_beside, slot_written}
use Rattle.ordinal_store.proofs.StepLemmas.{all_short, longest_of}
use Rattle.blob_device.specs.Lengths.{length-written}

-- a slot stands whole in so many bytes exactly where its position is below their count of slots
pub position_below : (p size n : ℕ) → 1 ≤ size → p * size + size ≤ n → p < n / size
position_below p size n some room =
    let more : (p + 1) * size ≤ n = omega (arith, room, add-mul p 1 size) in
    let below : p + 1 ≤ n / size = (le-div_iff_mul-le {k = size} {x = p + 1} {y = n} some).1 more in
    omega (arith, below)

pub room_below : (p size n : ℕ) → 1 ≤ size → p < n / size → p * size + size ≤ n
room_below p size n some below =
    let more : (p + 1) * size ≤ n = (le-div_iff_mul-le {k = size} {x = p + 1} {y = n} some).0 (omega (arith, below)) in
    omega (arith, more, add-mul p 1 size)

-- contents that calls add, none of them longer, make no crash longer
pub short_always : (key : Key) (made : List (List ℕ)) (n : ℕ) (t0 t1 : Timeline) → AllByRecursion (λ (c : List ℕ). length c ≤ n) made → longest (disk t0 key) ≤ n → AddsOnly made key t0 t1 → Always t0 t1 (λ d. longest (d key) ≤ n)
short_always key made n t0 t1 new short adds =
    always_weaker t0 t1 (λ d. AllSince (λ (c : List ℕ). length c ≤ n) (d key)) (λ d. longest (d key) ≤ n)
    (λ d all. longest_of n (d key).settled (d key).since all)
    (adds_keep (λ (c : List ℕ). length c ≤ n) made key t0 t1 (all_short n (length (disk t0 key).settled) (disk t0 key).since short) new adds)

pub short_then : (key : Key) (m k : ℕ) (t0 t1 t2 : Timeline) → k ≤ m → StaysShort m key t0 t1 → StaysShort k key t1 t2 → StaysShort m key t0 t2
short_then key m k t0 t1 t2 less first second n le short =
    let to : Always t0 t1 (λ d. longest (d key) ≤ n) = first n le short in
    always_then t0 t1 t2 (λ d. longest (d key) ≤ n) to (second n (omega (arith, le, less)) (always_now t0 t1 (λ d. longest (d key) ≤ n) to))

pub cleared_on : (size : ℕ) (bits : List Bool) (a b c : ℕ) (x y z : List ℕ) → a ≤ b → b ≤ c → IsCleared size bits a b x y → IsCleared size bits b c y z → IsCleared size bits a c x z
cleared_on size bits a b c x y z ab bc first second = record {
  size_is = second.size_is ∙ first.size_is;
  kept = λ p room which. elim which [
    | inl marked ↦ second.kept p (omega (arith, room, first.size_is)) (inl marked) ∙ first.kept p room (inl marked)
    | inr (inl before) ↦ second.kept p (omega (arith, room, first.size_is)) (inr (inl (omega (arith, before, ab)))) ∙ first.kept p room (inr (inl before))
    | inr (inr behind) ↦ second.kept p (omega (arith, room, first.size_is)) (inr (inr behind)) ∙ first.kept p room (inr (inr (omega (arith, behind, bc))))
  ];
  cleared = λ p from to room unmarked. elim (cases_lt p b) [
    | inl early ↦ second.kept p (omega (arith, room, first.size_is)) (inr (inl early)) ∙ first.cleared p from early room unmarked
    | inr late ↦ second.cleared p (omega (arith, late)) to (omega (arith, room, first.size_is)) unmarked
  ];
}

module _ (told : Type 0) (size : ℕ) (bits : List Bool) where
  pub clear_kept : (v : Sight) (u : WriteBlob) (p : ℕ) → is_marked bits p ≡ true → IsClearable told size bits v u → Clearing told size bits p (p + 1) (shown u) (Ok u) v v
  clear_kept v u p marked clearable = record {
    moments = λ t. sparing_start (IsInMarked size bits) u.settled (blob_key (shown u)) v.time;
    short = λ t n le short. always_start v.time (λ d. longest (d (blob_key (shown u))) ≤ n) short;
    same = record { key = refl; capacity = refl; long = refl; settled = refl };
    clearable = clearable;
    bytes = λ t. record {
      size_is = refl;
      kept = λ q room which. refl;
      cleared = λ q from to room unmarked. (let same : q ≡ p = omega (arith, from, to) in absurd (cc (sym unmarked ∙ ap (is_marked bits) same ∙ marked)));
    };
    entries = λ q other. refl;
    faults = omega arith;
    cause = tt;
  }

  -- a write of zeros over a slot that is not marked
  module _ (old new : Sight) (u : WriteBlob) (p : ℕ) (zeros : List ℕ) (len : length zeros ≡ size) (zero : zeros ≡ replicate size 0) (unmarked : is_marked bits p ≡ false) (room : p * size + size ≤ size_of (shown u))
      (clearable : IsClearable told size bits old u)
      (spares : told → Sparing (Outside ((p * size, length zeros) ∷ run_of (shown u) ∷ [])) u.settled (blob_key (shown u)) old.time new.time)
      (adds : told → AddsOnly (bytes_of (shown u) (now old (blob_key (shown u))).content ∷ written (bytes_of (shown u) (now old (blob_key (shown u))).content) (p * size) zeros ∷ []) (blob_key (shown u)) old.time new.time)
      (entries : NoReads (blob_key (shown u)) old.opened new.opened) (faults : old.faults ≤ new.faults) where
    abbrev key : Key
    key = blob_key (shown u)

    abbrev all : List ℕ
    all = bytes_of (shown u) (now old key).content

    moments : told → Sparing (IsInMarked size bits) u.settled key old.time new.time
    moments t = sparing_weaker (Outside ((p * size, length zeros) ∷ run_of (shown u) ∷ [])) (IsInMarked size bits) u.settled u.settled key old.time new.time
        (λ i m. (subst (λ (n : ℕ). (i < p * size) ⊎ (p * size + n ≤ i)) (sym len) (marked_apart size p bits i unmarked m), clearable.apart i m)) (omega arith) (spares t)

    short : told → StaysShort (size_of (shown u)) key old.time new.time
    short t n le less = short_always key (all ∷ written all (p * size) zeros ∷ []) n old.time new.time
        (omega (arith, clearable.long t, le), (omega (arith, clearable.long t, le, room, len, length-written all (p * size) zeros), tt)) less (adds t)

    pub clear_wrote : (r : Result WriteBlob RError) → IfOk r (λ v. shown v ≡ record (shown u) { end = v.end; at = v.at; pending = v.pending.items; dirty = v.dirty }) → IfOk r (λ v. size_of (shown v) ≡ max (size_of (shown u)) (p * size + length zeros))
        → IfOk r (λ v. HoldsOnly (shown u) (p * size) zeros (shown v)) → IfOk r (λ v. IsOpenAt new.opened (blob_key (shown v)) v.end) → (told → Over (shown u) (now old key) → IfOk r (λ v. Over (shown v) (now new key)))
        → (told → IfOk r (λ v. bytes_of (shown v) (now new key).content ≡ written all (p * size) zeros)) → OnErr r ((r ≡ Err Mem) ⊎ ((r ≡ Err Fault) × Rose old.faults new.faults))
        → Clearing told size bits p (p + 1) (shown u) r old new
    clear_wrote (Err e) same size_is holds is_open over bytes cause = record {
      moments = moments;
      short = short;
      same = tt;
      clearable = tt;
      bytes = λ t. tt;
      entries = entries.others;
      faults = faults;
      cause = cause;
    }
    clear_wrote (Ok v) same size_is holds is_open over bytes cause =
        let key_v : blob_key (shown v) ≡ key = ap blob_key same in
        let size_v : size_of (shown v) ≡ size_of (shown u) = omega (arith, size_is, room, len) in
        record {
          moments = moments;
          short = short;
          same = record { key = key_v; capacity = ap (λ (w : WriteBuffer). w.capacity) same; long = size_v; settled = ap (λ (w : WriteBuffer). w.settled) same };
          clearable = record {
            is_open = is_open;
            apart = λ i m. outside_after (shown u) (shown v) (p * size) zeros i holds (clearable.apart i m) (subst (λ (n : ℕ). (i < p * size) ⊎ (p * size + n ≤ i)) (sym len) (marked_apart size p bits i unmarked m));
            over = λ t. subst (λ (k : Key). Over (shown v) (now new k)) (sym key_v) (over t (clearable.over t));
            long = λ t. (let at : length (bytes_of (shown v) (now new (blob_key (shown v))).content) ≡ length (bytes_of (shown v) (now new key).content) = ap (λ (k : Key). length (bytes_of (shown v) (now new k).content)) key_v in
                let is : length (bytes_of (shown v) (now new key).content) ≡ length (written all (p * size) zeros) = ap length (bytes t) in
                omega (arith, at, is, length-written all (p * size) zeros, room, len, clearable.long t, size_v));
          };
          bytes = λ t. subst (IsCleared size bits p (p + 1) all) (sym (bytes t)) (record {
            size_is = omega (arith, length-written all (p * size) zeros, room, len, clearable.long t);
            kept = λ q within which. slot_beside size p q all zeros len (not_same q which) within;
            cleared = λ q from to within un. (let same_q : q ≡ p = omega (arith, from, to) in
                ap (slot_at size (written all (p * size) zeros)) same_q ∙ slot_written size p all zeros len ∙ zero);
          });
          entries = entries.others;
          faults = faults;
          cause = tt;
        }
      where
        not_same : (q : ℕ) → (is_marked bits q ≡ true) ⊎ ((q < p) ⊎ (p + 1 ≤ q)) → p ≢ q
        not_same q (inl marked) is = absurd (cc (sym unmarked ∙ ap (is_marked bits) is ∙ marked))
        not_same q (inr (inl before)) is = absurd (omega (arith, before, is))
        not_same q (inr (inr behind)) is = absurd (omega (arith, behind, is))

  module _ (a b : ℕ) (ab : a ≤ b) (u v : WriteBlob) (s0 s1 s2 : Sight) (first : Clearing told size bits a b (shown u) (Ok v) s0 s1) where
    pub clear_failed : (c d : ℕ) (e : RError) (r : Result WriteBlob RError) → r ≡ Err e → Clearing told size bits b c (shown v) (Err e) s1 s2 → Clearing told size bits a d (shown u) r s0 s2
    clear_failed c d e r is second = subst (λ (x : Result WriteBlob RError). Clearing told size bits a d (shown u) x s0 s2) (sym is) (record {
      moments = λ t. sparing_on (IsInMarked size bits) (shown u) (shown v) s0.time s1.time s2.time first.same.key first.same.settled (first.moments t) (second.moments t);
      short = λ t. short_then (blob_key (shown u)) (size_of (shown u)) (size_of (shown v)) s0.time s1.time s2.time (omega (arith, first.same.long)) (first.short t)
          (subst (λ (k : Key). StaysShort (size_of (shown v)) k s1.time s2.time) first.same.key (second.short t));
      same = tt;
      clearable = tt;
      bytes = λ t. tt;
      entries = λ q other. second.entries q (λ is_q. other (is_q ∙ first.same.key)) ∙ first.entries q other;
      faults = omega (arith, first.faults, second.faults);
      cause = elim second.cause [
        | inl mem ↦ inl mem
        | inr fault ↦ inr (fault.0, omega (arith, fault.1, first.faults))
      ];
    })

    pub clear_then : (c : ℕ) (w : WriteBlob) → b ≤ c → Clearing told size bits b c (shown v) (Ok w) s1 s2 → Clearing told size bits a c (shown u) (Ok w) s0 s2
    clear_then c w bc second = record {
      moments = λ t. sparing_on (IsInMarked size bits) (shown u) (shown v) s0.time s1.time s2.time first.same.key first.same.settled (first.moments t) (second.moments t);
      short = λ t. short_then (blob_key (shown u)) (size_of (shown u)) (size_of (shown v)) s0.time s1.time s2.time (omega (arith, first.same.long)) (first.short t)
          (subst (λ (k : Key). StaysShort (size_of (shown v)) k s1.time s2.time) first.same.key (second.short t));
      same = record { key = second.same.key ∙ first.same.key; capacity = second.same.capacity ∙ first.same.capacity; long = second.same.long ∙ first.same.long; settled = second.same.settled ∙ first.same.settled };
      clearable = second.clearable;
      bytes = λ t. cleared_on size bits a b c _ _ _ ab bc (first.bytes t)
          (subst (λ (k : Key). IsCleared size bits b c (bytes_of (shown v) (now s1 k).content) (bytes_of (shown w) (now s2 k).content)) first.same.key (second.bytes t));
      entries = λ q other. second.entries q (λ is_q. other (is_q ∙ first.same.key)) ∙ first.entries q other;
      faults = omega (arith, first.faults, second.faults);
      cause = tt;
    }

  pub clear_start : (v : Sight) (u : WriteBlob) → IsClearable told size bits v u → Clearing told size bits 0 0 (shown u) (Ok u) v v
  clear_start v u clearable = record {
    moments = λ t. sparing_start (IsInMarked size bits) u.settled (blob_key (shown u)) v.time;
    short = λ t n le short. always_start v.time (λ d. longest (d (blob_key (shown u))) ≤ n) short;
    same = record { key = refl; capacity = refl; long = refl; settled = refl };
    clearable = clearable;
    bytes = λ t. record { size_is = refl; kept = λ q room which. refl; cleared = λ q from to room unmarked. absurd (omega (arith, to)) };
    entries = λ q other. refl;
    faults = omega arith;
    cause = tt;
  }

  -- no slot is left
  pub clear_all : (v0 v1 : Sight) (u w : WriteBlob) (c d : ℕ) → 1 ≤ size → c ≡ size_of (shown u) / size → c ≤ d → (told → length (bytes_of (shown u) (now v0 (blob_key (shown u))).content) ≡ size_of (shown u))
      → Clearing told size bits 0 d (shown u) (Ok w) v0 v1 → Clearing told size bits 0 c (shown u) (Ok w) v0 v1
  clear_all v0 v1 u w c d some is enough long far = record {
    moments = far.moments;
    short = far.short;
    same = far.same;
    clearable = far.clearable;
    bytes = λ t. record {
      size_is = (far.bytes t).size_is;
      kept = λ p room which. elim which [
        | inl marked ↦ (far.bytes t).kept p room (inl marked)
        | inr (inl before) ↦ (far.bytes t).kept p room (inr (inl before))
        | inr (inr behind) ↦ absurd (omega (arith, behind, is, position_below p size (size_of (shown u)) some (omega (arith, room, long t))))
      ];
      cleared = λ p from to room unmarked. (far.bytes t).cleared p from (omega (arith, to, enough)) room unmarked;
    };
    entries = far.entries;
    faults = far.faults;
    cause = tt;
  }
