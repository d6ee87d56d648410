-- The slots of a section are read piece by piece: how many of them hold a value.
use Rattle.std.specs.Prelude.{◌≡◌, ℕ, ◌+◌, ◌-◌, ◌*◌, ◌<◌, ◌≤◌, List, length, take, drop, Result, Ok, Err, IfOk, OnErr}
use Rattle.std.specs.Result.{IsErrAnd}
use Rattle.std.proofs.Common.{inl, inr, refl, sym, ◌∙◌, ap, subst, arith, length-drop}
use Rattle.std.proofs.Math.Nat.{add-mul, mul-le-mul_right}
use Rattle.std.proofs.lemmas.Bool.{cases_lt}
use Rattle.std.proofs.lemmas.List.{drop-drop}
use Rattle.blob_device.specs.lemmas.Moments.{always_now, always_start, always_then, always_weaker}
use Rattle.blob_device.specs.Disk.{Disk, Key}
use Rattle.blob_device.specs.Timeline.{Timeline}
use Rattle.sealed_pages.specs.declared.write_blob.WriteBlob.{WriteBlob}
use Rattle.sealed_pages.specs.Reading.{OnlyRead, Unchanged}
use Rattle.sealed_pages.specs.unsealed.Writing.{Over, blob_key, bytes_of, shown, size_of}
use Rattle.sealed_pages.specs.lemmas.Entries.{only_read_start, only_read_then}
use Rattle.ordinal_store.specs.Adopting.{IsReady}
use Rattle.ordinal_store.specs.Calls.{HasFailed}
use Rattle.ordinal_store.specs.Reopening.{AreSound, Sounding}
use Rattle.ordinal_store.specs.Slots.{HasValue, Layout, part_at, slot_at, slot_size}
use Rattle.ordinal_store.specs.Stores.{Sight, now}
use Rattle.ordinal_store.specs.declared.ordinal.Error.{Error}
use Rattle.ordinal_store.specs.declared.ordinal.Error.TheVariants.{Mem}
use Rattle.ordinal_store.proofs.MendLemmas.{rested_bytes, slot_cut}
use Rattle.ordinal_store.proofs.TrailLemmas.{failed_as}
use Rattle.blob_device.proofs.general.Numbers.{times_more}
use Rattle.blob_device.proofs.general.Results.{err_of}

pub unchanged_then : (a b c : Timeline) → Unchanged a b → Unchanged b c → Unchanged a c
unchanged_then a b c first second =
    let same = always_now a b (λ d. d ≡ disk_of a) first in
    always_then a b c (λ d. d ≡ disk_of a) first (always_weaker b c (λ d. d ≡ disk_of b) (λ d. d ≡ disk_of a) (λ d is. is ∙ same) second)
  where
    disk_of : Timeline → Disk
    disk_of t = t.at (2 * t.calls)

-- a buffer is as ready as it was where nothing changed
pub ready_on : (told : Type 0) (key : Key) (capacity : ℕ) (u : WriteBlob) (old new : Sight) → IsReady told key capacity old u → (told → Unchanged old.time new.time) → OnlyRead key old.opened new.opened → IsReady told key capacity new u
ready_on told key capacity u old new ready unchanged entries = record {
  rested = record { key_is = ready.rested.key_is; capacity_is = ready.rested.capacity_is; is_open = entries.length u.end ready.rested.is_open; clean = ready.rested.clean; size = ready.rested.size };
  over = λ t. subst (λ (d : Disk). Over (shown u) (d key)) (sym (same t)) (ready.over t);
  size = λ t. subst (λ (d : Disk). size_of (shown u) ≡ length (d key).content) (sym (same t)) (ready.size t);
}
  where
    same : told → now new ≡ now old
    same t = always_now old.time new.time (λ d. d ≡ now old) (unchanged t)

-- the slots of a prefix are those of the whole
sound_cut : (l : Layout) (c : List ℕ) (count n k : ℕ) → n ≡ count * slot_size l → n ≤ length c → AreSound l (take n c) count k → AreSound l c count k
sound_cut l c count n k is room s = record {
  within = s.within;
  hold = λ p below. subst (HasValue l) (slot_cut (slot_size l) p n c (inside p (omega (arith, below, s.within))) room) (s.hold p below);
  next = λ more value. s.next more (subst (HasValue l) (sym (slot_cut (slot_size l) k n c (inside k more) room)) value);
}
  where
    inside : (p : ℕ) → p < count → p * slot_size l + slot_size l ≤ n
    inside p below = omega (arith, times_more p count (slot_size l) below, is)

-- a slot behind so many is one of the rest
slot_behind : (size from p : ℕ) (c : List ℕ) → slot_at size (drop (from * size) c) p ≡ slot_at size c (from + p)
slot_behind size from p c = ap (take size) (drop-drop (p * size) (from * size) c ∙ ap (λ (n : ℕ). drop n c) (sym (add-mul from p size)))

module _ (told : Type 0) (l : Layout) (key : Key) (part : List ℕ → List ℕ) (count : ℕ) (old new : Sight) (unchanged : told → Unchanged old.time new.time) (entries : OnlyRead key old.opened new.opened) (faults : old.faults ≤ new.faults) where
  sounding_err : (e : Error) → HasFailed {T = ℕ} (Err e) old new → Sounding told l key part count (Err e) old new
  sounding_err e why = record { unchanged = unchanged; entries = entries; faults = faults; within = tt; sound = λ t. tt; cause = why }

  pub sounding_failed : (result : Result ℕ Error) (e : Error) → IsErrAnd result (λ x. x ≡ e) → HasFailed {T = ℕ} (Err e) old new → Sounding told l key part count result old new
  sounding_failed result e is why = subst (λ (r : Result ℕ Error). Sounding told l key part count r old new) (sym (err_of result e is)) (sounding_err e why)

  pub sounding_of : (result : Result ℕ Error) → IfOk result (λ n. n ≤ count) → (told → IfOk result (AreSound l (part (now old key).content) count)) → OnErr result (result ≡ Err Mem) → Sounding told l key part count result old new
  sounding_of (Ok n) within sound cause = record { unchanged = unchanged; entries = entries; faults = faults; within = within; sound = sound; cause = tt }
  sounding_of (Err e) within sound cause = sounding_err e (inl cause)

-- the slice of a piece from a position's place on is the slot there
pub piece_slot : (l : Layout) (piece : List ℕ) (p r : ℕ) → r ≡ l.width → take (p * (r + 4) + (r + 4) - p * (r + 4)) (drop (p * (r + 4)) piece) ≡ slot_at (slot_size l) piece p
piece_slot l piece p r is =
    let size : p * (r + 4) + (r + 4) - p * (r + 4) ≡ r + 4 = omega arith in
    ap (λ (n : ℕ). take n (drop (p * (r + 4)) piece)) size ∙ ap (λ (n : ℕ). take (n + 4) (drop (p * (n + 4)) piece)) is

-- pieces of whole slots below a count lie within its places
pub piece_room : (a b n size top : ℕ) → a + b ≤ n → n * size ≤ top → a * size + b * size ≤ top
piece_room a b n size top below room =
    let most : (a + b) * size ≤ n * size = mul-le-mul_right size below in
    omega (arith, most, room, add-mul a b size)

-- One piece was read.
module _ (told : Type 0) (l : Layout) (u : WriteBlob) (old new : Sight) (ready : IsReady told (blob_key (shown u)) u.capacity old u) (from count : ℕ) (room : from * slot_size l + count * slot_size l ≤ size_of (shown u))
    (unchanged : told → Unchanged old.time new.time) (entries : OnlyRead (blob_key (shown u)) old.opened new.opened) (faults : old.faults ≤ new.faults) where
  abbrev key_u : Key
  key_u = blob_key (shown u)

  piece_is : told → (piece : List ℕ) → piece ≡ part_at (bytes_of (shown u) (now old key_u).content) (from * slot_size l) (count * slot_size l) → piece ≡ take (count * slot_size l) (drop (from * slot_size l) (now old key_u).content)
  piece_is t piece is = is ∙ ap (λ (c : List ℕ). part_at c (from * slot_size l) (count * slot_size l)) (rested_bytes u ready.rested.clean (now old key_u).content (sym (ready.size t)))

  piece_sound : told → (piece : List ℕ) → piece ≡ part_at (bytes_of (shown u) (now old key_u).content) (from * slot_size l) (count * slot_size l) → (n : ℕ) → AreSound l piece count n → AreSound l (drop (from * slot_size l) (now old key_u).content) count n
  piece_sound t piece is n sound = sound_cut l (drop (from * slot_size l) (now old key_u).content) count (count * slot_size l) n refl
      (omega (arith, length-drop (from * slot_size l) (now old key_u).content, ready.size t, room))
      (subst (λ (c : List ℕ). AreSound l c count n) (piece_is t piece is) sound)

  pub piece_read : (piece : List ℕ) → (told → piece ≡ part_at (bytes_of (shown u) (now old key_u).content) (from * slot_size l) (count * slot_size l)) → (result : Result ℕ Error) → IfOk result (AreSound l piece count) → OnErr result (result ≡ Err Mem)
      → Sounding told l key_u (drop (from * slot_size l)) count result old new
  piece_read piece is (Ok n) sound cause = sounding_of told l key_u (drop (from * slot_size l)) count old new unchanged entries faults (Ok n) sound.within (λ t. piece_sound t piece (is t) n sound) tt
  piece_read piece is (Err e) sound cause = sounding_of told l key_u (drop (from * slot_size l)) count old new unchanged entries faults (Err e) tt (λ t. tt) cause

-- All slots so far hold a value.
pub record Sounded (told : Type 0) (l : Layout) (key : Key) (count from : ℕ) (old mid : Sight) : Type 0 where
  pub unchanged : told → Unchanged old.time mid.time
  pub entries : OnlyRead key old.opened mid.opened
  pub faults : old.faults ≤ mid.faults
  pub within : from ≤ count
  pub hold : told → (p : ℕ) → p < from → HasValue l (slot_at (slot_size l) (now old key).content p)

module _ (told : Type 0) (l : Layout) (key : Key) (count : ℕ) where
  pub sounded_start : (v : Sight) → Sounded told l key count 0 v v
  sounded_start v = record {
    unchanged = λ t. always_start v.time (λ d. d ≡ now v) refl;
    entries = only_read_start key v.opened;
    faults = omega arith;
    within = omega arith;
    hold = λ t p below. absurd (omega (arith, below));
  }

  module _ (from : ℕ) (old mid : Sight) (far : Sounded told l key count from old mid) where
    pub sounded_end : count ≤ from → Sounding told l key (λ bytes. bytes) count (Ok from) old mid
    sounded_end all = record {
      unchanged = far.unchanged;
      entries = far.entries;
      faults = far.faults;
      within = far.within;
      sound = λ t. record { within = far.within; hold = far.hold t; next = λ more value. omega (arith, more, all) };
      cause = tt;
    }

    -- a piece more
    module _ (more : ℕ) (inside : from + more ≤ count) (new : Sight) where
      module _ (r : Result ℕ Error) (one : Sounding told l key (drop (from * slot_size l)) more r mid new) where
        both_unchanged : told → Unchanged old.time new.time
        both_unchanged t = unchanged_then old.time mid.time new.time (far.unchanged t) (one.unchanged t)

        both_entries : OnlyRead key old.opened new.opened
        both_entries = only_read_then key old.opened mid.opened new.opened far.entries one.entries

        both_faults : old.faults ≤ new.faults
        both_faults = omega (arith, far.faults, one.faults)

      pub sounded_failed : (result : Result ℕ Error) (e : Error) → IsErrAnd result (λ x. x ≡ e) → Sounding told l key (drop (from * slot_size l)) more (Err e) mid new → Sounding told l key (λ bytes. bytes) count result old new
      sounded_failed result e is one = sounding_failed told l key (λ bytes. bytes) count old new (both_unchanged (Err e) one) (both_entries (Err e) one) (both_faults (Err e) one) result e is
          (failed_as {T = ℕ} {U = ℕ} e old mid new far.faults one.cause)

      module _ (held : ℕ) (one : Sounding told l key (drop (from * slot_size l)) more (Ok held) mid new) where
        same_blob : told → now mid ≡ now old
        same_blob t = always_now old.time mid.time (λ d. d ≡ now old) (far.unchanged t)

        sound_here : told → AreSound l (drop (from * slot_size l) (now old key).content) more held
        sound_here t = subst (λ (d : Disk). AreSound l (drop (from * slot_size l) (d key).content) more held) (same_blob t) (one.sound t)

        all_hold : told → (p : ℕ) → p < from + held → HasValue l (slot_at (slot_size l) (now old key).content p)
        all_hold t p below = elim (cases_lt p from) [
          | inl before ↦ far.hold t p before
          | inr after ↦ (let at : from + (p - from) ≡ p = omega (arith, after) in
              subst (λ (q : ℕ). HasValue l (slot_at (slot_size l) (now old key).content q)) at
              (subst (HasValue l) (slot_behind (slot_size l) from (p - from) (now old key).content) ((sound_here t).hold (p - from) (omega (arith, below, after)))))
        ]

        pub sounded_on : more ≤ held → Sounded told l key count (from + held) old new
        sounded_on full = record {
          unchanged = both_unchanged (Ok held) one;
          entries = both_entries (Ok held) one;
          faults = both_faults (Ok held) one;
          within = omega (arith, inside, one.within);
          hold = all_hold;
        }

        pub sounded_stop : held < more → Sounding told l key (λ bytes. bytes) count (Ok (from + held)) old new
        sounded_stop few = record {
          unchanged = both_unchanged (Ok held) one;
          entries = both_entries (Ok held) one;
          faults = both_faults (Ok held) one;
          within = omega (arith, inside, one.within);
          sound = λ t. record {
            within = omega (arith, inside, one.within);
            hold = all_hold t;
            next = λ below value. (sound_here t).next few (subst (HasValue l) (sym (slot_behind (slot_size l) from held (now old key).content)) value);
          };
          cause = tt;
        }
