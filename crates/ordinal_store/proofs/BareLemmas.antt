-- An opening without a map: every blob of the partition goes, and the store is empty.
use Rattle.std.specs.Prelude.{◌≡◌, ◌≢◌, ◌⊎◌, ℕ, ◌^◌, ◌≤◌, Bool, true, false, cond, List, Some, None, IsSome, IsTrue, Result, Ok, Err, IfOk, OnErr}
use Rattle.std.specs.Result.{IsErrAnd, IsErrOf}
use Rattle.std.proofs.Common.{inl, inr, refl, sym, ◌∙◌, ap, subst}
use Rattle.std.proofs.lemmas.Option.{none-some}
use Rattle.blob_device.specs.lemmas.Moments.{always_now, always_weaker}
use Rattle.blob_device.specs.Disk.{Blob, Disk, Key, nothing}
use Rattle.blob_device.specs.Timeline.{Always}
use Rattle.ordinal_store.specs.Calls.{HasFailed, IsForeign, MayOpen, Opening, as_read}
use Rattle.ordinal_store.specs.Durable.{Stays}
use Rattle.ordinal_store.specs.Emptying.{Empties, GoesAll, IsIn}
use Rattle.ordinal_store.specs.Marking.{IsKept, IsPast, is_wanted}
use Rattle.ordinal_store.specs.Ranges.{AreRanges, set_of}
use Rattle.ordinal_store.specs.Reopening.{IsEmpty}
use Rattle.ordinal_store.specs.Slots.{Layout, blob_of, position_of, section_of, slot_at, slot_size}
use Rattle.ordinal_store.specs.Stores.{IsUsable, Sight, Store, bytes_in, has, now, slots_of}
use Rattle.ordinal_store.specs.declared.ordinal.Error.{Error}
use Rattle.ordinal_store.specs.declared.ordinal.Error.TheVariants.{Full, InvalidBlobName, Mem}
use Rattle.ordinal_store.proofs.OpenLemmas.{going_short, some_there}
use Rattle.ordinal_store.proofs.RestoreLemmas.{none_are_ranges}
use Rattle.blob_device.proofs.general.Results.{err_of}

module _ {T : Type 0} (show : T → Store) (told : Type 0) (l : Layout) (capacity : ℕ) (old new : Sight) (goes : GoesAll (IsIn l.partition) told old new) where
  abbrev In : Key → Type 0
  In q = (q.0 ≡ l.partition) × IsSome (as_read (now old) q)

  abbrev Want : ℕ → Type 0
  Want j = is_wanted l.items None (position_of l j) ≡ true

  stays : (d : Disk) → Empties (IsIn l.partition) (now old) d → Stays l Want In (now old) d
  stays d e = record {
    slots = λ j slot wanted durable. absurd (cc wanted);
    bounded = λ q n room short. going_short (now old q) (d q) n (e.each q) short;
    others = λ q out. e.others q (λ both. out (both.0, some_there (now old q) both.1));
  }

  moments : told → Always old.time new.time (Stays l Want In (now old))
  moments t = always_weaker old.time new.time (Empties (IsIn l.partition) (now old)) (Stays l Want In (now old)) stays (goes.moments t)

  entries : (q : Key) → q.0 ≢ l.partition → new.opened q ≡ old.opened q
  entries q other = elim (goes.entries q) [ inl same ↦ same | inr gone ↦ absurd (other gone.0) ]

  not_foreign : (name : List ℕ) → IsForeign l None (as_read (now old)) name → ⊥
  not_foreign name foreign = absurd (cc foreign.marked)

  not_past : IsPast l (λ s. None) → ⊥
  not_past past = absurd (cc past.2.1)

  may_open : MayOpen l None (as_read (now old))
  may_open = record { names = not_foreign; numbers = not_past }

  none_kept : (s : ℕ) → IsKept l (λ x. None) s → ⊥
  none_kept s kept = absurd (cc kept.1.1)

  by : (e : Error) → HasFailed {T = T} (Err e) old new → Opening l None show told capacity (Err e) old new
  by e why = record {
    layout = tt;
    capacity = tt;
    usable = tt;
    held = tt;
    slots = λ t. tt;
    committed = λ t. tt;
    left = λ t. tt;
    answer = λ t. inr why;
    tested = λ t not. absurd (not may_open);
    unopened = λ which. absurd (other why which);
    moments = moments;
    entries = entries;
    faults = goes.faults;
    failed = inr (inr (inr why));
  }
    where
      other : HasFailed {T = T} (Err e) old new → IsErrOf {T = T} (Err e) Full ⊎ ((name : List ℕ) × (◌≡◌ {A = Result T Error} (Err e) (Err (InvalidBlobName name)))) → ⊥
      other (inl a) (inl b) = absurd (cc (a, b))
      other (inl a) (inr b) = absurd (cc (a, b.1))
      other (inr a) (inl b) = absurd (cc (a.0, b))
      other (inr a) (inr b) = absurd (cc (a.0, b.1))

  pub bare_failed : (result : Result T Error) (e : Error) → IsErrAnd result (λ x. x ≡ e) → HasFailed {T = T} (Err e) old new → Opening l None show told capacity result old new
  bare_failed result e is why = subst (λ (r : Result T Error). Opening l None show told capacity r old new) (sym (err_of result e is)) (by e why)

  module _ (r : T) (empty : IsEmpty l capacity (show r)) (items : (1 ≤ l.items) × (l.items ≤ 2 ^ 40)) (width : (1 ≤ l.width) × (l.width ≤ 65535))
      (gone : told → (q : Key) → IsIn l.partition q → IsTrue (now old q).there → now new q ≡ nothing) where
    abbrev n : Store
    n = show r

    no_index : (j : ℕ) → has n j ≡ false
    no_index j = ap (λ (x : List (ℕ × ℕ)). set_of x j) empty.ranges_none

    no_buffer : (s : ℕ) → IsSome (n.buffers s) → ⊥
    no_buffer s some = cc (empty.buffers_none s, some)

    all_gone : told → (name : List ℕ) → (now new (l.partition, name)).there ≡ false
    all_gone t name = by_there (now old (l.partition, name)).there refl
      where
        by_there : (x : Bool) → (now old (l.partition, name)).there ≡ x → (now new (l.partition, name)).there ≡ false
        by_there true is = ap (λ (b : Blob). b.there) (gone t (l.partition, name) refl is)
        by_there false is = ap (λ (b : Blob). b.there) ((always_now old.time new.time (Empties (IsIn l.partition) (now old)) (goes.moments t)).others (l.partition, name) (λ both. absurd (cc (is, both.1)))) ∙ is

    usable : IsUsable n told new.opened (now new)
    usable = record {
      items = subst (λ (x : Layout). (1 ≤ x.items) × (x.items ≤ 2 ^ 40)) (sym empty.layout_is) items;
      width = subst (λ (x : Layout). (1 ≤ x.width) × (x.width ≤ 65535)) (sym empty.layout_is) width;
      ranges = subst AreRanges (sym empty.ranges_none) none_are_ranges;
      number = λ s some. absurd (no_buffer s some);
      first = λ s some. absurd (no_buffer s some);
      capacity = λ s u is. absurd (none-some u (sym (empty.buffers_none s) ∙ is));
      key = λ s u is. absurd (none-some u (sym (empty.buffers_none s) ∙ is));
      is_open = λ s u is. absurd (none-some u (sym (empty.buffers_none s) ∙ is));
      room = λ i is. absurd (cc (no_index i, is));
      bounded = λ s u is. absurd (none-some u (sym (empty.buffers_none s) ∙ is));
      unwritten = λ s u is. absurd (none-some u (sym (empty.buffers_none s) ∙ is));
      disk = λ t. record {
        over = λ s u is. absurd (none-some u (sym (empty.buffers_none s) ∙ is));
        whose = λ s small there. absurd (cc (subst (λ (x : Layout). (now new (blob_of x s)).there ≡ false) (sym empty.layout_is) (all_gone t (blob_of l s).1), there));
      };
    }

    no_slot : (j : ℕ) (slot : List ℕ) → slots_of n (now new) j ≡ Some slot → ⊥
    no_slot j slot found = none-some slot (sym (ap (λ (h : Bool). cond h (Some (slot_at (slot_size n.layout) (bytes_in n (now new) (section_of n.layout j)) (position_of n.layout j))) None) (no_index j)) ∙ found)

    pub bare_done : Opening l None show told capacity (Ok r) old new
    bare_done = record {
      layout = empty.layout_is;
      capacity = empty.capacity_is;
      usable = usable;
      held = λ j small. no_index j;
      slots = λ t j slot found. absurd (no_slot j slot found);
      committed = λ t j slot found. absurd (no_slot j slot found);
      left = λ t. record { mended = λ s c kept is. absurd (none_kept s kept); gone = λ name not. all_gone t name; lost = λ name not there. gone t (l.partition, name) refl there };
      answer = λ t. (may_open, λ s kept. absurd (none_kept s kept));
      tested = λ t not. absurd (not may_open);
      unopened = λ which. elim which [ inl full ↦ absurd (cc full) | inr name ↦ absurd (cc name.1) ];
      moments = moments;
      entries = entries;
      faults = goes.faults;
      failed = tt;
    }

  -- the empty store, or no memory for it
  pub bare_ends : (result : Result T Error) → (items : (1 ≤ l.items) × (l.items ≤ 2 ^ 40)) → (width : (1 ≤ l.width) × (l.width ≤ 65535)) → (told → (q : Key) → IsIn l.partition q → IsTrue (now old q).there → now new q ≡ nothing)
      → IfOk result (λ r. IsEmpty l capacity (show r)) → OnErr result (result ≡ Err Mem) → Opening l None show told capacity result old new
  bare_ends (Ok r) items width gone empty cause = bare_done r empty items width gone
  bare_ends (Err e) items width gone empty cause = by e (inl cause)
