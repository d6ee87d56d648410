-- What a prune and a destroy promise, from what the removal of their sections has left.
use Rattle.std.specs.Prelude.{◌≡◌, ◌≢◌, ◌⊎◌, ℕ, ◌+◌, ◌^◌, ◌<◌, ◌≤◌, Bool, true, false, cond, List, [], Option, None, Some, IsSome, IsSomeAnd, IsTrue, Result, Ok, Err, option_map, unwrap_or}
use Rattle.std.proofs.Common.{inl, inr, refl, sym, ◌∙◌, ap, subst, arith}
use Rattle.std.specs.Result.{IsErrAnd}
use Rattle.std.proofs.Math.Nat.{div-le_self}
use Rattle.std.proofs.lemmas.Bool.{cases_lt}
use Rattle.blob_device.specs.lemmas.Moments.{always_weaker}
use Rattle.blob_device.specs.Disk.{Blob, Disk, longest}
use Rattle.blob_device.specs.Timeline.{Always}
use Rattle.sealed_pages.specs.View.{Within}
use Rattle.sealed_pages.specs.unsealed.Writing.{bytes_of, shown}
use Rattle.sealed_pages.specs.declared.write_blob.WriteBlob.{WriteBlob}
use Rattle.ordinal_store.specs.Calls.{Destroying, IsBlobOf, Pruning}
use Rattle.ordinal_store.specs.Durable.{Going, IsGoing, StandsFor, Stays}
use Rattle.ordinal_store.specs.Removing.{Goes, IsBelow, IsDoomed, IsGone, IsKeptYet, Leaves, Left, Removing}
use Rattle.ordinal_store.specs.Slots.{Layout, blob_of, place_of, position_of, section_of, slot_at, slot_size}
use Rattle.ordinal_store.specs.Stores.{IsQuiet, IsQuietIn, IsUsable, Sight, Store, has, key_of, now, slots_of}
use Rattle.ordinal_store.specs.declared.ordinal.Error.{Error}
use Rattle.ordinal_store.proofs.RemovingLemmas.{key_injective, some_of}
use Rattle.blob_device.proofs.general.Results.{err_of}

-- a crash leaves no more of a blob than before
going_longest : (from b : Blob) (n : ℕ) → IsGoing from b → longest from ≤ n → longest b ≤ n
going_longest from b n (inl is) le = subst (λ (x : Blob). longest x ≤ n) (sym is) le
going_longest from b n (inr (inl (inl is))) le = subst (λ (x : Blob). longest x ≤ n) (sym is) le
going_longest from b n (inr (inl (inr is))) le = subst (λ (x : Blob). longest x ≤ n) (sym is) le
going_longest from b n (inr (inr is)) le = subst (λ (x : Blob). longest x ≤ n) (sym is) (omega arith)

none_true : (b : Bool) → (IsTrue b → ⊥) → b ≡ false
none_true true not = absurd (not refl)
none_true false not = refl

some_or_none : {T : Type 0} (o : Option T) → IsSome o ⊎ (IsSome o → ⊥)
some_or_none None = inr (λ is. absurd (cc is))
some_or_none (Some v) = inl refl

same_truth : (a b : Bool) → (IsTrue a → IsTrue b) → (IsTrue b → IsTrue a) → a ≡ b
same_truth true b one two = sym (one refl)
same_truth false true one two = two refl
same_truth false false one two = refl

module _ (o : Store) (bound : Option ℕ) where
  pub going_of : (from d : Disk) → Leaves o bound from d → Going o.layout (IsDoomed o bound) from d
  going_of from d leaves = record { each = λ s is. leaves.each (key_of o s); order = leaves.order }

  -- the slots of the sections that are not doomed stay
  pub stays_of : (IsSpared : ℕ → Type 0) → ((j s : ℕ) → IsSpared j → IsBelow bound s → section_of o.layout j ≢ s) → ((s : ℕ) → IsSome (o.buffers s) → s < 2 ^ 64) → (from d : Disk) → Leaves o bound from d → Stays o.layout IsSpared (IsBlobOf o (IsBelow bound)) from d
  stays_of IsSpared apart number from d leaves = record {
    slots = λ j slot spared durable. (let same : d (key_of o (section_of o.layout j)) ≡ from (key_of o (section_of o.layout j)) = leaves.others (key_of o (section_of o.layout j))
        (λ named. apart j named.0 spared named.2 (key_injective o.layout.partition (section_of o.layout j) named.0 (small j durable.index) (number named.0 named.1) named.3)) in record {
          index = durable.index;
          size = durable.size;
          stands = subst (StandsFor (place_of o.layout j) slot) (sym same) durable.stands;
        });
    bounded = λ q n room le. going_longest (from q) (d q) n (leaves.each q) le;
    others = leaves.others;
  }
    where
      small : (j : ℕ) → j < 2 ^ 64 → section_of o.layout j < 2 ^ 64
      small j below = omega (arith, below, div-le_self j o.layout.items)

-- a slot, from the layout, whether its index is held, the buffer of its section and its blob
abbrev slot_from : Layout → ℕ → Bool → Option WriteBlob → Blob → Option (List ℕ)
slot_from l j held buffer b = cond held (Some (slot_at (slot_size l) (unwrap_or (option_map (λ u. bytes_of (shown u) b.content) buffer) []) (position_of l j))) None

-- What is left where all that was doomed is gone.
module _ (o : Store) (bound : Option ℕ) (told : Type 0) (r : Store) (old new : Sight) (usable : IsUsable o told old.opened (now old)) (left : Left o bound told r old new) (all : (s : ℕ) → IsDoomed r bound s → ⊥) where
  pub gone_of : (s : ℕ) → IsDoomed o bound s → IsGone o bound told r old new s
  gone_of s is = elim (left.each s) [
    | inl kept ↦ absurd (all s (subst IsSome (sym kept.buffer) is.0, is.1))
    | inr gone ↦ gone
  ]

  pub none_there : told → (s : ℕ) → s < 2 ^ 64 → IsBelow bound s → (now new (key_of o s)).there ≡ false
  none_there t s small below = elim (left.each s) [
    | inl kept ↦ none_true (now new (key_of o s)).there (λ there. all s (subst IsSome (sym kept.buffer) ((usable.disk t).whose s small (subst (λ (b : Blob). IsTrue b.there) (kept.blob t small) there)), below))
    | inr gone ↦ ap (λ (b : Blob). b.there) (gone.blob t)
  ]

  module _ (j : ℕ) (spared : IsBelow bound (section_of o.layout j) → ⊥) where
    pub kept_of : IsKeptYet o bound told r old new (section_of o.layout j)
    kept_of = elim (left.each (section_of o.layout j)) [
      | inl kept ↦ kept
      | inr gone ↦ absurd (spared gone.doomed.1)
    ]

    buffer_of : r.buffers (section_of r.layout j) ≡ o.buffers (section_of o.layout j)
    buffer_of = ap (λ (l : Layout). r.buffers (section_of l j)) left.place.layout ∙ kept_of.buffer

    held_of : has r j ≡ has o j
    held_of = same_truth (has r j) (has o j) (λ is. ((left.held j).0 is).0)
        (λ is. (left.held j).1 (is, subst IsSome (sym kept_of.buffer) (some_of _ (o.buffers (section_of o.layout j)) (usable.room j is))))

    pub slot_of_kept : told → slots_of r (now new) j ≡ slots_of o (now old) j
    slot_of_kept t = go (has o j) refl
      where
        key_same : key_of r (section_of r.layout j) ≡ key_of o (section_of o.layout j)
        key_same = ap (λ (l : Layout). blob_of l (section_of l j)) left.place.layout

        small : IsTrue (has o j) → section_of o.layout j < 2 ^ 64
        small is = omega (arith, usable.ranges.below j is, div-le_self j o.layout.items)

        go : (h : Bool) → has o j ≡ h → slots_of r (now new) j ≡ slots_of o (now old) j
        go true is = ap (λ (h : Bool). slot_from r.layout j h (r.buffers (section_of r.layout j)) (now new (key_of r (section_of r.layout j)))) held_of
            ∙ ap (λ (b : Option WriteBlob). slot_from r.layout j (has o j) b (now new (key_of r (section_of r.layout j)))) buffer_of
            ∙ ap (λ (b : Blob). slot_from r.layout j (has o j) (o.buffers (section_of o.layout j)) b) (ap (now new) key_same ∙ kept_of.blob t (small is))
            ∙ ap (λ (l : Layout). slot_from l j (has o j) (o.buffers (section_of o.layout j)) (now old (key_of o (section_of o.layout j)))) left.place.layout
        go false is = ap (λ (h : Bool). slot_from r.layout j h (r.buffers (section_of r.layout j)) (now new (key_of r (section_of r.layout j)))) (held_of ∙ is)
            ∙ ap (λ (h : Bool). slot_from o.layout j h (o.buffers (section_of o.layout j)) (now old (key_of o (section_of o.layout j)))) (sym is)

    quiet_in : (u : WriteBlob) → IsQuietIn o.layout u j → IsQuietIn r.layout u j
    quiet_in u quiet = record {
      settled = subst (λ (l : Layout). place_of l j + slot_size l ≤ u.settled) (sym left.place.layout) quiet.settled;
      apart = λ i w. quiet.apart i (subst (λ (l : Layout). Within (place_of l j) (slot_size l) i) left.place.layout w);
    }

    pub quiet_of : IsQuiet o j → IsQuiet r j
    quiet_of quiet = subst (λ (b : Option WriteBlob). IsSomeAnd b (λ u. IsQuietIn r.layout u j)) (sym buffer_of) (lift (o.buffers (section_of o.layout j)) quiet)
      where
        lift : (b : Option WriteBlob) → IsSomeAnd b (λ u. IsQuietIn o.layout u j) → IsSomeAnd b (λ u. IsQuietIn r.layout u j)
        lift None is = absurd is
        lift (Some u) is = quiet_in u is

-- A prune below the section of an index.
module _ {T : Type 0} (show : T → Store) (told : Type 0) (o : Store) (least : ℕ) (small : least < 2 ^ 64) (old new : Sight) (usable : IsUsable o told old.opened (now old)) where
  abbrev bound : ℕ
  bound = section_of o.layout least

  bound_small : bound < 2 ^ 64
  bound_small = omega (arith, small, div-le_self least o.layout.items)

  moments_of : Goes o (Some bound) told old new → told → Always old.time new.time (Stays o.layout (λ j. bound ≤ section_of o.layout j) (IsBlobOf o (λ s. s < bound)) (now old))
  moments_of goes t = always_weaker old.time new.time (Leaves o (Some bound) (now old)) (Stays o.layout (λ j. bound ≤ section_of o.layout j) (IsBlobOf o (λ s. s < bound)) (now old))
      (stays_of o (Some bound) (λ j. bound ≤ section_of o.layout j) (λ j s from below same. omega (arith, from, below, same)) usable.number (now old)) (goes.moments t)

  order_of : Goes o (Some bound) told old new → told → Always old.time new.time (Going o.layout (λ s. IsSome (o.buffers s) × (s < bound)) (now old))
  order_of goes t = always_weaker old.time new.time (Leaves o (Some bound) (now old)) (Going o.layout (λ s. IsSome (o.buffers s) × (s < bound)) (now old)) (going_of o (Some bound) (now old)) (goes.moments t)

  pub pruned : (result : Result T Error) → Removing show told o (Some bound) result old new → Pruning show told o least result old new
  pruned (Err e) done = record {
    same = tt;
    usable = tt;
    held = tt;
    slots = λ t. tt;
    quiet = tt;
    gone = λ t. tt;
    lost = λ t. tt;
    closed = tt;
    moments = moments_of done.goes;
    going = order_of done.goes;
    entries = done.goes.entries;
    faults = done.goes.faults;
    cause = done.cause;
  }
  pruned (Ok r) done = record {
    same = done.left.place;
    usable = done.left.usable;
    held = λ j. (
      λ is. (let was = (done.left.held j).0 is in (
        was.0,
        elim (cases_lt (section_of o.layout j) bound) [
          | inl below ↦ absurd (done.all (section_of o.layout j) (was.1, below))
          | inr from ↦ omega (arith, from)
        ],
      )),
      λ both. (done.left.held j).1 (both.0, subst IsSome (sym (kept_of o (Some bound) told (show r) old new usable done.left done.all j (λ below. omega (arith, below, both.1))).buffer) (some_of _ (o.buffers (section_of o.layout j)) (usable.room j both.0))),
    );
    slots = λ t j from. slot_of_kept o (Some bound) told (show r) old new usable done.left done.all j (λ below. omega (arith, below, from)) t;
    quiet = λ j from. quiet_of o (Some bound) told (show r) old new usable done.left done.all j (λ below. omega (arith, below, from));
    gone = λ t s below. none_there o (Some bound) told (show r) old new usable done.left done.all t s (omega (arith, below, bound_small)) below;
    lost = λ t s some below. (gone_of o (Some bound) told (show r) old new usable done.left done.all s (some, below)).blob t;
    closed = λ s some below. (gone_of o (Some bound) told (show r) old new usable done.left done.all s (some, below)).entry;
    moments = moments_of done.goes;
    going = order_of done.goes;
    entries = done.goes.entries;
    faults = done.goes.faults;
    cause = tt;
  }

-- A destroy.
module _ {T : Type 0} (show : T → Store) (told : Type 0) (o : Store) (old new : Sight) (usable : IsUsable o told old.opened (now old)) where
  abbrev none : Option ℕ
  none = None

  stays_all : Goes o none told old new → told → Always old.time new.time (Stays o.layout (λ j. ⊥) (IsBlobOf o (λ s. Unit {0})) (now old))
  stays_all goes t = always_weaker old.time new.time (Leaves o none (now old)) (Stays o.layout (λ j. ⊥) (IsBlobOf o (λ s. Unit {0})) (now old))
      (stays_of o none (λ j. ⊥) (λ j s spared below. absurd spared) usable.number (now old)) (goes.moments t)

  order_all : Goes o none told old new → told → Always old.time new.time (Going o.layout (λ s. IsSome (o.buffers s)) (now old))
  order_all goes t = always_weaker old.time new.time (Leaves o none (now old)) (Going o.layout (λ s. IsSome (o.buffers s)) (now old))
      (λ d leaves. record { each = λ s is. leaves.each (key_of o s); order = λ q s is_q is_s lower. leaves.order q s (is_q, tt) (is_s, tt) lower }) (goes.moments t)

  refused_by : (e : Error) → Removing show told o none (Err e) old new → Destroying told o (Err e) old new
  refused_by e done = record {
    gone = λ t. tt;
    lost = λ t. tt;
    closed = tt;
    moments = stays_all done.goes;
    going = order_all done.goes;
    entries = done.goes.entries;
    faults = done.goes.faults;
    cause = elim done.cause [
      | inl mem ↦ inl (cc mem)
      | inr fault ↦ inr (cc fault.0, fault.1)
    ];
  }

  pub destroy_failed : (result : Result (Unit {0}) Error) (e : Error) → IsErrAnd result (λ x. x ≡ e) → Removing show told o none (Err e) old new → Destroying told o result old new
  destroy_failed result e is done = subst (λ (x : Result (Unit {0}) Error). Destroying told o x old new) (sym (err_of result e is)) (refused_by e done)

  pub destroyed : (r : T) → Removing show told o none (Ok r) old new → Destroying told o (Ok tt) old new
  destroyed r done = record {
    gone = λ t s small. none_there o none told (show r) old new usable done.left done.all t s small tt;
    lost = λ t s some. (gone_of o none told (show r) old new usable done.left done.all s (some, tt)).blob t;
    closed = λ s some. (gone_of o none told (show r) old new usable done.left done.all s (some, tt)).entry;
    moments = stays_all done.goes;
    going = order_all done.goes;
    entries = done.goes.entries;
    faults = done.goes.faults;
    cause = tt;
  }
