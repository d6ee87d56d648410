-- Removing sections, one after another: what each removal leaves of the store, of its blobs and of the opened list.
use Rattle.std.specs.Prelude.{◌≡◌, ◌≢◌, ◌↔◌, ◌⊎◌, ℕ, ◌+◌, ◌*◌, ◌-◌, ◌/◌, ◌^◌, ◌<◌, ◌≤◌, min, Bool, List, Option, None, Some, IsSome, IsSomeAnd, IsTrue, Result, Ok, Err}
use Rattle.std.specs.Int.{w64, from_be_bytes}
use Rattle.std.specs.Result.{IsErrOf, IsErrAnd}
use Rattle.std.proofs.Common.{inl, inr, refl, sym, ◌∙◌, ap, subst, arith}
use Rattle.std.proofs.Math.Nat.{le-div_iff_mul-le}
use Rattle.std.proofs.lemmas.Bool.{cases_eq, cases_lt}
use Rattle.std.proofs.lemmas.Nat.{from_be_bytes-to_be_bytes_8}
use Rattle.blob_device.specs.declared.error.DevError.{DevError}
use Rattle.blob_device.specs.declared.error.DevError.TheVariants as device
use Rattle.blob_device.specs.Change.{Remove}
use Rattle.blob_device.specs.Counts.{Rose}
use Rattle.blob_device.specs.Disk.{Key, Blob, nothing}
use Rattle.blob_device.specs.Opened.{OpenedList, left}
use Rattle.blob_device.specs.Timeline.{Timeline, disk, Passes, Always, OnlyAt}
use Rattle.blob_device.specs.lemmas.Moments.{always_now, only_start, only_on, ok_blob, err_has}
use Rattle.blob_device.specs.lemmas.Opened.{left_other}
use Rattle.blob_device.specs.lemmas.Puts.{put_same, same_or_other}
use Rattle.sealed_pages.specs.declared.write_blob.WriteBlob.{WriteBlob}
use Rattle.sealed_pages.specs.unsealed.Writing.{Over, shown, size_of}
use Rattle.ordinal_store.specs.declared.ordinal.Error.{Error}
use Rattle.ordinal_store.specs.declared.ordinal.Error.TheVariants.{Mem}
use Rattle.ordinal_store.specs.Durable.{IsGoing}
use Rattle.ordinal_store.specs.Numbers.{TakesAway}
use Rattle.ordinal_store.specs.Raised.{raised}
use Rattle.ordinal_store.specs.Ranges.{AreRanges, set_of}
use Rattle.ordinal_store.specs.Removing.{Dropping, GoesOne, IsFirst, IsWithout}
use Rattle.ordinal_store.specs.Slots.{place_of, section_key, section_of, slot_size}
use Rattle.ordinal_store.specs.Stores.{IsUsable, Sight, StandsOver, Store, key_of, now}
use Rattle.blob_device.proofs.general.Results.{err_of}
use Rattle.blob_device.proofs.general.Options.{some_there}

pub key_injective : (partition : List ℕ) (s t : ℕ) → s < 2 ^ 64 → t < 2 ^ 64 → section_key partition s ≡ section_key partition t → s ≡ t
key_injective partition s t s_small t_small is =
    sym (from_be_bytes-to_be_bytes_8 s s_small) ∙ ap (λ (k : Key). from_be_bytes w64 k.1) is ∙ from_be_bytes-to_be_bytes_8 t t_small

pub some_of : {T : Type 0} (P : T → Type 0) (o : Option T) → IsSomeAnd o P → IsSome o
some_of P None is = absurd is
some_of P (Some v) is = refl

-- The last index of a section, as it saturates, parts the indices of the sections above from the others.
pub last_parts : (items s : ℕ) → 1 ≤ items → (j : ℕ) → j < 2 ^ 64 → (min (min (s * items) (2 ^ 64 - 1) + (items - 1)) (2 ^ 64 - 1) < j) ↔ (s < j / items)
last_parts items s some j small = (
  λ above. (let room : (s + 1) * items ≤ j = omega (arith, above, small, some) in omega (arith, (le-div_iff_mul-le {k = items} {x = s + 1} {y = j} some).1 room)),
  λ later. (let room : (s + 1) * items ≤ j = (le-div_iff_mul-le {k = items} {x = s + 1} {y = j} some).0 (omega (arith, later)) in omega (arith, room, small, some)),
)

-- nothing stays nothing while it is removed
pub going_nothing : (b : Blob) → IsGoing nothing b → b ≡ nothing
going_nothing b (inl is) = is
going_nothing b (inr (inl (inl is))) = is
going_nothing b (inr (inl (inr is))) = is
going_nothing b (inr (inr is)) = is

pub going : {T : Type 0} (k : Key) (r : Result T DevError) (a b : Timeline) → Passes k Remove r a b → Always a b (OnlyAt k (disk a) (IsGoing (disk a k)))
going {T = T} k r a b passes = only_on a a b k (disk a) (IsGoing (disk a k)) Remove r (only_start a k (IsGoing (disk a k)) (inl refl)) passes (inr (inl (inl refl))) (after r passes)
  where
    after : (s : Result T DevError) → Passes k Remove s a b → IsGoing (disk a k) (disk b k)
    after (Ok v) p = inr (inr (ok_blob k Remove v a b p))
    after (Err e) p = err_has {T = T} (IsGoing (disk a k)) k Remove e a b p (inl refl) (λ new failed. inr (inl failed))

-- its entry leaves the list
pub entry_left : (k : Key) (old new : OpenedList) → (new ≡ old) ⊎ (new ≡ left old k) → (q : Key) → (new q ≡ old q) ⊎ ((q ≡ k) × (new q ≡ None))
entry_left k old new (inl is) q = inl (ap (λ (o : OpenedList). o q) is)
entry_left k old new (inr is) q = elim (same_or_other q k) [
  | inl here ↦ inr (here, ap (λ (o : OpenedList). o q) is ∙ subst (λ (p : Key). left old k p ≡ None) (sym here) (put_same old k None))
  | inr other ↦ inl (left_other new old k q is other)
]

-- One call of the device on the blob of a section.
module _ {T : Type 0} (o : Store) (told : Type 0) (s : ℕ) (k : Key) (at : k ≡ key_of o s) (old new : Sight) (removed : Result T DevError) (passes : told → Passes k Remove removed old.time new.time) where
  here : told → Passes (key_of o s) Remove removed old.time new.time
  here t = subst (λ (x : Key). Passes x Remove removed old.time new.time) at (passes t)

  pub goes_one : (new.opened ≡ old.opened) ⊎ (new.opened ≡ left old.opened k) → old.faults ≤ new.faults → GoesOne o told s old new
  goes_one entries faults = record {
    moments = λ t. going (key_of o s) removed old.time new.time (here t);
    entries = entry_left (key_of o s) old.opened new.opened (subst (λ (x : Key). (new.opened ≡ old.opened) ⊎ (new.opened ≡ left old.opened x)) at entries);
    faults = faults;
  }

  pub one_gone : (v : T) → removed ≡ Ok v → told → now new (key_of o s) ≡ nothing
  one_gone v is t = ok_blob (key_of o s) Remove v old.time new.time (subst (λ (r : Result T DevError). Passes (key_of o s) Remove r old.time new.time) is (here t))

  pub one_closed : new.opened ≡ left old.opened k → new.opened (key_of o s) ≡ None
  one_closed is = subst (λ (x : Key). new.opened x ≡ None) at (ap (λ (l : OpenedList). l k) is ∙ put_same old.opened k None)

module _ {T : Type 0} (show : T → Store) (told : Type 0) (o : Store) (s : ℕ) (old new : Sight) (goes : GoesOne o told s old new) where
  -- the device refused
  refused_by : (e : DevError) → (IsErrOf {T = Unit {0}} (Err e) device.Fault → Rose old.faults new.faults) → Dropping show told o s (Err (raised e)) old new
  refused_by device.Fault rose = record { goes = goes; usable = tt; without = tt; gone = λ t. tt; closed = tt; cause = inr (refl, rose refl) }
  refused_by device.Mem rose = record { goes = goes; usable = tt; without = tt; gone = λ t. tt; closed = tt; cause = inl refl }

  pub drop_refused : (result : Result T Error) (e : DevError) → IsErrAnd result (λ x. x ≡ raised e) → (IsErrOf {T = Unit {0}} (Err e) device.Fault → Rose old.faults new.faults) → Dropping show told o s result old new
  drop_refused result e is rose = subst (λ (r : Result T Error). Dropping show told o s r old new) (sym (err_of result (raised e) is)) (refused_by e rose)

  -- there was no memory
  pub drop_unnoted : Dropping show told o s (Err Mem) old new
  drop_unnoted = record { goes = goes; usable = tt; without = tt; gone = λ t. tt; closed = tt; cause = inl refl }

-- The store without a section, whose blob is gone.
module _ (told : Type 0) (o : Store) (s last : ℕ) (ranges : List (ℕ × ℕ)) (buffers : ℕ → Option WriteBlob) (written : ℕ → Bool) (old new : Sight)
    (goes : GoesOne o told s old new) (usable : IsUsable o told old.opened (now old)) (first : IsFirst o s)
    (are : AreRanges ranges) (takes : TakesAway (set_of o.ranges) (set_of ranges) 0 last) (parts : (j : ℕ) → j < 2 ^ 64 → (last < j) ↔ (s < section_of o.layout j))
    (none : buffers s ≡ None) (others : (q : ℕ) → q ≢ s → buffers q ≡ o.buffers q) (noted : (q : ℕ) → q ≢ s → written q ≡ o.written q)
    (gone : told → now new (key_of o s) ≡ nothing) where
  abbrev pub without : Store
  without = record { layout = o.layout; capacity = o.capacity; ranges = ranges; buffers = buffers; written = written }

  pub is_without : IsWithout o without s
  is_without = record {
    place = record { layout = refl; capacity = refl };
    here = none;
    others = others;
    held = λ j. (
      λ is. (let was = (takes j).0 is in (
        was.0,
        elim was.1 [
          | inl below ↦ absurd (omega (arith, below))
          | inr above ↦ λ same. (let later : s < section_of o.layout j = (parts j (usable.ranges.below j was.0)).0 above in omega (arith, later, same))
        ],
      )),
      λ was. (takes j).1 (
        was.0,
        inr (let from : s ≤ section_of o.layout j = first.least (section_of o.layout j) (some_of _ (o.buffers (section_of o.layout j)) (usable.room j was.0)) in
            (parts j (usable.ranges.below j was.0)).1 (above (section_of o.layout j) from was.1)),
      ),
    );
  }
    where
      above : (t : ℕ) → s ≤ t → t ≢ s → s < t
      above t from other = elim (cases_lt s t) [
        | inl later ↦ later
        | inr not ↦ absurd (other (omega (arith, from, not)))
      ]

  other_section : (q : ℕ) → IsSome (buffers q) → q ≢ s
  other_section q some same = cc (subst (λ (n : ℕ). IsSome (buffers n)) same some, none)

  was_there : (q : ℕ) → IsSome (buffers q) → IsSome (o.buffers q)
  was_there q some = subst IsSome (others q (other_section q some)) some

  was : (q : ℕ) (u : WriteBlob) → buffers q ≡ Some u → o.buffers q ≡ Some u
  was q u is = sym (others q (other_section q (some_there (buffers q) u is))) ∙ is

  s_small : s < 2 ^ 64
  s_small = usable.number s first.some

  other_key : (q : ℕ) → q < 2 ^ 64 → q ≢ s → key_of o q ≢ key_of o s
  other_key q small other same = other (key_injective o.layout.partition q s small s_small same)

  same_blob : told → (q : ℕ) → q < 2 ^ 64 → q ≢ s → now new (key_of o q) ≡ now old (key_of o q)
  same_blob t q small other = (always_now old.time new.time (OnlyAt (key_of o s) (now old) (IsGoing (now old (key_of o s)))) (goes.moments t)).others (key_of o q) (other_key q small other)

  same_entry : (q : ℕ) → q < 2 ^ 64 → q ≢ s → new.opened (key_of o q) ≡ old.opened (key_of o q)
  same_entry q small other = elim (goes.entries (key_of o q)) [
    | inl same ↦ same
    | inr away ↦ absurd (other_key q small other away.0)
  ]

  stands : told → StandsOver without (now new)
  stands t = record {
    over = λ q u is. (let some : IsSome (buffers q) = some_there (buffers q) u is in
        subst (Over (shown u)) (sym (same_blob t q (usable.number q (was_there q some)) (other_section q some))) ((usable.disk t).over q u (was q u is)));
    whose = λ q small there. elim (cases_eq q s) [
      | inl same ↦ absurd (let is : now new (key_of o q) ≡ nothing = ap (λ (n : ℕ). now new (key_of o n)) same ∙ gone t in cc (sym there ∙ ap (λ (b : Blob). b.there) is))
      | inr other ↦ subst IsSome (sym (others q other)) ((usable.disk t).whose q small (subst (λ (b : Blob). IsTrue b.there) (same_blob t q small other) there))
    ];
  }

  pub still_usable : IsUsable without told new.opened (now new)
  still_usable = record {
    items = usable.items;
    width = usable.width;
    ranges = are;
    number = λ q some. usable.number q (was_there q some);
    first = λ q some. usable.first q (was_there q some);
    capacity = λ q u is. usable.capacity q u (was q u is);
    key = λ q u is. usable.key q u (was q u is);
    is_open = λ q u is. (let some : IsSome (buffers q) = some_there (buffers q) u is in
        subst (λ (e : _). IsSomeAnd e (λ x. x.len ≡ u.end)) (sym (same_entry q (usable.number q (was_there q some)) (other_section q some))) (usable.is_open q u (was q u is)));
    room = λ j is. (let kept = (is_without.held j).0 is in
        subst (λ (b : Option WriteBlob). IsSomeAnd b (λ u. place_of o.layout j + slot_size o.layout ≤ size_of (shown u))) (sym (others (section_of o.layout j) kept.1)) (usable.room j kept.0));
    bounded = λ q u is. usable.bounded q u (was q u is);
    unwritten = λ q u is clean. usable.unwritten q u (was q u is) (sym (noted q (other_section q (some_there (buffers q) u is))) ∙ clean);
    disk = stands;
  }

  pub dropped : {T : Type 0} (show : T → Store) (r : T) → show r ≡ without → new.opened (key_of o s) ≡ None → Dropping show told o s (Ok r) old new
  dropped show r is closed = record {
    goes = goes;
    usable = subst (λ (n : Store). IsUsable n told new.opened (now new)) (sym is) still_usable;
    without = subst (λ (n : Store). IsWithout o n s) (sym is) is_without;
    gone = gone;
    closed = closed;
    cause = tt;
  }
