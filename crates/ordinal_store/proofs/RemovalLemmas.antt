-- A removal of sections, the least first: how far it has come, and what it has done when it ends.
use Rattle.std.specs.Prelude.{◌≡◌, ◌≢◌, ◌↔◌, ◌⊎◌, ℕ, ◌^◌, ◌<◌, ◌≤◌, Option, None, IsSome, IsTrue, Result, Err}
use Rattle.std.proofs.Common.{inl, inr, refl, sym, ◌∙◌, ap, subst, arith}
use Rattle.std.specs.Result.{IsErrAnd}
use Rattle.std.proofs.lemmas.Bool.{cases_eq}
use Rattle.blob_device.specs.lemmas.Moments.{always_start, always_now, always_then, always_weaker}
use Rattle.blob_device.specs.lemmas.Puts.{same_or_other}
use Rattle.blob_device.specs.Disk.{Key, Blob, Disk, nothing}
use Rattle.blob_device.specs.Timeline.{OnlyAt}
use Rattle.ordinal_store.specs.Calls.{HasFailed, IsBlobOf}
use Rattle.ordinal_store.specs.Durable.{IsGoing}
use Rattle.ordinal_store.specs.Removing.{Goes, GoesOne, IsBelow, IsDoomed, IsFirst, IsGone, IsKeptYet, IsWithout, Leaves, Left, Removing}
use Rattle.ordinal_store.specs.Slots.{Layout, blob_of, section_of}
use Rattle.ordinal_store.specs.Stores.{IsUsable, Sight, Store, has, key_of, now}
use Rattle.ordinal_store.specs.declared.ordinal.Error.{Error}
use Rattle.ordinal_store.proofs.RemovingLemmas.{going_nothing, key_injective, some_of}
use Rattle.blob_device.proofs.general.Results.{err_of}

module _ (o : Store) (bound : Option ℕ) (told : Type 0) where
  pub goes_start : (v : Sight) → Goes o bound told v v
  goes_start v = record {
    moments = λ t. always_start v.time (Leaves o bound (now v)) (record { each = λ q. inl refl; order = λ s t' s_is t_is below. inl refl; others = λ q not. refl });
    entries = λ q. inl refl;
    faults = omega arith;
  }

  pub left_start : (v : Sight) → IsUsable o told v.opened (now v) → Left o bound told o v v
  left_start v usable = record {
    usable = usable;
    place = record { layout = refl; capacity = refl };
    each = λ s. inl (record { buffer = refl; blob = λ t small. refl });
    held = λ j. (λ is. (is, some_of _ (o.buffers (section_of o.layout j)) (usable.room j is)), λ both. both.0);
  }

-- One section more.
module _ (o : Store) (bound : Option ℕ) (told : Type 0) (n : Store) (old mid new : Sight) (s : ℕ) (number : (q : ℕ) → IsSome (o.buffers q) → q < 2 ^ 64)
    (goes : Goes o bound told old mid) (left : Left o bound told n old mid) (first : IsFirst n s) (below : IsBelow bound s) (one : GoesOne n told s mid new) where
  s_small : s < 2 ^ 64
  s_small = left.usable.number s first.some

  same_key : key_of n s ≡ key_of o s
  same_key = ap (λ (l : Layout). blob_of l s) left.place.layout

  yet : IsKeptYet o bound told n old mid s
  yet = elim (left.each s) [
    | inl kept ↦ kept
    | inr gone ↦ absurd (cc (gone.buffer, first.some))
  ]

  doomed : IsDoomed o bound s
  doomed = (subst IsSome yet.buffer first.some, below)

  mine : IsBlobOf o (IsBelow bound) (key_of o s)
  mine = (s, doomed.0, below, refl)

  other_key : (q : ℕ) → q < 2 ^ 64 → q ≢ s → key_of o q ≢ key_of o s
  other_key q small other same = other (key_injective o.layout.partition q s small s_small same)

  -- those below it are gone
  gone_below : told → (q : ℕ) → IsDoomed o bound q → q < s → now mid (key_of o q) ≡ nothing
  gone_below t q is lower = elim (left.each q) [
    | inl kept ↦ absurd (let from : s ≤ q = first.least q (subst IsSome (sym kept.buffer) is.0) in omega (arith, from, lower))
    | inr gone ↦ gone.blob t
  ]

  leaves_on : told → (d : Disk) → OnlyAt (key_of n s) (now mid) (IsGoing (now mid (key_of n s))) d → Leaves o bound (now old) d
  leaves_on t d there = record { each = each; order = order; others = others }
    where
      had : Leaves o bound (now old) (now mid)
      had = always_now old.time mid.time (Leaves o bound (now old)) (goes.moments t)

      only : OnlyAt (key_of o s) (now mid) (IsGoing (now mid (key_of o s))) d
      only = subst (λ (k : Key). OnlyAt k (now mid) (IsGoing (now mid k)) d) same_key there

      each : (q : Key) → IsGoing (now old q) (d q)
      each q = elim (same_or_other q (key_of o s)) [
        | inl same ↦ subst (λ (k : Key). IsGoing (now old k) (d k)) (sym same) (subst (λ (b : Blob). IsGoing b (d (key_of o s))) (yet.blob t s_small) only.here)
        | inr other ↦ subst (IsGoing (now old q)) (sym (only.others q other)) (had.each q)
      ]

      none_yet : (q : ℕ) → q < 2 ^ 64 → now mid (key_of o q) ≡ nothing → d (key_of o q) ≡ nothing
      none_yet q small none = elim (cases_eq q s) [
        | inl same ↦ subst (λ (k : ℕ). now mid (key_of o k) ≡ nothing → d (key_of o k) ≡ nothing) (sym same)
            (λ was. going_nothing (d (key_of o s)) (subst (λ (b : Blob). IsGoing b (d (key_of o s))) was only.here)) none
        | inr other ↦ only.others (key_of o q) (other_key q small other) ∙ none
      ]

      order : (q u : ℕ) → IsDoomed o bound q → IsDoomed o bound u → q < u → (d (key_of o u) ≡ now old (key_of o u)) ⊎ (d (key_of o q) ≡ nothing)
      order q u is_q is_u lower = elim (cases_eq u s) [
        | inl same ↦ inr (none_yet q (number q is_q.0) (gone_below t q is_q (subst (λ (k : ℕ). q < k) same lower)))
        | inr other ↦ elim (had.order q u is_q is_u lower) [
          | inl stays ↦ inl (only.others (key_of o u) (other_key u (number u is_u.0) other) ∙ stays)
          | inr none ↦ inr (none_yet q (number q is_q.0) none)
        ]
      ]

      others : (q : Key) → (IsBlobOf o (IsBelow bound) q → ⊥) → d q ≡ now old q
      others q not = only.others q (λ same. not (subst (IsBlobOf o (IsBelow bound)) (sym same) mine)) ∙ had.others q not

  pub goes_on : Goes o bound told old new
  goes_on = record {
    moments = λ t. always_then old.time mid.time new.time (Leaves o bound (now old)) (goes.moments t)
        (always_weaker mid.time new.time (OnlyAt (key_of n s) (now mid) (IsGoing (now mid (key_of n s)))) (Leaves o bound (now old)) (leaves_on t) (one.moments t));
    entries = λ q. elim (one.entries q) [
      | inl same ↦ elim (goes.entries q) [
        | inl before ↦ inl (same ∙ before)
        | inr away ↦ inr (away.0, same ∙ away.1)
      ]
      | inr away ↦ inr (subst (IsBlobOf o (IsBelow bound)) (sym (away.0 ∙ same_key)) mine, away.1)
    ];
    faults = omega (arith, goes.faults, one.faults);
  }

  -- it is gone
  module _ (r : Store) (usable : IsUsable r told new.opened (now new)) (without : IsWithout n r s) (none : told → now new (key_of n s) ≡ nothing) (closed : new.opened (key_of n s) ≡ None) where
    same_blob : told → (q : ℕ) → q < 2 ^ 64 → q ≢ s → now new (key_of o q) ≡ now mid (key_of o q)
    same_blob t q small other =
        (always_now mid.time new.time (OnlyAt (key_of n s) (now mid) (IsGoing (now mid (key_of n s)))) (one.moments t)).others (key_of o q) (λ is. other_key q small other (is ∙ same_key))

    same_entry : (q : ℕ) → q < 2 ^ 64 → q ≢ s → new.opened (key_of o q) ≡ mid.opened (key_of o q)
    same_entry q small other = elim (one.entries (key_of o q)) [
      | inl same ↦ same
      | inr away ↦ absurd (other_key q small other (away.0 ∙ same_key))
    ]

    each_on : (q : ℕ) → IsKeptYet o bound told r old new q ⊎ IsGone o bound told r old new q
    each_on q = elim (cases_eq q s) [
      | inl same ↦ inr (subst (IsGone o bound told r old new) (sym same) (record {
        doomed = doomed;
        buffer = without.here;
        blob = λ t. ap (now new) (sym same_key) ∙ none t;
        entry = ap new.opened (sym same_key) ∙ closed;
      }))
      | inr other ↦ elim (left.each q) [
        | inl kept ↦ inl (record { buffer = without.others q other ∙ kept.buffer; blob = λ t small. same_blob t q small other ∙ kept.blob t small })
        | inr gone ↦ inr (let small : q < 2 ^ 64 = number q gone.doomed.0 in record {
          doomed = gone.doomed;
          buffer = without.others q other ∙ gone.buffer;
          blob = λ t. same_blob t q small other ∙ gone.blob t;
          entry = same_entry q small other ∙ gone.entry;
        })
      ]
    ]

    same_section : (j : ℕ) → section_of n.layout j ≡ section_of o.layout j
    same_section j = ap (λ (l : Layout). section_of l j) left.place.layout

    held_on : (j : ℕ) → IsTrue (has r j) ↔ (IsTrue (has o j) × IsSome (r.buffers (section_of o.layout j)))
    held_on j = (
      λ is. (let was = (without.held j).0 is in
          let before = (left.held j).0 was.0 in
          (before.0, subst IsSome (sym (without.others (section_of o.layout j) (λ same. was.1 (same_section j ∙ same)))) before.1)),
      λ both. (let other : section_of o.layout j ≢ s = λ same. cc (subst (λ (k : ℕ). IsSome (r.buffers k)) same both.1, without.here) in
          (without.held j).1 ((left.held j).1 (both.0, subst IsSome (without.others (section_of o.layout j) other) both.1), λ same. other (sym (same_section j) ∙ same))),
    )

    pub left_on : Left o bound told r old new
    left_on = record {
      usable = usable;
      place = record { layout = without.place.layout ∙ left.place.layout; capacity = without.place.capacity ∙ left.place.capacity };
      each = each_on;
      held = held_on;
    }

-- how a failure is seen from the beginning on
module _ {T : Type 0} (show : T → Store) (told : Type 0) (o : Store) (bound : Option ℕ) (old mid new : Sight) (earlier : old.faults ≤ mid.faults) (goes : Goes o bound told old new) where
  failed_by : (e : Error) → HasFailed {T = T} (Err e) mid new → Removing show told o bound (Err e) old new
  failed_by e why = record {
    goes = goes;
    left = tt;
    all = tt;
    cause = elim why [
      | inl mem ↦ inl mem
      | inr fault ↦ inr (fault.0, omega (arith, earlier, fault.1))
    ];
  }

  pub removing_failed : (result : Result T Error) (e : Error) → IsErrAnd result (λ x. x ≡ e) → HasFailed {T = T} (Err e) mid new → Removing show told o bound result old new
  removing_failed result e is why = subst (λ (r : Result T Error). Removing show told o bound r old new) (sym (err_of result e is)) (failed_by e why)
