-- A mended section is checked: what each answer says of it.
use Rattle.std.specs.Prelude.{◌≡◌, ℕ, ◌+◌, ◌-◌, ◌*◌, ◌/◌, ◌^◌, ◌<◌, ◌≤◌, min, Bool, true, List, Some, None, Result, Ok, Err, MatchResult}
use Rattle.std.specs.Result.{IsErrAnd}
use Rattle.std.proofs.Common.{inl, inr, refl, sym, ◌∙◌, ap, subst, arith}
use Rattle.std.proofs.lemmas.Bool.{cases_lt, lt-ltb, ltb-true}
use Rattle.blob_device.specs.lemmas.Moments.{always_start}
use Rattle.sealed_pages.specs.declared.write_blob.WriteBlob.{WriteBlob}
use Rattle.sealed_pages.specs.unsealed.Writing.{blob_key, shown, size_of}
use Rattle.sealed_pages.specs.lemmas.Entries.{only_read_start}
use Rattle.ordinal_store.specs.Adopting.{IsReady}
use Rattle.ordinal_store.specs.Mending.{is_marked}
use Rattle.ordinal_store.specs.Reopening.{Checking, IsFirstMarked, IsLeastMarked, Sounding}
use Rattle.ordinal_store.specs.Slots.{Layout, count_in, slot_size}
use Rattle.ordinal_store.specs.Stores.{Sight, now}
use Rattle.ordinal_store.specs.declared.ordinal.Error.{Error}
use Rattle.ordinal_store.specs.declared.ordinal.Error.TheVariants.{InvalidRecord, MissingRecord}
use Rattle.ordinal_store.proofs.ClearLemmas.{room_below}
use Rattle.ordinal_store.proofs.TrailLemmas.{failed_as}
use Rattle.blob_device.proofs.general.Results.{err_of}

module _ (told : Type 0) (l : Layout) (s : ℕ) (u : WriteBlob) (old : Sight) (ready : IsReady told (blob_key (shown u)) u.capacity old u) (count : ℕ) (counted : count ≡ size_of (shown u) / slot_size l) where
  same_count : told → count ≡ count_in l (now old (blob_key (shown u))).content
  same_count t = counted ∙ ap (λ (n : ℕ). n / slot_size l) (ready.size t)

  room_of : (p : ℕ) → p < count → p * slot_size l + slot_size l ≤ size_of (shown u)
  room_of p below = room_below p (slot_size l) (size_of (shown u)) (omega arith) (omega (arith, below, counted))

  -- each marked slot is the section's, and stands in it
  pub marked_whole : (bits : List Bool) → IsFirstMarked bits (min l.items count) None → Checking told l s (Some bits) (blob_key (shown u)) u (Ok tt) old old
  marked_whole bits none = record {
    unchanged = λ t. always_start old.time (λ d. d ≡ now old) refl;
    entries = only_read_start (blob_key (shown u)) old.opened;
    faults = omega arith;
    room = λ p wanted. (let below = inside p wanted in (omega (arith, below), room_of p (omega (arith, below))));
    answer = λ t. (
      λ long. long,
      λ p wanted faulty. (let below = inside p wanted in elim faulty [ inl past ↦ absurd (omega (arith, below, past, same_count t)) | inr past ↦ absurd (omega (arith, below, past)) ]),
    );
    cause = tt;
  }
    where
      inside : (p : ℕ) → is_marked bits p ≡ true → p < min l.items count
      inside p wanted = elim (cases_lt p (min l.items count)) [ inl below ↦ below | inr past ↦ absurd (cc (none p (omega (arith, past)), wanted)) ]

  -- a marked slot is past the section or its blob
  pub marked_missing : (bits : List Bool) (p : ℕ) → IsLeastMarked bits (min l.items count) p → Checking told l s (Some bits) (blob_key (shown u)) u (Err (MissingRecord (s * l.items + p))) old old
  marked_missing bits p least = record {
    unchanged = λ t. always_start old.time (λ d. d ≡ now old) refl;
    entries = only_read_start (blob_key (shown u)) old.opened;
    faults = omega arith;
    room = tt;
    answer = λ t. inl (inr (
      (λ long. long),
      (
        p,
        record {
          wanted = least.marked;
          faulty = elim (cases_lt p l.items) [ inl inside ↦ inl (omega (arith, least.after, inside, same_count t)) | inr past ↦ inr (omega (arith, past)) ];
          first = λ q below wanted faulty. elim (cases_lt q (min l.items count)) [
            | inl early ↦ elim faulty [ inl past ↦ absurd (omega (arith, early, past, same_count t)) | inr past ↦ absurd (omega (arith, early, past)) ]
            | inr late ↦ absurd (cc (least.first q (omega (arith, late)) below, wanted))
          ];
        },
        refl,
      ),
    ));
    cause = inl (s * l.items + p, inl refl);
  }

  pub marked_ends : (bits : List Bool) (r : Result (Unit {0}) Error) → MatchResult r (λ v. IsFirstMarked bits (min l.items count) None) (λ e. (p : ℕ) × IsFirstMarked bits (min l.items count) (Some p) × (e ≡ MissingRecord (s * l.items + p)))
      → Checking told l s (Some bits) (blob_key (shown u)) u r old old
  marked_ends bits (Ok v) none = marked_whole bits none
  marked_ends bits (Err e) missing = subst (λ (x : Error). Checking told l s (Some bits) (blob_key (shown u)) u (Err x) old old) (sym missing.2) (marked_missing bits missing.0 missing.1)

  -- a section that has to be full has more slots
  pub full_long : l.items < count → Checking told l s None (blob_key (shown u)) u (Err (InvalidRecord (min (s * l.items + l.items) (2 ^ 64 - 1)))) old old
  full_long long = record {
    unchanged = λ t. always_start old.time (λ d. d ≡ now old) refl;
    entries = only_read_start (blob_key (shown u)) old.opened;
    faults = omega arith;
    room = tt;
    answer = λ t. inl (inl (omega (arith, long, same_count t), refl));
    cause = inl (min (s * l.items + l.items) (2 ^ 64 - 1), inr refl);
  }

  module _ (short : count ≤ l.items) (new : Sight) where
    full_by : (e : Error) → Sounding told l (blob_key (shown u)) (λ bytes. bytes) count (Err e) old new → Checking told l s None (blob_key (shown u)) u (Err e) old new
    full_by e r = record {
      unchanged = r.unchanged;
      entries = r.entries;
      faults = r.faults;
      room = tt;
      answer = λ t. inr (failed_as {T = ℕ} {U = Unit {0}} e old old new (omega arith) r.cause);
      cause = inr (failed_as {T = ℕ} {U = Unit {0}} e old old new (omega arith) r.cause);
    }

    pub full_failed : (result : Result (Unit {0}) Error) (e : Error) → IsErrAnd result (λ x. x ≡ e) → Sounding told l (blob_key (shown u)) (λ bytes. bytes) count (Err e) old new → Checking told l s None (blob_key (shown u)) u result old new
    full_failed result e is r = subst (λ (x : Result (Unit {0}) Error). Checking told l s None (blob_key (shown u)) u x old new) (sym (err_of result e is)) (full_by e r)

    module _ (n : ℕ) (r : Sounding told l (blob_key (shown u)) (λ bytes. bytes) count (Ok n) old new) where
      -- a slot is missing, or holds no value
      pub full_missing : n < l.items → Checking told l s None (blob_key (shown u)) u (Err (MissingRecord (s * l.items + n))) old new
      full_missing few = record {
        unchanged = r.unchanged;
        entries = r.entries;
        faults = r.faults;
        room = tt;
        answer = λ t. inl (inr (
          (λ long. omega (arith, long, short, same_count t)),
          (
            n,
            record {
              wanted = lt-ltb n l.items few;
              faulty = elim (cases_lt n count) [ inl inside ↦ inr ((r.sound t).next inside) | inr past ↦ inl (omega (arith, past, same_count t)) ];
              first = λ q below wanted faulty. elim faulty [ inl past ↦ absurd (omega (arith, below, past, same_count t, r.within)) | inr not ↦ absurd (not ((r.sound t).hold q below)) ];
            },
            refl,
          ),
        ));
        cause = inl (s * l.items + n, inl refl);
      }

      -- all slots hold values
      pub full_whole : l.items ≤ n → Checking told l s None (blob_key (shown u)) u (Ok tt) old new
      full_whole all = record {
        unchanged = r.unchanged;
        entries = r.entries;
        faults = r.faults;
        room = λ p wanted. (let below : p < l.items = ltb-true p l.items wanted in (below, room_of p (omega (arith, below, all, r.within))));
        answer = λ t. (
          λ long. omega (arith, long, short, same_count t),
          λ p wanted faulty. (let below : p < l.items = ltb-true p l.items wanted in
              elim faulty [ inl past ↦ absurd (omega (arith, below, past, all, r.within, same_count t)) | inr not ↦ absurd (not ((r.sound t).hold p (omega (arith, below, all)))) ]),
        );
        cause = tt;
      }
