-- One section of a map is opened, mended and checked: what each way to end leaves; and the last of them.
use Rattle.std.specs.Prelude.{◌≡◌, ◌⊎◌, ℕ, ◌+◌, ◌*◌, ◌/◌, ◌<◌, Bool, true, List, length, Option, Some, None, Result, Ok, Err, IfOk, OnErr}
use Rattle.std.specs.Result.{IsErrAnd}
use Rattle.std.proofs.Common.{inl, inr, refl, sym, ◌∙◌, ap, subst, arith}
use Rattle.std.proofs.lemmas.Bool.{cases_lt}
use Rattle.std.proofs.lemmas.Nat.{div-mul-add}
use Rattle.blob_device.specs.lemmas.Moments.{always_now, always_then, always_weaker}
use Rattle.blob_device.specs.Disk.{Disk, Key}
use Rattle.blob_device.specs.Timeline.{OnlyAt}
use Rattle.sealed_pages.specs.declared.write_blob.WriteBlob.{WriteBlob}
use Rattle.sealed_pages.specs.unsealed.Writing.{Over, shown, size_of}
use Rattle.ordinal_store.specs.Marking.{IsFault, IsFaulty, IsTooLong, IsWhole, is_wanted}
use Rattle.ordinal_store.specs.Mending.{IsMade}
use Rattle.ordinal_store.specs.Reopening.{Checking, IsHolding, Reopening, Restores, Restoring, Touching}
use Rattle.ordinal_store.specs.Slots.{HasValue, Layout, count_in, slot_at, slot_size}
use Rattle.ordinal_store.specs.Stores.{Sight, Store, key_of, now}
use Rattle.ordinal_store.specs.declared.ordinal.Error.{Error}
use Rattle.ordinal_store.specs.declared.ordinal.Error.TheVariants.{InvalidRecord, Mem, MissingRecord}
use Rattle.ordinal_store.proofs.TrailLemmas.{failed_as}
use Rattle.blob_device.proofs.general.Results.{err_of}

-- What is faulty of the mended bytes is faulty of those that were there.
module _ (l : Layout) (marks : Option (List Bool)) (c m : List ℕ) (made : IsMade (slot_size l) marks c m) where
  count_same : count_in l m ≡ count_in l c
  count_same = ap (λ (n : ℕ). n / slot_size l) (made.size_is ∙ plus (length c / slot_size l * slot_size l)) ∙ div-mul-add (length c / slot_size l) (slot_size l) 0 (omega arith)
    where
      plus : (n : ℕ) → n ≡ n + 0
      plus n = omega arith

  faulty_back : (b : Option (List Bool)) → b ≡ marks → (p : ℕ) → is_wanted l.items (Some b) p ≡ true → IsFaulty l (Some b) m p → IsFaulty l (Some b) c p
  faulty_back None is p wanted (inl past) = inl (omega (arith, past, count_same))
  faulty_back None is p wanted (inr not) = elim (cases_lt p (count_in l c)) [
    | inl below ↦ inr (λ value. not (subst (HasValue l) (sym (left_none is p below)) value))
    | inr past ↦ inl (omega (arith, past))
  ]
    where
      left_none : None ≡ marks → (q : ℕ) → q < count_in l c → slot_at (slot_size l) m q ≡ slot_at (slot_size l) c q
      left_none none q below = (subst (λ (x : Option (List Bool)). IsMade (slot_size l) x c m) (sym none) made).kept q below refl
  faulty_back (Some bits) is p wanted (inl past) = inl (omega (arith, past, count_same))
  faulty_back (Some bits) is p wanted (inr past) = inr past

  faulty_on : (b : Option (List Bool)) → b ≡ marks → (p : ℕ) → is_wanted l.items (Some b) p ≡ true → IsFaulty l (Some b) c p → IsFaulty l (Some b) m p
  faulty_on None is p wanted (inl past) = inl (omega (arith, past, count_same))
  faulty_on None is p wanted (inr not) = elim (cases_lt p (count_in l c)) [
    | inl below ↦ inr (λ value. not (subst (HasValue l) (left_none is p below) value))
    | inr past ↦ inl (omega (arith, past, count_same))
  ]
    where
      left_none : None ≡ marks → (q : ℕ) → q < count_in l c → slot_at (slot_size l) m q ≡ slot_at (slot_size l) c q
      left_none none q below = (subst (λ (x : Option (List Bool)). IsMade (slot_size l) x c m) (sym none) made).kept q below refl
  faulty_on (Some bits) is p wanted (inl past) = inl (omega (arith, past, count_same))
  faulty_on (Some bits) is p wanted (inr past) = inr past

  pub whole_back : IsWhole l (Some marks) (Some m) → IsWhole l (Some marks) (Some c)
  whole_back is_whole = (λ long. is_whole.0 (subst (IsTooLong l.items (Some marks)) (sym count_same) long), λ p wanted faulty. is_whole.1 p wanted (faulty_on marks refl p wanted faulty))

  pub fault_back : (s : ℕ) (e : Error) → IsFault l s (Some marks) (Some m) e → IsFault l s (Some marks) (Some c) e
  fault_back s e (inl long) = inl (subst (IsTooLong l.items (Some marks)) count_same long.0, long.1)
  fault_back s e (inr first) = inr (
    (λ long. first.0 (subst (IsTooLong l.items (Some marks)) (sym count_same) long)),
    (
      first.1.0,
      record {
        wanted = first.1.1.wanted;
        faulty = faulty_back marks refl first.1.0 first.1.1.wanted first.1.1.faulty;
        first = λ q below wanted faulty. first.1.1.first q below wanted (faulty_on marks refl q wanted faulty);
      },
      first.1.2,
    ),
  )

module _ {T : Type 0} (show : T → Store) (told : Type 0) (o : Store) (s : ℕ) (marks : Option (List Bool)) (old mid : Sight) where
  abbrev key : Key
  key = key_of o s

  abbrev size : ℕ
  size = slot_size o.layout

  restore_by : (e : Error) → Reopening told key o.capacity size marks (Err e) old mid → Restoring show told o s marks (Err e) old mid
  restore_by e r = record {
    touching = r.touching;
    ready = tt;
    made = λ t there. tt;
    answer = λ t there. inr (failed_as {T = WriteBlob} {U = T} e old old mid (omega arith) r.cause);
    cause = inr (failed_as {T = WriteBlob} {U = T} e old old mid (omega arith) r.cause);
  }

  -- the section was not opened
  pub restore_refused : (result : Result T Error) (e : Error) → IsErrAnd result (λ x. x ≡ e) → Reopening told key o.capacity size marks (Err e) old mid → Restoring show told o s marks result old mid
  restore_refused result e is r = subst (λ (x : Result T Error). Restoring show told o s marks x old mid) (sym (err_of result e is)) (restore_by e r)

  module _ (u : WriteBlob) (r : Reopening told key o.capacity size marks (Ok u) old mid) (new : Sight) where
    module _ (answer : Result (Unit {0}) Error) (check : Checking told o.layout s marks key u answer mid new) where
      same_blob : told → now new ≡ now mid
      same_blob t = always_now mid.time new.time (λ d. d ≡ now mid) (check.unchanged t)

      pub checked_touching : Touching told key size marks old new
      checked_touching = record {
        moments = λ t there. always_then old.time mid.time new.time (OnlyAt key (now old) (Restores size marks (now old key))) (r.touching.moments t there)
            (always_weaker mid.time new.time (λ d. d ≡ now mid) (OnlyAt key (now old) (Restores size marks (now old key)))
            (λ d same. subst (OnlyAt key (now old) (Restores size marks (now old key))) (sym same) (always_now old.time mid.time (OnlyAt key (now old) (Restores size marks (now old key))) (r.touching.moments t there))) (check.unchanged t));
        entries = λ q other. check.entries.others q other ∙ r.touching.entries q other;
        faults = omega (arith, r.touching.faults, check.faults);
      }

    check_by : (e : Error) → Checking told o.layout s marks key u (Err e) mid new → Restoring show told o s marks (Err e) old new
    check_by e check = record {
      touching = checked_touching (Err e) check;
      ready = tt;
      made = λ t there. tt;
      answer = λ t there. elim (check.answer t) [
        | inl fault ↦ inl (fault_back o.layout marks (now old key).content (now mid key).content (r.made t there) s e fault)
        | inr why ↦ inr (failed_as {T = Unit {0}} {U = T} e old mid new r.touching.faults why)
      ];
      cause = elim check.cause [
        | inl (i, inl missing) ↦ inl (i, inl (let same : e ≡ MissingRecord i = cc missing in let f : Error → Result T Error = λ x. Err x in ap f same))
        | inl (i, inr invalid) ↦ inl (i, inr (let same : e ≡ InvalidRecord i = cc invalid in let f : Error → Result T Error = λ x. Err x in ap f same))
        | inr why ↦ inr (failed_as {T = Unit {0}} {U = T} e old mid new r.touching.faults why)
      ];
    }

    -- the section is not whole
    pub restore_faulty : (result : Result T Error) (e : Error) → IsErrAnd result (λ x. x ≡ e) → Checking told o.layout s marks key u (Err e) mid new → Restoring show told o s marks result old new
    restore_faulty result e is check = subst (λ (x : Result T Error). Restoring show told o s marks x old new) (sym (err_of result e is)) (check_by e check)

    -- it is whole, and held
    pub restore_done : (result : Result T Error) → Checking told o.layout s marks key u (Ok tt) mid new → (result ≡ Err Mem) ⊎ ((x : T) × (result ≡ Ok x) × IsHolding o s u marks (show x)) → Restoring show told o s marks result old new
    restore_done result check (inl is) = subst (λ (x : Result T Error). Restoring show told o s marks x old new) (sym is) (record {
      touching = checked_touching (Ok tt) check;
      ready = tt;
      made = λ t there. tt;
      answer = λ t there. inr (inl refl);
      cause = inr (inl refl);
    })
    restore_done result check (inr (x, is, hold)) = subst (λ (y : Result T Error). Restoring show told o s marks y old new) (sym is) (record {
      touching = checked_touching (Ok tt) check;
      ready = (
        u,
        record {
          rested = record { key_is = r.ready.rested.key_is; capacity_is = r.ready.rested.capacity_is; is_open = check.entries.length u.end r.ready.rested.is_open; clean = r.ready.rested.clean; size = r.ready.rested.size };
          over = λ t. subst (λ (d : Disk). Over (shown u) (d key)) (sym (same_blob (Ok tt) check t)) (r.ready.over t);
          size = λ t. subst (λ (d : Disk). size_of (shown u) ≡ length (d key).content) (sym (same_blob (Ok tt) check t)) (r.ready.size t);
        },
        hold,
        check.room,
      );
      made = λ t there. subst (λ (d : Disk). IsMade size marks (now old key).content (d key).content) (sym (same_blob (Ok tt) check t)) (r.made t there);
      answer = λ t there. whole_back o.layout marks (now old key).content (now mid key).content (r.made t there) (check.answer t);
      cause = tt;
    })

-- an answer is a value, or want of memory
pub held_cases : {T : Type 0} (P : T → Type 0) (r : Result T Error) → IfOk r P → OnErr r (r ≡ Err Mem) → (r ≡ Err Mem) ⊎ ((x : T) × (r ≡ Ok x) × P x)
held_cases P (Ok x) p cause = inr (x, refl, p)
held_cases P (Err e) p cause = inl cause
