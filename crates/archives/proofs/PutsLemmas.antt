-- What a put promises, by the ways in which one ends.
use Rattle.std.proofs.Common.{◌≡◌, ◌≢◌, ◌⊎◌, ◌↔◌, inl, inr, refl, sym, ◌∙◌, ap, subst, ℕ, ◌+◌, ◌-◌, ◌^◌, ◌<◌, ◌≤◌, List, [], ◌∷◌, ◌++◌, ◌==◌, ◌&&◌, not, if◌then◌else◌, Bool, true, false, IsSomeAnd, None, Some, Result, Ok, Err, arith}
use Rattle.std.specs.Prelude.{⊤}
use Rattle.std.specs.Result.{IsErrOf}
use Rattle.std.proofs.lemmas.Bool.{cases_lt}
use Rattle.blob_device.specs.Counts.{Rose}
use Rattle.blob_device.specs.Disk.{Key}
use Rattle.blob_device.specs.Footprint.{Footprint, NoBound, SameElsewhere}
use Rattle.blob_device.specs.Timeline.{Always, disk}
use Rattle.blob_device.specs.declared.device.Device as device
use Rattle.blob_device.specs.declared.runtime.RError.TheVariants as runtime
use Rattle.blob_device.specs.lemmas.Footprint.{footprint_none, footprint_wider}
use Rattle.blob_device.specs.lemmas.Moments.{always_weaker}
use Rattle.sealed_pages.specs.Buffer.{FlushesNothing, extent, size_of}
use Rattle.sealed_pages.specs.Shown as page_blob
use Rattle.sealed_pages.specs.declared.page_blob.PageBlob.{PageBlob}
use Rattle.section_manager.specs.declared.sealed.AppendFactory.{AppendFactory}
use Rattle.sealed_pages.specs.declared.write_blob.WriteBlob.{WriteBlob}
use Rattle.section_manager.specs.Refusing.{HasFailed, IsPruned}
use Rattle.section_manager.specs.Sections.{IsHeld, section_key}
use Rattle.section_manager.specs.unsealed.Buffer.{count_of}
use Rattle.section_manager.specs.declared.journal.Error as journal
use Rattle.section_manager.specs.declared.journal.Error.TheVariants as section
use Rattle.paired.specs.Crashes.{IsOwn}
use Rattle.paired.specs.glob.Sections as glob
use Rattle.archives.specs.Changes.{IsSoundOver, MayUse, state_over}
use Rattle.archives.specs.Filing.{IsBlobAt}
use Rattle.archives.specs.Machine.{section_of}
use Rattle.archives.specs.Prunable.{Prunable, filing_by, meaning}
use Rattle.archives.specs.Putting.{HasBufferRoom, IsAllowed, Times, after_putting, frame_size, is_skipped, put_command}
use Rattle.archives.specs.Puts.{IsPutCause, PutDone, PutFailed, Puts, Refuses}
use Rattle.archives.specs.Raised.{raised}
use Rattle.archives.specs.Refusing.{IsFault}
use Rattle.archives.specs.Standing.{Leaves}
use Rattle.archives.specs.declared.error.Error.{Error}
use Rattle.archives.specs.declared.error.Error.TheVariants.{Full, Journal, Mem}
use Rattle.archives.proofs.put.Errors.{full_from, large_from, two_errors}
use Rattle.archives.proofs.Alike.{alike_as}
use Rattle.archives.proofs.put.Stands.{put_unmoved}
use Rattle.archives.proofs.PuttingLemmas.{step_by}
use Rattle.archives.specs.lemmas.put.Stands.{put_skipped}

module _ {A V S D : Type 0} {gs : _} (p : Prunable A V (AppendFactory S) (PageBlob S gs)) (dev : device.Ghosts D) (times : Times) (a : A) (index : ℕ) (key value : List ℕ) where
  abbrev sec : ℕ
  sec = section_of (p.see a).items index

  abbrev size : ℕ
  size = frame_size (filing_by p a).layout value

  abbrev skip : Bool
  skip = is_skipped (p.see a) index times

  -- at each moment from one device to another a crash leaves what stands for the state with the put under way
  abbrev pub PutMoments : D → D → Type 0
  PutMoments old new = dev.Tells → IsSoundOver (meaning p) dev a old
      → Always (dev.time old) (dev.time new) (Leaves (filing_by p a) (state_over (meaning p) dev a old) (Some (put_command times index key value)))

  own_blob : sec < 2 ^ 64 → (q : Key) → IsBlobAt (filing_by p a) index q → IsOwn (filing_by p a).layout (λ _. ⊤) q
  own_blob small q (inl is) = inl (sec, small, tt, is)
  own_blob small q (inr is) = inr (inl (sec, small, tt, is))

  -- the two blobs of the section are the archive's
  all_own : sec < 2 ^ 64 → (old new : D) → Footprint dev (IsBlobAt (filing_by p a) index) NoBound old new → Footprint dev (IsOwn (filing_by p a).layout (λ _. ⊤)) NoBound old new
  all_own small old new touched = footprint_wider dev (IsBlobAt (filing_by p a) index) (IsOwn (filing_by p a).layout (λ _. ⊤)) NoBound NoBound old new (own_blob small) (λ q n none. absurd none) touched

  pub put_fault : (told : Type 0) (before now : ℕ) (e : Error) → IsPutCause (p.see a) index skip size told before now e → IsFault e → Rose before now
  put_fault told before now e cause (inl is) = subst (IsPutCause (p.see a) index skip size told before now) is cause
  put_fault told before now e cause (inr is) = absurd (subst (IsPutCause (p.see a) index skip size told before now) is cause)

  -- What the pair's append touches, of a section s.
  pub record PairTouches (s : ℕ) (old new : D) : Type 0 where
    pub untouched : dev.Tells → Always (dev.time old) (dev.time new)
        (λ d. (q : Key) → q ≢ section_key (filing_by p a).layout.index s → q ≢ section_key (filing_by p a).layout.values s → d q ≡ disk (dev.time old) q)
    pub entries : (q : Key) → q ≢ section_key (filing_by p a).layout.index s → q ≢ section_key (filing_by p a).layout.values s → dev.opened new q ≡ dev.opened old q
    pub faults : dev.faults old ≤ dev.faults new
    pub below : (u : PageBlob S gs) (v : WriteBlob) → (p.see a).pair.index.sections.held s ≡ Some u → (p.see a).pair.values.held s ≡ Some v
        → FlushesNothing (page_blob.shown u) (filing_by p a).layout.record_size → glob.pending_size (p.see a).pair.values s + size < (p.see a).pair.values.factory.capacity → new ≡ old

  pub touches_here : (s : ℕ) → s ≡ sec → (old new : D) → PairTouches s old new → PairTouches sec old new
  touches_here s is old new touches = subst (λ (x : ℕ). PairTouches x old new) is touches

  -- the same of another result that is equal
  pub put_as : (r x : Result A Error) (old new : D) → r ≡ x → Puts p dev times a index key value x old new → Puts p dev times a index key value r old new
  put_as r x old new is puts = subst (λ (y : Result A Error). Puts p dev times a index key value y old new) (sym is) puts

  touched_by : (old new : D) → PairTouches sec old new → Footprint dev (IsBlobAt (filing_by p a) index) NoBound old new
  touched_by old new touches = record {
    alone = λ t. always_weaker (dev.time old) (dev.time new)
        (λ d. (q : Key) → q ≢ section_key (filing_by p a).layout.index sec → q ≢ section_key (filing_by p a).layout.values sec → d q ≡ disk (dev.time old) q)
        (SameElsewhere (IsBlobAt (filing_by p a) index) (disk (dev.time old)))
        (λ d others q not. others q (λ is. not (inl is)) (λ is. not (inr is))) (touches.untouched t);
    entries = λ q not. touches.entries q (λ is. not (inl is)) (λ is. not (inr is));
    reads = λ q n none. absurd none;
    faults = touches.faults;
  }

  below_by : (old new : D) → PairTouches sec old new → HasBufferRoom (p.see a) index size → new ≡ old
  below_by old new touches room = touches.below room.records room.values room.held room.values_held room.no_flush room.below

  -- ---- where the put is skipped

  pub put_nothing : sec < 2 ^ 64 → skip ≡ true → (d : D) → MayUse (meaning p) dev a d
      → (dev.Tells → IsSoundOver (meaning p) dev a d → Leaves (filing_by p a) (state_over (meaning p) dev a d) None (disk (dev.time d))) → Puts p dev times a index key value (Ok a) d d
  put_nothing small taken d over rest = record {
    changes = record {
      moments = λ t sound. put_unmoved (p.see a) index sec refl key value 0 times dev.time d d (rest t sound) refl;
      footprint = footprint_none dev (IsOwn (filing_by p a).layout (λ _. ⊤)) NoBound d d refl;
      ends = record {
        over = over;
        alike = alike_as p a a refl (λ v accepts. accepts);
        sound = λ t sound. sound;
        step = λ t sound. step_by times (p.see a).items index key value (state_over (meaning p) dev a d) (state_over (meaning p) dev a d)
            (sym (put_skipped (p.see a) (disk (dev.time d)) index key value (over.listed t) times taken));
        rest = rest;
      };
    };
    footprint = footprint_none dev (IsBlobAt (filing_by p a) index) NoBound d d refl;
    skipped = λ is. (refl, refl);
    below = λ room. refl;
    refuses = record {
      over_limit = λ free none. absurd (cc (taken, free));
      too_large = λ large. (let free = large.free in absurd (cc (taken, free)));
      no_room = λ t full. (let free = full.free in absurd (cc (taken, free)));
    };
    ends = record {
      filing = record {
        layout = record { index = refl; values = refl; marked = refl; metadata = refl; page_size = refl };
        record_size = refl;
        seal = λ bytes. refl;
        place = λ bytes. refl;
        items = refl;
        key_size = refl;
        refusal = λ bytes. refl;
        most_sections = refl;
        most_records = refl;
      };
      alike = refl;
      floor = refl;
      bounds = (
        record { place = record { partition = refl; factory = refl }; floor = refl; ceiling = refl },
        record { place = record { partition = refl; factory = refl }; floor = refl; ceiling = refl },
      );
      rows = λ s. ap (λ (b : Bool). if not b && (s == sec) then (p.see a).rows s ++ record { index = index; key = key } ∷ [] else (p.see a).rows s) (sym taken);
      values = λ t s. ap (λ (b : Bool). if not b && (s == sec) then glob.section_size (p.see a).pair.values s + size else glob.section_size (p.see a).pair.values s) (sym taken);
      own_tails = λ free. absurd (cc (taken, free));
      other_tails = λ s other. (refl, refl);
      written = λ s. (
        inl,
        λ after. elim after [
          | inl was ↦ was
          | inr new ↦ (let free = new.0 in absurd (cc (taken, free)))
        ],
      );
      markers = refl;
      synced = λ s. refl;
    };
  }

  -- ---- where it is free

  module _ (small : sec < 2 ^ 64) (free : skip ≡ false) where
    failed : (e : Error) (old new : D) → PutMoments old new → Footprint dev (IsBlobAt (filing_by p a) index) NoBound old new → (HasBufferRoom (p.see a) index size → new ≡ old)
        → Refuses (p.see a) index skip size {A = A} dev.Tells (Err e) old new → PutFailed p dev times a index size e old new → Puts p dev times a index key value (Err e) old new
    failed e old new moments touched below refuses why = record {
      changes = record { moments = moments; footprint = all_own small old new touched; ends = put_fault dev.Tells (dev.faults old) (dev.faults new) e why.cause };
      footprint = touched;
      skipped = λ is. absurd (cc (is, free));
      below = below;
      refuses = refuses;
      ends = why;
    }

    -- ---- where nothing was done

    module _ (d : D) (rest : dev.Tells → IsSoundOver (meaning p) dev a d → Leaves (filing_by p a) (state_over (meaning p) dev a d) None (disk (dev.time d))) where
      still : PutMoments d d
      still t sound = put_unmoved (p.see a) index sec refl key value 0 times dev.time d d (rest t sound) refl

      -- the limits are reached
      pub put_over_limit : (IsAllowed (p.see a) index → ⊥) → Puts p dev times a index key value (Err Full) d d
      put_over_limit none = failed Full d d still (footprint_none dev (IsBlobAt (filing_by p a) index) NoBound d d refl) (λ room. refl)
          (record {
            over_limit = λ _ _. (refl, refl);
            too_large = λ large. absurd (none large.allowed);
            no_room = λ t full. inl (refl, refl);
          })
          (record { cause = record { free = free; full = inl none }; unwritten = λ _. refl })

      -- memory was short
      pub put_no_memory : IsAllowed (p.see a) index → Puts p dev times a index key value (Err Mem) d d
      put_no_memory allowed = failed Mem d d still (footprint_none dev (IsBlobAt (filing_by p a) index) NoBound d d refl) (λ room. refl)
          (record {
            over_limit = λ _ none. absurd (none allowed);
            too_large = λ large. inr refl;
            no_room = λ t full. inr refl;
          })
          (record { cause = tt; unwritten = λ _. refl })

    -- ---- where the pair failed

    -- What the pair says of it, of a section s.
    pub record PairFailed (T : Type 0) (s : ℕ) (e : journal.Error) (old new : D) : Type 0 where
      pub cause : IsErrOf {T = T} (Err e) section.ValueTooLarge ⊎ (IsPruned {T = T} (Err e) (p.see a).pair.index.sections.floor
          ⊎ (IsErrOf {T = T} (Err e) section.Full ⊎ HasFailed {T = T} (Err e) (dev.faults old) (dev.faults new)))
      pub guard : IsPruned {T = T} (Err e) (p.see a).pair.index.sections.floor ↔ ((size ≤ 2 ^ 32 - 1) × (s < (p.see a).pair.index.sections.floor))
      pub too_large : IsErrOf {T = T} (Err e) section.ValueTooLarge ↔ (2 ^ 32 - 1 < size)
      pub full : dev.Tells ⊎ (IsHeld (p.see a).pair.index.sections s × IsHeld (p.see a).pair.values s)
          → IsErrOf {T = T} (Err e) section.Full ↔ ((size ≤ 2 ^ 32 - 1) × ((p.see a).pair.index.sections.floor ≤ s)
          × (IsSomeAnd ((p.see a).pair.index.sections.held s) (λ u. 2 ^ 64 ≤ extent u.page_size (size_of (page_blob.shown u) + (filing_by p a).layout.record_size))
          ⊎ IsSomeAnd ((p.see a).pair.values.held s) (λ v. 2 ^ 64 ≤ count_of v + size)))
      pub refused : IsErrOf {T = T} (Err e) section.ValueTooLarge ⊎ (IsPruned {T = T} (Err e) (p.see a).pair.index.sections.floor
          ⊎ ((dev.Tells ⊎ (IsHeld (p.see a).pair.index.sections s × IsHeld (p.see a).pair.values s)) × IsErrOf {T = T} (Err e) section.Full)) → new ≡ old

    pub failed_here : {T : Type 0} (s : ℕ) → s ≡ sec → (e : journal.Error) (old new : D) → PairFailed T s e old new → PairFailed T sec e old new
    failed_here {T} s is e old new says = subst (λ (x : ℕ). PairFailed T x e old new) is says

    module _ (allowed : IsAllowed (p.see a) index) (floor : (p.see a).pair.index.sections.floor ≤ sec) {T : Type 0} (e : journal.Error) (old new : D) (says : PairFailed T sec e old new) where
      same_error : (x : journal.Error) → IsErrOf {T = T} (Err e) x → e ≡ x
      same_error x is = cc is

      raised_as : (x : journal.Error) (y : Error) → raised x ≡ y → IsErrOf {T = T} (Err e) x → IsErrOf {T = A} (Err (raised e)) y
      raised_as x y up is = (let err : Error → Result A Error = λ z. Err z in ap err (ap raised (same_error x is) ∙ up))

      not_pruned : IsPruned {T = T} (Err e) (p.see a).pair.index.sections.floor → ⊥
      not_pruned pruned = omega (arith, (says.guard.0 pruned).1, floor)

      cause_as : (x : journal.Error) → IsErrOf {T = T} (Err e) x → IsPutCause (p.see a) index skip size dev.Tells (dev.faults old) (dev.faults new) (raised x)
          → IsPutCause (p.see a) index skip size dev.Tells (dev.faults old) (dev.faults new) (raised e)
      cause_as x is cause = subst (λ (y : journal.Error). IsPutCause (p.see a) index skip size dev.Tells (dev.faults old) (dev.faults new) (raised y)) (sym (same_error x is)) cause

      fits : IsErrOf {T = T} (Err e) section.Full → size ≤ 2 ^ 32 - 1
      fits full = elim (cases_lt (2 ^ 32 - 1) size) [
        | inl lt ↦ absurd (two_errors {T = T} section.Full section.ValueTooLarge (Err e) (λ same. cc same) full (says.too_large.1 lt))
        | inr le ↦ le
      ]

      put_cause : IsPutCause (p.see a) index skip size dev.Tells (dev.faults old) (dev.faults new) (raised e)
      put_cause = elim says.cause [
        | inl large ↦ cause_as section.ValueTooLarge large (record { free = free; allowed = allowed; large = says.too_large.0 large })
        | inr (inl pruned) ↦ absurd (not_pruned pruned)
        | inr (inr (inl full)) ↦ cause_as section.Full full (record { free = free; full = inr (fits full, λ known. ((says.full known).0 full).2) })
        | inr (inr (inr (inl memory))) ↦ cause_as section.Mem memory tt
        | inr (inr (inr (inr fault))) ↦ cause_as (section.Runtime runtime.Fault) fault.0 fault.1
      ]

      pub put_pair_failed : PutMoments old new → PairTouches sec old new → Puts p dev times a index key value (Err (raised e)) old new
      put_pair_failed moments touches = failed (raised e) old new moments (touched_by old new touches) (below_by old new touches)
          (record {
            over_limit = λ _ none. absurd (none allowed);
            too_large = λ large. (let is = says.too_large.1 large.large in inl (raised_as section.ValueTooLarge (Journal section.ValueTooLarge) refl is, says.refused (inl is)));
            no_room = λ t full. elim full.full [
              | inl none ↦ absurd (none allowed)
              | inr passed ↦ (let is = (says.full (inl t)).1 (passed.0, omega (arith, floor), passed.1) in inl (raised_as section.Full Full refl is, says.refused (inr (inr (inl t, is)))))
            ];
          })
          (record {
            cause = put_cause;
            unwritten = λ why. elim why [
              | inl is ↦
                  let err : Error → Result A Error = λ z. Err z in
                  says.refused (inl (large_from {T = T} {U = A} e (Err e) (Err (raised e)) refl refl (p.see a).pair.index.sections.floor (dev.faults old) (dev.faults new) not_pruned says.cause (ap err is)))
              | inr (known, is) ↦
                  let err : Error → Result A Error = λ z. Err z in
                  says.refused (inr (inr (known, full_from {T = T} {U = A} e (Err e) (Err (raised e)) refl refl (p.see a).pair.index.sections.floor (dev.faults old) (dev.faults new) not_pruned says.cause (ap err is))))
            ];
          })

    -- ---- where the record was added

    pub put_added : (r : A) (old new : D) → IsAllowed (p.see a) index → PutMoments old new → PairTouches sec old new → size ≤ 2 ^ 32 - 1
        → (dev.Tells → IsSomeAnd ((p.see a).pair.index.sections.held sec) (λ u. 2 ^ 64 ≤ extent u.page_size (size_of (page_blob.shown u) + (filing_by p a).layout.record_size))
        ⊎ IsSomeAnd ((p.see a).pair.values.held sec) (λ v. 2 ^ 64 ≤ count_of v + size) → ⊥)
        → MayUse (meaning p) dev r new → filing_by p r ≡ filing_by p a → ((v : V) → p.Accepts a v → p.Accepts r v) → (dev.Tells → IsSoundOver (meaning p) dev a old → IsSoundOver (meaning p) dev r new)
        → (dev.Tells → IsSoundOver (meaning p) dev a old → state_over (meaning p) dev r new ≡ after_putting times (p.see a).items index key value (state_over (meaning p) dev a old))
        → (dev.Tells → IsSoundOver (meaning p) dev r new → Leaves (filing_by p r) (state_over (meaning p) dev r new) None (disk (dev.time new)))
        → PutDone p dev times a index key size r → Puts p dev times a index key value (Ok r) old new
    put_added r old new allowed moments touches few room over same accepts sound_now step rest done = record {
      changes = record {
        moments = moments;
        footprint = all_own small old new (touched_by old new touches);
        ends = record {
          over = over;
          alike = alike_as p a r same accepts;
          sound = sound_now;
          step = λ t sound. step_by times (p.see a).items index key value (state_over (meaning p) dev a old) (state_over (meaning p) dev r new) (step t sound);
          rest = λ t sound. rest t (sound_now t sound);
        };
      };
      footprint = touched_by old new touches;
      skipped = λ is. absurd (cc (is, free));
      below = below_by old new touches;
      refuses = record {
        over_limit = λ _ none. absurd (none allowed);
        too_large = λ large. absurd (omega (arith, few, large.large));
        no_room = λ t full. elim full.full [
          | inl none ↦ absurd (none allowed)
          | inr passed ↦ absurd (room t passed.1)
        ];
      };
      ends = done;
    }
