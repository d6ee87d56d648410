-- How a cut of sections ends.
use Rattle.std.specs.Prelude.{Bool, ◌≡◌, ◌≢◌, ◌⊎◌, ℕ, ◌^◌, ◌-◌, ◌<◌, ◌≤◌, min, false, List, Option, Some, IsSome, IsSomeAnd, Result, Ok, Err, take}
use Rattle.std.specs.List.{Contains}
use Rattle.std.specs.Option.{unwrap_or}
use Rattle.std.proofs.Common.{inl, inr, refl, sym, ◌∙◌, ap, subst, arith}
use Rattle.blob_device.specs.declared.runtime.RError.{RError}
use Rattle.blob_device.specs.declared.runtime.RError.TheVariants.{Fault, InvalidChecksum, Mem as RMem}
use Rattle.blob_device.specs.Counts.{Rose}
use Rattle.blob_device.specs.Disk.{Key, Blob, Disk}
use Rattle.blob_device.specs.Timeline.{disk}
use Rattle.blob_device.specs.declared.device.Device as device
use Rattle.blob_device.specs.lemmas.Moments.{always_now, always_start, always_weaker}
use Rattle.sealed_pages.specs.Entries.{IsOpenAt}
use Rattle.section_manager.specs.declared.buffer.SectionBuffer as buffer
use Rattle.section_manager.specs.declared.journal.Error.{Error}
use Rattle.section_manager.specs.declared.journal.Error.TheVariants.{Runtime}
use Rattle.section_manager.specs.declared.manager.removing.Doomed.TheVariants.{After}
use Rattle.section_manager.specs.Entries.{OnlyOwnEntry, StartsNoRead}
use Rattle.section_manager.specs.Lasting.{IsLonger, Removing, Truncating}
use Rattle.section_manager.specs.Leaving.{AllMoments, Leaves}
use Rattle.section_manager.specs.managing.Cutting.{CutsBehind, CutsEach, CutsOne, MayBeCut}
use Rattle.section_manager.specs.managing.Removing.{RemovesAll}
use Rattle.section_manager.specs.managing.Settling.{IsAnyBelow}
use Rattle.section_manager.specs.Raised.{raised}
use Rattle.section_manager.specs.Refusing.{HasDamage, HasFailed, IsPruned}
use Rattle.section_manager.specs.Sections.{Sections, section_key, key_of, IsCut, IsKnown, IsOver, IsSame, SameBounds}
use Rattle.section_manager.specs.Setting.{Setting}
use Rattle.section_manager.specs.lemmas.Seen.{failed_again, failed_later, failed_unpruned}
use Rattle.section_manager.proofs.sections.CutLemmas.{raised_page, some_has}
use Rattle.section_manager.specs.lemmas.Keys.{keys_differ}
use Rattle.section_manager.proofs.sections.RemoveLemmas.{none_known, over_bounds, removing_start}
use Rattle.section_manager.proofs.sections.SyncLemmas.{key_is, moments_of, entries_of, over_replaced, same_moments, stands_before}
use Rattle.section_manager.proofs.sections.TruncateLemmas.{leave_unread, removing_truncating, some_so, target_stays, truncating_moments}
use Rattle.blob_device.proofs.general.Options.{has_value, some_same}
use Rattle.blob_device.proofs.general.Results.{if_ok_weaker, ok_with, on_err}
use Rattle.section_manager.specs.lemmas.sections.Cut.{CutCall, CutMade, CutTried, CutWalked, cut_moves, cut_new, cut_same, cut_tried_start, cutting_of, leaves_few, longer_none, not_below}
use Rattle.section_manager.specs.lemmas.sections.Remove.{gone_then, same_then}
use Rattle.section_manager.specs.lemmas.sections.Sync.{BufferLaws}
use Rattle.section_manager.specs.lemmas.sections.Truncate.{unread_then}

-- what a failed cut says of its cause
pub cut_unpruned : {T U : Type 0} (e : Error) (floor before now : ℕ) → HasDamage {T = T} (Err e) ⊎ HasFailed {T = T} (Err e) before now → IsPruned {T = U} (Err e) floor → ⊥
cut_unpruned {T = T} {U = U} e floor before now cause pruned = elim cause [
  | inl damage ↦ (let same : e ≡ Runtime (InvalidChecksum damage.0) = cc damage.1 in absurd (cc (same, pruned)))
  | inr failed ↦ failed_unpruned {T = U} e floor before now (failed_again {T = T} {U = U} e before now failed) pruned
]

module _ {F B D : Type 0} (g : buffer.Ghosts B) (gives : F → Setting) (dev : device.Ghosts D) (laws : BufferLaws g) (m : Sections F B) (old : D)
    (over : IsOver g gives dev.Tells m (dev.opened old) (disk (dev.time old))) where
  few_left : (s n : ℕ) → dev.Tells → (u : B) → m.held s ≡ Some u → Leaves (g.NoChanceSeal u) (g.MayKeep u (disk (dev.time old) (key_of m s)) (min (g.settled u) n)) (disk (dev.time old) (key_of m s))
  few_left s n t u held = leaves_few {F = F} g gives dev.Tells laws u (disk (dev.time old) (key_of m s)) (min (g.settled u) n) (omega arith) ((over.disk t).stands s u held)

  -- ---- of one section

  module _ (s n : ℕ) where
    no_moments : dev.Tells → AllMoments (key_of m s) (λ x. (u : B) → m.held s ≡ Some u → Leaves (g.NoChanceSeal u) (g.MayKeep u (disk (dev.time old) (key_of m s)) (min (g.settled u) n)) x) (dev.time old) (dev.time old)
    no_moments = same_moments g gives dev.Tells m (dev.opened old) s (dev.time old) (λ u. min (g.settled u) n) over (λ u x stands. leaves_few {F = F} g gives dev.Tells laws u x (min (g.settled u) n) (omega arith) stands)

    -- it is below the floor
    pub cut_refused : (IsBelow : Type 0) (r : Result (Sections F B) Error) (e : Error) → r ≡ Err e → IsPruned {T = Sections F B} (Err e) m.floor → IsBelow → CutsOne g gives dev m s n IsBelow old old r
    cut_refused IsBelow r e is pruned below = subst (CutsOne g gives dev m s n IsBelow old old) (sym is) (record {
      over = tt;
      cut = tt;
      absent = tt;
      unopened = tt;
      others = tt;
      bounds = tt;
      moments = no_moments;
      idle = λ short. refl;
      entries = λ q other. refl;
      reads = λ none q. omega arith;
      guard = (λ yes. below, λ yes. pruned);
      refuses = λ yes. refl;
      faults = omega arith;
      damage = λ t damage. absurd (cc (pruned, damage.1));
      damage_unread = λ none damage. absurd (cc (pruned, damage.1));
      cause = inl pruned;
    })

    -- it is no longer, or not held
    pub cut_idle : (IsLonger g m s n → ⊥) → CutsOne g gives dev m s n ⊥ old old (Ok m)
    cut_idle short = record {
      over = over;
      cut = λ u held.
          let x = disk (dev.time old) (key_of m s) in
          has_value (m.held s) (λ v. IsCut g dev.Tells n u v x x) u held
          (cut_same g gives dev.Tells laws n u x (λ t. (over.disk t).stands s u held) (not_below n (g.byte_count u) (λ lt. short (has_value (m.held s) (λ w. n < g.byte_count w) u held lt))));
      absent = λ none. none;
      unopened = refl;
      others = λ q other. record { held = refl; unopened = refl };
      bounds = record { place = record { partition = refl; factory = refl }; floor = refl; ceiling = refl };
      moments = no_moments;
      idle = λ not. refl;
      entries = λ q other. refl;
      reads = λ none q. omega arith;
      guard = (λ pruned. absurd (cc pruned), λ none. absurd none);
      refuses = λ none. absurd none;
      faults = omega arith;
      damage = λ t damage. absurd (cc damage.1);
      damage_unread = λ none damage. absurd (cc damage.1);
      cause = tt;
    }

    -- its buffer was called
    module _ (u : B) (was : m.held s ≡ Some u) (longer : n < g.byte_count u) (new : D)
        (moments : dev.Tells → g.Stands u (disk (dev.time old) (g.key u))
        → AllMoments (g.key u) (Leaves (g.NoChanceSeal u) (g.MayKeep u (disk (dev.time old) (g.key u)) (min (g.settled u) n))) (dev.time old) (dev.time new))
        (entries : OnlyOwnEntry (g.key u) (dev.opened old) (dev.opened new)) (reads : (g.StartsReads → ⊥) → StartsNoRead (dev.opened old) (dev.opened new)) (faults : dev.faults old ≤ dev.faults new) where
      not_idle : (IsLonger g m s n → ⊥) → ⊥
      not_idle short = short (has_value (m.held s) (λ w. n < g.byte_count w) u was longer)

      called_moments : dev.Tells → AllMoments (key_of m s) (λ x. (w : B) → m.held s ≡ Some w → Leaves (g.NoChanceSeal w) (g.MayKeep w (disk (dev.time old) (key_of m s)) (min (g.settled w) n)) x) (dev.time old) (dev.time new)
      called_moments = moments_of g gives dev.Tells m (dev.opened old) s u was (dev.time old) (dev.time new) (λ w. min (g.settled w) n) over moments

      pub cut_failed : (r : Result (Sections F B) Error) (e : Error) → r ≡ Err e → (dev.Tells → HasDamage {T = Sections F B} (Err e) → ⊥) → ((g.StartsReads → ⊥) → HasDamage {T = Sections F B} (Err e) → ⊥)
          → HasDamage {T = Sections F B} (Err e) ⊎ HasFailed {T = Sections F B} (Err e) (dev.faults old) (dev.faults new) → CutsOne g gives dev m s n ⊥ old new r
      cut_failed r e is whole unread cause = subst (CutsOne g gives dev m s n ⊥ old new) (sym is) (record {
        over = tt;
        cut = tt;
        absent = tt;
        unopened = tt;
        others = tt;
        bounds = tt;
        moments = called_moments;
        idle = λ short. absurd (not_idle short);
        entries = entries_of g gives dev.Tells m (dev.opened old) s u was (dev.time old) (dev.time new) g.settled over (dev.opened new) entries;
        reads = reads;
        guard = (λ pruned. cut_unpruned {T = Sections F B} {U = Sections F B} e m.floor (dev.faults old) (dev.faults new) cause pruned, λ none. absurd none);
        refuses = λ none. absurd none;
        faults = faults;
        damage = whole;
        damage_unread = unread;
        cause = inr cause;
      })

      -- by what the buffer's call answered
      pub cut_failed_by : {S : Type 0} (x : Result S RError) (e : RError) → x ≡ Err e → (r : Result (Sections F B) Error) → r ≡ Err (raised e)
          → (dev.Tells → g.Stands u (disk (dev.time old) (g.key u)) → (page : ℕ) → x ≢ Err (InvalidChecksum page)) → ((g.StartsReads → ⊥) → (page : ℕ) → x ≢ Err (InvalidChecksum page))
          → ((page : ℕ) × (x ≡ Err (InvalidChecksum page))) ⊎ ((x ≡ Err RMem) ⊎ ((x ≡ Err Fault) × Rose (dev.faults old) (dev.faults new))) → CutsOne g gives dev m s n ⊥ old new r
      cut_failed_by {S = S} x e was_err r is whole unread cause =
          let page_of : (damage : HasDamage {T = Sections F B} (Err (raised e))) → x ≡ Err (InvalidChecksum damage.0) = λ damage.
          let same : raised e ≡ Runtime (InvalidChecksum damage.0) = cc damage.1 in
          let refused : RError → Result S RError = λ y. Err y in
          was_err ∙ ap refused (raised_page e damage.0 same) in
          cut_failed r (raised e) is (λ t damage. whole t (stands_before g gives dev.Tells m (dev.opened old) s u was (dev.time old) (dev.time old) g.settled over t) damage.0 (page_of damage))
          (λ none damage. unread none damage.0 (page_of damage)) (elim cause [
            | inl damage ↦ (let same : e ≡ InvalidChecksum damage.0 = cc (was_err, damage.1) in inl (damage.0, ap Err (ap raised same)))
            | inr failed ↦ elim failed [
              | inl memory ↦ (let same : e ≡ RMem = cc (was_err, memory) in inr (inl (ap Err (ap raised same))))
              | inr fault ↦ (let same : e ≡ Fault = cc (was_err, fault.0) in inr (inr (ap Err (ap raised same), fault.1)))
            ]
          ])

      -- what it answers where it succeeds
      pub record CutBy (v : B) : Type 0 where
        pub stands : dev.Tells → g.Stands u (disk (dev.time old) (g.key u)) → g.Stands v (disk (dev.time new) (g.key u))
        pub bytes : dev.Tells → g.Stands u (disk (dev.time old) (g.key u)) → g.bytes v (disk (dev.time new) (g.key u)).content ≡ take n (g.bytes u (disk (dev.time old) (g.key u)).content)
        pub whole : dev.Tells → g.Stands u (disk (dev.time old) (g.key u)) → g.IsWhole u (disk (dev.time old) (g.key u)) → g.IsWhole v (disk (dev.time new) (g.key u))
        pub mended : dev.Tells → g.Stands u (disk (dev.time old) (g.key u)) → n < g.byte_count u → g.IsWhole v (disk (dev.time new) (g.key u))
        pub size : g.byte_count v ≡ min (g.byte_count u) n
        pub done : n < g.byte_count u → g.unsettled v ≡ false
        pub key : g.key v ≡ g.key u
        pub setting : g.setting v ≡ g.setting u
        pub is_open : IsOpenAt (dev.opened new) (g.key u) (g.extent v)

      pub cut_done : (v : B) (r : Sections F B) → CutBy v → r.held s ≡ Some v → r.unopened s ≡ m.unopened s → ((q : ℕ) → q ≢ s → IsSame m r q) → SameBounds m r
          → CutsOne g gives dev m s n ⊥ old new (Ok r)
      cut_done v r call here unopened others bounds =
          let t0 = dev.time old in
          let t1 = dev.time new in
          record {
            over = over_replaced g gives dev.Tells m (dev.opened old) s u was r v (dev.opened new) t0 t1 (Leaves (g.NoChanceSeal u) (g.MayKeep u (disk t0 (g.key u)) (min (g.settled u) n))) over (record {
              now = here;
              unopened = unopened;
              others = others;
              bounds = bounds;
              key = call.key;
              setting = call.setting;
              is_open = call.is_open;
              entries = entries;
              stands = call.stands;
              moments = moments;
            });
            cut = λ w held.
                subst (λ (y : B). IsSomeAnd (r.held s) (λ z. IsCut g dev.Tells n y z (disk t0 (key_of m s)) (disk t1 (key_of m s)))) (some_same u w (sym was ∙ held))
                (has_value (r.held s) (λ z. IsCut g dev.Tells n u z (disk t0 (key_of m s)) (disk t1 (key_of m s))) v here
                (subst (λ (k : Key). IsCut g dev.Tells n u v (disk t0 k) (disk t1 k)) (key_is g gives dev.Tells m (dev.opened old) s u was t0 t1 g.settled over)
                (cut_new g gives dev.Tells laws n u v (disk t0 (g.key u)) (disk t1 (g.key u)) (record {
                  acts = longer;
                  stood = stands_before g gives dev.Tells m (dev.opened old) s u was t0 t1 g.settled over;
                  stands = call.stands;
                  bytes = call.bytes;
                  whole = call.whole;
                  mended = call.mended;
                  size = call.size;
                  done = call.done;
                }))));
            absent = λ none. absurd (cc (none, was));
            unopened = unopened;
            others = others;
            bounds = bounds;
            moments = called_moments;
            idle = λ short. absurd (not_idle short);
            entries = entries_of g gives dev.Tells m (dev.opened old) s u was t0 t1 g.settled over (dev.opened new) entries;
            reads = reads;
            guard = (λ pruned. absurd (cc pruned), λ none. absurd none);
            refuses = λ none. absurd none;
            faults = faults;
            damage = λ t damage. absurd (cc damage.1);
            damage_unread = λ none damage. absurd (cc damage.1);
            cause = tt;
          }

  -- ---- of each that has a size

  module _ (size_of : ℕ → Option ℕ) where
    pub each_refused : (r : Result (Sections F B) Error) (e : Error) → r ≡ Err e → IsPruned {T = Sections F B} (Err e) m.floor → IsAnyBelow (λ s. IsSome (size_of s)) m.floor → CutsEach g gives dev m size_of old old r
    each_refused r e is pruned below = subst (CutsEach g gives dev m size_of old old) (sym is) (record {
      over = tt;
      cut = tt;
      absent = tt;
      others = tt;
      unopened = tt;
      bounds = tt;
      moments = cutting_of g gives dev.Tells size_of dev.time dev.opened dev.faults m old old (cut_tried_start g gives dev.Tells dev.time dev.opened dev.faults size_of laws m old over);
      idle = λ short. refl;
      entries = λ q other. refl;
      reads = λ none q. omega arith;
      guard = (λ yes. below, λ yes. pruned);
      refuses = λ yes. refl;
      faults = omega arith;
      damage = λ t damage. absurd (cc (pruned, damage.1));
      damage_unread = λ none damage. absurd (cc (pruned, damage.1));
      cause = inl pruned;
    })

    module _ (above : IsAnyBelow (λ s. IsSome (size_of s)) m.floor → ⊥) (now : D) (tried : CutTried g gives dev.Tells dev.time dev.opened dev.faults size_of m old now) where
      idle_by : ((s : ℕ) → IsSomeAnd (size_of s) (IsLonger g m s) → ⊥) → now ≡ old
      idle_by short = tried.idle (λ q u named held acts. short q (some_has (size_of q) (IsLonger g m q) named (has_value (m.held q) (λ w. unwrap_or (size_of q) 0 < g.byte_count w) u held acts)))

      -- the cut of one of them failed, over the sections as they were then
      pub each_failed : (then : Sections F B) (s n : ℕ) (first : D) (r : Result (Sections F B) Error) (e : Error) → r ≡ Err e → dev.faults old ≤ dev.faults first → CutsOne g gives dev then s n ⊥ first now (Err e)
          → CutsEach g gives dev m size_of old now r
      each_failed then s n first r e is le one =
          let cause : HasDamage {T = Sections F B} (Err e) ⊎ HasFailed {T = Sections F B} (Err e) (dev.faults old) (dev.faults now) = elim one.cause [
            | inl pruned ↦ absurd (one.guard.0 pruned)
            | inr other ↦ elim other [
              | inl damage ↦ inl damage
              | inr failed ↦ inr (failed_later {T = Sections F B} {U = Sections F B} e (dev.faults old) (dev.faults first) (dev.faults now) le failed)
            ]
          ] in
          subst (CutsEach g gives dev m size_of old now) (sym is) (record {
            over = tt;
            cut = tt;
            absent = tt;
            others = tt;
            unopened = tt;
            bounds = tt;
            moments = cutting_of g gives dev.Tells size_of dev.time dev.opened dev.faults m old now tried;
            idle = idle_by;
            entries = λ q none. tried.entries q (longer_none {F = F} g gives dev.Tells size_of m q none);
            reads = tried.reads;
            guard = (λ pruned. absurd (cut_unpruned {T = Sections F B} {U = Sections F B} e m.floor (dev.faults old) (dev.faults now) cause pruned), λ below. absurd (above below));
            refuses = λ below. absurd (above below);
            faults = tried.faults;
            damage = one.damage;
            damage_unread = one.damage_unread;
            cause = inr cause;
          })

      -- all were called
      pub each_cut : (r : Sections F B) → CutWalked g gives dev.Tells dev.time dev.opened dev.faults size_of (λ s. IsSome (size_of s)) m r old now → CutsEach g gives dev m size_of old now (Ok r)
      each_cut r walked = record {
        over = walked.over;
        cut = λ s n u size held. subst (λ (k : ℕ). IsSomeAnd (r.held s) (λ v. IsCut g dev.Tells k u v (disk (dev.time old) (key_of m s)) (disk (dev.time now) (key_of m s)))) (ap (λ (o : Option ℕ). unwrap_or o 0) size)
            (walked.did s u (subst IsSome (sym size) refl) held);
        absent = walked.absent;
        others = λ s none. walked.others s (λ some. absurd (cc (subst IsSome none some)));
        unopened = walked.unopened;
        bounds = walked.bounds;
        moments = cutting_of g gives dev.Tells size_of dev.time dev.opened dev.faults m old now tried;
        idle = idle_by;
        entries = λ q none. tried.entries q (longer_none {F = F} g gives dev.Tells size_of m q none);
        reads = tried.reads;
        guard = (λ pruned. absurd (cc pruned), λ below. absurd (above below));
        refuses = λ below. absurd (above below);
        faults = tried.faults;
        damage = λ t damage. absurd (cc damage.1);
        damage_unread = λ none damage. absurd (cc damage.1);
        cause = tt;
      }

  -- ---- of one, once the later ones are removed

  module _ (s n : ℕ) (small : s < 2 ^ 64) where
    truncating_now : dev.Tells → (d : Disk) → Removing m (λ q. IsKnown m q × (s < q)) (λ q p. p < q) (disk (dev.time old)) d → Truncating g m s n (disk (dev.time old)) d
    truncating_now t = removing_truncating g m s n (disk (dev.time old)) small over.opened_list.number (few_left s n t)

    pub behind_refused : (r : Result (Sections F B) Error) (e : Error) → r ≡ Err e → IsPruned {T = Sections F B} (Err e) m.floor → s < m.floor → CutsBehind g gives dev m s n old old r
    behind_refused r e is pruned below = subst (CutsBehind g gives dev m s n old old) (sym is) (record {
      over = tt;
      later = tt;
      earlier = tt;
      cut = tt;
      absent = tt;
      unopened = tt;
      place = tt;
      floor = tt;
      lifted = tt;
      moments = λ t. always_start (dev.time old) (Truncating g m s n (disk (dev.time old))) (truncating_now t (disk (dev.time old)) (removing_start m (λ q. IsKnown m q × (s < q)) (λ q p. p < q) (disk (dev.time old))));
      gone = λ t. tt;
      idle = λ none short. refl;
      entries = λ q other. inl refl;
      reads = λ none q. omega arith;
      guard = (λ yes. below, λ yes. pruned);
      refuses = λ yes. refl;
      faults = omega arith;
      damage = λ t damage. absurd (cc (pruned, damage.1));
      damage_unread = λ none damage. absurd (cc (pruned, damage.1));
      cause = inl pruned;
    })

    module _ (from : m.floor ≤ s) (mid : D) where
      -- their removal failed
      pub behind_failed : (r : Result (Sections F B) Error) (e : Error) → r ≡ Err e → RemovesAll g gives dev m (After s) old mid (Err e) → CutsBehind g gives dev m s n old mid r
      behind_failed r e is all =
          let failed : HasFailed {T = Sections F B} (Err e) (dev.faults old) (dev.faults mid) = failed_again e (dev.faults old) (dev.faults mid) all.cause in
          subst (CutsBehind g gives dev m s n old mid) (sym is) (record {
            over = tt;
            later = tt;
            earlier = tt;
            cut = tt;
            absent = tt;
            unopened = tt;
            place = tt;
            floor = tt;
            lifted = tt;
            moments = λ t. always_weaker (dev.time old) (dev.time mid) (Removing m (λ q. IsKnown m q × (s < q)) (λ q p. p < q) (disk (dev.time old))) (Truncating g m s n (disk (dev.time old))) (truncating_now t) (all.moments t);
            gone = λ t. tt;
            idle = λ none short. all.idle (λ q is_doomed. omega (arith, is_doomed.1, none q is_doomed.0));
            entries = λ q other. all.entries q;
            reads = λ none. leave_unread _ (dev.opened old) (dev.opened mid) all.entries;
            guard = (λ pruned. absurd (failed_unpruned {T = Sections F B} e m.floor (dev.faults old) (dev.faults mid) failed pruned), λ below. absurd (omega (arith, below, from)));
            refuses = λ below. absurd (omega (arith, below, from));
            faults = all.faults;
            damage = λ t damage. no_damage failed damage;
            damage_unread = λ none damage. no_damage failed damage;
            cause = inr (inr failed);
          })
        where
          no_damage : HasFailed {T = Sections F B} (Err e) (dev.faults old) (dev.faults mid) → HasDamage {T = Sections F B} (Err e) → ⊥
          no_damage failed damage = elim failed [
            | inl memory ↦ absurd (cc (memory, damage.1))
            | inr fault ↦ absurd (cc (fault.0, damage.1))
          ]

      module _ (o : Sections F B) (flag : Bool) (all : RemovesAll g gives dev m (After s) old mid (Ok (o, flag))) where
        abbrev pub lifted : Sections F B
        lifted = record o { ceiling = 2 ^ 64 - 1 }

        stays : dev.Tells → disk (dev.time mid) (key_of m s) ≡ disk (dev.time old) (key_of m s)
        stays t = target_stays g m s n (disk (dev.time old)) small over.opened_list.number (disk (dev.time mid)) (always_now (dev.time old) (dev.time mid) _ (all.moments t))

        same : IsSame m o s
        same = all.kept s (λ is. omega (arith, is.1))

        key : key_of o s ≡ key_of m s
        key = ap (λ (p : List ℕ). section_key p s) all.bounds.place.partition

        -- the section may be used, and cut, still
        pub lifted_over : IsOver g gives dev.Tells lifted (dev.opened mid) (disk (dev.time mid))
        lifted_over = over_bounds g gives o (dev.opened mid) (disk (dev.time mid)) o.floor (2 ^ 64 - 1) all.over all.over.opened_list.from_floor (λ q held. omega (arith, all.over.opened_list.number q (inl held)))

        pub lifted_can : (dev.Tells → MayBeCut g m s n (disk (dev.time old))) → dev.Tells → MayBeCut g lifted s n (disk (dev.time mid))
        lifted_can can t u held lt = subst (λ (x : Blob). g.CanCut u x n) (sym (ap (disk (dev.time mid)) key ∙ stays t)) (can t u (sym same.held ∙ held) lt)

        module _ (new : D) (r : Result (Sections F B) Error) (one : CutsOne g gives dev lifted s n ⊥ mid new r) where
          pub behind_cut : CutsBehind g gives dev m s n old new r
          behind_cut = record {
            over = one.over;
            later = if_ok_weaker r one.others (λ v others q lt.
                let gone = none_known m o (After s) all.removed all.kept q (λ known. (known, lt)) in
                gone_then lifted v q (record { held = gone.held; unopened = gone.unopened }) (others q (λ is. absurd (omega (arith, is, lt)))));
            earlier = if_ok_weaker r one.others (λ v others q lt.
                let kept = all.kept q (λ is. omega (arith, is.1, lt)) in
                same_then m lifted v q (record { held = kept.held; unopened = kept.unopened }) (others q (λ is. absurd (omega (arith, is, lt)))));
            cut = if_ok_weaker r one.cut (λ v cut u held. some_so (v.held s) (cut u (same.held ∙ held)) (λ w is. cut_moves {F = F} g gives dev.Tells n u w
                (disk (dev.time mid) (key_of o s)) (disk (dev.time new) (key_of o s)) (disk (dev.time old) (key_of m s)) (disk (dev.time new) (key_of m s))
                (λ t. sym (ap (disk (dev.time mid)) key ∙ stays t)) (λ t. sym (ap (disk (dev.time new)) key)) is));
            absent = if_ok_weaker r one.absent (λ v absent none. absent (same.held ∙ none));
            unopened = if_ok_weaker r one.unopened (λ v is. is ∙ same.unopened);
            place = if_ok_weaker r one.bounds (λ v is. record { partition = is.place.partition ∙ all.bounds.place.partition; factory = is.place.factory ∙ all.bounds.place.factory });
            floor = if_ok_weaker r one.bounds (λ v is. is.floor ∙ all.bounds.floor);
            lifted = if_ok_weaker r one.bounds (λ v is. is.ceiling);
            moments = λ t. truncating_moments g m lifted s n (dev.time old) (dev.time mid) (dev.time new) small over.opened_list.number (few_left s n t)
                (all.moments t) (λ q known lt. all.gone t q (known, lt)) all.bounds.place.partition same.held (one.moments t) (λ not. ap dev.time (one.idle not));
            gone = λ t. ok_with r (λ q known lt.
                (always_now (dev.time mid) (dev.time new) _ (one.moments t)).others (key_of m q)
                (λ is. keys_differ m.partition q s (over.opened_list.number q known) small (λ e. absurd (omega (arith, e, lt))) (is ∙ key)) ∙ all.gone t q (known, lt));
            idle = λ none not. one.idle (λ longer. not (subst (λ (h : Option B). IsSomeAnd h (λ u. n < g.byte_count u)) same.held longer)) ∙ all.idle (λ q is. omega (arith, is.1, none q is.0));
            entries = λ q other.
                let own = one.entries q (λ is. other (is ∙ key)) in
                elim (all.entries q) [
                  | inl before ↦ inl (own ∙ before)
                  | inr gone ↦ inr (gone.0, own ∙ gone.1)
                ];
            reads = λ none. unread_then (dev.opened old) (dev.opened mid) (dev.opened new) (leave_unread _ (dev.opened old) (dev.opened mid) all.entries) (one.reads none);
            guard = (λ pruned. absurd (one.guard.0 (subst (IsPruned r) (sym all.bounds.floor) pruned)), λ below. absurd (omega (arith, below, from)));
            refuses = λ below. absurd (omega (arith, below, from));
            faults = omega (arith, all.faults, one.faults);
            damage = one.damage;
            damage_unread = one.damage_unread;
            cause = on_err r (λ cause. elim cause [
              | inl pruned ↦ absurd (one.guard.0 pruned)
              | inr other ↦ elim other [
                | inl damage ↦ inr (inl damage)
                | inr failed ↦ elim failed [
                  | inl memory ↦ inr (inr (inl memory))
                  | inr fault ↦ inr (inr (inr (fault.0, omega (arith, fault.1, all.faults))))
                ]
              ]
            ]) one.cause;
          }

-- what is said of one call of a walk, and of one that a floor would refuse
module _ {F B D : Type 0} (g : buffer.Ghosts B) (gives : F → Setting) (dev : device.Ghosts D) (m : Sections F B) (s n : ℕ) (old new : D) where
  pub cut_call : (r : Result (Sections F B) Error) → CutsOne g gives dev m s n ⊥ old new r → CutCall g gives dev.Tells dev.time dev.opened dev.faults n s m old new
  cut_call r one = record { moments = one.moments; idle = one.idle; entries = one.entries; reads = one.reads; faults = one.faults }

  pub cut_made : (v : Sections F B) → CutsOne g gives dev m s n ⊥ old new (Ok v) → CutMade g gives dev.Tells dev.time dev.opened n s m v old new
  cut_made v one = record { over = one.over; cut = one.cut; absent = one.absent; unopened = one.unopened; others = one.others; bounds = one.bounds }

  pub cut_above : (IsBelow : Type 0) (r : Result (Sections F B) Error) → (IsBelow → ⊥) → CutsOne g gives dev m s n ⊥ old new r → CutsOne g gives dev m s n IsBelow old new r
  cut_above IsBelow r none one = record {
    over = one.over;
    cut = one.cut;
    absent = one.absent;
    unopened = one.unopened;
    others = one.others;
    bounds = one.bounds;
    moments = one.moments;
    idle = one.idle;
    entries = one.entries;
    reads = one.reads;
    guard = (λ pruned. absurd (one.guard.0 pruned), λ below. absurd (none below));
    refuses = λ below. absurd (none below);
    faults = one.faults;
    damage = one.damage;
    damage_unread = one.damage_unread;
    cause = one.cause;
  }

-- the sections of a list, which are those that have a size
module _ {F B D : Type 0} (g : buffer.Ghosts B) (gives : F → Setting) (dev : device.Ghosts D) (size_of : ℕ → Option ℕ) (m r : Sections F B) (old new : D) (ks : List ℕ)
    (listed : (s : ℕ) → IsSome (size_of s) → Contains ks s) (named : (s : ℕ) → Contains ks s → IsSome (size_of s)) where
  pub walked_named : CutWalked g gives dev.Tells dev.time dev.opened dev.faults size_of (Contains ks) m r old new → CutWalked g gives dev.Tells dev.time dev.opened dev.faults size_of (λ s. IsSome (size_of s)) m r old new
  walked_named walked = record {
    over = walked.over;
    did = λ s u some held. walked.did s u (listed s some) held;
    absent = walked.absent;
    others = λ s not. walked.others s (λ done. not (named s done));
    blobs = λ t q not. walked.blobs t q (λ k. not (k.0, (named k.0 k.1.0, k.1.1), k.2));
    unopened = walked.unopened;
    bounds = walked.bounds;
  }
