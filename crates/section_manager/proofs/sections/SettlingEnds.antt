-- How a sync of sections ends.
use Rattle.std.specs.Prelude.{⊤, ◌≡◌, ◌≢◌, ◌⊎◌, ℕ, ◌≤◌, true, false, Some, IsSomeAnd, Result, Ok, Err}
use Rattle.std.proofs.Common.{inr, refl, sym, ◌∙◌, subst, arith}
use Rattle.std.proofs.lemmas.Bool.{false_from_ne_true, both_ways}
use Rattle.blob_device.specs.Disk.{Key}
use Rattle.blob_device.specs.Timeline.{disk}
use Rattle.blob_device.specs.declared.device.Device as device
use Rattle.sealed_pages.specs.Entries.{IsOpenAt}
use Rattle.section_manager.specs.declared.buffer.SectionBuffer as buffer
use Rattle.section_manager.specs.declared.journal.Error.{Error}
use Rattle.section_manager.specs.Entries.{OnlyOwnEntry, StartsNoRead}
use Rattle.section_manager.specs.Lasting.{IsUnsettled}
use Rattle.section_manager.specs.Leaving.{AllMoments, Leaves}
use Rattle.section_manager.specs.managing.Settling.{Settles, SettlesOne}
use Rattle.section_manager.specs.Refusing.{HasFailed, IsPruned}
use Rattle.section_manager.specs.Sections.{Sections, key_of, IsOver, IsSame, IsSynced, SameBounds}
use Rattle.section_manager.specs.Setting.{Setting}
use Rattle.section_manager.specs.lemmas.Seen.{failed_later, failed_unpruned}
use Rattle.section_manager.proofs.sections.SyncLemmas.{key_is, moments_of, entries_of, over_replaced, same_moments, stands_before, sync_tried_start, synced_new, synced_same, syncing_all, syncing_of, SyncMakes, SyncTried, SyncTries, SyncWalked}
use Rattle.blob_device.proofs.general.Options.{has_value, some_same}
use Rattle.blob_device.proofs.general.Results.{if_ok_weaker}
use Rattle.section_manager.specs.lemmas.sections.Sync.{BufferLaws}

module _ {F B D : Type 0} (g : buffer.Ghosts B) (gives : F → Setting) (dev : device.Ghosts D) (laws : BufferLaws g) (m : Sections F B) (old : D)
    (over : IsOver g gives dev.Tells m (dev.opened old) (disk (dev.time old))) where
  -- ---- of one section

  module _ (s : ℕ) where
    -- it is settled, or not held
    pub one_idle : (IsUnsettled g m s → ⊥) → SettlesOne g gives dev m s old old (Ok m)
    one_idle settled = record {
      over = over;
      did = λ u held.
          let x = disk (dev.time old) (key_of m s) in
          has_value (m.held s) (λ v. IsSynced g dev.Tells u v x x) u held (synced_same g gives dev.Tells laws u x (λ t. (over.disk t).stands s u held)
          (false_from_ne_true (g.unsettled u) (λ acts. absurd (settled (has_value (m.held s) (λ w. g.unsettled w ≡ true) u held acts)))));
      absent = λ none. none;
      unopened = refl;
      others = λ q other. record { held = refl; unopened = refl };
      bounds = record { place = record { partition = refl; factory = refl }; floor = refl; ceiling = refl };
      moments = same_moments g gives dev.Tells m (dev.opened old) s (dev.time old) g.settled over laws.passes;
      idle = λ not. refl;
      entries = λ q other. refl;
      reads = λ none q. omega arith;
      faults = omega arith;
      cause = tt;
    }

    -- its buffer was called
    module _ (u : B) (was : m.held s ≡ Some u) (acts : g.unsettled u ≡ true) (new : D)
        (moments : dev.Tells → g.Stands u (disk (dev.time old) (g.key u)) → AllMoments (g.key u) (Leaves (g.NoChanceSeal u) (g.MayKeep u (disk (dev.time old) (g.key u)) (g.settled u))) (dev.time old) (dev.time new))
        (entries : OnlyOwnEntry (g.key u) (dev.opened old) (dev.opened new)) (reads : (g.StartsReads → ⊥) → StartsNoRead (dev.opened old) (dev.opened new)) (faults : dev.faults old ≤ dev.faults new) where
      not_idle : (IsUnsettled g m s → ⊥) → ⊥
      not_idle settled = settled (has_value (m.held s) (λ w. g.unsettled w ≡ true) u was acts)

      pub one_failed : (r : Result (Sections F B) Error) (e : Error) → r ≡ Err e → HasFailed {T = Sections F B} (Err e) (dev.faults old) (dev.faults new) → SettlesOne g gives dev m s old new r
      one_failed r e is failed = subst (SettlesOne g gives dev m s old new) (sym is) (record {
        over = tt;
        did = tt;
        absent = tt;
        unopened = tt;
        others = tt;
        bounds = tt;
        moments = moments_of g gives dev.Tells m (dev.opened old) s u was (dev.time old) (dev.time new) g.settled over moments;
        idle = λ settled. absurd (not_idle settled);
        entries = entries_of g gives dev.Tells m (dev.opened old) s u was (dev.time old) (dev.time new) g.settled over (dev.opened new) entries;
        reads = reads;
        faults = faults;
        cause = failed;
      })

      -- what it answers where it succeeds
      pub record Settled (v : B) : Type 0 where
        pub stands : dev.Tells → g.Stands u (disk (dev.time old) (g.key u)) → g.Stands v (disk (dev.time new) (g.key u))
        pub bytes : dev.Tells → g.Stands u (disk (dev.time old) (g.key u)) → g.bytes v (disk (dev.time new) (g.key u)).content ≡ g.bytes u (disk (dev.time old) (g.key u)).content
        pub whole : dev.Tells → g.Stands u (disk (dev.time old) (g.key u)) → g.IsWhole u (disk (dev.time old) (g.key u)) → g.IsWhole v (disk (dev.time new) (g.key u))
        pub size : g.byte_count v ≡ g.byte_count u
        pub done : g.unsettled v ≡ false
        pub key : g.key v ≡ g.key u
        pub setting : g.setting v ≡ g.setting u
        pub is_open : IsOpenAt (dev.opened new) (g.key u) (g.extent v)

      pub one_settled : (v : B) (n : Sections F B) → Settled v → n.held s ≡ Some v → n.unopened s ≡ m.unopened s → ((q : ℕ) → q ≢ s → IsSame m n q) → SameBounds m n
          → SettlesOne g gives dev m s old new (Ok n)
      one_settled v n call here unopened others bounds =
          let t0 = dev.time old in
          let t1 = dev.time new in
          record {
            over = over_replaced g gives dev.Tells m (dev.opened old) s u was n v (dev.opened new) t0 t1 (Leaves (g.NoChanceSeal u) (g.MayKeep u (disk t0 (g.key u)) (g.settled u))) over (record {
              now = here;
              unopened = unopened;
              others = others;
              bounds = bounds;
              key = call.key;
              setting = call.setting;
              is_open = call.is_open;
              entries = entries;
              stands = call.stands;
              moments = moments;
            });
            did = λ w held.
                subst (λ (y : B). IsSomeAnd (n.held s) (λ z. IsSynced g dev.Tells y z (disk t0 (key_of m s)) (disk t1 (key_of m s)))) (some_same u w (sym was ∙ held))
                (has_value (n.held s) (λ z. IsSynced g dev.Tells u z (disk t0 (key_of m s)) (disk t1 (key_of m s))) v here
                (subst (λ (k : Key). IsSynced g dev.Tells u v (disk t0 k) (disk t1 k)) (key_is g gives dev.Tells m (dev.opened old) s u was t0 t1 g.settled over)
                (synced_new g gives dev.Tells laws u v (disk t0 (g.key u)) (disk t1 (g.key u)) (record {
                  acts = acts;
                  stood = stands_before g gives dev.Tells m (dev.opened old) s u was t0 t1 g.settled over;
                  stands = call.stands;
                  bytes = call.bytes;
                  whole = call.whole;
                  size = call.size;
                  done = call.done;
                }))));
            absent = λ none. absurd (cc (none, was));
            unopened = unopened;
            others = others;
            bounds = bounds;
            moments = moments_of g gives dev.Tells m (dev.opened old) s u was t0 t1 g.settled over moments;
            idle = λ settled. absurd (not_idle settled);
            entries = entries_of g gives dev.Tells m (dev.opened old) s u was t0 t1 g.settled over (dev.opened new) entries;
            reads = reads;
            faults = faults;
            cause = tt;
          }

  -- ---- of those that are named

  module _ (IsNamed : ℕ → Type 0) where
    -- none was called, since it is refused or memory is short
    pub each_refused : (IsBelow : Type 0) (r : Result (Sections F B) Error) (e : Error) → r ≡ Err e → (IsPruned {T = Sections F B} (Err e) m.floor → IsBelow) → (IsBelow → IsPruned {T = Sections F B} (Err e) m.floor)
        → IsPruned {T = Sections F B} (Err e) m.floor ⊎ HasFailed {T = Sections F B} (Err e) (dev.faults old) (dev.faults old) → Settles g gives dev m IsNamed IsBelow old old r
    each_refused IsBelow r e is below pruned cause = subst (Settles g gives dev m IsNamed IsBelow old old) (sym is) (record {
      over = tt;
      named = tt;
      none = tt;
      others = tt;
      unopened = tt;
      bounds = tt;
      moments = syncing_of g gives dev.Tells dev.time dev.opened dev.faults m IsNamed old old (sync_tried_start g gives dev.Tells dev.time dev.opened dev.faults laws m IsNamed old over);
      idle = λ settled. refl;
      entries = λ q other. refl;
      reads = λ none q. omega arith;
      guard = (below, pruned);
      refuses = λ is_below. refl;
      faults = omega arith;
      cause = cause;
    })

    module _ (now : D) (tried : SyncTried g gives dev.Tells dev.time dev.opened dev.faults m IsNamed old now) where
      idle_by : ((s : ℕ) (u : B) → IsNamed s → m.held s ≡ Some u → g.unsettled u ≡ false) → now ≡ old
      idle_by settled = tried.idle (λ s u named held acts. both_ways (g.unsettled u) (settled s u named held) acts)

      -- the sync of one of them failed
      pub each_failed : (first : D) (r : Result (Sections F B) Error) (e : Error) → r ≡ Err e → dev.faults old ≤ dev.faults first → HasFailed {T = Sections F B} (Err e) (dev.faults first) (dev.faults now)
          → Settles g gives dev m IsNamed ⊥ old now r
      each_failed first r e is le failed =
          let since = failed_later {T = Sections F B} {U = Sections F B} e (dev.faults old) (dev.faults first) (dev.faults now) le failed in
          subst (Settles g gives dev m IsNamed ⊥ old now) (sym is) (record {
            over = tt;
            named = tt;
            none = tt;
            others = tt;
            unopened = tt;
            bounds = tt;
            moments = syncing_of g gives dev.Tells dev.time dev.opened dev.faults m IsNamed old now tried;
            idle = idle_by;
            entries = tried.entries;
            reads = tried.reads;
            guard = (λ pruned. failed_unpruned e m.floor (dev.faults old) (dev.faults now) since pruned, λ none. absurd none);
            refuses = λ none. absurd none;
            faults = tried.faults;
            cause = inr since;
          })

      -- all were called
      pub each_settled : (n : Sections F B) → SyncWalked g gives dev.Tells dev.time dev.opened dev.faults IsNamed m n old now → Settles g gives dev m IsNamed ⊥ old now (Ok n)
      each_settled n walked = record {
        over = walked.over;
        named = walked.did;
        none = walked.absent;
        others = walked.others;
        unopened = walked.unopened;
        bounds = walked.bounds;
        moments = syncing_of g gives dev.Tells dev.time dev.opened dev.faults m IsNamed old now tried;
        idle = idle_by;
        entries = tried.entries;
        reads = tried.reads;
        guard = (λ pruned. absurd (cc pruned), λ none. absurd none);
        refuses = λ none. absurd none;
        faults = tried.faults;
        cause = tt;
      }

-- what is said of one call of a walk
module _ {F B D : Type 0} (g : buffer.Ghosts B) (gives : F → Setting) (dev : device.Ghosts D) (m : Sections F B) (s : ℕ) (old new : D) (r : Result (Sections F B) Error) (one : SettlesOne g gives dev m s old new r) where
  pub one_tries : SyncTries g gives dev.Tells dev.time dev.opened dev.faults s m old new
  one_tries = record { moments = one.moments; idle = one.idle; entries = one.entries; reads = one.reads; faults = one.faults }

module _ {F B D : Type 0} (g : buffer.Ghosts B) (gives : F → Setting) (dev : device.Ghosts D) (m : Sections F B) (s : ℕ) (old new : D) (n : Sections F B) (one : SettlesOne g gives dev m s old new (Ok n)) where
  pub one_makes : SyncMakes g gives dev.Tells dev.time dev.opened dev.faults s m n old new
  one_makes = record { over = one.over; did = one.did; absent = one.absent; unopened = one.unopened; others = one.others; bounds = one.bounds }

-- the floor was looked at first
module _ {F B D : Type 0} (g : buffer.Ghosts B) (gives : F → Setting) (dev : device.Ghosts D) (m : Sections F B) (old new : D) where
  pub below_none : (IsNamed : ℕ → Type 0) (IsBelow : Type 0) (r : Result (Sections F B) Error) → (IsBelow → ⊥) → Settles g gives dev m IsNamed ⊥ old new r → Settles g gives dev m IsNamed IsBelow old new r
  below_none IsNamed IsBelow r none does = record {
    over = does.over;
    named = does.named;
    none = does.none;
    others = does.others;
    unopened = does.unopened;
    bounds = does.bounds;
    moments = does.moments;
    idle = does.idle;
    entries = does.entries;
    reads = does.reads;
    guard = (λ pruned. absurd (does.guard.0 pruned), λ below. absurd (none below));
    refuses = λ below. absurd (none below);
    faults = does.faults;
    cause = does.cause;
  }

  -- where all that is held is named, it need not be
  pub settles_all : (IsNamed : ℕ → Type 0) (r : Result (Sections F B) Error) → ((s : ℕ) (u : B) → m.held s ≡ Some u → IsNamed s)
      → Settles g gives dev m IsNamed ⊥ old new r → Settles g gives dev m (λ s. ⊤) ⊥ old new r
  settles_all IsNamed r names does = record {
    over = does.over;
    named = if_ok_weaker r does.named (λ n has s u all held. has s u (names s u held) held);
    none = does.none;
    others = if_ok_weaker r does.none (λ n none s not. absurd (not tt));
    unopened = does.unopened;
    bounds = does.bounds;
    moments = λ t. syncing_all g gives dev.Tells m IsNamed (disk (dev.time old)) (dev.time old) (dev.time new) names (does.moments t);
    idle = λ settled. does.idle (λ s u named held. settled s u tt held);
    entries = λ q other. does.entries q (λ w. other (w.0, (tt, w.1.1), w.2));
    reads = does.reads;
    guard = does.guard;
    refuses = does.refuses;
    faults = does.faults;
    cause = does.cause;
  }
