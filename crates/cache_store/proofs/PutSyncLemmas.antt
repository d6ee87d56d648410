-- How a put ends that syncs, from what the put and the sync did.
use Rattle.std.specs.Prelude.{◌≡◌, ℕ, ◌≤◌, ◌||◌, nat_lt, if◌then◌else◌, Bool, false, true, List, [], None, Some, Result, Ok, Err}
use Rattle.std.proofs.Common.{inl, inr, ⊎_elim, refl, sym, ap, ◌∙◌, subst, arith}
use Rattle.std.proofs.lemmas.Bool.{le-ltb}
use Rattle.std.proofs.lemmas.List.{append-nil}
use Rattle.blob_device.specs.Disk.{Disk}
use Rattle.blob_device.specs.Footprint.{Footprint, NoBound}
use Rattle.blob_device.specs.Timeline.{Always}
use Rattle.blob_device.specs.declared.device.Device as device
use Rattle.blob_device.specs.lemmas.Footprint.{footprint_then, footprint_wider}
use Rattle.blob_device.specs.lemmas.Moments.{always_then, always_weaker}
use Rattle.sealed_pages.specs.declared.page_blob.PageBlob.{PageBlob}
use Rattle.section_manager.specs.Answers.{seen}
use Rattle.section_manager.specs.Sections.{key_of, section_key, IsKeyOf}
use Rattle.section_manager.specs.Setting.{Setting}
use Rattle.section_manager.specs.declared.buffer.SectionBuffer as buffer
use Rattle.section_manager.specs.declared.journal.Error.{Error}
use Rattle.section_manager.specs.declared.sealed.AppendFactory.{AppendFactory}
use Rattle.cache_store.specs.Caches.{Cache}
use Rattle.cache_store.specs.Changes.{Changed, IsFailure, IsPutCause, IsSkipped, IsSoundOver, IsWritten, PutSyncs, Puts, Seen, Syncs, state_over, with_index}
use Rattle.cache_store.specs.Kept.{Layout}
use Rattle.cache_store.specs.Machine.{Put, PutSync, Sync, State, after_put, after_sync, appended, has_index}
use Rattle.cache_store.specs.Standing.{Leaves, Wanted, wanted_of}
use Rattle.cache_store.proofs.HoldingLemmas.{ok_is}
use Rattle.cache_store.proofs.LeavingLemmas.{more_leaves}
use Rattle.cache_store.proofs.RecallLemmas.{recalls_after}

-- a put makes nothing synced
pub after_put_synced : (items index : ℕ) (value : List ℕ) (st : State (List ℕ)) (s : ℕ) → (after_put items index value st).synced s ≡ st.synced s
after_put_synced items index value st s = go (nat_lt index st.floor || has_index items st index)
  where
    go : (b : Bool) → (if b then st else appended items index value st).synced s ≡ st.synced s
    go true = refl
    go false = refl

module _ {S D C : Type 0} {gs : _} (g : buffer.Ghosts (PageBlob S gs)) (gives : AppendFactory S → Setting)
    (cfg : C) (dev : device.Ghosts D) (c : Cache (AppendFactory S) (PageBlob S gs)) (index : ℕ) (spelled : List ℕ) (high : c.floor ≤ index) (old mid : D) where
  abbrev was : Wanted
  was = wanted_of c.layout.items (state_over g gives dev c old) (Some (PutSync index spelled))

  -- while the put is under way
  put_leaves : (d : Disk) → Leaves c.layout (wanted_of c.layout.items (state_over g gives dev c old) (Some (Put index spelled))) d → Leaves c.layout was d
  put_leaves = more_leaves c.layout (wanted_of c.layout.items (state_over g gives dev c old) (Some (Put index spelled))) was
      (λ s. ([], sym (append-nil _))) (λ s. refl) (λ s goes. absurd goes)

  module _ (result : Result (Seen g gives dev) Error) (kept : Result C Error) (did : Puts g gives dev c index spelled result cfg kept old mid) where
    moments : dev.Tells → IsSoundOver g gives dev c old → Always (dev.time old) (dev.time mid) (Leaves c.layout was)
    moments t sound = always_weaker _ _ _ _ put_leaves (did.changes.moments t sound)

    footprint : Footprint dev (IsKeyOf c.journal.sections (IsWritten g gives dev c index spelled)) NoBound old mid
    footprint = footprint_wider dev _ (IsKeyOf c.journal.sections (IsWritten g gives dev c index spelled)) _ NoBound old mid
        (λ q is. (_, inl (refl, is.1), is.0)) (λ q n most. absurd most) did.changes.footprint

  -- the put failed
  pub put_sync_failed : (e : Error) → Puts g gives dev c index spelled (Err e) cfg (Err e) old mid → PutSyncs g gives dev c index spelled (Err e) cfg (Err e) old mid
  put_sync_failed e did = record {
    changes = record { moments = moments (Err e) (Err e) did; footprint = footprint (Err e) (Err e) did; config = tt; ends = did.changes.ends };
    skips = λ low. absurd (omega (arith, low, high));
    idle = λ skip none. absurd (cc (did.skips skip).0);
    memory = λ r is. absurd (cc is);
    written = λ from r is. absurd (cc is);
    limits = did.limits;
  }

  -- the put was made, and then a sync
  module _ (r : Seen g gives dev) (told : C) (did : Puts g gives dev c index spelled (Ok r) cfg (Ok told) old mid) (new : D) where
    abbrev put : Changed g gives dev c (Put index spelled) r old mid
    put = did.changes.ends

    key_same : (s : ℕ) → key_of r.journal.sections s ≡ key_of c.journal.sections s
    key_same s = ap (λ (p : List ℕ). section_key p s) put.place.partition

    -- while it is synced
    sync_leaves : dev.Tells → (d : Disk) → Leaves r.layout (wanted_of r.layout.items (state_over g gives dev r mid) (Some Sync)) d → Leaves c.layout was d
    sync_leaves t d leaves = more_leaves c.layout (wanted_of c.layout.items (state_over g gives dev r mid) (Some Sync)) was
        (λ s. ([], ap (λ (st : State (List ℕ)). st.lists s) (sym (put.step t)) ∙ sym (append-nil _)))
        (λ s. sym (after_put_synced c.layout.items index spelled (state_over g gives dev c old) s) ∙ ap (λ (st : State (List ℕ)). st.synced s) (sym (put.step t)))
        (λ s goes. absurd goes) d
        (subst (λ (l : Layout). Leaves l (wanted_of l.items (state_over g gives dev r mid) (Some Sync)) d) put.layout leaves)

    module _ (result : Result (Seen g gives dev) Error) (kept : Result C Error) (after : Syncs g gives dev r result told kept mid new) where
      both_moments : dev.Tells → IsSoundOver g gives dev c old → Always (dev.time old) (dev.time new) (Leaves c.layout was)
      both_moments t sound = always_then _ _ _ _ (moments (Ok r) (Ok told) did t sound) (always_weaker _ _ _ _ (sync_leaves t) (after.changes.moments t (put.sound t sound)))

      both_footprint : Footprint dev (IsKeyOf c.journal.sections (IsWritten g gives dev c index spelled)) NoBound old new
      both_footprint = footprint_wider dev _ _ _ NoBound old new (λ q is. is) (λ q n most. absurd most)
          (footprint_then dev _ NoBound NoBound old mid new (footprint (Ok r) (Ok told) did)
          (footprint_wider dev _ (IsKeyOf c.journal.sections (IsWritten g gives dev c index spelled)) _ NoBound mid new
          (λ q is. (is.0, did.written r refl is.0 is.1, is.2 ∙ key_same is.0)) (λ q n most. absurd most) after.changes.footprint))

      -- where neither did anything
      both_idle : IsSkipped g gives dev c index → ((s : ℕ) → c.written s ≡ None) → new ≡ old
      both_idle skip none = (let same : (◌≡◌ {A = Result (Seen g gives dev) Error} (Ok r) (Ok c)) × (mid ≡ old) = did.skips skip in
          after.idle (λ s. ap (λ (x : Seen g gives dev). x.written s) (ok_is same.0) ∙ none s) ∙ same.1)

      few : (e : Error) → IsFailure (dev.faults mid) (dev.faults new) e → IsPutCause g gives dev c index spelled (dev.faults old) (dev.faults new) e
      few e (inl mem) = inr (inr (inl mem))
      few e (inr fault) = inr (inr (inr (fault.0, omega (arith, fault.1, did.changes.footprint.faults))))

    -- the sync failed
    synced_failed : (e : Error) → Syncs g gives dev r (Err e) told (Err e) mid new → PutSyncs g gives dev c index spelled (Err e) cfg (Err e) old new
    synced_failed e after = record {
      changes = record { moments = both_moments (Err e) (Err e) after; footprint = both_footprint (Err e) (Err e) after; config = tt; ends = few (Err e) (Err e) after e after.changes.ends };
      skips = λ low. absurd (omega (arith, low, high));
      idle = both_idle (Err e) (Err e) after;
      memory = λ x is. absurd (cc is);
      written = λ from x is. absurd (cc is);
      limits = record {
        large = λ not big. absurd (cc (did.limits.large not big));
        refuses = λ is. absurd (⊎_elim (λ mem. cc (is, mem)) (λ fault. cc (is, fault.0)) after.changes.ends);
        full = λ not few over_full. absurd (⊎_elim (λ is. cc is) (λ is. cc is) (did.limits.full not few over_full));
        full_refuses = λ is. absurd (⊎_elim (λ mem. cc (is, mem)) (λ fault. cc (is, fault.0)) after.changes.ends);
      };
    }

    -- all was synced
    synced_done : (x : Seen g gives dev) (last : C) → Syncs g gives dev r (Ok x) told (Ok last) mid new → PutSyncs g gives dev c index spelled (Ok x) cfg (Ok last) old new
    synced_done x last after = record {
      changes = record {
        moments = both_moments (Ok x) (Ok last) after;
        footprint = both_footprint (Ok x) (Ok last) after;
        config = after.changes.config ∙ did.changes.config;
        ends = (let sync : Changed g gives dev r Sync x mid new = after.changes.ends in record {
          over = sync.over;
          layout = sync.layout ∙ put.layout;
          place = record { partition = sync.place.partition ∙ put.place.partition; factory = sync.place.factory ∙ put.place.factory };
          sound = λ t sound. sync.sound t (put.sound t sound);
          rest = λ t sound. sync.rest t (put.sound t sound);
          step = λ t. sync.step t ∙ ap after_sync (put.step t)
              ∙ sym (ap (λ (b : Bool). if b then state_over g gives dev c old else after_sync (after_put c.layout.items index spelled (state_over g gives dev c old))) (le-ltb index c.floor high));
        });
      };
      skips = λ low. absurd (omega (arith, low, high));
      idle = both_idle (Ok x) (Ok last) after;
      memory = λ y is. recalls_after c r (with_index c index) (did.memory r refl) y (after.memory y is);
      written = λ from y is. after.written y is;
      limits = record {
        large = λ not big. absurd (cc (did.limits.large not big));
        refuses = λ is. absurd (cc is);
        full = λ not few over_full. absurd (⊎_elim (λ is. cc is) (λ is. cc is) (did.limits.full not few over_full));
        full_refuses = λ is. absurd (cc is);
      };
    }

    -- either way
    pub synced_either : {T : Type 0} (see : T → Seen g gives dev) (tell : T → C) (result : Result T Error) → Syncs g gives dev r (seen see result) told (seen tell result) mid new
        → PutSyncs g gives dev c index spelled (seen see result) cfg (seen tell result) old new
    synced_either see tell (Ok x) after = synced_done (see x) (tell x) after
    synced_either see tell (Err e) after = synced_failed e after
