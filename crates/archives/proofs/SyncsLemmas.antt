-- What a sync promises, by the ways in which one ends.
use Rattle.std.proofs.Common.{◌≡◌, ◌⊎◌, ◌↔◌, inl, inr, refl, sym, subst, ℕ, ◌+◌, ◌^◌, ◌<◌, ◌≤◌, None, Some, Result, Ok, Err, arith}
use Rattle.std.specs.Prelude.{⊤}
use Rattle.std.specs.Result.{IsErrOf}
use Rattle.blob_device.specs.Counts.{Rose}
use Rattle.blob_device.specs.Disk.{Key}
use Rattle.blob_device.specs.Footprint.{Footprint, NoBound}
use Rattle.blob_device.specs.Timeline.{Always, disk}
use Rattle.blob_device.specs.declared.device.Device as device
use Rattle.blob_device.specs.lemmas.Footprint.{footprint_none, footprint_wider}
use Rattle.blob_device.specs.lemmas.Moments.{always_start}
use Rattle.sealed_pages.specs.declared.page_blob.PageBlob.{PageBlob}
use Rattle.section_manager.specs.declared.sealed.AppendFactory.{AppendFactory}
use Rattle.section_manager.specs.Lasting.{IsUnsettled}
use Rattle.section_manager.specs.Refusing.{IsPruned}
use Rattle.section_manager.specs.declared.journal.Error as journal
use Rattle.section_manager.specs.declared.journal.Error.TheVariants as section
use Rattle.paired.specs.Crashes.{IsOwn}
use Rattle.paired.specs.glob.Sections as glob
use Rattle.paired.specs.Pair as pair
use Rattle.paired.specs.PairFaults.{FaultsInOrder}
use Rattle.paired.specs.PairRefusing as faults
use Rattle.paired.specs.PairSync.{SyncKeeps}
use Rattle.archives.specs.Changes.{Asked, IsSoundOver, MayUse, state_over}
use Rattle.archives.specs.Commands.{Start, Sync}
use Rattle.archives.specs.Prunable.{Prunable, filing_by, meaning}
use Rattle.archives.specs.Raised.{raised}
use Rattle.archives.specs.Refusing.{IsFault}
use Rattle.archives.specs.Replies as reply
use Rattle.archives.specs.Standing.{Leaves}
use Rattle.archives.specs.Syncing.{IsIdle, IsMoving, IsWritten}
use Rattle.archives.specs.Syncs.{IsSyncCause, SyncFailed, Synced, Syncs}
use Rattle.archives.specs.declared.error.Error.{Error}
use Rattle.archives.specs.declared.error.Error.TheVariants.{Mem}
use Rattle.archives.proofs.Alike.{alike_as}
use Rattle.archives.proofs.sync.Errors.{WhyStopped, error_in, stopped_at, stopped_cause}
use Rattle.archives.proofs.sync.Lemmas.{sync_moments, sync_settled}
use Rattle.archives.proofs.sync.Names.{moving_as, own_more, sync_alone}
use Rattle.archives.proofs.sync.UnderWay.{under_start, under_sync}

module _ {A V S D : Type 0} {gs : _} (p : Prunable A V (AppendFactory S) (PageBlob S gs)) (dev : device.Ghosts D) (a : A) where
  -- at each moment from one device to another a crash leaves what stands for the state
  abbrev pub SyncMoments : D → D → Type 0
  SyncMoments old new = dev.Tells → IsSoundOver (meaning p) dev a old
      → Always (dev.time old) (dev.time new) (Leaves (filing_by p a) (state_over (meaning p) dev a old) None)

  pub sync_fault : (before now : ℕ) (e : Error) → IsSyncCause (p.see a) before now e → IsFault e → Rose before now
  sync_fault before now e cause (inl is) = subst (IsSyncCause (p.see a) before now) is cause
  sync_fault before now e cause (inr is) = (subst (IsSyncCause (p.see a) before now) is cause).0

  module _ (old new : D) (moments : SyncMoments old new) (touched : Footprint dev (IsOwn (filing_by p a).layout (IsWritten (p.see a))) NoBound old new)
      (idle : IsIdle p.buffers.pages (p.see a) → (IsMoving (p.see a) → ⊥) → new ≡ old) where
    all_own : Footprint dev (IsOwn (filing_by p a).layout (λ _. ⊤)) NoBound old new
    all_own = footprint_wider dev (IsOwn (filing_by p a).layout (IsWritten (p.see a))) (IsOwn (filing_by p a).layout (λ _. ⊤)) NoBound NoBound old new
        (own_more (filing_by p a).layout (IsWritten (p.see a)) (λ _. ⊤) (λ s is. tt)) (λ q n none. absurd none) touched

    under : (command : Asked) → (command ≡ Sync) ⊎ (command ≡ Start) → dev.Tells → IsSoundOver (meaning p) dev a old
        → Always (dev.time old) (dev.time new) (Leaves (filing_by p a) (state_over (meaning p) dev a old) (Some command))
    under command (inl is) t sound = subst (λ (c : Asked). Always (dev.time old) (dev.time new) (Leaves (filing_by p a) (state_over (meaning p) dev a old) (Some c))) (sym is)
        (under_sync (filing_by p a) (state_over (meaning p) dev a old) (dev.time old) (dev.time new) (moments t sound))
    under command (inr is) t sound = subst (λ (c : Asked). Always (dev.time old) (dev.time new) (Leaves (filing_by p a) (state_over (meaning p) dev a old) (Some c))) (sym is)
        (under_start (filing_by p a) (state_over (meaning p) dev a old) (dev.time old) (dev.time new) (moments t sound))

    pub sync_failed : (e : Error) → SyncFailed p dev a e old new → Syncs p dev a (Err e) old new
    sync_failed e why = record {
      settles = record {
        changes = λ command is. record {
          moments = under command is;
          footprint = all_own;
          ends = sync_fault (dev.faults old) (dev.faults new) e why.cause;
        };
        step = λ t command is. tt;
      };
      moments = moments;
      footprint = touched;
      idle = idle;
      ends = why;
    }

    module _ (r : A) (over : MayUse (meaning p) dev r new) (same : filing_by p r ≡ filing_by p a) (accepts : (v : V) → p.Accepts a v → p.Accepts r v) (sound_now : dev.Tells → IsSoundOver (meaning p) dev a old → IsSoundOver (meaning p) dev r new)
        (rest : dev.Tells → IsSoundOver (meaning p) dev r new → Leaves (filing_by p r) (state_over (meaning p) dev r new) None (disk (dev.time new))) (done : Synced p dev a r old new) where
      step_of : dev.Tells → (command : Asked) → (command ≡ Sync) ⊎ (command ≡ Start)
          → (meaning p).Step a (state_over (meaning p) dev a old) command reply.Done (state_over (meaning p) dev r new)
      step_of t command (inl is) = subst (λ (c : Asked). (meaning p).Step a (state_over (meaning p) dev a old) c reply.Done (state_over (meaning p) dev r new)) (sym is) (done.state t)
      step_of t command (inr is) = subst (λ (c : Asked). (meaning p).Step a (state_over (meaning p) dev a old) c reply.Done (state_over (meaning p) dev r new)) (sym is) (done.state t)

      pub sync_done : Syncs p dev a (Ok r) old new
      sync_done = record {
        settles = record {
          changes = λ command is. record {
            moments = under command is;
            footprint = all_own;
            ends = record {
              over = over;
              alike = alike_as p a r same accepts;
              sound = sound_now;
              step = λ t sound. step_of t command is;
              rest = λ t sound. rest t (sound_now t sound);
            };
          };
          step = step_of;
        };
        moments = moments;
        footprint = touched;
        idle = idle;
        ends = done;
      }

  -- the same of another result that is equal
  pub sync_as : (r x : Result A Error) (old new : D) → r ≡ x → Syncs p dev a x old new → Syncs p dev a r old new
  sync_as r x old new is syncs = subst (λ (y : Result A Error). Syncs p dev a y old new) (sym is) syncs

  -- there was no memory for the list of sections
  pub sync_no_memory : (d : D) → (dev.Tells → IsSoundOver (meaning p) dev a d → Leaves (filing_by p a) (state_over (meaning p) dev a d) None (disk (dev.time d))) → Syncs p dev a (Err Mem) d d
  sync_no_memory d rest = sync_failed d d (λ t sound. always_start (dev.time d) (Leaves (filing_by p a) (state_over (meaning p) dev a d) None) (rest t sound))
      (footprint_none dev (IsOwn (filing_by p a).layout (IsWritten (p.see a))) NoBound d d refl) (λ quiet still. refl) Mem
      (record { cause = tt; settled = λ t sound markers. absurd (elim markers [ inl one ↦ cc one | inr two ↦ cc two ]) })

  -- ---- a sync of the pair, of lists of sections that name those that were written

  module _ (first second : ℕ → Type 0) (named : (s : ℕ) → first s ↔ IsWritten (p.see a) s) (active : (s : ℕ) → second s ↔ IsWritten (p.see a) s) (old new : D) (over : MayUse (meaning p) dev a old) where
    -- What the pair's sync touches and leaves.
    pub record PairSyncs : Type 0 where
      pub keeps : dev.Tells → SyncKeeps (p.see a).pair first second (dev.time old) (dev.time new)
      pub idle : ((s : ℕ) → first s → IsUnsettled p.buffers.pages (p.see a).pair.index.sections s ⊎ glob.IsUnsettled (p.see a).pair.values s → ⊥)
          → (((s : ℕ) × pair.IsMoving (p.see a).pair first second s) → ⊥) → new ≡ old
      pub entries : (q : Key) → (IsOwn (filing_by p a).layout first q → ⊥) → dev.opened new q ≡ dev.opened old q
      pub faults : dev.faults old ≤ dev.faults new

    module _ (does : PairSyncs) where
      moments_by : SyncMoments old new
      moments_by t sound = sync_moments (p.see a) (dev.opened old) (dev.time old) (dev.time new) first second over t sound (does.keeps t)

      touched_by : Footprint dev (IsOwn (filing_by p a).layout (IsWritten (p.see a))) NoBound old new
      touched_by = record {
        alone = λ t. sync_alone (p.see a).pair first second (IsWritten (p.see a)) named active (dev.time old) (dev.time new) (does.keeps t);
        entries = λ q not. does.entries q (λ own. not (own_more (filing_by p a).layout first (IsWritten (p.see a)) (λ s is. (named s).0 is) q own));
        reads = λ q n none. absurd none;
        faults = does.faults;
      }

      idle_by : IsIdle p.buffers.pages (p.see a) → (IsMoving (p.see a) → ⊥) → new ≡ old
      idle_by quiet still = does.idle (λ s is. quiet s ((named s).0 is)) (λ w. still (moving_as (p.see a).pair first second (IsWritten (p.see a)) named active w))

      pub sync_pair_failed : (U : Type 0) (e : journal.Error) → WhyStopped U e (p.see a).pair.index.sections.floor (dev.faults old) (dev.faults new)
          → (IsPruned (error_in U e) (p.see a).pair.index.sections.floor ↔ ((s : ℕ) × first s × (s < (p.see a).pair.index.sections.floor)))
          → (IsErrOf (error_in U e) section.Full → (2 ^ 64 ≤ (p.see a).pair.store.version + 1) × ((s : ℕ) × pair.IsMoving (p.see a).pair first second s))
          → (faults.HasLostMarkers (error_in U e) (dev.faults old) (dev.faults new) → (s : ℕ) × pair.IsMoving (p.see a).pair first second s)
          → (dev.Tells → FaultsInOrder (p.see a).pair first (error_in U e) (dev.faults old) (dev.faults new) (dev.time old) (dev.time new))
          → Syncs p dev a (Err (raised e)) old new
      sync_pair_failed U e why guard full lost fault =
          let unpruned : IsPruned (error_in U e) (p.see a).pair.index.sections.floor → ⊥ = λ pruned.
          (let found = guard.0 pruned in
          let low = found.2 in
          over.written found.0 ((named found.0).0 found.1) (over.below found.0 (omega (arith, low, over.pair_floor))).rows) in
          sync_failed old new moments_by touched_by idle_by (raised e) (record {
            cause = stopped_cause (p.see a) U e (p.see a).pair.index.sections.floor (dev.faults old) (dev.faults new) why unpruned
                (λ is. ((full is).0, moving_as (p.see a).pair first second (IsWritten (p.see a)) named active (full is).1)) (λ is. moving_as (p.see a).pair first second (IsWritten (p.see a)) named active (lost is));
            settled = λ t sound markers. sync_settled (p.see a) (dev.opened old) (dev.time old) (dev.time new) first second over t sound (does.keeps t)
                ((fault t).leaves (stopped_at (p.see a) U e (p.see a).pair.index.sections.floor (dev.faults old) (dev.faults new) why unpruned markers) sound.pair) (λ s has. (named s).1 has);
          })

      pub sync_pair_done : (r : A) → MayUse (meaning p) dev r new → filing_by p r ≡ filing_by p a → ((v : V) → p.Accepts a v → p.Accepts r v)
          → (dev.Tells → IsSoundOver (meaning p) dev a old → IsSoundOver (meaning p) dev r new)
          → (dev.Tells → IsSoundOver (meaning p) dev r new → Leaves (filing_by p r) (state_over (meaning p) dev r new) None (disk (dev.time new)))
          → Synced p dev a r old new → Syncs p dev a (Ok r) old new
      sync_pair_done r now same accepts sound_now rest done = sync_done old new moments_by touched_by idle_by r now same accepts sound_now rest done
