-- What a put and then a sync promise together.
use Rattle.std.proofs.Common.{◌≡◌, ◌⊎◌, inl, inr, refl, sym, ◌∙◌, ap, subst, ℕ, ◌+◌, ◌^◌, ◌<◌, ◌≤◌, List, Bool, true, false, None, Some, Result, Ok, Err, arith}
use Rattle.std.specs.Prelude.{⊤}
use Rattle.std.specs.Result.{IsErrOf}
use Rattle.blob_device.specs.Counts.{Rose}
use Rattle.blob_device.specs.Disk.{Disk, Key}
use Rattle.blob_device.specs.Footprint.{AtMostBoth, Footprint, NoBound}
use Rattle.blob_device.specs.Timeline.{Always, disk}
use Rattle.blob_device.specs.declared.device.Device as device
use Rattle.blob_device.specs.declared.runtime.RError.TheVariants as runtime
use Rattle.blob_device.specs.lemmas.Footprint.{footprint_none, footprint_then, footprint_wider}
use Rattle.blob_device.specs.lemmas.Moments.{always_then, always_weaker}
use Rattle.meta_store.specs.Store.{Store}
use Rattle.meta_store.specs.declared.error.Error.TheVariants as metadata
use Rattle.value_codec.specs.declared.key.Key8.{Key8}
use Rattle.sealed_pages.specs.declared.page_blob.PageBlob.{PageBlob}
use Rattle.section_manager.specs.declared.sealed.AppendFactory.{AppendFactory}
use Rattle.section_manager.specs.declared.journal.Error.TheVariants as section
use Rattle.paired.specs.Crashes.{IsOwn}
use Rattle.paired.specs.Kept.{marker_of}
use Rattle.archives.specs.lemmas.put.Sync.{filing_then}
use Rattle.paired.specs.lemmas.pair.Failing.{rose_before}
use Rattle.archives.specs.Archives.{Archive}
use Rattle.archives.specs.Changes.{Asked, Changes, IsSoundOver, state_over}
use Rattle.archives.specs.Commands.{Sync}
use Rattle.archives.specs.Filing.{Filing, IsBlobAt, IsSameFiling}
use Rattle.archives.specs.FilingLaws.{one_filing}
use Rattle.archives.specs.Machine.{State, after_sync, section_of}
use Rattle.archives.specs.Prunable.{Prunable, filing_by, meaning}
use Rattle.archives.specs.Putting.{IsFullFor, IsFullOver, IsMovingAfter, IsWrittenAfter, Times, after_putting, frame_size, is_skipped, put_command, put_start_command, put_sync_command}
use Rattle.archives.specs.Puts.{IsPutCause, Puts, Refuses}
use Rattle.archives.specs.Refusing.{IsFault}
use Rattle.archives.specs.Replies as reply
use Rattle.archives.specs.Standing.{Leaves, submitted}
use Rattle.archives.specs.Syncing.{IsMoving, IsWritten}
use Rattle.archives.specs.Syncs.{IsPutSyncCause, IsSyncCause, PutSyncs, Syncs}
use Rattle.archives.specs.Syncs as parts
use Rattle.archives.specs.declared.error.Error.{Error}
use Rattle.archives.specs.declared.error.Error.TheVariants.{Full, Journal, Mem, Metadata, RecordCorrupted}
use Rattle.archives.proofs.Alike.{alike_as}
use Rattle.archives.proofs.PuttingLemmas.{by_step, none_goes, start_step_by, start_submits, submits_by, sync_step_by, sync_submits}
use Rattle.archives.proofs.put.Sync.{moving_after, moving_now, own_as, section_small, settled_put, stands_as}

-- ---- causes

module _ {F S : Type 0} {gs : _} (a : Archive F (PageBlob S gs)) (index : ℕ) (skip : Bool) (n : ℕ) (told : Type 0) where
  -- why the put failed is why the call did
  put_both : (before now : ℕ) (e : Error) → IsPutCause a index skip n told before now e → IsPutSyncCause a index skip n told before now e
  put_both before now Mem cause = tt
  put_both before now Full cause = inl cause
  put_both before now RecordCorrupted cause = absurd cause
  put_both before now (Journal (section.Runtime runtime.Fault)) cause = cause
  put_both before now (Journal (section.Runtime (runtime.InvalidChecksum k))) cause = absurd cause
  put_both before now (Journal (section.Runtime runtime.BlobInsufficientLength)) cause = absurd cause
  put_both before now (Journal (section.Runtime runtime.OffsetOverflow)) cause = absurd cause
  put_both before now (Journal (section.Runtime runtime.Mem)) cause = absurd cause
  put_both before now (Journal (section.Metadata m)) cause = absurd cause
  put_both before now (Journal (section.Codec x)) cause = absurd cause
  put_both before now (Journal (section.InvalidBlobName x)) cause = absurd cause
  put_both before now (Journal (section.ItemOutOfRange x)) cause = absurd cause
  put_both before now (Journal (section.SectionOutOfRange x)) cause = absurd cause
  put_both before now (Journal (section.AlreadyPrunedToSection x)) cause = absurd cause
  put_both before now (Journal (section.ChecksumMismatch x y)) cause = absurd cause
  put_both before now (Journal section.ValueTooLarge) cause = cause
  put_both before now (Journal section.OffsetOverflow) cause = absurd cause
  put_both before now (Journal (section.Corruption x)) cause = absurd cause
  put_both before now (Journal section.ReplayFailed) cause = absurd cause
  put_both before now (Journal section.Full) cause = absurd cause
  put_both before now (Journal section.Mem) cause = absurd cause
  put_both before now (Metadata (metadata.Runtime runtime.Fault)) cause = absurd cause
  put_both before now (Metadata (metadata.Runtime (runtime.InvalidChecksum k))) cause = absurd cause
  put_both before now (Metadata (metadata.Runtime runtime.BlobInsufficientLength)) cause = absurd cause
  put_both before now (Metadata (metadata.Runtime runtime.OffsetOverflow)) cause = absurd cause
  put_both before now (Metadata (metadata.Runtime runtime.Mem)) cause = absurd cause
  put_both before now (Metadata (metadata.Corruption x)) cause = absurd cause
  put_both before now (Metadata metadata.Full) cause = absurd cause
  put_both before now (Metadata metadata.Mem) cause = absurd cause

  -- and so is why the sync failed of the archive b, which the put left
  module _ (b : Archive F (PageBlob S gs)) (before between now : ℕ) (later : before ≤ between) (version : 2 ^ 64 ≤ b.pair.store.version + 1 → 2 ^ 64 ≤ a.pair.store.version + 1)
      (moving : IsMoving b → IsMovingAfter a index skip) where
    sync_both : (e : Error) → IsSyncCause b between now e → IsPutSyncCause a index skip n told before now e
    sync_both Mem cause = tt
    sync_both Full cause = inr (version cause.0, moving cause.1)
    sync_both RecordCorrupted cause = absurd cause
    sync_both (Journal (section.Runtime runtime.Fault)) cause = rose_before before between now later cause
    sync_both (Journal (section.Runtime (runtime.InvalidChecksum k))) cause = absurd cause
    sync_both (Journal (section.Runtime runtime.BlobInsufficientLength)) cause = absurd cause
    sync_both (Journal (section.Runtime runtime.OffsetOverflow)) cause = absurd cause
    sync_both (Journal (section.Runtime runtime.Mem)) cause = absurd cause
    sync_both (Journal (section.Metadata m)) cause = absurd cause
    sync_both (Journal (section.Codec x)) cause = absurd cause
    sync_both (Journal (section.InvalidBlobName x)) cause = absurd cause
    sync_both (Journal (section.ItemOutOfRange x)) cause = absurd cause
    sync_both (Journal (section.SectionOutOfRange x)) cause = absurd cause
    sync_both (Journal (section.AlreadyPrunedToSection x)) cause = absurd cause
    sync_both (Journal (section.ChecksumMismatch x y)) cause = absurd cause
    sync_both (Journal section.ValueTooLarge) cause = absurd cause
    sync_both (Journal section.OffsetOverflow) cause = absurd cause
    sync_both (Journal (section.Corruption x)) cause = absurd cause
    sync_both (Journal section.ReplayFailed) cause = absurd cause
    sync_both (Journal section.Full) cause = absurd cause
    sync_both (Journal section.Mem) cause = absurd cause
    sync_both (Metadata (metadata.Runtime runtime.Fault)) cause = (rose_before before between now later cause.0, moving cause.1)
    sync_both (Metadata (metadata.Runtime (runtime.InvalidChecksum k))) cause = absurd cause
    sync_both (Metadata (metadata.Runtime runtime.BlobInsufficientLength)) cause = absurd cause
    sync_both (Metadata (metadata.Runtime runtime.OffsetOverflow)) cause = absurd cause
    sync_both (Metadata (metadata.Runtime runtime.Mem)) cause = absurd cause
    sync_both (Metadata (metadata.Corruption x)) cause = absurd cause
    sync_both (Metadata metadata.Full) cause = absurd cause
    sync_both (Metadata metadata.Mem) cause = absurd cause

  both_fault : (before now : ℕ) (e : Error) → IsPutSyncCause a index skip n told before now e → IsFault e → Rose before now
  both_fault before now e cause (inl is) = subst (IsPutSyncCause a index skip n told before now) is cause
  both_fault before now e cause (inr is) = (subst (IsPutSyncCause a index skip n told before now) is cause).0

-- ---- the calls

module _ {A V S D : Type 0} {gs : _} (p : Prunable A V (AppendFactory S) (PageBlob S gs)) (dev : device.Ghosts D) (times : Times) (a : A) (index : ℕ) (key value : List ℕ) where
  abbrev size : ℕ
  size = frame_size (filing_by p a).layout value

  abbrev skip : Bool
  skip = is_skipped (p.see a) index times

  -- the commands of such a put, with a sync and with one that is started
  abbrev put_synced : Asked
  put_synced = put_sync_command times index key value

  abbrev put_started : Asked
  put_started = put_start_command times index key value

  -- the same of another result that is equal
  pub put_sync_as : (r x : Result A Error) (old new : D) → r ≡ x → PutSyncs p dev times a index key value x old new → PutSyncs p dev times a index key value r old new
  put_sync_as r x old new is both = subst (λ (y : Result A Error). PutSyncs p dev times a index key value y old new) (sym is) both

  -- where the put failed
  full_for : (told : Type 0) → told → IsFullOver (p.see a) index skip told size → IsFullFor (p.see a) index skip size
  full_for told t over = record {
    free = over.free;
    full = elim over.full [
      | inl none ↦ inl none
      | inr passed ↦ inr (passed.0, passed.1 (inl t))
    ];
  }

  -- while the put goes on
  under_put : (command : Asked) → (command ≡ put_synced) ⊎ (command ≡ put_started) → (f : Filing) (st : State (List ℕ)) (d : Disk)
      → Leaves f st (Some (put_command times index key value)) d → Leaves f st (Some command) d
  under_put command (inl is) f st d leaves = subst (λ (c : Asked). Leaves f st (Some c) d) (sym is)
      (stands_as f st st (Some (put_command times index key value)) (Some put_synced) (sync_submits times f.items index key value st) (λ s. omega arith) (none_goes times f.items index key value st) d leaves)
  under_put command (inr is) f st d leaves = subst (λ (c : Asked). Leaves f st (Some c) d) (sym is)
      (stands_as f st st (Some (put_command times index key value)) (Some put_started) (start_submits times f.items index key value st) (λ s. omega arith) (none_goes times f.items index key value st) d leaves)

  -- while the sync does, from a state that the put left
  under_sync_put : (command : Asked) → (command ≡ put_synced) ⊎ (command ≡ put_started) → (f : Filing) (st mid : State (List ℕ)) (d : Disk)
      → ((c : Asked) → (c ≡ put_synced) ⊎ (c ≡ put_started) → (s : ℕ) → submitted f.items mid None s ≡ submitted f.items st (Some c) s) → ((s : ℕ) → st.synced s ≤ mid.synced s)
      → Leaves f mid None d → Leaves f st (Some command) d
  under_sync_put command is f st mid d same fewer leaves = stands_as f mid st None (Some command) (same command is) fewer (λ s none. none) d leaves

  module _ (small : index < 2 ^ 64) where
    own_after : (q : Key) → skip ≡ false → IsBlobAt (filing_by p a) index q → IsOwn (filing_by p a).layout (IsWrittenAfter (p.see a) index skip) q
    own_after q free (inl is) = inl (section_of (p.see a).items index, section_small (p.see a).items index small, inr (free, refl), is)
    own_after q free (inr is) = inr (inl (section_of (p.see a).items index, section_small (p.see a).items index small, inr (free, refl), is))

    -- what the put touches is among the blobs of the sections that are then written
    put_touches : (result : Result A Error) (old new : D) → Puts p dev times a index key value result old new → Footprint dev (IsOwn (filing_by p a).layout (IsWrittenAfter (p.see a) index skip)) NoBound old new
    put_touches result old new put = go skip refl
      where
        go : (b : Bool) → skip ≡ b → Footprint dev (IsOwn (filing_by p a).layout (IsWrittenAfter (p.see a) index skip)) NoBound old new
        go true is = footprint_none dev (IsOwn (filing_by p a).layout (IsWrittenAfter (p.see a) index skip)) NoBound old new (put.skipped is).1
        go false is = footprint_wider dev (IsBlobAt (filing_by p a) index) (IsOwn (filing_by p a).layout (IsWrittenAfter (p.see a) index skip)) NoBound NoBound old new (λ q. own_after q is) (λ q n none. absurd none) put.footprint

    pub put_sync_refused : (e : Error) (old new : D) → Puts p dev times a index key value (Err e) old new → PutSyncs p dev times a index key value (Err e) old new
    put_sync_refused e old new put = record {
      parts = parts.refused e refl put;
      changes = λ command is. record {
        moments = λ t sound. always_weaker (dev.time old) (dev.time new) (Leaves (filing_by p a) (state_over (meaning p) dev a old) (Some (put_command times index key value)))
            (Leaves (filing_by p a) (state_over (meaning p) dev a old) (Some command)) (under_put command is (filing_by p a) (state_over (meaning p) dev a old)) (put.changes.moments t sound);
        footprint = put.changes.footprint;
        ends = put.changes.ends;
      };
      footprint = put_touches (Err e) old new put;
      refuses = put.refuses;
      ends = record {
        cause = put_both (p.see a) index skip size dev.Tells (dev.faults old) (dev.faults new) e put.ends.cause;
        too_large = λ is. put.ends.unwritten (inl is);
        full = λ t is. inl (
          full_for dev.Tells t (subst (IsPutCause (p.see a) index skip size dev.Tells (dev.faults old) (dev.faults new)) is put.ends.cause),
          put.ends.unwritten (inr (inl t, is)),
        );
        settled = λ t sound markers other. elim markers [
          | inl is ↦ absurd (other is (full_for dev.Tells t (subst (IsPutCause (p.see a) index skip size dev.Tells (dev.faults old) (dev.faults new)) is put.ends.cause)))
          | inr is ↦ absurd (subst (IsPutCause (p.see a) index skip size dev.Tells (dev.faults old) (dev.faults new)) is put.ends.cause)
        ];
      };
    }

    -- ---- where the put ended well

    module _ (markers : (x y : A) → (filing_by p x).layout.markers ≡ (filing_by p y).layout.markers) (mid : A) (old between new : D)
        (put : Puts p dev times a index key value (Ok mid) old between) where
      same : filing_by p mid ≡ filing_by p a
      same = one_filing (filing_by p a) (filing_by p mid) put.ends.filing (markers mid a)

      put_state : dev.Tells → IsSoundOver (meaning p) dev a old → state_over (meaning p) dev mid between ≡ after_putting times (p.see a).items index key value (state_over (meaning p) dev a old)
      put_state t sound = by_step times (p.see a).items index key value (state_over (meaning p) dev a old) (state_over (meaning p) dev mid between) (put.changes.ends.step t sound)

      version_was : 2 ^ 64 ≤ (p.see mid).pair.store.version + 1 → 2 ^ 64 ≤ (p.see a).pair.store.version + 1
      version_was large = subst (λ (u : Store Key8 ℕ). 2 ^ 64 ≤ u.version + 1) put.ends.markers large

      moves : IsMoving (p.see mid) → IsMovingAfter (p.see a) index skip
      moves = moving_after (p.see a) index skip small (p.see mid) put.ends.filing.layout put.ends.written put.ends.markers put.ends.synced

      sync_touches : Footprint dev (IsOwn (filing_by p mid).layout (IsWritten (p.see mid))) NoBound between new → Footprint dev (IsOwn (filing_by p a).layout (IsWrittenAfter (p.see a) index skip)) NoBound old new
      sync_touches touched =
          let Own : Key → Type 0 = IsOwn (filing_by p a).layout (IsWrittenAfter (p.see a) index skip) in
          footprint_wider dev Own Own (AtMostBoth NoBound NoBound) NoBound old new (λ q is. is) (λ q n none. absurd none)
          (footprint_then dev Own NoBound NoBound old between new (put_touches (Ok mid) old between put)
          (footprint_wider dev (IsOwn (filing_by p mid).layout (IsWritten (p.see mid))) Own NoBound NoBound between new
          (λ q. own_as (filing_by p a).layout (filing_by p mid).layout (IsWritten (p.see mid)) (IsWrittenAfter (p.see a) index skip) q put.ends.filing.layout (λ s is. (put.ends.written s).0 is))
          (λ q n none. absurd none) touched))

      all_touches : Footprint dev (IsOwn (filing_by p mid).layout (λ _. ⊤)) NoBound between new → Footprint dev (IsOwn (filing_by p a).layout (λ _. ⊤)) NoBound old new
      all_touches touched =
          let Own : Key → Type 0 = IsOwn (filing_by p a).layout (λ _. ⊤) in
          footprint_wider dev Own Own (AtMostBoth NoBound NoBound) NoBound old new (λ q is. is) (λ q n none. absurd none)
          (footprint_then dev Own NoBound NoBound old between new put.changes.footprint
          (footprint_wider dev (IsOwn (filing_by p mid).layout (λ _. ⊤)) Own NoBound NoBound between new (λ q. (put.changes.ends.alike.own q).0) (λ q n none. absurd none) touched))

      -- the sync goes on over what the put submitted
      submits : dev.Tells → IsSoundOver (meaning p) dev a old → (c : Asked) → (c ≡ put_synced) ⊎ (c ≡ put_started) → (s : ℕ)
          → submitted (p.see a).items (state_over (meaning p) dev mid between) None s ≡ submitted (p.see a).items (state_over (meaning p) dev a old) (Some c) s
      submits t sound c is s =
          let st = state_over (meaning p) dev a old in
          let put_submits : submitted (p.see a).items (state_over (meaning p) dev mid between) None s ≡ submitted (p.see a).items st (Some (put_command times index key value)) s =
          ap (λ (x : State (List ℕ)). x.lists s) (put_state t sound) ∙ sym (submits_by times (p.see a).items index key value st s) in
          elim is as (λ _. submitted (p.see a).items (state_over (meaning p) dev mid between) None s ≡ submitted (p.see a).items st (Some c) s) [
            | inl same ↦ put_submits ∙ sync_submits times (p.see a).items index key value st s ∙ ap (λ (x : Asked). submitted (p.see a).items st (Some x) s) (sym same)
            | inr same ↦ put_submits ∙ start_submits times (p.see a).items index key value st s ∙ ap (λ (x : Asked). submitted (p.see a).items st (Some x) s) (sym same)
          ]

      moments_of : (command : Asked) → (command ≡ put_synced) ⊎ (command ≡ put_started) → dev.Tells → IsSoundOver (meaning p) dev a old
          → Always (dev.time between) (dev.time new) (Leaves (filing_by p mid) (state_over (meaning p) dev mid between) None)
          → Always (dev.time old) (dev.time new) (Leaves (filing_by p a) (state_over (meaning p) dev a old) (Some command))
      moments_of command is t sound later =
          let Left : Disk → Type 0 = Leaves (filing_by p a) (state_over (meaning p) dev a old) (Some command) in
          always_then (dev.time old) (dev.time between) (dev.time new) Left
          (always_weaker (dev.time old) (dev.time between) (Leaves (filing_by p a) (state_over (meaning p) dev a old) (Some (put_command times index key value))) Left
          (under_put command is (filing_by p a) (state_over (meaning p) dev a old)) (put.changes.moments t sound))
          (always_weaker (dev.time between) (dev.time new) (Leaves (filing_by p mid) (state_over (meaning p) dev mid between) None) Left
          (λ d leaves. under_sync_put command is (filing_by p a) (state_over (meaning p) dev a old) (state_over (meaning p) dev mid between) d (submits t sound)
          (λ s. omega (arith, put.ends.synced s)) (subst (λ (f : Filing). Leaves f (state_over (meaning p) dev mid between) None d) same leaves)) later)

      never : {P : Type 0} (e : Error) → IsErrOf {T = A} (Ok mid) e → P
      never e is = absurd (cc is)

      refuses_of : (result : Result A Error) → Refuses (p.see a) index skip size dev.Tells result old new
      refuses_of result = record {
        over_limit = λ free none. never Full (put.refuses.over_limit free none).0;
        too_large = λ large. elim (put.refuses.too_large large) [
          | inl is ↦ never (Journal section.ValueTooLarge) is.0
          | inr is ↦ never Mem is
        ];
        no_room = λ t full. elim (put.refuses.no_room t full) [
          | inl is ↦ never Full is.0
          | inr is ↦ never Mem is
        ];
      }

      failed : (e : Error) → Syncs p dev mid (Err e) between new → PutSyncs p dev times a index key value (Err e) old new
      failed e sync = record {
        parts = parts.put mid between put sync;
        changes = λ command is. record {
          moments = λ t sound. moments_of command is t sound (sync.moments t (put.changes.ends.sound t sound));
          footprint = all_touches (sync.settles.changes Sync (inl refl)).footprint;
          ends = both_fault (p.see a) index skip size dev.Tells (dev.faults old) (dev.faults new) e cause;
        };
        footprint = sync_touches sync.footprint;
        refuses = refuses_of (Err e);
        ends = record {
          cause = cause;
          too_large = λ is. absurd (subst (IsSyncCause (p.see mid) (dev.faults between) (dev.faults new)) is sync.ends.cause);
          full = λ t is. (let why = subst (IsSyncCause (p.see mid) (dev.faults between) (dev.faults new)) is sync.ends.cause in inr (version_was why.0, moves why.1));
          settled = λ t sound markers other. settled_put (p.see a) (p.see mid) (disk (dev.time old)) (disk (dev.time between)) times index key value same (put_state t sound) (disk (dev.time new))
              (sync.ends.settled t (put.changes.ends.sound t sound) markers);
        };
      }
        where
          cause : IsPutSyncCause (p.see a) index skip size dev.Tells (dev.faults old) (dev.faults new) e
          cause = sync_both (p.see a) index skip size dev.Tells (p.see mid) (dev.faults old) (dev.faults between) (dev.faults new) put.footprint.faults version_was moves e sync.ends.cause

      done : (r : A) → Syncs p dev mid (Ok r) between new → PutSyncs p dev times a index key value (Ok r) old new
      done r sync = record {
        parts = parts.put mid between put sync;
        changes = λ command is. record {
          moments = λ t sound. moments_of command is t sound (sync.moments t (put.changes.ends.sound t sound));
          footprint = all_touches changed.footprint;
          ends = record {
            over = changed.ends.over;
            alike = alike_as p a r (one_filing (filing_by p a) (filing_by p r) filing (markers r a)) (λ v accepts. changed.ends.alike.accepts v (put.changes.ends.alike.accepts v accepts));
            sound = λ t sound. changed.ends.sound t (put.changes.ends.sound t sound);
            step = λ t sound. step_of command is t sound;
            rest = λ t sound. changed.ends.rest t (put.changes.ends.sound t sound);
          };
        };
        footprint = sync_touches sync.footprint;
        refuses = refuses_of (Ok r);
        ends = record {
          filing = filing;
          none_written = sync.ends.none_written;
          moved = λ s not. sync.ends.tracked.markers s (λ is. not ((put.ends.written s).0 is)) ∙ sync.ends.tracked.others s (λ is. not ((put.ends.written s).0 is)) ∙ put.ends.synced s;
          unmoved = λ s is. sync.ends.tracked.active s ((put.ends.written s).1 is) ∙ ap (λ (u : Store Key8 ℕ). marker_of u.entries s) put.ends.markers;
          version = λ moving.
              (let low = sync.ends.version (moving_now (p.see a) index skip small (p.see mid) put.ends.filing.layout put.ends.written put.ends.markers put.ends.synced moving) in
              subst (λ (u : Store Key8 ℕ). u.version + 1 < 2 ^ 64) put.ends.markers low);
        };
      }
        where
          changed : Changes (meaning p) dev mid Sync (Ok r) between new
          changed = sync.settles.changes Sync (inl refl)

          filing : IsSameFiling (filing_by p a) (filing_by p r)
          filing = filing_then (filing_by p a) (filing_by p mid) (filing_by p r) put.ends.filing sync.ends.filing

          step_of : (command : Asked) → (command ≡ put_synced) ⊎ (command ≡ put_started) → dev.Tells → IsSoundOver (meaning p) dev a old
              → (meaning p).Step a (state_over (meaning p) dev a old) command reply.Done (state_over (meaning p) dev r new)
          step_of command is t sound =
              let st = state_over (meaning p) dev a old in
              let next = state_over (meaning p) dev r new in
              let all : next ≡ after_sync (after_putting times (p.see a).items index key value st) = sync.ends.state t ∙ ap after_sync (put_state t sound) in
              elim is [
                | inl same ↦ subst (λ (c : Asked). (meaning p).Step a st c reply.Done next) (sym same) (sync_step_by times (p.see a).items index key value st next all)
                | inr same ↦ subst (λ (c : Asked). (meaning p).Step a st c reply.Done next) (sym same) (start_step_by times (p.see a).items index key value st next all)
              ]

      pub put_then_sync : (result : Result A Error) → Syncs p dev mid result between new → PutSyncs p dev times a index key value result old new
      put_then_sync (Ok r) sync = done r sync
      put_then_sync (Err e) sync = failed e sync
