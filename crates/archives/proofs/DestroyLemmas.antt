-- What a removal of an archive leaves, and promises by the ways in which one ends.
use Rattle.std.proofs.Common.{◌≡◌, ◌⊎◌, inl, inr, refl, sym, ◌∙◌, ap, subst, ℕ, ◌^◌, ◌<◌, ◌≤◌, Bool, true, false, cond, IsTrue, List, [], length, map, take, Option, None, Some, IsSome, unwrap_or, Result, Ok, Err, arith}
use Rattle.std.specs.List.{AllByRecursion}
use Rattle.std.specs.Prelude.{⊤}
use Rattle.std.proofs.lemmas.List.{nil_from_length}
use Rattle.blob_device.specs.Counts.{Rose}
use Rattle.blob_device.specs.Disk.{Blob, Disk, Image, IsCrashOf, Key, MayLeave, longest, nothing, past, reads}
use Rattle.blob_device.specs.Footprint.{Footprint, NoBound}
use Rattle.blob_device.specs.Opened.{OpenedList}
use Rattle.blob_device.specs.Timeline.{Always, Timeline, disk}
use Rattle.blob_device.specs.declared.device.Device as device
use Rattle.blob_device.specs.lemmas.Moments.{always_now, always_weaker}
use Rattle.meta_store.specs.Blobs.{blob_of, bytes_of}
use Rattle.meta_store.specs.Crashes as metadata_crash
use Rattle.meta_store.specs.lemmas.Sealing.{empty_absent}
use Rattle.sealed_pages.specs.lemmas.slots.Slot.{slot_stands}
use Rattle.section_manager.specs.lemmas.buffers.NothingSealed.{nothing_sealed}
use Rattle.sealed_pages.specs.ChanceSeal as pages
use Rattle.sealed_pages.specs.SealedPrefix.{sealed_prefix}
use Rattle.sealed_pages.specs.declared.page_blob.PageBlob.{PageBlob}
use Rattle.section_manager.specs.Refusing.{HasFailed}
use Rattle.section_manager.specs.Sections.{IsHeld, section_key}
use Rattle.section_manager.specs.declared.journal.Error as journal
use Rattle.paired.specs.Crashes.{IsBlobOf, IsCopy, IsIndexOf, IsOneOf, IsOwn, IsValuesOf, Keeping, LeavesAlone, WasThere}
use Rattle.paired.specs.Kept.{Layout, Markers, content_at, is_sound_in, marker_of, stored_records}
use Rattle.paired.specs.Opening.{MayBeOpened, as_read}
use Rattle.paired.specs.Pair.{HasNoBytes, list_of, synced_length, IsSafeOn}
use Rattle.paired.specs.PairRefusing.{HasLostMarkers}
use Rattle.paired.specs.Records as stored
use Rattle.archives.specs.Archives.{Archive, IsArchive, IsSoundArchive, filing_of, state_of}
use Rattle.archives.specs.Changes.{IsSoundOver, MayUse, NoneThere, state_over}
use Rattle.archives.specs.Commands.{Destroy}
use Rattle.archives.specs.Destroys.{DestroyFailed, IsDestroyCause, Removes}
use Rattle.archives.specs.Filing.{Filing, filed, kept}
use Rattle.archives.specs.Machine.{State, after_destroy}
use Rattle.archives.specs.Prunable.{Prunable, filing_by, meaning}
use Rattle.archives.specs.Raised.{raised}
use Rattle.archives.specs.Refusing.{IsFault}
use Rattle.archives.specs.Standing.{Leaves}
use Rattle.archives.specs.declared.error.Error.{Error}
use Rattle.archives.proofs.ArchiveStands.{going_at, index_apart, values_apart}
use Rattle.archives.proofs.PruneLemmas.{no_records}
use Rattle.archives.proofs.sync.Errors.{error_in, raised_by}
use Rattle.archives.proofs.sync.Names.{one_more}
use Rattle.blob_device.proofs.general.Options.{none_or_value}

-- ---- a disk on which no section has a byte

-- a blob that is not there reads as nothing
reads_none : (b : Blob) → (IsTrue b.there → ⊥) → reads b ≡ None
reads_none b absent = read b.there absent
  where
    read : (t : Bool) → (IsTrue t → ⊥) → cond t (Some b.content) None ≡ None
    read true not = absurd (not refl)
    read false not = refl

module _ (l : Layout) (some_bytes : 1 ≤ l.record_size) where
  -- no records are in no bytes
  none_stored : (image : Image) (s : ℕ) → content_at image l.index s ≡ [] → stored_records l image s ≡ []
  none_stored image s none =
      ap (λ (c : List ℕ). stored.records l.record_size (sealed_prefix l.seal l.page_size c)) none ∙ ap (stored.records l.record_size) (nothing_sealed l.seal l.page_size) ∙ no_records l.record_size some_bytes

  -- what a crash leaves of a blob without bytes has none
  left_none : (b : Blob) (left : Option (List ℕ)) → HasNoBytes b → MayLeave b left → unwrap_or left [] ≡ []
  left_none b None none may = refl
  left_none b (Some c) none may = nil_from_length c (omega (arith, none, may.1.no_longer))

  -- so no crash leaves a record
  pub none_left_stored : (d : Disk) (image : Image) (s : ℕ) → HasNoBytes (d (section_key l.index s)) → IsCrashOf d image → stored_records l image s ≡ []
  none_left_stored d image s none crash = none_stored image s (left_none (d (section_key l.index s)) (image (section_key l.index s)) none (crash (section_key l.index s)))

  -- where no seal stands none holds by chance
  no_slots : (contents : List (List ℕ)) (c : List ℕ) → c ≡ [] → pages.NoChanceSeal l.seal l.page_size contents c
  no_slots contents c none = subst (pages.NoChanceSeal l.seal l.page_size contents) (sym none) (λ k second start. absurd (omega (arith, slot_stands l.seal l.page_size [] k second start)))

  -- The disk may be opened again, where no blob of a section is there nor comes back, and none of the markers.
  pub opens_again : (d : Disk) → NoneThere (IsBlobOf l (λ _. ⊤)) d → ((s : ℕ) → s < 2 ^ 64 → HasNoBytes (d (section_key l.index s)) × HasNoBytes (d (section_key l.values s)))
      → ((q : Key) → IsCopy l q → d q ≡ nothing) → MayBeOpened l d
  opens_again d gone empty copies = record {
    no_chance = record {
      slots = λ s small. no_slots (past (d (section_key l.index s))) (content_at (as_read d) l.index s) (unread s small);
      frames = λ s small. subst (AllByRecursion (λ r. IsTrue (is_sound_in l (as_read d) s r) → WasThere (past (d (section_key l.values s))) (content_at (as_read d) l.values s) (l.place r)))
          (sym (none_stored (as_read d) s (unread s small))) tt;
      copies = λ is side. subst (λ (b : Blob). metadata_crash.NoChanceSeal l.markers.seal (past b) (bytes_of (reads b))) (sym (copies (blob_of l.metadata side) (side, refl)))
          (λ version form body sealed. absurd (empty_absent l.markers.seal version form body sealed));
    };
    named = λ image crash s small seals. subst (AllByRecursion (λ r. IsTrue (is_sound_in l (as_read d) s r) → WasThere (past (d (section_key l.values s))) (content_at (as_read d) l.values s) (l.place r)))
        (sym (none_left_stored d image s (empty s small).0 crash)) tt;
    absent = λ s small none. (empty s small).0;
    values_absent = λ s small none. (empty s small).1;
  }
    where
      unread : (s : ℕ) → s < 2 ^ 64 → content_at (as_read d) l.index s ≡ []
      unread s small = ap (λ (o : Option (List ℕ)). unwrap_or o []) (reads_none (d (section_key l.index s)) (λ there. gone (section_key l.index s) (inl (s, small, tt, refl)) there))

-- Where each crash leaves what stands for a state with the removal under way, and no section has a byte, it leaves what stands for the closed
-- state.
pub closed_rest : (f : Filing) → 1 ≤ f.layout.record_size → (st : State (List ℕ)) (d : Disk) → ((s : ℕ) → s < 2 ^ 64 → HasNoBytes (d (section_key f.layout.index s)))
    → Leaves f st (Some Destroy) d → Leaves f (after_destroy st) None d
closed_rest f some_bytes st d empty leaves image crash no_chance =
    let stands = leaves image crash no_chance in
    record {
      markers = stands.markers;
      lawful = stands.lawful;
      each = λ s small.
          (let none : kept f image stands.markers s ≡ [] = none_kept stands.markers s small in
          inl (record { same = none ∙ sym (ap (λ (n : ℕ). take n []) (ap length none)); synced = omega arith }));
    }
  where
    none_kept : (markers : Markers) (s : ℕ) → s < 2 ^ 64 → kept f image markers s ≡ []
    none_kept markers s small = ap (λ (rs : List (List ℕ)). map (filed f) (map (stored.entry_of f.layout.place (content_at image f.layout.values s)) (stored.unbroken_prefix (is_sound_in f.layout image s) (marker_of markers.entries s) 0 rs)))
        (none_left_stored f.layout some_bytes d image s (empty s small) crash)

-- ---- of an archive

-- What the pair's removal says once it has ended: held sections are nothing, and no other blob of a section changed.
pub record AreRemoved {F S : Type 0} {gs : _} (a : Archive F (PageBlob S gs)) (d e : Disk) : Type 0 where
  pub gone : (s : ℕ) → (IsHeld a.pair.index.sections s → e (section_key a.pair.layout.index s) ≡ nothing) × (IsHeld a.pair.values s → e (section_key a.pair.layout.values s) ≡ nothing)
  pub untouched : (q : Key) → (IsOneOf a.pair.layout (IsHeld a.pair.index.sections) (IsHeld a.pair.values) q → ⊥) → e q ≡ d q

module _ {F S : Type 0} {gs : _} (a : Archive F (PageBlob S gs)) {bs : _} {told : Type 0} (opened : OpenedList) (old new : Timeline) (archive : IsArchive a bs told opened (disk old)) (t : told) where
  -- at each moment of the pair's removal each crash leaves what stands for the state, with the removal under way
  pub destroy_moments : IsSoundArchive a (disk old) → Keeping a.pair.layout (list_of a.pair (disk old)) (synced_length a.pair) (λ _. ⊤) (IsOwn a.pair.layout (λ _. ⊤)) old new
      → Always old new (Leaves (filing_of a) (state_of a (disk old)) (Some Destroy))
  destroy_moments sound keeping = always_weaker old new (LeavesAlone a.pair.layout (list_of a.pair (disk old)) (synced_length a.pair) (λ _. ⊤) (IsOwn a.pair.layout (λ _. ⊤)) (disk old)) (Leaves (filing_of a) (state_of a (disk old)) (Some Destroy))
      (λ d at. going_at a (disk old) archive t sound (λ _. ⊤) (Some Destroy) (λ s small. refl) (λ s small goes. refl) (λ _. ⊤) d at.others at.leaves) keeping

  module _ (removed : AreRemoved a (disk old) (disk new)) (sound : IsSoundArchive a (disk old)) where
    -- so no crash leaves a byte of a section
    pub none_left : (s : ℕ) → s < 2 ^ 64 → HasNoBytes (disk new (section_key a.pair.layout.index s)) × HasNoBytes (disk new (section_key a.pair.layout.values s))
    none_left s small = (
      elim (none_or_value (a.pair.index.sections.held s)) [
        | inl none ↦ subst HasNoBytes (sym (removed.untouched (section_key a.pair.layout.index s) (index_apart a.pair.layout archive.pair.apart (IsHeld a.pair.index.sections) (IsHeld a.pair.values) s small (λ held. cc (none, held))))) (sound.pair.sound.absent s small none)
        | inr some ↦ ap longest ((removed.gone s).0 (subst IsSome (sym some.1) refl))
      ],
      elim (none_or_value (a.pair.values.held s)) [
        | inl none ↦ subst HasNoBytes (sym (removed.untouched (section_key a.pair.layout.values s) (values_apart a.pair.layout archive.pair.apart (IsHeld a.pair.index.sections) (IsHeld a.pair.values) s small (λ held. cc (none, held))))) (sound.absent s small none)
        | inr some ↦ ap longest ((removed.gone s).1 (subst IsSome (sym some.1) refl))
      ],
    )

-- no blob of the archive is there
pub none_own : (l : Layout) (d : Disk) → NoneThere (IsBlobOf l (λ _. ⊤)) d → ((q : Key) → IsCopy l q → d q ≡ nothing) → NoneThere (IsOwn l (λ _. ⊤)) d
none_own l d gone copies q own there = elim own [
  | inl index ↦ gone q (inl index) there
  | inr (inl values) ↦ gone q (inr values) there
  | inr (inr copy) ↦ cc (subst (λ (b : Blob). IsTrue b.there) (copies q copy) there)
]

-- ---- the relation

module _ {A V F S D : Type 0} {gs : _} (p : Prunable A V F (PageBlob S gs)) (dev : device.Ghosts D) (a : A) (old new : D) where
  -- What a removal touches and leaves, however it ends.
  pub record RemovalGoes : Type 0 where
    pub moments : dev.Tells → IsSoundOver (meaning p) dev a old
        → Always (dev.time old) (dev.time new) (Leaves (filing_by p a) (state_over (meaning p) dev a old) (Some Destroy))
    pub footprint : Footprint dev (IsOwn (filing_by p a).layout (λ _. ⊤)) NoBound old new

  destroy_fault : (before now : ℕ) (e : Error) → IsDestroyCause before now e → IsFault e → Rose before now
  destroy_fault before now e cause (inl is) = subst (IsDestroyCause before now) is cause
  destroy_fault before now e cause (inr is) = subst (IsDestroyCause before now) is cause

  -- so does the pair's, and what that says is enough
  pub destroy_goes : MayUse (meaning p) dev a old
      → (dev.Tells → IsSafeOn (p.see a).pair (disk (dev.time old)) → Keeping (p.see a).pair.layout (list_of (p.see a).pair (disk (dev.time old))) (synced_length (p.see a).pair) (λ _. ⊤) (IsOwn (p.see a).pair.layout (λ _. ⊤)) (dev.time old) (dev.time new))
      → (dev.Tells → Always (dev.time old) (dev.time new) (λ d. (q : Key) → (IsOneOf (p.see a).pair.layout (IsHeld (p.see a).pair.index.sections) (IsHeld (p.see a).pair.values) q → ⊥) → d q ≡ disk (dev.time old) q))
      → ((q : Key) → (IsOwn (p.see a).pair.layout (λ _. ⊤) q → ⊥) → dev.opened new q ≡ dev.opened old q)
      → dev.faults old ≤ dev.faults new → RemovalGoes
  destroy_goes over moments untouched entries faults = record {
    moments = λ t sound. destroy_moments (p.see a) (dev.opened old) (dev.time old) (dev.time new) over t sound (moments t sound.pair);
    footprint = record {
      alone = λ t. always_weaker (dev.time old) (dev.time new) (λ d. (q : Key) → (IsOneOf (p.see a).pair.layout (IsHeld (p.see a).pair.index.sections) (IsHeld (p.see a).pair.values) q → ⊥) → d q ≡ disk (dev.time old) q)
          (λ d. (q : Key) → (IsOwn (p.see a).pair.layout (λ _. ⊤) q → ⊥) → d q ≡ disk (dev.time old) q)
          (λ d same q other. same q (λ one. other (one_more (p.see a).pair.layout (IsHeld (p.see a).pair.index.sections) (IsHeld (p.see a).pair.values) (λ _. ⊤) (λ s held. tt) (λ s held. tt) q one))) (untouched t);
      entries = entries;
      reads = λ q n none. absurd none;
      faults = faults;
    };
  }

  -- the same of another result that is equal
  pub removal_as : (r x : Result Unit Error) → r ≡ x → Removes p dev a x old new → Removes p dev a r old new
  removal_as r x is removes = subst (λ (y : Result Unit Error). Removes p dev a y old new) (sym is) removes

  module _ (goes : RemovalGoes) where
    removal_failed : (e : Error) → DestroyFailed p dev a e old new → Removes p dev a (Err e) old new
    removal_failed e why = record {
      destroys = record { moments = goes.moments; footprint = goes.footprint; ends = destroy_fault (dev.faults old) (dev.faults new) e why.cause };
      ends = why;
    }

    pub destroy_pair_failed : (U : Type 0) (e : journal.Error)
        → HasFailed (error_in U e) (dev.faults old) (dev.faults new) ⊎ HasLostMarkers (error_in U e) (dev.faults old) (dev.faults new)
        → (dev.Tells → HasLostMarkers (error_in U e) (dev.faults old) (dev.faults new) → (q : Key)
        → IsIndexOf (filing_by p a).layout (λ _. ⊤) q ⊎ IsValuesOf (filing_by p a).layout (λ _. ⊤) q → disk (dev.time new) q ≡ disk (dev.time old) q)
        → Removes p dev a (Err (raised e)) old new
    destroy_pair_failed U e why first = removal_failed (raised e)
        (raised_by U e (dev.faults old) (dev.faults new) (λ x. DestroyFailed p dev a x old new) why
        (record { cause = tt; first = λ t same. absurd (cc same) })
        (λ rose. record { cause = rose; first = λ t same. absurd (cc same) })
        (λ stops. record { cause = stops.1; first = λ t same q blob. first t stops q blob }))

    pub destroy_done : 1 ≤ (filing_by p a).layout.record_size → (done : Unit {0})
        → (dev.Tells → NoneThere (IsBlobOf (filing_by p a).layout (λ _. ⊤)) (disk (dev.time new)))
        → (dev.Tells → (q : Key) → IsCopy (filing_by p a).layout q → disk (dev.time new) q ≡ nothing)
        → (dev.Tells → IsSoundOver (meaning p) dev a old → (s : ℕ) → s < 2 ^ 64
        → HasNoBytes (disk (dev.time new) (section_key (filing_by p a).layout.index s)) × HasNoBytes (disk (dev.time new) (section_key (filing_by p a).layout.values s)))
        → Removes p dev a (Ok done) old new
    destroy_done some_bytes done gone copies empty =
        let rest : dev.Tells → IsSoundOver (meaning p) dev a old → Leaves (filing_by p a) (after_destroy (state_over (meaning p) dev a old)) None (disk (dev.time new)) = λ t sound.
        closed_rest (filing_by p a) some_bytes (state_over (meaning p) dev a old) (disk (dev.time new)) (λ s small. (empty t sound s small).0)
        (always_now (dev.time old) (dev.time new) (Leaves (filing_by p a) (state_over (meaning p) dev a old) (Some Destroy)) (goes.moments t sound)) in
        record {
          destroys = record {
            moments = goes.moments;
            footprint = goes.footprint;
            ends = record {
              next = λ t sound. after_destroy (state_over (meaning p) dev a old);
              step = λ t sound. refl;
              gone = λ t. none_own (filing_by p a).layout (disk (dev.time new)) (gone t) (copies t);
              rest = rest;
            };
          };
          ends = record {
            markers = copies;
            rest = rest;
            opened = λ t sound. opens_again (filing_by p a).layout some_bytes (disk (dev.time new)) (gone t) (empty t sound) (copies t);
          };
        }
