-- What an opening by markers has found where it answers Ok, what an error of it says of the disk, and what its end has kept.
use Rattle.std.specs.Prelude.{◌≡◌, ◌≢◌, ◌⊎◌, ◌↔◌, ℕ, ◌^◌, ◌<◌, List, length, map, take, IsTrue, Option, None, Result, Err}
use Rattle.std.specs.List.{AllByRecursion}
use Rattle.std.specs.Result.{IsErrOf}
use Rattle.blob_device.specs.Disk.{Disk, nothing}
use Rattle.sealed_pages.specs.declared.page_blob.PageBlob.{PageBlob}
use Rattle.value_codec.specs.declared.codec.Error as codec
use Rattle.meta_store.specs.declared.error.Error.TheVariants as metadata
use Rattle.meta_store.specs.declared.error.Side.{Side}
use Rattle.meta_store.specs.Opening.{PairOn}
use Rattle.meta_store.specs.Store.{contents_of}
use Rattle.section_manager.specs.declared.journal.Error.{Error}
use Rattle.section_manager.specs.declared.journal.Error.TheVariants as journal
use Rattle.section_manager.specs.Refusing.{IsForeign}
use Rattle.section_manager.specs.Sections.{section_key, IsHeld, SamePlace}
use Rattle.paired.specs.glob.Sections as glob
use Rattle.paired.specs.Kept.{Layout, Markers, IsMarked, IsSameLayout, kept_by, marker_of}
use Rattle.paired.specs.Crashes.{HoldMarkers}
use Rattle.paired.specs.Opening.{as_read, IsLawful, MayBeOpened}
use Rattle.paired.specs.OpeningRefusing.{IsLost, IsProved, IsUnreadable}
use Rattle.paired.specs.Pair.{HasNoBytes, Pair, IsSoundOn, length_of, list_of, records_of, synced_length}
use Rattle.paired.specs.Places.{Follow, last_end}
use Rattle.paired.specs.Replaying.{Run, IsDue, is_sound_over, marker, records_given}

module _ (l : Layout) (from : Disk) where
  -- The replay has the markers that the copies hold, what each vouches for was proved, and it holds the sections that have blobs. All records that
  -- are given are still to be given. What the disk now keeps is what it kept, and a lawful image is one still.
  pub record HasFound {F S : Type 0} {gs : _} (to : Disk) (run : Run F (PageBlob S gs)) : Type 0 where
    pub markers : HoldMarkers l (as_read from) (contents_of run.store)
    pub proved : (s m : ℕ) → IsMarked run.store.entries s m → IsProved l from s m
    pub index_held : (s : ℕ) → s < 2 ^ 64 → IsHeld run.walk.journal.sections s ↔ IsTrue (from (section_key l.index s)).there
    pub values_held : (s : ℕ) → s < 2 ^ 64 → IsHeld run.values s ↔ IsTrue (from (section_key l.values s)).there
    pub due : (s p : ℕ) → IsDue run to s p ↔ (p < length (records_given run to s))
    pub same : (s : ℕ) → s < 2 ^ 64 → kept_by l (as_read to) (contents_of run.store) s ≡ kept_by l (as_read from) (contents_of run.store) s
    pub lawful : (markers : Markers) → IsLawful l (as_read from) markers → IsLawful l (as_read to) (contents_of run.store)

  -- An error has its cause on the disk: the copy that it names is damaged, or the blob that it names is foreign; a marker is lost, or the last
  -- record below one is refused by the codec.
  pub record HasCause {T : Type 0} (refusal : List ℕ → Unit {0} → Option codec.Error) (result : Result T Error) : Type 0 where
    pub corrupt : (side : Side) → IsErrOf result (journal.Metadata (metadata.Corruption side)) → PairOn l.markers l.metadata from (Err side)
    pub named : (n : List ℕ) → result ≡ Err (journal.InvalidBlobName n) → IsForeign from l.index n ⊎ IsForeign from l.values n
    pub damage : (x : _) → IsErrOf result (journal.Corruption x) → (markers : Markers) × HoldMarkers l (as_read from) markers × IsLost l (IsMarked markers.entries) from x
    pub refused : (e : codec.Error) → IsErrOf result (journal.Codec e) → (markers : Markers) × HoldMarkers l (as_read from) markers × IsUnreadable l (IsMarked markers.entries) refusal from e

module _ {F S : Type 0} {gs : _} (run : Run F (PageBlob S gs)) where
  -- The values of the records that are given of a section stand one behind the other from 0 on, each sound.
  pub record GivesInPlace (d : Disk) (s : ℕ) : Type 0 where
    pub end : ℕ
    pub follow : Follow run.layout.place 0 (records_given run d s) end
    pub sound : AllByRecursion (λ r. IsTrue (is_sound_over run d s r)) (records_given run d s)

  -- Each section of the pair has the records that were given, which are those that the disk kept, and the values up to the end of the last one's;
  -- values without records are gone. Where the values of the given records are in place, as on a lawful disk, the lists are what the disk kept,
  -- and the pair is sound, whatever stood behind them. No crash brings values back into a section that has none.
  pub record HasKept (from to : Disk) (p : Pair F (PageBlob S gs)) : Type 0 where
    pub records : (s : ℕ) → records_of p to s ≡ records_given run from s
    pub stored : (s : ℕ) → s < 2 ^ 64 → records_of p to s ≡ map (λ e. e.stored) (kept_by run.layout (as_read from) (contents_of run.store) s)
    pub values : (s : ℕ) → IsHeld run.walk.journal.sections s → glob.section_bytes p.values to s ≡ take (last_end run.layout.place (records_given run from s)) (glob.section_bytes run.values from s)
    pub orphans : (s : ℕ) → IsHeld run.values s → run.walk.journal.sections.held s ≡ None → to (section_key run.layout.values s) ≡ nothing
    pub in_place : IsLawful run.layout (as_read from) (contents_of run.store) → (s : ℕ) → GivesInPlace from s
    pub lists : (s : ℕ) → s < 2 ^ 64 → GivesInPlace from s → list_of p to s ≡ kept_by run.layout (as_read from) (contents_of run.store) s
    pub sound : MayBeOpened run.layout from → ((s : ℕ) → GivesInPlace from s) → IsSoundOn p to
    pub bare : MayBeOpened run.layout from → (s : ℕ) → s < 2 ^ 64 → p.values.held s ≡ None → HasNoBytes (to (section_key run.layout.values s))

  -- The pair has the sections of the replay with a blob of records, though it be empty, and no floor of sections. Each marker is the section's
  -- number of records, no marker counting as 0, and all was synced. Only a marker that moves is staged; the markers keep their floor. Partitions,
  -- pages and write buffers are those of the replay.
  pub record CountsAll (p : Pair F (PageBlob S gs)) : Type 0 where
    pub held : (s : ℕ) → IsHeld p.index.sections s ↔ IsHeld run.walk.journal.sections s
    pub values_held : (s : ℕ) → IsHeld p.values s ↔ (IsHeld run.values s × IsHeld run.walk.journal.sections s)
    pub markers : (s : ℕ) → marker_of p.store.entries s ≡ length_of p s
    pub synced : (s : ℕ) → synced_length p s ≡ length_of p s
    pub marked : (s m : ℕ) → IsMarked p.store.entries s m → IsMarked run.store.entries s m ⊎ ((m ≡ length_of p s) × (m ≢ marker run s))
    pub still : ((s : ℕ) → marker run s ≡ length_of p s) → p.store ≡ run.store
    pub floors : (p.index.sections.floor ≡ 0) × (p.values.floor ≡ 0)
    pub marker_floor : p.store.floor ≡ run.store.floor
    pub places : SamePlace run.walk.journal.sections p.index.sections × SamePlace run.values p.values
    pub layout : IsSameLayout run.layout p.layout
