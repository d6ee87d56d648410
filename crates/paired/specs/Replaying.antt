-- What a replay of a pair shows, when it may be used, and which records it still has to give.
use Rattle.std.specs.Prelude.{◌≡◌, ◌≢◌, ◌⊎◌, ◌↔◌, ℕ, ◌+◌, ◌-◌, ◌*◌, ◌^◌, ◌<◌, ◌≤◌, cond, min, Bool, true, false, List, [], length, map, take, get_or, IsTrue, Option, None, Some, unwrap_or}
use Rattle.blob_device.specs.Disk.{Disk}
use Rattle.blob_device.specs.Opened.{OpenedList}
use Rattle.sealed_pages.specs.declared.page_blob.PageBlob.{PageBlob}
use Rattle.value_codec.specs.declared.codec.Error as codec
use Rattle.sealed_pages.specs.declared.write_blob.WriteBlob.{WriteBlob}
use Rattle.section_manager.specs.declared.buffer.SectionBuffer as buffer
use Rattle.section_manager.specs.declared.unsealed.WriteFactory.{WriteFactory}
use Rattle.section_manager.specs.Setting.{Setting}
use Rattle.section_manager.specs.Sections.{Sections, key_of, IsHeld}
use Rattle.segments.specs.FixedItems.{IsItem}
use Rattle.segments.specs.FixedLists.{AreSealed, IsProven, OwesHeld, OwesSettled, UnopenedLater, section_size}
use Rattle.segments.specs.FixedReplay.{Walk, HasWalk, IsWalk, WalksOver, SameWalk, IsAhead, IsIn, IsLeft, StandsBefore, StaysStill, kept_bytes}
use Rattle.meta_store.specs.Store.{Store, Stands, MayBeSynced, contents_of}
use Rattle.meta_store.specs.Calls.{IsOpened}
use Rattle.value_codec.specs.declared.key.Key8.{Key8}
use Rattle.paired.specs.glob.Sections.{IsGlob}
use Rattle.paired.specs.glob.Sections as glob
use Rattle.paired.specs.Kept.{Layout, IsMarked, IsSameLayout, marker_of}
use Rattle.paired.specs.Pair.{Pair, AreApart, AreMarkers, AreWhole, HasSettled}
use Rattle.paired.specs.Places.{last_end}
use Rattle.paired.specs.OpeningRefusing.{place_end}
use Rattle.paired.specs.Records.{Entry, records, is_sound, unbroken_prefix, entry_of}

-- How far an opening keeps the sections that it has gone over: of each in which a value failed, the
-- position of its record; and of each of which a record is kept, where the last one's value ends, as far
-- as a u64 counts.
pub record Limits : Type 0 where
  pub at : ℕ → Option ℕ
  pub values : ℕ → Option ℕ

-- where a value ends, as far as a u64 counts
abbrev pub counted_end : ℕ × ℕ → ℕ
counted_end place = min (place.0 + place.1) (2 ^ 64 - 1)

-- What is noted of a record of section s at p, whose value ends there: that it is kept, or else that
-- the section ends at it.
pub record NotesRecord (old new : Limits) (s p end : ℕ) (kept : Bool) : Type 0 where
  -- of a record that is kept, where its value ends,
  pub value : kept ≡ true → new.values s ≡ Some end
  -- and no section ends
  pub goes_on : kept ≡ true → (t : ℕ) → new.at t ≡ old.at t
  -- else the section ends at the record
  pub ends : kept ≡ false → new.at s ≡ Some p
  -- nothing of another section is noted,
  pub others : (t : ℕ) → t ≢ s → new.at t ≡ old.at t
  -- and no value of one that ends
  pub other_values : (t : ℕ) → (t ≢ s) ⊎ (kept ≡ false) → new.values t ≡ old.values t

-- How the pair is stored, the walk over its records, its values, its markers, and the length at the last
-- completed sync or opening of each section whose marker is another number. Whether it is the walk of an
-- opening by markers; how far that keeps the sections that it has gone over; the last section that ended
-- since its value could not be checked; and whether the replay gave an error.
pub record Run (F B : Type 0) : Type 1 where
  pub layout : Layout
  pub walk : Walk F B
  pub values : Sections WriteFactory WriteBlob
  pub store : Store Key8 ℕ
  pub trailing : ℕ → Option ℕ
  pub tracked : Bool
  pub ends : Limits
  pub ended_section : Option ℕ
  pub failed : Bool

-- the pair that is gone over
abbrev pub pair_of : {F B : Type 0} → Run F B → Pair F B
pair_of run = record {
  layout = run.layout;
  index = run.walk.journal;
  values = run.values;
  store = run.store;
  trailing = run.trailing;
}

-- the replay has given an error
abbrev pub HasFailed : {F B : Type 0} → Run F B → Type 0
HasFailed run = (run.failed ≡ true) ⊎ (run.walk.failed ≡ true)

-- no error has taken the buffer of a section's records
abbrev pub HasLostNone : {F B : Type 0} → Run F B → Type 0
HasLostNone run = (s : ℕ) → run.walk.journal.sections.unopened s ≡ None

module _ {F S : Type 0} {gs : _} (run : Run F (PageBlob S gs)) where
  -- the section's marker, 0 where there is none
  abbrev pub marker : ℕ → ℕ
  marker s = marker_of run.store.entries s

  module _ (d : Disk) where
    -- the records of a section that are gone over, from its first on
    abbrev pub records_over : ℕ → List (List ℕ)
    records_over s = records run.layout.record_size (kept_bytes run.layout.seal run.layout.record_size run.walk d s)

    -- a record is sound where its frame stands in the section's values
    abbrev pub is_sound_over : ℕ → List ℕ → Bool
    is_sound_over s r = is_sound run.layout.seal (glob.section_bytes run.values d s) (run.layout.place r)

    -- those of them that are given: an opening gives them up to the first one at or above the marker whose value fails
    abbrev pub records_given : ℕ → List (List ℕ)
    records_given s = cond run.tracked (unbroken_prefix (is_sound_over s) (marker s) 0 (records_over s)) (records_over s)

    -- the same, with their values
    abbrev pub entries_given : ℕ → List Entry
    entries_given s = map (entry_of run.layout.place (glob.section_bytes run.values d s)) (records_given s)

    -- record p of section s is still to be given
    pub record IsDue (s p : ℕ) : Type 0 where
      pub left : IsLeft run.layout.seal run.layout.record_size run.walk d s p
      pub goes_on : run.ended_section ≢ Some s
      pub given : p < length (records_given s)

    -- No error was given, or none that ended the section: some of it is left.
    abbrev pub IsUnbroken : ℕ → Type 0
    IsUnbroken s = (HasFailed run → ⊥) ⊎ ((run.ended_section ≢ Some s) × ((p : ℕ) × IsLeft run.layout.seal run.layout.record_size run.walk d s p))

    -- record p of section s is kept, if those before it are
    abbrev pub IsGood : ℕ → ℕ → Type 0
    IsGood s p = (p < marker s) ⊎ IsTrue (is_sound_over s (get_or (records_over s) p []))

    -- The value of record p fails, and those of the records from the marker on to it do not.
    pub record IsEnd (s p : ℕ) : Type 0 where
      pub within : p < length (records_over s)
      pub from : marker s ≤ p
      pub fails : is_sound_over s (get_or (records_over s) p []) ≡ false
      pub good : (q : ℕ) → q < p → IsGood s q

    -- of a section's records that are given the first n have been given, and the others are left
    pub record HasGiven (s n : ℕ) : Type 0 where
      pub within : n ≤ length (records_given s)
      pub past : (q : ℕ) → q < n → IsLeft run.layout.seal run.layout.record_size run.walk d s q → ⊥
      pub left : (q : ℕ) → n ≤ q → q < length (records_given s)
          → IsLeft run.layout.seal run.layout.record_size run.walk d s q

    -- Of a section that no error ended: each record that is not left, and not behind one whose value fails,
    -- is good; and the end is that record. What is left of a section stands behind its end. A section is
    -- ended only by an error, and none before it is left. Without an error it is known where the value of
    -- the last record ends that was given of a section.
    pub record IsChecked : Type 0 where
      pub good : (s p : ℕ) → IsUnbroken s → p < length (records_over s) → run.ends.at s ≡ None
          → IsGood s p ⊎ IsLeft run.layout.seal run.layout.record_size run.walk d s p
      pub ends : (s p : ℕ) → IsUnbroken s → run.ends.at s ≡ Some p → IsEnd s p
      pub values : (HasFailed run → ⊥) → (s n : ℕ) → HasGiven s n → unwrap_or (run.ends.values s) 0
          ≡ min (last_end run.layout.place (take n (records_given s))) (2 ^ 64 - 1)
      pub behind : (s p q : ℕ) → run.ends.at s ≡ Some p
          → IsLeft run.layout.seal run.layout.record_size run.walk d s q → p < q
      pub broken : (s : ℕ) → run.ended_section ≡ Some s → HasFailed run
      pub passed : (s t p : ℕ) → run.ended_section ≡ Some s → IsLeft run.layout.seal run.layout.record_size run.walk d t p → s ≤ t

    -- What the markers vouch for was proved: the value of the last record below a marker, where that record is there, ends within the section's
    -- values.
    pub record IsVouchedFor : Type 0 where
      pub bounded : (s m : ℕ) → IsMarked run.store.entries s m → 0 < m → m ≤ length (records_over s)
          → place_end run.layout.place (get_or (records_over s) (m - 1) []) ≤ glob.section_size run.values s

  -- The replay is that of an opening: it goes over all sections from their start on. All bytes of both parts have settled, and every section is
  -- known. Each marker's section is held and has a floor of as many records, no fewer bytes than that, and no more where it owes no replay; none
  -- ends below it. Nothing trails.
  pub record IsOpeningRun (g : buffer.Ghosts (PageBlob S gs)) (told : Type 0) (d : Disk) : Type 0 where
    pub start_section : run.walk.start_section ≡ 0
    pub start_position : run.walk.start_position ≡ 0
    pub index_floor : run.walk.journal.sections.floor ≡ 0
    pub values_floor : run.values.floor ≡ 0
    pub index_ceiling : run.walk.journal.sections.ceiling ≡ 2 ^ 64 - 1
    pub values_ceiling : run.values.ceiling ≡ 2 ^ 64 - 1
    pub index_known : run.walk.failed ≡ false → HasLostNone run
    pub values_known : (s : ℕ) → run.values.unopened s ≡ None
    pub trailing : (s : ℕ) → run.trailing s ≡ None
    pub floors : (s : ℕ) → run.walk.journal.floor_of s ≡ marker s * run.layout.record_size
    pub reached : run.walk.failed ≡ false → (s : ℕ) → run.walk.journal.floor_of s ≤ section_size run.walk.journal.sections s
    pub unowed : (s : ℕ) → run.walk.journal.unrecovered s ≡ false → section_size run.walk.journal.sections s ≤ run.walk.journal.floor_of s
    pub ends_from : (s p : ℕ) → run.ends.at s ≡ Some p → (s < 2 ^ 64) × (marker s ≤ p)
    pub marked : run.walk.failed ≡ false → (s m : ℕ) → IsMarked run.store.entries s m → IsHeld run.walk.journal.sections s
    pub index_settled : (s : ℕ) (u : PageBlob S gs) → run.walk.journal.sections.held s ≡ Some u → g.unsettled u ≡ false
    pub values_settled : (s : ℕ) → IsHeld run.values s → glob.IsAllSettled run.values s
    pub vouched : told → IsVouchedFor d
    pub checked : told → IsChecked d

  -- The replay is over a pair that is open, which it is again once no record is left, as long as no section is lost. No record is owed or checked.
  pub record IsLiveRun : Type 0 where
    pub whole : HasLostNone run → AreWhole (pair_of run)
    pub markers : HasLostNone run → AreMarkers (pair_of run)
    pub settled : HasLostNone run → HasSettled (pair_of run)
    pub known : run.walk.failed ≡ false → HasLostNone run
    pub proven : (s : ℕ) → IsProven run.walk.journal s
    pub ends : (s : ℕ) → run.ends.at s ≡ None
    pub goes_on : run.ended_section ≡ None

  -- The replay may be used: the walk and the values are those of their partitions, and the markers are synced.
  pub record IsRun (g : buffer.Ghosts (PageBlob S gs)) (gives : F → Setting) (h : buffer.Ghosts WriteBlob) (takes : WriteFactory → Setting) (told : Type 0) (opened : OpenedList) (d : Disk) : Type 0 where
    pub index : IsWalk g gives run.layout.seal run.layout.record_size told run.walk opened d
    pub values : IsGlob h takes told run.values opened d
    pub apart : AreApart run.layout
    pub metadata_opened : IsOpened run.store.partition opened
    pub storable : MayBeSynced run.layout.markers run.store.entries
    pub synced : run.store.staged ≡ false
    pub markers : told → Stands run.layout.markers run.store (contents_of run.store) d
    pub opening : run.tracked ≡ true → IsOpeningRun g told d
    pub live : run.tracked ≡ false → IsLiveRun

-- The record v of section s at p is the first that was due, and those behind it are due.
pub record GivesRecord {F S V : Type 0} {gs : _} (spelling : V → List ℕ) (accepted : V → Unit {0} → Type 0) (old new : Run F (PageBlob S gs)) (d e : Disk) (s p : ℕ) (v : V) : Type 0 where
  pub due : IsDue old d s p
  pub first : (t q : ℕ) → IsDue old d t q → StandsBefore t q s p → ⊥
  pub item : IsItem spelling accepted (get_or (records_given old d s) p []) v
  pub rest : (t q : ℕ) → IsDue new e t q ↔ (IsDue old d t q × StandsBefore s p t q)

-- An error ended the replay, or that of section s, before which none was due; the records of later sections are due as before.
pub record LosesRecords {F S : Type 0} {gs : _} (old new : Run F (PageBlob S gs)) (d e : Disk) : Type 0 where
  pub rest : (new.walk.ended ≡ true) ⊎ ((s : ℕ) × ((t q : ℕ) → IsDue old d t q → t < s → ⊥) × ((t q : ℕ) → IsDue new e t q ↔ (IsDue old d t q × (s < t))))

-- A section is being cut: it owes a replay, and has more bytes than its whole records. No record of it is due, and none of an earlier one.
pub record IsCutting {F S : Type 0} {gs : _} (told : Type 0) (run : Run F (PageBlob S gs)) (d : Disk) : Type 0 where
  pub section : ℕ
  pub near : IsAhead run.walk section ⊎ IsIn run.walk section
  pub owes : IsTrue (run.walk.journal.unrecovered section)
  pub longer : told → length (records_over run d section) * run.layout.record_size < section_size run.walk.journal.sections section
  pub given : told → (t q : ℕ) → IsDue run d t q → t ≤ section → ⊥

-- The bytes of some record that is left, before which none is due, are refused with e.
pub record IsUnspelled {F S : Type 0} {gs : _} (refusal : List ℕ → Unit {0} → Option codec.Error) (run : Run F (PageBlob S gs)) (d : Disk) (e : codec.Error) : Type 0 where
  pub section : ℕ
  pub position : ℕ
  pub left : IsLeft run.layout.seal run.layout.record_size run.walk d section position
  pub first : (t q : ℕ) → IsDue run d t q → StandsBefore t q section position → ⊥
  pub refused : refusal (get_or (records_over run d section) position []) tt ≡ Some e

-- of the records of a section at or above its marker at most n are left
abbrev pub LeftAtMost : {F S : Type 0} {gs : _} → Run F (PageBlob S gs) → Disk → ℕ → ℕ → Type 0
LeftAtMost run d s n = (p : ℕ) → IsLeft run.layout.seal run.layout.record_size run.walk d s p → marker run s ≤ p → length (records_over run d s) ≤ p + n

-- A replay neither flushes nor cuts the section, if it is held.
abbrev pub IsStill : {F S : Type 0} {gs : _} → Run F (PageBlob S gs) → Disk → ℕ → Type 0
IsStill run d s = (u : PageBlob _ _) → run.walk.journal.sections.held s ≡ Some u → StaysStill run.layout.seal run.layout.record_size (run.walk.journal.unrecovered s) u (d (key_of run.walk.journal.sections s))

-- All records of the section are given; its values end with the last record's, and stand in a section with records alone.
pub record IsClean {F S : Type 0} {gs : _} (run : Run F (PageBlob S gs)) (d : Disk) (s : ℕ) : Type 0 where
  pub given : records_given run d s ≡ records_over run d s
  pub values : glob.section_size run.values s ≡ last_end run.layout.place (records_over run d s)
  pub held : IsHeld run.values s → IsHeld run.walk.journal.sections s

-- That is so of each section, and its marker counts its records.
pub record IsAllKept {F S : Type 0} {gs : _} (run : Run F (PageBlob S gs)) (d : Disk) : Type 0 where
  pub clean : (s : ℕ) → IsClean run d s
  pub markers : (s : ℕ) → marker run s ≡ length (records_over run d s)

-- A record of section s at p, whose value is at this place, is sorted: it is kept where Kept. In an opening, that is where the section has not
-- ended, by an error or at an earlier record, and it stands below the marker or its value is sound; else the section ends there, at the latest.
-- Where it is kept in an opening, its value is the last one that is kept of the section.
pub record Sorts {F S : Type 0} {gs : _} (old new : Run F (PageBlob S gs)) (d : Disk) (s p : ℕ) (location : ℕ × ℕ) (Kept : Type 0) : Type 0 where
  pub kept : Kept ↔ ((old.tracked ≡ false)
      ⊎ ((old.ended_section ≢ Some s) × (old.ends.at s ≡ None) × ((p < marker old s)
      ⊎ IsTrue (is_sound old.layout.seal (glob.section_bytes old.values d s) location))))
  pub goes_on : Kept → (t : ℕ) → new.ends.at t ≡ old.ends.at t
  pub ends : (Kept → ⊥) → old.ended_section ≢ Some s
      → new.ends.at s ≡ Some (unwrap_or (old.ends.at s) p)
  pub ended : old.ended_section ≡ Some s → new.ends.at s ≡ old.ends.at s
  pub others : (t : ℕ) → t ≢ s → new.ends.at t ≡ old.ends.at t
  pub value : Kept → old.tracked ≡ true → new.ends.values s ≡ Some (counted_end location)
  pub other_values : (t : ℕ) → (t ≢ s) ⊎ (Kept → ⊥) → new.ends.values t ≡ old.ends.values t

-- the same replay, over the same sections, with the same markers and values
pub record SameRun {F B : Type 0} (old new : Run F B) : Type 0 where
  pub layout : IsSameLayout old.layout new.layout
  pub walk : SameWalk old.walk new.walk
  pub values : new.values ≡ old.values
  pub store : new.store ≡ old.store
  pub trailing : new.trailing ≡ old.trailing
  pub tracked : new.tracked ≡ old.tracked
  pub later : HasFailed old → HasFailed new

-- The pair p is that over which the replay went: with the same sections, values and markers, and what they were known to be over whatever disk, it
-- may be used as it might before.
pub record GivesBack {F S : Type 0} {gs : _} (run : Run F (PageBlob S gs)) (p : Pair F (PageBlob S gs)) : Type 0 where
  pub layout : IsSameLayout run.layout p.layout
  pub sections : p.index.sections ≡ run.walk.journal.sections
  pub values : p.values ≡ run.values
  pub store : p.store ≡ run.store
  pub trailing : p.trailing ≡ run.trailing
  pub live : IsLiveRun run → AreWhole p × AreMarkers p × HasSettled p
  pub owes : HasWalk run.layout.record_size run.walk → OwesHeld p.index × OwesSettled p.index
  pub sealed : (d : Disk) → WalksOver run.layout.seal run.layout.record_size run.walk d → AreSealed run.layout.seal run.layout.record_size p.index d × UnopenedLater p.index
