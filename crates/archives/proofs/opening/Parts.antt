-- What an opening of an archive does part by part, over plain variables: a replay is made, its records are entered, and it is ended.
use Rattle.std.proofs.Common.{◌≡◌, ◌≢◌, refl, ◌∙◌, ap, subst, ℕ, ◌+◌, ◌-◌, ◌*◌, ◌<◌, ◌≤◌, ◌^◌, List, length, map, IsTrue, Result, Ok, arith}
use Rattle.blob_device.specs.Opened.{reads_of}
use Rattle.blob_device.specs.Timeline.{Always, disk}
use Rattle.blob_device.specs.declared.device.Device as device
use Rattle.meta_store.specs.Store.{Stands, contents_of}
use Rattle.meta_store.specs.declared.error.Side.{Side}
use Rattle.archives.specs.lemmas.init.Records.{has_no_version, no_version_left, one_markers}
use Rattle.meta_store.specs.lemmas.Uses.{IsReadable}
use Rattle.paired.specs.lemmas.opening.Start.{read_alike, stored_alike}
use Rattle.sealed_pages.specs.declared.page_blob.PageBlob.{PageBlob}
use Rattle.section_manager.specs.Sections.{section_key}
use Rattle.paired.specs.Kept.{Layout, Markers, kept, marker_of, stored_records}
use Rattle.paired.specs.Crashes.{HoldMarkers}
use Rattle.paired.specs.Opening.{IsLawful, OnlyOpens, as_read}
use Rattle.paired.specs.OpeningFound.{HasFound}
use Rattle.paired.specs.Pair.{AreApart}
use Rattle.paired.specs.Replaying.{LeftAtMost, Run, marker, records_given}
use Rattle.archives.specs.Archives.{Buffers}
use Rattle.archives.specs.Enters.{Drains}
use Rattle.archives.specs.Filing.{Filing, kept_entries}
use Rattle.archives.specs.Opening.{HasNoVersion}
use Rattle.archives.specs.Opens.{HasForeign, HasToMove, HaveBadCopy, OfMarkers}
use Rattle.archives.specs.Rows.{Row}
use Rattle.archives.specs.declared.error.Error.{Error}
use Rattle.archives.specs.declared.prunable.limits.Limits.{Limits}
use Rattle.archives.proofs.init.Ends.{moved_kept}
use Rattle.archives.proofs.init.Moments.{EntriesStay, OthersStay, Recalling, StaysOpen, entries_on, open_as, others_on, recalling_on}

-- ---- what a part touches and leaves

module _ {D : Type 0} (dev : device.Ghosts D) where
  -- Of the blobs of this layout: what crashes leave, which others stay, and how often the values of a section are read at most.
  pub record Part (l : Layout) (most : ℕ → ℕ) (old new : D) : Type 0 where
    pub recalls : dev.Tells → Recalling l (dev.time old) (dev.time new)
    pub alone : dev.Tells → Always (dev.time old) (dev.time new) (OthersStay l (disk (dev.time old)))
    pub entries : EntriesStay l (dev.opened old) (dev.opened new)
    pub reads : dev.Tells → (s : ℕ) → s < 2 ^ 64 → reads_of (dev.opened new (section_key l.values s)) ≤ reads_of (dev.opened old (section_key l.values s)) + most s
    pub faults : dev.faults old ≤ dev.faults new

  pub part_as : (l m : Layout) → l ≡ m → (most : ℕ → ℕ) (old new : D) → Part l most old new → Part m most old new
  part_as l m same most old new part = subst (λ (x : Layout). Part x most old new) same part

  -- one part after another
  pub part_on : (l : Layout) (first second most : ℕ → ℕ) → ((s : ℕ) → first s + second s ≤ most s) → (old mid new : D)
      → Part l first old mid → (dev.Tells → StaysOpen l (dev.time old) (dev.time mid)) → Part l second mid new → Part l most old new
  part_on l first second most fits old mid new one opened two = record {
    recalls = λ t. recalling_on l (dev.time old) (dev.time mid) (dev.time new) (one.recalls t) (opened t) (two.recalls t);
    alone = λ t. others_on l (dev.time old) (dev.time mid) (dev.time new) (one.alone t) (two.alone t);
    entries = entries_on l (dev.opened old) (dev.opened mid) (dev.opened new) one.entries two.entries;
    reads = λ t s small. omega (arith, fits s, one.reads t s small, two.reads t s small);
    faults = omega (arith, one.faults, two.faults);
  }

  -- no more than the records of a section at or above its marker, whatever markers the image holds
  abbrev pub AreFew : Filing → D → (ℕ → ℕ) → Type 0
  AreFew f old most = dev.Tells → (markers : Markers) → HoldMarkers f.layout (as_read (disk (dev.time old))) markers
      → (s : ℕ) → most s ≤ length (stored_records f.layout (as_read (disk (dev.time old))) s) - marker_of markers.entries s

-- ---- a replay was made

module _ {F S D : Type 0} {gs : _} (dev : device.Ghosts D) (f : Filing) (old mid : D) (run : Run F (PageBlob S gs)) where
  -- The replay was made, and no byte has changed: it is over the layout that was asked for, and has found the markers and the sections.
  pub record Replayed : Type 1 where
    pub part : Part dev f.layout (λ s. 0) old mid
    pub opened : dev.Tells → StaysOpen f.layout (dev.time old) (dev.time mid)
    pub opens : dev.Tells → OnlyOpens f.layout (disk (dev.time old)) (disk (dev.time mid))
    pub here : run.layout ≡ f.layout
    pub partition : run.store.partition ≡ f.layout.metadata
    pub apart : AreApart f.layout
    pub marked : IsTrue f.layout.marked
    pub readable : IsReadable f.layout.markers
    pub found : dev.Tells → HasFound f.layout (disk (dev.time old)) (disk (dev.time mid)) run
    pub stands : dev.Tells → Stands f.layout.markers run.store (contents_of run.store) (disk (dev.time mid))
    pub floors : (s : ℕ) → run.walk.journal.floor_of s ≡ marker_of run.store.entries s * f.layout.record_size
    pub left : dev.Tells → (s : ℕ) → LeftAtMost run (disk (dev.time mid)) s (length (stored_records run.layout (as_read (disk (dev.time mid))) s) - marker run s)
    pub copies : dev.Tells → (side : Side) → HaveBadCopy f (disk (dev.time old)) side → ⊥
    pub names : dev.Tells → (name : List ℕ) → HasForeign f (disk (dev.time old)) name → ⊥

  -- how many records of a section stand at or above its marker
  abbrev pub left_behind : ℕ → ℕ
  left_behind s = length (stored_records f.layout (as_read (disk (dev.time old))) s) - marker_of run.store.entries s

  module _ (walked : Run F (PageBlob S gs)) (end : D) where
    -- Its records were entered, and the disk keeps what it did.
    pub record Entered : Type 1 where
      pub part : Part dev f.layout left_behind old end
      pub opened : dev.Tells → StaysOpen f.layout (dev.time old) (dev.time end)
      pub still : walked.layout ≡ f.layout
      pub store : walked.store ≡ run.store
      pub stays : dev.Tells → (s : ℕ) → s < 2 ^ 64 → kept f.layout (as_read (disk (dev.time end))) (marker run s) s ≡ kept f.layout (as_read (disk (dev.time mid))) (marker run s) s
      pub lawful_on : dev.Tells → IsLawful f.layout (as_read (disk (dev.time mid))) (contents_of run.store) → IsLawful f.layout (as_read (disk (dev.time end))) (contents_of run.store)

-- ---- what follows of it

module _ {F S D : Type 0} {gs : _} {dev : device.Ghosts D} {f : Filing} {old mid : D} {run : Run F (PageBlob S gs)} (r : Replayed dev f old mid run) where
  pub stored_same : dev.Tells → (s : ℕ) → stored_records run.layout (as_read (disk (dev.time mid))) s ≡ stored_records f.layout (as_read (disk (dev.time old))) s
  stored_same t s =
      ap (λ (y : Layout). stored_records y (as_read (disk (dev.time mid))) s) r.here
      ∙ stored_alike f.layout (as_read (disk (dev.time old))) (as_read (disk (dev.time mid))) (read_alike f.layout r.apart (disk (dev.time old)) (disk (dev.time mid)) (r.opens t)) s

  pub kept_same : dev.Tells → (s : ℕ) → s < 2 ^ 64
      → kept run.layout (as_read (disk (dev.time mid))) (marker run s) s ≡ kept_entries f (as_read (disk (dev.time old))) (contents_of run.store) s
  kept_same t s small = ap (λ (y : Layout). kept y (as_read (disk (dev.time mid))) (marker run s) s) r.here ∙ (r.found t).same s small

  -- the disk holds no other markers
  pub markers_are : dev.Tells → (markers : Markers) → HoldMarkers f.layout (as_read (disk (dev.time old))) markers → markers ≡ contents_of run.store
  markers_are t markers held = one_markers f.layout r.readable (as_read (disk (dev.time old))) markers (contents_of run.store) held (r.found t).markers

  pub few_left : AreFew dev f old (left_behind dev f old mid run)
  few_left t markers held s = (let same = ap (λ (ms : Markers). marker_of ms.entries s) (markers_are t markers held) in omega (arith, same))

  -- the markers have no next version now where they had none
  pub no_next : dev.Tells → 2 ^ 64 ≤ run.store.version + 1 → HasNoVersion f.layout (disk (dev.time old))
  no_next t over = has_no_version f.layout r.readable r.apart (disk (dev.time old)) (disk (dev.time mid)) (r.opens t) run.store r.partition (r.stands t) r.marked (r.found t).markers over

  pub none_before : dev.Tells → HasNoVersion f.layout (disk (dev.time old)) → 2 ^ 64 ≤ run.store.version + 1
  none_before t none = no_version_left f.layout r.readable r.apart (disk (dev.time old)) (disk (dev.time mid)) (r.opens t) run.store r.partition (r.stands t) none

  module _ {buffers : Buffers F (PageBlob S gs)} {key_size items : ℕ} {limits : Limits} {walked : Run F (PageBlob S gs)} {end : D}
      {T C : Type 0} {rows : T → ℕ → List Row} {AreTied : T → Type 0} {before after : C} where
    pub drained_part : {result : Result T Error} → Drains buffers dev key_size items limits run walked mid end rows AreTied before after result
        → Part dev f.layout (left_behind dev f old mid run) old end
    drained_part drains =
        part_on dev f.layout (λ s. 0) (left_behind dev f old mid run) (left_behind dev f old mid run) (λ s. omega arith) old mid end r.part r.opened
        (part_as dev run.layout f.layout r.here (left_behind dev f old mid run) mid end (record {
          recalls = drains.moments;
          alone = drains.footprint.alone;
          entries = drains.footprint.entries;
          reads = λ t s small. drains.footprint.reads (section_key run.layout.values s) (left_behind dev f old mid run s) (
            t,
            (
              s,
              small,
              refl,
              subst (λ (n : ℕ). LeftAtMost run (disk (dev.time mid)) s n) (ap (λ (xs : List (List ℕ)). length xs - marker run s) (stored_same t s)) (r.left t s),
            ),
          );
          faults = drains.footprint.faults;
        }))

    pub entered : {tables : T} → walked.layout ≡ run.layout → Drains buffers dev key_size items limits run walked mid end rows AreTied before after (Ok tables) → Entered dev f old mid run walked end
    entered same drains = record {
      part = drained_part drains;
      opened = λ t may. open_as run.layout f.layout r.here (dev.time mid) (dev.time end) ((drains.ends.told t).opened) (r.opened t may);
      still = same ∙ r.here;
      store = drains.same.store;
      stays = λ t s small. subst (λ (y : Layout). kept y (as_read (disk (dev.time end))) (marker run s) s ≡ kept y (as_read (disk (dev.time mid))) (marker run s) s) r.here ((drains.ends.told t).keeps s small);
      lawful_on = λ t. subst (λ (y : Layout). IsLawful y (as_read (disk (dev.time mid))) (contents_of run.store) → IsLawful y (as_read (disk (dev.time end))) (contents_of run.store)) r.here ((drains.ends.told t).lawful);
    }

  -- the replay was ended too
  pub ended_part : {walked : Run F (PageBlob S gs)} {end new : D} → Entered dev f old mid run walked end → Part dev walked.layout (λ s. 0) end new → Part dev f.layout (left_behind dev f old mid run) old new
  ended_part {walked} {end} {new} e part =
      part_on dev f.layout (left_behind dev f old mid run) (λ s. 0) (left_behind dev f old mid run) (λ s. omega arith) old end new e.part e.opened
      (part_as dev walked.layout f.layout e.still (λ s. 0) end new part)

  -- a marker that is not the number of records that were given has to move
  pub to_move : {walked : Run F (PageBlob S gs)} {end : D} → Entered dev f old mid run walked end → dev.Tells
      → ((s : ℕ) → s < 2 ^ 64 → map (λ x. x.stored) (kept walked.layout (as_read (disk (dev.time end))) (marker walked s) s) ≡ records_given walked (disk (dev.time end)) s)
      → (s : ℕ) → s < 2 ^ 64 → marker walked s ≢ length (records_given walked (disk (dev.time end)) s) → OfMarkers f (disk (dev.time old)) (HasToMove f (disk (dev.time old)))
  to_move {walked} {end} e t given s small moved = (
    contents_of run.store,
    (r.found t).markers,
    (
      s,
      small,
      moved_kept f r.readable run walked
          (disk (dev.time old)) (disk (dev.time mid)) (disk (dev.time end)) e.still e.store (r.found t) (e.stays t) given s small moved,
    ),
  )
