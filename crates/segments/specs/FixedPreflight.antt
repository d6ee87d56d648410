-- What checking markers of a fixed journal does, while its sections are opened.
use Rattle.std.specs.Prelude.{◌≡◌, ◌≢◌, ◌⊎◌, ◌↔◌, ℕ, ◌-◌, ◌*◌, ◌^◌, ◌<◌, ◌≤◌, false, List, Option, Some, None, IsSome, IsSomeAnd, Result, Err, IfOk, OnOk, OnErr, IsTrue}
use Rattle.std.specs.Result.{IsErrOf}
use Rattle.blob_device.specs.Disk.{Blob, Key}
use Rattle.blob_device.specs.Timeline.{disk, Always, Each}
use Rattle.blob_device.specs.declared.device.Device as device
use Rattle.value_codec.specs.declared.codec.Error as codec
use Rattle.sealed_pages.specs.Reading.{Unchanged}
use Rattle.sealed_pages.specs.Reads.{IsCovered}
use Rattle.sealed_pages.specs.SealedPrefix.{data_from}
use Rattle.sealed_pages.specs.View.{view}
use Rattle.sealed_pages.specs.declared.page_blob.PageBlob.{PageBlob}
use Rattle.sealed_pages.specs.declared.pages.Pages.{Pages}
use Rattle.section_manager.specs.Lasting.{IsSettling}
use Rattle.section_manager.specs.Refusing.{HasFailed, IsForeign}
use Rattle.section_manager.specs.Sections.{section_key, IsHeld}
use Rattle.section_manager.specs.Setting.{Setting}
use Rattle.section_manager.specs.declared.buffer.SectionBuffer as buffer
use Rattle.section_manager.specs.declared.journal.Damage.{Damage}
use Rattle.section_manager.specs.declared.journal.Error.{Error}
use Rattle.section_manager.specs.declared.journal.Error.TheVariants.{Codec, Corruption, InvalidBlobName}
use Rattle.section_manager.specs.declared.unopened.Unopened.TheVariants.{Section, Leftover}
use Rattle.segments.specs.FixedFloors.{Floors, IsBoundary, IsRefused, Keeps, KeepsBoundary}
use Rattle.segments.specs.FixedLists.{Lists, section_bytes, section_size, IsJournal}

module _ {F S V D : Type 0} {gs : _} (g : buffer.Ghosts (PageBlob S gs)) (gives : F → Setting)
    (seal : List ℕ → ℕ) (size : ℕ) (spelling : V → List ℕ) (accepted : V → Unit {0} → Type 0)
    (refusal : List ℕ → Unit {0} → Option codec.Error) (place : List ℕ) (paged : Pages)
    (capacity most : ℕ) (marks : ℕ → Option ℕ) (dev : device.Ghosts D) where
  -- the blob of a section on this device
  abbrev pub blob_at : D → ℕ → Blob
  blob_at d s = disk (dev.time d) (section_key place s)

  -- its name is that of no section
  abbrev pub HasForeign : D → List ℕ → Type 0
  HasForeign d name = IsForeign (disk (dev.time d)) place name

  -- Markers were checked, of the sections that have one, of so many first items. `see` shows what
  -- was found, and `journal` the journal that was opened for it.
  pub record ChecksFloors {T : Type 0} (see : T → Floors V) (journal : T → Lists F (PageBlob S gs))
      (result : Result T Error) (old new : D) : Type 0 where
    -- a section's floor is where its marked items end
    pub floors : IfOk result (λ r. (s n : ℕ) → marks s ≡ Some n → (see r).floor_of s ≡ n * size)
    -- without a marker it is 0
    pub none : IfOk result (λ r. (s : ℕ) → marks s ≡ None → (see r).floor_of s ≡ 0)
    -- and there is no boundary
    pub unmarked : IfOk result (λ r. (s : ℕ) → marks s ≡ None → (see r).boundary_of s ≡ None)
    -- a marker of no item has none below it
    pub empty : IfOk result (λ r. (s : ℕ) → marks s ≡ Some 0 → (see r).boundary_of s ≡ Some None)
    -- any other has the last item that is spelled there, where matching slots cover it
    pub boundary : dev.Tells → IfOk result (λ r. (s n : ℕ) → marks s ≡ Some n → 0 < n
        → IsSomeAnd ((see r).boundary_of s) (λ o. IsSomeAnd o
        (IsBoundary seal paged.page_size size spelling accepted (blob_at old s).content n)))
    -- a marked section has a blob
    pub there : dev.Tells → OnOk result ((s : ℕ) → IsSome (marks s)
        → IsTrue (blob_at old s).there)
    -- whose marked bytes a u64 counts
    pub fits : OnOk result ((s n : ℕ) → marks s ≡ Some n → n * size < 2 ^ 64)
    -- the partition is that of the configuration
    pub partition : IfOk result (λ r. (see r).partition ≡ place)
    -- so are the pages
    pub pages : IfOk result (λ r. (see r).pages ≡ paged)
    -- there is no checkpoint
    pub target : IfOk result (λ r. (see r).target ≡ None)
    -- the write buffer is that of the configuration
    pub write_buffer : IfOk result (λ r. (see r).write_buffer ≡ capacity)
    -- the bound is that of the opening
    pub ceiling : IfOk result (λ r. (see r).ceiling ≡ most)
    -- the journal may be used
    pub over : IfOk result (λ r. IsJournal g gives seal size dev.Tells (journal r)
        (dev.opened new) (disk (dev.time new)))
    -- it holds the sections up to the bound that were there
    pub held : dev.Tells → IfOk result (λ r. (s : ℕ) → s < 2 ^ 64
        → IsHeld (journal r).sections s ↔ (IsTrue (blob_at old s).there × (s ≤ most)))
    -- and knows of those above it
    pub unopened : dev.Tells → IfOk result (λ r. (s : ℕ) → s < 2 ^ 64
        → ((journal r).sections.unopened s ≡ Some Section)
        ↔ (IsTrue (blob_at old s).there × (most < s)))
    -- nothing is left over
    pub no_leftover : IfOk result (λ r. (s : ℕ)
        → (journal r).sections.unopened s ≢ Some Leftover)
    -- what is known and not held stands above the bound, also where the disk is not told
    pub later : IfOk result (λ r. (s : ℕ) → IsSome ((journal r).sections.unopened s) → most < s)
    -- a held section has the bytes that opening its blob finds
    pub bytes : dev.Tells → IfOk result (λ r. (s : ℕ) → IsHeld (journal r).sections s
        → section_bytes (journal r).sections (disk (dev.time new)) s
        ≡ g.holds (gives (journal r).sections.factory) (blob_at old s).content)
    -- a section with more bytes than its floor owes a replay, and no other does
    pub unrecovered : IfOk result (λ r. (s : ℕ) → IsTrue ((journal r).unrecovered s)
        ↔ ((see r).floor_of s < section_size (journal r).sections s))
    -- none has fewer
    pub reached : IfOk result (λ r. (s : ℕ)
        → (see r).floor_of s ≤ section_size (journal r).sections s)
    -- nothing is unsettled
    pub idle : IfOk result (λ r. (s : ℕ) (u : _) → (journal r).sections.held s ≡ Some u
        → g.unsettled u ≡ false)
    -- nothing is pruned
    pub floor : IfOk result (λ r. (journal r).sections.floor ≡ 0)
    -- a marker is refused only where no blob is there, its bytes pass a u64, or its last item is
    -- not sealed
    pub damage : dev.Tells → (x : Damage) → IsErrOf result (Corruption x)
        → IsSomeAnd (marks x.section)
        (λ n. IsRefused seal paged.page_size size (blob_at old x.section) n x)
    -- never where the items are all sealed
    pub whole : dev.Tells → ((s n : ℕ) → marks s ≡ Some n
        → Keeps seal paged.page_size size (blob_at old s) n)
        → (x : Damage) → IsErrOf result (Corruption x) → ⊥
    -- It is the first one that is, by this error or by the codec's: each marked section before it
    -- has its last item.
    pub first : dev.Tells → (x : Damage) → IsErrOf result (Corruption x)
        → (s n : ℕ) → s < x.section → marks s ≡ Some n
        → KeepsBoundary seal paged.page_size size spelling accepted (blob_at old s) n
    -- the codec's error is that of the first one whose bytes are no item
    pub refused : dev.Tells → (e : codec.Error) → IsErrOf result (Codec e)
        → (s n : ℕ) × (marks s ≡ Some n) × (0 < n)
        × (refusal (data_from paged.page_size (view (blob_at old s).content)
        ((n - 1) * size) size) tt ≡ Some e)
        × IsCovered seal paged.page_size (blob_at old s).content ((n - 1) * size) size
        × ((q m : ℕ) → q < s → marks q ≡ Some m
        → KeepsBoundary seal paged.page_size size spelling accepted (blob_at old q) m)
    -- at every moment, also where the call fails, each blob of the partition is as before, or
    -- settled as it read
    pub moments : dev.Tells → Always (dev.time old) (dev.time new)
        (Each (IsSettling place most (disk (dev.time old))))
    -- a name that is no section's is refused, also above a bound, and no marker is
    pub foreign : dev.Tells → (name : List ℕ) → HasForeign old name
        → OnOk result ⊥ × ((x : Damage) → IsErrOf result (Corruption x) → ⊥)
    -- nor an item
    pub foreign_items : dev.Tells → (name : List ℕ) → HasForeign old name
        → (e : codec.Error) → IsErrOf result (Codec e) → ⊥
    -- then nothing was changed
    pub foreign_disk : dev.Tells → (name : List ℕ) → HasForeign old name
        → Unchanged (dev.time old) (dev.time new)
    -- or opened
    pub foreign_entries : dev.Tells → (name : List ℕ) → HasForeign old name
        → dev.opened new ≡ dev.opened old
    -- nor where a name is refused and no disk is told
    pub name_entries : (n : List ℕ) → result ≡ Err (InvalidBlobName n)
        → dev.opened new ≡ dev.opened old
    -- a name that is refused is there, and is no section's
    pub named : dev.Tells → (n : List ℕ) → result ≡ Err (InvalidBlobName n) → HasForeign old n
    -- the list of opened blobs changes for sections up to the bound alone
    pub entries : (q : Key) → ((s : ℕ) → s ≤ most → q ≢ section_key place s)
        → dev.opened new q ≡ dev.opened old q
    -- faults are counted on
    pub faults : dev.faults old ≤ dev.faults new
    -- nothing else is answered but a fault or want of memory
    pub cause : OnErr result (((n : List ℕ) × IsErrOf result (InvalidBlobName n))
        ⊎ (((x : Damage) × IsErrOf result (Corruption x))
        ⊎ (((e : codec.Error) × IsErrOf result (Codec e))
        ⊎ HasFailed result (dev.faults old) (dev.faults new))))
