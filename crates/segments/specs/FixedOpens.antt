-- What an opening of a fixed journal up to a section promises.
use Rattle.std.specs.Prelude.{◌≡◌, ◌≢◌, ◌⊎◌, ◌↔◌, ℕ, ◌+◌, ◌^◌, ◌<◌, ◌≤◌, false, List, None, Some, Result, IfOk, OnOk, OnErr, IsTrue, IsSome}
use Rattle.std.specs.Result.{IsErrOf}
use Rattle.blob_device.specs.Disk.{Key}
use Rattle.blob_device.specs.Timeline.{disk, Always, Each}
use Rattle.blob_device.specs.declared.device.Device as device
use Rattle.sealed_pages.specs.Reading.{Unchanged}
use Rattle.sealed_pages.specs.declared.page_blob.PageBlob.{PageBlob}
use Rattle.sealed_pages.specs.declared.pages.Pages.{Pages}
use Rattle.section_manager.specs.Lasting.{IsSettling}
use Rattle.section_manager.specs.Refusing.{HasFailed, IsForeign}
use Rattle.section_manager.specs.Sections.{section_key, IsHeld}
use Rattle.section_manager.specs.Setting.{Setting}
use Rattle.section_manager.specs.declared.buffer.SectionBuffer as buffer
use Rattle.section_manager.specs.declared.journal.Error.{Error}
use Rattle.section_manager.specs.declared.journal.Error.TheVariants.{InvalidBlobName}
use Rattle.section_manager.specs.declared.sealed.AppendFactory.{AppendFactory}
use Rattle.section_manager.specs.declared.unopened.Unopened.TheVariants.{Section, Leftover}
use Rattle.segments.specs.FixedLists.{Lists, section_bytes, section_size, IsJournal}

-- The sections of the partition `place` were opened up to the section `most`, in pages of this kind
-- and with so large a write buffer.
module _ {S D : Type 0} {gs : _} (g : buffer.Ghosts (PageBlob S gs))
    (gives : AppendFactory S → Setting) (seal : List ℕ → ℕ) (size : ℕ) (place : List ℕ)
    (paged : Pages) (capacity most : ℕ) (dev : device.Ghosts D)
    (result : Result (Lists (AppendFactory S) (PageBlob S gs)) Error) (old new : D) where
  pub record Opens : Type 0 where
    -- the journal may be used
    pub over : IfOk result (λ k.
        IsJournal g gives seal size dev.Tells k (dev.opened new) (disk (dev.time new)))
    -- it holds the sections up to the bound that are there
    pub held : dev.Tells → IfOk result (λ k. (s : ℕ) → s < 2 ^ 64 → IsHeld k.sections s
        ↔ (IsTrue (disk (dev.time old) (section_key place s)).there × (s ≤ most)))
    -- and knows the later ones
    pub unopened : dev.Tells → IfOk result (λ k. (s : ℕ) → s < 2 ^ 64
        → (k.sections.unopened s ≡ Some Section)
        ↔ (IsTrue (disk (dev.time old) (section_key place s)).there × (most < s)))
    -- no call on one of them failed
    pub no_leftover : IfOk result (λ k. (s : ℕ) → k.sections.unopened s ≢ Some Leftover)
    -- also where no disk is told, what is known and not held stands above the bound
    pub later : IfOk result (λ k. (s : ℕ) → IsSome (k.sections.unopened s) → most < s)
    -- so there is none where the bound is the greatest number
    pub unbounded : 2 ^ 64 ≤ most + 1
        → IfOk result (λ k. (s : ℕ) → k.sections.unopened s ≡ None)
    -- each section has the bytes that adopting its blob finds
    pub bytes : dev.Tells → IfOk result (λ k. (s : ℕ) → IsHeld k.sections s
        → section_bytes k.sections (disk (dev.time new)) s
        ≡ g.holds (gives k.sections.factory) (disk (dev.time old) (section_key place s)).content)
    -- a section with bytes owes a replay, and no other does
    pub unrecovered : IfOk result (λ k. (s : ℕ) → IsTrue (k.unrecovered s)
        ↔ (0 < section_size k.sections s))
    -- no marker stands in for one
    pub floors : IfOk result (λ k. (s : ℕ) → k.floor_of s ≡ 0)
    -- nothing is unsettled
    pub idle : IfOk result (λ k. (s : ℕ) (u : PageBlob S gs) → k.sections.held s ≡ Some u
        → g.unsettled u ≡ false)
    -- the partition is that of the configuration
    pub partition : IfOk result (λ k. k.sections.partition ≡ place)
    -- so are the pages
    pub pages : IfOk result (λ k. k.sections.factory.pages ≡ paged)
    -- and the write buffer
    pub write_buffer : IfOk result (λ k. k.sections.factory.write_buffer ≡ capacity)
    -- nothing is pruned
    pub floor : IfOk result (λ k. k.sections.floor ≡ 0)
    -- the bound is kept
    pub ceiling : IfOk result (λ k. k.sections.ceiling ≡ most)
    -- at each moment, also where the call fails, each blob of the partition is as before, or
    -- settled as it read
    pub moments : dev.Tells → Always (dev.time old) (dev.time new)
        (Each (IsSettling place most (disk (dev.time old))))
    -- a name that is no section's is refused, also above the bound
    pub foreign : dev.Tells → (name : List ℕ) → IsForeign (disk (dev.time old)) place name
        → OnOk result ⊥
    -- then nothing was changed
    pub foreign_disk : dev.Tells → (name : List ℕ) → IsForeign (disk (dev.time old)) place name
        → Unchanged (dev.time old) (dev.time new)
    -- or opened
    pub foreign_entries : dev.Tells → (name : List ℕ)
        → IsForeign (disk (dev.time old)) place name → dev.opened new ≡ dev.opened old
    -- nor where a name is refused and no disk is told
    pub name_entries : (n : List ℕ) → IsErrOf result (InvalidBlobName n)
        → dev.opened new ≡ dev.opened old
    -- a name that is refused is there, and is no section's
    pub named : dev.Tells → (n : List ℕ) → IsErrOf result (InvalidBlobName n)
        → IsForeign (disk (dev.time old)) place n
    -- the list of opened blobs changes for sections up to the bound alone
    pub entries : (q : Key) → ((s : ℕ) → s ≤ most → q ≢ section_key place s)
        → dev.opened new q ≡ dev.opened old q
    -- faults are counted on
    pub faults : dev.faults old ≤ dev.faults new
    -- nothing else is answered but a fault or want of memory
    pub cause : OnErr result (((n : List ℕ) × IsErrOf result (InvalidBlobName n))
        ⊎ HasFailed result (dev.faults old) (dev.faults new))
