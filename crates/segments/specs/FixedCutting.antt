-- What a cut of one section of a fixed journal does.
use Rattle.std.specs.Prelude.{◌≡◌, ◌≢◌, ◌⊎◌, ◌↔◌, ℕ, ◌<◌, ◌≤◌, min, false, List, length, Some, None, Result, IfOk, OnErr, IsSomeAnd, IsTrue}
use Rattle.blob_device.specs.Disk.{Key, Blob}
use Rattle.blob_device.specs.Timeline.{disk}
use Rattle.blob_device.specs.declared.device.Device as device
use Rattle.sealed_pages.specs.Buffer.{size_of, IsSealed}
use Rattle.sealed_pages.specs.ChanceSeal.{Sealing}
use Rattle.sealed_pages.specs.Flushing.{Alone}
use Rattle.sealed_pages.specs.SealedPrefix.{sealed_prefix}
use Rattle.sealed_pages.specs.Shown.{shown}
use Rattle.sealed_pages.specs.Unrecovered.{IsUnrecovered}
use Rattle.sealed_pages.specs.declared.page_blob.PageBlob.{PageBlob}
use Rattle.section_manager.specs.Entries.{OnlyOwnEntry}
use Rattle.section_manager.specs.Refusing.{HasDamage, HasFailed, IsPruned}
use Rattle.section_manager.specs.Sections.{key_of, IsCut, IsSame, SameBounds}
use Rattle.section_manager.specs.Setting.{Setting}
use Rattle.section_manager.specs.declared.buffer.SectionBuffer as buffer
use Rattle.section_manager.specs.declared.journal.Error.{Error}
use Rattle.segments.specs.FixedLists.{Lists, section_bytes, IsJournal}

module _ {F S D : Type 0} {gs : _} (g : buffer.Ghosts (PageBlob S gs)) (gives : F → Setting)
    (seal : List ℕ → ℕ) (size : ℕ) (dev : device.Ghosts D) (j : Lists F (PageBlob S gs))
    (section n : ℕ) (old : D) where
  -- the section's key
  abbrev pub key_here : Key
  key_here = key_of j.sections section

  -- its blob when the call begins
  abbrev pub blob_here : Blob
  blob_here = disk (dev.time old) key_here

  -- its sealed prefix, as it reads then
  abbrev pub prefix_here : PageBlob S gs → List ℕ
  prefix_here u = sealed_prefix seal u.page_size blob_here.content

  -- the section is held, and has more than n bytes
  abbrev pub IsLongerHere : Type 0
  IsLongerHere = IsSomeAnd (j.sections.held section) (λ u. n < size_of (shown u))

  -- The section of the journal j was cut to n bytes, if it was longer.
  pub record Cuts (result : Result (Lists F (PageBlob S gs)) Error) (new : D) : Type 0 where
    -- the journal may be used
    pub over : IfOk result (λ r. IsJournal g gives seal size dev.Tells r
        (dev.opened new) (disk (dev.time new)))
    -- where the section was held, it is as the cut leaves it
    pub cut : IfOk result (λ r. (u : PageBlob S gs) → j.sections.held section ≡ Some u
        → IsSomeAnd (r.sections.held section) (λ v. IsCut g dev.Tells n u v
        blob_here (disk (dev.time new) key_here)))
    -- else it is not held
    pub absent : IfOk result (λ r. j.sections.held section ≡ None → r.sections.held section ≡ None)
    -- what was known of it is known
    pub unopened : IfOk result (λ r. r.sections.unopened section ≡ j.sections.unopened section)
    -- the other sections are held as before
    pub others : IfOk result (λ r. (q : ℕ) → q ≢ section → IsSame j.sections r.sections q)
    -- and have the bytes that they had
    pub spares : dev.Tells → IfOk result (λ r. (q : ℕ) → q ≢ section
        → section_bytes r.sections (disk (dev.time new)) q
        ≡ section_bytes j.sections (disk (dev.time old)) q)
    -- partition, factory, floor and ceiling stay
    pub bounds : IfOk result (λ r. SameBounds j.sections r.sections)
    -- a section that is cut to nothing owes no replay
    pub emptied : n ≡ 0 → IfOk result (λ r. r.unrecovered section ≡ false)
    -- any other does as before
    pub unrecovered : IfOk result (λ r. (q : ℕ) → (q ≢ section) ⊎ (0 < n)
        → r.unrecovered q ≡ j.unrecovered q)
    -- its floor is no higher than the cut
    pub lowered : IfOk result (λ r. r.floor_of section ≡ min (j.floor_of section) n)
    -- the others have theirs
    pub floors : IfOk result (λ r. (q : ℕ) → q ≢ section → r.floor_of q ≡ j.floor_of q)
    -- at every moment, also where the call fails, no other blob changes
    pub alone : dev.Tells → Alone key_here (dev.time old) (dev.time new)
    -- each crash leaves of a section that is sealed, as each proven one is, a prefix of its bytes,
    -- no shorter than what had settled, up to the cut
    pub moments : dev.Tells → (u : PageBlob S gs) → j.sections.held section ≡ Some u
        → IsSealed seal (shown u) blob_here
        → Sealing seal u.page_size (section_bytes j.sections (disk (dev.time old)) section)
        (min u.settled n) key_here (dev.time old) (dev.time new)
    -- of one that owes a replay it leaves a prefix of its sealed prefix as it reads, with all of
    -- that, up to the cut
    pub prefix : dev.Tells → (u : PageBlob S gs) → j.sections.held section ≡ Some u
        → IsTrue (j.unrecovered section)
        → Sealing seal u.page_size (prefix_here u) (min n (length (prefix_here u)))
        key_here (dev.time old) (dev.time new)
    -- so it does of any other that is not sealed
    pub unsealed : dev.Tells → (u : PageBlob S gs) → j.sections.held section ≡ Some u
        → IsUnrecovered seal (shown u) blob_here
        → Sealing seal u.page_size (prefix_here u)
        (min n (length (prefix_here u)))
        key_here (dev.time old) (dev.time new)
    -- one that is not longer is not touched
    pub idle : (IsLongerHere → ⊥) → new ≡ old
    -- no other blob's entry changes
    pub entries : OnlyOwnEntry key_here (dev.opened old) (dev.opened new)
    -- a section below the floor is refused, and no other
    pub guard : IsPruned result j.sections.floor ↔ (section < j.sections.floor)
    -- with no call of the device
    pub refuses : section < j.sections.floor → new ≡ old
    -- faults are counted on
    pub faults : dev.faults old ≤ dev.faults new
    -- no page is damaged, where the disk is told
    pub damage : dev.Tells → HasDamage result → ⊥
    -- nothing else is answered but a fault or want of memory
    pub cause : OnErr result (IsPruned result j.sections.floor
        ⊎ (HasDamage result ⊎ HasFailed result (dev.faults old) (dev.faults new)))
