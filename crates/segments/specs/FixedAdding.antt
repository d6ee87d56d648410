-- What an append to a fixed journal does: of one item, or of several that are written at once.
use Rattle.std.specs.Prelude.{◌≡◌, ◌≢◌, ◌⊎◌, ◌↔◌, ℕ, ◌+◌, ◌/◌, ◌^◌, ◌<◌, ◌≤◌, ◌++◌, List, Some, None, Result, IfOk, OnOk, OnErr, IsSomeAnd}
use Rattle.std.specs.Result.{IsErrOf}
use Rattle.blob_device.specs.Timeline.{disk}
use Rattle.blob_device.specs.declared.device.Device as device
use Rattle.sealed_pages.specs.Buffer.{extent, size_of, FlushesNothing, IsSealed}
use Rattle.sealed_pages.specs.ChanceSeal.{Sealing}
use Rattle.sealed_pages.specs.Flushing.{Alone}
use Rattle.sealed_pages.specs.SealedPrefix.{sealed_prefix}
use Rattle.sealed_pages.specs.Shown.{shown}
use Rattle.sealed_pages.specs.Unrecovered.{IsUnrecovered, KeepsPrefix}
use Rattle.sealed_pages.specs.declared.page_blob.PageBlob.{PageBlob}
use Rattle.section_manager.specs.Entries.{OnlyOwnEntry}
use Rattle.section_manager.specs.Leaving.{AllMoments}
use Rattle.section_manager.specs.Refusing.{HasFailed, IsPruned}
use Rattle.section_manager.specs.Sections.{key_of, IsHeld, IsSame, SameBounds}
use Rattle.section_manager.specs.Setting.{Setting}
use Rattle.section_manager.specs.declared.buffer.SectionBuffer as buffer
use Rattle.section_manager.specs.declared.journal.Error.{Error}
use Rattle.section_manager.specs.declared.journal.Error.TheVariants.{Full, Mem}
use Rattle.section_manager.specs.declared.sealed.AppendFactory.{AppendFactory}
use Rattle.segments.specs.FixedLasting.{IsBeginning}
use Rattle.segments.specs.FixedLists.{Lists, section_bytes, section_size, IsJournal}
use Rattle.segments.specs.Tails.{IsTailAfter}

module _ {S : Type 0} {gs : _} (j : Lists (AppendFactory S) (PageBlob S gs)) (section : ℕ) where
  -- The section is held, and with n bytes more its blob would pass 2^64, with both slots of its
  -- last page.
  abbrev pub Overfills : ℕ → Type 0
  Overfills n = IsSomeAnd (j.sections.held section)
      (λ u. 2 ^ 64 ≤ extent u.page_size (size_of (shown u) + n))

  -- The same of a section that may have to be made: it has no bytes then, in pages as the factory
  -- has them.
  abbrev pub WouldOverfill : ℕ → Type 0
  WouldOverfill n =
      2 ^ 64 ≤ extent j.sections.factory.pages.page_size (section_size j.sections section + n)

  module _ (g : buffer.Ghosts (PageBlob S gs)) (gives : AppendFactory S → Setting)
      (seal : List ℕ → ℕ) (chunk : ℕ) (spelled : List ℕ) (count : ℕ) (TooMany : Type 0) where
    -- These bytes, `count` of them, whole items of `chunk` bytes, were added to the section of the
    -- journal j by one append of its buffer. `see` shows what is answered: the journal, and the
    -- position of the first item.
    pub record Appends {T D : Type 0} (dev : device.Ghosts D) (result : Result T Error)
        (see : T → Lists (AppendFactory S) (PageBlob S gs) × ℕ) (old new : D) : Type 0 where
      -- the journal may be used
      pub over : IfOk result (λ r. IsJournal g gives seal chunk dev.Tells (see r).0
          (dev.opened new) (disk (dev.time new)))
      -- the position is that of the section's next item
      pub position : IfOk result (λ r. dev.Tells ⊎ IsHeld j.sections section
          → (see r).1 ≡ section_size j.sections section / chunk)
      -- the section is longer by the bytes
      pub size : IfOk result (λ r. dev.Tells ⊎ IsHeld j.sections section
          → section_size (see r).0.sections section ≡ section_size j.sections section + count)
      -- they stand behind what it had
      pub bytes : dev.Tells → IfOk result (λ r.
          section_bytes (see r).0.sections (disk (dev.time new)) section
          ≡ section_bytes j.sections (disk (dev.time old)) section ++ spelled)
      -- what is not flushed then: all, until it reaches the capacity
      pub tail : IfOk result (λ r. IsTailAfter j.sections section count (see r).0.sections)
      -- the section is held
      pub held : IfOk result (λ r. IsHeld (see r).0.sections section)
      -- no more of it has settled
      pub settled : IfOk result (λ r. (u v : _) → j.sections.held section ≡ Some u
          → (see r).0.sections.held section ≡ Some v → v.settled ≡ u.settled)
      -- the other sections are held as before
      pub others : IfOk result (λ r. (q : ℕ) → q ≢ section → IsSame j.sections (see r).0.sections q)
      -- and have the bytes that they had
      pub spares : dev.Tells → IfOk result (λ r. (q : ℕ) → q ≢ section
          → section_bytes (see r).0.sections (disk (dev.time new)) q
          ≡ section_bytes j.sections (disk (dev.time old)) q)
      -- partition, factory, floor and ceiling stay
      pub bounds : IfOk result (λ r. SameBounds j.sections (see r).0.sections)
      -- each section owes a replay as before
      pub unrecovered : IfOk result (λ r. (q : ℕ) → (see r).0.unrecovered q ≡ j.unrecovered q)
      -- and has the floor that it had
      pub floors : IfOk result (λ r. (q : ℕ) → (see r).0.floor_of q ≡ j.floor_of q)
      -- at every moment, also where the call fails, no other blob changes
      pub alone : dev.Tells → Alone (key_of j.sections section) (dev.time old) (dev.time new)
      -- each crash leaves of a section that is sealed, as each proven one is, a prefix of its
      -- bytes, these included, and no shorter than what has settled
      pub moments : dev.Tells → (u : _) → j.sections.held section ≡ Some u
          → IsSealed seal (shown u) (disk (dev.time old) (key_of j.sections section))
          → Sealing seal u.page_size
          (section_bytes j.sections (disk (dev.time old)) section ++ spelled) u.settled
          (key_of j.sections section) (dev.time old) (dev.time new)
      -- it stays sealed
      pub sealed : dev.Tells → IfOk result (λ r. (u v : _) → j.sections.held section ≡ Some u
          → (see r).0.sections.held section ≡ Some v
          → IsSealed seal (shown u) (disk (dev.time old) (key_of j.sections section))
          → IsSealed seal (shown v) (disk (dev.time new) (key_of j.sections section)))
      -- of one that is not sealed each crash leaves the sealed prefix, as it reads
      pub steady : dev.Tells → (u : _) → j.sections.held section ≡ Some u
          → IsUnrecovered seal (shown u) (disk (dev.time old) (key_of j.sections section))
          → KeepsPrefix seal u.page_size
          (sealed_prefix seal u.page_size (disk (dev.time old) (key_of j.sections section)).content)
          (key_of j.sections section) (dev.time old) (dev.time new)
      -- of one that is made it leaves a prefix of the bytes
      pub made : dev.Tells → j.sections.held section ≡ None → AllMoments (key_of j.sections section)
          (IsBeginning seal j.sections.factory.pages.page_size spelled
          (disk (dev.time old) (key_of j.sections section))) (dev.time old) (dev.time new)
      -- below the buffer's capacity no call of the device is made
      pub below : (u : _) → j.sections.held section ≡ Some u → FlushesNothing (shown u) count
          → new ≡ old
      -- no other blob's entry changes
      pub entries : OnlyOwnEntry (key_of j.sections section) (dev.opened old) (dev.opened new)
      -- a section below the floor is refused, and no other
      pub guard : IsPruned result j.sections.floor ↔ (section < j.sections.floor)
      -- with no call of the device
      pub refuses : section < j.sections.floor → new ≡ old
      -- it is full only where there are too many bytes for its blob
      pub full : IsErrOf result Full → dev.Tells ⊎ IsHeld j.sections section → TooMany
      -- then it is full, unless there was no memory to see it
      pub full_first : j.sections.floor ≤ section → (u : _) → j.sections.held section ≡ Some u
          → 2 ^ 64 ≤ extent u.page_size (size_of (shown u) + count)
          → IsErrOf result Full ⊎ IsErrOf result Mem
      -- where the bytes were added there was room
      pub room : OnOk result ((u : _) → j.sections.held section ≡ Some u
          → extent u.page_size (size_of (shown u) + count) < 2 ^ 64)
      -- faults are counted on
      pub faults : dev.faults old ≤ dev.faults new
      -- nothing else is answered but a fault or want of memory
      pub cause : OnErr result (IsPruned result j.sections.floor ⊎ (IsErrOf result Full
          ⊎ HasFailed result (dev.faults old) (dev.faults new)))
