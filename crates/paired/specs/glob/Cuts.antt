-- What the calls promise that shorten sections of a glob under recovery.
use Rattle.std.specs.Prelude.{◌≡◌, ◌≢◌, ◌↔◌, ◌⊎◌, ◌≤◌, ◌<◌, ◌-◌, ◌^◌, ℕ, take, Option, Some, None, Result, IfOk, OnOk, OnErr, IsSome, IsSomeAnd}
use Rattle.blob_device.specs.Disk.{Key, nothing}
use Rattle.blob_device.specs.Timeline.{Timeline, disk, Always, Each}
use Rattle.blob_device.specs.declared.device.Device as device
use Rattle.sealed_pages.specs.declared.write_blob.WriteBlob.{WriteBlob}
use Rattle.section_manager.specs.contracts.unsealed.WriteBlobSectionBuffer.TheImpl as buffer
use Rattle.section_manager.specs.declared.journal.Error.{Error}
use Rattle.section_manager.specs.declared.unsealed.WriteFactory.{WriteFactory}
use Rattle.section_manager.specs.Entries.{OnlyOwnEntry, StartsNoRead}
use Rattle.section_manager.specs.Leaving.{AllMoments}
use Rattle.section_manager.specs.managing.Settling.{IsAnyBelow}
use Rattle.section_manager.specs.Refusing.{HasFailed, IsPruned}
use Rattle.section_manager.specs.Sections.{Sections, key_of, IsKnown, IsGone, IsSame, SamePlace, SameBounds, IsKeyOf, IsCut}
use Rattle.section_manager.specs.unsealed.Buffer.{content_of}
use Rattle.paired.specs.glob.Lasting.{Outlasts, settled_to, Cutting, Truncating}
use Rattle.paired.specs.glob.Sections.{section_bytes, HasSettled, IsAllSettled, IsLonger}
use Rattle.paired.specs.glob.Shown.{Shown, IsGlobOn}

module _ {D C : Type 0} (dev : device.Ghosts D) (g : Shown C) (old new : D) where
  -- the glob's sections
  abbrev m : Sections WriteFactory WriteBlob
  m = g.sections

  -- the disk's history before the call, and then
  abbrev early : Timeline
  early = dev.time old

  abbrev late : Timeline
  late = dev.time new

  module _ {T : Type 0} (see : T → Shown C) where
    -- The later sections are removed, the newest first; then this one is shortened to n bytes, if it is
    -- held and longer.
    pub record TruncatesGlob (section n : ℕ) (result : Result T Error) : Type 0 where
      -- it is a glob,
      pub over : IfOk result (λ r. IsGlobOn dev (see r).sections new)
      -- which knows nothing of the later sections,
      pub later : IfOk result (λ r. (s : ℕ) → section < s → IsGone (see r).sections s)
      -- and has the earlier ones as they were,
      pub earlier : IfOk result (λ r. (s : ℕ) → s < section → IsSame m (see r).sections s)
      -- with their bytes;
      pub earlier_bytes : dev.Tells → IfOk result (λ r. (s : ℕ) → s < section
          → section_bytes (see r).sections (disk late) s ≡ section_bytes m (disk early) s)
      -- this one has its first n
      pub bytes : dev.Tells → IfOk result (λ r. section_bytes (see r).sections (disk late) section
          ≡ take n (section_bytes m (disk early) section))
      -- where it was longer, what is left has settled,
      pub settled : dev.Tells → IfOk result (λ r. IsLonger m section n
          → HasSettled (see r).sections (disk late) section)
      -- and counts so
      pub all_settled : IfOk result (λ r. IsLonger m section n
          → IsAllSettled (see r).sections section)
      -- its buffer was cut,
      pub cut : IfOk result (λ r. (u : WriteBlob) → m.held section ≡ Some u
          → IsSomeAnd ((see r).sections.held section) (λ v. IsCut buffer.ghosts dev.Tells n u v
          (disk early (key_of m section)) (disk late (key_of m section))))
      -- if it was held
      pub absent : IfOk result (λ r. m.held section ≡ None → (see r).sections.held section ≡ None)
      -- nothing of it becomes unopened
      pub unopened : IfOk result (λ r. (see r).sections.unopened section ≡ m.unopened section)
      -- place and floor stay,
      pub place : IfOk result (λ r. SamePlace m (see r).sections)
      pub floor : IfOk result (λ r. (see r).sections.floor ≡ m.floor)
      -- and the ceiling is lifted
      pub lifted : IfOk result (λ r. (see r).sections.ceiling ≡ 2 ^ 64 - 1)
      pub codec_config : IfOk result (λ r. (see r).codec_config ≡ g.codec_config)
      -- At every moment, also where the call fails, no blob is touched before those of all sections
      -- that go before it are gone, the section's own the last; each crash leaves of it what had
      -- settled, up to the cut, and behind it only what its bytes make.
      pub moments : dev.Tells → Always early late (Truncating m section n (disk early))
      -- then the later ones are gone
      pub gone : dev.Tells → OnOk result ((s : ℕ) → IsKnown m s → section < s
          → disk late (key_of m s) ≡ nothing)
      -- where no later one is known, and this one is not longer, no call of the device is made
      pub idle : ((s : ℕ) → IsKnown m s → s ≤ section) → (IsLonger m section n → ⊥) → new ≡ old
      -- the entries of later ones leave, and no other changes but its own;
      pub entries : (q : Key) → q ≢ key_of m section → (dev.opened new q ≡ dev.opened old q)
          ⊎ (IsKeyOf m (λ s. IsKnown m s × (section < s)) q × (dev.opened new q ≡ None))
      -- no read begins
      pub reads : StartsNoRead (dev.opened old) (dev.opened new)
      -- a section below the floor is refused, and no other; then no call of the device is made
      pub guard : IsPruned result m.floor ↔ (section < m.floor)
      pub refuses : section < m.floor → new ≡ old
      -- faults never fall, and no other error comes than by memory or the device
      pub faults : dev.faults old ≤ dev.faults new
      pub cause : OnErr result (IsPruned result m.floor
          ⊎ HasFailed result (dev.faults old) (dev.faults new))

    -- This section is shortened to n bytes, if it is held and longer.
    pub record CutsSection (section n : ℕ) (result : Result T Error) : Type 0 where
      -- it is a glob,
      pub over : IfOk result (λ r. IsGlobOn dev (see r).sections new)
      -- in which the section has its first n bytes,
      pub bytes : dev.Tells → IfOk result (λ r. section_bytes (see r).sections (disk late) section
          ≡ take n (section_bytes m (disk early) section))
      -- and the others have theirs
      pub other_bytes : dev.Tells → IfOk result (λ r. (q : ℕ) → q ≢ section
          → section_bytes (see r).sections (disk late) q ≡ section_bytes m (disk early) q)
      -- where it was longer, what is left has settled,
      pub settled : dev.Tells → IfOk result (λ r. IsLonger m section n
          → HasSettled (see r).sections (disk late) section)
      -- and counts so
      pub all_settled : IfOk result (λ r. IsLonger m section n
          → IsAllSettled (see r).sections section)
      -- its buffer was cut,
      pub cut : IfOk result (λ r. (u : WriteBlob) → m.held section ≡ Some u
          → IsSomeAnd ((see r).sections.held section) (λ v. IsCut buffer.ghosts dev.Tells n u v
          (disk early (key_of m section)) (disk late (key_of m section))))
      -- if it was held
      pub absent : IfOk result (λ r. m.held section ≡ None → (see r).sections.held section ≡ None)
      -- nothing of it becomes unopened
      pub unopened : IfOk result (λ r. (see r).sections.unopened section ≡ m.unopened section)
      -- the others are as before,
      pub others : IfOk result (λ r. (q : ℕ) → q ≢ section → IsSame m (see r).sections q)
      -- and so are floor, ceiling and place
      pub bounds : IfOk result (λ r. SameBounds m (see r).sections)
      pub codec_config : IfOk result (λ r. (see r).codec_config ≡ g.codec_config)
      -- At every moment, also where the call fails, each crash leaves of the section what had settled,
      -- up to the cut, and behind it only what its bytes make; no other blob changes.
      pub moments : dev.Tells → AllMoments (key_of m section)
          (λ b. (u : WriteBlob) → m.held section ≡ Some u
          → Outlasts (settled_to n u (disk early (key_of m section)).content)
          (content_of u (disk early (key_of m section)).content) b) early late
      -- where it is not longer, no call of the device is made
      pub idle : (IsLonger m section n → ⊥) → new ≡ old
      -- no other entry changes, and no read begins
      pub entries : OnlyOwnEntry (key_of m section) (dev.opened old) (dev.opened new)
      pub reads : StartsNoRead (dev.opened old) (dev.opened new)
      -- a section below the floor is refused, and no other; then no call of the device is made
      pub guard : IsPruned result m.floor ↔ (section < m.floor)
      pub refuses : section < m.floor → new ≡ old
      -- faults never fall, and no other error comes than by memory or the device
      pub faults : dev.faults old ≤ dev.faults new
      pub cause : OnErr result (IsPruned result m.floor
          ⊎ HasFailed result (dev.faults old) (dev.faults new))

    -- Each section that has a size is shortened to it, if it is held and longer.
    pub record CutsSections (size_of : ℕ → Option ℕ) (result : Result T Error) : Type 0 where
      -- it is a glob,
      pub over : IfOk result (λ r. IsGlobOn dev (see r).sections new)
      -- in which each of them has its first bytes, so many,
      pub bytes : dev.Tells → IfOk result (λ r. (s n : ℕ) → size_of s ≡ Some n
          → section_bytes (see r).sections (disk late) s ≡ take n (section_bytes m (disk early) s))
      -- and each other section has its own
      pub other_bytes : dev.Tells → IfOk result (λ r. (s : ℕ) → size_of s ≡ None
          → section_bytes (see r).sections (disk late) s ≡ section_bytes m (disk early) s)
      -- where one was longer, what is left has settled,
      pub settled : dev.Tells → IfOk result (λ r. (s n : ℕ) → size_of s ≡ Some n → IsLonger m s n
          → HasSettled (see r).sections (disk late) s)
      -- and counts so
      pub all_settled : IfOk result (λ r. (s n : ℕ) → size_of s ≡ Some n → IsLonger m s n
          → IsAllSettled (see r).sections s)
      -- the buffers of those that were held were cut
      pub cut : IfOk result (λ r. (s n : ℕ) (u : WriteBlob) → size_of s ≡ Some n → m.held s ≡ Some u
          → IsSomeAnd ((see r).sections.held s) (λ v. IsCut buffer.ghosts dev.Tells n u v
          (disk early (key_of m s)) (disk late (key_of m s))))
      -- none is held that was not,
      pub absent : IfOk result (λ r. (s : ℕ) → m.held s ≡ None → (see r).sections.held s ≡ None)
      -- and the others are as before
      pub others : IfOk result (λ r. (s : ℕ) → size_of s ≡ None
          → (see r).sections.held s ≡ m.held s)
      -- what is known and not held stays,
      pub unopened : IfOk result (λ r. (s : ℕ) → (see r).sections.unopened s ≡ m.unopened s)
      -- and so do floor, ceiling and place
      pub bounds : IfOk result (λ r. SameBounds m (see r).sections)
      pub codec_config : IfOk result (λ r. (see r).codec_config ≡ g.codec_config)
      -- At every moment, also where the call fails, each crash leaves of each what had settled, up to
      -- its cut, and behind it only what its bytes make; no other blob changes.
      pub moments : dev.Tells → Always early late (Each (Cutting m size_of (disk early)))
      -- where none is longer, no call of the device is made
      pub idle : ((s : ℕ) → IsSomeAnd (size_of s) (IsLonger m s) → ⊥) → new ≡ old
      -- only entries of those that are longer change, and no read begins
      pub entries : (q : Key) → (IsKeyOf m (λ s. IsSomeAnd (size_of s) (IsLonger m s)) q → ⊥)
          → dev.opened new q ≡ dev.opened old q
      pub reads : StartsNoRead (dev.opened old) (dev.opened new)
      -- where one is below the floor, it is refused, and not else; then no call of the device is made
      pub guard : IsPruned result m.floor ↔ IsAnyBelow (λ s. IsSome (size_of s)) m.floor
      pub refuses : IsAnyBelow (λ s. IsSome (size_of s)) m.floor → new ≡ old
      -- faults never fall, and no other error comes than by memory or the device
      pub faults : dev.faults old ≤ dev.faults new
      pub cause : OnErr result (IsPruned result m.floor
          ⊎ HasFailed result (dev.faults old) (dev.faults new))
