-- What a fixed journal promises where it is kept up to a byte of a section: how far that section is
-- sealed; the cut of all that stands behind; and an opening that makes both. Sections behind go
-- newest first, and then the section is cut to whole items of its sealed prefix.
use Rattle.std.specs.Prelude.{◌≡◌, ◌≢◌, ◌⊎◌, ◌↔◌, ℕ, ◌+◌, ◌-◌, ◌*◌, ◌/◌, ◌%◌, ◌^◌, ◌<◌, ◌≤◌, min, eqb, cond, false, List, length, take, Option, None, Some, Result, Err, IfOk, OnErr, IsTrue, IsSomeAnd}
use Rattle.std.specs.Result.{IsErrOf}
use Rattle.blob_device.specs.Counts.{Rose}
use Rattle.blob_device.specs.Disk.{Key, Disk, nothing, settled_at}
use Rattle.blob_device.specs.Opened.{OpenedList}
use Rattle.blob_device.specs.Timeline.{disk, Always}
use Rattle.blob_device.specs.declared.device.Device as device
use Rattle.blob_device.specs.declared.runtime.RError.{RError}
use Rattle.blob_device.specs.declared.runtime.RError.TheVariants as runtime
use Rattle.sealed_pages.specs.Buffer as pages
use Rattle.sealed_pages.specs.Buffer.{size_of, bytes_of, IsSealed}
use Rattle.sealed_pages.specs.Entries.{ReadsAtMost}
use Rattle.sealed_pages.specs.ChanceSeal.{Leaves}
use Rattle.sealed_pages.specs.Reading.{OnlyRead, Unchanged}
use Rattle.sealed_pages.specs.Reads.{pages_for}
use Rattle.sealed_pages.specs.SealedPrefix.{sealed_prefix, adopted_size}
use Rattle.sealed_pages.specs.Shown.{shown}
use Rattle.sealed_pages.specs.Unrecovered.{IsUnrecovered}
use Rattle.sealed_pages.specs.declared.page_blob.PageBlob.{PageBlob}
use Rattle.sealed_pages.specs.declared.pages.Pages.{Pages}
use Rattle.value_codec.specs.declared.codec.Error as codec
use Rattle.section_manager.specs.Answers.{RefusesNames}
use Rattle.section_manager.specs.Lasting.{IsGoing, Going}
use Rattle.section_manager.specs.Refusing.{HasDamage, HasFailed, IsPruned}
use Rattle.section_manager.specs.Sealed.{adopted_bytes, is_unsettled}
use Rattle.section_manager.specs.Sections.{Sections, section_key, key_of, IsCut, IsGone, IsHeld, IsKeyOf, IsKnown, IsSame, SamePlace}
use Rattle.section_manager.specs.Setting.{Setting}
use Rattle.section_manager.specs.declared.buffer.SectionBuffer as buffer
use Rattle.section_manager.specs.declared.journal.Error.{Error}
use Rattle.section_manager.specs.declared.journal.Error.TheVariants.{Codec, InvalidBlobName, ItemOutOfRange}
use Rattle.section_manager.specs.declared.sealed.AppendFactory.{AppendFactory}
use Rattle.segments.specs.FixedItems.{item_at, IsItem}
use Rattle.segments.specs.FixedLists.{Lists, section_bytes, section_size, IsJournal}
use Rattle.segments.specs.FixedReading.{IsBelowFloor}
use Rattle.segments.specs.FixedReplay.{StandsBefore}

-- so many bytes, without a partial item at their end
abbrev pub whole_of : ℕ → ℕ → ℕ
whole_of size n = n / size * size

-- ---- how far a section is sealed

-- It was learned how many bytes of a buffer's blob are sealed, up to `end`. Nothing was written.
pub record MeasuresBlob {S D : Type 0} {gs : _} (seal : List ℕ → ℕ) (dev : device.Ghosts D)
    (u : PageBlob S gs) (old new : D) (end : ℕ) (result : Result ℕ RError) : Type 0 where
  -- the answer is the length of its sealed prefix, or `end`
  pub prefix : dev.Tells → IfOk result (λ n. n ≡ min end (length
      (sealed_prefix seal u.page_size (disk (dev.time old) (pages.key_of (shown u))).content)))
  -- also where no disk is told, it is no more than `end`
  pub within : IfOk result (λ n. n ≤ end)
  -- no blob's history changes
  pub unchanged : dev.Tells → Unchanged (dev.time old) (dev.time new)
  -- no other blob is read
  pub entries : OnlyRead (pages.key_of (shown u)) (dev.opened old) (dev.opened new)
  -- and of this one no page that begins at `end` or behind it, and none twice
  pub reads : ReadsAtMost (pages_for u.page_size end) (pages.key_of (shown u))
      (dev.opened old) (dev.opened new)
  -- faults are counted on
  pub faults : dev.faults old ≤ dev.faults new
  -- nothing else is answered but a fault or want of memory
  pub cause : OnErr result ((result ≡ Err runtime.Mem)
      ⊎ ((result ≡ Err runtime.Fault) × Rose (dev.faults old) (dev.faults new)))

module _ {S : Type 0} {gs : _} (seal : List ℕ → ℕ) (size : ℕ) where
  -- How many bytes of a section's whole items are sealed, up to `end`. Of one that is not held it
  -- is all up to there.
  abbrev pub sealed_size : Option (PageBlob S gs) → List ℕ → ℕ → ℕ
  sealed_size None content end = whole_of size end
  sealed_size (Some u) content end =
      whole_of size (min end (length (sealed_prefix seal u.page_size content)))

  module _ {F D : Type 0} (dev : device.Ghosts D) (m : Sections F (PageBlob S gs))
      (section end : ℕ) where
    -- It was learned how far a section is sealed, up to `end`. Nothing was written.
    pub record Measures (result : Result ℕ Error) (old new : D) : Type 0 where
      -- the answer is the bytes of whole items in the section's sealed prefix that end at or before
      -- `end`
      pub answer : dev.Tells → IfOk result (λ n.
          n ≡ sealed_size (m.held section) (disk (dev.time old) (key_of m section)).content end)
      -- also where no disk is told, it is no more than `end`
      pub within : IfOk result (λ n. n ≤ end)
      -- and ends with an item
      pub whole : IfOk result (λ n. n % size ≡ 0)
      -- no blob's history changes
      pub unchanged : dev.Tells → Unchanged (dev.time old) (dev.time new)
      -- no blob but the section's is read
      pub entries : OnlyRead (key_of m section) (dev.opened old) (dev.opened new)
      -- and of that no page that begins at `end` or behind it, and none twice
      pub reads : (u : PageBlob S gs) → m.held section ≡ Some u → ReadsAtMost
          (pages_for u.page_size end) (key_of m section) (dev.opened old) (dev.opened new)
      -- of a section that is not held none is
      pub absent : m.held section ≡ None → new ≡ old
      -- a section below the floor is refused, and no other
      pub guard : IsPruned result m.floor ↔ (section < m.floor)
      -- with no call of the device
      pub refuses : section < m.floor → new ≡ old
      -- faults are counted on
      pub faults : dev.faults old ≤ dev.faults new
      -- nothing else is answered but a fault or want of memory
      pub cause : OnErr result (IsPruned result m.floor
          ⊎ HasFailed result (dev.faults old) (dev.faults new))

    -- It was found where a section is to be cut that is to have no more than `end` bytes. Nothing
    -- was written.
    pub record FindsEnd (result : Result ℕ Error) (old new : D) : Type 0 where
      -- at `end`, of one that is not longer
      pub short : section_size m section ≤ end → IfOk result (λ n. n ≡ end)
      -- which is not read
      pub idle : section_size m section ≤ end → new ≡ old
      -- at the end of the last sealed item before, of a longer one
      pub long : dev.Tells → end < section_size m section → IfOk result (λ n.
          n ≡ sealed_size (m.held section) (disk (dev.time old) (key_of m section)).content end)
      -- also where no disk is told, it is no further on than `end`
      pub within : IfOk result (λ n. n ≤ end)
      -- and ends with an item
      pub whole : IfOk result (λ n. n % size ≡ 0)
      -- no blob's history changes
      pub unchanged : dev.Tells → Unchanged (dev.time old) (dev.time new)
      -- no blob but the section's is read
      pub entries : OnlyRead (key_of m section) (dev.opened old) (dev.opened new)
      -- a section below the floor is refused, and no other
      pub guard : IsPruned result m.floor ↔ (section < m.floor)
      -- faults are counted on
      pub faults : dev.faults old ≤ dev.faults new
      -- nothing else is answered but a fault or want of memory, or that the section is below the
      -- floor
      pub cause : OnErr result (IsPruned result m.floor
          ⊎ HasFailed result (dev.faults old) (dev.faults new))

module _ {F S D : Type 0} {gs : _} (g : buffer.Ghosts (PageBlob S gs)) (gives : F → Setting)
    (seal : List ℕ → ℕ) (size : ℕ) (dev : device.Ghosts D) (j : Lists F (PageBlob S gs))
    (section end : ℕ) where
  -- A journal was asked how far a section is sealed.
  pub record Recovers (result : Result ℕ Error) (old new : D) : Type 0 where
    -- this was learned
    pub learned : Measures seal size dev j.sections section end result old new
    -- so many bytes are sealed still, so the section may be cut there
    pub safe : dev.Tells → IfOk result (λ n. (u : PageBlob S gs) → j.sections.held section ≡ Some u
        → n ≤ length (sealed_prefix seal u.page_size
        (disk (dev.time new) (key_of j.sections section)).content))
    -- and the journal may be used as before
    pub over : IsJournal g gives seal size dev.Tells j (dev.opened old) (disk (dev.time old))
        → IsJournal g gives seal size dev.Tells j (dev.opened new) (disk (dev.time new))

-- ---- the cut of all that stands behind a byte of a section

module _ {F S : Type 0} {gs : _} (seal : List ℕ → ℕ) (j : Lists F (PageBlob S gs))
    (section n : ℕ) where
  -- its key
  abbrev pub cut_key : Key
  cut_key = key_of j.sections section

  -- The disk at a moment of a cut of the section to n bytes, and of all sections behind it.
  pub record CuttingTail (from d : Disk) : Type 0 where
    -- the sections behind it go one after another, the newest first
    pub later : Going j.sections (λ s. IsKnown j.sections s × (section < s)) (λ s t. t < s) from d
    -- Of a section that is sealed, as each proven one is, each crash leaves a prefix of its bytes,
    -- no shorter than what had settled, up to the cut.
    pub sealed : (u : PageBlob S gs) → j.sections.held section ≡ Some u
        → IsSealed seal (shown u) (from cut_key)
        → Leaves seal u.page_size (bytes_of (shown u) (from cut_key).content) (min u.settled n)
        (d cut_key)
    -- of one that owes a replay it leaves a prefix of its sealed prefix as it read, with all of
    -- that, up to the cut
    pub prefix : (u : PageBlob S gs) → j.sections.held section ≡ Some u
        → IsTrue (j.unrecovered section)
        → Leaves seal u.page_size (sealed_prefix seal u.page_size (from cut_key).content)
        (min n (length (sealed_prefix seal u.page_size (from cut_key).content))) (d cut_key)
    -- so it does of any other that is not sealed
    pub unsealed : (u : PageBlob S gs) → j.sections.held section ≡ Some u
        → IsUnrecovered seal (shown u) (from cut_key)
        → Leaves seal u.page_size (sealed_prefix seal u.page_size (from cut_key).content)
        (min n (length (sealed_prefix seal u.page_size (from cut_key).content)))
        (d cut_key)
    -- it changes only where it is longer, and once those behind it are gone
    pub last : (d cut_key ≡ from cut_key)
        ⊎ (IsSomeAnd (j.sections.held section) (λ u. n < size_of (shown u))
        × ((s : ℕ) → IsKnown j.sections s → section < s → d (key_of j.sections s) ≡ nothing))
    -- no other blob changes
    pub others : (q : Key) → (IsKeyOf j.sections (λ s. IsKnown j.sections s × (section ≤ s)) q → ⊥)
        → d q ≡ from q

module _ {F S : Type 0} {gs : _} (g : buffer.Ghosts (PageBlob S gs)) (gives : F → Setting)
    (seal : List ℕ → ℕ) (size : ℕ)
    (told : Type 0) (j : Lists F (PageBlob S gs)) (section n : ℕ) where
  -- The journal k is what such a cut made of j.
  pub record IsTailCut (k : Lists F (PageBlob S gs)) (opened : OpenedList)
      (from d : Disk) : Type 0 where
    -- it may be used
    pub over : IsJournal g gives seal size told k opened d
    -- no section behind the cut one is known
    pub later : (s : ℕ) → section < s → IsGone k.sections s
    -- nor is a blob there of one that was
    pub gone : told → (s : ℕ) → IsKnown j.sections s → section < s → d (key_of j.sections s)
        ≡ nothing
    -- none of them owes a replay
    pub recovered : (s : ℕ) → section < s → k.unrecovered s ≡ false
    -- or has a floor
    pub lifted : (s : ℕ) → section < s → k.floor_of s ≡ 0
    -- the sections before it are as before
    pub earlier : (s : ℕ) → s < section → IsSame j.sections k.sections s
    -- it is cut itself, where it is held
    pub cut : (u : PageBlob S gs) → j.sections.held section ≡ Some u
        → IsSomeAnd (k.sections.held section)
        (λ v. IsCut g told n u v (from (key_of j.sections section)) (d (key_of j.sections section)))
    -- and is not made where it is not
    pub absent : j.sections.held section ≡ None → k.sections.held section ≡ None
    -- what was known of it is known
    pub unopened : k.sections.unopened section ≡ j.sections.unopened section
    -- up to it each section owes a replay as before
    pub unrecovered : (s : ℕ) → s ≤ section → k.unrecovered s ≡ j.unrecovered s
    -- and has its floor
    pub floors : (s : ℕ) → s ≤ section → k.floor_of s ≡ j.floor_of s
    -- partition and factory stay
    pub place : SamePlace j.sections k.sections
    -- what was pruned stays pruned
    pub floor : k.sections.floor ≡ j.sections.floor
    -- the bound of the opening is lifted
    pub ceiling : k.sections.ceiling ≡ 2 ^ 64 - 1

  module _ {D : Type 0} (dev : device.Ghosts D) where
    -- All that stands behind byte n of the section is cut off.
    pub record CutsTail (result : Result (Lists F (PageBlob S gs)) Error)
        (old new : D) : Type 0 where
      -- at each moment, also where the call fails
      pub moments : dev.Tells
          → Always (dev.time old) (dev.time new)
          (CuttingTail seal j section n (disk (dev.time old)))
      -- this is the journal then
      pub ends : IfOk result (λ k. IsTailCut k (dev.opened new) (disk (dev.time old))
          (disk (dev.time new)))
      -- where there is nothing to remove or to cut, no call of the device is made
      pub idle : ((s : ℕ) → IsKnown j.sections s → s ≤ section)
          → (IsSomeAnd (j.sections.held section) (λ u. n < size_of (shown u)) → ⊥) → new ≡ old
      -- entries of removed blobs leave the list, and only the section's own changes
      pub entries : (q : Key) → q ≢ key_of j.sections section
          → (dev.opened new q ≡ dev.opened old q)
          ⊎ (IsKeyOf j.sections (λ s. IsKnown j.sections s × (section < s)) q
          × (dev.opened new q ≡ None))
      -- a section below the floor is refused, and no other
      pub guard : IsPruned result j.sections.floor ↔ (section < j.sections.floor)
      -- with no call of the device
      pub refuses : section < j.sections.floor → new ≡ old
      -- faults are counted on
      pub faults : dev.faults old ≤ dev.faults new
      -- no page is damaged, where the disk is told
      pub damage : dev.Tells → HasDamage result → ⊥
      -- nothing else is answered but a fault or want of memory
      pub cause : OnErr result (IsPruned result j.sections.floor
          ⊎ (HasDamage result ⊎ HasFailed result (dev.faults old) (dev.faults new)))

-- ---- an opening up to byte `end` of section `last`

module _ (seal : List ℕ → ℕ) (P size : ℕ) (partition : List ℕ) (last end : ℕ) where
  -- how many bytes of a section it keeps: those of the whole items of its sealed prefix, of the
  -- last section up to `end`
  abbrev pub bounded_size : ℕ → List ℕ → ℕ
  bounded_size s content = whole_of size (cond (eqb s last)
      (min end (length (sealed_prefix seal P content))) (length (sealed_prefix seal P content)))

  -- the section has a blob
  abbrev pub IsThere : Disk → ℕ → Type 0
  IsThere d s = (s < 2 ^ 64) × IsTrue (d (section_key partition s)).there

  -- The disk at a moment of such an opening.
  pub record Bounding (from d : Disk) : Type 0 where
    -- the blobs of sections behind the last one go
    pub later : (s : ℕ) → last < s → IsThere from s
        → IsGoing (from (section_key partition s)) (d (section_key partition s))
    -- one after another, the newest first
    pub order : (s t : ℕ) → last < s → s < t → IsThere from s → IsThere from t
        → (d (section_key partition s) ≡ from (section_key partition s))
        ⊎ (d (section_key partition t) ≡ nothing)
    -- any other section's blob is as before, or each crash leaves a prefix of its sealed prefix,
    -- with all that is kept
    pub kept : (s : ℕ) → s ≤ last → IsThere from s
        → (d (section_key partition s) ≡ from (section_key partition s))
        ⊎ Leaves seal P (sealed_prefix seal P (from (section_key partition s)).content)
        (bounded_size s (from (section_key partition s)).content) (d (section_key partition s))
    -- until the removals of those behind the last one are durable, it is as before, or settled as
    -- it read
    pub first : (s : ℕ) → s ≤ last → IsThere from s
        → (d (section_key partition s) ≡ from (section_key partition s))
        ⊎ ((d (section_key partition s) ≡ settled_at (from (section_key partition s)).content)
        ⊎ ((t : ℕ) → last < t → IsThere from t → d (section_key partition t) ≡ nothing))
    -- no other blob changes
    pub others : (q : Key) → ((s : ℕ) → IsThere from s → q ≢ section_key partition s) → d q ≡ from q

  module _ {S : Type 0} {gs : _} (g : buffer.Ghosts (PageBlob S gs))
      (gives : AppendFactory S → Setting) (told : Type 0)
      (pages : Pages) (write_buffer : ℕ) where
    -- The journal k has all sections of the partition that were not removed, and nothing to settle.
    pub record IsOpenedWhole (k : Lists (AppendFactory S) (PageBlob S gs)) (opened : OpenedList)
        (from d : Disk) : Type 0 where
      -- it may be used
      pub over : IsJournal g gives seal size told k opened d
      -- it holds the sections up to the last one that were there
      pub held : told → (s : ℕ) → s < 2 ^ 64
          → IsHeld k.sections s ↔ (IsTrue (from (section_key partition s)).there × (s ≤ last))
      -- and knows of no other
      pub known : (s : ℕ) → k.sections.unopened s ≡ None
      -- the blobs of those behind it are gone, also after a crash
      pub gone : told → (s : ℕ) → last < s → IsThere from s → d (section_key partition s) ≡ nothing
      -- no marker stands in for a replay
      pub floors : (s : ℕ) → k.floor_of s ≡ 0
      -- all bytes have settled
      pub idle : (s : ℕ) (u : PageBlob S gs) → k.sections.held s ≡ Some u → is_unsettled (shown u)
          ≡ false
      -- the partition is that of the configuration
      pub partition_is : k.sections.partition ≡ partition
      -- so are the pages
      pub pages_are : k.sections.factory.pages ≡ pages
      -- and the write buffer
      pub write_buffer_is : k.sections.factory.write_buffer ≡ write_buffer
      -- nothing is pruned
      pub floor : k.sections.floor ≡ 0
      -- and any section may be made
      pub ceiling : k.sections.ceiling ≡ 2 ^ 64 - 1

    -- It was opened and cut, and each section with bytes owes a replay.
    pub record IsOpenedCut (k : Lists (AppendFactory S) (PageBlob S gs)) (opened : OpenedList)
        (from d : Disk) : Type 0 where
      -- all sections that are left are held
      pub whole : IsOpenedWhole k opened from d
      -- a section that is not longer than what is kept has the bytes that adopting its blob finds
      pub bytes : told → (s : ℕ) → IsHeld k.sections s
          → (s < last) ⊎ (adopted_size seal P (from (section_key partition s)).content
          ≤ whole_of size end)
          → section_bytes k.sections d s
          ≡ adopted_bytes seal P (from (section_key partition s)).content
      -- the last one, where it is longer, has what is kept
      pub cut : told → IsHeld k.sections last
          → whole_of size end < adopted_size seal P (from (section_key partition last)).content
          → section_bytes k.sections d last
          ≡ take (bounded_size last (from (section_key partition last)).content)
          (sealed_prefix seal P (from (section_key partition last)).content)
      -- the sealed prefix of a section's blob is as before, where the section is not longer than
      -- what is kept
      pub sealed : told → (s : ℕ) → IsHeld k.sections s
          → (s < last) ⊎ (adopted_size seal P (from (section_key partition s)).content
          ≤ whole_of size end)
          → sealed_prefix seal P (d (section_key partition s)).content
          ≡ sealed_prefix seal P (from (section_key partition s)).content
      -- and else what is kept of it
      pub sealed_cut : told → IsHeld k.sections last
          → whole_of size end < adopted_size seal P (from (section_key partition last)).content
          → sealed_prefix seal P (d (section_key partition last)).content
          ≡ take (bounded_size last (from (section_key partition last)).content)
          (sealed_prefix seal P (from (section_key partition last)).content)
      -- a section owes a replay where it had bytes before the cut
      pub unrecovered : told → (s : ℕ) → IsTrue (k.unrecovered s)
          ↔ (IsHeld k.sections s × (0 < adopted_size seal P
          (from (section_key partition s)).content))

    -- It was gone over too: it has what is kept, and takes appends.
    pub record IsOpenedAtMost {V : Type 0} (spelling : V → List ℕ)
        (accepted : V → Unit {0} → Type 0)
        (k : Lists (AppendFactory S) (PageBlob S gs)) (opened : OpenedList)
        (from d : Disk) : Type 0 where
      -- all sections that are left are held
      pub whole : IsOpenedWhole k opened from d
      -- each section has what is kept of it
      pub bytes : told → (s : ℕ) → IsHeld k.sections s → section_bytes k.sections d s
          ≡ take (bounded_size s (from (section_key partition s)).content)
          (sealed_prefix seal P (from (section_key partition s)).content)
      -- which are items
      pub items : told → (s p : ℕ) → IsHeld k.sections s
          → (p + 1) * size ≤ bounded_size s (from (section_key partition s)).content
          → (v : V) × IsItem spelling accepted
          (item_at size (sealed_prefix seal P (from (section_key partition s)).content) p) v
      -- no replay is owed
      pub recovered : (s : ℕ) → k.unrecovered s ≡ false

  -- Item p of a section is kept.
  pub record IsKeptItem (from : Disk) (s p : ℕ) : Type 0 where
    -- the section has a blob
    pub there : IsThere from s
    -- it is not removed
    pub under : s ≤ last
    -- the item ends within what is kept
    pub within : (p + 1) * size ≤ bounded_size s (from (section_key partition s)).content

  -- Item p of a section is the first kept one that is none: its bytes are refused with e.
  pub record IsRefusedItem {V : Type 0} (spelling : V → List ℕ)
      (accepted : V → Unit {0} → Type 0) (refusal : List ℕ → Unit {0} → Option codec.Error)
      (from : Disk) (e : codec.Error) (s p : ℕ) : Type 0 where
    -- it is kept
    pub kept : IsKeptItem from s p
    -- all kept ones that go before it are items
    pub before : (t q : ℕ) → IsKeptItem from t q → StandsBefore t q s p
        → (v : V) × IsItem spelling accepted
        (item_at size (sealed_prefix seal P (from (section_key partition t)).content) q) v
    -- the codec refuses its bytes
    pub refused : refusal (item_at size (sealed_prefix seal P
        (from (section_key partition s)).content) p) tt ≡ Some e

  module _ {T D : Type 0} (dev : device.Ghosts D) (result : Result T Error) (old new : D) where
    -- What an opening up to that byte does, however it ends.
    pub record Bounds (Ends : T → Type 0) : Type 0 where
      -- at each moment, also where the call fails
      pub moments : dev.Tells
          → Always (dev.time old) (dev.time new) (Bounding (disk (dev.time old)))
      -- this is the journal then
      pub ends : IfOk result Ends
      -- a name that is no section's is refused, also behind the last section, before anything is
      -- removed
      pub names : RefusesNames dev partition result old new
      -- the list of opened blobs changes for the sections alone
      pub entries : (q : Key) → ((s : ℕ) → q ≢ section_key partition s) → dev.opened new q
          ≡ dev.opened old q
      -- faults are counted on
      pub faults : dev.faults old ≤ dev.faults new

    -- Why one fails that goes over no item. No page is damaged where the disk is told.
    abbrev pub IsBoundCause : Type 0
    IsBoundCause = ((n : List ℕ) × IsErrOf result (InvalidBlobName n))
        ⊎ (HasFailed result (dev.faults old) (dev.faults new)
        ⊎ (HasDamage result × (dev.Tells → ⊥)))

    -- One that goes over all items may also find one that is none.
    pub record IsDrainCause {V : Type 0} (spelling : V → List ℕ)
        (accepted : V → Unit {0} → Type 0)
        (refusal : List ℕ → Unit {0} → Option codec.Error) : Type 0 where
      -- the codec's error is that of the first kept item that is none
      pub refused : dev.Tells → (e : codec.Error) → IsErrOf result (Codec e)
          → (s p : ℕ)
          × IsRefusedItem spelling accepted refusal (disk (dev.time old)) e s p
      -- nothing else comes, but where no disk is told that a section is shorter than it was
      pub cause : OnErr result (IsBoundCause ⊎ (((e : codec.Error) × IsErrOf result (Codec e))
          ⊎ ((IsErrOf result (ItemOutOfRange 0) ⊎ IsBelowFloor result) × (dev.Tells → ⊥))))
