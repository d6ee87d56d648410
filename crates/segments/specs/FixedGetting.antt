-- What reading items of a fixed journal by their position does: one item, the last one, or several.
use Rattle.std.specs.Prelude.{◌≡◌, ◌⊎◌, ◌↔◌, ℕ, ◌+◌, ◌-◌, ◌*◌, ◌/◌, ◌<◌, ◌≤◌, Bool, true, false, List, map, count_by, Option, Some, None, Result, IfOk, OnOk, OnErr, IsSomeAnd}
use Rattle.std.specs.Result.{IsErrOf}
use Rattle.std.specs.List.{Contains}
use Rattle.blob_device.specs.Disk.{Blob}
use Rattle.blob_device.specs.Timeline.{disk}
use Rattle.blob_device.specs.declared.device.Device as device
use Rattle.blob_device.specs.declared.runtime.RError.TheVariants.{InvalidChecksum}
use Rattle.value_codec.specs.declared.codec.Error as codec
use Rattle.sealed_pages.specs.declared.page_blob.PageBlob.{PageBlob}
use Rattle.sealed_pages.specs.Buffer as pages
use Rattle.sealed_pages.specs.Buffer.{size_of, bytes_of, IsBacked, IsSealed}
use Rattle.sealed_pages.specs.Entries.{ReadsAtMost}
use Rattle.sealed_pages.specs.Reading.{Unchanged}
use Rattle.sealed_pages.specs.Shown.{shown}
use Rattle.section_manager.specs.Refusing.{HasFailed, IsPruned}
use Rattle.section_manager.specs.Sections.{key_of, IsHeld}
use Rattle.section_manager.specs.Setting.{Setting}
use Rattle.section_manager.specs.declared.buffer.SectionBuffer as buffer
use Rattle.section_manager.specs.declared.journal.Error.{Error}
use Rattle.section_manager.specs.declared.journal.Error.TheVariants.{Runtime, Codec}
use Rattle.section_manager.specs.declared.sealed.AppendFactory.{AppendFactory}
use Rattle.segments.specs.FixedItems.{item_at, IsItem}
use Rattle.segments.specs.FixedLists.{Lists, section_bytes, section_size, IsJournal, IsProven}
use Rattle.segments.specs.FixedReading.{HasItem, is_item_held, unheld, IsDamaged, IsItemCovered, IsAbsent, IsPast, HasNotRead}

module _ {S D : Type 0} {gs : _} (seal : List ℕ → ℕ) (size : ℕ) (dev : device.Ghosts D)
    (u : PageBlob S gs) (old new : D) (b : Blob) where
  -- The bytes of the item at p of the buffer u, over the blob b, were taken.
  pub record FillsItem (p : ℕ) (got : List ℕ) (result : Result Bool Error) : Type 0 where
    -- they are those of the item
    pub bytes : dev.Tells → IsBacked seal (shown u) b.content
        → OnOk result (got ≡ item_at size (bytes_of (shown u) b.content) p)
    -- matching slots cover its pages
    pub checked : dev.Tells → IsBacked seal (shown u) b.content
        → OnOk result (IsItemCovered size seal u b.content p)
    -- a page that is refused is damaged
    pub damaged : dev.Tells → IsBacked seal (shown u) b.content → (k : ℕ)
        → IsErrOf result (Runtime (InvalidChecksum k)) → IsDamaged size seal u b.content p k
    -- it is told whether all were held in memory
    pub held : IfOk result (λ r. r ≡ is_item_held size u p)
    -- then no call of the device is made
    pub idle : is_item_held size u p ≡ true → new ≡ old
    -- no blob changes
    pub unchanged : dev.Tells → Unchanged (dev.time old) (dev.time new)
    -- at most two pages more than the item fills are read
    pub reads : ReadsAtMost (size / u.page_size + 2) (pages.key_of (shown u))
        (dev.opened old) (dev.opened new)
    -- faults are counted on
    pub faults : dev.faults old ≤ dev.faults new
    -- nothing else is answered but a fault or want of memory
    pub cause : OnErr result (((k : ℕ) × IsErrOf result (Runtime (InvalidChecksum k)))
        ⊎ HasFailed result (dev.faults old) (dev.faults new))

module _ {V S D : Type 0} {gs : _} (seal : List ℕ → ℕ) (size : ℕ) (spelling : V → List ℕ)
    (allows : V → Unit {0} → Type 0) (refusal : List ℕ → Unit {0} → Option codec.Error)
    (dev : device.Ghosts D) (u : PageBlob S gs) (old new : D) (b : Blob) where
  -- The item at p of the buffer u, over the blob b, was read.
  pub record ReadsItem (p : ℕ) (result : Result V Error) : Type 0 where
    -- it is that item
    pub item : dev.Tells → IsBacked seal (shown u) b.content → IfOk result
        (IsItem spelling allows (item_at size (bytes_of (shown u) b.content) p))
    -- matching slots cover its pages
    pub checked : dev.Tells → IsBacked seal (shown u) b.content
        → OnOk result (IsItemCovered size seal u b.content p)
    -- a page that is refused is damaged
    pub damaged : dev.Tells → IsBacked seal (shown u) b.content → (k : ℕ)
        → IsErrOf result (Runtime (InvalidChecksum k)) → IsDamaged size seal u b.content p k
    -- bytes are refused for what they do not spell
    pub refused : dev.Tells → IsBacked seal (shown u) b.content → (e : codec.Error)
        → IsErrOf result (Codec e)
        → refusal (item_at size (bytes_of (shown u) b.content) p) tt ≡ Some e
    -- and where matching slots cover them
    pub sealed_first : dev.Tells → IsBacked seal (shown u) b.content → (e : codec.Error)
        → IsErrOf result (Codec e) → IsItemCovered size seal u b.content p
    -- also where no disk is told, it may be an item
    pub accepted : IfOk result (λ v. allows v tt)
    -- an item that is held in memory whole needs no call of the device
    pub idle : is_item_held size u p ≡ true → new ≡ old
    -- no blob changes
    pub unchanged : dev.Tells → Unchanged (dev.time old) (dev.time new)
    -- at most two pages more than the item fills are read
    pub reads : ReadsAtMost (size / u.page_size + 2) (pages.key_of (shown u))
        (dev.opened old) (dev.opened new)
    -- faults are counted on
    pub faults : dev.faults old ≤ dev.faults new
    -- nothing else is answered but a fault or want of memory
    pub cause : OnErr result (HasNotRead result (dev.faults old) (dev.faults new))

  -- The items at these positions of the buffer u, over the blob b, were read.
  pub record ReadsEach (positions : List ℕ) (result : Result (List V × ℕ) Error) : Type 0 where
    -- they are those items
    pub items : dev.Tells → IsBacked seal (shown u) b.content → IfOk result (λ r.
        map spelling r.0 ≡ map (item_at size (bytes_of (shown u) b.content)) positions)
    -- also where no disk is told, they may be items
    pub accepted : IfOk result (λ r. (v : V) → Contains r.0 v → allows v tt)
    -- those that were held in memory whole are counted
    pub held : IfOk result (λ r. r.1 ≡ count_by (is_item_held size u) positions)
    -- matching slots cover their pages
    pub checked : dev.Tells → IsBacked seal (shown u) b.content → OnOk result ((p : ℕ)
        → Contains positions p → IsItemCovered size seal u b.content p)
    -- a page that is refused is damaged
    pub damaged : dev.Tells → IsBacked seal (shown u) b.content → (k : ℕ)
        → IsErrOf result (Runtime (InvalidChecksum k))
        → (p : ℕ) × Contains positions p × IsDamaged size seal u b.content p k
    -- bytes are refused for what they do not spell, where matching slots cover them
    pub refused : dev.Tells → IsBacked seal (shown u) b.content → (e : codec.Error)
        → IsErrOf result (Codec e) → (p : ℕ) × Contains positions p
        × (refusal (item_at size (bytes_of (shown u) b.content) p) tt ≡ Some e)
        × IsItemCovered size seal u b.content p
    -- no blob changes
    pub unchanged : dev.Tells → Unchanged (dev.time old) (dev.time new)
    -- items that are all held in memory whole need no call of the device
    pub idle : unheld size u positions ≡ 0 → new ≡ old
    -- each other one needs at most two pages more than it fills
    pub reads : ReadsAtMost (unheld size u positions * (size / u.page_size + 2))
        (pages.key_of (shown u)) (dev.opened old) (dev.opened new)
    -- faults are counted on
    pub faults : dev.faults old ≤ dev.faults new
    -- nothing else is answered but a fault or want of memory
    pub cause : OnErr result (HasNotRead result (dev.faults old) (dev.faults new))

module _ {V S D : Type 0} {gs : _} (g : buffer.Ghosts (PageBlob S gs))
    (gives : AppendFactory S → Setting) (seal : List ℕ → ℕ) (size : ℕ) (spelling : V → List ℕ)
    (allows : V → Unit {0} → Type 0) (refusal : List ℕ → Unit {0} → Option codec.Error)
    (dev : device.Ghosts D) (j : Lists (AppendFactory S) (PageBlob S gs)) (s : ℕ)
    (old new : D) where
  -- The journal j was asked for the item at p of its section s.
  pub record Gets (p : ℕ) (result : Result V Error) : Type 0 where
    -- it is that item
    pub item : dev.Tells → IfOk result (IsItem spelling allows
        (item_at size (section_bytes j.sections (disk (dev.time old)) s) p))
    -- a section below the floor is refused, and no other one for that
    pub guard : IsPruned result j.sections.floor ↔ (s < j.sections.floor)
    -- then one that is not held
    pub absent : IsAbsent result s
        ↔ ((j.sections.floor ≤ s) × (j.sections.held s ≡ None))
    -- then a position at or past the end
    pub past : IsPast result p
        ↔ IsSomeAnd (j.sections.held s) (λ u. size_of (shown u) / size ≤ p)
    -- matching slots cover the item's pages as far as it goes
    pub checked : dev.Tells → OnOk result (IsSomeAnd (j.sections.held s)
        (λ u. IsItemCovered size seal u (disk (dev.time old) (key_of j.sections s)).content p))
    -- a page is refused only where no matching slot covers it as far as the item goes
    pub damaged : dev.Tells → (k : ℕ) → IsErrOf result (Runtime (InvalidChecksum k))
        → IsSomeAnd (j.sections.held s)
        (λ u. IsDamaged size seal u (disk (dev.time old) (key_of j.sections s)).content p k)
    -- no page of a section that is proven, or sealed, is damaged
    pub sound : dev.Tells → IsProven j s ⊎ IsSomeAnd (j.sections.held s)
        (λ u. IsSealed seal (shown u) (disk (dev.time old) (key_of j.sections s)))
        → (k : ℕ) → IsErrOf result (Runtime (InvalidChecksum k)) → ⊥
    -- bytes are refused only for what they do not spell
    pub refused : dev.Tells → (e : codec.Error) → IsErrOf result (Codec e) → refusal
        (item_at size (section_bytes j.sections (disk (dev.time old)) s) p) tt ≡ Some e
    -- seals come before spellings
    pub sealed_first : dev.Tells → (e : codec.Error) → IsErrOf result (Codec e)
        → IsSomeAnd (j.sections.held s)
        (λ u. IsItemCovered size seal u (disk (dev.time old) (key_of j.sections s)).content p)
    -- also where no disk is told, it may be an item
    pub accepted : IfOk result (λ v. allows v tt)
    -- the journal may be used as before
    pub over : IsJournal g gives seal size dev.Tells j (dev.opened new) (disk (dev.time new))
    -- no blob changes
    pub unchanged : dev.Tells → Unchanged (dev.time old) (dev.time new)
    -- a refusal that needs no read makes no call of the device, nor does an item that is held in
    -- memory whole
    pub idle : (IsSomeAnd (j.sections.held s)
        (λ u. HasItem size u p × (is_item_held size u p ≡ false)) → ⊥) → new ≡ old
    -- at most two pages more than the item fills are read, all of the section's blob
    pub reads : IsHeld j.sections s
        → ReadsAtMost (size / j.sections.factory.pages.page_size + 2) (key_of j.sections s)
        (dev.opened old) (dev.opened new)
    -- faults are counted on
    pub faults : dev.faults old ≤ dev.faults new
    -- nothing else is answered but a fault or want of memory
    pub cause : OnErr result (IsPruned result j.sections.floor ⊎ (IsAbsent result s
        ⊎ (IsPast result p ⊎ HasNotRead result (dev.faults old) (dev.faults new))))

  -- The journal j was asked for the last whole item of its section s.
  pub record GetsLast (result : Result (Option V) Error) : Type 0 where
    -- there is none exactly where the section has none
    pub none : IfOk result (λ r. (r ≡ None) ↔ (section_size j.sections s / size ≡ 0))
    -- it is the last one
    pub item : dev.Tells → IfOk result (λ r. (v : V) → r ≡ Some v → IsItem spelling allows
        (item_at size (section_bytes j.sections (disk (dev.time old)) s)
        (section_size j.sections s / size - 1)) v)
    -- a section below the floor is refused, and no other one for that
    pub guard : IsPruned result j.sections.floor ↔ (s < j.sections.floor)
    -- then one that is not held
    pub absent : IsAbsent result s
        ↔ ((j.sections.floor ≤ s) × (j.sections.held s ≡ None))
    -- a page is refused only where no matching slot covers it as far as the item goes
    pub damaged : dev.Tells → (k : ℕ) → IsErrOf result (Runtime (InvalidChecksum k))
        → IsSomeAnd (j.sections.held s) (λ u. IsDamaged size seal u
        (disk (dev.time old) (key_of j.sections s)).content (size_of (shown u) / size - 1) k)
    -- no page of a section that is proven, or sealed, is damaged
    pub sound : dev.Tells → IsProven j s ⊎ IsSomeAnd (j.sections.held s)
        (λ u. IsSealed seal (shown u) (disk (dev.time old) (key_of j.sections s)))
        → (k : ℕ) → IsErrOf result (Runtime (InvalidChecksum k)) → ⊥
    -- bytes are refused only for what they do not spell
    pub refused : dev.Tells → (e : codec.Error) → IsErrOf result (Codec e) → refusal
        (item_at size (section_bytes j.sections (disk (dev.time old)) s)
        (section_size j.sections s / size - 1)) tt ≡ Some e
    -- matching slots cover the item's pages as far as it goes
    pub checked : dev.Tells → OnOk result ((u : PageBlob S gs) → j.sections.held s ≡ Some u
        → 0 < size_of (shown u) / size → IsItemCovered size seal u
        (disk (dev.time old) (key_of j.sections s)).content (size_of (shown u) / size - 1))
    -- seals come before spellings
    pub sealed_first : dev.Tells → (e : codec.Error) → IsErrOf result (Codec e)
        → IsSomeAnd (j.sections.held s) (λ u. IsItemCovered size seal u
        (disk (dev.time old) (key_of j.sections s)).content (size_of (shown u) / size - 1))
    -- also where no disk is told, it may be an item
    pub accepted : IfOk result (λ r. (v : V) → r ≡ Some v → allows v tt)
    -- the journal may be used as before
    pub over : IsJournal g gives seal size dev.Tells j (dev.opened new) (disk (dev.time new))
    -- no blob changes
    pub unchanged : dev.Tells → Unchanged (dev.time old) (dev.time new)
    -- a refusal makes no call of the device, nor does an item that is held in memory whole
    pub idle : (IsSomeAnd (j.sections.held s) (λ u. (0 < size_of (shown u) / size)
        × (is_item_held size u (size_of (shown u) / size - 1) ≡ false)) → ⊥) → new ≡ old
    -- at most two pages more than the item fills are read, all of the section's blob
    pub reads : IsHeld j.sections s
        → ReadsAtMost (size / j.sections.factory.pages.page_size + 2) (key_of j.sections s)
        (dev.opened old) (dev.opened new)
    -- faults are counted on
    pub faults : dev.faults old ≤ dev.faults new
    -- nothing else is answered but a fault or want of memory
    pub cause : OnErr result (IsPruned result j.sections.floor ⊎ (IsAbsent result s
        ⊎ HasNotRead result (dev.faults old) (dev.faults new)))

  -- The journal j was asked for the items at these positions of its section s, which ascend.
  pub record GetsMany (positions : List ℕ) (result : Result (List V × ℕ) Error) : Type 0 where
    -- they are those items
    pub items : dev.Tells → IfOk result (λ r. map spelling r.0
        ≡ map (item_at size (section_bytes j.sections (disk (dev.time old)) s)) positions)
    -- also where no disk is told, they may be items
    pub accepted : IfOk result (λ r. (v : V) → Contains r.0 v → allows v tt)
    -- those that were held in memory whole are counted
    pub held : IfOk result (λ r. IsSomeAnd (j.sections.held s)
        (λ u. r.1 ≡ count_by (is_item_held size u) positions))
    -- a section below the floor is refused, and no other one for that
    pub guard : IsPruned result j.sections.floor ↔ (s < j.sections.floor)
    -- then one that is not held
    pub absent : IsAbsent result s
        ↔ ((j.sections.floor ≤ s) × (j.sections.held s ≡ None))
    -- then a position at or past the end
    pub past : (p : ℕ) → IsPast result p → Contains positions p
        × IsSomeAnd (j.sections.held s) (λ u. size_of (shown u) / size ≤ p)
    -- the first one
    pub first : (p q : ℕ) → IsPast result p → Contains positions q → q < p
        → IsSomeAnd (j.sections.held s) (λ u. HasItem size u q)
    -- and always
    pub inside : (u : PageBlob S gs) (p : ℕ) → j.sections.held s ≡ Some u
        → Contains positions p → size_of (shown u) / size ≤ p → (q : ℕ) × IsPast result q
    -- matching slots cover the items' pages as far as they go
    pub checked : dev.Tells → OnOk result (IsSomeAnd (j.sections.held s) (λ u. (p : ℕ)
        → Contains positions p
        → IsItemCovered size seal u (disk (dev.time old) (key_of j.sections s)).content p))
    -- a page is refused only where no matching slot covers it as far as an item goes
    pub damaged : dev.Tells → (k : ℕ) → IsErrOf result (Runtime (InvalidChecksum k))
        → IsSomeAnd (j.sections.held s) (λ u. (p : ℕ) × Contains positions p
        × IsDamaged size seal u (disk (dev.time old) (key_of j.sections s)).content p k)
    -- no page of a section that is proven, or sealed, is damaged
    pub sound : dev.Tells → IsProven j s ⊎ IsSomeAnd (j.sections.held s)
        (λ u. IsSealed seal (shown u) (disk (dev.time old) (key_of j.sections s)))
        → (k : ℕ) → IsErrOf result (Runtime (InvalidChecksum k)) → ⊥
    -- bytes are refused only for what they do not spell, and seals come before spellings
    pub refused : dev.Tells → (e : codec.Error) → IsErrOf result (Codec e)
        → (p : ℕ) × Contains positions p × (refusal
        (item_at size (section_bytes j.sections (disk (dev.time old)) s) p) tt ≡ Some e)
        × IsSomeAnd (j.sections.held s) (λ u.
        IsItemCovered size seal u (disk (dev.time old) (key_of j.sections s)).content p)
    -- the journal may be used as before
    pub over : IsJournal g gives seal size dev.Tells j (dev.opened new) (disk (dev.time new))
    -- no blob changes
    pub unchanged : dev.Tells → Unchanged (dev.time old) (dev.time new)
    -- where it refuses without a read, or where all items are held in memory whole, no call of the
    -- device is made
    pub idle : (IsSomeAnd (j.sections.held s)
        (λ u. ((p : ℕ) → Contains positions p → HasItem size u p)
        × (0 < unheld size u positions)) → ⊥) → new ≡ old
    -- each item that is not held whole needs at most two pages more than it fills, all of the
    -- section's blob
    pub reads : (u : PageBlob S gs) → j.sections.held s ≡ Some u → ReadsAtMost
        (unheld size u positions * (size / j.sections.factory.pages.page_size + 2))
        (key_of j.sections s) (dev.opened old) (dev.opened new)
    -- faults are counted on
    pub faults : dev.faults old ≤ dev.faults new
    -- nothing else is answered but a fault or want of memory
    pub cause : OnErr result (IsPruned result j.sections.floor ⊎ (IsAbsent result s
        ⊎ (((p : ℕ) × IsPast result p)
        ⊎ HasNotRead result (dev.faults old) (dev.faults new))))
