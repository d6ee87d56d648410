-- What reading an item at an offset answers.
use Rattle.std.specs.List.{Contains}
use Rattle.std.specs.Prelude.{⊤, ◌≡◌, ◌⊎◌, ◌↔◌, ℕ, ◌+◌, ◌^◌, ◌<◌, ◌≤◌, false, List, [], ◌∷◌, get_or, length, drop, take, Option, Some, None, Result, Ok, Err, IfOk, OnOk, OnErr, IsSomeAnd}
use Rattle.std.specs.Result.{IsErrOf}
use Rattle.blob_device.specs.Timeline.{disk}
use Rattle.blob_device.specs.declared.device.Device as device
use Rattle.blob_device.specs.declared.runtime.RError.TheVariants.{InvalidChecksum}
use Rattle.value_codec.specs.declared.codec.Error as codec
use Rattle.value_codec.specs.declared.codec.Error.TheVariants.{InvalidVarint}
use Rattle.value_codec.specs.Varint.{BeginsWithVarint}
use Rattle.sealed_pages.specs.Reading.{OnlyRead, Unchanged}
use Rattle.sealed_pages.specs.Reads.{IsHeld}
use Rattle.sealed_pages.specs.Shown.{shown}
use Rattle.sealed_pages.specs.declared.page_blob.PageBlob.{PageBlob}
use Rattle.section_manager.specs.Refusing.{HasFailed, IsPruned}
use Rattle.section_manager.specs.Sections.{key_of}
use Rattle.section_manager.specs.declared.journal.Error.{Error}
use Rattle.section_manager.specs.declared.journal.Error.TheVariants.{Codec, Runtime}
use Rattle.segments.specs.FixedLists.{Lists, section_bytes, section_size}
use Rattle.segments.specs.FixedReading.{IsAbsent, IsPast}
use Rattle.variable_journal.specs.Frames.{frame, BeginsWithFrame, BeginsWithNoFrame, HasBadLength}
use Rattle.variable_journal.specs.Reaching.{frame_reach, IsCoveredTo, IsDamagedTo}

-- The item spells this value, which the codec accepts.
pub record Spells {V C : Type 0} (spelling : V → List ℕ) (accepted : V → C → Type 0) (config : C)
    (item : List ℕ) (v : V) : Type 0 where
  pub spelled : spelling v ≡ item
  pub allowed : accepted v config

-- From the place on a frame stands that spells this value.
pub record FrameOf {V C : Type 0} (spelling : V → List ℕ) (accepted : V → C → Type 0) (config : C)
    (bytes : List ℕ) (v : V) : Type 0 where
  -- the item's bytes
  pub item : List ℕ
  -- and what follows the frame
  pub rest : List ℕ
  pub begins : BeginsWithFrame bytes item rest
  pub spells : Spells spelling accepted config item v

-- From the place on there are no bytes, or a length that runs past the end, or fewer bytes than the longest
-- length has: no frame stands there.
pub record IsPastLast (bytes : List ℕ) : Type 0 where
  pub none : BeginsWithNoFrame bytes
  pub unread : HasBadLength bytes → ⊥

-- The codec's error: five bytes or more that say no length, or an item that it refuses.
abbrev pub IsRefusedBy : {C : Type 0} → (List ℕ → C → Option codec.Error) → C → List ℕ
    → codec.Error → Type 0
IsRefusedBy refusal config bytes e = ((e ≡ InvalidVarint) × HasBadLength bytes)
    ⊎ ((item : List ℕ) × (rest : List ℕ) × BeginsWithFrame bytes item rest
    × (refusal item config ≡ Some e))

-- The length of a frame was asked for, of which `seen` bytes were looked at, of these.
pub record Measures (seen : ℕ) (bytes : List ℕ) (result : Result (Option (ℕ × ℕ)) Error)
    : Type 0 where
  -- it stands there, among those that were looked at
  pub found : (r : ℕ × ℕ) → result ≡ Ok (Some r)
      → BeginsWithVarint (2 ^ 32) bytes r.0 r.1 × (r.1 ≤ seen)
  -- no frame is there
  pub none : result ≡ Ok None → IsPastLast bytes
  -- there are five bytes that say no length
  pub refused : (e : Error) → result ≡ Err e → (e ≡ Codec InvalidVarint) × HasBadLength bytes

-- the length of a frame stands there, and so many bytes of it, and all of the frame is there
abbrev pub HasHeader : List ℕ → ℕ × ℕ → Type 0
HasHeader bytes r = BeginsWithVarint (2 ^ 32) bytes r.0 r.1 × (r.1 + r.0 ≤ length bytes)

-- the length of a frame stands there, or no frame does
abbrev pub HasLength : List ℕ → Option (ℕ × ℕ) → Type 0
HasLength bytes (Some r) = BeginsWithVarint (2 ^ 32) bytes r.0 r.1
HasLength bytes None = IsPastLast bytes

-- there are five bytes that say no length, which is the codec's error
abbrev pub SaysNoLength : List ℕ → codec.Error → Type 0
SaysNoLength bytes e = (e ≡ InvalidVarint) × HasBadLength bytes

-- The item at this offset of the section was asked for.
module _ {F S V C D : Type 0} {gs : _} (seal : List ℕ → ℕ) (spelling : V → List ℕ)
    (accepted : V → C → Type 0) (refusal : List ℕ → C → Option codec.Error) (config : C)
    (dev : device.Ghosts D) (section offset : ℕ) (j : Lists F (PageBlob S gs))
    (result : Result V Error) (old new : D) where
  -- the section's bytes from the offset on
  abbrev pub bytes_there : List ℕ
  bytes_there = drop offset (section_bytes j.sections (disk (dev.time old)) section)

  -- what its blob reads
  abbrev pub content_there : List ℕ
  content_there = (disk (dev.time old) (key_of j.sections section)).content

  pub record Gets : Type 0 where
    -- it is the item whose frame stands there
    pub value : dev.Tells → IfOk result (FrameOf spelling accepted config bytes_there)
    -- a section below the floor is refused, and no other by this
    pub guard : IsPruned result j.sections.floor ↔ (section < j.sections.floor)
    -- then one that is not held
    pub absent : IsAbsent result section
        ↔ ((j.sections.floor ≤ section) × (j.sections.held section ≡ None))
    -- then an offset at or past the end
    pub behind : (u : _) → j.sections.held section ≡ Some u → j.sections.floor ≤ section
        → section_size j.sections section ≤ offset → IsPast result offset
    -- or where no frame stands that ends in the section
    pub past : dev.Tells → IsPast result offset → IsPastLast bytes_there
    -- an item is given, and the end or the codec's error is answered, only where matching slots cover
    -- the frame's pages below the tip; where no frame is whole, those of its length
    pub checked : dev.Tells → OnErr result (IsPast result offset
        ⊎ ((e : codec.Error) × IsErrOf result (Codec e))) → IsSomeAnd (j.sections.held section)
        (λ u. IsCoveredTo seal u content_there offset (frame_reach bytes_there))
    -- a page is refused only where it has some of these bytes, and no matching slot covers it as far as
    -- they go
    pub damaged : dev.Tells → (k : ℕ) → IsErrOf result (Runtime (InvalidChecksum k))
        → IsSomeAnd (j.sections.held section)
        (λ u. IsDamagedTo seal u content_there offset (frame_reach bytes_there) k)
    -- none of a section that owes no replay is
    pub sound : dev.Tells → j.unrecovered section ≡ false → (k : ℕ)
        → IsErrOf result (Runtime (InvalidChecksum k)) → ⊥
    -- bytes are refused for what they do not spell
    pub refused : dev.Tells → (e : codec.Error) → IsErrOf result (Codec e)
        → IsRefusedBy refusal config bytes_there e
    -- a frame that is whole in memory needs no call of the device
    pub idle : dev.Tells → (item rest : List ℕ) → BeginsWithFrame bytes_there item rest
        → IsSomeAnd (j.sections.held section) (λ u. IsHeld (shown u) offset (length (frame item)))
        → new ≡ old
    -- nothing is written
    pub unchanged : dev.Tells → Unchanged (dev.time old) (dev.time new)
    -- the section's blob stays open, and no other entry changes
    pub entries : OnlyRead (key_of j.sections section) (dev.opened old) (dev.opened new)
    -- faults are counted on
    pub faults : dev.faults old ≤ dev.faults new
    -- nothing else is answered but a fault or want of memory
    pub cause : OnErr result (IsPruned result j.sections.floor ⊎ (IsAbsent result section
        ⊎ (IsPast result offset ⊎ (((k : ℕ) × IsErrOf result (Runtime (InvalidChecksum k)))
        ⊎ (((e : codec.Error) × IsErrOf result (Codec e))
        ⊎ HasFailed result (dev.faults old) (dev.faults new))))))

-- The values whose frames stand at these offsets, in this order.
abbrev pub AreThere : {V C : Type 0} → (V → List ℕ) → (V → C → Type 0) → C → List ℕ
    → List ℕ → List V → Type 0
AreThere spelling accepted config bytes [] [] = ⊤
AreThere spelling accepted config bytes [] (v ∷ vs) = ⊥
AreThere spelling accepted config bytes (o ∷ os) [] = ⊥
AreThere spelling accepted config bytes (o ∷ os) (v ∷ vs) =
    FrameOf spelling accepted config (drop o bytes) v × AreThere spelling accepted config bytes os vs

-- Of these offsets all before one of them have frames there, and that one was refused.
pub record IsFirstRefused {V C : Type 0} (told : Type 0) (spelling : V → List ℕ)
    (accepted : V → C → Type 0) (config : C) (covered : ℕ → Type 0) (bytes : List ℕ)
    (offsets : List ℕ) (offset : ℕ) : Type 0 where
  -- so many are before it
  pub count : ℕ
  pub below : count < length offsets
  pub is : get_or offsets count 0 ≡ offset
  -- and have these values
  pub before : told → (vs : List V)
      × AreThere spelling accepted config bytes (take count offsets) vs
  -- and their pages are covered
  pub checked : told → (o : ℕ) → Contains (take count offsets) o → covered o

-- The items at these offsets of the section were asked for.
module _ {F S V C D : Type 0} {gs : _} (seal : List ℕ → ℕ) (spelling : V → List ℕ)
    (accepted : V → C → Type 0) (refusal : List ℕ → C → Option codec.Error) (config : C)
    (dev : device.Ghosts D) (section : ℕ) (offsets : List ℕ) (j : Lists F (PageBlob S gs))
    (result : Result (List V) Error) (old new : D) where
  -- the section's bytes
  abbrev pub all_there : List ℕ
  all_there = section_bytes j.sections (disk (dev.time old)) section

  -- matching slots cover the pages below the tip of the frame at an offset, as far as it goes
  abbrev pub IsCoveredAt : ℕ → Type 0
  IsCoveredAt o = IsSomeAnd (j.sections.held section) (λ u. IsCoveredTo seal u
      (disk (dev.time old) (key_of j.sections section)).content o (frame_reach (drop o all_there)))

  -- page k has bytes of that frame, and no matching slot covers it as far as they go
  abbrev pub IsDamagedAt : ℕ → ℕ → Type 0
  IsDamagedAt o k = IsSomeAnd (j.sections.held section) (λ u. IsDamagedTo seal u
      (disk (dev.time old) (key_of j.sections section)).content o (frame_reach (drop o all_there)) k)

  -- the frame at an offset is whole in memory
  abbrev pub IsInMemory : ℕ → Type 0
  IsInMemory o = (item : List ℕ) × (rest : List ℕ) × BeginsWithFrame (drop o all_there) item rest
      × IsSomeAnd (j.sections.held section) (λ u. IsHeld (shown u) o (length (frame item)))

  -- the offset is the first one that was refused
  abbrev pub IsRefusedAt : ℕ → Type 0
  IsRefusedAt = IsFirstRefused dev.Tells spelling accepted config IsCoveredAt all_there offsets

  pub record GetsMany : Type 0 where
    -- they are those whose frames stand there
    pub values : dev.Tells → IfOk result (AreThere spelling accepted config all_there offsets)
    -- a section below the floor is refused, and no other by this
    pub guard : IsPruned result j.sections.floor ↔ (section < j.sections.floor)
    -- then one that is not held
    pub absent : IsAbsent result section
        ↔ ((j.sections.floor ≤ section) × (j.sections.held section ≡ None))
    -- then the first offset where no frame stands that ends in the section
    pub past : (o : ℕ) → IsPast result o
        → IsRefusedAt o × (dev.Tells → IsPastLast (drop o all_there)) × (dev.Tells → IsCoveredAt o)
    -- each offset that is read is below the end
    pub inside : OnOk result ((o : ℕ) → Contains offsets o
        → o < section_size j.sections section)
    -- matching slots cover the pages of each frame, as far as it goes
    pub checked : dev.Tells → OnOk result ((o : ℕ) → Contains offsets o → IsCoveredAt o)
    -- a page is refused only where it has bytes of the first frame that is refused, and no matching slot
    -- covers it as far as they go
    pub damaged : dev.Tells → (k : ℕ) → IsErrOf result (Runtime (InvalidChecksum k))
        → (o : ℕ) × IsRefusedAt o × IsDamagedAt o k
    -- none of a section that owes no replay is
    pub sound : dev.Tells → j.unrecovered section ≡ false → (k : ℕ)
        → IsErrOf result (Runtime (InvalidChecksum k)) → ⊥
    -- bytes are refused for what they do not spell, at the first offset where they do not
    pub refused : dev.Tells → (e : codec.Error) → IsErrOf result (Codec e)
        → (o : ℕ) × IsRefusedAt o × IsRefusedBy refusal config (drop o all_there) e × IsCoveredAt o
    -- frames that are all whole in memory need no call of the device
    pub idle : dev.Tells → ((o : ℕ) → Contains offsets o → IsInMemory o) → new ≡ old
    -- nothing is written
    pub unchanged : dev.Tells → Unchanged (dev.time old) (dev.time new)
    -- the section's blob stays open, and no other entry changes
    pub entries : OnlyRead (key_of j.sections section) (dev.opened old) (dev.opened new)
    -- faults are counted on
    pub faults : dev.faults old ≤ dev.faults new
    -- nothing else is answered but a fault or want of memory
    pub cause : OnErr result (IsPruned result j.sections.floor ⊎ (IsAbsent result section
        ⊎ (((o : ℕ) × IsPast result o) ⊎ (((k : ℕ) × IsErrOf result (Runtime (InvalidChecksum k)))
        ⊎ (((e : codec.Error) × IsErrOf result (Codec e))
        ⊎ HasFailed result (dev.faults old) (dev.faults new))))))
