-- What inner calls of a replay of frames promise: that they look at bytes, and that they take a turn.
use Rattle.std.specs.Prelude.{◌≡◌, ◌⊎◌, ℕ, ◌+◌, ◌^◌, ◌<◌, ◌≤◌, Bool, false, true, List, length, take, drop, Option, Some, None, IsSome, Result, Ok, Err, IfOk, OnOk, OnErr, IsSomeAnd}
use Rattle.std.specs.Result.{IsErrOf}
use Rattle.blob_device.specs.Timeline.{disk}
use Rattle.blob_device.specs.declared.device.Device as device
use Rattle.blob_device.specs.declared.runtime.RError.TheVariants.{InvalidChecksum}
use Rattle.value_codec.specs.declared.codec.Error as codec
use Rattle.value_codec.specs.Varint.{BeginsWithVarint}
use Rattle.sealed_pages.specs.Reading.{Unchanged}
use Rattle.sealed_pages.specs.declared.page_blob.PageBlob.{PageBlob}
use Rattle.section_manager.specs.Entries.{OnlyOwnEntry}
use Rattle.section_manager.specs.Refusing.{HasDamage, HasFailed}
use Rattle.section_manager.specs.Sections.{key_of}
use Rattle.section_manager.specs.Setting.{Setting}
use Rattle.section_manager.specs.declared.buffer.SectionBuffer as buffer
use Rattle.section_manager.specs.declared.journal.Error.{Error}
use Rattle.section_manager.specs.declared.journal.Error.TheVariants.{Runtime}
use Rattle.segments.specs.FixedCursor.{kept_at, leaving}
use Rattle.segments.specs.FixedReplay as bytes
use Rattle.segments.specs.FixedReplay.{Walk, Place, IsDrained}
use Rattle.segments.specs.FixedStepping.{failing, standing, way_of}
use Rattle.variable_journal.specs.Frames.{HasBadLength}
use Rattle.variable_journal.specs.Reading.{IsPastLast}
use Rattle.variable_journal.specs.Replaying.{GivenItem, LeavesWhole, given_bytes}
use Rattle.variable_journal.specs.Advancing.{GivesError, GivesOne, HasPassed, IsGoing}
use Rattle.variable_journal.specs.declared.journal.replaying.Header.{Header}
use Rattle.variable_journal.specs.declared.journal.replaying.Header.TheVariants.{Length, Cut, Bad}

-- The replay k is w at the place q, which is as far as r or further in the same section.
pub record IsFurther {F B : Type 0} (w k : Walk F B) (r q : Place) : Type 0 where
  -- nothing but the place has changed
  pub goes : k ≡ standing w q
  pub section : q.section ≡ r.section
  pub position : r.position ≤ q.position
  -- the reader is over as many bytes
  pub size : q.reader.size ≡ r.reader.size
  -- and not before where it was
  pub at : r.reader.at ≤ q.reader.at

-- the replay where it has given an error, and stands in no section
abbrev pub stopped : {F B : Type 0} → Walk F B → Walk F B
stopped w = failing (leaving w)

-- what stands at the start of these bytes
abbrev pub Says : Header → List ℕ → Type 0
Says (Length n len) bytes = BeginsWithVarint (2 ^ 32) bytes n len
Says Cut bytes = IsPastLast bytes
Says Bad bytes = HasBadLength bytes

-- a length has a byte, and five at most
abbrev pub IsSmall : Header → Type 0
IsSmall (Length n len) = (1 ≤ len) × (len ≤ 5)
IsSmall Cut = Unit {0}
IsSmall Bad = Unit {0}

module _ {F S D : Type 0} {gs : _} (g : buffer.Ghosts (PageBlob S gs)) (gives : F → Setting)
    (seal : List ℕ → ℕ) (dev : device.Ghosts D) where
  -- the replay of bytes w on the device, which may be used
  abbrev pub BytesGo : Walk F (PageBlob S gs) → D → Type 0
  BytesGo w at = bytes.IsWalk g gives seal 1 dev.Tells w (dev.opened at) (disk (dev.time at))

  -- What looking at bytes asks.
  pub record MayLook (w : Walk F (PageBlob S gs)) (at : D) : Type 0 where
    pub over : BytesGo w at
    pub free : (s : ℕ) → w.journal.floor_of s ≡ 0
    -- it stands in a section
    pub stands : IsSome w.place

  -- What a turn asks.
  pub record IsUnder (w : Walk F (PageBlob S gs)) (at : D) : Type 0 where
    pub over : IsGoing g gives seal dev w at
    pub going : w.ended ≡ false
    -- a section is left
    pub more : IsDrained w → ⊥

  -- It stands at this offset of this section.
  pub record IsAt (section offset : ℕ) (w : Walk F (PageBlob S gs)) (at : D) : Type 0 where
    pub over : IsGoing g gives seal dev w at
    pub going : w.ended ≡ false
    pub stands : IsSomeAnd w.place (λ r. (r.section ≡ section) × (r.position ≡ offset))

  -- And no whole frame is left there, nor a length that is refused.
  pub record IsAtTorn (section offset : ℕ) (w : Walk F (PageBlob S gs)) (at : D) : Type 0 where
    pub place : IsAt section offset w at
    pub torn : dev.Tells
        → IsPastLast (drop offset (given_bytes seal w (disk (dev.time at)) section))

  -- And the length of a frame stands there, in so many bytes.
  pub record IsAtFrame (section offset header size : ℕ) (w : Walk F (PageBlob S gs)) (at : D)
      : Type 0 where
    pub place : IsAt section offset w at
    pub begins : dev.Tells → BeginsWithVarint (2 ^ 32)
        (drop offset (given_bytes seal w (disk (dev.time at)) section)) size header
    pub some : 1 ≤ header
    pub small : header ≤ 5

  module _ (r : Place) (w k : Walk F (PageBlob S gs)) (old new : D) where
    -- It looked at bytes of the section of the place r, from there on.
    pub record Looks {T : Type 0} (result : Result T Error) : Type 0 where
      pub rest : OnOk result (IsSomeAnd k.place (IsFurther w k r))
      -- the replay of bytes goes on
      pub over : OnOk result (BytesGo k new)
      -- also behind an error, which ends the section
      pub broken : OnErr result (BytesGo (stopped k) new)
      pub dropped : OnErr result (leaving k ≡ leaving w)
      -- nothing is written
      pub unchanged : dev.Tells → Unchanged (dev.time old) (dev.time new)
      -- no other blob's entry changes
      pub entries : OnlyOwnEntry (key_of w.journal.sections r.section) (dev.opened old) (dev.opened new)
      pub faults : dev.faults old ≤ dev.faults new
      -- no page is found damaged: none has a floor
      pub damaged : dev.Tells → (n : ℕ) → IsErrOf result (Runtime (InvalidChecksum n)) → ⊥
      pub cause : OnErr result (HasDamage result ⊎ HasFailed result (dev.faults old) (dev.faults new))

    -- the bytes that are given from the place on
    abbrev pub bytes_on : List ℕ
    bytes_on = drop r.position (kept_at seal 1 w r (disk (dev.time old)))

    -- how many those are, with the place
    abbrev pub kept_size : ℕ
    kept_size = length (kept_at seal 1 w r (disk (dev.time old)))

    -- it stands where it stood
    abbrev pub StandsStill : Type 0
    StandsStill = IsSomeAnd k.place (λ q. q.position ≡ r.position)

    -- so many bytes are at hand
    abbrev pub AreAtHand : ℕ → Type 0
    AreAtHand n = IsSomeAnd k.place (λ q. n ≤ length q.reader.bytes)

    -- and these are those of the section
    abbrev pub AreThere : ℕ → Type 0
    AreThere n = IsSomeAnd k.place (λ q. take n q.reader.bytes ≡ take n bytes_on)

    -- It looked for as many bytes as a length has.
    pub record HasLooked (result : Result ℕ Error) : Type 0 where
      pub looks : Looks result
      pub still : OnOk result StandsStill
      -- so many are at hand, five at most
      pub hand : IfOk result (λ n. (n ≤ 5) × AreAtHand n)
      -- and all that are kept, where they are fewer than five
      pub all : dev.Tells → IfOk result (λ n. n < 5 → kept_size ≤ r.position + n)

    -- It looked what stands at the place.
    pub record FindsHeader (result : Result Header Error) : Type 0 where
      pub looks : Looks result
      pub still : OnOk result StandsStill
      pub says : dev.Tells → IfOk result (λ f. Says f bytes_on)
      pub small : IfOk result IsSmall

    -- It looked whether n bytes are kept from the place on.
    pub record HasReached (n : ℕ) (result : Result Bool Error) : Type 0 where
      pub looks : Looks result
      pub still : OnOk result StandsStill
      -- they are, and are at hand
      pub hand : result ≡ Ok true → AreAtHand n
      pub bytes : dev.Tells → result ≡ Ok true → AreThere n
      pub enough : dev.Tells → result ≡ Ok true → r.position + n ≤ kept_size
      -- or fewer are kept
      pub short : dev.Tells → result ≡ Ok false → kept_size < r.position + n

    -- It passed over what is left of the section.
    pub record HasSkipped (result : Result (Unit {0}) Error) : Type 0 where
      pub looks : Looks result
      -- to the end of what is kept
      pub end : dev.Tells → OnOk result (IsSomeAnd k.place (λ q. kept_size ≤ q.position))

  module _ {V C : Type 0} (spelling : V → List ℕ) (accepted : V → C → Type 0)
      (refusal : List ℕ → C → Option codec.Error) (config : C)
      (w k : Walk F (PageBlob S gs)) (old new : D) where
    -- It gave nothing, and there is less to go over.
    pub record HasTurned : Type 0 where
      -- the replay may be used
      pub over : IsGoing g gives seal dev k new
      pub passed : HasPassed g gives seal dev w k old new
      -- what it went over is whole frames
      pub whole : dev.Tells → LeavesWhole seal w k (disk (dev.time old)) (disk (dev.time new))
      pub nearer : way_of k < way_of w

    -- what a turn answers; behind an error the replay stands in no section
    abbrev pub TurnEnds : Result (Option (GivenItem V)) Error → Type 0
    TurnEnds (Ok None) = HasTurned
    TurnEnds (Ok (Some x)) = GivesOne g gives seal dev spelling accepted refusal config w k old new x
    TurnEnds (Err e) =
        GivesError g gives seal dev spelling accepted refusal config w (stopped k) old new e
