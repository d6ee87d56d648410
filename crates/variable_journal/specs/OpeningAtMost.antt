-- What an opening of a journal of frames up to byte `end` of section `last` promises. Sections behind that one
-- go, the newest first; then it is cut to its sealed bytes before `end`; then all frames are gone over.
use Rattle.std.specs.Prelude.{◌≡◌, ◌≢◌, ◌⊎◌, ◌↔◌, ℕ, ◌-◌, ◌^◌, ◌<◌, ◌≤◌, eqb, cond, false, List, length, take, Option, Some, None, Result, IfOk, OnErr, IsTrue}
use Rattle.std.specs.Result.{IsErrOf}
use Rattle.blob_device.specs.Disk.{Key, Disk, nothing, settled_at}
use Rattle.blob_device.specs.Opened.{OpenedList}
use Rattle.blob_device.specs.Timeline.{disk, Always}
use Rattle.blob_device.specs.declared.device.Device as device
use Rattle.value_codec.specs.declared.codec.Error as codec
use Rattle.value_codec.specs.declared.codec.Error.TheVariants.{InvalidVarint}
use Rattle.sealed_pages.specs.ChanceSeal.{Leaves}
use Rattle.sealed_pages.specs.Cutting.{StandsSettled}
use Rattle.sealed_pages.specs.SealedPrefix.{sealed_prefix}
use Rattle.sealed_pages.specs.Shown.{shown}
use Rattle.sealed_pages.specs.declared.page_blob.PageBlob.{PageBlob}
use Rattle.sealed_pages.specs.declared.pages.Pages.{Pages}
use Rattle.section_manager.specs.Answers.{RefusesNames}
use Rattle.section_manager.specs.Lasting.{IsGoing}
use Rattle.section_manager.specs.Refusing.{HasDamage, HasFailed}
use Rattle.section_manager.specs.Sealed.{is_unsettled}
use Rattle.section_manager.specs.Sections.{section_key, IsHeld}
use Rattle.section_manager.specs.Setting.{Setting}
use Rattle.section_manager.specs.declared.buffer.SectionBuffer as buffer
use Rattle.section_manager.specs.declared.journal.Error.{Error}
use Rattle.section_manager.specs.declared.journal.Error.TheVariants.{Codec, InvalidBlobName, ItemOutOfRange}
use Rattle.section_manager.specs.declared.sealed.AppendFactory.{AppendFactory}
use Rattle.segments.specs.FixedLists.{Lists, section_bytes}
use Rattle.segments.specs.FixedReading.{IsBelowFloor}
use Rattle.variable_journal.specs.Frames.{rest_of, whole_end, HasBadLength}
use Rattle.variable_journal.specs.Lists.{IsJournal}
use Rattle.variable_journal.specs.Reading.{Spells}
use Rattle.variable_journal.specs.Replaying.{IsItemAt}

module _ (seal : List ℕ → ℕ) (P : ℕ) (partition : List ℕ) (last end : ℕ) where
  -- the bytes of a section's blob of which the whole frames are kept: its sealed prefix, of the last
  -- section no further than `end`
  abbrev pub judged : ℕ → List ℕ → List ℕ
  judged s content = cond (eqb s last)
      (take end (sealed_prefix seal P content)) (sealed_prefix seal P content)

  -- the same of a disk
  abbrev pub judged_bytes : Disk → ℕ → List ℕ
  judged_bytes d s = judged s (d (section_key partition s)).content

  -- the section has a blob
  abbrev pub IsThere : Disk → ℕ → Type 0
  IsThere d s = (s < 2 ^ 64) × IsTrue (d (section_key partition s)).there

  -- The disk at a moment of such an opening.
  pub record BoundingFrames (from d : Disk) : Type 0 where
    -- the blobs of sections behind the last one go
    pub later : (s : ℕ) → last < s → IsThere from s
        → IsGoing (from (section_key partition s)) (d (section_key partition s))
    -- one after another, the newest first
    pub order : (s t : ℕ) → last < s → s < t → IsThere from s → IsThere from t
        → (d (section_key partition s) ≡ from (section_key partition s))
        ⊎ (d (section_key partition t) ≡ nothing)
    -- any other section's blob is as before, or each crash leaves a prefix of its sealed prefix,
    -- with all whole frames that are kept
    pub kept : (s : ℕ) → s ≤ last → IsThere from s
        → (d (section_key partition s) ≡ from (section_key partition s))
        ⊎ Leaves seal P (sealed_prefix seal P (from (section_key partition s)).content)
        (whole_end (judged_bytes from s)) (d (section_key partition s))
    -- where a length in it is refused, also that length, and all bytes behind it up to the bound
    pub lengths : (s : ℕ) → s ≤ last → IsThere from s → HasBadLength (rest_of (judged_bytes from s))
        → (d (section_key partition s) ≡ from (section_key partition s))
        ⊎ Leaves seal P (sealed_prefix seal P (from (section_key partition s)).content)
        (length (judged_bytes from s)) (d (section_key partition s))
    -- until the removals of those behind the last one are durable, it is as before, or settled as
    -- it read
    pub first : (s : ℕ) → s ≤ last → IsThere from s
        → (d (section_key partition s) ≡ from (section_key partition s))
        ⊎ ((d (section_key partition s) ≡ settled_at (from (section_key partition s)).content)
        ⊎ ((t : ℕ) → last < t → IsThere from t → d (section_key partition t) ≡ nothing))
    -- no other blob changes
    pub others : (q : Key) → ((s : ℕ) → IsThere from s → q ≢ section_key partition s) → d q ≡ from q

  -- What each crash leaves, at a moment of such an opening, of a section up to the last one whose
  -- blob had settled.
  pub record LeavesSettled (from d : Disk) (s : ℕ) : Type 0 where
    -- a prefix of its sealed prefix, with all whole frames that are kept
    pub frames : Leaves seal P (sealed_prefix seal P (from (section_key partition s)).content)
        (whole_end (judged_bytes from s)) (d (section_key partition s))
    -- and what stands behind them where a length is refused
    pub lengths : HasBadLength (rest_of (judged_bytes from s))
        → Leaves seal P (sealed_prefix seal P (from (section_key partition s)).content)
        (length (judged_bytes from s)) (d (section_key partition s))

  module _ {V C : Type 0} (spelling : V → List ℕ) (accepted : V → C → Type 0) (config : C) where
    -- the item is a value that the codec accepts
    abbrev pub IsValue : List ℕ → Type 0
    IsValue item = (v : V) × Spells spelling accepted config item v

    -- The journal k was opened so: it has what is kept, and takes appends.
    pub record IsOpenedTo {S : Type 0} {gs : _} (g : buffer.Ghosts (PageBlob S gs))
        (gives : AppendFactory S → Setting) (told : Type 0) (paged : Pages) (capacity : ℕ)
        (k : Lists (AppendFactory S) (PageBlob S gs)) (opened : OpenedList) (from d : Disk)
        : Type 0 where
      -- it may be used
      pub over : IsJournal g gives seal told k opened d
      -- it holds the sections up to the last one that were there
      pub held : told → (s : ℕ) → s < 2 ^ 64
          → IsHeld k.sections s ↔ (IsTrue (from (section_key partition s)).there × (s ≤ last))
      -- and knows of no other
      pub known : (s : ℕ) → k.sections.unopened s ≡ None
      -- the blobs of those behind it are gone, also after a crash
      pub gone : told → (s : ℕ) → last < s → IsThere from s → d (section_key partition s) ≡ nothing
      -- each section has the whole frames that are kept of it, and nothing behind them
      pub bytes : told → (s : ℕ) → IsHeld k.sections s → section_bytes k.sections d s
          ≡ take (whole_end (judged_bytes from s)) (judged_bytes from s)
      -- each item in them is a value
      pub items : told → (s o : ℕ) (i : List ℕ) → IsHeld k.sections s
          → IsItemAt (judged_bytes from s) o i → IsValue i
      -- what was cut off is no length that is refused
      pub lengths : told → (s : ℕ) → IsHeld k.sections s
          → HasBadLength (rest_of (judged_bytes from s)) → ⊥
      -- no replay is owed
      pub recovered : (s : ℕ) → k.unrecovered s ≡ false
      -- all bytes have settled
      pub idle : told → (s : ℕ) (u : PageBlob S gs) → k.sections.held s ≡ Some u
          → is_unsettled (shown u) ≡ false
      -- the partition is that of the configuration
      pub partition_is : k.sections.partition ≡ partition
      -- so are the pages
      pub pages_are : k.sections.factory.pages ≡ paged
      -- and the write buffer
      pub write_buffer_is : k.sections.factory.write_buffer ≡ capacity
      -- nothing is pruned
      pub floor : k.sections.floor ≡ 0
      -- and any section may be made
      pub ceiling : k.sections.ceiling ≡ 2 ^ 64 - 1

    -- In section s stands what is refused first, with e: over all sections in order, and in each.
    pub record IsFirstRefused (refusal : List ℕ → C → Option codec.Error) (from : Disk)
        (e : codec.Error) (s : ℕ) : Type 0 where
      -- the section has a blob
      pub there : IsThere from s
      -- it is not removed
      pub under : s ≤ last
      -- items of sections before it are values
      pub before : (t o : ℕ) (i : List ℕ) → IsThere from t → t < s
          → IsItemAt (judged_bytes from t) o i → IsValue i
      -- and no length in them is refused
      pub lengths : (t : ℕ) → IsThere from t → t < s
          → HasBadLength (rest_of (judged_bytes from t)) → ⊥
      -- so are its own up to one that is refused; or all of them, and behind them stand five bytes or
      -- more that say no length
      pub why : ((o : ℕ) × (i : List ℕ) × IsItemAt (judged_bytes from s) o i
          × ((q : ℕ) (x : List ℕ) → IsItemAt (judged_bytes from s) q x → q < o → IsValue x)
          × (refusal i config ≡ Some e))
          ⊎ ((e ≡ InvalidVarint)
          × ((q : ℕ) (x : List ℕ) → IsItemAt (judged_bytes from s) q x → IsValue x)
          × HasBadLength (rest_of (judged_bytes from s)))

    -- The sections were opened up to that byte, and gone over.
    pub record OpensTo {S D : Type 0} {gs : _} (refusal : List ℕ → C → Option codec.Error)
        (g : buffer.Ghosts (PageBlob S gs)) (gives : AppendFactory S → Setting)
        (paged : Pages) (capacity : ℕ) (dev : device.Ghosts D)
        (result : Result (Lists (AppendFactory S) (PageBlob S gs)) Error) (kept : Result C Error)
        (old new : D) : Type 0 where
      -- at each moment, also where the call fails
      pub moments : dev.Tells
          → Always (dev.time old) (dev.time new) (BoundingFrames (disk (dev.time old)))
      -- then too each crash leaves the frames of a section whose blob had settled
      pub settled : dev.Tells → Always (dev.time old) (dev.time new) (λ d. (s : ℕ) → s ≤ last
          → IsThere (disk (dev.time old)) s
          → StandsSettled (disk (dev.time old) (section_key partition s))
          → LeavesSettled (disk (dev.time old)) d s)
      -- this is the journal then
      pub ends : IfOk result (λ k. IsOpenedTo g gives dev.Tells paged capacity k (dev.opened new)
          (disk (dev.time old)) (disk (dev.time new)))
      -- what decoding an item needs to know is as it was given
      pub same_config : IfOk kept (λ c. c ≡ config)
      -- a name that is no section's is refused, also behind the last section, before anything is
      -- removed
      pub names : RefusesNames dev partition result old new
      -- the list of opened blobs changes for the sections alone
      pub entries : (q : Key) → ((s : ℕ) → q ≢ section_key partition s)
          → dev.opened new q ≡ dev.opened old q
      -- faults are counted on
      pub faults : dev.faults old ≤ dev.faults new
      -- the codec's error is that of what is refused first
      pub refused : dev.Tells → (e : codec.Error) → IsErrOf result (Codec e)
          → (s : ℕ) × IsFirstRefused refusal (disk (dev.time old)) e s
      -- nothing else is answered but a name, a fault or want of memory; some more where no disk is
      -- told
      pub cause : OnErr result (((n : List ℕ) × IsErrOf result (InvalidBlobName n))
          ⊎ (((e : codec.Error) × IsErrOf result (Codec e))
          ⊎ (HasFailed result (dev.faults old) (dev.faults new)
          ⊎ ((IsErrOf result (ItemOutOfRange 0) ⊎ (IsBelowFloor result ⊎ HasDamage result))
          × (dev.Tells → ⊥)))))
