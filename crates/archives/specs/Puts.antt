-- What a put promises.
use Rattle.std.specs.Prelude.{◌≡◌, ◌⊎◌, ◌↔◌, ⊤, ℕ, Bool, true, false, List, Result, Ok, Err, IsTrue}
use Rattle.std.specs.Result.{IsErrOf}
use Rattle.blob_device.specs.Counts.{Rose}
use Rattle.blob_device.specs.Footprint.{Footprint, NoBound}
use Rattle.blob_device.specs.declared.device.Device as device
use Rattle.blob_device.specs.declared.runtime.RError.TheVariants as runtime
use Rattle.section_manager.specs.Sections.{SameBounds}
use Rattle.section_manager.specs.declared.journal.Error.TheVariants as journal
use Rattle.section_manager.specs.declared.sealed.AppendFactory.{AppendFactory}
use Rattle.sealed_pages.specs.declared.page_blob.PageBlob.{PageBlob}
use Rattle.paired.specs.glob.Sections as glob
use Rattle.paired.specs.Pair.{synced_length}
use Rattle.paired.specs.Tails.{AreTailsAfter}
use Rattle.archives.specs.Archives.{Archive}
use Rattle.archives.specs.Changes.{Changes}
use Rattle.archives.specs.Filing.{IsBlobAt, IsSameFiling}
use Rattle.archives.specs.Machine.{section_of}
use Rattle.archives.specs.Prunable.{Prunable, filing_by, meaning}
use Rattle.archives.specs.Putting.{HasBufferRoom, IsAllowed, IsFullFor, IsFullOver, IsKnown, IsTooLargeFor, IsWrittenAfter, Times, frame_size, is_skipped, put_command, record_tail, rows_after, size_after, value_tail}
use Rattle.archives.specs.declared.error.Error.{Error}
use Rattle.archives.specs.declared.error.Error.TheVariants.{Journal, Full, Mem}

module _ {F S : Type 0} {gs : _} (a : Archive F (PageBlob S gs)) (index : ℕ) (skip : Bool)
    (n : ℕ) where
  -- Why a put is refused, whose frame has n bytes, and which stores nothing where it is skipped. The numbers
  -- are the device's counts of faults before and after.
  abbrev pub IsPutCause : Type 0 → ℕ → ℕ → Error → Type 0
  -- want of memory is free
  IsPutCause told before now Mem = ⊤
  -- the device failed
  IsPutCause told before now (Journal (journal.Runtime runtime.Fault)) = Rose before now
  -- the limits, or a number that would pass its type
  IsPutCause told before now Full = IsFullOver a index skip told n
  IsPutCause told before now (Journal journal.ValueTooLarge) = IsTooLargeFor a index skip n
  -- no other comes
  IsPutCause told before now e = ⊥

  -- Where a put has to be refused, in this order: by `Full` at the limits, then by `ValueTooLarge`, then by `Full`
  -- where there is no room. Only memory may be short before the last two. A refusal has not touched the device.
  pub record Refuses {A D : Type 0} (told : Type 0) (result : Result A Error) (old new : D) : Type 0 where
    -- at the limits
    pub over_limit : skip ≡ false → (IsAllowed a index → ⊥) → IsErrOf result Full × (new ≡ old)
    -- by the size of the frame
    pub too_large : IsTooLargeFor a index skip n
        → (IsErrOf result (Journal journal.ValueTooLarge) × (new ≡ old)) ⊎ IsErrOf result Mem
    -- by want of room
    pub no_room : told → IsFullFor a index skip n
        → (IsErrOf result Full × (new ≡ old)) ⊎ IsErrOf result Mem

-- a put to the index stores nothing
abbrev pub skips : {A V F S : Type 0} {gs : _} → Prunable A V F (PageBlob S gs) → Times → A → ℕ
    → Bool
skips p times a index = is_skipped (p.see a) index times

-- A put of one record to an index, or of one of several.
module _ {A V S D : Type 0} {gs : _} (p : Prunable A V (AppendFactory S) (PageBlob S gs))
    (dev : device.Ghosts D) (times : Times) where
  -- The record was added, whose frame has n bytes, or it was skipped.
  pub record PutDone (a : A) (index : ℕ) (key : List ℕ) (n : ℕ) (r : A) : Type 0 where
    -- records are filed as before
    pub filing : IsSameFiling (filing_by p a) (filing_by p r)
    -- the words by which lookups look stay
    pub alike : p.alike r ≡ p.alike a
    -- the floor stays
    pub floor : (p.see r).floor ≡ (p.see a).floor
    -- and from how many bytes on buffers flush
    pub bounds : SameBounds (p.see a).pair.index.sections (p.see r).pair.index.sections
        × SameBounds (p.see a).pair.values (p.see r).pair.values
    -- over any image: the row goes last in its section
    pub rows : (s : ℕ) → (p.see r).rows s ≡ rows_after (p.see a) index (skips p times a index) key s
    -- and the bytes of the section's values are n more
    pub values : dev.Tells → (s : ℕ)
        → glob.section_size (p.see r).pair.values s
        ≡ size_after (p.see a) index (skips p times a index) n s
    -- Of its section, where the record was added: what was not flushed and what is new stay unflushed, of the
    -- records and of the values, until that fills their buffer. Then nothing does.
    pub own_tails : skips p times a index ≡ false
        → AreTailsAfter (p.see a).pair (section_of (p.see a).items index) n (p.see r).pair
    -- what is not flushed of other sections stays
    pub other_tails : (s : ℕ)
        → (s ≡ section_of (p.see a).items index → skips p times a index ≡ true)
        → (record_tail (p.see r) s ≡ record_tail (p.see a) s) × (value_tail (p.see r) s ≡ value_tail (p.see a) s)
    -- the section of a new record counts as written
    pub written : (s : ℕ)
        → IsTrue ((p.see r).is_written s) ↔ IsWrittenAfter (p.see a) index (skips p times a index) s
    -- no marker moves
    pub markers : (p.see r).pair.store ≡ (p.see a).pair.store
    -- and nothing is synced
    pub synced : (s : ℕ) → synced_length (p.see r).pair s ≡ synced_length (p.see a).pair s

  -- The put was refused, or failed.
  pub record PutFailed (a : A) (index n : ℕ) (e : Error) (old new : D) : Type 0 where
    -- why
    pub cause : IsPutCause (p.see a) index (skips p times a index) n dev.Tells (dev.faults old)
        (dev.faults new) e
    -- What is refused wrote nothing; by `Full` so far as the buffers of the section are known.
    pub unwritten : (e ≡ Journal journal.ValueTooLarge) ⊎ (IsKnown (p.see a) index dev.Tells × (e ≡ Full)) → new ≡ old

  abbrev pub PutEnds : A → ℕ → List ℕ → ℕ → Result A Error → D → D → Type 0
  PutEnds a index key n (Ok r) old new = PutDone a index key n r
  PutEnds a index key n (Err e) old new = PutFailed a index n e old new

  -- A put of a record into the archive a.
  pub record Puts (a : A) (index : ℕ) (key value : List ℕ) (result : Result A Error) (old new : D) : Type 0 where
    -- what every archive promises
    pub changes : Changes (meaning p) dev a (put_command times index key value) result old new
    -- of all blobs only the two of the index's section are touched
    pub footprint : Footprint dev (IsBlobAt (filing_by p a) index) NoBound old new
    -- where the index is below the floor, or is taken and may have one record, nothing is done
    pub skipped : IsTrue (skips p times a index) → (result ≡ Ok a) × (new ≡ old)
    -- while both buffers have room no call of the device is made
    pub below : HasBufferRoom (p.see a) index (frame_size (filing_by p a).layout value) → new ≡ old
    -- where it has to be refused
    pub refuses : Refuses (p.see a) index (skips p times a index)
        (frame_size (filing_by p a).layout value) dev.Tells
        result old new
    -- how it ended
    pub ends : PutEnds a index key (frame_size (filing_by p a).layout value) result old new
