-- What a put asks of an archive before it writes.
use Rattle.std.specs.Prelude.{◌≡◌, ◌⊎◌, ℕ, ◌+◌, ◌-◌, ◌*◌, ◌^◌, ◌<◌, ◌≤◌, ◌&&◌, not, ◌||◌, nat_lt, if◌then◌else◌, Bool, false, ◌==◌, IsTrue, Some, IsSomeAnd, List, [], ◌∷◌, ◌++◌, length, sum_by}
use Rattle.sealed_pages.specs.declared.page_blob.PageBlob.{PageBlob}
use Rattle.sealed_pages.specs.declared.write_blob.WriteBlob.{WriteBlob}
use Rattle.sealed_pages.specs.Buffer.{FlushesNothing, extent, size_of}
use Rattle.sealed_pages.specs.Shown as page_blob
use Rattle.section_manager.specs.Sections.{IsHeld}
use Rattle.section_manager.specs.unsealed.Buffer.{count_of}
use Rattle.segments.specs.Tails.{tail_held}
use Rattle.paired.specs.Frames.{frame}
use Rattle.paired.specs.glob.Sections as glob
use Rattle.paired.specs.Kept.{Layout}
use Rattle.paired.specs.Pair as pair
use Rattle.archives.specs.Archives.{Archive}
use Rattle.archives.specs.Commands.{Command, Put, PutSync, PutStart, Multi, MultiSync, MultiStart}
use Rattle.archives.specs.Filing.{Filing}
use Rattle.archives.specs.Machine.{State, after_multi, after_put, section_of}
use Rattle.archives.specs.Rows.{HasRoom, Row, has_row}

-- How many records an index may have: one, so that a put where it is taken stores nothing, or several.
pub data Times : Type 0 where
  Once : Times
  Often : Times

-- the commands that put so, alone, with a sync, and with a sync that is started
abbrev pub put_command : Times → ℕ → List ℕ → List ℕ → Command (List ℕ)
put_command Once index key value = Put index key value
put_command Often index key value = Multi index key value

abbrev pub put_sync_command : Times → ℕ → List ℕ → List ℕ → Command (List ℕ)
put_sync_command Once index key value = PutSync index key value
put_sync_command Often index key value = MultiSync index key value

abbrev pub put_start_command : Times → ℕ → List ℕ → List ℕ → Command (List ℕ)
put_start_command Once index key value = PutStart index key value
put_start_command Often index key value = MultiStart index key value

-- and the state of the machine once it was carried out
abbrev pub after_putting : Times → ℕ → ℕ → List ℕ → List ℕ → State (List ℕ) → State (List ℕ)
after_putting Once = after_put
after_putting Often = after_multi

-- of a section: how many bytes of its records are not flushed, and how many of its values
abbrev pub record_tail : {F S : Type 0} {gs : _} → Archive F (PageBlob S gs) → ℕ → ℕ
record_tail a s = tail_held (a.pair.index.sections.held s)

abbrev pub value_tail : {F B : Type 0} → Archive F B → ℕ → ℕ
value_tail a s = glob.pending_size a.pair.values s

module _ {F S : Type 0} {gs : _} (a : Archive F (PageBlob S gs)) (index : ℕ) where
  -- a record has the index
  abbrev pub is_taken : Bool
  is_taken = has_row a.items a.rows index

  -- a put stores nothing: the index is below the floor, or it is taken and may have one record
  abbrev pub is_skipped : Times → Bool
  is_skipped Once = nat_lt index a.floor || is_taken
  is_skipped Often = nat_lt index a.floor

  -- the limits allow one record more in the index's section
  abbrev pub IsAllowed : Type 0
  IsAllowed = HasRoom a.most_sections a.most_records a.rows (section_of a.items index)

  -- The section's records, with both slots of their last page, or its values, would pass 2^64 with one record more,
  -- whose frame has n bytes.
  abbrev pub IsPassed : ℕ → Type 0
  IsPassed n = IsSomeAnd (a.pair.index.sections.held (section_of a.items index))
      (λ u. 2 ^ 64 ≤ extent u.page_size (size_of (page_blob.shown u) + a.pair.layout.record_size))
      ⊎ IsSomeAnd (a.pair.values.held (section_of a.items index)) (λ v. 2 ^ 64 ≤ count_of v + n)

  -- Both buffers of the section are held, and neither is filled by one record more, whose frame has n bytes.
  pub record HasBufferRoom (n : ℕ) : Type 0 where
    pub records : PageBlob S gs
    pub held : a.pair.index.sections.held (section_of a.items index) ≡ Some records
    pub no_flush : FlushesNothing (page_blob.shown records) a.pair.layout.record_size
    pub values : WriteBlob
    pub values_held : a.pair.values.held (section_of a.items index) ≡ Some values
    pub below : glob.pending_size a.pair.values (section_of a.items index) + n < a.pair.values.factory.capacity

  -- both buffers of the index's section are known: by the disk, or since the section is held
  abbrev pub IsKnown : Type 0 → Type 0
  IsKnown told = told ⊎ (IsHeld a.pair.index.sections (section_of a.items index)
      × IsHeld a.pair.values (section_of a.items index))

  -- ---- of a put that stores nothing where it is skipped

  module _ (skip : Bool) where
    -- the rows of a section once a record with this key was put
    abbrev pub rows_after : List ℕ → ℕ → List Row
    rows_after key s = if not skip && (s == section_of a.items index)
        then a.rows s ++ record { index = index; key = key } ∷ []
        else a.rows s

    -- how many bytes the values of a section then have, where the frame has n
    abbrev pub size_after : ℕ → ℕ → ℕ
    size_after n s = if not skip && (s == section_of a.items index)
        then glob.section_size a.pair.values s + n
        else glob.section_size a.pair.values s

    -- A record is put, and one more, whose frame has n bytes, is not allowed, or has no room.
    pub record IsFullFor (n : ℕ) : Type 0 where
      pub free : skip ≡ false
      pub full : (IsAllowed → ⊥) ⊎ ((n ≤ 2 ^ 32 - 1) × IsPassed n)

    -- A record is put, one more is allowed, and its frame has more bytes than a u32 counts.
    pub record IsTooLargeFor (n : ℕ) : Type 0 where
      pub free : skip ≡ false
      pub allowed : IsAllowed
      pub large : 2 ^ 32 - 1 < n

    -- Why a put is refused by `Full`: as in `IsFullFor`, but that want of room is only known of buffers that
    -- are.
    pub record IsFullOver (told : Type 0) (n : ℕ) : Type 0 where
      pub free : skip ≡ false
      pub full : (IsAllowed → ⊥) ⊎ ((n ≤ 2 ^ 32 - 1) × (IsKnown told → IsPassed n))

    -- the section is one of those that were written, once the put ended
    abbrev pub IsWrittenAfter : ℕ → Type 0
    IsWrittenAfter s = IsTrue (a.is_written s) ⊎ ((skip ≡ false) × (s ≡ section_of a.items index))

    -- then a sync moves a marker
    abbrev pub IsMovingAfter : Type 0
    IsMovingAfter = (s : ℕ) × pair.IsMoving a.pair IsWrittenAfter IsWrittenAfter s

-- how many bytes the frame of a value has that is spelled so
abbrev pub frame_size : Layout → List ℕ → ℕ
frame_size l value = length (frame l.seal value)

-- In a state of the machine: the records of the index's section, with both slots of their last page, or the frames of
-- its values, would pass 2^64 with one record more, whose frame has n bytes.
abbrev pub WouldPass : Filing → State (List ℕ) → ℕ → ℕ → Type 0
WouldPass f st index n =
    (2 ^ 64 ≤ extent f.layout.page_size ((length (st.lists (section_of f.items index)) + 1) * f.layout.record_size))
    ⊎ (2 ^ 64 ≤ sum_by (λ r. frame_size f.layout r.value) (st.lists (section_of f.items index)) + n)
