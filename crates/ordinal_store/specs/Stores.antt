-- What a store of slots shows, what it means, and when it may be used.
use Rattle.std.specs.Prelude.{◌≡◌, ℕ, ◌+◌, ◌*◌, ◌^◌, ◌<◌, ◌≤◌, ◌∷◌, Bool, false, cond, List, [], Option, Some, None, max, option_map, unwrap_or, IsTrue, IsSome, IsSomeAnd}
use Rattle.blob_device.specs.Disk.{Disk, Key, Outside}
use Rattle.blob_device.specs.Opened.{OpenedList}
use Rattle.blob_device.specs.Timeline.{Timeline, disk}
use Rattle.blob_device.specs.declared.device.Device as device
use Rattle.sealed_pages.specs.declared.write_blob.WriteBlob.{WriteBlob}
use Rattle.sealed_pages.specs.Entries.{IsOpenAt}
use Rattle.sealed_pages.specs.View.{Within}
use Rattle.sealed_pages.specs.unsealed.Writing.{Over, blob_key, bytes_of, is_unsettled, run_of, shown, size_of}
use Rattle.ordinal_store.specs.Durable.{IsDurable}
use Rattle.ordinal_store.specs.Ranges.{AreRanges, set_of}
use Rattle.ordinal_store.specs.Slots.{Layout, blob_of, place_of, position_of, section_of, slot_at, slot_size}

-- What a store shows: where and how its values are stored; from how many bytes on a buffer flushes; the ranges of the indices that it holds; the
-- buffer of each section that has a blob; and which sections were written since the last sync.
pub record Store : Type 0 where
  pub layout : Layout
  pub capacity : ℕ
  pub ranges : List (ℕ × ℕ)
  pub buffers : ℕ → Option WriteBlob
  pub written : ℕ → Bool

-- What a device shows: the opened blobs, the disk at each moment, and the count of faults.
pub record Sight : Type 0 where
  pub opened : OpenedList
  pub time : Timeline
  pub faults : ℕ

abbrev pub sight : {D : Type 0} → device.Ghosts D → D → Sight
sight g dev = record { opened = g.opened dev; time = g.time dev; faults = g.faults dev }

abbrev pub now : Sight → Disk
now v = disk v.time

-- the index's slot lies in its section's settled part, and no byte of it waits to be flushed
pub record IsQuietIn (l : Layout) (u : WriteBlob) (i : ℕ) : Type 0 where
  -- the slot lies in the settled part
  pub settled : place_of l i + slot_size l ≤ u.settled
  -- and no byte of it waits to be flushed
  pub apart : (j : ℕ) → Within (place_of l i) (slot_size l) j → Outside (run_of (shown u) ∷ []) j

module _ (o : Store) where
  abbrev pub key_of : ℕ → Key
  key_of s = blob_of o.layout s

  -- the index is held
  abbrev pub has : ℕ → Bool
  has i = set_of o.ranges i

  -- the section's bytes: its blob's, with those that are not flushed over them
  abbrev pub bytes_in : Disk → ℕ → List ℕ
  bytes_in d s = unwrap_or (option_map (λ u. bytes_of (shown u) (d (key_of s)).content) (o.buffers s)) []

  -- What the store holds: the slot of each held index.
  abbrev pub slots_of : Disk → ℕ → Option (List ℕ)
  slots_of d i = cond (has i) (Some (slot_at (slot_size o.layout) (bytes_in d (section_of o.layout i)) (position_of o.layout i))) None

  abbrev pub IsQuiet : ℕ → Type 0
  IsQuiet i = IsSomeAnd (o.buffers (section_of o.layout i)) (λ u. IsQuietIn o.layout u i)

  -- The index was synced with this slot, and not put since: every crash leaves it, and no call but a put of this index, a prune above it
  -- or a destroy takes it away.
  pub record IsCommitted (d : Disk) (i : ℕ) (slot : List ℕ) : Type 0 where
    -- no byte of the slot waits in a buffer
    pub quiet : IsQuiet i
    -- and every crash leaves it
    pub durable : IsDurable o.layout d i slot

  -- where the disk is told: each buffer stands over its section's blob, and each blob of a section that is there has a buffer
  pub record StandsOver (d : Disk) : Type 0 where
    -- each buffer stands over its section's blob
    pub over : (s : ℕ) (u : WriteBlob) → o.buffers s ≡ Some u → Over (shown u) (d (key_of s))
    -- each blob that is there has a buffer
    pub whose : (s : ℕ) → s < 2 ^ 64 → IsTrue (d (key_of s)).there → IsSome (o.buffers s)

  -- The store may be used: its buffers are those of its sections, opened, and of its capacity; the first index of each such section is a number;
  -- each held index has its slot in the buffer of its section; what has not settled of a section ends with its slots; and it is in sections that
  -- were written.
  pub record IsUsable (told : Type 0) (opened : OpenedList) (d : Disk) : Type 0 where
    -- a section has 1 to 2^40 slots
    pub items : (1 ≤ o.layout.items) × (o.layout.items ≤ 2 ^ 40)
    -- a value has 1 to 65535 bytes
    pub width : (1 ≤ o.layout.width) × (o.layout.width ≤ 65535)
    -- the ranges are those of a set
    pub ranges : AreRanges o.ranges
    -- sections have numbers of 64 bits
    pub number : (s : ℕ) → IsSome (o.buffers s) → s < 2 ^ 64
    -- and so have their first indices
    pub first : (s : ℕ) → IsSome (o.buffers s) → s * o.layout.items < 2 ^ 64
    -- each buffer flushes from the same number of bytes on
    pub capacity : (s : ℕ) (u : WriteBlob) → o.buffers s ≡ Some u → u.capacity ≡ o.capacity
    -- each buffer is that of its section's blob
    pub key : (s : ℕ) (u : WriteBlob) → o.buffers s ≡ Some u → blob_key (shown u) ≡ key_of s
    -- which is open
    pub is_open : (s : ℕ) (u : WriteBlob) → o.buffers s ≡ Some u → IsOpenAt opened (key_of s) u.end
    -- each held index has its slot in the buffer of its section
    pub room : (i : ℕ) → IsTrue (has i) → IsSomeAnd (o.buffers (section_of o.layout i)) (λ u. place_of o.layout i + slot_size o.layout ≤ size_of (shown u))
    -- what has not settled of a section ends with its slots
    pub bounded : (s : ℕ) (u : WriteBlob) → o.buffers s ≡ Some u → size_of (shown u) ≤ max u.settled (o.layout.items * slot_size o.layout)
    -- a section that was not written since the last sync has nothing unsettled
    pub unwritten : (s : ℕ) (u : WriteBlob) → o.buffers s ≡ Some u → o.written s ≡ false → is_unsettled (shown u) ≡ false
    -- where the disk is told, buffers and blobs are each other's
    pub disk : told → StandsOver d
