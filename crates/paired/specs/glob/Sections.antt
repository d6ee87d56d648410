-- What a glob means: each section is a list of bytes. When it may be used.
use Rattle.std.specs.Prelude.{◌≡◌, ◌⊎◌, ℕ, ◌<◌, true, false, List, [], length, Option, None, Some, IsSome, IsSomeAnd}
use Rattle.blob_device.specs.Disk.{Blob, Disk, settled_at}
use Rattle.blob_device.specs.Opened.{OpenedList}
use Rattle.sealed_pages.specs.declared.write_blob.WriteBlob.{WriteBlob}
use Rattle.sealed_pages.specs.Contents.{AllSince}
use Rattle.sealed_pages.specs.unsealed.Writing.{shown, is_idle, size_of, Joins, AllPending, StandsBehind}
use Rattle.section_manager.specs.declared.buffer.SectionBuffer as buffer
use Rattle.section_manager.specs.Prefixes.{IsPrefixOf}
use Rattle.section_manager.specs.Setting.{Setting}
use Rattle.section_manager.specs.Sections.{Sections, key_of, IsOver}
use Rattle.section_manager.specs.unsealed.Buffer.{content_of, count_of, is_unsettled, IsWhole}

abbrev pub bytes_held : Option WriteBlob → List ℕ → List ℕ
bytes_held None content = []
bytes_held (Some u) content = content_of u content

abbrev pub size_held : Option WriteBlob → ℕ
size_held None = 0
size_held (Some u) = count_of u

abbrev pub settled_held : Option WriteBlob → ℕ
settled_held None = 0
settled_held (Some u) = u.settled

abbrev pub pending_held : Option WriteBlob → ℕ
pending_held None = 0
pending_held (Some u) = length u.pending.items

module _ {F : Type 0} (m : Sections F WriteBlob) where
  -- a section's bytes, those not flushed too; none where it is not held
  abbrev pub section_bytes : Disk → ℕ → List ℕ
  section_bytes d s = bytes_held (m.held s) (d (key_of m s)).content

  -- how many those are
  abbrev pub section_size : ℕ → ℕ
  section_size s = size_held (m.held s)

  -- how many of them have settled
  abbrev pub settled_size : ℕ → ℕ
  settled_size s = settled_held (m.held s)

  -- how many of them are not flushed
  abbrev pub pending_size : ℕ → ℕ
  pending_size s = pending_held (m.held s)

  -- of n bytes of the section from a place on none is flushed
  abbrev pub IsPendingRange : ℕ → ℕ → ℕ → Type 0
  IsPendingRange s at n = IsSomeAnd (m.held s) (λ u. AllPending (shown u) at n)

  -- of the section nothing is left to flush
  abbrev pub IsFlushed : ℕ → Type 0
  IsFlushed s = IsSomeAnd (m.held s) (λ u. is_idle (shown u) ≡ true)

  -- the section's blob holds all its bytes, and each crash leaves it so
  abbrev pub HasSettled : Disk → ℕ → Type 0
  HasSettled d s = d (key_of m s) ≡ settled_at (section_bytes d s)

  -- the section is held, all its bytes count as settled, and a sync of it would do nothing
  abbrev pub IsAllSettled : ℕ → Type 0
  IsAllSettled s = IsSomeAnd (m.held s) (λ u. (u.settled ≡ count_of u) × (is_unsettled u ≡ false))

  -- the section is held, and not all of it has settled
  abbrev pub IsUnsettled : ℕ → Type 0
  IsUnsettled s = IsSomeAnd (m.held s) (λ u. is_unsettled u ≡ true)

  -- the section is held, and longer than this
  abbrev pub IsLonger : ℕ → ℕ → Type 0
  IsLonger s n = IsSomeAnd (m.held s) (λ u. n < count_of u)

-- bytes that are added go into the buffer's run, or begin one where nothing is pending
abbrev pub TakesMore : WriteBlob → Type 0
TakesMore u = Joins (shown u) (size_of (shown u)) ⊎ (is_idle (shown u) ≡ true)

-- each content that the blob has had since it settled is a prefix of these bytes
abbrev pub HadPrefixes : List ℕ → Blob → Type 0
HadPrefixes bytes b = AllSince (λ c. IsPrefixOf c bytes) b

-- The glob's sections are those of the partition, take more bytes at their end, and have nothing pending below the end of their blobs.
-- Where the disk is told, bytes were only added since the settled ones settled, each content that a section's blob has had since then
-- is a prefix of the section's bytes, and what is known and not held stands above the bound of the opening.
pub record IsGlob {F : Type 0} (g : buffer.Ghosts WriteBlob) (gives : F → Setting) (told : Type 0) (m : Sections F WriteBlob) (opened : OpenedList) (d : Disk) : Type 0 where
  pub over : IsOver g gives told m opened d
  pub ends : (s : ℕ) (u : WriteBlob) → m.held s ≡ Some u → TakesMore u
  pub behind : (s : ℕ) (u : WriteBlob) → m.held s ≡ Some u → StandsBehind (shown u)
  pub whole : told → (s : ℕ) (u : WriteBlob) → m.held s ≡ Some u → IsWhole u (d (key_of m s))
  pub prefixes : told → (s : ℕ) (u : WriteBlob) → m.held s ≡ Some u → HadPrefixes (section_bytes m d s) (d (key_of m s))
  pub unopened : told → (s : ℕ) → IsSome (m.unopened s) → m.ceiling < s
