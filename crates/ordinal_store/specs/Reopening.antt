-- The parts of an opening: which sections there are, which of them are kept, and how each kept one is opened, mended and checked.
use Rattle.std.specs.Prelude.{◌≡◌, ◌≢◌, ◌⊎◌, ◌↔◌, ℕ, ◌+◌, ◌*◌, ◌^◌, ◌<◌, ◌≤◌, Bool, true, false, List, [], length, map, get_or, Option, Some, None, Result, Err, IfOk, IsOkAnd, OnOk, OnErr, MatchResult, IsTrue}
use Rattle.std.specs.Int.{w64, to_be_bytes}
use Rattle.std.specs.Result.{IsErrOf}
use Rattle.blob_device.specs.Disk.{AreNamesIn, Blob, Key, longest}
use Rattle.blob_device.specs.Timeline.{Always, OnlyAt}
use Rattle.sealed_pages.specs.declared.write_blob.WriteBlob.{WriteBlob}
use Rattle.sealed_pages.specs.Reading.{OnlyRead, Unchanged}
use Rattle.sealed_pages.specs.unsealed.Writing.{shown, size_of}
use Rattle.ordinal_store.specs.Adopting.{IsReady}
use Rattle.ordinal_store.specs.Calls.{HasFailed, HasRecordError, SamePlace}
use Rattle.ordinal_store.specs.Durable.{StandsFor}
use Rattle.ordinal_store.specs.Marking.{IsFault, IsWhole, is_wanted}
use Rattle.ordinal_store.specs.Mending.{IsMade, is_left, is_marked}
use Rattle.ordinal_store.specs.Ranges.{AreRanges}
use Rattle.ordinal_store.specs.Slots.{HasValue, Layout, position_of, section_of, slot_at, slot_size}
use Rattle.ordinal_store.specs.Stores.{Sight, Store, has, key_of, now}
use Rattle.ordinal_store.specs.declared.ordinal.Error.{Error}
use Rattle.ordinal_store.specs.declared.ordinal.Error.TheVariants.{InvalidBlobName, MissingRecord}

-- The names of the partition are looked at, and spell these numbers. Nothing changes.
pub record Listing {T : Type 0} (numbers : T → List ℕ) (told : Type 0) (partition : List ℕ) (result : Result T Error) (old new : Sight) : Type 0 where
  pub unchanged : told → Unchanged old.time new.time
  pub opened : new.opened ≡ old.opened
  pub faults : old.faults ≤ new.faults
  pub names : told → IfOk result (λ r. AreNamesIn (now old) partition (map (to_be_bytes w64) (numbers r)))
  pub small : IfOk result (λ r. (i : ℕ) → get_or (numbers r) i 0 < 2 ^ 64)
  pub foreign : told → (n : List ℕ) → result ≡ Err (InvalidBlobName n) → IsTrue (now old (partition, n)).there
  pub size : (n : List ℕ) → result ≡ Err (InvalidBlobName n) → length n ≢ 8
  pub cause : OnErr result (((n : List ℕ) × IsErrOf result (InvalidBlobName n)) ⊎ HasFailed result old new)

-- the least marked position from one on
pub record IsLeastMarked (bits : List Bool) (from p : ℕ) : Type 0 where
  pub after : from ≤ p
  pub marked : is_marked bits p ≡ true
  pub first : (q : ℕ) → from ≤ q → q < p → is_marked bits q ≡ false

abbrev pub IsFirstMarked : List Bool → ℕ → Option ℕ → Type 0
IsFirstMarked bits from None = (p : ℕ) → from ≤ p → is_marked bits p ≡ false
IsFirstMarked bits from (Some p) = IsLeastMarked bits from p

-- a slot of the section is wanted
abbrev pub HasWanted : ℕ → Option (List Bool) → Type 0
HasWanted items marks = (p : ℕ) × (is_wanted items (Some marks) p ≡ true)

-- a wanted slot of the section has an index past the greatest u64
abbrev pub HasPast : ℕ → ℕ → Option (List Bool) → Type 0
HasPast items s marks = (p : ℕ) × (is_wanted items (Some marks) p ≡ true) × (2 ^ 64 ≤ s * items + p)

-- The section's blob at a moment of its opening: each slot that stays and stood in it stands in it, and a crash leaves it no longer than before.
pub record Restores (size : ℕ) (marks : Option (List Bool)) (from b : Blob) : Type 0 where
  pub slots : (p : ℕ) (slot : List ℕ) → is_left marks p ≡ true → length slot ≡ size → StandsFor (p * size) slot from → StandsFor (p * size) slot b
  pub short : (n : ℕ) → longest from ≤ n → longest b ≤ n

-- what an opening does to the blob of a section that is there, at each moment
pub record Touching (told : Type 0) (key : Key) (size : ℕ) (marks : Option (List Bool)) (old new : Sight) : Type 0 where
  pub moments : told → IsTrue (now old key).there → Always old.time new.time (OnlyAt key (now old) (Restores size marks (now old key)))
  pub entries : (q : Key) → q ≢ key → new.opened q ≡ old.opened q
  pub faults : old.faults ≤ new.faults

-- A section is opened and mended.
pub record Reopening (told : Type 0) (key : Key) (capacity size : ℕ) (marks : Option (List Bool)) (result : Result WriteBlob Error) (old new : Sight) : Type 0 where
  pub touching : Touching told key size marks old new
  pub ready : IfOk result (IsReady told key capacity new)
  pub made : told → IsTrue (now old key).there → OnOk result (IsMade size marks (now old key).content (now new key).content)
  pub cause : OnErr result (HasFailed result old new)

-- n slots from the first on hold a value, and the next does not, if there is one
pub record AreSound (l : Layout) (bytes : List ℕ) (count n : ℕ) : Type 0 where
  pub within : n ≤ count
  pub hold : (p : ℕ) → p < n → HasValue l (slot_at (slot_size l) bytes p)
  pub next : n < count → HasValue l (slot_at (slot_size l) bytes n) → ⊥

-- So many slots of a part of a section's bytes are read. Nothing changes.
pub record Sounding (told : Type 0) (l : Layout) (key : Key) (part : List ℕ → List ℕ) (count : ℕ) (result : Result ℕ Error) (old new : Sight) : Type 0 where
  pub unchanged : told → Unchanged old.time new.time
  pub entries : OnlyRead key old.opened new.opened
  pub faults : old.faults ≤ new.faults
  pub within : IfOk result (λ n. n ≤ count)
  pub sound : told → IfOk result (AreSound l (part (now old key).content) count)
  pub cause : OnErr result (HasFailed result old new)

-- the wanted slots are the section's, and stand whole in the buffer's bytes
abbrev pub HasRoom : Layout → Option (List Bool) → WriteBlob → Type 0
HasRoom l marks u = (p : ℕ) → is_wanted l.items (Some marks) p ≡ true → (p < l.items) × (p * slot_size l + slot_size l ≤ size_of (shown u))

-- A mended section is checked. Nothing changes.
pub record Checking (told : Type 0) (l : Layout) (s : ℕ) (marks : Option (List Bool)) (key : Key) (u : WriteBlob) (result : Result (Unit {0}) Error) (old new : Sight) : Type 0 where
  pub unchanged : told → Unchanged old.time new.time
  pub entries : OnlyRead key old.opened new.opened
  pub faults : old.faults ≤ new.faults
  pub room : OnOk result (HasRoom l marks u)
  pub answer : told → MatchResult result (λ v. IsWhole l (Some marks) (Some (now old key).content)) (λ e. IsFault l s (Some marks) (Some (now old key).content) e ⊎ HasFailed result old new)
  pub cause : OnErr result (((i : ℕ) × HasRecordError result i) ⊎ HasFailed result old new)

-- the store with one more section, of which the wanted indices are held
pub record IsHolding (o : Store) (s : ℕ) (u : WriteBlob) (marks : Option (List Bool)) (r : Store) : Type 0 where
  pub place : SamePlace o r
  pub here : r.buffers s ≡ Some u
  pub others : (t : ℕ) → t ≢ s → r.buffers t ≡ o.buffers t
  pub written : (t : ℕ) → r.written t ≡ o.written t
  pub ranges : AreRanges o.ranges → AreRanges r.ranges
  pub held : (j : ℕ) → j < 2 ^ 64 → IsTrue (has r j) ↔ (IsTrue (has o j) ⊎ ((section_of o.layout j ≡ s) × (is_wanted o.layout.items (Some marks) (position_of o.layout j) ≡ true)))

-- A section of the map is opened, mended and checked, and its wanted indices are held.
pub record Restoring {T : Type 0} (show : T → Store) (told : Type 0) (o : Store) (s : ℕ) (marks : Option (List Bool)) (result : Result T Error) (old new : Sight) : Type 0 where
  pub touching : Touching told (key_of o s) (slot_size o.layout) marks old new
  pub ready : IfOk result (λ r. (u : WriteBlob) × IsReady told (key_of o s) o.capacity new u × IsHolding o s u marks (show r) × HasRoom o.layout marks u)
  pub made : told → IsTrue (now old (key_of o s)).there → OnOk result (IsMade (slot_size o.layout) marks (now old (key_of o s)).content (now new (key_of o s)).content)
  pub answer : told → IsTrue (now old (key_of o s)).there → MatchResult result (λ r. IsWhole o.layout (Some marks) (Some (now old (key_of o s)).content)) (λ e. IsFault o.layout s (Some marks) (Some (now old (key_of o s)).content) e ⊎ HasFailed result old new)
  pub cause : OnErr result (((i : ℕ) × HasRecordError result i) ⊎ HasFailed result old new)

-- The same of a section of which no slot may be wanted, or that has no blob: nothing is done then.
abbrev pub RestoringIf : {T : Type 0} → (T → Store) → Type 0 → Store → ℕ → Option (List Bool) → Bool → Result T Error → Sight → Sight → Type 0
RestoringIf show told o s marks there result old new =
    ((HasWanted o.layout.items marks → ⊥) × IsOkAnd result (λ r. show r ≡ o) × (new ≡ old))
    ⊎ ((HasWanted o.layout.items marks × (there ≡ false) × IsErrOf result (MissingRecord (s * o.layout.items)) × (new ≡ old))
    ⊎ (HasWanted o.layout.items marks × (there ≡ true) × Restoring show told o s marks result old new))

-- a store that holds nothing
pub record IsEmpty (l : Layout) (capacity : ℕ) (o : Store) : Type 0 where
  pub layout_is : o.layout ≡ l
  pub capacity_is : o.capacity ≡ capacity
  pub ranges_none : o.ranges ≡ []
  pub buffers_none : (s : ℕ) → o.buffers s ≡ None
  pub written_none : (s : ℕ) → o.written s ≡ false
