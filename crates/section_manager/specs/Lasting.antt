-- What the calls of a manager leave of its blobs, at each moment.
use Rattle.std.specs.Prelude.{◌≡◌, ◌⊎◌, ℕ, ◌<◌, ◌≤◌, min, true, List, IsTrue, Option, Some, None, IsSomeAnd}
use Rattle.blob_device.specs.Disk.{Key, Blob, Disk, nothing, settled_at}
use Rattle.blob_device.specs.Change.{Make, Remove, done, FailedTo}
use Rattle.blob_device.specs.Opened.{OpenedList}
use Rattle.section_manager.specs.declared.buffer.SectionBuffer as buffer
use Rattle.section_manager.specs.Leaving.{Leaves}
use Rattle.section_manager.specs.Sections.{Sections, section_key, key_of, IsKnown, IsKeyOf}

-- The blob is as before, or settled as it read. One that was not there is as before, or being made, or made empty.
abbrev pub IsOpening : Blob → Blob → Type 0
IsOpening from b = (b ≡ from) ⊎ (FailedTo Make from b ⊎ (b ≡ done Make from))

-- The blob is as before, under removal, or gone.
abbrev pub IsGoing : Blob → Blob → Type 0
IsGoing from b = (b ≡ from) ⊎ (FailedTo Remove from b ⊎ (b ≡ nothing))

-- The blob of a section up to the ceiling, where it is there, is as before, or settled as it read; any other is as before.
abbrev pub IsSettling : List ℕ → ℕ → Disk → Key → Blob → Type 0
IsSettling partition ceiling from q b = (b ≡ from q) ⊎ ((s : ℕ) × (s ≤ ceiling) × (q ≡ section_key partition s) × IsTrue (from q).there × (b ≡ settled_at (from q).content))

module _ {F B : Type 0} (m : Sections F B) where
  -- Sections are removed one after another: the blob of each of the doomed ones is as before, under removal or gone, and it is as before
  -- until those of all that go before it are gone.
  pub record Going (IsDoomed : ℕ → Type 0) (GoesBefore : ℕ → ℕ → Type 0) (from d : Disk) : Type 0 where
    pub each : (s : ℕ) → IsDoomed s → IsGoing (from (key_of m s)) (d (key_of m s))
    pub order : (s t : ℕ) → IsDoomed s → IsDoomed t → GoesBefore s t → (d (key_of m t) ≡ from (key_of m t)) ⊎ (d (key_of m s) ≡ nothing)

  -- and no other blob changes
  pub record Removing (IsDoomed : ℕ → Type 0) (GoesBefore : ℕ → ℕ → Type 0) (from d : Disk) : Type 0 where
    pub going : Going IsDoomed GoesBefore from d
    pub others : (q : Key) → (IsKeyOf m IsDoomed q → ⊥) → d q ≡ from q

-- the entries of blobs that P names may have left the list, and no other entry changed
abbrev pub EntriesLeave : (Key → Type 0) → OpenedList → OpenedList → Type 0
EntriesLeave P old new = (q : Key) → (new q ≡ old q) ⊎ (P q × (new q ≡ None))

module _ {F B : Type 0} (g : buffer.Ghosts B) (m : Sections F B) where
  -- the section is held, and a sync of its buffer would do something
  abbrev pub IsUnsettled : ℕ → Type 0
  IsUnsettled s = IsSomeAnd (m.held s) (λ u. g.unsettled u ≡ true)

  -- Each crash leaves of the blob of a named section that is not settled what had settled of its buffer; no other blob changes.
  pub record Syncing (IsNamed : ℕ → Type 0) (from : Disk) (q : Key) (b : Blob) : Type 0 where
    pub named : (s : ℕ) (u : B) → IsNamed s → m.held s ≡ Some u → q ≡ key_of m s → Leaves (g.NoChanceSeal u) (g.MayKeep u (from q) (g.settled u)) b
    pub others : (IsKeyOf m (λ s. IsNamed s × IsUnsettled s) q → ⊥) → b ≡ from q

  -- the section is held, and longer than this
  abbrev pub IsLonger : ℕ → ℕ → Type 0
  IsLonger s n = IsSomeAnd (m.held s) (λ u. n < g.byte_count u)

  -- Each crash leaves of a shortened section's blob what had settled of its buffer, up to the cut; no other blob changes.
  pub record Cutting (size_of : ℕ → Option ℕ) (from : Disk) (q : Key) (b : Blob) : Type 0 where
    pub shortened : (s n : ℕ) (u : B) → size_of s ≡ Some n → m.held s ≡ Some u → q ≡ key_of m s → Leaves (g.NoChanceSeal u) (g.MayKeep u (from q) (min (g.settled u) n)) b
    pub others : (IsKeyOf m (λ s. IsSomeAnd (size_of s) (IsLonger s)) q → ⊥) → b ≡ from q

  -- The later sections are removed, newest first; when all are gone the target, if it is held, is shortened to n bytes.
  pub record Truncating (target n : ℕ) (from d : Disk) : Type 0 where
    pub later : Going m (λ s. IsKnown m s × (target < s)) (λ s t. t < s) from d
    pub cut : (u : B) → m.held target ≡ Some u → Leaves (g.NoChanceSeal u) (g.MayKeep u (from (key_of m target)) (min (g.settled u) n)) (d (key_of m target))
    pub last : (d (key_of m target) ≡ from (key_of m target)) ⊎ (IsLonger target n × ((s : ℕ) → IsKnown m s → target < s → d (key_of m s) ≡ nothing))
    pub others : (q : Key) → (IsKeyOf m (λ s. IsKnown m s × (target ≤ s)) q → ⊥) → d q ≡ from q
