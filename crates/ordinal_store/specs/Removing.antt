-- Removing the blobs of sections, the least first, and what is left of the store.
use Rattle.std.specs.Prelude.{◌≡◌, ◌≢◌, ◌⊎◌, ◌↔◌, ℕ, ◌^◌, ◌<◌, ◌≤◌, Option, Some, None, Result, IfOk, OnOk, OnErr, IsTrue, IsSome}
use Rattle.blob_device.specs.Disk.{Disk, Key, nothing}
use Rattle.blob_device.specs.Timeline.{Always, OnlyAt}
use Rattle.ordinal_store.specs.declared.ordinal.Error.{Error}
use Rattle.ordinal_store.specs.Calls.{HasFailed, IsBlobOf, SamePlace}
use Rattle.ordinal_store.specs.Durable.{IsGoing}
use Rattle.ordinal_store.specs.Slots.{section_of}
use Rattle.ordinal_store.specs.Stores.{IsUsable, Sight, Store, has, key_of, now}

-- below the bound; without a bound every section is
abbrev pub IsBelow : Option ℕ → ℕ → Type 0
IsBelow None s = Unit {0}
IsBelow (Some bound) s = s < bound

module _ (o : Store) where
  -- the section has a blob, and is to be removed
  abbrev pub IsDoomed : Option ℕ → ℕ → Type 0
  IsDoomed bound s = IsSome (o.buffers s) × IsBelow bound s

  -- the section has a blob, and none below it has one
  pub record IsFirst (s : ℕ) : Type 0 where
    pub some : IsSome (o.buffers s)
    pub least : (q : ℕ) → IsSome (o.buffers q) → s ≤ q

  -- the section to be removed next, or none where all of them are
  abbrev pub IsNext : Option ℕ → Option ℕ → Type 0
  IsNext bound None = (s : ℕ) → IsDoomed bound s → ⊥
  IsNext bound (Some s) = IsFirst s × IsBelow bound s

  -- the store without the section and the indices in it
  pub record IsWithout (r : Store) (s : ℕ) : Type 0 where
    pub place : SamePlace o r
    pub here : r.buffers s ≡ None
    pub others : (q : ℕ) → q ≢ s → r.buffers q ≡ o.buffers q
    pub held : (j : ℕ) → IsTrue (has r j) ↔ (IsTrue (has o j) × (section_of o.layout j ≢ s))

  -- While one section's blob is removed: it is as before, under removal or gone, and nothing else changes.
  pub record GoesOne (told : Type 0) (s : ℕ) (old new : Sight) : Type 0 where
    pub moments : told → Always old.time new.time (OnlyAt (key_of o s) (now old) (IsGoing (now old (key_of o s))))
    pub entries : (q : Key) → (new.opened q ≡ old.opened q) ⊎ ((q ≡ key_of o s) × (new.opened q ≡ None))
    pub faults : old.faults ≤ new.faults

  module _ (bound : Option ℕ) where
    -- At a moment of a removal each blob is as before, under removal or gone. A doomed section's is as before until those below it are gone.
    pub record Leaves (from d : Disk) : Type 0 where
      pub each : (q : Key) → IsGoing (from q) (d q)
      pub order : (s t : ℕ) → IsDoomed bound s → IsDoomed bound t → s < t → (d (key_of o t) ≡ from (key_of o t)) ⊎ (d (key_of o s) ≡ nothing)
      pub others : (q : Key) → (IsBlobOf o (IsBelow bound) q → ⊥) → d q ≡ from q

    -- What holds of a removal however it ends.
    pub record Goes (told : Type 0) (old new : Sight) : Type 0 where
      pub moments : told → Always old.time new.time (Leaves (now old))
      pub entries : (q : Key) → (new.opened q ≡ old.opened q) ⊎ (IsBlobOf o (IsBelow bound) q × (new.opened q ≡ None))
      pub faults : old.faults ≤ new.faults

    module _ (told : Type 0) (n : Store) (old new : Sight) where
      -- the section is as before
      pub record IsKeptYet (s : ℕ) : Type 0 where
        pub buffer : n.buffers s ≡ o.buffers s
        pub blob : told → s < 2 ^ 64 → now new (key_of o s) ≡ now old (key_of o s)

      -- the section is gone for good
      pub record IsGone (s : ℕ) : Type 0 where
        pub doomed : IsDoomed bound s
        pub buffer : n.buffers s ≡ None
        pub blob : told → now new (key_of o s) ≡ nothing
        pub entry : new.opened (key_of o s) ≡ None

      -- what a removal has left of the store so far
      pub record Left : Type 0 where
        pub usable : IsUsable n told new.opened (now new)
        pub place : SamePlace o n
        pub each : (s : ℕ) → IsKeptYet s ⊎ IsGone s
        pub held : (j : ℕ) → IsTrue (has n j) ↔ (IsTrue (has o j) × IsSome (n.buffers (section_of o.layout j)))

module _ {T : Type 0} (show : T → Store) (told : Type 0) (o : Store) where
  -- the removal of one section
  pub record Dropping (s : ℕ) (result : Result T Error) (old new : Sight) : Type 0 where
    pub goes : GoesOne o told s old new
    pub usable : IfOk result (λ r. IsUsable (show r) told new.opened (now new))
    pub without : IfOk result (λ r. IsWithout o (show r) s)
    pub gone : told → OnOk result (now new (key_of o s) ≡ nothing)
    pub closed : OnOk result (new.opened (key_of o s) ≡ None)
    pub cause : OnErr result (HasFailed result old new)

  -- the removal of all sections below the bound
  pub record Removing (bound : Option ℕ) (result : Result T Error) (old new : Sight) : Type 0 where
    pub goes : Goes o bound told old new
    pub left : IfOk result (λ r. Left o bound told (show r) old new)
    pub all : IfOk result (λ r. (s : ℕ) → IsDoomed (show r) bound s → ⊥)
    pub cause : OnErr result (HasFailed result old new)
