-- What a call leaves, at each moment, of a section that it neither cuts nor removes: what the
-- section's buffer promised when the call began.
use Rattle.std.specs.Prelude.{◌≡◌, ◌≢◌, ◌⊎◌, ℕ, ◌*◌, ◌/◌, ◌<◌, ◌≤◌, false, List, length, Some, ⊤, Option, None, IsTrue, IsSomeAnd}
use Rattle.std.specs.List.{Contains}
use Rattle.blob_device.specs.Disk.{Key, Blob, Disk}
use Rattle.blob_device.specs.Timeline.{Timeline, disk, Always}
use Rattle.sealed_pages.specs.Buffer.{Buffer, size_of, bytes_of, IsSealed}
use Rattle.sealed_pages.specs.ChanceSeal.{Leaves, Sealing}
use Rattle.sealed_pages.specs.Flushing.{Alone}
use Rattle.sealed_pages.specs.SealedPrefix.{sealed_prefix}
use Rattle.sealed_pages.specs.Shown.{shown}
use Rattle.sealed_pages.specs.Unrecovered.{IsUnrecovered}
use Rattle.sealed_pages.specs.declared.page_blob.PageBlob.{PageBlob}
use Rattle.section_manager.specs.Sections.{Sections, section_key, key_of, IsHeld, IsKeyOf, IsKnown}
use Rattle.segments.specs.FixedBounds.{bounded_size, IsThere}
use Rattle.segments.specs.FixedLists.{Lists}
use Rattle.segments.specs.FixedRemoving.{IsBelow}
use Rattle.segments.specs.FixedReplay.{Walk, IsAhead, IsIn, StaysStill}

module _ (seal : List ℕ → ℕ) (u : Buffer) where
  -- A crash of the blob `b` leaves what the buffer promised over the blob `from`.
  pub record Promises (from b : Blob) : Type 0 where
    -- of a sealed one a prefix of its bytes, no shorter than what had settled
    pub sealed : IsSealed seal u from
        → Leaves seal u.page_size (bytes_of u from.content) u.settled b
    -- of one that is not, all of its sealed prefix, as it read
    pub prefix : IsUnrecovered seal u from
        → Leaves seal u.page_size (sealed_prefix seal u.page_size from.content)
        (length (sealed_prefix seal u.page_size from.content)) b

  -- It does so at every moment of a call, of the blob at `q`.
  abbrev pub KeepsPromise : Key → Timeline → Timeline → Type 0
  KeepsPromise q old new = Always old new (λ d. Promises (disk old q) (d q))

-- Calls of the device were on the blob at this key alone, as an append or a cut of a section tells
-- it (`Alone`), or a cursor's cut (`Sealing`).
abbrev pub IsOnOne : (List ℕ → ℕ) → Key → Timeline → Timeline → Type 0
IsOnOne seal key old new = Alone key old new
    ⊎ ((P : ℕ) × (bytes : List ℕ) × (least : ℕ) × Sealing seal P bytes least key old new)

-- what a sync names: these sections, or all
abbrev pub IsNamedBy : Option (List ℕ) → ℕ → Type 0
IsNamedBy None s = ⊤
IsNamedBy (Some sections) s = Contains sections s

-- what a removal is of: the known sections below a bound, or all
abbrev pub IsDoomedBy : {F S : Type 0} {gs : _} → Lists F (PageBlob S gs) → Option ℕ → ℕ → Type 0
IsDoomedBy j None s = IsKnown j.sections s
IsDoomedBy j (Some least) s = IsBelow j least s

-- The key is that of a section that P names, which is held with the buffer `u`.
pub record IsNamedAt {F B : Type 0} (m : Sections F B) (P : ℕ → Type 0) (q : Key) (u : B)
    : Type 0 where
  -- the section
  pub section : ℕ
  -- it is named
  pub named : P section
  -- its buffer
  pub held : m.held section ≡ Some u
  -- its key
  pub key : q ≡ key_of m section

-- The key is that of no section that P names, or of one with the buffer `u`.
abbrev pub IsOtherOrAt : {F B : Type 0} → Sections F B → (ℕ → Type 0) → Key → B → Type 0
IsOtherOrAt m P q u = (IsKeyOf m P q → ⊥) ⊎ IsNamedAt m P q u

module _ {F S : Type 0} {gs : _} (j : Lists F (PageBlob S gs)) (section n : ℕ) (q : Key) where
  -- The key is that of the section, which has no more than n bytes, or is not held.
  pub record IsWithinCut : Type 0 where
    -- its key
    pub key : q ≡ key_of j.sections section
    -- nothing of it stands behind the cut
    pub short : IsSomeAnd (j.sections.held section) (λ u. n < size_of (shown u)) → ⊥

  -- A cut of all that stands behind byte n of the section takes nothing off the blob there.
  abbrev pub TailSpares : Type 0
  TailSpares = (IsKeyOf j.sections (λ s. IsKnown j.sections s × (section ≤ s)) q → ⊥) ⊎ IsWithinCut

module _ (seal : List ℕ → ℕ) (P size : ℕ) (partition : List ℕ) (last end : ℕ) (d : Disk)
    (q : Key) where
  -- The key is that of a section up to the last one, of which an opening up to byte `end` of that
  -- keeps all that is sealed.
  pub record IsKeptWhole : Type 0 where
    -- the section
    pub section : ℕ
    -- it is not removed
    pub under : section ≤ last
    -- it has a blob
    pub there : IsThere seal P size partition last end d section
    -- its key
    pub key : q ≡ section_key partition section
    -- what is kept of it is its whole sealed prefix
    pub whole : bounded_size seal P size partition last end section
        (d (section_key partition section)).content
        ≡ length (sealed_prefix seal P (d (section_key partition section)).content)

  -- Such an opening takes nothing that is sealed off the blob there.
  abbrev pub BoundSpares : Type 0
  BoundSpares = ((s : ℕ) → IsThere seal P size partition last end d s → q ≢ section_key partition s)
      ⊎ IsKeptWhole

-- The replay has still to go over the section with this key, or stands in it.
abbrev pub IsGoingInto : {F B : Type 0} → Walk F B → Key → Type 0
IsGoingInto w q = IsKeyOf w.journal.sections
    (λ s. IsHeld w.journal.sections s × (IsAhead w s ⊎ IsIn w s)) q

module _ {F S : Type 0} {gs : _} (seal : List ℕ → ℕ) (size : ℕ) (w : Walk F (PageBlob S gs))
    (d : Disk) (q : Key) (u : PageBlob S gs) where
  -- A replay of the section is owed, and refused: its sealed items end below its floor.
  pub record IsRefusedAt (section : ℕ) : Type 0 where
    -- it owes one
    pub owes : IsTrue (w.journal.unrecovered section)
    -- a cut would pass the floor
    pub below : length (sealed_prefix seal u.page_size (d q).content) / size * size
        < w.journal.floor_of section

  -- The key is that of a section with the buffer `u`, off which a replay cuts nothing.
  pub record IsUncut : Type 0 where
    -- the section
    pub section : ℕ
    -- its buffer
    pub held : w.journal.sections.held section ≡ Some u
    -- its key
    pub key : q ≡ key_of w.journal.sections section
    -- It owes no replay, or nothing in it is unsettled and nothing is to be cut off, or its replay
    -- is refused.
    pub whole : (w.journal.unrecovered section ≡ false)
        ⊎ (StaysStill seal size (w.journal.unrecovered section) u (d q) ⊎ IsRefusedAt section)

  -- The replay cuts nothing off the blob there, over which the buffer `u` stands.
  abbrev pub CutsNothing : Type 0
  CutsNothing = (IsGoingInto w q → ⊥) ⊎ IsUncut
