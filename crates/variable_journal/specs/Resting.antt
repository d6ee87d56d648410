-- What each moment of a call leaves of the items of a section, also where the call fails. Nothing is said of a
-- crash that leaves a chance seal.
use Rattle.std.specs.Prelude.{◌≡◌, ◌≢◌, ◌⊎◌, ◌↔◌, ℕ, ◌≤◌, Bool, true, false, List, [], ◌∷◌, ◌++◌, Option, None, Some, IfSome, IsSomeAnd}
use Rattle.blob_device.specs.Disk.{Blob, Disk, past, MayLeave}
use Rattle.blob_device.specs.Timeline.{Timeline, disk, Always}
use Rattle.sealed_pages.specs.ChanceSeal.{NoChanceSeal}
use Rattle.sealed_pages.specs.Cutting.{StandsSettled}
use Rattle.sealed_pages.specs.SealedPrefix.{sealed_prefix}
use Rattle.sealed_pages.specs.Shown.{shown}
use Rattle.sealed_pages.specs.declared.page_blob.PageBlob.{PageBlob}
use Rattle.section_manager.specs.Lasting.{IsOpening}
use Rattle.section_manager.specs.Sections.{section_key, key_of}
use Rattle.section_manager.specs.declared.sealed.AppendFactory.{AppendFactory}
use Rattle.segments.specs.FixedLists.{Lists}
use Rattle.segments.specs.FixedReplay.{Walk}
use Rattle.segments.specs.FixedResting.{Promises}
use Rattle.variable_journal.specs.Frames.{AreFirst, HasBadLength, items_of, rest_of, whole_end}
use Rattle.variable_journal.specs.Lists.{section_items}
use Rattle.variable_journal.specs.OpeningAtMost.{judged_bytes, IsThere}

-- ---- what bytes have of a list of items

-- They have the first of these items, and all that end within so many bytes.
pub record HasFirst (items : List (List ℕ)) (least : ℕ) (bytes : List ℕ) : Type 0 where
  pub first : AreFirst items least (items_of bytes)
  -- behind them no length is refused
  pub lengths : HasBadLength (rest_of bytes) → ⊥

-- They have the items of `all`, and no others.
pub record HasAll (all bytes : List ℕ) : Type 0 where
  pub same : items_of bytes ≡ items_of all
  -- behind them a length is refused exactly where one is there
  pub lengths : HasBadLength (rest_of bytes) ↔ HasBadLength (rest_of all)

-- They have the first items of `all`, and all that end within so many bytes.
pub record HasSome (all : List ℕ) (least : ℕ) (bytes : List ℕ) : Type 0 where
  pub first : AreFirst (items_of all) least (items_of bytes)
  -- behind them a length is refused only where one is there
  pub lengths : HasBadLength (rest_of bytes) → HasBadLength (rest_of all)

-- ---- what a crash leaves

module _ (seal : List ℕ → ℕ) (P : ℕ) (K : List ℕ → Type 0) where
  -- each crash leaves the blob, and its sealed prefix has K
  abbrev pub LeavesWith : Blob → Type 0
  LeavesWith b = (left : Option (List ℕ)) → MayLeave b left
      → IsSomeAnd left (λ c. NoChanceSeal seal P (past b) c → K (sealed_prefix seal P c))

  -- or it leaves no blob
  abbrev pub MayLeaveWith : Blob → Type 0
  MayLeaveWith b = (left : Option (List ℕ)) → MayLeave b left
      → IfSome left (λ c. NoChanceSeal seal P (past b) c → K (sealed_prefix seal P c))

-- ---- at a moment of a call

module _ {F S : Type 0} {gs : _} (seal : List ℕ → ℕ) (j : Lists F (PageBlob S gs)) (from : Disk)
    (s : ℕ) (u : PageBlob S gs) where
  -- what is kept of a section with the buffer u: of one that owes a replay all items that are whole in
  -- its sealed prefix as it read; of any other the first items, and all that had settled
  abbrev pub HasKept : Bool → List ℕ → Type 0
  HasKept true bytes =
      HasAll (sealed_prefix seal u.page_size (from (key_of j.sections s)).content) bytes
  HasKept false bytes = HasFirst (section_items j from s) u.settled bytes

  -- each crash leaves what is kept
  abbrev pub LeavesKept : Disk → Type 0
  LeavesKept d = LeavesWith seal u.page_size (HasKept (j.unrecovered s)) (d (key_of j.sections s))

  -- or no blob, while the section is removed
  abbrev pub MayLeaveKept : Disk → Type 0
  MayLeaveKept d =
      MayLeaveWith seal u.page_size (HasKept (j.unrecovered s)) (d (key_of j.sections s))

  -- The call takes nothing off the section.
  pub record Rests (d : Disk) : Type 0 where
    -- each crash leaves of its bytes what its buffer promised
    pub bytes : Promises seal (shown u) (from (key_of j.sections s)) (d (key_of j.sections s))
    -- and of its items what is kept
    pub items : LeavesKept d

-- ---- at every moment of a call

module _ {F S : Type 0} {gs : _} (seal : List ℕ → ℕ) (j : Lists F (PageBlob S gs))
    (IsNamed : ℕ → Type 0) (old new : Timeline) where
  -- nothing is taken off a section that is named
  abbrev pub AllRest : Type 0
  AllRest = (s : ℕ) (u : PageBlob S gs) → IsNamed s → j.sections.held s ≡ Some u
      → Always old new (Rests seal j (disk old) s u)

  -- each crash leaves what is kept of it
  abbrev pub AllKeep : Type 0
  AllKeep = (s : ℕ) (u : PageBlob S gs) → IsNamed s → j.sections.held s ≡ Some u
      → Always old new (LeavesKept seal j (disk old) s u)

  -- or no blob
  abbrev pub AllGo : Type 0
  AllGo = (s : ℕ) (u : PageBlob S gs) → IsNamed s → j.sections.held s ≡ Some u
      → Always old new (MayLeaveKept seal j (disk old) s u)

-- An append to a section of the item that is spelled so.
pub record AppendRests {S : Type 0} {gs : _} (seal : List ℕ → ℕ)
    (j : Lists (AppendFactory S) (PageBlob S gs)) (section : ℕ) (spelled : List ℕ)
    (old new : Timeline) : Type 0 where
  -- nothing is taken off the other sections
  pub others : AllRest seal j (λ s. s ≢ section) old new
  -- of the section each crash leaves the first of its items, of which the new one is the last, and all
  -- that had settled
  pub own : (u : PageBlob S gs) → j.sections.held section ≡ Some u
      → Always old new (λ d. LeavesWith seal u.page_size
      (HasFirst (section_items j (disk old) section ++ spelled ∷ []) u.settled)
      (d (key_of j.sections section)))
  -- one that is made is being made, or has that item or none
  pub made : j.sections.held section ≡ None → Always old new (λ d.
      IsOpening (disk old (key_of j.sections section)) (d (key_of j.sections section))
      ⊎ LeavesWith seal j.sections.factory.pages.page_size (HasFirst (spelled ∷ []) 0)
      (d (key_of j.sections section)))

-- A call that removes the sections that are named.
pub record RemovalRests {F S : Type 0} {gs : _} (seal : List ℕ → ℕ) (j : Lists F (PageBlob S gs))
    (IsNamed : ℕ → Type 0) (old new : Timeline) : Type 0 where
  -- nothing is taken off the others
  pub others : AllRest seal j (λ s. IsNamed s → ⊥) old new
  -- of those each crash leaves what is kept, or no blob
  pub going : AllGo seal j IsNamed old new

-- A call of a replay.
pub record ReplayRests {F S : Type 0} {gs : _} (seal : List ℕ → ℕ) (w : Walk F (PageBlob S gs))
    (old new : Timeline) : Type 0 where
  -- nothing is taken off a section that owes none
  pub others : AllRest seal w.journal (λ s. w.journal.unrecovered s ≡ false) old new
  -- of each section, also of one that is cut, each crash leaves what is kept
  pub items : AllKeep seal w.journal (λ s. Unit {0}) old new

-- ---- at every moment of an opening

module _ (seal : List ℕ → ℕ) (P : ℕ) (partition : List ℕ) where
  -- As long as a blob is as before, nothing is said of one with something pending: it has K once it is
  -- settled. One that had settled has K at every moment.
  pub record OpeningKeeps (s : ℕ) (K : List ℕ → Type 0) (old new : Timeline) : Type 0 where
    -- it is as before, or each crash leaves it with K
    pub settles : Always old new (λ d. (d (section_key partition s) ≡ disk old (section_key partition s))
        ⊎ LeavesWith seal P K (d (section_key partition s)))
    -- where it had settled, each crash leaves it with K
    pub settled : StandsSettled (disk old (section_key partition s))
        → Always old new (λ d. LeavesWith seal P K (d (section_key partition s)))

  -- the bytes of which a section's items are kept: its sealed prefix
  abbrev pub sealed_bytes : Disk → ℕ → List ℕ
  sealed_bytes d s = sealed_prefix seal P (d (section_key partition s)).content

  -- an opening of all sections: each keeps the items that are whole in its sealed prefix
  abbrev pub OpensRest : Timeline → Timeline → Type 0
  OpensRest old new =
      (s : ℕ) → OpeningKeeps s (HasAll (sealed_bytes (disk old) s)) old new

  -- an opening up to a byte of the section `last`: each up to that one keeps the first of those, and all
  -- whose frames are kept
  abbrev pub OpensToRest : ℕ → ℕ → Timeline → Timeline → Type 0
  OpensToRest last end old new = (s : ℕ) → s ≤ last → IsThere seal P partition last end (disk old) s
      → OpeningKeeps s (HasSome (sealed_bytes (disk old) s)
      (whole_end (judged_bytes seal P partition last end (disk old) s))) old new
