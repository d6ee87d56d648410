-- The sections of a map, opened one after another.
use Rattle.std.specs.Prelude.{◌≡◌, ◌≢◌, ◌⊎◌, ◌↔◌, ℕ, ◌*◌, ◌^◌, ◌<◌, ◌≤◌, Bool, true, false, List, Option, Some, None, Result, Err, IfOk, OnErr, IsSome, IsTrue}
use Rattle.blob_device.specs.Disk.{Key}
use Rattle.blob_device.specs.Timeline.{Always}
use Rattle.sealed_pages.specs.declared.write_blob.WriteBlob.{WriteBlob}
use Rattle.ordinal_store.specs.Adopting.{IsReady}
use Rattle.ordinal_store.specs.Calls.{HasFailed, HasRecordError, as_read}
use Rattle.ordinal_store.specs.Durable.{Stays}
use Rattle.ordinal_store.specs.Marking.{IsFirstRefused, IsKept, IsWhole, Marking, is_wanted}
use Rattle.ordinal_store.specs.Mending.{IsMade}
use Rattle.ordinal_store.specs.Ranges.{AreRanges}
use Rattle.ordinal_store.specs.Reopening.{HasRoom, HasWanted}
use Rattle.ordinal_store.specs.Slots.{Layout, blob_of, position_of, section_of, slot_size}
use Rattle.ordinal_store.specs.Stores.{Sight, Store, has, now}
use Rattle.ordinal_store.specs.declared.ordinal.Error.{Error}

module _ (told : Type 0) (l : Layout) (capacity : ℕ) (marking : Marking) (base : Sight) where
  abbrev pub Wanted : ℕ → Type 0
  Wanted j = is_wanted l.items (marking (section_of l j)) (position_of l j) ≡ true

  abbrev pub There : Key → Type 0
  There q = (q.0 ≡ l.partition) × IsTrue (now base q).there

  -- the section is as it was, and nothing of it is held
  pub record IsYet (n : Store) (v : Sight) (t : ℕ) : Type 0 where
    pub buffer : n.buffers t ≡ None
    pub blob : told → now v (blob_of l t) ≡ now base (blob_of l t)
    pub held : (j : ℕ) → section_of l j ≡ t → has n j ≡ false

  -- the section is kept, and is back
  pub record IsBack (n : Store) (v : Sight) (t : ℕ) : Type 0 where
    pub marks : Option (List Bool)
    pub marked : marking t ≡ Some marks
    pub wanted : HasWanted l.items marks
    pub u : WriteBlob
    pub buffer : n.buffers t ≡ Some u
    pub ready : IsReady told (blob_of l t) capacity v u
    pub there : told → IsTrue (now base (blob_of l t)).there
    pub made : told → IsMade (slot_size l) marks (now base (blob_of l t)).content (now v (blob_of l t)).content
    pub whole : told → IsWhole l (Some marks) (Some (now base (blob_of l t)).content)
    pub held : (j : ℕ) → j < 2 ^ 64 → section_of l j ≡ t → IsTrue (has n j) ↔ (is_wanted l.items (Some marks) (position_of l j) ≡ true)
    pub room : HasRoom l marks u

  -- the section is kept and back, or not kept and as it was
  abbrev pub IsDone : Store → Sight → ℕ → Type 0
  IsDone n v t = IsBack n v t ⊎ ((IsKept l marking t → ⊥) × IsYet n v t)

  -- The store that is left where all went well.
  pub record RestoredAll (v : Sight) (n : Store) : Type 0 where
    pub layout_is : n.layout ≡ l
    pub capacity_is : n.capacity ≡ capacity
    pub ranges_are : AreRanges n.ranges
    pub number : (t : ℕ) → IsSome (n.buffers t) → (t < 2 ^ 64) × (t * l.items < 2 ^ 64)
    pub each : (t : ℕ) → t < 2 ^ 64 → IsDone n v t

  -- All kept sections are opened, mended and checked, the least first.
  pub record RestoringAll {T : Type 0} (show : T → Store) (result : Result T Error) (v : Sight) : Type 0 where
    pub done : IfOk result (λ r. RestoredAll v (show r))
    pub refused : told → (e : Error) → result ≡ Err e → ((s : ℕ) × IsFirstRefused l marking (as_read (now base)) s e) ⊎ HasFailed result base v
    pub moments : told → Always base.time v.time (Stays l Wanted There (now base))
    pub entries : (q : Key) → q.0 ≢ l.partition → v.opened q ≡ base.opened q
    pub faults : base.faults ≤ v.faults
    pub cause : OnErr result (((i : ℕ) × HasRecordError result i) ⊎ HasFailed result base v)
