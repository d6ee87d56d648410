-- What a call promises that settles sections: `sync`, `start_sync` and `sync_all` differ in which they name.
use Rattle.std.specs.Prelude.{◌≡◌, ◌⊎◌, ◌↔◌, ℕ, ◌<◌, ◌≤◌, List, Some, None, Result, IfOk, OnErr, IsSomeAnd}
use Rattle.blob_device.specs.Disk.{Key}
use Rattle.blob_device.specs.Timeline.{disk, Always, Each}
use Rattle.blob_device.specs.declared.device.Device as device
use Rattle.sealed_pages.specs.declared.page_blob.PageBlob.{PageBlob}
use Rattle.section_manager.specs.Lasting.{IsUnsettled}
use Rattle.section_manager.specs.Refusing.{HasFailed, IsPruned}
use Rattle.section_manager.specs.Sections.{key_of, IsKeyOf, SameBounds, IsSynced}
use Rattle.section_manager.specs.Setting.{Setting}
use Rattle.section_manager.specs.declared.buffer.SectionBuffer as buffer
use Rattle.section_manager.specs.declared.journal.Error.{Error}
use Rattle.segments.specs.FixedLasting.{Settling}
use Rattle.segments.specs.FixedLists.{Lists}
use Rattle.variable_journal.specs.Lists.{IsJournal}

-- The named sections of the journal j were settled.
module _ {F S C D : Type 0} {gs : _} (g : buffer.Ghosts (PageBlob S gs)) (gives : F → Setting)
    (seal : List ℕ → ℕ) (dev : device.Ghosts D) (IsNamed : ℕ → Type 0) (j : Lists F (PageBlob S gs))
    (result : Result (Lists F (PageBlob S gs)) Error) (cfg : C) (kept : Result C Error)
    (old new : D) where
  pub record Settles : Type 0 where
    -- the journal may be used
    pub over : IfOk result (λ k.
        IsJournal g gives seal dev.Tells k (dev.opened new) (disk (dev.time new)))
    -- all bytes of a named section have settled, and they are as before
    pub named : IfOk result (λ k. (s : ℕ) (u : _) → IsNamed s → j.sections.held s ≡ Some u
        → IsSomeAnd (k.sections.held s) (λ v. IsSynced g dev.Tells u v
        (disk (dev.time old) (key_of j.sections s)) (disk (dev.time new) (key_of j.sections s))))
    -- no section is made
    pub none : IfOk result (λ k. (s : ℕ) → j.sections.held s ≡ None → k.sections.held s ≡ None)
    -- the others are held as before
    pub others : IfOk result (λ k. (s : ℕ) → (IsNamed s → ⊥)
        → k.sections.held s ≡ j.sections.held s)
    -- what is not held stays so
    pub unopened : IfOk result (λ k. (s : ℕ) → k.sections.unopened s ≡ j.sections.unopened s)
    -- partition, factory, floor and ceiling stay
    pub bounds : IfOk result (λ k. SameBounds j.sections k.sections)
    -- each section owes a replay as before
    pub unrecovered : IfOk result (λ k. (s : ℕ) → k.unrecovered s ≡ j.unrecovered s)
    -- what decoding an item needs to know stays
    pub config : IfOk kept (λ c. c ≡ cfg)
    -- at every moment, also where the call fails, each crash leaves of a named section a prefix of
    -- its bytes, no shorter than what had settled; the blob of one that owes a replay, and any
    -- other, does not change
    pub moments : dev.Tells → Always (dev.time old) (dev.time new)
        (Each (Settling seal j IsNamed (disk (dev.time old))))
    -- where nothing named is unsettled, no call of the device is made
    pub idle : ((s : ℕ) → IsNamed s → IsUnsettled g j.sections s → ⊥) → new ≡ old
    -- only entries of named sections that are unsettled change
    pub entries : (q : Key)
        → (IsKeyOf j.sections (λ s. IsNamed s × IsUnsettled g j.sections s) q → ⊥)
        → dev.opened new q ≡ dev.opened old q
    -- a section below the floor is refused, and nothing else by this
    pub guard : IsPruned result j.sections.floor ↔ ((s : ℕ) × IsNamed s × (s < j.sections.floor))
    -- before anything is done
    pub refuses : ((s : ℕ) × IsNamed s × (s < j.sections.floor)) → new ≡ old
    -- faults are counted on
    pub faults : dev.faults old ≤ dev.faults new
    -- nothing else is answered but a fault or want of memory
    pub cause : OnErr result (IsPruned result j.sections.floor
        ⊎ HasFailed result (dev.faults old) (dev.faults new))
