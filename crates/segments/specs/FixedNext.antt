-- What a call of `next` of a replay does: it gives the first item that is left, or an error, or
-- says that nothing is left.
use Rattle.std.specs.Prelude.{◌≡◌, ◌⊎◌, ◌↔◌, ℕ, ◌*◌, ◌<◌, ◌≤◌, true, false, List, length, Option, Some, None, Result, Ok, Err}
use Rattle.blob_device.specs.Disk.{Key}
use Rattle.blob_device.specs.Timeline.{disk, Always, Each}
use Rattle.blob_device.specs.declared.device.Device as device
use Rattle.blob_device.specs.declared.runtime.RError.TheVariants.{InvalidChecksum}
use Rattle.value_codec.specs.declared.codec.Error as codec
use Rattle.sealed_pages.specs.declared.page_blob.PageBlob.{PageBlob}
use Rattle.section_manager.specs.Refusing.{HasDamage, HasFailed}
use Rattle.section_manager.specs.Sections.{IsHeld, IsKeyOf}
use Rattle.section_manager.specs.Setting.{Setting}
use Rattle.section_manager.specs.declared.buffer.SectionBuffer as buffer
use Rattle.section_manager.specs.declared.journal.Damage.{Damage}
use Rattle.section_manager.specs.declared.journal.Error.{Error}
use Rattle.section_manager.specs.declared.journal.Error.TheVariants.{Codec, Corruption, ItemOutOfRange, Runtime}
use Rattle.segments.specs.FixedReading.{HasNotRead, IsBelowFloor}
use Rattle.segments.specs.FixedReplay.{Walk, IsAhead, IsIn, IsLeft, IsDrained, SameWalk, KeepsBytes, KeepsFloors, KeepsItems, KeepsSections, LeavesNoMore, IsWalk, IsCutting, IsEndedAt, EndsBelow, EndsDamaged, Gives, Refuses, Replaying, Stops, kept_bytes}
use Rattle.segments.specs.FixedStepping.{way_of, ReadsOnce}

-- it answered no error
abbrev pub HasNoError : {V : Type 0} → Option (Result (ℕ × ℕ × V) Error) → Type 0
HasNoError {V = V} result = (result ≡ None) ⊎ ((x : ℕ × ℕ × V) × (result ≡ Some (Ok x)))

module _ {F S V D : Type 0} {gs : _} (g : buffer.Ghosts (PageBlob S gs)) (gives : F → Setting)
    (seal : List ℕ → ℕ) (size : ℕ) (spelling : V → List ℕ) (accepted : V → Unit {0} → Type 0)
    (refusal : List ℕ → Unit {0} → Option codec.Error) (dev : device.Ghosts D) (old new : D) where
  -- The replay w was asked for its next item, and is v then. `Stayed` says that nothing of it
  -- changed.
  pub record Advances (w v : Walk F (PageBlob S gs)) (Stayed : Type 0)
      (result : Option (Result (ℕ × ℕ × V) Error)) : Type 0 where
    -- it goes on
    pub over : IsWalk g gives seal size dev.Tells v (dev.opened new) (disk (dev.time new))
    -- it is the same replay
    pub same : SameWalk w v
    -- what is given is the first item that was left, and it is left no more
    pub item : dev.Tells → (s p : ℕ) (x : V) → result ≡ Some (Ok (s, p, x))
        → Gives seal size spelling accepted w v (disk (dev.time old)) (disk (dev.time new)) s p x
    -- it has failed then only if it had
    pub going : (s p : ℕ) (x : V) → result ≡ Some (Ok (s, p, x)) → v.failed ≡ w.failed
    -- what an error lost of a section is unopened
    pub stays : KeepsSections w v
    -- without an error none is lost
    pub known : HasNoError result → (s : ℕ)
        → v.journal.sections.unopened s ≡ w.journal.sections.unopened s
    -- a cut leaves the whole items of a section
    pub items : dev.Tells → v.ended ≡ false
        → KeepsItems seal size w (disk (dev.time old)) (disk (dev.time new))
    -- no more bytes than before and no fewer than its floor
    pub floors : KeepsFloors w v
    -- no section is lost but by an error
    pub held : HasNoError result → (s : ℕ)
        → IsHeld v.journal.sections s ↔ IsHeld w.journal.sections s
    -- and no bytes but by a cut
    pub bytes : KeepsBytes dev.Tells w v (disk (dev.time old)) (disk (dev.time new))
    -- what had settled has settled
    pub unsettled : (s : ℕ) (u x : PageBlob S gs) → w.journal.sections.held s ≡ Some u
        → v.journal.sections.held s ≡ Some x → g.unsettled u ≡ false → g.unsettled x ≡ false
    -- each answer, an error too, leaves less to go over
    pub nearer : (x : Result (ℕ × ℕ × V) Error) → result ≡ Some x → way_of v < way_of w
    -- without an answer nothing is left
    pub none : dev.Tells → result ≡ None → (s p : ℕ)
        → IsLeft seal size w (disk (dev.time old)) s p → ⊥
    -- it is drained, or has ended
    pub drained : result ≡ None → IsDrained v ⊎ (v.ended ≡ true)
    -- and has failed only if it had
    pub whole : result ≡ None → v.failed ≡ w.failed
    -- it never goes back to a section that it has gone over
    pub onward : (s : ℕ) → IsAhead v s ⊎ IsIn v s → IsAhead w s ⊎ IsIn w s
    -- and may leave no more of a blob than before
    pub later : HasNoError result → dev.Tells
        → LeavesNoMore seal size w v (disk (dev.time old)) (disk (dev.time new))
    -- a replay that has ended does nothing more
    pub ended : w.ended ≡ true → (result ≡ None) × Stayed × (new ≡ old)
    -- an error is noted
    pub failed : (e : Error) → result ≡ Some (Err e) → v.failed ≡ true
    -- it ends the section that it names, and one while a section is cut ends the replay
    pub stops : dev.Tells → (e : Error) → result ≡ Some (Err e)
        → Stops seal size w v (disk (dev.time old)) (disk (dev.time new))
    -- the start is refused only where its section keeps fewer items
    pub start : dev.Tells → (p : ℕ) → result ≡ Some (Err (ItemOutOfRange p))
        → (p ≡ w.start_position)
        × (length (kept_bytes seal size w (disk (dev.time old)) w.start_section) < p * size)
        × IsEndedAt seal size w v (disk (dev.time old)) (disk (dev.time new)) w.start_section
    -- what is kept of a section is refused only where it is less than the floor of one of which a
    -- replay is owed; that is not cut
    pub damage : dev.Tells → (x : Damage) → result ≡ Some (Err (Corruption x))
        → EndsBelow seal size w (disk (dev.time old)) x × (IsAhead w x.section ⊎ IsIn w x.section)
        × IsEndedAt seal size w v (disk (dev.time old)) (disk (dev.time new)) x.section
    -- A page is found damaged, where the disk is told, only in a section that owes no replay and
    -- has a floor: one that owes a replay is cut before such a page, and any other is sealed.
    pub damaged : dev.Tells → (k : ℕ) → result ≡ Some (Err (Runtime (InvalidChecksum k)))
        → EndsDamaged seal size w v (disk (dev.time old)) (disk (dev.time new)) k
    -- the codec's error is that of the first item that was left
    pub refused : dev.Tells → (e : codec.Error) → result ≡ Some (Err (Codec e))
        → Refuses seal size refusal w v (disk (dev.time old)) (disk (dev.time new)) e
    -- it ends only by a damaged page, where the disk is not told, by a fault or want of memory
    pub ends : v.ended ≡ true → (w.ended ≡ true) ⊎ ((e : Error) × (result ≡ Some (Err e))
        × ((HasDamage {T = V} (Err e) × (dev.Tells → ⊥))
        ⊎ HasFailed {T = V} (Err e) (dev.faults old) (dev.faults new)))
    -- no error but that of a cut ends it
    pub ends_cut : v.ended ≡ true
        → (w.ended ≡ true) ⊎ IsCutting seal size dev.Tells w (disk (dev.time old))
    -- at each moment, also where it fails, a crash leaves what a replay may leave
    pub moments : dev.Tells → Always (dev.time old) (dev.time new)
        (Each (Replaying seal size w (disk (dev.time old))))
    -- each page is read once, as long as the device and memory serve, and one once more where its
    -- section is cut within it
    pub once : HasNoError result → ReadsOnce w v (dev.opened old) (dev.opened new)
    -- no entry changes but of a held section that is still to be gone over
    pub entries : (q : Key) → (IsKeyOf w.journal.sections
        (λ s. IsHeld w.journal.sections s × (IsAhead w s ⊎ IsIn w s)) q → ⊥)
        → dev.opened new q ≡ dev.opened old q
    -- faults are counted on
    pub faults : dev.faults old ≤ dev.faults new
    -- nothing else is answered but a fault or want of memory
    pub cause : (e : Error) → result ≡ Some (Err e) → (e ≡ ItemOutOfRange w.start_position)
        ⊎ (IsBelowFloor {T = V} (Err e)
        ⊎ HasNotRead {T = V} (Err e) (dev.faults old) (dev.faults new))
