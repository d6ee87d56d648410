-- What one call of `next` of the walk over a pair's records says, and what several say together.
use Rattle.std.specs.Prelude.{◌≡◌, ◌⊎◌, ◌↔◌, ℕ, ◌*◌, ◌<◌, ◌≤◌, Bool, true, false, List, length, Option, None, Some, Result, Ok, Err}
use Rattle.std.proofs.Common.{inl, inr, refl, sym, ◌∙◌, ap}
use Rattle.blob_device.specs.Disk.{Key}
use Rattle.blob_device.specs.Opened.{OpenedList}
use Rattle.blob_device.specs.Timeline.{Timeline, disk, Always, Each}
use Rattle.blob_device.specs.declared.runtime.RError.TheVariants.{InvalidChecksum}
use Rattle.sealed_pages.specs.declared.page_blob.PageBlob.{PageBlob}
use Rattle.value_codec.specs.declared.codec.Error as codec
use Rattle.section_manager.specs.declared.buffer.SectionBuffer as buffer
use Rattle.section_manager.specs.declared.journal.Damage.{Damage}
use Rattle.section_manager.specs.declared.journal.Error.{Error}
use Rattle.section_manager.specs.declared.journal.Error.TheVariants.{ItemOutOfRange, Runtime, Codec, Corruption}
use Rattle.section_manager.specs.Refusing.{HasDamage, HasFailed}
use Rattle.section_manager.specs.Sections.{IsHeld, IsKeyOf}
use Rattle.section_manager.specs.Setting.{Setting}
use Rattle.segments.specs.FixedReading.{IsBelowFloor, HasNotRead}
use Rattle.segments.specs.FixedReplay.{Walk, IsAhead, IsIn, IsLeft, IsDrained, SameWalk, KeepsSections, KeepsFloors, KeepsBytes, KeepsItems, IsWalk, Gives, Refuses, Stops, IsCutting, Replaying, LeavesNoMore, EndsBelow, FindsDamage, kept_bytes}
use Rattle.segments.specs.FixedStepping.{way_of}
use Rattle.paired.proofs.next.Went.{same_bool}
use Rattle.paired.specs.lemmas.next.Went.{Goes, Went}

module _ {F S : Type 0} {gs : _} (seal : List ℕ → ℕ) (size : ℕ) (g : buffer.Ghosts (PageBlob S gs)) (gives : F → Setting) (told : Type 0) where
  -- without an error
  abbrev pub IsFine : {V : Type 0} → Option (Result V Error) → Type 0
  IsFine {V = V} result = (result ≡ None) ⊎ ((x : V) × (result ≡ Some (Ok x)))

  -- The clauses of the call that are cited below.
  pub record Says {V : Type 0} (spelling : V → List ℕ) (accepted : V → Unit {0} → Type 0) (refusal : List ℕ → Unit {0} → Option codec.Error) (result : Option (Result (ℕ × ℕ × V) Error))
      (old new : Walk F (PageBlob S gs)) (before after : OpenedList) (b c : Timeline) (few many : ℕ) : Type 0 where
    pub over : IsWalk g gives seal size told new after (disk c)
    pub same : SameWalk old new
    pub item : told → (s p : ℕ) (v : V) → result ≡ Some (Ok (s, p, v)) → Gives seal size spelling accepted old new (disk b) (disk c) s p v
    pub going : (s p : ℕ) (v : V) → result ≡ Some (Ok (s, p, v)) → new.failed ≡ old.failed
    pub stays : KeepsSections old new
    pub known : IsFine result → (s : ℕ) → new.journal.sections.unopened s ≡ old.journal.sections.unopened s
    pub items : told → new.ended ≡ false → KeepsItems seal size old (disk b) (disk c)
    pub floors : KeepsFloors old new
    pub held : IsFine result → (s : ℕ) → IsHeld new.journal.sections s ↔ IsHeld old.journal.sections s
    pub bytes : KeepsBytes told old new (disk b) (disk c)
    pub unsettled : (s : ℕ) (u v : PageBlob S gs) → old.journal.sections.held s ≡ Some u → new.journal.sections.held s ≡ Some v → g.unsettled u ≡ false → g.unsettled v ≡ false
    pub nearer : (x : Result (ℕ × ℕ × V) Error) → result ≡ Some x → way_of new < way_of old
    pub none : told → result ≡ None → (s p : ℕ) → IsLeft seal size old (disk b) s p → ⊥
    pub drained : result ≡ None → IsDrained new ⊎ (new.ended ≡ true)
    pub whole : result ≡ None → new.failed ≡ old.failed
    pub onward : (s : ℕ) → IsAhead new s ⊎ IsIn new s → IsAhead old s ⊎ IsIn old s
    pub later : IsFine result → told → LeavesNoMore seal size old new (disk b) (disk c)
    pub ended : old.ended ≡ true → (result ≡ None) × (new ≡ old) × (after ≡ before) × (c ≡ b)
    pub failed : (e : Error) → result ≡ Some (Err e) → new.failed ≡ true
    pub stops : told → (e : Error) → result ≡ Some (Err e) → Stops seal size old new (disk b) (disk c)
    pub start : told → (p : ℕ) → result ≡ Some (Err (ItemOutOfRange p)) → (p ≡ old.start_position) × (length (kept_bytes seal size old (disk b) old.start_section) < p * size)
    pub damage : told → (x : Damage) → result ≡ Some (Err (Corruption x)) → EndsBelow seal size old (disk b) x × (IsAhead old x.section ⊎ IsIn old x.section)
    pub damaged : told → (k : ℕ) → result ≡ Some (Err (Runtime (InvalidChecksum k))) → FindsDamage seal size old new (disk c) k
    pub refused : told → (e : codec.Error) → result ≡ Some (Err (Codec e)) → Refuses seal size refusal old new (disk b) (disk c) e
    pub ends : new.ended ≡ true → (old.ended ≡ true) ⊎ ((e : Error) × (result ≡ Some (Err e)) × ((HasDamage {T = V} (Err e) × (told → ⊥)) ⊎ HasFailed {T = V} (Err e) few many))
    pub ends_cut : new.ended ≡ true → (old.ended ≡ true) ⊎ IsCutting seal size told old (disk b)
    pub moments : told → Always b c (Each (Replaying seal size old (disk b)))
    pub entries : (q : Key) → (IsKeyOf old.journal.sections (λ s. IsHeld old.journal.sections s × (IsAhead old s ⊎ IsIn old s)) q → ⊥) → after q ≡ before q
    pub faults : few ≤ many
    pub cause : (e : Error) → result ≡ Some (Err e) → (e ≡ ItemOutOfRange old.start_position) ⊎ (IsBelowFloor {T = V} (Err e) ⊎ HasNotRead {T = V} (Err e) few many)

  module _ {V : Type 0} (spelling : V → List ℕ) (accepted : V → Unit {0} → Type 0) (refusal : List ℕ → Unit {0} → Option codec.Error) (result : Option (Result (ℕ × ℕ × V) Error))
      (old new : Walk F (PageBlob S gs)) (before after : OpenedList) (b c : Timeline) (few many : ℕ) (says : Says spelling accepted refusal result old new before after b c few many) where
    -- one that had ended has ended
    pub ended_on : old.ended ≡ true → new.ended ≡ true
    ended_on is = ap (λ (w : Walk F (PageBlob S gs)). w.ended) (says.ended is).1 ∙ is

    pub was_going : new.ended ≡ false → old.ended ≡ false
    was_going going = go old.ended refl
      where
        go : (e : Bool) → old.ended ≡ e → old.ended ≡ false
        go false is = is
        go true is = absurd (cc (going, ended_on is))

    -- it gave something, so that it had not ended
    pub gave_going : (x : Result (ℕ × ℕ × V) Error) → result ≡ Some x → old.ended ≡ false
    gave_going x some = go old.ended refl
      where
        go : (e : Bool) → old.ended ≡ e → old.ended ≡ false
        go false is = is
        go true is = (let none = (says.ended is).0 in absurd (cc (some, none)))

    pub went_of : Went seal size g told old new b c
    went_of = record {
      same = says.same;
      begun = was_going;
      onward = says.onward;
      stays = says.stays;
      floors = says.floors;
      bytes = says.bytes;
      items = says.items;
      unsettled = says.unsettled;
      moments = says.moments;
    }

    fine_ended : IsFine result → new.ended ≡ old.ended
    fine_ended fine = same_bool new.ended old.ended (λ is. back (says.ends is)) ended_on
      where
        back : (old.ended ≡ true) ⊎ ((e : Error) × (result ≡ Some (Err e)) × ((HasDamage {T = V} (Err e) × (told → ⊥)) ⊎ HasFailed {T = V} (Err e) few many)) → old.ended ≡ true
        back (inl is) = is
        back (inr bad) = elim fine [
          | inl none ↦ (let at = bad.1 in absurd (cc (none, at)))
          | inr some ↦ (let at = bad.1 in let is = some.1 in absurd (cc (is, at)))
        ]

    fine_failed : IsFine result → new.failed ≡ old.failed
    fine_failed (inl none) = says.whole none
    fine_failed (inr some) = says.going some.0.0 some.0.1 some.0.2 some.1

    pub goes_of : IsFine result → Goes seal size g told old new b c
    goes_of fine = record { ended = fine_ended fine; failed = fine_failed fine; known = says.known fine; held = says.held fine; later = says.later fine }

    -- an error is no answer without one
    pub failed_later : new.failed ≡ false → old.failed ≡ false
    failed_later ok = go result refl
      where
        go : (r : Option (Result (ℕ × ℕ × V) Error)) → result ≡ r → old.failed ≡ false
        go None is = sym (says.whole is) ∙ ok
        go (Some (Ok x)) is = sym (says.going x.0 x.1 x.2 is) ∙ ok
        go (Some (Err e)) is = absurd (cc (ok, says.failed e is))

    -- no section is lost where none was, unless it has failed
    pub known_later : new.failed ≡ false → (s : ℕ) → new.journal.sections.unopened s ≡ old.journal.sections.unopened s
    known_later ok = go result refl
      where
        go : (r : Option (Result (ℕ × ℕ × V) Error)) → result ≡ r → (s : ℕ) → new.journal.sections.unopened s ≡ old.journal.sections.unopened s
        go None is = says.known (inl is)
        go (Some (Ok x)) is = says.known (inr (x, is))
        go (Some (Err e)) is = absurd (cc (ok, says.failed e is))
