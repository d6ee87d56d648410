-- What the calls of a cursor give to a driver: the replay goes on, no floor changes, and a section may be cut once more.
use Rattle.std.specs.Prelude.{◌≡◌, ◌↔◌, ℕ, ◌+◌, ◌*◌, ◌<◌, ◌≤◌, eqb, cond, Bool, true, false, List, length, Option, None, Some, Result, Ok, Err, OnOk, OnErr, IsTrue, IsSome, IsSomeAnd, IfSome}
use Rattle.std.proofs.Common.{inl, inr, refl, sym, ◌∙◌, ap, subst, arith}
use Rattle.std.proofs.lemmas.Bool.Decides.{eqb_tells}
use Rattle.blob_device.proofs.general.Options.{the_some, some_of, same_some, some_same}
use Rattle.blob_device.specs.Disk.{Disk}
use Rattle.blob_device.specs.MemoryMeaning.{memory_opened, memory_time}
use Rattle.blob_device.specs.Opened.{OpenedList}
use Rattle.blob_device.specs.Timeline.{Timeline, disk}
use Rattle.blob_device.specs.lemmas.Moments.{always_now}
use Rattle.blob_device.specs.declared.memory.Memory.{Memory}
use Rattle.sealed_pages.specs.Buffer.{size_of, IsSealed}
use Rattle.sealed_pages.specs.Reading.{Unchanged}
use Rattle.sealed_pages.specs.Shown.{shown}
use Rattle.sealed_pages.specs.declared.page_blob.PageBlob.{PageBlob}
use Rattle.section_manager.specs.Sections.{section_key, key_of, IsHeld, IsOver}
use Rattle.section_manager.specs.Setting.{Setting}
use Rattle.section_manager.specs.declared.buffer.SectionBuffer as buffer
use Rattle.section_manager.specs.declared.journal.Error.{Error}
use Rattle.section_manager.specs.declared.sealed.AppendFactory.{AppendFactory}
use Rattle.segments.specs.FixedCursor.{leaving, IsFilled, MayBeShortened, Turns}
use Rattle.segments.specs.FixedLists.{Lists, size_held}
use Rattle.segments.specs.FixedReplay.{Place, Walk, HasWalk, IsReadWhole, IsWalk, SameWalk, first_of, kept_bytes}
use Rattle.segments.specs.FixedStepping.{failing, OnlySections}
use Rattle.value_codec.specs.contracts.seal.Sha256SealSeal.TheImpl as seal
use Rattle.value_codec.specs.declared.seal.Sha256Seal.{Sha256Seal}
use Rattle.segments_tests.specs.Cursors.{SealedWalk, SameFloors, MayGoOn, noted, stands_in, HasPassed, HasGoneOver, IsBetween}

eqb_is : (a b : ℕ) → a ≡ b → eqb a b ≡ true
eqb_is a b same = elim (eqb_tells a b) [ inl is ↦ is.0 | inr other ↦ absurd (other.1 same) ]

floor_same : {F B : Type 0} (j k : Lists F B) → j ≡ k → (s : ℕ) → j.floor_of s ≡ k.floor_of s
floor_same {F = F} {B = B} j k same s = ap (λ (x : Lists F B). x.floor_of s) same

module _ {F S : Type 0} {gs : _} where
  -- a replay that was turned into one of the same journal goes on
  pub turned_on : (g : buffer.Ghosts (PageBlob S gs)) (gives : F → Setting) (seal : List ℕ → ℕ) (size : ℕ) (told : Type 0) (opened : OpenedList) (d : Disk) (to old new : Walk F (PageBlob S gs))
      → to.journal ≡ old.journal → Turns seal size to old new → IsWalk g gives seal size told old opened d → IsWalk g gives seal size told new opened d
  turned_on g gives seal size told opened d to old new same turns goes = record {
    over = subst (λ (j : Lists F (PageBlob S gs)). IsOver g gives told j.sections opened d) (sym (ap (λ (w : Walk F (PageBlob S gs)). w.journal) turns.goes ∙ same)) goes.over;
    walk = turns.walk goes.walk;
    disk = λ t. turns.walks d (goes.disk t);
  }

  module _ (old mid : Walk F (PageBlob S gs)) (r : Place) (filled : IsSomeAnd mid.place (IsFilled old mid r)) where
    q : (y : Place) × (mid.place ≡ Some y) × IsFilled old mid r y
    q = the_some mid.place filled

    -- where bytes were read ahead the journal is the same
    pub filled_journal : mid.journal ≡ old.journal
    filled_journal = ap (λ (w : Walk F (PageBlob S gs)). w.journal) q.2.goes

    pub filled_ended : mid.ended ≡ old.ended
    filled_ended = ap (λ (w : Walk F (PageBlob S gs)). w.ended) q.2.goes

    pub filled_stands : IsSome mid.place
    filled_stands = subst IsSome (sym q.1) refl

    -- it stands where it stood
    pub filled_place : (y : Place) → mid.place ≡ Some y → (y.section ≡ r.section) × (y.position ≡ r.position)
    filled_place y at = let same : y ≡ q.0 = same_some mid.place q.0 y q.1 at in (ap (λ (x : Place). x.section) same ∙ q.2.section, ap (λ (x : Place). x.position) same ∙ q.2.position)

    -- what is kept from the place on is as before
    pub filled_last : (seal : List ℕ → ℕ) (size : ℕ) (from to : Timeline) → Unchanged from to → length (kept_bytes seal size old (disk from) r.section) < (r.position + 1) * size
        → IfSome mid.place (λ (y : Place). length (kept_bytes seal size mid (disk to) y.section) < (y.position + 1) * size)
    filled_last seal size from to unchanged short =
        let still : disk to ≡ disk from = always_now from to (λ (x : Disk). x ≡ disk from) unchanged in
        let kept : kept_bytes seal size mid (disk to) q.0.section ≡ kept_bytes seal size old (disk from) r.section =
        (λ i. kept_bytes seal size (q.2.goes i) (still i) (q.2.section i)) in
        subst (λ (o : Option Place). IfSome o (λ (y : Place). length (kept_bytes seal size mid (disk to) y.section) < (y.position + 1) * size)) (sym q.1)
        (subst (λ (n : ℕ). length (kept_bytes seal size mid (disk to) q.0.section) < (n + 1) * size) (sym q.2.position)
        (subst (λ (l : List ℕ). length l < (r.position + 1) * size) (sym kept) short))

  module _ (seal : List ℕ → ℕ) (told : Type 0) (mid new : Walk F (PageBlob S gs)) (y : Place) (at : mid.place ≡ Some y) (d : Disk) (walk : HasWalk 8 mid) (same : SameWalk mid new)
      (held : (s : ℕ) → IsHeld new.journal.sections s ↔ IsHeld mid.journal.sections s) (section keep : ℕ) (here : section ≡ y.section) (owes : IsTrue (new.journal.unrecovered section)) where
    owed : IsTrue (mid.journal.unrecovered y.section)
    owed = subst (λ (s : ℕ). IsTrue (mid.journal.unrecovered s)) here (subst IsTrue (same.unrecovered section) owes)

    still_held : IsHeld new.journal.sections section
    still_held = (held section).1 (subst (IsHeld mid.journal.sections) (sym here) (let u = the_some (mid.journal.sections.held y.section) (walk.place y at) in subst IsSome (sym u.1) refl))

    -- a section that owed a replay, and was ended, may be cut to fewer items, but not below its floor
    pub may_shorten : new.place ≡ None → new.next_section ≡ mid.next_section
        → ((v : PageBlob S gs) → IsTrue (mid.journal.unrecovered y.section) → new.journal.sections.held y.section ≡ Some v → size_of (shown v) ≡ y.position * 8)
        → (told → (v : PageBlob S gs) → IsReadWhole mid y.section → new.journal.sections.held y.section ≡ Some v → IsSealed seal (shown v) (d (key_of mid.journal.sections y.section)))
        → keep < y.position → new.journal.floor_of section ≤ keep * 8 → first_of new section ≤ keep → MayBeShortened seal 8 told section (keep * 8) new d
    may_shorten between next cut sealed fewer floor first = record {
      held = still_held;
      owes = owes;
      between = between;
      not_ahead = λ ahead. (walk.come_to y at).1 (subst (λ (s : ℕ). IsSomeAnd mid.next_section (λ n. n ≤ s)) here (subst (λ (o : Option ℕ). IsSomeAnd o (λ n. n ≤ section)) next ahead));
      sealed = λ t v is. subst (λ (p : List ℕ). IsSealed seal (shown v) (d (section_key p section))) (sym same.bounds.place.partition)
          (subst (λ (s : ℕ). IsSealed seal (shown v) (d (key_of mid.journal.sections s))) (sym here) (sealed t v (inl owed) (subst (λ (s : ℕ). new.journal.sections.held s ≡ Some v) here is)));
      whole = omega arith;
      within =
          let u = some_of (new.journal.sections.held section) still_held in
          let long : size_of (shown u.0) ≡ y.position * 8 = cut u.0 owed (subst (λ (s : ℕ). new.journal.sections.held s ≡ Some u.0) here u.1) in
          subst (λ (o : Option (PageBlob S gs)). keep * 8 ≤ size_held o) (sym u.1) (omega (arith, long, fewer));
      floor = floor;
      start = λ begins. let at_start : new.start_position ≤ keep = subst (λ (b : Bool). cond b new.start_position 0 ≤ keep) (eqb_is section new.start_section begins) first in omega (arith, at_start);
    }

-- what holds of a value that is there
pub if_some : {A : Type 0} (P : A → Type 0) (o : Option A) → IsSomeAnd o P → IfSome o P
if_some P None has = tt
if_some P (Some x) has = has

-- an error of a fill ends the section
pub passed_err : {T : Type 0} (dev : Memory) (r : Result T Error) (e : Error) (old new : SealedWalk) → r ≡ Err e → MayGoOn dev (failing new) → new ≡ leaving old → HasPassed dev r old new
passed_err {T = T} dev r e old new is goes dropped = subst (λ (x : Result T Error). HasPassed dev x old new) (sym is) (record {
  goes = goes;
  going = tt;
  left = ap (λ (w : SealedWalk). w.place) dropped;
  floors = λ s. ap (λ (w : SealedWalk). w.journal.floor_of s) dropped;
})

module _ {T : Type 0} (dev : Memory) (x : T) (old mid : SealedWalk) (r : Place) (filled : IsSomeAnd mid.place (IsFilled old mid r)) (going : old.ended ≡ false) (goes : MayGoOn dev mid) where
  pub passed_filled : HasPassed dev (Ok x) old mid
  passed_filled = record {
    goes = goes;
    going = filled_ended old mid r filled ∙ going;
    left = tt;
    floors = λ s. floor_same mid.journal old.journal (filled_journal old mid r filled) s;
  }

  -- then it was turned into one of the same journal
  pub passed_turned : (to new : SealedWalk) → to.journal ≡ mid.journal → to.ended ≡ mid.ended → Turns seal.ghosts.seal_of 8 to mid new → HasPassed dev (Ok x) old new
  passed_turned to new same ended turns = record {
    goes = turned_on _ _ seal.ghosts.seal_of 8 (Unit {0}) (memory_opened dev) (disk (memory_time dev)) to mid new same turns goes;
    going = ap (λ (w : SealedWalk). w.ended) turns.goes ∙ ended ∙ filled_ended old mid r filled ∙ going;
    left = tt;
    floors = λ s. ap (λ (w : SealedWalk). w.journal.floor_of s) turns.goes ∙ floor_same to.journal old.journal (same ∙ filled_journal old mid r filled) s;
  }

-- one group behind others
module _ {T U : Type 0} (at now : Memory) (x : U) (old mid new : SealedWalk) (before : HasPassed at (Ok x) old mid) where
  pub passed_on : (r : Result T Error) → HasPassed now r mid new → HasPassed now r old new
  passed_on r after = record { goes = after.goes; going = after.going; left = after.left; floors = λ s. after.floors s ∙ before.floors s }

-- an answer of another kind
pub passed_as : {T U : Type 0} (dev : Memory) (x : T) (y : U) (old new : SealedWalk) → HasPassed dev (Ok x) old new → HasPassed dev (Ok y) old new
passed_as dev x y old new passed = record { goes = passed.goes; going = passed.going; left = tt; floors = passed.floors }

pub passed_fails : {T U : Type 0} (dev : Memory) (r : Result U Error) (e : Error) (old new : SealedWalk) → r ≡ Err e → HasPassed {T = T} dev (Err e) old new → HasPassed dev r old new
passed_fails {U = U} dev r e old new is passed = subst (λ (x : Result U Error). HasPassed dev x old new) (sym is) (record { goes = passed.goes; going = tt; left = passed.left; floors = passed.floors })

-- a section was left behind an error
pub gone_failed : (dev : Memory) (r : Result (Unit {0}) Error) (e : Error) (old new : SealedWalk) → r ≡ Err e → MayGoOn dev (failing new) → new.place ≡ None → SameFloors old new → HasGoneOver dev r old new
gone_failed dev r e old new is goes between floors = subst (λ (x : Result (Unit {0}) Error). HasGoneOver dev x old new) (sym is) (record { goes = goes; between = between; floors = floors })

-- calls before one that went over a section
pub gone_after : (dev : Memory) (r : Result (Unit {0}) Error) (old mid new : SealedWalk) → SameFloors old mid → HasGoneOver dev r mid new → HasGoneOver dev r old new
gone_after dev r old mid new before gone = record { goes = gone.goes; between = gone.between; floors = λ s. gone.floors s ∙ before s }

-- one section behind others
pub over_then : (at now : Memory) (section keep : ℕ) (old new : SealedWalk) → IsBetween at section keep old → HasGoneOver now (Ok tt) old new → IsBetween now section keep new
over_then at now section keep old new before gone = record { goes = gone.goes; between = gone.between; floor = subst (λ (n : ℕ). n ≤ keep * 8) (sym (gone.floors section)) before.floor }

-- it went well
pub over_well : (dev : Memory) (r : Result (Unit {0}) Error) (u : Unit {0}) (old new : SealedWalk) → r ≡ Ok u → HasGoneOver dev r old new → HasGoneOver dev (Ok tt) old new
over_well dev r u old new is gone = subst (λ (x : Result (Unit {0}) Error). HasGoneOver dev x old new) is gone

-- an error was noted
pub over_noted : (dev : Memory) (r : Result (Unit {0}) Error) (e : Error) (old mid new : SealedWalk) → r ≡ Err e → HasGoneOver dev r old mid → new ≡ failing mid → HasGoneOver dev (Ok tt) old new
over_noted dev r e old mid new is gone noted = let failed : HasGoneOver dev (Err e) old mid = subst (λ (x : Result (Unit {0}) Error). HasGoneOver dev x old mid) is gone in record {
  goes = subst (MayGoOn dev) (sym noted) failed.goes;
  between = ap (λ (w : SealedWalk). w.place) noted ∙ failed.between;
  floors = λ s. ap (λ (w : SealedWalk). w.journal.floor_of s) noted ∙ failed.floors s;
}

-- where it stands, from what `place` answers
pub at_place : (o : Option Place) (s p : ℕ) → stands_in o ≡ Some (s, p) → (y : Place) × (o ≡ Some y) × (y.section ≡ s) × (y.position ≡ p)
at_place None s p is = absurd (cc is)
at_place (Some y) s p is = let same = some_same {T = ℕ × ℕ} (y.section, y.position) (s, p) is in (y, refl, ap (λ (x : ℕ × ℕ). x.0) same, ap (λ (x : ℕ × ℕ). x.1) same)

pub no_place : (o : Option Place) → stands_in o ≡ None → o ≡ None
no_place None is = refl
no_place (Some y) is = absurd (cc is)

-- an error of a fill leaves the section
pub gone_dropped : (dev : Memory) (r : Result (Unit {0}) Error) (e : Error) (old new : SealedWalk) → r ≡ Err e → MayGoOn dev (failing new) → new ≡ leaving old → HasGoneOver dev r old new
gone_dropped dev r e old new is goes dropped = gone_failed dev r e old new is goes (ap (λ (w : SealedWalk). w.place) dropped) (λ s. ap (λ (w : SealedWalk). w.journal.floor_of s) dropped)

-- a section of which more is left is left
pub gone_left : (dev : Memory) (old mid new : SealedWalk) (r : Place) → IsSomeAnd mid.place (IsFilled old mid r) → MayGoOn dev mid → Turns seal.ghosts.seal_of 8 (failing (leaving mid)) mid new → HasGoneOver dev (Ok tt) old new
gone_left dev old mid new r filled goes turns = record {
  goes = turned_on _ _ seal.ghosts.seal_of 8 (Unit {0}) (memory_opened dev) (disk (memory_time dev)) (failing (leaving mid)) mid new refl turns goes;
  between = ap (λ (w : SealedWalk). w.place) turns.goes;
  floors = λ s. ap (λ (w : SealedWalk). w.journal.floor_of s) turns.goes ∙ floor_same mid.journal old.journal (filled_journal old mid r filled) s;
}

-- the floors behind a fill and the end of the section
pub floors_then : (old mid new : SealedWalk) (r : Place) → IsSomeAnd mid.place (IsFilled old mid r) → SameFloors mid new → SameFloors old new
floors_then old mid new r filled floors s = floors s ∙ floor_same mid.journal old.journal (filled_journal old mid r filled) s

-- the section is cut once more
pub gone_cut : (dev : Memory) (r : Result (Unit {0}) Error) (old mid new : SealedWalk) → SameFloors old mid → mid.place ≡ None → OnOk r (MayGoOn dev new) → OnErr r (MayGoOn dev (failing new)) → OnlySections mid new → HasGoneOver dev r old new
gone_cut dev r old mid new before between over broken rest = record {
  goes = go r over broken;
  between = rest.place ∙ between;
  floors = λ s. rest.floors s ∙ before s;
}
  where
    go : (x : Result (Unit {0}) Error) → OnOk x (MayGoOn dev new) → OnErr x (MayGoOn dev (failing new)) → MayGoOn dev (noted x new)
    go (Ok u) over broken = over
    go (Err e) over broken = broken

-- the place behind a fill is the one that was asked for
pub stands_at : (old mid : SealedWalk) (y z : Place) (section position : ℕ) → IsSomeAnd mid.place (IsFilled old mid y) → y.section ≡ section → y.position ≡ position → mid.place ≡ Some z → (section ≡ z.section) × (position ≡ z.position)
stands_at old mid y z section position filled s p at = let same = filled_place old mid y filled z at in (sym (same.0 ∙ s), sym (same.1 ∙ p))

-- the floor of the section of the plan
pub floor_here : (old new : SealedWalk) (section named keep : ℕ) → section ≡ named → SameFloors old new → old.journal.floor_of named ≤ keep * 8 → new.journal.floor_of section ≤ keep * 8
floor_here old new section named keep is floors low = subst (λ (n : ℕ). n ≤ keep * 8) (sym (floors section)) (subst (λ (s : ℕ). old.journal.floor_of s ≤ keep * 8) (sym is) low)

-- a replay that begins stands between two sections
pub between_start : (dev : Memory) (section keep : ℕ) (w : SealedWalk) (j : Lists (AppendFactory Sha256Seal) (PageBlob Sha256Seal seal.ghosts)) → MayGoOn dev w → w.place ≡ None → w.journal ≡ j → j.floor_of section ≤ keep * 8 → IsBetween dev section keep w
between_start dev section keep w j goes between same low = record { goes = goes; between = between; floor = subst (λ (n : ℕ). n ≤ keep * 8) (sym (floor_same w.journal j same section)) low }
