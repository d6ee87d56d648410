-- A fill and the end of a section, from a replay that stands in one.
use Rattle.std.specs.Prelude.{◌≡◌, ◌⊎◌, ℕ, ◌+◌, ◌*◌, ◌^◌, ◌<◌, ◌≤◌, Bool, true, false, List, length, IsTrue, Option, Some, Result, Ok, Err}
use Rattle.std.proofs.Common.{inl, inr, refl, sym, ◌∙◌, subst, arith}
use Rattle.std.proofs.lemmas.Bool.{cases_lt}
use Rattle.std.proofs.lemmas.Result.{IfOk-at_ok}
use Rattle.blob_device.specs.Disk.{Key, Blob, Disk}
use Rattle.blob_device.specs.Opened.{OpenedList}
use Rattle.blob_device.specs.Timeline.{Timeline, disk}
use Rattle.blob_device.specs.declared.device.Device as device
use Rattle.blob_device.specs.declared.runtime.RError.{RError}
use Rattle.blob_device.specs.declared.runtime.RError.TheVariants.{InvalidChecksum}
use Rattle.sealed_pages.specs.Buffer.{size_of}
use Rattle.sealed_pages.specs.Entries.{IsOpenAt}
use Rattle.sealed_pages.specs.Readers.{Reader, IsReplayOf, missing_of, next_of}
use Rattle.sealed_pages.specs.Reads.{IsShort}
use Rattle.sealed_pages.specs.Replays.{Ensures}
use Rattle.sealed_pages.specs.Shown.{shown}
use Rattle.sealed_pages.specs.Unrecovered.{IsAdopted}
use Rattle.sealed_pages.specs.declared.page_blob.PageBlob.{PageBlob}
use Rattle.sealed_pages.specs.lemmas.memory.Holding.{fit_size}
use Rattle.value_codec.specs.declared.codec.Error as codec
use Rattle.section_manager.specs.Refusing.{HasDamage, HasFailed}
use Rattle.section_manager.specs.Sections.{key_of}
use Rattle.section_manager.specs.Setting.{Setting}
use Rattle.section_manager.specs.declared.buffer.SectionBuffer as buffer
use Rattle.section_manager.specs.declared.journal.Error.{Error}
use Rattle.section_manager.specs.declared.journal.Error.TheVariants.{ItemOutOfRange, Runtime}
use Rattle.segments.specs.FixedCursor.{leaving, Ends, Fills, IsFoundShort}
use Rattle.segments.specs.FixedReplay.{Place, Walk, IsWalk, kept_bytes}
use Rattle.segments.specs.FixedStepping.{standing, EndsAt}
use Rattle.segments.proofs.replay.Ends.{ends_kept}
use Rattle.segments.proofs.replay.Filling.{fills_as, filled, filled_failed, filled_out, filled_short, found_short, never_ok, page_is, same_ok}
use Rattle.segments.proofs.replay.Going.{ends_as}
use Rattle.segments.proofs.replay.Reading.{end_uncut, end_refused, here}
use Rattle.segments.proofs.replay.Running.{ok_at, walk_same}
use Rattle.blob_device.proofs.general.Options.{some_same}

module _ {F S : Type 0} {gs : _} (seal : List ℕ → ℕ) (size : ℕ) (g : buffer.Ghosts (PageBlob S gs)) (gives : F → Setting) {told : Type 0} (old : Walk F (PageBlob S gs)) (r : Place) (at : old.place ≡ Some r) (opened : OpenedList) (d : Disk)
    (over : IsWalk g gives seal size told old opened d) where
  pub back : standing (leaving old) r ≡ old
  back = λ i. record old { place = sym at i }

  -- it goes on from its place
  pub there : IsWalk g gives seal size told (standing (leaving old) r) opened d
  there = walk_same seal size g gives opened d (sym back) over

  -- whose blob is opened
  pub place_open : ((u : PageBlob S gs) → g.extent u ≡ u.end) → IsOpenAt opened r.reader.key r.reader.end
  place_open extents = (let h = here seal size g gives (leaving old) r opened d there in
      subst (λ (k : Key). IsOpenAt opened k r.reader.end) (sym h.2.key)
      (subst (λ (n : ℕ). IsOpenAt opened (key_of old.journal.sections r.section) n) (extents h.0 ∙ sym h.2.end) (there.over.opened_list.is_open r.section h.0 h.1)))

  -- and takes no more than a u64 counts
  pub place_small : r.position * size < 2 ^ 64
  place_small = (let h = here seal size g gives (leaving old) r opened d there in omega (arith, h.2.within, fit_size _ _ _ _ h.0.fit))

-- ---- a fill
module _ {F S D : Type 0} {gs : _} (seal : List ℕ → ℕ) (size : ℕ) (g : buffer.Ghosts (PageBlob S gs)) (gives : F → Setting) (dev : device.Ghosts D) (adopt : (u : PageBlob S gs) (b : Blob) → g.Stands u b → IsAdopted seal (shown u) b) (pos : 1 ≤ size)
    (old : Walk F (PageBlob S gs)) (r x : Place) (at : old.place ≡ Some r) (own : old.place ≡ Some x) (from to : D) (over : IsWalk g gives seal size dev.Tells old (dev.opened from) (disk (dev.time from))) (count n : ℕ) (wanted : n ≡ count * size)
    (more : Reader) (result : Result Bool RError) (e : Ensures dev seal r.reader more from to n result) where
  abbrev w : Walk F (PageBlob S gs)
  w = leaving old

  abbrev was : IsWalk g gives seal size dev.Tells (standing w r) (dev.opened from) (disk (dev.time from))
  was = there seal size g gives old r at (dev.opened from) (disk (dev.time from)) over

  abbrev on : Place
  on = record { section = r.section; position = r.position; reader = more }

  same : r ≡ x
  same = some_same r x (sym at ∙ own)

  named : (answer : Result Bool Error) (new now : Walk F (PageBlob S gs)) → new ≡ now → Fills seal size g gives dev count r answer (standing w r) new from to → Fills seal size g gives dev count x answer old now from to
  named answer new now last did = fills_as seal size g gives dev count r x answer (standing w r) old new now from to same (back seal size g gives old r at (dev.opened from) (disk (dev.time from)) over) last did

  -- the reader has what it was asked for, or no more
  pub fills_read : (enough : Bool) → result ≡ Ok enough → Fills seal size g gives dev count x (Ok enough) old (standing w on) from to
  fills_read enough is =
      let exact = IfOk-at_ok _ is e.exact in
      named (Ok enough) (standing w on) (standing w on) refl
      (filled seal size g gives dev w r more from to count _ was adopt pos e.same e.grows e.replays e.unchanged e.reads e.faults e.within (ok_at result enough is e.once) enough
      (λ yes. omega (arith, IfOk-at_ok _ is e.at_hand yes, wanted))
      (λ few. (let got = e.ready (omega (arith, few, wanted)) in (got.0, same_ok result enough true is got.1)))
      (λ no. filled_out seal size g gives dev w r more from to count _ was adopt pos e.same e.grows e.replays e.unchanged e.reads e.faults (IfOk-at_ok _ is e.rest no)
      (elim (cases_lt r.reader.size (r.reader.at + count * size)) [
        | inl lt ↦ lt
        | inr le ↦ absurd (cc (no, exact.1 (omega (arith, le, wanted))))
      ])))

  module _ (k : ℕ) (is : result ≡ Err (InvalidChecksum k)) where
    short : dev.Tells → IsReplayOf seal (disk (dev.time from) r.reader.key).content r.reader → IsShort seal r.reader.page_size (disk (dev.time from) r.reader.key).content (next_of r.reader) (missing_of r.reader (count * size)) k
    short t replay = subst (λ (m : ℕ). IsShort seal r.reader.page_size (disk (dev.time from) r.reader.key).content (next_of r.reader) (missing_of r.reader m) k) wanted (e.checksum t replay k is)

    -- a page is damaged, of a section that owes a replay
    pub fills_owed : IsTrue (old.journal.unrecovered r.section) → Fills seal size g gives dev count x (Ok false) old (standing w on) from to
    fills_owed owed = named (Ok false) (standing w on) (standing w on) refl
        (filled seal size g gives dev w r more from to count _ was adopt pos e.same e.grows e.replays e.unchanged e.reads e.faults e.within (e.judged k is) false (λ yes. absurd (cc yes))
        (λ few. absurd (never_ok result (InvalidChecksum k) true is (e.ready (omega (arith, few, wanted))).1))
        (λ no. filled_short seal size g gives dev w r more from to count _ was adopt pos e.same e.grows e.replays e.unchanged e.reads e.faults k short owed))

    -- or of any other
    pub fills_free : (now : Walk F (PageBlob S gs)) → leaving old ≡ now → old.journal.unrecovered r.section ≡ false → Fills seal size g gives dev count x (Err (Runtime (InvalidChecksum k))) old now from to
    fills_free now left free = named (Err (Runtime (InvalidChecksum k))) w now left
        (filled_failed seal size g gives dev w r more from to count _ was adopt pos e.same e.grows e.replays e.unchanged e.reads e.faults refl _ (inl (k, refl))
        (λ t j page. subst (IsFoundShort seal size count (standing w r) r (disk (dev.time from))) (page_is k j page)
        (found_short seal size g gives dev w r more from to count _ was adopt pos e.same e.grows e.replays e.unchanged e.reads e.faults k short free t))
        (λ few. never_ok result (InvalidChecksum k) true is (e.ready (omega (arith, few, wanted))).1))

  -- or the device failed
  pub fills_failed : (now : Walk F (PageBlob S gs)) → leaving old ≡ now → (raw : RError) (y : Error) → result ≡ Err raw → HasDamage {T = Bool} (Err y) ⊎ HasFailed {T = Bool} (Err y) (dev.faults from) (dev.faults to) → ((k : ℕ) → y ≡ Runtime (InvalidChecksum k) → ⊥)
      → Fills seal size g gives dev count x (Err y) old now from to
  fills_failed now left raw y is cause sound = named (Err y) w now left
      (filled_failed seal size g gives dev w r more from to count _ was adopt pos e.same e.grows e.replays e.unchanged e.reads e.faults refl y cause (λ t k page. absurd (sound k page))
      (λ few. never_ok result raw true is (e.ready (omega (arith, few, wanted))).1))

-- ---- the end of a section
module _ {F S V : Type 0} {gs : _} (seal : List ℕ → ℕ) (size : ℕ) (g : buffer.Ghosts (PageBlob S gs)) (gives : F → Setting) (spelling : V → List ℕ) (accepted : V → Unit {0} → Type 0) (refusal : List ℕ → Unit {0} → Option codec.Error) {told : Type 0}
    (adopt : (u : PageBlob S gs) (b : Blob) → g.Stands u b → IsAdopted seal (shown u) b) (pos : 1 ≤ size) (old : Walk F (PageBlob S gs)) (r x : Place) (at : old.place ≡ Some r) (own : old.place ≡ Some x) (opened : OpenedList) (now : Timeline) (faults : ℕ)
    (over : IsWalk g gives seal size told old opened (disk now))
    (last : told → length (kept_bytes seal size old (disk now) r.section) < (r.position + 1) * size) where
  abbrev rest : Walk F (PageBlob S gs)
  rest = leaving old

  abbrev stays : IsWalk g gives seal size told (standing rest r) opened (disk now)
  stays = there seal size g gives old r at opened (disk now) over

  -- what is to be cut stands behind the place
  pub ends_cut : (r.position * size < r.reader.size) → told → EndsAt seal size (standing rest r) (disk now) r true
  ends_cut more = ends_kept seal size g gives rest r opened (disk now) stays adopt pos last true (λ no. absurd (cc no)) (λ yes. (let h = here seal size g gives rest r opened (disk now) stays in omega (arith, more, h.2.blob_size)))

  -- nothing is to be cut
  module _ (all : IsTrue (old.journal.unrecovered r.section) → r.position * size < r.reader.size → ⊥) where
    empty : IsTrue (old.journal.unrecovered r.section) → size_of (shown (here seal size g gives rest r opened (disk now) stays).0) ≤ r.position * size
    empty owed = (let h = here seal size g gives rest r opened (disk now) stays in elim (cases_lt (r.position * size) r.reader.size) [
      | inl lt ↦ absurd (all owed lt)
      | inr le ↦ omega (arith, le, h.2.blob_size)
    ])

    ends : told → EndsAt seal size (standing rest r) (disk now) r false
    ends = ends_kept seal size g gives rest r opened (disk now) stays adopt pos last false (λ no. empty) (λ yes. absurd (cc yes))

    module _ (new : Walk F (PageBlob S gs)) (left : leaving old ≡ new) where
      as_ended : (result : Result (Unit {0}) Error) → Ends seal size g gives spelling accepted refusal told result (standing rest r) rest opened opened now now faults faults r → Ends seal size g gives spelling accepted refusal told result old new opened opened now now faults faults x
      as_ended result did = ends_as seal size g gives spelling accepted refusal told result (standing rest r) old rest new opened opened now now faults faults r x (some_same r x (sym at ∙ own)) (back seal size g gives old r at opened (disk now) over) left did

      -- the start is behind its end
      pub ends_refused : r.section ≡ old.start_section → r.position < old.start_position → Ends seal size g gives spelling accepted refusal told (Err (ItemOutOfRange old.start_position)) old new opened opened now now faults faults x
      ends_refused start fewer = as_ended (Err (ItemOutOfRange old.start_position)) (record {
        steps = end_refused seal size g gives rest r opened now stays spelling accepted refusal refl _ _ (omega arith) pos ends start fewer;
        left = refl;
        next = refl;
        cut = tt;
        sealed = λ t. tt;
      })

      pub ends_whole : (r.section ≡ old.start_section → old.start_position ≤ r.position) → Ends seal size g gives spelling accepted refusal told (Ok tt) old new opened opened now now faults faults x
      ends_whole begun = as_ended (Ok tt) (record {
        steps = end_uncut seal size g gives rest r opened now stays spelling accepted refusal refl _ _ (omega arith) pos ends begun;
        left = refl;
        next = refl;
        cut = λ v owed held. (let h = here seal size g gives rest r opened (disk now) stays in
            subst (λ (y : PageBlob S gs). size_of (shown y) ≡ r.position * size) (some_same h.0 v (sym h.1 ∙ held)) (omega (arith, empty owed, h.2.within)));
        sealed = λ t v read held. ((ends t).whole refl read v held).0;
      })
