-- What holds of an opening's walk while its records are entered, and what its end, or an error, leaves.
use Rattle.std.specs.Prelude.{◌≡◌, ℕ, ◌+◌, ◌^◌, ◌<◌, ◌≤◌, true, false, List, Option, None, Result}
use Rattle.std.proofs.Common.{inl, inr, refl, sym, ◌∙◌, subst, arith}
use Rattle.std.proofs.lemmas.Bool.{false≢true}
use Rattle.blob_device.specs.Opened.{OpenedList, reads_of}
use Rattle.blob_device.specs.Timeline.{Timeline, disk}
use Rattle.value_codec.specs.declared.codec.Error as codec
use Rattle.sealed_pages.specs.declared.page_blob.PageBlob.{PageBlob}
use Rattle.section_manager.specs.declared.buffer.SectionBuffer as buffer
use Rattle.section_manager.specs.declared.journal.Error.{Error}
use Rattle.section_manager.specs.declared.unsealed.WriteFactory.{WriteFactory}
use Rattle.section_manager.specs.Sections.{IsHeld, SameBounds, section_key}
use Rattle.section_manager.specs.Setting.{Setting}
use Rattle.segments.specs.FixedReplay.{IsDrained}
use Rattle.meta_store.specs.Store.{contents_of}
use Rattle.paired.specs.Kept.{Layout}
use Rattle.paired.specs.ReplayShown.{run_of}
use Rattle.paired.specs.sighted.Shown.{marker_format}
use Rattle.paired.specs.declared.oversized.replaying.Replay.{Replay}
use Rattle.paired.specs.Replaying.{HasFailed, IsRun, LeftAtMost, Run, SameRun, records_given}
use Rattle.paired.specs.lemmas.Glob.{buffers}
use Rattle.paired.specs.lemmas.next.Clauses.{Clauses}
use Rattle.archives.proofs.opening.Walk.{Moves, Stays, moves_index, moves_start, moves_then, stays_start, stays_then}

-- ---- the same replay
same_bounds : {F B : Type 0} (old mid new : Run F B) → SameBounds old.walk.journal.sections mid.walk.journal.sections → SameBounds mid.walk.journal.sections new.walk.journal.sections
    → SameBounds old.walk.journal.sections new.walk.journal.sections
same_bounds old mid new first second = record {
  place = record { partition = second.place.partition ∙ first.place.partition; factory = second.place.factory ∙ first.place.factory };
  floor = second.floor ∙ first.floor;
  ceiling = second.ceiling ∙ first.ceiling;
}

pub same_then : {F B : Type 0} (old mid new : Run F B) → SameRun old mid → SameRun mid new → SameRun old new
same_then old mid new first second = record {
  layout = record {
    index = second.layout.index ∙ first.layout.index;
    values = second.layout.values ∙ first.layout.values;
    marked = second.layout.marked ∙ first.layout.marked;
    metadata = second.layout.metadata ∙ first.layout.metadata;
    page_size = second.layout.page_size ∙ first.layout.page_size;
  };
  walk = record {
    bounds = same_bounds old mid new first.walk.bounds second.walk.bounds;
    unrecovered = λ s. second.walk.unrecovered s ∙ first.walk.unrecovered s;
    floors = λ s. second.walk.floors s ∙ first.walk.floors s;
    section = second.walk.section ∙ first.walk.section;
    position = second.walk.position ∙ first.walk.position;
  };
  values = second.values ∙ first.values;
  store = second.store ∙ first.store;
  trailing = second.trailing ∙ first.trailing;
  tracked = second.tracked ∙ first.tracked;
  later = λ failed. second.later (first.later failed);
}

pub same_start : {F B : Type 0} (run : Run F B) → SameRun run run
same_start run = record {
  layout = record { index = refl; values = refl; marked = refl; metadata = refl; page_size = refl };
  walk = record { bounds = record { place = record { partition = refl; factory = refl }; floor = refl; ceiling = refl }; unrecovered = λ s. refl; floors = λ s. refl; section = refl; position = refl };
  values = refl;
  store = refl;
  trailing = refl;
  tracked = refl;
  later = λ failed. failed;
}

-- Values are read no more often than records at or above the marker are left.
abbrev pub ReadsOn : {F S : Type 0} {gs : _} → Type 0 → (l : Layout) → Run F (PageBlob S gs) → Run F (PageBlob S gs) → Timeline → Timeline → OpenedList → OpenedList → Type 0
ReadsOn told l run x a e before after = told → (s n : ℕ) → s < 2 ^ 64 → LeftAtMost run (disk a) s n
    → (m : ℕ) × LeftAtMost x (disk e) s m × (reads_of (after (section_key l.values s)) + m ≤ reads_of (before (section_key l.values s)) + n)

module _ {F S : Type 0} {gs : _} (g : buffer.Ghosts (PageBlob S gs)) (gives : F → Setting) (takes : WriteFactory → Setting) (told : Type 0) (start : Run F (PageBlob S gs)) (a : Timeline) (before : OpenedList) where
  -- What holds after any answer.
  pub record Passed (now : Run F (PageBlob S gs)) (e : Timeline) (after : OpenedList) : Type 0 where
    pub over : IsRun now g gives buffers takes told after (disk e)
    pub same : SameRun start now
    pub moves : Moves start.layout (contents_of start.store) told a e before after
    pub reads : ReadsOn told start.layout start now a e before after

  pub passed_start : IsRun start g gives buffers takes told before (disk a) → Passed start a before
  passed_start over = record {
    over = over;
    same = same_start start;
    moves = moves_start start.layout (contents_of start.store) told a before;
    reads = λ t s n small left. (n, left, omega arith);
  }

  pub reads_end : (now : Run F (PageBlob S gs)) (e : Timeline) (after : OpenedList) → Passed now e after → told → (s n : ℕ) → s < 2 ^ 64 → LeftAtMost start (disk a) s n
      → reads_of (after (section_key start.layout.values s)) ≤ reads_of (before (section_key start.layout.values s)) + n
  reads_end now e after passed t s n small left = let to = passed.reads t s n small left in omega (arith, to.2)

-- And while no error was given.
pub record Going {F S : Type 0} {gs : _} (told : Type 0) (start : Run F (PageBlob S gs)) (a : Timeline) (now : Run F (PageBlob S gs)) (e : Timeline) : Type 0 where
  pub going : HasFailed now → ⊥
  pub given : told → (s : ℕ) → records_given now (disk e) s ≡ records_given start (disk a) s
  pub stays : Stays start.layout (contents_of start.store) told a e

pub going_start : {F S : Type 0} {gs : _} (told : Type 0) (start : Run F (PageBlob S gs)) (a : Timeline) → (HasFailed start → ⊥) → Going told start a start a
going_start told start a going = record { going = going; given = λ t s. refl; stays = stays_start start.layout (contents_of start.store) told a }

module _ {F S : Type 0} {gs : _} (g : buffer.Ghosts (PageBlob S gs)) (gives : F → Setting) (takes : WriteFactory → Setting) (told : Type 0) (refusal : List ℕ → Unit {0} → Option codec.Error)
    {V : Type 0} (spelling : V → List ℕ) (accepted : V → Unit {0} → Type 0) where
  -- it has not ended
  goes_on : (now : Run F (PageBlob S gs)) (opened : OpenedList) (e : Timeline) → IsRun now g gives buffers takes told opened (disk e) → (HasFailed now → ⊥) → now.walk.ended ≡ false
  goes_on now opened e over going = elim now.walk.ended as (λ b. now.walk.ended ≡ b → b ≡ false) [
    | true ↦ λ is. absurd (going (inr (over.index.walk.ends is)))
    | false ↦ λ is. refl
  ] refl

  module _ (start : Run F (PageBlob S gs)) (a : Timeline) (before : OpenedList) where
    module _ (tracked : start.tracked ≡ true) (now : Run F (PageBlob S gs)) (e : Timeline) (mid : OpenedList) (was : Passed g gives takes told start a before now e mid) (going : Going told start a now e) (x : Run F (PageBlob S gs)) (f : Timeline) (after : OpenedList) (few many : ℕ)
        (result : Option (Result (ℕ × ℕ × V) Error)) (says : Clauses refusal told now x e f g gives takes spelling accepted result mid after few many) (laid : now.layout ≡ start.layout) where
      tracked_now : now.tracked ≡ true
      tracked_now = was.same.tracked ∙ tracked

      moves_on : Moves now.layout (contents_of now.store) told e f mid after
      moves_on = moves_index now.layout (contents_of now.store) told e f mid after (IsHeld now.walk.journal.sections) (λ t may. says.images.moments t tracked_now may) (λ t. says.images.untouched t)
          (λ q not. says.entries q (λ of. elim of [ inl index ↦ not (inl index) | inr values ↦ not (inr (inl values)) ]))

      moved : Moves start.layout (contents_of start.store) told e f mid after
      moved = subst (λ (m : _). Moves start.layout (contents_of m) told e f mid after) was.same.store (subst (λ (l : Layout). Moves l (contents_of now.store) told e f mid after) laid moves_on)

      reads_on : ReadsOn told start.layout start x a f before after
      reads_on t s n small left =
          let to = was.reads t s n small left in
          let on = says.reads t s to.0 small to.1 in
          let here : reads_of (after (section_key start.layout.values s)) + on.0 ≤ reads_of (mid (section_key start.layout.values s)) + to.0 =
          subst (λ (l : Layout). reads_of (after (section_key l.values s)) + on.0 ≤ reads_of (mid (section_key l.values s)) + to.0) laid on.2 in
          (on.0, on.1, omega (arith, here, to.2))

      pub passed_on : Passed g gives takes told start a before x f after
      passed_on = record {
        over = says.over;
        same = same_then start now x was.same says.same;
        moves = moves_then start.layout (contents_of start.store) told a e f before mid after was.moves going.stays moved;
        reads = reads_on;
      }

      -- ---- where no error was given
      module _ (well : HasFailed x → ⊥) where
        ended : x.walk.ended ≡ false
        ended = goes_on x after f says.over well

        stays_on : Stays now.layout (contents_of now.store) told e f
        stays_on = record {
          keeps = λ t s small. says.images.kept t tracked_now ended s small;
          lawful = λ t lawful. says.images.lawful t tracked_now ended lawful;
          opened = λ t may. says.images.opened t tracked_now may ended;
        }

        stayed : Stays start.layout (contents_of start.store) told e f
        stayed = subst (λ (m : _). Stays start.layout (contents_of m) told e f) was.same.store (subst (λ (l : Layout). Stays l (contents_of now.store) told e f) laid stays_on)

        lost_none : (s : ℕ) → x.walk.journal.sections.unopened s ≡ None
        lost_none = (says.over.opening (says.same.tracked ∙ tracked_now)).index_known (elim x.walk.failed as (λ b. x.walk.failed ≡ b → b ≡ false) [
          | true ↦ λ is. absurd (well (inr is))
          | false ↦ λ is. refl
        ] refl)

        pub going_on : Going told start a x f
        going_on = record {
          going = well;
          given = λ t s. says.images.given t tracked_now ended lost_none s ∙ going.given t s;
          stays = stays_then start.layout (contents_of start.store) told a e f going.stays stayed;
        }

        -- what the last call leaves
        pub drained_on : result ≡ None → IsDrained x.walk
        drained_on none = elim (says.drained none) [
          | inl is ↦ is
          | inr over ↦ absurd (false≢true (sym ended ∙ over))
        ]

-- how the same replay is stored
pub run_layout : {I V S C : Type 0} {fixed codec seal : _} (place : List ℕ → ℕ × ℕ) (r q : Replay I V S C fixed codec seal) → SameRun (run_of place r) (run_of place q) → (run_of place q).layout ≡ (run_of place r).layout
run_layout {fixed = fixed} {seal = seal} place r q same = λ i. record {
  index = same.layout.index i;
  values = same.layout.values i;
  marked = true;
  metadata = same.layout.metadata i;
  page_size = same.layout.page_size i;
  record_size = fixed.SIZE;
  seal = seal.seal_of;
  place = place;
  markers = marker_format seal;
}
