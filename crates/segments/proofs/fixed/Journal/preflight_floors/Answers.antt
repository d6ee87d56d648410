-- The markers are taken in one by one; at each the sections are as they were opened.
use Rattle.std.proofs.Common.{◌≡◌, ◌∙◌, ℕ, List, Some, IsSome, inl, inr, sym, ap, subst, arith, refl}
use Rattle.std.specs.Prelude.{string_bytes}
use Rattle.std.specs.BTreeMap.{get}
use Rattle.std.specs.Map.Iter.{deref_pair}
use Rattle.std.specs.Map.{keys_of}
use Rattle.std.specs.Ordering.{nat_cmp}
use Rattle.std.proofs.lemmas.Cmp.{nat_cmp_total}
use Rattle.std.proofs.lemmas.Map.Iter.{btree_map_turn, iter_end}
use Rattle.blob_device.specs.Timeline.{disk}
use Rattle.sealed_pages.specs.declared.page_blob.PageBlob.{PageBlob}
use Rattle.sealed_pages.specs.declared.pages.Pages.{Pages}
use Rattle.section_manager.specs.declared.sealed.AppendFactory.{AppendFactory}
use Rattle.section_manager.specs.Sections.{Sections}
use Rattle.segments.specs.FixedFloors.{Floors, preflight_shown, journal_of}
use Rattle.segments.specs.FixedLists.{Lists}
use Rattle.segments.proofs.opened.OpenLemmas.{opened_journal}
use Rattle.segments.specs.lemmas.adding.Write.{are_pages}
use Rattle.segments.proofs.opened.FloorLemmas.{Checked, checked_none, checked_more, reaches, within, last_taken}
use Rattle.segments.proofs.opened.Markers.{floors_opening, floors_owing, floors_marker, marker_stage, marker_taken, all_taken, none_taken}
use Rattle.segments.proofs.opened.Stages.{stage_opened, stage_same, stage_checkable}
use Rattle.segments.proofs.fixed.Journal.preflight_floors.Given.{Over}
use Rattle.segments.proofs.fixed.Journal.preflight_floors.Goals as goal
use Rattle.blob_device.proofs.general.Maps.{had_turn, numbers_of, numbers_push, numbers_shown}
use Rattle.blob_device.proofs.general.Options.{none_or_value}
use Rattle.blob_device.proofs.general.Results.{err_of}

abbrev Held : Over → Type 0
Held g = Sections (AppendFactory g.row.S.Denot) (PageBlob g.row.S.Denot g.S.Seal)

abbrev Journals : Over → Type 0
Journals g = Lists (AppendFactory g.row.S.Denot) (PageBlob g.row.S.Denot g.S.Seal)

pub loop-section-init : goal.loop-section-init
loop-section-init g c =
    let same = c.unchecked-unchecked.ensures.journal in
    let stage = stage_opened _ _ _ _ _ _ _ _ _ _ _ _ _ c.in_ok-journal.ensures (ap (λ (j : Journals g). j.sections) same) in
    record {
      checked = checked_none g.S.Seal.seal_of g.A.CodecFixed.SIZE g.A.Codec.spelling g.A.Codec.accepted g.D.Device.Tells (string_bytes c.args.cfg.now.partition) c.args.cfg.now.pages c.args.cfg.now.write_buffer c.args.ceiling (get nat_cmp c.args.floors.now) (g.D.Device.time c.args.dev.now)
          (preflight_shown c.unchecked-unchecked.result) (λ s. ap (λ (j : Journals g). j.floor_of s) same ∙ c.in_ok-journal.ensures.floors s) c.unchecked-unchecked.ensures.boundaries stage.opened.place stage.paging stage.buffering stage.ceiling;
      stage = stage;
      target = c.unchecked-unchecked.ensures.target;
    }

pub checked-requires-clause-bounded : goal.checked-requires-clause-bounded
checked-requires-clause-bounded g c =
    within g.S.Seal.seal_of g.A.CodecFixed.SIZE g.A.Codec.spelling g.A.Codec.accepted g.D.Device.Tells _ _ _ _ _ (g.D.Device.time c.args.dev.now) _ _ c.loop-section.invariant.checked c.in-Some.section.now c.in-Some.items.now
    (btree_map_turn deref_pair c.loop-section.yielded c.into_iter-section-iterator.result c.loop-section.section-iterator c.next.new.self c.next.result (c.in-Some.section, c.in-Some.items) c.loop-section.yielded_by c.in-Some.is c.next.ensures.steps nat_cmp_total c.args.floors.now c.into_iter-section-iterator.ensures.into_iter_gives.0 c.into_iter-section-iterator.ensures.into_iter_gives.5).1 (g.D.Device.time c.loop-section.dev) c.requires.ceiling

pub checked-requires-clause-ready : goal.checked-requires-clause-ready
checked-requires-clause-ready g c = stage_checkable _ _ _ _ _ _ _ _ _ _ _ c.loop-section.invariant.stage (are_pages g.row.S g.S.Seal g.S.Seal-dict)

pub loop-section-preserved : goal.loop-section-preserved
loop-section-preserved g c =
    let s = c.in-Some.section.now in
    let is : get nat_cmp c.args.floors.now c.in-Some.section.now ≡ Some c.in-Some.items.now = (btree_map_turn deref_pair c.loop-section.yielded c.into_iter-section-iterator.result c.loop-section.section-iterator c.next.new.self c.next.result (c.in-Some.section, c.in-Some.items) c.loop-section.yielded_by c.in-Some.is c.next.ensures.steps nat_cmp_total c.args.floors.now c.into_iter-section-iterator.ensures.into_iter_gives.0 c.into_iter-section-iterator.ensures.into_iter_gives.5).1 in
    let stage = c.loop-section.invariant.stage in
    let done = c.loop-section.invariant.checked in
    let checks = c.in_ok-found.ensures in
    record {
      checked = subst (λ (x : List ℕ). Checked g.S.Seal.seal_of g.A.CodecFixed.SIZE g.A.Codec.spelling g.A.Codec.accepted g.D.Device.Tells (string_bytes c.args.cfg.now.partition) c.args.cfg.now.pages c.args.cfg.now.write_buffer c.args.ceiling (get nat_cmp c.args.floors.now) (g.D.Device.time c.args.dev.now) x (preflight_shown c.in_ok-found.found))
          (sym (numbers_push c.loop-section.yielded (c.in-Some.section, c.in-Some.items)))
          (checked_more _ _ _ _ _ _ _ _ _ _ _ _ _ _ s c.in-Some.items.now is _ stage.moments done
          (marker_taken _ _ _ _ _ _ _ _ _ _ _ _ _ _ _ _ _ (preflight_shown c.loop-section.found) s _ _ _ c.in_ok-found.found stage done.place checks
          (ap (λ (m : Held g). m.partition) checks.sections) (ap (λ (m : Held g). m.factory.pages) checks.sections) (ap (λ (m : Held g). m.factory.write_buffer) checks.sections) (ap (λ (m : Held g). m.ceiling) checks.sections)));
      stage = marker_stage _ _ _ _ _ _ _ _ _ _ _ (get nat_cmp c.args.floors.now) _ _ _ _ _ (preflight_shown c.loop-section.found) s _ _ _ _ stage checks refl (c.requires.ceiling s (subst IsSome (sym is) refl)) _ checks.sections;
      target = checks.target ∙ c.loop-section.invariant.target;
    }

pub returns-in_err-journal : goal.returns-in_err-journal
returns-in_err-journal g c = floors_opening _ _ _ _ _ _ _ _ _ _ _ _ _ _ _ _ _ _ (err_of c.from_residual.result _ c.from_residual.ensures.1) _ c.in_err-journal.ensures

pub returns-in_err-found : goal.returns-in_err-found
returns-in_err-found g c =
    let s = c.in-Some.section.now in
    let is : get nat_cmp c.args.floors.now c.in-Some.section.now ≡ Some c.in-Some.items.now = (btree_map_turn deref_pair c.loop-section.yielded c.into_iter-section-iterator.result c.loop-section.section-iterator c.next.new.self c.next.result (c.in-Some.section, c.in-Some.items) c.loop-section.yielded_by c.in-Some.is c.next.ensures.steps nat_cmp_total c.args.floors.now c.into_iter-section-iterator.ensures.into_iter_gives.0 c.into_iter-section-iterator.ensures.into_iter_gives.5).1 in
    floors_marker _ _ _ _ _ _ _ _ _ _ _ _ _ _ _ _ _ _ _ (preflight_shown c.loop-section.found) _ s _ is _ _ _ c.loop-section.invariant.stage c.loop-section.invariant.checked c.in_err-found.ensures refl (c.requires.ceiling s (subst IsSome (sym is) refl))
    _ _ (err_of c.from_residual-in_err-found.result _ c.from_residual-in_err-found.ensures.1) refl
    (λ q m t before at. last_taken _ _ _ _ _ _ _ _ _ _ _ _ _ c.loop-section.invariant.checked t q m
    (had_turn c.loop-section.yielded c.into_iter-section-iterator.result c.loop-section.section-iterator c.next.new.self c.next.result (c.in-Some.section, c.in-Some.items) c.loop-section.yielded_by c.in-Some.is c.next.ensures.steps c.args.floors.now
    c.into_iter-section-iterator.ensures.into_iter_gives.0 c.into_iter-section-iterator.ensures.into_iter_gives.5 q (subst IsSome (sym at) refl) before) at)

pub returns-in_err-owing : goal.returns-in_err-owing
returns-in_err-owing g c =
    let keys = numbers_of c.loop-section.yielded in
    let all : numbers_of c.loop-section.yielded ≡ keys_of c.args.floors.now.entries = numbers_shown c.loop-section.yielded ∙ ap (λ (es : List (ℕ × ℕ)). keys_of es) (iter_end deref_pair c.args.floors.now.entries c.loop-section.yielded c.into_iter-section-iterator.result c.loop-section.section-iterator c.next.new.self c.next.result c.into_iter-section-iterator.ensures.into_iter_gives.0 c.loop-section.yielded_by c.in-None.is c.next.ensures.steps).0 in
    let stage = c.loop-section.invariant.stage in
    floors_owing _ _ _ _ _ _ _ _ _ _ _ _ _ _ _ _ _ _ (err_of c.from_residual-in_err-owing.result _ c.from_residual-in_err-owing.ensures.1) _ _ stage
    (λ t x bad. omega (
      arith,
      c.in_err-owing.ensures.damage x bad,
      reaches g.S.Seal.seal_of g.A.CodecFixed.SIZE g.A.Codec.spelling g.A.Codec.accepted g.D.Device.Tells _ c.args.cfg.now.pages c.args.cfg.now.write_buffer c.args.ceiling (get nat_cmp c.args.floors.now) (g.D.Device.time c.args.dev.now) _ _ (are_pages g.row.S g.S.Seal g.S.Seal-dict) _ _ _ stage.opened stage.moments keys
          (preflight_shown c.loop-section.found) c.loop-section.invariant.checked (all_taken c.args.floors.now keys all) (none_taken c.args.floors.now keys all) c.requires.ceiling c.ranges.ceiling.fits (ap (λ (p : Pages). p.page_size) stage.paging) t x.section,
    )) c.in_err-owing.ensures.cause

pub returns : goal.returns
returns g c =
    let all : numbers_of c.loop-section.yielded ≡ keys_of c.args.floors.now.entries = numbers_shown c.loop-section.yielded ∙ ap (λ (es : List (ℕ × ℕ)). keys_of es) (iter_end deref_pair c.args.floors.now.entries c.loop-section.yielded c.into_iter-section-iterator.result c.loop-section.section-iterator c.next.new.self c.next.result c.into_iter-section-iterator.ensures.into_iter_gives.0 c.loop-section.yielded_by c.in-None.is c.next.ensures.steps).0 in
    let taken = all_taken c.args.floors.now (numbers_of c.loop-section.yielded) all in
    let done = subst (λ (f : Floors g.row.A.Denot). Checked g.S.Seal.seal_of g.A.CodecFixed.SIZE g.A.Codec.spelling g.A.Codec.accepted g.D.Device.Tells (string_bytes c.args.cfg.now.partition) c.args.cfg.now.pages c.args.cfg.now.write_buffer c.args.ceiling (get nat_cmp c.args.floors.now) (g.D.Device.time c.args.dev.now) (numbers_of c.loop-section.yielded) f)
    (sym c.in_ok-owing.ensures.same) c.loop-section.invariant.checked in
    let never = none_taken c.args.floors.now (numbers_of c.loop-section.yielded) all in
    let m = (journal_of c.in_ok-owing.owing).sections in
    let stage = stage_same _ _ _ _ _ _ _ _ _ _ m _ c.in_ok-owing.ensures.sections c.loop-section.invariant.stage in
    let opened = stage.opened in
    record {
      floors = λ s n is. (done.marked s n (taken s (subst IsSome (sym is) refl)) is).floor;
      none = λ s none. done.floors s (never s none);
      unmarked = λ s none. done.boundaries s (never s none);
      empty = λ s is. (done.marked s 0 (taken s (subst IsSome (sym is) refl)) is).empty refl;
      boundary = λ t s n is some. (done.marked s n (taken s (subst IsSome (sym is) refl)) is).boundary t some;
      there = λ t s some.
          elim (none_or_value (get nat_cmp c.args.floors.now s)) [
            | inl none ↦ absurd (cc (subst IsSome none some))
            | inr v ↦ (done.marked s v.0 (taken s some) v.1).there t
          ];
      fits = λ s n is. (done.marked s n (taken s (subst IsSome (sym is) refl)) is).fits;
      partition = done.place;
      pages = done.paging;
      target = ap (λ (f : Floors g.row.A.Denot). f.target) c.in_ok-owing.ensures.same ∙ c.loop-section.invariant.target;
      write_buffer = done.buffering;
      ceiling = done.bound;
      over = opened_journal g.S.Seal.seal_of g.A.CodecFixed.SIZE g.D.Device.Tells _ (are_pages g.row.S g.S.Seal g.S.Seal-dict) _ m (g.D.Device.opened c.loop-section.dev) (disk (g.D.Device.time c.loop-section.dev)) opened.over
          (journal_of c.in_ok-owing.owing).unrecovered (journal_of c.in_ok-owing.owing).floor_of opened.idle c.in_ok-owing.ensures.unrecovered c.in_ok-owing.ensures.reached c.in_ok-owing.owing.whole
          (λ t s some. omega (arith, done.bound, opened.later s some));
      held = opened.held;
      unopened = opened.unopened;
      no_leftover = opened.no_leftover;
      later = opened.later;
      bytes = opened.bytes;
      unrecovered = c.in_ok-owing.ensures.unrecovered;
      reached = c.in_ok-owing.ensures.reached;
      idle = opened.idle;
      floor = opened.floor;
      damage = λ t x bad. absurd (cc bad);
      whole = λ t keeps x bad. absurd (cc bad);
      first = λ t x bad q m before at. absurd (cc bad);
      refused = λ t e bad. absurd (cc bad);
      moments = stage.moments;
      foreign = λ t name foreign. absurd (stage.foreign t name foreign);
      foreign_items = λ t name foreign e bad. absurd (cc bad);
      foreign_disk = λ t name foreign. absurd (stage.foreign t name foreign);
      foreign_entries = λ t name foreign. absurd (stage.foreign t name foreign);
      name_entries = λ n bad. absurd (cc bad);
      named = λ t n bad. absurd (cc bad);
      entries = stage.entries;
      faults = stage.faults;
      cause = tt;
    }
