use Rattle.std.proofs.Common.{inl, inr, ℕ, ◌/◌, refl, sym, ◌∙◌, ap, arith}
use Rattle.std.specs.Prelude.{◌<◌, unwrap_or}
use Rattle.std.specs.List.{Contains}
use Rattle.blob_device.specs.Timeline.{disk}
use Rattle.section_manager.specs.managing.Managed as manager
use Rattle.segments.specs.FixedLists.{section_size}
use Rattle.segments.specs.FixedShown as fixed
use Rattle.paired.specs.lemmas.pair.Synced.{here_of}
use Rattle.segments.specs.lemmas.adding.Write.{are_pages}
use Rattle.segments.specs.lemmas.held.Passing.{pruned_on}
use Rattle.paired.specs.Kept.{marker_of}
use Rattle.paired.specs.PairShown.{shown}
use Rattle.paired.specs.sighted.Shown as tracked
use Rattle.paired.proofs.pair.FaultLemmas.{rests_after}
use Rattle.paired.proofs.pair.Failing.{no_error, pruned_ok, values_refused, values_failed}
use Rattle.paired.proofs.pair.Settling.{index_entry, values_entry, index_synced_of, values_synced_of, parts_of, settle_index_alone, settle_index_untouched, settle_index_order, settle_index_keeps, settle_alone, settle_untouched, settle_order, settle_keeps}
use Rattle.paired.proofs.pair.Synced.{values_ready, settled_as, settled_sound_as, lists_same, lengths_same, held_same, values_held_as, values_same_size, named_synced, others_synced}
use Rattle.paired.proofs.tracking.Lemmas.{Noted}
use Rattle.paired.proofs.pair.Passing.{no_value}
use Rattle.paired.proofs.pair.Pruned.{pruned_as}
use Rattle.paired.proofs.oversized.Oversized.settle.Goals as goal
use Rattle.blob_device.proofs.general.Lists.{contains_or_not}
use Rattle.blob_device.proofs.general.Results.{err_of, err_with}

pub sync-requires-2 : goal.sync-requires-2
sync-requires-2 g c =
    let p = shown g.I.Record.place c.args.self in
    let here = here_of g.I.Record.place c.args.self g.met.I.CodecFixed.fixed.at_least in
    let pages = are_pages g.row.S g.S.Seal g.S.Seal-dict in
    let named = Contains c.args.sections.now in
    let decides = contains_or_not c.args.sections.now in
    let told = g.D.Device.Tells in
    let a = g.D.Device.time c.args.dev.now in
    let b = g.D.Device.time c.sync.new.dev in
    let k = fixed.shown c.in_ok-this.field-0 in
    let says = c.in_ok-this.ensures in
    let index = index_synced_of {told = told} p.layout.seal p.layout.record_size named p.index k (g.D.Device.opened c.args.dev.now) (g.D.Device.opened c.sync.new.dev) a b c.requires.over.index
    says.named says.none says.others says.unopened says.bounds says.unrecovered says.floors c.sync.ensures.entries c.sync.ensures.moments in
    record { over = values_ready _ _ told p named k _ _ (disk a) (disk b) here c.requires.over index }

pub note_synced-requires-clause-trails : goal.note_synced-requires-clause-trails
note_synced-requires-clause-trails g c s n is same =
    (c.requires.over.markers.trails s n is).1 same

pub returns-in_err-this : goal.returns-in_err-this
returns-in_err-this g c =
    let p = shown g.I.Record.place c.args.self in
    let here = here_of g.I.Record.place c.args.self g.met.I.CodecFixed.fixed.at_least in
    let pages = are_pages g.row.S g.S.Seal g.S.Seal-dict in
    let named = Contains c.args.sections.now in
    let decides = contains_or_not c.args.sections.now in
    let told = g.D.Device.Tells in
    let a = g.D.Device.time c.args.dev.now in
    let b = g.D.Device.time c.sync.new.dev in
    record {
      over = no_value _ _ c.from_residual.ensures.0;
      sound = λ t sound. no_value _ _ c.from_residual.ensures.0;
      lists = λ t. no_value _ _ c.from_residual.ensures.0;
      lengths = no_value _ _ c.from_residual.ensures.0;
      sizes = no_value _ _ c.from_residual.ensures.0;
      held = no_value _ _ c.from_residual.ensures.0;
      values_held = no_value _ _ c.from_residual.ensures.0;
      same = no_value _ _ c.from_residual.ensures.0;
      named = no_value _ _ c.from_residual.ensures.0;
      settled = no_value _ _ c.from_residual.ensures.0;
      others = no_value _ _ c.from_residual.ensures.0;
      store = no_value _ _ c.from_residual.ensures.0;
      bounds = no_value _ _ c.from_residual.ensures.0;
      layout = no_value _ _ c.from_residual.ensures.0;
      codec_config = no_value _ _ c.from_residual.ensures.0;
      moments = λ x sound. settle_index_keeps _ _ told p _ named a b here c.requires.over (c.sync.ensures.moments x) pages decides x (parts_of _ _ told p pages _ (disk a) here c.requires.over x sound.sound) sound.floor;
      alone = λ x. settle_index_alone _ _ told p _ named a b here c.requires.over (c.sync.ensures.moments x);
      untouched = λ x. settle_index_untouched _ _ told p _ named a b here c.requires.over (c.sync.ensures.moments x);
      order = λ x. settle_index_order _ _ told p _ named a b here c.requires.over (c.sync.ensures.moments x);
      rests = λ t. no_value _ _ c.from_residual.ensures.0;
      guard = pruned_as c.from_residual.result c.in_err-this.field-0.0 _ _ (err_of c.from_residual.result c.in_err-this.field-0.0 c.from_residual.ensures.1) c.in_err-this.ensures.guard;
      refuses = c.sync.ensures.refuses;
      idle = λ none. c.sync.ensures.idle (λ s is un. none s is (inl un));
      entries = λ q not. c.sync.ensures.entries q (index_entry p _ (disk a) named here c.requires.over q not);
      faults = c.sync.ensures.faults;
      cause = pruned_on c.from_residual.result c.in_err-this.field-0.0 _ _ _ (err_of c.from_residual.result c.in_err-this.field-0.0 c.from_residual.ensures.1) c.in_err-this.ensures.cause;
    }

pub returns-in_err-this-2 : goal.returns-in_err-this-2
returns-in_err-this-2 g c =
    let p = shown g.I.Record.place c.args.self in
    let never : ((s : ℕ) × Contains c.args.sections.now s × (s < p.index.sections.floor)) → ⊥ = (λ w. pruned_ok _ _ (c.in_ok-this.ensures.guard.1 w)) in
    let here = here_of g.I.Record.place c.args.self g.met.I.CodecFixed.fixed.at_least in
    let pages = are_pages g.row.S g.S.Seal g.S.Seal-dict in
    let named = Contains c.args.sections.now in
    let decides = contains_or_not c.args.sections.now in
    let told = g.D.Device.Tells in
    let a = g.D.Device.time c.args.dev.now in
    let b = g.D.Device.time c.sync.new.dev in
    let e = g.D.Device.time c.sync-2.new.dev in
    let r = c.from_residual-in_err-this-2.result in
    record {
      over = no_value _ _ c.from_residual-in_err-this-2.ensures.0;
      sound = λ t sound. no_value _ _ c.from_residual-in_err-this-2.ensures.0;
      lists = λ t. no_value _ _ c.from_residual-in_err-this-2.ensures.0;
      lengths = no_value _ _ c.from_residual-in_err-this-2.ensures.0;
      sizes = no_value _ _ c.from_residual-in_err-this-2.ensures.0;
      held = no_value _ _ c.from_residual-in_err-this-2.ensures.0;
      values_held = no_value _ _ c.from_residual-in_err-this-2.ensures.0;
      same = no_value _ _ c.from_residual-in_err-this-2.ensures.0;
      named = no_value _ _ c.from_residual-in_err-this-2.ensures.0;
      settled = no_value _ _ c.from_residual-in_err-this-2.ensures.0;
      others = no_value _ _ c.from_residual-in_err-this-2.ensures.0;
      store = no_value _ _ c.from_residual-in_err-this-2.ensures.0;
      bounds = no_value _ _ c.from_residual-in_err-this-2.ensures.0;
      layout = no_value _ _ c.from_residual-in_err-this-2.ensures.0;
      codec_config = no_value _ _ c.from_residual-in_err-this-2.ensures.0;
      moments = λ x sound. settle_keeps _ _ told p _ named a b here c.requires.over (c.sync.ensures.moments x) pages decides x (parts_of _ _ told p pages _ (disk a) here c.requires.over x sound.sound) sound.floor e (c.sync-2.ensures.moments x);
      alone = λ x. settle_alone _ _ told p _ named a b here c.requires.over (c.sync.ensures.moments x) e (c.sync-2.ensures.moments x);
      untouched = λ x. settle_untouched _ _ told p _ named a b here c.requires.over (c.sync.ensures.moments x) e (c.sync-2.ensures.moments x);
      order = λ x. settle_order _ _ told p _ named a b here c.requires.over (c.sync.ensures.moments x) e (c.sync-2.ensures.moments x);
      rests = λ t. no_value _ _ c.from_residual-in_err-this-2.ensures.0;
      guard =
          let e = c.in_err-this-2.field-0.0 in
          let is = err_of r e c.from_residual-in_err-this-2.ensures.1 in
          (λ refused. absurd (values_refused r e is p.values.floor p.index.sections.floor 0 _ _ c.requires.over.whole.floors (omega arith) (Contains c.args.sections.now) never c.in_err-this-2.ensures.guard.0 c.in_err-this-2.ensures.cause refused), λ w. absurd (never w));
      refuses = λ w. absurd (never w);
      idle = λ none. c.sync-2.ensures.idle (λ s is un. none s is (inr un)) ∙ c.sync.ensures.idle (λ s is un. none s is (inl un));
      entries = λ q not. c.sync-2.ensures.entries q (values_entry p _ (disk a) named here c.requires.over q not) ∙ c.sync.ensures.entries q (index_entry p _ (disk a) named here c.requires.over q not);
      faults = omega (arith, c.sync.ensures.faults, c.sync-2.ensures.faults);
      cause =
          let e = c.in_err-this-2.field-0.0 in
          let is = err_of r e c.from_residual-in_err-this-2.ensures.1 in
          values_failed r e is p.values.floor p.index.sections.floor _ _ _ c.requires.over.whole.floors c.sync.ensures.faults (Contains c.args.sections.now) never c.in_err-this-2.ensures.guard.0 c.in_err-this-2.ensures.cause;
    }

pub returns-in_err-note_synced : goal.returns-in_err-note_synced
returns-in_err-note_synced g c =
    let p = shown g.I.Record.place c.args.self in
    let never : ((s : ℕ) × Contains c.args.sections.now s × (s < p.index.sections.floor)) → ⊥ = (λ w. pruned_ok _ _ (c.in_ok-this.ensures.guard.1 w)) in
    let is = err_of c.from_residual-in_err-note_synced.result c.in_err-note_synced.field-0.0 c.from_residual-in_err-note_synced.ensures.1 in
    let here = here_of g.I.Record.place c.args.self g.met.I.CodecFixed.fixed.at_least in
    let pages = are_pages g.row.S g.S.Seal g.S.Seal-dict in
    let named = Contains c.args.sections.now in
    let decides = contains_or_not c.args.sections.now in
    let told = g.D.Device.Tells in
    let a = g.D.Device.time c.args.dev.now in
    let b = g.D.Device.time c.sync.new.dev in
    let e = g.D.Device.time c.sync-2.new.dev in
    record {
      over = no_value _ _ c.from_residual-in_err-note_synced.ensures.0;
      sound = λ t sound. no_value _ _ c.from_residual-in_err-note_synced.ensures.0;
      lists = λ t. no_value _ _ c.from_residual-in_err-note_synced.ensures.0;
      lengths = no_value _ _ c.from_residual-in_err-note_synced.ensures.0;
      sizes = no_value _ _ c.from_residual-in_err-note_synced.ensures.0;
      held = no_value _ _ c.from_residual-in_err-note_synced.ensures.0;
      values_held = no_value _ _ c.from_residual-in_err-note_synced.ensures.0;
      same = no_value _ _ c.from_residual-in_err-note_synced.ensures.0;
      named = no_value _ _ c.from_residual-in_err-note_synced.ensures.0;
      settled = no_value _ _ c.from_residual-in_err-note_synced.ensures.0;
      others = no_value _ _ c.from_residual-in_err-note_synced.ensures.0;
      store = no_value _ _ c.from_residual-in_err-note_synced.ensures.0;
      bounds = no_value _ _ c.from_residual-in_err-note_synced.ensures.0;
      layout = no_value _ _ c.from_residual-in_err-note_synced.ensures.0;
      codec_config = no_value _ _ c.from_residual-in_err-note_synced.ensures.0;
      moments = λ x sound. settle_keeps _ _ told p _ named a b here c.requires.over (c.sync.ensures.moments x) pages decides x (parts_of _ _ told p pages _ (disk a) here c.requires.over x sound.sound) sound.floor e (c.sync-2.ensures.moments x);
      alone = λ x. settle_alone _ _ told p _ named a b here c.requires.over (c.sync.ensures.moments x) e (c.sync-2.ensures.moments x);
      untouched = λ x. settle_untouched _ _ told p _ named a b here c.requires.over (c.sync.ensures.moments x) e (c.sync-2.ensures.moments x);
      order = λ x. settle_order _ _ told p _ named a b here c.requires.over (c.sync.ensures.moments x) e (c.sync-2.ensures.moments x);
      rests = λ t. no_value _ _ c.from_residual-in_err-note_synced.ensures.0;
      guard = (λ pruned. absurd (cc (is, c.in_err-note_synced.ensures.cause, pruned)), λ w. absurd (never w));
      refuses = λ w. absurd (never w);
      idle = λ none. c.sync-2.ensures.idle (λ s is un. none s is (inr un)) ∙ c.sync.ensures.idle (λ s is un. none s is (inl un));
      entries = λ q not. c.sync-2.ensures.entries q (values_entry p _ (disk a) named here c.requires.over q not) ∙ c.sync.ensures.entries q (index_entry p _ (disk a) named here c.requires.over q not);
      faults = omega (arith, c.sync.ensures.faults, c.sync-2.ensures.faults);
      cause = err_with c.from_residual-in_err-note_synced.result (inr (inl (cc (is, c.in_err-note_synced.ensures.cause))));
    }

pub returns : goal.returns
returns g c =
    let p = shown g.I.Record.place c.args.self in
    let never : ((s : ℕ) × Contains c.args.sections.now s × (s < p.index.sections.floor)) → ⊥ = (λ w. pruned_ok _ _ (c.in_ok-this.ensures.guard.1 w)) in
    let here = here_of g.I.Record.place c.args.self g.met.I.CodecFixed.fixed.at_least in
    let pages = are_pages g.row.S g.S.Seal g.S.Seal-dict in
    let named = Contains c.args.sections.now in
    let decides = contains_or_not c.args.sections.now in
    let told = g.D.Device.Tells in
    let a = g.D.Device.time c.args.dev.now in
    let b = g.D.Device.time c.sync.new.dev in
    let k = fixed.shown c.in_ok-this.field-0 in
    let says = c.in_ok-this.ensures in
    let index = index_synced_of {told = told} p.layout.seal p.layout.record_size named p.index k (g.D.Device.opened c.args.dev.now) (g.D.Device.opened c.sync.new.dev) a b c.requires.over.index
    says.named says.none says.others says.unopened says.bounds says.unrecovered says.floors c.sync.ensures.entries c.sync.ensures.moments in
    let n = manager.shown c.in_ok-this-2.field-0.manager in
    let puts = c.in_ok-this-2.ensures in
    let e = g.D.Device.time c.sync-2.new.dev in
    let values = values_synced_of {told = told} named p.values n (g.D.Device.opened c.sync.new.dev) (g.D.Device.opened c.sync-2.new.dev) b e
    puts.named puts.none puts.others puts.unopened puts.bounds puts.bytes c.sync-2.ensures.entries c.sync-2.ensures.moments in
    let t = tracked.shown c.note_synced.new.tracking in
    let noted : Noted named (λ s. section_size k.sections s / p.layout.record_size) (tracked.shown c.args.self.tracking) (record { store = p.store; trailing = t.trailing }) = record {
      trails = λ s x trails. (λ same. c.in_ok-note_synced.ensures.trails s x trails (same ∙ ap (λ u. marker_of u.entries s) (sym c.note_synced.ensures.store)));
      named = λ s is. ap (λ u. unwrap_or (t.trailing s) (marker_of u.entries s)) (sym c.note_synced.ensures.store) ∙ c.in_ok-note_synced.ensures.named s is;
      others = c.in_ok-note_synced.ensures.others;
      store = refl;
    } in
    record {
      over = settled_as _ _ told p pages named decides k n t.trailing _ _ _ (disk a) (disk b) (disk e) here c.requires.over index values noted says.over puts.over _ _ _ _ t.store says.bounds.place.partition puts.bounds.place.partition (ap (λ u. u.partition) c.note_synced.ensures.store) (ap (λ f. f.pages.page_size) says.bounds.place.factory) c.note_synced.ensures.store;
      sound = λ x sound.
          let noted : Noted named (λ s. section_size k.sections s / p.layout.record_size) (tracked.shown c.args.self.tracking) (record { store = p.store; trailing = t.trailing }) = record {
            trails = λ s x trails. (λ same. c.in_ok-note_synced.ensures.trails s x trails (same ∙ ap (λ u. marker_of u.entries s) (sym c.note_synced.ensures.store)));
            named = λ s is. ap (λ u. unwrap_or (t.trailing s) (marker_of u.entries s)) (sym c.note_synced.ensures.store) ∙ c.in_ok-note_synced.ensures.named s is;
            others = c.in_ok-note_synced.ensures.others;
            store = refl;
          } in
          settled_sound_as _ _ told p pages named decides k n t.trailing _ _ _ (disk a) (disk b) (disk e) here c.requires.over index values noted x sound _ _ _ _ t.store says.bounds.place.partition puts.bounds.place.partition (ap (λ u. u.partition) c.note_synced.ensures.store) (ap (λ f. f.pages.page_size) says.bounds.place.factory) c.note_synced.ensures.store;
      lists = λ x.
          let noted : Noted named (λ s. section_size k.sections s / p.layout.record_size) (tracked.shown c.args.self.tracking) (record { store = p.store; trailing = t.trailing }) = record {
            trails = λ s x trails. (λ same. c.in_ok-note_synced.ensures.trails s x trails (same ∙ ap (λ u. marker_of u.entries s) (sym c.note_synced.ensures.store)));
            named = λ s is. ap (λ u. unwrap_or (t.trailing s) (marker_of u.entries s)) (sym c.note_synced.ensures.store) ∙ c.in_ok-note_synced.ensures.named s is;
            others = c.in_ok-note_synced.ensures.others;
            store = refl;
          } in
          lists_same _ _ told p pages named decides k n t.trailing _ _ _ (disk a) (disk b) (disk e) here c.requires.over index values noted x;
      lengths = lengths_same _ _ told p pages named decides k n t.trailing _ _ _ (disk a) (disk b) (disk e) here c.requires.over index values noted;
      sizes = values_same_size _ _ told p pages named decides k n t.trailing _ _ _ (disk a) (disk b) (disk e) here c.requires.over index values noted;
      held = held_same _ _ told p pages named decides k n t.trailing _ _ _ (disk a) (disk b) (disk e) here c.requires.over index values noted;
      values_held = values_held_as _ _ told p pages named decides k n t.trailing _ _ _ (disk a) (disk b) (disk e) here c.requires.over index values noted;
      same = λ s not. (
        record { held = c.in_ok-this.ensures.others s not; unopened = c.in_ok-this.ensures.unopened s },
        record { held = c.in_ok-this-2.ensures.others s not; unopened = c.in_ok-this-2.ensures.unopened s },
      );
      named = λ s is.
          let noted : Noted named (λ s. section_size k.sections s / p.layout.record_size) (tracked.shown c.args.self.tracking) (record { store = p.store; trailing = t.trailing }) = record {
            trails = λ s x trails. (λ same. c.in_ok-note_synced.ensures.trails s x trails (same ∙ ap (λ u. marker_of u.entries s) (sym c.note_synced.ensures.store)));
            named = λ s is. ap (λ u. unwrap_or (t.trailing s) (marker_of u.entries s)) (sym c.note_synced.ensures.store) ∙ c.in_ok-note_synced.ensures.named s is;
            others = c.in_ok-note_synced.ensures.others;
            store = refl;
          } in
          ap (λ u. unwrap_or (t.trailing s) (marker_of u.entries s)) c.note_synced.ensures.store ∙ named_synced _ _ told p pages named decides k n t.trailing _ _ _ (disk a) (disk b) (disk e) here c.requires.over index values noted s is;
      settled = c.in_ok-this-2.ensures.all_settled;
      others = λ s not.
          let noted : Noted named (λ s. section_size k.sections s / p.layout.record_size) (tracked.shown c.args.self.tracking) (record { store = p.store; trailing = t.trailing }) = record {
            trails = λ s x trails. (λ same. c.in_ok-note_synced.ensures.trails s x trails (same ∙ ap (λ u. marker_of u.entries s) (sym c.note_synced.ensures.store)));
            named = λ s is. ap (λ u. unwrap_or (t.trailing s) (marker_of u.entries s)) (sym c.note_synced.ensures.store) ∙ c.in_ok-note_synced.ensures.named s is;
            others = c.in_ok-note_synced.ensures.others;
            store = refl;
          } in
          ap (λ u. unwrap_or (t.trailing s) (marker_of u.entries s)) c.note_synced.ensures.store ∙ others_synced _ _ told p pages named decides k n t.trailing _ _ _ (disk a) (disk b) (disk e) here c.requires.over index values noted s not;
      store = c.note_synced.ensures.store;
      bounds = (c.in_ok-this.ensures.bounds, c.in_ok-this-2.ensures.bounds);
      layout = record { index = says.bounds.place.partition; values = puts.bounds.place.partition; marked = refl; metadata = ap (λ u. u.partition) c.note_synced.ensures.store; page_size = ap (λ f. f.pages.page_size) says.bounds.place.factory };
      codec_config = c.in_ok-this-2.ensures.codec_config;
      moments = λ x sound. settle_keeps _ _ told p _ named a b here c.requires.over (c.sync.ensures.moments x) pages decides x (parts_of _ _ told p pages _ (disk a) here c.requires.over x sound.sound) sound.floor e (c.sync-2.ensures.moments x);
      alone = λ x. settle_alone _ _ told p _ named a b here c.requires.over (c.sync.ensures.moments x) e (c.sync-2.ensures.moments x);
      untouched = λ x. settle_untouched _ _ told p _ named a b here c.requires.over (c.sync.ensures.moments x) e (c.sync-2.ensures.moments x);
      order = λ x. settle_order _ _ told p _ named a b here c.requires.over (c.sync.ensures.moments x) e (c.sync-2.ensures.moments x);
      rests = λ x. rests_after p named _ _ told k n _ _ _ (disk a) (disk b) (disk e) here c.requires.over.apart index values x;
      guard = (λ pruned. absurd (no_error _ _ pruned), λ w. absurd (never w));
      refuses = λ w. absurd (never w);
      idle = λ none. c.sync-2.ensures.idle (λ s is un. none s is (inr un)) ∙ c.sync.ensures.idle (λ s is un. none s is (inl un));
      entries = λ q not. c.sync-2.ensures.entries q (values_entry p _ (disk a) named here c.requires.over q not) ∙ c.sync.ensures.entries q (index_entry p _ (disk a) named here c.requires.over q not);
      faults = omega (arith, c.sync.ensures.faults, c.sync-2.ensures.faults);
      cause = tt;
    }
