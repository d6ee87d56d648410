use Rattle.std.proofs.Common.{◌||◌, ◌≡◌, inl, inr, ℕ, ◌<◌, ◌≤◌, Bool, List, Option, IsTrue, IsSomeAnd, refl, sym, ◌∙◌, ap, subst, arith, rules}
use Rattle.std.specs.Prelude.{◌↔◌}
use Rattle.blob_device.specs.Disk.{Blob}
use Rattle.blob_device.specs.Opened.{Opened}
use Rattle.blob_device.specs.Timeline.{disk}
use Rattle.section_manager.specs.declared.sealed.AppendFactory.{AppendFactory}
use Rattle.section_manager.specs.managing.Managed as manager
use Rattle.section_manager.specs.Raised.{raised_metadata}
use Rattle.section_manager.specs.Sections.{IsHeld, section_key}
use Rattle.section_manager.specs.Setting.{Setting}
use Rattle.segments.specs.FixedShown as fixed
use Rattle.value_codec.specs.declared.key.Key8.{Key8}
use Rattle.meta_store.specs.Blobs.{blob_of, other_side}
use Rattle.meta_store.specs.Calls.{IsOpened, OthersOpened}
use Rattle.meta_store.specs.Crashes.{Mapping}
use Rattle.meta_store.specs.Store.{Store, Stands, MayBeSynced, contents_of}
use Rattle.paired.specs.Crashes.{IsCopy}
use Rattle.paired.specs.glob.Sections as glob
use Rattle.paired.specs.Kept.{MarkerMap, IsMarked, marker_of}
use Rattle.paired.specs.Pair.{Pair, IsSoundOn, list_of}
use Rattle.paired.specs.PairShown.{shown}
use Rattle.paired.specs.sighted.Shown as tracked
use Rattle.paired.specs.lemmas.Glob.{glob_stays}
use Rattle.paired.proofs.pair.FaultLemmas.{markers_apart, dropped_still}
use Rattle.paired.proofs.pair.FullMarkers.{full_markers}
use Rattle.paired.proofs.pair.Stays.{journal_stays}
use Rattle.paired.proofs.pair.Failing.{no_error}
use Rattle.paired.proofs.pair.Passing.{no_value, failed_cause, failed_full, failed_lost}
use Rattle.paired.proofs.pair.Removed.{marked_below, none_staged, staged_marked, marked_staged, stands_stays, index_bytes, either_flag, either_floor, IsRemoved, removed_synced, removed_floors, removed_pair, removed_list, removed_sound, at_layout, pair_at, same_layout}
use Rattle.paired.proofs.pair.Removing.{values_ascending, prune_one, copy_stays, newer_stays, sections_wait, IsDoomed, IsLost, markers_gone, records_gone, values_gone, only_copies, none_leave, untouched_same, settled_keeps, synced_partition, synced_fresh, opened_stays, gone_absent, parts_of, prune_ways, known_held, known_valued, below_or_not, markers_first, records_first, ascending, copies_alone, index_first, index_last, values_first, copies_last, index_undoomed, own_entries, index_opened, index_still_opened, values_opened, copies_opened, keeps_markers, keeps_records, keeps_values}
use Rattle.paired.proofs.oversized.Oversized.prune.Goals.{then-records, else-records}
use Rattle.paired.proofs.oversized.Oversized.prune.Goals as goal
use Rattle.meta_store.specs.declared.copy.Contents.{Contents}
use Rattle.blob_device.proofs.general.Results.{err_of}

pub drop_below-requires : goal.drop_below-requires
drop_below-requires g c =
    λ s n is. (c.requires.over.markers.trails s n is).1

pub prune-requires : goal.prune-requires
prune-requires g c =
    let p = shown g.I.Record.place c.args.self in
    let new = (tracked.shown c.drop_below.new.self).store in
    let ways = prune_ways p (g.D.Device.opened c.args.dev.now) (disk (g.D.Device.time c.args.dev.now)) c.requires.over refl refl c.args.min in
    let here : new.partition ≡ p.layout.metadata = ap (λ (u : Store Key8 ℕ). u.partition) c.drop_below.ensures.staged in
    let removes = λ (t : g.D.Device.Tells). markers_gone p.layout p.index.sections p.values (IsDoomed p c.args.min) (IsLost p c.args.min) (only_copies p.layout new (g.D.Device.time c.args.dev.now) (g.D.Device.time c.sync.new.dev) here (c.sync.ensures.alone t)) in
    record { over = journal_stays p.layout.seal p.layout.record_size p.index (g.D.Device.opened c.args.dev.now) (g.D.Device.opened c.sync.new.dev) (disk (g.D.Device.time c.args.dev.now)) (disk (g.D.Device.time c.sync.new.dev)) (λ s lt. index_opened ways (g.D.Device.opened c.args.dev.now) (g.D.Device.opened c.sync.new.dev) (g.D.Device.opened c.sync.new.dev) (g.D.Device.opened c.sync.new.dev) (subst (λ (x : List ℕ). OthersOpened x (g.D.Device.opened c.args.dev.now) (g.D.Device.opened c.sync.new.dev)) here c.sync.ensures.entries) (none_leave _ (g.D.Device.opened c.sync.new.dev)) (none_leave _ (g.D.Device.opened c.sync.new.dev)) s) (λ t s lt. index_first ways (g.D.Device.time c.args.dev.now) (g.D.Device.time c.sync.new.dev) (removes t) s) c.requires.over.index }

pub prune-requires-2 : goal.prune-requires-2
prune-requires-2 g c =
    let p = shown g.I.Record.place c.args.self in
    let new = (tracked.shown c.drop_below.new.self).store in
    let ways = prune_ways p (g.D.Device.opened c.args.dev.now) (disk (g.D.Device.time c.args.dev.now)) c.requires.over refl refl c.args.min in
    let here : new.partition ≡ p.layout.metadata = ap (λ (u : Store Key8 ℕ). u.partition) c.drop_below.ensures.staged in
    let removes = λ (t : g.D.Device.Tells). records_gone p.layout p.values (IsLost p c.args.min) (only_copies p.layout new (g.D.Device.time c.args.dev.now) (g.D.Device.time c.sync.new.dev) here (c.sync.ensures.alone t)) (c.prune.ensures.moments t) in
    record { over = glob_stays _ p.values (g.D.Device.opened c.args.dev.now) (disk (g.D.Device.time c.args.dev.now)) c.requires.over.values (g.D.Device.opened c.prune.new.dev) (disk (g.D.Device.time c.prune.new.dev)) (λ s len small is. subst (λ (o : Option Opened). IsSomeAnd o (λ x. x.len ≡ len)) (sym (values_opened ways (g.D.Device.opened c.args.dev.now) (g.D.Device.opened c.sync.new.dev) (g.D.Device.opened c.prune.new.dev) (g.D.Device.opened c.prune.new.dev) (subst (λ (x : List ℕ). OthersOpened x (g.D.Device.opened c.args.dev.now) (g.D.Device.opened c.sync.new.dev)) here c.sync.ensures.entries) c.prune.ensures.entries (none_leave _ (g.D.Device.opened c.prune.new.dev)) s)) is) (λ t s small. values_first ways (g.D.Device.time c.args.dev.now) (g.D.Device.time c.prune.new.dev) (removes t) s) }

pub returns-in_err-this : goal.returns-in_err-this
returns-in_err-this g c =
    let p = shown g.I.Record.place c.args.self in
    let new = (tracked.shown c.drop_below.new.self).store in
    let ways = prune_ways p (g.D.Device.opened c.args.dev.now) (disk (g.D.Device.time c.args.dev.now)) c.requires.over refl refl c.args.min in
    let here : new.partition ≡ p.layout.metadata = ap (λ (u : Store Key8 ℕ). u.partition) c.drop_below.ensures.staged in
    let is = err_of c.from_residual.result (raised_metadata c.in_err-this.field-0.0) c.from_residual.ensures.1 in
    let same : new.version ≡ p.store.version = ap (λ (u : Store Key8 ℕ). u.version) c.drop_below.ensures.staged in
    let e = c.in_err-this.field-0.0 in
    let removes = λ (t : g.D.Device.Tells). markers_gone p.layout p.index.sections p.values (IsDoomed p c.args.min) (IsLost p c.args.min) (only_copies p.layout new (g.D.Device.time c.args.dev.now) (g.D.Device.time c.sync.new.dev) here (c.sync.ensures.alone t)) in
    record {
      over = no_value _ _ c.from_residual.ensures.0;
      sound = λ t sound. no_value _ _ c.from_residual.ensures.0;
      removed = no_value _ _ c.from_residual.ensures.0;
      stays = no_value _ _ c.from_residual.ensures.0;
      lists = λ t. no_value _ _ c.from_residual.ensures.0;
      synced = no_value _ _ c.from_residual.ensures.0;
      markers = no_value _ _ c.from_residual.ensures.0;
      unmarked = no_value _ _ c.from_residual.ensures.0;
      marker_floor = no_value _ _ c.from_residual.ensures.0;
      marked = no_value _ _ c.from_residual.ensures.0;
      flag = no_value _ _ c.from_residual.ensures.0;
      floor = no_value _ _ c.from_residual.ensures.0;
      same_floor = no_value _ _ c.from_residual.ensures.0;
      place = no_value _ _ c.from_residual.ensures.0;
      layout = no_value _ _ c.from_residual.ensures.0;
      codec_config = no_value _ _ c.from_residual.ensures.0;
      moments = λ t sound.
          let parts = parts_of p (g.D.Device.opened c.args.dev.now) (disk (g.D.Device.time c.args.dev.now)) c.requires.over t sound.sound refl refl refl refl (λ s v held. ap (λ (x : Setting). x.page_size) (c.requires.over.index.over.opened_list.setting s v held)) in
          let stands = c.drop_below.ensures.stands (contents_of p.store) (disk (g.D.Device.time c.args.dev.now)) (c.requires.over.disk t).markers in
          let maps = subst (λ (x : List ℕ). Mapping p.layout.markers x (contents_of p.store) (contents_of new) (g.D.Device.time c.args.dev.now) (g.D.Device.time c.sync.new.dev)) here (c.sync.ensures.crashes t (contents_of p.store) stands) in
          keeps_markers ways g.met.I.CodecFixed.fixed.at_least (g.D.Device.time c.args.dev.now) parts t sound.floor (below_or_not c.args.min) (contents_of new) (ap (λ (w : Store Key8 ℕ). w.floor) c.drop_below.ensures.staged ∙ sound.floor) (λ s n is. (c.drop_below.ensures.marked s n is).1) (λ s n lt is. omega (arith, lt, (c.drop_below.ensures.marked s n is).0)) (g.D.Device.time c.sync.new.dev) maps;
      alone = λ t none.
          let idle = c.sync.ensures.idle (none_staged p.store new c.args.min c.drop_below.ensures.still c.drop_below.ensures.marked c.drop_below.ensures.dropped c.requires.over.synced (λ s m lt is. none (s, lt, (m, is)))) in
          copies_alone ways (g.D.Device.time c.args.dev.now) (g.D.Device.time c.sync.new.dev) (removes t) (untouched_same (IsCopy p.layout) (g.D.Device.time c.args.dev.now) (g.D.Device.time c.sync.new.dev) (ap g.D.Device.time idle.0));
      untouched = λ t. prune_one p (g.D.Device.opened c.args.dev.now) (disk (g.D.Device.time c.args.dev.now)) c.requires.over refl refl c.args.min (g.D.Device.time c.args.dev.now) (g.D.Device.time c.sync.new.dev) (removes t);
      newer_stays = λ t. copy_stays ways (g.D.Device.time c.args.dev.now) (g.D.Device.time c.sync.new.dev) (removes t) (other_side p.store.older) (newer_stays p.layout new p.store.older (g.D.Device.time c.args.dev.now) (g.D.Device.time c.sync.new.dev) here (ap (λ (u : Store Key8 ℕ). u.older) c.drop_below.ensures.staged) (c.sync.ensures.alone t));
      markers_first = λ t. markers_first ways (g.D.Device.time c.args.dev.now) (g.D.Device.time c.sync.new.dev) (removes t);
      order = λ t. records_first ways (g.D.Device.time c.args.dev.now) (g.D.Device.time c.sync.new.dev) (removes t);
      ascending = λ t. ascending ways (g.D.Device.time c.args.dev.now) (g.D.Device.time c.sync.new.dev) (removes t) (λ s. IsHeld p.index.sections s × (s < c.args.min)) (λ s is. (inl is.0, is.1));
      values_ascending = λ t. values_ascending ways (g.D.Device.time c.args.dev.now) (g.D.Device.time c.sync.new.dev) (removes t) (λ s. IsHeld p.values s × (s < c.args.min)) (λ s is. (inl is.0, is.1));
      gone = λ t. no_value _ _ c.from_residual.ensures.0;
      gone_all = λ t. no_value _ _ c.from_residual.ensures.0;
      idle = λ all.
          let idle = c.sync.ensures.idle (none_staged p.store new c.args.min c.drop_below.ensures.still c.drop_below.ensures.marked c.drop_below.ensures.dropped c.requires.over.synced (λ s m lt is. absurd (omega (arith, lt, all s (c.requires.over.markers.marked s m is).0)))) in
          idle.0;
      entries = λ q not. own_entries ways (g.D.Device.opened c.args.dev.now) (g.D.Device.opened c.sync.new.dev) (g.D.Device.opened c.sync.new.dev) (g.D.Device.opened c.sync.new.dev) (subst (λ (x : List ℕ). OthersOpened x (g.D.Device.opened c.args.dev.now) (g.D.Device.opened c.sync.new.dev)) here c.sync.ensures.entries) (none_leave _ (g.D.Device.opened c.sync.new.dev)) (none_leave _ (g.D.Device.opened c.sync.new.dev)) q not;
      full = λ full.
          let says = c.in_err-this.ensures.full.0 (full_markers c.from_residual.result c.in_err-this.field-0.0 is full) in
          (omega (arith, says.1, same), staged_marked p.store new c.args.min c.drop_below.ensures.still c.drop_below.ensures.marked c.drop_below.ensures.dropped c.requires.over.synced says.0);
      no_version = λ long some. no_value _ _ c.from_residual.ensures.0;
      full_idle = λ full. c.in_err-this.ensures.untouched (full_markers c.from_residual.result c.in_err-this.field-0.0 is full);
      lost = λ lost.
          elim (marked_below p.store.entries c.args.min) [
            | inl found ↦ found
            | inr none ↦ absurd (cc (c.in_err-this.ensures.idle (none_staged p.store new c.args.min c.drop_below.ensures.still c.drop_below.ensures.marked c.drop_below.ensures.dropped c.requires.over.synced none)).1)
          ];
      lost_first = λ t lost q is. sections_wait ways (g.D.Device.time c.args.dev.now) (g.D.Device.time c.sync.new.dev) (removes t) q is;
      fault = λ t has. absurd (markers_apart c.from_residual.result e (err_of c.from_residual.result (raised_metadata e) c.from_residual.ensures.1) has);
      faults = c.sync.ensures.faults;
      cause = search rules;
    }

pub returns-in_err-index : goal.returns-in_err-index
returns-in_err-index g c =
    let p = shown g.I.Record.place c.args.self in
    let new = (tracked.shown c.drop_below.new.self).store in
    let ways = prune_ways p (g.D.Device.opened c.args.dev.now) (disk (g.D.Device.time c.args.dev.now)) c.requires.over refl refl c.args.min in
    let here : new.partition ≡ p.layout.metadata = ap (λ (u : Store Key8 ℕ). u.partition) c.drop_below.ensures.staged in
    let u = (tracked.shown c.in_ok-this.field-0).store in
    let u_here : u.partition ≡ p.layout.metadata = ap (λ (w : Store Key8 ℕ). w.partition) c.in_ok-this.ensures.same ∙ synced_partition new ∙ here in
    let failed = err_of c.from_residual-in_err-index.result c.in_err-index.field-0.0 c.from_residual-in_err-index.ensures.1 in
    let removes = λ (t : g.D.Device.Tells). records_gone p.layout p.values (IsLost p c.args.min) (only_copies p.layout new (g.D.Device.time c.args.dev.now) (g.D.Device.time c.sync.new.dev) here (c.sync.ensures.alone t)) (c.prune.ensures.moments t) in
    record {
      over = no_value _ _ c.from_residual-in_err-index.ensures.0;
      sound = λ t sound. no_value _ _ c.from_residual-in_err-index.ensures.0;
      removed = no_value _ _ c.from_residual-in_err-index.ensures.0;
      stays = no_value _ _ c.from_residual-in_err-index.ensures.0;
      lists = λ t. no_value _ _ c.from_residual-in_err-index.ensures.0;
      synced = no_value _ _ c.from_residual-in_err-index.ensures.0;
      markers = no_value _ _ c.from_residual-in_err-index.ensures.0;
      unmarked = no_value _ _ c.from_residual-in_err-index.ensures.0;
      marker_floor = no_value _ _ c.from_residual-in_err-index.ensures.0;
      marked = no_value _ _ c.from_residual-in_err-index.ensures.0;
      flag = no_value _ _ c.from_residual-in_err-index.ensures.0;
      floor = no_value _ _ c.from_residual-in_err-index.ensures.0;
      same_floor = no_value _ _ c.from_residual-in_err-index.ensures.0;
      place = no_value _ _ c.from_residual-in_err-index.ensures.0;
      layout = no_value _ _ c.from_residual-in_err-index.ensures.0;
      codec_config = no_value _ _ c.from_residual-in_err-index.ensures.0;
      moments = λ t sound.
          let parts = parts_of p (g.D.Device.opened c.args.dev.now) (disk (g.D.Device.time c.args.dev.now)) c.requires.over t sound.sound refl refl refl refl (λ s v held. ap (λ (x : Setting). x.page_size) (c.requires.over.index.over.opened_list.setting s v held)) in
          let stands = c.drop_below.ensures.stands (contents_of p.store) (disk (g.D.Device.time c.args.dev.now)) (c.requires.over.disk t).markers in
          let maps = subst (λ (x : List ℕ). Mapping p.layout.markers x (contents_of p.store) (contents_of new) (g.D.Device.time c.args.dev.now) (g.D.Device.time c.sync.new.dev)) here (c.sync.ensures.crashes t (contents_of p.store) stands) in
          let settled = settled_keeps p.layout (tracked.shown c.in_ok-this.field-0).store (contents_of new) (disk (g.D.Device.time c.sync.new.dev)) (ap (λ (u : Store Key8 ℕ). u.partition) c.in_ok-this.ensures.same ∙ synced_partition new ∙ here) (c.in_ok-this.ensures.stands t (contents_of p.store) stands) in
          keeps_records ways g.met.I.CodecFixed.fixed.at_least (g.D.Device.time c.args.dev.now) parts t sound.floor (below_or_not c.args.min) (contents_of new) (ap (λ (w : Store Key8 ℕ). w.floor) c.drop_below.ensures.staged ∙ sound.floor) (λ s n is. (c.drop_below.ensures.marked s n is).1) (λ s n lt is. omega (arith, lt, (c.drop_below.ensures.marked s n is).0)) (g.D.Device.time c.sync.new.dev) maps settled (λ s is. known_held p (g.D.Device.opened c.args.dev.now) (disk (g.D.Device.time c.args.dev.now)) c.requires.over refl refl s is.0) (λ s lt held. (inl held, lt)) (g.D.Device.time c.prune.new.dev) (c.prune.ensures.moments t);
      alone = λ t none.
          let idle = c.sync.ensures.idle (none_staged p.store new c.args.min c.drop_below.ensures.still c.drop_below.ensures.marked c.drop_below.ensures.dropped c.requires.over.synced (λ s m lt is. none (s, lt, (m, is)))) in
          copies_alone ways (g.D.Device.time c.args.dev.now) (g.D.Device.time c.prune.new.dev) (removes t) (untouched_same (IsCopy p.layout) (g.D.Device.time c.args.dev.now) (g.D.Device.time c.sync.new.dev) (ap g.D.Device.time idle.0));
      untouched = λ t. prune_one p (g.D.Device.opened c.args.dev.now) (disk (g.D.Device.time c.args.dev.now)) c.requires.over refl refl c.args.min (g.D.Device.time c.args.dev.now) (g.D.Device.time c.prune.new.dev) (removes t);
      newer_stays = λ t. copy_stays ways (g.D.Device.time c.args.dev.now) (g.D.Device.time c.prune.new.dev) (removes t) (other_side p.store.older) (newer_stays p.layout new p.store.older (g.D.Device.time c.args.dev.now) (g.D.Device.time c.sync.new.dev) here (ap (λ (u : Store Key8 ℕ). u.older) c.drop_below.ensures.staged) (c.sync.ensures.alone t));
      markers_first = λ t. markers_first ways (g.D.Device.time c.args.dev.now) (g.D.Device.time c.prune.new.dev) (removes t);
      order = λ t. records_first ways (g.D.Device.time c.args.dev.now) (g.D.Device.time c.prune.new.dev) (removes t);
      ascending = λ t. ascending ways (g.D.Device.time c.args.dev.now) (g.D.Device.time c.prune.new.dev) (removes t) (λ s. IsHeld p.index.sections s × (s < c.args.min)) (λ s is. (inl is.0, is.1));
      values_ascending = λ t. values_ascending ways (g.D.Device.time c.args.dev.now) (g.D.Device.time c.prune.new.dev) (removes t) (λ s. IsHeld p.values s × (s < c.args.min)) (λ s is. (inl is.0, is.1));
      gone = λ t. no_value _ _ c.from_residual-in_err-index.ensures.0;
      gone_all = λ t. no_value _ _ c.from_residual-in_err-index.ensures.0;
      idle = λ all.
          let idle = c.sync.ensures.idle (none_staged p.store new c.args.min c.drop_below.ensures.still c.drop_below.ensures.marked c.drop_below.ensures.dropped c.requires.over.synced (λ s m lt is. absurd (omega (arith, lt, all s (c.requires.over.markers.marked s m is).0)))) in
          c.prune.ensures.idle (λ s known. all s (known_held p (g.D.Device.opened c.args.dev.now) (disk (g.D.Device.time c.args.dev.now)) c.requires.over refl refl s known)) ∙ idle.0;
      entries = λ q not. own_entries ways (g.D.Device.opened c.args.dev.now) (g.D.Device.opened c.sync.new.dev) (g.D.Device.opened c.prune.new.dev) (g.D.Device.opened c.prune.new.dev) (subst (λ (x : List ℕ). OthersOpened x (g.D.Device.opened c.args.dev.now) (g.D.Device.opened c.sync.new.dev)) here c.sync.ensures.entries) c.prune.ensures.entries (none_leave _ (g.D.Device.opened c.prune.new.dev)) q not;
      full = λ full. absurd (failed_full c.from_residual-in_err-index.result c.in_err-index.field-0.0 (g.D.Device.faults c.args.dev.now) (g.D.Device.faults c.sync.new.dev) (g.D.Device.faults c.prune.new.dev) failed c.in_err-index.ensures.cause full);
      no_version = λ long some. no_value _ _ c.from_residual-in_err-index.ensures.0;
      full_idle = λ full. absurd (failed_full c.from_residual-in_err-index.result c.in_err-index.field-0.0 (g.D.Device.faults c.args.dev.now) (g.D.Device.faults c.sync.new.dev) (g.D.Device.faults c.prune.new.dev) failed c.in_err-index.ensures.cause full);
      lost = λ lost. absurd (failed_lost c.from_residual-in_err-index.result c.in_err-index.field-0.0 (g.D.Device.faults c.args.dev.now) (g.D.Device.faults c.sync.new.dev) (g.D.Device.faults c.prune.new.dev) failed c.in_err-index.ensures.cause lost);
      lost_first = λ t lost. absurd (failed_lost c.from_residual-in_err-index.result c.in_err-index.field-0.0 (g.D.Device.faults c.args.dev.now) (g.D.Device.faults c.sync.new.dev) (g.D.Device.faults c.prune.new.dev) failed c.in_err-index.ensures.cause lost);
      fault = λ t is.
          dropped_still p c.args.min u (contents_of new) (disk (g.D.Device.time c.sync.new.dev)) (disk (g.D.Device.time c.prune.new.dev)) u_here c.in_ok-this.ensures.contents (copies_last ways (g.D.Device.time c.args.dev.now) (g.D.Device.time c.prune.new.dev) (removes t))
          (c.in_ok-this.ensures.stands t (contents_of p.store) (c.drop_below.ensures.stands (contents_of p.store) (disk (g.D.Device.time c.args.dev.now)) (c.requires.over.disk t).markers)) c.drop_below.ensures.marked (λ s from. (c.drop_below.ensures.above s from).1) (ap (λ (w : Store Key8 ℕ). w.floor) c.drop_below.ensures.staged);
      faults = omega (arith, c.sync.ensures.faults, c.prune.ensures.faults);
      cause = failed_cause c.from_residual-in_err-index.result c.in_err-index.field-0.0 (g.D.Device.faults c.args.dev.now) (g.D.Device.faults c.sync.new.dev) (g.D.Device.faults c.prune.new.dev) failed c.in_err-index.ensures.cause (omega (arith, c.sync.ensures.faults));
    }

pub returns-in_err-values : goal.returns-in_err-values
returns-in_err-values g c =
    let p = shown g.I.Record.place c.args.self in
    let new = (tracked.shown c.drop_below.new.self).store in
    let ways = prune_ways p (g.D.Device.opened c.args.dev.now) (disk (g.D.Device.time c.args.dev.now)) c.requires.over refl refl c.args.min in
    let here : new.partition ≡ p.layout.metadata = ap (λ (u : Store Key8 ℕ). u.partition) c.drop_below.ensures.staged in
    let u = (tracked.shown c.in_ok-this.field-0).store in
    let u_here : u.partition ≡ p.layout.metadata = ap (λ (w : Store Key8 ℕ). w.partition) c.in_ok-this.ensures.same ∙ synced_partition new ∙ here in
    let failed = err_of c.from_residual-in_err-values.result c.in_err-values.field-0.0 c.from_residual-in_err-values.ensures.1 in
    let removes = λ (t : g.D.Device.Tells). values_gone p.layout (only_copies p.layout new (g.D.Device.time c.args.dev.now) (g.D.Device.time c.sync.new.dev) here (c.sync.ensures.alone t)) (c.prune.ensures.moments t) (c.prune-2.ensures.moments t) in
    record {
      over = no_value _ _ c.from_residual-in_err-values.ensures.0;
      sound = λ t sound. no_value _ _ c.from_residual-in_err-values.ensures.0;
      removed = no_value _ _ c.from_residual-in_err-values.ensures.0;
      stays = no_value _ _ c.from_residual-in_err-values.ensures.0;
      lists = λ t. no_value _ _ c.from_residual-in_err-values.ensures.0;
      synced = no_value _ _ c.from_residual-in_err-values.ensures.0;
      markers = no_value _ _ c.from_residual-in_err-values.ensures.0;
      unmarked = no_value _ _ c.from_residual-in_err-values.ensures.0;
      marker_floor = no_value _ _ c.from_residual-in_err-values.ensures.0;
      marked = no_value _ _ c.from_residual-in_err-values.ensures.0;
      flag = no_value _ _ c.from_residual-in_err-values.ensures.0;
      floor = no_value _ _ c.from_residual-in_err-values.ensures.0;
      same_floor = no_value _ _ c.from_residual-in_err-values.ensures.0;
      place = no_value _ _ c.from_residual-in_err-values.ensures.0;
      layout = no_value _ _ c.from_residual-in_err-values.ensures.0;
      codec_config = no_value _ _ c.from_residual-in_err-values.ensures.0;
      moments = λ t sound.
          let parts = parts_of p (g.D.Device.opened c.args.dev.now) (disk (g.D.Device.time c.args.dev.now)) c.requires.over t sound.sound refl refl refl refl (λ s v held. ap (λ (x : Setting). x.page_size) (c.requires.over.index.over.opened_list.setting s v held)) in
          let stands = c.drop_below.ensures.stands (contents_of p.store) (disk (g.D.Device.time c.args.dev.now)) (c.requires.over.disk t).markers in
          let maps = subst (λ (x : List ℕ). Mapping p.layout.markers x (contents_of p.store) (contents_of new) (g.D.Device.time c.args.dev.now) (g.D.Device.time c.sync.new.dev)) here (c.sync.ensures.crashes t (contents_of p.store) stands) in
          let settled = settled_keeps p.layout (tracked.shown c.in_ok-this.field-0).store (contents_of new) (disk (g.D.Device.time c.sync.new.dev)) (ap (λ (u : Store Key8 ℕ). u.partition) c.in_ok-this.ensures.same ∙ synced_partition new ∙ here) (c.in_ok-this.ensures.stands t (contents_of p.store) stands) in
          keeps_values ways g.met.I.CodecFixed.fixed.at_least (g.D.Device.time c.args.dev.now) parts t sound.floor (below_or_not c.args.min) (contents_of new) (ap (λ (w : Store Key8 ℕ). w.floor) c.drop_below.ensures.staged ∙ sound.floor) (λ s n is. (c.drop_below.ensures.marked s n is).1) (λ s n lt is. omega (arith, lt, (c.drop_below.ensures.marked s n is).0)) (g.D.Device.time c.sync.new.dev) maps settled (λ s is. known_held p (g.D.Device.opened c.args.dev.now) (disk (g.D.Device.time c.args.dev.now)) c.requires.over refl refl s is.0) (λ s lt held. (inl held, lt)) (g.D.Device.time c.prune.new.dev) (c.prune.ensures.moments t) (g.D.Device.time c.prune-2.new.dev) (c.prune-2.ensures.moments t) (λ s lt held. c.in_ok-index.ensures.gone t s (inl held) lt);
      alone = λ t none.
          let idle = c.sync.ensures.idle (none_staged p.store new c.args.min c.drop_below.ensures.still c.drop_below.ensures.marked c.drop_below.ensures.dropped c.requires.over.synced (λ s m lt is. none (s, lt, (m, is)))) in
          copies_alone ways (g.D.Device.time c.args.dev.now) (g.D.Device.time c.prune-2.new.dev) (removes t) (untouched_same (IsCopy p.layout) (g.D.Device.time c.args.dev.now) (g.D.Device.time c.sync.new.dev) (ap g.D.Device.time idle.0));
      untouched = λ t. prune_one p (g.D.Device.opened c.args.dev.now) (disk (g.D.Device.time c.args.dev.now)) c.requires.over refl refl c.args.min (g.D.Device.time c.args.dev.now) (g.D.Device.time c.prune-2.new.dev) (removes t);
      newer_stays = λ t. copy_stays ways (g.D.Device.time c.args.dev.now) (g.D.Device.time c.prune-2.new.dev) (removes t) (other_side p.store.older) (newer_stays p.layout new p.store.older (g.D.Device.time c.args.dev.now) (g.D.Device.time c.sync.new.dev) here (ap (λ (u : Store Key8 ℕ). u.older) c.drop_below.ensures.staged) (c.sync.ensures.alone t));
      markers_first = λ t. markers_first ways (g.D.Device.time c.args.dev.now) (g.D.Device.time c.prune-2.new.dev) (removes t);
      order = λ t. records_first ways (g.D.Device.time c.args.dev.now) (g.D.Device.time c.prune-2.new.dev) (removes t);
      ascending = λ t. ascending ways (g.D.Device.time c.args.dev.now) (g.D.Device.time c.prune-2.new.dev) (removes t) (λ s. IsHeld p.index.sections s × (s < c.args.min)) (λ s is. (inl is.0, is.1));
      values_ascending = λ t. values_ascending ways (g.D.Device.time c.args.dev.now) (g.D.Device.time c.prune-2.new.dev) (removes t) (λ s. IsHeld p.values s × (s < c.args.min)) (λ s is. (inl is.0, is.1));
      gone = λ t. no_value _ _ c.from_residual-in_err-values.ensures.0;
      gone_all = λ t. no_value _ _ c.from_residual-in_err-values.ensures.0;
      idle = λ all.
          let idle = c.sync.ensures.idle (none_staged p.store new c.args.min c.drop_below.ensures.still c.drop_below.ensures.marked c.drop_below.ensures.dropped c.requires.over.synced (λ s m lt is. absurd (omega (arith, lt, all s (c.requires.over.markers.marked s m is).0)))) in
          c.prune-2.ensures.idle (λ s known. all s (known_valued p (g.D.Device.opened c.args.dev.now) (disk (g.D.Device.time c.args.dev.now)) c.requires.over refl refl s known)) ∙ c.prune.ensures.idle (λ s known. all s (known_held p (g.D.Device.opened c.args.dev.now) (disk (g.D.Device.time c.args.dev.now)) c.requires.over refl refl s known)) ∙ idle.0;
      entries = λ q not. own_entries ways (g.D.Device.opened c.args.dev.now) (g.D.Device.opened c.sync.new.dev) (g.D.Device.opened c.prune.new.dev) (g.D.Device.opened c.prune-2.new.dev) (subst (λ (x : List ℕ). OthersOpened x (g.D.Device.opened c.args.dev.now) (g.D.Device.opened c.sync.new.dev)) here c.sync.ensures.entries) c.prune.ensures.entries c.prune-2.ensures.entries q not;
      full = λ full. absurd (failed_full c.from_residual-in_err-values.result c.in_err-values.field-0.0 (g.D.Device.faults c.args.dev.now) (g.D.Device.faults c.prune.new.dev) (g.D.Device.faults c.prune-2.new.dev) failed c.in_err-values.ensures.cause full);
      no_version = λ long some. no_value _ _ c.from_residual-in_err-values.ensures.0;
      full_idle = λ full. absurd (failed_full c.from_residual-in_err-values.result c.in_err-values.field-0.0 (g.D.Device.faults c.args.dev.now) (g.D.Device.faults c.prune.new.dev) (g.D.Device.faults c.prune-2.new.dev) failed c.in_err-values.ensures.cause full);
      lost = λ lost. absurd (failed_lost c.from_residual-in_err-values.result c.in_err-values.field-0.0 (g.D.Device.faults c.args.dev.now) (g.D.Device.faults c.prune.new.dev) (g.D.Device.faults c.prune-2.new.dev) failed c.in_err-values.ensures.cause lost);
      lost_first = λ t lost. absurd (failed_lost c.from_residual-in_err-values.result c.in_err-values.field-0.0 (g.D.Device.faults c.args.dev.now) (g.D.Device.faults c.prune.new.dev) (g.D.Device.faults c.prune-2.new.dev) failed c.in_err-values.ensures.cause lost);
      fault = λ t is.
          dropped_still p c.args.min u (contents_of new) (disk (g.D.Device.time c.sync.new.dev)) (disk (g.D.Device.time c.prune-2.new.dev)) u_here c.in_ok-this.ensures.contents (copies_last ways (g.D.Device.time c.args.dev.now) (g.D.Device.time c.prune-2.new.dev) (removes t))
          (c.in_ok-this.ensures.stands t (contents_of p.store) (c.drop_below.ensures.stands (contents_of p.store) (disk (g.D.Device.time c.args.dev.now)) (c.requires.over.disk t).markers)) c.drop_below.ensures.marked (λ s from. (c.drop_below.ensures.above s from).1) (ap (λ (w : Store Key8 ℕ). w.floor) c.drop_below.ensures.staged);
      faults = omega (arith, c.sync.ensures.faults, c.prune.ensures.faults, c.prune-2.ensures.faults);
      cause = failed_cause c.from_residual-in_err-values.result c.in_err-values.field-0.0 (g.D.Device.faults c.args.dev.now) (g.D.Device.faults c.prune.new.dev) (g.D.Device.faults c.prune-2.new.dev) failed c.in_err-values.ensures.cause (omega (arith, c.sync.ensures.faults, c.prune.ensures.faults));
    }

pub returns : goal.returns
returns g c =
    let p = shown g.I.Record.place c.args.self in
    let new = (tracked.shown c.drop_below.new.self).store in
    let ways = prune_ways p (g.D.Device.opened c.args.dev.now) (disk (g.D.Device.time c.args.dev.now)) c.requires.over refl refl c.args.min in
    let here : new.partition ≡ p.layout.metadata = ap (λ (u : Store Key8 ℕ). u.partition) c.drop_below.ensures.staged in
    let i = fixed.shown c.in_ok-index.index in
    let v = manager.shown c.in_ok-values.values.manager in
    let u = (tracked.shown c.in_ok-this.field-0).store in
    let trailing = (tracked.shown c.in_ok-this.field-0).trailing in
    let entries : u.entries ≡ new.entries = c.in_ok-this.ensures.markers in
    let removed : IsRemoved p i v u trailing c.args.min = record {
      index_gone = c.in_ok-index.ensures.removed;
      index_kept = c.in_ok-index.ensures.kept;
      values_gone = c.in_ok-values.ensures.removed;
      values_kept = c.in_ok-values.ensures.kept;
      free = c.in_ok-index.ensures.recovered;
      owes = c.in_ok-index.ensures.unrecovered;
      lifted = c.in_ok-index.ensures.lifted;
      floors = c.in_ok-index.ensures.floors;
      below = λ s lt. (ap (λ (f : ℕ → Option ℕ). f s) c.in_ok-this.ensures.trailing ∙ (c.drop_below.ensures.below s lt).0, ap (λ (m : MarkerMap). marker_of m s) entries ∙ (c.drop_below.ensures.below s lt).1);
      above = λ s from. (ap (λ (f : ℕ → Option ℕ). f s) c.in_ok-this.ensures.trailing ∙ (c.drop_below.ensures.above s from).0, ap (λ (m : MarkerMap). marker_of m s) entries ∙ (c.drop_below.ensures.above s from).1);
      marked = λ s n is. c.drop_below.ensures.marked s n (subst (λ (m : MarkerMap). IsMarked m s n) entries is);
    } in
    let u_here : u.partition ≡ p.layout.metadata = ap (λ (w : Store Key8 ℕ). w.partition) c.in_ok-this.ensures.same ∙ synced_partition new ∙ here in
    let layout = same_layout p.layout i.sections.partition v.partition u.partition i.sections.factory.pages.page_size c.in_ok-index.ensures.place.partition c.in_ok-values.ensures.place.partition u_here (ap (λ (f : AppendFactory _). f.pages.page_size) c.in_ok-index.ensures.place.factory) in
    let removes = λ (t : g.D.Device.Tells). values_gone p.layout (only_copies p.layout new (g.D.Device.time c.args.dev.now) (g.D.Device.time c.sync.new.dev) here (c.sync.ensures.alone t)) (c.prune.ensures.moments t) (c.prune-2.ensures.moments t) in
    let q : Pair _ _ = record { layout = record p.layout { index = i.sections.partition; values = v.partition; metadata = u.partition; page_size = i.sections.factory.pages.page_size }; index = i; values = v; store = u; trailing = trailing } in
    let journal = journal_stays p.layout.seal p.layout.record_size i (g.D.Device.opened c.prune.new.dev) (g.D.Device.opened c.prune-2.new.dev) (disk (g.D.Device.time c.prune.new.dev)) (disk (g.D.Device.time c.prune-2.new.dev)) (λ s lt. subst (λ (x : List ℕ). (g.D.Device.opened c.prune-2.new.dev) (section_key x s) ≡ (g.D.Device.opened c.prune.new.dev) (section_key x s)) (sym c.in_ok-index.ensures.place.partition) (index_still_opened ways (g.D.Device.opened c.args.dev.now) (g.D.Device.opened c.sync.new.dev) (g.D.Device.opened c.prune.new.dev) (g.D.Device.opened c.prune-2.new.dev) (subst (λ (x : List ℕ). OthersOpened x (g.D.Device.opened c.args.dev.now) (g.D.Device.opened c.sync.new.dev)) here c.sync.ensures.entries) c.prune.ensures.entries c.prune-2.ensures.entries s)) (λ t s lt. subst (λ (x : List ℕ). disk (g.D.Device.time c.prune-2.new.dev) (section_key x s) ≡ disk (g.D.Device.time c.prune.new.dev) (section_key x s)) (sym c.in_ok-index.ensures.place.partition) (index_last ways (g.D.Device.time c.args.dev.now) (g.D.Device.time c.prune-2.new.dev) (removes t) s)) c.in_ok-index.ensures.over in
    let stands = λ (t : g.D.Device.Tells). stands_stays p.layout.markers u (contents_of u) (disk (g.D.Device.time c.sync.new.dev)) (disk (g.D.Device.time c.prune-2.new.dev)) (λ side. subst (λ (x : List ℕ). disk (g.D.Device.time c.prune-2.new.dev) (blob_of x side) ≡ disk (g.D.Device.time c.sync.new.dev) (blob_of x side)) (sym u_here) (copies_last ways (g.D.Device.time c.args.dev.now) (g.D.Device.time c.prune-2.new.dev) (removes t) side))
    (subst (λ (m : Contents Key8 ℕ). Stands p.layout.markers u m (disk (g.D.Device.time c.sync.new.dev))) (sym c.in_ok-this.ensures.contents) (c.in_ok-this.ensures.stands t (contents_of p.store) (c.drop_below.ensures.stands (contents_of p.store) (disk (g.D.Device.time c.args.dev.now)) (c.requires.over.disk t).markers))) in
    let floors = removed_floors p i v u trailing c.args.min removed c.in_ok-index.records c.in_ok-values.frames c.requires.over.whole (λ s held. c.requires.over.index.over.opened_list.from_floor s (inl held))
    (record { flag = c.in_ok-index.ensures.flag; floor = c.in_ok-index.ensures.floor; same_floor = c.in_ok-index.ensures.same_floor })
    (record { flag = c.in_ok-values.ensures.flag; floor = c.in_ok-values.ensures.floor; same_floor = c.in_ok-values.ensures.same_floor }) in
    let opened = opened_stays u.partition (g.D.Device.opened c.sync.new.dev) (g.D.Device.opened c.prune-2.new.dev) (λ side. subst (λ (x : List ℕ). (g.D.Device.opened c.prune-2.new.dev) (blob_of x side) ≡ (g.D.Device.opened c.sync.new.dev) (blob_of x side)) (sym u_here) (copies_opened ways (g.D.Device.opened c.args.dev.now) (g.D.Device.opened c.sync.new.dev) (g.D.Device.opened c.prune.new.dev) (g.D.Device.opened c.prune-2.new.dev) (subst (λ (x : List ℕ). OthersOpened x (g.D.Device.opened c.args.dev.now) (g.D.Device.opened c.sync.new.dev)) here c.sync.ensures.entries) c.prune.ensures.entries c.prune-2.ensures.entries side))
    (subst (λ (x : List ℕ). IsOpened x (g.D.Device.opened c.sync.new.dev)) (sym (ap (λ (w : Store Key8 ℕ). w.partition) c.in_ok-this.ensures.same ∙ synced_partition new)) c.sync.ensures.opened) in
    let fresh = ap (λ (w : Store Key8 ℕ). w.staged) c.in_ok-this.ensures.same ∙ synced_fresh new in
    let storable = subst (MayBeSynced p.layout.markers) (sym entries) (c.drop_below.ensures.storable c.requires.over.storable) in
    let is : c.if-records.result ≡ (c.in_ok-index.records || c.in_ok-values.frames) = elim c.if-records.branch [
      | then-records w ↦ search rules
      | else-records w ↦ search rules
    ] in
    let same : new.version ≡ p.store.version = ap (λ (u : Store Key8 ℕ). u.version) c.drop_below.ensures.staged in
    record {
      over = pair_at q p.layout layout (removed_pair p i v u trailing c.args.min removed _ _ _ _ (g.D.Device.opened c.args.dev.now) (g.D.Device.opened c.prune-2.new.dev) (disk (g.D.Device.time c.args.dev.now)) (disk (g.D.Device.time c.prune-2.new.dev)) c.requires.over journal c.in_ok-values.ensures.over opened storable fresh c.in_ok-index.ensures.ceiling c.in_ok-values.ensures.ceiling floors (λ t. record { markers = stands t }));
      sound = λ t sound.
          let index_same = λ (s : ℕ) (from : c.args.min ≤ s). index_bytes p.index.sections i.sections (disk (g.D.Device.time c.args.dev.now)) (disk (g.D.Device.time c.prune-2.new.dev)) s (c.in_ok-index.ensures.kept s from).held
          (λ held. ap (λ (x : List ℕ). disk (g.D.Device.time c.prune-2.new.dev) (section_key x s)) c.in_ok-index.ensures.place.partition ∙ index_undoomed ways (g.D.Device.time c.args.dev.now) (g.D.Device.time c.prune-2.new.dev) (removes t) s (c.requires.over.index.over.opened_list.number s (inl held)) (λ is. absurd (omega (arith, is.1, from)))) in
          let values_same = λ (s : ℕ) (from : c.args.min ≤ s). c.in_ok-values.ensures.bytes t s from ∙ ap (λ (b : Blob). glob.bytes_held (p.values.held s) b.content) (values_first ways (g.D.Device.time c.args.dev.now) (g.D.Device.time c.prune-2.new.dev) (removes t) s) in
          at_layout q p.layout (λ x. IsSoundOn x (disk (g.D.Device.time c.prune-2.new.dev))) layout (removed_sound p i v u trailing c.args.min removed (disk (g.D.Device.time c.args.dev.now)) (disk (g.D.Device.time c.prune-2.new.dev)) index_same values_same g.met.I.CodecFixed.fixed.at_least
          (λ s lt held. index_last ways (g.D.Device.time c.args.dev.now) (g.D.Device.time c.prune-2.new.dev) (removes t) s ∙ c.in_ok-index.ensures.gone t s (inl held) lt)
          (λ s small not. index_undoomed ways (g.D.Device.time c.args.dev.now) (g.D.Device.time c.prune-2.new.dev) (removes t) s small (λ is. not is.1 (known_held p (g.D.Device.opened c.args.dev.now) (disk (g.D.Device.time c.args.dev.now)) c.requires.over refl refl s is.0))) sound);
      removed = λ s lt. ((c.in_ok-index.ensures.removed s lt).held, (c.in_ok-values.ensures.removed s lt).held);
      stays = λ s from. (c.in_ok-index.ensures.kept s from, c.in_ok-values.ensures.kept s from);
      lists = λ t s from.
          let index_same = λ (s : ℕ) (from : c.args.min ≤ s). index_bytes p.index.sections i.sections (disk (g.D.Device.time c.args.dev.now)) (disk (g.D.Device.time c.prune-2.new.dev)) s (c.in_ok-index.ensures.kept s from).held
          (λ held. ap (λ (x : List ℕ). disk (g.D.Device.time c.prune-2.new.dev) (section_key x s)) c.in_ok-index.ensures.place.partition ∙ index_undoomed ways (g.D.Device.time c.args.dev.now) (g.D.Device.time c.prune-2.new.dev) (removes t) s (c.requires.over.index.over.opened_list.number s (inl held)) (λ is. absurd (omega (arith, is.1, from)))) in
          let values_same = λ (s : ℕ) (from : c.args.min ≤ s). c.in_ok-values.ensures.bytes t s from ∙ ap (λ (b : Blob). glob.bytes_held (p.values.held s) b.content) (values_first ways (g.D.Device.time c.args.dev.now) (g.D.Device.time c.prune-2.new.dev) (removes t) s) in
          at_layout q p.layout (λ x. list_of x (disk (g.D.Device.time c.prune-2.new.dev)) s ≡ list_of p (disk (g.D.Device.time c.args.dev.now)) s) layout (removed_list p i v u trailing c.args.min removed (disk (g.D.Device.time c.args.dev.now)) (disk (g.D.Device.time c.prune-2.new.dev)) index_same values_same s from);
      synced = removed_synced p i v u trailing c.args.min removed;
      markers = λ s from. (removed.above s from).1;
      unmarked = λ s lt. (removed.below s lt).1;
      marker_floor = ap (λ (w : Contents Key8 ℕ). w.floor) c.in_ok-this.ensures.contents ∙ ap (λ (w : Store Key8 ℕ). w.floor) c.drop_below.ensures.staged;
      marked = λ s m is. c.drop_below.ensures.marked s m (subst (λ (x : MarkerMap). IsMarked x s m) c.in_ok-this.ensures.markers is);
      flag = subst (λ (b : Bool). IsTrue b ↔ ((s : ℕ) × IsHeld p.index.sections s × (s < c.args.min))) (sym is) (either_flag p.index.sections i.sections p.values v c.args.min c.in_ok-index.records c.in_ok-values.frames c.requires.over.whole.index_known c.requires.over.whole.values_known c.requires.over.whole.values_held
          (record { flag = c.in_ok-index.ensures.flag; floor = c.in_ok-index.ensures.floor; same_floor = c.in_ok-index.ensures.same_floor })
          (record { flag = c.in_ok-values.ensures.flag; floor = c.in_ok-values.ensures.floor; same_floor = c.in_ok-values.ensures.same_floor }));
      floor = λ lifted.
          either_floor p.index.sections i.sections p.values v c.args.min c.in_ok-index.records c.in_ok-values.frames c.requires.over.whole.index_known c.requires.over.whole.values_known c.requires.over.whole.values_held
          (record { flag = c.in_ok-index.ensures.flag; floor = c.in_ok-index.ensures.floor; same_floor = c.in_ok-index.ensures.same_floor })
          (record { flag = c.in_ok-values.ensures.flag; floor = c.in_ok-values.ensures.floor; same_floor = c.in_ok-values.ensures.same_floor }) (subst IsTrue is lifted);
      same_floor = search rules;
      place = (c.in_ok-index.ensures.place, c.in_ok-values.ensures.place);
      layout = search rules;
      codec_config = c.in_ok-values.ensures.codec_config;
      moments = λ t sound.
          let parts = parts_of p (g.D.Device.opened c.args.dev.now) (disk (g.D.Device.time c.args.dev.now)) c.requires.over t sound.sound refl refl refl refl (λ s v held. ap (λ (x : Setting). x.page_size) (c.requires.over.index.over.opened_list.setting s v held)) in
          let stands = c.drop_below.ensures.stands (contents_of p.store) (disk (g.D.Device.time c.args.dev.now)) (c.requires.over.disk t).markers in
          let maps = subst (λ (x : List ℕ). Mapping p.layout.markers x (contents_of p.store) (contents_of new) (g.D.Device.time c.args.dev.now) (g.D.Device.time c.sync.new.dev)) here (c.sync.ensures.crashes t (contents_of p.store) stands) in
          let settled = settled_keeps p.layout (tracked.shown c.in_ok-this.field-0).store (contents_of new) (disk (g.D.Device.time c.sync.new.dev)) (ap (λ (u : Store Key8 ℕ). u.partition) c.in_ok-this.ensures.same ∙ synced_partition new ∙ here) (c.in_ok-this.ensures.stands t (contents_of p.store) stands) in
          keeps_values ways g.met.I.CodecFixed.fixed.at_least (g.D.Device.time c.args.dev.now) parts t sound.floor (below_or_not c.args.min) (contents_of new) (ap (λ (w : Store Key8 ℕ). w.floor) c.drop_below.ensures.staged ∙ sound.floor) (λ s n is. (c.drop_below.ensures.marked s n is).1) (λ s n lt is. omega (arith, lt, (c.drop_below.ensures.marked s n is).0)) (g.D.Device.time c.sync.new.dev) maps settled (λ s is. known_held p (g.D.Device.opened c.args.dev.now) (disk (g.D.Device.time c.args.dev.now)) c.requires.over refl refl s is.0) (λ s lt held. (inl held, lt)) (g.D.Device.time c.prune.new.dev) (c.prune.ensures.moments t) (g.D.Device.time c.prune-2.new.dev) (c.prune-2.ensures.moments t) (λ s lt held. c.in_ok-index.ensures.gone t s (inl held) lt);
      alone = λ t none.
          let removes = values_gone p.layout (only_copies p.layout new (g.D.Device.time c.args.dev.now) (g.D.Device.time c.sync.new.dev) here (c.sync.ensures.alone t)) (c.prune.ensures.moments t) (c.prune-2.ensures.moments t) in
          let idle = c.sync.ensures.idle (none_staged p.store new c.args.min c.drop_below.ensures.still c.drop_below.ensures.marked c.drop_below.ensures.dropped c.requires.over.synced (λ s m lt is. none (s, lt, (m, is)))) in
          copies_alone ways (g.D.Device.time c.args.dev.now) (g.D.Device.time c.prune-2.new.dev) removes (untouched_same (IsCopy p.layout) (g.D.Device.time c.args.dev.now) (g.D.Device.time c.sync.new.dev) (ap g.D.Device.time idle.0));
      untouched = λ t.
          let removes = values_gone p.layout (only_copies p.layout new (g.D.Device.time c.args.dev.now) (g.D.Device.time c.sync.new.dev) here (c.sync.ensures.alone t)) (c.prune.ensures.moments t) (c.prune-2.ensures.moments t) in
          prune_one p (g.D.Device.opened c.args.dev.now) (disk (g.D.Device.time c.args.dev.now)) c.requires.over refl refl c.args.min (g.D.Device.time c.args.dev.now) (g.D.Device.time c.prune-2.new.dev) removes;
      newer_stays = λ t.
          let removes = values_gone p.layout (only_copies p.layout new (g.D.Device.time c.args.dev.now) (g.D.Device.time c.sync.new.dev) here (c.sync.ensures.alone t)) (c.prune.ensures.moments t) (c.prune-2.ensures.moments t) in
          copy_stays ways (g.D.Device.time c.args.dev.now) (g.D.Device.time c.prune-2.new.dev) removes (other_side p.store.older) (newer_stays p.layout new p.store.older (g.D.Device.time c.args.dev.now) (g.D.Device.time c.sync.new.dev) here (ap (λ (u : Store Key8 ℕ). u.older) c.drop_below.ensures.staged) (c.sync.ensures.alone t));
      markers_first = λ t.
          let removes = values_gone p.layout (only_copies p.layout new (g.D.Device.time c.args.dev.now) (g.D.Device.time c.sync.new.dev) here (c.sync.ensures.alone t)) (c.prune.ensures.moments t) (c.prune-2.ensures.moments t) in
          markers_first ways (g.D.Device.time c.args.dev.now) (g.D.Device.time c.prune-2.new.dev) removes;
      order = λ t.
          let removes = values_gone p.layout (only_copies p.layout new (g.D.Device.time c.args.dev.now) (g.D.Device.time c.sync.new.dev) here (c.sync.ensures.alone t)) (c.prune.ensures.moments t) (c.prune-2.ensures.moments t) in
          records_first ways (g.D.Device.time c.args.dev.now) (g.D.Device.time c.prune-2.new.dev) removes;
      ascending = λ t.
          let removes = values_gone p.layout (only_copies p.layout new (g.D.Device.time c.args.dev.now) (g.D.Device.time c.sync.new.dev) here (c.sync.ensures.alone t)) (c.prune.ensures.moments t) (c.prune-2.ensures.moments t) in
          ascending ways (g.D.Device.time c.args.dev.now) (g.D.Device.time c.prune-2.new.dev) removes (λ s. IsHeld p.index.sections s × (s < c.args.min)) (λ s is. (inl is.0, is.1));
      values_ascending = λ t.
          let removes = values_gone p.layout (only_copies p.layout new (g.D.Device.time c.args.dev.now) (g.D.Device.time c.sync.new.dev) here (c.sync.ensures.alone t)) (c.prune.ensures.moments t) (c.prune-2.ensures.moments t) in
          values_ascending ways (g.D.Device.time c.args.dev.now) (g.D.Device.time c.prune-2.new.dev) removes (λ s. IsHeld p.values s × (s < c.args.min)) (λ s is. (inl is.0, is.1));
      gone = λ t s lt small.
          let removes = values_gone p.layout (only_copies p.layout new (g.D.Device.time c.args.dev.now) (g.D.Device.time c.sync.new.dev) here (c.sync.ensures.alone t)) (c.prune.ensures.moments t) (c.prune-2.ensures.moments t) in
          let absent = gone_absent i.sections (g.D.Device.opened c.prune.new.dev) (disk (g.D.Device.time c.prune.new.dev)) c.in_ok-index.ensures.over.over t s small (c.in_ok-index.ensures.removed s lt) in
          (λ there. absent (subst (λ (b : Blob). IsTrue b.there) (index_last ways (g.D.Device.time c.args.dev.now) (g.D.Device.time c.prune-2.new.dev) removes s ∙ ap (λ (x : List ℕ). disk (g.D.Device.time c.prune.new.dev) (section_key x s)) (sym c.in_ok-index.ensures.place.partition)) there), c.in_ok-values.ensures.gone t s lt);
      gone_all = λ t s lt.
          let removes = values_gone p.layout (only_copies p.layout new (g.D.Device.time c.args.dev.now) (g.D.Device.time c.sync.new.dev) here (c.sync.ensures.alone t)) (c.prune.ensures.moments t) (c.prune-2.ensures.moments t) in
          (λ held. index_last ways (g.D.Device.time c.args.dev.now) (g.D.Device.time c.prune-2.new.dev) removes s ∙ c.in_ok-index.ensures.gone t s (inl held) lt, λ held. c.in_ok-values.ensures.gone_all t s (inl held) lt);
      idle = λ all.
          let idle = c.sync.ensures.idle (none_staged p.store new c.args.min c.drop_below.ensures.still c.drop_below.ensures.marked c.drop_below.ensures.dropped c.requires.over.synced (λ s m lt is. absurd (omega (arith, lt, all s (c.requires.over.markers.marked s m is).0)))) in
          c.prune-2.ensures.idle (λ s known. all s (known_valued p (g.D.Device.opened c.args.dev.now) (disk (g.D.Device.time c.args.dev.now)) c.requires.over refl refl s known)) ∙ c.prune.ensures.idle (λ s known. all s (known_held p (g.D.Device.opened c.args.dev.now) (disk (g.D.Device.time c.args.dev.now)) c.requires.over refl refl s known)) ∙ idle.0;
      entries = λ q not. own_entries ways (g.D.Device.opened c.args.dev.now) (g.D.Device.opened c.sync.new.dev) (g.D.Device.opened c.prune.new.dev) (g.D.Device.opened c.prune-2.new.dev) (subst (λ (x : List ℕ). OthersOpened x (g.D.Device.opened c.args.dev.now) (g.D.Device.opened c.sync.new.dev)) here c.sync.ensures.entries) c.prune.ensures.entries c.prune-2.ensures.entries q not;
      full = λ full. absurd (no_error _ _ full);
      no_version = λ room found.
          let staged = marked_staged p.store new c.args.min c.drop_below.ensures.still c.drop_below.ensures.marked c.drop_below.ensures.dropped c.requires.over.synced found.0 found.2.0 found.1 found.2.1 in
          cc (c.in_ok-this.ensures.full.1 (staged, omega (arith, room, same)));
      full_idle = λ full. absurd (no_error _ _ full);
      lost = λ lost. absurd (no_error _ _ lost.0);
      lost_first = λ t lost. absurd (no_error _ _ lost.0);
      fault = λ t fault. absurd (no_error _ _ fault);
      faults = omega (arith, c.sync.ensures.faults, c.prune.ensures.faults, c.prune-2.ensures.faults);
      cause = tt;
    }
