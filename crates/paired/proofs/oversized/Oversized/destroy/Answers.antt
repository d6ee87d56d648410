use Rattle.std.proofs.Common.{◌≡◌, inl, Option, IsTrue, IsSomeAnd, refl, sym, ◌∙◌, ap, subst, arith, rules}
use Rattle.blob_device.specs.Disk.{Key, Blob, nothing}
use Rattle.blob_device.specs.Opened.{Opened}
use Rattle.blob_device.specs.Timeline.{disk}
use Rattle.meta_store.specs.Pairs.{empty_map}
use Rattle.meta_store.specs.Store.{contents_of}
use Rattle.section_manager.specs.Raised.{raised_metadata}
use Rattle.section_manager.specs.Sections.{IsHeld, IsKnown}
use Rattle.section_manager.specs.Setting.{Setting}
use Rattle.paired.specs.PairShown.{shown}
use Rattle.paired.specs.lemmas.Glob.{glob_stays}
use Rattle.paired.proofs.FailLemmas.{failed_as}
use Rattle.paired.proofs.pair.Failing.{failed_before, failed_or_lost, not_lost}
use Rattle.paired.proofs.pair.FaultLemmas.{markers_apart}
use Rattle.paired.proofs.pair.Facts.{copies_gone}
use Rattle.paired.proofs.pair.Passing.{failed_lost, no_value}
use Rattle.paired.proofs.pair.Stays.{journal_stays}
use Rattle.paired.proofs.pair.Removing.{ascending, values_ascending, destroy_one, copies_go, copies_removed, copies_last, sections_wait, markers_gone, records_gone, values_gone, only_copies_go, none_leave, parts_of, destroy_ways, known_held, markers_first, records_first, index_first, index_last, values_first, own_entries, index_opened, values_opened, keeps_markers, keeps_records, keeps_values}
use Rattle.paired.proofs.oversized.Oversized.destroy.Goals as goal
use Rattle.blob_device.proofs.general.Results.{err_of, err_with, ok_with, on_ok}

-- the markers are left
pub returns-in_err-destroy : goal.returns-in_err-destroy
returns-in_err-destroy g c =
    let p = shown g.I.Record.place c.args.self in
    let a = g.D.Device.time c.args.dev.now in
    let b = g.D.Device.time c.destroy.new.dev in
    let e = g.D.Device.time c.destroy.new.dev in
    let before = g.D.Device.opened c.args.dev.now in
    let ways = destroy_ways p before (disk a) c.requires.over refl refl in
    let removes = λ (t : g.D.Device.Tells). markers_gone p.layout p.index.sections p.values (IsKnown p.index.sections) (IsKnown p.values) (only_copies_go p.layout p.store a b refl (c.destroy.ensures.moments t)) in
    record {
      moments = λ t sound.
          let parts = parts_of p before (disk a) c.requires.over t sound.sound refl refl refl refl (λ s v held. ap (λ (x : Setting). x.page_size) (c.requires.over.index.over.opened_list.setting s v held)) in
          keeps_markers ways g.met.I.CodecFixed.fixed.at_least a parts t sound.floor (λ s. inl tt) empty_map refl (λ s n is. absurd (cc is.1)) (λ s n named is. cc is.1) b (c.destroy.ensures.crashes t (contents_of p.store) (c.requires.over.disk t).markers);
      untouched = λ t. destroy_one p before (disk a) c.requires.over refl refl a e (removes t);
      markers_first = λ t. markers_first ways a e (removes t);
      order = λ t. records_first ways a e (removes t);
      ascending = λ t. ascending ways a e (removes t) (IsHeld p.index.sections) (λ s is. inl is);
      values_ascending = λ t. values_ascending ways a e (removes t) (IsHeld p.values) (λ s is. inl is);
      copies = λ t. copies_go ways a e (removes t) (copies_removed p.store a b (c.destroy.ensures.moments t));
      gone = λ t. no_value _ _ c.from_residual.ensures.0;
      gone_all = λ t. no_value _ _ c.from_residual.ensures.0;
      markers_gone = λ t. no_value _ _ c.from_residual.ensures.0;
      entries = λ q not. own_entries ways before (g.D.Device.opened c.destroy.new.dev) (g.D.Device.opened c.destroy.new.dev) (g.D.Device.opened c.destroy.new.dev) c.destroy.ensures.entries (none_leave _ (g.D.Device.opened c.destroy.new.dev)) (none_leave _ (g.D.Device.opened c.destroy.new.dev)) q not;
      faults = c.destroy.ensures.faults;
      lost_first = λ t lost q is. sections_wait ways a e (removes t) q is;
      fault = λ t has q copy. absurd (markers_apart c.from_residual.result c.in_err-destroy.field-0.0 (err_of c.from_residual.result (raised_metadata c.in_err-destroy.field-0.0) c.from_residual.ensures.1) has);
      cause = search rules;
    }

-- records are left
pub returns-in_err-destroy-2 : goal.returns-in_err-destroy-2
returns-in_err-destroy-2 g c =
    let p = shown g.I.Record.place c.args.self in
    let a = g.D.Device.time c.args.dev.now in
    let b = g.D.Device.time c.destroy.new.dev in
    let e = g.D.Device.time c.destroy-2.new.dev in
    let before = g.D.Device.opened c.args.dev.now in
    let ways = destroy_ways p before (disk a) c.requires.over refl refl in
    let removes = λ (t : g.D.Device.Tells). records_gone p.layout p.values (IsKnown p.values) (only_copies_go p.layout p.store a b refl (c.destroy.ensures.moments t)) (c.destroy-2.ensures.moments t) in
    let w = c.in_err-destroy-2.field-0.0 in
    let is = err_of c.from_residual-in_err-destroy-2.result w c.from_residual-in_err-destroy-2.ensures.1 in
    record {
      moments = λ t sound.
          let parts = parts_of p before (disk a) c.requires.over t sound.sound refl refl refl refl (λ s v held. ap (λ (x : Setting). x.page_size) (c.requires.over.index.over.opened_list.setting s v held)) in
          keeps_records ways g.met.I.CodecFixed.fixed.at_least a parts t sound.floor (λ s. inl tt) empty_map refl (λ s n is. absurd (cc is.1)) (λ s n named is. cc is.1) b (c.destroy.ensures.crashes t (contents_of p.store) (c.requires.over.disk t).markers)
          (copies_gone p.layout (disk b) (λ side. c.in_ok-destroy.ensures.gone t side)) (λ s is. known_held p before (disk a) c.requires.over refl refl s is) (λ s named held. inl held) (g.D.Device.time c.destroy-2.new.dev) (c.destroy-2.ensures.moments t);
      untouched = λ t. destroy_one p before (disk a) c.requires.over refl refl a e (removes t);
      markers_first = λ t. markers_first ways a e (removes t);
      order = λ t. records_first ways a e (removes t);
      ascending = λ t. ascending ways a e (removes t) (IsHeld p.index.sections) (λ s is. inl is);
      values_ascending = λ t. values_ascending ways a e (removes t) (IsHeld p.values) (λ s is. inl is);
      copies = λ t. copies_go ways a e (removes t) (copies_removed p.store a b (c.destroy.ensures.moments t));
      gone = λ t. no_value _ _ c.from_residual-in_err-destroy-2.ensures.0;
      gone_all = λ t. no_value _ _ c.from_residual-in_err-destroy-2.ensures.0;
      markers_gone = λ t. no_value _ _ c.from_residual-in_err-destroy-2.ensures.0;
      entries = λ q not. own_entries ways before (g.D.Device.opened c.destroy.new.dev) (g.D.Device.opened c.destroy-2.new.dev) (g.D.Device.opened c.destroy-2.new.dev) c.destroy.ensures.entries c.destroy-2.ensures.entries (none_leave _ (g.D.Device.opened c.destroy-2.new.dev)) q not;
      faults = omega (arith, c.destroy.ensures.faults, c.destroy-2.ensures.faults);
      lost_first = λ t lost. absurd (failed_lost c.from_residual-in_err-destroy-2.result w (g.D.Device.faults c.args.dev.now) (g.D.Device.faults c.destroy.new.dev) (g.D.Device.faults c.destroy-2.new.dev) is c.in_err-destroy-2.ensures.cause lost);
      fault = λ t has q copy. subst (λ (x : Key). disk e x ≡ nothing) (sym copy.1) (copies_last ways a e (removes t) copy.0 ∙ c.in_ok-destroy.ensures.gone t copy.0);
      cause = err_with c.from_residual-in_err-destroy-2.result (inl (failed_before {r = c.from_residual-in_err-destroy-2.result} (failed_as {U = _} c.from_residual-in_err-destroy-2.result w (g.D.Device.faults c.destroy.new.dev) (g.D.Device.faults c.destroy-2.new.dev) is c.in_err-destroy-2.ensures.cause) c.destroy.ensures.faults));
    }

-- the records are gone
pub returns : goal.returns
returns g c =
    let p = shown g.I.Record.place c.args.self in
    let a = g.D.Device.time c.args.dev.now in
    let b = g.D.Device.time c.destroy.new.dev in
    let e = g.D.Device.time c.destroy-3.new.dev in
    let before = g.D.Device.opened c.args.dev.now in
    let ways = destroy_ways p before (disk a) c.requires.over refl refl in
    let removes = λ (t : g.D.Device.Tells). values_gone p.layout (only_copies_go p.layout p.store a b refl (c.destroy.ensures.moments t)) (c.destroy-2.ensures.moments t) (c.destroy-3.ensures.moments t) in
    record {
      moments = λ t sound.
          let parts = parts_of p before (disk a) c.requires.over t sound.sound refl refl refl refl (λ s v held. ap (λ (x : Setting). x.page_size) (c.requires.over.index.over.opened_list.setting s v held)) in
          keeps_values ways g.met.I.CodecFixed.fixed.at_least a parts t sound.floor (λ s. inl tt) empty_map refl (λ s n is. absurd (cc is.1)) (λ s n named is. cc is.1) b (c.destroy.ensures.crashes t (contents_of p.store) (c.requires.over.disk t).markers)
          (copies_gone p.layout (disk b) (λ side. c.in_ok-destroy.ensures.gone t side)) (λ s is. known_held p before (disk a) c.requires.over refl refl s is) (λ s named held. inl held) (g.D.Device.time c.destroy-2.new.dev) (c.destroy-2.ensures.moments t) e (c.destroy-3.ensures.moments t) (λ s named held. c.in_ok-destroy-2.ensures.gone_all t s (inl held));
      untouched = λ t. destroy_one p before (disk a) c.requires.over refl refl a e (removes t);
      markers_first = λ t. markers_first ways a e (removes t);
      order = λ t. records_first ways a e (removes t);
      ascending = λ t. ascending ways a e (removes t) (IsHeld p.index.sections) (λ s is. inl is);
      values_ascending = λ t. values_ascending ways a e (removes t) (IsHeld p.values) (λ s is. inl is);
      copies = λ t. copies_go ways a e (removes t) (copies_removed p.store a b (c.destroy.ensures.moments t));
      gone = λ t. on_ok c.destroy-3.result (λ gone s small. (λ there. c.in_ok-destroy-2.ensures.gone t s small (subst (λ (x : Blob). IsTrue x.there) (index_last ways a e (removes t) s) there), gone s small)) (c.destroy-3.ensures.gone t);
      gone_all = λ t. on_ok c.destroy-3.result (λ gone s. (λ held. index_last ways a e (removes t) s ∙ c.in_ok-destroy-2.ensures.gone_all t s (inl held), λ held. gone s (inl held))) (c.destroy-3.ensures.gone_all t);
      markers_gone = λ t. ok_with c.destroy-3.result (λ q copy. subst (λ (x : Key). disk e x ≡ nothing) (sym copy.1) (copies_last ways a e (removes t) copy.0 ∙ c.in_ok-destroy.ensures.gone t copy.0));
      entries = λ q not. own_entries ways before (g.D.Device.opened c.destroy.new.dev) (g.D.Device.opened c.destroy-2.new.dev) (g.D.Device.opened c.destroy-3.new.dev) c.destroy.ensures.entries c.destroy-2.ensures.entries c.destroy-3.ensures.entries q not;
      faults = omega (arith, c.destroy.ensures.faults, c.destroy-2.ensures.faults, c.destroy-3.ensures.faults);
      lost_first = λ t lost. absurd (not_lost c.destroy-3.result (g.D.Device.faults c.args.dev.now) (g.D.Device.faults c.destroy-2.new.dev) (g.D.Device.faults c.destroy-3.new.dev) c.destroy-3.ensures.cause lost);
      fault = λ t has q copy. subst (λ (x : Key). disk e x ≡ nothing) (sym copy.1) (copies_last ways a e (removes t) copy.0 ∙ c.in_ok-destroy.ensures.gone t copy.0);
      cause = failed_or_lost c.destroy-3.result (g.D.Device.faults c.args.dev.now) (g.D.Device.faults c.destroy-2.new.dev) (g.D.Device.faults c.destroy-3.new.dev) (omega (arith, c.destroy.ensures.faults, c.destroy-2.ensures.faults)) c.destroy-3.ensures.cause;
    }

pub destroy-requires-2 : goal.destroy-requires-2
destroy-requires-2 g c =
    let p = shown g.I.Record.place c.args.self in
    let ways = destroy_ways p (g.D.Device.opened c.args.dev.now) (disk (g.D.Device.time c.args.dev.now)) c.requires.over refl refl in
    let removes = λ (t : g.D.Device.Tells). markers_gone p.layout p.index.sections p.values (IsKnown p.index.sections) (IsKnown p.values) (only_copies_go p.layout p.store (g.D.Device.time c.args.dev.now) (g.D.Device.time c.destroy.new.dev) refl (c.destroy.ensures.moments t)) in
    record { over = journal_stays p.layout.seal p.layout.record_size p.index (g.D.Device.opened c.args.dev.now) (g.D.Device.opened c.destroy.new.dev) (disk (g.D.Device.time c.args.dev.now)) (disk (g.D.Device.time c.destroy.new.dev)) (λ s lt. index_opened ways (g.D.Device.opened c.args.dev.now) (g.D.Device.opened c.destroy.new.dev) (g.D.Device.opened c.destroy.new.dev) (g.D.Device.opened c.destroy.new.dev) c.destroy.ensures.entries (none_leave _ (g.D.Device.opened c.destroy.new.dev)) (none_leave _ (g.D.Device.opened c.destroy.new.dev)) s) (λ t s lt. index_first ways (g.D.Device.time c.args.dev.now) (g.D.Device.time c.destroy.new.dev) (removes t) s) c.requires.over.index }

pub destroy-requires-3 : goal.destroy-requires-3
destroy-requires-3 g c =
    let p = shown g.I.Record.place c.args.self in
    let ways = destroy_ways p (g.D.Device.opened c.args.dev.now) (disk (g.D.Device.time c.args.dev.now)) c.requires.over refl refl in
    let removes = λ (t : g.D.Device.Tells). records_gone p.layout p.values (IsKnown p.values) (only_copies_go p.layout p.store (g.D.Device.time c.args.dev.now) (g.D.Device.time c.destroy.new.dev) refl (c.destroy.ensures.moments t)) (c.destroy-2.ensures.moments t) in
    record { over = glob_stays _ p.values (g.D.Device.opened c.args.dev.now) (disk (g.D.Device.time c.args.dev.now)) c.requires.over.values (g.D.Device.opened c.destroy-2.new.dev) (disk (g.D.Device.time c.destroy-2.new.dev)) (λ s len small is. subst (λ (o : Option Opened). IsSomeAnd o (λ x. x.len ≡ len)) (sym (values_opened ways (g.D.Device.opened c.args.dev.now) (g.D.Device.opened c.destroy.new.dev) (g.D.Device.opened c.destroy-2.new.dev) (g.D.Device.opened c.destroy-2.new.dev) c.destroy.ensures.entries c.destroy-2.ensures.entries (none_leave _ (g.D.Device.opened c.destroy-2.new.dev)) s)) is) (λ t s small. values_first ways (g.D.Device.time c.args.dev.now) (g.D.Device.time c.destroy-2.new.dev) (removes t) s) }
