use Rattle.std.proofs.Common.{◌≡◌, ◌↔◌, inl, inr, ℕ, ◌≤◌, List, [], length, IsTrue, None, Some, unwrap_or, refl, sym, ◌∙◌, ap, subst, arith}
use Rattle.std.specs.Int.{w64, to_be_bytes}
use Rattle.std.specs.BTreeMap.{get}
use Rattle.std.specs.List.{AllByRecursion}
use Rattle.std.specs.Ordering.{nat_cmp}
use Rattle.blob_device.specs.Disk.{Key, Blob, reads}
use Rattle.blob_device.specs.Opened.{reads_of}
use Rattle.blob_device.specs.Timeline.{disk, Always}
use Rattle.blob_device.specs.lemmas.Moments.{always_now}
use Rattle.sealed_pages.specs.declared.page_blob.PageBlob.{PageBlob}
use Rattle.sealed_pages.specs.declared.pages.Pages.{Pages}
use Rattle.sealed_pages.specs.declared.write_blob.WriteBlob.{WriteBlob}
use Rattle.section_manager.specs.declared.unsealed.WriteFactory.{WriteFactory}
use Rattle.section_manager.specs.declared.journal.Error.TheVariants as journal_error
use Rattle.section_manager.specs.declared.sealed.AppendFactory.{AppendFactory}
use Rattle.section_manager.specs.managing.Managed as managed
use Rattle.section_manager.specs.Raised.{raised_metadata}
use Rattle.section_manager.specs.Sealed.{adopted_bytes}
use Rattle.section_manager.specs.Sections.{Sections, section_key, IsHeld}
use Rattle.section_manager.specs.Setting.{Setting}
use Rattle.segments.specs.FixedLists.{Lists}
use Rattle.segments.specs.FixedReplay.{Begins}
use Rattle.segments.specs.FixedShown as journal
use Rattle.value_codec.specs.declared.key.Key8.{Key8}
use Rattle.meta_store.specs.declared.pair.Chosen.{Chosen}
use Rattle.meta_store.specs.Blobs.{blob_of}
use Rattle.meta_store.specs.Calls.{IsOpened}
use Rattle.meta_store.specs.Opening.{Opening}
use Rattle.meta_store.specs.Store.{Stands, MayBeSynced, chosen_by, contents_of}
use Rattle.paired.specs.glob.Sections.{section_size}
use Rattle.paired.specs.Kept.{Layout, Markers, IsMarked}
use Rattle.paired.specs.Crashes.{HoldMarkers}
use Rattle.paired.specs.Opening.{as_read, IsLawful, OnlyOpens}
use Rattle.paired.specs.Pair.{AreApart}
use Rattle.paired.specs.ReplayShown.{layout_for, run_of}
use Rattle.paired.specs.sighted.Shown as tracking
use Rattle.paired.proofs.BoundaryLemmas.{opened_size}
use Rattle.paired.proofs.CallLemmas.{held_some}
use Rattle.paired.proofs.OpenParts.{named_key}
use Rattle.meta_store.specs.lemmas.Reopening.{IsPromised}
use Rattle.paired.specs.lemmas.opening.Start.{lawful_alike, read_alike, stored_alike}
use Rattle.paired.specs.lemmas.pair.Synced.{layout_as}
use Rattle.paired.proofs.opening.StartCauses.{PartsRefuse, StopsEarly, corrupt_back, corrupt_on, early_cause, early_has_cause, error_back, markers_gave_up, markers_refuse, memory_raised, never_cause, no_corruption, no_refusal, parts_cause, parts_corrupt, parts_give_up, parts_refuse}
use Rattle.paired.proofs.opening.StartFound.{PartsOpened, at_ok, by_ok, found_of, glob_as, opening_run, parts_as}
use Rattle.paired.proofs.opening.StartMoments.{always_recalls, both_open, copies_stay, copy_entries, first_opens, index_apart, index_stays, lawful_named, named_after, named_before, opened_over, opens_content, own_entries, stands_over, stays_open, value_entry, values_apart, values_stay}
use Rattle.paired.proofs.opening.StartRefusals.{no_loss, no_unreadable}
use Rattle.paired.proofs.opening.StartRun.{ends_as, lost_as, unreadable_as}
use Rattle.paired.proofs.oversized.Oversized.init_with_metadata.Goals as goal
use Rattle.blob_device.proofs.general.Results.{err_of, err_with, ok_with, on_err}

pub returns-in_err-tracking-clause-settles : goal.returns-in_err-tracking-clause-settles
returns-in_err-tracking-clause-settles g c t =
    let l = layout_for g.I.Record.place g.I.CodecFixed.SIZE g.S.Seal c.args.cfg.now c.args.metadata_partition.now in
    let a = g.D.Device.time c.args.dev.now in
    let b = g.D.Device.time c.init.new.dev in
    let opens : Always a b (OnlyOpens l (disk a)) = first_opens l c.requires.apart a b (c.init.ensures.moments t) in
    opens

pub returns-in_err-tracking-clause-moments : goal.returns-in_err-tracking-clause-moments
returns-in_err-tracking-clause-moments g c t may =
    let l = layout_for g.I.Record.place g.I.CodecFixed.SIZE g.S.Seal c.args.cfg.now c.args.metadata_partition.now in
    let a = g.D.Device.time c.args.dev.now in
    let b = g.D.Device.time c.init.new.dev in
    let promised : (k : Key) → IsPromised (disk a k) = (λ k. record { bytes = g.met.D.Device.holds_bytes t c.args.dev.now k; agrees = g.met.D.Device.agrees t c.args.dev.now k; absent = g.met.D.Device.absent t c.args.dev.now k; as_read = g.met.D.Device.as_read t c.args.dev.now k }) in
    let opens : Always a b (OnlyOpens l (disk a)) = first_opens l c.requires.apart a b (c.init.ensures.moments t) in
    always_recalls l c.requires.apart a b promised g.met.S.Seal.fits opens may refl

pub returns-in_err-tracking-clause-opened : goal.returns-in_err-tracking-clause-opened
returns-in_err-tracking-clause-opened g c t may =
    let l = layout_for g.I.Record.place g.I.CodecFixed.SIZE g.S.Seal c.args.cfg.now c.args.metadata_partition.now in
    let a = g.D.Device.time c.args.dev.now in
    let b = g.D.Device.time c.init.new.dev in
    let promised : (k : Key) → IsPromised (disk a k) = (λ k. record { bytes = g.met.D.Device.holds_bytes t c.args.dev.now k; agrees = g.met.D.Device.agrees t c.args.dev.now k; absent = g.met.D.Device.absent t c.args.dev.now k; as_read = g.met.D.Device.as_read t c.args.dev.now k }) in
    let opens : Always a b (OnlyOpens l (disk a)) = first_opens l c.requires.apart a b (c.init.ensures.moments t) in
    stays_open l c.requires.apart a b promised g.met.S.Seal.fits opens may

pub returns-in_err-floors-clause-settles : goal.returns-in_err-floors-clause-settles
returns-in_err-floors-clause-settles g c t =
    let l = layout_for g.I.Record.place g.I.CodecFixed.SIZE g.S.Seal c.args.cfg.now c.args.metadata_partition.now in
    let a = g.D.Device.time c.args.dev.now in
    let b = g.D.Device.time c.init.new.dev in
    let opens : Always a b (OnlyOpens l (disk a)) = first_opens l c.requires.apart a b (c.init.ensures.moments t) in
    opens

pub returns-in_err-floors-clause-moments : goal.returns-in_err-floors-clause-moments
returns-in_err-floors-clause-moments g c t may =
    let l = layout_for g.I.Record.place g.I.CodecFixed.SIZE g.S.Seal c.args.cfg.now c.args.metadata_partition.now in
    let a = g.D.Device.time c.args.dev.now in
    let b = g.D.Device.time c.init.new.dev in
    let promised : (k : Key) → IsPromised (disk a k) = (λ k. record { bytes = g.met.D.Device.holds_bytes t c.args.dev.now k; agrees = g.met.D.Device.agrees t c.args.dev.now k; absent = g.met.D.Device.absent t c.args.dev.now k; as_read = g.met.D.Device.as_read t c.args.dev.now k }) in
    let opens : Always a b (OnlyOpens l (disk a)) = first_opens l c.requires.apart a b (c.init.ensures.moments t) in
    always_recalls l c.requires.apart a b promised g.met.S.Seal.fits opens may refl

pub returns-in_err-floors-clause-opened : goal.returns-in_err-floors-clause-opened
returns-in_err-floors-clause-opened g c t may =
    let l = layout_for g.I.Record.place g.I.CodecFixed.SIZE g.S.Seal c.args.cfg.now c.args.metadata_partition.now in
    let a = g.D.Device.time c.args.dev.now in
    let b = g.D.Device.time c.init.new.dev in
    let promised : (k : Key) → IsPromised (disk a k) = (λ k. record { bytes = g.met.D.Device.holds_bytes t c.args.dev.now k; agrees = g.met.D.Device.agrees t c.args.dev.now k; absent = g.met.D.Device.absent t c.args.dev.now k; as_read = g.met.D.Device.as_read t c.args.dev.now k }) in
    let opens : Always a b (OnlyOpens l (disk a)) = first_opens l c.requires.apart a b (c.init.ensures.moments t) in
    stays_open l c.requires.apart a b promised g.met.S.Seal.fits opens may

pub returns-in_err-index-clause-settles : goal.returns-in_err-index-clause-settles
returns-in_err-index-clause-settles g c t =
    let l = layout_for g.I.Record.place g.I.CodecFixed.SIZE g.S.Seal c.args.cfg.now c.args.metadata_partition.now in
    let a = g.D.Device.time c.args.dev.now in
    let b = g.D.Device.time c.init.new.dev in
    let e = g.D.Device.time c.open_parts.new.dev in
    let opens : Always a e (OnlyOpens l (disk a)) = both_open l c.requires.apart a b e (c.init.ensures.moments t) (c.open_parts.ensures.moments t) in
    opens

pub returns-in_err-index-clause-moments : goal.returns-in_err-index-clause-moments
returns-in_err-index-clause-moments g c t may =
    let l = layout_for g.I.Record.place g.I.CodecFixed.SIZE g.S.Seal c.args.cfg.now c.args.metadata_partition.now in
    let a = g.D.Device.time c.args.dev.now in
    let b = g.D.Device.time c.init.new.dev in
    let e = g.D.Device.time c.open_parts.new.dev in
    let promised : (k : Key) → IsPromised (disk a k) = (λ k. record { bytes = g.met.D.Device.holds_bytes t c.args.dev.now k; agrees = g.met.D.Device.agrees t c.args.dev.now k; absent = g.met.D.Device.absent t c.args.dev.now k; as_read = g.met.D.Device.as_read t c.args.dev.now k }) in
    let opens : Always a e (OnlyOpens l (disk a)) = both_open l c.requires.apart a b e (c.init.ensures.moments t) (c.open_parts.ensures.moments t) in
    always_recalls l c.requires.apart a e promised g.met.S.Seal.fits opens may refl

pub returns-in_err-index-clause-opened : goal.returns-in_err-index-clause-opened
returns-in_err-index-clause-opened g c t may =
    let l = layout_for g.I.Record.place g.I.CodecFixed.SIZE g.S.Seal c.args.cfg.now c.args.metadata_partition.now in
    let a = g.D.Device.time c.args.dev.now in
    let b = g.D.Device.time c.init.new.dev in
    let e = g.D.Device.time c.open_parts.new.dev in
    let promised : (k : Key) → IsPromised (disk a k) = (λ k. record { bytes = g.met.D.Device.holds_bytes t c.args.dev.now k; agrees = g.met.D.Device.agrees t c.args.dev.now k; absent = g.met.D.Device.absent t c.args.dev.now k; as_read = g.met.D.Device.as_read t c.args.dev.now k }) in
    let opens : Always a e (OnlyOpens l (disk a)) = both_open l c.requires.apart a b e (c.init.ensures.moments t) (c.open_parts.ensures.moments t) in
    stays_open l c.requires.apart a e promised g.met.S.Seal.fits opens may

pub returns-clause-settles : goal.returns-clause-settles
returns-clause-settles g c t =
    let l = layout_for g.I.Record.place g.I.CodecFixed.SIZE g.S.Seal c.args.cfg.now c.args.metadata_partition.now in
    let a = g.D.Device.time c.args.dev.now in
    let b = g.D.Device.time c.init.new.dev in
    let e = g.D.Device.time c.open_parts.new.dev in
    let f = g.D.Device.time c.tracked.new.dev in
    let opens : Always a f (OnlyOpens l (disk a)) = subst (λ dev. Always a (g.D.Device.time dev) (OnlyOpens l (disk a))) (sym c.tracked.ensures.unchanged) (both_open l c.requires.apart a b e (c.init.ensures.moments t) (c.open_parts.ensures.moments t)) in
    opens

pub returns-clause-moments : goal.returns-clause-moments
returns-clause-moments g c t may =
    let l = layout_for g.I.Record.place g.I.CodecFixed.SIZE g.S.Seal c.args.cfg.now c.args.metadata_partition.now in
    let a = g.D.Device.time c.args.dev.now in
    let b = g.D.Device.time c.init.new.dev in
    let e = g.D.Device.time c.open_parts.new.dev in
    let f = g.D.Device.time c.tracked.new.dev in
    let promised : (k : Key) → IsPromised (disk a k) = (λ k. record { bytes = g.met.D.Device.holds_bytes t c.args.dev.now k; agrees = g.met.D.Device.agrees t c.args.dev.now k; absent = g.met.D.Device.absent t c.args.dev.now k; as_read = g.met.D.Device.as_read t c.args.dev.now k }) in
    let opens : Always a f (OnlyOpens l (disk a)) = subst (λ dev. Always a (g.D.Device.time dev) (OnlyOpens l (disk a))) (sym c.tracked.ensures.unchanged) (both_open l c.requires.apart a b e (c.init.ensures.moments t) (c.open_parts.ensures.moments t)) in
    always_recalls l c.requires.apart a f promised g.met.S.Seal.fits opens may refl

pub returns-clause-opened : goal.returns-clause-opened
returns-clause-opened g c t may =
    let l = layout_for g.I.Record.place g.I.CodecFixed.SIZE g.S.Seal c.args.cfg.now c.args.metadata_partition.now in
    let a = g.D.Device.time c.args.dev.now in
    let b = g.D.Device.time c.init.new.dev in
    let e = g.D.Device.time c.open_parts.new.dev in
    let f = g.D.Device.time c.tracked.new.dev in
    let promised : (k : Key) → IsPromised (disk a k) = (λ k. record { bytes = g.met.D.Device.holds_bytes t c.args.dev.now k; agrees = g.met.D.Device.agrees t c.args.dev.now k; absent = g.met.D.Device.absent t c.args.dev.now k; as_read = g.met.D.Device.as_read t c.args.dev.now k }) in
    let opens : Always a f (OnlyOpens l (disk a)) = subst (λ dev. Always a (g.D.Device.time dev) (OnlyOpens l (disk a))) (sym c.tracked.ensures.unchanged) (both_open l c.requires.apart a b e (c.init.ensures.moments t) (c.open_parts.ensures.moments t)) in
    stays_open l c.requires.apart a f promised g.met.S.Seal.fits opens may

pub returns-in_err-tracking-clause-entries : goal.returns-in_err-tracking-clause-entries
returns-in_err-tracking-clause-entries g c q not =
    let l = layout_for g.I.Record.place g.I.CodecFixed.SIZE g.S.Seal c.args.cfg.now c.args.metadata_partition.now in
    copy_entries l c.requires.apart (g.D.Device.opened c.args.dev.now) (g.D.Device.opened c.init.new.dev) c.init.ensures.entries q not

pub returns-in_err-tracking-clause-reads : goal.returns-in_err-tracking-clause-reads
returns-in_err-tracking-clause-reads g c s small =
    let l = layout_for g.I.Record.place g.I.CodecFixed.SIZE g.S.Seal c.args.cfg.now c.args.metadata_partition.now in
    omega (arith, ap reads_of (value_entry l c.requires.apart (g.D.Device.opened c.args.dev.now) (g.D.Device.opened c.init.new.dev) c.init.ensures.entries s))

pub returns-in_err-floors-clause-entries : goal.returns-in_err-floors-clause-entries
returns-in_err-floors-clause-entries g c q not =
    let l = layout_for g.I.Record.place g.I.CodecFixed.SIZE g.S.Seal c.args.cfg.now c.args.metadata_partition.now in
    copy_entries l c.requires.apart (g.D.Device.opened c.args.dev.now) (g.D.Device.opened c.init.new.dev) c.init.ensures.entries q not

pub returns-in_err-floors-clause-reads : goal.returns-in_err-floors-clause-reads
returns-in_err-floors-clause-reads g c s small =
    let l = layout_for g.I.Record.place g.I.CodecFixed.SIZE g.S.Seal c.args.cfg.now c.args.metadata_partition.now in
    omega (arith, ap reads_of (value_entry l c.requires.apart (g.D.Device.opened c.args.dev.now) (g.D.Device.opened c.init.new.dev) c.init.ensures.entries s))

pub returns-in_err-index-clause-entries : goal.returns-in_err-index-clause-entries
returns-in_err-index-clause-entries g c q not =
    let l = layout_for g.I.Record.place g.I.CodecFixed.SIZE g.S.Seal c.args.cfg.now c.args.metadata_partition.now in
    own_entries l c.requires.apart (g.D.Device.opened c.args.dev.now) (g.D.Device.opened c.init.new.dev) (g.D.Device.opened c.open_parts.new.dev) c.init.ensures.entries c.open_parts.ensures.entries q not

pub returns-in_err-index-clause-reads : goal.returns-in_err-index-clause-reads
returns-in_err-index-clause-reads g c s small =
    let l = layout_for g.I.Record.place g.I.CodecFixed.SIZE g.S.Seal c.args.cfg.now c.args.metadata_partition.now in
    omega (arith, ap reads_of (value_entry l c.requires.apart (g.D.Device.opened c.args.dev.now) (g.D.Device.opened c.init.new.dev) c.init.ensures.entries s), c.open_parts.ensures.reads s small)

pub returns-clause-entries : goal.returns-clause-entries
returns-clause-entries g c q not =
    let l = layout_for g.I.Record.place g.I.CodecFixed.SIZE g.S.Seal c.args.cfg.now c.args.metadata_partition.now in
    ap (λ dev. g.D.Device.opened dev q) c.tracked.ensures.unchanged
    ∙ own_entries l c.requires.apart (g.D.Device.opened c.args.dev.now) (g.D.Device.opened c.init.new.dev) (g.D.Device.opened c.open_parts.new.dev) c.init.ensures.entries c.open_parts.ensures.entries q not

pub returns-clause-reads : goal.returns-clause-reads
returns-clause-reads g c s small =
    let l = layout_for g.I.Record.place g.I.CodecFixed.SIZE g.S.Seal c.args.cfg.now c.args.metadata_partition.now in
    omega (arith, ap (λ dev. reads_of (g.D.Device.opened dev (section_key l.values s))) c.tracked.ensures.unchanged, ap reads_of (value_entry l c.requires.apart (g.D.Device.opened c.args.dev.now) (g.D.Device.opened c.init.new.dev) c.init.ensures.entries s), c.open_parts.ensures.reads s small)

pub returns-in_err-tracking-clause-refusals : goal.returns-in_err-tracking-clause-refusals
returns-in_err-tracking-clause-refusals g c t =
    let l = layout_for g.I.Record.place g.I.CodecFixed.SIZE g.S.Seal c.args.cfg.now c.args.metadata_partition.now in
    let a = g.D.Device.time c.args.dev.now in
    let fa = g.D.Device.faults c.args.dev.now in
    let fb = g.D.Device.faults c.init.new.dev in
    let r = c.from_residual.result in
    let x = c.in_err-tracking.field-0.0 in
    let is = err_of r (raised_metadata x) c.from_residual.ensures.1 in
    let why = markers_refuse r x is fa fb c.in_err-tracking.ensures.cause in
    early_has_cause r fa fb why l (disk a) g.I.Codec.refusal (λ side has. c.in_err-tracking.ensures.corrupt t side (corrupt_back r x is fa fb side has))

pub returns-in_err-tracking-clause-corrupt_copies : goal.returns-in_err-tracking-clause-corrupt_copies
returns-in_err-tracking-clause-corrupt_copies g c t side has =
    let fa = g.D.Device.faults c.args.dev.now in
    let fb = g.D.Device.faults c.init.new.dev in
    let r = c.from_residual.result in
    let x = c.in_err-tracking.field-0.0 in
    let is = err_of r (raised_metadata x) c.from_residual.ensures.1 in
    let why = markers_refuse r x is fa fb c.in_err-tracking.ensures.cause in
    elim (c.in_err-tracking.ensures.refused t side has) [
      | inl corrupt ↦ inl (corrupt_on r x is fa fb side corrupt)
      | inr gave ↦ inr (markers_gave_up r x is fa fb gave)
    ]

pub returns-in_err-tracking-clause-complete : goal.returns-in_err-tracking-clause-complete
returns-in_err-tracking-clause-complete g c t markers lawful spelled =
    let fa = g.D.Device.faults c.args.dev.now in
    let fb = g.D.Device.faults c.init.new.dev in
    let r = c.from_residual.result in
    let x = c.in_err-tracking.field-0.0 in
    let is = err_of r (raised_metadata x) c.from_residual.ensures.1 in
    let why = markers_refuse r x is fa fb c.in_err-tracking.ensures.cause in
    err_with r (markers_gave_up r x is fa fb (c.in_err-tracking.ensures.map t (lawful.held.copies refl).chosen (lawful.held.copies refl).reads))

pub returns-in_err-tracking-clause-cause : goal.returns-in_err-tracking-clause-cause
returns-in_err-tracking-clause-cause g c =
    let fa = g.D.Device.faults c.args.dev.now in
    let fb = g.D.Device.faults c.init.new.dev in
    let r = c.from_residual.result in
    let x = c.in_err-tracking.field-0.0 in
    let is = err_of r (raised_metadata x) c.from_residual.ensures.1 in
    let why = markers_refuse r x is fa fb c.in_err-tracking.ensures.cause in
    early_cause r fa fb why

pub returns-in_err-floors-clause-refusals : goal.returns-in_err-floors-clause-refusals
returns-in_err-floors-clause-refusals g c t =
    let l = layout_for g.I.Record.place g.I.CodecFixed.SIZE g.S.Seal c.args.cfg.now c.args.metadata_partition.now in
    let a = g.D.Device.time c.args.dev.now in
    let fa = g.D.Device.faults c.args.dev.now in
    let fb = g.D.Device.faults c.init.new.dev in
    let r = c.from_residual-in_err-floors.result in
    let x = c.in_err-floors.field-0.0 in
    let is = err_of r (raised_metadata x) c.from_residual-in_err-floors.ensures.1 in
    let why : StopsEarly r fa fb = inr (inl (inl (is ∙ memory_raised x c.in_err-floors.ensures.cause))) in
    early_has_cause r fa fb why l (disk a) g.I.Codec.refusal (λ side has. absurd (no_corruption r x is c.in_err-floors.ensures.cause side has))

pub returns-in_err-floors-clause-corrupt_copies : goal.returns-in_err-floors-clause-corrupt_copies
returns-in_err-floors-clause-corrupt_copies g c t side has =
    let fa = g.D.Device.faults c.args.dev.now in
    let fb = g.D.Device.faults c.init.new.dev in
    let r = c.from_residual-in_err-floors.result in
    let x = c.in_err-floors.field-0.0 in
    let is = err_of r (raised_metadata x) c.from_residual-in_err-floors.ensures.1 in
    let why : StopsEarly r fa fb = inr (inl (inl (is ∙ memory_raised x c.in_err-floors.ensures.cause))) in
    inr (inl (inl (is ∙ memory_raised x c.in_err-floors.ensures.cause)))

pub returns-in_err-floors-clause-complete : goal.returns-in_err-floors-clause-complete
returns-in_err-floors-clause-complete g c t markers lawful spelled =
    let fa = g.D.Device.faults c.args.dev.now in
    let fb = g.D.Device.faults c.init.new.dev in
    let r = c.from_residual-in_err-floors.result in
    let x = c.in_err-floors.field-0.0 in
    let is = err_of r (raised_metadata x) c.from_residual-in_err-floors.ensures.1 in
    let why : StopsEarly r fa fb = inr (inl (inl (is ∙ memory_raised x c.in_err-floors.ensures.cause))) in
    err_with r (inl (inl (is ∙ memory_raised x c.in_err-floors.ensures.cause)))

pub returns-in_err-floors-clause-cause : goal.returns-in_err-floors-clause-cause
returns-in_err-floors-clause-cause g c =
    let fa = g.D.Device.faults c.args.dev.now in
    let fb = g.D.Device.faults c.init.new.dev in
    let r = c.from_residual-in_err-floors.result in
    let x = c.in_err-floors.field-0.0 in
    let is = err_of r (raised_metadata x) c.from_residual-in_err-floors.ensures.1 in
    let why : StopsEarly r fa fb = inr (inl (inl (is ∙ memory_raised x c.in_err-floors.ensures.cause))) in
    early_cause r fa fb why

pub returns-in_err-index-clause-refusals : goal.returns-in_err-index-clause-refusals
returns-in_err-index-clause-refusals g c t =
    let l = layout_for g.I.Record.place g.I.CodecFixed.SIZE g.S.Seal c.args.cfg.now c.args.metadata_partition.now in
    let a = g.D.Device.time c.args.dev.now in
    let b = g.D.Device.time c.init.new.dev in
    let opening = always_now a b (Opening l.metadata (disk a)) (c.init.ensures.moments t) in
    let fa = g.D.Device.faults c.args.dev.now in
    let fb = g.D.Device.faults c.init.new.dev in
    let fe = g.D.Device.faults c.open_parts.new.dev in
    let r = c.from_residual-in_err-index.result in
    let x = c.in_err-index.field-0.0 in
    let is = err_of r x c.from_residual-in_err-index.ensures.1 in
    let why : PartsRefuse r fa fe = parts_refuse r x is fa fb fe c.init.ensures.faults c.in_err-index.ensures.cause in
    let store = (tracking.shown c.in_ok-tracking.tracking).store in
    let held : HoldMarkers l (as_read (disk a)) (contents_of store) = record { copies = λ is. record { chosen = chosen_by store (contents_of store); reads = c.in_ok-tracking.ensures.reads t; map = refl }; none = λ not. absurd (cc not) } in
    record {
      corrupt = λ side has. absurd (parts_corrupt r fa fe why side has);
      named = λ n has. named_before l c.requires.apart (disk a) (disk b) opening n (c.in_err-index.ensures.named t n (error_back r x is (journal_error.InvalidBlobName n) has));
      damage = λ d has. (contents_of store, held, lost_as l [] (λ s n. get nat_cmp c.in_ok-floors.floors s ≡ Some n) (IsMarked store.entries) (λ s n is_n. (c.in_ok-floors.ensures.each s n).0 is_n) (disk b) (disk a) (λ s. index_stays l c.requires.apart (disk a) (disk b) opening (to_be_bytes w64 s)) (λ s. values_stay l c.requires.apart (disk a) (disk b) opening (to_be_bytes w64 s)) d (c.in_err-index.ensures.damage t d (error_back r x is (journal_error.Corruption d) has)));
      refused = λ y has. (contents_of store, held, unreadable_as l [] (λ s n. get nat_cmp c.in_ok-floors.floors s ≡ Some n) (IsMarked store.entries) (λ s n is_n. (c.in_ok-floors.ensures.each s n).0 is_n) (disk b) (disk a) (λ s. index_stays l c.requires.apart (disk a) (disk b) opening (to_be_bytes w64 s)) (λ s. values_stay l c.requires.apart (disk a) (disk b) opening (to_be_bytes w64 s)) g.I.Codec.refusal y (c.in_err-index.ensures.refused t y (error_back r x is (journal_error.Codec y) has)));
    }

pub returns-in_err-index-clause-corrupt_copies : goal.returns-in_err-index-clause-corrupt_copies
returns-in_err-index-clause-corrupt_copies g c t side has =
    absurd (no_refusal _ _ _ _ (c.in_ok-tracking.ensures.refused t side has))

pub returns-in_err-index-clause-complete : goal.returns-in_err-index-clause-complete
returns-in_err-index-clause-complete g c t markers lawful spelled =
    let l = layout_for g.I.Record.place g.I.CodecFixed.SIZE g.S.Seal c.args.cfg.now c.args.metadata_partition.now in
    let a = g.D.Device.time c.args.dev.now in
    let b = g.D.Device.time c.init.new.dev in
    let e = g.D.Device.time c.open_parts.new.dev in
    let opens : Always a e (OnlyOpens l (disk a)) = both_open l c.requires.apart a b e (c.init.ensures.moments t) (c.open_parts.ensures.moments t) in
    let opening = always_now a b (Opening l.metadata (disk a)) (c.init.ensures.moments t) in
    let fa = g.D.Device.faults c.args.dev.now in
    let fb = g.D.Device.faults c.init.new.dev in
    let fe = g.D.Device.faults c.open_parts.new.dev in
    let r = c.from_residual-in_err-index.result in
    let x = c.in_err-index.field-0.0 in
    let is = err_of r x c.from_residual-in_err-index.ensures.1 in
    let why : PartsRefuse r fa fe = parts_refuse r x is fa fb fe c.init.ensures.faults c.in_err-index.ensures.cause in
    parts_give_up r fa fe why
    (λ n has. lawful_named l (disk a) markers lawful n (named_before l c.requires.apart (disk a) (disk b) opening n (c.in_err-index.ensures.named t n (error_back r x is (journal_error.InvalidBlobName n) has))))
    (λ d has. no_loss l c.requires.valid g.met.I.CodecFixed.fixed.at_least (disk a) markers lawful d (lost_as l [] (λ s n. get nat_cmp c.in_ok-floors.floors s ≡ Some n) (IsMarked markers.entries) (λ s n is_n. subst (λ (m : Markers). IsMarked m.entries s n) (ap (λ (k : Chosen Key8 ℕ). k.contents) (c.in_ok-tracking.ensures.map t (lawful.held.copies refl).chosen (lawful.held.copies refl).reads) ∙ (lawful.held.copies refl).map) ((c.in_ok-floors.ensures.each s n).0 is_n)) (disk b) (disk a) (λ s. index_stays l c.requires.apart (disk a) (disk b) opening (to_be_bytes w64 s)) (λ s. values_stay l c.requires.apart (disk a) (disk b) opening (to_be_bytes w64 s)) d (c.in_err-index.ensures.damage t d (error_back r x is (journal_error.Corruption d) has))))
    (λ y has. no_unreadable l c.requires.valid g.met.I.CodecFixed.fixed.at_least (disk a) markers lawful g.I.Codec.refusal spelled y (unreadable_as l [] (λ s n. get nat_cmp c.in_ok-floors.floors s ≡ Some n) (IsMarked markers.entries) (λ s n is_n. subst (λ (m : Markers). IsMarked m.entries s n) (ap (λ (k : Chosen Key8 ℕ). k.contents) (c.in_ok-tracking.ensures.map t (lawful.held.copies refl).chosen (lawful.held.copies refl).reads) ∙ (lawful.held.copies refl).map) ((c.in_ok-floors.ensures.each s n).0 is_n)) (disk b) (disk a) (λ s. index_stays l c.requires.apart (disk a) (disk b) opening (to_be_bytes w64 s)) (λ s. values_stay l c.requires.apart (disk a) (disk b) opening (to_be_bytes w64 s)) g.I.Codec.refusal y (c.in_err-index.ensures.refused t y (error_back r x is (journal_error.Codec y) has))))

pub returns-in_err-index-clause-cause : goal.returns-in_err-index-clause-cause
returns-in_err-index-clause-cause g c =
    let fa = g.D.Device.faults c.args.dev.now in
    let fb = g.D.Device.faults c.init.new.dev in
    let fe = g.D.Device.faults c.open_parts.new.dev in
    let r = c.from_residual-in_err-index.result in
    let x = c.in_err-index.field-0.0 in
    let is = err_of r x c.from_residual-in_err-index.ensures.1 in
    let why : PartsRefuse r fa fe = parts_refuse r x is fa fb fe c.init.ensures.faults c.in_err-index.ensures.cause in
    parts_cause r fa fe why

pub returns-clause-over : goal.returns-clause-over
returns-clause-over g c =
    let r = c.tracked.result in
    by_ok r _ (λ x is.
    let l = layout_for g.I.Record.place g.I.CodecFixed.SIZE g.S.Seal c.args.cfg.now c.args.metadata_partition.now in
    let a = g.D.Device.time c.args.dev.now in
    let b = g.D.Device.time c.init.new.dev in
    let e = g.D.Device.time c.open_parts.new.dev in
    let f = g.D.Device.time c.tracked.new.dev in
    let walk = at_ok r x _ is c.tracked.ensures.walk in
    let begins = at_ok r x _ is c.tracked.ensures.begins in
    let vals : x.values ≡ c.in_ok-index.values = at_ok r x _ is c.tracked.ensures.values in
    let trk : x.tracking ≡ c.in_ok-tracking.tracking = at_ok r x _ is c.tracked.ensures.tracking in
    let R = run_of g.I.Record.place x in
    let vv : R.values ≡ managed.shown c.in_ok-index.values.manager = ap (λ y. managed.shown y.manager) vals in
    let same_dev = c.tracked.ensures.unchanged in
    let same_j : R.walk.journal ≡ journal.shown c.in_ok-index.index = begins.journal in
    let layout : R.layout ≡ l = layout_as l R.layout.index R.layout.values R.layout.metadata R.layout.page_size
    (ap (λ (k : Lists (AppendFactory g.row.S.Denot) (PageBlob g.row.S.Denot g.S.Seal)). k.sections.partition) same_j ∙ c.in_ok-index.ensures.index_partition)
    (ap (λ y. (managed.shown y.manager).partition) vals ∙ c.in_ok-index.ensures.values_partition)
    (ap (λ y. (tracking.shown y).store.partition) trk ∙ c.in_ok-tracking.ensures.partition)
    (ap (λ (k : Lists (AppendFactory g.row.S.Denot) (PageBlob g.row.S.Denot g.S.Seal)). k.sections.factory.pages.page_size) same_j ∙ ap (λ (p : Pages). p.page_size) c.in_ok-index.ensures.pages) in
    let own : Begins R.walk.journal 0 0 R.walk = record { journal = refl; section = begins.section; position = begins.position; first = begins.first; between = begins.between; whole = begins.whole; going = begins.going } in
    let floors = get nat_cmp c.in_ok-floors.floors in
    let each : (s n : ℕ) → (floors s ≡ Some n) ↔ IsMarked R.store.entries s n = (λ s n. subst (λ y. (floors s ≡ Some n) ↔ IsMarked (tracking.shown y).store.entries s n) (sym trk) (c.in_ok-floors.ensures.each s n)) in
    let opening : g.D.Device.Tells → Opening l.metadata (disk a) (disk b) = (λ t. always_now a b (Opening l.metadata (disk a)) (c.init.ensures.moments t)) in
    let parts0 : PartsOpened _ g.D.Device.Tells l floors (disk a) (journal.shown c.in_ok-index.index) (managed.shown c.in_ok-index.values.manager) (disk e) = record {
      index_held = λ t s small. subst (λ (y : Blob). IsHeld (journal.shown c.in_ok-index.index).sections s ↔ IsTrue y.there) (index_stays l c.requires.apart (disk a) (disk b) (opening t) (to_be_bytes w64 s)) (c.in_ok-index.ensures.index_held t s small);
      values_held = λ t s small. subst (λ (y : Blob). IsHeld (managed.shown c.in_ok-index.values.manager) s ↔ IsTrue y.there) (values_stay l c.requires.apart (disk a) (disk b) (opening t) (to_be_bytes w64 s)) (c.in_ok-index.ensures.values_held t s small);
      index_known = c.in_ok-index.ensures.index_known;
      values_known = c.in_ok-index.ensures.values_known;
      index_bytes = λ t s held. c.in_ok-index.ensures.index_bytes t s held ∙ ap (λ (p : Pages). adopted_bytes g.S.Seal.seal_of p.page_size (disk b (section_key l.index s)).content) c.in_ok-index.ensures.pages
          ∙ ap (λ (y : Blob). adopted_bytes g.S.Seal.seal_of l.page_size y.content) (index_stays l c.requires.apart (disk a) (disk b) (opening t) (to_be_bytes w64 s));
      values_size = λ t s small. opened_size _ (managed.shown c.in_ok-index.values.manager) (g.D.Device.opened c.open_parts.new.dev) (disk e) c.in_ok-index.ensures.values t l.values (disk b) s (c.in_ok-index.ensures.values_held t s small) (c.in_ok-index.ensures.values_bytes t s)
          ∙ ap (λ (y : Blob). length (unwrap_or (reads y) [])) (values_stay l c.requires.apart (disk a) (disk b) (opening t) (to_be_bytes w64 s));
      index_settled = c.in_ok-index.ensures.index_settled;
      values_settled = c.in_ok-index.ensures.values_settled;
      unrecovered = c.in_ok-index.ensures.unrecovered;
      reached = c.in_ok-index.ensures.reached;
      floor_of = c.in_ok-index.ensures.floors;
      marked = c.in_ok-index.ensures.marked;
      within = λ t s n is_n some. ends_as (layout_for g.I.Record.place g.I.CodecFixed.SIZE g.S.Seal c.args.cfg.now []) l.index l.values l.metadata l.page_size (disk b) (disk a) s n (section_size (managed.shown c.in_ok-index.values.manager) s) refl refl
          (index_stays l c.requires.apart (disk a) (disk b) (opening t) (to_be_bytes w64 s)) (c.in_ok-index.ensures.within t s n is_n some);
      index_floor = c.in_ok-index.ensures.bounds.0;
      index_ceiling = c.in_ok-index.ensures.bounds.1;
      values_floor = c.in_ok-index.ensures.bounds.2;
      values_ceiling = c.in_ok-index.ensures.bounds.3;
      pages = λ s u held. ap (λ (k : Setting). k.page_size) (c.in_ok-index.ensures.index.over.opened_list.setting s u held) ∙ ap (λ (p : Pages). p.page_size) c.in_ok-index.ensures.pages;
      content = λ t s. ap (λ (k : Key). (disk e k).content) (named_key (journal.shown c.in_ok-index.index).sections.partition l.index s c.in_ok-index.ensures.index_partition)
          ∙ opens_content l (disk a) (disk e) (always_now a e (OnlyOpens l (disk a)) (both_open l c.requires.apart a b e (c.init.ensures.moments t) (c.open_parts.ensures.moments t))) s;
    } in
    let parts = parts_as _ g.D.Device.Tells l R.layout floors (disk a) (journal.shown c.in_ok-index.index) R.walk.journal (managed.shown c.in_ok-index.values.manager) R.values (disk e) (disk f) layout same_j (ap (λ y. managed.shown y.manager) vals)
    (ap (λ dev. disk (g.D.Device.time dev)) same_dev) parts0 in
    record {
      index = walk;
      values = glob_as (managed.shown c.in_ok-index.values.manager) R.values (g.D.Device.opened c.open_parts.new.dev) (g.D.Device.opened c.tracked.new.dev) (disk e) (disk f) vv (ap g.D.Device.opened same_dev) (ap (λ dev. disk (g.D.Device.time dev)) same_dev) c.in_ok-index.ensures.values;
      apart = subst AreApart (sym layout) c.requires.apart;
      metadata_opened = subst (λ y. IsOpened (tracking.shown y).store.partition (g.D.Device.opened c.tracked.new.dev)) (sym trk)
          (subst (λ (p : List ℕ). IsOpened p (g.D.Device.opened c.tracked.new.dev)) (sym c.in_ok-tracking.ensures.partition) (opened_over l.metadata (g.D.Device.opened c.init.new.dev) (g.D.Device.opened c.tracked.new.dev)
          (λ side. ap (λ dev. g.D.Device.opened dev (blob_of l.metadata side)) same_dev ∙ c.open_parts.ensures.entries (blob_of l.metadata side)
          (λ s small. (λ is_k. index_apart l c.requires.apart (to_be_bytes w64 s) side (sym is_k), λ is_k. values_apart l c.requires.apart (to_be_bytes w64 s) side (sym is_k)))) c.in_ok-tracking.ensures.opened));
      storable = subst (λ y. MayBeSynced l.markers (tracking.shown y).store.entries) (sym trk) c.in_ok-tracking.ensures.storable;
      synced = ap (λ y. (tracking.shown y).store.staged) trk ∙ c.in_ok-tracking.ensures.staged;
      markers = λ t. subst (λ y. Stands l.markers (tracking.shown y).store (contents_of (tracking.shown y).store) (disk f)) (sym trk)
          (stands_over l.markers (tracking.shown c.in_ok-tracking.tracking).store (contents_of (tracking.shown c.in_ok-tracking.tracking).store) (disk b) (disk f)
          (λ side. subst (λ (p : List ℕ). disk f (blob_of p side) ≡ disk b (blob_of p side)) (sym c.in_ok-tracking.ensures.partition)
          (ap (λ dev. disk (g.D.Device.time dev) (blob_of l.metadata side)) same_dev ∙ copies_stay l c.requires.apart (disk b) (disk e) (always_now b e _ (c.open_parts.ensures.moments t)) side))
          (c.in_ok-tracking.ensures.stands t));
      opening = λ tracks. opening_run _ g.D.Device.Tells floors (disk a) (disk f) R parts own each g.met.I.CodecFixed.fixed.at_least (subst (λ (n : ℕ). 1 ≤ n) (sym (ap (λ (y : Layout). y.page_size) layout)) c.requires.valid) _ (λ u. refl)
          (λ s. ap (λ y. (tracking.shown y).trailing s) trk ∙ c.in_ok-tracking.ensures.trailing s) (at_ok r x _ is c.tracked.ensures.ends) (at_ok r x _ is c.tracked.ensures.goes_on);
      live = λ free. absurd (cc (free, at_ok r x _ is c.tracked.ensures.tracked));
    })

pub returns-clause-going : goal.returns-clause-going
returns-clause-going g c =
    let r = c.tracked.result in
    by_ok r _ (λ x is.
    let begins = at_ok r x _ is c.tracked.ensures.begins in
    let R = run_of g.I.Record.place x in
    λ failed. elim failed [
      | inl own_failed ↦ absurd (cc (own_failed, at_ok r x _ is c.tracked.ensures.going))
      | inr walk_failed ↦ absurd (cc (walk_failed, begins.whole))
    ])

pub returns-clause-layout : goal.returns-clause-layout
returns-clause-layout g c =
    let r = c.tracked.result in
    by_ok r _ (λ x is.
    let l = layout_for g.I.Record.place g.I.CodecFixed.SIZE g.S.Seal c.args.cfg.now c.args.metadata_partition.now in
    let begins = at_ok r x _ is c.tracked.ensures.begins in
    let vals : x.values ≡ c.in_ok-index.values = at_ok r x _ is c.tracked.ensures.values in
    let trk : x.tracking ≡ c.in_ok-tracking.tracking = at_ok r x _ is c.tracked.ensures.tracking in
    let R = run_of g.I.Record.place x in
    let same_j : R.walk.journal ≡ journal.shown c.in_ok-index.index = begins.journal in
    record {
      index = ap (λ (k : Lists (AppendFactory g.row.S.Denot) (PageBlob g.row.S.Denot g.S.Seal)). k.sections.partition) same_j ∙ c.in_ok-index.ensures.index_partition;
      values = ap (λ y. (managed.shown y.manager).partition) vals ∙ c.in_ok-index.ensures.values_partition;
      marked = refl;
      metadata = ap (λ y. (tracking.shown y).store.partition) trk ∙ c.in_ok-tracking.ensures.partition;
      page_size = ap (λ (k : Lists (AppendFactory g.row.S.Denot) (PageBlob g.row.S.Denot g.S.Seal)). k.sections.factory.pages.page_size) same_j ∙ ap (λ (p : Pages). p.page_size) c.in_ok-index.ensures.pages;
    })

pub returns-clause-pages : goal.returns-clause-pages
returns-clause-pages g c =
    let r = c.tracked.result in
    by_ok r _ (λ x is.
    let begins = at_ok r x _ is c.tracked.ensures.begins in
    let R = run_of g.I.Record.place x in
    let same_j : R.walk.journal ≡ journal.shown c.in_ok-index.index = begins.journal in
    ap (λ (k : Lists (AppendFactory g.row.S.Denot) (PageBlob g.row.S.Denot g.S.Seal)). k.sections.factory.pages) same_j ∙ c.in_ok-index.ensures.pages)

pub returns-clause-write_buffers : goal.returns-clause-write_buffers
returns-clause-write_buffers g c =
    let r = c.tracked.result in
    by_ok r _ (λ x is.
    let begins = at_ok r x _ is c.tracked.ensures.begins in
    let vals : x.values ≡ c.in_ok-index.values = at_ok r x _ is c.tracked.ensures.values in
    let R = run_of g.I.Record.place x in
    let vv : R.values ≡ managed.shown c.in_ok-index.values.manager = ap (λ y. managed.shown y.manager) vals in
    let same_j : R.walk.journal ≡ journal.shown c.in_ok-index.index = begins.journal in (
      ap (λ (k : Lists (AppendFactory g.row.S.Denot) (PageBlob g.row.S.Denot g.S.Seal)). k.sections.factory.write_buffer) same_j ∙ c.in_ok-index.ensures.write_buffers.0,
      ap (λ (y : Sections WriteFactory WriteBlob). y.factory.capacity) vv ∙ c.in_ok-index.ensures.write_buffers.1,
    ))

pub returns-clause-codec_config : goal.returns-clause-codec_config
returns-clause-codec_config g c =
    let r = c.tracked.result in
    by_ok r _ (λ x is.
    let vals : x.values ≡ c.in_ok-index.values = at_ok r x _ is c.tracked.ensures.values in
    ap (λ y. y.codec_config) vals ∙ c.in_ok-index.ensures.codec_config)

pub returns-clause-found : goal.returns-clause-found
returns-clause-found g c t =
    let r = c.tracked.result in
    by_ok r _ (λ x is.
    let l = layout_for g.I.Record.place g.I.CodecFixed.SIZE g.S.Seal c.args.cfg.now c.args.metadata_partition.now in
    let a = g.D.Device.time c.args.dev.now in
    let b = g.D.Device.time c.init.new.dev in
    let e = g.D.Device.time c.open_parts.new.dev in
    let f = g.D.Device.time c.tracked.new.dev in
    let begins = at_ok r x _ is c.tracked.ensures.begins in
    let vals : x.values ≡ c.in_ok-index.values = at_ok r x _ is c.tracked.ensures.values in
    let trk : x.tracking ≡ c.in_ok-tracking.tracking = at_ok r x _ is c.tracked.ensures.tracking in
    let R = run_of g.I.Record.place x in
    let same_dev = c.tracked.ensures.unchanged in
    let same_j : R.walk.journal ≡ journal.shown c.in_ok-index.index = begins.journal in
    let layout : R.layout ≡ l = layout_as l R.layout.index R.layout.values R.layout.metadata R.layout.page_size
    (ap (λ (k : Lists (AppendFactory g.row.S.Denot) (PageBlob g.row.S.Denot g.S.Seal)). k.sections.partition) same_j ∙ c.in_ok-index.ensures.index_partition)
    (ap (λ y. (managed.shown y.manager).partition) vals ∙ c.in_ok-index.ensures.values_partition)
    (ap (λ y. (tracking.shown y).store.partition) trk ∙ c.in_ok-tracking.ensures.partition)
    (ap (λ (k : Lists (AppendFactory g.row.S.Denot) (PageBlob g.row.S.Denot g.S.Seal)). k.sections.factory.pages.page_size) same_j ∙ ap (λ (p : Pages). p.page_size) c.in_ok-index.ensures.pages) in
    let own : Begins R.walk.journal 0 0 R.walk = record { journal = refl; section = begins.section; position = begins.position; first = begins.first; between = begins.between; whole = begins.whole; going = begins.going } in
    let floors = get nat_cmp c.in_ok-floors.floors in
    let each : (s n : ℕ) → (floors s ≡ Some n) ↔ IsMarked R.store.entries s n = (λ s n. subst (λ y. (floors s ≡ Some n) ↔ IsMarked (tracking.shown y).store.entries s n) (sym trk) (c.in_ok-floors.ensures.each s n)) in
    let opening : g.D.Device.Tells → Opening l.metadata (disk a) (disk b) = (λ t. always_now a b (Opening l.metadata (disk a)) (c.init.ensures.moments t)) in
    let parts0 : PartsOpened _ g.D.Device.Tells l floors (disk a) (journal.shown c.in_ok-index.index) (managed.shown c.in_ok-index.values.manager) (disk e) = record {
      index_held = λ t s small. subst (λ (y : Blob). IsHeld (journal.shown c.in_ok-index.index).sections s ↔ IsTrue y.there) (index_stays l c.requires.apart (disk a) (disk b) (opening t) (to_be_bytes w64 s)) (c.in_ok-index.ensures.index_held t s small);
      values_held = λ t s small. subst (λ (y : Blob). IsHeld (managed.shown c.in_ok-index.values.manager) s ↔ IsTrue y.there) (values_stay l c.requires.apart (disk a) (disk b) (opening t) (to_be_bytes w64 s)) (c.in_ok-index.ensures.values_held t s small);
      index_known = c.in_ok-index.ensures.index_known;
      values_known = c.in_ok-index.ensures.values_known;
      index_bytes = λ t s held. c.in_ok-index.ensures.index_bytes t s held ∙ ap (λ (p : Pages). adopted_bytes g.S.Seal.seal_of p.page_size (disk b (section_key l.index s)).content) c.in_ok-index.ensures.pages
          ∙ ap (λ (y : Blob). adopted_bytes g.S.Seal.seal_of l.page_size y.content) (index_stays l c.requires.apart (disk a) (disk b) (opening t) (to_be_bytes w64 s));
      values_size = λ t s small. opened_size _ (managed.shown c.in_ok-index.values.manager) (g.D.Device.opened c.open_parts.new.dev) (disk e) c.in_ok-index.ensures.values t l.values (disk b) s (c.in_ok-index.ensures.values_held t s small) (c.in_ok-index.ensures.values_bytes t s)
          ∙ ap (λ (y : Blob). length (unwrap_or (reads y) [])) (values_stay l c.requires.apart (disk a) (disk b) (opening t) (to_be_bytes w64 s));
      index_settled = c.in_ok-index.ensures.index_settled;
      values_settled = c.in_ok-index.ensures.values_settled;
      unrecovered = c.in_ok-index.ensures.unrecovered;
      reached = c.in_ok-index.ensures.reached;
      floor_of = c.in_ok-index.ensures.floors;
      marked = c.in_ok-index.ensures.marked;
      within = λ t s n is_n some. ends_as (layout_for g.I.Record.place g.I.CodecFixed.SIZE g.S.Seal c.args.cfg.now []) l.index l.values l.metadata l.page_size (disk b) (disk a) s n (section_size (managed.shown c.in_ok-index.values.manager) s) refl refl
          (index_stays l c.requires.apart (disk a) (disk b) (opening t) (to_be_bytes w64 s)) (c.in_ok-index.ensures.within t s n is_n some);
      index_floor = c.in_ok-index.ensures.bounds.0;
      index_ceiling = c.in_ok-index.ensures.bounds.1;
      values_floor = c.in_ok-index.ensures.bounds.2;
      values_ceiling = c.in_ok-index.ensures.bounds.3;
      pages = λ s u held. ap (λ (k : Setting). k.page_size) (c.in_ok-index.ensures.index.over.opened_list.setting s u held) ∙ ap (λ (p : Pages). p.page_size) c.in_ok-index.ensures.pages;
      content = λ t s. ap (λ (k : Key). (disk e k).content) (named_key (journal.shown c.in_ok-index.index).sections.partition l.index s c.in_ok-index.ensures.index_partition)
          ∙ opens_content l (disk a) (disk e) (always_now a e (OnlyOpens l (disk a)) (both_open l c.requires.apart a b e (c.init.ensures.moments t) (c.open_parts.ensures.moments t))) s;
    } in
    let parts = parts_as _ g.D.Device.Tells l R.layout floors (disk a) (journal.shown c.in_ok-index.index) R.walk.journal (managed.shown c.in_ok-index.values.manager) R.values (disk e) (disk f) layout same_j (ap (λ y. managed.shown y.manager) vals)
    (ap (λ dev. disk (g.D.Device.time dev)) same_dev) parts0 in
    let opens : Always a f (OnlyOpens l (disk a)) = subst (λ dev. Always a (g.D.Device.time dev) (OnlyOpens l (disk a))) (sym c.tracked.ensures.unchanged) (both_open l c.requires.apart a b e (c.init.ensures.moments t) (c.open_parts.ensures.moments t)) in
    let only = always_now a f (OnlyOpens l (disk a)) opens in
    let alike = read_alike l c.requires.apart (disk a) (disk f) only in
    let entries : contents_of R.store ≡ contents_of (tracking.shown c.in_ok-tracking.tracking).store = ap (λ y. contents_of (tracking.shown y).store) trk in
    found_of _ g.D.Device.Tells floors (disk a) (disk f) R parts own each g.met.I.CodecFixed.fixed.at_least (subst (λ (n : ℕ). 1 ≤ n) (sym (ap (λ (y : Layout). y.page_size) layout)) c.requires.valid) t l layout (disk f)
    (record { copies = λ is. record { chosen = chosen_by (tracking.shown c.in_ok-tracking.tracking).store (contents_of (tracking.shown c.in_ok-tracking.tracking).store); reads = c.in_ok-tracking.ensures.reads t; map = sym entries }; none = λ not. absurd (cc not) }) alike (at_ok r x _ is c.tracked.ensures.goes_on)
    (λ markers lawful. subst (IsLawful l (as_read (disk f))) (sym (lawful.held.copies refl).map ∙ sym (ap (λ (k : Chosen Key8 ℕ). k.contents) (c.in_ok-tracking.ensures.map t (lawful.held.copies refl).chosen (lawful.held.copies refl).reads)) ∙ sym entries) (lawful_alike l (as_read (disk a)) (as_read (disk f)) alike markers lawful)))

pub open_parts-requires-clause-floors : goal.open_parts-requires-clause-floors
open_parts-requires-clause-floors g c s has =
    let w = held_some (get nat_cmp c.in_ok-floors.floors s) has in
    ((c.in_ok-floors.ensures.each s w.0).0 w.1).0

pub returns-clause-spelled : goal.returns-clause-spelled
returns-clause-spelled g c t spelled =
    let l = layout_for g.I.Record.place g.I.CodecFixed.SIZE g.S.Seal c.args.cfg.now c.args.metadata_partition.now in
    let a = g.D.Device.time c.args.dev.now in
    let b = g.D.Device.time c.init.new.dev in
    let e = g.D.Device.time c.open_parts.new.dev in
    let f = g.D.Device.time c.tracked.new.dev in
    let r = c.tracked.result in
    let opens : Always a f (OnlyOpens l (disk a)) = subst (λ dev. Always a (g.D.Device.time dev) (OnlyOpens l (disk a))) (sym c.tracked.ensures.unchanged) (both_open l c.requires.apart a b e (c.init.ensures.moments t) (c.open_parts.ensures.moments t)) in
    ok_with r (λ s small. subst (λ (rs : List (List ℕ)). AllByRecursion (λ y. g.I.Codec.refusal y tt ≡ None) rs)
    (sym (stored_alike l (as_read (disk a)) (as_read (disk f)) (read_alike l c.requires.apart (disk a) (disk f) (always_now a f (OnlyOpens l (disk a)) opens)) s)) (spelled s small))

pub returns-clause-refusals : goal.returns-clause-refusals
returns-clause-refusals g c t =
    let l = layout_for g.I.Record.place g.I.CodecFixed.SIZE g.S.Seal c.args.cfg.now c.args.metadata_partition.now in
    let a = g.D.Device.time c.args.dev.now in
    let r = c.tracked.result in
    never_cause r c.tracked.ensures.cause l (disk a) g.I.Codec.refusal

pub returns-clause-corrupt_copies : goal.returns-clause-corrupt_copies
returns-clause-corrupt_copies g c t side has =
    absurd (no_refusal _ _ _ _ (c.in_ok-tracking.ensures.refused t side has))

pub returns-clause-foreign : goal.returns-clause-foreign
returns-clause-foreign g c t name has =
    let l = layout_for g.I.Record.place g.I.CodecFixed.SIZE g.S.Seal c.args.cfg.now c.args.metadata_partition.now in
    let a = g.D.Device.time c.args.dev.now in
    let b = g.D.Device.time c.init.new.dev in
    let opening : g.D.Device.Tells → Opening l.metadata (disk a) (disk b) = (λ t. always_now a b (Opening l.metadata (disk a)) (c.init.ensures.moments t)) in
    absurd (c.in_ok-index.ensures.foreign t name (named_after l c.requires.apart (disk a) (disk b) (opening t) name has))

pub returns-clause-complete : goal.returns-clause-complete
returns-clause-complete g c t markers lawful spelled =
    let r = c.tracked.result in
    on_err r (λ none. absurd none) c.tracked.ensures.cause

pub returns-clause-cause : goal.returns-clause-cause
returns-clause-cause g c =
    let r = c.tracked.result in
    on_err r (λ none. absurd none) c.tracked.ensures.cause

pub returns-clause-faults : goal.returns-clause-faults
returns-clause-faults g c =
    omega (arith, ap g.D.Device.faults c.tracked.ensures.unchanged, c.init.ensures.faults, c.open_parts.ensures.faults)
