-- The sections are looked at in three steps, and at each they are as they were opened.
use Rattle.std.specs.Prelude.{string_bytes}
use Rattle.std.proofs.Common.{◌≡◌, ◌<◌, ◌≤◌, ◌∙◌, refl, sym, ap, subst, arith, IsSomeAnd}
use Rattle.blob_device.specs.Timeline.{disk}
use Rattle.sealed_pages.specs.declared.page_blob.PageBlob.{PageBlob}
use Rattle.sealed_pages.specs.declared.pages.Pages.{Pages}
use Rattle.section_manager.specs.Sections.{Sections}
use Rattle.section_manager.specs.declared.sealed.AppendFactory.{AppendFactory}
use Rattle.segments.specs.FixedFloors.{Floors, preflight_shown, journal_of}
use Rattle.segments.specs.FixedLists.{Lists}
use Rattle.segments.proofs.checkpoint.Earlier.{Come}
use Rattle.segments.proofs.checkpoint.Found.{found, opened_for}
use Rattle.segments.proofs.checkpoint.Preflights.{checks_partial, checks_opening, looks_owing, checks_ok}
use Rattle.segments.proofs.opened.Stages.{stage_opened, stage_same, stage_read, stage_checkable, stage_refused, stage_come, stage_reaches, come_read}
use Rattle.segments.specs.lemmas.adding.Write.{are_pages}
use Rattle.segments.proofs.fixed.Journal.preflight_restore.Given.{Over}
use Rattle.segments.proofs.fixed.Journal.preflight_restore.Goals as goal
use Rattle.blob_device.proofs.general.Results.{err_of}

abbrev Held : Over → Type 0
Held g = Sections (AppendFactory g.row.S.Denot) (PageBlob g.row.S.Denot g.S.Seal)

abbrev Journals : Over → Type 0
Journals g = Lists (AppendFactory g.row.S.Denot) (PageBlob g.row.S.Denot g.S.Seal)

pub returns-in_err-check_whole : goal.returns-in_err-check_whole
returns-in_err-check_whole g c =
    let e = c.in_err-check_whole.field-0.0 in
    checks_partial g.S.Seal.seal_of c.args.cfg.now.pages.page_size g.A.CodecFixed.SIZE (string_bytes c.args.cfg.now.partition) c.args.section c.args.size g.A.Codec.spelling g.A.Codec.accepted g.A.Codec.refusal g.D.Device
    c.from_residual.result e (err_of c.from_residual.result e c.from_residual.ensures.1) _ c.args.dev.now c.in_err-check_whole.ensures.partial c.in_err-check_whole.ensures.damage

pub returns-in_err-journal : goal.returns-in_err-journal
returns-in_err-journal g c =
    let e = c.in_err-journal.field-0.0 in
    let f = c.in_err-journal.ensures in
    checks_opening g.S.Seal.seal_of c.args.cfg.now.pages.page_size g.A.CodecFixed.SIZE (string_bytes c.args.cfg.now.partition) c.args.section c.args.size g.A.Codec.spelling g.A.Codec.accepted g.A.Codec.refusal g.D.Device
    c.from_residual-in_err-journal.result e (err_of c.from_residual-in_err-journal.result e c.from_residual-in_err-journal.ensures.1) _ c.args.dev.now c.init_bounded.new.dev c.in_ok-check_whole.ensures.whole
    f.moments f.foreign_disk f.foreign_entries f.name_entries f.named f.entries f.faults f.cause

pub returns-in_err-found : goal.returns-in_err-found
returns-in_err-found g c =
    stage_refused g.S.Seal.seal_of _ _ g.D.Device _ c.args.cfg.now.pages _ _ _ _ _ (stage_opened g.S.Seal.seal_of _ _ g.D.Device _ _ _ _ _ _ _ _ _ c.in_ok-journal.ensures (ap (λ (j : Journals g). j.sections) c.unchecked-found.ensures.journal)) _ _ _ _ _ _ _ _ _ _
    (err_of c.from_residual-in_err-found.result _ c.from_residual-in_err-found.ensures.1) c.in_ok-check_whole.ensures.whole (c.in_err-found.ensures c.args.size)

pub checked_earlier-requires-clause-ready : goal.checked_earlier-requires-clause-ready
checked_earlier-requires-clause-ready g c = stage_checkable g.S.Seal.seal_of _ _ g.D.Device _ _ _ _ _ _ _ (stage_opened g.S.Seal.seal_of _ _ g.D.Device _ _ _ _ _ _ _ _ _ c.in_ok-journal.ensures (ap (λ (j : Journals g). j.sections) c.unchecked-found.ensures.journal)) (are_pages g.row.S g.S.Seal g.S.Seal-dict)

pub checked_earlier-requires-clause-bounded : goal.checked_earlier-requires-clause-bounded
checked_earlier-requires-clause-bounded g c = omega (arith, (stage_opened g.S.Seal.seal_of _ _ g.D.Device _ _ _ _ _ _ _ _ _ c.in_ok-journal.ensures (ap (λ (j : Journals g). j.sections) c.unchecked-found.ensures.journal)).ceiling)

pub checked_earlier-requires-clause-fresh : goal.checked_earlier-requires-clause-fresh
checked_earlier-requires-clause-fresh g c s = (c.unchecked-found.ensures.boundaries s, ap (λ (j : Journals g). j.floor_of s) c.unchecked-found.ensures.journal ∙ c.in_ok-journal.ensures.floors s)

pub checked_target-requires-clause-ready : goal.checked_target-requires-clause-ready
checked_target-requires-clause-ready g c = stage_checkable g.S.Seal.seal_of _ _ g.D.Device _ _ _ _ _ _ _ (stage_read g.S.Seal.seal_of _ _ g.D.Device _ _ _ _ _ _ _ _ _ (c.in_ok-found.ensures c.args.size).ends.same (c.in_ok-found.ensures c.args.size).unchanged (c.in_ok-found.ensures c.args.size).over (c.in_ok-found.ensures c.args.size).entries (c.in_ok-found.ensures c.args.size).faults (stage_opened g.S.Seal.seal_of _ _ g.D.Device _ _ _ _ _ _ _ _ _ c.in_ok-journal.ensures (ap (λ (j : Journals g). j.sections) c.unchecked-found.ensures.journal))) (are_pages g.row.S g.S.Seal g.S.Seal-dict)

pub checked_target-requires-clause-bounded : goal.checked_target-requires-clause-bounded
checked_target-requires-clause-bounded g c = omega (arith, (stage_read g.S.Seal.seal_of _ _ g.D.Device _ _ _ _ _ _ _ _ _ (c.in_ok-found.ensures c.args.size).ends.same (c.in_ok-found.ensures c.args.size).unchanged (c.in_ok-found.ensures c.args.size).over (c.in_ok-found.ensures c.args.size).entries (c.in_ok-found.ensures c.args.size).faults (stage_opened g.S.Seal.seal_of _ _ g.D.Device _ _ _ _ _ _ _ _ _ c.in_ok-journal.ensures (ap (λ (j : Journals g). j.sections) c.unchecked-found.ensures.journal))).ceiling)

pub checked_target-requires-clause-earlier : goal.checked_target-requires-clause-earlier
checked_target-requires-clause-earlier g c =
    let looks = c.in_ok-found.ensures c.args.size in
    come_read g.S.Seal.seal_of g.A.CodecFixed.SIZE c.args.section g.A.Codec.spelling g.A.Codec.accepted g.D.Device (journal_of c.unchecked-found.result).sections (journal_of c.in_ok-found.found).sections (λ s. s < c.args.section) (preflight_shown c.in_ok-found.found)
    c.init_bounded.new.dev c.checked_earlier.new.dev c.args.size looks.unchanged looks.ends

pub returns-in_err-found-2 : goal.returns-in_err-found-2
returns-in_err-found-2 g c =
    stage_refused g.S.Seal.seal_of _ _ g.D.Device _ c.args.cfg.now.pages _ _ _ _ _ (stage_read g.S.Seal.seal_of _ _ g.D.Device _ _ _ _ _ _ _ _ _ (c.in_ok-found.ensures c.args.size).ends.same (c.in_ok-found.ensures c.args.size).unchanged (c.in_ok-found.ensures c.args.size).over (c.in_ok-found.ensures c.args.size).entries (c.in_ok-found.ensures c.args.size).faults (stage_opened g.S.Seal.seal_of _ _ g.D.Device _ _ _ _ _ _ _ _ _ c.in_ok-journal.ensures (ap (λ (j : Journals g). j.sections) c.unchecked-found.ensures.journal))) _ _ _ _ _ _ _ _ _ _
    (err_of c.from_residual-in_err-found-2.result _ c.from_residual-in_err-found-2.ensures.1) c.in_ok-check_whole.ensures.whole c.in_err-found-2.ensures

pub returns-in_err-owing : goal.returns-in_err-owing
returns-in_err-owing g c =
    let m = (journal_of c.in_ok-found-2.found).sections in
    let looks2 = c.in_ok-found-2.ensures in
    let s3 = stage_read g.S.Seal.seal_of _ _ g.D.Device _ _ _ _ _ _ _ _ _ c.in_ok-found-2.ensures.ends.0.same c.in_ok-found-2.ensures.unchanged c.in_ok-found-2.ensures.over c.in_ok-found-2.ensures.entries c.in_ok-found-2.ensures.faults (stage_read g.S.Seal.seal_of _ _ g.D.Device _ _ _ _ _ _ _ _ _ (c.in_ok-found.ensures c.args.size).ends.same (c.in_ok-found.ensures c.args.size).unchanged (c.in_ok-found.ensures c.args.size).over (c.in_ok-found.ensures c.args.size).entries (c.in_ok-found.ensures c.args.size).faults (stage_opened g.S.Seal.seal_of _ _ g.D.Device _ _ _ _ _ _ _ _ _ c.in_ok-journal.ensures (ap (λ (j : Journals g). j.sections) c.unchecked-found.ensures.journal))) in
    let come = come_read g.S.Seal.seal_of g.A.CodecFixed.SIZE c.args.section g.A.Codec.spelling g.A.Codec.accepted g.D.Device (journal_of c.in_ok-found.found).sections m (λ s. s ≤ c.args.section) (preflight_shown c.in_ok-found-2.found) c.checked_earlier.new.dev c.checked_target.new.dev c.args.size looks2.unchanged looks2.ends.0 in
    stage_refused g.S.Seal.seal_of _ _ g.D.Device _ c.args.cfg.now.pages _ _ _ _ _ s3 _ _ _ _ _ _ _ _ _ _
    (err_of c.from_residual-in_err-owing.result _ c.from_residual-in_err-owing.ensures.1) c.in_ok-check_whole.ensures.whole
    (looks_owing g.S.Seal.seal_of m.factory.pages.page_size g.A.CodecFixed.SIZE m.partition c.args.section c.args.size g.A.Codec.spelling g.A.Codec.accepted g.A.Codec.refusal g.D.Device _ _ m c.in_err-owing.field-0.0 c.checked_target.new.dev (λ r. journal_of r ≡ journal_of r) s3.opened.over
    (λ t x bad. omega (
      arith,
      c.in_err-owing.ensures.damage x bad,
      stage_reaches g.S.Seal.seal_of _ _ g.D.Device _ _ _ _ _ m c.checked_target.new.dev s3 g.A.CodecFixed.SIZE c.args.size g.A.Codec.spelling g.A.Codec.accepted (preflight_shown c.in_ok-found-2.found) (are_pages g.row.S g.S.Seal g.S.Seal-dict) (λ f. refl) c.ranges.section.fits
          g.met.A.CodecFixed.fixed.at_least come looks2.ends.1 t x.section,
    )) c.in_err-owing.ensures.cause)

pub returns : goal.returns
returns g c =
    let n = (journal_of c.in_ok-owing.owing).sections in
    let f = preflight_shown c.in_ok-owing.owing in
    let ends = c.in_ok-found-2.ensures.ends in
    let shows = c.in_ok-owing.ensures.same in
    let s4 = stage_same g.S.Seal.seal_of _ _ g.D.Device _ _ _ _ _ _ n _ c.in_ok-owing.ensures.sections (stage_read g.S.Seal.seal_of _ _ g.D.Device _ _ _ _ _ _ _ _ _ c.in_ok-found-2.ensures.ends.0.same c.in_ok-found-2.ensures.unchanged c.in_ok-found-2.ensures.over c.in_ok-found-2.ensures.entries c.in_ok-found-2.ensures.faults (stage_read g.S.Seal.seal_of _ _ g.D.Device _ _ _ _ _ _ _ _ _ (c.in_ok-found.ensures c.args.size).ends.same (c.in_ok-found.ensures c.args.size).unchanged (c.in_ok-found.ensures c.args.size).over (c.in_ok-found.ensures c.args.size).entries (c.in_ok-found.ensures c.args.size).faults (stage_opened g.S.Seal.seal_of _ _ g.D.Device _ _ _ _ _ _ _ _ _ c.in_ok-journal.ensures (ap (λ (j : Journals g). j.sections) c.unchecked-found.ensures.journal)))) in
    let was = come_read g.S.Seal.seal_of g.A.CodecFixed.SIZE c.args.section g.A.Codec.spelling g.A.Codec.accepted g.D.Device (journal_of c.in_ok-found.found).sections (journal_of c.in_ok-found-2.found).sections (λ s. s ≤ c.args.section) (preflight_shown c.in_ok-found-2.found) c.checked_earlier.new.dev c.checked_target.new.dev c.args.size
    c.in_ok-found-2.ensures.unchanged ends.0 in
    let come = stage_come g.S.Seal.seal_of _ _ g.D.Device _ _ _ _ _ n c.checked_target.new.dev s4 g.A.CodecFixed.SIZE c.args.size g.A.Codec.spelling g.A.Codec.accepted f (λ s. s ≤ c.args.section)
    (subst (λ (h : Floors g.row.A.Denot). Come g.S.Seal.seal_of g.A.CodecFixed.SIZE c.args.section g.A.Codec.spelling g.A.Codec.accepted g.D.Device.Tells n (λ s. s ≤ c.args.section) n h (disk (g.D.Device.time c.checked_target.new.dev)) c.args.size) (sym shows)
    (subst (λ (m : Held g). Come g.S.Seal.seal_of g.A.CodecFixed.SIZE c.args.section g.A.Codec.spelling g.A.Codec.accepted g.D.Device.Tells m (λ s. s ≤ c.args.section) m (preflight_shown c.in_ok-found-2.found) (disk (g.D.Device.time c.checked_target.new.dev)) c.args.size) (sym c.in_ok-owing.ensures.sections) was)) in
    let paged = ap (λ (x : Pages). x.page_size) s4.paging in
    let end = ap (λ (f : Floors g.row.A.Denot). f.floor_of c.args.section) shows ∙ ends.1 in
    checks_ok g.S.Seal.seal_of c.args.cfg.now.pages.page_size g.A.CodecFixed.SIZE (string_bytes c.args.cfg.now.partition) c.args.section c.args.size g.A.Codec.spelling g.A.Codec.accepted g.A.Codec.refusal g.D.Device c.in_ok-owing.owing c.args.dev.now c.checked_target.new.dev _ c.in_ok-check_whole.ensures.whole s4.moments s4.foreign s4.entries s4.faults (
      found g.S.Seal.seal_of g.A.CodecFixed.SIZE c.args.section c.args.size g.A.Codec.spelling g.A.Codec.accepted _ _ (are_pages g.row.S g.S.Seal g.S.Seal-dict) g.D.Device.Tells _ c.args.cfg.now.pages _ _ _ n f s4.opened s4.moments s4.ceiling paged c.ranges.section.fits g.met.A.CodecFixed.fixed.at_least come end
          (subst (λ (h : Floors g.row.A.Denot). IsSomeAnd h.target (λ t. (t.section ≡ c.args.section) × (t.size ≡ c.args.size))) (sym shows) ends.2),
      opened_for g.S.Seal.seal_of g.A.CodecFixed.SIZE c.args.section c.args.size g.A.Codec.spelling g.A.Codec.accepted _ _ (are_pages g.row.S g.S.Seal g.S.Seal-dict) g.D.Device.Tells _ c.args.cfg.now.pages _ _ _ n f s4.opened s4.moments s4.ceiling paged c.ranges.section.fits g.met.A.CodecFixed.fixed.at_least come end
          (journal_of c.in_ok-owing.owing).unrecovered c.in_ok-owing.ensures.unrecovered c.in_ok-owing.ensures.reached c.in_ok-owing.owing.whole c.args.cfg.now.write_buffer s4.paging s4.buffering,
    )

pub owing_longer-requires : goal.owing_longer-requires
owing_longer-requires g c =
    let looks = c.in_ok-found.ensures c.args.size in
    let same = ap (λ (j : Journals g). j.sections) c.unchecked-found.ensures.journal in
    record { floor = ap (λ (m : Held g). m.floor) c.in_ok-found-2.ensures.ends.0.same ∙ ap (λ (m : Held g). m.floor) looks.ends.same ∙ ap (λ (m : Held g). m.floor) same ∙ c.in_ok-journal.ensures.floor }
