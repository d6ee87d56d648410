use Rattle.std.proofs.Common.{sym, ◌∙◌, ap}
use Rattle.archives.specs.Shown.{shown}
use Rattle.archives.specs.declared.error.Error.TheVariants.{Mem}
use Rattle.archives.proofs.positions.PositionLemmas.{row_at}
use Rattle.archives.proofs.read.Records.{weaker_at}
use Rattle.archives.proofs.SeveralLemmas.{at_found, at_none, at_unread, key_more, no_key_read, places_short}
use Rattle.archives.proofs.put.Rows.{section_low}
use Rattle.archives.proofs.TableLemmas.{other_key, positions_shown, same_key, short_shown}
use Rattle.archives.proofs.prunable.multi.ArchiveMultiArchive.has_at.Goals as goal
use Rattle.blob_device.proofs.general.Results.{err_of}

-- ---- no position

pub returns-in_err-positions : goal.returns-in_err-positions
returns-in_err-positions g c =
    let short = short_shown g.K.Key.key_bytes _ c.args.index c.in_err-positions.ensures in
    places_short _ g.D.Device c.args.self.now c.args.index c.section_of-section.result c.section_of-section.ensures c.section_of-section.type_inv (g.K.Key.key_bytes c.args.key.now) c.args.dev.now
    c.requires.over short.0 short.1 c.from_residual.result (err_of _ Mem c.from_residual.ensures.1)

-- ---- one record after another

pub loop-position-init : goal.loop-position-init
loop-position-init g c =
    no_key_read _ g.D.Device c.args.self.now c.args.index c.section_of-section.result c.section_of-section.ensures c.section_of-section.type_inv (g.K.Key.key_bytes c.args.key.now) c.args.dev.now
    c.requires.over

pub record_at-requires-clause-kept : goal.record_at-requires-clause-kept
record_at-requires-clause-kept g c =
    weaker_at _ (λ r is. tt) (row_at ((shown c.args.self.now).rows c.section_of-section.result) c.args.index c.in_ok-positions.positions.items (positions_shown g.K.Key.key_bytes _ c.args.index _ c.in_ok-positions.ensures)
    c.deref-position-items.result.now c.deref-position-items.ensures.value c.loop-position.position-index c.loop-position-test.true)

pub loop-position-preserved : goal.loop-position-preserved
loop-position-preserved g c =
    let other = other_key g.K.PartialEq.eq g.K.Key.key_bytes g.met.K.Key.eq_by_bytes c.key.result.now c.args.key.now (sym c.eq.ensures ∙ c.if-eq.false) in
    key_more _ g.D.Device c.args.self.now c.args.index c.section_of-section.result c.section_of-section.ensures c.section_of-section.type_inv (g.K.Key.key_bytes c.args.key.now) c.args.dev.now
    g.K.Key.key_bytes g.met.K.Key.sized c.requires.over c.in_ok-positions.positions.items (positions_shown g.K.Key.key_bytes _ c.args.index _ c.in_ok-positions.ensures) c.deref-position-items.result.now c.deref-position-items.ensures.value
    c.loop-position.position-index c.loop-position-test.true c.loop-position.dev c.record_at.new.dev c.loop-position.invariant
    c.in_ok-record.record c.in_ok-record.ensures (λ equal. other (ap g.K.Key.key_bytes c.key.ensures ∙ equal))

pub returns-in_err-record : goal.returns-in_err-record
returns-in_err-record g c =
    let e = c.in_err-record.field-0.0 in
    at_unread _ g.D.Device c.args.self.now c.args.index c.section_of-section.result c.section_of-section.ensures c.section_of-section.type_inv (g.K.Key.key_bytes c.args.key.now) c.args.dev.now
    g.K.Key.key_bytes g.met.K.Key.sized c.requires.over c.in_ok-positions.positions.items (positions_shown g.K.Key.key_bytes _ c.args.index _ c.in_ok-positions.ensures) c.deref-position-items.result.now c.deref-position-items.ensures.value
    c.loop-position.position-index c.loop-position-test.true c.loop-position.dev c.record_at.new.dev c.loop-position.invariant
    e c.in_err-record.ensures c.from_residual-in_err-record.result (err_of _ e c.from_residual-in_err-record.ensures.1)

pub returns-then-eq : goal.returns-then-eq
returns-then-eq g c =
    let equal = same_key g.K.PartialEq.eq g.K.Key.key_bytes g.met.K.Key.eq_by_bytes c.key.result.now c.args.key.now (sym c.eq.ensures ∙ c.if-eq.true) in
    at_found _ g.D.Device c.args.self.now c.args.index c.section_of-section.result c.section_of-section.ensures c.section_of-section.type_inv (g.K.Key.key_bytes c.args.key.now) c.args.dev.now
    g.K.Key.key_bytes g.met.K.Key.sized c.requires.over c.in_ok-positions.positions.items (positions_shown g.K.Key.key_bytes _ c.args.index _ c.in_ok-positions.ensures) c.deref-position-items.result.now c.deref-position-items.ensures.value
    c.loop-position.position-index c.loop-position-test.true c.loop-position.dev c.record_at.new.dev c.loop-position.invariant
    c.in_ok-record.record c.in_ok-record.ensures (ap g.K.Key.key_bytes (sym c.key.ensures) ∙ equal)

-- ---- none

pub returns : goal.returns
returns g c =
    at_none _ g.D.Device c.args.self.now c.args.index c.section_of-section.result c.section_of-section.ensures c.section_of-section.type_inv (g.K.Key.key_bytes c.args.key.now) c.args.dev.now
    c.requires.over c.in_ok-positions.positions.items (positions_shown g.K.Key.key_bytes _ c.args.index _ c.in_ok-positions.ensures) c.deref-position-items.result.now c.deref-position-items.ensures.value
    c.loop-position.position-index c.loop-position.auto.position-index-end c.loop-position-test.false c.loop-position.dev c.loop-position.invariant

-- ---- the tables are asked

pub positions_at-requires : goal.positions_at-requires
positions_at-requires g c = record { order = c.requires.over.tied.order; index = section_low _ c.args.index _ c.section_of-section.ensures }
