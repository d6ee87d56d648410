use Rattle.std.proofs.Common.{sym, ◌∙◌}
use Rattle.archives.specs.Shown.{shown}
use Rattle.archives.specs.declared.error.Error.TheVariants.{Mem}
use Rattle.archives.proofs.positions.PositionLemmas.{no_position, row_at, some_position}
use Rattle.archives.proofs.read.Records.{weaker_at}
use Rattle.archives.proofs.SeveralLemmas.{entries_done, entry_more, entry_short, entry_unread, no_entries_at, none_read, positions_short}
use Rattle.archives.proofs.put.Rows.{section_low}
use Rattle.archives.proofs.TableLemmas.{positions_shown, short_shown}
use Rattle.archives.proofs.prunable.Archive.get_entries.Goals as goal
use Rattle.blob_device.proofs.general.Results.{err_of}

-- ---- no position

pub returns-in_err-positions : goal.returns-in_err-positions
returns-in_err-positions g c =
    let short = short_shown g.K.Key.key_bytes _ c.args.index c.in_err-positions.ensures in
    positions_short _ g.D.Device c.args.self.now g.K.Key.key_bytes c.args.index c.section_of-section.result c.section_of-section.ensures c.section_of-section.type_inv c.args.dev.now
    c.requires.over short.0 short.1 c.from_residual.result (err_of _ Mem c.from_residual.ensures.1)

pub returns-then-is_empty : goal.returns-then-is_empty
returns-then-is_empty g c =
    let ps = c.in_ok-positions.positions in
    no_entries_at _ g.D.Device c.args.self.now g.K.Key.key_bytes c.args.index c.section_of-section.result c.section_of-section.ensures c.section_of-section.type_inv c.args.dev.now
    c.requires.over ps.items (positions_shown g.K.Key.key_bytes _ c.args.index _ c.in_ok-positions.ensures) (no_position ps.items ps.len ps.ok.0 (sym c.is_empty.ensures ∙ c.if-is_empty.true))

-- ---- one entry after another

pub loop-position-init : goal.loop-position-init
loop-position-init g c =
    none_read _ g.D.Device c.args.self.now g.K.Key.key_bytes c.args.index c.section_of-section.result c.section_of-section.ensures c.section_of-section.type_inv c.args.dev.now
    c.requires.over c.new-entries.result.items c.new-entries.ensures.items

pub entry_at-requires-clause-kept : goal.entry_at-requires-clause-kept
entry_at-requires-clause-kept g c =
    weaker_at _ (λ r is. tt) (row_at ((shown c.args.self.now).rows c.section_of-section.result) c.args.index c.in_ok-positions.positions.items (positions_shown g.K.Key.key_bytes _ c.args.index _ c.in_ok-positions.ensures)
    c.deref-position-items.result.now c.deref-position-items.ensures.value c.loop-position.position-index c.loop-position-test.true)

pub loop-position-preserved : goal.loop-position-preserved
loop-position-preserved g c =
    entry_more _ g.D.Device c.args.self.now g.K.Key.key_bytes c.args.index c.section_of-section.result c.section_of-section.ensures c.section_of-section.type_inv c.args.dev.now
    c.in_ok-positions.positions.items (positions_shown g.K.Key.key_bytes _ c.args.index _ c.in_ok-positions.ensures) c.deref-position-items.result.now c.deref-position-items.ensures.value c.loop-position.position-index c.loop-position-test.true
    c.loop-position.entries.items c.loop-position.dev c.entry_at.new.dev c.loop-position.invariant
    c.in_ok-entry_at.field-0 c.in_ok-entry_at.ensures c.push.new.self.items c.in_ok-push.ensures.items

pub returns-in_err-entry_at : goal.returns-in_err-entry_at
returns-in_err-entry_at g c =
    let e = c.in_err-entry_at.field-0.0 in
    entry_unread _ g.D.Device c.args.self.now g.K.Key.key_bytes c.args.index c.section_of-section.result c.section_of-section.ensures c.section_of-section.type_inv c.args.dev.now
    c.in_ok-positions.positions.items (positions_shown g.K.Key.key_bytes _ c.args.index _ c.in_ok-positions.ensures) c.deref-position-items.result.now c.deref-position-items.ensures.value c.loop-position.position-index c.loop-position-test.true
    c.loop-position.entries.items c.loop-position.dev c.entry_at.new.dev c.loop-position.invariant
    e c.in_err-entry_at.ensures c.from_residual-in_err-entry_at.result (err_of _ e c.from_residual-in_err-entry_at.ensures.1)

pub returns-in_err-push : goal.returns-in_err-push
returns-in_err-push g c =
    entry_short _ g.D.Device c.args.self.now g.K.Key.key_bytes c.args.index c.section_of-section.result c.section_of-section.ensures c.section_of-section.type_inv c.args.dev.now
    c.in_ok-positions.positions.items (positions_shown g.K.Key.key_bytes _ c.args.index _ c.in_ok-positions.ensures) c.deref-position-items.result.now c.deref-position-items.ensures.value c.loop-position.position-index c.loop-position-test.true
    c.loop-position.entries.items c.loop-position.dev c.entry_at.new.dev c.loop-position.invariant
    c.in_ok-entry_at.field-0 c.in_ok-entry_at.ensures c.from_residual-in_err-push.result (err_of _ Mem c.from_residual-in_err-push.ensures.1)

-- ---- all of them

pub returns : goal.returns
returns g c =
    let ps = c.in_ok-positions.positions in
    entries_done _ g.D.Device c.args.self.now g.K.Key.key_bytes c.args.index c.section_of-section.result c.section_of-section.ensures c.section_of-section.type_inv c.args.dev.now
    c.requires.over ps.items (positions_shown g.K.Key.key_bytes _ c.args.index _ c.in_ok-positions.ensures) (some_position ps.items ps.len ps.ok.0 (sym c.is_empty.ensures ∙ c.if-is_empty.false))
    c.deref-position-items.result.now c.deref-position-items.ensures.value c.loop-position.position-index c.loop-position.auto.position-index-end c.loop-position-test.false
    c.loop-position.entries.items c.loop-position.dev c.loop-position.invariant c.from_vec.result c.from_vec.ensures

-- ---- the tables are asked

pub positions_at-requires : goal.positions_at-requires
positions_at-requires g c = record { order = c.requires.over.tied.order; index = section_low _ c.args.index _ c.section_of-section.ensures }
