use Rattle.std.proofs.Common.{rules, ◌≡◌, ◌^◌, sym, ◌∙◌, ap}
use Rattle.record_tables.specs.Tables as tables
use Rattle.archives.specs.Rows.{Row, row_of}
use Rattle.archives.specs.declared.error.Error.TheVariants.{Mem}
use Rattle.archives.proofs.EnterLemmas.{room_here, row_entered, row_unroomed, section_here}
use Rattle.archives.proofs.put.Rows.{section_low}
use Rattle.archives.proofs.TableLemmas.{room_wider}
use Rattle.archives.proofs.prunable.opening.enter.Goals as goal
use Rattle.blob_device.proofs.general.Results.{err_of}

pub has_room-requires : goal.has_room-requires
has_room-requires g c = c.requires.tied.order

pub reserve-requires : goal.reserve-requires
reserve-requires g c = record {
  order = c.requires.tied.order;
  room = room_wider c.args.cfg.now.limits.sections c.args.cfg.now.limits.per_section (2 ^ 24) (2 ^ 40) (tables.rows_of c.args.tables.now) c.args.section
      c.requires.limits.sections c.requires.limits.records (c.has_room.ensures.0 c.if-not-has_room.false);
  index = section_low c.args.cfg.now.items_per_section c.index-index.result c.args.section (sym c.if-section_of-section.false ∙ c.section_of.ensures);
}

pub push-requires : goal.push-requires
push-requires g c = record {
  order = c.in_ok-reserve.ensures.ends.order;
  spare = c.in_ok-reserve.ensures.ends.spare;
  index = section_low c.args.cfg.now.items_per_section c.index-index.result c.args.section (sym c.if-section_of-section.false ∙ c.section_of.ensures);
}

pub returns-then-section_of-section : goal.returns-then-section_of-section
returns-then-section_of-section g c = search rules

pub returns-then-not-has_room : goal.returns-then-not-has_room
returns-then-not-has_room g c = (
  section_here c.args.cfg.now.items_per_section c.index-index.result c.args.found.now.index c.args.section c.section_of.result c.index-index.ensures c.section_of.ensures c.if-section_of-section.false,
  λ room. absurd (cc (
    (c.has_room.ensures.1 ((room_here g.K.Key.key_bytes g.T.Word.PartialEq.eq (g.T.Translator.word_of c.args.cfg.now.translator) c.args.cfg.now.items_per_section c.args.cfg.now.limits c.args.tables.now c.args.section
        (record { index = c.args.found.now.index; key = g.K.Key.key_bytes c.args.found.now.key })).1 room)),
    c.if-not-has_room.true,
  )),
)

pub returns-in_err-reserve : goal.returns-in_err-reserve
returns-in_err-reserve g c =
    let here = section_here c.args.cfg.now.items_per_section c.index-index.result c.args.found.now.index c.args.section c.section_of.result c.index-index.ensures c.section_of.ensures c.if-section_of-section.false in
    row_unroomed g.K.Key.key_bytes g.T.Word.PartialEq.eq (g.T.Translator.word_of c.args.cfg.now.translator) c.args.cfg.now.items_per_section c.args.cfg.now.limits c.args.tables.now c.args.section
    (record { index = c.args.found.now.index; key = g.K.Key.key_bytes c.args.found.now.key }) c.reserve.new.self c.from_residual.result
    (err_of c.from_residual.result Mem c.from_residual.ensures.1) here (c.has_room.ensures.0 c.if-not-has_room.false)

pub returns : goal.returns
returns g c =
    let kb = g.K.Key.key_bytes in
    let eq = g.T.Word.PartialEq.eq in
    let words = g.T.Translator.word_of c.args.cfg.now.translator in
    let limits = c.args.cfg.now.limits in
    let items = c.args.cfg.now.items_per_section in
    let row : Row = record { index = c.args.found.now.index; key = kb c.args.found.now.key } in
    let is : row_of kb (record { index = c.index-index.result; key = c.key-key.result.now }) ≡ row =
    λ i. record { index = c.index-index.ensures i; key = kb (c.key-key.ensures i) } in
    let here = section_here items c.index-index.result c.args.found.now.index c.args.section c.section_of.result c.index-index.ensures c.section_of.ensures c.if-section_of-section.false in
    let room = c.has_room.ensures.0 c.if-not-has_room.false in (
      row_entered kb eq words items limits c.args.tables.now c.args.section row c.reserve.new.self c.push.new.self c.index-index.result c.transform-word.result c.key-key.result.now is
          (ap words (sym c.as_bytes.ensures) ∙ sym c.transform-word.ensures) here c.requires.limits.some_records room c.requires.tied c.reserve.ensures.same c.in_ok-reserve.ensures.ends c.push.ensures,
      λ none. none ((room_here kb eq words items limits c.args.tables.now c.args.section row).0 room),
    )
