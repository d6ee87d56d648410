use Rattle.std.proofs.Common.{ap, refl}
use Rattle.std.specs.Prelude.{⊤}
use Rattle.blob_device.specs.Timeline.{disk}
use Rattle.sealed_pages.specs.lemmas.looking.Looking.{unchanged_now}
use Rattle.record_tables.specs.Tables as tables
use Rattle.archives.specs.Archives.{state_of}
use Rattle.archives.specs.Finding as wanted
use Rattle.archives.specs.Rows.{row_of}
use Rattle.archives.specs.Shown.{shown}
use Rattle.archives.proofs.put.Rows.{section_low}
use Rattle.archives.proofs.read.Finding.{get_found, get_none}
use Rattle.archives.proofs.read.Records.{to_map, weaker_at}
use Rattle.archives.proofs.ReadsLemmas.{get_done, get_failed, get_nothing}
use Rattle.archives.proofs.TableLemmas.{first_of, none_of}
use Rattle.archives.proofs.prunable.Archive.get_at.Goals as goal
use Rattle.blob_device.proofs.general.Results.{err_of}

pub position_of-requires : goal.position_of-requires
position_of-requires g c = record { order = c.requires.over.tied.order; index = section_low _ c.args.index _ c.section_of-section.ensures }

pub value_at-requires-clause-kept : goal.value_at-requires-clause-kept
value_at-requires-clause-kept g c =
    let rows = tables.rows_of c.args.self.now.tables c.section_of-section.result in
    to_map (row_of g.K.Key.key_bytes) (λ _. ⊤) rows c.in-Some.position (weaker_at _ (λ r is. tt) c.in-Some.ensures.0)

pub returns-in_err-value_at-in-Some : goal.returns-in_err-value_at-in-Some
returns-in_err-value_at-in-Some g c =
    let s = c.section_of-section.result in
    let e = c.in_err-value_at-in-Some.field-0.0 in
    let first = first_of g.K.Key.key_bytes (shown c.args.self.now) s c.args.index c.section_of-section.ensures (tables.rows_of c.args.self.now.tables s) refl c.in-Some.position c.in-Some.ensures in
    get_failed _ g.D.Device c.args.self.now (wanted.Index c.args.index) s c.in-Some.position c.section_of-section.type_inv first.here first.here c.requires.over.pair.apart.values
    c.args.dev.now c.value_at.new.dev _ e (err_of _ e c.from_residual.ensures.1) c.in_err-value_at-in-Some.ensures

pub returns-in_ok-value_at-in-Some : goal.returns-in_ok-value_at-in-Some
returns-in_ok-value_at-in-Some g c =
    let a = shown c.args.self.now in
    let s = c.section_of-section.result in
    let v = c.in_ok-value_at-in-Some.field-0 in
    let first = first_of g.K.Key.key_bytes (shown c.args.self.now) s c.args.index c.section_of-section.ensures (tables.rows_of c.args.self.now.tables s) refl c.in-Some.position c.in-Some.ensures in
    get_done _ g.D.Device c.args.self.now (wanted.Index c.args.index) s c.in-Some.position c.section_of-section.type_inv first.here first.here c.requires.over.pair.apart.values
    c.args.dev.now c.value_at.new.dev v c.in_ok-value_at-in-Some.ensures
    (λ t. get_found a (disk (g.D.Device.time c.args.dev.now)) (c.requires.over.listed t) c.args.index s c.in-Some.position first (g.V.Codec.spelling v)
    (c.in_ok-value_at-in-Some.ensures.ends.value t) _ (ap (state_of a) (unchanged_now _ _ (c.in_ok-value_at-in-Some.ensures.unchanged t))))

pub returns-in-None : goal.returns-in-None
returns-in-None g c =
    let a = shown c.args.self.now in
    let s = c.section_of-section.result in
    get_nothing _ g.D.Device c.args.self.now (wanted.Index c.args.index) c.args.dev.now c.requires.over
    (λ t. get_none a (disk (g.D.Device.time c.args.dev.now)) (c.requires.over.listed t) c.args.index
    (none_of g.K.Key.key_bytes a s c.args.index c.section_of-section.ensures (tables.rows_of c.args.self.now.tables s) refl c.in-None.ensures))
