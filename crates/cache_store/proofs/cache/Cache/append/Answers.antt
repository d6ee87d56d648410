use Rattle.std.proofs.Common.{arith, refl}
use Rattle.std.specs.BTreeMap.{get}
use Rattle.std.specs.Ordering.{nat_cmp}
use Rattle.std.proofs.Math.Nat.{div-mul-le_self}
use Rattle.blob_device.proofs.general.Results.{err_of}
use Rattle.segments.specs.lemmas.adding.Write.{are_pages}
use Rattle.variable_journal.specs.Shown as journal
use Rattle.cache_store.specs.Holding.{indices_of, offsets_of}
use Rattle.cache_store.specs.Shown.{config_of, shown}
use Rattle.cache_store.proofs.AppendLemmas.{append_failed_at, put_done_at, put_lost_at}
use Rattle.cache_store.proofs.LayoutLemmas.{same_layout}
use Rattle.cache_store.proofs.cache.Cache.append.Goals as goal

-- the section takes an append
pub append-requires-clause-recovered : goal.append-requires-clause-recovered
append-requires-clause-recovered g c = record {
  below = omega (arith, c.section_of-section.ensures, c.requires.over.ceiling, c.ranges.index.fits, div-mul-le_self c.args.index c.args.self.items_per_blob);
  checked = c.requires.over.recovered _;
}

-- the journal's append failed
pub returns-in_err-journal : goal.returns-in_err-journal
returns-in_err-journal g c =
    rw (err_of c.from_residual.result c.in_err-journal.field-0.0 c.from_residual.ensures.1)
    (append_failed_at _ _ (λ f. refl) g.D.Device (shown g.V.Codec.refusal c.args.self) (are_pages g.row.S g.S.Seal g.S.Seal-dict) c.args.dev.now c.requires.over
    c.args.index (g.V.Codec.spelling c.args.value) c.ranges.index.fits c.requires.floor c.requires.absent (g.met.V.Codec.kept c.args.value (config_of c.args.self) c.requires.value) _ c.append.new.dev
    c.section_of-section.result c.section_of-section.ensures _ _ c.in_err-journal.ensures)

-- there was no memory to note the section
pub returns-in_err-note_written : goal.returns-in_err-note_written
returns-in_err-note_written g c =
    rw (err_of c.from_residual-in_err-note_written.result c.in_err-note_written.field-0.0 c.from_residual-in_err-note_written.ensures.1)
    (put_lost_at _ _ (λ f. refl) g.D.Device (shown g.V.Codec.refusal c.args.self) (are_pages g.row.S g.S.Seal g.S.Seal-dict) c.args.dev.now c.requires.over
    c.args.index (g.V.Codec.spelling c.args.value) c.ranges.index.fits c.requires.floor c.requires.absent (g.met.V.Codec.kept c.args.value (config_of c.args.self) c.requires.value) _ c.append.new.dev
    c.section_of-section.result c.section_of-section.ensures (journal.shown c.in_ok-journal.journal) c.in_ok-journal.offset _ _ c.in_ok-journal.ensures _ c.in_err-note_written.ensures.cause)

-- nor to hold the index
pub returns-in_err-insert : goal.returns-in_err-insert
returns-in_err-insert g c =
    rw (err_of c.from_residual-in_err-insert.result c.in_err-insert.field-0.0 c.from_residual-in_err-insert.ensures.1)
    (put_lost_at _ _ (λ f. refl) g.D.Device (shown g.V.Codec.refusal c.args.self) (are_pages g.row.S g.S.Seal g.S.Seal-dict) c.args.dev.now c.requires.over
    c.args.index (g.V.Codec.spelling c.args.value) c.ranges.index.fits c.requires.floor c.requires.absent (g.met.V.Codec.kept c.args.value (config_of c.args.self) c.requires.value) _ c.append.new.dev
    c.section_of-section.result c.section_of-section.ensures (journal.shown c.in_ok-journal.journal) c.in_ok-journal.offset _ _ c.in_ok-journal.ensures _ c.in_err-insert.ensures.cause)

-- the record is held
pub returns : goal.returns
returns g c =
    put_done_at _ _ (λ f. refl) g.D.Device (shown g.V.Codec.refusal c.args.self) (are_pages g.row.S g.S.Seal g.S.Seal-dict) c.args.dev.now c.requires.over
    c.args.index (g.V.Codec.spelling c.args.value) c.ranges.index.fits c.requires.floor c.requires.absent (g.met.V.Codec.kept c.args.value (config_of c.args.self) c.requires.value) _ c.append.new.dev
    c.section_of-section.result c.section_of-section.ensures (journal.shown c.in_ok-journal.journal) c.in_ok-journal.offset _ _ c.in_ok-journal.ensures _
    (same_layout g.S.Seal.seal_of c.args.self.items_per_blob g.V.Codec.refusal _ _ _ _ c.in_ok-journal.ensures.bounds.place c.in_ok-journal.ensures.config)
    (offsets_of c.insert.new.self) c.in_ok-insert.ensures.held (indices_of c.insert.new.self) c.in_ok-insert.ensures.tied
    (get nat_cmp c.note_written.new.written) c.in_ok-note_written.ensures.noted
