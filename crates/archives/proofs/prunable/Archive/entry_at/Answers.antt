use Rattle.archives.proofs.EntryLemmas.{as_entry_failed, as_unread, key_there}
use Rattle.archives.proofs.ValueLemmas.{value_reads}
use Rattle.archives.proofs.prunable.Archive.entry_at.Goals as goal
use Rattle.blob_device.proofs.general.Results.{err_of}

pub value_of-requires-clause-kept : goal.value_of-requires-clause-kept
value_of-requires-clause-kept g c = (c.args.position, c.requires.kept)

pub returns-in_err-record : goal.returns-in_err-record
returns-in_err-record g c =
    let e = c.in_err-record.field-0.0 in
    as_unread _ g.D.Device g.K.Key.key_bytes c.args.self.now c.args.section c.args.position c.args.dev.now c.record_at.new.dev c.requires.over.pair.apart.values e c.in_err-record.ensures c.from_residual.result (err_of _ e c.from_residual.ensures.1)

pub returns-in_err-value : goal.returns-in_err-value
returns-in_err-value g c =
    let e = c.in_err-value.field-0.0 in
    as_entry_failed _ g.D.Device g.K.Key.key_bytes c.args.self.now c.args.section c.args.position c.args.dev.now c.value_of.new.dev e
    (value_reads _ g.D.Device c.args.self.now g.K.Key.key_bytes c.args.section c.args.position c.requires.over.pair.apart.values c.args.dev.now c.record_at.new.dev c.value_of.new.dev c.in_ok-record.record c.in_ok-record.ensures _ c.in_err-value.ensures)
    c.from_residual-in_err-value.result (err_of _ e c.from_residual-in_err-value.ensures.1)

pub returns : goal.returns
returns g c = record {
  reads = value_reads _ g.D.Device c.args.self.now g.K.Key.key_bytes c.args.section c.args.position c.requires.over.pair.apart.values c.args.dev.now c.record_at.new.dev c.value_of.new.dev c.in_ok-record.record c.in_ok-record.ensures _ c.in_ok-value.ensures;
  key = key_there _ g.D.Device g.K.Key.key_bytes c.args.self.now c.args.section c.args.position c.args.dev.now c.value_of.new.dev g.met.K.Key.sized c.in_ok-record.record c.in_ok-record.ensures.ends c.key.result.now c.key.ensures;
}
