use Rattle.std.proofs.Common.{inl, inr, ap, Err}
use Rattle.blob_device.specs.Timeline.{disk}
use Rattle.paired.specs.lemmas.pair.Reads.{may_read}
use Rattle.sealed_pages.specs.lemmas.looking.Looking.{unchanged_now}
use Rattle.section_manager.specs.Refusing as segments
use Rattle.section_manager.specs.Sections.{section_key}
use Rattle.archives.specs.Raised.{raised}
use Rattle.archives.specs.Shown.{shown}
use Rattle.archives.specs.declared.prunable.index_record.IndexRecord.{IndexRecord}
use Rattle.archives.proofs.EntryLemmas.{only_read, unread_as}
use Rattle.archives.proofs.PuttingLemmas.{row_above}
use Rattle.archives.proofs.read.Fails.{not_given, record_cause}
use Rattle.archives.proofs.ReadsLemmas.{no_record}
use Rattle.archives.proofs.read.Records.{key_behind, record_at}
use Rattle.archives.proofs.read.Values.{archive_read}
use Rattle.archives.proofs.prunable.Archive.record_at.Given as given
use Rattle.archives.proofs.prunable.Archive.record_at.Goals as goal
use Rattle.blob_device.proofs.general.Results.{err_of}

-- memory or the device failed
record_failed : (g : given.Over) (c : goal.After-from_residual g) → g.D.Device.Tells
    → segments.HasFailed {T = IndexRecord g.row.K.Denot} (Err c.in_err-get.field-0.0) (g.D.Device.faults c.args.dev.now) (g.D.Device.faults c.get.new.dev)
record_failed g c t =
    let key = key_behind g.K.Key.key_bytes c.args.self.now.tables c.args.section c.args.position c.requires.kept in
    let made = record_at (shown c.args.self.now).pair (disk (g.D.Device.time c.args.dev.now)) c.args.section c.args.position g.K.Key.key_bytes g.K.Key.SIZE ((shown c.args.self.now).rows c.args.section)
    (c.requires.over.listed t c.args.section) (c.requires.over.spelled t c.args.section) key.0 key.1 in
    not_given c.in_err-get.field-0.0 made.0 _ _ (c.in_err-get.ensures.gives t made.0 made.1 made.2)

pub returns-in_err-get : goal.returns-in_err-get
returns-in_err-get g c =
    let a = shown c.args.self.now in
    let e = c.in_err-get.field-0.0 in
    let low = row_above a c.requires.over c.args.section c.args.position c.requires.kept in
    unread_as _ g.D.Device g.K.Key.key_bytes c.args.self.now c.args.section c.args.position c.args.dev.now c.get.new.dev c.from_residual.result (raised e) (err_of _ (raised e) c.from_residual.ensures.1) (record {
      over = archive_read a c.requires.over _ _ c.in_err-get.ensures.over (λ t. unchanged_now _ _ (c.in_err-get.ensures.unchanged t));
      unchanged = c.in_err-get.ensures.unchanged;
      footprint = only_read g.D.Device (section_key a.pair.layout.index c.args.section) _ c.args.dev.now c.get.new.dev c.in_err-get.ensures.unchanged
          (may_read a.pair.index.sections c.args.section _ _ _ _ c.in_err-get.ensures.reads (λ none. ap g.D.Device.opened (c.in_err-get.ensures.idle (inr (inl none))))) c.in_err-get.ensures.faults;
      ends = no_record _ g.D.Device c.args.self.now (raised e) c.args.dev.now c.get.new.dev
          (record_cause (IndexRecord g.row.K.Denot) g.D.Device.Tells e _ _ (record_failed g c) a.pair.index.sections.floor c.args.section c.args.position low c.in_err-get.ensures.guard c.in_err-get.ensures.cause);
    })

pub returns : goal.returns
returns g c =
    let a = shown c.args.self.now in
    record {
      over = archive_read a c.requires.over _ _ c.in_ok-get.ensures.over (λ t. unchanged_now _ _ (c.in_ok-get.ensures.unchanged t));
      unchanged = c.in_ok-get.ensures.unchanged;
      footprint = only_read g.D.Device (section_key a.pair.layout.index c.args.section) _ c.args.dev.now c.get.new.dev c.in_ok-get.ensures.unchanged
          (may_read a.pair.index.sections c.args.section _ _ _ _ c.in_ok-get.ensures.reads (λ none. ap g.D.Device.opened (c.in_ok-get.ensures.idle (inr (inl none))))) c.in_ok-get.ensures.faults;
      ends = record { stored = c.in_ok-get.ensures.record; fits = c.in_ok-get.ensures.accepted };
    }
