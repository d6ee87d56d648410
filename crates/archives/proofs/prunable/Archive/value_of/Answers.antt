use Rattle.std.proofs.Common.{◌≡◌, refl, ℕ, slice_get, IsSomeAnd, Result, Err}
use Rattle.blob_device.specs.Timeline.{disk}
use Rattle.sealed_pages.specs.lemmas.looking.Looking.{unchanged_now}
use Rattle.section_manager.specs.Sections.{section_key}
use Rattle.paired.specs.Pair.{list_of}
use Rattle.archives.specs.IndexRecord.{IsInRange, spelling_of}
use Rattle.archives.specs.IndexRecordLaws.{place_of-index_record}
use Rattle.archives.specs.Raised.{raised}
use Rattle.archives.specs.Shown.{shown}
use Rattle.archives.specs.declared.error.Error.{Error}
use Rattle.archives.proofs.EntryLemmas.{only_read}
use Rattle.archives.proofs.PuttingLemmas.{row_above}
use Rattle.archives.proofs.read.Fails.{failed, value_error}
use Rattle.archives.proofs.ReadsLemmas.{not_read}
use Rattle.archives.proofs.read.Records.{Names, names_place}
use Rattle.archives.proofs.read.Values.{Says, archive_read, value_cause, value_failed, value_read}
use Rattle.archives.proofs.ValueLemmas.{value_of_unread}
use Rattle.archives.proofs.prunable.Archive.value_of.Given as given
use Rattle.archives.proofs.prunable.Archive.value_of.Goals as goal
use Rattle.archives.proofs.prunable.Archive.value_of.Goals.{After-get_value}
use Rattle.blob_device.proofs.general.Results.{err_of}

-- the record names the place, where it stands on the disk
names : (g : given.Over) (c : After-get_value g) (at : ℕ) → IsInRange c.args.record.now
    → IsSomeAnd (slice_get (list_of (shown c.args.self.now).pair (disk (g.D.Device.time c.args.dev.now)) c.args.section) at) (λ e. e.stored ≡ spelling_of g.K.Key.key_bytes c.args.record.now)
    → Names (shown c.args.self.now).pair (disk (g.D.Device.time c.args.dev.now)) c.args.section at c.value_location-offset.result.0 c.value_location-offset.result.1
names g c at fits stored =
    names_place (shown c.args.self.now).pair (disk (g.D.Device.time c.args.dev.now)) c.args.section at g.K.Key.key_bytes
    (λ x fits. place_of-index_record g.K.Key.SIZE x.index (g.K.Key.key_bytes x.key) x.offset x.size (g.met.K.Key.sized x.key) fits.1 fits.2)
    c.args.record.now fits stored c.value_location-offset.result c.value_location-offset.ensures

-- what the pair says of the place
says : (g : given.Over) (c : goal.After-from_residual g) → g.D.Device.Tells
    → Says (shown c.args.self.now) (disk (g.D.Device.time c.args.dev.now)) c.args.section c.value_location-offset.result.0 c.value_location-offset.result.1 g.row.V.Denot c.in_err-get_value.field-0.0
    (shown c.args.self.now).pair.index.sections.floor (g.D.Device.faults c.args.dev.now) (g.D.Device.faults c.get_value.new.dev)
says g c t =
    let e = c.in_err-get_value.ensures in
    record {
      none = row_above (shown c.args.self.now) c.requires.over c.args.section c.requires.kept.0 c.requires.kept.1;
      guard = e.guard;
      absent = e.absent;
      overflow = e.overflow;
      short = e.short;
      mismatch = e.mismatch t;
      refused = e.refused t;
      why = e.cause;
    }

pub returns-in_err-get_value : goal.returns-in_err-get_value
returns-in_err-get_value g c =
    let a = shown c.args.self.now in
    let d = disk (g.D.Device.time c.args.dev.now) in
    let e = c.in_err-get_value.field-0.0 in
    let r : Result g.row.V.Denot Error = Err (raised e) in
    let n = (goal.at.returns-in_err-get_value g c).After-get_value in
    let place = c.value_location-offset.result in
    value_of_unread _ g.D.Device c.args.self.now g.K.Key.key_bytes c.args.section c.args.record.now c.args.dev.now c.get_value.new.dev c.from_residual.result (raised e) (err_of _ (raised e) c.from_residual.ensures.1) (record {
      over = archive_read a c.requires.over _ _ c.in_err-get_value.ensures.over (λ t. unchanged_now _ _ (c.in_err-get_value.ensures.unchanged t));
      unchanged = c.in_err-get_value.ensures.unchanged;
      footprint = only_read g.D.Device (section_key a.pair.layout.values c.args.section) _ c.args.dev.now c.get_value.new.dev c.in_err-get_value.ensures.unchanged c.in_err-get_value.ensures.reads c.in_err-get_value.ensures.faults;
      ends = λ at has. not_read _ g.D.Device c.args.self.now c.args.section at c.args.dev.now c.get_value.new.dev r (raised e) refl
          (value_error g.row.V.Denot r e refl a.pair.index.sections.floor c.args.section _ _ (row_above a c.requires.over c.args.section c.requires.kept.0 c.requires.kept.1) c.in_err-get_value.ensures.guard c.in_err-get_value.ensures.cause)
          (λ t. value_cause a d d refl c.args.section at place.0 place.1 (names g n at has.fits (has.stored t)) r e refl _ _ _ (says g c t))
          (λ t sound. failed _ r e refl _ _ (value_failed a d d refl c.args.section at place.0 place.1 (names g n at has.fits (has.stored t)) e sound c.requires.over.pair.values t _ _ _ (says g c t)));
    })

pub returns : goal.returns
returns g c =
    let a = shown c.args.self.now in
    let d = disk (g.D.Device.time c.args.dev.now) in
    let n = (goal.at.returns g c).After-get_value in
    let place = c.value_location-offset.result in
    record {
      over = archive_read a c.requires.over _ _ c.in_ok-get_value.ensures.over (λ t. unchanged_now _ _ (c.in_ok-get_value.ensures.unchanged t));
      unchanged = c.in_ok-get_value.ensures.unchanged;
      footprint = only_read g.D.Device (section_key a.pair.layout.values c.args.section) _ c.args.dev.now c.get_value.new.dev c.in_ok-get_value.ensures.unchanged c.in_ok-get_value.ensures.reads c.in_ok-get_value.ensures.faults;
      ends = λ at has. record {
        value = λ t. value_read a d d refl c.args.section at place.0 place.1 (names g n at has.fits (has.stored t)) (g.V.Codec.spelling c.in_ok-get_value.field-0) (c.in_ok-get_value.ensures.value t);
        accepted = c.in_ok-get_value.ensures.accepted;
      };
    }
