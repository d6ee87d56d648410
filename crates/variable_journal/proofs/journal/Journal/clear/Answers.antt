use Rattle.std.proofs.Common.{inl, refl}
use Rattle.blob_device.specs.Timeline.{disk}
use Rattle.section_manager.specs.lemmas.Seen.{failed_again}
use Rattle.segments.specs.FixedShown as bytes
use Rattle.variable_journal.specs.Shown.{shown}
use Rattle.variable_journal.specs.lemmas.Section.{framed_again, gone_bytes}
use Rattle.variable_journal.proofs.journal.Journal.clear.Goals as goal
use Rattle.blob_device.proofs.general.Results.{err_of}

pub returns-in_err-this : goal.returns-in_err-this
returns-in_err-this g c =
    let e = c.in_err-this.field-0.0 in
    let p = c.clear.ensures in
    rw (err_of c.from_residual.result e c.from_residual.ensures.1) (record {
      removes = record {
        moments = p.moments;
        gone = λ t. tt;
        gone_all = λ t. tt;
        entries = p.entries;
        faults = p.faults;
        cause = failed_again e _ _ c.in_err-this.ensures.cause;
      };
      over = tt;
      removed = tt;
      recovered = tt;
      place = tt;
      config = tt;
      floor = tt;
      ceiling = tt;
    })

pub returns : goal.returns
returns g c =
    let p = c.clear.ensures in
    let f = c.in_ok-this.ensures in
    record {
      removes = record { moments = p.moments; gone = f.gone; gone_all = f.gone_all; entries = p.entries; faults = p.faults; cause = tt };
      over = record {
        bytes = f.over;
        free = f.lifted;
        framed = λ t. framed_again (shown c.args.self) (bytes.shown c.in_ok-this.field-0) (disk (g.D.Device.time c.args.dev.now)) (disk (g.D.Device.time c.clear.new.dev)) (c.requires.framed t) (λ q free. inl (gone_bytes (bytes.shown c.in_ok-this.field-0) (disk (g.D.Device.time c.clear.new.dev)) q (f.removed q)));
      };
      removed = f.removed;
      recovered = f.recovered;
      place = f.place;
      config = refl;
      floor = f.floor;
      ceiling = f.ceiling;
    }
