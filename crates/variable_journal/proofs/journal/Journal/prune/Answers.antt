use Rattle.std.proofs.Common.{inl, inr, refl, ◌∙◌, sym}
use Rattle.std.proofs.lemmas.Bool.{cases_lt}
use Rattle.blob_device.specs.Timeline.{disk}
use Rattle.section_manager.specs.lemmas.Seen.{failed_again}
use Rattle.segments.specs.FixedShown as bytes
use Rattle.variable_journal.specs.Shown.{shown}
use Rattle.variable_journal.specs.lemmas.Section.{framed_again, pruned_bytes}
use Rattle.variable_journal.proofs.journal.Journal.prune.Goals as goal
use Rattle.blob_device.proofs.general.Results.{err_of}

pub returns-in_err-bytes : goal.returns-in_err-bytes
returns-in_err-bytes g c =
    let e = c.in_err-bytes.field-0.0 in
    let p = c.prune.ensures in
    rw (err_of c.from_residual.result e c.from_residual.ensures.1) (record {
      over = tt;
      removed = tt;
      spared = tt;
      place = tt;
      ceiling = tt;
      flag = tt;
      floor = tt;
      same_floor = tt;
      recovered = tt;
      unrecovered = tt;
      config = tt;
      moments = p.moments;
      gone = λ t. tt;
      idle = p.idle;
      entries = p.entries;
      faults = p.faults;
      cause = failed_again e _ _ c.in_err-bytes.ensures.cause;
    })

pub returns : goal.returns
returns g c =
    let p = c.prune.ensures in
    let f = c.in_ok-bytes.ensures in
    let old = shown c.args.self in
    record {
      over = record {
        bytes = f.over;
        free = λ q. elim (cases_lt q c.args.min) [ inl low ↦ f.lifted q low | inr stays ↦ f.floors q stays ∙ c.requires.free q ];
        framed = λ t. framed_again old (bytes.shown c.in_ok-bytes.bytes) (disk (g.D.Device.time c.args.dev.now)) (disk (g.D.Device.time c.prune.new.dev)) (c.requires.framed t) (λ q free.
            elim (pruned_bytes c.args.min old (bytes.shown c.in_ok-bytes.bytes) (g.D.Device.time c.args.dev.now) (g.D.Device.time c.prune.new.dev)
            c.requires.bytes.over.opened_list.number f.removed f.kept f.place (p.moments t) q) [
              | inl gone ↦ inl gone.1
              | inr stays ↦ inr (sym (f.unrecovered q stays.0) ∙ free, stays.1)
            ]);
      };
      removed = f.removed;
      spared = f.kept;
      place = f.place;
      ceiling = f.ceiling;
      flag = f.flag;
      floor = f.floor;
      same_floor = f.same_floor;
      recovered = f.recovered;
      unrecovered = f.unrecovered;
      config = refl;
      moments = p.moments;
      gone = f.gone;
      idle = p.idle;
      entries = p.entries;
      faults = p.faults;
      cause = tt;
    }
