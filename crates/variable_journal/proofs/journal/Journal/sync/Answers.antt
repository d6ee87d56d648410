use Rattle.std.proofs.Common.{inl, inr, refl, ◌∙◌, sym}
use Rattle.std.specs.Prelude.{Err}
use Rattle.std.specs.List.{Contains}
use Rattle.blob_device.specs.Timeline.{disk}
use Rattle.section_manager.specs.contracts.sealed.PageBlobSectionBuffer.TheImpl.{ghosts}
use Rattle.segments.specs.FixedShown as bytes
use Rattle.segments.specs.lemmas.held.Passing.{guard_ok, guard_on, pruned_on}
use Rattle.variable_journal.specs.lemmas.Section.{framed_again}
use Rattle.variable_journal.specs.Shown.{shown}
use Rattle.variable_journal.proofs.SectionLemmas.{synced_bytes}
use Rattle.variable_journal.proofs.journal.Journal.sync.Goals as goal
use Rattle.blob_device.proofs.general.Lists.{contains_or_not}
use Rattle.blob_device.proofs.general.Results.{err_of}

pub returns-in_err-this : goal.returns-in_err-this
returns-in_err-this g c =
    let e = c.in_err-this.field-0.0 in
    let f = c.in_err-this.ensures in
    rw (err_of c.from_residual.result e c.from_residual.ensures.1) (record {
      over = tt;
      named = tt;
      none = tt;
      others = tt;
      unopened = tt;
      bounds = tt;
      unrecovered = tt;
      config = tt;
      moments = c.sync.ensures.moments;
      idle = c.sync.ensures.idle;
      entries = c.sync.ensures.entries;
      guard = guard_on (Err e) e _ _ refl f.guard;
      refuses = c.sync.ensures.refuses;
      faults = c.sync.ensures.faults;
      cause = pruned_on (Err e) e _ _ _ refl f.cause;
    })

pub returns : goal.returns
returns g c =
    let s = c.sync.ensures in
    let f = c.in_ok-this.ensures in
    record {
      over = record {
        bytes = f.over;
        free = λ q. f.floors q ∙ c.requires.free q;
        framed = λ t. framed_again (shown c.args.self) (bytes.shown c.in_ok-this.field-0) (disk (g.D.Device.time c.args.dev.now)) (disk (g.D.Device.time c.sync.new.dev)) (c.requires.framed t) (λ q free. inr (
          sym (f.unrecovered q) ∙ free,
          synced_bytes (ghosts g.row.S g.S.Seal g.S.Seal-dict) (λ u x. refl) g.S.Seal.seal_of g.D.Device.Tells (shown c.args.self) (bytes.shown c.in_ok-this.field-0) (Contains c.args.sections.now) (contains_or_not c.args.sections.now)
              (g.D.Device.time c.args.dev.now) (g.D.Device.time c.sync.new.dev) t (λ x held. c.requires.bytes.over.opened_list.number x (inl held)) f.named f.none f.others f.bounds (s.moments t) q,
        ));
      };
      named = f.named;
      none = f.none;
      others = f.others;
      unopened = f.unopened;
      bounds = f.bounds;
      unrecovered = f.unrecovered;
      config = refl;
      moments = s.moments;
      idle = s.idle;
      entries = s.entries;
      guard = guard_ok _ _ _ _ f.guard;
      refuses = s.refuses;
      faults = s.faults;
      cause = tt;
    }
