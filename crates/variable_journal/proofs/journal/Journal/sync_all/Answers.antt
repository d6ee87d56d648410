use Rattle.std.proofs.Common.{◌≡◌, ℕ, inl, inr, refl, ◌∙◌, sym}
use Rattle.blob_device.specs.Timeline.{disk}
use Rattle.section_manager.specs.Sections.{IsHeld}
use Rattle.section_manager.specs.contracts.sealed.PageBlobSectionBuffer.TheImpl.{ghosts}
use Rattle.section_manager.specs.lemmas.Seen.{err_same, failed_again}
use Rattle.segments.specs.FixedShown as bytes
use Rattle.variable_journal.specs.Shown.{shown}
use Rattle.variable_journal.proofs.SectionLemmas.{held_or_not, settling_held, synced_bytes, not_held, unsettled_held, no_low}
use Rattle.variable_journal.proofs.journal.Journal.sync_all.Goals as goal
use Rattle.blob_device.proofs.general.Results.{err_of}
use Rattle.variable_journal.specs.lemmas.Section.{framed_again}

pub returns-in_err-this : goal.returns-in_err-this
returns-in_err-this g c =
    let e = c.in_err-this.field-0.0 in
    let s = c.sync_all.ensures in
    let j = shown c.args.self in
    rw (err_of c.from_residual.result e c.from_residual.ensures.1) (record {
      over = tt;
      named = tt;
      none = tt;
      others = tt;
      unopened = tt;
      bounds = tt;
      unrecovered = tt;
      config = tt;
      moments = λ t. settling_held g.S.Seal.seal_of j _ _ (s.moments t);
      idle = λ none. s.idle (λ q every un. none q (unsettled_held (ghosts g.row.S g.S.Seal g.S.Seal-dict) j q un) un);
      entries = λ k none. s.entries k (λ x. none (x.0, (unsettled_held (ghosts g.row.S g.S.Seal g.S.Seal-dict) j x.0 x.1.1, x.1.1), x.2));
      guard = (λ is. absurd (c.in_err-this.ensures.guard.0 (err_same is)), λ low. absurd (no_low j.sections c.requires.bytes.over.opened_list.from_floor low.0 low.1 low.2));
      refuses = λ low. absurd (no_low j.sections c.requires.bytes.over.opened_list.from_floor low.0 low.1 low.2);
      faults = s.faults;
      cause = elim c.in_err-this.ensures.cause [ inl pruned ↦ absurd (c.in_err-this.ensures.guard.0 pruned) | inr failed ↦ inr (failed_again e _ _ failed) ];
    })

pub returns : goal.returns
returns g c =
    let s = c.sync_all.ensures in
    let f = c.in_ok-this.ensures in
    let j = shown c.args.self in
    let k = bytes.shown c.in_ok-this.field-0 in
    let others : (q : ℕ) → (IsHeld j.sections q → ⊥) → k.sections.held q ≡ j.sections.held q = (λ q not. f.none q (not_held j q not) ∙ sym (not_held j q not)) in
    record {
      over = record {
        bytes = f.over;
        free = λ q. f.floors q ∙ c.requires.free q;
        framed = λ t. framed_again j k (disk (g.D.Device.time c.args.dev.now)) (disk (g.D.Device.time c.sync_all.new.dev)) (c.requires.framed t) (λ q free. inr (
          sym (f.unrecovered q) ∙ free,
          synced_bytes (ghosts g.row.S g.S.Seal g.S.Seal-dict) (λ u x. refl) g.S.Seal.seal_of g.D.Device.Tells j k (IsHeld j.sections) (held_or_not j.sections.held)
              (g.D.Device.time c.args.dev.now) (g.D.Device.time c.sync_all.new.dev) t (λ x held. c.requires.bytes.over.opened_list.number x (inl held)) (λ q u is held. f.named q u tt held) f.none others f.bounds (settling_held g.S.Seal.seal_of j (g.D.Device.time c.args.dev.now) (g.D.Device.time c.sync_all.new.dev) (s.moments t)) q,
        ));
      };
      named = λ q u is held. f.named q u tt held;
      none = f.none;
      others = others;
      unopened = f.unopened;
      bounds = f.bounds;
      unrecovered = f.unrecovered;
      config = refl;
      moments = λ t. settling_held g.S.Seal.seal_of j (g.D.Device.time c.args.dev.now) (g.D.Device.time c.sync_all.new.dev) (s.moments t);
      idle = λ none. s.idle (λ q every un. none q (unsettled_held (ghosts g.row.S g.S.Seal g.S.Seal-dict) j q un) un);
      entries = λ x none. s.entries x (λ y. none (y.0, (unsettled_held (ghosts g.row.S g.S.Seal g.S.Seal-dict) j y.0 y.1.1, y.1.1), y.2));
      guard = (λ is. absurd (cc is), λ low. absurd (no_low j.sections c.requires.bytes.over.opened_list.from_floor low.0 low.1 low.2));
      refuses = λ low. absurd (no_low j.sections c.requires.bytes.over.opened_list.from_floor low.0 low.1 low.2);
      faults = s.faults;
      cause = tt;
    }
