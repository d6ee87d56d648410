use Rattle.std.proofs.Common.{refl}
use Rattle.blob_device.specs.lemmas.Moments.{always_now}
use Rattle.segments.specs.FixedShown.{shown}
use Rattle.segments.specs.lemmas.adding.Write.{are_pages}
use Rattle.segments.specs.lemmas.cutting.Cut.{safe_cut}
use Rattle.segments.specs.lemmas.held.Passing.{error_back, guard_ok, guard_on, no_error}
use Rattle.segments.proofs.held.Passing.{cut_on}
use Rattle.segments.proofs.cutting.TailLemmas.{tail_moments, tail_journal, tail_err}
use Rattle.segments.proofs.fixed.Journal.truncate_pending_tail.Goals as goal
use Rattle.blob_device.proofs.general.Results.{err_of}

pub truncate_pending-requires-clause-can : goal.truncate_pending-requires-clause-can
truncate_pending-requires-clause-can g c t u held lt = safe_cut g.S.Seal.seal_of g.A.CodecFixed.SIZE g.D.Device.Tells _ (are_pages g.row.S g.S.Seal g.S.Seal-dict) _ (shown c.args.self) (g.D.Device.opened c.args.dev.now)
    (g.D.Device.time c.args.dev.now) (g.D.Device.time c.args.dev.now) c.requires.over c.args.section c.args.end t u held (c.requires.sealed t u held lt)

pub returns-in_err-this : goal.returns-in_err-this
returns-in_err-this g c =
    let e = c.in_err-this.field-0.0 in
    let is = err_of c.from_residual.result e c.from_residual.ensures.1 in
    let f = c.truncate_pending.ensures in
    tail_err _ _ g.S.Seal.seal_of g.A.CodecFixed.SIZE g.D.Device.Tells _ _ _ g.D.Device shown c.from_residual.result e _ _ is (record {
      moments = λ t. tail_moments g.S.Seal.seal_of g.A.CodecFixed.SIZE g.D.Device.Tells _ (are_pages g.row.S g.S.Seal g.S.Seal-dict) _ (shown c.args.self) (g.D.Device.opened c.args.dev.now)
          (g.D.Device.time c.args.dev.now) (g.D.Device.time c.truncate_pending.new.dev) c.requires.over c.args.section c.args.end t (f.moments t);
      ends = tt;
      idle = f.idle;
      entries = f.entries;
      guard = guard_on _ e _ _ refl c.in_err-this.ensures.guard;
      refuses = f.refuses;
      faults = f.faults;
      damage = λ t (k, bad). c.in_err-this.ensures.damage t (k, error_back _ e _ refl bad);
      cause = cut_on _ e _ _ _ refl c.in_err-this.ensures.cause;
    })

pub returns : goal.returns
returns g c =
    let f = c.truncate_pending.ensures in
    let o = c.in_ok-this.ensures in
    record {
      moments = λ t. tail_moments g.S.Seal.seal_of g.A.CodecFixed.SIZE g.D.Device.Tells _ (are_pages g.row.S g.S.Seal g.S.Seal-dict) _ (shown c.args.self) (g.D.Device.opened c.args.dev.now)
          (g.D.Device.time c.args.dev.now) (g.D.Device.time c.truncate_pending.new.dev) c.requires.over c.args.section c.args.end t (f.moments t);
      ends = record {
        over = tail_journal g.S.Seal.seal_of g.A.CodecFixed.SIZE g.D.Device.Tells _ (are_pages g.row.S g.S.Seal g.S.Seal-dict) _ (shown c.args.self) (g.D.Device.opened c.args.dev.now)
            (g.D.Device.time c.args.dev.now) (g.D.Device.time c.truncate_pending.new.dev) c.requires.over c.args.section c.args.end _ c.requires.ceiling o.place o.later o.earlier o.unopened
            c.forget_later.ensures.later c.forget_later.ensures.others c.lift_after.ensures.others
            (λ t. (always_now (g.D.Device.time c.args.dev.now) (g.D.Device.time c.truncate_pending.new.dev) _ (o.moments t)).others)
            (g.D.Device.opened c.truncate_pending.new.dev) o.over o.cut o.absent c.requires.whole;
        later = o.later;
        gone = o.gone;
        recovered = c.forget_later.ensures.later;
        lifted = c.lift_after.ensures.later;
        earlier = o.earlier;
        cut = o.cut;
        absent = o.absent;
        unopened = o.unopened;
        unrecovered = c.forget_later.ensures.others;
        floors = c.lift_after.ensures.others;
        place = o.place;
        floor = o.floor;
        ceiling = o.lifted;
      };
      idle = f.idle;
      entries = f.entries;
      guard = guard_ok _ _ _ _ o.guard;
      refuses = f.refuses;
      faults = f.faults;
      damage = λ t (k, bad). absurd (no_error _ _ bad);
      cause = tt;
    }
