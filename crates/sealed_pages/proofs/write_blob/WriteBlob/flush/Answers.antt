use Rattle.sealed_pages.proofs.cutting.Truncating.{no_value}
use Rattle.std.proofs.Common.{ℕ, List, get_or, ap, rules}
use Rattle.blob_device.specs.Timeline.{disk}
use Rattle.sealed_pages.specs.unsealed.Writing.{WriteBuffer, shown, blob_key}
use Rattle.sealed_pages.proofs.unsealed.LastingLemmas.{keeping_now, kept_after}
use Rattle.sealed_pages.proofs.unsealed.Sync.{FlushBy, flush_run, flush_lasts}
use Rattle.sealed_pages.proofs.write_blob.WriteBlob.flush.Given as given
use Rattle.sealed_pages.proofs.write_blob.WriteBlob.flush.Goals as goal
use Rattle.sealed_pages.proofs.write_blob.WriteBlob.flush.Goals.{After-flushed}
use Rattle.sealed_pages.specs.lemmas.unsealed.Lasting.{outside_none}

-- what has been done to the blob by then
by_flush : (g : given.Over) (c : After-flushed g) → g.D.Device.Tells → FlushBy (shown c.args.self) (g.D.Device.time c.args.dev.now) (g.D.Device.time c.flushed.new.dev)
by_flush g c t = flush_run g.D.Device t (shown c.args.self) c.args.dev.now c.flushed.new.dev shown c.flushed.result c.flushed.ensures

pub returns-in_err-flushed : goal.returns-in_err-flushed
returns-in_err-flushed g c =
    record {
      spares = c.in_err-flushed.ensures.spares;
      over = λ t h1. no_value _ _ c.from_residual.ensures.0;
      lasts = λ t kept. flush_lasts (shown c.args.self) (g.D.Device.time c.args.dev.now) (g.D.Device.time c.flushed.new.dev) (by_flush g (goal.at.returns-in_err-flushed g c).After-flushed t) kept;
      kept = λ t h1. no_value _ _ c.from_residual.ensures.0;
      since = c.in_err-flushed.ensures.since;
      bytes = λ t. no_value _ _ c.from_residual.ensures.0;
      idle = no_value _ _ c.from_residual.ensures.0;
      same = no_value _ _ c.from_residual.ensures.0;
      untouched = c.in_err-flushed.ensures.untouched;
      stays = λ idle. absurd (c.in_err-flushed.ensures.stays idle);
      once = c.in_err-flushed.ensures.once;
      «open» = no_value _ _ c.from_residual.ensures.0;
      entries = c.in_err-flushed.ensures.entries;
      faults = c.in_err-flushed.ensures.faults;
      cause = search rules;
    }

pub returns : goal.returns
returns g c =
    let lasts = λ (t : g.D.Device.Tells). flush_lasts (shown c.args.self) (g.D.Device.time c.args.dev.now) (g.D.Device.time c.flushed.new.dev) (by_flush g (goal.at.returns g c).After-flushed t) in
    record {
      spares = c.in_ok-flushed.ensures.spares;
      over = c.in_ok-flushed.ensures.over;
      lasts = λ t kept. lasts t kept;
      kept = λ t kept.
          kept_after (shown c.args.self) (shown c.in_ok-flushed.field-0) (disk (g.D.Device.time c.args.dev.now) (blob_key (shown c.args.self))) (disk (g.D.Device.time c.flushed.new.dev) (blob_key (shown c.args.self))) kept
          (keeping_now _ (blob_key (shown c.args.self)) (g.D.Device.time c.args.dev.now) (g.D.Device.time c.flushed.new.dev) (lasts t kept)) (ap (λ (x : WriteBuffer). x.settled) c.in_ok-flushed.ensures.same)
          (λ i lt. ap (λ (l : List ℕ). get_or l i 0) (c.in_ok-flushed.ensures.bytes t)) (λ i lt. outside_none (shown c.in_ok-flushed.field-0) (ap (λ (x : WriteBuffer). x.pending) c.in_ok-flushed.ensures.same) i);
      since = c.in_ok-flushed.ensures.since;
      bytes = c.in_ok-flushed.ensures.bytes;
      idle = c.in_ok-flushed.ensures.idle;
      same = search rules;
      untouched = c.in_ok-flushed.ensures.untouched;
      stays = c.in_ok-flushed.ensures.stays;
      once = c.in_ok-flushed.ensures.once;
      «open» = c.in_ok-flushed.ensures.«open»;
      entries = c.in_ok-flushed.ensures.entries;
      faults = c.in_ok-flushed.ensures.faults;
      cause = tt;
    }
