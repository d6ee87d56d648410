use Rattle.std.specs.List.{Contains}
use Rattle.paired.specs.PairShown.{shown}
use Rattle.paired.proofs.pair.FaultLemmas.{faults_as, faults_ok}
use Rattle.paired.proofs.pair.Failing.{no_error}
use Rattle.paired.proofs.pair.Passing.{no_value, tracked_on}
use Rattle.paired.proofs.pair.Pruned.{pruned_as}
use Rattle.paired.proofs.oversized.Oversized.start_sync_tracked.Goals as goal
use Rattle.blob_device.proofs.general.Results.{err_of}

pub returns-in_err-this : goal.returns-in_err-this
returns-in_err-this g c =
    let r = c.from_residual.result in
    let e = c.in_err-this.field-0.0 in
    let is = err_of r e c.from_residual.ensures.1 in
    record {
      over = no_value _ _ c.from_residual.ensures.0;
      sound = λ t sound. no_value _ _ c.from_residual.ensures.0;
      lists = λ t. no_value _ _ c.from_residual.ensures.0;
      synced = no_value _ _ c.from_residual.ensures.0;
      codec_config = no_value _ _ c.from_residual.ensures.0;
      moments = c.sync_tracked.ensures.moments;
      guard = pruned_as r e _ _ is c.in_err-this.ensures.guard;
      refuses = c.sync_tracked.ensures.refuses;
      idle = c.sync_tracked.ensures.idle;
      entries = c.sync_tracked.ensures.entries;
      full = λ full. c.in_err-this.ensures.full (cc (is, full));
      no_version = λ long some. no_value _ _ c.from_residual.ensures.0;
      lost = λ lost. c.in_err-this.ensures.lost ((let h = lost.0 in cc (is, h)), lost.1);
      fault = λ t. faults_as (shown g.I.Record.place c.args.self) (Contains c.args.sections.now) r e _ _ _ _ is (c.in_err-this.ensures.fault t);
      faults = c.sync_tracked.ensures.faults;
      cause = tracked_on r e _ _ _ is c.in_err-this.ensures.cause;
    }

pub returns : goal.returns
returns g c = record {
  over = c.in_ok-this.ensures.over;
  sound = c.in_ok-this.ensures.sound;
  lists = c.in_ok-this.ensures.lists;
  synced = c.in_ok-this.ensures.synced;
  codec_config = c.in_ok-this.ensures.codec_config;
  moments = c.sync_tracked.ensures.moments;
  guard = (λ pruned. absurd (no_error _ _ pruned), λ below. absurd (no_error _ _ (c.in_ok-this.ensures.guard.1 below)));
  refuses = c.sync_tracked.ensures.refuses;
  idle = c.sync_tracked.ensures.idle;
  entries = c.sync_tracked.ensures.entries;
  full = λ full. absurd (no_error _ _ full);
  no_version = c.in_ok-this.ensures.no_version;
  lost = λ lost. absurd (no_error _ _ lost.0);
  fault = λ t. faults_ok (shown g.I.Record.place c.args.self) (Contains c.args.sections.now) _ _ _ _ _;
  faults = c.sync_tracked.ensures.faults;
  cause = tt;
}
