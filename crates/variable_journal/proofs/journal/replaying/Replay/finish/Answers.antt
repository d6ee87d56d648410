-- The sections that were gone over are whole frames.
use Rattle.std.specs.Prelude.{◌≡◌, Err}
use Rattle.std.proofs.Common.{inl, inr, refl, ap, ◌∙◌}
use Rattle.section_manager.specs.declared.journal.Error.TheVariants.{ReplayFailed}
use Rattle.segments.specs.FixedShown as bytes
use Rattle.variable_journal.specs.Walking.{walk_of}
use Rattle.variable_journal.proofs.FinishingLemmas.{all_items, drained_of, fine_of, finished_framed, over_or_spares}
use Rattle.variable_journal.proofs.journal.replaying.Replay.finish.Goals as goal
use Rattle.blob_device.proofs.general.Results.{err_of}

pub returns-in_err-bytes : goal.returns-in_err-bytes
returns-in_err-bytes g c =
    let e = c.in_err-bytes.field-0.0 in
    let f = c.in_err-bytes.ensures in
    let is : e ≡ ReplayFailed = (let at = f.cause in cc at) in
    rw (err_of c.from_residual.result e c.from_residual.ensures.1) (record {
      sections = tt;
      held = λ walk. tt;
      settled = λ walk. tt;
      sealed = λ d over. tt;
      framed = λ d walk over walked. tt;
      unopened = λ d over. tt;
      free = λ none. tt;
      recovered = tt;
      unrecovered = tt;
      same_config = tt;
      given = λ from calls d run. tt;
      replay_failed = (λ at. f.replay_failed.0 (ap Err is), λ why. ap Err is);
      cause = ap Err is;
    })

pub returns : goal.returns
returns g c =
    let f = c.in_ok-bytes.ensures in
    let w = walk_of c.args.self in
    let k = bytes.shown c.in_ok-bytes.bytes in
    let drained = drained_of w (λ not. (let at = f.replay_failed.1 (inr not) in cc at)) in
    let fine = fine_of w.failed (λ failed. (let at = f.replay_failed.1 (inl failed) in cc at)) in
    record {
      sections = f.sections;
      held = f.held;
      settled = f.settled;
      sealed = f.sealed;
      framed = λ d walk over walked. finished_framed g.S.Seal.seal_of w k d f.sections f.unrecovered fine drained walk over walked;
      unopened = f.unopened;
      free = λ none s. elim (over_or_spares w s) [ inl over ↦ f.lifted s over | inr spared ↦ f.floors s spared ∙ none s ];
      recovered = f.recovered;
      unrecovered = f.unrecovered;
      same_config = refl;
      given = λ from calls d run. all_items g.S.Seal.seal_of g.V.Codec.spelling g.V.Codec.accepted c.args.self.codec_config from calls (record { walk = w; disk = d }) run drained;
      replay_failed = (λ at. absurd (cc at), λ why. (let at = f.replay_failed.1 why in absurd (cc at)));
      cause = tt;
    }
