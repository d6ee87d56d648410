use Rattle.std.proofs.Common.{◌≡◌, sym, ◌∙◌, ◌+◌, ap, length, map, Err, arith}
use Rattle.std.proofs.lemmas.List.{length-map}
use Rattle.archives.specs.Machine.{asked, replied}
use Rattle.archive_service.specs.Stores.{PutsOnly}
use Rattle.archive_service.proofs.LoopSteps.{all_at, all_served, begins, ends_unopened, ends_wrong, one_reply_more, seen_at}
use Rattle.archive_service.proofs.ServingLoop.{goes_on}
use Rattle.archive_service.proofs.serving.serve_each.Goals as goal
use Rattle.blob_device.proofs.general.Results.{err_of}

-- ---- the opening

pub returns-in_err-archive : goal.returns-in_err-archive
returns-in_err-archive g c =
    let e = c.in_err-archive.field-0.0 in
    let answer : c.from_residual.result ≡ Err e = err_of c.from_residual.result e c.from_residual.ensures.1 in
    ends_unopened (g.A.Store.means c.args.cfg.now) g.D.Device _ _ _ _ _ c.from_residual.result e answer c.requires.no_marks
    (ap (map (replied g.A.Value.Codec.spelling)) c.requires.no_replies) c.in_err-archive.ensures

pub loop-command-init : goal.loop-command-init
loop-command-init g c = record {
  replies = ap length c.requires.no_replies;
  within = omega arith;
  so_far = begins (g.A.Store.means c.args.cfg.now) g.D.Device _ _ _ _ _ c.in_ok-archive.archive c.requires.no_marks
      (ap (map (replied g.A.Value.Codec.spelling)) c.requires.no_replies) c.in_ok-archive.ensures;
}

-- ---- one command

pub serve_one-requires-clause-usable : goal.serve_one-requires-clause-usable
serve_one-requires-clause-usable g c = c.loop-command.invariant.so_far.usable

pub serve_one-requires-clause-value : goal.serve_one-requires-clause-value
serve_one-requires-clause-value g c =
    all_at (PutsOnly (g.A.Store.means c.args.cfg.now).Accepts) c.args.commands.now c.loop-command.command-index c.command-item.result c.loop-command-test.true
    c.command-item.is c.requires.values

pub returns-in_err-archive-2 : goal.returns-in_err-archive-2
returns-in_err-archive-2 g c =
    let e = c.in_err-archive-2.field-0.0 in
    let answer : c.from_residual-in_err-archive-2.result ≡ Err e = err_of c.from_residual-in_err-archive-2.result e c.from_residual-in_err-archive-2.ensures.1 in
    let seen = asked g.A.Key.Key.key_bytes g.A.Value.Codec.spelling in
    let said = replied g.A.Value.Codec.spelling in
    ends_wrong (g.A.Store.means c.args.cfg.now) g.D.Device _ _ _ _ _ _ _ _ _ c.loop-command.invariant.so_far (seen c.command-item.result)
    (seen_at seen c.args.commands.now c.loop-command.command-index (length (map said c.loop-command.progress.replies)) c.command-item.result c.loop-command-test.true
    (length-map c.loop-command.progress.replies said ∙ c.loop-command.invariant.replies) c.command-item.is)
    c.from_residual-in_err-archive-2.result e answer c.in_err-archive-2.ensures

pub loop-command-preserved : goal.loop-command-preserved
loop-command-preserved g c =
    let seen = asked g.A.Key.Key.key_bytes g.A.Value.Codec.spelling in
    let said = replied g.A.Value.Codec.spelling in
    record {
      replies = one_reply_more said (g.A.Store.means c.args.cfg.now) g.D.Device _ _ _ _ _ _ _ _ _ c.in_ok-archive-2.ensures ∙ ap (λ n. n + 1) c.loop-command.invariant.replies;
      within = omega (arith, c.loop-command-test.true);
      so_far = goes_on (g.A.Store.means c.args.cfg.now) g.D.Device _ _ _ _ _ _ _ _ _ c.loop-command.invariant.so_far (seen c.command-item.result)
          (seen_at seen c.args.commands.now c.loop-command.command-index (length (map said c.loop-command.progress.replies)) c.command-item.result c.loop-command-test.true
          (length-map c.loop-command.progress.replies said ∙ c.loop-command.invariant.replies) c.command-item.is)
          c.in_ok-archive-2.archive c.in_ok-archive-2.ensures;
    }

-- ---- all commands were answered

pub returns : goal.returns
returns g c =
    let said = replied g.A.Value.Codec.spelling in
    let same : length c.loop-command.progress.replies ≡ length c.args.commands.now =
    omega (arith, c.loop-command.invariant.replies, c.loop-command.invariant.within, c.loop-command-test.false) in
    all_served (g.A.Store.means c.args.cfg.now) g.D.Device _ _ _ _ _ _ c.loop-command.invariant.so_far
    (length-map c.loop-command.progress.replies said ∙ same ∙ sym (length-map c.args.commands.now (asked g.A.Key.Key.key_bytes g.A.Value.Codec.spelling)))
