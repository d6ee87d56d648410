-- Turns are taken until one gives an item or an error, or nothing is left.
use Rattle.std.proofs.Common.{refl, ◌∙◌, ap}
use Rattle.segments.specs.FixedWalking as bytes
use Rattle.segments.specs.lemmas.adding.Write.{are_pages}
use Rattle.variable_journal.specs.Walking.{config_of, walk_of}
use Rattle.variable_journal.proofs.NextLemmas.{next_failed, next_gave, next_none, run_nearer, run_on, run_start, run_under}
use Rattle.variable_journal.proofs.journal.replaying.Replay.next.Goals as goal

pub turns-init : goal.turns-init
turns-init g c = record {
  run = run_start _ _ g.S.Seal.seal_of g.D.Device (walk_of c.args.self.now) c.args.dev.now c.requires;
  config = refl;
  ended = λ is. (refl, refl);
}

pub turn-requires : goal.turn-requires
turn-requires g c = run_under _ _ g.S.Seal.seal_of g.D.Device (walk_of c.args.self.now) (walk_of c.turns.self) c.args.dev.now c.turns.dev c.turns.invariant.run c.is_over.result c.is_over.ensures.1 (cc)

pub turns-smaller : goal.turns-smaller
turns-smaller g c =
    run_nearer _ _ g.S.Seal.seal_of g.D.Device g.V.Codec.spelling g.V.Codec.accepted g.V.Codec.refusal (config_of c.turns.self) (walk_of c.args.self.now) (walk_of c.turns.self) (walk_of c.turn.new.self) c.args.dev.now c.turns.dev c.turn.new.dev
    c.turns.invariant.run (run_under _ _ g.S.Seal.seal_of g.D.Device (walk_of c.args.self.now) (walk_of c.turns.self) c.args.dev.now c.turns.dev c.turns.invariant.run c.is_over.result c.is_over.ensures.1 (cc))
    c.turn.result c.turn.ensures.ends (cc)

pub turns-preserved : goal.turns-preserved
turns-preserved g c =
    let under = run_under _ _ g.S.Seal.seal_of g.D.Device (walk_of c.args.self.now) (walk_of c.turns.self) c.args.dev.now c.turns.dev c.turns.invariant.run c.is_over.result c.is_over.ensures.1 (cc) in
    record {
      run = run_on _ _ g.S.Seal.seal_of g.D.Device g.V.Codec.spelling g.V.Codec.accepted g.V.Codec.refusal (config_of c.turns.self) (walk_of c.args.self.now) (walk_of c.turns.self) (walk_of c.turn.new.self) c.args.dev.now c.turns.dev c.turn.new.dev
          c.turns.invariant.run under c.turn.result c.turn.ensures.ends (cc);
      config = c.turn.ensures.config ∙ c.turns.invariant.config;
      ended = λ ended. (let at = c.turns.invariant.run.passed.gone.goes.ended in let going = under.going in absurd (cc (at, ended, going)));
    }

pub returns-in-Ok-Some : goal.returns-in-Ok-Some
returns-in-Ok-Some g c =
    next_gave _ _ g.S.Seal.seal_of g.D.Device g.V.Codec.spelling g.V.Codec.accepted g.V.Codec.refusal (config_of c.turns.self) (walk_of c.args.self.now) (walk_of c.turns.self) (walk_of c.turn.new.self) c.args.dev.now c.turns.dev c.turn.new.dev
    c.turns.invariant.run (run_under _ _ g.S.Seal.seal_of g.D.Device (walk_of c.args.self.now) (walk_of c.turns.self) c.args.dev.now c.turns.dev c.turns.invariant.run c.is_over.result c.is_over.ensures.1 (cc))
    c.turn.result c.turn.ensures.ends (are_pages g.row.S g.S.Seal g.S.Seal-dict) c.requires (config_of c.args.self.now) c.turns.invariant.config (config_of c.turn.new.self) c.turn.ensures.config c.in-Ok-Some.item (cc)

pub returns-in-Err : goal.returns-in-Err
returns-in-Err g c =
    next_failed _ _ g.S.Seal.seal_of g.D.Device g.V.Codec.spelling g.V.Codec.accepted g.V.Codec.refusal (config_of c.turns.self) (walk_of c.args.self.now) (walk_of c.turns.self) (walk_of c.turn.new.self) c.args.dev.now c.turns.dev c.turn.new.dev
    c.turns.invariant.run (run_under _ _ g.S.Seal.seal_of g.D.Device (walk_of c.args.self.now) (walk_of c.turns.self) c.args.dev.now c.turns.dev c.turns.invariant.run c.is_over.result c.is_over.ensures.1 (cc))
    c.turn.result c.turn.ensures.ends (are_pages g.row.S g.S.Seal g.S.Seal-dict) c.requires (config_of c.args.self.now) c.turns.invariant.config (config_of c.turn.new.self) c.turn.ensures.config c.in-Err.e (cc) (bytes.walk_of c.leave.new.self) c.leave.ensures.goes

pub returns : goal.returns
returns g c =
    next_none _ _ g.S.Seal.seal_of g.D.Device g.V.Codec.spelling g.V.Codec.accepted g.V.Codec.refusal (config_of c.args.self.now) (walk_of c.args.self.now) (walk_of c.turns.self) c.args.dev.now c.turns.dev c.turns.invariant.run (c.is_over.ensures.0 (cc))
    (are_pages g.row.S g.S.Seal g.S.Seal-dict) c.requires (config_of c.turns.self) c.turns.invariant.config (λ is. (ap walk_of (c.turns.invariant.ended is).0, (c.turns.invariant.ended is).1))
