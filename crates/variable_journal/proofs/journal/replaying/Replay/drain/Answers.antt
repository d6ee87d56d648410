-- Items are given until one call gives an error, or none is left.
use Rattle.std.proofs.Common.{refl, ◌∙◌}
use Rattle.section_manager.specs.Answers.{seen}
use Rattle.variable_journal.specs.Shown as journal
use Rattle.variable_journal.specs.Walking.{config_of, walk_of}
use Rattle.variable_journal.proofs.DrainLemmas.{come_failed, come_gave, come_over, come_start}
use Rattle.variable_journal.proofs.journal.replaying.Replay.drain.Goals as goal
use Rattle.blob_device.proofs.general.Results.{err_of}

pub items-init : goal.items-init
items-init g c = record {
  come = come_start _ _ g.S.Seal.seal_of g.D.Device g.V.Codec.spelling g.V.Codec.accepted g.V.Codec.refusal (config_of c.args.self) (walk_of c.args.self) c.args.dev.now c.requires.over c.requires.going;
  config = refl;
}

pub returns-in_err-next-clause-ends : goal.returns-in_err-next-clause-ends
returns-in_err-next-clause-ends g c = rw (err_of c.from_residual.result c.in_err-next.field-0.0 c.from_residual.ensures.1)
    (come_failed _ _ g.S.Seal.seal_of g.D.Device g.V.Codec.spelling g.V.Codec.accepted g.V.Codec.refusal (config_of c.args.self) (walk_of c.args.self) c.args.dev.now (walk_of c.items.this) (walk_of c.next.new.self) c.items.dev c.next.new.dev c.items.invariant.come (config_of c.items.this) c.items.invariant.config c.next.result c.next.ensures.ends
    c.in_err-next.field-0.0 (let at = c.in_err-next.was in let some = c.in-Some.is in cc (some, at)))

pub items-preserved : goal.items-preserved
items-preserved g c = record {
  come = come_gave _ _ g.S.Seal.seal_of g.D.Device g.V.Codec.spelling g.V.Codec.accepted g.V.Codec.refusal (config_of c.args.self) (walk_of c.args.self) c.args.dev.now (walk_of c.items.this) (walk_of c.next.new.self) c.items.dev c.next.new.dev c.items.invariant.come (config_of c.items.this) c.items.invariant.config c.next.result c.next.ensures.ends
      c.in_ok-next.field-0 (let at = c.in_ok-next.was in let some = c.in-Some.is in cc (some, at));
  config = c.next.ensures.same_config ∙ c.items.invariant.config;
}

pub returns-clause-ends : goal.returns-clause-ends
returns-clause-ends g c =
    come_over _ _ g.S.Seal.seal_of g.D.Device g.V.Codec.spelling g.V.Codec.accepted g.V.Codec.refusal (config_of c.args.self) (walk_of c.args.self) c.args.dev.now (walk_of c.items.this) (walk_of c.next.new.self) c.items.dev c.next.new.dev c.items.invariant.come (config_of c.items.this) c.items.invariant.config c.next.result c.next.ensures.ends
    c.in_default.is c.requires.fine (seen journal.shown c.finish.result) (seen journal.config_of c.finish.result) (rw (c.next.ensures.same_config ∙ c.items.invariant.config) at c.finish.ensures)
