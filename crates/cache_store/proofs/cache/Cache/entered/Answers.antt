use Rattle.std.proofs.Common.{◌∙◌, Some, ap, refl}
use Rattle.blob_device.proofs.general.Results.{err_of}
use Rattle.variable_journal.specs.Walking.{config_of, walk_of}
use Rattle.cache_store.proofs.ReplayedLemmas.{entering_astray, entering_config, entering_end, entering_failed, entering_nearer, entering_on, entering_start}
use Rattle.cache_store.proofs.cache.Cache.entered.Goals as goal

-- nothing is entered yet
pub records-init : goal.records-init
records-init g c = entering_start _ _ g.S.Seal.seal_of g.D.Device _ _ _ (config_of c.args.replay.now) c.args.items _ _ (walk_of c.args.replay.now) c.args.dev.now c.requires.begun c.requires.over
    c.new-held.result c.new-held.ensures.tied c.new-held.ensures.none

pub next-requires : goal.next-requires
next-requires g c = c.records.invariant.come.over

pub enter-requires-clause-tied : goal.enter-requires-clause-tied
enter-requires-clause-tied g c = c.records.invariant.tied

-- a record was given, and is entered
pub records-preserved : goal.records-preserved
records-preserved g c = entering_on _ _ g.S.Seal.seal_of g.D.Device _ _ _ _ c.args.items _ _ (walk_of c.args.replay.now) c.args.dev.now c.requires.begun _ _ _ _ _ _ _ c.records.invariant _ c.next.ensures _ (c.in-Some.is ∙ ap Some c.in_ok-section.was) c.enter.new.held c.in_ok-enter.ensures

pub records-smaller : goal.records-smaller
records-smaller g c = entering_nearer _ _ g.S.Seal.seal_of g.D.Device _ _ _ _ c.args.items _ _ (walk_of c.args.replay.now) c.args.dev.now c.requires.begun _ _ _ _ _ _ _ c.records.invariant _ c.next.ensures _ (c.in-Some.is ∙ ap Some c.in_ok-section.was)

-- the replay gave an error
pub returns-in_err-section : goal.returns-in_err-section
returns-in_err-section g c = record {
  config = entering_config _ _ g.S.Seal.seal_of g.D.Device _ _ _ _ c.args.items _ _ (walk_of c.args.replay.now) c.args.dev.now c.requires.begun _ _ _ _ _ _ _ c.records.invariant _ c.next.ensures;
  all = rw (err_of c.from_residual.result c.in_err-section.field-0.0 c.from_residual.ensures.1)
      (entering_failed _ _ g.S.Seal.seal_of g.D.Device _ _ _ _ c.args.items _ _ (walk_of c.args.replay.now) c.args.dev.now c.requires.begun _ _ _ _ _ _ _ c.records.invariant _ c.next.ensures (λ x. refl) c.in_err-section.field-0.0 (c.in-Some.is ∙ ap Some c.in_err-section.was));
}

-- a record of another section, or no memory
pub returns-in_err-enter : goal.returns-in_err-enter
returns-in_err-enter g c = record {
  config = entering_config _ _ g.S.Seal.seal_of g.D.Device _ _ _ _ c.args.items _ _ (walk_of c.args.replay.now) c.args.dev.now c.requires.begun _ _ _ _ _ _ _ c.records.invariant _ c.next.ensures;
  all = rw (err_of c.from_residual-in_err-enter.result c.in_err-enter.field-0.0 c.from_residual-in_err-enter.ensures.1)
      (entering_astray _ _ g.S.Seal.seal_of g.D.Device _ _ _ _ c.args.items _ _ (walk_of c.args.replay.now) c.args.dev.now c.requires.begun _ _ _ _ _ _ _ c.records.invariant _ c.next.ensures _ (c.in-Some.is ∙ ap Some c.in_ok-section.was) c.enter.new.held c.in_err-enter.field-0.0 c.in_err-enter.ensures);
}

-- all were given
pub returns : goal.returns
returns g c = record {
  config = entering_config _ _ g.S.Seal.seal_of g.D.Device _ _ _ _ c.args.items _ _ (walk_of c.args.replay.now) c.args.dev.now c.requires.begun _ _ _ _ _ _ _ c.records.invariant _ c.next.ensures;
  all = entering_end _ _ g.S.Seal.seal_of g.D.Device _ _ _ _ c.args.items _ _ (walk_of c.args.replay.now) c.args.dev.now c.requires.begun _ _ _ _ _ _ _ c.records.invariant _ c.next.ensures c.in_default.is;
}
