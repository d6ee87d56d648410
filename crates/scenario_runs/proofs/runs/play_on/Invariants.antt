use Rattle.scenario_runs.proofs.runs.play_on.Given as goal

abbrev pub invariant-steps : goal.invariant-steps
invariant-steps g l = g.S.Opened.is_open l.dev l.store
