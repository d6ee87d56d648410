use Rattle.std.proofs.Common.{ℕ, inl, refl}
use Rattle.std.specs.Prelude.{⊤}
use Rattle.paired.specs.glob.Shown.{shown_glob}
use Rattle.paired.proofs.GlobSyncs.{sync_failed, synced}
use Rattle.paired.proofs.glob.Glob.sync_all.Goals as goal
use Rattle.blob_device.proofs.general.Results.{err_of}

-- every section is named
abbrev everywhere : ℕ → Type 0
everywhere s = ⊤

pub returns-in_err-this : goal.returns-in_err-this
returns-in_err-this g c = sync_failed g.D.Device (shown_glob c.args.self) c.args.dev.now c.sync_all.new.dev shown_glob everywhere ⊥ c.requires.over _ _ (err_of _ _ c.from_residual.ensures.1) c.in_err-this.ensures

pub returns : goal.returns
returns g c = synced g.D.Device (shown_glob c.args.self) c.args.dev.now c.sync_all.new.dev shown_glob everywhere ⊥ c.requires.over (λ s. inl tt) _ c.in_ok-this.ensures refl
