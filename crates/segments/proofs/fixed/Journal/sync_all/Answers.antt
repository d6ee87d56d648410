use Rattle.std.specs.Prelude.{⊤}
use Rattle.std.proofs.Common.{inl, refl}
use Rattle.section_manager.specs.contracts.sealed.PageBlobSectionBuffer.TheImpl.{ghosts}
use Rattle.section_manager.specs.lemmas.Seen.{err_seen}
use Rattle.segments.specs.FixedShown.{shown}
use Rattle.segments.proofs.adding.SettlingEnds.{settle_failed, settled_all}
use Rattle.segments.specs.lemmas.adding.Write.{are_pages}
use Rattle.segments.proofs.fixed.Journal.sync_all.Goals as goal

pub returns-in_err-this : goal.returns-in_err-this
returns-in_err-this g c =
    settle_failed (ghosts g.row.S g.S.Seal g.S.Seal-dict) _ g.S.Seal.seal_of g.A.CodecFixed.SIZE g.D.Device (shown c.args.self) (λ _. ⊤) _ c.args.dev.now c.sync_all.new.dev (are_pages g.row.S g.S.Seal g.S.Seal-dict)
    c.requires.over _ _ (err_seen shown c.from_residual.result _ c.from_residual.ensures.1) c.in_err-this.ensures

pub returns : goal.returns
returns g c =
    settled_all (ghosts g.row.S g.S.Seal g.S.Seal-dict) _ g.S.Seal.seal_of g.A.CodecFixed.SIZE g.D.Device (shown c.args.self) (λ _. ⊤) _ c.args.dev.now c.sync_all.new.dev (are_pages g.row.S g.S.Seal g.S.Seal-dict)
    c.requires.over _ (λ s. inl tt) c.in_ok-this.ensures (λ s. refl) (λ s. refl)
