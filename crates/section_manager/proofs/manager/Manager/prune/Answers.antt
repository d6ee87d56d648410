use Rattle.std.proofs.Common.{◌≡◌, true, false, Ok, refl, sym, subst, arith}
use Rattle.section_manager.specs.declared.manager.Manager.{Manager}
use Rattle.section_manager.specs.managing.Managed.{flagged, shown}
use Rattle.section_manager.specs.managing.Removing.{Prunes}
use Rattle.section_manager.specs.lemmas.Seen.{err_seen}
use Rattle.section_manager.proofs.sections.RemovingEnds.{not_pruned, prune_failed, pruned, pruned_none}
use Rattle.section_manager.proofs.manager.Manager.prune.Goals as goal
use Rattle.section_manager.proofs.manager.Manager.prune.Goals.{then-removed, else-removed}

pub returns-then-min-eq0 : goal.returns-then-min-eq0
returns-then-min-eq0 g c = pruned_none g.F.Buffer.SectionBuffer g.F.BufferFactory.gives g.D.Device (shown c.args.self) c.args.dev.now c.args.min c.if-min-eq0.true c.requires.over

pub returns-in_err-this : goal.returns-in_err-this
returns-in_err-this g c = prune_failed g.F.Buffer.SectionBuffer g.F.BufferFactory.gives g.D.Device (shown c.args.self) c.args.dev.now c.args.min (omega arith) c.remove_all.new.dev
    _ _ (err_seen flagged c.from_residual.result _ c.from_residual.ensures.1) c.in_err-this.ensures

pub returns : goal.returns
returns g c =
    let m = shown c.args.self in
    let n = shown c.in_ok-this.this in
    let P = λ (x : Manager g.row.F.Denot g.row.F-Buffer.Denot). Prunes g.F.Buffer.SectionBuffer g.F.BufferFactory.gives g.D.Device m c.args.min c.args.dev.now c.remove_all.new.dev (Ok (shown x, c.in_ok-this.removed)) in
    elim c.if-removed.branch [
      | then-removed w ↦ (
          let rose : c.in_ok-this.removed ≡ true = cc in
          subst P (sym w.this-is) (pruned g.F.Buffer.SectionBuffer g.F.BufferFactory.gives g.D.Device m c.args.dev.now c.args.min (omega arith) c.remove_all.new.dev n c.in_ok-this.removed c.in_ok-this.ensures c.args.min rose refl)
          )
      | else-removed w ↦ (
          let none : c.in_ok-this.removed ≡ false = cc in
          subst P (sym w.this-is) (not_pruned g.F.Buffer.SectionBuffer g.F.BufferFactory.gives g.D.Device m c.args.dev.now c.args.min (omega arith) c.remove_all.new.dev n c.in_ok-this.removed c.in_ok-this.ensures none)
          )
    ]
