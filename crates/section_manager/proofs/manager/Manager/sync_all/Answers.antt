use Rattle.std.proofs.Common.{ℕ, List, IsSome, inr, refl, sym, subst}
use Rattle.std.specs.Prelude.{⊤}
use Rattle.std.specs.List.{Contains}
use Rattle.section_manager.specs.managing.Managed.{shown}
use Rattle.section_manager.specs.lemmas.Seen.{err_seen, short_by}
use Rattle.section_manager.proofs.sections.SettlingEnds.{each_refused, settles_all}
use Rattle.section_manager.specs.lemmas.sections.Sync.{BufferLaws}
use Rattle.section_manager.proofs.manager.Manager.sync_all.Goals as goal

pub returns-in_err-numbers : goal.returns-in_err-numbers
returns-in_err-numbers g c =
    let l = g.met.F.Buffer.SectionBuffer in
    let laws : BufferLaws g.F.Buffer.SectionBuffer = record { passes = l.passes; looser = l.looser; counted = l.counted; all_settled = l.all_settled; rested = l.rested; found_again = l.found_again } in
    let none = c.in_err-numbers.ensures.cause in
    each_refused g.F.Buffer.SectionBuffer g.F.BufferFactory.gives g.D.Device laws (shown c.args.self) c.args.dev.now c.requires.over (λ s. ⊤) ⊥
    _ _ (err_seen shown c.from_residual.result _ c.from_residual.ensures.1) (λ pruned. absurd (cc (none, pruned))) (λ below. absurd below) (inr (short_by _ _ _ none))

pub returns : goal.returns
returns g c = settles_all g.F.Buffer.SectionBuffer g.F.BufferFactory.gives g.D.Device (shown c.args.self) c.args.dev.now c.sync_each.new.dev (Contains c.as_slice.result.now) _
    (λ s u held. subst (λ (l : List ℕ). Contains l s) (sym c.as_slice.ensures.value) ((c.in_ok-numbers.ensures.each s).1 (subst IsSome (sym held) refl))) c.sync_each.ensures
