use Rattle.std.proofs.Common.{◌∙◌, ℕ, List, ap, subst, sym, arith}
use Rattle.std.specs.Prelude.{◌↔◌, min, unwrap_or}
use Rattle.std.specs.BTreeMap.{get, is_at}
use Rattle.std.specs.List.{Contains}
use Rattle.std.specs.Map.{lookup}
use Rattle.std.specs.Ordering.{nat_cmp}
use Rattle.section_manager.specs.managing.Managed as managed
use Rattle.section_manager.specs.Sections.{IsHeld}
use Rattle.segments.specs.FixedShown.{shown}
use Rattle.paired.specs.glob.Sections.{section_size}
use Rattle.paired.specs.Reconciling.{IsCutOff}
use Rattle.paired.proofs.ValueEnds.{EndsFound, ends_start, ends_more, ends_all}
use Rattle.paired.proofs.oversized.recovery.value_ends.Goals as goal
use Rattle.blob_device.proofs.general.Numbers.{not_at}

pub loop-section-init : goal.loop-section-init
loop-section-init g c =
    let m = (shown c.args.index.now).sections in
    ends_start m (λ s n. IsCutOff (unwrap_or (get nat_cmp c.args.kept.now s) 0) (section_size (managed.shown c.args.values.now.manager) s) n) (get nat_cmp c.new-ends.result) c.into_iter-section-iterator.result
    (λ s. ap (λ (es : List (ℕ × ℕ)). lookup (is_at (nat_cmp s)) es) c.new-ends.ensures.empty)
    (subst (λ (l : List ℕ). (s : ℕ) → Contains l s ↔ IsHeld m s) (sym c.into_iter-section-iterator.ensures.into_iter_gives) c.sections-section-items.ensures.each)

pub loop-section-preserved : goal.loop-section-preserved
loop-section-preserved g c =
    let m = (shown c.args.index.now).sections in
    let x = c.in-Some.section in
    let later = c.next.new.self in
    let old = get nat_cmp c.loop-section.ends in
    ends_more m (λ s n. IsCutOff (unwrap_or (get nat_cmp c.args.kept.now s) 0) (section_size (managed.shown c.args.values.now.manager) s) n) old (get nat_cmp c.insert.new.self) x c.end_at-end.result later c.in_ok-insert.ensures.updates.1
    (λ s other. c.in_ok-insert.ensures.updates.2 s (not_at x s other)) (record { least = c.end_at-end.ensures ∙ ap (min (unwrap_or (get nat_cmp c.args.kept.now x) 0)) c.in_ok-size.ensures.size; counted = omega (arith, c.in_ok-size.ensures.size) })
    (subst (λ (l : List ℕ). EndsFound m (λ s n. IsCutOff (unwrap_or (get nat_cmp c.args.kept.now s) 0) (section_size (managed.shown c.args.values.now.manager) s) n) old l) c.in-Some.ensures.steps c.loop-section.invariant)

pub returns-clause-each : goal.returns-clause-each
returns-clause-each g c =
    ends_all (shown c.args.index.now).sections (λ s n. IsCutOff (unwrap_or (get nat_cmp c.args.kept.now s) 0) (section_size (managed.shown c.args.values.now.manager) s) n) (get nat_cmp c.loop-section.ends) c.loop-section.section-iterator c.in-None.ensures.steps.0 c.loop-section.invariant

pub returns-clause-ends : goal.returns-clause-ends
returns-clause-ends g c s n is = c.loop-section.invariant.found s n is
