use Rattle.std.proofs.Common.{◌≡◌, ◌^◌, ◌<◌, ◌∷◌, ℕ, refl, sym, ◌∙◌, subst, arith}
use Rattle.std.specs.BTreeMap.{get}
use Rattle.std.specs.Map.Iter.{deref_pair}
use Rattle.std.specs.Ordering.{nat_cmp}
use Rattle.std.proofs.lemmas.Map.Iter.{rest_all, rest_more}
use Rattle.ordinal_store.specs.Reopening.{HasPast}
use Rattle.ordinal_store.proofs.MarkLemmas.{Judged, judged_all, judged_on, judged_past, judged_start}
use Rattle.ordinal_store.proofs.RestoreLemmas.{Entries}
use Rattle.ordinal_store.proofs.checking.check_numbers.Goals as goal

pub loop-section-init : goal.loop-section-init
loop-section-init c k is =
    subst (λ (rest : Entries). Judged k (get nat_cmp c.args.map.now) rest) (sym (c.into_iter-section-iterator.ensures.into_iter_gives ∙ c.iter-section-items.ensures.rest))
    (judged_start k (get nat_cmp c.args.map.now) c.args.map.now.entries c.iter-section-items.ensures.ordered (λ t. refl))

pub returns-then-is_past : goal.returns-then-is_past
returns-then-is_past c k is =
    let here : c.loop-section.section-iterator ≡ (c.in-Some.section.now, c.in-Some.marks.now) ∷ c.next.new.self = rest_more deref_pair _ _ c.next.result (c.in-Some.section, c.in-Some.marks) c.in-Some.is c.next.ensures.steps in
    let small : c.in-Some.section.now < 2 ^ 64 = omega arith in
    (judged_past k (get nat_cmp c.args.map.now) c.next.new.self c.in-Some.section.now c.in-Some.marks.now (subst (λ (rest : Entries). Judged k (get nat_cmp c.args.map.now) rest) here (c.loop-section.invariant k is)) small (subst (λ (n : ℕ). HasPast n c.in-Some.section.now c.in-Some.marks.now) (sym is) ((c.if-is_past.ensures).0 refl)), refl)

pub loop-section-preserved : goal.loop-section-preserved
loop-section-preserved c k is =
    let here : c.loop-section.section-iterator ≡ (c.in-Some.section.now, c.in-Some.marks.now) ∷ c.next.new.self = rest_more deref_pair _ _ c.next.result (c.in-Some.section, c.in-Some.marks) c.in-Some.is c.next.ensures.steps in
    judged_on k (get nat_cmp c.args.map.now) c.next.new.self c.in-Some.section.now c.in-Some.marks.now (subst (λ (rest : Entries). Judged k (get nat_cmp c.args.map.now) rest) here (c.loop-section.invariant k is)) (λ past. absurd (cc ((c.if-is_past.ensures).1 (subst (λ (n : ℕ). HasPast n c.in-Some.section.now c.in-Some.marks.now) is past))))

pub returns : goal.returns
returns c k is =
    judged_all k (get nat_cmp c.args.map.now) (subst (λ (rest : Entries). Judged k (get nat_cmp c.args.map.now) rest) (rest_all deref_pair _ _ c.next.result c.in-None.is c.next.ensures.steps) (c.loop-section.invariant k is))
