use Rattle.std.proofs.Common.{◌≡◌, ◌<◌, ◌≤◌, ℕ, List, Option, Some, IsSome, Err, inl, inr, map, refl, sym, ◌∙◌, ap, subst, arith}
use Rattle.std.specs.BTreeMap.{BTreeMap, get}
use Rattle.std.specs.List.{Contains}
use Rattle.std.specs.Map.{keys_of}
use Rattle.std.specs.Map.Iter.{deref_pair}
use Rattle.std.specs.Option.{unwrap_or}
use Rattle.std.specs.Result.{IsErrOf}
use Rattle.std.specs.Ordering.{nat_cmp}
use Rattle.std.proofs.lemmas.Cmp.{nat_cmp_total}
use Rattle.std.proofs.lemmas.List.Elements.{Contains-push_cases}
use Rattle.std.proofs.lemmas.Map.Iter.{btree_map_turn, iter_end}
use Rattle.std.proofs.lemmas.Map.Views.{Contains-keys_from_lookup}
use Rattle.section_manager.specs.declared.journal.Damage.{Damage}
use Rattle.section_manager.specs.declared.journal.Error.TheVariants.{Corruption}
use Rattle.section_manager.specs.managing.Managed.{shown}
use Rattle.segments.specs.FixedLists.{floor_in, section_size}
use Rattle.segments.proofs.opened.FloorLemmas.{size_is}
use Rattle.segments.proofs.fixed.preflighting.check_reached.Goals as goal
use Rattle.blob_device.proofs.general.Maps.{had_turn, numbers_of, numbers_push, numbers_shown}
use Rattle.blob_device.proofs.general.Numbers.{same_number}
use Rattle.blob_device.proofs.general.Options.{none_or_value}

-- the floor that a turn yields
floor_found : (floors : BTreeMap ℕ ℕ) (q f : ℕ) → get nat_cmp floors q ≡ Some f → floor_in floors q ≡ f
floor_found floors q f found = ap (λ (o : Option ℕ). unwrap_or o 0) found

-- what is told of a section that has not come to it
same_damage : {T : Type 0} (q kept wanted : ℕ) (x : Damage) → IsErrOf {T = T} (Err (Corruption (record { section = q; kept = kept; wanted = wanted }))) (Corruption x) → record { section = q; kept = kept; wanted = wanted } ≡ x
same_damage q kept wanted x is = cc is

pub returns-then-kept-wanted-clause-damage : goal.returns-then-kept-wanted-clause-damage
returns-then-kept-wanted-clause-damage g c x is =
    let found : get nat_cmp c.args.floors.now c.in-Some.section.now ≡ Some c.in-Some.floor.now = (btree_map_turn deref_pair c.loop-section.yielded c.into_iter-section-iterator.result c.loop-section.section-iterator c.next.new.self c.next.result (c.in-Some.section, c.in-Some.floor) c.loop-section.yielded_by c.in-Some.is c.next.ensures.steps nat_cmp_total c.args.floors.now
    c.into_iter-section-iterator.ensures.into_iter_gives.0 c.into_iter-section-iterator.ensures.into_iter_gives.5).1 in
    subst (λ (y : Damage). (y.kept ≡ section_size (shown c.args.manager.now) y.section) × (y.wanted ≡ floor_in c.args.floors.now y.section) × (y.kept < y.wanted)) (same_damage c.in-Some.section.now c.in_ok-kept.kept c.in-Some.floor.now x is)
    (size_is ((shown c.args.manager.now).held c.in-Some.section.now) c.in_ok-kept.kept c.in_ok-kept.ensures.size, sym (floor_found c.args.floors.now c.in-Some.section.now c.in-Some.floor.now found), c.if-kept-wanted.true)

pub returns-then-kept-wanted-clause-first : goal.returns-then-kept-wanted-clause-first
returns-then-kept-wanted-clause-first g c x is q before =
    let at : c.in-Some.section.now ≡ x.section = ap (λ (y : Damage). y.section) (same_damage c.in-Some.section.now c.in_ok-kept.kept c.in-Some.floor.now x is) in
    elim (none_or_value (get nat_cmp c.args.floors.now q)) [
      | inl none ↦ (let floor : floor_in c.args.floors.now q ≡ 0 = ap (λ (o : Option ℕ). unwrap_or o 0) none in omega (arith, floor))
      | inr v ↦ c.loop-section.invariant q (had_turn c.loop-section.yielded c.into_iter-section-iterator.result c.loop-section.section-iterator c.next.new.self c.next.result (c.in-Some.section, c.in-Some.floor) c.loop-section.yielded_by c.in-Some.is c.next.ensures.steps c.args.floors.now
          c.into_iter-section-iterator.ensures.into_iter_gives.0 c.into_iter-section-iterator.ensures.into_iter_gives.5 q (subst IsSome (sym v.1) refl) (omega (arith, before, at)))
    ]

pub loop-section-preserved : goal.loop-section-preserved
loop-section-preserved g c =
    let found : get nat_cmp c.args.floors.now c.in-Some.section.now ≡ Some c.in-Some.floor.now = (btree_map_turn deref_pair c.loop-section.yielded c.into_iter-section-iterator.result c.loop-section.section-iterator c.next.new.self c.next.result (c.in-Some.section, c.in-Some.floor) c.loop-section.yielded_by c.in-Some.is c.next.ensures.steps nat_cmp_total c.args.floors.now
    c.into_iter-section-iterator.ensures.into_iter_gives.0 c.into_iter-section-iterator.ensures.into_iter_gives.5).1 in
    let here : floor_in c.args.floors.now c.in-Some.section.now ≤ section_size (shown c.args.manager.now) c.in-Some.section.now = omega (arith, floor_found c.args.floors.now c.in-Some.section.now c.in-Some.floor.now found, size_is ((shown c.args.manager.now).held c.in-Some.section.now) c.in_ok-kept.kept c.in_ok-kept.ensures.size, c.if-kept-wanted.false) in
    λ q listed. elim (Contains-push_cases (numbers_of c.loop-section.yielded) c.in-Some.section.now q (subst (λ (x : List ℕ). Contains x q) (numbers_push c.loop-section.yielded (c.in-Some.section, c.in-Some.floor)) listed)) [
      | inl before ↦ c.loop-section.invariant q before
      | inr same ↦ subst (λ (x : ℕ). floor_in c.args.floors.now x ≤ section_size (shown c.args.manager.now) x) same here
    ]

pub returns-clause-reached : goal.returns-clause-reached
returns-clause-reached g c s =
    let shows : map deref_pair c.loop-section.yielded ≡ c.args.floors.now.entries = (iter_end deref_pair c.args.floors.now.entries c.loop-section.yielded c.into_iter-section-iterator.result c.loop-section.section-iterator c.next.new.self c.next.result
    c.into_iter-section-iterator.ensures.into_iter_gives.0 c.loop-section.yielded_by c.in-None.is c.next.ensures.steps).0 in
    let all : numbers_of c.loop-section.yielded ≡ keys_of c.args.floors.now.entries = numbers_shown c.loop-section.yielded ∙ ap (λ (es : List (ℕ × ℕ)). keys_of es) shows in
    elim (none_or_value (get nat_cmp c.args.floors.now s)) [
      | inl none ↦ (let floor : floor_in c.args.floors.now s ≡ 0 = ap (λ (o : Option ℕ). unwrap_or o 0) none in omega (arith, floor))
      | inr v ↦ c.loop-section.invariant s (subst (λ (x : List ℕ). Contains x s) (sym all) (Contains-keys_from_lookup same_number s c.args.floors.now.entries (subst IsSome (sym v.1) refl)))
    ]
