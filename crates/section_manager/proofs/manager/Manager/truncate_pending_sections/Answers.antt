use Rattle.std.proofs.Common.{◌≡◌, ◌∙◌, ℕ, List, Some, map, sym, ap, subst}
use Rattle.std.specs.BTreeMap.{get}
use Rattle.std.specs.Map.Iter.{deref_pair}
use Rattle.std.specs.List.{Contains}
use Rattle.std.specs.Ordering.{nat_cmp}
use Rattle.std.proofs.lemmas.Cmp.{nat_cmp_total, eq_by_cmp_equiv}
use Rattle.std.proofs.lemmas.Map.Iter.{btree_map_turn, iter_end}
use Rattle.std.proofs.lemmas.Map.Views.{Contains-keys_from_lookup, IsSome-lookup_from_Contains}
use Rattle.std.specs.Map.{keys_of}
use Rattle.section_manager.specs.managing.Managed.{shown}
use Rattle.section_manager.specs.lemmas.Seen.{err_same, err_seen}
use Rattle.section_manager.specs.lemmas.sections.Cut.{CutTried, CutWalked, can_still, cut_tried_more, cut_tried_start, cut_walked_more, cut_walked_start}
use Rattle.section_manager.specs.lemmas.sections.Sync.{BufferLaws}
use Rattle.section_manager.proofs.sections.CuttingEnds.{cut_call, cut_made, each_cut, each_failed, each_refused, walked_named}
use Rattle.section_manager.proofs.manager.Manager.truncate_pending_sections.Goals as goal
use Rattle.blob_device.proofs.general.Maps.{numbers_of, numbers_push, numbers_shown}
use Rattle.blob_device.proofs.general.Numbers.{same_number}

pub loop-section-init : goal.loop-section-init
loop-section-init g c =
    let l = g.met.F.Buffer.SectionBuffer in
    let laws : BufferLaws g.F.Buffer.SectionBuffer = record { passes = l.passes; looser = l.looser; counted = l.counted; all_settled = l.all_settled; rested = l.rested; found_again = l.found_again } in
    let b = g.F.Buffer.SectionBuffer in
    let f = g.F.BufferFactory.gives in
    let d = g.D.Device in
    let m = shown c.args.self in
    let sizes = get nat_cmp c.args.sizes.now in
    record {
      walked = cut_walked_start b f d.Tells d.time d.opened d.faults sizes m c.args.dev.now c.requires.over;
      tried = cut_tried_start b f d.Tells d.time d.opened d.faults sizes laws m c.args.dev.now c.requires.over;
    }

pub cut_one-requires : goal.cut_one-requires
cut_one-requires g c =
    let l = g.met.F.Buffer.SectionBuffer in
    let laws : BufferLaws g.F.Buffer.SectionBuffer = record { passes = l.passes; looser = l.looser; counted = l.counted; all_settled = l.all_settled; rested = l.rested; found_again = l.found_again } in
    let b = g.F.Buffer.SectionBuffer in
    let f = g.F.BufferFactory.gives in
    let d = g.D.Device in
    let m = shown c.args.self in
    let sizes = get nat_cmp c.args.sizes.now in
    let now = shown c.loop-section.this in
    let s = c.in-Some.section.now in
    let n = c.in-Some.size.now in
    let ks = numbers_of c.loop-section.yielded in
    let size : sizes s ≡ Some n = (btree_map_turn deref_pair c.loop-section.yielded c.into_iter-section-iterator.result c.loop-section.section-iterator c.next.new.self c.next.result (c.in-Some.section, c.in-Some.size) c.loop-section.yielded_by c.in-Some.is c.next.ensures.steps nat_cmp_total c.args.sizes.now
    c.into_iter-section-iterator.ensures.into_iter_gives.0 c.into_iter-section-iterator.ensures.into_iter_gives.5).1 in
    record {
      over = c.loop-section.invariant.walked.over;
      can = λ t. can_still b f d.Tells d.time d.opened d.faults sizes laws ks s n size m now c.args.dev.now c.loop-section.dev c.requires.over c.loop-section.invariant.walked t
          (λ u held longer. c.requires.can t s n u size held longer);
    }

pub loop-section-preserved : goal.loop-section-preserved
loop-section-preserved g c =
    let l = g.met.F.Buffer.SectionBuffer in
    let laws : BufferLaws g.F.Buffer.SectionBuffer = record { passes = l.passes; looser = l.looser; counted = l.counted; all_settled = l.all_settled; rested = l.rested; found_again = l.found_again } in
    let b = g.F.Buffer.SectionBuffer in
    let f = g.F.BufferFactory.gives in
    let d = g.D.Device in
    let m = shown c.args.self in
    let sizes = get nat_cmp c.args.sizes.now in
    let now = shown c.loop-section.this in
    let s = c.in-Some.section.now in
    let n = c.in-Some.size.now in
    let ks = numbers_of c.loop-section.yielded in
    let size : sizes s ≡ Some n = (btree_map_turn deref_pair c.loop-section.yielded c.into_iter-section-iterator.result c.loop-section.section-iterator c.next.new.self c.next.result (c.in-Some.section, c.in-Some.size) c.loop-section.yielded_by c.in-Some.is c.next.ensures.steps nat_cmp_total c.args.sizes.now
    c.into_iter-section-iterator.ensures.into_iter_gives.0 c.into_iter-section-iterator.ensures.into_iter_gives.5).1 in
    let tried : CutTried b f d.Tells d.time d.opened d.faults sizes m c.args.dev.now c.cut_one.new.dev = cut_tried_more b f d.Tells d.time d.opened d.faults sizes laws ks s n size m now c.args.dev.now c.loop-section.dev c.requires.over c.loop-section.invariant.walked
    c.cut_one.new.dev c.loop-section.invariant.tried (cut_call b f d now s n c.loop-section.dev c.cut_one.new.dev _ c.cut_one.ensures) in
    record {
      walked = subst (λ (x : List ℕ). CutWalked b f d.Tells d.time d.opened d.faults sizes (Contains x) m (shown c.in_ok-this.this) c.args.dev.now c.cut_one.new.dev) (sym (numbers_push c.loop-section.yielded (c.in-Some.section, c.in-Some.size)))
          (cut_walked_more b f d.Tells d.time d.opened d.faults sizes laws ks s n size m now c.args.dev.now c.loop-section.dev c.requires.over c.loop-section.invariant.walked
          c.cut_one.new.dev c.loop-section.invariant.tried (cut_call b f d now s n c.loop-section.dev c.cut_one.new.dev _ c.cut_one.ensures)
          (shown c.in_ok-this.this) (cut_made b f d now s n c.loop-section.dev c.cut_one.new.dev (shown c.in_ok-this.this) c.in_ok-this.ensures));
      tried = tried;
    }

pub returns-in_err-check_sizes : goal.returns-in_err-check_sizes
returns-in_err-check_sizes g c =
    let l = g.met.F.Buffer.SectionBuffer in
    let laws : BufferLaws g.F.Buffer.SectionBuffer = record { passes = l.passes; looser = l.looser; counted = l.counted; all_settled = l.all_settled; rested = l.rested; found_again = l.found_again } in
    let pruned = c.in_err-check_sizes.ensures.cause in
    each_refused g.F.Buffer.SectionBuffer g.F.BufferFactory.gives g.D.Device laws (shown c.args.self) c.args.dev.now c.requires.over (get nat_cmp c.args.sizes.now)
    _ _ (err_seen shown c.from_residual.result _ c.from_residual.ensures.1) (err_same pruned) (c.in_err-check_sizes.ensures.guard.0 pruned)

pub returns-in_err-this : goal.returns-in_err-this
returns-in_err-this g c =
    let l = g.met.F.Buffer.SectionBuffer in
    let laws : BufferLaws g.F.Buffer.SectionBuffer = record { passes = l.passes; looser = l.looser; counted = l.counted; all_settled = l.all_settled; rested = l.rested; found_again = l.found_again } in
    let b = g.F.Buffer.SectionBuffer in
    let f = g.F.BufferFactory.gives in
    let d = g.D.Device in
    let m = shown c.args.self in
    let sizes = get nat_cmp c.args.sizes.now in
    let now = shown c.loop-section.this in
    let s = c.in-Some.section.now in
    let n = c.in-Some.size.now in
    let ks = numbers_of c.loop-section.yielded in
    let size : sizes s ≡ Some n = (btree_map_turn deref_pair c.loop-section.yielded c.into_iter-section-iterator.result c.loop-section.section-iterator c.next.new.self c.next.result (c.in-Some.section, c.in-Some.size) c.loop-section.yielded_by c.in-Some.is c.next.ensures.steps nat_cmp_total c.args.sizes.now
    c.into_iter-section-iterator.ensures.into_iter_gives.0 c.into_iter-section-iterator.ensures.into_iter_gives.5).1 in
    let tried : CutTried b f d.Tells d.time d.opened d.faults sizes m c.args.dev.now c.cut_one.new.dev = cut_tried_more b f d.Tells d.time d.opened d.faults sizes laws ks s n size m now c.args.dev.now c.loop-section.dev c.requires.over c.loop-section.invariant.walked
    c.cut_one.new.dev c.loop-section.invariant.tried (cut_call b f d now s n c.loop-section.dev c.cut_one.new.dev _ c.cut_one.ensures) in
    each_failed b f d laws m c.args.dev.now c.requires.over sizes (λ below. absurd (cc (c.in_ok-check_sizes.ensures.guard.1 below))) c.cut_one.new.dev tried now s n c.loop-section.dev
    _ _ (err_seen shown c.from_residual-in_err-this.result _ c.from_residual-in_err-this.ensures.1) c.loop-section.invariant.tried.faults c.in_err-this.ensures

pub returns : goal.returns
returns g c =
    let l = g.met.F.Buffer.SectionBuffer in
    let laws : BufferLaws g.F.Buffer.SectionBuffer = record { passes = l.passes; looser = l.looser; counted = l.counted; all_settled = l.all_settled; rested = l.rested; found_again = l.found_again } in
    let b = g.F.Buffer.SectionBuffer in
    let f = g.F.BufferFactory.gives in
    let d = g.D.Device in
    let m = shown c.args.self in
    let sizes = get nat_cmp c.args.sizes.now in
    let shows : map deref_pair c.loop-section.yielded ≡ c.args.sizes.now.entries = (iter_end deref_pair c.args.sizes.now.entries c.loop-section.yielded c.into_iter-section-iterator.result c.loop-section.section-iterator c.next.new.self c.next.result
    c.into_iter-section-iterator.ensures.into_iter_gives.0 c.loop-section.yielded_by c.in-None.is c.next.ensures.steps).0 in
    let all : numbers_of c.loop-section.yielded ≡ keys_of c.args.sizes.now.entries = numbers_shown c.loop-section.yielded ∙ ap (λ (es : List (ℕ × ℕ)). keys_of es) shows in
    let w = c.loop-section.invariant.walked in
    each_cut b f d laws m c.args.dev.now c.requires.over sizes (λ below. absurd (cc (c.in_ok-check_sizes.ensures.guard.1 below))) c.loop-section.dev c.loop-section.invariant.tried (shown c.loop-section.this)
    (walked_named b f d sizes m (shown c.loop-section.this) c.args.dev.now c.loop-section.dev (numbers_of c.loop-section.yielded)
    (λ s some. subst (λ (x : List ℕ). Contains x s) (sym all) (Contains-keys_from_lookup same_number s c.args.sizes.now.entries some))
    (λ s listed. IsSome-lookup_from_Contains (eq_by_cmp_equiv nat_cmp_total) s c.args.sizes.now.entries (subst (λ (x : List ℕ). Contains x s) all listed)) w)
