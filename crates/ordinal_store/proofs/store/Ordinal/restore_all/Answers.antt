use Rattle.std.proofs.Common.{◌^◌, ◌<◌, refl, sym, ◌∙◌, ap, subst, arith}
use Rattle.std.specs.BTreeMap.{get}
use Rattle.std.specs.BTreeSet.{contains}
use Rattle.std.specs.Map.Iter.{deref_pair}
use Rattle.std.specs.Ordering.{nat_cmp}
use Rattle.std.proofs.lemmas.Map.Iter.{rest_all, rest_more}
use Rattle.ordinal_store.specs.Shown.{shown}
use Rattle.ordinal_store.specs.Slots.{Layout}
use Rattle.ordinal_store.specs.Stores.{Store, sight}
use Rattle.ordinal_store.specs.declared.store.Ordinal.{Ordinal}
use Rattle.ordinal_store.proofs.RestoreLemmas.{Entries, Restored, all_done, restored_start, turn_err, turn_fits, turn_ok}
use Rattle.ordinal_store.proofs.store.Ordinal.restore_all.Given.{Over}
use Rattle.ordinal_store.proofs.store.Ordinal.restore_all.Goals as goal

-- what a store shows
abbrev show : (g : Over) → Ordinal g.row.A.Denot g.row.S.Denot → Store
show g = shown g.A.CodecFixed.SIZE g.S.Seal.seal_of g.A.Codec.refusal

pub loop-section-init : goal.loop-section-init
loop-section-init g c =
    let base = sight g.D.Device c.args.dev.now in
    subst (λ (rest : Entries). Restored g.D.Device.Tells (show g c.args.self).layout c.args.self.capacity (get nat_cmp c.args.map.now) base rest (show g c.args.self) base) (sym (c.into_iter-section-iterator.ensures.into_iter_gives ∙ c.iter-section-items.ensures.rest))
    (restored_start g.D.Device.Tells (show g c.args.self).layout c.args.self.capacity (get nat_cmp c.args.map.now) base c.args.map.now.entries (show g c.args.self) c.iter-section-items.ensures.ordered (λ t. refl) c.requires.empty)

pub restored_if_kept-requires : goal.restored_if_kept-requires
restored_if_kept-requires g c =
    let small : c.in-Some.section.now < 2 ^ 64 = omega arith in
    let same = ap (λ (x : Layout). x.items) c.loop-section.invariant.layout_is in
    record {
      items = omega (arith, same, c.requires.items);
      fits = turn_fits g.D.Device.Tells (show g c.args.self).layout c.args.self.capacity (get nat_cmp c.args.map.now) (sight g.D.Device c.args.dev.now) (show g) c.loop-section.section-iterator c.next.new.self c.in-Some.section.now c.in-Some.marks.now
          (rest_more deref_pair _ _ c.next.result (c.in-Some.section, c.in-Some.marks) c.in-Some.is c.next.ensures.steps) small (show g c.loop-section.this) (sight g.D.Device c.loop-section.dev) c.loop-section.invariant c.requires.fits c.loop-section.this.items same;
    }

pub returns-in_err-this : goal.returns-in_err-this
returns-in_err-this g c =
    turn_err g.D.Device.Tells (show g c.args.self).layout c.args.self.capacity (get nat_cmp c.args.map.now) (sight g.D.Device c.args.dev.now) (show g) c.loop-section.section-iterator c.next.new.self c.in-Some.section.now c.in-Some.marks.now
    (rest_more deref_pair _ _ c.next.result (c.in-Some.section, c.in-Some.marks) c.in-Some.is c.next.ensures.steps) (omega arith) (show g c.loop-section.this) (sight g.D.Device c.loop-section.dev) c.loop-section.invariant c.requires.fits
    (contains nat_cmp c.args.there.now c.in-Some.section.now) (λ t kept. c.requires.there t c.in-Some.section.now kept) (sight g.D.Device c.restored_if_kept.new.dev) c.from_residual.result c.in_err-this.field-0.0 c.from_residual.ensures.1 c.in_err-this.ensures

pub loop-section-preserved : goal.loop-section-preserved
loop-section-preserved g c =
    turn_ok g.D.Device.Tells (show g c.args.self).layout c.args.self.capacity (get nat_cmp c.args.map.now) (sight g.D.Device c.args.dev.now) (show g) c.loop-section.section-iterator c.next.new.self c.in-Some.section.now c.in-Some.marks.now
    (rest_more deref_pair _ _ c.next.result (c.in-Some.section, c.in-Some.marks) c.in-Some.is c.next.ensures.steps) (omega arith) (show g c.loop-section.this) (sight g.D.Device c.loop-section.dev) c.loop-section.invariant c.requires.fits
    (contains nat_cmp c.args.there.now c.in-Some.section.now) (λ t kept. c.requires.there t c.in-Some.section.now kept) (sight g.D.Device c.restored_if_kept.new.dev) c.in_ok-this.this c.in_ok-this.ensures

pub returns : goal.returns
returns g c =
    all_done g.D.Device.Tells (show g c.args.self).layout c.args.self.capacity (get nat_cmp c.args.map.now) (sight g.D.Device c.args.dev.now) (show g) c.loop-section.this (sight g.D.Device c.loop-section.dev)
    (subst (λ (rest : Entries). Restored g.D.Device.Tells (show g c.args.self).layout c.args.self.capacity (get nat_cmp c.args.map.now) (sight g.D.Device c.args.dev.now) rest (show g c.loop-section.this) (sight g.D.Device c.loop-section.dev))
    (rest_all deref_pair _ _ c.next.result c.in-None.is c.next.ensures.steps) c.loop-section.invariant)
