use Rattle.std.proofs.Common.{inl, inr, refl, subst, sym, ◌∙◌, arith}
use Rattle.std.proofs.lemmas.Grind.{common_steps}
use Rattle.std.specs.BTreeMap as tree
use Rattle.std.specs.BTreeSet as set
use Rattle.std.specs.Ordering.{nat_cmp}
use Rattle.std.specs.Prelude.{OnOk}
use Rattle.ordinal_store.specs.Numbers.{AddsNumber}
use Rattle.ordinal_store.specs.Ranges.{set_of}
use Rattle.sealed_pages.specs.Entries.{IsOpenAt}
use Rattle.sealed_pages.specs.unsealed.Writing as writing
use Rattle.ordinal_store.specs.Raised.{passed_on}
use Rattle.ordinal_store.specs.Slots.{section_of}
use Rattle.ordinal_store.specs.Stores.{now, sight}
use Rattle.ordinal_store.specs.Shown.{shown}
use Rattle.ordinal_store.specs.declared.ordinal.Error.TheVariants.{Mem}
use Rattle.ordinal_store.proofs.ranges.Compared.{other_stays}
use Rattle.ordinal_store.proofs.MendLemmas.{failed_of}
use Rattle.ordinal_store.proofs.PlaceLemmas.{opened_long, place_fits, put_done, put_trail}
use Rattle.ordinal_store.proofs.TrailLemmas.{failed_as, put_refused}
use Rattle.ordinal_store.proofs.store.Ordinal.write_slot.Goals as goal
use Rattle.ordinal_store.proofs.store.Ordinal.write_slot.Given.{Over}
use Rattle.ordinal_store.specs.declared.store.Ordinal.{Ordinal}
use Rattle.ordinal_store.specs.Stores.{Store}

-- what a store shows
abbrev show : (g : Over) → Ordinal g.row.A.Denot g.row.S.Denot → Store
show g = shown g.A.CodecFixed.SIZE g.S.Seal.seal_of g.A.Codec.refusal

pub returns-in_default : goal.returns-in_default
returns-in_default g c = absurd (grind (arith, common_steps))

pub write_at-requires : goal.write_at-requires
write_at-requires g c =
    let o = shown g.A.CodecFixed.SIZE g.S.Seal.seal_of g.A.Codec.refusal c.args.self in
    record { «open» = subst (λ k. IsOpenAt (g.D.Device.opened c.args.dev.now) k c.in-Some.buffer.end) (sym (c.requires.usable.key (section_of o.layout c.args.index) c.in-Some.buffer (sym c.in-Some.ensures.value))) (c.requires.usable.is_open (section_of o.layout c.args.index) c.in-Some.buffer (sym c.in-Some.ensures.value)) }

pub returns-in_err-buffer : goal.returns-in_err-buffer
returns-in_err-buffer g c =
    let says = c.in_err-buffer.ensures in
    let fits = place_fits (show g c.args.self).layout c.args.index c.requires.usable.items c.requires.usable.width in
    put_refused (show g) g.D.Device.Tells (show g c.args.self) c.args.index c.args.slot.now (sight g.D.Device c.args.dev.now) (sight g.D.Device c.write_at.new.dev) c.from_residual.result (passed_on c.in_err-buffer.field-0.0) c.from_residual.ensures.1 (put_trail g.D.Device.Tells (show g c.args.self) c.args.index c.ranges.index.fits c.args.slot.now (c.requires.size) c.in-Some.buffer (sym c.in-Some.ensures.value) (sight g.D.Device c.args.dev.now) (sight g.D.Device c.write_at.new.dev) c.requires.usable c.place_of-at.result c.place_of-at.ensures
    c.write_at.ensures.spares c.write_at.ensures.since c.write_at.ensures.entries c.write_at.ensures.faults)
    (failed_as (passed_on c.in_err-buffer.field-0.0) (sight g.D.Device c.args.dev.now) (sight g.D.Device c.args.dev.now) (sight g.D.Device c.write_at.new.dev) (omega arith) (failed_of c.in_err-buffer.field-0.0 (sight g.D.Device c.args.dev.now) (sight g.D.Device c.write_at.new.dev) (elim says.cause [
      | inl over ↦ absurd (omega (arith, says.overflow.0 over, fits, c.place_of-at.ensures, c.requires.size))
      | inr (inl mem) ↦ inl (cc mem)
      | inr (inr fault) ↦ inr (cc fault.0, fault.1)
    ])))

pub returns-in_err-insert : goal.returns-in_err-insert
returns-in_err-insert g c =
    put_refused (show g) g.D.Device.Tells (show g c.args.self) c.args.index c.args.slot.now (sight g.D.Device c.args.dev.now) (sight g.D.Device c.write_at.new.dev) c.from_residual-in_err-insert.result Mem c.from_residual-in_err-insert.ensures.1 (put_trail g.D.Device.Tells (show g c.args.self) c.args.index c.ranges.index.fits c.args.slot.now (c.requires.size) c.in-Some.buffer (sym c.in-Some.ensures.value) (sight g.D.Device c.args.dev.now) (sight g.D.Device c.write_at.new.dev) c.requires.usable c.place_of-at.result c.place_of-at.ensures
    c.write_at.ensures.spares c.write_at.ensures.since c.write_at.ensures.entries c.write_at.ensures.faults) (inl refl)

pub returns-in_err-insert-2 : goal.returns-in_err-insert-2
returns-in_err-insert-2 g c =
    put_refused (show g) g.D.Device.Tells (show g c.args.self) c.args.index c.args.slot.now (sight g.D.Device c.args.dev.now) (sight g.D.Device c.write_at.new.dev) c.from_residual-in_err-insert-2.result Mem c.from_residual-in_err-insert-2.ensures.1 (put_trail g.D.Device.Tells (show g c.args.self) c.args.index c.ranges.index.fits c.args.slot.now (c.requires.size) c.in-Some.buffer (sym c.in-Some.ensures.value) (sight g.D.Device c.args.dev.now) (sight g.D.Device c.write_at.new.dev) c.requires.usable c.place_of-at.result c.place_of-at.ensures
    c.write_at.ensures.spares c.write_at.ensures.since c.write_at.ensures.entries c.write_at.ensures.faults) (inl refl)

pub returns-in_err-noted : goal.returns-in_err-noted
returns-in_err-noted g c =
    put_refused (show g) g.D.Device.Tells (show g c.args.self) c.args.index c.args.slot.now (sight g.D.Device c.args.dev.now) (sight g.D.Device c.write_at.new.dev) c.from_residual-in_err-noted.result c.in_err-noted.field-0.0 c.from_residual-in_err-noted.ensures.1 (put_trail g.D.Device.Tells (show g c.args.self) c.args.index c.ranges.index.fits c.args.slot.now (c.requires.size) c.in-Some.buffer (sym c.in-Some.ensures.value) (sight g.D.Device c.args.dev.now) (sight g.D.Device c.write_at.new.dev) c.requires.usable c.place_of-at.result c.place_of-at.ensures
    c.write_at.ensures.spares c.write_at.ensures.since c.write_at.ensures.entries c.write_at.ensures.faults) (inl (cc c.in_err-noted.ensures.cause))

pub returns : goal.returns
returns g c =
    let s = section_of (show g c.args.self).layout c.args.index in
    put_done g.D.Device.Tells (show g c.args.self) c.args.index c.ranges.index.fits c.args.slot.now c.requires.size c.in-Some.buffer (sym c.in-Some.ensures.value) (sight g.D.Device c.args.dev.now) (sight g.D.Device c.write_at.new.dev) c.requires.usable c.place_of-at.result c.place_of-at.ensures
    c.write_at.ensures.spares c.write_at.ensures.since c.write_at.ensures.entries c.write_at.ensures.faults
    c.in_ok-buffer.buffer c.in_ok-buffer.ensures.same c.in_ok-buffer.ensures.size c.in_ok-buffer.ensures.run c.in_ok-buffer.ensures.open
    (λ t. c.in_ok-buffer.ensures.over t (subst (λ k. writing.Over (writing.shown c.in-Some.buffer) (now (sight g.D.Device c.args.dev.now) k)) (sym (c.requires.usable.key (section_of (show g c.args.self).layout c.args.index) c.in-Some.buffer (sym c.in-Some.ensures.value))) ((c.requires.usable.disk t).over (section_of (show g c.args.self).layout c.args.index) c.in-Some.buffer (sym c.in-Some.ensures.value))))
    c.in_ok-buffer.ensures.bytes
    (λ t. opened_long (sight g.D.Device c.args.dev.now).opened (writing.blob_key (writing.shown c.in-Some.buffer)) c.in-Some.buffer.end (now (sight g.D.Device c.args.dev.now) (writing.blob_key (writing.shown c.in-Some.buffer))) (subst (λ k. IsOpenAt (sight g.D.Device c.args.dev.now).opened k c.in-Some.buffer.end) (sym (c.requires.usable.key (section_of (show g c.args.self).layout c.args.index) c.in-Some.buffer (sym c.in-Some.ensures.value))) (c.requires.usable.is_open (section_of (show g c.args.self).layout c.args.index) c.in-Some.buffer (sym c.in-Some.ensures.value))) (g.met.D.Device.opened_stands t c.args.dev.now (writing.blob_key (writing.shown c.in-Some.buffer))))
    c.insert-3.new.self c.insert-3.ensures.ranges (subst (λ (r : _). OnOk r (AddsNumber (set_of c.args.self.held) (set_of c.insert-3.new.self) c.args.index)) c.in_ok-noted.ensures.ok c.insert-3.ensures.ok)
    (tree.get nat_cmp c.insert.new.self) c.in_ok-insert.ensures.updates.1 (λ t other. other_stays s t (tree.get nat_cmp c.remove.new.self) (tree.get nat_cmp c.insert.new.self) c.in_ok-insert.ensures.updates.2 other
    ∙ other_stays s t (tree.get nat_cmp c.args.self.buffers) (tree.get nat_cmp c.remove.new.self) c.remove.ensures.updates.2 other)
    (set.contains nat_cmp c.insert-2.new.self) c.in_ok-insert-2.ensures.updates.1 (λ t other. other_stays s t (set.contains nat_cmp c.args.self.written) (set.contains nat_cmp c.insert-2.new.self) c.in_ok-insert-2.ensures.updates.2 other)
    (show g) _ refl
