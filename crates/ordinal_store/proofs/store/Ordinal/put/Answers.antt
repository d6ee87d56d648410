use Rattle.std.proofs.Common.{◌≡◌, ◌≢◌, ◌/◌, ℕ, List, [], length, inl, sym, ap, ◌∙◌, subst, arith}
use Rattle.std.proofs.Math.Nat.{div-mul-le_self}
use Rattle.std.specs.Prelude.{IsSome}
use Rattle.ordinal_store.specs.Calls.{Putting}
use Rattle.ordinal_store.specs.Slots.{Layout, section_of}
use Rattle.ordinal_store.specs.Stores.{IsQuiet, key_of, sight}
use Rattle.ordinal_store.specs.Shown.{shown}
use Rattle.ordinal_store.proofs.TrailLemmas.{put_refused, put_then, spared_trail, trail_start}
use Rattle.ordinal_store.proofs.store.Ordinal.put.Goals as goal
use Rattle.ordinal_store.proofs.store.Ordinal.put.Given.{Over}
use Rattle.ordinal_store.specs.declared.store.Ordinal.{Ordinal}
use Rattle.ordinal_store.specs.Stores.{Store}

-- what a store shows
abbrev show : (g : Over) → Ordinal g.row.A.Denot g.row.S.Denot → Store
show g = shown g.A.CodecFixed.SIZE g.S.Seal.seal_of g.A.Codec.refusal

pub returns-in_err-slot : goal.returns-in_err-slot
returns-in_err-slot g c =
    put_refused (show g) g.D.Device.Tells (show g c.args.self) c.args.index _ (sight g.D.Device c.args.dev.now) (sight g.D.Device c.args.dev.now) c.from_residual.result c.in_err-slot.field-0.0 c.from_residual.ensures.1
    (trail_start g.D.Device.Tells (show g c.args.self).layout (λ j. (j ≢ c.args.index) × IsQuiet (show g c.args.self) j) (λ q. q ≡ key_of (show g c.args.self) (section_of (show g c.args.self).layout c.args.index)) (sight g.D.Device c.args.dev.now)) (inl (cc c.in_err-slot.ensures.cause))

pub seated-requires : goal.seated-requires
seated-requires g c = record { usable = c.requires.usable; first = omega (arith, div-mul-le_self c.args.index c.args.self.items) }

pub returns-in_err-this : goal.returns-in_err-this
returns-in_err-this g c =
    let step = c.seated.ensures.stepping in
    put_refused (show g) g.D.Device.Tells (show g c.args.self) c.args.index _ (sight g.D.Device c.args.dev.now) (sight g.D.Device c.seated.new.dev) c.from_residual-in_err-this.result c.in_err-this.field-0.0 c.from_residual-in_err-this.ensures.1
    (spared_trail (show g) g.D.Device.Tells (show g c.args.self) c.args.index [] (sight g.D.Device c.args.dev.now) (sight g.D.Device c.seated.new.dev) (sight g.D.Device c.seated.new.dev) (record { moments = step.moments; entries = step.entries; unread = step.unread; faults = step.faults })) c.in_err-this.ensures.stepping.cause

pub write_slot-requires : goal.write_slot-requires
write_slot-requires g c = record {
  usable = c.in_ok-this.ensures.stepping.kept.usable;
  seated = subst (λ (n : ℕ). IsSome ((shown g.A.CodecFixed.SIZE g.S.Seal.seal_of g.A.Codec.refusal c.in_ok-this.this).buffers (c.args.index / n))) (sym (ap (λ (l : Layout). l.items) c.in_ok-this.ensures.stepping.kept.place.layout)) c.in_ok-this.ensures.seated;
  size = ap length c.as_slice.ensures.value ∙ c.in_ok-slot.ensures.size;
}

pub returns : goal.returns
returns g c =
    let new = sight g.D.Device c.write_slot.new.dev in
    let step = c.in_ok-this.ensures.stepping in
    let slot_is = c.as_slice.ensures.value ∙ c.in_ok-slot.ensures.slot (show g c.args.self).layout.partition (show g c.args.self).layout.items in
    subst (λ (x : List ℕ). Putting (show g) g.D.Device.Tells (show g c.args.self) c.args.index x c.write_slot.result (sight g.D.Device c.args.dev.now) new) slot_is
    (put_then (show g) g.D.Device.Tells (show g c.args.self) c.args.index c.as_slice.result.now (sight g.D.Device c.args.dev.now) (sight g.D.Device c.seated.new.dev) new (show g c.in_ok-this.this) step.kept (record { moments = step.moments; entries = step.entries; unread = step.unread; faults = step.faults }) c.write_slot.result c.write_slot.ensures)
