use Rattle.std.proofs.Common.{◌≡◌, ℕ, List, inl, refl, subst, arith}
use Rattle.std.specs.Prelude.{None, Ok}
use Rattle.std.proofs.lemmas.Grind.{common_steps}
use Rattle.std.specs.BTreeMap as tree
use Rattle.std.specs.Ordering.{nat_cmp}
use Rattle.ordinal_store.specs.Adopting.{Adopting}
use Rattle.ordinal_store.specs.Slots.{section_key}
use Rattle.ordinal_store.specs.Stores.{key_of, sight}
use Rattle.ordinal_store.specs.Shown.{shown}
use Rattle.ordinal_store.specs.declared.ordinal.Error.TheVariants.{Mem}
use Rattle.ordinal_store.proofs.SeatLemmas.{seat_trail, seated_same}
use Rattle.ordinal_store.proofs.TrailLemmas.{failed_as, step_done, step_refused, step_same}
use Rattle.ordinal_store.proofs.store.Ordinal.seated.Goals as goal
use Rattle.ordinal_store.proofs.store.Ordinal.seated.Given.{Over}
use Rattle.ordinal_store.specs.declared.store.Ordinal.{Ordinal}
use Rattle.ordinal_store.specs.Stores.{Store}

-- what a store shows
abbrev show : (g : Over) → Ordinal g.row.A.Denot g.row.S.Denot → Store
show g = shown g.A.CodecFixed.SIZE g.S.Seal.seal_of g.A.Codec.refusal

pub returns-then-contains_key-clause-stepping : goal.returns-then-contains_key-clause-stepping
returns-then-contains_key-clause-stepping g c =
    step_same (show g) g.D.Device.Tells (show g c.args.self) (λ q. q ≡ key_of (show g c.args.self) c.args.section) (sight g.D.Device c.args.dev.now) c.args.self refl c.requires.usable

pub returns-in_err-buffer-clause-stepping : goal.returns-in_err-buffer-clause-stepping
returns-in_err-buffer-clause-stepping g c =
    let none : tree.get nat_cmp c.args.self.buffers c.args.section ≡ None = grind (arith, common_steps) in
    step_refused (show g) g.D.Device.Tells (show g c.args.self) (λ q. q ≡ key_of (show g c.args.self) c.args.section) (sight g.D.Device c.args.dev.now) (sight g.D.Device c.adopted.new.dev) c.from_residual.result c.in_err-buffer.field-0.0 c.from_residual.ensures.1
    (seat_trail g.D.Device.Tells (show g c.args.self) c.args.section c.ranges.section.fits c.requires.first none (sight g.D.Device c.args.dev.now) (sight g.D.Device c.adopted.new.dev) c.requires.usable c.adopted.result
    (subst (λ (p : List ℕ). Adopting g.D.Device.Tells (section_key p c.args.section) c.args.self.capacity c.adopted.result (sight g.D.Device c.args.dev.now) (sight g.D.Device c.adopted.new.dev)) c.as_str.ensures.value c.adopted.ensures))
    (failed_as c.in_err-buffer.field-0.0 (sight g.D.Device c.args.dev.now) (sight g.D.Device c.args.dev.now) (sight g.D.Device c.adopted.new.dev) (omega arith) c.in_err-buffer.ensures.cause)

pub returns-in_err-insert-clause-stepping : goal.returns-in_err-insert-clause-stepping
returns-in_err-insert-clause-stepping g c =
    let none : tree.get nat_cmp c.args.self.buffers c.args.section ≡ None = grind (arith, common_steps) in
    step_refused (show g) g.D.Device.Tells (show g c.args.self) (λ q. q ≡ key_of (show g c.args.self) c.args.section) (sight g.D.Device c.args.dev.now) (sight g.D.Device c.adopted.new.dev) c.from_residual-in_err-insert.result Mem c.from_residual-in_err-insert.ensures.1
    (seat_trail g.D.Device.Tells (show g c.args.self) c.args.section c.ranges.section.fits c.requires.first none (sight g.D.Device c.args.dev.now) (sight g.D.Device c.adopted.new.dev) c.requires.usable c.adopted.result
    (subst (λ (p : List ℕ). Adopting g.D.Device.Tells (section_key p c.args.section) c.args.self.capacity c.adopted.result (sight g.D.Device c.args.dev.now) (sight g.D.Device c.adopted.new.dev)) c.as_str.ensures.value c.adopted.ensures))
    (inl refl)

pub returns-clause-stepping : goal.returns-clause-stepping
returns-clause-stepping g c =
    let none : tree.get nat_cmp c.args.self.buffers c.args.section ≡ None = grind (arith, common_steps) in
    let adopting = subst (λ (p : List ℕ). Adopting g.D.Device.Tells (section_key p c.args.section) c.args.self.capacity c.adopted.result (sight g.D.Device c.args.dev.now) (sight g.D.Device c.adopted.new.dev)) c.as_str.ensures.value c.adopted.ensures in
    let ready = (subst (λ (p : List ℕ). Adopting g.D.Device.Tells (section_key p c.args.section) c.args.self.capacity (Ok c.in_ok-buffer.buffer) (sight g.D.Device c.args.dev.now) (sight g.D.Device c.adopted.new.dev)) c.as_str.ensures.value c.in_ok-buffer.ensures).ready in
    step_done (show g) g.D.Device.Tells (show g c.args.self) (λ q. q ≡ key_of (show g c.args.self) c.args.section) (sight g.D.Device c.args.dev.now) (sight g.D.Device c.adopted.new.dev) _ _ refl
    (seat_trail g.D.Device.Tells (show g c.args.self) c.args.section c.ranges.section.fits c.requires.first none (sight g.D.Device c.args.dev.now) (sight g.D.Device c.adopted.new.dev) c.requires.usable c.adopted.result adopting)
    (seated_same g.D.Device.Tells (show g c.args.self) c.args.section c.ranges.section.fits c.requires.first none (sight g.D.Device c.args.dev.now) (sight g.D.Device c.adopted.new.dev) c.requires.usable c.adopted.result adopting
    c.in_ok-buffer.buffer (tree.get nat_cmp c.insert.new.self) c.in_ok-insert.ensures.updates.1 (λ t other. grind (arith, common_steps, c.in_ok-insert.ensures.updates.2 t)) ready)
