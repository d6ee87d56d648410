use Rattle.std.proofs.Common.{inl, inr, ℕ, ◌+◌, List, Option, sym, ◌∙◌, ap, subst}
use Rattle.std.specs.Prelude.{◌≤◌, IsSomeAnd, MatchOption}
use Rattle.blob_device.specs.Disk.{Key}
use Rattle.blob_device.specs.Timeline.{disk}
use Rattle.sealed_pages.specs.Entries.{ReadsAtMost}
use Rattle.sealed_pages.specs.unsealed.Writing as writing
use Rattle.sealed_pages.specs.declared.write_blob.WriteBlob.{WriteBlob}
use Rattle.ordinal_store.specs.Slots.{HasValue, IsSealed, part_at, place_of, section_of, slot_size}
use Rattle.ordinal_store.specs.Stores.{Store, sight}
use Rattle.ordinal_store.specs.Shown.{shown}
use Rattle.ordinal_store.proofs.GettingLemmas.{got_failed, got_none, got_value, got_invalid, slot_read}
use Rattle.ordinal_store.proofs.store.Ordinal.get.Goals as goal
use Rattle.ordinal_store.proofs.store.Ordinal.get.Given.{Over}
use Rattle.ordinal_store.specs.declared.store.Ordinal.{Ordinal}
use Rattle.blob_device.proofs.general.Results.{err_of}

-- what a store shows
abbrev show : (g : Over) → Ordinal g.row.A.Denot g.row.S.Denot → Store
show g = shown g.A.CodecFixed.SIZE g.S.Seal.seal_of g.A.Codec.refusal

pub returns-then-not-has : goal.returns-then-not-has
returns-then-not-has g c = got_none g.D.Device.Tells (show g c.args.self.now) g.A.Codec.spelling c.args.index (sight g.D.Device c.args.dev.now) (sym c.if-not-has.ensures) c.requires.usable

-- a held index has its slot in a buffer
pub returns-in_default : goal.returns-in_default
returns-in_default g c =
    let o = show g c.args.self.now in
    absurd (subst (λ (b : Option WriteBlob). IsSomeAnd b (λ u. place_of o.layout c.args.index + slot_size o.layout ≤ writing.size_of (writing.shown u))) (sym c.in_default.ensures.value) (c.requires.usable.room c.args.index (sym c.if-not-has.ensures)))

pub returns-in_err-slot : goal.returns-in_err-slot
returns-in_err-slot g c =
    got_failed g.D.Device.Tells (show g c.args.self.now) g.A.Codec.spelling c.args.index (sight g.D.Device c.args.dev.now) (sight g.D.Device c.read_part.new.dev) (sym c.if-not-has.ensures)
    c.requires.usable c.read_part.ensures.unchanged
    (subst (λ (k : Key). ReadsAtMost 1 k (g.D.Device.opened c.args.dev.now) (g.D.Device.opened c.read_part.new.dev)) (c.requires.usable.key (section_of (show g c.args.self.now).layout c.args.index) c.in-Some.buffer.now (sym c.in-Some.ensures.value)) c.read_part.ensures.reads)
    c.read_part.ensures.faults
    c.from_residual.result c.in_err-slot.field-0.0 (err_of c.from_residual.result c.in_err-slot.field-0.0 c.from_residual.ensures.1)
    (elim c.in_err-slot.ensures.cause [ inl mem ↦ inl (cc mem) | inr fault ↦ inr (cc fault.0, fault.1) ])

pub returns-in_err-value : goal.returns-in_err-value
returns-in_err-value g c =
    got_failed g.D.Device.Tells (show g c.args.self.now) g.A.Codec.spelling c.args.index (sight g.D.Device c.args.dev.now) (sight g.D.Device c.read_part.new.dev) (sym c.if-not-has.ensures)
    c.requires.usable c.read_part.ensures.unchanged
    (subst (λ (k : Key). ReadsAtMost 1 k (g.D.Device.opened c.args.dev.now) (g.D.Device.opened c.read_part.new.dev)) (c.requires.usable.key (section_of (show g c.args.self.now).layout c.args.index) c.in-Some.buffer.now (sym c.in-Some.ensures.value)) c.read_part.ensures.reads)
    c.read_part.ensures.faults
    c.from_residual-in_err-value.result c.in_err-value.field-0.0 (err_of c.from_residual-in_err-value.result c.in_err-value.field-0.0 c.from_residual-in_err-value.ensures.1)
    (inl (cc c.in_err-value.ensures.cause))

pub returns-in-Some-2 : goal.returns-in-Some-2
returns-in-Some-2 g c =
    let content = writing.bytes_of (writing.shown c.in-Some.buffer.now) (disk (g.D.Device.time c.args.dev.now) (writing.blob_key (writing.shown c.in-Some.buffer.now))).content in
    let stored = λ (t : g.D.Device.Tells). slot_read (show g c.args.self.now) (disk (g.D.Device.time c.args.dev.now)) c.args.index c.in-Some.buffer.now c.in_ok-slot.slot.items (sym c.if-not-has.ensures) (sym c.in-Some.ensures.value) (c.requires.usable.key (section_of (show g c.args.self.now).layout c.args.index) c.in-Some.buffer.now (sym c.in-Some.ensures.value))
    (c.in_ok-slot.ensures.bytes t ∙ ap (λ (a : ℕ). part_at content a (c.SIZE.result + 4)) c.place_of-at.ensures ∙ ap (λ (n : ℕ). part_at content (place_of (show g c.args.self.now).layout c.args.index) (n + 4)) c.SIZE.ensures) in
    got_value g.D.Device.Tells (show g c.args.self.now) g.A.Codec.spelling c.args.index (sight g.D.Device c.args.dev.now) (sight g.D.Device c.read_part.new.dev) (sym c.if-not-has.ensures)
    c.requires.usable c.read_part.ensures.unchanged
    (subst (λ (k : Key). ReadsAtMost 1 k (g.D.Device.opened c.args.dev.now) (g.D.Device.opened c.read_part.new.dev)) (c.requires.usable.key (section_of (show g c.args.self.now).layout c.args.index) c.in-Some.buffer.now (sym c.in-Some.ensures.value)) c.read_part.ensures.reads)
    c.read_part.ensures.faults
    c.in-Some-2.value c.in_ok-slot.slot.items stored
    (subst (λ (r : Option g.row.A.Denot). MatchOption r (HasValue (show g c.args.self.now).layout c.in_ok-slot.slot.items → ⊥) (λ v. IsSealed (show g c.args.self.now).layout c.in_ok-slot.slot.items (g.A.Codec.spelling v))) c.in-Some-2.is
    (subst (λ (b : List ℕ). MatchOption c.in_ok-value.field-0 (HasValue (show g c.args.self.now).layout b → ⊥) (λ v. IsSealed (show g c.args.self.now).layout b (g.A.Codec.spelling v))) c.as_slice.ensures.value (c.in_ok-value.ensures.value (show g c.args.self.now).layout.partition (show g c.args.self.now).layout.items)))

pub returns : goal.returns
returns g c =
    let content = writing.bytes_of (writing.shown c.in-Some.buffer.now) (disk (g.D.Device.time c.args.dev.now) (writing.blob_key (writing.shown c.in-Some.buffer.now))).content in
    let stored = λ (t : g.D.Device.Tells). slot_read (show g c.args.self.now) (disk (g.D.Device.time c.args.dev.now)) c.args.index c.in-Some.buffer.now c.in_ok-slot.slot.items (sym c.if-not-has.ensures) (sym c.in-Some.ensures.value) (c.requires.usable.key (section_of (show g c.args.self.now).layout c.args.index) c.in-Some.buffer.now (sym c.in-Some.ensures.value))
    (c.in_ok-slot.ensures.bytes t ∙ ap (λ (a : ℕ). part_at content a (c.SIZE.result + 4)) c.place_of-at.ensures ∙ ap (λ (n : ℕ). part_at content (place_of (show g c.args.self.now).layout c.args.index) (n + 4)) c.SIZE.ensures) in
    got_invalid g.D.Device.Tells (show g c.args.self.now) g.A.Codec.spelling c.args.index (sight g.D.Device c.args.dev.now) (sight g.D.Device c.read_part.new.dev) (sym c.if-not-has.ensures)
    c.requires.usable c.read_part.ensures.unchanged
    (subst (λ (k : Key). ReadsAtMost 1 k (g.D.Device.opened c.args.dev.now) (g.D.Device.opened c.read_part.new.dev)) (c.requires.usable.key (section_of (show g c.args.self.now).layout c.args.index) c.in-Some.buffer.now (sym c.in-Some.ensures.value)) c.read_part.ensures.reads)
    c.read_part.ensures.faults
    c.in_ok-slot.slot.items stored
    (subst (λ (r : Option g.row.A.Denot). MatchOption r (HasValue (show g c.args.self.now).layout c.in_ok-slot.slot.items → ⊥) (λ v. IsSealed (show g c.args.self.now).layout c.in_ok-slot.slot.items (g.A.Codec.spelling v))) c.in-None.is
    (subst (λ (b : List ℕ). MatchOption c.in_ok-value.field-0 (HasValue (show g c.args.self.now).layout b → ⊥) (λ v. IsSealed (show g c.args.self.now).layout b (g.A.Codec.spelling v))) c.as_slice.ensures.value (c.in_ok-value.ensures.value (show g c.args.self.now).layout.partition (show g c.args.self.now).layout.items)))
