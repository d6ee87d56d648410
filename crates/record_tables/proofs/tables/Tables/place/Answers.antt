use Rattle.std.proofs.Common.{◌≡◌, ℕ, Some, slice_get, subst, sym, arith}
use Rattle.std.proofs.lemmas.Option.{slice_get_within}
use Rattle.record_tables.proofs.tables.Tables.place.Goals as goal

pub section-requires : goal.section-requires
section-requires g c = omega (arith, slice_get_within c.args.self.now.slots.sections.items _ c.requires.0 c.requires.1.named, c.slot.ensures)

pub returns : goal.returns
returns g c = record {
  section = subst (λ (x : ℕ). slice_get c.args.self.now.slots.sections.items x ≡ Some c.section.result) c.slot.ensures c.section.ensures;
  position = sym c.position.ensures;
}
