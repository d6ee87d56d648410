use Rattle.std.proofs.Common.{◌≡◌, ◌∙◌, sym, subst, ℕ, refl, List, [], length, Contains, arith}
use Rattle.std.proofs.lemmas.List.Elements.{Contains-push}
use Rattle.record_tables.proofs.SlotLemmas.{no_items, taken_again, taken_new}
use Rattle.record_tables.proofs.slots.Slots.take.Goals as goal

pub index_mut-requires : goal.index_mut-requires
index_mut-requires c =
    let was = c.requires.slots.made c.in-Some.slot (subst (λ (xs : List ℕ). Contains xs c.in-Some.slot) (sym c.in-Some.ensures.items) (Contains-push c.pop.new.self.items c.in-Some.slot)) in
    omega (arith, was, c.args.self.now.sections.ok.0)

pub returns-in-Some : goal.returns-in-Some
returns-in-Some c = taken_again c.args.section c.in-Some.slot c.args.self.now _ c.requires.slots c.in-Some.ensures.items refl (omega (arith, c.in-Some.ensures.capacity))

pub returns : goal.returns
returns c =
    let none : c.args.self.now.free.items ≡ [] = no_items c.args.self.now.free.items (omega (arith, c.in_default.ensures.cases.0, c.args.self.now.free.ok.0)) in
    let left : c.pop.new.self.items ≡ [] = no_items c.pop.new.self.items (omega (arith, c.in_default.ensures.cases.1, c.pop.new.self.ok.0)) in
    let next : c.len-slot.result ≡ length c.args.self.now.sections.items = c.len-slot.ensures ∙ c.args.self.now.sections.ok.0 in
    taken_new c.args.section c.len-slot.result c.args.self.now _ c.requires.slots next none (c.reserve.ensures.items ∙ left) c.in_ok-push.ensures.items
    (omega (arith, c.in_ok-reserve.ensures.ok, next)) (c.requires.few none)
