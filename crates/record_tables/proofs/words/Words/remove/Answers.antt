use Rattle.std.proofs.Common.{◌≡◌, ◌∙◌, ap, sym, length, Some, rules}
use Rattle.std.specs.HashMap.{get}
use Rattle.std.proofs.lemmas.Bool.{eqb-true}
use Rattle.record_tables.specs.Words.{handles_in}
use Rattle.record_tables.proofs.WordLemmas.{others_left, removes, removes_last}
use Rattle.record_tables.proofs.words.Words.remove.Goals as goal

pub returns-then-not-is_empty : goal.returns-then-not-is_empty
returns-then-not-is_empty g c =
    let was : get g.W.PartialEq.eq c.args.self.now.handles c.args.word.now ≡ Some c.in-Some.handles.now = sym c.in-Some.ensures.value in
    let writes = (c.get_mut.follows.holds c.retain.new.self).3 (search rules) in
    removes g.met.W.Eq.laws c.args.word.now c.args.self.now _ c.in-Some.handles.now.items (Some c.retain.new.self) (ap handles_in was) writes.0 c.args.slot
    (others_left _ c.args.slot _ (λ h b t y told. search rules) _ _ c.retain.ensures.filtered)
    (λ some none. search rules)

pub returns : goal.returns
returns g c =
    let was : get g.W.PartialEq.eq c.args.self.now.handles c.args.word.now ≡ Some c.in-Some.handles.now = sym c.in-Some.ensures.value in
    let writes = (c.get_mut.follows.holds c.retain.new.self).3 (search rules) in
    removes_last g.met.W.Eq.laws c.args.word.now c.args.self.now _ c.args.slot c.in-Some.handles.now.items c.retain.new.self
    (record { alloc = c.args.self.now.alloc; handles = c.get_mut.follows.lender c.retain.new.self }) (ap handles_in was) writes.0 c.remove.ensures.updates.0
    (eqb-true (length c.retain.new.self.items) 0 (sym c.is_empty.ensures ∙ c.if-not-is_empty.false))
    (others_left _ c.args.slot _ (λ h b t y told. search rules) _ _ c.retain.ensures.filtered)
