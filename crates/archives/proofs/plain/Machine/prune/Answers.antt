use Rattle.std.proofs.Common.{◌≡◌, ◌∙◌, ap, refl, rules, ℕ, ◌-◌, ◌%◌, filter, nat_le, arith}
use Rattle.std.proofs.lemmas.Bool.{le-leb, lt-leb}
use Rattle.std.proofs.lemmas.Fn.{filter_same}
use Rattle.std.proofs.lemmas.Nat.{div-add-mod'}
use Rattle.archives.specs.Machine.{section_of}
use Rattle.archives.specs.plain.Machine.{state_of, state_with}
use Rattle.archives.proofs.machine.Changes.{prune_idle, prune_more}
use Rattle.archives.proofs.plain.Machine.prune.Goals as goal

pub returns-then-start-self : goal.returns-then-start-self
returns-then-start-self g c =
    let m = c.args.self.now in
    let starts : c.args.bound - c.args.bound % m.items_per_section ≡ section_of m.items_per_section c.args.bound = omega (arith, div-add-mod' c.args.bound m.items_per_section) in
    record {
      done = refl;
      state = prune_idle m.items_per_section c.args.bound (state_of g.K.Key.key_bytes m) (le-leb (section_of m.items_per_section c.args.bound) m.floor (omega (arith, starts, c.if-start-self.true)));
      same = refl;
    }

pub returns : goal.returns
returns g c =
    let m = c.args.self.now in
    let kb = g.K.Key.key_bytes in
    let n : ℕ = m.items_per_section in
    let start : ℕ = c.args.bound - c.args.bound % n in
    let starts : start ≡ section_of n c.args.bound = omega (arith, div-add-mod' c.args.bound n) in
    let kept : c.retain.new.self.items ≡ filter (λ q. nat_le start q.index) m.items.items = filter_same _ _ _ (λ x b f' k. search rules) _ _ c.retain.ensures.filtered in
    record {
      done = refl;
      state = ap (state_with kb n start m.is_open) kept ∙ ap (λ (s : ℕ). state_with kb n s m.is_open (filter (λ q. nat_le s q.index) m.items.items)) starts
          ∙ prune_more kb n c.args.bound m.floor m.is_open m.items.items (lt-leb (section_of n c.args.bound) m.floor (omega (arith, starts, c.if-start-self.false)));
      same = refl;
    }
