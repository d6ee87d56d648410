use Rattle.std.proofs.Common.{◌↔◌, ℕ, ◌+◌, ◌-◌, ◌/◌, ◌<◌, ◌∙◌, ap, sym, subst}
use Rattle.std.specs.Prelude.{◌^◌, min}
use Rattle.ordinal_store.proofs.RemovingLemmas.{last_parts}
use Rattle.ordinal_store.proofs.store.Ordinal.last_of.Goals as goal

pub returns : goal.returns
returns g c j small =
    let items = c.args.self.now.items in
    let is = c.saturating_add.ensures ∙ ap (λ (n : ℕ). min (n + (items - 1)) (2 ^ 64 - 1)) c.saturating_mul.ensures in
    subst (λ (last : ℕ). (last < j) ↔ (c.args.section < j / items)) (sym is) (last_parts items c.args.section c.requires j small)
