use Rattle.std.proofs.Common.{◌≡◌, ◌<◌, ◌^◌, None, inl, inr, ◌∙◌, ap, arith}
use Rattle.section_manager.specs.managing.Managed.{shown}
use Rattle.paired.proofs.glob.Glob.init.Goals as goal
use Rattle.blob_device.proofs.general.Options.{none_or_value, some_there}

pub returns-clause-unopened : goal.returns-clause-unopened
returns-clause-unopened g c t s =
    let r = shown c.in_ok-recovery.recovery.manager in
    let says = c.in_ok-recovery.ensures in
    let none : r.unopened s ≡ None = elim (none_or_value (r.unopened s)) [
      | inl none ↦ none
      | inr some ↦
          let is = some_there (r.unopened s) some.0 some.1 in
          let small : s < 2 ^ 64 = says.over.over.opened_list.number s (inr is) in
          absurd (omega (arith, small, ((says.unopened t s small).0 is).1))
    ] in
    ap (λ m. (shown m).unopened s) c.from.ensures.0 ∙ none
