use Rattle.std.proofs.Common.{◌≡◌, ◌+◌, ◌≤◌, ℕ, ap, subst, arith}
use Rattle.std.specs.Option.{option_copied}
use Rattle.section_manager.specs.declared.journal.Error.TheVariants.{Corruption}
use Rattle.section_manager.specs.managing.Managed as managed
use Rattle.paired.specs.glob.Sections.{section_size}
use Rattle.paired.specs.OpeningRefusing.{IsOutside}
use Rattle.paired.proofs.opening.StartCauses.{error_back}
use Rattle.paired.proofs.oversized.opening.check_value.Goals as goal
use Rattle.blob_device.proofs.general.Results.{err_of}

pub returns-clause-within : goal.returns-clause-within
returns-clause-within g c v is =
    let size : ℕ = section_size (managed.shown c.args.values.now.manager) c.args.section in
    let one : c.in-Some.item.now ≡ v = cc (ap option_copied c.in-Some.is, is) in
    let ends = c.in_ok-end_within.ensures.end in
    subst (λ x. (g.I.Record.location x).0 + (g.I.Record.location x).1 ≤ size) one
    (subst (λ (p : ℕ × ℕ). p.0 + p.1 ≤ size) c.value_location.ensures (omega (arith, ends.0, ends.1, c.in_ok-size.ensures.size)))

pub returns-in_err-end_within-clause-damage : goal.returns-in_err-end_within-clause-damage
returns-in_err-end_within-clause-damage g c x is =
    let r = c.from_residual-in_err-end_within.result in
    let e = c.in_err-end_within.field-0.0 in
    let w = c.in_err-end_within.ensures.damage x (error_back r e (err_of r e c.from_residual-in_err-end_within.ensures.1) (Corruption x) is) in (
      w.0,
      (
        c.in-Some.item.now,
        ap option_copied c.in-Some.is,
        subst (λ (p : ℕ × ℕ). IsOutside p (section_size (managed.shown c.args.values.now.manager) c.args.section) x) c.value_location.ensures
            (subst (λ (n : ℕ). IsOutside c.value_location.result n x) c.in_ok-size.ensures.size w.1),
      ),
    )

pub returns-in_err-size-clause-damage : goal.returns-in_err-size-clause-damage
returns-in_err-size-clause-damage g c x is = absurd (omega (arith, c.requires, c.in_err-size.ensures.guard.0 c.in_err-size.ensures.cause))

pub returns-in_err-size-clause-cause : goal.returns-in_err-size-clause-cause
returns-in_err-size-clause-cause g c = absurd (omega (arith, c.requires, c.in_err-size.ensures.guard.0 c.in_err-size.ensures.cause))
