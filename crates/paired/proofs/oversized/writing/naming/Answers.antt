use Rattle.std.proofs.Common.{◌∙◌, sym, ap, subst}
use Rattle.paired.proofs.oversized.writing.naming.Goals as goal

pub returns-clause-accepted : goal.returns-clause-accepted
returns-clause-accepted g c = subst (λ x. g.I.Codec.accepted x tt) (sym c.with_location.ensures) (g.met.I.Record.anywhere c.args.entry c.args.offset c.args.size c.ranges.offset.fits c.ranges.size.fits c.requires)

pub returns-clause-place : goal.returns-clause-place
returns-clause-place g c =
    g.met.I.Record.spelled c.with_location.result (returns-clause-accepted g c) ∙ ap g.I.Record.location c.with_location.ensures
    ∙ g.met.I.Record.given c.args.entry c.args.offset c.args.size c.ranges.offset.fits c.ranges.size.fits
