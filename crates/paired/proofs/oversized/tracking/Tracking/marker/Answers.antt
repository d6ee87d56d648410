use Rattle.std.proofs.Common.{◌∙◌, sym, ap}
use Rattle.std.specs.Prelude.{unwrap_or}
use Rattle.paired.proofs.tracking.Lemmas.{marker_at}
use Rattle.paired.proofs.oversized.tracking.Tracking.marker.Goals as goal

pub returns : goal.returns
returns g c =
    sym (marker_at c.args.self.now.metadata.entries.entries c.marker_key.result c.args.section c.ranges.section.fits c.marker_key.ensures
    ∙ ap (λ o. unwrap_or o 0) (sym c.get.ensures ∙ sym c.copied.ensures) ∙ sym c.unwrap_or.ensures)
