-- `c.cfg-1.given` is what the only arm of the match on the kind is told: the configuration, and that the store is of it.
use Rattle.archive_service.proofs.serving.serve.Goals as goal

pub serve_from-requires-clause-valid : goal.serve_from-requires-clause-valid
serve_from-requires-clause-valid g c =
    let valid = rw c.cfg-1.given.1 at c.requires.valid in
    rw c.cfg-1.given.1 valid

pub serve_from-requires-clause-values : goal.serve_from-requires-clause-values
serve_from-requires-clause-values g c =
    let values = rw c.cfg-1.given.1 at c.requires.values in
    rw c.cfg-1.given.1 values

pub returns : goal.returns
returns g c =
    let serves = rw c.cfg-1.given.1 at c.serve_from.ensures in
    rw c.cfg-1.given.1 serves
