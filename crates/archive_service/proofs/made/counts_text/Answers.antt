use Rattle.std.proofs.Common.{codes, decimal, string_bytes}
use Rattle.archive_service.proofs.MadeLemmas.{prefix_is}
use Rattle.archive_service.proofs.made.counts_text.Goals as goal

pub returns : goal.returns
returns c =
    let counts = c.args.counts.now in
    prefix_is (codes "made ") (decimal c.args.n) (codes " found ") (decimal counts.values) (codes " keys ") (decimal counts.keys) (string_bytes c.in_ok-found.found)
    (codes " ranges ") (decimal counts.ranges) (codes " bytes ") (decimal counts.bytes) (string_bytes c.in_ok-text.text) c.in_ok-found.ensures.ok c.in_ok-text.ensures.ok
