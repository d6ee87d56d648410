use Rattle.std.proofs.Common.{string_bytes}
use Rattle.archive_service.proofs.MadeLemmas.{line_is}
use Rattle.archive_service.proofs.made.summary_line.Goals as goal

pub returns : goal.returns
returns c = λ replies are.
    line_is c.args.n c.args.counts.now replies (string_bytes c.in_ok-text.text) (string_bytes c.in_ok-first.first) (string_bytes c.in_ok-last.last) (string_bytes c.in_ok-line.line) are
    c.in_ok-text.ensures c.in_ok-first.ensures c.in_ok-last.ensures c.in_ok-line.ensures.ok
