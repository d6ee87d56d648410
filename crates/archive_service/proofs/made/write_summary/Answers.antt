use Rattle.std.proofs.Common.{◌++◌, map, ap, ◌∙◌, subst}
use Rattle.archives.specs.Machine.{replied}
use Rattle.archive_service.specs.MadeCounts.{AreCounted}
use Rattle.archive_service.proofs.made.write_summary.Goals as goal

pub returns : goal.returns
returns c =
    let counted = subst (λ l. AreCounted c.counted.result (map (replied (λ v. v)) l)) c.as_slice.ensures c.counted.ensures in
    c.in_ok-extend_from_slice.ensures.items ∙ ap (λ t. c.args.out.now.items ++ t) (c.as_bytes.ensures.value ∙ c.in_ok-line.ensures (map (replied (λ v. v)) c.args.replies.now) counted)
