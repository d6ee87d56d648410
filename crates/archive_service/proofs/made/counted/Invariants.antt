use Rattle.std.proofs.Common.{◌*◌, ◌^◌, map, take}
use Rattle.archives.specs.Machine.{replied}
use Rattle.archive_service.specs.MadeCounts.{AreCounted, AreUpTo}
use Rattle.archive_service.proofs.made.counted.Given as goal

-- the replies so far are counted, and each adds no more than a number of 64 bits
abbrev pub invariant-loop-reply : goal.invariant-loop-reply
invariant-loop-reply l = AreCounted l.counts (map (replied (λ v. v)) (take l.reply-index l.replies)) × AreUpTo (l.reply-index * 2 ^ 64) l.counts
